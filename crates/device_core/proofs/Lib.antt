pub mod Laws
pub mod Pairs
pub mod Contexts
pub mod Indexes
pub mod Dones
pub mod Lookups
pub mod Helds
pub mod HuskNames
pub mod Stepping
pub mod Acting
pub mod Made
pub mod Adding
pub mod IndexAdds
pub mod NewDevices
pub mod FoundEnds
pub mod Arrivals
pub mod MadeEnds
mod Releases
mod Leavings
mod Withouts
mod Stops
mod Departures
mod Brought
mod Restores
mod Steps
mod Transmissions
mod Seen
mod LiveEnds
mod Copied
mod Told
mod Within
mod Numbered
mod NumberedEnds
mod EndPlaces
