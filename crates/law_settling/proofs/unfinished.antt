mod Carried
mod Listed
mod Reasons
mod Leaving
