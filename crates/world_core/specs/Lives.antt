-- What settling looks at of a world (this project's choice).
use Rattle.std.specs.Prelude.{ℕ, ◌==◌, ◌&&◌, ◌||◌, Bool, List, flat_map}
use Rattle.rdma_types.specs.Lists.{some}
use Rattle.protocol.specs.Settle.{is_ended_image, is_ended_live}
use Rattle.protocol.specs.State.{World}
use Rattle.device_core.specs.Readings.{live_ends}
pub use Rattle.device_core.specs.Views.{LinkView, LiveEnd, link_view, live_end}
pub use Rattle.fabric.specs.Store.{is_open, is_pending}

-- the live ends, in order of devices, contexts and queue pairs
unfoldable pub live_list : World → List LiveEnd
live_list w = flat_map live_ends w.devices

-- an end with this number is in Error, live or carried
abbrev pub has_ended : World → ℕ → Bool
has_ended w n = is_ended_live w n || some (λ c. some (λ e. e.number == n && is_ended_image e) c.ends) w.carried
