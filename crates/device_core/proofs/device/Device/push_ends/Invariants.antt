use Rattle.std.proofs.Common.{◌≡◌, ◌++◌, take}
use Rattle.std.specs.Prelude.{map, flat_map}
use Rattle.context_core.specs.Links.{live_end}
use Rattle.device_core.proofs.device.Device.push_ends.Given as goal

abbrev pub invariant-loop-place : goal.invariant-loop-place
invariant-loop-place l = l.live.items ≡ l.fn.live.items ++ flat_map (λ c. map (live_end c) c.ends) (take l.place l.self.contexts)
