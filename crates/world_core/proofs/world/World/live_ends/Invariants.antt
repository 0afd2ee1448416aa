use Rattle.std.proofs.Common.{◌≡◌, take}
use Rattle.std.specs.Prelude.{flat_map}
use Rattle.device_core.specs.Readings.{live_ends}
use Rattle.world_core.proofs.world.World.live_ends.Given as goal

abbrev pub invariant-loop-place : goal.invariant-loop-place
invariant-loop-place l = l.live.items ≡ flat_map live_ends (take l.place l.self.devices)
