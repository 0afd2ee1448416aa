use Rattle.std.proofs.Common.{◌≡◌, take}
use Rattle.protocol.specs.DeviceStep.{highest}
use Rattle.device_core.specs.Coming.{pairs_of}
use Rattle.device_core.proofs.coming.highest_pair.Given as goal

abbrev pub invariant-loop-region : goal.invariant-loop-region
invariant-loop-region l = l.highest ≡ highest l.id 8388608 (pairs_of (take l.region-index l.regions)) l.count
