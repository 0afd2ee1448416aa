use Rattle.std.proofs.Common.{◌≡◌, take}
use Rattle.protocol.specs.DeviceStep.{highest}
use Rattle.device_core.specs.Coming.{numbers_of_ends}
use Rattle.device_core.proofs.coming.highest_number.Given as goal

abbrev pub invariant-loop-end : goal.invariant-loop-end
invariant-loop-end l = l.highest ≡ highest l.id 65536 (numbers_of_ends (take l.end-index l.ends)) l.count
