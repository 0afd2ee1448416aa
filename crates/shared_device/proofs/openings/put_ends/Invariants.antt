use Rattle.std.proofs.Common.{◌≡◌}
use Rattle.protocol.specs.Replay.{replay}
use Rattle.order_rules.specs.Openings.{ends_of}
use Rattle.shared_device.proofs.openings.put_ends.Given as goal

abbrev pub invariant-loop-i : goal.invariant-loop-i
invariant-loop-i l = l.device ≡ replay l.fn.device (ends_of l.side.context l.side.other l.side.terms 1 l.i)
