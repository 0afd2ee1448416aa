use Rattle.std.proofs.Common.{rules, arith, ◌≡◌, ◌+◌, refl}
use Rattle.protocol.specs.Replay.{replay}
use Rattle.shared_device.proofs.Opening.{ended_more, ended_none, joins}
use Rattle.shared_device.proofs.openings.put_ends.Goals as goal

pub loop-i-init : goal.loop-i-init
loop-i-init c = ended_none _ _ _ _

pub loop-i-preserved : goal.loop-i-preserved
loop-i-preserved c =
    let more : c.join_end.new.device ≡ replay c.loop-i.device (joins c.args.side.now.context c.args.side.now.other c.args.side.now.terms (c.loop-i.i + 1)) = search rules in
    ended_more c.args.device.now c.loop-i.device c.join_end.new.device c.args.side.now.context c.args.side.now.other c.args.side.now.terms c.loop-i.i (c.loop-i.i + 1) refl c.loop-i.invariant more
