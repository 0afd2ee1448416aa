use Rattle.std.proofs.Common.{arith}
use Rattle.completion_fanout.proofs.Dealt.{dealt_more}
use Rattle.completion_fanout.proofs.dealing.dealt.Goals as goal

pub loop-k-preserved : goal.loop-k-preserved
loop-k-preserved c = dealt_more c.args.consumers c.args.i c.args.completions.now c.loop-k.k _ _ _ (omega arith) c.loop-k.invariant c.in_ok-put_dealt.ensures
