use Rattle.std.proofs.Common.{rules, arith}
use Rattle.std.proofs.lemmas.Grind.{common_steps}
use Rattle.device_differences.specs.Differences.{posted_difference}
use Rattle.end_queues.specs.Untold.{posted_in}
use Rattle.device_differences.proofs.Found.{found-mapped, passed-mapped, end-mapped}
use Rattle.device_differences.proofs.requests.requests.Goals as goal

pub returns-then-is_some : goal.returns-then-is_some
returns-then-is_some c = found-mapped posted_difference (posted_in c.args.pool.now) (posted_in c.args.other_pool.now) c.args.a.now.items c.args.b.now.items c.loop-i.i c.unwrap-x.result.now c.unwrap-y.result.now c.posted-found.result (grind (arith, common_steps)) (grind (arith, common_steps)) c.posted-found.ensures (search rules) c.loop-i.invariant

pub loop-i-preserved : goal.loop-i-preserved
loop-i-preserved c = passed-mapped posted_difference (posted_in c.args.pool.now) (posted_in c.args.other_pool.now) c.args.a.now.items c.args.b.now.items c.loop-i.i c.unwrap-x.result.now c.unwrap-y.result.now c.posted-found.result (grind (arith, common_steps)) (grind (arith, common_steps)) c.posted-found.ensures (search rules) c.loop-i.invariant

pub returns : goal.returns
returns c = end-mapped posted_difference (posted_in c.args.pool.now) (posted_in c.args.other_pool.now) c.args.a.now.items c.args.b.now.items c.loop-i.i c.apart.result (omega arith) (grind (arith, common_steps)) c.loop-i.invariant
