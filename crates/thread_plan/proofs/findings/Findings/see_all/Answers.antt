use Rattle.std.proofs.Common.{rules, arith, ◌≡◌, true}
use Rattle.thread_plan.proofs.Seen.{all_seen_more, all_seen_none}
use Rattle.thread_plan.proofs.findings.Findings.see_all.Goals as goal

pub loop-i-init : goal.loop-i-init
loop-i-init c = all_seen_none _ _

pub loop-i-preserved : goal.loop-i-preserved
loop-i-preserved c =
    let seen : c.see_worker.result ≡ true = search rules in
    let same : c.in-Ok.worker ≡ c.loop-i.i = search rules in
    let one = rw (c.adds_of.ensures, c.as_slice.ensures, same) at (c.see_worker.ensures seen) in
    all_seen_more c.args.plan.now c.loop-i.i c.args.receipts.now c.index-receipts-i.result c.args.self.now c.loop-i.self c.see_worker.new.self (omega arith) c.index-receipts-i.is c.loop-i.invariant one
