use Rattle.std.proofs.Common.{rules, arith, ◌≡◌, ◌+◌, length, take, sym}
use Rattle.run_check.specs.Gathered.{completions_in, drained_by}
use Rattle.run_check.proofs.Telling.{completions_more, completions_none}
use Rattle.run_check.proofs.counts.completions.Goals as goal

pub loop-held-init : goal.loop-held-init
loop-held-init c = sym completions_none

pub loop-held-preserved : goal.loop-held-preserved
loop-held-preserved c =
    let all : completions_in (take (c.loop-held.held-index + 1) c.args.receipts.now) ≡ completions_in (take c.loop-held.held-index c.args.receipts.now) + length (drained_by c.held-item.result) = completions_more _ _ c.held-item.result (omega arith) c.held-item.is in
    let more : c.in-Some.more ≡ c.loop-held.count + length (drained_by c.held-item.result) = search rules in
    let before = c.loop-held.invariant in
    omega arith
