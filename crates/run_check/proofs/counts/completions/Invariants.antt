use Rattle.std.proofs.Common.{◌≡◌, take}
use Rattle.run_check.specs.Gathered.{completions_in}
use Rattle.run_check.proofs.counts.completions.Given as goal

abbrev pub invariant-loop-held : goal.invariant-loop-held
invariant-loop-held l = l.count ≡ completions_in (take l.held-index l.receipts)
