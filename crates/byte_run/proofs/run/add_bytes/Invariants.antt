use Rattle.std.proofs.Common.{◌≡◌, ◌+◌, ◌-◌, ◌≤◌, ◌++◌, length, take}
use Rattle.byte_run.specs.Pages.{joined, IsRun}
use Rattle.byte_run.proofs.run.add_bytes.Given as goal

abbrev pub invariant-loop-done : goal.invariant-loop-done
invariant-loop-done l = (l.done ≤ length l.bytes) × IsRun l.pages.items (l.at + l.done) × (take (l.at + l.done) (joined l.pages.items) ≡ take l.at (joined l.initial.pages.items) ++ take l.done l.bytes)

abbrev pub decreases-loop-done : goal.decreases-loop-done
decreases-loop-done l = length l.bytes - l.done
