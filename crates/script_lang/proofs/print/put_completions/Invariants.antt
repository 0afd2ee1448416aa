use Rattle.std.proofs.Common.{◌≡◌, ◌++◌, take}
use Rattle.script_lang.specs.Printed.{completion_lines}
use Rattle.script_lang.proofs.print.put_completions.Given as goal

abbrev pub invariant-loop-completion : goal.invariant-loop-completion
invariant-loop-completion l = l.out.items ≡ l.initial.out.items ++ completion_lines (take l.completion-index l.completions)
