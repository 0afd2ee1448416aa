use Rattle.std.proofs.Common.{◌≡◌, ◌++◌, take}
use Rattle.script_lang.specs.Printed.{left_lines}
use Rattle.script_lang.proofs.print.put_left_lines.Given as goal

abbrev pub invariant-loop-end : goal.invariant-loop-end
invariant-loop-end l = l.out.items ≡ l.initial.out.items ++ left_lines (take l.end-index l.ends)
