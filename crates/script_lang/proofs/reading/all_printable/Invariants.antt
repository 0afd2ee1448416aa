use Rattle.std.proofs.Common.{◌≡◌, take}
use Rattle.std.specs.List.{list_all}
use Rattle.script_lang.specs.Lines.{is_printable}
use Rattle.script_lang.proofs.reading.all_printable.Given as goal

abbrev pub invariant-loop-b : goal.invariant-loop-b
invariant-loop-b l = l.all ≡ list_all is_printable (take l.b-index l.line)
