use Rattle.std.proofs.Common.{◌≡◌, ◌++◌, take}
use Rattle.std.specs.Prelude.{flat_map}
use Rattle.dump_writer.specs.Text.{end_line}
use Rattle.dump_writer.proofs.text.put_ends.Given as goal

abbrev pub invariant-loop-end : goal.invariant-loop-end
invariant-loop-end l = l.out.items ≡ l.initial.out.items ++ flat_map end_line (take l.end-index l.ends)
