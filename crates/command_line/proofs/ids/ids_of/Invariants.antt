use Rattle.std.proofs.Common.{map}
use Rattle.std.specs.String.{string_bytes}
use Rattle.command_line.proofs.IdLists.{IsReading}
use Rattle.command_line.proofs.ids.ids_of.Given as goal

abbrev pub invariant-loop-word : goal.invariant-loop-word
invariant-loop-word l = IsReading (map string_bytes l.words) l.word-index l.ids.items
