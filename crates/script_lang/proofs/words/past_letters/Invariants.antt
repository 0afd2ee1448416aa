use Rattle.std.proofs.Common.{◌≡◌, ◌+◌, drop}
use Rattle.std.specs.List.{position_or_len}
use Rattle.script_lang.specs.Words.{is_space}
use Rattle.script_lang.proofs.words.past_letters.Given as goal

abbrev pub invariant-loop-i : goal.invariant-loop-i
invariant-loop-i l = l.i + position_or_len is_space (drop l.i l.line) ≡ l.at + position_or_len is_space (drop l.at l.line)
