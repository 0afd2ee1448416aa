use Rattle.std.proofs.Common.{◌≡◌, ◌+◌, drop}
use Rattle.script_lang.specs.Words.{words_from}
use Rattle.script_lang.proofs.words.past_spaces.Given as goal

abbrev pub invariant-loop-i : goal.invariant-loop-i
invariant-loop-i l = words_from (l.i + 1) (drop l.i l.line) ≡ words_from (l.at + 1) (drop l.at l.line)
