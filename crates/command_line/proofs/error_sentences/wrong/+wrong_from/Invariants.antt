use Rattle.std.proofs.Common.{length}
use Rattle.command_line.proofs.error_sentences.wrong.+wrong_from.Given as goal

abbrev pub decreases-wrong_from : goal.decreases-wrong_from
decreases-wrong_from l = length l.words.now
