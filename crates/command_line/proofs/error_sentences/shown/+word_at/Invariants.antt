use Rattle.std.proofs.Common.{length}
use Rattle.command_line.proofs.error_sentences.shown.+word_at.Given as goal

abbrev pub decreases-word_at : goal.decreases-word_at
decreases-word_at l = length l.words.now
