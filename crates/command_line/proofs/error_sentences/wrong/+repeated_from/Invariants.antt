use Rattle.std.proofs.Common.{length}
use Rattle.command_line.proofs.error_sentences.wrong.+repeated_from.Given as goal

abbrev pub decreases-repeated_from : goal.decreases-repeated_from
decreases-repeated_from l = length l.words.now
