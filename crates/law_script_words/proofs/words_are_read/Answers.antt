use Rattle.law_script_words.proofs.Spoken.{words_fine, words_read}
use Rattle.law_script_words.proofs.words_are_read.Goals as goal

pub returns-clause-read : goal.returns-clause-read
returns-clause-read c = words_read

pub returns-clause-fine : goal.returns-clause-fine
returns-clause-fine c = words_fine
