use Rattle.std.proofs.Common.{length}
use Rattle.command_line.proofs.serve_words.+read_from.Given as goal

-- each call has fewer words
abbrev pub decreases-read_from : goal.decreases-read_from
decreases-read_from l = length l.words.now
