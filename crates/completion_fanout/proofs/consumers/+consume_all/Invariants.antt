use Rattle.std.proofs.Common.{vec_len}
use Rattle.completion_fanout.proofs.consumers.+consume_all.Given as goal

abbrev pub decreases-consume_all : goal.decreases-consume_all
decreases-consume_all g l = vec_len l.rooms
