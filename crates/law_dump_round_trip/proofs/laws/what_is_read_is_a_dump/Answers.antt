use Rattle.std.proofs.Common.{arith}
use Rattle.law_dump_round_trip.proofs.Exact.{bytes_of}
use Rattle.law_dump_round_trip.proofs.Whole.{read_dumps}
use Rattle.law_dump_round_trip.proofs.laws.what_is_read_is_a_dump.Goals as goal

pub returns : goal.returns
returns c = λ image place rest h. read_dumps c.args.bytes.now (bytes_of c.args.bytes.now (λ k. let fits = c.type_inv.bytes k in omega arith)) image place rest h
