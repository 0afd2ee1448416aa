use Rattle.std.proofs.Common.{arith}
use Rattle.dump_reader.proofs.Dumped.{dumps_of, lawful_of}
use Rattle.context_dump.proofs.reader.read_image.Goals as goal

pub returns-clause-dumps : goal.returns-clause-dumps
returns-clause-dumps c = dumps_of c.args.bytes.now (λ k. let fits = c.type_inv.bytes k in omega arith) _ c.read_rest.result c.read_rest.ensures.image

pub returns-clause-lawful : goal.returns-clause-lawful
returns-clause-lawful c = lawful_of c.args.bytes.now (λ k. let fits = c.type_inv.bytes k in omega arith) _ c.read_rest.result c.read_rest.ensures.image
