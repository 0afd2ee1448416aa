use Rattle.std.proofs.Common.{◌<◌, slice_index, arith}
use Rattle.roce_headers.proofs.Ranges.{answer_fits}
use Rattle.roce_headers.proofs.reading.decode.Goals as goal

pub returns-clause-fits : goal.returns-clause-fits
returns-clause-fits c =
    answer_fits c.args.bytes.now (λ k. let byte : slice_index c.args.bytes.now k < 256 = omega (arith, c.type_inv.bytes k) in byte) c.read.result c.read.ensures.whole c.read.ensures.read
