use Rattle.std.proofs.Common.{◌%◌, sym, refl}
use Rattle.memory_keys.proofs.Spots.{touched-is}
use Rattle.context_core.proofs.requests.touched.Goals as goal

pub returns : goal.returns
returns c = sym (touched-is c.args.spot c.div_ceil.result (c.args.spot.off % 4096) c.args.spot.length c.if-spot-eq0.false c.div_ceil.ensures refl refl)
