use Rattle.std.proofs.Common.{arith, refl, false}
use Rattle.protocol.specs.declared.wire.Headers.TheVariants as headers
use Rattle.protocol.specs.Wire.{layout_of}
use Rattle.device_core.proofs.arriving.stopped_datagram.Goals as goal

pub returns-clause-fits : goal.returns-clause-fits
unfolding layout_of
returns-clause-fits c = record {
  layout = record { headers = headers.Aeth; payload = false };
  known = refl;
  dest = c.requires.peer;
  psn = c.requires.psn;
  unnumbered = tt;
  reth = refl;
  imm = refl;
  aeth = refl;
  atomic = refl;
  old = refl;
  resume = refl;
  reth_fits = tt;
  imm_fits = tt;
  aeth_fits = record { syndrome = refl; msn = omega (arith, c.from.ensures, c.requires.moves) };
  atomic_fits = tt;
  old_fits = tt;
  resume_fits = tt;
  allowed = refl;
  payload = omega arith;
}
