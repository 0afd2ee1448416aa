use Rattle.std.specs.Prelude.{refl}
use Rattle.std.proofs.Common.{arith}
use Rattle.protocol.specs.declared.wire.Headers.TheVariants as headers
use Rattle.protocol.specs.Evaluate.{computed}
use Rattle.protocol.specs.Wire.{loaded}
use Rattle.example_rules.proofs.protocol_runs.packet_spelled.Goals as goal

pub returns : goal.returns
unfolding computed
returns c = record {
  layout = loaded headers.Reth;
  known = refl;
  whole = omega arith;
  opcode = refl;
  version = refl;
  dest = refl;
  ack_request = refl;
  psn = refl;
  reth = refl;
  imm = refl;
  aeth = refl;
  syndrome = refl;
  atomic = refl;
  old = refl;
  resume = refl;
  allowed = refl;
  words = refl;
  fits = omega arith;
  padded = omega arith;
  payload = refl;
}
