-- What a datagram in memory says.
use Rattle.protocol.specs.Wire.{Packet}
use Rattle.roce_headers.specs.declared.datagram.Datagram.{Datagram}

-- what a datagram says, wherever its payload lies
abbrev pub packet : Datagram → Packet
packet d = record {
  opcode = d.opcode;
  dest = d.dest;
  ack_request = d.ack_request;
  psn = d.psn;
  reth = d.reth;
  imm = d.imm;
  aeth = d.aeth;
  atomic = d.atomic;
  old = d.old;
  resume = d.resume;
  payload = d.payload.now;
}
