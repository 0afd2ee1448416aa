-- Reading and writing datagrams, with all that they compute with opened.
use Rattle.std.specs.Prelude.{ℕ, List, Option}
use Rattle.hex.specs.Hex.{decode_pairs}
use Rattle.protocol.specs.Bytes as in_bytes
use Rattle.protocol.specs.Wire as in_wire
use Rattle.protocol.specs.Wire.{Packet}
use Rattle.example_scripts.specs.SaidDatagrams as in_said

unfoldable pub all_read : List ℕ → Option Packet
unfolding in_bytes.big_number in_bytes.big_bytes in_bytes.number_at in_bytes.bytes_at
    in_wire.layout_of in_wire.is_syndrome in_wire.layout_offence in_wire.offence_of in_wire.fields_of in_wire.packet_of
    decode_pairs
all_read bytes = in_wire.packet_of bytes

unfoldable pub all_written : List ℕ → List ℕ
unfolding all_read in_wire.padding in_wire.wire_of in_said.written in_said.ignored_bits
all_written bytes = in_said.ignored_bits bytes
