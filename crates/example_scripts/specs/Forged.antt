-- A WRITE with one field at a time forged, and a prefix of it.
use Rattle.std.specs.Prelude.{ℕ, List, [], ◌∷◌, Some, None, Option, true, codes}
use Rattle.protocol.specs.Wire.{Packet}
use Rattle.example_scripts.specs.SaidDatagrams.{octets}

-- a WRITE of four bytes to queue pair 020001
abbrev pub write : ℕ → ℕ → ℕ → Option Packet
write psn rkey count = Some (record { opcode = 10; dest = 131073; ack_request = true; psn = psn; reth = Some (record { address = 8192; rkey = rkey; length = count }); imm = None; aeth = None; atomic = None; old = None; resume = None; payload = 222 ∷ 173 ∷ 190 ∷ 239 ∷ [] })

-- its first fifteen bytes
abbrev pub front : List ℕ
front = octets (codes "0a00ffff0002000180000064000000")

abbrev pub forged : List (List ℕ)
forged =
    octets (codes "0a00ffff000200018000006400000000000020000200000200000004deadbeef00000000")
    ∷ octets (codes "0a00ffff000200018000006400000000000020000200000300000005deadbeef00000000")
    ∷ octets (codes "0a00ffff000200018000006500000000000020000200000300000004deadbeef00000000")
    ∷ []

abbrev pub said : List (Option Packet)
said = write 100 33554434 4 ∷ write 100 33554435 5 ∷ write 101 33554435 4 ∷ []
