-- Datagrams to queue pair 020001.
use Rattle.std.specs.Prelude.{ℕ, List, ◌++◌, codes, replicate}
use Rattle.example_scripts.specs.SaidArrivals.{octets}

-- a WRITE of four bytes to address 8192
abbrev pub write : List ℕ
write = octets (codes "0a00ffff0002000180000064000000000000200002000003" ++ codes "00000004deadbeef00000000")

-- its first fifteen bytes
abbrev pub cut : List ℕ
cut = octets (codes "0a00ffff0002000180000064000000")

-- the same under the local key, with a length of 5, with one that the region does not hold, to another queue pair, and with
-- the packet number past the expected one
abbrev pub under_the_local_key : List ℕ
under_the_local_key = octets (codes "0a00ffff0002000180000064000000000000200002000002" ++ codes "00000004deadbeef00000000")

abbrev pub of_another_length : List ℕ
of_another_length = octets (codes "0a00ffff0002000180000064000000000000200002000003" ++ codes "00000005deadbeef00000000")

abbrev pub past_the_region : List ℕ
past_the_region = octets (codes "0a00ffff0002000180000064000000000000200002000003" ++ codes "00000041deadbeef00000000")

abbrev pub to_another : List ℕ
to_another = octets (codes "0a00ffff0002000280000064000000000000200002000003" ++ codes "00000004deadbeef00000000")

abbrev pub ahead : List ℕ
ahead = octets (codes "0a00ffff0002000180000065000000000000200002000003" ++ codes "00000004deadbeef00000000")

-- a SEND of four bytes, and a FetchAdd on the word at address 8200
abbrev pub send : List ℕ
send = octets (codes "0400ffff0002000180000064deadbeef00000000")

abbrev pub fetch_add : List ℕ
fetch_add = octets (codes "1400ffff0002000180000064000000000000200802000003" ++ codes "0000000000000001000000000000000000000000")

-- an ACK, and the response of a Read
abbrev pub acknowledge : List ℕ
acknowledge = octets (codes "1100ffff00020001000000c81f00000000000000")

abbrev pub read_response : List ℕ
read_response = octets (codes "1000ffff00020001000000c81f000001deadbeef00000000")

-- the first packet of a WRITE of 300 bytes to address 8292, and its last one
abbrev pub write_first : List ℕ
write_first = octets (codes "0600ffff0002000100000064000000000000206402000003" ++ codes "0000012c") ++ (replicate 256 1 ++ replicate 4 0)

abbrev pub write_last : List ℕ
write_last = octets (codes "0800ffff0002000180000065") ++ (replicate 44 1 ++ replicate 4 0)

-- the first packet of a SEND
abbrev pub send_first : List ℕ
send_first = octets (codes "0000ffff0002000100000064") ++ (replicate 256 1 ++ replicate 4 0)
