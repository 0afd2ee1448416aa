-- What datagrams say, and how that is written again.
use Rattle.std.specs.Prelude.{ℕ, ◌+◌, ◌-◌, ◌/◌, ◌%◌, ◌^◌, ◌≡◌, ◌==◌, ◌++◌, List, [], ◌∷◌, map, option_map, unwrap_or, Result, Ok, Err, sum_by, bytes_eq, if◌then◌else◌}
use Rattle.hex.specs.Hex.{decode_of}
use Rattle.hex.specs.declared.error.FromHexError.{FromHexError}
use Rattle.protocol.specs.Wire.{packet_of, wire_of}

-- the bytes of hexadecimal digits
abbrev pub if_decoded : Result (List ℕ) FromHexError → List ℕ
if_decoded (Ok bytes) = bytes
if_decoded (Err e) = []

abbrev pub octets : List ℕ → List ℕ
octets digits = if_decoded (decode_of digits)

-- what bytes say, written again, and no bytes where they are no datagram
unfoldable pub written : List ℕ → List ℕ
written bytes = unwrap_or (option_map wire_of (packet_of bytes)) []

-- each of these is a datagram, and is written as it was read
abbrev pub AreWrittenAsRead : List (List ℕ) → Type 0
AreWrittenAsRead datagrams = map written datagrams ≡ datagrams

-- a byte with one of its bits turned
abbrev pub turned : ℕ → ℕ → ℕ
turned byte bit = if byte / 2 ^ bit % 2 == 0 then byte + 2 ^ bit else byte - 2 ^ bit

-- the bit, where a datagram says the same with it turned
abbrev pub if_ignored : List ℕ → List ℕ → ℕ → List ℕ → ℕ → ℕ
if_ignored said front byte behind bit = if bytes_eq (written (front ++ turned byte bit ∷ behind)) said then 2 ^ bit else 0

-- the ignored bits of a byte
abbrev pub ignored_in : List ℕ → List ℕ → ℕ → List ℕ → ℕ
ignored_in said front byte behind = sum_by (if_ignored said front byte behind) (0 ∷ 1 ∷ 2 ∷ 3 ∷ 4 ∷ 5 ∷ 6 ∷ 7 ∷ [])

-- the ignored bits of each byte behind others
abbrev pub ignored_behind : List ℕ → List ℕ → List ℕ → List ℕ
ignored_behind said front [] = []
ignored_behind said front (byte ∷ behind) = ignored_in said front byte behind ∷ ignored_behind said (front ++ byte ∷ []) behind

-- the ignored bits of each byte of a datagram
unfoldable pub ignored_bits : List ℕ → List ℕ
ignored_bits bytes = ignored_behind (written bytes) [] bytes
