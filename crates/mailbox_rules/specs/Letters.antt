-- The 16 bytes that head a letter on its way (this project's choice).
use Rattle.std.specs.Prelude.{ℕ, ◌==◌, Bool, List, ◌∷◌, ◌++◌, length, nat_lt, if◌then◌else◌}
use Rattle.protocol.specs.Bytes.{big_bytes, byte_at, number_at}
use Rattle.mailbox_rules.specs.declared.letters.Header.{Header}

-- bytes of a body that a Send carries behind its header; a longer body is fetched by a Read (a rendezvous)
abbrev pub most_eager : ℕ
most_eager = 4080

-- bytes of a header
abbrev pub header_length : ℕ
header_length = 16

-- the body is fetched by a Read
abbrev pub is_rendezvous : List ℕ → Bool
is_rendezvous body = nat_lt most_eager (length body)

-- a header as bytes: kind 1 or 2, three zeros, then tag, length and remote key, each of four bytes, the most significant first
unfoldable pub header_bytes : Header → List ℕ
header_bytes h = (if h.fetched then 2 else 1) ∷ 0 ∷ 0 ∷ 0 ∷ big_bytes 4 h.tag ++ (big_bytes 4 h.length ++ big_bytes 4 h.rkey)

-- what the first bytes of a message say as a header
unfoldable pub header_of : List ℕ → Header
header_of bytes = record { fetched = byte_at 0 bytes == 2; tag = number_at 4 4 bytes; length = number_at 8 4 bytes; rkey = number_at 12 4 bytes }
