-- Packet numbers of posted requests, by recursion on the posted list: spans, first numbers, and the piece that a number
-- is (IBA 9.7). The packetless machine's steps do not look at them.
use Rattle.std.specs.Prelude.{ℕ, ◌+◌, ◌-◌, ◌*◌, ◌/◌, max, min, List, [], ◌∷◌, Option, Some, None, nat_lt, if◌then◌else◌, zero, suc}
use Rattle.rdma_types.specs.declared.requests.Shape.{Shape}
use Rattle.rdma_types.specs.Kinds.{is_atomic, lands, kind_of}
use Rattle.rdma_types.specs.Objects.{Posted}

-- one piece for each MTU begun, and one where there are no bytes
unfoldable pub pieces : ℕ → ℕ → ℕ
pieces length mtu = max 1 ((length + (mtu - 1)) / mtu)

-- how many numbers a request takes: an atomic one, a Read as many as it has responses, the others one for each piece
unfoldable pub span : Shape → ℕ → ℕ
span shape mtu = if is_atomic shape.kind then 1 else pieces shape.length mtu

-- how many numbers a posted request takes
abbrev pub span_of : Posted → ℕ → ℕ
span_of p mtu = span p.request.shape mtu

-- the length of piece k: the MTU, or what is left
abbrev pub piece_length : ℕ → ℕ → ℕ → ℕ
piece_length length k mtu = min mtu (length - k * mtu)

-- ---- numbers, counted from the number of the first packet of the list

-- the first number of request i: the sum of the spans of those before it
unfoldable pub first_number : List Posted → ℕ → ℕ → ℕ
first_number [] mtu i = 0
first_number (p ∷ ps) mtu zero = 0
first_number (p ∷ ps) mtu (suc i) = span_of p mtu + first_number ps mtu i

-- one past the last number
unfoldable pub end_number : List Posted → ℕ → ℕ
end_number [] mtu = 0
end_number (p ∷ ps) mtu = span_of p mtu + end_number ps mtu

-- the place of the request that number n belongs to: how many requests have all their numbers below n
unfoldable pub request_of : List Posted → ℕ → ℕ → ℕ
request_of [] mtu n = 0
request_of (p ∷ ps) mtu n = if nat_lt n (span_of p mtu) then 0 else suc (request_of ps mtu (n - span_of p mtu))

-- which of the numbers of its request n is, from 0 on
unfoldable pub piece_of : List Posted → ℕ → ℕ → ℕ
piece_of [] mtu n = n
piece_of (p ∷ ps) mtu n = if nat_lt n (span_of p mtu) then n else piece_of ps mtu (n - span_of p mtu)

-- the first number from n on that belongs to a Read or atomic, and otherwise the end of the numbers
unfoldable pub next_landing : List Posted → ℕ → ℕ → ℕ
next_landing [] mtu n = n
next_landing (p ∷ ps) mtu n =
    if nat_lt n (span_of p mtu)
    then (if lands (kind_of p) then n else span_of p mtu + next_landing ps mtu 0)
    else span_of p mtu + next_landing ps mtu (n - span_of p mtu)

-- a request, and which of its pieces
pub record Piece : Type 0 where
  pub posted : Posted
  pub k : ℕ

-- the request that has number n, and which of its pieces n is
unfoldable pub piece_at : List Posted → ℕ → ℕ → Option Piece
piece_at [] mtu n = None
piece_at (p ∷ ps) mtu n = if nat_lt n (span_of p mtu) then Some (record { posted = p; k = n }) else piece_at ps mtu (n - span_of p mtu)
