-- Pieces of a message, over plain numbers and lists.
use Rattle.std.proofs.Common.{◌≡◌, ℕ, zero, suc, ◌+◌, ◌-◌, ◌*◌, ◌/◌, ◌%◌, ◌<◌, ◌≤◌, max, min, if◌then◌else◌, true, false, List, length, take, drop, refl, sym, ap, ◌∙◌, arith, length-drop}
use Rattle.std.proofs.lemmas.Nat.{div-mul-add, mul-le}
use Rattle.std.proofs.lemmas.Grind.{div_ceil_times}
use Rattle.std.proofs.lemmas.List.{take_all, length-take}
use Rattle.std.proofs.Math.Seq.{take-add}
use Rattle.rdma_types.specs.declared.requests.Shape.{Shape}
use Rattle.rdma_types.specs.Kinds.{is_atomic}
use Rattle.rdma_types.specs.Spans.{pieces, piece_length, span}
use Rattle.protocol.specs.Bytes.{bytes_at}
use Rattle.transport.specs.Cut.{front}

-- ---- how many pieces

-- the quotient rounded up, by its bounds
quotient_up : (length mtu q : ℕ) → length ≤ q * mtu → q * mtu < length + mtu → (length + (mtu - 1)) / mtu ≡ q
quotient_up length mtu q up low =
    let split : length + (mtu - 1) ≡ q * mtu + (length + (mtu - 1) - q * mtu) = omega arith in
    rw split (div-mul-add q mtu (length + (mtu - 1) - q * mtu) (omega arith))

-- as the code rounds it
pub pieces-rounded : (length mtu : ℕ) → 0 < mtu → max (length / mtu + min 1 (length % mtu)) 1 ≡ pieces length mtu
unfolding pieces
pieces-rounded length mtu h =
    let bounds = div_ceil_times length mtu h in
    rw (quotient_up length mtu (length / mtu + min 1 (length % mtu)) bounds.0 bounds.1) (omega arith)

-- n pieces are enough, one fewer are too few, and there is one
record IsCut (length mtu n : ℕ) : Type 0 where
  pub enough : length ≤ n * mtu
  pub least : 1 < n → (n - 1) * mtu < length
  pub positive : 0 < n

cut_from : (length mtu q : ℕ) → length ≤ q * mtu → q * mtu < length + mtu → IsCut length mtu (max 1 q)
cut_from length mtu zero up low = record { enough = omega arith; least = λ h. absurd (omega arith); positive = omega arith }
cut_from length mtu (suc q) up low =
    let same : max 1 (suc q) ≡ suc q = omega arith in
    let before : suc q - 1 ≡ q = omega arith in
    rw same (record { enough = up; least = λ h. rw before (omega arith); positive = omega arith })

pieces_cut : (length mtu : ℕ) → 0 < mtu → IsCut length mtu (pieces length mtu)
unfolding pieces
pieces_cut length mtu h =
    let bounds = div_ceil_times length mtu h in
    rw (quotient_up length mtu (length / mtu + min 1 (length % mtu)) bounds.0 bounds.1) (cut_from length mtu (length / mtu + min 1 (length % mtu)) bounds.0 bounds.1)

-- there is a piece
pub pieces_positive : (length mtu : ℕ) → 1 ≤ pieces length mtu
unfolding pieces
pieces_positive length mtu = omega arith

-- no request has more numbers than its message has pieces
pub span_within : (s : Shape) (mtu : ℕ) → span s mtu ≤ pieces s.length mtu
unfolding span
span_within s mtu = elim (is_atomic s.kind) as (λ b. (if b then 1 else pieces s.length mtu) ≤ pieces s.length mtu) [
  | true ↦ pieces_positive s.length mtu
  | false ↦ omega arith
]

-- a piece begins within the message
begins_within : (length mtu n k : ℕ) → IsCut length mtu n → k < n → k * mtu ≤ length
begins_within length mtu n zero c h = omega arith
begins_within length mtu n (suc k) c h =
    let before = mul-le (suc k) mtu (n - 1) mtu (omega arith) (omega arith) in
    let more : 1 < n = omega arith in
    omega (arith, before, c.least more)

pub piece_begins_within : (length mtu k : ℕ) → 0 < mtu → k < pieces length mtu → k * mtu ≤ length
piece_begins_within length mtu k h within = begins_within length mtu (pieces length mtu) k (pieces_cut length mtu h) within

-- ---- the message cut in pieces

-- the length of a piece
pub length-piece : (message : List ℕ) (mtu k : ℕ) → length (bytes_at (k * mtu) mtu message) ≡ piece_length (length message) k mtu
unfolding bytes_at
length-piece message mtu k = length-take mtu (drop (k * mtu) message) ∙ ap (λ n. min mtu n) (length-drop (k * mtu) message)

-- each piece but the last has the MTU's bytes
pub piece_full : (message : List ℕ) (mtu k : ℕ) → 0 < mtu → k + 1 < pieces (length message) mtu → length (bytes_at (k * mtu) mtu message) ≡ mtu
piece_full message mtu k h before =
    let n = pieces (length message) mtu in
    let c = pieces_cut (length message) mtu h in
    let whole = mul-le (k + 1) mtu (pieces (length message) mtu - 1) mtu (omega arith) (omega arith) in
    let more : 1 < pieces (length message) mtu = omega arith in
    let least = c.least more in
    length-piece message mtu k ∙ omega (arith, whole, least)

-- the last has some
pub piece_last : (message : List ℕ) (mtu k : ℕ) → 0 < mtu → k + 1 ≡ pieces (length message) mtu → 0 < length message → 0 < length (bytes_at (k * mtu) mtu message)
piece_last message mtu zero h last some = rw (length-piece message mtu zero) (omega arith)
piece_last message mtu (suc k) h last some =
    let c = pieces_cut (length message) mtu h in
    let more : 1 < pieces (length message) mtu = omega arith in
    let here : pieces (length message) mtu - 1 ≡ suc k = omega arith in
    let least = rw here at (c.least more) in
    rw (length-piece message mtu (suc k)) (omega (arith, least))

-- the first n pieces are the first bytes
front-take : (message : List ℕ) (mtu n : ℕ) → front message mtu n ≡ take (n * mtu) message
unfolding bytes_at
front-take message mtu zero = let none : 0 * mtu ≡ 0 = omega arith in rw none refl
front-take message mtu (suc n) =
    let more : suc n * mtu ≡ n * mtu + mtu = omega arith in
    rw (front-take message mtu n, more) (sym (take-add (n * mtu) mtu message))

-- all pieces are the message
pub front_all : (message : List ℕ) (mtu : ℕ) → 0 < mtu → front message mtu (pieces (length message) mtu) ≡ message
front_all message mtu h =
    let c = pieces_cut (length message) mtu h in
    front-take message mtu (pieces (length message) mtu) ∙ take_all (pieces (length message) mtu * mtu) message c.enough
