-- Packet numbers and the requests that they belong to.
use Rattle.std.proofs.Common.{arith, ◌≡◌, ◌<◌, ◌≤◌, ◌+◌, ◌-◌, ℕ, suc, List, [], ◌∷◌, length, Bool, true, false, refl}
use Rattle.std.specs.Prelude.{Some, slice_get, nat_lt, if◌then◌else◌}
use Rattle.std.proofs.lemmas.Bool.Decides.{nat_tests}
use Rattle.rdma_types.specs.Objects.{Posted}
use Rattle.rdma_types.specs.Spans.{end_number, first_number, next_landing, piece_at, piece_of, request_of, span_of}

-- a number is the first of its request and its place among the request's numbers
pub split : (ps : List Posted) (mtu n : ℕ) → first_number ps mtu (request_of ps mtu n) + piece_of ps mtu n ≡ n
unfolding first_number request_of piece_of
split [] mtu n = omega arith
split (p ∷ ps) mtu n = by_test _ refl (split ps mtu (n - span_of p mtu))
  where
    by_test : (b : Bool) → nat_lt n (span_of p mtu) ≡ b → first_number ps mtu (request_of ps mtu (n - span_of p mtu)) + piece_of ps mtu (n - span_of p mtu) ≡ n - span_of p mtu → first_number (p ∷ ps) mtu (if nat_lt n (span_of p mtu) then 0 else suc (request_of ps mtu (n - span_of p mtu))) + (if nat_lt n (span_of p mtu) then n else piece_of ps mtu (n - span_of p mtu)) ≡ n
    by_test true e later = rw e (omega arith)
    by_test false e later = rw e (grind (arith, nat_tests, e, later))

-- a number below the end belongs to a posted request
pub within : (ps : List Posted) (mtu n : ℕ) → n < end_number ps mtu → request_of ps mtu n < length ps
unfolding end_number request_of
within [] mtu n h = absurd (omega (arith, h))
within (p ∷ ps) mtu n h = grind (arith, nat_tests, h, within ps mtu (n - span_of p mtu))

-- its place is below the request's span
pub piece_below : (ps : List Posted) (mtu n : ℕ) (p : Posted) → slice_get ps (request_of ps mtu n) ≡ Some p → piece_of ps mtu n < span_of p mtu
unfolding request_of piece_of
piece_below [] mtu n p h = absurd (cc)
piece_below (q ∷ ps) mtu n p h = grind (arith, nat_tests, h, piece_below ps mtu (n - span_of q mtu) p)

-- the piece of a number is that request at that place
pub found : (ps : List Posted) (mtu n : ℕ) (p : Posted) → slice_get ps (request_of ps mtu n) ≡ Some p → piece_at ps mtu n ≡ Some (record { posted = p; k = piece_of ps mtu n })
unfolding request_of piece_of piece_at
found [] mtu n p h = absurd (cc)
found (q ∷ ps) mtu n p h = grind (arith, nat_tests, h, found ps mtu (n - span_of q mtu) p)

-- the number past the last is the first of what would be posted next
pub ends : (ps : List Posted) (mtu : ℕ) → first_number ps mtu (length ps) ≡ end_number ps mtu
unfolding first_number end_number
ends [] mtu = refl
ends (p ∷ ps) mtu = grind (arith, ends ps mtu)

-- a barrier is not before the number that it is looked for from
pub landing_after : (ps : List Posted) (mtu n : ℕ) → n ≤ next_landing ps mtu n
unfolding next_landing
landing_after [] mtu n = omega arith
landing_after (p ∷ ps) mtu n = grind (arith, nat_tests, landing_after ps mtu 0, landing_after ps mtu (n - span_of p mtu))

-- .. and not past the end
pub landing_before_end : (ps : List Posted) (mtu n : ℕ) → n ≤ end_number ps mtu → next_landing ps mtu n ≤ end_number ps mtu
unfolding next_landing end_number
landing_before_end [] mtu n h = h
landing_before_end (p ∷ ps) mtu n h = grind (arith, nat_tests, h, landing_before_end ps mtu 0, landing_before_end ps mtu (n - span_of p mtu))
