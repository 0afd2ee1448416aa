-- Packet numbers where one more request is posted: those of the others stay.
use Rattle.std.proofs.Common.{arith, ◌≡◌, ◌≤◌, ◌<◌, ◌+◌, ◌-◌, ◌/◌, ℕ, zero, suc, List, [], ◌∷◌, ◌++◌, length, get_or, true, false, Bool, refl, ap}
use Rattle.std.specs.Prelude.{Some, max, if◌then◌else◌, drop}
use Rattle.std.proofs.lemmas.Bool.Decides.{nat_tests, leb_tells}
use Rattle.std.proofs.lemmas.List.{get_or_append_left}
use Rattle.rdma_types.specs.Kinds.{is_atomic}
use Rattle.rdma_types.specs.Objects.{Posted, no_posted}
use Rattle.rdma_types.specs.Spans.{Piece, span, span_of, pieces, first_number, end_number, request_of, piece_of, piece_at}
use Rattle.packetless_machine.specs.declared.reply.Reply.{Reply}
use Rattle.law_simulation.specs.Joined.{old_value, old_values}

pub span_positive : (r : Posted) (mtu : ℕ) → 1 ≤ span_of r mtu
unfolding span pieces
span_positive r mtu = by_kind (is_atomic r.request.shape.kind)
  where
    by_kind : (b : Bool) → 1 ≤ (if b then 1 else max 1 ((r.request.shape.length + (mtu - 1)) / mtu))
    by_kind true = omega arith
    by_kind false = omega arith

pub first-append : (posted more : List Posted) (mtu i : ℕ) → i ≤ length posted → first_number (posted ++ more) mtu i ≡ first_number posted mtu i
unfolding first_number
first-append [] [] mtu i h = refl
first-append [] (r ∷ more) mtu zero h = refl
first-append [] (r ∷ more) mtu (suc i) h = absurd (omega (arith, h))
first-append (r ∷ posted) more mtu zero h = refl
first-append (r ∷ posted) more mtu (suc i) h = ap (λ k. span_of r mtu + k) (first-append posted more mtu i (omega (arith, h)))

pub end-push : (posted : List Posted) (r : Posted) (mtu : ℕ) → end_number (posted ++ r ∷ []) mtu ≡ end_number posted mtu + span_of r mtu
unfolding end_number
end-push [] r mtu = omega arith
end-push (x ∷ posted) r mtu = grind (arith, end-push posted r mtu)

-- the end of the numbers is where the next request begins
pub first-end : (posted : List Posted) (mtu : ℕ) → first_number posted mtu (length posted) ≡ end_number posted mtu
unfolding first_number end_number
first-end [] mtu = refl
first-end (r ∷ posted) mtu = ap (λ k. span_of r mtu + k) (first-end posted mtu)

pub first-rest : (posted : List Posted) (mtu i : ℕ) → i ≤ length posted → first_number posted mtu i + end_number (drop i posted) mtu ≡ end_number posted mtu
unfolding first_number end_number
first-rest [] mtu zero h = refl
first-rest [] mtu (suc i) h = absurd (omega (arith, h))
first-rest (r ∷ posted) mtu zero h = omega arith
first-rest (r ∷ posted) mtu (suc i) h = grind (arith, first-rest posted mtu i)

pub request-push : (posted : List Posted) (r : Posted) (mtu n : ℕ) → n ≤ end_number posted mtu → request_of (posted ++ r ∷ []) mtu n ≡ request_of posted mtu n
unfolding request_of end_number
request-push [] r mtu n h = grind (arith, nat_tests, leb_tells (suc n) (span_of r mtu), span_positive r mtu)
request-push (x ∷ posted) r mtu n h = grind (arith, nat_tests, leb_tells (suc n) (span_of x mtu), request-push posted r mtu (n - span_of x mtu))

pub piece-push : (posted : List Posted) (r : Posted) (mtu n : ℕ) → n < end_number posted mtu → piece_of (posted ++ r ∷ []) mtu n ≡ piece_of posted mtu n
unfolding piece_of end_number
piece-push [] r mtu n h = absurd (omega (arith, h))
piece-push (x ∷ posted) r mtu n h = grind (arith, nat_tests, leb_tells (suc n) (span_of x mtu), piece-push posted r mtu (n - span_of x mtu))

-- a number of a posted request is below the end
pub request-inside : (posted : List Posted) (mtu n : ℕ) → request_of posted mtu n < length posted → n < end_number posted mtu
unfolding request_of end_number
request-inside [] mtu n h = absurd (omega (arith, h))
request-inside (x ∷ posted) mtu n h = grind (arith, nat_tests, leb_tells (suc n) (span_of x mtu), span_positive x mtu, request-inside posted mtu (n - span_of x mtu))

pub inside-request : (posted : List Posted) (mtu n : ℕ) → n < end_number posted mtu → request_of posted mtu n < length posted
unfolding request_of end_number
inside-request [] mtu n h = absurd (omega (arith, h))
inside-request (x ∷ posted) mtu n h = grind (arith, nat_tests, leb_tells (suc n) (span_of x mtu), inside-request posted mtu (n - span_of x mtu))

-- a packet that is found stays
pub piece_at-push : (posted : List Posted) (r : Posted) (mtu n : ℕ) (x : Piece) → piece_at posted mtu n ≡ Some x → piece_at (posted ++ r ∷ []) mtu n ≡ Some x
unfolding piece_at
piece_at-push [] r mtu n x h = absurd (cc)
piece_at-push (p ∷ posted) r mtu n x h = grind (arith, piece_at-push posted r mtu (n - span_of p mtu) x)

pub piece-found : (posted : List Posted) (mtu n : ℕ) (x : Piece) → piece_at posted mtu n ≡ Some x → n < end_number posted mtu
unfolding piece_at end_number
piece-found [] mtu n x h = absurd (cc)
piece-found (p ∷ posted) mtu n x h = grind (arith, nat_tests, leb_tells (suc n) (span_of p mtu), piece-found posted mtu (n - span_of p mtu) x)

-- old values stay
pub old-push : (mtu n : ℕ) (posted : List Posted) (r : Posted) (answers : List Reply) → length answers ≤ length posted → old_values mtu n (posted ++ r ∷ []) answers ≡ old_values mtu n posted answers
unfolding old_values
old-push mtu n [] r [] h = refl
old-push mtu n [] r (a ∷ answers) h = absurd (omega (arith, h))
old-push mtu n (p ∷ posted) r [] h = refl
old-push mtu n (p ∷ posted) r (a ∷ answers) h = ap (λ xs. old_value n a ++ xs) (old-push mtu (n + span_of p mtu) posted r answers (omega (arith, h)))

-- a request that was posted stays
pub posted-push : (posted : List Posted) (r : Posted) (i : ℕ) → i < length posted → get_or (posted ++ r ∷ []) i no_posted ≡ get_or posted i no_posted
posted-push posted r i h = get_or_append_left posted (r ∷ []) no_posted i h
