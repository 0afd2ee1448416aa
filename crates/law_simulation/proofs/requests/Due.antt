-- The number that acts next, and the piece that it is.
use Rattle.std.proofs.Common.{arith, ◌≡◌, ◌<◌, ◌≤◌, ◌+◌, ◌-◌, ◌*◌, ◌/◌, ◌%◌, ◌⊎◌, ℕ, zero, suc, List, [], ◌∷◌, length, get_or, true, false, Bool, refl, sym, ap, ◌∙◌, subst, inl, inr}
use Rattle.std.specs.Prelude.{nat_lt, if◌then◌else◌, min, max, ◌==◌, ◌||◌}
use Rattle.std.proofs.lemmas.Bool.Decides.{nat_tests, leb_tells, eqb_tells}
use Rattle.rdma_types.specs.Limits.{is_mtu}
use Rattle.rdma_types.specs.Objects.{Posted, no_posted}
use Rattle.rdma_types.specs.Kinds.{is_atomic, kind_of, size_of}
use Rattle.rdma_types.specs.Spans.{first_number, end_number, piece_of, request_of, span, span_of, pieces}
use Rattle.packetless_machine.specs.Machine.{End}
use Rattle.packetless_machine.specs.Numbers.{due}
use Rattle.packetless_machine.specs.Steps.{current}
use Rattle.law_simulation.proofs.relation.Numbers.{request-inside}

-- ---- the five payload sizes

pub mtu_is : (P : ℕ → Type 0) → P 256 → P 512 → P 1024 → P 2048 → P 4096 → (n : ℕ) → is_mtu n ≡ true → P n
mtu_is P a b c d e n h = by_tests (n == 256) (n == 512) (n == 1024) (n == 2048) (n == 4096) refl refl refl refl refl h
  where
    is : (k : ℕ) → (n == k) ≡ true → n ≡ k
    is k t = grind (arith, nat_tests, eqb_tells n k, t)

    by_tests : (p q r s t : Bool) → (n == 256) ≡ p → (n == 512) ≡ q → (n == 1024) ≡ r → (n == 2048) ≡ s → (n == 4096) ≡ t → (p || (q || (r || (s || t)))) ≡ true → P n
    by_tests true q r s t ep eq er es et h = subst P (sym (is 256 ep)) a
    by_tests false true r s t ep eq er es et h = subst P (sym (is 512 eq)) b
    by_tests false false true s t ep eq er es et h = subst P (sym (is 1024 er)) c
    by_tests false false false true t ep eq er es et h = subst P (sym (is 2048 es)) d
    by_tests false false false false true ep eq er es et h = subst P (sym (is 4096 et)) e
    by_tests false false false false false ep eq er es et h = absurd (cc)

-- ---- the request and the piece of a number

pub request_first : (posted : List Posted) (mtu i k : ℕ) → i < length posted → k < span_of (get_or posted i no_posted) mtu → request_of posted mtu (first_number posted mtu i + k) ≡ i
unfolding request_of first_number
request_first [] mtu i k h l = absurd (omega (arith, h))
request_first (p ∷ posted) mtu zero k h l = grind (arith, nat_tests, leb_tells (suc (0 + k)) (span_of p mtu), l)
request_first (p ∷ posted) mtu (suc i) k h l =
    let same : (span_of p mtu + first_number posted mtu i) + k - span_of p mtu ≡ first_number posted mtu i + k = omega arith in
    let past : nat_lt ((span_of p mtu + first_number posted mtu i) + k) (span_of p mtu) ≡ false = grind (arith, nat_tests, leb_tells (suc ((span_of p mtu + first_number posted mtu i) + k)) (span_of p mtu)) in
    rw (past, same) (ap suc (request_first posted mtu i k (omega (arith, h)) l))

pub piece_first : (posted : List Posted) (mtu i k : ℕ) → i < length posted → k < span_of (get_or posted i no_posted) mtu → piece_of posted mtu (first_number posted mtu i + k) ≡ k
unfolding piece_of first_number
piece_first [] mtu i k h l = absurd (omega (arith, h))
piece_first (p ∷ posted) mtu zero k h l = grind (arith, nat_tests, leb_tells (suc (0 + k)) (span_of p mtu), l)
piece_first (p ∷ posted) mtu (suc i) k h l =
    let same : (span_of p mtu + first_number posted mtu i) + k - span_of p mtu ≡ first_number posted mtu i + k = omega arith in
    let past : nat_lt ((span_of p mtu + first_number posted mtu i) + k) (span_of p mtu) ≡ false = grind (arith, nat_tests, leb_tells (suc ((span_of p mtu + first_number posted mtu i) + k)) (span_of p mtu)) in
    rw (past, same) (piece_first posted mtu i k (omega (arith, h)) l)

past_end : (posted : List Posted) (mtu i : ℕ) → length posted ≤ i → first_number posted mtu i ≡ end_number posted mtu
unfolding first_number end_number
past_end [] mtu i h = refl
past_end (p ∷ posted) mtu zero h = absurd (omega (arith, h))
past_end (p ∷ posted) mtu (suc i) h = ap (λ k. span_of p mtu + k) (past_end posted mtu i (omega (arith, h)))

-- ---- pieces of a message of `size` bytes, of which `into` are there

abbrev pub spans : ℕ → ℕ → ℕ
spans size mtu = max 1 ((size + (mtu - 1)) / mtu)

-- the bytes of its next piece
abbrev pub piece_bytes : ℕ → ℕ → ℕ → ℕ
piece_bytes size into mtu = min mtu (size - into)

pub within_span : (size into mtu : ℕ) → is_mtu mtu ≡ true → (into ≡ 0) ⊎ (into < size) → into / mtu < spans size mtu
within_span size into mtu is (inl z) = mtu_is (λ k. into / k < spans size k) (omega (arith, z)) (omega (arith, z)) (omega (arith, z)) (omega (arith, z)) (omega (arith, z)) mtu is
within_span size into mtu is (inr l) = mtu_is (λ k. into / k < spans size k) (omega (arith, l)) (omega (arith, l)) (omega (arith, l)) (omega (arith, l)) (omega (arith, l)) mtu is

pub whole_back : (into mtu : ℕ) → is_mtu mtu ≡ true → into % mtu ≡ 0 → into / mtu * mtu ≡ into
whole_back into mtu is = mtu_is (λ k. into % k ≡ 0 → into / k * k ≡ into) (λ h. omega (arith, h)) (λ h. omega (arith, h)) (λ h. omega (arith, h)) (λ h. omega (arith, h)) (λ h. omega (arith, h)) mtu is

-- it is the last piece where it fills the message
pub last_where : (size into mtu : ℕ) → is_mtu mtu ≡ true → into % mtu ≡ 0 → (into ≡ 0) ⊎ (into < size) → into + piece_bytes size into mtu ≡ size → into / mtu + 1 ≡ spans size mtu
last_where size into mtu is w (inl z) = mtu_is (λ k. into % k ≡ 0 → into + piece_bytes size into k ≡ size → into / k + 1 ≡ spans size k) (λ w h. omega (arith, w, h, z)) (λ w h. omega (arith, w, h, z)) (λ w h. omega (arith, w, h, z)) (λ w h. omega (arith, w, h, z)) (λ w h. omega (arith, w, h, z)) mtu is w
last_where size into mtu is w (inr l) = mtu_is (λ k. into % k ≡ 0 → into + piece_bytes size into k ≡ size → into / k + 1 ≡ spans size k) (λ w h. omega (arith, w, h, l)) (λ w h. omega (arith, w, h, l)) (λ w h. omega (arith, w, h, l)) (λ w h. omega (arith, w, h, l)) (λ w h. omega (arith, w, h, l)) mtu is w

pub filled_where : (size into mtu : ℕ) → is_mtu mtu ≡ true → into % mtu ≡ 0 → (into ≡ 0) ⊎ (into < size) → into / mtu + 1 ≡ spans size mtu → into + piece_bytes size into mtu ≡ size
filled_where size into mtu is w (inl z) = mtu_is (λ k. into % k ≡ 0 → into / k + 1 ≡ spans size k → into + piece_bytes size into k ≡ size) (λ w h. omega (arith, w, h, z)) (λ w h. omega (arith, w, h, z)) (λ w h. omega (arith, w, h, z)) (λ w h. omega (arith, w, h, z)) (λ w h. omega (arith, w, h, z)) mtu is w
filled_where size into mtu is w (inr l) = mtu_is (λ k. into % k ≡ 0 → into / k + 1 ≡ spans size k → into + piece_bytes size into k ≡ size) (λ w h. omega (arith, w, h, l)) (λ w h. omega (arith, w, h, l)) (λ w h. omega (arith, w, h, l)) (λ w h. omega (arith, w, h, l)) (λ w h. omega (arith, w, h, l)) mtu is w

-- both as tests
pub last_is : (size into mtu : ℕ) → is_mtu mtu ≡ true → into % mtu ≡ 0 → (into ≡ 0) ⊎ (into < size) → (into / mtu + 1 == spans size mtu) ≡ (into + piece_bytes size into mtu == size)
last_is size into mtu is w begun = by_tests (into / mtu + 1 == spans size mtu) (into + piece_bytes size into mtu == size) refl refl
  where
    same : (a b : ℕ) → (a == b) ≡ true → a ≡ b
    same a b t = grind (arith, nat_tests, eqb_tells a b, t)

    test : (a b : ℕ) → a ≡ b → (a == b) ≡ true
    test a b t = grind (arith, nat_tests, eqb_tells a b, t)

    by_tests : (p q : Bool) → (into / mtu + 1 == spans size mtu) ≡ p → (into + piece_bytes size into mtu == size) ≡ q → p ≡ q
    by_tests true true ep eq = refl
    by_tests false false ep eq = refl
    by_tests true false ep eq = sym (test (into + piece_bytes size into mtu) size (filled_where size into mtu is w begun (same (into / mtu + 1) (spans size mtu) ep))) ∙ eq
    by_tests false true ep eq = sym ep ∙ test (into / mtu + 1) (spans size mtu) (last_where size into mtu is w begun (same (into + piece_bytes size into mtu) size eq))

-- another piece is of the whole payload size, and leaves some of the message
pub not_last : (size into mtu : ℕ) → (into ≡ 0) ⊎ (into < size) → (into + piece_bytes size into mtu == size) ≡ false → (piece_bytes size into mtu ≡ mtu) × (into + mtu < size)
not_last size into mtu (inl z) h = grind (arith, nat_tests, eqb_tells (into + piece_bytes size into mtu) size, h, z)
not_last size into mtu (inr l) h = grind (arith, nat_tests, eqb_tells (into + piece_bytes size into mtu) size, h, l)

pub next_piece : (into mtu : ℕ) → is_mtu mtu ≡ true → into % mtu ≡ 0 → ((into + mtu) / mtu ≡ into / mtu + 1) × ((into + mtu) % mtu ≡ 0)
next_piece into mtu is = mtu_is (λ k. into % k ≡ 0 → ((into + k) / k ≡ into / k + 1) × ((into + k) % k ≡ 0)) (λ h. (omega (arith, h), omega (arith, h))) (λ h. (omega (arith, h), omega (arith, h))) (λ h. (omega (arith, h), omega (arith, h))) (λ h. (omega (arith, h), omega (arith, h))) (λ h. (omega (arith, h), omega (arith, h))) mtu is

pub mtu_positive : (mtu : ℕ) → is_mtu mtu ≡ true → 1 ≤ mtu
mtu_positive mtu is = mtu_is (λ k. 1 ≤ k) (omega arith) (omega arith) (omega arith) (omega arith) (omega arith) mtu is

pub mtu_small : (mtu : ℕ) → is_mtu mtu ≡ true → mtu ≤ 4096
mtu_small mtu is = mtu_is (λ k. k ≤ 4096) (omega arith) (omega arith) (omega arith) (omega arith) (omega arith) mtu is

-- ---- the number that acts next

-- where it is of a posted request, that is the current one
pub acts_inside : (q : End) → request_of q.posted q.mtu (due q) < length q.posted → q.acted < length q.posted
unfolding due
acts_inside q h = by_test (nat_lt q.acted (length q.posted)) refl
  where
    by_test : (b : Bool) → nat_lt q.acted (length q.posted) ≡ b → q.acted < length q.posted
    by_test true t = grind (arith, nat_tests, leb_tells (suc q.acted) (length q.posted), t)
    by_test false t =
        let past : length q.posted ≤ q.acted = grind (arith, nat_tests, leb_tells (suc q.acted) (length q.posted), t) in
        absurd (omega (arith, request-inside q.posted q.mtu (first_number q.posted q.mtu q.acted + q.into / q.mtu) h, past_end q.posted q.mtu q.acted past))

pub due_request : (q : End) → q.acted < length q.posted → q.into / q.mtu < span_of (current q) q.mtu → request_of q.posted q.mtu (due q) ≡ q.acted
unfolding due
due_request q inside within = request_first q.posted q.mtu q.acted (q.into / q.mtu) inside within

pub due_piece : (q : End) → q.acted < length q.posted → q.into / q.mtu < span_of (current q) q.mtu → piece_of q.posted q.mtu (due q) ≡ q.into / q.mtu
unfolding due
due_piece q inside within = piece_first q.posted q.mtu q.acted (q.into / q.mtu) inside within

-- the span of a message
pub span_message : (r : Posted) (mtu : ℕ) → is_atomic (kind_of r) ≡ false → span_of r mtu ≡ spans (size_of r) mtu
unfolding span pieces
span_message r mtu h = ap (λ b. if b then 1 else spans (size_of r) mtu) h

pub span_atomic : (r : Posted) (mtu : ℕ) → is_atomic (kind_of r) ≡ true → span_of r mtu ≡ 1
unfolding span pieces
span_atomic r mtu h = ap (λ b. if b then 1 else spans (size_of r) mtu) h
