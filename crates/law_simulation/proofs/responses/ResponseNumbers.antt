-- Which request a number is of, and that none lands before the barrier.
use Rattle.std.proofs.Common.{arith, ◌≡◌, ◌≤◌, ◌<◌, ◌+◌, ◌-◌, ◌*◌, ◌/◌, ◌%◌, ℕ, zero, suc, List, [], ◌∷◌, length, get_or, true, false, Bool, refl, ap, ◌∙◌, subst, inl, inr}
use Rattle.std.specs.Prelude.{max, nat_lt, ◌⊎◌, if◌then◌else◌}
use Rattle.std.proofs.lemmas.Bool.Decides.{nat_tests, leb_tells}
use Rattle.rdma_types.specs.Kinds.{is_atomic, kind_of, lands, size_of}
use Rattle.rdma_types.specs.Limits.{is_mtu}
use Rattle.rdma_types.specs.Objects.{Posted, no_posted}
use Rattle.rdma_types.specs.Spans.{pieces, span, span_of, first_number, end_number, next_landing, piece_of, request_of}
use Rattle.law_simulation.proofs.relation.Numbers.{span_positive}
use Rattle.law_simulation.proofs.sending.GoNumbers.{mtu_is}

-- the numbers of the request that a number is of
pub request_low : (us : List Posted) (mtu n : ℕ) → first_number us mtu (request_of us mtu n) ≤ n
unfolding request_of first_number
request_low [] mtu n = omega arith
request_low (p ∷ us) mtu n = grind (arith, nat_tests, leb_tells (suc n) (span_of p mtu), request_low us mtu (n - span_of p mtu))

pub request_high : (us : List Posted) (mtu n : ℕ) → request_of us mtu n < length us → n < first_number us mtu (suc (request_of us mtu n))
unfolding request_of first_number
request_high [] mtu n h = absurd (omega (arith, h))
request_high (p ∷ us) mtu n h = grind (arith, nat_tests, leb_tells (suc n) (span_of p mtu), request_high us mtu (n - span_of p mtu))

pub request_within : (us : List Posted) (mtu n : ℕ) → request_of us mtu n ≤ length us
unfolding request_of
request_within [] mtu n = omega arith
request_within (p ∷ us) mtu n = grind (arith, nat_tests, leb_tells (suc n) (span_of p mtu), request_within us mtu (n - span_of p mtu))

pub request_end : (us : List Posted) (mtu n : ℕ) → length us ≤ request_of us mtu n → first_number us mtu (request_of us mtu n) ≡ end_number us mtu
unfolding request_of first_number end_number
request_end [] mtu n h = refl
request_end (p ∷ us) mtu n h = grind (arith, nat_tests, leb_tells (suc n) (span_of p mtu), request_end us mtu (n - span_of p mtu))

-- a number of the first request
pub request_first : (p : Posted) (us : List Posted) (mtu n : ℕ) → n < span_of p mtu → request_of (p ∷ us) mtu n ≡ 0
unfolding request_of
request_first p us mtu n h = grind (arith, nat_tests, leb_tells (suc n) (span_of p mtu), h)

-- a number r of the first request
abbrev pub IsOfFirst : List Posted → ℕ → ℕ → Type 0
IsOfFirst us mtu r = (p : Posted) (rest : List Posted) → us ≡ p ∷ rest → r < span_of p mtu

pub of_first_zero : (us : List Posted) (mtu : ℕ) → IsOfFirst us mtu 0
of_first_zero us mtu p rest h = omega (arith, span_positive p mtu)

landing_first : (p : Posted) (us : List Posted) (mtu r : ℕ) → r < span_of p mtu → next_landing (p ∷ us) mtu r ≡ (if lands (kind_of p) then r else span_of p mtu + next_landing us mtu 0)
unfolding next_landing
landing_first p us mtu r h =
    let here : nat_lt r (span_of p mtu) ≡ true = grind (arith, nat_tests, leb_tells (suc r) (span_of p mtu)) in
    ap (λ b. if b then (if lands (kind_of p) then r else span_of p mtu + next_landing us mtu 0) else span_of p mtu + next_landing us mtu (r - span_of p mtu)) here

-- the first request does not land, where a number past it is not past the barrier
first_stays : (p : Posted) (us : List Posted) (mtu r n : ℕ) → r < span_of p mtu → r < n → n ≤ next_landing (p ∷ us) mtu r → (lands (kind_of p) ≡ false) × (n ≤ span_of p mtu + next_landing us mtu 0)
first_stays p us mtu r n h l m = by_kind (lands (kind_of p)) refl
  where
    by_kind : (b : Bool) → lands (kind_of p) ≡ b → (lands (kind_of p) ≡ false) × (n ≤ span_of p mtu + next_landing us mtu 0)
    by_kind true t = absurd (omega (arith, m, landing_first p us mtu r h ∙ ap (λ b. if b then r else span_of p mtu + next_landing us mtu 0) t, l))
    by_kind false t = (t, omega (arith, m, landing_first p us mtu r h ∙ ap (λ b. if b then r else span_of p mtu + next_landing us mtu 0) t))

request_later : (p : Posted) (us : List Posted) (mtu n : ℕ) → span_of p mtu ≤ n → request_of (p ∷ us) mtu n ≡ suc (request_of us mtu (n - span_of p mtu))
unfolding request_of
request_later p us mtu n h = grind (arith, nat_tests, leb_tells (suc n) (span_of p mtu))

past_first : (p : Posted) (us : List Posted) (mtu n j : ℕ) → j < request_of (p ∷ us) mtu n → span_of p mtu ≤ n
unfolding request_of
past_first p us mtu n j h = grind (arith, nat_tests, leb_tells (suc n) (span_of p mtu))

-- no request before a number lands, where the barrier is not below it
pub none_land : (us : List Posted) (mtu r n j : ℕ) → IsOfFirst us mtu r → n ≤ next_landing us mtu r → j < request_of us mtu n → lands (kind_of (get_or us j no_posted)) ≡ false
none_land [] mtu r n j first h l = refl
none_land (p ∷ us) mtu r n zero first h l =
    let here : r < span_of p mtu = first p us refl in
    (first_stays p us mtu r n here (omega (arith, here, past_first p us mtu n 0 l)) h).0
none_land (p ∷ us) mtu r n (suc j) first h l =
    let here : r < span_of p mtu = first p us refl in
    let past : span_of p mtu ≤ n = past_first p us mtu n (suc j) l in
    let stays = first_stays p us mtu r n here (omega (arith, here, past)) h in
    none_land us mtu 0 (n - span_of p mtu) j (of_first_zero us mtu) (omega (arith, stays.1, past)) (omega (arith, l, request_later p us mtu n past))

order : (m n : ℕ) → (m < n) ⊎ (n ≤ m)
order m n = by_test (nat_lt m n) refl
  where
    by_test : (b : Bool) → nat_lt m n ≡ b → (m < n) ⊎ (n ≤ m)
    by_test true t = inl (grind (arith, nat_tests, leb_tells (suc m) n, t))
    by_test false t = inr (grind (arith, nat_tests, leb_tells (suc m) n, t))

-- .. nor the one that the number is inside of, where the number is past r
pub part_stays : (us : List Posted) (mtu r n : ℕ) → IsOfFirst us mtu r → r < n → n ≤ next_landing us mtu r → first_number us mtu (request_of us mtu n) < n → lands (kind_of (get_or us (request_of us mtu n) no_posted)) ≡ false
unfolding first_number
part_stays [] mtu r n first l h inside = none_there (request_of [] mtu n)
  where
    none_there : (k : ℕ) → lands (kind_of (get_or [] k no_posted)) ≡ false
    none_there zero = refl
    none_there (suc k) = refl
part_stays (p ∷ us) mtu r n first l h inside =
    let here : r < span_of p mtu = first p us refl in
    let stays = first_stays p us mtu r n here l h in
    elim (order n (span_of p mtu)) [
      | inl less ↦ ap (λ i. lands (kind_of (get_or (p ∷ us) i no_posted))) (request_first p us mtu n less) ∙ stays.0
      | inr past ↦
          let is = request_later p us mtu n past in
          let within : span_of p mtu + first_number us mtu (request_of us mtu (n - span_of p mtu)) < n = subst (λ i. first_number (p ∷ us) mtu i < n) is inside in
          ap (λ i. lands (kind_of (get_or (p ∷ us) i no_posted))) is
          ∙ part_stays us mtu 0 (n - span_of p mtu) (of_first_zero us mtu) (omega (arith, within)) (omega (arith, stays.1, past)) (omega (arith, within))
    ]

-- ---- pieces and bytes

pub whole_bytes : (mtu k : ℕ) → is_mtu mtu ≡ true → (k * mtu) % mtu ≡ 0
whole_bytes mtu k h = mtu_is (λ m. (k * m) % m ≡ 0) (omega arith) (omega arith) (omega arith) (omega arith) (omega arith) mtu h

pub pieces_back : (mtu k : ℕ) → is_mtu mtu ≡ true → (k * mtu) / mtu ≡ k
pieces_back mtu k h = mtu_is (λ m. (k * m) / m ≡ k) (omega arith) (omega arith) (omega arith) (omega arith) (omega arith) mtu h

-- bytes before a piece of a request are inside of it
few_bytes : (mtu k size : ℕ) → is_mtu mtu ≡ true → 1 ≤ k → k < max 1 ((size + (mtu - 1)) / mtu) → k * mtu < size
few_bytes mtu k size h some within = mtu_is (λ m. k < max 1 ((size + (m - 1)) / m) → k * m < size) (λ l. omega (arith, some, l)) (λ l. omega (arith, some, l)) (λ l. omega (arith, some, l)) (λ l. omega (arith, some, l)) (λ l. omega (arith, some, l)) mtu h within

pub bytes_inside : (r : Posted) (mtu k : ℕ) → is_mtu mtu ≡ true → 1 ≤ k → k < span_of r mtu → k * mtu < size_of r
unfolding span pieces
bytes_inside r mtu k h some within = by_kind (is_atomic r.request.shape.kind) within
  where
    by_kind : (b : Bool) → k < (if b then 1 else max 1 ((r.request.shape.length + (mtu - 1)) / mtu)) → k * mtu < size_of r
    by_kind true l = absurd (omega (arith, l, some))
    by_kind false l = few_bytes mtu k r.request.shape.length h some l

-- bytes of whole pieces
pub bytes_within : (mtu k bytes : ℕ) → is_mtu mtu ≡ true → k ≤ bytes / mtu → k * mtu ≤ bytes
bytes_within mtu k bytes h l = mtu_is (λ m. k ≤ bytes / m → k * m ≤ bytes) (λ l. omega (arith, l)) (λ l. omega (arith, l)) (λ l. omega (arith, l)) (λ l. omega (arith, l)) (λ l. omega (arith, l)) mtu h l

-- fewer whole pieces are fewer bytes
pub bytes_less : (mtu known k : ℕ) → is_mtu mtu ≡ true → known % mtu ≡ 0 → known / mtu < k → known < k * mtu
bytes_less mtu known k h whole l = mtu_is (λ m. known % m ≡ 0 → known / m < k → known < k * m) (λ w l. omega (arith, w, l)) (λ w l. omega (arith, w, l)) (λ w l. omega (arith, w, l)) (λ w l. omega (arith, w, l)) (λ w l. omega (arith, w, l)) mtu h whole l

-- ---- the request that a number is of, and which of its pieces

pub request_inside : (posted : List Posted) (mtu i k : ℕ) → i < length posted → k < span_of (get_or posted i no_posted) mtu → request_of posted mtu (first_number posted mtu i + k) ≡ i
unfolding request_of first_number
request_inside [] mtu i k l h = absurd (omega (arith, l))
request_inside (p ∷ posted) mtu zero k l h = grind (arith, nat_tests, leb_tells (suc (0 + k)) (span_of p mtu), h)
request_inside (p ∷ posted) mtu (suc i) k l h =
    let less : (span_of p mtu + first_number posted mtu i) + k - span_of p mtu ≡ first_number posted mtu i + k = omega arith in
    let past : nat_lt ((span_of p mtu + first_number posted mtu i) + k) (span_of p mtu) ≡ false = grind (arith, nat_tests, leb_tells (suc ((span_of p mtu + first_number posted mtu i) + k)) (span_of p mtu)) in
    ap (λ b. if b then 0 else suc (request_of posted mtu ((span_of p mtu + first_number posted mtu i) + k - span_of p mtu))) past
    ∙ (ap (λ j. suc (request_of posted mtu j)) less ∙ ap suc (request_inside posted mtu i k (omega (arith, l)) h))

pub request_begins : (us : List Posted) (mtu i : ℕ) → i ≤ length us → request_of us mtu (first_number us mtu i) ≡ i
unfolding request_of first_number
request_begins [] mtu zero h = refl
request_begins [] mtu (suc i) h = absurd (omega (arith, h))
request_begins (p ∷ us) mtu zero h = grind (arith, nat_tests, leb_tells 1 (span_of p mtu), span_positive p mtu)
request_begins (p ∷ us) mtu (suc i) h =
    let less : (span_of p mtu + first_number us mtu i) - span_of p mtu ≡ first_number us mtu i = omega arith in
    let past : nat_lt (span_of p mtu + first_number us mtu i) (span_of p mtu) ≡ false = grind (arith, nat_tests, leb_tells (suc (span_of p mtu + first_number us mtu i)) (span_of p mtu)) in
    ap (λ b. if b then 0 else suc (request_of us mtu ((span_of p mtu + first_number us mtu i) - span_of p mtu))) past
    ∙ (ap (λ j. suc (request_of us mtu j)) less ∙ ap suc (request_begins us mtu i (omega (arith, h))))

-- which of its numbers it is
pub piece_inside : (posted : List Posted) (mtu i k : ℕ) → i < length posted → k < span_of (get_or posted i no_posted) mtu → piece_of posted mtu (first_number posted mtu i + k) ≡ k
unfolding piece_of first_number
piece_inside [] mtu i k l h = absurd (omega (arith, l))
piece_inside (p ∷ posted) mtu zero k l h = grind (arith, nat_tests, leb_tells (suc (0 + k)) (span_of p mtu), h)
piece_inside (p ∷ posted) mtu (suc i) k l h =
    let less : (span_of p mtu + first_number posted mtu i) + k - span_of p mtu ≡ first_number posted mtu i + k = omega arith in
    let past : nat_lt ((span_of p mtu + first_number posted mtu i) + k) (span_of p mtu) ≡ false = grind (arith, nat_tests, leb_tells (suc ((span_of p mtu + first_number posted mtu i) + k)) (span_of p mtu)) in
    ap (λ b. if b then (span_of p mtu + first_number posted mtu i) + k else piece_of posted mtu ((span_of p mtu + first_number posted mtu i) + k - span_of p mtu)) past
    ∙ (ap (piece_of posted mtu) less ∙ piece_inside posted mtu i k (omega (arith, l)) h)

pub piece_begins : (us : List Posted) (mtu i : ℕ) → i ≤ length us → piece_of us mtu (first_number us mtu i) ≡ 0
unfolding piece_of first_number
piece_begins [] mtu zero h = refl
piece_begins [] mtu (suc i) h = absurd (omega (arith, h))
piece_begins (p ∷ us) mtu zero h = grind (arith, nat_tests, leb_tells 1 (span_of p mtu), span_positive p mtu)
piece_begins (p ∷ us) mtu (suc i) h =
    let less : (span_of p mtu + first_number us mtu i) - span_of p mtu ≡ first_number us mtu i = omega arith in
    let past : nat_lt (span_of p mtu + first_number us mtu i) (span_of p mtu) ≡ false = grind (arith, nat_tests, leb_tells (suc (span_of p mtu + first_number us mtu i)) (span_of p mtu)) in
    ap (λ b. if b then span_of p mtu + first_number us mtu i else piece_of us mtu ((span_of p mtu + first_number us mtu i) - span_of p mtu)) past
    ∙ (ap (piece_of us mtu) less ∙ piece_begins us mtu i (omega (arith, h)))
