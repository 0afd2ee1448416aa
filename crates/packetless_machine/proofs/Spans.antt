-- Packet numbers, one request after another.
use Rattle.std.proofs.Common.{arith, ◌≡◌, ◌<◌, ◌≤◌, ◌+◌, ◌-◌, ℕ, suc, true, false, List, [], ◌∷◌, length, drop, get_or, refl, ◌∙◌, nat_lt}
use Rattle.std.proofs.lemmas.Bool.Decides.{nat_tests}
use Rattle.std.proofs.lemmas.List.{at_drop_more, at_drop_all}
use Rattle.rdma_types.specs.Objects.{Posted}
use Rattle.rdma_types.specs.Kinds.{lands, kind_of}
use Rattle.rdma_types.specs.Spans.{span_of, first_number, next_landing}

not_below : (m n : ℕ) → n ≤ m → nat_lt m n ≡ false
not_below m n h = grind (arith, nat_tests)

-- the numbers of request k come before those of the later ones
pub first_step : (xs : List Posted) (mtu i k : ℕ) (r : Posted) → k < length xs → r ≡ get_or xs k r → k < i → first_number (drop k xs) mtu (i - k) ≡ span_of r mtu + first_number (drop (k + 1) xs) mtu (i - (k + 1))
unfolding first_number
first_step xs mtu i k r h read below =
    let more : i - k ≡ suc (i - (k + 1)) = omega arith in
    at_drop_more (λ ys. first_number ys mtu (i - k)) xs k r h ∙ rw (← read, more) refl

-- the next landing is in request k
pub lands_here : (xs : List Posted) (mtu n k : ℕ) (r : Posted) → k < length xs → r ≡ get_or xs k r → nat_lt n (span_of r mtu) ≡ true → lands (kind_of r) ≡ true → next_landing (drop k xs) mtu n ≡ n
unfolding next_landing
lands_here xs mtu n k r h read inside landing = at_drop_more (λ ys. next_landing ys mtu n) xs k r h ∙ rw (← read, inside, landing) refl

-- .. or after it
pub lands_later : (xs : List Posted) (mtu n k : ℕ) (r : Posted) → k < length xs → r ≡ get_or xs k r → nat_lt n (span_of r mtu) ≡ true → lands (kind_of r) ≡ false → next_landing (drop k xs) mtu n ≡ span_of r mtu + next_landing (drop (k + 1) xs) mtu 0
unfolding next_landing
lands_later xs mtu n k r h read inside other = at_drop_more (λ ys. next_landing ys mtu n) xs k r h ∙ rw (← read, inside, other) refl

-- n is past request k
pub lands_past : (xs : List Posted) (mtu n k : ℕ) (r : Posted) → k < length xs → r ≡ get_or xs k r → span_of r mtu ≤ n → next_landing (drop k xs) mtu n ≡ span_of r mtu + next_landing (drop (k + 1) xs) mtu (n - span_of r mtu)
unfolding next_landing
lands_past xs mtu n k r h read past =
    let not_inside : nat_lt n (span_of r mtu) ≡ false = not_below n (span_of r mtu) past in
    at_drop_more (λ ys. next_landing ys mtu n) xs k r h ∙ rw (← read, not_inside) refl

pub first_none : (xs : List Posted) (mtu n : ℕ) → n ≡ 0 → first_number xs mtu n ≡ 0
unfolding first_number
first_none [] mtu n e = refl
first_none (x ∷ xs) mtu n e = rw e refl

-- past the last request
pub first_end : (xs : List Posted) (mtu n k : ℕ) → length xs ≤ k → first_number (drop k xs) mtu n ≡ 0
unfolding first_number
first_end xs mtu n k h = at_drop_all (λ ys. first_number ys mtu n) xs k h

pub landing_end : (xs : List Posted) (mtu n k : ℕ) → length xs ≤ k → next_landing (drop k xs) mtu n ≡ n
unfolding next_landing
landing_end xs mtu n k h = at_drop_all (λ ys. next_landing ys mtu n) xs k h

pub ruleset numbering = (first_step, first_none, first_end, lands_here, lands_later, lands_past, landing_end)
