-- The request and the piece that a packet number is, one request after another.
use Rattle.std.proofs.Common.{◌≡◌, ◌<◌, ◌≤◌, ◌+◌, ◌-◌, ℕ, suc, true, false, List, length, drop, get_or, refl, ◌∙◌, nat_lt, arith}
use Rattle.std.proofs.lemmas.Bool.Decides.{nat_tests}
use Rattle.std.proofs.lemmas.List.{at_drop_more, at_drop_all}
use Rattle.rdma_types.specs.Objects.{Posted}
use Rattle.rdma_types.specs.Spans.{span_of, piece_of, request_of}

below : (m n : ℕ) → m < n → nat_lt m n ≡ true
below m n h = grind (arith, nat_tests)

not_below : (m n : ℕ) → n ≤ m → nat_lt m n ≡ false
not_below m n h = grind (arith, nat_tests)

-- n is in request k
pub request_here : (xs : List Posted) (mtu n k : ℕ) (r : Posted) → k < length xs → r ≡ get_or xs k r → n < span_of r mtu → request_of (drop k xs) mtu n ≡ 0
unfolding request_of
request_here xs mtu n k r h read inside =
    let is : nat_lt n (span_of r mtu) ≡ true = below n (span_of r mtu) inside in
    at_drop_more (λ ys. request_of ys mtu n) xs k r h ∙ rw (← read, is) refl

pub piece_here : (xs : List Posted) (mtu n k : ℕ) (r : Posted) → k < length xs → r ≡ get_or xs k r → n < span_of r mtu → piece_of (drop k xs) mtu n ≡ n
unfolding piece_of
piece_here xs mtu n k r h read inside =
    let is : nat_lt n (span_of r mtu) ≡ true = below n (span_of r mtu) inside in
    at_drop_more (λ ys. piece_of ys mtu n) xs k r h ∙ rw (← read, is) refl

-- n is past request k
pub request_past : (xs : List Posted) (mtu n k : ℕ) (r : Posted) → k < length xs → r ≡ get_or xs k r → span_of r mtu ≤ n → request_of (drop k xs) mtu n ≡ suc (request_of (drop (k + 1) xs) mtu (n - span_of r mtu))
unfolding request_of
request_past xs mtu n k r h read past =
    let is : nat_lt n (span_of r mtu) ≡ false = not_below n (span_of r mtu) past in
    at_drop_more (λ ys. request_of ys mtu n) xs k r h ∙ rw (← read, is) refl

pub piece_past : (xs : List Posted) (mtu n k : ℕ) (r : Posted) → k < length xs → r ≡ get_or xs k r → span_of r mtu ≤ n → piece_of (drop k xs) mtu n ≡ piece_of (drop (k + 1) xs) mtu (n - span_of r mtu)
unfolding piece_of
piece_past xs mtu n k r h read past =
    let is : nat_lt n (span_of r mtu) ≡ false = not_below n (span_of r mtu) past in
    at_drop_more (λ ys. piece_of ys mtu n) xs k r h ∙ rw (← read, is) refl

-- no request is left
pub request_end : (xs : List Posted) (mtu n k : ℕ) → length xs ≤ k → request_of (drop k xs) mtu n ≡ 0
unfolding request_of
request_end xs mtu n k h = at_drop_all (λ ys. request_of ys mtu n) xs k h

pub piece_end : (xs : List Posted) (mtu n k : ℕ) → length xs ≤ k → piece_of (drop k xs) mtu n ≡ n
unfolding piece_of
piece_end xs mtu n k h = at_drop_all (λ ys. piece_of ys mtu n) xs k h

pub ruleset placing = (request_here, piece_here, request_past, piece_past, request_end, piece_end)
