-- Packet numbers, counted from a request on.
use Rattle.std.proofs.Common.{arith, ◌≡◌, ◌<◌, ◌≤◌, ◌+◌, ◌-◌, ℕ, zero, suc, true, false, List, [], ◌∷◌, ◌++◌, length, take, drop, get_or, refl, ◌∙◌, ap, sym, length-append, nat_lt, Bool}
use Rattle.std.proofs.lemmas.Bool.Decides.{nat_tests}
use Rattle.std.proofs.lemmas.List.{at_drop_more, take_rest}
use Rattle.rdma_types.specs.Objects.{Posted}
use Rattle.rdma_types.specs.Spans.{span_of, first_number, next_landing, piece_of, request_of}
use Rattle.packetless_machine.specs.Counted.{IsMark}

not_below : (m n : ℕ) → n ≤ m → nat_lt m n ≡ false
not_below m n h = grind (arith, nat_tests)

-- the first request has the first number
pub first_at_start : (xs : List Posted) (mtu : ℕ) → first_number xs mtu 0 ≡ 0
unfolding first_number
first_at_start [] mtu = refl
first_at_start (x ∷ xs) mtu = refl

-- later requests change no number of those before them
pub first_kept : (xs ys : List Posted) (mtu k : ℕ) → k ≤ length xs → first_number (xs ++ ys) mtu k ≡ first_number xs mtu k
unfolding first_number
first_kept [] ys mtu zero h = first_at_start ys mtu
first_kept [] ys mtu (suc k) h = absurd (omega arith)
first_kept (x ∷ xs) ys mtu zero h = refl
first_kept (x ∷ xs) ys mtu (suc k) h = ap (λ n. span_of x mtu + n) (first_kept xs ys mtu k (omega arith))

-- the numbers of the requests from k on follow that of k
pub first_from : (xs : List Posted) (mtu k i : ℕ) → k ≤ i → first_number xs mtu i ≡ first_number xs mtu k + first_number (drop k xs) mtu (i - k)
unfolding first_number
first_from xs mtu zero i h = let whole : i - 0 ≡ i = omega arith in rw (first_at_start xs mtu, whole) (omega arith)
first_from [] mtu (suc k) i h = refl
first_from (x ∷ xs) mtu (suc k) zero h = absurd (omega arith)
first_from (x ∷ xs) mtu (suc k) (suc i) h =
    let less : k ≤ i = omega arith in
    let gap : suc i - suc k ≡ i - k = omega arith in
    let rest = first_from xs mtu k i less in
    rw gap (omega (arith, rest))

-- the request after r begins where r's numbers end
pub first_after : (xs : List Posted) (mtu k : ℕ) (r : Posted) → k < length xs → r ≡ get_or xs k r → first_number xs mtu (k + 1) ≡ first_number xs mtu k + span_of r mtu
unfolding first_number
first_after xs mtu k r h read =
    let gap : (k + 1) - k ≡ 1 = omega arith in
    let split = first_from xs mtu k (k + 1) (omega arith) in
    let one : first_number (drop k xs) mtu 1 ≡ span_of r mtu + first_number (drop (k + 1) xs) mtu 0 = at_drop_more (λ ys. first_number ys mtu 1) xs k r h ∙ rw (← read) refl in
    let whole : first_number xs mtu (k + 1) ≡ first_number xs mtu k + first_number (drop k xs) mtu 1 = rw gap at split in
    omega (arith, whole, one, first_at_start (drop (k + 1) xs) mtu)

-- so do the landings, the requests and the pieces of the numbers from k's on
pub landing_from : (xs : List Posted) (mtu k n : ℕ) → first_number xs mtu k ≤ n → next_landing xs mtu n ≡ first_number xs mtu k + next_landing (drop k xs) mtu (n - first_number xs mtu k)
unfolding first_number next_landing
landing_from xs mtu zero n h = let whole : n - 0 ≡ n = omega arith in rw (first_at_start xs mtu, whole) (omega arith)
landing_from [] mtu (suc k) n h = omega arith
landing_from (x ∷ xs) mtu (suc k) n h =
    let past : nat_lt n (span_of x mtu) ≡ false = not_below n (span_of x mtu) (omega arith) in
    let gap : n - (span_of x mtu + first_number xs mtu k) ≡ (n - span_of x mtu) - first_number xs mtu k = omega arith in
    let rest = landing_from xs mtu k (n - span_of x mtu) (omega arith) in
    rw (past, gap) (omega (arith, rest))

pub request_from : (xs : List Posted) (mtu k n : ℕ) → k ≤ length xs → first_number xs mtu k ≤ n → request_of xs mtu n ≡ k + request_of (drop k xs) mtu (n - first_number xs mtu k)
unfolding first_number request_of
request_from xs mtu zero n h l = let whole : n - 0 ≡ n = omega arith in rw (first_at_start xs mtu, whole) (omega arith)
request_from [] mtu (suc k) n h l = absurd (omega arith)
request_from (x ∷ xs) mtu (suc k) n h l =
    let past : nat_lt n (span_of x mtu) ≡ false = not_below n (span_of x mtu) (omega arith) in
    let gap : n - (span_of x mtu + first_number xs mtu k) ≡ (n - span_of x mtu) - first_number xs mtu k = omega arith in
    let rest = request_from xs mtu k (n - span_of x mtu) (omega arith) (omega arith) in
    rw (past, gap) (omega (arith, rest))

pub piece_from : (xs : List Posted) (mtu k n : ℕ) → first_number xs mtu k ≤ n → piece_of xs mtu n ≡ piece_of (drop k xs) mtu (n - first_number xs mtu k)
unfolding first_number piece_of
piece_from xs mtu zero n h = let whole : n - 0 ≡ n = omega arith in rw (first_at_start xs mtu, whole) refl
piece_from [] mtu (suc k) n h = omega arith
piece_from (x ∷ xs) mtu (suc k) n h =
    let past : nat_lt n (span_of x mtu) ≡ false = not_below n (span_of x mtu) (omega arith) in
    let gap : n - (span_of x mtu + first_number xs mtu k) ≡ (n - span_of x mtu) - first_number xs mtu k = omega arith in
    rw (past, gap) (piece_from xs mtu k (n - span_of x mtu) (omega arith))

-- no number belongs to more requests than there are
pub request_within : (xs : List Posted) (mtu n : ℕ) → request_of xs mtu n ≤ length xs
unfolding request_of
request_within [] mtu n = omega arith
request_within (x ∷ xs) mtu n = by (nat_lt n (span_of x mtu)) refl (request_within xs mtu (n - span_of x mtu))
  where
    by : (b : Bool) → nat_lt n (span_of x mtu) ≡ b → request_of xs mtu (n - span_of x mtu) ≤ length xs → request_of (x ∷ xs) mtu n ≤ length (x ∷ xs)
    by true e ih = rw e (omega arith)
    by false e ih = rw e (omega arith)

pub ruleset marks = (first_at_start, first_kept, first_after)

-- ---- marks

-- the start is a mark
pub mark_at_start : (xs : List Posted) (mtu : ℕ) → IsMark xs mtu 0 0
mark_at_start xs mtu = record { within = omega arith; first = sym (first_at_start xs mtu) }

-- a mark stays one as more is posted
pub mark_kept : (xs ys : List Posted) (mtu k n : ℕ) → IsMark xs mtu k n → IsMark (xs ++ ys) mtu k n
mark_kept xs ys mtu k n mark = record {
  within = omega (arith, mark.within, length-append xs ys);
  first = mark.first ∙ sym (first_kept xs ys mtu k mark.within);
}

-- ---- what is counted in the slice of the requests from a mark on

pub first_past : (xs : List Posted) (mtu k n i : ℕ) → IsMark xs mtu k n → k ≤ i → n + first_number (take (length xs - k) (drop k xs)) mtu (i - k) ≡ first_number xs mtu i
first_past xs mtu k n i mark past = rw take_rest (omega (arith, mark.first, first_from xs mtu k i past))

pub landing_past : (xs : List Posted) (mtu k n m : ℕ) → IsMark xs mtu k n → n ≤ m → n + next_landing (take (length xs - k) (drop k xs)) mtu (m - n) ≡ next_landing xs mtu m
landing_past xs mtu k n m mark past = rw (take_rest, mark.first) (omega (arith, landing_from xs mtu k m (rw mark.first at past)))

pub request_past : (xs : List Posted) (mtu k n m : ℕ) → IsMark xs mtu k n → n ≤ m → k + request_of (take (length xs - k) (drop k xs)) mtu (m - n) ≡ request_of xs mtu m
request_past xs mtu k n m mark past = rw (take_rest, mark.first) (omega (arith, request_from xs mtu k m mark.within (rw mark.first at past)))

pub piece_past : (xs : List Posted) (mtu k n m : ℕ) → IsMark xs mtu k n → n ≤ m → piece_of (take (length xs - k) (drop k xs)) mtu (m - n) ≡ piece_of xs mtu m
piece_past xs mtu k n m mark past = rw (take_rest, mark.first) (omega (arith, piece_from xs mtu k m (rw mark.first at past)))
