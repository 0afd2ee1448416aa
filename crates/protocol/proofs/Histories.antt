-- What the rules say of every datagram ever sent, they say of the list whose forgotten datagrams are blank.
use Rattle.std.proofs.Common.{◌≡◌, ℕ, zero, suc, ◌+◌, ◌-◌, ◌<◌, ◌≤◌, if◌then◌else◌, true, false, List, [], ◌∷◌, ◌++◌, length, take, drop, replicate, Option, refl, sym, ap, ◌∙◌, arith, map, inl, inr, add-zero, length-append, length-drop, append_assoc}
use Rattle.std.proofs.lemmas.Bool.{and_parts, cases_Bool, false_from_ne_true, leb-true, ltb-true}
use Rattle.std.proofs.lemmas.List.{length-replicate, length-take-le, take-append-drop, append-nil, drop_at, drop-drop, drop-append-le, map-append}
use Rattle.std.specs.List.{slice_get}
use Rattle.rdma_types.specs.declared.answers.Sent.{Sent}
use Rattle.rdma_types.specs.declared.requests.Address.{Address}
use Rattle.protocol.specs.State.{Flight}
use Rattle.protocol.specs.Fabric.{after_blanks, blank, changed_at, first_of, flight_of, forgetting, is_kept, kept_flight, look, look_at, losing, marked_lost, marked_taken, pending, pending_from, sending, took}

-- ---- which are kept

-- what it means to be kept
pub kept_means : (count k : ℕ) → is_kept count k ≡ true → (1 ≤ k) × (k ≤ count) × (count < k + 16384)
kept_means count k h =
    let parts = and_parts _ _ h in
    let more = and_parts _ _ parts.1 in
    (leb-true 1 k parts.0, leb-true k count more.0, ltb-true count (k + 16384) more.1)

-- ---- lists behind others

-- an element behind the blank ones
pub slice_get-behind : (n j : ℕ) (fs : List Flight) → n ≤ j → slice_get (replicate n blank ++ fs) j ≡ slice_get fs (j - n)
slice_get-behind zero j fs h = let same : j - 0 ≡ j = omega arith in rw same refl
slice_get-behind (suc n) zero fs h = absurd (omega arith)
slice_get-behind (suc n) (suc j) fs h = let same : suc j - suc n ≡ j - n = omega arith in rw same (slice_get-behind n j fs (omega arith))

-- a change behind them
pub changed_at-behind : (change : Flight → Flight) (n j : ℕ) (fs : List Flight) → n ≤ j → changed_at change j (replicate n blank ++ fs) ≡ replicate n blank ++ changed_at change (j - n) fs
unfolding changed_at
changed_at-behind change zero j fs h = let same : j - 0 ≡ j = omega arith in rw same refl
changed_at-behind change (suc n) zero fs h = absurd (omega arith)
changed_at-behind change (suc n) (suc j) fs h =
    let same : suc j - suc n ≡ j - n = omega arith in
    rw same (ap (λ (gs : List Flight). blank ∷ gs) (changed_at-behind change n j fs (omega arith)))

-- how long it is
pub length-after_blanks : (gone : ℕ) (kept : List Flight) → length (after_blanks gone kept) ≡ gone + length kept
length-after_blanks gone kept = omega (arith, length-append (replicate gone blank) kept, length-replicate gone blank)

-- the datagrams with one of the kept ones changed
abbrev pub marked : (Flight → Flight) → List Flight → ℕ → List Flight
marked change sent k = if is_kept (length sent) k then changed_at change (k - 1) sent else sent

-- numbers that are not kept are not pending
pub pending_from-skips : (count k : ℕ) (front rest : List Flight) → ((j : ℕ) → k ≤ j → j < k + length front → is_kept count j ≡ false) → pending_from count k (front ++ rest) ≡ pending_from count (k + length front) rest
unfolding pending_from
pending_from-skips count k [] rest none = rw add-zero refl
pending_from-skips count k (f ∷ fs) rest none =
    let along : k + suc (length fs) ≡ k + 1 + length fs = omega arith in
    rw (none k (omega arith) (omega arith), along) (pending_from-skips count (k + 1) fs rest (λ j above below. none j (omega arith) (omega arith)))

-- ---- parts of lists

slice_get-drop : {X : Type 0} (n i : ℕ) (xs : List X) → n ≤ i → slice_get (drop n xs) (i - n) ≡ slice_get xs i
slice_get-drop zero i xs h = let same : i - 0 ≡ i = omega arith in rw same refl
slice_get-drop (suc n) i [] h = refl
slice_get-drop (suc n) zero (x ∷ xs) h = absurd (omega arith)
slice_get-drop (suc n) (suc i) (x ∷ xs) h = let same : suc i - suc n ≡ i - n = omega arith in rw same (slice_get-drop n i xs (omega arith))

length-changed_at : (change : Flight → Flight) (j : ℕ) (fs : List Flight) → length (changed_at change j fs) ≡ length fs
unfolding changed_at
length-changed_at change j [] = refl
length-changed_at change zero (f ∷ fs) = refl
length-changed_at change (suc j) (f ∷ fs) = ap suc (length-changed_at change j fs)

drop-changed_at : (change : Flight → Flight) (n j : ℕ) (fs : List Flight) → n ≤ j → drop n (changed_at change j fs) ≡ changed_at change (j - n) (drop n fs)
unfolding changed_at
drop-changed_at change zero j fs h = let same : j - 0 ≡ j = omega arith in rw same refl
drop-changed_at change (suc n) j [] h = refl
drop-changed_at change (suc n) zero (f ∷ fs) h = absurd (omega arith)
drop-changed_at change (suc n) (suc j) (f ∷ fs) h = let same : suc j - suc n ≡ j - n = omega arith in rw same (drop-changed_at change n j fs (omega arith))

-- ---- forgetting

-- none is lost from the count
pub length-forgetting : (sent : List Flight) → length (forgetting sent) ≡ length sent
unfolding forgetting
length-forgetting sent = omega (arith, length-after_blanks (length sent - 16384) (drop (length sent - 16384) sent), length-drop (length sent - 16384) sent)

-- nothing sent, nothing known
pub forgetting-nil : forgetting [] ≡ []
unfolding forgetting
forgetting-nil = refl

-- what is known of a list with more behind it
known_with : (sent more : List Flight) → forgetting (sent ++ more) ≡ after_blanks (length sent + length more - 16384) (drop (length sent + length more - 16384) (sent ++ more))
unfolding forgetting
known_with sent more = rw (length-append sent more) refl

-- the rest of a list behind blank ones
drop-behind : (n m : ℕ) (sent more : List Flight) → n ≤ length sent → n ≤ m → drop m (after_blanks n (drop n sent) ++ more) ≡ drop m (sent ++ more)
drop-behind n m sent more within above =
    let split : m ≡ n + (m - n) = omega arith in
    let blanks : drop n (replicate n blank ++ (drop n sent ++ more)) ≡ drop n sent ++ more = drop_at (replicate n blank) (drop n sent ++ more) n (length-replicate n blank) in
    let left : drop (m - n) (drop n sent ++ more) ≡ drop (n + (m - n)) (replicate n blank ++ (drop n sent ++ more)) = ap (λ (fs : List Flight). drop (m - n) fs) (sym blanks) ∙ drop-drop (m - n) n (replicate n blank ++ (drop n sent ++ more)) in
    let right : drop (m - n) (drop n sent ++ more) ≡ drop (n + (m - n)) (sent ++ more) = ap (λ (fs : List Flight). drop (m - n) fs) (sym (drop-append-le n sent more within)) ∙ drop-drop (m - n) n (sent ++ more) in
    rw (append_assoc, split) (sym left ∙ right)

-- more behind what is known
pub forgetting-append : (sent more : List Flight) → forgetting (forgetting sent ++ more) ≡ forgetting (sent ++ more)
unfolding forgetting
forgetting-append sent more =
    let count = length-append sent more in
    let known = length-forgetting sent in
    let after = length-append (forgetting sent) more in
    let same : length (forgetting sent ++ more) - 16384 ≡ length (sent ++ more) - 16384 = omega arith in
    rw (same, drop-behind (length sent - 16384) (length (sent ++ more) - 16384) sent more (omega arith) (omega arith)) refl

-- ---- what the rules say

-- a number that is kept is not blank
kept_above : (sent : List Flight) (k : ℕ) → is_kept (length sent) k ≡ true → length sent - 16384 ≤ k - 1
kept_above sent k h = let means = kept_means (length sent) k h in omega (arith, means.0, means.2)

-- the kept datagrams are the same
pub kept_flight-forgetting : (sent : List Flight) (k : ℕ) → kept_flight (forgetting sent) k ≡ kept_flight sent k
unfolding kept_flight forgetting
kept_flight-forgetting sent k = rw (length-forgetting sent) (elim (cases_Bool (is_kept (length sent) k)) [
  | inl kept ↦
      let above = kept_above sent k kept in
      rw (kept, slice_get-behind (length sent - 16384) (k - 1) (drop (length sent - 16384) sent) above) (slice_get-drop (length sent - 16384) (k - 1) sent above)
  | inr none ↦ rw none refl
])

-- and what each is for its receiver
pub look-forgetting : (sent : List Flight) (k now : ℕ) → look (forgetting sent) k now ≡ look sent k now
unfolding look
look-forgetting sent k now = ap (λ (o : Option Flight). look_at o now) (kept_flight-forgetting sent k)

-- a kept one changed
marked-forgetting : (change : Flight → Flight) (sent : List Flight) (k : ℕ) → marked change (forgetting sent) k ≡ forgetting (marked change sent k)
unfolding forgetting
marked-forgetting change sent k = rw (length-forgetting sent) (elim (cases_Bool (is_kept (length sent) k)) [
  | inl kept ↦
      let above = kept_above sent k kept in
      let same = length-changed_at change (k - 1) sent in
      rw (kept, same, changed_at-behind change (length sent - 16384) (k - 1) (drop (length sent - 16384) sent) above, drop-changed_at change (length sent - 16384) (k - 1) sent above) refl
  | inr none ↦ rw none refl
])

pub took-forgetting : (sent : List Flight) (k : ℕ) → took (forgetting sent) k ≡ forgetting (took sent k)
unfolding took
took-forgetting sent k = marked-forgetting marked_taken sent k

pub losing-forgetting : (sent : List Flight) (k : ℕ) → losing (forgetting sent) k ≡ forgetting (losing sent k)
unfolding losing
losing-forgetting sent k = marked-forgetting marked_lost sent k

-- more that are sent
pub sending-forgetting : (sent : List Flight) (from : Address) (more : List Sent) → forgetting (sending (forgetting sent) from more) ≡ forgetting (sending sent from more)
unfolding sending
sending-forgetting sent from more = forgetting-append sent (map (flight_of from) more)

-- and more behind those
pub sending-one_by_one : (sent : List Flight) (from : Address) (some more : List Sent) → forgetting (sending (forgetting (sending sent from some)) from more) ≡ forgetting (sending sent from (some ++ more))
unfolding sending
sending-one_by_one sent from some more =
    rw (map-append (flight_of from) some more, ← append_assoc sent (map (flight_of from) some) (map (flight_of from) more)) (forgetting-append (sent ++ map (flight_of from) some) (map (flight_of from) more))

-- a mark changes no count
pub length-took : (sent : List Flight) (k : ℕ) → length (took sent k) ≡ length sent
unfolding took
length-took sent k = elim (cases_Bool (is_kept (length sent) k)) [ inl kept ↦ rw kept (length-changed_at marked_taken (k - 1) sent) | inr none ↦ rw none refl ]

pub length-losing : (sent : List Flight) (k : ℕ) → length (losing sent k) ≡ length sent
unfolding losing
length-losing sent k = elim (cases_Bool (is_kept (length sent) k)) [ inl kept ↦ rw kept (length-changed_at marked_lost (k - 1) sent) | inr none ↦ rw none refl ]

-- no number that is forgotten is kept
forgotten : (count n j : ℕ) → n ≡ count - 16384 → j < 1 + n → is_kept count j ≡ false
forgotten count n j is below = false_from_ne_true _ (λ h. let means = kept_means count j h in omega (arith, means.0, means.2))

-- the pending number
pub pending-forgetting : (sent : List Flight) → pending (forgetting sent) ≡ pending sent
unfolding pending forgetting
pending-forgetting sent =
    let n = length sent - 16384 in
    let blanks = length-replicate n blank in
    let front = length-take-le n sent (omega arith) in
    let after_blank = pending_from-skips (length sent) 1 (replicate n blank) (drop n sent) (λ j above below. forgotten (length sent) n j refl (omega arith)) in
    let after_front = pending_from-skips (length sent) 1 (take n sent) (drop n sent) (λ j above below. forgotten (length sent) n j refl (omega arith)) in
    let whole = take-append-drop n sent in
    let rest : List ℕ = pending_from (length sent) (1 + n) (drop n sent) in
    let known : pending_from (length (forgetting sent)) 1 (forgetting sent) ≡ rest = rw (length-forgetting sent, after_blank, blanks) refl in
    let all : pending_from (length sent) 1 (take n sent ++ drop n sent) ≡ rest = rw (after_front, front) refl in
    ap first_of (known ∙ sym all ∙ ap (λ (fs : List Flight). pending_from (length sent) 1 fs) whole)

-- forgetting again forgets nothing
pub forgetting-forgetting : (sent : List Flight) → forgetting (forgetting sent) ≡ forgetting sent
forgetting-forgetting sent = ap forgetting (sym (append-nil (forgetting sent))) ∙ forgetting-append sent [] ∙ ap forgetting (append-nil sent)
