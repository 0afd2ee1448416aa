-- The kept datagrams behind those that are not kept any more, and what the rules say of them.
use Rattle.std.proofs.Common.{◌≡◌, ℕ, zero, suc, ◌+◌, ◌-◌, ◌<◌, ◌≤◌, ◌⊎◌, ◌&&◌, ◌||◌, not, nat_lt, true, false, List, [], ◌∷◌, ◌++◌, length, get_or, set, drop, replicate, Some, None, refl, sym, ap, ◌∙◌, arith, inl, inr, add-zero, length-append, length-drop, length-set}
use Rattle.std.proofs.lemmas.Bool.{cases_Bool, and_from, ltb-true, ltb-false, le-leb, lt-ltb, false_from_ne_true, and_right}
use Rattle.std.proofs.lemmas.List.{length-replicate, append_assoc, drop_at, drop-drop, drop-append-le}
use Rattle.std.specs.List.{prefix_len, slice_get}
use Rattle.protocol.specs.State.{Flight}
use Rattle.protocol.specs.Fabric.{after_blanks, blank, changed_at, first_of, forgetting, is_kept, kept_flight, marked_lost, marked_taken, pending, pending_from}
use Rattle.protocol.proofs.Histories.{changed_at-behind, kept_means, length-after_blanks, marked, pending_from-skips, slice_get-behind}
use Rattle.fabric.specs.Store.{is_settled, oldest_of_full, IsStore}
use Rattle.fabric.proofs.Prefixes.{prefix_within, prefix_from, prefix-set_passing, prefix-append_more, prefix-drop_fewer}

-- ---- which are kept

-- the kept ones are those behind the blank ones
pub is_kept_behind : (gone n k : ℕ) → n ≤ 16384 → (0 < gone → n ≡ 16384) → gone < k → k ≤ gone + n → is_kept (gone + n) k ≡ true
is_kept_behind gone n k room full above within =
    and_from _ _ (le-leb 1 k (omega arith)) (and_from _ _ (le-leb k (gone + n) within) (lt-ltb (gone + n) (k + 16384) (omega arith)))

-- none of the blank ones is kept
pub not_kept_before : (gone n k : ℕ) → (0 < gone → n ≡ 16384) → k ≤ gone → is_kept (gone + n) k ≡ false
not_kept_before gone n k full below = false_from_ne_true _ (λ h. let means = kept_means (gone + n) k h in omega (arith, means.0, means.2))

-- nor one that was never sent
pub not_kept_after : (gone n k : ℕ) → gone + n < k → is_kept (gone + n) k ≡ false
not_kept_after gone n k above = false_from_ne_true _ (λ h. let means = kept_means (gone + n) k h in omega (arith, means.1))

-- ---- lists behind others

-- a change is a write
pub changed_at-set : (change : Flight → Flight) (j : ℕ) (fs : List Flight) (f : Flight) → j < length fs → f ≡ get_or fs j f → changed_at change j fs ≡ set fs j (change f)
unfolding changed_at
changed_at-set change j [] f h e = absurd (omega arith)
changed_at-set change zero (g ∷ fs) f h e = ap (λ (x : Flight). change x ∷ fs) (sym e)
changed_at-set change (suc j) (g ∷ fs) f h e = ap (λ (xs : List Flight). g ∷ xs) (changed_at-set change j fs f (omega arith) e)

-- ---- the store's answers

-- nothing was forgotten, or the store is full
none_or_full : (gone n : ℕ) → (0 < gone → n ≡ 16384) → (gone ≡ 0) ⊎ (n ≡ 16384)
none_or_full zero n h = inl refl
none_or_full (suc gone) n h = inr (h (omega arith))

-- a kept datagram
pub kept_flight-here : (gone : ℕ) (kept : List Flight) (k i : ℕ) → length kept ≤ 16384 → (0 < gone → length kept ≡ 16384) → i < length kept → k ≡ gone + i + 1 → kept_flight (after_blanks gone kept) k ≡ slice_get kept i
unfolding kept_flight
kept_flight-here gone kept k i room full within at =
    let place : k - 1 - gone ≡ i = omega arith in
    rw (length-after_blanks gone kept, is_kept_behind gone (length kept) k room full (omega arith) (omega arith), slice_get-behind gone (k - 1) kept (omega arith), place) refl

-- no datagram
pub kept_flight-gone : (gone n : ℕ) (kept : List Flight) (k : ℕ) → (0 < gone → length kept ≡ 16384) → n ≡ length kept → (k ≤ gone) ⊎ (gone + n < k) → kept_flight (after_blanks gone kept) k ≡ None
unfolding kept_flight
kept_flight-gone gone n kept k full all (inl below) = rw (length-after_blanks gone kept, not_kept_before gone (length kept) k full below) refl
kept_flight-gone gone n kept k full all (inr above) = rw (length-after_blanks gone kept, not_kept_after gone (length kept) k (omega arith)) refl

-- the oldest one of a full store
pub kept_flight-oldest : (gone : ℕ) (kept : List Flight) → length kept ≤ 16384 → (0 < gone → length kept ≡ 16384) → oldest_of_full kept ≡ kept_flight (after_blanks gone kept) (length (after_blanks gone kept) - 16383)
kept_flight-oldest gone kept room full =
    let all = length-after_blanks gone kept in
    elim (cases_Bool (nat_lt (length kept) 16384)) [
      | inl less ↦
          let fewer = ltb-true (length kept) 16384 less in
          let none : gone ≡ 0 = elim (none_or_full gone (length kept) full) [ inl none ↦ none | inr every ↦ absurd (omega arith) ] in
          let place : length (after_blanks gone kept) - 16383 ≡ 0 = omega arith in
          rw (less, place) (sym (kept_flight-gone gone (length kept) kept 0 full refl (inl (omega arith))))
      | inr more ↦
          let many = ltb-false (length kept) 16384 more in
          let at : length (after_blanks gone kept) - 16383 ≡ gone + 0 + 1 = omega arith in
          rw (more, at) (sym (kept_flight-here gone kept (gone + 0 + 1) 0 room full (omega arith) refl))
    ]

-- ---- the store changed

pub marked-here : (change : Flight → Flight) (gone : ℕ) (kept : List Flight) (k i : ℕ) (f : Flight) → length kept ≤ 16384 → (0 < gone → length kept ≡ 16384) → i < length kept → k ≡ gone + i + 1 → f ≡ get_or kept i f → after_blanks gone (set kept i (change f)) ≡ marked change (after_blanks gone kept) k
marked-here change gone kept k i f room full within at is =
    let place : k - 1 - gone ≡ i = omega arith in
    rw (length-after_blanks gone kept, is_kept_behind gone (length kept) k room full (omega arith) (omega arith), changed_at-behind change gone (k - 1) kept (omega arith), place, changed_at-set change i kept f within is) refl

pub marked-gone : (change : Flight → Flight) (gone n : ℕ) (kept : List Flight) (k : ℕ) → (0 < gone → length kept ≡ 16384) → n ≡ length kept → (k ≤ gone) ⊎ (gone + n < k) → after_blanks gone kept ≡ marked change (after_blanks gone kept) k
marked-gone change gone n kept k full all (inl below) = rw (length-after_blanks gone kept, not_kept_before gone (length kept) k full below) refl
marked-gone change gone n kept k full all (inr above) = rw (length-after_blanks gone kept, not_kept_after gone (length kept) k (omega arith)) refl

-- the store is sound where a datagram was settled
pub is_store-set : (gone settled new i : ℕ) (kept : List Flight) (f : Flight) → IsStore gone settled kept → is_settled f ≡ true → new ≡ settled + prefix_len is_settled (drop settled (set kept i f)) → IsStore gone new (set kept i f)
is_store-set gone settled new i kept f store marks is =
    let same = length-set kept i f in
    let more = prefix-set_passing is_settled kept i f marks in
    let from = prefix_from is_settled settled (set kept i f) (omega (arith, store.front, more)) in
    record { room = omega (arith, same, store.room); full = λ h. same ∙ store.full h; few = omega (arith, same, store.few); front = omega (arith, is, from) }

-- the first place that is not settled is within the store
pub settled_within : (gone settled : ℕ) (kept : List Flight) → IsStore gone settled kept → settled ≤ length kept
settled_within gone settled kept store = omega (arith, store.front, prefix_within is_settled kept)

-- ---- pending

-- the first that is not settled
pub first_pending : (count k : ℕ) (fs : List Flight) → ((j : ℕ) → k ≤ j → j < k + length fs → is_kept count j ≡ true) → prefix_len is_settled fs < length fs → Some (k + prefix_len is_settled fs) ≡ first_of (pending_from count k fs)
unfolding pending_from
first_pending count k [] each h = absurd (omega arith)
first_pending count k (f ∷ fs) each h =
    let here = each k (omega arith) (omega arith) in
    let later : (j : ℕ) → k + 1 ≤ j → j < k + 1 + length fs → is_kept count j ≡ true = λ j above below. each j (omega arith) (omega arith) in
    elim (cases_Bool f.lost) [
      | inl lost ↦
          let less = rw lost at h in
          let along : k + (1 + prefix_len is_settled fs) ≡ k + 1 + prefix_len is_settled fs = omega arith in
          rw (here, lost, along) (first_pending count (k + 1) fs later (omega (arith, less)))
      | inr kept ↦ elim (cases_Bool f.taken) [
        | inl taken ↦
            let less = rw (kept, taken) at h in
            let along : k + (1 + prefix_len is_settled fs) ≡ k + 1 + prefix_len is_settled fs = omega arith in
            rw (here, kept, taken, along) (first_pending count (k + 1) fs later (omega (arith, less)))
        | inr waits ↦ rw (here, kept, waits, add-zero) refl
      ]
    ]

-- none, where all are settled
pub none_pending : (count k : ℕ) (fs : List Flight) → prefix_len is_settled fs ≡ length fs → None ≡ first_of (pending_from count k fs)
unfolding pending_from
none_pending count k [] h = refl
none_pending count k (f ∷ fs) h = elim (cases_Bool f.lost) [
  | inl lost ↦
      let less = rw lost at h in
      rw (lost, and_right (is_kept count k) (false && not f.taken) refl) (none_pending count (k + 1) fs (omega (arith, less)))
  | inr kept ↦ elim (cases_Bool f.taken) [
    | inl taken ↦
        let less = rw (kept, taken) at h in
        rw (kept, taken, and_right (is_kept count k) (true && false) refl) (none_pending count (k + 1) fs (omega (arith, less)))
    | inr waits ↦ let none = rw (kept, waits) at h in absurd (omega (arith, none))
  ]
]

-- the blank ones are skipped
pending-kept : (gone : ℕ) (kept : List Flight) → (0 < gone → length kept ≡ 16384) → pending (after_blanks gone kept) ≡ first_of (pending_from (gone + length kept) (gone + 1) kept)
unfolding pending
pending-kept gone kept full =
    let blanks : 1 + length (replicate gone blank) ≡ gone + 1 = omega (arith, length-replicate gone blank) in
    let skips = pending_from-skips (gone + length kept) 1 (replicate gone blank) kept (λ j above below. not_kept_before gone (length kept) j full (omega (arith, length-replicate gone blank))) in
    rw (length-after_blanks gone kept, skips, blanks) refl

-- the pending number is that of the first place that is not settled
pub pending-some : (gone settled : ℕ) (kept : List Flight) → IsStore gone settled kept → settled < length kept → Some (gone + settled + 1) ≡ pending (after_blanks gone kept)
pending-some gone settled kept store within =
    let first = first_pending (gone + length kept) (gone + 1) kept (λ j above below. is_kept_behind gone (length kept) j store.room store.full (omega arith) (omega arith)) (omega (arith, store.front)) in
    let at : gone + settled + 1 ≡ gone + 1 + prefix_len is_settled kept = omega (arith, store.front) in
    rw (pending-kept gone kept store.full, at) first

pub pending-none : (gone settled : ℕ) (kept : List Flight) → IsStore gone settled kept → settled ≡ length kept → None ≡ pending (after_blanks gone kept)
pending-none gone settled kept store all =
    rw (pending-kept gone kept store.full) (none_pending (gone + length kept) (gone + 1) kept (omega (arith, store.front)))

-- ---- sending

-- one more, and n oldest ones are forgotten: none where there is room, and one where there is not
pub forgetting-send : (gone n : ℕ) (kept : List Flight) (f : Flight) → length kept ≤ 16384 → (0 < gone → length kept ≡ 16384) → n ≡ length kept + 1 - 16384 → after_blanks (gone + n) (drop n kept ++ f ∷ []) ≡ forgetting (after_blanks gone kept ++ f ∷ [])
unfolding forgetting
forgetting-send gone n kept f room full is =
    let count = length-append (after_blanks gone kept) (f ∷ []) in
    let before = length-after_blanks gone kept in
    let now : length (after_blanks gone kept ++ f ∷ []) - 16384 ≡ gone + n = elim (none_or_full gone (length kept) full) [ inl none ↦ omega (arith, count, before) | inr all ↦ omega (arith, count, before) ] in
    let behind : drop gone (replicate gone blank ++ (kept ++ f ∷ [])) ≡ kept ++ f ∷ [] = drop_at (replicate gone blank) (kept ++ f ∷ []) gone (length-replicate gone blank) in
    rw (now, append_assoc, ← drop-drop n gone (replicate gone blank ++ (kept ++ f ∷ [])), behind, drop-append-le n kept (f ∷ []) (omega arith)) refl

-- a store knows no more than is kept
pub forgetting-store : (gone : ℕ) (kept : List Flight) → length kept ≤ 16384 → (0 < gone → length kept ≡ 16384) → forgetting (after_blanks gone kept) ≡ after_blanks gone kept
unfolding forgetting
forgetting-store gone kept room full =
    let before = length-after_blanks gone kept in
    let same : length (after_blanks gone kept) - 16384 ≡ gone = elim (none_or_full gone (length kept) full) [ inl none ↦ omega (arith, before) | inr all ↦ omega (arith, before) ] in
    rw (same, drop_at (replicate gone blank) kept gone (length-replicate gone blank)) refl

-- the store is sound with one more datagram
pub is_store-send : (gone settled new n : ℕ) (kept : List Flight) (f : Flight) → IsStore gone settled kept → n ≡ length kept + 1 - 16384 → gone + length kept + 1 < 9223372036854775808 → new ≡ settled - n + prefix_len is_settled (drop (settled - n) (drop n kept ++ f ∷ [])) → IsStore (gone + n) new (drop n kept ++ f ∷ [])
is_store-send gone settled new n kept f store is few at =
    let count = length-append (drop n kept) (f ∷ []) in
    let fewer = length-drop n kept in
    let less = prefix-drop_fewer is_settled n kept in
    let more = prefix-append_more is_settled (drop n kept) (f ∷ []) in
    let from = prefix_from is_settled (settled - n) (drop n kept ++ f ∷ []) (omega (arith, store.front, less, more)) in
    let room = store.room in
    record {
      room = omega (arith, count, fewer);
      full = λ some. elim (none_or_full gone (length kept) store.full) [ inl none ↦ omega (arith, count, fewer) | inr all ↦ omega (arith, count, fewer) ];
      few = omega (arith, count, fewer);
      front = omega (arith, at, from);
    }

-- the first place that may not be settled is within the store
pub settled_within-send : (gone settled n : ℕ) (kept : List Flight) (f : Flight) → IsStore gone settled kept → n ≡ length kept + 1 - 16384 → settled - n ≤ length (drop n kept ++ f ∷ [])
settled_within-send gone settled n kept f store is = omega (arith, length-append (drop n kept) (f ∷ []), length-drop n kept, settled_within gone settled kept store)

-- a datagram that was taken or lost is settled
pub is_settled-taken : (f : Flight) → is_settled (marked_taken f) ≡ true
is_settled-taken f = elim f.lost as (λ b. (b || true) ≡ true) [ true ↦ refl | false ↦ refl ]

pub is_settled-lost : (f : Flight) → is_settled (marked_lost f) ≡ true
is_settled-lost f = refl
