-- The ring's replies as a list, and what a list of replies with rising numbers answers.
use Rattle.std.proofs.Common.{◌≡◌, ℕ, zero, suc, ◌+◌, ◌-◌, ◌%◌, ◌<◌, ◌≤◌, ◌==◌, List, [], ◌∷◌, ◌++◌, length, drop, get_or, set, Option, Some, All, Contains, if◌then◌else◌, Bool, true, false, refl, ap, subst, ◌∙◌, arith, add-one, length-append, length-drop, length-take-le, length-set, append_assoc, inl, inr}
use Rattle.std.proofs.lemmas.List.{get_or-drop, take_more_set, take_all, drop-set-lt, append-nil, drop_all, drop-drop, drop-append-le}
use Rattle.std.proofs.lemmas.Option.{same_Some}
use Rattle.std.proofs.lemmas.Bool.{cases_lt, cases_Bool, eqb-true, eq-eqb, ne_eqb}
use Rattle.std.proofs.lemmas.List.Elements.{All-drop, All-push}
use Rattle.std.proofs.lemmas.List.Quantifiers.{all_pairs_push}
use Rattle.std.proofs.Math.Seq.{drop-cons}
use Rattle.std.specs.Option.{option_map, option_or}
use Rattle.std.specs.List.{find, fold}
use Rattle.protocol.specs.declared.images.KeptReply.{KeptReply}
use Rattle.rdma_types.specs.Lists.{first_that}
use Rattle.protocol.specs.Responder.{keeping}
use Rattle.transport.specs.Ring.{in_order, Rises, IsRing}

-- how many replies the ring has
pub length-in_order : (oldest len : ℕ) (ring : List KeptReply) → IsRing oldest len ring → length (in_order oldest len ring) ≡ len
length-in_order oldest len ring h =
    let in_len : oldest ≤ len = grind arith in
    simp (length-append, length-drop, length-take-le len ring (omega arith), length-take-le oldest ring (omega arith)) (omega arith)

-- ---- rising numbers

-- the later ones rise too
rises-drop : (n : ℕ) (ks : List KeptReply) → Rises ks → Rises (drop n ks)
rises-drop n ks h i j d before within =
    let at_i = get_or-drop n ks i d in
    let at_j = get_or-drop n ks j d in
    let later : n + j < length ks = omega (arith, length-drop n ks, within) in
    rw (at_i, at_j) (h (n + i) (n + j) d (omega arith) later)

-- a greater number may be kept
pub rises-keeping : (ks : List KeptReply) (k : KeptReply) → Rises ks → All (λ x. x.number < k.number) ks → Rises (keeping ks k)
unfolding keeping
rises-keeping ks k h below =
    rises-drop _ _ (all_pairs_push (λ a b. a.number < b.number) ks k h (λ i d within. below i d within))

-- what holds of each kept reply and of one more
pub All-keeping : (P : KeptReply → Type 0) (ks : List KeptReply) (k : KeptReply) → All P ks → P k → All P (keeping ks k)
unfolding keeping
All-keeping P ks k each one = All-drop P _ _ (All-push P ks k each one)

-- ---- keeping

-- fewer than sixteen are kept
keeping-room : (ks : List KeptReply) (k : KeptReply) → length ks < 16 → keeping ks k ≡ ks ++ k ∷ []
unfolding keeping
keeping-room ks k room = let none : length ks + 1 - 16 ≡ 0 = omega arith in rw none refl

-- sixteen are kept
keeping-full : (ks : List KeptReply) (k : KeptReply) → length ks ≡ 16 → keeping ks k ≡ drop 1 (ks ++ k ∷ [])
unfolding keeping
keeping-full ks k full = let one : length ks + 1 - 16 ≡ 1 = omega arith in rw one refl

-- a write behind the last reply
append_written : (len : ℕ) (ring : List KeptReply) (k : KeptReply) → len < length ring → in_order 0 (len + 1) (set ring len k) ≡ in_order 0 len ring ++ k ∷ []
append_written len ring k room = rw (append-nil, append-nil, take_more_set ring len k room) refl

-- a write over the oldest reply, which is not at the last place
over_oldest : (n oldest : ℕ) (ring : List KeptReply) (k : KeptReply) → length ring ≡ n → oldest + 1 < n → in_order (oldest + 1) n (set ring oldest k) ≡ drop 1 (in_order oldest n ring ++ k ∷ [])
over_oldest n oldest ring k whole inside =
    let written = take_more_set ring oldest k (omega arith) in
    let same = drop-set-lt (oldest + 1) ring oldest k (omega arith) in
    let split = drop-cons ring oldest k (omega arith) in
    rw (take_all n (set ring oldest k) (omega (arith, length-set ring oldest k)), take_all n ring (omega arith), written, same, split, add-one, append_assoc) refl

-- a write over the oldest reply at the last place
over_last : (oldest : ℕ) (ring : List KeptReply) (k : KeptReply) → length ring ≡ oldest + 1 → in_order 0 (oldest + 1) (set ring oldest k) ≡ drop 1 (in_order oldest (oldest + 1) ring ++ k ∷ [])
over_last oldest ring k whole =
    let written = take_more_set ring oldest k (omega arith) in
    let split = drop-cons ring oldest k (omega arith) in
    rw (take_all (oldest + 1) ring (omega arith), append-nil, written, split, drop_all (suc oldest) ring (omega arith)) refl

-- one more reply, wherever the ring stands
pub in_order-put : (oldest len : ℕ) (ring : List KeptReply) (k : KeptReply) → IsRing oldest len ring → len < 16 → in_order oldest (len + 1) (set ring len k) ≡ keeping (in_order oldest len ring) k
in_order-put oldest len ring k h room =
    let kept = length-in_order oldest len ring h in
    let first : oldest ≡ 0 = h.filling room in
    let to_end = append_written len ring k (omega arith) in
    rw (keeping-room (in_order oldest len ring) k (omega arith), first) to_end

-- a write over the oldest reply of sixteen
over_any : (oldest : ℕ) (ring : List KeptReply) (k : KeptReply) → length ring ≡ 16 → oldest < 16 → in_order ((oldest + 1) % 16) 16 (set ring oldest k) ≡ drop 1 (in_order oldest 16 ring ++ k ∷ [])
over_any oldest ring k whole start = elim (cases_lt (oldest + 1) 16) [
  | inl inside ↦ let next : (oldest + 1) % 16 ≡ oldest + 1 = omega arith in rw next (over_oldest 16 oldest ring k whole inside)
  | inr last ↦
      let next : (oldest + 1) % 16 ≡ 0 = omega arith in
      let end : oldest + 1 ≡ 16 = omega arith in
      rw next (rw end at (over_last oldest ring k (omega arith)))
]

-- one more reply in the place of the oldest
pub in_order-over : (oldest len : ℕ) (ring : List KeptReply) (k : KeptReply) → IsRing oldest len ring → 16 ≤ len → in_order ((oldest + 1) % 16) len (set ring oldest k) ≡ keeping (in_order oldest len ring) k
in_order-over oldest len ring k h full =
    let kept = length-in_order oldest len ring h in
    let all : len ≡ 16 = omega (arith, h.room) in
    rw (keeping-full (in_order oldest len ring) k (omega arith), all) (over_any oldest ring k h.whole h.start)

-- the ring stays sound
pub is_ring-put : (oldest len : ℕ) (ring : List KeptReply) (k : KeptReply) → IsRing oldest len ring → len < 16 → All (λ x. x.number < k.number) (in_order oldest len ring) → IsRing oldest (len + 1) (set ring len k)
is_ring-put oldest len ring k h room below = record {
  whole = length-set ring len k ∙ h.whole;
  room = omega arith;
  start = h.start;
  filling = λ _. h.filling room;
  rises = rw (in_order-put oldest len ring k h room) (rises-keeping (in_order oldest len ring) k h.rises below);
}

-- the full ring stays sound
pub is_ring-over : (oldest len : ℕ) (ring : List KeptReply) (k : KeptReply) → IsRing oldest len ring → 16 ≤ len → All (λ x. x.number < k.number) (in_order oldest len ring) → IsRing ((oldest + 1) % 16) len (set ring oldest k)
is_ring-over oldest len ring k h full below = record {
  whole = length-set ring oldest k ∙ h.whole;
  room = h.room;
  start = omega arith;
  filling = λ few. absurd (omega arith);
  rises = rw (in_order-over oldest len ring k h full) (rises-keeping (in_order oldest len ring) k h.rises below);
}

-- the law: of all replies ever kept, the last sixteen are
step_kept : (all : List KeptReply) (k : KeptReply) → keeping (drop (length all - 16) all) k ≡ drop (length (all ++ k ∷ []) - 16) (all ++ k ∷ [])
step_kept all k = elim (cases_lt (length all) 16) [
  | inl few ↦
      let before : length all - 16 ≡ 0 = omega arith in
      let after : length (all ++ k ∷ []) - 16 ≡ 0 = omega (arith, length-append all (k ∷ [])) in
      rw (before, after, keeping-room all k few) refl
  | inr many ↦
      let before : length (drop (length all - 16) all) ≡ 16 = omega (arith, length-drop (length all - 16) all) in
      let after : length (all ++ k ∷ []) - 16 ≡ length all - 16 + 1 = omega (arith, length-append all (k ∷ [])) in
      rw (after, keeping-full (drop (length all - 16) all) k before, ← drop-append-le (length all - 16) all (k ∷ []) (omega arith)) (drop-drop 1 (length all - 16) (all ++ k ∷ []))
]

kept_after : (all more : List KeptReply) → fold keeping (drop (length all - 16) all) more ≡ drop (length (all ++ more) - 16) (all ++ more)
kept_after all [] = rw append-nil refl
kept_after all (k ∷ more) =
    let next = kept_after (all ++ k ∷ []) more in
    rw (step_kept all k) (subst (λ (xs : List KeptReply). fold keeping (drop (length (all ++ k ∷ []) - 16) (all ++ k ∷ [])) more ≡ drop (length xs - 16) xs) (append_assoc all (k ∷ []) more) next)

-- of all replies ever put, the last sixteen are kept
pub last_kept : (ks : List KeptReply) → fold keeping [] ks ≡ drop (length ks - 16) ks
last_kept ks = kept_after [] ks

-- ---- finding

-- the old value of the first reply with a number
abbrev pub old_of : ℕ → List KeptReply → Option ℕ
old_of n ks = option_map (λ k. k.old) (find (λ k. k.number == n) ks)

-- the first that passes, in the protocol's word
pub first_that-find : (p : KeptReply → Bool) (ks : List KeptReply) → find p ks ≡ first_that p ks
unfolding first_that
first_that-find p [] = refl
first_that-find p (k ∷ ks) = rw (first_that-find p ks) refl

-- in the first part, or else in the second
pub old_of-append : (n : ℕ) (xs ys ks : List KeptReply) → xs ++ ys ≡ ks → option_or (old_of n xs) (old_of n ys) ≡ old_of n ks
old_of-append n [] ys ks e = rw e refl
old_of-append n (x ∷ xs) ys ks e = rw (← e) (elim (x.number == n) as (λ b. option_or (option_map (λ k. k.old) (if b then Some x else find (λ k. k.number == n) xs)) (old_of n ys) ≡ option_map (λ k. k.old) (if b then Some x else find (λ k. k.number == n) (xs ++ ys))) [
  | true ↦ refl
  | false ↦ old_of-append n xs ys (xs ++ ys) refl
])

-- a reply that is found is kept
pub kept_where_found : (n old : ℕ) (ks : List KeptReply) → old_of n ks ≡ Some old → Contains ks (record { number = n; old = old })
kept_where_found n old [] e = cc
kept_where_found n old (k ∷ ks) e = elim (cases_Bool (k.number == n)) [
  | inl same ↦
      let found = rw same at e in
      (0, omega arith, λ i. record { number = eqb-true k.number n same i; old = same_Some k.old old found i })
  | inr other ↦
      let later = kept_where_found n old ks (rw other at e) in
      (suc later.0, omega (arith, later.1), later.2)
]

-- a reply that is kept is found, since no other has its number
pub found_where_kept : (n old i : ℕ) (ks : List KeptReply) → Rises ks → i < length ks → get_or ks i (record { number = n; old = old }) ≡ record { number = n; old = old } → old_of n ks ≡ Some old
found_where_kept n old i [] rises within is = absurd (omega arith)
found_where_kept n old zero (k ∷ ks) rises within is =
    let same = eq-eqb k.number n (ap (λ x. x.number) is) in
    rw same (ap (λ x. Some x.old) is)
found_where_kept n old (suc i) (k ∷ ks) rises within is =
    let below = rises 0 (suc i) (record { number = n; old = old }) (omega arith) within in
    let less : k.number < n = subst (λ x. k.number < x.number) is below in
    let other = ne_eqb k.number n (λ e. omega (arith, e)) in
    rw other (found_where_kept n old i ks (λ a b d before inside. rises (suc a) (suc b) d (omega arith) (omega arith)) (omega arith) is)
