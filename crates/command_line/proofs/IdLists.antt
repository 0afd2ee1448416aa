-- Words that are read as ids, one after the other.
use Rattle.std.proofs.Common.{arith, ◌≡◌, ◌≤◌, ◌<◌, ℕ, ◌+◌, ◌==◌, ◌&&◌, ◌||◌, not, suc, zero, Bool, true, false, List, [], ◌∷◌, ◌++◌, length, drop, Option, Some, None, refl, sym, ap, ◌∙◌, ◌⊎◌, inl, inr, append_assoc, append-nil, add-one, slice_get}
use Rattle.std.specs.Prelude.{nat_le, if◌then◌else◌, slice_index_or}
use Rattle.std.specs.List.{remove}
use Rattle.std.proofs.lemmas.Bool.Decides.{nat_tests}
use Rattle.std.proofs.lemmas.List.{length-append}
use Rattle.clap.specs.Words.{Text}
use Rattle.script_lang.specs.Texts.{◌>>=◌, number_in}
use Rattle.program_rules.specs.Commands as rules
use Rattle.command_line.specs.Ids.{few_ids}

-- ids behind others
abbrev joined : List ℕ → Option (List ℕ) → Option (List ℕ)
joined ks None = None
joined ks (Some js) = Some (ks ++ js)

joined_nothing : (o : Option (List ℕ)) → joined [] o ≡ o
joined_nothing None = refl
joined_nothing (Some js) = refl

joined_on : (ks js : List ℕ) (o : Option (List ℕ)) → joined ks (joined js o) ≡ joined (ks ++ js) o
joined_on ks js None = refl
joined_on ks js (Some hs) = ap (λ x. Some x) (sym (append_assoc ks js hs))

-- the first word
then_joined : (k : ℕ) (o : Option (List ℕ)) → (o >>= λ ks. Some (k ∷ ks)) ≡ joined (k ∷ []) o
then_joined k None = refl
then_joined k (Some ks) = refl

ids_first : (w : Text) (ws : List Text) (k : ℕ) → number_in 1 255 w ≡ Some k → rules.ids_of (w ∷ ws) ≡ joined (k ∷ []) (rules.ids_of ws)
ids_first w ws k is = ap (λ o. o >>= λ j. rules.ids_of ws >>= λ ks. Some (j ∷ ks)) is ∙ then_joined k (rules.ids_of ws)

ids_no_first : (w : Text) (ws : List Text) → number_in 1 255 w ≡ None → rules.ids_of (w ∷ ws) ≡ None
ids_no_first w ws is = ap (λ o. o >>= λ j. rules.ids_of ws >>= λ ks. Some (j ∷ ks)) is

drop_at : {A : Type 0} (xs : List A) (i : ℕ) (x : A) → slice_get xs i ≡ Some x → drop i xs ≡ x ∷ drop (suc i) xs
drop_at [] i x h = absurd (cc)
drop_at (y ∷ xs) zero x h = ap (λ z. z ∷ xs) (first y x h)
  where
    first : {A : Type 0} (a b : A) → Some a ≡ Some b → a ≡ b
    first a b e = cc
drop_at (y ∷ xs) (suc i) x h = drop_at xs i x h

drop_all : {A : Type 0} (xs : List A) (i : ℕ) → length xs ≤ i → drop i xs ≡ []
drop_all [] zero h = refl
drop_all [] (suc i) h = refl
drop_all (x ∷ xs) zero h = absurd (omega arith)
drop_all (x ∷ xs) (suc i) h = drop_all xs i (omega arith)

-- the first i words are these ids
pub record IsReading (ws : List Text) (i : ℕ) (ids : List ℕ) : Type 0 where
  pub same : rules.ids_of ws ≡ joined ids (rules.ids_of (drop i ws))
  pub count : length ids ≡ i

pub reading_begins : (ws : List Text) (ids : List ℕ) → ids ≡ [] → IsReading ws 0 ids
reading_begins ws ids is = record { same = sym (ap (λ ks. joined ks (rules.ids_of ws)) is ∙ joined_nothing (rules.ids_of ws)); count = ap length is }

pub reading_on : (ws : List Text) (i : ℕ) (ids more : List ℕ) (w : Text) (k : ℕ) → IsReading ws i ids → slice_get ws i ≡ Some w → Some k ≡ number_in 1 255 w → more ≡ ids ++ k ∷ [] → IsReading ws (i + 1) more
reading_on ws i ids more w k r at is push = record {
  same =
      r.same
      ∙ (ap (λ xs. joined ids (rules.ids_of xs)) (drop_at ws i w at)
      ∙ (ap (joined ids) (ids_first w (drop (suc i) ws) k (sym is))
      ∙ (joined_on ids (k ∷ []) (rules.ids_of (drop (suc i) ws))
      ∙ (ap (λ ks. joined ks (rules.ids_of (drop (suc i) ws))) (sym push)
      ∙ ap (λ j. joined more (rules.ids_of (drop j ws))) (sym (add-one i))))));
  count = ap length push ∙ omega (arith, length-append ids (k ∷ []), r.count);
}

pub reading_fails : (ws : List Text) (i : ℕ) (ids : List ℕ) (w : Text) → IsReading ws i ids → slice_get ws i ≡ Some w → None ≡ number_in 1 255 w → rules.ids_of ws ≡ None
reading_fails ws i ids w r at is =
    r.same ∙ (ap (λ xs. joined ids (rules.ids_of xs)) (drop_at ws i w at) ∙ ap (joined ids) (ids_no_first w (drop (suc i) ws) (sym is)))

pub reading_ends : (ws : List Text) (i : ℕ) (ids : List ℕ) → IsReading ws i ids → length ws ≤ i → rules.ids_of ws ≡ Some ids
reading_ends ws i ids r past = r.same ∙ (ap (λ xs. joined ids (rules.ids_of xs)) (drop_all ws i past) ∙ ap (λ x. Some x) (append-nil ids))

-- .. where the words are few
pub few : (ws : List Text) (o : Option (List ℕ)) → length ws ≤ 16 → rules.ids_of ws ≡ o → few_ids ws ≡ o
few ws o short is = ap (λ b. if b then rules.ids_of ws else None) (fits short) ∙ is
  where
    fits : length ws ≤ 16 → nat_le (length ws) 16 ≡ true
    fits h = grind (arith, nat_tests, h)

pub many : (ws : List Text) → 16 < length ws → few_ids ws ≡ None
many ws long = ap (λ b. if b then rules.ids_of ws else None) (fits_not long)
  where
    fits_not : 16 < length ws → nat_le (length ws) 16 ≡ false
    fits_not h = grind (arith, nat_tests, h)

-- ---- the command

ids_length : (ws : List Text) (ks : List ℕ) → rules.ids_of ws ≡ Some ks → length ks ≡ length ws
ids_length [] ks is = ap length (sym (same [] ks is))
  where
    same : (a b : List ℕ) → Some a ≡ Some b → a ≡ b
    same a b h = cc
ids_length (w ∷ ws) ks is = by (ids_length ws) (number_in 1 255 w) refl
  where
    same : (a b : List ℕ) → Some a ≡ Some b → a ≡ b
    same a b h = cc

    rest_by : ((js : List ℕ) → rules.ids_of ws ≡ Some js → length js ≡ length ws) → (k : ℕ) (o : Option (List ℕ)) → rules.ids_of ws ≡ o → joined (k ∷ []) o ≡ Some ks → length ks ≡ suc (length ws)
    rest_by later k None r h = absurd (cc)
    rest_by later k (Some js) r h = ap length (sym (same (k ∷ js) ks h)) ∙ ap suc (later js r)

    by : ((js : List ℕ) → rules.ids_of ws ≡ Some js → length js ≡ length ws) → (o : Option ℕ) → number_in 1 255 w ≡ o → length ks ≡ suc (length ws)
    by later None n = absurd (cc (ids_no_first w ws n, is))
    by later (Some k) n = rest_by later k (rules.ids_of ws) refl (sym (ids_first w ws k n) ∙ is)

-- the device is the first of the ids
abbrev evacuation_of : List ℕ → rules.Command
evacuation_of [] = rules.Evacuate 0 []
evacuation_of (from ∷ targets) = rules.Evacuate from targets

-- apart
abbrev pub apart : List ℕ → Bool
apart ks = not (rules.repeats ks) && nat_le 2 (length ks)

test_long : (r : Bool) (n : ℕ) → 15 < n → (r && (nat_le 1 n && nat_le n 15)) ≡ false
test_long r n long = grind (arith, nat_tests, long)

test_apart : (r : Bool) (n : ℕ) → suc n ≤ 16 → (r && nat_le 2 (suc n)) ≡ true → (r && (nat_le 1 n && nat_le n 15)) ≡ true
test_apart r n short is = grind (arith, nat_tests, short, is)

test_not : (r : Bool) (n : ℕ) → (r && nat_le 2 (suc n)) ≡ false → (r && (nat_le 1 n && nat_le n 15)) ≡ false
test_not r n is = grind (arith, nat_tests, is)

too_many : (ks : List ℕ) → 16 < length ks → rules.evacuate_by ks ≡ None
too_many [] long = refl
too_many (k ∷ ks) long = let long' : 15 < length ks = omega (arith, long) in ap (λ (b : Bool). if b then Some (rules.Evacuate k ks) else None) (test_long (not (rules.repeats (k ∷ ks))) (length ks) long')

is_apart : (ks : List ℕ) → length ks ≤ 16 → apart ks ≡ true → rules.evacuate_by ks ≡ Some (evacuation_of ks)
is_apart [] short is = absurd (cc (is))
is_apart (k ∷ ks) short is = ap (λ (b : Bool). if b then Some (rules.Evacuate k ks) else None) (test_apart (not (rules.repeats (k ∷ ks))) (length ks) short is)

is_not_apart : (ks : List ℕ) → apart ks ≡ false → rules.evacuate_by ks ≡ None
is_not_apart [] is = refl
is_not_apart (k ∷ ks) is = ap (λ (b : Bool). if b then Some (rules.Evacuate k ks) else None) (test_not (not (rules.repeats (k ∷ ks))) (length ks) is)

few_cases : (ws : List Text) (o : Option (List ℕ)) → few_ids ws ≡ o → ((length ws ≤ 16) × (rules.ids_of ws ≡ o)) ⊎ ((16 < length ws) × (o ≡ None))
few_cases ws o is = by (nat_le (length ws) 16) refl
  where
    by : (b : Bool) → nat_le (length ws) 16 ≡ b → ((length ws ≤ 16) × (rules.ids_of ws ≡ o)) ⊎ ((16 < length ws) × (o ≡ None))
    by true h = inl (grind (arith, nat_tests, h), sym (ap (λ b. if b then rules.ids_of ws else None) h) ∙ is)
    by false h = inr (grind (arith, nat_tests, h), sym is ∙ ap (λ b. if b then rules.ids_of ws else None) h)

-- too many words, or one that is no id
pub no_ids : (ws : List Text) → few_ids ws ≡ None → rules.evacuate_of ws ≡ None
no_ids ws is = elim (few_cases ws None is) [
  | inl h ↦ ap (λ o. o >>= rules.evacuate_by) h.1
  | inr h ↦ by (rules.ids_of ws) refl h.0
]
  where
    by : (o : Option (List ℕ)) → rules.ids_of ws ≡ o → 16 < length ws → rules.evacuate_of ws ≡ None
    by None r long = ap (λ o. o >>= rules.evacuate_by) r
    by (Some ks) r long = ap (λ o. o >>= rules.evacuate_by) r ∙ too_many ks (omega (arith, long, ids_length ws ks r))

ids_are : (ws : List Text) (ks : List ℕ) → few_ids ws ≡ Some ks → (length ks ≤ 16) × (rules.ids_of ws ≡ Some ks)
ids_are ws ks is = elim (few_cases ws (Some ks) is) [
  | inl h ↦ (omega (arith, h.0, ids_length ws ks h.1), h.1)
  | inr h ↦ absurd (cc (h.1))
]

apart_ids : (ws : List Text) (ks : List ℕ) → few_ids ws ≡ Some ks → apart ks ≡ true → rules.evacuate_of ws ≡ Some (evacuation_of ks)
apart_ids ws ks is a = let h = ids_are ws ks is in ap (λ o. o >>= rules.evacuate_by) h.1 ∙ is_apart ks h.0 a

pub not_apart_ids : (ws : List Text) (ks : List ℕ) → few_ids ws ≡ Some ks → apart ks ≡ false → rules.evacuate_of ws ≡ None
not_apart_ids ws ks is a = let h = ids_are ws ks is in ap (λ o. o >>= rules.evacuate_by) h.1 ∙ is_not_apart ks a

split_first : (ks rest : List ℕ) (from : ℕ) → apart ks ≡ true → from ≡ slice_index_or ks 0 from → rest ≡ remove ks 0 → rules.Evacuate from rest ≡ evacuation_of ks
split_first [] rest from a first others = absurd (cc (a))
split_first (k ∷ ks) rest from a first others = ap (λ j. rules.Evacuate j rest) first ∙ ap (rules.Evacuate k) others

-- the first of them is taken out
pub taken_apart : (ws : List Text) (ks rest : List ℕ) (from : ℕ) → few_ids ws ≡ Some ks → apart ks ≡ true → from ≡ slice_index_or ks 0 from → rest ≡ remove ks 0 → Some (rules.Evacuate from rest) ≡ rules.evacuate_of ws
taken_apart ws ks rest from is a first others = ap (λ c. Some c) (split_first ks rest from a first others) ∙ sym (apart_ids ws ks is a)
