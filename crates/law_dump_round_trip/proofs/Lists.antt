-- What lists whose items keep rules beside those before them are.
use Rattle.std.proofs.Common.{◌≡◌, ℕ, zero, suc, ◌+◌, ◌<◌, ◌≤◌, not, ◌&&◌, Bool, true, false, nat_lt, nat_le, List, [], ◌∷◌, ◌++◌, length, map, take, get_or, refl, ap, sym, subst, ◌∙◌, arith, append_assoc}
use Rattle.std.specs.Prelude.{◌||◌, ◌==◌, ◌≢◌, All, AllPairs, bytes_eq}
use Rattle.std.proofs.lemmas.Bool.Decides.{nat_tests}
use Rattle.std.proofs.lemmas.List.{append-nil, length-map}
use Rattle.std.proofs.lemmas.List.Elements.{All-nil, All-cons}
use Rattle.std.proofs.lemmas.List.Kept.{AllPairs-cons}
use Rattle.rdma_types.specs.declared.names.Name.{Name}
use Rattle.rdma_types.specs.Lists.{has_name, has_word, some}
use Rattle.rdma_types.specs.Spelled.{is_name}
use Rattle.rdma_types.proofs.Tables.{name_is, same_name}
use Rattle.protocol.specs.Lawful.{AreNames}
use Rattle.law_dump_round_trip.proofs.Exact.{Rises}
use Rattle.law_dump_round_trip.proofs.Things.{IsNewName}

pub and_first : (a b : Bool) → (a && b) ≡ true → a ≡ true
and_first true b h = refl
and_first false b h = cc

pub and_second : (a b : Bool) → (a && b) ≡ true → b ≡ true
and_second true b h = h
and_second false b h = cc

pub both_hold : (a b : Bool) → a ≡ true → b ≡ true → (a && b) ≡ true
both_hold a b p q = rw (p, q) refl

pub not_true : (a : Bool) → not a ≡ true → a ≡ false
not_true true h = cc
not_true false h = refl

pub not_false : (a : Bool) → a ≡ false → not a ≡ true
not_false a h = rw h refl

pub or_none_first : (a b : Bool) → (a || b) ≡ false → a ≡ false
or_none_first true b h = cc
or_none_first false b h = refl

pub or_none_second : (a b : Bool) → (a || b) ≡ false → b ≡ false
or_none_second true b h = cc
or_none_second false b h = h

-- a thing fails each test that all of a list fail
abbrev pub IsAmong : (A : Type 0) → A → List A → Type 0
IsAmong A x seen = (t : A → Bool) → some t seen ≡ false → t x ≡ false

among_last : (A : Type 0) (x : A) (seen : List A) → IsAmong A x (seen ++ x ∷ [])
unfolding some
among_last A x [] t h = or_none_first (t x) false h
among_last A x (y ∷ seen) t h = among_last A x seen t (or_none_second (t y) _ h)

some_before : (A : Type 0) (t : A → Bool) (seen : List A) (y : A) → some t (seen ++ y ∷ []) ≡ false → some t seen ≡ false
unfolding some
some_before A t [] y h = refl
some_before A t (x ∷ seen) y h = rw (or_none_first (t x) _ h, some_before A t seen y (or_none_second (t x) _ h)) refl

among_more : (A : Type 0) (x : A) (seen : List A) (y : A) → IsAmong A x seen → IsAmong A x (seen ++ y ∷ [])
among_more A x seen y i t h = i t (some_before A t seen y h)

module _ (A B : Type 0) (f : A → B) (P : List A → A → Type 0) where
  -- what follows of each item's rule holds of all
  pub all_rise : (Q : B → Type 0) → ((seen : List A) (y : A) → P seen y → Q (f y)) → (seen xs : List A) → Rises A P seen xs → All Q (map f xs)
  all_rise Q g seen [] h = All-nil Q
  all_rise Q g seen (x ∷ xs) (here, more) = All-cons Q (f x) (map f xs) (g seen x here) (all_rise Q g (seen ++ x ∷ []) xs more)

  later_rise : (Q : B → Type 0) (x : A) → ((seen : List A) (y : A) → IsAmong A x seen → P seen y → Q (f y)) → (seen xs : List A) → IsAmong A x seen → Rises A P seen xs → All Q (map f xs)
  later_rise Q x g seen [] i h = All-nil Q
  later_rise Q x g seen (y ∷ ys) i (here, more) = All-cons Q (f y) (map f ys) (g seen y i here) (later_rise Q x g (seen ++ y ∷ []) ys (among_more A x seen y i) more)

  -- what follows of each item's rule beside an earlier one holds of each two
  pub pairs_rise : (R : B → B → Type 0) → ((x : A) (seen : List A) (y : A) → IsAmong A x seen → P seen y → R (f x) (f y)) → (seen xs : List A) → Rises A P seen xs → AllPairs R (map f xs)
  pairs_rise R g seen [] h = λ i j d p q. absurd (omega arith)
  pairs_rise R g seen (x ∷ xs) (here, more) = AllPairs-cons R (f x) (map f xs) (later_rise (R (f x)) x (g x) (seen ++ x ∷ []) xs (among_last A x seen) more) (pairs_rise R g (seen ++ x ∷ []) xs more)

-- ---- names

pub word_some : (A : Type 0) (f : A → Name) (n : Name) (seen : List A) → has_word n (map f seen) ≡ some (λ a. bytes_eq (f a) n) seen
unfolding has_name some
word_some A f n [] = refl
word_some A f n (x ∷ seen) = ap (λ (b : Bool). bytes_eq (f x) n || b) (word_some A f n seen)

names_differ : (a b : Name) → bytes_eq a b ≡ false → a ≢ b
names_differ a b h e = let t : bytes_eq b b ≡ false = subst (λ (x : Name). bytes_eq x b ≡ false) e h in let s = same_name b in cc

-- the names of a list of things
pub names_rise : (A : Type 0) (f : A → Name) (P : List A → A → Type 0) (xs : List A) (most : ℕ) → ((seen : List A) (y : A) → P seen y → IsNewName (map f seen) (f y)) → Rises A P [] xs → length xs ≤ most → AreNames (map f xs) most
names_rise A f P xs most g h few = record {
  few = omega (arith, length-map xs f);
  spelled = all_rise A Name f P (λ n. is_name n ≡ true) (λ seen y p. and_first _ _ (g seen y p)) [] xs h;
  distinct = pairs_rise A Name f P (λ a b. a ≢ b) (λ x seen y i p. names_differ (f x) (f y) (i (λ a. bytes_eq (f a) (f y)) (sym (word_some A f (f y) seen) ∙ not_true _ (and_second _ _ (g seen y p))))) [] xs h;
}

-- a list as it is
pub map_same : {A : Type 0} (xs : List A) → map (λ x. x) xs ≡ xs
map_same [] = refl
map_same (x ∷ xs) = ap (λ (ys : List _). x ∷ ys) (map_same xs)

-- ---- by places

-- the rule of the item at a place
pub rises_at : (A : Type 0) (P : List A → A → Type 0) (seen xs : List A) → Rises A P seen xs → (k : ℕ) (d : A) → k < length xs → P (seen ++ take k xs) (get_or xs k d)
rises_at A P seen [] h k d l = absurd (omega arith)
rises_at A P seen (x ∷ xs) h zero d l = subst (λ (ys : List A). P ys x) (sym (append-nil seen)) h.0
rises_at A P seen (x ∷ xs) h (suc k) d l = subst (λ (ys : List A). P ys (get_or xs k d)) (append_assoc seen (x ∷ []) (take k xs)) (rises_at A P (seen ++ x ∷ []) xs h.1 k d (omega arith))

-- the rules of the items at their places
pub rises_from : (A : Type 0) (P : List A → A → Type 0) (seen xs : List A) → ((k : ℕ) (d : A) → k < length xs → P (seen ++ take k xs) (get_or xs k d)) → Rises A P seen xs
rises_from A P seen [] h = tt
rises_from A P seen (x ∷ xs) h = (subst (λ (ys : List A). P ys x) (append-nil seen) (h 0 x (omega arith)), rises_from A P (seen ++ x ∷ []) xs (λ k d l. subst (λ (ys : List A). P ys (get_or xs k d)) (sym (append_assoc seen (x ∷ []) (take k xs))) (h (suc k) d (omega arith))))
