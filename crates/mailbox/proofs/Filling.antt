-- The first arrival without a body gets one.
use Rattle.std.proofs.Common.{◌≡◌, ◌<◌, ◌≤◌, ◌+◌, ℕ, zero, suc, cond, nat_lt, rules, tests, Bool, true, false, List, [], ◌∷◌, length, get_or, refl, ap, ◌∙◌, arith, Option, Some, None}
use Rattle.std.specs.Prelude.{is_none, slice_set}
use Rattle.std.specs.List.{position, position_or_len}
use Rattle.std.proofs.lemmas.List.Quantifiers.{position-Some}
use Rattle.std.proofs.lemmas.List.Sums.{fails_before_first}
use Rattle.mailbox_rules.specs.declared.letters.Arrival.{Arrival}
use Rattle.mailbox_rules.specs.Working.{filled}

-- it has no body
abbrev pub lacks_body : Arrival → Bool
lacks_body a = is_none a.body

-- the first of a list, by its body
abbrev by_body : List ℕ → Arrival → List Arrival → Option (List ℕ) → List Arrival
by_body body a rest None = record a { body = Some body } ∷ rest
by_body body a rest (Some b) = a ∷ filled body rest

filled_cons : (body : List ℕ) (a : Arrival) (rest : List Arrival) → filled body (a ∷ rest) ≡ by_body body a rest a.body
unfolding filled
filled_cons body a rest = refl

filled_here : (body : List ℕ) (a : Arrival) (rest : List Arrival) (o : Option (List ℕ)) → a.body ≡ o → is_none o ≡ true → filled body (a ∷ rest) ≡ record a { body = Some body } ∷ rest
filled_here body a rest None is lacks = filled_cons body a rest ∙ ap (λ o. by_body body a rest o) is
filled_here body a rest (Some b) is lacks = absurd cc

filled_later : (body : List ℕ) (a : Arrival) (rest : List Arrival) (o : Option (List ℕ)) → a.body ≡ o → is_none o ≡ false → filled body (a ∷ rest) ≡ a ∷ filled body rest
filled_later body a rest None is has = absurd cc
filled_later body a rest (Some b) is has = filled_cons body a rest ∙ ap (λ o. by_body body a rest o) is

filled_first : (body : List ℕ) (xs : List Arrival) (k : ℕ) (d : Arrival) → k < length xs → lacks_body (get_or xs k d) ≡ true → ((j : ℕ) → j < k → lacks_body (get_or xs j d) ≡ false) →
    filled body xs ≡ slice_set xs k (record (get_or xs k d) { body = Some body })
filled_first body [] k d less is first = absurd (omega arith)
filled_first body (a ∷ xs) zero d less is first = filled_here body a xs a.body refl is
filled_first body (a ∷ xs) (suc k) d less is first =
    filled_later body a xs a.body refl (first 0 (omega arith))
    ∙ ap (λ ys. a ∷ ys) (filled_first body xs k d (omega arith) is (λ j l. first (suc j) (omega arith)))

pub filled_some : (body : List ℕ) (xs : List Arrival) (k : ℕ) (d : Arrival) → position lacks_body xs ≡ Some k → filled body xs ≡ slice_set xs k (record (get_or xs k d) { body = Some body })
filled_some body xs k d is = let h = position-Some lacks_body xs k d is in filled_first body xs k d h.0 h.1 h.2

filled_whole : (body : List ℕ) (xs : List Arrival) → ((j : ℕ) (d : Arrival) → j < length xs → lacks_body (get_or xs j d) ≡ false) → filled body xs ≡ xs
unfolding filled
filled_whole body [] each = refl
filled_whole body (a ∷ xs) each = filled_later body a xs a.body refl (each 0 a (omega arith)) ∙ ap (λ ys. a ∷ ys) (filled_whole body xs (λ j d l. each (suc j) d (omega arith)))

pub filled_none : (body : List ℕ) (xs : List Arrival) → position lacks_body xs ≡ None → filled body xs ≡ xs
filled_none body xs is = by (nat_lt (position_or_len lacks_body xs) (length xs)) refl is
  where
    by : (b : Bool) → nat_lt (position_or_len lacks_body xs) (length xs) ≡ b → cond b (Some (position_or_len lacks_body xs)) None ≡ None → filled body xs ≡ xs
    by true lt none = absurd cc
    by false lt none =
        let past : length xs ≤ position_or_len lacks_body xs = search (rules, tests, lt) in
        filled_whole body xs (λ j d l. fails_before_first lacks_body xs j d (omega arith))
