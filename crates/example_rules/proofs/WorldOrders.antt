use Rattle.std.proofs.Common.{◌≡◌, ℕ, zero, suc, List, [], ◌∷◌, ◌++◌, take, sym, subst, append_assoc}
use Rattle.std.specs.Prelude.{slice_get, Some}
use Rattle.std.proofs.lemmas.List.{append-nil}
use Rattle.order_rules.specs.Lines.{Line}
use Rattle.order_rules.specs.Order.{Each}

-- a fact of each line, given the lines before it, line by line
abbrev pub EachAfter : (List Line → Line → Type 0) → List Line → List Line → Type 0
EachAfter Fact earlier [] = Unit {0}
EachAfter Fact earlier (l ∷ ls) = Fact earlier l × EachAfter Fact (earlier ++ l ∷ []) ls

each_later : (Fact : List Line → Line → Type 0) (earlier ls : List Line) → EachAfter Fact earlier ls → (k : ℕ) (l : Line) → slice_get ls k ≡ Some l → Fact (earlier ++ take k ls) l
each_later Fact earlier [] e k l h = cc
each_later Fact earlier (x ∷ ls) e zero l h = let same : x ≡ l = cc in subst (λ y. Fact (earlier ++ []) y) same (subst (λ r. Fact r x) (sym (append-nil earlier)) e.0)
each_later Fact earlier (x ∷ ls) e (suc k) l h = subst (λ r. Fact r l) (append_assoc earlier (x ∷ []) (take k ls)) (each_later Fact (earlier ++ x ∷ []) ls e.1 k l h)

-- what holds line by line holds of each
pub each_of : (Fact : List Line → Line → Type 0) (ls : List Line) → EachAfter Fact [] ls → Each Fact ls
each_of Fact ls e = each_later Fact [] ls e

-- what stands in equal options is equal
pub some_is : {X : Type 0} {x y : X} → Some x ≡ Some y → x ≡ y
some_is h = cc
