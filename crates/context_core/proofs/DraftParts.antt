-- The parts of a draft: one datagram, or the responses of a READ, the last one first.
use Rattle.std.proofs.Common.{◌≡◌, ◌≤◌, ◌^◌, ◌++◌, ◌∷◌, List, [], length, ap, sym, ◌∙◌, refl, arith, ◌⊎◌, inl, inr}
use Rattle.std.specs.Prelude.{Option, Some, None, reverse}
use Rattle.std.specs.Option.{option_to_list}
use Rattle.std.proofs.lemmas.List.{append-nil, length-reverse, reverse-append, reverse-reverse}
use Rattle.rdma_types.specs.declared.answers.Sent.{Sent}

-- a list that is empty from behind is empty
pub none-reversed : (xs : List Sent) → reverse xs ≡ [] → xs ≡ []
none-reversed xs e = sym (reverse-reverse xs) ∙ ap reverse e

-- nothing is in a draft, so nothing is in its parts
pub no-parts : (sent : Option Sent) (responses : List Sent) → option_to_list sent ++ reverse responses ≡ [] → (sent ≡ None) × (responses ≡ [])
no-parts None responses e = (refl, none-reversed responses e)
no-parts (Some x) responses e = absurd (cc)

-- a datagram before the others
pub grown-before : (list new : List Sent) (x y : Sent) (rest all : List Sent) → new ≡ list ++ x ∷ [] → x ≡ y → all ≡ y ∷ rest → reverse list ≡ rest → reverse new ≡ all
grown-before list new x y rest all one same two so =
    ap reverse one ∙ (reverse-append list (x ∷ []) ∙ (ap (λ z. z ∷ reverse list) same ∙ (ap (λ l. y ∷ l) so ∙ sym two)))

-- as many as there are in the parts
pub few-drafted : (sent : Option Sent) (responses : List Sent) → (sent ≡ None) ⊎ (responses ≡ []) → length responses ≤ 2 ^ 32 → length (option_to_list sent ++ reverse responses) ≤ 2 ^ 32
few-drafted None responses alone few = omega (arith, length-reverse responses, few)
few-drafted (Some x) [] alone few = omega arith
few-drafted (Some x) (y ∷ ys) (inl e) few = absurd (cc)
few-drafted (Some x) (y ∷ ys) (inr e) few = absurd (cc)

-- one datagram alone
pub one-part : (sent : Option Sent) (responses : List Sent) → responses ≡ [] → option_to_list sent ++ reverse responses ≡ option_to_list sent
one-part sent responses e = ap (λ l. option_to_list sent ++ reverse l) e ∙ append-nil (option_to_list sent)
