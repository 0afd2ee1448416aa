-- Things under their names, as a map holds them and as the protocol lists them.
use Rattle.std.proofs.Common.{◌≡◌, ℕ, zero, suc, Bool, true, false, List, [], ◌∷◌, refl, ap, sym, ◌∙◌, arith, get_or}
use Rattle.std.specs.Prelude.{Some, is_some, map, bytes_eq, position, slice_get}
use Rattle.std.specs.List.{list_any}
use Rattle.std.specs.Map.{lookup, keys_of}
use Rattle.std.proofs.lemmas.List.Quantifiers.{position-Some}
use Rattle.std.proofs.lemmas.Slice.Eq.{bytes_eq-Decides}
use Rattle.rdma_types.specs.Lists.{has_name, has_word}
use Rattle.rdma_types.specs.declared.names.Name.{Name}
use Rattle.rdma_types.proofs.Tables.{name_is}

-- names are equal in either order
pub same-either : (a b : Name) → bytes_eq a b ≡ bytes_eq b a
same-either a b = grind (arith, bytes_eq-Decides a b, bytes_eq-Decides b a)

-- a name in a list of names
pub word-any : (n : Name) (ns : List Name) → list_any (bytes_eq n) ns ≡ has_word n ns
unfolding has_name
word-any n [] = refl
word-any n (x ∷ xs) = let here = same-either n x in let rest = word-any n xs in cc

-- the thing at the place of a name has it
pub name-found : {V : Type 0} (n : Name) (es : List (Name × V)) (i : ℕ) (e : Name × V) → position (bytes_eq n) (keys_of es) ≡ Some i → slice_get es i ≡ Some e → e.0 ≡ n
name-found n es i e p s = sym (name_is n e.0 (ap (bytes_eq n) (sym (at es i s)) ∙ (position-Some (bytes_eq n) (keys_of es) i e.0 p).1))
  where
    at : (xs : List (Name × _)) (j : ℕ) → slice_get xs j ≡ Some e → get_or (keys_of xs) j e.0 ≡ e.0
    at [] j t = absurd (cc)
    at (x ∷ xs) zero t = let same : x ≡ e = cc in ap (λ y. y.0) same
    at (x ∷ xs) (suc j) t = at xs j t

-- as a map asks: things of a list, each under its name
pub has-lookup : {V T : Type 0} (name : T → Name) (show : Name × V → T) → ((e : Name × V) → name (show e) ≡ e.0) → (n : Name) (es : List (Name × V)) → is_some (lookup (bytes_eq n) es) ≡ has_name name n (map show es)
unfolding has_name
has-lookup name show shown n [] = refl
has-lookup name show shown n (x ∷ xs) = by (bytes_eq n x.0) refl (has-lookup name show shown n xs)
  where
    test : bytes_eq (name (show x)) n ≡ bytes_eq n x.0
    test = ap (λ k. bytes_eq k n) (shown x) ∙ same-either x.0 n

    by : (b : Bool) → bytes_eq n x.0 ≡ b → is_some (lookup (bytes_eq n) xs) ≡ has_name name n (map show xs) → is_some (lookup (bytes_eq n) (x ∷ xs)) ≡ has_name name n (map show (x ∷ xs))
    by true t rest = rw test (rw t refl)
    by false t rest = rw test (rw t rest)
