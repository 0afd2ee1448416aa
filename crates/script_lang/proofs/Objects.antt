-- An object's name that is written is read back.
use Rattle.std.proofs.Common.{◌≡◌, ℕ, suc, ◌+◌, ◌==◌, ◌&&◌, ◌||◌, Bool, true, false, nat_lt, List, [], ◌∷◌, ◌++◌, length, drop, Some, refl, ap, arith, one-add}
use Rattle.std.proofs.Math.Seq.{take-append_seam, drop-append-add}
use Rattle.std.proofs.lemmas.Bool.Decides.{nat_tests, eqb_tells}
use Rattle.std.proofs.lemmas.List.{length-append}
use Rattle.std.proofs.Common.{inl, inr}
use Rattle.std.specs.List.{list_all, position_or_len}
use Rattle.rdma_types.specs.Spelled.{is_name, is_letter, is_name_byte}
use Rattle.script_lang.specs.Texts.{cut_at, name_of, object_of}
use Rattle.script_lang.proofs.Splitting.{is_solid}

is_point : ℕ → Bool
is_point b = b == 46

left : (a b : Bool) → (a && b) ≡ true → a ≡ true
left true b h = refl
left false b h = cc h

right : (a b : Bool) → (a && b) ≡ true → b ≡ true
right true b h = h
right false b h = cc h

-- a byte of a name is no point
no_point : (b : ℕ) → is_name_byte b ≡ true → (b == 46) ≡ false
no_point b h = elim (eqb_tells b 46) [
  | inl at ↦
      let bad : is_name_byte 46 ≡ true = rw at.1 at h in
      absurd (cc bad)
  | inr other ↦ other.0
]

either : (a b : Bool) → a ≡ true → (a || b) ≡ true
either true b h = refl
either false b h = cc h

name_bytes : (text : List ℕ) → is_name text ≡ true → list_all is_name_byte text ≡ true
name_bytes [] h = cc h
name_bytes (b ∷ bs) h =
    let front : (is_letter b && list_all is_name_byte bs) ≡ true = left _ _ h in
    let letter : is_letter b ≡ true = left _ _ front in
    let first : is_name_byte b ≡ true = rw letter refl in
    rw first (right _ _ front)

-- the first point stands behind a name
place : (front rest : List ℕ) → list_all is_name_byte front ≡ true → position_or_len (λ b. b == 46) (front ++ 46 ∷ rest) ≡ length front
place [] rest h = refl
place (b ∷ bs) rest h =
    let e : (b == 46) ≡ false = no_point b (left _ _ h) in
    let ih = place bs rest (right _ _ h) in
    rw e (rw one-add (ap suc ih))

-- a text cut at the point behind a name
cut_again : (front rest : List ℕ) → list_all is_name_byte front ≡ true → cut_at 46 (front ++ 46 ∷ rest) ≡ record { front = front; behind = Some rest }
unfolding cut_at
cut_again front rest h =
    let text : List ℕ = front ++ 46 ∷ rest in
    let at : position_or_len (λ b. b == 46) text ≡ length front = place front rest h in
    let inside : nat_lt (length front) (length text) ≡ true = let l = length-append front (46 ∷ rest) in grind (arith, nat_tests) in
    let back : drop (length front + 1) text ≡ rest = drop-append-add front (46 ∷ rest) 1 in
    rw at (rw inside (rw (take-append_seam front (46 ∷ rest), back) refl))

-- an object's name
pub object_again : (context name : List ℕ) → is_name context ≡ true → is_name name ≡ true → object_of (context ++ 46 ∷ name) ≡ Some (record { context = context; name = name })
unfolding object_of name_of
object_again context name c n =
    let cut : cut_at 46 (context ++ 46 ∷ name) ≡ record { front = context; behind = Some name } = cut_again context name (name_bytes context c) in
    rw cut (rw (c, n) refl)

no_space : (b : ℕ) → is_name_byte b ≡ true → is_solid b ≡ true
no_space b h = elim (eqb_tells b 32) [
  | inl at ↦
      let bad : is_name_byte 32 ≡ true = rw at.1 at h in
      absurd (cc bad)
  | inr other ↦ rw other.0 refl
]

solid : (text : List ℕ) → list_all is_name_byte text ≡ true → list_all is_solid text ≡ true
solid [] h = refl
solid (b ∷ bs) h =
    let first : is_solid b ≡ true = no_space b (left _ _ h) in
    rw first (solid bs (right _ _ h))

solid_pair : (front back : List ℕ) → list_all is_solid front ≡ true → list_all is_solid back ≡ true → list_all is_solid (front ++ back) ≡ true
solid_pair [] back f h = h
solid_pair (b ∷ bs) back f h =
    let first : is_solid b ≡ true = left _ _ f in
    rw first (solid_pair bs back (right _ _ f) h)

-- no space stands in it
pub object_solid : (context name : List ℕ) → is_name context ≡ true → is_name name ≡ true → list_all is_solid (context ++ 46 ∷ name) ≡ true
object_solid context name c n = solid_pair context (46 ∷ name) (solid context (name_bytes context c)) (solid name (name_bytes name n))
