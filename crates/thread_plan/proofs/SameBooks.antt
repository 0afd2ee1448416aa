-- Books that open with equal devices, and devices whose ids rise.
use Rattle.std.proofs.Common.{arith, ◌≡◌, ◌⊎◌, inl, inr, ℕ, zero, suc, ◌+◌, ◌-◌, ◌<◌, ◌≤◌, List, [], ◌∷◌, length, map, slice_get, Some, refl, ap, sym, ◌∙◌}
use Rattle.std.proofs.lemmas.Option.{slice_get_within}
use Rattle.protocol.specs.State.{Device}
use Rattle.order_rules.proofs.Lists.{some_is}
use Rattle.shared_device.specs.Books.{AreApart, BookView, opened_with, openings_of}

pub opened_so : (ds : List Device) → openings_of (map opened_with ds) ≡ ds
opened_so [] = refl
opened_so (d ∷ ds) = ap (λ l. d ∷ l) (opened_so ds)

-- the first n books open so
abbrev pub AreSame : ℕ → List BookView → List BookView → Type 0
AreSame n xs ys = (k : ℕ) (a b : BookView) → k < n → slice_get xs k ≡ Some a → slice_get ys k ≡ Some b → a.opening ≡ b.opening

same_each : (xs ys : List BookView) → length xs ≡ length ys → ((k : ℕ) (a b : BookView) → slice_get xs k ≡ Some a → slice_get ys k ≡ Some b → a.opening ≡ b.opening) → openings_of xs ≡ openings_of ys
same_each [] [] len each = refl
same_each [] (y ∷ ys) len each = absurd (omega (arith, len))
same_each (x ∷ xs) [] len each = absurd (omega (arith, len))
same_each (x ∷ xs) (y ∷ ys) len each = (λ i. each 0 x y refl refl i ∷ same_each xs ys (omega (arith, len)) (λ k a b p q. each (suc k) a b p q) i)

pub same_all : (xs ys : List BookView) (n : ℕ) → length xs ≡ length ys → length xs ≤ n → AreSame n xs ys → openings_of xs ≡ openings_of ys
same_all xs ys n len all same = same_each xs ys len (λ k a b p q. (let h = slice_get_within xs k a p in same k a b (omega (arith, h, all)) p q))

-- the ids of the first n devices rise
abbrev pub AreRising : ℕ → List BookView → Type 0
AreRising n books = (i j : ℕ) (a b : BookView) → i < j → j < n → slice_get books i ≡ Some a → slice_get books j ≡ Some b → a.opening.id < b.opening.id

pub three : (i j : ℕ) → (i < j) ⊎ ((j < i) ⊎ (i ≡ j))
three zero zero = inr (inr refl)
three zero (suc j) = inl (omega arith)
three (suc i) zero = inr (inl (omega arith))
three (suc i) (suc j) = elim (three i j) [
  | inl a ↦ inl (omega (arith, a))
  | inr r ↦ elim r [ inl b ↦ inr (inl (omega (arith, b))) | inr e ↦ inr (inr (ap suc e)) ]
]

pub rising_apart : (books : List BookView) (n : ℕ) → length books ≤ n → AreRising n books → AreApart books
rising_apart books n all rises i j a b at bt same =
    let hi = slice_get_within books i a at in
    let hj = slice_get_within books j b bt in
    elim (three i j) [
      | inl less ↦ (let r = rises i j a b less (omega (arith, hj, all)) at bt in absurd (omega (arith, r, same)))
      | inr r ↦ elim r [
        | inl more ↦ (let s = rises j i b a more (omega (arith, hi, all)) bt at in absurd (omega (arith, s, same)))
        | inr e ↦ e
      ]
    ]

-- one device more
pub rising_more : (books : List BookView) (k : ℕ) (p q : BookView) → 1 ≤ k → slice_get books (k - 1) ≡ Some p → slice_get books k ≡ Some q → p.opening.id < q.opening.id → AreRising k books → AreRising (k + 1) books
rising_more books k p q some before here step rises i j a b less within at bt = elim (three j k) [
  | inl low ↦ rises i j a b less low at bt
  | inr r ↦ elim r [
    | inl high ↦ absurd (omega (arith, high, within))
    | inr e ↦ (
        let last : b ≡ q = some_is (sym bt ∙ (ap (slice_get books) e ∙ here)) in
        let last_id : b.opening.id ≡ q.opening.id = ap (λ (x : BookView). x.opening.id) last in
        elim (three i (k - 1)) [
          | inl low ↦ (let r1 = rises i (k - 1) a p low (omega (arith, some)) at before in omega (arith, r1, step, last_id))
          | inr s ↦ elim s [
            | inl high ↦ absurd (omega (arith, high, less, e, some))
            | inr f ↦ (
                let first : a ≡ p = some_is (sym at ∙ (ap (slice_get books) f ∙ before)) in
                let first_id : a.opening.id ≡ p.opening.id = ap (λ (x : BookView). x.opening.id) first in
                omega (arith, step, last_id, first_id))
          ]
        ])
  ]
]
