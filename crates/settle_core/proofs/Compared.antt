-- Lists of marks that are compared place by place.
use Rattle.std.proofs.Common.{arith, ◌≡◌, ◌≢◌, ◌<◌, ◌+◌, ℕ, zero, suc, List, [], ◌∷◌, length, map, drop, get_or, Bool, true, false, refl, sym, ap, ◌∙◌, drop-cons, add-one}
use Rattle.std.specs.Prelude.{◌&&◌}
use Rattle.protocol.specs.Settle.{same_marks}
use Rattle.context_core.specs.declared.lives.LiveEnd.{LiveEnd}
use Rattle.settle_core.specs.Marks.{same_mark, view_mark}

and_false : (b : Bool) → (b && false) ≡ false
and_false true = refl
and_false false = refl

pub lengths_apart : (xs ys : List LiveEnd) → length xs ≢ length ys → false ≡ same_marks (map view_mark xs) (map view_mark ys)
unfolding same_marks
lengths_apart [] [] h = absurd (h refl)
lengths_apart [] (y ∷ ys) h = refl
lengths_apart (x ∷ xs) [] h = refl
lengths_apart (x ∷ xs) (y ∷ ys) h =
    sym (ap (λ b. same_mark (view_mark x) (view_mark y) && b) (sym (lengths_apart xs ys (λ e. h (ap suc e)))) ∙ and_false (same_mark (view_mark x) (view_mark y)))

-- the first marks, and then the others
pub next_marks : (xs ys : List LiveEnd) (i : ℕ) (x y : LiveEnd) → i < length xs → length xs ≡ length ys → x ≡ get_or xs i x → y ≡ get_or ys i y →
    same_marks (map view_mark (drop i xs)) (map view_mark (drop i ys)) ≡ (same_mark (view_mark x) (view_mark y) && same_marks (map view_mark (drop (i + 1) xs)) (map view_mark (drop (i + 1) ys)))
unfolding same_marks
next_marks xs ys i x y below same one two =
    let also : i < length ys = omega arith in
    let front : drop i xs ≡ x ∷ drop (i + 1) xs = drop-cons xs i x below ∙ (ap (λ z. z ∷ drop (suc i) xs) (sym one) ∙ ap (λ n. x ∷ drop n xs) (sym (add-one i))) in
    let front' : drop i ys ≡ y ∷ drop (i + 1) ys = drop-cons ys i y also ∙ (ap (λ z. z ∷ drop (suc i) ys) (sym two) ∙ ap (λ n. y ∷ drop n ys) (sym (add-one i))) in
    ap (λ zs. same_marks (map view_mark zs) (map view_mark (drop i ys))) front ∙ ap (λ zs. same_marks (map view_mark (x ∷ drop (i + 1) xs)) (map view_mark zs)) front'

pub all_dropped : (xs ys : List LiveEnd) (i : ℕ) → length xs ≡ length ys → length xs ≡ i → same_marks (map view_mark (drop i xs)) (map view_mark (drop i ys)) ≡ true
unfolding same_marks
all_dropped [] [] zero same all = refl
all_dropped [] [] (suc i) same all = refl
all_dropped [] (y ∷ ys) i same all = absurd (omega arith)
all_dropped (x ∷ xs) [] i same all = absurd (omega arith)
all_dropped (x ∷ xs) (y ∷ ys) zero same all = absurd (omega arith)
all_dropped (x ∷ xs) (y ∷ ys) (suc i) same all = all_dropped xs ys i (omega arith) (omega arith)
