-- Lines of an answer beside the text of the machine's.
use Rattle.std.proofs.Common.{◌≡◌, ℕ, zero, suc, ◌+◌, ◌-◌, ◌<◌, ◌≤◌, Bool, true, false, List, [], ◌∷◌, ◌++◌, length, take, drop, Option, Some, None, if◌then◌else◌, refl, sym, ap, ◌∙◌, subst, append_assoc, arith, length-append, length-take}
use Rattle.std.specs.Str.{bytes_eq}
use Rattle.std.proofs.lemmas.List.{take-append-drop}
use Rattle.std.proofs.lemmas.Slice.Eq.{bytes_eq-Decides}
use Rattle.std.proofs.Math.Seq.{take-append_seam, drop-append_seam}
use Rattle.run_traces.specs.Verdicts.{behind, first_wrong, one_later, text_of_lines, wrong_after}

same : (a b : List ℕ) → a ≡ b → bytes_eq a b ≡ true
same a b e = (bytes_eq-Decides a b).1 e

is_same : (a b : List ℕ) → bytes_eq a b ≡ true → a ≡ b
is_same a b e = (bytes_eq-Decides a b).0 e

-- a line with its newline
ended_line : List ℕ → List ℕ
ended_line l = l ++ 10 ∷ []

whole_prefix : (l t : List ℕ) → l ++ 10 ∷ t ≡ (l ++ 10 ∷ []) ++ t
whole_prefix l t = sym (append_assoc l (10 ∷ []) t)

prefix_length : (l : List ℕ) → length l + 1 ≡ length (l ++ 10 ∷ [])
prefix_length l = omega (arith, length-append l (10 ∷ []))

-- a text that begins with a line goes on behind it
pub behind_line : (l t : List ℕ) → behind l (l ++ 10 ∷ t) ≡ Some t
unfolding behind
behind_line l t =
    let prefix : List ℕ = l ++ 10 ∷ [] in
    let n : length l + 1 ≡ length prefix = prefix_length l in
    let e : l ++ 10 ∷ t ≡ prefix ++ t = whole_prefix l t in
    let taken : take (length l + 1) (l ++ 10 ∷ t) ≡ prefix = ap (λ (k : ℕ). take k (l ++ 10 ∷ t)) n ∙ ap (take (length prefix)) e ∙ take-append_seam prefix t in
    let dropped : drop (length l + 1) (l ++ 10 ∷ t) ≡ t = ap (λ (k : ℕ). drop k (l ++ 10 ∷ t)) n ∙ ap (drop (length prefix)) e ∙ drop-append_seam prefix t in
    rw (same (take (length l + 1) (l ++ 10 ∷ t)) prefix taken) (ap Some dropped)

-- .. and a text that goes on behind a line begins with it
pub behind_is : (l t more : List ℕ) → behind l t ≡ Some more → t ≡ l ++ 10 ∷ more
unfolding behind
behind_is l t more h = by (bytes_eq (take (length l + 1) t) (l ++ 10 ∷ [])) refl
  where
    by : (b : Bool) → bytes_eq (take (length l + 1) t) (l ++ 10 ∷ []) ≡ b → t ≡ l ++ 10 ∷ more
    by true e =
        let q : Some (drop (length l + 1) t) ≡ Some more = rw e at h in
        let d : drop (length l + 1) t ≡ more = cc in
        let f : take (length l + 1) t ≡ l ++ 10 ∷ [] = is_same _ _ e in
        sym (take-append-drop (length l + 1) t) ∙ ap (λ (xs : List ℕ). xs ++ drop (length l + 1) t) f ∙ ap (λ (xs : List ℕ). (l ++ 10 ∷ []) ++ xs) d ∙ sym (whole_prefix l more)
    by false e = let q : None ≡ Some more = rw e at h in cc

-- the text of more lines
pub text-append : (xs ys : List (List ℕ)) → text_of_lines (xs ++ ys) ≡ text_of_lines xs ++ text_of_lines ys
text-append [] ys = refl
text-append (x ∷ xs) ys = ap (λ (t : List ℕ). x ++ 10 ∷ t) (text-append xs ys) ∙ sym (append_assoc x (10 ∷ text_of_lines xs) (text_of_lines ys))

-- so many places later
abbrev pub shifted : ℕ → Option ℕ → Option ℕ
shifted zero o = o
shifted (suc n) o = one_later (shifted n o)

-- the lines that begin a text are not wrong
pub first_wrong-after : (ls xs : List (List ℕ)) (t : List ℕ) → first_wrong (ls ++ xs) (text_of_lines ls ++ t) ≡ shifted (length ls) (first_wrong xs t)
unfolding first_wrong
first_wrong-after [] xs t = refl
first_wrong-after (l ∷ ls) xs t =
    ap (λ (text : List ℕ). wrong_after (behind l text) (λ more. first_wrong (ls ++ xs) more)) (append_assoc l (10 ∷ text_of_lines ls) t)
    ∙ ap (λ o. wrong_after o (λ more. first_wrong (ls ++ xs) more)) (behind_line l (text_of_lines ls ++ t))
    ∙ ap one_later (first_wrong-after ls xs t)

-- the first line is wrong, so many places later
pub shifted-some : (n : ℕ) → shifted n (Some 0) ≡ Some n
shifted-some zero = refl
shifted-some (suc n) = ap one_later (shifted-some n)

pub shifted-none : (n : ℕ) → shifted n None ≡ None
shifted-none zero = refl
shifted-none (suc n) = ap one_later (shifted-none n)

one_later-none : (o : Option ℕ) → one_later o ≡ None → o ≡ None
one_later-none None h = refl
one_later-none (Some k) h = cc

-- where no line is wrong, the lines are the text
pub none_wrong : (ls : List (List ℕ)) (t : List ℕ) → first_wrong ls t ≡ None → t ≡ text_of_lines ls
unfolding first_wrong
none_wrong [] [] h = refl
none_wrong [] (b ∷ bs) h = cc
none_wrong (l ∷ ls) t h = by (behind l t) refl (λ more. none_wrong ls more)
  where
    by : (o : Option (List ℕ)) → behind l t ≡ o → ((more : List ℕ) → first_wrong ls more ≡ None → more ≡ text_of_lines ls) → t ≡ text_of_lines (l ∷ ls)
    by None e ih = let q : Some 0 ≡ None = rw e at h in cc
    by (Some more) e ih =
        let q : one_later (first_wrong ls more) ≡ None = rw e at h in
        let rest : more ≡ text_of_lines ls = ih more (one_later-none (first_wrong ls more) q) in
        behind_is l t more e ∙ ap (λ (x : List ℕ). l ++ 10 ∷ x) rest

-- .. and the other way round
pub all_right : (ls : List (List ℕ)) (t : List ℕ) → t ≡ text_of_lines ls → first_wrong ls t ≡ None
unfolding first_wrong
all_right [] t h = rw h refl
all_right (l ∷ ls) t h = rw h (rw (behind_line l (text_of_lines ls)) (ap one_later (all_right ls (text_of_lines ls) refl)))

-- ---- as the code compares

tests_same : (p q : Bool) → (p ≡ true → q ≡ true) → (q ≡ true → p ≡ true) → p ≡ q
tests_same true q f g = sym (f refl)
tests_same false true f g = g refl
tests_same false false f g = refl

record SameEnds (xs ys : List ℕ) (a b : ℕ) : Type 0 where
  prefixes : xs ≡ ys
  lasts : a ≡ b

same_ends : (xs ys : List ℕ) (a b : ℕ) → xs ++ a ∷ [] ≡ ys ++ b ∷ [] → SameEnds xs ys a b
same_ends [] [] a b e = record { prefixes = refl; lasts = cc }
same_ends [] (y ∷ ys) a b e = let q = ap length e in absurd (omega (arith, q, length-append ys (b ∷ [])))
same_ends (x ∷ xs) [] a b e = let q = ap length e in absurd (omega (arith, q, length-append xs (a ∷ [])))
same_ends (x ∷ xs) (y ∷ ys) a b e =
    let tails : xs ++ a ∷ [] ≡ ys ++ b ∷ [] = cc in
    let heads : x ≡ y = cc in
    let r = same_ends xs ys a b tails in
    record { prefixes = ap (λ (z : ℕ). z ∷ xs) heads ∙ ap (λ (zs : List ℕ). y ∷ zs) r.prefixes; lasts = r.lasts }

-- bytes that end with a newline are a line by their other bytes
pub ended-same : (bs prefix l : List ℕ) (last : ℕ) → bs ≡ prefix ++ last ∷ [] → last ≡ 10 → bytes_eq prefix l ≡ bytes_eq bs (l ++ 10 ∷ [])
ended-same bs prefix l last e n =
    tests_same (bytes_eq prefix l) (bytes_eq bs (l ++ 10 ∷ []))
    (λ h. same bs (l ++ 10 ∷ []) (e ∙ ap (λ (b : ℕ). prefix ++ b ∷ []) n ∙ ap (λ (xs : List ℕ). xs ++ 10 ∷ []) (is_same prefix l h)))
    (λ h. same prefix l (same_ends prefix l last 10 (sym e ∙ is_same bs (l ++ 10 ∷ []) h)).prefixes)

-- .. and bytes that do not are no line
pub ended-other : (bs prefix l : List ℕ) (last : ℕ) → bs ≡ prefix ++ last ∷ [] → (last ≡ 10 → ⊥) → false ≡ bytes_eq bs (l ++ 10 ∷ [])
ended-other bs prefix l last e n =
    tests_same false (bytes_eq bs (l ++ 10 ∷ [])) (λ h. cc) (λ h. absurd (n (same_ends prefix l last 10 (sym e ∙ is_same bs (l ++ 10 ∷ []) h)).lasts))

pub ended-none : (bs l : List ℕ) → length bs ≡ 0 → false ≡ bytes_eq bs (l ++ 10 ∷ [])
ended-none bs l e = tests_same false (bytes_eq bs (l ++ 10 ∷ [])) (λ h. cc) (λ h. let q = ap length (is_same bs (l ++ 10 ∷ []) h) in absurd (omega (arith, q, length-append l (10 ∷ []))))

-- the next line of a text is passed
pub passes : (l t : List ℕ) → true ≡ bytes_eq (take (length l + 1) t) (l ++ 10 ∷ []) → behind l t ≡ Some (drop (length l + 1) t)
unfolding behind
passes l t e = rw (← e) refl

pub fails : (l t : List ℕ) → false ≡ bytes_eq (take (length l + 1) t) (l ++ 10 ∷ []) → behind l t ≡ None
unfolding behind
fails l t e = rw (← e) refl

-- .. or is too short
pub too_short : (l t : List ℕ) → length t < length l + 1 → behind l t ≡ None
too_short l t h = fails l t (tests_same false (bytes_eq (take (length l + 1) t) (l ++ 10 ∷ [])) (λ g. cc) (λ g. let q = ap length (is_same (take (length l + 1) t) (l ++ 10 ∷ []) g) in absurd (omega (arith, q, length-append l (10 ∷ []), length-take (length l + 1) t))))
