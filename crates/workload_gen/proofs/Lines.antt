-- A text and its first line.
use Rattle.std.proofs.Common.{◌≡◌, ℕ, suc, ◌+◌, ◌<◌, ◌≤◌, Bool, true, false, cond, not, if◌then◌else◌, List, [], ◌∷◌, length, drop, count_by, nat_lt, Some, None, refl, sym, ap, ◌∙◌, arith, length-drop}
use Rattle.std.specs.List.{position_or_len, position, prefix_len, slice_split, before_first, after_first}
use Rattle.std.proofs.lemmas.List.Splits.{slice_split_first, length-slice_split}
use Rattle.std.proofs.lemmas.List.Sums.{prefix_len-le-length, sum_by-cons}
use borrow.Author.Tests.{ltb-true, ltb-false}
use Rattle.workload_gen.specs.Summary.{but_last, lines_of, is_newline, is_quiet, left_in}

chosen : (b : Bool) (a i : ℕ) → cond b (Some a) None ≡ Some i → (b ≡ true) × (a ≡ i)
chosen true a i e = (refl, cc)
chosen false a i e = absurd (let no : ⊥ = cc in no)

not_chosen : (b : Bool) (a : ℕ) → cond b (Some a) None ≡ None → b ≡ false
not_chosen true a e = absurd (let no : ⊥ = cc in no)
not_chosen false a e = refl

-- the place that was found is that of the first
pub found_at : (p : ℕ → Bool) (xs : List ℕ) (i : ℕ) → position p xs ≡ Some i → (position_or_len p xs ≡ i) × (position_or_len p xs < length xs)
found_at p xs i e =
    let c = chosen (nat_lt (position_or_len p xs) (length xs)) (position_or_len p xs) i e in
    (c.1, ltb-true (position_or_len p xs) (length xs) c.0)

-- nothing was found
pub not_found : (p : ℕ → Bool) (xs : List ℕ) → position p xs ≡ None → position_or_len p xs ≡ length xs
not_found p xs e =
    let over = ltb-false (position_or_len p xs) (length xs) (not_chosen (nat_lt (position_or_len p xs) (length xs)) (position_or_len p xs) e) in
    let within = prefix_len-le-length (λ x. not (p x)) xs in
    omega (arith, over, within)

not_first : (b : Bool) (r n : ℕ) → cond (not b) (1 + r) 0 ≡ suc n → (b ≡ false) × (r ≡ n)
not_first true r n e = absurd (omega arith)
not_first false r n e = (refl, omega arith)

not_counted : (b : Bool) (count : ℕ) → b ≡ false → count ≡ 0 → cond b 1 0 + count ≡ 0
not_counted true count e h = absurd (let no : ⊥ = cc in no)
not_counted false count e h = omega arith

count_none : (p : ℕ → Bool) (xs : List ℕ) → position_or_len p xs ≡ length xs → count_by p xs ≡ 0
count_none p [] e = refl
count_none p (x ∷ xs) e =
    let s = not_first (p x) (prefix_len (λ y. not (p y)) xs) (length xs) e in
    sum_by-cons (λ y. cond (p y) 1 0) x xs ∙ not_counted (p x) (count_by p xs) s.0 (count_none p xs s.1)

but_last_one : (parts : List (List ℕ)) → length parts ≡ 1 → but_last parts ≡ []
unfolding but_last
but_last_one [] e = refl
but_last_one (part ∷ []) e = refl
but_last_one (part ∷ next ∷ parts) e = absurd (omega arith)

but_last_cons : (part : List ℕ) (parts : List (List ℕ)) → 0 < length parts → but_last (part ∷ parts) ≡ part ∷ but_last parts
unfolding but_last
but_last_cons part [] h = absurd (omega arith)
but_last_cons part (next ∷ parts) h = refl

-- a text with a newline is its first line, and the lines after it
lines_cons : (text : List ℕ) → position_or_len is_newline text < length text → lines_of text ≡ before_first is_newline text ∷ lines_of (after_first is_newline text)
lines_cons text h =
    let after = after_first is_newline text in
    let some : 0 < length (slice_split is_newline after) = omega (arith, length-slice_split is_newline after) in
    ap but_last (slice_split_first is_newline text 0 h) ∙ but_last_cons (before_first is_newline text) (slice_split is_newline after) some

-- a text without a newline has no line
pub lines_none : (text : List ℕ) → position_or_len is_newline text ≡ length text → lines_of text ≡ []
lines_none text e =
    but_last_one (slice_split is_newline text) (length-slice_split is_newline text ∙ ap (λ (n : ℕ). n + 1) (count_none is_newline text e))

one_counted : (b : Bool) (n m r all : ℕ) → m ≡ (if b then n + 1 else n) → n + (cond b 1 0 + r) ≡ all → m + r ≡ all
one_counted true n m r all e h = omega arith
one_counted false n m r all e h = omega arith

-- one more line is counted
pub count_more : (p : List ℕ → Bool) (n m all : ℕ) (text first more : List ℕ) → position_or_len is_newline text < length text → first ≡ before_first is_newline text → more ≡ after_first is_newline text → n + count_by p (lines_of text) ≡ all → m ≡ (if p first then n + 1 else n) → m + count_by p (lines_of more) ≡ all
count_more p n m all text first more h f a e c =
    let cut : lines_of text ≡ first ∷ lines_of more = lines_cons text h ∙ ap (λ (z : List ℕ). z ∷ lines_of (after_first is_newline text)) (sym f) ∙ ap (λ (z : List ℕ). first ∷ lines_of z) (sym a) in
    one_counted (p first) n m (count_by p (lines_of more)) all c
    (sym (ap (λ (z : ℕ). n + z) (ap (count_by p) cut ∙ sum_by-cons (λ l. cond (p l) 1 0) first (lines_of more))) ∙ e)

-- one more line is looked at for what is left
pub left_more : (before now all text first more : List ℕ) → position_or_len is_newline text < length text → first ≡ before_first is_newline text → more ≡ after_first is_newline text → left_in before (lines_of text) ≡ all → now ≡ (if is_quiet first then drop 6 first else before) → left_in now (lines_of more) ≡ all
unfolding left_in
left_more before now all text first more h f a e n =
    let cut : lines_of text ≡ first ∷ lines_of more = lines_cons text h ∙ ap (λ (z : List ℕ). z ∷ lines_of (after_first is_newline text)) (sym f) ∙ ap (λ (z : List ℕ). first ∷ lines_of z) (sym a) in
    ap (λ (z : List ℕ). left_in z (lines_of more)) n ∙ sym (ap (left_in before) cut) ∙ e

-- where no line is left, what is left is known
pub left_done : (before all text : List ℕ) → position_or_len is_newline text ≡ length text → left_in before (lines_of text) ≡ all → before ≡ all
unfolding left_in
left_done before all text e h = sym (ap (left_in before) (lines_none text e)) ∙ h

shorter : (text more : List ℕ) → position_or_len is_newline text < length text → more ≡ after_first is_newline text → length more + 1 ≤ length text
shorter text more h a = omega (arith, ap length a, length-drop (position_or_len is_newline text + 1) text)

-- a count stays below the bytes that are passed
pub room_more : (b : Bool) (n m all : ℕ) (text more : List ℕ) → position_or_len is_newline text < length text → more ≡ after_first is_newline text → n + length text ≤ all → m ≡ (if b then n + 1 else n) → m + length more ≤ all
room_more true n m all text more h a e c = omega (arith, shorter text more h a)
room_more false n m all text more h a e c = omega (arith, shorter text more h a)
