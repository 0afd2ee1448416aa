-- The words of a line, taken one at a time.
use Rattle.std.proofs.Common.{not, ◌&&◌, ◌≤◌, ◌≡◌, ℕ, zero, suc, subst, ◌+◌, ◌-◌, ◌<◌, ◌==◌, Bool, true, false, List, [], ◌∷◌, length, take, drop, refl, ap, sym, ◌∙◌, arith, one-add, get_or, drop-cons, drop-drop, length-drop}
use Rattle.std.proofs.lemmas.List.{length-take-le, get_or-drop}
use Rattle.std.proofs.lemmas.List.Sums.{prefix_len-le-length}
use Rattle.std.specs.List.{list_all, slice_split, position_or_len, before_first}
use Rattle.std.proofs.lemmas.Bool.Decides.{nat_tests}
use Rattle.script_lang.specs.Words.{Word, is_space, placed, words_from}

-- the first piece stands before the first space, and the words of the others are those from that space on
pub record FirstPiece (bs : List ℕ) : Type 0 where
  pub more : List (List ℕ)
  pub pieces : slice_split is_space bs ≡ before_first is_space bs ∷ more
  pub words : (column : ℕ) → placed (column + 1) more ≡ words_from column (drop (position_or_len is_space bs) bs)

first_piece_or : (b : ℕ) (bs : List ℕ) (at_space : Bool) → is_space b ≡ at_space → FirstPiece bs → FirstPiece (b ∷ bs)
unfolding words_from
first_piece_or b bs true h rest = record {
  more = slice_split is_space bs;
  pieces = rw h refl;
  words = λ column. rw h (rw h refl);
}
first_piece_or b bs false h rest = record {
  more = rest.more;
  pieces = rw (h, rest.pieces) (rw one-add refl);
  words = λ column. rw h (rw one-add (rest.words column));
}

pub first_piece : (bs : List ℕ) → FirstPiece bs
unfolding words_from
first_piece [] = record { more = []; pieces = refl; words = λ column. refl }
first_piece (b ∷ bs) = first_piece_or b bs (is_space b) refl (first_piece bs)

-- a word with its column
abbrev pub at_column : ℕ → List ℕ → Word
at_column column text = record { column = column; text = text }

kept_piece : (column : ℕ) (piece : List ℕ) (more : List (List ℕ)) → 0 < length piece → placed column (piece ∷ more) ≡ at_column column piece ∷ placed (column + length piece + 1) more
kept_piece column piece more h =
    let e : (length piece == 0) ≡ false = grind (arith, nat_tests) in
    rw e refl

first_kept : (b : ℕ) (bs : List ℕ) → is_space b ≡ false → 0 < length (before_first is_space (b ∷ bs))
first_kept b bs h = rw h (rw one-add (omega arith))

-- the first space is within the bytes
pub word_fits : (bs : List ℕ) → position_or_len is_space bs ≤ length bs
word_fits bs = prefix_len-le-length (λ (b : ℕ). not (is_space b)) bs

front_length : (bs : List ℕ) → length (before_first is_space bs) ≡ position_or_len is_space bs
front_length bs = length-take-le (position_or_len is_space bs) bs (word_fits bs)

-- a word stands before the first space
word_in_front : (column b : ℕ) (bs : List ℕ) → is_space b ≡ false → words_from column (b ∷ bs) ≡ at_column column (before_first is_space (b ∷ bs)) ∷ words_from (column + position_or_len is_space (b ∷ bs)) (drop (position_or_len is_space (b ∷ bs)) (b ∷ bs))
unfolding words_from
word_in_front column b bs h =
    let p : FirstPiece (b ∷ bs) = first_piece (b ∷ bs) in
    let front : List ℕ = before_first is_space (b ∷ bs) in
    ap (placed column) p.pieces ∙ kept_piece column front p.more (first_kept b bs h)
    ∙ ap (λ (ws : List Word). at_column column front ∷ ws) (ap (λ (n : ℕ). placed (column + n + 1) p.more) (front_length (b ∷ bs)) ∙ p.words (column + position_or_len is_space (b ∷ bs)))

-- the first word of bytes that begin with no space
pub first_word : (column : ℕ) (bs : List ℕ) → 0 < length bs → is_space (get_or bs 0 0) ≡ false → words_from column bs ≡ at_column column (take (position_or_len is_space bs) bs) ∷ words_from (column + position_or_len is_space bs) (drop (position_or_len is_space bs) bs)
first_word column [] l h = absurd (omega arith)
first_word column (b ∷ bs) l h = word_in_front column b bs h

-- no bytes, no words
pub no_words : (column : ℕ) → words_from column [] ≡ []
unfolding words_from
no_words column = refl

-- the same of bytes that are known to be none
pub no_words_in : (column : ℕ) (bs : List ℕ) → length bs ≡ 0 → words_from column bs ≡ []
no_words_in column [] h = no_words column
no_words_in column (b ∷ bs) h = absurd (omega arith)

space_first : (column : ℕ) (bs : List ℕ) → words_from column (32 ∷ bs) ≡ words_from (column + 1) bs
unfolding words_from
space_first column bs = refl

-- a space at a place of a line is passed
pub space_passed : (line : List ℕ) (i : ℕ) → i < length line → get_or line i 0 ≡ 32 → words_from (i + 1 + 1) (drop (i + 1) line) ≡ words_from (i + 1) (drop i line)
space_passed line i h e =
    let back : i + 1 ≡ suc i = omega arith in
    let front : drop i line ≡ 32 ∷ drop (suc i) line = drop-cons line i 0 h ∙ ap (λ (b : ℕ). b ∷ drop (suc i) line) e in
    ap (λ (n : ℕ). words_from (i + 1 + 1) (drop n line)) back
    ∙ sym (ap (words_from (i + 1)) front ∙ space_first (i + 1) (drop (suc i) line))

-- the word of a line from a place on where no space stands, and those behind it
pub word_at : (line : List ℕ) (start end : ℕ) → start < length line → is_space (get_or line start 0) ≡ false
    → end ≡ start + position_or_len is_space (drop start line)
    → words_from (start + 1) (drop start line) ≡ at_column (start + 1) (take (end - start) (drop start line)) ∷ words_from (end + 1) (drop end line)
word_at line start end some none place =
    let rest : List ℕ = drop start line in
    let size : position_or_len is_space rest ≡ end - start = omega arith in
    let some_left : 0 < length rest = omega (arith, length-drop start line) in
    let same : start + 0 ≡ start = omega arith in
    let front : is_space (get_or rest 0 0) ≡ false = ap is_space (get_or-drop start line 0 0 ∙ ap (λ (n : ℕ). get_or line n 0) same) ∙ none in
    let column : start + 1 + (end - start) ≡ end + 1 = omega arith in
    let whole : start + (end - start) ≡ end = omega arith in
    first_word (start + 1) rest some_left front
    ∙ ap (λ (n : ℕ). at_column (start + 1) (take n rest) ∷ words_from (start + 1 + n) (drop n rest)) size
    ∙ ap (λ (n : ℕ). at_column (start + 1) (take (end - start) rest) ∷ words_from n (drop (end - start) rest)) column
    ∙ ap (λ (bs : List ℕ). at_column (start + 1) (take (end - start) rest) ∷ words_from (end + 1) bs) (drop-drop (end - start) start line ∙ ap (λ (n : ℕ). drop n line) whole)

-- a byte of a word
abbrev pub is_solid : ℕ → Bool
is_solid b = not (is_space b)

left : (a b : Bool) → (a && b) ≡ true → a ≡ true
left true b h = refl
left false b h = cc h

right : (a b : Bool) → (a && b) ≡ true → b ≡ true
right true b h = h
right false b h = cc h

no_space : (a : Bool) → not a ≡ true → a ≡ false
no_space true h = cc h
no_space false h = refl

-- bytes of a word stand before the first space
space_behind : (bs : List ℕ) (n : ℕ) → n ≤ length bs → list_all is_solid (take n bs) ≡ true → (n < length bs → is_space (get_or bs n 0) ≡ true) → position_or_len is_space bs ≡ n
space_behind [] zero within all stops = refl
space_behind [] (suc n) within all stops = absurd (omega arith)
space_behind (b ∷ bs) zero within all stops = let here : is_space b ≡ true = stops (omega arith) in rw here refl
space_behind (b ∷ bs) (suc n) within all stops =
    let here : is_space b ≡ false = no_space _ (left _ _ all) in
    let rest : position_or_len is_space bs ≡ n = space_behind bs n (omega arith) (right _ _ all) (λ h. stops (omega arith)) in
    rw here (rw one-add (ap suc rest))

-- a word that is known from its bytes, and those behind it
pub solid_word : (line : List ℕ) (start count : ℕ) → start < length line → is_space (get_or line start 0) ≡ false
    → count ≤ length (drop start line) → list_all is_solid (take count (drop start line)) ≡ true
    → (start + count < length line → get_or line (start + count) 0 ≡ 32)
    → words_from (start + 1) (drop start line) ≡ at_column (start + 1) (take count (drop start line)) ∷ words_from (start + count + 1) (drop (start + count) line)
solid_word line start count some front within solid stops =
    let rest : List ℕ = drop start line in
    let place : position_or_len is_space rest ≡ count = space_behind rest count within solid (λ h. ap is_space (get_or-drop start line count 0 ∙ stops (omega (arith, length-drop start line)))) in
    let size : start + count - start ≡ count = omega arith in
    subst (λ (m : ℕ). words_from (start + 1) rest ≡ at_column (start + 1) (take m rest) ∷ words_from (start + count + 1) (drop (start + count) line)) size (word_at line start (start + count) some front (omega (arith, place)))
