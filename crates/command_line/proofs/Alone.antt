-- A word without spaces is the one word of itself as a line, so a reader of words makes of it what it spells.
use Rattle.std.proofs.Common.{arith, ◌==◌, length, ◌≡◌, ◌∙◌, ℕ, Bool, true, false, List, [], ◌∷◌, Option, Some, None, Result, Ok, Err, refl, sym, ap, subst}
use Rattle.std.proofs.lemmas.Bool.Decides.{nat_tests}
use Rattle.std.specs.List.{list_any, slice_split}
use Rattle.std.specs.Prelude.{is_some}
use Rattle.std.specs.Result.{is_ok}
use Rattle.rdma_types.specs.declared.requests.Address.{Address}
use Rattle.script_lang.specs.declared.lines.Offence.{Offence}
use Rattle.script_lang.specs.declared.lines.LineWhy.{LineWhy}
use Rattle.script_lang.specs.declared.lines.LineWhy.TheVariants as why
use Rattle.script_lang.specs.Fields.{a_number, an_address}
use Rattle.script_lang.specs.Texts.{address_of, cut_at, host_of, number_in, part_of}
use Rattle.script_lang.specs.Words.{Gives, Input, Read, Word, a_field, a_word, input_of, is_space, offence, value_or, words_from}

-- it is one piece
piece_by : (b : ℕ) (bs : List ℕ) (t : Bool) → is_space b ≡ t → (list_any is_space bs ≡ false → slice_split is_space bs ≡ bs ∷ []) → list_any is_space (b ∷ bs) ≡ false → slice_split is_space (b ∷ bs) ≡ (b ∷ bs) ∷ []
piece_by b bs true k rest h = let e : true ≡ false = rw k at h in cc e
piece_by b bs false k rest h = let r : list_any is_space bs ≡ false = rw k at h in rw k (rw (rest r) refl)

one_piece : (bs : List ℕ) → list_any is_space bs ≡ false → slice_split is_space bs ≡ bs ∷ []
one_piece [] h = refl
one_piece (b ∷ bs) h = piece_by b bs (is_space b) refl (one_piece bs) h

-- and one word, unless it is empty
one_word : (b : ℕ) (bs : List ℕ) → list_any is_space (b ∷ bs) ≡ false → words_from 1 (b ∷ bs) ≡ record { column = 1; text = b ∷ bs } ∷ []
unfolding words_from
one_word b bs h = let some : (length (b ∷ bs) == 0) ≡ false = grind (arith, nat_tests) in rw (one_piece (b ∷ bs) h) (rw some refl)

-- what is read of it
read_of : {A : Type 0} (spelled : List ℕ → Option A) (why : LineWhy) (b : ℕ) (bs : List ℕ) → list_any is_space (b ∷ bs) ≡ false → a_field spelled why (input_of (b ∷ bs)) ≡ value_or (spelled (b ∷ bs)) (record { column = 1; text = b ∷ bs }) why (record { words = []; past = (input_of (b ∷ bs)).past })
unfolding a_word
read_of spelled why b bs h = rw (one_word b bs h) refl

-- it is read where it spells something
by_value : {A : Type 0} (o : Option A) (w : Word) (y : LineWhy) (i rest : Input) (result : Result A Offence) → Gives result rest (value_or o w y i) → is_ok result ≡ is_some o
by_value None w y i rest (Ok a) g = absurd (cc g)
by_value None w y i rest (Err e) g = refl
by_value (Some x) w y i rest (Ok a) g = refl
by_value (Some x) w y i rest (Err e) g = absurd (cc g)

nothing_told : {A : Type 0} (spelled : List ℕ → Option A) (y : LineWhy) (rest : Input) (result : Result A Offence) → Gives result rest (a_field spelled y (input_of [])) → is_ok result ≡ false
unfolding a_word words_from
nothing_told spelled y rest (Ok a) g = absurd (cc g)
nothing_told spelled y rest (Err e) g = refl

reads_alone : {A : Type 0} (spelled : List ℕ → Option A) (y : LineWhy) (text : List ℕ) (rest : Input) (result : Result A Offence) → is_some (spelled []) ≡ false → list_any is_space text ≡ false → Gives result rest (a_field spelled y (input_of text)) → is_ok result ≡ is_some (spelled text)
reads_alone spelled y [] rest result empty h g = nothing_told spelled y rest result g ∙ sym empty
reads_alone spelled y (b ∷ bs) rest result empty h g = by_value (spelled (b ∷ bs)) (record { column = 1; text = b ∷ bs }) y (record { words = []; past = (input_of (b ∷ bs)).past }) rest result (subst (Gives result rest) (read_of spelled y b bs h) g)

-- a number
pub a_number_alone : (low high : ℕ) (text : List ℕ) (rest : Input) (result : Result ℕ Offence) → list_any is_space text ≡ false → Gives result rest (a_number low high (input_of text)) → is_ok result ≡ is_some (number_in low high text)
unfolding a_number number_in
a_number_alone low high text rest result h g = reads_alone (number_in low high) why.Number text rest result refl h g

-- an address
no_address : is_some (address_of []) ≡ false
unfolding address_of host_of part_of cut_at number_in
no_address = refl

pub an_address_alone : (text : List ℕ) (rest : Input) (result : Result Address Offence) → list_any is_space text ≡ false → Gives result rest (an_address (input_of text)) → is_ok result ≡ is_some (address_of text)
unfolding an_address
an_address_alone text rest result h g = reads_alone address_of why.Address text rest result no_address h g
