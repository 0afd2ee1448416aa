-- A word without spaces is the one word of itself as a line.
use Rattle.std.proofs.Common.{arith, ◌==◌, length, ◌≡◌, ◌∙◌, ℕ, Bool, true, false, List, [], ◌∷◌, Option, Some, None, Result, Ok, Err, refl, sym, ap, subst}
use Rattle.std.proofs.lemmas.Bool.Decides.{nat_tests}
use Rattle.std.specs.List.{list_any, slice_split}
use Rattle.std.specs.Result.{result_ok}
use Rattle.rdma_types.specs.declared.requests.Address.{Address}
use Rattle.script_lang.specs.declared.lines.Offence.{Offence}
use Rattle.script_lang.specs.declared.lines.LineWhy.{LineWhy}
use Rattle.script_lang.specs.declared.lines.LineWhy.TheVariants as why
use Rattle.script_lang.specs.Fields.{a_number, an_address}
use Rattle.script_lang.specs.Texts.{address_of, cut_at, host_of, number_in, part_of}
use Rattle.script_lang.specs.Words.{Gives, Input, Word, a_field, a_word, input_of, is_space, value_or, words_from}
use Rattle.command_line.specs.Asked.{plainly}

-- it is one piece
piece_by : (b : ℕ) (bs : List ℕ) (t : Bool) → is_space b ≡ t → (list_any is_space bs ≡ false → slice_split is_space bs ≡ bs ∷ []) → list_any is_space (b ∷ bs) ≡ false → slice_split is_space (b ∷ bs) ≡ (b ∷ bs) ∷ []
piece_by b bs true k rest h = let e : true ≡ false = rw k at h in cc e
piece_by b bs false k rest h = let r : list_any is_space bs ≡ false = rw k at h in rw k (rw (rest r) refl)

one_piece : (bs : List ℕ) → list_any is_space bs ≡ false → slice_split is_space bs ≡ bs ∷ []
one_piece [] h = refl
one_piece (b ∷ bs) h = piece_by b bs (is_space b) refl (one_piece bs) h

-- and one word, unless it is empty
one_word : (b : ℕ) (bs : List ℕ) → list_any is_space (b ∷ bs) ≡ false → words_from 1 (b ∷ bs) ≡ record { column = 1; text = b ∷ bs } ∷ []
unfolding words_from
one_word b bs h = let some : (length (b ∷ bs) == 0) ≡ false = grind (arith, nat_tests) in rw (one_piece (b ∷ bs) h) (rw some refl)

-- what a field is then read from
read_of : {A : Type 0} (f : List ℕ → Option A) (y : LineWhy) (b : ℕ) (bs : List ℕ) → list_any is_space (b ∷ bs) ≡ false → a_field f y (input_of (b ∷ bs)) ≡ value_or (f (b ∷ bs)) (record { column = 1; text = b ∷ bs }) y (record { words = []; past = (input_of (b ∷ bs)).past })
unfolding a_word
read_of f y b bs h = rw (one_word b bs h) refl

-- the first of what was read
first_of : {A : Type 0} → Result (A × Input) Offence → Option A
first_of (Ok p) = Some p.0
first_of (Err e) = None

by_value : {A : Type 0} (o : Option A) (w : Word) (y : LineWhy) (i rest : Input) (result : Result A Offence) → Gives result rest (value_or o w y i) → result_ok result ≡ o
unfolding first_of
by_value None w y i rest (Ok a) g = absurd (cc g)
by_value None w y i rest (Err e) g = refl
by_value (Some x) w y i rest (Ok a) g = sym (ap first_of g)
by_value (Some x) w y i rest (Err e) g = absurd (cc g)

nothing_told : {A : Type 0} (f : List ℕ → Option A) (y : LineWhy) (rest : Input) (result : Result A Offence) → Gives result rest (a_field f y (input_of [])) → result_ok result ≡ None
unfolding a_word words_from
nothing_told f y rest (Ok a) g = absurd (cc g)
nothing_told f y rest (Err e) g = refl

-- so what a reader of a field makes of it is what it spells
field_read : {A : Type 0} (f : List ℕ → Option A) (y : LineWhy) → f [] ≡ None → (text : List ℕ) (rest : Input) (result : Result A Offence) → list_any is_space text ≡ false → Gives result rest (a_field f y (input_of text)) → result_ok result ≡ f text
field_read f y none [] rest result h g = nothing_told f y rest result g ∙ sym none
field_read f y none (b ∷ bs) rest result h g = by_value (f (b ∷ bs)) (record { column = 1; text = b ∷ bs }) y (record { words = []; past = (input_of (b ∷ bs)).past }) rest result (subst (Gives result rest) (read_of f y b bs h) g)

no_address : address_of [] ≡ None
unfolding address_of host_of part_of cut_at number_in
no_address = refl

no_number : (low high : ℕ) → number_in low high [] ≡ None
unfolding number_in
no_number low high = refl

pub address_read : (text : List ℕ) (rest : Input) (result : Result Address Offence) → list_any is_space text ≡ false → Gives result rest (an_address (input_of text)) → result_ok result ≡ address_of text
unfolding an_address
address_read text rest result h g = field_read address_of why.Address no_address text rest result h g

pub number_read : (low high : ℕ) (text : List ℕ) (rest : Input) (result : Result ℕ Offence) → list_any is_space text ≡ false → Gives result rest (a_number low high (input_of text)) → result_ok result ≡ number_in low high text
unfolding a_number
number_read low high text rest result h g = field_read (number_in low high) why.Number (no_number low high) text rest result h g

pub plain_is : {A : Type 0} (f : List ℕ → Option A) (text : List ℕ) → list_any is_space text ≡ false → plainly f text ≡ f text
plain_is f text h = rw h refl
