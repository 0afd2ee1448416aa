-- A word without spaces is the one word of itself as a line.
use Rattle.std.proofs.Common.{arith, ◌==◌, length, ◌≡◌, ◌∙◌, ℕ, Bool, true, false, List, [], ◌∷◌, Option, Some, None, Result, Ok, Err, refl, sym, ap, subst}
use Rattle.std.proofs.lemmas.Bool.Decides.{nat_tests}
use Rattle.std.specs.List.{list_any, slice_split}
use Rattle.std.specs.Result.{result_ok}
use Rattle.program_rules.specs.Commands as rules
use Rattle.rdma_types.specs.declared.requests.Address.{Address}
use Rattle.script_lang.specs.declared.lines.Offence.{Offence}
use Rattle.script_lang.specs.declared.lines.LineWhy.TheVariants as why
use Rattle.script_lang.specs.Fields.{an_address}
use Rattle.script_lang.specs.Texts.{address_of, cut_at, host_of, number_in, part_of}
use Rattle.script_lang.specs.Words.{Gives, Input, Read, Word, a_word, input_of, is_space, offence, value_or, words_from}

-- it is one piece
piece_by : (b : ℕ) (bs : List ℕ) (t : Bool) → is_space b ≡ t → (list_any is_space bs ≡ false → slice_split is_space bs ≡ bs ∷ []) → list_any is_space (b ∷ bs) ≡ false → slice_split is_space (b ∷ bs) ≡ (b ∷ bs) ∷ []
piece_by b bs true k rest h = let e : true ≡ false = rw k at h in cc e
piece_by b bs false k rest h = let r : list_any is_space bs ≡ false = rw k at h in rw k (rw (rest r) refl)

one_piece : (bs : List ℕ) → list_any is_space bs ≡ false → slice_split is_space bs ≡ bs ∷ []
one_piece [] h = refl
one_piece (b ∷ bs) h = piece_by b bs (is_space b) refl (one_piece bs) h

-- and one word, unless it is empty
one_word : (b : ℕ) (bs : List ℕ) → list_any is_space (b ∷ bs) ≡ false → words_from 1 (b ∷ bs) ≡ record { column = 1; text = b ∷ bs } ∷ []
unfolding words_from
one_word b bs h = let some : (length (b ∷ bs) == 0) ≡ false = grind (arith, nat_tests) in rw (one_piece (b ∷ bs) h) (rw some refl)

-- what is read of it
read_of : (b : ℕ) (bs : List ℕ) → list_any is_space (b ∷ bs) ≡ false → an_address (input_of (b ∷ bs)) ≡ value_or (address_of (b ∷ bs)) (record { column = 1; text = b ∷ bs }) why.Address (record { words = []; past = (input_of (b ∷ bs)).past })
unfolding an_address a_word
read_of b bs h = rw (one_word b bs h) refl

-- the first of what was read
first_of : Result (Address × Input) Offence → Option Address
first_of (Ok p) = Some p.0
first_of (Err e) = None

by_value : (o : Option Address) (w : Word) (i rest : Input) (result : Result Address Offence) → Gives result rest (value_or o w why.Address i) → result_ok result ≡ o
unfolding first_of
by_value None w i rest (Ok a) g = absurd (cc g)
by_value None w i rest (Err e) g = refl
by_value (Some x) w i rest (Ok a) g = sym (ap first_of g)
by_value (Some x) w i rest (Err e) g = absurd (cc g)

nothing_told : (rest : Input) (result : Result Address Offence) → Gives result rest (an_address (input_of [])) → result_ok result ≡ None
unfolding an_address a_word words_from
nothing_told rest (Ok a) g = absurd (cc g)
nothing_told rest (Err e) g = refl

no_address : address_of [] ≡ None
unfolding address_of host_of part_of cut_at number_in
no_address = refl

-- so what a reader of words makes of it is the address that it spells
pub own_read : (text : List ℕ) (rest : Input) (result : Result Address Offence) → list_any is_space text ≡ false → Gives result rest (an_address (input_of text)) → result_ok result ≡ address_of text
own_read [] rest result h g = nothing_told rest result g ∙ sym no_address
own_read (b ∷ bs) rest result h g = by_value (address_of (b ∷ bs)) (record { column = 1; text = b ∷ bs }) (record { words = []; past = (input_of (b ∷ bs)).past }) rest result (subst (Gives result rest) (read_of b bs h) g)

pub own_is : (text : List ℕ) → list_any is_space text ≡ false → rules.own_of text ≡ address_of text
own_is text h = rw h refl
