-- The line of an answer that gives keys or a number is read back, and the lines of any answer are its text.
use Rattle.std.proofs.Common.{arith, ◌≡◌, ℕ, zero, suc, ◌+◌, ◌/◌, ◌%◌, ◌<◌, ◌==◌, not, Bool, true, false, List, [], ◌∷◌, ◌++◌, length, drop, refl, sym, ap, ◌∙◌, append_assoc, codes, Some, Ok}
use Rattle.std.proofs.lemmas.Bool.{and_parts, not-true}
use Rattle.std.proofs.lemmas.Bool.Decides.{nat_tests}
use Rattle.std.proofs.lemmas.List.Elements.{All-cons, All-nil, All-append}
use Rattle.std.proofs.lemmas.List.Splits.{slice_split_at, slice_split_none}
use Rattle.std.proofs.lemmas.Slice.Eq.{bytes_eq-Decides}
use Rattle.std.specs.Int.{w32, to_be_bytes}
use Rattle.std.specs.List.{list_all, slice_split}
use Rattle.std.specs.Prelude.{All, ◌^◌, slice_index}
use Rattle.hex.specs.Hex.{encode_lower, encode_with, lower_digits}
use Rattle.hex.proofs.HexLemmas.{length-encode_with}
use Rattle.rdma_types.specs.declared.answers.Answer.{Answer}
use Rattle.rdma_types.specs.declared.answers.Answer.TheVariants as answers
use Rattle.rdma_types.specs.declared.requests.Keys.{Keys}
use Rattle.script_lang.specs.Fields.{a_key, a_queue_pair}
use Rattle.script_lang.specs.Lines.{said, whole}
use Rattle.script_lang.specs.Printed.{IsWhole, key_text, printed, qp_text}
use Rattle.script_lang.specs.Scripts.{but_last, ended_lines, is_newline}
use Rattle.script_lang.specs.Texts.{hex_number}
use Rattle.script_lang.specs.Words.{Word, a_word, input_of, is_space, placed, the_end, words_from}
use Rattle.run_traces.specs.Answers.{answer_form, answer_of_line, answer_said, first_answer, if_printed, keys_said, number_said, words_said}
use Rattle.run_traces.specs.Verdicts.{text_of_lines}
use Rattle.run_traces.specs.Written.{answer_lines}

-- ---- digits are no spaces and no newlines

-- no byte of the text is this one
abbrev Lacks : ℕ → List ℕ → Type 0
Lacks c bs = All (λ b. (b == c) ≡ false) bs

-- .. as a test
abbrev all_lack : ℕ → List ℕ → Bool
all_lack c bs = list_all (λ b. not (b == c)) bs

-- the byte at any place of a text, where past its end stands 0
index_lacks : (t : List ℕ) (c : ℕ) → all_lack c t ≡ true → (0 == c) ≡ false → (k : ℕ) → (slice_index t k == c) ≡ false
index_lacks [] c h none k = none
index_lacks (b ∷ t) c h none zero = not-true (b == c) (and_parts (not (b == c)) (all_lack c t) h).0
index_lacks (b ∷ t) c h none (suc k) = index_lacks t c (and_parts (not (b == c)) (all_lack c t) h).1 none k

-- hexadecimal digits
digits_lack : (c : ℕ) → ((k : ℕ) → (slice_index lower_digits k == c) ≡ false) → (bs : List ℕ) → Lacks c (encode_lower bs)
unfolding encode_with
digits_lack c each [] = All-nil (λ b. (b == c) ≡ false)
digits_lack c each (b ∷ bs) =
    All-cons (λ x. (x == c) ≡ false) (slice_index lower_digits (b / 16)) (slice_index lower_digits (b % 16) ∷ encode_lower bs) (each (b / 16))
    (All-cons (λ x. (x == c) ≡ false) (slice_index lower_digits (b % 16)) (encode_lower bs) (each (b % 16)) (digits_lack c each bs))

no_spaces : (bs : List ℕ) → Lacks 32 (encode_lower bs)
no_spaces bs = digits_lack 32 (index_lacks lower_digits 32 refl refl) bs

no_newlines : (bs : List ℕ) → Lacks 10 (encode_lower bs)
no_newlines bs = digits_lack 10 (index_lacks lower_digits 10 refl refl) bs

-- a text that is written out
text_lacks : (c : ℕ) (bs : List ℕ) → all_lack c bs ≡ true → Lacks c bs
text_lacks c [] h = All-nil (λ b. (b == c) ≡ false)
text_lacks c (b ∷ bs) h = let p = and_parts (not (b == c)) (all_lack c bs) h in All-cons (λ b. (b == c) ≡ false) b bs (not-true (b == c) p.0) (text_lacks c bs p.1)

both_lack : (c : ℕ) (xs ys : List ℕ) → Lacks c xs → Lacks c ys → Lacks c (xs ++ ys)
both_lack c xs ys p q = All-append (λ b. (b == c) ≡ false) xs ys p q

-- a word behind a space
behind_space : (c : ℕ) (word : List ℕ) → (32 == c) ≡ false → Lacks c word → Lacks c (32 ∷ word)
behind_space c word other p = All-cons (λ b. (b == c) ≡ false) 32 word other p

-- ---- a text of one line

-- a line, by its text with the newline
one_line : (text : List ℕ) → Lacks 10 text → ended_lines (text ++ 10 ∷ []) ≡ text ∷ []
unfolding but_last
one_line text none = ap but_last (slice_split_at is_newline text 10 [] none refl)

-- ---- words

-- a word with its column
abbrev word : ℕ → List ℕ → Word
word column text = record { column = column; text = text }

kept : (column : ℕ) (piece : List ℕ) (more : List (List ℕ)) → 0 < length piece → placed column (piece ∷ more) ≡ word column piece ∷ placed (column + length piece + 1) more
kept column piece more some =
    let e : (length piece == 0) ≡ false = grind (arith, nat_tests) in
    rw e refl

-- words with a space between
two_words : (column : ℕ) (a b : List ℕ) → Lacks 32 a → Lacks 32 b → 0 < length a → 0 < length b →
    words_from column (a ++ 32 ∷ b) ≡ word column a ∷ word (column + length a + 1) b ∷ []
unfolding words_from
two_words column a b p q some_a some_b =
    ap (placed column) (slice_split_at is_space a 32 b p refl ∙ ap (λ z. a ∷ z) (slice_split_none is_space b q))
    ∙ (kept column a (b ∷ []) some_a ∙ ap (λ z. word column a ∷ z) (kept (column + length a + 1) b [] some_b))

three_words : (column : ℕ) (a b c : List ℕ) → Lacks 32 a → Lacks 32 b → Lacks 32 c → 0 < length a → 0 < length b → 0 < length c →
    words_from column (a ++ 32 ∷ (b ++ 32 ∷ c)) ≡ word column a ∷ word (column + length a + 1) b ∷ word (column + length a + 1 + length b + 1) c ∷ []
unfolding words_from
three_words column a b c p q r some_a some_b some_c =
    ap (placed column) (slice_split_at is_space a 32 (b ++ 32 ∷ c) p refl ∙ ap (λ z. a ∷ z) (slice_split_at is_space b 32 c q refl ∙ ap (λ z. b ∷ z) (slice_split_none is_space c r)))
    ∙ (kept column a (b ∷ c ∷ []) some_a
    ∙ ap (λ z. word column a ∷ z) (kept (column + length a + 1) b (c ∷ []) some_b
    ∙ ap (λ z. word (column + length a + 1) b ∷ z) (kept (column + length a + 1 + length b + 1) c [] some_c)))

-- ---- an answer of one line

-- a text that says an answer, and is printed so
reads : (text : List ℕ) (a : Answer) → said (whole words_said (input_of text)) ≡ Ok a → printed a ≡ text ++ 10 ∷ [] → answer_of_line text ≡ Some a
unfolding answer_of_line
reads text a says is = ap (if_printed text) says ∙ rw ((bytes_eq-Decides (printed a) (text ++ 10 ∷ [])).1 is) refl

-- what printed numbers are read as
pub record ReadBack : Type 0 where
  pub key : (n : ℕ) → n < 2 ^ 32 → hex_number 4 (key_text n) ≡ Some n
  pub queue_pair : (n : ℕ) → n < 2 ^ 24 → hex_number 3 (qp_text n) ≡ Some n

-- ---- the keys of a region

region_words : (a b c past : ℕ) (one two : List ℕ) (keys : Keys) → hex_number 4 one ≡ Some keys.local → hex_number 4 two ≡ Some keys.remote →
    said (whole words_said (record { words = word a (codes "region") ∷ word b one ∷ word c two ∷ []; past = past })) ≡ Ok (answers.Region keys)
unfolding words_said a_word answer_form answer_said keys_said a_key the_end
region_words a b c past one two keys p q = rw (p, q) refl

abbrev region_line : Keys → List ℕ
region_line keys = codes "region" ++ 32 ∷ (key_text keys.local ++ 32 ∷ key_text keys.remote)

some_digits : (n : ℕ) → 0 < length (key_text n)
some_digits n = let l = length-encode_with lower_digits (to_be_bytes w32 n) in omega (arith, l)

region_said : ReadBack → (keys : Keys) → keys.local < 2 ^ 32 → keys.remote < 2 ^ 32 → said (whole words_said (input_of (region_line keys))) ≡ Ok (answers.Region keys)
region_said back keys low high =
    let local : List ℕ = key_text keys.local in
    let remote : List ℕ = key_text keys.remote in
    let text : List ℕ = region_line keys in
    ap (λ ws. said (whole words_said (record { words = ws; past = length text + 1 })))
    (three_words 1 (codes "region") local remote (text_lacks 32 (codes "region") refl) (no_spaces (to_be_bytes w32 keys.local)) (no_spaces (to_be_bytes w32 keys.remote)) (omega arith) (some_digits keys.local) (some_digits keys.remote))
    ∙ region_words 1 _ _ (length text + 1) local remote keys (back.key keys.local low) (back.key keys.remote high)

region_printed : (keys : Keys) → printed (answers.Region keys) ≡ region_line keys ++ 10 ∷ []
unfolding printed
region_printed keys =
    ap (λ z. codes "region" ++ 32 ∷ z) (sym (append_assoc (key_text keys.local) (32 ∷ key_text keys.remote) (10 ∷ [])))

region_lines : (keys : Keys) → answer_lines (answers.Region keys) ≡ region_line keys ∷ []
region_lines keys =
    ap ended_lines (region_printed keys)
    ∙ one_line (region_line keys)
    (both_lack 10 (codes "region") (32 ∷ (key_text keys.local ++ 32 ∷ key_text keys.remote)) (text_lacks 10 (codes "region") refl)
    (behind_space 10 (key_text keys.local ++ 32 ∷ key_text keys.remote) refl (both_lack 10 (key_text keys.local) (32 ∷ key_text keys.remote) (no_newlines (to_be_bytes w32 keys.local))
    (behind_space 10 (key_text keys.remote) refl (no_newlines (to_be_bytes w32 keys.remote))))))

-- keys of 32 bits are read back
pub region_again : ReadBack → (keys : Keys) → keys.local < 2 ^ 32 → keys.remote < 2 ^ 32 → first_answer (answer_lines (answers.Region keys)) ≡ Some (answers.Region keys)
region_again back keys low high = ap first_answer (region_lines keys) ∙ reads (region_line keys) (answers.Region keys) (region_said back keys low high) (region_printed keys)

-- ---- the number of a queue pair

qp_words : (a b past : ℕ) (one : List ℕ) (number : ℕ) → hex_number 3 one ≡ Some number →
    said (whole words_said (record { words = word a (codes "qp") ∷ word b one ∷ []; past = past })) ≡ Ok (answers.Qp number)
unfolding words_said a_word answer_form answer_said number_said a_queue_pair the_end
qp_words a b past one number p = rw p refl

abbrev qp_line : ℕ → List ℕ
qp_line number = codes "qp" ++ 32 ∷ qp_text number

some_qp : (n : ℕ) → 0 < length (qp_text n)
some_qp n = let l = length-encode_with lower_digits (drop 1 (to_be_bytes w32 n)) in omega (arith, l)

qp_said : ReadBack → (number : ℕ) → number < 2 ^ 24 → said (whole words_said (input_of (qp_line number))) ≡ Ok (answers.Qp number)
qp_said back number low =
    let text : List ℕ = qp_line number in
    ap (λ ws. said (whole words_said (record { words = ws; past = length text + 1 })))
    (two_words 1 (codes "qp") (qp_text number) (text_lacks 32 (codes "qp") refl) (no_spaces (drop 1 (to_be_bytes w32 number))) (omega arith) (some_qp number))
    ∙ qp_words 1 _ (length text + 1) (qp_text number) number (back.queue_pair number low)

qp_printed : (number : ℕ) → printed (answers.Qp number) ≡ qp_line number ++ 10 ∷ []
unfolding printed
qp_printed number = refl

qp_lines : (number : ℕ) → answer_lines (answers.Qp number) ≡ qp_line number ∷ []
qp_lines number =
    ap ended_lines (qp_printed number)
    ∙ one_line (qp_line number) (both_lack 10 (codes "qp") (32 ∷ qp_text number) (text_lacks 10 (codes "qp") refl) (behind_space 10 (qp_text number) refl (no_newlines (drop 1 (to_be_bytes w32 number)))))

-- a number of 24 bits is read back
pub qp_again : ReadBack → (number : ℕ) → number < 2 ^ 24 → first_answer (answer_lines (answers.Qp number)) ≡ Some (answers.Qp number)
qp_again back number low = ap first_answer (qp_lines number) ∙ reads (qp_line number) (answers.Qp number) (qp_said back number low) (qp_printed number)

-- ---- the lines of a text

-- whole lines are cut into some lines and an empty piece, and the lines are the text
record IsCut (text : List ℕ) : Type 0 where
  first : List ℕ
  next : List ℕ
  more : List (List ℕ)
  pieces : slice_split is_newline text ≡ first ∷ next ∷ more
  lines : text_of_lines (but_last (first ∷ next ∷ more)) ≡ text

newline_cut : (b : ℕ) (bs : List ℕ) (at_end : Bool) → is_newline b ≡ at_end → IsCut bs → IsCut (b ∷ bs)
unfolding but_last
newline_cut b bs true h rest = record {
  first = [];
  next = rest.first;
  more = rest.next ∷ rest.more;
  pieces = rw h (ap (λ z. [] ∷ z) rest.pieces);
  lines = let e : b ≡ 10 = grind (arith, nat_tests) in ap (λ z. 10 ∷ z) rest.lines ∙ ap (λ z. z ∷ bs) (sym e);
}
newline_cut b bs false h rest = record {
  first = b ∷ rest.first;
  next = rest.next;
  more = rest.more;
  pieces = rw h (rw rest.pieces refl);
  lines = ap (λ z. b ∷ z) rest.lines;
}

cut : (front : List ℕ) → IsCut (front ++ 10 ∷ [])
unfolding but_last
cut [] = record { first = []; next = []; more = []; pieces = refl; lines = refl }
cut (b ∷ bs) = newline_cut b (bs ++ 10 ∷ []) (is_newline b) refl (cut bs)

-- the lines of whole lines, each with its newline, are the text
whole_again : (text : List ℕ) → IsWhole text → text_of_lines (ended_lines text) ≡ text
whole_again text w =
    let c = cut w.0 in
    ap (λ z. text_of_lines (ended_lines z)) w.1 ∙ (ap (λ z. text_of_lines (but_last z)) c.pieces ∙ (c.lines ∙ sym w.1))

-- .. and so those of an answer
pub lines_again : ((a : Answer) → IsWhole (printed a)) → (a : Answer) → printed a ≡ text_of_lines (answer_lines a)
lines_again each a = sym (whole_again (printed a) (each a))
