-- The lines of an answer to a verb are lines of answers.
use Rattle.std.proofs.Common.{arith, ◌≡◌, ℕ, zero, suc, ◌+◌, ◌/◌, ◌%◌, ◌≤◌, ◌<◌, ◌^◌, Bool, true, false, is_some, List, [], ◌∷◌, ◌++◌, length, get_or, Option, Some, None, Ok, if◌then◌else◌, refl, sym, ap, ◌∙◌, subst, codes, append_assoc, append-nil}
use Rattle.std.specs.Prelude.{All}
use Rattle.std.specs.Fmt.{decimal, digits}
use Rattle.std.specs.Int.{byte_at, bytes_high_first}
use Rattle.std.specs.List.{list_all}
use Rattle.std.specs.Str.{bytes_eq}
use Rattle.std.proofs.lemmas.List.Elements.{All-head, All-tail}
use Rattle.std.proofs.lemmas.List.Sums.{AllPass-from_list_all}
use Rattle.std.proofs.lemmas.Slice.Eq.{bytes_eq-Decides}
use Rattle.hex.specs.Hex.{IsBytes, encode_lower, encode_with, lower_digits}
use Rattle.rdma_types.specs.declared.answers.Answer.{Answer}
use Rattle.rdma_types.specs.declared.answers.Answer.TheVariants as answers
use Rattle.rdma_types.specs.declared.answers.Refusal.{Refusal}
use Rattle.rdma_types.specs.declared.answers.Refusal.TheVariants as refusals
use Rattle.rdma_types.specs.declared.requests.Completion.{Completion}
use Rattle.rdma_types.specs.declared.requests.WcKind.{WcKind}
use Rattle.rdma_types.specs.declared.requests.WcKind.TheVariants as kinds
use Rattle.rdma_types.specs.declared.requests.WcStatus.{WcStatus}
use Rattle.rdma_types.specs.declared.requests.WcStatus.TheVariants as statuses
use Rattle.script_lang.specs.Fields.{a_key, a_number, a_queue_pair, an_immediate, some_bytes}
use Rattle.script_lang.specs.Lines.{is_printable, said, whole}
use Rattle.script_lang.specs.Printed.{completion_line, completion_lines, imm_words, key_text, kind_text, line, polled_lines, printed, qp_text, refusal_text, status_number}
use Rattle.script_lang.specs.Texts.{greatest_u32, greatest_u64, hex_number, number_in}
use Rattle.script_lang.specs.Words.{a_word, an_option, the_end}
use Rattle.run_traces.specs.Answers.{answer_form, answer_of_line, answer_said, bytes_said, entry_said, if_printed, keys_said, kind_of_word, number_said, refusal_of_word, refusal_said, status_of_word, words_said}
use Rattle.script_lang.specs.Scripts.{but_last, ended_lines}
use Rattle.run_traces.specs.Written.{answer_lines}
use Rattle.law_script_words.proofs.Lines.{lines_of_cut}
use Rattle.law_script_words.specs.Spoken.{AreWords, IsWord, columned, is_glyph, spoken}
use Rattle.law_script_words.proofs.Spoken.{line_by, spoken_printable, word, words_read}
use Rattle.law_script_words.proofs.Numbers.{number_word}
use Rattle.law_traces.proofs.SaidLines.{line_cut}
use Rattle.law_traces.proofs.SaidMachine.{IsFitEntry}
use Rattle.law_traces.proofs.SaidSteps.{AreReadBack}

-- ---- a line

-- a line of an answer to some verb
pub record IsAnswerLine (text : List ℕ) : Type 0 where
  pub printable : list_all is_printable text ≡ true
  pub is : is_some (answer_of_line text) ≡ true

-- words that are read as an answer, which is printed as they are
words_answer : (first : List ℕ) (ws : List (List ℕ)) (a : Answer) → AreWords (first ∷ ws) → said (whole words_said (record { words = columned 1 (first ∷ ws); past = length (spoken first ws) + 1 })) ≡ Ok a → printed a ≡ line first ws → is_some (answer_of_line (spoken first ws)) ≡ true
unfolding answer_of_line
words_answer first ws a are says prints =
    let text : List ℕ = spoken first ws in
    let same : bytes_eq (printed a) (text ++ 10 ∷ []) ≡ true = (bytes_eq-Decides (printed a) (text ++ 10 ∷ [])).1 (prints ∙ line_by first ws) in
    ap (λ ws'. is_some (if_printed text (said (whole words_said (record { words = ws'; past = length text + 1 }))))) (words_read 1 first ws are)
    ∙ ap (λ r. is_some (if_printed text r)) says
    ∙ ap (λ b. is_some (if b then Some a else None)) same

answer_line : (first : List ℕ) (ws : List (List ℕ)) (a : Answer) → AreWords (first ∷ ws) → ((past : ℕ) → said (whole words_said (record { words = columned 1 (first ∷ ws); past = past })) ≡ Ok a) → printed a ≡ line first ws → IsAnswerLine (spoken first ws)
answer_line first ws a are says prints = record {
  printable = spoken_printable first ws are;
  is = words_answer first ws a are (says (length (spoken first ws) + 1)) prints;
}

-- ---- keys and numbers of queue pairs

module _ (n : ℕ) where
  key_bytes : bytes_high_first 4 (n % 4294967296) ≡ bytes_high_first 4 n
  key_bytes =
      let three : byte_at 3 (n % 4294967296) ≡ byte_at 3 n = omega arith in
      let two : byte_at 2 (n % 4294967296) ≡ byte_at 2 n = omega arith in
      let one : byte_at 1 (n % 4294967296) ≡ byte_at 1 n = omega arith in
      let none : byte_at 0 (n % 4294967296) ≡ byte_at 0 n = omega arith in
      rw (three, two, one, none) refl

  number_bytes : bytes_high_first 3 (n % 16777216) ≡ bytes_high_first 3 n
  number_bytes =
      let two : byte_at 2 (n % 16777216) ≡ byte_at 2 n = omega arith in
      let one : byte_at 1 (n % 16777216) ≡ byte_at 1 n = omega arith in
      let none : byte_at 0 (n % 16777216) ≡ byte_at 0 n = omega arith in
      rw (two, one, none) refl

  -- a key is written by its 32 bits, and a number by its 24
  key_written : key_text (n % 4294967296) ≡ key_text n
  key_written = ap encode_lower key_bytes

  number_written : qp_text (n % 16777216) ≡ qp_text n
  number_written = ap encode_lower number_bytes

key_read : AreReadBack → (n : ℕ) → hex_number 4 (key_text n) ≡ Some (n % 4294967296)
key_read law n = ap (hex_number 4) (sym (key_written n)) ∙ law.key (n % 4294967296) (omega arith)

number_read : AreReadBack → (n : ℕ) → hex_number 3 (qp_text n) ≡ Some (n % 16777216)
number_read law n = ap (hex_number 3) (sym (number_written n)) ∙ law.queue_pair (n % 16777216) (omega arith)

-- ---- digits

digit_glyph : (d : ℕ) → d < 16 → is_glyph (get_or lower_digits d 0) ≡ true
digit_glyph d h = AllPass-from_list_all is_glyph lower_digits refl d 0 h

hex_glyphs : (bs : List ℕ) → IsBytes bs → list_all is_glyph (encode_lower bs) ≡ true
unfolding encode_with
hex_glyphs [] is = refl
hex_glyphs (b ∷ bs) is =
    let small : b < 256 = is 0 in
    rw (digit_glyph (b / 16) (omega arith), digit_glyph (b % 16) (omega arith)) (hex_glyphs bs (λ i. is (suc i)))

hex_some : (b : ℕ) (bs : List ℕ) → 0 < length (encode_lower (b ∷ bs))
unfolding encode_with
hex_some b bs = omega arith

hex_word : (b : ℕ) (bs : List ℕ) → IsBytes (b ∷ bs) → IsWord (encode_lower (b ∷ bs))
hex_word b bs is = record { some = hex_some b bs; glyphs = hex_glyphs (b ∷ bs) is }

byte_small : (k x : ℕ) → byte_at k x < 256
byte_small zero x = omega arith
byte_small (suc k) x = let top : ℕ = x / 256 ^ suc k in let small : top % 256 < 256 = omega arith in small

bytes_small : (n x : ℕ) → IsBytes (bytes_high_first n x)
bytes_small zero x i = omega arith
bytes_small (suc n) x zero = byte_small n x
bytes_small (suc n) x (suc i) = bytes_small n x i

key_word : (n : ℕ) → IsWord (key_text n)
key_word n = hex_word (byte_at 3 n) (bytes_high_first 3 n) (bytes_small 4 n)

queue_pair_word : (n : ℕ) → IsWord (qp_text n)
queue_pair_word n = hex_word (byte_at 2 n) (bytes_high_first 2 n) (bytes_small 3 n)

-- ---- each line

done_line : IsAnswerLine (spoken (codes "ok") [])
unfolding printed words_said answer_form answer_said a_word the_end
done_line = answer_line (codes "ok") [] answers.Done (word (codes "ok") refl, tt) (λ past. refl) refl

none_line : IsAnswerLine (spoken (codes "none") [])
unfolding printed polled_lines words_said answer_form answer_said a_word the_end
none_line = answer_line (codes "none") [] (answers.Polled []) (word (codes "none") refl, tt) (λ past. refl) refl

keys_line : AreReadBack → (local remote : ℕ) → IsAnswerLine (spoken (codes "region") (key_text local ∷ key_text remote ∷ []))
unfolding printed words_said answer_form answer_said keys_said a_key a_word the_end
keys_line law local remote =
    answer_line (codes "region") (key_text local ∷ key_text remote ∷ []) (answers.Region (record { local = local % 4294967296; remote = remote % 4294967296 }))
    (word (codes "region") refl, (key_word local, (key_word remote, tt)))
    (λ past. rw (key_read law local, key_read law remote) refl)
    (ap (λ k. line (codes "region") (k ∷ key_text (remote % 4294967296) ∷ [])) (key_written local)
    ∙ ap (λ k. line (codes "region") (key_text local ∷ k ∷ [])) (key_written remote))

number_line : AreReadBack → (n : ℕ) → IsAnswerLine (spoken (codes "qp") (qp_text n ∷ []))
unfolding printed words_said answer_form answer_said number_said a_queue_pair a_word the_end
number_line law n =
    answer_line (codes "qp") (qp_text n ∷ []) (answers.Qp (n % 16777216))
    (word (codes "qp") refl, (queue_pair_word n, tt))
    (λ past. rw (number_read law n) refl)
    (ap (λ k. line (codes "qp") (k ∷ [])) (number_written n))

bytes_line : AreReadBack → (bs : List ℕ) → IsBytes bs → 1 ≤ length bs → length bs ≤ 4096 → IsAnswerLine (spoken (codes "bytes") (encode_lower bs ∷ []))
unfolding printed words_said answer_form answer_said bytes_said some_bytes a_word the_end
bytes_line law [] are some few = absurd (omega arith)
bytes_line law (b ∷ bs) are some few =
    answer_line (codes "bytes") (encode_lower (b ∷ bs) ∷ []) (answers.Bytes (b ∷ bs))
    (word (codes "bytes") refl, (hex_word b bs are, tt))
    (λ past. rw (law.bytes (b ∷ bs) are some few) refl) refl

-- a refusal of the machine
abbrev pub is_known : Refusal → Bool
is_known refusals.PeerMoving = false
is_known refusals.Spent = false
is_known other = true

refusal_read : (r : Refusal) → is_known r ≡ true → refusal_of_word (refusal_text r) ≡ Some r
unfolding refusal_of_word
refusal_read refusals.NoSuch h = refl
refusal_read refusals.NumberTaken h = refl
refusal_read refusals.TooMany h = refl
refusal_read refusals.BadState h = refl
refusal_read refusals.SqFull h = refl
refusal_read refusals.RqFull h = refl
refusal_read refusals.CqFull h = refl
refusal_read refusals.BadKey h = refl
refusal_read refusals.TooLong h = refl
refusal_read refusals.InUse h = refl
refusal_read refusals.Stopped h = refl
refusal_read refusals.PeerMoving h = cc h
refusal_read refusals.Spent h = cc h
refusal_read refusals.NoPage h = refl

refusal_word : (r : Refusal) → IsWord (refusal_text r)
refusal_word refusals.NoSuch = word (codes "NoSuch") refl
refusal_word refusals.NumberTaken = word (codes "NumberTaken") refl
refusal_word refusals.TooMany = word (codes "TooMany") refl
refusal_word refusals.BadState = word (codes "BadState") refl
refusal_word refusals.SqFull = word (codes "SqFull") refl
refusal_word refusals.RqFull = word (codes "RqFull") refl
refusal_word refusals.CqFull = word (codes "CqFull") refl
refusal_word refusals.BadKey = word (codes "BadKey") refl
refusal_word refusals.TooLong = word (codes "TooLong") refl
refusal_word refusals.InUse = word (codes "InUse") refl
refusal_word refusals.Stopped = word (codes "Stopped") refl
refusal_word refusals.PeerMoving = word (codes "PeerMoving") refl
refusal_word refusals.Spent = word (codes "Spent") refl
refusal_word refusals.NoPage = word (codes "NoPage") refl

refused_line : (r : Refusal) → is_known r ≡ true → IsAnswerLine (spoken (codes "refused") (refusal_text r ∷ []))
unfolding printed words_said answer_form answer_said refusal_said a_word the_end
refused_line r known =
    answer_line (codes "refused") (refusal_text r ∷ []) (answers.Refused r) (word (codes "refused") refl, (refusal_word r, tt))
    (λ past. rw (refusal_read r known) refl) refl

-- ---- completions

kind_read : (k : WcKind) → kind_of_word (kind_text k) ≡ Some k
unfolding kind_of_word
kind_read kinds.Write = refl
kind_read kinds.Send = refl
kind_read kinds.Read = refl
kind_read kinds.CompareSwap = refl
kind_read kinds.FetchAdd = refl
kind_read kinds.Recv = refl
kind_read kinds.RecvImm = refl

kind_word : (k : WcKind) → IsWord (kind_text k)
kind_word kinds.Write = word (codes "write") refl
kind_word kinds.Send = word (codes "send") refl
kind_word kinds.Read = word (codes "read") refl
kind_word kinds.CompareSwap = word (codes "cas") refl
kind_word kinds.FetchAdd = word (codes "add") refl
kind_word kinds.Recv = word (codes "recv") refl
kind_word kinds.RecvImm = word (codes "recvimm") refl

status_read : (s : WcStatus) → status_of_word (decimal (status_number s)) ≡ Some s
unfolding status_of_word digits
status_read statuses.Success = refl
status_read statuses.LocalLength = refl
status_read statuses.Flush = refl
status_read statuses.RemoteInvalid = refl
status_read statuses.RemoteAccess = refl
status_read statuses.RetryExceeded = refl
status_read statuses.RnrExceeded = refl

status_small : (s : WcStatus) → status_number s < 2 ^ 64
status_small statuses.Success = omega arith
status_small statuses.LocalLength = omega arith
status_small statuses.Flush = omega arith
status_small statuses.RemoteInvalid = omega arith
status_small statuses.RemoteAccess = omega arith
status_small statuses.RetryExceeded = omega arith
status_small statuses.RnrExceeded = omega arith

long_read : AreReadBack → (n : ℕ) → n < 2 ^ 64 → number_in 0 greatest_u64 (decimal n) ≡ Some n
long_read law n small = law.number 0 greatest_u64 n (omega arith) (omega arith) small

short_read : AreReadBack → (n : ℕ) → n < 2 ^ 32 → number_in 0 greatest_u32 (decimal n) ≡ Some n
short_read law n small = law.number 0 greatest_u32 n (omega arith) (omega arith) (omega arith)

-- the words of a completion behind its mark
abbrev entry_words : Completion → List (List ℕ)
entry_words c = qp_text c.qp ∷ decimal c.id ∷ kind_text c.kind ∷ decimal (status_number c.status) ∷ decimal c.length ∷ imm_words c.imm

-- the completion that they are read as: its number and its immediate by their bits
abbrev imm_within : Option ℕ → Option ℕ
imm_within None = None
imm_within (Some n) = Some (n % 4294967296)

abbrev within : Completion → Completion
within c = record c { qp = c.qp % 16777216; imm = imm_within c.imm }

imm_written : (o : Option ℕ) → imm_words (imm_within o) ≡ imm_words o
unfolding imm_words
imm_written None = refl
imm_written (Some n) = ap (λ k. codes "imm" ∷ k ∷ []) (key_written n)

imm_are : (o : Option ℕ) → AreWords (imm_words o)
unfolding imm_words
imm_are None = tt
imm_are (Some n) = (word (codes "imm") refl, (key_word n, tt))

entry_are : (c : Completion) → IsFitEntry c → AreWords (codes "wc" ∷ entry_words c)
entry_are c fit =
    (word (codes "wc") refl, (queue_pair_word c.qp, (number_word c.id fit.id, (kind_word c.kind, (number_word (status_number c.status) (status_small c.status), (number_word c.length (omega (arith, fit.size)), imm_are c.imm))))))

entry_read : AreReadBack → (qp id size : ℕ) (kind : WcKind) (status : WcStatus) (imm : Option ℕ) → id < 2 ^ 64 → size < 2 ^ 32 → (past : ℕ) →
    said (whole words_said (record { words = columned 1 (codes "wc" ∷ qp_text qp ∷ decimal id ∷ kind_text kind ∷ decimal (status_number status) ∷ decimal size ∷ imm_words imm); past = past }))
    ≡ Ok (answers.Polled (record { qp = qp % 16777216; id = id; kind = kind; status = status; length = size; imm = imm_within imm } ∷ []))
unfolding words_said answer_form answer_said entry_said a_queue_pair a_number an_immediate an_option a_key a_word the_end imm_words
entry_read law qp id size kind status None few small past =
    rw (number_read law qp, long_read law id few, kind_read kind, status_read status, short_read law size small) refl
entry_read law qp id size kind status (Some n) few small past =
    rw (number_read law qp, long_read law id few, kind_read kind, status_read status, short_read law size small, key_read law n) refl

entry_written : (c : Completion) → printed (answers.Polled (within c ∷ [])) ≡ line (codes "wc") (entry_words c)
unfolding printed polled_lines completion_lines completion_line
entry_written c =
    append-nil (line (codes "wc") (entry_words (within c)))
    ∙ ap (λ k. line (codes "wc") (k ∷ decimal c.id ∷ kind_text c.kind ∷ decimal (status_number c.status) ∷ decimal c.length ∷ imm_words (imm_within c.imm))) (number_written c.qp)
    ∙ ap (λ ws. line (codes "wc") (qp_text c.qp ∷ decimal c.id ∷ kind_text c.kind ∷ decimal (status_number c.status) ∷ decimal c.length ∷ ws)) (imm_written c.imm)

entry_line : AreReadBack → (c : Completion) → IsFitEntry c → IsAnswerLine (spoken (codes "wc") (entry_words c))
entry_line law c fit =
    answer_line (codes "wc") (entry_words c) (answers.Polled (within c ∷ [])) (entry_are c fit)
    (entry_read law c.qp c.id c.length c.kind c.status c.imm fit.id fit.size) (entry_written c)

-- ---- all lines of an answer

abbrev pub AreAnswerLines : List (List ℕ) → Type 0
AreAnswerLines [] = Unit {0}
AreAnswerLines (t ∷ ts) = IsAnswerLine t × AreAnswerLines ts

-- the lines that it is printed as, of which there is one
pub record IsSaidIn (a : Answer) : Type 0 where
  pub some : 1 ≤ length (answer_lines a)
  pub each : AreAnswerLines (answer_lines a)

no_lines : ended_lines [] ≡ []
unfolding but_last
no_lines = refl

-- the lines of a text that begins with one
first_line : (first : List ℕ) (ws : List (List ℕ)) (rest : List ℕ) → list_all is_printable (spoken first ws) ≡ true → ended_lines (line first ws ++ rest) ≡ spoken first ws ∷ ended_lines rest
first_line first ws rest h =
    let whole' : line first ws ++ rest ≡ spoken first ws ++ 10 ∷ rest = ap (λ z. z ++ rest) (line_by first ws) ∙ append_assoc (spoken first ws) (10 ∷ []) rest in
    ap ended_lines whole' ∙ lines_of_cut (spoken first ws ++ 10 ∷ rest) (spoken first ws) rest (line_cut (spoken first ws) rest h)

one_line : (first : List ℕ) (ws : List (List ℕ)) → list_all is_printable (spoken first ws) ≡ true → ended_lines (line first ws) ≡ spoken first ws ∷ []
one_line first ws h = ap ended_lines (sym (append-nil (line first ws))) ∙ first_line first ws [] h ∙ ap (λ z. spoken first ws ∷ z) no_lines

-- an answer of one line
said_once : (a : Answer) (first : List ℕ) (ws : List (List ℕ)) → printed a ≡ line first ws → IsAnswerLine (spoken first ws) → IsSaidIn a
said_once a first ws prints is =
    let lines : answer_lines a ≡ spoken first ws ∷ [] = ap ended_lines prints ∙ one_line first ws is.printable in
    record {
      some = subst (λ ls. 1 ≤ length ls) (sym lines) (omega arith);
      each = subst AreAnswerLines (sym lines) (is, tt);
    }

entries_said : AreReadBack → (cs : List Completion) → All IsFitEntry cs → AreAnswerLines (ended_lines (completion_lines cs))
unfolding completion_lines completion_line
entries_said law [] are = subst AreAnswerLines (sym no_lines) tt
entries_said law (c ∷ cs) are =
    let is = entry_line law c (All-head IsFitEntry c cs are) in
    subst AreAnswerLines (sym (first_line (codes "wc") (entry_words c) (completion_lines cs) is.printable)) (is, entries_said law cs (All-tail IsFitEntry c cs are))

entries_some : AreReadBack → (c : Completion) (cs : List Completion) → All IsFitEntry (c ∷ cs) → 1 ≤ length (ended_lines (completion_lines (c ∷ cs)))
unfolding completion_lines completion_line
entries_some law c cs are =
    let is = entry_line law c (All-head IsFitEntry c cs are) in
    subst (λ ls. 1 ≤ length ls) (sym (first_line (codes "wc") (entry_words c) (completion_lines cs) is.printable)) (omega arith)

polled_said : AreReadBack → (cs : List Completion) → All IsFitEntry cs → IsSaidIn (answers.Polled cs)
unfolding printed polled_lines
polled_said law [] are = said_once (answers.Polled []) (codes "none") [] refl none_line
polled_said law (c ∷ cs) are = record { some = entries_some law c cs are; each = entries_said law (c ∷ cs) are }

-- an answer of the machine to a verb: its fields are within their bits
abbrev pub IsFitAnswer : Answer → Type 0
IsFitAnswer answers.Done = Unit {0}
IsFitAnswer (answers.Region keys) = Unit {0}
IsFitAnswer (answers.Qp number) = Unit {0}
IsFitAnswer (answers.Bytes bytes) = IsBytes bytes × (1 ≤ length bytes) × (length bytes ≤ 4096)
IsFitAnswer (answers.Polled entries) = All IsFitEntry entries
IsFitAnswer (answers.Refused r) = is_known r ≡ true
IsFitAnswer other = ⊥

-- its lines are lines of answers
pub answer_said_in : AreReadBack → (a : Answer) → IsFitAnswer a → IsSaidIn a
unfolding printed
answer_said_in law answers.Done fit = said_once answers.Done (codes "ok") [] refl done_line
answer_said_in law (answers.Region keys) fit = said_once (answers.Region keys) (codes "region") (key_text keys.local ∷ key_text keys.remote ∷ []) refl (keys_line law keys.local keys.remote)
answer_said_in law (answers.Qp number) fit = said_once (answers.Qp number) (codes "qp") (qp_text number ∷ []) refl (number_line law number)
answer_said_in law (answers.Bytes bytes) fit = said_once (answers.Bytes bytes) (codes "bytes") (encode_lower bytes ∷ []) refl (bytes_line law bytes fit.0 fit.1 fit.2)
answer_said_in law (answers.Polled entries) fit = polled_said law entries fit
answer_said_in law (answers.Refused r) fit = said_once (answers.Refused r) (codes "refused") (refusal_text r ∷ []) refl (refused_line r fit)
answer_said_in law other fit = absurd fit
