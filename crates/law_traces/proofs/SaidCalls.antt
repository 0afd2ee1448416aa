-- A verb's line as it is recorded is read as that verb.
use Rattle.std.proofs.Common.{arith, ◌≡◌, ℕ, ◌+◌, ◌≤◌, ◌<◌, ◌==◌, ◌&&◌, Bool, true, false, List, [], ◌∷◌, length, map, Option, Some, None, Result, Ok, if◌then◌else◌, nat_le, nat_lt, refl, sym, ◌∙◌, subst, codes, length-append}
use Rattle.std.specs.Prelude.{slice_index}
use Rattle.std.specs.List.{list_all, onto_first, slice_split}
use Rattle.std.proofs.lemmas.Bool.{and_from}
use Rattle.std.proofs.lemmas.Bool.Decides.{nat_tests}
use Rattle.std.proofs.lemmas.List.{length-map}
use Rattle.rdma_types.specs.declared.names.Name.{Name}
use Rattle.rdma_types.specs.declared.verbs.Verb.{Verb}
use Rattle.rdma_types.specs.declared.verbs.Verb.TheVariants as verb
use Rattle.rdma_types.specs.Spelled.{is_name}
use Rattle.script_lang.specs.declared.forms.Form.{Form}
use Rattle.script_lang.specs.declared.lines.Line.{Line}
use Rattle.script_lang.specs.declared.lines.Line.TheVariants as line
use Rattle.script_lang.specs.declared.lines.LineWhy.TheVariants as why
use Rattle.script_lang.specs.declared.lines.Offence.{Offence}
use Rattle.script_lang.specs.Fields.{a_name}
use Rattle.script_lang.specs.Lines.{bytes_offence, is_printable, line_of, longest_line, named, printable_before, reading_of_words, said, unless, whole}
use Rattle.script_lang.specs.Texts.{name_of}
use Rattle.script_lang.specs.Verbs.{verb_form}
use Rattle.script_lang.specs.Words.{Input, Word, a_word, is_space, offence, placed, the_end, words_from}
use Rattle.run_traces.specs.declared.trace_audit.lines.TraceLine.TheVariants as trace_lines
use Rattle.run_traces.specs.Lines as audit_lines
use Rattle.run_traces.specs.Lines.{context_verb, leader_of, made_of, spoken_form, trace_line, traced_reading}
use Rattle.run_traces.specs.Written.{lower, lowered, made_text}
use Rattle.trace_rules.specs.Recording.{recorded_form, recorded_reading}
use Rattle.law_script_words.specs.Spoken.{AreWords, IsWord, behind, columned, is_glyph, spoken}
use Rattle.law_script_words.proofs.Spoken.{left, right, word}
use Rattle.law_traces.proofs.SaidLines.{words_traced}
use Rattle.law_traces.proofs.SaidReaders.{texts}
use Rattle.law_traces.proofs.SaidSteps.{AreReadBack, length-behind, name_text, name_word, room}
use Rattle.law_traces.proofs.SaidVerbs.{IsSpoken, form_kept, line_spoken, words_said}

-- ---- the words of a line

all_printable : (bs : List ℕ) → length bs ≤ printable_before bs → list_all is_printable bs ≡ true
all_printable [] h = refl
all_printable (b ∷ bs) h = by (is_printable b) refl (all_printable bs)
  where
    by : (p : Bool) → is_printable b ≡ p → (length bs ≤ printable_before bs → list_all is_printable bs ≡ true) → list_all is_printable (b ∷ bs) ≡ true
    by true e later = let q = rw e at h in rw e (later (omega arith))
    by false e later = let q = rw e at h in absurd (omega arith)

-- a line whose bytes are right is printable
printable_line : (bs : List ℕ) → bytes_offence bs ≡ None → list_all is_printable bs ≡ true
unfolding bytes_offence
printable_line bs h = by (nat_lt longest_line (length bs)) (nat_lt (printable_before bs) (length bs)) refl h
  where
    by : (a b : Bool) → nat_lt (printable_before bs) (length bs) ≡ b → (if a then Some (offence (longest_line + 1) why.Long) else if b then Some (offence (printable_before bs + 1) why.Ascii) else None) ≡ None → list_all is_printable bs ≡ true
    by true b e g = cc g
    by false true e g = cc g
    by false false e g = all_printable bs (grind (arith, nat_tests))

-- pieces without spaces
abbrev AreGlyphs : List (List ℕ) → Type 0
AreGlyphs [] = Unit {0}
AreGlyphs (p ∷ ps) = (list_all is_glyph p ≡ true) × AreGlyphs ps

printable_glyph : (b : ℕ) → is_printable b ≡ true → is_space b ≡ false → is_glyph b ≡ true
printable_glyph b h k = grind (arith, nat_tests)

one_more : (b : ℕ) (ps : List (List ℕ)) → is_glyph b ≡ true → AreGlyphs ps → AreGlyphs (onto_first b ps)
one_more b [] h are = (rw h refl, tt)
one_more b (p ∷ ps) h are = (rw (h, are.0) refl, are.1)

pieces_glyphs : (bs : List ℕ) → list_all is_printable bs ≡ true → AreGlyphs (slice_split is_space bs)
pieces_glyphs [] h = (refl, tt)
pieces_glyphs (b ∷ bs) h = by (is_space b) refl (pieces_glyphs bs (right (is_printable b) (list_all is_printable bs) h))
  where
    by : (s : Bool) → is_space b ≡ s → AreGlyphs (slice_split is_space bs) → AreGlyphs (if s then [] ∷ slice_split is_space bs else onto_first b (slice_split is_space bs))
    by true e later = (refl, later)
    by false e later = one_more b (slice_split is_space bs) (printable_glyph b (left (is_printable b) (list_all is_printable bs) h) e) later

kept_words : (column : ℕ) (ps : List (List ℕ)) → AreGlyphs ps → AreWords (texts (placed column ps))
kept_words column [] are = tt
kept_words column (p ∷ ps) are = by (length p == 0) refl (kept_words (column + 1) ps are.1) (kept_words (column + length p + 1) ps are.1)
  where
    by : (z : Bool) → (length p == 0) ≡ z → AreWords (texts (placed (column + 1) ps)) → AreWords (texts (placed (column + length p + 1) ps)) → AreWords (texts (if z then placed (column + 1) ps else record { column = column; text = p } ∷ placed (column + length p + 1) ps))
    by true e skip take' = skip
    by false e skip take' = (record { some = grind (arith, nat_tests); glyphs = are.0 }, take')

-- the words of a line are words
line_words : (bs : List ℕ) → list_all is_printable bs ≡ true → AreWords (texts (words_from 1 bs))
unfolding words_from
line_words bs h = kept_words 1 (slice_split is_space bs) (pieces_glyphs bs h)

lower_glyph : (b : ℕ) → is_glyph b ≡ true → is_glyph (lower b) ≡ true
lower_glyph b h = by (nat_le 65 b && nat_le b 70) refl
  where
    by : (u : Bool) → (nat_le 65 b && nat_le b 70) ≡ u → is_glyph (if u then b + 32 else b) ≡ true
    by true e = grind (arith, nat_tests)
    by false e = h

lower_glyphs : (text : List ℕ) → list_all is_glyph text ≡ true → list_all is_glyph (map lower text) ≡ true
lower_glyphs [] h = refl
lower_glyphs (b ∷ bs) h =
    and_from (is_glyph (lower b)) (list_all is_glyph (map lower bs)) (lower_glyph b (left (is_glyph b) (list_all is_glyph bs) h)) (lower_glyphs bs (right (is_glyph b) (list_all is_glyph bs) h))

-- .. also in lower case
low_words : (ws : List Word) → AreWords (texts ws) → AreWords (lowered ws)
low_words [] are = tt
low_words (w ∷ ws) are = (record { some = let same = length-map w.text lower in let some : 0 < length w.text = are.0.some in omega arith; glyphs = lower_glyphs w.text are.0.glyphs }, low_words ws are.1)

low_room : (ws : List Word) → room (lowered ws) ≡ room (texts ws)
low_room [] = refl
low_room (w ∷ ws) = omega (arith, length-map w.text lower, low_room ws)

-- ---- what a line of a script says

unless_good : (o : Option Offence) (r : Result Line Offence) (l : Line) → unless o r ≡ Ok l → (o ≡ None) × (r ≡ Ok l)
unless_good (Some e) r l h = cc h
unless_good None r l h = (refl, h)

-- a line that says a verb: its first word, and the words behind it
record IsVerbRead (bs : List ℕ) (v : Verb) : Type 0 where
  first : Word
  rest : List Word
  words : words_from 1 bs ≡ first ∷ rest
  spoken' : IsSpoken first.text (record { words = rest; past = length bs + 1 }) v
  printable : list_all is_printable bs ≡ true

named_verb : AreReadBack → (w : Word) (i : Input) (v : Verb) → named line_of (recorded_form w.text) w i ≡ Ok (line.Verb v) → IsSpoken w.text i v
named_verb law w i v h = by (recorded_form w.text) refl h
  where
    by : (o : Option Form) → recorded_form w.text ≡ o → named line_of o w i ≡ Ok (line.Verb v) → IsSpoken w.text i v
    by (Some f) e g = line_spoken law f w.text i v (form_kept w.text f e) g
    by None e g = cc g

verb_read : AreReadBack → (bs : List ℕ) (v : Verb) → recorded_reading bs ≡ Ok (line.Verb v) → IsVerbRead bs v
unfolding recorded_reading
verb_read law bs v h =
    let u = unless_good (bytes_offence bs) _ (line.Verb v) h in
    by (printable_line bs u.0) (words_from 1 bs) refl u.1
  where
    begun_by : (w : Word) (ws : List Word) (comment : Bool) → (if comment then Ok line.Blank else named line_of (recorded_form w.text) w (record { words = ws; past = length bs + 1 })) ≡ Ok (line.Verb v) → IsSpoken w.text (record { words = ws; past = length bs + 1 }) v
    begun_by w ws true g = cc g
    begun_by w ws false g = named_verb law w (record { words = ws; past = length bs + 1 }) v g

    by : list_all is_printable bs ≡ true → (ws : List Word) → words_from 1 bs ≡ ws → reading_of_words line.Blank recorded_form line_of ws (length bs + 1) ≡ Ok (line.Verb v) → IsVerbRead bs v
    by p [] e g = cc g
    by p (w ∷ ws) e g = record { first = w; rest = ws; words = e; spoken' = begun_by w ws (slice_index w.text 0 == 35) g; printable = p }

-- ---- the line of the trace

-- a line of a trace that says this
pub record IsTraced (first : List ℕ) (ws : List (List ℕ)) (v : Verb) : Type 0 where
  pub are : AreWords (first ∷ ws)
  pub reads : traced_reading (spoken first ws) ≡ Ok (trace_lines.Verb v)

verb_words_traced : (w : Word) (ws : List Word) (past : ℕ) (v : Verb) → AreWords (texts (w ∷ ws)) → IsSpoken w.text (record { words = ws; past = past }) v → IsTraced (codes "v") (lowered (w ∷ ws)) v
verb_words_traced w ws past v are s =
    let words : List (List ℕ) = lowered (w ∷ ws) in
    let all : AreWords (codes "v" ∷ words) = (word (codes "v") refl, low_words (w ∷ ws) are) in
    let long = s.low.short (record { words = ws; past = past }) (v, s.given.rest) s.given.reads s.given.all in
    let size : length (map lower w.text) ≡ length w.text = length-map w.text lower in
    record {
      are = all;
      reads =
          words_traced (codes "v") words all (omega (arith, length-append (codes "v") (behind words), length-behind words, low_room ws, s.short))
          ∙ words_said w.text ws past (length (spoken (codes "v") words) + 1) v s;
    }

-- a verb's line is read as the verb that the script's line says
pub verb_traced : AreReadBack → (bs : List ℕ) (v : Verb) → recorded_reading bs ≡ Ok (line.Verb v) → IsTraced (codes "v") (lowered (words_from 1 bs)) v
verb_traced law bs v h =
    let r = verb_read law bs v h in
    let are : AreWords (texts (r.first ∷ r.rest)) = subst (λ ws. AreWords (texts ws)) r.words (line_words bs r.printable) in
    subst (λ ws. IsTraced (codes "v") (lowered ws) v) (sym r.words) (verb_words_traced r.first r.rest (length bs + 1) v are r.spoken')

made_word : (made : Bool) → IsWord (made_text made) × (length (made_text made) ≤ 4)
made_word true = (word (codes "made") refl, omega arith)
made_word false = (word (codes "none") refl, omega arith)

context_said : (name : Name) (made : Bool) → is_name name ≡ true → (past : ℕ) → said (whole trace_line (record { words = columned 1 (codes "v" ∷ codes "context" ∷ name ∷ made_text made ∷ []); past = past })) ≡ Ok (trace_lines.Verb (verb.Context name made))
unfolding trace_line leader_of audit_lines.verb_words spoken_form verb_form context_verb made_of a_name name_of a_word the_end
context_said name true h past = rw h refl
context_said name false h past = rw h refl

-- the line of a context is read as its verb
pub context_traced : (name : Name) (made : Bool) → is_name name ≡ true → IsTraced (codes "v") (codes "context" ∷ name ∷ made_text made ∷ []) (verb.Context name made)
context_traced name made h =
    let words : List (List ℕ) = codes "context" ∷ name ∷ made_text made ∷ [] in
    let all : AreWords (codes "v" ∷ words) = (word (codes "v") refl, (word (codes "context") refl, (name_word name h, ((made_word made).0, tt)))) in
    let text = name_text name h in
    record {
      are = all;
      reads =
          words_traced (codes "v") words all (omega (arith, length-append (codes "v") (behind words), length-behind words, text.short, (made_word made).1))
          ∙ context_said name made h (length (spoken (codes "v") words) + 1);
    }
