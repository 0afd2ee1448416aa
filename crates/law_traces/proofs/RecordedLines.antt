-- What is read as a line of a script that is recorded is read so as a line of a script that is played, and does not settle.
use Rattle.std.proofs.Common.{◌≡◌, ℕ, ◌+◌, ◌==◌, List, [], ◌∷◌, Bool, true, false, refl, subst, Result, Ok, Err, Option, Some, None, length}
use Rattle.std.specs.Prelude.{All, if◌then◌else◌, slice_index}
use Rattle.std.proofs.lemmas.List.Elements.{All-cons, All-nil}
use Rattle.protocol.specs.declared.events.WorldEvent.{WorldEvent}
use Rattle.protocol.specs.Script.{Happening, Settles}
use Rattle.rdma_types.specs.declared.verbs.Verb.TheVariants as verb
use Rattle.script_lang.specs.declared.forms.Form.{Form}
use Rattle.script_lang.specs.declared.forms.Form.TheVariants as form
use Rattle.script_lang.specs.declared.lines.Line.{Line}
use Rattle.script_lang.specs.declared.lines.Line.TheVariants as line
use Rattle.script_lang.specs.declared.lines.Offence.{Offence}
use Rattle.script_lang.specs.Fields.{a_name, an_address, an_object, some_terms, a_long, a_device}
use Rattle.script_lang.specs.Lines.{bytes_offence, connect_line, device_line, form_of, line_of, named, reading_of, reading_of_words, said, unless, whole}
use Rattle.script_lang.specs.Scripts.{lines_of}
use Rattle.script_lang.specs.Verbs.{verb_line}
use Rattle.script_lang.specs.Words.{Input, Read, Word, the_end, words_from}
use Rattle.law_headline.specs.Does.{IsLineInRange, event_happens, event_of, happening_of}
use Rattle.law_headline.specs.Script.{BadLine}
use Rattle.law_headline.proofs.Tells.{Tells, any, bind, gives}
use Rattle.trace_rules.specs.Recording.{Written, begins_with, recorded_form, recorded_from, recorded_of, recorded_reading, without_settle}

-- ---- lines that do not settle

abbrev pub IsUnsettled : Option Happening → Type 0
IsUnsettled (Some Settles) = ⊥
IsUnsettled other = Unit {0}

abbrev LeavesAll : Line → Type 0
LeavesAll l = IsUnsettled (happening_of l)

-- an event is no settling
event_unsettled : (o : Option WorldEvent) → IsUnsettled (event_happens o)
event_unsettled None = tt
event_unsettled (Some e) = tt

-- a form of another line
abbrev IsOther : Form → Type 0
IsOther form.Settle = ⊥
IsOther other = Unit {0}

device_leaves : Tells LeavesAll device_line
unfolding device_line
device_leaves = bind (any a_device) (λ id _. bind (any an_address) (λ a _. gives (line.Device id a) tt))

connect_leaves : Tells LeavesAll connect_line
unfolding connect_line
connect_leaves = bind (any an_object) (λ one _. bind (any an_object) (λ two _. bind (any some_terms) (λ t _. gives (line.Verb (verb.Connect one two t)) tt)))

form_leaves : (f : Form) → IsOther f → Tells LeavesAll (line_of f)
unfolding line_of
form_leaves (form.Verb v) other = bind (any (verb_line v)) (λ x _. gives (line.Verb x) (event_unsettled (event_of x)))
form_leaves form.Device other = device_leaves
form_leaves form.Context other = bind (any a_name) (λ name _. bind (any a_device) (λ device _. gives (line.Context name device) tt))
form_leaves form.Connect other = connect_leaves
form_leaves form.Go other = bind (any an_object) (λ o _. gives (line.Go o) tt)
form_leaves form.Deliver other = bind (any a_long) (λ k _. gives (line.Deliver k) tt)
form_leaves form.Lose other = bind (any a_long) (λ k _. gives (line.Lose k) tt)
form_leaves form.Wire other = bind (any a_long) (λ k _. gives (line.Wire k) tt)
form_leaves form.Expire other = bind (any an_object) (λ o _. gives (line.Expire o) tt)
form_leaves form.Rnr other = bind (any an_object) (λ o _. gives (line.Rnr o) tt)
form_leaves form.Stop other = bind (any a_name) (λ name _. gives (line.Stop name) tt)
form_leaves form.Restore other = bind (any a_name) (λ name _. bind (any a_device) (λ device _. gives (line.Restore name device) tt))
form_leaves form.Release other = bind (any a_name) (λ name _. bind (any a_device) (λ device _. gives (line.Release name device) tt))
form_leaves form.Dump other = bind (any a_name) (λ name _. gives (line.Dump name) tt)
form_leaves form.Settle other = absurd other

whole_leaves : (f : Form) → IsOther f → Tells LeavesAll (whole (line_of f))
whole_leaves f other = bind (form_leaves f other) (λ l is. bind (any the_end) (λ none _. gives l is))

-- ---- a whole line

-- a line is read in both ways, and does not settle
record IsReadAs (r : Result Line Offence) (l : Line) : Type 0 where
  reads : r ≡ Ok l
  leaves : LeavesAll l

said_as : (r : Read Line) (l : Line) → ((p : Line × Input) → r ≡ Ok p → LeavesAll p.0) → said r ≡ Ok l → IsReadAs (said r) l
said_as (Ok p) l each h = let same : p.0 ≡ l = cc h in record { reads = h; leaves = subst LeavesAll same (each p refl) }
said_as (Err e) l each h = cc h

form_as : (f : Form) → IsOther f → (w : Word) (i : Input) (l : Line) → named line_of (Some f) w i ≡ Ok l → IsReadAs (named line_of (Some f) w i) l
form_as f other w i l h = said_as (whole (line_of f) i) l ((whole_leaves f other).each i) h

named_as : (o : Option Form) (w : Word) (i : Input) (l : Line) → named line_of (without_settle o) w i ≡ Ok l → IsReadAs (named line_of o w i) l
named_as None w i l h = cc h
named_as (Some form.Settle) w i l h = cc h
named_as (Some f) w i l h = form_as f tt w i l h

blank_as : (r : Result Line Offence) (l : Line) → r ≡ Ok line.Blank → r ≡ Ok l → IsReadAs r l
blank_as r l e h = let same : line.Blank ≡ l = cc (e, h) in record { reads = h; leaves = subst LeavesAll same tt }

begun_as : (b : Bool) (w : Word) (i : Input) (l : Line) → (if b then Ok line.Blank else named line_of (without_settle (form_of w.text)) w i) ≡ Ok l →
    IsReadAs (if b then Ok line.Blank else named line_of (form_of w.text) w i) l
begun_as true w i l h = blank_as _ l refl h
begun_as false w i l h = named_as (form_of w.text) w i l h

words_as : (ws : List Word) (past : ℕ) (l : Line) → reading_of_words line.Blank recorded_form line_of ws past ≡ Ok l → IsReadAs (reading_of_words line.Blank form_of line_of ws past) l
unfolding recorded_form
words_as [] past l h = blank_as _ l refl h
words_as (w ∷ ws) past l h = begun_as (slice_index w.text 0 == 35) w _ l h

unless_as : (o : Option Offence) (r s : Result Line Offence) (l : Line) → unless o r ≡ Ok l → (r ≡ Ok l → IsReadAs s l) → IsReadAs (unless o s) l
unless_as (Some e) r s l h as_read = cc h
unless_as None r s l h as_read = as_read h

read_as : (bs : List ℕ) (l : Line) → recorded_reading bs ≡ Ok l → IsReadAs (reading_of bs) l
unfolding recorded_reading reading_of
read_as bs l h = unless_as (bytes_offence bs) _ _ l h (words_as (words_from 1 bs) (length bs + 1) l)

-- ---- all lines

-- what a line does is in its ranges, and is no settling
pub record IsPlayed (l : Written) : Type 0 where
  pub within : IsLineInRange l.1
  pub unsettled : IsUnsettled (happening_of l.1)

-- a line that is read is in its ranges
abbrev pub AreWithin : Type 0
AreWithin = (bs : List ℕ) (l : Line) → reading_of bs ≡ Ok l → IsLineInRange l

line_before : AreWithin → (bs : List ℕ) (k : ℕ) (ls : List Written) (r : Result Line Offence) (rest : Result (List Written) BadLine) → recorded_reading bs ≡ r → ((more : List Written) → rest ≡ Ok more → All IsPlayed more) →
    begins_with bs k r rest ≡ Ok ls → All IsPlayed ls
line_before range bs k ls (Err e) rest p others h = cc h
line_before range bs k ls (Ok l) (Err e) p others h = cc h
line_before range bs k ls (Ok l) (Ok more) p others h =
    let first = read_as bs l p in
    let same : (bs, l) ∷ more ≡ ls = cc h in
    subst (All IsPlayed) same (All-cons IsPlayed (bs, l) more (record { within = range bs l first.reads; unsettled = first.leaves }) (others more refl))

lines_played : AreWithin → (lines : List (List ℕ)) (k : ℕ) (ls : List Written) → recorded_from lines k ≡ Ok ls → All IsPlayed ls
lines_played range [] k ls h = let same : [] ≡ ls = cc h in subst (All IsPlayed) same (All-nil IsPlayed)
lines_played range (bs ∷ more) k ls h = line_before range bs k ls (recorded_reading bs) (recorded_from more (k + 1)) refl (λ others q. lines_played range more (k + 1) others q) h

-- the lines of a script that is recorded
pub all_played : AreWithin → (script : List ℕ) (ls : List Written) → recorded_of script ≡ Ok ls → All IsPlayed ls
unfolding recorded_of
all_played range script ls h = lines_played range (lines_of script) 1 ls h
