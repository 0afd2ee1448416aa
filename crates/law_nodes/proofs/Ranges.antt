-- A verb in a line of a node has its fields in their ranges, by what its words are read as.
use Rattle.std.proofs.Common.{◌≡◌, ℕ, ◌+◌, ◌<◌, ◌^◌, ◌==◌, List, [], ◌∷◌, Bool, true, false, Option, None, Some, Result, Ok, Err, length, refl, subst, if◌then◌else◌}
use Rattle.std.specs.Prelude.{slice_index}
use Rattle.rdma_types.specs.declared.verbs.Verb.{Verb}
use Rattle.rdma_types.specs.Limits.{AreTerms}
use Rattle.rdma_types.specs.Spelled.{is_name}
use Rattle.script_lang.specs.declared.forms.NodeForm.{NodeForm}
use Rattle.script_lang.specs.declared.forms.NodeForm.TheVariants as form
use Rattle.script_lang.specs.declared.lines.Line.TheVariants as world_line
use Rattle.script_lang.specs.declared.lines.NodeLine.{NodeLine}
use Rattle.script_lang.specs.declared.lines.NodeLine.TheVariants as line
use Rattle.script_lang.specs.declared.lines.Offence.{Offence}
use Rattle.script_lang.specs.Fields.{a_name, a_number, an_address, an_object}
use Rattle.script_lang.specs.Lines.{bytes_offence, link_line, named, node_form_of, node_line_of, node_reading_of, reading_of_words, said, serve_line, stop_line, unless, whole}
use Rattle.script_lang.specs.Words.{Input, Read, Reads, Word, the_end, words_from}
use Rattle.law_headline.specs.Does.{IsWithinOf, MayBeAskedOf, event_happens, event_of}
use Rattle.law_headline.proofs.Lawful.{line_asked}
use Rattle.law_headline.proofs.Reading.{verb_in}
use Rattle.law_headline.proofs.Tells.{Tells, any, bind, gives, terms}
use Rattle.law_nodes.proofs.Names.{NamesNew, name, queue_pair, verb_names}

-- a verb is in its ranges
pub record IsVerbIn (v : Verb) : Type 0 where
  pub within : IsWithinOf (event_happens (event_of v))
  pub lawful : MayBeAskedOf (event_happens (event_of v))
  pub names : NamesNew v

-- .. and so is a line
abbrev pub IsNodeLineIn : NodeLine → Type 0
IsNodeLineIn (line.Verb v) = IsVerbIn v
IsNodeLineIn (line.Context name) = is_name name ≡ true
IsNodeLineIn (line.Link o peer partner terms) = (peer < 2 ^ 24) × AreTerms terms
IsNodeLineIn other = Unit {0}

-- what a reader tells twice
both : {A : Type 0} {P Q : A → Type 0} {r : Reads A} → Tells P r → Tells Q r → Tells (λ a. P a × Q a) r
both p q = record { each = λ i x h. (p.each i x h, q.each i x h) }

-- ---- forms

link_in : Tells IsNodeLineIn link_line
unfolding link_line
link_in = bind (any an_object) (λ o _. bind queue_pair (λ peer is. bind (any an_address) (λ partner _. bind terms (λ t are. gives (line.Link o peer partner t) (is, are)))))

stop_in : Tells IsNodeLineIn stop_line
unfolding stop_line
stop_in = bind (any a_name) (λ name _. bind (any a_name) (λ file _. gives (line.Stop name file) tt))

serve_in : Tells IsNodeLineIn serve_line
unfolding serve_line
serve_in = bind (any (a_number 1 100000)) (λ turns _. gives (line.Serve turns) tt)

form_in : (f : NodeForm) → Tells IsNodeLineIn (node_line_of f)
unfolding node_line_of
form_in (form.Verb v) = bind (both (verb_in v) (verb_names v)) (λ said' is. gives (line.Verb said') (record { within = is.0.0; lawful = line_asked (world_line.Verb said') is.0.1; names = is.1 }))
form_in form.Context = bind name (λ n is. gives (line.Context n) is)
form_in form.Link = link_in
form_in form.Go = bind (any an_object) (λ o _. gives (line.Go o) tt)
form_in form.Expire = bind (any an_object) (λ o _. gives (line.Expire o) tt)
form_in form.Rnr = bind (any an_object) (λ o _. gives (line.Rnr o) tt)
form_in form.Stop = stop_in
form_in form.Restore = bind (any a_name) (λ name _. gives (line.Restore name) tt)
form_in form.Release = bind (any a_name) (λ name _. gives (line.Release name) tt)
form_in form.Serve = serve_in

whole_in : (f : NodeForm) → Tells IsNodeLineIn (whole (node_line_of f))
whole_in f = bind (form_in f) (λ l is. bind (any the_end) (λ none _. gives l is))

-- ---- a whole line

blank_in : (r : Result NodeLine Offence) (l : NodeLine) → r ≡ Ok line.Blank → r ≡ Ok l → IsNodeLineIn l
blank_in r l e h = let same : line.Blank ≡ l = cc (e, h) in subst IsNodeLineIn same tt

said_in : (r : Read NodeLine) (l : NodeLine) → ((p : NodeLine × Input) → r ≡ Ok p → IsNodeLineIn p.0) → said r ≡ Ok l → IsNodeLineIn l
said_in (Ok p) l each h = let same : p.0 ≡ l = cc h in subst IsNodeLineIn same (each p refl)
said_in (Err e) l each h = cc h

named_in : (o : Option NodeForm) (w : Word) (i : Input) (l : NodeLine) → named node_line_of o w i ≡ Ok l → IsNodeLineIn l
named_in (Some f) w i l h = said_in (whole (node_line_of f) i) l ((whole_in f).each i) h
named_in None w i l h = cc h

begun_in : (b : Bool) (w : Word) (i : Input) (l : NodeLine) → (if b then Ok line.Blank else named node_line_of (node_form_of w.text) w i) ≡ Ok l → IsNodeLineIn l
begun_in true w i l h = blank_in _ l refl h
begun_in false w i l h = named_in (node_form_of w.text) w i l h

words_in : (ws : List Word) (past : ℕ) (l : NodeLine) → reading_of_words line.Blank node_form_of node_line_of ws past ≡ Ok l → IsNodeLineIn l
words_in [] past l h = blank_in _ l refl h
words_in (w ∷ ws) past l h = begun_in (slice_index w.text 0 == 35) w _ l h

unless_in : (o : Option Offence) (r : Result NodeLine Offence) (l : NodeLine) → unless o r ≡ Ok l → r ≡ Ok l
unless_in (Some e) r l h = cc h
unless_in None r l h = h

-- what is read as a line of a node is in its ranges
pub line_in : (bs : List ℕ) (l : NodeLine) → node_reading_of bs ≡ Ok l → IsNodeLineIn l
unfolding node_reading_of
line_in bs l h = words_in (words_from 1 bs) (length bs + 1) l (unless_in (bytes_offence bs) _ l h)
