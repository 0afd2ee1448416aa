-- A line of a node that drives a served device is in its ranges.
use Rattle.std.proofs.Common.{◌≡◌, ℕ, ◌+◌, List, [], ◌∷◌, Option, None, Some, Result, Ok, Err, length, refl, ap, subst}
use Rattle.rdma_types.specs.declared.names.Name.{Name}
use Rattle.rdma_types.specs.declared.names.ObjName.{ObjName}
use Rattle.script_lang.specs.declared.lines.NodeLine.{NodeLine}
use Rattle.script_lang.specs.declared.lines.Offence.{Offence}
use Rattle.script_lang.specs.Fields.{a_name, a_number, an_object}
use Rattle.script_lang.specs.Lines.{bytes_offence, node_reading_of, said, unless, whole}
use Rattle.script_lang.specs.Words.{Input, Read, Word, done, input_of, the_end, words_from}
use Rattle.serve_rules.specs.declared.lines.Goal.{Goal}
use Rattle.serve_rules.specs.declared.lines.ServeLine.{ServeLine}
use Rattle.serve_rules.specs.declared.lines.ServeLine.TheVariants as line
use Rattle.serve_rules.specs.declared.reading.OwnForm.{OwnForm}
use Rattle.serve_rules.specs.declared.reading.OwnForm.TheVariants as form
use Rattle.serve_rules.specs.Reading.{a_limit, a_wish, last, of_node, own_form, own_line, reading_by, reading_of_line, serve_reading_of, show_by, show_line, shown, shown_by, shown_name, until_by, until_line, until_of, wait_line}
use Rattle.law_headline.proofs.Tells.{Tells, any, bind, gives}
use Rattle.law_nodes.proofs.Ranges.{IsNodeLineIn, line_in}

-- a line that is none of a node
abbrev IsOwn : ServeLine → Type 0
IsOwn (line.Node l) = ⊥
IsOwn other = Unit {0}

-- what a reading gives is none of a node
abbrev GivesOwn : Result ServeLine Offence → Type 0
GivesOwn (Ok l) = IsOwn l
GivesOwn (Err e) = Unit {0}

said_own : (r : Read ServeLine) → ((p : ServeLine × Input) → r ≡ Ok p → IsOwn p.0) → GivesOwn (said r)
said_own (Ok p) each = each p refl
said_own (Err e) each = tt

whole_own : (l : ServeLine) → IsOwn l → Tells IsOwn (whole (done l))
whole_own l is = bind (gives l is) (λ x own. bind (any the_end) (λ none _. gives x own))

wait_own : (i : Input) → GivesOwn (said (whole wait_line i))
unfolding wait_line
wait_own i = said_own (whole wait_line i) ((bind (bind (any (a_number 0 3600000)) (λ time _. gives {P = IsOwn} (line.Wait time) tt)) (λ x own. bind (any the_end) (λ none _. gives {P = IsOwn} x own))).each i)

until_own : (r : Read (ObjName × Goal)) → GivesOwn (until_of r)
until_own (Ok p) = by (a_limit p.1)
  where
    by : (limit : Result ℕ Offence) → GivesOwn (until_by p.0.0 p.0.1 limit)
    by (Ok limit) = tt
    by (Err e) = tt
until_own (Err e) = tt

last_own : (r : Result ServeLine Offence) (i : Input) → GivesOwn r → GivesOwn (last r i)
last_own (Ok l) i is = said_own (whole (done l) i) ((whole_own l is).each i)
last_own (Err e) i is = tt

name_own : (w : Word) (r : Read Name) → GivesOwn (shown_name w r)
name_own w (Ok p) = tt
name_own w (Err e) = tt

shown_own : (w : Word) (r : Read ObjName) → GivesOwn (shown_by w r)
shown_own w (Ok p) = tt
shown_own w (Err e) = name_own w (a_name (input_of w.text))

show_own : (ws : List Word) (past : ℕ) → GivesOwn (show_by ws past)
unfolding shown
show_own [] past = tt
show_own (w ∷ ws) past = last_own (shown w) (record { words = ws; past = past }) (shown_own w (an_object (input_of w.text)))

form_own : (f : OwnForm) (w : Word) (i : Input) → GivesOwn (own_line f w i)
unfolding own_line until_line show_line
form_own form.Wait w i = wait_own i
form_own form.Until w i = until_own (a_wish i)
form_own form.Show w i = show_own i.words i.past
form_own form.Serve w i = tt

-- ---- a whole line

own_gives : (r : Result ServeLine Offence) (l : NodeLine) → GivesOwn r → r ≡ Ok (line.Node l) → ⊥
own_gives r l own h = subst GivesOwn h own

node_gives : (r : Result NodeLine Offence) (l : NodeLine) → of_node r ≡ Ok (line.Node l) → r ≡ Ok l
node_gives (Ok x) l h = let same : x ≡ l = cc h in ap Ok same
node_gives (Err e) l h = absurd (cc h)

by_form : (o : Option OwnForm) (w : Word) (i : Input) (bs : List ℕ) (l : NodeLine) → reading_by o w i bs ≡ Ok (line.Node l) → node_reading_of bs ≡ Ok l
by_form (Some f) w i bs l h = absurd (own_gives (own_line f w i) l (form_own f w i) h)
by_form None w i bs l h = node_gives (node_reading_of bs) l h

by_words : (ws : List Word) (past : ℕ) (bs : List ℕ) (l : NodeLine) → reading_of_line ws past bs ≡ Ok (line.Node l) → node_reading_of bs ≡ Ok l
by_words [] past bs l h = node_gives (node_reading_of bs) l h
by_words (w ∷ ws) past bs l h = by_form (own_form w.text) w (record { words = ws; past = past }) bs l h

unless_says : (o : Option Offence) (r : Result ServeLine Offence) (l : ServeLine) → unless o r ≡ Ok l → r ≡ Ok l
unless_says (Some e) r l h = absurd (cc h)
unless_says None r l h = h

pub node_line_in : (bs : List ℕ) (l : NodeLine) → serve_reading_of bs ≡ Ok (line.Node l) → IsNodeLineIn l
unfolding serve_reading_of
node_line_in bs l h = line_in bs l (by_words (words_from 1 bs) (length bs + 1) bs l (unless_says (bytes_offence bs) _ (line.Node l) h))
