-- What a line of a served device says (this project's choice).
use Rattle.std.specs.Prelude.{ℕ, ◌+◌, List, [], ◌∷◌, length, Option, Some, None, Result, Ok, Err, bytes_eq, codes, if◌then◌else◌}
use Rattle.rdma_types.specs.declared.names.Name.{Name}
use Rattle.rdma_types.specs.declared.names.ObjName.{ObjName}
use Rattle.script_lang.specs.declared.lines.LineWhy.TheVariants as why
use Rattle.script_lang.specs.declared.lines.NodeLine.{NodeLine}
use Rattle.script_lang.specs.declared.lines.Offence.{Offence}
use Rattle.script_lang.specs.Fields.{a_name, a_number, an_object}
use Rattle.script_lang.specs.Lines.{bytes_offence, node_reading_of, said, unless, whole}
use Rattle.script_lang.specs.Words.{Input, Read, Reads, Word, ◌>>=◌, a_word, done, input_of, offence, words_from}
use Rattle.serve_rules.specs.declared.lines.Goal.{Goal}
use Rattle.serve_rules.specs.declared.lines.Goal.TheVariants as goal
use Rattle.serve_rules.specs.declared.lines.ServeLine.{ServeLine}
use Rattle.serve_rules.specs.declared.lines.ServeLine.TheVariants as line
use Rattle.serve_rules.specs.declared.reading.OwnForm.{OwnForm}
use Rattle.serve_rules.specs.declared.reading.OwnForm.TheVariants as form

-- the first words of lines that are not those of a node, and of the one line of a node that is none here
abbrev pub own_form : List ℕ → Option OwnForm
own_form w =
    if bytes_eq w (codes "wait") then Some form.Wait
    else if bytes_eq w (codes "until") then Some form.Until
    else if bytes_eq w (codes "show") then Some form.Show
    else if bytes_eq w (codes "serve") then Some form.Serve
    else None

-- `wait` MS
unfoldable pub wait_line : Reads ServeLine
wait_line = do
  time ← a_number 0 3600000
  done (line.Wait time)

-- what an end is waited for
abbrev pub goal_of : Word → Reads Goal
goal_of w =
    if bytes_eq w.text (codes "idle") then done goal.Idle
    else if bytes_eq w.text (codes "running") then done goal.Running
    else λ i. Err (offence w.column why.BadOption)

unfoldable pub a_goal : Reads Goal
a_goal = do
  w ← a_word
  goal_of w

-- a value, where no words are left behind it
abbrev pub last : {A : Type 0} → Result A Offence → Input → Result A Offence
last (Ok x) i = said (whole (done x) i)
last (Err e) i = Err e

-- the number that a word is read as, or what is wrong with it
abbrev pub number_by : Word → Read ℕ → Result ℕ Offence
number_by w (Ok p) = Ok p.0
number_by w (Err e) = Err (offence w.column why.Number)

unfoldable pub time_of : Word → Result ℕ Offence
time_of w = number_by w (a_number 1 3600000 (input_of w.text))

-- a time, or the usual one at the end of the line
abbrev pub limit_by : List Word → ℕ → Result ℕ Offence
limit_by [] past = Ok 10000
limit_by (w ∷ ws) past = last (time_of w) (record { words = ws; past = past })

unfoldable pub a_limit : Input → Result ℕ Offence
a_limit i = limit_by i.words i.past

-- the end that is waited for, and what for
unfoldable pub a_wish : Reads (ObjName × Goal)
a_wish = do
  end ← an_object
  g ← a_goal
  done (end, g)

-- `until` O goal, and a time
abbrev pub until_by : ObjName → Goal → Result ℕ Offence → Result ServeLine Offence
until_by end g (Ok limit) = Ok (line.Until end g limit)
until_by end g (Err e) = Err e

abbrev pub until_of : Read (ObjName × Goal) → Result ServeLine Offence
until_of (Ok p) = until_by p.0.0 p.0.1 (a_limit p.1)
until_of (Err e) = Err e

unfoldable pub until_line : Input → Result ServeLine Offence
until_line i = until_of (a_wish i)

-- a context, or what is wrong with the word
abbrev pub shown_name : Word → Read Name → Result ServeLine Offence
shown_name w (Ok p) = Ok (line.ShowContext p.0)
shown_name w (Err e) = Err (offence w.column why.Name)

-- an object where the word is one, and else a context
abbrev pub shown_by : Word → Read ObjName → Result ServeLine Offence
shown_by w (Ok p) = Ok (line.ShowEnd p.0)
shown_by w (Err e) = shown_name w (a_name (input_of w.text))

unfoldable pub shown : Word → Result ServeLine Offence
shown w = shown_by w (an_object (input_of w.text))

-- `show`, `show` O, `show` N: by the word behind it, if there is one
abbrev pub show_by : List Word → ℕ → Result ServeLine Offence
show_by [] past = Ok line.Show
show_by (w ∷ ws) past = last (shown w) (record { words = ws; past = past })

unfoldable pub show_line : Input → Result ServeLine Offence
show_line i = show_by i.words i.past

-- what the words behind the first say, to the end of the line
unfoldable pub own_line : OwnForm → Word → Input → Result ServeLine Offence
own_line form.Wait w i = said (whole wait_line i)
own_line form.Until w i = until_line i
own_line form.Show w i = show_line i
own_line form.Serve w i = Err (offence w.column why.Word)

-- a line of a node as one of a served device
abbrev pub of_node : Result NodeLine Offence → Result ServeLine Offence
of_node (Ok l) = Ok (line.Node l)
of_node (Err e) = Err e

-- by the form that the first word names
abbrev pub reading_by : Option OwnForm → Word → Input → List ℕ → Result ServeLine Offence
reading_by (Some f) w i bs = own_line f w i
reading_by None w i bs = of_node (node_reading_of bs)

-- by its words
abbrev pub reading_of_line : List Word → ℕ → List ℕ → Result ServeLine Offence
reading_of_line [] past bs = of_node (node_reading_of bs)
reading_of_line (w ∷ ws) past bs = reading_by (own_form w.text) w (record { words = ws; past = past }) bs

-- what a line says, or its first offence
unfoldable pub serve_reading_of : List ℕ → Result ServeLine Offence
serve_reading_of bs = unless (bytes_offence bs) (reading_of_line (words_from 1 bs) (length bs + 1) bs)
