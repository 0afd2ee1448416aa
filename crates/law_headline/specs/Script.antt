-- A script: its lines up to the first bad one, the worlds that they lead to, the answers, the text of these, and what
-- applications hear (this project's choice).
use Rattle.std.specs.Prelude.{ℕ, ◌≡◌, ◌+◌, List, [], ◌∷◌, ◌++◌, length, Option, Some, None, MatchOption, Result, Ok, Err}
use Rattle.rdma_types.specs.declared.answers.Answer.{Answer}
use Rattle.rdma_types.specs.declared.verbs.Verb.{Verb}
use Rattle.protocol.specs.State.{World, empty_world}
use Rattle.protocol.specs.WorldStep.{world_step}
use Rattle.protocol.specs.Script.{Happening, Event, Dump, Settles, happens, answers_in}
use Rattle.script_lang.specs.declared.lines.Line.{Line}
use Rattle.script_lang.specs.declared.lines.Offence.{Offence}
use Rattle.script_lang.specs.Lines.{reading_of}
use Rattle.script_lang.specs.Printed.{printed}
use Rattle.script_lang.specs.Scripts.{lines_of}
use Rattle.law_simulation.specs.Kept.{kept_of}
use Rattle.law_headline.specs.Does.{happenings_of}

-- ---- lines

-- the number of a bad line, counted from 1, and its first offence
pub record BadLine : Type 0 where
  pub number : ℕ
  pub offence : Offence

-- what the lines say up to the first bad one, and that
pub record Script : Type 0 where
  pub lines : List Line  -- the lines that are played
  pub bad : Option BadLine  -- the first bad line, where there is one

-- one more line before the others
abbrev pub begins_with : Result Line Offence → ℕ → Script → Script
begins_with (Ok l) number s = record { lines = l ∷ s.lines; bad = s.bad }
begins_with (Err e) number s = record { lines = []; bad = Some (record { number = number; offence = e }) }

-- what lines say, where the first has this number
abbrev pub script_from : ℕ → List (List ℕ) → Script
script_from number [] = record { lines = []; bad = None }
script_from number (bs ∷ more) = begins_with (reading_of bs) number (script_from (number + 1) more)

-- what a text says
abbrev pub script_of : List ℕ → Script
script_of text = script_from 1 (lines_of text)

-- the first bad line of a text, where there is one
abbrev pub bad_line : List ℕ → Option BadLine
bad_line text = (script_of text).bad

-- what the lines of a text do, before its first bad line
abbrev pub happenings : List ℕ → List Happening
happenings text = happenings_of (script_of text).lines

-- these lines are read so, one after the other
abbrev pub AreRead : List (List ℕ) → List Line → Type 0
AreRead [] [] = Unit {0}
AreRead [] (l ∷ ls) = ⊥
AreRead (bs ∷ more) [] = ⊥
AreRead (bs ∷ more) (l ∷ ls) = (reading_of bs ≡ Ok l) × AreRead more ls

-- that line is bad, and those before it are read so; the first line has the number `first`
pub record IsFirstBad (first : ℕ) (lines : List (List ℕ)) (ls : List Line) (bad : BadLine) : Type 0 where
  pub prefix : List (List ℕ)
  pub line : List ℕ
  pub rest : List (List ℕ)
  pub splits : lines ≡ prefix ++ line ∷ rest
  pub are_read : AreRead prefix ls
  pub number : bad.number ≡ first + length prefix
  pub offends : reading_of line ≡ Err bad.offence

-- a script says what its lines say: all of them, or those before the first bad one
abbrev pub SaysLines : ℕ → List (List ℕ) → Script → Type 0
SaysLines first lines s = MatchOption s.bad (AreRead lines s.lines) (λ bad. IsFirstBad first lines s.lines bad)

-- ---- worlds and answers

-- the world that it leaves
abbrev pub world_left : World → List Happening → World
world_left w [] = w
world_left w (h ∷ hs) = world_left (happens w h).world hs

-- the text of answers, one after the other
abbrev pub text_of : List Answer → List ℕ
text_of [] = []
text_of (a ∷ as') = printed a ++ text_of as'

-- the text that is written from a world on
abbrev pub text_from : World → List Happening → List ℕ
text_from w hs = text_of (answers_in w hs)

-- the answers to the lines of a text before its first bad one, from the empty world on, as they are written
abbrev pub answers_text : List ℕ → List ℕ
answers_text text = text_from empty_world (happenings text)

-- ---- what applications hear

-- the verb of a line with its answer, where it is a verb that counts as made
abbrev pub heard_of : World → Happening → List (Verb × Answer)
heard_of w (Event e) = kept_of w e (world_step w e).answer
heard_of w (Dump name) = []
heard_of w Settles = []

-- all of them, in order
abbrev pub heard_from : World → List Happening → List (Verb × Answer)
heard_from w [] = []
heard_from w (h ∷ hs) = heard_of w h ++ heard_from (happens w h).world hs

-- what applications hear of a text
abbrev pub heard : List ℕ → List (Verb × Answer)
heard text = heard_from empty_world (happenings text)
