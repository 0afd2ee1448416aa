-- How far a script is played, for a loop that reads line after line, answers each and writes the text.
use Rattle.std.specs.Prelude.{ℕ, ◌≡◌, ◌+◌, List, [], ◌∷◌, ◌++◌, length, Option, Some, None, Ok, Err}
use Rattle.protocol.specs.State.{World, empty_world}
use Rattle.protocol.specs.Script.{Happening, happens}
use Rattle.script_lang.specs.declared.lines.Line.{Line}
use Rattle.script_lang.specs.declared.lines.Offence.{Offence}
use Rattle.script_lang.specs.Lines.{reading_of}
use Rattle.script_lang.specs.Printed.{printed}
use Rattle.script_lang.specs.Scripts.{lines_of}
use Rattle.law_kept_datagrams.specs.Alike.{with_kept_datagrams}
use Rattle.law_headline.specs.Does.{happening_of, happenings_of}
use Rattle.law_headline.specs.Script.{answers_text, bad_line, script_from, text_from}

-- the world after what a line does, if it does anything
abbrev pub world_past : World → Option Happening → World
world_past w None = w
world_past w (Some h) = (happens w h).world

-- the text of its answer; a blank line has none
abbrev pub line_text : World → Option Happening → List ℕ
line_text w None = []
line_text w (Some h) = printed (happens w h).answer

-- where `number` lines of a text were read, `rest` are to come, the world is `w` and `done` was written
pub record IsPlayed (text done : List ℕ) (w : World) (number : ℕ) (rest : List (List ℕ)) : Type 0 where
  pub whole : answers_text text ≡ done ++ text_from w (happenings_of (script_from (number + 1) rest).lines)
  pub bad : bad_line text ≡ (script_from (number + 1) rest).bad
  pub count : number + length rest ≡ length (lines_of text)

-- from the first line on: nothing was written
abbrev pub PlayingBegins : Type 0
PlayingBegins = (text : List ℕ) → IsPlayed text [] empty_world 0 (lines_of text)

-- a line that is read is played: its answer is written, where it has one
abbrev pub PlayingGoesOn : Type 0
PlayingGoesOn =
    (text done : List ℕ) (w : World) (number : ℕ) (bs : List ℕ) (rest : List (List ℕ)) (l : Line) →
    IsPlayed text done w number (bs ∷ rest) → reading_of bs ≡ Ok l →
    IsPlayed text (done ++ line_text w (happening_of l)) (world_past w (happening_of l)) (number + 1) rest

-- a bad line is the first one, and what was written is the answers to the lines before it
abbrev pub PlayingStops : Type 0
PlayingStops =
    (text done : List ℕ) (w : World) (number : ℕ) (bs : List ℕ) (rest : List (List ℕ)) (e : Offence) →
    IsPlayed text done w number (bs ∷ rest) → reading_of bs ≡ Err e →
    (bad_line text ≡ Some (record { number = number + 1; offence = e })) × (answers_text text ≡ done)

-- where no lines are to come, none is bad, and what was written is the answers to all
abbrev pub PlayingEnds : Type 0
PlayingEnds =
    (text done : List ℕ) (w : World) (number : ℕ) →
    IsPlayed text done w number [] → (bad_line text ≡ None) × (answers_text text ≡ done)

-- a world that knows only the last datagrams plays on as the whole one
abbrev pub PlayingForgets : Type 0
PlayingForgets =
    (text done : List ℕ) (w : World) (number : ℕ) (rest : List (List ℕ)) →
    IsPlayed text done w number rest → IsPlayed text done (with_kept_datagrams w) number rest
