-- How far a script is recorded, for a loop that reads line after line and writes the trace.
use Rattle.std.specs.Prelude.{ℕ, ◌≡◌, ◌+◌, List, [], ◌∷◌, ◌++◌, length, Option, Some, None, Result, Ok, Err}
use Rattle.protocol.specs.State.{World, empty_world}
use Rattle.packetless_machine.specs.Machine.{Machine, empty}
use Rattle.script_lang.specs.declared.lines.Line.{Line}
use Rattle.script_lang.specs.declared.lines.Offence.{Offence}
use Rattle.script_lang.specs.Scripts.{lines_of}
use Rattle.law_headline.specs.Does.{happening_of}
use Rattle.law_headline.specs.Script.{BadLine}
use Rattle.trace_rules.specs.Recording.{IsTraceOf, Written, last_line, machine_past, recorded_from, recorded_of, recorded_reading, recorded_text, text_from, world_past}

-- the text of lines that are good, behind what was written; or their first bad line
abbrev pub text_behind : List ℕ → World → Machine → Result (List Written) BadLine → Result (List ℕ) BadLine
text_behind done w m (Ok ls) = Ok (done ++ text_from w m ls)
text_behind done w m (Err e) = Err e

-- where `number` lines of a script were read, `rest` are to come, the world and the machine are at w and m, and `done` was
-- written: the lines to come say how the whole is recorded
pub record IsRecorded (script done : List ℕ) (w : World) (m : Machine) (number : ℕ) (rest : List (List ℕ)) : Type 0 where
  pub whole : text_behind [] empty_world empty (recorded_of script) ≡ text_behind done w m (recorded_from rest (number + 1))
  pub count : number + length rest ≡ length (lines_of script)

-- from the first line on: nothing was written
abbrev pub RecordingBegins : Type 0
RecordingBegins = (script : List ℕ) → IsRecorded script [] empty_world empty 0 (lines_of script)

-- a line that is read adds its text
abbrev pub RecordingGoesOn : Type 0
RecordingGoesOn =
    (script done : List ℕ) (w : World) (m : Machine) (number : ℕ) (bs : List ℕ) (rest : List (List ℕ)) (l : Line) →
    IsRecorded script done w m number (bs ∷ rest) → recorded_reading bs ≡ Ok l →
    IsRecorded script (done ++ recorded_text w m bs (happening_of l)) (world_past w (happening_of l)) (machine_past w m (happening_of l)) (number + 1) rest

-- a bad line is the first one
abbrev pub RecordingStops : Type 0
RecordingStops =
    (script done : List ℕ) (w : World) (m : Machine) (number : ℕ) (bs : List ℕ) (rest : List (List ℕ)) (e : Offence) →
    IsRecorded script done w m number (bs ∷ rest) → recorded_reading bs ≡ Err e →
    recorded_of script ≡ Err (record { number = number + 1; offence = e })

-- where no lines are to come, what was written and `end` are the trace
abbrev pub RecordingEnds : Type 0
RecordingEnds =
    (script done : List ℕ) (w : World) (m : Machine) (number : ℕ) →
    IsRecorded script done w m number [] → IsTraceOf script (done ++ last_line)
