-- What is recorded of a script: its verbs as they were written, their answers, and the inner steps of the packetless machine
-- where they happen (this project's choice).
use Rattle.std.specs.Prelude.{ℕ, ◌≡◌, ◌+◌, List, [], ◌∷◌, ◌++◌, map, length, Option, Some, None, Result, Ok, Err, codes}
use Rattle.rdma_types.specs.declared.answers.Answer.{Answer}
use Rattle.rdma_types.specs.declared.verbs.Verb.{Verb}
use Rattle.protocol.specs.Script.{Happening, Event, happens}
use Rattle.protocol.specs.State.{World, empty_world}
use Rattle.protocol.specs.WorldStep.{world_step}
use Rattle.packetless_machine.specs.declared.steps.MachineStep.{MachineStep}
use Rattle.packetless_machine.specs.Legal.{after}
use Rattle.packetless_machine.specs.Machine.{Machine, empty}
use Rattle.law_simulation.specs.Kept.{kept_of}
use Rattle.law_simulation.specs.Named.{event_steps, inner_steps}
use Rattle.script_lang.specs.declared.forms.Form.{Form}
use Rattle.script_lang.specs.declared.forms.Form.TheVariants as form
use Rattle.script_lang.specs.declared.lines.Line.{Line}
use Rattle.script_lang.specs.declared.lines.Line.TheVariants as line_forms
use Rattle.script_lang.specs.declared.lines.Offence.{Offence}
use Rattle.script_lang.specs.Lines.{bytes_offence, form_of, line_of, reading_of_words, unless}
use Rattle.script_lang.specs.Scripts.{lines_of}
use Rattle.script_lang.specs.Words.{words_from}
use Rattle.law_headline.specs.Does.{happening_of}
use Rattle.law_headline.specs.Script.{BadLine}
use Rattle.run_traces.specs.declared.trace_audit.verdicts.AuditFault.{AuditFault}
use Rattle.run_traces.specs.declared.trace_audit.verdicts.AuditFault.TheVariants as fault
use Rattle.run_traces.specs.declared.trace_audit.verdicts.Verdict.TheVariants.{Legal}
use Rattle.run_traces.specs.Traces.{Traced, Spoken, Made, trace_of}
use Rattle.run_traces.specs.Verdicts.{inner_in, verbs_in, verdict_of}
use Rattle.run_traces.specs.Written.{answer_lines, answer_text, steps_text, verb_text}

-- ---- scripts that are recorded: those without a line that settles

-- no line that settles
abbrev pub without_settle : Option Form → Option Form
without_settle (Some form.Settle) = None
without_settle other = other

-- the line that a first word names
unfoldable pub recorded_form : List ℕ → Option Form
recorded_form w = without_settle (form_of w)

-- what a line says, or its first offence: `settle` is a word that no line begins with
unfoldable pub recorded_reading : List ℕ → Result Line Offence
recorded_reading bs = unless (bytes_offence bs) (reading_of_words line_forms.Blank recorded_form line_of (words_from 1 bs) (length bs + 1))

-- a line as it is written, and what it says
abbrev pub Written : Type 0
Written = List ℕ × Line

-- one more line before the others
abbrev pub begins_with : List ℕ → ℕ → Result Line Offence → Result (List Written) BadLine → Result (List Written) BadLine
begins_with bs k (Err e) rest = Err (record { number = k; offence = e })
begins_with bs k (Ok l) (Err e) = Err e
begins_with bs k (Ok l) (Ok ls) = Ok ((bs, l) ∷ ls)

-- lines of which the first has that number
abbrev pub recorded_from : List (List ℕ) → ℕ → Result (List Written) BadLine
recorded_from [] k = Ok []
recorded_from (bs ∷ more) k = begins_with bs k (recorded_reading bs) (recorded_from more (k + 1))

-- the lines of a script that is recorded, or its first bad one
unfoldable pub recorded_of : List ℕ → Result (List Written) BadLine
recorded_of script = recorded_from (lines_of script) 1

-- ---- the text

-- verbs with their answers, of a line that is written so
abbrev pub spoken_text : List ℕ → List (Verb × Answer) → List ℕ
spoken_text bs [] = []
spoken_text bs (x ∷ xs) = verb_text bs x.0 ++ (answer_text (answer_lines x.1) ++ spoken_text bs xs)

-- the verb that counts as made, with its answer, and the inner steps of what a line does; a dump has neither
abbrev pub heard_at : World → Happening → List (Verb × Answer)
heard_at w (Event e) = kept_of w e (world_step w e).answer
heard_at w other = []

abbrev pub inner_at : World → Machine → Happening → List MachineStep
inner_at w m (Event e) = inner_steps w m e
inner_at w m other = []

-- the machine after what a line does
abbrev pub machine_after : World → Machine → Happening → Machine
machine_after w m (Event e) = after m (event_steps w m e)
machine_after w m other = m

-- .. of a line that may do nothing
abbrev pub world_past : World → Option Happening → World
world_past w None = w
world_past w (Some h) = (happens w h).world

abbrev pub machine_past : World → Machine → Option Happening → Machine
machine_past w m None = m
machine_past w m (Some h) = machine_after w m h

-- what is recorded of a line
abbrev pub recorded_text : World → Machine → List ℕ → Option Happening → List ℕ
recorded_text w m bs None = []
recorded_text w m bs (Some h) = spoken_text bs (heard_at w h) ++ steps_text (inner_at w m h)

-- what is recorded of lines, from a world and a machine on
unfoldable pub text_from : World → Machine → List Written → List ℕ
text_from w m [] = []
text_from w m (l ∷ ls) =
    recorded_text w m l.0 (happening_of l.1)
    ++ text_from (world_past w (happening_of l.1)) (machine_past w m (happening_of l.1)) ls

-- the last line
abbrev pub last_line : List ℕ
last_line = codes "end\n"

-- the trace of the lines of a script: what is recorded of them, and `end`
abbrev pub trace_text : List Written → List ℕ
trace_text ls = text_from empty_world empty ls ++ last_line

-- ---- the same, as steps

-- verbs with the lines of their answers
abbrev pub spoken_of : List (Verb × Answer) → List Traced
spoken_of [] = []
spoken_of (x ∷ xs) = Spoken x.0 (answer_lines x.1) ∷ spoken_of xs

-- the steps of a line
abbrev pub line_steps : World → Machine → Option Happening → List Traced
line_steps w m None = []
line_steps w m (Some h) = spoken_of (heard_at w h) ++ map Made (inner_at w m h)

-- the steps of lines, from a world and a machine on
unfoldable pub traced_from : World → Machine → List Written → List Traced
traced_from w m [] = []
traced_from w m (l ∷ ls) =
    line_steps w m (happening_of l.1)
    ++ traced_from (world_past w (happening_of l.1)) (machine_past w m (happening_of l.1)) ls

-- .. from the beginning
abbrev pub traced_of : List Written → List Traced
traced_of ls = traced_from empty_world empty ls

-- what applications make and hear by lines, from a world on
abbrev pub heard_by : World → Option Happening → List (Verb × Answer)
heard_by w None = []
heard_by w (Some h) = heard_at w h

unfoldable pub heard_from : World → List Written → List (Verb × Answer)
heard_from w [] = []
heard_from w (l ∷ ls) = heard_by w (happening_of l.1) ++ heard_from (world_past w (happening_of l.1)) ls

-- the verbs of a trace with the lines of their answers
abbrev pub spoken_in : List Traced → List (Verb × List (List ℕ))
spoken_in [] = []
spoken_in (Spoken v lines ∷ ts) = (v, lines) ∷ spoken_in ts
spoken_in (Made s ∷ ts) = spoken_in ts

-- a verb with the lines of its answer
abbrev pub with_lines : Verb × Answer → Verb × List (List ℕ)
with_lines x = (x.0, answer_lines x.1)

-- ---- what is promised of the record of a script

-- the trace that is recorded of these lines is in the grammar and says the steps of the run; its verbs and answers are those
-- that count as made; and an audit finds it legal
pub record IsRecord (ls : List Written) : Type 0 where
  pub said : trace_of (trace_text ls) ≡ Ok (traced_of ls)
  pub heard : spoken_in (traced_of ls) ≡ map with_lines (heard_from empty_world ls)
  pub legal : verdict_of (traced_of ls) ≡ Legal (verbs_in (traced_of ls)) (inner_in (traced_of ls))

-- ---- what the code returned for a script

-- the text is the trace of the lines of a script without bad ones
pub record IsTraceOf (script text : List ℕ) : Type 0 where
  pub lines : List Written
  pub read : recorded_of script ≡ Ok lines
  pub is : text ≡ trace_text lines

-- that is its first bad line, unless memory lacked
abbrev pub IsFaultOf : List ℕ → AuditFault → Type 0
IsFaultOf script (fault.BadLine number column because) = recorded_of script ≡ Err (record { number = number; offence = record { column = column; why = because } })
IsFaultOf script fault.OutOfMemory = Unit {0}
