-- A trace: the verbs of a run with the lines of their answers, and its inner steps, in order, and then `end` (this
-- project's choice).
use Rattle.std.specs.Prelude.{ℕ, ◌+◌, ◌==◌, Bool, true, false, is_some, List, [], ◌∷◌, ◌++◌, length, take, drop, Option, Some, None, Result, Ok, Err, if◌then◌else◌, bytes_eq, codes}
use Rattle.std.specs.List.{slice_split}
use Rattle.rdma_types.specs.declared.verbs.Verb.{Verb}
use Rattle.packetless_machine.specs.declared.steps.MachineStep.{MachineStep}
use Rattle.script_lang.specs.declared.lines.LineWhy.{LineWhy}
use Rattle.script_lang.specs.declared.lines.LineWhy.TheVariants as why
use Rattle.script_lang.specs.declared.lines.Offence.{Offence}
use Rattle.script_lang.specs.Scripts.{is_newline}
use Rattle.script_lang.specs.Words.{offence}
use Rattle.run_traces.specs.declared.trace_audit.lines.TraceLine.{TraceLine}
use Rattle.run_traces.specs.declared.trace_audit.lines.TraceLine.TheVariants as line
use Rattle.run_traces.specs.Answers.{answer_of_line}
use Rattle.run_traces.specs.Lines.{traced_reading}

-- ---- what a trace says

-- a verb with the lines of its answer, or an inner step
pub data Traced : Type 0 where
  Spoken : (verb : Verb) → (answer : List (List ℕ)) → Traced
  Made : (step : MachineStep) → Traced

-- the steps of a trace; or the number of its first bad line, counted from 1, and the offence there
abbrev pub Reading : Type 0
Reading = Result (List Traced) (ℕ × Offence)

-- line number k is bad
abbrev pub bad : ℕ → ℕ → LineWhy → Reading
bad k column because = Err (k, offence column because)

-- one more step before the others
abbrev pub before : Traced → Reading → Reading
before t (Ok ts) = Ok (t ∷ ts)
before t (Err e) = Err e

-- ---- where a line stands

-- no answer is to come; a verb wants its answer; or it has these lines of it
pub data Place : Type 0 where
  Free : Place
  Owed : (verb : Verb) → Place
  Answered : (verb : Verb) → (lines : List (List ℕ)) → Place

-- a line of an answer may stand there
abbrev pub may_answer : Place → Bool
may_answer Free = false
may_answer (Owed v) = true
may_answer (Answered v lines) = true

-- .. and nothing else may
abbrev pub is_owed : Place → Bool
is_owed Free = false
is_owed (Owed v) = true
is_owed (Answered v lines) = false

-- .. with one more line of the answer
abbrev pub with_line : Place → List ℕ → Place
with_line Free text = Free
with_line (Owed v) text = Answered v (text ∷ [])
with_line (Answered v lines) text = Answered v (lines ++ text ∷ [])

-- the verb whose answer is whole stands before the steps that follow
abbrev pub closed : Place → Reading → Reading
closed Free r = r
closed (Owed v) r = r
closed (Answered v lines) r = before (Spoken v lines) r

-- ---- lines

-- the text of an answer's line: what stands behind `=` and a space
unfoldable pub answer_text : List ℕ → Option (List ℕ)
answer_text l = if bytes_eq (take 2 l) (codes "= ") then Some (drop 2 l) else None

-- `end` is line number k, and the trace ends there only if nothing follows
abbrev pub ended : ℕ → List (List ℕ) → Reading
ended k [] = Ok []
ended k (piece ∷ []) = if length piece == 0 then Ok [] else bad (k + 1) 1 why.Extra
ended k (piece ∷ next ∷ more) = bad (k + 1) 1 why.Extra

-- what stands behind the last newline of a trace without `end`: a line that is bad by itself, or lacks its newline
abbrev pub unfinished_line : ℕ → List ℕ → Result TraceLine Offence → ℕ × Offence
unfinished_line k l (Ok says) = (k, offence (length l + 1) why.Missing)
unfinished_line k l (Err e) = (k, e)

-- .. or nothing, where a line is missing; after a verb the line of its answer is wanted
abbrev pub unfinished : Bool → ℕ → List ℕ → ℕ × Offence
unfinished owed k l =
    if owed then (k, offence 1 why.Word)
    else if length l == 0 then (k, offence 1 why.Missing)
    else unfinished_line k l (traced_reading l)

-- what line number k says, with the pieces behind it and what they say
abbrev pub by_line : ℕ → List (List ℕ) → (Place → Reading) → Result TraceLine Offence → Reading
by_line k behind rest (Ok (line.Verb v)) = rest (Owed v)
by_line k behind rest (Ok (line.Step s)) = before (Made s) (rest Free)
by_line k behind rest (Ok line.End) = ended k behind
by_line k behind rest (Err e) = Err (k, e)

-- a line that is no line of an answer
abbrev pub by_other : Place → ℕ → List ℕ → List (List ℕ) → (Place → Reading) → Reading
by_other p k l behind rest = if is_owed p then bad k 1 why.Word else closed p (by_line k behind rest (traced_reading l))

-- a line of an answer, which has to be one to some verb
abbrev pub by_answer : Place → ℕ → List ℕ → (Place → Reading) → Reading
by_answer p k text rest = if is_some (answer_of_line text) then rest (with_line p text) else bad k 1 why.Word

-- a line where an answer's line may stand, by whether it is one
abbrev pub by_mark : Place → ℕ → List ℕ → List (List ℕ) → (Place → Reading) → Option (List ℕ) → Reading
by_mark p k l behind rest None = by_other p k l behind rest
by_mark p k l behind rest (Some text) = by_answer p k text rest

-- any line
abbrev pub by_place : Place → ℕ → List ℕ → List (List ℕ) → (Place → Reading) → Reading
by_place p k l behind rest = if may_answer p then by_mark p k l behind rest (answer_text l) else by_other p k l behind rest

-- what the pieces say of which the first is line number k: each but the last is ended by a newline
unfoldable pub trace_from : List (List ℕ) → Place → ℕ → Reading
trace_from [] p k = Err (unfinished (is_owed p) k [])
trace_from (last ∷ []) p k = Err (unfinished (is_owed p) k last)
trace_from (l ∷ next ∷ more) p k = by_place p k l (next ∷ more) (λ p'. trace_from (next ∷ more) p' (k + 1))

-- what a trace says: its steps, or its first bad line
unfoldable pub trace_of : List ℕ → Reading
trace_of bs = trace_from (slice_split is_newline bs) Free 1
