-- How far a trace is audited, for a loop that reads line after line and steps the machine (this project's choice).
use Rattle.std.specs.Prelude.{ℕ, ◌≡◌, ◌≤◌, ◌+◌, ◌==◌, Bool, true, false, List, [], ◌∷◌, length, Option, Some, None, Result, Ok, Err, if◌then◌else◌}
use Rattle.std.specs.List.{slice_split}
use Rattle.rdma_types.specs.declared.answers.Answer.{Answer as Answered}
use Rattle.rdma_types.specs.declared.answers.Answer.TheVariants as answers
use Rattle.rdma_types.specs.declared.verbs.Verb.{Verb}
use Rattle.packetless_machine.specs.declared.steps.MachineStep.{MachineStep}
use Rattle.packetless_machine.specs.Legal.{effect, is_enabled}
use Rattle.packetless_machine.specs.Machine.{Machine, empty}
use Rattle.script_lang.specs.declared.lines.LineWhy.TheVariants as line_why
use Rattle.script_lang.specs.declared.lines.Offence.{Offence}
use Rattle.script_lang.specs.Scripts.{is_newline}
use Rattle.script_lang.specs.Words.{offence}
use Rattle.run_traces.specs.declared.trace_audit.due.Due.{Due}
use Rattle.run_traces.specs.declared.trace_audit.due.Due.TheVariants as due
use Rattle.run_traces.specs.declared.trace_audit.lines.TraceLine.{TraceLine}
use Rattle.run_traces.specs.declared.trace_audit.lines.TraceLine.TheVariants as line
use Rattle.run_traces.specs.declared.trace_audit.verdicts.AuditFault.{AuditFault}
use Rattle.run_traces.specs.declared.trace_audit.verdicts.AuditFault.TheVariants as fault
use Rattle.run_traces.specs.declared.trace_audit.verdicts.AuditWhy.{AuditWhy}
use Rattle.run_traces.specs.declared.trace_audit.verdicts.AuditWhy.TheVariants.{Step, Answer}
use Rattle.run_traces.specs.declared.trace_audit.verdicts.Verdict.{Verdict}
use Rattle.run_traces.specs.declared.trace_audit.verdicts.Verdict.TheVariants.{Legal, Illegal}
use Rattle.run_traces.specs.Answers.{answer_of_line, given_in}
use Rattle.run_traces.specs.Lines.{traced_reading}
use Rattle.run_traces.specs.Traces.{answer_text, unfinished}
use Rattle.run_traces.specs.Verdicts.{answer_to, behind, machine_after, wrong_given}

-- ---- where an audit stands

-- a machine that went with the lines so far: verbs whose answers are whole, inner steps, and the text of the machine's last
-- answer that is still to come
pub record Run : Type 0 where
  pub machine : Machine
  pub verbs : ℕ
  pub inner : ℕ
  pub rest : List ℕ

-- the lines so far are of a run, or one is not
pub data Course : Type 0 where
  Goes : (run : Run) → Course
  Fails : (number : ℕ) → (because : AuditWhy) → Course

-- what may stand next, and how the lines so far went
pub record Audit : Type 0 where
  pub due : Due
  pub course : Course

-- nothing was read
abbrev pub begun : Audit
begun = record { due = due.Nothing; course = Goes (record { machine = empty; verbs = 0; inner = 0; rest = [] }) }

-- its verdict, where nothing follows
abbrev pub verdict_so_far : Course → Verdict
verdict_so_far (Goes r) = Legal r.verbs r.inner
verdict_so_far (Fails k because) = Illegal k because

-- a verb wants its answer
abbrev pub wants_answer : Due → Bool
wants_answer due.Nothing = false
wants_answer (due.Answer v) = true
wants_answer due.Rest = false

-- ---- what code gives

-- the run goes on, or fails on line number k
abbrev pub course_from : Run → ℕ → Option AuditWhy → Course
course_from r k None = Goes r
course_from r k (Some because) = Fails k because

-- the course of a run, or where it failed
abbrev pub course_of : Run → Option (ℕ × AuditWhy) → Course
course_of r None = Goes r
course_of r (Some at) = Fails at.0 at.1

-- what is wrong where the machine may not give what an answer says
abbrev pub not_given : Option ℕ → AuditWhy
not_given None = Answer
not_given (Some given) = Step

-- the answer is a refusal
abbrev pub is_refusal : Answered → Bool
is_refusal (answers.Refused r) = true
is_refusal other = false

-- a key or number is said, or the answer gives none
abbrev pub is_said : Option ℕ → Answered → Bool
is_said (Some given) a = true
is_said None a = is_refusal a

-- ---- a line

-- the run with the text behind a line of an answer, which is line number k, if that is the machine's
abbrev pub passed : Run → ℕ → Option (List ℕ) → Course
passed r k None = Fails k Answer
passed r k (Some rest) = Goes (record r { rest = rest })

abbrev pub heard : Run → ℕ → List ℕ → Course
heard r k text = passed r k (behind text r.rest)

-- the run once the machine answered a verb, given that key or number
abbrev pub asked : Run → Verb → Option ℕ → Run
asked r v given = record r { machine = machine_after r.machine v given; rest = answer_to r.machine v given }

-- .. and the first line of the answer came, unless that gives a wrong key or number
abbrev pub heard_unless : Option AuditWhy → ℕ → Course → Course
heard_unless None k c = c
heard_unless (Some because) k c = Fails k because

abbrev pub first_heard : Run → Verb → ℕ → List ℕ → Option Answered → Course
first_heard r v k text a = heard_unless (wrong_given r.machine v (given_in v a)) k (heard (asked r v (given_in v a)) k text)

-- the course once a line of an answer came
abbrev pub answered : Due → Course → ℕ → List ℕ → Option Answered → Course
answered due.Nothing c k text a = c
answered d (Fails n because) k text a = Fails n because
answered (due.Answer v) (Goes r) k text a = first_heard r v k text a
answered due.Rest (Goes r) k text a = heard r k text

-- the course once an answer is over before line number k: all of it has to have come
abbrev pub counted : Run → ℕ → Course
counted r k = if length r.rest == 0 then Goes (record r { verbs = r.verbs + 1 }) else Fails k Answer

abbrev pub over : Due → Course → ℕ → Course
over due.Nothing c k = c
over (due.Answer v) c k = c
over due.Rest (Fails n because) k = Fails n because
over due.Rest (Goes r) k = counted r k

-- the course once an inner step is made
abbrev pub made : Course → ℕ → MachineStep → Course
made (Fails n because) k s = Fails n because
made (Goes r) k s = if is_enabled r.machine s then Goes (record r { machine = effect r.machine s; inner = r.inner + 1 }) else Fails k Step

-- ---- lines, one after the other

-- what comes of a line: the audit goes on, or it was the last one, or it is bad
pub data Outcome : Type 0 where
  Next : (audit : Audit) → Outcome
  Last : (course : Course) → Outcome
  Bad : (offence : Offence) → Outcome

-- a line that is no line of an answer, by what it says
abbrev pub said_line : Course → ℕ → Result TraceLine Offence → Outcome
said_line c k (Ok (line.Verb v)) = Next (record { due = due.Answer v; course = c })
said_line c k (Ok (line.Step s)) = Next (record { due = due.Nothing; course = made c k s })
said_line c k (Ok line.End) = Last c
said_line c k (Err e) = Bad e

abbrev pub other_line : Audit → ℕ → List ℕ → Outcome
other_line a k l = if wants_answer a.due then Bad (offence 1 line_why.Word) else said_line (over a.due a.course k) k (traced_reading l)

-- a line of an answer
abbrev pub answer_line : Audit → ℕ → List ℕ → Option Answered → Outcome
answer_line a k text None = Bad (offence 1 line_why.Word)
answer_line a k text (Some said) = Next (record { due = due.Rest; course = answered a.due a.course k text (Some said) })

-- a line where an answer's line may stand, by whether it is one
abbrev pub marked_line : Audit → ℕ → List ℕ → Option (List ℕ) → Outcome
marked_line a k l None = other_line a k l
marked_line a k l (Some text) = answer_line a k text (answer_of_line text)

-- any line
abbrev pub line_by : Due → Audit → ℕ → List ℕ → Outcome
line_by due.Nothing a k l = other_line a k l
line_by (due.Answer v) a k l = marked_line a k l (answer_text l)
line_by due.Rest a k l = marked_line a k l (answer_text l)

unfoldable pub line_outcome : Audit → ℕ → List ℕ → Outcome
line_outcome a k l = line_by a.due a k l

-- what the code returned and left is what comes of line number k, where true says that it was the last one
abbrev pub ComesOf : Result Bool AuditFault → Audit → ℕ → Outcome → Type 0
ComesOf (Ok false) a k o = o ≡ Next a
ComesOf (Ok true) a k o = o ≡ Last a.course
ComesOf (Err (fault.BadLine n column because)) a k o = (n ≡ k) × (o ≡ Bad (offence column because))
ComesOf (Err fault.OutOfMemory) a k o = Unit {0}

-- what the code returned is what is found
abbrev pub Finds : Result Verdict AuditFault → Result Verdict (ℕ × Offence) → Type 0
Finds (Ok v) f = f ≡ Ok v
Finds (Err (fault.BadLine n column because)) f = f ≡ Err (n, offence column because)
Finds (Err fault.OutOfMemory) f = Unit {0}

-- what an audit finds, or the first bad line and the offence there
abbrev pub Finding : Type 0
Finding = Result Verdict (ℕ × Offence)

-- `end` is line number k, and the trace ends there only if nothing follows
abbrev pub closing : ℕ → Course → List (List ℕ) → Finding
closing k c [] = Ok (verdict_so_far c)
closing k c (piece ∷ []) = if length piece == 0 then Ok (verdict_so_far c) else Err (k + 1, offence 1 line_why.Extra)
closing k c (piece ∷ next ∷ more) = Err (k + 1, offence 1 line_why.Extra)

-- what comes of line number k, with the pieces behind it and what is found of them
abbrev pub after_line : ℕ → List (List ℕ) → (Audit → Finding) → Outcome → Finding
after_line k behind rest (Next a) = rest a
after_line k behind rest (Last c) = closing k c behind
after_line k behind rest (Bad e) = Err (k, e)

-- what an audit finds of pieces of which the first is line number k: each but the last is ended by a newline
unfoldable pub audit_from : List (List ℕ) → Audit → ℕ → Finding
audit_from [] a k = Err (unfinished (wants_answer a.due) k [])
audit_from (last ∷ []) a k = Err (unfinished (wants_answer a.due) k last)
audit_from (l ∷ next ∷ more) a k = after_line k (next ∷ more) (λ a'. audit_from (next ∷ more) a' (k + 1)) (line_outcome a k l)

-- what an audit finds of a trace
unfoldable pub finding_of : List ℕ → Finding
finding_of trace = audit_from (slice_split is_newline trace) begun 1

-- ---- numbers stay small

-- no more is counted than so many lines
abbrev pub AreCounted : Course → ℕ → Type 0
AreCounted (Goes r) n = (r.verbs ≤ n) × (r.inner ≤ n)
AreCounted (Fails k because) n = Unit {0}
