-- When a trace is a run of the packetless machine with these answers, and what an audit finds (this project's choice).
use Rattle.std.specs.Prelude.{ℕ, suc, ◌≡◌, ◌+◌, ◌⊎◌, List, [], ◌∷◌, ◌++◌, length, take, drop, true, false, Option, Some, None, Result, Ok, Err, if◌then◌else◌, bytes_eq}
use Rattle.rdma_types.specs.declared.answers.Refusal.{Refusal}
use Rattle.rdma_types.specs.declared.verbs.Verb.{Verb}
use Rattle.packetless_machine.specs.declared.steps.MachineStep.{MachineStep}
use Rattle.packetless_machine.specs.declared.steps.MachineStep.TheVariants as steps
use Rattle.packetless_machine.specs.Legal.{IsLegal, IsRun, after, effect, is_enabled, seen}
use Rattle.packetless_machine.specs.Machine.{Machine, empty}
use Rattle.packetless_machine.specs.Verbs.{after_verb, may_verb, refusal_of, verb_answer}
use Rattle.script_lang.specs.Printed.{printed}
use Rattle.script_lang.specs.Words.{offence}
use Rattle.run_traces.specs.declared.trace_audit.verdicts.AuditFault.{AuditFault}
use Rattle.run_traces.specs.declared.trace_audit.verdicts.AuditFault.TheVariants as fault
use Rattle.run_traces.specs.declared.trace_audit.verdicts.AuditWhy.{AuditWhy}
use Rattle.run_traces.specs.declared.trace_audit.verdicts.AuditWhy.TheVariants.{Step, Answer}
use Rattle.run_traces.specs.declared.trace_audit.verdicts.Verdict.{Verdict}
use Rattle.run_traces.specs.declared.trace_audit.verdicts.Verdict.TheVariants.{Legal, Illegal}
use Rattle.run_traces.specs.Answers.{given_by, given_or_none}
use Rattle.run_traces.specs.Traces.{Traced, Spoken, Made, trace_of}

-- ---- what a trace claims of the machine

-- the lines, each ended by a newline
abbrev pub text_of_lines : List (List ℕ) → List ℕ
text_of_lines [] = []
text_of_lines (l ∷ ls) = l ++ 10 ∷ text_of_lines ls

-- the steps of a trace: its verbs and inner steps, in order; a verb gives the key or number that its answer says, and 0
-- where that says none
abbrev pub steps_of : List Traced → List MachineStep
steps_of [] = []
steps_of (Made s ∷ ts) = s ∷ steps_of ts
steps_of (Spoken v lines ∷ ts) = steps.Verb v (given_or_none (given_by v lines)) ∷ steps_of ts

-- the machine's answer to a verb, and the machine after it, by what its answer's lines give
abbrev pub answer_to : Machine → Verb → Option ℕ → List ℕ
answer_to m v given = printed (verb_answer m v (given_or_none given))

abbrev pub machine_after : Machine → Verb → Option ℕ → Machine
machine_after m v given = after_verb m v (given_or_none given)

-- from m on, the lines of each answer are those that the machine's answer is printed as
abbrev pub AreAnswered : Machine → List Traced → Type 0
AreAnswered m [] = Unit {0}
AreAnswered m (Made s ∷ ts) = AreAnswered (effect m s) ts
AreAnswered m (Spoken v lines ∷ ts) = (answer_to m v (given_by v lines) ≡ text_of_lines lines) × AreAnswered (machine_after m v (given_by v lines)) ts

-- the traced steps are a run of the machine from m on, with these answers
pub record AreRunFrom (m : Machine) (ts : List Traced) : Type 0 where
  pub is_run : IsRun m (steps_of ts)
  pub answered : AreAnswered m ts

-- .. from the empty machine on
abbrev pub AreRun : List Traced → Type 0
AreRun ts = AreRunFrom empty ts

-- how many verbs, and how many inner steps
abbrev pub verbs_in : List Traced → ℕ
verbs_in [] = 0
verbs_in (Spoken v lines ∷ ts) = suc (verbs_in ts)
verbs_in (Made s ∷ ts) = verbs_in ts

abbrev pub inner_in : List Traced → ℕ
inner_in [] = 0
inner_in (Spoken v lines ∷ ts) = inner_in ts
inner_in (Made s ∷ ts) = suc (inner_in ts)

-- how many lines they are
abbrev pub lines_in : List Traced → ℕ
lines_in [] = 0
lines_in (Spoken v lines ∷ ts) = suc (length lines) + lines_in ts
lines_in (Made s ∷ ts) = suc (lines_in ts)

-- ---- answers, line by line

-- what stands behind the first line of a text, where that is this line
unfoldable pub behind : List ℕ → List ℕ → Option (List ℕ)
behind l text = if bytes_eq (take (length l + 1) text) (l ++ 10 ∷ []) then Some (drop (length l + 1) text) else None

-- one place later
abbrev pub one_later : Option ℕ → Option ℕ
one_later None = None
one_later (Some k) = Some (suc k)

-- the place of the first of these lines that is not the text's, where the text may also go on behind the last one
abbrev pub wrong_after : Option (List ℕ) → (List ℕ → Option ℕ) → Option ℕ
wrong_after None rest = Some 0
wrong_after (Some text) rest = one_later (rest text)

unfoldable pub first_wrong : List (List ℕ) → List ℕ → Option ℕ
first_wrong [] [] = None
first_wrong [] (b ∷ bs) = Some 0
first_wrong (l ∷ ls) text = wrong_after (behind l text) (λ more. first_wrong ls more)

-- ---- the verdict, by stepping the machine

-- what is wrong with the key or number that an answer gives: nothing where the verb is refused; else it has to be said, and
-- the machine may give it
abbrev pub wrong_or_given : Machine → Verb → Option ℕ → Option AuditWhy
wrong_or_given m v None = Some Answer
wrong_or_given m v (Some given) = if may_verb m v given then None else Some Step

abbrev pub wrong_unless_refused : Option Refusal → Machine → Verb → Option ℕ → Option AuditWhy
wrong_unless_refused (Some r) m v given = None
wrong_unless_refused None m v given = wrong_or_given m v given

unfoldable pub wrong_given : Machine → Verb → Option ℕ → Option AuditWhy
wrong_given m v given = wrong_unless_refused (refusal_of m v) m v given

-- what is wrong with the answer to a verb: its line, counted from the verb's, and why
abbrev pub Fault : Type 0
Fault = Option (ℕ × AuditWhy)

-- the lines are not the machine's from that place on
abbrev pub differs_at : Option ℕ → Fault
differs_at None = None
differs_at (Some k) = Some (suc k, Answer)

-- the key or number is wrong at the first line, or else the lines beside the machine's answer
abbrev pub fault_or : Option AuditWhy → Fault → Fault
fault_or (Some because) rest = Some (1, because)
fault_or None rest = rest

-- what is wrong with the answer
abbrev pub fault_of : Machine → Verb → List (List ℕ) → Fault
fault_of m v lines = fault_or (wrong_given m v (given_by v lines)) (differs_at (first_wrong lines (answer_to m v (given_by v lines))))

-- no fault, or the verdict on its line, where the verb stands on line k
abbrev pub unless_at : ℕ → Fault → Verdict → Verdict
unless_at k None rest = rest
unless_at k (Some f) rest = Illegal (k + f.0) f.1

-- the verdict on steps of which the first stands on line k, after so many verbs and inner steps
unfoldable pub verdict_from : List Traced → Machine → ℕ → ℕ → ℕ → Verdict
verdict_from [] m k verbs inner = Legal verbs inner
verdict_from (Made s ∷ ts) m k verbs inner =
    if is_enabled m s then verdict_from ts (effect m s) (k + 1) verbs (inner + 1) else Illegal k Step
verdict_from (Spoken v lines ∷ ts) m k verbs inner =
    unless_at k (fault_of m v lines)
    (verdict_from ts (machine_after m v (given_by v lines)) (k + 1 + length lines) (verbs + 1) inner)

-- what an audit finds of the steps of a trace
unfoldable pub verdict_of : List Traced → Verdict
verdict_of ts = verdict_from ts empty 1 0 0

-- ---- what the verdict says

-- the lines are the text's up to that place, and the next line is another, or one of both ends there
pub record DiffersAt (k : ℕ) (lines : List (List ℕ)) (text : List ℕ) : Type 0 where
  pub prefix : List (List ℕ)
  pub here : List (List ℕ)
  pub there : List ℕ
  pub are : lines ≡ prefix ++ here
  pub others : text ≡ text_of_lines prefix ++ there
  pub place : k ≡ length prefix
  pub differ : first_wrong here there ≡ Some 0

-- the lines are not the machine's answer with what they give, from that place on; or they give nothing where the machine
-- gives a key or a number
abbrev pub IsAnotherAnswer : Machine → Verb → List (List ℕ) → ℕ → Type 0
IsAnotherAnswer m v lines place =
    ((may_verb m v (given_or_none (given_by v lines)) ≡ true) × DiffersAt place lines (answer_to m v (given_by v lines)))
    ⊎ ((given_by v lines ≡ None) × (refusal_of m v ≡ None) × (place ≡ 0))

-- the answer to a verb is wrong at that line behind it, for this reason: its key or number can not be given; or it is not
-- the machine's answer
abbrev pub IsWrongAnswer : Machine → Verb → List (List ℕ) → ℕ → AuditWhy → Type 0
IsWrongAnswer m v lines k Step =
    (given : ℕ) × (given_by v lines ≡ Some given) × (may_verb m v given ≡ false) × (k ≡ 1)
IsWrongAnswer m v lines k Answer =
    (place : ℕ) × (k ≡ suc place) × IsAnotherAnswer m v lines place

-- the machine can not go on with this step as it is traced, at that line of it
abbrev pub IsWrong : Machine → Traced → ℕ → AuditWhy → Type 0
IsWrong m (Made s) k because = (is_enabled m s ≡ false) × (because ≡ Step) × (k ≡ 0)
IsWrong m (Spoken v lines) k because = IsWrongAnswer m v lines k because

-- the steps before some step are a run, and that one is wrong at that line
pub record StopsAt (ts : List Traced) (line : ℕ) (because : AuditWhy) : Type 0 where
  pub prefix : List Traced
  pub wrong : Traced
  pub rest : List Traced
  pub are : ts ≡ prefix ++ wrong ∷ rest
  pub run : AreRun prefix
  pub place : ℕ
  pub is_wrong : IsWrong (after empty (steps_of prefix)) wrong place because
  pub at : line ≡ lines_in prefix + 1 + place

-- the law of audits: the verdict is Legal exactly where the steps are a run of the machine from the empty one with these
-- answers, and then counts them; and Illegal at the first line that can not be of a run. So what was heard is legal
pub record IsVerdict (ts : List Traced) : Type 0 where
  pub legal : (verbs inner : ℕ) → verdict_of ts ≡ Legal verbs inner → AreRun ts × (verbs ≡ verbs_in ts) × (inner ≡ inner_in ts)
  pub all : AreRun ts → verdict_of ts ≡ Legal (verbs_in ts) (inner_in ts)
  pub illegal : (line : ℕ) (because : AuditWhy) → verdict_of ts ≡ Illegal line because → StopsAt ts line because
  pub heard : AreRun ts → IsLegal (seen empty (steps_of ts))

-- of all steps
abbrev pub VerdictsAreRight : Type 0
VerdictsAreRight = (ts : List Traced) → IsVerdict ts

-- what the code returned for a trace: the verdict on its steps, or its first bad line, unless it was out of memory
abbrev pub Audits : List ℕ → Result Verdict AuditFault → Type 0
Audits trace (Ok v) = (ts : List Traced) × (trace_of trace ≡ Ok ts) × (verdict_of ts ≡ v)
Audits trace (Err (fault.BadLine line column because)) = trace_of trace ≡ Err (line, offence column because)
Audits trace (Err fault.OutOfMemory) = Unit {0}
