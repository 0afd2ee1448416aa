-- A loop that steps the machine line after line finds the verdict on what is read.
use Rattle.std.proofs.Common.{◌≡◌, ℕ, zero, suc, ◌+◌, ◌-◌, ◌<◌, ◌≤◌, ◌==◌, Bool, true, false, List, [], ◌∷◌, ◌++◌, length, Option, Some, None, Result, Ok, Err, if◌then◌else◌, is_some, refl, sym, ap, ◌∙◌, subst, append_assoc, arith, length-append, append-nil}
use Rattle.std.specs.List.{slice_split}
use Rattle.std.proofs.lemmas.Bool.Decides.{nat_tests}
use Rattle.rdma_types.specs.declared.answers.Answer.{Answer as Told}
use Rattle.rdma_types.specs.declared.verbs.Verb.{Verb}
use Rattle.packetless_machine.specs.declared.steps.MachineStep.{MachineStep}
use Rattle.packetless_machine.specs.Legal.{effect, is_enabled}
use Rattle.packetless_machine.specs.Machine.{Machine, empty}
use Rattle.script_lang.specs.declared.lines.LineWhy.TheVariants as line_why
use Rattle.script_lang.specs.declared.lines.Offence.{Offence}
use Rattle.script_lang.specs.Scripts.{is_newline}
use Rattle.script_lang.specs.Words.{offence}
use Rattle.run_traces.specs.declared.trace_audit.due.Due.{Due}
use Rattle.run_traces.specs.declared.trace_audit.due.Due.TheVariants as due
use Rattle.run_traces.specs.declared.trace_audit.lines.TraceLine.{TraceLine}
use Rattle.run_traces.specs.declared.trace_audit.lines.TraceLine.TheVariants as line
use Rattle.run_traces.specs.declared.trace_audit.verdicts.AuditWhy.{AuditWhy}
use Rattle.run_traces.specs.declared.trace_audit.verdicts.AuditWhy.TheVariants.{Step, Answer}
use Rattle.run_traces.specs.declared.trace_audit.verdicts.Verdict.{Verdict}
use Rattle.run_traces.specs.declared.trace_audit.verdicts.Verdict.TheVariants.{Legal, Illegal}
use Rattle.run_traces.specs.Answers.{answer_of_line, given_by, given_in}
use Rattle.run_traces.specs.Auditing.{Audit, Course, Finding, Goes, Fails, Outcome, Next, Last, Bad, Run, after_line, answer_line, answered, asked, audit_from, begun, closing, counted, finding_of, first_heard, heard, heard_unless, line_by, line_outcome, made, marked_line, other_line, over, passed, said_line, verdict_so_far, wants_answer}
use Rattle.run_traces.specs.Evaluate.{verdict_on}
use Rattle.run_traces.specs.Lines.{traced_reading}
use Rattle.run_traces.specs.Traces.{Answered, Free, Made, Owed, Place, Reading, Spoken, Traced, answer_text, bad, before, by_answer, by_line, by_mark, by_other, by_place, closed, ended, is_owed, may_answer, trace_from, trace_of, unfinished, with_line}
use Rattle.run_traces.specs.Verdicts.{answer_to, behind, differs_at, fault_of, fault_or, first_wrong, machine_after, text_of_lines, unless_at, verdict_from, verdict_of, wrong_after, wrong_given}
use Rattle.run_traces.proofs.Heard.{behind_is, behind_line, first_wrong-after, shifted, shifted-none, shifted-some, text-append}

-- what is found of steps that are read
abbrev pub found : (List Traced → Verdict) → Reading → Finding
found f (Ok ts) = Ok (f ts)
found f (Err e) = Err e

-- what may stand next at a place
abbrev due_of : Place → Due
due_of Free = due.Nothing
due_of (Owed v) = due.Answer v
due_of (Answered v lines) = due.Rest

abbrev at_place : Place → Course → Audit
at_place p c = record { due = due_of p; course = c }

-- steps that are read from there on
abbrev Begins : Place → List Traced → Type 0
Begins Free ts = Unit {0}
Begins (Owed v) ts = Unit {0}
Begins (Answered v lines) ts = (more : List (List ℕ)) × (rest : List Traced) × (ts ≡ Spoken v (lines ++ more) ∷ rest)

-- the machine answered a verb on line j, and these lines of its answer came
record IsAnswering (v : Verb) (lines : List (List ℕ)) (k : ℕ) (r : Run) (f : List Traced → Verdict) : Type 0 where
  machine : Machine
  line : ℕ
  at : k ≡ line + 1 + length lines
  some : 1 ≤ length lines
  fits : wrong_given machine v (given_by v lines) ≡ None
  next : r.machine ≡ machine_after machine v (given_by v lines)
  text : answer_to machine v (given_by v lines) ≡ text_of_lines lines ++ r.rest
  judged : (ts : List Traced) → f ts ≡ verdict_from ts machine line r.verbs r.inner

-- steps that are read from a place on are judged so
abbrev IsAt : Place → ℕ → Course → (List Traced → Verdict) → Type 0
IsAt p k (Fails n because) f = (ts : List Traced) → Begins p ts → f ts ≡ Illegal n because
IsAt Free k (Goes r) f = (ts : List Traced) → f ts ≡ verdict_from ts r.machine k r.verbs r.inner
IsAt (Owed v) k (Goes r) f = (j : ℕ) × (k ≡ j + 1) × ((ts : List Traced) → f ts ≡ verdict_from ts r.machine j r.verbs r.inner)
IsAt (Answered v lines) k (Goes r) f = IsAnswering v lines k r f

-- ---- the verdict on a verb

spoken-fault : (m : Machine) (v : Verb) (lines : List (List ℕ)) (because : AuditWhy) (rest : Verdict) (j : ℕ) → wrong_given m v (given_by v lines) ≡ Some because → unless_at j (fault_of m v lines) rest ≡ Illegal (j + 1) because
spoken-fault m v lines because rest j e = rw e refl

spoken-differs : (m : Machine) (v : Verb) (lines : List (List ℕ)) (n : ℕ) (rest : Verdict) (j : ℕ) → wrong_given m v (given_by v lines) ≡ None → first_wrong lines (answer_to m v (given_by v lines)) ≡ Some n → unless_at j (fault_of m v lines) rest ≡ Illegal (j + suc n) Answer
spoken-differs m v lines n rest j e w = rw (e, w) refl

spoken-right : (m : Machine) (v : Verb) (lines : List (List ℕ)) (rest : Verdict) (j : ℕ) → wrong_given m v (given_by v lines) ≡ None → first_wrong lines (answer_to m v (given_by v lines)) ≡ None → unless_at j (fault_of m v lines) rest ≡ rest
spoken-right m v lines rest j e w = rw (e, w) refl

-- what the first line gives, all of them give
given-more : (v : Verb) (lines more : List (List ℕ)) → 1 ≤ length lines → given_by v (lines ++ more) ≡ given_by v lines
given-more v [] more h = absurd (omega arith)
given-more v (l ∷ ls) more h = refl

-- ---- an answer is over

closing_steps : Place → List Traced → List Traced
closing_steps Free ts = ts
closing_steps (Owed v) ts = ts
closing_steps (Answered v lines) ts = Spoken v lines ∷ ts

found-closed : (p : Place) (f : List Traced → Verdict) (r : Reading) → found f (closed p r) ≡ found (λ ts. f (closing_steps p ts)) r
unfolding closing_steps
found-closed Free f (Ok ts) = refl
found-closed Free f (Err e) = refl
found-closed (Owed v) f (Ok ts) = refl
found-closed (Owed v) f (Err e) = refl
found-closed (Answered v lines) f (Ok ts) = refl
found-closed (Answered v lines) f (Err e) = refl

same-verdict : (ts : List Traced) (m m' : Machine) (k k' v i : ℕ) → m ≡ m' → k ≡ k' → verdict_from ts m k v i ≡ verdict_from ts m' k' v i
same-verdict ts m m' k k' v i e h = rw (e, h) refl

same-illegal : (n n' : ℕ) (because : AuditWhy) → n ≡ n' → Illegal n because ≡ Illegal n' because
same-illegal n n' because e = ap (λ (k : ℕ). Illegal k because) e

wrong-at-end : (lines : List (List ℕ)) (rest : List ℕ) → first_wrong lines (text_of_lines lines ++ rest) ≡ shifted (length lines) (first_wrong [] rest)
wrong-at-end lines rest = ap (λ ls. first_wrong ls (text_of_lines lines ++ rest)) (sym (append-nil lines)) ∙ first_wrong-after lines [] rest

ends_right : (lines : List (List ℕ)) (text : List ℕ) → text ≡ text_of_lines lines ++ [] → first_wrong lines text ≡ None
unfolding first_wrong
ends_right lines text e = ap (first_wrong lines) e ∙ wrong-at-end lines [] ∙ shifted-none (length lines)

ends_early : (lines : List (List ℕ)) (text : List ℕ) (b : ℕ) (bs : List ℕ) → text ≡ text_of_lines lines ++ b ∷ bs → first_wrong lines text ≡ Some (length lines)
unfolding first_wrong
ends_early lines text b bs e = ap (first_wrong lines) e ∙ wrong-at-end lines (b ∷ bs) ∙ shifted-some (length lines)

differs_here : (lines : List (List ℕ)) (text : List ℕ) (more : List (List ℕ)) (whole rest : List ℕ) → whole ≡ text_of_lines lines ++ rest → behind text rest ≡ None → first_wrong (lines ++ text ∷ more) whole ≡ Some (length lines)
unfolding first_wrong
differs_here lines text more whole rest e h =
    ap (first_wrong (lines ++ text ∷ more)) e ∙ first_wrong-after lines (text ∷ more) rest
    ∙ ap (λ o. shifted (length lines) (wrong_after o (λ t. first_wrong more t))) h ∙ shifted-some (length lines)

some_left : (rest : List ℕ) (b : ℕ) (bs : List ℕ) → rest ≡ b ∷ bs → (length rest == 0) ≡ false
some_left rest b bs e = let n = ap length e in grind (arith, nat_tests)

after-answer : (v : Verb) (lines : List (List ℕ)) (k : ℕ) (r : Run) (f : List Traced → Verdict) → IsAnswering v lines k r f → (rest : List ℕ) → r.rest ≡ rest → IsAt Free k (counted r k) (λ ts. f (Spoken v lines ∷ ts))
unfolding verdict_from
after-answer v lines k r f a [] e =
    let whole : answer_to a.machine v (given_by v lines) ≡ text_of_lines lines ++ [] = a.text ∙ ap (λ (t : List ℕ). text_of_lines lines ++ t) e in
    let right = ends_right lines (answer_to a.machine v (given_by v lines)) whole in
    let none : (length r.rest == 0) ≡ true = rw e refl in
    rw none (λ ts. a.judged (Spoken v lines ∷ ts) ∙ spoken-right a.machine v lines _ a.line a.fits right ∙ same-verdict ts (machine_after a.machine v (given_by v lines)) r.machine (a.line + 1 + length lines) k (r.verbs + 1) r.inner (sym a.next) (sym a.at))
after-answer v lines k r f a (b ∷ bs) e =
    let whole : answer_to a.machine v (given_by v lines) ≡ text_of_lines lines ++ b ∷ bs = a.text ∙ ap (λ (t : List ℕ). text_of_lines lines ++ t) e in
    let early = ends_early lines (answer_to a.machine v (given_by v lines)) b bs whole in
    let none : (length r.rest == 0) ≡ false = some_left r.rest b bs e in
    let here : a.line + suc (length lines) ≡ k = omega (arith, a.at) in
    rw none (λ ts _. a.judged (Spoken v lines ∷ ts) ∙ spoken-differs a.machine v lines (length lines) _ a.line a.fits early ∙ same-illegal _ _ Answer here)

-- the place once an answer is over, if one is
over-at : (p : Place) (k : ℕ) (c : Course) (f : List Traced → Verdict) → is_owed p ≡ false → IsAt p k c f → IsAt Free k (over (due_of p) c k) (λ ts. f (closing_steps p ts))
unfolding closing_steps
over-at Free k (Goes r) f n a = a
over-at Free k (Fails l because) f n a = a
over-at (Owed v) k (Goes r) f n a = cc
over-at (Owed v) k (Fails l because) f n a = cc
over-at (Answered v lines) k (Goes r) f n a = after-answer v lines k r f a r.rest refl
over-at (Answered v lines) k (Fails l because) f n a = λ ts _. a (Spoken v lines ∷ ts) ([], ts, ap (λ ls. Spoken v ls ∷ ts) (sym (append-nil lines)))

-- ---- a line of an answer

answering-first : (v : Verb) (text : List ℕ) (said : Told) (k j : ℕ) (r : Run) (f : List Traced → Verdict) → answer_of_line text ≡ Some said → k ≡ j + 1 → ((ts : List Traced) → f ts ≡ verdict_from ts r.machine j r.verbs r.inner) → (w : Option AuditWhy) → wrong_given r.machine v (given_in v (Some said)) ≡ w → (o : Option (List ℕ)) → behind text (answer_to r.machine v (given_in v (Some said))) ≡ o → IsAt (Answered v (text ∷ [])) (k + 1) (heard_unless w k (passed (asked r v (given_in v (Some said))) k o)) f
unfolding verdict_from first_wrong
answering-first v text said k j r f says at judged (Some because) w o b = λ ts (more, rest, is).
    let given : given_by v (text ∷ more) ≡ given_in v (Some said) = ap (given_in v) says in
    let wrong : wrong_given r.machine v (given_by v (text ∷ more)) ≡ Some because = ap (wrong_given r.machine v) given ∙ w in
    judged ts ∙ ap (λ xs. verdict_from xs r.machine j r.verbs r.inner) is ∙ spoken-fault r.machine v (text ∷ more) because _ j wrong ∙ same-illegal _ _ because (sym at)
answering-first v text said k j r f says at judged None w None b = λ ts (more, rest, is).
    let given : given_by v (text ∷ more) ≡ given_in v (Some said) = ap (given_in v) says in
    let fits : wrong_given r.machine v (given_by v (text ∷ more)) ≡ None = ap (wrong_given r.machine v) given ∙ w in
    let whole : answer_to r.machine v (given_by v (text ∷ more)) ≡ answer_to r.machine v (given_in v (Some said)) = ap (answer_to r.machine v) given in
    let differs : first_wrong (text ∷ more) (answer_to r.machine v (given_by v (text ∷ more))) ≡ Some 0 = differs_here [] text more _ _ whole b in
    judged ts ∙ ap (λ xs. verdict_from xs r.machine j r.verbs r.inner) is ∙ spoken-differs r.machine v (text ∷ more) 0 _ j fits differs ∙ same-illegal _ _ Answer (sym at)
answering-first v text said k j r f says at judged None w (Some more) b =
    let given : given_by v (text ∷ []) ≡ given_in v (Some said) = ap (given_in v) says in
    record {
      machine = r.machine;
      line = j;
      at = omega (arith, at);
      some = omega arith;
      fits = ap (wrong_given r.machine v) given ∙ w;
      next = ap (machine_after r.machine v) (sym given);
      text = ap (answer_to r.machine v) given ∙ behind_is text _ more b ∙ append-one text more;
      judged = judged;
    }
  where
    append-one : (l t : List ℕ) → l ++ 10 ∷ t ≡ (l ++ 10 ∷ []) ++ t
    append-one l t = sym (append_assoc l (10 ∷ []) t)

answering-more : (v : Verb) (lines : List (List ℕ)) (text : List ℕ) (k : ℕ) (r : Run) (f : List Traced → Verdict) → IsAnswering v lines k r f → (o : Option (List ℕ)) → behind text r.rest ≡ o → IsAt (Answered v (lines ++ text ∷ [])) (k + 1) (passed r k o) f
unfolding verdict_from
answering-more v lines text k r f a None b = λ ts (more, rest, is).
    let spelled : (lines ++ text ∷ []) ++ more ≡ lines ++ text ∷ more = append_assoc lines (text ∷ []) more in
    let steps : ts ≡ Spoken v (lines ++ text ∷ more) ∷ rest = is ∙ ap (λ ls. Spoken v ls ∷ rest) spelled in
    let given : given_by v (lines ++ text ∷ more) ≡ given_by v lines = given-more v lines (text ∷ more) a.some in
    let fits : wrong_given a.machine v (given_by v (lines ++ text ∷ more)) ≡ None = ap (wrong_given a.machine v) given ∙ a.fits in
    let differs : first_wrong (lines ++ text ∷ more) (answer_to a.machine v (given_by v (lines ++ text ∷ more))) ≡ Some (length lines) = differs_here lines text more _ r.rest (ap (answer_to a.machine v) given ∙ a.text) b in
    let here : a.line + suc (length lines) ≡ k = omega (arith, a.at) in
    a.judged ts ∙ ap (λ xs. verdict_from xs a.machine a.line r.verbs r.inner) steps ∙ spoken-differs a.machine v (lines ++ text ∷ more) (length lines) _ a.line fits differs ∙ same-illegal _ _ Answer here
answering-more v lines text k r f a (Some more) b =
    let given : given_by v (lines ++ text ∷ []) ≡ given_by v lines = given-more v lines (text ∷ []) a.some in
    let len : length (lines ++ text ∷ []) ≡ length lines + 1 = length-append lines (text ∷ []) in
    record {
      machine = a.machine;
      line = a.line;
      at = omega (arith, a.at, len);
      some = omega (arith, len);
      fits = ap (wrong_given a.machine v) given ∙ a.fits;
      next = a.next ∙ ap (machine_after a.machine v) (sym given);
      text = ap (answer_to a.machine v) given ∙ a.text ∙ ap (λ (t : List ℕ). text_of_lines lines ++ t) (behind_is text r.rest more b) ∙ joined;
      judged = a.judged;
    }
  where
    joined : text_of_lines lines ++ (text ++ 10 ∷ more) ≡ text_of_lines (lines ++ text ∷ []) ++ more
    joined =
        sym (ap (λ (t : List ℕ). t ++ more) (text-append lines (text ∷ [])) ∙ append_assoc (text_of_lines lines) (text ++ 10 ∷ []) more
        ∙ ap (λ (t : List ℕ). text_of_lines lines ++ t) (append_assoc text (10 ∷ []) more))

answer-at : (p : Place) (k : ℕ) (c : Course) (f : List Traced → Verdict) (text : List ℕ) (said : Told) → may_answer p ≡ true → answer_of_line text ≡ Some said → IsAt p k c f → IsAt (with_line p text) (k + 1) (answered (due_of p) c k text (Some said)) f
answer-at Free k c f text said m says a = cc
answer-at (Owed v) k (Fails n because) f text said m says a = λ ts _. a ts tt
answer-at (Owed v) k (Goes r) f text said m says a = answering-first v text said k a.0 r f says a.1 a.2 _ refl _ refl
answer-at (Answered v lines) k (Fails n because) f text said m says a = λ ts (more, rest, is). a ts (text ∷ more, rest, is ∙ ap (λ ls. Spoken v ls ∷ rest) (append_assoc lines (text ∷ []) more))
answer-at (Answered v lines) k (Goes r) f text said m says a = answering-more v lines text k r f a _ refl

-- ---- any line

-- what is found of the pieces behind a line
abbrev FoundBehind : List (List ℕ) → ℕ → Type 0
FoundBehind ps k = (p : Place) (c : Course) (f : List Traced → Verdict) → IsAt p k c f → audit_from ps (at_place p c) k ≡ found f (trace_from ps p k)

found-before : (t : Traced) (f : List Traced → Verdict) (r : Reading) → found f (before t r) ≡ found (λ ts. f (t ∷ ts)) r
found-before t f (Ok ts) = refl
found-before t f (Err e) = refl

-- `end` stands where nothing of an answer is open
closing-at : (k : ℕ) (c : Course) (f : List Traced → Verdict) (behind : List (List ℕ)) → f [] ≡ verdict_so_far c → closing k c behind ≡ found f (ended k behind)
closing-at k c f [] e = ap Ok (sym e)
closing-at k c f (piece ∷ []) e = by (length piece == 0)
  where
    by : (b : Bool) → (if b then Ok (verdict_so_far c) else Err (k + 1, offence 1 line_why.Extra)) ≡ found f (if b then Ok [] else bad (k + 1) 1 line_why.Extra)
    by true = ap Ok (sym e)
    by false = refl
closing-at k c f (piece ∷ next ∷ more) e = refl

ends-at : (k : ℕ) (c : Course) (f : List Traced → Verdict) → IsAt Free k c f → f [] ≡ verdict_so_far c
unfolding verdict_from
ends-at k (Goes r) f a = a []
ends-at k (Fails n because) f a = a [] tt

owed-at : (v : Verb) (k : ℕ) (c : Course) (f : List Traced → Verdict) → IsAt Free k c f → IsAt (Owed v) (k + 1) c f
owed-at v k (Goes r) f a = (k, refl, a)
owed-at v k (Fails n because) f a = a

made-at : (s : MachineStep) (k : ℕ) (c : Course) (f : List Traced → Verdict) → IsAt Free k c f → IsAt Free (k + 1) (made c k s) (λ ts. f (Made s ∷ ts))
unfolding verdict_from
made-at s k (Fails n because) f a = λ ts b. a (Made s ∷ ts) b
made-at s k (Goes r) f a = by (is_enabled r.machine s) refl
  where
    by : (b : Bool) → is_enabled r.machine s ≡ b → IsAt Free (k + 1) (if b then Goes (record r { machine = effect r.machine s; inner = r.inner + 1 }) else Fails k Step) (λ ts. f (Made s ∷ ts))
    by true e = λ ts. a (Made s ∷ ts) ∙ rw e refl
    by false e = λ ts _. a (Made s ∷ ts) ∙ rw e refl

said-at : (k : ℕ) (c : Course) (f : List Traced → Verdict) (behind : List (List ℕ)) → IsAt Free k c f → FoundBehind behind (k + 1) → (said : Result TraceLine Offence) → after_line k behind (λ a. audit_from behind a (k + 1)) (said_line c k said) ≡ found f (by_line k behind (λ p. trace_from behind p (k + 1)) said)
said-at k c f behind a ih (Ok (line.Verb v)) = ih (Owed v) c f (owed-at v k c f a)
said-at k c f behind a ih (Ok (line.Step s)) = ih Free (made c k s) (λ ts. f (Made s ∷ ts)) (made-at s k c f a) ∙ sym (found-before (Made s) f (trace_from behind Free (k + 1)))
said-at k c f behind a ih (Ok line.End) = closing-at k c f behind (ends-at k c f a)
said-at k c f behind a ih (Err e) = refl

other-at : (p : Place) (k : ℕ) (c : Course) (f : List Traced → Verdict) (l : List ℕ) (behind : List (List ℕ)) → IsAt p k c f → FoundBehind behind (k + 1) → after_line k behind (λ a. audit_from behind a (k + 1)) (other_line (at_place p c) k l) ≡ found f (by_other p k l behind (λ p'. trace_from behind p' (k + 1)))
unfolding closing_steps
other-at (Owed v) k c f l behind a ih = refl
other-at Free k c f l behind a ih = said-at k c f behind a ih (traced_reading l)
other-at (Answered v lines) k c f l behind a ih =
    said-at k (over due.Rest c k) (λ ts. f (Spoken v lines ∷ ts)) behind (over-at (Answered v lines) k c f refl a) ih (traced_reading l)
    ∙ sym (found-closed (Answered v lines) f (by_line k behind (λ p'. trace_from behind p' (k + 1)) (traced_reading l)))

marked-at : (p : Place) (k : ℕ) (c : Course) (f : List Traced → Verdict) (l : List ℕ) (behind : List (List ℕ)) → may_answer p ≡ true → IsAt p k c f → FoundBehind behind (k + 1) → (o : Option (List ℕ)) → after_line k behind (λ a. audit_from behind a (k + 1)) (marked_line (at_place p c) k l o) ≡ found f (by_mark p k l behind (λ p'. trace_from behind p' (k + 1)) o)
marked-at p k c f l behind m a ih None = other-at p k c f l behind a ih
marked-at p k c f l behind m a ih (Some text) = by p m a (answer_of_line text) refl
  where
    by : (p : Place) → may_answer p ≡ true → IsAt p k c f → (o : Option Told) → answer_of_line text ≡ o → after_line k behind (λ a'. audit_from behind a' (k + 1)) (answer_line (at_place p c) k text o) ≡ found f (if is_some o then trace_from behind (with_line p text) (k + 1) else bad k 1 line_why.Word)
    by p m a None e = refl
    by Free m a (Some said) e = cc
    by (Owed v) m a (Some said) e = ih (Answered v (text ∷ [])) (answered (due.Answer v) c k text (Some said)) f (answer-at (Owed v) k c f text said m e a)
    by (Answered v lines) m a (Some said) e = ih (Answered v (lines ++ text ∷ [])) (answered due.Rest c k text (Some said)) f (answer-at (Answered v lines) k c f text said m e a)

line-at : (p : Place) (k : ℕ) (c : Course) (f : List Traced → Verdict) (l : List ℕ) (behind : List (List ℕ)) → IsAt p k c f → FoundBehind behind (k + 1) → after_line k behind (λ a. audit_from behind a (k + 1)) (line_outcome (at_place p c) k l) ≡ found f (by_place p k l behind (λ p'. trace_from behind p' (k + 1)))
unfolding line_outcome
line-at Free k c f l behind a ih = other-at Free k c f l behind a ih
line-at (Owed v) k c f l behind a ih = marked-at (Owed v) k c f l behind refl a ih (answer_text l)
line-at (Answered v lines) k c f l behind a ih = marked-at (Answered v lines) k c f l behind refl a ih (answer_text l)

owed-same : (p : Place) → wants_answer (due_of p) ≡ is_owed p
owed-same Free = refl
owed-same (Owed v) = refl
owed-same (Answered v lines) = refl

found-behind : (ps : List (List ℕ)) (k : ℕ) (p : Place) (c : Course) (f : List Traced → Verdict) → IsAt p k c f → audit_from ps (at_place p c) k ≡ found f (trace_from ps p k)
unfolding audit_from trace_from
found-behind [] k p c f a = ap (λ (b : Bool). Err (unfinished b k [])) (owed-same p)
found-behind (last ∷ []) k p c f a = ap (λ (b : Bool). Err (unfinished b k last)) (owed-same p)
found-behind (l ∷ next ∷ more) k p c f a = line-at p k c f l (next ∷ more) a (found-behind (next ∷ more) (k + 1))

on-verdict : (r : Reading) → found (λ ts. verdict_from ts empty 1 0 0) r ≡ verdict_on r
unfolding verdict_of
on-verdict (Ok ts) = refl
on-verdict (Err e) = refl

-- what the loop finds is the verdict on what is read
pub finding-is : (trace : List ℕ) → finding_of trace ≡ verdict_on (trace_of trace)
unfolding finding_of trace_of
finding-is trace = found-behind (slice_split is_newline trace) 1 Free (Goes (record { machine = empty; verbs = 0; inner = 0; rest = [] })) (λ ts. verdict_from ts empty 1 0 0) (λ ts. refl) ∙ on-verdict (trace_from (slice_split is_newline trace) Free 1)
