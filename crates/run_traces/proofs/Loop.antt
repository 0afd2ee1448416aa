-- One line after the other.
use Rattle.std.proofs.Common.{◌≡◌, ℕ, ◌+◌, ◌-◌, ◌<◌, ◌≤◌, ◌==◌, Bool, true, false, List, [], ◌∷◌, ◌++◌, length, Option, Some, None, Result, Ok, Err, if◌then◌else◌, refl, sym, ap, ◌∙◌, subst, arith}
use Rattle.std.specs.List.{onto_first, slice_split}
use Rattle.std.proofs.lemmas.Bool.Decides.{nat_tests}
use Rattle.std.proofs.lemmas.List.Splits.{length-slice_split}
use Rattle.rdma_types.specs.declared.answers.Answer.{Answer as Told}
use Rattle.rdma_types.specs.declared.verbs.Verb.{Verb}
use Rattle.packetless_machine.specs.declared.steps.MachineStep.{MachineStep}
use Rattle.packetless_machine.specs.Legal.{effect, is_enabled}
use Rattle.script_lang.specs.declared.lines.LineWhy.TheVariants as line_why
use Rattle.script_lang.specs.declared.lines.Offence.{Offence}
use Rattle.script_lang.specs.Scripts.{is_newline}
use Rattle.script_lang.specs.Words.{offence}
use Rattle.run_traces.specs.declared.trace_audit.due.Due.{Due}
use Rattle.run_traces.specs.declared.trace_audit.due.Due.TheVariants as due
use Rattle.run_traces.specs.declared.trace_audit.lines.TraceLine.{TraceLine}
use Rattle.run_traces.specs.declared.trace_audit.lines.TraceLine.TheVariants as line
use Rattle.run_traces.specs.declared.trace_audit.verdicts.AuditFault.{AuditFault}
use Rattle.run_traces.specs.declared.trace_audit.verdicts.AuditFault.TheVariants as fault
use Rattle.run_traces.specs.declared.trace_audit.verdicts.AuditWhy.{AuditWhy}
use Rattle.run_traces.specs.declared.trace_audit.verdicts.AuditWhy.TheVariants.{Step, Answer}
use Rattle.run_traces.specs.declared.trace_audit.verdicts.Verdict.{Verdict}
use Rattle.run_traces.specs.Answers.{answer_of_line, given_in}
use Rattle.run_traces.specs.Auditing.{AreCounted, Audit, ComesOf, Course, Finding, Finds, Goes, Fails, Outcome, Next, Last, Bad, Run, after_line, answer_line, answered, asked, audit_from, begun, closing, counted, finding_of, heard, heard_unless, line_by, line_outcome, made, marked_line, other_line, over, passed, said_line, wants_answer}
use Rattle.run_traces.specs.Evaluate.{verdict_on}
use Rattle.run_traces.specs.Lines.{traced_reading}
use Rattle.run_traces.specs.Traces.{Reading, answer_text, trace_of, unfinished}
use Rattle.run_traces.specs.Verdicts.{Audits, behind, verdict_of, wrong_given}
use Rattle.run_traces.proofs.Fusion.{finding-is}

-- ---- pieces

-- bytes behind `end` are too many
pub closing-more : (k : ℕ) (c : Course) (bs : List ℕ) → 0 < length bs → closing k c (slice_split is_newline bs) ≡ Err (k + 1, offence 1 line_why.Extra)
closing-more k c [] h = absurd (omega arith)
closing-more k c (b ∷ bs) h = by (is_newline b) (slice_split is_newline bs) _ (length-slice_split is_newline bs)
  where
    some : (p : List ℕ) → (length (b ∷ p) == 0) ≡ false
    some p = grind (arith, nat_tests)

    by : (t : Bool) (ps : List (List ℕ)) (n : ℕ) → length ps ≡ n + 1 → closing k c (if t then [] ∷ ps else onto_first b ps) ≡ Err (k + 1, offence 1 line_why.Extra)
    by t [] n e = absurd (omega (arith, e))
    by true (p ∷ ps) n e = refl
    by false (p ∷ []) n e = rw (some p) refl
    by false (p ∷ q ∷ ps) n e = refl

-- a line that more pieces follow
audit-next : (l bs : List ℕ) (a : Audit) (k : ℕ) → audit_from (l ∷ slice_split is_newline bs) a k ≡ after_line k (slice_split is_newline bs) (λ a'. audit_from (slice_split is_newline bs) a' (k + 1)) (line_outcome a k l)
unfolding audit_from
audit-next l bs a k = by (slice_split is_newline bs) _ (length-slice_split is_newline bs)
  where
    by : (ps : List (List ℕ)) (n : ℕ) → length ps ≡ n + 1 → audit_from (l ∷ ps) a k ≡ after_line k ps (λ a'. audit_from ps a' (k + 1)) (line_outcome a k l)
    by [] n e = absurd (omega (arith, e))
    by (p ∷ ps) n e = refl

-- ---- the loop

-- so far the lines went like this
pub record IsFound (trace rest : List ℕ) (a : Audit) (k : ℕ) : Type 0 where
  pub found : finding_of trace ≡ audit_from (slice_split is_newline rest) a k
  pub counted : AreCounted a.course k
  pub small : k + length rest ≤ length trace + 1

pub found-first : (trace : List ℕ) (a : Audit) → a ≡ begun → IsFound trace trace a 1
unfolding finding_of
found-first trace a e = record {
  found = ap (λ (x : Audit). audit_from (slice_split is_newline trace) x 1) (sym e);
  counted = subst (λ (x : Audit). AreCounted x.course 1) (sym e) (omega arith, omega arith);
  small = omega arith;
}

here : (trace rest l more : List ℕ) (a : Audit) (k : ℕ) → IsFound trace rest a k → slice_split is_newline rest ≡ l ∷ slice_split is_newline more → finding_of trace ≡ after_line k (slice_split is_newline more) (λ a'. audit_from (slice_split is_newline more) a' (k + 1)) (line_outcome a k l)
here trace rest l more a k f cut = f.found ∙ ap (λ (ps : List (List ℕ)). audit_from ps a k) cut ∙ audit-next l more a k

-- numbers

abbrev IsWithin : Course → ℕ → ℕ → Type 0
IsWithin (Goes r) a b = (r.verbs ≤ a) × (r.inner ≤ b)
IsWithin (Fails n because) a b = Unit {0}

as-within : (c : Course) (k : ℕ) → AreCounted c k → IsWithin c k k
as-within (Goes r) k h = h
as-within (Fails n because) k h = h

as-counted : (c : Course) (a b n : ℕ) → a ≤ n → b ≤ n → IsWithin c a b → AreCounted c n
as-counted (Goes r) a b n p q h = (omega (arith, h.0), omega (arith, h.1))
as-counted (Fails l because) a b n p q h = tt

within-over : (d : Due) (c : Course) (k : ℕ) → IsWithin c k k → IsWithin (over d c k) (k + 1) k
within-over due.Nothing (Goes r) k h = (omega (arith, h.0), h.1)
within-over due.Nothing (Fails n because) k h = tt
within-over (due.Answer v) (Goes r) k h = (omega (arith, h.0), h.1)
within-over (due.Answer v) (Fails n because) k h = tt
within-over due.Rest (Fails n because) k h = tt
within-over due.Rest (Goes r) k h = by (length r.rest == 0)
  where
    by : (b : Bool) → IsWithin (if b then Goes (record r { verbs = r.verbs + 1 }) else Fails k Answer) (k + 1) k
    by true = (omega (arith, h.0), h.1)
    by false = tt

-- what an inner step after an answer needs
pub counted-over : (d : Due) (c : Course) (k : ℕ) → AreCounted c k → AreCounted (over d c k) (k + 1)
counted-over d c k h = as-counted (over d c k) (k + 1) k (k + 1) (omega arith) (omega arith) (within-over d c k (as-within c k h))

within-made : (c : Course) (a b k : ℕ) (s : MachineStep) → IsWithin c a b → IsWithin (made c k s) a (b + 1)
within-made (Fails l because) a b k s h = tt
within-made (Goes r) a b k s h = by (is_enabled r.machine s)
  where
    by : (t : Bool) → IsWithin (if t then Goes (record r { machine = effect r.machine s; inner = r.inner + 1 }) else Fails k Step) a (b + 1)
    by true = (h.0, omega (arith, h.1))
    by false = tt

counted-passed : (r : Run) (k n : ℕ) (o : Option (List ℕ)) → AreCounted (Goes r) n → AreCounted (passed r k o) n
counted-passed r k n None h = tt
counted-passed r k n (Some rest) h = h

counted-unless : (w : Option AuditWhy) (k n : ℕ) (c : Course) → AreCounted c n → AreCounted (heard_unless w k c) n
counted-unless None k n c h = h
counted-unless (Some because) k n c h = tt

counted-more : (c : Course) (n : ℕ) → AreCounted c n → AreCounted c (n + 1)
counted-more c n h = as-counted c n n (n + 1) (omega arith) (omega arith) (as-within c n h)

counted-answered : (d : Due) (c : Course) (k n : ℕ) (text : List ℕ) (a : Option Told) → AreCounted c n → AreCounted (answered d c k text a) n
counted-answered due.Nothing (Goes r) k n text a h = h
counted-answered due.Nothing (Fails l because) k n text a h = tt
counted-answered (due.Answer v) (Fails l because) k n text a h = tt
counted-answered due.Rest (Fails l because) k n text a h = tt
counted-answered (due.Answer v) (Goes r) k n text a h =
    counted-unless (wrong_given r.machine v (given_in v a)) k n (heard (asked r v (given_in v a)) k text) (counted-passed (asked r v (given_in v a)) k n (behind text (asked r v (given_in v a)).rest) h)
counted-answered due.Rest (Goes r) k n text a h = counted-passed r k n (behind text r.rest) h

from-next : (x a : Audit) (n : ℕ) → Next x ≡ Next a → AreCounted x.course n → AreCounted a.course n
from-next x a n e h = let q : x ≡ a = cc in subst (λ (y : Audit). AreCounted y.course n) q h

counted-said : (c : Course) (k : ℕ) (s : Result TraceLine Offence) (a : Audit) → IsWithin c (k + 1) k → said_line c k s ≡ Next a → AreCounted a.course (k + 1)
counted-said c k (Ok (line.Verb v)) a h e = from-next (record { due = due.Answer v; course = c }) a (k + 1) e (as-counted c (k + 1) k (k + 1) (omega arith) (omega arith) h)
counted-said c k (Ok (line.Step s)) a h e = from-next (record { due = due.Nothing; course = made c k s }) a (k + 1) e (as-counted (made c k s) (k + 1) (k + 1) (k + 1) (omega arith) (omega arith) (within-made c (k + 1) k k s h))
counted-said c k (Ok line.End) a h e = cc
counted-said c k (Err o) a h e = cc

counted-other : (b a : Audit) (k : ℕ) (l : List ℕ) → AreCounted b.course k → other_line b k l ≡ Next a → AreCounted a.course (k + 1)
counted-other b a k l h e = by (wants_answer b.due) e
  where
    by : (t : Bool) → (if t then Bad (offence 1 line_why.Word) else said_line (over b.due b.course k) k (traced_reading l)) ≡ Next a → AreCounted a.course (k + 1)
    by true q = cc
    by false q = counted-said (over b.due b.course k) k (traced_reading l) a (within-over b.due b.course k (as-within b.course k h)) q

counted-marked : (b a : Audit) (k : ℕ) (l : List ℕ) (o : Option (List ℕ)) → AreCounted b.course k → marked_line b k l o ≡ Next a → AreCounted a.course (k + 1)
counted-marked b a k l None h e = counted-other b a k l h e
counted-marked b a k l (Some text) h e = by (answer_of_line text) e
  where
    by : (o : Option Told) → answer_line b k text o ≡ Next a → AreCounted a.course (k + 1)
    by None q = cc
    by (Some said) q = from-next (record { due = due.Rest; course = answered b.due b.course k text (Some said) }) a (k + 1) q (counted-answered b.due b.course k (k + 1) text (Some said) (counted-more b.course k h))

counted-line : (d : Due) (b a : Audit) (k : ℕ) (l : List ℕ) → AreCounted b.course k → line_by d b k l ≡ Next a → AreCounted a.course (k + 1)
counted-line due.Nothing b a k l h e = counted-other b a k l h e
counted-line (due.Answer v) b a k l h e = counted-marked b a k l (answer_text l) h e
counted-line due.Rest b a k l h e = counted-marked b a k l (answer_text l) h e

counted-next : (b a : Audit) (k : ℕ) (l : List ℕ) → AreCounted b.course k → line_outcome b k l ≡ Next a → AreCounted a.course (k + 1)
unfolding line_outcome
counted-next b a k l h e = counted-line b.due b a k l h e

-- one more line
pub found-next : (trace rest l more : List ℕ) (b a : Audit) (k : ℕ) → IsFound trace rest b k → slice_split is_newline rest ≡ l ∷ slice_split is_newline more → length more + 1 ≤ length rest → ComesOf (Ok false) a k (line_outcome b k l) → IsFound trace more a (k + 1)
found-next trace rest l more b a k f cut shorter o = record {
  found = here trace rest l more b k f cut ∙ ap (after_line k (slice_split is_newline more) (λ a'. audit_from (slice_split is_newline more) a' (k + 1))) o;
  counted = counted-next b a k l f.counted o;
  small = omega (arith, f.small);
}

-- the last line
pub found-last : (trace rest l more : List ℕ) (b a : Audit) (k : ℕ) (r : Result Verdict AuditFault) → IsFound trace rest b k → slice_split is_newline rest ≡ l ∷ slice_split is_newline more → ComesOf (Ok true) a k (line_outcome b k l) → Finds r (closing k a.course (slice_split is_newline more)) → Finds r (finding_of trace)
found-last trace rest l more b a k r f cut o h = subst (Finds r) (sym (here trace rest l more b k f cut ∙ ap (after_line k (slice_split is_newline more) (λ a'. audit_from (slice_split is_newline more) a' (k + 1))) o)) h

-- a bad line
pub found-bad : (trace rest l more : List ℕ) (b a : Audit) (k : ℕ) (e : AuditFault) → IsFound trace rest b k → slice_split is_newline rest ≡ l ∷ slice_split is_newline more → ComesOf (Err e) a k (line_outcome b k l) → Finds (Err e) (finding_of trace)
found-bad trace rest l more b a k fault.OutOfMemory f cut o = tt
found-bad trace rest l more b a k (fault.BadLine n column because) f cut o =
    here trace rest l more b k f cut ∙ ap (after_line k (slice_split is_newline more) (λ a'. audit_from (slice_split is_newline more) a' (k + 1))) o.1
    ∙ ap (λ (m : ℕ). Err (m, offence column because)) (sym o.0)

-- no more lines
pub found-end : (trace rest : List ℕ) (b : Audit) (k : ℕ) (owed : Bool) (r : Result Verdict AuditFault) → IsFound trace rest b k → slice_split is_newline rest ≡ rest ∷ [] → owed ≡ wants_answer b.due → Finds r (Err (unfinished owed k rest)) → Finds r (finding_of trace)
unfolding audit_from
found-end trace rest b k owed r f cut o h =
    let e : finding_of trace ≡ Err (unfinished owed k rest) = f.found ∙ ap (λ (ps : List (List ℕ)). audit_from ps b k) cut ∙ ap (λ (t : Bool). Err (unfinished t k rest)) (sym o) in
    subst (Finds r) (sym e) h

-- ---- what is found is the verdict

audits-by : (trace : List ℕ) (r : Result Verdict AuditFault) (q : Reading) → trace_of trace ≡ q → Finds r (verdict_on q) → Audits trace r
audits-by trace (Ok v) (Ok ts) e h = let is : verdict_of ts ≡ v = cc in (ts, e, is)
audits-by trace (Ok v) (Err o) e h = cc
audits-by trace (Err (fault.BadLine n column because)) (Ok ts) e h = cc
audits-by trace (Err (fault.BadLine n column because)) (Err o) e h = let q : o ≡ (n, offence column because) = cc in e ∙ ap Err q
audits-by trace (Err fault.OutOfMemory) q e h = tt

pub found-audits : (trace : List ℕ) (r : Result Verdict AuditFault) → Finds r (finding_of trace) → Audits trace r
found-audits trace r h = audits-by trace r (trace_of trace) refl (subst (Finds r) (finding-is trace) h)
