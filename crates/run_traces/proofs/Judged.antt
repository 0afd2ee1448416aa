-- What the verdict says of steps that are traced.
use Rattle.std.proofs.Common.{◌≡◌, ℕ, zero, suc, ◌+◌, ◌-◌, ◌<◌, ◌≤◌, Bool, true, false, List, [], ◌∷◌, ◌++◌, length, Option, Some, None, unwrap_or, if◌then◌else◌, refl, sym, ap, ◌∙◌, subst, append_assoc, inl, inr, arith, length-append}
use Rattle.std.specs.Prelude.{◌==◌, ◌&&◌, not, codes}
use Rattle.std.specs.List.{list_all}
use Rattle.std.proofs.lemmas.Bool.Decides.{nat_tests}
use Rattle.rdma_types.specs.declared.answers.Answer.TheVariants as answers
use Rattle.rdma_types.specs.declared.answers.Refusal.{Refusal}
use Rattle.rdma_types.specs.declared.verbs.Verb.{Verb}
use Rattle.rdma_types.specs.declared.verbs.Verb.TheVariants as verbs
use Rattle.packetless_machine.specs.declared.steps.MachineStep.{MachineStep}
use Rattle.packetless_machine.specs.declared.steps.MachineStep.TheVariants as steps
use Rattle.packetless_machine.specs.Legal.{IsRun, after, effect, is_enabled}
use Rattle.packetless_machine.specs.Machine.{Machine, empty}
use Rattle.packetless_machine.specs.Verbs.{answered as answer_by, may_answer, may_verb, refusal_of, verb_answer}
use Rattle.script_lang.specs.Printed.{printed}
use Rattle.run_traces.specs.declared.trace_audit.verdicts.AuditWhy.{AuditWhy}
use Rattle.run_traces.specs.declared.trace_audit.verdicts.AuditWhy.TheVariants.{Step, Answer}
use Rattle.run_traces.specs.declared.trace_audit.verdicts.Verdict.{Verdict}
use Rattle.run_traces.specs.declared.trace_audit.verdicts.Verdict.TheVariants.{Legal, Illegal}
use Rattle.run_traces.specs.Answers.{answer_of_line, first_answer, given_by, key_in, number_in}
use Rattle.run_traces.specs.Evaluate.{audited}
use Rattle.run_traces.specs.Traces.{Made, Spoken, Traced}
use Rattle.run_traces.specs.Verdicts.{AreAnswered, AreRunFrom, DiffersAt, Fault, IsAnotherAnswer, IsVerdict, IsWrong, IsWrongAnswer, StopsAt, VerdictsAreRight, answer_to, behind, differs_at, fault_of, fault_or, first_wrong, inner_in, lines_in, machine_after, one_later, steps_of, text_of_lines, unless_at, verbs_in, verdict_from, verdict_of, wrong_given, wrong_unless_refused}
use Rattle.run_traces.proofs.Asked.{wrong-none}
use Rattle.run_traces.proofs.Heard.{all_right, behind_is, none_wrong}

-- ---- an answer that is right

-- what is not wrong may be given
may-given : (m : Machine) (v : Verb) (given : Option ℕ) → wrong_given m v given ≡ None → may_verb m v (unwrap_or given 0) ≡ true
unfolding wrong_given
may-given m v given h = by (refusal_of m v) given refl h
  where
    by-test : (b : Bool) → (if b then None else Some Step) ≡ None → b ≡ true
    by-test true e = refl
    by-test false e = cc

    by : (o : Option Refusal) (g : Option ℕ) → refusal_of m v ≡ o → wrong_unless_refused o m v g ≡ None → may_verb m v (unwrap_or g 0) ≡ true
    by (Some r) g q e = rw q refl
    by None None q e = cc
    by None (Some g) q e = by-test (may_verb m v g) e

-- no fault: what is given is right, and so are the lines
record IsRight (m : Machine) (v : Verb) (lines : List (List ℕ)) : Type 0 where
  given : wrong_given m v (given_by v lines) ≡ None
  lines_are : first_wrong lines (answer_to m v (given_by v lines)) ≡ None

right : (m : Machine) (v : Verb) (lines : List (List ℕ)) → fault_of m v lines ≡ None → IsRight m v lines
right m v lines h = by (wrong_given m v (given_by v lines)) (first_wrong lines (answer_to m v (given_by v lines))) refl refl h
  where
    by : (w : Option AuditWhy) (o : Option ℕ) → wrong_given m v (given_by v lines) ≡ w → first_wrong lines (answer_to m v (given_by v lines)) ≡ o → fault_or w (differs_at o) ≡ None → IsRight m v lines
    by None None p q e = record { given = p; lines_are = q }
    by None (Some k) p q e = cc
    by (Some because) o p q e = cc

-- ---- Legal

record IsLegalRun (m : Machine) (ts : List Traced) (v i verbs inner : ℕ) : Type 0 where
  run : AreRunFrom m ts
  verbs_are : verbs ≡ v + verbs_in ts
  inner_are : inner ≡ i + inner_in ts

legal-from : (ts : List Traced) (m : Machine) (k v i verbs inner : ℕ) → verdict_from ts m k v i ≡ Legal verbs inner → IsLegalRun m ts v i verbs inner
unfolding verdict_from
legal-from [] m k v i verbs inner h =
    let a : v ≡ verbs = cc in
    let b : i ≡ inner = cc in
    record { run = record { is_run = tt; answered = tt }; verbs_are = omega arith; inner_are = omega arith }
legal-from (Made s ∷ ts) m k v i verbs inner h = by (is_enabled m s) refl h (legal-from ts (effect m s) (k + 1) v (i + 1) verbs inner)
  where
    by : (b : Bool) → is_enabled m s ≡ b → (if b then verdict_from ts (effect m s) (k + 1) v (i + 1) else Illegal k Step) ≡ Legal verbs inner → (verdict_from ts (effect m s) (k + 1) v (i + 1) ≡ Legal verbs inner → IsLegalRun (effect m s) ts v (i + 1) verbs inner) → IsLegalRun m (Made s ∷ ts) v i verbs inner
    by true e q ih =
        let r = ih q in
        record { run = record { is_run = (e, r.run.is_run); answered = r.run.answered }; verbs_are = r.verbs_are; inner_are = omega (arith, r.inner_are) }
    by false e q ih = cc
legal-from (Spoken w lines ∷ ts) m k v i verbs inner h = by (fault_of m w lines) refl h (legal-from ts (machine_after m w (given_by w lines)) (k + 1 + length lines) (v + 1) i verbs inner)
  where
    by : (f : Fault) → fault_of m w lines ≡ f → unless_at k f (verdict_from ts (machine_after m w (given_by w lines)) (k + 1 + length lines) (v + 1) i) ≡ Legal verbs inner → (verdict_from ts (machine_after m w (given_by w lines)) (k + 1 + length lines) (v + 1) i ≡ Legal verbs inner → IsLegalRun (machine_after m w (given_by w lines)) ts (v + 1) i verbs inner) → IsLegalRun m (Spoken w lines ∷ ts) v i verbs inner
    by None e q ih =
        let r = ih q in
        let ok = right m w lines e in
        record {
          run = record { is_run = (may-given m w (given_by w lines) ok.given, r.run.is_run); answered = (none_wrong lines (answer_to m w (given_by w lines)) ok.lines_are, r.run.answered) };
          verbs_are = omega (arith, r.verbs_are);
          inner_are = r.inner_are;
        }
    by (Some f) e q ih = cc

-- ---- and every run is Legal

-- a line before the only newline of a text
cut-line : (l r t : List ℕ) → list_all (λ b. not (b == 10)) t ≡ true → l ++ 10 ∷ r ≡ t ++ 10 ∷ [] → l ≡ t
cut-line [] r [] n e = refl
cut-line [] r (b ∷ t) n e =
    let q : b ≡ 10 = cc in
    let bad : false ≡ true = rw q at n in cc
cut-line (x ∷ l) r [] n e = let q = ap length e in absurd (omega (arith, q, length-append l (10 ∷ r)))
cut-line (x ∷ l) r (b ∷ t) n e =
    let heads : x ≡ b = cc in
    let tails : l ++ 10 ∷ r ≡ t ++ 10 ∷ [] = cc in
    ap (λ (y : ℕ). y ∷ l) heads ∙ ap (λ (ys : List ℕ). b ∷ ys) (cut-line l r t (tail (not (b == 10)) (list_all (λ c. not (c == 10)) t) n) tails)
  where
    tail : (p q : Bool) → (p && q) ≡ true → q ≡ true
    tail true q h = h
    tail false q h = cc

region_zero : List ℕ
region_zero = codes "region 00000000 00000001"

qp_zero : List ℕ
qp_zero = codes "qp 000000"

region-printed : printed (answers.Region (record { local = 0; remote = 1 })) ≡ region_zero ++ 10 ∷ []
unfolding audited region_zero
region-printed = refl

region-read : answer_of_line region_zero ≡ Some (answers.Region (record { local = 0; remote = 1 }))
unfolding audited region_zero
region-read = refl

qp-printed : printed (answers.Qp 0) ≡ qp_zero ++ 10 ∷ []
unfolding audited qp_zero
qp-printed = refl

qp-read : answer_of_line qp_zero ≡ Some (answers.Qp 0)
unfolding audited qp_zero
qp-read = refl

region-line : list_all (λ b. not (b == 10)) region_zero ≡ true
unfolding region_zero
region-line = refl

qp-line : list_all (λ b. not (b == 10)) qp_zero ≡ true
unfolding qp_zero
qp-line = refl

-- lines that are a text of one line
first-of : (lines : List (List ℕ)) (t text : List ℕ) → list_all (λ b. not (b == 10)) t ≡ true → text ≡ t ++ 10 ∷ [] → text ≡ text_of_lines lines → first_answer lines ≡ answer_of_line t
first-of [] t text n e h = let q = ap length (sym e ∙ h) in absurd (omega (arith, q, length-append t (10 ∷ [])))
first-of (l ∷ ls) t text n e h = ap answer_of_line (cut-line l (text_of_lines ls) t n (sym h ∙ e))

-- where it gives one, its line says it
none-said : (m : Machine) (v : Verb) (lines : List (List ℕ)) → given_by v lines ≡ None → answer_to m v None ≡ text_of_lines lines → wrong_given m v None ≡ None
unfolding wrong_given
none-said m (verbs.Context name made) lines q e = cc
none-said m (verbs.Connect one two terms) lines q e = cc
none-said m (verbs.MakeDomain name) lines q e = cc
none-said m (verbs.MakeRegion name domain base count rights) lines q e = by (refusal_of m (verbs.MakeRegion name domain base count rights)) refl
  where
    by : (o : Option Refusal) → refusal_of m (verbs.MakeRegion name domain base count rights) ≡ o → wrong_unless_refused (refusal_of m (verbs.MakeRegion name domain base count rights)) m (verbs.MakeRegion name domain base count rights) None ≡ None
    by (Some r) p = rw p refl
    by None p =
        let text = rw p at e in
        let said = first-of lines region_zero (printed (answers.Region (record { local = 0; remote = 1 }))) region-line region-printed text ∙ region-read in
        let some : key_in (first_answer lines) ≡ Some 0 = ap key_in said in
        cc
none-said m (verbs.MakeCq name capacity) lines q e = cc
none-said m (verbs.MakeQp name domain send_cq recv_cq send_depth recv_depth) lines q e = by (refusal_of m (verbs.MakeQp name domain send_cq recv_cq send_depth recv_depth)) refl
  where
    by : (o : Option Refusal) → refusal_of m (verbs.MakeQp name domain send_cq recv_cq send_depth recv_depth) ≡ o → wrong_unless_refused (refusal_of m (verbs.MakeQp name domain send_cq recv_cq send_depth recv_depth)) m (verbs.MakeQp name domain send_cq recv_cq send_depth recv_depth) None ≡ None
    by (Some r) p = rw p refl
    by None p =
        let text = rw p at e in
        let said = first-of lines qp_zero (printed (answers.Qp 0)) qp-line qp-printed text ∙ qp-read in
        let some : number_in (first_answer lines) ≡ Some 0 = ap number_in said in
        cc
none-said m (verbs.DropRegion name) lines q e = cc
none-said m (verbs.Store region address bytes) lines q e = cc
none-said m (verbs.Load region address count) lines q e = cc
none-said m (verbs.PostSend o r) lines q e = cc
none-said m (verbs.PostRecv o v) lines q e = cc
none-said m (verbs.Poll cq max) lines q e = cc

-- an answer that is the machine's says the key or number
said-right : (m : Machine) (v : Verb) (lines : List (List ℕ)) → may_verb m v (unwrap_or (given_by v lines) 0) ≡ true → answer_to m v (given_by v lines) ≡ text_of_lines lines → wrong_given m v (given_by v lines) ≡ None
unfolding wrong_given
said-right m v lines may e = by-given (given_by v lines) refl
  where
    by-given : (g : Option ℕ) → given_by v lines ≡ g → wrong_given m v (given_by v lines) ≡ None
    by-given (Some g) q =
        let told : may_verb m v (unwrap_or (Some g) 0) ≡ true = ap (λ (o : Option ℕ). may_verb m v (unwrap_or o 0)) (sym q) ∙ may in
        ap (wrong_given m v) q ∙ wrong-none m v (Some g) told refl
    by-given None q = ap (wrong_given m v) q ∙ none-said m v lines q (ap (λ (o : Option ℕ). answer_to m v o) (sym q) ∙ e)

same-legal : (a b c d : ℕ) → a ≡ b → c ≡ d → Legal a c ≡ Legal b d
same-legal a b c d e f = rw (e, f) refl

no-fault : (m : Machine) (v : Verb) (lines : List (List ℕ)) → wrong_given m v (given_by v lines) ≡ None → first_wrong lines (answer_to m v (given_by v lines)) ≡ None → fault_of m v lines ≡ None
no-fault m v lines p q = rw (p, q) refl

all-from : (ts : List Traced) (m : Machine) (k v i : ℕ) → AreRunFrom m ts → verdict_from ts m k v i ≡ Legal (v + verbs_in ts) (i + inner_in ts)
unfolding verdict_from
all-from [] m k v i r = same-legal v (v + 0) i (i + 0) (omega arith) (omega arith)
all-from (Made s ∷ ts) m k v i r =
    let rest = all-from ts (effect m s) (k + 1) v (i + 1) (record { is_run = r.is_run.1; answered = r.answered }) in
    ap (λ (b : Bool). if b then verdict_from ts (effect m s) (k + 1) v (i + 1) else Illegal k Step) r.is_run.0
    ∙ rest ∙ same-legal (v + verbs_in ts) (v + verbs_in ts) (i + 1 + inner_in ts) (i + suc (inner_in ts)) refl (omega arith)
all-from (Spoken w lines ∷ ts) m k v i r =
    let given = said-right m w lines r.is_run.0 r.answered.0 in
    let none = no-fault m w lines given (all_right lines (answer_to m w (given_by w lines)) r.answered.0) in
    let rest = all-from ts (machine_after m w (given_by w lines)) (k + 1 + length lines) (v + 1) i (record { is_run = r.is_run.1; answered = r.answered.1 }) in
    ap (λ (f : Fault). unless_at k f (verdict_from ts (machine_after m w (given_by w lines)) (k + 1 + length lines) (v + 1) i)) none
    ∙ rest ∙ same-legal (v + 1 + verbs_in ts) (v + suc (verbs_in ts)) (i + inner_in ts) (i + inner_in ts) (omega arith) refl

-- ---- Illegal

differs : (ls : List (List ℕ)) (t : List ℕ) (n : ℕ) → first_wrong ls t ≡ Some n → DiffersAt n ls t
unfolding first_wrong
differs [] [] n h = cc
differs [] (b ∷ bs) n h =
    let z : 0 ≡ n = cc in
    record { prefix = []; here = []; there = b ∷ bs; are = refl; others = refl; place = sym z; differ = refl }
differs (l ∷ ls) t n h = by (behind l t) refl (λ more k. differs ls more k)
  where
    later : (o : Option ℕ) → one_later o ≡ Some n → (k : ℕ) × (o ≡ Some k) × (n ≡ suc k)
    later None q = cc
    later (Some k) q = let e : suc k ≡ n = cc in (k, refl, sym e)

    by : (o : Option (List ℕ)) → behind l t ≡ o → ((more : List ℕ) (k : ℕ) → first_wrong ls more ≡ Some k → DiffersAt k ls more) → DiffersAt n (l ∷ ls) t
    by None e ih =
        let q : Some 0 ≡ Some n = rw e at h in
        let z : 0 ≡ n = cc in
        record { prefix = []; here = l ∷ ls; there = t; are = refl; others = refl; place = sym z; differ = rw e refl }
    by (Some more) e ih =
        let q : one_later (first_wrong ls more) ≡ Some n = rw e at h in
        let k = later (first_wrong ls more) q in
        let d = ih more k.0 k.1 in
        record {
          prefix = l ∷ d.prefix;
          here = d.here;
          there = d.there;
          are = ap (λ (xs : List (List ℕ)). l ∷ xs) d.are;
          others = behind_is l t more e ∙ ap (λ (xs : List ℕ). l ++ 10 ∷ xs) d.others ∙ sym (append_assoc l (10 ∷ text_of_lines d.prefix) d.there);
          place = k.2 ∙ ap suc d.place;
          differ = d.differ;
        }

-- what is wrong with a key or number
wrong-step : (m : Machine) (v : Verb) (given : Option ℕ) → wrong_given m v given ≡ Some Step → (g : ℕ) × (given ≡ Some g) × (may_verb m v g ≡ false)
unfolding wrong_given
wrong-step m v given h = by (refusal_of m v) given h
  where
    by-test : (g : ℕ) (b : Bool) → may_verb m v g ≡ b → (if b then None else Some Step) ≡ Some Step → (h : ℕ) × (Some g ≡ Some h) × (may_verb m v h ≡ false)
    by-test g true p e = cc
    by-test g false p e = (g, refl, p)

    by : (o : Option Refusal) (g : Option ℕ) → wrong_unless_refused o m v g ≡ Some Step → (h : ℕ) × (g ≡ Some h) × (may_verb m v h ≡ false)
    by (Some r) g e = cc
    by None None e = cc
    by None (Some g) e = by-test g (may_verb m v g) refl e

wrong-answer : (m : Machine) (v : Verb) (given : Option ℕ) → wrong_given m v given ≡ Some Answer → (given ≡ None) × (refusal_of m v ≡ None)
unfolding wrong_given
wrong-answer m v given h = by (refusal_of m v) given refl h
  where
    by-test : (g : ℕ) (b : Bool) → (if b then None else Some Step) ≡ Some Answer → (Some g ≡ None) × (refusal_of m v ≡ None)
    by-test g true e = cc
    by-test g false e = cc

    by : (o : Option Refusal) (g : Option ℕ) → refusal_of m v ≡ o → wrong_unless_refused o m v g ≡ Some Answer → (g ≡ None) × (refusal_of m v ≡ None)
    by (Some r) g q e = cc
    by None None q e = (refl, q)
    by None (Some g) q e = by-test g (may_verb m v g) e

fault-is : (m : Machine) (v : Verb) (lines : List (List ℕ)) (f : ℕ × AuditWhy) → fault_of m v lines ≡ Some f → IsWrongAnswer m v lines f.0 f.1
fault-is m v lines f h = by (wrong_given m v (given_by v lines)) (first_wrong lines (answer_to m v (given_by v lines))) refl refl h
  where
    is-step : (f : ℕ × AuditWhy) → (1, Step) ≡ f → wrong_given m v (given_by v lines) ≡ Some Step → IsWrongAnswer m v lines f.0 f.1
    is-step f e p = let w = wrong-step m v (given_by v lines) p in subst (λ (x : ℕ × AuditWhy). IsWrongAnswer m v lines x.0 x.1) e (w.0, w.1, w.2, refl)

    is-answer : (f : ℕ × AuditWhy) → (1, Answer) ≡ f → wrong_given m v (given_by v lines) ≡ Some Answer → IsWrongAnswer m v lines f.0 f.1
    is-answer f e p = let w = wrong-answer m v (given_by v lines) p in subst (λ (x : ℕ × AuditWhy). IsWrongAnswer m v lines x.0 x.1) e (0, refl, inr (w.0, w.1, refl))

    is-line : (f : ℕ × AuditWhy) (k : ℕ) → (suc k, Answer) ≡ f → wrong_given m v (given_by v lines) ≡ None → first_wrong lines (answer_to m v (given_by v lines)) ≡ Some k → IsWrongAnswer m v lines f.0 f.1
    is-line f k e p q = subst (λ (x : ℕ × AuditWhy). IsWrongAnswer m v lines x.0 x.1) e (k, refl, inl (may-given m v (given_by v lines) p, differs lines (answer_to m v (given_by v lines)) k q))

    by : (w : Option AuditWhy) (o : Option ℕ) → wrong_given m v (given_by v lines) ≡ w → first_wrong lines (answer_to m v (given_by v lines)) ≡ o → fault_or w (differs_at o) ≡ Some f → IsWrongAnswer m v lines f.0 f.1
    by None None p q e = cc
    by None (Some k) p q e = let x : (suc k, Answer) ≡ f = cc in is-line f k x p q
    by (Some Step) o p q e = let x : (1, Step) ≡ f = cc in is-step f x p
    by (Some Answer) o p q e = let x : (1, Answer) ≡ f = cc in is-answer f x p

-- the steps before some step are a run from m on, and that one is wrong
record StopsFrom (m : Machine) (ts : List Traced) (k line : ℕ) (because : AuditWhy) : Type 0 where
  prefix : List Traced
  wrong : Traced
  rest : List Traced
  are : ts ≡ prefix ++ wrong ∷ rest
  run : AreRunFrom m prefix
  place : ℕ
  is_wrong : IsWrong (after m (steps_of prefix)) wrong place because
  at : line ≡ k + lines_in prefix + place

same-place : (k : ℕ) (f : ℕ × AuditWhy) (line : ℕ) (because : AuditWhy) → Illegal (k + f.0) f.1 ≡ Illegal line because → (line ≡ k + f.0) × (f.1 ≡ because)
same-place k f line because e =
    let a : k + f.0 ≡ line = cc in
    let b : f.1 ≡ because = cc in
    (sym a, b)

illegal-from : (ts : List Traced) (m : Machine) (k v i line : ℕ) (because : AuditWhy) → verdict_from ts m k v i ≡ Illegal line because → StopsFrom m ts k line because
unfolding verdict_from
illegal-from [] m k v i line because h = cc
illegal-from (Made s ∷ ts) m k v i line because h = by (is_enabled m s) refl h (illegal-from ts (effect m s) (k + 1) v (i + 1) line because)
  where
    by : (b : Bool) → is_enabled m s ≡ b → (if b then verdict_from ts (effect m s) (k + 1) v (i + 1) else Illegal k Step) ≡ Illegal line because → (verdict_from ts (effect m s) (k + 1) v (i + 1) ≡ Illegal line because → StopsFrom (effect m s) ts (k + 1) line because) → StopsFrom m (Made s ∷ ts) k line because
    by true e q ih =
        let r = ih q in
        record {
          prefix = Made s ∷ r.prefix;
          wrong = r.wrong;
          rest = r.rest;
          are = ap (λ (xs : List Traced). Made s ∷ xs) r.are;
          run = record { is_run = (e, r.run.is_run); answered = r.run.answered };
          place = r.place;
          is_wrong = r.is_wrong;
          at = omega (arith, r.at);
        }
    by false e q ih =
        let a : k ≡ line = cc in
        let b : Step ≡ because = cc in
        record { prefix = []; wrong = Made s; rest = ts; are = refl; run = record { is_run = tt; answered = tt }; place = 0; is_wrong = (e, sym b, refl); at = omega arith }
illegal-from (Spoken w lines ∷ ts) m k v i line because h = by (fault_of m w lines) refl h (illegal-from ts (machine_after m w (given_by w lines)) (k + 1 + length lines) (v + 1) i line because)
  where
    by : (f : Fault) → fault_of m w lines ≡ f → unless_at k f (verdict_from ts (machine_after m w (given_by w lines)) (k + 1 + length lines) (v + 1) i) ≡ Illegal line because → (verdict_from ts (machine_after m w (given_by w lines)) (k + 1 + length lines) (v + 1) i ≡ Illegal line because → StopsFrom (machine_after m w (given_by w lines)) ts (k + 1 + length lines) line because) → StopsFrom m (Spoken w lines ∷ ts) k line because
    by None e q ih =
        let r = ih q in
        let ok = right m w lines e in
        record {
          prefix = Spoken w lines ∷ r.prefix;
          wrong = r.wrong;
          rest = r.rest;
          are = ap (λ (xs : List Traced). Spoken w lines ∷ xs) r.are;
          run = record { is_run = (may-given m w (given_by w lines) ok.given, r.run.is_run); answered = (none_wrong lines (answer_to m w (given_by w lines)) ok.lines_are, r.run.answered) };
          place = r.place;
          is_wrong = r.is_wrong;
          at = omega (arith, r.at);
        }
    by (Some f) e q ih =
        let p = same-place k f line because q in
        record { prefix = []; wrong = Spoken w lines; rest = ts; are = refl; run = record { is_run = tt; answered = tt }; place = f.0; is_wrong = subst (IsWrongAnswer m w lines f.0) p.1 (fault-is m w lines f e); at = omega (arith, p.0) }

-- ---- the law

pub verdicts-are-right : (ts : List Traced) → IsVerdict ts
unfolding verdict_of
verdicts-are-right ts = record {
  legal = λ verbs inner h.
      let r = legal-from ts empty 1 0 0 verbs inner h in
      let v : verbs ≡ verbs_in ts = omega (arith, r.verbs_are) in
      let i : inner ≡ inner_in ts = omega (arith, r.inner_are) in
      (r.run, v, i);
  all = λ r. all-from ts empty 1 0 0 r ∙ same-legal (0 + verbs_in ts) (verbs_in ts) (0 + inner_in ts) (inner_in ts) (omega arith) (omega arith);
  illegal = λ line because h.
      let s = illegal-from ts empty 1 0 0 line because h in
      record { prefix = s.prefix; wrong = s.wrong; rest = s.rest; are = s.are; run = s.run; place = s.place; is_wrong = s.is_wrong; at = omega (arith, s.at) };
  heard = λ r. record { run = steps_of ts; is_run = r.is_run; heard_all = refl };
}
