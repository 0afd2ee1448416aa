-- What the machine answers to a verb of a trace, as the code asks it.
use Rattle.std.proofs.Common.{◌≡◌, ℕ, ◌+◌, ◌-◌, ◌<◌, ◌≤◌, Bool, true, false, List, [], ◌∷◌, ◌++◌, length, take, drop, Option, Some, None, unwrap_or, if◌then◌else◌, refl, sym, ap, ◌∙◌, subst, arith, length-drop}
use Rattle.std.specs.Str.{bytes_eq}
use Rattle.std.proofs.lemmas.List.{drop-drop}
use Rattle.rdma_types.specs.declared.answers.Answer.{Answer as Told}
use Rattle.rdma_types.specs.declared.answers.Refusal.{Refusal}
use Rattle.rdma_types.specs.declared.verbs.Verb.{Verb}
use Rattle.rdma_types.specs.declared.verbs.Verb.TheVariants as verbs
use Rattle.packetless_machine.specs.Machine.{Machine}
use Rattle.packetless_machine.specs.Verbs.{after_verb, answered as answer_by, granted_answer, may_answer, may_verb, refusal_of, verb_answer}
use Rattle.script_lang.specs.Printed.{printed}
use Rattle.run_traces.specs.declared.trace_audit.verdicts.AuditWhy.{AuditWhy}
use Rattle.run_traces.specs.declared.trace_audit.verdicts.AuditWhy.TheVariants.{Step, Answer}
use Rattle.run_traces.specs.Answers.{given_in}
use Rattle.run_traces.specs.Auditing.{Course, Goes, Fails, Run, asked, first_heard, heard, heard_unless, is_refusal, is_said, not_given, passed}
use Rattle.run_traces.specs.Verdicts.{behind, wrong_given, wrong_unless_refused}
use Rattle.run_traces.proofs.Heard.{fails, passes, too_short}

-- ---- the next line of an answer

pub hear-short : (r : Run) (items : List ℕ) (at : ℕ) (text : List ℕ) → r.rest ≡ drop at items → length items < at + length text + 1 → (k : ℕ) → Fails k Answer ≡ heard r k text
hear-short r items at text e h k =
    let n : length (drop at items) < length text + 1 = omega (arith, length-drop at items) in
    sym (ap (passed r k) (ap (behind text) e ∙ too_short text (drop at items) n))

shift : (at n : ℕ) → at + n + 1 - at ≡ n + 1
shift at n = omega arith

pub hear-other : (r : Run) (items : List ℕ) (at : ℕ) (text : List ℕ) (b : Bool) → r.rest ≡ drop at items → b ≡ bytes_eq (take (at + length text + 1 - at) (drop at items)) (text ++ 10 ∷ []) → b ≡ false → (k : ℕ) → Fails k Answer ≡ heard r k text
hear-other r items at text b e is isnt k =
    let here : false ≡ bytes_eq (take (length text + 1) (drop at items)) (text ++ 10 ∷ []) = sym isnt ∙ is ∙ ap (λ (n : ℕ). bytes_eq (take n (drop at items)) (text ++ 10 ∷ [])) (shift at (length text)) in
    sym (ap (passed r k) (ap (behind text) e ∙ fails text (drop at items) here))

pub hear-passed : (r : Run) (items : List ℕ) (at : ℕ) (text : List ℕ) (b : Bool) → r.rest ≡ drop at items → b ≡ bytes_eq (take (at + length text + 1 - at) (drop at items)) (text ++ 10 ∷ []) → b ≡ true → (k : ℕ) → Goes (record r { rest = drop (at + length text + 1) items }) ≡ heard r k text
hear-passed r items at text b e is holds k =
    let here : true ≡ bytes_eq (take (length text + 1) (drop at items)) (text ++ 10 ∷ []) = sym holds ∙ is ∙ ap (λ (n : ℕ). bytes_eq (take n (drop at items)) (text ++ 10 ∷ [])) (shift at (length text)) in
    let far : at + (length text + 1) ≡ at + length text + 1 = omega arith in
    let rest : drop (length text + 1) (drop at items) ≡ drop (at + length text + 1) items = drop-drop (length text + 1) at items ∙ ap (λ (n : ℕ). drop n items) far in
    sym (ap (passed r k) (ap (behind text) e ∙ passes text (drop at items) here ∙ ap Some rest))

-- ---- the first one

refused_never : (m : Machine) (v : Verb) (given : ℕ) → is_refusal (granted_answer m v given) ≡ false
refused_never m (verbs.Context name made) given = refl
refused_never m (verbs.Connect one two terms) given = refl
refused_never m (verbs.MakeDomain name) given = refl
refused_never m (verbs.MakeRegion name domain base count rights) given = refl
refused_never m (verbs.MakeCq name capacity) given = refl
refused_never m (verbs.MakeQp name domain send_cq recv_cq send_depth recv_depth) given = refl
refused_never m (verbs.DropRegion name) given = refl
refused_never m (verbs.Store region address bytes) given = refl
refused_never m (verbs.Load region address count) given = refl
refused_never m (verbs.PostSend o r) given = refl
refused_never m (verbs.PostRecv o v) given = refl
refused_never m (verbs.Poll cq max) given = refl

-- what the machine may not give is wrong
wrong-not_given : (m : Machine) (v : Verb) (given : Option ℕ) → may_verb m v (unwrap_or given 0) ≡ false → wrong_given m v given ≡ Some (not_given given)
unfolding wrong_given
wrong-not_given m v given h = by (refusal_of m v) given h h
  where
    by : (o : Option Refusal) (g : Option ℕ) → may_answer o m v (unwrap_or g 0) ≡ false → may_verb m v (unwrap_or g 0) ≡ false → wrong_unless_refused o m v g ≡ Some (not_given g)
    by (Some r) g a b = cc
    by None None a b = refl
    by None (Some g) a b = rw b refl

-- a key or number that is not said is wrong
wrong-unsaid : (m : Machine) (v : Verb) → is_refusal (verb_answer m v 0) ≡ false → wrong_given m v None ≡ Some Answer
unfolding wrong_given
wrong-unsaid m v h = by (refusal_of m v) h
  where
    by : (o : Option Refusal) → is_refusal (answer_by o m v 0) ≡ false → wrong_unless_refused o m v None ≡ Some Answer
    by (Some r) a = cc
    by None a = refl

-- anything else is right
pub wrong-none : (m : Machine) (v : Verb) (given : Option ℕ) → may_verb m v (unwrap_or given 0) ≡ true → is_said given (verb_answer m v (unwrap_or given 0)) ≡ true → wrong_given m v given ≡ None
unfolding wrong_given
wrong-none m v given h s = by (refusal_of m v) given h s
  where
    by : (o : Option Refusal) (g : Option ℕ) → may_verb m v (unwrap_or g 0) ≡ true → is_said g (answer_by o m v (unwrap_or g 0)) ≡ true → wrong_unless_refused o m v g ≡ None
    by (Some r) g a b = refl
    by None (Some g) a b = rw a refl
    by None None a b = let never = refused_never m v 0 in cc

pub hear-not : (r : Run) (v : Verb) (text : List ℕ) (said : Told) (given : Option ℕ) (n : ℕ) (w : AuditWhy) → given ≡ given_in v (Some said) → n ≡ unwrap_or given 0 → w ≡ not_given given → may_verb r.machine v n ≡ false → (k : ℕ) → Fails k w ≡ first_heard r v k text (Some said)
hear-not r v text said given n w g u is isnt k =
    let may : may_verb r.machine v (unwrap_or given 0) ≡ false = ap (may_verb r.machine v) (sym u) ∙ isnt in
    let wrong : wrong_given r.machine v (given_in v (Some said)) ≡ Some (not_given given) = ap (wrong_given r.machine v) (sym g) ∙ wrong-not_given r.machine v given may in
    rw (wrong, is) refl

pub hear-unsaid : (r : Run) (v : Verb) (text : List ℕ) (said : Told) (given : Option ℕ) (n : ℕ) (a : Told) (b : Bool) → given ≡ given_in v (Some said) → n ≡ unwrap_or given 0 → a ≡ verb_answer r.machine v n → b ≡ is_said given a → b ≡ false → (k : ℕ) → Fails k Answer ≡ first_heard r v k text (Some said)
hear-unsaid r v text said (Some given) n a b g u e s isnt k = cc
hear-unsaid r v text said None n a b g u e s isnt k =
    let unsaid : is_refusal (verb_answer r.machine v 0) ≡ false = ap is_refusal (ap (verb_answer r.machine v) (sym u) ∙ sym e) ∙ sym s ∙ isnt in
    let wrong : wrong_given r.machine v (given_in v (Some said)) ≡ Some Answer = ap (wrong_given r.machine v) (sym g) ∙ wrong-unsaid r.machine v unsaid in
    rw wrong refl

same-run : (r : Run) (m m' : Machine) (t t' : List ℕ) → m ≡ m' → t ≡ t' → record r { machine = m; rest = t } ≡ record r { machine = m'; rest = t' }
same-run r m m' t t' e h = rw (e, h) refl

pub hear-asked : (r : Run) (v : Verb) (text : List ℕ) (said : Told) (given : Option ℕ) (n : ℕ) (a : Told) (b : Bool) (m : Machine) (cleared items : List ℕ) → given ≡ given_in v (Some said) → n ≡ unwrap_or given 0 → a ≡ verb_answer r.machine v n → b ≡ is_said given a → b ≡ true → may_verb r.machine v n ≡ true → m ≡ after_verb r.machine v n → cleared ≡ [] → items ≡ cleared ++ printed a → (k : ℕ) (c : Course) → c ≡ heard (record r { machine = m; rest = drop 0 items }) k text → c ≡ first_heard r v k text (Some said)
hear-asked r v text said given n a b m cleared items g u e s holds may next none put k c h =
    let answer : a ≡ verb_answer r.machine v (unwrap_or given 0) = e ∙ ap (verb_answer r.machine v) u in
    let fits : wrong_given r.machine v given ≡ None = wrong-none r.machine v given (ap (may_verb r.machine v) (sym u) ∙ may) (ap (is_said given) (sym answer) ∙ sym s ∙ holds) in
    let right : wrong_given r.machine v (given_in v (Some said)) ≡ None = ap (wrong_given r.machine v) (sym g) ∙ fits in
    let text_is : items ≡ printed (verb_answer r.machine v (unwrap_or given 0)) = put ∙ ap (λ (xs : List ℕ). xs ++ printed a) none ∙ ap printed answer in
    let run : record r { machine = m; rest = items } ≡ asked r v given = same-run r m (after_verb r.machine v (unwrap_or given 0)) items (printed (verb_answer r.machine v (unwrap_or given 0))) (next ∙ ap (after_verb r.machine v) u) text_is in
    h ∙ ap (λ (x : Run). heard x k text) (run ∙ ap (asked r v) g) ∙ sym (ap (λ w. heard_unless w k (heard (asked r v (given_in v (Some said))) k text)) right)
