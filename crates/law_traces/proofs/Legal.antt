-- The recorded steps are a run of the machine with the recorded answers.
use Rattle.std.proofs.Common.{◌≡◌, ℕ, ◌+◌, List, [], ◌∷◌, ◌++◌, true, refl, sym, ap, ◌∙◌, subst, map}
use Rattle.std.specs.Prelude.{All, Option, Some, None}
use Rattle.std.proofs.lemmas.List.Elements.{All-cons, All-head, All-nil, All-tail}
use Rattle.rdma_types.specs.declared.answers.Answer.{Answer}
use Rattle.rdma_types.specs.declared.answers.Answer.TheVariants as answers
use Rattle.rdma_types.specs.declared.answers.Refusal.{Refusal}
use Rattle.rdma_types.specs.declared.requests.Keys.{Keys}
use Rattle.rdma_types.specs.declared.verbs.Verb.{Verb}
use Rattle.rdma_types.specs.declared.verbs.Verb.TheVariants as verbs
use Rattle.protocol.specs.Script.{Happening, Event, Dump, Settles, happens}
use Rattle.protocol.specs.State.{World, empty_world}
use Rattle.protocol.specs.WorldStep.{world_step}
use Rattle.packetless_machine.specs.declared.steps.MachineStep.{MachineStep}
use Rattle.packetless_machine.specs.Legal.{IsRun, after, effect, seen}
use Rattle.packetless_machine.specs.Machine.{Machine, empty}
use Rattle.packetless_machine.specs.Verbs.{after_answer, after_verb, answered, may_answer, refusal_of, verb_answer}
use Rattle.script_lang.specs.Printed.{IsWhole, printed}
use Rattle.law_simulation.specs.Kept.{kept_of}
use Rattle.law_simulation.specs.Named as named
use Rattle.law_simulation.specs.Named.{inner_steps, spoken_steps}
use Rattle.law_simulation.specs.Stands.{Stands}
use Rattle.law_headline.specs.Does.{IsWithin, IsWithinOf, happening_of}
use Rattle.law_headline.specs.Follows.{FollowsAll, FollowsLine}
use Rattle.run_traces.specs.Answers.{first_answer, given_by, given_or_none, key_in, number_in}
use Rattle.run_traces.specs.Traces.{Traced, Spoken, Made}
use Rattle.run_traces.specs.Verdicts.{AreRunFrom, VerdictsAreRight, steps_of}
use Rattle.run_traces.specs.Written.{answer_lines}
use Rattle.trace_rules.specs.Recording.{Written, line_steps, machine_past, spoken_of, traced_from, traced_of, world_past}
use Rattle.law_traces.specs.Records.{RecordsAreLegal}
use Rattle.law_traces.proofs.GivenKeys.{AreSayable, Gives, IsSayable, kept_sayable}
use Rattle.law_traces.proofs.PrintedAgain.{ReadBack, lines_again, qp_again, region_again}
use Rattle.law_traces.proofs.RecordedLines.{AreWithin, IsPlayed, IsUnsettled, all_played}

-- what the laws say, of which all else follows
pub record AreLaws : Type 0 where
  pub range : AreWithin
  pub follows : (w : World) (m : Machine) (hs : List Happening) → All IsWithin hs → Stands w m → FollowsAll w m hs
  pub start : Stands empty_world empty
  pub back : ReadBack
  pub wholes : (a : Answer) → IsWhole (printed a)
  pub audits : VerdictsAreRight

-- ---- one verb

-- with another key or number the machine may answer so too, and goes to the same state
record IsSame (o : Option Refusal) (m : Machine) (v : Verb) (given again : ℕ) (a : Answer) : Type 0 where
  may : may_answer o m v again ≡ true
  answer : answered o m v again ≡ a
  machine : after_answer o m v again ≡ after_answer o m v given

-- a region's answer says the key that was given
key_again : ReadBack → (given : ℕ) (a : Answer) → answers.Region (record { local = given; remote = given + 1 }) ≡ a → IsSayable a → given_or_none (key_in (first_answer (answer_lines a))) ≡ given
key_again back given a is sayable =
    let keys : Keys = record { local = given; remote = given + 1 } in
    let bits : IsSayable (answers.Region keys) = subst IsSayable (sym is) sayable in
    ap (λ x. given_or_none (key_in (first_answer (answer_lines x)))) (sym is) ∙ ap (λ z. given_or_none (key_in z)) (region_again back keys bits.0 bits.1)

-- .. and a queue pair's answer its number
number_again : ReadBack → (given : ℕ) (a : Answer) → answers.Qp given ≡ a → IsSayable a → given_or_none (number_in (first_answer (answer_lines a))) ≡ given
number_again back given a is sayable =
    let bits : IsSayable (answers.Qp given) = subst IsSayable (sym is) sayable in
    ap (λ x. given_or_none (number_in (first_answer (answer_lines x)))) (sym is) ∙ ap (λ z. given_or_none (number_in z)) (qp_again back given bits)

-- what the lines of the answer give does the same
same : ReadBack → (o : Option Refusal) (m : Machine) (v : Verb) (given : ℕ) (a : Answer) → Gives v a → may_answer o m v given ≡ true → answered o m v given ≡ a → IsSame o m v given (given_or_none (given_by v (answer_lines a))) a
same back (Some r) m v given a gives may is = record { may = refl; answer = is; machine = refl }
same back None m (verbs.MakeRegion name domain base count rights) given a gives may is =
    subst (λ (k : ℕ). IsSame None m (verbs.MakeRegion name domain base count rights) given k a) (sym (key_again back given a is gives)) (record { may = may; answer = is; machine = refl })
same back None m (verbs.MakeQp name domain send_cq recv_cq send_depth recv_depth) given a gives may is =
    subst (λ (k : ℕ). IsSame None m (verbs.MakeQp name domain send_cq recv_cq send_depth recv_depth) given k a) (sym (number_again back given a is gives)) (record { may = may; answer = is; machine = refl })
same back None m v given a gives may is = record { may = refl; answer = is; machine = refl }

-- ---- the steps of a line

-- the traced steps are a run with these answers, and lead to that state
record IsTraced (m m' : Machine) (ts : List Traced) : Type 0 where
  run : AreRunFrom m ts
  leads : after m (steps_of ts) ≡ m'

inner_traced : (m : Machine) (ss : List MachineStep) → IsRun m ss → IsTraced m (after m ss) (map Made ss)
inner_traced m [] h = record { run = record { is_run = tt; answered = tt }; leads = refl }
inner_traced m (s ∷ ss) h =
    let rest = inner_traced (effect m s) ss h.1 in
    record { run = record { is_run = (h.0, rest.run.is_run); answered = rest.run.answered }; leads = rest.leads }

-- verbs with their answers, and inner steps
line_traced : ReadBack → ((a : Answer) → IsWhole (printed a)) → (m : Machine) (xs : List (Verb × Answer)) (ss : List MachineStep) → AreSayable xs → IsRun m (spoken_steps xs ++ ss) → seen m (spoken_steps xs ++ ss) ≡ xs →
    IsTraced m (after m (spoken_steps xs ++ ss)) (spoken_of xs ++ map Made ss)
line_traced back wholes m [] ss gives run heard = inner_traced m ss run
line_traced back wholes m (x ∷ xs) ss gives run heard =
    let given : ℕ = named.given_in x.1 in
    let again : ℕ = given_or_none (given_by x.0 (answer_lines x.1)) in
    let next : Machine = after_verb m x.0 given in
    let pair : (x.0, verb_answer m x.0 given) ≡ x = cc heard in
    let later : seen next (spoken_steps xs ++ ss) ≡ xs = cc heard in
    let first : IsSame (refusal_of m x.0) m x.0 given again x.1 = same back (refusal_of m x.0) m x.0 given x.1 gives.0 run.0 (ap (λ (p : Verb × Answer). p.1) pair) in
    let rest : IsTraced (after_verb m x.0 again) (after next (spoken_steps xs ++ ss)) (spoken_of xs ++ map Made ss) =
    subst (λ (k : Machine). IsTraced k (after next (spoken_steps xs ++ ss)) (spoken_of xs ++ map Made ss)) (sym first.machine) (line_traced back wholes next xs ss gives.1 run.1 later) in
    record {
      run = record { is_run = (first.may, rest.run.is_run); answered = (ap printed first.answer ∙ lines_again wholes x.1, rest.run.answered) };
      leads = rest.leads;
    }

-- ---- all lines

-- more steps from the state that some lead to
both_traced : (m m' : Machine) (ts us : List Traced) → IsTraced m m' ts → AreRunFrom m' us → AreRunFrom m (ts ++ us)
both_traced m m' [] us t u = subst (λ (k : Machine). AreRunFrom k us) (sym t.leads) u
both_traced m m' (Made s ∷ ts) us t u =
    let rest = both_traced (effect m s) m' ts us (record { run = record { is_run = t.run.is_run.1; answered = t.run.answered }; leads = t.leads }) u in
    record { is_run = (t.run.is_run.0, rest.is_run); answered = rest.answered }
both_traced m m' (Spoken v lines ∷ ts) us t u =
    let rest = both_traced (after_verb m v (given_or_none (given_by v lines))) m' ts us (record { run = record { is_run = t.run.is_run.1; answered = t.run.answered.1 }; leads = t.leads }) u in
    record { is_run = (t.run.is_run.0, rest.is_run); answered = (t.run.answered.0, rest.answered) }

-- a line that does something is followed
followed : AreLaws → (w : World) (m : Machine) (h : Happening) → IsWithin h → Stands w m → FollowsLine w m h
followed laws w m h within s = (laws.follows w m (h ∷ []) (All-cons IsWithin h [] within (All-nil IsWithin)) s).0

-- one line before others that are traced from wherever they start
line_first : AreLaws → (w : World) (m : Machine) (ls : List Written) → Stands w m → ((w' : World) (m' : Machine) → Stands w' m' → AreRunFrom m' (traced_from w' m' ls)) →
    (o : Option Happening) → IsWithinOf o → IsUnsettled o → AreRunFrom m (line_steps w m o ++ traced_from (world_past w o) (machine_past w m o) ls)
line_first laws w m ls s rest None within unsettled = rest w m s
line_first laws w m ls s rest (Some (Event e)) within unsettled =
    let f : FollowsLine w m (Event e) = followed laws w m (Event e) within s in
    both_traced m (machine_past w m (Some (Event e))) (line_steps w m (Some (Event e))) _
    (line_traced laws.back laws.wholes m (kept_of w e (world_step w e).answer) (inner_steps w m e) (kept_sayable w m s e) f.is_run f.heard)
    (rest (happens w (Event e)).world (machine_past w m (Some (Event e))) f.stands)
line_first laws w m ls s rest (Some (Dump name)) within unsettled =
    let f : FollowsLine w m (Dump name) = followed laws w m (Dump name) within s in
    rest (happens w (Dump name)).world m f.stands
line_first laws w m ls s rest (Some Settles) within unsettled = absurd unsettled

all_traced : AreLaws → (w : World) (m : Machine) (ls : List Written) → Stands w m → All IsPlayed ls → AreRunFrom m (traced_from w m ls)
unfolding traced_from
all_traced laws w m [] s played = record { is_run = tt; answered = tt }
all_traced laws w m (l ∷ ls) s played =
    let here : IsPlayed l = All-head IsPlayed l ls played in
    line_first laws w m ls s (λ w' m' s'. all_traced laws w' m' ls s' (All-tail IsPlayed l ls played)) (happening_of l.1) here.within here.unsettled

pub all_legal : AreLaws → RecordsAreLegal
all_legal laws script ls h = (laws.audits (traced_of ls)).all (all_traced laws empty_world empty ls laws.start (all_played laws.range script ls h))
