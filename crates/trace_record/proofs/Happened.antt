-- What is recorded of an event is what the law names.
use Rattle.std.proofs.Common.{◌≡◌, ◌<◌, ◌+◌, ◌-◌, ◌++◌, ℕ, List, [], ◌∷◌, length, take, get_or, true, false, Bool, refl, sym, ap, ◌∙◌, subst, append_assoc, append-nil}
use Rattle.std.proofs.lemmas.List.{take_more}
use Rattle.std.specs.List.{All}
use Rattle.std.specs.Prelude.{Some, None, if◌then◌else◌, slice_get}
use Rattle.rdma_types.specs.declared.answers.Answer.{Answer}
use Rattle.rdma_types.specs.declared.answers.Answer.TheVariants as answers
use Rattle.rdma_types.specs.declared.answers.ArrivalEffect.{ArrivalEffect}
use Rattle.rdma_types.specs.declared.verbs.Verb.{Verb}
use Rattle.protocol.specs.declared.events.Event.{Event}
use Rattle.protocol.specs.declared.events.Event.TheVariants as events
use Rattle.protocol.specs.declared.events.WorldEvent.{WorldEvent}
use Rattle.protocol.specs.declared.events.WorldEvent.TheVariants as world_events
use Rattle.protocol.specs.Fabric.{is_kept, kept_flight, look}
use Rattle.protocol.specs.State.{World}
use Rattle.protocol.specs.WorldStep.{delivers, delivers_by, now_of, world_step}
use Rattle.protocol.specs.Fabric as fabric
use Rattle.packetless_machine.specs.declared.steps.MachineStep.{MachineStep}
use Rattle.packetless_machine.specs.declared.steps.MachineStep.TheVariants as steps
use Rattle.packetless_machine.specs.Legal.{IsRun, after, effect}
use Rattle.packetless_machine.specs.Machine.{Machine}
use Rattle.law_kept_datagrams.specs.Alike.{AreAlike, StepAlike, with_kept_datagrams}
use Rattle.law_traces.specs.Said.{IsShort}
use Rattle.law_simulation.specs.Kept as kept
use Rattle.law_simulation.specs.Kept.{is_unmade, kept_of, kept_verb}
use Rattle.law_simulation.specs.Named.{delivery_steps, flight_steps, given_in, inner_by, spoken_steps, steps_by}
use Rattle.law_simulation.specs.Stands.{Stands}
use Rattle.law_simulation.proofs.runs.Runs.{after_on}
use Rattle.trace_rules.specs.Recording.{spoken_text}
use Rattle.run_traces.specs.Written.{answer_lines, answer_text, step_text, steps_text, verb_text}
use Rattle.world_core.specs.Followed.{Follows}
use Rattle.trace_record.specs.declared.recorder.arrivals.Arrival.{Arrival}
use Rattle.trace_record.specs.declared.recorder.arrivals.Arrival.TheVariants as arrival
use Rattle.trace_record.specs.Arrivals.{IsArrival, arrival_steps}
use Rattle.trace_record.specs.Events.{IsEventRecorded, IsForeseen, foreseen_steps, taken_steps}

-- ---- what was foreseen is what is named

-- a datagram that was taken is kept
kept_if : (w : World) (k : ℕ) (b : Bool) (t : ArrivalEffect) (first count : ℕ) → (delivers_by w k (fabric.look_at (if b then slice_get w.sent (k - 1) else None) (now_of w (if b then slice_get w.sent (k - 1) else None)))).answer ≡ answers.Took t first count → (if b then slice_get w.sent (k - 1) else None) ≡ slice_get w.sent (k - 1)
kept_if w k true t first count h = refl
kept_if w k false t first count h = absurd (cc)

taken_kept : (w : World) (k : ℕ) (t : ArrivalEffect) (first count : ℕ) → (world_step w (world_events.Deliver k)).answer ≡ answers.Took t first count → kept_flight w.sent k ≡ slice_get w.sent (k - 1)
unfolding world_step delivers look kept_flight
taken_kept w k t first count h = kept_if w k (is_kept (length w.sent) k) t first count h

by_answer : (w : World) (m : Machine) (k : ℕ) (a : Arrival) (x : Answer) → ((t : ArrivalEffect) (first count : ℕ) → x ≡ answers.Took t first count → flight_steps w m (slice_get w.sent (k - 1)) t ≡ arrival_steps m a t) → delivery_steps w m k x ≡ taken_steps m a x
by_answer w m k a (answers.Took t first count) h = h t first count refl
by_answer w m k a other h = refl

delivered : (kept w : World) (m : Machine) (k : ℕ) (a : Arrival) → kept ≡ with_kept_datagrams w → Stands w m → IsArrival kept m k a → delivery_steps w m k (world_step w (world_events.Deliver k)).answer ≡ taken_steps m a (world_step w (world_events.Deliver k)).answer
delivered kept w m k a e s foreseen = by_answer w m k a (world_step w (world_events.Deliver k)).answer (λ t first count h. sym (ap (λ r. flight_steps w m r t) (taken_kept w k t first count h)) ∙ foreseen w t e s)

pub foreseen_named : (kept w : World) (m : Machine) (e : WorldEvent) (a : Arrival) → kept ≡ with_kept_datagrams w → Stands w m → IsForeseen kept m e a → inner_by w m e (world_step w e).answer ≡ foreseen_steps m e a (world_step w e).answer
foreseen_named kept w m (world_events.Deliver k) a left s f = delivered kept w m k a left s f
foreseen_named kept w m (world_events.At event) a left s f = refl
foreseen_named kept w m other a left s f = refl

-- the inner steps are a run, where all are
turn_run : (w : World) (m : Machine) (e : Event) (x : Answer) → IsRun m (steps_by w m (world_events.At e) x) → IsRun m (inner_by w m (world_events.At e) x)
unfolding kept.verb_of kept.kept_verb kept.verb_in
turn_run w m (events.Expire q) x r = r
turn_run w m other x r = tt

pub inner_run : (w : World) (m : Machine) (e : WorldEvent) (x : Answer) → IsRun m (steps_by w m e x) → IsRun m (inner_by w m e x)
unfolding kept.verb_of kept.kept_verb
inner_run w m (world_events.Deliver k) x r = r
inner_run w m (world_events.At event) x r = turn_run w m event x r
inner_run w m other x r = tt

-- ---- the answer

pub answered_whole : (kept w : World) (e : WorldEvent) (x : Answer) → ((v : World) → AreAlike (with_kept_datagrams v) v) → ((a b : World) (f : WorldEvent) → AreAlike a b → StepAlike (world_step a f) (world_step b f)) → kept ≡ with_kept_datagrams w → x ≡ (world_step kept e).answer → x ≡ (world_step w e).answer
answered_whole kept w e x forgets law left is = is ∙ (law kept w e (subst (λ (v : World). AreAlike v w) (sym left) (forgets w))).answer

-- ---- the whole event

pub recorded : (w : World) (m m1 m2 : Machine) (line : List ℕ) (e : WorldEvent) (a : Arrival) (x : Answer) (new : World) (ss : List MachineStep) (old t1 t2 : List ℕ) → x ≡ (world_step w e).answer → Follows w m e x new → inner_by w m e (world_step w e).answer ≡ foreseen_steps m e a (world_step w e).answer →
    ss ≡ foreseen_steps m e a x → m1 ≡ after m (spoken_steps (kept_of w e x)) → t1 ≡ old ++ spoken_text line (kept_of w e x) → m2 ≡ after m1 ss → t2 ≡ t1 ++ steps_text ss → All IsShort ss → IsEventRecorded w m line e new m2 old t2
recorded w m m1 m2 line e a x new ss old t1 t2 is follows named added spoken said made text short =
    let y : Answer = (world_step w e).answer in
    let inner : ss ≡ inner_by w m e y = added ∙ (ap (foreseen_steps m e a) is ∙ sym named) in
    record {
      left = follows.left;
      machine =
          made ∙ (ap (λ z. after z ss) (spoken ∙ ap (λ z. after m (spoken_steps (kept_of w e z))) is)
          ∙ (ap (after (after m (spoken_steps (kept_of w e y)))) inner
          ∙ sym (after_on m (spoken_steps (kept_of w e y)) (inner_by w m e y))));
      stands = subst (λ z. Stands (world_step w e).world (after m (steps_by w m e z))) is follows.reached.stands;
      text =
          text ∙ (ap (λ z. z ++ steps_text ss) (said ∙ ap (λ z. old ++ spoken_text line (kept_of w e z)) is)
          ∙ (append_assoc old (spoken_text line (kept_of w e y)) (steps_text ss)
          ∙ ap (λ z. old ++ (spoken_text line (kept_of w e y) ++ steps_text z)) inner));
      short = subst (All IsShort) inner short;
    }

-- ---- steps, one after another

pub after_one : (m : Machine) (ss : List MachineStep) (s : MachineStep) → after m (ss ++ s ∷ []) ≡ effect (after m ss) s
after_one m ss s = after_on m ss (s ∷ [])

pub text_one : (ss : List MachineStep) (s : MachineStep) → steps_text (ss ++ s ∷ []) ≡ steps_text ss ++ step_text s
unfolding steps_text
text_one [] s = append-nil (step_text s)
text_one (x ∷ xs) s = ap (λ z. step_text x ++ z) (text_one xs s) ∙ sym (append_assoc (step_text x) (steps_text xs) (step_text s))

-- one more step is made and written
pub made_more : (m now next : Machine) (ss : List MachineStep) (i : ℕ) (s : MachineStep) → i < length ss → s ≡ get_or ss i s → now ≡ after m (take i ss) → next ≡ effect now s → next ≡ after m (take (i + 1) ss)
made_more m now next ss i s lt is made e =
    e ∙ (ap (λ z. effect z s) made ∙ (sym (after_one m (take i ss) s) ∙ ap (after m) (sym (take_more ss i s lt ∙ ap (λ x. take i ss ++ x ∷ []) (sym is)))))

pub text_more : (old now next : List ℕ) (ss : List MachineStep) (i : ℕ) (s : MachineStep) → i < length ss → s ≡ get_or ss i s → now ≡ old ++ steps_text (take i ss) → next ≡ now ++ step_text s → next ≡ old ++ steps_text (take (i + 1) ss)
text_more old now next ss i s lt is text e =
    e ∙ (ap (λ z. z ++ step_text s) text
    ∙ (append_assoc old (steps_text (take i ss)) (step_text s)
    ∙ ap (λ z. old ++ z) (sym (text_one (take i ss) s) ∙ ap steps_text (sym (take_more ss i s lt ∙ ap (λ x. take i ss ++ x ∷ []) (sym is))))))

-- none is
pub text_none : (old : List ℕ) (ss : List MachineStep) → old ≡ old ++ steps_text (take 0 ss)
unfolding steps_text
text_none old ss = sym (append-nil old)

-- ---- a verb that counts as made, or not

pub none_kept : (m : Machine) (line old : List ℕ) (x : Answer) → (m ≡ after m (spoken_steps (kept_verb None x))) × (old ≡ old ++ spoken_text line (kept_verb None x))
unfolding kept_verb
none_kept m line old x = (refl, sym (append-nil old))

pub unmade_kept : (m : Machine) (line old : List ℕ) (v : Verb) (x : Answer) → is_unmade x ≡ true → (m ≡ after m (spoken_steps (kept_verb (Some v) x))) × (old ≡ old ++ spoken_text line (kept_verb (Some v) x))
unfolding kept_verb
unmade_kept m line old v x h = (
  ap (λ b. after m (spoken_steps (if b then [] else (v, x) ∷ []))) (sym h),
  sym (append-nil old) ∙ ap (λ b. old ++ spoken_text line (if b then [] else (v, x) ∷ [])) (sym h),
)

pub made_kept : (m next : Machine) (v : Verb) (x : Answer) → is_unmade x ≡ false → next ≡ effect m (steps.Verb v (given_in x)) → next ≡ after m (spoken_steps (kept_verb (Some v) x))
unfolding kept_verb
made_kept m next v x h e = e ∙ ap (λ b. after m (spoken_steps (if b then [] else (v, x) ∷ []))) (sym h)

pub said_kept : (line old new : List ℕ) (v : Verb) (x : Answer) → is_unmade x ≡ false → new ≡ old ++ (verb_text line v ++ answer_text (answer_lines x)) → new ≡ old ++ spoken_text line (kept_verb (Some v) x)
unfolding kept_verb
said_kept line old new v x h e =
    e ∙ (ap (λ z. old ++ (verb_text line v ++ z)) (sym (append-nil (answer_text (answer_lines x)))) ∙ ap (λ b. old ++ spoken_text line (if b then [] else (v, x) ∷ [])) (sym h))

-- ---- what is neither a delivery nor an event of a device

pub foreseen_else : (kept : World) (m : Machine) (e : WorldEvent) → ((k : ℕ) → e ≡ world_events.Deliver k → ⊥) → IsForeseen kept m e arrival.Nothing
foreseen_else kept m (world_events.Deliver k) other = absurd (other k refl)
foreseen_else kept m e other = tt

pub no_more : (m : Machine) (e : WorldEvent) (a : Arrival) (x : Answer) → ((k : ℕ) → e ≡ world_events.Deliver k → ⊥) → ((f : Event) → e ≡ world_events.At f → ⊥) → foreseen_steps m e a x ≡ []
no_more m (world_events.Deliver k) a x deliver at = absurd (deliver k refl)
no_more m (world_events.At event) a x deliver at = absurd (at event refl)
no_more m e a x deliver at = refl

pub not_taken : (m : Machine) (a : Arrival) (x : Answer) → ((t : ArrivalEffect) (first count : ℕ) → x ≡ answers.Took t first count → ⊥) → taken_steps m a x ≡ []
not_taken m a (answers.Took t first count) other = absurd (other t first count refl)
not_taken m a x other = refl
