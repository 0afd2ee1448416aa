-- Where a part of a settling runs out of memory: the first of its events were made, and the rest were not.
use Rattle.std.proofs.Common.{arith, ◌≡◌, ◌<◌, ◌+◌, ℕ, zero, suc, List, [], ◌∷◌, ◌++◌, length, take, get_or, Bool, true, false, refl, sym, ap, ◌∙◌, subst, Result, Ok, Err}
use Rattle.std.specs.Prelude.{OnErr, if◌then◌else◌}
use Rattle.std.specs.declared.alloc.AllocError.{AllocError}
use Rattle.std.proofs.lemmas.List.{append-nil, append_assoc}
use Rattle.rdma_types.specs.declared.names.ObjName.{ObjName}
use Rattle.protocol.specs.declared.events.WorldEvent.{WorldEvent}
use Rattle.protocol.specs.declared.events.WorldEvent.TheVariants as world_event
use Rattle.protocol.specs.State.{World}
use Rattle.protocol.specs.WorldStep.{world_after, world_step}
use Rattle.protocol.specs.Settle.{Settling, drained, is_sent, pass, settle_step, stepped_to, transmit, visiting}
use Rattle.law_kept_datagrams.specs.Alike.{with_kept_datagrams}
use Rattle.law_settling.specs.Events.{drain_events, pass_events, send_events, sending_events, visiting_events}
use Rattle.law_settling.proofs.steps.Events.{delivering_lead}
use Rattle.world_core.specs.Lives.{is_pending}
use Rattle.world_core.specs.Settled.{IsCut}
use Rattle.settle_core.specs.Shown.{Cuts}
use Rattle.settle_core.specs.Steps.{deliver_events, delivered_at, once_events, sweep_events, sweeping}
use Rattle.settle_core.specs.declared.notes.Notes.{Notes}
use Rattle.settle_core.proofs.Worlds.{after_append, alike_kept_datagrams, steps_shown}
use Rattle.settle_core.proofs.Visits.{pending_shown}

pub on_err_map : {T P Q : Type 0} (r : Result T AllocError) → (P → Q) → OnErr r P → OnErr r Q
on_err_map (Ok x) f h = tt
on_err_map (Err e) f h = f h

-- ---- events that are cut

-- none of them was made
pub cut_none : (v new : World) (es : List WorldEvent) → new ≡ with_kept_datagrams v → IsCut v es new
unfolding world_after
cut_none v new es h = record { made = []; rest = es; are = refl; world = h }

-- all of them were
pub cut_all : (v new : World) (es : List WorldEvent) → new ≡ with_kept_datagrams (world_after v es) → IsCut v es new
cut_all v new es h = record { made = es; rest = []; are = sym (append-nil es); world = h }

-- .. some of the first
pub cut_first : (v new : World) (es more : List WorldEvent) → IsCut v es new → IsCut v (es ++ more) new
cut_first v new es more c = record { made = c.made; rest = c.rest ++ more; are = ap (λ z. z ++ more) c.are ∙ append_assoc c.made c.rest more; world = c.world }

-- .. or all of the first, and some of the second
pub cut_after : (v u new : World) (es more : List WorldEvent) → world_after v es ≡ u → IsCut u more new → IsCut v (es ++ more) new
cut_after v u new es more h c = record {
  made = es ++ c.made;
  rest = c.rest;
  are = ap (λ z. es ++ z) c.are ∙ sym (append_assoc es c.made c.rest);
  world = c.world ∙ ap with_kept_datagrams (sym (after_append es c.made v ∙ ap (λ (x : World). world_after x c.made) h));
}

pub cut_as : (v new : World) (es fs : List WorldEvent) → es ≡ fs → IsCut v es new → IsCut v fs new
cut_as v new es fs h c = subst (λ z. IsCut v z new) h c

-- ---- one event

pub none_cuts : (w new : World) (n : Notes) (events : Settling → List WorldEvent) → new ≡ w → Cuts events w n new
none_cuts w new n events h s shows = cut_none s.world new (events s) (h ∙ shows.world)

pub step_cuts : (w new : World) (n : Notes) (e : WorldEvent) → new ≡ with_kept_datagrams (world_step w e).world → Cuts (λ s. e ∷ []) w n new
unfolding world_after
step_cuts w new n e h s shows = cut_all s.world new (e ∷ []) (h ∙ alike_kept_datagrams (world_step w e).world (world_step s.world e).world (steps_shown w s.world e shows.world).world)

pub one_led : (s : Settling) (e : WorldEvent) → world_after s.world (e ∷ []) ≡ (settle_step s e).world
unfolding world_after settle_step stepped_to
one_led s e = refl

-- ---- draining

pick : {A : Type 0} (b : Bool) (x y : A) → b ≡ true → (if b then x else y) ≡ x
pick true x y h = refl
pick false x y h = absurd (cc)

pub deliver_cuts : (w new : World) (n : Notes) (k : ℕ) → is_pending w.sent k ≡ true → Cuts (λ s. world_event.Deliver k ∷ []) w n new → Cuts (λ s. deliver_events s k) w n new
unfolding deliver_events
deliver_cuts w new n k h c s shows =
    cut_as s.world new (world_event.Deliver k ∷ []) _ (sym (pick (is_pending s.world.sent k) (world_event.Deliver k ∷ []) [] (sym (pending_shown w n s k shows) ∙ h))) (c s shows)

deliver_led : (s : Settling) (k : ℕ) → world_after s.world (deliver_events s k) ≡ (delivered_at s k).world
unfolding deliver_events delivered_at world_after
deliver_led s k = by (is_pending s.world.sent k)
  where
    by : (b : Bool) → world_after s.world (if b then world_event.Deliver k ∷ [] else []) ≡ (if b then settle_step s (world_event.Deliver k) else s).world
    by true = one_led s (world_event.Deliver k)
    by false = refl

pub sweep_cut : (i : ℕ) (s : Settling) (k n : ℕ) (new : World) → i < n → IsCut (sweeping s k i).world (deliver_events (sweeping s k i) (k + i)) new → IsCut s.world (sweep_events s k n) new
unfolding sweeping sweep_events
sweep_cut i s k zero new h c = absurd (omega (arith, h))
sweep_cut zero s k (suc n) new h c =
    let here : k + 0 ≡ k = omega arith in
    cut_first s.world new (deliver_events s k) (sweep_events (delivered_at s k) (k + 1) n) (subst (λ j. IsCut s.world (deliver_events s j) new) here c)
sweep_cut (suc i) s k (suc n) new h c =
    let there : k + suc i ≡ k + 1 + i = omega arith in
    cut_after s.world (delivered_at s k).world new (deliver_events s k) (sweep_events (delivered_at s k) (k + 1) n) (deliver_led s k)
    (sweep_cut i (delivered_at s k) (k + 1) n new (omega (arith, h)) (subst (λ j. IsCut (sweeping (delivered_at s k) (k + 1) i).world (deliver_events (sweeping (delivered_at s k) (k + 1) i) j) new) there c))

pass_led : (s : Settling) → world_after s.world (pass_events s) ≡ (pass s).world
pass_led s = (delivering_lead _ s).after

pub drain_first : (s : Settling) (new : World) → IsCut s.world (pass_events s) new → IsCut s.world (drain_events s) new
unfolding drain_events
drain_first s new c = cut_first s.world new (pass_events s) (pass_events (pass s) ++ pass_events (pass (pass s))) c

pub drain_second : (s : Settling) (new : World) → IsCut (pass s).world (pass_events (pass s)) new → IsCut s.world (drain_events s) new
unfolding drain_events
drain_second s new c =
    cut_after s.world (pass s).world new (pass_events s) (pass_events (pass s) ++ pass_events (pass (pass s))) (pass_led s)
    (cut_first (pass s).world new (pass_events (pass s)) (pass_events (pass (pass s))) c)

pub drain_third : (s : Settling) (new : World) → IsCut (pass (pass s)).world (pass_events (pass (pass s))) new → IsCut s.world (drain_events s) new
unfolding drain_events
drain_third s new c =
    cut_after s.world (pass s).world new (pass_events s) (pass_events (pass s) ++ pass_events (pass (pass s))) (pass_led s)
    (cut_after (pass s).world (pass (pass s)).world new (pass_events (pass s)) (pass_events (pass (pass s))) (pass_led (pass s)) c)

-- ---- sending

-- an end transmitted, and what it sent is drained
pub sent_cut : (s : Settling) (o : ObjName) (new : World) → IsCut (settle_step s (transmit o)).world (drain_events (settle_step s (transmit o))) new → IsCut s.world (send_events s o) new
sent_cut s o new c = cut_after s.world (settle_step s (transmit o)).world new (transmit o ∷ []) (drain_events (settle_step s (transmit o))) (one_led s (transmit o)) c

pub once_cut : (s : Settling) (o : ObjName) (new : World) → is_sent (world_step s.world (transmit o)).answer ≡ true → IsCut s.world (send_events s o) new → IsCut s.world (once_events s o) new
unfolding once_events
once_cut s o new h c = cut_as s.world new (send_events s o) _ (sym (pick (is_sent (world_step s.world (transmit o)).answer) (send_events s o) [] h)) c

pub next_cut : (fuel : ℕ) (s : Settling) (o : ObjName) (new : World) → IsCut s.world (once_events s o) new → IsCut s.world (sending_events (suc fuel) s o) new
unfolding once_events sending_events
next_cut fuel s o new c = by (is_sent (world_step s.world (transmit o)).answer) c
  where
    by : (b : Bool) → IsCut s.world (if b then send_events s o else []) new → IsCut s.world (elim b as (λ z. List WorldEvent) [ true ↦ send_events s o ++ sending_events fuel (drained (settle_step s (transmit o))) o | false ↦ [] ]) new
    by true d = cut_first s.world new (send_events s o) (sending_events fuel (drained (settle_step s (transmit o))) o) d
    by false d = d

-- ---- each end in order

pub visits_cut : (visit : Settling → ObjName → Settling) (events : Settling → ObjName → List WorldEvent) → ((s : Settling) (o : ObjName) → world_after s.world (events s o) ≡ (visit s o).world) →
    (os : List ObjName) (i : ℕ) (s : Settling) (o : ObjName) (new : World) → i < length os → o ≡ get_or os i o → IsCut (visiting visit s (take i os)).world (events (visiting visit s (take i os)) o) new →
    IsCut s.world (visiting_events visit events s os) new
unfolding visiting visiting_events
visits_cut visit events led [] i s o new h is c = absurd (omega (arith, h))
visits_cut visit events led (x ∷ os) zero s o new h is c =
    cut_first s.world new (events s x) (visiting_events visit events (visit s x) os) (subst (λ (z : ObjName). IsCut s.world (events s z) new) is c)
visits_cut visit events led (x ∷ os) (suc i) s o new h is c =
    cut_after s.world (visit s x).world new (events s x) (visiting_events visit events (visit s x) os) (led s x)
    (visits_cut visit events led os i (visit s x) o new (omega (arith, h)) is c)
