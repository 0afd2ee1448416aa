-- A Running end that waits for its RNR timer, or whose numbers were all sent, has nothing to send.
use Rattle.std.proofs.Common.{◌≡◌, ◌⊎◌, ℕ, zero, suc, [], inl, inr, Bool, true, false, refl, sym, ap, ◌∙◌}
use Rattle.std.specs.Prelude.{Option, Some, None, option_map, ◌==◌, ◌&&◌, ◌||◌, not, if◌then◌else◌}
use Rattle.rdma_types.specs.Causes.{first_cause}
use Rattle.rdma_types.specs.declared.answers.Refusal.{Refusal}
use Rattle.rdma_types.specs.declared.names.ObjName.{ObjName}
use Rattle.protocol.specs.declared.events.Event.TheVariants as event
use Rattle.protocol.specs.EndWords.{is_paused, is_resuming}
use Rattle.protocol.specs.Refusals.{refusal_of}
use Rattle.protocol.specs.Requester.{IsIdle, SendsResume, Transmission, Waits, end_of_queue, transmission}
use Rattle.protocol.specs.State.{Context, Device, End, Link, World, context_at, end_at}
use Rattle.protocol.specs.DeviceStep as device
use Rattle.protocol.specs.WorldStep.{by_refusal, context_causes, home, live_context, numbered, ran, runs, steps_at, world_step}
use Rattle.protocol.specs.Settle.{Settling, is_sent, link_at, sending_all, sends_all, sends_if_running, transmit}
use Rattle.world_core.specs.Lives.{link_view}
use Rattle.context_core.specs.declared.lives.LinkView.{LinkView}
use Rattle.settle_core.specs.Shown.{Settles}
use Rattle.settle_core.specs.Steps.{IsLinkAt, view_may_send, view_runs}
use Rattle.settle_core.specs.declared.notes.Notes.{Notes}
use Rattle.settle_core.proofs.Visits.{link_shown, runs_not, runs_on, sends_no_more, shows_as}

-- ---- the row of the table

-- a row by which nothing is sent
abbrev IsRest : Transmission → Type 0
IsRest t = (t ≡ Waits) ⊎ (t ≡ IsIdle)

rest_row : (l : Link) → view_runs (link_view l) ≡ true → view_may_send (link_view l) ≡ false → IsRest (transmission l)
unfolding transmission
rest_row l runs none = by_tests l.ended (is_paused l.moving.phase) (is_resuming l.moving.phase) l.sender.rnr_wait (l.sender.next == end_of_queue l.terms l.sender) _ runs none
  where
    by_tests : (ended paused resuming waits all : Bool) (t : Transmission) → (not ended && (not paused && not resuming)) ≡ true → (not waits && not all) ≡ false →
        IsRest (if not ended && resuming then SendsResume else if paused || (ended || waits) then Waits else if all then IsIdle else t)
    by_tests false false false true all t g h = inl refl
    by_tests false false false false true t g h = inr refl
    by_tests false false false false false t g h = absurd (cc)
    by_tests false false true waits all t g h = absurd (cc)
    by_tests false true resuming waits all t g h = absurd (cc)
    by_tests true paused resuming waits all t g h = absurd (cc)

-- ---- the step

row_unsent : (w : World) (d : Device) (c : Context) (e : End) (l : Link) (t : Transmission) → IsRest t → is_sent (ran w (device.sends_by d c e l t)).answer ≡ false
unfolding ran numbered
row_unsent w d c e l t (inl h) = ap (λ (x : Transmission). is_sent (ran w (device.sends_by d c e l x)).answer) h
row_unsent w d c e l t (inr h) = ap (λ (x : Transmission). is_sent (ran w (device.sends_by d c e l x)).answer) h

device_unsent : (w : World) (d : Device) (o : ObjName) (l : Link) → (end_at (context_at d o.context) o.name).link ≡ Some l → IsRest (transmission l) → is_sent (runs w d (event.Transmit o)).answer ≡ false
unfolding ran numbered device.device_step device.transmits
device_unsent w d o l there rest = by_refusal_of (refusal_of d (event.Transmit o))
  where
    by_refusal_of : (r : Option Refusal) → is_sent (ran w (device.by_refusal d (event.Transmit o) r)).answer ≡ false
    by_refusal_of (Some r) = refl
    by_refusal_of None =
        let c : Context = context_at d o.context in
        let e : End = end_at c o.name in
        ap (λ (k : Option Link). is_sent (ran w (device.at_link d k (λ x. device.sends_by d c e x (transmission x)))).answer) there ∙ row_unsent w d c e l (transmission l) rest

-- an end whose row is one of these, sends nothing
rest_unsent : (w : World) (o : ObjName) (l : Link) → link_at w o ≡ Some l → IsRest (transmission l) → is_sent (world_step w (transmit o)).answer ≡ false
unfolding world_step steps_at live_context
rest_unsent w o l there rest = by_cause (first_cause (context_causes w o.context []))
  where
    by_cause : (r : Option Refusal) → is_sent (by_refusal w r (runs w (home w o.context) (event.Transmit o))).answer ≡ false
    by_cause (Some r) = refl
    by_cause None = device_unsent w (home w o.context) o l there rest

-- ---- all that it sends

unsent_sends : (fuel : ℕ) (s : Settling) (o : ObjName) → is_sent (world_step s.world (transmit o)).answer ≡ false → sending_all fuel s o ≡ s
unfolding sending_all
unsent_sends zero s o h = refl
unsent_sends (suc fuel) s o h = sends_no_more fuel s o h

unsent_all : (s : Settling) (o : ObjName) → is_sent (world_step s.world (transmit o)).answer ≡ false → sends_all s o ≡ s
unfolding sends_all
unsent_all s o h = unsent_sends _ s o h

pub rest_sends : (s : Settling) (o : ObjName) (k : Option Link) (v : LinkView) → link_at s.world o ≡ k → Some v ≡ option_map link_view k → view_runs v ≡ true → view_may_send v ≡ false → sends_all s o ≡ s
rest_sends s o None v there h runs none = absurd (cc)
rest_sends s o (Some l) v there h runs none =
    let same : v ≡ link_view l = cc in
    unsent_all s o (rest_unsent s.world o l there (rest_row l (ap view_runs (sym same) ∙ runs) (ap view_may_send (sym same) ∙ none)))

-- an end that has nothing to send stays as it is
pub runs_unsent : (w : World) (n : Notes) (o : ObjName) (v : LinkView) → IsLinkAt w o v → view_may_send v ≡ false → Settles (λ s. sends_if_running s o) w n w n
runs_unsent w n o v at none = by_test (view_runs v) refl
  where
    by_test : (b : Bool) → view_runs v ≡ b → Settles (λ s. sends_if_running s o) w n w n
    by_test false runs = runs_not w n o v at runs
    by_test true runs = runs_on w w n n o v at runs (λ s shows. shows_as w n s (sends_all s o) (sym (rest_sends s o (link_at w o) v (sym (link_shown w n s o shows)) at runs none)) shows)
