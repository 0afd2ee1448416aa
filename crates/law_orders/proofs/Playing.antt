-- A world plays the step of one of its devices: the world events of the step, where they lead, and what is heard.
use Rattle.std.proofs.Common.{◌≡◌, ℕ, ◌+◌, List, [], ◌∷◌, length, Bool, true, false, Option, Some, None, refl, sym, ap, ◌∙◌, subst, if◌then◌else◌}
use Rattle.std.specs.Prelude.{All, not, ◌&&◌, ◌||◌, bytes_eq, nat_le}
use Rattle.std.proofs.lemmas.List.{append-nil}
use Rattle.std.proofs.lemmas.List.Elements.{All-cons, All-nil}
use Rattle.rdma_types.specs.declared.answers.Answer.{Answer}
use Rattle.rdma_types.specs.declared.answers.Answer.TheVariants as answer
use Rattle.rdma_types.specs.declared.answers.Refusal.{Refusal}
use Rattle.rdma_types.specs.declared.answers.Refusal.TheVariants as refusals
use Rattle.rdma_types.specs.declared.names.Name.{Name}
use Rattle.rdma_types.specs.declared.requests.Address.{Address}
use Rattle.rdma_types.specs.Causes.{Cause, cause, first_cause}
use Rattle.rdma_types.specs.Lists.{at, has_name, has_word, some, store}
use Rattle.protocol.specs.declared.events.Event.{Event}
use Rattle.protocol.specs.declared.events.Event.TheVariants as event
use Rattle.protocol.specs.declared.events.WorldEvent.{WorldEvent}
use Rattle.protocol.specs.declared.events.WorldEvent.TheVariants as world_event
use Rattle.protocol.specs.declared.images.ContextImage.{ContextImage}
use Rattle.protocol.specs.DeviceStep as device
use Rattle.protocol.specs.DeviceStep.{device_step}
use Rattle.protocol.specs.Fabric.{is_late, kept_flight, look, look_at, Here, IsAged, IsLost, sending, took}
use Rattle.protocol.specs.Images as images
use Rattle.protocol.specs.EndWords.{is_paused_link}
use Rattle.protocol.specs.Refusals.{has_context, has_husk, has_moved_out, refusal_of, links_of}
use Rattle.rdma_types.specs.Limits.{most_contexts, most_husks}
use Rattle.protocol.specs.State.{Context, Device, Flight, World, context_at, device_at, no_device}
use Rattle.protocol.specs.WorldStep as step
use Rattle.protocol.specs.WorldStep.{context_causes, context_of_event, device_with, has_device, home, is_live, live_context, is_done, now_at, numbered, partner_moves, ran, runs, with_device, with_image, with_taken, world_after, world_step}
use Rattle.packetless_machine.specs.Machine.{Machine}
use Rattle.rdma_types.specs.declared.verbs.Verb.TheVariants as verbs
use Rattle.law_simulation.specs.Kept.{is_unmade, is_unmade_by, verb_in, verb_of, kept_of, kept_verb}
use Rattle.law_simulation.specs.Law.{IsEventInRange, IsInRange, kept}
use Rattle.law_simulation.specs.Stands.{Stands}
use Rattle.law_simulation.proofs.relation.Tables.{has_name-push, map-store_at, number-at}
use Rattle.law_simulation.proofs.relation.Verbs.{causes_are, stepped_at}
use Rattle.std.proofs.lemmas.List.{map-id}
use Rattle.order_rules.specs.Bridge.{IsAskable, is_at_home, unless_refused, unless_unmade, where_it_lives, world_events}
use Rattle.order_rules.specs.Hears.{verb_heard}
use Rattle.order_rules.specs.Order.{with_stopped}
use Rattle.order_rules.specs.Sides.{is_stopped, makes_a_second, stops_beside_a_mover, without_restored}
use Rattle.law_orders.proofs.Devices.{IsNoStop, IsWithin, away, heard_still, refused_away, step_plain, unheard_husk}
use Rattle.law_orders.proofs.Found.{device_found, home_is, named_somewhere}
use Rattle.law_orders.proofs.Images.{found_named, has_without_less, image_in}

-- ---- what is said

-- the names of carried images were stopped
abbrev pub AreStopped : World → Type 0
AreStopped w = (n : Name) → has_name (λ (c : ContextImage). c.name) n w.carried ≡ true → has_word n w.stopped ≡ true

-- the store before the step's own datagrams
abbrev pub store_for : World → ℕ → Event → List Flight
store_for w number (event.Arrive from bytes) = took w.sent number
store_for w number other = w.sent

-- the world v is w after the step s of the device with that id on that event
pub record Leads (w v : World) (number : ℕ) (e : Event) (s : device.Step) : Type 0 where
  pub devices : v.devices ≡ store (λ x. x.id) s.device.id s.device w.devices
  pub carried : v.carried ≡ with_stopped s.outcome.image (without_restored e s.outcome.answer w.carried)
  pub sent : v.sent ≡ sending (store_for w number e) s.device.address s.outcome.sent
  pub stopped : AreStopped v

-- world events play the step
pub record Plays (w : World) (number : ℕ) (e : Event) (s : device.Step) (es : List WorldEvent) : Type 0 where
  pub ranges : All IsInRange es
  pub heard : kept w es ≡ kept_verb (verb_heard e) s.outcome.answer
  pub leads : Leads w (world_after w es) number e s

-- ---- no event

nothing : (w : World) → world_after w [] ≡ w
unfolding world_after
nothing w = refl

-- the device with an id in its own place
stored_same : (w : World) (k : ℕ) → has_device w k ≡ true → store (λ (x : Device). x.id) (device_at w k).id (device_at w k) w.devices ≡ w.devices
stored_same w k made =
    ap (λ j. store (λ x. x.id) j (device_at w k) w.devices) (number-at (λ e. e.id) no_device k w.devices made)
    ∙ (sym (map-id (store (λ d. d.id) k (device_at w k) w.devices))
    ∙ (map-store_at (λ d. d) (λ d. d.id) no_device k (device_at w k) w.devices made refl ∙ map-id w.devices))

-- an event that is no restore
abbrev pub IsNoRestore : Event → Type 0
IsNoRestore (event.Restore image) = ⊥
IsNoRestore other = Unit {0}

-- .. and no arrival
abbrev pub IsNoArrival : Event → Type 0
IsNoArrival (event.Arrive from bytes) = ⊥
IsNoArrival other = Unit {0}

-- a refused step
refused_leads : (w : World) (number k : ℕ) (e : Event) (r : Refusal) → has_device w k ≡ true → AreStopped w → store_for w number e ≡ w.sent → without_restored e (answer.Refused r) w.carried ≡ w.carried → Leads w w number e (device.answers (device_at w k) (answer.Refused r))
unfolding sending
refused_leads w number k e r made stopped store carried = record {
  devices = sym (stored_same w k made);
  carried = sym carried;
  sent = sym (append-nil (store_for w number e) ∙ store);
  stopped = stopped;
}

-- is no event of the world, where nothing is heard of it
pub refused_plays : (w : World) (number k : ℕ) (e : Event) (r : Refusal) → has_device w k ≡ true → AreStopped w → store_for w number e ≡ w.sent → without_restored e (answer.Refused r) w.carried ≡ w.carried → kept_verb (verb_heard e) (answer.Refused r) ≡ [] →
    Plays w number e (device.answers (device_at w k) (answer.Refused r)) []
unfolding world_after
refused_plays w number k e r made stopped store carried unheard = record {
  ranges = All-nil IsInRange;
  heard = sym unheard;
  leads = refused_leads w number k e r made stopped store carried;
}

-- ---- a device's step in a world

image_carried : (w : World) (o : Option ContextImage) → (with_image o w).carried ≡ with_stopped o w.carried
image_carried w None = refl
image_carried w (Some i) = refl

image_devices : (w : World) (o : Option ContextImage) → (with_image o w).devices ≡ w.devices
image_devices w None = refl
image_devices w (Some i) = refl

image_sent : (w : World) (o : Option ContextImage) → (with_image o w).sent ≡ w.sent
image_sent w None = refl
image_sent w (Some i) = refl

pub ran_devices : (w : World) (s : device.Step) → (ran w s).world.devices ≡ store (λ x. x.id) s.device.id s.device w.devices
unfolding ran with_device
ran_devices w s = image_devices _ s.outcome.image

pub ran_carried : (w : World) (s : device.Step) → (ran w s).world.carried ≡ with_stopped s.outcome.image w.carried
unfolding ran with_device
ran_carried w s = image_carried _ s.outcome.image

pub ran_sent : (w : World) (s : device.Step) → (ran w s).world.sent ≡ sending w.sent s.device.address s.outcome.sent
unfolding ran with_device
ran_sent w s = image_sent _ s.outcome.image

pub ran_answer : (w : World) (s : device.Step) → (ran w s).answer ≡ numbered (length w.sent + 1) s.outcome.answer
unfolding ran
ran_answer w s = refl

stopped_none : (w v : World) (o : Option ContextImage) → o ≡ None → AreStopped w → v.carried ≡ w.carried → v.stopped ≡ w.stopped → AreStopped (with_image o v)
stopped_none w v None none stopped carried same n there = ap (has_word n) same ∙ stopped n (sym (ap (has_name (λ c. c.name) n) carried) ∙ there)
stopped_none w v (Some i) none stopped carried same n there = absurd (cc)

-- a step that hands nothing out
ran_stopped : (w : World) (s : device.Step) → s.outcome.image ≡ None → AreStopped w → AreStopped (ran w s).world
unfolding ran with_device
ran_stopped w s none stopped = stopped_none w _ s.outcome.image none stopped refl refl

-- what is in one world event
one_event : (w : World) (x : WorldEvent) → world_after w (x ∷ []) ≡ (world_step w x).world
unfolding world_after
one_event w x = refl

pub one_range : (x : WorldEvent) → IsInRange x → All IsInRange (x ∷ [])
one_range x h = All-cons IsInRange x [] h (All-nil IsInRange)

-- one world event plays the step
one_plays : (w : World) (number : ℕ) (e : Event) (s : device.Step) (x : WorldEvent) (t : step.Step) → world_step w x ≡ t → IsInRange x → kept_of w x t.answer ≡ kept_verb (verb_heard e) s.outcome.answer → Leads w t.world number e s → Plays w number e s (x ∷ [])
unfolding world_after
one_plays w number e s x t is range heard leads = record {
  ranges = one_range x range;
  heard = append-nil (kept_of w x (world_step w x).answer) ∙ (ap (λ y. kept_of w x y.answer) is ∙ heard);
  leads = subst (λ y. Leads w y.world number e s) (sym is) leads;
}

-- a step that hands nothing out, from a world that differs in its store
ran_leads : (w u : World) (number : ℕ) (e : Event) (s : device.Step) → u.devices ≡ w.devices → u.carried ≡ w.carried → u.sent ≡ store_for w number e → AreStopped u → s.outcome.image ≡ None → without_restored e s.outcome.answer w.carried ≡ w.carried → Leads w (ran u s).world number e s
ran_leads w u number e s devices carried sent stopped none restored = record {
  devices = ran_devices u s ∙ ap (store (λ x. x.id) s.device.id s.device) devices;
  carried = ran_carried u s ∙ ap (with_stopped s.outcome.image) (carried ∙ sym restored);
  sent = ran_sent u s ∙ ap (λ x. sending x s.device.address s.outcome.sent) sent;
  stopped = ran_stopped u s none stopped;
}

unrestored : (e : Event) (a : Answer) (carried : List ContextImage) → IsNoRestore e → without_restored e a carried ≡ carried
unrestored (event.Restore image) a carried not_so = absurd not_so
unrestored other a carried not_so = refl

unarrived : (w : World) (number : ℕ) (e : Event) → IsNoArrival e → store_for w number e ≡ w.sent
unarrived w number (event.Arrive from bytes) not_so = absurd not_so
unarrived w number other not_so = refl

verb_at : (w : World) (e : Event) → verb_of w (world_event.At e) ≡ verb_in e
unfolding verb_of
verb_at w e = refl

-- a datagram is there for an arrival at the device
pub record IsDelivered (w : World) (d : Device) (number : ℕ) (from : Address) (bytes : List ℕ) : Type 0 where
  pub flight : Flight
  pub kept : kept_flight w.sent number ≡ Some flight
  pub sender : flight.from ≡ from
  pub receiver : flight.to ≡ d.address
  pub says : flight.bytes ≡ bytes
  pub whole : flight.lost ≡ false
  pub early : is_late flight.number (now_at (Some d) bytes) ≡ false

abbrev pub Delivers : World → Device → ℕ → Event → Type 0
Delivers w d number (event.Arrive from bytes) = IsDelivered w d number from bytes
Delivers w d number other = Unit {0}

-- an event that makes no context
abbrev pub IsNoMaking : Event → Type 0
IsNoMaking (event.MakeContext name) = ⊥
IsNoMaking other = Unit {0}

heard_plain : (e : Event) → IsNoMaking e → verb_heard e ≡ verb_in e
unfolding verb_heard
heard_plain (event.MakeContext name) not_so = absurd not_so
heard_plain other not_so = refl

-- the image of a restore is carried
abbrev pub Restores : World → Event → Type 0
Restores w (event.Restore image) = image_in image.name w.carried ≡ Some image
Restores w other = Unit {0}

no_causes : (live carried moves : Bool) → live ≡ true → moves ≡ false → first_cause (cause refusals.NoSuch (not live && not carried) ∷ cause refusals.Stopped (not live) ∷ cause refusals.PeerMoving moves ∷ []) ≡ None
unfolding first_cause
no_causes true carried false live still = refl
no_causes true carried true live still = absurd (cc)
no_causes false carried moves live still = absurd (cc)

no_such : (b : Bool) → b ≡ true → first_cause (cause refusals.NoSuch (not b) ∷ []) ≡ None
unfolding first_cause
no_such true h = refl
no_such false h = absurd (cc)

no_such_either : (a b : Bool) → a ≡ true → b ≡ true → first_cause (cause refusals.NoSuch (not a || not b) ∷ []) ≡ None
unfolding first_cause
no_such_either true true h k = refl
no_such_either true false h k = absurd (cc)
no_such_either false b h k = absurd (cc)

-- a stop that a lone device makes, a device in a world makes too
pub still_stops : (d : Device) (n : Name) (alone : Bool) → refusal_of d (event.Stop n alone) ≡ None → (has_context d n ≡ true) × (refusal_of d (event.Stop n false) ≡ None)
unfolding refusal_of first_cause
still_stops d n alone h = by (has_context d n) (has_husk d n) (alone && some is_paused_link (links_of (context_at d n)))
    (cause refusals.TooMany (nat_le most_husks (length d.husks) || some has_moved_out (links_of (context_at d n))) ∷ []) h
  where
    by : (a b p : Bool) (rest : List Cause) → first_cause (cause refusals.NoSuch (not a && not b) ∷ cause refusals.Stopped (not a) ∷ cause refusals.PeerMoving p ∷ rest) ≡ None →
        (a ≡ true) × (first_cause (cause refusals.NoSuch (not a && not b) ∷ cause refusals.Stopped (not a) ∷ cause refusals.PeerMoving false ∷ rest) ≡ None)
    by true b false rest h = (refl, h)
    by true b true rest h = absurd (cc)
    by false true p rest h = absurd (cc)
    by false false p rest h = absurd (cc)

and_no : (a b : Bool) → a ≡ true → (a && b) ≡ false → b ≡ false
and_no true b h k = k
and_no false b h k = absurd (cc)

module _ (w : World) (m : Machine) (s : Stands w m) (k : ℕ) (made : has_device w k ≡ true) (stopped : AreStopped w) where
  abbrev d : Device
  d = device_at w k

  id_is : d.id ≡ k
  id_is = number-at (λ e. e.id) no_device k w.devices made

  made_here : has_device w d.id ≡ true
  made_here = ap (has_device w) id_is ∙ made

  here : device_at w d.id ≡ d
  here = ap (device_at w) id_is

  -- ---- an event of a context

  at_home : (number : ℕ) (e : Event) → IsEventInRange e → IsNoStop e → IsNoRestore e → IsNoArrival e → IsNoMaking e → has_context d (context_of_event e) ≡ true → Plays w number e (device_step d e) (world_event.At e ∷ [])
  at_home number e range no_stop no_restore no_arrival no_making there =
      let home = home_is w m k (context_of_event e) s.placed made there in
      let is : world_step w (world_event.At e) ≡ ran w (device_step d e) =
      stepped_at w e None (causes_are w (context_of_event e) ∙ ap (λ b. if b then None else if step.is_carried w (context_of_event e) then Some refusals.Stopped else Some refusals.NoSuch) home.live)
      ∙ ap (λ x. runs w x e) home.home in
      one_plays w number e (device_step d e) (world_event.At e) (ran w (device_step d e)) is range
      (ap (λ v. kept_verb v (ran w (device_step d e)).answer) (verb_at w e) ∙ (ap (kept_verb (verb_in e)) (ran_answer w (device_step d e)) ∙ (heard_still d e (length w.sent + 1) ∙ ap (λ v. kept_verb v (device_step d e).outcome.answer) (sym (heard_plain e no_making)))))
      (ran_leads w w number e (device_step d e) refl refl (sym (unarrived w number e no_arrival)) stopped (step_plain d e no_stop).image (unrestored e _ w.carried no_restore))

  pub at_context : (number : ℕ) (e : Event) → IsWithin d e → IsEventInRange e → IsNoStop e → IsNoRestore e → IsNoArrival e → IsNoMaking e →
      (has_context d (context_of_event e) ≡ false → kept_verb (verb_in e) (answer.Refused (away d (context_of_event e))) ≡ []) → Plays w number e (device_step d e) (where_it_lives d e)
  at_context number e within range no_stop no_restore no_arrival no_making unheard = by (has_context d (context_of_event e)) refl
    where
      by : (b : Bool) → has_context d (context_of_event e) ≡ b → Plays w number e (device_step d e) (if b then world_event.At e ∷ [] else [])
      by true there = at_home number e range no_stop no_restore no_arrival no_making there
      by false none =
          subst (λ x. Plays w number e x []) (sym (refused_away d e within none))
          (refused_plays w number k e (away d (context_of_event e)) made stopped (unarrived w number e no_arrival) (unrestored e _ w.carried no_restore) (ap (λ v. kept_verb v (answer.Refused (away d (context_of_event e)))) (heard_plain e no_making) ∙ unheard none))

  -- ---- an arrival

  taken_stopped : (number : ℕ) → AreStopped (with_taken w number)
  taken_stopped number n there = stopped n there

  module _ (number : ℕ) (from : Address) (bytes : List ℕ) (a : IsDelivered w d number from bytes) where
    found : device_with w a.flight.to ≡ Some d
    found = ap (device_with w) a.receiver ∙ device_found w m k s.placed made

    looked : look w.sent number (step.now_of w (kept_flight w.sent number)) ≡ Here a.flight
    unfolding look
    looked =
        ap (λ o. look_at o (step.now_of w o)) a.kept
        ∙ (ap (λ o. look_at (Some a.flight) (now_at o a.flight.bytes)) found
        ∙ (ap (λ b. look_at (Some a.flight) (now_at (Some d) b)) a.says
        ∙ (ap (λ b. if b then IsLost else if is_late a.flight.number (now_at (Some d) bytes) then IsAged else Here a.flight) a.whole
        ∙ ap (λ b. if b then IsAged else Here a.flight) a.early)))

    delivered : world_step w (world_event.Deliver number) ≡ ran (with_taken w number) (device_step d (event.Arrive from bytes))
    unfolding world_step step.delivers
    delivered =
        ap (step.delivers_by w number) looked
        ∙ (ap (step.reaches (with_taken w number) a.flight) found
        ∙ (ap (λ x. runs (with_taken w number) d (event.Arrive x a.flight.bytes)) a.sender ∙ ap (λ x. runs (with_taken w number) d (event.Arrive from x)) a.says))

    pub at_arrival : Plays w number (event.Arrive from bytes) (device_step d (event.Arrive from bytes)) (world_event.Deliver number ∷ [])
    unfolding kept_verb verb_in verb_heard verb_of
    at_arrival =
        one_plays w number (event.Arrive from bytes) (device_step d (event.Arrive from bytes)) (world_event.Deliver number) (ran (with_taken w number) (device_step d (event.Arrive from bytes))) delivered tt refl
        (ran_leads w (with_taken w number) number (event.Arrive from bytes) (device_step d (event.Arrive from bytes)) refl refl refl (taken_stopped number) (step_plain d (event.Arrive from bytes) tt).image refl)

  -- ---- a stop

  image_is : (c : Context) → (images.image_of c).name ≡ c.name
  unfolding images.image_of
  image_is c = refl

  stop_stopped : (n : Name) → AreStopped (ran w (device.stops d (context_at d n))).world
  unfolding ran with_device device.stops has_name images.image_of
  stop_stopped n c there = by (has_name (λ (x : ContextImage). x.name) c w.carried) refl (bytes_eq (images.image_of (context_at d n)).name c) (sym (has_name-push (λ x. x.name) c w.carried (images.image_of (context_at d n))) ∙ there)
    where
      by : (a : Bool) → has_name (λ (x : ContextImage). x.name) c w.carried ≡ a → (b : Bool) → (has_name (λ (x : ContextImage). x.name) c w.carried || b) ≡ true → (b || has_word c w.stopped) ≡ true
      by a is true h = refl
      by true is false h = stopped c is
      by false is false h = absurd (cc)

  stop_leads : (number : ℕ) (n : Name) (alone : Bool) → Leads w (ran w (device.stops d (context_at d n))).world number (event.Stop n alone) (device.stops d (context_at d n))
  stop_leads number n alone = record {
    devices = ran_devices w (device.stops d (context_at d n));
    carried = ran_carried w (device.stops d (context_at d n));
    sent = ran_sent w (device.stops d (context_at d n));
    stopped = stop_stopped n;
  }

  stop_is : (n : Name) (alone : Bool) → refusal_of d (event.Stop n alone) ≡ None → some (λ e. partner_moves w e.link) (context_at d n).ends ≡ false → world_step w (world_event.Stop n) ≡ ran w (device.stops d (context_at d n))
  unfolding world_step step.stops step.live_context device_step
  stop_is n alone h still =
      let may = still_stops d n alone h in
      let lives = home_is w m k n s.placed made may.0 in
      ap (λ r. step.by_refusal w r (runs w (home w n) (event.Stop n false)))
      (no_causes (is_live w n) (step.is_carried w n) (some (λ e. partner_moves w e.link) (live_context w n).ends) lives.live (ap (λ x. some (λ e. partner_moves w e.link) (context_at x n).ends) lives.home ∙ still))
      ∙ (ap (λ x. runs w x (event.Stop n false)) lives.home ∙ ap (λ r. ran w (device.by_refusal d (event.Stop n false) r)) may.1)

  stop_by : (number : ℕ) (n : Name) (alone : Bool) (r : Option Refusal) → refusal_of d (event.Stop n alone) ≡ r → (is_stopped (device.by_refusal d (event.Stop n alone) r).outcome.answer && stops_beside_a_mover w k (event.Stop n alone)) ≡ false →
      Plays w number (event.Stop n alone) (device.by_refusal d (event.Stop n alone) r) (unless_refused (device.by_refusal d (event.Stop n alone) r).outcome.answer (world_event.Stop n ∷ []))
  unfolding stops_beside_a_mover device.stops kept_verb verb_in verb_heard verb_of
  stop_by number n alone (Some r) h still = refused_plays w number k (event.Stop n alone) r made stopped refl refl refl
  stop_by number n alone None h still =
      one_plays w number (event.Stop n alone) (device.stops d (context_at d n)) (world_event.Stop n) (ran w (device.stops d (context_at d n))) (stop_is n alone h still) tt refl (stop_leads number n alone)

  pub at_stop : (number : ℕ) (n : Name) (alone : Bool) → (is_stopped (device_step d (event.Stop n alone)).outcome.answer && stops_beside_a_mover w k (event.Stop n alone)) ≡ false →
      Plays w number (event.Stop n alone) (device_step d (event.Stop n alone)) (unless_refused (device_step d (event.Stop n alone)).outcome.answer (world_event.Stop n ∷ []))
  unfolding device_step
  at_stop number n alone one_sided = stop_by number n alone (refusal_of d (event.Stop n alone)) refl one_sided

  -- ---- a restore

  restore_stopped : (image : ContextImage) → AreStopped (step.without_image (ran w (device.restores d (images.context_of image))).world image.name)
  unfolding ran with_device device.restores
  restore_stopped image n there = stopped n (has_without_less image.name n w.carried there)

  restore_leads : (number : ℕ) (image : ContextImage) → Leads w (step.without_image (ran w (device.restores d (images.context_of image))).world image.name) number (event.Restore image) (device.restores d (images.context_of image))
  unfolding ran with_device device.restores
  restore_leads number image = record { devices = refl; carried = refl; sent = refl; stopped = restore_stopped image }

  restore_done : (image : ContextImage) → step.restored_by w image.name (ran w (device.restores d (images.context_of image))) ≡ step.answers (step.without_image (ran w (device.restores d (images.context_of image))).world image.name) answer.Done
  unfolding ran numbered device.restores
  restore_done image = refl

  restore_is : (image : ContextImage) → refusal_of d (event.Restore image) ≡ None → image_in image.name w.carried ≡ Some image →
      world_step w (world_event.Restore image.name d.id) ≡ step.answers (step.without_image (ran w (device.restores d (images.context_of image))).world image.name) answer.Done
  unfolding world_step step.restores step.carried_image device_step
  restore_is image h carried =
      ap (λ r. step.by_refusal w r (step.restores_image w image.name d.id (step.carried_image w image.name))) (no_such_either (has_device w d.id) (has_word image.name w.stopped) made_here (stopped image.name (found_named image.name image w.carried carried)))
      ∙ (ap (step.restores_image w image.name d.id) carried
      ∙ (ap (λ x. step.restored_by w image.name (runs w x (event.Restore image))) here
      ∙ (ap (λ r. step.restored_by w image.name (ran w (device.by_refusal d (event.Restore image) r))) h ∙ restore_done image)))

  restore_by : (number : ℕ) (image : ContextImage) (r : Option Refusal) → refusal_of d (event.Restore image) ≡ r → image_in image.name w.carried ≡ Some image →
      Plays w number (event.Restore image) (device.by_refusal d (event.Restore image) r) (unless_refused (device.by_refusal d (event.Restore image) r).outcome.answer (world_event.Restore image.name d.id ∷ []))
  unfolding device.restores kept_verb verb_in verb_heard verb_of
  restore_by number image (Some r) h carried = refused_plays w number k (event.Restore image) r made stopped refl refl refl
  restore_by number image None h carried =
      one_plays w number (event.Restore image) (device.restores d (images.context_of image)) (world_event.Restore image.name d.id)
      (step.answers (step.without_image (ran w (device.restores d (images.context_of image))).world image.name) answer.Done) (restore_is image h carried) tt refl (restore_leads number image)

  pub at_restore : (number : ℕ) (image : ContextImage) → image_in image.name w.carried ≡ Some image →
      Plays w number (event.Restore image) (device_step d (event.Restore image)) (unless_refused (device_step d (event.Restore image)).outcome.answer (world_event.Restore image.name d.id ∷ []))
  unfolding device_step
  at_restore number image carried = restore_by number image (refusal_of d (event.Restore image)) refl carried

  -- ---- a release

  release_is : (n : Name) → world_step w (world_event.Release n d.id) ≡ ran w (device_step d (event.Release n))
  unfolding world_step step.releases
  release_is n =
      ap (λ r. step.by_refusal w r (runs w (device_at w d.id) (event.Release n))) (no_such (has_device w d.id) made_here)
      ∙ ap (λ x. runs w x (event.Release n)) here

  pub at_release : (number : ℕ) (n : Name) → Plays w number (event.Release n) (device_step d (event.Release n)) (world_event.Release n d.id ∷ [])
  unfolding kept_verb verb_in verb_heard verb_of
  at_release number n =
      one_plays w number (event.Release n) (device_step d (event.Release n)) (world_event.Release n d.id) (ran w (device_step d (event.Release n))) (release_is n) tt refl
      (ran_leads w w number (event.Release n) (device_step d (event.Release n)) refl refl refl stopped (step_plain d (event.Release n) tt).image refl)

  -- ---- a new context

  -- the refusal of a device that has the name, or no room
  abbrev taken_or_full : Bool → Bool → Option Refusal
  taken_or_full taken full = first_cause (cause refusals.NumberTaken taken ∷ cause refusals.TooMany full ∷ [])

  making_is : (n : Name) → world_step w (world_event.MakeContext n d.id) ≡ step.by_refusal w (first_cause (cause refusals.NumberTaken (is_live w n || step.is_carried w n) ∷ [])) (ran w (device_step d (event.MakeContext n)))
  unfolding world_step step.makes_context first_cause
  making_is n =
      ap (λ b. step.by_refusal w (first_cause (cause refusals.NoSuch (not b) ∷ cause refusals.NumberTaken (is_live w n || step.is_carried w n) ∷ [])) (runs w (device_at w d.id) (event.MakeContext n))) made_here
      ∙ ap (λ x. step.by_refusal w (first_cause (cause refusals.NumberTaken (is_live w n || step.is_carried w n) ∷ [])) (runs w x (event.MakeContext n))) here

  making_step : (n : Name) (taken full : Bool) → (has_context d n || has_husk d n) ≡ taken → nat_le most_contexts (length d.contexts) ≡ full → device_step d (event.MakeContext n) ≡ device.by_refusal d (event.MakeContext n) (taken_or_full taken full)
  unfolding device_step refusal_of
  making_step n taken full is_taken is_full = λ i. device.by_refusal d (event.MakeContext n) (taken_or_full (is_taken i) (is_full i))

  making_heard : (n : Name) (a : Answer) → kept_of w (world_event.MakeContext n d.id) a ≡ kept_verb (verb_heard (event.MakeContext n)) a
  unfolding verb_of verb_heard
  making_heard n a = ap (λ b. kept_verb (Some (verbs.Context n b)) a) made_here

  making_by : (number : ℕ) (n : Name) (taken full somewhere : Bool) → (has_context d n || has_husk d n) ≡ taken → nat_le most_contexts (length d.contexts) ≡ full → (is_live w n || step.is_carried w n) ≡ somewhere → (taken ≡ true → somewhere ≡ true) →
      (is_done (device.by_refusal d (event.MakeContext n) (taken_or_full taken full)).outcome.answer && somewhere) ≡ false →
      Plays w number (event.MakeContext n) (device.by_refusal d (event.MakeContext n) (taken_or_full taken full)) (unless_unmade (device.by_refusal d (event.MakeContext n) (taken_or_full taken full)).outcome.answer (world_event.MakeContext n d.id ∷ []))
  unfolding first_cause is_unmade is_unmade_by device.makes_context kept_verb verb_heard numbered ran
  making_by number n true full true is_taken is_full is_somewhere so fresh =
      one_plays w number (event.MakeContext n) (device.answers d (answer.Refused refusals.NumberTaken)) (world_event.MakeContext n d.id) (step.answers w (answer.Refused refusals.NumberTaken))
      (making_is n ∙ ap (λ b. step.by_refusal w (first_cause (cause refusals.NumberTaken b ∷ [])) (ran w (device_step d (event.MakeContext n)))) is_somewhere) tt
      (making_heard n (answer.Refused refusals.NumberTaken)) (refused_leads w number k (event.MakeContext n) refusals.NumberTaken made stopped refl refl)
  making_by number n true full false is_taken is_full is_somewhere so fresh = absurd (cc (so refl))
  making_by number n false true somewhere is_taken is_full is_somewhere so fresh = refused_plays w number k (event.MakeContext n) refusals.TooMany made stopped refl refl refl
  making_by number n false false true is_taken is_full is_somewhere so fresh = absurd (cc)
  making_by number n false false false is_taken is_full is_somewhere so fresh =
      one_plays w number (event.MakeContext n) (device.makes_context d n) (world_event.MakeContext n d.id) (ran w (device.makes_context d n))
      (making_is n ∙ (ap (λ b. step.by_refusal w (first_cause (cause refusals.NumberTaken b ∷ [])) (ran w (device_step d (event.MakeContext n)))) is_somewhere ∙ ap (ran w) (making_step n false false is_taken is_full))) tt
      (making_heard n answer.Done) (ran_leads w w number (event.MakeContext n) (device.makes_context d n) refl refl refl stopped refl refl)

  pub at_making : (number : ℕ) (n : Name) → (is_done (device_step d (event.MakeContext n)).outcome.answer && makes_a_second w (event.MakeContext n)) ≡ false →
      Plays w number (event.MakeContext n) (device_step d (event.MakeContext n)) (unless_unmade (device_step d (event.MakeContext n)).outcome.answer (world_event.MakeContext n d.id ∷ []))
  unfolding device_step refusal_of makes_a_second
  at_making number n fresh =
      making_by number n (has_context d n || has_husk d n) (nat_le most_contexts (length d.contexts)) (is_live w n || step.is_carried w n) refl refl refl (named_somewhere w m k n s.placed made) fresh

  -- ---- the table

  pub plays : (number : ℕ) (e : Event) → IsAskable e → is_at_home d e (verb_in e) ≡ true → (is_stopped (device_step d e).outcome.answer && stops_beside_a_mover w k e) ≡ false → (is_done (device_step d e).outcome.answer && makes_a_second w e) ≡ false → Delivers w d number e → Restores w e →
      Plays w number e (device_step d e) (world_events d number e (device_step d e).outcome.answer)
  unfolding verb_in kept_verb
  plays number (event.MakeContext name) askable home one_sided fresh arrives carried = at_making number name fresh
  plays number (event.Connect o peer partner terms) askable home one_sided fresh arrives carried = absurd askable
  plays number (event.MakeDomain o) askable home one_sided fresh arrives carried = at_context number (event.MakeDomain o) refl askable tt tt tt tt (λ none. unheard_husk d _ o.context none home)
  plays number (event.MakeRegion o domain base count rights) askable home one_sided fresh arrives carried = at_context number (event.MakeRegion o domain base count rights) refl askable tt tt tt tt (λ none. unheard_husk d _ o.context none home)
  plays number (event.MakeCq o capacity) askable home one_sided fresh arrives carried = at_context number (event.MakeCq o capacity) refl askable tt tt tt tt (λ none. unheard_husk d _ o.context none home)
  plays number (event.MakeQp o domain send_cq recv_cq send_depth recv_depth) askable home one_sided fresh arrives carried = at_context number (event.MakeQp o domain send_cq recv_cq send_depth recv_depth) refl askable tt tt tt tt (λ none. unheard_husk d _ o.context none home)
  plays number (event.DropRegion o) askable home one_sided fresh arrives carried = at_context number (event.DropRegion o) refl askable tt tt tt tt (λ none. unheard_husk d _ o.context none home)
  plays number (event.Store o at bytes) askable home one_sided fresh arrives carried = at_context number (event.Store o at bytes) refl askable tt tt tt tt (λ none. unheard_husk d _ o.context none home)
  plays number (event.Load o at count) askable home one_sided fresh arrives carried = at_context number (event.Load o at count) refl askable tt tt tt tt (λ none. unheard_husk d _ o.context none home)
  plays number (event.PostSend o r) askable home one_sided fresh arrives carried = at_context number (event.PostSend o r) refl askable tt tt tt tt (λ none. unheard_husk d _ o.context none home)
  plays number (event.PostRecv o r) askable home one_sided fresh arrives carried = at_context number (event.PostRecv o r) refl askable tt tt tt tt (λ none. unheard_husk d _ o.context none home)
  plays number (event.Poll o most) askable home one_sided fresh arrives carried = at_context number (event.Poll o most) refl askable tt tt tt tt (λ none. unheard_husk d _ o.context none home)
  plays number (event.Transmit o) askable home one_sided fresh arrives carried = at_context number (event.Transmit o) refl askable tt tt tt tt (λ none. refl)
  plays number (event.Expire o) askable home one_sided fresh arrives carried = at_context number (event.Expire o) refl askable tt tt tt tt (λ none. refl)
  plays number (event.RnrOver o) askable home one_sided fresh arrives carried = at_context number (event.RnrOver o) refl askable tt tt tt tt (λ none. refl)
  plays number (event.Arrive from bytes) askable home one_sided fresh arrives carried = at_arrival number from bytes arrives
  plays number (event.Stop n alone) askable home one_sided fresh arrives carried = at_stop number n alone one_sided
  plays number (event.Restore image) askable home one_sided fresh arrives carried = at_restore number image carried
  plays number (event.Release n) askable home one_sided fresh arrives carried = at_release number n
