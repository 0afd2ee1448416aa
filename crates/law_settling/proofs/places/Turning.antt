-- A transmission, an expiry and the end of an RNR timer: nothing changes, or the end that is named has another link.
use Rattle.std.proofs.Common.{◌≡◌, ◌⊎◌, ℕ, List, [], true, false, Bool, refl, sym, ap, ◌∙◌, subst, inl, inr}
use Rattle.std.specs.Prelude.{Option, Some, None, ◌==◌, if◌then◌else◌}
use Rattle.std.proofs.Math.ListN.{set}
use Rattle.rdma_types.specs.Causes.{first_cause}
use Rattle.rdma_types.specs.declared.answers.Answer.TheVariants as answer
use Rattle.rdma_types.specs.declared.answers.ExpiryIgnored.{ExpiryIgnored}
use Rattle.rdma_types.specs.declared.answers.Refusal.{Refusal}
use Rattle.rdma_types.specs.declared.names.Name.{Name}
use Rattle.rdma_types.specs.declared.names.ObjName.{ObjName}
use Rattle.rdma_types.specs.declared.requests.WcStatus.TheVariants as status
use Rattle.rdma_types.specs.Lists.{first_that, has_name, named, store, store_named}
use Rattle.protocol.specs.declared.events.Event.{Event}
use Rattle.protocol.specs.declared.events.Event.TheVariants as events
use Rattle.protocol.specs.declared.events.WorldEvent.TheVariants as world_events
use Rattle.protocol.specs.DeviceStep as device
use Rattle.protocol.specs.DeviceStep.{device_step, with_context}
use Rattle.protocol.specs.EndWords.{completing, linked, with_end, with_link, with_queue, with_sender, with_unused}
use Rattle.protocol.specs.Refusals as refusing
use Rattle.protocol.specs.Refusals.{connected_causes, has_context, has_end, refusal_of}
use Rattle.protocol.specs.Requester.{Transmission, SendsResume, Waits, IsIdle, WindowIsFull, ReadsAreFull, IsFenced, Sends, counted, ended_link, ended_with, not_counted, transmission, transmitted, waited_out}
use Rattle.protocol.specs.Settle.{link_at, mark_of}
use Rattle.protocol.specs.State.{World, Device, Context, End, Link, no_context, no_end, context_at, end_at}
use Rattle.protocol.specs.WorldStep as step
use Rattle.protocol.specs.WorldStep.{world_step, context_causes, context_of_event, home, is_live, live_context, or_none, runs}
use Rattle.law_devices.proofs.Founds.{Within, no-cause, not-false, within-context}
use Rattle.law_simulation.proofs.relation.Tables.{named-store_same}
use Rattle.law_simulation.proofs.relation.Worlds.{holds_it, home_found}
use Rattle.law_settling.specs.Places.{HaveOwnIds, device_outline}
use Rattle.law_settling.proofs.bound.Delivering.{ran_devices}
use Rattle.law_settling.proofs.bound.Turns.{dead_cause}
use Rattle.law_settling.proofs.places.Changes.{EndChanges, device_same}
use Rattle.law_settling.proofs.places.Lists.{IsFirst, IsNamedAt, first_place, named_place, store_place}
use Rattle.law_settling.proofs.places.Outlines.{has_same}

-- the thing of a name is where it is found
named_here : {A : Type 0} (name : A → List ℕ) (none : A) (n : List ℕ) (xs : List A) → has_name name n xs ≡ true → (k : ℕ) × IsNamedAt name none n xs k (named name none n xs)
named_here name none n xs h =
    let r = named_place name none n xs h in
    (r.0, subst (IsNamedAt name none n xs r.0) (sym r.2.is) r.2)

-- ---- on a device

-- the end of a name has another link, which R says of the two
pub record Turned (R : Link → Link → Type 0) (d d' : Device) (o : ObjName) : Type 0 where
  pub j : ℕ
  pub k : ℕ
  pub l : Link
  pub l' : Link
  pub changes : EndChanges d d' j k l l'
  pub rel : R l l'
  pub before : (end_at (context_at d o.context) o.name).link ≡ Some l
  pub after : (end_at (context_at d' o.context) o.name).link ≡ Some l'

-- nothing changes, or this end
abbrev pub TurnsOne : (Link → Link → Type 0) → Device → Device → ObjName → Type 0
TurnsOne R d d' o = (d' ≡ d) ⊎ Turned R d d' o

-- what a step of a connected end gives
module _ (R : Link → Link → Type 0) (d : Device) (o : ObjName) (has : has_context d o.context ≡ true) (there : has_end (context_at d o.context) o.name ≡ true) where
  abbrev c : Context
  c = context_at d o.context

  abbrev e : End
  e = end_at c o.name

  at_context : (j : ℕ) × IsNamedAt (λ x. x.name) no_context o.context d.contexts j c
  at_context = named_here (λ x. x.name) no_context o.context d.contexts has

  at_end : (k : ℕ) × IsNamedAt (λ x. x.name) no_end o.name c.ends k e
  at_end = named_here (λ x. x.name) no_end o.name c.ends there

  -- the context x with the end y in the place of e
  stored : (x : Context) (y : End) (l l' : Link) → R l l' → e.link ≡ Some l → y.link ≡ Some l' → x.name ≡ c.name → x.ends ≡ store_named (λ z. z.name) e.name y c.ends → y.name ≡ e.name → y.number ≡ e.number → Turned R d (with_context d x) o
  unfolding with_context
  stored x y l l' rel before after name ends same number =
      let C = at_context.1 in
      let E = at_end.1 in
      let called : x.name ≡ o.context = name ∙ C.called in
      let ends_now : x.ends ≡ store_named (λ z. z.name) o.name y c.ends = ends ∙ ap (λ n. store_named (λ z. z.name) n y c.ends) E.called in
      let contexts_now : (with_context d x).contexts ≡ store_named (λ z. z.name) o.context x d.contexts = ap (λ n. store_named (λ z. z.name) n x d.contexts) called in
      record {
        j = at_context.0;
        k = at_end.0;
        l = l;
        l' = l';
        changes = record {
          context = c;
          context' = x;
          end = e;
          end' = y;
          id = refl;
          owner = C.here;
          contexts = contexts_now ∙ C.stored x;
          owned = name;
          there = E.here;
          ends = ends_now ∙ E.stored y;
          named = same;
          numbered = number;
          linked = before;
          linked' = after;
        };
        rel = rel;
        before = before;
        after =
            ap (λ (cs : List Context). (end_at (named (λ z. z.name) no_context o.context cs) o.name).link) contexts_now
            ∙ (ap (λ (z : Context). (end_at z o.name).link) (named-store_same (λ z. z.name) no_context o.context x d.contexts called)
            ∙ (ap (λ (es : List End). (named (λ z. z.name) no_end o.name es).link) ends_now
            ∙ (ap (λ (z : End). z.link) (named-store_same (λ z. z.name) no_end o.name y c.ends (same ∙ E.called))
            ∙ after)));
      }

  -- the end with another link
  with_other : (l l' : Link) → R l l' → e.link ≡ Some l → Turned R d (with_context d (linked c e l')) o
  unfolding with_end with_link
  with_other l l' rel before = stored (linked c e l') (with_link e l') l l' rel before refl refl refl refl refl

  -- .. in Error
  with_ended : (l : Link) → R l (ended_link l) → e.link ≡ Some l → Turned R d (with_context d (ended_with c e l status.RetryExceeded)) o
  unfolding ended_with with_end with_link with_unused completing with_queue
  with_ended l rel before = stored (ended_with c e l status.RetryExceeded) (with_link (with_unused e []) (ended_link l)) l (ended_link l) rel before refl refl refl refl refl

  abbrev Turns : device.Step → Type 0
  Turns s = TurnsOne R d s.device o

  at_link : (f : Link → device.Step) → ((l : Link) → e.link ≡ Some l → Turns (f l)) → (r : Option Link) → e.link ≡ r → Turns (device.at_link d r f)
  at_link f each None h = inl refl
  at_link f each (Some l) h = each l h

  -- a step that is not refused
  sends_turns : ((l : Link) (l' : Link) → mark_of (Some l') ≡ mark_of (Some l) → R l l') → (l : Link) → e.link ≡ Some l → (t : Transmission) → Turns (device.sends_by d c e l t)
  unfolding device.sends_piece transmitted with_sender
  sends_turns rel l h SendsResume = inl refl
  sends_turns rel l h Waits = inl refl
  sends_turns rel l h IsIdle = inl refl
  sends_turns rel l h WindowIsFull = inl refl
  sends_turns rel l h ReadsAreFull = inl refl
  sends_turns rel l h IsFenced = inl refl
  sends_turns rel l h (Sends x) = inr (with_other l (transmitted l x) (rel l (transmitted l x) refl) h)

  pub transmit_turns : ((l : Link) (l' : Link) → mark_of (Some l') ≡ mark_of (Some l) → R l l') → Turns (device.transmits d c e)
  unfolding device.transmits
  transmit_turns rel = at_link (λ l. device.sends_by d c e l (transmission l)) (λ l h. sends_turns rel l h (transmission l)) e.link refl

  module _ (any : (l l' : Link) → R l l') where
    if_turns : (b : Bool) (s t : device.Step) → Turns s → Turns t → Turns (if b then s else t)
    if_turns true s t h k = h
    if_turns false s t h k = k

    counts_turns : (l : Link) → e.link ≡ Some l → Turns (device.counts d c e l)
    unfolding device.counts
    counts_turns l h =
        if_turns (l.sender.spent == l.terms.retry) _ _
        (inr (with_ended l (any l (ended_link l)) h)) (inr (with_other l (with_sender l (counted l.sender)) (any l (with_sender l (counted l.sender))) h))

    expires_turns : (l : Link) → e.link ≡ Some l → (r : Option ExpiryIgnored) → Turns (device.expires_by d c e l r)
    expires_turns l h None = counts_turns l h
    expires_turns l h (Some why) = inl refl

    pub expire_turns : Turns (device.expires d c e)
    unfolding device.expires
    expire_turns = at_link (λ l. device.expires_by d c e l (not_counted l)) (λ l h. expires_turns l h (not_counted l)) e.link refl

    pub over_turns : Turns (device.rnr_over d c e)
    unfolding device.rnr_over
    over_turns =
        at_link (device.waits_out d c e)
        (λ l h. if_turns l.sender.rnr_wait _ (device.answers d answer.NotWaiting) (inr (with_other l (with_sender l (waited_out l.sender)) (any l (with_sender l (waited_out l.sender))) h)) (inl refl)) e.link refl

-- what is not refused has its end
module _ (R : Link → Link → Type 0) (d : Device) (o : ObjName) where
  has_end_by : first_cause (refusing.within d o.context (λ c. connected_causes c o.name)) ≡ None → (has_context d o.context ≡ true) × (has_end (context_at d o.context) o.name ≡ true)
  has_end_by h =
      let inside : Within d o.context (connected_causes (context_at d o.context) o.name) = within-context d o.context _ _ _ refl h in
      (inside.there, not-false _ (no-cause _ _ inside.none).0)

  abbrev Steps : Event → Type 0
  Steps e = TurnsOne R d (device_step d e).device o

  by_refusal : (e : Event) → (refusal_of d e ≡ None → TurnsOne R d (device.done_by d e).device o) → (r : Option Refusal) → refusal_of d e ≡ r → TurnsOne R d (device.by_refusal d e r).device o
  by_refusal e done None h = done h
  by_refusal e done (Some r) h = inl refl

  pub transmit_steps : ((l : Link) (l' : Link) → mark_of (Some l') ≡ mark_of (Some l) → R l l') → Steps (events.Transmit o)
  unfolding device_step refusal_of
  transmit_steps rel = by_refusal (events.Transmit o) (λ h. let p = has_end_by h in transmit_turns R d o p.0 p.1 rel) _ refl

  pub expire_steps : ((l l' : Link) → R l l') → Steps (events.Expire o)
  unfolding device_step refusal_of
  expire_steps any = by_refusal (events.Expire o) (λ h. let p = has_end_by h in expire_turns R d o p.0 p.1 any) _ refl

  pub over_steps : ((l l' : Link) → R l l') → Steps (events.RnrOver o)
  unfolding device_step refusal_of
  over_steps any = by_refusal (events.RnrOver o) (λ h. let p = has_end_by h in over_turns R d o p.0 p.1 any) _ refl

-- ---- in a world

-- what a turn leaves of a device: its id
pub turned_id : (R : Link → Link → Type 0) (d d' : Device) (o : ObjName) → TurnsOne R d d' o → d'.id ≡ d.id
turned_id R d d' o (inl h) = ap (λ z. z.id) h
turned_id R d d' o (inr t) = t.changes.id

-- .. its outline
pub turned_same : (R : Link → Link → Type 0) (d d' : Device) (o : ObjName) → TurnsOne R d d' o → device_outline d' ≡ device_outline d
turned_same R d d' o (inl h) = ap device_outline h
turned_same R d d' o (inr t) = device_same d d' t.j t.k t.l t.l' t.changes

-- the device at place i, the home of the context, becomes d'
pub record HomeChanges (w w' : World) (n : Name) (i : ℕ) (d' : Device) : Type 0 where
  pub here : IsFirst (holds_it n) w.devices i (home w n)
  pub devices : w'.devices ≡ set w.devices i d'

-- an event leaves the devices as they are, or the home makes a step
module _ (w : World) (ids : HaveOwnIds w) (e : Event) (same_id : (device_step (home w (context_of_event e)) e).device.id ≡ (home w (context_of_event e)).id) (Q : World → Type 0) (stays : Q w) (changes : (w' : World) (i : ℕ) → HomeChanges w w' (context_of_event e) i (device_step (home w (context_of_event e)) e).device → Q w') where
  abbrev n : Name
  n = context_of_event e

  abbrev s : device.Step
  s = device_step (home w n) e

  home_steps : is_live w n ≡ true → Q (runs w (home w n) e).world
  home_steps live =
      let at = first_place (holds_it n) w.devices (home w n) (home_found w n live) in
      changes (runs w (home w n) e).world at.0 (record {
        here = at.1;
        devices =
            ran_devices w s
            ∙ (ap (λ k. store (λ x. x.id) k s.device w.devices) same_id
            ∙ store_place (λ x. x.id) w.devices at.0 (home w n) s.device ids at.1.here);
      })

  live_or : (b : Bool) → is_live w n ≡ b → (r : Option Refusal) → first_cause (context_causes w n []) ≡ r → Q (step.by_refusal w r (runs w (home w n) e)).world
  live_or b h (Some r) t = stays
  live_or true h None t = home_steps h
  live_or false h None t = absurd (dead_cause (is_live w n) (step.is_carried w n) h t)

  pub turned_world : Q (world_step w (world_events.At e)).world
  unfolding world_step step.steps_at
  turned_world = live_or _ refl _ refl

-- ---- the end of a name, before and after

module _ (w w' : World) (o : ObjName) (i : ℕ) (d' : Device) (h : HomeChanges w w' o.context i d') (same : device_outline d' ≡ device_outline (home w o.context)) where
  pub home_after : home w' o.context ≡ d'
  unfolding home
  home_after =
      ap (λ ds. or_none (first_that (λ z. has_context z o.context) ds)) h.devices
      ∙ ap or_none (h.here.later d' (has_same o.context (home w o.context) d' same ∙ h.here.passes))

  pub at_home : link_at w' o ≡ (end_at (context_at d' o.context) o.name).link
  unfolding live_context
  at_home = ap (λ z. (end_at (context_at z o.context) o.name).link) home_after
