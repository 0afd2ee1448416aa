-- A transmission changes no mark.
use Rattle.std.proofs.Common.{◌≡◌, List, [], ◌∷◌, ◌++◌, map, Bool, true, false, refl, sym, ap, ◌∙◌, eq-eqb}
use Rattle.std.specs.Prelude.{Option, Some, None, flat_map, ◌==◌, if◌then◌else◌}
use Rattle.std.specs.List.{IsDistinct}
use Rattle.rdma_types.specs.Causes.{first_cause}
use Rattle.rdma_types.specs.Lists.{first_that, has_name, named, store, store_named}
use Rattle.rdma_types.specs.declared.answers.Refusal.{Refusal}
use Rattle.rdma_types.specs.declared.names.Name.{Name}
use Rattle.rdma_types.specs.declared.names.ObjName.{ObjName}
use Rattle.protocol.specs.declared.events.Event.TheVariants as event
use Rattle.protocol.specs.declared.images.ContextImage.{ContextImage}
use Rattle.protocol.specs.Refusals.{has_context, refusal_of}
use Rattle.protocol.specs.Requester.{IsFenced, IsIdle, ReadsAreFull, Sends, SendsResume, Transmission, Waits, WindowIsFull, transmission, transmitted}
use Rattle.protocol.specs.EndWords.{linked, with_end, with_link, with_sender}
use Rattle.protocol.specs.State.{Context, Device, End, Link, World, context_at, end_at, no_context, no_end}
use Rattle.protocol.specs.DeviceStep as device
use Rattle.protocol.specs.WorldStep.{by_refusal, context_causes, home, or_none, ran, runs, steps_at, with_device, with_image, with_sent, world_step}
use Rattle.protocol.specs.Settle.{Mark, live_ends, mark_of, marks, transmit}
use Rattle.law_simulation.proofs.relation.Tables.{flat_map-store, map-store, name-named_there, named-absent}
use Rattle.world_core.specs.Places.{HaveOwnIds}
use Rattle.settle_core.proofs.Listed.{map_flat}
use Rattle.settle_core.proofs.Turns.{first_apart, none_passes, refused}

-- ---- marks by contexts and devices

abbrev context_marks : Context → List Mark
context_marks c = map (λ e. mark_of e.link) c.ends

abbrev device_marks : Device → List Mark
device_marks d = flat_map context_marks d.contexts

marks_are : (w : World) → marks w ≡ flat_map device_marks w.devices
unfolding live_ends
marks_are w =
    map_flat (λ (e : End). mark_of e.link) (λ (d : Device). flat_map (λ c. c.ends) d.contexts) device_marks w.devices (λ d.
    map_flat (λ (e : End). mark_of e.link) (λ (c : Context). c.ends) context_marks d.contexts (λ c. refl))

-- a device that is found is stored in its own place
stored_marks : (p : Device → Bool) (ds : List Device) (d e : Device) → HaveOwnIds ds → first_that p ds ≡ Some d → device_marks e ≡ device_marks d → flat_map device_marks (store (λ x. x.id) d.id e ds) ≡ flat_map device_marks ds
unfolding first_that store IsDistinct
stored_marks p [] d e own h same = absurd (cc)
stored_marks p (x ∷ xs) d e own h same = by (p x) h (λ g. stored_marks p xs d e own.1 g same)
  where
    chosen : (b : Bool) → b ≡ true → x ≡ d → flat_map device_marks (if b then e ∷ xs else x ∷ store (λ z. z.id) d.id e xs) ≡ flat_map device_marks (x ∷ xs)
    chosen true t is = ap (λ ms. ms ++ flat_map device_marks xs) (same ∙ ap device_marks (sym is))
    chosen false t is = absurd (cc)

    passed : (b : Bool) → b ≡ false → flat_map device_marks (store (λ z. z.id) d.id e xs) ≡ flat_map device_marks xs → flat_map device_marks (if b then e ∷ xs else x ∷ store (λ z. z.id) d.id e xs) ≡ flat_map device_marks (x ∷ xs)
    passed true t rest = absurd (cc)
    passed false t rest = ap (λ ms. device_marks x ++ ms) rest

    by : (b : Bool) → (if b then Some x else first_that p xs) ≡ Some d → (first_that p xs ≡ Some d → flat_map device_marks (store (λ z. z.id) d.id e xs) ≡ flat_map device_marks xs) → flat_map device_marks (if x.id == d.id then e ∷ xs else x ∷ store (λ z. z.id) d.id e xs) ≡ flat_map device_marks (x ∷ xs)
    by true g later = let is : x ≡ d = cc in chosen (x.id == d.id) (eq-eqb x.id d.id (ap (λ (z : Device). z.id) is)) is
    by false g later = passed (x.id == d.id) (first_apart p x.id xs d own.0 g) (later g)

-- ---- an end that is stored in its own place

has_end_by : (b : Bool) (n : Name) (es : List End) (l : Link) → has_name (λ e. e.name) n es ≡ b → (named (λ e. e.name) no_end n es).link ≡ Some l → b ≡ true
has_end_by true n es l h there = refl
has_end_by false n es l h there = absurd (cc (ap (λ e. e.link) (named-absent (λ e. e.name) no_end n es h), there))

has_context_by : (b : Bool) (n m : Name) (cs : List Context) (l : Link) → has_name (λ c. c.name) n cs ≡ b → (end_at (named (λ c. c.name) no_context n cs) m).link ≡ Some l → b ≡ true
unfolding named
has_context_by true n m cs l h there = refl
has_context_by false n m cs l h there = absurd (cc (ap (λ c. (end_at c m).link) (named-absent (λ c. c.name) no_context n cs h), there))

linked_marks : (c : Context) (n : Name) (l l' : Link) → (end_at c n).link ≡ Some l → mark_of (Some l') ≡ mark_of (Some l) → context_marks (linked c (end_at c n) l') ≡ context_marks c
unfolding with_end with_link
linked_marks c n l l' there same =
    let has : has_name (λ e. e.name) n c.ends ≡ true = let b = has_name (λ e. e.name) n c.ends in has_end_by b n c.ends l refl there in
    let name : (end_at c n).name ≡ n = name-named_there (λ (e : End). e.name) no_end n c.ends has in
    let e' : End = record (end_at c n) { link = Some l' } in
    ap (λ k. map (λ e. mark_of e.link) (store_named (λ e. e.name) k e' c.ends)) name
    ∙ map-store (λ (e : End). mark_of e.link) (λ e. e.name) no_end n e' c.ends has (same ∙ ap mark_of (sym there))

-- ---- a device's step

-- the device keeps its id and its marks
record Keeps (d e : Device) : Type 0 where
  id : e.id ≡ d.id
  marks : device_marks e ≡ device_marks d

keeps_itself : (d : Device) → Keeps d d
keeps_itself d = record { id = refl; marks = refl }

sent_keeps : (d : Device) (o : ObjName) (l l' : Link) → (end_at (context_at d o.context) o.name).link ≡ Some l → mark_of (Some l') ≡ mark_of (Some l) →
    Keeps d (device.with_context d (linked (context_at d o.context) (end_at (context_at d o.context) o.name) l'))
unfolding device.with_context with_end
sent_keeps d o l l' there same =
    let c = context_at d o.context in
    let has : has_name (λ x. x.name) o.context d.contexts ≡ true = has_context_by (has_name (λ x. x.name) o.context d.contexts) o.context o.name d.contexts l refl there in
    let name : c.name ≡ o.context = name-named_there (λ (x : Context). x.name) no_context o.context d.contexts has in
    let x = linked c (end_at c o.name) l' in
    record {
      id = refl;
      marks = ap (λ k. flat_map context_marks (store_named (λ z. z.name) k x d.contexts)) name ∙ flat_map-store context_marks (λ (z : Context). z.name) no_context o.context x d.contexts has (linked_marks c o.name l l' there same);
    }

module _ (d : Device) (o : ObjName) where
  abbrev c : Context
  c = context_at d o.context

  abbrev e : End
  e = end_at c o.name

  by_row : (l : Link) → e.link ≡ Some l → (t : Transmission) → Keeps d (device.sends_by d c e l t).device
  unfolding device.sends_piece transmitted with_sender
  by_row l there SendsResume = keeps_itself d
  by_row l there Waits = keeps_itself d
  by_row l there IsIdle = keeps_itself d
  by_row l there WindowIsFull = keeps_itself d
  by_row l there ReadsAreFull = keeps_itself d
  by_row l there IsFenced = keeps_itself d
  by_row l there (Sends x) = sent_keeps d o l (transmitted l x) there refl

  by_link : (k : Option Link) → e.link ≡ k → Keeps d (device.at_link d k (λ l. device.sends_by d c e l (transmission l))).device
  by_link None there = keeps_itself d
  by_link (Some l) there = by_row l there (transmission l)

  transmits_keeps : Keeps d (device.device_step d (event.Transmit o)).device
  unfolding device.device_step device.transmits
  transmits_keeps = by_cause (refusal_of d (event.Transmit o))
    where
      by_cause : (r : Option Refusal) → Keeps d (device.by_refusal d (event.Transmit o) r).device
      by_cause (Some r) = keeps_itself d
      by_cause None = by_link e.link refl

-- ---- the step of the world

ran_devices : (w : World) (s : device.Step) → (ran w s).world.devices ≡ store (λ x. x.id) s.device.id s.device w.devices
unfolding ran with_device
ran_devices w s = by s.outcome.image
  where
    by : (i : Option ContextImage) → (with_image i (with_device (with_sent w s.device.address s) s.device)).devices ≡ store (λ x. x.id) s.device.id s.device w.devices
    by None = refl
    by (Some image) = refl

ran_marks : (w : World) (p : Device → Bool) (d : Device) (s : device.Step) → HaveOwnIds w.devices → first_that p w.devices ≡ Some d → Keeps d s.device → flat_map device_marks (ran w s).world.devices ≡ flat_map device_marks w.devices
ran_marks w p d s own found keeps =
    ap (flat_map device_marks) (ran_devices w s)
    ∙ (ap (λ k. flat_map device_marks (store (λ x. x.id) k s.device w.devices)) keeps.id ∙ stored_marks p w.devices d s.device own found keeps.marks)

device_marked : (w : World) (o : ObjName) → HaveOwnIds w.devices → flat_map device_marks (world_step w (transmit o)).world.devices ≡ flat_map device_marks w.devices
unfolding world_step steps_at home
device_marked w o own = by_home (first_that (λ d. has_context d o.context) w.devices) refl
  where
    by_cause : (d : Device) → first_that (λ x. has_context x o.context) w.devices ≡ Some d → (r : Option Refusal) → flat_map device_marks (by_refusal w r (runs w d (event.Transmit o))).world.devices ≡ flat_map device_marks w.devices
    by_cause d found (Some r) = refl
    by_cause d found None = ran_marks w (λ x. has_context x o.context) d (device.device_step d (event.Transmit o)) own found (transmits_keeps d o)

    by_home : (f : Option Device) → first_that (λ d. has_context d o.context) w.devices ≡ f → flat_map device_marks (by_refusal w (first_cause (context_causes w o.context [])) (runs w (or_none f) (event.Transmit o))).world.devices ≡ flat_map device_marks w.devices
    by_home (Some d) found = by_cause d found (first_cause (context_causes w o.context []))
    by_home None found =
        let r = refused w o (none_passes (λ d. has_context d o.context) w.devices found) in
        ap (λ (x : Option Refusal). flat_map device_marks (by_refusal w x (runs w (or_none None) (event.Transmit o))).world.devices) r.1

pub transmit_marks : (w : World) (o : ObjName) → HaveOwnIds w.devices → marks (world_step w (transmit o)).world ≡ marks w
transmit_marks w o own = marks_are (world_step w (transmit o)).world ∙ (device_marked w o own ∙ sym (marks_are w))
