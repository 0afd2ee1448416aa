-- A transmission that sends nothing changes nothing.
use Rattle.std.proofs.Common.{◌≡◌, ℕ, List, [], ◌∷◌, map, Bool, true, false, refl, sym, ap, ◌∙◌, subst, eq-eqb}
use Rattle.std.specs.Prelude.{Option, Some, None, nat_eq, ◌==◌, ◌&&◌, ◌||◌, not, if◌then◌else◌}
use Rattle.std.specs.List.{AllByRecursion, IsDistinct}
use Rattle.std.proofs.lemmas.List.{append-nil}
use Rattle.rdma_types.specs.Causes.{first_cause}
use Rattle.rdma_types.specs.Lists.{first_that, some, store}
use Rattle.rdma_types.specs.declared.answers.Answer.{Answer}
use Rattle.rdma_types.specs.declared.answers.Answer.TheVariants as answer
use Rattle.rdma_types.specs.declared.answers.Refusal.{Refusal}
use Rattle.rdma_types.specs.declared.answers.Refusal.TheVariants as refusal
use Rattle.rdma_types.specs.declared.names.ObjName.{ObjName}
use Rattle.protocol.specs.declared.events.Event.TheVariants as event
use Rattle.protocol.specs.Fabric.{sending}
use Rattle.protocol.specs.Refusals.{has_context, refusal_of}
use Rattle.protocol.specs.Requester.{IsFenced, IsIdle, ReadsAreFull, Sends, SendsResume, Transmission, Waits, WindowIsFull, transmission}
use Rattle.protocol.specs.State.{Context, Device, End, Link, World, context_at, end_at}
use Rattle.protocol.specs.DeviceStep as device
use Rattle.protocol.specs.WorldStep.{by_refusal, context_causes, home, is_carried, is_live, numbered, or_none, ran, runs, steps_at, with_device, world_step}
use Rattle.protocol.specs.Settle.{Settling, is_sent, settle_step, transmit}
use Rattle.world_core.specs.Places.{HaveOwnIds}
use Rattle.settle_core.proofs.Sweeps.{still_to}

-- ---- the device that is stored in its own place

pub first_apart : (p : Device → Bool) (n : ℕ) (ds : List Device) (d : Device) → AllByRecursion (λ m. nat_eq n m ≡ false) (map (λ (x : Device). x.id) ds) → first_that p ds ≡ Some d → nat_eq n d.id ≡ false
unfolding first_that
first_apart p n [] d all h = absurd (cc)
first_apart p n (x ∷ xs) d all h = by (p x) h (first_apart p n xs d all.1)
  where
    by : (b : Bool) → (if b then Some x else first_that p xs) ≡ Some d → (first_that p xs ≡ Some d → nat_eq n d.id ≡ false) → nat_eq n d.id ≡ false
    by true g later = let same : x ≡ d = cc in subst (λ (z : Device). nat_eq n z.id ≡ false) same all.0
    by false g later = later g

stored_same : (p : Device → Bool) (ds : List Device) (d : Device) → HaveOwnIds ds → first_that p ds ≡ Some d → store (λ x. x.id) d.id d ds ≡ ds
unfolding first_that store IsDistinct
stored_same p [] d own h = absurd (cc)
stored_same p (x ∷ xs) d own h = by (p x) refl h (λ g. stored_same p xs d own.1 g)
  where
    chosen : (b : Bool) → (x.id == d.id) ≡ b → b ≡ true → x ≡ d → (if b then d ∷ xs else x ∷ store (λ z. z.id) d.id d xs) ≡ x ∷ xs
    chosen true e t same = ap (λ z. z ∷ xs) (sym same)
    chosen false e t same = absurd (cc)

    passed : (b : Bool) → b ≡ false → store (λ z. z.id) d.id d xs ≡ xs → (if b then d ∷ xs else x ∷ store (λ z. z.id) d.id d xs) ≡ x ∷ xs
    passed true t rest = absurd (cc)
    passed false t rest = ap (λ zs. x ∷ zs) rest

    by : (b : Bool) → p x ≡ b → (if b then Some x else first_that p xs) ≡ Some d → (first_that p xs ≡ Some d → store (λ z. z.id) d.id d xs ≡ xs) → (if x.id == d.id then d ∷ xs else x ∷ store (λ z. z.id) d.id d xs) ≡ x ∷ xs
    by true t g later = let same : x ≡ d = cc in chosen (x.id == d.id) refl (eq-eqb x.id d.id (ap (λ (z : Device). z.id) same)) same
    by false t g later = passed (x.id == d.id) (first_apart p x.id xs d own.0 g) (later g)

pub none_passes : (p : Device → Bool) (ds : List Device) → first_that p ds ≡ None → some p ds ≡ false
unfolding first_that some
none_passes p [] h = refl
none_passes p (x ∷ xs) h = by (p x) h (none_passes p xs)
  where
    by : (b : Bool) → (if b then Some x else first_that p xs) ≡ None → (first_that p xs ≡ None → some p xs ≡ false) → (b || some p xs) ≡ false
    by true g later = absurd (cc)
    by false g later = later g

-- ---- the step

unchanged : (w : World) (d : Device) (a : Answer) → store (λ x. x.id) d.id d w.devices ≡ w.devices → (ran w (device.answers d a)).world ≡ w
unfolding ran with_device sending
unchanged w d a h = λ i. record { devices = h i; sent = append-nil w.sent i; carried = w.carried; stopped = w.stopped }

-- a transmission answers Sent, or changes nothing of the device
record Still (d : Device) (s : device.Step) : Type 0 where
  word : Answer
  is : s ≡ device.answers d word

unsent : (w : World) (d : Device) (c : Context) (e : End) (o : Option Link) → is_sent (ran w (device.at_link d o (λ l. device.sends_by d c e l (transmission l)))).answer ≡ false → Still d (device.at_link d o (λ l. device.sends_by d c e l (transmission l)))
unfolding ran numbered device.sends_piece
unsent w d c e None h = record { word = answer.Done; is = refl }
unsent w d c e (Some l) h = by (transmission l) h
  where
    by : (t : Transmission) → is_sent (ran w (device.sends_by d c e l t)).answer ≡ false → Still d (device.sends_by d c e l t)
    by SendsResume g = absurd (cc)
    by Waits g = record { word = answer.Waiting; is = refl }
    by IsIdle g = record { word = answer.Idle; is = refl }
    by WindowIsFull g = record { word = answer.WindowFull; is = refl }
    by ReadsAreFull g = record { word = answer.ReadsFull; is = refl }
    by IsFenced g = record { word = answer.Fenced; is = refl }
    by (Sends x) g = absurd (cc)

ran_still : (w : World) (d : Device) (s : device.Step) → store (λ x. x.id) d.id d w.devices ≡ w.devices → Still d s → (ran w s).world ≡ w
ran_still w d s same h = ap (λ (x : device.Step). (ran w x).world) h.is ∙ unchanged w d h.word same

device_still : (w : World) (d : Device) (o : ObjName) → store (λ x. x.id) d.id d w.devices ≡ w.devices → is_sent (runs w d (event.Transmit o)).answer ≡ false → (runs w d (event.Transmit o)).world ≡ w
unfolding device.device_step device.transmits
device_still w d o same h = by (refusal_of d (event.Transmit o)) h
  where
    by : (r : Option Refusal) → is_sent (ran w (device.by_refusal d (event.Transmit o) r)).answer ≡ false → (ran w (device.by_refusal d (event.Transmit o) r)).world ≡ w
    by (Some r) g = unchanged w d _ same
    by None g =
        ran_still w d _ same (unsent w d (context_at d o.context) (end_at (context_at d o.context) o.name) (end_at (context_at d o.context) o.name).link g)

-- where no device has the context, the step is refused
pub refused : (w : World) (o : ObjName) → is_live w o.context ≡ false → (r : Refusal) × (first_cause (context_causes w o.context []) ≡ Some r)
unfolding first_cause
refused w o h = by (is_live w o.context) (is_carried w o.context) h
  where
    by : (a b : Bool) → a ≡ false → (r : Refusal) × ((if not a && not b then Some refusal.NoSuch else if not a then Some refusal.Stopped else None) ≡ Some r)
    by true b g = absurd (cc)
    by false true g = (refusal.Stopped, refl)
    by false false g = (refusal.NoSuch, refl)

pub unsent_still : (w : World) (o : ObjName) → HaveOwnIds w.devices → is_sent (world_step w (transmit o)).answer ≡ false → (world_step w (transmit o)).world ≡ w
unfolding world_step steps_at home
unsent_still w o own h = by_home (first_that (λ d. has_context d o.context) w.devices) refl
  where
    by_cause : (d : Device) → store (λ x. x.id) d.id d w.devices ≡ w.devices → (r : Option Refusal) → is_sent (by_refusal w r (runs w d (event.Transmit o))).answer ≡ false → (by_refusal w r (runs w d (event.Transmit o))).world ≡ w
    by_cause d same (Some r) g = refl
    by_cause d same None g = device_still w d o same g

    by_home : (f : Option Device) → first_that (λ d. has_context d o.context) w.devices ≡ f → (by_refusal w (first_cause (context_causes w o.context [])) (runs w (or_none (first_that (λ d. has_context d o.context) w.devices)) (event.Transmit o))).world ≡ w
    by_home (Some d) e =
        subst (λ (x : Option Device). is_sent (by_refusal w (first_cause (context_causes w o.context [])) (runs w (or_none x) (event.Transmit o))).answer ≡ false → (by_refusal w (first_cause (context_causes w o.context [])) (runs w (or_none x) (event.Transmit o))).world ≡ w) (sym e)
        (by_cause d (stored_same (λ x. has_context x o.context) w.devices d own e) (first_cause (context_causes w o.context []))) h
    by_home None e =
        let r = refused w o (none_passes (λ d. has_context d o.context) w.devices e) in
        ap (λ (x : Option Refusal). (by_refusal w x (runs w (or_none (first_that (λ d. has_context d o.context) w.devices)) (event.Transmit o))).world) r.1

-- .. so the state stays as it was
pub unsent_stays : (s : Settling) (o : ObjName) → HaveOwnIds s.world.devices → is_sent (world_step s.world (transmit o)).answer ≡ false → settle_step s (transmit o) ≡ s
unfolding settle_step
unsent_stays s o own h = still_to s (world_step s.world (transmit o)).world (unsent_still s.world o own h)
