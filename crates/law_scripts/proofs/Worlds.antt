-- A world stays sound.
use Rattle.std.proofs.Common.{arith, ◌≡◌, ◌≤◌, ◌<◌, ◌^◌, ℕ, List, [], ◌∷◌, true, false, Bool, refl, sym, subst}
use Rattle.std.specs.Prelude.{All, ◌==◌, ◌&&◌, ◌||◌, not, nat_lt, Option, Some, None, IfSome, if◌then◌else◌, is_some}
use Rattle.std.proofs.lemmas.Bool.Decides.{nat_tests}
use Rattle.std.proofs.lemmas.List.Elements.{All-cons, All-head, All-nil, All-push, All-tail}
use Rattle.rdma_types.specs.declared.answers.Answer.TheVariants as answer
use Rattle.rdma_types.specs.declared.answers.Refusal.{Refusal}
use Rattle.rdma_types.specs.declared.answers.Refusal.TheVariants as refusal
use Rattle.rdma_types.specs.declared.names.Name.{Name}
use Rattle.rdma_types.specs.declared.names.ObjName.{ObjName}
use Rattle.rdma_types.specs.declared.requests.Address.{Address}
use Rattle.rdma_types.specs.declared.requests.Terms.{Terms}
use Rattle.rdma_types.specs.Causes.{Cause, cause, first_cause}
use Rattle.rdma_types.specs.Limits.{AreTerms, most_keys, most_numbers}
use Rattle.rdma_types.specs.Lists.{at, first_that, has, store}
use Rattle.rdma_types.specs.Spelled.{is_name}
use Rattle.protocol.specs.declared.events.Event.{Event}
use Rattle.protocol.specs.declared.events.Event.TheVariants as events
use Rattle.protocol.specs.declared.events.WorldEvent.{WorldEvent}
use Rattle.protocol.specs.declared.events.WorldEvent.TheVariants as world_events
use Rattle.protocol.specs.declared.images.ContextImage.{ContextImage}
use Rattle.protocol.specs.DeviceStep as device
use Rattle.protocol.specs.DeviceStep.{device_step}
use Rattle.protocol.specs.Events.{IsLawfulEvent, IsLawfulWorldEvent}
use Rattle.protocol.specs.Fabric.{Look, IsGone, IsLost, IsAged, Here, kept_flight, look, losing}
use Rattle.protocol.specs.Images.{image_of}
use Rattle.protocol.specs.Lawful.{IsLawful, is_number}
use Rattle.protocol.specs.Refusals.{has_end, is_init}
use Rattle.protocol.specs.State.{Context, Device, Flight, World, context_at, device_at, empty_world, end_at, fresh_link, no_context, no_device, no_end}
use Rattle.protocol.specs.WorldStep as step
use Rattle.protocol.specs.WorldStep.{connects_one, context_of_event, device_with, exchanged, has_device, home, is_live, live_context, now_of, ran, restored_by, runs, with_device, with_image, with_sent, with_taken, without_image, world_step}
use Rattle.protocol.specs.Settle.{settled}
use Rattle.packetless_machine.specs.Machine.{Machine}
use Rattle.law_simulation.specs.Stands.{Stands}
use Rattle.law_simulation.proofs.relation.Linked as linking
use Rattle.law_simulation.proofs.relation.Linked.{connected_world, linked_changed, linked_of, live_kept}
use Rattle.law_simulation.proofs.relation.Refusing.{first_no, later_no, not_lacking}
use Rattle.law_simulation.proofs.relation.Tables.{All-named, All-without, named-absent}
use Rattle.law_simulation.proofs.relation.Worlds.{holds_it, home_found, home_holds}
use Rattle.law_settling.specs.Settling.{IsSettling, IsTurn}
use Rattle.law_settling.proofs.steps.Made.{settled_keeps}
use Rattle.law_devices.specs.Sound.{GivesNames, IsSoundContext, IsSoundDevice, IsSoundEnd, names_of_queues, plans}
use Rattle.law_scripts.specs.Sound.{IsSoundWorld, NamesThings}
use Rattle.law_scripts.proofs.Images.{HandsOutLawful, image_lawful}

-- ---- lists

all_stored : {A : Type 0} (P : A → Type 0) (number : A → ℕ) (k : ℕ) (e : A) (xs : List A) → All P xs → P e → All P (store number k e xs)
unfolding store
all_stored P number k e [] all is = All-cons P e [] is (All-nil P)
all_stored P number k e (x ∷ xs) all is = by (number x == k) (all_stored P number k e xs (All-tail P x xs all) is)
  where
    by : (b : Bool) → All P (store number k e xs) → All P (if b then e ∷ xs else x ∷ store number k e xs)
    by true later = All-cons P e xs is (All-tail P x xs all)
    by false later = All-cons P x (store number k e xs) (All-head P x xs all) later

all_first : {A : Type 0} (P : A → Type 0) (test : A → Bool) (xs : List A) (x : A) → All P xs → first_that test xs ≡ Some x → P x
unfolding first_that
all_first P test [] x all h = absurd (cc)
all_first {A} P test (y ∷ ys) x all h = by (test y) h (all_first P test ys x (All-tail P y ys all))
  where
    by : (b : Bool) → (if b then Some y else first_that test ys) ≡ Some x → (first_that test ys ≡ Some x → P x) → P x
    by true g later = let same : y ≡ x = cc in subst P same (All-head P y ys all)
    by false g later = later g

all_at : {A : Type 0} (P : A → Type 0) (number : A → ℕ) (none : A) (k : ℕ) (xs : List A) → All P xs → has number k xs ≡ true → P (at number none k xs)
unfolding at has
all_at P number none k [] all h = absurd (cc)
all_at P number none k (x ∷ xs) all h = by (number x == k) h (all_at P number none k xs (All-tail P x xs all))
  where
    by : (b : Bool) → (b || has number k xs) ≡ true → (has number k xs ≡ true → P (at number none k xs)) → P (if b then x else at number none k xs)
    by true g later = All-head P x xs all
    by false g later = later g

neither : (a b : Bool) → (a || b) ≡ false → (a ≡ false) × (b ≡ false)
neither true b h = absurd (cc)
neither false true h = absurd (cc)
neither false false h = (refl, refl)

first_of_both : (a b : Bool) → (a && b) ≡ true → a ≡ true
first_of_both true b h = refl
first_of_both false b h = absurd (cc)

-- ---- what a world has

home_sound : (w : World) (n : Name) → IsSoundWorld w → is_live w n ≡ true → IsSoundDevice (home w n)
home_sound w n s live = all_first IsSoundDevice (holds_it n) w.devices (home w n) s.devices (home_found w n live)

context_sound : (w : World) (n : Name) → IsSoundWorld w → is_live w n ≡ true → IsSoundContext (context_at (home w n) n)
context_sound w n s live = All-named IsSoundContext (λ c. c.name) no_context n (home w n).contexts (home_sound w n s live).contexts (home_holds w n live)

small : (n : ℕ) → is_number n ≡ true → n < 2 ^ 24
small n h = let less = first_of_both (nat_lt n 16777216) _ h in grind (arith, nat_tests, less)

-- the number of an end has 24 bits
number_small : (w : World) (o : ObjName) → IsSoundWorld w → is_live w o.context ≡ true → (step.end_of w o).number < 2 ^ 24
unfolding live_context
number_small w o s live = by (has_end c o.name) refl
  where
    c : Context
    c = context_at (home w o.context) o.context

    by : (b : Bool) → has_end c o.name ≡ b → (end_at c o.name).number < 2 ^ 24
    by true h =
        let there : IsSoundEnd c.domains (names_of_queues c.queues) (plans c.regions) (end_at c o.name) =
        All-named (IsSoundEnd c.domains (names_of_queues c.queues) (plans c.regions)) (λ e. e.name) no_end o.name c.ends (context_sound w o.context s live).parts.ends h in
        small (end_at c o.name).number there.number
    by false h = rw (named-absent (λ e. e.name) no_end o.name c.ends h) (omega arith)

-- ---- steps

-- what the laws of devices say
pub record AreLaws : Type 0 where
  pub new : (d : Device) → 1 ≤ d.id → d.id ≤ 255 → d.qp_count ≤ most_numbers → d.key_count ≤ most_keys → d.contexts ≡ [] → IsSoundDevice d
  pub step : (d : Device) (e : Event) → IsSoundDevice d → IsLawfulEvent e → GivesNames e → IsSoundDevice (device_step d e).device
  pub image : (c : Context) → IsSoundContext c → IsLawful (image_of c)

ran_sound : (w : World) (s : device.Step) → IsSoundWorld w → IsSoundDevice s.device → HandsOutLawful s → IsSoundWorld (ran w s).world
unfolding ran with_device
ran_sound w s sound is lawful = by s.outcome.image lawful
  where
    after : World
    after = with_device (with_sent w s.device.address s) s.device

    devices : All IsSoundDevice after.devices
    devices = all_stored IsSoundDevice (λ x. x.id) s.device.id s.device w.devices sound.devices is

    by : (i : Option ContextImage) → IfSome i IsLawful → IsSoundWorld (with_image i after)
    by None h = record { devices = devices; carried = sound.carried }
    by (Some i) h = record { devices = devices; carried = All-push IsLawful w.carried i sound.carried h }

refusal_sound : (w : World) (r : Option Refusal) (s : step.Step) → IsSoundWorld w → (r ≡ None → IsSoundWorld s.world) → IsSoundWorld (step.by_refusal w r s).world
refusal_sound w (Some r) s sound later = sound
refusal_sound w None s sound later = later refl

same_sound : (w w' : World) → w'.devices ≡ w.devices → w'.carried ≡ w.carried → IsSoundWorld w → IsSoundWorld w'
same_sound w w' devices carried s = record { devices = subst (All IsSoundDevice) (sym devices) s.devices; carried = subst (All IsLawful) (sym carried) s.carried }

live_of_causes : (w : World) (n : Name) (more : List Cause) → first_cause (step.context_causes w n more) ≡ None → is_live w n ≡ true
live_of_causes w n more h = not_lacking (is_live w n) (first_no refusal.Stopped _ more (later_no refusal.NoSuch _ _ h))

there_of_causes : (w : World) (k : ℕ) (more : List Cause) → first_cause (cause refusal.NoSuch (not (has_device w k)) ∷ more) ≡ None → has_device w k ≡ true
there_of_causes w k more h = not_lacking (has_device w k) (first_no refusal.NoSuch _ more h)

device_sound : (w : World) (k : ℕ) → IsSoundWorld w → has_device w k ≡ true → IsSoundDevice (device_at w k)
device_sound w k s there = all_at IsSoundDevice (λ d. d.id) no_device k w.devices s.devices there

exchanged_terms : (t : Terms) → AreTerms t → AreTerms (exchanged t)
exchanged_terms t h = record { mtu = h.mtu; own_start = h.peer_start; peer_start = h.own_start; retry = h.retry; rnr = h.rnr; some_reads = h.some_reads; few_reads = h.few_reads }

module _ (laws : AreLaws) where
  runs_sound : (w : World) (d : Device) (e : Event) → IsSoundWorld w → IsSoundDevice d → IsLawfulEvent e → GivesNames e → IsSoundWorld (runs w d e).world
  runs_sound w d e s is lawful named = ran_sound w (device_step d e) s (laws.step d e is lawful named) (image_lawful laws.image d e is)

  -- ---- making, and events of contexts

  added : (w : World) (id : ℕ) (address : Address) → IsSoundWorld w → 1 ≤ id → id ≤ 255 → IsSoundWorld (step.adds_device w id address).world
  unfolding step.adds_device
  added w id address s some few =
      let d : Device = record { id = id; address = address; qp_count = 0; key_count = 0; contexts = []; husks = [] } in
      refusal_sound w _ _ s (λ h. record { devices = All-push IsSoundDevice w.devices d s.devices (laws.new d some few (omega arith) (omega arith) refl); carried = s.carried })

  made : (w : World) (n : Name) (k : ℕ) → IsSoundWorld w → is_name n ≡ true → IsSoundWorld (step.makes_context w n k).world
  unfolding step.makes_context
  made w n k s named = refusal_sound w _ _ s (λ h. runs_sound w (device_at w k) (events.MakeContext n) s (device_sound w k s (there_of_causes w k _ h)) tt named)

  stepped : (w : World) (n : Name) (e : Event) → IsSoundWorld w → IsLawfulEvent e → GivesNames e → IsSoundWorld (step.steps_at w n e).world
  unfolding step.steps_at
  stepped w n e s lawful named = refusal_sound w _ _ s (λ h. runs_sound w (home w n) e s (home_sound w n s (live_of_causes w n [] h)) lawful named)

  -- ---- connecting

  joined : (w : World) (one two : ObjName) (terms : Terms) → IsSoundWorld w → is_live w one.context ≡ true → is_live w two.context ≡ true → AreTerms terms → IsSoundWorld (connects_one w one two terms)
  unfolding connects_one
  joined w one two terms s live1 live2 are =
      runs_sound w (home w one.context) (events.Connect one (step.end_of w two).number (home w two.context).address terms) s (home_sound w one.context s live1) (number_small w two s live2, are) tt

  -- a context that lives goes on living where another is connected
  still_live : (w : World) (m : Machine) (one two : ObjName) (terms : Terms) (n : Name) → Stands w m → is_live w one.context ≡ true → is_live w n ≡ true → step.has_live_end w one ≡ true → is_init (step.end_of w one).link ≡ true → is_live (connects_one w one two terms) n ≡ true
  unfolding connects_one live_context
  still_live w m one two terms n stands live1 live there init =
      let a : Address = (home w two.context).address in
      let number : ℕ = (step.end_of w two).number in
      subst (λ v. is_live v n ≡ true) (sym (linking.connects w one number a terms live1 there init))
      (live_kept w (connected_world w one (fresh_link number a terms)) m one.context (linked_of w one (fresh_link number a terms)) n
      (linked_changed w m one (fresh_link number a terms) stands.placed live1) stands.placed live)

  connected : (w : World) (m : Machine) (one two : ObjName) (terms : Terms) → Stands w m → IsSoundWorld w → AreTerms terms → IsSoundWorld (step.connects w one two terms).world
  unfolding step.connects
  connected w m one two terms stands s are = refusal_sound w _ _ s both
    where
      both : first_cause (step.connect_causes w one two) ≡ None → IsSoundWorld (connects_one (connects_one w one two terms) two one (exchanged terms))
      both h =
          let after1 = later_no refusal.NoSuch _ _ h in
          let after2 = later_no refusal.Stopped _ _ after1 in
          let after3 = later_no refusal.NoSuch _ _ after2 in
          let lives = neither _ _ (first_no refusal.Stopped _ _ after1) in
          let ends = neither _ _ (first_no refusal.NoSuch _ _ after2) in
          let inits = neither _ _ (first_no refusal.BadState _ [] after3) in
          let live1 = not_lacking (is_live w one.context) lives.0 in
          let live2 = not_lacking (is_live w two.context) lives.1 in
          let there = not_lacking (step.has_live_end w one) ends.0 in
          let init = not_lacking (is_init (step.end_of w one).link) inits.0 in
          let w1 : World = connects_one w one two terms in
          joined w1 two one (exchanged terms) (joined w one two terms s live1 live2 are)
          (still_live w m one two terms two.context stands live1 live2 there init)
          (still_live w m one two terms one.context stands live1 live1 there init)
          (exchanged_terms terms are)

  -- ---- the network

  reached : (w : World) (f : Flight) (o : Option Device) → device_with w f.to ≡ o → IsSoundWorld w → IsSoundWorld (step.reaches w f o).world
  reached w f None h s = s
  reached w f (Some d) h s = runs_sound w d (events.Arrive f.from f.bytes) s (all_first IsSoundDevice _ w.devices d s.devices h) tt tt

  looked : (w : World) (k : ℕ) (x : Look) → IsSoundWorld w → IsSoundWorld (step.delivers_by w k x).world
  looked w k IsGone s = s
  looked w k IsLost s = s
  looked w k IsAged s = same_sound w (with_taken w k) refl refl s
  looked w k (Here f) s = reached (with_taken w k) f (device_with w f.to) refl (same_sound w (with_taken w k) refl refl s)

  delivered : (w : World) (k : ℕ) → IsSoundWorld w → IsSoundWorld (step.delivers w k).world
  unfolding step.delivers
  delivered w k s = looked w k (look w.sent k (now_of w (kept_flight w.sent k))) s

  lost : (w : World) (k : ℕ) → IsSoundWorld w → IsSoundWorld (step.loses w k).world
  unfolding step.loses
  lost w k s = by (is_some (kept_flight w.sent k))
    where
      by : (b : Bool) → IsSoundWorld (if b then step.answers (record w { sent = losing w.sent k }) answer.Done else step.answers w answer.Gone).world
      by true = same_sound w (record w { sent = losing w.sent k }) refl refl s
      by false = s

  wired : (w : World) (o : Option Flight) → IsSoundWorld w → IsSoundWorld (step.wires_by w o).world
  wired w None s = s
  wired w (Some f) s = s

  -- ---- moving

  stopped : (w : World) (n : Name) → IsSoundWorld w → IsSoundWorld (step.stops w n).world
  unfolding step.stops
  stopped w n s = refusal_sound w _ _ s (λ h. runs_sound w (home w n) (events.Stop n false) s (home_sound w n s (live_of_causes w n _ h)) tt tt)

  put_back : (n : Name) (x : step.Step) → IsSoundWorld x.world → IsSoundWorld (restored_by x.world n x).world
  put_back n x s = by (step.is_done x.answer)
    where
      by : (b : Bool) → IsSoundWorld (if b then step.answers (without_image x.world n) x.answer else x).world
      by true = record { devices = s.devices; carried = All-without IsLawful (λ c. c.name) n x.world.carried s.carried }
      by false = s

  restored : (w : World) (n : Name) (k : ℕ) (o : Option ContextImage) → step.carried_image w n ≡ o → has_device w k ≡ true → IsSoundWorld w → IsSoundWorld (step.restores_image w n k o).world
  unfolding step.carried_image
  restored w n k None h there s = s
  restored w n k (Some i) h there s =
      put_back n (runs w (device_at w k) (events.Restore i)) (runs_sound w (device_at w k) (events.Restore i) s (device_sound w k s there) (all_first IsLawful _ w.carried i s.carried h) tt)

  restores : (w : World) (n : Name) (k : ℕ) → IsSoundWorld w → IsSoundWorld (step.restores w n k).world
  unfolding step.restores
  restores w n k s = refusal_sound w _ _ s (λ h. restored w n k (step.carried_image w n) refl (not_lacking (has_device w k) (neither _ _ (first_no refusal.NoSuch _ [] h)).0) s)

  released : (w : World) (n : Name) (k : ℕ) → IsSoundWorld w → IsSoundWorld (step.releases w n k).world
  unfolding step.releases
  released w n k s = refusal_sound w _ _ s (λ h. runs_sound w (device_at w k) (events.Release n) s (device_sound w k s (there_of_causes w k [] h)) tt tt)

  -- ---- the table

  pub step_sound : (w : World) (m : Machine) (e : WorldEvent) → Stands w m → IsSoundWorld w → IsLawfulWorldEvent e → NamesThings e → IsSoundWorld (world_step w e).world
  unfolding world_step step.wires
  step_sound w m (world_events.AddDevice id address) stands s lawful named = added w id address s lawful.0 lawful.1
  step_sound w m (world_events.MakeContext n k) stands s lawful named = made w n k s named
  step_sound w m (world_events.At e) stands s lawful named = stepped w (context_of_event e) e s lawful.1 named
  step_sound w m (world_events.Connect one two terms) stands s lawful named = connected w m one two terms stands s lawful
  step_sound w m (world_events.Deliver k) stands s lawful named = delivered w k s
  step_sound w m (world_events.Lose k) stands s lawful named = lost w k s
  step_sound w m (world_events.Wire k) stands s lawful named = wired w (kept_flight w.sent k) s
  step_sound w m (world_events.Stop n) stands s lawful named = stopped w n s
  step_sound w m (world_events.Restore n k) stands s lawful named = restores w n k s
  step_sound w m (world_events.Release n k) stands s lawful named = released w n k s

  -- ---- settling

  turn_sound : (w : World) (e : Event) → IsTurn e → IsSoundWorld w → IsSoundWorld (step.steps_at w (context_of_event e) e).world
  turn_sound w (events.Transmit o) is s = stepped w o.context (events.Transmit o) s tt tt
  turn_sound w (events.Expire o) is s = stepped w o.context (events.Expire o) s tt tt
  turn_sound w (events.RnrOver o) is s = stepped w o.context (events.RnrOver o) s tt tt
  turn_sound w other is s = absurd is

  settling_sound : (w : World) (e : WorldEvent) → IsSettling e → IsSoundWorld w → IsSoundWorld (world_step w e).world
  unfolding world_step
  settling_sound w (world_events.Deliver k) is s = delivered w k s
  settling_sound w (world_events.At e) is s = turn_sound w e is s
  settling_sound w other is s = absurd is

  pub settled_sound : (w : World) → IsSoundWorld w → IsSoundWorld (settled w).world
  settled_sound w s = settled_keeps IsSoundWorld settling_sound w s

pub empty_sound : IsSoundWorld empty_world
empty_sound = record { devices = All-nil IsSoundDevice; carried = All-nil IsLawful }
