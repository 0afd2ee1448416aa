-- What a stop of a live context leaves.
use Rattle.std.proofs.Common.{arith, ◌≡◌, ◌≢◌, ℕ, List, [], ◌∷◌, ◌++◌, length, true, false, Bool, refl, sym, ap, ◌∙◌, subst, ◌⊎◌, inl, inr}
use Rattle.std.specs.Prelude.{bytes_eq, ◌&&◌, ◌||◌, not, if◌then◌else◌, nat_le, Some, None}
use Rattle.rdma_types.specs.declared.answers.Answer.{Answer}
use Rattle.rdma_types.specs.declared.answers.Answer.TheVariants as answer
use Rattle.rdma_types.specs.declared.answers.Refusal.TheVariants as refusal
use Rattle.rdma_types.specs.declared.names.Name.{Name}
use Rattle.rdma_types.specs.Causes.{cause, first_cause}
use Rattle.rdma_types.specs.Limits.{most_husks}
use Rattle.rdma_types.specs.Lists.{at, first_that, has, has_name, has_word, some, store}
use Rattle.protocol.specs.declared.events.Event.TheVariants as event
use Rattle.protocol.specs.declared.events.WorldEvent.TheVariants as world_event
use Rattle.protocol.specs.declared.images.ContextImage.{ContextImage}
use Rattle.protocol.specs.DeviceStep as device
use Rattle.protocol.specs.DeviceStep.{husked}
use Rattle.protocol.specs.EndWords.{is_paused_link}
use Rattle.protocol.specs.Images.{image_of}
use Rattle.protocol.specs.Refusals as refusing
use Rattle.protocol.specs.Refusals.{has_context, has_husk, refusal_of}
use Rattle.protocol.specs.State.{Context, Device, World, context_at, device_at, no_device}
use Rattle.protocol.specs.WorldStep as step
use Rattle.protocol.specs.WorldStep.{carried_image, has_device, home, is_carried, is_live, live_context, partner_moves, ran, runs, with_device, world_step}
use Rattle.packetless_machine.specs.Machine.{Machine}
use Rattle.law_simulation.specs.Stands.{Stands}
use Rattle.law_simulation.proofs.relation.Tables.{at-store_same, number-at, same_name}
use Rattle.law_simulation.proofs.relation.Live.{live_name}
use Rattle.law_simulation.proofs.stop_restore.Devices.{ran_stays}
use Rattle.evac_rules.specs.declared.moves.StayReason.{StayReason}
use Rattle.evac_rules.specs.declared.moves.StayReason.TheVariants as why
use Rattle.evac_rules.specs.Evacuation.{stay_of}
use Rattle.law_moves.proofs.Homes.{IsHome, home_is}
use Rattle.law_moves.proofs.Lists.{at-store_other, has-store}

-- ---- what it leaves

-- the context left the device: its image is carried, and its husk stands there
pub record IsGone (w w' : World) (k : ℕ) (n : Name) : Type 0 where
  pub there : has_context (device_at w k) n ≡ true
  pub free : refusal_of (device_at w k) (event.Stop n false) ≡ None
  pub device : device_at w' k ≡ husked (device_at w k) (live_context w n)
  pub others : (j : ℕ) → j ≢ k → device_at w' j ≡ device_at w j
  pub made : (j : ℕ) → has_device w' j ≡ has_device w j
  pub carried : w'.carried ≡ w.carried ++ image_of (live_context w n) ∷ []
  pub image : carried_image w' n ≡ Some (image_of (live_context w n))
  pub stopped : has_word n w'.stopped ≡ true
  pub name : (live_context w n).name ≡ n

-- its stop was refused
pub record IsHeld (w w' : World) (a : Answer) : Type 0 where
  pub why : StayReason
  pub is : stay_of a ≡ Some why
  pub same : w' ≡ w

-- .. or it left
abbrev pub IsStopped : World → World → ℕ → Name → Answer → Type 0
IsStopped w w' k n a = IsHeld w w' a ⊎ ((stay_of a ≡ None) × IsGone w w' k n)

-- ---- the refusals

world_cause : (live carried moving : Bool) → live ≡ true → first_cause (cause refusal.NoSuch (not live && not carried) ∷ cause refusal.Stopped (not live) ∷ cause refusal.PeerMoving moving ∷ []) ≡ (if moving then Some refusal.PeerMoving else None)
unfolding first_cause
world_cause true carried moving is = refl
world_cause false carried moving is = absurd (cc)

device_cause : (there husk paused many : Bool) → there ≡ true → first_cause (cause refusal.NoSuch (not there && not husk) ∷ cause refusal.Stopped (not there) ∷ cause refusal.PeerMoving (false && paused) ∷ cause refusal.TooMany many ∷ []) ≡ (if many then Some refusal.TooMany else None)
unfolding first_cause
device_cause true husk paused many is = refl
device_cause false husk paused many is = absurd (cc)

-- ---- the stop

last_first : (n : Name) (i : ContextImage) (xs : List ContextImage) → has_name (λ c. c.name) n xs ≡ false → i.name ≡ n → first_that (λ c. bytes_eq c.name n) (xs ++ i ∷ []) ≡ Some i
unfolding first_that has_name
last_first n i [] lacks is = grind (arith, same_name n, is)
last_first n i (x ∷ xs) lacks is = grind (arith, last_first n i xs)

module _ (w : World) (m : Machine) (s : Stands w m) (k : ℕ) (n : Name) (there : has_context (device_at w k) n ≡ true) where
  abbrev d : Device
  d = device_at w k

  abbrev x : Context
  x = live_context w n

  h : IsHome w k n
  h = home_is w m k n s.placed there

  id_is : d.id ≡ k
  id_is = number-at (λ e. e.id) no_device k w.devices h.made

  name_is : x.name ≡ n
  unfolding live_context
  name_is = live_name w n h.live

  context_is : context_at d n ≡ x
  unfolding live_context
  context_is = ap (λ e. context_at e n) (sym h.home)

  abbrev w' : World
  w' = (ran w (device.stops d (context_at d n))).world

  devices_are : w'.devices ≡ store (λ e. e.id) k (husked d x) w.devices
  unfolding ran with_device device.stops
  devices_are = ap (λ j. store (λ e. e.id) j (husked d (context_at d n)) w.devices) id_is ∙ ap (λ c. store (λ e. e.id) k (husked d c) w.devices) context_is

  carried_are : w'.carried ≡ w.carried ++ image_of x ∷ []
  unfolding ran with_device device.stops
  carried_are = ap (λ c. w.carried ++ image_of c ∷ []) context_is

  stopped_are : w'.stopped ≡ (image_of x).name ∷ w.stopped
  unfolding ran with_device device.stops
  stopped_are = ap (λ c. (image_of c).name ∷ w.stopped) context_is

  image_name : (image_of x).name ≡ n
  unfolding image_of
  image_name = name_is

  is_stopped : has_word n w'.stopped ≡ true
  unfolding has_name
  is_stopped = ap (has_word n) stopped_are ∙ ap (λ j. bytes_eq j n || has_word n w.stopped) image_name ∙ ap (λ b. b || has_word n w.stopped) (same_name n)

  gone : refusal_of d (event.Stop n false) ≡ None → IsGone w w' k n
  unfolding carried_image
  gone free = record {
    there = there;
    free = free;
    device = ap (at (λ e. e.id) no_device k) devices_are ∙ at-store_same (λ e. e.id) no_device k (husked d x) w.devices id_is;
    others = λ j ne. ap (at (λ e. e.id) no_device j) devices_are ∙ at-store_other (λ e. e.id) no_device k j (husked d x) w.devices id_is ne;
    made = λ j. ap (has (λ e. e.id) j) devices_are ∙ has-store (λ e. e.id) k j (husked d x) w.devices id_is h.made;
    carried = carried_are;
    image = ap (first_that (λ c. bytes_eq c.name n)) carried_are ∙ last_first n (image_of x) w.carried h.uncarried image_name;
    stopped = is_stopped;
    name = name_is;
  }

  -- at the device
  by_device : (many : Bool) → refusal_of d (event.Stop n false) ≡ (if many then Some refusal.TooMany else None) →
      IsStopped w (ran w (device.by_refusal d (event.Stop n false) (if many then Some refusal.TooMany else None))).world k n (ran w (device.by_refusal d (event.Stop n false) (if many then Some refusal.TooMany else None))).answer
  unfolding ran step.numbered device.stops
  by_device true is = inl (record { why = why.TooMany; is = refl; same = ran_stays w k (answer.Refused refusal.TooMany) h.made })
  by_device false is = inr (refl, gone is)

  abbrev many : Bool
  many = nat_le most_husks (length d.husks) || some refusing.has_moved_out (refusing.links_of (context_at d n))

  refused_by : refusal_of d (event.Stop n false) ≡ (if many then Some refusal.TooMany else None)
  unfolding refusal_of
  refused_by = device_cause (has_context d n) (has_husk d n) (some is_paused_link (refusing.links_of (context_at d n))) many there

  ran_stop : IsStopped w (runs w d (event.Stop n false)).world k n (runs w d (event.Stop n false)).answer
  unfolding device.device_step
  ran_stop = subst (λ r. IsStopped w (ran w (device.by_refusal d (event.Stop n false) r)).world k n (ran w (device.by_refusal d (event.Stop n false) r)).answer) (sym refused_by) (by_device many refused_by)

  -- in the world
  abbrev moving : Bool
  moving = some (λ e. partner_moves w e.link) x.ends

  by_world : (b : Bool) → IsStopped w (step.by_refusal w (if b then Some refusal.PeerMoving else None) (runs w d (event.Stop n false))).world k n (step.by_refusal w (if b then Some refusal.PeerMoving else None) (runs w d (event.Stop n false))).answer
  by_world true = inl (record { why = why.PeerMoving; is = refl; same = refl })
  by_world false = ran_stop

  pub stop_ends : IsStopped w (world_step w (world_event.Stop n)).world k n (world_step w (world_event.Stop n)).answer
  unfolding world_step step.stops
  stop_ends =
      subst (λ e. IsStopped w (step.by_refusal w (first_cause (step.context_causes w n (cause refusal.PeerMoving moving ∷ []))) (runs w e (event.Stop n false))).world k n (step.by_refusal w (first_cause (step.context_causes w n (cause refusal.PeerMoving moving ∷ []))) (runs w e (event.Stop n false))).answer) (sym h.home)
      (subst (λ r. IsStopped w (step.by_refusal w r (runs w d (event.Stop n false))).world k n (step.by_refusal w r (runs w d (event.Stop n false))).answer) (sym (world_cause (is_live w n) (is_carried w n) moving h.live)) (by_world moving))
