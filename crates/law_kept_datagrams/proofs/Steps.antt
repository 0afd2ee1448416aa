-- Worlds that are alike answer each event alike.
use Rattle.std.proofs.Common.{◌≡◌, ℕ, ◌+◌, List, ◌∷◌, ◌++◌, [], refl, ap, ◌∙◌, subst, Bool, true, false}
use Rattle.std.specs.Prelude.{Option, Some, None, if◌then◌else◌, is_some}
use Rattle.rdma_types.specs.declared.answers.Answer.{Answer}
use Rattle.rdma_types.specs.declared.answers.Answer.TheVariants as answer
use Rattle.rdma_types.specs.declared.answers.Refusal.{Refusal}
use Rattle.rdma_types.specs.declared.names.Name.{Name}
use Rattle.rdma_types.specs.declared.names.ObjName.{ObjName}
use Rattle.rdma_types.specs.declared.requests.Address.{Address}
use Rattle.rdma_types.specs.declared.requests.Terms.{Terms}
use Rattle.rdma_types.specs.Lists.{without}
use Rattle.protocol.specs.declared.events.Event.{Event}
use Rattle.protocol.specs.declared.events.Event.TheVariants as event
use Rattle.protocol.specs.declared.events.WorldEvent.{WorldEvent}
use Rattle.protocol.specs.declared.events.WorldEvent.TheVariants as world_event
use Rattle.protocol.specs.declared.images.ContextImage.{ContextImage}
use Rattle.protocol.specs.DeviceStep as device
use Rattle.protocol.specs.DeviceStep.{device_step}
use Rattle.protocol.specs.Fabric.{Here, IsAged, IsGone, IsLost, Look, kept_flight, look, losing, took}
use Rattle.protocol.specs.State.{Device, Flight, World, device_at}
use Rattle.protocol.specs.WorldStep.{Step, adds_device, answers, by_refusal, carried_image, connects, connects_one, delivers, delivers_by, exchanged, home, is_done, live_context, loses, makes_context, now_of, numbered, ran, reaches, releases, restored_by, restores, restores_image, steps_at, stops, wires, wires_by, with_device, with_image, without_image, world_step, context_of_event, device_with}
use Rattle.law_kept_datagrams.specs.Alike.{AreAlike, StepAlike}
use Rattle.law_kept_datagrams.proofs.Stores.{AreSame, count_alike, kept_alike, look_alike, losing_alike, sending_alike, took_alike}

-- ---- one world with two lists of datagrams

-- the world with these datagrams
abbrev pub at : World → List Flight → World
at w s = record w { sent = s }

pub two_lists : (w : World) (s t : List Flight) → AreSame s t → AreAlike (at w s) (at w t)
two_lists w s t h = record { devices = refl; sent = h; carried = refl; stopped = refl }

-- what holds of one world with two such lists holds of two worlds that are alike
pub of_two_lists : (Q : World → World → Type 0) → ((w : World) (s t : List Flight) → AreSame s t → Q (at w s) (at w t)) → (a b : World) → AreAlike a b → Q a b
of_two_lists Q each a b h = subst (λ (x : World). Q a x) same (each a a.sent b.sent h.sent)
  where
    same : at a b.sent ≡ b
    same =
        ap (λ x. record { devices = x; sent = b.sent; carried = a.carried; stopped = a.stopped }) h.devices
        ∙ (ap (λ x. record { devices = b.devices; sent = b.sent; carried = x; stopped = a.stopped }) h.carried
        ∙ ap (λ x. record { devices = b.devices; sent = b.sent; carried = b.carried; stopped = x }) h.stopped)

-- ---- parts of a step

answered : (a b : World) (x : Answer) → AreAlike a b → StepAlike (answers a x) (answers b x)
answered a b x h = record { answer = refl; world = h }

refused : (a b : World) (o : Option Refusal) (x y : Step) → AreAlike a b → StepAlike x y → StepAlike (by_refusal a o x) (by_refusal b o y)
refused a b (Some r) x y h k = answered a b (answer.Refused r) h
refused a b None x y h k = k

imaged : (a b : World) (o : Option ContextImage) → AreAlike a b → AreAlike (with_image o a) (with_image o b)
imaged a b None h = h
imaged a b (Some image) h = record { devices = h.devices; sent = h.sent; carried = ap (λ x. x ++ image ∷ []) h.carried; stopped = ap (λ x. image.name ∷ x) h.stopped }

-- a device steps
device_ran : (w : World) (s t : List Flight) (x : device.Step) → AreSame s t → StepAlike (ran (at w s) x) (ran (at w t) x)
unfolding ran with_device
device_ran w s t x h = record {
  answer = ap (λ n. numbered (n + 1) x.outcome.answer) (count_alike s t h);
  world = imaged _ _ x.outcome.image (record { devices = refl; sent = sending_alike s t x.device.address x.outcome.sent h; carried = refl; stopped = refl });
}

-- ---- events

context_made : (w : World) (s t : List Flight) (n : Name) (k : ℕ) → AreSame s t → StepAlike (makes_context (at w s) n k) (makes_context (at w t) n k)
unfolding makes_context
context_made w s t n k h =
    refused (at w s) (at w t) _ _ _ (two_lists w s t h) (device_ran w s t (device_step (device_at w k) (event.MakeContext n)) h)

device_added : (w : World) (s t : List Flight) (id : ℕ) (address : Address) → AreSame s t → StepAlike (adds_device (at w s) id address) (adds_device (at w t) id address)
unfolding adds_device
device_added w s t id address h =
    let more : World = record w { devices = w.devices ++ record { id = id; address = address; qp_count = 0; key_count = 0; contexts = []; husks = [] } ∷ [] } in
    refused (at w s) (at w t) _ (answers (at more s) answer.Done) (answers (at more t) answer.Done) (two_lists w s t h)
    (answered (at more s) (at more t) answer.Done (two_lists more s t h))

stepped_at : (w : World) (s t : List Flight) (n : Name) (e : Event) → AreSame s t → StepAlike (steps_at (at w s) n e) (steps_at (at w t) n e)
unfolding steps_at home
stepped_at w s t n e h =
    refused (at w s) (at w t) _ _ _ (two_lists w s t h) (device_ran w s t (device_step (home w n) e) h)

one_connected : (one two : ObjName) (terms : Terms) (w : World) (s t : List Flight) → AreSame s t → AreAlike (connects_one (at w s) one two terms) (connects_one (at w t) one two terms)
unfolding connects_one home live_context
one_connected one two terms w s t h = (device_ran w s t _ h).world

connected : (w : World) (s t : List Flight) (one two : ObjName) (terms : Terms) → AreSame s t → StepAlike (connects (at w s) one two terms) (connects (at w t) one two terms)
unfolding connects home live_context
connected w s t one two terms h =
    refused (at w s) (at w t) _ _ _ (two_lists w s t h)
    (answered _ _ answer.Done
    (of_two_lists (λ a b. AreAlike (connects_one a two one (exchanged terms)) (connects_one b two one (exchanged terms))) (one_connected two one (exchanged terms))
    (connects_one (at w s) one two terms) (connects_one (at w t) one two terms) (one_connected one two terms w s t h)))

reached : (w : World) (s t : List Flight) (f : Flight) (o : Option Device) → AreSame s t → StepAlike (reaches (at w s) f o) (reaches (at w t) f o)
reached w s t f None h = answered (at w s) (at w t) _ (two_lists w s t h)
reached w s t f (Some d) h = device_ran w s t (device_step d (event.Arrive f.from f.bytes)) h

delivered_by : (w : World) (s t : List Flight) (k : ℕ) (x : Look) → AreSame s t → StepAlike (delivers_by (at w s) k x) (delivers_by (at w t) k x)
delivered_by w s t k IsGone h = answered (at w s) (at w t) _ (two_lists w s t h)
delivered_by w s t k IsLost h = answered (at w s) (at w t) _ (two_lists w s t h)
delivered_by w s t k IsAged h = answered _ _ _ (two_lists w (took s k) (took t k) (took_alike s t k h))
delivered_by w s t k (Here f) h = reached w (took s k) (took t k) f (device_with w f.to) (took_alike s t k h)

delivered : (w : World) (s t : List Flight) (k : ℕ) → AreSame s t → StepAlike (delivers (at w s) k) (delivers (at w t) k)
unfolding delivers
delivered w s t k h =
    let there : look s k (now_of w (kept_flight s k)) ≡ look t k (now_of w (kept_flight t k)) =
    look_alike s t k (now_of w (kept_flight s k)) h ∙ ap (λ f. look t k (now_of w f)) (kept_alike s t k h) in
    subst (λ (x : Look). StepAlike (delivers_by (at w s) k (look s k (now_of w (kept_flight s k)))) (delivers_by (at w t) k x)) there
    (delivered_by w s t k (look s k (now_of w (kept_flight s k))) h)

lost : (w : World) (s t : List Flight) (k : ℕ) → AreSame s t → StepAlike (loses (at w s) k) (loses (at w t) k)
unfolding loses
lost w s t k h =
    subst (λ (x : Option Flight). StepAlike (if is_some (kept_flight s k) then answers (at w (losing s k)) answer.Done else answers (at w s) answer.Gone) (if is_some x then answers (at w (losing t k)) answer.Done else answers (at w t) answer.Gone)) (kept_alike s t k h)
    (by (is_some (kept_flight s k)))
  where
    by : (b : Bool) → StepAlike (if b then answers (at w (losing s k)) answer.Done else answers (at w s) answer.Gone) (if b then answers (at w (losing t k)) answer.Done else answers (at w t) answer.Gone)
    by true = answered _ _ answer.Done (two_lists w (losing s k) (losing t k) (losing_alike s t k h))
    by false = answered _ _ answer.Gone (two_lists w s t h)

shown : (w : World) (s t : List Flight) (k : ℕ) → AreSame s t → StepAlike (wires (at w s) k) (wires (at w t) k)
unfolding wires
shown w s t k h =
    subst (λ (x : Option Flight). StepAlike (wires_by (at w s) (kept_flight s k)) (wires_by (at w t) x)) (kept_alike s t k h) (by (kept_flight s k))
  where
    by : (o : Option Flight) → StepAlike (wires_by (at w s) o) (wires_by (at w t) o)
    by None = answered (at w s) (at w t) _ (two_lists w s t h)
    by (Some f) = answered (at w s) (at w t) _ (two_lists w s t h)

stopped : (w : World) (s t : List Flight) (n : Name) → AreSame s t → StepAlike (stops (at w s) n) (stops (at w t) n)
unfolding stops home live_context
stopped w s t n h =
    refused (at w s) (at w t) _ _ _ (two_lists w s t h) (device_ran w s t (device_step (home w n) (event.Stop n false)) h)

restored : (w : World) (s t : List Flight) (n : Name) (k : ℕ) → AreSame s t → StepAlike (restores (at w s) n k) (restores (at w t) n k)
unfolding restores carried_image
restored w s t n k h = refused (at w s) (at w t) _ _ _ (two_lists w s t h) (by (carried_image w n))
  where
    gone : (x y : Step) → StepAlike x y → StepAlike (restored_by (at w s) n x) (restored_by (at w t) n y)
    gone x y h =
        subst (λ (z : Answer). StepAlike (restored_by (at w s) n x) (if is_done z then answers (without_image y.world n) y.answer else y)) h.answer (on (is_done x.answer))
      where
        on : (b : Bool) → StepAlike (if b then answers (without_image x.world n) x.answer else x) (if b then answers (without_image y.world n) y.answer else y)
        on true = record { answer = h.answer; world = record { devices = h.world.devices; sent = h.world.sent; carried = ap (λ z. without (λ c. c.name) n z) h.world.carried; stopped = h.world.stopped } }
        on false = h

    by : (o : Option ContextImage) → StepAlike (restores_image (at w s) n k o) (restores_image (at w t) n k o)
    by None = answered (at w s) (at w t) _ (two_lists w s t h)
    by (Some image) = gone _ _ (device_ran w s t (device_step (device_at w k) (event.Restore image)) h)

released : (w : World) (s t : List Flight) (n : Name) (k : ℕ) → AreSame s t → StepAlike (releases (at w s) n k) (releases (at w t) n k)
unfolding releases
released w s t n k h =
    refused (at w s) (at w t) _ _ _ (two_lists w s t h) (device_ran w s t (device_step (device_at w k) (event.Release n)) h)

-- ---- the table

each_event : (e : WorldEvent) (w : World) (s t : List Flight) → AreSame s t → StepAlike (world_step (at w s) e) (world_step (at w t) e)
unfolding world_step
each_event (world_event.AddDevice id address) w s t h = device_added w s t id address h
each_event (world_event.MakeContext n k) w s t h = context_made w s t n k h
each_event (world_event.At e) w s t h = stepped_at w s t (context_of_event e) e h
each_event (world_event.Connect one two terms) w s t h = connected w s t one two terms h
each_event (world_event.Deliver k) w s t h = delivered w s t k h
each_event (world_event.Lose k) w s t h = lost w s t k h
each_event (world_event.Wire k) w s t h = shown w s t k h
each_event (world_event.Stop n) w s t h = stopped w s t n h
each_event (world_event.Restore n k) w s t h = restored w s t n k h
each_event (world_event.Release n k) w s t h = released w s t n k h

pub step_alike : (a b : World) (e : WorldEvent) → AreAlike a b → StepAlike (world_step a e) (world_step b e)
step_alike a b e h = of_two_lists (λ x y. StepAlike (world_step x e) (world_step y e)) (each_event e) a b h
