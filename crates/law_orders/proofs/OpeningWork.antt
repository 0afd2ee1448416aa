-- What is kept of devices and images over lines of work holds of the opening devices.
use Rattle.std.proofs.Common.{arith, ◌≡◌, ◌≤◌, ℕ, zero, suc, ◌+◌, ◌*◌, List, [], ◌∷◌, true, Some, refl, sym, ap, ◌∙◌, subst, if◌then◌else◌}
use Rattle.std.specs.Prelude.{◌==◌, codes}
use Rattle.rdma_types.specs.declared.answers.Answer.{Answer}
use Rattle.rdma_types.specs.declared.names.Name.{Name}
use Rattle.rdma_types.specs.declared.names.ObjName.{ObjName}
use Rattle.rdma_types.specs.declared.requests.Terms.{Terms}
use Rattle.rdma_types.specs.declared.verbs.Verb.{Verb}
use Rattle.rdma_types.specs.Causes.{first_cause}
use Rattle.rdma_types.specs.Lists.{at, has_name}
use Rattle.protocol.specs.declared.events.Event.{Event}
use Rattle.protocol.specs.declared.events.Event.TheVariants as event
use Rattle.protocol.specs.declared.events.WorldEvent.{WorldEvent}
use Rattle.protocol.specs.declared.events.WorldEvent.TheVariants as world_event
use Rattle.protocol.specs.DeviceStep as device
use Rattle.protocol.specs.DeviceStep.{device_step}
use Rattle.protocol.specs.Refusals.{has_context, refusal_of}
use Rattle.protocol.specs.Replay.{replay}
use Rattle.protocol.specs.State.{Device, World, empty_world, no_device}
use Rattle.protocol.specs.WorldStep.{exchanged, world_step}
use Rattle.law_simulation.specs.Kept.{kept_of, kept_verb, verb_in, verb_of}
use Rattle.law_simulation.specs.Law.{kept}
use Rattle.order_rules.specs.Hears.{heard}
use Rattle.order_rules.specs.Lines.{device_after, events_on, opening_of}
use Rattle.order_rules.specs.Openings.{AreOpenedApart, adds_device, bare_device, base_events, device_apart, end_name, ends_of, in_a, in_b, makes_end, opening_events, opening_terms, opening_verbs, openings, openings_apart, pairs}
use Rattle.order_rules.specs.Sides.{carried_after}
use Rattle.law_orders.proofs.Devices.{IsNoStop, replay_itself, step_itself, step_plain}
use Rattle.law_orders.proofs.Opening.{apart_id}
use Rattle.law_orders.proofs.Orders.{AreBegun, after_none}
use Rattle.law_orders.proofs.Posted.{span_heard, spans, spans-both}
use Rattle.law_orders.proofs.Tame.{AllOf, of_two}
use Rattle.law_orders.proofs.TameSteps.{IsTameDevice, Opens, is_mover, opening_keeps}
use Rattle.law_orders.proofs.Works.{IsKept, verb_spans}

-- ---- devices

replays_tame : (n id : ℕ) (d : Device) (es : List Event) → d.id ≡ id → IsTameDevice n d → AllOf (Opens id) es → IsTameDevice n (replay d es)
unfolding replay
replays_tame n id d [] same tame opens = tame
replays_tame n id d (e ∷ es) same tame opens = replays_tame n id (device_step d e).device es ((step_itself d e).id ∙ same) (opening_keeps n d tame e (subst (λ k. Opens k e) (sym same) opens.0)) opens.1

ends_open : (id other : ℕ) (context : Name) (terms : Terms) (i n : ℕ) → (is_mover context ≡ true → (of_two ≤ id * 65536) × (other ≡ 1)) → i + n ≤ 10 → AllOf (Opens id) (ends_of context other terms i n)
unfolding ends_of
ends_open id other context terms i zero moves few = tt
ends_open id other context terms i (suc n) moves few =
    ((λ h. (moves h).0), ((λ h. omega (arith, (moves h).1, few)), ends_open id other context terms (i + 1) n moves (omega (arith, few))))

apart_tame : (id other : ℕ) (context region : Name) (base : ℕ) (terms : Terms) (workers : ℕ) → workers ≤ 8 → (is_mover context ≡ true → (of_two ≤ id * 65536) × (other ≡ 1)) → IsTameDevice 0 (device_apart id context region base other terms workers)
unfolding device_apart
apart_tame id other context region base terms workers few moves =
    replays_tame 0 id (replay (bare_device id) (base_events context region base)) (ends_of context other terms 1 workers) (replayed_id id (base_events context region base))
    (replays_tame 0 id (bare_device id) (base_events context region base) refl tt (tt, (tt, (tt, (tt, tt)))))
    (ends_open id other context terms 1 workers moves (omega (arith, few)))
  where
    replayed_id : (id : ℕ) (es : List Event) → (replay (bare_device id) es).id ≡ id
    replayed_id id es = (replay_itself (bare_device id) es).0

not_mover : is_mover (codes "a") ≡ true → ⊥
not_mover h = cc

devices_tame : (workers : ℕ) → workers ≤ 8 → AllOf (IsTameDevice 0) (openings_apart workers)
devices_tame workers few = (
  apart_tame 1 2 (codes "a") (codes "m") 4096 opening_terms workers few (λ h. absurd (not_mover h)),
  (apart_tame 2 1 (codes "b") (codes "n") 8192 (exchanged opening_terms) workers few (λ h. (omega arith, refl)), (tt, tt)),
)

-- ---- the context a

replays_stay : (n : Name) (d : Device) (es : List Event) → has_context d n ≡ true → AllOf IsNoStop es → has_context (replay d es) n ≡ true
unfolding replay
replays_stay n d [] there plain = there
replays_stay n d (e ∷ es) there plain = replays_stay n (device_step d e).device es ((step_plain d e plain.0).stays n there) plain.1

ends_plain : (context : Name) (other : ℕ) (terms : Terms) (i n : ℕ) → AllOf IsNoStop (ends_of context other terms i n)
unfolding ends_of
ends_plain context other terms i zero = tt
ends_plain context other terms i (suc n) = (tt, (tt, ends_plain context other terms (i + 1) n))

first_made : has_context (device_step (bare_device 1) (event.MakeContext (codes "a"))).device (codes "a") ≡ true
unfolding device_step refusal_of first_cause has_name device.makes_context
first_made = refl

base_made : has_context (replay (bare_device 1) (base_events (codes "a") (codes "m") 4096)) (codes "a") ≡ true
unfolding replay
base_made = replays_stay (codes "a") (device_step (bare_device 1) (event.MakeContext (codes "a"))).device (rest_of (base_events (codes "a") (codes "m") 4096)) first_made (tt, (tt, (tt, tt)))
  where
    rest_of : List Event → List Event
    rest_of [] = []
    rest_of (e ∷ es) = es

home_there : (workers : ℕ) → has_context (device_apart 1 (codes "a") (codes "m") 4096 2 opening_terms workers) (codes "a") ≡ true
unfolding device_apart
home_there workers = replays_stay (codes "a") _ (ends_of (codes "a") 2 opening_terms 1 workers) base_made (ends_plain (codes "a") 2 opening_terms 1 workers)

first_is : (d : Device) (ds : List Device) → d.id ≡ 1 → opening_of (d ∷ ds) 1 ≡ d
unfolding at
first_is d ds one = ap (λ n. if n == 1 then d else at (λ x. x.id) no_device 1 ds) one

home_opened : (workers : ℕ) → has_context (opening_of (openings_apart workers) 1) (codes "a") ≡ true
home_opened workers = ap (λ x. has_context x (codes "a")) (first_is (device_apart 1 (codes "a") (codes "m") 4096 2 opening_terms workers) _ (apart_id 1 (codes "a") (codes "m") 4096 2 opening_terms workers)) ∙ home_there workers

pub kept_none : (workers : ℕ) → AreOpenedApart → 1 ≤ workers → workers ≤ 8 → AreBegun (openings workers) → IsKept (openings workers) []
unfolding heard spans carried_after device_after events_on replay
kept_none workers apart low high begun = record {
  devices = subst (AllOf (IsTameDevice 0)) (sym (after_none (openings workers) begun)) (subst (AllOf (IsTameDevice 0)) (apart workers low high) (devices_tame workers high));
  carried = tt;
  home = ap (λ os. has_context (opening_of os 1) (codes "a")) (sym (apart workers low high)) ∙ home_opened workers;
  heard = λ t. omega arith;
}

-- ---- what the opening makes is no posting

abbrev IsMute : WorldEvent → Type 0
IsMute x = (t : ℕ) (w : World) (a : Answer) → spans t (kept_of w x a) ≡ 0

mutes : (t : ℕ) (w : World) (xs : List WorldEvent) → AllOf IsMute xs → spans t (kept w xs) ≡ 0
unfolding spans
mutes t w [] mute = refl
mutes t w (x ∷ xs) mute =
    omega (arith, spans-both t (kept_of w x (world_step w x).answer) (kept (world_step w x).world xs), mute.0 t w (world_step w x).answer, mutes t (world_step w x).world xs mute.1)

verb_mute : (t : ℕ) (v : Verb) (a : Answer) → span_heard t v a ≡ 0 → spans t (kept_verb (Some v) a) ≡ 0
verb_mute t v a none = omega (arith, verb_spans t v a, none)

device_mute : (id : ℕ) → IsMute (adds_device id)
unfolding verb_of kept_verb spans
device_mute id t w a = refl

context_mute : (n : Name) (k : ℕ) → IsMute (world_event.MakeContext n k)
unfolding verb_of
context_mute n k t w a = verb_mute t _ a refl

connect_mute : (one two : ObjName) (terms : Terms) → IsMute (world_event.Connect one two terms)
unfolding verb_of
connect_mute one two terms t w a = verb_mute t _ a refl

end_mute : (o : ObjName) → IsMute (world_event.At (makes_end o))
unfolding verb_of verb_in
end_mute o t w a = verb_mute t _ a refl

domain_mute : (o : ObjName) → IsMute (world_event.At (event.MakeDomain o))
unfolding verb_of verb_in
domain_mute o t w a = verb_mute t _ a refl

region_mute : (o : ObjName) (base : ℕ) → IsMute (world_event.At (event.MakeRegion o (Some (codes "p")) base 64 (record { 0 = 15 })))
unfolding verb_of verb_in
region_mute o base t w a = verb_mute t _ a refl

queue_mute : (o : ObjName) → IsMute (world_event.At (event.MakeCq o 256))
unfolding verb_of verb_in
queue_mute o t w a = verb_mute t _ a refl

pairs_mute : (i n : ℕ) → AllOf IsMute (pairs i n)
unfolding pairs
pairs_mute i zero = tt
pairs_mute i (suc n) = (end_mute (in_a (end_name i)), (end_mute (in_b (end_name i)), (connect_mute (in_a (end_name i)) (in_b (end_name i)) opening_terms, pairs_mute (i + 1) n)))

pub opening_mute : (workers t : ℕ) → spans t (opening_verbs workers) ≡ 0
unfolding opening_verbs
opening_mute workers t =
    mutes t empty_world (opening_events workers)
    (device_mute 1, (device_mute 2, (device_mute 3, (context_mute (codes "a") 1, (context_mute (codes "b") 2, (domain_mute (in_a (codes "p")), (domain_mute (in_b (codes "p")), (region_mute (in_a (codes "m")) 4096, (region_mute (in_b (codes "n")) 8192, (queue_mute (in_a (codes "c")), (queue_mute (in_b (codes "c")), pairs_mute 1 workers)))))))))))
