-- The events of the built-in opening prepare devices, so that its world is an opening.
use Rattle.std.proofs.Common.{arith, ◌≡◌, ◌≤◌, ℕ, zero, suc, ◌+◌, List, [], ◌∷◌, true, Some, refl, ◌∙◌}
use Rattle.std.specs.Prelude.{All, codes}
use Rattle.std.specs.List.{list_all}
use Rattle.std.proofs.lemmas.List.Elements.{All-cons, All-nil}
use Rattle.rdma_types.specs.declared.names.ObjName.{ObjName}
use Rattle.rdma_types.specs.declared.requests.Terms.{Terms}
use Rattle.rdma_types.specs.Limits.{AreTerms}
use Rattle.protocol.specs.declared.events.Event.TheVariants as event
use Rattle.protocol.specs.declared.events.WorldEvent.{WorldEvent}
use Rattle.protocol.specs.declared.events.WorldEvent.TheVariants as world_event
use Rattle.protocol.specs.Replay.{replay}
use Rattle.law_simulation.specs.Law.{IsInRange}
use Rattle.order_rules.specs.AnyOpening.{ArePreparing, prepares}
use Rattle.order_rules.specs.Openings.{adds_device, bare_device, base_events, device_apart, end_name, ends_of, in_a, in_b, makes_end, opening_events, opening_terms, pairs}
use Rattle.law_orders.proofs.Devices.{replay_itself}
use Rattle.law_orders.proofs.Tame.{AllOf}

-- ---- ids

pub apart_id : (id : ℕ) (context region : List ℕ) (base other : ℕ) (terms : Terms) (workers : ℕ) → (device_apart id context region base other terms workers).id ≡ id
unfolding device_apart
apart_id id context region base other terms workers = (replay_itself (replay (bare_device id) (base_events context region base)) (ends_of context other terms 1 workers)).0 ∙ (replay_itself (bare_device id) (base_events context region base)).0

-- ---- the fields of the events are in their ranges

all_of : (xs : List WorldEvent) → AllOf IsInRange xs → All IsInRange xs
all_of [] each = All-nil IsInRange
all_of (x ∷ xs) each = All-cons IsInRange x xs each.0 (all_of xs each.1)

terms_said : AreTerms opening_terms
terms_said = record { mtu = refl; own_start = omega arith; peer_start = omega arith; retry = omega arith; rnr = omega arith; some_reads = omega arith; few_reads = omega arith }

end_said : (o : ObjName) → IsInRange (world_event.At (makes_end o))
end_said o = (omega arith, omega arith, omega arith, omega arith)

pairs_said : (i n : ℕ) → AllOf IsInRange (pairs i n)
unfolding pairs
pairs_said i zero = tt
pairs_said i (suc n) = (end_said (in_a (end_name i)), (end_said (in_b (end_name i)), (terms_said, pairs_said (i + 1) n)))

device_said : (id : ℕ) → 1 ≤ id → id ≤ 255 → IsInRange (adds_device id)
device_said id low high = (low, high, omega arith, omega arith)

region_said : (o : ObjName) (base : ℕ) → base ≤ 8192 → IsInRange (world_event.At (event.MakeRegion o (Some (codes "p")) base 64 (record { 0 = 15 })))
region_said o base low = (omega arith, omega arith, omega (arith, low), omega arith)

queue_said : (o : ObjName) → IsInRange (world_event.At (event.MakeCq o 256))
queue_said o = (omega arith, omega arith)

opening_said : (workers : ℕ) → AllOf IsInRange (opening_events workers)
opening_said workers = (
  device_said 1 (omega arith) (omega arith),
  (
    device_said 2 (omega arith) (omega arith),
    (
      device_said 3 (omega arith) (omega arith),
      (tt, (tt, (tt, (tt, (region_said (in_a (codes "m")) 4096 (omega arith), (region_said (in_b (codes "n")) 8192 (omega arith), (queue_said (in_a (codes "c")), (queue_said (in_b (codes "c")), pairs_said 1 workers)))))))),
    ),
  ),
)

-- ---- what they make

pairs_prepare : (i n : ℕ) → list_all prepares (pairs i n) ≡ true
unfolding pairs
pairs_prepare i zero = refl
pairs_prepare i (suc n) = pairs_prepare (i + 1) n

pub opening_prepares : (workers : ℕ) → ArePreparing (opening_events workers)
opening_prepares workers = record { in_range = all_of (opening_events workers) (opening_said workers); prepare = pairs_prepare 1 workers }
