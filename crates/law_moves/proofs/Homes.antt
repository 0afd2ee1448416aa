-- The device where a context lives, in a world that stands for a state of the machine.
use Rattle.std.proofs.Common.{arith, ◌≡◌, ◌≤◌, ◌+◌, ℕ, List, [], ◌∷◌, ◌++◌, map, true, false, Bool, refl, ap, ◌∙◌}
use Rattle.std.specs.Prelude.{bytes_eq, ◌==◌, if◌then◌else◌, flat_map, Some}
use Rattle.std.proofs.lemmas.List.Sums.{sum_by-append}
use Rattle.std.specs.List.{count_by}
use Rattle.rdma_types.specs.declared.names.Name.{Name}
use Rattle.rdma_types.specs.Lists.{at, first_that, has, has_name}
use Rattle.protocol.specs.Images as images
use Rattle.protocol.specs.Refusals.{has_context}
use Rattle.protocol.specs.State.{Context, Device, World, device_at, no_device}
use Rattle.protocol.specs.WorldStep.{has_device, home, is_carried, is_live, or_none}
use Rattle.packetless_machine.specs.Machine.{Machine}
use Rattle.law_simulation.specs.Stands.{IsPlaced}
use Rattle.law_simulation.specs.Views.{contexts_of}
use Rattle.law_simulation.proofs.relation.Connecting.{live_not_carried}
use Rattle.law_simulation.proofs.relation.Worlds.{holds_it, has_name-flat}
use Rattle.law_simulation.proofs.stop_restore.Lists.{count_map, present_counted}
use Rattle.law_moves.proofs.Lists.{at-absent, found_some}

-- a name among contexts
abbrev is_named : Name → Context → Bool
is_named n c = bytes_eq c.name n

counted_both : (n : Name) (xs ys : List Context) → count_by (is_named n) (xs ++ ys) ≡ count_by (is_named n) xs + count_by (is_named n) ys
counted_both n xs ys = sum_by-append (λ x. if is_named n x then 1 else 0) xs ys

-- where a name stands once, the first device that holds it is the one with a number that does
first_is_at : (n : Name) (k : ℕ) (ds : List Device) → count_by (is_named n) (flat_map (λ d. d.contexts) ds) ≤ 1 → has_name (λ c. c.name) n (at (λ d. d.id) no_device k ds).contexts ≡ true →
    first_that (holds_it n) ds ≡ Some (at (λ d. d.id) no_device k ds)
unfolding first_that at has_name
first_is_at n k [] once h = absurd (cc)
first_is_at n k (d ∷ ds) once h = by (d.id == k) refl h (first_is_at n k ds)
  where
    holds_not : (b : Bool) → holds_it n d ≡ b → first_that (holds_it n) ds ≡ Some (at (λ d. d.id) no_device k ds) → holds_it n d ≡ false
    holds_not false is found = is
    holds_not true is found =
        let later : 1 ≤ count_by (is_named n) (flat_map (λ d. d.contexts) ds) = present_counted (λ c. c.name) n (flat_map (λ d. d.contexts) ds) (has_name-flat n ds ∙ found_some (holds_it n) (at (λ d. d.id) no_device k ds) ds found) in
        let here : 1 ≤ count_by (is_named n) d.contexts = present_counted (λ c. c.name) n d.contexts is in
        absurd (omega (arith, later, here, once, counted_both n d.contexts (flat_map (λ d. d.contexts) ds)))

    by : (b : Bool) → (d.id == k) ≡ b → has_name (λ c. c.name) n (if b then d else at (λ d. d.id) no_device k ds).contexts ≡ true →
        (count_by (is_named n) (flat_map (λ d. d.contexts) ds) ≤ 1 → has_name (λ c. c.name) n (at (λ d. d.id) no_device k ds).contexts ≡ true → first_that (holds_it n) ds ≡ Some (at (λ d. d.id) no_device k ds)) →
        (if holds_it n d then Some d else first_that (holds_it n) ds) ≡ Some (if b then d else at (λ d. d.id) no_device k ds)
    by true is here later = ap (λ b. if b then Some d else first_that (holds_it n) ds) here
    by false is there later =
        let found : first_that (holds_it n) ds ≡ Some (at (λ d. d.id) no_device k ds) = later (omega (arith, once, counted_both n d.contexts (flat_map (λ d. d.contexts) ds))) there in
        ap (λ b. if b then Some d else first_that (holds_it n) ds) (holds_not (holds_it n d) refl found) ∙ found

-- the live contexts of a world have their names once
live_once : (w : World) (m : Machine) (n : Name) → IsPlaced w m → count_by (is_named n) (flat_map (λ d. d.contexts) w.devices) ≤ 1
unfolding contexts_of
live_once w m n placed =
    omega (arith, placed.once n, count_map (λ x. bytes_eq x n) (λ (c : Context). c.name) (contexts_of w), counted_both n (flat_map (λ d. d.contexts) w.devices) (map images.context_of w.carried))

-- a context lives on a device
pub record IsHome (w : World) (k : ℕ) (n : Name) : Type 0 where
  pub home : home w n ≡ device_at w k
  pub live : is_live w n ≡ true
  pub made : has_device w k ≡ true
  pub uncarried : is_carried w n ≡ false

no_names : (n : Name) (k : ℕ) (ds : List Device) (b : Bool) → has (λ d. d.id) k ds ≡ b → has_name (λ c. c.name) n (at (λ d. d.id) no_device k ds).contexts ≡ true → b ≡ true
unfolding has_name
no_names n k ds true is h = refl
no_names n k ds false is h = absurd (cc (ap (λ (d : Device). has_name (λ c. c.name) n d.contexts) (at-absent (λ d. d.id) no_device k ds is), h))

pub home_is : (w : World) (m : Machine) (k : ℕ) (n : Name) → IsPlaced w m → has_context (device_at w k) n ≡ true → IsHome w k n
unfolding home
home_is w m k n placed there =
    let found : first_that (holds_it n) w.devices ≡ Some (device_at w k) = first_is_at n k w.devices (live_once w m n placed) there in
    let live : is_live w n ≡ true = found_some (holds_it n) (device_at w k) w.devices found in
    record {
      home = ap or_none found;
      live = live;
      made = no_names n k w.devices (has_device w k) refl there;
      uncarried = live_not_carried w m n placed live;
    }
