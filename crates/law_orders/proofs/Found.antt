-- The device with an id is found by its address, and as the home of its contexts; and where the names are that it has.
use Rattle.std.proofs.Common.{arith, ◌≡◌, ◌≤◌, ℕ, List, [], ◌∷◌, map, Bool, true, false, Some, inl, inr, refl, sym, ap, ◌∙◌, subst}
use Rattle.std.specs.Prelude.{All, ◌==◌, ◌||◌, bytes_eq, flat_map}
use Rattle.std.specs.List.{count_by}
use Rattle.std.proofs.lemmas.Bool.Decides.{nat_tests, eqb_tells}
use Rattle.std.proofs.lemmas.List.Elements.{All-head, All-tail}
use Rattle.rdma_types.specs.declared.names.Name.{Name}
use Rattle.rdma_types.specs.declared.requests.Address.{Address}
use Rattle.rdma_types.specs.Lists.{at, first_that, has, has_name, has_word}
use Rattle.protocol.specs.Images as images
use Rattle.protocol.specs.Refusals.{has_context, has_husk}
use Rattle.protocol.specs.State.{Context, Device, Husk, World, device_at, no_device}
use Rattle.protocol.specs.WorldStep.{device_with, has_device, home, is_carried, is_live, or_none, same_address}
use Rattle.packetless_machine.specs.Machine.{Machine}
use Rattle.law_simulation.specs.Stands.{IsPlaced, husks_of}
use Rattle.law_simulation.specs.Views.{contexts_of}
use Rattle.law_simulation.proofs.delivery.First.{count_both, count_map, first_other, first_some, holders_counted}
use Rattle.law_simulation.proofs.relation.Connecting.{live_not_carried}
use Rattle.law_simulation.proofs.relation.Tables.{has_name-at, name_tells}
use Rattle.law_simulation.proofs.relation.Worlds.{has_context_is, has_name-names, holds_it}

found_at : {A : Type 0} (number : A → ℕ) (none : A) (k : ℕ) (xs : List A) → has number k xs ≡ true → first_that (λ x. number x == k) xs ≡ Some (at number none k xs)
unfolding first_that has at
found_at number none k [] h = absurd (cc)
found_at number none k (x ∷ xs) h = grind (arith, found_at number none k xs)

-- the device with an id is the first with it
pub found_at_id : (w : World) (k : ℕ) → has_device w k ≡ true → first_that (λ (d : Device). d.id == k) w.devices ≡ Some (device_at w k)
found_at_id w k made = found_at (λ d. d.id) no_device k w.devices made

-- the contexts of a device have their names once
names_once : (w : World) (m : Machine) (n : Name) → IsPlaced w m → count_by (λ (c : Context). bytes_eq c.name n) (flat_map (λ d. d.contexts) w.devices) ≤ 1
unfolding contexts_of
names_once w m n placed =
    omega (
      arith,
      placed.once n,
      count_map (λ (c : Context). c.name) (λ k. bytes_eq k n) (λ (c : Context). bytes_eq c.name n) (contexts_of w) (λ c. refl),
      count_both (λ (c : Context). bytes_eq c.name n) (flat_map (λ d. d.contexts) w.devices) (map images.context_of w.carried),
    )

-- a context lives on the device with an id
pub record IsHome (w : World) (k : ℕ) (n : Name) : Type 0 where
  pub home : home w n ≡ device_at w k
  pub live : is_live w n ≡ true
  pub uncarried : is_carried w n ≡ false

pub home_is : (w : World) (m : Machine) (k : ℕ) (n : Name) → IsPlaced w m → has_device w k ≡ true → has_context (device_at w k) n ≡ true → IsHome w k n
unfolding home
home_is w m k n placed made there =
    let found : first_that (holds_it n) w.devices ≡ Some (device_at w k) =
    first_other (λ (d : Device). d.id == k) (holds_it n) (device_at w k) w.devices (found_at_id w k made) there
    (omega (arith, holders_counted (λ (d : Device). d.contexts) (λ c. c.name) n w.devices, names_once w m n placed)) in
    let live : is_live w n ≡ true = first_some (holds_it n) (device_at w k) w.devices found in
    record { home = ap or_none found; live = live; uncarried = live_not_carried w m n placed live }

same_self : (a : Address) → same_address a a ≡ true
same_self a = grind (arith, nat_tests, eqb_tells a.ip a.ip, eqb_tells a.port a.port)

-- the device is the one with its address
pub device_found : (w : World) (m : Machine) (k : ℕ) → IsPlaced w m → has_device w k ≡ true → device_with w (device_at w k).address ≡ Some (device_at w k)
device_found w m k placed made =
    first_other (λ (d : Device). d.id == k) (λ (d : Device). same_address d.address (device_at w k).address) (device_at w k) w.devices (found_at_id w k made) (same_self (device_at w k).address)
    (omega (arith, placed.addresses_once (device_at w k).address, count_map (λ (d : Device). d.address) (λ a. same_address a (device_at w k).address) (λ (d : Device). same_address d.address (device_at w k).address) w.devices (λ d. refl)))

-- ---- names

-- a husk's name is that of a context that was made
husk_made : (names : List Name) (n : Name) (hs : List Husk) → All (λ h. has_word h names ≡ true) (map (λ h. h.name) hs) → has_name (λ h. h.name) n hs ≡ true → has_word n names ≡ true
unfolding has_name
husk_made names n [] all h = absurd (cc)
husk_made names n (x ∷ hs) all h = elim (name_tells x.name n) [
  | inl t ↦ subst (λ j. has_word j names ≡ true) t.1 (All-head (λ z. has_word z names ≡ true) x.name (map (λ z. z.name) hs) all)
  | inr t ↦ husk_made names n hs (All-tail (λ z. has_word z names ≡ true) x.name (map (λ z. z.name) hs) all) (subst (λ b. (b || has_name (λ z. z.name) n hs) ≡ true) t.0 h)
]

-- the name of a context or of a husk on the device with an id is that of a context that lives or is carried
pub named_somewhere : (w : World) (m : Machine) (k : ℕ) (n : Name) → IsPlaced w m → has_device w k ≡ true → (has_context (device_at w k) n || has_husk (device_at w k) n) ≡ true → (is_live w n || is_carried w n) ≡ true
named_somewhere w m k n placed made h = by (has_context (device_at w k) n) (has_husk (device_at w k) n) refl refl h
  where
    by : (a b : Bool) → has_context (device_at w k) n ≡ a → has_husk (device_at w k) n ≡ b → (a || b) ≡ true → (is_live w n || is_carried w n) ≡ true
    by true b there husk h = ap (λ c. c || is_carried w n) (home_is w m k n placed made there).live
    by false false there husk h = absurd (cc)
    by false true there husk h =
        let held : has_name (λ z. z.name) n (husks_of w) ≡ true = has_name-at (λ d. d.husks) (λ z. z.name) (λ d. d.id) no_device n k w.devices made husk in
        sym (has_name-names n (contexts_of w) ∙ has_context_is w n) ∙ (placed.same n ∙ husk_made _ n (husks_of w) placed.husks_made held)
