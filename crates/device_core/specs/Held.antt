-- What a device keeps between its events.
use Rattle.std.specs.Prelude.{ℕ, ◌≡◌, ◌≢◌, ◌+◌, ◌<◌, ◌^◌, true, false, List, map, sum, Option, All, AllPairs, Contains}
use Rattle.rdma_types.specs.declared.names.Name.{Name}
use Rattle.rdma_types.specs.Limits.{pages}
use Rattle.page_pool.specs.Pool.{Pool, free_pages}
use Rattle.protocol.specs.Memory.{pages_of_context}
use Rattle.protocol.specs.Refusals.{has_context, has_husk}
use Rattle.protocol.specs.State.{Device, HuskEntry}
use Rattle.context_core.specs.Context.{Holding, IsContext, lists_of}
use Rattle.law_devices.specs.Sound.{IsCounted, IsSoundDevice}
use Rattle.device_core.specs.declared.index.EndLocation.{EndLocation}
use Rattle.device_core.specs.Index.{IsIndex}

-- no page list is in both
abbrev pub AreApart : Holding → Holding → Type 0
AreApart a b = (list : ℕ) → Contains (lists_of a) list → Contains (lists_of b) list → ⊥

-- an entry of a husk: its number was given here or came with an image, and its partner's number and its count are in range
pub record IsLeft (id count : ℕ) (e : HuskEntry) : Type 0 where
  pub counted : IsCounted id 65536 count e.number
  pub peer : e.peer < 2 ^ 24
  pub moves : e.moves < 2 ^ 16

-- the page lists of contexts are apart, all pages are counted, the index is exact, and the device is sound
pub record IsHeld (pool : Pool) (contexts : List (Name × Holding)) (index : ℕ → Option EndLocation) (d : Device) : Type 0 where
  pub each : All (λ e. IsContext pool e.1) contexts
  pub apart : AllPairs (λ a b. AreApart a.1 b.1) contexts
  pub counted : free_pages pool + sum (map pages_of_context d.contexts) ≡ pages
  pub names : AllPairs (λ a b. a ≢ b) (map (λ c. c.name) d.contexts)
  pub husk_names : AllPairs (λ a b. a ≢ b) (map (λ h. h.name) d.husks)
  pub either : (n : Name) → has_context d n ≡ true → has_husk d n ≡ false
  pub left : All (λ h. All (IsLeft d.id d.qp_count) h.entries) d.husks
  pub indexed : IsIndex index d
  pub sound : IsSoundDevice d
