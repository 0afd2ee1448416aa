-- Where each queue pair number lives, or what husk it is left in.
use Rattle.device_core.specs.declared.husks.HuskEntry as held
use Rattle.std.specs.Prelude.{ℕ, List, map, ◌≡◌, ◌⊎◌, ◌==◌, ◌&&◌, Bool, true, Option, None, Some, slice_get, if◌then◌else◌}
use Rattle.rdma_types.specs.declared.names.Name.{Name}
use Rattle.rdma_types.specs.Lists.{has, named}
use Rattle.protocol.specs.State.{Context, Device, End, Husk, HuskEntry, context_at, no_husk}
use Rattle.protocol.specs.Refusals.{has_context, has_husk}
use Rattle.device_core.specs.declared.index.EndLocation.{EndLocation}

-- the husk with a name
abbrev pub husk_at : Device → Name → Husk
husk_at d n = named (λ h. h.name) no_husk n d.husks

-- the queue pair numbers of a context
abbrev pub numbers_of : Context → List ℕ
numbers_of c = map (λ e. e.number) c.ends

-- a spot
abbrev pub spot : Name → ℕ → EndLocation
spot n place = record { context = n; place = place }

-- the end at a place of a live context has the number
pub record IsEndAt (d : Device) (n : Name) (place number : ℕ) : Type 0 where
  pub lives : has_context d n ≡ true
  pub end : End
  pub there : slice_get (context_at d n).ends place ≡ Some end
  pub same : end.number ≡ number

-- the entry at a place of a husk has the number
pub record IsEntryAt (d : Device) (n : Name) (place number : ℕ) : Type 0 where
  pub stays : has_husk d n ≡ true
  pub entry : HuskEntry
  pub there : slice_get (husk_at d n).entries place ≡ Some entry
  pub same : entry.number ≡ number

-- the index has each number of an end and of a husk's entry, with its place, and no others
pub record IsIndex (index : ℕ → Option EndLocation) (d : Device) : Type 0 where
  pub ends : (n : Name) (place number : ℕ) → IsEndAt d n place number → index number ≡ Some (spot n place)
  pub entries : (n : Name) (place number : ℕ) → IsEntryAt d n place number → index number ≡ Some (spot n place)
  pub exact : (n : Name) (place number : ℕ) → index number ≡ Some (spot n place) → IsEndAt d n place number ⊎ IsEntryAt d n place number

-- what the index says of a number where another was noted
abbrev pub noted : Bool → Option ℕ → EndLocation → ℕ → Option EndLocation → Option EndLocation
noted made None s k old = old
noted made (Some number) s k old = if made && number == k then Some s else old

-- the numbers of a husk's entries
abbrev pub numbers_in : List held.HuskEntry → List ℕ
numbers_in es = map (λ e. e.number) es

-- what the index says of a number where these are forgotten
abbrev pub without_numbers : List ℕ → ℕ → Option EndLocation → Option EndLocation
without_numbers numbers k old = if has (λ x. x) k numbers then None else old
