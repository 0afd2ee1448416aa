-- What the ends of a context leave when it moves away.
use Rattle.std.specs.Prelude.{ℕ, List, [], ◌∷◌, ◌+◌, ◌==◌, Option, None, Some, if◌then◌else◌}
use Rattle.std.specs.List.{flat_map}
use Rattle.rdma_types.specs.declared.names.Name.{Name}
use Rattle.protocol.specs.DeviceStep.{husk_entry}
use Rattle.protocol.specs.State.{End, HuskEntry}
use Rattle.device_core.specs.declared.index.EndLocation.{EndLocation}
use Rattle.device_core.specs.Index.{spot}

-- none or one
abbrev pub in_list : {A : Type 0} → Option A → List A
in_list None = []
in_list (Some x) = x ∷ []

-- what an end leaves
abbrev pub left_by : End → List HuskEntry
left_by e = husk_entry e e.link

-- a number whose end leaves nothing
abbrev pub unless_left : List HuskEntry → ℕ → List ℕ
unless_left [] number = number ∷ []
unless_left (x ∷ xs) number = []

-- the numbers of ends that leave nothing
abbrev pub gone_in : List End → List ℕ
gone_in es = flat_map (λ e. unless_left (left_by e) e.number) es

-- what the index says of a number where numbers are noted one after another from a place on
unfoldable pub placed : Name → ℕ → List ℕ → ℕ → Option EndLocation → Option EndLocation
placed n from [] k old = old
placed n from (x ∷ xs) k old = placed n (from + 1) xs k (if x == k then Some (spot n from) else old)
