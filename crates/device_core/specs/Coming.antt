-- What an image brings to a device.
use Rattle.std.specs.Prelude.{ℕ, List, map, Bool, false, not, ◌&&◌, ◌||◌, ◌==◌, ◌/◌, ◌%◌, Option, None, Some, nat_le, max, if◌then◌else◌}
use Rattle.std.specs.List.{list_any}
use Rattle.rdma_types.specs.Limits.{most_moves}
use Rattle.rdma_types.specs.Lists.{some}
use Rattle.rdma_types.specs.declared.requests.Keys.{Keys}
use Rattle.protocol.specs.declared.images.ContextImage.{ContextImage}
use Rattle.protocol.specs.declared.images.EndImage.{EndImage}
use Rattle.protocol.specs.declared.images.LinkImage.{LinkImage}
use Rattle.protocol.specs.declared.images.RegionImage.{RegionImage}
use Rattle.protocol.specs.Refusals.{has_context, has_husk, number_is_taken}
use Rattle.protocol.specs.State.{Device}
use Rattle.context_core.specs.Context.{meets}

-- the numbers of its ends
abbrev pub numbers_of_ends : List EndImage → List ℕ
numbers_of_ends es = map (λ e. e.number) es

-- the pairs of its regions' keys by their places
abbrev pub pairs_of : List RegionImage → List ℕ
pairs_of rs = map (λ r. r.keys.local / 2) rs

-- in Rts, and moved as often as may be
abbrev pub has_moved_image : Option LinkImage → Bool
has_moved_image None = false
has_moved_image (Some l) = not l.ended && nat_le most_moves l.moves

-- a key of the pair lives in a context
abbrev pub pair_is_taken : Device → Keys → Bool
pair_is_taken d keys = some (λ c. some (meets keys) c.regions) d.contexts

-- its name, a number or a key is taken
abbrev pub brings_taken : Device → ContextImage → Bool
brings_taken d i = (has_context d i.name || has_husk d i.name) || (list_any (λ e. number_is_taken d e.number) i.ends || list_any (λ r. pair_is_taken d r.keys) i.regions)

-- the greater count, if the number is one of the device's own
abbrev pub higher : ℕ → ℕ → ℕ → ℕ → ℕ
higher id size number count = if number / size == id then max count (number % size) else count
