-- That no name is held twice: by a live context of any device, or by a carried image.
use Rattle.std.specs.Prelude.{◌≢◌, ◌≤◌, ◌+◌, ℕ, List, map, sum_by, count_by, bytes_eq, All, AllPairs}
use Rattle.rdma_types.specs.declared.names.Name.{Name}
use Rattle.protocol.specs.declared.events.WorldEvent.{WorldEvent}
use Rattle.protocol.specs.Events.{IsLawfulWorldEvent}
use Rattle.protocol.specs.State.{Device, World, empty_world}
use Rattle.protocol.specs.WorldStep.{world_after, world_step}
use Rattle.law_settling.specs.Places.{HaveOwnContexts, HaveOwnIds}

-- how many live contexts and carried images have the name
unfoldable pub holders : World → Name → ℕ
holders w n = sum_by (λ d. count_by (λ c. bytes_eq c.name n) d.contexts) w.devices + count_by (λ i. bytes_eq i.name n) w.carried

-- no name is held twice
abbrev pub HaveOwnNames : World → Type 0
HaveOwnNames w = (n : Name) → holders w n ≤ 1

-- no id is a device's twice, and no name is held twice
pub record HaveOwn (w : World) : Type 0 where
  pub ids : HaveOwnIds w
  pub names : HaveOwnNames w

-- each lawful event keeps this. `At` with an event that a world does not hand on need not: a device where a context of the
-- empty name lives would be handed `MakeContext` of a name that lives on another device, and would make it
abbrev pub EventsKeepOwn : Type 0
EventsKeepOwn = (w : World) (e : WorldEvent) → IsLawfulWorldEvent e → HaveOwn w → HaveOwn (world_step w e).world

-- .. and so each world has it that comes of lawful events
abbrev pub RunsHaveOwn : Type 0
RunsHaveOwn = (es : List WorldEvent) → All IsLawfulWorldEvent es → HaveOwn (world_after empty_world es)

-- .. also where they go on from a world that has it
abbrev pub RunsKeepOwn : Type 0
RunsKeepOwn = (w : World) (es : List WorldEvent) → All IsLawfulWorldEvent es → HaveOwn w → HaveOwn (world_after w es)

-- then each context lives on one device
abbrev pub NamesAreEnough : Type 0
NamesAreEnough = (w : World) → HaveOwnNames w → HaveOwnContexts w

-- .. and no two contexts of a device have a name
abbrev pub NamesAreApart : Type 0
NamesAreApart = (w : World) → HaveOwnNames w → All (λ (d : Device). AllPairs (λ a b. a ≢ b) (map (λ c. c.name) d.contexts)) w.devices
