-- What the parts of an evacuation do to a world that keeps the last datagrams.
use Rattle.std.specs.Prelude.{◌≡◌, List, [], ◌∷◌, ◌++◌, Option, Some, None}
use Rattle.rdma_types.specs.declared.names.Name.{Name}
use Rattle.protocol.specs.declared.events.WorldEvent.{WorldEvent}
use Rattle.protocol.specs.Script.{Happening, Event, Dump, Settles}
use Rattle.protocol.specs.State.{World}
use Rattle.protocol.specs.WorldStep.{world_after}
use Rattle.law_kept_datagrams.specs.Alike.{with_kept_datagrams}
use Rattle.law_settling.specs.Events.{settling_events}
use Rattle.law_headline.specs.Script.{world_left}
use Rattle.evac_rules.specs.declared.moves.Shifted.{Shifted}
use Rattle.evac_rules.specs.Evacuation.{Evacuation, Fault, Stays}
use Rattle.evac_plan.specs.declared.moving.Place.{Place}
use Rattle.evac_plan.specs.declared.moving.Place.TheVariants as place

-- a world keeps the last datagrams of an evacuation's
pub record Shows (w : World) (s : Evacuation) : Type 0 where
  pub world : w ≡ with_kept_datagrams s.world

-- a settling of a world begins with these events
pub record AreFirstEvents (w : World) (es : List WorldEvent) : Type 0 where
  pub rest : List WorldEvent
  pub are : settling_events w ≡ es ++ rest

-- the first events of a settling of a world that is under way: it is the first of the steps that are left
abbrev pub AreUnderWay : World → List WorldEvent → List Happening → Type 0
AreUnderWay w [] back = Unit {0}
AreUnderWay w (e ∷ es) [] = ⊥
AreUnderWay w (e ∷ es) (Event x ∷ back) = ⊥
AreUnderWay w (e ∷ es) (Dump n ∷ back) = ⊥
AreUnderWay w (e ∷ es) (Settles ∷ back) = AreFirstEvents w (e ∷ es)

-- an evacuation stopped on its way from s to s': the first of the steps between them were made, and maybe the first
-- events of a settling
pub record IsCut (s s' : Evacuation) (w : World) : Type 0 where
  pub prefix : List Happening
  pub back : List Happening
  pub splits : s'.steps ≡ s.steps ++ (prefix ++ back)
  pub events : List WorldEvent
  pub under_way : AreUnderWay (world_left s.world prefix) events back
  pub world : w ≡ with_kept_datagrams (world_after (world_left s.world prefix) events)

-- s' comes of s by what became of one context, which is told by a place
abbrev pub Becomes : Place → Name → Evacuation → Evacuation → Type 0
Becomes (place.On t) n s s' = (s'.moved ≡ s.moved ++ record { context = n; target = t } ∷ []) × (s'.fault ≡ s.fault)
Becomes (place.Stays why) n s s' = (s'.moved ≡ s.moved) × (s'.fault ≡ Some (Stays n why))

-- an evacuation ended with this list and this fault, and left this world
pub record Ends (s : Evacuation) (told : List Shifted) (stays : Option Fault) (w : World) : Type 0 where
  pub moved : told ≡ s.moved
  pub fault : s.fault ≡ stays
  pub world : w ≡ with_kept_datagrams s.world

-- nothing moved yet, and nothing stays
pub record IsFresh (s : Evacuation) : Type 0 where
  pub moved : s.moved ≡ []
  pub fault : s.fault ≡ None
