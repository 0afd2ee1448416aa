-- What is claimed where a device is emptied.
use Rattle.std.specs.Prelude.{ℕ, ◌≡◌, ◌⊎◌, true, List, [], ◌∷◌, ◌++◌, map, All, Contains, Some, None, bytes_eq}
use Rattle.std.specs.List.{count_by}
use Rattle.rdma_types.specs.declared.names.Name.{Name}
use Rattle.rdma_types.specs.Lists.{has_word}
use Rattle.protocol.specs.declared.events.WorldEvent.{WorldEvent}
use Rattle.protocol.specs.Images.{IsMoved, image_of}
use Rattle.protocol.specs.Refusals.{has_context}
use Rattle.protocol.specs.Script.{Happening}
use Rattle.protocol.specs.State.{World, device_at}
use Rattle.protocol.specs.WorldStep.{is_carried, live_context, world_after}
use Rattle.packetless_machine.specs.Machine.{Machine}
use Rattle.law_simulation.specs.Stands.{Stands, names_of}
use Rattle.law_settling.specs.Settling.{IsSettling}
use Rattle.law_headline.specs.Follows.{FollowsAll}
use Rattle.law_headline.specs.Script.{world_left}
use Rattle.evac_rules.specs.declared.moves.Shifted.{Shifted}
use Rattle.evac_rules.specs.declared.moves.StayReason.{StayReason}
use Rattle.evac_rules.specs.declared.moves.StayReason.TheVariants as why
use Rattle.evac_rules.specs.Evacuation.{AreTargets, Stays, evacuation, names_on, restore, stop}

-- a context is stopped, some targets refuse it, and it is restored
abbrev pub shift : Name → List ℕ → ℕ → List Happening
shift n refused t = stop n ∷ map (restore n) refused ++ restore n t ∷ []

-- that is done among the steps; and the context, as it is restored, is the image that its stop gave but for what a move changes
pub record IsShifted (w : World) (steps : List Happening) (x : Shifted) : Type 0 where
  pub prefix : List Happening
  pub refused : List ℕ
  pub back : List Happening
  pub splits : steps ≡ prefix ++ shift x.context refused x.target ++ back
  pub moved : IsMoved (image_of (live_context (world_left w prefix) x.context)) (live_context (world_left w (prefix ++ shift x.context refused x.target)) x.context)

-- a context lives on a device
abbrev pub LivesOn : World → ℕ → Name → Type 0
LivesOn w k n = has_context (device_at w k) n ≡ true

-- a context is on the device that it moved to
abbrev pub IsThere : World → Shifted → Type 0
IsThere w x = LivesOn w x.target x.context

-- a device is emptied by these steps, which lead to `new`: no context lives there; the list names each context that was there,
-- once and in order, with the target on which it now lives; and each was restored as the image that its stop gave
pub record IsEvacuated (w : World) (from : ℕ) (targets : List ℕ) (steps : List Happening) (new : World) (moved : List Shifted) : Type 0 where
  pub emptied : (device_at new from).contexts ≡ []
  pub named : map (λ x. x.context) moved ≡ names_on w from
  pub targeted : All (λ x. Contains targets x.target) moved
  pub lives : All (IsThere new) moved
  pub shifted : All (IsShifted w steps) moved

-- .. where a world stands for a state of the packetless machine and there is no fault
abbrev pub DevicesAreEmptied : Type 0
DevicesAreEmptied =
    (w : World) (m : Machine) (from : ℕ) (targets : List ℕ) → Stands w m → AreTargets from targets →
    (evacuation w from targets).fault ≡ None →
    IsEvacuated w from targets (evacuation w from targets).steps (evacuation w from targets).world (evacuation w from targets).moved

-- where a context stays, it lives on the device; where no target took it, it lives there or is carried
abbrev pub StaysBy : StayReason → World → ℕ → Name → Type 0
StaysBy why.PeerMoving w from n = LivesOn w from n
StaysBy why.TooMany w from n = LivesOn w from n
StaysBy why.NoTarget w from n = LivesOn w from n ⊎ (is_carried w n ≡ true)

-- one context stays, as do those after it, and those before it moved
pub record IsLeftWith (w : World) (from : ℕ) (targets : List ℕ) (n : Name) (y : StayReason) (steps : List Happening) (new : World) (moved : List Shifted) : Type 0 where
  pub later : List Name
  pub named : map (λ x. x.context) moved ++ n ∷ later ≡ names_on w from
  pub stays : StaysBy y new from n
  pub remain : All (LivesOn new from) later
  pub targeted : All (λ x. Contains targets x.target) moved
  pub lives : All (IsThere new) moved
  pub shifted : All (IsShifted w steps) moved

-- .. where a world stands for a state of the packetless machine and a context stays
abbrev pub DevicesKeepTheRest : Type 0
DevicesKeepTheRest =
    (w : World) (m : Machine) (from : ℕ) (targets : List ℕ) (n : Name) (y : StayReason) → Stands w m → AreTargets from targets →
    (evacuation w from targets).fault ≡ Some (Stays n y) →
    IsLeftWith w from targets n y (evacuation w from targets).steps (evacuation w from targets).world (evacuation w from targets).moved

-- the machine follows the steps of an evacuation, one after the other
abbrev pub EvacuationsAreFollowed : Type 0
EvacuationsAreFollowed = (w : World) (m : Machine) (from : ℕ) (targets : List ℕ) → Stands w m → FollowsAll w m (evacuation w from targets).steps

-- a context lives on one device or is carried in one image, and not both
abbrev pub IsSomewhere : World → Name → Type 0
IsSomewhere w n = count_by (λ k. bytes_eq k n) (names_of w) ≡ 1

-- some steps and then some events of a settling lose no context
abbrev pub NothingIsLost : Type 0
NothingIsLost =
    (w : World) (m : Machine) (from : ℕ) (targets : List ℕ) (prefix back : List Happening) (events : List WorldEvent) (n : Name) → Stands w m →
    (evacuation w from targets).steps ≡ prefix ++ back → All IsSettling events → has_word n (names_of w) ≡ true →
    IsSomewhere (world_after (world_left w prefix) events) n
