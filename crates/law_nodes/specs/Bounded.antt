-- What nodes may change, whatever is taken from their links: also datagrams that none of them sent (this project's choice).
use Rattle.std.specs.Prelude.{ℕ, ◌≡◌, ◌≢◌, ◌⊎◌, ◌≤◌, ◌<◌, List, [], ◌∷◌, ◌++◌, All, Option, Some, None}
use Rattle.protocol.specs.declared.events.Event.{Event}
use Rattle.law_nodes.specs.Acts.{Act, Along, Restores, Standing, after_act}
use Rattle.law_nodes.specs.Changes.{IsSame, MayChange, Thing}
use Rattle.law_nodes.specs.Composed.{Deed, IsNodeRun, IsOfNode, IsWholeIn, NodeRun, event_of_deed, moved_on}

-- ---- one act

-- the event, if there is one, may change the thing where the node stands
abbrev pub MayChangeBy : Standing → Option Event → Thing → Type 0
MayChangeBy s None t = ⊥
MayChangeBy s (Some e) t = MayChange s.device e t

-- each thing of the device is after the act as it was, or the event of the act may change it; a restore that is refused is no event
abbrev pub IsBounded : Standing → Act → Type 0
IsBounded s a = (t : Thing) → IsSame s.device (after_act s a).device t ⊎ MayChangeBy s (event_of_deed a) t

-- .. after each of these acts
abbrev pub AreBounded : Standing → List Act → Type 0
AreBounded s acts = Along IsBounded s acts

-- ---- an order of what nodes do

-- a deed is bounded at its node, and no other node does anything by it
pub record IsBoundedDeed (at : ℕ → Standing) (x : Deed) : Type 0 where
  pub own : IsBounded (at x.node) x.act
  pub others : (id : ℕ) → id ≢ x.node → moved_on at x id ≡ at id

-- .. as is each of these
abbrev pub AreBoundedDeeds : (ℕ → Standing) → List Deed → Type 0
AreBoundedDeeds at [] = Unit {0}
AreBoundedDeeds at (x ∷ xs) = IsBoundedDeed at x × AreBoundedDeeds (moved_on at x) xs

-- ---- the premises: nothing is asked of what is taken from a link

-- a dump that is restored is of bytes
abbrev pub IsOfBytes : Act → Type 0
IsOfBytes (Restores file bytes image removed) = All (λ b. b < 256) bytes
IsOfBytes other = Unit {0}

-- a run of a node with an id of a device
pub record IsRunning (n : NodeRun) : Type 0 where
  pub run : IsNodeRun n
  pub some_id : 1 ≤ n.id
  pub few_ids : n.id ≤ 255
  pub of_bytes : All IsOfBytes (n.prepared ++ n.served)

-- runs of nodes, and an order of all that they do once they are prepared, for each node in its order
pub record AreRunning (nodes : List NodeRun) (order : List Deed) : Type 0 where
  pub runs : All IsRunning nodes
  pub of_nodes : All (IsOfNode nodes) order
  pub whole : All (IsWholeIn order) nodes
