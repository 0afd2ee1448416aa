-- How a run of a script of a node ends, and what it leaves then: as answered, as a call fails, and as memory runs out (this
-- project's choice).
use Rattle.std.specs.Prelude.{ℕ, ◌≡◌, ◌≢◌, ◌≤◌, List, [], ◌++◌}
use Rattle.host_ports.specs.Depots.{KeepsOthers}
use Rattle.host_ports.specs.Streams.{FaultsCounted, Puts as PutsText}
use Rattle.node_rules.specs.Plan.{Call, Ending, Ends, Looks, Plan, Puts, Removes, Sends, Starts, Takes, Writes}
use Rattle.node_rules.specs.Told.{AreMade, Contents}

-- calls of the plan were made, and of the plan that is left, the contents that they left and those at the end this holds
pub record StopsAt (Stop : Plan → Contents → Contents → Type 0) (plan : Plan) (before after : Contents) : Type 0 where
  pub calls : List Call
  pub left : Plan
  pub reached : Contents
  pub made : AreMade plan before calls left reached
  pub stop : Stop left reached after

-- every call of the plan was made, and it ended so
abbrev pub HasEnded : Ending → Plan → Contents → Contents → Type 0
HasEnded ending left reached after = (left ≡ Ends ending) × (after ≡ reached)

-- a count rose, or stands at its last value
abbrev pub Rises : ℕ → ℕ → Type 0
Rises old new = (old ≤ new) × FaultsCounted old new

-- ---- a call fails

-- the next call is one of the link
abbrev pub IsOfLink : Plan → Type 0
IsOfLink (Starts own more) = Unit {0}
IsOfLink (Takes more) = Unit {0}
IsOfLink (Sends datagram more) = Unit {0}
IsOfLink plan = ⊥

-- a call of the link failed: its fault was counted, and all else is as it was
abbrev pub LinkFailed : Plan → Contents → Contents → Type 0
LinkFailed left reached after = IsOfLink left × Rises reached.faults.link after.faults.link × (after ≡ record reached { faults = record reached.faults { link = after.faults.link } })

-- what a call of the depot leaves that was refused: nothing is certain under the name of a put; else all is as it was
abbrev pub KeepsHeld : Plan → Contents → Contents → Type 0
KeepsHeld (Puts name bytes more) t t' = KeepsOthers t.held t'.held name
KeepsHeld plan t t' = t'.held ≡ t.held

-- the next call is one of the depot
abbrev pub IsOfDepot : Plan → Type 0
IsOfDepot (Puts name bytes more) = Unit {0}
IsOfDepot (Looks name more) = Unit {0}
IsOfDepot (Removes name more) = Unit {0}
IsOfDepot plan = ⊥

-- a call of the depot failed: its fault was counted, and all else is as it was
abbrev pub DepotFailed : Plan → Contents → Contents → Type 0
DepotFailed left reached after = IsOfDepot left × KeepsHeld left reached after × Rises reached.faults.depot after.faults.depot × (after ≡ record reached { held = after.held; faults = record reached.faults { depot = after.faults.depot } })

-- bytes of a text were written, but not all of them
pub record IsCut (text : List ℕ) (before after : Contents) : Type 0 where
  pub prefix : List ℕ
  pub rest : List ℕ
  pub splits : text ≡ prefix ++ rest
  pub lacks : rest ≢ []
  pub written : PutsText before.written after.written prefix

-- the next call writes a text, and that was cut
abbrev pub CutsAnswer : Plan → Contents → Contents → Type 0
CutsAnswer (Writes text more) reached after = IsCut text reached after
CutsAnswer plan reached after = ⊥

-- an answer was not written whole: the fault was counted, and all else is as it was
abbrev pub OutputFailed : Plan → Contents → Contents → Type 0
OutputFailed left reached after = CutsAnswer left reached after × Rises reached.faults.output after.faults.output × (after ≡ record reached { written = after.written; faults = record reached.faults { output = after.faults.output } })

-- ---- memory

-- memory ran out, in a call of the depot or between two calls: no fault was counted, and all but what is held is as it was
abbrev pub MemoryRanOut : Plan → Contents → Contents → Type 0
MemoryRanOut left reached after = KeepsHeld left reached after × (after ≡ record reached { held = after.held })
