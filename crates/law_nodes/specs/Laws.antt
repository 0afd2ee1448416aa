-- Laws of nodes (this project's choice).
use Rattle.std.specs.Prelude.{ℕ, List, ◌++◌, Some}
use Rattle.rdma_types.specs.declared.requests.Address.{Address}
use Rattle.node_rules.specs.Plan.{Call, Leads, Plan}
use Rattle.node_rules.specs.Script.{node_plan}
use Rattle.order_rules.specs.Hears.{heard}
use Rattle.packetless_machine.specs.Legal.{IsLegal}
use Rattle.protocol.specs.declared.events.WorldEvent.{WorldEvent}
use Rattle.protocol.specs.State.{empty_world}
use Rattle.law_simulation.specs.Law.{kept}
use Rattle.law_dump_round_trip.specs.Fits.{FitsFields}
use Rattle.protocol.specs.declared.images.ContextImage.{ContextImage}
use Rattle.protocol.specs.Lawful.{IsLawful}
use Rattle.serve_rules.specs.Server.{new_server}
use Rattle.law_nodes.specs.Acts.{HasDone, beginning}
use Rattle.law_nodes.specs.Served.{AreDone, Done, HasServed}
use Rattle.law_nodes.specs.Bounded.{AreBounded, AreBoundedDeeds, AreRunning, IsRunning}
use Rattle.law_nodes.specs.Composed.{AreComposed, Deed, NodeRun, ReadsBack, lines_of_deeds, standings_of}

-- wherever a run of a node is cut off, its calls are those of acts on a new device: each datagram that was taken arrives, what is
-- sent is what the steps of the device send, and what is written is the answers of these steps
abbrev pub CallsAreActs : Type 0
CallsAreActs = (id : ℕ) (own : Address) (text : List ℕ) (calls : List Call) (left : Plan) → Leads (node_plan id own text) calls left → HasDone (beginning id own) calls

-- whatever a served device does by its rules, turn after turn and line after line, is acts on a new device: arrivals, transmissions,
-- expiries and ends of RNR waits in a turn, and for a line that was done an event, a stop or a restore
abbrev pub ServingIsActs : Type 0
ServingIsActs = (id : ℕ) (own : Address) (base : ℕ) (did : List Done) → AreDone (new_server id own base) did → HasServed (beginning id own) (new_server id own base) did

-- the answers that nodes hear, in the order of what they do, are answers that the packetless machine gives, after those that were
-- heard while their devices were prepared
abbrev pub NodesAreFollowed : Type 0
NodesAreFollowed = (nodes : List NodeRun) (es : List WorldEvent) (order : List Deed) → AreComposed nodes es order → IsLegal (kept empty_world es ++ heard (lines_of_deeds nodes order))

-- the dump of a lawful image whose numbers fit their fields reads as that image
abbrev pub FittingDumpsReadBack : Type 0
FittingDumpsReadBack = (image : ContextImage) → IsLawful image → FitsFields image → ReadsBack (Some image)

-- whatever a node takes from its link, each of its acts changes only what it may, from its beginning on
abbrev pub NodeIsBounded : Type 0
NodeIsBounded = (n : NodeRun) → IsRunning n → AreBounded (beginning n.id n.own) (n.prepared ++ n.served)

-- .. and so does each act in an order of what several nodes do, at its own node alone
abbrev pub NodesAreBounded : Type 0
NodesAreBounded = (nodes : List NodeRun) (order : List Deed) → AreRunning nodes order → AreBoundedDeeds (standings_of nodes) order
