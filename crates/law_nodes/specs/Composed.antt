-- Several nodes, and one order of what they do (this project's choice).
use Rattle.std.specs.Prelude.{ℕ, ◌+◌, ◌≡◌, ◌==◌, true, List, [], ◌∷◌, ◌++◌, length, map, All, Option, Some, None, if◌then◌else◌}
use Rattle.protocol.specs.declared.events.Event.{Event}
use Rattle.protocol.specs.declared.events.Event.TheVariants as event
use Rattle.protocol.specs.declared.events.WorldEvent.{WorldEvent}
use Rattle.protocol.specs.declared.events.WorldEvent.TheVariants as world_event
use Rattle.protocol.specs.declared.images.ContextImage.{ContextImage}
use Rattle.protocol.specs.Dumps.{dump_bytes}
use Rattle.protocol.specs.State.{Device, World, empty_world}
use Rattle.protocol.specs.WorldStep.{context_of_event, home, world_after, world_step}
use Rattle.rdma_types.specs.declared.answers.Answer.{Answer}
use Rattle.rdma_types.specs.declared.verbs.Verb.{Verb}
use Rattle.rdma_types.specs.declared.names.Name.{Name}
use Rattle.rdma_types.specs.declared.requests.Address.{Address}
use Rattle.rdma_types.specs.Lists.{has}
use Rattle.rdma_types.specs.Objects.{no_address}
use Rattle.node_rules.specs.Lines.{version}
use Rattle.node_rules.specs.Plan.{Call, Leads, Plan}
use Rattle.node_rules.specs.Script.{node_plan}
use Rattle.order_rules.specs.AnyOpening.{ArePreparing}
use Rattle.law_simulation.specs.Kept.{kept_verb, verb_in}
use Rattle.order_rules.specs.Bridge.{is_at_home}
use Rattle.order_rules.specs.Lines.{Line, device_after, events_on, flown}
use Rattle.order_rules.specs.Order.{Each}
use Rattle.order_rules.specs.Sides.{IsFresh, IsNeverAged, IsOneSided}
use Rattle.serve_rules.specs.Server.{new_server}
use Rattle.law_nodes.specs.Served.{AreDone, Done, HasServed}
use Rattle.law_nodes.specs.Acts.{Act, Declines, Does, HasDone, IsDump, Restores, Standing, Stops, after_act, after_acts, beginning, event_in, outcome_of}

-- ---- nodes

-- what drives a node, and what came of it
pub data Source : Type 0 where
  Script : (text : List ℕ) → (calls : List Call) → Source  -- a script, and the calls that were made
  Lines : (base : ℕ) → (done : List Done) → Source  -- the turns and lines of a served device, with the base of its timers

-- a run of a node: its id, its address, what drives it, and the acts that it does, first those that prepare its device
pub record NodeRun : Type 0 where
  pub id : ℕ
  pub own : Address
  pub source : Source
  pub prepared : List Act
  pub served : List Act

-- the plan of a script leads through the calls, and they are those of the acts, wherever the run was cut off
pub record IsScriptRun (id : ℕ) (own : Address) (text : List ℕ) (calls : List Call) (acts : List Act) : Type 0 where
  pub left : Plan
  pub leads : Leads (node_plan id own text) calls left
  pub done : HasDone (beginning id own) calls
  pub same : done.acts ≡ acts

-- a served device did what its rules say, and that is these acts
pub record IsServedRun (id : ℕ) (own : Address) (base : ℕ) (did : List Done) (acts : List Act) : Type 0 where
  pub by_rules : AreDone (new_server id own base) did
  pub done : HasServed (beginning id own) (new_server id own base) did
  pub same : done.acts ≡ acts

-- by what drives it
abbrev pub IsRunBy : Source → ℕ → Address → List Act → Type 0
IsRunBy (Script text calls) id own acts = IsScriptRun id own text calls acts
IsRunBy (Lines base did) id own acts = IsServedRun id own base did acts

-- the acts are those that it was driven to
abbrev pub IsNodeRun : NodeRun → Type 0
IsNodeRun n = IsRunBy n.source n.id n.own (n.prepared ++ n.served)

-- where it stands when it is prepared
abbrev pub standing_of : NodeRun → Standing
standing_of n = after_acts (beginning n.id n.own) n.prepared

-- its device then
abbrev pub device_of : NodeRun → Device
device_of n = (standing_of n).device

-- no node
abbrev pub nobody : NodeRun
nobody = record { id = 0; own = no_address; source = Script [] []; prepared = []; served = [] }

-- the node with an id
unfoldable pub node_at : List NodeRun → ℕ → NodeRun
node_at [] id = nobody
node_at (n ∷ ns) id = if n.id == id then n else node_at ns id

-- ---- one order of what they do

-- what the node with an id does
pub record Deed : Type 0 where
  pub node : ℕ
  pub act : Act

-- what the node with an id does, in its order
unfoldable pub acts_on : ℕ → List Deed → List Act
acts_on id [] = []
acts_on id (x ∷ xs) = if x.node == id then x.act ∷ acts_on id xs else acts_on id xs

-- where each node stands after one of them did something
abbrev pub moved_on : (ℕ → Standing) → Deed → ℕ → Standing
moved_on at x id = if x.node == id then after_act (at id) x.act else at id

-- the event that shows in an order; a restore that the device refuses changes nothing
abbrev pub event_of_deed : Act → Option Event
event_of_deed (Declines bytes image) = None
event_of_deed a = event_in a

-- the line of an event of the node with that id, which stands there, after earlier lines
abbrev pub line_at : List Device → List Line → ℕ → Standing → Event → Line
line_at openings earlier id s e = record {
  receipt = record { worker = id; device = id; place = length (events_on id earlier); event = e; outcome = outcome_of s e };
  first = length (flown openings earlier) + 1;
  count = length (outcome_of s e).sent;
}

-- the lines with one more, where there is an event
abbrev pub with_line : List Device → List Line → ℕ → Standing → Option Event → List Line
with_line openings earlier id s None = earlier
with_line openings earlier id s (Some e) = earlier ++ line_at openings earlier id s e ∷ []

-- the lines of deeds, after earlier ones: each step has the outcome that its own node hears
unfoldable pub lines_from : List Device → (ℕ → Standing) → List Line → List Deed → List Line
lines_from openings at earlier [] = earlier
lines_from openings at earlier (x ∷ xs) = lines_from openings (moved_on at x) (with_line openings earlier x.node (at x.node) (event_of_deed x.act)) xs

-- the devices with which the order begins, and where the nodes stand then
abbrev pub openings_of : List NodeRun → List Device
openings_of nodes = map device_of nodes

abbrev pub standings_of : List NodeRun → ℕ → Standing
standings_of nodes id = standing_of (node_at nodes id)

-- the lines of the order
abbrev pub lines_of_deeds : List NodeRun → List Deed → List Line
lines_of_deeds nodes order = lines_from (openings_of nodes) (standings_of nodes) [] order

-- ---- dumps

-- a dump that was put, and the bytes of it
abbrev pub Dump : Type 0
Dump = Name × List ℕ

-- one of the dumps is taken out, which leaves the others
pub record IsTakenOut (dumps : List Dump) (d : Dump) (others : List Dump) : Type 0 where
  pub front : List Dump
  pub back : List Dump
  pub there : dumps ≡ front ++ d ∷ back
  pub left : others ≡ front ++ back

-- a restore takes out what it found; every other act leaves the dumps
abbrev pub TakesDump : List Dump → Act → List Dump → Type 0
TakesDump dumps (Restores file bytes image removed) others = (removed ≡ bytes) × IsTakenOut dumps (file, removed) others
TakesDump dumps a others = others ≡ dumps

-- the dump of the image that a stop gave
abbrev pub dump_if : Name → Option ContextImage → List Dump
dump_if file None = []
dump_if file (Some image) = (file, dump_bytes version image) ∷ []

-- the dump that an act puts
abbrev pub dump_put : Standing → Act → List Dump
dump_put s (Stops name file) = dump_if file (outcome_of s (event.Stop name true)).image
dump_put s a = []

-- the dump of the image that a stop gave reads as that image
abbrev pub ReadsBack : Option ContextImage → Type 0
ReadsBack None = Unit {0}
ReadsBack (Some image) = IsDump (dump_bytes version image) image

-- .. where an act puts one
abbrev pub PutsReadable : Standing → Act → Type 0
PutsReadable s (Stops name file) = ReadsBack (outcome_of s (event.Stop name true)).image
PutsReadable s a = Unit {0}

-- each restore takes out a dump that was put before and that no other restore took, with the bytes that it found; and each
-- dump reads as the image that was put
abbrev pub AreDumpsTaken : (ℕ → Standing) → List Dump → List Deed → Type 0
AreDumpsTaken at dumps [] = Unit {0}
AreDumpsTaken at dumps (x ∷ xs) =
    (others : List Dump) × TakesDump dumps x.act others × PutsReadable (at x.node) x.act
    × AreDumpsTaken (moved_on at x) (others ++ dump_put (at x.node) x.act) xs

-- ---- the premises

-- what is heard by acts: verbs that count as made, with their answers
abbrev pub heard_if : Standing → Option Event → List (Verb × Answer)
heard_if s None = []
heard_if s (Some e) = kept_verb (verb_in e) (outcome_of s e).answer

abbrev pub heard_by : Standing → List Act → List (Verb × Answer)
heard_by s [] = []
heard_by s (a ∷ more) = heard_if s (event_in a) ++ heard_by (after_act s a) more

-- .. and by the events of a world, at contexts that live on the device with an id
abbrev pub kept_there : ℕ → World → WorldEvent → Answer → List (Verb × Answer)
kept_there id w (world_event.At e) a = if (home w (context_of_event e)).id == id then kept_verb (verb_in e) a else []
kept_there id w other a = []

abbrev pub kept_on : ℕ → World → List WorldEvent → List (Verb × Answer)
kept_on id w [] = []
kept_on id w (e ∷ es) = kept_there id w e (world_step w e).answer ++ kept_on id (world_step w e).world es

-- while its device is prepared, the node hears what these events tell at its contexts
abbrev pub IsPreparedBy : List WorldEvent → NodeRun → Type 0
IsPreparedBy es n = heard_by (beginning n.id n.own) n.prepared ≡ kept_on n.id empty_world es

-- all that the node does once it is prepared stands in the order
abbrev pub IsWholeIn : List Deed → NodeRun → Type 0
IsWholeIn order n = acts_on n.id order ≡ n.served

-- no end is linked by the act
abbrev pub LinksNone : Act → Type 0
LinksNone (Does (event.Connect o peer partner terms)) = ⊥
LinksNone other = Unit {0}

-- a verb is asked where its context lives or left a husk
abbrev pub IsAtHome : List Device → List Line → Line → Type 0
IsAtHome openings earlier l = is_at_home (device_after openings earlier l.receipt.device) l.receipt.event (verb_in l.receipt.event) ≡ true

-- the deed is of a node of these
abbrev pub IsOfNode : List NodeRun → Deed → Type 0
IsOfNode nodes x = has (λ d. d.id) x.node (openings_of nodes) ≡ true

-- nodes whose devices are prepared as these events of a world do, and an order of what they do then
pub record AreComposed (nodes : List NodeRun) (es : List WorldEvent) (order : List Deed) : Type 0 where
  -- each node does what its script or the lines that drive it say
  pub runs : All IsNodeRun nodes
  -- the nodes make and link what the events of a world make and connect, and hear the same: so ids, addresses and names of
  -- contexts differ, and each end is linked to the one that is linked to it
  pub preparing : ArePreparing es
  pub prepared : (world_after empty_world es).devices ≡ openings_of nodes
  pub answered : All (IsPreparedBy es) nodes
  -- the order has all that the nodes do once they are prepared, for each node in its order
  pub of_nodes : All (IsOfNode nodes) order
  pub whole : All (IsWholeIn order) nodes
  -- each dump that is taken out was put before, and is used up
  pub dumps : AreDumpsTaken (standings_of nodes) [] order
  -- each datagram that is taken was sent before, from and to these addresses, and comes at most 2^22 numbers late; it may also
  -- be lost, repeated or overtaken
  pub in_time : IsNeverAged (openings_of nodes) (lines_of_deeds nodes order)
  -- no end stops while its partner is carried or resuming
  pub one_sided : IsOneSided (openings_of nodes) (lines_of_deeds nodes order)
  -- verbs are asked where their context lives or left a husk
  pub at_home : Each (IsAtHome (openings_of nodes)) (lines_of_deeds nodes order)
  -- a context that is made then has a name that no context has on a node, and none that is carried
  pub fresh : IsFresh (openings_of nodes) (lines_of_deeds nodes order)
  -- no end is linked any more
  pub linked : All (λ x. LinksNone x.act) order
