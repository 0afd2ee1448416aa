-- What a served device does, one thing after the other, and the acts that each of them is (this project's choice).
use Rattle.std.specs.Prelude.{ℕ, ◌≡◌, List, [], ◌∷◌, ◌++◌, map, Option, Some, None, Ok}
use Rattle.protocol.specs.declared.events.Event.{Event}
use Rattle.protocol.specs.declared.events.Event.TheVariants as event
use Rattle.protocol.specs.declared.images.ContextImage.{ContextImage}
use Rattle.protocol.specs.DeviceStep.{device_step}
use Rattle.protocol.specs.State.{Device}
use Rattle.rdma_types.specs.declared.answers.Sent.{Sent}
use Rattle.rdma_types.specs.declared.names.Name.{Name}
use Rattle.script_lang.specs.declared.lines.NodeLine.{NodeLine}
use Rattle.script_lang.specs.declared.lines.NodeLine.TheVariants as line_is
use Rattle.serve_rules.specs.declared.lines.ServeLine.TheVariants as served_line
use Rattle.serve_rules.specs.declared.replies.Reply.{Reply}
use Rattle.serve_rules.specs.declared.replies.Reply.TheVariants as reply
use Rattle.serve_rules.specs.Reading.{serve_reading_of}
use Rattle.node_rules.specs.Lines.{verb_event}
use Rattle.serve_rules.specs.Laws.{AreEvents}
use Rattle.serve_rules.specs.Lines.{IsLineOf, released}
use Rattle.serve_rules.specs.Moving.{Kept, RestoreLeaves, StopLeaves}
use Rattle.serve_rules.specs.Server.{Server}
use Rattle.serve_rules.specs.Turns.{turned}
use Rattle.law_nodes.specs.Acts.{Act, Does, Looks, MayDoAll, Restores, Standing, Stops, Takes, Turns, after_act, after_acts, event_in, outcome_of}

-- ---- what it does

-- one thing that a served device does; a line with what was answered to it
pub data Doing : Type 0 where
  Turn : (now : ℕ) → Doing  -- a turn, at that answer of the clock
  Line : (text : List ℕ) → (event : Event) → (reply : Reply) → Doing  -- the line of an event
  Stop : (name file : Name) → (reply : Reply) → Doing
  Restore : (file : Name) → (reply : Reply) → Doing
  Release : (name : Name) → Doing
  Rest : Doing  -- whatever keeps the device: datagrams are taken or go out, and lines wait, show, are bad or are out of memory

-- the event that a line of a node asks for
abbrev pub event_of_line : NodeLine → Option Event
event_of_line (line_is.Verb v) = verb_event v
event_of_line (line_is.Context name) = Some (event.MakeContext name)
event_of_line (line_is.Link o peer partner terms) = Some (event.Connect o peer partner terms)
event_of_line (line_is.Go o) = Some (event.Transmit o)
event_of_line (line_is.Expire o) = Some (event.Expire o)
event_of_line (line_is.Rnr o) = Some (event.RnrOver o)
event_of_line other = None

-- the bytes of a line ask for that event
pub record Says (text : List ℕ) (e : Event) : Type 0 where
  pub line : NodeLine
  pub reads : serve_reading_of text ≡ Ok (served_line.Node line)
  pub event : event_of_line line ≡ Some e

-- by the rules of a served device it leads from one state to the other
abbrev pub LeadsTo : Server → Doing → Server → Type 0
LeadsTo s (Turn now) s' = s' ≡ turned s now
LeadsTo s (Line text e r) s' = Says text e × IsLineOf e s r s'
LeadsTo s (Stop name file r) s' = (k : Kept) × (k' : Kept) × StopLeaves s name file r s' k k'
LeadsTo s (Restore file r) s' = (k : Kept) × (k' : Kept) × RestoreLeaves s file r s' k k'
LeadsTo s (Release name) s' = s' ≡ released s name
LeadsTo s Rest s' = s'.device ≡ s.device

-- something that it did, and its state then
pub record Done : Type 0 where
  pub doing : Doing
  pub next : Server

-- it did all this, one thing after the other
abbrev pub AreDone : Server → List Done → Type 0
AreDone s [] = Unit {0}
AreDone s (x ∷ xs) = LeadsTo s x.doing x.next × AreDone x.next xs

-- ---- the acts that it is

-- an event of a turn
abbrev pub act_of : Event → Act
act_of (event.Arrive from bytes) = Takes (from, bytes)
act_of e = Turns e

-- a dump that was found is restored and taken out
abbrev pub restores : Name → List ℕ → ContextImage → List Act
restores file bytes image = Looks file (Some bytes) ∷ Restores file bytes image bytes ∷ []

-- these are the acts of it: a turn is its arrivals, transmissions, expiries and ends of RNR waits; and a line that was done is one event, a
-- stop, or a restore of what was found
abbrev pub AreActsOf : Server → Doing → Server → List Act → Type 0
AreActsOf s (Turn now) s' acts = (of : AreEvents s s') × (acts ≡ map act_of of.events)
AreActsOf s (Line text e reply.Memory) s' acts = acts ≡ []
AreActsOf s (Line text e r) s' acts = acts ≡ Does e ∷ []
AreActsOf s (Stop name file reply.Stopped) s' acts = acts ≡ Stops name file ∷ []
AreActsOf s (Stop name file r) s' acts = acts ≡ []
AreActsOf s (Restore file reply.Restored) s' acts = (bytes : List ℕ) × (image : ContextImage) × (acts ≡ restores file bytes image)
AreActsOf s (Restore file r) s' acts = acts ≡ []
AreActsOf s (Release name) s' acts = acts ≡ Does (event.Release name) ∷ []
AreActsOf s Rest s' acts = acts ≡ []

-- what events send, from where the device stands on
abbrev pub sent_in : Device → List Event → List Sent
sent_in d [] = []
sent_in d (e ∷ es) = (device_step d e).outcome.sent ++ sent_in (device_step d e).device es

-- what acts send
abbrev pub sent_if : Standing → Option Event → List Sent
sent_if s None = []
sent_if s (Some e) = (outcome_of s e).sent

abbrev pub sent_by : Standing → List Act → List Sent
sent_by s [] = []
sent_by s (a ∷ more) = sent_if s (event_in a) ++ sent_by (after_act s a) more

-- so much waits to go out then, behind what waited before; where the device is kept, datagrams go out
abbrev pub Queues : Server → Doing → Server → List Sent → Type 0
Queues s Rest s' sent = Unit {0}
Queues s x s' sent = s'.outgoing ≡ s.outgoing ++ sent

-- the acts of the first thing: they lead to the device that it leads to, what they send waits to go out, and then come those of the others
pub record AreActsFirst (at : Standing) (s : Server) (x : Done) (acts more : List Act) : Type 0 where
  pub own : List Act
  pub of : AreActsOf s x.doing x.next own
  pub leads : (after_acts at own).device ≡ x.next.device
  pub sends : Queues s x.doing x.next (sent_by at own)
  pub both : acts ≡ own ++ more

-- .. of all that it did, from where it stands on
abbrev pub AreActsOfAll : Standing → Server → List Done → List Act → Type 0
AreActsOfAll at s [] acts = acts ≡ []
AreActsOfAll at s (x ∷ xs) acts = (more : List Act) × (first : AreActsFirst at s x acts more) × AreActsOfAll (after_acts at first.own) x.next xs more

-- what it did is such acts
pub record HasServed (at : Standing) (s : Server) (done : List Done) : Type 0 where
  pub acts : List Act
  pub may : MayDoAll at acts
  pub are : AreActsOfAll at s done acts
