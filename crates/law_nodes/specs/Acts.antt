-- What a node does, one thing after the other, and the calls that each of them makes (this project's choice).
use Rattle.std.specs.Prelude.{ℕ, ◌≡◌, ◌<◌, ◌⊎◌, Bool, true, false, List, [], ◌∷◌, ◌++◌, length, Option, Some, None}
use Rattle.host_ports.specs.Links.{Addressed}
use Rattle.protocol.specs.declared.events.Event.{Event}
use Rattle.protocol.specs.declared.events.Event.TheVariants as event
use Rattle.protocol.specs.declared.images.ContextImage.{ContextImage}
use Rattle.protocol.specs.declared.images.Outcome.{Outcome}
use Rattle.protocol.specs.Dumps.{Good, dump_bytes, read_dump}
use Rattle.protocol.specs.DeviceStep.{device_step}
use Rattle.protocol.specs.Events.{IsLawfulEvent}
use Rattle.protocol.specs.State.{Device}
use Rattle.protocol.specs.WorldStep.{is_done}
use Rattle.rdma_types.specs.declared.answers.Sent.{Sent}
use Rattle.rdma_types.specs.declared.names.Name.{Name}
use Rattle.rdma_types.specs.declared.requests.Address.{Address}
use Rattle.script_lang.specs.Printed.{printed}
use Rattle.law_devices.specs.Sound.{GivesNames}
use Rattle.law_simulation.specs.Law.{IsEventInRange}
use Rattle.node_rules.specs.Lines.{counting, served_text, version}
use Rattle.node_rules.specs.Node.{more_by, new_node}
use Rattle.node_rules.specs.Plan as plan
use Rattle.node_rules.specs.Plan.{Call}

-- ---- where a node stands

-- its device, and the datagrams that it has sent so far
pub record Standing : Type 0 where
  pub device : Device
  pub sent : ℕ

-- at the beginning
abbrev pub beginning : ℕ → Address → Standing
beginning id own = let n = new_node id own in record { device = n.device; sent = n.sent }

-- what an event gives there
abbrev pub outcome_of : Standing → Event → Outcome
outcome_of s e = (device_step s.device e).outcome

-- .. and where it leads
abbrev pub after_event : Standing → Event → Standing
after_event s e = record { device = (device_step s.device e).device; sent = more_by s.sent (length (outcome_of s e).sent) }

-- ---- acts

-- one thing that a node does
pub data Act : Type 0 where
  Starts : (own : Address) → Act  -- the link is started
  Waits : Act  -- a turn finds no datagram
  Takes : (datagram : Addressed) → Act  -- a datagram is taken, and arrives at the device
  Turns : (event : Event) → Act  -- an end sends, expires or ends its RNR timer in a turn
  Asks : (moment : ℕ) → Act  -- the clock is asked
  Counts : (taken : ℕ) → Act  -- turns are over, and their datagrams are counted
  Does : (event : Event) → Act  -- a line is one event, which is answered
  Stops : (name file : Name) → Act  -- a context is stopped, and its dump is put
  Looks : (file : Name) → (found : Option (List ℕ)) → Act  -- a dump is looked for
  Restores : (file : Name) → (bytes : List ℕ) → (image : ContextImage) → (removed : List ℕ) → Act  -- what was found is restored, and the dump taken out
  Declines : (bytes : List ℕ) → (image : ContextImage) → Act  -- what was found is not restored, since the device refuses it
  Misses : (file : Name) → Act  -- somebody else took the dump out, which ends the run

-- the event of its device that an act is; where somebody else took the dump out, the run has ended and nothing of the restore is seen
abbrev pub event_in : Act → Option Event
event_in (Takes datagram) = Some (event.Arrive datagram.0 datagram.1)
event_in (Turns e) = Some e
event_in (Does e) = Some e
event_in (Stops name file) = Some (event.Stop name true)
event_in (Restores file bytes image removed) = Some (event.Restore image)
event_in (Declines bytes image) = Some (event.Restore image)
event_in other = None

-- where an event leads, if there is one
abbrev pub after_if : Standing → Option Event → Standing
after_if s None = s
after_if s (Some e) = after_event s e

-- where an act leads
abbrev pub after_act : Standing → Act → Standing
after_act s a = after_if s (event_in a)

-- ---- the calls of an act

-- datagrams are sent, one after the other
abbrev pub sends : List Sent → List Call
sends [] = []
sends (x ∷ xs) = plan.Sent (x.to, x.bytes) ∷ sends xs

-- the datagrams of an event are sent
abbrev pub sends_of : Standing → Event → List Call
sends_of s e = sends (outcome_of s e).sent

-- the answer to an event is written
abbrev pub writes_of : Standing → Event → List Call
writes_of s e = plan.Wrote (printed (counting (after_event s e).sent (outcome_of s e).answer)) ∷ []

-- the dump of an image is put, where a stop gave one
abbrev pub puts : Name → Option ContextImage → List Call
puts file None = []
puts file (Some image) = plan.Put file (dump_bytes version image) ∷ []

-- the calls of an act, in their order; a stop and a restore send nothing
abbrev pub calls_of : Standing → Act → List Call
calls_of s (Starts own) = plan.Started own ∷ []
calls_of s Waits = plan.Took None ∷ []
calls_of s (Takes datagram) = plan.Took (Some datagram) ∷ sends_of s (event.Arrive datagram.0 datagram.1)
calls_of s (Turns e) = sends_of s e
calls_of s (Asks moment) = plan.Asked moment ∷ []
calls_of s (Counts taken) = plan.Wrote (served_text taken) ∷ []
calls_of s (Does e) = sends_of s e ++ writes_of s e
calls_of s (Stops name file) = puts file (outcome_of s (event.Stop name true)).image ++ writes_of s (event.Stop name true)
calls_of s (Looks file found) = plan.Looked file found ∷ []
calls_of s (Restores file bytes image removed) = plan.Removed file (Some removed) ∷ writes_of s (event.Restore image)
calls_of s (Declines bytes image) = writes_of s (event.Restore image)
calls_of s (Misses file) = plan.Removed file None ∷ []

-- ---- which acts there are

-- an event of a connected end's turn
abbrev pub IsOfEnd : Event → Type 0
IsOfEnd (event.Transmit o) = Unit {0}
IsOfEnd (event.Expire o) = Unit {0}
IsOfEnd (event.RnrOver o) = Unit {0}
IsOfEnd other = ⊥

-- an event that a line may ask for, with its fields in their ranges: nothing arrives by it, and no context moves
abbrev pub IsAsked : Event → Type 0
IsAsked (event.MakeContext name) = Unit {0}
IsAsked (event.Connect o peer partner terms) = Unit {0}
IsAsked (event.Release name) = Unit {0}
IsAsked other = IsEventInRange other

-- .. as a line says it: its terms and its shape are lawful too, and new things have names
pub record IsOfLine (e : Event) : Type 0 where
  pub asked : IsAsked e
  pub lawful : IsLawfulEvent e
  pub names : GivesNames e

-- the bytes are a dump of the image
abbrev pub IsDump : List ℕ → ContextImage → Type 0
IsDump bytes image = (place : ℕ) × (rest : List ℕ) × (read_dump bytes ≡ Good image place rest)

-- the device took the image, or refused it
abbrev pub is_taken : Standing → ContextImage → Bool
is_taken s image = is_done (outcome_of s (event.Restore image)).answer

-- a node may do this where it stands
abbrev pub MayDo : Standing → Act → Type 0
MayDo s (Turns e) = IsOfEnd e
MayDo s (Does e) = IsOfLine e
MayDo s (Restores file bytes image removed) = IsDump bytes image × (is_taken s image ≡ true)
MayDo s (Declines bytes image) = IsDump bytes image × (is_taken s image ≡ false)
MayDo s other = Unit {0}

-- ---- many acts

-- each of them is such where the node stands then
abbrev pub Along : (Standing → Act → Type 0) → Standing → List Act → Type 0
Along Is s [] = Unit {0}
Along Is s (a ∷ more) = Is s a × Along Is (after_act s a) more

-- they may be done, one after the other
abbrev pub MayDoAll : Standing → List Act → Type 0
MayDoAll s acts = Along MayDo s acts

-- where they lead
abbrev pub after_acts : Standing → List Act → Standing
after_acts s [] = s
after_acts s (a ∷ more) = after_acts (after_act s a) more

-- their calls
abbrev pub all_calls : Standing → List Act → List Call
all_calls s [] = []
all_calls s (a ∷ more) = calls_of s a ++ all_calls (after_act s a) more

-- all calls but the last ones were made: of the last act at least one, or all that it makes
abbrev pub IsCutAt : Standing → List Act → List Call → Type 0
IsCutAt s [] unmade = unmade ≡ []
IsCutAt s (a ∷ []) unmade = (unmade ≡ []) ⊎ (length unmade < length (calls_of s a))
IsCutAt s (a ∷ more) unmade = IsCutAt (after_act s a) more unmade

-- the calls are those of such acts, also where the last act has only begun
pub record HasDone (s : Standing) (calls : List Call) : Type 0 where
  pub acts : List Act
  pub may : MayDoAll s acts
  pub unmade : List Call
  pub made : calls ++ unmade ≡ all_calls s acts
  pub cut : IsCutAt s acts unmade
