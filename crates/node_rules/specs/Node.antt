-- One device over a link: its state in a run, and a step of it with the datagrams that it sends (this project's choice).
use Rattle.std.specs.Prelude.{ℕ, ◌+◌, ◌-◌, ◌^◌, List, [], ◌∷◌, ◌++◌, length, min, Option, Some, None}
use Rattle.protocol.specs.declared.events.Event.{Event}
use Rattle.protocol.specs.declared.images.Outcome.{Outcome}
use Rattle.protocol.specs.DeviceStep.{device_step}
use Rattle.protocol.specs.State.{Context, Device, End, Link, context_at, end_at, no_device}
use Rattle.rdma_types.specs.declared.answers.Sent.{Sent}
use Rattle.rdma_types.specs.declared.names.ObjName.{ObjName}
use Rattle.rdma_types.specs.declared.requests.Address.{Address}
use Rattle.node_rules.specs.Plan as plan
use Rattle.node_rules.specs.Plan.{Plan}

-- the state of a run
pub record Node : Type 0 where
  pub device : Device
  pub sent : ℕ  -- the datagrams that this run sent so far
  pub moments : List (ℕ × ℕ)  -- for each queue pair that was active in a turn, by its number: the clock's answer in the last such turn
  pub begun : Option ℕ  -- the clock's answer in the first turn of this `serve`
  pub taken : ℕ  -- the datagrams that were taken in this `serve`
  pub active : List ℕ  -- the numbers of the queue pairs that were active in this turn

-- at the beginning: a device with that id and address and nothing on it
abbrev pub new_node : ℕ → Address → Node
new_node id own = record { device = record no_device { id = id; address = own }; sent = 0; moments = []; begun = None; taken = 0; active = [] }

-- ---- steps

-- so many more, up to the last value that a u64 has
abbrev pub more_by : ℕ → ℕ → ℕ
more_by n count = min (n + count) (2 ^ 64 - 1)

-- datagrams are sent, one after the other
abbrev pub sending : List Sent → Plan → Plan
sending [] more = more
sending (s ∷ ss) more = plan.Sends (s.to, s.bytes) (sending ss more)

-- the node after an event
unfoldable pub node_after : Node → Event → Node
node_after n e = let s = device_step n.device e in record n { device = s.device; sent = more_by n.sent (length s.outcome.sent) }

-- what the event gives
unfoldable pub node_outcome : Node → Event → Outcome
node_outcome n e = (device_step n.device e).outcome

-- an event is stepped, and its datagrams are sent at once
abbrev pub stepping : Node → Event → (Node → Outcome → Plan) → Plan
stepping n e more = sending (node_outcome n e).sent (more (node_after n e) (node_outcome n e))

-- ---- connected ends

-- the name of a connected end before others; in Init an end is not connected
abbrev pub if_connected : ObjName → Option Link → List ObjName → List ObjName
if_connected o None more = more
if_connected o (Some l) more = o ∷ more

-- the connected ends of a context
unfoldable pub connected_of : Context → List End → List ObjName
connected_of c [] = []
connected_of c (e ∷ es) = if_connected (record { context = c.name; name = e.name }) e.link (connected_of c es)

-- the connected ends of contexts
unfoldable pub connected_in : List Context → List ObjName
connected_in [] = []
connected_in (c ∷ cs) = connected_of c c.ends ++ connected_in cs

-- the connected ends of a device, in order of making
abbrev pub connected : Device → List ObjName
connected d = connected_in d.contexts

-- the number of an end
abbrev pub number_at : Device → ObjName → ℕ
number_at d o = (end_at (context_at d o.context) o.name).number
