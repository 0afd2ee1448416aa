-- Turns of serving: a datagram is taken, each connected end may send, and those that were not active for long expire (this
-- project's choice).
use Rattle.std.specs.Prelude.{ℕ, zero, suc, ◌-◌, Bool, true, false, List, [], ◌∷◌, ◌++◌, nat_eq, nat_le, Option, Some, None}
use Rattle.std.specs.Map.{lookup}
use Rattle.indexmap.specs.IndexMap.{insert_entry}
use Rattle.host_ports.specs.Links.{Addressed}
use Rattle.host_ports.specs.Memory.{counted}
use Rattle.protocol.specs.declared.events.Event.TheVariants as event
use Rattle.protocol.specs.declared.images.Outcome.{Outcome}
use Rattle.protocol.specs.DeviceStep.{Found, found_in}
use Rattle.protocol.specs.State.{Device}
use Rattle.protocol.specs.Wire.{Packet, packet_of}
use Rattle.rdma_types.specs.declared.answers.Answer.{Answer}
use Rattle.rdma_types.specs.declared.answers.Answer.TheVariants as answer
use Rattle.rdma_types.specs.declared.answers.ExpiryIgnored.TheVariants as not_why
use Rattle.rdma_types.specs.declared.answers.Sent.{Sent}
use Rattle.rdma_types.specs.declared.answers.ArrivalEffect.{ArrivalEffect}
use Rattle.rdma_types.specs.declared.answers.ArrivalEffect.TheVariants as took
use Rattle.rdma_types.specs.declared.names.ObjName.{ObjName}
use Rattle.node_rules.specs.Node.{Node, connected, number_at, stepping}
use Rattle.node_rules.specs.Plan as plan
use Rattle.node_rules.specs.Plan.{Plan}

-- ticks without activity after which an end expires
abbrev pub quiet_ticks : ℕ
quiet_ticks = 100

-- ---- what is active

-- it is not silent
abbrev pub is_heard : ArrivalEffect → Bool
is_heard (took.Silent why) = false
is_heard t = true

-- it sent a datagram, or took one and was not silent
abbrev pub is_active_by : List Sent → Answer → Bool
is_active_by (s ∷ ss) a = true
is_active_by [] (answer.Took t first count) = is_heard t
is_active_by [] other = false

-- the step was an active one
abbrev pub is_active : Outcome → Bool
is_active o = is_active_by o.sent o.answer

-- that number, if there is such an end
abbrev pub number_if : List Found → ℕ → List ℕ
number_if [] number = []
number_if (f ∷ fs) number = number ∷ []

-- the number of the connected end to which a packet goes, if there is one; a husk is no end
abbrev pub end_of_packet : Device → Option Packet → List ℕ
end_of_packet d None = []
end_of_packet d (Some p) = number_if (found_in p.dest d.contexts) p.dest

-- .. to which bytes go
abbrev pub receivers : Device → List ℕ → List ℕ
receivers d bytes = end_of_packet d (packet_of bytes)

-- the ends with these numbers were active in this turn, where the step was an active one
abbrev pub marking : Bool → List ℕ → Node → Node
marking true numbers v = record v { active = v.active ++ numbers }
marking false numbers v = v

-- ---- the three parts of a turn

-- one datagram more was taken, and stepped
abbrev pub arrived : Node → Addressed → Node → Outcome → Node
arrived v d n o = marking (is_active o) (receivers v.device d.1) (record n { taken = counted n.taken })

-- the datagram that the link gave arrives
abbrev pub arriving : Node → Option Addressed → (Node → Plan) → Plan
arriving v None more = more v
arriving v (Some d) more = stepping v (event.Arrive d.0 d.1) λ n o. more (arrived v d n o)

-- first part: the link is asked once for a datagram
abbrev pub taking : Node → (Node → Plan) → Plan
taking v more = plan.Takes λ got. arriving (record v { active = [] }) got more

-- one end may send once
abbrev pub transmitting_one : ObjName → Node → (Node → Plan) → Plan
transmitting_one o v more = stepping v (event.Transmit o) λ n x. more (marking (is_active x) (number_at v.device o ∷ []) n)

-- second part: each of these ends may send once
abbrev pub transmitting : List ObjName → Node → (Node → Plan) → Plan
transmitting [] v more = more v
transmitting (o ∷ os) v more = transmitting_one o v λ w. transmitting os w more

-- the clock's answer is the last active moment of these queue pairs
abbrev pub dated : ℕ → List ℕ → List (ℕ × ℕ) → List (ℕ × ℕ)
dated now [] moments = moments
dated now (n ∷ ns) moments = dated now ns (insert_entry nat_eq moments n now)

-- what stands there, or else that
abbrev pub moment_or : Option ℕ → ℕ → ℕ
moment_or None other = other
moment_or (Some moment) other = moment

-- the clock was asked: its first answer in this `serve` counts for ends that were never active
abbrev pub asked : Node → ℕ → Node
asked v now = record v { begun = Some (moment_or v.begun now); moments = dated now v.active v.moments }

-- the last active moment of an end
abbrev pub last_active : Node → ℕ → ObjName → ℕ
last_active v now o = moment_or (lookup (nat_eq (number_at v.device o)) v.moments) (moment_or v.begun now)

-- 100 ticks or more ago; a moment above the clock's answer is 0 ticks ago
abbrev pub is_due : Node → ℕ → ObjName → Bool
is_due v now o = nat_le quiet_ticks (now - last_active v now o)

-- the RNR timer is over, where the expiry was not counted for it
abbrev pub waiting_out : Answer → ObjName → Node → (Node → Plan) → Plan
waiting_out (answer.NotCounted not_why.Rnr) o v more = stepping v (event.RnrOver o) λ n x. more n
waiting_out other o v more = more v

-- one end expires
abbrev pub expiring_one : ObjName → Node → (Node → Plan) → Plan
expiring_one o v more = stepping v (event.Expire o) λ n x. waiting_out x.answer o n more

-- .. where it is due
abbrev pub expiring_if : Bool → ObjName → Node → (Node → Plan) → Plan
expiring_if true o v more = expiring_one o v more
expiring_if false o v more = more v

-- each of these ends that is due expires
abbrev pub expiring : ℕ → List ObjName → Node → (Node → Plan) → Plan
expiring now [] v more = more v
expiring now (o ∷ os) v more = expiring_if (is_due v now o) o v λ w. expiring now os w more

-- third part: the clock is asked once, and each connected end that is due expires
abbrev pub timing : Node → (Node → Plan) → Plan
timing v more = plan.Asks λ now. expiring now (connected v.device) (asked v now) more

-- ---- turns

-- one turn
abbrev pub turn : Node → (Node → Plan) → Plan
turn v more = taking v λ w. transmitting (connected w.device) w λ x. timing x more

-- that many turns
unfoldable pub turns : ℕ → Node → (Node → Plan) → Plan
turns zero v more = more v
turns (suc count) v more = turn v λ w. turns count w more

-- before the first turn: the clock was not asked, and nothing was taken
abbrev pub serving : Node → Node
serving n = record n { begun = None; taken = 0; active = [] }
