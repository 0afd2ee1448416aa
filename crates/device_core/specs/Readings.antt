-- A new device, and what its readers tell (this project's choice).
use Rattle.std.specs.Prelude.{ℕ, ◌≡◌, ◌⊎◌, ◌==◌, ◌&&◌, not, Bool, false, true, List, [], map, flat_map, Option, Some, None, option_map, if◌then◌else◌}
use Rattle.rdma_types.specs.declared.answers.EndState.{EndState}
use Rattle.rdma_types.specs.declared.answers.EndState.TheVariants as state
use Rattle.rdma_types.specs.declared.answers.EndView.{EndView}
use Rattle.context_core.specs.declared.lives.LinkView.{LinkView}
use Rattle.context_core.specs.declared.lives.LiveEnd.{LiveEnd}
use Rattle.context_core.specs.Links.{link_view, live_end}
use Rattle.rdma_types.specs.declared.names.ObjName.{ObjName}
use Rattle.rdma_types.specs.declared.requests.Address.{Address}
use Rattle.rdma_types.specs.Lists.{some}
use Rattle.protocol.specs.declared.events.Event.{Event}
use Rattle.protocol.specs.declared.events.Event.TheVariants as event
use Rattle.protocol.specs.DeviceStep.{found_in, husk_entries}
use Rattle.protocol.specs.EndWords.{is_in_error, is_resuming_link}
use Rattle.protocol.specs.Readers.{Marks, marks_of, view_of}
use Rattle.protocol.specs.Refusals.{has_context, has_end}
use Rattle.protocol.specs.State.{Device, context_at, end_at}
use Rattle.protocol.specs.Wire.{Packet, is_control, packet_of}

-- a device without contexts
abbrev pub new_device : ℕ → Address → Device
new_device id address = record { id = id; address = address; qp_count = 0; key_count = 0; contexts = []; husks = [] }

-- the end that a word names, where it lives
unfoldable pub end_named : Device → ObjName → Option EndView
end_named d o =
    if has_context d o.context && has_end (context_at d o.context) o.name
    then Some (view_of (context_at d o.context) (end_at (context_at d o.context) o.name))
    else None

-- a live end with that number is Resuming
abbrev pub has_resuming_end : Device → ℕ → Bool
has_resuming_end d n = some (λ c. some (λ e. e.number == n && is_resuming_link e.link) c.ends) d.contexts

-- .. is in Error
abbrev pub has_ended_end : Device → ℕ → Bool
has_ended_end d n = some (λ c. some (λ e. e.number == n && is_in_error e.link) c.ends) d.contexts

-- what is told of the live ends, in order of contexts and queue pairs
abbrev pub live_ends : Device → List LiveEnd
live_ends d = flat_map (λ c. map (live_end c) c.ends) d.contexts

-- .. of the connection of the end that a word names
abbrev pub link_named : Device → ObjName → Option LinkView
link_named d o = option_map link_view (end_at (context_at d o.context) o.name).link

-- the expected number and `top` as a pair
abbrev pub mark_pair : Marks → ℕ × ℕ
mark_pair m = (m.expected, m.top)

-- the expected number and `top` of the connected end with a number
abbrev pub marks_at : Device → ℕ → Option (ℕ × ℕ)
marks_at d n = option_map mark_pair (marks_of d n)

-- ---- from what a context tells of an end

-- the state of a connected end
abbrev pub link_state : LinkView → EndState
link_state l = if l.ended then state.Error else if l.paused then state.Paused else if l.resuming then state.Resuming else state.Running

-- the view of an end, by its connection
abbrev pub view_by : LiveEnd → Option LinkView → EndView
view_by e None = record { name = e.name; number = e.number; peer = 0; state = state.Init; una = 0; next = 0; untold = 0; rnr = 0; rnr_wait = false }
view_by e (Some l) = record { name = e.name; number = e.number; peer = l.peer; state = link_state l; una = l.una; next = l.next; untold = l.untold; rnr = l.rnr; rnr_wait = l.rnr_wait }

-- .. of any
abbrev pub live_view : LiveEnd → EndView
live_view e = view_by e e.link

-- .. of a connected one
abbrev pub connected_view : Option LiveEnd → Option EndView
connected_view None = None
connected_view (Some e) = option_map (λ l. view_by e (Some l)) e.link

-- an end is in Rts and Resuming
abbrev pub link_resumes : Option LinkView → Bool
link_resumes None = false
link_resumes (Some l) = not l.ended && l.resuming

-- .. where it is there
abbrev pub live_resumes : Option LiveEnd → Bool
live_resumes None = false
live_resumes (Some e) = link_resumes e.link

-- an end is in Error
abbrev pub link_ended : Option LinkView → Bool
link_ended None = false
link_ended (Some l) = l.ended

-- .. where it is there
abbrev pub live_ended : Option LiveEnd → Bool
live_ended None = false
live_ended (Some e) = link_ended e.link

-- no end takes a packet and no husk answers it: the number is not here, or a message of moving reaches a husk
abbrev pub IsForNobody : Device → Packet → Type 0
IsForNobody d p = (found_in p.dest d.contexts ≡ []) × ((husk_entries p.dest d.husks ≡ []) ⊎ (is_control p ≡ true))

-- bytes that do nothing, since they are no datagram or one for nobody
abbrev pub DoNothing : Device → Option Packet → Type 0
DoNothing d None = Unit {0}
DoNothing d (Some p) = IsForNobody d p

-- an event of a context that takes no memory
abbrev pub TakesNoMemory : Event → Type 0
TakesNoMemory (event.Connect o peer partner terms) = Unit {0}
TakesNoMemory (event.DropRegion o) = Unit {0}
TakesNoMemory (event.Store o at bytes) = Unit {0}
TakesNoMemory (event.PostRecv o receive) = Unit {0}
TakesNoMemory (event.Expire o) = Unit {0}
TakesNoMemory (event.RnrOver o) = Unit {0}
TakesNoMemory (event.Release name) = Unit {0}
TakesNoMemory e = ⊥

-- an event of a device that takes no memory
abbrev pub TakesNoMemoryAt : Device → Event → Type 0
TakesNoMemoryAt d (event.Arrive from bytes) = DoNothing d (packet_of bytes)
TakesNoMemoryAt d e = TakesNoMemory e
