-- What lines of events do, and what they answer (this project's choice).
use Rattle.std.specs.Prelude.{ℕ, ◌≡◌, ◌⊎◌, Bool, true, false, List, [], ◌∷◌, length, map, Option, Some, None, filter, nat_le, not, bytes_eq}
use Rattle.device_core.specs.Readings.{end_named}
use Rattle.node_rules.specs.Lines.{counting}
use Rattle.protocol.specs.declared.events.Event.{Event}
use Rattle.protocol.specs.declared.events.Event.TheVariants as event
use Rattle.rdma_types.specs.declared.answers.Answer.{Answer}
use Rattle.rdma_types.specs.declared.answers.Answer.TheVariants as answer
use Rattle.rdma_types.specs.declared.names.Name.{Name}
use Rattle.rdma_types.specs.declared.names.ObjName.{ObjName}
use Rattle.serve_rules.specs.declared.lines.Goal.{Goal}
use Rattle.serve_rules.specs.declared.replies.Reply.{Reply}
use Rattle.serve_rules.specs.declared.replies.Reply.TheVariants as reply
use Rattle.serve_rules.specs.declared.waiting.Pending.{Pending}
use Rattle.serve_rules.specs.declared.waiting.Pending.TheVariants as pending
use Rattle.serve_rules.specs.Timers.{later}
use Rattle.serve_rules.specs.Waiting.{until_of, when_over}
use Rattle.serve_rules.specs.Server.{Server, after, outcome_of, stepped, woken_view}

-- the queue pair that an event of a line may give something to send
abbrev pub end_of : Event → Option ObjName
end_of (event.Connect o peer partner terms) = Some o
end_of (event.PostSend o request) = Some o
end_of (event.Transmit o) = Some o
end_of (event.Expire o) = Some o
end_of (event.RnrOver o) = Some o
end_of other = None

-- it may have something to send, where there is one
abbrev pub woken_end : Server → Option ObjName → Server
woken_end s None = s
woken_end s (Some o) = woken_view s (end_named s.device o)

-- an event of a line: its datagrams wait to leave, and its queue pair may have something to send
unfoldable pub line_stepped : Server → Event → Server
line_stepped s e = woken_end (stepped s e) (end_of e)

-- what is answered to it: the count of datagrams so far stands in the place of the number that a device does not know
unfoldable pub line_reply : Server → Event → Reply
line_reply s e = reply.Device (counting (line_stepped s e).tallies.made (outcome_of s e).answer)

-- an event of a line was answered, or memory ran out and all is as before
abbrev pub IsLineOf : Event → Server → Reply → Server → Type 0
IsLineOf e s reply.Memory s' = s' ≡ s
IsLineOf e s r s' = (s' ≡ line_stepped s e) × (r ≡ line_reply s e)

-- ---- a husk that is released

-- the numbers of other contexts
abbrev pub others : Name → List (Name × ℕ) → List (Name × ℕ)
others name gone = filter (λ g. not (bytes_eq g.0 name)) gone

-- the ends of a context are forgotten, where its husk was released
abbrev pub forgotten : Answer → Name → Server → Server
forgotten answer.Done name s = record s { gone = others name s.gone }
forgotten other name s = s

-- a husk is released
unfoldable pub released : Server → Name → Server
released s name = forgotten (outcome_of s (event.Release name)).answer name (after s (event.Release name))

-- ---- lines that wait

-- the line waits for a time
abbrev pub waiting : Server → ℕ → Server
waiting s time = record s { pending = pending.Wait (later s.clock time) }

-- .. for an end
abbrev pub waiting_for : Server → ObjName → Goal → ℕ → Server
waiting_for s o g limit = record s { pending = pending.Until o g (later s.clock limit) }

-- the answer to an `until`, and nothing as long as there is none
abbrev pub until_reply_of : Server → ObjName → Goal → ℕ → Reply
until_reply_of s o g until = until_of g (end_named s.device o) (nat_le until s.clock)

-- the answer to the line that waits, and nothing as long as there is none
abbrev pub pending_by : Pending → Server → Reply
pending_by pending.Line s = reply.Nothing
pending_by (pending.Wait until) s = when_over (nat_le until s.clock) reply.Waited
pending_by (pending.Until o g until) s = until_reply_of s o g until

abbrev pub pending_reply : Server → Reply
pending_reply s = pending_by s.pending s
