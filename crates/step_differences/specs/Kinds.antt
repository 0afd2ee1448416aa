-- Numbers for the kinds of events and answers, and groups of kinds (this project's choice).
use Rattle.std.specs.Prelude.{ℕ, Bool, true, false}
use Rattle.rdma_types.specs.declared.answers.Answer.{Answer}
use Rattle.rdma_types.specs.declared.answers.Answer.TheVariants as answer
use Rattle.protocol.specs.declared.events.Event.{Event}
use Rattle.protocol.specs.declared.events.Event.TheVariants as event

-- the number of an event's kind
abbrev pub kind_of_event : Event → ℕ
kind_of_event (event.MakeContext name) = 0
kind_of_event (event.MakeDomain o) = 1
kind_of_event (event.MakeRegion o domain base length' rights) = 2
kind_of_event (event.MakeCq o capacity) = 3
kind_of_event (event.MakeQp o domain send_cq recv_cq send_depth recv_depth) = 4
kind_of_event (event.Connect o peer partner terms) = 5
kind_of_event (event.DropRegion o) = 6
kind_of_event (event.Store o at bytes) = 7
kind_of_event (event.Load o at length') = 8
kind_of_event (event.PostSend o r) = 9
kind_of_event (event.PostRecv o r) = 10
kind_of_event (event.Poll o most) = 11
kind_of_event (event.Transmit o) = 12
kind_of_event (event.Arrive from bytes) = 13
kind_of_event (event.Expire o) = 14
kind_of_event (event.RnrOver o) = 15
kind_of_event (event.Stop name alone) = 16
kind_of_event (event.Restore image) = 17
kind_of_event (event.Release name) = 18

-- the number of an answer's kind
abbrev pub kind_of_answer : Answer → ℕ
kind_of_answer answer.Done = 0
kind_of_answer answer.Stopped = 1
kind_of_answer (answer.Region keys) = 2
kind_of_answer (answer.Qp number) = 3
kind_of_answer (answer.Bytes bytes) = 4
kind_of_answer (answer.Polled cs) = 5
kind_of_answer (answer.Sent first) = 6
kind_of_answer answer.Idle = 7
kind_of_answer answer.WindowFull = 8
kind_of_answer answer.ReadsFull = 9
kind_of_answer answer.Fenced = 10
kind_of_answer answer.Waiting = 11
kind_of_answer (answer.Took t first count) = 12
kind_of_answer (answer.Expired n) = 13
kind_of_answer answer.Spent = 14
kind_of_answer (answer.NotCounted why) = 15
kind_of_answer answer.Over = 16
kind_of_answer answer.NotWaiting = 17
kind_of_answer (answer.Wire bytes) = 18
kind_of_answer answer.Gone = 19
kind_of_answer answer.Lost = 20
kind_of_answer answer.Aged = 21
kind_of_answer (answer.Dump length' shown) = 22
kind_of_answer (answer.Quiet left) = 23
kind_of_answer (answer.Refused r) = 24

-- ---- groups of events

-- something is made
abbrev pub is_making : Event → Bool
is_making (event.MakeContext name) = true
is_making (event.MakeDomain o) = true
is_making (event.MakeRegion o domain base length' rights) = true
is_making (event.MakeCq o capacity) = true
is_making (event.MakeQp o domain send_cq recv_cq send_depth recv_depth) = true
is_making other = false

-- an owner of memory and of queues asks
abbrev pub is_owning : Event → Bool
is_owning (event.Connect o peer partner terms) = true
is_owning (event.DropRegion o) = true
is_owning (event.Store o at bytes) = true
is_owning (event.Load o at length') = true
is_owning (event.Poll o most) = true
is_owning other = false

-- work is posted
abbrev pub is_posting : Event → Bool
is_posting (event.PostSend o r) = true
is_posting (event.PostRecv o r) = true
is_posting other = false

-- an end sends, or a timer is over
abbrev pub is_timing : Event → Bool
is_timing (event.Transmit o) = true
is_timing (event.Expire o) = true
is_timing (event.RnrOver o) = true
is_timing other = false

-- a datagram arrives, or a context moves
abbrev pub is_moving : Event → Bool
is_moving (event.Arrive from bytes) = true
is_moving (event.Stop name alone) = true
is_moving (event.Restore image) = true
is_moving (event.Release name) = true
is_moving other = false

-- ---- groups of answers

-- an answer that owns bytes or a list
abbrev pub is_long : Answer → Bool
is_long (answer.Bytes bytes) = true
is_long (answer.Polled cs) = true
is_long (answer.Wire bytes) = true
is_long (answer.Dump length' shown) = true
is_long (answer.Quiet left) = true
is_long other = false

-- an answer of numbers
abbrev pub is_short : Answer → Bool
is_short (answer.Region keys) = true
is_short (answer.Qp number) = true
is_short (answer.Sent first) = true
is_short (answer.Took t first count) = true
is_short (answer.Expired n) = true
is_short (answer.NotCounted why) = true
is_short (answer.Refused r) = true
is_short other = false

-- an answer of one word
abbrev pub is_bare : Answer → Bool
is_bare answer.Done = true
is_bare answer.Stopped = true
is_bare answer.Idle = true
is_bare answer.WindowFull = true
is_bare answer.ReadsFull = true
is_bare answer.Fenced = true
is_bare answer.Waiting = true
is_bare answer.Spent = true
is_bare answer.Over = true
is_bare answer.NotWaiting = true
is_bare answer.Gone = true
is_bare answer.Lost = true
is_bare answer.Aged = true
is_bare other = false
