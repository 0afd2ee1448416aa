-- Each event, and each answer, is in one of the groups.
use Rattle.std.proofs.Common.{◌≡◌, true, refl}
use Rattle.std.specs.Prelude.{◌||◌}
use Rattle.rdma_types.specs.declared.answers.Answer.{Answer}
use Rattle.rdma_types.specs.declared.answers.Answer.TheVariants as answer
use Rattle.protocol.specs.declared.events.Event.{Event}
use Rattle.protocol.specs.declared.events.Event.TheVariants as event
use Rattle.step_differences.specs.Kinds.{is_bare, is_long, is_making, is_moving, is_owning, is_posting, is_short, is_timing}

pub event_groups : (e : Event) → (is_posting e || (is_timing e || (is_moving e || (is_owning e || is_making e)))) ≡ true
event_groups (event.MakeContext name) = refl
event_groups (event.MakeDomain o) = refl
event_groups (event.MakeRegion o domain base length' rights) = refl
event_groups (event.MakeCq o capacity) = refl
event_groups (event.MakeQp o domain send_cq recv_cq send_depth recv_depth) = refl
event_groups (event.Connect o peer partner terms) = refl
event_groups (event.DropRegion o) = refl
event_groups (event.Store o at bytes) = refl
event_groups (event.Load o at length') = refl
event_groups (event.PostSend o r) = refl
event_groups (event.PostRecv o r) = refl
event_groups (event.Poll o most) = refl
event_groups (event.Transmit o) = refl
event_groups (event.Arrive from bytes) = refl
event_groups (event.Expire o) = refl
event_groups (event.RnrOver o) = refl
event_groups (event.Stop name alone) = refl
event_groups (event.Restore image) = refl
event_groups (event.Release name) = refl

pub answer_groups : (a : Answer) → (is_short a || (is_long a || is_bare a)) ≡ true
answer_groups answer.Done = refl
answer_groups answer.Stopped = refl
answer_groups (answer.Region keys) = refl
answer_groups (answer.Qp number) = refl
answer_groups (answer.Bytes bytes) = refl
answer_groups (answer.Polled cs) = refl
answer_groups (answer.Sent first) = refl
answer_groups answer.Idle = refl
answer_groups answer.WindowFull = refl
answer_groups answer.ReadsFull = refl
answer_groups answer.Fenced = refl
answer_groups answer.Waiting = refl
answer_groups (answer.Took t first count) = refl
answer_groups (answer.Expired n) = refl
answer_groups answer.Spent = refl
answer_groups (answer.NotCounted why) = refl
answer_groups answer.Over = refl
answer_groups answer.NotWaiting = refl
answer_groups (answer.Wire bytes) = refl
answer_groups answer.Gone = refl
answer_groups answer.Lost = refl
answer_groups answer.Aged = refl
answer_groups (answer.Dump length' shown) = refl
answer_groups (answer.Quiet left) = refl
answer_groups (answer.Refused r) = refl
