-- The first datagram of the draft is sent next. The rest is still to be sent.
use Rattle.std.proofs.Common.{◌≡◌, ◌+◌, length}
use Rattle.protocol.specs.Fabric.{forgetting, sending}
use Rattle.world_core.proofs.running.send_draft.Given as goal

abbrev pub invariant-loop-datagram : goal.invariant-loop-datagram
invariant-loop-datagram l =
    (forgetting (sending l.fabric l.from l.draft) ≡ forgetting (sending l.initial.fabric l.from l.initial.draft)) ×
    (forgetting l.fabric ≡ l.fabric) ×
    (length l.fabric + length l.draft ≡ length l.initial.fabric + length l.initial.draft)

abbrev pub decreases-loop-datagram : goal.decreases-loop-datagram
decreases-loop-datagram l = length l.draft
