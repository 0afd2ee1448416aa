-- The list is turned round: its last datagram is sent next. The rest is still to be sent.
use Rattle.std.proofs.Common.{◌≡◌, ◌+◌, length, reverse}
use Rattle.protocol.specs.Fabric.{forgetting, sending}
use Rattle.world_core.proofs.running.send_all.Given as goal

abbrev pub invariant-loop-datagram : goal.invariant-loop-datagram
invariant-loop-datagram l =
    (forgetting (sending l.fabric l.from (reverse l.list.items)) ≡ forgetting (sending l.initial.fabric l.from (reverse l.initial.list.items))) ×
    (forgetting l.fabric ≡ l.fabric) ×
    (length l.fabric + length l.list.items ≡ length l.initial.fabric + length l.initial.list.items) ×
    (l.draft ≡ l.initial.draft)

abbrev pub decreases-loop-datagram : goal.decreases-loop-datagram
decreases-loop-datagram l = goal.left-loop-datagram l
