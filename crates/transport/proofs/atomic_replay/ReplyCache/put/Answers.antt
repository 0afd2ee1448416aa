use Rattle.std.proofs.Common.{◌≡◌, ℕ, ◌<◌, List, All, sym, ap, subst, ◌∙◌}
use Rattle.protocol.specs.declared.images.KeptReply.{KeptReply}
use Rattle.protocol.specs.Responder.{keeping}
use Rattle.transport.proofs.Replies.{in_order-put, in_order-over, is_ring-put, is_ring-over}
use Rattle.transport.proofs.atomic_replay.ReplyCache.put.Goals as goal

-- what holds of each reply of a list holds of each reply of the ring
below : {xs ys : List KeptReply} {n : ℕ} → xs ≡ ys → All (λ k. k.number < n) ys → All (λ k. k.number < n) xs
below {n = n} e h = subst (λ (ks : List KeptReply). All (λ k. k.number < n) ks) (sym e) h

pub invariant_of-self : goal.invariant_of-self
invariant_of-self c =
    let q = c.self.inside in
    is_ring-put q.oldest q.len q.ring _ c.self.invariant c.if-self-lt-ROOM.true (below c.self.view_is c.requires.rises)

pub invariant_of-self-else-self-lt-ROOM : goal.invariant_of-self-else-self-lt-ROOM
invariant_of-self-else-self-lt-ROOM c =
    let q = c.self.inside in
    is_ring-over q.oldest q.len q.ring _ c.self.invariant c.if-self-lt-ROOM.false (below c.self.view_is c.requires.rises)

pub returns-then-self-lt-ROOM : goal.returns-then-self-lt-ROOM
returns-then-self-lt-ROOM c =
    let q = c.self.inside in
    in_order-put q.oldest q.len q.ring _ c.self.invariant c.if-self-lt-ROOM.true ∙ ap (λ (ks : List KeptReply). keeping ks (record { number = c.args.number; old = c.args.old })) c.self.view_is

pub returns-else-self-lt-ROOM : goal.returns-else-self-lt-ROOM
returns-else-self-lt-ROOM c =
    let q = c.self.inside in
    in_order-over q.oldest q.len q.ring _ c.self.invariant c.if-self-lt-ROOM.false ∙ ap (λ (ks : List KeptReply). keeping ks (record { number = c.args.number; old = c.args.old })) c.self.view_is
