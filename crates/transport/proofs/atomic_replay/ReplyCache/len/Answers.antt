use Rattle.std.proofs.Common.{length, sym, ap, ◌∙◌}
use Rattle.transport.proofs.Replies.{length-in_order}
use Rattle.transport.proofs.atomic_replay.ReplyCache.len.Goals as goal

pub returns-clause-len : goal.returns-clause-len
returns-clause-len c =
    let q = c.self.inside in
    sym (length-in_order q.oldest q.len q.ring c.self.invariant) ∙ ap length c.self.view_is
