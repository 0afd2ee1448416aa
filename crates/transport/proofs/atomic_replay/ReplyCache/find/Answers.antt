use Rattle.std.proofs.Common.{◌≡◌, refl, sym, ◌∙◌}
use Rattle.transport.proofs.Replies.{old_of, old_of-append, first_that-find, kept_where_found, found_where_kept}
use Rattle.transport.proofs.atomic_replay.ReplyCache.find.Goals as goal

-- the old value of the first reply with this number
found : (c : goal.After-or) → c.or.result ≡ old_of c.args.number c.args.self.now
found c =
    rw (c.or.ensures, c.old_of.ensures, c.old_of-2.ensures) (old_of-append c.args.number c.in_order.result.0.now c.in_order.result.1.now c.args.self.now c.in_order.ensures.whole)

pub returns-clause-kept : goal.returns-clause-kept
returns-clause-kept c = λ old. (
  λ e. kept_where_found c.args.number old c.args.self.now (sym (found c) ∙ e),
  λ k. found c ∙ found_where_kept c.args.number old k.0 c.args.self.now c.in_order.ensures.rises k.1 k.2,
)

pub returns-clause-rule : goal.returns-clause-rule
returns-clause-rule c = rw (found c, first_that-find) refl
