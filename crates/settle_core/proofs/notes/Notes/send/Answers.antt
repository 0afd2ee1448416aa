use Rattle.std.proofs.Common.{◌≡◌, ◌∙◌, sym, ap, true, false, rules}
use Rattle.protocol.specs.Settle.{is_sent, settle_step, transmit}
use Rattle.settle_core.proofs.Visits.{not_sent}
use Rattle.settle_core.proofs.Cuts.{none_cuts, once_cut, sent_cut}
use Rattle.settle_core.proofs.Goings.{on_err}
use Rattle.settle_core.proofs.notes.Notes.send.Goals as goal

pub returns-in_err-answer-clause-ok : goal.returns-in_err-answer-clause-ok
returns-in_err-answer-clause-ok c = search rules

pub returns-then-not-is_sent-clause-ok : goal.returns-then-not-is_sent-clause-ok
returns-then-not-is_sent-clause-ok c s h =
    let none : is_sent c.in_ok-answer.answer ≡ false = sym c.is_sent.ensures ∙ search (rules, c.if-not-is_sent.true) in
    not_sent c.args.world.now c.transmit.new.world c.args.self.now c.args.self.now s c.args.end.now c.in_ok-answer.answer h c.transmit.ensures.ids (c.in_ok-answer.ensures.ok c.args.self.now s h) (c.in_ok-answer.ensures.answer c.args.self.now s h) none

pub returns-in_err-drain-clause-ok : goal.returns-in_err-drain-clause-ok
returns-in_err-drain-clause-ok c = search rules

pub returns-clause-ok : goal.returns-clause-ok
returns-clause-ok c s h =
    let yes : is_sent c.in_ok-answer.answer ≡ true = sym c.is_sent.ensures ∙ search (rules, c.if-not-is_sent.false) in
    (sym (ap is_sent (sym (c.in_ok-answer.ensures.answer c.args.self.now s h)) ∙ yes), c.in_ok-drain.ensures.ok (settle_step s (transmit c.args.end.now)) (c.in_ok-answer.ensures.ok c.args.self.now s h))

pub returns-in_err-answer-clause-cut : goal.returns-in_err-answer-clause-cut
returns-in_err-answer-clause-cut c =
    on_err c.from_residual.result
    (none_cuts c.args.world.now c.transmit.new.world c.args.self.now _ c.in_err-answer.ensures.err)

pub returns-in_err-drain-clause-cut : goal.returns-in_err-drain-clause-cut
returns-in_err-drain-clause-cut c =
    on_err c.from_residual-in_err-drain.result
    (λ s h.
    let yes : is_sent c.in_ok-answer.answer ≡ true = sym c.is_sent.ensures ∙ search (rules, c.if-not-is_sent.false) in
    once_cut s c.args.end.now c.drain.new.world (ap is_sent (sym (c.in_ok-answer.ensures.answer c.args.self.now s h)) ∙ yes)
    (sent_cut s c.args.end.now c.drain.new.world (c.in_err-drain.ensures.cut (settle_step s (transmit c.args.end.now)) (c.in_ok-answer.ensures.ok c.args.self.now s h))))
