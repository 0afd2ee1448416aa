-- The oldest number rose, or nothing changed.
use Rattle.std.proofs.Common.{◌≡◌, sym, ap, ◌∙◌}
use Rattle.requester.specs.Sending.{sender_of}
use Rattle.requester.specs.Taking.{Taking, acknowledging}
use Rattle.requester.proofs.Tables.{acked_row, unmoved, useless_row}
use Rattle.requester.proofs.Requester.take_ack.Goals as goal

pub returns-then-acknowledge-clause-answer : goal.returns-then-acknowledge-clause-answer
returns-then-acknowledge-clause-answer c = ap (λ (t : Taking). t.taken) (sym (acked_row (sender_of c.args.self.now) (acknowledging c.args.self.now.terms (sender_of c.args.self.now) c.args.n) (sender_of c.acknowledge.new.self) c.acknowledge.result c.acknowledge.ensures.numbers c.acknowledge.ensures.moved c.if-acknowledge.true))

pub returns-then-acknowledge-clause-numbers : goal.returns-then-acknowledge-clause-numbers
returns-then-acknowledge-clause-numbers c = c.acknowledge.ensures.numbers ∙ ap (λ (t : Taking). t.sender) (sym (acked_row (sender_of c.args.self.now) (acknowledging c.args.self.now.terms (sender_of c.args.self.now) c.args.n) (sender_of c.acknowledge.new.self) c.acknowledge.result c.acknowledge.ensures.numbers c.acknowledge.ensures.moved c.if-acknowledge.true))

pub returns-else-acknowledge-clause-answer : goal.returns-else-acknowledge-clause-answer
returns-else-acknowledge-clause-answer c = ap (λ (t : Taking). t.taken) (sym (useless_row (sender_of c.args.self.now) (acknowledging c.args.self.now.terms (sender_of c.args.self.now) c.args.n) (sender_of c.acknowledge.new.self) c.acknowledge.result c.acknowledge.ensures.numbers c.acknowledge.ensures.moved c.if-acknowledge.false))

pub returns-else-acknowledge-clause-numbers : goal.returns-else-acknowledge-clause-numbers
returns-else-acknowledge-clause-numbers c = unmoved c.args.self.now.terms (sender_of c.args.self.now) (sender_of c.acknowledge.new.self) c.args.n c.acknowledge.result c.acknowledge.ensures.numbers c.acknowledge.ensures.moved c.if-acknowledge.false ∙ ap (λ (t : Taking). t.sender) (sym (useless_row (sender_of c.args.self.now) (acknowledging c.args.self.now.terms (sender_of c.args.self.now) c.args.n) (sender_of c.acknowledge.new.self) c.acknowledge.result c.acknowledge.ensures.numbers c.acknowledge.ensures.moved c.if-acknowledge.false))
