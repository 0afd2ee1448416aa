-- Each code has its row.
use Rattle.std.proofs.Common.{◌≡◌, ◌≢◌, arith, refl, ap, ◌∙◌}
use Rattle.protocol.specs.Requester.{rewound}
use Rattle.requester.specs.Sending.{sender_of}
use Rattle.requester.specs.Taking.{acknowledging}
use Rattle.requester.proofs.Tables.{nak_one, nak_other, nak_two, nak_zero}
use Rattle.requester.proofs.Requester.take_nak.Goals as goal

pub returns-in-0-clause-answer : goal.returns-in-0-clause-answer
returns-in-0-clause-answer c = rw (c.in-0.is, nak_zero c.args.self.now.terms (sender_of c.args.self.now) c.args.n) refl

pub returns-in-0-clause-numbers : goal.returns-in-0-clause-numbers
returns-in-0-clause-numbers c = rw (c.in-0.is, nak_zero c.args.self.now.terms (sender_of c.args.self.now) c.args.n) (c.rewind.ensures.numbers ∙ ap rewound c.acknowledge.ensures.numbers)

pub returns-in-1-clause-answer : goal.returns-in-1-clause-answer
returns-in-1-clause-answer c = rw (c.in-1.is, nak_one c.args.self.now.terms (sender_of c.args.self.now) c.args.n) c.take_refusal.ensures.answer

pub returns-in-1-clause-numbers : goal.returns-in-1-clause-numbers
returns-in-1-clause-numbers c = rw (c.in-1.is, nak_one c.args.self.now.terms (sender_of c.args.self.now) c.args.n) c.take_refusal.ensures.numbers

pub returns-in-2-clause-answer : goal.returns-in-2-clause-answer
returns-in-2-clause-answer c = rw (c.in-2.is, nak_two c.args.self.now.terms (sender_of c.args.self.now) c.args.n) c.take_refusal-in-2.ensures.answer

pub returns-in-2-clause-numbers : goal.returns-in-2-clause-numbers
returns-in-2-clause-numbers c = rw (c.in-2.is, nak_two c.args.self.now.terms (sender_of c.args.self.now) c.args.n) c.take_refusal-in-2.ensures.numbers

pub returns-in_default-clause-answer : goal.returns-in_default-clause-answer
returns-in_default-clause-answer c = rw (nak_other c.args.self.now.terms (sender_of c.args.self.now) c.args.n c.args.code (omega arith) (omega arith) (omega arith)) refl

pub returns-in_default-clause-numbers : goal.returns-in_default-clause-numbers
returns-in_default-clause-numbers c = rw (nak_other c.args.self.now.terms (sender_of c.args.self.now) c.args.n c.args.code (omega arith) (omega arith) (omega arith)) refl
