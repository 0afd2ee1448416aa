-- The number is unwrapped, and the opcode chooses the table.
use Rattle.std.proofs.Common.{◌≡◌, sym, ap, ◌∙◌}
use Rattle.std.specs.Prelude.{Some, None}
use Rattle.protocol.specs.Numbers.{unwrap_near}
use Rattle.roce_headers.specs.Packets.{packet}
use Rattle.requester.specs.Sending.{sender_of}
use Rattle.requester.specs.Taking.{Taking}
use Rattle.requester.proofs.Tables.{response_ack, response_landing, response_none}
use Rattle.requester.proofs.Requester.take_response.Goals as goal

pub returns-in_default-clause-answer : goal.returns-in_default-clause-answer
returns-in_default-clause-answer c =
    let near : unwrap_near c.args.self.now.terms.own_start c.args.d.now.psn c.args.self.now.numbers.una ≡ None = rw (← c.self.view_is) (sym c.unwrap_near.ensures.rule ∙ c.in_default.is) in
    ap (λ (t : Taking). t.taken) (sym (response_none c.args.self.now.terms (sender_of c.args.self.now) (packet c.args.d.now) near))

pub returns-in_default-clause-numbers : goal.returns-in_default-clause-numbers
returns-in_default-clause-numbers c =
    let near : unwrap_near c.args.self.now.terms.own_start c.args.d.now.psn c.args.self.now.numbers.una ≡ None = rw (← c.self.view_is) (sym c.unwrap_near.ensures.rule ∙ c.in_default.is) in
    ap (λ (t : Taking). t.sender) (sym (response_none c.args.self.now.terms (sender_of c.args.self.now) (packet c.args.d.now) near))

pub returns-then-is_landing-clause-answer : goal.returns-then-is_landing-clause-answer
returns-then-is_landing-clause-answer c =
    let near : unwrap_near c.args.self.now.terms.own_start c.args.d.now.psn c.args.self.now.numbers.una ≡ Some c.in-Some.n = rw (← c.self.view_is) (sym c.unwrap_near.ensures.rule ∙ c.in-Some.is) in
    c.take_landing.ensures.answer ∙ ap (λ (t : Taking). t.taken) (sym (response_landing c.args.self.now.terms (sender_of c.args.self.now) (packet c.args.d.now) c.in-Some.n near (sym c.is_landing.ensures ∙ c.if-is_landing.true)))

pub returns-then-is_landing-clause-numbers : goal.returns-then-is_landing-clause-numbers
returns-then-is_landing-clause-numbers c =
    let near : unwrap_near c.args.self.now.terms.own_start c.args.d.now.psn c.args.self.now.numbers.una ≡ Some c.in-Some.n = rw (← c.self.view_is) (sym c.unwrap_near.ensures.rule ∙ c.in-Some.is) in
    c.take_landing.ensures.numbers ∙ ap (λ (t : Taking). t.sender) (sym (response_landing c.args.self.now.terms (sender_of c.args.self.now) (packet c.args.d.now) c.in-Some.n near (sym c.is_landing.ensures ∙ c.if-is_landing.true)))

pub returns-else-is_landing-clause-answer : goal.returns-else-is_landing-clause-answer
returns-else-is_landing-clause-answer c =
    let near : unwrap_near c.args.self.now.terms.own_start c.args.d.now.psn c.args.self.now.numbers.una ≡ Some c.in-Some.n = rw (← c.self.view_is) (sym c.unwrap_near.ensures.rule ∙ c.in-Some.is) in
    c.take_acknowledge.ensures.answer ∙ ap (λ (t : Taking). t.taken) (sym (response_ack c.args.self.now.terms (sender_of c.args.self.now) (packet c.args.d.now) c.in-Some.n near (sym c.is_landing.ensures ∙ c.if-is_landing.false)))

pub returns-else-is_landing-clause-numbers : goal.returns-else-is_landing-clause-numbers
returns-else-is_landing-clause-numbers c =
    let near : unwrap_near c.args.self.now.terms.own_start c.args.d.now.psn c.args.self.now.numbers.una ≡ Some c.in-Some.n = rw (← c.self.view_is) (sym c.unwrap_near.ensures.rule ∙ c.in-Some.is) in
    c.take_acknowledge.ensures.numbers ∙ ap (λ (t : Taking). t.sender) (sym (response_ack c.args.self.now.terms (sender_of c.args.self.now) (packet c.args.d.now) c.in-Some.n near (sym c.is_landing.ensures ∙ c.if-is_landing.false)))
