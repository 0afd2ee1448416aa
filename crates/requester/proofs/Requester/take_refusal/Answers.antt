-- The number is the oldest one, or all is sent again.
use Rattle.std.proofs.Common.{◌≡◌, ◌≢◌, sym, ap, ◌∙◌}
use Rattle.protocol.specs.Requester.{rewound}
use Rattle.requester.specs.Sending.{sender_of}
use Rattle.requester.specs.Taking.{Taking, acknowledging}
use Rattle.requester.proofs.Tables.{refusing_ends, refusing_rewinds}
use Rattle.requester.proofs.Requester.take_refusal.Goals as goal

pub returns-then-self-n-clause-answer : goal.returns-then-self-n-clause-answer
returns-then-self-n-clause-answer c =
    let e : (acknowledging c.args.self.now.terms (sender_of c.args.self.now) c.args.n).una ≡ c.args.n = rw (← c.acknowledge.ensures.numbers, ← c.self.view_is) c.if-self-n.true in
    ap (λ (t : Taking). t.taken) (sym (refusing_ends (acknowledging c.args.self.now.terms (sender_of c.args.self.now) c.args.n) c.args.n c.args.status e))

pub returns-then-self-n-clause-numbers : goal.returns-then-self-n-clause-numbers
returns-then-self-n-clause-numbers c =
    let e : (acknowledging c.args.self.now.terms (sender_of c.args.self.now) c.args.n).una ≡ c.args.n = rw (← c.acknowledge.ensures.numbers, ← c.self.view_is) c.if-self-n.true in
    c.acknowledge.ensures.numbers ∙ ap (λ (t : Taking). t.sender) (sym (refusing_ends (acknowledging c.args.self.now.terms (sender_of c.args.self.now) c.args.n) c.args.n c.args.status e))

pub returns-clause-answer : goal.returns-clause-answer
returns-clause-answer c =
    let e : (acknowledging c.args.self.now.terms (sender_of c.args.self.now) c.args.n).una ≢ c.args.n = rw (← c.acknowledge.ensures.numbers, ← c.self.view_is) c.if-self-n.false in
    ap (λ (t : Taking). t.taken) (sym (refusing_rewinds (acknowledging c.args.self.now.terms (sender_of c.args.self.now) c.args.n) c.args.n c.args.status e))

pub returns-clause-numbers : goal.returns-clause-numbers
returns-clause-numbers c =
    let e : (acknowledging c.args.self.now.terms (sender_of c.args.self.now) c.args.n).una ≢ c.args.n = rw (← c.acknowledge.ensures.numbers, ← c.self.view_is) c.if-self-n.false in
    c.rewind.ensures.numbers ∙ (ap rewound c.acknowledge.ensures.numbers ∙ ap (λ (t : Taking). t.sender) (sym (refusing_rewinds (acknowledging c.args.self.now.terms (sender_of c.args.self.now) c.args.n) c.args.n c.args.status e)))
