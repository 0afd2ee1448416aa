-- The end waits where the number is the oldest one, and else the answer is an acknowledgement.
use Rattle.std.proofs.Common.{◌≡◌, ◌≢◌, sym, ap, ◌∙◌}
use Rattle.rdma_types.specs.declared.requests.Terms.{Terms}
use Rattle.protocol.specs.Requester.{waited}
use Rattle.protocol.specs.State.{Sender}
use Rattle.requester.specs.Sending.{sender_of}
use Rattle.requester.specs.Taking.{Taking, acknowledging, wait_taking}
use Rattle.requester.proofs.Tables.{acked_row, not_ready_busy, not_ready_calm, rnr_acks, rnr_waits, unmoved, useless_row}
use Rattle.requester.proofs.Requester.take_rnr.Goals as goal

pub returns-then-self-clause-answer : goal.returns-then-self-clause-answer
returns-then-self-clause-answer c = ap (λ (t : Taking). t.taken) (sym (not_ready_busy c.args.self.now.terms (sender_of c.args.self.now) c.args.n (rw (← c.self.view_is) c.if-self.true)))

pub returns-then-self-clause-numbers : goal.returns-then-self-clause-numbers
returns-then-self-clause-numbers c = ap (λ (t : Taking). t.sender) (sym (not_ready_busy c.args.self.now.terms (sender_of c.args.self.now) c.args.n (rw (← c.self.view_is) c.if-self.true)))

pub returns-then-self-n-clause-answer : goal.returns-then-self-n-clause-answer
returns-then-self-n-clause-answer c =
    let calm = not_ready_calm c.args.self.now.terms (sender_of c.args.self.now) c.args.n (rw (← c.self.view_is) c.if-self.false) in
    let e : (acknowledging c.args.self.now.terms (sender_of c.args.self.now) c.args.n).una ≡ c.args.n = rw (← c.acknowledge-moved.ensures.numbers, ← c.self-2.view_is) c.if-self-n.true in
    let row = ap (λ (t : Terms). wait_taking t (waited (sender_of c.acknowledge-moved.new.self))) c.acknowledge-moved.ensures.kept.terms ∙ (ap (λ (q : Sender). wait_taking c.args.self.now.terms (waited q)) c.acknowledge-moved.ensures.numbers ∙ (sym (rnr_waits c.args.self.now.terms (sender_of c.args.self.now) (acknowledging c.args.self.now.terms (sender_of c.args.self.now) c.args.n) c.args.n e) ∙ sym calm)) in
    c.wait_again.ensures.answer ∙ ap (λ (t : Taking). t.taken) row

pub returns-then-self-n-clause-numbers : goal.returns-then-self-n-clause-numbers
returns-then-self-n-clause-numbers c =
    let calm = not_ready_calm c.args.self.now.terms (sender_of c.args.self.now) c.args.n (rw (← c.self.view_is) c.if-self.false) in
    let e : (acknowledging c.args.self.now.terms (sender_of c.args.self.now) c.args.n).una ≡ c.args.n = rw (← c.acknowledge-moved.ensures.numbers, ← c.self-2.view_is) c.if-self-n.true in
    let row = ap (λ (t : Terms). wait_taking t (waited (sender_of c.acknowledge-moved.new.self))) c.acknowledge-moved.ensures.kept.terms ∙ (ap (λ (q : Sender). wait_taking c.args.self.now.terms (waited q)) c.acknowledge-moved.ensures.numbers ∙ (sym (rnr_waits c.args.self.now.terms (sender_of c.args.self.now) (acknowledging c.args.self.now.terms (sender_of c.args.self.now) c.args.n) c.args.n e) ∙ sym calm)) in
    c.wait_again.ensures.numbers ∙ ap (λ (t : Taking). t.sender) row

pub returns-then-moved-clause-answer : goal.returns-then-moved-clause-answer
returns-then-moved-clause-answer c =
    let calm = not_ready_calm c.args.self.now.terms (sender_of c.args.self.now) c.args.n (rw (← c.self.view_is) c.if-self.false) in
    let e : (acknowledging c.args.self.now.terms (sender_of c.args.self.now) c.args.n).una ≢ c.args.n = rw (← c.acknowledge-moved.ensures.numbers, ← c.self-2.view_is) c.if-self-n.false in
    let row = calm ∙ (rnr_acks c.args.self.now.terms (sender_of c.args.self.now) (acknowledging c.args.self.now.terms (sender_of c.args.self.now) c.args.n) c.args.n e ∙ acked_row (sender_of c.args.self.now) (acknowledging c.args.self.now.terms (sender_of c.args.self.now) c.args.n) (sender_of c.acknowledge-moved.new.self) c.acknowledge-moved.result c.acknowledge-moved.ensures.numbers c.acknowledge-moved.ensures.moved c.if-moved.true) in
    ap (λ (t : Taking). t.taken) (sym row)

pub returns-then-moved-clause-numbers : goal.returns-then-moved-clause-numbers
returns-then-moved-clause-numbers c =
    let calm = not_ready_calm c.args.self.now.terms (sender_of c.args.self.now) c.args.n (rw (← c.self.view_is) c.if-self.false) in
    let e : (acknowledging c.args.self.now.terms (sender_of c.args.self.now) c.args.n).una ≢ c.args.n = rw (← c.acknowledge-moved.ensures.numbers, ← c.self-2.view_is) c.if-self-n.false in
    let row = calm ∙ (rnr_acks c.args.self.now.terms (sender_of c.args.self.now) (acknowledging c.args.self.now.terms (sender_of c.args.self.now) c.args.n) c.args.n e ∙ acked_row (sender_of c.args.self.now) (acknowledging c.args.self.now.terms (sender_of c.args.self.now) c.args.n) (sender_of c.acknowledge-moved.new.self) c.acknowledge-moved.result c.acknowledge-moved.ensures.numbers c.acknowledge-moved.ensures.moved c.if-moved.true) in
    c.acknowledge-moved.ensures.numbers ∙ ap (λ (t : Taking). t.sender) (sym row)

pub returns-else-moved-clause-answer : goal.returns-else-moved-clause-answer
returns-else-moved-clause-answer c =
    let calm = not_ready_calm c.args.self.now.terms (sender_of c.args.self.now) c.args.n (rw (← c.self.view_is) c.if-self.false) in
    let e : (acknowledging c.args.self.now.terms (sender_of c.args.self.now) c.args.n).una ≢ c.args.n = rw (← c.acknowledge-moved.ensures.numbers, ← c.self-2.view_is) c.if-self-n.false in
    let row = calm ∙ (rnr_acks c.args.self.now.terms (sender_of c.args.self.now) (acknowledging c.args.self.now.terms (sender_of c.args.self.now) c.args.n) c.args.n e ∙ useless_row (sender_of c.args.self.now) (acknowledging c.args.self.now.terms (sender_of c.args.self.now) c.args.n) (sender_of c.acknowledge-moved.new.self) c.acknowledge-moved.result c.acknowledge-moved.ensures.numbers c.acknowledge-moved.ensures.moved c.if-moved.false) in
    ap (λ (t : Taking). t.taken) (sym row)

pub returns-else-moved-clause-numbers : goal.returns-else-moved-clause-numbers
returns-else-moved-clause-numbers c =
    let calm = not_ready_calm c.args.self.now.terms (sender_of c.args.self.now) c.args.n (rw (← c.self.view_is) c.if-self.false) in
    let e : (acknowledging c.args.self.now.terms (sender_of c.args.self.now) c.args.n).una ≢ c.args.n = rw (← c.acknowledge-moved.ensures.numbers, ← c.self-2.view_is) c.if-self-n.false in
    let row = calm ∙ (rnr_acks c.args.self.now.terms (sender_of c.args.self.now) (acknowledging c.args.self.now.terms (sender_of c.args.self.now) c.args.n) c.args.n e ∙ useless_row (sender_of c.args.self.now) (acknowledging c.args.self.now.terms (sender_of c.args.self.now) c.args.n) (sender_of c.acknowledge-moved.new.self) c.acknowledge-moved.result c.acknowledge-moved.ensures.numbers c.acknowledge-moved.ensures.moved c.if-moved.false) in
    unmoved c.args.self.now.terms (sender_of c.args.self.now) (sender_of c.acknowledge-moved.new.self) c.args.n c.acknowledge-moved.result c.acknowledge-moved.ensures.numbers c.acknowledge-moved.ensures.moved c.if-moved.false ∙ ap (λ (t : Taking). t.sender) (sym row)
