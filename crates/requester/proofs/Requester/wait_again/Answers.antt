-- One more wait is counted, and is the last or not.
use Rattle.std.proofs.Common.{◌≡◌, ◌+◌, min, true, arith, sym, ap, ◌∙◌}
use Rattle.protocol.specs.Requester.{waited}
use Rattle.requester.specs.Sending.{bares, sender_of, sender_with}
use Rattle.requester.specs.Taking.{Taking}
use Rattle.requester.proofs.Keeping.{held_rewound, held_waited}
use Rattle.requester.proofs.Tables.{wait_ends, wait_waits}
use Rattle.requester.proofs.Requester.wait_again.Goals as goal

pub invariant_of-self : goal.invariant_of-self
invariant_of-self c = rw (c.rewound-self-inside.ensures, c.waited-self-inside.ensures) (held_waited c.self.inside.terms (record (sender_with (bares c.self.inside.queue.items) c.self.inside.numbers) { next = c.self.inside.numbers.una }) (record c.self.inside.caches { cursor = record { index = 0; offset = 0 }; cursor_past = 0; packets = 0; reads = 0 }) c.saturating_add-waits.result c.self.inside.numbers.rnr_wait (held_rewound c.self.inside.terms (sender_with (bares c.self.inside.queue.items) c.self.inside.numbers) c.self.inside.caches c.self.invariant))

pub returns-then-is_past_last_wait-clause-answer : goal.returns-then-is_past_last_wait-clause-answer
returns-then-is_past_last_wait-clause-answer c =
    let least : c.saturating_add-waits.result ≡ min 255 (c.self.inside.numbers.waits + 1) = omega (arith, c.saturating_add-waits.ensures) in
    let test = rw least at (sym c.is_past_last_wait.ensures ∙ c.if-is_past_last_wait.true) in
    let row = wait_ends c.self.inside.terms (waited (sender_with (bares c.self.inside.queue.items) c.self.inside.numbers)) test in
    rw (← c.self.view_is) (ap (λ (t : Taking). t.taken) (sym row))

pub returns-then-is_past_last_wait-clause-numbers : goal.returns-then-is_past_last_wait-clause-numbers
returns-then-is_past_last_wait-clause-numbers c =
    let least : c.saturating_add-waits.result ≡ min 255 (c.self.inside.numbers.waits + 1) = omega (arith, c.saturating_add-waits.ensures) in
    let test = rw least at (sym c.is_past_last_wait.ensures ∙ c.if-is_past_last_wait.true) in
    let row = wait_ends c.self.inside.terms (waited (sender_with (bares c.self.inside.queue.items) c.self.inside.numbers)) test in
    rw (c.waited-self-inside.ensures, least, ← c.self.view_is) (ap (λ (t : Taking). t.sender) (sym row))

pub invariant_of-self-2 : goal.invariant_of-self-2
invariant_of-self-2 c = rw (c.rewound-self-inside.ensures, c.waited-self-inside-2.ensures) (held_waited c.self.inside.terms (record (sender_with (bares c.self.inside.queue.items) c.self.inside.numbers) { next = c.self.inside.numbers.una }) (record c.self.inside.caches { cursor = record { index = 0; offset = 0 }; cursor_past = 0; packets = 0; reads = 0 }) c.saturating_add-waits.result true (held_rewound c.self.inside.terms (sender_with (bares c.self.inside.queue.items) c.self.inside.numbers) c.self.inside.caches c.self.invariant))

pub returns-clause-answer : goal.returns-clause-answer
returns-clause-answer c =
    let least : c.saturating_add-waits.result ≡ min 255 (c.self.inside.numbers.waits + 1) = omega (arith, c.saturating_add-waits.ensures) in
    let test = rw least at (sym c.is_past_last_wait.ensures ∙ c.if-is_past_last_wait.false) in
    let row = wait_waits c.self.inside.terms (waited (sender_with (bares c.self.inside.queue.items) c.self.inside.numbers)) test in
    rw (← c.self.view_is) (ap (λ (t : Taking). t.taken) (sym row))

pub returns-clause-numbers : goal.returns-clause-numbers
returns-clause-numbers c =
    let least : c.saturating_add-waits.result ≡ min 255 (c.self.inside.numbers.waits + 1) = omega (arith, c.saturating_add-waits.ensures) in
    let test = rw least at (sym c.is_past_last_wait.ensures ∙ c.if-is_past_last_wait.false) in
    let row = wait_waits c.self.inside.terms (waited (sender_with (bares c.self.inside.queue.items) c.self.inside.numbers)) test in
    rw (c.waited-self-inside-2.ensures, least, ← c.self.view_is) (ap (λ (t : Taking). t.sender) (sym row))
