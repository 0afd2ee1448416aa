-- One more expiry is counted, and all is sent again.
use Rattle.std.proofs.Common.{refl, arith, ◌≢◌}
use Rattle.requester.specs.Sending.{bares, sender_with}
use Rattle.requester.proofs.Keeping.{held_rewound, held_spent}
use Rattle.requester.proofs.Requester.expire.Goals as goal

pub invariant_of-self : goal.invariant_of-self
invariant_of-self c =
    rw (c.rewound-self-inside.ensures, c.counted-self-inside.ensures) (held_spent c.self.inside.terms (record (sender_with (bares c.self.inside.queue.items) c.self.inside.numbers) { next = c.self.inside.numbers.una }) (record c.self.inside.caches { cursor = record { index = 0; offset = 0 }; cursor_past = 0; packets = 0; reads = 0 }) (held_rewound c.self.inside.terms (sender_with (bares c.self.inside.queue.items) c.self.inside.numbers) c.self.inside.caches c.self.invariant) c.if-self-3.false)
