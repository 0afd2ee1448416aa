-- Nothing is in flight after a rewind.
use Rattle.std.proofs.Common.{refl}
use Rattle.protocol.specs.Requester.{rewound}
use Rattle.requester.specs.Sending.{bares, sender_with}
use Rattle.requester.proofs.Keeping.{held_rewound}
use Rattle.requester.proofs.Requester.rewind.Goals as goal

pub invariant_of-self : goal.invariant_of-self
invariant_of-self c = rw (c.rewound-self-inside.ensures, c.rewound-self-inside-2.ensures) (held_rewound c.self.inside.terms (sender_with (bares c.self.inside.queue.items) c.self.inside.numbers) c.self.inside.caches c.self.invariant)

pub returns-clause-numbers : goal.returns-clause-numbers
unfolding rewound
returns-clause-numbers c = rw (c.rewound-self-inside-2.ensures, ← c.self.view_is) refl
