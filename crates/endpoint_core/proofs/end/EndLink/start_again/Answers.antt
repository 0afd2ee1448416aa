use Rattle.std.proofs.Common.{◌∙◌, ap}
use Rattle.protocol.specs.Requester.{rewound, waited_out}
use Rattle.requester.specs.Sending.{sender_of}
use Rattle.endpoint_core.proofs.Rows.{sender-in}
use Rattle.endpoint_core.proofs.end.EndLink.start_again.Goals as goal

pub returns-clause-next : goal.returns-clause-next
unfolding rewound
returns-clause-next c = λ pool.
    sender-in pool c.args.self.now.requester c.rnr_over.new.self (waited_out (rewound (sender_of c.args.self.now.requester)))
    (c.rnr_over.ensures.numbers ∙ ap waited_out c.rewind.ensures.numbers) (c.rnr_over.ensures.kept.items ∙ c.rewind.ensures.kept.items)
