use Rattle.std.proofs.Common.{◌≡◌, ◌∙◌, List, ap, subst, sym}
use Rattle.std.specs.Prelude.{IfSome}
use Rattle.rdma_types.specs.declared.answers.Sent.{Sent}
use Rattle.protocol.specs.EndStep.{takes}
use Rattle.roce_headers.specs.Packets.{packet}
use Rattle.context_core.specs.Arriving.{may_answer}
use Rattle.context_core.specs.Context.{context_in}
use Rattle.context_core.proofs.UnansweredDatagrams.{for-answer}
use Rattle.context_core.proofs.state.ContextState.take.Goals as goal

pub returns-clause-took : goal.returns-clause-took
returns-clause-took c = λ n e l there linked.
    subst
    (λ r. IfSome r (λ took. takes (context_in c.args.pool.now n c.args.self.now) e l (packet c.args.d.now)
    ≡ record { context = context_in c.take_into.new.pool n c.take_into.new.self; took = took; sent = c.take_into.new.draft })) c.in-Some.is (c.in_ok-took.ensures.took n e l there linked)
    ∙ ap {A = List Sent} (λ xs. record { context = context_in c.take_into.new.pool n c.take_into.new.self; took = c.in-Some.took; sent = xs }) (sym c.take_all-sent.ensures.taken)

pub take_all-sent-requires-clause-room : goal.take_all-sent-requires-clause-room
take_all-sent-requires-clause-room c = for-answer (may_answer c.args.d.now.opcode) c.take_into.new.draft c.in_ok-list.ensures.room c.take_into.ensures.unanswered_draft
