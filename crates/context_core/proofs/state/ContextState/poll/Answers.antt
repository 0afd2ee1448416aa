use Rattle.std.proofs.Common.{sym, ap, ◌∙◌}
use Rattle.std.proofs.lemmas.Result.{IfOk-weaker}
use Rattle.endpoint_core.specs.Queues.{queues_of}
use Rattle.context_core.specs.Context.{Holding, context_in}
use Rattle.context_core.proofs.AddedObjects.{numbers-in, queue-lists, queue-pages}
use Rattle.context_core.proofs.PolledEntries.{poll-after, poll-rule}
use Rattle.context_core.proofs.state.ContextState.poll.Goals as goal

pub returns-clause-refused : goal.returns-clause-refused
unfolding context_in
returns-clause-refused c = λ pool n. c.poll.ensures.refused (context_in pool n c.args.self.now) (ap {A = Holding} (λ h. queues_of h.queues) (sym c.self.view_is))

pub returns-clause-polled : goal.returns-clause-polled
returns-clause-polled c = rw (← c.self.view_is) (λ pool n d. IfOk-weaker c.poll.result _ _ (λ entries p. poll-rule pool n d _ _ c.args.name c.args.most entries p) c.poll.ensures.polled)

pub returns-clause-is : goal.returns-clause-is
returns-clause-is c = rw (← c.self.view_is) (λ pool is. poll-after pool _ _ c.args.name c.args.most c.poll.result c.poll.ensures.polled c.poll.ensures.err is)

pub returns-clause-lists : goal.returns-clause-lists
returns-clause-lists c = rw (← c.self.view_is) (queue-lists _ _)

pub returns-clause-pages : goal.returns-clause-pages
returns-clause-pages c = rw (← c.self.view_is) (λ pool n is. queue-pages pool n _ _ is (poll-after pool _ _ c.args.name c.args.most c.poll.result c.poll.ensures.polled c.poll.ensures.err is))

pub returns-clause-numbers : goal.returns-clause-numbers
returns-clause-numbers c = rw (← c.self.view_is) (λ pool n. numbers-in pool n _ ∙ sym (numbers-in pool n _))
