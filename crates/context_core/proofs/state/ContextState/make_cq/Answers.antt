use Rattle.std.proofs.Common.{sym, ap, ◌∙◌}
use Rattle.std.proofs.lemmas.Result.{on_ok_weaker}
use Rattle.context_core.specs.Context.{context_in}
use Rattle.endpoint_core.specs.Queues.{queues_of}
use Rattle.context_core.proofs.AddedObjects.{numbers-in, queue-is, queue-lists, queue-made, queue-pages}
use Rattle.context_core.proofs.state.ContextState.make_cq.Goals as goal

pub returns-clause-refused : goal.returns-clause-refused
unfolding context_in
returns-clause-refused c = λ pool n. c.make.ensures.refused (context_in pool n c.args.self.now) (ap (λ h. queues_of h.queues) (sym c.self.view_is))

pub returns-clause-made : goal.returns-clause-made
returns-clause-made c = rw (← c.self.view_is) (λ pool n d is. on_ok_weaker c.make.result (λ e. queue-made pool n d _ _ c.args.name c.args.capacity is e) c.make.ensures.made)

pub returns-clause-is : goal.returns-clause-is
returns-clause-is c = rw (← c.self.view_is) (λ pool is. queue-is pool _ _ c.args.name c.args.capacity c.make.result c.make.ensures.made c.make.ensures.absent c.make.ensures.bounded c.make.ensures.err is)

pub returns-clause-lists : goal.returns-clause-lists
returns-clause-lists c = rw (← c.self.view_is) (queue-lists _ _)

pub returns-clause-pages : goal.returns-clause-pages
returns-clause-pages c = rw (← c.self.view_is) (λ pool n is. queue-pages pool n _ _ is (queue-is pool _ _ c.args.name c.args.capacity c.make.result c.make.ensures.made c.make.ensures.absent c.make.ensures.bounded c.make.ensures.err is))

pub returns-clause-numbers : goal.returns-clause-numbers
returns-clause-numbers c = rw (← c.self.view_is) (λ pool n. numbers-in pool n _ ∙ sym (numbers-in pool n _))
