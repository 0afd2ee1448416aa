use Rattle.std.proofs.Common.{◌∙◌}
use Rattle.std.proofs.lemmas.Result.{on_ok_weaker}
use Rattle.context_core.proofs.CreatedEnds.{causes-are, end-is, end-lists, end-made, end-made-pages}
use Rattle.context_core.proofs.state.ContextState.make_qp.Goals as goal

pub returns-clause-refused : goal.returns-clause-refused
returns-clause-refused c = rw (← c.self.view_is) (λ pool n d is e. c.make.ensures.refused is.is.few_queues ∙ causes-are pool n d _ c.args.new.now c.args.number e)

pub returns-clause-made : goal.returns-clause-made
returns-clause-made c = rw (← c.self.view_is) (λ pool n d is e. on_ok_weaker c.make.result (λ m. end-made pool n d _ _ c.args.new.now c.args.number e m) c.make.ensures.made)

pub returns-clause-is : goal.returns-clause-is
returns-clause-is c = rw (← c.self.view_is) (λ pool is. end-is pool _ _ c.args.new.now c.args.number c.make.result c.make.ensures.made c.make.ensures.err is)

pub returns-clause-lists : goal.returns-clause-lists
returns-clause-lists c = rw (← c.self.view_is) (end-lists _ _ c.args.new.now c.args.number c.make.result c.make.ensures.made c.make.ensures.err)

pub returns-clause-pages : goal.returns-clause-pages
returns-clause-pages c = rw (← c.self.view_is) (λ pool n is. end-made-pages pool n _ _ c.args.new.now c.args.number c.make.result c.make.ensures.made c.make.ensures.err is)
