use Rattle.std.proofs.Common.{refl, sym, ap}
use Rattle.std.proofs.lemmas.Result.{on_ok_weaker}
use Rattle.endpoint_core.specs.Queues.{nothing}
use Rattle.context_core.specs.Context.{context_in}
use Rattle.context_core.proofs.AddedObjects.{domain-made, domain-holding, domain-pages, domain-lists}
use Rattle.context_core.proofs.state.ContextState.make_domain.Goals as goal

pub returns-clause-refused : goal.returns-clause-refused
unfolding context_in
returns-clause-refused c = λ pool n. c.make.ensures.refused (context_in pool n c.args.self.now) (ap (λ h. h.domains) (sym c.self.view_is))

pub returns-clause-made : goal.returns-clause-made
returns-clause-made c = rw (← c.self.view_is) (λ pool n d. on_ok_weaker c.make.result (λ e. domain-made pool n d _ _ c.args.name e) c.make.ensures.made)

pub returns-clause-is : goal.returns-clause-is
returns-clause-is c = rw (← c.self.view_is) (λ pool is. record { is = domain-holding pool _ _ nothing is.is })

pub returns-clause-lists : goal.returns-clause-lists
returns-clause-lists c = rw (← c.self.view_is) (domain-lists _ _)

pub returns-clause-pages : goal.returns-clause-pages
returns-clause-pages c = rw (← c.self.view_is) (λ pool n is. domain-pages pool n _ _ is)

pub returns-clause-numbers : goal.returns-clause-numbers
unfolding context_in
returns-clause-numbers c = rw (← c.self.view_is) (λ pool n. refl)
