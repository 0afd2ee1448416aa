use Rattle.std.proofs.Common.{sym, ap, subst, ◌∙◌}
use Rattle.std.specs.Prelude.{map}
use Rattle.std.specs.Result.{result_err}
use Rattle.std.proofs.lemmas.Result.{err_from_is_err_and}
use Rattle.protocol.specs.DeviceStep.{gives, with_context}
use Rattle.context_core.specs.Context.{Holding, context_in, end_of}
use Rattle.context_core.specs.Links.{IsConnectedAt}
use Rattle.context_core.proofs.ConnectedEnds.{connected-at}
use Rattle.context_core.proofs.state.ContextState.transmit.Goals as goal

pub returns-in_err-place-clause-refused : goal.returns-in_err-place-clause-refused
unfolding context_in
returns-in_err-place-clause-refused c = λ n.
    let p = err_from_is_err_and c.from_residual.result c.from_residual.ensures.1 in
    rw (p.1, p.2) (ap result_err (sym c.in_err-place.was) ∙ c.connected.ensures.refused c.args.pool.now c.self.inside.queues.entries (context_in c.args.pool.now n c.args.self.now) (ap {A = Holding} (λ h. map (end_of c.args.pool.now h.queues) h.ends) (sym c.self.view_is)))

pub returns-in_err-list-clause-refused : goal.returns-in_err-list-clause-refused
unfolding context_in
returns-in_err-list-clause-refused c = λ n.
    let p = err_from_is_err_and c.from_residual-in_err-list.result c.from_residual-in_err-list.ensures.1 in
    rw (p.1, p.2) (ap result_err (sym c.in_ok-place.was) ∙ c.connected.ensures.refused c.args.pool.now c.self.inside.queues.entries (context_in c.args.pool.now n c.args.self.now) (ap {A = Holding} (λ h. map (end_of c.args.pool.now h.queues) h.ends) (sym c.self.view_is)))

pub returns-in_err-row-clause-refused : goal.returns-in_err-row-clause-refused
unfolding context_in
returns-in_err-row-clause-refused c = λ n.
    let p = err_from_is_err_and c.from_residual-in_err-row.result c.from_residual-in_err-row.ensures.1 in
    rw (p.1, p.2) (ap result_err (sym c.in_ok-place.was) ∙ c.connected.ensures.refused c.args.pool.now c.self.inside.queues.entries (context_in c.args.pool.now n c.args.self.now) (ap {A = Holding} (λ h. map (end_of c.args.pool.now h.queues) h.ends) (sym c.self.view_is)))

pub returns-clause-refused : goal.returns-clause-refused
unfolding context_in
returns-clause-refused c = λ n. ap result_err (sym c.in_ok-place.was) ∙ c.connected.ensures.refused c.args.pool.now c.self.inside.queues.entries (context_in c.args.pool.now n c.args.self.now) (ap {A = Holding} (λ h. map (end_of c.args.pool.now h.queues) h.ends) (sym c.self.view_is))

pub transmit_at-requires-clause-at : goal.transmit_at-requires-clause-at
transmit_at-requires-clause-at c =
    let name = c.args.name in
    let place = c.in_ok-place.place in
    let there = c.in_ok-place.ensures in
    (name, name, subst (λ (h : Holding). IsConnectedAt (context_in c.args.pool.now name h) name place) c.self.view_is (connected-at c.args.pool.now name _ name place there.place there.there there.linked))

pub returns-clause-sent : goal.returns-clause-sent
returns-clause-sent c = λ n d at same.
    let name = c.args.name in
    let place = c.in_ok-place.place in
    let here = c.in_ok-place.ensures in
    let there = subst (λ (h : Holding). IsConnectedAt (context_in c.args.pool.now n h) name place) c.self.view_is (connected-at c.args.pool.now n _ name place here.place here.there here.linked) in
    let new = with_context d (context_in c.args.pool.now n c.transmit_at.new.self) in
    c.in_ok-row.ensures.sent n name d there at same
    ∙ (ap (λ a. gives new a c.transmit_at.new.draft) (sym c.answer-answer.ensures) ∙ ap (gives new c.answer-answer.result) (sym c.take_all-sent.ensures.taken))
