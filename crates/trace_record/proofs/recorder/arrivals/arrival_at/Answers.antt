use Rattle.std.proofs.Common.{◌∙◌, sym, subst}
use Rattle.std.proofs.lemmas.Result.{IfOk-weaker}
use Rattle.trace_record.specs.Arrivals.{IsArrivalAt}
use Rattle.trace_record.proofs.recorder.arrivals.arrival_at.Goals as goal

pub returns-in-ReadResponse-clause-named : goal.returns-in-ReadResponse-clause-named
returns-in-ReadResponse-clause-named c =
    IfOk-weaker c.read_arrival.result _ _
    (λ a named. subst (λ s. IsArrivalAt c.args.machine.now c.args.is_paused c.args.q.now c.args.n c.args.d.now.payload.now s a) (sym c.in-ReadResponse.is ∙ c.sort_of-sort.ensures) (named c.args.is_paused))
    c.read_arrival.ensures.named
