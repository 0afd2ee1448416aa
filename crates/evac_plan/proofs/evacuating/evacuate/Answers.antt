use Rattle.std.proofs.lemmas.Result.{IfErr-weaker, IfOk-weaker}
use Rattle.evac_plan.proofs.Wholes.{call_empties, call_followed, call_keeps, call_loses_nothing}
use Rattle.evac_plan.proofs.evacuating.evacuate.Goals as goal

pub returns-clause-followed : goal.returns-clause-followed
returns-clause-followed g c w m kept stands =
    call_followed w m c.args.from c.args.targets.now stands c.empty.new.world c.evacuations_are_followed.ensures c.settling_is_named.ensures.events c.settling_follows.ensures (λ v. v.items) c.empty.result
    (IfOk-weaker c.empty.result _ _ (λ v ends. ends w kept) c.empty.ensures.ok) (IfErr-weaker c.empty.result _ _ (λ e ends. ends w kept) c.empty.ensures.err)

pub returns-clause-emptied : goal.returns-clause-emptied
returns-clause-emptied g c = IfOk-weaker c.empty.result _ _ (λ v ends w m kept stands are.
    call_empties w m c.args.from c.args.targets.now stands c.empty.new.world are c.devices_are_emptied.ensures v.items (ends w kept)) c.empty.ensures.ok

pub returns-clause-stays : goal.returns-clause-stays
returns-clause-stays g c = IfErr-weaker c.empty.result _ _ (λ e ends w m kept stands are.
    call_keeps w m c.args.from c.args.targets.now stands c.empty.new.world are c.devices_keep_the_rest.ensures e (ends w kept)) c.empty.ensures.err

pub returns-clause-not_lost : goal.returns-clause-not_lost
returns-clause-not_lost g c w m n kept stands there =
    call_loses_nothing w m c.args.from c.args.targets.now stands c.empty.new.world c.nothing_is_lost.ensures c.settling_is_named.ensures.events n there
    (call_followed w m c.args.from c.args.targets.now stands c.empty.new.world c.evacuations_are_followed.ensures c.settling_is_named.ensures.events c.settling_follows.ensures (λ v. v.items) c.empty.result
    (IfOk-weaker c.empty.result _ _ (λ v ends. ends w kept) c.empty.ensures.ok) (IfErr-weaker c.empty.result _ _ (λ e ends. ends w kept) c.empty.ensures.err))
