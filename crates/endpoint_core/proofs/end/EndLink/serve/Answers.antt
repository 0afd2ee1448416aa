use Rattle.std.proofs.Common.{◌≡◌, ◌∙◌, Some, ap, sym, subst, rules}
use Rattle.std.specs.Prelude.{map, slice_get}
use Rattle.memory_keys.specs.Regions.{AreHeld, AreKeyed, regions_of}
use Rattle.responder.specs.Sound.{IsSound as IsServing}
use Rattle.endpoint_core.proofs.Settled.{settle-set}
use Rattle.endpoint_core.proofs.end.EndLink.serve.Goals as goal

pub returns-clause-served : goal.returns-clause-served
returns-clause-served c =
    let e = c.take_request.ensures in
    let at : slice_get (map (λ e. e.1) c.args.queues.now.entries) c.args.recv ≡ Some c.unwrap-cq.result.now = search rules in
    record {
      same = ap (λ r. record c.args.self.now { responder = r }) e.receiver;
      receives = e.unused;
      bytes = ap (λ h. regions_of c.take_request.new.pool h) (sym e.same) ∙ e.regions;
      queues = settle-set c.args.queues.now.entries c.args.recv _ _ c.unwrap-cq.result.now c.take_request.new.cq at e.done;
      regions = subst (λ h. AreHeld c.take_request.new.pool h) e.same e.held;
      others = e.others;
      free = e.free;
      keyed = subst (λ h. AreKeyed h) e.same e.keyed;
      serving = subst (λ h. IsServing h c.args.domain c.take_request.new.self c.take_request.new.recvs.items) e.same e.sound;
    }
