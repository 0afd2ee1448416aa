use Rattle.std.proofs.Common.{sym, subst, ◌∙◌}
use Rattle.device_differences.proofs.Told.{device-tells}
use Rattle.device_differences.proofs.Tells.{Differs}
use Rattle.device_core.proofs.device.Device.differs.Goals as goal

pub returns : goal.returns
returns c =
    let tells = device-tells c.args.self.now c.args.other.now in
    record {
      value = c.difference.ensures;
      none = ((λ e. tells.none (sym c.difference.ensures ∙ e)), (λ e. c.difference.ensures ∙ tells.same e));
      some = subst Differs (sym c.difference.ensures) tells.differ;
    }
