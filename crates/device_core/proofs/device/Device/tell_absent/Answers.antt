-- What answers the datagram goes into the draft.
use Rattle.std.proofs.Common.{◌≤◌, ◌^◌, ◌∙◌, ap, length, subst, sym}
use Rattle.device_core.specs.Done.{arrived}
use Rattle.device_core.proofs.device.Device.tell_absent.Goals as goal

pub returns-clause-done : goal.returns-clause-done
returns-clause-done c = λ bytes is.
    c.in_ok-outcome.ensures.done bytes is
    ∙ ap (λ xs. record { device = c.args.self.now; outcome = arrived c.in_ok-outcome.outcome.took xs }) (sym c.put_all.ensures)

pub returns-clause-bounded : goal.returns-clause-bounded
returns-clause-bounded c = subst (λ xs. length xs ≤ 2 ^ 32) (sym c.put_all.ensures) c.in_ok-outcome.ensures.bounded
