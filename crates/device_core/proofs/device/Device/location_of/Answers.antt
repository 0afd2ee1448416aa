use Rattle.std.proofs.Common.{◌≡◌, ◌∙◌, sym, ap, subst, [], Option}
use Rattle.std.specs.Prelude.{IfNone}
use Rattle.std.specs.Option.{option_copied}
use Rattle.protocol.specs.DeviceStep.{found_in, husk_entries}
use Rattle.protocol.specs.State.{Device}
use Rattle.device_core.specs.declared.index.EndLocation.{EndLocation}
use Rattle.device_core.specs.Parts.{device_of}
use Rattle.device_core.proofs.FoundEnds.{nowhere}
use Rattle.device_core.proofs.device.Device.location_of.Goals as goal

pub returns-in_err-spot-clause-nowhere : goal.returns-in_err-spot-clause-nowhere
returns-in_err-spot-clause-nowhere c =
    let x = c.self.inside in
    let k = c.args.number in
    let h = c.self.invariant in
    let none = sym c.get.ensures.value ∙ ap option_copied c.in_err-spot.was in
    let away = nowhere _ (device_of x.id x.address x.qp_count x.key_count x.pool x.contexts.entries x.husks.entries) h.indexed h.names h.husk_names k none in
    subst (λ (o : Option EndLocation). IfNone o ((found_in k c.args.self.now.contexts ≡ []) × (husk_entries k c.args.self.now.husks ≡ []))) (sym c.from_residual.ensures)
    (subst (λ (d : Device). (found_in k d.contexts ≡ []) × (husk_entries k d.husks ≡ [])) c.self.view_is away)
