-- The index has the numbers that are taken.
use Rattle.std.proofs.Common.{◌∙◌, ap}
use Rattle.std.specs.Prelude.{nat_eq}
use Rattle.std.specs.Map.{lookup}
use Rattle.protocol.specs.Refusals.{number_is_taken}
use Rattle.device_core.specs.Parts.{device_of}
use Rattle.device_core.proofs.Brought.{noted-taken}
use Rattle.device_core.proofs.device.Device.is_noted.Goals as goal

pub returns : goal.returns
returns c =
    let x = c.self.inside in
    let h = c.self.invariant in
    c.contains_key.ensures
    ∙ (noted-taken (λ k. lookup (nat_eq k) x.index.entries) (device_of x.id x.address x.qp_count x.key_count x.pool x.contexts.entries x.husks.entries) h.indexed h.names h.husk_names c.args.number
    ∙ ap (λ d. number_is_taken d c.args.number) c.self.view_is)
