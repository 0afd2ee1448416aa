use Rattle.std.proofs.Common.{◌∙◌, sym, ap, Some}
use Rattle.std.specs.Option.{option_map}
use Rattle.std.specs.Map.Iter.{deref_pair}
use Rattle.protocol.specs.Readers.{context_name}
use Rattle.protocol.specs.State.{Context, Device}
use Rattle.device_core.specs.Parts.{held_in}
use Rattle.device_core.proofs.Brought.{map-at, map-none}
use Rattle.device_core.proofs.Laws as laws
use Rattle.device_core.proofs.device.Device.context_at.Goals as goal

pub returns : goal.returns
returns c =
    let x = c.self.inside in
    let at = map-at (held_in x.pool) x.contexts.entries c.args.i (c.in-Some.name.now, c.in-Some.field-0-1.now) (sym c.get_index.ensures.entry ∙ ap (option_map deref_pair) c.in-Some.is) in
    sym (ap (λ (d : Device). context_name d c.args.i) (sym c.self.view_is) ∙ (ap (option_map (λ (k : Context). k.name)) at ∙ ap Some (laws.name x.pool c.in-Some.field-0-1.now c.in-Some.name.now)))

pub returns-in_default : goal.returns-in_default
returns-in_default c =
    let x = c.self.inside in
    let gone = map-none (held_in x.pool) x.contexts.entries c.args.i (sym c.get_index.ensures.entry ∙ ap (option_map deref_pair) c.in_default.is) in
    sym (ap (λ (d : Device). context_name d c.args.i) (sym c.self.view_is) ∙ ap (option_map (λ (k : Context). k.name)) gone)
