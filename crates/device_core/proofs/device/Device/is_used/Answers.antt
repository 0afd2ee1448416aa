-- One context after another has no key of the pair.
use Rattle.std.proofs.Common.{arith, ◌≡◌, ◌∙◌, ◌≤◌, sym, ap, Some, length}
use Rattle.std.specs.Prelude.{slice_get}
use Rattle.std.specs.Option.{option_map}
use Rattle.std.specs.Map.Iter.{deref_pair}
use Rattle.std.proofs.lemmas.List.{length-map, take_all}
use Rattle.rdma_types.specs.Lists.{some}
use Rattle.protocol.specs.State.{Context, Device}
use Rattle.context_core.specs.Context.{context_in, meets}
use Rattle.device_core.specs.Parts.{held_in}
use Rattle.device_core.proofs.Brought.{map-at, some-at, some-next, some-none}
use Rattle.device_core.proofs.device.Device.is_used.Goals as goal

pub loop-place-init : goal.loop-place-init
loop-place-init c = some-none (λ (k : Context). some (meets c.args.keys) k.regions)

pub loop-place-preserved : goal.loop-place-preserved
loop-place-preserved c =
    let x = c.self.inside in
    let p = c.unwrap.result in
    let at : slice_get c.args.self.now.contexts c.loop-place.place ≡ Some (context_in x.pool p.0.now p.1.now) =
    ap (λ (d : Device). slice_get d.contexts c.loop-place.place) (sym c.self.view_is) ∙ map-at (held_in x.pool) x.contexts.entries c.loop-place.place (p.0.now, p.1.now) (sym c.get_index.ensures.entry ∙ ap (option_map deref_pair) c.unwrap.ensures) in
    some-next (λ (k : Context). some (meets c.args.keys) k.regions) c.args.self.now.contexts c.loop-place.place (context_in x.pool p.0.now p.1.now) at c.loop-place.invariant (sym (c.has_keys.ensures x.pool p.0.now) ∙ c.if-has_keys.false)

pub returns-then-has_keys : goal.returns-then-has_keys
returns-then-has_keys c =
    let x = c.self.inside in
    let p = c.unwrap.result in
    let at : slice_get c.args.self.now.contexts c.loop-place.place ≡ Some (context_in x.pool p.0.now p.1.now) =
    ap (λ (d : Device). slice_get d.contexts c.loop-place.place) (sym c.self.view_is) ∙ map-at (held_in x.pool) x.contexts.entries c.loop-place.place (p.0.now, p.1.now) (sym c.get_index.ensures.entry ∙ ap (option_map deref_pair) c.unwrap.ensures) in
    sym (some-at (λ (k : Context). some (meets c.args.keys) k.regions) c.args.self.now.contexts c.loop-place.place (context_in x.pool p.0.now p.1.now) at (sym (c.has_keys.ensures x.pool p.0.now) ∙ c.if-has_keys.true))

pub returns : goal.returns
returns c =
    let x = c.self.inside in
    let all : length c.args.self.now.contexts ≤ c.loop-place.place = omega (arith, c.loop-place-test.false, c.len-place-end.ensures.len, length-map x.contexts.entries (held_in x.pool), ap (λ (k : Device). length k.contexts) c.self.view_is) in
    sym c.loop-place.invariant ∙ ap (some (λ (k : Context). some (meets c.args.keys) k.regions)) (take_all c.loop-place.place c.args.self.now.contexts all)
