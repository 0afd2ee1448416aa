use Rattle.std.proofs.Common.{◌≡◌, ◌≤◌, ◌++◌, length, ap, sym, ◌∙◌, arith, Some}
use Rattle.std.specs.Prelude.{map, flat_map, slice_get, IfOk, Result, Ok, Err}
use Rattle.std.specs.Option.{option_map}
use Rattle.std.specs.Map.Iter.{deref_pair}
use Rattle.std.proofs.lemmas.List.{length-map, take_all}
use Rattle.protocol.specs.State.{Context, Device}
use Rattle.context_core.specs.Context.{IsContext, context_in}
use Rattle.context_core.specs.Links.{live_end}
use Rattle.context_core.proofs.ListPrefixes.{at_place}
use Rattle.context_core.proofs.SettlingReaders.{sends-all}
use Rattle.device_core.specs.Parts.{held_in}
use Rattle.device_core.proofs.Brought.{map-at}
use Rattle.device_core.proofs.LiveEnds.{ends-more}
use Rattle.device_core.proofs.device.Device.push_ends.Goals as goal

if_ok : {A E : Type 0} (r : Result A E) (a : A) (P : Type 0) → r ≡ Ok a → IfOk r (λ x. P) → P
if_ok (Ok x) a P is h = h
if_ok (Err x) a P is h = absurd (cc)

pub push_ends-requires : goal.push_ends-requires
push_ends-requires c =
    let x = c.self.inside in
    let p = c.unwrap.result in
    sends-all x.pool p.1.now (at_place (λ e. IsContext x.pool e.1) x.contexts.entries c.loop-place.place (p.0.now, p.1.now) (sym c.get_index.ensures.entry ∙ ap (option_map deref_pair) c.unwrap.ensures) c.self.invariant.each)

pub loop-place-preserved : goal.loop-place-preserved
loop-place-preserved c =
    let x = c.self.inside in
    let p = c.unwrap.result in
    let k = context_in x.pool p.0.now p.1.now in
    let at : slice_get c.args.self.now.contexts c.loop-place.place ≡ Some k =
    ap (λ (d : Device). slice_get d.contexts c.loop-place.place) (sym c.self.view_is) ∙ map-at (held_in x.pool) x.contexts.entries c.loop-place.place (p.0.now, p.1.now) (sym c.get_index.ensures.entry ∙ ap (option_map deref_pair) c.unwrap.ensures) in
    if_ok c.push_ends.result c.in_ok-push_ends.field-0 _ c.in_ok-push_ends.was (c.push_ends.ensures x.pool)
    ∙ (ap (λ xs. xs ++ map (live_end k) k.ends) c.loop-place.invariant ∙ ends-more c.args.live.now.items c.args.self.now.contexts c.loop-place.place k at)

pub returns : goal.returns
returns c =
    let x = c.self.inside in
    let all : length c.args.self.now.contexts ≤ c.loop-place.place = omega (arith, c.loop-place-test.false, c.len-place-end.ensures.len, length-map x.contexts.entries (held_in x.pool), ap (λ (k : Device). length k.contexts) c.self.view_is) in
    c.loop-place.invariant ∙ ap (λ cs. c.args.live.now.items ++ flat_map (λ (k : Context). map (live_end k) k.ends) cs) (take_all c.loop-place.place c.args.self.now.contexts all)
