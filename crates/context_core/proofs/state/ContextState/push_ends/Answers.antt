use Rattle.std.proofs.Common.{◌≡◌, ◌≤◌, ◌++◌, ◌∷◌, [], length, take, ap, sym, subst, ◌∙◌, arith, append_assoc, Some}
use Rattle.std.specs.Prelude.{map, slice_get}
use Rattle.std.specs.Option.{option_map}
use Rattle.std.specs.Map.Iter.{deref_pair}
use Rattle.std.proofs.lemmas.List.{take_all}
use Rattle.context_core.specs.Context.{Holding, context_in, end_of}
use Rattle.context_core.specs.Links.{SendsByTerms, live_end}
use Rattle.context_core.proofs.ListPrefixes.{at_place, both_of}
use Rattle.context_core.proofs.SettlingReaders.{ends-are, name-is}
use Rattle.context_core.proofs.state.ContextState.push_ends.Goals as goal

pub live_end-requires : goal.live_end-requires
live_end-requires c =
    let h = c.args.self.now in
    let p = c.unwrap.result in
    let at : slice_get h.ends c.loop-place.place ≡ Some (p.0.now, p.1.now) = ap (λ (k : Holding). slice_get k.ends c.loop-place.place) (sym c.self.view_is) ∙ (sym c.get_index.ensures.entry ∙ ap (option_map deref_pair) c.unwrap.ensures) in
    at_place (λ e. SendsByTerms e.1.endpoint.link) h.ends c.loop-place.place (p.0.now, p.1.now) at c.requires

pub loop-place-preserved : goal.loop-place-preserved
loop-place-preserved c = λ pool.
    let h = c.args.self.now in
    let p = c.unwrap.result in
    let k = context_in pool c.args.context h in
    let at : slice_get h.ends c.loop-place.place ≡ Some (p.0.now, p.1.now) = ap (λ (x : Holding). slice_get x.ends c.loop-place.place) (sym c.self.view_is) ∙ (sym c.get_index.ensures.entry ∙ ap (option_map deref_pair) c.unwrap.ensures) in
    let is : c.live_end.result ≡ live_end k (end_of pool h.queues (p.0.now, p.1.now)) = c.live_end.ensures pool h.queues k (name-is pool c.args.context h) in
    c.in_ok-push.ensures.items
    ∙ (ap (λ xs. xs ++ c.live_end.result ∷ []) (c.loop-place.invariant pool)
    ∙ (append_assoc c.args.live.now.items _ (c.live_end.result ∷ [])
    ∙ ap (λ xs. c.args.live.now.items ++ xs) (both_of (live_end k) (end_of pool h.queues) h.ends c.loop-place.place (p.0.now, p.1.now) c.live_end.result at is)))

pub returns : goal.returns
returns c = λ pool.
    let h = c.args.self.now in
    let past : length c.self.inside.ends.entries ≤ c.loop-place.place = omega (arith, c.loop-place-test.false, c.len-place-end.ensures.len) in
    let whole : take c.loop-place.place h.ends ≡ h.ends = take_all c.loop-place.place h.ends (subst (λ (x : Holding). length x.ends ≤ c.loop-place.place) c.self.view_is past) in
    c.loop-place.invariant pool ∙ ap (λ xs. c.args.live.now.items ++ xs) (ap (λ es. map (live_end (context_in pool c.args.context h)) (map (end_of pool h.queues) es)) whole ∙ ends-are pool c.args.context h)
