use Rattle.std.proofs.Common.{◌≡◌, ◌∙◌, ap, sym}
use Rattle.std.specs.Prelude.{None, Some, slice_get}
use Rattle.std.specs.Option.{option_map}
use Rattle.std.specs.Map.Iter.{deref_pair}
use Rattle.context_core.specs.Context.{Holding, context_in}
use Rattle.context_core.specs.Links.{SendsByTerms}
use Rattle.context_core.proofs.EndReaders.{told-none, told-some}
use Rattle.context_core.proofs.ListPrefixes.{at_place}
use Rattle.context_core.proofs.SettlingReaders.{name-is}
use Rattle.context_core.proofs.state.ContextState.end_at.Goals as goal

pub returns-in_err-name : goal.returns-in_err-name
returns-in_err-name c =
    let h = c.args.self.now in
    let gone : slice_get h.ends c.args.place ≡ None = ap (λ (k : Holding). slice_get k.ends c.args.place) (sym c.self.view_is) ∙ (sym c.get_index.ensures.entry ∙ ap (option_map deref_pair) c.in_err-name.was) in
    λ pool. c.from_residual.ensures ∙ told-none pool c.args.context h c.args.place gone

pub live_end-requires : goal.live_end-requires
live_end-requires c =
    let h = c.args.self.now in
    let there : slice_get h.ends c.args.place ≡ Some (c.in_ok-name.name.now, c.in_ok-name.slot.now) = ap (λ (k : Holding). slice_get k.ends c.args.place) (sym c.self.view_is) ∙ (sym c.get_index.ensures.entry ∙ ap (option_map deref_pair) c.in_ok-name.was) in
    at_place (λ e. SendsByTerms e.1.endpoint.link) h.ends c.args.place (c.in_ok-name.name.now, c.in_ok-name.slot.now) there c.requires

pub returns : goal.returns
returns c =
    let h = c.args.self.now in
    let there : slice_get h.ends c.args.place ≡ Some (c.in_ok-name.name.now, c.in_ok-name.slot.now) = ap (λ (k : Holding). slice_get k.ends c.args.place) (sym c.self.view_is) ∙ (sym c.get_index.ensures.entry ∙ ap (option_map deref_pair) c.in_ok-name.was) in
    λ pool. told-some pool c.args.context h c.args.place (c.in_ok-name.name.now, c.in_ok-name.slot.now) c.live_end.result there (c.live_end.ensures pool h.queues (context_in pool c.args.context h) (name-is pool c.args.context h))
