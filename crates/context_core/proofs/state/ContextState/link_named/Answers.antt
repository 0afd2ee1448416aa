use Rattle.std.proofs.Common.{◌≡◌, ◌∙◌, sym, ap, Some, None}
use Rattle.std.specs.Prelude.{option_map}
use Rattle.std.specs.Option.{option_copied}
use Rattle.std.specs.Map.{lookup}
use Rattle.std.specs.Str.{bytes_eq}
use Rattle.context_core.specs.Context.{Holding}
use Rattle.context_core.specs.Links.{link_view}
use Rattle.context_core.proofs.SettlingReaders.{link-at, link_shown, sends-found}
use Rattle.context_core.proofs.state.ContextState.link_named.Goals as goal

pub link_of-requires : goal.link_of-requires
link_of-requires c =
    let found : lookup (bytes_eq c.args.end) c.args.self.now.ends ≡ Some c.in-Some.slot.now = ap (λ (h : Holding). lookup (bytes_eq c.args.end) h.ends) (sym c.self.view_is) ∙ (sym c.get.ensures.value ∙ ap option_copied c.in-Some.is) in
    sends-found c.args.end c.args.self.now.ends c.in-Some.slot.now c.requires found

pub returns-in-None : goal.returns-in-None
returns-in-None c = λ pool n.
    let found : lookup (bytes_eq c.args.end) c.args.self.now.ends ≡ None = ap (λ (h : Holding). lookup (bytes_eq c.args.end) h.ends) (sym c.self.view_is) ∙ (sym c.get.ensures.value ∙ ap option_copied c.in-None.is) in
    ap (λ o. option_map link_view (link_shown pool o)) (sym found) ∙ ap (option_map link_view) (link-at pool n c.args.self.now c.args.end)

pub returns-in-Some : goal.returns-in-Some
returns-in-Some c = λ pool n.
    let found : lookup (bytes_eq c.args.end) c.args.self.now.ends ≡ Some c.in-Some.slot.now = ap (λ (h : Holding). lookup (bytes_eq c.args.end) h.ends) (sym c.self.view_is) ∙ (sym c.get.ensures.value ∙ ap option_copied c.in-Some.is) in
    c.link_of.ensures pool ∙ (ap (λ o. option_map link_view (link_shown pool o)) (sym found) ∙ ap (option_map link_view) (link-at pool n c.args.self.now c.args.end))
