-- The context is found by its name, and the end by its own in the context.
use Rattle.std.proofs.Common.{◌≡◌, ◌∙◌, refl, sym, ap, subst, true, false, Some}
use Rattle.std.specs.Prelude.{IfNone, IfSome, IsSome, is_some, option_map}
use Rattle.std.specs.Option.{option_copied}
use Rattle.std.specs.Str.{bytes_eq}
use Rattle.std.specs.Map.{lookup}
use Rattle.rdma_types.specs.Causes.{first_cause}
use Rattle.protocol.specs.declared.events.Event.TheVariants as event
use Rattle.protocol.specs.Refusals.{connected_causes, has_context, refusal_of}
use Rattle.protocol.specs.State.{Device, context_at}
use Rattle.context_core.specs.Context.{context_in}
use Rattle.context_core.specs.Links.{IsConnectedAt}
use Rattle.context_core.proofs.ConnectedEnds.{held-at, not-refused}
use Rattle.device_core.specs.Finding.{IsAt}
use Rattle.device_core.proofs.Contexts.{found-there, lookup-found, lookup-there}
use Rattle.device_core.proofs.EndPlaces.{alone, at-name}
use Rattle.device_core.proofs.Helds.{is-context}
use Rattle.device_core.proofs.Transmissions.{free-here, refused-gone, refused-here}
use Rattle.device_core.proofs.device.Device.place_of.Goals as goal

pub returns-in_err-context-clause-none : goal.returns-in_err-context-clause-none
returns-in_err-context-clause-none c =
    let x = c.self.inside in
    let o = c.args.end.now in
    let gone : has_context c.args.self.now o.context ≡ false =
    ap (λ (d : Device). has_context d o.context) (sym c.self.view_is)
    ∙ (sym (found-there x.pool o.context x.contexts.entries) ∙ ap is_some (sym (alone c.get_full.result ∙ c.get_full.ensures.value) ∙ ap (λ r. option_copied (option_map (λ p. p.2) r)) c.in_err-context.was)) in
    subst (λ r. IfNone r (IsSome (refusal_of c.args.self.now (event.Transmit o)))) (sym c.from_residual.ensures) (refused-gone c.args.self.now o gone)

pub returns-in_err-place-clause-none : goal.returns-in_err-place-clause-none
returns-in_err-place-clause-none c =
    let x = c.self.inside in
    let o = c.args.end.now in
    let s = c.in_ok-context.held.now in
    let found : lookup (bytes_eq o.context) x.contexts.entries ≡ Some s = sym (alone c.get_full.result ∙ c.get_full.ensures.value) ∙ ap (λ r. option_copied (option_map (λ p. p.2) r)) c.in_ok-context.was in
    let lives : has_context c.args.self.now o.context ≡ true = ap (λ (d : Device). has_context d o.context) (sym c.self.view_is) ∙ lookup-there x.pool o.context x.contexts.entries s found in
    let at : context_at c.args.self.now o.context ≡ context_in x.pool o.context s = ap (λ (d : Device). context_at d o.context) (sym c.self.view_is) ∙ lookup-found x.pool o.context x.contexts.entries s found in
    let refused = subst (λ r. IfNone r (IsSome (first_cause (connected_causes (context_in x.pool o.context s) o.name)))) c.in_err-place.was (c.connected_place.ensures.none x.pool o.context) in
    subst (λ r. IfNone r (IsSome (refusal_of c.args.self.now (event.Transmit o)))) (sym c.from_residual-in_err-place.ensures) (refused-here c.args.self.now o x.pool s lives at refused)

pub returns-clause-there : goal.returns-clause-there
returns-clause-there c =
    let x = c.self.inside in
    let o = c.args.end.now in
    let there = subst (λ r. IfSome r (λ i. IsConnectedAt (context_in x.pool o.context c.in_ok-context.held.now) o.name i)) c.in_ok-place.was (c.connected_place.ensures.place x.pool o.context) in
    subst (λ (d : Device). IsAt d o (record { context = c.in_ok-context.context; place = c.in_ok-place.place })) c.self.view_is
    (at-name c.self.invariant refl o c.in_ok-place.place (sym c.get_full.ensures.index ∙ ap (option_map (λ p. p.0)) c.in_ok-context.was) c.in_ok-context.ensures.entry there)

pub returns-clause-free : goal.returns-clause-free
returns-clause-free c =
    let x = c.self.inside in
    let o = c.args.end.now in
    let s = c.in_ok-context.held.now in
    let found : lookup (bytes_eq o.context) x.contexts.entries ≡ Some s = sym (alone c.get_full.result ∙ c.get_full.ensures.value) ∙ ap (λ r. option_copied (option_map (λ p. p.2) r)) c.in_ok-context.was in
    let lives : has_context c.args.self.now o.context ≡ true = ap (λ (d : Device). has_context d o.context) (sym c.self.view_is) ∙ lookup-there x.pool o.context x.contexts.entries s found in
    let at : context_at c.args.self.now o.context ≡ context_in x.pool o.context s = ap (λ (d : Device). context_at d o.context) (sym c.self.view_is) ∙ lookup-found x.pool o.context x.contexts.entries s found in
    let there = subst (λ r. IfSome r (λ i. IsConnectedAt (context_in x.pool o.context s) o.name i)) c.in_ok-place.was (c.connected_place.ensures.place x.pool o.context) in
    let is = is-context x.id x.address x.qp_count x.key_count x.pool x.contexts.entries x.husks.entries _ c.self.invariant o.context s found in
    free-here c.args.self.now o x.pool s lives at (not-refused x.pool o.context s o.name c.in_ok-place.place is.is.end_names (held-at x.pool o.context s o.name c.in_ok-place.place there))
