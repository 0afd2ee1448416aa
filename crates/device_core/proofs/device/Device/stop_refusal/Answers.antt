-- A stop is refused by its first cause.
use Rattle.std.proofs.Common.{◌≡◌, ◌∙◌, sym, ap, Some, true}
use Rattle.std.specs.Prelude.{is_some}
use Rattle.std.specs.Str.{bytes_eq}
use Rattle.std.specs.Map.{lookup}
use Rattle.protocol.specs.Refusals.{has_context, stop_causes}
use Rattle.protocol.specs.State.{context_at}
use Rattle.context_core.specs.Context.{context_in}
use Rattle.device_core.specs.Parts.{device_of}
use Rattle.device_core.proofs.Contexts.{found-there, lookup-found}
use Rattle.device_core.proofs.Departures.{stop-cause}
use Rattle.device_core.proofs.Lookups.{none-ref}
use Rattle.device_core.proofs.Stepping.{found-ref}
use Rattle.device_core.proofs.device.Device.stop_refusal.Goals as goal

pub missing-requires : goal.missing-requires
missing-requires c = ap (λ k. has_context k c.args.name) (sym c.self.view_is) ∙ (sym (found-there c.self.inside.pool c.args.name c.self.inside.contexts.entries) ∙ none-ref c.get.result (lookup (bytes_eq c.args.name) c.self.inside.contexts.entries) c.in_default.is c.get.ensures.value)

pub returns-in_default : goal.returns-in_default
returns-in_default c = sym (c.missing.ensures (λ k. stop_causes c.args.self.now k c.args.alone))

pub returns : goal.returns
returns c =
    let x = c.self.inside in
    let n = c.args.name in
    let s = c.in-Some.state.now in
    let d = device_of x.id x.address x.qp_count x.key_count x.pool x.contexts.entries x.husks.entries in
    let found : lookup (bytes_eq n) x.contexts.entries ≡ Some s = found-ref c.get.result c.in-Some.state (lookup (bytes_eq n) x.contexts.entries) c.in-Some.is c.get.ensures.value in
    let lives : has_context c.args.self.now n ≡ true = ap (λ k. has_context k n) (sym c.self.view_is) ∙ (sym (found-there x.pool n x.contexts.entries) ∙ ap is_some found) in
    c.stop_cause.ensures ∙ stop-cause c.args.self.now n c.args.alone (context_in x.pool n s) lives (ap (λ k. context_at k n) (sym c.self.view_is) ∙ lookup-found x.pool n x.contexts.entries s found) c.pauses.result c.leaves_none.result (c.pauses.ensures x.pool n) (c.leaves_none.ensures x.pool n)
