-- The context is found by its name, and tells why; where it does not live here, its husk or its absence does.
use Rattle.std.proofs.Common.{◌≡◌, ◌∙◌, ap, sym, true, Some}
use Rattle.std.specs.Prelude.{is_some}
use Rattle.std.specs.Str.{bytes_eq}
use Rattle.std.specs.Map.{lookup}
use Rattle.protocol.specs.Refusals.{has_context}
use Rattle.protocol.specs.State.{context_at}
use Rattle.context_core.specs.Context.{context_in}
use Rattle.device_core.proofs.Contexts.{found-there, lookup-found}
use Rattle.device_core.proofs.Lookups.{none-ref}
use Rattle.device_core.proofs.Stepping.{found-ref}
use Rattle.device_core.proofs.Transmissions.{refusal-gone, refusal-here}
use Rattle.device_core.proofs.device.Device.transmit_refusal.Goals as goal

pub missing-requires : goal.missing-requires
missing-requires c =
    let n = c.args.end.now.context in
    ap (λ k. has_context k n) (sym c.self.view_is) ∙ (sym (found-there c.self.inside.pool n c.self.inside.contexts.entries) ∙ none-ref c.get.result (lookup (bytes_eq n) c.self.inside.contexts.entries) c.in_default.is c.get.ensures.value)

pub returns-in_default : goal.returns-in_default
returns-in_default c = refusal-gone c.args.self.now c.args.end.now c.missing.result c.missing.ensures

pub returns : goal.returns
returns c =
    let x = c.self.inside in
    let n = c.args.end.now.context in
    let s = c.in-Some.state.now in
    let found : lookup (bytes_eq n) x.contexts.entries ≡ Some s = found-ref c.get.result c.in-Some.state (lookup (bytes_eq n) x.contexts.entries) c.in-Some.is c.get.ensures.value in
    let lives : has_context c.args.self.now n ≡ true = ap (λ k. has_context k n) (sym c.self.view_is) ∙ (sym (found-there x.pool n x.contexts.entries) ∙ ap is_some found) in
    let at : context_at c.args.self.now n ≡ context_in x.pool n s = ap (λ k. context_at k n) (sym c.self.view_is) ∙ lookup-found x.pool n x.contexts.entries s found in
    refusal-here c.args.self.now c.args.end.now x.pool s c.transmit_refusal.result lives at c.requires (c.transmit_refusal.ensures x.pool n)
