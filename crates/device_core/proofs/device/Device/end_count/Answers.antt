use Rattle.std.proofs.Common.{◌≡◌, ◌∙◌, sym, ap, false, length}
use Rattle.std.specs.Prelude.{is_some}
use Rattle.std.specs.Option.{option_copied}
use Rattle.std.specs.Str.{bytes_eq}
use Rattle.std.specs.Map.{lookup}
use Rattle.protocol.specs.Refusals.{has_context}
use Rattle.protocol.specs.State.{Context, context_at, no_context}
use Rattle.device_core.proofs.Contexts.{found-there, lookup-found}
use Rattle.device_core.proofs.Stepping.{found-ref}
use Rattle.device_core.proofs.Withouts.{named-absent}
use Rattle.device_core.proofs.device.Device.end_count.Goals as goal

pub returns-in-Some : goal.returns-in-Some
returns-in-Some c =
    let x = c.self.inside in
    let n = c.args.context in
    let found = found-ref c.get.result c.in-Some.held (lookup (bytes_eq n) x.contexts.entries) c.in-Some.is c.get.ensures.value in
    c.end_count.ensures x.pool n ∙ ap (λ (k : Context). length k.ends) (sym (ap (λ k. context_at k n) (sym c.self.view_is) ∙ lookup-found x.pool n x.contexts.entries c.in-Some.held.now found))

pub returns-in-None : goal.returns-in-None
returns-in-None c =
    let x = c.self.inside in
    let n = c.args.context in
    let gone : has_context c.args.self.now n ≡ false = ap (λ k. has_context k n) (sym c.self.view_is) ∙ (sym (found-there x.pool n x.contexts.entries) ∙ ap is_some (sym c.get.ensures.value ∙ ap option_copied c.in-None.is)) in
    ap (λ (k : Context). length k.ends) (sym (named-absent (λ (k : Context). k.name) no_context n c.args.self.now.contexts gone))
