-- An image and what is left are those of the context.
use Rattle.std.proofs.Common.{◌≡◌, ◌∙◌, sym, ap, Some, subst}
use Rattle.std.specs.Prelude.{is_some}
use Rattle.std.specs.Str.{bytes_eq}
use Rattle.std.specs.Map.{lookup}
use Rattle.protocol.specs.DeviceStep.{husk_of}
use Rattle.protocol.specs.Images.{image_of}
use Rattle.protocol.specs.Refusals.{has_context}
use Rattle.protocol.specs.State.{Context, context_at}
use Rattle.context_core.specs.Context.{context_in}
use Rattle.context_core.specs.Fits.{FitsImage}
use Rattle.device_core.proofs.Contexts.{found-there, lookup-found, lookup-there}
use Rattle.device_core.proofs.Helds.{is-context}
use Rattle.device_core.specs.Parts.{device_of}
use Rattle.device_core.proofs.Departures.{fits-image, some-ref}
use Rattle.device_core.proofs.LiveEnds.{sends-held}
use Rattle.device_core.proofs.Stepping.{found-ref}
use Rattle.device_core.proofs.device.Device.parting.Goals as goal

pub unwrap-state-requires : goal.unwrap-state-requires
unwrap-state-requires c = some-ref c.get.result (ap is_some c.get.ensures.value ∙ (found-there c.self.inside.pool c.args.name c.self.inside.contexts.entries ∙ (ap (λ k. has_context k c.args.name) c.self.view_is ∙ c.requires)))

pub image-requires-clause-is : goal.image-requires-clause-is
image-requires-clause-is c = is-context c.self.inside.id c.self.inside.address c.self.inside.qp_count c.self.inside.key_count c.self.inside.pool c.self.inside.contexts.entries c.self.inside.husks.entries _ c.self.invariant c.args.name c.unwrap-state.result.now (found-ref c.get.result c.unwrap-state.result (lookup (bytes_eq c.args.name) c.self.inside.contexts.entries) c.unwrap-state.ensures c.get.ensures.value)

pub image-requires-clause-fits : goal.image-requires-clause-fits
image-requires-clause-fits c =
    let x = c.self.inside in
    let n = c.args.name in
    let s = c.unwrap-state.result.now in
    let found : lookup (bytes_eq n) x.contexts.entries ≡ Some s = found-ref c.get.result c.unwrap-state.result (lookup (bytes_eq n) x.contexts.entries) c.unwrap-state.ensures c.get.ensures.value in
    subst FitsImage (lookup-found x.pool n x.contexts.entries s found) (fits-image (device_of x.id x.address x.qp_count x.key_count x.pool x.contexts.entries x.husks.entries) n c.self.invariant.sound (lookup-there x.pool n x.contexts.entries s found))

pub entries_left-requires : goal.entries_left-requires
entries_left-requires c = let x = c.self.inside in sends-held x.pool c.args.name x.contexts.entries c.get.result c.unwrap-state.result c.self.invariant.each c.unwrap-state.ensures c.get.ensures.value

pub returns-clause-image : goal.returns-clause-image
returns-clause-image c =
    let x = c.self.inside in
    let n = c.args.name in
    let s = c.unwrap-state.result.now in
    let found : lookup (bytes_eq n) x.contexts.entries ≡ Some s = found-ref c.get.result c.unwrap-state.result (lookup (bytes_eq n) x.contexts.entries) c.unwrap-state.ensures c.get.ensures.value in
    let at : context_at c.args.self.now n ≡ context_in x.pool n s = ap (λ k. context_at k n) (sym c.self.view_is) ∙ lookup-found x.pool n x.contexts.entries s found in
    c.in_ok-image.ensures ∙ ap image_of (sym at)

pub returns-clause-entries : goal.returns-clause-entries
returns-clause-entries c =
    let x = c.self.inside in
    let n = c.args.name in
    let s = c.unwrap-state.result.now in
    let found : lookup (bytes_eq n) x.contexts.entries ≡ Some s = found-ref c.get.result c.unwrap-state.result (lookup (bytes_eq n) x.contexts.entries) c.unwrap-state.ensures c.get.ensures.value in
    let at : context_at c.args.self.now n ≡ context_in x.pool n s = ap (λ k. context_at k n) (sym c.self.view_is) ∙ lookup-found x.pool n x.contexts.entries s found in
    c.in_ok-entries.ensures x.pool ∙ ap (λ (k : Context). (husk_of k).entries) (sym at)
