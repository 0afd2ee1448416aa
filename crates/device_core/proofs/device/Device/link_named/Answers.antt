use Rattle.std.proofs.Common.{◌≡◌, ◌∙◌, sym, ap, subst, false}
use Rattle.std.specs.Prelude.{is_some, option_map}
use Rattle.std.specs.Option.{option_copied}
use Rattle.std.specs.Str.{bytes_eq}
use Rattle.std.specs.Map.{lookup}
use Rattle.protocol.specs.Refusals.{has_context}
use Rattle.protocol.specs.State.{Context, context_at, end_at}
use Rattle.context_core.specs.Context.{context_in}
use Rattle.context_core.specs.Links.{link_view}
use Rattle.law_devices.specs.Sound.{IsSoundDevice}
use Rattle.device_core.proofs.Contexts.{found-there, lookup-found}
use Rattle.device_core.proofs.LiveEnds.{link-few, link-nowhere, sends-held}
use Rattle.device_core.proofs.Stepping.{found-ref}
use Rattle.device_core.proofs.device.Device.link_named.Goals as goal

pub link_named-requires : goal.link_named-requires
link_named-requires c = let x = c.self.inside in sends-held x.pool c.args.end.now.context x.contexts.entries c.get.result c.in-Some.held c.self.invariant.each c.in-Some.is c.get.ensures.value

pub returns-in-None-clause-link : goal.returns-in-None-clause-link
returns-in-None-clause-link c =
    let x = c.self.inside in
    let n = c.args.end.now.context in
    let gone : has_context c.args.self.now n ≡ false = ap (λ k. has_context k n) (sym c.self.view_is) ∙ (sym (found-there x.pool n x.contexts.entries) ∙ ap is_some (sym c.get.ensures.value ∙ ap option_copied c.in-None.is)) in
    link-nowhere c.args.self.now c.args.end.now gone

pub returns-in-Some-clause-link : goal.returns-in-Some-clause-link
returns-in-Some-clause-link c =
    let x = c.self.inside in
    let o = c.args.end.now in
    let s = c.in-Some.held.now in
    let found = found-ref c.get.result c.in-Some.held (lookup (bytes_eq o.context) x.contexts.entries) c.in-Some.is c.get.ensures.value in
    let at : context_at c.args.self.now o.context ≡ context_in x.pool o.context s = ap (λ k. context_at k o.context) (sym c.self.view_is) ∙ lookup-found x.pool o.context x.contexts.entries s found in
    c.link_named.ensures x.pool o.context ∙ ap (λ (k : Context). option_map link_view (end_at k o.name).link) (sym at)

pub returns-in-Some-clause-bounded : goal.returns-in-Some-clause-bounded
returns-in-Some-clause-bounded c =
    let x = c.self.inside in
    let o = c.args.end.now in
    let s = c.in-Some.held.now in
    let found = found-ref c.get.result c.in-Some.held (lookup (bytes_eq o.context) x.contexts.entries) c.in-Some.is c.get.ensures.value in
    let at : context_at c.args.self.now o.context ≡ context_in x.pool o.context s = ap (λ k. context_at k o.context) (sym c.self.view_is) ∙ lookup-found x.pool o.context x.contexts.entries s found in
    link-few c.args.self.now o c.link_named.result (subst IsSoundDevice c.self.view_is c.self.invariant.sound)
    (c.link_named.ensures x.pool o.context ∙ ap (λ (k : Context). option_map link_view (end_at k o.name).link) (sym at))
