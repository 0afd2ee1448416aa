use Rattle.std.proofs.Common.{◌≡◌, ◌∙◌, sym, ap, subst, true, false}
use Rattle.std.specs.Prelude.{is_some}
use Rattle.std.specs.Option.{option_copied}
use Rattle.std.specs.Str.{bytes_eq}
use Rattle.std.specs.Map.{lookup}
use Rattle.protocol.specs.Refusals.{has_context}
use Rattle.protocol.specs.State.{context_at}
use Rattle.context_core.specs.Context.{context_in}
use Rattle.device_core.proofs.Contexts.{found-there, lookup-found, lookup-there}
use Rattle.device_core.proofs.LiveEnds.{sends-held}
use Rattle.law_devices.specs.Sound.{IsSoundDevice}
use Rattle.device_core.proofs.Seen.{seen, small-view, unseen, unseen-nowhere}
use Rattle.device_core.proofs.Stepping.{found-ref}
use Rattle.device_core.proofs.device.Device.view_at.Goals as goal

pub returns-in_default-clause-view : goal.returns-in_default-clause-view
returns-in_default-clause-view c =
    let x = c.self.inside in
    let n = c.args.context in
    let gone : has_context c.args.self.now n ≡ false = ap (λ k. has_context k n) (sym c.self.view_is) ∙ (sym (found-there x.pool n x.contexts.entries) ∙ ap is_some (sym c.get.ensures.value ∙ ap option_copied c.in_default.is)) in
    unseen-nowhere c.args.self.now n c.args.i gone

pub end_at-requires : goal.end_at-requires
end_at-requires c = let x = c.self.inside in sends-held x.pool c.args.context x.contexts.entries c.get.result c.in-Some.held c.self.invariant.each c.in-Some.is c.get.ensures.value

pub returns-in_default-end_at-clause-view : goal.returns-in_default-end_at-clause-view
returns-in_default-end_at-clause-view c =
    let x = c.self.inside in
    let n = c.args.context in
    let s = c.in-Some.held.now in
    let found = found-ref c.get.result c.in-Some.held (lookup (bytes_eq n) x.contexts.entries) c.in-Some.is c.get.ensures.value in
    let lives : has_context c.args.self.now n ≡ true = ap (λ k. has_context k n) (sym c.self.view_is) ∙ lookup-there x.pool n x.contexts.entries s found in
    let at : context_at c.args.self.now n ≡ context_in x.pool n s = ap (λ k. context_at k n) (sym c.self.view_is) ∙ lookup-found x.pool n x.contexts.entries s found in
    unseen c.args.self.now n c.args.i (context_in x.pool n s) c.end_at.result at (c.end_at.ensures x.pool) c.in_default-end_at.is

pub returns-clause-view : goal.returns-clause-view
returns-clause-view c =
    let x = c.self.inside in
    let n = c.args.context in
    let s = c.in-Some.held.now in
    let found = found-ref c.get.result c.in-Some.held (lookup (bytes_eq n) x.contexts.entries) c.in-Some.is c.get.ensures.value in
    let lives : has_context c.args.self.now n ≡ true = ap (λ k. has_context k n) (sym c.self.view_is) ∙ lookup-there x.pool n x.contexts.entries s found in
    let at : context_at c.args.self.now n ≡ context_in x.pool n s = ap (λ k. context_at k n) (sym c.self.view_is) ∙ lookup-found x.pool n x.contexts.entries s found in
    seen c.args.self.now n c.args.i (context_in x.pool n s) c.end_at.result c.in-Some-end_at.end c.view_of.result at (c.end_at.ensures x.pool) c.in-Some-end_at.is c.view_of.ensures

pub returns-clause-number : goal.returns-clause-number
returns-clause-number c =
    let x = c.self.inside in
    let n = c.args.context in
    let s = c.in-Some.held.now in
    let found = found-ref c.get.result c.in-Some.held (lookup (bytes_eq n) x.contexts.entries) c.in-Some.is c.get.ensures.value in
    let lives : has_context c.args.self.now n ≡ true = ap (λ k. has_context k n) (sym c.self.view_is) ∙ lookup-there x.pool n x.contexts.entries s found in
    let at : context_at c.args.self.now n ≡ context_in x.pool n s = ap (λ k. context_at k n) (sym c.self.view_is) ∙ lookup-found x.pool n x.contexts.entries s found in
    small-view c.args.self.now n c.args.i c.view_of.result (subst IsSoundDevice c.self.view_is c.self.invariant.sound) lives
    (seen c.args.self.now n c.args.i (context_in x.pool n s) c.end_at.result c.in-Some-end_at.end c.view_of.result at (c.end_at.ensures x.pool) c.in-Some-end_at.is c.view_of.ensures)
