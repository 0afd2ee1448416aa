use Rattle.std.proofs.Common.{◌≡◌, ◌∙◌, sym, ap, true, false}
use Rattle.std.specs.Prelude.{is_some}
use Rattle.std.specs.Option.{option_copied}
use Rattle.std.specs.Str.{bytes_eq}
use Rattle.std.specs.Map.{lookup}
use Rattle.protocol.specs.Refusals.{has_context}
use Rattle.protocol.specs.State.{context_at}
use Rattle.context_core.specs.Context.{context_in}
use Rattle.device_core.proofs.Contexts.{found-there, lookup-found, lookup-there}
use Rattle.device_core.proofs.Seen.{named-gone, named-none, named-some}
use Rattle.device_core.proofs.Stepping.{found-ref}
use Rattle.device_core.proofs.device.Device.end_named.Goals as goal

pub returns-in_default-clause-view : goal.returns-in_default-clause-view
returns-in_default-clause-view c =
    let x = c.self.inside in
    let n = c.args.end.now.context in
    let gone : has_context c.args.self.now n ≡ false = ap (λ k. has_context k n) (sym c.self.view_is) ∙ (sym (found-there x.pool n x.contexts.entries) ∙ ap is_some (sym c.get.ensures.value ∙ ap option_copied c.in_default.is)) in
    named-gone c.args.self.now c.args.end.now gone

pub returns-in_default-place_of_end-clause-view : goal.returns-in_default-place_of_end-clause-view
returns-in_default-place_of_end-clause-view c =
    let x = c.self.inside in
    let n = c.args.end.now.context in
    let s = c.in-Some.held.now in
    let found = found-ref c.get.result c.in-Some.held (lookup (bytes_eq n) x.contexts.entries) c.in-Some.is c.get.ensures.value in
    let lives : has_context c.args.self.now n ≡ true = ap (λ k. has_context k n) (sym c.self.view_is) ∙ lookup-there x.pool n x.contexts.entries s found in
    let at : context_at c.args.self.now n ≡ context_in x.pool n s = ap (λ k. context_at k n) (sym c.self.view_is) ∙ lookup-found x.pool n x.contexts.entries s found in
    named-none c.args.self.now c.args.end.now (context_in x.pool n s) lives at (sym (c.place_of_end.ensures x.pool n) ∙ c.in_default-place_of_end.is)

pub returns-clause-view : goal.returns-clause-view
returns-clause-view c =
    let x = c.self.inside in
    let n = c.args.end.now.context in
    let s = c.in-Some.held.now in
    let found = found-ref c.get.result c.in-Some.held (lookup (bytes_eq n) x.contexts.entries) c.in-Some.is c.get.ensures.value in
    let lives : has_context c.args.self.now n ≡ true = ap (λ k. has_context k n) (sym c.self.view_is) ∙ lookup-there x.pool n x.contexts.entries s found in
    let at : context_at c.args.self.now n ≡ context_in x.pool n s = ap (λ k. context_at k n) (sym c.self.view_is) ∙ lookup-found x.pool n x.contexts.entries s found in
    c.view_at.ensures.view ∙ named-some c.args.self.now c.args.end.now (context_in x.pool n s) c.in-Some-place_of_end.place lives at (sym (c.place_of_end.ensures x.pool n) ∙ c.in-Some-place_of_end.is)
