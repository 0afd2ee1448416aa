-- The context that the event is for makes its step, or lives elsewhere.
use Rattle.std.proofs.Common.{arith, ◌≡◌, refl, subst, sym, Some}
use Rattle.std.specs.Prelude.{IfSome, IsSome}
use Rattle.std.specs.Str.{bytes_eq}
use Rattle.std.specs.Map.{lookup}
use Rattle.device_core.specs.Acting.{Acts}
use Rattle.device_core.proofs.Acting.{missing-causes}
use Rattle.device_core.proofs.Helds.{is-context}
use Rattle.device_core.proofs.Lookups.{gone-kept, held-kept, missing-kept, none-mut, same-kept}
use Rattle.device_core.proofs.Steps.{few-sent, named-is-neither, no-image}
use Rattle.device_core.proofs.Stepping.{acted, done-at, found-mut}
use Rattle.device_core.proofs.device.Device.act.Goals as goal

pub invariant_of-self : goal.invariant_of-self
invariant_of-self c = held-kept c.self.inside.id c.self.inside.address c.self.inside.qp_count c.self.inside.key_count c.self.inside.pool c.self.inside.contexts.entries c.get_mut.follows.lender-at-none.entries c.self.inside.husks.entries _ (λ i. (c.get_mut.follows.holds-at-none i).entries) c.self.invariant

pub missing-requires : goal.missing-requires
missing-requires c = gone-kept c.self.inside.id c.self.inside.address c.self.inside.qp_count c.self.inside.key_count c.self.inside.pool c.self.inside.contexts.entries c.get_mut.follows.lender-at-none.entries c.self.inside.husks.entries c.args.name (λ i. (c.get_mut.follows.holds-at-none i).entries) (none-mut c.get_mut.result (lookup (bytes_eq c.args.name) c.self.inside.contexts.entries) c.in_default.is c.get_mut.ensures.value)

pub returns-in_default-clause-done : goal.returns-in_default-clause-done
returns-in_default-clause-done c =
    let causes = missing-causes c.args.event.now c.args.name c.requires.named in
    missing-kept c.args.self.now _ c.args.event.now c.args.name (causes.0 c.args.self.now) c.missing.result (causes.1 c.args.self.now) (same-kept c.self.inside.id c.self.inside.address c.self.inside.qp_count c.self.inside.key_count c.self.inside.pool c.self.inside.contexts.entries c.get_mut.follows.lender-at-none.entries c.self.inside.husks.entries (λ i. (c.get_mut.follows.holds-at-none i).entries) _ c.self.view_is) (c.missing.ensures (causes.0 c.args.self.now))

pub act_in-requires-clause-is : goal.act_in-requires-clause-is
act_in-requires-clause-is c = is-context c.self.inside.id c.self.inside.address c.self.inside.qp_count c.self.inside.key_count c.self.inside.pool c.self.inside.contexts.entries c.self.inside.husks.entries _ c.self.invariant c.args.name c.in-Some.state.now (found-mut c.get_mut.result c.in-Some.state (lookup (bytes_eq c.args.name) c.self.inside.contexts.entries) c.in-Some.is c.get_mut.ensures.value)

pub act_in-requires-clause-named : goal.act_in-requires-clause-named
act_in-requires-clause-named c = subst IsSome (sym c.requires.named) refl

pub invariant_of-self-2 : goal.invariant_of-self-2
invariant_of-self-2 c =
    let x = c.self.inside in
    let n = c.args.name in
    let s = c.in-Some.state.now in
    let s' = c.act_in.new.state in
    let found : lookup (bytes_eq n) x.contexts.entries ≡ Some s = found-mut c.get_mut.result c.in-Some.state (lookup (bytes_eq n) x.contexts.entries) c.in-Some.is c.get_mut.ensures.value in
    let acts : Acts c.args.event.now x.pool c.act_in.new.pool s s' c.act_in.result n = subst (λ o. IfSome o (Acts c.args.event.now x.pool c.act_in.new.pool s s' c.act_in.result)) c.requires.named c.act_in.ensures.acts in
    (acted x.id x.address x.qp_count x.key_count x.pool x.contexts.entries x.husks.entries _ c.self.invariant n s found c.act_in.new.pool s' acts.turn (c.get_mut.follows.lender s').entries (c.get_mut.follows.holds s').0 x.qp_count x.key_count (omega arith)
    c.args.event.now c.act_in.result acts refl refl).held c.requires.lawful c.act_in.ensures.names

pub returns-clause-done : goal.returns-clause-done
returns-clause-done c =
    let x = c.self.inside in
    let n = c.args.name in
    let s = c.in-Some.state.now in
    let s' = c.act_in.new.state in
    let found : lookup (bytes_eq n) x.contexts.entries ≡ Some s = found-mut c.get_mut.result c.in-Some.state (lookup (bytes_eq n) x.contexts.entries) c.in-Some.is c.get_mut.ensures.value in
    let acts : Acts c.args.event.now x.pool c.act_in.new.pool s s' c.act_in.result n = subst (λ o. IfSome o (Acts c.args.event.now x.pool c.act_in.new.pool s s' c.act_in.result)) c.requires.named c.act_in.ensures.acts in
    done-at c.self.view_is (acted x.id x.address x.qp_count x.key_count x.pool x.contexts.entries x.husks.entries _ c.self.invariant n s found c.act_in.new.pool s' acts.turn (c.get_mut.follows.lender s').entries (c.get_mut.follows.holds s').0 x.qp_count x.key_count (omega arith)
    c.args.event.now c.act_in.result acts refl refl)

pub returns-clause-bounded : goal.returns-clause-bounded
returns-clause-bounded c = few-sent _ _ c.args.event.now _ (named-is-neither c.args.event.now c.args.name c.requires.named).0 (returns-clause-done c)

pub returns-clause-image : goal.returns-clause-image
returns-clause-image c = no-image _ _ c.args.event.now _ (named-is-neither c.args.event.now c.args.name c.requires.named).1 (returns-clause-done c)
