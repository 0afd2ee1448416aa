use Rattle.std.proofs.Common.{◌≡◌, [], sym, ◌∙◌, subst, refl}
use Rattle.std.specs.Prelude.{IfSome, false, ◌+◌}
use Rattle.rdma_types.specs.Lists.{has}
use Rattle.rdma_types.specs.Memory.{local_key}
use Rattle.memory_keys.specs.Regions.{regions_of}
use Rattle.context_core.specs.Asked.{IsAsked}
use Rattle.context_core.specs.Context.{Holding, IsContext, context_in}
use Rattle.context_core.proofs.AddedObjects.{numbers-in}
use Rattle.context_core.proofs.RegionChanges.{re-is, re-moves}
use Rattle.context_core.proofs.RegisteredRegions.{added-is, causes-of, has-none, made-is, told-memory, told-refusal}
use Rattle.context_core.proofs.state.ContextState.make_region.Goals as goal

pub returns-in_err-head-clause-refused : goal.returns-in_err-head-clause-refused
unfolding context_in
returns-in_err-head-clause-refused c = rw (← c.self.view_is) (λ n d free keys.
    told-refusal c.from_residual.result c.in_err-head.field-0.0 c.from_residual.ensures.1
    ∙ sym (c.in_err-head.ensures.refused c.args.pool.now (context_in c.args.pool.now n (record { domains = c.self.inside.domains.keys; regions = c.self.inside.regions; queues = c.self.inside.queues.entries; ends = c.self.inside.ends.entries })) d refl refl keys))

pub register-requires-clause-new : goal.register-requires-clause-new
unfolding context_in
register-requires-clause-new c =
    let own = subst (λ o. IfSome o (λ k. has local_key k.local (context_in c.args.pool.now [] c.args.self.now).regions ≡ false)) c.in_ok-head.ensures.asked.keys (c.requires.own []) in
    has-none c.args.pool.now c.in_ok-head.head.keys.local c.self.inside.regions (subst {A = Holding} (λ h. has local_key c.in_ok-head.head.keys.local (regions_of c.args.pool.now h.regions) ≡ false) (sym c.self.view_is) own)

pub returns-in_err-register-clause-refused : goal.returns-in_err-register-clause-refused
unfolding context_in
returns-in_err-register-clause-refused c = rw (← c.self.view_is) (λ n d free keys.
    told-memory c.from_residual-in_err-register.result c.in_err-register.field-0.0 c.from_residual-in_err-register.ensures.1
    ∙ (c.in_err-register.ensures.refused
    ∙ causes-of c.args.pool.now c.self.inside.regions (context_in c.args.pool.now n (record { domains = c.self.inside.domains.keys; regions = c.self.inside.regions; queues = c.self.inside.queues.entries; ends = c.self.inside.ends.entries })) d c.args.new.now c.args.keys c.in_ok-head.head refl c.in_ok-head.ensures.there c.in_ok-head.ensures.asked free keys))

pub returns-clause-refused : goal.returns-clause-refused
unfolding context_in
returns-clause-refused c = rw (← c.self.view_is) (λ n d free keys.
    c.in_ok-register.ensures.refused
    ∙ causes-of c.args.pool.now c.self.inside.regions (context_in c.args.pool.now n (record { domains = c.self.inside.domains.keys; regions = c.self.inside.regions; queues = c.self.inside.queues.entries; ends = c.self.inside.ends.entries })) d c.args.new.now c.args.keys c.in_ok-head.head refl c.in_ok-head.ensures.there c.in_ok-head.ensures.asked free keys)

pub returns-clause-is : goal.returns-clause-is
unfolding context_in
returns-clause-is c =
    let own = subst (λ o. IfSome o (λ k. has local_key k.local (context_in c.args.pool.now [] c.args.self.now).regions ≡ false)) c.in_ok-head.ensures.asked.keys (c.requires.own []) in
    let none = has-none c.args.pool.now c.in_ok-head.head.keys.local c.self.inside.regions (subst {A = Holding} (λ h. has local_key c.in_ok-head.head.keys.local (regions_of c.args.pool.now h.regions) ≡ false) (sym c.self.view_is) own) in
    let pair = subst (λ o. IfSome o (λ k. k.remote ≡ k.local + 1)) c.in_ok-head.ensures.asked.keys c.requires.pair in
    let re = added-is c.args.pool.now c.register.new.pool (record { domains = c.self.inside.domains.keys; regions = c.self.inside.regions; queues = c.self.inside.queues.entries; ends = c.self.inside.ends.entries }) c.register.new.self c.in_ok-head.head (subst (IsContext c.args.pool.now) (sym c.self.view_is) c.requires.is) c.in_ok-register.ensures.added c.in_ok-register.ensures.others c.in_ok-register.ensures.held c.in_ok-register.ensures.free none pair in
    re-is re

pub returns-clause-moves : goal.returns-clause-moves
unfolding context_in
returns-clause-moves c =
    let own = subst (λ o. IfSome o (λ k. has local_key k.local (context_in c.args.pool.now [] c.args.self.now).regions ≡ false)) c.in_ok-head.ensures.asked.keys (c.requires.own []) in
    let none = has-none c.args.pool.now c.in_ok-head.head.keys.local c.self.inside.regions (subst {A = Holding} (λ h. has local_key c.in_ok-head.head.keys.local (regions_of c.args.pool.now h.regions) ≡ false) (sym c.self.view_is) own) in
    let pair = subst (λ o. IfSome o (λ k. k.remote ≡ k.local + 1)) c.in_ok-head.ensures.asked.keys c.requires.pair in
    let re = added-is c.args.pool.now c.register.new.pool (record { domains = c.self.inside.domains.keys; regions = c.self.inside.regions; queues = c.self.inside.queues.entries; ends = c.self.inside.ends.entries }) c.register.new.self c.in_ok-head.head (subst (IsContext c.args.pool.now) (sym c.self.view_is) c.requires.is) c.in_ok-register.ensures.added c.in_ok-register.ensures.others c.in_ok-register.ensures.held c.in_ok-register.ensures.free none pair in
    rw (← c.self.view_is) (re-moves re)

pub returns-clause-made : goal.returns-clause-made
unfolding context_in
returns-clause-made c =
    let own = subst (λ o. IfSome o (λ k. has local_key k.local (context_in c.args.pool.now [] c.args.self.now).regions ≡ false)) c.in_ok-head.ensures.asked.keys (c.requires.own []) in
    let none = has-none c.args.pool.now c.in_ok-head.head.keys.local c.self.inside.regions (subst {A = Holding} (λ h. has local_key c.in_ok-head.head.keys.local (regions_of c.args.pool.now h.regions) ≡ false) (sym c.self.view_is) own) in
    let pair = subst (λ o. IfSome o (λ k. k.remote ≡ k.local + 1)) c.in_ok-head.ensures.asked.keys c.requires.pair in
    let re = added-is c.args.pool.now c.register.new.pool (record { domains = c.self.inside.domains.keys; regions = c.self.inside.regions; queues = c.self.inside.queues.entries; ends = c.self.inside.ends.entries }) c.register.new.self c.in_ok-head.head (subst (IsContext c.args.pool.now) (sym c.self.view_is) c.requires.is) c.in_ok-register.ensures.added c.in_ok-register.ensures.others c.in_ok-register.ensures.held c.in_ok-register.ensures.free none pair in
    rw (← c.self.view_is) (λ n d keys. made-is n d c.args.new.now c.in_ok-head.head re (subst (λ o. IsAsked c.args.new.now o c.in_ok-head.head) keys c.in_ok-head.ensures.asked) c.in_ok-register.ensures.regions)

pub returns-clause-numbers : goal.returns-clause-numbers
returns-clause-numbers c = rw (← c.self.view_is) (λ n. numbers-in c.register.new.pool n (record { domains = c.self.inside.domains.keys; regions = c.register.new.self; queues = c.self.inside.queues.entries; ends = c.self.inside.ends.entries }) ∙ sym (numbers-in c.args.pool.now n (record { domains = c.self.inside.domains.keys; regions = c.self.inside.regions; queues = c.self.inside.queues.entries; ends = c.self.inside.ends.entries })))
