use Rattle.std.proofs.Common.{◌≡◌, ap, sym, ◌∙◌, subst, refl}
use Rattle.std.specs.Prelude.{false, true, map, ◌+◌}
use Rattle.std.proofs.lemmas.Result.{on_ok_weaker}
use Rattle.rdma_types.specs.Lists.{has_name, some}
use Rattle.page_pool.specs.Pool.{free_pages, pages_for}
use Rattle.memory_keys.specs.Causes.{region_named}
use Rattle.memory_keys.specs.Regions.{IsRemoved, regions_of}
use Rattle.protocol.specs.Refusals.{names_key}
use Rattle.context_core.specs.Context.{IsContext, context_in, end_of}
use Rattle.context_core.proofs.AddedObjects.{numbers-in}
use Rattle.context_core.proofs.RegionChanges.{re-is, re-moves}
use Rattle.context_core.proofs.RegisteredRegions.{all-ok, drop-absent, drop-told, dropped-is, drops-free, are-fit, removed-is, removed-key}
use Rattle.context_core.proofs.state.ContextState.drop_region.Goals as goal

pub is_named-requires : goal.is_named-requires
is_named-requires c = are-fit c.args.pool.now (record { domains = c.self.inside.domains.keys; regions = c.self.inside.regions; queues = c.self.inside.queues.entries; ends = c.self.inside.ends.entries }) (subst (IsContext c.args.pool.now) (sym c.self.view_is) c.requires.is)

pub returns-in_default-clause-refused : goal.returns-in_default-clause-refused
unfolding context_in
returns-in_default-clause-refused c = rw (← c.self.view_is) (λ n. sym (drop-absent c.args.pool.now c.self.inside.regions (context_in c.args.pool.now n (record { domains = c.self.inside.domains.keys; regions = c.self.inside.regions; queues = c.self.inside.queues.entries; ends = c.self.inside.ends.entries })) c.args.name refl (sym (c.in_default.ensures.there c.args.pool.now))))

pub returns-then-is_named-clause-refused : goal.returns-then-is_named-clause-refused
unfolding context_in
returns-then-is_named-clause-refused c = rw (← c.self.view_is) (λ n. sym (drop-told c.args.pool.now c.self.inside.regions (context_in c.args.pool.now n (record { domains = c.self.inside.domains.keys; regions = c.self.inside.regions; queues = c.self.inside.queues.entries; ends = c.self.inside.ends.entries })) c.args.name c.in-Some.head refl (sym (c.in-Some.ensures.there c.args.pool.now)) c.in-Some.ensures.named true (sym (c.is_named.ensures c.args.pool.now c.self.inside.queues.entries) ∙ c.if-is_named.true)))

pub returns-clause-refused : goal.returns-clause-refused
unfolding context_in
returns-clause-refused c = rw (← c.self.view_is) (λ n.
    (c.deregister.ensures.refused ∙ drops-free c.args.pool.now c.self.inside.regions c.args.name (sym (c.in-Some.ensures.there c.args.pool.now)))
    ∙ sym (drop-told c.args.pool.now c.self.inside.regions (context_in c.args.pool.now n (record { domains = c.self.inside.domains.keys; regions = c.self.inside.regions; queues = c.self.inside.queues.entries; ends = c.self.inside.ends.entries })) c.args.name c.in-Some.head refl (sym (c.in-Some.ensures.there c.args.pool.now)) c.in-Some.ensures.named false (sym (c.is_named.ensures c.args.pool.now c.self.inside.queues.entries) ∙ c.if-is_named.false)))

pub returns-clause-is : goal.returns-clause-is
returns-clause-is c =
    let there : has_name (λ r. r.name) c.args.name (regions_of c.args.pool.now c.self.inside.regions) ≡ true = sym (c.in-Some.ensures.there c.args.pool.now) in
    let none = c.deregister.ensures.refused ∙ drops-free c.args.pool.now c.self.inside.regions c.args.name there in
    let removed = all-ok c.deregister.result (IsRemoved c.self.inside.regions c.deregister.new.self c.args.name) none c.deregister.ensures.removed in
    let free = all-ok c.deregister.result (free_pages c.deregister.new.pool ≡ free_pages c.args.pool.now + pages_for (region_named c.args.name (regions_of c.args.pool.now c.self.inside.regions)).length) none c.deregister.ensures.free in
    let unnamed : some (names_key removed.held.head.keys.local) (map (end_of c.args.pool.now c.self.inside.queues.entries) c.self.inside.ends.entries) ≡ false = ap (λ k. some (names_key k) (map (end_of c.args.pool.now c.self.inside.queues.entries) c.self.inside.ends.entries)) (removed-key c.args.pool.now (record { domains = c.self.inside.domains.keys; regions = c.self.inside.regions; queues = c.self.inside.queues.entries; ends = c.self.inside.ends.entries }) c.deregister.new.self c.args.name c.in-Some.head removed c.in-Some.ensures.named) ∙ (sym (c.is_named.ensures c.args.pool.now c.self.inside.queues.entries) ∙ c.if-is_named.false) in
    let re = removed-is c.args.pool.now c.deregister.new.pool (record { domains = c.self.inside.domains.keys; regions = c.self.inside.regions; queues = c.self.inside.queues.entries; ends = c.self.inside.ends.entries }) c.deregister.new.self c.args.name (subst (IsContext c.args.pool.now) (sym c.self.view_is) c.requires.is) removed c.deregister.ensures.others c.deregister.ensures.held free unnamed in
    re-is re

pub returns-clause-moves : goal.returns-clause-moves
returns-clause-moves c =
    let there : has_name (λ r. r.name) c.args.name (regions_of c.args.pool.now c.self.inside.regions) ≡ true = sym (c.in-Some.ensures.there c.args.pool.now) in
    let none = c.deregister.ensures.refused ∙ drops-free c.args.pool.now c.self.inside.regions c.args.name there in
    let removed = all-ok c.deregister.result (IsRemoved c.self.inside.regions c.deregister.new.self c.args.name) none c.deregister.ensures.removed in
    let free = all-ok c.deregister.result (free_pages c.deregister.new.pool ≡ free_pages c.args.pool.now + pages_for (region_named c.args.name (regions_of c.args.pool.now c.self.inside.regions)).length) none c.deregister.ensures.free in
    let unnamed : some (names_key removed.held.head.keys.local) (map (end_of c.args.pool.now c.self.inside.queues.entries) c.self.inside.ends.entries) ≡ false = ap (λ k. some (names_key k) (map (end_of c.args.pool.now c.self.inside.queues.entries) c.self.inside.ends.entries)) (removed-key c.args.pool.now (record { domains = c.self.inside.domains.keys; regions = c.self.inside.regions; queues = c.self.inside.queues.entries; ends = c.self.inside.ends.entries }) c.deregister.new.self c.args.name c.in-Some.head removed c.in-Some.ensures.named) ∙ (sym (c.is_named.ensures c.args.pool.now c.self.inside.queues.entries) ∙ c.if-is_named.false) in
    let re = removed-is c.args.pool.now c.deregister.new.pool (record { domains = c.self.inside.domains.keys; regions = c.self.inside.regions; queues = c.self.inside.queues.entries; ends = c.self.inside.ends.entries }) c.deregister.new.self c.args.name (subst (IsContext c.args.pool.now) (sym c.self.view_is) c.requires.is) removed c.deregister.ensures.others c.deregister.ensures.held free unnamed in
    rw (← c.self.view_is) (re-moves re)

pub returns-clause-dropped : goal.returns-clause-dropped
returns-clause-dropped c =
    let there : has_name (λ r. r.name) c.args.name (regions_of c.args.pool.now c.self.inside.regions) ≡ true = sym (c.in-Some.ensures.there c.args.pool.now) in
    let none = c.deregister.ensures.refused ∙ drops-free c.args.pool.now c.self.inside.regions c.args.name there in
    let removed = all-ok c.deregister.result (IsRemoved c.self.inside.regions c.deregister.new.self c.args.name) none c.deregister.ensures.removed in
    let free = all-ok c.deregister.result (free_pages c.deregister.new.pool ≡ free_pages c.args.pool.now + pages_for (region_named c.args.name (regions_of c.args.pool.now c.self.inside.regions)).length) none c.deregister.ensures.free in
    let unnamed : some (names_key removed.held.head.keys.local) (map (end_of c.args.pool.now c.self.inside.queues.entries) c.self.inside.ends.entries) ≡ false = ap (λ k. some (names_key k) (map (end_of c.args.pool.now c.self.inside.queues.entries) c.self.inside.ends.entries)) (removed-key c.args.pool.now (record { domains = c.self.inside.domains.keys; regions = c.self.inside.regions; queues = c.self.inside.queues.entries; ends = c.self.inside.ends.entries }) c.deregister.new.self c.args.name c.in-Some.head removed c.in-Some.ensures.named) ∙ (sym (c.is_named.ensures c.args.pool.now c.self.inside.queues.entries) ∙ c.if-is_named.false) in
    let re = removed-is c.args.pool.now c.deregister.new.pool (record { domains = c.self.inside.domains.keys; regions = c.self.inside.regions; queues = c.self.inside.queues.entries; ends = c.self.inside.ends.entries }) c.deregister.new.self c.args.name (subst (IsContext c.args.pool.now) (sym c.self.view_is) c.requires.is) removed c.deregister.ensures.others c.deregister.ensures.held free unnamed in
    rw (← c.self.view_is) (λ n d. on_ok_weaker c.deregister.result (λ less. dropped-is n d c.args.name re less) c.deregister.ensures.regions)

pub returns-clause-numbers : goal.returns-clause-numbers
returns-clause-numbers c = rw (← c.self.view_is) (λ n. numbers-in c.deregister.new.pool n (record { domains = c.self.inside.domains.keys; regions = c.deregister.new.self; queues = c.self.inside.queues.entries; ends = c.self.inside.ends.entries }) ∙ sym (numbers-in c.args.pool.now n (record { domains = c.self.inside.domains.keys; regions = c.self.inside.regions; queues = c.self.inside.queues.entries; ends = c.self.inside.ends.entries })))
