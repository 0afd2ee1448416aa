use Rattle.std.proofs.Common.{ap, sym, ◌∙◌}
use Rattle.std.specs.Prelude.{◌==◌, ◌||◌}
use Rattle.rdma_types.specs.Lists.{some}
use Rattle.memory_keys.specs.Regions.{regions_of}
use Rattle.context_core.specs.Context.{Holding, context_in, meets}
use Rattle.context_core.proofs.ListTests.{some-or}
use Rattle.context_core.proofs.state.ContextState.has_keys.Goals as goal

pub returns-then-has_key : goal.returns-then-has_key
unfolding context_in
returns-then-has_key c = λ pool n.
    let yes = sym (c.has_key.ensures pool) ∙ c.if-has_key.true in
    c.if-has_key.true
    ∙ (ap (λ b. b || some (λ r. r.keys.local == c.args.keys.remote || r.keys.remote == c.args.keys.remote) (regions_of pool c.self.inside.regions)) (sym yes)
    ∙ (some-or (λ r. r.keys.local == c.args.keys.local || r.keys.remote == c.args.keys.local) (λ r. r.keys.local == c.args.keys.remote || r.keys.remote == c.args.keys.remote) (regions_of pool c.self.inside.regions)
    ∙ ap {A = Holding} (λ h. some (meets c.args.keys) (regions_of pool h.regions)) c.self.view_is))

pub returns-else-has_key : goal.returns-else-has_key
unfolding context_in
returns-else-has_key c = λ pool n.
    let no = sym (c.has_key.ensures pool) ∙ c.if-has_key.false in
    c.has_key-else-has_key.ensures pool
    ∙ (ap (λ b. b || some (λ r. r.keys.local == c.args.keys.remote || r.keys.remote == c.args.keys.remote) (regions_of pool c.self.inside.regions)) (sym no)
    ∙ (some-or (λ r. r.keys.local == c.args.keys.local || r.keys.remote == c.args.keys.local) (λ r. r.keys.local == c.args.keys.remote || r.keys.remote == c.args.keys.remote) (regions_of pool c.self.inside.regions)
    ∙ ap {A = Holding} (λ h. some (meets c.args.keys) (regions_of pool h.regions)) c.self.view_is))
