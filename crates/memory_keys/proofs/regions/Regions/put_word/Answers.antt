use Rattle.std.proofs.Common.{ap, ◌∙◌}
use Rattle.rdma_types.specs.Memory.{word_bytes}
use Rattle.memory_keys.specs.Regions.{regions_of, stored_at}
use Rattle.memory_keys.proofs.regions.Regions.put_word.Goals as goal

pub returns-clause-regions : goal.returns-clause-regions
unfolding word_bytes
returns-clause-regions c = c.store.ensures.regions ∙ ap (λ b. stored_at c.args.spot b (regions_of c.args.pool.now c.args.self.now)) c.to_be_bytes.ensures
