use Rattle.std.proofs.Common.{arith}
use Rattle.std.proofs.lemmas.Grind.{common_steps}
use Rattle.rdma_types.specs.Memory.{word_of}
use Rattle.memory_keys.proofs.regions.Regions.fetch_word.Goals as goal

pub returns : goal.returns
unfolding word_of
returns c = grind (arith, common_steps, c.load.ensures, c.from_be_bytes.ensures)
