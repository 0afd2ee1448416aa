-- No device and no image.
use Rattle.std.proofs.Common.{ap, rules}
use Rattle.std.specs.Prelude.{bytes_eq, nat_eq}
use Rattle.std.specs.List.{IsDistinct}
use Rattle.std.specs.Map.{lookup}
use Rattle.world_core.specs.Places.{port_eq}
use Rattle.world_core.proofs.Indexes.{indexed-none}
use Rattle.world_core.proofs.world.World.make.Goals as goal

pub invariant_of-result : goal.invariant_of-result
unfolding IsDistinct
invariant_of-result c = record {
  ids = search rules;
  lawful = search rules;
  indexed = indexed-none _ _ _ _ (search rules) (λ k. ap (lookup (nat_eq k)) c.new-2.ensures.empty) (λ a. ap (lookup (port_eq a)) c.new-3.ensures.empty) (λ n. ap (lookup (bytes_eq n)) c.new-4.ensures.empty);
}
