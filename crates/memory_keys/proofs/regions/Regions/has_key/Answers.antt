use Rattle.std.proofs.Common.{◌≡◌, ℕ, List, [], ◌∷◌, ◌∙◌, refl, ap}
use Rattle.std.specs.Prelude.{◌==◌, ◌||◌}
use Rattle.std.specs.List.{list_any}
use Rattle.rdma_types.specs.Lists.{some}
use Rattle.page_pool.specs.Pool.{Pool}
use Rattle.memory_keys.specs.declared.RegisteredRegion.{RegisteredRegion}
use Rattle.memory_keys.specs.Regions.{regions_of}
use Rattle.memory_keys.proofs.regions.Regions.has_key.Goals as goal

some-has : (pool : Pool) (key : ℕ) (hs : List RegisteredRegion) → list_any (λ h. h.head.keys.local == key || h.head.keys.remote == key) hs ≡ some (λ r. r.keys.local == key || r.keys.remote == key) (regions_of pool hs)
unfolding some
some-has pool key [] = refl
some-has pool key (x ∷ xs) = ap (λ b. (x.head.keys.local == key || x.head.keys.remote == key) || b) (some-has pool key xs)

pub returns : goal.returns
returns c = λ pool. c.finds_key.ensures ∙ some-has pool c.args.key c.args.self.now
