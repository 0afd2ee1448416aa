use Rattle.std.proofs.Common.{◌≡◌, ◌++◌, ◌∷◌, [], ◌∙◌, arith, ap, length, subst}
use Rattle.std.specs.Prelude.{OnOk}
use Rattle.rdma_types.specs.Memory.{put}
use Rattle.rdma_types.proofs.Cuts.{put-none}
use Rattle.memory_keys.specs.Regions.{blank_region, regions_of}
use Rattle.memory_keys.proofs.regions.Regions.register.Goals as goal

pub add-requires-clause-inside : goal.add-requires-clause-inside
add-requires-clause-inside c = omega (arith, ap length c.make.ensures)

pub returns-clause-regions : goal.returns-clause-regions
returns-clause-regions c = subst (λ bs. OnOk c.add-2.result (regions_of c.add-2.new.pool c.add-2.new.self ≡ regions_of c.args.pool.now c.args.self.now ++ record (blank_region c.args.head) { bytes = bs } ∷ [])) (ap (put (blank_region c.args.head).bytes 0) c.make.ensures ∙ put-none (blank_region c.args.head).bytes 0) c.add-2.ensures.regions
