use Rattle.std.proofs.Common.{rules, ◌≡◌, [], ◌∷◌, ◌++◌, ap, sym, ◌∙◌, refl}
use Rattle.std.specs.Prelude.{◌==◌, Option, Some, None, option_map}
use Rattle.rdma_types.specs.Lists.{first_that}
use Rattle.memory_keys.specs.declared.RegisteredRegion.{RegisteredRegion}
use Rattle.memory_keys.specs.Regions.{blank_region, held_at, region_of, regions_of}
use Rattle.page_pool.specs.Pool.{Pool}
use Rattle.memory_keys.specs.declared.RegionHead.{RegionHead}
use Rattle.test_devices.proofs.memory.tests.memory.Goals as goal

-- what stands alone under another key
alone : (h : RegionHead) → h.keys ≡ record { local = 2; remote = 3 } → first_that (λ r. r.keys.local == 4) (blank_region h ∷ []) ≡ None
unfolding first_that
alone h e = rw e refl

none : (pool : Pool) (o : Option RegisteredRegion) → option_map (region_of pool) o ≡ None → o ≡ None
none pool None e = refl
none pool (Some h) e = absurd (cc)

pub register-requires-clause-held : goal.register-requires-clause-held
register-requires-clause-held c = c.make-regions.ensures.held c.in_ok-pool.pool

pub register-requires-clause-new : goal.register-requires-clause-new
unfolding first_that
register-requires-clause-new c = ap (held_at c.in_ok-first.first.keys.local) c.make-regions.ensures.empty

pub returns-clause-other : goal.returns-clause-other
returns-clause-other c =
    let regions = c.in_ok-register.ensures.regions ∙ ap (λ hs. regions_of c.in_ok-pool.pool hs ++ blank_region c.in_ok-first.first ∷ []) c.make-regions.ensures.empty in
    let keys : c.in_ok-first.first.keys ≡ record { local = 2; remote = 3 } = search rules in
    none c.register.new.pool (held_at 4 c.register.new.self)
    (sym (c.regions_stay_whatever_their_bytes.ensures.under c.register.new.pool c.register.new.self 4)
    ∙ (ap (first_that (λ r. r.keys.local == 4)) regions ∙ alone c.in_ok-first.first keys))
