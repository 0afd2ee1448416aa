-- A region that is asked for.
use Rattle.std.specs.Prelude.{◌≡◌, Option, Some}
use Rattle.rdma_types.specs.declared.requests.Keys.{Keys}
use Rattle.memory_keys.specs.declared.RegionHead.{RegionHead}
use Rattle.context_core.specs.declared.regions.NewRegion.{NewRegion}

-- what is told of it, where its domain is there and there are keys for it
pub record IsAsked (new : NewRegion) (given : Option Keys) (told : RegionHead) : Type 0 where
  pub keys : given ≡ Some told.keys
  pub domain : new.domain ≡ Some told.domain
  pub head : told ≡ record { name = new.name; domain = told.domain; base = new.base; length = new.length; rights = new.rights; keys = told.keys }
