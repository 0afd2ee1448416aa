-- A device as the protocol knows it, from the parts that it is held in.
use Rattle.std.specs.Prelude.{ℕ, List, map}
use Rattle.rdma_types.specs.declared.names.Name.{Name}
use Rattle.rdma_types.specs.declared.requests.Address.{Address}
use Rattle.page_pool.specs.Pool.{Pool}
use Rattle.protocol.specs.State as state
use Rattle.context_core.specs.Context.{Holding, context_in}
use Rattle.device_core.specs.declared.husks.HuskEntry.{HuskEntry}

-- an entry of a husk
abbrev pub entry_of : HuskEntry → state.HuskEntry
entry_of h = record { number = h.number; peer = h.peer; moves = h.moves }

-- a husk
abbrev pub husk_in : Name × List HuskEntry → state.Husk
husk_in h = record { name = h.0; entries = map entry_of h.1 }

-- a context
abbrev pub held_in : Pool → Name × Holding → state.Context
held_in pool e = context_in pool e.0 e.1

-- the contexts, whose bytes lie in a pool
abbrev pub contexts_in : Pool → List (Name × Holding) → List state.Context
contexts_in pool es = map (held_in pool) es

-- a device
abbrev pub device_of : ℕ → Address → ℕ → ℕ → Pool → List (Name × Holding) → List (Name × List HuskEntry) → state.Device
device_of id address qp_count key_count pool contexts husks = record {
  id = id;
  address = address;
  qp_count = qp_count;
  key_count = key_count;
  contexts = contexts_in pool contexts;
  husks = map husk_in husks;
}
