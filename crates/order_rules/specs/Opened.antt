-- The opening devices, written out (this project's choice).
use Rattle.std.specs.Prelude.{ℕ, zero, suc, ◌+◌, List, [], ◌∷◌, replicate, Some, codes}
use Rattle.rdma_types.specs.declared.names.Name.{Name}
use Rattle.rdma_types.specs.declared.requests.Keys.{Keys}
use Rattle.rdma_types.specs.declared.requests.Terms.{Terms}
use Rattle.protocol.specs.State.{Context, Device, End, fresh_link}
use Rattle.protocol.specs.WorldStep.{exchanged}
use Rattle.order_rules.specs.Openings.{address_of, end_name, end_number_at, opening_terms}

-- the ends for that many workers from i on, of the device with that id, connected to those of another one
unfoldable pub ends_from : ℕ → ℕ → Terms → ℕ → ℕ → List End
ends_from id other terms i zero = []
ends_from id other terms i (suc n) =
    record {
      name = end_name i;
      number = end_number_at id i;
      domain = codes "p";
      send_cq = codes "c";
      recv_cq = codes "c";
      send_depth = 8;
      recv_depth = 1;
      unused = [];
      link = Some (fresh_link (end_number_at other i) (address_of other) terms);
    }
    ∷ ends_from id other terms (i + 1) n

-- a context with a domain, a region of zeros, an empty completion queue and these ends
abbrev pub opened_context : Name → Name → ℕ → Keys → List End → Context
opened_context name region base keys ends = record {
  name = name;
  domains = codes "p" ∷ [];
  regions = record { name = region; domain = codes "p"; base = base; length = 64; rights = record { 0 = 15 }; keys = keys; bytes = replicate 64 0 } ∷ [];
  queues = record { name = codes "c"; capacity = 256; entries = [] } ∷ [];
  ends = ends;
}

-- the device with a context
abbrev pub opened_device : ℕ → ℕ → Context → Device
opened_device workers id c = record { id = id; address = address_of id; qp_count = workers; key_count = 1; contexts = c ∷ []; husks = [] }

-- the devices
abbrev pub written_openings : ℕ → List Device
written_openings workers =
    opened_device workers 1 (opened_context (codes "a") (codes "m") 4096 (record { local = 16777218; remote = 16777219 }) (ends_from 1 2 opening_terms 1 workers))
    ∷ opened_device workers 2 (opened_context (codes "b") (codes "n") 8192 (record { local = 33554434; remote = 33554435 }) (ends_from 2 1 (exchanged opening_terms) 1 workers))
    ∷ record { id = 3; address = address_of 3; qp_count = 0; key_count = 0; contexts = []; husks = [] }
    ∷ []
