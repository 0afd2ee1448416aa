-- What an application holds: memory regions, completion queues, posted requests. The protocol's rules and the
-- packetless machine speak of the same things.
use Rattle.std.specs.Prelude.{ℕ, ◌≡◌, List, [], length, None, false}
use Rattle.rdma_types.specs.declared.names.Name.{Name}
use Rattle.rdma_types.specs.declared.requests.Address.{Address}
use Rattle.rdma_types.specs.declared.requests.Completion.{Completion}
use Rattle.rdma_types.specs.declared.requests.Keys.{Keys}
use Rattle.rdma_types.specs.declared.requests.Kind.TheVariants as kind
use Rattle.rdma_types.specs.declared.requests.Receive.{Receive}
use Rattle.rdma_types.specs.declared.requests.Request.{Request}
use Rattle.rdma_types.specs.declared.rights.Rights.{Rights}

-- a memory region (IBA chapter 10, memory management)
pub record Region : Type 0 where
  pub name : Name
  pub domain : Name  -- its protection domain
  pub base : ℕ  -- the address of its first byte
  pub length : ℕ
  pub rights : Rights
  pub keys : Keys
  pub bytes : List ℕ

-- a region has as many bytes as its length
abbrev pub IsWhole : Region → Type 0
IsWhole r = length r.bytes ≡ r.length

-- a completion queue (IBA chapter 10)
pub record CompletionQueue : Type 0 where
  pub name : Name
  pub capacity : ℕ
  pub entries : List Completion  -- the oldest first

-- a request, and the bytes of a Write or Send as they were when it was posted (this project's choice: inline data)
pub record Posted : Type 0 where
  pub request : Request
  pub payload : List ℕ

-- ---- what stands where nothing is found

-- no address
abbrev pub no_address : Address
no_address = record { ip = 0; port = 0 }

-- no keys
abbrev pub no_keys : Keys
no_keys = record { local = 0; remote = 0 }

-- no region
abbrev pub no_region : Region
no_region = record { name = []; domain = []; base = 0; length = 0; rights = record { 0 = 0 }; keys = no_keys; bytes = [] }

-- no completion queue
abbrev pub no_queue : CompletionQueue
no_queue = record { name = []; capacity = 0; entries = [] }

-- no receive
abbrev pub no_receive : Receive
no_receive = record { id = 0; lkey = 0; local = 0; length = 0 }

-- no request
abbrev pub no_posted : Posted
no_posted = record {
  request = record {
    id = 0;
    shape = record { kind = kind.Write; length = 0; remote = 0; rkey = 0; imm = None; swap_add = 0; compare = 0 };
    lkey = 0;
    local = 0;
    signaled = false;
    fence = false;
  };
  payload = [];
}
