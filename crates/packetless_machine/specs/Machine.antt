-- The state of the packetless machine: what a reliable connection of the InfiniBand Architecture Specification,
-- volume 1, gives its users, with no devices, packets, windows, timers, stopped states or addresses.
use Rattle.std.specs.Prelude.{ℕ, ◌+◌, ◌-◌, List, [], ◌∷◌, ◌++◌, length, get_or, Bool, false, ◌==◌, ◌&&◌, if◌then◌else◌, Option, Some, None, bytes_eq, sum_by}
use Rattle.rdma_types.specs.declared.names.Name.{Name}
use Rattle.rdma_types.specs.declared.names.ObjName.{ObjName}
use Rattle.rdma_types.specs.declared.requests.Receive.{Receive}
use Rattle.rdma_types.specs.declared.requests.Completion.{Completion}
use Rattle.rdma_types.specs.Lists.{has_name, named}
use Rattle.rdma_types.specs.Objects.{CompletionQueue, Posted, Region, no_posted, no_queue}
use Rattle.rdma_types.specs.Memory.{cut, put, holds}
use Rattle.packetless_machine.specs.declared.reply.Reply.{Reply}
use Rattle.packetless_machine.specs.Tables.{replaced}

-- bytes that the peer offered for a Read
pub record Offered : Type 0 where
  pub request : ℕ  -- the place of the Read in `posted`
  pub offset : ℕ
  pub bytes : List ℕ

-- one end of a connection, with all that it ever posted
pub record End : Type 0 where
  pub name : Name
  pub number : ℕ
  pub domain : Name
  pub send_queue : Name
  pub receive_queue : Name
  pub send_depth : ℕ
  pub receive_depth : ℕ
  pub connected : Bool
  pub peer : ObjName  -- itself where it is not connected
  pub mtu : ℕ  -- no step looks at it; readers count packets by it
  pub retry : ℕ
  pub rnr : ℕ
  pub posted : List Posted  -- all its requests ever posted while it had not ended
  pub told : ℕ  -- how many of them are finished for the owner
  pub known : ℕ  -- the bytes of the first untold one that the owner knows to be in place, or that landed
  pub acted : ℕ  -- how many have acted at the peer
  pub into : ℕ  -- the bytes of request number `acted` that are in place there
  pub answers : List Reply  -- for each acted request, and for one that was refused
  pub offers : List Offered
  pub dry : List ℕ  -- the requests that met no receive at their turn
  pub spent : ℕ  -- counted expiries of the first untold request
  pub waits : ℕ  -- counted receiver waits of it
  pub unused : List Receive
  pub in_use : Option Receive  -- that of a Send in progress towards this end
  pub ended : Bool

-- the objects of one application
pub record Context : Type 0 where
  pub name : Name
  pub domains : List Name
  pub regions : List Region
  pub queues : List CompletionQueue
  pub ends : List End

-- all contexts that were ever made
pub record Machine : Type 0 where
  pub contexts : List Context
  pub keys : List ℕ  -- the local keys that were ever given
  pub numbers : List ℕ  -- the queue pair numbers that were ever given

-- nothing was made
abbrev pub empty : Machine
empty = record { contexts = []; keys = []; numbers = [] }

-- ---- views, total by name

-- a context with nothing in it
abbrev pub no_context : Name → Context
no_context c = record { name = c; domains = []; regions = []; queues = []; ends = [] }

-- an end that was just made: not connected, and with no work
abbrev pub new_end : ObjName → ℕ → Name → Name → Name → ℕ → ℕ → End
new_end o number domain send_queue receive_queue send_depth receive_depth = record {
  name = o.name;
  number = number;
  domain = domain;
  send_queue = send_queue;
  receive_queue = receive_queue;
  send_depth = send_depth;
  receive_depth = receive_depth;
  connected = false;
  peer = o;
  mtu = 0;
  retry = 0;
  rnr = 0;
  posted = [];
  told = 0;
  known = 0;
  acted = 0;
  into = 0;
  answers = [];
  offers = [];
  dry = [];
  spent = 0;
  waits = 0;
  unused = [];
  in_use = None;
  ended = false;
}

-- no end
abbrev pub nobody : ObjName → End
nobody o = new_end o 0 [] [] [] 0 0

-- a context of that name was made
unfoldable pub has_context : Machine → Name → Bool
has_context m c = has_name (λ x. x.name) c m.contexts

-- the context of that name
unfoldable pub context_of : Machine → Name → Context
context_of m c = named (λ x. x.name) (no_context c) c m.contexts

-- there is an end of that name
unfoldable pub has_end : Machine → ObjName → Bool
has_end m o = has_name (λ e. e.name) o.name (context_of m o.context).ends

-- the end of that name
unfoldable pub end_of : Machine → ObjName → End
end_of m o = named (λ e. e.name) (nobody o) o.name (context_of m o.context).ends

-- the completion queue of that name in a context
unfoldable pub queue_of : Machine → Name → Name → CompletionQueue
queue_of m c q = named (λ x. x.name) no_queue q (context_of m c).queues

-- the regions of a context
abbrev pub regions_of : Machine → Name → List Region
regions_of m c = (context_of m c).regions

-- request number i of an end
abbrev pub posted_at : List Posted → ℕ → Posted
posted_at posted i = get_or posted i no_posted

-- ---- changes of what is there; where there is nothing of the name, nothing changes

-- the context of that name is x
unfoldable pub with_context : Machine → Name → Context → Machine
with_context m c x = record m { contexts = replaced (λ x. x.name) c x m.contexts }

-- the end of that name in a context is e
unfoldable pub with_end_in : Context → Name → End → Context
with_end_in c name e = record c { ends = replaced (λ e. e.name) name e c.ends }

-- the end of that name is e
unfoldable pub with_end : Machine → ObjName → End → Machine
with_end m o e = with_context m o.context (with_end_in (context_of m o.context) o.name e)

-- the end of that name, changed by f
abbrev pub in_end : Machine → ObjName → (End → End) → Machine
in_end m o f = with_end m o (f (end_of m o))

-- these are the regions of the context
unfoldable pub with_regions : Machine → Name → List Region → Machine
with_regions m c regions = with_context m c (record (context_of m c) { regions = regions })

-- these are the completion queues of the context
unfoldable pub with_queues : Machine → Name → List CompletionQueue → Machine
with_queues m c queues = with_context m c (record (context_of m c) { queues = queues })

-- the completion queue of that name in a context is x
unfoldable pub with_queue_in : Context → Name → CompletionQueue → Context
with_queue_in c q x = record c { queues = replaced (λ x. x.name) q x c.queues }

-- the completion queue of that name is x
unfoldable pub with_queue : Machine → Name → Name → CompletionQueue → Machine
with_queue m c q x = with_context m c (with_queue_in (context_of m c) q x)

-- a completion queue with more entries
abbrev pub longer : CompletionQueue → List Completion → CompletionQueue
longer x more = record x { entries = x.entries ++ more }

-- more entries in the queue of that name
unfoldable pub completed : Name → List Completion → List CompletionQueue → List CompletionQueue
completed q more queues = replaced (λ x. x.name) q (longer (named (λ x. x.name) no_queue q queues) more) queues

-- more entries in a queue of the machine
unfoldable pub completing : Machine → Name → Name → List Completion → Machine
completing m c q more = with_queue m c q (longer (queue_of m c q) more)

-- ---- places in memory

-- the region has that key, and holds that many bytes from the address on
abbrev pub is_at : (Region → ℕ) → ℕ → ℕ → ℕ → Region → Bool
is_at key_of key address count r = (key_of r == key) && holds r address count

-- bytes put at an address of the region with that key that holds them
unfoldable pub put_at : (Region → ℕ) → ℕ → ℕ → List ℕ → List Region → List Region
put_at key_of key address new [] = []
put_at key_of key address new (r ∷ rs) =
    if is_at key_of key address (length new) r
    then record r { bytes = put r.bytes (address - r.base) new } ∷ rs
    else r ∷ put_at key_of key address new rs

-- that many bytes from an address on of the region with that key that holds them
unfoldable pub bytes_at : (Region → ℕ) → ℕ → ℕ → ℕ → List Region → List ℕ
bytes_at key_of key address count [] = []
bytes_at key_of key address count (r ∷ rs) =
    if is_at key_of key address count r
    then cut (address - r.base) count r.bytes
    else bytes_at key_of key address count rs

-- ---- reservations: each untold request keeps an entry free in its send queue, and each receive one in its receive
-- queue

-- how many of its requests are not finished for the owner
unfoldable pub untold_count : End → ℕ
untold_count e = length e.posted - e.told

-- how many receives are in use
unfoldable pub used_count : Option Receive → ℕ
used_count None = 0
used_count (Some v) = 1

-- the entries of that queue that the work of an end reserves
unfoldable pub reserved_by : Name → End → ℕ
reserved_by q e =
    (if bytes_eq e.send_queue q then untold_count e else 0)
    + (if bytes_eq e.receive_queue q then used_count e.in_use + length e.unused else 0)

-- the entries of a queue that are reserved
unfoldable pub reserved : Context → Name → ℕ
reserved c q = sum_by (reserved_by q) c.ends
