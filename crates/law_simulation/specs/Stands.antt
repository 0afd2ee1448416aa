-- The refinement relation: which states of the packetless machine a world stands for.
use Rattle.std.specs.Prelude.{◌≡◌, ℕ, suc, ◌+◌, ◌/◌, ◌%◌, ◌^◌, ◌<◌, ◌≤◌, List, map, flat_map, slice_get, Contains, All, true, bytes_eq, Some, ◌==◌, false}
use Rattle.std.specs.List.{count_by}
use Rattle.rdma_types.specs.declared.names.Name.{Name}
use Rattle.rdma_types.specs.declared.names.ObjName.{ObjName}
use Rattle.rdma_types.specs.declared.requests.Address.{Address}
use Rattle.rdma_types.specs.Kinds.{kind_of, size_of}
use Rattle.rdma_types.specs.Limits.{most_depth}
use Rattle.rdma_types.specs.Lists.{has_word}
use Rattle.rdma_types.specs.Memory.{LocalWrite, is_granted, landing_right, local_key}
use Rattle.rdma_types.specs.Objects.{IsWhole, Region}
use Rattle.protocol.specs.State as state
use Rattle.protocol.specs.State.{World, Device, Flight, HuskEntry, device_at}
use Rattle.protocol.specs.WorldStep.{same_address}
use Rattle.packetless_machine.specs.Machine as machine
use Rattle.packetless_machine.specs.Machine.{Machine, new_end}
use Rattle.packetless_machine.specs.Steps.{untold, receives_of}
use Rattle.packetless_machine.specs.Sound.{IsSound}
use Rattle.law_simulation.specs.Views.{Net, net_of, requests_of, numbered_ends, peer, owned, owned_there, contexts_of, context_of}
use Rattle.law_simulation.specs.Joined.{IsJoined, IsProgress}
use Rattle.law_simulation.specs.Facts.{Fact, HuskFact}

-- ---- where contexts are

-- the names of the contexts of a world, of those of the machine, the devices' ids and addresses, and the husks' names
pub record ArePlaced (names made : List Name) (ids : List ℕ) (addresses : List Address) (husks : List Name) : Type 0 where
  -- a context lives on one device, or is carried in one image
  pub once : (c : Name) → count_by (λ n. bytes_eq n c) names ≤ 1
  -- the machine has these contexts
  pub same : (c : Name) → has_word c names ≡ has_word c made
  -- a husk has the name of a context that was made
  pub husks_made : All (λ h. has_word h made ≡ true) husks
  -- devices differ in their ids, and in their addresses
  pub ids_once : (k : ℕ) → count_by (λ x. x == k) ids ≤ 1
  pub addresses_once : (a : Address) → count_by (λ x. same_address x a) addresses ≤ 1
  -- ids and addresses can be said
  pub ids_said : All (λ k. k < 256) ids
  pub addresses_said : All (λ a. (a.ip < 2 ^ 32) × (a.port < 2 ^ 16)) addresses

-- the names of a world's contexts
abbrev pub names_of : World → List Name
names_of w = map (λ x. x.name) (contexts_of w)

-- the husks of a world
abbrev pub husks_of : World → List state.Husk
husks_of w = flat_map (λ d. d.husks) w.devices

-- those of this world and this machine
abbrev pub IsPlaced : World → Machine → Type 0
IsPlaced w m = ArePlaced (names_of w) (map (λ x. x.name) m.contexts) (map (λ d. d.id) w.devices) (map (λ d. d.address) w.devices) (map (λ h. h.name) (husks_of w))

-- ---- numbers and keys

-- the counts of the device with an id, and the queue pair numbers and local keys that the machine gave
pub record AreCounted (qp_count key_count : ℕ → ℕ) (numbers keys : List ℕ) : Type 0 where
  -- a number has 24 bits
  pub numbers_said : All (λ n. n < 2 ^ 24) numbers
  -- a number is one that the device has used whose id it has
  pub numbers_used : All (λ n. n % 65536 ≤ qp_count (n / 65536)) numbers
  -- and so is a key
  pub keys_used : All (λ k. (k % 16777216) / 2 ≤ key_count (k / 16777216)) keys

-- those of this world and this machine
abbrev pub IsCounted : World → Machine → Type 0
IsCounted w m = AreCounted (λ k. (device_at w k).qp_count) (λ k. (device_at w k).key_count) m.numbers m.keys

-- the numbers of the machine's ends, each beside its name, and the numbers that it gave
pub record AreNumbered (n : Net) (numbered : List (ℕ × ObjName)) (numbers : List ℕ) : Type 0 where
  -- an end's number was given
  pub given : All (λ x. Contains numbers x.0) numbered
  -- and names that end alone
  pub named : (o : ObjName) → n.there o ≡ true → n.name (n.end o).number ≡ o

-- ---- a context on both sides

-- what an application holds is equal
pub record AreSame (x : state.Context) (y : machine.Context) : Type 0 where
  pub domains : x.domains ≡ y.domains
  pub regions : x.regions ≡ y.regions
  pub queues : x.queues ≡ y.queues
  pub ends : map owned_there x.ends ≡ map owned y.ends

-- an end of the machine, in a context with these regions and with queues of these names
pub record IsEndSound (regions : List Region) (queues : List Name) (e : machine.End) : Type 0 where
  -- its counts and lists agree
  pub sound : IsSound e
  -- where it is not connected, it is as it was made, but for its receives
  pub made : e.connected ≡ false → requests_of e ≡ new_end e.peer e.number e.domain e.send_queue e.receive_queue e.send_depth e.receive_depth
  -- few requests are untold at a time
  pub depth : e.send_depth ≤ most_depth
  -- its queues are there
  pub send_queue : has_word e.send_queue queues ≡ true
  pub receive_queue : has_word e.receive_queue queues ≡ true
  -- the local places of its untold requests and of its receives are granted: no region is dropped that they name
  pub requests : All (λ r. is_granted local_key regions e.domain r.request.lkey r.request.local (size_of r) (landing_right (kind_of r)) ≡ true) (untold e)
  pub receives : All (λ v. is_granted local_key regions e.domain v.lkey v.local v.length LocalWrite ≡ true) (receives_of e)

-- a context of the machine, which has given these local keys
pub record IsContextSound (keys : List ℕ) (y : machine.Context) : Type 0 where
  -- a region has as many bytes as its length, and they are bytes
  pub whole : All IsWhole y.regions
  pub bytes : All (λ r. All (λ b. b < 256) r.bytes) y.regions
  -- its local key was given and is even, and its remote key is the next number
  pub keyed : All (λ r. Contains keys r.keys.local × (r.keys.local % 2 ≡ 0) × (r.keys.remote ≡ suc r.keys.local)) y.regions
  -- a key names one region
  pub keyed_once : (k : ℕ) → count_by (λ r. r.keys.local == k) y.regions ≤ 1
  -- a name is that of one end
  pub named_once : (n : Name) → count_by (λ e. bytes_eq e.name n) y.ends ≤ 1
  -- its ends are sound
  pub ends : All (IsEndSound y.regions (map (λ q. q.name) y.queues)) y.ends
  -- each region, and each end, lies in a domain that is there
  pub regions_in : All (λ r. has_word r.domain y.domains ≡ true) y.regions
  pub ends_in : All (λ e. has_word e.domain y.domains ≡ true) y.ends
  -- no region goes past the last address
  pub regions_end : All (λ r. r.base + r.length ≤ 2 ^ 64) y.regions

-- ---- the whole

-- the message in progress at the peer of a connected end, where that is in Rts; `regions` are those of a context
abbrev pub AreProgressing : Net → (Name → List Region) → Type 0
AreProgressing n regions =
    (o : ObjName) → (n.side o).connected ≡ true → (n.side (peer n o)).rts ≡ true →
    IsProgress (n.end o) (n.end (peer n o)).domain (regions (peer n o).context) (n.side (peer n o)).link.receiver.progress

-- the facts of all connected ends
abbrev pub AreJoined : Net → Type 0
AreJoined n = (o : ObjName) → (n.side o).connected ≡ true → IsJoined o (n.side o) (n.side (peer n o)) (n.end o) (n.end (peer n o))

-- the facts of all entries of husks
abbrev pub AreLeft : Net → List HuskEntry → Type 0
AreLeft n entries = (h : HuskEntry) → Contains entries h → HuskFact n h

-- the facts of all datagrams
abbrev pub AreSent : Net → List Flight → Type 0
AreSent n sent = (k : ℕ) (f : Flight) → slice_get sent k ≡ Some f → Fact n f

-- the world w stands for the machine's state m
pub record Stands (w : World) (m : Machine) : Type 0 where
  -- each context lives on one device, or is carried in one image, and the machine has it
  pub placed : IsPlaced w m
  -- numbers and keys given are numbers and keys used
  pub counted : IsCounted w m
  -- domains, regions, completion queues with their entries, and what an owner has of its ends, are equal
  pub same : (c : Name) → AreSame (context_of w c) (machine.context_of m c)
  -- each context of the machine is sound
  pub sound : (c : Name) → IsContextSound m.keys (machine.context_of m c)
  -- a queue pair number names one end
  pub numbered : AreNumbered (net_of w m) (numbered_ends m) m.numbers
  -- requester, responder and moves of each connected end
  pub joined : AreJoined (net_of w m)
  -- each message in progress
  pub progress : AreProgressing (net_of w m) (machine.regions_of m)
  -- what stays true of each entry of a husk
  pub husks : AreLeft (net_of w m) (flat_map (λ h. h.entries) (husks_of w))
  -- what stays true of each datagram that was ever sent
  pub sent : AreSent (net_of w m) w.sent
