-- What holds between a responder, the unused receives of its end and the regions of its context.
use Rattle.std.specs.Prelude.{ℕ, ◌≡◌, ◌+◌, ◌<◌, ◌≤◌, ◌++◌, true, List, All, Some}
use Rattle.rdma_types.specs.Limits.{most_bytes}
use Rattle.rdma_types.specs.Memory.{LocalWrite, RemoteWrite, allows, is_granted, local_key}
use Rattle.rdma_types.specs.declared.names.Name.{Name}
use Rattle.rdma_types.specs.declared.requests.Receive.{Receive}
use Rattle.page_pool.specs.Pool.{Pool}
use Rattle.memory_keys.specs.declared.RegisteredRegion.{RegisteredRegion}
use Rattle.memory_keys.specs.Regions.{held_at, regions_of}
use Rattle.protocol.specs.EndWords.{in_use_by}
use Rattle.protocol.specs.Lawful.{is_whole_pieces}
use Rattle.protocol.specs.State.{Progress, NoMessage, InSend, InWrite}
use Rattle.responder.specs.Receiving.{Receiving}

-- a receive's length is in range, and its place is granted to its end's domain, whatever bytes lie there
pub record IsPlace (held : List RegisteredRegion) (domain : Name) (r : Receive) : Type 0 where
  pub few : r.length ≤ most_bytes
  pub granted : (pool : Pool) → is_granted local_key (regions_of pool held) domain r.lkey r.local r.length LocalWrite ≡ true

-- a SEND in progress: whole pieces of it are done, and they fit its receive
pub record IsSend (mtu done : ℕ) (r : Receive) : Type 0 where
  pub pieces : is_whole_pieces mtu done ≡ true
  pub fits : done ≤ r.length

-- a WRITE in progress: whole pieces of it are done and some are not, and a region of the end's domain that a remote end
-- may write holds its whole range
pub record IsWrite (held : List RegisteredRegion) (domain : Name) (mtu region off count done : ℕ) : Type 0 where
  pub written : RegisteredRegion
  pub there : held_at region held ≡ Some written
  pub same_domain : written.head.domain ≡ domain
  pub right : allows written.head.rights RemoteWrite ≡ true
  pub inside : off + count ≤ written.head.length
  pub few : count ≤ most_bytes
  pub pieces : is_whole_pieces mtu done ≡ true
  pub unfinished : done < count

-- the message in progress, if there is one
abbrev pub IsUnderWay : List RegisteredRegion → Name → ℕ → Progress → Type 0
IsUnderWay held domain mtu NoMessage = Unit {0}
IsUnderWay held domain mtu (InSend done receive) = IsSend mtu done receive
IsUnderWay held domain mtu (InWrite region off count done) = IsWrite held domain mtu region off count done

-- the receive in use and the unused ones have their places, and the message in progress has its own
pub record IsSound (held : List RegisteredRegion) (domain : Name) (v : Receiving) (unused : List Receive) : Type 0 where
  pub receives : All (IsPlace held domain) (in_use_by v.receiver.progress ++ unused)
  pub message : IsUnderWay held domain v.terms.mtu v.receiver.progress
