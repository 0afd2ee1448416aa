-- Bytes in memory, and what may be done with them: places, keys, rights and grants (IBA chapter 10, memory management).
use Rattle.std.specs.Prelude.{ℕ, ◌+◌, ◌/◌, ◌%◌, ◌≡◌, ◌≤◌, ◌==◌, ◌||◌, ◌&&◌, Bool, true, List, ◌++◌, length, take, drop, Option, is_some, nat_le, if◌then◌else◌, slice_get, Some, bytes_eq}
use Rattle.std.specs.Int.{w64, to_be_bytes, from_be_bytes}
use Rattle.rdma_types.specs.declared.names.Name.{Name}
use Rattle.rdma_types.specs.declared.requests.Kind.{Kind}
use Rattle.rdma_types.specs.declared.rights.Rights.{Rights}
use Rattle.rdma_types.specs.Kinds.{lands}
use Rattle.rdma_types.specs.Lists.{first_that}
use Rattle.rdma_types.specs.Objects.{Region}

-- ---- bytes

-- that many bytes from a place on
unfoldable pub cut : ℕ → ℕ → List ℕ → List ℕ
cut place count bytes = take count (drop place bytes)

-- the bytes with others from a place on
unfoldable pub put : List ℕ → ℕ → List ℕ → List ℕ
put bytes place new = take place bytes ++ (new ++ drop (place + length new) bytes)

-- the number that the eight bytes of a word spell (this project's choice: big-endian)
unfoldable pub word_of : List ℕ → ℕ
word_of bytes = from_be_bytes w64 bytes

-- the eight bytes of a word
unfoldable pub word_bytes : ℕ → List ℕ
word_bytes n = to_be_bytes w64 n

-- ---- rights

-- what a place must give
pub data Right : Type 0 where
  NoRight : Right
  LocalWrite : Right
  RemoteWrite : Right
  RemoteRead : Right
  RemoteAtomic : Right

-- a set of rights holds one: bits 0 to 3
unfoldable pub allows : Rights → Right → Bool
allows r NoRight = true
allows r LocalWrite = r.0 % 2 == 1
allows r RemoteWrite = (r.0 / 2) % 2 == 1
allows r RemoteRead = (r.0 / 4) % 2 == 1
allows r RemoteAtomic = (r.0 / 8) % 2 == 1

-- the set that holds a right alone
abbrev pub set_of : Right → ℕ
set_of NoRight = 0
set_of LocalWrite = 1
set_of RemoteWrite = 2
set_of RemoteRead = 4
set_of RemoteAtomic = 8

-- what a request's local place must give: where bytes land, the right to write
abbrev pub landing_right : Kind → Right
landing_right k = if lands k then LocalWrite else NoRight

-- ---- grants

-- the local key of a region
abbrev pub local_key : Region → ℕ
local_key r = r.keys.local

-- the remote key of a region
abbrev pub remote_key : Region → ℕ
remote_key r = r.keys.remote

-- the region holds that many bytes from the address on, in whole numbers without wrapping
unfoldable pub holds : Region → ℕ → ℕ → Bool
holds r at count = nat_le r.base at && nat_le (at + count) (r.base + r.length)

-- a region of this domain with this key holds the whole range, and gives the right
pub record Grants (key_of : Region → ℕ) (domain : Name) (key at count : ℕ) (right : Right) (r : Region) : Type 0 where
  pub same_domain : r.domain ≡ domain
  pub same_key : key_of r ≡ key
  pub low : r.base ≤ at
  pub high : at + count ≤ r.base + r.length
  pub allowed : allows r.rights right ≡ true

-- the same as a test
unfoldable pub grants : (Region → ℕ) → Name → ℕ → ℕ → ℕ → Right → Region → Bool
grants key_of domain key at count right r = bytes_eq r.domain domain && ((key_of r == key) && (allows r.rights right && holds r at count))

-- the region that grants a place to a key
unfoldable pub granted : (Region → ℕ) → List Region → Name → ℕ → ℕ → ℕ → Right → Option Region
granted key_of regions domain key at count right = first_that (grants key_of domain key at count right) regions

-- a place is granted: it is empty, or some region grants it (this project's choice: a length of 0 checks no key)
unfoldable pub is_granted : (Region → ℕ) → List Region → Name → ℕ → ℕ → ℕ → Right → Bool
is_granted key_of regions domain key at count right = (count == 0) || is_some (granted key_of regions domain key at count right)

-- a place that is not empty is granted: the region that grants it
pub record IsGranted (key_of : Region → ℕ) (regions : List Region) (domain : Name) (key at count : ℕ) (right : Right) : Type 0 where
  pub i : ℕ
  pub region : Region
  pub there : slice_get regions i ≡ Some region
  pub grants : Grants key_of domain key at count right region
