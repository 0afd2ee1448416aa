-- What a link and a clock hold, as their traits tell it.
use Rattle.std.specs.Prelude.{ℕ, ◌-◌, ◌≡◌, ◌≤◌, List, [], ◌∷◌, ◌++◌, drop, take, Option, None, Some}
use Rattle.rdma_types.specs.declared.requests.Address.{Address}
use Rattle.host_ports.specs.declared.link.Got.{Got}
use Rattle.host_ports.specs.declared.link.Got.TheVariants.{Datagram, Nothing}
use Rattle.host_ports.specs.Memory.{counted}

-- bytes with the address that they come from or go to
abbrev pub Addressed : Type 0
Addressed = Address × List ℕ

-- bytes of a datagram at most
abbrev pub longest_datagram : ℕ
longest_datagram = 4200

-- ---- a link

-- the first of what waits
abbrev pub first_waiting : List Addressed → Option Addressed
first_waiting [] = None
first_waiting (d ∷ ds) = Some d

-- that is what a link gives: the first of what waits, which it takes away, or nothing exactly where nothing waits; where that is told
abbrev pub TakesFirst : Option (List Addressed) → Option (List Addressed) → Option Addressed → Type 0
TakesFirst None new got = new ≡ None
TakesFirst (Some waiting) new got = (got ≡ first_waiting waiting) × (new ≡ Some (drop 1 waiting))

-- a datagram was put behind those that were sent, where that is told
abbrev pub SendsOne : Option (List Addressed) → Option (List Addressed) → Addressed → Type 0
SendsOne None new d = new ≡ None
SendsOne (Some sent) new d = new ≡ Some (sent ++ d ∷ [])

-- what a call gave, whose bytes lie at the start of `out`
abbrev pub got_of : Got → List ℕ → Option Addressed
got_of (Datagram from size) out = Some (from, take size out)
got_of Nothing out = None

-- the bytes of what a call gave fit in that many places
abbrev pub FitsIn : ℕ → Got → Type 0
FitsIn room (Datagram from size) = size ≤ room
FitsIn room Nothing = Unit {0}

-- ---- a clock

-- the first number to come, and 0 where none is
abbrev pub first_tick : List ℕ → ℕ
first_tick [] = 0
first_tick (t ∷ ts) = t

-- that is what a clock answers: the first number to come, which it takes away, where that is told
abbrev pub TellsMoment : Option (List ℕ) → Option (List ℕ) → ℕ → Type 0
TellsMoment None new moment = new ≡ None
TellsMoment (Some to_come) new moment = (moment ≡ first_tick to_come) × (new ≡ Some (drop 1 to_come))

-- ---- a link in memory

-- what waits and was sent, how many more datagrams it has room for, the numbers of the calls that fail, and how many calls there were and faults
pub record LinkState : Type 0 where
  pub waiting : List Addressed
  pub sent : List Addressed
  pub room : ℕ
  pub fails : List ℕ
  pub calls : ℕ
  pub faults : ℕ

-- a link after a call that failed: the call and the fault are counted
abbrev pub link_failed : LinkState → LinkState
link_failed s = record s { calls = counted s.calls; faults = counted s.faults }

-- a link after a call that did not fail
abbrev pub link_called : LinkState → LinkState
link_called s = record s { calls = counted s.calls }

-- a link after a datagram was sent over it
abbrev pub link_sent : LinkState → Addressed → LinkState
link_sent s d = record s { sent = s.sent ++ d ∷ []; room = s.room - 1; calls = counted s.calls }

-- a link after the first of what waits was taken, or nothing was
abbrev pub link_taken : LinkState → LinkState
link_taken s = record s { waiting = drop 1 s.waiting; calls = counted s.calls }
