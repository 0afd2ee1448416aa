-- What one device over a link asks of the outside, call after call: each call with what follows each of its answers (this
-- project's choice).
use Rattle.std.specs.Prelude.{ℕ, ◌≡◌, List, [], ◌∷◌, Option}
use Rattle.host_ports.specs.Links.{Addressed}
use Rattle.protocol.specs.declared.dumps.DumpWhy.{DumpWhy}
use Rattle.rdma_types.specs.declared.names.Name.{Name}
use Rattle.rdma_types.specs.declared.requests.Address.{Address}
use Rattle.script_lang.specs.declared.lines.Offence.{Offence}

-- how a script ends where no call fails and memory does not run out
pub data Ending : Type 0 where
  AllAnswered : Ending
  BadLine : (number : ℕ) → (offence : Offence) → Ending  -- that line, counted from 1, is in no form
  BadDump : (place : ℕ) → (why : DumpWhy) → Ending  -- the bytes under the name are no dump
  Missing : (name : Name) → Ending  -- the depot holds nothing under the name

-- the calls to come
pub data Plan : Type 0 where
  Ends : (ending : Ending) → Plan
  Starts : (own : Address) → (more : Plan) → Plan  -- the link is started at that address
  Takes : (more : Option Addressed → Plan) → Plan  -- a datagram is taken from the link, or nothing waits
  Sends : (datagram : Addressed) → (more : Plan) → Plan  -- a datagram is sent over the link
  Asks : (more : ℕ → Plan) → Plan  -- the clock is asked
  Puts : (name : Name) → (bytes : List ℕ) → (more : Plan) → Plan  -- bytes are put in the depot
  Looks : (name : Name) → (more : Option (List ℕ) → Plan) → Plan  -- what the depot holds under the name is looked at
  Removes : (name : Name) → (more : Option (List ℕ) → Plan) → Plan  -- it is taken out of the depot
  Writes : (text : List ℕ) → (more : Plan) → Plan  -- an answer is written whole

-- a call that was made, with its answer
pub data Call : Type 0 where
  Started : (own : Address) → Call
  Took : (got : Option Addressed) → Call
  Sent : (datagram : Addressed) → Call
  Asked : (moment : ℕ) → Call
  Put : (name : Name) → (bytes : List ℕ) → Call
  Looked : (name : Name) → (found : Option (List ℕ)) → Call
  Removed : (name : Name) → (found : Option (List ℕ)) → Call
  Wrote : (text : List ℕ) → Call

-- the plan's next call is this one, and with its answer that plan is left
abbrev pub IsNext : Plan → Call → Plan → Type 0
IsNext (Starts own more) (Started at) left = (at ≡ own) × (left ≡ more)
IsNext (Takes more) (Took got) left = left ≡ more got
IsNext (Sends datagram more) (Sent d) left = (d ≡ datagram) × (left ≡ more)
IsNext (Asks more) (Asked moment) left = left ≡ more moment
IsNext (Puts name bytes more) (Put n bs) left = (n ≡ name) × (bs ≡ bytes) × (left ≡ more)
IsNext (Looks name more) (Looked n found) left = (n ≡ name) × (left ≡ more found)
IsNext (Removes name more) (Removed n found) left = (n ≡ name) × (left ≡ more found)
IsNext (Writes text more) (Wrote t) left = (t ≡ text) × (left ≡ more)
IsNext plan call left = ⊥

-- these calls were made in the plan's order, and that plan is left
abbrev pub Leads : Plan → List Call → Plan → Type 0
Leads plan [] left = plan ≡ left
Leads plan (call ∷ calls) left = (next : Plan) × IsNext plan call next × Leads next calls left
