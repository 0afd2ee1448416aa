-- What the objects of the outside hold, where that is told, before and after calls (this project's choice).
use Rattle.std.specs.Prelude.{ℕ, ◌≡◌, List, [], ◌∷◌, Option, Some, None}
use Rattle.host_ports.specs.Depots.{Has, Holding, Sets}
use Rattle.host_ports.specs.Links.{Addressed, SendsOne, TakesFirst, TellsMoment}
use Rattle.host_ports.specs.Streams.{Puts as PutsText}
use Rattle.rdma_types.specs.declared.names.Name.{Name}
use Rattle.node_rules.specs.Outside.{Outside}
use Rattle.node_rules.specs.Plan.{Asked, Call, Leads, Looked, Plan, Put, Removed, Sent, Started, Took, Wrote}

-- how many faults each object counted
pub record Counts : Type 0 where
  pub link : ℕ
  pub depot : ℕ
  pub output : ℕ

-- what each object tells that it holds, and the faults that were counted
pub record Contents : Type 0 where
  pub waiting : Option (List Addressed)  -- what the link has yet to give
  pub sent : Option (List Addressed)  -- what was sent over it
  pub to_come : Option (List ℕ)  -- what the clock has yet to answer
  pub held : Option Holding  -- what the depot holds
  pub written : Option (List ℕ)  -- what was written
  pub faults : Counts

-- all of it is told
abbrev pub told : Outside → Counts → Contents
told o faults = record { waiting = Some o.waiting; sent = Some o.sent; to_come = Some o.to_come; held = Some o.held; written = Some o.text; faults = faults }

-- ---- one call

-- what was under the name is taken out, where something was
abbrev pub TakesOut : Contents → Name → Option (List ℕ) → Contents → Type 0
TakesOut t name None t' = t' ≡ t
TakesOut t name (Some bytes) t' = Sets t.held t'.held name None × (t' ≡ record t { held = t'.held })

-- the objects answer the call so, and all that it does not speak of is as it was, the counts of faults too
abbrev pub Tells : Contents → Call → Contents → Type 0
Tells t (Started own) t' = t' ≡ t
Tells t (Took got) t' = TakesFirst t.waiting t'.waiting got × (t' ≡ record t { waiting = t'.waiting })
Tells t (Sent datagram) t' = SendsOne t.sent t'.sent datagram × (t' ≡ record t { sent = t'.sent })
Tells t (Asked moment) t' = TellsMoment t.to_come t'.to_come moment × (t' ≡ record t { to_come = t'.to_come })
Tells t (Put name bytes) t' = Sets t.held t'.held name (Some bytes) × (t' ≡ record t { held = t'.held })
Tells t (Looked name found) t' = Has t.held name found × (t' ≡ t)
Tells t (Removed name found) t' = Has t.held name found × TakesOut t name found t'
Tells t (Wrote text) t' = PutsText t.written t'.written text × (t' ≡ record t { written = t'.written })

-- .. each of the calls, in their order
abbrev pub TellsAll : Contents → List Call → Contents → Type 0
TellsAll t [] t' = t' ≡ t
TellsAll t (call ∷ calls) t' = (next : Contents) × Tells t call next × TellsAll next calls t'

-- ---- calls of a plan

-- these calls of the plan were made and answered, which leaves that plan and those contents
pub record AreMade (plan : Plan) (before : Contents) (calls : List Call) (left : Plan) (after : Contents) : Type 0 where
  pub leads : Leads plan calls left
  pub tells : TellsAll before calls after
