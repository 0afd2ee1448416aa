-- Parts of a plan one after another, and what stops them.
use Rattle.std.proofs.Common.{◌≡◌, Option, None, Some, Result, Ok, Err, refl, sym, subst}
use Rattle.std.specs.Result.{IsErrAnd}
use Rattle.node_rules.specs.Parts.{Comes, IsMadeWhole, joined}
use Rattle.node_rules.specs.Plan as plan
use Rattle.node_rules.specs.Plan.{Call, Plan}
use Rattle.node_rules.specs.Stops.{HasEnded, KeepsHeld, MemoryRanOut, StopsAt}
use Rattle.node_rules.specs.Told.{Contents}
use Rattle.node_rules.proofs.Joining.{comes_inside, comes_nowhere, comes_on, stops_here, stops_on}
use Rattle.host_ports.specs.Depots.{Holding, KeepsOthers}
use Rattle.rdma_types.specs.declared.names.Name.{Name}
use Rattle.node_engine.specs.Answered.{Does, stop_of}
use Rattle.node_engine.specs.declared.faults.NodeFault.{NodeFault}
use Rattle.node_engine.specs.declared.faults.NodeFault.TheVariants as fault

-- a fault stopped a part, whatever follows it
abbrev pub Fails : {A : Type 0} → ((A → Plan) → Plan) → NodeFault → Contents → Contents → Type 0
Fails {A = A} part e before after = (more : A → Plan) → StopsAt (stop_of e) (part more) before after

-- what the rest of a part does, the part does
pub does_on : {A U : Type 0} (part left : (A → Plan) → Plan) (value : U → A) (before between after : Contents) (r : Result U NodeFault) → Comes part left before between → Does left value between r after → Does part value before r after
does_on part left value before between after (Ok u) a b = comes_on part left (λ more. more (value u)) before between after a b
does_on part left value before between after (Err e) a b = λ more. stops_on (stop_of e) part left more before between after a (b more)

-- .. where it fails
pub fails_on : {A : Type 0} (part left : (A → Plan) → Plan) (e : NodeFault) (before between after : Contents) → Comes part left before between → Fails left e between after → Fails part e before after
fails_on part left e before between after a b = λ more. stops_on (stop_of e) part left more before between after a (b more)

-- of two parts the first was made whole
pub second : {A B : Type 0} (part : (A → Plan) → Plan) (next : A → (B → Plan) → Plan) (x : A) (before after : Contents) → IsMadeWhole part x before after → Comes (joined part next) (next x) before after
second part next x before after a = comes_inside part (λ more. more x) next before after a

-- .. and the second does what it does
pub then : {A B U : Type 0} (part : (A → Plan) → Plan) (next : A → (B → Plan) → Plan) (x : A) (value : U → B) (before between after : Contents) (r : Result U NodeFault) → IsMadeWhole part x before between → Does (next x) value between r after → Does (joined part next) value before r after
then part next x value before between after r a b = does_on (joined part next) (next x) value before between after r (second part next x before between a) b

-- the first of two parts fails
pub fails_first : {A B : Type 0} (part : (A → Plan) → Plan) (next : A → (B → Plan) → Plan) (e : NodeFault) (before after : Contents) → Fails part e before after → Fails (joined part next) e before after
fails_first part next e before after h = λ more. h (λ x. next x more)

-- an error that is that fault
pub fails_as : {A U : Type 0} (part : (A → Plan) → Plan) (value : U → A) (e : NodeFault) (before after : Contents) (r : Result U NodeFault) → IsErrAnd r (λ x. x ≡ e) → Fails part e before after → Does part value before r after
fails_as part value e before after (Ok u) h p = absurd h
fails_as part value e before after (Err y) h p = subst (λ z. Fails part z before after) (sym h) p

-- ---- memory

-- all that is held stays
pub keeps_others : (held : Option Holding) (name : Name) → KeepsOthers held held name
keeps_others None name = refl
keeps_others (Some holds) name = (holds, refl, λ n other. refl)

pub keeps_held : (left : Plan) (t : Contents) → KeepsHeld left t t
keeps_held (plan.Ends ending) t = refl
keeps_held (plan.Starts own more) t = refl
keeps_held (plan.Takes more) t = refl
keeps_held (plan.Sends datagram more) t = refl
keeps_held (plan.Asks more) t = refl
keeps_held (plan.Puts name bytes more) t = keeps_others t.held name
keeps_held (plan.Looks name more) t = refl
keeps_held (plan.Removes name more) t = refl
keeps_held (plan.Writes text more) t = refl

-- memory ran out between two calls
pub ran_out : {A : Type 0} (part left : (A → Plan) → Plan) (before between : Contents) → Comes part left before between → Fails part fault.OutOfMemory before between
ran_out part left before between a =
    λ more. stops_on MemoryRanOut part left more before between between a (stops_here MemoryRanOut (left more) between between (keeps_held (left more) between, refl))

-- .. before any
pub ran_out_at_once : {A : Type 0} (part : (A → Plan) → Plan) (t : Contents) → Fails part fault.OutOfMemory t t
ran_out_at_once part t = ran_out part part t t (comes_nowhere part t)

-- ---- ends

-- what is left of the part is an end
pub ended : {A : Type 0} (part : (A → Plan) → Plan) (ending : plan.Ending) (before after : Contents) → Comes part (λ more. plan.Ends ending) before after → (more : A → Plan) → StopsAt (HasEnded ending) (part more) before after
ended part ending before after a = λ more. stops_on (HasEnded ending) part (λ more. plan.Ends ending) more before after after a (stops_here (HasEnded ending) (plan.Ends ending) after after (refl, refl))

-- ---- equal parts

pub does_as : {A U : Type 0} (p q : (A → Plan) → Plan) (value : U → A) (before after : Contents) (r : Result U NodeFault) → p ≡ q → Does p value before r after → Does q value before r after
does_as p q value before after r e a = subst (λ x. Does x value before r after) e a

pub made_as : {A : Type 0} (p q : (A → Plan) → Plan) (x : A) (before after : Contents) → p ≡ q → IsMadeWhole p x before after → IsMadeWhole q x before after
made_as p q x before after e a = subst (λ y. IsMadeWhole y x before after) e a

pub comes_as : {A : Type 0} (p q left : (A → Plan) → Plan) (before after : Contents) → p ≡ q → Comes p left before after → Comes q left before after
comes_as p q left before after e a = subst (λ y. Comes y left before after) e a

pub fails_if : {A : Type 0} (p q : (A → Plan) → Plan) (e : NodeFault) (before after : Contents) → p ≡ q → Fails p e before after → Fails q e before after
fails_if p q e before after same a = subst (λ y. Fails y e before after) same a
