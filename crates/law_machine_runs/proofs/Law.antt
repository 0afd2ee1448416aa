-- Isolation in each run of the machine.
use Rattle.std.proofs.Common.{◌≡◌, ◌⊎◌, ℕ, List, [], ◌∷◌, true, ap, subst, inl, inr}
use Rattle.std.specs.Prelude.{All}
use Rattle.std.proofs.lemmas.List.Elements.{All-head, All-nil, All-tail}
use Rattle.std.proofs.lemmas.Option.{same_Some}
use Rattle.rdma_types.specs.declared.names.Name.{Name}
use Rattle.rdma_types.specs.declared.names.ObjName.{ObjName}
use Rattle.rdma_types.specs.declared.requests.Kind.{Kind}
use Rattle.rdma_types.specs.declared.requests.Kind.TheVariants as kinds
use Rattle.rdma_types.specs.declared.verbs.Verb.{Verb}
use Rattle.rdma_types.specs.declared.verbs.Verb.TheVariants as verbs
use Rattle.rdma_types.specs.Kinds.{kind_of}
use Rattle.rdma_types.specs.Lists.{named}
use Rattle.rdma_types.specs.Objects.{IsWhole}
use Rattle.packetless_machine.specs.declared.steps.MachineStep.{MachineStep}
use Rattle.packetless_machine.specs.declared.steps.MachineStep.TheVariants as steps
use Rattle.packetless_machine.specs.Machine.{Machine, context_of, empty, end_of}
use Rattle.packetless_machine.specs.Steps.{current}
use Rattle.packetless_machine.specs.Legal.{IsRun, after, effect, is_enabled}
use Rattle.law_machine_runs.specs.Changes.{Byte, Domains, IsSame, IsVerbOfPair, IsVerbOfQueue, MakesDomain, MakesOrDrops, MayChange, MayChangePair, MessageChanges, OwnerChanges, Pair, Plan, Queue, Thing}
use Rattle.law_machine_runs.specs.Isolation.{AreIsolated, IsAskedBy, IsOfWord, IsStepOf, OnlyOwnersChange, RunsAreIsolated}
use Rattle.law_machine_runs.proofs.Bytes.{step_byte}
use Rattle.law_machine_runs.proofs.Fair.{AreFair, IsInside, IsWordly, step_fair}
use Rattle.law_machine_runs.proofs.Memory.{AreWhole}
use Rattle.law_machine_runs.proofs.Queues.{step_queue}
use Rattle.law_machine_runs.proofs.Things.{step_domains, step_pair, step_plan}
use Rattle.law_machine_runs.proofs.Tidy.{AreKeyedAt, step_keyed, step_whole}

-- ---- runs

-- what holds in each run
pub record IsTidy (m : Machine) : Type 0 where
  pub whole : AreWhole m
  pub keyed : AreKeyedAt m
  pub fair : AreFair m

tidy_start : IsTidy empty
unfolding context_of end_of named
tidy_start = record {
  whole = λ c. All-nil IsWhole;
  keyed = λ c. tt;
  fair = λ q. record { offers = All-nil (IsInside []); words = All-nil IsWordly };
}

tidy_step : (m : Machine) (s : MachineStep) → is_enabled m s ≡ true → IsOfWord s → IsTidy m → IsTidy (effect m s)
tidy_step m s may word t = record { whole = step_whole m s t.whole; keyed = step_keyed m s may t.keyed; fair = step_fair m s may word t.fair }

pub tidy_run : (m : Machine) (ss : List MachineStep) → All IsOfWord ss → IsRun m ss → IsTidy m → IsTidy (after m ss)
tidy_run m [] words run t = t
tidy_run m (s ∷ ss) words run t = tidy_run (effect m s) ss (All-tail IsOfWord s ss words) run.1 (tidy_step m s run.0 (All-head IsOfWord s ss words) t)

pub tidy_after : (ss : List MachineStep) → All IsOfWord ss → IsRun empty ss → IsTidy (after empty ss)
tidy_after ss words run = tidy_run empty ss words run tidy_start

pub step_isolated : (m : Machine) (s : MachineStep) → is_enabled m s ≡ true → IsTidy m → (t : Thing) → IsSame m (effect m s) t ⊎ MayChange m s t
step_isolated m s may h (Byte o k) = step_byte m s h.whole h.keyed h.fair may o k
step_isolated m s may h (Plan o) = step_plan m s o
step_isolated m s may h (Queue o) = step_queue m s o
step_isolated m s may h (Pair o) = step_pair m s o
step_isolated m s may h (Domains c) = step_domains m s c

steps_isolated : (m : Machine) (ss : List MachineStep) → All IsOfWord ss → IsRun m ss → IsTidy m → AreIsolated m ss
steps_isolated m [] words run t = tt
steps_isolated m (s ∷ ss) words run t = (step_isolated m s run.0 t, steps_isolated (effect m s) ss (All-tail IsOfWord s ss words) run.1 (tidy_step m s run.0 (All-head IsOfWord s ss words) t))

pub runs_isolated : RunsAreIsolated
runs_isolated ss words run = steps_isolated empty ss words run tidy_start

-- ---- whose step it is

in_context : (a b : ObjName) → a ≡ b → a.context ≡ b.context
in_context a b h = ap (λ (o : ObjName). o.context) h

owner_asks : (m : Machine) (v : Verb) (o : ObjName) (k : ℕ) → OwnerChanges m v o k → IsAskedBy v o.context
owner_asks m (verbs.Store name address bytes) o k h = in_context name o h.0
owner_asks m (verbs.MakeRegion name domain base count rights) o k h = in_context name o h
owner_asks m (verbs.DropRegion name) o k h = in_context name o h
owner_asks m (verbs.Context name made) o k h = absurd h
owner_asks m (verbs.Connect one two terms) o k h = absurd h
owner_asks m (verbs.MakeDomain name) o k h = absurd h
owner_asks m (verbs.MakeCq name capacity) o k h = absurd h
owner_asks m (verbs.MakeQp name domain send_cq recv_cq send_depth recv_depth) o k h = absurd h
owner_asks m (verbs.Load name address count) o k h = absurd h
owner_asks m (verbs.PostSend name request) o k h = absurd h
owner_asks m (verbs.PostRecv name receive) o k h = absurd h
owner_asks m (verbs.Poll name max) o k h = absurd h

message_of : (m : Machine) (q o : ObjName) (k : ℕ) (kind : Kind) → MessageChanges m q kind o k → (end_of m q).peer.context ≡ o.context
message_of m q o k kinds.Write h = h.context
message_of m q o k kinds.Send h = h.context
message_of m q o k kinds.Read h = absurd h
message_of m q o k kinds.CompareSwap h = absurd h
message_of m q o k kinds.FetchAdd h = absurd h

byte_of_owner : (m : Machine) (s : MachineStep) (o : ObjName) (k : ℕ) → MayChange m s (Byte o k) → IsStepOf m s o.context
byte_of_owner m (steps.Verb v given) o k h = owner_asks m v o k h
byte_of_owner m (steps.Run q n) o k h = inr (message_of m q o k (kind_of (current (end_of m q))) h)
byte_of_owner m (steps.Atom q) o k h = inr h.context
byte_of_owner m (steps.Land q i) o k h = inl h.1.context
byte_of_owner m (steps.Tell q) o k h = inl h.1.context
byte_of_owner m (steps.ReadTurn q) o k h = absurd h
byte_of_owner m (steps.Refuse q why) o k h = absurd h
byte_of_owner m (steps.Dry q) o k h = absurd h
byte_of_owner m (steps.Offer q i off n) o k h = absurd h
byte_of_owner m (steps.Known q bytes) o k h = absurd h
byte_of_owner m (steps.Expire q) o k h = absurd h
byte_of_owner m (steps.Wait q) o k h = absurd h
byte_of_owner m (steps.Bounce q) o k h = absurd h

plan_asks : (m : Machine) (v : Verb) (given : ℕ) (o : ObjName) → MakesOrDrops (steps.Verb v given) o → IsAskedBy v o.context
plan_asks m (verbs.MakeRegion name domain base count rights) given o h = in_context name o h
plan_asks m (verbs.DropRegion name) given o h = in_context name o h
plan_asks m (verbs.Context name made) given o h = absurd h
plan_asks m (verbs.Connect one two terms) given o h = absurd h
plan_asks m (verbs.MakeDomain name) given o h = absurd h
plan_asks m (verbs.MakeCq name capacity) given o h = absurd h
plan_asks m (verbs.MakeQp name domain send_cq recv_cq send_depth recv_depth) given o h = absurd h
plan_asks m (verbs.Store name address bytes) given o h = absurd h
plan_asks m (verbs.Load name address count) given o h = absurd h
plan_asks m (verbs.PostSend name request) given o h = absurd h
plan_asks m (verbs.PostRecv name receive) given o h = absurd h
plan_asks m (verbs.Poll name max) given o h = absurd h

plan_of_owner : (m : Machine) (s : MachineStep) (o : ObjName) → MayChange m s (Plan o) → IsStepOf m s o.context
plan_of_owner m (steps.Verb v given) o h = plan_asks m v given o h
plan_of_owner m (steps.Run q n) o h = absurd h
plan_of_owner m (steps.Atom q) o h = absurd h
plan_of_owner m (steps.ReadTurn q) o h = absurd h
plan_of_owner m (steps.Refuse q why) o h = absurd h
plan_of_owner m (steps.Dry q) o h = absurd h
plan_of_owner m (steps.Offer q i off n) o h = absurd h
plan_of_owner m (steps.Land q i) o h = absurd h
plan_of_owner m (steps.Known q bytes) o h = absurd h
plan_of_owner m (steps.Tell q) o h = absurd h
plan_of_owner m (steps.Expire q) o h = absurd h
plan_of_owner m (steps.Wait q) o h = absurd h
plan_of_owner m (steps.Bounce q) o h = absurd h

domains_asks : (m : Machine) (v : Verb) (given : ℕ) (c : Name) → MakesDomain (steps.Verb v given) c → IsAskedBy v c
domains_asks m (verbs.MakeDomain name) given c h = h
domains_asks m (verbs.Context name made) given c h = absurd h
domains_asks m (verbs.Connect one two terms) given c h = absurd h
domains_asks m (verbs.MakeRegion name domain base count rights) given c h = absurd h
domains_asks m (verbs.MakeCq name capacity) given c h = absurd h
domains_asks m (verbs.MakeQp name domain send_cq recv_cq send_depth recv_depth) given c h = absurd h
domains_asks m (verbs.DropRegion name) given c h = absurd h
domains_asks m (verbs.Store name address bytes) given c h = absurd h
domains_asks m (verbs.Load name address count) given c h = absurd h
domains_asks m (verbs.PostSend name request) given c h = absurd h
domains_asks m (verbs.PostRecv name receive) given c h = absurd h
domains_asks m (verbs.Poll name max) given c h = absurd h

domains_of_owner : (m : Machine) (s : MachineStep) (c : Name) → MayChange m s (Domains c) → IsStepOf m s c
domains_of_owner m (steps.Verb v given) c h = domains_asks m v given c h
domains_of_owner m (steps.Run q n) c h = absurd h
domains_of_owner m (steps.Atom q) c h = absurd h
domains_of_owner m (steps.ReadTurn q) c h = absurd h
domains_of_owner m (steps.Refuse q why) c h = absurd h
domains_of_owner m (steps.Dry q) c h = absurd h
domains_of_owner m (steps.Offer q i off n) c h = absurd h
domains_of_owner m (steps.Land q i) c h = absurd h
domains_of_owner m (steps.Known q bytes) c h = absurd h
domains_of_owner m (steps.Tell q) c h = absurd h
domains_of_owner m (steps.Expire q) c h = absurd h
domains_of_owner m (steps.Wait q) c h = absurd h
domains_of_owner m (steps.Bounce q) c h = absurd h

pair_asks : (v : Verb) (o : ObjName) → IsVerbOfPair v o → IsAskedBy v o.context
pair_asks (verbs.MakeQp name domain send_cq recv_cq send_depth recv_depth) o h = in_context name o h
pair_asks (verbs.Connect one two terms) o (inl h) = inl (in_context one o h)
pair_asks (verbs.Connect one two terms) o (inr h) = inr (in_context two o h)
pair_asks (verbs.PostSend name request) o h = in_context name o h
pair_asks (verbs.PostRecv name receive) o h = in_context name o h
pair_asks (verbs.Context name made) o h = absurd h
pair_asks (verbs.MakeDomain name) o h = absurd h
pair_asks (verbs.MakeRegion name domain base count rights) o h = absurd h
pair_asks (verbs.MakeCq name capacity) o h = absurd h
pair_asks (verbs.DropRegion name) o h = absurd h
pair_asks (verbs.Store name address bytes) o h = absurd h
pair_asks (verbs.Load name address count) o h = absurd h
pair_asks (verbs.Poll name max) o h = absurd h

one_of : (m : Machine) (q o : ObjName) → (q ≡ o) ⊎ ((end_of m q).peer ≡ o) → (q.context ≡ o.context) ⊎ ((end_of m q).peer.context ≡ o.context)
one_of m q o (inl h) = inl (in_context q o h)
one_of m q o (inr h) = inr (in_context (end_of m q).peer o h)

pair_of_owner : (m : Machine) (s : MachineStep) (o : ObjName) → MayChangePair m s o → IsStepOf m s o.context
pair_of_owner m (steps.Verb v given) o h = pair_asks v o h
pair_of_owner m (steps.Run q n) o h = one_of m q o h
pair_of_owner m (steps.Refuse q why) o h = one_of m q o h
pair_of_owner m (steps.Atom q) o h = inl (in_context q o (same_Some q o h))
pair_of_owner m (steps.ReadTurn q) o h = inl (in_context q o (same_Some q o h))
pair_of_owner m (steps.Dry q) o h = inl (in_context q o (same_Some q o h))
pair_of_owner m (steps.Offer q i off n) o h = inl (in_context q o (same_Some q o h))
pair_of_owner m (steps.Land q i) o h = inl (in_context q o (same_Some q o h))
pair_of_owner m (steps.Known q bytes) o h = inl (in_context q o (same_Some q o h))
pair_of_owner m (steps.Tell q) o h = inl (in_context q o (same_Some q o h))
pair_of_owner m (steps.Expire q) o h = inl (in_context q o (same_Some q o h))
pair_of_owner m (steps.Wait q) o h = inl (in_context q o (same_Some q o h))
pair_of_owner m (steps.Bounce q) o h = inl (in_context q o (same_Some q o h))

queue_asks : (m : Machine) (s : MachineStep) (o : ObjName) → IsVerbOfQueue s o → IsStepOf m s o.context
queue_asks m (steps.Verb v given) o h = by v h
  where
    by : (v : Verb) → IsVerbOfQueue (steps.Verb v given) o → IsAskedBy v o.context
    by (verbs.MakeCq name capacity) h = in_context name o h
    by (verbs.Poll name max) h = in_context name o h
    by (verbs.Context name made) h = absurd h
    by (verbs.Connect one two terms) h = absurd h
    by (verbs.MakeDomain name) h = absurd h
    by (verbs.MakeRegion name domain base count rights) h = absurd h
    by (verbs.MakeQp name domain send_cq recv_cq send_depth recv_depth) h = absurd h
    by (verbs.DropRegion name) h = absurd h
    by (verbs.Store name address bytes) h = absurd h
    by (verbs.Load name address count) h = absurd h
    by (verbs.PostSend name request) h = absurd h
    by (verbs.PostRecv name receive) h = absurd h
queue_asks m (steps.Run q n) o h = absurd h
queue_asks m (steps.Atom q) o h = absurd h
queue_asks m (steps.ReadTurn q) o h = absurd h
queue_asks m (steps.Refuse q why) o h = absurd h
queue_asks m (steps.Dry q) o h = absurd h
queue_asks m (steps.Offer q i off n) o h = absurd h
queue_asks m (steps.Land q i) o h = absurd h
queue_asks m (steps.Known q bytes) o h = absurd h
queue_asks m (steps.Tell q) o h = absurd h
queue_asks m (steps.Expire q) o h = absurd h
queue_asks m (steps.Wait q) o h = absurd h
queue_asks m (steps.Bounce q) o h = absurd h

queue_of_owner : (m : Machine) (s : MachineStep) (o : ObjName) → MayChange m s (Queue o) → IsStepOf m s o.context
queue_of_owner m s o (inl h) = queue_asks m s o h
queue_of_owner m s o (inr h) = subst (IsStepOf m s) h.2.context (pair_of_owner m s h.0 h.1)

pub owners_change : OnlyOwnersChange
owners_change m s (Byte o k) h = byte_of_owner m s o k h
owners_change m s (Plan o) h = plan_of_owner m s o h
owners_change m s (Queue o) h = queue_of_owner m s o h
owners_change m s (Pair o) h = pair_of_owner m s o h
owners_change m s (Domains c) h = domains_of_owner m s c h
