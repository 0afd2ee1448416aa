-- Which ends are connected: inner steps change nothing of it, and are of ends that are.
use Rattle.std.proofs.Common.{◌≡◌, ℕ, List, [], true, false, Bool, refl, ap, ◌∙◌, None, Some, Option}
use Rattle.std.specs.Prelude.{if◌then◌else◌, ◌&&◌, ◌==◌}
use Rattle.rdma_types.specs.declared.answers.RefusalReason.{RefusalReason}
use Rattle.rdma_types.specs.declared.names.Name.{Name}
use Rattle.rdma_types.specs.declared.names.ObjName.{ObjName}
use Rattle.rdma_types.specs.declared.requests.Receive.{Receive}
use Rattle.rdma_types.specs.declared.requests.Shape.{Shape}
use Rattle.rdma_types.specs.declared.requests.WcStatus.{WcStatus}
use Rattle.rdma_types.specs.declared.requests.WcStatus.TheVariants as status
use Rattle.rdma_types.specs.Kinds.{is_send, kind_of}
use Rattle.rdma_types.specs.Objects.{CompletionQueue, Region}
use Rattle.packetless_machine.specs.declared.steps.MachineStep.{MachineStep}
use Rattle.packetless_machine.specs.declared.steps.MachineStep.TheVariants as steps
use Rattle.packetless_machine.specs.Legal.{effect, is_enabled}
use Rattle.packetless_machine.specs.Machine.{End, Machine, context_of, end_of, in_end, with_end, with_queues, with_regions}
use Rattle.packetless_machine.specs.Steps as step
use Rattle.packetless_machine.specs.Steps.{acted_with, advanced, atom, atom_on, bounce, closed, current, denied, dried, dried_at, ended_with, expire, expired, fills, has_current, has_peer, has_untold, knowing, land_at, landed, offered, placing, put_in_receive, read_turn, receive_for, receiving, refuse, refuse_at, run, run_towards, tell, tell_at, told_one, unused_after, wait, waited, with_known, with_offer}
use Rattle.packetless_machine.proofs.Views.{end_of-completing, end_of-put_old, end_of-with_context, end_of-with_regions}
use Rattle.law_simulation.proofs.runs.Acting.{end_related}
use Rattle.law_mailbox.specs.Held.{IsInner}
use Rattle.law_mailbox.proofs.work.Channels.{both}
use Rattle.law_mailbox.proofs.connection.Towards.{advanced_alike, advanced_name, received_alike, received_name}

abbrev connected_of : Machine → ObjName → Bool
connected_of m q = (end_of m q).connected

-- ---- changes of the machine

pub one_kept : (m : Machine) (o : ObjName) (e : End) (q : ObjName) → e.name ≡ (end_of m o).name → e.connected ≡ (end_of m o).connected → connected_of (with_end m o e) q ≡ connected_of m q
one_kept m o e q name same = end_related (λ a b. a.connected ≡ b.connected) (λ a. refl) m o e q name same

queues_kept : (m : Machine) (c : Name) (qs : List CompletionQueue) (q : ObjName) → connected_of (with_queues m c qs) q ≡ connected_of m q
unfolding with_queues
queues_kept m c qs q = ap (λ (e : End). e.connected) (end_of-with_context m c (record (context_of m c) { queues = qs }) q refl refl)

regions_kept : (m : Machine) (c : Name) (rs : List Region) (q : ObjName) → connected_of (with_regions m c rs) q ≡ connected_of m q
regions_kept m c rs q = ap (λ (e : End). e.connected) (end_of-with_regions m c rs q)

ended_kept : (m : Machine) (o : ObjName) (s : WcStatus) (q : ObjName) → connected_of (ended_with m o s) q ≡ connected_of m q
unfolding ended_with closed
ended_kept m o s q = queues_kept _ _ _ q ∙ one_kept m o _ q refl refl

-- ---- a Run

receive_kept : (m : Machine) (c : Name) (into : ℕ) (new : List ℕ) (v : Option Receive) (q : ObjName) → connected_of (put_in_receive m c into new v) q ≡ connected_of m q
unfolding put_in_receive
receive_kept m c into new None q = refl
receive_kept m c into new (Some v) q = regions_kept m c _ q

pub placing_kept : (m : Machine) (c : Name) (e x : End) (new : List ℕ) (q : ObjName) → connected_of (placing m c e x new) q ≡ connected_of m q
unfolding placing
placing_kept m c e x new q = by (is_send (kind_of (current e)))
  where
    by : (b : Bool) → connected_of (if b then put_in_receive m c e.into new (receive_for x) else step.put_in_range m c e.into new (current e)) q ≡ connected_of m q
    by true = receive_kept m c e.into new (receive_for x) q
    by false = regions_kept m c _ q

run_kept : (m : Machine) (o : ObjName) (n : ℕ) (q : ObjName) → connected_of (run m o n) q ≡ connected_of m q
unfolding run run_towards
run_kept m o n q =
    let shape : Shape = (current (end_of m o)).request.shape in
    let whole : Bool = fills (end_of m o) n in
    queues_kept _ _ _ q
    ∙ (one_kept _ _ _ q (received_name shape whole _) (received_alike shape whole _).connected
    ∙ (placing_kept _ _ _ _ _ q ∙ one_kept m o (advanced (end_of m o) n) q (advanced_name (end_of m o) n) (advanced_alike (end_of m o) n).connected))

-- ---- other steps

atom_kept : (m : Machine) (o q : ObjName) → connected_of (atom m o) q ≡ connected_of m q
unfolding atom atom_on acted_with
atom_kept m o q = regions_kept _ _ _ q ∙ one_kept m o _ q refl refl

refuse_kept : (m : Machine) (o : ObjName) (why : RefusalReason) (q : ObjName) → connected_of (refuse m o why) q ≡ connected_of m q
unfolding refuse refuse_at denied closed
refuse_kept m o why q = queues_kept _ _ _ q ∙ (one_kept _ _ _ q refl refl ∙ one_kept m o _ q refl refl)

land_kept : (m : Machine) (o : ObjName) (k : ℕ) (q : ObjName) → connected_of (landed m o k) q ≡ connected_of m q
unfolding landed land_at with_known
land_kept m o k q = one_kept _ o _ q refl refl ∙ regions_kept m o.context _ q

tell_kept : (m : Machine) (o q : ObjName) → connected_of (tell m o) q ≡ connected_of m q
unfolding tell tell_at told_one
tell_kept m o q = one_kept _ o _ q refl refl ∙ (ap (λ (e : End). e.connected) (end_of-put_old _ _ _ _ q) ∙ ap (λ (e : End). e.connected) (end_of-completing m o.context _ _ q))

expire_kept : (m : Machine) (o q : ObjName) → connected_of (expire m o) q ≡ connected_of m q
unfolding expire expired
expire_kept m o q = by ((end_of m o).spent == (end_of m o).retry)
  where
    by : (b : Bool) → connected_of (if b then ended_with m o status.RetryExceeded else in_end m o expired) q ≡ connected_of m q
    by true = ended_kept m o status.RetryExceeded q
    by false = one_kept m o _ q refl refl

wait_kept : (m : Machine) (o q : ObjName) → connected_of (wait m o) q ≡ connected_of m q
unfolding wait waited
wait_kept m o q = by ((end_of m o).rnr == 7) ((end_of m o).waits == (end_of m o).rnr)
  where
    by : (a b : Bool) → connected_of (if a then m else if b then ended_with m o status.RnrExceeded else in_end m o waited) q ≡ connected_of m q
    by true b = refl
    by false true = ended_kept m o status.RnrExceeded q
    by false false = one_kept m o _ q refl refl

-- the same ends are connected after an inner step
pub connected_kept : (m : Machine) (s : MachineStep) → IsInner s → (q : ObjName) → (end_of (effect m s) q).connected ≡ (end_of m q).connected
unfolding read_turn acted_with dried dried_at offered with_offer knowing with_known bounce
connected_kept m (steps.Verb verb given) inner q = absurd inner
connected_kept m (steps.Run o n) inner q = run_kept m o n q
connected_kept m (steps.Atom o) inner q = atom_kept m o q
connected_kept m (steps.ReadTurn o) inner q = one_kept m o _ q refl refl
connected_kept m (steps.Refuse o why) inner q = refuse_kept m o why q
connected_kept m (steps.Dry o) inner q = one_kept m o _ q refl refl
connected_kept m (steps.Offer o k offset n) inner q = one_kept m o _ q refl refl
connected_kept m (steps.Land o k) inner q = land_kept m o k q
connected_kept m (steps.Known o bytes) inner q = one_kept m o _ q refl refl
connected_kept m (steps.Tell o) inner q = tell_kept m o q
connected_kept m (steps.Expire o) inner q = expire_kept m o q
connected_kept m (steps.Wait o) inner q = wait_kept m o q
connected_kept m (steps.Bounce o) inner q = ended_kept m o _ q

-- ---- the end that makes a step

-- its name; a verb is none
abbrev pub stepping : MachineStep → ObjName
stepping (steps.Verb verb given) = record { context = []; name = [] }
stepping (steps.Run o n) = o
stepping (steps.Atom o) = o
stepping (steps.ReadTurn o) = o
stepping (steps.Refuse o why) = o
stepping (steps.Dry o) = o
stepping (steps.Offer o k offset n) = o
stepping (steps.Land o k) = o
stepping (steps.Known o bytes) = o
stepping (steps.Tell o) = o
stepping (steps.Expire o) = o
stepping (steps.Wait o) = o
stepping (steps.Bounce o) = o

first_of_two : (a b : Bool) → (a && b) ≡ true → a ≡ true
first_of_two a b h = (both a b h).0

untold_connected : (m : Machine) (q : ObjName) → has_untold m q ≡ true → (end_of m q).connected ≡ true
unfolding has_untold
untold_connected m q h = first_of_two (end_of m q).connected _ h

peer_connected : (m : Machine) (q : ObjName) → has_peer m q ≡ true → (end_of m q).connected ≡ true
unfolding has_peer
peer_connected m q h = first_of_two (end_of m q).connected _ h

current_connected : (m : Machine) (q : ObjName) → has_current m q ≡ true → (end_of m q).connected ≡ true
unfolding has_current
current_connected m q h = peer_connected m q (first_of_two (has_peer m q) _ h)

-- the end of an enabled inner step is connected
pub stepping_connected : (m : Machine) (s : MachineStep) → IsInner s → is_enabled m s ≡ true → (end_of m (stepping s)).connected ≡ true
unfolding step.may_run step.may_atom step.may_read step.may_refuse step.may_dry step.may_offer step.may_land step.may_know step.may_tell step.may_wait step.may_bounce
stepping_connected m (steps.Verb verb given) inner may = absurd inner
stepping_connected m (steps.Run o n) inner may = current_connected m o (first_of_two (has_current m o) _ may)
stepping_connected m (steps.Atom o) inner may = current_connected m o (first_of_two (has_current m o) _ may)
stepping_connected m (steps.ReadTurn o) inner may = current_connected m o (first_of_two (has_current m o) _ may)
stepping_connected m (steps.Refuse o why) inner may = current_connected m o (first_of_two (has_current m o) _ may)
stepping_connected m (steps.Dry o) inner may = current_connected m o (first_of_two (has_current m o) _ may)
stepping_connected m (steps.Offer o k offset n) inner may = peer_connected m o (first_of_two (has_peer m o) _ may)
stepping_connected m (steps.Land o k) inner may = untold_connected m o (first_of_two (has_untold m o) _ may)
stepping_connected m (steps.Known o bytes) inner may = untold_connected m o (first_of_two (has_untold m o) _ may)
stepping_connected m (steps.Tell o) inner may = untold_connected m o (first_of_two (has_untold m o) _ may)
stepping_connected m (steps.Expire o) inner may = untold_connected m o may
stepping_connected m (steps.Wait o) inner may = untold_connected m o (first_of_two (has_untold m o) _ may)
stepping_connected m (steps.Bounce o) inner may = untold_connected m o (first_of_two (has_untold m o) _ may)
