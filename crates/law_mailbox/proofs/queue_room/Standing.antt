-- What stands in the receiver's queue: an inner step adds completions of its own connection, which its end there had left to complete.
use Rattle.std.proofs.Common.{arith, ◌≡◌, ◌≢◌, ℕ, ◌+◌, ◌-◌, ◌≤◌, List, [], ◌∷◌, ◌++◌, drop, length, true, false, Bool, refl, sym, subst, ap, ◌∙◌, Some, None, Option, inl, inr, append-nil, ◌⊎◌, eqb-true}
use Rattle.std.proofs.lemmas.Bool.{eqb-false}
use Rattle.std.specs.Prelude.{All, if◌then◌else◌, is_some, option_to_list, slice_get, ◌==◌, ◌&&◌}
use Rattle.std.proofs.lemmas.List.Elements.{All-append, All-cons, All-head, All-nil, All-tail}
use Rattle.rdma_types.specs.declared.answers.RefusalReason.{RefusalReason}
use Rattle.rdma_types.specs.declared.names.Name.{Name}
use Rattle.rdma_types.specs.declared.names.ObjName.{ObjName}
use Rattle.rdma_types.specs.declared.requests.Completion.{Completion}
use Rattle.rdma_types.specs.declared.requests.Request.{Request}
use Rattle.rdma_types.specs.declared.requests.Shape.{Shape}
use Rattle.rdma_types.specs.declared.requests.WcKind.{WcKind}
use Rattle.rdma_types.specs.declared.requests.WcKind.TheVariants as wc
use Rattle.rdma_types.specs.declared.requests.WcStatus.{WcStatus}
use Rattle.rdma_types.specs.declared.requests.WcStatus.TheVariants as status
use Rattle.rdma_types.specs.Kinds.{is_send}
use Rattle.rdma_types.specs.Lists.{has_name}
use Rattle.rdma_types.specs.Memory.{local_key}
use Rattle.rdma_types.specs.Objects.{CompletionQueue, Region}
use Rattle.packetless_machine.specs.declared.reply.Reply.{Reply}
use Rattle.packetless_machine.specs.declared.reply.Reply.TheVariants.{Denied, Finished, OldValue}
use Rattle.packetless_machine.specs.declared.steps.MachineStep.{MachineStep}
use Rattle.packetless_machine.specs.declared.steps.MachineStep.TheVariants as steps
use Rattle.packetless_machine.specs.Legal.{effect, is_enabled}
use Rattle.packetless_machine.specs.Machine.{End, Machine, completed, completing, context_of, end_of, has_end, in_end, nobody, queue_of, untold_count, used_count, with_end, with_queue, with_queue_in, with_queues, with_regions}
use Rattle.packetless_machine.specs.Steps as step
use Rattle.packetless_machine.specs.Steps.{acted_with, advanced, arrivals, atom, atom_on, bounce, bounce_status, closed, current, denied, dried, dried_at, ended_with, expire, expired, failed_queues, fills, front, knowing, land_at, landed, offered, placing, put_old, read_turn, receives_of, receiving, refuse, refuse_at, refused_queues, run, run_towards, success, tell, tell_at, told_one, wait, waited, with_known, with_offer}
use Rattle.packetless_machine.specs.Verbs.{has_queue}
use Rattle.packetless_machine.proofs.Views.{end_of-completing, end_of-put_old, end_of-with_regions}
use Rattle.law_simulation.proofs.relation.Linked.{there_kept}
use Rattle.law_simulation.proofs.runs.Acting.{end_related}
use Rattle.mailbox_rules.specs.declared.due.Due.TheVariants as due
use Rattle.mailbox_rules.specs.Opening.{connection_of, queue_name, receiver, receiver_end, sender}
use Rattle.mailbox_rules.specs.Working.{is_success, place_in, received}
use Rattle.law_mailbox.specs.Ending.{EndsIt}
use Rattle.law_mailbox.specs.Held.{IsInner, connection_in}
use Rattle.law_mailbox.specs.Kept.{IsOpened, dues_by, dues_of, standing}
use Rattle.law_mailbox.specs.Seen.{IsOf}
use Rattle.law_mailbox.proofs.connection.Connected.{one_kept, placing_kept, stepping}
use Rattle.law_mailbox.proofs.queue_room.Entries.{AreOf, IsCompleted, end_completes, none_of, received_stays, receives_left, refusal_completes, run_completes, tell_completes, told_ended}
use Rattle.law_mailbox.proofs.queue_room.Loads.{end_queues, regions_queues}
use Rattle.law_mailbox.proofs.connection.OtherBytes.{told_name}
use Rattle.law_mailbox.proofs.connection.Others.{denied_alike}
use Rattle.law_mailbox.proofs.connection.Quiet.{end_name}
use Rattle.law_mailbox.proofs.connection.Refusals.{closed_name, denied_name, queues_elsewhere, queues_ends, queues_there, the_queue}
use Rattle.law_mailbox.proofs.queue_room.RoomSteps.{IsReservedAs, advanced_as, may_told, placed_end, placed_queues, reserved_itself}
use Rattle.law_mailbox.proofs.connection.Sights.{context_there, end_is_changed, end_there, nowhere}
use Rattle.law_mailbox.proofs.connection.Towards.{advanced_alike, advanced_name, received_name}
use Rattle.law_mailbox.proofs.work.Channels.{both}

-- ---- what completions of a connection make due is due on it

of_number : (x : Completion) (k : WcKind) → All (λ d. connection_in d ≡ connection_of x.qp) (option_to_list (received x k))
of_number x wc.Recv = All-cons (λ d. connection_in d ≡ connection_of x.qp) (due.CopyMessage (connection_of x.qp) (place_in x) x.length) [] refl (All-nil (λ d. connection_in d ≡ connection_of x.qp))
of_number x wc.Read = All-cons (λ d. connection_in d ≡ connection_of x.qp) (due.CopyBody (connection_of x.qp) x.length) [] refl (All-nil (λ d. connection_in d ≡ connection_of x.qp))
of_number x wc.Send = All-nil (λ d. connection_in d ≡ connection_of x.qp)
of_number x wc.Write = All-nil (λ d. connection_in d ≡ connection_of x.qp)
of_number x wc.CompareSwap = All-nil (λ d. connection_in d ≡ connection_of x.qp)
of_number x wc.FetchAdd = All-nil (λ d. connection_in d ≡ connection_of x.qp)
of_number x wc.RecvImm = All-nil (λ d. connection_in d ≡ connection_of x.qp)

one_of_number : (x : Completion) → All (λ d. connection_in d ≡ connection_of x.qp) (dues_by 0 x)
one_of_number x = by (is_success x.status)
  where
    by : (b : Bool) → All (λ d. connection_in d ≡ connection_of x.qp) (if b then option_to_list (received x x.kind) else [])
    by true = of_number x x.kind
    by false = All-nil (λ d. connection_in d ≡ connection_of x.qp)

pub dues_of_it : (j : ℕ) (xs : List Completion) → All (λ x. connection_of x.qp ≡ j) xs → All (λ d. connection_in d ≡ j) (dues_of 0 xs)
dues_of_it j [] all = All-nil (λ d. connection_in d ≡ j)
dues_of_it j (x ∷ xs) all =
    All-append (λ d. connection_in d ≡ j) (dues_by 0 x) (dues_of 0 xs) (subst (λ (i : ℕ). All (λ d. connection_in d ≡ i) (dues_by 0 x)) (All-head (λ y. connection_of y.qp ≡ j) x xs all) (one_of_number x))
    (dues_of_it j xs (All-tail (λ y. connection_of y.qp ≡ j) x xs all))

-- ---- ends that have the same left to complete

same_left : (a b : End) → a ≡ b → IsReservedAs a b
same_left a b e = subst (λ (z : End). IsReservedAs z b) (sym e) (reserved_itself b)

left_then : (a b c : End) → IsReservedAs b c → IsReservedAs a b → IsReservedAs a c
left_then a b c y x = record {
  number = x.number ∙ y.number;
  send_queue = x.send_queue ∙ y.send_queue;
  receive_queue = x.receive_queue ∙ y.receive_queue;
  posted = x.posted ∙ y.posted;
  told = x.told ∙ y.told;
  in_use = x.in_use ∙ y.in_use;
  unused = x.unused ∙ y.unused;
  ended = x.ended ∙ y.ended;
}

receives_as : (a b : End) → IsReservedAs a b → receives_left a ≡ receives_left b
receives_as a b s = λ k. used_count (s.in_use k) + length (s.unused k)

requests_as : (a b : End) → IsReservedAs a b → untold_count a ≡ untold_count b
unfolding untold_count
requests_as a b s = λ k. length (s.posted k) - s.told k

denied_as : (e : End) (why : RefusalReason) → IsReservedAs (denied e why) e
unfolding denied
denied_as e why = record { number = refl; send_queue = refl; receive_queue = refl; posted = refl; told = refl; in_use = refl; unused = refl; ended = refl }

closed_as : (a b : End) → IsReservedAs a b → IsReservedAs (closed a) (closed b)
unfolding closed
closed_as a b s = record { number = s.number; send_queue = s.send_queue; receive_queue = s.receive_queue; posted = s.posted; told = λ k. length (s.posted k); in_use = refl; unused = refl; ended = refl }

received_as : (shape : Shape) (whole : Bool) (a b : End) → IsReservedAs a b → IsReservedAs (receiving shape whole a) (receiving shape whole b)
unfolding receiving step.receive_for step.unused_after
received_as shape whole a b s = by (is_send shape.kind) (is_some shape.imm && whole)
  where
    by : (c d : Bool) → IsReservedAs
        (if c then record a { in_use = if whole then None else step.first_receive a.in_use a.unused; unused = if is_some a.in_use then a.unused else drop 1 a.unused } else if d then record a { unused = drop 1 a.unused } else a)
        (if c then record b { in_use = if whole then None else step.first_receive b.in_use b.unused; unused = if is_some b.in_use then b.unused else drop 1 b.unused } else if d then record b { unused = drop 1 b.unused } else b)
    by true d = record {
      number = s.number;
      send_queue = s.send_queue;
      receive_queue = s.receive_queue;
      posted = s.posted;
      told = s.told;
      in_use = λ k. if whole then None else step.first_receive (s.in_use k) (s.unused k);
      unused = λ k. if is_some (s.in_use k) then s.unused k else drop 1 (s.unused k);
      ended = s.ended;
    }
    by false true = record { number = s.number; send_queue = s.send_queue; receive_queue = s.receive_queue; posted = s.posted; told = s.told; in_use = s.in_use; unused = λ k. drop 1 (s.unused k); ended = s.ended }
    by false false = s

-- ---- machines in which all ends have the same left, and the queues are the same

pub record IsQuiet (m m' : Machine) : Type 0 where
  pub ends : (q : ObjName) → IsReservedAs (end_of m' q) (end_of m q)
  pub queues : (c : Name) → (context_of m' c).queues ≡ (context_of m c).queues

quiet_itself : (m : Machine) → IsQuiet m m
quiet_itself m = record { ends = λ q. reserved_itself (end_of m q); queues = λ c. refl }

quiet_then : (m m1 m2 : Machine) → IsQuiet m1 m2 → IsQuiet m m1 → IsQuiet m m2
quiet_then m m1 m2 y x = record { ends = λ q. left_then (end_of m2 q) (end_of m1 q) (end_of m q) (x.ends q) (y.ends q); queues = λ c. y.queues c ∙ x.queues c }

quiet_end : (m : Machine) (o : ObjName) (e : End) → e.name ≡ (end_of m o).name → IsReservedAs e (end_of m o) → IsQuiet m (with_end m o e)
quiet_end m o e name left = record { ends = λ q. end_related IsReservedAs reserved_itself m o e q name left; queues = end_queues m o e }

quiet_regions : (m : Machine) (c : Name) (rs : List Region) → IsQuiet m (with_regions m c rs)
quiet_regions m c rs = record { ends = λ q. same_left (end_of (with_regions m c rs) q) (end_of m q) (end_of-with_regions m c rs q); queues = regions_queues m c rs }

quiet_places : (m : Machine) (c : Name) (e x : End) (new : List ℕ) → IsQuiet m (placing m c e x new)
quiet_places m c e x new = record { ends = λ q. same_left (end_of (placing m c e x new) q) (end_of m q) (placed_end m c e x new q); queues = placed_queues m c e x new }

quiet_old : (m : Machine) (c : Name) (r : Request) (reply : Option Reply) → IsQuiet m (put_old m c r reply)
unfolding put_old
quiet_old m c r None = quiet_itself m
quiet_old m c r (Some Finished) = quiet_itself m
quiet_old m c r (Some (OldValue value)) = quiet_regions m c _
quiet_old m c r (Some (Denied why)) = quiet_itself m

atom_quiet : (m : Machine) (o : ObjName) → IsQuiet m (atom m o)
unfolding atom atom_on acted_with
atom_quiet m o =
    let old : ℕ = step.word_there (current (end_of m o)) (step.peer_regions m o) in
    let m1 : Machine = with_end m o (acted_with (end_of m o) (OldValue old)) in
    quiet_then m m1 (atom m o) (quiet_regions m1 (end_of m o).peer.context _)
    (quiet_end m o (acted_with (end_of m o) (OldValue old)) refl (record { number = refl; send_queue = refl; receive_queue = refl; posted = refl; told = refl; in_use = refl; unused = refl; ended = refl }))

land_quiet : (m : Machine) (o : ObjName) (k : ℕ) → IsQuiet m (landed m o k)
unfolding landed land_at with_known
land_quiet m o k =
    let bytes : List ℕ = step.bytes_of (slice_get (end_of m o).offers k) in
    let m1 : Machine = step.putting m o.context local_key (front (end_of m o)).request.lkey ((front (end_of m o)).request.local + (end_of m o).known) bytes in
    quiet_then m m1 (landed m o k)
    (quiet_end m1 o (with_known (end_of m1 o) ((end_of m o).known + length bytes)) refl (record { number = refl; send_queue = refl; receive_queue = refl; posted = refl; told = refl; in_use = refl; unused = refl; ended = refl }))
    (quiet_regions m o.context _)

-- ---- machines in which one end is another, and so are the queues of its context

pub record IsSettled (m m' : Machine) (o : ObjName) (e : End) (queues : List CompletionQueue) : Type 0 where
  pub here : IsReservedAs (end_of m' o) e
  pub others : (q : ObjName) → q ≢ o → IsReservedAs (end_of m' q) (end_of m q)
  pub queues_here : (context_of m' o.context).queues ≡ queues
  pub queues_apart : (c : Name) → c ≢ o.context → (context_of m' c).queues ≡ (context_of m c).queues

-- an end that is connected is there
connected_there : (m : Machine) (o : ObjName) → (end_of m o).connected ≡ true → has_end m o ≡ true
unfolding has_end end_of
connected_there m o is = by (has_name (λ z. z.name) o.name (context_of m o.context).ends) refl
  where
    by : (b : Bool) → has_name (λ z. z.name) o.name (context_of m o.context).ends ≡ b → has_name (λ z. z.name) o.name (context_of m o.context).ends ≡ true
    by true e = e
    by false e = let none : false ≡ true = ap (λ (z : End). z.connected) (sym (nowhere (λ z. z.name) (nobody o) o.name (context_of m o.context).ends e)) ∙ is in cc

settles : (m m1 : Machine) (o : ObjName) (e f : End) (queues : List CompletionQueue) → IsQuiet m m1 → has_end m1 o ≡ true → e.name ≡ (end_of m1 o).name → IsReservedAs e f → IsSettled m (with_queues (with_end m1 o e) o.context queues) o f queues
settles m m1 o e f queues quiet there name left =
    let m2 : Machine = with_end m1 o e in
    let own : e.name ≡ o.name = name ∙ end_name m1 o in
    let changed = end_is_changed m1 o e there own name in
    let context = context_there m2 o (there_kept m1 o o e (context_there m1 o there) (end_there m1 o e there own name) own ∙ there) in
    record {
      here = subst (λ (z : End). IsReservedAs z f) (sym (queues_ends m2 o.context queues o ∙ changed.here)) left;
      others = λ q apart. subst (λ (z : End). IsReservedAs z (end_of m q)) (sym (queues_ends m2 o.context queues q ∙ changed.others q apart)) (quiet.ends q);
      queues_here = queues_there m2 o.context queues context;
      queues_apart = λ c apart. queues_elsewhere m2 o.context queues context c apart ∙ (end_queues m1 o e c ∙ quiet.queues c);
    }

end_settles : (m : Machine) (o : ObjName) (s : WcStatus) → (end_of m o).connected ≡ true → IsSettled m (ended_with m o s) o (closed (end_of m o)) (failed_queues (end_of m o) s (receives_of (end_of m o)) (context_of m o.context).queues)
unfolding ended_with
end_settles m o s there =
    settles m m o (closed (end_of m o)) (closed (end_of m o)) (failed_queues (end_of m o) s (receives_of (end_of m o)) (context_of m o.context).queues) (quiet_itself m) (connected_there m o there) (closed_name (end_of m o)) (reserved_itself (closed (end_of m o)))

module _ (m : Machine) (o : ObjName) where
  abbrev e : End
  e = end_of m o

  abbrev p : ObjName
  p = (end_of m o).peer

  abbrev x : End
  x = end_of m (end_of m o).peer

  refuse_settles : (why : RefusalReason) → (end_of m (end_of m o).peer).connected ≡ true → IsSettled m (refuse m o why) (end_of m o).peer (closed x) (refused_queues x why (context_of m (end_of m o).peer.context).queues)
  unfolding refuse refuse_at
  refuse_settles why there =
      let m1 : Machine = with_end m o (denied e why) in
      let quiet : IsQuiet m m1 = quiet_end m o (denied e why) (denied_name e why) (denied_as e why) in
      settles m m1 p (closed (end_of m1 p)) (closed x) (refused_queues x why (context_of m p.context).queues) quiet (connected_there m1 p (one_kept m o (denied e why) p (denied_name e why) (denied_alike e why).connected ∙ there)) (closed_name (end_of m1 p))
      (closed_as (end_of m1 p) x (quiet.ends p))

  run_settles : (n : ℕ) → (end_of m (end_of m o).peer).connected ≡ true →
      IsSettled m (run m o n) (end_of m o).peer (receiving (current e).request.shape (fills e n) x) (completed x.receive_queue (arrivals e n x) (context_of m (end_of m o).peer.context).queues)
  unfolding run run_towards
  run_settles n there =
      let shape : Shape = (current e).request.shape in
      let whole : Bool = fills e n in
      let m1 : Machine = with_end m o (advanced e n) in
      let m2 : Machine = placing m1 p.context e x (step.next_bytes e n) in
      let quiet : IsQuiet m m2 = quiet_then m m1 m2 (quiet_places m1 p.context e x (step.next_bytes e n)) (quiet_end m o (advanced e n) (advanced_name e n) (advanced_as e n)) in
      let still = placing_kept m1 p.context e x (step.next_bytes e n) p ∙ (one_kept m o (advanced e n) p (advanced_name e n) (advanced_alike e n).connected ∙ there) in
      settles m m2 p (receiving shape whole (end_of m2 p)) (receiving shape whole x) (completed x.receive_queue (arrivals e n x) (context_of m p.context).queues) quiet (connected_there m2 p still) (received_name shape whole (end_of m2 p))
      (received_as shape whole (end_of m2 p) x (quiet.ends p))

  abbrev told : List Completion
  told = success (end_of m o) (front (end_of m o))

  completing_is : completing m o.context (end_of m o).send_queue told ≡ with_queues m o.context (completed (end_of m o).send_queue told (context_of m o.context).queues)
  unfolding completing with_queue with_queue_in queue_of with_queues completed
  completing_is = refl

  tell_settles : (end_of m o).connected ≡ true → IsSettled m (tell m o) o (told_one (end_of m o)) (completed (end_of m o).send_queue (success (end_of m o) (front (end_of m o))) (context_of m o.context).queues)
  unfolding tell tell_at
  tell_settles there =
      let queues : List CompletionQueue = completed e.send_queue told (context_of m o.context).queues in
      let m1 : Machine = completing m o.context e.send_queue told in
      let m2 : Machine = put_old m1 o.context (front e).request (slice_get e.answers e.told) in
      let context = context_there m o (connected_there m o there) in
      let old : IsQuiet m1 m2 = quiet_old m1 o.context (front e).request (slice_get e.answers e.told) in
      let same : (q : ObjName) → end_of m2 q ≡ end_of m q = λ q. end_of-put_old m1 o.context (front e).request (slice_get e.answers e.told) q ∙ end_of-completing m o.context e.send_queue told q in
      let then' : End = told_one (end_of m2 o) in
      let changed = end_is_changed m2 o then' (connected_there m2 o (ap (λ (z : End). z.connected) (same o) ∙ there)) (told_name (end_of m2 o) ∙ end_name m2 o) (told_name (end_of m2 o)) in
      record {
        here = same_left (end_of (with_end m2 o then') o) (told_one e) (changed.here ∙ ap told_one (same o));
        others = λ q apart. same_left (end_of (with_end m2 o then') q) (end_of m q) (changed.others q apart ∙ same q);
        queues_here = end_queues m2 o then' o.context ∙ (old.queues o.context ∙ (ap (λ (k : Machine). (context_of k o.context).queues) completing_is ∙ queues_there m o.context queues context));
        queues_apart = λ c apart. end_queues m2 o then' c ∙ (old.queues c ∙ (ap (λ (k : Machine). (context_of k c).queues) completing_is ∙ queues_elsewhere m o.context queues context c apart));
      }

-- ---- the receiver's queue, after a step of connection j

-- more stands of connection j, which its end at the receiver had left, and each other end there has the same left
pub record IsStandingMore (j : ℕ) (m m' : Machine) : Type 0 where
  pub more : List Completion
  pub receives : ℕ
  pub requests : ℕ
  pub are : AreOf j receives requests more
  pub stands : standing m' receiver ≡ standing m receiver ++ more
  pub receives_fit : receives + receives_left (end_of m' (receiver_end j)) ≤ receives_left (end_of m (receiver_end j))
  pub requests_fit : requests + untold_count (end_of m' (receiver_end j)) ≤ untold_count (end_of m (receiver_end j))
  pub others_receive : (i : ℕ) → receiver_end i ≢ receiver_end j → receives_left (end_of m' (receiver_end i)) ≡ receives_left (end_of m (receiver_end i))
  pub others_request : (i : ℕ) → receiver_end i ≢ receiver_end j → untold_count (end_of m' (receiver_end i)) ≡ untold_count (end_of m (receiver_end i))

module _ (m m' : Machine) where
  standing_with : (queues : List CompletionQueue) → (context_of m' receiver).queues ≡ queues → standing m' receiver ≡ (the_queue queues).entries
  unfolding queue_of
  standing_with queues e = ap (λ (qs : List CompletionQueue). (the_queue qs).entries) e

  -- nothing more stands
  still_stands : (j : ℕ) → (context_of m' receiver).queues ≡ (context_of m receiver).queues → ((i : ℕ) → IsReservedAs (end_of m' (receiver_end i)) (end_of m (receiver_end i))) → IsStandingMore j m m'
  unfolding queue_of
  still_stands j queues left = record {
    more = [];
    receives = 0;
    requests = 0;
    are = none_of j;
    stands = standing_with (context_of m receiver).queues queues ∙ sym (append-nil (standing m receiver));
    receives_fit = let same = receives_as (end_of m' (receiver_end j)) (end_of m (receiver_end j)) (left j) in omega (arith, same);
    requests_fit = let same = requests_as (end_of m' (receiver_end j)) (end_of m (receiver_end j)) (left j) in omega (arith, same);
    others_receive = λ i apart. receives_as (end_of m' (receiver_end i)) (end_of m (receiver_end i)) (left i);
    others_request = λ i apart. requests_as (end_of m' (receiver_end i)) (end_of m (receiver_end i)) (left i);
  }

  quiet_stands : (j : ℕ) → IsQuiet m m' → IsStandingMore j m m'
  quiet_stands j quiet = still_stands j (quiet.queues receiver) (λ i. quiet.ends (receiver_end i))

  module _ (j : ℕ) (number : connection_of (end_of m (receiver_end j)).number ≡ j) where
    own_stands : (e : End) (queues : List CompletionQueue) → IsSettled m m' (receiver_end j) e queues → IsCompleted (end_of m (receiver_end j)) e (context_of m receiver).queues queues → IsStandingMore j m m'
    unfolding queue_of
    own_stands e queues s k = record {
      more = k.more;
      receives = k.receives;
      requests = k.requests;
      are = subst (λ (i : ℕ). AreOf i k.receives k.requests k.more) number k.are;
      stands = standing_with queues s.queues_here ∙ k.longer.entries;
      receives_fit = let same = receives_as (end_of m' (receiver_end j)) e s.here in let fit = k.receives_fit in omega (arith, same, fit);
      requests_fit = let same = requests_as (end_of m' (receiver_end j)) e s.here in let fit = k.requests_fit in omega (arith, same, fit);
      others_receive = λ i apart. receives_as (end_of m' (receiver_end i)) (end_of m (receiver_end i)) (s.others (receiver_end i) apart);
      others_request = λ i apart. requests_as (end_of m' (receiver_end i)) (end_of m (receiver_end i)) (s.others (receiver_end i) apart);
    }

    settled_stands : (o : ObjName) (e : End) (queues : List CompletionQueue) → IsOf j o → IsSettled m m' o e queues → IsCompleted (end_of m o) e (context_of m o.context).queues queues → IsStandingMore j m m'
    settled_stands o e queues (inl is) s k =
        still_stands j (s.queues_apart receiver (λ h. let contexts : receiver ≡ sender j = h ∙ ap (λ (q : ObjName). q.context) is in cc))
        (λ i. s.others (receiver_end i) (λ h. let contexts : receiver ≡ sender j = ap (λ (q : ObjName). q.context) (h ∙ is) in cc))
    settled_stands o e queues (inr is) s k =
        subst (λ (q : ObjName). IsSettled m m' q e queues → IsCompleted (end_of m q) e (context_of m q.context).queues queues → IsStandingMore j m m') (sym is) (own_stands e queues) s k

-- ---- each step of connection j

-- a step leaves all ends and queues as they are, but for what no queue shows; or it changes one end of the connection and its queue, and
-- where that end has ended then, it had ended before, or E says why
pub data IsStepOf (j : ℕ) (E : ObjName → Type 0) (m m' : Machine) : Type 0 where
  QuietStep : IsQuiet m m' → IsStepOf j E m m'
  SettledStep : (o : ObjName) (e : End) (queues : List CompletionQueue) → IsOf j o → IsSettled m m' o e queues → IsCompleted (end_of m o) e (context_of m o.context).queues queues → (e.ended ≡ true → ((end_of m o).ended ≡ true) ⊎ E o) → IsStepOf j E m m'

-- a connected end, with its queue
record IsThere (m : Machine) (o : ObjName) : Type 0 where
  connected : (end_of m o).connected ≡ true
  queue : has_queue m o.context queue_name ≡ true
  send : (end_of m o).send_queue ≡ queue_name
  receive : (end_of m o).receive_queue ≡ queue_name

module _ (m : Machine) (j : ℕ) (y : IsOpened m j) (number : connection_of (end_of m (receiver_end j)).number ≡ j) where
  there_of : (o : ObjName) → IsOf j o → IsThere m o
  there_of o (inl e) = subst (IsThere m) (sym e) (record { connected = y.sender_joined.connected; queue = y.sender_queue; send = y.sender_joined.send_queue; receive = y.sender_joined.receive_queue })
  there_of o (inr e) = subst (IsThere m) (sym e) (record { connected = y.receiver_joined.connected; queue = y.receiver_queue; send = y.receiver_joined.send_queue; receive = y.receiver_joined.receive_queue })

  peer_of_it : (o : ObjName) → IsOf j o → IsOf j (end_of m o).peer
  peer_of_it o (inl e) = inr (ap (λ (q : ObjName). (end_of m q).peer) e ∙ y.sender_joined.peer_is)
  peer_of_it o (inr e) = inl (ap (λ (q : ObjName). (end_of m q).peer) e ∙ y.receiver_joined.peer_is)

  module _ (o : ObjName) (of : IsOf j o) where
    -- an end that has the same left
    one_is : (E : ObjName → Type 0) (f : End) → f.name ≡ (end_of m o).name → IsReservedAs f (end_of m o) → IsStepOf j E m (with_end m o f)
    one_is E f name left = QuietStep (quiet_end m o f name left)

    ends_is : (E : ObjName → Type 0) → E o → (s : WcStatus) → IsStepOf j E m (ended_with m o s)
    ends_is E why s =
        let z = there_of o of in
        SettledStep o (closed (end_of m o)) (failed_queues (end_of m o) s (receives_of (end_of m o)) (context_of m o.context).queues) of (end_settles m o s z.connected)
        (end_completes (context_of m o.context).queues z.queue (end_of m o) z.send z.receive s) (λ ended. inr why)

    expires_is : IsStepOf j (λ p. EndsIt m p (steps.Expire o)) m (expire m o)
    unfolding expire expired
    expires_is = by ((end_of m o).spent == (end_of m o).retry) refl
      where
        by : (b : Bool) → ((end_of m o).spent == (end_of m o).retry) ≡ b → IsStepOf j (λ p. EndsIt m p (steps.Expire o)) m (if b then ended_with m o status.RetryExceeded else in_end m o expired)
        by true e = ends_is (λ p. EndsIt m p (steps.Expire o)) (refl, eqb-true (end_of m o).spent (end_of m o).retry e) status.RetryExceeded
        by false e = one_is (λ p. EndsIt m p (steps.Expire o)) _ refl (record { number = refl; send_queue = refl; receive_queue = refl; posted = refl; told = refl; in_use = refl; unused = refl; ended = refl })

    waits_is : IsStepOf j (λ p. EndsIt m p (steps.Wait o)) m (wait m o)
    unfolding wait waited
    waits_is = by ((end_of m o).rnr == 7) ((end_of m o).waits == (end_of m o).rnr) refl refl
      where
        by : (a b : Bool) → ((end_of m o).rnr == 7) ≡ a → ((end_of m o).waits == (end_of m o).rnr) ≡ b → IsStepOf j (λ p. EndsIt m p (steps.Wait o)) m (if a then m else if b then ended_with m o status.RnrExceeded else in_end m o waited)
        by true b d e = QuietStep (quiet_itself m)
        by false true d e = ends_is (λ p. EndsIt m p (steps.Wait o)) (refl, eqb-false (end_of m o).rnr 7 d, eqb-true (end_of m o).waits (end_of m o).rnr e) status.RnrExceeded
        by false false d e = one_is (λ p. EndsIt m p (steps.Wait o)) _ refl (record { number = refl; send_queue = refl; receive_queue = refl; posted = refl; told = refl; in_use = refl; unused = refl; ended = refl })

    tells_is : (E : ObjName → Type 0) → step.may_tell m o ≡ true → IsStepOf j E m (tell m o)
    tells_is E may =
        let z = there_of o of in
        SettledStep o (told_one (end_of m o)) (completed (end_of m o).send_queue (success (end_of m o) (front (end_of m o))) (context_of m o.context).queues) of (tell_settles m o z.connected)
        (tell_completes (context_of m o.context).queues z.queue (end_of m o) z.send z.receive (may_told m o may)) (λ ended. inl (sym (told_ended (end_of m o)) ∙ ended))

    refuses_is : (why : RefusalReason) → IsStepOf j (λ p. EndsIt m p (steps.Refuse o why)) m (refuse m o why)
    refuses_is why =
        let p : ObjName = (end_of m o).peer in
        let z = there_of (end_of m o).peer (peer_of_it o of) in
        SettledStep p (closed (end_of m p)) (refused_queues (end_of m p) why (context_of m p.context).queues) (peer_of_it o of) (refuse_settles m o why z.connected)
        (refusal_completes (context_of m p.context).queues z.queue (end_of m p) z.send z.receive why) (λ ended. inr refl)

    runs_is : (E : ObjName → Type 0) (n : ℕ) → IsStepOf j E m (run m o n)
    runs_is E n =
        let p : ObjName = (end_of m o).peer in
        let z = there_of (end_of m o).peer (peer_of_it o of) in
        SettledStep p (receiving (current (end_of m o)).request.shape (fills (end_of m o) n) (end_of m p)) (completed (end_of m p).receive_queue (arrivals (end_of m o) n (end_of m p)) (context_of m p.context).queues) (peer_of_it o of)
        (run_settles m o n z.connected) (run_completes (context_of m p.context).queues z.queue (end_of m p) z.send z.receive (end_of m o) n)
        (λ ended. inl (sym (received_stays (current (end_of m o)).request.shape (fills (end_of m o) n) (end_of m p)) ∙ ended))

  pub steps_are : (s : MachineStep) → IsInner s → IsOf j (stepping s) → is_enabled m s ≡ true → IsStepOf j (λ p. EndsIt m p s) m (effect m s)
  unfolding read_turn acted_with dried dried_at offered with_offer knowing with_known bounce step.may_bounce
  steps_are (steps.Verb verb given) inner of may = absurd inner
  steps_are (steps.Run o n) inner of may = runs_is o of (λ p. EndsIt m p (steps.Run o n)) n
  steps_are (steps.Atom o) inner of may = QuietStep (atom_quiet m o)
  steps_are (steps.ReadTurn o) inner of may = one_is o of (λ p. EndsIt m p (steps.ReadTurn o)) _ refl (record { number = refl; send_queue = refl; receive_queue = refl; posted = refl; told = refl; in_use = refl; unused = refl; ended = refl })
  steps_are (steps.Refuse o why) inner of may = refuses_is o of why
  steps_are (steps.Dry o) inner of may = one_is o of (λ p. EndsIt m p (steps.Dry o)) _ refl (record { number = refl; send_queue = refl; receive_queue = refl; posted = refl; told = refl; in_use = refl; unused = refl; ended = refl })
  steps_are (steps.Offer o k offset n) inner of may = one_is o of (λ p. EndsIt m p (steps.Offer o k offset n)) _ refl (record { number = refl; send_queue = refl; receive_queue = refl; posted = refl; told = refl; in_use = refl; unused = refl; ended = refl })
  steps_are (steps.Land o k) inner of may = QuietStep (land_quiet m o k)
  steps_are (steps.Known o bytes) inner of may = one_is o of (λ p. EndsIt m p (steps.Known o bytes)) _ refl (record { number = refl; send_queue = refl; receive_queue = refl; posted = refl; told = refl; in_use = refl; unused = refl; ended = refl })
  steps_are (steps.Tell o) inner of may = tells_is o of (λ p. EndsIt m p (steps.Tell o)) may
  steps_are (steps.Expire o) inner of may = expires_is o of
  steps_are (steps.Wait o) inner of may = waits_is o of
  steps_are (steps.Bounce o) inner of may =
      ends_is o of (λ p. EndsIt m p (steps.Bounce o)) (refl, (both (step.has_untold m o) (step.is_denied (slice_get (end_of m o).answers (end_of m o).told)) may).1) (bounce_status (slice_get (end_of m o).answers (end_of m o).told))

  -- .. so more stands of that connection at most
  pub steps_stand : (s : MachineStep) → IsInner s → IsOf j (stepping s) → is_enabled m s ≡ true → IsStandingMore j m (effect m s)
  steps_stand s inner of may = by (effect m s) (steps_are s inner of may)
    where
      by : (m' : Machine) → IsStepOf j (λ p. EndsIt m p s) m m' → IsStandingMore j m m'
      by m' (QuietStep quiet) = quiet_stands m m' j quiet
      by m' (SettledStep o e queues is t k why) = settled_stands m m' j number o e queues is t k
