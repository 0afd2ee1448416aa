-- Inner steps add nothing to the load of a completion queue.
use Rattle.std.proofs.Common.{arith, ◌≡◌, ◌≢◌, ℕ, suc, ◌+◌, ◌-◌, ◌<◌, ◌≤◌, List, [], ◌∷◌, ◌++◌, drop, length, true, false, Bool, refl, sym, subst, ap, ◌∙◌, Some, None, Option, ◌⊎◌, inl, inr, length-drop, ltb-true}
use Rattle.std.specs.Prelude.{bytes_eq, if◌then◌else◌, is_some, option_to_list, slice_get, ◌&&◌, ◌==◌}
use Rattle.std.proofs.lemmas.List.{length-map}
use Rattle.rdma_types.specs.declared.answers.RefusalReason.{RefusalReason}
use Rattle.rdma_types.specs.declared.answers.RefusalReason.TheVariants as whys
use Rattle.rdma_types.specs.declared.names.Name.{Name}
use Rattle.rdma_types.specs.declared.names.ObjName.{ObjName}
use Rattle.rdma_types.specs.declared.requests.Receive.{Receive}
use Rattle.rdma_types.specs.declared.requests.Request.{Request}
use Rattle.rdma_types.specs.declared.requests.WcStatus.{WcStatus}
use Rattle.rdma_types.specs.declared.requests.WcStatus.TheVariants as status
use Rattle.rdma_types.specs.Kinds.{is_send, kind_of, request_done, size_of}
use Rattle.rdma_types.specs.Memory.{local_key, remote_key, word_bytes}
use Rattle.rdma_types.specs.Objects.{CompletionQueue, Posted}
use Rattle.packetless_machine.specs.declared.reply.Reply.{Reply}
use Rattle.packetless_machine.specs.declared.reply.Reply.TheVariants.{Denied, Finished, OldValue}
use Rattle.packetless_machine.specs.declared.steps.MachineStep.TheVariants as steps
use Rattle.packetless_machine.specs.Machine.{End, Machine, completed, completing, context_of, end_of, in_end, put_at, regions_of, reserved_by, untold_count, used_count, with_end}
use Rattle.packetless_machine.specs.Steps as step
use Rattle.packetless_machine.specs.Steps.{acted_with, advanced, arrivals, atom, atom_on, bounce, closed, current, denied, dried, dried_at, ended_with, expire, expired, failed_queues, failed_receives, failed_requests, fills, front, has_untold, knowing, land_at, landed, may_bounce, may_tell, may_wait, offered, placing, put_in_receive, put_old, read_turn, receive_for, receives_of, receiving, received_whole, refuse, refuse_at, refused_queues, run, run_towards, success, tell, tell_at, told_one, unused_after, untold, used_by, wait, waited, with_known, with_offer}
use Rattle.packetless_machine.proofs.Views.{end_of-completing, end_of-put_old, end_of-with_regions}
use Rattle.law_mailbox.specs.Room.{StepsAddNoLoad, load}
use Rattle.law_mailbox.proofs.work.Channels.{both}
use Rattle.law_mailbox.proofs.connection.Towards.{advanced_name}
use Rattle.law_mailbox.proofs.queue_room.Loads.{completed_entries, completing_accounts, completing_elsewhere, end_accounts, end_elsewhere, end_queues, entries_in, if_same, quiet_end, regions_load, regions_queues, settles}
use Rattle.law_simulation.proofs.relation.Tables.{name_or_not}
use Rattle.law_simulation.proofs.runs.Acting.{end_related}

-- ---- an end that fails

requests_long : (number : ℕ) (s : WcStatus) (rs : List Posted) → length (failed_requests number s rs) ≡ length rs
unfolding failed_requests
requests_long number s [] = refl
requests_long number s (r ∷ rs) = ap suc (requests_long number status.Flush rs)

receives_long : (number : ℕ) (vs : List Receive) → length (failed_receives number vs) ≡ length vs
unfolding failed_receives
receives_long number vs = length-map vs _

pub all_receives : (v : Option Receive) (vs : List Receive) → length (option_to_list v ++ vs) ≡ used_count v + length vs
unfolding used_count
all_receives None vs = omega arith
all_receives (Some v) vs = omega arith

failed_entries : (q : Name) (e : End) (s : WcStatus) (vs : List Receive) (qs : List CompletionQueue) → entries_in q (failed_queues e s vs qs) ≤ entries_in q qs + (if_same e.send_queue q (untold_count e) + if_same e.receive_queue q (length vs))
unfolding failed_queues untold_count untold
failed_entries q e s vs qs =
    let first = completed_entries q e.send_queue (failed_requests e.number s (drop e.told e.posted)) qs in
    let then' = completed_entries q e.receive_queue (failed_receives e.number vs) (completed e.send_queue (failed_requests e.number s (drop e.told e.posted)) qs) in
    let requests = requests_long e.number s (drop e.told e.posted) ∙ length-drop e.told e.posted in
    let receives = receives_long e.number vs in
    let a = ap (if_same e.send_queue q) requests in
    let b = ap (if_same e.receive_queue q) receives in
    omega (arith, first, then', a, b)

closed_reserves : (q : Name) (e : End) → reserved_by q (closed e) ≡ 0
unfolding reserved_by closed untold_count used_count
closed_reserves q e = let none : length e.posted - length e.posted ≡ 0 = omega arith in by (bytes_eq e.send_queue q) (bytes_eq e.receive_queue q) none
  where
    by : (a b : Bool) → length e.posted - length e.posted ≡ 0 → (if a then length e.posted - length e.posted else 0) + (if b then 0 else 0) ≡ 0
    by true true none = omega (arith, none)
    by true false none = omega (arith, none)
    by false true none = refl
    by false false none = refl

-- so many receives, or fewer, of an end
fails_within : (q : Name) (e : End) (s : WcStatus) (vs : List Receive) (qs : List CompletionQueue) (more : ℕ) → length vs + more ≤ used_count e.in_use + length e.unused → entries_in q (failed_queues e s vs qs) + if_same e.receive_queue q more + reserved_by q (closed e) ≤ entries_in q qs + reserved_by q e
unfolding reserved_by
fails_within q e s vs qs more few =
    let f = failed_entries q e s vs qs in
    let none = closed_reserves q e in
    let both = within (bytes_eq e.receive_queue q) in
    omega (arith, f, none, both)
  where
    within : (b : Bool) → (if b then length vs else 0) + (if b then more else 0) ≤ (if b then used_count e.in_use + length e.unused else 0)
    within true = omega (arith, few)
    within false = omega arith

ended_load : (m : Machine) (o : ObjName) (s : WcStatus) (c q : Name) → load (ended_with m o s) c q ≤ load m c q
unfolding ended_with
ended_load m o s =
    settles m o (closed (end_of m o)) (failed_queues (end_of m o) s (receives_of (end_of m o)) (context_of m o.context).queues)
    (λ q. let few = all_receives (end_of m o).in_use (end_of m o).unused in
    let f = fails_within q (end_of m o) s (receives_of (end_of m o)) (context_of m o.context).queues 0 (omega (arith, few)) in
    omega (arith, f))

-- ---- quiet steps

placed_load : (m : Machine) (c : Name) (e x : End) (new : List ℕ) (d q : Name) → load (placing m c e x new) d q ≡ load m d q
unfolding placing put_in_receive
placed_load m c e x new d q = by (is_send (kind_of (current e))) (receive_for x)
  where
    by : (b : Bool) (v : Option Receive) → load (if b then put_in_receive m c e.into new v else step.put_in_range m c e.into new (current e)) d q ≡ load m d q
    by true None = refl
    by true (Some v) = regions_load m c _ d q
    by false v = regions_load m c _ d q

old_load : (m : Machine) (c : Name) (r : Request) (reply : Option Reply) (d q : Name) → load (put_old m c r reply) d q ≡ load m d q
unfolding put_old
old_load m c r None d q = refl
old_load m c r (Some Finished) d q = refl
old_load m c r (Some (OldValue value)) d q = regions_load m c _ d q
old_load m c r (Some (Denied why)) d q = refl

same_end : (m : Machine) (o : ObjName) (e : End) → ((q : Name) → reserved_by q e ≡ reserved_by q (end_of m o)) → (c q : Name) → load (with_end m o e) c q ≤ load m c q
same_end m o e same = quiet_end m o e (λ q. let s = same q in omega (arith, s))

atom_load : (m : Machine) (o : ObjName) (c q : Name) → load (atom m o) c q ≤ load m c q
unfolding atom atom_on acted_with reserved_by untold_count
atom_load m o c q =
    let r : Posted = current (end_of m o) in
    let old : ℕ = step.word_there (current (end_of m o)) (step.peer_regions m o) in
    let first = same_end m o (acted_with (end_of m o) (OldValue old)) (λ p. refl) c q in
    let then' = regions_load (in_end m o (λ e. acted_with e (OldValue old))) (end_of m o).peer.context (put_at remote_key r.request.shape.rkey r.request.shape.remote (word_bytes (step.changed_word r old)) (regions_of (in_end m o (λ e. acted_with e (OldValue old))) (end_of m o).peer.context)) c q in
    omega (arith, first, then')

land_load : (m : Machine) (o : ObjName) (k : ℕ) (c q : Name) → load (landed m o k) c q ≤ load m c q
unfolding landed land_at with_known reserved_by untold_count
land_load m o k c q =
    let bytes : List ℕ = step.bytes_of (slice_get (end_of m o).offers k) in
    let m1 : Machine = step.putting m o.context local_key (front (end_of m o)).request.lkey ((front (end_of m o)).request.local + (end_of m o).known) bytes in
    let first = regions_load m o.context (put_at local_key (front (end_of m o)).request.lkey ((front (end_of m o)).request.local + (end_of m o).known) bytes (regions_of m o.context)) c q in
    let then' = same_end m1 o (with_known (end_of m1 o) ((end_of m o).known + length bytes)) (λ n. refl) c q in
    omega (arith, first, then')

-- ---- Tell

one_success : (e : End) (r : Posted) → length (success e r) ≤ 1
unfolding success
one_success e r = by r.request.signaled
  where
    by : (b : Bool) → length (if b then request_done e.number r status.Success (size_of r) ∷ [] else []) ≤ 1
    by true = omega arith
    by false = omega arith

tells_within : (q : Name) (e : End) (n : ℕ) → n ≤ 1 → e.told < length e.posted → reserved_by q (told_one e) + if_same e.send_queue q n ≤ reserved_by q e
unfolding reserved_by told_one untold_count
tells_within q e n one some' = by (bytes_eq e.send_queue q)
  where
    by : (b : Bool) → ((if b then length e.posted - suc e.told else 0) + (if bytes_eq e.receive_queue q then used_count e.in_use + length e.unused else 0)) + (if b then n else 0) ≤
        (if b then length e.posted - e.told else 0) + (if bytes_eq e.receive_queue q then used_count e.in_use + length e.unused else 0)
    by true = omega (arith, one, some')
    by false = omega arith

module _ (m : Machine) (o : ObjName) (some' : (end_of m o).told < length (end_of m o).posted) (c q : Name) where
  abbrev m1 : Machine
  m1 = completing m o.context (end_of m o).send_queue (success (end_of m o) (front (end_of m o)))

  abbrev m2 : Machine
  m2 = put_old m1 o.context (front (end_of m o)).request (slice_get (end_of m o).answers (end_of m o).told)

  same : end_of m2 o ≡ end_of m o
  same = end_of-put_old m1 o.context (front (end_of m o)).request (slice_get (end_of m o).answers (end_of m o).told) o ∙ end_of-completing m o.context (end_of m o).send_queue (success (end_of m o) (front (end_of m o))) o

  here : load (with_end m2 o (told_one (end_of m2 o))) o.context q ≤ load m o.context q
  here =
      let a = end_accounts m2 o (told_one (end_of m2 o)) q in
      let b = old_load m1 o.context (front (end_of m o)).request (slice_get (end_of m o).answers (end_of m o).told) o.context q in
      let d = completing_accounts m o.context (end_of m o).send_queue (success (end_of m o) (front (end_of m o))) q in
      let t = tells_within q (end_of m o) (length (success (end_of m o) (front (end_of m o)))) (one_success (end_of m o) (front (end_of m o))) some' in
      let old = ap (reserved_by q) same in
      let new = ap (λ (x : End). reserved_by q (told_one x)) same in
      omega (arith, a, b, d, t, old, new)

  either : (c ≡ o.context) ⊎ (c ≢ o.context) → load (with_end m2 o (told_one (end_of m2 o))) c q ≤ load m c q
  either (inl is) = subst (λ (d : Name). load (with_end m2 o (told_one (end_of m2 o))) d q ≤ load m d q) (sym is) here
  either (inr apart) =
      let a = end_elsewhere m2 o (told_one (end_of m2 o)) q c apart in
      let b = old_load m1 o.context (front (end_of m o)).request (slice_get (end_of m o).answers (end_of m o).told) c q in
      let d = completing_elsewhere m o.context (end_of m o).send_queue (success (end_of m o) (front (end_of m o))) q c apart in
      omega (arith, a, b, d)

  told_load : load (tell m o) c q ≤ load m c q
  unfolding tell tell_at
  told_load = either (name_or_not c o.context)

-- ---- the peer of an end that steps

-- what an end reserves is as before, and whether it has ended
pub record IsReservedAs (a b : End) : Type 0 where
  pub number : a.number ≡ b.number
  pub send_queue : a.send_queue ≡ b.send_queue
  pub receive_queue : a.receive_queue ≡ b.receive_queue
  pub posted : a.posted ≡ b.posted
  pub told : a.told ≡ b.told
  pub in_use : a.in_use ≡ b.in_use
  pub unused : a.unused ≡ b.unused
  pub ended : a.ended ≡ b.ended

pub reserved_itself : (a : End) → IsReservedAs a a
reserved_itself a = record { number = refl; send_queue = refl; receive_queue = refl; posted = refl; told = refl; in_use = refl; unused = refl; ended = refl }

reserved_as : (q : Name) (a b : End) → IsReservedAs a b → reserved_by q a ≡ reserved_by q b
unfolding reserved_by untold_count
reserved_as q a b s = λ k. (if bytes_eq (s.send_queue k) q then length (s.posted k) - s.told k else 0) + (if bytes_eq (s.receive_queue k) q then used_count (s.in_use k) + length (s.unused k) else 0)

-- ---- Refuse

pub refused_few : (x : End) (why : RefusalReason) → length (step.refused_receives x why) + length (step.refused_entries x why) ≤ used_count x.in_use + length x.unused
unfolding step.refused_receives step.refused_entries step.too_long receive_for step.first_receive unused_after used_count
refused_few x whys.Invalid = let a = all_receives x.in_use x.unused in omega (arith, a)
refused_few x whys.Access = let a = all_receives x.in_use x.unused in omega (arith, a)
refused_few x whys.Length = by x.in_use x.unused
  where
    by : (v : Option Receive) (vs : List Receive) → length (if is_some v then vs else drop 1 vs) + length (step.too_long x.number (step.first_receive v vs)) ≤ used_count v + length vs
    by (Some v) vs = omega arith
    by None [] = omega arith
    by None (v ∷ vs) = omega arith

refused_within : (q : Name) (x : End) (why : RefusalReason) (qs : List CompletionQueue) → entries_in q (refused_queues x why qs) + reserved_by q (closed x) ≤ entries_in q qs + reserved_by q x
unfolding refused_queues
refused_within q x why qs =
    let first = completed_entries q x.receive_queue (step.refused_entries x why) qs in
    let f = fails_within q x status.Flush (step.refused_receives x why) (completed x.receive_queue (step.refused_entries x why) qs) (length (step.refused_entries x why)) (refused_few x why) in
    omega (arith, first, f)

refused_load : (m : Machine) (o : ObjName) (why : RefusalReason) (c q : Name) → load (refuse m o why) c q ≤ load m c q
unfolding refuse refuse_at denied
refused_load m o why c q =
    let p : ObjName = (end_of m o).peer in
    let x : End = end_of m (end_of m o).peer in
    let e : End = denied (end_of m o) why in
    let m1 : Machine = with_end m o (denied (end_of m o) why) in
    let first = same_end m o e (λ n. reserved_as n e (end_of m o) (record { number = refl; send_queue = refl; receive_queue = refl; posted = refl; told = refl; in_use = refl; unused = refl; ended = refl })) c q in
    let as' : IsReservedAs (end_of m1 p) x = end_related IsReservedAs reserved_itself m o e p refl (record { number = refl; send_queue = refl; receive_queue = refl; posted = refl; told = refl; in_use = refl; unused = refl; ended = refl }) in
    let then' = settles m1 p (closed (end_of m1 p)) (refused_queues x why (context_of m p.context).queues)
    (λ n. let w = refused_within n x why (context_of m p.context).queues in
    let a = closed_reserves n x in
    let b = closed_reserves n (end_of m1 p) in
    let same = reserved_as n (end_of m1 p) x as' in
    let queues = ap (entries_in n) (end_queues m o e p.context) in
    omega (arith, w, a, b, same, queues)) c q in
    omega (arith, first, then')

-- ---- Run

module _ (q : Name) (x : End) where
  uses_within : (v : Option Receive) (vs : List Receive) (n : ℕ) → (used_count v + length vs) + n ≤ used_count x.in_use + length x.unused → reserved_by q (record x { in_use = v; unused = vs }) + if_same x.receive_queue q n ≤ reserved_by q x
  unfolding reserved_by untold_count
  uses_within v vs n few = by (bytes_eq x.receive_queue q)
    where
      by : (b : Bool) → ((if bytes_eq x.send_queue q then length x.posted - x.told else 0) + (if b then used_count v + length vs else 0)) + (if b then n else 0) ≤
          (if bytes_eq x.send_queue q then length x.posted - x.told else 0) + (if b then used_count x.in_use + length x.unused else 0)
      by true = omega (arith, few)
      by false = omega arith

-- a receive that a message uses
uses_one : (number : ℕ) (r : Posted) (v : Option Receive) (vs : List Receive) → (used_count None + length (if is_some v then vs else drop 1 vs)) + length (received_whole number r (step.first_receive v vs)) ≤ used_count v + length vs
unfolding used_count received_whole step.first_receive
uses_one number r (Some v) vs = omega arith
uses_one number r None [] = omega arith
uses_one number r None (v ∷ vs) = omega arith

keeps_one : (v : Option Receive) (vs : List Receive) → (used_count (step.first_receive v vs) + length (if is_some v then vs else drop 1 vs)) + 0 ≤ used_count v + length vs
unfolding used_count step.first_receive
keeps_one (Some v) vs = omega arith
keeps_one None [] = omega arith
keeps_one None (v ∷ vs) = omega arith

drops_one : (number : ℕ) (r : Posted) (v : Option Receive) (vs : List Receive) → (used_count v + length (drop 1 vs)) + length (received_whole number r (slice_get vs 0)) ≤ used_count v + length vs
unfolding received_whole
drops_one number r v [] = omega arith
drops_one number r v (w ∷ vs) = omega arith

-- what a Run of e leaves of the receives of x, and how many it completes
module _ (e : End) (n : ℕ) (x : End) (P : End → ℕ → Type 0) (one : (v : Option Receive) (vs : List Receive) (k : ℕ) → (used_count v + length vs) + k ≤ used_count x.in_use + length x.unused → P (record x { in_use = v; unused = vs }) k) where
  pub run_uses : P (receiving (current e).request.shape (fills e n) x) (length (arrivals e n x))
  unfolding receiving arrivals used_by receive_for unused_after received_whole
  run_uses = by (is_send (kind_of (current e))) (fills e n) (is_some (current e).request.shape.imm)
    where
      by : (b w i : Bool) →
          P (if b then record x { in_use = if w then None else step.first_receive x.in_use x.unused; unused = if is_some x.in_use then x.unused else drop 1 x.unused } else if i && w then record x { unused = drop 1 x.unused } else x)
          (length (if w then received_whole x.number (current e) (if b then step.first_receive x.in_use x.unused else if i then slice_get x.unused 0 else None) else []))
      by true true i = one None (if is_some x.in_use then x.unused else drop 1 x.unused) _ (uses_one x.number (current e) x.in_use x.unused)
      by true false i = one (step.first_receive x.in_use x.unused) (if is_some x.in_use then x.unused else drop 1 x.unused) 0 (keeps_one x.in_use x.unused)
      by false true true = one x.in_use (drop 1 x.unused) _ (drops_one x.number (current e) x.in_use x.unused)
      by false true false = one x.in_use x.unused 0 (omega arith)
      by false false true = one x.in_use x.unused 0 (omega arith)
      by false false false = one x.in_use x.unused 0 (omega arith)

run_fits : (q : Name) (e : End) (n : ℕ) (x : End) → reserved_by q (receiving (current e).request.shape (fills e n) x) + if_same x.receive_queue q (length (arrivals e n x)) ≤ reserved_by q x
run_fits q e n x = run_uses e n x (λ y k. reserved_by q y + if_same x.receive_queue q k ≤ reserved_by q x) (uses_within q x)

arrivals_as : (e : End) (n : ℕ) (x y : End) → IsReservedAs y x → arrivals e n y ≡ arrivals e n x
unfolding arrivals used_by receive_for
arrivals_as e n x y s = λ k. if fills e n then received_whole (s.number k) (current e) (if is_send (kind_of (current e)) then step.first_receive (s.in_use k) (s.unused k) else if is_some (current e).request.shape.imm then slice_get (s.unused k) 0 else None) else []

pub advanced_as : (e : End) (n : ℕ) → IsReservedAs (advanced e n) e
unfolding advanced acted_with
advanced_as e n = by (fills e n)
  where
    by : (b : Bool) → IsReservedAs (if b then acted_with e Finished else record e { into = e.into + n }) e
    by true = record { number = refl; send_queue = refl; receive_queue = refl; posted = refl; told = refl; in_use = refl; unused = refl; ended = refl }
    by false = record { number = refl; send_queue = refl; receive_queue = refl; posted = refl; told = refl; in_use = refl; unused = refl; ended = refl }

pub placed_end : (m : Machine) (c : Name) (e x : End) (new : List ℕ) (o : ObjName) → end_of (placing m c e x new) o ≡ end_of m o
unfolding placing put_in_receive
placed_end m c e x new o = by (is_send (kind_of (current e))) (receive_for x)
  where
    by : (b : Bool) (v : Option Receive) → end_of (if b then put_in_receive m c e.into new v else step.put_in_range m c e.into new (current e)) o ≡ end_of m o
    by true None = refl
    by true (Some v) = end_of-with_regions m c _ o
    by false v = end_of-with_regions m c _ o

pub placed_queues : (m : Machine) (c : Name) (e x : End) (new : List ℕ) (d : Name) → (context_of (placing m c e x new) d).queues ≡ (context_of m d).queues
unfolding placing put_in_receive
placed_queues m c e x new d = by (is_send (kind_of (current e))) (receive_for x)
  where
    by : (b : Bool) (v : Option Receive) → (context_of (if b then put_in_receive m c e.into new v else step.put_in_range m c e.into new (current e)) d).queues ≡ (context_of m d).queues
    by true None = refl
    by true (Some v) = regions_queues m c _ d
    by false v = regions_queues m c _ d

module _ (m : Machine) (o : ObjName) (n : ℕ) where
  abbrev e : End
  e = end_of m o

  abbrev p : ObjName
  p = (end_of m o).peer

  abbrev x : End
  x = end_of m (end_of m o).peer

  abbrev r1 : Machine
  r1 = with_end m o (advanced (end_of m o) n)

  abbrev r2 : Machine
  r2 = placing r1 p.context e x (step.next_bytes e n)

  met : IsReservedAs (end_of r2 p) x
  met =
      subst (λ (z : End). IsReservedAs z x) (sym (placed_end r1 p.context e x (step.next_bytes e n) p))
      (end_related IsReservedAs reserved_itself m o (advanced e n) p (advanced_name e n) (advanced_as e n))

  run_load : (c q : Name) → load (run m o n) c q ≤ load m c q
  unfolding run run_towards
  run_load c q =
      let first = same_end m o (advanced e n) (λ k. reserved_as k (advanced e n) e (advanced_as e n)) c q in
      let second = placed_load r1 p.context e x (step.next_bytes e n) c q in
      let third = settles r2 p (receiving (current e).request.shape (fills e n) (end_of r2 p)) (completed x.receive_queue (arrivals e n x) (context_of m p.context).queues)
      (λ k. let f = run_fits k e n (end_of r2 p) in
      let done = completed_entries k x.receive_queue (arrivals e n x) (context_of m p.context).queues in
      let long = ap length (arrivals_as e n x (end_of r2 p) met) in
      let queue = met.receive_queue in
      let same = ap (entries_in k) (placed_queues r1 p.context e x (step.next_bytes e n) p.context ∙ end_queues m o (advanced e n) p.context) in
      let moved : if_same (end_of r2 p).receive_queue k (length (arrivals e n (end_of r2 p))) ≡ if_same x.receive_queue k (length (arrivals e n x)) = (λ t. if_same (queue t) k (long t)) in
      omega (arith, f, done, same, moved)) c q in
      omega (arith, first, second, third)

-- ---- each step

expired_load : (m : Machine) (o : ObjName) (c q : Name) → load (expire m o) c q ≤ load m c q
unfolding expire expired reserved_by untold_count
expired_load m o c q = by ((end_of m o).spent == (end_of m o).retry)
  where
    by : (b : Bool) → load (if b then ended_with m o status.RetryExceeded else in_end m o expired) c q ≤ load m c q
    by true = ended_load m o status.RetryExceeded c q
    by false = same_end m o _ (λ k. refl) c q

waited_load : (m : Machine) (o : ObjName) (c q : Name) → load (wait m o) c q ≤ load m c q
unfolding wait waited reserved_by untold_count
waited_load m o c q = by ((end_of m o).rnr == 7) ((end_of m o).waits == (end_of m o).rnr)
  where
    by : (a b : Bool) → load (if a then m else if b then ended_with m o status.RnrExceeded else in_end m o waited) c q ≤ load m c q
    by true b = omega arith
    by false true = ended_load m o status.RnrExceeded c q
    by false false = same_end m o _ (λ k. refl) c q

pub may_told : (m : Machine) (o : ObjName) → may_tell m o ≡ true → (end_of m o).told < length (end_of m o).posted
unfolding may_tell has_untold
may_told m o may = ltb-true (end_of m o).told (length (end_of m o).posted) (both _ _ (both _ _ (both _ _ may).0).1).1

pub steps_add_no_load : StepsAddNoLoad
unfolding read_turn acted_with dried dried_at offered with_offer knowing with_known bounce reserved_by untold_count
steps_add_no_load m (steps.Verb verb given) inner may c q = absurd inner
steps_add_no_load m (steps.Run o n) inner may c q = run_load m o n c q
steps_add_no_load m (steps.Atom o) inner may c q = atom_load m o c q
steps_add_no_load m (steps.ReadTurn o) inner may c q = same_end m o _ (λ k. refl) c q
steps_add_no_load m (steps.Refuse o why) inner may c q = refused_load m o why c q
steps_add_no_load m (steps.Dry o) inner may c q = same_end m o _ (λ k. refl) c q
steps_add_no_load m (steps.Offer o k offset n) inner may c q = same_end m o _ (λ j. refl) c q
steps_add_no_load m (steps.Land o k) inner may c q = land_load m o k c q
steps_add_no_load m (steps.Known o bytes) inner may c q = same_end m o _ (λ k. refl) c q
steps_add_no_load m (steps.Tell o) inner may c q = told_load m o (may_told m o may) c q
steps_add_no_load m (steps.Expire o) inner may c q = expired_load m o c q
steps_add_no_load m (steps.Wait o) inner may c q = waited_load m o c q
steps_add_no_load m (steps.Bounce o) inner may c q = ended_load m o _ c q
