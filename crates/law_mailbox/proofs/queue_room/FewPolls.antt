-- A poll of the receiver takes all that stands in its queue, and few are on each connection then.
use Rattle.std.proofs.Common.{arith, ◌≡◌, ℕ, zero, suc, ◌+◌, ◌-◌, ◌*◌, ◌≤◌, List, [], ◌∷◌, ◌++◌, length, length-append, length-take, take, true, false, Bool, refl, sym, subst, ap, ◌∙◌, append-nil}
use Rattle.std.specs.Prelude.{count_by, flat_map, if◌then◌else◌, option_to_list, ◌==◌, ◌&&◌}
use Rattle.std.proofs.lemmas.List.Concat.{flat_map-append}
use Rattle.std.proofs.lemmas.List.Elements.{All-head, All-nil}
use Rattle.rdma_types.specs.declared.answers.Answer.{Answer}
use Rattle.rdma_types.specs.declared.requests.Completion.{Completion}
use Rattle.rdma_types.specs.declared.requests.WcKind.{WcKind}
use Rattle.rdma_types.specs.declared.requests.WcKind.TheVariants as wc
use Rattle.protocol.specs.declared.events.WorldEvent.TheVariants as world_events
use Rattle.protocol.specs.State.{World}
use Rattle.protocol.specs.WorldStep.{is_live, world_step}
use Rattle.packetless_machine.specs.Machine.{End, Machine, end_of, has_end, untold_count, used_count}
use Rattle.law_simulation.specs.Named.{EventsFollowByName}
use Rattle.law_simulation.specs.Stands.{Stands}
use Rattle.mailbox_rules.specs.declared.due.Due.{Due}
use Rattle.mailbox_rules.specs.declared.due.Due.TheVariants as due
use Rattle.mailbox_rules.specs.declared.letters.Letter.{Letter}
use Rattle.mailbox_rules.specs.Histories.{Placed, Turn, fetched_before, placed_letters, sent_letters}
use Rattle.mailbox_rules.specs.Opening.{connection_of, object, queue_name, receiver, receiver_end, sender}
use Rattle.mailbox_rules.specs.State.{Channel, Mail, channel, context_at}
use Rattle.mailbox_rules.specs.Working.{asking, entries_in, is_success, most_polled, noting_all, place_in, poll_event, polled, received}
use Rattle.law_mailbox.specs.Few.{IsFewOn, IsHeldFew, is_receive, is_receive_of, is_request_of}
use Rattle.law_mailbox.specs.Held.{IsHeld}
use Rattle.law_mailbox.specs.Kept.{AreCountsKept, IsKept, bodies, body_in, copies, copy_in, dues_by, dues_of, fetch_in, fetches, frees, free_in, repost_in, reposts, sight_of, standing}
use Rattle.law_mailbox.proofs.queue_room.Counts.{count_cons, one_if}
use Rattle.law_mailbox.proofs.queue_room.FewCounted.{AreKnown, both_kinds, few_entries, is_of}
use Rattle.law_mailbox.proofs.queue_room.FewMachines.{IsOwnedAlike, ends_alike, stands_alike}
use Rattle.law_mailbox.proofs.queue_room.Gaining.{nothing_of_sender}
use Rattle.law_mailbox.proofs.work.Leaving.{polls_entries}
use Rattle.law_mailbox.proofs.queue_room.LittleOwed.{heard_lives}
use Rattle.law_mailbox.proofs.work.Noting.{IsNoted, IsPollNoted, noted_all, poll_noted}
use Rattle.law_mailbox.proofs.settling.Over.{there}
use Rattle.law_mailbox.proofs.connection.Places.{copied_long, nil_of}
use Rattle.law_mailbox.proofs.work.Polling.{IsPollAsked, poll_asked}
use Rattle.law_mailbox.proofs.work.Worked.{context_is, heard_is, noted_held}

-- ---- what follows from what is kept

at_most_one : (b : Bool) → (if b then 1 else 0) ≤ 1
at_most_one true = omega arith
at_most_one false = omega arith

-- of the long letters whose messages were copied, at most one body is not copied
pub long_few : (posted acted told : ℕ) (ended : Bool) (fetches bodies frees slots receives reads : ℕ) (slot : Bool) (sent : List Letter) → AreCountsKept posted acted told ended fetches bodies frees slots receives reads slot sent →
    fetched_before receives sent ≤ reads + 1
long_few posted acted told ended fetches bodies frees slots receives reads slot sent h =
    let a = h.acted_within in
    let d = h.frees_posted in
    let e = h.slot_freed in
    omega (arith, a, d, e, copied_long receives sent, at_most_one slot)

-- requests that are not told, and those that are to be posted
pub counts_few : (posted acted told : ℕ) (ended : Bool) (fetches bodies frees slots receives reads : ℕ) (slot : Bool) (sent : List Letter) → AreCountsKept posted acted told ended fetches bodies frees slots receives reads slot sent →
    (posted - told) + (fetches + frees + 2 * bodies) + reads ≤ fetched_before receives sent + 1
counts_few posted acted told true fetches bodies frees slots receives reads slot sent h =
    let long = long_few posted acted told true fetches bodies frees slots receives reads slot sent h in
    let all = h.over refl in
    let a = h.reads_posted in
    let b = h.frees_posted in
    let d = h.bodies_posted in
    omega (arith, long, all, a, b, d)
counts_few posted acted told false fetches bodies frees slots receives reads slot sent h =
    let all = h.bodies_told refl in
    let w = h.told_within in
    let a = h.reads_posted in
    let b = h.frees_posted in
    omega (arith, all, w, a, b)

front_within : {Y : Type 0} (f : Due → List Y) (owed rest : List Due) → length (flat_map f owed) ≤ length (flat_map f (owed ++ rest))
front_within f owed rest =
    let all : length (flat_map f (owed ++ rest)) ≡ length (flat_map f owed ++ flat_map f rest) = ap length (flat_map-append f owed rest) in
    omega (arith, all, length-append (flat_map f owed) (flat_map f rest))

pub kept_few : (i : ℕ) (machine : Machine) (owed : List Due) (c : Channel) (sent : List Letter) (open' : List Placed) → IsKept i (sight_of machine owed i) c sent open' →
    untold_count (end_of machine (receiver_end i)) + (length (fetches i owed) + length (frees i owed) + 2 * length (bodies i owed)) + c.reads ≤ fetched_before c.receives sent + 1
unfolding untold_count
kept_few i machine owed c sent open' h =
    let e : End = end_of machine (receiver_end i) in
    let rest : List Due = (sight_of machine [] i).dues in
    let all = counts_few (length e.posted) e.acted e.told e.ended _ _ _ _ c.receives c.reads c.slot_in_use sent h.counts in
    omega (arith, all, front_within (fetch_in i) owed rest, front_within (free_in i) owed rest, front_within (body_in i) owed rest)

-- ---- what a poll of the receiver makes due

one_copied : {Y : Type 0} (t : Bool) (y : Y) → length ((if t then y ∷ [] else []) ++ []) ≤ one_if (t && true)
one_copied true y = omega arith
one_copied false y = omega arith

-- a message is to be copied for each receive that completed with status 0
copies_polled : (i : ℕ) (xs : List Completion) → length (copies i (dues_of 0 xs)) ≤ count_by (is_receive_of i) xs
copies_polled i [] = omega arith
copies_polled i (x ∷ xs) =
    let one = by (is_success x.status) x.kind in
    let rest = copies_polled i xs in
    let all : length (copies i (dues_of 0 (x ∷ xs))) ≡ length (copies i (dues_by 0 x) ++ copies i (dues_of 0 xs)) = ap length (flat_map-append (copy_in i) (dues_by 0 x) (dues_of 0 xs)) in
    omega (arith, one, rest, all, length-append (copies i (dues_by 0 x)) (copies i (dues_of 0 xs)), count_cons (is_receive_of i) x xs)
  where
    by : (b : Bool) (k : WcKind) → length (copies i (if b then option_to_list (received x k) else [])) ≤ one_if ((connection_of x.qp == i) && is_receive k)
    by true wc.Recv = one_copied (connection_of x.qp == i) (place_in x, x.length)
    by true wc.Send = omega arith
    by true wc.Write = omega arith
    by true wc.Read = omega arith
    by true wc.CompareSwap = omega arith
    by true wc.FetchAdd = omega arith
    by true wc.RecvImm = omega arith
    by false k = omega arith

-- and no place is to be posted again
no_reposts : (i : ℕ) (xs : List Completion) → reposts i (dues_of 0 xs) ≡ []
no_reposts i [] = refl
no_reposts i (x ∷ xs) =
    flat_map-append (repost_in i) (dues_by 0 x) (dues_of 0 xs) ∙ (ap (λ zs. zs ++ reposts i (dues_of 0 xs)) (by (is_success x.status) x.kind) ∙ no_reposts i xs)
  where
    by : (b : Bool) (k : WcKind) → reposts i (if b then option_to_list (received x k) else []) ≡ []
    by true wc.Recv = refl
    by true wc.Send = refl
    by true wc.Write = refl
    by true wc.Read = refl
    by true wc.CompareSwap = refl
    by true wc.FetchAdd = refl
    by true wc.RecvImm = refl
    by false k = refl

-- ---- a poll

parts_long : {Y : Type 0} (f : Due → List Y) (owed more : List Due) → length (flat_map f (owed ++ more)) ≡ length (flat_map f owed) + length (flat_map f more)
parts_long f owed more =
    let all : length (flat_map f (owed ++ more)) ≡ length (flat_map f owed ++ flat_map f more) = ap length (flat_map-append f owed more) in
    omega (arith, all, length-append (flat_map f owed) (flat_map f more))

-- the same is owed of what uses the receivers' ends
pub record IsOwedSame (i : ℕ) (owed owed' : List Due) : Type 0 where
  pub copies_long : length (copies i owed') ≡ length (copies i owed)
  pub reposts_long : length (reposts i owed') ≡ length (reposts i owed)
  pub fetches_long : length (fetches i owed') ≡ length (fetches i owed)
  pub frees_long : length (frees i owed') ≡ length (frees i owed)
  pub bodies_long : length (bodies i owed') ≡ length (bodies i owed)

nothing_polled : (i : ℕ) (owed : List Due) → IsOwedSame i owed (owed ++ [])
nothing_polled i owed = record {
  copies_long = omega (arith, parts_long (copy_in i) owed []);
  reposts_long = omega (arith, parts_long (repost_in i) owed []);
  fetches_long = omega (arith, parts_long (fetch_in i) owed []);
  frees_long = omega (arith, parts_long (free_in i) owed []);
  bodies_long = omega (arith, parts_long (body_in i) owed []);
}

none_of_sender : {Y : Type 0} (f : Due → List Y) → ((n place : ℕ) → f (due.FreeSlot n place) ≡ []) → (n : ℕ) (xs : List Completion) → 1 ≤ n → (owed : List Due) → length (flat_map f (owed ++ dues_of n xs)) ≡ length (flat_map f owed)
none_of_sender f free_none n xs positive owed =
    let none : length (flat_map f (dues_of n xs)) ≡ 0 = ap length (nothing_of_sender f free_none n xs positive) in
    omega (arith, none, parts_long f owed (dues_of n xs))

sender_polled : (i n : ℕ) → 1 ≤ n → (owed : List Due) (xs : List Completion) → IsOwedSame i owed (owed ++ dues_of n xs)
sender_polled i n positive owed xs = record {
  copies_long = none_of_sender (copy_in i) (λ a place. refl) n xs positive owed;
  reposts_long = none_of_sender (repost_in i) (λ a place. refl) n xs positive owed;
  fetches_long = none_of_sender (fetch_in i) (λ a place. refl) n xs positive owed;
  frees_long = none_of_sender (free_in i) (λ a place. refl) n xs positive owed;
  bodies_long = none_of_sender (body_in i) (λ a place. refl) n xs positive owed;
}

-- what is held is held to work
abbrev pub to_held : (peers : ℕ) (ts : List Turn) (m : Mail) → IsHeldFew peers ts m → IsHeld peers ts m
to_held peers ts m h = record { machine = h.machine; stands = h.stands; senders = h.senders; all = h.all }

-- few stand in the receiver's queue
module _ (peers : ℕ) (ts : List Turn) (m : Mail) (h : IsHeldFew peers ts m) where
  each_few : (i : ℕ) → 1 ≤ i → i ≤ peers → count_by (is_of i) (standing h.machine receiver) ≤ 18
  each_few i low high =
      let few : IsFewOn i (end_of h.machine (receiver_end i)) (standing h.machine receiver) m.owed (channel m i) (sent_letters i ts) = h.few.each i low high in
      let kept : IsKept i (sight_of h.machine m.owed i) (channel m i) (sent_letters i ts) (placed_letters i ts) = h.all.kept i low high in
      let receives = few.receives in
      let requests = few.requests in
      let long = long_few _ _ _ _ _ _ _ _ (channel m i).receives (channel m i).reads (channel m i).slot_in_use (sent_letters i ts) kept.counts in
      omega (arith, receives, requests, long, both_kinds i (standing h.machine receiver))

  pub few_stand : length (standing h.machine receiver) ≤ 18 * peers
  few_stand = few_entries peers (standing h.machine receiver) h.few.known each_few

  -- .. and none where there is no sender
  pub some_sender : (x : Completion) (xs behind : List Completion) → standing h.machine receiver ≡ (x ∷ xs) ++ behind → 1 ≤ peers
  some_sender x xs behind e =
      let known : AreKnown peers ((x ∷ xs) ++ behind) = subst (AreKnown peers) e h.few.known in
      let first : (1 ≤ connection_of x.qp) × (connection_of x.qp ≤ peers) = All-head (λ y. (1 ≤ connection_of y.qp) × (connection_of y.qp ≤ peers)) x (xs ++ behind) known in
      let low = first.0 in
      let high = first.1 in
      omega (arith, low, high)

module _ (follow : EventsFollowByName) (peers : ℕ) (small : peers ≤ 8) (ts : List Turn) (m : Mail) (h : IsHeldFew peers ts m) (n : ℕ) (within : n ≤ peers) where
  abbrev xs : List Completion
  xs = entries_in (asking m (poll_event n)).answer

  abbrev m1 : Mail
  m1 = noting_all n (asking m (poll_event n)).mail (entries_in (asking m (poll_event n)).answer)

  p : IsPollAsked m h.machine n
  p = poll_asked follow m h.machine n h.stands

  noted : IsNoted n (asking m (poll_event n)).mail m1 (dues_of n xs)
  noted = noted_all n (asking m (poll_event n)).mail xs

  left : IsPollNoted m m1 (dues_of n xs)
  left = poll_noted m n

  next : IsHeld peers ts m1
  next = noted_held follow peers small ts m (to_held peers ts m h) n within

  stands_then : Stands (noting_all n (asking m (poll_event n)).mail (entries_in (asking m (poll_event n)).answer)).world p.machine'
  stands_then = subst (λ (w : World). Stands w p.machine') (sym noted.world) p.stands

  stood : standing next.machine receiver ≡ standing p.machine' receiver
  stood = stands_alike m1.world p.machine' next.machine stands_then next.stands receiver

  alike : (i : ℕ) → 1 ≤ i → i ≤ peers → IsOwnedAlike (end_of h.machine (receiver_end i)) (end_of next.machine (receiver_end i))
  alike i low high =
      let is_there : has_end p.machine' (receiver_end i) ≡ true = p.polled.changed.ends_there (receiver_end i) ∙ (h.all.opened i low high).receiver_there in
      subst (λ (e : End). IsOwnedAlike e (end_of next.machine (receiver_end i))) (p.polled.changed.ends (receiver_end i)) (ends_alike m1.world p.machine' next.machine stands_then next.stands (receiver_end i) is_there)

  used_same : (i : ℕ) → 1 ≤ i → i ≤ peers → used_count (end_of next.machine (receiver_end i)).in_use + length (end_of next.machine (receiver_end i)).unused ≡ used_count (end_of h.machine (receiver_end i)).in_use + length (end_of h.machine (receiver_end i)).unused
  used_same i low high = let a = alike i low high in λ k. used_count (a.in_use_same k) + length (a.unused_same k)

  -- ---- where the same stands as before

  nothing_heard : ((i : ℕ) → IsOwedSame i m.owed (m.owed ++ dues_of n xs)) → standing p.machine' receiver ≡ standing h.machine receiver → IsHeldFew peers ts m1
  nothing_heard owed same = record {
    machine = next.machine;
    stands = next.stands;
    senders = next.senders;
    all = next.all;
    few = record { each = each; known = subst (AreKnown peers) (sym (stood ∙ same)) h.few.known };
  }
    where
      each : (i : ℕ) → 1 ≤ i → i ≤ peers → IsFewOn i (end_of next.machine (receiver_end i)) (standing next.machine receiver) m1.owed (channel m1 i) (sent_letters i ts)
      each i low high =
          let few : IsFewOn i (end_of h.machine (receiver_end i)) (standing h.machine receiver) m.owed (channel m i) (sent_letters i ts) = h.few.each i low high in
          let receives = few.receives in
          let requests = few.requests in
          let o = subst (IsOwedSame i m.owed) (sym left.owed) (owed i) in
          let receives_stood : count_by (is_receive_of i) (standing next.machine receiver) ≡ count_by (is_receive_of i) (standing h.machine receiver) = ap (count_by (is_receive_of i)) (stood ∙ same) in
          let requests_stood : count_by (is_request_of i) (standing next.machine receiver) ≡ count_by (is_request_of i) (standing h.machine receiver) = ap (count_by (is_request_of i)) (stood ∙ same) in
          let untold_same = (alike i low high).untold_same in
          let reads_same = (left.same i).reads in
          let long : fetched_before (channel m1 i).receives (sent_letters i ts) ≡ fetched_before (channel m i).receives (sent_letters i ts) = ap (λ (k : ℕ). fetched_before k (sent_letters i ts)) (left.same i).receives in
          record {
            receives = omega (arith, receives, receives_stood, used_same i low high, o.copies_long, o.reposts_long);
            requests = omega (arith, requests, requests_stood, untold_same, reads_same, long, o.fetches_long, o.frees_long, o.bodies_long);
          }

  -- ---- where all that stood in the receiver's queue was polled

  all_heard : dues_of n xs ≡ dues_of 0 xs → standing h.machine receiver ≡ xs → standing p.machine' receiver ≡ [] → IsHeldFew peers ts m1
  all_heard at_receiver were none = record {
    machine = next.machine;
    stands = next.stands;
    senders = next.senders;
    all = next.all;
    few = record { each = each; known = subst (AreKnown peers) (sym (stood ∙ none)) (All-nil (λ x. (1 ≤ connection_of x.qp) × (connection_of x.qp ≤ peers))) };
  }
    where
      each : (i : ℕ) → 1 ≤ i → i ≤ peers → IsFewOn i (end_of next.machine (receiver_end i)) (standing next.machine receiver) m1.owed (channel m1 i) (sent_letters i ts)
      each i low high =
          let few : IsFewOn i (end_of h.machine (receiver_end i)) (standing h.machine receiver) m.owed (channel m i) (sent_letters i ts) = h.few.each i low high in
          let receives = few.receives in
          let kept : IsKept i (sight_of next.machine m1.owed i) (channel m1 i) (sent_letters i ts) (placed_letters i ts) = next.all.kept i low high in
          let requests = kept_few i next.machine m1.owed (channel m1 i) (sent_letters i ts) (placed_letters i ts) kept in
          let receives_stood : count_by (is_receive_of i) (standing next.machine receiver) ≡ 0 = ap (count_by (is_receive_of i)) (stood ∙ none) in
          let requests_stood : count_by (is_request_of i) (standing next.machine receiver) ≡ 0 = ap (count_by (is_request_of i)) (stood ∙ none) in
          let receives_were : count_by (is_receive_of i) (standing h.machine receiver) ≡ count_by (is_receive_of i) xs = ap (count_by (is_receive_of i)) were in
          let copied : length (copies i m1.owed) ≡ length (copies i (m.owed ++ dues_of 0 xs)) = ap (λ (ds : List Due). length (copies i ds)) (left.owed ∙ ap (λ (ds : List Due). m.owed ++ ds) at_receiver) in
          let reposted : length (reposts i m1.owed) ≡ length (reposts i (m.owed ++ dues_of 0 xs)) = ap (λ (ds : List Due). length (reposts i ds)) (left.owed ∙ ap (λ (ds : List Due). m.owed ++ ds) at_receiver) in
          let none_reposted : length (reposts i (dues_of 0 xs)) ≡ 0 = ap length (no_reposts i xs) in
          record {
            receives = omega (arith, receives, receives_stood, receives_were, used_same i low high, copied, reposted, none_reposted, copies_polled i xs, parts_long (copy_in i) m.owed (dues_of 0 xs), parts_long (repost_in i) m.owed (dues_of 0 xs));
            requests = omega (arith, requests, requests_stood);
          }

module _ (follow : EventsFollowByName) (peers : ℕ) (small : peers ≤ 8) (ts : List Turn) (m : Mail) (h : IsHeldFew peers ts m) where
  -- a poll of a sender, and one of the receiver
  sender_noted : (n : ℕ) (within : n ≤ peers) → 1 ≤ n → IsHeldFew peers ts (noting_all n (asking m (poll_event n)).mail (entries_in (asking m (poll_event n)).answer))
  unfolding p
  sender_noted n within positive =
      nothing_heard follow peers small ts m h n within (λ i. sender_polled i n positive m.owed (entries_in (asking m (poll_event n)).answer))
      ((poll_asked follow m h.machine n h.stands).polled.changed.elsewhere receiver (λ e. let f : receiver ≡ sender n = e ∙ context_is n positive in cc))

  -- all that stands in the queue of a receiver that lives
  all_polled : (some : 1 ≤ peers) → is_live m.world (context_at 0) ≡ true → length (entries_in (asking m (poll_event 0)).answer) ≡ length (standing h.machine receiver)
  unfolding asking
  all_polled some live =
      let found = (there follow peers some small ts m (to_held peers ts m h) 0 (omega arith) 0 (omega arith)).1 in
      let heard : length (entries_in (world_step m.world (world_events.At (poll_event 0))).answer) ≡ length (take most_polled (standing h.machine receiver)) =
      ap (λ (a : Answer). length (entries_in a)) (polls_entries m.world h.machine (object (context_at 0) queue_name) most_polled h.stands live found) in
      let few = few_stand peers ts m h in
      omega (arith, heard, few, small, length-take most_polled (standing h.machine receiver))

  receiver_noted : IsHeldFew peers ts (noting_all 0 (asking m (poll_event 0)).mail (entries_in (asking m (poll_event 0)).answer))
  unfolding p
  receiver_noted = by (entries_in (asking m (poll_event 0)).answer) refl
    where
      by : (ys : List Completion) → entries_in (asking m (poll_event 0)).answer ≡ ys → IsHeldFew peers ts (noting_all 0 (asking m (poll_event 0)).mail (entries_in (asking m (poll_event 0)).answer))
      by [] e =
          let x = poll_asked follow m h.machine 0 h.stands in
          nothing_heard follow peers small ts m h 0 (omega arith)
          (λ i. subst (λ (zs : List Completion). IsOwedSame i m.owed (m.owed ++ dues_of 0 zs)) (sym e) (nothing_polled i m.owed))
          (x.polled.changed.here ∙ sym (x.polled.whole ∙ ap (λ (zs : List Completion). zs ++ x.polled.behind) e))
      by (y ∷ ys) e =
          let x = poll_asked follow m h.machine 0 h.stands in
          let whole : standing h.machine receiver ≡ (y ∷ ys) ++ x.polled.behind = x.polled.whole ∙ ap (λ (zs : List Completion). zs ++ x.polled.behind) e in
          let some : 1 ≤ peers = some_sender peers ts m h y ys x.polled.behind whole in
          let long = all_polled some (heard_lives m 0 y ys e) in
          let parts : length (standing h.machine receiver) ≡ length (entries_in (asking m (poll_event 0)).answer ++ x.polled.behind) = ap length x.polled.whole in
          let behind : x.polled.behind ≡ [] = nil_of x.polled.behind (omega (arith, long, parts, length-append (entries_in (asking m (poll_event 0)).answer) x.polled.behind)) in
          all_heard follow peers small ts m h 0 (omega arith) refl (x.polled.whole ∙ (ap (λ (zs : List Completion). entries_in (asking m (poll_event 0)).answer ++ zs) behind ∙ append-nil (entries_in (asking m (poll_event 0)).answer)))
          (x.polled.changed.here ∙ behind)

  -- .. and so any poll
  pub poll_held_few : (n : ℕ) (within : n ≤ peers) → IsHeldFew peers ts (polled n (asking m (poll_event n))).mail
  poll_held_few n within =
      subst (IsHeldFew peers ts) (sym (heard_is follow peers small ts m (to_held peers ts m h) n within (asking m (poll_event n)).mail (entries_in (asking m (poll_event n)).answer))) (by n within)
    where
      by : (k : ℕ) → k ≤ peers → IsHeldFew peers ts (noting_all k (asking m (poll_event k)).mail (entries_in (asking m (poll_event k)).answer))
      by zero few = receiver_noted
      by (suc k) few = sender_noted (suc k) few (omega arith)
