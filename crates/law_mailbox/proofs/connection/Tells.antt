-- Requests that are told, as they are seen: those of the sender's end, and the receiver's Sends of no bytes.
use Rattle.std.proofs.Common.{arith, ◌≡◌, ◌≢◌, ℕ, suc, ◌%◌, ◌<◌, ◌≤◌, List, [], ◌∷◌, ◌++◌, length, true, false, Bool, refl, sym, subst, ap, ◌∙◌, Some, None, Option, ltb-true, ne_eqb}
use Rattle.std.specs.Prelude.{All, if◌then◌else◌, nat_lt, not, option_to_list, slice_get, ◌&&◌, ◌||◌, ◌==◌}
use Rattle.rdma_types.specs.declared.names.Name.{Name}
use Rattle.rdma_types.specs.declared.requests.Completion.{Completion}
use Rattle.rdma_types.specs.declared.requests.Kind.{Kind}
use Rattle.rdma_types.specs.declared.requests.Kind.TheVariants as kind
use Rattle.rdma_types.specs.declared.requests.Request.{Request}
use Rattle.rdma_types.specs.declared.requests.WcStatus.TheVariants as status
use Rattle.rdma_types.specs.Kinds.{completed_kind, is_read, kind_of, request_done, size_of}
use Rattle.rdma_types.specs.Objects.{Posted, no_queue}
use Rattle.packetless_machine.specs.declared.reply.Reply.{Reply}
use Rattle.packetless_machine.specs.declared.reply.Reply.TheVariants.{Denied, Finished, OldValue}
use Rattle.packetless_machine.specs.Machine.{End, Machine, completing, context_of, end_of, queue_of, with_end}
use Rattle.packetless_machine.specs.Steps.{front, has_untold, may_tell, put_old, success, tell, tell_at, told_one}
use Rattle.packetless_machine.specs.Verbs.{has_queue}
use Rattle.packetless_machine.proofs.Views.{end_of-completing}
use Rattle.law_simulation.proofs.relation.Tables.{name-named_there}
use Rattle.mailbox_rules.specs.declared.due.Due.{Due}
use Rattle.mailbox_rules.specs.declared.letters.Letter.{Letter}
use Rattle.mailbox_rules.specs.Histories.{Placed}
use Rattle.mailbox_rules.specs.Opening.{queue_name, receiver, receiver_end, sender, sender_end}
use Rattle.mailbox_rules.specs.State.{Channel}
use Rattle.mailbox_rules.specs.Working.{due_of, heard}
use Rattle.law_mailbox.specs.Kept.{IsKept, IsOpened, IsPlain, Sight, dues_of, freed_as, sight_of}
use Rattle.law_mailbox.specs.Moves.{FreeTells, SenderStays}
use Rattle.law_mailbox.specs.Seen.{IsSeen, Moves}
use Rattle.law_mailbox.proofs.work.Channels.{both}
use Rattle.law_mailbox.proofs.connection.Longer.{opened_longer, sees_longer}
use Rattle.law_mailbox.proofs.connection.Places.{all_at}
use Rattle.law_mailbox.proofs.connection.Quiet.{is_odd_freed, receiver_seen, sender_seen}
use Rattle.law_mailbox.proofs.connection.Sights.{context_there}

pub not_true : (b : Bool) → not b ≡ true → b ≡ false
not_true true g = cc
not_true false g = refl

-- no old value comes to a place
put_plain : (m : Machine) (c : Name) (r : Request) (answers : List Reply) (k : ℕ) → All IsPlain answers → put_old m c r (slice_get answers k) ≡ m
unfolding put_old
put_plain m c r answers k plain = by (slice_get answers k) refl
  where
    by : (o : Option Reply) → slice_get answers k ≡ o → put_old m c r o ≡ m
    by None e = refl
    by (Some Finished) e = refl
    by (Some (OldValue value)) e = absurd (all_at IsPlain answers k (OldValue value) plain e)
    by (Some (Denied why)) e = refl

-- a request that a sender's end told makes nothing due
nothing_heard : (n : ℕ) (x : Completion) (k : Kind) → heard n x (completed_kind k) ≡ None
nothing_heard n x kind.Write = refl
nothing_heard n x kind.Send = refl
nothing_heard n x kind.Read = refl
nothing_heard n x kind.CompareSwap = refl
nothing_heard n x kind.FetchAdd = refl

told_no_due : (n number : ℕ) (r : Posted) → 1 ≤ n → due_of n (request_done number r status.Success (size_of r)) ≡ None
unfolding request_done
told_no_due n number r positive = let no_zero : n ≢ 0 = λ e. omega (arith, e, positive) in rw (ne_eqb n 0 no_zero) (nothing_heard n (request_done number r status.Success (size_of r)) (kind_of r))

told_none : (n : ℕ) (e : End) (r : Posted) → 1 ≤ n → dues_of n (success e r) ≡ []
unfolding success request_done
told_none n e r positive = by r.request.signaled
  where
    by : (b : Bool) → dues_of n (if b then request_done e.number r status.Success (size_of r) ∷ [] else []) ≡ []
    by true = ap (λ (o : Option Due). option_to_list o ++ []) (told_no_due n e.number r positive)
    by false = refl

freed_none : (e : End) → dues_of 0 (success e freed_as) ≡ []
unfolding success request_done
freed_none e = refl

pub queue_named : (m : Machine) (c : Name) → has_queue m c queue_name ≡ true → (queue_of m c queue_name).name ≡ queue_name
unfolding queue_of
queue_named m c there = name-named_there (λ z. z.name) no_queue queue_name (context_of m c).queues there

module _ (m : Machine) (owed : List Due) (i : ℕ) (positive : 1 ≤ i) (opened : IsOpened m i) (c : Channel) (sent : List Letter) (open' : List Placed) (h : IsKept i (sight_of m owed i) c sent open') where
  -- ---- the sender's end tells

  abbrev pub told_there : Machine
  told_there = completing m (sender i) queue_name (success (end_of m (sender_end i)) (front (end_of m (sender_end i))))

  sender_same : sight_of (completing m (sender i) queue_name (success (end_of m (sender_end i)) (front (end_of m (sender_end i))))) owed i ≡ sight_of m owed i
  sender_same =
      sees_longer m owed i (sender i) (success (end_of m (sender_end i)) (front (end_of m (sender_end i)))) (context_there m (sender_end i) opened.sender_there) opened.sender_queue (queue_named m (sender i) opened.sender_queue)
      (λ e. cc) (λ e. told_none i (end_of m (sender_end i)) (front (end_of m (sender_end i))) positive)

  pub sender_opened : IsOpened (completing m (sender i) queue_name (success (end_of m (sender_end i)) (front (end_of m (sender_end i))))) i
  sender_opened = opened_longer m (sender i) queue_name (success (end_of m (sender_end i)) (front (end_of m (sender_end i)))) (context_there m (sender_end i) opened.sender_there) opened.sender_queue (queue_named m (sender i) opened.sender_queue) i opened

  pub sender_told : tell m (sender_end i) ≡ with_end told_there (sender_end i) (told_one (end_of told_there (sender_end i)))
  unfolding tell tell_at
  sender_told =
      let e : End = end_of m (sender_end i) in
      ap (λ (x : Machine). with_end x (sender_end i) (told_one (end_of x (sender_end i))))
      (put_plain (completing m (sender i) e.send_queue (success e (front e))) (sender i) (front e).request e.answers e.told h.plain.0
      ∙ ap (λ (q : Name). completing m (sender i) q (success e (front e))) opened.sender_joined.send_queue)

  pub sender_tells : IsSeen i owed m (tell m (sender_end i))
  unfolding told_one
  sender_tells =
      let k : IsKept i (sight_of told_there owed i) c sent open' = subst (λ (s : Sight). IsKept i s c sent open') (sym sender_same) h in
      let e : End = end_of told_there (sender_end i) in
      let seen : IsSeen i owed told_there (with_end told_there (sender_end i) (record (end_of told_there (sender_end i)) { told = suc (end_of told_there (sender_end i)).told; known = 0; spent = 0; waits = 0 })) =
      sender_seen told_there owed i sender_opened c sent open' k (record (end_of told_there (sender_end i)) { told = suc (end_of told_there (sender_end i)).told; known = 0; spent = 0; waits = 0 }) refl
      (record { connected = refl; peer = refl; domain = refl; send_queue = refl; receive_queue = refl; send_depth = refl; receive_depth = refl })
      (SenderStays (suc e.told) 0 0 0 e.answers e.dry e.unused e.in_use e.ended k.plain.0 (λ live. live)) in
      subst (λ (x : Machine). IsSeen i owed m x) (sym sender_told) (record { moves = subst (λ (s : Sight). Moves i s (sight_of (with_end told_there (sender_end i) (record (end_of told_there (sender_end i)) { told = suc (end_of told_there (sender_end i)).told; known = 0; spent = 0; waits = 0 })) owed i)) sender_same seen.moves; opened = seen.opened })

  -- ---- the receiver's end tells a Send of no bytes

  abbrev pub freed_there : Machine
  freed_there = completing m receiver queue_name (success (end_of m (receiver_end i)) (front (end_of m (receiver_end i))))

  pub receiver_opened : IsOpened (completing m receiver queue_name (success (end_of m (receiver_end i)) (front (end_of m (receiver_end i))))) i
  receiver_opened = opened_longer m receiver queue_name (success (end_of m (receiver_end i)) (front (end_of m (receiver_end i)))) (context_there m (receiver_end i) opened.receiver_there) opened.receiver_queue (queue_named m receiver opened.receiver_queue) i opened

  pub receiver_told : tell m (receiver_end i) ≡ with_end freed_there (receiver_end i) (told_one (end_of freed_there (receiver_end i)))
  unfolding tell tell_at
  receiver_told =
      let e : End = end_of m (receiver_end i) in
      ap (λ (x : Machine). with_end x (receiver_end i) (told_one (end_of x (receiver_end i))))
      (put_plain (completing m receiver e.send_queue (success e (front e))) receiver (front e).request e.answers e.told h.plain.1
      ∙ ap (λ (q : Name). completing m receiver q (success e (front e))) opened.receiver_joined.send_queue)

  module _ (odd : (end_of m (receiver_end i)).told % 2 ≡ 1) (untold : (end_of m (receiver_end i)).told < length (end_of m (receiver_end i)).posted) (live : (end_of m (receiver_end i)).ended ≡ false) (acted : (end_of m (receiver_end i)).told < (end_of m (receiver_end i)).acted) where
    front_freed : front (end_of m (receiver_end i)) ≡ freed_as
    front_freed = is_odd_freed i (end_of m (receiver_end i)).posted sent (end_of m (receiver_end i)).told h.queue untold odd

    receiver_same : sight_of (completing m receiver queue_name (success (end_of m (receiver_end i)) (front (end_of m (receiver_end i))))) owed i ≡ sight_of m owed i
    receiver_same =
        sees_longer m owed i receiver (success (end_of m (receiver_end i)) (front (end_of m (receiver_end i)))) (context_there m (receiver_end i) opened.receiver_there) opened.receiver_queue (queue_named m receiver opened.receiver_queue)
        (λ e. ap (λ (p : Posted). dues_of 0 (success (end_of m (receiver_end i)) p)) front_freed ∙ freed_none (end_of m (receiver_end i))) (λ e. cc)

    pub receiver_tells : IsSeen i owed m (tell m (receiver_end i))
    unfolding told_one
    receiver_tells =
        let k : IsKept i (sight_of freed_there owed i) c sent open' = subst (λ (s : Sight). IsKept i s c sent open') (sym receiver_same) h in
        let same : end_of freed_there (receiver_end i) ≡ end_of m (receiver_end i) = end_of-completing m receiver queue_name (success (end_of m (receiver_end i)) (front (end_of m (receiver_end i)))) (receiver_end i) in
        let seen : IsSeen i owed freed_there (with_end freed_there (receiver_end i) (record (end_of freed_there (receiver_end i)) { told = suc (end_of freed_there (receiver_end i)).told; known = 0; spent = 0; waits = 0 })) =
        receiver_seen freed_there owed i receiver_opened c sent open' k (record (end_of freed_there (receiver_end i)) { told = suc (end_of freed_there (receiver_end i)).told; known = 0; spent = 0; waits = 0 }) refl
        (record { connected = refl; peer = refl; domain = refl; send_queue = refl; receive_queue = refl; send_depth = refl; receive_depth = refl })
        (FreeTells (subst (λ (e : End). e.ended ≡ false) (sym same) live) (subst (λ (e : End). e.told < e.acted) (sym same) acted) (subst (λ (e : End). e.told % 2 ≡ 1) (sym same) odd)) in
        subst (λ (x : Machine). IsSeen i owed m x) (sym receiver_told) (record { moves = subst (λ (s : Sight). Moves i s (sight_of (with_end freed_there (receiver_end i) (record (end_of freed_there (receiver_end i)) { told = suc (end_of freed_there (receiver_end i)).told; known = 0; spent = 0; waits = 0 })) owed i)) receiver_same seen.moves; opened = seen.opened })

  -- .. where it may
  pub receiver_may_tell : (end_of m (receiver_end i)).told % 2 ≡ 1 → may_tell m (receiver_end i) ≡ true → IsSeen i owed m (tell m (receiver_end i))
  unfolding may_tell has_untold
  receiver_may_tell odd may =
      let e : End = end_of m (receiver_end i) in
      let a = both (e.connected && (not e.ended && nat_lt e.told (length e.posted))) (nat_lt e.told e.acted && (not (is_read (kind_of (front e))) || (e.known == size_of (front e)))) may in
      let b = both e.connected (not e.ended && nat_lt e.told (length e.posted)) a.0 in
      let d = both (not e.ended) (nat_lt e.told (length e.posted)) b.1 in
      let f = both (nat_lt e.told e.acted) (not (is_read (kind_of (front e))) || (e.known == size_of (front e))) a.1 in
      receiver_tells odd (ltb-true e.told (length e.posted) d.1) (not_true e.ended d.0) (ltb-true e.told e.acted f.0)
