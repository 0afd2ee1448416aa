-- Steps of an end of another connection, as they are seen: nothing changes, or more is due there.
use Rattle.std.proofs.Common.{arith, ◌≡◌, ◌≢◌, ℕ, suc, ◌+◌, ◌%◌, List, [], ◌∷◌, ◌++◌, true, false, Bool, refl, sym, subst, ap, ◌∙◌, inl, inr}
use Rattle.std.specs.Prelude.{if◌then◌else◌, slice_get, ◌==◌}
use Rattle.rdma_types.specs.declared.answers.RefusalReason.{RefusalReason}
use Rattle.rdma_types.specs.declared.names.Name.{Name}
use Rattle.rdma_types.specs.declared.names.ObjName.{ObjName}
use Rattle.rdma_types.specs.declared.requests.Keys.{Keys}
use Rattle.rdma_types.specs.declared.requests.WcStatus.{WcStatus}
use Rattle.rdma_types.specs.declared.requests.WcStatus.TheVariants as status
use Rattle.rdma_types.specs.Objects.{CompletionQueue}
use Rattle.packetless_machine.specs.declared.reply.Reply.TheVariants.{Denied, Finished}
use Rattle.packetless_machine.specs.Machine.{End, Machine, context_of, end_of, has_end, posted_at, regions_of, with_end, with_queues}
use Rattle.packetless_machine.specs.Steps.{acted_with, bounce, bounce_status, bytes_there, closed, denied, dried, dried_at, ended_with, expire, expired, failed_queues, knowing, offered, read_turn, receives_of, refuse, refuse_at, refused_queues, wait, waited, with_known, with_offer}
use Rattle.packetless_machine.specs.Verbs.{has_queue, region_of}
use Rattle.mailbox_rules.specs.declared.due.Due.{Due}
use Rattle.mailbox_rules.specs.Opening.{queue_name, receiver, receiver_end, sender, sender_end, sender_key, sender_region}
use Rattle.mailbox_rules.specs.Working.{is_success}
use Rattle.law_mailbox.specs.Kept.{IsOpened, Sight, sight_of}
use Rattle.law_mailbox.specs.Seen.{IsOf, IsSeen, Moves, Stays}
use Rattle.law_mailbox.proofs.connection.Fails.{bounce_fails, failed_there}
use Rattle.law_mailbox.proofs.connection.Opens.{IsAlike, opened_as, there_as}
use Rattle.law_mailbox.proofs.connection.Quiet.{end_name}
use Rattle.law_mailbox.proofs.connection.Refusals.{AreDueAlike, alike_before, closed_alike, closed_name, denied_name, queue_closed, queue_denied, queues_seen, refused_there}
use Rattle.law_mailbox.proofs.connection.Seen.{seen_then}
use Rattle.law_mailbox.proofs.connection.Sights.{context_there, end_is_changed, sees_nothing}

-- ---- ends of another connection

-- the names of connections are apart, since their regions have other keys
pub names_apart : (m : Machine) (i j : ℕ) → IsOpened m i → IsOpened m j → i ≢ j → sender i ≢ sender j
names_apart m i j x y other e =
    let keys : sender_key i ≡ sender_key j =
    ap (λ (k : Keys). k.local) (sym x.sender_region_is.keyed)
    ∙ (ap (λ (c : Name). (region_of m (record { context = c; name = (sender_region i).name })).keys.local) e ∙ ap (λ (k : Keys). k.local) y.sender_region_is.keyed) in
    other (omega (arith, keys))

-- an end that is no end of connection i, as the opening made it for another one
pub record IsElsewhere (m : Machine) (i : ℕ) (o : ObjName) : Type 0 where
  pub there : has_end m o ≡ true
  pub no_sender : sender_end i ≢ o
  pub no_receiver : receiver_end i ≢ o
  pub queue : has_queue m o.context queue_name ≡ true
  pub send : (end_of m o).send_queue ≡ queue_name
  pub receive : (end_of m o).receive_queue ≡ queue_name

module _ (m : Machine) (i j : ℕ) (apart : sender i ≢ sender j) (y : IsOpened m j) where
  sender_elsewhere : IsElsewhere m i (sender_end j)
  sender_elsewhere = record {
    there = y.sender_there;
    no_sender = λ e. apart (ap (λ (o : ObjName). o.context) e);
    no_receiver = λ e. let contexts : receiver ≡ sender j = ap (λ (o : ObjName). o.context) e in cc;
    queue = y.sender_queue;
    send = y.sender_joined.send_queue;
    receive = y.sender_joined.receive_queue;
  }

  receiver_elsewhere : IsElsewhere m i (receiver_end j)
  receiver_elsewhere = record {
    there = y.receiver_there;
    no_sender = λ e. let contexts : sender i ≡ receiver = ap (λ (o : ObjName). o.context) e in cc;
    no_receiver = λ e. let names : 113 ∷ (48 + i % 10) ∷ [] ≡ 113 ∷ (48 + j % 10) ∷ [] = ap (λ (o : ObjName). o.name) e in apart (cc names);
    queue = y.receiver_queue;
    send = y.receiver_joined.send_queue;
    receive = y.receiver_joined.receive_queue;
  }

  pub elsewhere : (o : ObjName) → IsOf j o → IsElsewhere m i o
  elsewhere o (inl e) = subst (λ (q : ObjName). IsElsewhere m i q) (sym e) sender_elsewhere
  elsewhere o (inr e) = subst (λ (q : ObjName). IsElsewhere m i q) (sym e) receiver_elsewhere

-- ---- one end is another

module _ (m : Machine) (owed : List Due) (i : ℕ) (x : IsOpened m i) (o : ObjName) (z : IsElsewhere m i o) where
  pub one_other : (e : End) → e.name ≡ (end_of m o).name → IsAlike e (end_of m o) → IsSeen i owed m (with_end m o e)
  one_other e name alike =
      let named = name ∙ end_name m o in
      record {
        moves = subst (λ (s : Sight). Moves i (sight_of m owed i) s) (sym (sees_nothing m (with_end m o e) owed i e o z.no_sender z.no_receiver (end_is_changed m o e z.there named name))) Stays;
        opened = opened_as m o e z.there named name alike i x;
      }

  pub other_knows : (bytes : ℕ) → IsSeen i owed m (knowing m o bytes)
  unfolding knowing with_known
  other_knows bytes = one_other (record (end_of m o) { known = bytes; spent = 0; waits = 0 }) refl (record { connected = refl; peer = refl; domain = refl; send_queue = refl; receive_queue = refl; send_depth = refl; receive_depth = refl })

  pub other_dries : IsSeen i owed m (dried m o)
  unfolding dried dried_at
  other_dries = one_other (record (end_of m o) { dry = (end_of m o).dry ++ (end_of m o).acted ∷ [] }) refl (record { connected = refl; peer = refl; domain = refl; send_queue = refl; receive_queue = refl; send_depth = refl; receive_depth = refl })

  pub other_turns : IsSeen i owed m (read_turn m o)
  unfolding read_turn acted_with
  other_turns =
      one_other (record (end_of m o) { acted = suc (end_of m o).acted; into = 0; answers = (end_of m o).answers ++ Finished ∷ [] }) refl
      (record { connected = refl; peer = refl; domain = refl; send_queue = refl; receive_queue = refl; send_depth = refl; receive_depth = refl })

  pub other_offers : (k offset n : ℕ) → IsSeen i owed m (offered m o k offset n)
  unfolding offered with_offer
  other_offers k offset n =
      one_other
      (record (end_of m o) { offers = (end_of m o).offers ++ record { request = k; offset = offset; bytes = bytes_there (posted_at (end_of m o).posted k) offset n (regions_of m (end_of m o).peer.context) } ∷ [] }) refl
      (record { connected = refl; peer = refl; domain = refl; send_queue = refl; receive_queue = refl; send_depth = refl; receive_depth = refl })

  pub other_denied : (y : RefusalReason) → IsSeen i owed m (with_end m o (denied (end_of m o) y))
  unfolding denied
  other_denied y =
      one_other (record (end_of m o) { answers = (end_of m o).answers ++ Denied y ∷ [] }) refl
      (record { connected = refl; peer = refl; domain = refl; send_queue = refl; receive_queue = refl; send_depth = refl; receive_depth = refl })

  -- ---- it has ended, and its queue has more entries that make nothing due

  there_closed : has_end (with_end m o (closed (end_of m o))) o ≡ true
  there_closed = there_as m o (closed (end_of m o)) z.there (closed_name (end_of m o) ∙ end_name m o) (closed_name (end_of m o)) (closed_alike (end_of m o)) o ∙ z.there

  pub other_over : (queues : List CompletionQueue) → AreDueAlike (context_of m o.context).queues queues → IsSeen i owed m (with_queues (with_end m o (closed (end_of m o))) o.context queues)
  other_over queues alike =
      let over = one_other (closed (end_of m o)) (closed_name (end_of m o)) (closed_alike (end_of m o)) in
      seen_then i owed m (with_end m o (closed (end_of m o))) (with_queues (with_end m o (closed (end_of m o))) o.context queues) over
      (queues_seen (with_end m o (closed (end_of m o))) o.context queues (context_there (with_end m o (closed (end_of m o))) o there_closed)
      (alike_before m (with_end m o (closed (end_of m o))) o.context queues (queue_closed m o z.there) alike) owed i over.opened)

  pub other_fails : (s : WcStatus) → is_success s ≡ false → IsSeen i owed m (ended_with m o s)
  unfolding ended_with
  other_fails s bad = other_over (failed_queues (end_of m o) s (receives_of (end_of m o)) (context_of m o.context).queues) (failed_there m o s bad z.queue z.send z.receive)

  pub other_bounces : IsSeen i owed m (bounce m o)
  unfolding bounce
  other_bounces = other_fails (bounce_status (slice_get (end_of m o).answers (end_of m o).told)) (bounce_fails (slice_get (end_of m o).answers (end_of m o).told))

  pub other_expires : IsSeen i owed m (expire m o)
  unfolding expire expired
  other_expires = by ((end_of m o).spent == (end_of m o).retry)
    where
      by : (b : Bool) → IsSeen i owed m (if b then ended_with m o status.RetryExceeded else with_end m o (record (end_of m o) { spent = suc (end_of m o).spent }))
      by true = other_fails status.RetryExceeded refl
      by false = one_other (record (end_of m o) { spent = suc (end_of m o).spent }) refl (record { connected = refl; peer = refl; domain = refl; send_queue = refl; receive_queue = refl; send_depth = refl; receive_depth = refl })

  pub other_waits : IsSeen i owed m (wait m o)
  unfolding wait waited
  other_waits = by ((end_of m o).rnr == 7) ((end_of m o).waits == (end_of m o).rnr)
    where
      by : (a b : Bool) → IsSeen i owed m (if a then m else if b then ended_with m o status.RnrExceeded else with_end m o (record (end_of m o) { waits = suc (end_of m o).waits }))
      by true b = record { moves = Stays; opened = x }
      by false true = other_fails status.RnrExceeded refl
      by false false = one_other (record (end_of m o) { waits = suc (end_of m o).waits }) refl (record { connected = refl; peer = refl; domain = refl; send_queue = refl; receive_queue = refl; send_depth = refl; receive_depth = refl })

-- ---- a refusal

pub denied_alike : (e : End) (y : RefusalReason) → IsAlike (denied e y) e
unfolding denied
denied_alike e y = record { connected = refl; peer = refl; domain = refl; send_queue = refl; receive_queue = refl; send_depth = refl; receive_depth = refl }

-- the end q asks, and the end p refuses; both are of connection j
module _ (m : Machine) (owed : List Due) (i j : ℕ) (apart : sender i ≢ sender j) (x : IsOpened m i) (y : IsOpened m j) (why : RefusalReason) where
  other_refuses : (q p : ObjName) → IsOf j q → IsOf j p → (end_of m q).peer ≡ p → IsSeen i owed m (refuse m q why)
  unfolding refuse refuse_at
  other_refuses q p of_q of_p peer =
      let zq = elsewhere m i j apart y q of_q in
      let zp = elsewhere m i j apart y p of_p in
      let m1 : Machine = with_end m q (denied (end_of m q) why) in
      let first = other_denied m owed i x q zq why in
      let opened = opened_as m q (denied (end_of m q) why) zq.there (denied_name (end_of m q) why ∙ end_name m q) (denied_name (end_of m q) why) (denied_alike (end_of m q) why) j y in
      subst (λ (o : ObjName). IsSeen i owed m (refuse_at m q why o (end_of m o))) (sym peer)
      (seen_then i owed m m1 (refuse_at m q why p (end_of m p)) first
      (other_over m1 owed i first.opened p (elsewhere m1 i j apart opened p of_p) (refused_queues (end_of m p) why (context_of m p.context).queues)
      (alike_before m m1 p.context (refused_queues (end_of m p) why (context_of m p.context).queues) (queue_denied m q why p.context zq.there) (refused_there m p why zp.queue zp.send zp.receive))))

  pub other_refused : (q : ObjName) → IsOf j q → IsSeen i owed m (refuse m q why)
  other_refused q (inl e) = subst (λ (o : ObjName). IsSeen i owed m (refuse m o why)) (sym e) (other_refuses (sender_end j) (receiver_end j) (inl refl) (inr refl) y.sender_joined.peer_is)
  other_refused q (inr e) = subst (λ (o : ObjName). IsSeen i owed m (refuse m o why)) (sym e) (other_refuses (receiver_end j) (sender_end j) (inr refl) (inl refl) y.receiver_joined.peer_is)
