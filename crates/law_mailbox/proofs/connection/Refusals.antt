-- Refusals, as they are seen: the end that asked has one more answer, and the end that refused has ended.
use Rattle.std.proofs.Common.{◌≡◌, ◌≢◌, ◌⊎◌, inl, inr, ℕ, ◌+◌, List, [], ◌∷◌, ◌++◌, length, true, false, refl, sym, subst, ap, ◌∙◌, None, Some, Option}
use Rattle.std.proofs.lemmas.List.Elements.{All-push}
use Rattle.rdma_types.specs.declared.answers.RefusalReason.{RefusalReason}
use Rattle.rdma_types.specs.declared.answers.RefusalReason.TheVariants as why
use Rattle.rdma_types.specs.declared.names.Name.{Name}
use Rattle.rdma_types.specs.declared.names.ObjName.{ObjName}
use Rattle.rdma_types.specs.declared.requests.Completion.{Completion}
use Rattle.rdma_types.specs.declared.requests.Receive.{Receive}
use Rattle.rdma_types.specs.declared.requests.WcStatus.{WcStatus}
use Rattle.rdma_types.specs.declared.requests.WcStatus.TheVariants as status
use Rattle.rdma_types.specs.Kinds.{receive_done}
use Rattle.rdma_types.specs.Limits.{most_bytes}
use Rattle.rdma_types.specs.Lists.{has_name, named}
use Rattle.rdma_types.specs.Objects.{CompletionQueue, Region, no_queue}
use Rattle.packetless_machine.specs.declared.reply.Reply.TheVariants.{Denied}
use Rattle.packetless_machine.specs.Machine.{Context, End, Machine, completed, context_of, end_of, has_context, has_end, queue_of, regions_of, with_end, with_queues}
use Rattle.packetless_machine.specs.Steps.{closed, denied, failed_queues, failed_receives, failed_requests, receive_for, refuse, refuse_at, refused_entries, refused_queues, refused_receives, too_long, untold}
use Rattle.packetless_machine.specs.Verbs.{has_queue, region_of}
use Rattle.packetless_machine.proofs.Views.{end_of-with_context}
use Rattle.law_simulation.proofs.relation.Machines.{MachineChanged, context_here, context_name, context_other, part_same, there_same, with_context_changed}
use Rattle.law_simulation.proofs.relation.Tables.{name-named_there, name_or_not}
use Rattle.mailbox_rules.specs.declared.due.Due.{Due}
use Rattle.mailbox_rules.specs.declared.letters.Letter.{Letter}
use Rattle.mailbox_rules.specs.Histories.{Placed}
use Rattle.mailbox_rules.specs.Opening.{place_address, place_bytes, queue_name, receiver, receiver_end, receiver_key, receiver_region, sender, sender_end, sender_key, sender_region, staging_address}
use Rattle.mailbox_rules.specs.State.{Channel}
use Rattle.mailbox_rules.specs.Working.{is_success}
use Rattle.law_mailbox.specs.Kept.{IsJoined, IsKept, IsKeyedOnce, IsOpened, IsPlain, IsRegion, Sight, dues_of, landing_offset, sight_of}
use Rattle.law_mailbox.specs.Moves.{ReceiverEnds, ReceiverStays, SenderStays}
use Rattle.law_mailbox.specs.Seen.{IsSeen, Moves, Stays}
use Rattle.law_mailbox.proofs.connection.Ends.{longer_here, receives_none, requests_none, still_named}
use Rattle.law_mailbox.proofs.connection.Longer.{dues_same}
use Rattle.law_mailbox.proofs.connection.Opens.{IsAlike}
use Rattle.law_mailbox.proofs.connection.Quiet.{end_name, receiver_seen, sender_seen}
use Rattle.law_mailbox.proofs.connection.Seen.{kept_seen, seen_then}
use Rattle.law_mailbox.proofs.connection.Sights.{context_there, end_is_changed, region_same}

-- ---- other queues of a context, that make the same due

abbrev pub the_queue : List CompletionQueue → CompletionQueue
the_queue queues = named (λ x. x.name) no_queue queue_name queues

pub record AreDueAlike (queues queues' : List CompletionQueue) : Type 0 where
  pub there : has_name (λ x. x.name) queue_name queues' ≡ true
  pub dues : (n : ℕ) → dues_of n (the_queue queues').entries ≡ dues_of n (the_queue queues).entries

-- more entries that make nothing due
completed_alike : (first queues : List CompletionQueue) (q : Name) (more : List Completion) → q ≡ queue_name → ((n : ℕ) → dues_of n more ≡ []) → AreDueAlike first queues → AreDueAlike first (completed q more queues)
completed_alike first queues q more is none before = subst (λ (z : Name). AreDueAlike first (completed z more queues)) (sym is) after
  where
    same : (the_queue queues).name ≡ queue_name
    same = name-named_there (λ x. x.name) no_queue queue_name queues before.there

    after : AreDueAlike first (completed queue_name more queues)
    after = record {
      there = still_named queue_name queue_name more queues before.there same ∙ before.there;
      dues = λ n. ap (λ (x : CompletionQueue). dues_of n x.entries) (longer_here queue_name more queues before.there same) ∙ (dues_same n (the_queue queues).entries more (none n) ∙ before.dues n);
    }

-- the entries of a refusal
long_none : (n number : ℕ) (r : Option Receive) → dues_of n (too_long number r) ≡ []
unfolding too_long receive_done
long_none n number None = refl
long_none n number (Some v) = refl

entries_none : (n : ℕ) (x : End) (y : RefusalReason) → dues_of n (refused_entries x y) ≡ []
unfolding refused_entries
entries_none n x why.Invalid = refl
entries_none n x why.Access = refl
entries_none n x why.Length = long_none n x.number (receive_for x)

-- .. and those of an end that fails
pub failed_alike : (first queues : List CompletionQueue) (x : End) (s : WcStatus) (vs : List Receive) → is_success s ≡ false → x.send_queue ≡ queue_name → x.receive_queue ≡ queue_name → AreDueAlike first queues → AreDueAlike first (failed_queues x s vs queues)
unfolding failed_queues
failed_alike first queues x s vs bad send receive before =
    completed_alike first (completed x.send_queue (failed_requests x.number s (untold x)) queues) x.receive_queue (failed_receives x.number vs) receive (λ n. receives_none n x.number vs)
    (completed_alike first queues x.send_queue (failed_requests x.number s (untold x)) send (λ n. requests_none n x.number s (untold x) bad) before)

refused_alike : (x : End) (y : RefusalReason) (queues : List CompletionQueue) → has_name (λ z. z.name) queue_name queues ≡ true → x.send_queue ≡ queue_name → x.receive_queue ≡ queue_name → AreDueAlike queues (refused_queues x y queues)
unfolding refused_queues
refused_alike x y queues there send receive =
    failed_alike queues (completed x.receive_queue (refused_entries x y) queues) x status.Flush (refused_receives x y) refl send receive
    (completed_alike queues queues x.receive_queue (refused_entries x y) receive (λ n. entries_none n x y) (record { there = there; dues = λ n. refl }))

-- ---- a machine with such queues

pub queues_ends : (m : Machine) (c : Name) (queues : List CompletionQueue) (q : ObjName) → end_of (with_queues m c queues) q ≡ end_of m q
unfolding with_queues
queues_ends m c queues q = end_of-with_context m c (record (context_of m c) { queues = queues }) q refl refl

module _ (m : Machine) (c : Name) (queues : List CompletionQueue) (context : has_context m c ≡ true) where
  queues_changed : MachineChanged m (with_queues m c queues) c (record (context_of m c) { queues = queues })
  unfolding with_queues
  queues_changed = with_context_changed m c (record (context_of m c) { queues = queues }) (context_name m c) context

  pub queues_there : (context_of (with_queues m c queues) c).queues ≡ queues
  queues_there = ap (λ (x : Context). x.queues) (context_here m (with_queues m c queues) c (record (context_of m c) { queues = queues }) queues_changed)

  pub queues_elsewhere : (d : Name) → d ≢ c → (context_of (with_queues m c queues) d).queues ≡ (context_of m d).queues
  queues_elsewhere d other = ap (λ (x : Context). x.queues) (context_other m (with_queues m c queues) c (record (context_of m c) { queues = queues }) queues_changed d other)

module _ (m : Machine) (c : Name) (queues : List CompletionQueue) (context : has_context m c ≡ true) (alike : AreDueAlike (context_of m c).queues queues) where
  regions_stay : (d : Name) → regions_of (with_queues m c queues) d ≡ regions_of m d
  regions_stay d = part_same m (with_queues m c queues) c (record (context_of m c) { queues = queues }) (queues_changed m c queues context) (λ x. x.regions) d refl

  region_stays : (q : ObjName) → region_of (with_queues m c queues) q ≡ region_of m q
  region_stays q = region_same m (with_queues m c queues) q (regions_stay q.context)

  dues_stay : (n : ℕ) (d : Name) → dues_of n (queue_of (with_queues m c queues) d queue_name).entries ≡ dues_of n (queue_of m d queue_name).entries
  unfolding queue_of
  dues_stay n d = part_same m (with_queues m c queues) c (record (context_of m c) { queues = queues }) (queues_changed m c queues context) (λ (x : Context). dues_of n (the_queue x.queues).entries) d (alike.dues n)

  there_stays : (q : ObjName) → has_end (with_queues m c queues) q ≡ has_end m q
  there_stays q = there_same m (with_queues m c queues) c (record (context_of m c) { queues = queues }) (queues_changed m c queues context) q (λ n. refl)

  queue_stays : (d : Name) → has_queue m d queue_name ≡ true → has_queue (with_queues m c queues) d queue_name ≡ true
  queue_stays d there = by (name_or_not d c)
    where
      by : (d ≡ c) ⊎ (d ≢ c) → has_queue (with_queues m c queues) d queue_name ≡ true
      by (inl e) = ap (λ (k : Name). has_queue (with_queues m c queues) k queue_name) e ∙ (ap (has_name (λ z. z.name) queue_name) (queues_there m c queues context) ∙ alike.there)
      by (inr other) = ap (has_name (λ z. z.name) queue_name) (queues_elsewhere m c queues context d other) ∙ there

  pub sees_queues : (owed : List Due) (i : ℕ) → sight_of (with_queues m c queues) owed i ≡ sight_of m owed i
  sees_queues owed i = λ k. record {
    sender = queues_ends m c queues (sender_end i) k;
    receiver = queues_ends m c queues (receiver_end i) k;
    stored = (region_stays (sender_region i) k).bytes;
    landed = (region_stays (receiver_region i) k).bytes;
    dues = owed ++ (dues_stay 0 receiver k ++ dues_stay i (sender i) k);
  }

  pub opened_queues : (i : ℕ) → IsOpened m i → IsOpened (with_queues m c queues) i
  opened_queues i x = record {
    sender_there = there_stays (sender_end i) ∙ x.sender_there;
    receiver_there = there_stays (receiver_end i) ∙ x.receiver_there;
    sender_joined = subst (λ (e : End). IsJoined e (receiver_end i)) (sym (queues_ends m c queues (sender_end i))) x.sender_joined;
    receiver_joined = subst (λ (e : End). IsJoined e (sender_end i)) (sym (queues_ends m c queues (receiver_end i))) x.receiver_joined;
    sender_queue = queue_stays (sender i) x.sender_queue;
    receiver_queue = queue_stays receiver x.receiver_queue;
    sender_region_there = ap (λ (rs : List Region). has_name (λ z. z.name) (sender_region i).name rs) (regions_stay (sender i)) ∙ x.sender_region_there;
    receiver_region_there = ap (λ (rs : List Region). has_name (λ z. z.name) (receiver_region i).name rs) (regions_stay receiver) ∙ x.receiver_region_there;
    sender_region_is = subst (λ (r : Region). IsRegion r staging_address (place_bytes + most_bytes) 5 (sender_key i)) (sym (region_stays (sender_region i))) x.sender_region_is;
    receiver_region_is = subst (λ (r : Region). IsRegion r (place_address i 0) (landing_offset + most_bytes) 1 (receiver_key i)) (sym (region_stays (receiver_region i))) x.receiver_region_is;
    sender_keyed = subst (λ (rs : List Region). IsKeyedOnce rs (sender_key i)) (sym (regions_stay (sender i))) x.sender_keyed;
    receiver_keyed = subst (λ (rs : List Region). IsKeyedOnce rs (receiver_key i)) (sym (regions_stay receiver)) x.receiver_keyed;
  }

  pub queues_seen : (owed : List Due) (i : ℕ) → IsOpened m i → IsSeen i owed m (with_queues m c queues)
  queues_seen owed i opened = record { moves = subst (λ (s : Sight). Moves i (sight_of m owed i) s) (sym (sees_queues owed i)) Stays; opened = opened_queues i opened }

-- .. also in a machine whose queue is the same
pub alike_before : (m m' : Machine) (c : Name) (queues : List CompletionQueue) → queue_of m' c queue_name ≡ queue_of m c queue_name → AreDueAlike (context_of m c).queues queues → AreDueAlike (context_of m' c).queues queues
unfolding queue_of
alike_before m m' c queues same alike = record { there = alike.there; dues = λ n. alike.dues n ∙ ap (λ (x : CompletionQueue). dues_of n x.entries) (sym same) }

-- ---- an end has ended, and its queue has such entries

pub closed_name : (e : End) → (closed e).name ≡ e.name
unfolding closed
closed_name e = refl

pub closed_alike : (e : End) → IsAlike (closed e) e
unfolding closed
closed_alike e = record { connected = refl; peer = refl; domain = refl; send_queue = refl; receive_queue = refl; send_depth = refl; receive_depth = refl }

pub queue_closed : (m : Machine) (o : ObjName) → has_end m o ≡ true → queue_of (with_end m o (closed (end_of m o))) o.context queue_name ≡ queue_of m o.context queue_name
queue_closed m o there = (end_is_changed m o (closed (end_of m o)) there (closed_name (end_of m o) ∙ end_name m o) (closed_name (end_of m o))).queues o.context queue_name

module _ (m : Machine) (owed : List Due) (i : ℕ) (opened : IsOpened m i) (c : Channel) (sent : List Letter) (open' : List Placed) (h : IsKept i (sight_of m owed i) c sent open') (queues : List CompletionQueue) where
  abbrev sender_closed : Machine
  sender_closed = with_end m (sender_end i) (closed (end_of m (sender_end i)))

  abbrev receiver_closed : Machine
  receiver_closed = with_end m (receiver_end i) (closed (end_of m (receiver_end i)))

  sender_closes : IsSeen i owed m sender_closed
  unfolding closed
  sender_closes =
      let e : End = end_of m (sender_end i) in
      sender_seen m owed i opened c sent open' h (record (end_of m (sender_end i)) { ended = true; told = length (end_of m (sender_end i)).posted; known = 0; spent = 0; waits = 0; unused = []; in_use = None }) refl
      (record { connected = refl; peer = refl; domain = refl; send_queue = refl; receive_queue = refl; send_depth = refl; receive_depth = refl })
      (SenderStays (length e.posted) 0 0 0 e.answers e.dry [] None true h.plain.0 (λ live. cc))

  receiver_closes : IsSeen i owed m receiver_closed
  unfolding closed
  receiver_closes =
      receiver_seen m owed i opened c sent open' h (record (end_of m (receiver_end i)) { ended = true; told = length (end_of m (receiver_end i)).posted; known = 0; spent = 0; waits = 0; unused = []; in_use = None }) refl
      (record { connected = refl; peer = refl; domain = refl; send_queue = refl; receive_queue = refl; send_depth = refl; receive_depth = refl })
      ReceiverEnds

  pub sender_over : AreDueAlike (context_of m (sender i)).queues queues → IsSeen i owed m (with_queues sender_closed (sender i) queues)
  sender_over alike =
      let over = sender_closes in
      seen_then i owed m sender_closed (with_queues sender_closed (sender i) queues) over
      (queues_seen sender_closed (sender i) queues (context_there sender_closed (sender_end i) over.opened.sender_there) (alike_before m sender_closed (sender i) queues (queue_closed m (sender_end i) opened.sender_there) alike) owed i over.opened)

  pub receiver_over : AreDueAlike (context_of m receiver).queues queues → IsSeen i owed m (with_queues receiver_closed receiver queues)
  receiver_over alike =
      let over = receiver_closes in
      seen_then i owed m receiver_closed (with_queues receiver_closed receiver queues) over
      (queues_seen receiver_closed receiver queues (context_there receiver_closed (receiver_end i) over.opened.receiver_there) (alike_before m receiver_closed receiver queues (queue_closed m (receiver_end i) opened.receiver_there) alike) owed i over.opened)

-- ---- refusals

pub denied_name : (e : End) (y : RefusalReason) → (denied e y).name ≡ e.name
unfolding denied
denied_name e y = refl

pub queue_denied : (m : Machine) (o : ObjName) (y : RefusalReason) (c : Name) → has_end m o ≡ true → queue_of (with_end m o (denied (end_of m o) y)) c queue_name ≡ queue_of m c queue_name
queue_denied m o y c there = (end_is_changed m o (denied (end_of m o) y) there (denied_name (end_of m o) y ∙ end_name m o) (denied_name (end_of m o) y)).queues c queue_name

-- the queues of a context, once an end of it refused
pub refused_there : (m : Machine) (o : ObjName) (y : RefusalReason) → has_queue m o.context queue_name ≡ true → (end_of m o).send_queue ≡ queue_name → (end_of m o).receive_queue ≡ queue_name →
    AreDueAlike (context_of m o.context).queues (refused_queues (end_of m o) y (context_of m o.context).queues)
refused_there m o y there send receive = refused_alike (end_of m o) y (context_of m o.context).queues there send receive

module _ (m : Machine) (owed : List Due) (i : ℕ) (opened : IsOpened m i) (c : Channel) (sent : List Letter) (open' : List Placed) (h : IsKept i (sight_of m owed i) c sent open') (y : RefusalReason) where
  -- ---- the sender's end is refused

  abbrev sender_denied : Machine
  sender_denied = with_end m (sender_end i) (denied (end_of m (sender_end i)) y)

  sender_denied_seen : IsSeen i owed m sender_denied
  unfolding denied
  sender_denied_seen =
      let e : End = end_of m (sender_end i) in
      sender_seen m owed i opened c sent open' h (record (end_of m (sender_end i)) { answers = (end_of m (sender_end i)).answers ++ Denied y ∷ [] }) refl
      (record { connected = refl; peer = refl; domain = refl; send_queue = refl; receive_queue = refl; send_depth = refl; receive_depth = refl })
      (SenderStays e.told e.known e.spent e.waits (e.answers ++ Denied y ∷ []) e.dry e.unused e.in_use e.ended (All-push IsPlain e.answers (Denied y) h.plain.0 tt) (λ live. live))

  -- ---- the receiver's end is refused

  abbrev receiver_denied : Machine
  receiver_denied = with_end m (receiver_end i) (denied (end_of m (receiver_end i)) y)

  receiver_denied_seen : IsSeen i owed m receiver_denied
  unfolding denied
  receiver_denied_seen =
      let e : End = end_of m (receiver_end i) in
      receiver_seen m owed i opened c sent open' h (record (end_of m (receiver_end i)) { answers = (end_of m (receiver_end i)).answers ++ Denied y ∷ [] }) refl
      (record { connected = refl; peer = refl; domain = refl; send_queue = refl; receive_queue = refl; send_depth = refl; receive_depth = refl })
      (ReceiverStays e.spent e.waits (e.answers ++ Denied y ∷ []) e.dry (All-push IsPlain e.answers (Denied y) h.plain.1 tt))

  -- ---- as they are seen

  pub sender_refused : IsSeen i owed m (refuse m (sender_end i) y)
  unfolding refuse refuse_at
  sender_refused =
      let first = sender_denied_seen in
      let k = kept_seen i owed m sender_denied c sent open' first h in
      let alike = alike_before m sender_denied receiver (refused_queues (end_of m (receiver_end i)) y (context_of m receiver).queues) (queue_denied m (sender_end i) y receiver opened.sender_there)
      (refused_there m (receiver_end i) y opened.receiver_queue opened.receiver_joined.send_queue opened.receiver_joined.receive_queue) in
      subst (λ (p : ObjName). IsSeen i owed m (refuse_at m (sender_end i) y p (end_of m p))) (sym opened.sender_joined.peer_is)
      (seen_then i owed m sender_denied (refuse_at m (sender_end i) y (receiver_end i) (end_of m (receiver_end i))) first
      (receiver_over sender_denied owed i first.opened c sent open' k (refused_queues (end_of m (receiver_end i)) y (context_of m receiver).queues) alike))

  pub receiver_refused : IsSeen i owed m (refuse m (receiver_end i) y)
  unfolding refuse refuse_at
  receiver_refused =
      let first = receiver_denied_seen in
      let k = kept_seen i owed m receiver_denied c sent open' first h in
      let alike = alike_before m receiver_denied (sender i) (refused_queues (end_of m (sender_end i)) y (context_of m (sender i)).queues) (queue_denied m (receiver_end i) y (sender i) opened.receiver_there)
      (refused_there m (sender_end i) y opened.sender_queue opened.sender_joined.send_queue opened.sender_joined.receive_queue) in
      subst (λ (p : ObjName). IsSeen i owed m (refuse_at m (receiver_end i) y p (end_of m p))) (sym opened.receiver_joined.peer_is)
      (seen_then i owed m receiver_denied (refuse_at m (receiver_end i) y (sender_end i) (end_of m (sender_end i))) first
      (sender_over receiver_denied owed i first.opened c sent open' k (refused_queues (end_of m (sender_end i)) y (context_of m (sender i)).queues) alike))
