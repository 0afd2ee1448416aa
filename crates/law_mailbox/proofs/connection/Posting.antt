-- What is seen of the connections where a receive or a request is posted at an end of one of them.
use Rattle.std.proofs.Common.{arith, ◌≡◌, ◌≢◌, ℕ, ◌+◌, ◌%◌, ◌≤◌, [], ◌∷◌, ◌++◌, get_or, true, false, Bool, refl, sym, subst, ap, ◌∙◌, Some, None, Option, ◌⊎◌, inl, inr}
use Rattle.std.specs.Prelude.{if◌then◌else◌}
use Rattle.rdma_types.specs.declared.answers.Refusal.{Refusal}
use Rattle.rdma_types.specs.declared.names.Name.{Name}
use Rattle.rdma_types.specs.declared.names.ObjName.{ObjName}
use Rattle.rdma_types.specs.declared.requests.Completion.{Completion}
use Rattle.rdma_types.specs.declared.requests.Receive.{Receive}
use Rattle.rdma_types.specs.declared.requests.Request.{Request}
use Rattle.rdma_types.specs.declared.requests.WcKind.TheVariants as wc_kinds
use Rattle.rdma_types.specs.declared.requests.WcStatus.TheVariants as statuses
use Rattle.rdma_types.specs.declared.verbs.Verb.{Verb}
use Rattle.rdma_types.specs.declared.verbs.Verb.TheVariants as verbs
use Rattle.rdma_types.specs.Kinds.{receive_done, request_done}
use Rattle.rdma_types.specs.Objects.{CompletionQueue, Posted}
use Rattle.packetless_machine.specs.Machine.{End, Machine, completing, end_of, in_end, queue_of, with_end}
use Rattle.packetless_machine.specs.Verbs.{after_answer, after_verb, done, posted, received, refusal_of, taken, with_receive, with_request}
use Rattle.packetless_machine.proofs.Views.{end_of-completing}
use Rattle.mailbox_rules.specs.Opening.{queue_name, receiver, receiver_end, sender, sender_end}
use Rattle.law_mailbox.specs.Kept.{IsOpened, Sight, dues_of, sight_of, standing}
use Rattle.law_mailbox.proofs.work.Changing.{IsSeenAt, sees_itself}
use Rattle.law_mailbox.proofs.connection.Longer.{dues_same, opened_longer, queue_elsewhere, queue_here, sees_longer}
use Rattle.law_mailbox.proofs.connection.Opens.{IsAlike, connected_as, opened_as}
use Rattle.law_mailbox.proofs.connection.Quiet.{end_name}
use Rattle.law_mailbox.proofs.connection.Sights.{IsEndChanged, context_there, end_is_changed, sees_nothing, sees_receiver, sees_sender}
use Rattle.law_mailbox.proofs.connection.Tells.{queue_named}

-- ---- names differ

pub receivers_apart : (i j : ℕ) → i ≤ 8 → j ≤ 8 → i ≢ j → receiver_end i ≢ receiver_end j
receivers_apart i j low high apart e =
    let digit : 48 + i % 10 ≡ 48 + j % 10 = ap (λ (o : ObjName). get_or o.name 1 0) e in
    apart (omega (arith, digit, low, high))

pub senders_apart : (i j : ℕ) → i ≤ 8 → j ≤ 8 → i ≢ j → sender_end i ≢ sender_end j
senders_apart i j low high apart e =
    let digit : 48 + i % 10 ≡ 48 + j % 10 = ap (λ (o : ObjName). get_or o.context 1 0) e in
    apart (omega (arith, digit, low, high))

pub sender_no_receiver : (i j : ℕ) → sender_end i ≢ receiver_end j
sender_no_receiver i j e = let contexts : sender i ≡ receiver = ap (λ (o : ObjName). o.context) e in cc

pub receiver_no_sender : (i j : ℕ) → receiver_end i ≢ sender_end j
receiver_no_sender i j e = let contexts : receiver ≡ sender j = ap (λ (o : ObjName). o.context) e in cc

-- ---- what is posted at an end, live or ended

unfoldable pub flushed_receive : End → Receive → Completion
flushed_receive e v = receive_done e.number v wc_kinds.Recv statuses.Flush 0 None

unfoldable pub flushed_request : End → Posted → Completion
flushed_request e p = request_done e.number p statuses.Flush 0

pub flushed_receive_no_due : (e : End) (v : Receive) (n : ℕ) → dues_of n (flushed_receive e v ∷ []) ≡ []
unfolding receive_done flushed_receive
flushed_receive_no_due e v n = refl

pub flushed_request_no_due : (e : End) (p : Posted) (n : ℕ) → dues_of n (flushed_request e p ∷ []) ≡ []
unfolding request_done flushed_request
flushed_request_no_due e p n = refl

module _ (m : Machine) (o : ObjName) where
  pub received_ended : (v : Receive) → (end_of m o).ended ≡ true → received m o v ≡ completing m o.context (end_of m o).receive_queue (flushed_receive (end_of m o) v ∷ [])
  unfolding received flushed_receive
  received_ended v e = ap (λ (b : Bool). if b then completing m o.context (end_of m o).receive_queue (flushed_receive (end_of m o) v ∷ []) else in_end m o (with_receive v)) e

  pub received_live : (v : Receive) → (end_of m o).ended ≡ false → received m o v ≡ in_end m o (with_receive v)
  unfolding received flushed_receive
  received_live v e = ap (λ (b : Bool). if b then completing m o.context (end_of m o).receive_queue (flushed_receive (end_of m o) v ∷ []) else in_end m o (with_receive v)) e

  pub posted_ended : (r : Request) (p : Posted) → taken m o r ≡ p → (end_of m o).ended ≡ true → posted m o r ≡ completing m o.context (end_of m o).send_queue (flushed_request (end_of m o) p ∷ [])
  unfolding posted flushed_request
  posted_ended r p is e =
      ap (λ (b : Bool). if b then completing m o.context (end_of m o).send_queue (flushed_request (end_of m o) (taken m o r) ∷ []) else in_end m o (with_request (taken m o r))) e
      ∙ ap (λ (q : Posted). completing m o.context (end_of m o).send_queue (flushed_request (end_of m o) q ∷ [])) is

  pub posted_live : (r : Request) (p : Posted) → taken m o r ≡ p → (end_of m o).ended ≡ false → posted m o r ≡ in_end m o (with_request p)
  unfolding posted flushed_request
  posted_live r p is e =
      ap (λ (b : Bool). if b then completing m o.context (end_of m o).send_queue (flushed_request (end_of m o) (taken m o r) ∷ []) else in_end m o (with_request (taken m o r))) e
      ∙ ap (λ (q : Posted). in_end m o (with_request q)) is

module _ (peers : ℕ) (small : peers ≤ 8) (m : Machine) (j : ℕ) (within : j ≤ peers) (opened : IsOpened m j) where
  -- ---- another end

  pub receiver_at : (e : End) → e.name ≡ (end_of m (receiver_end j)).name → IsAlike e (end_of m (receiver_end j)) → IsSeenAt peers m (with_end m (receiver_end j) e) j (record (sight_of m [] j) { receiver = e })
  receiver_at e name alike =
      let named = name ∙ end_name m (receiver_end j) in
      let g : IsEndChanged m (with_end m (receiver_end j) e) (receiver_end j) e = end_is_changed m (receiver_end j) e opened.receiver_there named name in
      record {
        here = sees_receiver m (with_end m (receiver_end j) e) [] j e g;
        others = λ i low high apart. sees_nothing m (with_end m (receiver_end j) e) [] i e (receiver_end j) (sender_no_receiver i j) (receivers_apart i j (omega (arith, high, small)) (omega (arith, within, small)) apart) g;
        opened = opened_as m (receiver_end j) e opened.receiver_there named name alike;
        connected = connected_as m (receiver_end j) e opened.receiver_there named name alike;
        standing_same = ap (λ (q : CompletionQueue). dues_of 0 q.entries) (g.queues receiver queue_name);
      }

  pub sender_at : (e : End) → e.name ≡ (end_of m (sender_end j)).name → IsAlike e (end_of m (sender_end j)) → IsSeenAt peers m (with_end m (sender_end j) e) j (record (sight_of m [] j) { sender = e })
  sender_at e name alike =
      let named = name ∙ end_name m (sender_end j) in
      let g : IsEndChanged m (with_end m (sender_end j) e) (sender_end j) e = end_is_changed m (sender_end j) e opened.sender_there named name in
      record {
        here = sees_sender m (with_end m (sender_end j) e) [] j e g;
        others = λ i low high apart. sees_nothing m (with_end m (sender_end j) e) [] i e (sender_end j) (senders_apart i j (omega (arith, high, small)) (omega (arith, within, small)) apart) (receiver_no_sender i j) g;
        opened = opened_as m (sender_end j) e opened.sender_there named name alike;
        connected = connected_as m (sender_end j) e opened.sender_there named name alike;
        standing_same = ap (λ (q : CompletionQueue). dues_of 0 q.entries) (g.queues receiver queue_name);
      }

  -- ---- a completion with an error

  pub receiver_longer : (x : Completion) → ((n : ℕ) → dues_of n (x ∷ []) ≡ []) → IsSeenAt peers m (completing m receiver queue_name (x ∷ [])) j (sight_of m [] j)
  receiver_longer x none =
      let context = context_there m (receiver_end j) opened.receiver_there in
      let named = queue_named m receiver opened.receiver_queue in
      record {
        here = sees_longer m [] j receiver (x ∷ []) context opened.receiver_queue named (λ e. none 0) (λ e. none j);
        others = λ i low high apart. sees_longer m [] i receiver (x ∷ []) context opened.receiver_queue named (λ e. none 0) (λ e. none i);
        opened = opened_longer m receiver queue_name (x ∷ []) context opened.receiver_queue named;
        connected = λ o. ap (λ (e : End). e.connected) (end_of-completing m receiver queue_name (x ∷ []) o);
        standing_same = ap (λ (q : CompletionQueue). dues_of 0 q.entries) (queue_here m receiver queue_name (x ∷ []) context opened.receiver_queue named) ∙ dues_same 0 (queue_of m receiver queue_name).entries (x ∷ []) (none 0);
      }

  pub sender_longer : (x : Completion) → ((n : ℕ) → dues_of n (x ∷ []) ≡ []) → IsSeenAt peers m (completing m (sender j) queue_name (x ∷ [])) j (sight_of m [] j)
  sender_longer x none =
      let context = context_there m (sender_end j) opened.sender_there in
      let named = queue_named m (sender j) opened.sender_queue in
      record {
        here = sees_longer m [] j (sender j) (x ∷ []) context opened.sender_queue named (λ e. none 0) (λ e. none j);
        others = λ i low high apart. sees_longer m [] i (sender j) (x ∷ []) context opened.sender_queue named (λ e. none 0) (λ e. none i);
        opened = opened_longer m (sender j) queue_name (x ∷ []) context opened.sender_queue named;
        connected = λ o. ap (λ (e : End). e.connected) (end_of-completing m (sender j) queue_name (x ∷ []) o);
        standing_same = ap (λ (q : CompletionQueue). dues_of 0 q.entries) (queue_elsewhere m (sender j) queue_name (x ∷ []) context opened.sender_queue named receiver queue_name (λ e. cc));
      }

  -- ---- what is posted

  -- nothing is seen of a verb, or an end that has not ended is another
  abbrev pub IsSeenOr : Machine → End → Sight → Type 0
  IsSeenOr m' e s = IsSeenAt peers m m' j (sight_of m [] j) ⊎ ((e.ended ≡ false) × IsSeenAt peers m m' j s)

  -- .. also where it is refused
  by_answer : (v : Verb) (given : ℕ) (e : End) (s : Sight) → IsSeenAt peers m (done m v given) j (sight_of m [] j) ⊎ ((e.ended ≡ false) × IsSeenAt peers m (done m v given) j s) →
      IsSeenAt peers m (after_verb m v given) j (sight_of m [] j) ⊎ ((e.ended ≡ false) × IsSeenAt peers m (after_verb m v given) j s)
  by_answer v given e s seen = by (refusal_of m v)
    where
      by : (r : Option Refusal) → IsSeenAt peers m (after_answer r m v given) j (sight_of m [] j) ⊎ ((e.ended ≡ false) × IsSeenAt peers m (after_answer r m v given) j s)
      by None = seen
      by (Some r) = inl (sees_itself peers m j)

  abbrev pub with_place : Receive → Sight
  with_place v = record (sight_of m [] j) { receiver = record (end_of m (receiver_end j)) { unused = (end_of m (receiver_end j)).unused ++ v ∷ [] } }

  pub receive_at_receiver : (v : Receive) (given : ℕ) → IsSeenOr (after_verb m (verbs.PostRecv (receiver_end j) v) given) (end_of m (receiver_end j)) (with_place v)
  receive_at_receiver v given = by_answer (verbs.PostRecv (receiver_end j) v) given (end_of m (receiver_end j)) (with_place v) (by (end_of m (receiver_end j)).ended refl)
    where
      by : (b : Bool) → (end_of m (receiver_end j)).ended ≡ b → IsSeenOr (done m (verbs.PostRecv (receiver_end j) v) given) (end_of m (receiver_end j)) (with_place v)
      by true e =
          inl (subst (λ (x : Machine). IsSeenAt peers m x j (sight_of m [] j)) (sym (received_ended m (receiver_end j) v e ∙ ap (λ (q : Name). completing m receiver q (flushed_receive (end_of m (receiver_end j)) v ∷ [])) opened.receiver_joined.receive_queue))
          (receiver_longer (flushed_receive (end_of m (receiver_end j)) v) (flushed_receive_no_due (end_of m (receiver_end j)) v)))
      by false e =
          inr (
            e,
            subst (λ (x : Machine). IsSeenAt peers m x j (with_place v)) (sym (received_live m (receiver_end j) v e))
                (receiver_at (record (end_of m (receiver_end j)) { unused = (end_of m (receiver_end j)).unused ++ v ∷ [] }) refl (record { connected = refl; peer = refl; domain = refl; send_queue = refl; receive_queue = refl; send_depth = refl; receive_depth = refl })),
          )

  abbrev pub with_sender_place : Receive → Sight
  with_sender_place v = record (sight_of m [] j) { sender = record (end_of m (sender_end j)) { unused = (end_of m (sender_end j)).unused ++ v ∷ [] } }

  pub receive_at_sender : (v : Receive) (given : ℕ) → IsSeenOr (after_verb m (verbs.PostRecv (sender_end j) v) given) (end_of m (sender_end j)) (with_sender_place v)
  receive_at_sender v given = by_answer (verbs.PostRecv (sender_end j) v) given (end_of m (sender_end j)) (with_sender_place v) (by (end_of m (sender_end j)).ended refl)
    where
      by : (b : Bool) → (end_of m (sender_end j)).ended ≡ b → IsSeenOr (done m (verbs.PostRecv (sender_end j) v) given) (end_of m (sender_end j)) (with_sender_place v)
      by true e =
          inl (subst (λ (x : Machine). IsSeenAt peers m x j (sight_of m [] j)) (sym (received_ended m (sender_end j) v e ∙ ap (λ (q : Name). completing m (sender j) q (flushed_receive (end_of m (sender_end j)) v ∷ [])) opened.sender_joined.receive_queue))
          (sender_longer (flushed_receive (end_of m (sender_end j)) v) (flushed_receive_no_due (end_of m (sender_end j)) v)))
      by false e =
          inr (
            e,
            subst (λ (x : Machine). IsSeenAt peers m x j (with_sender_place v)) (sym (received_live m (sender_end j) v e))
                (sender_at (record (end_of m (sender_end j)) { unused = (end_of m (sender_end j)).unused ++ v ∷ [] }) refl (record { connected = refl; peer = refl; domain = refl; send_queue = refl; receive_queue = refl; send_depth = refl; receive_depth = refl })),
          )

  abbrev pub with_posted : Posted → Sight
  with_posted p = record (sight_of m [] j) { receiver = record (end_of m (receiver_end j)) { posted = (end_of m (receiver_end j)).posted ++ p ∷ [] } }

  pub request_at_receiver : (r : Request) (p : Posted) (given : ℕ) → taken m (receiver_end j) r ≡ p → IsSeenOr (after_verb m (verbs.PostSend (receiver_end j) r) given) (end_of m (receiver_end j)) (with_posted p)
  request_at_receiver r p given is = by_answer (verbs.PostSend (receiver_end j) r) given (end_of m (receiver_end j)) (with_posted p) (by (end_of m (receiver_end j)).ended refl)
    where
      by : (b : Bool) → (end_of m (receiver_end j)).ended ≡ b → IsSeenOr (done m (verbs.PostSend (receiver_end j) r) given) (end_of m (receiver_end j)) (with_posted p)
      by true e =
          inl (subst (λ (x : Machine). IsSeenAt peers m x j (sight_of m [] j)) (sym (posted_ended m (receiver_end j) r p is e ∙ ap (λ (q : Name). completing m receiver q (flushed_request (end_of m (receiver_end j)) p ∷ [])) opened.receiver_joined.send_queue))
          (receiver_longer (flushed_request (end_of m (receiver_end j)) p) (flushed_request_no_due (end_of m (receiver_end j)) p)))
      by false e =
          inr (
            e,
            subst (λ (x : Machine). IsSeenAt peers m x j (with_posted p)) (sym (posted_live m (receiver_end j) r p is e))
                (receiver_at (record (end_of m (receiver_end j)) { posted = (end_of m (receiver_end j)).posted ++ p ∷ [] }) refl (record { connected = refl; peer = refl; domain = refl; send_queue = refl; receive_queue = refl; send_depth = refl; receive_depth = refl })),
          )

  -- a request of the sender's end that is not refused: it is posted, or the end has ended
  abbrev pub with_sent : Posted → Sight
  with_sent p = record (sight_of m [] j) { sender = record (end_of m (sender_end j)) { posted = (end_of m (sender_end j)).posted ++ p ∷ [] } }

  pub request_at_sender : (r : Request) (p : Posted) → taken m (sender_end j) r ≡ p →
      (((end_of m (sender_end j)).ended ≡ true) × IsSeenAt peers m (posted m (sender_end j) r) j (sight_of m [] j)) ⊎ (((end_of m (sender_end j)).ended ≡ false) × IsSeenAt peers m (posted m (sender_end j) r) j (with_sent p))
  request_at_sender r p is = by (end_of m (sender_end j)).ended refl
    where
      by : (b : Bool) → (end_of m (sender_end j)).ended ≡ b →
          (((end_of m (sender_end j)).ended ≡ true) × IsSeenAt peers m (posted m (sender_end j) r) j (sight_of m [] j)) ⊎ (((end_of m (sender_end j)).ended ≡ false) × IsSeenAt peers m (posted m (sender_end j) r) j (with_sent p))
      by true e =
          inl (
            e,
            subst (λ (x : Machine). IsSeenAt peers m x j (sight_of m [] j)) (sym (posted_ended m (sender_end j) r p is e ∙ ap (λ (q : Name). completing m (sender j) q (flushed_request (end_of m (sender_end j)) p ∷ [])) opened.sender_joined.send_queue))
                (sender_longer (flushed_request (end_of m (sender_end j)) p) (flushed_request_no_due (end_of m (sender_end j)) p)),
          )
      by false e =
          inr (
            e,
            subst (λ (x : Machine). IsSeenAt peers m x j (with_sent p)) (sym (posted_live m (sender_end j) r p is e))
                (sender_at (record (end_of m (sender_end j)) { posted = (end_of m (sender_end j)).posted ++ p ∷ [] }) refl (record { connected = refl; peer = refl; domain = refl; send_queue = refl; receive_queue = refl; send_depth = refl; receive_depth = refl })),
          )

  -- .. and no completion is added to the receiver's queue
  pub sent_standing : (r : Request) → standing (posted m (sender_end j) r) receiver ≡ standing m receiver
  sent_standing r = by (end_of m (sender_end j)).ended refl
    where
      p : Posted
      p = taken m (sender_end j) r

      by : (b : Bool) → (end_of m (sender_end j)).ended ≡ b → standing (posted m (sender_end j) r) receiver ≡ standing m receiver
      by true e =
          let more = flushed_request (end_of m (sender_end j)) p ∷ [] in
          let is = posted_ended m (sender_end j) r p refl e ∙ ap (λ (q : Name). completing m (sender j) q (flushed_request (end_of m (sender_end j)) p ∷ [])) opened.sender_joined.send_queue in
          ap (λ (x : Machine). standing x receiver) is
          ∙ ap (λ (q : CompletionQueue). q.entries) (queue_elsewhere m (sender j) queue_name more (context_there m (sender_end j) opened.sender_there) opened.sender_queue (queue_named m (sender j) opened.sender_queue) receiver queue_name (λ f. cc))
      by false e =
          let new : End = record (end_of m (sender_end j)) { posted = (end_of m (sender_end j)).posted ++ p ∷ [] } in
          let g : IsEndChanged m (with_end m (sender_end j) new) (sender_end j) new = end_is_changed m (sender_end j) new opened.sender_there (end_name m (sender_end j)) refl in
          ap (λ (x : Machine). standing x receiver) (posted_live m (sender_end j) r p refl e) ∙ ap (λ (q : CompletionQueue). q.entries) (g.queues receiver queue_name)
