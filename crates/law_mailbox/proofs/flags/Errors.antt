-- A completion with an error stands only where its end has ended: inner steps of the machine keep that, and so do postings, stores and
-- polls; and an end that has ended stays so.
use Rattle.std.proofs.Common.{arith, ◌≡◌, ◌≢◌, ℕ, ◌≤◌, List, [], ◌∷◌, ◌++◌, true, false, Bool, refl, sym, subst, ap, ◌∙◌, Some, None, Option, ◌⊎◌, inl, inr, append-nil}
use Rattle.std.specs.Prelude.{All}
use Rattle.std.proofs.lemmas.List.Elements.{All-append, All-cons, All-head, All-nil, All-tail, All-weaker}
use Rattle.rdma_types.specs.declared.answers.Refusal.{Refusal}
use Rattle.rdma_types.specs.declared.names.Name.{Name}
use Rattle.rdma_types.specs.declared.names.ObjName.{ObjName}
use Rattle.rdma_types.specs.declared.requests.Completion.{Completion}
use Rattle.rdma_types.specs.declared.requests.Receive.{Receive}
use Rattle.rdma_types.specs.declared.requests.Request.{Request}
use Rattle.rdma_types.specs.declared.verbs.Verb.TheVariants as verbs
use Rattle.rdma_types.specs.Kinds.{receive_done, request_done}
use Rattle.rdma_types.specs.Lists.{named}
use Rattle.rdma_types.specs.Objects.{CompletionQueue, Posted}
use Rattle.packetless_machine.specs.declared.steps.MachineStep.{MachineStep}
use Rattle.packetless_machine.specs.Legal.{effect, is_enabled}
use Rattle.packetless_machine.specs.Machine.{End, Machine, completing, context_of, end_of, has_end, nobody, queue_of, with_end}
use Rattle.packetless_machine.specs.Verbs.{after_answer, after_verb, posted, received, refusal_of, taken, with_receive, with_request}
use Rattle.packetless_machine.proofs.Views.{end_of-completing}
use Rattle.law_simulation.specs.Stands.{Stands}
use Rattle.law_simulation.proofs.relation.Tables.{name_or_not}
use Rattle.law_simulation.proofs.runs.Acting.{end_related}
use Rattle.protocol.specs.State.{World}
use Rattle.mailbox_rules.specs.Opening.{connection_of, queue_name, receiver, receiver_end, sender, sender_end}
use Rattle.mailbox_rules.specs.Working.{is_success}
use Rattle.law_mailbox.specs.Ending.{EndsIt}
use Rattle.law_mailbox.specs.Held.{IsInner}
use Rattle.law_mailbox.specs.Kept.{IsOpened, standing}
use Rattle.law_mailbox.specs.Seen.{IsOf}
use Rattle.law_mailbox.proofs.connection.Connected.{stepping}
use Rattle.law_mailbox.proofs.connection.Longer.{queue_elsewhere, queue_here}
use Rattle.law_mailbox.proofs.connection.Places.{all_back}
use Rattle.law_mailbox.proofs.connection.Posting.{flushed_receive, flushed_request, posted_ended, posted_live, receiver_no_sender, received_ended, received_live, receivers_apart, sender_no_receiver, senders_apart}
use Rattle.law_mailbox.proofs.connection.Refusals.{the_queue}
use Rattle.law_mailbox.proofs.connection.Sights.{context_there}
use Rattle.law_mailbox.proofs.connection.Storing.{IsLikeMachine}
use Rattle.law_mailbox.proofs.connection.Tells.{queue_named}
use Rattle.law_mailbox.proofs.queue_room.Entries.{IsCompleted}
use Rattle.law_mailbox.proofs.queue_room.FewMachines.{ends_alike, stands_alike}
use Rattle.law_mailbox.proofs.queue_room.Loads.{end_queues}
use Rattle.law_mailbox.proofs.queue_room.Standing.{IsSettled, IsStepOf, QuietStep, SettledStep, steps_are}
use Rattle.law_mailbox.proofs.work.Changing.{one_or_not}
use Rattle.law_mailbox.proofs.work.Polling.{IsPolled, sender_names_apart}

-- ---- what is true of a machine

-- a completion with an error that is of it says that this end has ended
abbrev pub IsTrueOf : Machine → ObjName → Completion → Type 0
IsTrueOf m o x = is_success x.status ≡ false → (end_of m o).ended ≡ true

pub record AreErrorsTrue (peers : ℕ) (m : Machine) : Type 0 where
  pub receivers : (i : ℕ) → 1 ≤ i → i ≤ peers → All (λ x. connection_of x.qp ≡ i → IsTrueOf m (receiver_end i) x) (standing m receiver)
  pub senders : (i : ℕ) → 1 ≤ i → i ≤ peers → All (IsTrueOf m (sender_end i)) (standing m (sender i))

-- ---- from one machine to another

-- it stays true, and an end that has ended stays so
pub record GoesTrue (peers : ℕ) (m m' : Machine) : Type 0 where
  pub errors : AreErrorsTrue peers m → AreErrorsTrue peers m'
  pub receiver_stays : (i : ℕ) → 1 ≤ i → i ≤ peers → (end_of m (receiver_end i)).ended ≡ true → (end_of m' (receiver_end i)).ended ≡ true
  pub sender_stays : (i : ℕ) → 1 ≤ i → i ≤ peers → (end_of m (sender_end i)).ended ≡ true → (end_of m' (sender_end i)).ended ≡ true

pub goes_itself : (peers : ℕ) (m : Machine) → GoesTrue peers m m
goes_itself peers m = record { errors = λ e. e; receiver_stays = λ i low high was. was; sender_stays = λ i low high was. was }

pub goes_then : (peers : ℕ) (a b c : Machine) → GoesTrue peers a b → GoesTrue peers b c → GoesTrue peers a c
goes_then peers a b c g h = record {
  errors = λ e. h.errors (g.errors e);
  receiver_stays = λ i low high was. h.receiver_stays i low high (g.receiver_stays i low high was);
  sender_stays = λ i low high was. h.sender_stays i low high (g.sender_stays i low high was);
}

all_both : {X : Type 0} (P Q : X → Type 0) (xs : List X) → All P xs → All Q xs → All (λ x. P x × Q x) xs
all_both P Q [] a b = All-nil (λ x. P x × Q x)
all_both P Q (x ∷ xs) a b = All-cons (λ y. P y × Q y) x xs (All-head P x xs a, All-head Q x xs b) (all_both P Q xs (All-tail P x xs a) (All-tail Q x xs b))

-- more stands in the receiver's queue, of connection j, and in the queue of sender j
record IsMore (peers j : ℕ) (m m' : Machine) : Type 0 where
  receiver_stays : (i : ℕ) → 1 ≤ i → i ≤ peers → (end_of m (receiver_end i)).ended ≡ true → (end_of m' (receiver_end i)).ended ≡ true
  sender_stays : (i : ℕ) → 1 ≤ i → i ≤ peers → (end_of m (sender_end i)).ended ≡ true → (end_of m' (sender_end i)).ended ≡ true
  at_receiver : List Completion
  receiver_stands : standing m' receiver ≡ standing m receiver ++ at_receiver
  receiver_true : All (λ x. (connection_of x.qp ≡ j) × IsTrueOf m' (receiver_end j) x) at_receiver
  at_sender : List Completion
  sender_stands : standing m' (sender j) ≡ standing m (sender j) ++ at_sender
  sender_true : All (IsTrueOf m' (sender_end j)) at_sender
  others : (i : ℕ) → 1 ≤ i → i ≤ peers → i ≢ j → standing m' (sender i) ≡ standing m (sender i)

module _ (peers j : ℕ) (m m' : Machine) (g : IsMore peers j m m') where
  receivers_then : AreErrorsTrue peers m → (i : ℕ) → 1 ≤ i → i ≤ peers → All (λ x. connection_of x.qp ≡ i → IsTrueOf m' (receiver_end i) x) (standing m' receiver)
  receivers_then e i low high =
      let P : Completion → Type 0 = λ x. connection_of x.qp ≡ i → IsTrueOf m' (receiver_end i) x in
      subst (All P) (sym g.receiver_stands)
      (All-append P (standing m receiver) g.at_receiver
      (All-weaker (λ x. connection_of x.qp ≡ i → IsTrueOf m (receiver_end i) x) P (λ x is own error. g.receiver_stays i low high (is own error)) (standing m receiver) (e.receivers i low high))
      (All-weaker (λ x. (connection_of x.qp ≡ j) × IsTrueOf m' (receiver_end j) x) P
      (λ x is own error. subst (λ (k : ℕ). (end_of m' (receiver_end k)).ended ≡ true) (sym is.0 ∙ own) (is.1 error)) g.at_receiver g.receiver_true))

  senders_then : AreErrorsTrue peers m → (i : ℕ) → 1 ≤ i → i ≤ peers → All (IsTrueOf m' (sender_end i)) (standing m' (sender i))
  senders_then e i low high = by (one_or_not i j)
    where
      weaker : All (IsTrueOf m' (sender_end i)) (standing m (sender i))
      weaker = All-weaker (IsTrueOf m (sender_end i)) (IsTrueOf m' (sender_end i)) (λ x is error. g.sender_stays i low high (is error)) (standing m (sender i)) (e.senders i low high)

      here : i ≡ j → All (IsTrueOf m' (sender_end i)) (standing m (sender i)) → All (IsTrueOf m' (sender_end i)) (standing m' (sender i))
      here is old =
          subst (λ (k : ℕ). All (IsTrueOf m' (sender_end k)) (standing m (sender k)) → All (IsTrueOf m' (sender_end k)) (standing m' (sender k))) (sym is)
          (λ was. subst (All (IsTrueOf m' (sender_end j))) (sym g.sender_stands) (All-append (IsTrueOf m' (sender_end j)) (standing m (sender j)) g.at_sender was g.sender_true)) old

      by : (i ≡ j) ⊎ (i ≢ j) → All (IsTrueOf m' (sender_end i)) (standing m' (sender i))
      by (inl is) = here is weaker
      by (inr apart) = subst (All (IsTrueOf m' (sender_end i))) (sym (g.others i low high apart)) weaker

  more_goes : GoesTrue peers m m'
  more_goes = record { errors = λ e. record { receivers = receivers_then e; senders = senders_then e }; receiver_stays = g.receiver_stays; sender_stays = g.sender_stays }

-- nothing more stands, and each end has ended as before
record IsStill (m m' : Machine) : Type 0 where
  ended : (q : ObjName) → (end_of m' q).ended ≡ (end_of m q).ended
  stands : (c : Name) → standing m' c ≡ standing m c

still_goes : (peers : ℕ) (m m' : Machine) → IsStill m m' → GoesTrue peers m m'
still_goes peers m m' g =
    more_goes peers 1 m m'
    (record {
      receiver_stays = λ i low high was. g.ended (receiver_end i) ∙ was;
      sender_stays = λ i low high was. g.ended (sender_end i) ∙ was;
      at_receiver = [];
      receiver_stands = g.stands receiver ∙ sym (append-nil (standing m receiver));
      receiver_true = All-nil (λ x. (connection_of x.qp ≡ 1) × IsTrueOf m' (receiver_end 1) x);
      at_sender = [];
      sender_stands = g.stands (sender 1) ∙ sym (append-nil (standing m (sender 1)));
      sender_true = All-nil (IsTrueOf m' (sender_end 1));
      others = λ i low high apart. g.stands (sender i);
    })

-- ---- inner steps

module _ (peers : ℕ) (small : peers ≤ 8) (m m' : Machine) (j : ℕ) (low : 1 ≤ j) (high : j ≤ peers) where
  standing_with : (c : Name) (queues : List CompletionQueue) → (context_of m' c).queues ≡ queues → standing m' c ≡ (the_queue queues).entries
  unfolding queue_of
  standing_with c queues e = ap (λ (qs : List CompletionQueue). (the_queue qs).entries) e

  standing_was : (c : Name) → standing m c ≡ (the_queue (context_of m c).queues).entries
  unfolding queue_of
  standing_was c = refl

  standing_same : (c : Name) → (context_of m' c).queues ≡ (context_of m c).queues → standing m' c ≡ standing m c
  standing_same c e = standing_with c (context_of m c).queues e ∙ sym (standing_was c)

  settled_at_sender : (e : End) (queues : List CompletionQueue) → IsSettled m m' (sender_end j) e queues → IsCompleted (end_of m (sender_end j)) e (context_of m (sender j)).queues queues → IsMore peers j m m'
  settled_at_sender e queues s k = record {
    receiver_stays = λ i one most was. (s.others (receiver_end i) (receiver_no_sender i j)).ended ∙ was;
    sender_stays = λ i one most was. by i most was (one_or_not i j);
    at_receiver = [];
    receiver_stands = standing_same receiver (s.queues_apart receiver (λ f. cc)) ∙ sym (append-nil (standing m receiver));
    receiver_true = All-nil (λ x. (connection_of x.qp ≡ j) × IsTrueOf m' (receiver_end j) x);
    at_sender = k.more;
    sender_stands = standing_with (sender j) queues s.queues_here ∙ (k.longer.entries ∙ ap (λ (xs : List Completion). xs ++ k.more) (sym (standing_was (sender j))));
    sender_true = All-weaker (λ x. is_success x.status ≡ false → e.ended ≡ true) (IsTrueOf m' (sender_end j)) (λ x is error. s.here.ended ∙ is error) k.more k.errors;
    others = λ i one most apart. standing_same (sender i) (s.queues_apart (sender i) (sender_names_apart i j (omega (arith, most, small)) (omega (arith, high, small)) apart));
  }
    where
      by : (i : ℕ) → i ≤ peers → (end_of m (sender_end i)).ended ≡ true → (i ≡ j) ⊎ (i ≢ j) → (end_of m' (sender_end i)).ended ≡ true
      by i most was (inl is) =
          subst (λ (q : ℕ). (end_of m' (sender_end q)).ended ≡ true) (sym is) (s.here.ended ∙ k.stays_ended (subst (λ (q : ℕ). (end_of m (sender_end q)).ended ≡ true) is was))
      by i most was (inr apart) = (s.others (sender_end i) (senders_apart i j (omega (arith, most, small)) (omega (arith, high, small)) apart)).ended ∙ was

  settled_at_receiver : connection_of (end_of m (receiver_end j)).number ≡ j → (e : End) (queues : List CompletionQueue) → IsSettled m m' (receiver_end j) e queues → IsCompleted (end_of m (receiver_end j)) e (context_of m receiver).queues queues → IsMore peers j m m'
  settled_at_receiver number e queues s k = record {
    receiver_stays = λ i one most was. by i most was (one_or_not i j);
    sender_stays = λ i one most was. (s.others (sender_end i) (sender_no_receiver i j)).ended ∙ was;
    at_receiver = k.more;
    receiver_stands = standing_with receiver queues s.queues_here ∙ (k.longer.entries ∙ ap (λ (xs : List Completion). xs ++ k.more) (sym (standing_was receiver)));
    receiver_true =
        all_both (λ x. connection_of x.qp ≡ j) (IsTrueOf m' (receiver_end j)) k.more (subst (λ (i : ℕ). All (λ x. connection_of x.qp ≡ i) k.more) number k.are.of_it)
        (All-weaker (λ x. is_success x.status ≡ false → e.ended ≡ true) (IsTrueOf m' (receiver_end j)) (λ x is error. s.here.ended ∙ is error) k.more k.errors);
    at_sender = [];
    sender_stands = standing_same (sender j) (s.queues_apart (sender j) (λ f. cc)) ∙ sym (append-nil (standing m (sender j)));
    sender_true = All-nil (IsTrueOf m' (sender_end j));
    others = λ i one most apart. standing_same (sender i) (s.queues_apart (sender i) (λ f. cc));
  }
    where
      by : (i : ℕ) → i ≤ peers → (end_of m (receiver_end i)).ended ≡ true → (i ≡ j) ⊎ (i ≢ j) → (end_of m' (receiver_end i)).ended ≡ true
      by i most was (inl is) =
          subst (λ (q : ℕ). (end_of m' (receiver_end q)).ended ≡ true) (sym is) (s.here.ended ∙ k.stays_ended (subst (λ (q : ℕ). (end_of m (receiver_end q)).ended ≡ true) is was))
      by i most was (inr apart) = (s.others (receiver_end i) (receivers_apart i j (omega (arith, most, small)) (omega (arith, high, small)) apart)).ended ∙ was

  step_goes : connection_of (end_of m (receiver_end j)).number ≡ j → (E : ObjName → Type 0) → IsStepOf j E m m' → GoesTrue peers m m'
  step_goes number E (QuietStep quiet) = still_goes peers m m' (record { ended = λ q. (quiet.ends q).ended; stands = λ c. standing_same c (quiet.queues c) })
  step_goes number E (SettledStep o e queues (inl is) s k why) =
      subst (λ (q : ObjName). IsSettled m m' q e queues → IsCompleted (end_of m q) e (context_of m q.context).queues queues → GoesTrue peers m m') (sym is) (λ t c. more_goes peers j m m' (settled_at_sender e queues t c)) s k
  step_goes number E (SettledStep o e queues (inr is) s k why) =
      subst (λ (q : ObjName). IsSettled m m' q e queues → IsCompleted (end_of m q) e (context_of m q.context).queues queues → GoesTrue peers m m') (sym is) (λ t c. more_goes peers j m m' (settled_at_receiver number e queues t c)) s k

pub steps_go : (peers : ℕ) → peers ≤ 8 → (m : Machine) (j : ℕ) → 1 ≤ j → j ≤ peers → IsOpened m j → connection_of (end_of m (receiver_end j)).number ≡ j → (s : MachineStep) → IsInner s → IsOf j (stepping s) → is_enabled m s ≡ true → GoesTrue peers m (effect m s)
steps_go peers small m j low high opened number s inner of may = step_goes peers small m (effect m s) j low high number (λ p. EndsIt m p s) (steps_are m j opened number s inner of may)

-- ---- postings

module _ (peers : ℕ) (small : peers ≤ 8) (m : Machine) (j : ℕ) (low : 1 ≤ j) (high : j ≤ peers) (opened : IsOpened m j) (number : connection_of (end_of m (receiver_end j)).number ≡ j) where
  -- an end that changes, and has ended as before
  one_goes : (o : ObjName) (f : End) → f.name ≡ (end_of m o).name → f.ended ≡ (end_of m o).ended → GoesTrue peers m (with_end m o f)
  unfolding queue_of
  one_goes o f name same = still_goes peers m (with_end m o f) (record {
    ended = λ q. end_related (λ a b. a.ended ≡ b.ended) (λ a. refl) m o f q name same;
    stands = λ c. ap (λ (qs : List CompletionQueue). (the_queue qs).entries) (end_queues m o f c);
  })

  -- a completion at an end that has ended
  flushed_at_receiver : (x : Completion) → connection_of x.qp ≡ j → (end_of m (receiver_end j)).ended ≡ true → GoesTrue peers m (completing m receiver queue_name (x ∷ []))
  flushed_at_receiver x of_it ended =
      let m' : Machine = completing m receiver queue_name (x ∷ []) in
      let context = context_there m (receiver_end j) opened.receiver_there in
      let same : (q : ObjName) → end_of (completing m receiver queue_name (x ∷ [])) q ≡ end_of m q = λ q. end_of-completing m receiver queue_name (x ∷ []) q in
      let now : (end_of (completing m receiver queue_name (x ∷ [])) (receiver_end j)).ended ≡ true = ap (λ (e : End). e.ended) (same (receiver_end j)) ∙ ended in
      let elsewhere : (c : Name) → c ≢ receiver → standing (completing m receiver queue_name (x ∷ [])) c ≡ standing m c =
      λ c apart. ap (λ (q : CompletionQueue). q.entries) (queue_elsewhere m receiver queue_name (x ∷ []) context opened.receiver_queue (queue_named m receiver opened.receiver_queue) c queue_name apart) in
      more_goes peers j m m'
      (record {
        receiver_stays = λ i one most was. ap (λ (e : End). e.ended) (same (receiver_end i)) ∙ was;
        sender_stays = λ i one most was. ap (λ (e : End). e.ended) (same (sender_end i)) ∙ was;
        at_receiver = x ∷ [];
        receiver_stands = ap (λ (q : CompletionQueue). q.entries) (queue_here m receiver queue_name (x ∷ []) context opened.receiver_queue (queue_named m receiver opened.receiver_queue));
        receiver_true = All-cons (λ y. (connection_of y.qp ≡ j) × IsTrueOf (completing m receiver queue_name (x ∷ [])) (receiver_end j) y) x [] (of_it, λ error. now) (All-nil (λ y. (connection_of y.qp ≡ j) × IsTrueOf (completing m receiver queue_name (x ∷ [])) (receiver_end j) y));
        at_sender = [];
        sender_stands = elsewhere (sender j) (λ f. cc) ∙ sym (append-nil (standing m (sender j)));
        sender_true = All-nil (IsTrueOf (completing m receiver queue_name (x ∷ [])) (sender_end j));
        others = λ i one most apart. elsewhere (sender i) (λ f. cc);
      })

  flushed_at_sender : (x : Completion) → (end_of m (sender_end j)).ended ≡ true → GoesTrue peers m (completing m (sender j) queue_name (x ∷ []))
  flushed_at_sender x ended =
      let m' : Machine = completing m (sender j) queue_name (x ∷ []) in
      let context = context_there m (sender_end j) opened.sender_there in
      let same : (q : ObjName) → end_of (completing m (sender j) queue_name (x ∷ [])) q ≡ end_of m q = λ q. end_of-completing m (sender j) queue_name (x ∷ []) q in
      let now : (end_of (completing m (sender j) queue_name (x ∷ [])) (sender_end j)).ended ≡ true = ap (λ (e : End). e.ended) (same (sender_end j)) ∙ ended in
      let elsewhere : (c : Name) → c ≢ sender j → standing (completing m (sender j) queue_name (x ∷ [])) c ≡ standing m c =
      λ c apart. ap (λ (q : CompletionQueue). q.entries) (queue_elsewhere m (sender j) queue_name (x ∷ []) context opened.sender_queue (queue_named m (sender j) opened.sender_queue) c queue_name apart) in
      more_goes peers j m m'
      (record {
        receiver_stays = λ i one most was. ap (λ (e : End). e.ended) (same (receiver_end i)) ∙ was;
        sender_stays = λ i one most was. ap (λ (e : End). e.ended) (same (sender_end i)) ∙ was;
        at_receiver = [];
        receiver_stands = elsewhere receiver (λ f. cc) ∙ sym (append-nil (standing m receiver));
        receiver_true = All-nil (λ y. (connection_of y.qp ≡ j) × IsTrueOf (completing m (sender j) queue_name (x ∷ [])) (receiver_end j) y);
        at_sender = x ∷ [];
        sender_stands = ap (λ (q : CompletionQueue). q.entries) (queue_here m (sender j) queue_name (x ∷ []) context opened.sender_queue (queue_named m (sender j) opened.sender_queue));
        sender_true = All-cons (IsTrueOf (completing m (sender j) queue_name (x ∷ [])) (sender_end j)) x [] (λ error. now) (All-nil (IsTrueOf (completing m (sender j) queue_name (x ∷ [])) (sender_end j)));
        others = λ i one most apart. elsewhere (sender i) (sender_names_apart i j (omega (arith, most, small)) (omega (arith, high, small)) apart);
      })

  flushed_number : (e : End) (v : Receive) → (flushed_receive e v).qp ≡ e.number
  unfolding flushed_receive receive_done
  flushed_number e v = refl

  request_number : (e : End) (p : Posted) → (flushed_request e p).qp ≡ e.number
  unfolding flushed_request request_done
  request_number e p = refl

  receive_goes : (v : Receive) (b : Bool) → (end_of m (receiver_end j)).ended ≡ b → GoesTrue peers m (received m (receiver_end j) v)
  receive_goes v true e =
      let x : Completion = flushed_receive (end_of m (receiver_end j)) v in
      subst (GoesTrue peers m) (sym (received_ended m (receiver_end j) v e ∙ ap (λ (q : Name). completing m receiver q (flushed_receive (end_of m (receiver_end j)) v ∷ [])) opened.receiver_joined.receive_queue))
      (flushed_at_receiver x (ap connection_of (flushed_number (end_of m (receiver_end j)) v) ∙ number) e)
  receive_goes v false e = subst (GoesTrue peers m) (sym (received_live m (receiver_end j) v e)) (one_goes (receiver_end j) (with_receive v (end_of m (receiver_end j))) refl refl)

  sender_receive_goes : (v : Receive) (b : Bool) → (end_of m (sender_end j)).ended ≡ b → GoesTrue peers m (received m (sender_end j) v)
  sender_receive_goes v true e =
      let x : Completion = flushed_receive (end_of m (sender_end j)) v in
      subst (GoesTrue peers m) (sym (received_ended m (sender_end j) v e ∙ ap (λ (q : Name). completing m (sender j) q (flushed_receive (end_of m (sender_end j)) v ∷ [])) opened.sender_joined.receive_queue)) (flushed_at_sender x e)
  sender_receive_goes v false e = subst (GoesTrue peers m) (sym (received_live m (sender_end j) v e)) (one_goes (sender_end j) (with_receive v (end_of m (sender_end j))) refl refl)

  request_goes : (r : Request) (p : Posted) → taken m (receiver_end j) r ≡ p → (b : Bool) → (end_of m (receiver_end j)).ended ≡ b → GoesTrue peers m (posted m (receiver_end j) r)
  request_goes r p takes true e =
      let x : Completion = flushed_request (end_of m (receiver_end j)) p in
      subst (GoesTrue peers m) (sym (posted_ended m (receiver_end j) r p takes e ∙ ap (λ (q : Name). completing m receiver q (flushed_request (end_of m (receiver_end j)) p ∷ [])) opened.receiver_joined.send_queue))
      (flushed_at_receiver x (ap connection_of (request_number (end_of m (receiver_end j)) p) ∙ number) e)
  request_goes r p takes false e = subst (GoesTrue peers m) (sym (posted_live m (receiver_end j) r p takes e)) (one_goes (receiver_end j) (with_request p (end_of m (receiver_end j))) refl refl)

  sender_request_goes : (r : Request) (p : Posted) → taken m (sender_end j) r ≡ p → (b : Bool) → (end_of m (sender_end j)).ended ≡ b → GoesTrue peers m (posted m (sender_end j) r)
  sender_request_goes r p takes true e =
      let x : Completion = flushed_request (end_of m (sender_end j)) p in
      subst (GoesTrue peers m) (sym (posted_ended m (sender_end j) r p takes e ∙ ap (λ (q : Name). completing m (sender j) q (flushed_request (end_of m (sender_end j)) p ∷ [])) opened.sender_joined.send_queue)) (flushed_at_sender x e)
  sender_request_goes r p takes false e = subst (GoesTrue peers m) (sym (posted_live m (sender_end j) r p takes e)) (one_goes (sender_end j) (with_request p (end_of m (sender_end j))) refl refl)

  -- each as a verb, refused or not
  pub receive_verb_goes : (v : Receive) (given : ℕ) → GoesTrue peers m (after_verb m (verbs.PostRecv (receiver_end j) v) given)
  receive_verb_goes v given = by (refusal_of m (verbs.PostRecv (receiver_end j) v))
    where
      by : (r : Option Refusal) → GoesTrue peers m (after_answer r m (verbs.PostRecv (receiver_end j) v) given)
      by None = receive_goes v (end_of m (receiver_end j)).ended refl
      by (Some r) = goes_itself peers m

  pub sender_receive_verb_goes : (v : Receive) (given : ℕ) → GoesTrue peers m (after_verb m (verbs.PostRecv (sender_end j) v) given)
  sender_receive_verb_goes v given = by (refusal_of m (verbs.PostRecv (sender_end j) v))
    where
      by : (r : Option Refusal) → GoesTrue peers m (after_answer r m (verbs.PostRecv (sender_end j) v) given)
      by None = sender_receive_goes v (end_of m (sender_end j)).ended refl
      by (Some r) = goes_itself peers m

  pub request_verb_goes : (r : Request) (given : ℕ) → GoesTrue peers m (after_verb m (verbs.PostSend (receiver_end j) r) given)
  request_verb_goes r given = by (refusal_of m (verbs.PostSend (receiver_end j) r))
    where
      by : (x : Option Refusal) → GoesTrue peers m (after_answer x m (verbs.PostSend (receiver_end j) r) given)
      by None = request_goes r (taken m (receiver_end j) r) refl (end_of m (receiver_end j)).ended refl
      by (Some x) = goes_itself peers m

  pub sender_request_verb_goes : (r : Request) (given : ℕ) → GoesTrue peers m (after_verb m (verbs.PostSend (sender_end j) r) given)
  sender_request_verb_goes r given = by (refusal_of m (verbs.PostSend (sender_end j) r))
    where
      by : (x : Option Refusal) → GoesTrue peers m (after_answer x m (verbs.PostSend (sender_end j) r) given)
      by None = sender_request_goes r (taken m (sender_end j) r) refl (end_of m (sender_end j)).ended refl
      by (Some x) = goes_itself peers m

-- ---- loads, stores and polls

pub load_goes : (peers : ℕ) (m : Machine) (o : ObjName) (address n given : ℕ) → GoesTrue peers m (after_verb m (verbs.Load o address n) given)
load_goes peers m o address n given = by (refusal_of m (verbs.Load o address n))
  where
    by : (r : Option Refusal) → GoesTrue peers m (after_answer r m (verbs.Load o address n) given)
    by None = goes_itself peers m
    by (Some r) = goes_itself peers m

pub like_goes : (peers : ℕ) (m m' : Machine) → IsLikeMachine m m' → GoesTrue peers m m'
unfolding end_of queue_of
like_goes peers m m' like = still_goes peers m m' (record {
  ended = λ q. ap (λ (es : List End). (named (λ e. e.name) (nobody q) q.name es).ended) (like.ends q.context);
  stands = λ c. ap (λ (qs : List CompletionQueue). (the_queue qs).entries) (like.queues c);
})

module _ (peers : ℕ) (m m' : Machine) (c : Name) (xs : List Completion) (p : IsPolled m m' c xs) where
  ended_same : (o : ObjName) → (end_of m' o).ended ≡ (end_of m o).ended
  ended_same o = ap (λ (e : End). e.ended) (p.changed.ends o)

  fewer : (P : Completion → Type 0) (d : Name) → All P (standing m d) → All P (standing m' d)
  fewer P d all = by (name_or_not d c)
    where
      by : (d ≡ c) ⊎ (d ≢ c) → All P (standing m' d)
      by (inl is) =
          subst (λ (x : Name). All P (standing m x) → All P (standing m' x)) (sym is)
          (λ was. subst (All P) (sym p.changed.here) (all_back P xs p.behind (subst (All P) p.whole was))) all
      by (inr apart) = subst (All P) (sym (p.changed.elsewhere d apart)) all

  pub poll_goes : GoesTrue peers m m'
  poll_goes = record {
    errors = λ e. record {
      receivers = λ i low high.
          All-weaker (λ x. connection_of x.qp ≡ i → IsTrueOf m (receiver_end i) x) (λ x. connection_of x.qp ≡ i → IsTrueOf m' (receiver_end i) x) (λ x is own error. ended_same (receiver_end i) ∙ is own error) (standing m' receiver)
          (fewer (λ x. connection_of x.qp ≡ i → IsTrueOf m (receiver_end i) x) receiver (e.receivers i low high));
      senders = λ i low high.
          All-weaker (IsTrueOf m (sender_end i)) (IsTrueOf m' (sender_end i)) (λ x is error. ended_same (sender_end i) ∙ is error) (standing m' (sender i)) (fewer (IsTrueOf m (sender_end i)) (sender i) (e.senders i low high));
    };
    receiver_stays = λ i low high was. ended_same (receiver_end i) ∙ was;
    sender_stays = λ i low high was. ended_same (sender_end i) ∙ was;
  }

-- ---- in all machines that a world stands for

abbrev pub AreThere : ℕ → Machine → Type 0
AreThere peers m = (i : ℕ) → 1 ≤ i → i ≤ peers → (has_end m (receiver_end i) ≡ true) × (has_end m (sender_end i) ≡ true)

pub errors_alike : (peers : ℕ) (w : World) (m m' : Machine) → Stands w m → Stands w m' → AreThere peers m → AreErrorsTrue peers m → AreErrorsTrue peers m'
errors_alike peers w m m' s s' there e = record {
  receivers = λ i low high.
      subst (All (λ x. connection_of x.qp ≡ i → IsTrueOf m' (receiver_end i) x)) (sym (stands_alike w m m' s s' receiver))
      (All-weaker (λ x. connection_of x.qp ≡ i → IsTrueOf m (receiver_end i) x) (λ x. connection_of x.qp ≡ i → IsTrueOf m' (receiver_end i) x)
      (λ x is own error. (ends_alike w m m' s s' (receiver_end i) (there i low high).0).ended_same ∙ is own error) (standing m receiver) (e.receivers i low high));
  senders = λ i low high.
      subst (All (IsTrueOf m' (sender_end i))) (sym (stands_alike w m m' s s' (sender i)))
      (All-weaker (IsTrueOf m (sender_end i)) (IsTrueOf m' (sender_end i)) (λ x is error. (ends_alike w m m' s s' (sender_end i) (there i low high).1).ended_same ∙ is error) (standing m (sender i)) (e.senders i low high));
}
