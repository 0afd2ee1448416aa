-- What stands in the receiver's queue and is reserved there for each connection: the same in all machines that a world stands for, and
-- one thing more, at most, where something is posted.
use Rattle.std.proofs.Common.{arith, ◌≡◌, ◌≢◌, ℕ, ◌+◌, ◌≤◌, List, [], ◌∷◌, ◌++◌, length, true, false, Bool, refl, sym, subst, ap, ◌∙◌, Some, None, Option, length-append, ne_eqb}
use Rattle.std.specs.Prelude.{count_by, not, ◌==◌, ◌&&◌}
use Rattle.std.proofs.lemmas.List.{length-drop}
use Rattle.std.proofs.lemmas.List.Elements.{All-push}
use Rattle.rdma_types.specs.declared.answers.Refusal.{Refusal}
use Rattle.rdma_types.specs.declared.names.Name.{Name}
use Rattle.rdma_types.specs.declared.names.ObjName.{ObjName}
use Rattle.rdma_types.specs.declared.requests.Completion.{Completion}
use Rattle.rdma_types.specs.declared.requests.Kind.{Kind}
use Rattle.rdma_types.specs.declared.requests.Kind.TheVariants as kind
use Rattle.rdma_types.specs.declared.requests.Receive.{Receive}
use Rattle.rdma_types.specs.declared.requests.Request.{Request}
use Rattle.rdma_types.specs.declared.verbs.Verb.TheVariants as verbs
use Rattle.rdma_types.specs.Kinds.{completed_kind, kind_of, receive_done, request_done}
use Rattle.rdma_types.specs.Objects.{CompletionQueue, Posted}
use Rattle.protocol.specs.State as state
use Rattle.protocol.specs.State.{World}
use Rattle.packetless_machine.specs.Machine.{End, Machine, completing, context_of, end_of, has_end, nobody, untold_count, used_count, with_end}
use Rattle.packetless_machine.specs.Steps.{untold}
use Rattle.packetless_machine.specs.Verbs.{after_answer, after_verb, posted, received, refusal_of, taken}
use Rattle.packetless_machine.proofs.Views.{end_of-completing}
use Rattle.law_simulation.specs.Stands.{Stands}
use Rattle.law_simulation.specs.Views.{Owned, owned, owned_there}
use Rattle.law_simulation.specs.Views as views
use Rattle.law_simulation.proofs.relation.Ends.{end_owned, end_there}
use Rattle.mailbox_rules.specs.Opening.{connection_of, queue_name, receiver, receiver_end, sender, sender_end}
use Rattle.law_mailbox.specs.Few.{is_receive, is_receive_of, is_request_of}
use Rattle.law_mailbox.specs.Kept.{IsOpened, standing}
use Rattle.law_mailbox.proofs.queue_room.Counts.{count_both, count_cons, one_if}
use Rattle.law_mailbox.proofs.queue_room.FewCounted.{AreKnown}
use Rattle.law_mailbox.proofs.work.Leaving.{waits_as}
use Rattle.law_mailbox.proofs.connection.Longer.{queue_elsewhere, queue_here}
use Rattle.law_mailbox.proofs.connection.Posting.{flushed_receive, flushed_request, posted_ended, posted_live, receiver_no_sender, received_ended, received_live, receivers_apart}
use Rattle.law_mailbox.proofs.connection.Quiet.{end_name}
use Rattle.law_mailbox.proofs.connection.Sights.{IsEndChanged, context_there, end_is_changed}
use Rattle.law_mailbox.proofs.connection.Tells.{queue_named}

-- ---- what stands and is reserved

-- receives of the receiver's end for sender i: those that completed, and those that are in use and not used
abbrev pub receives_at : Machine → ℕ → ℕ
receives_at m i = count_by (is_receive_of i) (standing m receiver) + (used_count (end_of m (receiver_end i)).in_use + length (end_of m (receiver_end i)).unused)

-- .. and its requests: those that completed, and those that are not told
abbrev pub requests_at : Machine → ℕ → ℕ
requests_at m i = count_by (is_request_of i) (standing m receiver) + untold_count (end_of m (receiver_end i))

-- ---- in all machines that a world stands for

untold_long : (e : End) → length (untold e) ≡ untold_count e
unfolding untold untold_count
untold_long e = length-drop e.told e.posted

pub record IsOwnedAlike (e e' : End) : Type 0 where
  pub untold_same : untold_count e' ≡ untold_count e
  pub in_use_same : e'.in_use ≡ e.in_use
  pub unused_same : e'.unused ≡ e.unused
  pub ended_same : e'.ended ≡ e.ended

owned_alike : (e e' : End) → owned e' ≡ owned e → IsOwnedAlike e e'
unfolding owned
owned_alike e e' same = record {
  untold_same = sym (untold_long e') ∙ (ap (λ (o : Owned). length o.untold) same ∙ untold_long e);
  in_use_same = ap (λ (o : Owned). o.in_use) same;
  unused_same = ap (λ (o : Owned). o.unused) same;
  ended_same = ap (λ (o : Owned). o.ended) same;
}

module _ (w : World) (m m' : Machine) (s : Stands w m) (s' : Stands w m') where
  pub there_too : (o : ObjName) → has_end m o ≡ true → has_end m' o ≡ true
  unfolding has_end
  there_too o there = sym (end_there o.name (views.context_of w o.context).ends (context_of m' o.context).ends (s'.same o.context).ends) ∙ (end_there o.name (views.context_of w o.context).ends (context_of m o.context).ends (s.same o.context).ends ∙ there)

  owned_in : (x : Machine) (o : ObjName) → Stands w x → has_end x o ≡ true → owned (end_of x o) ≡ owned_there (views.end_of w o)
  unfolding end_of has_end views.end_of
  owned_in x o t there = sym (end_owned o.name (record state.no_end { name = o.name }) (nobody o) (views.context_of w o.context).ends (context_of x o.context).ends (t.same o.context).ends there)

  pub ends_alike : (o : ObjName) → has_end m o ≡ true → IsOwnedAlike (end_of m o) (end_of m' o)
  ends_alike o there = owned_alike (end_of m o) (end_of m' o) (owned_in m' o s' (there_too o there) ∙ sym (owned_in m o s there))

  -- an end has ended where it is in Error in the world
  pub failed_as : (o : ObjName) → has_end m o ≡ true → (end_of m o).ended ≡ (views.link_of w o).ended
  unfolding owned owned_there
  failed_as o there = ap (λ (x : Owned). x.ended) (owned_in m o s there)

  pub stands_alike : (c : Name) → standing m' c ≡ standing m c
  stands_alike c = sym (waits_as w m' c s') ∙ waits_as w m c s

-- ---- where a step adds something

-- at most so many receives and requests more of connection j, and none of another one
pub record IsFewMore (peers j : ℕ) (m m' : Machine) (receives requests : ℕ) : Type 0 where
  pub receives_here : receives_at m' j ≤ receives_at m j + receives
  pub requests_here : requests_at m' j ≤ requests_at m j + requests
  pub receives_elsewhere : (i : ℕ) → 1 ≤ i → i ≤ peers → i ≢ j → receives_at m' i ≤ receives_at m i
  pub requests_elsewhere : (i : ℕ) → 1 ≤ i → i ≤ peers → i ≢ j → requests_at m' i ≤ requests_at m i
  pub known_still : AreKnown peers (standing m receiver) → AreKnown peers (standing m' receiver)

pub none_more : (peers j : ℕ) (m : Machine) (receives requests : ℕ) → IsFewMore peers j m m receives requests
none_more peers j m receives requests = record {
  receives_here = omega arith;
  requests_here = omega arith;
  receives_elsewhere = λ i low high apart. omega arith;
  requests_elsewhere = λ i low high apart. omega arith;
  known_still = λ known. known;
}

-- ---- a completion stands

counted_last : {X : Type 0} (p : X → Bool) (xs : List X) (x : X) → count_by p (xs ++ x ∷ []) ≡ count_by p xs + one_if (p x)
counted_last p xs x =
    let none : count_by p [] ≡ 0 = refl in
    omega (arith, none, count_both p xs (x ∷ []), count_cons p x [])

module _ (peers : ℕ) (small : peers ≤ 8) (m : Machine) (j : ℕ) (low : 1 ≤ j) (within : j ≤ peers) (opened : IsOpened m j) where
  module _ (x : Completion) (of_it : connection_of x.qp ≡ j) where
    stands_longer : standing (completing m receiver queue_name (x ∷ [])) receiver ≡ standing m receiver ++ x ∷ []
    stands_longer =
        ap (λ (q : CompletionQueue). q.entries) (queue_here m receiver queue_name (x ∷ []) (context_there m (receiver_end j) opened.receiver_there) opened.receiver_queue (queue_named m receiver opened.receiver_queue))

    end_longer : (i : ℕ) → end_of (completing m receiver queue_name (x ∷ [])) (receiver_end i) ≡ end_of m (receiver_end i)
    end_longer i = end_of-completing m receiver queue_name (x ∷ []) (receiver_end i)

    receives_longer : (i : ℕ) → receives_at (completing m receiver queue_name (x ∷ [])) i ≡ receives_at m i + one_if (is_receive_of i x)
    receives_longer i =
        let stood : count_by (is_receive_of i) (standing (completing m receiver queue_name (x ∷ [])) receiver) ≡ count_by (is_receive_of i) (standing m receiver ++ x ∷ []) = ap (count_by (is_receive_of i)) stands_longer in
        let reserved : used_count (end_of (completing m receiver queue_name (x ∷ [])) (receiver_end i)).in_use + length (end_of (completing m receiver queue_name (x ∷ [])) (receiver_end i)).unused ≡ used_count (end_of m (receiver_end i)).in_use + length (end_of m (receiver_end i)).unused =
        ap (λ (e : End). used_count e.in_use + length e.unused) (end_longer i) in
        omega (arith, stood, reserved, counted_last (is_receive_of i) (standing m receiver) x)

    requests_longer : (i : ℕ) → requests_at (completing m receiver queue_name (x ∷ [])) i ≡ requests_at m i + one_if (is_request_of i x)
    requests_longer i =
        let stood : count_by (is_request_of i) (standing (completing m receiver queue_name (x ∷ [])) receiver) ≡ count_by (is_request_of i) (standing m receiver ++ x ∷ []) = ap (count_by (is_request_of i)) stands_longer in
        let reserved : untold_count (end_of (completing m receiver queue_name (x ∷ [])) (receiver_end i)) ≡ untold_count (end_of m (receiver_end i)) = ap untold_count (end_longer i) in
        omega (arith, stood, reserved, counted_last (is_request_of i) (standing m receiver) x)

    known_longer : AreKnown peers (standing m receiver) → AreKnown peers (standing (completing m receiver queue_name (x ∷ [])) receiver)
    known_longer known =
        subst (AreKnown peers) (sym stands_longer)
        (All-push (λ y. (1 ≤ connection_of y.qp) × (connection_of y.qp ≤ peers)) (standing m receiver) x known (subst (λ (i : ℕ). (1 ≤ i) × (i ≤ peers)) (sym of_it) (low, within)))

    -- a test of the connection and of the kind, at this connection and at another one
    at_most_one : (b : Bool) → one_if b ≤ 1
    at_most_one true = omega arith
    at_most_one false = omega arith

    none_at_another : (i : ℕ) → i ≢ j → (b : Bool) → one_if ((connection_of x.qp == i) && b) ≡ 0
    none_at_another i apart b = ap (λ (t : Bool). one_if (t && b)) (ne_eqb (connection_of x.qp) i (λ e. apart (sym e ∙ of_it)))

    none_of_kind : (t b : Bool) → b ≡ false → one_if (t && b) ≡ 0
    none_of_kind true b e = ap one_if e
    none_of_kind false b e = refl

    -- of a receive
    receive_stands : is_receive x.kind ≡ true → IsFewMore peers j m (completing m receiver queue_name (x ∷ [])) 1 0
    receive_stands is = record {
      receives_here = omega (arith, receives_longer j, at_most_one (is_receive_of j x));
      requests_here = omega (arith, requests_longer j, none_of_kind (connection_of x.qp == j) (not (is_receive x.kind)) (ap not is));
      receives_elsewhere = λ i from_one high apart. omega (arith, receives_longer i, none_at_another i apart (is_receive x.kind));
      requests_elsewhere = λ i from_one high apart. omega (arith, requests_longer i, none_at_another i apart (not (is_receive x.kind)));
      known_still = known_longer;
    }

    -- of a request
    request_stands : is_receive x.kind ≡ false → IsFewMore peers j m (completing m receiver queue_name (x ∷ [])) 0 1
    request_stands is = record {
      receives_here = omega (arith, receives_longer j, none_of_kind (connection_of x.qp == j) (is_receive x.kind) is);
      requests_here = omega (arith, requests_longer j, at_most_one (is_request_of j x));
      receives_elsewhere = λ i from_one high apart. omega (arith, receives_longer i, none_at_another i apart (is_receive x.kind));
      requests_elsewhere = λ i from_one high apart. omega (arith, requests_longer i, none_at_another i apart (not (is_receive x.kind)));
      known_still = known_longer;
    }

  -- ---- the receiver's end is another

  module _ (m' : Machine) (e : End) (g : IsEndChanged m m' (receiver_end j) e) where
    stands_still : standing m' receiver ≡ standing m receiver
    stands_still = ap (λ (q : CompletionQueue). q.entries) (g.queues receiver queue_name)

    end_more : (receives requests : ℕ) → used_count e.in_use + length e.unused ≤ (used_count (end_of m (receiver_end j)).in_use + length (end_of m (receiver_end j)).unused) + receives → untold_count e ≤ untold_count (end_of m (receiver_end j)) + requests →
        IsFewMore peers j m m' receives requests
    end_more receives requests used told =
        let receives_stood : (i : ℕ) → count_by (is_receive_of i) (standing m' receiver) ≡ count_by (is_receive_of i) (standing m receiver) = λ i. ap (count_by (is_receive_of i)) stands_still in
        let requests_stood : (i : ℕ) → count_by (is_request_of i) (standing m' receiver) ≡ count_by (is_request_of i) (standing m receiver) = λ i. ap (count_by (is_request_of i)) stands_still in
        let used_here : used_count (end_of m' (receiver_end j)).in_use + length (end_of m' (receiver_end j)).unused ≡ used_count e.in_use + length e.unused = ap (λ (x : End). used_count x.in_use + length x.unused) g.here in
        let told_here : untold_count (end_of m' (receiver_end j)) ≡ untold_count e = ap untold_count g.here in
        let other : (i : ℕ) → i ≤ peers → i ≢ j → end_of m' (receiver_end i) ≡ end_of m (receiver_end i) = λ i high apart. g.others (receiver_end i) (receivers_apart i j (omega (arith, high, small)) (omega (arith, within, small)) apart) in
        record {
          receives_here = omega (arith, receives_stood j, used_here, used);
          requests_here = omega (arith, requests_stood j, told_here, told);
          receives_elsewhere = λ i from_one high apart.
              let same : used_count (end_of m' (receiver_end i)).in_use + length (end_of m' (receiver_end i)).unused ≡ used_count (end_of m (receiver_end i)).in_use + length (end_of m (receiver_end i)).unused = ap (λ (x : End). used_count x.in_use + length x.unused) (other i high apart) in
              omega (arith, receives_stood i, same);
          requests_elsewhere = λ i from_one high apart.
              let same : untold_count (end_of m' (receiver_end i)) ≡ untold_count (end_of m (receiver_end i)) = ap untold_count (other i high apart) in
              omega (arith, requests_stood i, same);
          known_still = λ known. subst (AreKnown peers) (sym stands_still) known;
        }

  -- ---- a receive or a request is posted at the receiver's end

  untold_as : (e : End) (v : Receive) → untold_count (record e { unused = e.unused ++ v ∷ [] }) ≡ untold_count e
  unfolding untold_count
  untold_as e v = refl

  untold_more : (e : End) (p : Posted) → untold_count (record e { posted = e.posted ++ p ∷ [] }) ≤ untold_count e + 1
  unfolding untold_count
  untold_more e p = omega (arith, length-append e.posted (p ∷ []))

  receive_is : (e : End) (v : Receive) → connection_of e.number ≡ j → (connection_of (flushed_receive e v).qp ≡ j) × (is_receive (flushed_receive e v).kind ≡ true)
  unfolding flushed_receive receive_done
  receive_is e v number = (number, refl)

  request_is : (e : End) (p : Posted) → connection_of e.number ≡ j → (connection_of (flushed_request e p).qp ≡ j) × (is_receive (flushed_request e p).kind ≡ false)
  unfolding flushed_request request_done
  request_is e p number = (number, by (kind_of p))
    where
      by : (k : Kind) → is_receive (completed_kind k) ≡ false
      by kind.Write = refl
      by kind.Send = refl
      by kind.Read = refl
      by kind.CompareSwap = refl
      by kind.FetchAdd = refl

  module _ (number : connection_of (end_of m (receiver_end j)).number ≡ j) where
    pub receive_more : (v : Receive) (given : ℕ) → IsFewMore peers j m (after_verb m (verbs.PostRecv (receiver_end j) v) given) 1 0
    receive_more v given = by (refusal_of m (verbs.PostRecv (receiver_end j) v))
      where
        made : (b : Bool) → (end_of m (receiver_end j)).ended ≡ b → IsFewMore peers j m (received m (receiver_end j) v) 1 0
        made true e =
            let is = receive_is (end_of m (receiver_end j)) v number in
            subst (λ (x : Machine). IsFewMore peers j m x 1 0) (sym (received_ended m (receiver_end j) v e ∙ ap (λ (q : Name). completing m receiver q (flushed_receive (end_of m (receiver_end j)) v ∷ [])) opened.receiver_joined.receive_queue))
            (receive_stands (flushed_receive (end_of m (receiver_end j)) v) is.0 is.1)
        made false e =
            let next : End = record (end_of m (receiver_end j)) { unused = (end_of m (receiver_end j)).unused ++ v ∷ [] } in
            let g : IsEndChanged m (with_end m (receiver_end j) (record (end_of m (receiver_end j)) { unused = (end_of m (receiver_end j)).unused ++ v ∷ [] })) (receiver_end j) (record (end_of m (receiver_end j)) { unused = (end_of m (receiver_end j)).unused ++ v ∷ [] }) =
            end_is_changed m (receiver_end j) next opened.receiver_there (end_name m (receiver_end j)) refl in
            subst (λ (x : Machine). IsFewMore peers j m x 1 0) (sym (received_live m (receiver_end j) v e))
            (end_more (with_end m (receiver_end j) (record (end_of m (receiver_end j)) { unused = (end_of m (receiver_end j)).unused ++ v ∷ [] })) (record (end_of m (receiver_end j)) { unused = (end_of m (receiver_end j)).unused ++ v ∷ [] }) g 1 0
            (omega (arith, length-append (end_of m (receiver_end j)).unused (v ∷ [])))
            (omega (arith, untold_as (end_of m (receiver_end j)) v)))

        by : (r : Option Refusal) → IsFewMore peers j m (after_answer r m (verbs.PostRecv (receiver_end j) v) given) 1 0
        by None = made (end_of m (receiver_end j)).ended refl
        by (Some r) = none_more peers j m 1 0

    pub request_more : (r : Request) (given : ℕ) → IsFewMore peers j m (after_verb m (verbs.PostSend (receiver_end j) r) given) 0 1
    request_more r given = by (refusal_of m (verbs.PostSend (receiver_end j) r))
      where
        made : (p : Posted) → taken m (receiver_end j) r ≡ p → (b : Bool) → (end_of m (receiver_end j)).ended ≡ b → IsFewMore peers j m (posted m (receiver_end j) r) 0 1
        made p takes true e =
            let is = request_is (end_of m (receiver_end j)) p number in
            subst (λ (x : Machine). IsFewMore peers j m x 0 1) (sym (posted_ended m (receiver_end j) r p takes e ∙ ap (λ (q : Name). completing m receiver q (flushed_request (end_of m (receiver_end j)) p ∷ [])) opened.receiver_joined.send_queue))
            (request_stands (flushed_request (end_of m (receiver_end j)) p) is.0 is.1)
        made p takes false e =
            let next : End = record (end_of m (receiver_end j)) { posted = (end_of m (receiver_end j)).posted ++ p ∷ [] } in
            let g : IsEndChanged m (with_end m (receiver_end j) (record (end_of m (receiver_end j)) { posted = (end_of m (receiver_end j)).posted ++ p ∷ [] })) (receiver_end j) (record (end_of m (receiver_end j)) { posted = (end_of m (receiver_end j)).posted ++ p ∷ [] }) =
            end_is_changed m (receiver_end j) next opened.receiver_there (end_name m (receiver_end j)) refl in
            subst (λ (x : Machine). IsFewMore peers j m x 0 1) (sym (posted_live m (receiver_end j) r p takes e))
            (end_more (with_end m (receiver_end j) (record (end_of m (receiver_end j)) { posted = (end_of m (receiver_end j)).posted ++ p ∷ [] })) (record (end_of m (receiver_end j)) { posted = (end_of m (receiver_end j)).posted ++ p ∷ [] }) g 0 1
            (omega arith)
            (omega (arith, untold_more (end_of m (receiver_end j)) p)))

        by : (x : Option Refusal) → IsFewMore peers j m (after_answer x m (verbs.PostSend (receiver_end j) r) given) 0 1
        by None = made (taken m (receiver_end j) r) refl (end_of m (receiver_end j)).ended refl
        by (Some x) = none_more peers j m 0 1

  -- ---- a receive is posted at the sender's end

  pub sender_receive_more : (v : Receive) (given : ℕ) → IsFewMore peers j m (after_verb m (verbs.PostRecv (sender_end j) v) given) 0 0
  sender_receive_more v given = by (refusal_of m (verbs.PostRecv (sender_end j) v))
    where
      same_few : (m' : Machine) → standing m' receiver ≡ standing m receiver → ((i : ℕ) → end_of m' (receiver_end i) ≡ end_of m (receiver_end i)) → IsFewMore peers j m m' 0 0
      same_few m' stood ends =
          let receives : (i : ℕ) → receives_at m' i ≡ receives_at m i = λ i k. count_by (is_receive_of i) (stood k) + (used_count (ends i k).in_use + length (ends i k).unused) in
          let requests : (i : ℕ) → requests_at m' i ≡ requests_at m i = λ i k. count_by (is_request_of i) (stood k) + untold_count (ends i k) in
          record {
            receives_here = omega (arith, receives j);
            requests_here = omega (arith, requests j);
            receives_elsewhere = λ i from_one high apart. omega (arith, receives i);
            requests_elsewhere = λ i from_one high apart. omega (arith, requests i);
            known_still = λ known. subst (AreKnown peers) (sym stood) known;
          }

      made : (b : Bool) → (end_of m (sender_end j)).ended ≡ b → IsFewMore peers j m (received m (sender_end j) v) 0 0
      made true e =
          subst (λ (x : Machine). IsFewMore peers j m x 0 0) (sym (received_ended m (sender_end j) v e ∙ ap (λ (q : Name). completing m (sender j) q (flushed_receive (end_of m (sender_end j)) v ∷ [])) opened.sender_joined.receive_queue))
          (same_few (completing m (sender j) queue_name (flushed_receive (end_of m (sender_end j)) v ∷ []))
          (ap (λ (q : CompletionQueue). q.entries) (queue_elsewhere m (sender j) queue_name (flushed_receive (end_of m (sender_end j)) v ∷ []) (context_there m (sender_end j) opened.sender_there) opened.sender_queue (queue_named m (sender j) opened.sender_queue) receiver queue_name (λ f. cc)))
          (λ i. end_of-completing m (sender j) queue_name (flushed_receive (end_of m (sender_end j)) v ∷ []) (receiver_end i)))
      made false e =
          let next : End = record (end_of m (sender_end j)) { unused = (end_of m (sender_end j)).unused ++ v ∷ [] } in
          let g : IsEndChanged m (with_end m (sender_end j) (record (end_of m (sender_end j)) { unused = (end_of m (sender_end j)).unused ++ v ∷ [] })) (sender_end j) (record (end_of m (sender_end j)) { unused = (end_of m (sender_end j)).unused ++ v ∷ [] }) =
          end_is_changed m (sender_end j) next opened.sender_there (end_name m (sender_end j)) refl in
          subst (λ (x : Machine). IsFewMore peers j m x 0 0) (sym (received_live m (sender_end j) v e))
          (same_few (with_end m (sender_end j) (record (end_of m (sender_end j)) { unused = (end_of m (sender_end j)).unused ++ v ∷ [] }))
          (ap (λ (q : CompletionQueue). q.entries) (g.queues receiver queue_name))
          (λ i. g.others (receiver_end i) (receiver_no_sender i j)))

      by : (r : Option Refusal) → IsFewMore peers j m (after_answer r m (verbs.PostRecv (sender_end j) v) given) 0 0
      by None = made (end_of m (sender_end j)).ended refl
      by (Some r) = none_more peers j m 0 0
