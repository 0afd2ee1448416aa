-- An end sends a piece, and all that comes of it is drained: what that leaves of all ends.
use Rattle.std.proofs.Common.{arith, ◌≡◌, ◌≢◌, ◌≤◌, ◌<◌, ◌+◌, ◌⊎◌, ℕ, List, [], ◌∷◌, length, true, false, Bool, refl, sym, ap, ◌∙◌, subst, inl, inr}
use Rattle.std.specs.Prelude.{All, Contains, Option, Some, None, slice_get, ◌==◌}
use Rattle.std.proofs.lemmas.List.Elements.{All-contains}
use Rattle.rdma_types.specs.declared.names.ObjName.{ObjName}
use Rattle.rdma_types.specs.declared.answers.Sent.{Sent}
use Rattle.rdma_types.specs.declared.requests.Receive.{Receive}
use Rattle.rdma_types.specs.Lists.{named}
use Rattle.rdma_types.specs.Spans.{Piece}
use Rattle.protocol.specs.declared.wire.Syndrome.TheVariants.{Rnr}
use Rattle.protocol.specs.declared.events.WorldEvent.{WorldEvent}
use Rattle.protocol.specs.declared.events.WorldEvent.TheVariants as world_events
use Rattle.protocol.specs.Fabric.{pending, pending_numbers}
use Rattle.protocol.specs.Moves.{control_of}
use Rattle.protocol.specs.Numbers.{unwrap_near, wire_number}
use Rattle.protocol.specs.State.{World, End, Link, Flight, no_end}
use Rattle.protocol.specs.Wire.{Packet, is_request, packet_of}
use Rattle.protocol.specs.EndStep.{takes}
use Rattle.protocol.specs.EndWords.{EndStep, with_link, with_receiver, with_sender}
use Rattle.protocol.specs.Requester.{Sends, transmission, transmitted, end_of_queue}
use Rattle.protocol.specs.Responder as responder
use Rattle.protocol.specs.Settle.{Settling, delivering, drained, pass, settle_step, stepped_to, transmit}
use Rattle.protocol.proofs.NearNumbers.{known}
use Rattle.packetless_machine.specs.Machine.{Machine}
use Rattle.packetless_machine.specs.Legal.{after}
use Rattle.law_simulation.specs.Law.{AlwaysFollows, Follows}
use Rattle.law_simulation.specs.Stands.{Stands}
use Rattle.law_simulation.specs.Views.{name_of}
use Rattle.law_simulation.proofs.relation.Grows.{object_or_not}
use Rattle.law_simulation.proofs.requests.Pieces.{no_control, piece_psn}
use Rattle.law_simulation.proofs.sending.GoLive.{LiveEnd, connected, link_is}
use Rattle.law_simulation.proofs.sending.GoSent.{peer_said}
use Rattle.law_simulation.proofs.sending.GoTransmit.{sends_is}
use Rattle.law_settling.proofs.draining.Pending.{pending_listed}
use Rattle.law_settling.proofs.draining.Arrivals.{delivered, grows, still_pending}
use Rattle.law_settling.specs.Weights.{GoesOn, TakingLightens}
use Rattle.law_settling.proofs.bound.Lives.{at_end, context_in, AllGoOn, LinkGoesOn}
use Rattle.law_settling.proofs.bound.Delivering.{News, delivered_go}
use Rattle.law_settling.proofs.sending_stops.Turns.{IsAnswerTo, piece_with}
use Rattle.law_settling.proofs.sending_stops.Arrivals.{Lands}
use Rattle.law_settling.proofs.sending_stops.Exchanges as exchange
use Rattle.law_settling.proofs.sending_stops.Landing.{IsDead, IsTaken, alive1, first_delivery, h1, hp, named1, number_p}
use Rattle.law_settling.proofs.sending_stops.Packets.{asks}
use Rattle.law_settling.proofs.sending_stops.Pairs.{back_number, end_near_una, expected_near, terms_exchanged, una_expected}
use Rattle.law_settling.proofs.sending_stops.Places.{number_is}
use Rattle.law_settling.proofs.sending_stops.Reading.{answer_reply, heads, kind_says}
use Rattle.law_settling.proofs.sending_stops.Responders.{AnswersOf, Acts, Asks, IsIdle, Refuses}
use Rattle.law_settling.proofs.sending_stops.Sending.{flight, link_now, machine_now, one_pending, other_now, past_end, past_low, sent_now, stands_now, una_next}
use Rattle.law_settling.proofs.sending_stops.Transmitting.{sends_open}
use Rattle.law_settling.proofs.sending_stops.Written.{rnr_written}
use Rattle.law_settling.proofs.lacks_receive.Kept.{IsEndKept, IsEndOn, IsLinkKept, IsLinkMoved, IsLinkOn, IsLinkSpared, IsSenderKept, Linked, end_kept_is_on, end_kept_on, end_kept_same, end_on_on, end_on_same, end_spared_kept, end_spared_same, linked_after, linked_both, linked_of, linked_on, sender_on, some_link, senders_same}
use Rattle.law_settling.proofs.lacks_receive.Moved.{stop_moves}
use Rattle.law_settling.proofs.lacks_receive.Dried.{IsDried, NoRnr, taken_says}
use Rattle.law_settling.proofs.lacks_receive.Answered.{IsFree, IsOpen, IsWanting, NotRnr, free_answered, rnr_answered, wanting_moved}
use Rattle.law_settling.proofs.lacks_receive.Passing as passing
use Rattle.law_settling.proofs.lacks_receive.Passing.{Answers, IsFor, contains_one}
use Rattle.law_settling.proofs.lacks_receive.Stepping.{piece_kept}
use Rattle.law_settling.proofs.lacks_receive.Wanted.{IsWanted, NeedsReceive}
use Rattle.law_settling.proofs.lacks_receive.Noted.{HasGone}
use Rattle.law_settling.proofs.lacks_receive.Pieces.{IsRnrOf, not_rnr, piece_needs, rnr_read}
use Rattle.law_settling.proofs.lacks_receive.Tests.{both_parts}

goes_both : (k : ℕ) (P : Type 0) (a b : Option Link) (l l' : Link) → LinkGoesOn k P a b → a ≡ Some l → b ≡ Some l' → GoesOn k P l l'
goes_both k P None b l l' g h t = absurd (cc)
goes_both k P (Some y) None l l' g h t = absurd (cc)
goes_both k P (Some y) (Some z) l l' g h t = subst (λ u. GoesOn k P u l') (some_link y l h) (subst (GoesOn k P y) (some_link z l' t) g)

senders_on : (a b c : Option Link) → Linked IsSenderKept a b → Linked IsLinkSpared b c → Linked IsSenderKept a c
senders_on a b c g h = linked_on IsSenderKept IsLinkSpared IsSenderKept (λ k l m s t. sender_on k l m s t.sender (λ e. t.ended ∙ e)) a b c g h

empty_is : (rs : List Receive) → responder.is_empty rs ≡ true → rs ≡ []
empty_is [] h = refl
empty_is (r ∷ rs) h = absurd (cc)

-- ---- the two kinds of answers

free_moves : (l l' : Link) → IsLinkMoved l l' → IsFree l → IsFree l'
free_moves l l' h (inl over) = inl (h.ended ∙ over)
free_moves l l' h (inr free) = inr (elim h.sender [ inl same ↦ ap (λ z. z.rnr_wait) same ∙ free | inr fresh ↦ ap (λ z. z.rnr_wait) fresh ])

free_answers : (l2 : Link) → Answers l2 NotRnr IsFree
free_answers l2 c e l there here d on none response answer q = free_answered c e l there here d q none response answer

wanting_answers : (n : ℕ) (x : Piece) (l2 : Link) → Answers l2 (IsRnrOf l2.terms.own_start n) (IsWanting n x)
wanting_answers n x l2 c e l there here d on none response a q =
    rnr_answered c e l there here n x d a.header q none a.opcode (a.psn ∙ ap (λ z. wire_number z.own_start n) (sym on.terms)) a.there a.says

module _ (lightens : TakingLightens) (follows : (e : WorldEvent) → AlwaysFollows e) (s0 : Settling) (m : Machine) (o : ObjName) (l : Link) (s : Stands s0.world m) (at : (at_end s0.world o).link ≡ Some l) (x : Piece) (row : transmission l ≡ Sends x) (calm : pending s0.world.sent ≡ None) where
  abbrev w : World
  w = s0.world

  abbrev v1 : World
  v1 = exchange.v1 lightens follows s0 m o l s at x row calm

  abbrev v2 : World
  v2 = exchange.v2 lightens follows s0 m o l s at x row calm

  abbrev q : ObjName
  q = exchange.q lightens follows s0 m o l s at x row calm

  abbrev n1 : ℕ
  n1 = length v1.sent

  abbrev k1 : ℕ
  k1 = length w.sent + 1

  abbrev t1 : Settling
  t1 = settle_step s0 (transmit o)

  abbrev w3 : World
  w3 = (drained t1).world

  abbrev l1 : Link
  l1 = transmitted l x

  abbrev n : ℕ
  n = l.sender.next

  abbrev m1 : Machine
  m1 = machine_now lightens follows w m o l s at x row

  abbrev s1 : Stands v1 m1
  s1 = stands_now lightens follows w m o l s at x row

  f2 : Follows v1 m1 (world_events.Deliver k1)
  f2 = follows (world_events.Deliver k1) v1 m1 tt s1

  o_not_q : o ≢ q
  o_not_q h = exchange.not_it lightens follows s0 m o l s at x row calm (sym h)

  listed : pending_numbers v1.sent ≡ k1 ∷ []
  listed = ap pending_numbers (sent_now lightens follows w m o l s at x row) ∙ one_pending w.sent (flight lightens follows w m o l s at x row) calm refl refl

  first_pass : (pass t1).world ≡ v2
  unfolding settle_step stepped_to delivering
  first_pass = ap (λ ks. (delivering t1 ks).world) listed

  link1 : (at_end v1 o).link ≡ Some l1
  link1 = link_now lightens follows w m o l s at x row

  step1 : (k : ObjName) → IsEndKept (at_end w k) (at_end v1 k)
  step1 k = piece_kept w m o l s at x row k

  goes2 : AllGoOn (λ k. 0) (News lightens (λ k. 0) v1 m1 k1 s1) v1 v2
  goes2 = delivered_go lightens (λ k. 0) v1 m1 k1 s1

  -- ---- the drain after the first delivery

  module _ (at2 : (at_end v2 o).link ≡ Some l1) (Q : Link → Type 0) (Answer : Packet → Type 0) (moves : (a b : Link) → IsLinkMoved a b → Q a → Q b) (answers : Answers l1 Answer Q) where
    abbrev During : World → Type 0
    During z = passing.During lightens follows o v2 l1 at2 n1 Q Answer moves answers z

    abbrev IsSorted : List ℕ → Type 0
    IsSorted bs = passing.IsSorted lightens follows o v2 l1 at2 n1 Q Answer moves answers bs

    begin : Q l1 → ((j : ℕ) (g : Flight) → n1 ≤ j → slice_get v2.sent j ≡ Some g → IsSorted g.bytes) → During v2
    unfolding f2
    begin start sorted = record {
      machine = after m1 f2.steps;
      stands = f2.stands;
      others = λ k ne. end_spared_same (at_end v2 k);
      own = end_kept_same (at_end v2 o);
      link = l1;
      linked = at2;
      holds = start;
      most = grows v1 v2 k1 (delivered v1 k1);
      sorted = sorted;
      later = λ j g h. elim (still_pending v1 v2 k1 (delivered v1 k1) j g h) [
        | inl a ↦ absurd (a.1 (contains_one k1 j (subst (λ ks. Contains ks j) listed (pending_listed v1.sent j g a.0))))
        | inr b ↦ b.0
      ];
    }

    drains : During v2 → During w3
    unfolding drained
    drains d =
        let one : During (pass t1).world = subst During (sym first_pass) d in
        passing.pass_during lightens follows o v2 l1 at2 n1 Q Answer moves answers (pass (pass t1)) (passing.pass_during lightens follows o v2 l1 at2 n1 Q Answer moves answers (pass t1) one)

    -- what the first delivery left
    module _ (on2 : (k : ObjName) → IsEndOn (at_end v1 k) (at_end v2 k)) (kept2 : (k : ObjName) → ((at_end v1 k).number ≡ l.peer → ⊥) → IsEndKept (at_end v1 k) (at_end v2 k)) (senders2 : (k : ObjName) → k ≢ o → Linked IsSenderKept (at_end v1 k).link (at_end v2 k).link) (d : During w3) where
      step3 : (k : ObjName) → IsEndKept (at_end v2 k) (at_end w3 k)
      step3 k = elim (object_or_not k o) [
        | inl same ↦ subst (λ z. IsEndKept (at_end v2 z) (at_end w3 z)) (sym same) d.own
        | inr ne ↦ end_spared_kept (at_end v2 k) (at_end w3 k) (d.others k ne)
      ]

      gone : ((l' : Link) → (at_end w3 o).link ≡ Some l' → IsFree l' ⊎ IsWanted w3 l') → HasGone w w3 o l
      gone own = record {
        on = λ k. end_on_on (at_end w k) (at_end v1 k) (at_end w3 k) (end_kept_is_on (at_end w k) (at_end v1 k) (step1 k)) (end_on_on (at_end v1 k) (at_end v2 k) (at_end w3 k) (on2 k) (end_kept_is_on (at_end v2 k) (at_end w3 k) (step3 k)));
        kept = λ k ne. end_kept_on (at_end w k) (at_end v1 k) (at_end w3 k) (step1 k) (end_kept_on (at_end v1 k) (at_end v2 k) (at_end w3 k) (kept2 k (λ h. ne (sym (step1 k).number ∙ h))) (step3 k));
        requesters = λ k ne.
            subst (λ (e : End). Linked IsSenderKept e.link (at_end w3 k).link) (other_now lightens follows w m o l s at x row k ne)
            (senders_on (at_end v1 k).link (at_end v2 k).link (at_end w3 k).link (senders2 k ne) (d.others k ne).links);
        own = λ l' h. elim (own l' h) [ inl a ↦ inl a | inr b ↦ inr (inl b) ];
      }

  -- ---- no RNR NAK is sent

  start_free : IsFree l1
  unfolding transmitted with_sender
  start_free = inr (sends_open l x row).2

  module _ (at2 : (at_end v2 o).link ≡ Some l1) where
    abbrev FreeDuring : World → Type 0
    FreeDuring z = During at2 IsFree NotRnr free_moves (free_answers l1) z

    free_own : FreeDuring w3 → (l' : Link) → (at_end w3 o).link ≡ Some l' → IsFree l' ⊎ IsWanted w3 l'
    free_own d l' h = inl (subst IsFree (some_link d.link l' (sym d.linked ∙ h)) d.holds)

  -- nothing takes the piece
  module _ (dead : IsDead lightens follows w m o l s at x row) where
    dead_same : (k : ObjName) → at_end v2 k ≡ at_end v1 k
    dead_same k = ap (λ cs. named (λ e. e.name) no_end k.name (context_in cs k.context).ends) dead.lives

    dead_at : (at_end v2 o).link ≡ Some l1
    dead_at = ap (λ e. e.link) (dead_same o) ∙ link1

    dead_gone : HasGone w w3 o l
    dead_gone =
        let d : FreeDuring dead_at w3 = drains dead_at IsFree NotRnr free_moves (free_answers l1) (begin dead_at IsFree NotRnr free_moves (free_answers l1) start_free (λ j g past there. inl (stop_moves g.bytes (dead.fresh j g past there)))) in
        gone dead_at IsFree NotRnr free_moves (free_answers l1)
        (λ k. subst (IsEndOn (at_end v1 k)) (sym (dead_same k)) (end_on_same (at_end v1 k)))
        (λ k ne. subst (IsEndKept (at_end v1 k)) (sym (dead_same k)) (end_kept_same (at_end v1 k)))
        (λ k ne. subst (λ (e : End). Linked IsSenderKept (at_end v1 k).link e.link) (sym (dead_same k)) (senders_same (at_end v1 k).link))
        d (free_own dead_at d)

  -- ---- the partner takes it

  module _ (t : IsTaken lightens follows w m o l s at x row) where
    abbrev y : Lands v1 m1 k1 v2
    y = t.y

    abbrev s2 : EndStep
    s2 = takes y.context y.end y.link y.packet

    else_same : (k : ObjName) → k ≢ q → at_end v2 k ≡ at_end v1 k
    else_same k ne = exchange.else_then lightens follows s0 m o l s at x row calm t k ne

    at2 : (at_end v2 o).link ≡ Some l1
    at2 = ap (λ e. e.link) (else_same o o_not_q) ∙ link1

    hq : LiveEnd v1 m1 q y.link
    hq = hp lightens follows w m o l s at x row y.link t.linked

    ho : LiveEnd v1 m1 o l1
    ho = h1 lightens follows w m o l s at x row

    named' : name_of m1 l1.peer ≡ q
    named' = named1 lightens follows w m o l s at x row y.link t.linked

    number_q : (at_end v1 q).number ≡ l.peer
    number_q = number_p lightens follows w m o l s at x row y.link t.linked

    number_o : y.link.peer ≡ (at_end v2 o).number
    unfolding hq ho
    number_o = back_number v1 m1 o q l1 y.link s1 ho hq named' ∙ (number_is v1 m1 o l1 s1 link1 ∙ sym (ap (λ e. e.number) (else_same o o_not_q)))

    small : y.link.peer < 16777216
    unfolding hq
    small = subst (λ (z : Link). z.peer < 16777216) (link_is v1 m1 q y.link s1 hq) (peer_said v1 m1 q s1 (connected v1 m1 q y.link s1 hq))

    -- the partner has the link j then
    module _ (j : Link) (now : (at_end v2 q).link ≡ Some j) (sender : IsSenderKept y.link j) where
      q_on : IsEndOn (at_end v1 q) (at_end v2 q)
      q_on =
          let g = goes_both 0 (News lightens (λ k. 0) v1 m1 k1 s1) (at_end v1 q).link (at_end v2 q).link y.link j (goes2.links q) t.linked now in
          record { number = goes2.number q; links = linked_of IsLinkOn (at_end v1 q).link (at_end v2 q).link y.link j t.linked now (record { peer = g.peer; terms = g.terms; ended = λ e. absurd (cc (e, t.alive)) }) }

      on2 : (k : ObjName) → IsEndOn (at_end v1 k) (at_end v2 k)
      on2 k = elim (object_or_not k q) [
        | inl same ↦ subst (λ z. IsEndOn (at_end v1 z) (at_end v2 z)) (sym same) q_on
        | inr ne ↦ subst (IsEndOn (at_end v1 k)) (sym (else_same k ne)) (end_on_same (at_end v1 k))
      ]

      kept2 : (k : ObjName) → ((at_end v1 k).number ≡ l.peer → ⊥) → IsEndKept (at_end v1 k) (at_end v2 k)
      kept2 k apart = subst (IsEndKept (at_end v1 k)) (sym (else_same k (λ h. apart (ap (λ z. (at_end v1 z).number) h ∙ number_q)))) (end_kept_same (at_end v1 k))

      senders2 : (k : ObjName) → k ≢ o → Linked IsSenderKept (at_end v1 k).link (at_end v2 k).link
      senders2 k apart = elim (object_or_not k q) [
        | inl same ↦ subst (λ z. Linked IsSenderKept (at_end v1 z).link (at_end v2 z).link) (sym same) (linked_of IsSenderKept (at_end v1 q).link (at_end v2 q).link y.link j t.linked now sender)
        | inr ne ↦ subst (λ (e : End). Linked IsSenderKept (at_end v1 k).link e.link) (sym (else_same k ne)) (senders_same (at_end v1 k).link)
      ]

    -- ---- no RNR NAK is sent

    module _ (Back : Type 0) (answers : AnswersOf y.context y.end y.link y.packet n Back s2) (plain : All (λ (z : Sent). NoRnr z.bytes) s2.sent) (j : Link) (now : (at_end v2 q).link ≡ Some j) (sender : IsSenderKept y.link j) where
      answer_for : (bs : List ℕ) → IsAnswerTo y.link.peer Back bs → (p : Packet) → packet_of bs ≡ Some p → IsFor (at_end v2 o).number p
      answer_for bs a p read =
          let reply = answer_reply y.link.peer Back bs a in
          record {
            dest = (heads bs p read).1 ∙ (a.dest ∙ number_o);
            none = (kind_says bs p read Back a.kind).0;
            no_request = ap is_request (heads bs p read).0 ∙ reply.no_request;
            no_resume = ap (λ k. k == 0x1E) (heads bs p read).0 ∙ reply.no_resume;
          }

      free_sorted : (i : ℕ) (g : Flight) → n1 ≤ i → slice_get v2.sent i ≡ Some g → IsSorted at2 IsFree NotRnr free_moves (free_answers l1) g.bytes
      free_sorted i g past there =
          let z = y.fresh i g past there in
          let a : IsAnswerTo y.link.peer Back g.bytes = subst (IsAnswerTo y.link.peer Back) z.2 (All-contains (λ (u : Sent). IsAnswerTo y.link.peer Back u.bytes) s2.sent z.0 answers z.1) in
          let b : NoRnr g.bytes = subst NoRnr z.2 (All-contains (λ (u : Sent). NoRnr u.bytes) s2.sent z.0 plain z.1) in
          inr (λ p read. (answer_for g.bytes a p read, not_rnr g.bytes p read Back a.kind b))

      free_gone : HasGone w w3 o l
      free_gone =
          let d : FreeDuring at2 w3 = drains at2 IsFree NotRnr free_moves (free_answers l1) (begin at2 IsFree NotRnr free_moves (free_answers l1) start_free free_sorted) in
          gone at2 IsFree NotRnr free_moves (free_answers l1) (on2 j now sender) (kept2 j now sender) (senders2 j now sender) d (free_own at2 d)

    idle_gone : IsIdle y.context y.end y.link y.packet n s2 → All (λ (z : Sent). NoRnr z.bytes) s2.sent → HasGone w w3 o l
    idle_gone i plain = free_gone ⊥ i.answers plain y.link (ap (λ e. e.link) (exchange.end_same lightens follows s0 m o l s at x row calm t i.context) ∙ t.linked) (inr (inr refl))

    asks_gone : Asks y.context y.end y.link y.packet n s2 → All (λ (z : Sent). NoRnr z.bytes) s2.sent → HasGone w w3 o l
    unfolding with_link with_receiver
    asks_gone a plain =
        let j : Link = with_receiver y.link (record y.link.receiver { nak_sent = true }) in
        free_gone (Unit {0}) a.answers plain j (ap (λ e. e.link) (exchange.end_changed lightens follows s0 m o l s at x row calm t j a.context)) (inr (inr refl))

    refuses_gone : Refuses y.context y.end y.link y.packet n s2 → All (λ (z : Sent). NoRnr z.bytes) s2.sent → HasGone w w3 o l
    refuses_gone r plain = free_gone (Unit {0}) r.answers plain r.link (exchange.link_then lightens follows s0 m o l s at x row calm t ∙ r.linked) (inl r.ended)

    acts_gone : Acts y.context y.end y.link y.packet n s2 → All (λ (z : Sent). NoRnr z.bytes) s2.sent → HasGone w w3 o l
    acts_gone a plain = free_gone ⊥ a.answers plain a.link (exchange.link_then lightens follows s0 m o l s at x row calm t ∙ a.linked) (inr (inr a.sender))

    plain_gone : All (λ (z : Sent). NoRnr z.bytes) s2.sent → HasGone w w3 o l
    plain_gone plain = elim t.outcome [
      | inl idle ↦ idle_gone idle plain
      | inr more ↦ elim more [
        | inl asks ↦ asks_gone asks plain
        | inr others ↦ elim others [ inl refuses ↦ refuses_gone refuses plain | inr acts ↦ acts_gone acts plain ]
      ]
    ]

    -- ---- an RNR NAK is sent

    una_near : n < l.sender.una + 1048576
    unfolding hq ho transmitted with_sender end_of_queue
    una_near =
        let near : end_of_queue l1.terms l1.sender ≤ l1.sender.una + 1048576 = end_near_una v1 m1 o q l1 y.link s1 ho hq named' (alive1 lightens follows w m o l s at x row) in
        omega (arith, near, past_low lightens follows w m o l s at x row, past_end lightens follows w m o l s at x row)

    start_wanting : IsWanting n x l1
    unfolding transmitted with_sender
    start_wanting = inr (record {
      una = una_next lightens follows w m o l s at x row;
      top = omega (arith, past_low lightens follows w m o l s at x row);
      near = omega (arith, una_near);
      piece = (sends_is l x row).found;
      wait = λ h. absurd (cc (h, (sends_open l x row).2));
    })

    start_same : y.link.terms.peer_start ≡ l1.terms.own_start
    unfolding hq ho
    start_same = ap (λ z. z.peer_start) (terms_exchanged v1 m1 o q l1 y.link s1 ho hq named')

    module _ (dried : IsDried y.context y.end y.link y.packet n s2) where
      q_same : at_end v2 q ≡ at_end v1 q
      q_same = exchange.end_same lightens follows s0 m o l s at x row calm t dried.context

      q_now : (at_end v2 q).link ≡ Some y.link
      q_now = ap (λ e. e.link) q_same ∙ t.linked

      abbrev WantingDuring : World → Type 0
      WantingDuring z = During at2 (IsWanting n x) (IsRnrOf l1.terms.own_start n) (wanting_moved n x) (wanting_answers n x l1) z

      rnr_for : (p : Packet) → packet_of (responder.acknowledge y.link n Rnr).bytes ≡ Some p → IsFor (at_end v2 o).number p × IsRnrOf l1.terms.own_start n p
      rnr_for p read =
          let bs : List ℕ = (responder.acknowledge y.link n Rnr).bytes in
          let a : IsAnswerTo y.link.peer ⊥ bs = rnr_written y.link small ⊥ n in
          let reply = answer_reply y.link.peer ⊥ bs a in (
            record {
              dest = (heads bs p read).1 ∙ (a.dest ∙ number_o);
              none = (kind_says bs p read ⊥ a.kind).0;
              no_request = ap is_request (heads bs p read).0 ∙ reply.no_request;
              no_resume = ap (λ k. k == 0x1E) (heads bs p read).0 ∙ reply.no_resume;
            },
            subst (λ k. IsRnrOf k n p) start_same (rnr_read y.link n p read),
          )

      dried_sorted : (i : ℕ) (g : Flight) → n1 ≤ i → slice_get v2.sent i ≡ Some g → IsSorted at2 (IsWanting n x) (IsRnrOf l1.terms.own_start n) (wanting_moved n x) (wanting_answers n x l1) g.bytes
      dried_sorted i g past there =
          let z = y.fresh i g past there in
          let is : z.0 ≡ responder.acknowledge y.link n Rnr = contains_one (responder.acknowledge y.link n Rnr) z.0 (subst (λ zs. Contains zs z.0) dried.sent z.1) in
          let bytes : g.bytes ≡ (responder.acknowledge y.link n Rnr).bytes = sym z.2 ∙ ap (λ u. u.bytes) is in
          inr (λ p read. rnr_for p (ap packet_of (sym bytes) ∙ read))

      needed : (responder.needs_receive y.packet ≡ true) × (responder.is_empty y.end.unused ≡ true)
      needed = both_parts _ _ dried.dry

      needs : NeedsReceive x
      needs = piece_needs x l.terms.mtu l.peer (wire_number l.terms.own_start l.sender.next) (ap responder.needs_receive (sym t.packet) ∙ needed.0)

      wanted : (d : WantingDuring w3) → IsOpen n x d.link → d.link.sender.rnr_wait ≡ true → IsWanted w3 d.link
      unfolding transmitted with_sender
      wanted d open' wait =
          let spared = d.others q (λ h. o_not_q (sym h)) in
          let k = linked_after IsLinkSpared (at_end v2 q).link (at_end w3 q).link y.link spared.links q_now in
          let on : IsLinkKept l1 d.link = linked_both IsLinkKept (at_end v2 o).link (at_end w3 o).link l1 d.link d.own.links at2 d.linked in
          let una : d.link.sender.una ≡ n = open'.wait wait in
          record {
            partner = q;
            link = k.0;
            linked = k.1;
            number = spared.number ∙ (ap (λ e. e.number) q_same ∙ (number_q ∙ sym on.on.peer));
            alive = k.2.ended ∙ t.alive;
            expects = ap (λ z. z.expected) k.2.receiver ∙ (sym dried.at ∙ sym una);
            dry = spared.unused ∙ (ap (λ e. e.unused) (q_same ∙ exchange.end_before lightens follows s0 m o l s at x row calm t) ∙ empty_is y.end.unused needed.1);
            piece = x;
            is = ap (piece_with d.link) una ∙ open'.piece;
            needs = needs;
          }

      wanting_by : (d : WantingDuring w3) → IsWanting n x d.link → IsFree d.link ⊎ IsWanted w3 d.link
      wanting_by d (inl over) = inl (inl over)
      wanting_by d (inr open') = by_test d.link.sender.rnr_wait refl
        where
          by_test : (b : Bool) → d.link.sender.rnr_wait ≡ b → IsFree d.link ⊎ IsWanted w3 d.link
          by_test false h = inl (inr h)
          by_test true h = inr (wanted d open' h)

      dried_gone : HasGone w w3 o l
      dried_gone =
          let d : WantingDuring w3 = drains at2 (IsWanting n x) (IsRnrOf l1.terms.own_start n) (wanting_moved n x) (wanting_answers n x l1) (begin at2 (IsWanting n x) (IsRnrOf l1.terms.own_start n) (wanting_moved n x) (wanting_answers n x l1) start_wanting dried_sorted) in
          gone at2 (IsWanting n x) (IsRnrOf l1.terms.own_start n) (wanting_moved n x) (wanting_answers n x l1) (on2 y.link q_now (inr (inr refl))) (kept2 y.link q_now (inr (inr refl))) (senders2 y.link q_now (inr (inr refl))) d
          (λ l' h. subst (λ z. IsFree z ⊎ IsWanted w3 z) (some_link d.link l' (sym d.linked ∙ h)) (wanting_by d d.holds))

    -- ---- either

    number_found : unwrap_near y.link.terms.peer_start y.packet.psn y.link.receiver.expected ≡ Some n
    unfolding hq ho transmitted with_sender
    number_found =
        let alive' = alive1 lightens follows w m o l s at x row in
        let most : y.link.receiver.expected ≤ l.sender.una + 1048576 = expected_near v1 m1 o q l1 y.link s1 ho hq named' alive' t.alive in
        let least : l.sender.una ≤ y.link.receiver.expected = una_expected v1 m1 o q l1 y.link s1 ho hq named' alive' t.alive in
        known y.link.terms.peer_start y.packet.psn y.link.receiver.expected n (record {
          spelled = ap (λ k. wire_number k n) start_same ∙ (sym (piece_psn x.posted l.terms.mtu x.k l.peer (wire_number l.terms.own_start l.sender.next)) ∙ ap (λ (p : Packet). p.psn) (sym t.packet));
          low = omega (arith, most, una_next lightens follows w m o l s at x row);
          high = omega (arith, least, una_near);
        })

    taken_gone : HasGone w w3 o l
    taken_gone =
        elim (taken_says y.context y.end y.link y.packet n t.alive t.running
        (ap control_of t.packet ∙ no_control x.posted l.terms.mtu x.k l.peer (wire_number l.terms.own_start l.sender.next))
        (ap (λ (p : Packet). is_request p.opcode) t.packet ∙ asks x.posted l.terms.mtu x.k l.peer (wire_number l.terms.own_start l.sender.next))
        number_found) [ inl dried ↦ dried_gone dried | inr plain ↦ plain_gone plain ]

  -- what a send of a piece leaves
  pub piece_gone : HasGone w w3 o l
  piece_gone = elim (first_delivery lightens follows w m o l s at x row) [ inl dead ↦ dead_gone dead | inr t ↦ taken_gone t ]
