-- A RESUME that is news is answered, and the end that sent it then runs: something changed.
use Rattle.std.proofs.Common.{arith, ◌≡◌, ◌+◌, ℕ, List, [], ◌∷◌, ◌++◌, length, map, true, false, Bool, refl, sym, ap, ◌∙◌, subst, inl, inr}
use Rattle.std.specs.Prelude.{Contains, Some, None, is_some, not, if◌then◌else◌, ◌==◌, ◌&&◌}
use Rattle.std.proofs.lemmas.Bool.Decides.{eqb_tells}
use Rattle.std.proofs.lemmas.List.{append-nil}
use Rattle.std.proofs.lemmas.List.Elements.{All-nil}
use Rattle.rdma_types.specs.declared.answers.ArrivalEffect.TheVariants as took_words
use Rattle.rdma_types.specs.declared.answers.DropReason.TheVariants as why
use Rattle.rdma_types.specs.declared.names.ObjName.{ObjName}
use Rattle.rdma_types.specs.declared.requests.Address.{Address}
use Rattle.rdma_types.specs.Lists.{named}
use Rattle.protocol.specs.declared.events.WorldEvent.{WorldEvent}
use Rattle.protocol.specs.declared.events.WorldEvent.TheVariants as world_events
use Rattle.protocol.specs.declared.wire.ResumeBody.{ResumeBody}
use Rattle.protocol.specs.EndStep.{takes, takes_kind}
use Rattle.protocol.specs.EndWords.{is_resuming, linked, silent, stays, with_moving}
use Rattle.protocol.specs.Fabric.{flight_of, kept_flight, pending, pending_numbers, took}
use Rattle.protocol.specs.Moves.{GoesRunning, ResumeAck, Stale, control_of, in_phase, move_row, moves_by, resume_packet, takes_control}
use Rattle.protocol.specs.State.{World, Context, End, Flight, Link, Running, no_end}
use Rattle.protocol.specs.Wire.{Packet, packet_of, wire_of}
use Rattle.protocol.specs.WorldStep.{device_with, live_context, same_address, with_taken, world_step}
use Rattle.protocol.specs.Settle.{Settling}
use Rattle.packetless_machine.specs.Machine.{Machine}
use Rattle.law_simulation.specs.Law.{AlwaysFollows}
use Rattle.law_simulation.specs.Stands.{Stands}
use Rattle.law_simulation.specs.Views.{end_of, name_of, place_of}
use Rattle.law_simulation.proofs.relation.Connecting.{live_place}
use Rattle.law_simulation.proofs.relation.Worlds.{place_same}
use Rattle.law_simulation.proofs.delivery.Found.{linked_there, lives_found}
use Rattle.law_simulation.proofs.move_messages.Wires.{ack_fits}
use Rattle.law_simulation.proofs.sending.GoLive.{LiveEnd, link_now}
use Rattle.law_simulation.proofs.sending.GoWritten.{reads_back}
use Rattle.law_settling.proofs.draining.Arrivals.{Flown, IsDelivered, still_pending}
use Rattle.law_settling.proofs.draining.Pending.{contains_cases, none_pending, pending_listed}
use Rattle.law_settling.specs.Weights.{TakingLightens}
use Rattle.law_settling.proofs.bound.Lives.{lives, at_end, context_in, end_is}
use Rattle.law_settling.proofs.bound.Turns.{live_end}
use Rattle.law_settling.proofs.sending_stops.Arrivals.{Lands, Missed, first_either}
use Rattle.law_settling.proofs.sending_stops.Pairs.{back_number}
use Rattle.law_settling.proofs.sending_stops.Places.{context_else, number_is, one_named}
use Rattle.law_settling.proofs.sending_stops.Sending.{last_there, one_pending}
use Rattle.law_settling.proofs.completes.Announcing as announcing
use Rattle.law_settling.proofs.completes.Announcing.{BeginsAnew, ack_of, partner_apart, partner_said}
use Rattle.law_settling.proofs.completes.Keeping.{still_resuming}
use Rattle.law_settling.proofs.completes.Still.{Followed, IsStill, IsStillLink, step_followed}
use Rattle.law_settling.proofs.completes.Words.{ack_control, lands_link, moved_now}

-- ---- where all that is pending is taken, nothing is

contains_one : (a b : ℕ) → Contains (a ∷ []) b → b ≡ a
contains_one a b h = elim (contains_cases b a [] h) [ inl e ↦ sym e | inr n ↦ absurd (omega (arith, n.1)) ]

flown_nothing : (bs : List ℕ) → Flown bs []
flown_nothing bs = record { replies = All-nil _; stops = λ h. All-nil _; none = λ h. refl }

taken_calm : (w : World) (k : ℕ) → pending_numbers w.sent ≡ k ∷ [] → pending (took w.sent k) ≡ None
taken_calm w k listed = none_pending (took w.sent k) (λ j f p. elim (still_pending w (with_taken w k) k taken j f p) [
  | inl a ↦ a.1 (contains_one k j (subst (λ ks. Contains ks j) listed (pending_listed w.sent j f a.0)))
  | inr b ↦ absurd (omega (arith, b.1.1))
])
  where
    taken : IsDelivered w (with_taken w k) k
    taken = record { base = took w.sent k; more = []; sent = sym (append-nil (took w.sent k)); marked = inr refl; replies = All-nil _; flown = λ g h. flown_nothing g.bytes }

-- ---- a RESUME_ACK at an end that resumes

ack_row : (c : Context) (e : End) (l : Link) (count : ℕ) (b : Bool) → b ≡ true → moves_by c e l (ResumeAck count) (if b then GoesRunning else Stale) ≡ stays (linked c e (with_moving l (in_phase l.moving Running))) took_words.Running
unfolding moves_by
ack_row c e l count true h = refl
ack_row c e l count false h = absurd (cc)

same_number : (n : ℕ) → (n == n) ≡ true
same_number n = elim (eqb_tells n n) [ inl t ↦ t.0 | inr t ↦ absurd (t.1 refl) ]

same_place : (a : Address) → same_address a a ≡ true
same_place a = both (a.ip == a.ip) (a.port == a.port) (same_number a.ip) (same_number a.port)
  where
    both : (x y : Bool) → x ≡ true → y ≡ true → (x && y) ≡ true
    both x y h k = rw (h, k) refl

takes_ack : (c : Context) (e : End) (l : Link) (p : Packet) → control_of p ≡ Some (ResumeAck l.moving.own) → l.ended ≡ false → is_resuming l.moving.phase ≡ true → takes c e l p ≡ stays (linked c e (with_moving l (in_phase l.moving Running))) took_words.Running
unfolding takes takes_control move_row
takes_ack c e l p says alive resuming =
    (λ i. if alive i then silent c why.Ended else takes_kind c e l p (says i))
    ∙ ack_row c e l l.moving.own (l.moving.own == l.moving.own && is_resuming l.moving.phase) (both (l.moving.own == l.moving.own) (is_resuming l.moving.phase) (same_number l.moving.own) resuming)
  where
    both : (x y : Bool) → x ≡ true → y ≡ true → (x && y) ≡ true
    both x y h k = rw (h, k) refl

some_link : (a b : Link) → Some a ≡ Some b → a ≡ b
some_link a b h = cc

never_resuming : (b : Bool) → (not b && false) ≡ true → ⊥
never_resuming true h = cc
never_resuming false h = cc

module _ (lightens : TakingLightens) (follows : (e : WorldEvent) → AlwaysFollows e) (s0 : Settling) (m : Machine) (o : ObjName) (l : Link) (s : Stands s0.world m) (at : (at_end s0.world o).link ≡ Some l) (alive : l.ended ≡ false) (resuming : is_resuming l.moving.phase ≡ true) (calm : pending s0.world.sent ≡ None) where
  abbrev w : World
  w = s0.world

  abbrev v1 : World
  v1 = announcing.v1 lightens follows s0 m o l s at alive resuming calm

  abbrev k1 : ℕ
  k1 = announcing.k1 lightens follows s0 m o l s at alive resuming calm

  abbrev m1 : Machine
  m1 = (announcing.followed_then lightens follows s0 m o l s at alive resuming calm).0

  abbrev s1 : Stands v1 m1
  s1 = (announcing.followed_then lightens follows s0 m o l s at alive resuming calm).1

  abbrev at1 : (at_end v1 o).link ≡ Some l
  at1 = announcing.link_then lightens follows s0 m o l s at alive resuming calm

  abbrev a : Address
  a = (announcing.d lightens follows s0 m o l s at alive resuming calm).address

  abbrev body : ResumeBody
  body = announcing.body lightens follows s0 m o l s at alive resuming calm

  abbrev pk : Packet
  pk = announcing.packet lightens follows s0 m o l s at alive resuming calm

  abbrev pub v2 : World
  v2 = (world_step v1 (world_events.Deliver k1)).world

  -- ---- the end y takes the RESUME, and it is news

  module _ (y : Lands v1 m1 k1 v2) (same_packet : y.packet ≡ pk) (anew : takes y.context y.end y.link y.packet ≡ BeginsAnew y.context y.end y.link body) where
    abbrev q : ObjName
    q = name_of m1 y.packet.dest

    abbrev lq : Link
    lq = y.link

    q_is : name_of m1 l.peer ≡ q
    q_is = ap (λ z. name_of m1 z.dest) (sym same_packet)

    q_link : (at_end v1 q).link ≡ Some lq
    q_link = lands_link v1 m1 k1 v2 y

    o_context : context_in (lives v2) o.context ≡ context_in (lives v1) o.context
    o_context = context_else v1 v2 q y.context y.there.context (takes y.context y.end y.link y.packet).context y.lives y.called o.context (λ h. partner_apart v1 m1 o l s1 at1 (ap (λ n. n.context) q_is ∙ sym h))

    o_end : at_end v2 o ≡ at_end v1 o
    o_end = ap (λ z. named (λ e. e.name) no_end o.name z.ends) o_context

    at2 : (at_end v2 o).link ≡ Some l
    at2 = ap (λ e. e.link) o_end ∙ at1

    f2 : Followed v2
    f2 = step_followed lightens follows v1 (world_events.Deliver k1) tt (m1, s1)

    abbrev m2 : Machine
    m2 = f2.0

    abbrev s2 : Stands v2 m2
    s2 = f2.1

    h2 : LiveEnd v2 m2 o l
    unfolding f2
    h2 = live_end v2 m2 o l s2 at2

    place2 : place_of v2 o.context ≡ Some a
    place2 = place_same w v2 o.context (y.shapes ∙ announcing.shapes_then lightens follows s0 m o l s at alive resuming calm) ∙ live_place w o.context (announcing.here lightens follows s0 m o l s at alive resuming calm).live

    -- the answer is for o
    peer2 : lq.peer ≡ (at_end v2 o).number
    peer2 =
        back_number v1 m1 o q l lq s1 (live_end v1 m1 o l s1 at1) (live_end v1 m1 q lq s1 q_link) q_is
        ∙ (number_is v1 m1 o l s1 at1 ∙ ap (λ e. e.number) (sym o_end))

    abbrev ack : Packet
    ack = resume_packet 0x1F lq.peer body

    abbrev g : Flight
    g = record { from = y.from; to = a; number = None; bytes = wire_of ack; lost = false; taken = false }

    sent2 : v2.sent ≡ took v1.sent k1 ++ g ∷ []
    sent2 = y.sent ∙ ap (λ z. took v1.sent k1 ++ map (flight_of y.from) z.sent) anew

    abbrev pub k2 : ℕ
    k2 = length (took v1.sent k1) + 1

    pub listed2 : pending_numbers v2.sent ≡ k2 ∷ []
    listed2 = ap pending_numbers sent2 ∙ one_pending (took v1.sent k1) g (taken_calm v1 k1 (announcing.listed_then lightens follows s0 m o l s at alive resuming calm)) refl refl

    kept2 : kept_flight v2.sent k2 ≡ Some g
    kept2 = subst (λ fs. kept_flight fs k2 ≡ Some g) (sym sent2) (last_there (took v1.sent k1) g)

    read2 : packet_of g.bytes ≡ Some ack
    read2 = reads_back ack (ack_fits lq.peer body (partner_said v1 m1 q lq s1 q_link) (announcing.body_fits lightens follows s0 m o l s at alive resuming calm))

    -- ---- o takes the answer

    abbrev pub v3 : World
    v3 = (world_step v2 (world_events.Deliver k2)).world

    not_missed : Missed v2 g ack → ⊥
    unfolding live_context h2 f2
    not_missed missed =
        let there = linked_there v2 o h2.live (ap is_some (link_now v2 m2 o l s2 h2)) in
        let number : (end_of v2 o).number ≡ ack.dest = ap (λ e. e.number) (sym there.1) ∙ (ap (λ e. e.number) (end_is v2 o) ∙ sym peer2) in
        let found = lives_found v2 m2 o a g.to ack.dest s2.placed (ap is_some (link_now v2 m2 o l s2 h2)) number place2 (same_place a) (device_with v2 g.to) refl in
        absurd (omega (arith, found.2, ap length (missed found.0 found.1)))

    module _ (z : Lands v2 m2 k2 v3) (is_ack : z.packet ≡ ack) where
      abbrev r : ObjName
      r = name_of m2 z.packet.dest

      r_is : r ≡ o
      r_is = ap (λ p. name_of m2 p.dest) is_ack ∙ (ap (name_of m2) peer2 ∙ one_named v2 m2 o l s2 at2)

      z_link : (at_end v2 r).link ≡ Some z.link
      z_link = lands_link v2 m2 k2 v3 z

      is_l : z.link ≡ l
      is_l = some_link z.link l (sym z_link ∙ (ap (λ n. (at_end v2 n).link) r_is ∙ at2))

      says : control_of z.packet ≡ Some (ResumeAck z.link.moving.own)
      says = ap control_of is_ack ∙ (ack_control lq.peer body ∙ ap (λ (k : Link). Some (ResumeAck k.moving.own)) (sym is_l))

      runs : takes z.context z.end z.link z.packet ≡ stays (linked z.context z.end (with_moving z.link (in_phase z.link.moving Running))) took_words.Running
      runs = takes_ack z.context z.end z.link z.packet says (ap (λ (k : Link). k.ended) is_l ∙ alive) (ap (λ (k : Link). is_resuming k.moving.phase) is_l ∙ resuming)

      now : (at_end v3 o).link ≡ Some (with_moving z.link (in_phase z.link.moving Running))
      now = ap (λ n. (at_end v3 n).link) (sym r_is) ∙ moved_now v2 m2 k2 v3 z (in_phase z.link.moving Running) (ap (λ t. t.context) runs)

      lands_moved : IsStill w v3 → ⊥
      unfolding with_moving
      lands_moved still =
          let l3 : Link = with_moving z.link (in_phase z.link.moving Running) in
          let h : IsStillLink (Some l) (Some l3) = subst (λ y'. IsStillLink (Some l) y') now (subst (λ x'. IsStillLink x' (at_end v3 o).link) at (still o)) in
          never_resuming z.link.ended (still_resuming l l3 h ∙ rw (alive, resuming) refl)

    pub answer_moves : IsStill w v3 → ⊥
    unfolding f2
    answer_moves still = elim (first_either lightens v2 m2 k2 s2 g kept2 refl ack read2) [
      | inl quiet ↦ elim quiet.1 [
        | inl missed ↦ not_missed missed
        | inr past ↦ absurd (cc (past.late))
      ]
      | inr lands ↦ lands_moved lands.0 lands.2 still
    ]
