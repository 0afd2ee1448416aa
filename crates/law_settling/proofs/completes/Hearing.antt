-- Where nothing changes while a RESUME and what comes of it are drained, every end keeps what it would send.
use Rattle.std.proofs.Common.{arith, ◌≡◌, ◌≤◌, ◌⊎◌, ℕ, List, [], ◌∷◌, length, true, false, refl, sym, ap, ◌∙◌, subst, inl, inr}
use Rattle.std.specs.Prelude.{Contains, Some, None, slice_get}
use Rattle.rdma_types.specs.declared.answers.Sent.{Sent}
use Rattle.rdma_types.specs.declared.names.ObjName.{ObjName}
use Rattle.protocol.specs.declared.events.WorldEvent.{WorldEvent}
use Rattle.protocol.specs.declared.events.WorldEvent.TheVariants as world_events
use Rattle.protocol.specs.declared.wire.ResumeBody.{ResumeBody}
use Rattle.protocol.specs.EndStep.{takes}
use Rattle.protocol.specs.EndWords.{is_resuming}
use Rattle.protocol.specs.Fabric.{pending}
use Rattle.protocol.specs.Moves.{control_of, resume_packet}
use Rattle.protocol.specs.State.{World, Flight, Link}
use Rattle.protocol.specs.Wire.{Packet, packet_of}
use Rattle.protocol.specs.WorldStep.{world_step}
use Rattle.protocol.specs.Settle.{Settling, delivering, drained, pass, settle_step, stepped_to}
use Rattle.packetless_machine.specs.Machine.{Machine}
use Rattle.law_simulation.specs.Law.{AlwaysFollows}
use Rattle.law_simulation.specs.Views.{name_of}
use Rattle.law_simulation.specs.Stands.{Stands}
use Rattle.law_simulation.proofs.move_messages.Wires.{ack_fits}
use Rattle.law_simulation.proofs.sending.GoWritten.{reads_back}
use Rattle.law_settling.proofs.draining.Arrivals.{delivered, grows, still_pending}
use Rattle.law_settling.proofs.draining.Pending.{contains_cases, pending_listed}
use Rattle.law_settling.specs.Weights.{TakingLightens}
use Rattle.law_settling.proofs.bound.Lives.{at_end}
use Rattle.law_settling.proofs.sending_stops.Arrivals.{IsQuietStep, Lands, first_either}
use Rattle.law_settling.proofs.completes.Announcing as announcing
use Rattle.law_settling.proofs.completes.Announcing.{BeginsAnew, IsHeard, ack_of, partner_said, resume_control, takes_resume}
use Rattle.law_settling.proofs.completes.Answering as answering
use Rattle.law_settling.proofs.completes.Keeping.{IsKept, kept_still}
use Rattle.law_settling.proofs.completes.Still.{IsStill, Runs, pass_runs, runs_on, sent_runs, step_followed, transmit_runs}
use Rattle.law_settling.proofs.completes.Words.{HaveSenders, IsSaid, Words, ack_said, lands_link, lives_again, pass_words, sender_is, senders_on, senders_same, stop_said}

contains_one : (a b : ℕ) → Contains (a ∷ []) b → b ≡ a
contains_one a b h = elim (contains_cases b a [] h) [ inl e ↦ sym e | inr n ↦ absurd (omega (arith, n.1)) ]

module _ (lightens : TakingLightens) (follows : (e : WorldEvent) → AlwaysFollows e) (s0 : Settling) (m : Machine) (o : ObjName) (l : Link) (s : Stands s0.world m) (at : (at_end s0.world o).link ≡ Some l) (alive : l.ended ≡ false) (resuming : is_resuming l.moving.phase ≡ true) (calm : pending s0.world.sent ≡ None) where
  abbrev w : World
  w = s0.world

  abbrev t1 : Settling
  t1 = announcing.t1 lightens follows s0 m o l s at alive resuming calm

  abbrev v1 : World
  v1 = announcing.v1 lightens follows s0 m o l s at alive resuming calm

  abbrev k1 : ℕ
  k1 = announcing.k1 lightens follows s0 m o l s at alive resuming calm

  abbrev m1 : Machine
  m1 = (announcing.followed_then lightens follows s0 m o l s at alive resuming calm).0

  abbrev s1 : Stands v1 m1
  s1 = (announcing.followed_then lightens follows s0 m o l s at alive resuming calm).1

  abbrev body : ResumeBody
  body = announcing.body lightens follows s0 m o l s at alive resuming calm

  abbrev pk : Packet
  pk = announcing.packet lightens follows s0 m o l s at alive resuming calm

  abbrev f : Flight
  f = announcing.flight lightens follows s0 m o l s at alive resuming calm

  abbrev v2 : World
  v2 = (world_step v1 (world_events.Deliver k1)).world

  abbrev w3 : World
  w3 = (drained t1).world

  abbrev n1 : ℕ
  n1 = length v1.sent

  first_pass : (pass t1).world ≡ v2
  unfolding settle_step stepped_to
  first_pass = ap (λ z. z.world) (announcing.first_pass lightens follows s0 m o l s at alive resuming calm)

  senders_then : HaveSenders w v1
  senders_then = senders_same w v1 (announcing.lives_then lightens follows s0 m o l s at alive resuming calm)

  -- where the first delivery changed no requester, draining changes none
  words_then : HaveSenders v1 v2 → ((j : ℕ) (g : Flight) → n1 ≤ j → slice_get v2.sent j ≡ Some g → IsSaid g.bytes) → Words lightens follows n1 w v2
  words_then senders fresh = record {
    followed = step_followed lightens follows v1 (world_events.Deliver k1) tt (m1, s1);
    senders = senders_on w v1 v2 senders_then senders;
    most = grows v1 v2 k1 (delivered v1 k1);
    said = fresh;
    later = λ j g h. elim (still_pending v1 v2 k1 (delivered v1 k1) j g h) [
      | inl a ↦ absurd (a.1 (contains_one k1 j (subst (λ ks. Contains ks j) (announcing.listed_then lightens follows s0 m o l s at alive resuming calm) (pending_listed v1.sent j g a.0))))
      | inr b ↦ b.0
    ];
  }

  senders_now : HaveSenders v1 v2 → ((j : ℕ) (g : Flight) → n1 ≤ j → slice_get v2.sent j ≡ Some g → IsSaid g.bytes) → HaveSenders w w3
  unfolding drained
  senders_now senders fresh =
      let one : Words lightens follows n1 w (pass t1).world = subst (Words lightens follows n1 w) (sym first_pass) (words_then senders fresh) in
      let two : Words lightens follows n1 w (pass (pass t1)).world = pass_words lightens follows n1 w (pass t1) one in
      (pass_words lightens follows n1 w (pass (pass t1)) two).senders

  -- nothing takes it
  quiet_senders : IsQuietStep v1 v2 → HaveSenders w w3
  quiet_senders quiet = senders_now (senders_same v1 v2 quiet.lives) (λ j g past there. stop_said g.bytes (quiet.fresh j g past there))

  -- an end takes it
  module _ (y : Lands v1 m1 k1 v2) (same_packet : y.packet ≡ pk) where
    abbrev q : ObjName
    q = name_of m1 y.packet.dest

    q_link : (at_end v1 q).link ≡ Some y.link
    q_link = lands_link v1 m1 k1 v2 y

    ack_is_said : (bs : List ℕ) → (ack_of y.link body).bytes ≡ bs → IsSaid bs
    ack_is_said bs is = ack_said y.link.peer body bs (ap packet_of (sym is) ∙ reads_back (resume_packet 0x1F y.link.peer body) (ack_fits y.link.peer body (partner_said v1 m1 q y.link s1 q_link) (announcing.body_fits lightens follows s0 m o l s at alive resuming calm)))

    one_sent : (sent : List Sent) (z : Sent) (bs : List ℕ) → (sent ≡ []) ⊎ (sent ≡ ack_of y.link body ∷ []) → Contains sent z → z.bytes ≡ bs → IsSaid bs
    one_sent sent z bs (inl none) c is = absurd (omega (arith, (subst (λ zs. Contains zs z) none c).1))
    one_sent sent z bs (inr one) c is = elim (contains_cases z (ack_of y.link body) [] (subst (λ zs. Contains zs z) one c)) [
      | inl e ↦ ack_is_said bs (ap (λ x. x.bytes) e ∙ is)
      | inr n ↦ absurd (omega (arith, n.1))
    ]

    heard_senders : IsHeard y.context y.link body (takes y.context y.end y.link y.packet) → HaveSenders w w3
    heard_senders h =
        senders_now (senders_same v1 v2 (lives_again v1 m1 k1 v2 y h.context))
        (λ j g past there. let z = y.fresh j g past there in one_sent (takes y.context y.end y.link y.packet).sent z.0 g.bytes h.sent z.1 z.2)

    -- it is news: it is answered, and o runs
    module _ (anew : takes y.context y.end y.link y.packet ≡ BeginsAnew y.context y.end y.link body) where
      abbrev k2 : ℕ
      k2 = answering.k2 lightens follows s0 m o l s at alive resuming calm y same_packet anew

      abbrev u1 : Settling
      u1 = settle_step t1 (world_events.Deliver k1)

      second_pass : pass u1 ≡ settle_step u1 (world_events.Deliver k2)
      unfolding settle_step stepped_to delivering
      second_pass = ap (delivering u1) (answering.listed2 lightens follows s0 m o l s at alive resuming calm y same_packet anew)

      passes : pass (pass t1) ≡ settle_step u1 (world_events.Deliver k2)
      passes = ap pass (announcing.first_pass lightens follows s0 m o l s at alive resuming calm) ∙ second_pass

      abbrev v3 : World
      v3 = (world_step v2 (world_events.Deliver k2)).world

      second_world : (pass (pass t1)).world ≡ v3
      unfolding settle_step stepped_to
      second_world = ap (λ z. z.world) passes

      anew_moves : (drained t1).changed ≡ false → ⊥
      unfolding drained
      anew_moves same =
          let sent : Runs s0 t1 = transmit_runs lightens follows s0 o (m, s) in
          let one : Runs t1 (pass t1) = pass_runs lightens follows t1 sent.followed in
          let two : Runs (pass t1) (pass (pass t1)) = pass_runs lightens follows (pass t1) one.followed in
          let three : Runs (pass (pass t1)) (pass (pass (pass t1))) = pass_runs lightens follows (pass (pass t1)) two.followed in
          let all : Runs s0 (pass (pass t1)) = runs_on s0 t1 (pass (pass t1)) sent (runs_on t1 (pass t1) (pass (pass t1)) one two) in
          answering.answer_moves lightens follows s0 m o l s at alive resuming calm y same_packet anew (subst (IsStill w) second_world (all.still (three.still same).0).1)

    lands_senders : (drained t1).changed ≡ false → HaveSenders w w3
    lands_senders same = elim (takes_resume y.context y.end y.link body y.packet (ap control_of same_packet ∙ resume_control l body.address)) [
      | inl heard ↦ heard_senders heard
      | inr anew ↦ absurd (anew_moves anew same)
    ]

  -- all ends have the requesters that they had
  pub announced_senders : (drained t1).changed ≡ false → HaveSenders w w3
  announced_senders same = elim (first_either lightens v1 m1 k1 s1 f (announcing.kept_then lightens follows s0 m o l s at alive resuming calm) refl pk (announcing.read_then lightens follows s0 m o l s at alive resuming calm)) [
    | inl quiet ↦ quiet_senders quiet.0
    | inr lands ↦ lands_senders lands.0 lands.2 same
  ]

  pub announced_kept : (drained t1).changed ≡ false → (z : ObjName) → IsKept z w w3
  announced_kept same z = kept_still z w w3 ((sent_runs lightens follows s0 o (m, s)).still same).1 (λ k k' before now running. sender_is w w3 z k k' (announced_senders same) before now)
