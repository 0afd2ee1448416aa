-- What NAK_STOPPED and RESUME_ACK leave of all ends: their requesters.
use Rattle.std.proofs.Common.{arith, ◌≡◌, ◌≤◌, ◌<◌, ◌-◌, ◌⊎◌, ℕ, List, [], ◌∷◌, length, true, false, Bool, refl, sym, ap, ◌∙◌, subst, inl, inr}
use Rattle.std.specs.Prelude.{Contains, Option, Some, None, slice_get, nat_le, not, if◌then◌else◌, ◌==◌, ◌&&◌}
use Rattle.std.proofs.lemmas.Bool.Decides.{nat_tests, leb_tells}
use Rattle.rdma_types.specs.declared.answers.DropReason.TheVariants as why
use Rattle.rdma_types.specs.declared.names.ObjName.{ObjName}
use Rattle.rdma_types.specs.Lists.{named, store_named}
use Rattle.protocol.specs.declared.events.WorldEvent.{WorldEvent}
use Rattle.protocol.specs.declared.events.WorldEvent.TheVariants as world_events
use Rattle.protocol.specs.declared.wire.ResumeBody.{ResumeBody}
use Rattle.protocol.specs.EndStep.{takes, takes_kind}
use Rattle.protocol.specs.EndWords as words
use Rattle.protocol.specs.EndWords.{EndStep, is_paused, is_resuming, linked, silent, with_link, with_moving}
use Rattle.protocol.specs.Fabric.{pending_numbers}
use Rattle.protocol.specs.Moves.{Control, GoesPaused, GoesRunning, Resume, ResumeAck, Stale, Stopped, control_of, in_phase, move_row, moves_by, resume_packet, takes_control}
use Rattle.protocol.specs.State.{World, Context, End, Flight, Link, Moving, Paused, Running, no_context, no_end}
use Rattle.protocol.specs.Wire.{Packet, is_nak_stopped, packet_of}
use Rattle.protocol.specs.WorldStep.{world_step}
use Rattle.protocol.specs.Settle.{Settling, delivering, pass, settle_step, stepped_to}
use Rattle.packetless_machine.specs.Machine.{Machine}
use Rattle.law_simulation.specs.Law.{AlwaysFollows}
use Rattle.law_simulation.specs.Views.{name_of}
use Rattle.law_simulation.proofs.relation.Grows.{object_or_not}
use Rattle.law_simulation.proofs.delivery.Arriving.{stored_again}
use Rattle.law_settling.proofs.draining.Pending.{IsPending, contains_here, contains_later, numbers_pend}
use Rattle.law_settling.proofs.draining.Arrivals.{IsDelivered, bytes_kept, delivered, grows, still_pending}
use Rattle.law_settling.proofs.draining.Replies.{IsStop}
use Rattle.law_settling.specs.Weights.{TakingLightens}
use Rattle.law_settling.proofs.bound.Lives.{lives, at_end, context_in, name_is}
use Rattle.law_settling.proofs.sending_stops.Arrivals.{Lands, delivers_either}
use Rattle.law_settling.proofs.sending_stops.Draining.{get_within}
use Rattle.law_settling.proofs.sending_stops.Places.{end_else, end_now}
use Rattle.law_settling.proofs.sending_stops.Reading.{stop_says}
use Rattle.law_settling.proofs.completes.Still.{Followed, step_followed}

-- ---- the messages

-- a message of moving, and no RESUME
abbrev pub IsWord : Option Control → Type 0
IsWord None = ⊥
IsWord (Some (Stopped count)) = Unit {0}
IsWord (Some (ResumeAck count)) = Unit {0}
IsWord (Some (Resume body)) = ⊥

-- .. in bytes
abbrev pub IsSaid : List ℕ → Type 0
IsSaid bs = (p : Packet) → packet_of bs ≡ Some p → IsWord (control_of p)

pub stop_said : (bs : List ℕ) → IsStop bs → IsSaid bs
stop_said bs stop p read = subst IsWord (sym (stop_says bs p read stop)) tt

pub ack_control : (dest : ℕ) (body : ResumeBody) → control_of (resume_packet 0x1F dest body) ≡ Some (ResumeAck body.count)
unfolding control_of is_nak_stopped
ack_control dest body = refl

some_packet : (a b : Packet) → Some a ≡ Some b → a ≡ b
some_packet a b h = cc

pub ack_said : (dest : ℕ) (body : ResumeBody) (bs : List ℕ) → packet_of bs ≡ Some (resume_packet 0x1F dest body) → IsSaid bs
ack_said dest body bs reads p read = subst (λ z. IsWord (control_of z)) (some_packet (resume_packet 0x1F dest body) p (sym reads ∙ read)) (subst IsWord (sym (ack_control dest body)) tt)

-- ---- an end takes one

-- the end is as it was, but for its move counts and its phase
abbrev pub MovesAlone : Context → End → Link → Context → Type 0
MovesAlone c e l x = (x ≡ c) ⊎ ((v : Moving) × (x ≡ linked c e (with_moving l v)))

record TakesWord (c : Context) (e : End) (l : Link) (t : EndStep) : Type 0 where
  context : MovesAlone c e l t.context
  silent : t.sent ≡ []

module _ (c : Context) (e : End) (l : Link) where
  stop_by : (count : ℕ) (b : Bool) → TakesWord c e l (moves_by c e l (Stopped count) (if b then GoesPaused else Stale))
  unfolding moves_by
  stop_by count true = record { context = inr (in_phase l.moving Paused, refl); silent = refl }
  stop_by count false = record { context = inl refl; silent = refl }

  ack_by : (count : ℕ) (b : Bool) → TakesWord c e l (moves_by c e l (ResumeAck count) (if b then GoesRunning else Stale))
  unfolding moves_by
  ack_by count true = record { context = inr (in_phase l.moving Running, refl); silent = refl }
  ack_by count false = record { context = inl refl; silent = refl }

  kind_word : (p : Packet) (m : Option Control) → IsWord m → TakesWord c e l (takes_kind c e l p m)
  unfolding takes_control move_row
  kind_word p None h = absurd h
  kind_word p (Some (Stopped count)) h = stop_by count (count == l.moving.recorded && not (is_paused l.moving.phase))
  kind_word p (Some (ResumeAck count)) h = ack_by count (count == l.moving.own && is_resuming l.moving.phase)
  kind_word p (Some (Resume body)) h = absurd h

  word_by : (b : Bool) (t : EndStep) → TakesWord c e l t → TakesWord c e l (if b then silent c why.Ended else t)
  word_by true t h = record { context = inl refl; silent = refl }
  word_by false t h = h

  takes_word : (p : Packet) → IsWord (control_of p) → TakesWord c e l (takes c e l p)
  unfolding takes
  takes_word p h = word_by l.ended (takes_kind c e l p (control_of p)) (kind_word p (control_of p) h)

-- ---- the requesters of all ends

-- an end has the requester that it had
abbrev pub HasSender : Option Link → Option Link → Type 0
HasSender None None = Unit {0}
HasSender (Some l) (Some l') = l'.sender ≡ l.sender
HasSender None (Some l) = ⊥
HasSender (Some l) None = ⊥

sender_same : (a : Option Link) → HasSender a a
sender_same None = tt
sender_same (Some l) = refl

sender_on : (a b c : Option Link) → HasSender a b → HasSender b c → HasSender a c
sender_on None None None h k = tt
sender_on (Some l) (Some l') (Some l'') h k = k ∙ h
sender_on None (Some l') c h k = absurd h
sender_on None None (Some l) h k = absurd k
sender_on (Some l) None c h k = absurd h
sender_on (Some l) (Some l') None h k = absurd k

-- all ends have the requesters that they had
abbrev pub HaveSenders : World → World → Type 0
HaveSenders w w' = (z : ObjName) → HasSender (at_end w z).link (at_end w' z).link

pub senders_same : (w w' : World) → lives w' ≡ lives w → HaveSenders w w'
senders_same w w' h z = subst (λ cs. HasSender (at_end w z).link (named (λ e. e.name) no_end z.name (context_in cs z.context).ends).link) (sym h) (sender_same (at_end w z).link)

pub senders_on : (a b c : World) → HaveSenders a b → HaveSenders b c → HaveSenders a c
senders_on a b c h k z = sender_on (at_end a z).link (at_end b z).link (at_end c z).link (h z) (k z)

pub sender_is : (w w' : World) (z : ObjName) (l l' : Link) → HaveSenders w w' → (at_end w z).link ≡ Some l → (at_end w' z).link ≡ Some l' → l'.sender ≡ l.sender
sender_is w w' z l l' h at at' = subst (λ b. HasSender (Some l) b) at' (subst (λ a. HasSender a (at_end w' z).link) at (h z))

-- where an end takes a packet
module _ (w : World) (m : Machine) (k : ℕ) (w' : World) (y : Lands w m k w') where
  abbrev q : ObjName
  q = name_of m y.packet.dest

  abbrev x : Context
  x = (takes y.context y.end y.link y.packet).context

  pub lives_again : x ≡ y.context → lives w' ≡ lives w
  lives_again same = y.lives ∙ (ap (λ z. store_named (λ c. c.name) q.context z (lives w)) (same ∙ sym y.there.context) ∙ stored_again (λ c. c.name) no_context q.context (lives w) y.there.live)

  -- the end that takes it
  pub lands_link : (at_end w q).link ≡ Some y.link
  lands_link = ap (λ c. (named (λ e. e.name) no_end q.name c.ends).link) y.there.context ∙ (ap (λ e. e.link) y.there.end ∙ y.there.linked)

  module _ (v : Moving) (is : x ≡ linked y.context y.end (with_moving y.link v)) where
    abbrev e' : End
    e' = with_link y.end (with_moving y.link v)

    e_name : y.end.name ≡ q.name
    e_name = name_is w q y.context y.end y.link y.there

    ends : x.ends ≡ store_named (λ z. z.name) q.name e' y.context.ends
    unfolding words.with_end with_link
    ends = ap (λ z. z.ends) is ∙ ap (λ n. store_named (λ z. z.name) n (with_link y.end (with_moving y.link v)) y.context.ends) e_name

    e'_name : e'.name ≡ q.name
    unfolding with_link
    e'_name = e_name

    pub moved_now : (at_end w' q).link ≡ Some (with_moving y.link v)
    unfolding with_link
    moved_now = ap (λ e. e.link) (end_now w w' q y.context y.there.context x y.lives y.called e' ends e'_name)

    moved_senders : HaveSenders w w'
    unfolding with_moving
    moved_senders z = elim (object_or_not z q) [
      | inr ne ↦ subst (λ e. HasSender (at_end w z).link e.link) (sym (end_else w w' q y.context y.there.context x y.lives y.called e' ends e'_name z ne)) (sender_same (at_end w z).link)
      | inl same ↦
          let now : (at_end w' z).link ≡ Some (with_moving y.link v) = ap (λ n. (at_end w' n).link) same ∙ moved_now in
          let old : (at_end w z).link ≡ Some y.link = ap (λ n. (at_end w n).link) same ∙ lands_link in
          subst (λ a. HasSender a (at_end w' z).link) (sym old) (subst (λ b. HasSender (Some y.link) b) (sym now) refl)
    ]

  -- .. and changes its move counts and its phase alone
  pub lands_senders : MovesAlone y.context y.end y.link x → HaveSenders w w'
  lands_senders (inl same) = senders_same w w' (lives_again same)
  lands_senders (inr (v, is)) = moved_senders v is

-- ---- in a world where nothing else is on its way

module _ (lightens : TakingLightens) (follows : (e : WorldEvent) → AlwaysFollows e) (n1 : ℕ) (w0 : World) where
  -- since datagram n1 only such messages were sent, what is pending was sent since, and all ends have the requesters that they had in w0
  pub record Words (w : World) : Type 0 where
    pub followed : Followed w
    pub senders : HaveSenders w0 w
    pub most : n1 ≤ length w.sent
    pub said : (j : ℕ) (f : Flight) → n1 ≤ j → slice_get w.sent j ≡ Some f → IsSaid f.bytes
    pub later : (j : ℕ) (f : Flight) → IsPending w.sent j f → n1 < j

  module _ (w : World) (k : ℕ) (above : n1 < k) (d : Words w) where
    abbrev w' : World
    w' = (world_step w (world_events.Deliver k)).world

    flown : IsDelivered w w' k
    flown = delivered w k

    the_same : (a b : Flight) → Some a ≡ Some b → a ≡ b
    the_same a b h = cc

    -- what stands there, new or old
    said_all : ((j : ℕ) (g : Flight) → length w.sent ≤ j → slice_get w'.sent j ≡ Some g → IsSaid g.bytes) → (j : ℕ) (g : Flight) → n1 ≤ j → slice_get w'.sent j ≡ Some g → IsSaid g.bytes
    said_all fresh j g past there = by_order (nat_le (length w.sent) j) refl
      where
        by_order : (b : Bool) → nat_le (length w.sent) j ≡ b → IsSaid g.bytes
        by_order true t = fresh j g (grind (arith, nat_tests, leb_tells (length w.sent) j, t)) there
        by_order false t =
            let within : j < length w.sent = grind (arith, nat_tests, leb_tells (length w.sent) j, t) in
            let old = get_within w.sent j within in
            let kept = bytes_kept w w' k flown j old.0 old.1 in
            let same : kept.0 ≡ g = the_same kept.0 g (sym kept.1 ∙ there) in
            subst IsSaid (sym kept.2 ∙ ap (λ z. z.bytes) same) (d.said j old.0 past old.1)

    words_on : HaveSenders w w' → ((j : ℕ) (g : Flight) → length w.sent ≤ j → slice_get w'.sent j ≡ Some g → IsSaid g.bytes) → Words w'
    words_on senders fresh = record {
      followed = step_followed lightens follows w (world_events.Deliver k) tt d.followed;
      senders = senders_on w0 w w' d.senders senders;
      most = omega (arith, d.most, grows w w' k flown);
      said = said_all fresh;
      later = λ j g q. elim (still_pending w w' k flown j g q) [
        | inl a ↦ d.later j g a.0
        | inr b ↦ omega (arith, d.most, b.0)
      ];
    }

    lands_words : Lands w d.followed.0 k w' → Words w'
    lands_words y =
        let word : TakesWord y.context y.end y.link (takes y.context y.end y.link y.packet) = takes_word y.context y.end y.link y.packet (d.said (k - 1) y.flight (omega (arith, above)) y.at y.packet y.read) in
        words_on (lands_senders w d.followed.0 k w' y word.context)
        (λ j g past there. let z = y.fresh j g past there in absurd (omega (arith, (subst (λ zs. Contains zs z.0) word.silent z.1).1)))

    deliver_words : Words w'
    deliver_words = elim (delivers_either lightens w d.followed.0 k d.followed.1) [
      | inl quiet ↦ words_on (senders_same w w' quiet.lives) (λ j g past there. stop_said g.bytes (quiet.fresh j g past there))
      | inr y ↦ lands_words y
    ]

  delivering_words : (ks : List ℕ) (s : Settling) → ((k : ℕ) → Contains ks k → n1 < k) → Words s.world → Words (delivering s ks).world
  unfolding delivering settle_step stepped_to
  delivering_words [] s all d = d
  delivering_words (k ∷ ks) s all d = delivering_words ks (settle_step s (world_events.Deliver k)) (λ i c. all i (contains_later i k ks c)) (deliver_words s.world k (all k (contains_here k ks)) d)

  pub pass_words : (s : Settling) → Words s.world → Words (pass s).world
  pass_words s d = delivering_words (pending_numbers s.world.sent) s (λ k c. let g = numbers_pend s.world.sent k c in d.later k g.0 g.1) d
