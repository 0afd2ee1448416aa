-- The machine follows a transmission: it makes no step, and what is sent is a packet of its end.
use Rattle.std.proofs.Common.{arith, ◌≡◌, ◌≤◌, ◌<◌, ◌+◌, ◌^◌, ℕ, [], ◌∷◌, ◌++◌, length, get_or, true, false, refl, sym, ap, ◌∙◌, subst}
use Rattle.std.specs.Prelude.{Some, None, is_some}
use Rattle.std.proofs.lemmas.List.{append-nil}
use Rattle.rdma_types.specs.declared.names.ObjName.{ObjName}
use Rattle.rdma_types.specs.declared.answers.Answer.TheVariants as answers
use Rattle.rdma_types.specs.Kinds.{size_of}
use Rattle.rdma_types.specs.Limits.{is_mtu, most_bytes}
use Rattle.rdma_types.specs.Objects.{no_posted}
use Rattle.rdma_types.specs.Spans.{Piece, end_number}
use Rattle.protocol.specs.declared.events.Event.TheVariants as events
use Rattle.protocol.specs.declared.events.WorldEvent.TheVariants as world_events
use Rattle.protocol.specs.declared.wire.ResumeBody.{ResumeBody}
use Rattle.protocol.specs.Fabric.{sending}
use Rattle.protocol.specs.Moves.{resume_of}
use Rattle.protocol.specs.Numbers.{wire_number}
use Rattle.protocol.specs.Segments.{packet_of_piece}
use Rattle.protocol.specs.State.{World, Device, Link, Sender, Flight}
use Rattle.protocol.specs.Wire.{Packet, wire_of}
use Rattle.protocol.specs.EndWords as words
use Rattle.protocol.specs.EndWords.{to_partner}
use Rattle.protocol.specs.Refusals as refusing
use Rattle.protocol.specs.Requester.{Transmission, SendsResume, Waits, IsIdle, WindowIsFull, ReadsAreFull, IsFenced, Sends, transmission, transmitted, going_to, past}
use Rattle.protocol.specs.DeviceStep as device
use Rattle.protocol.specs.WorldStep as step
use Rattle.protocol.specs.WorldStep.{is_live, home, ran, with_device}
use Rattle.packetless_machine.specs.Machine as machine
use Rattle.packetless_machine.specs.Machine.{Machine, End, has_context, has_end}
use Rattle.packetless_machine.specs.Numbers.{due}
use Rattle.law_simulation.specs.Facts.{Fact, IsRequestOf, MoveFact, NumberedFact}
use Rattle.law_simulation.specs.Joined.{IsSayable}
use Rattle.law_simulation.specs.Kept as kept
use Rattle.law_simulation.specs.Law.{Reaches, Follows}
use Rattle.law_simulation.specs.Stands.{Stands, AreSent}
use Rattle.law_simulation.specs.Views.{end_of, link_or_none, net_of, requests_of, side_of}
use Rattle.law_simulation.proofs.relation.Connecting.{live_place}
use Rattle.law_simulation.proofs.relation.EventNetwork.{sent_changed}
use Rattle.law_simulation.proofs.relation.Linked.{end_there_of, linked_of}
use Rattle.law_simulation.proofs.relation.Live.{live_of}
use Rattle.law_simulation.proofs.relation.PostedNet.{requests_sound}
use Rattle.law_simulation.proofs.relation.Verbs.{ran_same, unheard_reached}
use Rattle.law_simulation.proofs.sending.GoUnheard.{unheard_follows, same_reached}
use Rattle.law_simulation.proofs.sending.GoEnd.{Goes_on}
use Rattle.law_simulation.proofs.sending.GoStands.{link_after}
use Rattle.law_simulation.proofs.sending.GoTables.{end_kept}
use Rattle.law_simulation.proofs.sending.GoLive.{LiveEnd, alone, alone_stands, home_steps, link_is, connected, sound_here, ended_here, untold_here, sends_here, ordered_here, fenced_here, joined_here, mtu_is}
use Rattle.law_simulation.proofs.sending.GoNumbers.{end_near, mtu_small}
use Rattle.law_simulation.proofs.sending.GoFound.{found_linked}
use Rattle.law_simulation.proofs.sending.GoSent.{sent_push, own_fact, peer_said, home_address}
use Rattle.law_simulation.proofs.sending.GoTransmit.{IsSending, sends_is, ordered_after, fenced_after, request_after, piece_posted}
use Rattle.law_simulation.proofs.sending.GoWritten.{reads_back, fits_piece, class_piece, dest_piece, wire_number_bits, fits_resume, class_resume}

module _ (w : World) (m : Machine) (o : ObjName) (s : Stands w m) (l : Link) (h : LiveEnd w m o l) where
  abbrev f : End
  f = machine.end_of m o

  abbrev d : Device
  d = home w o.context

  -- ---- RESUME

  abbrev body : ResumeBody
  body = record { count = l.moving.own; address = d.address }

  resume_fact : Fact (net_of w m) (record { from = d.address; to = l.moving.partner; number = None; bytes = wire_of (resume_of l d.address); lost = false; taken = false })
  resume_fact =
      let own : (side_of w o).link.moving.own ≡ l.moving.own = ap (λ z. z.moving.own) (link_is w m o l s h) in
      let peer : l.peer ≡ (side_of w o).link.peer = ap (λ z. z.peer) (sym (link_is w m o l s h)) in
      let said = home_address (λ a. (a.ip < 2 ^ 32) × (a.port < 2 ^ 16)) w o.context h.live s.placed.addresses_said in
      own_fact w m o s (connected w m o l s h) d.address l.moving.partner None (resume_of l d.address) peer
      (reads_back (resume_of l d.address) (fits_resume l.peer body (subst (λ k. k < 2 ^ 24) (sym peer) (peer_said w m o s (connected w m o l s h))) (omega (arith, own, (joined_here w m o l s h).heard_of.limit)) said.0 said.1))
      (subst (MoveFact (side_of w o)) (sym (class_resume l.peer body)) (
        omega (arith, own),
        λ a r place same. cc (place, live_place w o.context h.live),
      ))

  resume_stands : Stands (ran w (device.gives d (answers.Sent 0) (to_partner l None (resume_of l d.address) ∷ []))).world m
  unfolding ran with_device sending
  resume_stands =
      let flight : Flight = record { from = d.address; to = l.moving.partner; number = None; bytes = wire_of (resume_of l d.address); lost = false; taken = false } in
      subst (λ z. Stands (record z { sent = w.sent ++ flight ∷ [] }) m) (sym (ran_same w m o.context (answers.Sent 0) s.placed h.live))
      (sent_changed w m (w.sent ++ flight ∷ []) s (sent_push (net_of w m) w.sent flight s.sent resume_fact))

  -- ---- a piece

  module _ (x : Piece) (is : IsSending l x) where
    abbrev q : End
    q = requests_of f

    abbrev s' : Sender
    s' = going_to l.sender (past l.terms l.sender.next x)

    ended : f.ended ≡ false
    ended = ended_here w m o l s h ∙ is.alive

    mtu : is_mtu f.mtu ≡ true
    mtu = subst (λ k. is_mtu k ≡ true) (joined_here w m o l s h).mtu (joined_here w m o l s h).terms.mtu

    reach : end_number f.posted f.mtu ≤ due q + 2 ^ 20
    reach = end_near q (requests_sound f (sound_here w m o l s h).sound) mtu ended (sound_here w m o l s h).depth

    goes : Goes_on s' q
    goes =
        let t = sends_here w m o l s h is.alive in
        record {
          sends = record { first = t.first; una = t.una; spent = t.spent; few = t.few; waits = t.waits };
          ordered = ordered_after l q x (requests_sound f (sound_here w m o l s h).sound) mtu (mtu_is w m o l s h) (untold_here w m o l s h) (joined_here w m o l s h).in_pieces.telling t (ordered_here w m o l s h) (fenced_here w m o l s h is.alive) reach is;
          fenced = fenced_after l q x (requests_sound f (sound_here w m o l s h).sound) mtu (mtu_is w m o l s h) (untold_here w m o l s h) (joined_here w m o l s h).in_pieces.telling t (ordered_here w m o l s h) (fenced_here w m o l s h is.alive) reach is;
          telling = (joined_here w m o l s h).in_pieces.telling;
        }

    abbrev sent_world : World
    sent_world = (ran w (device.answers (device.with_context d (linked_of w o (words.with_sender l s'))) (answers.Sent 0))).world

    kept_end : machine.with_end m o f ≡ m
    unfolding has_end
    kept_end = end_kept m o h.there h.found

    sent_stands : Stands sent_world m
    sent_stands = subst (Stands sent_world) kept_end (alone_stands w m o l s h s' f.told f.known f.spent f.waits (answers.Sent 0) is.alive (omega arith) (omega arith) (untold_here w m o l s h) (sound_here w m o l s h) goes)

    link_then : (end_of sent_world o).link ≡ Some (words.with_sender l s')
    link_then = link_after w sent_world m (machine.with_end m o f) o _ _ _ f (words.with_sender l s') (home_steps w m o l s h (machine.with_end m o f) _ _ _ f (words.with_sender l s') (answers.Sent 0) (alone w m o l s h s' f.told f.known f.spent f.waits (untold_here w m o l s h) (sound_here w m o l s h)))

    abbrev packet : Packet
    packet = packet_of_piece x.posted l.terms.mtu x.k l.peer (wire_number l.terms.own_start l.sender.next)

    abbrev flight : Flight
    flight = record { from = d.address; to = l.moving.partner; number = Some l.sender.next; bytes = wire_of packet; lost = false; taken = false }

    request_fact : IsRequestOf (words.with_sender l s') q l.sender.next packet
    unfolding words.with_sender
    request_fact = request_after l q x (requests_sound f (sound_here w m o l s h).sound) mtu (mtu_is w m o l s h) (untold_here w m o l s h) (joined_here w m o l s h).in_pieces.telling (sends_here w m o l s h is.alive) (ordered_here w m o l s h) (fenced_here w m o l s h is.alive) reach is

    posted_there : (i : ℕ) × (i < length f.posted) × (get_or f.posted i no_posted ≡ x.posted)
    posted_there = piece_posted l q x (requests_sound f (sound_here w m o l s h).sound) mtu (mtu_is w m o l s h) (untold_here w m o l s h) (joined_here w m o l s h).in_pieces.telling (sends_here w m o l s h is.alive) (ordered_here w m o l s h) (fenced_here w m o l s h is.alive) reach is

    said : IsSayable x.posted
    said = subst IsSayable posted_there.2 ((joined_here w m o l s h).in_pieces.sayable posted_there.0 no_posted posted_there.1)

    short : size_of x.posted ≤ most_bytes
    short = subst (λ r. size_of r ≤ most_bytes) posted_there.2 ((sound_here w m o l s h).sound.sizes posted_there.0 posted_there.1)

    sent_fact : Fact (net_of sent_world m) flight
    unfolding link_or_none words.with_sender
    sent_fact =
        let link : (side_of sent_world o).link ≡ words.with_sender l s' = ap link_or_none link_then in
        let there : (side_of sent_world o).connected ≡ true = ap is_some link_then in
        let peer : l.peer ≡ (side_of sent_world o).link.peer = ap (λ z. z.peer) (sym link) in
        own_fact sent_world m o sent_stands there d.address l.moving.partner (Some l.sender.next) packet (dest_piece x.posted l.terms.mtu x.k l.peer (wire_number l.terms.own_start l.sender.next) ∙ peer)
        (reads_back packet (fits_piece x.posted l.terms.mtu x.k l.peer (wire_number l.terms.own_start l.sender.next) said short (omega (arith, mtu_is w m o l s h, mtu_small f.mtu mtu)) (subst (λ k. k < 2 ^ 24) (sym peer) (peer_said sent_world m o sent_stands there)) (wire_number_bits l.terms.own_start l.sender.next)))
        (subst (NumberedFact (side_of sent_world f.peer) (side_of sent_world o) (requests_of (machine.end_of m f.peer)) q l.sender.next packet) (sym (class_piece x.posted l.terms.mtu x.k l.peer (wire_number l.terms.own_start l.sender.next)))
        (subst (λ z. IsRequestOf z q l.sender.next packet) (sym link) request_fact))

    before_sent : AreSent (net_of sent_world m) w.sent
    unfolding ran sending with_device
    before_sent = subst (AreSent (net_of sent_world m)) (append-nil w.sent) sent_stands.sent

    piece_stands : Stands (ran w (device.sends_piece d (live_of w o.context) (end_there_of w o) l x)).world m
    unfolding ran with_device sending device.sends_piece device.with_context transmitted
    piece_stands = sent_changed sent_world m (w.sent ++ flight ∷ []) sent_stands (sent_push (net_of sent_world m) w.sent flight before_sent sent_fact)

  -- ---- the table

  abbrev next : Transmission → device.Step
  next t = device.sends_by d (live_of w o.context) (end_there_of w o) l t

  by_row : (t : Transmission) → transmission l ≡ t → Reaches w m (world_events.At (events.Transmit o)) (ran w (next t)).world (ran w (next t)).answer
  unfolding ran step.numbered kept.verb_in kept.verb_of kept.kept_verb
  by_row SendsResume t = unheard_reached w m (world_events.At (events.Transmit o)) (ran w (next SendsResume)).world (ran w (next SendsResume)).answer refl refl resume_stands
  by_row Waits t = same_reached w m (events.Transmit o) answers.Waiting s h.live refl refl refl
  by_row IsIdle t = same_reached w m (events.Transmit o) answers.Idle s h.live refl refl refl
  by_row WindowIsFull t = same_reached w m (events.Transmit o) answers.WindowFull s h.live refl refl refl
  by_row ReadsAreFull t = same_reached w m (events.Transmit o) answers.ReadsFull s h.live refl refl refl
  by_row IsFenced t = same_reached w m (events.Transmit o) answers.Fenced s h.live refl refl refl
  by_row (Sends x) t = unheard_reached w m (world_events.At (events.Transmit o)) (ran w (next (Sends x))).world (ran w (next (Sends x))).answer refl refl (piece_stands x (sends_is l x t))

module _ (w : World) (m : Machine) (o : ObjName) (s : Stands w m) where
  does : (found : (l : Link) × LiveEnd w m o l) → Reaches w m (world_events.At (events.Transmit o)) (ran w (device.transmits (home w o.context) (live_of w o.context) (end_there_of w o))).world (ran w (device.transmits (home w o.context) (live_of w o.context) (end_there_of w o))).answer
  unfolding device.transmits
  does found =
      let l : Link = found.0 in
      subst (λ z. Reaches w m (world_events.At (events.Transmit o)) (ran w (device.at_link (home w o.context) z (λ l. device.sends_by (home w o.context) (live_of w o.context) (end_there_of w o) l (transmission l)))).world (ran w (device.at_link (home w o.context) z (λ l. device.sends_by (home w o.context) (live_of w o.context) (end_there_of w o) l (transmission l)))).answer) (sym found.1.linked)
      (by_row w m o s l found.1 (transmission l) refl)

  pub transmit_follows : Follows w m (world_events.At (events.Transmit o))
  unfolding kept.verb_in refusing.refusal_of
  transmit_follows = unheard_follows w m (events.Transmit o) s (record {
    silent = refl;
    refused = λ r. refl;
    does = λ live there h. does (found_linked w m o s live there h);
  })
