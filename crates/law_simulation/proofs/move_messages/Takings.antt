-- The machine follows a message of moving at an end that lives in Rts: it makes no step.
use Rattle.std.proofs.Common.{arith, ◌≡◌, ◌≤◌, ◌<◌, ◌^◌, ℕ, List, [], ◌∷◌, map, true, false, Bool, refl, sym, ap, ◌∙◌, subst}
use Rattle.std.specs.Prelude.{Option, Some, None, not, ◌&&◌, ◌==◌, nat_lt, nat_le, if◌then◌else◌}
use Rattle.std.proofs.lemmas.Bool.Decides.{nat_tests, leb_tells, eqb_tells}
use Rattle.std.proofs.lemmas.List.{append-nil}
use Rattle.std.proofs.lemmas.List.Elements.{All-nil, All-cons}
use Rattle.rdma_types.specs.declared.names.ObjName.{ObjName}
use Rattle.rdma_types.specs.declared.answers.Answer.TheVariants as answers
use Rattle.rdma_types.specs.declared.answers.Sent.{Sent}
use Rattle.rdma_types.specs.declared.answers.DropReason.TheVariants as why
use Rattle.rdma_types.specs.declared.answers.ArrivalEffect.TheVariants as took
use Rattle.rdma_types.specs.declared.requests.Address.{Address}
use Rattle.rdma_types.specs.Limits.{most_moves}
use Rattle.protocol.specs.declared.wire.ResumeBody.{ResumeBody}
use Rattle.protocol.specs.DeviceStep as device
use Rattle.protocol.specs.DeviceStep.{ended_step}
use Rattle.protocol.specs.EndStep.{takes}
use Rattle.protocol.specs.EndWords as words
use Rattle.protocol.specs.EndWords.{is_paused, is_resuming, to_partner}
use Rattle.protocol.specs.Fabric.{flight_of, sending}
use Rattle.protocol.specs.Moves.{Control, Stopped, Resume, ResumeAck, GoesPaused, Resumed, Again, GoesRunning, Stale, control_of, move_row, moves_by, takes_control, resume_packet}
use Rattle.protocol.specs.State as state
use Rattle.protocol.specs.State.{World, Link, Phase, Running, Paused, Resuming}
use Rattle.protocol.specs.Wire.{Packet, FitsResume}
use Rattle.protocol.specs.WorldStep.{is_live, home, with_device, ran}
use Rattle.packetless_machine.specs.Machine as machine
use Rattle.packetless_machine.specs.Machine.{Machine, End, has_end}
use Rattle.protocol.proofs.PacketGrammar.{read_spelled}
use Rattle.law_simulation.specs.Packets.{Class, class_of, IsStopped, IsResume, IsResumeAck}
use Rattle.law_simulation.specs.Views.{Net, Side, is_connected, net_of, peer, side_of}
use Rattle.law_simulation.specs.Joined.{IsHeardOf}
use Rattle.law_simulation.specs.Facts.{Fact, MoveFact, NumberedFact, ClassFact}
use Rattle.law_simulation.specs.Carries.{CarriesNumbered}
use Rattle.law_simulation.specs.Stands.{Stands, AreSent}
use Rattle.law_simulation.proofs.relation.Connecting.{side_with}
use Rattle.law_simulation.proofs.relation.EventNetwork.{sent_changed}
use Rattle.law_simulation.proofs.relation.Grown.{are_made}
use Rattle.law_simulation.proofs.relation.Linked.{linked_of}
use Rattle.law_simulation.specs.Named.{numbered_steps}
use Rattle.law_simulation.specs.Delivered.{Arrives, Takes, context_there, end_there, taken_for}
use Rattle.law_simulation.proofs.delivery.Arriving.{unchanged_stands}
use Rattle.law_simulation.proofs.delivery.Lifted.{answer_fact, sent_world, both_sent, answers_sent, unchanged_sent}
use Rattle.law_simulation.proofs.move_messages.Wires.{reads_back, ack_fits, ack_class, control_stopped, resume_parts, control_resuming, no_aeth, resume_small}
use Rattle.law_simulation.proofs.move_messages.HuskAnswers.{number_bits}
use Rattle.law_simulation.proofs.move_messages.EndMoves.{side_before, side_after, connected, end_moved}
use Rattle.law_simulation.proofs.move_messages.Heard.{paused_heard, paused_hears, paused_moves, recording_link, recording_heard, recording_hears, recording_moves, running_heard, running_hears, running_moves}

-- ---- what such a datagram says

-- it has no true number
move_only : (p x : Side) (e g : End) (number : Option ℕ) (d : Packet) (c : Class) → class_of d ≡ c → ((k : ℕ) → NumberedFact p x e g k d c → ⊥) → ClassFact p x e g number d → (number ≡ None) × MoveFact x c
move_only p x e g None d c h never f = (refl, subst (MoveFact x) h f)
move_only p x e g (Some k) d c h never f = absurd (never k (subst (NumberedFact p x e g k d) h f))

-- no step is made
no_steps : (w : World) (m : Machine) (o : ObjName) (l : Link) (number : Option ℕ) (d : Packet) → number ≡ None → Stands (ran w (ended_step (home w o.context) (takes (context_there w o) (end_there w o) l d))).world m → Takes w m o l number d
no_steps w m o l number d none stands = record {
  steps = [];
  inner = tt;
  is_run = tt;
  allowed = subst (λ z. CarriesNumbered w m o z d.payload (class_of d) []) (sym none) refl;
  named = subst (λ z. [] ≡ numbered_steps w m o z d.payload (class_of d) (taken_for w o l d)) (sym none) refl;
  stands = stands;
}

takes_is : (c : state.Context) (e : state.End) (l : Link) (d : Packet) (control : Control) → l.ended ≡ false → control_of d ≡ Some control → takes c e l d ≡ moves_by c e l control (move_row l.moving control)
unfolding takes takes_control
takes_is c e l d control alive is = rw (alive, is) refl

-- ---- the end that takes it, and its peer

module _ (w : World) (m : Machine) (o : ObjName) (l : Link) (s : Stands w m) (live : is_live w o.context ≡ true) (there : has_end m o ≡ true) (linked : (end_there w o).link ≡ Some l) where
  abbrev n : Net
  n = net_of w m

  abbrev at : Address
  at = (home w o.context).address

  abbrev c : state.Context
  c = context_there w o

  abbrev e : state.End
  e = end_there w o

  abbrev y : Side
  y = side_of w (peer n o)

  abbrev After : words.EndStep → Type 0
  After step = Stands (ran w (ended_step (home w o.context) step)).world m

  is_here : is_connected w o ≡ true
  is_here = connected w m o l l.moving l.sender.next l.sender.rnr_wait answers.Done s live there linked

  side_is : side_of w o ≡ side_with l at
  side_is = side_before w m o l l.moving l.sender.next l.sender.rnr_wait answers.Done s live there linked

  heard : IsHeardOf (side_with l at) y
  heard = subst (λ z. IsHeardOf z y) side_is (s.joined o is_here).heard_of

  hears : IsHeardOf y (side_with l at)
  hears = subst (IsHeardOf y) (ap (side_of w) (s.joined o is_here).back ∙ side_is) (s.joined (peer n o) (s.joined o is_here).connected).heard_of

  stale : After (words.silent c why.Stale)
  stale = unchanged_stands w m o.context (took.Silent why.Stale) s live

  -- ---- NAK_STOPPED

  stops_by : (count : ℕ) → MoveFact y (IsStopped count) → (a b : Bool) → (count == l.moving.recorded) ≡ a → After (moves_by c e l (Stopped count) (if a && not b then GoesPaused else Stale))
  unfolding moves_by words.with_moving
  stops_by count fact true false t =
      let same : count ≡ l.moving.recorded = grind (arith, nat_tests, eqb_tells count l.moving.recorded, t) in
      end_moved w m o l (record l.moving { phase = Paused }) l.sender.next l.sender.rnr_wait (answers.Took took.Paused 0 0) s live there linked (paused_moves l at) (paused_heard l at y count fact same heard hears) (paused_hears l at y count fact same heard hears)
  stops_by count fact true true t = stale
  stops_by count fact false b t = stale

  -- ---- RESUME_ACK is sent

  abbrev ack : Link → ResumeBody → Sent
  ack k body = to_partner k None (resume_packet 0x1F k.peer body)

  ack_fact : (v : World) (k : Link) (body : ResumeBody) (from : Address) → Stands v m → side_of v o ≡ side_with k at → FitsResume body → body.count ≤ k.moving.recorded → Fact (net_of v m) (flight_of from (ack k body))
  ack_fact v k body from stands side fits few =
      let here : is_connected v o ≡ true = ap (λ (z : Side). z.connected) side in
      let j = stands.joined o here in
      let number : (machine.end_of m (machine.end_of m o).peer).number ≡ k.peer = sym j.number ∙ ap (λ (z : Side). z.link.peer) side in
      let bits : k.peer < 2 ^ 24 = omega (arith, number, number_bits v m (machine.end_of m o).peer stands (are_made v m stands (machine.end_of m o).peer j.connected)) in
      answer_fact v m o from (ack k body) stands here (record {
        packet = resume_packet 0x1F k.peer body;
        read = reads_back (resume_packet 0x1F k.peer body) (ack_fits k.peer body bits fits);
        fact = record {
          spelled = refl;
          connected = j.connected;
          dest = number;
          fact = subst (MoveFact (side_of v o)) (sym (ack_class k.peer body)) (omega (arith, few, ap (λ (z : Side). z.link.moving.recorded) side));
        };
      })

  -- ---- RESUME

  abbrev w1 : ResumeBody → World
  w1 body = (ran w (device.answers (device.with_context (home w o.context) (linked_of w o (recording_link l body))) (answers.Took took.Resumed 0 1))).world

  sent_is : (body : ResumeBody) → (w1 body).sent ≡ w.sent
  unfolding ran with_device sending
  sent_is body = append-nil w.sent

  resumes : (body : ResumeBody) → MoveFact y (IsResume body) → FitsResume body → l.moving.recorded < body.count → After (moves_by c e l (Resume body) Resumed)
  unfolding moves_by sending
  resumes body fact fits more =
      let moved : Stands (w1 body) m =
      end_moved w m o l (recording_link l body).moving l.sender.una false (answers.Took took.Resumed 0 1) s live there linked
      (recording_moves l at y body fact more heard hears) (recording_heard l at y body fact more heard hears) (recording_hears l at y body fact more heard hears) in
      let after : side_of (w1 body) o ≡ side_with (recording_link l body) at = side_after w m o l (recording_link l body).moving l.sender.una false (answers.Took took.Resumed 0 1) s live there linked in
      let d : state.Device = device.with_context (home w o.context) (linked_of w o (recording_link l body)) in
      let sent : List Sent = ack (recording_link l body) body ∷ [] in
      subst (λ z. Stands z m) (sym (sent_world w d (answers.Took took.Resumed 0 1) sent))
      (sent_changed (w1 body) m (sending w.sent d.address sent) moved
      (both_sent (net_of (w1 body) m) w.sent (map (flight_of d.address) sent) (subst (AreSent (net_of (w1 body) m)) (sent_is body) moved.sent)
      (answers_sent (net_of (w1 body) m) d.address sent (All-cons (λ z. Fact (net_of (w1 body) m) (flight_of d.address z)) (ack (recording_link l body) body) [] (ack_fact (w1 body) (recording_link l body) body d.address moved after fits (omega arith)) (All-nil _)))))

  again : (body : ResumeBody) → FitsResume body → body.count ≡ l.moving.recorded → After (moves_by c e l (Resume body) Again)
  unfolding moves_by
  again body fits same =
      unchanged_sent w m o took.ResumeAck (ack l body ∷ []) s live (All-cons (λ z. Fact n (flight_of at z)) (ack l body) [] (ack_fact w l body at s side_is fits (omega (arith, same))) (All-nil _))

  resumes_by : (body : ResumeBody) → MoveFact y (IsResume body) → FitsResume body → (a b k q : Bool) → nat_lt l.moving.recorded body.count ≡ a → (body.count == l.moving.recorded) ≡ k → After (moves_by c e l (Resume body) (if a && b then Resumed else if k && not q then Again else Stale))
  unfolding moves_by
  resumes_by body fact fits true true k q lt same = resumes body fact fits (grind (arith, nat_tests, leb_tells (body.count) (l.moving.recorded), lt))
  resumes_by body fact fits true false true false lt same = again body fits (grind (arith, nat_tests, eqb_tells body.count l.moving.recorded, same))
  resumes_by body fact fits true false true true lt same = stale
  resumes_by body fact fits true false false q lt same = stale
  resumes_by body fact fits false b true false lt same = again body fits (grind (arith, nat_tests, eqb_tells body.count l.moving.recorded, same))
  resumes_by body fact fits false b true true lt same = stale
  resumes_by body fact fits false b false q lt same = stale

  -- ---- RESUME_ACK

  runs_by : (body : ResumeBody) → MoveFact y (IsResumeAck body) → (a b : Bool) → (body.count == l.moving.own) ≡ a → After (moves_by c e l (ResumeAck body.count) (if a && b then GoesRunning else Stale))
  unfolding moves_by words.with_moving
  runs_by body fact true true t =
      let same : body.count ≡ l.moving.own = grind (arith, nat_tests, eqb_tells body.count l.moving.own, t) in
      end_moved w m o l (record l.moving { phase = Running }) l.sender.next l.sender.rnr_wait (answers.Took took.Running 0 0) s live there linked (running_moves l at) (running_heard l at y body fact same heard hears) (running_hears l at y body fact same heard hears)
  runs_by body fact true false t = stale
  runs_by body fact false b t = stale

-- ---- the three kinds

module _ (w : World) (m : Machine) (o : ObjName) (l : Link) (number : Option ℕ) (bytes : List ℕ) (d : Packet) (v : Arrives w m o l number bytes d) where
  abbrev StandsAfter : Control → Type 0
  StandsAfter control = Stands (ran w (ended_step (home w o.context) (moves_by (context_there w o) (end_there w o) l control (move_row l.moving control)))).world m

  taken : (control : Control) → number ≡ None → control_of d ≡ Some control → StandsAfter control → Takes w m o l number d
  taken control none is stands = no_steps w m o l number d none (subst (λ z. Stands (ran w (ended_step (home w o.context) z)).world m) (sym (takes_is (context_there w o) (end_there w o) l d control v.alive is)) stands)

  pub stopped_taken : (count : ℕ) → class_of d ≡ IsStopped count → Takes w m o l number d
  unfolding move_row
  stopped_taken count h =
      let f = move_only ((net_of w m).side o) ((net_of w m).side (peer (net_of w m) o)) ((net_of w m).end o) ((net_of w m).end (peer (net_of w m) o)) number d (IsStopped count) h (λ k z. z) v.fact.fact in
      taken (Stopped count) f.0 (control_stopped d count h) (stops_by w m o l v.stands v.live v.there v.linked count f.1 (count == l.moving.recorded) (is_paused l.moving.phase) refl)

  pub resume_taken : (body : ResumeBody) → class_of d ≡ IsResume body → Takes w m o l number d
  unfolding move_row
  resume_taken body h =
      let f = move_only ((net_of w m).side o) ((net_of w m).side (peer (net_of w m) o)) ((net_of w m).end o) ((net_of w m).end (peer (net_of w m) o)) number d (IsResume body) h (λ k z. z) v.fact.fact in
      let parts = resume_parts true d body h in
      let spelled = read_spelled d bytes v.read in
      taken (Resume body) f.0 (control_resuming true d body (no_aeth d bytes body v.fact.spelled spelled parts.0) parts.0 parts.1)
      (resumes_by w m o l v.stands v.live v.there v.linked body f.1 (resume_small d bytes body v.fact.spelled spelled parts.0) (nat_lt l.moving.recorded body.count) (nat_le body.count most_moves) (body.count == l.moving.recorded) (is_paused l.moving.phase) refl refl)

  pub ack_taken : (body : ResumeBody) → class_of d ≡ IsResumeAck body → Takes w m o l number d
  unfolding move_row
  ack_taken body h =
      let f = move_only ((net_of w m).side o) ((net_of w m).side (peer (net_of w m) o)) ((net_of w m).end o) ((net_of w m).end (peer (net_of w m) o)) number d (IsResumeAck body) h (λ k z. z) v.fact.fact in
      let parts = resume_parts false d body h in
      let spelled = read_spelled d bytes v.read in
      taken (ResumeAck body.count) f.0 (control_resuming false d body (no_aeth d bytes body v.fact.spelled spelled parts.0) parts.0 parts.1)
      (runs_by w m o l v.stands v.live v.there v.linked body f.1 (body.count == l.moving.own) (is_resuming l.moving.phase) refl)
