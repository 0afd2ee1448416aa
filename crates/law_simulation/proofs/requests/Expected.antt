-- The expected request: it is the machine's current one, and which piece of it.
use Rattle.std.proofs.Common.{arith, ◌≡◌, ◌<◌, ◌≤◌, ◌/◌, ℕ, List, [], ◌∷◌, length, true, false, Bool, refl, sym, ap, ◌∙◌, subst}
use Rattle.std.specs.Prelude.{Option, if◌then◌else◌, not, nat_lt, ◌&&◌}
use Rattle.rdma_types.specs.declared.names.ObjName.{ObjName}
use Rattle.rdma_types.specs.Kinds as kinds
use Rattle.rdma_types.specs.declared.requests.Kind.TheVariants as kinds'
use Rattle.rdma_types.specs.Kinds.{kind_of, lands, size_of}
use Rattle.rdma_types.specs.Limits.{is_mtu}
use Rattle.rdma_types.specs.Objects.{Posted}
use Rattle.rdma_types.specs.Spans.{piece_of, request_of, span_of}
use Rattle.protocol.specs.State as state
use Rattle.protocol.specs.State.{World, Link}
use Rattle.protocol.specs.Numbers.{wire_number}
use Rattle.protocol.specs.Segments.{packet_of_piece}
use Rattle.protocol.specs.Wire.{Packet}
use Rattle.protocol.specs.EndStep.{takes}
use Rattle.protocol.specs.EndWords.{is_paused}
use Rattle.protocol.specs.Responder.{expected_packet, repeated, ahead}
use Rattle.packetless_machine.specs.Machine as machine
use Rattle.packetless_machine.specs.Machine.{Machine, End, has_end}
use Rattle.packetless_machine.specs.Numbers.{due}
use Rattle.packetless_machine.specs.Sound.{IsSound}
use Rattle.packetless_machine.specs.declared.steps.MachineStep.TheVariants as steps
use Rattle.packetless_machine.specs.Steps.{may_run, current, has_current, has_peer, has_turn, lands_before}
use Rattle.law_simulation.specs.Packets.{class_of, IsRequest}
use Rattle.law_simulation.specs.Carries.{request_steps, due_steps}
use Rattle.law_simulation.specs.Views.{owned, owned_there, link_of, link_or_none, requests_of}
use Rattle.law_simulation.specs.Joined.{lands_untold_before}
use Rattle.law_simulation.specs.Facts.{past_packet}
use Rattle.law_simulation.proofs.relation.Grown.{are_made}
use Rattle.law_simulation.proofs.relation.InUse.{owned_of}
use Rattle.law_simulation.specs.Delivered as delivered
use Rattle.law_simulation.specs.Delivered.{Arrives}
use Rattle.law_simulation.proofs.requests.Requests.{IsRequestAt, asker, request_at_end}
use Rattle.law_simulation.proofs.requests.Early.{is_less, step_is, carries_is, acts_now, not_less, same_due, request_is, piece_number}
use Rattle.law_simulation.proofs.requests.Counting.{q_sound, q_there, owned_here}
use Rattle.law_simulation.proofs.requests.Due.{acts_inside, due_request, due_piece, within_span, span_message, span_atomic, mtu_is}

-- its current piece is one of its pieces
pub current_within : (q : End) → is_mtu q.mtu ≡ true → IsSound q → q.into / q.mtu < span_of (current q) q.mtu
current_within q is s = by_kind (kinds.is_atomic (kind_of (current q))) refl
  where
    atomic_lands : (k : _) → kinds.is_atomic k ≡ true → lands k ≡ true
    atomic_lands kinds'.CompareSwap h = refl
    atomic_lands kinds'.FetchAdd h = refl
    atomic_lands kinds'.Read h = refl
    atomic_lands kinds'.Write h = absurd (cc)
    atomic_lands kinds'.Send h = absurd (cc)

    by_kind : (b : Bool) → kinds.is_atomic (kind_of (current q)) ≡ b → q.into / q.mtu < span_of (current q) q.mtu
    by_kind false t = omega (arith, within_span (size_of (current q)) q.into q.mtu is s.unfinished, span_message (current q) q.mtu t)
    by_kind true t =
        let none : q.into ≡ 0 = s.whole_turns (atomic_lands (kind_of (current q)) t) in
        let zero_of : 0 / q.mtu ≡ 0 = mtu_is (λ k. 0 / k ≡ 0) (omega arith) (omega arith) (omega arith) (omega arith) (omega arith) q.mtu is in
        omega (arith, span_atomic (current q) q.mtu t, zero_of, ap (λ k. k / q.mtu) none)

-- where a Run is enabled, it is the step
pub run_steps : (m : Machine) (q : ObjName) (n : ℕ) → may_run m q n ≡ true → due_steps m q n ≡ steps.Run q n ∷ []
unfolding due_steps
run_steps m q n h = rw h refl

module _ (w : World) (m : Machine) (o : ObjName) (l : Link) (number : Option ℕ) (bytes : List ℕ) (d : Packet) (a : Arrives w m o l number bytes d) (is : class_of d ≡ IsRequest) (paused : is_paused l.moving.phase ≡ false) (now : (request_at_end w m o l number bytes d a is).0 ≡ l.receiver.expected) where
  abbrev n : ℕ
  n = (request_at_end w m o l number bytes d a is).0

  abbrev pub at : IsRequestAt w m o l n d
  at = (request_at_end w m o l number bytes d a is).2

  abbrev q : ObjName
  q = asker m o

  -- the machine's end that asks, and its current request
  abbrev g : End
  g = machine.end_of m q

  abbrev r : Posted
  r = current g

  abbrev psn : ℕ
  psn = wire_number (link_of w q).terms.own_start n

  pub due_now : n ≡ due g
  due_now = now ∙ (at.receives.expected ∙ same_due g)

  pub mtu_now : is_mtu g.mtu ≡ true
  mtu_now = subst (λ k. is_mtu k ≡ true) at.back.mtu at.back.terms.mtu

  pub g_sound : IsSound g
  g_sound = (q_sound w m o l n d a.stands a.live a.linked at).sound

  pub inside : g.acted < length g.posted
  inside = acts_inside g (subst (λ k. request_of g.posted g.mtu k < length g.posted) due_now (subst (λ k. request_of g.posted k n < length g.posted) at.back.mtu at.packet.is.inside))

  pub within : g.into / g.mtu < span_of r g.mtu
  within = current_within g mtu_now g_sound

  pub request_now : request_of g.posted g.mtu n ≡ g.acted
  request_now = ap (request_of g.posted g.mtu) due_now ∙ due_request g inside within

  pub piece_now : piece_of g.posted g.mtu n ≡ g.into / g.mtu
  piece_now = ap (piece_of g.posted g.mtu) due_now ∙ due_piece g inside within

  posted_now : at.packet.piece.posted ≡ r
  posted_now = request_is w m o l number bytes d a is paused ∙ ap (machine.posted_at g.posted) request_now

  place_now : at.packet.piece.k ≡ g.into / g.mtu
  place_now = piece_number w m o l number bytes d a is paused ∙ piece_now

  pub packet_now : d ≡ packet_of_piece r g.mtu (g.into / g.mtu) (link_of w q).peer psn
  packet_now = at.packet.packet ∙ (λ i. packet_of_piece (posted_now i) (at.back.mtu i) (place_now i) (link_of w q).peer psn)

  -- it is below `top`, with all its numbers
  pub below_top : past_packet (requests_of g) n ≤ (link_of w q).sender.top
  below_top = at.request.below_top

  -- no fence holds it back
  pub turn : has_turn g ≡ true
  unfolding has_turn lands_before
  turn =
      let fenced : r.request.fence ≡ true → lands_untold_before g g.acted ≡ false = subst (λ k. (machine.posted_at g.posted k).request.fence ≡ true → lands_untold_before g k ≡ false) request_now at.request.fenced in
      both (is_less g.acted (length g.posted) inside) (by_fence r.request.fence (lands_untold_before g g.acted) fenced)
    where
      both : {p u : Bool} → p ≡ true → u ≡ true → (p && u) ≡ true
      both {p} {u} h k = rw (h, k) refl

      by_fence : (f v : Bool) → (f ≡ true → v ≡ false) → not (f && v) ≡ true
      by_fence false v h = refl
      by_fence true v h = ap not (h refl)

  abbrev c : state.Context
  c = delivered.context_there w o

  abbrev e : state.End
  e = delivered.end_there w o

  pub step_now : takes c e l d ≡ expected_packet c e l d n
  step_now =
      step_is w m o l number bytes d a is paused
      ∙ (ap (λ b. if b then ahead c e l else if nat_lt n l.receiver.expected then repeated c e l d n else expected_packet c e l d n) (not_less l.receiver.expected n (omega (arith, now)))
      ∙ ap (λ b. if b then repeated c e l d n else expected_packet c e l d n) (not_less n l.receiver.expected (omega (arith, now))))

  pub carries_now : (if is_paused l.moving.phase then [] else request_steps m q n (length d.payload)) ≡ due_steps m q (length d.payload)
  carries_now = carries_is w m o l number bytes d a is paused ∙ acts_now m q n (length d.payload) due_now

  pub not_ended : (machine.end_of m o).ended ≡ false
  unfolding owned owned_there link_or_none
  not_ended = ap (λ z. z.ended) (sym (owned_here w m o l n d a.stands a.live a.linked at)) ∙ (ap (λ z. (link_or_none z).ended) a.linked ∙ a.alive)

  pub connected_now : g.connected ≡ true
  unfolding owned owned_there
  connected_now = ap (λ z. z.connected) (sym (owned_of w m a.stands q (q_there w m o l n d a.stands a.live a.linked at))) ∙ at.joined.connected

  pub has_now : has_current m q ≡ true
  unfolding has_current has_peer owned owned_there
  has_now =
      let connected : g.connected ≡ true = ap (λ z. z.connected) (sym (owned_of w m a.stands q (q_there w m o l n d a.stands a.live a.linked at))) ∙ at.joined.connected in
      let there : has_end m g.peer ≡ true = ap (has_end m) at.joined.back ∙ are_made w m a.stands o at.live in
      let alive : (machine.end_of m g.peer).ended ≡ false = ap (λ j. (machine.end_of m j).ended) at.joined.back ∙ not_ended in
      all_four g.connected (has_end m g.peer) (machine.end_of m g.peer).ended (has_turn g) connected there alive turn
    where
      all_four : (p u v z : Bool) → p ≡ true → u ≡ true → v ≡ false → z ≡ true → ((p && u) && (not v && z)) ≡ true
      all_four p u v z h i j k = rw (h, i, j, k) refl
