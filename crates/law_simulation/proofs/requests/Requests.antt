-- A request that arrives at an end in Rts: the machine's end that it is of, and its true number.
use Rattle.std.proofs.Common.{arith, ◌≡◌, ◌<◌, ◌≤◌, ◌+◌, ℕ, suc, List, length, get_or, true, false, Bool, refl, sym, ap, ◌∙◌, subst}
use Rattle.std.specs.Prelude.{Option, Some, None, if◌then◌else◌, not, ◌&&◌, ◌==◌, is_some}
use Rattle.std.proofs.lemmas.Bool.Decides.{nat_tests, leb_tells}
use Rattle.std.proofs.lemmas.List.Elements.{All-contains}
use Rattle.rdma_types.specs.declared.names.ObjName.{ObjName}
use Rattle.rdma_types.specs.declared.answers.DropReason.TheVariants as why
use Rattle.rdma_types.specs.Kinds.{is_read, kind_of}
use Rattle.rdma_types.specs.Objects.{no_posted}
use Rattle.rdma_types.specs.Spans.{first_number, piece_of, request_of, span_of}
use Rattle.rdma_types.proofs.Numbers.{split}
use Rattle.protocol.specs.State as state
use Rattle.protocol.specs.State.{World, Link}
use Rattle.protocol.specs.Fabric.{is_late}
use Rattle.protocol.specs.Numbers.{wire_number, unwrap_near, IsNear}
use Rattle.protocol.specs.Wire.{Packet, is_request, is_read_response}
use Rattle.protocol.specs.Moves.{control_of}
use Rattle.protocol.specs.EndWords.{is_paused, silent}
use Rattle.protocol.specs.EndStep.{takes}
use Rattle.protocol.specs.Responder.{takes_request, request_at}
use Rattle.protocol.proofs.NearNumbers.{known}
use Rattle.packetless_machine.specs.Machine as machine
use Rattle.packetless_machine.specs.Machine.{Machine, End}
use Rattle.packetless_machine.specs.Numbers.{due}
use Rattle.protocol.specs.declared.wire.Aeth.{Aeth}
use Rattle.protocol.specs.declared.wire.ResumeBody.{ResumeBody}
use Rattle.protocol.specs.declared.wire.Syndrome.{Syndrome}
use Rattle.protocol.specs.declared.wire.Syndrome.TheVariants.{Ack, Rnr, Nak}
use Rattle.law_simulation.specs.Packets.{class_of, aeth_class, syndrome_class, nak_class, resume_class, IsRequest, IsReadResponse, IsAtomicResponse, IsSequenceNak, IsRefusal, IsStopped, IsResume, IsResumeAck, IsNothing}
use Rattle.law_simulation.specs.Views.{Side, Net, net_of, side_of, link_of, link_or_none, end_of, in_rts, requests_of, is_connected}
use Rattle.law_simulation.specs.Joined.{IsJoined, Receives}
use Rattle.law_simulation.specs.Facts.{ClassFact, NumberedFact, MoveFact, IsRequestOf, past_packet, request_for}
use Rattle.law_simulation.specs.Stands.{Stands}
use Rattle.law_simulation.proofs.relation.Grown.{are_made, number_given}
use Rattle.law_simulation.specs.Delivered.{Arrives}
use Rattle.law_simulation.proofs.delivery.Found.{linked_there}
use Rattle.law_simulation.proofs.requests.Pieces.{IsPacket, packet_is, piece_psn, first_suc}
use Rattle.law_simulation.proofs.requests.Replies.{IsTowards}

-- the end that the requests are of
abbrev pub asker : Machine → ObjName → ObjName
asker m o = (machine.end_of m o).peer

-- .. as the machine has it, without its receives
abbrev pub asking : Machine → ObjName → End
asking m o = requests_of (machine.end_of m (asker m o))

-- request n of the peer arrives at o as the packet d
pub record IsRequestAt (w : World) (m : Machine) (o : ObjName) (l : Link) (n : ℕ) (d : Packet) : Type 0 where
  pub stands : Stands w m
  pub live : is_connected w o ≡ true
  pub link : link_of w o ≡ l
  pub rts : in_rts w o ≡ true
  -- the connection, from either end
  pub joined : IsJoined o (side_of w o) (side_of w (asker m o)) (requests_of (machine.end_of m o)) (asking m o)
  pub back : IsJoined (asker m o) (side_of w (asker m o)) (side_of w o) (asking m o) (requests_of (machine.end_of m o))
  -- the request
  pub request : IsRequestOf (link_of w (asker m o)) (asking m o) n d
  pub packet : IsPacket (asking m o).posted (link_of w (asker m o)).terms (link_of w (asker m o)).peer n d
  pub is_request : is_request d.opcode ≡ true
  -- the responder expects what acts next, and reads the true number
  pub receives : Receives l.receiver (asking m o)
  pub number : unwrap_near l.terms.peer_start d.psn l.receiver.expected ≡ Some n
  pub towards : IsTowards l (side_of w (asker m o)) (asking m o)

request_fact : (p x : Side) (e g : End) (number : Option ℕ) (d : Packet) → ClassFact p x e g number d → class_of d ≡ IsRequest → (n : ℕ) × (number ≡ Some n) × IsRequestOf x.link g n d
request_fact p x e g None d fact is = absurd (subst (MoveFact x) is fact)
request_fact p x e g (Some n) d fact is = (n, refl, subst (NumberedFact p x e g n d) is fact)

by_nak : (a b c e : Bool) (count : ℕ) → (if a then IsSequenceNak else if b then IsRefusal false else if c then IsRefusal true else if e then IsStopped count else IsNothing) ≡ IsRequest → ⊥
by_nak true b c e count h = cc
by_nak false true c e count h = cc
by_nak false false true e count h = cc
by_nak false false false true count h = cc
by_nak false false false false count h = cc

by_syndrome : (s : Syndrome) (count : ℕ) → syndrome_class s count ≡ IsRequest → ⊥
unfolding syndrome_class nak_class
by_syndrome Ack count h = cc
by_syndrome Rnr count h = cc
by_syndrome (Nak code) count h = by_nak (code == 0) (code == 1) (code == 2) (code == 5) count h

by_aeth : (r : Option Aeth) → aeth_class r ≡ IsRequest → ⊥
unfolding aeth_class
by_aeth None h = cc
by_aeth (Some x) h = by_syndrome x.syndrome x.msn h

by_resume : (b : Bool) (body : ResumeBody) → (if b then IsResume body else IsResumeAck body) ≡ IsRequest → ⊥
by_resume true body h = cc
by_resume false body h = cc

by_body : (opcode : ℕ) (r : Option ResumeBody) → resume_class opcode r ≡ IsRequest → ⊥
unfolding resume_class
by_body opcode None h = cc
by_body opcode (Some body) h = by_resume (opcode == 0x1E) body h

by_opcode : (a b c : Bool) (d : Packet) → (if a then IsReadResponse else if b then IsAtomicResponse else if c then aeth_class d.aeth else resume_class d.opcode d.resume) ≡ IsRequest → ⊥
by_opcode true b c d h = cc
by_opcode false true c d h = cc
by_opcode false false true d h = by_aeth d.aeth h
by_opcode false false false d h = by_body d.opcode d.resume h

asks : (d : Packet) → class_of d ≡ IsRequest → is_request d.opcode ≡ true
unfolding class_of
asks d h = by_test (is_request d.opcode) refl h
  where
    by_test : (b : Bool) → is_request d.opcode ≡ b → (if b then IsRequest else if is_read_response d.opcode then IsReadResponse else if d.opcode == 0x12 then IsAtomicResponse else if d.opcode == 0x11 then aeth_class d.aeth else resume_class d.opcode d.resume) ≡ IsRequest → is_request d.opcode ≡ true
    by_test true t k = t
    by_test false t k = absurd (by_opcode (is_read_response d.opcode) (d.opcode == 0x12) (d.opcode == 0x11) d k)

-- a request's number is before those past its packet
before_past : (q : End) (n : ℕ) → request_of q.posted q.mtu n < length q.posted → piece_of q.posted q.mtu n < span_of (request_for q n) q.mtu → n < past_packet q n
before_past q n inside within = by_test (is_read (kind_of (request_for q n)))
  where
    by_test : (b : Bool) → n < (if b then first_number q.posted q.mtu (suc (request_of q.posted q.mtu n)) else suc n)
    by_test true = omega (arith, first_suc q.posted q.mtu (request_of q.posted q.mtu n) inside, split q.posted q.mtu n, within)
    by_test false = omega arith

-- the true number is near the expected one: the premise on numbers enters here. A request is below `top`, which is at most
-- 2^20 past what acts next; and it is not late, so at most 2^22 before it. So its 24 wire bits mean it.
near : (start psn expected n top due : ℕ) → expected ≡ due → n < top → top ≤ due + 1048576 → is_late (Some n) expected ≡ false → psn ≡ wire_number start n → IsNear start psn expected n
near start psn expected n top due same below reach fresh said = record {
  spelled = sym said;
  low = grind (arith, nat_tests, leb_tells (suc (n + 4194304)) expected, fresh);
  high = omega (arith, same, below, reach);
}

pub request_at_end : (w : World) (m : Machine) (o : ObjName) (l : Link) (number : Option ℕ) (bytes : List ℕ) (d : Packet) → Arrives w m o l number bytes d → class_of d ≡ IsRequest → (n : ℕ) × (number ≡ Some n) × IsRequestAt w m o l n d
unfolding link_or_none in_rts
request_at_end w m o l number bytes d a is =
    let net : Net = net_of w m in
    let q : ObjName = asker m o in
    let fact = request_fact (net.side o) (net.side q) (net.end o) (net.end q) number d a.fact.fact is in
    let n : ℕ = fact.0 in
    let connected : is_connected w o ≡ true = a.fact.connected in
    let joined : IsJoined o (side_of w o) (side_of w q) (net.end o) (net.end q) = a.stands.joined o connected in
    let back : IsJoined q (side_of w q) (side_of w o) (net.end q) (net.end o) = subst (λ j. IsJoined q (side_of w q) (side_of w j) (net.end q) (net.end j)) joined.back (a.stands.joined q joined.connected) in
    let linked : (end_of w o).link ≡ Some l = ap (λ e. e.link) (sym (linked_there w o a.live connected).1) ∙ a.linked in
    let link : link_of w o ≡ l = ap link_or_none linked in
    let rts : in_rts w o ≡ true = ap (λ z. is_some z && not (link_or_none z).ended) linked ∙ ap not a.alive in
    let receives : Receives l.receiver (asking m o) = subst (λ (z : Link). Receives z.receiver (asking m o)) link (back.receives rts) in
    let packet : IsPacket (asking m o).posted (link_of w q).terms (link_of w q).peer n d = packet_is (asking m o).posted (link_of w q).terms (link_of w q).peer n d fact.2.packet in
    let mtu : (link_of w q).terms.mtu ≡ (asking m o).mtu = back.mtu in
    let start : l.terms.peer_start ≡ (link_of w q).terms.own_start = ap (λ (z : Link). z.terms.peer_start) (sym link) ∙ ap (λ t. t.peer_start) back.exchanged in
    let psn : d.psn ≡ wire_number l.terms.peer_start n = ap (λ z. z.psn) packet.packet ∙ (piece_psn packet.piece.posted (link_of w q).terms.mtu packet.piece.k (link_of w q).peer _ ∙ ap (λ k. wire_number k n) (sym start)) in
    let inside : request_of (asking m o).posted (asking m o).mtu n < length (asking m o).posted = subst (λ k. request_of (asking m o).posted k n < length (asking m o).posted) mtu packet.is.inside in
    let within : piece_of (asking m o).posted (asking m o).mtu n < span_of (request_for (asking m o) n) (asking m o).mtu =
    subst (λ k. piece_of (asking m o).posted k n < span_of (get_or (asking m o).posted (request_of (asking m o).posted k n) no_posted) k) mtu
    (subst (λ z. piece_of (asking m o).posted (link_of w q).terms.mtu n < span_of z (link_of w q).terms.mtu) packet.is.request (subst (λ k. k < span_of packet.piece.posted (link_of w q).terms.mtu) packet.is.piece packet.is.within)) in
    let below : n < (link_of w q).sender.top = omega (arith, before_past (asking m o) n inside within, fact.2.below_top) in
    let fresh : is_late (Some n) l.receiver.expected ≡ false = sym (ap (λ z. is_late z l.receiver.expected) fact.1) ∙ (ap (λ b. is_late number (if b then l.receiver.expected else l.sender.top)) (sym (asks d is)) ∙ a.fresh) in (
      n,
      fact.1,
      record {
        stands = a.stands;
        live = connected;
        link = link;
        rts = rts;
        joined = joined;
        back = back;
        request = fact.2;
        packet = packet;
        is_request = asks d is;
        receives = receives;
        number = known l.terms.peer_start d.psn l.receiver.expected n (near l.terms.peer_start d.psn l.receiver.expected n (link_of w q).sender.top (due (asking m o)) receives.expected below back.ordered.reach fresh psn);
        towards = record {
          connected = joined.connected;
          number = sym joined.number ∙ ap (λ (z : Link). z.peer) link;
          said = subst (λ k. k < 16777216) (sym joined.number ∙ ap (λ (z : Link). z.peer) link) (All-contains (λ k. k < 16777216) m.numbers (machine.end_of m q).number a.stands.counted.numbers_said (number_given w m a.stands q (are_made w m a.stands q joined.connected)));
          start = start;
        };
      },
    )

-- what the end does with it
pub takes_is : (c : state.Context) (e : state.End) (l : Link) (d : Packet) (n : ℕ) → l.ended ≡ false → control_of d ≡ None → is_request d.opcode ≡ true → unwrap_near l.terms.peer_start d.psn l.receiver.expected ≡ Some n → takes c e l d ≡ (if is_paused l.moving.phase then silent c why.Paused else request_at c e l d (Some n))
unfolding takes takes_request
takes_is c e l d n alive none asks number = rw (alive, none, asks, number) refl
