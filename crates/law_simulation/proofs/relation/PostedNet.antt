-- The facts of all ends, husks and datagrams are kept where one end in Rts posts one more request.
use Rattle.std.proofs.Common.{arith, ◌≡◌, ◌≢◌, ◌≤◌, ◌<◌, ◌+◌, ℕ, List, length, true, false, sym, ap, ◌∙◌, subst, inl, inr}
use Rattle.std.specs.Prelude.{Option, Some, None}
use Rattle.rdma_types.specs.declared.names.Name.{Name}
use Rattle.rdma_types.specs.declared.names.ObjName.{ObjName}
use Rattle.rdma_types.specs.Limits.{number_limit}
use Rattle.rdma_types.specs.Objects.{Posted, Region}
use Rattle.rdma_types.specs.Spans.{end_number, span_of}
use Rattle.protocol.specs.Wire.{Packet, packet_of}
use Rattle.protocol.specs.State.{Flight, HuskEntry}
use Rattle.packetless_machine.specs.Machine.{End, untold_count}
use Rattle.packetless_machine.specs.Numbers.{due}
use Rattle.packetless_machine.specs.Sound.{IsSound}
use Rattle.packetless_machine.specs.Steps.{in_place}
use Rattle.law_simulation.specs.Views.{Net, Side, peer, requests_of}
use Rattle.law_simulation.specs.Joined.{IsJoined, IsProgress, IsSayable}
use Rattle.law_simulation.specs.Facts.{HuskFact, IsLeft, BytesFact, PacketFact}
use Rattle.law_simulation.specs.Stands.{AreJoined, AreLeft, AreSent, AreProgressing}
use Rattle.law_simulation.proofs.relation.SoundEnds.{sound_still}
use Rattle.law_simulation.proofs.relation.Tables.{same_name}
use Rattle.law_simulation.proofs.relation.Grows.{IsConnected, joined_like, object_or_not}
use Rattle.law_simulation.proofs.relation.OnePosted.{posted_end, posted_side, posted_joined, peer_joined, progress_posted, left_own, left_peer, fact_to, fact_from}

-- an end is sound without its receives
pub requests_sound : (e : End) → IsSound e → IsSound (requests_of e)
unfolding in_place untold_count
requests_sound e s = sound_still e (requests_of e) s.offers (omega arith) s

-- from n to n' the end o posts the request r
pub record NetPosts (n n' : Net) (o : ObjName) (r : Posted) : Type 0 where
  pub side : n'.side o ≡ posted_side (n.side o) r
  pub end : n'.end o ≡ posted_end (n.end o) r
  pub sides : (k : ObjName) → (k ≢ o) → n'.side k ≡ n.side k
  pub ends : (k : ObjName) → (k ≢ o) → n'.end k ≡ n.end k
  pub names : (k : ℕ) → n'.name k ≡ n.name k

left_like : {x x' : Side} {e e' p p' : End} {h : HuskEntry} → x' ≡ x → e' ≡ e → p' ≡ p → IsLeft x e p h → IsLeft x' e' p' h
left_like {x} {x'} {e} {e'} {p} {p'} {h} a b c l = subst (λ z. IsLeft z e' p' h) (sym a) (subst (λ z. IsLeft x z p' h) (sym b) (subst (λ z. IsLeft x e z h) (sym c) l))

fact_like : {p p' x x' : Side} {e e' g g' : End} {n : Option ℕ} {bytes : List ℕ} {d : Packet} → p' ≡ p → x' ≡ x → e' ≡ e → g' ≡ g → PacketFact p x e g n bytes d → PacketFact p' x' e' g' n bytes d
fact_like {p} {p'} {x} {x'} {e} {e'} {g} {g'} {n} {bytes} {d} a b c h f = subst (λ z. PacketFact z x' e' g' n bytes d) (sym a) (subst (λ z. PacketFact p z e' g' n bytes d) (sym b) (subst (λ z. PacketFact p x z g' n bytes d) (sym c) (subst (λ z. PacketFact p x e z n bytes d) (sym h) f)))

module _ (n n' : Net) (o : ObjName) (r : Posted) (posts : NetPosts n n' o r) (joined : AreJoined n) (c : IsConnected n o) (alive : (n.side o).link.ended ≡ false) (sound : IsSound (n.end o)) (said : IsSayable r) (limit : end_number (n.end o).posted (n.end o).mtu + span_of r (n.end o).mtu < number_limit) where
  peer_same : (k : ObjName) → peer n' k ≡ peer n k
  peer_same k = elim (object_or_not k o) [
    | inl a ↦ ap (peer n') a ∙ (ap (λ e. e.peer) posts.end ∙ ap (peer n) (sym a))
    | inr ne ↦ ap (λ e. e.peer) (posts.ends k ne)
  ]

  -- no end is its own peer
  peer_other : (k : ObjName) → IsConnected n k → peer n k ≢ k
  peer_other k connected e = cc ((joined k connected).apart, same_name k.context)

  connected_before : (k : ObjName) → IsConnected n' k → IsConnected n k
  connected_before k h = elim (object_or_not k o) [
    | inl a ↦ subst (IsConnected n) (sym a) c
    | inr ne ↦ subst (λ x. x.connected ≡ true) (posts.sides k ne) h
  ]

  -- the peer of the end that posts is the only one whose peer it is
  own_peer : (k : ObjName) → IsConnected n k → peer n k ≡ o → k ≡ peer n o
  own_peer k connected e = sym (joined k connected).back ∙ ap (peer n) e

  side_of_peer : (k : ObjName) → (peer n k ≢ o) → n'.side (peer n' k) ≡ n.side (peer n k)
  side_of_peer k ne = ap n'.side (peer_same k) ∙ posts.sides (peer n k) ne

  end_of_peer : (k : ObjName) → (peer n k ≢ o) → n'.end (peer n' k) ≡ n.end (peer n k)
  end_of_peer k ne = ap n'.end (peer_same k) ∙ posts.ends (peer n k) ne

  side_posted : (k : ObjName) → peer n k ≡ o → n'.side (peer n' k) ≡ posted_side (n.side (peer n k)) r
  side_posted k e = ap n'.side (peer_same k ∙ e) ∙ (posts.side ∙ ap (λ j. posted_side (n.side j) r) (sym e))

  end_posted : (k : ObjName) → peer n k ≡ o → n'.end (peer n' k) ≡ posted_end (n.end (peer n k)) r
  end_posted k e = ap n'.end (peer_same k ∙ e) ∙ (posts.end ∙ ap (λ j. posted_end (n.end j) r) (sym e))

  pub joined_posted : AreJoined n'
  joined_posted k h = elim (object_or_not k o) [
    | inl a ↦ subst (λ j. IsJoined j (n'.side j) (n'.side (peer n' j)) (n'.end j) (n'.end (peer n' j))) (sym a)
        (joined_like posts.side (side_of_peer o (peer_other o c)) posts.end (end_of_peer o (peer_other o c)) (posted_joined o (n.side o) (n.side (peer n o)) (n.end o) (n.end (peer n o)) r alive sound said limit (joined o c)))
    | inr ne ↦
        let j = joined k (connected_before k h) in
        elim (object_or_not (peer n k) o) [
          | inl e ↦ joined_like (posts.sides k ne) (side_posted k e) (posts.ends k ne) (end_posted k e) (peer_joined k (n.side k) (n.side (peer n k)) (n.end k) (n.end (peer n k)) r j)
          | inr nf ↦ joined_like (posts.sides k ne) (side_of_peer k nf) (posts.ends k ne) (end_of_peer k nf) j
        ]
  ]

  pub progressing_posted : (regions : Name → List Region) → AreProgressing n regions → AreProgressing n' regions
  progressing_posted regions s k h rts =
      subst (λ j. IsProgress (n'.end k) (n'.end j).domain (regions j.context) (n'.side j).link.receiver.progress) (sym (peer_same k)) (elim (object_or_not k o) [
        | inl a ↦
            let ne : peer n k ≢ o = λ e. peer_other o c (ap (peer n) (sym a) ∙ e) in
            let before = s k (connected_before k h) (subst (λ x. x.rts ≡ true) (ap n'.side (peer_same k) ∙ posts.sides (peer n k) ne) rts) in
            let now = progress_posted (n.end o) r (n.end (peer n k)).domain (regions (peer n k).context) (n.side (peer n k)).link.receiver.progress sound (subst (λ j. IsProgress (n.end j) (n.end (peer n k)).domain (regions (peer n k).context) (n.side (peer n k)).link.receiver.progress) a before) in
            subst (λ q. IsProgress q (n'.end (peer n k)).domain (regions (peer n k).context) (n'.side (peer n k)).link.receiver.progress) (sym (ap n'.end a ∙ posts.end))
            (subst (λ p. IsProgress (posted_end (n.end o) r) p.domain (regions (peer n k).context) (n'.side (peer n k)).link.receiver.progress) (sym (posts.ends (peer n k) ne))
            (subst (λ y. IsProgress (posted_end (n.end o) r) (n.end (peer n k)).domain (regions (peer n k).context) y.link.receiver.progress) (sym (posts.sides (peer n k) ne)) now))
        | inr nk ↦ elim (object_or_not (peer n k) o) [
          | inl e ↦
              let before = s k (connected_before k h) (subst (λ x. x.rts ≡ true) (side_posted k e) rts) in
              subst (λ q. IsProgress q (n'.end (peer n k)).domain (regions (peer n k).context) (n'.side (peer n k)).link.receiver.progress) (sym (posts.ends k nk))
              (subst (λ p. IsProgress (n.end k) p.domain (regions (peer n k).context) (n'.side (peer n k)).link.receiver.progress) (sym (ap n'.end (sym (peer_same k)) ∙ end_posted k e))
              (subst (λ y. IsProgress (n.end k) (n.end (peer n k)).domain (regions (peer n k).context) y.link.receiver.progress) (sym (ap n'.side (sym (peer_same k)) ∙ side_posted k e)) before))
          | inr nf ↦
              let before = s k (connected_before k h) (subst (λ x. x.rts ≡ true) (side_of_peer k nf) rts) in
              subst (λ q. IsProgress q (n'.end (peer n k)).domain (regions (peer n k).context) (n'.side (peer n k)).link.receiver.progress) (sym (posts.ends k nk))
              (subst (λ p. IsProgress (n.end k) p.domain (regions (peer n k).context) (n'.side (peer n k)).link.receiver.progress) (sym (posts.ends (peer n k) nf))
              (subst (λ y. IsProgress (n.end k) (n.end (peer n k)).domain (regions (peer n k).context) y.link.receiver.progress) (sym (posts.sides (peer n k) nf)) before))
        ]
      ])

  husk_posted : (h : HuskEntry) → HuskFact n h → HuskFact n' h
  husk_posted h f =
      let k : ObjName = n.name h.number in
      subst (λ j. IsLeft (n'.side j) (n'.end j) (n'.end (peer n' j)) h) (sym (posts.names h.number)) (elim (object_or_not k o) [
        | inl a ↦ left_like (ap n'.side a ∙ (posts.side ∙ ap (λ j. posted_side (n.side j) r) (sym a))) (ap n'.end a ∙ (posts.end ∙ ap (λ j. posted_end (n.end j) r) (sym a))) (end_of_peer k (λ e. peer_other o c (ap (peer n) (sym a) ∙ e)))
            (left_own (n.side k) (n.end k) (n.end (peer n k)) h r f)
        | inr ne ↦ elim (object_or_not (peer n k) o) [
          | inl e ↦ left_like (posts.sides k ne) (posts.ends k ne) (end_posted k e) (left_peer (n.side k) (n.end k) (n.end (peer n k)) h r f)
          | inr nf ↦ left_like (posts.sides k ne) (posts.ends k ne) (end_of_peer k nf) f
        ]
      ])

  pub left_posted : (entries : List HuskEntry) → AreLeft n entries → AreLeft n' entries
  left_posted entries s h i = husk_posted h (s h i)

  within : due (n.end o) ≤ end_number (n.end o).posted (n.end o).mtu
  within = omega (arith, (joined o c).ordered.due_top, (joined o c).ordered.top_end)

  bytes_posted : (number : Option ℕ) (bytes : List ℕ) (d : Option Packet) → BytesFact n number bytes d → BytesFact n' number bytes d
  bytes_posted number bytes None f = f
  bytes_posted number bytes (Some d) f =
      let k : ObjName = n.name d.dest in
      subst (λ j. PacketFact (n'.side j) (n'.side (peer n' j)) (n'.end j) (n'.end (peer n' j)) number bytes d) (sym (posts.names d.dest)) (elim (object_or_not k o) [
        | inl a ↦
            let ne : peer n k ≢ o = λ e. peer_other o c (ap (peer n) (sym a) ∙ e) in
            fact_like (ap n'.side a ∙ (posts.side ∙ ap (λ j. posted_side (n.side j) r) (sym a))) (side_of_peer k ne) (ap n'.end a ∙ (posts.end ∙ ap (λ j. posted_end (n.end j) r) (sym a))) (end_of_peer k ne)
            (fact_to (n.side k) (n.side (peer n k)) (n.end k) (n.end (peer n k)) number bytes d r (subst (λ j. IsSound (n.end j)) (sym a) sound) (subst (λ j. due (n.end j) ≤ end_number (n.end j).posted (n.end j).mtu) (sym a) within) f)
        | inr ne ↦ elim (object_or_not (peer n k) o) [
          | inl e ↦ fact_like (posts.sides k ne) (side_posted k e) (posts.ends k ne) (end_posted k e)
              (fact_from (n.side k) (n.side (peer n k)) (n.end k) (n.end (peer n k)) number bytes d r (subst (λ j. (n.end j).told ≤ length (n.end j).posted) (sym e) sound.told_posted) (subst (λ j. (n.side j).link.terms.mtu ≡ (n.end j).mtu) (sym e) (joined o c).mtu) f)
          | inr nf ↦ fact_like (posts.sides k ne) (side_of_peer k nf) (posts.ends k ne) (end_of_peer k nf) f
        ]
      ])

  pub sent_posted : (sent : List Flight) → AreSent n sent → AreSent n' sent
  sent_posted sent s k f h = bytes_posted f.number f.bytes (packet_of f.bytes) (s k f h)
