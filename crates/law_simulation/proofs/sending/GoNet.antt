-- One end of a net steps, and its peer stays: the facts of all ends, husks and datagrams are kept.
use Rattle.std.proofs.Common.{◌≡◌, ◌≢◌, ℕ, List, true, refl, sym, ap, ◌∙◌, subst, inl, inr}
use Rattle.std.specs.Prelude.{Option, Some, None}
use Rattle.rdma_types.specs.declared.names.Name.{Name}
use Rattle.rdma_types.specs.declared.names.ObjName.{ObjName}
use Rattle.rdma_types.specs.Objects.{Region}
use Rattle.protocol.specs.Wire.{Packet, packet_of}
use Rattle.protocol.specs.State.{Flight, HuskEntry}
use Rattle.packetless_machine.specs.Machine.{End}
use Rattle.law_simulation.specs.Views.{Net, Side, peer}
use Rattle.law_simulation.specs.Joined.{IsJoined, IsProgress}
use Rattle.law_simulation.specs.Facts.{HuskFact, IsLeft, BytesFact, PacketFact}
use Rattle.law_simulation.specs.Stands.{AreJoined, AreLeft, AreSent, AreProgressing}
use Rattle.law_simulation.proofs.relation.Tables.{same_name}
use Rattle.law_simulation.proofs.relation.Grows.{IsConnected, joined_like, object_or_not}

-- what is to be shown of one end o that steps from x to x', and in the machine from q to q', where its peer stays y and p
pub record Goes (o : ObjName) (x x' y : Side) (q q' p : End) : Type 0 where
  pub connected : x'.connected ≡ true
  pub rts : x'.rts ≡ true → x.rts ≡ true
  pub peer : q'.peer ≡ q.peer
  -- the connection, seen from either end
  pub own : IsJoined o x' y q' p
  pub other : IsJoined q.peer y x' p q'
  -- the message of this end in progress at its peer, and that of the peer here
  pub acting : (domain : Name) (regions : List Region) → IsProgress q domain regions y.link.receiver.progress → IsProgress q' domain regions y.link.receiver.progress
  pub taking : (regions : List Region) → x'.rts ≡ true → IsProgress p q.domain regions x.link.receiver.progress → IsProgress p q'.domain regions x'.link.receiver.progress
  -- entries of husks of this end, and of its peer
  pub left : (h : HuskEntry) → IsLeft x q p h → IsLeft x' q' p h
  pub left_other : (h : HuskEntry) → IsLeft y p q h → IsLeft y p q' h
  -- datagrams for this end, and of this end
  pub to : (n : Option ℕ) (bytes : List ℕ) (d : Packet) → PacketFact x y q p n bytes d → PacketFact x' y q' p n bytes d
  pub from : (n : Option ℕ) (bytes : List ℕ) (d : Packet) → PacketFact y x p q n bytes d → PacketFact y x' p q' n bytes d

-- from n to n' the end o alone steps
pub record NetGoes (n n' : Net) (o : ObjName) : Type 0 where
  pub goes : Goes o (n.side o) (n'.side o) (n.side (peer n o)) (n.end o) (n'.end o) (n.end (peer n o))
  pub sides : (k : ObjName) → (k ≢ o) → n'.side k ≡ n.side k
  pub ends : (k : ObjName) → (k ≢ o) → n'.end k ≡ n.end k
  pub names : (k : ℕ) → n'.name k ≡ n.name k

progress_like : {q q' p p' : End} {rs rs' : List Region} {y y' : Side} → q' ≡ q → p' ≡ p → rs' ≡ rs → y' ≡ y → IsProgress q p.domain rs y.link.receiver.progress → IsProgress q' p'.domain rs' y'.link.receiver.progress
progress_like {q} {q'} {p} {p'} {rs} {rs'} {y} {y'} a b c d h =
    subst (λ z. IsProgress z p'.domain rs' y'.link.receiver.progress) (sym a)
    (subst (λ z. IsProgress q z.domain rs' y'.link.receiver.progress) (sym b)
    (subst (λ z. IsProgress q p.domain z y'.link.receiver.progress) (sym c)
    (subst (λ z. IsProgress q p.domain rs z.link.receiver.progress) (sym d) h)))

left_like : {x x' : Side} {e e' p p' : End} {h : HuskEntry} → x' ≡ x → e' ≡ e → p' ≡ p → IsLeft x e p h → IsLeft x' e' p' h
left_like {x} {x'} {e} {e'} {p} {p'} {h} a b c l = subst (λ z. IsLeft z e' p' h) (sym a) (subst (λ z. IsLeft x z p' h) (sym b) (subst (λ z. IsLeft x e z h) (sym c) l))

fact_like : {p p' x x' : Side} {e e' g g' : End} {n : Option ℕ} {bytes : List ℕ} {d : Packet} → p' ≡ p → x' ≡ x → e' ≡ e → g' ≡ g → PacketFact p x e g n bytes d → PacketFact p' x' e' g' n bytes d
fact_like {p} {p'} {x} {x'} {e} {e'} {g} {g'} {n} {bytes} {d} a b c h f = subst (λ z. PacketFact z x' e' g' n bytes d) (sym a) (subst (λ z. PacketFact p z e' g' n bytes d) (sym b) (subst (λ z. PacketFact p x z g' n bytes d) (sym c) (subst (λ z. PacketFact p x e z n bytes d) (sym h) f)))

module _ (n n' : Net) (o : ObjName) (g : NetGoes n n' o) (joined : AreJoined n) (c : IsConnected n o) where
  peer_same : (k : ObjName) → peer n' k ≡ peer n k
  peer_same k = elim (object_or_not k o) [
    | inl a ↦ ap (peer n') a ∙ (g.goes.peer ∙ ap (peer n) (sym a))
    | inr ne ↦ ap (λ e. e.peer) (g.ends k ne)
  ]

  -- no end is its own peer
  peer_other : (k : ObjName) → IsConnected n k → peer n k ≢ k
  peer_other k connected e = cc ((joined k connected).apart, same_name k.context)

  connected_before : (k : ObjName) → IsConnected n' k → IsConnected n k
  connected_before k h = elim (object_or_not k o) [
    | inl a ↦ subst (IsConnected n) (sym a) c
    | inr ne ↦ subst (λ x. x.connected ≡ true) (g.sides k ne) h
  ]

  -- the peer of the end that steps is the only one whose peer it is
  own_peer : (k : ObjName) → IsConnected n k → peer n k ≡ o → k ≡ peer n o
  own_peer k connected e = sym (joined k connected).back ∙ ap (peer n) e

  side_of_peer : (k : ObjName) → (peer n k ≢ o) → n'.side (peer n' k) ≡ n.side (peer n k)
  side_of_peer k ne = ap n'.side (peer_same k) ∙ g.sides (peer n k) ne

  end_of_peer : (k : ObjName) → (peer n k ≢ o) → n'.end (peer n' k) ≡ n.end (peer n k)
  end_of_peer k ne = ap n'.end (peer_same k) ∙ g.ends (peer n k) ne

  pub joined_goes : AreJoined n'
  joined_goes k h = elim (object_or_not k o) [
    | inl a ↦ subst (λ j. IsJoined j (n'.side j) (n'.side (peer n' j)) (n'.end j) (n'.end (peer n' j))) (sym a)
        (joined_like refl (side_of_peer o (peer_other o c)) refl (end_of_peer o (peer_other o c)) g.goes.own)
    | inr ne ↦
        let before : IsConnected n k = connected_before k h in
        elim (object_or_not (peer n k) o) [
          | inl e ↦
              let own : k ≡ peer n o = own_peer k before e in
              joined_like (g.sides k ne ∙ ap n.side own) (ap n'.side (peer_same k ∙ e)) (g.ends k ne ∙ ap n.end own) (ap n'.end (peer_same k ∙ e))
              (subst (λ j. IsJoined j (n.side (peer n o)) (n'.side o) (n.end (peer n o)) (n'.end o)) (sym own) g.goes.other)
          | inr nf ↦ joined_like (g.sides k ne) (side_of_peer k nf) (g.ends k ne) (end_of_peer k nf) (joined k before)
        ]
  ]

  pub progressing_goes : (regions : Name → List Region) → AreProgressing n regions → AreProgressing n' regions
  progressing_goes regions s k h rts = elim (object_or_not k o) [
    | inl a ↦
        let ne : peer n k ≢ o = λ e. peer_other o c (ap (peer n) (sym a) ∙ e) in
        let before = s k (connected_before k h) (subst (λ x. x.rts ≡ true) (side_of_peer k ne) rts) in
        let here : IsProgress (n.end o) (n.end (peer n o)).domain (regions (peer n o).context) (n.side (peer n o)).link.receiver.progress = subst (λ j. IsProgress (n.end j) (n.end (peer n j)).domain (regions (peer n j).context) (n.side (peer n j)).link.receiver.progress) a before in
        progress_like (ap n'.end a) (end_of_peer k ne ∙ ap (λ j. n.end (peer n j)) a) (ap (λ j. regions j.context) (peer_same k) ∙ ap (λ j. regions (peer n j).context) a) (side_of_peer k ne ∙ ap (λ j. n.side (peer n j)) a)
        (g.goes.acting (n.end (peer n o)).domain (regions (peer n o).context) here)
    | inr ne ↦ elim (object_or_not (peer n k) o) [
      | inl e ↦
          let at : peer n' k ≡ o = peer_same k ∙ e in
          let now : (n'.side o).rts ≡ true = subst (λ j. (n'.side j).rts ≡ true) at rts in
          let own : k ≡ peer n o = own_peer k (connected_before k h) e in
          let before = s k (connected_before k h) (subst (λ j. (n.side j).rts ≡ true) (sym e) (g.goes.rts now)) in
          let here : IsProgress (n.end (peer n o)) (n.end o).domain (regions o.context) (n.side o).link.receiver.progress = progress_like (ap n.end (sym own)) (ap n.end (sym e)) (ap (λ j. regions j.context) (sym e)) (ap n.side (sym e)) before in
          progress_like (g.ends k ne ∙ ap n.end own) (ap n'.end at) (ap (λ j. regions j.context) at) (ap n'.side at) (g.goes.taking (regions o.context) now here)
      | inr nf ↦ progress_like (g.ends k ne) (end_of_peer k nf) (ap (λ j. regions j.context) (peer_same k)) (side_of_peer k nf) (s k (connected_before k h) (subst (λ x. x.rts ≡ true) (side_of_peer k nf) rts))
    ]
  ]

  husk_goes : (h : HuskEntry) → HuskFact n h → HuskFact n' h
  husk_goes h f =
      let k : ObjName = n.name h.number in
      subst (λ j. IsLeft (n'.side j) (n'.end j) (n'.end (peer n' j)) h) (sym (g.names h.number)) (elim (object_or_not k o) [
        | inl a ↦ subst (λ j. IsLeft (n'.side j) (n'.end j) (n'.end (peer n' j)) h) (sym a)
            (left_like refl refl (end_of_peer o (peer_other o c)) (g.goes.left h (subst (λ j. IsLeft (n.side j) (n.end j) (n.end (peer n j)) h) a f)))
        | inr ne ↦ elim (object_or_not (peer n k) o) [
          | inl e ↦
              let own : k ≡ peer n o = own_peer k f.connected e in
              left_like (g.sides k ne ∙ ap n.side own) (g.ends k ne ∙ ap n.end own) (ap n'.end (peer_same k ∙ e))
              (g.goes.left_other h (left_like (ap n.side (sym own)) (ap n.end (sym own)) (ap n.end (sym e)) f))
          | inr nf ↦ left_like (g.sides k ne) (g.ends k ne) (end_of_peer k nf) f
        ]
      ])

  pub left_goes : (entries : List HuskEntry) → AreLeft n entries → AreLeft n' entries
  left_goes entries s h i = husk_goes h (s h i)

  bytes_go : (number : Option ℕ) (bytes : List ℕ) (d : Option Packet) → BytesFact n number bytes d → BytesFact n' number bytes d
  bytes_go number bytes None f = f
  bytes_go number bytes (Some d) f =
      let k : ObjName = n.name d.dest in
      subst (λ j. PacketFact (n'.side j) (n'.side (peer n' j)) (n'.end j) (n'.end (peer n' j)) number bytes d) (sym (g.names d.dest)) (elim (object_or_not k o) [
        | inl a ↦ subst (λ j. PacketFact (n'.side j) (n'.side (peer n' j)) (n'.end j) (n'.end (peer n' j)) number bytes d) (sym a)
            (fact_like refl (side_of_peer o (peer_other o c)) refl (end_of_peer o (peer_other o c))
            (g.goes.to number bytes d (subst (λ j. PacketFact (n.side j) (n.side (peer n j)) (n.end j) (n.end (peer n j)) number bytes d) a f)))
        | inr ne ↦ elim (object_or_not (peer n k) o) [
          | inl e ↦
              let own : k ≡ peer n o = own_peer k f.connected e in
              fact_like (g.sides k ne ∙ ap n.side own) (ap n'.side (peer_same k ∙ e)) (g.ends k ne ∙ ap n.end own) (ap n'.end (peer_same k ∙ e))
              (g.goes.from number bytes d (fact_like (ap n.side (sym own)) (ap n.side (sym e)) (ap n.end (sym own)) (ap n.end (sym e)) f))
          | inr nf ↦ fact_like (g.sides k ne) (side_of_peer k nf) (g.ends k ne) (end_of_peer k nf) f
        ]
      ])

  pub sent_goes : (sent : List Flight) → AreSent n sent → AreSent n' sent
  sent_goes sent s k f h = bytes_go f.number f.bytes (packet_of f.bytes) (s k f h)
