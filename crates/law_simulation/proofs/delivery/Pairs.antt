-- The facts of all ends, husks and datagrams are kept where the two ends of one connection change, and theirs are kept.
use Rattle.std.proofs.Common.{◌≡◌, ◌≢◌, ℕ, List, true, sym, ap, ◌∙◌, subst, inl, inr}
use Rattle.std.specs.Prelude.{Option, Some, None}
use Rattle.rdma_types.specs.declared.names.Name.{Name}
use Rattle.rdma_types.specs.declared.names.ObjName.{ObjName}
use Rattle.rdma_types.specs.Objects.{Region}
use Rattle.protocol.specs.Wire.{Packet, packet_of}
use Rattle.protocol.specs.State.{Flight, HuskEntry, Progress}
use Rattle.packetless_machine.specs.Machine.{End}
use Rattle.law_simulation.specs.Views.{Net, Side, peer}
use Rattle.law_simulation.specs.Joined.{IsJoined, IsProgress}
use Rattle.law_simulation.specs.Facts.{IsLeft, BytesFact, PacketFact}
use Rattle.law_simulation.specs.Stands.{AreJoined, AreLeft, AreSent, AreProgressing}
use Rattle.law_simulation.proofs.relation.Grows.{IsConnected, joined_like, object_or_not}

-- what is kept of one end x of a connection with its peer y, which the machine has as e and g, where they become x' to g'
pub record IsKept (o : ObjName) (x x' y y' : Side) (e e' g g' : End) : Type 0 where
  pub joined : IsJoined o x' y' e' g'
  pub left : (h : HuskEntry) → IsLeft x e g h → IsLeft x' e' g' h
  pub facts : (number : Option ℕ) (bytes : List ℕ) (d : Packet) → PacketFact x y e g number bytes d → PacketFact x' y' e' g' number bytes d

-- from n to n' the ends of o's connection change, and theirs is kept
pub record PairChanges (n n' : Net) (o : ObjName) : Type 0 where
  pub peers : (k : ObjName) → peer n' k ≡ peer n k
  pub connected : (k : ObjName) → (n'.side k).connected ≡ (n.side k).connected
  pub sides : (k : ObjName) → (k ≢ o) → (k ≢ peer n o) → n'.side k ≡ n.side k
  pub ends : (k : ObjName) → (k ≢ o) → (k ≢ peer n o) → n'.end k ≡ n.end k
  pub names : (k : ℕ) → n'.name k ≡ n.name k
  pub here : IsKept o (n.side o) (n'.side o) (n.side (peer n o)) (n'.side (peer n o)) (n.end o) (n'.end o) (n.end (peer n o)) (n'.end (peer n o))
  pub back : IsKept (peer n o) (n.side (peer n o)) (n'.side (peer n o)) (n.side o) (n'.side o) (n.end (peer n o)) (n'.end (peer n o)) (n.end o) (n'.end o)

fact_like : {p p' x x' : Side} {e e' g g' : End} {n : Option ℕ} {bytes : List ℕ} {d : Packet} → p' ≡ p → x' ≡ x → e' ≡ e → g' ≡ g → PacketFact p x e g n bytes d → PacketFact p' x' e' g' n bytes d
fact_like {p} {p'} {x} {x'} {e} {e'} {g} {g'} {n} {bytes} {d} a b c h f = subst (λ z. PacketFact z x' e' g' n bytes d) (sym a) (subst (λ z. PacketFact p z e' g' n bytes d) (sym b) (subst (λ z. PacketFact p x z g' n bytes d) (sym c) (subst (λ z. PacketFact p x e z n bytes d) (sym h) f)))

left_like : {x x' : Side} {e e' p p' : End} {h : HuskEntry} → x' ≡ x → e' ≡ e → p' ≡ p → IsLeft x e p h → IsLeft x' e' p' h
left_like {x} {x'} {e} {e'} {p} {p'} {h} a b c l = subst (λ z. IsLeft z e' p' h) (sym a) (subst (λ z. IsLeft x z p' h) (sym b) (subst (λ z. IsLeft x e z h) (sym c) l))

-- what is kept of every end
kept_like : {o : ObjName} {x x' y y' : Side} {e e' g g' : End} → IsJoined o x y e g → x' ≡ x → y' ≡ y → e' ≡ e → g' ≡ g → IsKept o x x' y y' e e' g g'
kept_like {o} {x} {x'} {y} {y'} {e} {e'} {g} {g'} j a b c h = record {
  joined = joined_like a b c h j;
  left = λ k l. left_like a c h l;
  facts = λ number bytes d f. fact_like a b c h f;
}

module _ (n n' : Net) (o : ObjName) (joined : AreJoined n) (c : IsConnected n o) (ch : PairChanges n n' o) where
  abbrev q : ObjName
  q = peer n o

  back_again : peer n q ≡ o
  back_again = (joined o c).back

  -- of each end, beside its peer
  pub kept : (k : ObjName) → IsConnected n k → IsKept k (n.side k) (n'.side k) (n.side (peer n k)) (n'.side (peer n k)) (n.end k) (n'.end k) (n.end (peer n k)) (n'.end (peer n k))
  kept k h = elim (object_or_not k o) [
    | inl a ↦ subst (λ j. IsKept j (n.side j) (n'.side j) (n.side (peer n j)) (n'.side (peer n j)) (n.end j) (n'.end j) (n.end (peer n j)) (n'.end (peer n j))) (sym a) ch.here
    | inr ne ↦ elim (object_or_not k q) [
      | inl a ↦ subst (λ j. IsKept j (n.side j) (n'.side j) (n.side (peer n j)) (n'.side (peer n j)) (n.end j) (n'.end j) (n.end (peer n j)) (n'.end (peer n j))) (sym a)
          (subst (λ j. IsKept q (n.side q) (n'.side q) (n.side j) (n'.side j) (n.end q) (n'.end q) (n.end j) (n'.end j)) (sym back_again) ch.back)
      | inr nf ↦
          let other : peer n k ≢ o = λ e. nf (sym (joined k h).back ∙ ap (peer n) e) in
          let other' : peer n k ≢ q = λ e. ne (sym (joined k h).back ∙ (ap (peer n) e ∙ back_again)) in
          kept_like (joined k h) (ch.sides k ne nf) (ch.sides (peer n k) other other') (ch.ends k ne nf) (ch.ends (peer n k) other other')
    ]
  ]

  before : (k : ObjName) → IsConnected n' k → IsConnected n k
  before k h = sym (ch.connected k) ∙ h

  pub joined_pair : AreJoined n'
  joined_pair k h = subst (λ j. IsJoined k (n'.side k) (n'.side j) (n'.end k) (n'.end j)) (sym (ch.peers k)) (kept k (before k h)).joined

  pub left_pair : (entries : List HuskEntry) → AreLeft n entries → AreLeft n' entries
  left_pair entries s h i =
      let k : ObjName = n.name h.number in
      subst (λ j. IsLeft (n'.side j) (n'.end j) (n'.end (peer n' j)) h) (sym (ch.names h.number))
      (subst (λ j. IsLeft (n'.side k) (n'.end k) (n'.end j) h) (sym (ch.peers k)) ((kept k (s h i).connected).left h (s h i)))

  bytes_pair : (number : Option ℕ) (bytes : List ℕ) (d : Option Packet) → BytesFact n number bytes d → BytesFact n' number bytes d
  bytes_pair number bytes None f = f
  bytes_pair number bytes (Some d) f =
      let k : ObjName = n.name d.dest in
      subst (λ j. PacketFact (n'.side j) (n'.side (peer n' j)) (n'.end j) (n'.end (peer n' j)) number bytes d) (sym (ch.names d.dest))
      (subst (λ j. PacketFact (n'.side k) (n'.side j) (n'.end k) (n'.end j) number bytes d) (sym (ch.peers k)) ((kept k f.connected).facts number bytes d f))

  pub sent_pair : (sent : List Flight) → AreSent n sent → AreSent n' sent
  sent_pair sent s k f h = bytes_pair f.number f.bytes (packet_of f.bytes) (s k f h)

  -- what is in progress at the two ends, and elsewhere
  pub progressing_pair : (regions regions' : Name → List Region) → AreProgressing n regions →
      ((e : End) (domain : Name) (k : Name) (p : Progress) → IsProgress e domain (regions k) p → IsProgress e domain (regions' k) p) →
      ((n'.side q).rts ≡ true → IsProgress (n'.end o) (n'.end q).domain (regions' q.context) (n'.side q).link.receiver.progress) →
      ((n'.side o).rts ≡ true → IsProgress (n'.end q) (n'.end o).domain (regions' o.context) (n'.side o).link.receiver.progress) →
      AreProgressing n' regions'
  progressing_pair regions regions' s others here back k h rts =
      subst (λ j. IsProgress (n'.end k) (n'.end j).domain (regions' j.context) (n'.side j).link.receiver.progress) (sym (ch.peers k)) (elim (object_or_not k o) [
        | inl a ↦ subst (λ j. IsProgress (n'.end j) (n'.end (peer n j)).domain (regions' (peer n j).context) (n'.side (peer n j)).link.receiver.progress) (sym a)
            (here (subst (λ j. (n'.side j).rts ≡ true) (ch.peers k ∙ ap (peer n) a) rts))
        | inr ne ↦ elim (object_or_not k q) [
          | inl a ↦
              let other : peer n k ≡ o = ap (peer n) a ∙ back_again in
              subst (λ j. IsProgress (n'.end k) (n'.end j).domain (regions' j.context) (n'.side j).link.receiver.progress) (sym other)
              (subst (λ j. IsProgress (n'.end j) (n'.end o).domain (regions' o.context) (n'.side o).link.receiver.progress) (sym a)
              (back (subst (λ j. (n'.side j).rts ≡ true) (ch.peers k ∙ other) rts)))
          | inr nf ↦
              let connected : IsConnected n k = before k h in
              let other : peer n k ≢ o = λ e. nf (sym (joined k connected).back ∙ ap (peer n) e) in
              let other' : peer n k ≢ q = λ e. ne (sym (joined k connected).back ∙ (ap (peer n) e ∙ back_again)) in
              let side : n'.side (peer n k) ≡ n.side (peer n k) = ch.sides (peer n k) other other' in
              let end : n'.end (peer n k) ≡ n.end (peer n k) = ch.ends (peer n k) other other' in
              subst (λ z. IsProgress z (n'.end (peer n k)).domain (regions' (peer n k).context) (n'.side (peer n k)).link.receiver.progress) (sym (ch.ends k ne nf))
              (subst (λ z. IsProgress (n.end k) z.domain (regions' (peer n k).context) (n'.side (peer n k)).link.receiver.progress) (sym end)
              (subst (λ z. IsProgress (n.end k) (n.end (peer n k)).domain (regions' (peer n k).context) z.link.receiver.progress) (sym side)
              (others (n.end k) (n.end (peer n k)).domain (peer n k).context _ (s k connected (subst (λ z. z.rts ≡ true) (ap n'.side (ch.peers k) ∙ side) rts)))))
        ]
      ])
