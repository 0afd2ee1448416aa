-- What is kept where ends are made and connected: nothing changes for an end that is connected already.
use Rattle.std.proofs.Common.{◌≡◌, ◌≢◌, ℕ, List, true, sym, ap, ◌∙◌, subst, inl, inr}
use Rattle.std.specs.Prelude.{Option, Some, None, Contains, ◌⊎◌}
use Rattle.rdma_types.specs.declared.names.Name.{Name}
use Rattle.rdma_types.specs.declared.names.ObjName.{ObjName}
use Rattle.rdma_types.specs.Objects.{Region}
use Rattle.protocol.specs.Wire.{Packet, packet_of}
use Rattle.protocol.specs.State.{Flight, HuskEntry}
use Rattle.packetless_machine.specs.Machine.{End}
use Rattle.law_simulation.specs.Views.{Net, Side, peer}
use Rattle.law_simulation.specs.Joined.{IsJoined, IsProgress}
use Rattle.law_simulation.specs.Facts.{HuskFact, IsLeft, BytesFact, PacketFact}
use Rattle.law_simulation.specs.Stands.{AreJoined, AreLeft, AreSent, AreProgressing}
use Rattle.law_simulation.proofs.relation.Tables.{name_or_not}

pub object_or_not : (a b : ObjName) → (a ≡ b) ⊎ (a ≢ b)
object_or_not a b = elim (name_or_not a.context b.context) [
  | inr ne ↦ inr (λ e. ne (ap (λ o. o.context) e))
  | inl c ↦ elim (name_or_not a.name b.name) [
    | inr ne ↦ inr (λ e. ne (ap (λ o. o.name) e))
    | inl n ↦ inl (λ i. record { context = c i; name = n i })
  ]
]

abbrev pub IsConnected : Net → ObjName → Type 0
IsConnected n o = (n.side o).connected ≡ true

-- an end that is connected was made
abbrev pub AreMade : Net → Type 0
AreMade n = (o : ObjName) → IsConnected n o → n.there o ≡ true

-- from n to n' ends are made and connected, and the names of the numbers that were given stay
pub record NetGrows (n n' : Net) (numbers : List ℕ) : Type 0 where
  pub sides : (o : ObjName) → IsConnected n o → n'.side o ≡ n.side o
  pub ends : (o : ObjName) → IsConnected n o → n'.end o ≡ n.end o
  pub names : (k : ℕ) → Contains numbers k → n'.name k ≡ n.name k

pub joined_like : {o : ObjName} {x x' y y' : Side} {q q' p p' : End} → x' ≡ x → y' ≡ y → q' ≡ q → p' ≡ p → IsJoined o x y q p → IsJoined o x' y' q' p'
joined_like {o} {x} {x'} {y} {y'} {q} {q'} {p} {p'} a b c d j = subst (λ z. IsJoined o z y' q' p') (sym a) (subst (λ z. IsJoined o x z q' p') (sym b) (subst (λ z. IsJoined o x y z p') (sym c) (subst (λ z. IsJoined o x y q z) (sym d) j)))

module _ (n n' : Net) (numbers : List ℕ) (joined : AreJoined n) (made : AreMade n) (given : (o : ObjName) → n.there o ≡ true → Contains numbers (n.end o).number) (g : NetGrows n n' numbers) where
  peer_connected : (o : ObjName) → IsConnected n o → IsConnected n (peer n o)
  peer_connected o c = (joined o c).connected

  pub peer_kept : (o : ObjName) → IsConnected n o → peer n' o ≡ peer n o
  peer_kept o c = ap (λ e. e.peer) (g.ends o c)

  pub peer_side : (o : ObjName) → IsConnected n o → n'.side (peer n' o) ≡ n.side (peer n o)
  peer_side o c = ap n'.side (peer_kept o c) ∙ g.sides (peer n o) (peer_connected o c)

  pub peer_end : (o : ObjName) → IsConnected n o → n'.end (peer n' o) ≡ n.end (peer n o)
  peer_end o c = ap n'.end (peer_kept o c) ∙ g.ends (peer n o) (peer_connected o c)

  pub joined_kept : (o : ObjName) → IsConnected n o → IsJoined o (n'.side o) (n'.side (peer n' o)) (n'.end o) (n'.end (peer n' o))
  joined_kept o c = joined_like (g.sides o c) (peer_side o c) (g.ends o c) (peer_end o c) (joined o c)

  -- the name of a number that a connected end has
  name_kept : (k : ℕ) → IsConnected n (n.name k) → (n.end (n.name k)).number ≡ k → n'.name k ≡ n.name k
  name_kept k c e = g.names k (subst (Contains numbers) e (given (n.name k) (made (n.name k) c)))

  pub husk_kept : (h : HuskEntry) → HuskFact n h → HuskFact n' h
  husk_kept h f =
      let o : ObjName = n.name h.number in
      let name : n'.name h.number ≡ o = name_kept h.number f.connected f.number in
      subst (λ k. IsLeft (n'.side k) (n'.end k) (n'.end (peer n' k)) h) (sym name)
      (subst (λ x. IsLeft x (n'.end o) (n'.end (peer n' o)) h) (sym (g.sides o f.connected))
      (subst (λ e. IsLeft (n.side o) e (n'.end (peer n' o)) h) (sym (g.ends o f.connected))
      (subst (λ p. IsLeft (n.side o) (n.end o) p h) (sym (peer_end o f.connected)) f)))

  bytes_kept : (number : Option ℕ) (bytes : List ℕ) (d : Option Packet) → BytesFact n number bytes d → BytesFact n' number bytes d
  bytes_kept number bytes None f = f
  bytes_kept number bytes (Some d) f =
      let o : ObjName = n.name d.dest in
      let name : n'.name d.dest ≡ o = name_kept d.dest f.connected f.dest in
      subst (λ k. PacketFact (n'.side k) (n'.side (peer n' k)) (n'.end k) (n'.end (peer n' k)) number bytes d) (sym name)
      (subst (λ x. PacketFact x (n'.side (peer n' o)) (n'.end o) (n'.end (peer n' o)) number bytes d) (sym (g.sides o f.connected))
      (subst (λ y. PacketFact (n.side o) y (n'.end o) (n'.end (peer n' o)) number bytes d) (sym (peer_side o f.connected))
      (subst (λ e. PacketFact (n.side o) (n.side (peer n o)) e (n'.end (peer n' o)) number bytes d) (sym (g.ends o f.connected))
      (subst (λ p. PacketFact (n.side o) (n.side (peer n o)) (n.end o) p number bytes d) (sym (peer_end o f.connected)) f))))

  pub left_kept : (entries : List HuskEntry) → AreLeft n entries → AreLeft n' entries
  left_kept entries s h i = husk_kept h (s h i)

  pub sent_kept : (sent : List Flight) → AreSent n sent → AreSent n' sent
  sent_kept sent s k f h = bytes_kept f.number f.bytes (packet_of f.bytes) (s k f h)

  pub progressing_kept : (regions regions' : Name → List Region) → ((o : ObjName) → IsConnected n o → regions' o.context ≡ regions o.context) → AreProgressing n regions → (o : ObjName) → IsConnected n o → (n'.side (peer n' o)).rts ≡ true →
      IsProgress (n'.end o) (n'.end (peer n' o)).domain (regions' (peer n' o).context) (n'.side (peer n' o)).link.receiver.progress
  progressing_kept regions regions' same s o c rts =
      subst (λ q. IsProgress q (n'.end (peer n' o)).domain (regions' (peer n' o).context) (n'.side (peer n' o)).link.receiver.progress) (sym (g.ends o c))
      (subst (λ p. IsProgress (n.end o) p.domain (regions' (peer n' o).context) (n'.side (peer n' o)).link.receiver.progress) (sym (peer_end o c))
      (subst (λ rs. IsProgress (n.end o) (n.end (peer n o)).domain rs (n'.side (peer n' o)).link.receiver.progress) (sym (ap (λ k. regions' k.context) (peer_kept o c) ∙ same (peer n o) (peer_connected o c)))
      (subst (λ y. IsProgress (n.end o) (n.end (peer n o)).domain (regions (peer n o).context) y.link.receiver.progress) (sym (peer_side o c))
      (s o c (subst (λ y. y.rts ≡ true) (peer_side o c) rts)))))
