-- The facts of all ends, husks and datagrams are kept where ends move: their moving parts, their places and their next
-- numbers change, and nothing else.
use Rattle.std.proofs.Common.{arith, ◌≡◌, ◌≤◌, ◌⊎◌, ℕ, List, true, Bool, refl, sym, ap, ◌∙◌, subst, inl, inr}
use Rattle.std.specs.Prelude.{Option, Some, None}
use Rattle.rdma_types.specs.declared.names.Name.{Name}
use Rattle.rdma_types.specs.declared.names.ObjName.{ObjName}
use Rattle.rdma_types.specs.declared.requests.Address.{Address}
use Rattle.rdma_types.specs.Objects.{Region}
use Rattle.protocol.specs.declared.wire.ResumeBody.{ResumeBody}
use Rattle.protocol.specs.Wire.{Packet, packet_of}
use Rattle.protocol.specs.State.{Flight, HuskEntry, Moving}
use Rattle.packetless_machine.specs.Machine.{End}
use Rattle.law_simulation.specs.Packets.{Class, class_of, IsRequest, IsStopped, IsResume, IsResumeAck}
use Rattle.law_simulation.specs.Views.{Net, Side, peer}
use Rattle.law_simulation.specs.Joined.{IsJoined, IsProgress, IsHeardOf}
use Rattle.law_simulation.specs.Facts.{HuskFact, IsLeft, MoveFact, NumberedFact, ClassFact, BytesFact, PacketFact}
use Rattle.law_simulation.specs.Stands.{AreJoined, AreLeft, AreSent, AreProgressing}
use Rattle.law_simulation.proofs.relation.Grows.{IsConnected, joined_like}

-- the parts of an end that a move changes, and its place
pub record Parts : Type 0 where
  pub moving : Moving
  pub next : ℕ
  pub rnr_wait : Bool
  pub carried : Bool
  pub place : Option Address

-- the side with other such parts
abbrev pub moved_side : Side → Parts → Side
moved_side x u = record {
  link = record x.link { moving = u.moving; sender = record x.link.sender { next = u.next; rnr_wait = u.rnr_wait } };
  connected = x.connected;
  rts = x.rts;
  carried = u.carried;
  place = u.place;
}

-- from x to x' an end moves, and what was said of its moves stays true
pub record SideMoves (x x' : Side) : Type 0 where
  pub parts : Parts
  pub is : x' ≡ moved_side x parts
  -- it goes on, or it goes back to its oldest number
  pub goes : (parts.next ≡ x.link.sender.next) ⊎ (parts.next ≡ x.link.sender.una)
  pub stopped : (count : ℕ) → MoveFact x (IsStopped count) → MoveFact (moved_side x parts) (IsStopped count)
  pub resumed : (body : ResumeBody) → MoveFact x (IsResume body) → MoveFact (moved_side x parts) (IsResume body)
  pub recorded : x.link.moving.recorded ≤ parts.moving.recorded

-- an end that does not move
pub stays_put : (x x' : Side) → x' ≡ x → SideMoves x x'
stays_put x x' e = record {
  parts = record { moving = x.link.moving; next = x.link.sender.next; rnr_wait = x.link.sender.rnr_wait; carried = x.carried; place = x.place };
  is = e;
  goes = inl refl;
  stopped = λ count h. h;
  resumed = λ body h. h;
  recorded = omega arith;
}

-- ---- one connection

joined_moved : (o : ObjName) (x y : Side) (q p : End) (u v : Parts) → (u.next ≡ x.link.sender.next) ⊎ (u.next ≡ x.link.sender.una) → IsHeardOf (moved_side x u) (moved_side y v) → IsJoined o x y q p → IsJoined o (moved_side x u) (moved_side y v) q p
joined_moved o x y q p u v goes heard j = record {
  connected = j.connected;
  back = j.back;
  apart = j.apart;
  number = j.number;
  mtu = j.mtu;
  retry = j.retry;
  rnr = j.rnr;
  terms = j.terms;
  exchanged = j.exchanged;
  in_pieces = j.in_pieces;
  sends = λ h. let s = j.sends h in record { first = s.first; una = s.una; spent = s.spent; few = s.few; waits = s.waits };
  over = λ h. let s = j.over h in record { first = s.first; una = s.una; next = elim goes [ inl e ↦ e ∙ s.next | inr e ↦ e ∙ s.una ]; top = s.top };
  ordered = record {
    una_next = elim goes [ inl e ↦ omega (arith, e, j.ordered.una_next) | inr e ↦ omega (arith, e) ];
    next_top = elim goes [ inl e ↦ omega (arith, e, j.ordered.next_top) | inr e ↦ omega (arith, e, j.ordered.una_next, j.ordered.next_top) ];
    top_end = j.ordered.top_end;
    due_top = j.ordered.due_top;
    reach = j.ordered.reach;
    limit = j.ordered.limit;
  };
  fenced = j.fenced;
  receives = j.receives;
  idle = j.idle;
  heard_of = heard;
}

pub joined_like_moved : (o : ObjName) (x x' y y' : Side) (q p : End) → SideMoves x x' → SideMoves y y' → IsHeardOf x' y' → IsJoined o x y q p → IsJoined o x' y' q p
joined_like_moved o x x' y y' q p s t heard j =
    joined_like s.is t.is refl refl
    (joined_moved o x y q p s.parts t.parts s.goes (subst (λ z. IsHeardOf z (moved_side y t.parts)) s.is (subst (IsHeardOf x') t.is heard)) j)

-- ---- a husk's entry and a datagram

pub left_moved : (x x' : Side) (e p : End) (h : HuskEntry) → SideMoves x x' → IsLeft x e p h → IsLeft x' e p h
left_moved x x' e p h s l = subst (λ z. IsLeft z e p h) (sym s.is) (record { connected = l.connected; number = l.number; peer = l.peer; count = s.stopped h.moves l.count })

move_fact : (x x' : Side) (s : SideMoves x x') (c : Class) → MoveFact x c → MoveFact (moved_side x s.parts) c
move_fact x x' s (IsStopped count) h = s.stopped count h
move_fact x x' s (IsResume body) h = s.resumed body h
move_fact x x' s (IsResumeAck body) h = omega (arith, h, s.recorded)
move_fact x x' s other h = absurd h

numbered_fact : (p x : Side) (u v : Parts) (e g : End) (n : ℕ) (d : Packet) (c : Class) → NumberedFact p x e g n d c → NumberedFact (moved_side p u) (moved_side x v) e g n d c
numbered_fact p x u v e g n d IsRequest h = record { packet = h.packet; below_top = h.below_top; fenced = h.fenced }
numbered_fact p x u v e g n d other h = h

class_fact : (p x x' : Side) (u : Parts) (s : SideMoves x x') (e g : End) (n : Option ℕ) (d : Packet) → ClassFact p x e g n d → ClassFact (moved_side p u) (moved_side x s.parts) e g n d
class_fact p x x' u s e g None d h = move_fact x x' s (class_of d) h
class_fact p x x' u s e g (Some n) d h = numbered_fact p x u s.parts e g n d (class_of d) h

pub fact_moved : (p p' x x' : Side) (e g : End) (n : Option ℕ) (bytes : List ℕ) (d : Packet) → SideMoves p p' → SideMoves x x' → PacketFact p x e g n bytes d → PacketFact p' x' e g n bytes d
fact_moved p p' x x' e g n bytes d s t f =
    subst (λ z. PacketFact z x' e g n bytes d) (sym s.is)
    (subst (λ z. PacketFact (moved_side p s.parts) z e g n bytes d) (sym t.is)
    (record { spelled = f.spelled; connected = f.connected; dest = f.dest; fact = class_fact p x x' s.parts t e g n d f.fact }))

-- ---- all ends

-- the net in which ends have other sides
abbrev pub with_sides : Net → (ObjName → Side) → Net
with_sides n sides = record { side = sides; end = n.end; there = n.there; name = n.name }

-- ends move, and what each recorded of its peer is right
pub record NetMoves (n : Net) (sides : ObjName → Side) : Type 0 where
  pub connected : (o : ObjName) → (sides o).connected ≡ (n.side o).connected
  pub moves : (o : ObjName) → IsConnected n o → SideMoves (n.side o) (sides o)
  pub heard : (o : ObjName) → IsConnected n o → IsHeardOf (sides o) (sides (peer n o))

module _ (n : Net) (sides : ObjName → Side) (v : NetMoves n sides) (joined : AreJoined n) where
  was_connected : (o : ObjName) → (sides o).connected ≡ true → IsConnected n o
  was_connected o c = sym (v.connected o) ∙ c

  pub joined_all : AreJoined (with_sides n sides)
  joined_all o c =
      let c0 : IsConnected n o = was_connected o c in
      joined_like_moved o (n.side o) (sides o) (n.side (peer n o)) (sides (peer n o)) (n.end o) (n.end (peer n o)) (v.moves o c0) (v.moves (peer n o) (joined o c0).connected) (v.heard o c0) (joined o c0)

  pub husk_moved : (h : HuskEntry) → HuskFact n h → HuskFact (with_sides n sides) h
  husk_moved h f = left_moved (n.side (n.name h.number)) (sides (n.name h.number)) (n.end (n.name h.number)) (n.end (peer n (n.name h.number))) h (v.moves (n.name h.number) f.connected) f

  pub left_all : (entries : List HuskEntry) → AreLeft n entries → AreLeft (with_sides n sides) entries
  left_all entries s h i = husk_moved h (s h i)

  bytes_moved : (number : Option ℕ) (bytes : List ℕ) (d : Option Packet) → BytesFact n number bytes d → BytesFact (with_sides n sides) number bytes d
  bytes_moved number bytes None f = f
  bytes_moved number bytes (Some d) f =
      let o : ObjName = n.name d.dest in
      fact_moved (n.side o) (sides o) (n.side (peer n o)) (sides (peer n o)) (n.end o) (n.end (peer n o)) number bytes d (v.moves o f.connected) (v.moves (peer n o) (joined o f.connected).connected) f

  pub sent_all : (sent : List Flight) → AreSent n sent → AreSent (with_sides n sides) sent
  sent_all sent s k f h = bytes_moved f.number f.bytes (packet_of f.bytes) (s k f h)

  pub progressing_all : (regions : Name → List Region) → AreProgressing n regions → AreProgressing (with_sides n sides) regions
  progressing_all regions s o c rts =
      let c0 : IsConnected n o = was_connected o c in
      let is : sides (peer n o) ≡ moved_side (n.side (peer n o)) (v.moves (peer n o) (joined o c0).connected).parts = (v.moves (peer n o) (joined o c0).connected).is in
      subst (λ z. IsProgress (n.end o) (n.end (peer n o)).domain (regions (peer n o).context) z) (ap (λ (z : Side). z.link.receiver.progress) (sym is)) (s o c0 (ap (λ (z : Side). z.rts) (sym is) ∙ rts))
