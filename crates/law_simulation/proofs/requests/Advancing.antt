-- What is kept of a connection where its responder, in Rts, comes to other counts, and the machine's requests come further.
use Rattle.std.proofs.Common.{arith, ◌≡◌, ◌<◌, ◌≤◌, ◌⊎◌, ℕ, zero, suc, List, [], ◌∷◌, length, true, false, Bool, ap, inl, inr}
use Rattle.std.specs.Prelude.{Option, Some, None, slice_get, Contains, All, not}
use Rattle.rdma_types.specs.declared.names.ObjName.{ObjName}
use Rattle.rdma_types.specs.Kinds.{is_read, kind_of}
use Rattle.rdma_types.specs.Spans.{request_of}
use Rattle.protocol.specs.State.{Link, Receiver, HuskEntry}
use Rattle.protocol.specs.Wire.{Packet}
use Rattle.packetless_machine.specs.declared.reply.Reply.{Reply}
use Rattle.packetless_machine.specs.declared.reply.Reply.TheVariants.{OldValue, Denied}
use Rattle.packetless_machine.specs.Machine.{End, Offered, posted_at}
use Rattle.packetless_machine.specs.Numbers.{due, oldest}
use Rattle.packetless_machine.specs.Steps.{current}
use Rattle.law_simulation.specs.Packets.{Class, class_of, IsRequest, IsReadResponse, IsAtomicResponse, IsAck, IsSequenceNak, IsRefusal, IsReceiverNotReady, IsStopped, IsResume, IsResumeAck, IsNothing}
use Rattle.law_simulation.specs.Views.{Side}
use Rattle.law_simulation.specs.Joined.{IsJoined, IsInPieces, AreWholePieces, IsHeardOf, IsUnwrapped, IsWordReply, Receives}
use Rattle.law_simulation.specs.Facts.{IsCarriedWith, IsLeft, IsRefused, NumberedFact, MoveFact, ClassFact}
use Rattle.law_simulation.proofs.delivery.Lifted.{side_now}
use Rattle.law_simulation.proofs.delivery.Pairs.{IsKept}

-- the link with another responder
abbrev pub got : Link → Receiver → Link
got l r = record l { receiver = r }

-- the requests come to other counts, answers, offers and dry turns
abbrev pub moved_on : End → ℕ → ℕ → List Reply → List Offered → List ℕ → End
moved_on g acted into answers offers dry = record g { acted = acted; into = into; answers = answers; offers = offers; dry = dry }

-- the requests g come further, and are g'; `top` is that of their requester, and r the responder's counts then
pub record IsAdvance (g : End) (acted into : ℕ) (answers : List Reply) (offers : List Offered) (dry : List ℕ) (top : ℕ) (r : Receiver) : Type 0 where
  pub due_up : due g ≤ due (moved_on g acted into answers offers dry)
  pub due_top : due (moved_on g acted into answers offers dry) ≤ top
  pub acted_up : g.acted ≤ acted
  pub answers_kept : (i : ℕ) (a : Reply) → slice_get g.answers i ≡ Some a → slice_get answers i ≡ Some a
  pub offers_kept : (f : Offered) → Contains g.offers f → Contains offers f
  pub dry_kept : (i : ℕ) → Contains g.dry i → Contains dry i
  pub acting : AreWholePieces g.mtu (current (moved_on g acted into answers offers dry)) into
  pub offers_said : All (λ f. All (λ b. b < 256) f.bytes) offers
  pub reads : (i : ℕ) → i < acted → is_read (kind_of (posted_at g.posted i)) ≡ true → IsUnwrapped (posted_at g.posted i)
  pub old_words : All IsWordReply answers
  pub receives : Receives r (moved_on g acted into answers offers dry)

got_inside : {A : Type 0} (xs : List A) (i : ℕ) (x : A) → slice_get xs i ≡ Some x → i < length xs
got_inside [] i x h = absurd (cc)
got_inside (y ∷ ys) zero x h = omega arith
got_inside (y ∷ ys) (suc i) x h = omega (arith, got_inside ys i x h)

module _ (o q : ObjName) (x y : Side) (e g : End) (acted into : ℕ) (answers : List Reply) (offers : List Offered) (dry : List ℕ) (r : Receiver)
    (alive : x.link.ended ≡ false) (rts : x.rts ≡ true) (j : IsJoined o x y e g) (k : IsJoined q y x g e) (a : IsAdvance g acted into answers offers dry y.link.sender.top r) where
  abbrev g' : End
  g' = moved_on g acted into answers offers dry

  abbrev x' : Side
  x' = side_now x (got x.link r)

  heard : IsHeardOf x' y
  heard = record { known = j.heard_of.known; address = λ at h. j.heard_of.address at rts; settled = λ h. j.heard_of.settled rts; paused = j.heard_of.paused; one = λ h. j.heard_of.one rts; limit = j.heard_of.limit }

  heard_back : IsHeardOf y x'
  heard_back = record { known = k.heard_of.known; address = k.heard_of.address; settled = λ h h'. k.heard_of.settled h rts; paused = λ h. k.heard_of.paused rts; one = λ h h'. k.heard_of.one h rts; limit = k.heard_of.limit }

  joined_here : IsJoined o x' y e g'
  joined_here = record {
    connected = j.connected;
    back = j.back;
    apart = j.apart;
    number = j.number;
    mtu = j.mtu;
    retry = j.retry;
    rnr = j.rnr;
    terms = j.terms;
    exchanged = j.exchanged;
    in_pieces = j.in_pieces;
    sends = λ h. j.sends rts;
    over = j.over;
    ordered = j.ordered;
    fenced = λ h. j.fenced rts;
    receives = j.receives;
    idle = j.idle;
    heard_of = heard;
  }

  joined_back : IsJoined q y x' g' e
  unfolding oldest
  joined_back = record {
    connected = k.connected;
    back = k.back;
    apart = k.apart;
    number = k.number;
    mtu = k.mtu;
    retry = k.retry;
    rnr = k.rnr;
    terms = k.terms;
    exchanged = k.exchanged;
    in_pieces = record { acting = a.acting; telling = k.in_pieces.telling; sayable = k.in_pieces.sayable; offers = a.offers_said; reads = a.reads; old_words = a.old_words };
    sends = λ h. let s = k.sends h in record { first = s.first; una = s.una; spent = s.spent; few = s.few; waits = s.waits };
    over = λ h. let s = k.over h in record { first = s.first; una = s.una; next = s.next; top = s.top };
    ordered = record {
      una_next = k.ordered.una_next;
      next_top = k.ordered.next_top;
      top_end = k.ordered.top_end;
      due_top = a.due_top;
      reach = omega (arith, k.ordered.reach, a.due_up);
      limit = k.ordered.limit;
    };
    fenced = λ h i inside fence lands. k.fenced h i inside fence lands;
    receives = λ h. a.receives;
    idle = λ h. absurd (cc (alive, h));
    heard_of = heard_back;
  }

  -- it stays carried, where it is
  carried_here : (count : ℕ) → (count < x.link.moving.own) ⊎ IsCarriedWith x count → (count < x'.link.moving.own) ⊎ IsCarriedWith x' count
  carried_here count (inl h) = inl h
  carried_here count (inr h) = inr (h.0, ap not alive, h.2)

  left_here : (h : HuskEntry) → IsLeft x e g h → IsLeft x' e g' h
  left_here h l = record { connected = l.connected; number = l.number; peer = l.peer; count = carried_here h.moves l.count }

  left_back : (h : HuskEntry) → IsLeft y g e h → IsLeft y g' e h
  left_back h l = record { connected = l.connected; number = l.number; peer = l.peer; count = l.count }

  numbered_here : (n : ℕ) (d : Packet) (c : Class) → NumberedFact x y e g n d c → NumberedFact x' y e g' n d c
  numbered_here n d IsRequest h = record { packet = h.packet; below_top = h.below_top; fenced = h.fenced }
  numbered_here n d IsReadResponse h = h
  numbered_here n d IsAtomicResponse h = h
  numbered_here n d IsAck h = h
  numbered_here n d IsSequenceNak h = h
  numbered_here n d (IsRefusal is_access) h = h
  numbered_here n d IsReceiverNotReady h = h
  numbered_here n d (IsStopped count) h = h
  numbered_here n d (IsResume body) h = h
  numbered_here n d (IsResumeAck body) h = h
  numbered_here n d IsNothing h = h

  class_here : (n : Option ℕ) (d : Packet) → ClassFact x y e g n d → ClassFact x' y e g' n d
  class_here None d h = h
  class_here (Some n) d h = numbered_here n d (class_of d) h

  -- where the responder is in Rts, nothing was refused
  not_refused : (n : ℕ) (is_access : Bool) → IsRefused g n is_access → ⊥
  not_refused n is_access h = omega (arith, got_inside g.answers g.acted (Denied h.why) h.answer, (k.receives rts).answered)

  numbered_back : (n : ℕ) (d : Packet) (c : Class) → NumberedFact y x g e n d c → NumberedFact y x' g' e n d c
  numbered_back n d IsRequest h = record { packet = h.packet; below_top = h.below_top; fenced = h.fenced }
  numbered_back n d IsReadResponse h = (h.0, record { acted = omega (arith, h.1.acted, a.acted_up); is_read = h.1.is_read; offer = a.offers_kept _ h.1.offer })
  numbered_back n d IsAtomicResponse h = (h.0, record { value = h.1.value; says = h.1.says; first = h.1.first; answer = a.answers_kept (request_of g.posted g.mtu n) (OldValue h.1.value) h.1.answer })
  numbered_back n d IsAck h = (h.0, omega (arith, h.1, a.due_up))
  numbered_back n d IsSequenceNak h = (h.0, omega (arith, h.1, a.due_up))
  numbered_back n d (IsRefusal is_access) h = absurd (not_refused n is_access h.1)
  numbered_back n d IsReceiverNotReady h = (h.0, record { due = omega (arith, h.1.due, a.due_up); dry = a.dry_kept (request_of g.posted g.mtu n) h.1.dry })
  numbered_back n d (IsStopped count) h = h
  numbered_back n d (IsResume body) h = h
  numbered_back n d (IsResumeAck body) h = h
  numbered_back n d IsNothing h = h

  move_back : (c : Class) → MoveFact x c → MoveFact x' c
  move_back IsRequest h = h
  move_back IsReadResponse h = h
  move_back IsAtomicResponse h = h
  move_back IsAck h = h
  move_back IsSequenceNak h = h
  move_back (IsRefusal is_access) h = h
  move_back IsReceiverNotReady h = h
  move_back (IsStopped count) h = carried_here count h
  move_back (IsResume body) h = (h.0, λ at h'. h.1 at rts)
  move_back (IsResumeAck body) h = h
  move_back IsNothing h = h

  class_back : (n : Option ℕ) (d : Packet) → ClassFact y x g e n d → ClassFact y x' g' e n d
  class_back None d h = move_back (class_of d) h
  class_back (Some n) d h = numbered_back n d (class_of d) h

  pub kept_here : IsKept o x x' y y e e g g'
  kept_here = record {
    joined = joined_here;
    left = left_here;
    facts = λ number bytes d f. record { spelled = f.spelled; connected = f.connected; dest = f.dest; fact = class_here number d f.fact };
  }

  pub kept_back : IsKept q y y x x' g g' e e
  kept_back = record {
    joined = joined_back;
    left = left_back;
    facts = λ number bytes d f. record { spelled = f.spelled; connected = f.connected; dest = f.dest; fact = class_back number d f.fact };
  }

-- where only the responder's other fields change
pub no_advance : (g : End) (top : ℕ) (r : Receiver) → due g ≤ top → IsInPieces g → Receives r g → IsAdvance g g.acted g.into g.answers g.offers g.dry top r
no_advance g top r within pieces receives = record {
  due_up = omega arith;
  due_top = within;
  acted_up = omega arith;
  answers_kept = λ i a h. h;
  offers_kept = λ f h. h;
  dry_kept = λ i h. h;
  acting = pieces.acting;
  offers_said = pieces.offers;
  reads = pieces.reads;
  old_words = pieces.old_words;
  receives = receives;
}
