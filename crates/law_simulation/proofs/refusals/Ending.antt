-- An end in Rts goes to Error while it refuses the current request of its peer: what is kept of the connection.
use Rattle.std.proofs.Common.{arith, ◌≡◌, ◌≤◌, ◌<◌, ◌+◌, ◌-◌, ◌*◌, ◌/◌, ◌^◌, ◌⊎◌, ℕ, zero, suc, List, [], ◌∷◌, ◌++◌, length, get_or, true, false, Bool, refl, ap, ◌∙◌, inl, inr}
use Rattle.std.specs.Prelude.{Option, Some, None, max, drop, take, if◌then◌else◌, slice_get}
use Rattle.std.specs.List.{list_any}
use Rattle.std.proofs.Math.Nat.{zero-mod}
use Rattle.std.proofs.lemmas.List.{drop_all}
use Rattle.rdma_types.specs.declared.names.ObjName.{ObjName}
use Rattle.rdma_types.specs.declared.answers.RefusalReason.{RefusalReason}
use Rattle.rdma_types.specs.Kinds.{is_atomic, kind_of, lands, size_of}
use Rattle.rdma_types.specs.Limits.{is_mtu, most_bytes}
use Rattle.rdma_types.specs.Objects.{Posted, no_posted}
use Rattle.rdma_types.specs.Spans.{pieces, span, span_of, first_number, end_number, request_of}
use Rattle.protocol.specs.State.{Link, HuskEntry, Running, NoMessage}
use Rattle.protocol.specs.Requester.{emptied_at}
use Rattle.protocol.specs.Wire.{Packet}
use Rattle.packetless_machine.specs.declared.reply.Reply.TheVariants.{OldValue, Denied}
use Rattle.packetless_machine.specs.Machine.{End, untold_count}
use Rattle.packetless_machine.specs.Numbers.{due, oldest}
use Rattle.packetless_machine.specs.Sound.{IsSound}
use Rattle.packetless_machine.specs.Steps.{closed}
use Rattle.law_simulation.specs.Packets.{Class, class_of, IsRequest, IsReadResponse, IsAtomicResponse, IsAck, IsSequenceNak, IsRefusal, IsReceiverNotReady, IsStopped, IsResume, IsResumeAck, IsNothing}
use Rattle.law_simulation.specs.Facts.{IsCarriedWith, IsLeft, IsRequestOf, IsRefused, NumberedFact, MoveFact, ClassFact}
use Rattle.law_simulation.specs.Views.{Side}
use Rattle.std.proofs.lemmas.List.Elements.{All-push}
use Rattle.law_simulation.specs.Joined.{IsJoined, IsHeardOf, IsWordReply, lands_untold_before}
use Rattle.law_simulation.proofs.relation.Numbers.{first-rest}
use Rattle.law_simulation.proofs.delivery.Lifted.{side_now}
use Rattle.law_simulation.proofs.delivery.Pairs.{IsKept}
use Rattle.law_simulation.proofs.requests.Due.{mtu_is}
use Rattle.law_simulation.proofs.requests.Acted.{got_before}
use Rattle.law_simulation.proofs.refusals.Noted.{noted}

-- ---- few numbers are unacknowledged

few_pieces : (size mtu : ℕ) → is_mtu mtu ≡ true → size ≤ 1048576 → max 1 ((size + (mtu - 1)) / mtu) ≤ 4096
few_pieces size mtu h small = mtu_is (λ k. max 1 ((size + (k - 1)) / k) ≤ 4096) (omega (arith, small)) (omega (arith, small)) (omega (arith, small)) (omega (arith, small)) (omega (arith, small)) mtu h

span_small : (r : Posted) (mtu : ℕ) → is_mtu mtu ≡ true → size_of r ≤ most_bytes → span_of r mtu ≤ 4096
unfolding span pieces
span_small r mtu h small = by_kind (is_atomic r.request.shape.kind)
  where
    by_kind : (b : Bool) → (if b then 1 else max 1 ((r.request.shape.length + (mtu - 1)) / mtu)) ≤ 4096
    by_kind true = omega arith
    by_kind false = few_pieces r.request.shape.length mtu h small

-- requests from a place on have few numbers
rest_small : (posted : List Posted) (mtu told : ℕ) → is_mtu mtu ≡ true → ((i : ℕ) → i < length posted → size_of (get_or posted i no_posted) ≤ most_bytes) → end_number (drop told posted) mtu ≤ 4096 * (length posted - told)
unfolding end_number
rest_small [] mtu zero h sizes = omega arith
rest_small [] mtu (suc told) h sizes = omega arith
rest_small (r ∷ posted) mtu zero h sizes =
    let here : span_of r mtu ≤ 4096 = span_small r mtu h (sizes 0 (omega arith)) in
    let rest : end_number posted mtu ≤ 4096 * (length posted - 0) = rest_small posted mtu zero h (λ i l. sizes (suc i) (omega (arith, l))) in
    omega (arith, here, rest)
rest_small (r ∷ posted) mtu (suc told) h sizes = omega (arith, rest_small posted mtu told h (λ i l. sizes (suc i) (omega (arith, l))))

-- ---- first numbers

first_mono : (posted : List Posted) (mtu i j : ℕ) → i ≤ j → first_number posted mtu i ≤ first_number posted mtu j
unfolding first_number
first_mono [] mtu i j l = omega arith
first_mono (r ∷ posted) mtu zero j l = omega arith
first_mono (r ∷ posted) mtu (suc i) zero l = absurd (omega (arith, l))
first_mono (r ∷ posted) mtu (suc i) (suc j) l = omega (arith, first_mono posted mtu i j (omega (arith, l)))

-- the end of the numbers is near the number that acts next
pub end_near : (q : End) → IsSound q → is_mtu q.mtu ≡ true → q.ended ≡ false → q.send_depth ≤ 256 → end_number q.posted q.mtu ≤ due q + 2 ^ 20
unfolding due untold_count
end_near q s mtu alive depth =
    let few : end_number (drop q.told q.posted) q.mtu ≤ 4096 * (length q.posted - q.told) = rest_small q.posted q.mtu q.told mtu s.sizes in
    let before : first_number q.posted q.mtu q.told ≤ first_number q.posted q.mtu q.acted = first_mono q.posted q.mtu q.told q.acted (s.told_acted alive) in
    omega (arith, few, before, first-rest q.posted q.mtu q.told s.told_posted, s.depth, depth)

-- ---- nothing is untold of an end that failed

none_taken : (test : Posted → Bool) (k : ℕ) → list_any test (take k []) ≡ false
none_taken test zero = refl
none_taken test (suc k) = refl

pub nothing_untold : (e : End) (j : ℕ) → lands_untold_before (closed e) j ≡ false
unfolding closed
nothing_untold e j = ap (λ rs. list_any (λ r. lands (kind_of r)) (take (j - length e.posted) rs)) (drop_all (length e.posted) e.posted (omega arith)) ∙ none_taken (λ r. lands (kind_of r)) (j - length e.posted)

got_inside : {A : Type 0} (xs : List A) (i : ℕ) (a : A) → slice_get xs i ≡ Some a → i < length xs
got_inside [] i a h = absurd (cc)
got_inside (y ∷ ys) zero a h = omega arith
got_inside (y ∷ ys) (suc i) a h = omega (arith, got_inside ys i a h)

-- ---- the connection

-- the link of an end in Error, whose numbers end at n
abbrev pub over_link : Link → ℕ → Link
over_link l n = record l { ended = true; moving = record l.moving { phase = Running }; sender = emptied_at n; receiver = record l.receiver { progress = NoMessage } }

-- the requests once the current one is refused
abbrev pub denying : End → RefusalReason → End
denying g why = noted g (g.answers ++ Denied why ∷ []) g.dry

module _ (o q : ObjName) (x y : Side) (e g : End) (n : ℕ) (why : RefusalReason) (rts : x.rts ≡ true) (here : x.carried ≡ false) (j : IsJoined o x y e g) (k : IsJoined q y x g e) (ends : n ≡ end_number e.posted e.mtu) (reach : end_number e.posted e.mtu ≤ due e + 2 ^ 20) where
  abbrev x' : Side
  x' = side_now x (over_link x.link n)

  abbrev e' : End
  e' = closed e

  abbrev g' : End
  g' = denying g why

  heard : IsHeardOf x' y
  heard = record { known = j.heard_of.known; address = λ at r. absurd (cc); settled = λ r. absurd (cc); paused = λ r h. inr (inr refl); one = λ r. absurd (cc); limit = j.heard_of.limit }

  heard_back : IsHeardOf y x'
  heard_back = record { known = k.heard_of.known; address = k.heard_of.address; settled = λ r r'. absurd (cc); paused = λ r. absurd (cc); one = λ r r'. absurd (cc); limit = k.heard_of.limit }

  joined_here : IsJoined o x' y e' g'
  unfolding due closed
  joined_here = record {
    connected = j.connected;
    back = j.back;
    apart = j.apart;
    number = j.number;
    mtu = j.mtu;
    retry = j.retry;
    rnr = j.rnr;
    terms = j.terms;
    exchanged = j.exchanged;
    in_pieces = record { acting = j.in_pieces.acting; telling = (zero-mod e.mtu, inl refl); sayable = j.in_pieces.sayable; offers = j.in_pieces.offers; reads = j.in_pieces.reads; old_words = j.in_pieces.old_words };
    sends = λ h. absurd (cc);
    over = λ h. record { first = ends; una = ends; next = ends; top = ends };
    ordered = record {
      una_next = omega arith;
      next_top = omega arith;
      top_end = omega (arith, ends);
      due_top = omega (arith, ends, j.ordered.due_top, j.ordered.top_end);
      reach = omega (arith, ends, reach);
      limit = j.ordered.limit;
    };
    fenced = λ h. absurd (cc);
    receives = λ h. let t = j.receives h in record { expected = t.expected; kept = t.kept; answered = t.answered };
    idle = j.idle;
    heard_of = heard;
  }

  joined_back : IsJoined q y x' g' e'
  unfolding due oldest closed
  joined_back = record {
    connected = k.connected;
    back = k.back;
    apart = k.apart;
    number = k.number;
    mtu = k.mtu;
    retry = k.retry;
    rnr = k.rnr;
    terms = k.terms;
    exchanged = k.exchanged;
    in_pieces = record { acting = k.in_pieces.acting; telling = k.in_pieces.telling; sayable = k.in_pieces.sayable; offers = k.in_pieces.offers; reads = k.in_pieces.reads; old_words = All-push IsWordReply g.answers (Denied why) k.in_pieces.old_words tt };
    sends = λ h. let s = k.sends h in record { first = s.first; una = s.una; spent = s.spent; few = s.few; waits = s.waits };
    over = λ h. let s = k.over h in record { first = s.first; una = s.una; next = s.next; top = s.top };
    ordered = record {
      una_next = k.ordered.una_next;
      next_top = k.ordered.next_top;
      top_end = k.ordered.top_end;
      due_top = k.ordered.due_top;
      reach = k.ordered.reach;
      limit = k.ordered.limit;
    };
    fenced = λ h i inside fence untold. k.fenced h i inside fence untold;
    receives = λ h. absurd (cc);
    idle = λ h. refl;
    heard_of = heard_back;
  }

  -- ---- husks

  below : (count : ℕ) → (count < x.link.moving.own) ⊎ IsCarriedWith x count → (count < x'.link.moving.own) ⊎ IsCarriedWith x' count
  below count (inl h) = inl h
  below count (inr h) = absurd (cc (h.0, here))

  left_here : (h : HuskEntry) → IsLeft x e g h → IsLeft x' e' g' h
  unfolding closed
  left_here h t = record { connected = t.connected; number = t.number; peer = t.peer; count = below h.moves t.count }

  left_back : (h : HuskEntry) → IsLeft y g e h → IsLeft y g' e' h
  unfolding closed
  left_back h t = record { connected = t.connected; number = t.number; peer = t.peer; count = t.count }

  -- ---- datagrams

  numbered_here : (i : ℕ) (d : Packet) (c : Class) → NumberedFact x y e g i d c → NumberedFact x' y e' g' i d c
  unfolding due closed
  numbered_here i d IsRequest h = record { packet = h.packet; below_top = h.below_top; fenced = h.fenced }
  numbered_here i d IsReadResponse h = (h.0, record { acted = h.1.acted; is_read = h.1.is_read; offer = h.1.offer })
  numbered_here i d IsAtomicResponse h = (h.0, record { value = h.1.value; says = h.1.says; first = h.1.first; answer = h.1.answer })
  numbered_here i d IsAck h = h
  numbered_here i d IsSequenceNak h = h
  numbered_here i d (IsRefusal is_access) h = (h.0, record { due = h.1.due; why = h.1.why; answer = h.1.answer; matches = h.1.matches })
  numbered_here i d IsReceiverNotReady h = (h.0, record { due = h.1.due; dry = h.1.dry })
  numbered_here i d (IsStopped count) h = h
  numbered_here i d (IsResume body) h = h
  numbered_here i d (IsResumeAck body) h = h
  numbered_here i d IsNothing h = h

  class_here : (i : Option ℕ) (d : Packet) → ClassFact x y e g i d → ClassFact x' y e' g' i d
  class_here None d h = h
  class_here (Some i) d h = numbered_here i d (class_of d) h

  -- where the responder is in Rts, nothing was refused before
  not_refused : (i : ℕ) (is_access : Bool) → IsRefused g i is_access → ⊥
  not_refused i is_access h = omega (arith, got_inside g.answers g.acted (Denied h.why) h.answer, (k.receives rts).answered)

  request_back : (i : ℕ) (d : Packet) → IsRequestOf x.link e i d → IsRequestOf x'.link e' i d
  unfolding closed
  request_back i d h = record {
    packet = h.packet;
    below_top = omega (arith, h.below_top, j.ordered.top_end, ends);
    fenced = λ f. nothing_untold e (request_of e.posted e.mtu i);
  }

  numbered_back : (i : ℕ) (d : Packet) (c : Class) → NumberedFact y x g e i d c → NumberedFact y x' g' e' i d c
  unfolding due
  numbered_back i d IsRequest h = request_back i d h
  numbered_back i d IsReadResponse h = (h.0, record { acted = h.1.acted; is_read = h.1.is_read; offer = h.1.offer })
  numbered_back i d IsAtomicResponse h = (h.0, record { value = h.1.value; says = h.1.says; first = h.1.first; answer = got_before g.answers (Denied why) (request_of g.posted g.mtu i) (OldValue h.1.value) h.1.answer })
  numbered_back i d IsAck h = h
  numbered_back i d IsSequenceNak h = h
  numbered_back i d (IsRefusal is_access) h = absurd (not_refused i is_access h.1)
  numbered_back i d IsReceiverNotReady h = (h.0, record { due = h.1.due; dry = h.1.dry })
  numbered_back i d (IsStopped count) h = h
  numbered_back i d (IsResume body) h = h
  numbered_back i d (IsResumeAck body) h = h
  numbered_back i d IsNothing h = h

  move_back : (c : Class) → MoveFact x c → MoveFact x' c
  move_back IsRequest h = h
  move_back IsReadResponse h = h
  move_back IsAtomicResponse h = h
  move_back IsAck h = h
  move_back IsSequenceNak h = h
  move_back (IsRefusal is_access) h = h
  move_back IsReceiverNotReady h = h
  move_back (IsStopped count) h = below count h
  move_back (IsResume body) h = (h.0, λ at r. absurd (cc))
  move_back (IsResumeAck body) h = h
  move_back IsNothing h = h

  class_back : (i : Option ℕ) (d : Packet) → ClassFact y x g e i d → ClassFact y x' g' e' i d
  class_back None d h = move_back (class_of d) h
  class_back (Some i) d h = numbered_back i d (class_of d) h

  pub over_here : IsKept o x x' y y e e' g g'
  unfolding closed
  over_here = record {
    joined = joined_here;
    left = left_here;
    facts = λ number bytes d f. record { spelled = f.spelled; connected = f.connected; dest = f.dest; fact = class_here number d f.fact };
  }

  pub over_back : IsKept q y y x x' g g' e e'
  unfolding closed
  over_back = record {
    joined = joined_back;
    left = left_back;
    facts = λ number bytes d f. record { spelled = f.spelled; connected = f.connected; dest = f.dest; fact = class_back number d f.fact };
  }
