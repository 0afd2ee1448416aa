-- One connected end learns more, or ends, and sends more: what is to be shown of it alone.
use Rattle.std.proofs.Common.{arith, ◌≡◌, ◌≤◌, ◌<◌, ◌+◌, ◌-◌, ◌⊎◌, ◌^◌, ℕ, zero, suc, List, [], ◌∷◌, length, true, false, Bool, refl, sym, ap, ◌∙◌, inl, inr}
use Rattle.std.specs.Prelude.{Option, Some, None, not, drop, take, ◌||◌}
use Rattle.std.specs.List.{list_any}
use Rattle.std.proofs.Math.Nat.{zero-mod}
use Rattle.std.proofs.lemmas.List.{drop-drop}
use Rattle.rdma_types.specs.declared.names.ObjName.{ObjName}
use Rattle.rdma_types.specs.Kinds.{kind_of, lands}
use Rattle.rdma_types.specs.Objects.{Posted}
use Rattle.rdma_types.specs.Spans.{end_number, request_of}
use Rattle.protocol.specs.State.{Sender, Link, HuskEntry, Phase, Running, Progress, NoMessage}
use Rattle.protocol.specs.Requester.{emptied_at}
use Rattle.protocol.specs.Wire.{Packet}
use Rattle.packetless_machine.specs.Machine.{End}
use Rattle.packetless_machine.specs.Numbers.{due}
use Rattle.packetless_machine.specs.Steps.{front}
use Rattle.law_simulation.specs.Packets.{Class, class_of, IsRequest, IsReadResponse, IsAtomicResponse, IsAck, IsSequenceNak, IsRefusal, IsReceiverNotReady, IsStopped, IsResume, IsResumeAck, IsNothing}
use Rattle.law_simulation.specs.Facts.{IsCarriedWith, IsLeft, IsRequestOf, NumberedFact, MoveFact, ClassFact, PacketFact}
use Rattle.law_simulation.specs.Views.{Side}
use Rattle.law_simulation.specs.Joined.{IsJoined, AreWholePieces, IsFencedIn, IsOrdered, Sends, lands_untold_before}
use Rattle.law_simulation.proofs.sending.GoNet.{Goes}
use Rattle.law_simulation.proofs.sending.GoStands.{with_link}

-- the link with another requester, which may be in Error
abbrev pub gone_link : Link → Sender → Bool → Phase → Progress → Link
gone_link l s b phase progress = record l { ended = b; moving = record l.moving { phase = phase }; sender = s; receiver = record l.receiver { progress = progress } }

-- the machine's end, whose owner learned more, and which may have ended
abbrev pub gone_end : End → ℕ → ℕ → ℕ → ℕ → Bool → End
gone_end q told known spent waits b = record q { told = told; known = known; spent = spent; waits = waits; ended = b }

-- ---- where more is told, no more is untold

taken_none : (test : Posted → Bool) (k : ℕ) → list_any test (take k []) ≡ false
taken_none test zero = refl
taken_none test (suc k) = refl

no_later : (a b : Bool) → (a || b) ≡ false → b ≡ false
no_later true b h = absurd (cc)
no_later false b h = h

none_dropped : (test : Posted → Bool) (xs : List Posted) (d k : ℕ) → list_any test (take k xs) ≡ false → list_any test (take (k - d) (drop d xs)) ≡ false
none_dropped test [] zero k h = taken_none test (k - 0)
none_dropped test [] (suc d) k h = taken_none test (k - suc d)
none_dropped test (r ∷ xs) zero k h = let same : k - 0 ≡ k = omega arith in ap (λ i. list_any test (take i (r ∷ xs))) same ∙ h
none_dropped test (r ∷ xs) (suc d) zero h = let none : 0 - suc d ≡ 0 = omega arith in ap (λ i. list_any test (take i (drop d xs))) none
none_dropped test (r ∷ xs) (suc d) (suc k) h = let same : suc k - suc d ≡ k - d = omega arith in ap (λ i. list_any test (take i (drop d xs))) same ∙ none_dropped test xs d k (no_later (test r) (list_any test (take k xs)) h)

pub lands_later : (q : End) (told known spent waits : ℕ) (b : Bool) (j : ℕ) → q.told ≤ told → lands_untold_before q j ≡ false → lands_untold_before (gone_end q told known spent waits b) j ≡ false
lands_later q told known spent waits b j l h =
    let rest : j - q.told - (told - q.told) ≡ j - told = omega (arith, l) in
    let all : q.told + (told - q.told) ≡ told = omega (arith, l) in
    ap (λ k. list_any (λ r. lands (kind_of r)) (take (j - told) (drop k q.posted))) (sym all)
    ∙ (ap (λ xs. list_any (λ r. lands (kind_of r)) (take (j - told) xs)) (sym (drop-drop (told - q.told) q.told q.posted))
    ∙ (ap (λ k. list_any (λ r. lands (kind_of r)) (take k (drop (told - q.told) (drop q.told q.posted)))) (sym rest)
    ∙ none_dropped (λ r. lands (kind_of r)) (drop q.told q.posted) (told - q.told) (j - q.told) h))

-- ---- husks

-- a count stays below the end's, or the end stays carried in Rts
carried_still : (x : Side) (l : Link) (count : ℕ) → l.moving.own ≡ x.link.moving.own → (x.carried ≡ true → x.rts ≡ true → (with_link x l).rts ≡ true) → (count < x.link.moving.own) ⊎ IsCarriedWith x count → (count < l.moving.own) ⊎ IsCarriedWith (with_link x l) count
carried_still x l count own stays (inl h) = inl (omega (arith, h, own))
carried_still x l count own stays (inr h) = inr (h.0, stays h.0 h.1, h.2 ∙ sym own)

left_own : (x : Side) (l : Link) (q p : End) (told known spent waits : ℕ) (b : Bool) (h : HuskEntry) → l.moving.own ≡ x.link.moving.own → (x.carried ≡ true → x.rts ≡ true → (with_link x l).rts ≡ true) → IsLeft x q p h → IsLeft (with_link x l) (gone_end q told known spent waits b) p h
left_own x l q p told known spent waits b h own stays t = record { connected = refl; number = t.number; peer = t.peer; count = carried_still x l h.moves own stays t.count }

left_peer : (y : Side) (q p : End) (told known spent waits : ℕ) (b : Bool) (h : HuskEntry) → IsLeft y p q h → IsLeft y p (gone_end q told known spent waits b) h
left_peer y q p told known spent waits b h t = record { connected = t.connected; number = t.number; peer = t.peer; count = t.count }

-- ---- datagrams

module _ (x y : Side) (q p : End) (s : Sender) (ended b : Bool) (phase : Phase) (progress : Progress) (told known spent waits : ℕ) where
  abbrev l : Link
  l = gone_link x.link s ended phase progress

  abbrev x' : Side
  x' = with_link x l

  abbrev q' : End
  q' = gone_end q told known spent waits b

  numbered_to : (n : ℕ) (d : Packet) (c : Class) → NumberedFact x y q p n d c → NumberedFact x' y q' p n d c
  unfolding due
  numbered_to n d IsRequest h = h
  numbered_to n d IsReadResponse h = (h.0, record { acted = h.1.acted; is_read = h.1.is_read; offer = h.1.offer })
  numbered_to n d IsAtomicResponse h = (h.0, record { value = h.1.value; says = h.1.says; first = h.1.first; answer = h.1.answer })
  numbered_to n d IsAck h = h
  numbered_to n d IsSequenceNak h = h
  numbered_to n d (IsRefusal is_access) h = (h.0, record { due = h.1.due; why = h.1.why; answer = h.1.answer; matches = h.1.matches })
  numbered_to n d IsReceiverNotReady h = (h.0, record { due = h.1.due; dry = h.1.dry })
  numbered_to n d (IsStopped count) h = h
  numbered_to n d (IsResume body) h = h
  numbered_to n d (IsResumeAck body) h = h
  numbered_to n d IsNothing h = h

  class_to : (n : Option ℕ) (d : Packet) → ClassFact x y q p n d → ClassFact x' y q' p n d
  class_to None d h = h
  class_to (Some n) d h = numbered_to n d (class_of d) h

  fact_to : (n : Option ℕ) (bytes : List ℕ) (d : Packet) → PacketFact x y q p n bytes d → PacketFact x' y q' p n bytes d
  fact_to n bytes d f = record { spelled = f.spelled; connected = refl; dest = f.dest; fact = class_to n d f.fact }

  module _ (more : q.told ≤ told) (top : x.link.sender.top ≤ s.top) (rts : x'.rts ≡ true → x.rts ≡ true) (stays : x.carried ≡ true → x.rts ≡ true → x'.rts ≡ true) where
    request_from : (n : ℕ) (d : Packet) → IsRequestOf x.link q n d → IsRequestOf l q' n d
    request_from n d h = record {
      packet = h.packet;
      below_top = omega (arith, h.below_top, top);
      fenced = λ f. lands_later q told known spent waits b (request_of q.posted q.mtu n) more (h.fenced f);
    }

    numbered_from : (n : ℕ) (d : Packet) (c : Class) → NumberedFact y x p q n d c → NumberedFact y x' p q' n d c
    numbered_from n d IsRequest h = request_from n d h
    numbered_from n d IsReadResponse h = h
    numbered_from n d IsAtomicResponse h = h
    numbered_from n d IsAck h = h
    numbered_from n d IsSequenceNak h = h
    numbered_from n d (IsRefusal is_access) h = h
    numbered_from n d IsReceiverNotReady h = h
    numbered_from n d (IsStopped count) h = h
    numbered_from n d (IsResume body) h = h
    numbered_from n d (IsResumeAck body) h = h
    numbered_from n d IsNothing h = h

    move_from : (c : Class) → MoveFact x c → MoveFact x' c
    move_from IsRequest h = h
    move_from IsReadResponse h = h
    move_from IsAtomicResponse h = h
    move_from IsAck h = h
    move_from IsSequenceNak h = h
    move_from (IsRefusal is_access) h = h
    move_from IsReceiverNotReady h = h
    move_from (IsStopped count) h = carried_still x l count refl stays h
    move_from (IsResume body) h = (h.0, λ a r. h.1 a (rts r))
    move_from (IsResumeAck body) h = h
    move_from IsNothing h = h

    class_from : (n : Option ℕ) (d : Packet) → ClassFact y x p q n d → ClassFact y x' p q' n d
    class_from None d h = move_from (class_of d) h
    class_from (Some n) d h = numbered_from n d (class_of d) h

    fact_from : (n : Option ℕ) (bytes : List ℕ) (d : Packet) → PacketFact y x p q n bytes d → PacketFact y x' p q' n bytes d
    fact_from n bytes d f = record { spelled = f.spelled; connected = f.connected; dest = f.dest; fact = class_from n d f.fact }

-- ---- an end in Rts goes on

-- what its requester keeps to
pub record Goes_on (s : Sender) (q : End) : Type 0 where
  pub sends : Sends s q
  pub ordered : IsOrdered s q
  pub fenced : IsFencedIn s q
  pub telling : AreWholePieces q.mtu (front q) q.known

module _ (o : ObjName) (x y : Side) (q p : End) (s : Sender) (told known spent waits : ℕ) (connected : x.connected ≡ true) (in_rts : x.rts ≡ true) (alive : x.link.ended ≡ false) (j : IsJoined o x y q p) (k : IsJoined q.peer y x p q)
    (more : q.told ≤ told) (top : x.link.sender.top ≤ s.top) where
  abbrev lively : Link
  lively = gone_link x.link s x.link.ended x.link.moving.phase x.link.receiver.progress

  abbrev later : End
  later = gone_end q told known spent waits q.ended

  own_on : Goes_on s later → IsJoined o (with_link x lively) y later p
  unfolding due
  own_on g = record {
    connected = j.connected;
    back = j.back;
    apart = j.apart;
    number = j.number;
    mtu = j.mtu;
    retry = j.retry;
    rnr = j.rnr;
    terms = j.terms;
    exchanged = j.exchanged;
    in_pieces = record { acting = j.in_pieces.acting; telling = g.telling; sayable = j.in_pieces.sayable; offers = j.in_pieces.offers; reads = j.in_pieces.reads; old_words = j.in_pieces.old_words };
    sends = λ h. g.sends;
    over = λ h. absurd (cc (alive, h));
    ordered = g.ordered;
    fenced = λ h. g.fenced;
    receives = λ h. let t = j.receives h in record { expected = t.expected; kept = t.kept; answered = t.answered };
    idle = j.idle;
    heard_of = record {
      known = j.heard_of.known;
      address = λ a r place h. j.heard_of.address a in_rts place h;
      settled = λ r r' still. j.heard_of.settled in_rts r' still;
      paused = j.heard_of.paused;
      one = λ r r' a b. j.heard_of.one in_rts r' a b;
      limit = j.heard_of.limit;
    };
  }

  other_on : IsJoined q.peer y (with_link x lively) p later
  other_on = record {
    connected = refl;
    back = k.back;
    apart = k.apart;
    number = k.number;
    mtu = k.mtu;
    retry = k.retry;
    rnr = k.rnr;
    terms = k.terms;
    exchanged = k.exchanged;
    in_pieces = k.in_pieces;
    sends = k.sends;
    over = k.over;
    ordered = k.ordered;
    fenced = k.fenced;
    receives = λ h. k.receives in_rts;
    idle = k.idle;
    heard_of = record {
      known = k.heard_of.known;
      address = k.heard_of.address;
      settled = λ r r' still. k.heard_of.settled r in_rts still;
      paused = λ r. k.heard_of.paused in_rts;
      one = λ r r' a b. k.heard_of.one r in_rts a b;
      limit = k.heard_of.limit;
    };
  }

  pub goes_on : Goes_on s later → Goes o x (with_link x lively) y q later p
  goes_on g = record {
    connected = refl;
    rts = λ h. in_rts;
    peer = refl;
    own = own_on g;
    other = other_on;
    acting = λ domain regions h. h;
    taking = λ regions r h. h;
    left = λ h. left_own x lively q p told known spent waits q.ended h refl (λ c r. ap not alive);
    left_other = λ h. left_peer y q p told known spent waits q.ended h;
    to = fact_to x y q p s x.link.ended q.ended x.link.moving.phase x.link.receiver.progress told known spent waits;
    from = fact_from x y q p s x.link.ended q.ended x.link.moving.phase x.link.receiver.progress told known spent waits more top (λ h. in_rts) (λ c r. ap not alive);
  }

-- ---- an end in Rts goes to Error

module _ (o : ObjName) (x y : Side) (q p : End) (n : ℕ) (connected : x.connected ≡ true) (in_rts : x.rts ≡ true) (here : x.carried ≡ false) (j : IsJoined o x y q p) (k : IsJoined q.peer y x p q) (told : q.told ≤ length q.posted)
    (end_of : n ≡ end_number q.posted q.mtu) (reach : end_number q.posted q.mtu ≤ due q + 2 ^ 20) where
  abbrev over_link : Link
  over_link = gone_link x.link (emptied_at n) true Running NoMessage

  abbrev over_end : End
  over_end = gone_end q (length q.posted) 0 0 0 true

  own_over : IsJoined o (with_link x over_link) y over_end p
  unfolding due
  own_over = record {
    connected = j.connected;
    back = j.back;
    apart = j.apart;
    number = j.number;
    mtu = j.mtu;
    retry = j.retry;
    rnr = j.rnr;
    terms = j.terms;
    exchanged = j.exchanged;
    in_pieces = record { acting = j.in_pieces.acting; telling = (zero-mod q.mtu, inl refl); sayable = j.in_pieces.sayable; offers = j.in_pieces.offers; reads = j.in_pieces.reads; old_words = j.in_pieces.old_words };
    sends = λ h. absurd (cc);
    over = λ h. record { first = end_of; una = end_of; next = end_of; top = end_of };
    ordered = record {
      una_next = omega arith;
      next_top = omega arith;
      top_end = omega (arith, end_of);
      due_top = omega (arith, end_of, j.ordered.due_top, j.ordered.top_end);
      reach = omega (arith, end_of, reach);
      limit = j.ordered.limit;
    };
    fenced = λ h. absurd (cc);
    receives = λ h. let t = j.receives h in record { expected = t.expected; kept = t.kept; answered = t.answered };
    idle = j.idle;
    heard_of = record {
      known = j.heard_of.known;
      address = λ a r. absurd (cc);
      settled = λ r. absurd (cc);
      paused = λ r h. inr (inr refl);
      one = λ r. absurd (cc);
      limit = j.heard_of.limit;
    };
  }

  other_over : IsJoined q.peer y (with_link x over_link) p over_end
  other_over = record {
    connected = refl;
    back = k.back;
    apart = k.apart;
    number = k.number;
    mtu = k.mtu;
    retry = k.retry;
    rnr = k.rnr;
    terms = k.terms;
    exchanged = k.exchanged;
    in_pieces = k.in_pieces;
    sends = k.sends;
    over = k.over;
    ordered = k.ordered;
    fenced = k.fenced;
    receives = λ h. absurd (cc);
    idle = λ h. refl;
    heard_of = record {
      known = k.heard_of.known;
      address = k.heard_of.address;
      settled = λ r r'. absurd (cc);
      paused = λ r. absurd (cc);
      one = λ r r'. absurd (cc);
      limit = k.heard_of.limit;
    };
  }

  pub goes_over : Goes o x (with_link x over_link) y q over_end p
  goes_over = record {
    connected = refl;
    rts = λ h. in_rts;
    peer = refl;
    own = own_over;
    other = other_over;
    acting = λ domain regions h. h;
    taking = λ regions r. absurd (cc);
    left = λ h. left_own x over_link q p (length q.posted) 0 0 0 true h refl (λ c r. absurd (cc (c, here)));
    left_other = λ h. left_peer y q p (length q.posted) 0 0 0 true h;
    to = fact_to x y q p (emptied_at n) true true Running NoMessage (length q.posted) 0 0 0;
    from = fact_from x y q p (emptied_at n) true true Running NoMessage (length q.posted) 0 0 0 told (omega (arith, end_of, j.ordered.top_end)) (λ h. in_rts) (λ c r. absurd (cc (c, here)));
  }

-- ---- an end begins or ends its wait for the timer

module _ (o : ObjName) (x y : Side) (q p : End) (b : Bool) (rts : x.rts ≡ not x.link.ended) (j : IsJoined o x y q p) (k : IsJoined q.peer y x p q) where
  abbrev waiting : Sender
  waiting = record x.link.sender { rnr_wait = b }

  abbrev waiting_link : Link
  waiting_link = record x.link { sender = waiting }

  pub goes_waited : Goes o x (with_link x waiting_link) y q q p
  goes_waited = record {
    connected = refl;
    rts = λ h. rts ∙ h;
    peer = refl;
    own = record {
      connected = j.connected;
      back = j.back;
      apart = j.apart;
      number = j.number;
      mtu = j.mtu;
      retry = j.retry;
      rnr = j.rnr;
      terms = j.terms;
      exchanged = j.exchanged;
      in_pieces = j.in_pieces;
      sends = λ h. let t = j.sends (rts ∙ h) in record { first = t.first; una = t.una; spent = t.spent; few = t.few; waits = t.waits };
      over = λ h. let t = j.over h in record { first = t.first; una = t.una; next = t.next; top = t.top };
      ordered = let t = j.ordered in record { una_next = t.una_next; next_top = t.next_top; top_end = t.top_end; due_top = t.due_top; reach = t.reach; limit = t.limit };
      fenced = λ h. j.fenced (rts ∙ h);
      receives = j.receives;
      idle = j.idle;
      heard_of = record {
        known = j.heard_of.known;
        address = λ a r. j.heard_of.address a (rts ∙ r);
        settled = λ r. j.heard_of.settled (rts ∙ r);
        paused = j.heard_of.paused;
        one = λ r. j.heard_of.one (rts ∙ r);
        limit = j.heard_of.limit;
      };
    };
    other = record {
      connected = refl;
      back = k.back;
      apart = k.apart;
      number = k.number;
      mtu = k.mtu;
      retry = k.retry;
      rnr = k.rnr;
      terms = k.terms;
      exchanged = k.exchanged;
      in_pieces = k.in_pieces;
      sends = k.sends;
      over = k.over;
      ordered = k.ordered;
      fenced = k.fenced;
      receives = λ h. k.receives (rts ∙ h);
      idle = k.idle;
      heard_of = record {
        known = k.heard_of.known;
        address = k.heard_of.address;
        settled = λ r r'. k.heard_of.settled r (rts ∙ r');
        paused = λ r. k.heard_of.paused (rts ∙ r);
        one = λ r r'. k.heard_of.one r (rts ∙ r');
        limit = k.heard_of.limit;
      };
    };
    acting = λ domain regions h. h;
    taking = λ regions r h. h;
    left = λ h. left_own x waiting_link q p q.told q.known q.spent q.waits q.ended h refl (λ c r. sym rts ∙ r);
    left_other = λ h t. t;
    to = fact_to x y q p waiting x.link.ended q.ended x.link.moving.phase x.link.receiver.progress q.told q.known q.spent q.waits;
    from = fact_from x y q p waiting x.link.ended q.ended x.link.moving.phase x.link.receiver.progress q.told q.known q.spent q.waits (omega arith) (omega arith) (λ h. rts ∙ h) (λ c r. sym rts ∙ r);
  }
