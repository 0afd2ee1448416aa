-- A repeated atomic: its old value is answered again, where it is kept, and the machine makes no step.
use Rattle.std.proofs.Common.{arith, ◌≡◌, ◌<◌, ◌^◌, ◌+◌, ◌-◌, ℕ, zero, suc, List, [], ◌∷◌, ◌++◌, length, true, false, Bool, refl, sym, ap, ◌∙◌, subst, inl, inr}
use Rattle.std.specs.Prelude.{Option, Some, None, ◌==◌, All, Contains, slice_get, take, drop}
use Rattle.std.proofs.lemmas.Bool.Decides.{nat_tests, eqb_tells}
use Rattle.std.proofs.lemmas.List.{take-append-drop}
use Rattle.std.proofs.lemmas.List.Elements.{All-nil, All-cons, All-head, All-tail, Contains-append_right}
use Rattle.rdma_types.specs.declared.names.ObjName.{ObjName}
use Rattle.rdma_types.specs.declared.answers.ArrivalEffect.TheVariants as took
use Rattle.rdma_types.specs.declared.answers.DropReason.TheVariants as why
use Rattle.rdma_types.specs.Kinds as kinds
use Rattle.rdma_types.specs.Kinds.{kind_of}
use Rattle.rdma_types.specs.Limits.{most_kept}
use Rattle.rdma_types.specs.Lists.{first_that}
use Rattle.rdma_types.specs.Objects.{Posted}
use Rattle.rdma_types.specs.Spans.{first_number, piece_of, request_of, span_of}
use Rattle.protocol.specs.declared.images.KeptReply.{KeptReply}
use Rattle.protocol.specs.State as state
use Rattle.protocol.specs.State.{World, Link}
use Rattle.protocol.specs.Fabric.{flight_of}
use Rattle.protocol.specs.Numbers.{wire_number}
use Rattle.protocol.specs.Wire.{Packet}
use Rattle.protocol.specs.EndWords.{is_paused}
use Rattle.protocol.specs.Responder.{repeated, answers_old, old_answer}
use Rattle.protocol.specs.DeviceStep.{ended_step}
use Rattle.protocol.specs.WorldStep.{home, ran}
use Rattle.packetless_machine.specs.declared.reply.Reply.{Reply}
use Rattle.packetless_machine.specs.declared.reply.Reply.TheVariants.{Finished, OldValue, Denied}
use Rattle.packetless_machine.specs.Machine as machine
use Rattle.packetless_machine.specs.Machine.{Machine, End, posted_at}
use Rattle.law_simulation.specs.Packets.{class_of, IsRequest}
use Rattle.law_simulation.specs.Carries.{repeat_steps}
use Rattle.law_simulation.specs.Facts.{Fact, IsOld}
use Rattle.law_simulation.specs.Joined.{IsWordReply, last_of, old_value, old_values}
use Rattle.law_simulation.specs.Stands.{Stands}
use Rattle.law_simulation.specs.Views.{net_of, side_of, link_of, requests_of}
use Rattle.law_simulation.proofs.relation.Grants.{contains_cases}
use Rattle.law_simulation.specs.Delivered.{Arrives, Takes, context_there, end_there}
use Rattle.law_simulation.proofs.delivery.Arriving.{unchanged_stands}
use Rattle.law_simulation.proofs.delivery.First.{first_passes}
use Rattle.law_simulation.proofs.delivery.Lifted.{unchanged_sent}
use Rattle.law_simulation.proofs.requests.Requests.{IsRequestAt, asker, asking, request_at_end}
use Rattle.law_simulation.proofs.requests.Opcodes.{atomic_is}
use Rattle.law_simulation.proofs.requests.Due.{request_first, span_atomic, span_message}
use Rattle.law_simulation.proofs.requests.Early.{carries_is, due_is, fact_now, repeat_step, repeats_before, request_is}
use Rattle.law_simulation.proofs.requests.Responding.{takes_so}
use Rattle.law_simulation.proofs.requests.Written.{first_contained}
use Rattle.law_simulation.proofs.atomics.AtomPackets.{IsAtomicPacket, atomic_not, atomic_packet_is}
use Rattle.law_simulation.proofs.atomics.OldAnswers.{old_is_answer}

-- ---- old values with their numbers

-- an old value is the answer to a request, under its first number
record IsOldAt (mtu base : ℕ) (posted : List Posted) (answers : List Reply) (k : KeptReply) : Type 0 where
  i : ℕ
  inside : i < length posted
  number : k.number ≡ base + first_number posted mtu i
  answer : slice_get answers i ≡ Some (OldValue k.old)

later_old : (mtu base : ℕ) (r : Posted) (rs : List Posted) (a : Reply) (answers : List Reply) (k : KeptReply) → IsOldAt mtu (base + span_of r mtu) rs answers k → IsOldAt mtu base (r ∷ rs) (a ∷ answers) k
unfolding first_number
later_old mtu base r rs a answers k h = record { i = suc h.i; inside = omega (arith, h.inside); number = omega (arith, h.number); answer = h.answer }

find_old : (mtu base : ℕ) (posted : List Posted) (answers : List Reply) (k : KeptReply) → Contains (old_values mtu base posted answers) k → IsOldAt mtu base posted answers k
unfolding old_values old_value first_number
find_old mtu base [] answers k h = absurd (omega (arith, h.1))
find_old mtu base (r ∷ rs) [] k h = absurd (omega (arith, h.1))
find_old mtu base (r ∷ rs) (a ∷ answers) k h = by_reply a h (λ c. find_old mtu (base + span_of r mtu) rs answers k c)
  where
    by_reply : (b : Reply) → Contains (old_value base b ++ old_values mtu (base + span_of r mtu) rs answers) k → (Contains (old_values mtu (base + span_of r mtu) rs answers) k → IsOldAt mtu (base + span_of r mtu) rs answers k) → IsOldAt mtu base (r ∷ rs) (b ∷ answers) k
    by_reply Finished c later = later_old mtu base r rs Finished answers k (later c)
    by_reply (OldValue v) c later = elim (contains_cases k (record { number = base; old = v }) (old_values mtu (base + span_of r mtu) rs answers) c) [
      | inl e ↦ record { i = 0; inside = omega arith; number = omega (arith, ap (λ z. z.number) e); answer = ap (λ z. Some (OldValue z.old)) e }
      | inr t ↦ later_old mtu base r rs (OldValue v) answers k (later t)
    ]
    by_reply (Denied y) c later = later_old mtu base r rs (Denied y) answers k (later c)

-- the last of them are among them
last_contained : {A : Type 0} (n : ℕ) (xs : List A) (x : A) → Contains (last_of n xs) x → Contains xs x
unfolding last_of
last_contained n xs x h = subst (λ ys. Contains ys x) (take-append-drop (length xs - n) xs) (Contains-append_right (take (length xs - n) xs) (drop (length xs - n) xs) x h)

all_got : {A : Type 0} (P : A → Type 0) (xs : List A) (i : ℕ) (x : A) → All P xs → slice_get xs i ≡ Some x → P x
all_got P [] i x all h = absurd (cc)
all_got P (y ∷ ys) zero x all h = let is : y ≡ x = cc in subst P is (All-head P y ys all)
all_got P (y ∷ ys) (suc i) x all h = all_got P ys i x (All-tail P y ys all) h

some_span : (p : Posted) (mtu : ℕ) → 0 < span_of p mtu
some_span p mtu = by_test (kinds.is_atomic (kind_of p)) refl
  where
    by_test : (b : Bool) → kinds.is_atomic (kind_of p) ≡ b → 0 < span_of p mtu
    by_test true t = omega (arith, span_atomic p mtu t)
    by_test false t = omega (arith, span_message p mtu t)

same_number : (a b : ℕ) → (a == b) ≡ true → a ≡ b
same_number a b h = grind (arith, nat_tests, eqb_tells a b, h)

some_same : (a b : ℕ) → Some a ≡ Some b → a ≡ b
some_same a b h = cc

-- a kept reply is the answer to the request that has its number
pub kept_old : (q : End) (n : ℕ) (k : KeptReply) → Contains (last_of most_kept (old_values q.mtu 0 q.posted q.answers)) k → k.number ≡ n → IsOld q n (Some k.old)
kept_old q n k h number =
    let f : IsOldAt q.mtu 0 q.posted q.answers k = find_old q.mtu 0 q.posted q.answers k (last_contained most_kept (old_values q.mtu 0 q.posted q.answers) k h) in
    let at : n ≡ first_number q.posted q.mtu f.i + 0 = omega (arith, f.number, number) in
    let request : request_of q.posted q.mtu n ≡ f.i = ap (request_of q.posted q.mtu) at ∙ request_first q.posted q.mtu f.i 0 f.inside (some_span (posted_at q.posted f.i) q.mtu) in
    record {
      value = k.old;
      says = refl;
      first = omega (arith, at, ap (first_number q.posted q.mtu) request);
      answer = ap (slice_get q.answers) request ∙ f.answer;
    }

-- ---- what the responder does

repeated_atomic : (c : state.Context) (e : state.End) (l : Link) (p : Posted) (d : Packet) (n : ℕ) → IsAtomicPacket p d → repeated c e l d n ≡ answers_old c l n (first_that (λ k. k.number == n) l.receiver.kept)
unfolding repeated
repeated_atomic c e l p d n h = rw (h.read, h.header) refl

one : {A : Type 0} (P : A → Type 0) (x : A) → P x → All P (x ∷ [])
one P x h = All-cons P x [] h (All-nil P)

module _ (w : World) (m : Machine) (o : ObjName) (l : Link) (number : Option ℕ) (bytes : List ℕ) (d : Packet) (a : Arrives w m o l number bytes d) (is : class_of d ≡ IsRequest) (paused : is_paused l.moving.phase ≡ false) where
  abbrev n : ℕ
  n = (request_at_end w m o l number bytes d a is).0

  abbrev at : IsRequestAt w m o l n d
  at = (request_at_end w m o l number bytes d a is).2

  abbrev q : ObjName
  q = asker m o

  abbrev g : End
  g = machine.end_of m q

  abbrev c : state.Context
  c = context_there w o

  abbrev e : state.End
  e = end_there w o

  abbrev asked : Posted
  asked = posted_at g.posted (request_of g.posted g.mtu n)

  module _ (atomic : kinds.is_atomic (kind_of asked) ≡ true) (before : n < l.receiver.expected) where
    not_read : kinds.is_read (kind_of asked) ≡ false
    not_read = atomic_not kinds.is_read refl refl (kind_of asked) atomic

    same : at.packet.piece.posted ≡ asked
    same = request_is w m o l number bytes d a is paused

    packet : IsAtomicPacket at.packet.piece.posted d
    packet =
        let atomic' : kinds.is_atomic (kind_of at.packet.piece.posted) ≡ true = ap (λ z. kinds.is_atomic (kind_of z)) same ∙ atomic in
        let not_read' : kinds.is_read (kind_of at.packet.piece.posted) ≡ false = ap (λ z. kinds.is_read (kind_of z)) same ∙ not_read in
        subst (IsAtomicPacket at.packet.piece.posted)
        (sym (at.packet.packet ∙ atomic_is at.packet.piece.posted (link_of w q).terms.mtu at.packet.piece.k (link_of w q).peer (wire_number (link_of w q).terms.own_start n) not_read' atomic'))
        (atomic_packet_is at.packet.piece.posted (link_of w q).peer (wire_number (link_of w q).terms.own_start n) atomic')

    none_repeated : repeat_steps m q (request_of g.posted g.mtu n) (piece_of g.posted g.mtu n) ≡ []
    unfolding repeat_steps
    none_repeated = rw not_read refl

    -- the old value that is kept
    module _ (k : KeptReply) (found : first_that (λ z. z.number == n) l.receiver.kept ≡ Some k) where
      old : IsOld (asking m o) n (Some k.old)
      old =
          kept_old (asking m o) n k
          (subst (λ ks. Contains ks k) at.receives.kept (first_contained (λ z. z.number == n) k l.receiver.kept found))
          (same_number k.number n (first_passes (λ z. z.number == n) k l.receiver.kept found))

      word : k.old < 2 ^ 64
      word =
          let small : old.value < 2 ^ 64 = all_got IsWordReply g.answers (request_of g.posted g.mtu n) (OldValue old.value) at.back.in_pieces.old_words old.answer in
          omega (arith, small, some_same k.old old.value old.says)

      answered : Fact (net_of w m) (flight_of (home w o.context).address (old_answer l n k.old))
      answered = fact_now w m o l number bytes d a is paused _ (old_is_answer l (side_of w q) (side_of w o) (asking m o) (requests_of (machine.end_of m o)) n k.old at.towards word old)

    by_kept : (z : Option KeptReply) → first_that (λ k. k.number == n) l.receiver.kept ≡ z → Stands (ran w (ended_step (home w o.context) (answers_old c l n z))).world m
    by_kept None t = unchanged_stands w m o.context (took.Silent why.NoRepeat) a.stands a.live
    by_kept (Some k) t = unchanged_sent w m o took.Old (old_answer l n k.old ∷ []) a.stands a.live (one (λ z. Fact (net_of w m) (flight_of (home w o.context).address z)) (old_answer l n k.old) (answered k t))

    pub repeat_taken : Takes w m o l number d
    repeat_taken =
        takes_so w m o l number d n [] (answers_old c l n (first_that (λ k. k.number == n) l.receiver.kept)) (request_at_end w m o l number bytes d a is).1 at.link is tt tt
        (sym (carries_is w m o l number bytes d a is paused ∙ (repeats_before m q n (length d.payload) (omega (arith, due_is w m o l number bytes d a is paused, before)) ∙ none_repeated)))
        (repeat_step w m o l number bytes d a is paused before ∙ repeated_atomic c e l at.packet.piece.posted d n packet)
        (by_kept (first_that (λ k. k.number == n) l.receiver.kept) refl)
