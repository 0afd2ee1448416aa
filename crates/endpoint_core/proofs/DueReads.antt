-- A request that is answered with bytes was due them.
use Rattle.std.proofs.Common.{◌≡◌, ℕ, zero, suc, ◌+◌, ◌-◌, ◌<◌, Bool, true, false, ◌∷◌, length, refl, ap, sym, ◌∙◌, subst, arith}
use Rattle.std.specs.Prelude.{◌==◌, ◌&&◌, ◌||◌, ◌%◌, Option, Some, None, is_some, nat_le, nat_lt, not, option_map, if◌then◌else◌}
use Rattle.std.proofs.lemmas.Bool.Decides.{nat_tests}
use Rattle.rdma_types.specs.declared.requests.Address.{Address}
use Rattle.rdma_types.specs.declared.requests.Terms.{Terms}
use Rattle.rdma_types.specs.Limits.{most_bytes}
use Rattle.rdma_types.specs.Lists.{first_that}
use Rattle.rdma_types.specs.Memory.{RemoteRead, granted, remote_key}
use Rattle.rdma_types.specs.Objects.{Region}
use Rattle.rdma_types.specs.Spans.{pieces}
use Rattle.memory_keys.specs.declared.RegionRange.{RegionRange}
use Rattle.memory_keys.specs.Regions.{granted_spot}
use Rattle.protocol.specs.declared.wire.Reth.{Reth}
use Rattle.protocol.specs.declared.wire.AtomicEth.{AtomicEth}
use Rattle.protocol.specs.EndWords.{with_receiver}
use Rattle.protocol.specs.declared.images.KeptReply.{KeptReply}
use Rattle.protocol.specs.Numbers.{unwrap_near}
use Rattle.protocol.specs.Responder.{bytes_before, executed, finished, finishes, is_invalid, is_not_ready, is_part, is_read_request, is_send, is_write, part_of, read_piece, read_pieces, span_of_packet, target}
use Rattle.protocol.specs.State.{Link, no_link}
use Rattle.protocol.specs.Wire.{Packet}
use Rattle.rdma_types.specs.Limits.{number_limit}
use Rattle.responder.specs.declared.answers.Reply.TheVariants as served
use Rattle.responder.specs.Taken.{target_in}
use Rattle.responder.specs.Taking.{Around, Taking, acting, ahead_taking, atomic_taking, end_of, executed_by, expected_taking, granted_taking, link_of, number_taking, read_taking, receive_in, repeated_atomic_taking, repeated_read_taking, repeated_taking, reread_taking, send_taking, spot_of, taking, too_long_taking, word_taking, write_taking}
use Rattle.responder.proofs.Cases.{Names, reached}
use Rattle.responder.proofs.Kindly.{and-false, valid-parts}
use Rattle.protocol.specs.declared.wire.Syndrome.{Syndrome}
use Rattle.endpoint_core.specs.declared.answers.EndReply.{EndReply}
use Rattle.endpoint_core.specs.declared.answers.EndReply.TheVariants as reply
use Rattle.endpoint_core.specs.declared.end.EndLink.{EndLink}
use Rattle.endpoint_core.specs.Answers.{IsAck}
use Rattle.endpoint_core.specs.Sites.{EndWithMemory}
use Rattle.endpoint_core.specs.Due.{WasDue, due_at, due_by, due_of, due_read, is_in_turn, told_msn}

-- ---- the place that a READ is granted

granted-reached : (a : Around) (h : Reth) (r : Region) → reached a h ≡ Some r → granted_spot remote_key a.regions a.domain h.rkey h.address h.length RemoteRead ≡ Some (spot_of r h)
granted-reached a h r e = by_test (h.length == 0) refl
  where
    by_test : (b : Bool) → (h.length == 0) ≡ b → granted_spot remote_key a.regions a.domain h.rkey h.address h.length RemoteRead ≡ Some (spot_of r h)
    by_test true t = rw t refl
    by_test false t =
        let found : granted remote_key a.regions a.domain h.rkey h.address h.length RemoteRead ≡ Some r = rw t at e in
        rw t (ap (option_map (λ x. record { region = x.keys.local; off = h.address - x.base; length = h.length })) found)

-- ---- tests

lt-same : (n e : ℕ) → n ≡ e → nat_lt n e ≡ false
lt-same n e same = grind (arith, nat_tests)

eq-same : (n e : ℕ) → n ≡ e → (n == e) ≡ true
eq-same n e same = grind (arith, nat_tests)

le-of : (m x : ℕ) → nat_lt m x ≡ false → nat_le x m ≡ true
le-of m x l = grind (arith, nat_tests)

lt-of : (n e : ℕ) → n < e → nat_lt n e ≡ true
lt-of n e l = grind (arith, nat_tests)

ne-of : (n e : ℕ) → n < e → (n == e) ≡ false
ne-of n e l = grind (arith, nat_tests)

read-code : (n : ℕ) → (n == 0x0C) ≡ true → n ≡ 0x0C
read-code n t = grind (arith, nat_tests)

in-turn-before : (expected n count length' : ℕ) → n < expected → nat_le (n + count) expected ≡ true → is_in_turn expected n count length' ≡ true
in-turn-before expected n count length' l all = rw (lt-of n expected l) all

in-turn-now : (expected n count length' : ℕ) → n ≡ expected → nat_le length' most_bytes ≡ true → is_in_turn expected n count length' ≡ true
in-turn-now expected n count length' now short = rw (lt-same n expected now) (rw (eq-same n expected now) short)

answered : (b : Bool) (spot : RegionRange) (first count : ℕ) → (if b then served.Ack else served.Acted) ≡ served.ReadBytes spot first count → ⊥
answered true spot first count e = cc
answered false spot first count e = cc

-- ---- what was due

-- what is due at a number, for a READ that is in turn and whose place is granted
abbrev IsHit : Around → Packet → (spot : RegionRange) (first count : ℕ) → (ℕ → Type 0) → Type 0
IsHit a d spot first count P =
    (n : ℕ) → unwrap_near a.terms.peer_start d.psn a.receiver.expected ≡ Some n → (h : Reth) (r : Region) (msn : ℕ) → is_read_request d.opcode ≡ true → d.reth ≡ Some h → is_in_turn a.receiver.expected n (pieces h.length a.terms.mtu) h.length ≡ true
    → reached a h ≡ Some r → told_msn a.receiver n ≡ msn → served.ReadBytes (spot_of r h) n (pieces h.length a.terms.mtu) ≡ served.ReadBytes spot first count → P msn

module _ (a : Around) (d : Packet) (names : Names d) (spot : RegionRange) (first count : ℕ) (P : ℕ → Type 0) (due : IsHit a d spot first count P) where
  -- a row that answers with these bytes was due them
  abbrev Of : Taking → Type 0
  Of t = t.reply ≡ served.ReadBytes spot first count → P t.receiver.msn

  ahead-due : Of (ahead_taking a)
  unfolding ahead_taking
  ahead-due = by_test a.receiver.nak_sent refl
    where
      by_test : (b : Bool) → a.receiver.nak_sent ≡ b → Of (ahead_taking a)
      by_test true t = rw t (λ e. absurd (cc))
      by_test false t = rw t (λ e. absurd (cc))

  -- ---- a repeat

  repeated-place : (n : ℕ) → unwrap_near a.terms.peer_start d.psn a.receiver.expected ≡ Some n → (h : Reth) → n < a.receiver.expected → nat_le (n + pieces h.length a.terms.mtu) a.receiver.expected ≡ true
      → is_read_request d.opcode ≡ true → d.reth ≡ Some h → (o : Option Region) → reached a h ≡ o → Of (reread_taking a o h n)
  repeated-place n near h before all read is None place = λ e. absurd (cc)
  repeated-place n near h before all read is (Some r) place = λ e.
      due n near h r a.receiver.msn read is (in-turn-before a.receiver.expected n (pieces h.length a.terms.mtu) h.length before all) place (ap (λ b. if b then (a.receiver.msn + 1) % 16777216 else a.receiver.msn) (ne-of n a.receiver.expected before)) e

  repeated-read : (n : ℕ) → unwrap_near a.terms.peer_start d.psn a.receiver.expected ≡ Some n → n < a.receiver.expected → is_read_request d.opcode ≡ true → (o : Option Reth) → d.reth ≡ o → Of (repeated_read_taking a o n)
  repeated-read n near before read None is = λ e. absurd (cc)
  repeated-read n near before read (Some h) is = by_test (nat_le (n + pieces h.length a.terms.mtu) a.receiver.expected) refl
    where
      by_test : (b : Bool) → nat_le (n + pieces h.length a.terms.mtu) a.receiver.expected ≡ b → Of (repeated_read_taking a (Some h) n)
      by_test true t = rw t (repeated-place n near h before t read is (reached a h) refl)
      by_test false t = rw t (λ e. absurd (cc))

  old-due : (n : ℕ) (o : Option KeptReply) → Of (repeated_atomic_taking a n o)
  old-due n None = λ e. absurd (cc)
  old-due n (Some k) = λ e. absurd (cc)

  repeated-due : (n : ℕ) → unwrap_near a.terms.peer_start d.psn a.receiver.expected ≡ Some n → n < a.receiver.expected → Of (repeated_taking a d n)
  unfolding repeated_taking
  repeated-due n near before = by_tests (is_read_request d.opcode) refl (is_some d.atomic) refl
    where
      by_tests : (b : Bool) → is_read_request d.opcode ≡ b → (b' : Bool) → is_some d.atomic ≡ b' → Of (repeated_taking a d n)
      by_tests true t b' t' = rw t (repeated-read n near before t d.reth refl)
      by_tests false t true t' = rw t (rw t' (old-due n (first_that (λ k. k.number == n) a.receiver.kept)))
      by_tests false t false t' = rw t (rw t' (λ e. absurd (cc)))

  -- ---- the expected number

  -- a READ request is one message
  one-message : is_read_request d.opcode ≡ true → finished d ≡ 1
  unfolding part_of
  one-message t = ap (λ k. if is_part (part_of k) && not (finishes (part_of k)) then 0 else 1) (read-code d.opcode t)

  read-target : (h : Reth) → d.reth ≡ Some h → is_read_request d.opcode ≡ true → target_in a.regions a.domain d ≡ reached a h
  unfolding target
  read-target h e t = rw (names.read t) (rw e (rw t refl))

  read-due : (n : ℕ) → unwrap_near a.terms.peer_start d.psn a.receiver.expected ≡ Some n → n ≡ a.receiver.expected → is_invalid (link_of a) d ≡ false → is_read_request d.opcode ≡ true → (r : Region) → target_in a.regions a.domain d ≡ Some r → (o : Option Reth) → d.reth ≡ o → Of (read_taking a d r n o)
  unfolding executed with_receiver
  read-due n near now valid read r place None is = λ e. absurd (cc)
  read-due n near now valid read r place (Some h) is = λ e.
      let within = and-false _ _ read (valid-parts (link_of a) d valid).read in
      let short : nat_lt most_bytes h.length ≡ false = rw is at within in
      let turn = in-turn-now a.receiver.expected n (pieces h.length a.terms.mtu) h.length now (le-of most_bytes h.length short) in
      let told : told_msn a.receiver n ≡ (executed_by a d).msn =
      ap (λ b. if b then (a.receiver.msn + 1) % 16777216 else a.receiver.msn) (eq-same n a.receiver.expected now)
      ∙ ap (λ k. (a.receiver.msn + k) % 16777216) (sym (one-message read)) in
      due n near h r (executed_by a d).msn read is turn (sym (read-target h is read) ∙ place) told e

  word-due : (n : ℕ) (r : Region) (o : Option AtomicEth) → Of (atomic_taking a d r n o)
  unfolding word_taking
  word-due n r None = λ e. absurd (cc)
  word-due n r (Some h) = λ e. absurd (cc)

  acting-due : (n : ℕ) → unwrap_near a.terms.peer_start d.psn a.receiver.expected ≡ Some n → n ≡ a.receiver.expected → is_invalid (link_of a) d ≡ false → (r : Region) → target_in a.regions a.domain d ≡ Some r → Of (acting a d r n)
  unfolding acting send_taking write_taking
  acting-due n near now valid r place = by_tests (is_send d.opcode) refl (is_write d.opcode) refl (is_read_request d.opcode) refl
    where
      by_tests : (b : Bool) → is_send d.opcode ≡ b → (b' : Bool) → is_write d.opcode ≡ b' → (b'' : Bool) → is_read_request d.opcode ≡ b'' → Of (acting a d r n)
      by_tests true s b' w b'' k = rw s (λ e. absurd (answered (finishes (part_of d.opcode) || d.ack_request) spot first count e))
      by_tests false s true w b'' k = rw s (rw w (λ e. absurd (answered (finishes (part_of d.opcode) || d.ack_request) spot first count e)))
      by_tests false s false w true k = rw s (rw w (rw k (read-due n near now valid k r place d.reth refl)))
      by_tests false s false w false k = rw s (rw w (rw k (word-due n r d.atomic)))

  granted-due : (n : ℕ) → unwrap_near a.terms.peer_start d.psn a.receiver.expected ≡ Some n → n ≡ a.receiver.expected → is_invalid (link_of a) d ≡ false → (o : Option Region) → target_in a.regions a.domain d ≡ o → Of (granted_taking a d n o)
  unfolding too_long_taking
  granted-due n near now valid None place = λ e. absurd (cc)
  granted-due n near now valid (Some r) place = by_tests (is_not_ready (end_of a) d) refl (is_send d.opcode) refl (nat_lt (receive_in a).length (bytes_before None a.receiver.progress + length d.payload)) refl
    where
      by_tests : (b : Bool) → is_not_ready (end_of a) d ≡ b → (b' : Bool) → is_send d.opcode ≡ b' → (b'' : Bool) → nat_lt (receive_in a).length (bytes_before None a.receiver.progress + length d.payload) ≡ b'' → Of (granted_taking a d n (Some r))
      by_tests true ready b' s b'' f = rw ready (λ e. absurd (cc))
      by_tests false ready true s true f = rw ready (rw s (rw f (λ e. absurd (cc))))
      by_tests false ready true s false f = rw ready (rw s (rw f (acting-due n near now valid r place)))
      by_tests false ready false s b'' f = rw ready (rw s (acting-due n near now valid r place))

  expected-due : (n : ℕ) → unwrap_near a.terms.peer_start d.psn a.receiver.expected ≡ Some n → n ≡ a.receiver.expected → Of (expected_taking a d n)
  unfolding expected_taking target
  expected-due n near now = by_tests (nat_le number_limit (n + span_of_packet d a.terms.mtu d.reth)) refl (is_invalid (link_of a) d) refl
    where
      by_tests : (b : Bool) → nat_le number_limit (n + span_of_packet d a.terms.mtu d.reth) ≡ b → (b' : Bool) → is_invalid (link_of a) d ≡ b' → Of (expected_taking a d n)
      by_tests true t b' t' = rw t (λ e. absurd (cc))
      by_tests false t true t' = rw t (rw t' (λ e. absurd (cc)))
      by_tests false t false t' = rw t (rw t' (granted-due n near now t' (target_in a.regions a.domain d) refl))

  number-due : (o : Option ℕ) → unwrap_near a.terms.peer_start d.psn a.receiver.expected ≡ o → Of (number_taking a d o)
  number-due None near = λ e. absurd (cc)
  number-due (Some n) near = by_tests (nat_lt a.receiver.expected n) refl (nat_lt n a.receiver.expected) refl
    where
      by_tests : (b : Bool) → nat_lt a.receiver.expected n ≡ b → (b' : Bool) → nat_lt n a.receiver.expected ≡ b' → Of (number_taking a d (Some n))
      by_tests true t b' t' = rw t (ahead-due)
      by_tests false t true t' = rw t (rw t' (repeated-due n near (grind (arith, nat_tests, t'))))
      by_tests false t false t' = rw t (rw t' (expected-due n near (grind (arith, nat_tests, t, t'))))

  hit : Of (taking a d)
  unfolding taking
  hit = number-due (unwrap_near a.terms.peer_start d.psn a.receiver.expected) refl

is-due : (a : Around) (d : Packet) (spot : RegionRange) (first count : ℕ) → IsHit a d spot first count (λ msn. due_read a.terms a.receiver a.regions a.domain d ≡ Some (record { spot = spot; first = first; msn = msn }))
unfolding due_read
is-due a d spot first count n near h r msn read is turn place told e =
    let same : spot_of r h ≡ spot = cc in
    let number : n ≡ first = cc in
    ap (λ b. if b then due_by a.terms a.receiver a.regions a.domain d.psn d.reth else None) read
    ∙ (ap (λ o. due_by a.terms a.receiver a.regions a.domain d.psn o) is
    ∙ (ap (λ o. due_at a.terms a.receiver a.regions a.domain h o) near
    ∙ (ap (λ b. if b then option_map (due_of a.receiver n) (granted_spot remote_key a.regions a.domain h.rkey h.address h.length RemoteRead) else None) turn
    ∙ (ap (option_map (due_of a.receiver n)) (granted-reached a h r place)
    ∙ (ap (λ m. Some (record { spot = spot_of r h; first = n; msn = m })) told
    ∙ (ap (λ s. Some (record { spot = s; first = n; msn = msn })) same
    ∙ ap (λ k. Some (record { spot = spot; first = k; msn = msn })) number))))))

pub taken-due : (a : Around) (d : Packet) (names : Names d) (spot : RegionRange) (first count : ℕ) → (taking a d).reply ≡ served.ReadBytes spot first count → due_read a.terms a.receiver a.regions a.domain d ≡ Some (record { spot = spot; first = first; msn = (taking a d).receiver.msn })
taken-due a d names spot first count = hit a d names spot first count (λ msn. due_read a.terms a.receiver a.regions a.domain d ≡ Some (record { spot = spot; first = first; msn = msn })) (is-due a d spot first count)

-- ---- responses look at the partner, the terms and the count of messages alone

-- a link with these
abbrev face : Address → ℕ → Terms → ℕ → Link
face to peer terms msn = record no_link { peer = peer; terms = terms; moving = record no_link.moving { partner = to }; receiver = record no_link.receiver { msn = msn } }

by-face : (l : Link) (r : Region) (off length' n left : ℕ) → read_pieces l r off length' n left ≡ read_pieces (face l.moving.partner l.peer l.terms l.receiver.msn) r off length' n left
unfolding read_pieces
by-face l r off length' n zero = refl
by-face l r off length' n (suc left) = ap (λ xs. read_piece l r off length' n (pieces length' l.terms.mtu - suc left) ∷ xs) (by-face l r off length' n left)

pub responses-same : (l k : Link) (r : Region) (off length' n left : ℕ) → l.moving.partner ≡ k.moving.partner → l.peer ≡ k.peer → l.terms ≡ k.terms → l.receiver.msn ≡ k.receiver.msn → read_pieces l r off length' n left ≡ read_pieces k r off length' n left
responses-same l k r off length' n left to peer terms msn =
    by-face l r off length' n left
    ∙ (ap (λ x. read_pieces (face x l.peer l.terms l.receiver.msn) r off length' n left) to
    ∙ (ap (λ x. read_pieces (face k.moving.partner x l.terms l.receiver.msn) r off length' n left) peer
    ∙ (ap (λ x. read_pieces (face k.moving.partner k.peer x l.receiver.msn) r off length' n left) terms
    ∙ (ap (λ x. read_pieces (face k.moving.partner k.peer k.terms x) r off length' n left) msn ∙ sym (by-face k r off length' n left)))))

-- ---- replies without bytes

pub refused-due : (old new : EndWithMemory) (l : EndLink) (d : Packet) (a : EndReply) (number : ℕ) (y : Syndrome) → a ≡ reply.Acknowledge number y → WasDue old new l d a
refused-due old new l d a number y is = subst (WasDue old new l d) (sym is) tt

pub none-due : (old new : EndWithMemory) (l : EndLink) (d : Packet) (a : EndReply) → a ≡ reply.Nothing → WasDue old new l d a
none-due old new l d a is = subst (WasDue old new l d) (sym is) tt

pub ack-due : (old new : EndWithMemory) (l : EndLink) (d : Packet) (a : EndReply) → IsAck a → WasDue old new l d a
ack-due old new l d reply.Nothing ack = tt
ack-due old new l d (reply.ResumeAck count address) ack = tt
ack-due old new l d (reply.Acknowledge number syndrome) ack = absurd ack
ack-due old new l d (reply.ReadBytes spot first count) ack = absurd ack
ack-due old new l d (reply.Old number old') ack = absurd ack
