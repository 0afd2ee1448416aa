-- When a responder sends an RNR NAK.
use Rattle.std.proofs.Common.{arith, ◌≡◌, ◌⊎◌, ◌+◌, ◌-◌, ℕ, zero, suc, List, [], ◌∷◌, true, false, Bool, refl, sym, ap, ◌∙◌, subst, inl, inr}
use Rattle.std.specs.Prelude.{All, Option, Some, None, is_some, if◌then◌else◌, ◌==◌, ◌||◌, nat_le, nat_lt}
use Rattle.std.proofs.lemmas.Bool.Decides.{nat_tests, leb_tells, eqb_tells}
use Rattle.std.proofs.lemmas.List.Elements.{All-nil, All-cons}
use Rattle.rdma_types.specs.declared.answers.Sent.{Sent}
use Rattle.rdma_types.specs.declared.answers.RefusalReason.{RefusalReason}
use Rattle.rdma_types.specs.declared.answers.RefusalReason.TheVariants as refused
use Rattle.rdma_types.specs.declared.answers.DropReason.TheVariants as why
use Rattle.rdma_types.specs.Limits.{number_limit}
use Rattle.rdma_types.specs.Objects.{Region}
use Rattle.rdma_types.specs.Spans.{pieces}
use Rattle.protocol.specs.declared.images.KeptReply.{KeptReply}
use Rattle.protocol.specs.declared.wire.AtomicEth.{AtomicEth}
use Rattle.protocol.specs.declared.wire.Reth.{Reth}
use Rattle.protocol.specs.declared.wire.Syndrome.TheVariants.{Ack, Rnr, Nak}
use Rattle.protocol.specs.Bytes.{big_bytes, byte_at}
use Rattle.protocol.specs.Numbers.{unwrap_near}
use Rattle.protocol.specs.State.{Link, End, Context}
use Rattle.protocol.specs.Wire.{Packet, is_request, wire_of}
use Rattle.protocol.specs.EndWords.{EndStep, is_paused, silent}
use Rattle.protocol.specs.EndStep.{takes}
use Rattle.protocol.specs.Moves.{control_of}
use Rattle.protocol.specs.Responder as responder
use Rattle.law_simulation.proofs.requests.Requests.{takes_is}
use Rattle.law_settling.proofs.draining.Replies.{opcode_first}

-- the bytes of no RNR NAK
abbrev pub NoRnr : List ℕ → Type 0
NoRnr bs = ((byte_at 0 bs == 0x11) ≡ false) ⊎ ((byte_at 12 bs == 0x20) ≡ false)

-- ---- as they are written

ack_written : (l : Link) (n : ℕ) → NoRnr (responder.acknowledge l n Ack).bytes
unfolding responder.acknowledge wire_of big_bytes
ack_written l n = inr refl

no_code : (code : ℕ) → (0x60 + code == 0x20) ≡ false
no_code code = elim (eqb_tells (0x60 + code) 0x20) [ inl h ↦ absurd (omega (arith, h.1)) | inr h ↦ h.0 ]

nak_written : (l : Link) (n code : ℕ) → NoRnr (responder.acknowledge l n (Nak code)).bytes
unfolding responder.acknowledge wire_of big_bytes
nak_written l n code = inr (no_code code)

old_written : (l : Link) (n old : ℕ) → NoRnr (responder.old_answer l n old).bytes
unfolding responder.old_answer wire_of big_bytes
old_written l n old = inr refl

read_by : (l : Link) (n k count : ℕ) (bytes : List ℕ) (a b c : Bool) →
    let d : Packet = if a then record (responder.response l 0x10 n Ack) { payload = bytes } else if b then record (responder.response l 0x0D n Ack) { payload = bytes } else if c then record (responder.response l 0x0F n Ack) { payload = bytes } else responder.read_response l n 5 7 bytes in
    (d.opcode == 0x11) ≡ false
read_by l n k count bytes true b c = refl
read_by l n k count bytes false true c = refl
read_by l n k count bytes false false true = refl
read_by l n k count bytes false false false = refl

piece_written : (l : Link) (n k count : ℕ) (bytes : List ℕ) → ((responder.read_response l n k count bytes).opcode == 0x11) ≡ false
piece_written l n k count bytes = read_by l n k count bytes (count == 1) (k == 0) (k + 1 == count)

not_that : (d : Packet) → (d.opcode == 0x11) ≡ false → NoRnr (wire_of d)
not_that d h = inl (ap (λ n. n == 0x11) (opcode_first d) ∙ h)

reads_written : (l : Link) (r : Region) (off length n left : ℕ) → All (λ (z : Sent). NoRnr z.bytes) (responder.read_pieces l r off length n left)
unfolding responder.read_pieces
reads_written l r off length n zero = All-nil _
reads_written l r off length n (suc left) =
    All-cons (λ (z : Sent). NoRnr z.bytes) _ (responder.read_pieces l r off length n left)
    (not_that _ (piece_written l _ (pieces length l.terms.mtu - suc left) (pieces length l.terms.mtu) _))
    (reads_written l r off length n left)

-- ---- the responder

module _ (c : Context) (e : End) (l : Link) (d : Packet) (n : ℕ) where
  -- the expected request finds no receive
  pub record IsDried (s : EndStep) : Type 0 where
    pub at : n ≡ l.receiver.expected
    pub dry : responder.is_not_ready e d ≡ true
    pub context : s.context ≡ c
    pub sent : s.sent ≡ responder.acknowledge l n Rnr ∷ []

  -- that is so, or no RNR NAK is sent
  abbrev pub Says : EndStep → Type 0
  Says s = IsDried s ⊎ All (λ (z : Sent). NoRnr z.bytes) s.sent

  if_says : (b : Bool) (s t : EndStep) → Says s → Says t → Says (if b then s else t)
  if_says true s t h g = h
  if_says false s t h g = g

  test_says : (b : Bool) (s t : EndStep) → (b ≡ true → Says s) → (b ≡ false → Says t) → Says (if b then s else t)
  test_says true s t h g = h refl
  test_says false s t h g = g refl

  nothing : All (λ (z : Sent). NoRnr z.bytes) []
  nothing = All-nil _

  one : (z : Sent) → NoRnr z.bytes → All (λ (y : Sent). NoRnr y.bytes) (z ∷ [])
  one z h = All-cons (λ (y : Sent). NoRnr y.bytes) z [] h (All-nil _)

  ahead_says : Says (responder.ahead c e l)
  unfolding responder.ahead
  ahead_says = if_says l.receiver.nak_sent _ _ (inr nothing) (inr (one _ (nak_written l l.receiver.expected 0)))

  answered_read : (o : Option Region) (h : Reth) → Says (responder.answers_read c l o h n)
  answered_read None h = inr nothing
  answered_read (Some r) h = inr (reads_written l r (h.address - r.base) h.length n (pieces h.length l.terms.mtu))

  reread : (o : Option Reth) → Says (responder.repeats_read c e l o n)
  reread None = inr nothing
  reread (Some h) = if_says (nat_le (n + pieces h.length l.terms.mtu) l.receiver.expected) _ _ (answered_read _ h) (inr nothing)

  old_again : (o : Option KeptReply) → Says (responder.answers_old c l n o)
  old_again None = inr nothing
  old_again (Some k) = inr (one _ (old_written l n k.old))

  repeated_says : Says (responder.repeated c e l d n)
  unfolding responder.repeated
  repeated_says =
      if_says (responder.is_read_request d.opcode) _ _ (reread d.reth)
      (if_says (is_some d.atomic) _ _ (old_again _) (inr (one _ (ack_written l (l.receiver.expected - 1)))))

  refuses_says : (c0 : Context) (e0 : End) (l0 : Link) (w : RefusalReason) → Says (responder.refuses c0 e0 l0 n w)
  refuses_says c0 e0 l0 w = inr (one _ (nak_written l0 n (responder.nak_code w)))

  length_says : Says (responder.refuses_length c e l n)
  unfolding responder.refuses_length
  length_says = inr (one _ (nak_written (responder.idled l) n 1))

  acts_says : (x : Context) (l1 : Link) → Says (responder.acts x l1 d n)
  acts_says x l1 = if_says (responder.finishes (responder.part_of d.opcode) || d.ack_request) _ _ (inr (one _ (ack_written l1 n))) (inr nothing)

  read_says : (l1 : Link) (r : Region) (o : Option Reth) → Says (responder.read_acts c e l1 r n o)
  read_says l1 r None = inr nothing
  read_says l1 r (Some h) = inr (reads_written l1 r (h.address - r.base) h.length n (pieces h.length l1.terms.mtu))

  atomic_says : (l1 : Link) (r : Region) (o : Option AtomicEth) → Says (responder.atomic_acts c e l1 d r n o)
  unfolding responder.atomic_done
  atomic_says l1 r None = inr nothing
  atomic_says l1 r (Some h) = inr (one _ (old_written l1 n _))

  packet_says : (l1 : Link) (r : Region) → Says (responder.packet_acts c e l1 d r n)
  unfolding responder.packet_acts
  packet_says l1 r =
      if_says (responder.is_send d.opcode) _ _ (acts_says _ l1)
      (if_says (responder.is_write d.opcode) _ _ (acts_says _ l1) (if_says (responder.is_read_request d.opcode) _ _ (read_says l1 r d.reth) (atomic_says l1 r d.atomic)))

  module _ (at : n ≡ l.receiver.expected) where
    granted_says : (r : Option Region) → Says (responder.granted_packet c e l d n r)
    unfolding responder.not_ready
    granted_says None = refuses_says c e l refused.Access
    granted_says (Some r) =
        test_says (responder.is_not_ready e d) (responder.not_ready c l n) _ (λ t. inl (record { at = at; dry = t; context = refl; sent = refl }))
        (λ t. if_says (responder.is_too_long e l d) _ _ length_says (packet_says (responder.executed l d) r))

    expected_says : Says (responder.expected_packet c e l d n)
    unfolding responder.expected_packet
    expected_says =
        if_says (nat_le number_limit (n + responder.span_of_packet d l.terms.mtu d.reth)) (responder.no_repeat c) _ (inr nothing)
        (if_says (responder.is_invalid l d) _ _ (refuses_says c e l refused.Invalid) (granted_says (responder.target c e d)))

  order : (a b : ℕ) → nat_lt a b ≡ false → nat_lt b a ≡ false → b ≡ a
  order a b h g = grind (arith, nat_tests, leb_tells (suc a) b, leb_tells (suc b) a, h, g)

  request_says : Says (responder.request_at c e l d (Some n))
  request_says =
      test_says (nat_lt l.receiver.expected n) _ _ (λ t. ahead_says)
      (λ t. test_says (nat_lt n l.receiver.expected) _ _ (λ a. repeated_says) (λ a. expected_says (order l.receiver.expected n t a)))

  -- a request with that number
  pub taken_says : l.ended ≡ false → is_paused l.moving.phase ≡ false → control_of d ≡ None → is_request d.opcode ≡ true → unwrap_near l.terms.peer_start d.psn l.receiver.expected ≡ Some n → Says (takes c e l d)
  taken_says alive running none asks number =
      subst Says (sym (takes_is c e l d n alive none asks number ∙ ap (λ b. if b then silent c why.Paused else responder.request_at c e l d (Some n)) running)) request_says
