-- What a request does, row by row: whatever holds of each row holds of it.
use Rattle.std.proofs.Common.{◌≡◌, ℕ, ◌+◌, ◌-◌, ◌<◌, Bool, true, false, length, refl, sym, ◌∙◌, subst, arith}
use Rattle.std.proofs.lemmas.Bool.Decides.{nat_tests}
use Rattle.std.specs.Prelude.{◌==◌, Option, Some, None, is_some, nat_le, nat_lt, if◌then◌else◌}
use Rattle.rdma_types.specs.Limits.{number_limit}
use Rattle.rdma_types.specs.Lists.{first_that}
use Rattle.rdma_types.specs.Memory.{RemoteRead}
use Rattle.rdma_types.specs.Objects.{Region, no_region}
use Rattle.rdma_types.specs.Spans.{pieces}
use Rattle.rdma_types.specs.declared.answers.DropReason.TheVariants as why
use Rattle.rdma_types.specs.declared.answers.RefusalReason.TheVariants as refused
use Rattle.protocol.specs.declared.images.KeptReply.{KeptReply}
use Rattle.protocol.specs.declared.wire.AtomicEth.{AtomicEth}
use Rattle.protocol.specs.declared.wire.Reth.{Reth}
use Rattle.protocol.specs.Memory.{word_at}
use Rattle.protocol.specs.Numbers.{unwrap_near}
use Rattle.protocol.specs.Responder.{bytes_before, is_invalid, is_not_ready, is_read_request, is_send, is_write, place_of, read_grant, span_of_packet, target}
use Rattle.protocol.specs.Wire.{Fits, Packet}
use Rattle.responder.specs.declared.answers.Reply.{Reply}
use Rattle.responder.specs.declared.answers.Reply.TheVariants.{AtomicOld, DupAck, NotReady, Refused, SequenceNak, Silent}
use Rattle.responder.specs.Taken.{is_bytes, target_in}
use Rattle.responder.specs.Taking.{Around, Taking, acting, ahead_taking, answers, atomic_taking, bytes_of, context_of, end_of, executed_by, expected_taking, granted_taking, link_of, number_taking, read_taking, receive_in, receives, repeated_atomic_taking, repeated_read_taking, repeated_taking, reread_taking, send_taking, taking, too_long_taking, word_taking, write_taking}
use Rattle.responder.proofs.Kindly.{IsValid, reads-no-word, valid-parts, write-names-no-word}

-- no place but one of a SEND, WRITE or READ
pub record Names (d : Packet) : Type 0 where
  pub write : is_write d.opcode ≡ true → d.atomic ≡ None
  pub read : is_read_request d.opcode ≡ true → d.atomic ≡ None

-- the region that a READ is granted; no bytes are of none
abbrev pub reached : Around → Reth → Option Region
reached a h = if h.length == 0 then Some no_region else read_grant (context_of a.regions) (end_of a) h RemoteRead

-- each row, where it comes
pub record Rows (a : Around) (d : Packet) (P : Taking → Type 0) : Type 0 where
  pub quiet : (reply : Reply) → is_bytes reply ≡ false → P (answers a reply)
  pub nak : P (receives a SequenceNak (record a.receiver { nak_sent = true }))
  pub reread : (r : Region) (h : Reth) (n : ℕ) → n < a.receiver.expected → reached a h ≡ Some r → P (answers a (bytes_of a r h n))
  pub read : (r : Region) (h : Reth) (n : ℕ) → n ≡ a.receiver.expected → reached a h ≡ Some r → P (receives a (bytes_of a r h n) (executed_by a d))
  pub too_long : is_send d.opcode ≡ true → IsValid (link_of a) d → is_not_ready (end_of a) d ≡ false → P (too_long_taking a)
  pub send : is_send d.opcode ≡ true → IsValid (link_of a) d → is_not_ready (end_of a) d ≡ false → nat_lt (receive_in a).length (bytes_before None a.receiver.progress + length d.payload) ≡ false → P (send_taking a d (receive_in a) (bytes_before None a.receiver.progress))
  pub write : (r : Region) → is_write d.opcode ≡ true → IsValid (link_of a) d → is_not_ready (end_of a) d ≡ false → target_in a.regions a.domain d ≡ Some r → P (write_taking a d (place_of r d.reth a.receiver.progress))
  pub word : (r : Region) (h : AtomicEth) (n old : ℕ) → n ≡ a.receiver.expected → d.atomic ≡ Some h → target_in a.regions a.domain d ≡ Some r → P (word_taking a d r n h old)

ahead-case : (a : Around) (d : Packet) (P : Taking → Type 0) → Rows a d P → P (ahead_taking a)
unfolding ahead_taking
ahead-case a d P rows = by_test a.receiver.nak_sent refl
  where
    by_test : (b : Bool) → a.receiver.nak_sent ≡ b → P (ahead_taking a)
    by_test true t = rw t (subst (λ (b : Bool). P (answers (record a { receiver = record a.receiver { nak_sent = b } }) (Silent why.NakSent))) t (rows.quiet (Silent why.NakSent) refl))
    by_test false t = rw t rows.nak

reread-case : (a : Around) (d : Packet) (P : Taking → Type 0) → Rows a d P → (o : Option Region) (h : Reth) (n : ℕ) → n < a.receiver.expected → reached a h ≡ o → P (reread_taking a o h n)
reread-case a d P rows None h n before t = rows.quiet (Silent why.NoRepeat) refl
reread-case a d P rows (Some r) h n before t = rows.reread r h n before t

read-case : (a : Around) (d : Packet) (P : Taking → Type 0) → Rows a d P → (o : Option Reth) (n : ℕ) → n < a.receiver.expected → P (repeated_read_taking a o n)
read-case a d P rows None n before = rows.quiet (Silent why.NoRepeat) refl
read-case a d P rows (Some h) n before = by_test (nat_le (n + pieces h.length a.terms.mtu) a.receiver.expected) refl
  where
    by_test : (b : Bool) → nat_le (n + pieces h.length a.terms.mtu) a.receiver.expected ≡ b → P (repeated_read_taking a (Some h) n)
    by_test true t = rw t (reread-case a d P rows (reached a h) h n before refl)
    by_test false t = rw t (rows.quiet (Silent why.NoRepeat) refl)

kept-case : (a : Around) (d : Packet) (P : Taking → Type 0) → Rows a d P → (n : ℕ) (o : Option KeptReply) → P (repeated_atomic_taking a n o)
kept-case a d P rows n None = rows.quiet (Silent why.NoRepeat) refl
kept-case a d P rows n (Some k) = rows.quiet (AtomicOld n k.old) refl

repeated-case : (a : Around) (d : Packet) (P : Taking → Type 0) → Rows a d P → (n : ℕ) → n < a.receiver.expected → P (repeated_taking a d n)
unfolding repeated_taking
repeated-case a d P rows n before = by_tests (is_read_request d.opcode) refl (is_some d.atomic) refl
  where
    by_tests : (b : Bool) → is_read_request d.opcode ≡ b → (b' : Bool) → is_some d.atomic ≡ b' → P (repeated_taking a d n)
    by_tests true t b' t' = rw t (read-case a d P rows d.reth n before)
    by_tests false t true t' = rw t (rw t' (kept-case a d P rows n (first_that (λ k. k.number == n) a.receiver.kept)))
    by_tests false t false t' = rw t (rw t' (rows.quiet DupAck refl))

-- the target of a READ is the region that it reaches
read-target : (a : Around) (d : Packet) (h : Reth) → d.atomic ≡ None → d.reth ≡ Some h → is_read_request d.opcode ≡ true → target_in a.regions a.domain d ≡ reached a h
unfolding target
read-target a d h none e t = rw none (rw e (rw t refl))

bytes-case : (a : Around) (d : Packet) (P : Taking → Type 0) → Rows a d P → Names d → (r : Region) (n : ℕ) → n ≡ a.receiver.expected → target_in a.regions a.domain d ≡ Some r → is_read_request d.opcode ≡ true → (o : Option Reth) → d.reth ≡ o → P (read_taking a d r n o)
bytes-case a d P rows names r n now t k None e = rows.quiet (Silent why.Useless) refl
bytes-case a d P rows names r n now t k (Some h) e = rows.read r h n now (sym (read-target a d h (names.read k) e k) ∙ t)

word-case : (a : Around) (d : Packet) (P : Taking → Type 0) → Rows a d P → (r : Region) (n : ℕ) → n ≡ a.receiver.expected → target_in a.regions a.domain d ≡ Some r → (o : Option AtomicEth) → d.atomic ≡ o → P (atomic_taking a d r n o)
word-case a d P rows r n now t None e = rows.quiet (Silent why.Useless) refl
word-case a d P rows r n now t (Some h) e = rows.word r h n (word_at r (h.address - r.base)) now e t

acting-case : (a : Around) (d : Packet) (P : Taking → Type 0) → Rows a d P → Names d → (r : Region) (n : ℕ) → n ≡ a.receiver.expected → IsValid (link_of a) d → is_not_ready (end_of a) d ≡ false → target_in a.regions a.domain d ≡ Some r
    → (is_send d.opcode ≡ true → nat_lt (receive_in a).length (bytes_before None a.receiver.progress + length d.payload) ≡ false) → P (acting a d r n)
unfolding acting
acting-case a d P rows names r n now valid ready t fits = by_tests (is_send d.opcode) refl (is_write d.opcode) refl (is_read_request d.opcode) refl
  where
    by_tests : (b : Bool) → is_send d.opcode ≡ b → (b' : Bool) → is_write d.opcode ≡ b' → (b'' : Bool) → is_read_request d.opcode ≡ b'' → P (acting a d r n)
    by_tests true s b' w b'' k = rw s (rows.send s valid ready (fits s))
    by_tests false s true w b'' k = rw s (rw w (rows.write r w valid ready t))
    by_tests false s false w true k = rw s (rw w (rw k (bytes-case a d P rows names r n now t k d.reth refl)))
    by_tests false s false w false k = rw s (rw w (rw k (word-case a d P rows r n now t d.atomic refl)))

granted-case : (a : Around) (d : Packet) (P : Taking → Type 0) → Rows a d P → Names d → (n : ℕ) → n ≡ a.receiver.expected → IsValid (link_of a) d → (o : Option Region) → target_in a.regions a.domain d ≡ o → P (granted_taking a d n o)
granted-case a d P rows names n now valid None t = rows.quiet (Refused refused.Access) refl
granted-case a d P rows names n now valid (Some r) t = by_tests (is_not_ready (end_of a) d) refl (is_send d.opcode) refl (nat_lt (receive_in a).length (bytes_before None a.receiver.progress + length d.payload)) refl
  where
    by_tests : (b : Bool) → is_not_ready (end_of a) d ≡ b → (b' : Bool) → is_send d.opcode ≡ b' → (b'' : Bool) → nat_lt (receive_in a).length (bytes_before None a.receiver.progress + length d.payload) ≡ b'' → P (granted_taking a d n (Some r))
    by_tests true ready b' s b'' f = rw ready (rows.quiet NotReady refl)
    by_tests false ready true s true f = rw ready (rw s (rw f (rows.too_long s valid ready)))
    by_tests false ready true s false f = rw ready (rw s (rw f (acting-case a d P rows names r n now valid ready t (λ _. f))))
    by_tests false ready false s b'' f = rw ready (rw s (acting-case a d P rows names r n now valid ready t (λ s'. absurd (cc (s, s')))))

expected-case : (a : Around) (d : Packet) (P : Taking → Type 0) → Rows a d P → Names d → (n : ℕ) → n ≡ a.receiver.expected → P (expected_taking a d n)
unfolding expected_taking target
expected-case a d P rows names n now = by_tests (nat_le number_limit (n + span_of_packet d a.terms.mtu d.reth)) refl (is_invalid (link_of a) d) refl
  where
    by_tests : (b : Bool) → nat_le number_limit (n + span_of_packet d a.terms.mtu d.reth) ≡ b → (b' : Bool) → is_invalid (link_of a) d ≡ b' → P (expected_taking a d n)
    by_tests true t b' t' = rw t (rows.quiet (Silent why.NoRepeat) refl)
    by_tests false t true t' = rw t (rw t' (rows.quiet (Refused refused.Invalid) refl))
    by_tests false t false t' = rw t (rw t' (granted-case a d P rows names n now (valid-parts (link_of a) d t') (target_in a.regions a.domain d) refl))

number-case : (a : Around) (d : Packet) (P : Taking → Type 0) → Rows a d P → Names d → (o : Option ℕ) → P (number_taking a d o)
number-case a d P rows names None = rows.quiet (Silent why.NoRepeat) refl
number-case a d P rows names (Some n) = by_tests (nat_lt a.receiver.expected n) refl (nat_lt n a.receiver.expected) refl
  where
    by_tests : (b : Bool) → nat_lt a.receiver.expected n ≡ b → (b' : Bool) → nat_lt n a.receiver.expected ≡ b' → P (number_taking a d (Some n))
    by_tests true t b' t' = rw t (ahead-case a d P rows)
    by_tests false t true t' = rw t (rw t' (repeated-case a d P rows n (grind (arith, nat_tests, t'))))
    by_tests false t false t' = rw t (rw t' (expected-case a d P rows names n (grind (arith, nat_tests, t, t'))))

-- whatever holds of each row
pub by-rows : (a : Around) (d : Packet) (P : Taking → Type 0) → Rows a d P → Names d → P (taking a d)
unfolding taking
by-rows a d P rows names = number-case a d P rows names (unwrap_near a.terms.peer_start d.psn a.receiver.expected)

-- what fits names no word but in an atomic
pub fits-names : (d : Packet) → Fits d → Names d
fits-names d f = record { write = write-names-no-word d f; read = reads-no-word d f }
