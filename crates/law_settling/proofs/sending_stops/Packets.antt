-- The packet of a piece: its headers, and the numbers that it takes.
use Rattle.std.proofs.Common.{arith, ◌≡◌, ◌≤◌, ◌<◌, ◌+◌, ◌-◌, ℕ, suc, List, [], ◌∷◌, true, false, Bool, refl, subst}
use Rattle.std.specs.Prelude.{Option, Some, None, is_some, nat_lt, ◌&&◌, if◌then◌else◌}
use Rattle.std.proofs.lemmas.Bool.Decides.{nat_tests, leb_tells}
use Rattle.rdma_types.specs.declared.requests.Kind.{Kind}
use Rattle.rdma_types.specs.declared.requests.Kind.TheVariants.{Write, Send, Read, CompareSwap, FetchAdd}
use Rattle.rdma_types.specs.Kinds.{is_read, kind_of}
use Rattle.rdma_types.specs.Limits.{is_mtu}
use Rattle.rdma_types.specs.Objects.{Posted}
use Rattle.rdma_types.specs.Spans.{Piece, end_number, piece_at, span, span_of}
use Rattle.protocol.specs.declared.wire.Reth.{Reth}
use Rattle.protocol.specs.Responder.{is_read_request, is_send, is_write, span_of_packet}
use Rattle.protocol.specs.Segments.{atomic_packet, is_first_piece, is_last_piece, message_packet, opcode_of, packet_of_piece, read_packet}
use Rattle.protocol.specs.Wire.{Packet, is_request}
use Rattle.law_simulation.proofs.repeated_reads.RereadNumbers.{pieces_rest}
use Rattle.law_settling.proofs.sending_stops.Responders.{HasParts}

abbrev of_kind : Posted → Kind → Posted
of_kind p kind = record p { request = record p.request { shape = record p.request.shape { kind = kind } } }

-- ---- opcodes of messages

send_opcode : (first last imm : Bool) → (is_send (opcode_of Send first last imm) ≡ true) × (is_read_request (opcode_of Send first last imm) ≡ false)
unfolding opcode_of
send_opcode true true true = (refl, refl)
send_opcode true true false = (refl, refl)
send_opcode true false imm = (refl, refl)
send_opcode false true true = (refl, refl)
send_opcode false true false = (refl, refl)
send_opcode false false imm = (refl, refl)

write_opcode : (first last imm : Bool) → (is_write (opcode_of Write first last imm) ≡ true) × (is_read_request (opcode_of Write first last imm) ≡ false)
unfolding opcode_of
write_opcode true true true = (refl, refl)
write_opcode true true false = (refl, refl)
write_opcode true false imm = (refl, refl)
write_opcode false true true = (refl, refl)
write_opcode false true false = (refl, refl)
write_opcode false false imm = (refl, refl)

send_asks : (first last imm : Bool) → is_request (opcode_of Send first last imm) ≡ true
unfolding opcode_of is_request
send_asks true true true = refl
send_asks true true false = refl
send_asks true false imm = refl
send_asks false true true = refl
send_asks false true false = refl
send_asks false false imm = refl

write_asks : (first last imm : Bool) → is_request (opcode_of Write first last imm) ≡ true
unfolding opcode_of is_request
write_asks true true true = refl
write_asks true true false = refl
write_asks true false imm = refl
write_asks false true true = refl
write_asks false true false = refl
write_asks false false imm = refl

asks_kind : (p : Posted) (kind : Kind) (mtu k dest psn : ℕ) → is_request (packet_of_piece (of_kind p kind) mtu k dest psn).opcode ≡ true
unfolding packet_of_piece message_packet read_packet atomic_packet opcode_of is_request
asks_kind p Send mtu k dest psn = send_asks (is_first_piece k) (is_last_piece (of_kind p Send).request.shape mtu k) (is_last_piece (of_kind p Send).request.shape mtu k && is_some p.request.shape.imm)
asks_kind p Write mtu k dest psn = write_asks (is_first_piece k) (is_last_piece (of_kind p Write).request.shape mtu k) (is_last_piece (of_kind p Write).request.shape mtu k && is_some p.request.shape.imm)
asks_kind p Read mtu k dest psn = refl
asks_kind p CompareSwap mtu k dest psn = refl
asks_kind p FetchAdd mtu k dest psn = refl

-- it is a request
pub asks : (p : Posted) (mtu k dest psn : ℕ) → is_request (packet_of_piece p mtu k dest psn).opcode ≡ true
asks p mtu k dest psn = asks_kind p (kind_of p) mtu k dest psn

-- ---- the headers of its opcode

message_parts : (d : Packet) → (is_read_request d.opcode ≡ false) → (is_send d.opcode ≡ false → is_write d.opcode ≡ false → ⊥) → HasParts d
message_parts d read other = record { read = λ h. absurd (cc (h, read)); atomic = λ a b c. absurd (other a b) }

parts_kind : (p : Posted) (kind : Kind) (mtu k dest psn : ℕ) → HasParts (packet_of_piece (of_kind p kind) mtu k dest psn)
unfolding packet_of_piece message_packet read_packet atomic_packet opcode_of
parts_kind p Send mtu k dest psn = let o = send_opcode (is_first_piece k) (is_last_piece (of_kind p Send).request.shape mtu k) (is_last_piece (of_kind p Send).request.shape mtu k && is_some p.request.shape.imm) in message_parts _ o.1 (λ a b. absurd (cc (a, o.0)))
parts_kind p Write mtu k dest psn = let o = write_opcode (is_first_piece k) (is_last_piece (of_kind p Write).request.shape mtu k) (is_last_piece (of_kind p Write).request.shape mtu k && is_some p.request.shape.imm) in message_parts _ o.1 (λ a b. absurd (cc (b, o.0)))
parts_kind p Read mtu k dest psn = record { read = λ h. refl; atomic = λ a b c. absurd (cc) }
parts_kind p CompareSwap mtu k dest psn = record { read = λ h. absurd (cc); atomic = λ a b c. refl }
parts_kind p FetchAdd mtu k dest psn = record { read = λ h. absurd (cc); atomic = λ a b c. refl }

pub parts : (p : Posted) (mtu k dest psn : ℕ) → HasParts (packet_of_piece p mtu k dest psn)
parts p mtu k dest psn = parts_kind p (kind_of p) mtu k dest psn

-- ---- the numbers that it takes

-- one past them, from the number of the piece on
abbrev past_of : Posted → ℕ → ℕ → ℕ → ℕ
past_of p mtu k n = if is_read p.request.shape.kind then (n - k) + span_of p mtu else n + 1

one_number : (d : Packet) (mtu : ℕ) (h : Option Reth) → is_read_request d.opcode ≡ false → span_of_packet d mtu h ≡ 1
one_number d mtu None read = refl
one_number d mtu (Some h) read = rw read refl

past_kind : (p : Posted) (kind : Kind) (mtu k dest psn n : ℕ) → is_mtu mtu ≡ true → k < span_of (of_kind p kind) mtu → k ≤ n → n + span_of_packet (packet_of_piece (of_kind p kind) mtu k dest psn) mtu (packet_of_piece (of_kind p kind) mtu k dest psn).reth ≡ past_of (of_kind p kind) mtu k n
unfolding packet_of_piece message_packet read_packet atomic_packet span
past_kind p Send mtu k dest psn n one within low = let o = send_opcode (is_first_piece k) (is_last_piece (of_kind p Send).request.shape mtu k) (is_last_piece (of_kind p Send).request.shape mtu k && is_some p.request.shape.imm) in omega (arith, one_number (packet_of_piece (of_kind p Send) mtu k dest psn) mtu (packet_of_piece (of_kind p Send) mtu k dest psn).reth o.1)
past_kind p Write mtu k dest psn n one within low = let o = write_opcode (is_first_piece k) (is_last_piece (of_kind p Write).request.shape mtu k) (is_last_piece (of_kind p Write).request.shape mtu k && is_some p.request.shape.imm) in omega (arith, one_number (packet_of_piece (of_kind p Write) mtu k dest psn) mtu (packet_of_piece (of_kind p Write) mtu k dest psn).reth o.1)
past_kind p Read mtu k dest psn n one within low = omega (arith, pieces_rest p.request.shape.length mtu k one within, within, low)
past_kind p CompareSwap mtu k dest psn n one within low = refl
past_kind p FetchAdd mtu k dest psn n one within low = refl

pub past_is : (p : Posted) (mtu k dest psn n : ℕ) → is_mtu mtu ≡ true → k < span_of p mtu → k ≤ n → n + span_of_packet (packet_of_piece p mtu k dest psn) mtu (packet_of_piece p mtu k dest psn).reth ≡ (if is_read p.request.shape.kind then (n - k) + span_of p mtu else n + 1)
past_is p mtu k dest psn n one within low = past_kind p (kind_of p) mtu k dest psn n one within low

-- ---- a piece that is found

pub record IsFoundAt (ps : List Posted) (mtu n : ℕ) (x : Piece) : Type 0 where
  pub low : x.k ≤ n
  pub within : x.k < span_of x.posted mtu
  pub end : (n - x.k) + span_of x.posted mtu ≤ end_number ps mtu

pub found_at : (ps : List Posted) (mtu n : ℕ) (x : Piece) → piece_at ps mtu n ≡ Some x → IsFoundAt ps mtu n x
unfolding piece_at end_number
found_at [] mtu n x h = absurd (cc)
found_at (p ∷ ps) mtu n x h = by_test (nat_lt n (span_of p mtu)) refl h (found_at ps mtu (n - span_of p mtu) x)
  where
    by_test : (b : Bool) → nat_lt n (span_of p mtu) ≡ b → (if b then Some (record { posted = p; k = n }) else piece_at ps mtu (n - span_of p mtu)) ≡ Some x → (piece_at ps mtu (n - span_of p mtu) ≡ Some x → IsFoundAt ps mtu (n - span_of p mtu) x) → IsFoundAt (p ∷ ps) mtu n x
    by_test true t g later =
        let is : record { posted = p; k = n } ≡ x = cc in
        let less : n < span_of p mtu = grind (arith, nat_tests, leb_tells (suc n) (span_of p mtu), t) in
        subst (IsFoundAt (p ∷ ps) mtu n) is (record { low = omega arith; within = less; end = omega arith })
    by_test false t g later =
        let l = later g in
        let past : span_of p mtu ≤ n = grind (arith, nat_tests, leb_tells (suc n) (span_of p mtu), t) in
        record { low = omega (arith, l.low); within = l.within; end = omega (arith, l.end, l.low, past) }
