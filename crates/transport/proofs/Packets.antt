-- The packet of a head is the packet of the protocol's rules.
use Rattle.std.proofs.Common.{◌≡◌, ℕ, ◌+◌, ◌-◌, ◌*◌, ◌%◌, ◌<◌, ◌==◌, ◌&&◌, ◌||◌, if◌then◌else◌, is_some, min, Bool, true, false, Option, Some, None, List, [], length, drop, inl, inr, refl, ap, arith, length-drop}
use Rattle.std.proofs.lemmas.Bool.{eqb-true, cases_lt}
use Rattle.std.proofs.lemmas.List.{take_all}
use Rattle.rdma_types.specs.declared.requests.Kind.{Kind}
use Rattle.rdma_types.specs.declared.requests.Kind.TheVariants.{Write, Send, Read, CompareSwap, FetchAdd}
use Rattle.rdma_types.specs.declared.requests.Shape.{Shape}
use Rattle.rdma_types.specs.Kinds.{takes_bytes, is_atomic}
use Rattle.rdma_types.specs.Objects.{Posted}
use Rattle.rdma_types.specs.Spans.{span, piece_length}
use Rattle.protocol.specs.Bytes.{bytes_at}
use Rattle.protocol.specs.Segments.{is_last_piece, is_eighth, opcode_of, message_packet, read_packet, atomic_packet, packet_of_piece}
use Rattle.protocol.specs.Wire.{Packet, plain, when}
use Rattle.transport.specs.declared.segmenter.head.PacketHead.{PacketHead}
use Rattle.transport.specs.Heads.{Asks, has_reth, has_atomic, asks_by_place, packet_with}

-- a packet by its parts
abbrev told : ℕ → ℕ → ℕ → ℕ → ℕ → ℕ → ℕ → ℕ → Option ℕ → List ℕ → Packet
told opcode dest psn at rkey rest swap compare imm bytes = record (plain opcode dest psn) {
  ack_request = asks_by_place opcode || is_eighth psn;
  reth = when (has_reth opcode) (record { address = at; rkey = rkey; length = rest });
  atomic = when (has_atomic opcode) (record { address = at; rkey = rkey; swap_add = swap; compare = compare });
  imm = imm;
  payload = bytes;
}

-- a piece of a Write
told_write : (first last : Bool) (dest psn at rkey rest swap compare remote length : ℕ) (imm : Option ℕ) (bytes : List ℕ) → (first ≡ true → at ≡ remote) → (first ≡ true → rest ≡ length) → told (opcode_of Write first last (is_some (if last then imm else None))) dest psn at rkey rest swap compare (if last then imm else None) bytes ≡ record (plain (opcode_of Write first last (last && is_some imm)) dest psn) { ack_request = last || is_eighth psn; reth = when (first && true) (record { address = remote; rkey = rkey; length = length }); imm = if last then imm else None; payload = bytes }
unfolding opcode_of
told_write true true dest psn at rkey rest swap compare remote length None bytes a r = rw (a refl, r refl) refl
told_write true true dest psn at rkey rest swap compare remote length (Some x) bytes a r = rw (a refl, r refl) refl
told_write true false dest psn at rkey rest swap compare remote length imm bytes a r = rw (a refl, r refl) refl
told_write false true dest psn at rkey rest swap compare remote length None bytes a r = refl
told_write false true dest psn at rkey rest swap compare remote length (Some x) bytes a r = refl
told_write false false dest psn at rkey rest swap compare remote length imm bytes a r = refl

-- a piece of a Send
told_send : (first last : Bool) (dest psn at rkey rest swap compare remote length : ℕ) (imm : Option ℕ) (bytes : List ℕ) → told (opcode_of Send first last (is_some (if last then imm else None))) dest psn at rkey rest swap compare (if last then imm else None) bytes ≡ record (plain (opcode_of Send first last (last && is_some imm)) dest psn) { ack_request = last || is_eighth psn; reth = when (first && false) (record { address = remote; rkey = rkey; length = length }); imm = if last then imm else None; payload = bytes }
unfolding opcode_of
told_send true true dest psn at rkey rest swap compare remote length None bytes = refl
told_send true true dest psn at rkey rest swap compare remote length (Some x) bytes = refl
told_send true false dest psn at rkey rest swap compare remote length imm bytes = refl
told_send false true dest psn at rkey rest swap compare remote length None bytes = refl
told_send false true dest psn at rkey rest swap compare remote length (Some x) bytes = refl
told_send false false dest psn at rkey rest swap compare remote length imm bytes = refl

-- the piece's own bytes are those of an MTU from its place on
bytes-piece : (bytes : List ℕ) (size mtu k : ℕ) → length bytes ≡ size → bytes_at (k * mtu) (piece_length size k mtu) bytes ≡ bytes_at (k * mtu) mtu bytes
unfolding bytes_at
bytes-piece bytes size mtu k whole =
    let left : length (drop (k * mtu) bytes) ≡ size - k * mtu = omega (arith, length-drop (k * mtu) bytes) in
    elim (cases_lt (size - k * mtu) mtu) [
      | inl few ↦
          let shorter : min mtu (size - k * mtu) ≡ size - k * mtu = omega arith in
          rw (shorter, take_all (size - k * mtu) (drop (k * mtu) bytes) (omega arith), take_all mtu (drop (k * mtu) bytes) (omega arith)) refl
      | inr many ↦ let whole_mtu : min mtu (size - k * mtu) ≡ mtu = omega arith in rw whole_mtu refl
    ]

-- no bytes
no_bytes : (bytes : List ℕ) → bytes_at 0 0 bytes ≡ []
unfolding bytes_at
no_bytes bytes = refl

-- where a first piece is written
first_place : (k mtu remote : ℕ) → remote < 18446744073709551616 → (k == 0) ≡ true → (remote + k * mtu) % 18446744073709551616 ≡ remote
first_place k mtu remote fits first = let none = eqb-true k 0 first in rw none (omega arith)

first_rest : (k mtu size : ℕ) → (k == 0) ≡ true → size - k * mtu ≡ size
first_rest k mtu size first = let none = eqb-true k 0 first in rw none (omega arith)

-- an atomic has one number
span-atomic : (s : Shape) (mtu : ℕ) → is_atomic s.kind ≡ true → span s mtu ≡ 1
unfolding span
span-atomic s mtu e = rw e refl

-- where an atomic acts
only_place : (k mtu remote span : ℕ) → remote < 18446744073709551616 → span ≡ 1 → k < span → (remote + k * mtu) % 18446744073709551616 ≡ remote
only_place k mtu remote span fits one within = let none : k ≡ 0 = omega arith in rw none (omega arith)

-- what a head says of piece k of a request
pub record Tells (h : PacketHead) (s : Shape) (k mtu : ℕ) : Type 0 where
  pub opcode : h.opcode ≡ opcode_of s.kind (k == 0) (is_last_piece s mtu k) (is_some h.imm)
  pub remote : h.remote ≡ (s.remote + k * mtu) % 18446744073709551616
  pub rest : h.rest ≡ s.length - k * mtu
  pub imm : h.imm ≡ (if takes_bytes s.kind && is_last_piece s mtu k then s.imm else None)
  pub off : h.off ≡ (if takes_bytes s.kind then k * mtu else 0)
  pub length : h.length ≡ (if takes_bytes s.kind then piece_length s.length k mtu else 0)

module _ (h : PacketHead) (s : Shape) (p : Posted) (k mtu dest psn : ℕ) (t : Tells h s k mtu) (a : Asks p s) (within : k < span s mtu) (fits : s.remote < 18446744073709551616) where
  makes_write : (last : Bool) → is_last_piece s mtu k ≡ last → s.kind ≡ Write → packet_with h p dest psn ≡ packet_of_piece p mtu k dest psn
  unfolding packet_of_piece message_packet
  makes_write last is_last e =
      let whole = a.whole (ap takes_bytes e) in
      rw (a.same, t.opcode, t.remote, t.rest, t.imm, t.off, t.length, is_last, e, bytes-piece p.payload s.length mtu k whole) (told_write (k == 0) last dest psn ((s.remote + k * mtu) % 18446744073709551616) s.rkey (s.length - k * mtu) s.swap_add s.compare s.remote s.length s.imm (bytes_at (k * mtu) mtu p.payload) (first_place k mtu s.remote fits) (first_rest k mtu s.length))

  makes_send : (last : Bool) → is_last_piece s mtu k ≡ last → s.kind ≡ Send → packet_with h p dest psn ≡ packet_of_piece p mtu k dest psn
  unfolding packet_of_piece message_packet
  makes_send last is_last e =
      let whole = a.whole (ap takes_bytes e) in
      rw (a.same, t.opcode, t.remote, t.rest, t.imm, t.off, t.length, is_last, e, bytes-piece p.payload s.length mtu k whole) (told_send (k == 0) last dest psn ((s.remote + k * mtu) % 18446744073709551616) s.rkey (s.length - k * mtu) s.swap_add s.compare s.remote s.length s.imm (bytes_at (k * mtu) mtu p.payload))

  makes_read : s.kind ≡ Read → packet_with h p dest psn ≡ packet_of_piece p mtu k dest psn
  unfolding packet_of_piece read_packet opcode_of
  makes_read e = rw (a.same, t.opcode, t.remote, t.rest, t.imm, t.off, t.length, e, no_bytes p.payload) refl

  makes_compare : s.kind ≡ CompareSwap → packet_with h p dest psn ≡ packet_of_piece p mtu k dest psn
  unfolding packet_of_piece atomic_packet opcode_of
  makes_compare e =
      let place = only_place k mtu s.remote (span s mtu) fits (span-atomic s mtu (ap is_atomic e)) within in
      rw (a.same, t.opcode, t.remote, t.rest, t.imm, t.off, t.length, e, no_bytes p.payload, place) refl

  makes_add : s.kind ≡ FetchAdd → packet_with h p dest psn ≡ packet_of_piece p mtu k dest psn
  unfolding packet_of_piece atomic_packet opcode_of
  makes_add e =
      let place = only_place k mtu s.remote (span s mtu) fits (span-atomic s mtu (ap is_atomic e)) within in
      rw (a.same, t.opcode, t.remote, t.rest, t.imm, t.off, t.length, e, no_bytes p.payload, place) refl

-- the packet of a head is that of the protocol's rules, whatever the kind
makes_by : (kind : Kind) (h : PacketHead) (s : Shape) (p : Posted) (k mtu dest psn : ℕ) → Tells h s k mtu → Asks p s → k < span s mtu → s.remote < 18446744073709551616 → s.kind ≡ kind → packet_with h p dest psn ≡ packet_of_piece p mtu k dest psn
makes_by Write h s p k mtu dest psn t a within fits = makes_write h s p k mtu dest psn t a within fits (is_last_piece s mtu k) refl
makes_by Send h s p k mtu dest psn t a within fits = makes_send h s p k mtu dest psn t a within fits (is_last_piece s mtu k) refl
makes_by Read h s p k mtu dest psn t a within fits = makes_read h s p k mtu dest psn t a within fits
makes_by CompareSwap h s p k mtu dest psn t a within fits = makes_compare h s p k mtu dest psn t a within fits
makes_by FetchAdd h s p k mtu dest psn t a within fits = makes_add h s p k mtu dest psn t a within fits

pub packet_with-told : (h : PacketHead) (s : Shape) (p : Posted) (k mtu dest psn : ℕ) → Tells h s k mtu → Asks p s → k < span s mtu → s.remote < 18446744073709551616 → packet_with h p dest psn ≡ packet_of_piece p mtu k dest psn
packet_with-told h s p k mtu dest psn t a within fits = makes_by s.kind h s p k mtu dest psn t a within fits refl
