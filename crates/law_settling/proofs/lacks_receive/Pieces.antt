-- What a piece whose packet needs a receive is, and what the bytes of answers say.
use Rattle.std.proofs.Common.{arith, ◌≡◌, ◌<◌, ◌⊎◌, ℕ, List, true, false, Bool, refl, sym, ap, ◌∙◌, inl, inr}
use Rattle.std.specs.Prelude.{Option, Some, None, is_some, ◌==◌, ◌&&◌, ◌||◌, if◌then◌else◌}
use Rattle.rdma_types.specs.declared.requests.Kind.{Kind}
use Rattle.rdma_types.specs.declared.requests.Kind.TheVariants.{Write, Send, Read, CompareSwap, FetchAdd}
use Rattle.rdma_types.specs.Kinds.{kind_of}
use Rattle.rdma_types.specs.Objects.{Posted}
use Rattle.rdma_types.specs.Spans.{Piece}
use Rattle.protocol.specs.declared.wire.Aeth.{Aeth}
use Rattle.protocol.specs.declared.wire.Headers.TheVariants as headers
use Rattle.protocol.specs.declared.wire.Layout.{Layout}
use Rattle.protocol.specs.declared.wire.Syndrome.{Syndrome}
use Rattle.protocol.specs.declared.wire.Syndrome.TheVariants.{Ack, Rnr, Nak}
use Rattle.protocol.specs.Bytes.{big_bytes, byte_at, number_at}
use Rattle.protocol.specs.Numbers.{wire_number}
use Rattle.protocol.specs.Responder as responder
use Rattle.protocol.specs.Responder.{begins, is_send, is_write, needs_receive, part_of}
use Rattle.protocol.specs.Segments.{atomic_packet, is_first_piece, is_last_piece, message_packet, opcode_of, packet_of_piece, read_packet}
use Rattle.protocol.specs.State.{Link}
use Rattle.protocol.specs.Wire.{Packet, has_aeth, has_resume, layout_of, loaded, packet_of, read_aeth, read_syndrome, unloaded, when, wire_of}
use Rattle.protocol.proofs.PacketGrammar.{read_spelled}
use Rattle.law_simulation.proofs.sending.GoWritten.{wire_number_bits}
use Rattle.law_settling.proofs.sending_stops.Turns.{IsCalm, IsNak}
use Rattle.law_settling.proofs.lacks_receive.Answered.{NotRnr}
use Rattle.law_settling.proofs.lacks_receive.Dried.{NoRnr}
use Rattle.law_settling.proofs.lacks_receive.Wanted.{NeedsReceive}
use Rattle.law_settling.proofs.lacks_receive.Tests.{equal_is}

-- ---- a packet that needs a receive

abbrev of_kind : Posted → Kind → Posted
of_kind p kind = record p { request = record p.request { shape = record p.request.shape { kind = kind } } }

send_needs : (first last imm rest : Bool) → ((is_send (opcode_of Send first last imm) && begins (part_of (opcode_of Send first last imm))) || (is_write (opcode_of Send first last imm) && rest)) ≡ true → first ≡ true
unfolding opcode_of part_of
send_needs true last imm rest h = refl
send_needs false true true rest h = absurd (cc)
send_needs false true false rest h = absurd (cc)
send_needs false false imm rest h = absurd (cc)

write_needs : (first last imm rest : Bool) → ((is_send (opcode_of Write first last imm) && begins (part_of (opcode_of Write first last imm))) || (is_write (opcode_of Write first last imm) && rest)) ≡ true → rest ≡ true
unfolding opcode_of part_of
write_needs first last imm true h = refl
write_needs true true true false h = absurd (cc)
write_needs true true false false h = absurd (cc)
write_needs true false imm false h = absurd (cc)
write_needs false true true false h = absurd (cc)
write_needs false true false false h = absurd (cc)
write_needs false false imm false h = absurd (cc)

imm_there : (last : Bool) (i : Option ℕ) → is_some (if last then i else None) ≡ true → is_some i ≡ true
imm_there true i h = h
imm_there false i h = absurd (cc)

none_read : ((is_send 0x0C && begins (part_of 0x0C)) || (is_write 0x0C && false)) ≡ true → ⊥
unfolding part_of
none_read t = cc

none_swap : ((is_send (opcode_of CompareSwap true true false) && begins (part_of (opcode_of CompareSwap true true false))) || (is_write (opcode_of CompareSwap true true false) && false)) ≡ true → ⊥
unfolding opcode_of part_of
none_swap t = cc

none_add : ((is_send (opcode_of FetchAdd true true false) && begins (part_of (opcode_of FetchAdd true true false))) || (is_write (opcode_of FetchAdd true true false) && false)) ≡ true → ⊥
unfolding opcode_of part_of
none_add t = cc

needs_kind : (p : Posted) (kind : Kind) (mtu k dest psn : ℕ) → needs_receive (packet_of_piece (of_kind p kind) mtu k dest psn) ≡ true → NeedsReceive (record { posted = of_kind p kind; k = k })
unfolding packet_of_piece message_packet read_packet atomic_packet
needs_kind p Send mtu k dest psn h =
    inl (refl, equal_is k 0 (send_needs (is_first_piece k) (is_last_piece (of_kind p Send).request.shape mtu k) (is_last_piece (of_kind p Send).request.shape mtu k && is_some p.request.shape.imm) (is_some (if is_last_piece (of_kind p Send).request.shape mtu k then p.request.shape.imm else None)) h))
needs_kind p Write mtu k dest psn h =
    inr (
      refl,
      imm_there (is_last_piece (of_kind p Write).request.shape mtu k) p.request.shape.imm
          (write_needs (is_first_piece k) (is_last_piece (of_kind p Write).request.shape mtu k) (is_last_piece (of_kind p Write).request.shape mtu k && is_some p.request.shape.imm) (is_some (if is_last_piece (of_kind p Write).request.shape mtu k then p.request.shape.imm else None)) h),
    )
needs_kind p Read mtu k dest psn h = absurd (none_read h)
needs_kind p CompareSwap mtu k dest psn h = absurd (none_swap h)
needs_kind p FetchAdd mtu k dest psn h = absurd (none_add h)

pub piece_needs : (x : Piece) (mtu dest psn : ℕ) → needs_receive (packet_of_piece x.posted mtu x.k dest psn) ≡ true → NeedsReceive x
piece_needs x mtu dest psn h = needs_kind x.posted (kind_of x.posted) mtu x.k dest psn h

-- ---- what answers say

same_layout : (a b : Layout) → Some a ≡ Some b → a ≡ b
same_layout a b h = cc

row_bare : (n : ℕ) → n ≡ 0x0E → layout_of n ≡ Some (loaded headers.Bare)
unfolding layout_of
row_bare n h = rw h refl

row_ack : (n : ℕ) → n ≡ 0x11 → layout_of n ≡ Some (unloaded headers.Aeth)
unfolding layout_of
row_ack n h = rw h refl

aeth_by : (b : Bool) (a h : Aeth) → when b a ≡ Some h → (b ≡ true) × (a ≡ h)
aeth_by true a h t = (refl, let e : a ≡ h = cc in e)
aeth_by false a h t = absurd (cc)

module _ (bs : List ℕ) (p : Packet) (read : packet_of bs ≡ Some p) where
  -- an acknowledge header is the one that stands there
  header : (h : Aeth) → p.aeth ≡ Some h → h.syndrome ≡ read_syndrome (byte_at 12 bs)
  header h t = let s = read_spelled p bs read in ap (λ z. z.syndrome) (sym (aeth_by (has_aeth s.layout.headers) (read_aeth bs) h (sym s.aeth ∙ t)).1)

  no_header : byte_at 0 bs ≡ 0x0E → (h : Aeth) → p.aeth ≡ Some h → ⊥
  no_header at h t =
      let s = read_spelled p bs read in
      let row : s.layout ≡ loaded headers.Bare = same_layout s.layout (loaded headers.Bare) (sym s.known ∙ (ap layout_of s.opcode ∙ row_bare (byte_at 0 bs) at)) in
      absurd (cc ((aeth_by (has_aeth s.layout.headers) (read_aeth bs) h (sym s.aeth ∙ t)).0, row))

  byte_syndrome : (n : ℕ) (y : Syndrome) → byte_at 12 bs ≡ n → read_syndrome n ≡ y → (y ≡ Rnr → ⊥) → NotRnr p
  byte_syndrome n y at is other h t k = other (sym is ∙ (ap read_syndrome (sym at) ∙ (sym (header h t) ∙ k)))

  ack_other : Ack ≡ Rnr → ⊥
  ack_other h = cc

  nak_other : (code : ℕ) → Nak code ≡ Rnr → ⊥
  nak_other code h = cc

  not_both : NoRnr bs → byte_at 12 bs ≡ 0x20 → byte_at 0 bs ≡ 0x11 → ⊥
  not_both (inl a) h k = cc (a, ap (λ n. n == 0x11) k)
  not_both (inr a) h k = cc (a, ap (λ n. n == 0x20) h)

  pub not_rnr : (Back : Type 0) → IsCalm bs ⊎ (Back × IsNak bs) → NoRnr bs → NotRnr p
  not_rnr Back (inl (inl a)) apart = λ h t k. no_header a h t
  not_rnr Back (inl (inr (inl a))) apart = byte_syndrome 0x1F Ack a.0 refl ack_other
  not_rnr Back (inl (inr (inr a))) apart = absurd (not_both apart a.0 a.1)
  not_rnr Back (inr (back, (at, inl a))) apart = byte_syndrome 0x60 (Nak 0) a refl (nak_other 0)
  not_rnr Back (inr (back, (at, inr (inl a)))) apart = byte_syndrome 0x61 (Nak 1) a refl (nak_other 1)
  not_rnr Back (inr (back, (at, inr (inr a)))) apart = byte_syndrome 0x62 (Nak 2) a refl (nak_other 2)

-- an RNR NAK of that number
pub record IsRnrOf (start n : ℕ) (d : Packet) : Type 0 where
  pub opcode : d.opcode ≡ 0x11
  pub psn : d.psn ≡ wire_number start n
  pub header : Aeth
  pub there : d.aeth ≡ Some header
  pub says : header.syndrome ≡ Rnr

psn_written : (d : Packet) → d.psn < 16777216 → number_at 9 3 (wire_of d) ≡ d.psn
unfolding wire_of number_at big_bytes
psn_written d h = omega (arith, h)

rnr_bytes : (l : Link) (n : ℕ) → (byte_at 0 (responder.acknowledge l n Rnr).bytes ≡ 0x11) × (byte_at 12 (responder.acknowledge l n Rnr).bytes ≡ 0x20) × (number_at 9 3 (responder.acknowledge l n Rnr).bytes ≡ wire_number l.terms.peer_start n)
unfolding responder.acknowledge wire_of big_bytes
rnr_bytes l n = (refl, refl, psn_written (responder.response l 0x11 n Rnr) (wire_number_bits l.terms.peer_start n))

-- what a responder writes where no receive is posted
pub rnr_read : (l : Link) (n : ℕ) (p : Packet) → packet_of (responder.acknowledge l n Rnr).bytes ≡ Some p → IsRnrOf l.terms.peer_start n p
rnr_read l n p read =
    let bs : List ℕ = (responder.acknowledge l n Rnr).bytes in
    let s = read_spelled p bs read in
    let b = rnr_bytes l n in
    let row : s.layout ≡ unloaded headers.Aeth = same_layout s.layout (unloaded headers.Aeth) (sym s.known ∙ (ap layout_of s.opcode ∙ row_ack (byte_at 0 bs) b.0)) in
    record {
      opcode = s.opcode ∙ b.0;
      psn = s.psn ∙ (ap (λ (z : Layout). if has_resume z.headers then 0 else number_at 9 3 bs) row ∙ b.2);
      header = read_aeth bs;
      there = s.aeth ∙ ap (λ (z : Layout). when (has_aeth z.headers) (read_aeth bs)) row;
      says = ap read_syndrome b.1;
    }
