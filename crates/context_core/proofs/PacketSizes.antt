-- Packets that can be written, and how long they are.
use Rattle.std.proofs.Common.{◌≡◌, ℕ, ◌+◌, ◌*◌, ◌/◌, ◌<◌, ◌≤◌, ◌^◌, false, List, [], ◌∷◌, ◌++◌, length, refl, ap, sym, arith, length-append, ◌⊎◌, inl, inr}
use Rattle.std.specs.Prelude.{◌%◌, Option, Some, None, IfSome, is_some, replicate}
use Rattle.std.specs.Bool.{OnFalse}
use Rattle.rdma_types.specs.declared.requests.Kind.{Kind}
use Rattle.rdma_types.specs.declared.requests.Kind.TheVariants.{Write, Send, Read, CompareSwap, FetchAdd}
use Rattle.rdma_types.specs.Kinds.{kind_of}
use Rattle.rdma_types.specs.Objects.{Posted}
use Rattle.rdma_types.specs.Shapes.{IsLawfulShape}
use Rattle.protocol.specs.declared.wire.Aeth.{Aeth}
use Rattle.protocol.specs.declared.wire.Layout.{Layout}
use Rattle.protocol.specs.declared.wire.ResumeBody.{ResumeBody}
use Rattle.protocol.specs.Bytes.{big_bytes}
use Rattle.protocol.specs.Segments.{atomic_packet, message_packet, packet_of_piece, read_packet}
use Rattle.protocol.specs.Wire as wire
use Rattle.protocol.specs.Wire.{Fits, FitsAeth, FitsResume, Packet, extension_bytes, has_aeth, has_atomic, has_imm, has_old, has_resume, has_reth, layout_of, padding, plain, wire_of}
use Rattle.protocol.proofs.FittingPackets.{few_bytes, fits, of_kind, on_false, piece-fits, resume-fits}
use Rattle.protocol.proofs.WrittenPackets.{written_len}
use Rattle.context_core.specs.Sending.{IsInRange, addressed}

-- ---- the destination has 24 bits

low_bytes : (n : ℕ) → big_bytes 3 n ≡ big_bytes 3 (n % 16777216)
unfolding big_bytes
low_bytes n =
    let a : n / 65536 % 256 ≡ n % 16777216 / 65536 % 256 = omega arith in
    let b : n / 256 % 256 ≡ n % 16777216 / 256 % 256 = omega arith in
    let c : n % 256 ≡ n % 16777216 % 256 = omega arith in
    λ i. a i ∷ b i ∷ c i ∷ []

pub wire-addressed : (p : Packet) → wire_of (addressed p) ≡ wire_of p
unfolding wire_of
wire-addressed p =
    ap (λ bs. (p.opcode ∷ 16 * padding (length p.payload) ∷ 0xFF ∷ 0xFF ∷ 0 ∷ (bs ++ (wire.flag p.ack_request 128 ∷ big_bytes 3 p.psn))) ++ extension_bytes p ++ p.payload ++ replicate (padding (length p.payload) + 4) 0) (sym (low_bytes p.dest))

pub dest-small : (n : ℕ) → n % 16777216 < 2 ^ 24
dest-small n = omega arith

-- ---- lengths

short-option : {A : Type 0} (spell : A → List ℕ) (most : ℕ) (o : Option A) → ((x : A) → length (spell x) ≤ most) → length (wire.optional spell o) ≤ most
short-option spell most None h = omega arith
short-option spell most (Some x) h = h x

pad-small : (n : ℕ) → padding n ≤ 3
unfolding padding
pad-small n = omega arith

extension-length : (p : Packet) → length (extension_bytes p) ≤ 72
unfolding big_bytes
extension-length p =
    let a : length (wire.optional wire.reth_bytes p.reth) ≤ 16 = short-option wire.reth_bytes 16 p.reth (λ h. omega arith) in
    let b : length (wire.optional wire.atomic_bytes p.atomic) ≤ 28 = short-option wire.atomic_bytes 28 p.atomic (λ h. omega arith) in
    let c : length (wire.optional wire.aeth_bytes p.aeth) ≤ 4 = short-option wire.aeth_bytes 4 p.aeth (λ h. omega arith) in
    let d : length (wire.optional (big_bytes 8) p.old) ≤ 8 = short-option (big_bytes 8) 8 p.old (λ h. omega arith) in
    let e : length (wire.optional (big_bytes 4) p.imm) ≤ 4 = short-option (big_bytes 4) 4 p.imm (λ h. omega arith) in
    let f : length (wire.optional wire.resume_bytes p.resume) ≤ 12 = short-option wire.resume_bytes 12 p.resume (λ h. omega arith) in
    simp length-append (omega (arith, a, b, c, d, e, f))

pub wire-length : (p : Packet) → length (wire_of p) ≤ 92 + length p.payload
wire-length p = omega (arith, written_len p, extension-length p, pad-small (length p.payload))

-- ---- responses

-- a READ response, an acknowledge or an old value
pub answer-fits : (opcode dest psn : ℕ) (aeth : Option Aeth) (old : Option ℕ) (payload : List ℕ) (layout : Layout) → layout_of opcode ≡ Some layout → dest < 2 ^ 24 → psn < 2 ^ 24 → has_resume layout.headers ≡ false → has_reth layout.headers ≡ false → has_imm layout.headers ≡ false → has_atomic layout.headers ≡ false
    → is_some aeth ≡ has_aeth layout.headers → is_some old ≡ has_old layout.headers → IfSome aeth (FitsAeth opcode) → IfSome old (λ n. n < 2 ^ 64) → OnFalse layout.payload (payload ≡ []) → length payload ≤ 4096
    → Fits (record (plain opcode dest psn) { aeth = aeth; old = old; payload = payload })
answer-fits opcode dest psn aeth old payload layout known d p resume reth imm atomic aeth-is old-is aeth-fits old-fits allowed few =
    fits (record (plain opcode dest psn) { aeth = aeth; old = old; payload = payload }) layout known (λ i. (sym reth i, sym imm i, aeth-is i, sym atomic i, old-is i, sym resume i)) d p
    (on_false (has_resume layout.headers) _ resume) (tt, tt, aeth-fits, tt, old-fits, tt) allowed few

pub moving-fits : (opcode dest : ℕ) (body : ResumeBody) → (opcode ≡ 0x1E) ⊎ (opcode ≡ 0x1F) → dest < 2 ^ 24 → FitsResume body → Fits (record (plain opcode dest 0) { resume = Some body })
unfolding layout_of
moving-fits opcode dest body which d said = by which
  where
    by : (opcode ≡ 0x1E) ⊎ (opcode ≡ 0x1F) → Fits (record (plain opcode dest 0) { resume = Some body })
    by (inl e) = resume-fits opcode dest body (ap layout_of e) d said
    by (inr e) = resume-fits opcode dest body (ap layout_of e) d said

-- ---- pieces of requests

-- the packet of a piece can be written
pub fits_piece : (p : Posted) (mtu k dest psn : ℕ) → IsInRange p.request.shape → IsLawfulShape p.request.shape → mtu ≤ 4096 → dest < 2 ^ 24 → psn < 2 ^ 24 → Fits (packet_of_piece p mtu k dest psn)
fits_piece p mtu k dest psn said law = piece-fits p mtu k dest psn (record { length' = said.length'; remote = said.remote; rkey = said.rkey; imm = said.imm; swap_add = said.swap_add; compare = said.compare; no_compare = law.compare })

-- ---- pieces under another destination

pub piece-addressed : (p : Posted) (mtu k dest psn : ℕ) → packet_of_piece p mtu k (dest % 16777216) psn ≡ addressed (packet_of_piece p mtu k dest psn)
unfolding packet_of_piece message_packet read_packet atomic_packet
piece-addressed p mtu k dest psn = by (kind_of p)
  where
    by : (kind : Kind) → packet_of_piece (of_kind p kind) mtu k (dest % 16777216) psn ≡ addressed (packet_of_piece (of_kind p kind) mtu k dest psn)
    by Send = refl
    by Write = refl
    by Read = refl
    by CompareSwap = refl
    by FetchAdd = refl

pub piece-payload : (p : Posted) (mtu k dest psn : ℕ) → length (packet_of_piece p mtu k dest psn).payload ≤ mtu
unfolding packet_of_piece message_packet read_packet atomic_packet
piece-payload p mtu k dest psn = by (kind_of p)
  where
    by : (kind : Kind) → length (packet_of_piece (of_kind p kind) mtu k dest psn).payload ≤ mtu
    by Send = few_bytes (k * mtu) mtu p.payload
    by Write = few_bytes (k * mtu) mtu p.payload
    by Read = omega arith
    by CompareSwap = omega arith
    by FetchAdd = omega arith
