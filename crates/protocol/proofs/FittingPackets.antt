-- Packets that can be written: responses, the messages of moving, and the pieces of requests.
use Rattle.std.proofs.Common.{◌≡◌, ℕ, ◌*◌, ◌<◌, ◌≤◌, ◌^◌, Bool, true, false, List, [], length, refl, ap, sym, ◌∙◌, arith}
use Rattle.std.specs.Prelude.{◌&&◌, Option, Some, None, IfSome, is_some, drop, if◌then◌else◌}
use Rattle.std.specs.Bool.{OnTrue, OnFalse}
use Rattle.std.proofs.lemmas.List.{length-take}
use Rattle.rdma_types.specs.declared.requests.Kind.{Kind}
use Rattle.rdma_types.specs.declared.requests.Kind.TheVariants.{Write, Send, Read, CompareSwap, FetchAdd}
use Rattle.rdma_types.specs.declared.requests.Shape.{Shape}
use Rattle.rdma_types.specs.Kinds.{is_write, kind_of}
use Rattle.rdma_types.specs.Objects.{Posted}
use Rattle.rdma_types.specs.Shapes.{is_swap}
use Rattle.protocol.specs.declared.wire.Headers.{Headers}
use Rattle.protocol.specs.declared.wire.Headers.TheVariants as headers
use Rattle.protocol.specs.declared.wire.Layout.{Layout}
use Rattle.protocol.specs.declared.wire.ResumeBody.{ResumeBody}
use Rattle.protocol.specs.Bytes.{bytes_at}
use Rattle.protocol.specs.Segments.{atomic_packet, is_first_piece, is_last_piece, message_packet, opcode_of, packet_of_piece, read_packet}
use Rattle.protocol.specs.Wire.{Fits, FitsAeth, FitsAtomic, FitsResume, FitsReth, Packet, has_aeth, has_atomic, has_imm, has_old, has_resume, has_reth, is_request, layout_of, plain, when}

-- ---- any packet

-- which headers a packet has beside its base, and which a layout wants
abbrev pub Parts : Type 0
Parts = Bool × Bool × Bool × Bool × Bool × Bool

abbrev pub parts_of : Packet → Parts
parts_of d = (is_some d.reth, is_some d.imm, is_some d.aeth, is_some d.atomic, is_some d.old, is_some d.resume)

abbrev pub parts_in : Headers → Parts
parts_in h = (has_reth h, has_imm h, has_aeth h, has_atomic h, has_old h, has_resume h)

-- each field of each header is in its range
abbrev pub FitParts : Packet → Type 0
FitParts d = IfSome d.reth FitsReth × IfSome d.imm (λ n. n < 2 ^ 32) × IfSome d.aeth (FitsAeth d.opcode) × IfSome d.atomic (FitsAtomic d.opcode) × IfSome d.old (λ n. n < 2 ^ 64) × IfSome d.resume FitsResume

-- a packet with the headers of its layout and no others can be written
pub fits : (d : Packet) (layout : Layout) → layout_of d.opcode ≡ Some layout → parts_of d ≡ parts_in layout.headers → d.dest < 2 ^ 24 → d.psn < 2 ^ 24 → OnTrue (has_resume layout.headers) (d.psn ≡ 0) → FitParts d → OnFalse layout.payload (d.payload ≡ []) → length d.payload ≤ 4096 → Fits d
fits d layout known same dest psn unnumbered parts allowed few = record {
  layout = layout;
  known = known;
  dest = dest;
  psn = psn;
  unnumbered = unnumbered;
  reth = ap (λ x. x.0) same;
  imm = ap (λ x. x.1) same;
  aeth = ap (λ x. x.2) same;
  atomic = ap (λ x. x.3) same;
  old = ap (λ x. x.4) same;
  resume = ap (λ x. x.5) same;
  reth_fits = parts.0;
  imm_fits = parts.1;
  aeth_fits = parts.2;
  atomic_fits = parts.3;
  old_fits = parts.4;
  resume_fits = parts.5;
  allowed = allowed;
  payload = few;
}

-- a message of moving
pub resume-fits : (opcode dest : ℕ) (body : ResumeBody) → layout_of opcode ≡ Some (record { headers = headers.Resume; payload = false }) → dest < 2 ^ 24 → FitsResume body → Fits (record (plain opcode dest 0) { resume = Some body })
resume-fits opcode dest body known small said = fits (record (plain opcode dest 0) { resume = Some body }) _ known refl small (omega arith) refl (tt, tt, tt, tt, tt, said) refl (omega arith)

-- ---- pieces of messages

pub on_false : (b : Bool) (P : Type 0) → b ≡ false → OnTrue b P
on_false true P h = absurd (cc)
on_false false P h = tt

pub on_true : (b : Bool) (P : Type 0) → b ≡ true → OnFalse b P
on_true true P h = tt
on_true false P h = absurd (cc)

-- the headers of a message's piece
record HasHeaders (opcode : ℕ) (a b : Bool) : Type 0 where
  layout : Layout
  known : layout_of opcode ≡ Some layout
  parts : (a, b, false, false, false, false) ≡ parts_in layout.headers
  resume : has_resume layout.headers ≡ false
  loaded : layout.payload ≡ true
  request : is_request opcode ≡ true

is_message : Kind → Bool
is_message Send = true
is_message Write = true
is_message Read = false
is_message CompareSwap = false
is_message FetchAdd = false

message_headers : (kind : Kind) (first last imm : Bool) → is_message kind ≡ true → HasHeaders (opcode_of kind first last (last && imm)) (first && is_write kind) (last && imm)
unfolding opcode_of layout_of is_request is_message
message_headers Send true true true m = record { layout = _; known = refl; parts = refl; resume = refl; loaded = refl; request = refl }
message_headers Send true true false m = record { layout = _; known = refl; parts = refl; resume = refl; loaded = refl; request = refl }
message_headers Send true false imm m = record { layout = _; known = refl; parts = refl; resume = refl; loaded = refl; request = refl }
message_headers Send false true true m = record { layout = _; known = refl; parts = refl; resume = refl; loaded = refl; request = refl }
message_headers Send false true false m = record { layout = _; known = refl; parts = refl; resume = refl; loaded = refl; request = refl }
message_headers Send false false imm m = record { layout = _; known = refl; parts = refl; resume = refl; loaded = refl; request = refl }
message_headers Write true true true m = record { layout = _; known = refl; parts = refl; resume = refl; loaded = refl; request = refl }
message_headers Write true true false m = record { layout = _; known = refl; parts = refl; resume = refl; loaded = refl; request = refl }
message_headers Write true false imm m = record { layout = _; known = refl; parts = refl; resume = refl; loaded = refl; request = refl }
message_headers Write false true true m = record { layout = _; known = refl; parts = refl; resume = refl; loaded = refl; request = refl }
message_headers Write false true false m = record { layout = _; known = refl; parts = refl; resume = refl; loaded = refl; request = refl }
message_headers Write false false imm m = record { layout = _; known = refl; parts = refl; resume = refl; loaded = refl; request = refl }
message_headers Read first last imm m = absurd (cc)
message_headers CompareSwap first last imm m = absurd (cc)
message_headers FetchAdd first last imm m = absurd (cc)

some_when : {A : Type 0} (b : Bool) (x : A) → is_some (when b x) ≡ b
some_when true x = refl
some_when false x = refl

fits_when : {A : Type 0} (P : A → Type 0) (b : Bool) (x : A) → P x → IfSome (when b x) P
fits_when P true x h = h
fits_when P false x h = tt

some_last : (last : Bool) (imm : Option ℕ) → is_some (if last then imm else None) ≡ (last && is_some imm)
some_last true imm = refl
some_last false imm = refl

fits_last : (P : ℕ → Type 0) (last : Bool) (imm : Option ℕ) → IfSome imm P → IfSome (if last then imm else None) P
fits_last P true imm h = h
fits_last P false imm h = tt

pub few_bytes : (place count : ℕ) (bs : List ℕ) → length (bytes_at place count bs) ≤ count
unfolding bytes_at
few_bytes place count bs = omega (arith, length-take count (drop place bs))

-- each number of the request is in the range of its field
pub record IsWritable (s : Shape) : Type 0 where
  pub length' : s.length < 2 ^ 32
  pub remote : s.remote < 2 ^ 64
  pub rkey : s.rkey < 2 ^ 32
  pub imm : IfSome s.imm (λ n. n < 2 ^ 32)
  pub swap_add : s.swap_add < 2 ^ 64
  pub compare : s.compare < 2 ^ 64
  pub no_compare : is_swap s.kind ≡ false → s.compare ≡ 0

fits_message : (p : Posted) (mtu k dest psn : ℕ) (first last : Bool) → is_message (kind_of p) ≡ true → IsWritable p.request.shape → mtu ≤ 4096 → dest < 2 ^ 24 → psn < 2 ^ 24 → Fits (message_packet p mtu k dest psn first last)
unfolding message_packet
fits_message p mtu k dest psn first last message said small dest_fits psn_fits =
    let h = message_headers (kind_of p) first last (is_some p.request.shape.imm) message in
    let a = some_when (first && is_write (kind_of p)) _ in
    let b = some_last last p.request.shape.imm in
    fits (message_packet p mtu k dest psn first last) h.layout h.known ((λ i. (a i, b i, false, false, false, false)) ∙ h.parts) dest_fits psn_fits (on_false (has_resume h.layout.headers) _ h.resume)
    (fits_when FitsReth (first && is_write (kind_of p)) _ (record { address = said.remote; rkey = said.rkey; length = said.length' }), fits_last (λ n. n < 2 ^ 32) last p.request.shape.imm said.imm, tt, tt, tt, tt)
    (on_true h.layout.payload _ h.loaded) (omega (arith, few_bytes (k * mtu) mtu p.payload, small))

-- ---- pieces of all requests

-- the request with another kind
abbrev pub of_kind : Posted → Kind → Posted
of_kind p kind = record p { request = record p.request { shape = record p.request.shape { kind = kind } } }

fits_kind : (p : Posted) (kind : Kind) (mtu k dest psn : ℕ) → IsWritable (of_kind p kind).request.shape → mtu ≤ 4096 → dest < 2 ^ 24 → psn < 2 ^ 24 → Fits (packet_of_piece (of_kind p kind) mtu k dest psn)
unfolding packet_of_piece read_packet atomic_packet layout_of opcode_of is_message
fits_kind p Send mtu k dest psn said small dest_fits psn_fits = fits_message (of_kind p Send) mtu k dest psn (is_first_piece k) (is_last_piece (of_kind p Send).request.shape mtu k) refl said small dest_fits psn_fits
fits_kind p Write mtu k dest psn said small dest_fits psn_fits = fits_message (of_kind p Write) mtu k dest psn (is_first_piece k) (is_last_piece (of_kind p Write).request.shape mtu k) refl said small dest_fits psn_fits
fits_kind p Read mtu k dest psn said small dest_fits psn_fits = fits (packet_of_piece (of_kind p Read) mtu k dest psn) _ refl refl dest_fits psn_fits tt (record { address = omega arith; rkey = said.rkey; length = omega (arith, said.length') }, tt, tt, tt, tt, tt) refl (omega arith)
fits_kind p CompareSwap mtu k dest psn said small dest_fits psn_fits = fits (packet_of_piece (of_kind p CompareSwap) mtu k dest psn) _ refl refl dest_fits psn_fits tt (tt, tt, tt, record { address = said.remote; rkey = said.rkey; swap_add = said.swap_add; compare = said.compare; nothing = tt }, tt, tt) refl (omega arith)
fits_kind p FetchAdd mtu k dest psn said small dest_fits psn_fits = fits (packet_of_piece (of_kind p FetchAdd) mtu k dest psn) _ refl refl dest_fits psn_fits tt (tt, tt, tt, record { address = said.remote; rkey = said.rkey; swap_add = said.swap_add; compare = said.compare; nothing = said.no_compare refl }, tt, tt) refl (omega arith)

-- the packet of a piece can be written
pub piece-fits : (p : Posted) (mtu k dest psn : ℕ) → IsWritable p.request.shape → mtu ≤ 4096 → dest < 2 ^ 24 → psn < 2 ^ 24 → Fits (packet_of_piece p mtu k dest psn)
piece-fits p mtu k dest psn said small dest_fits psn_fits = fits_kind p (kind_of p) mtu k dest psn said small dest_fits psn_fits

request_kind : (p : Posted) (kind : Kind) (mtu k dest psn : ℕ) → is_request (packet_of_piece (of_kind p kind) mtu k dest psn).opcode ≡ true
unfolding packet_of_piece message_packet read_packet atomic_packet opcode_of is_request is_message
request_kind p Send mtu k dest psn = (message_headers Send (is_first_piece k) (is_last_piece (of_kind p Send).request.shape mtu k) (is_some p.request.shape.imm) refl).request
request_kind p Write mtu k dest psn = (message_headers Write (is_first_piece k) (is_last_piece (of_kind p Write).request.shape mtu k) (is_some p.request.shape.imm) refl).request
request_kind p Read mtu k dest psn = refl
request_kind p CompareSwap mtu k dest psn = refl
request_kind p FetchAdd mtu k dest psn = refl

-- .. and is a request
pub piece-request : (p : Posted) (mtu k dest psn : ℕ) → is_request (packet_of_piece p mtu k dest psn).opcode ≡ true
piece-request p mtu k dest psn = request_kind p (kind_of p) mtu k dest psn
