-- The packet of a number: which piece of which request it is, and what of it does not depend on its kind.
use Rattle.std.proofs.Common.{arith, ◌≡◌, ◌<◌, ◌+◌, ◌-◌, ℕ, zero, suc, List, [], ◌∷◌, length, get_or, true, false, Bool, refl, sym, ap, ◌∙◌, subst}
use Rattle.std.specs.Prelude.{Option, Some, None, nat_lt, if◌then◌else◌}
use Rattle.std.proofs.lemmas.Bool.Decides.{nat_tests, leb_tells}
use Rattle.rdma_types.specs.declared.requests.Terms.{Terms}
use Rattle.rdma_types.specs.Objects.{Posted, no_posted}
use Rattle.rdma_types.specs.Kinds.{is_atomic, is_read}
use Rattle.rdma_types.specs.Spans.{Piece, piece_at, piece_of, request_of, first_number, span_of}
use Rattle.protocol.specs.Numbers.{wire_number}
use Rattle.protocol.specs.Segments.{packet_at, packet_of_found, packet_of_piece, message_packet, read_packet, atomic_packet, is_first_piece, is_last_piece}
use Rattle.protocol.specs.Wire.{Packet, is_nak_stopped}
use Rattle.protocol.specs.Moves.{control_of}

-- a piece that is found is that of the request that the number belongs to
pub record IsPiece (posted : List Posted) (mtu n : ℕ) (x : Piece) : Type 0 where
  pub request : x.posted ≡ get_or posted (request_of posted mtu n) no_posted
  pub piece : x.k ≡ piece_of posted mtu n
  pub within : x.k < span_of x.posted mtu
  pub inside : request_of posted mtu n < length posted

pub piece_is : (posted : List Posted) (mtu n : ℕ) (x : Piece) → piece_at posted mtu n ≡ Some x → IsPiece posted mtu n x
unfolding piece_at request_of piece_of
piece_is [] mtu n x h = absurd (cc)
piece_is (p ∷ posted) mtu n x h = by_test (nat_lt n (span_of p mtu)) refl h (piece_is posted mtu (n - span_of p mtu) x)
  where
    by_test : (b : Bool) → nat_lt n (span_of p mtu) ≡ b → (if b then Some (record { posted = p; k = n }) else piece_at posted mtu (n - span_of p mtu)) ≡ Some x → (piece_at posted mtu (n - span_of p mtu) ≡ Some x → IsPiece posted mtu (n - span_of p mtu) x) → IsPiece (p ∷ posted) mtu n x
    by_test true t e later =
        let is : record { posted = p; k = n } ≡ x = cc in
        subst (IsPiece (p ∷ posted) mtu n) is (record { request = rw t refl; piece = rw t refl; within = grind (arith, nat_tests, leb_tells (suc n) (span_of p mtu), t); inside = rw t (omega arith) })
    by_test false t e later =
        let l = later e in
        record { request = rw t l.request; piece = rw t l.piece; within = l.within; inside = rw t (omega (arith, l.inside)) }

-- the packet that is found is that of such a piece
pub record IsPacket (posted : List Posted) (terms : Terms) (dest n : ℕ) (d : Packet) : Type 0 where
  pub piece : Piece
  pub is : IsPiece posted terms.mtu n piece
  pub packet : d ≡ packet_of_piece piece.posted terms.mtu piece.k dest (wire_number terms.own_start n)

packet_found : (posted : List Posted) (terms : Terms) (dest n : ℕ) (d : Packet) (r : Option Piece) → piece_at posted terms.mtu n ≡ r → packet_of_found r terms.mtu dest (wire_number terms.own_start n) ≡ Some d → IsPacket posted terms dest n d
packet_found posted terms dest n d None h e = absurd (cc)
packet_found posted terms dest n d (Some x) h e = record { piece = x; is = piece_is posted terms.mtu n x h; packet = cc }

pub packet_is : (posted : List Posted) (terms : Terms) (dest n : ℕ) (d : Packet) → packet_at posted 0 terms dest n ≡ Some d → IsPacket posted terms dest n d
unfolding packet_at
packet_is posted terms dest n d h =
    let same : n - 0 ≡ n = omega arith in
    packet_found posted terms dest n d (piece_at posted terms.mtu n) refl (ap (λ k. packet_of_found (piece_at posted terms.mtu k) terms.mtu dest (wire_number terms.own_start n)) (sym same) ∙ h)

-- ---- what does not depend on the kind

-- of a READ request, an atomic or a message
of_kinds : {A : Type 0} (f : Packet → A) (z : A) (p : Posted) (mtu k dest psn : ℕ) → f (read_packet p.request.shape mtu k dest psn) ≡ z → f (atomic_packet p.request.shape dest psn) ≡ z → f (message_packet p mtu k dest psn (is_first_piece k) (is_last_piece p.request.shape mtu k)) ≡ z → f (packet_of_piece p mtu k dest psn) ≡ z
unfolding packet_of_piece
of_kinds f z p mtu k dest psn a b c = by_tests (is_read p.request.shape.kind) (is_atomic p.request.shape.kind)
  where
    by_tests : (r t : Bool) → f (if r then read_packet p.request.shape mtu k dest psn else if t then atomic_packet p.request.shape dest psn else message_packet p mtu k dest psn (is_first_piece k) (is_last_piece p.request.shape mtu k)) ≡ z
    by_tests true t = a
    by_tests false true = b
    by_tests false false = c

pub piece_psn : (p : Posted) (mtu k dest psn : ℕ) → (packet_of_piece p mtu k dest psn).psn ≡ psn
unfolding read_packet atomic_packet message_packet
piece_psn p mtu k dest psn = of_kinds (λ d. d.psn) psn p mtu k dest psn refl refl refl

no_aeth : (p : Posted) (mtu k dest psn : ℕ) → (packet_of_piece p mtu k dest psn).aeth ≡ None
unfolding read_packet atomic_packet message_packet
no_aeth p mtu k dest psn = of_kinds (λ d. d.aeth) None p mtu k dest psn refl refl refl

no_resume : (p : Posted) (mtu k dest psn : ℕ) → (packet_of_piece p mtu k dest psn).resume ≡ None
unfolding read_packet atomic_packet message_packet
no_resume p mtu k dest psn = of_kinds (λ d. d.resume) None p mtu k dest psn refl refl refl

-- it is no message of moving
pub no_control : (p : Posted) (mtu k dest psn : ℕ) → control_of (packet_of_piece p mtu k dest psn) ≡ None
unfolding control_of is_nak_stopped
no_control p mtu k dest psn = rw (no_aeth p mtu k dest psn, no_resume p mtu k dest psn) refl

-- ---- its number

pub first_suc : (posted : List Posted) (mtu i : ℕ) → i < length posted → first_number posted mtu (suc i) ≡ first_number posted mtu i + span_of (get_or posted i no_posted) mtu
unfolding first_number
first_suc [] mtu i h = absurd (omega (arith, h))
first_suc (p ∷ []) mtu zero h = omega arith
first_suc (p ∷ (r ∷ posted)) mtu zero h = omega arith
first_suc (p ∷ posted) mtu (suc i) h = grind (arith, first_suc posted mtu i (omega (arith, h)))
