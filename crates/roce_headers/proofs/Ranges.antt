-- What is read can be written.
use Rattle.std.proofs.Common.{◌≡◌, ℕ, zero, suc, ◌+◌, ◌-◌, ◌%◌, ◌^◌, ◌<◌, List, [], ◌∷◌, take, drop, slice_index, Bool, true, false, not, None, Some, refl, arith, length-take, IsTrue, is_some}
use Rattle.std.specs.Prelude.{◌&&◌, ◌||◌, ◌==◌, if◌then◌else◌, IfSome, All, Result, Ok, Err, OnOk, IfOk}
use Rattle.std.specs.Bool.{OnTrue, OnFalse}
use Rattle.std.proofs.lemmas.List.{get_or-drop}
use Rattle.byteorder.specs.Numbers.{big_from-lt}
use borrow.Author.Tests.{eqb-true}
use Rattle.protocol.proofs.PacketGrammar.{both, read_spelled}
use Rattle.roce_headers.specs.Packets.{packet}
use Rattle.roce_headers.specs.declared.datagram.Datagram.{Datagram}
use Rattle.protocol.specs.declared.wire.Malformed.{Malformed}
use Rattle.protocol.specs.declared.wire.Syndrome.TheVariants.{Ack, Rnr, Nak}
use Rattle.protocol.specs.Bytes.{number_at, byte_at, bytes_at}
use Rattle.protocol.specs.Wire.{Packet, Spells, Fits, packet_of, offence_of, read_by, FitsReth, FitsAtomic, FitsAeth, FitsResume, fits_syndrome, is_nak_code, syndrome_type, read_syndrome, body_of, pad_of, layout_of, has_reth, has_imm, has_aeth, has_atomic, has_old, has_resume, imm_place, is_syndrome, when}

-- whether a header is there
is_when : {A : Type 0} (b : Bool) (x : A) → is_some (when b x) ≡ b
is_when true x = refl
is_when false x = refl

-- what holds of a header holds of it where it is there
if_when : {A : Type 0} (P : A → Type 0) (b : Bool) (x : A) → (IsTrue b → P x) → IfSome (when b x) P
if_when P true x p = p refl
if_when P false x p = tt

-- a number or 0
zero_or : (b : Bool) (n m : ℕ) → n < m → (if b then 0 else n) < m
zero_or true n m h = omega arith
zero_or false n m h = h

zero_where : (b : Bool) (n : ℕ) → OnTrue b ((if b then 0 else n) ≡ 0)
zero_where true n = refl
zero_where false n = tt

-- the syndrome by the tests of its type
syndrome_by : (opcode n : ℕ) (is_ack is_rnr is_nak : Bool) → IsTrue (is_ack || (opcode == 0x11 && (is_rnr || (is_nak && is_nak_code n)))) → IsTrue (fits_syndrome opcode (if is_ack then Ack else if is_rnr then Rnr else Nak n))
syndrome_by opcode n true is_rnr is_nak h = refl
syndrome_by opcode n false true is_nak h = (both (opcode == 0x11) _ h).0
syndrome_by opcode n false false is_nak h =
    let parts = both (opcode == 0x11) _ h in
    let code = both is_nak _ parts.1 in
    rw (parts.0, code.1) refl

-- the syndrome of an allowed byte is allowed
syndrome_read : (opcode b : ℕ) → IsTrue (is_syndrome opcode b) → IsTrue (fits_syndrome opcode (read_syndrome b))
unfolding is_syndrome
syndrome_read opcode b h = syndrome_by opcode (b % 32) (syndrome_type b == 0) (syndrome_type b == 1) (syndrome_type b == 3) h

-- a test that is needed
needed : (a b : Bool) → IsTrue (not a || b) → IsTrue a → IsTrue b
needed true b h t = h
needed false b h t = cc

-- no payload where none may be
unloaded_again : (payload : Bool) (body pad : ℕ) (bs : List ℕ) → IsTrue (payload || body == 0) → OnFalse payload (take (body - pad) bs ≡ [])
unloaded_again true body pad bs h = tt
unloaded_again false body pad bs h = let none : body ≡ 0 = eqb-true body 0 h in let no : body - pad ≡ 0 = omega arith in rw no refl

module _ (bs : List ℕ) (bytes : (k : ℕ) → slice_index bs k < 256) where
  -- a number of so many bytes
  number_small : (place n : ℕ) → number_at place n bs < 256 ^ n
  unfolding number_at
  number_small place n = big_from-lt 0 n (drop place bs) (λ k. rw get_or-drop (bytes (place + k)))

  pub read_fits : (d : Packet) → Spells d bs → Fits d
  unfolding bytes_at
  read_fits d s =
      let h = s.layout.headers in
      record {
        layout = s.layout;
        known = s.known;
        dest = rw s.dest (number_small 5 3);
        psn = rw s.psn (zero_or (has_resume h) _ _ (number_small 9 3));
        unnumbered = rw s.psn (zero_where (has_resume h) _);
        reth = rw s.reth (is_when (has_reth h) _);
        imm = rw s.imm (is_when (has_imm h) _);
        aeth = rw s.aeth (is_when (has_aeth h) _);
        atomic = rw s.atomic (is_when (has_atomic h) _);
        old = rw s.old (is_when (has_old h) _);
        resume = rw s.resume (is_when (has_resume h) _);
        reth_fits = rw s.reth (if_when FitsReth (has_reth h) _ (λ t. record { address = number_small 12 8; rkey = number_small 20 4; length = number_small 24 4 }));
        imm_fits = rw s.imm (if_when (λ n. n < 2 ^ 32) (has_imm h) _ (λ t. number_small (imm_place h) 4));
        aeth_fits = rw s.aeth (if_when (FitsAeth d.opcode) (has_aeth h) _ (λ t. record { syndrome = syndrome_read d.opcode (byte_at 12 bs) (needed (has_aeth h) _ s.syndrome t); msn = number_small 13 3 }));
        atomic_fits = rw s.atomic (if_when (FitsAtomic d.opcode) (has_atomic h) _ (λ t. record { address = number_small 12 8; rkey = number_small 20 4; swap_add = number_small 24 8; compare = zero_or (d.opcode == 0x14) _ _ (number_small 32 8); nothing = zero_where (d.opcode == 0x14) _ }));
        old_fits = rw s.old (if_when (λ n. n < 2 ^ 64) (has_old h) _ (λ t. number_small 16 8));
        resume_fits = rw s.resume (if_when FitsResume (has_resume h) _ (λ t. record { count = number_small 12 4; ip = number_small 16 4; port = number_small 20 2 }));
        allowed = rw s.payload (unloaded_again s.layout.payload (body_of h bs) (pad_of bs) _ s.allowed);
        payload = rw s.payload (omega (arith, length-take {A = ℕ}, s.fits));
      }

-- bytes are below 256, and so is what stands past their end
pub all_small : (bs : List ℕ) → All (λ b. b < 256) bs → (k : ℕ) → slice_index bs k < 256
all_small [] h k = omega arith
all_small (b ∷ bs) h zero = h 0 0 (omega arith)
all_small (b ∷ bs) h (suc k) = all_small bs (λ k d lt. h (suc k) d (omega arith)) k

-- a reader's answer can be written
pub answer_fits : (bs : List ℕ) → ((k : ℕ) → slice_index bs k < 256) → (r : Result Datagram Malformed) → OnOk r (offence_of bs ≡ None) → IfOk r (λ d. read_by (layout_of (byte_at 0 bs)) bs ≡ Some (packet d)) → IfOk r (λ d. Fits (packet d))
unfolding packet_of
answer_fits bs small (Ok d) whole read = let found : packet_of bs ≡ Some (packet d) = rw whole read in read_fits bs small (packet d) (read_spelled (packet d) bs found)
answer_fits bs small (Err e) whole read = tt
