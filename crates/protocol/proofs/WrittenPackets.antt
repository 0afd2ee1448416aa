-- What is written spells what it was written from.
use Rattle.std.proofs.Common.{◌≡◌, ℕ, ◌+◌, ◌-◌, ◌*◌, ◌/◌, ◌%◌, ◌^◌, ◌≤◌, ◌<◌, List, [], ◌++◌, take, drop, length, replicate, Bool, true, false, not, Option, None, Some, refl, ap, sym, subst, ◌∙◌, arith, drop-drop, length-append, append_assoc, IsTrue, is_some, nat_le}
use Rattle.std.specs.Prelude.{◌||◌, ◌==◌, if◌then◌else◌, IfSome}
use Rattle.std.proofs.lemmas.Bool.Decides.{nat_tests}
use Rattle.std.proofs.lemmas.List.{length-replicate, take_all}
use Rattle.std.specs.Bool.{OnTrue, OnFalse}
use Rattle.std.proofs.Math.Seq.{take-append_seam, drop-append_seam}
use Rattle.byteorder.specs.Numbers.{big_number-reads_back}
use Rattle.protocol.proofs.PacketGrammar.{both}
use Rattle.protocol.specs.declared.wire.Aeth.{Aeth}
use Rattle.protocol.specs.declared.wire.AtomicEth.{AtomicEth}
use Rattle.protocol.specs.declared.wire.Headers.{Headers}
use Rattle.protocol.specs.declared.wire.Headers.TheVariants as headers
use Rattle.protocol.specs.declared.wire.ResumeBody.{ResumeBody}
use Rattle.protocol.specs.declared.wire.Reth.{Reth}
use Rattle.protocol.specs.declared.wire.Syndrome.{Syndrome}
use Rattle.protocol.specs.declared.wire.Syndrome.TheVariants.{Ack, Rnr, Nak}
use Rattle.protocol.specs.Bytes.{big_bytes, number_at, byte_at, bytes_at}
use Rattle.protocol.specs.Wire.{Packet, Spells, Fits, FitsReth, FitsAtomic, FitsAeth, FitsResume, fits_syndrome, is_nak_code, read_syndrome, syndrome_byte, wire_of, padding, base_bytes, reth_bytes, atomic_bytes, aeth_bytes, extension_bytes, headers_len, body_of, pad_of, has_reth, has_imm, has_aeth, has_atomic, has_old, has_resume, imm_place, is_syndrome, when, read_reth, read_aeth, read_atomic, read_resume}

-- a length and its padding make fours
fours : (n : ℕ) → (n + padding n) % 4 ≡ 0
unfolding padding
fours n = omega arith

-- the pad count is read back, and leaves the version 0
pads : (n : ℕ) → 16 * padding n / 16 % 4 ≡ padding n
unfolding padding
pads n = omega arith

sixteens : (n : ℕ) → 16 * n % 16 ≡ 0
sixteens n = omega arith

-- a payload of at most 4,096 bytes is so with its padding
padded_fits : (n : ℕ) → n ≤ 4096 → n + padding n ≤ 4096
unfolding padding
padded_fits n h = omega arith

ack_again : (b : Bool) → b ≡ nat_le 128 (if b then 128 else 0)
ack_again true = refl
ack_again false = refl

-- a packet's bytes, with these for its extension headers
abbrev written_with : Packet → List ℕ → List ℕ
written_with d ext = base_bytes d ++ ext ++ d.payload ++ replicate (padding (length d.payload) + 4) 0

-- what stands behind the extension headers
module _ (d : Packet) (ext : List ℕ) (n : ℕ) (fits : length ext ≡ n) where
  length_written : length (written_with d ext) ≡ 16 + n + (length d.payload + padding (length d.payload))
  unfolding big_bytes
  length_written = simp (length-append, length-replicate) (omega (arith, fits))

  payload_written : d.payload ≡ take (length d.payload) (drop (12 + n) (written_with d ext))
  unfolding big_bytes
  payload_written =
      let seam : d.payload ≡ take (length d.payload) (drop n (ext ++ d.payload ++ replicate (padding (length d.payload) + 4) 0)) = rw (← fits, append_assoc, drop-append_seam, take-append_seam) refl in
      seam ∙ ap (λ xs. take (length d.payload) xs) (drop-drop n 12 (written_with d ext))

-- ---- the extension headers

-- these bytes are read as the headers of the packet
record Reads (h : Headers) (d : Packet) : Type 0 where
  long : length (extension_bytes d) ≡ headers_len h
  reth : d.reth ≡ when (has_reth h) (read_reth (wire_of d))
  imm : d.imm ≡ when (has_imm h) (number_at (imm_place h) 4 (wire_of d))
  aeth : d.aeth ≡ when (has_aeth h) (read_aeth (wire_of d))
  syndrome : IsTrue (not (has_aeth h) || is_syndrome d.opcode (byte_at 12 (wire_of d)))
  atomic : d.atomic ≡ when (has_atomic h) (read_atomic d.opcode (wire_of d))
  old : d.old ≡ when (has_old h) (number_at 16 8 (wire_of d))
  resume : d.resume ≡ when (has_resume h) (read_resume (wire_of d))

-- the packet with these extension headers
abbrev headed : Packet → Option Reth → Option AtomicEth → Option Aeth → Option ℕ → Option ℕ → Option ResumeBody → Packet
headed d reth atomic aeth old imm resume = record d { reth = reth; atomic = atomic; aeth = aeth; old = old; imm = imm; resume = resume }

bare_reads : (d : Packet) → Reads headers.Bare (headed d None None None None None None)
unfolding wire_of big_bytes number_at
bare_reads d = record { long = refl; reth = refl; imm = refl; aeth = refl; syndrome = refl; atomic = refl; old = refl; resume = refl }

imm_reads : (d : Packet) (n : ℕ) → n < 2 ^ 32 → Reads headers.Imm (headed d None None None None (Some n) None)
unfolding wire_of big_bytes number_at
imm_reads d n f = record { long = refl; reth = refl; imm = ap Some (sym (big_number-reads_back 4 n [] f)); aeth = refl; syndrome = refl; atomic = refl; old = refl; resume = refl }

reth_again : (r : Reth) (d : Packet) (rest : List ℕ) → FitsReth r → r ≡ read_reth (base_bytes d ++ reth_bytes r ++ rest)
unfolding big_bytes number_at
reth_again r d rest f = λ i. record {
  address = sym (big_number-reads_back 8 r.address [] f.address) i;
  rkey = sym (big_number-reads_back 4 r.rkey [] f.rkey) i;
  length = sym (big_number-reads_back 4 r.length [] f.length) i;
}

reth_reads : (d : Packet) (r : Reth) → FitsReth r → Reads headers.Reth (headed d (Some r) None None None None None)
unfolding wire_of big_bytes number_at
reth_reads d r f = record { long = refl; reth = ap Some (reth_again r d [] f); imm = refl; aeth = refl; syndrome = refl; atomic = refl; old = refl; resume = refl }

reth_imm_reads : (d : Packet) (r : Reth) (n : ℕ) → FitsReth r → n < 2 ^ 32 → Reads headers.RethImm (headed d (Some r) None None None (Some n) None)
unfolding wire_of big_bytes number_at
reth_imm_reads d r n f g = record { long = refl; reth = ap Some (reth_again r d [] f); imm = ap Some (sym (big_number-reads_back 4 n [] g)); aeth = refl; syndrome = refl; atomic = refl; old = refl; resume = refl }

-- a NAK code is below 6
nak_small : (n : ℕ) → IsTrue (is_nak_code n) → n < 6
nak_small n h = grind (arith, nat_tests)

syndrome_again : (opcode : ℕ) (s : Syndrome) → IsTrue (fits_syndrome opcode s) → (s ≡ read_syndrome (syndrome_byte s)) × IsTrue (is_syndrome opcode (syndrome_byte s))
unfolding is_syndrome
syndrome_again opcode Ack h = (refl, refl)
syndrome_again opcode Rnr h = (refl, rw h refl)
syndrome_again opcode (Nak code) h =
    let parts = both (opcode == 0x11) _ h in
    let small : code < 6 = nak_small code parts.1 in
    let type : (0x60 + code) / 32 % 4 ≡ 3 = omega arith in
    let low : (0x60 + code) % 32 ≡ code = omega arith in
    (rw (type, low) refl, rw (type, low, parts.0, parts.1) refl)

aeth_again : (a : Aeth) (d : Packet) (rest : List ℕ) → FitsAeth d.opcode a → a ≡ read_aeth (base_bytes d ++ aeth_bytes a ++ rest)
unfolding big_bytes number_at
aeth_again a d rest f = λ i. record {
  syndrome = (syndrome_again d.opcode a.syndrome f.syndrome).0 i;
  msn = sym (big_number-reads_back 3 a.msn [] f.msn) i;
}

aeth_reads : (d : Packet) (a : Aeth) → FitsAeth d.opcode a → Reads headers.Aeth (headed d None None (Some a) None None None)
unfolding wire_of big_bytes number_at
aeth_reads d a f = record { long = refl; reth = refl; imm = refl; aeth = ap Some (aeth_again a d [] f); syndrome = (syndrome_again d.opcode a.syndrome f.syndrome).1; atomic = refl; old = refl; resume = refl }

aeth_old_reads : (d : Packet) (a : Aeth) (n : ℕ) → FitsAeth d.opcode a → n < 2 ^ 64 → Reads headers.AethOld (headed d None None (Some a) (Some n) None None)
unfolding wire_of big_bytes number_at
aeth_old_reads d a n f g = record { long = refl; reth = refl; imm = refl; aeth = ap Some (aeth_again a d [] f); syndrome = (syndrome_again d.opcode a.syndrome f.syndrome).1; atomic = refl; old = ap Some (sym (big_number-reads_back 8 n [] g)); resume = refl }

-- what is compared, or nothing
compare_again : (fetch_add : Bool) (n : ℕ) → OnTrue fetch_add (n ≡ 0) → n ≡ (if fetch_add then 0 else n)
compare_again true n h = h
compare_again false n h = refl

atomic_again : (a : AtomicEth) (d : Packet) (rest : List ℕ) → FitsAtomic d.opcode a → a ≡ read_atomic d.opcode (base_bytes d ++ atomic_bytes a ++ rest)
unfolding big_bytes number_at
atomic_again a d rest f = λ i. record {
  address = sym (big_number-reads_back 8 a.address [] f.address) i;
  rkey = sym (big_number-reads_back 4 a.rkey [] f.rkey) i;
  swap_add = sym (big_number-reads_back 8 a.swap_add [] f.swap_add) i;
  compare = (compare_again (d.opcode == 0x14) a.compare f.nothing ∙ ap (λ n. if d.opcode == 0x14 then 0 else n) (sym (big_number-reads_back 8 a.compare [] f.compare))) i;
}

atomic_reads : (d : Packet) (a : AtomicEth) → FitsAtomic d.opcode a → Reads headers.Atomic (headed d None (Some a) None None None None)
unfolding wire_of big_bytes number_at
atomic_reads d a f = record { long = refl; reth = refl; imm = refl; aeth = refl; syndrome = refl; atomic = ap Some (atomic_again a d [] f); old = refl; resume = refl }

resume_reads : (d : Packet) (r : ResumeBody) → FitsResume r → Reads headers.Resume (headed d None None None None None (Some r))
unfolding wire_of big_bytes number_at
resume_reads d r f = record {
  long = refl;
  reth = refl;
  imm = refl;
  aeth = refl;
  syndrome = refl;
  atomic = refl;
  old = refl;
  resume = ap Some (λ i. record {
    count = sym (big_number-reads_back 4 r.count [] f.count) i;
    address = record { ip = sym (big_number-reads_back 4 r.address.ip [] f.ip) i; port = sym (big_number-reads_back 2 r.address.port [] f.port) i };
  });
}

-- ---- all together

-- the headers that a packet has, and that each is in its range
record Has (h : Headers) (d : Packet) : Type 0 where
  reth : is_some d.reth ≡ has_reth h
  imm : is_some d.imm ≡ has_imm h
  aeth : is_some d.aeth ≡ has_aeth h
  atomic : is_some d.atomic ≡ has_atomic h
  old : is_some d.old ≡ has_old h
  resume : is_some d.resume ≡ has_resume h
  reth_fits : IfSome d.reth FitsReth
  imm_fits : IfSome d.imm (λ n. n < 2 ^ 32)
  aeth_fits : IfSome d.aeth (FitsAeth d.opcode)
  atomic_fits : IfSome d.atomic (FitsAtomic d.opcode)
  old_fits : IfSome d.old (λ n. n < 2 ^ 64)
  resume_fits : IfSome d.resume FitsResume

-- what is there
there : {A : Type 0} (P : A → Type 0) (o : Option A) → is_some o ≡ true → IfSome o P → (x : A) × (o ≡ Some x) × P x
there P None h p = cc
there P (Some x) h p = (x, refl, p)

-- what is not there
absent : {A : Type 0} (o : Option A) → is_some o ≡ false → o ≡ None
absent None h = refl
absent (Some x) h = cc

-- a packet is known by its headers
module _ (d : Packet) (reth : Option Reth) (atomic : Option AtomicEth) (aeth : Option Aeth) (old imm : Option ℕ) (resume : Option ResumeBody) where
  headed_again : d.reth ≡ reth → d.atomic ≡ atomic → d.aeth ≡ aeth → d.old ≡ old → d.imm ≡ imm → d.resume ≡ resume → (h : Headers) → Reads h (headed d reth atomic aeth old imm resume) → Reads h d
  headed_again a b c e f g h r =
      let same : headed d reth atomic aeth old imm resume ≡ d = λ i. record {
        opcode = d.opcode;
        dest = d.dest;
        ack_request = d.ack_request;
        psn = d.psn;
        reth = sym a i;
        imm = sym f i;
        aeth = sym c i;
        atomic = sym b i;
        old = sym e i;
        resume = sym g i;
        payload = d.payload;
      } in
      subst (λ (x : Packet). Reads h x) same r

-- the extension headers are read back
headers_read : (h : Headers) (d : Packet) → Has h d → Reads h d
headers_read headers.Bare d k = headed_again d _ _ _ _ _ _ (absent d.reth k.reth) (absent d.atomic k.atomic) (absent d.aeth k.aeth) (absent d.old k.old) (absent d.imm k.imm) (absent d.resume k.resume) headers.Bare (bare_reads d)
headers_read headers.Imm d k =
    let n = there (λ n. n < 2 ^ 32) d.imm k.imm k.imm_fits in
    headed_again d _ _ _ _ _ _ (absent d.reth k.reth) (absent d.atomic k.atomic) (absent d.aeth k.aeth) (absent d.old k.old) n.1 (absent d.resume k.resume) headers.Imm (imm_reads d n.0 n.2)
headers_read headers.Reth d k =
    let r = there FitsReth d.reth k.reth k.reth_fits in
    headed_again d _ _ _ _ _ _ r.1 (absent d.atomic k.atomic) (absent d.aeth k.aeth) (absent d.old k.old) (absent d.imm k.imm) (absent d.resume k.resume) headers.Reth (reth_reads d r.0 r.2)
headers_read headers.RethImm d k =
    let r = there FitsReth d.reth k.reth k.reth_fits in
    let n = there (λ n. n < 2 ^ 32) d.imm k.imm k.imm_fits in
    headed_again d _ _ _ _ _ _ r.1 (absent d.atomic k.atomic) (absent d.aeth k.aeth) (absent d.old k.old) n.1 (absent d.resume k.resume) headers.RethImm (reth_imm_reads d r.0 n.0 r.2 n.2)
headers_read headers.Aeth d k =
    let a = there (FitsAeth d.opcode) d.aeth k.aeth k.aeth_fits in
    headed_again d _ _ _ _ _ _ (absent d.reth k.reth) (absent d.atomic k.atomic) a.1 (absent d.old k.old) (absent d.imm k.imm) (absent d.resume k.resume) headers.Aeth (aeth_reads d a.0 a.2)
headers_read headers.AethOld d k =
    let a = there (FitsAeth d.opcode) d.aeth k.aeth k.aeth_fits in
    let n = there (λ n. n < 2 ^ 64) d.old k.old k.old_fits in
    headed_again d _ _ _ _ _ _ (absent d.reth k.reth) (absent d.atomic k.atomic) a.1 n.1 (absent d.imm k.imm) (absent d.resume k.resume) headers.AethOld (aeth_old_reads d a.0 n.0 a.2 n.2)
headers_read headers.Atomic d k =
    let a = there (FitsAtomic d.opcode) d.atomic k.atomic k.atomic_fits in
    headed_again d _ _ _ _ _ _ (absent d.reth k.reth) a.1 (absent d.aeth k.aeth) (absent d.old k.old) (absent d.imm k.imm) (absent d.resume k.resume) headers.Atomic (atomic_reads d a.0 a.2)
headers_read headers.Resume d k =
    let r = there FitsResume d.resume k.resume k.resume_fits in
    headed_again d _ _ _ _ _ _ (absent d.reth k.reth) (absent d.atomic k.atomic) (absent d.aeth k.aeth) (absent d.old k.old) (absent d.imm k.imm) r.1 headers.Resume (resume_reads d r.0 r.2)

-- the number of a move is 0, and another is read back
psn_again : (unnumbered : Bool) (n m : ℕ) → OnTrue unnumbered (n ≡ 0) → n ≡ m → n ≡ (if unnumbered then 0 else m)
psn_again true n m zero_it same = zero_it
psn_again false n m zero_it same = same

-- a payload where one may be
may_load : (payload : Bool) (xs : List ℕ) (n : ℕ) → OnFalse payload (xs ≡ []) → n ≡ length xs + padding (length xs) → IsTrue (payload || n == 0)
unfolding padding
may_load true xs n h e = refl
may_load false xs n h e = let none : n ≡ 0 = e ∙ ap (λ ys. length ys + padding (length ys)) h in rw none refl

-- what is written spells what it was written from
pub written_spelled : (d : Packet) → Fits d → Spells d (wire_of d)
unfolding wire_of big_bytes number_at bytes_at
written_spelled d f =
    let h = f.layout.headers in
    let k : Has h d = record { reth = f.reth; imm = f.imm; aeth = f.aeth; atomic = f.atomic; old = f.old; resume = f.resume; reth_fits = f.reth_fits; imm_fits = f.imm_fits; aeth_fits = f.aeth_fits; atomic_fits = f.atomic_fits; old_fits = f.old_fits; resume_fits = f.resume_fits } in
    let r : Reads h d = headers_read h d k in
    let len : length (wire_of d) ≡ 16 + headers_len h + (length d.payload + padding (length d.payload)) = length_written d (extension_bytes d) (headers_len h) r.long in
    let body : body_of h (wire_of d) ≡ length d.payload + padding (length d.payload) = omega arith in
    let pad : pad_of (wire_of d) ≡ padding (length d.payload) = pads (length d.payload) in
    let left : body_of h (wire_of d) - pad_of (wire_of d) ≡ length d.payload = rw (body, pad) (omega arith) in
    record {
      layout = f.layout;
      known = f.known;
      whole = omega arith;
      opcode = refl;
      version = sixteens (padding (length d.payload));
      dest = sym (big_number-reads_back 3 d.dest [] f.dest);
      ack_request = ack_again d.ack_request;
      psn = psn_again (has_resume h) d.psn _ f.unnumbered (sym (big_number-reads_back 3 d.psn [] f.psn));
      reth = r.reth;
      imm = r.imm;
      aeth = r.aeth;
      syndrome = r.syndrome;
      atomic = r.atomic;
      old = r.old;
      resume = r.resume;
      allowed = may_load f.layout.payload d.payload _ f.allowed body;
      words = rw body (fours (length d.payload));
      fits = rw body (padded_fits (length d.payload) f.payload);
      padded = rw (body, pad) (omega arith);
      payload = rw left (payload_written d (extension_bytes d) (headers_len h) r.long);
    }

-- how many bytes are written
pub written_len : (d : Packet) → length (wire_of d) ≡ 16 + length (extension_bytes d) + (length d.payload + padding (length d.payload))
unfolding wire_of
written_len d = length_written d (extension_bytes d) (length (extension_bytes d)) refl

-- what is written, part by part
pub written_parts : (d : Packet) → base_bytes d ++ (extension_bytes d ++ (d.payload ++ replicate (padding (length d.payload) + 4) 0)) ≡ wire_of d
unfolding wire_of
written_parts d = sym (append_assoc (base_bytes d ++ extension_bytes d) d.payload _ ∙ append_assoc (base_bytes d) (extension_bytes d) _)

-- how long all headers of a datagram are
pub headers_length : (d : Packet) → length (base_bytes d ++ extension_bytes d) ≡ 12 + length (extension_bytes d)
unfolding big_bytes
headers_length d = simp length-append (omega arith)

-- the headers and the payload, and then zeros
pub written_on : (d : Packet) (bytes : List ℕ) (n : ℕ) → bytes ≡ (base_bytes d ++ extension_bytes d) ++ d.payload → n ≡ length (wire_of d) → take n bytes ++ replicate (n - length bytes) 0 ≡ wire_of d
unfolding wire_of
written_on d bytes n e whole =
    let size : length bytes ≡ 12 + length (extension_bytes d) + length d.payload = omega (arith, ap length e, length-append (base_bytes d ++ extension_bytes d) d.payload, headers_length d) in
    let len : n ≡ 16 + length (extension_bytes d) + (length d.payload + padding (length d.payload)) = whole ∙ written_len d in
    let left : n - length bytes ≡ padding (length d.payload) + 4 = omega arith in
    ap (λ xs. xs ++ replicate (n - length bytes) 0) (take_all n bytes (omega arith) ∙ e) ∙ ap (λ k. ((base_bytes d ++ extension_bytes d) ++ d.payload) ++ replicate k 0) left
