-- Messages of moving on the wire: what they are, and that they read back.
use Rattle.std.proofs.Common.{arith, ◌≡◌, ◌<◌, ◌^◌, ℕ, List, true, false, Bool, refl, sym, ap, ◌∙◌}
use Rattle.std.specs.Prelude.{Option, Some, None, ◌==◌, if◌then◌else◌}
use Rattle.protocol.specs.declared.wire.Aeth.{Aeth}
use Rattle.protocol.specs.declared.wire.Headers.{Headers}
use Rattle.protocol.specs.declared.wire.Headers.TheVariants as headers
use Rattle.protocol.specs.declared.wire.ResumeBody.{ResumeBody}
use Rattle.protocol.specs.declared.wire.Syndrome.{Syndrome}
use Rattle.protocol.specs.declared.wire.Syndrome.TheVariants.{Ack, Rnr, Nak}
use Rattle.protocol.specs.Bytes.{big_bytes, number_at}
use Rattle.protocol.specs.Moves.{Control, Stopped, Resume, ResumeAck, control_of, stopped_of, resuming_of, nak_stopped, resume_packet}
use Rattle.protocol.specs.State.{HuskEntry}
use Rattle.protocol.specs.Wire.{Packet, Spells, Fits, FitsResume, packet_of, wire_of, layout_of, has_resume, has_reth, has_imm, has_aeth, has_atomic, has_old, imm_place, when, read_aeth, read_reth, read_atomic, read_resume, is_request, is_read_response, is_nak_stopped}
use Rattle.protocol.proofs.FittingPackets.{fits, resume-fits}
use Rattle.protocol.proofs.PacketGrammar.{read_spelled, spelled_read}
use Rattle.protocol.proofs.WrittenPackets.{written_spelled}
use Rattle.law_simulation.specs.Packets.{Class, class_of, nak_class, syndrome_class, aeth_class, resume_class, IsRequest, IsReadResponse, IsAtomicResponse, IsSequenceNak, IsRefusal, IsStopped, IsResume, IsResumeAck, IsNothing}

-- what is written is read as what it was written from
pub reads_back : (d : Packet) → Fits d → packet_of (wire_of d) ≡ Some d
reads_back d fits = spelled_read d (wire_of d) (written_spelled d fits)

-- ---- ranges

psn_bits : (d : Packet) → number_at 9 3 (wire_of d) < 2 ^ 24
unfolding wire_of big_bytes number_at
psn_bits d = omega arith

pub psn_small : (d : Packet) (bs : List ℕ) → bs ≡ wire_of d → packet_of bs ≡ Some d → d.psn < 2 ^ 24
psn_small d bs spelled read =
    let s : Spells d bs = read_spelled d bs read in
    by_headers (has_resume s.layout.headers) s.psn
  where
    by_headers : (b : Bool) → d.psn ≡ (if b then 0 else number_at 9 3 bs) → d.psn < 2 ^ 24
    by_headers true h = omega (arith, h)
    by_headers false h = omega (arith, h, ap (number_at 9 3) spelled, psn_bits d)

-- the body of a move has its own headers alone
abbrev headed : Packet → ResumeBody → Packet
headed d body = record d { reth = None; atomic = None; aeth = None; old = None; imm = None; resume = Some body }

count_bits : (d : Packet) (body : ResumeBody) → number_at 12 4 (wire_of (headed d body)) < 2 ^ 32
unfolding wire_of big_bytes number_at
count_bits d body = omega arith

ip_bits : (d : Packet) (body : ResumeBody) → number_at 16 4 (wire_of (headed d body)) < 2 ^ 32
unfolding wire_of big_bytes number_at
ip_bits d body = omega arith

port_bits : (d : Packet) (body : ResumeBody) → number_at 20 2 (wire_of (headed d body)) < 2 ^ 16
unfolding wire_of big_bytes number_at
port_bits d body = omega arith

-- the headers with the body of a move
resume_headers : (h : Headers) (body read : ResumeBody) → Some body ≡ when (has_resume h) read → (h ≡ headers.Resume) × (body ≡ read)
resume_headers headers.Resume body read e = (refl, cc)
resume_headers headers.Bare body read e = absurd (cc)
resume_headers headers.Imm body read e = absurd (cc)
resume_headers headers.Reth body read e = absurd (cc)
resume_headers headers.RethImm body read e = absurd (cc)
resume_headers headers.Aeth body read e = absurd (cc)
resume_headers headers.AethOld body read e = absurd (cc)
resume_headers headers.Atomic body read e = absurd (cc)

module _ (d : Packet) (bs : List ℕ) (body : ResumeBody) (spelled : bs ≡ wire_of d) (s : Spells d bs) (resume : d.resume ≡ Some body) where
  parts : (s.layout.headers ≡ headers.Resume) × (body ≡ read_resume bs)
  parts = resume_headers s.layout.headers body (read_resume bs) (sym resume ∙ s.resume)

  pub no_aeth : d.aeth ≡ None
  no_aeth = s.aeth ∙ ap (λ h. when (has_aeth h) (read_aeth bs)) parts.0

  is_headed : d ≡ headed d body
  is_headed = λ i. record d {
    reth = (s.reth ∙ ap (λ h. when (has_reth h) (read_reth bs)) parts.0) i;
    atomic = (s.atomic ∙ ap (λ h. when (has_atomic h) (read_atomic d.opcode bs)) parts.0) i;
    aeth = no_aeth i;
    old = (s.old ∙ ap (λ h. when (has_old h) (number_at 16 8 bs)) parts.0) i;
    imm = (s.imm ∙ ap (λ h. when (has_imm h) (number_at (imm_place h) 4 bs)) parts.0) i;
    resume = resume i;
  }

  bytes_are : bs ≡ wire_of (headed d body)
  bytes_are = spelled ∙ ap wire_of is_headed

  pub resume_small : FitsResume body
  resume_small = record {
    count = omega (arith, ap (λ z. z.count) parts.1, ap (number_at 12 4) bytes_are, count_bits d body);
    ip = omega (arith, ap (λ z. z.address.ip) parts.1, ap (number_at 16 4) bytes_are, ip_bits d body);
    port = omega (arith, ap (λ z. z.address.port) parts.1, ap (number_at 20 2) bytes_are, port_bits d body);
  }

-- ---- what is sent

pub stopped_fits : (h : HuskEntry) (psn : ℕ) → h.peer < 2 ^ 24 → psn < 2 ^ 24 → h.moves < 2 ^ 24 → Fits (nak_stopped h psn)
unfolding layout_of
stopped_fits h psn peer bits moves = fits (nak_stopped h psn) _ refl refl peer bits tt (tt, tt, record { syndrome = refl; msn = moves }, tt, tt, tt) refl (omega arith)

pub ack_fits : (dest : ℕ) (body : ResumeBody) → dest < 2 ^ 24 → FitsResume body → Fits (resume_packet 0x1F dest body)
unfolding layout_of
ack_fits dest body small h = resume-fits 0x1F dest body refl small h

pub stopped_class : (h : HuskEntry) (psn : ℕ) → class_of (nak_stopped h psn) ≡ IsStopped h.moves
unfolding class_of is_request aeth_class syndrome_class nak_class
stopped_class h psn = refl

pub ack_class : (dest : ℕ) (body : ResumeBody) → class_of (resume_packet 0x1F dest body) ≡ IsResumeAck body
unfolding class_of is_request resume_class
ack_class dest body = refl

-- ---- what arrives

-- the kind of a datagram by its tests
abbrev by_tests : Bool → Bool → Bool → Bool → Class → Class → Class
by_tests a b c e ack other = if a then IsRequest else if b then IsReadResponse else if c then IsAtomicResponse else if e then ack else other

nak_stops : (a b c e : Bool) (count n : ℕ) → (if a then IsSequenceNak else if b then IsRefusal false else if c then IsRefusal true else if e then IsStopped n else IsNothing) ≡ IsStopped count → (e ≡ true) × (n ≡ count)
nak_stops true b c e count n h = absurd (cc)
nak_stops false true c e count n h = absurd (cc)
nak_stops false false true e count n h = absurd (cc)
nak_stops false false false true count n h = (refl, cc)
nak_stops false false false false count n h = absurd (cc)

syndrome_stops : (s : Syndrome) (n count : ℕ) → syndrome_class s n ≡ IsStopped count → (is_nak_stopped (Some (record { syndrome = s; msn = n })) ≡ true) × (n ≡ count)
unfolding syndrome_class nak_class is_nak_stopped
syndrome_stops Ack n count h = absurd (cc)
syndrome_stops Rnr n count h = absurd (cc)
syndrome_stops (Nak code) n count h = nak_stops (code == 0) (code == 1) (code == 2) (code == 5) count n h

aeth_stops : (a : Option Aeth) (count : ℕ) → aeth_class a ≡ IsStopped count → (if is_nak_stopped a then stopped_of a else None) ≡ Some (Stopped count)
unfolding aeth_class
aeth_stops None count h = absurd (cc)
aeth_stops (Some x) count h =
    let r = syndrome_stops x.syndrome x.msn count h in
    ap (λ b. if b then Some (Stopped x.msn) else None) r.0 ∙ ap (λ n. Some (Stopped n)) r.1

resume_not_stopped : (opcode count : ℕ) (r : Option ResumeBody) → resume_class opcode r ≡ IsStopped count → ⊥
unfolding resume_class
resume_not_stopped opcode count None h = cc
resume_not_stopped opcode count (Some body) h = by_code (opcode == 0x1E) h
  where
    by_code : (b : Bool) → (if b then IsResume body else IsResumeAck body) ≡ IsStopped count → ⊥
    by_code true e = cc
    by_code false e = cc

by_nak : (b : Bool) (x y : Option Control) (c : Control) → (if b then x else None) ≡ Some c → (if b then x else y) ≡ Some c
by_nak true x y c h = h
by_nak false x y c h = absurd (cc)

stopped_by : (d : Packet) (count : ℕ) (a b c e : Bool) → by_tests a b c e (aeth_class d.aeth) (resume_class d.opcode d.resume) ≡ IsStopped count → control_of d ≡ Some (Stopped count)
unfolding control_of
stopped_by d count true b c e h = absurd (cc)
stopped_by d count false true c e h = absurd (cc)
stopped_by d count false false true e h = absurd (cc)
stopped_by d count false false false true h = by_nak (is_nak_stopped d.aeth) (stopped_of d.aeth) (resuming_of d.opcode d.resume) (Stopped count) (aeth_stops d.aeth count h)
stopped_by d count false false false false h = absurd (resume_not_stopped d.opcode count d.resume h)

pub control_stopped : (d : Packet) (count : ℕ) → class_of d ≡ IsStopped count → control_of d ≡ Some (Stopped count)
unfolding class_of
control_stopped d count h = stopped_by d count (is_request d.opcode) (is_read_response d.opcode) (d.opcode == 0x12) (d.opcode == 0x11) h

-- messages with the body of a move

nak_not_resume : (a b c e : Bool) (n : ℕ) (body : ResumeBody) → ((if a then IsSequenceNak else if b then IsRefusal false else if c then IsRefusal true else if e then IsStopped n else IsNothing) ≡ IsResume body → ⊥) × ((if a then IsSequenceNak else if b then IsRefusal false else if c then IsRefusal true else if e then IsStopped n else IsNothing) ≡ IsResumeAck body → ⊥)
nak_not_resume true b c e n body = (λ h. cc, λ h. cc)
nak_not_resume false true c e n body = (λ h. cc, λ h. cc)
nak_not_resume false false true e n body = (λ h. cc, λ h. cc)
nak_not_resume false false false true n body = (λ h. cc, λ h. cc)
nak_not_resume false false false false n body = (λ h. cc, λ h. cc)

syndrome_not_resume : (s : Syndrome) (n : ℕ) (body : ResumeBody) → (syndrome_class s n ≡ IsResume body → ⊥) × (syndrome_class s n ≡ IsResumeAck body → ⊥)
unfolding syndrome_class nak_class
syndrome_not_resume Ack n body = (λ h. cc, λ h. cc)
syndrome_not_resume Rnr n body = (λ h. cc, λ h. cc)
syndrome_not_resume (Nak code) n body = nak_not_resume (code == 0) (code == 1) (code == 2) (code == 5) n body

aeth_not_resume : (a : Option Aeth) (body : ResumeBody) → (aeth_class a ≡ IsResume body → ⊥) × (aeth_class a ≡ IsResumeAck body → ⊥)
unfolding aeth_class
aeth_not_resume None body = (λ h. cc, λ h. cc)
aeth_not_resume (Some x) body = syndrome_not_resume x.syndrome x.msn body

-- which message it is
abbrev resume_or_ack : Bool → ResumeBody → Class
resume_or_ack b body = if b then IsResume body else IsResumeAck body

resume_same : (b c : Bool) (x body : ResumeBody) → resume_or_ack b x ≡ resume_or_ack c body → (b ≡ c) × (x ≡ body)
resume_same true true x body h = (refl, cc)
resume_same true false x body h = absurd (cc)
resume_same false true x body h = absurd (cc)
resume_same false false x body h = (refl, cc)

resume_is : (k : Bool) (opcode : ℕ) (r : Option ResumeBody) (body : ResumeBody) → resume_class opcode r ≡ resume_or_ack k body → (r ≡ Some body) × ((opcode == 0x1E) ≡ k)
unfolding resume_class
resume_is true opcode None body h = absurd (cc)
resume_is false opcode None body h = absurd (cc)
resume_is k opcode (Some x) body h = let e = resume_same (opcode == 0x1E) k x body h in (ap Some e.1, e.0)

resume_by : (k : Bool) (d : Packet) (body : ResumeBody) (a b c e : Bool) → by_tests a b c e (aeth_class d.aeth) (resume_class d.opcode d.resume) ≡ resume_or_ack k body → (d.resume ≡ Some body) × ((d.opcode == 0x1E) ≡ k)
resume_by true d body true b c e h = absurd (cc)
resume_by false d body true b c e h = absurd (cc)
resume_by true d body false true c e h = absurd (cc)
resume_by false d body false true c e h = absurd (cc)
resume_by true d body false false true e h = absurd (cc)
resume_by false d body false false true e h = absurd (cc)
resume_by true d body false false false true h = absurd ((aeth_not_resume d.aeth body).0 h)
resume_by false d body false false false true h = absurd ((aeth_not_resume d.aeth body).1 h)
resume_by k d body false false false false h = resume_is k d.opcode d.resume body h

pub resume_parts : (k : Bool) (d : Packet) (body : ResumeBody) → class_of d ≡ resume_or_ack k body → (d.resume ≡ Some body) × ((d.opcode == 0x1E) ≡ k)
unfolding class_of
resume_parts k d body h = resume_by k d body (is_request d.opcode) (is_read_response d.opcode) (d.opcode == 0x12) (d.opcode == 0x11) h

pub control_resuming : (k : Bool) (d : Packet) (body : ResumeBody) → d.aeth ≡ None → d.resume ≡ Some body → (d.opcode == 0x1E) ≡ k → control_of d ≡ Some (if k then Resume body else ResumeAck body.count)
unfolding control_of is_nak_stopped
control_resuming k d body none resume code =
    ap (λ a. if is_nak_stopped a then stopped_of a else resuming_of d.opcode d.resume) none
    ∙ (ap (resuming_of d.opcode) resume ∙ ap (λ b. Some (if b then Resume body else ResumeAck body.count)) code)
