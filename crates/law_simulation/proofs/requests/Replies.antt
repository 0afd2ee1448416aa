-- The acknowledges that a responder sends are read back, and say what is true.
use Rattle.std.proofs.Common.{arith, ◌≡◌, ◌<◌, ◌≤◌, ◌^◌, ◌%◌, ◌/◌, ◌+◌, ℕ, [], ◌∷◌, ◌++◌, true, false, refl, sym, ap, ◌∙◌, subst, IsTrue}
use Rattle.std.specs.Prelude.{Some, replicate, length}
use Rattle.protocol.specs.declared.wire.Syndrome.{Syndrome}
use Rattle.protocol.specs.declared.wire.Syndrome.TheVariants.{Ack, Rnr, Nak}
use Rattle.protocol.specs.Bytes.{big_bytes}
use Rattle.protocol.specs.Numbers.{wire_number}
use Rattle.protocol.specs.State.{Link}
use Rattle.protocol.specs.Wire as wire
use Rattle.protocol.specs.Wire.{Packet, Fits, plain, packet_of, wire_of, layout_of, fits_syndrome, base_bytes, is_request}
use Rattle.protocol.specs.Responder.{acknowledge}
use Rattle.protocol.proofs.FittingPackets.{fits}
use Rattle.protocol.proofs.PacketGrammar.{spelled_read}
use Rattle.protocol.proofs.WrittenPackets.{written_spelled}
use Rattle.packetless_machine.specs.Machine.{End}
use Rattle.packetless_machine.specs.Numbers.{due}
use Rattle.law_simulation.specs.Packets.{Class, class_of, aeth_class, syndrome_class, nak_class, IsAck, IsSequenceNak, IsRefusal, IsReceiverNotReady}
use Rattle.law_simulation.specs.Views.{Side}
use Rattle.law_simulation.specs.Facts.{NumberedFact, IsDry, IsRefused}
use Rattle.law_simulation.proofs.delivery.Lifted.{IsAnswer}

-- three bytes of a number are those of its lowest 24 bits
low_bytes : (n : ℕ) → big_bytes 3 n ≡ big_bytes 3 (n % 16777216)
unfolding big_bytes
low_bytes n =
    let a : n / 65536 % 256 ≡ n % 16777216 / 65536 % 256 = omega arith in
    let b : n / 256 % 256 ≡ n % 16777216 / 256 % 256 = omega arith in
    let c : n % 256 ≡ n % 16777216 % 256 = omega arith in
    λ i. a i ∷ b i ∷ c i ∷ []

-- a packet with this acknowledge header
abbrev pub with_aeth : Packet → Syndrome → ℕ → Packet
with_aeth d s msn = record d { aeth = Some (record { syndrome = s; msn = msn }) }

pub wire_same : (d : Packet) (s : Syndrome) (msn : ℕ) → wire_of (with_aeth d s msn) ≡ wire_of (with_aeth d s (msn % 16777216))
unfolding wire_of
wire_same d s msn =
    ap (λ bs. base_bytes d ++ (wire.optional wire.reth_bytes d.reth ++ wire.optional wire.atomic_bytes d.atomic ++ (wire.syndrome_byte s ∷ bs) ++ wire.optional (big_bytes 8) d.old ++ wire.optional (big_bytes 4) d.imm ++ wire.optional wire.resume_bytes d.resume) ++ d.payload ++ replicate (wire.padding (length d.payload) + 4) 0) (low_bytes msn)

-- what is sent is read back, but for the high bits of the MSN
pub read_back : (d : Packet) (s : Syndrome) (msn : ℕ) → Fits (with_aeth d s (msn % 16777216)) → packet_of (wire_of (with_aeth d s msn)) ≡ Some (with_aeth d s (msn % 16777216))
read_back d s msn fits = ap packet_of (wire_same d s msn) ∙ spelled_read _ _ (written_spelled _ fits)

pub small : (n : ℕ) → n % 16777216 < 2 ^ 24
small n = omega arith

pub wire_small : (start n : ℕ) → wire_number start n < 2 ^ 24
unfolding wire_number
wire_small start n = omega arith

-- an acknowledge, or a NAK
ack_fits : (dest psn msn : ℕ) (s : Syndrome) → dest < 2 ^ 24 → psn < 2 ^ 24 → msn < 2 ^ 24 → IsTrue (fits_syndrome 0x11 s) → Fits (with_aeth (plain 0x11 dest psn) s msn)
unfolding layout_of
ack_fits dest psn msn s a b c t = fits (with_aeth (plain 0x11 dest psn) s msn) _ refl refl a b tt (tt, tt, record { syndrome = t; msn = c }, tt, tt, tt) refl (omega arith)

-- where the link l is that of an end whose peer is p, which the machine has as e
pub record IsTowards (l : Link) (p : Side) (e : End) : Type 0 where
  pub connected : p.connected ≡ true
  pub number : e.number ≡ l.peer
  pub said : l.peer < 2 ^ 24
  pub start : l.terms.peer_start ≡ p.link.terms.own_start

ack_class : (dest psn msn : ℕ) (s : Syndrome) → class_of (with_aeth (plain 0x11 dest psn) s msn) ≡ syndrome_class s msn
unfolding class_of is_request aeth_class
ack_class dest psn msn s = refl

-- an acknowledge or a NAK is an answer whose fact is that of its class
pub acknowledge_answer : (l : Link) (p x : Side) (e g : End) (n : ℕ) (s : Syndrome) (c : Class) → IsTowards l p e → IsTrue (fits_syndrome 0x11 s) → syndrome_class s (l.receiver.msn % 16777216) ≡ c →
    ((d : Packet) → d.psn ≡ wire_number p.link.terms.own_start n → NumberedFact p x e g n d c) → IsAnswer p x e g (acknowledge l n s)
unfolding acknowledge
acknowledge_answer l p x e g n s c t fits class fact =
    let d : Packet = with_aeth (plain 0x11 l.peer (wire_number l.terms.peer_start n)) s (l.receiver.msn % 16777216) in
    record {
      packet = d;
      read = read_back (plain 0x11 l.peer (wire_number l.terms.peer_start n)) s l.receiver.msn (ack_fits l.peer (wire_number l.terms.peer_start n) (l.receiver.msn % 16777216) s t.said (wire_small l.terms.peer_start n) (small l.receiver.msn) fits);
      fact = record {
        spelled = wire_same (plain 0x11 l.peer (wire_number l.terms.peer_start n)) s l.receiver.msn;
        connected = t.connected;
        dest = t.number;
        fact = subst (NumberedFact p x e g n d) (sym (ack_class l.peer (wire_number l.terms.peer_start n) (l.receiver.msn % 16777216) s ∙ class)) (fact d (ap (λ k. wire_number k n) t.start));
      };
    }

-- an ACK of a number that acted
pub ack_answer : (l : Link) (p x : Side) (e g : End) (n : ℕ) → IsTowards l p e → n < due e → IsAnswer p x e g (acknowledge l n Ack)
unfolding syndrome_class
ack_answer l p x e g n t acted = acknowledge_answer l p x e g n Ack IsAck t refl refl (λ d psn. (psn, acted))

-- a sequence error NAK of a number that is not past the one that acts next
pub sequence_nak_answer : (l : Link) (p x : Side) (e g : End) (n : ℕ) → IsTowards l p e → n ≤ due e → IsAnswer p x e g (acknowledge l n (Nak 0))
unfolding syndrome_class nak_class
sequence_nak_answer l p x e g n t within = acknowledge_answer l p x e g n (Nak 0) IsSequenceNak t refl refl (λ d psn. (psn, within))

-- an RNR NAK of a request that met no receive
pub dry_answer : (l : Link) (p x : Side) (e g : End) (n : ℕ) → IsTowards l p e → IsDry e n → IsAnswer p x e g (acknowledge l n Rnr)
unfolding syndrome_class
dry_answer l p x e g n t dry = acknowledge_answer l p x e g n Rnr IsReceiverNotReady t refl refl (λ d psn. (psn, dry))

-- a NAK of a refused request
pub refusal_answer : (l : Link) (p x : Side) (e g : End) (n : ℕ) → IsTowards l p e → IsRefused e n false → IsAnswer p x e g (acknowledge l n (Nak 1))
unfolding syndrome_class nak_class
refusal_answer l p x e g n t refused = acknowledge_answer l p x e g n (Nak 1) (IsRefusal false) t refl refl (λ d psn. (psn, refused))

pub access_answer : (l : Link) (p x : Side) (e g : End) (n : ℕ) → IsTowards l p e → IsRefused e n true → IsAnswer p x e g (acknowledge l n (Nak 2))
unfolding syndrome_class nak_class
access_answer l p x e g n t refused = acknowledge_answer l p x e g n (Nak 2) (IsRefusal true) t refl refl (λ d psn. (psn, refused))
