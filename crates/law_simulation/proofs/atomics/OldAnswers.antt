-- ATOMIC ACKs are read back, and say the old value that was answered.
use Rattle.std.proofs.Common.{◌≡◌, ◌<◌, ◌^◌, ◌%◌, ℕ, refl, sym, ap, subst, arith}
use Rattle.std.specs.Prelude.{Some}
use Rattle.protocol.specs.declared.wire.Syndrome.TheVariants.{Ack}
use Rattle.protocol.specs.Numbers.{wire_number}
use Rattle.protocol.specs.State.{Link}
use Rattle.protocol.specs.Wire.{Packet, Fits, plain, layout_of, is_request}
use Rattle.protocol.specs.Responder.{old_answer}
use Rattle.protocol.proofs.FittingPackets.{fits}
use Rattle.packetless_machine.specs.Machine.{End}
use Rattle.law_simulation.specs.Packets.{class_of, IsAtomicResponse}
use Rattle.law_simulation.specs.Views.{Side}
use Rattle.law_simulation.specs.Facts.{NumberedFact, IsOld}
use Rattle.law_simulation.proofs.delivery.Lifted.{IsAnswer}
use Rattle.law_simulation.proofs.requests.Replies.{with_aeth, read_back, wire_same, IsTowards, small, wire_small}

-- an old value, before its acknowledge header
abbrev holding : ℕ → ℕ → ℕ → Packet
holding dest psn old = record (plain 0x12 dest psn) { old = Some old }

old_fits : (dest psn msn old : ℕ) → dest < 2 ^ 24 → psn < 2 ^ 24 → msn < 2 ^ 24 → old < 2 ^ 64 → Fits (with_aeth (holding dest psn old) Ack msn)
unfolding layout_of
old_fits dest psn msn old a b c word = fits (with_aeth (holding dest psn old) Ack msn) _ refl refl a b tt (tt, tt, record { syndrome = refl; msn = c }, tt, word, tt) refl (omega arith)

old_class : (dest psn msn old : ℕ) → class_of (with_aeth (holding dest psn old) Ack msn) ≡ IsAtomicResponse
unfolding class_of is_request
old_class dest psn msn old = refl

pub old_is_answer : (l : Link) (p x : Side) (e g : End) (n old : ℕ) → IsTowards l p e → old < 2 ^ 64 → IsOld e n (Some old) → IsAnswer p x e g (old_answer l n old)
unfolding old_answer
old_is_answer l p x e g n old t word says =
    let psn : ℕ = wire_number l.terms.peer_start n in
    let d : Packet = with_aeth (holding l.peer psn old) Ack (l.receiver.msn % 16777216) in
    record {
      packet = d;
      read = read_back (holding l.peer psn old) Ack l.receiver.msn (old_fits l.peer psn (l.receiver.msn % 16777216) old t.said (wire_small l.terms.peer_start n) (small l.receiver.msn) word);
      fact = record {
        spelled = wire_same (holding l.peer psn old) Ack l.receiver.msn;
        connected = t.connected;
        dest = t.number;
        fact = subst (NumberedFact p x e g n d) (sym (old_class l.peer psn (l.receiver.msn % 16777216) old)) (ap (λ k. wire_number k n) t.start, says);
      };
    }
