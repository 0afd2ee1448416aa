-- READ responses are read back, and say what was offered.
use Rattle.std.proofs.Common.{◌≡◌, ◌<◌, ◌≤◌, ◌^◌, ◌%◌, ◌+◌, ℕ, List, length, true, false, Bool, refl, sym, ap, subst}
use Rattle.std.specs.Prelude.{Some, if◌then◌else◌, ◌==◌}
use Rattle.protocol.specs.declared.wire.Headers.TheVariants as headers
use Rattle.protocol.specs.declared.wire.Syndrome.TheVariants.{Ack}
use Rattle.protocol.specs.Numbers.{wire_number}
use Rattle.protocol.specs.State.{Link}
use Rattle.protocol.specs.Wire.{Packet, Fits, plain, layout_of, is_request}
use Rattle.protocol.specs.EndWords.{to_partner}
use Rattle.protocol.specs.Responder.{response, read_response}
use Rattle.protocol.proofs.FittingPackets.{fits}
use Rattle.protocol.proofs.PacketGrammar.{spelled_read}
use Rattle.protocol.proofs.WrittenPackets.{written_spelled}
use Rattle.packetless_machine.specs.Machine.{End}
use Rattle.law_simulation.specs.Packets.{class_of, IsReadResponse}
use Rattle.law_simulation.specs.Views.{Side}
use Rattle.law_simulation.specs.Facts.{NumberedFact, IsOffered}
use Rattle.law_simulation.proofs.delivery.Lifted.{IsAnswer}
use Rattle.law_simulation.proofs.requests.Replies.{with_aeth, read_back, wire_same, IsTowards, small, wire_small}

-- a response with bytes
abbrev loaded : ℕ → ℕ → ℕ → List ℕ → Packet
loaded opcode dest psn bytes = record (plain opcode dest psn) { payload = bytes }

-- with an acknowledge header, where its opcode has one
headed_fits : (opcode dest psn msn : ℕ) (bytes : List ℕ) → layout_of opcode ≡ Some (record { headers = headers.Aeth; payload = true }) → dest < 2 ^ 24 → psn < 2 ^ 24 → msn < 2 ^ 24 → length bytes ≤ 4096 → Fits (with_aeth (loaded opcode dest psn bytes) Ack msn)
headed_fits opcode dest psn msn bytes known a b c short = fits (with_aeth (loaded opcode dest psn bytes) Ack msn) _ known refl a b tt (tt, tt, record { syndrome = refl; msn = c }, tt, tt, tt) tt short

bare_fits : (dest psn : ℕ) (bytes : List ℕ) → dest < 2 ^ 24 → psn < 2 ^ 24 → length bytes ≤ 4096 → Fits (loaded 0x0E dest psn bytes)
unfolding layout_of
bare_fits dest psn bytes a b short = fits (loaded 0x0E dest psn bytes) _ refl refl a b tt (tt, tt, tt, tt, tt, tt) tt short

module _ (l : Link) (p x : Side) (e g : End) (n : ℕ) (bytes : List ℕ) (t : IsTowards l p e) (short : length bytes ≤ 4096) (offered : IsOffered e n bytes) where
  abbrev psn : ℕ
  psn = wire_number l.terms.peer_start n

  -- a First, Last or Only
  headed : (opcode : ℕ) → layout_of opcode ≡ Some (record { headers = headers.Aeth; payload = true }) → class_of (with_aeth (loaded opcode l.peer psn bytes) Ack (l.receiver.msn % 16777216)) ≡ IsReadResponse → IsAnswer p x e g (to_partner l (Some n) (with_aeth (loaded opcode l.peer psn bytes) Ack l.receiver.msn))
  headed opcode known class = record {
    packet = with_aeth (loaded opcode l.peer psn bytes) Ack (l.receiver.msn % 16777216);
    read = read_back (loaded opcode l.peer psn bytes) Ack l.receiver.msn (headed_fits opcode l.peer psn (l.receiver.msn % 16777216) bytes known t.said (wire_small l.terms.peer_start n) (small l.receiver.msn) short);
    fact = record {
      spelled = wire_same (loaded opcode l.peer psn bytes) Ack l.receiver.msn;
      connected = t.connected;
      dest = t.number;
      fact = subst (NumberedFact p x e g n (with_aeth (loaded opcode l.peer psn bytes) Ack (l.receiver.msn % 16777216))) (sym class) (ap (λ k. wire_number k n) t.start, offered);
    };
  }

  -- a Middle
  bare : class_of (loaded 0x0E l.peer psn bytes) ≡ IsReadResponse → IsAnswer p x e g (to_partner l (Some n) (loaded 0x0E l.peer psn bytes))
  bare class = record {
    packet = loaded 0x0E l.peer psn bytes;
    read = spelled_read _ _ (written_spelled _ (bare_fits l.peer psn bytes t.said (wire_small l.terms.peer_start n) short));
    fact = record {
      spelled = refl;
      connected = t.connected;
      dest = t.number;
      fact = subst (NumberedFact p x e g n (loaded 0x0E l.peer psn bytes)) (sym class) (ap (λ k. wire_number k n) t.start, offered);
    };
  }

  -- response k of so many
  pub read_answer : (k count : ℕ) → IsAnswer p x e g (to_partner l (Some n) (read_response l n k count bytes))
  unfolding layout_of class_of is_request
  read_answer k count = by_tests (count == 1) (k == 0) (k + 1 == count)
    where
      by_tests : (a b c : Bool) → IsAnswer p x e g (to_partner l (Some n) (if a then record (response l 0x10 n Ack) { payload = bytes } else if b then record (response l 0x0D n Ack) { payload = bytes } else if c then record (response l 0x0F n Ack) { payload = bytes } else loaded 0x0E l.peer psn bytes))
      by_tests true b c = headed 0x10 refl refl
      by_tests false true c = headed 0x0D refl refl
      by_tests false false true = headed 0x0F refl refl
      by_tests false false false = bare refl
