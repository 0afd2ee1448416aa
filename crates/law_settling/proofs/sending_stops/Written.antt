-- The bytes of the answers that a responder sends.
use Rattle.std.proofs.Common.{arith, ◌≡◌, ◌<◌, ◌+◌, ◌⊎◌, ℕ, zero, suc, List, true, false, Bool, refl, inl, inr}
use Rattle.std.specs.Prelude.{All, Some, if◌then◌else◌, ◌==◌}
use Rattle.std.proofs.lemmas.List.Elements.{All-nil, All-cons}
use Rattle.rdma_types.specs.Objects.{Region}
use Rattle.rdma_types.specs.Spans.{pieces}
use Rattle.protocol.specs.declared.wire.Syndrome.TheVariants.{Ack, Rnr, Nak}
use Rattle.protocol.specs.Bytes.{big_bytes, number_at}
use Rattle.protocol.specs.State.{Link}
use Rattle.protocol.specs.Wire.{Packet, wire_of}
use Rattle.protocol.specs.Responder as responder
use Rattle.law_settling.proofs.sending_stops.Turns.{IsAnswerTo}

dest_written : (d : Packet) → d.dest < 16777216 → number_at 5 3 (wire_of d) ≡ d.dest
unfolding wire_of number_at big_bytes
dest_written d h = omega (arith, h)

module _ (l : Link) (small : l.peer < 16777216) (Back : Type 0) where
  abbrev To : List ℕ → Type 0
  To bs = IsAnswerTo l.peer Back bs

  pub ack_written : (n : ℕ) → To (responder.acknowledge l n Ack).bytes
  unfolding responder.acknowledge wire_of big_bytes
  ack_written n = record { dest = dest_written (responder.response l 0x11 n Ack) small; kind = inl (inr (inl (refl, inr (inr (inr (inl refl)))))) }

  pub rnr_written : (n : ℕ) → To (responder.acknowledge l n Rnr).bytes
  unfolding responder.acknowledge wire_of big_bytes
  rnr_written n = record { dest = dest_written (responder.response l 0x11 n Rnr) small; kind = inl (inr (inr (refl, refl))) }

  pub nak_written : (n code : ℕ) → Back → (code ≡ 0) ⊎ (code ≡ 1) ⊎ (code ≡ 2) → To (responder.acknowledge l n (Nak code)).bytes
  unfolding responder.acknowledge wire_of big_bytes
  nak_written n code back h = record { dest = dest_written (responder.response l 0x11 n (Nak code)) small; kind = inr (back, (refl, by_code h)) }
    where
      by_code : (code ≡ 0) ⊎ (code ≡ 1) ⊎ (code ≡ 2) → (0x60 + code ≡ 0x60) ⊎ (0x60 + code ≡ 0x61) ⊎ (0x60 + code ≡ 0x62)
      by_code (inl t) = inl (omega (arith, t))
      by_code (inr (inl t)) = inr (inl (omega (arith, t)))
      by_code (inr (inr t)) = inr (inr (omega (arith, t)))

  pub old_written : (n old : ℕ) → To (responder.old_answer l n old).bytes
  unfolding responder.old_answer wire_of big_bytes
  old_written n old = record { dest = dest_written (record (responder.response l 0x12 n Ack) { old = Some old }) small; kind = inl (inr (inl (refl, inr (inr (inr (inr refl)))))) }

  read_by : (n : ℕ) (bytes : List ℕ) (a b c : Bool) →
      To (wire_of (if a then record (responder.response l 0x10 n Ack) { payload = bytes } else if b then record (responder.response l 0x0D n Ack) { payload = bytes } else if c then record (responder.response l 0x0F n Ack) { payload = bytes } else responder.read_response l n 5 7 bytes))
  unfolding wire_of big_bytes
  read_by n bytes true b c = record { dest = dest_written (record (responder.response l 0x10 n Ack) { payload = bytes }) small; kind = inl (inr (inl (refl, inr (inr (inl refl))))) }
  read_by n bytes false true c = record { dest = dest_written (record (responder.response l 0x0D n Ack) { payload = bytes }) small; kind = inl (inr (inl (refl, inl refl))) }
  read_by n bytes false false true = record { dest = dest_written (record (responder.response l 0x0F n Ack) { payload = bytes }) small; kind = inl (inr (inl (refl, inr (inl refl)))) }
  read_by n bytes false false false = record { dest = dest_written (responder.read_response l n 5 7 bytes) small; kind = inl (inl refl) }

  read_written : (r : Region) (off count n k : ℕ) → To (responder.read_piece l r off count n k).bytes
  read_written r off count n k =
      let all : ℕ = pieces count l.terms.mtu in
      read_by (n + k) _ (all == 1) (k == 0) (k + 1 == all)

  pub reads_written : (r : Region) (off count n left : ℕ) → All (λ z. To z.bytes) (responder.read_pieces l r off count n left)
  unfolding responder.read_pieces
  reads_written r off count n zero = All-nil _
  reads_written r off count n (suc left) = All-cons (λ z. To z.bytes) _ _ (read_written r off count n _) (reads_written r off count n left)
