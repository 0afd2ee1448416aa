-- What is sent for a reply without bytes.
use Rattle.std.proofs.Common.{◌≡◌, ℕ, ◌<◌, ◌≤◌, ◌^◌, false, List, [], ◌∷◌, length, refl, ap, sym, ◌∙◌, subst, arith}
use Rattle.std.specs.Prelude.{◌%◌, Some, None, IsTrue}
use Rattle.rdma_types.specs.declared.requests.Address.{Address}
use Rattle.rdma_types.specs.Objects.{Region}
use Rattle.page_pool.specs.Pool.{Pool}
use Rattle.protocol.specs.declared.wire.Headers.TheVariants as headers
use Rattle.protocol.specs.declared.wire.Syndrome.{Syndrome}
use Rattle.protocol.specs.declared.wire.Syndrome.TheVariants.{Ack}
use Rattle.protocol.specs.Numbers.{wire_number}
use Rattle.protocol.specs.Moves.{resume_packet}
use Rattle.protocol.specs.Responder.{acknowledge, old_answer}
use Rattle.protocol.specs.Wire.{Fits, Packet, fits_syndrome, layout_of, plain, wire_of}
use Rattle.endpoint_core.specs.declared.answers.EndReply.TheVariants as reply
use Rattle.endpoint_core.specs.declared.end.EndLink.{EndLink}
use Rattle.endpoint_core.specs.Answers.{sent_by}
use Rattle.endpoint_core.specs.Ends.{link_in}
use Rattle.context_core.proofs.PacketSizes.{answer-fits, dest-small, wire-addressed, wire-length}
use Rattle.context_core.proofs.TransmittedPackets.{wire-small}

-- an acknowledge, or a NAK
abbrev acknowledging : ℕ → ℕ → Syndrome → ℕ → Packet
acknowledging peer psn y msn = record (plain 0x11 peer psn) { aeth = Some (record { syndrome = y; msn = msn }) }

-- an old value
abbrev olden : ℕ → ℕ → ℕ → ℕ → Packet
olden peer psn msn old = record (plain 0x12 peer psn) { aeth = Some (record { syndrome = Ack; msn = msn }); old = Some old }

pub acknowledge-fits : (w : Packet) (peer start n msn : ℕ) (y : Syndrome) → w ≡ acknowledging (peer % 16777216) (wire_number start n) y msn → IsTrue (fits_syndrome 0x11 y) → msn < 2 ^ 24 → Fits w
unfolding layout_of
acknowledge-fits w peer start n msn y is fits m =
    subst Fits (sym is) (answer-fits 0x11 (peer % 16777216) (wire_number start n) (Some (record { syndrome = y; msn = msn })) None [] (record { headers = headers.Aeth; payload = false }) refl (dest-small peer) (wire-small start n) refl refl refl refl refl refl (record { syndrome = fits; msn = m }) tt refl (omega arith))

pub old-fits : (w : Packet) (peer start n msn old : ℕ) → w ≡ olden (peer % 16777216) (wire_number start n) msn old → old < 2 ^ 64 → msn < 2 ^ 24 → Fits w
unfolding layout_of
old-fits w peer start n msn old is o m =
    subst Fits (sym is) (answer-fits 0x12 (peer % 16777216) (wire_number start n) (Some (record { syndrome = Ack; msn = msn })) (Some old) [] (record { headers = headers.AethOld; payload = false }) refl (dest-small peer) (wire-small start n) refl refl refl refl refl refl (record { syndrome = refl; msn = m }) o refl (omega arith))

pub short : (w v : Packet) → w ≡ v → v.payload ≡ [] → length (wire_of w) ≤ 92
short w v is none = let size : length w.payload ≡ 0 = ap (λ (x : Packet). length x.payload) is ∙ ap length none in omega (arith, size, wire-length w)

pub acknowledge-sent : (pool : Pool) (regions : List Region) (l : EndLink) (w : Packet) (n msn : ℕ) (y : Syndrome) → w ≡ acknowledging (l.peer % 16777216) (wire_number l.terms.peer_start n) y msn → msn ≡ l.responder.receiver.msn
    → record { to = l.moves.partner; number = Some n; bytes = wire_of w } ∷ [] ≡ sent_by regions (link_in pool l) (reply.Acknowledge n y)
unfolding acknowledge
acknowledge-sent pool regions l w n msn y is told =
    ap {A = List ℕ} (λ bs. record { to = l.moves.partner; number = Some n; bytes = bs } ∷ []) (ap wire_of is ∙ wire-addressed (acknowledging l.peer (wire_number l.terms.peer_start n) y msn))
    ∙ ap (λ m. record { to = l.moves.partner; number = Some n; bytes = wire_of (acknowledging l.peer (wire_number l.terms.peer_start n) y m) } ∷ []) told

pub old-sent : (pool : Pool) (regions : List Region) (l : EndLink) (w : Packet) (n msn old : ℕ) → w ≡ olden (l.peer % 16777216) (wire_number l.terms.peer_start n) msn old → msn ≡ l.responder.receiver.msn
    → record { to = l.moves.partner; number = Some n; bytes = wire_of w } ∷ [] ≡ sent_by regions (link_in pool l) (reply.Old n old)
unfolding old_answer
old-sent pool regions l w n msn old is told =
    ap {A = List ℕ} (λ bs. record { to = l.moves.partner; number = Some n; bytes = bs } ∷ []) (ap wire_of is ∙ wire-addressed (olden l.peer (wire_number l.terms.peer_start n) msn old))
    ∙ ap (λ m. record { to = l.moves.partner; number = Some n; bytes = wire_of (olden l.peer (wire_number l.terms.peer_start n) m old) } ∷ []) told

pub resume-sent : (pool : Pool) (regions : List Region) (l : EndLink) (w : Packet) (count : ℕ) (address : Address) → w ≡ record (plain 0x1F (l.peer % 16777216) 0) { resume = Some (record { count = count; address = address }) }
    → record { to = l.moves.partner; number = None; bytes = wire_of w } ∷ [] ≡ sent_by regions (link_in pool l) (reply.ResumeAck count address)
resume-sent pool regions l w count address is =
    ap {A = List ℕ} (λ bs. record { to = l.moves.partner; number = None; bytes = bs } ∷ []) (ap wire_of is ∙ wire-addressed (resume_packet 0x1F l.peer (record { count = count; address = address })))
