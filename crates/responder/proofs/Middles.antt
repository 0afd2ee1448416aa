-- The packets of a WRITE in progress that are expected next and not its last: no check refuses them.
use Rattle.std.proofs.Common.{◌≡◌, ℕ, ◌+◌, ◌%◌, ◌<◌, ◌≤◌, true, false, List, [], length, refl, ap, sym, ◌∙◌, arith, subst}
use Rattle.std.specs.Prelude.{◌==◌, Some, None, IsSomeAnd, nat_le, nat_lt, if◌then◌else◌}
use Rattle.std.proofs.lemmas.Bool.Decides.{nat_tests}
use Rattle.rdma_types.specs.Limits.{most_bytes, number_limit}
use Rattle.rdma_types.specs.Objects.{Region, no_region}
use Rattle.rdma_types.specs.declared.names.Name.{Name}
use Rattle.rdma_types.specs.declared.requests.Receive.{Receive}
use Rattle.memory_keys.specs.declared.RegionRange.{RegionRange}
use Rattle.memory_keys.specs.declared.RegisteredRegion.{RegisteredRegion}
use Rattle.memory_keys.specs.Regions.{IsSpot}
use Rattle.end_queues.specs.Completions as completions
use Rattle.end_queues.specs.Postings as work
use Rattle.protocol.proofs.NearNumbers.{known}
use Rattle.protocol.specs.EndWords.{with_receiver}
use Rattle.protocol.specs.Memory.{written}
use Rattle.protocol.specs.Numbers.{unwrap_near}
use Rattle.protocol.specs.Responder.{executed, is_invalid, is_not_ready, is_send, is_write, part_of, place_of, span_of_packet, target}
use Rattle.protocol.specs.State.{InWrite}
use Rattle.protocol.specs.Wire.{Fits, Packet}
use Rattle.responder.specs.declared.answers.Reply.{Reply}
use Rattle.responder.specs.declared.answers.Reply.TheVariants.{Ack, Acted}
use Rattle.responder.specs.Receiving.{Receiving}
use Rattle.responder.specs.Sound.{IsSound, IsUnderWay, IsWrite}
use Rattle.responder.specs.Taken.{IsMiddle, IsTaken, target_in}
use Rattle.responder.specs.Taking.{Around, Taking, around_with, context_of, end_of, link_of, place_at, taking, write_taking}
use Rattle.responder.proofs.Acts.{write-row}
use Rattle.responder.proofs.Ends.{by-row, expected-row, valid-row}
use Rattle.responder.proofs.Kindly.{middle-is-bare}
use Rattle.responder.proofs.Views.{nothing-done}

-- ---- its place

way-of : (hs : List RegisteredRegion) (domain : Name) (v : Receiving) (unused : List Receive) (d : Packet) (spot : RegionRange) (done : ℕ) → IsSound hs domain v unused → IsMiddle v d spot done → IsWrite hs domain v.terms.mtu spot.region spot.off spot.length done
way-of hs domain v unused d spot done s m = subst (IsUnderWay hs domain v.terms.mtu) m.progress s.message

pub middle-place : (hs : List RegisteredRegion) (domain : Name) (v : Receiving) (unused : List Receive) (d : Packet) (spot : RegionRange) (done : ℕ) → IsSound hs domain v unused → IsMiddle v d spot done → IsSpot hs spot
middle-place hs domain v unused d spot done s m = λ some. let w = way-of hs domain v unused d spot done s m in subst (λ o. IsSomeAnd o (λ h. spot.off + spot.length ≤ h.head.length)) (sym w.there) w.inside

pub middle-few : (hs : List RegisteredRegion) (domain : Name) (v : Receiving) (unused : List Receive) (d : Packet) (spot : RegionRange) (done : ℕ) → IsSound hs domain v unused → IsMiddle v d spot done → spot.length ≤ most_bytes
middle-few hs domain v unused d spot done s m = (way-of hs domain v unused d spot done s m).few

-- ---- its row

valid : (a : Around) (d : Packet) (spot : RegionRange) (done : ℕ) → d.opcode ≡ 7 → d.atomic ≡ None → d.reth ≡ None → a.receiver.progress ≡ InWrite spot.region spot.off spot.length done
    → (length d.payload == a.terms.mtu) ≡ true → nat_lt most_bytes spot.length ≡ false → nat_le spot.length (length d.payload + done) ≡ false → is_invalid (link_of a) d ≡ false
unfolding is_invalid part_of
valid a d spot done o w h p sized few left = rw o (rw w (rw h (rw p (rw sized (rw few (rw left refl))))))

ready : (a : Around) (d : Packet) → d.opcode ≡ 7 → d.imm ≡ None → is_not_ready (end_of a) d ≡ false
unfolding part_of
ready a d o i = rw o (rw i refl)

no-target : (a : Around) (d : Packet) → d.atomic ≡ None → d.reth ≡ None → target_in a.regions a.domain d ≡ Some no_region
unfolding target
no-target a d w h = rw w (rw h refl)

placed : (a : Around) (d : Packet) (r : Region) (spot : RegionRange) (done : ℕ) → d.reth ≡ None → a.receiver.progress ≡ InWrite spot.region spot.off spot.length done → place_of r d.reth a.receiver.progress ≡ place_at spot done
unfolding place_of
placed a d r spot done h p = rw h (rw p refl)

-- what is there after it
abbrev after_middle : Around → Packet → RegionRange → ℕ → Taking
after_middle a d spot done = record {
  reply = if d.ack_request then Ack else Acted;
  receiver = record a.receiver { expected = a.receiver.expected + 1; nak_sent = false; progress = InWrite spot.region spot.off spot.length (done + length d.payload) };
  regions = (written (context_of a.regions) spot.region (spot.off + done) d.payload).regions;
  unused = a.unused;
  done = [];
}

written-row : (a : Around) (d : Packet) (spot : RegionRange) (done : ℕ) → d.opcode ≡ 7 → d.reth ≡ None → a.receiver.msn < 16777216 → write_taking a d (place_at spot done) ≡ after_middle a d spot done
unfolding write_taking executed with_receiver part_of
written-row a d spot done o h small = let m : (a.receiver.msn + 0) % 16777216 ≡ a.receiver.msn = omega arith in rw o (rw h (rw m refl))

middle-row : (a : Around) (d : Packet) (spot : RegionRange) (done : ℕ) → Fits d → IsMiddle (record { terms = a.terms; receiver = a.receiver }) d spot done → spot.length ≤ most_bytes → a.receiver.msn < 16777216 → taking a d ≡ after_middle a d spot done
middle-row a d spot done f m few small =
    let bare = middle-is-bare d f m.opcode in
    let n = a.receiver.expected in
    let near : unwrap_near a.terms.peer_start d.psn n ≡ Some n = known a.terms.peer_start d.psn n n (record { spelled = sym m.psn; low = omega arith; high = omega arith }) in
    let span : span_of_packet d a.terms.mtu d.reth ≡ 1 = ap (span_of_packet d a.terms.mtu) bare.1.0 in
    let limit : n + span_of_packet d a.terms.mtu d.reth < number_limit = omega (arith, span, m.limit) in
    let sized : (length d.payload == a.terms.mtu) ≡ true = grind (arith, nat_tests, m.sized) in
    let short : nat_lt most_bytes spot.length ≡ false = grind (arith, nat_tests, few) in
    let left : nat_le spot.length (length d.payload + done) ≡ false = grind (arith, nat_tests, m.left) in
    let good = valid a d spot done m.opcode bare.0 bare.1.0 m.progress sized short left in
    expected-row a d n near refl
    ∙ (valid-row a d n (Some no_region) limit good (no-target a d bare.0 bare.1.0)
    ∙ (write-row a d n no_region (ready a d m.opcode bare.1.1) (ap is_send m.opcode) (ap is_write m.opcode)
    ∙ (ap (write_taking a d) (placed a d no_region spot done bare.1.0 m.progress) ∙ written-row a d spot done m.opcode bare.1.0 small)))

pub middle-taken : (now new : Receiving) (domain : Name) (qp : ℕ) (rs after : List Region) (recvs : work.Queue Receive) (cq : completions.Queue) (d : Packet) (reply : Reply) (spot : RegionRange) (done : ℕ)
    → Fits d → IsMiddle now d spot done → spot.length ≤ most_bytes → now.receiver.msn < 16777216
    → reply ≡ (if d.ack_request then Ack else Acted)
    → after ≡ (written (context_of rs) spot.region (spot.off + done) d.payload).regions
    → new ≡ record now { receiver = record now.receiver { expected = now.receiver.expected + 1; nak_sent = false; progress = InWrite spot.region spot.off spot.length (done + length d.payload) } }
    → IsTaken (taking (around_with now domain qp rs recvs.items) d) reply now new after recvs recvs cq cq
middle-taken now new domain qp rs after recvs cq d reply spot done f m few small reply_is after_is new_is =
    let a = around_with now domain qp rs recvs.items in
    by-row _ _ reply now new after recvs recvs cq cq (middle-row a d spot done f m few small)
    (record { reply = reply_is; receiver = new_is; regions = after_is; unused = refl; done = nothing-done cq })
