-- READ responses.
use Rattle.std.proofs.Common.{◌≡◌, ℕ, zero, suc, ◌+◌, ◌-◌, ◌*◌, ◌<◌, ◌≤◌, ◌^◌, Bool, true, false, List, [], ◌∷◌, length, drop, refl, ap, sym, ◌∙◌, arith}
use Rattle.std.proofs.lemmas.List.{length-reverse, length-take}
use Rattle.std.specs.Prelude.{min, ◌%◌, ◌==◌, Option, Some, None, IsSomeAnd, reverse, if◌then◌else◌}
use Rattle.rdma_types.specs.declared.answers.Sent.{Sent}
use Rattle.rdma_types.specs.Lists.{at}
use Rattle.rdma_types.specs.Memory.{cut}
use Rattle.rdma_types.specs.Objects.{Region, no_region}
use Rattle.rdma_types.specs.Spans.{piece_length, pieces}
use Rattle.page_pool.specs.Pool.{Pool, bytes_in}
use Rattle.memory_keys.specs.declared.RegisteredRegion.{RegisteredRegion}
use Rattle.memory_keys.specs.declared.RegionRange.{RegionRange}
use Rattle.memory_keys.specs.Regions.{IsSpot, held_at, part_of, regions_of, spot_bytes}
use Rattle.memory_keys.proofs.Protocol.{found-region}
use Rattle.memory_keys.proofs.Spots.{spot-empty, spot-is}
use Rattle.protocol.specs.declared.wire.Headers.TheVariants as headers
use Rattle.protocol.specs.declared.wire.Syndrome.TheVariants.{Ack}
use Rattle.protocol.specs.Numbers.{wire_number}
use Rattle.protocol.specs.Responder.{read_piece, read_pieces, read_response}
use Rattle.protocol.specs.State.{Link}
use Rattle.protocol.specs.Wire.{Fits, Packet, layout_of, plain}
use Rattle.endpoint_core.specs.declared.answers.DueRead.{DueRead}
use Rattle.endpoint_core.specs.declared.end.EndLink.{EndLink}
use Rattle.endpoint_core.specs.Due.{responses, telling}
use Rattle.endpoint_core.specs.Ends.{link_in}
use Rattle.context_core.specs.Arriving.{aeth_at, opcode_at}
use Rattle.context_core.specs.Sending.{addressed}
use Rattle.context_core.proofs.ByteParts.{front-part}
use Rattle.context_core.proofs.PacketSizes.{answer-fits}

-- ---- the packet of a response

-- a packet of this opcode
abbrev made : Link → ℕ → ℕ → List ℕ → Packet
made l n opcode bytes = record (plain opcode (l.peer % 16777216) (wire_number l.terms.peer_start n)) { aeth = aeth_at opcode l.receiver.msn; payload = bytes }

pub response-is : (l : Link) (n k count : ℕ) (bytes : List ℕ) → made l n (opcode_at k count) bytes ≡ addressed (read_response l n k count bytes)
response-is l n k count bytes = by_tests (count == 1) (k == 0) (k + 1 == count)
  where
    by_tests : (a b c : Bool)
        → made l n (if a then 0x10 else if b then 0x0D else if c then 0x0F else 0x0E) bytes
        ≡ addressed (if a
        then record (plain 0x10 l.peer (wire_number l.terms.peer_start n)) { aeth = Some (record { syndrome = Ack; msn = l.receiver.msn }); payload = bytes }
        else if b
        then record (plain 0x0D l.peer (wire_number l.terms.peer_start n)) { aeth = Some (record { syndrome = Ack; msn = l.receiver.msn }); payload = bytes }
        else if c
        then record (plain 0x0F l.peer (wire_number l.terms.peer_start n)) { aeth = Some (record { syndrome = Ack; msn = l.receiver.msn }); payload = bytes }
        else record (plain 0x0E l.peer (wire_number l.terms.peer_start n)) { payload = bytes })
    by_tests true b c = refl
    by_tests false true c = refl
    by_tests false false true = refl
    by_tests false false false = refl

loaded-fits : (opcode dest psn msn : ℕ) (payload : List ℕ) → (opcode == 0x0E) ≡ false → layout_of opcode ≡ Some (record { headers = headers.Aeth; payload = true }) → dest < 2 ^ 24 → psn < 2 ^ 24 → msn < 2 ^ 24 → length payload ≤ 4096
    → Fits (record (plain opcode dest psn) { aeth = aeth_at opcode msn; payload = payload })
loaded-fits opcode dest psn msn payload middle known d p m few =
    rw middle (answer-fits opcode dest psn (Some (record { syndrome = Ack; msn = msn })) None payload (record { headers = headers.Aeth; payload = true }) known d p refl refl refl refl refl refl (record { syndrome = refl; msn = m }) tt tt few)

pub response-fits : (k count dest psn msn : ℕ) (payload : List ℕ) → dest < 2 ^ 24 → psn < 2 ^ 24 → msn < 2 ^ 24 → length payload ≤ 4096
    → Fits (record (plain (opcode_at k count) dest psn) { aeth = aeth_at (opcode_at k count) msn; payload = payload })
unfolding layout_of
response-fits k count dest psn msn payload d p m few = by_tests (count == 1) (k == 0) (k + 1 == count)
  where
    by_tests : (a b c : Bool) → Fits (record (plain (if a then 0x10 else if b then 0x0D else if c then 0x0F else 0x0E) dest psn) { aeth = aeth_at (if a then 0x10 else if b then 0x0D else if c then 0x0F else 0x0E) msn; payload = payload })
    by_tests true b c = loaded-fits 0x10 dest psn msn payload refl refl d p m few
    by_tests false true c = loaded-fits 0x0D dest psn msn payload refl refl d p m few
    by_tests false false true = loaded-fits 0x0F dest psn msn payload refl refl d p m few
    by_tests false false false = answer-fits 0x0E dest psn None None payload (record { headers = headers.Bare; payload = true }) refl d p refl refl refl refl refl refl tt tt tt few

-- ---- its bytes

-- a part of a spot in the region that the protocol finds
pub piece-bytes : (pool : Pool) (held : List RegisteredRegion) (spot : RegionRange) (n count : ℕ) → IsSpot held spot → n + count ≤ spot.length
    → spot_bytes pool held (part_of spot n count) ≡ cut (spot.off + n) count (at (λ r. r.keys.local) no_region spot.region (regions_of pool held)).bytes
unfolding cut
piece-bytes pool held spot n zero is few = spot-empty pool held (part_of spot n 0) refl
piece-bytes pool held spot n (suc count) is few = found (held_at spot.region held) refl (is (omega arith))
  where
    region : Region
    region = at (λ r. r.keys.local) no_region spot.region (regions_of pool held)

    found : (o : Option RegisteredRegion) → held_at spot.region held ≡ o → IsSomeAnd o (λ h. spot.off + spot.length ≤ h.head.length) → spot_bytes pool held (part_of spot n (suc count)) ≡ cut (spot.off + n) (suc count) region.bytes
    found None e h = absurd h
    found (Some h) e low =
        spot-is pool held (part_of spot n (suc count)) h e
        ∙ (sym (front-part (bytes_in pool h.list) (spot.off + n) (suc count) h.head.length (omega arith))
        ∙ ap (λ (r : Region). cut (spot.off + n) (suc count) r.bytes) (sym (found-region pool spot.region held h e)))

-- the bytes of response k, as they are taken from the spot
pub payload-is : (pool : Pool) (held : List RegisteredRegion) (spot : RegionRange) (k mtu from count size : ℕ) (bytes : List ℕ) → IsSpot held spot → bytes ≡ spot_bytes pool held (part_of spot from size) → count ≡ size → from ≡ k * mtu → count ≡ piece_length spot.length k mtu → from + count ≤ spot.length
    → bytes ≡ cut (spot.off + k * mtu) (piece_length spot.length k mtu) (at (λ r. r.keys.local) no_region spot.region (regions_of pool held)).bytes
payload-is pool held spot k mtu from count size bytes is taken all here whole inside =
    let region = at (λ r. r.keys.local) no_region spot.region (regions_of pool held) in
    taken
    ∙ (ap (λ n. spot_bytes pool held (part_of spot from n)) (sym all)
    ∙ (piece-bytes pool held spot from count is inside
    ∙ (ap (λ n. cut (spot.off + n) count region.bytes) here ∙ ap (λ n. cut (spot.off + k * mtu) n region.bytes) whole)))

-- a part of so many bytes has no more
pub cut-few : (off count : ℕ) (xs : List ℕ) → length (cut off count xs) ≤ count
unfolding cut
cut-few off count xs = omega (arith, length-take count (drop off xs))

-- .. are no more than the MTU
pub payload-few : (off mtu size : ℕ) (bytes xs : List ℕ) → bytes ≡ cut off (min mtu size) xs → length bytes ≤ mtu
unfolding cut
payload-few off mtu size bytes xs e = omega (arith, ap length e, length-take (min mtu size) (drop off xs))

-- ---- one after the other

pub next-response : (pool : Pool) (regions : List Region) (l : EndLink) (due : DueRead) (count k : ℕ) → count ≡ pieces due.spot.length l.terms.mtu → k < count
    → responses pool regions l due (count - k) ≡ read_piece (telling (link_in pool l) due.msn) (at (λ r. r.keys.local) no_region due.spot.region regions) due.spot.off due.spot.length due.first k ∷ responses pool regions l due (count - (k + 1))
unfolding read_pieces
next-response pool regions l due count k all inside =
    let more : count - k ≡ suc (count - (k + 1)) = omega arith in
    let here : pieces due.spot.length l.terms.mtu - suc (count - (k + 1)) ≡ k = omega (arith, all, inside) in
    ap (λ left. responses pool regions l due left) more
    ∙ ap (λ i. read_piece (telling (link_in pool l) due.msn) (at (λ r. r.keys.local) no_region due.spot.region regions) due.spot.off due.spot.length due.first i ∷ responses pool regions l due (count - (k + 1))) here

-- none are there before the last one
pub none-yet : (pool : Pool) (regions : List Region) (l : EndLink) (due : DueRead) (list : List Sent) (count : ℕ) → list ≡ [] → reverse list ≡ responses pool regions l due (count - count)
unfolding read_pieces
none-yet pool regions l due list count e =
    let zero' : count - count ≡ 0 = omega arith in
    ap reverse e ∙ ap (responses pool regions l due) (sym zero')

pub responses-count : (pool : Pool) (regions : List Region) (l : EndLink) (due : DueRead) (n : ℕ) → length (responses pool regions l due n) ≡ n
unfolding read_pieces
responses-count pool regions l due zero = refl
responses-count pool regions l due (suc n) = ap suc (responses-count pool regions l due n)

-- no more than there are pieces, whichever are there
pub few-responses : (pool : Pool) (regions : List Region) (l : EndLink) (due : DueRead) (list : List Sent) (count k : ℕ) → reverse list ≡ responses pool regions l due (count - k) → count ≤ 2 ^ 32 → length list ≤ 2 ^ 32
few-responses pool regions l due list count k e few =
    let many = ap length e in
    let all = responses-count pool regions l due (count - k) in
    omega (arith, many, all, length-reverse list, few)
