-- Parts of lists of bytes.
use Rattle.std.proofs.Common.{◌≡◌, ℕ, zero, suc, ◌+◌, ◌-◌, ◌≤◌, Bool, true, false, List, [], length, take, drop, refl, ap, sym, ◌∙◌, arith}
use Rattle.std.specs.Prelude.{min, nat_le}
use Rattle.std.proofs.lemmas.Bool.Decides.{nat_tests}
use Rattle.std.proofs.lemmas.List.{drop-drop, drop-take, drop_all, length-drop, length-take, take-take, take_min}
use Rattle.page_pool.specs.declared.Payload.{Payload}
use Rattle.page_pool.specs.Held.{HoldsPayload, payload_bytes}
use Rattle.page_pool.specs.Pool.{Pool, bytes_in}
use Rattle.protocol.specs.Bytes.{bytes_at}
use Rattle.rdma_types.specs.Memory.{cut}

-- a part of a front
pub front-part : (bs : List ℕ) (off count n : ℕ) → off + count ≤ n → take count (drop off (take n bs)) ≡ take count (drop off bs)
front-part bs off count n l =
    let split : n ≡ off + (n - off) = omega arith in
    ap (λ k. take count (drop off (take k bs))) split
    ∙ (ap (take count) (drop-take off (n - off) bs) ∙ take-take count (n - off) (drop off bs) (omega arith))

-- a part of a part
pub inner-part : (bs : List ℕ) (first n off count : ℕ) → off + count ≤ n → take count (drop off (take n (drop first bs))) ≡ take count (drop (first + off) bs)
inner-part bs first n off count l = front-part (drop first bs) off count n l ∙ ap (take count) (drop-drop off first bs)

within : (off size len : ℕ) → nat_le off size ≡ true → off ≤ size
within off size len t = grind (arith, nat_tests)

beyond : (off size : ℕ) → nat_le off size ≡ false → size ≤ off
beyond off size t = grind (arith, nat_tests)

empty : (n : ℕ) → take {A = ℕ} n [] ≡ []
empty zero = refl
empty (suc n) = refl

-- a part that may go past the end
pub clamped : (bs : List ℕ) (off len off' count : ℕ) → off' ≡ min off (length bs) → count ≡ min len (length bs - off') → take len (drop off bs) ≡ take count (drop off' bs)
clamped bs off len off' count a b = by (nat_le off (length bs)) refl
  where
    by : (t : Bool) → nat_le off (length bs) ≡ t → take len (drop off bs) ≡ take count (drop off' bs)
    by true t =
        let l : off ≤ length bs = within off (length bs) len t in
        let same : off' ≡ off = omega (arith, a, l) in
        let size : length (drop off bs) ≡ length bs - off = length-drop off bs in
        let counts : min len (length (drop off bs)) ≡ count = omega (arith, a, b, l, size) in
        sym (take_min len (drop off bs)) ∙ (ap (λ k. take k (drop off bs)) counts ∙ ap (λ k. take count (drop k bs)) (sym same))
    by false t =
        let l : length bs ≤ off = beyond off (length bs) t in
        let none : count ≡ 0 = omega (arith, a, b, l) in
        ap (take len) (drop_all off bs l) ∙ (empty len ∙ sym (ap (λ k. take k (drop off' bs)) none))

payload-size : (pool : Pool) (p : Payload) → HoldsPayload pool p → length (payload_bytes pool p) ≡ p.length
unfolding payload_bytes cut
payload-size pool p h = omega (arith, length-take p.length (drop p.first (bytes_in pool p.list)), length-drop p.first (bytes_in pool p.list), h.inside)

-- the bytes of a packet, where they lie in the pool
pub packet-bytes : (pool : Pool) (p : Payload) (off len off' count : ℕ) → HoldsPayload pool p → off' ≡ min off p.length → count ≡ min len (p.length - off') → bytes_at off len (payload_bytes pool p) ≡ cut (p.first + off') count (bytes_in pool p.list)
unfolding payload_bytes cut bytes_at
packet-bytes pool p off len off' count h a b =
    let size = payload-size pool p h in
    clamped (payload_bytes pool p) off len off' count (a ∙ ap (min off) (sym size)) (b ∙ ap (λ n. min len (n - off')) (sym size))
    ∙ inner-part (bytes_in pool p.list) p.first p.length off' count (omega (arith, a, b))

pub packet-size : (pool : Pool) (p : Payload) (off len off' count : ℕ) → HoldsPayload pool p → off' ≡ min off p.length → count ≡ min len (p.length - off') → length (bytes_at off len (payload_bytes pool p)) ≡ count
unfolding bytes_at
packet-size pool p off len off' count h a b =
    let size = payload-size pool p h in
    omega (arith, a, b, size, length-take len (drop off (payload_bytes pool p)), length-drop off (payload_bytes pool p))
