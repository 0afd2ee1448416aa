-- Bytes that are compared block by block.
use Rattle.std.proofs.Common.{◌≡◌, ℕ, zero, suc, ◌+◌, ◌≤◌, List, [], ◌∷◌, ◌++◌, length, take, drop, refl, ap, sym, ◌∙◌, arith}
use Rattle.std.specs.Prelude.{Option, Some, None, true, false, is_some, min}
use Rattle.std.specs.Option.{option_or}
use Rattle.std.proofs.lemmas.List.{drop-drop, drop-take, length-drop, length-take, take-take, take-append-drop}
use Rattle.rdma_types.specs.Memory.{cut}
use Rattle.page_pool.specs.Pool.{Pool, bytes_in}
use Rattle.page_pool.specs.Held.{HoldsPayload, payload_bytes}
use Rattle.page_pool.specs.declared.Payload.{Payload}
use Rattle.device_differences.specs.Differing.{apart, pairwise, across, between}
use Rattle.device_differences.proofs.Tells.{apart-tells}
use Rattle.device_differences.proofs.Found.{Passed, numbers-end}

or-assoc : (a b c : Option (ℕ × ℕ)) → option_or (option_or a b) c ≡ option_or a (option_or b c)
or-assoc None b c = refl
or-assoc (Some p) b c = refl

or-none : (o : Option (ℕ × ℕ)) → option_or o None ≡ o
or-none None = refl
or-none (Some p) = refl

pair-join : (ms xs ns ys : List ℕ) → length ms ≡ length ns → pairwise apart (ms ++ xs) (ns ++ ys) ≡ option_or (pairwise apart ms ns) (pairwise apart xs ys)
unfolding pairwise
pair-join [] xs [] ys l = refl
pair-join [] xs (n ∷ ns) ys l = absurd (omega arith)
pair-join (m ∷ ms) xs [] ys l = absurd (omega arith)
pair-join (m ∷ ms) xs (n ∷ ns) ys l = ap (option_or (apart m n)) (pair-join ms xs ns ys (omega arith)) ∙ sym (or-assoc (apart m n) (pairwise apart ms ns) (pairwise apart xs ys))

even : (ms ns : List ℕ) → length ms ≡ length ns → between ms ns ≡ pairwise apart ms ns
unfolding between across
even ms ns l = ap (option_or (pairwise apart ms ns)) ((apart-tells (length ms) (length ns)).same l) ∙ or-none (pairwise apart ms ns)

block-length : (xs : List ℕ) (done size : ℕ) → done + size ≤ length xs → length (cut done size xs) ≡ size
unfolding cut
block-length xs done size l = omega (arith, length-take size (drop done xs), length-drop done xs)

block-split : (xs : List ℕ) (done size : ℕ) → drop done xs ≡ cut done size xs ++ drop (done + size) xs
unfolding cut
block-split xs done size = sym (take-append-drop size (drop done xs)) ∙ ap (λ zs. take size (drop done xs) ++ zs) (drop-drop size done xs)

-- the next block, and what is behind it
block-next : (xs ys : List ℕ) (done size : ℕ) → done + size ≤ length xs → done + size ≤ length ys → Passed apart xs ys done → pairwise apart xs ys ≡ option_or (between (cut done size xs) (cut done size ys)) (pairwise apart (drop (done + size) xs) (drop (done + size) ys))
block-next xs ys done size l k passed =
    let same : length (cut done size xs) ≡ length (cut done size ys) = block-length xs done size l ∙ sym (block-length ys done size k) in
    passed.same
    ∙ ((λ i. pairwise apart (block-split xs done size i) (block-split ys done size i))
    ∙ (pair-join (cut done size xs) (drop (done + size) xs) (cut done size ys) (drop (done + size) ys) same
    ∙ ap (λ o. option_or o (pairwise apart (drop (done + size) xs) (drop (done + size) ys))) (sym (even (cut done size xs) (cut done size ys) same))))

-- a difference of two blocks is that of the whole
pub block-found : (xs ys : List ℕ) (done size : ℕ) (r : Option (ℕ × ℕ)) → done + size ≤ length xs → done + size ≤ length ys → r ≡ between (cut done size xs) (cut done size ys) → is_some r ≡ true → Passed apart xs ys done → r ≡ between xs ys
unfolding between across
block-found xs ys done size None l k is some passed = absurd (cc)
block-found xs ys done size (Some p) l k is some passed =
    let at : pairwise apart xs ys ≡ Some p = block-next xs ys done size l k passed ∙ ap (λ o. option_or o (pairwise apart (drop (done + size) xs) (drop (done + size) ys))) (sym is) in
    sym (ap (λ o. option_or o (apart (length xs) (length ys))) at)

-- blocks that do not differ are passed
pub block-passed : (xs ys : List ℕ) (done size : ℕ) (r : Option (ℕ × ℕ)) → done + size ≤ length xs → done + size ≤ length ys → r ≡ between (cut done size xs) (cut done size ys) → is_some r ≡ false → Passed apart xs ys done → Passed apart xs ys (done + size)
block-passed xs ys done size None l k is none passed = record { same = block-next xs ys done size l k passed ∙ ap (λ o. option_or o (pairwise apart (drop (done + size) xs) (drop (done + size) ys))) (sym is) }
block-passed xs ys done size (Some p) l k is none passed = absurd (cc)

-- ---- parts of bytes

-- a part of a front
pub front-cut : (bs : List ℕ) (done size n : ℕ) → done + size ≤ n → cut done size (take n bs) ≡ cut done size bs
unfolding cut
front-cut bs done size n l = front-part bs done size n l
  where
    front-part : (bs : List ℕ) (done size n : ℕ) → done + size ≤ n → take size (drop done (take n bs)) ≡ take size (drop done bs)
    front-part bs zero size n l = take-take size n bs (omega arith)
    front-part [] (suc done) size zero l = refl
    front-part [] (suc done) size (suc n) l = refl
    front-part (b ∷ bs) (suc done) size zero l = absurd (omega arith)
    front-part (b ∷ bs) (suc done) size (suc n) l = front-part bs done size n (omega arith)

-- a part of a payload, as its pages give it
pub payload-cut : (pool : Pool) (p : Payload) (done size count : ℕ) → done + size ≤ p.length → size ≤ count → take size (cut (p.first + done) count (bytes_in pool p.list)) ≡ cut done size (payload_bytes pool p)
unfolding cut payload_bytes
payload-cut pool p done size count l k =
    take-take size count (drop (p.first + done) (bytes_in pool p.list)) k
    ∙ (ap (take size) (sym (drop-drop done p.first (bytes_in pool p.list))) ∙ sym (front-cut (drop p.first (bytes_in pool p.list)) done size p.length l))

pub payload-length : (pool : Pool) (p : Payload) → HoldsPayload pool p → length (payload_bytes pool p) ≡ p.length
unfolding payload_bytes cut
payload-length pool p h = omega (arith, length-take p.length (drop p.first (bytes_in pool p.list)), length-drop p.first (bytes_in pool p.list), h.inside)
