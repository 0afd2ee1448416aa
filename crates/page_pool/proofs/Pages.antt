-- The bytes of a page, after a write.
use Rattle.std.proofs.Common.{◌≡◌, ℕ, ◌+◌, ◌-◌, ◌*◌, ◌/◌, ◌<◌, ◌≤◌, ◌≢◌, List, ◌++◌, length, take, drop, get_or, min, arith, refl, ap, sym, ◌∙◌, inl, inr}
use Rattle.std.specs.Prelude.{◌⊎◌, replicate}
use Rattle.std.specs.Arc.{arc_value}
use Rattle.std.specs.declared.sync.Arc.{Arc}
use Rattle.std.proofs.lemmas.Bool.{cases_lt}
use Rattle.std.proofs.lemmas.List.{places, same_lists, get_or-take, get_or-drop, drop_all, length-append, length-take, length-drop, length-replicate, append-nil}
use Rattle.rdma_types.specs.Memory.{cut, put}
use Rattle.byte_run.specs.Pages.{ArePages, joined}
use Rattle.byte_run.proofs.Runs.{cut-take, length-pages}
use Rattle.byte_run.proofs.Joined.{cut-joined}
use Rattle.rdma_types.proofs.Cuts.{length-cut, length-put, cut-whole, cut-put_below, cut-put_above, cut-put_inside}
use Rattle.page_pool.specs.Store.{blank}
use Rattle.page_pool.specs.Ledger.{page_at}
use Rattle.page_pool.proofs.Places.{length-blank}

-- a page has 4,096 bytes
pub length-page : (bytes : List ℕ) (n p : ℕ) → length bytes ≡ 4096 * n → p < n → length (page_at bytes p) ≡ 4096
unfolding page_at
length-page bytes n p e l = length-cut (4096 * p) 4096 bytes (omega arith)

-- a page that is not written is as it was
pub page-put_other : (bytes w : List ℕ) (n q off p : ℕ) → length bytes ≡ 4096 * n → q < n → off + length w ≤ 4096 → p ≢ q → page_at (put bytes (4096 * q + off) w) p ≡ page_at bytes p
unfolding page_at
page-put_other bytes w n q off p e l k ne = by_place (cases_lt p q)
  where
    by_place : (p < q) ⊎ (q ≤ p) → cut (4096 * p) 4096 (put bytes (4096 * q + off) w) ≡ cut (4096 * p) 4096 bytes
    by_place (inl b) = cut-put_below bytes (4096 * q + off) w (4096 * p) 4096 (omega arith) (omega arith)
    by_place (inr b) = cut-put_above bytes (4096 * q + off) w (4096 * p) 4096 (omega arith) (omega (arith, ne))

-- a page that is written
pub page-put_same : (bytes w : List ℕ) (n q off : ℕ) → length bytes ≡ 4096 * n → q < n → off + length w ≤ 4096 → page_at (put bytes (4096 * q + off) w) q ≡ put (page_at bytes q) off w
unfolding page_at
page-put_same bytes w n q off e l k = cut-put_inside bytes off w (4096 * q) 4096 (omega arith) k

-- a part of the bytes that are written
pub cut-put_within : (bytes : List ℕ) (a : ℕ) (w : List ℕ) (k m : ℕ) → a + length w ≤ length bytes → k + m ≤ length w → cut (a + k) m (put bytes a w) ≡ cut k m w
unfolding cut put
cut-put_within bytes a w k m h l = same_lists _ _ (simp (length-append, length-take, length-drop) (omega arith)) (λ i d n. grind (arith, places))

-- a part of zeros
pub cut-blank : (n a m : ℕ) → a + m ≤ n → cut a m (blank n) ≡ blank m
unfolding cut blank
cut-blank n a m h = same_lists _ _ (simp (length-take, length-drop, length-replicate) (omega arith)) (λ i d l. grind (arith, places))

-- a page of what is laid
pub length-laid : (bytes : List ℕ) (first at n : ℕ) → at + 4096 ≤ n → first + length bytes ≤ n → length (cut at 4096 (put (blank n) first bytes)) ≡ 4096
length-laid bytes first at n a b = length-cut at 4096 (put (blank n) first bytes) (omega (arith, length-put (blank n) first bytes (omega (arith, length-blank n)), length-blank n))

-- all of a list written
pub put-whole : (xs w : List ℕ) → length xs ≡ length w → put xs 0 w ≡ w
unfolding put
put-whole xs w e = ap (λ ys. w ++ ys) (drop_all (0 + length w) xs (omega arith)) ∙ append-nil w

-- a page that is written as a whole
pub page-put_whole : (bytes w : List ℕ) (n q : ℕ) → length bytes ≡ 4096 * n → q < n → length w ≡ 4096 → page_at (put bytes (4096 * q) w) q ≡ w
page-put_whole bytes w n q e l k =
    let at : 4096 * q ≡ 4096 * q + 0 = omega arith in
    let size : length (page_at bytes q) ≡ 4096 = length-page bytes n q e l in
    ap (λ a. page_at (put bytes a w) q) at
    ∙ (page-put_same bytes w n q 0 e l (omega arith)
    ∙ put-whole (page_at bytes q) w (omega arith))

pub page-put_whole_other : (bytes w : List ℕ) (n q p : ℕ) → length bytes ≡ 4096 * n → q < n → length w ≡ 4096 → p ≢ q → page_at (put bytes (4096 * q) w) p ≡ page_at bytes p
page-put_whole_other bytes w n q p e l k ne =
    let at : 4096 * q ≡ 4096 * q + 0 = omega arith in
    ap (λ a. page_at (put bytes a w) p) at ∙ page-put_other bytes w n q 0 p e l (omega arith) ne

-- a whole page of a run
pub whole-at : {A : Type 0} (pages : List (Arc (List ℕ) A)) (bytes : List ℕ) (i : ℕ) (d : Arc (List ℕ) A) → ArePages pages → joined pages ≡ take (length bytes / 4096 * 4096) bytes → i < length pages → arc_value (get_or pages i d) ≡ cut (4096 * i) 4096 bytes
whole-at pages bytes i d even is l =
    let size : length (joined pages) ≡ 4096 * length pages = length-pages pages even in
    let front : length (take (length bytes / 4096 * 4096) bytes) ≡ length bytes / 4096 * 4096 = simp length-take (omega arith) in
    let all : 4096 * length pages ≡ length bytes / 4096 * 4096 = omega (arith, ap length is) in
    let at : 4096 * i + 0 ≡ 4096 * i = omega arith in
    let page : length (arc_value (get_or pages i d)) ≡ 4096 = even i d l in
    sym (cut-whole (arc_value (get_or pages i d)) 4096 (omega arith))
    ∙ (sym (cut-joined arc_value 4096 d pages i 0 4096 (λ j k. even j d k) l (omega arith))
    ∙ (ap (cut (4096 * i + 0) 4096) is
    ∙ (cut-take (4096 * i + 0) 4096 (length bytes / 4096 * 4096) bytes (omega arith) (omega arith)
    ∙ ap (λ a. cut a 4096 bytes) at)))

-- and of a list in which the run lies
pub whole-laid : {A : Type 0} (pages : List (Arc (List ℕ) A)) (bytes : List ℕ) (first at n i : ℕ) (d : Arc (List ℕ) A) → ArePages pages → joined pages ≡ take (length bytes / 4096 * 4096) bytes → i < length pages → at ≡ first + 4096 * i → first + length bytes ≤ n → arc_value (get_or pages i d) ≡ cut at 4096 (put (blank n) first bytes)
whole-laid pages bytes first at n i d even is l place inside =
    let size : length (joined pages) ≡ 4096 * length pages = length-pages pages even in
    let front : length (take (length bytes / 4096 * 4096) bytes) ≡ length bytes / 4096 * 4096 = simp length-take (omega arith) in
    let all : 4096 * length pages ≡ length bytes / 4096 * 4096 = omega (arith, ap length is) in
    whole-at pages bytes i d even is l
    ∙ (sym (cut-put_within (blank n) first bytes (4096 * i) 4096 (omega (arith, length-blank n)) (omega arith))
    ∙ ap (λ k. cut k 4096 (put (blank n) first bytes)) (sym place))

-- a page of zeros, of bytes and of zeros, in parts that are the same
pub laid-parts : (x y z bytes : List ℕ) (b f n b' f' m r : ℕ) → x ≡ replicate b 0 → y ≡ cut f m bytes → z ≡ replicate r 0 → b ≡ b' → f ≡ f' → m ≡ n → r ≡ 4096 - b' - n → x ++ (y ++ z) ≡ replicate b' 0 ++ (cut f' n bytes ++ replicate (4096 - b' - n) 0)
laid-parts x y z bytes b f n b' f' m r p q s e g h k = rw (p, q, s, e, g, h, k) refl

-- what stands at a place of a page: before the run, in it, and behind it
place_of-page : (bytes : List ℕ) (first at n m j d : ℕ) → j < m → at + m ≤ n → first + length bytes ≤ n → get_or (take m (drop at (take first (replicate n 0) ++ (bytes ++ drop (first + length bytes) (replicate n 0))))) j d ≡ get_or (take first (replicate n 0) ++ (bytes ++ drop (first + length bytes) (replicate n 0))) (at + j) d
place_of-page bytes first at n m j d k page inside = get_or-take m (drop at (take first (replicate n 0) ++ (bytes ++ drop (first + length bytes) (replicate n 0)))) j d k ∙ get_or-drop at (take first (replicate n 0) ++ (bytes ++ drop (first + length bytes) (replicate n 0))) j d

zero_before : (bytes rest : List ℕ) (first n b j i d : ℕ) → j < b → i < first → first ≤ n → get_or (replicate b 0 ++ rest) j d ≡ get_or (take first (replicate n 0) ++ bytes) i d
zero_before bytes rest first n b j i d l before inside = grind (arith, places)

byte_held : (bytes rest rest' : List ℕ) (first n b f c j i d : ℕ) → b ≤ j → j < b + c → f + c ≤ length bytes → i + b ≡ first + f + j → first ≤ i → first ≤ n → get_or (replicate b 0 ++ (take c (drop f bytes) ++ rest)) j d ≡ get_or (take first (replicate n 0) ++ (bytes ++ rest')) i d
byte_held bytes rest rest' first n b f c j i d low l within same from inside = grind (arith, places)

zero_behind : (bytes : List ℕ) (first n b f c r j i d : ℕ) → b + c ≤ j → j < b + c + r → f + c ≤ length bytes → first + length bytes ≤ i → i < n → get_or (replicate b 0 ++ (take c (drop f bytes) ++ replicate r 0)) j d ≡ get_or (take first (replicate n 0) ++ (bytes ++ drop (first + length bytes) (replicate n 0))) i d
zero_behind bytes first n b f c r j i d low l within past inside = grind (arith, places)

-- a page as it is laid: zeros, what a run has there, and zeros
pub laid : (bytes : List ℕ) (first at n b f c : ℕ) → b ≡ min (first - at) 4096 → f ≡ min (at - first) (length bytes) → c ≡ min (4096 - b) (length bytes - f) → first + length bytes ≤ n → at + 4096 ≤ n → replicate b 0 ++ (cut f c bytes ++ replicate (4096 - b - c) 0) ≡ cut at 4096 (put (blank n) first bytes)
unfolding cut put blank
laid bytes first at n b f c b_is f_is c_is inside page =
    let within : f + c ≤ length bytes = omega arith in
    let full : b + c ≤ 4096 = omega arith in
    let size : length (replicate b 0 ++ (take c (drop f bytes) ++ replicate (4096 - b - c) 0)) ≡ 4096 = simp (length-append, length-take, length-drop, length-replicate) (omega arith) in
    let size' : length (take 4096 (drop at (take first (replicate n 0) ++ (bytes ++ drop (first + length bytes) (replicate n 0))))) ≡ 4096 = simp (length-append, length-take, length-drop, length-replicate) (omega arith) in
    same_lists _ _ (omega arith) (λ j d k. at_place j d (omega arith))
  where
    at_place : (j d : ℕ) → j < 4096 → get_or (replicate b 0 ++ (take c (drop f bytes) ++ replicate (4096 - b - c) 0)) j d ≡ get_or (take 4096 (drop at (take first (replicate n 0) ++ (bytes ++ drop (first + length bytes) (replicate n 0))))) j d
    at_place j d k = by_place (cases_lt j b) (cases_lt j (b + c))
      where
        by_place : (j < b) ⊎ (b ≤ j) → (j < b + c) ⊎ (b + c ≤ j) → get_or (replicate b 0 ++ (take c (drop f bytes) ++ replicate (4096 - b - c) 0)) j d ≡ get_or (take 4096 (drop at (take first (replicate n 0) ++ (bytes ++ drop (first + length bytes) (replicate n 0))))) j d
        by_place (inl l) q = zero_before (bytes ++ drop (first + length bytes) (replicate n 0)) (take c (drop f bytes) ++ replicate (4096 - b - c) 0) first n b j (at + j) d l (omega arith) (omega arith) ∙ sym (place_of-page bytes first at n 4096 j d k page inside)
        by_place (inr low) (inl l) = byte_held bytes (replicate (4096 - b - c) 0) (drop (first + length bytes) (replicate n 0)) first n b f c j (at + j) d low l (omega arith) (omega arith) (omega arith) (omega arith) ∙ sym (place_of-page bytes first at n 4096 j d k page inside)
        by_place (inr low) (inr past) = zero_behind bytes first n b f c (4096 - b - c) j (at + j) d past (omega arith) (omega arith) (omega arith) (omega arith) ∙ sym (place_of-page bytes first at n 4096 j d k page inside)
