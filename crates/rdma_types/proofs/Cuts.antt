-- Parts of a list of bytes, read and written.
use Rattle.std.proofs.Common.{◌≡◌, ℕ, ◌+◌, ◌≤◌, List, [], ◌++◌, length, arith}
use Rattle.std.proofs.lemmas.List.{places, same_lists, length-take, length-drop, length-append, take_all}
use Rattle.rdma_types.specs.Memory.{cut, put}

-- a part inside has the bytes that were asked for
pub length-cut : (place count : ℕ) (bytes : List ℕ) → place + count ≤ length bytes → length (cut place count bytes) ≡ count
unfolding cut
length-cut place count bytes h = simp (length-take, length-drop) (omega arith)

-- bytes written inside leave the length
pub length-put : (bytes : List ℕ) (place : ℕ) (new : List ℕ) → place + length new ≤ length bytes → length (put bytes place new) ≡ length bytes
unfolding put
length-put bytes place new h = simp (length-append, length-take, length-drop) (omega arith)

-- the whole is a part
pub cut-whole : (bytes : List ℕ) (n : ℕ) → length bytes ≤ n → cut 0 n bytes ≡ bytes
unfolding cut
cut-whole bytes n h = take_all n bytes h

-- a part of a part
pub cut-cut : (a n b m : ℕ) (bytes : List ℕ) → a + n ≤ m → b + m ≤ length bytes → cut a n (cut b m bytes) ≡ cut (b + a) n bytes
unfolding cut
cut-cut a n b m bytes h k = same_lists _ _ (simp (length-take, length-drop) (omega arith)) (λ i d l. grind (arith, places))

-- two parts that meet
pub cut-meet : (a n m : ℕ) (bytes : List ℕ) → a + n + m ≤ length bytes → cut a n bytes ++ cut (a + n) m bytes ≡ cut a (n + m) bytes
unfolding cut
cut-meet a n m bytes h = same_lists _ _ (simp (length-append, length-take, length-drop) (omega arith)) (λ i d l. grind (arith, places))

-- bytes written behind bytes written
pub put-meet : (bytes : List ℕ) (a : ℕ) (u v : List ℕ) → a + length u + length v ≤ length bytes → put (put bytes a u) (a + length u) v ≡ put bytes a (u ++ v)
unfolding put
put-meet bytes a u v h = same_lists _ _ (simp (length-append, length-take, length-drop) (omega arith)) (λ i d l. grind (arith, places))

-- no bytes written
pub put-none : (bytes : List ℕ) (a : ℕ) → put bytes a [] ≡ bytes
unfolding put
put-none bytes a = same_lists _ _ (simp (length-append, length-take, length-drop) (omega arith)) (λ i d l. grind (arith, places))

-- a part apart from the bytes written is as it was
pub cut-put_below : (bytes : List ℕ) (a : ℕ) (w : List ℕ) (b n : ℕ) → a + length w ≤ length bytes → b + n ≤ a → cut b n (put bytes a w) ≡ cut b n bytes
unfolding cut put
cut-put_below bytes a w b n h k = same_lists _ _ (simp (length-append, length-take, length-drop) (omega arith)) (λ i d l. grind (arith, places))

pub cut-put_above : (bytes : List ℕ) (a : ℕ) (w : List ℕ) (b n : ℕ) → a + length w ≤ length bytes → a + length w ≤ b → cut b n (put bytes a w) ≡ cut b n bytes
unfolding cut put
cut-put_above bytes a w b n h k = same_lists _ _ (simp (length-append, length-take, length-drop) (omega arith)) (λ i d l. grind (arith, places))

-- a part that holds the bytes written has them
pub cut-put_inside : (bytes : List ℕ) (a : ℕ) (w : List ℕ) (b n : ℕ) → b + n ≤ length bytes → a + length w ≤ n → cut b n (put bytes (b + a) w) ≡ put (cut b n bytes) a w
unfolding cut put
cut-put_inside bytes a w b n h k = same_lists _ _ (simp (length-append, length-take, length-drop) (omega arith)) (λ i d l. grind (arith, places))

-- a part of the middle of three lists
pub cut-middle : (x y z : List ℕ) (off n : ℕ) → off + n ≤ length y → cut (length x + off) n (x ++ (y ++ z)) ≡ cut off n y
unfolding cut
cut-middle x y z off n h = same_lists _ _ (simp (length-append, length-take, length-drop) (omega arith)) (λ i d l. grind (arith, places))

-- bytes written into the middle of three lists
pub put-middle : (x y z : List ℕ) (off : ℕ) (w : List ℕ) → off + length w ≤ length y → put (x ++ (y ++ z)) (length x + off) w ≡ x ++ (put y off w ++ z)
unfolding put
put-middle x y z off w h = same_lists _ _ (simp (length-append, length-take, length-drop) (omega arith)) (λ i d l. grind (arith, places))
