-- Bytes that are put among others, and bytes that are cut out beside them or where they were put.
use Rattle.std.proofs.Common.{arith, ◌≡◌, ℕ, zero, suc, ◌+◌, ◌≤◌, List, [], ◌∷◌, ◌++◌, length, take, drop, refl, sym, ap, ◌∙◌, append_assoc, length-append, length-take}
use Rattle.std.proofs.lemmas.Slice.{drop-append-drop}
use Rattle.rdma_types.specs.Memory.{cut, put}

front_stays : (a n b : ℕ) (xs rest : List ℕ) → a + n ≤ b → b ≤ length xs → take n (drop a (take b xs ++ rest)) ≡ take n (drop a xs)
front_stays zero zero b xs rest h k = refl
front_stays zero (suc n) zero xs rest h k = absurd (omega arith)
front_stays zero (suc n) (suc b) [] rest h k = absurd (omega arith)
front_stays zero (suc n) (suc b) (x ∷ xs) rest h k = ap (λ (l : List ℕ). x ∷ l) (front_stays zero n b xs rest (omega arith) (omega arith))
front_stays (suc a) n zero xs rest h k = absurd (omega arith)
front_stays (suc a) n (suc b) [] rest h k = absurd (omega arith)
front_stays (suc a) n (suc b) (x ∷ xs) rest h k = front_stays a n b xs rest (omega arith) (omega arith)

-- what lies before stays
pub cut_before : (xs : List ℕ) (a n b : ℕ) (new : List ℕ) → a + n ≤ b → b ≤ length xs → cut a n (put xs b new) ≡ cut a n xs
unfolding cut put
cut_before xs a n b new h k = front_stays a n b xs (new ++ drop (b + length new) xs) h k

-- what lies behind stays
pub cut_behind : (xs : List ℕ) (a n b : ℕ) (new : List ℕ) → b + length new ≤ a → b ≤ length xs → cut a n (put xs b new) ≡ cut a n xs
unfolding cut put
cut_behind xs a n b new h k =
    let long : length (take b xs ++ new) ≡ b + length new = simp (length-append, length-take) (omega arith) in
    ap (λ (l : List ℕ). take n (drop a l)) (sym (append_assoc (take b xs) new (drop (b + length new) xs)))
    ∙ ap (take n) (drop-append-drop (b + length new) xs (take b xs ++ new) a h long)

front_is : (n : ℕ) (new rest : List ℕ) → n ≡ length new → take n (new ++ rest) ≡ new
front_is zero [] rest e = refl
front_is (suc n) [] rest e = absurd (omega arith)
front_is zero (x ∷ new) rest e = absurd (omega arith)
front_is (suc n) (x ∷ new) rest e = ap (λ (l : List ℕ). x ∷ l) (front_is n new rest (omega arith))

joined : (a k b n : ℕ) (xs new rest : List ℕ) → b ≡ a + k → n ≡ k + length new → b ≤ length xs → take n (drop a (take b xs ++ (new ++ rest))) ≡ take k (drop a xs) ++ new
joined zero zero zero n xs new rest e f h = front_is n new rest (omega arith)
joined zero zero (suc b) n xs new rest e f h = absurd (omega arith)
joined zero (suc k) zero n xs new rest e f h = absurd (omega arith)
joined zero (suc k) (suc b) n [] new rest e f h = absurd (omega arith)
joined zero (suc k) (suc b) zero (x ∷ xs) new rest e f h = absurd (omega arith)
joined zero (suc k) (suc b) (suc n) (x ∷ xs) new rest e f h = ap (λ (l : List ℕ). x ∷ l) (joined zero k b n xs new rest (omega arith) (omega arith) (omega arith))
joined (suc a) k zero n xs new rest e f h = absurd (omega arith)
joined (suc a) k (suc b) n [] new rest e f h = absurd (omega arith)
joined (suc a) k (suc b) n (x ∷ xs) new rest e f h = joined a k b n xs new rest (omega arith) f (omega arith)

-- bytes that are put behind others are cut out with them
pub cut_joined : (xs : List ℕ) (a k : ℕ) (new : List ℕ) → a + k ≤ length xs → cut a (k + length new) (put xs (a + k) new) ≡ cut a k xs ++ new
unfolding cut put
cut_joined xs a k new h = joined a k (a + k) (k + length new) xs new (drop (a + k + length new) xs) refl refl h

-- nothing is cut out
pub cut_nothing : (a : ℕ) (xs : List ℕ) → cut a 0 xs ≡ []
unfolding cut
cut_nothing a xs = refl

take_parts : (k n m : ℕ) (xs : List ℕ) → m ≡ k + n → take m xs ≡ take k xs ++ take n (drop k xs)
take_parts zero n m xs e = let same : m ≡ n = omega arith in ap (λ (x : ℕ). take x xs) same
take_parts (suc k) n zero xs e = absurd (omega arith)
take_parts (suc k) zero (suc m) [] e = refl
take_parts (suc k) (suc n) (suc m) [] e = refl
take_parts (suc k) n (suc m) (x ∷ xs) e = ap (λ (l : List ℕ). x ∷ l) (take_parts k n m xs (omega arith))

-- the first bytes, and those behind them
pub take_more_of : (k n : ℕ) (xs : List ℕ) → take (k + n) xs ≡ take k xs ++ cut k n xs
unfolding cut
take_more_of k n xs = take_parts k n (k + n) xs refl

-- all of them
pub take_whole : (n : ℕ) (xs : List ℕ) → length xs ≤ n → take n xs ≡ xs
take_whole zero [] h = refl
take_whole (suc n) [] h = refl
take_whole zero (x ∷ xs) h = absurd (omega arith)
take_whole (suc n) (x ∷ xs) h = ap (λ (l : List ℕ). x ∷ l) (take_whole n xs (omega arith))

within : (off n m : ℕ) (xs : List ℕ) → off + n ≤ m → take n (drop off (take m xs)) ≡ take n (drop off xs)
within zero zero m xs h = refl
within zero (suc n) zero xs h = absurd (omega arith)
within zero (suc n) (suc m) [] h = refl
within zero (suc n) (suc m) (x ∷ xs) h = ap (λ (l : List ℕ). x ∷ l) (within zero n m xs (omega arith))
within (suc off) n zero xs h = absurd (omega arith)
within (suc off) n (suc m) [] h = refl
within (suc off) n (suc m) (x ∷ xs) h = within off n m xs (omega arith)

drop_parts : (a off k : ℕ) (xs : List ℕ) → k ≡ a + off → drop k xs ≡ drop off (drop a xs)
drop_parts zero off k xs e = let same : k ≡ off = omega arith in ap (λ (x : ℕ). drop x xs) same
drop_parts (suc a) off zero xs e = absurd (omega arith)
drop_parts (suc a) zero (suc k) [] e = refl
drop_parts (suc a) (suc off) (suc k) [] e = refl
drop_parts (suc a) off (suc k) (x ∷ xs) e = drop_parts a off k xs (omega arith)

-- a piece of what was cut out is a piece of all
pub cut_within : (a off n m : ℕ) (xs : List ℕ) → off + n ≤ m → cut (a + off) n xs ≡ cut off n (cut a m xs)
unfolding cut
cut_within a off n m xs h = ap (take n) (drop_parts a off (a + off) xs refl) ∙ sym (within off n m (drop a xs) h)
