-- Pages of one size, joined.
use Rattle.std.proofs.Common.{◌≡◌, ℕ, zero, suc, ◌+◌, ◌*◌, ◌<◌, ◌≤◌, ◌≢◌, List, [], ◌∷◌, ◌++◌, length, take, drop, get_or, arith, refl, ap, sym, ◌∙◌}
use Rattle.std.specs.List.{flat_map}
use Rattle.std.proofs.lemmas.List.{take-append-drop, length-take, length-drop, length-append, append_assoc, get_or-take, get_or-drop}
use Rattle.std.proofs.lemmas.List.Concat.{flat_map-append}
use Rattle.rdma_types.specs.Memory.{cut, put}
use Rattle.rdma_types.proofs.Cuts.{cut-middle, cut-whole, put-middle}

module _ {X : Type 0} where
  -- each page has so many bytes
  abbrev pub AreEven : (X → List ℕ) → ℕ → X → List X → Type 0
  AreEven f c d xs = (i : ℕ) → i < length xs → length (f (get_or xs i d)) ≡ c

  -- so many bytes in all
  pub length-joined : (f : X → List ℕ) (c : ℕ) (d : X) (xs : List X) → AreEven f c d xs → length (flat_map f xs) ≡ c * length xs
  length-joined f c d [] h = omega arith
  length-joined f c d (x ∷ xs) h =
      let first : length (f x) ≡ c = h zero (omega arith) in
      let rest : length (flat_map f xs) ≡ c * length xs = length-joined f c d xs (λ i l. h (suc i) (omega arith)) in
      simp length-append (omega arith)

  -- what stands before a page, the page, and what stands behind it
  pub joined-at : (f : X → List ℕ) (d : X) (xs : List X) (i : ℕ) → i < length xs → flat_map f xs ≡ flat_map f (take i xs) ++ (f (get_or xs i d) ++ flat_map f (drop (suc i) xs))
  joined-at f d [] i h = absurd (omega arith)
  joined-at f d (x ∷ xs) zero h = refl
  joined-at f d (x ∷ xs) (suc i) h = rw (joined-at f d xs i (omega arith)) (sym (append_assoc (f x) (flat_map f (take i xs)) (f (get_or xs i d) ++ flat_map f (drop (suc i) xs))))

  -- so many bytes stand before a page
  pub length-before : (f : X → List ℕ) (c : ℕ) (d : X) (xs : List X) (i : ℕ) → AreEven f c d xs → i ≤ length xs → length (flat_map f (take i xs)) ≡ c * i
  length-before f c d xs zero h l = omega arith
  length-before f c d [] (suc i) h l = absurd (omega arith)
  length-before f c d (x ∷ xs) (suc i) h l =
      let first : length (f x) ≡ c = h zero (omega arith) in
      let rest : length (flat_map f (take i xs)) ≡ c * i = length-before f c d xs i (λ j k. h (suc j) (omega arith)) (omega arith) in
      simp length-append (omega arith)

  -- a part of one page
  pub cut-joined : (f : X → List ℕ) (c : ℕ) (d : X) (xs : List X) (i off n : ℕ) → AreEven f c d xs → i < length xs → off + n ≤ c → cut (c * i + off) n (flat_map f xs) ≡ cut off n (f (get_or xs i d))
  cut-joined f c d xs i off n h l k =
      let before : length (flat_map f (take i xs)) ≡ c * i = length-before f c d xs i h (omega arith) in
      let here : length (f (get_or xs i d)) ≡ c = h i l in
      rw (joined-at f d xs i l, ← before) (cut-middle (flat_map f (take i xs)) (f (get_or xs i d)) (flat_map f (drop (suc i) xs)) off n (omega arith))

module _ {X Y : Type 0} where
  -- pages that are the same, one by one, are the same joined
  pub joined-same : (f : X → List ℕ) (g : Y → List ℕ) (d : X) (e : Y) (xs : List X) (ys : List Y) → length ys ≡ length xs → ((i : ℕ) → i < length xs → g (get_or ys i e) ≡ f (get_or xs i d)) → flat_map g ys ≡ flat_map f xs
  joined-same f g d e [] [] l h = refl
  joined-same f g d e [] (y ∷ ys) l h = absurd (omega arith)
  joined-same f g d e (x ∷ xs) [] l h = absurd (omega arith)
  joined-same f g d e (x ∷ xs) (y ∷ ys) l h =
      let first : g y ≡ f x = h zero (omega arith) in
      let rest : flat_map g ys ≡ flat_map f xs = joined-same f g d e xs ys (omega arith) (λ i k. h (suc i) (omega arith)) in
      cc

  -- bytes written in one page
  pub put-joined : (f : X → List ℕ) (g : Y → List ℕ) (c : ℕ) (d : X) (e : Y) (xs : List X) (ys : List Y) (i off : ℕ) (w : List ℕ) → AreEven f c d xs → i < length xs → off + length w ≤ c → length ys ≡ length xs → g (get_or ys i e) ≡ put (f (get_or xs i d)) off w → ((j : ℕ) → j < length xs → j ≢ i → g (get_or ys j e) ≡ f (get_or xs j d)) → flat_map g ys ≡ put (flat_map f xs) (c * i + off) w
  put-joined f g c d e xs ys i off w h l k len here others =
      let before : length (flat_map f (take i xs)) ≡ c * i = length-before f c d xs i h (omega arith) in
      let page : length (f (get_or xs i d)) ≡ c = h i l in
      let front : flat_map g (take i ys) ≡ flat_map f (take i xs) = joined-same f g d e (take i xs) (take i ys) (simp length-take (omega arith)) (λ j m. at_front j m) in
      let back : flat_map g (drop (suc i) ys) ≡ flat_map f (drop (suc i) xs) = joined-same f g d e (drop (suc i) xs) (drop (suc i) ys) (simp length-drop (omega arith)) (λ j m. at_back j m) in
      rw (joined-at f d xs i l, joined-at g e ys i (omega arith), here, front, back, ← before)
      (sym (put-middle (flat_map f (take i xs)) (f (get_or xs i d)) (flat_map f (drop (suc i) xs)) off w (omega arith)))
    where
      at_front : (j : ℕ) → j < length (take i xs) → g (get_or (take i ys) j e) ≡ f (get_or (take i xs) j d)
      at_front j m =
          let b : j < i = omega (arith, length-take {A = X}) in
          let n : j ≢ i = omega arith in
          let o : g (get_or ys j e) ≡ f (get_or xs j d) = others j (omega arith) n in
          rw (get_or-take i ys j e b, get_or-take i xs j d b) o

      at_back : (j : ℕ) → j < length (drop (suc i) xs) → g (get_or (drop (suc i) ys) j e) ≡ f (get_or (drop (suc i) xs) j d)
      at_back j m =
          let b : suc i + j < length xs = omega (arith, length-drop {A = X}) in
          let n : suc i + j ≢ i = omega arith in
          rw (get_or-drop (suc i) ys j e, get_or-drop (suc i) xs j d) (others (suc i + j) b n)

module _ {X : Type 0} where
  even-part : (f : X → List ℕ) (c : ℕ) (d : X) (xs : List X) (a n : ℕ) → AreEven f c d xs → a + n ≤ length xs → AreEven f c d (take n (drop a xs))
  even-part f c d xs a n h l i k =
      let size : length (take n (drop a xs)) ≡ n = simp (length-take, length-drop) (omega arith) in
      let below : i < n = omega arith in
      ap (λ x. length (f x)) (get_or-take n (drop a xs) i d below ∙ get_or-drop a xs i d) ∙ h (a + i) (omega arith)

  -- some pages in a row
  pub joined-part : (f : X → List ℕ) (c : ℕ) (d : X) (xs : List X) (a n : ℕ) → AreEven f c d xs → a + n ≤ length xs → flat_map f (take n (drop a xs)) ≡ cut (c * a) (c * n) (flat_map f xs)
  joined-part f c d xs a n h l =
      let before : length (flat_map f (take a xs)) ≡ c * a = length-before f c d xs a h (omega arith) in
      let size : length (take n (drop a xs)) ≡ n = simp (length-take, length-drop) (omega arith) in
      let part : length (flat_map f (take n (drop a xs))) ≡ c * n = length-joined f c d (take n (drop a xs)) (even-part f c d xs a n h l) ∙ ap (λ k. c * k) size in
      let whole : flat_map f xs ≡ flat_map f (take a xs) ++ (flat_map f (take n (drop a xs)) ++ flat_map f (drop n (drop a xs))) =
      ap (flat_map f) (sym (take-append-drop a xs)) ∙ (flat_map-append f (take a xs) (drop a xs) ∙ ap (λ ys. flat_map f (take a xs) ++ ys) (ap (flat_map f) (sym (take-append-drop n (drop a xs))) ∙ flat_map-append f (take n (drop a xs)) (drop n (drop a xs)))) in
      let at : c * a ≡ length (flat_map f (take a xs)) + 0 = omega arith in
      sym (ap (λ k. cut k (c * n) (flat_map f xs)) at
      ∙ (ap (cut (length (flat_map f (take a xs)) + 0) (c * n)) whole
      ∙ (cut-middle (flat_map f (take a xs)) (flat_map f (take n (drop a xs))) (flat_map f (drop n (drop a xs))) 0 (c * n) (omega arith)
      ∙ cut-whole (flat_map f (take n (drop a xs))) (c * n) (omega arith))))
