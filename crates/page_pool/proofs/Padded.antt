-- Lists filled up with zeros, and the pages that wait.
use Rattle.std.proofs.Common.{◌≡◌, ℕ, zero, suc, ◌+◌, ◌-◌, ◌<◌, ◌≤◌, ◌≢◌, List, [], ◌∷◌, ◌++◌, length, get_or, set, arith, refl, ap, sym, ◌∙◌, inl, inr}
use Rattle.std.specs.Prelude.{◌⊎◌, replicate}
use Rattle.std.proofs.lemmas.Bool.{cases_lt, cases_eq}
use Rattle.std.proofs.lemmas.List.{length-append, length-replicate, length-set, length_push, get_or_append_left, get_or-append_right, set-append_left, append_assoc, append-nil, replicate-append-replicate}
use Rattle.std.proofs.Math.Seq.{set-append_seam}
use Rattle.std.proofs.lemmas.List.Sums.{sum_by-append}
use Rattle.rdma_types.specs.Memory.{cut, put}
use Rattle.rdma_types.proofs.Cuts.{length-put, cut-middle, put-middle}
use Rattle.page_pool.specs.Store.{padded, later_pages, waiting, times}
use Rattle.page_pool.proofs.Pages.{put-whole}
use Rattle.page_pool.proofs.Counts.{one_if, one_if-same, one_if-other, times-none, times-push}

-- zeros are zeros, also where none stands
abbrev pub zeros : ℕ → List ℕ
zeros n = replicate n 0

pub zero_at : (n i : ℕ) → get_or (zeros n) i 0 ≡ 0
zero_at zero i = refl
zero_at (suc n) zero = refl
zero_at (suc n) (suc i) = zero_at n i

pub padded-none : (n : ℕ) → padded n [] ≡ replicate n 0
unfolding padded
padded-none n = let all : n - 0 ≡ n = omega arith in ap zeros all

pub length-padded : (n : ℕ) (xs : List ℕ) → length xs ≤ n → length (padded n xs) ≡ n
unfolding padded
length-padded n xs h = length-append xs (zeros (n - length xs)) ∙ (ap (λ k. length xs + k) (length-replicate (n - length xs) 0) ∙ rest)
  where
    rest : length xs + (n - length xs) ≡ n
    rest = omega arith

-- what is read in the front
pub padded-at : (n : ℕ) (xs : List ℕ) (i d : ℕ) → i < length xs → get_or (padded n xs) i d ≡ get_or xs i d
unfolding padded
padded-at n xs i d l = get_or_append_left xs (replicate (n - length xs) 0) d i l

-- what is no zero stands in the front
pub in_front : (n : ℕ) (xs : List ℕ) (i : ℕ) → 0 < get_or (padded n xs) i 0 → i < length xs
unfolding padded
in_front n xs i h = by_place (cases_lt i (length xs))
  where
    by_place : (i < length xs) ⊎ (length xs ≤ i) → i < length xs
    by_place (inl l) = l
    by_place (inr l) =
        let none : get_or (xs ++ replicate (n - length xs) 0) i 0 ≡ 0 = get_or-append_right xs (replicate (n - length xs) 0) (length xs) i 0 refl l ∙ zero_at (n - length xs) (i - length xs) in
        absurd (omega arith)

no_more : (a : ℕ) → 0 + a ≡ a
no_more a = omega arith

pub padded-set : (n : ℕ) (xs : List ℕ) (i v : ℕ) → i < length xs → padded n (set xs i v) ≡ set (padded n xs) i v
unfolding padded
padded-set n xs i v l =
    ap (λ k. set xs i v ++ replicate (n - k) 0) (length-set xs i v)
    ∙ sym (set-append_left xs (replicate (n - length xs) 0) i v l)

pub padded-put : (n : ℕ) (xs : List ℕ) (a : ℕ) (w : List ℕ) → a + length w ≤ length xs → padded n (put xs a w) ≡ put (padded n xs) a w
unfolding padded
padded-put n xs a w l =
    ap (λ k. put xs a w ++ replicate (n - k) 0) (length-put xs a w l)
    ∙ (sym (put-middle [] xs (replicate (n - length xs) 0) a w l)
    ∙ ap (λ k. put (xs ++ replicate (n - length xs) 0) k w) (no_more a))

pub padded-cut : (n : ℕ) (xs : List ℕ) (a k : ℕ) → a + k ≤ length xs → cut a k (padded n xs) ≡ cut a k xs
unfolding padded
padded-cut n xs a k l = ap (λ j. cut j k (xs ++ replicate (n - length xs) 0)) (sym (no_more a)) ∙ cut-middle [] xs (replicate (n - length xs) 0) a k l

more_zeros : (xs : List ℕ) (k r m : ℕ) → k + r ≡ m → (xs ++ zeros k) ++ zeros r ≡ xs ++ zeros m
more_zeros xs k r m e = append_assoc xs (zeros k) (zeros r) ∙ ap (λ ys. xs ++ ys) (replicate-append-replicate k r 0 ∙ ap zeros e)

-- zeros behind the front
padded-more : (n : ℕ) (xs : List ℕ) (k : ℕ) → length xs + k ≤ n → padded n (xs ++ replicate k 0) ≡ padded n xs
unfolding padded
padded-more n xs k h =
    let size : length (xs ++ zeros k) ≡ length xs + k = length-append xs (zeros k) ∙ ap (λ m. length xs + m) (length-replicate k 0) in
    more_zeros xs k (n - length (xs ++ zeros k)) (n - length xs) (omega arith)

-- one number more in the front
pub padded-next : (n : ℕ) (xs : List ℕ) (v : ℕ) → length xs < n → padded n (xs ++ v ∷ []) ≡ set (padded n xs) (length xs) v
padded-next n xs v h =
    ap (padded n) (sym (set-append_seam xs 0 [] v))
    ∙ (padded-set n (xs ++ 0 ∷ []) (length xs) v (omega (arith, length_push xs 0))
    ∙ ap (λ ys. set ys (length xs) v) (padded-more n xs 1 (omega arith)))

put_zeros : (xs w : List ℕ) (r m : ℕ) → length w + r ≡ m → put (xs ++ zeros m) (length xs) w ≡ xs ++ (w ++ zeros r)
put_zeros xs w r m e =
    let place : length xs ≡ length xs + 0 = omega arith in
    let size : length (zeros (length w)) ≡ length w = length-replicate (length w) 0 in
    ap (λ k. put (xs ++ zeros m) k w) place
    ∙ (ap (λ ys. put (xs ++ ys) (length xs + 0) w) (ap zeros (sym e) ∙ sym (replicate-append-replicate (length w) r 0))
    ∙ (put-middle xs (zeros (length w)) (zeros r) 0 w (omega arith)
    ∙ ap (λ ys. xs ++ (ys ++ zeros r)) (put-whole (zeros (length w)) w size)))

-- a list more in the front
pub padded-append : (n : ℕ) (xs w : List ℕ) → length xs + length w ≤ n → padded n (xs ++ w) ≡ put (padded n xs) (length xs) w
unfolding padded
padded-append n xs w h =
    let size : length (xs ++ w) ≡ length xs + length w = length-append xs w in
    append_assoc xs w (zeros (n - length (xs ++ w))) ∙ sym (put_zeros xs w (n - length (xs ++ w)) (n - length xs) (omega arith))

-- ---- the pages that are not made

length-later : (first n : ℕ) → length (later_pages first n) ≡ n
unfolding later_pages
length-later first zero = refl
length-later first (suc n) =
    let rest : length (later_pages (suc first) n) ≡ n = length-later (suc first) n in
    let more : length (later_pages (suc first) n ++ first ∷ []) ≡ length (later_pages (suc first) n) + 1 = length_push (later_pages (suc first) n) first in
    omega arith

later-below : (first n q : ℕ) → q < first → times q (later_pages first n) ≡ 0
unfolding later_pages
later-below first zero q l = times-none q
later-below first (suc n) q l =
    let more : times q (later_pages (suc first) n ++ first ∷ []) ≡ times q (later_pages (suc first) n) + one_if first q = times-push q (later_pages (suc first) n) first in
    let rest : times q (later_pages (suc first) n) ≡ 0 = later-below (suc first) n q (omega arith) in
    let none : one_if first q ≡ 0 = one_if-other first q (λ e. absurd (omega arith)) in
    omega arith

pub later-past : (first n q : ℕ) → first + n ≤ q → times q (later_pages first n) ≡ 0
unfolding later_pages
later-past first zero q l = times-none q
later-past first (suc n) q l =
    let more : times q (later_pages (suc first) n ++ first ∷ []) ≡ times q (later_pages (suc first) n) + one_if first q = times-push q (later_pages (suc first) n) first in
    let rest : times q (later_pages (suc first) n) ≡ 0 = later-past (suc first) n q (omega arith) in
    let none : one_if first q ≡ 0 = one_if-other first q (λ e. absurd (omega arith)) in
    omega arith

pub later-in : (first n q : ℕ) → first ≤ q → q < first + n → times q (later_pages first n) ≡ 1
unfolding later_pages
later-in first zero q l h = absurd (omega arith)
later-in first (suc n) q l h = by_place (cases_eq q first) (λ ne. later-in (suc first) n q (omega (arith, ne)) (omega arith))
  where
    more : times q (later_pages (suc first) n ++ first ∷ []) ≡ times q (later_pages (suc first) n) + one_if first q
    more = times-push q (later_pages (suc first) n) first

    by_place : (q ≡ first) ⊎ (q ≢ first) → (q ≢ first → times q (later_pages (suc first) n) ≡ 1) → times q (later_pages first (suc n)) ≡ 1
    by_place (inl e) above =
        let rest : times q (later_pages (suc first) n) ≡ 0 = later-below (suc first) n q (omega arith) in
        let one : one_if first q ≡ 1 = ap (λ x. one_if x q) (sym e) ∙ one_if-same q in
        let both : times q (later_pages (suc first) n) + one_if first q ≡ 1 = omega arith in
        more ∙ both
    by_place (inr ne) above =
        let rest : times q (later_pages (suc first) n) ≡ 1 = above ne in
        let none : one_if first q ≡ 0 = one_if-other first q (λ e. ne (sym e)) in
        let both : times q (later_pages (suc first) n) + one_if first q ≡ 1 = omega arith in
        more ∙ both

-- ---- the pages that wait

pub waiting-push : (hs : List ℕ) (pages : ℕ) (st : List ℕ) (p : ℕ) → waiting hs pages (st ++ p ∷ []) ≡ waiting hs pages st ++ p ∷ []
unfolding waiting
waiting-push hs pages st p = sym (append_assoc (later_pages (length hs) (pages - length hs)) st (p ∷ []))

pub waiting-same : (hs hs' : List ℕ) (pages : ℕ) (st : List ℕ) → length hs ≡ length hs' → waiting hs pages st ≡ waiting hs' pages st
unfolding waiting
waiting-same hs hs' pages st e = ap (λ n. later_pages n (pages - n) ++ st) e

pub length-waiting : (hs : List ℕ) (pages : ℕ) (st : List ℕ) → length (waiting hs pages st) ≡ pages - length hs + length st
unfolding waiting
length-waiting hs pages st = length-append (later_pages (length hs) (pages - length hs)) st ∙ ap (λ n. n + length st) (length-later (length hs) (pages - length hs))

-- one page more is made, with nothing in the stock
pub waiting-next : (hs hs' : List ℕ) (pages : ℕ) → length hs < pages → length hs' ≡ length hs + 1 → waiting hs pages [] ≡ waiting hs' pages [] ++ length hs ∷ []
unfolding waiting later_pages
waiting-next hs hs' pages l e =
    let count : pages - length hs ≡ suc (pages - length hs') = omega arith in
    let next : length hs' ≡ suc (length hs) = omega arith in
    append-nil (later_pages (length hs) (pages - length hs))
    ∙ (ap (λ n. later_pages (length hs) n) count
    ∙ (ap (λ n. later_pages n (pages - length hs') ++ length hs ∷ []) (sym next)
    ∙ ap (λ ys. ys ++ length hs ∷ []) (sym (append-nil (later_pages (length hs') (pages - length hs'))))))

pub times-waiting : (q : ℕ) (hs : List ℕ) (pages : ℕ) (st : List ℕ) → times q (waiting hs pages st) ≡ times q (later_pages (length hs) (pages - length hs)) + times q st
unfolding waiting times
times-waiting q hs pages st = sum_by-append (λ x. one_if x q) (later_pages (length hs) (pages - length hs)) st
