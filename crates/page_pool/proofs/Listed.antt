-- The pages of a list: their numbers, and their bytes.
use Rattle.std.proofs.Common.{◌≡◌, ℕ, zero, suc, ◌+◌, ◌*◌, ◌<◌, ◌≤◌, ◌≢◌, List, [], ◌∷◌, ◌++◌, length, take, drop, get_or, set, arith, refl, ap, ◌∙◌}
use Rattle.std.specs.Prelude.{All, sum_by}
use Rattle.std.specs.List.{AllZip, flat_map}
use Rattle.std.proofs.lemmas.List.{get_or_default}
use Rattle.std.proofs.lemmas.List.Concat.{length-flat_map}
use Rattle.std.proofs.lemmas.List.Elements.{All-cons, All-head, All-tail}
use Rattle.std.proofs.lemmas.List.Sums.{sum_by-cons, sum_by-append, sum_by-set, get_or-le-sum_by, sum_by-le-sum_by, sum_by-take-le, sum_by-take-drop}
use Rattle.page_pool.specs.Store.{times}
use Rattle.page_pool.specs.Ledger.{IsSamePage, IsWholePage, own_number, own_numbers, page_at, page_bytes}
use Rattle.page_pool.specs.declared.page.Page.{Page}
use Rattle.page_pool.specs.declared.page.Page.TheVariants.{Own, Shared}
use Rattle.page_pool.proofs.Counts.{one_if, times-none, times-there}
use Rattle.page_pool.proofs.Pages.{length-page}
use Rattle.page_pool.proofs.Steps.{inside}
use Rattle.page_pool.proofs.Owned.{length-own}

module _ {X : Type 0} where
  -- two places of a list count no more than all
  pub two-places : (f : X → ℕ) (xs : List X) (i j : ℕ) (d : X) → j ≢ i → i < length xs → j < length xs → f (get_or xs i d) + f (get_or xs j d) ≤ sum_by f xs
  two-places f [] i j d n k l = absurd (omega arith)
  two-places f (x ∷ xs) zero zero d n k l = absurd (n refl)
  two-places f (x ∷ xs) zero (suc j) d n k l =
      let c : sum_by f (x ∷ xs) ≡ f x + sum_by f xs = sum_by-cons f x xs in
      let one : f (get_or xs j d) ≤ sum_by f xs = get_or-le-sum_by f xs j d (omega arith) in
      omega arith
  two-places f (x ∷ xs) (suc i) zero d n k l =
      let c : sum_by f (x ∷ xs) ≡ f x + sum_by f xs = sum_by-cons f x xs in
      let one : f (get_or xs i d) ≤ sum_by f xs = get_or-le-sum_by f xs i d (omega arith) in
      omega arith
  two-places f (x ∷ xs) (suc i) (suc j) d n k l =
      let c : sum_by f (x ∷ xs) ≡ f x + sum_by f xs = sum_by-cons f x xs in
      let both : f (get_or xs i d) + f (get_or xs j d) ≤ sum_by f xs = two-places f xs i j d (λ e. n (ap suc e)) (omega arith) (omega arith) in
      omega arith

  -- what two counts differ by at one place is no more than what they differ by in all
  pub spare-place : (f g : X → ℕ) (xs : List X) (i : ℕ) (d : X) → ((x : X) → f x ≤ g x) → i < length xs → sum_by f xs + g (get_or xs i d) ≤ sum_by g xs + f (get_or xs i d)
  spare-place f g [] i d h l = absurd (omega arith)
  spare-place f g (x ∷ xs) zero d h l =
      let c : sum_by f (x ∷ xs) ≡ f x + sum_by f xs = sum_by-cons f x xs in
      let e : sum_by g (x ∷ xs) ≡ g x + sum_by g xs = sum_by-cons g x xs in
      let rest : sum_by f xs ≤ sum_by g xs = sum_by-le-sum_by f g xs h in
      omega arith
  spare-place f g (x ∷ xs) (suc i) d h l =
      let c : sum_by f (x ∷ xs) ≡ f x + sum_by f xs = sum_by-cons f x xs in
      let e : sum_by g (x ∷ xs) ≡ g x + sum_by g xs = sum_by-cons g x xs in
      let first : f x ≤ g x = h x in
      let rest : sum_by f xs + g (get_or xs i d) ≤ sum_by g xs + f (get_or xs i d) = spare-place f g xs i d h (omega arith) in
      omega arith

  length-ones : (xs : List X) → sum_by (λ x. 1) xs ≡ length xs
  length-ones [] = refl
  length-ones (x ∷ xs) =
      let c : sum_by (λ x. 1) (x ∷ xs) ≡ 1 + sum_by (λ x. 1) xs = sum_by-cons (λ x. 1) x xs in
      let rest : sum_by (λ x. 1) xs ≡ length xs = length-ones xs in
      omega arith

-- ---- the numbers

times-owned : (n : ℕ) (ps : List Page) → times n (own_numbers ps) ≡ sum_by (λ p. times n (own_number p)) ps
unfolding own_numbers times
times-owned n [] = refl
times-owned n (p ∷ ps) =
    let c : sum_by (λ p. times n (own_number p)) (p ∷ ps) ≡ times n (own_number p) + sum_by (λ p. times n (own_number p)) ps = sum_by-cons (λ p. times n (own_number p)) p ps in
    let both : times n (own_number p ++ own_numbers ps) ≡ times n (own_number p) + times n (own_numbers ps) = sum_by-append (λ q. one_if q n) (own_number p) (own_numbers ps) in
    let rest : times n (own_numbers ps) ≡ sum_by (λ p. times n (own_number p)) ps = times-owned n ps in
    omega arith

length-owned : (ps : List Page) → length (own_numbers ps) ≡ sum_by (λ p. length (own_number p)) ps
unfolding own_numbers
length-owned ps = length-flat_map own_number ps

-- no more numbers than pages
pub owned-few : (ps : List Page) → length (own_numbers ps) ≤ length ps
owned-few ps = omega (arith, length-owned ps, length-ones ps, sum_by-le-sum_by (λ p. length (own_number p)) (λ p. 1) ps length-own)

pub owned-spare : (ps : List Page) (i : ℕ) (d : Page) → i < length ps → length (own_numbers ps) + 1 ≤ length ps + length (own_number (get_or ps i d))
owned-spare ps i d l = omega (arith, length-owned ps, length-ones ps, spare-place (λ p. length (own_number p)) (λ p. 1) ps i d length-own l)

pub times-none_owned : (n : ℕ) → times n (own_numbers []) ≡ 0
unfolding own_numbers
times-none_owned n = times-none n

pub length-none_owned : length (own_numbers []) ≡ 0
unfolding own_numbers
length-none_owned = refl

-- a page of a list set
pub times-owned_set : (n : ℕ) (ps : List Page) (i : ℕ) (q d : Page) → i < length ps → times n (own_numbers (set ps i q)) + times n (own_number (get_or ps i d)) ≡ times n (own_numbers ps) + times n (own_number q)
times-owned_set n ps i q d l = omega (arith, times-owned n (set ps i q), times-owned n ps, sum_by-set (λ p. times n (own_number p)) ps i q d l)

pub length-owned_set : (ps : List Page) (i : ℕ) (q d : Page) → i < length ps → length (own_numbers (set ps i q)) + length (own_number (get_or ps i d)) ≡ length (own_numbers ps) + length (own_number q)
length-owned_set ps i q d l = omega (arith, length-owned (set ps i q), length-owned ps, sum_by-set (λ p. length (own_number p)) ps i q d l)

-- a page of a list
pub times-part : (n : ℕ) (ps : List Page) (i : ℕ) (d : Page) → i < length ps → times n (own_number (get_or ps i d)) ≤ times n (own_numbers ps)
times-part n ps i d l = omega (arith, times-owned n ps, get_or-le-sum_by (λ p. times n (own_number p)) ps i d l)

-- some pages of a list in a row
pub times-row : (n first count : ℕ) (ps : List Page) → times n (own_numbers (take count (drop first ps))) ≤ times n (own_numbers ps)
times-row n first count ps = omega (arith, times-owned n (take count (drop first ps)), times-owned n ps, sum_by-take-le (λ p. times n (own_number p)) (drop first ps) count, sum_by-take-drop (λ p. times n (own_number p)) ps first)

-- two pages of a list
pub times-parts : (n : ℕ) (ps : List Page) (i j : ℕ) (d : Page) → j ≢ i → i < length ps → j < length ps → times n (own_number (get_or ps i d)) + times n (own_number (get_or ps j d)) ≤ times n (own_numbers ps)
times-parts n ps i j d ne k l = omega (arith, times-owned n ps, two-places (λ p. times n (own_number p)) ps i j d ne k l)

-- numbers that are counted are held
pub all-held : (hs ns : List ℕ) → ((n : ℕ) → times n ns ≤ get_or hs n 0) → All (λ n. 0 < get_or hs n 0) ns
all-held hs ns h k d l =
    let one : 0 < times (get_or ns k 0) ns = times-there ns k l in
    let at : get_or ns k d ≡ get_or ns k 0 = get_or_default ns k d 0 l in
    omega (arith, h (get_or ns k 0), ap (λ n. get_or hs n 0) at)

-- ---- the bytes

-- a page has 4,096 bytes
pub length-page_bytes : (bytes hs : List ℕ) (p : Page) → length bytes ≡ 4096 * length hs → IsWholePage p → All (λ n. 0 < get_or hs n 0) (own_number p) → length (page_bytes bytes p) ≡ 4096
length-page_bytes bytes hs (Own number) size whole held = length-page bytes (length hs) number size (inside hs number (held 0 0 (omega arith)))
length-page_bytes bytes hs (Shared page) size whole held = whole

-- ---- pages that are the same, one by one

same-number : (p q : Page) → IsSamePage p q → own_number q ≡ own_number p
same-number (Own n) (Own m) e = ap (λ k. k ∷ []) e
same-number (Own n) (Shared b) e = absurd e
same-number (Shared a) (Own m) e = absurd e
same-number (Shared a) (Shared b) e = refl

same-bytes : (bytes : List ℕ) (p q : Page) → IsSamePage p q → page_bytes bytes q ≡ page_bytes bytes p
same-bytes bytes (Own n) (Own m) e = ap (page_at bytes) e
same-bytes bytes (Own n) (Shared b) e = absurd e
same-bytes bytes (Shared a) (Own m) e = absurd e
same-bytes bytes (Shared a) (Shared b) e = e

same-whole : (p q : Page) → IsSamePage p q → IsWholePage p → IsWholePage q
same-whole (Own n) (Own m) e w = tt
same-whole (Own n) (Shared b) e w = absurd e
same-whole (Shared a) (Own m) e w = absurd e
same-whole (Shared a) (Shared b) e w = ap length e ∙ w

pub same-numbers : (ps qs : List Page) → AllZip IsSamePage ps qs → own_numbers qs ≡ own_numbers ps
unfolding own_numbers
same-numbers [] [] h = refl
same-numbers [] (q ∷ qs) h = absurd h
same-numbers (p ∷ ps) [] h = absurd h
same-numbers (p ∷ ps) (q ∷ qs) h = ap (λ x. x ++ own_numbers qs) (same-number p q h.0) ∙ ap (λ y. own_number p ++ y) (same-numbers ps qs h.1)

pub same-length : (ps qs : List Page) → AllZip IsSamePage ps qs → length qs ≡ length ps
same-length [] [] h = refl
same-length [] (q ∷ qs) h = absurd h
same-length (p ∷ ps) [] h = absurd h
same-length (p ∷ ps) (q ∷ qs) h = ap suc (same-length ps qs h.1)

pub same-all_bytes : (bytes : List ℕ) (ps qs : List Page) → AllZip IsSamePage ps qs → flat_map (page_bytes bytes) qs ≡ flat_map (page_bytes bytes) ps
same-all_bytes bytes [] [] h = refl
same-all_bytes bytes [] (q ∷ qs) h = absurd h
same-all_bytes bytes (p ∷ ps) [] h = absurd h
same-all_bytes bytes (p ∷ ps) (q ∷ qs) h = ap (λ x. x ++ flat_map (page_bytes bytes) qs) (same-bytes bytes p q h.0) ∙ ap (λ y. page_bytes bytes p ++ y) (same-all_bytes bytes ps qs h.1)

pub same-all_whole : (ps qs : List Page) → AllZip IsSamePage ps qs → All IsWholePage ps → All IsWholePage qs
same-all_whole [] [] h w = w
same-all_whole [] (q ∷ qs) h w = absurd h
same-all_whole (p ∷ ps) [] h w = absurd h
same-all_whole (p ∷ ps) (q ∷ qs) h w = All-cons IsWholePage q qs (same-whole p q h.0 (All-head IsWholePage p ps w)) (same-all_whole ps qs h.1 (All-tail IsWholePage p ps w))
