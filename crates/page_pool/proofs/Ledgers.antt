-- What a ledger says of its lists, and what a change of one list leaves.
use Rattle.std.proofs.Common.{◌≡◌, ℕ, zero, suc, subst, ◌+◌, ◌*◌, ◌<◌, ◌≤◌, ◌≢◌, List, [], ◌∷◌, length, get_or, map, sum, arith, refl, ap, sym, ◌∙◌, inl, inr}
use Rattle.std.specs.Prelude.{◌⊎◌, All, Option, Some, None, sum_by, unwrap_or, Result, Ok, Err, IsErrOf, ◌↔◌}
use Rattle.std.specs.Result.{IsErrAnd}
use Rattle.std.specs.List.{flat_map}
use Rattle.std.specs.declared.vec.Vec.{Vec}
use Rattle.std.specs.declared.alloc.Global.{Global}
use Rattle.std.proofs.lemmas.Bool.{cases_lt, cases_eq}
use Rattle.std.proofs.lemmas.List.{get_or_past}
use Rattle.std.proofs.lemmas.List.Elements.{All-nil}
use Rattle.std.proofs.lemmas.List.Sums.{sum_by-cons, get_or-le-sum_by, sum_by-le-sum_by}
use Rattle.byte_run.proofs.Joined.{AreEven, length-joined}
use Rattle.page_pool.specs.Store.{Store, IsSound, times}
use Rattle.page_pool.specs.Pool.{Pool, Puts, bytes_of, bytes_in, pages_of, held_pages, free_pages}
use Rattle.page_pool.specs.Ledger.{IsLedger, IsPool, IsWholePage, slot, pages, own_number, own_numbers, shown, held_by, in_all, own_in_all, pool_of, page_at, page_bytes}
use Rattle.page_pool.specs.declared.page.Page.{Page}
use Rattle.page_pool.specs.declared.page.Page.TheVariants.{Own}
use Rattle.page_pool.specs.declared.PoolFault.TheVariants.{NoPage, OutOfMemory}
use Rattle.page_pool.specs.declared.PoolFault.{PoolFault}
use Rattle.page_pool.proofs.Owned.{bytes-kept}
use Rattle.page_pool.proofs.Listed.{all-held, length-none_owned, length-page_bytes, owned-few, times-none_owned, times-part}

module _ {X : Type 0} where
  -- sums over slots that hold the same
  sum-same : (f : Option X → ℕ) (xs ys : List (Option X)) → f None ≡ 0 → ((j : ℕ) → get_or ys j None ≡ get_or xs j None) → sum_by f ys ≡ sum_by f xs
  sum-same f [] [] z h = refl
  sum-same f [] (y ∷ ys) z h =
      let c : sum_by f (y ∷ ys) ≡ f y + sum_by f ys = sum_by-cons f y ys in
      let y_is : f y ≡ 0 = ap f (h zero) ∙ z in
      let rest : sum_by f ys ≡ 0 = sum-same f [] ys z (λ j. h (suc j)) in
      omega arith
  sum-same f (x ∷ xs) [] z h =
      let c : sum_by f (x ∷ xs) ≡ f x + sum_by f xs = sum_by-cons f x xs in
      let x_is : f x ≡ 0 = ap f (sym (h zero)) ∙ z in
      let rest : 0 ≡ sum_by f xs = sum-same f xs [] z (λ j. h (suc j)) in
      omega arith
  sum-same f (x ∷ xs) (y ∷ ys) z h =
      let c : sum_by f (x ∷ xs) ≡ f x + sum_by f xs = sum_by-cons f x xs in
      let d : sum_by f (y ∷ ys) ≡ f y + sum_by f ys = sum_by-cons f y ys in
      let same : f y ≡ f x = ap f (h zero) in
      let rest : sum_by f ys ≡ sum_by f xs = sum-same f xs ys z (λ j. h (suc j)) in
      omega arith

  -- a sum over slots of which one is changed
  pub sum-changed : (f : Option X → ℕ) (xs ys : List (Option X)) (k : ℕ) → f None ≡ 0 → ((j : ℕ) → j ≢ k → get_or ys j None ≡ get_or xs j None) → sum_by f ys + f (get_or xs k None) ≡ sum_by f xs + f (get_or ys k None)
  sum-changed f [] [] k z h = omega arith
  sum-changed f [] (y ∷ ys) zero z h =
      let c : sum_by f (y ∷ ys) ≡ f y + sum_by f ys = sum_by-cons f y ys in
      let rest : sum_by f ys ≡ 0 = sum-same f [] ys z (λ j. h (suc j) (λ e. absurd (omega arith))) in
      omega arith
  sum-changed f [] (y ∷ ys) (suc k) z h =
      let c : sum_by f (y ∷ ys) ≡ f y + sum_by f ys = sum_by-cons f y ys in
      let y_is : f y ≡ 0 = ap f (h zero (λ e. absurd (omega arith))) ∙ z in
      let rest : sum_by f ys + f None ≡ 0 + f (get_or ys k None) = sum-changed f [] ys k z (λ j n. h (suc j) (λ e. n (omega arith))) in
      omega arith
  sum-changed f (x ∷ xs) [] zero z h =
      let c : sum_by f (x ∷ xs) ≡ f x + sum_by f xs = sum_by-cons f x xs in
      let rest : 0 ≡ sum_by f xs = sum-same f xs [] z (λ j. h (suc j) (λ e. absurd (omega arith))) in
      omega arith
  sum-changed f (x ∷ xs) [] (suc k) z h =
      let c : sum_by f (x ∷ xs) ≡ f x + sum_by f xs = sum_by-cons f x xs in
      let x_is : f x ≡ 0 = ap f (sym (h zero (λ e. absurd (omega arith)))) ∙ z in
      let rest : 0 + f (get_or xs k None) ≡ sum_by f xs + f None = sum-changed f xs [] k z (λ j n. h (suc j) (λ e. n (omega arith))) in
      omega arith
  sum-changed f (x ∷ xs) (y ∷ ys) zero z h =
      let c : sum_by f (x ∷ xs) ≡ f x + sum_by f xs = sum_by-cons f x xs in
      let d : sum_by f (y ∷ ys) ≡ f y + sum_by f ys = sum_by-cons f y ys in
      let rest : sum_by f ys ≡ sum_by f xs = sum-same f xs ys z (λ j. h (suc j) (λ e. absurd (omega arith))) in
      omega arith
  sum-changed f (x ∷ xs) (y ∷ ys) (suc k) z h =
      let c : sum_by f (x ∷ xs) ≡ f x + sum_by f xs = sum_by-cons f x xs in
      let d : sum_by f (y ∷ ys) ≡ f y + sum_by f ys = sum_by-cons f y ys in
      let same : f y ≡ f x = ap f (h zero (λ e. absurd (omega arith))) in
      let rest : sum_by f ys + f (get_or xs k None) ≡ sum_by f xs + f (get_or ys k None) = sum-changed f xs ys k z (λ j n. h (suc j) (λ e. n (omega arith))) in
      omega arith

-- the slots of a pool's lists
abbrev pub Slots : Type 0
Slots = List (Option (Vec Page Global))

pub shown-at : (bytes : List ℕ) (lists : Slots) (k : ℕ) → get_or (map (shown bytes) lists) k None ≡ shown bytes (slot lists k)
shown-at bytes [] k = refl
shown-at bytes (x ∷ xs) zero = refl
shown-at bytes (x ∷ xs) (suc k) = shown-at bytes xs k

-- a list that lives stands in its slot
pub slot-within : (lists : Slots) (k : ℕ) (v : Vec Page Global) → slot lists k ≡ Some v → k < length lists
slot-within lists k v s = by_place (cases_lt k (length lists))
  where
    by_place : (k < length lists) ⊎ (length lists ≤ k) → k < length lists
    by_place (inl b) = b
    by_place (inr b) = let none : slot lists k ≡ None = get_or_past lists k None b in absurd (cc (s, none))

-- a list has a page no more often than it has holders
pub held-within : (frames : Store) (lists : Slots) (k n : ℕ) → IsLedger frames lists → times n (own_numbers (pages (slot lists k))) ≤ get_or frames.holders n 0
unfolding held_by
held-within frames lists k n g = by_place (cases_lt k (length lists))
  where
    by_place : (k < length lists) ⊎ (length lists ≤ k) → times n (own_numbers (pages (slot lists k))) ≤ get_or frames.holders n 0
    by_place (inl b) = omega (arith, g.counted n, get_or-le-sum_by (λ t. times n (own_numbers (pages t))) lists k None b)
    by_place (inr b) = omega (arith, times-none_owned n, ap (λ t. times n (own_numbers (pages t))) (get_or_past lists k None b))

-- a page of a list has holders
pub page-held : (frames : Store) (lists : Slots) (k i : ℕ) (d : Page) → IsLedger frames lists → i < length (pages (slot lists k)) → All (λ n. 0 < get_or frames.holders n 0) (own_number (get_or (pages (slot lists k)) i d))
page-held frames lists k i d g l = all-held frames.holders (own_number (get_or (pages (slot lists k)) i d)) (λ n. omega (arith, times-part n (pages (slot lists k)) i d l, held-within frames lists k n g))

-- the pages of a list have 4,096 bytes each
pub even-list : (frames : Store) (lists : Slots) (k : ℕ) (d : Page) → IsLedger frames lists → AreEven (page_bytes frames.bytes) 4096 d (pages (slot lists k))
even-list frames lists k d g i l = length-page_bytes frames.bytes frames.holders (get_or (pages (slot lists k)) i d) g.sound.whole (g.whole k i d l) (page-held frames lists k i d g l)

length-list : (frames : Store) (lists : Slots) (k : ℕ) → IsLedger frames lists → length (flat_map (page_bytes frames.bytes) (pages (slot lists k))) ≡ 4096 * length (pages (slot lists k))
length-list frames lists k g = length-joined (page_bytes frames.bytes) 4096 (Own 0) (pages (slot lists k)) (even-list frames lists k (Own 0) g)

pages-shown : (bytes : List ℕ) (s : Option (Vec Page Global)) → length (flat_map (page_bytes bytes) (pages s)) ≡ 4096 * length (pages s) → pages_of (shown bytes s) ≡ length (pages s)
pages-shown bytes None h = refl
pages-shown bytes (Some v) h = omega (arith, h)

-- the pages of all lists, counted on the bytes or on the pages
sum-shown : (bytes : List ℕ) (lists : Slots) → ((k : ℕ) → length (flat_map (page_bytes bytes) (pages (slot lists k))) ≡ 4096 * length (pages (slot lists k))) → sum_by pages_of (map (shown bytes) lists) ≡ sum_by (λ s. length (pages s)) lists
sum-shown bytes [] h = refl
sum-shown bytes (x ∷ xs) h =
    let c : sum_by pages_of (shown bytes x ∷ map (shown bytes) xs) ≡ pages_of (shown bytes x) + sum_by pages_of (map (shown bytes) xs) = sum_by-cons pages_of (shown bytes x) (map (shown bytes) xs) in
    let d : sum_by (λ s. length (pages s)) (x ∷ xs) ≡ length (pages x) + sum_by (λ s. length (pages s)) xs = sum_by-cons (λ s. length (pages s)) x xs in
    let first : pages_of (shown bytes x) ≡ length (pages x) = pages-shown bytes x (h zero) in
    let rest : sum_by pages_of (map (shown bytes) xs) ≡ sum_by (λ s. length (pages s)) xs = sum-shown bytes xs (λ k. h (suc k)) in
    omega arith

pub held-is : (frames : Store) (lists : Slots) (held : ℕ) (now : Pool) → IsPool frames lists held → pool_of frames lists ≡ now → held_pages now ≡ held
unfolding held_pages in_all
held-is frames lists held now g e = ap (λ (p : Pool). sum_by pages_of p.lists) (sym e) ∙ (sum-shown frames.bytes lists (λ k. length-list frames lists k g.ledger) ∙ sym g.counted)

pub pages-is : (frames : Store) (lists : Slots) (now : Pool) → pool_of frames lists ≡ now → now.pages ≡ length frames.holders
pages-is frames lists now e = ap (λ (p : Pool). p.pages) (sym e)

pub free-is : (frames : Store) (lists : Slots) (held : ℕ) (now : Pool) → IsPool frames lists held → pool_of frames lists ≡ now → free_pages now + held ≡ length frames.holders
unfolding free_pages
free-is frames lists held now g e =
    let held_is : held_pages now ≡ held = held-is frames lists held now g e in
    let pages : now.pages ≡ length frames.holders = pages-is frames lists now e in
    omega (arith, g.room)

-- no more holders than pages of lists
pub own-within : (frames : Store) (lists : Slots) (held : ℕ) → IsPool frames lists held → sum frames.holders ≤ held
unfolding own_in_all in_all
own-within frames lists held g = omega (arith, g.ledger.total, g.counted, sum_by-le-sum_by (λ t. length (own_numbers (pages t))) (λ t. length (pages t)) lists (λ t. owned-few (pages t)))

-- the bytes of a list
pub bytes-is : (frames : Store) (lists : Slots) (now : Pool) (k : ℕ) → pool_of frames lists ≡ now → bytes_of now k ≡ shown frames.bytes (slot lists k)
bytes-is frames lists now k e = ap (λ (p : Pool). get_or p.lists k None) (sym e) ∙ shown-at frames.bytes lists k

pub bytes-are : (frames : Store) (lists : Slots) (now : Pool) (k : ℕ) (v : Vec Page Global) → pool_of frames lists ≡ now → slot lists k ≡ Some v → bytes_of now k ≡ Some (flat_map (page_bytes frames.bytes) v.items)
bytes-are frames lists now k v e s = bytes-is frames lists now k e ∙ ap (shown frames.bytes) s

pub size-is : (frames : Store) (lists : Slots) (now : Pool) (k : ℕ) (v : Vec Page Global) → IsLedger frames lists → pool_of frames lists ≡ now → slot lists k ≡ Some v → (length (bytes_in now k) ≡ 4096 * length v.items) × (pages_of (bytes_of now k) ≡ length v.items)
size-is frames lists now k v g e s =
    let is = bytes-are frames lists now k v e s in
    let size : length (flat_map (page_bytes frames.bytes) v.items) ≡ 4096 * length v.items = ap (λ t. length (flat_map (page_bytes frames.bytes) (pages t))) (sym s) ∙ (length-list frames lists k g ∙ ap (λ t. 4096 * length (pages t)) s) in
    (ap (λ o. length (unwrap_or o [])) is ∙ size, ap pages_of is ∙ pages-shown frames.bytes (Some v) size)

-- a list has no more pages than there are
pub list-within : (frames : Store) (lists : Slots) (held k : ℕ) (v : Vec Page Global) → IsPool frames lists held → slot lists k ≡ Some v → length v.items ≤ held
unfolding in_all
list-within frames lists held k v g s = omega (arith, g.counted, get_or-le-sum_by (λ t. length (pages t)) lists k None (slot-within lists k v s), ap (λ t. length (pages t)) s)

-- the ledger after a change of one list
pub ledger-changed : (frames frames' : Store) (lists lists' : Slots) (k : ℕ) → IsLedger frames lists → IsSound frames' → ((j : ℕ) → j ≢ k → slot lists' j ≡ slot lists j) → All IsWholePage (pages (slot lists' k)) → ((n : ℕ) → get_or frames'.holders n 0 + times n (own_numbers (pages (slot lists k))) ≡ get_or frames.holders n 0 + times n (own_numbers (pages (slot lists' k)))) → sum frames'.holders + length (own_numbers (pages (slot lists k))) ≡ sum frames.holders + length (own_numbers (pages (slot lists' k))) → IsLedger frames' lists'
unfolding held_by own_in_all
ledger-changed frames frames' lists lists' k g sound others whole counted total = record {
  sound = sound;
  counted = λ n. omega (arith, counted n, g.counted n, sum-changed (λ s. times n (own_numbers (pages s))) lists lists' k (times-none_owned n) others);
  total = omega (arith, g.total, sum-changed (λ s. length (own_numbers (pages s))) lists lists' k length-none_owned others);
  whole = λ j. whole_at j (cases_eq j k);
}
  where
    whole_at : (j : ℕ) → (j ≡ k) ⊎ (j ≢ k) → All IsWholePage (pages (slot lists' j))
    whole_at j (inl e) = subst (λ i. All IsWholePage (pages (slot lists' i))) (sym e) whole
    whole_at j (inr n) = subst (λ t. All IsWholePage (pages t)) (sym (others j n)) (g.whole j)

-- and the pool, of which so many pages are held
pub pool-changed : (frames frames' : Store) (lists lists' : Slots) (held held' k : ℕ) → IsPool frames lists held → IsLedger frames' lists' → ((j : ℕ) → j ≢ k → slot lists' j ≡ slot lists j) → held' + length (pages (slot lists k)) ≡ held + length (pages (slot lists' k)) → held' ≤ length frames'.holders → IsPool frames' lists' held'
unfolding in_all
pool-changed frames frames' lists lists' held held' k g ledger others total room = record {
  ledger = ledger;
  counted = omega (arith, g.counted, sum-changed (λ s. length (pages s)) lists lists' k refl others);
  room = room;
}

-- the pool after a change of one list, where the pages of the others are as they were
pub puts-changed : (frames frames' : Store) (lists lists' : Slots) (now : Pool) (k : ℕ) (to : Option (List ℕ)) → pool_of frames lists ≡ now → length frames'.holders ≡ length frames.holders → ((j : ℕ) → j ≢ k → slot lists' j ≡ slot lists j) → ((j n : ℕ) → j ≢ k → 0 < times n (own_numbers (pages (slot lists j))) → page_at frames'.bytes n ≡ page_at frames.bytes n) → shown frames'.bytes (slot lists' k) ≡ to → Puts now (pool_of frames' lists') k to
puts-changed frames frames' lists lists' now k to e n others kept here = record {
  pages = n ∙ sym (pages-is frames lists now e);
  here = shown-at frames'.bytes lists' k ∙ here;
  others = λ j ne. shown-at frames'.bytes lists' j ∙ (ap (shown frames'.bytes) (others j ne) ∙ (same (slot lists j) (λ m l. kept j m ne l) ∙ sym (bytes-is frames lists now j e)));
}
  where
    same : (s : Option (Vec Page Global)) → ((m : ℕ) → 0 < times m (own_numbers (pages s)) → page_at frames'.bytes m ≡ page_at frames.bytes m) → shown frames'.bytes s ≡ shown frames.bytes s
    same None h = refl
    same (Some v) h = ap Some (bytes-kept frames.bytes frames'.bytes v.items h)

-- out of memory is not too few pages
pub not_no_page : {T : Type 0} (r : Result T PoolFault) (free n : ℕ) → IsErrAnd r (λ e. e ≡ OutOfMemory) → n ≤ free → IsErrOf r NoPage ↔ (free < n)
not_no_page (Ok x) free n h l = absurd h
not_no_page (Err e) free n h l = (λ q. absurd (cc), λ b. absurd (omega arith))

-- where a list is given, there were pages enough
pub done_no_page : {T : Type 0} (x : T) (free n : ℕ) → n ≤ free → IsErrOf {T = T} {E = PoolFault} (Ok x) NoPage ↔ (free < n)
done_no_page x free n l = (λ q. absurd (cc), λ b. absurd (omega arith))

-- ---- a list is given back

-- its pages are held so often at least
pub held-part : (frames : Store) (lists : Slots) (k : ℕ) (v : Vec Page Global) (ps : List Page) (n : ℕ) → IsLedger frames lists → slot lists k ≡ Some v → ps ≡ v.items → times n (own_numbers ps) ≤ get_or frames.holders n 0
held-part frames lists k v ps n g s e = omega (arith, held-within frames lists k n g, ap (λ t. times n (own_numbers (pages t))) s, ap (λ t. times n (own_numbers t)) e)

module _ (frames frames' : Store) (lists lists' : Slots) (k : ℕ) (v : Vec Page Global) (ps : List Page) (is : ps ≡ v.items) (others : (j : ℕ) → j ≢ k → slot lists' j ≡ slot lists j) where
  -- the ledger after a list is given back
  pub taken-out : (held held' : ℕ) → IsPool frames lists held → IsSound frames' → length frames'.holders ≡ length frames.holders → slot lists k ≡ Some v → slot lists' k ≡ None → ((n : ℕ) → get_or frames'.holders n 0 + times n (own_numbers ps) ≡ get_or frames.holders n 0) → sum frames'.holders + length (own_numbers ps) ≡ sum frames.holders → held' + length ps ≡ held → IsPool frames' lists' held'
  taken-out held held' g sound len s gone counted total less =
      let whole : All IsWholePage (pages (slot lists' k)) = subst (λ t. All IsWholePage (pages t)) (sym gone) (All-nil IsWholePage) in
      let ledger = ledger-changed frames frames' lists lists' k g.ledger sound others whole
      (λ n. omega (arith, counted n, times-none_owned n, ap (λ t. times n (own_numbers t)) is, ap (λ t. times n (own_numbers (pages t))) s, ap (λ t. times n (own_numbers (pages t))) gone))
      (omega (arith, total, length-none_owned, ap (λ t. length (own_numbers t)) is, ap (λ t. length (own_numbers (pages t))) s, ap (λ t. length (own_numbers (pages t))) gone)) in
      pool-changed frames frames' lists lists' held held' k g ledger others
      (omega (arith, less, ap length is, ap (λ t. length (pages t)) s, ap (λ t. length (pages t)) gone))
      (omega (arith, g.room, less, len))

  -- the ledger after a list is put in
  pub put-in : (held held' : ℕ) → IsPool frames lists held → IsSound frames' → length frames'.holders ≡ length frames.holders → slot lists k ≡ None → slot lists' k ≡ Some v → All IsWholePage ps → ((n : ℕ) → get_or frames'.holders n 0 ≡ get_or frames.holders n 0 + times n (own_numbers ps)) → sum frames'.holders ≡ sum frames.holders + length (own_numbers ps) → held' ≡ held + length ps → held' ≤ length frames.holders → IsPool frames' lists' held'
  put-in held held' g sound len vacant s whole counted total more room =
      let whole' : All IsWholePage (pages (slot lists' k)) = subst (λ t. All IsWholePage (pages t)) (sym s) (subst (All IsWholePage) is whole) in
      let ledger = ledger-changed frames frames' lists lists' k g.ledger sound others whole'
      (λ n. omega (arith, counted n, times-none_owned n, ap (λ t. times n (own_numbers t)) is, ap (λ t. times n (own_numbers (pages t))) s, ap (λ t. times n (own_numbers (pages t))) vacant))
      (omega (arith, total, length-none_owned, ap (λ t. length (own_numbers t)) is, ap (λ t. length (own_numbers (pages t))) s, ap (λ t. length (own_numbers (pages t))) vacant)) in
      pool-changed frames frames' lists lists' held held' k g ledger others
      (omega (arith, more, ap length is, ap (λ t. length (pages t)) s, ap (λ t. length (pages t)) vacant))
      (omega (arith, room, len))

-- the pool after a list is given back
pub gone-out : (frames frames' : Store) (lists lists' : Slots) (now : Pool) (k : ℕ) → IsLedger frames' lists' → pool_of frames lists ≡ now → length frames'.holders ≡ length frames.holders → ((n : ℕ) → 0 < get_or frames'.holders n 0 → page_at frames'.bytes n ≡ page_at frames.bytes n) → slot lists' k ≡ None → ((j : ℕ) → j ≢ k → slot lists' j ≡ slot lists j) → Puts now (pool_of frames' lists') k None
gone-out frames frames' lists lists' now k g e len kept gone others =
    puts-changed frames frames' lists lists' now k None e len others
    (λ j n ne l. kept n (omega (arith, l, held-within frames' lists' j n g, ap (λ t. times n (own_numbers (pages t))) (others j ne))))
    (ap (shown frames'.bytes) gone)

-- the pool after a list is put in, where a page that is held is as it was
pub new-in : (frames frames' : Store) (lists lists' : Slots) (now : Pool) (k : ℕ) (v : Vec Page Global) (bytes : List ℕ) → IsLedger frames lists → pool_of frames lists ≡ now → length frames'.holders ≡ length frames.holders → slot lists' k ≡ Some v → ((j : ℕ) → j ≢ k → slot lists' j ≡ slot lists j) → ((n : ℕ) → 0 < get_or frames.holders n 0 → page_at frames'.bytes n ≡ page_at frames.bytes n) → flat_map (page_bytes frames'.bytes) v.items ≡ bytes → Puts now (pool_of frames' lists') k (Some bytes)
new-in frames frames' lists lists' now k v bytes g e len s others kept is =
    puts-changed frames frames' lists lists' now k (Some bytes) e len others
    (λ j n ne l. kept n (omega (arith, l, held-within frames lists j n g)))
    (ap (shown frames'.bytes) s ∙ ap Some is)

-- the same lists
pub same-held : (frames : Store) (lists lists' : Slots) (held : ℕ) → lists' ≡ lists → IsPool frames lists held → IsPool frames lists' held
same-held frames lists lists' held e g = subst (λ xs. IsPool frames xs held) (sym e) g

pub same-pool : (frames : Store) (lists lists' : Slots) (now : Pool) → lists' ≡ lists → pool_of frames lists ≡ now → pool_of frames lists' ≡ now
same-pool frames lists lists' now e g = ap (pool_of frames) e ∙ g
