-- The stock of pages that nobody holds.
use Rattle.std.proofs.Common.{◌≡◌, ℕ, ◌+◌, ◌*◌, ◌<◌, ◌≤◌, ◌≢◌, List, [], ◌∷◌, ◌++◌, length, get_or, set, sum, arith, refl, ap, sym, ◌∙◌}
use Rattle.std.specs.Prelude.{◌⊎◌, ◌==◌, Result, Ok, Err, OnErr, IsOk, is_ok, if◌then◌else◌}
use Rattle.std.proofs.lemmas.List.Sums.{count_by-le-length}
use Rattle.std.proofs.Common.{inl, inr}
use Rattle.std.proofs.lemmas.Bool.{cases_lt, cases_eq}
use Rattle.std.proofs.lemmas.List.{length-set, length-append}
use Rattle.std.proofs.lemmas.Bool.Decides.{nat_tests}
use Rattle.page_pool.specs.Store.{IsStock, IsSound, times, idle, idle_pages}
use Rattle.page_pool.proofs.Counts.{one_if, one_if-same, one_if-other, times-push, idle-set_same, idle-set_other, idle-is, idle-past, idle_pages-set, sum-set, idle_pages-enough}

-- fewer holders than pages: the stock has a page
pub stocked : (bytes hs stock : List ℕ) (cap : ℕ) → IsStock bytes hs stock cap → sum hs < length hs → 0 < length stock
stocked bytes hs stock cap k h = omega (arith, idle_pages-enough hs, k.counted)

-- a page of the stock is there, and nobody holds it
pub in_stock : (bytes hs stock rest : List ℕ) (cap page : ℕ) → IsStock bytes hs stock cap → stock ≡ rest ++ page ∷ [] → (page < length hs) × (get_or hs page 0 ≡ 0)
in_stock bytes hs stock rest cap page k e = by_place (cases_lt page (length hs))
  where
    there : idle page hs ≡ times page rest + 1
    there = sym (k.once page) ∙ (ap (times page) e ∙ (times-push page rest page ∙ ap (λ n. times page rest + n) (one_if-same page)))

    by_place : (page < length hs) ⊎ (length hs ≤ page) → (page < length hs) × (get_or hs page 0 ≡ 0)
    by_place (inl l) = (l, none (idle-is hs page l))
      where
        none : idle page hs ≡ one_if (get_or hs page 0) 0 → get_or hs page 0 ≡ 0
        none i = grind (arith, nat_tests, there)
    by_place (inr l) = absurd (omega (arith, idle-past hs page l, there))

-- a page taken from the stock has one holder
pub taken : (bytes bytes' hs stock rest : List ℕ) (cap page : ℕ) → IsStock bytes hs stock cap → stock ≡ rest ++ page ∷ [] → length bytes' ≡ length bytes → sum hs < length hs → IsStock bytes' (set hs page 1) rest cap
taken bytes bytes' hs stock rest cap page k e b s =
    let there = in_stock bytes hs stock rest cap page k e in
    let l : page < length hs = there.0 in
    let none : get_or hs page 0 ≡ 0 = there.1 in
    let size : length (set hs page 1) ≡ length hs = length-set hs page 1 in
    let count : length stock ≡ length rest + 1 = ap length e ∙ length-append rest (page ∷ []) in
    let pages : idle_pages (set hs page 1) + one_if (get_or hs page 0) 0 ≡ idle_pages hs + one_if 1 0 = idle_pages-set hs page 1 l in
    let was : one_if (get_or hs page 0) 0 ≡ 1 = ap (λ n. one_if n 0) none in
    record {
      whole = omega (arith, k.whole);
      few = omega (arith, k.few);
      within = omega (arith, sum-set hs page 1 l);
      once = λ q. once_at q l (cases_eq q page);
      counted = omega (arith, k.counted);
      room = omega (arith, k.room);
    }
  where
    same : (q : ℕ) → times q rest + one_if page q ≡ idle q hs
    same q = sym (times-push q rest page) ∙ (ap (times q) (sym e) ∙ k.once q)

    once_at : (q : ℕ) → page < length hs → (q ≡ page) ⊎ (q ≢ page) → times q rest ≡ idle q (set hs page 1)
    once_at q l (inl i) =
        let none : get_or hs page 0 ≡ 0 = (in_stock bytes hs stock rest cap page k e).1 in
        let was : idle page hs ≡ one_if (get_or hs page 0) 0 = idle-is hs page l in
        let one : one_if (get_or hs page 0) 0 ≡ 1 = ap (λ n. one_if n 0) none in
        let now : idle page (set hs page 1) ≡ one_if 1 0 = idle-set_same hs page 1 l in
        let at : times page rest + one_if page page ≡ idle page hs = same page in
        let one' : one_if page page ≡ 1 = one_if-same page in
        let zero_left : times page rest ≡ 0 = omega arith in
        rw i (zero_left ∙ sym now)
    once_at q l (inr n) =
        let other : one_if page q ≡ 0 = one_if-other page q (λ i. n (sym i)) in
        let at : times q rest + one_if page q ≡ idle q hs = same q in
        let now : idle q (set hs page 1) ≡ idle q hs = idle-set_other hs page q 1 n in
        omega arith

-- a page of one holder given back to the stock
pub given : (bytes hs stock stock' : List ℕ) (cap cap' page : ℕ) → IsStock bytes hs stock cap → page < length hs → get_or hs page 0 ≡ 1 → stock' ≡ stock ++ page ∷ [] → cap ≤ cap' → IsStock bytes (set hs page 0) stock' cap'
given bytes hs stock stock' cap cap' page k l one e c =
    let size : length (set hs page 0) ≡ length hs = length-set hs page 0 in
    let count : length stock' ≡ length stock + 1 = ap length e ∙ length-append stock (page ∷ []) in
    let pages : idle_pages (set hs page 0) + one_if (get_or hs page 0) 0 ≡ idle_pages hs + one_if 0 0 = idle_pages-set hs page 0 l in
    let was : one_if (get_or hs page 0) 0 ≡ 0 = ap (λ n. one_if n 0) one in
    record {
      whole = omega (arith, k.whole);
      few = omega (arith, k.few);
      within = omega (arith, k.within, sum-set hs page 0 l);
      once = λ q. once_at q (cases_eq q page);
      counted = omega (arith, k.counted);
      room = omega (arith, k.room);
    }
  where
    times_is : (q : ℕ) → times q stock' ≡ idle q hs + one_if page q
    times_is q = ap (times q) e ∙ (times-push q stock page ∙ ap (λ n. n + one_if page q) (k.once q))

    once_at : (q : ℕ) → (q ≡ page) ⊎ (q ≢ page) → times q stock' ≡ idle q (set hs page 0)
    once_at q (inl i) =
        let was : idle page hs ≡ one_if (get_or hs page 0) 0 = idle-is hs page l in
        let none : one_if (get_or hs page 0) 0 ≡ 0 = ap (λ n. one_if n 0) one in
        let now : idle page (set hs page 0) ≡ one_if 0 0 = idle-set_same hs page 0 l in
        let at : times page stock' ≡ idle page hs + one_if page page = times_is page in
        let one' : one_if page page ≡ 1 = one_if-same page in
        let is_one : times page stock' ≡ 1 = omega arith in
        rw i (is_one ∙ sym now)
    once_at q (inr n) =
        let other : one_if page q ≡ 0 = one_if-other page q (λ i. n (sym i)) in
        let at : times q stock' ≡ idle q hs + one_if page q = times_is q in
        let now : idle q (set hs page 0) ≡ idle q hs = idle-set_other hs page q 0 n in
        omega arith

-- a page that is held, and stays held
pub counted_anew : (bytes hs stock : List ℕ) (cap page v : ℕ) → IsStock bytes hs stock cap → page < length hs → 0 < get_or hs page 0 → 0 < v → sum hs + v ≤ length hs + get_or hs page 0 → IsStock bytes (set hs page v) stock cap
counted_anew bytes hs stock cap page v k l held held' room =
    let size : length (set hs page v) ≡ length hs = length-set hs page v in
    let pages : idle_pages (set hs page v) + one_if (get_or hs page 0) 0 ≡ idle_pages hs + one_if v 0 = idle_pages-set hs page v l in
    let was : one_if (get_or hs page 0) 0 ≡ 0 = one_if-other (get_or hs page 0) 0 (λ e. absurd (omega arith)) in
    let now : one_if v 0 ≡ 0 = one_if-other v 0 (λ e. absurd (omega arith)) in
    record {
      whole = omega (arith, k.whole);
      few = omega (arith, k.few);
      within = omega (arith, sum-set hs page v l);
      once = λ q. once_at q (cases_eq q page);
      counted = omega (arith, k.counted);
      room = omega (arith, k.room);
    }
  where
    once_at : (q : ℕ) → (q ≡ page) ⊎ (q ≢ page) → times q stock ≡ idle q (set hs page v)
    once_at q (inl i) =
        let was : idle page hs ≡ one_if (get_or hs page 0) 0 = idle-is hs page l in
        let none : one_if (get_or hs page 0) 0 ≡ 0 = one_if-other (get_or hs page 0) 0 (λ e. absurd (omega arith)) in
        let none' : one_if v 0 ≡ 0 = one_if-other v 0 (λ e. absurd (omega arith)) in
        let now : idle page (set hs page v) ≡ one_if v 0 = idle-set_same hs page v l in
        rw i (k.once page ∙ (was ∙ (none ∙ sym (now ∙ none'))))
    once_at q (inr n) = k.once q ∙ sym (idle-set_other hs page q v n)

-- the same stock, written otherwise
pub restated : (bytes bytes' hs hs' stock stock' : List ℕ) (cap cap' : ℕ) → IsStock bytes hs stock cap → length bytes' ≡ length bytes → hs ≡ hs' → stock ≡ stock' → length hs ≤ cap' → IsStock bytes' hs' stock' cap'
restated bytes bytes' hs hs' stock stock' cap cap' k b h s c = record {
  whole = b ∙ (k.whole ∙ ap (λ ys. 4096 * length ys) h);
  few = omega (arith, k.few, ap length h);
  within = omega (arith, k.within, ap sum h, ap length h);
  once = λ q. ap (times q) (sym s) ∙ (k.once q ∙ ap (idle q) h);
  counted = ap length (sym s) ∙ (k.counted ∙ ap idle_pages h);
  room = omega (arith, ap length h);
}

-- what callers know of a stock
pub sound : (bytes hs stock : List ℕ) (cap : ℕ) → IsStock bytes hs stock cap → IsSound (record { bytes = bytes; holders = hs })
sound bytes hs stock cap k = record { whole = k.whole; few = k.few; within = k.within }

-- fewer pages are idle than there are, where one is held
idle_pages-less : (hs : List ℕ) (page : ℕ) → page < length hs → 0 < get_or hs page 0 → idle_pages hs < length hs
unfolding idle_pages
idle_pages-less hs page l held =
    let changed : idle_pages (set hs page 0) + one_if (get_or hs page 0) 0 ≡ idle_pages hs + one_if 0 0 = idle_pages-set hs page 0 l in
    let was : one_if (get_or hs page 0) 0 ≡ 0 = one_if-other (get_or hs page 0) 0 (λ e. absurd (omega arith)) in
    let bound : idle_pages (set hs page 0) ≤ length (set hs page 0) = count_by-le-length (λ h. h == 0) (set hs page 0) in
    let size : length (set hs page 0) ≡ length hs = length-set hs page 0 in
    omega arith

-- the stock has room for a page that is held
pub stock_room : (bytes hs stock : List ℕ) (cap page : ℕ) → IsStock bytes hs stock cap → page < length hs → 0 < get_or hs page 0 → length stock < cap
stock_room bytes hs stock cap page k l held = omega (arith, k.counted, k.room, idle_pages-less hs page l held)

-- what is refused for one reason alone is done where it does not hold
pub done_unless : {T E P : Type 0} (r : Result T E) → OnErr r P → (P → ⊥) → IsOk r
done_unless (Ok x) e n = refl
done_unless (Err x) e n = absurd (n e)

-- what a push that is done leaves
pub pushed_items : {T E X : Type 0} (r : Result T E) (x : T) (new old : List X) (page : X) → r ≡ Ok x → new ≡ (if is_ok r then old ++ page ∷ [] else old) → new ≡ old ++ page ∷ []
pushed_items r x new old page e h = h ∙ ap (λ s. if is_ok s then old ++ page ∷ [] else old) e
