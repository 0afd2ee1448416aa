-- Lists that were copied.
use Rattle.std.proofs.Common.{◌≡◌, ℕ, zero, suc, List, [], ◌∷◌, length, map, refl, ap, sym, subst, ◌∙◌, arith}
use Rattle.std.specs.Prelude.{All, Option, Some, None, sum_by}
use Rattle.std.specs.List.{AllZip}
use Rattle.std.specs.declared.vec.Vec.{Vec}
use Rattle.std.specs.declared.alloc.Global.{Global}
use Rattle.std.proofs.lemmas.List.Sums.{sum_by-cons}
use Rattle.slab.specs.Slab.{IsSlotClone}
use Rattle.page_pool.specs.Store.{Store, times}
use Rattle.page_pool.specs.Ledger.{IsPool, IsSamePage, IsWholePage, held_by, in_all, own_in_all, own_numbers, pages, pool_of, shown, slot}
use Rattle.page_pool.specs.declared.page.Page.{Page}
use Rattle.page_pool.proofs.Ledgers.{Slots}
use Rattle.page_pool.proofs.Listed.{same-all_bytes, same-all_whole, same-length, same-numbers}

-- the clone of a list has the same pages
abbrev IsListClone : Vec Page Global → Vec Page Global → Type 0
IsListClone v w = AllZip IsSamePage v.items w.items × (w.len ≡ v.len)

abbrev AreClones : Slots → Slots → Type 0
AreClones = AllZip (IsSlotClone IsListClone)

same-shown : (bytes : List ℕ) (x y : Option (Vec Page Global)) → IsSlotClone IsListClone x y → shown bytes y ≡ shown bytes x
same-shown bytes None y h = ap (shown bytes) h
same-shown bytes (Some v) None h = absurd h
same-shown bytes (Some v) (Some w) h = ap Some (same-all_bytes bytes v.items w.items h.0)

same-owned : (x y : Option (Vec Page Global)) → IsSlotClone IsListClone x y → own_numbers (pages y) ≡ own_numbers (pages x)
same-owned None y h = ap (λ s. own_numbers (pages s)) h
same-owned (Some v) None h = absurd h
same-owned (Some v) (Some w) h = same-numbers v.items w.items h.0

same-count : (x y : Option (Vec Page Global)) → IsSlotClone IsListClone x y → length (pages y) ≡ length (pages x)
same-count None y h = ap (λ s. length (pages s)) h
same-count (Some v) None h = absurd h
same-count (Some v) (Some w) h = same-length v.items w.items h.0

still-whole : (x y : Option (Vec Page Global)) → IsSlotClone IsListClone x y → All IsWholePage (pages x) → All IsWholePage (pages y)
still-whole None y h w = subst (λ s. All IsWholePage (pages s)) (sym h) w
still-whole (Some v) None h w = absurd h
still-whole (Some v) (Some u) h w = same-all_whole v.items u.items h.0 w

shown-copied : (bytes : List ℕ) (xs ys : Slots) → AreClones xs ys → map (shown bytes) ys ≡ map (shown bytes) xs
shown-copied bytes [] [] all = refl
shown-copied bytes [] (y ∷ ys) all = absurd all
shown-copied bytes (x ∷ xs) [] all = absurd all
shown-copied bytes (x ∷ xs) (y ∷ ys) all = ap (λ o. o ∷ map (shown bytes) ys) (same-shown bytes x y all.0) ∙ ap (λ os. shown bytes x ∷ os) (shown-copied bytes xs ys all.1)

sums-copied : (f : Option (Vec Page Global) → ℕ) (xs ys : Slots) → ((x y : Option (Vec Page Global)) → IsSlotClone IsListClone x y → f y ≡ f x) → AreClones xs ys → sum_by f ys ≡ sum_by f xs
sums-copied f [] [] same all = refl
sums-copied f [] (y ∷ ys) same all = absurd all
sums-copied f (x ∷ xs) [] same all = absurd all
sums-copied f (x ∷ xs) (y ∷ ys) same all = omega (arith, sum_by-cons f x xs, sum_by-cons f y ys, sums-copied f xs ys same all.1, same x y all.0)

whole-copied : (xs ys : Slots) → AreClones xs ys → ((k : ℕ) → All IsWholePage (pages (slot xs k))) → (k : ℕ) → All IsWholePage (pages (slot ys k))
whole-copied [] [] all w k = w k
whole-copied [] (y ∷ ys) all w k = absurd all
whole-copied (x ∷ xs) [] all w k = absurd all
whole-copied (x ∷ xs) (y ∷ ys) all w zero = still-whole x y all.0 (w zero)
whole-copied (x ∷ xs) (y ∷ ys) all w (suc k) = whole-copied xs ys all.1 (λ j. w (suc j)) k

pub ledger-copied : (frames copy : Store) (xs ys : Slots) (held : ℕ) → copy ≡ frames → AreClones xs ys → IsPool frames xs held → IsPool copy ys held
unfolding held_by in_all own_in_all
ledger-copied frames copy xs ys held e all g =
    rw e
    (record {
      ledger = record {
        sound = g.ledger.sound;
        counted = λ n. sums-copied (λ s. times n (own_numbers (pages s))) xs ys (λ x y h. ap (times n) (same-owned x y h)) all ∙ g.ledger.counted n;
        total = g.ledger.total ∙ sym (sums-copied (λ s. length (own_numbers (pages s))) xs ys (λ x y h. ap length (same-owned x y h)) all);
        whole = whole-copied xs ys all g.ledger.whole;
      };
      counted = g.counted ∙ sym (sums-copied (λ s. length (pages s)) xs ys same-count all);
      room = g.room;
    })

pub pool-copied : (frames copy : Store) (xs ys : Slots) → copy ≡ frames → AreClones xs ys → pool_of copy ys ≡ pool_of frames xs
pool-copied frames copy xs ys e all = rw e (ap (λ lists. record { pages = length frames.holders; lists = lists }) (shown-copied frames.bytes xs ys all))
