-- What the pages are after each change.
use Rattle.std.proofs.Common.{◌≡◌, ℕ, ◌+◌, ◌-◌, ◌*◌, ◌<◌, ◌≤◌, ◌≢◌, ◌^◌, List, [], ◌∷◌, ◌++◌, length, get_or, set, sum, arith, refl, ap, sym, ◌∙◌, inl, inr}
use Rattle.std.specs.Prelude.{◌⊎◌, replicate}
use Rattle.std.proofs.lemmas.Bool.{cases_lt, cases_eq}
use Rattle.std.proofs.lemmas.List.{length-replicate, length-set, get_or_read, get_or-set_same, get_or-set_other}
use Rattle.rdma_types.specs.Memory.{cut, put}
use Rattle.page_pool.specs.Store.{Store, IsStock, IsMade, padded, later_pages, waiting, times, idle, idle_pages}
use Rattle.page_pool.proofs.Counts.{one_if, times-none, idle-is, idle-past, sum-none, idle_pages-all}
use Rattle.page_pool.proofs.Padded.{padded-none, length-padded, zero_at, zeros, padded-at, padded-set, padded-put, padded-cut, in_front, later-in, later-past, waiting-push, waiting-same, length-waiting, times-waiting}
use Rattle.page_pool.proofs.Steps.{inside}
use Rattle.page_pool.proofs.Stock.{counted_anew, given, restated, stock_room}

-- ---- a page that is held

-- a page that is held is made
pub front : (hs now : List ℕ) (pages page : ℕ) → padded pages hs ≡ now → 0 < get_or now page 0 → page < length hs
front hs now pages page e held = in_front pages hs page (omega (arith, ap (λ ys. get_or ys page 0) e))

-- and its bytes are
pub front_inside : (bs hs now : List ℕ) (pages page bytes_room holders_room : ℕ) → IsMade bs hs pages bytes_room holders_room → padded pages hs ≡ now → 0 < get_or now page 0 → page * 4096 + 4096 ≤ length bs
front_inside bs hs now pages page bytes_room holders_room m e held = omega (arith, m.whole, front hs now pages page e held)

-- the number read of it
pub read_now : (hs now : List ℕ) (pages page x : ℕ) → padded pages hs ≡ now → page < length hs → x ≡ get_or hs page x → get_or now page 0 ≡ x
read_now hs now pages page x e l r = ap (λ ys. get_or ys page 0) (sym e) ∙ (padded-at pages hs page 0 l ∙ sym (get_or_read hs page x l r 0))

-- ---- the counts after a change

pub made_set : (bs bs' hs : List ℕ) (pages page v bytes_room bytes_room' holders_room holders_room' : ℕ) → IsMade bs hs pages bytes_room holders_room → length bs' ≡ length bs → bytes_room ≤ bytes_room' → holders_room ≤ holders_room' → IsMade bs' (set hs page v) pages bytes_room' holders_room'
made_set bs bs' hs pages page v bytes_room bytes_room' holders_room holders_room' m b br hr =
    let count : length (set hs page v) ≡ length hs = length-set hs page v in
    record { whole = omega (arith, m.whole); within = omega (arith, m.within); bytes_fit = omega (arith, m.bytes_fit); holders_fit = omega (arith, m.holders_fit) }

set_counts : (bytes hs st : List ℕ) (pages cap page v : ℕ) → page < length hs → IsStock bytes (set (padded pages hs) page v) (waiting hs pages st) cap → IsStock bytes (padded pages (set hs page v)) (waiting (set hs page v) pages st) cap
set_counts bytes hs st pages cap page v l k = restated bytes bytes (set (padded pages hs) page v) (padded pages (set hs page v)) (waiting hs pages st) (waiting (set hs page v) pages st) cap cap k refl (sym (padded-set pages hs page v l)) (waiting-same hs (set hs page v) pages st (sym (length-set hs page v))) k.room

-- a page that is held is there, also among those that are not made
held_there : (hs now : List ℕ) (pages page : ℕ) → length hs ≤ pages → padded pages hs ≡ now → 0 < get_or now page 0 → (page < length (padded pages hs)) × (0 < get_or (padded pages hs) page 0)
held_there hs now pages page within e held =
    let l : page < length hs = front hs now pages page e held in
    (omega (arith, length-padded pages hs within), omega (arith, ap (λ ys. get_or ys page 0) e))

-- a page that is held, and stays held
pub holds_still : (bytes hs now st : List ℕ) (pages cap page v : ℕ) → IsStock bytes (padded pages hs) (waiting hs pages st) cap → length hs ≤ pages → padded pages hs ≡ now → 0 < get_or now page 0 → 0 < v → sum now + v ≤ length now + get_or now page 0 → IsStock bytes (padded pages (set hs page v)) (waiting (set hs page v) pages st) cap
holds_still bytes hs now st pages cap page v k within e held left room =
    let t = held_there hs now pages page within e held in
    set_counts bytes hs st pages cap page v (front hs now pages page e held)
    (counted_anew bytes (padded pages hs) (waiting hs pages st) cap page v k t.0 t.1 left
    (omega (arith, room, ap sum e, ap length e, ap (λ ys. get_or ys page 0) e)))

-- the last holder gone
pub holds_none : (bytes hs now st st' : List ℕ) (pages cap cap' page v : ℕ) → IsStock bytes (padded pages hs) (waiting hs pages st) cap → length hs ≤ pages → padded pages hs ≡ now → get_or now page 0 ≡ 1 → v ≡ 0 → st' ≡ st ++ page ∷ [] → cap ≤ cap' → IsStock bytes (padded pages (set hs page v)) (waiting (set hs page v) pages st') cap'
holds_none bytes hs now st st' pages cap cap' page v k within e one none s c =
    let held : 0 < get_or now page 0 = omega arith in
    set_counts bytes hs st' pages cap' page v (front hs now pages page e held)
    (rw none (given bytes (padded pages hs) (waiting hs pages st) (waiting hs pages st') cap cap' page k (held_there hs now pages page within e held).0
    (ap (λ ys. get_or ys page 0) e ∙ one) (ap (waiting hs pages) s ∙ waiting-push hs pages st page) c))

-- the stock has room for a page that is held
pub room_left : (bytes hs now st : List ℕ) (pages cap page : ℕ) → IsStock bytes (padded pages hs) (waiting hs pages st) cap → length hs ≤ pages → padded pages hs ≡ now → 0 < get_or now page 0 → length st < cap
room_left bytes hs now st pages cap page k within e held =
    let t = held_there hs now pages page within e held in
    omega (arith, length-waiting hs pages st, stock_room bytes (padded pages hs) (waiting hs pages st) cap page k t.0 t.1)

-- ---- what callers see of a change

abbrev pub store : List ℕ → List ℕ → Store
store bytes holders = record { bytes = bytes; holders = holders }

pub store_is : (b b' h h' : List ℕ) → b ≡ b' → h ≡ h' → store b h ≡ store b' h'
store_is b b' h h' p q = rw (p, q) refl

pub seen_held : (bs hs : List ℕ) (now : Store) (n pages page v w : ℕ) → store (padded n bs) (padded pages hs) ≡ now → page < length hs → v ≡ w → store (padded n bs) (padded pages (set hs page v)) ≡ record now { holders = set now.holders page w }
seen_held bs hs now n pages page v w e l same = store_is _ _ _ _ (ap (λ (s : Store). s.bytes) e) (padded-set pages hs page v l ∙ (ap (λ ys. set ys page v) (ap (λ (s : Store). s.holders) e) ∙ ap (set now.holders page) same))

pub seen_put : (bs bs' hs w : List ℕ) (now : Store) (n pages a b : ℕ) → store (padded n bs) (padded pages hs) ≡ now → bs' ≡ put bs a w → a + length w ≤ length bs → a ≡ b → store (padded n bs') (padded pages hs) ≡ record now { bytes = put now.bytes b w }
seen_put bs bs' hs w now n pages a b e new l same =
    store_is _ _ _ _ (ap (padded n) new ∙ (padded-put n bs a w l ∙ (ap (λ ys. put ys a w) (ap (λ (s : Store). s.bytes) e) ∙ ap (λ k. put now.bytes k w) same))) (ap (λ (s : Store). s.holders) e)

-- the bytes of a page that is made
pub seen_cut : (bs : List ℕ) (now : Store) (hs : List ℕ) (n page a : ℕ) → store (padded n bs) hs ≡ now → a + 4096 ≤ length bs → a ≡ 4096 * page → cut a 4096 bs ≡ cut (4096 * page) 4096 now.bytes
seen_cut bs now hs n page a e l same = sym (padded-cut n bs a 4096 l) ∙ (ap (cut a 4096) (ap (λ (s : Store). s.bytes) e) ∙ ap (λ k. cut k 4096 now.bytes) same)

-- who has no holder after a page has one less of several had none before
pub idle_before : (hs : List ℕ) (page other : ℕ) → 1 < get_or hs page 0 → get_or (set hs page (get_or hs page 0 - 1)) other 0 ≡ 0 → get_or hs other 0 ≡ 0
idle_before hs page other more free = by_place (cases_eq other page)
  where
    by_place : (other ≡ page) ⊎ (other ≢ page) → get_or hs other 0 ≡ 0
    by_place (inl i) = absurd (omega (arith, free, ap (λ q. get_or (set hs page (get_or hs page 0 - 1)) q 0) i, get_or-set_same hs page (get_or hs page 0 - 1) 0 (inside hs page (omega arith))))
    by_place (inr n) = sym (get_or-set_other hs page other (get_or hs page 0 - 1) 0 n) ∙ free

-- ---- no page is made yet

none_waiting : (n q : ℕ) → times q (waiting [] n []) ≡ idle q (zeros n)
none_waiting n q = times-waiting q [] n [] ∙ by_place (cases_lt q n)
  where
    size : length (zeros n) ≡ n
    size = length-replicate n 0

    by_place : (q < n) ⊎ (n ≤ q) → times q (later_pages 0 (n - 0)) + times q [] ≡ idle q (zeros n)
    by_place (inl l) =
        let one : times q (later_pages 0 (n - 0)) ≡ 1 = later-in 0 (n - 0) q (omega arith) (omega arith) in
        let none : times q [] ≡ 0 = times-none q in
        let idle_one : idle q (zeros n) ≡ 1 = idle-is (zeros n) q (omega (arith, size)) ∙ ap (λ x. one_if x 0) (zero_at n q) in
        omega arith
    by_place (inr l) =
        let past : times q (later_pages 0 (n - 0)) ≡ 0 = later-past 0 (n - 0) q (omega arith) in
        let none : times q [] ≡ 0 = times-none q in
        let idle_none : idle q (zeros n) ≡ 0 = idle-past (zeros n) q (omega (arith, size)) in
        omega arith

pub none_made : (bs hs st : List ℕ) (pages bytes_room holders_room cap : ℕ) → bs ≡ [] → hs ≡ [] → st ≡ [] → pages < 2 ^ 32 → 4096 * pages ≤ bytes_room → pages ≤ holders_room → pages ≤ cap → IsMade bs hs pages bytes_room holders_room × IsStock (padded (4096 * pages) bs) (padded pages hs) (waiting hs pages st) cap
none_made bs hs st pages bytes_room holders_room cap b h s small br hr c =
    let bytes_is : padded (4096 * pages) bs ≡ replicate (4096 * pages) 0 = ap (padded (4096 * pages)) b ∙ padded-none (4096 * pages) in
    let holders_is : padded pages hs ≡ replicate pages 0 = ap (padded pages) h ∙ padded-none pages in
    let waits : waiting hs pages st ≡ waiting [] pages [] = ap (λ ys. waiting ys pages st) h ∙ ap (waiting [] pages) s in
    let size : length (padded pages hs) ≡ pages = ap length holders_is ∙ length-replicate pages 0 in
    let size' : length (padded (4096 * pages) bs) ≡ 4096 * pages = ap length bytes_is ∙ length-replicate (4096 * pages) 0 in
    let none : sum (padded pages hs) ≡ 0 = ap sum holders_is ∙ sum-none pages in
    let count : length (waiting hs pages st) ≡ pages - length hs + length st = length-waiting hs pages st in (
      record { whole = omega (arith, ap length b, ap length h); within = omega (arith, ap length h); bytes_fit = br; holders_fit = hr },
      record {
        whole = omega arith;
        few = omega arith;
        within = omega arith;
        once = λ q. ap (times q) waits ∙ (none_waiting pages q ∙ ap (idle q) (sym holders_is));
        counted = omega (arith, ap length h, ap length s, ap idle_pages holders_is, idle_pages-all pages);
        room = omega arith;
      },
    )

pub none_seen : (bs hs : List ℕ) (pages : ℕ) → bs ≡ [] → hs ≡ [] → store (padded (4096 * pages) bs) (padded pages hs) ≡ store (replicate (4096 * pages) 0) (replicate pages 0)
none_seen bs hs pages b h = store_is _ _ _ _ (ap (padded (4096 * pages)) b ∙ padded-none (4096 * pages)) (ap (padded pages) h ∙ padded-none pages)

-- ---- a write into a page

pub still_made : (bs bs' hs : List ℕ) (pages bytes_room bytes_room' holders_room : ℕ) → IsMade bs hs pages bytes_room holders_room → length bs' ≡ length bs → bytes_room ≤ bytes_room' → IsMade bs' hs pages bytes_room' holders_room
still_made bs bs' hs pages bytes_room bytes_room' holders_room m b br = record { whole = b ∙ m.whole; within = m.within; bytes_fit = omega (arith, m.bytes_fit); holders_fit = m.holders_fit }

pub still_stocked : (bs bs' hs stock : List ℕ) (pages cap bytes_room holders_room : ℕ) → IsMade bs hs pages bytes_room holders_room → IsStock (padded (4096 * pages) bs) (padded pages hs) stock cap → length bs' ≡ length bs → IsStock (padded (4096 * pages) bs') (padded pages hs) stock cap
still_stocked bs bs' hs stock pages cap bytes_room holders_room m k b =
    let within : length bs ≤ 4096 * pages = omega (arith, m.whole, m.within) in
    restated (padded (4096 * pages) bs) (padded (4096 * pages) bs') (padded pages hs) (padded pages hs) stock stock cap cap k
    (length-padded (4096 * pages) bs' (omega arith) ∙ sym (length-padded (4096 * pages) bs within)) refl refl k.room

-- ---- pages that are copied, with room for as many

module _ (bs bs' hs hs' st st' : List ℕ) (pages : ℕ) (same_bs : bs' ≡ bs) (same_hs : hs' ≡ hs) (same_st : st' ≡ st) where
  pub copied_made : (bytes_room bytes_room' holders_room holders_room' : ℕ) → IsMade bs hs pages bytes_room holders_room → 4096 * pages ≤ bytes_room' → pages ≤ holders_room' → IsMade bs' hs' pages bytes_room' holders_room'
  copied_made r r' q q' m br hr = rw (same_bs, same_hs) (record { whole = m.whole; within = m.within; bytes_fit = br; holders_fit = hr })

  pub copied_stock : (cap cap' : ℕ) → length hs ≤ pages → IsStock (padded (4096 * pages) bs) (padded pages hs) (waiting hs pages st) cap → pages ≤ cap' → IsStock (padded (4096 * pages) bs') (padded pages hs') (waiting hs' pages st') cap'
  copied_stock cap cap' within k fits = rw (same_bs, same_hs, same_st) (restated (padded (4096 * pages) bs) (padded (4096 * pages) bs) (padded pages hs) (padded pages hs) (waiting hs pages st) (waiting hs pages st) cap cap' k refl refl refl (omega (arith, fits, length-padded pages hs within)))
