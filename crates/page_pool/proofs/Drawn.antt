-- A page that is drawn from the stock, or made: it gets its bytes, and one holder.
use Rattle.std.proofs.Common.{◌≡◌, ℕ, ◌+◌, ◌-◌, ◌*◌, ◌<◌, ◌≤◌, List, [], ◌∷◌, ◌++◌, length, get_or, set, sum, arith, refl, ap, sym, ◌∙◌, inl, inr}
use Rattle.std.specs.Prelude.{◌⊎◌}
use Rattle.std.proofs.lemmas.Bool.{cases_lt}
use Rattle.std.proofs.lemmas.List.{length-append, length-set, length_push, nil_from_length}
use Rattle.rdma_types.specs.Memory.{put}
use Rattle.page_pool.specs.Store.{Store, IsSound, IsStock, IsMade, padded, later_pages, waiting, times, idle}
use Rattle.rdma_types.proofs.Cuts.{length-put}
use Rattle.page_pool.proofs.Counts.{one_if, one_if-same, times-push, idle-is}
use Rattle.page_pool.proofs.Padded.{length-padded, padded-set, padded-put, padded-next, padded-append, later-in, waiting-push, waiting-same, waiting-next, length-waiting, times-waiting}
use Rattle.page_pool.proofs.Stock.{in_stock, restated, sound, stocked, taken}
use Rattle.page_pool.proofs.Kept.{store, store_is}

-- what holds of a page that is drawn
pub record Drawn (bs hs st bs' hs' st' w : List ℕ) (pages page : ℕ) : Type 0 where
  pub whole : length bs' ≡ 4096 * length hs'
  pub within : length hs' ≤ pages
  pub here : page < length (padded pages hs)
  pub free : get_or (padded pages hs) page 0 ≡ 0
  pub bytes : padded (4096 * pages) bs' ≡ put (padded (4096 * pages) bs) (4096 * page) w
  pub holders : padded pages hs' ≡ set (padded pages hs) page 1
  pub waits : waiting hs pages st ≡ waiting hs' pages st' ++ page ∷ []

-- a page of the stock is made
in_made : (hs st rest : List ℕ) (pages page : ℕ) → page < pages → length hs ≤ pages → length (padded pages hs) ≡ pages → st ≡ rest ++ page ∷ [] → get_or (padded pages hs) page 0 ≡ 0 → times page (waiting hs pages st) ≡ idle page (padded pages hs) → page < length hs
in_made hs st rest pages page l within size e none once = by_place (cases_lt page (length hs))
  where
    by_place : (page < length hs) ⊎ (length hs ≤ page) → page < length hs
    by_place (inl b) = b
    by_place (inr b) =
        let is_one : idle page (padded pages hs) ≡ 1 = idle-is (padded pages hs) page (omega arith) ∙ ap (λ n. one_if n 0) none in
        let parts : times page (waiting hs pages st) ≡ times page (later_pages (length hs) (pages - length hs)) + times page st = times-waiting page hs pages st in
        let later : times page (later_pages (length hs) (pages - length hs)) ≡ 1 = later-in (length hs) (pages - length hs) page b (omega arith) in
        let more : times page st ≡ times page rest + one_if page page = ap (times page) e ∙ times-push page rest page in
        let one : one_if page page ≡ 1 = one_if-same page in
        absurd (omega arith)

module _ (now : Store) (bs hs st : List ℕ) (pages cap bytes_room holders_room : ℕ) (seen : store (padded (4096 * pages) bs) (padded pages hs) ≡ now) (m : IsMade bs hs pages bytes_room holders_room) (k : IsStock (padded (4096 * pages) bs) (padded pages hs) (waiting hs pages st) cap) where
  size : length (padded pages hs) ≡ pages
  size = length-padded pages hs m.within

  -- ---- a page of the stock

  waiting_page : (st' : List ℕ) (page : ℕ) → st ≡ st' ++ page ∷ [] → waiting hs pages st ≡ waiting hs pages st' ++ page ∷ []
  waiting_page st' page e = ap (waiting hs pages) e ∙ waiting-push hs pages st' page

  free_page : (st' : List ℕ) (page : ℕ) → st ≡ st' ++ page ∷ [] → (page < length (padded pages hs)) × (get_or (padded pages hs) page 0 ≡ 0)
  free_page st' page e = in_stock (padded (4096 * pages) bs) (padded pages hs) (waiting hs pages st) (waiting hs pages st') cap page k (waiting_page st' page e)

  pub stock_made : (st' : List ℕ) (page : ℕ) → st ≡ st' ++ page ∷ [] → page < length hs
  stock_made st' page e =
      let there = free_page st' page e in
      in_made hs st st' pages page (omega (arith, there.0, size)) m.within size e there.1 (k.once page)

  pub stock_drawn : (st' bs' w : List ℕ) (page : ℕ) → st ≡ st' ++ page ∷ [] → bs' ≡ put bs (page * 4096) w → length w ≡ 4096 → Drawn bs hs st bs' (set hs page 1) st' w pages page
  stock_drawn st' bs' w page e new whole =
      let there = free_page st' page e in
      let made : page < length hs = stock_made st' page e in
      let count : length (set hs page 1) ≡ length hs = length-set hs page 1 in
      let inside : page * 4096 + length w ≤ length bs = omega (arith, m.whole) in
      let place : page * 4096 ≡ 4096 * page = omega arith in
      let bytes_count : length bs' ≡ length bs = ap length new ∙ length-put bs (page * 4096) w inside in
      record {
        whole = omega (arith, m.whole);
        within = omega (arith, m.within);
        here = there.0;
        free = there.1;
        bytes = ap (padded (4096 * pages)) new ∙ (padded-put (4096 * pages) bs (page * 4096) w inside ∙ ap (λ a. put (padded (4096 * pages) bs) a w) place);
        holders = padded-set pages hs page 1 made;
        waits = waiting_page st' page e ∙ ap (λ ys. ys ++ page ∷ []) (waiting-same hs (set hs page 1) pages st' (sym count));
      }

  -- ---- fewer holders than pages

  module _ (room : sum now.holders < length now.holders) where
    some : sum (padded pages hs) < length (padded pages hs)
    some = let e = ap (λ (s : Store). s.holders) seen in omega (arith, room, ap sum e, ap length e)

    -- where the stock is empty, a page is left to be made
    pub left_to_make : length st ≡ 0 → length hs < pages
    left_to_make empty =
        let more : 0 < length (waiting hs pages st) = stocked (padded (4096 * pages) bs) (padded pages hs) (waiting hs pages st) cap k some in
        omega (arith, length-waiting hs pages st)

    pub next_drawn : (st' bs' hs' w : List ℕ) (page : ℕ) → page ≡ length hs → length st ≡ 0 → length st' ≡ 0 → bs' ≡ bs ++ w → hs' ≡ hs ++ 1 ∷ [] → length w ≡ 4096 → Drawn bs hs st bs' hs' st' w pages page
    next_drawn st' bs' hs' w page number empty empty' new new' whole =
        let left : length hs < pages = left_to_make empty in
        let count : length hs' ≡ length hs + 1 = ap length new' ∙ length_push hs 1 in
        let bytes_count : length bs' ≡ length bs + 4096 = ap length new ∙ (length-append bs w ∙ ap (λ n. length bs + n) whole) in
        let place : length bs ≡ 4096 * page = omega (arith, m.whole) in
        let waits : waiting hs pages st ≡ waiting hs' pages st' ++ page ∷ [] =
        ap (waiting hs pages) (nil_from_length st empty)
        ∙ (waiting-next hs hs' pages left count
        ∙ (ap (λ ys. waiting hs' pages ys ++ length hs ∷ []) (sym (nil_from_length st' empty'))
        ∙ ap (λ p. waiting hs' pages st' ++ p ∷ []) (sym number))) in
        let there = in_stock (padded (4096 * pages) bs) (padded pages hs) (waiting hs pages st) (waiting hs' pages st') cap page k waits in
        record {
          whole = omega (arith, m.whole);
          within = omega arith;
          here = there.0;
          free = there.1;
          bytes = ap (padded (4096 * pages)) new ∙ (padded-append (4096 * pages) bs w (omega (arith, m.whole)) ∙ ap (λ a. put (padded (4096 * pages) bs) a w) place);
          holders = ap (padded pages) new' ∙ (padded-next pages hs 1 left ∙ ap (λ p. set (padded pages hs) p 1) (sym number));
          waits = waits;
        }

    -- what the pages are then
    pub drawn_kept : (bs' hs' st' w : List ℕ) (page cap' bytes_room' holders_room' : ℕ) → Drawn bs hs st bs' hs' st' w pages page → bytes_room ≤ bytes_room' → holders_room ≤ holders_room' → cap ≤ cap' → IsMade bs' hs' pages bytes_room' holders_room' × IsStock (padded (4096 * pages) bs') (padded pages hs') (waiting hs' pages st') cap'
    drawn_kept bs' hs' st' w page cap' br hr d b h c =
        let within : length bs ≤ 4096 * pages = omega (arith, m.whole, m.within) in
        let within' : length bs' ≤ 4096 * pages = omega (arith, d.whole, d.within) in
        let same : length (padded (4096 * pages) bs') ≡ length (padded (4096 * pages) bs) = length-padded (4096 * pages) bs' within' ∙ sym (length-padded (4096 * pages) bs within) in (
          record { whole = d.whole; within = d.within; bytes_fit = omega (arith, m.bytes_fit); holders_fit = omega (arith, m.holders_fit) },
          restated (padded (4096 * pages) bs') (padded (4096 * pages) bs') (set (padded pages hs) page 1) (padded pages hs') (waiting hs' pages st') (waiting hs' pages st') cap cap'
              (taken (padded (4096 * pages) bs) (padded (4096 * pages) bs') (padded pages hs) (waiting hs pages st) (waiting hs' pages st') cap page k d.waits same some)
              refl (sym d.holders) refl (omega (arith, k.room, length-set (padded pages hs) page 1)),
        )

    pub drawn_sound : (bs' hs' st' w : List ℕ) (page : ℕ) → Drawn bs hs st bs' hs' st' w pages page → IsSound (store (padded (4096 * pages) bs') (padded pages hs'))
    drawn_sound bs' hs' st' w page d = sound _ _ _ cap (drawn_kept bs' hs' st' w page cap bytes_room holders_room d (omega arith) (omega arith) (omega arith)).1

  -- what callers see of it
  module _ (bs' hs' st' w : List ℕ) (page : ℕ) (d : Drawn bs hs st bs' hs' st' w pages page) where
    pub drawn_here : page < length now.holders
    drawn_here = omega (arith, d.here, ap (λ (s : Store). length s.holders) seen)

    pub drawn_free : get_or now.holders page 0 ≡ 0
    drawn_free = ap (λ (s : Store). get_or s.holders page 0) (sym seen) ∙ d.free

    pub drawn_seen : store (padded (4096 * pages) bs') (padded pages hs') ≡ record { bytes = put now.bytes (4096 * page) w; holders = set now.holders page 1 }
    drawn_seen = store_is _ _ _ _ (d.bytes ∙ ap (λ (s : Store). put s.bytes (4096 * page) w) seen) (d.holders ∙ ap (λ (s : Store). set s.holders page 1) seen)
