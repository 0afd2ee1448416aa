-- A list whose page is read or written.
use Rattle.std.proofs.Common.{◌≡◌, ℕ, subst, ◌+◌, ◌-◌, ◌*◌, ◌/◌, ◌%◌, ◌<◌, ◌≤◌, ◌≢◌, List, [], ◌++◌, length, take, drop, get_or, set, sum, arith, refl, ap, sym, ◌∙◌, inl, inr}
use Rattle.std.specs.Prelude.{◌⊎◌, All, Option, Some, None, IsSome, is_some, unwrap_or}
use Rattle.std.specs.List.{AllZip, flat_map}
use Rattle.std.specs.Int.{div_ceil}
use Rattle.std.specs.declared.vec.Vec.{Vec}
use Rattle.std.specs.declared.alloc.Global.{Global}
use Rattle.std.proofs.lemmas.Bool.{cases_lt}
use Rattle.std.proofs.lemmas.List.{get_or_past, length-set, get_or-set_same, get_or-set_other, length-drop, length-take, take_all}
use Rattle.std.proofs.lemmas.List.Elements.{All-set, All-take, All-drop}
use Rattle.rdma_types.specs.Memory.{cut, put}
use Rattle.rdma_types.proofs.Cuts.{length-put, cut-meet, put-none}
use Rattle.byte_run.proofs.Runs.{take-cut, put-more}
use Rattle.byte_run.proofs.Joined.{joined-part, put-joined, cut-joined}
use Rattle.page_pool.specs.Store.{Store, IsSound, times}
use Rattle.page_pool.specs.Pool.{Pool, Puts, bytes_of, bytes_in, IsIn, pages_of, pages_for}
use Rattle.page_pool.specs.Ledger.{IsLedger, IsPool, IsSamePage, IsWholePage, slot, pages, own_number, own_numbers, own_in_all, in_all, shown, held_by, pool_of, page_at, page_bytes}
use Rattle.page_pool.specs.declared.page.Page.{Page}
use Rattle.page_pool.proofs.Owned.{bytes-same}
use Rattle.page_pool.proofs.Listed.{all-held, length-owned_set, owned-few, owned-spare, same-all_bytes, same-all_whole, same-length, same-numbers, spare-place, times-none_owned, times-owned_set, times-part, times-parts, times-row, two-places}
use Rattle.page_pool.proofs.Ledgers.{Slots, bytes-are, even-list, held-within, ledger-changed, page-held, pool-changed, puts-changed, size-is, slot-within}

-- the rest of a list is a part of it
tail-cut : (n m : ℕ) (p : List ℕ) → length p ≡ m → drop n p ≡ cut n (m - n) p
unfolding cut
tail-cut n m p h = sym (take_all (m - n) (drop n p) (let size : length (drop n p) ≡ length p - n = length-drop n p in omega arith))

-- one change after another of one list
pub puts-after : (a b c : Pool) (k : ℕ) (x y : Option (List ℕ)) → Puts a b k x → Puts b c k y → Puts a c k y
puts-after a b c k x y f g = record { pages = g.pages ∙ f.pages; here = g.here; others = λ j n. g.others j n ∙ f.others j n }

-- ---- a page is read

module _ (frames : Store) (lists : Slots) (now : Pool) (k : ℕ) (v : Vec Page Global) (g : IsLedger frames lists) (e : pool_of frames lists ≡ now) (s : slot lists k ≡ Some v) where
  -- a byte of a list stands in a page
  pub place-there : (at : ℕ) → at < length (bytes_in now k) → at / 4096 < length v.items
  place-there at l = omega (arith, (size-is frames lists now k v g e s).0)

  -- a page of a list has holders
  pub read-held : (i : ℕ) (page : Page) → i < length v.items → page ≡ get_or v.items i page → All (λ n. 0 < get_or frames.holders n 0) (own_number page)
  read-held i page l r =
      let is : get_or (pages (slot lists k)) i page ≡ page = ap (λ t. get_or (pages t) i page) s ∙ sym r in
      subst (λ p. All (λ n. 0 < get_or frames.holders n 0) (own_number p)) is (page-held frames lists k i page g (omega (arith, ap (λ t. length (pages t)) s)))

  -- and is whole
  pub read-whole : (i : ℕ) (page : Page) → i < length v.items → page ≡ get_or v.items i page → IsWholePage page
  read-whole i page l r =
      let is : get_or (pages (slot lists k)) i page ≡ page = ap (λ t. get_or (pages t) i page) s ∙ sym r in
      subst IsWholePage is (g.whole k i page (omega (arith, ap (λ t. length (pages t)) s)))

  -- the pages of a list have 4,096 bytes each
  read-even : (d : Page) (i : ℕ) → i < length v.items → length (page_bytes frames.bytes (get_or v.items i d)) ≡ 4096
  read-even d i l = ap (λ t. length (page_bytes frames.bytes (get_or (pages t) i d))) (sym s) ∙ even-list frames lists k d g i (omega (arith, ap (λ t. length (pages t)) s))

  pub read-size : (i : ℕ) (page : Page) → i < length v.items → page ≡ get_or v.items i page → length (page_bytes frames.bytes page) ≡ 4096
  read-size i page l r = ap (λ p. length (page_bytes frames.bytes p)) r ∙ read-even page i l

  -- the bytes of a list are those of its pages
  read-all : bytes_in now k ≡ flat_map (page_bytes frames.bytes) v.items
  read-all = ap (λ o. unwrap_or o []) (bytes-are frames lists now k v e s)

  -- the bytes from a place of a list to the end of its page
  pub read-bytes : (at : ℕ) (page : Page) (bytes rest : List ℕ) → at < length (bytes_in now k) → page ≡ get_or v.items (at / 4096) page → bytes ≡ page_bytes frames.bytes page → rest ≡ drop (at % 4096) bytes → (rest ≡ cut at (4096 - at % 4096) (bytes_in now k)) × (length rest ≡ 4096 - at % 4096)
  read-bytes at page bytes rest l r bytes_is rest_is = (here, length_is)
    where
      place : at / 4096 < length v.items
      place = place-there at l

      size : length bytes ≡ 4096
      size = ap length bytes_is ∙ read-size (at / 4096) page place r

      length_is : length rest ≡ 4096 - at % 4096
      length_is = ap length rest_is ∙ (length-drop (at % 4096) bytes ∙ ap (λ n. n - at % 4096) size)

      at_is : at ≡ 4096 * (at / 4096) + at % 4096
      at_is = omega arith

      here : rest ≡ cut at (4096 - at % 4096) (bytes_in now k)
      here = rest_is ∙ (tail-cut (at % 4096) 4096 bytes size
          ∙ (ap (cut (at % 4096) (4096 - at % 4096)) (bytes_is ∙ ap (page_bytes frames.bytes) r)
          ∙ (sym (cut-joined (page_bytes frames.bytes) 4096 page v.items (at / 4096) (at % 4096) (4096 - at % 4096) (read-even page) place (omega arith))
          ∙ (ap (λ a. cut a (4096 - at % 4096) (flat_map (page_bytes frames.bytes) v.items)) (sym at_is)
          ∙ ap (cut at (4096 - at % 4096)) (sym read-all)))))

  -- ---- pages of a list in a row, as they were copied

  module _ (first count : ℕ) (ps part : List Page) (is : ps ≡ v.items) (same : AllZip IsSamePage (take count (drop first ps)) part) where
    pub part-length : first + count ≤ length v.items → length part ≡ count
    part-length room = same-length (take count (drop first ps)) part same ∙ length-part-of room
      where
        length-part-of : first + count ≤ length v.items → length (take count (drop first ps)) ≡ count
        length-part-of h = simp (length-take, length-drop) (omega (arith, ap length is))

    -- they have no more holders than all have
    part-within : (n : ℕ) → times n (own_numbers part) ≤ get_or frames.holders n 0
    part-within n = omega (arith, ap (times n) (same-numbers (take count (drop first ps)) part same), times-row n first count ps, ap (λ t. times n (own_numbers t)) is, ap (λ t. times n (own_numbers (pages t))) s, held-within frames lists k n g)

    pub part-held : (i : ℕ) → i < length (own_numbers part) → 0 < get_or frames.holders (get_or (own_numbers part) i 0) 0
    part-held i l = all-held frames.holders (own_numbers part) part-within i 0 l

    pub part-whole : All IsWholePage part
    part-whole =
        let all : All IsWholePage ps = subst (All IsWholePage) (sym is) (subst (λ t. All IsWholePage (pages t)) s (g.whole k)) in
        same-all_whole (take count (drop first ps)) part same (All-take IsWholePage count (drop first ps) (All-drop IsWholePage first ps all))

    pub part-bytes : (d : Page) → first + count ≤ length v.items → flat_map (page_bytes frames.bytes) part ≡ cut (4096 * first) (4096 * count) (bytes_in now k)
    part-bytes d room =
        same-all_bytes frames.bytes (take count (drop first ps)) part same
        ∙ (ap (λ t. flat_map (page_bytes frames.bytes) (take count (drop first t))) is
        ∙ (joined-part (page_bytes frames.bytes) 4096 d v.items first count (read-even d) room
        ∙ ap (cut (4096 * first) (4096 * count)) (sym read-all)))

-- ---- whole pages of a list in a row, to be shared

-- there are none, or the first of them begins at a place
abbrev pub AreAt : ℕ → ℕ → Type 0
AreAt first whole = (whole ≡ 0) ⊎ (first % 4096 ≡ 0)

module _ (frames : Store) (lists : Slots) (now : Pool) (k first whole n : ℕ) (v : Vec Page Global) (ps : List Page) (g : IsLedger frames lists) (e : pool_of frames lists ≡ now) (s : slot lists k ≡ Some v) (is : ps ≡ v.items) (n_is : n ≡ whole) where
  pub row-held : All (λ m. 0 < get_or frames.holders m 0) (own_numbers (take n (drop (first / 4096) ps)))
  row-held = all-held frames.holders (own_numbers (take n (drop (first / 4096) ps))) (λ m. omega (arith, times-row m (first / 4096) n ps, ap (λ t. times m (own_numbers t)) is, ap (λ t. times m (own_numbers (pages t))) s, held-within frames lists k m g))

  pub row-whole : All IsWholePage (take n (drop (first / 4096) ps))
  row-whole =
      let all : All IsWholePage ps = subst (All IsWholePage) (sym is) (subst (λ t. All IsWholePage (pages t)) s (g.whole k)) in
      All-take IsWholePage n (drop (first / 4096) ps) (All-drop IsWholePage (first / 4096) ps all)

  pub row-within : (count : ℕ) → AreAt first whole → whole * 4096 ≤ count → first + count ≤ length (bytes_in now k) → first / 4096 + whole ≤ length v.items
  row-within count (inl none) most inside = omega (arith, (size-is frames lists now k v g e s).0)
  row-within count (inr round) most inside = omega (arith, (size-is frames lists now k v g e s).0)

  pub row-bytes : (d : Page) → AreAt first whole → first / 4096 + whole ≤ length v.items → flat_map (page_bytes frames.bytes) (take n (drop (first / 4096) ps)) ≡ cut first (whole * 4096) (bytes_in now k)
  unfolding cut
  row-bytes d (inl none) inside = rw (n_is, none) refl
  row-bytes d (inr round) inside =
      let at : 4096 * (first / 4096) ≡ first = omega arith in
      let size : 4096 * whole ≡ whole * 4096 = omega arith in
      ap (λ m. flat_map (page_bytes frames.bytes) (take m (drop (first / 4096) ps))) n_is
      ∙ (ap (λ t. flat_map (page_bytes frames.bytes) (take whole (drop (first / 4096) t))) is
      ∙ (joined-part (page_bytes frames.bytes) 4096 d v.items (first / 4096) whole (read-even frames lists now k v g e s d) inside
      ∙ (ap (λ a. cut a (4096 * whole) (flat_map (page_bytes frames.bytes) v.items)) at
      ∙ (ap (λ m. cut first m (flat_map (page_bytes frames.bytes) v.items)) size
      ∙ ap (cut first (whole * 4096)) (sym (read-all frames lists now k v g e s))))))

-- ---- a page is written

module _ (frames : Store) (lists : Slots) (held k i : ℕ) (v : Vec Page Global) (page : Page) (g : IsPool frames lists held) (s : slot lists k ≡ Some v) (l : i < length v.items) (r : page ≡ get_or v.items i page) where
  within : (n : ℕ) → times n (own_number page) ≤ times n (own_numbers v.items)
  within n = omega (arith, times-part n v.items i page l, ap (λ p. times n (own_number p)) r)

  -- another list has the page too: it has holders besides this one
  held-besides : (j n : ℕ) → j ≢ k → 0 < times n (own_numbers (pages (slot lists j))) → times n (own_number page) < get_or frames.holders n 0
  unfolding held_by
  held-besides j n ne h = by_place (cases_lt j (length lists))
    where
      by_place : (j < length lists) ⊎ (length lists ≤ j) → times n (own_number page) < get_or frames.holders n 0
      by_place (inl b) = omega (arith, h, within n, g.ledger.counted n, two-places (λ t. times n (own_numbers (pages t))) lists k j None ne (slot-within lists k v s) b, ap (λ t. times n (own_numbers (pages t))) s)
      by_place (inr b) = absurd (omega (arith, h, times-none_owned n, ap (λ t. times n (own_numbers (pages t))) (get_or_past lists j None b)))

  -- the same list has it at another place
  held-beside : (j n : ℕ) → j ≢ i → j < length v.items → 0 < times n (own_number (get_or v.items j page)) → times n (own_number page) < get_or frames.holders n 0
  held-beside j n ne b h = omega (arith, h, times-parts n v.items i j page ne l b, ap (λ p. times n (own_number p)) r, held-within frames lists k n g.ledger, ap (λ t. times n (own_numbers (pages t))) s)

  -- there is a page for it
  pub page-room : sum frames.holders + 1 ≤ length frames.holders + length (own_number page)
  unfolding own_in_all in_all
  page-room = omega (arith, g.ledger.total, g.counted, g.room, spare-place (λ t. length (own_numbers (pages t))) (λ t. length (pages t)) lists k None (λ t. owned-few (pages t)) (slot-within lists k v s), ap (λ t. length (own_numbers (pages t))) s, ap (λ t. length (pages t)) s, owned-spare v.items i page l, ap (λ p. length (own_number p)) r)

  module _ (frames' : Store) (page' : Page) (w : Vec Page Global) (is : w.items ≡ set v.items i page') (len : length frames'.holders ≡ length frames.holders) where
    now_is : slot (set lists k (Some w)) k ≡ Some w
    now_is = get_or-set_same lists k (Some w) None (slot-within lists k v s)

    others : (j : ℕ) → j ≢ k → slot (set lists k (Some w)) j ≡ slot lists j
    others j ne = get_or-set_other lists k j (Some w) None ne

    -- the ledger after the write
    pub pool-written : IsSound frames' → ((n : ℕ) → get_or frames'.holders n 0 + times n (own_number page) ≡ get_or frames.holders n 0 + times n (own_number page')) → sum frames'.holders + length (own_number page) ≡ sum frames.holders + length (own_number page') → IsWholePage page' → IsPool frames' (set lists k (Some w)) held
    pool-written sound counted total whole =
        pool-changed frames frames' lists (set lists k (Some w)) held held k g ledger others
        (omega (arith, ap length is, length-set v.items i page', ap (λ t. length (pages t)) s, ap (λ t. length (pages t)) now_is))
        (omega (arith, g.room, len))
      where
        all_whole : All IsWholePage (pages (slot (set lists k (Some w)) k))
        all_whole = subst (λ t. All IsWholePage (pages t)) (sym now_is) (subst (All IsWholePage) (sym is) (All-set IsWholePage v.items i page' whole (subst (λ t. All IsWholePage (pages t)) s (g.ledger.whole k))))

        ledger : IsLedger frames' (set lists k (Some w))
        ledger = ledger-changed frames frames' lists (set lists k (Some w)) k g.ledger sound others all_whole
            (λ n. omega (arith, counted n, times-owned_set n v.items i page' page l, ap (λ p. times n (own_number p)) r, ap (λ t. times n (own_numbers t)) is, ap (λ t. times n (own_numbers (pages t))) s, ap (λ t. times n (own_numbers (pages t))) now_is))
            (omega (arith, total, length-owned_set v.items i page' page l, ap (λ p. length (own_number p)) r, ap (λ t. length (own_numbers t)) is, ap (λ t. length (own_numbers (pages t))) s, ap (λ t. length (own_numbers (pages t))) now_is))

    -- the pool after the write
    pub puts-written : (now : Pool) (at off : ℕ) (ws : List ℕ) → pool_of frames lists ≡ now → off + length ws ≤ 4096 → at ≡ 4096 * i + off → ((n : ℕ) → times n (own_number page) < get_or frames.holders n 0 → page_at frames'.bytes n ≡ page_at frames.bytes n) → page_bytes frames'.bytes page' ≡ put (page_bytes frames.bytes page) off ws → Puts now (pool_of frames' (set lists k (Some w))) k (Some (put (bytes_in now k) at ws))
    puts-written now at off ws e room at_is kept bytes =
        puts-changed frames frames' lists (set lists k (Some w)) now k (Some (put (bytes_in now k) at ws)) e len others
        (λ j n ne h. kept n (held-besides j n ne h))
        (ap (shown frames'.bytes) now_is ∙ ap Some written)
      where
        all : bytes_in now k ≡ flat_map (page_bytes frames.bytes) v.items
        all = read-all frames lists now k v g.ledger e s

        here : page_bytes frames'.bytes (get_or w.items i page) ≡ put (page_bytes frames.bytes (get_or v.items i page)) off ws
        here = ap (λ t. page_bytes frames'.bytes (get_or t i page)) is ∙ (ap (page_bytes frames'.bytes) (get_or-set_same v.items i page' page l) ∙ (bytes ∙ ap (λ p. put (page_bytes frames.bytes p) off ws) r))

        beside : (j : ℕ) → j < length v.items → j ≢ i → page_bytes frames'.bytes (get_or w.items j page) ≡ page_bytes frames.bytes (get_or v.items j page)
        beside j b ne = ap (λ t. page_bytes frames'.bytes (get_or t j page)) is ∙ (ap (page_bytes frames'.bytes) (get_or-set_other v.items i j page' page ne) ∙ bytes-same frames.bytes frames'.bytes (get_or v.items j page) (λ n h. kept n (held-beside j n ne b h)))

        written : flat_map (page_bytes frames'.bytes) w.items ≡ put (bytes_in now k) at ws
        written = put-joined (page_bytes frames.bytes) (page_bytes frames'.bytes) 4096 page page v.items w.items i off ws (read-even frames lists now k v g.ledger e s page) l room (ap length is ∙ length-set v.items i page') here beside
            ∙ (ap (λ a. put (flat_map (page_bytes frames.bytes) v.items) a ws) (sym at_is)
            ∙ ap (λ xs. put xs at ws) (sym all))

-- a part of a list, by its own length
pub sized-cut : (piece bytes : List ℕ) (at n : ℕ) → piece ≡ cut at n bytes → length piece ≡ n → at + n ≤ length bytes → (piece ≡ cut at (length piece) bytes) × (at + length piece ≤ length bytes)
sized-cut piece bytes at n e l h = (e ∙ ap (λ m. cut at m bytes) (sym l), omega arith)

-- one more piece behind a run
pub run-more : (bytes piece part run run' : List ℕ) (at done count n : ℕ) → run ≡ cut at done bytes → piece ≡ cut (at + done) n bytes → count ≤ n → at + done + n ≤ length bytes → part ≡ take count piece → run' ≡ run ++ part → run' ≡ cut at (done + count) bytes
run-more bytes piece part run run' at done count n before is within room part_is e =
    let part' : part ≡ cut (at + done) count bytes = part_is ∙ (ap (take count) is ∙ take-cut (at + done) count n bytes within) in
    e ∙ (ap (λ xs. xs ++ part) before ∙ (ap (λ xs. cut at done bytes ++ xs) part' ∙ cut-meet at done count bytes (omega arith)))

-- the bytes of a list after a change of it
pub bytes-after : (a b : Pool) (k : ℕ) (bytes : List ℕ) → Puts a b k (Some bytes) → bytes_in b k ≡ bytes
bytes-after a b k bytes h = ap (λ o. unwrap_or o []) h.here

pub in-after : (a b : Pool) (k : ℕ) (bytes : List ℕ) → Puts a b k (Some bytes) → IsIn b k
in-after a b k bytes h = ap is_some h.here

-- one more piece of bytes written into a list
pub write-more : (a b c : Pool) (k : ℕ) (bytes part : List ℕ) (at done count : ℕ) → Puts a b k (Some (put (bytes_in a k) at (take done bytes))) → Puts b c k (Some (put (bytes_in b k) (at + done) part)) → part ≡ cut done count bytes → at + length bytes ≤ length (bytes_in a k) → done + count ≤ length bytes → Puts a c k (Some (put (bytes_in a k) at (take (done + count) bytes)))
write-more a b c k bytes part at done count f g is room l =
    let now : put (bytes_in b k) (at + done) part ≡ put (bytes_in a k) at (take (done + count) bytes) =
    ap (λ xs. put xs (at + done) part) (bytes-after a b k (put (bytes_in a k) at (take done bytes)) f)
    ∙ (ap (put (put (bytes_in a k) at (take done bytes)) (at + done)) is ∙ put-more (bytes_in a k) bytes at done count room l) in
    subst (λ xs. Puts a c k (Some xs)) now (puts-after a b c k _ _ f g)

-- nothing written yet
pub write-none : (a : Pool) (k at : ℕ) (bytes : List ℕ) → IsIn a k → Puts a a k (Some (put (bytes_in a k) at (take 0 bytes)))
write-none a k at bytes h = record { pages = refl; here = there (bytes_of a k) refl h ∙ ap Some (sym (put-none (bytes_in a k) at)); others = λ j n. refl }
  where
    there : (o : Option (List ℕ)) → bytes_of a k ≡ o → IsSome o → bytes_of a k ≡ Some (bytes_in a k)
    there None e h = absurd (cc)
    there (Some xs) e h = e ∙ ap Some (sym (ap (λ o. unwrap_or o []) e))

-- a page of a list ends within it
pub piece-fits : (a : Pool) (k at size : ℕ) → size ≡ length (bytes_in a k) → 4096 * pages_of (bytes_of a k) ≡ size → at < length (bytes_in a k) → at + (4096 - at % 4096) ≤ length (bytes_in a k)
piece-fits a k at size e p l = page-fits at (pages_of (bytes_of a k)) (length (bytes_in a k)) (omega arith) l
  where
    page-fits : (at n m : ℕ) → m ≡ 4096 * n → at < m → at + (4096 - at % 4096) ≤ m
    page-fits at n m e l = omega arith

-- a list keeps its size
pub size-after : (a b : Pool) (k at done : ℕ) (bytes : List ℕ) → Puts a b k (Some (put (bytes_in a k) at (take done bytes))) → at + length bytes ≤ length (bytes_in a k) → length (bytes_in b k) ≡ length (bytes_in a k)
size-after a b k at done bytes h room =
    let front : length (take done bytes) ≤ length bytes = simp length-take (omega arith) in
    ap length (bytes-after a b k (put (bytes_in a k) at (take done bytes)) h) ∙ length-put (bytes_in a k) at (take done bytes) (omega arith)

-- fewer pages than so many bytes need
pub too-few : (free total : ℕ) → free * 4096 < total → free < pages_for total
unfolding pages_for
too-few free total h = omega arith

-- pages enough for so many bytes
pub enough-pages : (free total : ℕ) → total ≤ free * 4096 → pages_for total ≤ free
unfolding pages_for
enough-pages free total h = omega arith

-- so many pages hold the bytes
pub pages-hold : (total : ℕ) → total ≤ 4096 * pages_for total
unfolding pages_for
pages-hold total = omega arith

pub pages-for-is : (pages a b n : ℕ) → pages ≡ div_ceil (a + b) 4096 → b ≡ n → pages ≡ pages_for (a + n)
unfolding pages_for
pages-for-is pages a b n e f = e ∙ ap (λ m. div_ceil (a + m) 4096) f
