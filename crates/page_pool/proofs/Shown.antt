-- The bytes of pages of 4,096 bytes each, one page after another.
use Rattle.std.proofs.Common.{◌≡◌, ℕ, ◌+◌, ◌*◌, ◌<◌, ◌≤◌, List, [], ◌∷◌, ◌++◌, length, get_or, set, arith, ap, sym, ◌∙◌}
use Rattle.std.specs.Prelude.{All}
use Rattle.std.specs.List.{flat_map}
use Rattle.std.proofs.lemmas.List.{length-set, append-nil, get_or_default, get_or-set_same, get_or-set_other}
use Rattle.std.proofs.lemmas.List.Concat.{flat_map-append}
use Rattle.rdma_types.specs.Memory.{cut, put}
use Rattle.rdma_types.proofs.Cuts.{cut-whole}
use Rattle.byte_run.proofs.Joined.{AreEven, length-joined, cut-joined, put-joined}
use Rattle.page_pool.proofs.Pages.{put-whole}

module _ (pages : List (List ℕ)) (items : List ℕ) (h : All (λ page. length page ≡ 4096) pages) (e : flat_map (λ page. page) pages ≡ items) where
  evens : AreEven (λ page. page) 4096 [] pages
  evens i l = h i [] l

  pub all_bytes : length items ≡ 4096 * length pages
  all_bytes = ap length (sym e) ∙ length-joined (λ page. page) 4096 [] pages evens

  -- a page whose bytes are there
  pub page_there : (page : ℕ) → page * 4096 + 4096 ≤ length items → page < length pages
  page_there page l = omega (arith, all_bytes)

  -- its bytes
  pub page_is : (page : ℕ) (x : List ℕ) → page * 4096 + 4096 ≤ length items → x ≡ get_or pages page x → x ≡ cut (page * 4096) 4096 items
  page_is page x l read =
      let there : page < length pages = page_there page l in
      let place : 4096 * page + 0 ≡ page * 4096 = omega arith in
      let size : length x ≡ 4096 = ap length read ∙ h page x there in
      sym (ap (λ bytes. cut (page * 4096) 4096 bytes) (sym e)
      ∙ (ap (λ a. cut a 4096 (flat_map (λ page. page) pages)) (sym place)
      ∙ (cut-joined (λ page. page) 4096 x pages page 0 4096 (λ i l. h i x l) there (omega arith)
      ∙ (ap (cut 0 4096) (sym read) ∙ cut-whole x 4096 (omega arith)))))

  -- bytes written in it
  pub put_items : (page at : ℕ) (w x v : List ℕ) → page * 4096 + 4096 ≤ length items → x ≡ get_or pages page x → at + length w ≤ 4096 → v ≡ put x at w → flat_map (λ page. page) (set pages page v) ≡ put items (page * 4096 + at) w
  put_items page at w x v l read room is =
      let there : page < length pages = page_there page l in
      let place : 4096 * page + at ≡ page * 4096 + at = omega arith in
      put-joined (λ page. page) (λ page. page) 4096 x x pages (set pages page v) page at w (λ i l. h i x l) there room (length-set pages page v)
      (get_or-set_same pages page v x there ∙ (is ∙ ap (λ page. put page at w) read))
      (λ j m n. get_or-set_other pages page j v x n)
      ∙ (ap (λ a. put (flat_map (λ page. page) pages) a w) place ∙ ap (λ bytes. put bytes (page * 4096 + at) w) e)

  -- all of it written
  pub set_items : (page : ℕ) (w : List ℕ) → page * 4096 + 4096 ≤ length items → length w ≡ 4096 → flat_map (λ page. page) (set pages page w) ≡ put items (page * 4096) w
  set_items page w l whole =
      let there : page < length pages = page_there page l in
      let place : page * 4096 + 0 ≡ page * 4096 = omega arith in
      let size : length (get_or pages page w) ≡ 4096 = h page w there in
      put_items page 0 w (get_or pages page w) w l (get_or_default pages page w (get_or pages page w) there) (omega arith) (sym (put-whole (get_or pages page w) w (omega arith)))
      ∙ ap (λ a. put items a w) place

  -- one page more
  pub pushed_items : (w : List ℕ) → flat_map (λ page. page) (pages ++ w ∷ []) ≡ items ++ w
  pushed_items w = flat_map-append (λ page. page) pages (w ∷ []) ∙ (ap (λ xs. flat_map (λ page. page) pages ++ xs) (append-nil w) ∙ ap (λ bytes. bytes ++ w) e)
