use Rattle.std.proofs.Common.{◌≡◌, ◌+◌, ◌*◌, ◌≤◌, ◌∙◌, ap, refl, arith, length, take}
use Rattle.std.specs.Prelude.{vec_capacity}
use Rattle.std.proofs.lemmas.List.{length_push, length-append, take_all}
use Rattle.std.proofs.lemmas.List.Elements.{All-push, All-same}
use Rattle.rdma_types.specs.Memory.{put}
use Rattle.rdma_types.proofs.Cuts.{length-put}
use Rattle.page_pool.specs.Store.{times, blank}
use Rattle.page_pool.specs.Ledger.{AreShared, IsWholePage, own_number, own_numbers}
use Rattle.page_pool.proofs.Counts.{times-none}
use Rattle.page_pool.proofs.Places.{length-blank}
use Rattle.page_pool.proofs.Stock.{pushed_items}
use Rattle.page_pool.proofs.Owned.{bytes-push, length-own, own-push, times-append}
use Rattle.page_pool.proofs.Shares.{shared-none}
use Rattle.page_pool.proofs.claims.take_pages.Goals.{then-first-eq0, else-first-eq0}
use Rattle.page_pool.proofs.claims.take_pages.Goals as goal

pub loop-place-init : goal.loop-place-init
loop-place-init c =
    let all = put (blank (4096 * c.args.count)) c.args.first c.args.bytes.now in
    let pages = c.if-first-eq0.pages in
    let start : AreShared (put (blank (4096 * c.args.count)) c.args.first c.args.bytes.now) c.if-first-eq0.pages.items × (length c.if-first-eq0.pages.items ≤ c.args.count) × (c.args.count ≤ vec_capacity c.if-first-eq0.pages) = elim c.if-first-eq0.branch [
      | then-first-eq0 w ↦ rw (w.pages-is, w.if-first-eq0.true) (w.share_first.ensures.shared, w.share_first.ensures.few, omega (arith, c.requires.room, w.share_first.ensures.room))
      | else-first-eq0 w ↦ rw w.pages-is (shared-none all c.args.pages.now.items c.requires.empty, omega (arith, ap length c.requires.empty), c.requires.room)
    ] in
    let n : length c.if-first-eq0.pages.items ≡ c.len-place.result = omega (arith, c.len-place.ensures, pages.ok.0) in
    let none = start.0.none_own in (
      c.requires.sound,
      refl,
      λ p. omega (arith, times-none p, ap (times p) none),
      omega (arith, ap length none),
      omega (arith, ap length none),
      λ p h. refl,
      start.0.whole,
      start.0.first c.args.frames.now.bytes ∙ ap (λ k. take (4096 * k) all) n,
      n,
      start.2,
    )

pub loop-place-preserved : goal.loop-place-preserved
loop-place-preserved c =
    let frames = c.loop-place.frames in
    let pages = c.loop-place.pages.items in
    let page = c.take_page-page.result in
    let all = put (blank (4096 * c.args.count)) c.args.first c.args.bytes.now in
    let items = pushed_items c.push.result c.unwrap.result c.push.new.self.items pages page c.unwrap.ensures c.push.ensures.items in
    let own = ap own_numbers items ∙ own-push pages page in
    let zeros : length (blank (4096 * c.args.count)) ≡ 4096 * c.args.count = length-blank (4096 * c.args.count) in
    let size : length (put (blank (4096 * c.args.count)) c.args.first c.args.bytes.now) ≡ 4096 * c.args.count = length-put (blank (4096 * c.args.count)) c.args.first c.args.bytes.now (omega (arith, c.requires.inside)) ∙ zeros in (
      c.take_page-page.ensures.sound,
      c.take_page-page.ensures.pages ∙ c.loop-place.invariant.1,
      λ p. omega (arith, c.take_page-page.ensures.counted p, c.loop-place.invariant.2 p, ap (times p) own, times-append p (own_numbers pages) (own_number page)),
      omega (arith, c.take_page-page.ensures.total, c.loop-place.invariant.3, ap length own, length-append (own_numbers pages) (own_number page)),
      omega (arith, c.loop-place.invariant.4, ap length own, length-append (own_numbers pages) (own_number page), length-own page),
      λ p h. c.take_page-page.ensures.kept p (omega (arith, c.loop-place.invariant.2 p)) ∙ c.loop-place.invariant.5 p h,
      All-same IsWholePage _ _ items (All-push IsWholePage pages page c.loop-place.invariant.6 c.take_page-page.ensures.whole),
      bytes-push frames.bytes c.take_page-page.new.frames.bytes pages c.push.new.self.items page all c.loop-place.place (c.from.result * 4096) items
          (λ p l. c.take_page-page.ensures.kept p (omega (arith, c.loop-place.invariant.2 p)))
          c.loop-place.invariant.7
          (c.take_page-page.ensures.bytes (4096 * c.args.count) (omega (arith, c.from.ensures, c.loop-place-test.true)) c.requires.inside)
          (omega (arith, c.from.ensures)) (omega (arith, c.loop-place-test.true)),
      ap length items ∙ (length_push pages page ∙ ap (λ n. n + 1) c.loop-place.invariant.8),
      omega (arith, c.push.ensures.capacity),
    )

pub returns-clause-bytes : goal.returns-clause-bytes
returns-clause-bytes c =
    let all = put (blank (4096 * c.args.count)) c.args.first c.args.bytes.now in
    let size : length (put (blank (4096 * c.args.count)) c.args.first c.args.bytes.now) ≡ 4096 * c.args.count = length-put (blank (4096 * c.args.count)) c.args.first c.args.bytes.now (omega (arith, c.requires.inside, length-blank (4096 * c.args.count))) ∙ length-blank (4096 * c.args.count) in
    c.loop-place.invariant.7 ∙ take_all (4096 * c.loop-place.place) all (omega (arith, c.loop-place-test.false))
