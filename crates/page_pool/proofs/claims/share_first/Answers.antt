use Rattle.std.proofs.Common.{◌≡◌, ◌*◌, arith, length}
use Rattle.page_pool.proofs.Shares.{laid-behind, laid-shared, run-shared, whole-few}
use Rattle.page_pool.proofs.claims.share_first.Goals as goal

pub share_pages-requires-clause-room : goal.share_pages-requires-clause-room
share_pages-requires-clause-room c = omega (arith, c.requires.inside, c.requires.room, whole-few c.whole_pages.result.now c.args.bytes.now c.whole_pages.ensures.even c.whole_pages.ensures.bytes)

pub overflow_mul-len : goal.overflow_mul-len
overflow_mul-len c = omega (arith, c.ranges.count.fits, c.requires.inside, c.len-2.ensures, c.share_pages.new.pages.ok.0, c.share_pages.ensures.few, whole-few c.whole_pages.result.now c.args.bytes.now c.whole_pages.ensures.even c.whole_pages.ensures.bytes)

pub overflow_sub-count : goal.overflow_sub-count
overflow_sub-count c = omega (arith, c.requires.inside, c.len-then-len.ensures, c.share_pages.new.pages.ok.0, c.share_pages.ensures.few, whole-few c.whole_pages.result.now c.args.bytes.now c.whole_pages.ensures.even c.whole_pages.ensures.bytes)

pub returns-then-len-clause-shared : goal.returns-then-len-clause-shared
returns-then-len-clause-shared c =
    let bytes = c.args.bytes.now in
    let pages = c.share_pages.new.pages.items in
    let few = whole-few c.whole_pages.result.now bytes c.whole_pages.ensures.even c.whole_pages.ensures.bytes in
    let size : length c.args.bytes.now ≡ 4096 * length c.share_pages.new.pages.items = omega (arith, few, c.if-len.true, c.len.ensures, c.len-2.ensures, c.share_pages.new.pages.ok.0, c.share_pages.ensures.few) in
    laid-behind bytes (4096 * c.args.count) _ c.share_zeros.new.pages.items c.requires.inside
    (omega (arith, size, c.requires.inside, c.len-then-len.ensures, c.share_pages.new.pages.ok.0))
    (c.share_zeros.ensures.shared bytes (run-shared c.whole_pages.result.now bytes pages c.whole_pages.ensures.even c.whole_pages.ensures.bytes c.share_pages.ensures.few c.share_pages.ensures.shared) size)

pub returns-then-len-clause-few : goal.returns-then-len-clause-few
returns-then-len-clause-few c = omega (arith, c.requires.inside, c.share_zeros.ensures.few, c.len-then-len.ensures, c.share_pages.new.pages.ok.0, c.share_pages.ensures.few, whole-few c.whole_pages.result.now c.args.bytes.now c.whole_pages.ensures.even c.whole_pages.ensures.bytes)

pub returns-else-len-clause-shared : goal.returns-else-len-clause-shared
returns-else-len-clause-shared c =
    let bytes = c.args.bytes.now in
    let pages = c.share_pages.new.pages.items in
    let few = whole-few c.whole_pages.result.now bytes c.whole_pages.ensures.even c.whole_pages.ensures.bytes in
    laid-shared bytes (4096 * c.args.count) pages c.requires.inside
    (omega (arith, few, c.share_pages.ensures.few))
    (run-shared c.whole_pages.result.now bytes pages c.whole_pages.ensures.even c.whole_pages.ensures.bytes c.share_pages.ensures.few c.share_pages.ensures.shared)
