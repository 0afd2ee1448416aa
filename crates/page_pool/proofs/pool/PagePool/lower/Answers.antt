use Rattle.std.proofs.Common.{◌+◌, ◌*◌, ap, length, refl, arith, subst}
use Rattle.rdma_types.specs.Memory.{put}
use Rattle.page_pool.specs.Store.{blank}
use Rattle.page_pool.specs.Pool.{Puts, free_pages}
use Rattle.std.specs.Prelude.{Err, Some}
use Rattle.page_pool.proofs.Writes.{too-few, enough-pages, pages-hold, pages-for-is}
use Rattle.page_pool.proofs.pool.PagePool.lower.Goals as goal
use Rattle.page_pool.proofs.pool.PagePool.lower.Goals.{then-room-first-via-then-room-first, then-room-first-via-else-room-first+then-room-first-2}

pub returns-then-room-first-clause-no_page : goal.returns-then-room-first-clause-no_page
returns-then-room-first-clause-no_page c = (
  λ _. elim c.then-room-first.branch [
    | then-room-first-via-then-room-first w ↦ too-few (free_pages c.args.self.now) (c.args.first + length c.args.bytes) (omega (arith, c.from-room.ensures, c.free.ensures.free, w.if-room-first.true))
    | then-room-first-via-else-room-first+then-room-first-2 w ↦ too-few (free_pages c.args.self.now) (c.args.first + length c.args.bytes) (omega (arith, c.from-room.ensures, c.free.ensures.free, w.if-room-first.false, w.len.ensures, w.if-room-first-2.true))
  ],
  λ _. refl,
)

pub take_with-requires : goal.take_with-requires
take_with-requires c =
    let pages = pages-for-is c.div_ceil-pages.result c.args.first c.len-2.result (length c.args.bytes) c.div_ceil-pages.ensures c.len-2.ensures in
    omega (arith, pages, pages-hold (c.args.first + length c.args.bytes))

pub returns-in-Ok-clause-puts : goal.returns-in-Ok-clause-puts
returns-in-Ok-clause-puts c =
    let pages = pages-for-is c.div_ceil-pages.result c.args.first c.len-2.result (length c.args.bytes) c.div_ceil-pages.ensures c.len-2.ensures in
    subst (λ n. Puts c.args.self.now c.take_with.new.self c.in-Ok.list (Some (put (blank (4096 * n)) c.args.first c.args.bytes))) pages c.in-Ok.ensures.puts

pub returns-in-Ok-clause-free : goal.returns-in-Ok-clause-free
returns-in-Ok-clause-free c =
    let pages = pages-for-is c.div_ceil-pages.result c.args.first c.len-2.result (length c.args.bytes) c.div_ceil-pages.ensures c.len-2.ensures in
    omega (arith, pages, c.in-Ok.ensures.free)

pub returns-in-Ok-clause-enough : goal.returns-in-Ok-clause-enough
returns-in-Ok-clause-enough c = enough-pages (free_pages c.args.self.now) (c.args.first + length c.args.bytes) (omega (arith, c.from-room.ensures, c.free.ensures.free, c.if-room-first.false, c.len.ensures, c.if-room-first-2.false))

pub returns-in-Err-clause-no_page : goal.returns-in-Err-clause-no_page
returns-in-Err-clause-no_page c =
    let pages = pages-for-is c.div_ceil-pages.result c.args.first c.len-2.result (length c.args.bytes) c.div_ceil-pages.ensures c.len-2.ensures in
    let room = enough-pages (free_pages c.args.self.now) (c.args.first + length c.args.bytes) (omega (arith, c.from-room.ensures, c.free.ensures.free, c.if-room-first.false, c.len.ensures, c.if-room-first-2.false)) in
    (λ e. absurd (omega (arith, room, pages, c.in-Err.ensures.no_page.0 (ap Err e))), λ few. absurd (omega (arith, room, few)))
