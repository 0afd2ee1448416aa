use Rattle.std.proofs.Common.{◌≡◌, ◌<◌, ◌∙◌, ap, length, get_or, arith}
use Rattle.rdma_types.specs.Memory.{put}
use Rattle.page_pool.specs.Store.{Store, times}
use Rattle.page_pool.specs.Ledger.{own_number, page_at, page_bytes}
use Rattle.page_pool.proofs.Pages.{page-put_same}
use Rattle.page_pool.proofs.Steps.{inside}
use Rattle.page_pool.proofs.Owned.{put-kept}
use Rattle.page_pool.proofs.page.write_page.Goals as goal

pub returns-clause-kept : goal.returns-clause-kept
returns-clause-kept c =
    let q = c.own_page-number.result in
    let left : c.put_shared.new.page ≡ c.args.page.now = c.put_shared.ensures.left c.if-put_shared.false in
    λ p h.
    let there : times p (own_number c.put_shared.new.page) < get_or c.args.frames.now.holders p 0 = omega (arith, ap (λ x. times p (own_number x)) left) in
    put-kept c.args.frames.now.holders c.own_page-number.new.frames.holders (own_number c.put_shared.new.page) c.own_page-number.new.frames.bytes c.put.new.self.bytes c.args.bytes.now q c.args.at p c.own_page-number.ensures.sound.whole c.own_page-number.ensures.alone (c.own_page-number.ensures.counted q) c.requires.room (ap (λ (s : Store). s.bytes) c.put.ensures.new) there
    ∙ c.own_page-number.ensures.kept p there

pub returns-clause-bytes : goal.returns-clause-bytes
returns-clause-bytes c =
    let q = c.own_page-number.result in
    let frames = c.own_page-number.new.frames in
    let left : c.put_shared.new.page ≡ c.args.page.now = c.put_shared.ensures.left c.if-put_shared.false in
    let there : c.own_page-number.result < length c.own_page-number.new.frames.holders = inside c.own_page-number.new.frames.holders c.own_page-number.result (omega (arith, c.own_page-number.ensures.alone)) in
    ap (λ (s : Store). page_at s.bytes q) c.put.ensures.new
    ∙ (page-put_same frames.bytes c.args.bytes.now (length frames.holders) q c.args.at c.own_page-number.ensures.sound.whole there c.requires.room
    ∙ ap (λ b. put b c.args.at c.args.bytes.now) (c.own_page-number.ensures.bytes ∙ ap (page_bytes c.args.frames.now.bytes) left))
