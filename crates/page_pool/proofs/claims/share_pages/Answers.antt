use Rattle.std.proofs.Common.{◌+◌, ◌∙◌, ap, refl, arith, length}
use Rattle.std.proofs.lemmas.List.{length_push}
use Rattle.byte_run.specs.Pages.{joined}
use Rattle.byte_run.proofs.Runs.{length-pages}
use Rattle.page_pool.specs.declared.page.Page.TheVariants.{Shared}
use Rattle.page_pool.proofs.Shares.{shared-none, shared-push, page-at}
use Rattle.page_pool.proofs.claims.share_pages.Goals as goal

pub loop-page-init : goal.loop-page-init
loop-page-init c = (shared-none (joined c.args.whole.now) c.args.pages.now.items c.requires.empty, ap length c.requires.empty, refl)

pub loop-page-preserved : goal.loop-page-preserved
loop-page-preserved c =
    let whole = c.args.whole.now in
    let pages = c.loop-page.pages.items in
    let count = length-pages whole c.requires.even in (
      shared-push (joined whole) pages c.push_reserved.new.self.items c.in-Ok.page c.push_reserved.ensures.items c.loop-page.invariant.0
          (c.in-Ok.ensures ∙ page-at whole c.loop-page.page-index (length pages) c.page-item.result c.requires.even c.loop-page-test.true c.page-item.is c.loop-page.invariant.1)
          (omega (arith, count, c.loop-page.invariant.1, c.loop-page-test.true)),
      ap length c.push_reserved.ensures.items ∙ (length_push pages (Shared c.in-Ok.page) ∙ ap (λ n. n + 1) c.loop-page.invariant.1),
      c.push_reserved.ensures.capacity ∙ c.loop-page.invariant.2,
    )
