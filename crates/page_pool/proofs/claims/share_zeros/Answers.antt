use Rattle.std.proofs.Common.{◌*◌, ◌++◌, ◌∙◌, ap, refl, sym, arith, length}
use Rattle.std.proofs.lemmas.List.{length_push, length-append, take-append-le}
use Rattle.page_pool.specs.Store.{blank}
use Rattle.page_pool.specs.declared.page.Page.TheVariants.{Shared}
use Rattle.page_pool.proofs.Places.{length-blank}
use Rattle.page_pool.proofs.Shares.{blank-behind, shared-in, shared-push}
use Rattle.page_pool.proofs.claims.share_zeros.Goals as goal

pub loop-made-init : goal.loop-made-init
loop-made-init c = (
  λ bytes h size. shared-in bytes (bytes ++ blank (4096 * c.args.count)) c.args.pages.now.items h (sym (take-append-le (4096 * length c.args.pages.now.items) bytes (blank (4096 * c.args.count)) (omega (arith, size)))),
  omega arith,
  refl,
)

pub loop-made-preserved : goal.loop-made-preserved
loop-made-preserved c =
    let n = 4096 * c.args.count in
    let pages = c.loop-made.pages.items in (
      λ bytes h size. shared-push (bytes ++ blank n) pages c.push_reserved.new.self.items c.in-Ok.page c.push_reserved.ensures.items (c.loop-made.invariant.0 bytes h size)
          (c.in-Ok.ensures ∙ (c.requires.zeros ∙ sym (blank-behind bytes (4096 * c.args.count) (4096 * length c.loop-made.pages.items) 4096 (omega (arith, size, c.loop-made.invariant.1)) (omega (arith, size, c.loop-made.invariant.1, c.loop-made-test.true)))))
          (omega (arith, size, length-append bytes (blank n), length-blank n, c.loop-made.invariant.1, c.loop-made-test.true)),
      omega (arith, ap length c.push_reserved.ensures.items, length_push pages (Shared c.in-Ok.page), c.loop-made.invariant.1),
      c.push_reserved.ensures.capacity ∙ c.loop-made.invariant.2,
    )
