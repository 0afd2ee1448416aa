use Rattle.std.proofs.Common.{◌<◌, ◌*◌, ◌∙◌, ap, sym, length, arith}
use Rattle.rdma_types.proofs.Cuts.{length-cut}
use Rattle.page_pool.specs.Ledger.{page_at, page_bytes}
use Rattle.page_pool.proofs.Steps.{inside}
use Rattle.page_pool.proofs.Owned.{held-own}
use Rattle.page_pool.proofs.pool.shared_page.Goals as goal

pub returns-in_ok-new-in-Own-clause-bytes : goal.returns-in_ok-new-in-Own-clause-bytes
unfolding page_at
returns-in_ok-new-in-Own-clause-bytes c = c.in_ok-new-in-Own.ensures.ok ∙ (c.page.ensures ∙ ap (page_bytes c.args.frames.now.bytes) (sym c.in-Own.is))

pub returns-in_ok-new-in-Own-clause-whole : goal.returns-in_ok-new-in-Own-clause-whole
returns-in_ok-new-in-Own-clause-whole c =
    let there : c.in-Own.number < length c.args.frames.now.holders = inside c.args.frames.now.holders c.in-Own.number (held-own c.args.frames.now.holders c.args.page.now c.in-Own.number c.in-Own.is c.requires.held) in
    ap length (c.in_ok-new-in-Own.ensures.ok ∙ c.page.ensures) ∙ length-cut (4096 * c.in-Own.number) 4096 c.args.frames.now.bytes (omega (arith, c.requires.sound.whole))
