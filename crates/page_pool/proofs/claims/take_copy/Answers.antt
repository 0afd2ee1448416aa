use Rattle.std.proofs.Common.{◌*◌, ◌∙◌, ap, refl}
use Rattle.rdma_types.specs.Memory.{put}
use Rattle.page_pool.specs.Store.{Store}
use Rattle.page_pool.proofs.Pages.{laid}
use Rattle.page_pool.proofs.claims.take_copy.Goals as goal

pub returns-clause-bytes : goal.returns-clause-bytes
returns-clause-bytes c = λ n a b. ap (λ (s : Store). s.bytes) c.fresh.ensures.new ∙ ap (put c.args.frames.now.bytes (4096 * c.fresh.result)) (c.lay_page.ensures ∙ laid c.args.bytes.now c.args.first c.args.at n _ _ _ refl refl refl b a)
