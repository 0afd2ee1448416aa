use Rattle.std.proofs.Common.{◌*◌, ◌∙◌, arith, ap, length, subst}
use Rattle.std.specs.Prelude.{IfOk, Some}
use Rattle.rdma_types.specs.Memory.{put}
use Rattle.rdma_types.proofs.Cuts.{put-none}
use Rattle.page_pool.specs.Pool.{Puts}
use Rattle.page_pool.specs.Store.{blank}
use Rattle.page_pool.proofs.pool.PagePool.take.Goals as goal

pub take_with-requires : goal.take_with-requires
take_with-requires c = omega (arith, ap length c.make.ensures)

pub returns-clause-puts : goal.returns-clause-puts
returns-clause-puts c = subst (λ xs. IfOk c.take_with-2.result (λ k. Puts c.args.self.now c.take_with-2.new.self k (Some xs))) (ap (put (blank (4096 * c.args.n)) 0) c.make.ensures ∙ put-none (blank (4096 * c.args.n)) 0) c.take_with-2.ensures.puts
