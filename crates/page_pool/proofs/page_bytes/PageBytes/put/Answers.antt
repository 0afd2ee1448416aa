use Rattle.std.proofs.Common.{ap, arith}
use Rattle.page_pool.specs.Bytes.{Bytes}
use Rattle.byte_run.proofs.Runs.{put_mid-put}
use Rattle.page_pool.proofs.Shown.{page_there, put_items}
use Rattle.page_pool.proofs.page_bytes.PageBytes.put.Goals as goal

pub index_mut-made-requires : goal.index_mut-made-requires
index_mut-made-requires c = omega (arith, c.self.inside.made.ok.0, page_there c.self.inside.made.items c.args.self.now.items c.self.invariant.0 (ap (λ (b : Bytes). b.items) c.self.view_is) c.args.page c.requires.page)

pub returns-clause-items : goal.returns-clause-items
returns-clause-items c = put_items c.self.inside.made.items c.args.self.now.items c.self.invariant.0 (ap (λ (b : Bytes). b.items) c.self.view_is) c.args.page c.args.at c.args.bytes.now c.index_mut-made.result.now _ c.requires.page c.index_mut-made.ensures.value c.requires.room (put_mid-put _ _ c.args.bytes.now c.args.at _ c.copy_from_slice.ensures.after (omega arith))
