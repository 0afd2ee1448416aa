use Rattle.page_pool.specs.Pool.{free_pages}
use Rattle.protocol.specs.Images.{context_of}
use Rattle.protocol.specs.Memory.{pages_of_context}
use Rattle.context_core.proofs.ContextFromImage.{lacks-so}
use Rattle.context_core.proofs.state.ContextState.lacks_pages.Goals as goal

pub returns : goal.returns
returns c = lacks-so c.less_image.result c.free.result (free_pages c.args.pool.now) (pages_of_context (context_of c.args.image.now)) c.is_none.result c.free.ensures.free c.less_image.ensures c.is_none.ensures
