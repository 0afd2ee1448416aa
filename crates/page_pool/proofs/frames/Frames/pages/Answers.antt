use Rattle.std.proofs.Common.{◌∙◌, ap, sym, length}
use Rattle.page_pool.specs.Store.{Store}
use Rattle.page_pool.proofs.Padded.{length-padded}
use Rattle.page_pool.proofs.frames.Frames.pages.Goals as goal

pub returns : goal.returns
returns c = sym (length-padded c.self.inside.pages c.self.inside.holders.items c.self.invariant.0.within) ∙ ap (λ (s : Store). length s.holders) c.self.view_is
