use Rattle.std.proofs.Common.{refl}
use Rattle.settle_core.proofs.Worlds.{shown_begun}
use Rattle.settle_core.proofs.notes.Notes.begin.Goals as goal

pub returns : goal.returns
returns c w s h = shown_begun w _ _ s h refl refl refl (λ still. tt)
