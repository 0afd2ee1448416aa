use Rattle.std.proofs.Common.{sym, ap, ◌∙◌, length}
use Rattle.byte_run.specs.Pages.{pages_in}
use Rattle.byte_run.proofs.Runs.{length-run}
use Rattle.byte_run.proofs.run.ByteRun.len.Goals as goal

pub returns : goal.returns
returns c = sym (ap length (sym c.self.view_is) ∙ length-run (pages_in c.self.inside.pages) c.self.inside.len c.self.invariant)
