use Rattle.byte_run.specs.Pages.{pages_in}
use Rattle.byte_run.proofs.Runs.{whole_front}
use Rattle.byte_run.proofs.run.ByteRun.whole_pages.Goals as goal

pub returns-clause-bytes : goal.returns-clause-bytes
returns-clause-bytes c = rw c.list.ensures (whole_front (pages_in c.self.inside.pages) c.self.inside.len c.args.self.now c.self.invariant c.self.view_is)
