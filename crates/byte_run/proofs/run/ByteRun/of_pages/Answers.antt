use Rattle.std.proofs.Common.{ap, ◌∙◌, take, arith}
use Rattle.std.proofs.lemmas.List.{take_all}
use Rattle.byte_run.specs.Pages.{joined}
use Rattle.byte_run.proofs.Runs.{length-pages}
use Rattle.byte_run.proofs.run.ByteRun.of_pages.Goals as goal

pub returns : goal.returns
returns c =
    let size = length-pages c.args.pages.items c.requires in
    ap (λ list. take c.in_ok-len.len (joined list.items)) c.in_ok-new.ensures.ok
    ∙ take_all c.in_ok-len.len (joined c.args.pages.items) (grind (arith, size))
