use Rattle.std.proofs.Common.{◌∙◌, ap, List}
use Rattle.rdma_types.specs.declared.names.Name.{Name}
use Rattle.dump_reader.specs.Ahead.{more_domains}
use Rattle.dump_reader.proofs.ReadSteps.{begins}
use Rattle.dump_reader.proofs.read_progress.ReadProgress.begin.Goals as goal

pub returns-clause-stands : goal.returns-clause-stands
returns-clause-stands c =
    let o = c.in_ok-opened.opened in
    begins c.args.bytes.now o c.make-lists.result c.enter_domains-place.result c.read_opening.new.c.place c.read_opening.new.c.bytes.now c.in_ok-opened.ensures.read
    (c.enter_domains-place.ensures ∙ ap (λ (ds : List Name). more_domains o o.count ds) c.make-lists.ensures)
