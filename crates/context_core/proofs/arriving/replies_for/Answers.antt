use Rattle.std.proofs.Common.{◌∙◌, sym}
use Rattle.memory_keys.specs.Regions.{regions_of}
use Rattle.roce_headers.specs.Packets.{packet}
use Rattle.context_core.proofs.ArrivingDatagrams.{none-due}
use Rattle.context_core.proofs.arriving.replies_for.Goals as goal

pub returns-in_err-responses-clause-unanswered : goal.returns-in_err-responses-clause-unanswered
returns-in_err-responses-clause-unanswered c = λ never.
    absurd (none-due c.args.link.now (regions_of c.args.pool.now c.args.regions.now) c.args.domain (packet c.args.d.now) c.in-Some.due never (sym (c.due.ensures.due c.args.pool.now) ∙ c.in-Some.is))
