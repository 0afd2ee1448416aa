use Rattle.dump_writer.specs.Left.{left}
use Rattle.dump_writer.specs.Fitting.{fits_left}
use Rattle.dump_writer.proofs.Joined.{ends_fit}
use Rattle.dump_writer.proofs.Parts.{end_at_front}
use Rattle.dump_writer.proofs.stages.end_step.Goals as goal

pub returns-in-len1-up-clause-bytes : goal.returns-in-len1-up-clause-bytes
unfolding left
returns-in-len1-up-clause-bytes c = end_at_front _ _ _ c.in-len1-up.len_at_least c.end-item.is c.end_fields.ensures.bytes

pub returns-in-len1-up-clause-fits : goal.returns-in-len1-up-clause-fits
unfolding fits_left
returns-in-len1-up-clause-fits c = λ fit. ends_fit _ _ c.in-len1-up.len_at_least c.end-item.is fit
