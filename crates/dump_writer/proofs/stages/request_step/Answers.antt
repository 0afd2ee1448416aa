use Rattle.dump_writer.specs.Fitting.{fits_left}
use Rattle.dump_writer.proofs.Joined.{requests_fit}
use Rattle.dump_writer.proofs.stages.request_step.Goals as goal

pub returns-in-len1-up-clause-fits : goal.returns-in-len1-up-clause-fits
unfolding fits_left
returns-in-len1-up-clause-fits c = λ fit. requests_fit _ _ _ _ c.in-len1-up.len_at_least c.posted-item.is c.request_fields.ensures.fits fit
