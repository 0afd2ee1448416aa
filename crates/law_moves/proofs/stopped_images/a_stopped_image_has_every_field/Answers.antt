use Rattle.law_moves.proofs.Fields.{every_field, stopped_image}
use Rattle.law_moves.proofs.stopped_images.a_stopped_image_has_every_field.Goals as goal

pub returns-clause-stopped : goal.returns-clause-stopped
returns-clause-stopped c = stopped_image

pub returns-clause-fields : goal.returns-clause-fields
returns-clause-fields c = every_field
