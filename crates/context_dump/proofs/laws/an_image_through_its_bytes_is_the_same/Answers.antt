use Rattle.context_dump.proofs.Same.{same_image}
use Rattle.context_dump.proofs.laws.an_image_through_its_bytes_is_the_same.Goals as goal

pub returns : goal.returns
returns c = same_image
