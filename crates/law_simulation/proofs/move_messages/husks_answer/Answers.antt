use Rattle.law_simulation.proofs.move_messages.HuskAnswers.{answered_stands}
use Rattle.law_simulation.proofs.move_messages.husks_answer.Goals as goal

pub returns : goal.returns
returns c = λ w m f d p h hs s is read fact none entries control. answered_stands w m f d p h hs s is read fact entries
