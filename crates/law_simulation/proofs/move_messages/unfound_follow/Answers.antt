use Rattle.law_simulation.specs.Delivered.{HusksAnswer}
use Rattle.law_simulation.proofs.move_messages.HuskAnswers.{answered_stands}
use Rattle.law_simulation.proofs.move_messages.Unfounds.{unfound_follows}
use Rattle.law_simulation.proofs.move_messages.unfound_follow.Goals as goal

husks : HusksAnswer
husks w m f d p h hs s is read fact none entries control = answered_stands w m f d p h hs s is read fact entries

pub returns : goal.returns
returns c = λ k w m s none. unfound_follows w m k husks s none
