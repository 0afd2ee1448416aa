use Rattle.law_simulation.specs.Packets.{IsStopped, IsResume, IsResumeAck}
use Rattle.law_simulation.specs.Delivered.{HusksAnswer}
use Rattle.law_simulation.proofs.delivery.EachKind.{kind_follows}
use Rattle.law_simulation.proofs.move_messages.HuskAnswers.{answered_stands}
use Rattle.law_simulation.proofs.move_messages.Takings.{stopped_taken, resume_taken, ack_taken}
use Rattle.law_simulation.proofs.move_messages.messages_follow.Goals as goal

husks : HusksAnswer
husks w m f d p h hs s is read fact none entries control = answered_stands w m f d p h hs s is read fact entries

pub returns-clause-stopped : goal.returns-clause-stopped
returns-clause-stopped c = λ count. kind_follows (IsStopped count) husks (λ w m o l number bytes d v h. stopped_taken w m o l number bytes d v count h)

pub returns-clause-resume : goal.returns-clause-resume
returns-clause-resume c = λ body. kind_follows (IsResume body) husks (λ w m o l number bytes d v h. resume_taken w m o l number bytes d v body h)

pub returns-clause-ack : goal.returns-clause-ack
returns-clause-ack c = λ body. kind_follows (IsResumeAck body) husks (λ w m o l number bytes d v h. ack_taken w m o l number bytes d v body h)
