use Rattle.law_simulation.proofs.move_messages.Takings.{stopped_taken, resume_taken, ack_taken}
use Rattle.law_simulation.proofs.move_messages.messages_are_taken.Goals as goal

pub returns-clause-stopped : goal.returns-clause-stopped
returns-clause-stopped c = λ count w m o l number bytes d v h. stopped_taken w m o l number bytes d v count h

pub returns-clause-resumes : goal.returns-clause-resumes
returns-clause-resumes c = λ body w m o l number bytes d v h. resume_taken w m o l number bytes d v body h

pub returns-clause-acks : goal.returns-clause-acks
returns-clause-acks c = λ body w m o l number bytes d v h. ack_taken w m o l number bytes d v body h
