-- Messages in progress, as a responder tells them.
use Rattle.std.proofs.Common.{◌≡◌, refl, ap, ◌∙◌}
use Rattle.protocol.specs.State.{Progress, NoMessage, InSend, InWrite, Receiver}
use Rattle.responder.specs.declared.answers.ResponderParts.{ResponderParts}
use Rattle.responder.specs.Receiving.{flow_of, parts_of, progress_of}
use Rattle.device_differences.specs.Numbers.{numbers_of_progress}

progress-again : (p : Progress) → progress_of (flow_of p) ≡ p
progress-again NoMessage = refl
progress-again (InSend done receive) = refl
progress-again (InWrite region off length done) = refl

-- the numbers of a message in progress
pub progress-told : (r : Receiver) (parts : ResponderParts) → parts ≡ parts_of r → numbers_of_progress (progress_of parts.flow) ≡ numbers_of_progress r.progress
progress-told r parts e = ap (λ z. numbers_of_progress (progress_of z.flow)) e ∙ ap numbers_of_progress (progress-again r.progress)
