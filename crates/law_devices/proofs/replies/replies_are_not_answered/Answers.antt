-- What is proved of each packet.
use Rattle.law_devices.proofs.Silent.{reply_silent}
use Rattle.law_devices.proofs.replies.replies_are_not_answered.Goals as goal

pub returns : goal.returns
returns c = reply_silent
