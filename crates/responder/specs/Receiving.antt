-- A responder as its callers see it, and its parts.
use Rattle.std.specs.Prelude.{ℕ, ◌<◌, ◌+◌, List, All, length}
use Rattle.rdma_types.specs.Limits.{number_limit}
use Rattle.rdma_types.specs.declared.requests.Receive.{Receive}
use Rattle.rdma_types.specs.declared.requests.Terms.{Terms}
use Rattle.protocol.specs.EndWords.{in_use_by}
use Rattle.protocol.specs.State.{Progress, NoMessage, InSend, InWrite, Receiver}
use Rattle.protocol.specs.declared.images.KeptReply.{KeptReply}
use Rattle.responder.specs.declared.answers.Flow.{Flow}
use Rattle.responder.specs.declared.answers.Flow.TheVariants.{Idle, Send, Write}
use Rattle.responder.specs.declared.answers.ResponderParts.{ResponderParts}

-- the terms of its connection, and the protocol's responder
pub record Receiving : Type 0 where
  pub terms : Terms
  pub receiver : Receiver

-- the message in progress
abbrev pub progress_of : Flow → Progress
progress_of Idle = NoMessage
progress_of (Send done receive) = InSend done receive
progress_of (Write spot done) = InWrite spot.region spot.off spot.length done

-- the same, as it is told
abbrev pub flow_of : Progress → Flow
flow_of NoMessage = Idle
flow_of (InSend done receive) = Send done receive
flow_of (InWrite region off length done) = Write (record { region = region; off = off; length = length }) done

-- a responder of these parts
abbrev pub receiver_of : ResponderParts → List KeptReply → Receiver
receiver_of parts kept = record { expected = parts.expected; nak_sent = parts.nak_sent; msn = parts.msn; progress = progress_of parts.flow; kept = kept }

-- its parts, but for the kept replies
abbrev pub parts_of : Receiver → ResponderParts
parts_of r = record { expected = r.expected; nak_sent = r.nak_sent; msn = r.msn; flow = flow_of r.progress }

-- no message is in progress
abbrev pub idled : Receiver → Receiver
idled r = record r { progress = NoMessage }

-- how many receives wait for a completion: the one in use, and the unused ones
abbrev pub waiting : Receiver → List Receive → ℕ
waiting r unused = length (in_use_by r.progress) + length unused

-- payloads are not empty, numbers and counts are in range, and the kept replies are to packets before the expected one
pub record IsHeld (terms : Terms) (r : Receiver) : Type 0 where
  pub mtu : 0 < terms.mtu
  pub expected : r.expected < number_limit
  pub msn : r.msn < 16777216
  pub kept : All (λ k. k.number < r.expected) r.kept
