-- What C is told: answers, completions, datagrams, queue pairs and names as the structs of the header.
use Rattle.std.specs.Prelude.{ℕ, length, Bool, Option, Some, None, min, if◌then◌else◌}
use Rattle.rdma_types.specs.Spelled.{padded}
use Rattle.rdma_types.specs.declared.names.Name.{Name}
use Rattle.rdma_types.specs.declared.names.ObjName.{ObjName}
use Rattle.rdma_types.specs.declared.requests.Address.{Address}
use Rattle.rdma_types.specs.declared.requests.Completion.{Completion}
use Rattle.rdma_types.specs.declared.answers.Answer.{Answer}
use Rattle.rdma_types.specs.declared.answers.Answer.TheVariants as answer
use Rattle.rdma_types.specs.declared.answers.EndState.{EndState}
use Rattle.rdma_types.specs.declared.answers.EndState.TheVariants as state
use Rattle.rdma_types.specs.declared.answers.Sent.{Sent}
use Rattle.protocol.specs.declared.dumps.DumpWhy.{DumpWhy}
use Rattle.protocol.specs.declared.images.EndImage.{EndImage}
use Rattle.protocol.specs.declared.images.LinkImage.{LinkImage}
use Rattle.c_layout.specs.declared.layout.CName.{CName}
use Rattle.c_layout.specs.declared.layout.CObject.{CObject}
use Rattle.c_layout.specs.declared.layout.CAddress.{CAddress}
use Rattle.c_layout.specs.declared.layout.CCompletion.{CCompletion}
use Rattle.c_layout.specs.declared.layout.CDatagram.{CDatagram}
use Rattle.c_layout.specs.declared.layout.CEnd.{CEnd}
use Rattle.c_layout.specs.declared.layout.CFault.{CFault}
use Rattle.c_layout.specs.declared.layout.COutcome.{COutcome}
use Rattle.c_layout.specs.Codes.{dump_code, effect_code, effect_detail, ignored_code, refusal_code, state_code, status_code, wc_code}

-- ---- names and addresses

-- a name, with zeros behind it
abbrev pub name_told : Name → CName
name_told n = record { bytes = padded n }

abbrev pub object_told : ObjName → CObject
object_told o = record { context = name_told o.context; name = name_told o.name }

abbrev pub address_told : Address → CAddress
address_told a = record { ip = a.ip; port = a.port; reserved = 0 }

-- ---- answers

-- an answer without more, and how many datagrams were sent
abbrev pub plain : ℕ → ℕ → COutcome
plain code sent = record { answer = code; cause = 0; detail = 0; number = 0; local_key = 0; remote_key = 0; count = 0; sent = sent }

-- an answer with a count
abbrev pub counted : ℕ → ℕ → ℕ → COutcome
counted code count sent = record { answer = code; cause = 0; detail = 0; number = 0; local_key = 0; remote_key = 0; count = count; sent = sent }

-- an answer with a cause
abbrev pub caused : ℕ → ℕ → ℕ → COutcome
caused code cause sent = record { answer = code; cause = cause; detail = 0; number = 0; local_key = 0; remote_key = 0; count = 0; sent = sent }

-- the outcome of a step with this answer and so many datagrams. Answers of worlds have no number
abbrev pub outcome_told : Answer → ℕ → COutcome
outcome_told answer.Done sent = plain 1 sent
outcome_told answer.Stopped sent = plain 2 sent
outcome_told (answer.Region keys) sent = record { answer = 3; cause = 0; detail = 0; number = 0; local_key = keys.local; remote_key = keys.remote; count = 0; sent = sent }
outcome_told (answer.Qp number) sent = record { answer = 4; cause = 0; detail = 0; number = number; local_key = 0; remote_key = 0; count = 0; sent = sent }
outcome_told (answer.Bytes bytes) sent = counted 5 (length bytes) sent
outcome_told (answer.Polled completions) sent = counted 6 (length completions) sent
outcome_told (answer.Sent first) sent = plain 7 sent
outcome_told answer.Idle sent = plain 8 sent
outcome_told answer.WindowFull sent = plain 9 sent
outcome_told answer.ReadsFull sent = plain 10 sent
outcome_told answer.Fenced sent = plain 11 sent
outcome_told answer.Waiting sent = plain 12 sent
outcome_told (answer.Took took first count) sent = record { answer = 13; cause = effect_code took; detail = effect_detail took; number = 0; local_key = 0; remote_key = 0; count = count; sent = sent }
outcome_told (answer.Expired count) sent = counted 14 count sent
outcome_told answer.Spent sent = plain 15 sent
outcome_told (answer.NotCounted why) sent = caused 16 (ignored_code why) sent
outcome_told answer.Over sent = plain 17 sent
outcome_told answer.NotWaiting sent = plain 18 sent
outcome_told (answer.Refused refusal) sent = caused 19 (refusal_code refusal) sent
outcome_told (answer.Wire bytes) sent = plain 0 sent
outcome_told answer.Gone sent = plain 0 sent
outcome_told answer.Lost sent = plain 0 sent
outcome_told answer.Aged sent = plain 0 sent
outcome_told (answer.Dump count shown) sent = plain 0 sent
outcome_told (answer.Quiet ends) sent = plain 0 sent

-- ---- completions

-- the immediate, and 0 where there is none
abbrev pub imm_told : Option ℕ → ℕ
imm_told None = 0
imm_told (Some imm) = imm

-- the flag of an immediate
abbrev pub imm_flag : Option ℕ → ℕ
imm_flag None = 0
imm_flag (Some imm) = 4

abbrev pub completion_told : Completion → CCompletion
completion_told c = record { id = c.id; qp = c.qp; kind = wc_code c.kind; status = status_code c.status; length = c.length; imm = imm_told c.imm; flags = imm_flag c.imm }

-- ---- datagrams

-- the packet number, and 0 where there is none
abbrev pub number_told : Option ℕ → ℕ
number_told None = 0
number_told (Some n) = n

abbrev pub has_number : Option ℕ → ℕ
has_number None = 0
has_number (Some n) = 1

abbrev pub datagram_told : Sent → CDatagram
datagram_told s = record { to = address_told s.to; number = number_told s.number; length = length s.bytes; has_number = has_number s.number; reserved = 0 }

-- ---- queue pairs of images, and faults of dumps

-- a truth value as a number
abbrev pub bit : Bool → ℕ
bit holds = if holds then 1 else 0

-- the state of a connected end of an image
abbrev pub image_state : LinkImage → EndState
image_state l = if l.ended then state.Error else if l.resuming then state.Resuming else state.Running

-- an end of an image that was never connected
abbrev pub unconnected_image : Name → EndImage → CEnd
unconnected_image c e = record { name = record { context = name_told c; name = name_told e.name }; una = 0; next = 0; last = 0; number = e.number; peer = 0; state = state_code state.Init; untold = min (length e.untold) 4294967295; moves = 0; rnr = 0; rnr_wait = 0; may_send = 0; in_flight = 0; reserved = 0 }

-- an end of an image, by its connection
abbrev pub image_end_by : Name → EndImage → Option LinkImage → CEnd
image_end_by c e None = unconnected_image c e
image_end_by c e (Some l) = record { name = record { context = name_told c; name = name_told e.name }; una = l.una; next = l.next; last = 0; number = e.number; peer = l.peer; state = state_code (image_state l); untold = min (length e.untold) 4294967295; moves = l.moves; rnr = l.terms.rnr; rnr_wait = bit l.rnr_wait; may_send = 0; in_flight = 0; reserved = 0 }

-- an end of an image of the context of that name
abbrev pub image_end_told : Name → EndImage → CEnd
image_end_told c e = image_end_by c e e.linked

-- why bytes are no dump, and where
abbrev pub fault_told : ℕ → DumpWhy → CFault
fault_told place why = record { place = place; why = dump_code why; reserved = 0 }
