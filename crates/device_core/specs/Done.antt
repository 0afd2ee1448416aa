-- What an event leaves: the next device with what is given, or the device as it was.
use Rattle.std.specs.Prelude.{◌≡◌, ◌≤◌, ◌^◌, ℕ, List, [], Option, None, Some, Result, Ok, Err, IfOk, IfSome, alloc_error, length}
use Rattle.std.specs.declared.alloc.AllocError.{AllocError}
use Rattle.rdma_types.specs.declared.answers.Answer.{Answer}
use Rattle.rdma_types.specs.declared.answers.Answer.TheVariants as answer
use Rattle.rdma_types.specs.declared.answers.Refusal.{Refusal}
use Rattle.rdma_types.specs.declared.answers.Sent.{Sent}
use Rattle.rdma_types.specs.declared.answers.DropReason.{DropReason}
use Rattle.rdma_types.specs.declared.answers.DropReason.TheVariants as why
use Rattle.rdma_types.specs.declared.answers.ArrivalEffect.{ArrivalEffect}
use Rattle.rdma_types.specs.declared.answers.ArrivalEffect.TheVariants as took
use Rattle.context_core.specs.declared.arriving.ArrivalOutcome.{ArrivalOutcome}
use Rattle.rdma_types.specs.declared.requests.Keys.{Keys}
use Rattle.rdma_types.specs.declared.names.Name.{Name}
use Rattle.rdma_types.specs.Causes.{first_cause}
use Rattle.context_core.specs.declared.making.NewEnd.{NewEnd}
use Rattle.context_core.specs.declared.sending.Answered.{Answered}
use Rattle.protocol.specs.declared.events.Event.{Event}
use Rattle.protocol.specs.declared.events.Event.TheVariants as event
use Rattle.protocol.specs.declared.images.Outcome.{Outcome}
use Rattle.protocol.specs.DeviceStep.{answers, device_step}
use Rattle.protocol.specs.Lawful.{IsLawful}
use Rattle.protocol.specs.Refusals.{causes_of}
use Rattle.protocol.specs.State.{Device}
use Rattle.context_core.specs.declared.ContextFault.{ContextFault}
use Rattle.context_core.specs.declared.ContextFault.TheVariants.{Refused, OutOfMemory}

-- an answer with datagrams
abbrev pub giving : Answer → List Sent → Outcome
giving a sent = record { answer = a; sent = sent; image = None }

-- an answer alone
abbrev pub plain : Answer → Outcome
plain a = giving a []

-- the event is done, or refused, or there was no memory, and then no refusal is due
abbrev pub IsDone : Device → Event → Device → Result Outcome ContextFault → Type 0
IsDone d e new (Ok o) = device_step d e ≡ record { device = new; outcome = o }
IsDone d e new (Err (Refused r)) = (device_step d e ≡ answers d (answer.Refused r)) × (new ≡ d)
IsDone d e new (Err OutOfMemory) = (new ≡ d) × (first_cause (causes_of d e) ≡ None)

-- what is told of a call that may be refused or run out of memory
abbrev pub told_by : {T : Type 0} → (T → Outcome) → Result T ContextFault → Result Outcome ContextFault
told_by tell (Ok x) = Ok (tell x)
told_by tell (Err fault) = Err fault

-- what is told of a call that may be refused
abbrev pub told_plainly : {T : Type 0} → (T → Outcome) → Result T Refusal → Result Outcome ContextFault
told_plainly tell (Ok x) = Ok (tell x)
told_plainly tell (Err r) = Err (Refused r)

-- the answer that tells the keys of a region
abbrev pub region_answer : Option Keys → Answer
region_answer None = answer.Done
region_answer (Some keys) = answer.Region keys

-- the answer that tells the number of a queue pair
abbrev pub number_answer : Option ℕ → Answer
number_answer None = answer.Done
number_answer (Some number) = answer.Qp number

-- a datagram without effect
abbrev pub silent : DropReason → Outcome
silent why = plain (answer.Took (took.Silent why) 0 0)

-- .. as what a datagram did
abbrev pub silent_arrival : DropReason → ArrivalOutcome
silent_arrival why = record { took = took.Silent why; sent = [] }

-- what a datagram did, and what is sent for it
abbrev pub taking : ArrivalOutcome → Outcome
taking t = giving (answer.Took t.took 0 (length t.sent)) t.sent

-- .. where an end may have taken none
abbrev pub told_taken : Result (Option ArrivalOutcome) AllocError → Result ArrivalOutcome AllocError
told_taken (Ok None) = Ok (silent_arrival why.Unknown)
told_taken (Ok (Some t)) = Ok t
told_taken (Err e) = Err e

-- .. as an outcome
abbrev pub told_arrival : Result ArrivalOutcome AllocError → Result Outcome AllocError
told_arrival (Ok t) = Ok (taking t)
told_arrival (Err e) = Err e

-- what a datagram did, and what answers it
abbrev pub arrived : ArrivalEffect → List Sent → Outcome
arrived took sent = giving (answer.Took took 0 (length sent)) sent

-- .. what it did, where an end may have taken none
abbrev pub told_effect : Result (Option ArrivalEffect) AllocError → Result ArrivalEffect AllocError
told_effect (Ok None) = Ok (took.Silent why.Unknown)
told_effect (Ok (Some t)) = Ok t
told_effect (Err e) = Err e

-- an answer and what is sent, as an outcome
abbrev pub sending : Answered → Outcome
sending a = giving a.answer a.sent

-- what is told of a transmission: a refusal is an answer
abbrev pub told_transmission : Result Answered ContextFault → Result Answered AllocError
told_transmission (Ok a) = Ok a
told_transmission (Err (Refused r)) = Ok (record { answer = answer.Refused r; sent = [] })
told_transmission (Err OutOfMemory) = Err alloc_error

-- .. as an outcome
abbrev pub told_sent : Result Answered AllocError → Result Outcome AllocError
told_sent (Ok a) = Ok (sending a)
told_sent (Err e) = Err e

-- a step that may run out of memory
abbrev pub told_memory : Result Outcome AllocError → Result Outcome ContextFault
told_memory (Ok o) = Ok o
told_memory (Err e) = Err OutOfMemory

-- it was not out of memory
abbrev pub IsNotOutOfMemory : Result Outcome ContextFault → Type 0
IsNotOutOfMemory (Ok o) = Unit {0}
IsNotOutOfMemory (Err (Refused r)) = Unit {0}
IsNotOutOfMemory (Err OutOfMemory) = ⊥

-- few datagrams are sent
abbrev pub AreFew : Result Outcome ContextFault → Type 0
AreFew r = IfOk r (λ o. length o.sent ≤ 2 ^ 32)

-- an image that is handed out keeps the rules
abbrev pub AreLawful : Result Outcome ContextFault → Type 0
AreLawful r = IfOk r (λ o. IfSome o.image (λ i. IsLawful i))

-- what is told of a step: a refusal is an answer
abbrev pub told_step : Result Outcome ContextFault → Result Outcome AllocError
told_step (Ok o) = Ok o
told_step (Err (Refused r)) = Ok (plain (answer.Refused r))
told_step (Err OutOfMemory) = Err alloc_error

-- a queue pair is made in a context
abbrev pub qp_event : Name → NewEnd → Event
qp_event n asked = event.MakeQp (record { context = n; name = asked.name }) asked.domain asked.send_cq asked.recv_cq asked.send_depth asked.recv_depth
