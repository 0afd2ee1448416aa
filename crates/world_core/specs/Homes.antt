-- Where contexts live (this project's choice).
use Rattle.std.specs.Prelude.{ℕ, List, Option, Some, None, if◌then◌else◌, bytes_eq}
use Rattle.std.specs.List.{position}
use Rattle.rdma_types.specs.declared.names.Name.{Name}
use Rattle.protocol.specs.declared.events.Event.{Event}
use Rattle.protocol.specs.declared.events.Event.TheVariants as event
use Rattle.protocol.specs.Refusals.{has_context}
use Rattle.protocol.specs.State.{Device}

-- the context that an event makes, stops or restores
abbrev pub mover : Event → Option Name
mover (event.MakeContext n) = Some n
mover (event.Stop n alone) = Some n
mover (event.Restore image) = Some image.name
mover e = None

-- an event makes or stops a context
abbrev pub MakesOrStops : Event → Type 0
MakesOrStops (event.MakeContext n) = Unit {0}
MakesOrStops (event.Stop n alone) = Unit {0}
MakesOrStops e = ⊥

-- the place of a context where one was looked up anew
abbrev pub looked_up : Option Name → List Device → (Name → Option ℕ) → Name → Option ℕ
looked_up None ds told m = told m
looked_up (Some n) ds told m = if bytes_eq n m then position (λ d. has_context d n) ds else told m
