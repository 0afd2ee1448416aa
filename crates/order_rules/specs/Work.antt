-- Additions in an order of steps (this project's choice).
use Rattle.std.specs.Prelude.{ℕ, ◌&&◌, Bool, true, false, List, length, filter}
use Rattle.rdma_types.specs.declared.requests.Kind.{Kind}
use Rattle.rdma_types.specs.declared.requests.Kind.TheVariants as kind
use Rattle.protocol.specs.declared.events.Event.{Event}
use Rattle.protocol.specs.declared.events.Event.TheVariants as event
use Rattle.protocol.specs.WorldStep.{is_done}
use Rattle.order_rules.specs.Lines.{Line}

-- how many lines pass a test
abbrev pub lines_with : (Line → Bool) → List Line → ℕ
lines_with test ls = length (filter test ls)

-- a fetch and add
abbrev pub is_fetch_add : Kind → Bool
is_fetch_add kind.FetchAdd = true
is_fetch_add other = false

-- the posting of an addition
abbrev pub is_addition : Event → Bool
is_addition (event.PostSend o r) = is_fetch_add r.shape.kind
is_addition other = false

-- an accepted addition
abbrev pub accepts : Line → Bool
accepts l = is_addition l.receipt.event && is_done l.receipt.outcome.answer
