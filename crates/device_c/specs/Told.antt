-- What C is told of a queue pair of a device, and how much of a list a buffer takes.
use Rattle.std.specs.Prelude.{ℕ, List, ◌++◌, length, take, drop, min, Bool, true, false, ◌&&◌, ◌||◌, not, nat_lt, Option, Some, None, option_map}
use Rattle.rdma_types.specs.declared.answers.EndState.{EndState}
use Rattle.rdma_types.specs.declared.answers.EndState.TheVariants as state
use Rattle.rdma_types.specs.declared.answers.EndView.{EndView}
use Rattle.rdma_types.specs.declared.names.Name.{Name}
use Rattle.protocol.specs.State.{Device}
use Rattle.context_core.specs.declared.lives.LinkView.{LinkView}
use Rattle.device_core.specs.Readings.{link_named}
use Rattle.c_layout.specs.declared.layout.CEnd.{CEnd}
use Rattle.c_layout.specs.declared.layout.CName.{CName}
use Rattle.c_layout.specs.Codes.{state_code}
use Rattle.c_layout.specs.Told.{bit, name_told, object_told}

abbrev pub is_running : EndState → Bool
is_running state.Init = false
is_running state.Running = true
is_running state.Paused = false
is_running state.Resuming = false
is_running state.Error = false

abbrev pub is_resuming : EndState → Bool
is_resuming state.Init = false
is_resuming state.Running = false
is_resuming state.Paused = false
is_resuming state.Resuming = true
is_resuming state.Error = false

-- a queue pair sends requests: it is Running, and does not wait for the RNR timer
abbrev pub runs : EndView → Bool
runs v = is_running v.state && not v.rnr_wait

-- a queue pair, by what its connection tells
abbrev pub end_by : EndView → Option LinkView → CEnd
end_by v None = record { name = object_told v.name; una = v.una; next = v.next; last = 0; number = v.number; peer = v.peer; state = state_code v.state; untold = v.untold; moves = 0; rnr = v.rnr; rnr_wait = bit v.rnr_wait; may_send = 0; in_flight = 0; reserved = 0 }
end_by v (Some l) = record { name = object_told v.name; una = v.una; next = v.next; last = l.last; number = v.number; peer = v.peer; state = state_code v.state; untold = v.untold; moves = l.moves; rnr = v.rnr; rnr_wait = bit v.rnr_wait; may_send = bit (is_resuming v.state || (runs v && nat_lt v.next l.last)); in_flight = bit (runs v && nat_lt v.una v.next); reserved = 0 }

-- a queue pair of a device, where there is one
abbrev pub end_told : Device → Option EndView → Option CEnd
end_told d v = option_map (λ e. end_by e (link_named d e.name)) v

-- the name of a context, where there is one
abbrev pub context_told : Option Name → Option CName
context_told n = option_map name_told n

-- the expected number of marks, and the number behind the highest that was sent
abbrev pub expected_of : Option (ℕ × ℕ) → Option ℕ
expected_of m = option_map (λ x. x.0) m

abbrev pub top_of : Option (ℕ × ℕ) → Option ℕ
top_of m = option_map (λ x. x.1) m
