-- Which arrivals are in time, as a test (this project's choice).
use Rattle.std.specs.Prelude.{ℕ, ◌&&◌, not, Bool, true, List, Some, bytes_eq}
use Rattle.rdma_types.specs.declared.requests.Address.{Address}
use Rattle.rdma_types.specs.Lists.{some}
use Rattle.protocol.specs.declared.events.Event.{Event}
use Rattle.protocol.specs.declared.events.Event.TheVariants as event
use Rattle.protocol.specs.Fabric.{is_late}
use Rattle.protocol.specs.State.{Device, Flight}
use Rattle.protocol.specs.WorldStep.{now_at, same_address}

-- a datagram has that sender, that receiver and those bytes, and is not too late for an end that is at a number
abbrev pub is_timely : Address → Address → List ℕ → ℕ → Flight → Bool
is_timely from to bytes now f = same_address f.from from && (same_address f.to to && (bytes_eq f.bytes bytes && not (is_late f.number now)))

-- one of the datagrams that the event may have taken in at a device is not too late for the end that it reaches
abbrev pub is_in_time : List Flight → Device → Event → Bool
is_in_time flights d (event.Arrive from bytes) = some (is_timely from d.address bytes (now_at (Some d) bytes)) flights
is_in_time flights d other = true
