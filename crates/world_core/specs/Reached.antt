-- What is told of the end that a datagram reaches.
use Rattle.std.specs.Prelude.{ℕ, Option, Some, None}
use Rattle.rdma_types.specs.declared.answers.EndView.{EndView}
use Rattle.rdma_types.specs.declared.requests.Address.{Address}
use Rattle.protocol.specs.State.{Device, World}
use Rattle.protocol.specs.WorldStep.{device_with}
use Rattle.device_core.specs.Numbered.{numbered_view}

-- the view of the connected end with a number on a device
abbrev pub view_on : Option Device → ℕ → Option EndView
view_on None n = None
view_on (Some d) n = numbered_view d n

-- .. on the device that has an address
abbrev pub view_reached : World → Address → ℕ → Option EndView
view_reached w a n = view_on (device_with w a) n
