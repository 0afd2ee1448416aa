-- What one who follows a run looks for among the offers of an end.
use Rattle.std.specs.Prelude.{ℕ, ◌==◌, ◌&&◌, Bool, List, bytes_eq}
use Rattle.packetless_machine.specs.Machine.{Offered}

-- an offer is of these bytes of a request, from an offset on
abbrev pub is_offer_of : ℕ → ℕ → List ℕ → Offered → Bool
is_offer_of request offset bytes o = (o.request == request) && ((o.offset == offset) && bytes_eq o.bytes bytes)
