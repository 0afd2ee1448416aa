-- Which bytes of a region a datagram may change.
use Rattle.std.specs.Prelude.{ℕ, zero, suc, List, [], ◌∷◌, ◌++◌, filter, Result, Ok, Err}
use Rattle.hex.specs.Hex.{decode_of, decode_pairs}
use Rattle.hex.specs.declared.error.FromHexError.{FromHexError}
use Rattle.rdma_types.specs.declared.names.Name.{Name}
use Rattle.protocol.specs.declared.events.Event.{Event}
use Rattle.protocol.specs.Evaluate.{computed}
use Rattle.protocol.specs.Replay.{replay}
use Rattle.protocol.specs.State.{Device}
use Rattle.law_arrivals.specs.Touched.{is_touched}

-- the bytes of hexadecimal digits
abbrev pub if_decoded : Result (List ℕ) FromHexError → List ℕ
if_decoded (Ok bytes) = bytes
if_decoded (Err e) = []

abbrev pub octets : List ℕ → List ℕ
octets digits = if_decoded (decode_of digits)

-- the numbers below n
unfoldable pub below : ℕ → List ℕ
below zero = []
below (suc n) = below n ++ n ∷ []

-- of the first bytes of a region, the offsets of those that a datagram may change
abbrev pub touched_on : Device → List ℕ → Name → ℕ → ℕ → List ℕ
touched_on d bytes name lkey count = filter (is_touched d bytes name lkey) (below count)

-- .. on the device after these events; what this computes with is opened
unfoldable pub touched : Device → List Event → List ℕ → Name → ℕ → ℕ → List ℕ
unfolding computed is_touched below decode_pairs
touched d events bytes name lkey count = touched_on (replay d events) bytes name lkey count
