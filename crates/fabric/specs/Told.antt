-- What the store answers of a datagram, in the words of the protocol's rules.
use Rattle.protocol.specs.Fabric as rules
use Rattle.fabric.specs.declared.flights.DatagramState.{DatagramState}
use Rattle.fabric.specs.declared.flights.DatagramState.TheVariants.{Here, Gone, Lost, Aged}

-- the answer of the rules
abbrev pub told : DatagramState → rules.Look
told (Here flight) = rules.Here flight.now
told Gone = rules.IsGone
told Lost = rules.IsLost
told Aged = rules.IsAged
