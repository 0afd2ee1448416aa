use Rattle.std.proofs.Common.{◌≡◌, ◌+◌, drop}
use Rattle.packetless_machine.specs.Reading.{is_offer_of}
use Rattle.packetless_machine.specs.Tables.{place_where}
use Rattle.packetless_machine.proofs.reading.offer_in.Given as goal

abbrev pub invariant-loop-i : goal.invariant-loop-i
invariant-loop-i l = place_where (is_offer_of l.request l.offset l.bytes) (drop l.i l.offers) + l.i ≡ place_where (is_offer_of l.request l.offset l.bytes) l.offers
