use Rattle.std.proofs.Common.{rules}
use Rattle.packetless_machine.specs.Steps.{fits}
use Rattle.packetless_machine.proofs.turns.fits.Goals as goal

pub returns-in-Some : goal.returns-in-Some
unfolding fits
returns-in-Some c = search rules
