use Rattle.memory_keys.proofs.Found.{keyed}
use Rattle.memory_keys.proofs.regions.Regions.are_keyed.Goals as goal

pub returns : goal.returns
returns c = keyed c.self.inside.held.entries c.args.self.now c.self.invariant c.self.view_is
