use Rattle.std.proofs.Common.{◌∙◌}
use Rattle.dump_reader.proofs.Seen.{may_write_found, may_write_none}
use Rattle.dump_reader.proofs.places.may_write.Goals as goal

pub returns-in-Some : goal.returns-in-Some
returns-in-Some c = let found = c.in-Some.ensures.lookup in c.may_be_written.ensures ∙ may_write_found c.args.scope.now.domains.now c.args.scope.now.regions.now c.args.scope.now.domain.now c.args.i c.in-Some.region.now found.3.0 found.1

pub returns-in-None : goal.returns-in-None
returns-in-None c = let found = c.in-None.ensures.lookup in may_write_none c.args.scope.now.domains.now c.args.scope.now.regions.now c.args.scope.now.domain.now c.args.i found.3
