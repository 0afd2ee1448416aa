use Rattle.context_core.proofs.PlacesFromImage.{domain-more}
use Rattle.context_core.proofs.coming.put_domains.Goals as goal

pub loop-name-preserved : goal.loop-name-preserved
loop-name-preserved c = domain-more c.args.names.now c.loop-name.domains.keys c.insert.new.self.keys c.loop-name.name-index c.name-item.result c.loop-name-test.true c.name-item.is c.requires.names c.loop-name.invariant c.in_ok-insert.ensures.keys
