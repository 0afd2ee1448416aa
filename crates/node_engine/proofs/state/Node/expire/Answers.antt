use Rattle.node_rules.proofs.Joining.{comes_nowhere}
use Rattle.node_rules.specs.Serve.{expiring}
use Rattle.node_engine.proofs.OneTurn.{named_does, unnamed_does}
use Rattle.node_engine.proofs.state.Node.expire.Goals as goal

pub returns-in-None : goal.returns-in-None
returns-in-None g c = unnamed_does (λ os. expiring c.args.now os c.args.self.now) c.args.end.now.name c.args.end.now.link c.args.self.now _ _ c.in-None.is (comes_nowhere (λ more. more c.args.self.now) _)

pub returns-in-Some : goal.returns-in-Some
returns-in-Some g c = named_does (λ os. expiring c.args.now os c.args.self.now) c.args.end.now.name c.args.end.now.link _ _ _ _ _ c.in-Some.is c.expire_named.ensures
