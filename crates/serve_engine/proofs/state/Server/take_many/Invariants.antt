use Rattle.serve_rules.specs.Links.{HasTaken}
use Rattle.serve_engine.proofs.state.Server.take_many.Given as goal

abbrev pub invariant-loop : goal.invariant-loop
invariant-loop g l = HasTaken l.initial.self (g.L.Link.waiting l.initial.link) l.self (g.L.Link.waiting l.link)
