use Rattle.law_simulation.proofs.relation.EventDrop.{drop_follows}
use Rattle.law_simulation.proofs.relation.EventStore.{store_follows}
use Rattle.law_simulation.proofs.relation.EventLoad.{load_follows}
use Rattle.law_simulation.proofs.relation.memory.memory_follows.Goals as goal

pub returns-clause-store : goal.returns-clause-store
returns-clause-store c = λ o address bytes w m r s. store_follows w m o address bytes r s

pub returns-clause-load : goal.returns-clause-load
returns-clause-load c = λ o address length w m r s. load_follows w m o address length s

pub returns-clause-drop : goal.returns-clause-drop
returns-clause-drop c = λ o w m r s. drop_follows w m o s
