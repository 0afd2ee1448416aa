use Rattle.memory_keys.proofs.Protocol.{written-is, landed-is}
use Rattle.memory_keys.proofs.laws.stores_are_the_protocols_writes.Goals as goal

pub returns-clause-written : goal.returns-clause-written
returns-clause-written c = written-is

pub returns-clause-landed : goal.returns-clause-landed
returns-clause-landed c = landed-is
