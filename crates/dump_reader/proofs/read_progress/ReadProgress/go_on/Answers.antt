use Rattle.dump_reader.proofs.ReadSteps.{trailing, whole}
use Rattle.dump_reader.proofs.read_progress.ReadProgress.go_on.Goals as goal

pub returns-then-self-bytes-clause-fault : goal.returns-then-self-bytes-clause-fault
returns-then-self-bytes-clause-fault c = trailing c.loop-self.self c.args.bytes.now c.loop-self.invariant (c.is_done.ensures.done c.loop-self-test.false) c.if-self-bytes.true

pub returns-clause-whole : goal.returns-clause-whole
returns-clause-whole c = whole c.loop-self.self c.args.bytes.now c.loop-self.invariant (c.is_done.ensures.done c.loop-self-test.false) c.if-self-bytes.false
