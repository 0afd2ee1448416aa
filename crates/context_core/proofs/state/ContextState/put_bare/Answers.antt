use Rattle.context_core.proofs.ContextFromImage.{queue-pairs}
use Rattle.context_core.proofs.state.ContextState.put_bare.Goals as goal

pub put_queues-requires-clause-names : goal.put_queues-requires-clause-names
put_queues-requires-clause-names c = queue-pairs c.args.image.now c.as_slice-2.result.now c.as_slice-2.ensures c.requires.lawful
