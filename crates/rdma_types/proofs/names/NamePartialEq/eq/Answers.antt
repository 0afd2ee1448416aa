use Rattle.std.proofs.Common.{rules, ◌∙◌}
use Rattle.rdma_types.proofs.Held.{same_name}
use Rattle.rdma_types.proofs.names.NamePartialEq.eq.Goals as goal

pub returns : goal.returns
returns c = c.eq.ensures ∙ same_name c.args.self.now c.args.other.now c.halves.result.0 c.halves.result.1 c.halves-2.result.0 c.halves-2.result.1 c.halves.ensures.spelled c.halves-2.ensures.spelled c.halves.ensures.bytes c.halves-2.ensures.bytes (search rules) (search rules) (search rules) (search rules)
