use Rattle.std.proofs.Common.{rules, ◌∙◌, sym, ap}
use Rattle.rdma_types.specs.Spelled.{front_len, held_again, padded}
use Rattle.rdma_types.proofs.Held.{joined_halves}
use Rattle.rdma_types.proofs.names.Name.halves.Goals as goal

pub returns-clause-bytes : goal.returns-clause-bytes
returns-clause-bytes c = joined_halves c.self.inside.bytes c.from_le_bytes.result c.from_le_bytes-2.result (search rules) (search rules) c.from_le_bytes.ensures c.from_le_bytes-2.ensures ∙ sym (held_again c.self.inside.bytes (front_len c.self.inside.bytes) c.self.invariant.0) ∙ ap padded c.self.view_is
