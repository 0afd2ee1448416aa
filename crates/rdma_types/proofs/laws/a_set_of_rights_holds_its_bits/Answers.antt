use Rattle.rdma_types.proofs.Bits.{holds_bits}
use Rattle.rdma_types.proofs.laws.a_set_of_rights_holds_its_bits.Goals as goal

pub returns : goal.returns
returns c = record { bits = holds_bits }
