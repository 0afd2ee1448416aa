use Rattle.std.proofs.Common.{refl}
use Rattle.std.specs.Prelude.{◌&&◌}
use Rattle.dump_reader.specs.Groups.{regions_of}
use Rattle.protocol.specs.Dumps.{receive_field, within}
use Rattle.rdma_types.specs.Limits.{most_bytes}
use Rattle.rdma_types.specs.Memory.{LocalWrite, is_granted, local_key}
use Rattle.dump_reader.proofs.Latched.{first, next, given, kept, plain}
use Rattle.dump_reader.proofs.places.read_receive.Goals as goal

pub returns : goal.returns
unfolding receive_field
returns c =
    first _ (plain c.u64-id.ensures)
    (next _ (plain c.u32-lkey.ensures)
    (next _ (plain c.u64-local.ensures)
    (next _ (kept (λ n. within c.args.done most_bytes n && is_granted local_key (regions_of c.args.scope.now.domains.now c.args.scope.now.regions.now) c.args.scope.now.domain.now c.u32-lkey.result c.u64-local.result n LocalWrite) c.u32-length.ensures c.keep.ensures c.receives.ensures)
    (given refl))))
