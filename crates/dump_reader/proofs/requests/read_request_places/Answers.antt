use Rattle.std.proofs.Common.{rules}
use Rattle.dump_reader.specs.Groups.{regions_of, request_places_field}
use Rattle.rdma_types.specs.Memory.{is_granted, landing_right, local_key}
use Rattle.dump_reader.proofs.Latched.{first, next, given, kept, plain}
use Rattle.dump_reader.proofs.requests.read_request_places.Goals as goal

pub returns-clause-request : goal.returns-clause-request
unfolding request_places_field
returns-clause-request c =
    let remote = rw c.names_remote.ensures at c.u64_if-remote.ensures in
    let rkey = rw c.names_remote-2.ensures at c.u32_if-rkey.ensures in
    let swap_add = rw c.is_atomic_kind.ensures at c.u64_if-swap_add.ensures in
    let compare = rw c.compares.ensures at c.u64_if-compare.ensures in
    first _ (plain c.u32-lkey.ensures)
    (next _ (kept (λ n. is_granted local_key (regions_of c.args.scope.now.domains.now c.args.scope.now.regions.now) c.args.scope.now.domain.now c.u32-lkey.result n c.args.head.now.length (landing_right c.args.head.now.kind)) c.u64-local.ensures c.keep.ensures c.may_stand.ensures)
    (next _ remote
    (next _ rkey
    (next _ swap_add
    (next _ compare
    (given (search rules)))))))
