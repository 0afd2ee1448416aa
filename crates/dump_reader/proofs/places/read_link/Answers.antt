use Rattle.std.proofs.Common.{refl, nat_le}
use Rattle.dump_reader.specs.Groups.{link_head_field}
use Rattle.rdma_types.specs.Limits.{most_kept}
use Rattle.dump_reader.proofs.Latched.{group, first, next, given, kept}
use Rattle.dump_reader.proofs.places.read_link.Goals as goal

pub returns : goal.returns
unfolding link_head_field
returns c =
    group _ _ c.of-fields.ensures
    (first _ c.read_peer-peer.ensures
    (next _ c.read_terms-terms.ensures
    (next _ c.read_numbers-numbers.ensures
    (next _ c.read_waiting-waiting.ensures
    (next _ c.read_message-progress.ensures
    (next _ (kept (λ n. nat_le n most_kept) c.u8-count.ensures c.keep_or.ensures refl)
    (given refl))))))) c.end.ensures
