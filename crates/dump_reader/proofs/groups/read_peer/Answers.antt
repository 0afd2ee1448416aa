use Rattle.std.proofs.Common.{refl}
use Rattle.dump_reader.specs.Groups.{peer_field}
use Rattle.dump_reader.proofs.Latched.{first, next, given, plain}
use Rattle.dump_reader.proofs.groups.read_peer.Goals as goal

pub returns : goal.returns
unfolding peer_field
returns c =
    let resuming = rw c.most_unless.ensures at c.u8_up_to-resuming.ensures in
    first _ c.u32_below-peer.ensures
    (next _ (plain c.u32-ip.ensures)
    (next _ (plain c.u16-port.ensures)
    (next _ (plain c.u16-moves.ensures)
    (next _ (plain c.u16-partner_moves.ensures)
    (next _ resuming
    (given refl))))))
