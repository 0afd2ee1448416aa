use Rattle.std.proofs.Common.{refl}
use Rattle.protocol.specs.Lawful.{is_whole_pieces}
use Rattle.dump_reader.proofs.Latched.{first, next, given, kept}
use Rattle.dump_reader.proofs.places.read_send.Goals as goal

pub returns : goal.returns
returns c =
    first _ (kept (is_whole_pieces c.args.mtu) c.u32-done.ensures c.keep.ensures c.is_pieces.ensures)
    (next _ c.read_receive-receive.ensures
    (given refl))
