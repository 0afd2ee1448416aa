use Rattle.std.proofs.Common.{◌≡◌, ℕ, List, [], ◌∷◌, ap, ◌∙◌, arith, length}
use Rattle.std.specs.Prelude.{None}
use Rattle.protocol.specs.Wire.{Packet}
use Rattle.roce_headers.specs.Packets.{packet}
use Rattle.context_core.proofs.PacketSizes.{wire-length}
use Rattle.context_core.proofs.RoomSizes.{room-for}
use Rattle.context_core.proofs.TransmittedPackets.{resume-is}
use Rattle.context_core.proofs.sending.put_resume.Goals as goal

pub write-bytes-requires-clause-room : goal.write-bytes-requires-clause-room
write-bytes-requires-clause-room c =
    let none : length (packet c.moving-d.result).payload ≡ 0 = ap (λ (w : Packet). length w.payload) c.moving-d.ensures.says in
    room-for c.args.room.now _ _ c.requires.room (omega (arith, none, wire-length (packet c.moving-d.result)))

pub returns : goal.returns
returns c = λ pool e l s.
    ap {A = List ℕ} (λ bs. record { to = c.args.way.now.to; number = None; bytes = bs } ∷ []) c.write-bytes.ensures
    ∙ resume-is pool e c.args.way.now c.args.count c.args.own l s (packet c.moving-d.result) c.moving-d.ensures.says
