-- Memory for one datagram.
use Rattle.std.proofs.Common.{ℕ, ◌≤◌, arith}
use Rattle.std.specs.Prelude.{Option, Some, None}
use Rattle.std.specs.declared.vec.Vec.{Vec}
use Rattle.context_core.specs.declared.rooms.DatagramRoom.{DatagramRoom}
use Rattle.context_core.specs.Rooms.{HasRoomFor, HoldsBytes}

holds-fewer : {A : Type 0} (o : Option (Vec ℕ A)) (most n : ℕ) → HoldsBytes o most → n ≤ most → HoldsBytes o n
holds-fewer None most n h l = h
holds-fewer (Some v) most n h l = omega (arith, h, l)

-- memory for a longer datagram is memory for a shorter one
pub room-for : (r : DatagramRoom) (most n : ℕ) → HasRoomFor r most → n ≤ most → HasRoomFor r n
room-for r most n h l = record {
  tiny = h.tiny;
  small = h.small;
  large = λ many. holds-fewer r.large most n (h.large (omega (arith, many, l))) l;
}
