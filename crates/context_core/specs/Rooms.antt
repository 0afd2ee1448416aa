-- Memory for one datagram, that is taken before the datagram is known.
use Rattle.std.specs.Prelude.{ℕ, ◌<◌, ◌≤◌, Option, Some, None, vec_capacity}
use Rattle.std.specs.declared.vec.Vec.{Vec}
use Rattle.context_core.specs.declared.rooms.DatagramRoom.{DatagramRoom}

-- a buffer is there, for so many bytes
abbrev pub HoldsBytes : {A : Type 0} → Option (Vec ℕ A) → ℕ → Type 0
HoldsBytes None count = ⊥
HoldsBytes (Some v) count = count ≤ vec_capacity v

-- there is a buffer for any datagram of at most so many bytes
pub record HasRoomFor (r : DatagramRoom) (most : ℕ) : Type 0 where
  pub tiny : HoldsBytes r.tiny 64
  pub small : HoldsBytes r.small 256
  pub large : 256 < most → HoldsBytes r.large most
