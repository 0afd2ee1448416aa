-- What the pointer of a handle owns.
use Rattle.std.specs.Prelude.{Option, Some, None}
use mir.Syntax.{Ty}
use base.Fml.{Fml, ftrue}
use denote.RattleType.{RattleType}
use denote.RawPtr.{Ptr}
use Rattle.std.specs.Box.Ownership.{box_owns}

-- the value at a pointer and the right to free its block, where there is one
abbrev pub owns_some : (Ty → Ptr → Fml) → (R : RattleType) → Ptr → Option R.Denot → Fml
owns_some holds R p None = ftrue
owns_some holds R p (Some x) = box_owns holds R p x
