-- What was found of the queue pair with a number.
use Rattle.std.specs.Prelude.{ℕ, ◌≡◌, Option, Some, IfSome, option_map, slice_get}
use Rattle.rdma_types.specs.declared.names.ObjName.{ObjName}
use Rattle.protocol.specs.State.{Context, Device, End}
use Rattle.context_core.specs.Links.{IsConnectedAt}
use Rattle.device_core.specs.declared.finding.EndPlace.{EndPlace}
use Rattle.device_core.specs.declared.finding.FoundEnd.{FoundEnd}
use Rattle.device_core.specs.Readings.{marks_at}

-- the expected number and `top` of one that was found
abbrev pub found_marks : FoundEnd → ℕ × ℕ
found_marks f = (f.expected, f.top)

-- the end at a place of the context at a place of the device has the number
pub record IsEndOf (d : Device) (context place number : ℕ) : Type 0 where
  pub owner : Context
  pub here : slice_get d.contexts context ≡ Some owner
  pub end : End
  pub there : slice_get owner.ends place ≡ Some end
  pub same : end.number ≡ number

-- what `find_end` gives of a number: the connected end that has it, if there is one
pub record IsFound (d : Device) (number : ℕ) (found : Option FoundEnd) : Type 0 where
  pub marks : option_map found_marks found ≡ marks_at d number
  pub place : IfSome found (λ f. IsEndOf d f.context f.place number)

-- the connected end that a word names is at these places: of its context on the device, and of the end in the context
pub record IsAt (d : Device) (o : ObjName) (at : EndPlace) : Type 0 where
  pub owner : Context
  pub here : slice_get d.contexts at.context ≡ Some owner
  pub owned : owner.name ≡ o.context
  pub there : IsConnectedAt owner o.name at.place
