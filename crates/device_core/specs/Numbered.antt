-- What is told of the connected end with a queue pair number.
use Rattle.std.specs.Prelude.{ℕ, List, [], ◌∷◌, Option, Some, None}
use Rattle.rdma_types.specs.declared.answers.EndView.{EndView}
use Rattle.protocol.specs.DeviceStep.{Found, found_in}
use Rattle.protocol.specs.Readers.{view_of}
use Rattle.protocol.specs.State.{Device}

-- the view of the first found end
abbrev pub first_view : List Found → Option EndView
first_view [] = None
first_view (f ∷ fs) = Some (view_of f.context f.end)

-- the view of the first connected end of a device with a number
abbrev pub numbered_view : Device → ℕ → Option EndView
numbered_view d n = first_view (found_in n d.contexts)
