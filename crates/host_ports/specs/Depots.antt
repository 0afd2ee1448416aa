-- What a depot holds: bytes under names.
use Rattle.std.specs.Prelude.{ℕ, ◌≡◌, List, true, false, Option, None, Some, is_some, bytes_eq, if◌then◌else◌}
use Rattle.std.specs.Map.{lookup}
use Rattle.indexmap.specs.IndexMap.{insert_entry, shift_remove_entry}
use Rattle.host_ports.specs.Memory.{counted}
use Rattle.rdma_types.specs.declared.names.Name.{Name}

-- the bytes under each name, if there are any
abbrev pub Holding : Type 0
Holding = Name → Option (List ℕ)

-- that is under the name, where it is told
abbrev pub Has : Option Holding → Name → Option (List ℕ) → Type 0
Has None name found = Unit {0}
Has (Some holds) name found = holds name ≡ found

-- something is under the name, where that is told
abbrev pub IsThere : Option Holding → Name → Type 0
IsThere None name = Unit {0}
IsThere (Some holds) name = is_some (holds name) ≡ true

-- it is this alone that is now under the name, where that is told; every other name is as it was
abbrev pub Sets : Option Holding → Option Holding → Name → Option (List ℕ) → Type 0
Sets None new name found = new ≡ None
Sets (Some holds) new name found = (after : Holding) × (new ≡ Some after) × ((n : Name) → after n ≡ (if bytes_eq name n then found else holds n))

-- every other name is as it was, where that is told; of this one nothing is said
abbrev pub KeepsOthers : Option Holding → Option Holding → Name → Type 0
KeepsOthers None new name = new ≡ None
KeepsOthers (Some holds) new name = (after : Holding) × (new ≡ Some after) × ((n : Name) → bytes_eq name n ≡ false → after n ≡ holds n)

-- a depot in memory: what it holds under which names, the numbers of the calls that fail, and how many calls there were and faults
pub record DepotState : Type 0 where
  pub held : List (Name × List ℕ)
  pub fails : List ℕ
  pub calls : ℕ
  pub faults : ℕ

-- the bytes under each name of a depot in memory
abbrev pub holding : DepotState → Holding
holding s = λ name. lookup (bytes_eq name) s.held

-- a depot after a call that failed: the call and the fault are counted
abbrev pub call_failed : DepotState → DepotState
call_failed s = record s { calls = counted s.calls; faults = counted s.faults }

-- a depot after a call that did not fail
abbrev pub called : DepotState → DepotState
called s = record s { calls = counted s.calls }

-- a depot after these bytes are put under the name, in place of others there
abbrev pub put_under : DepotState → Name → List ℕ → DepotState
put_under s name bytes = record s { held = insert_entry bytes_eq s.held name bytes; calls = counted s.calls }

-- a depot after what is under the name is taken out
abbrev pub taken_from : DepotState → Name → DepotState
taken_from s name = record s { held = shift_remove_entry (bytes_eq name) s.held; calls = counted s.calls }

-- nothing under any name
abbrev pub nothing : Holding
nothing = λ name. None
