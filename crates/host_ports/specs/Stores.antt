-- What a store holds: dumps under names, and dumps that were claimed.
use Rattle.std.specs.Prelude.{ℕ, ◌≡◌, List, [], ◌∷◌, ◌++◌, Option, None, Some}
use Rattle.host_ports.specs.Depots.{Has, Holding, Sets}
use Rattle.rdma_types.specs.declared.names.Name.{Name}

-- a dump that was claimed, and the name that it had
abbrev pub Claim : Type 0
Claim = Name × List ℕ

-- a claim stands behind those that were there, where they are told
abbrev pub AddsClaim : Option (List Claim) → Option (List Claim) → Claim → Type 0
AddsClaim None new c = new ≡ None
AddsClaim (Some claims) new c = new ≡ Some (claims ++ c ∷ [])

-- the last claim is gone, where they are told
abbrev pub DropsClaim : Option (List Claim) → Option (List Claim) → Type 0
DropsClaim None new = new ≡ None
DropsClaim (Some claims) new = (others : List Claim) × (last : Claim) × (claims ≡ others ++ last ∷ []) × (new ≡ Some others)

-- the last claim has its name again, which was free, where claims and dumps are told
abbrev pub GivesLastBack : Option (List Claim) → Option (List Claim) → Option Holding → Option Holding → Type 0
GivesLastBack None new held held' = new ≡ None
GivesLastBack (Some claims) new held held' =
    (others : List Claim) × (last : Claim) × (claims ≡ others ++ last ∷ []) × (new ≡ Some others) × Has held last.0 None × Sets held held' last.0 (Some last.1)
