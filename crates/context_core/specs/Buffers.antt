-- Memory that is kept to be filled again.
use Rattle.std.specs.Prelude.{ℕ, ◌≡◌, ◌<◌, ◌≤◌, ◌++◌, ◌∷◌, [], vec_capacity, vec_len}
use Rattle.std.specs.declared.vec.Vec.{Vec}

-- a buffer is kept behind the others, where there is room for it, and else nothing changes
pub record IsPut {A : Type 0} (old new : Vec (Vec ℕ A) A) (buffer : Vec ℕ A) : Type 0 where
  pub kept : vec_len old < vec_capacity old → new.items ≡ old.items ++ buffer ∷ []
  pub full : vec_capacity old ≤ vec_len old → new ≡ old
