-- Regions under their local keys.
use Rattle.std.specs.Prelude.{ℕ, ◌≡◌, ◌+◌, List, All, nat_eq}
use Rattle.std.specs.List.{IsDistinct}
use Rattle.std.specs.Map.{keys_of}
use Rattle.memory_keys.specs.declared.RegisteredRegion.{RegisteredRegion}

-- each region stands under its local key, its remote key is the next number, and no two have a key
pub record IsKeyed (entries : List (ℕ × RegisteredRegion)) : Type 0 where
  pub local : All (λ e. e.0 ≡ e.1.head.keys.local) entries
  pub remote : All (λ e. e.1.head.keys.remote ≡ e.1.head.keys.local + 1) entries
  pub distinct : IsDistinct nat_eq (keys_of entries)
