-- Places in memory, by the regions that hold them.
use Rattle.std.proofs.Common.{arith, ◌≡◌, ◌<◌, ◌≤◌, ◌-◌, ℕ, Bool, List, [], ◌∷◌, length, get_or, set, true, false, refl, ap}
use Rattle.std.specs.Prelude.{◌||◌, ◌&&◌, ◌==◌}
use Rattle.std.specs.List.{list_any}
use Rattle.rdma_types.specs.declared.names.Name.{Name}
use Rattle.rdma_types.specs.Objects.{Region}
use Rattle.rdma_types.specs.Memory.{Right, grants, granted, holds, is_granted, cut}
use Rattle.packetless_machine.specs.Tables.{place_where}
use Rattle.packetless_machine.specs.Machine.{is_at, put_at, bytes_at}
use Rattle.packetless_machine.specs.Verbs.{overwritten}
use Rattle.packetless_machine.proofs.Places.{some_passes, passes}

-- a place is granted where it is empty, or some region grants it
pub is_granted_by : (key_of : Region → ℕ) (regions : List Region) (domain : Name) (key address count : ℕ) (right : Right) → is_granted key_of regions domain key address count right ≡ ((count == 0) || list_any (grants key_of domain key address count right) regions)
unfolding is_granted granted
is_granted_by key_of regions domain key address count right = ap (λ b. (count == 0) || b) (some_passes (grants key_of domain key address count right) regions)

and_right : (a b : Bool) → (a && b) ≡ true → b ≡ true
and_right true b h = h
and_right false b h = absurd (cc)

module _ (key_of : Region → ℕ) (key address : ℕ) where
  -- a region that was found holds the place
  pub holds_there : (count : ℕ) (rs : List Region) (r : Region) → place_where (is_at key_of key address count) rs < length rs → r ≡ get_or rs (place_where (is_at key_of key address count) rs) r → holds r address count ≡ true
  holds_there count rs r h read = and_right _ _ (passes (is_at key_of key address count) rs r h read)

  abbrev at : ℕ → List Region → ℕ
  at count rs = place_where (is_at key_of key address count) rs

  pub put_at_there : (new : List ℕ) (rs : List Region) (r : Region) → at (length new) rs < length rs → r ≡ get_or rs (at (length new) rs) r → put_at key_of key address new rs ≡ set rs (at (length new) rs) (overwritten r address new)
  unfolding place_where put_at overwritten
  put_at_there new [] r h read = absurd (omega arith)
  put_at_there new (s ∷ ss) r h read = by (is_at key_of key address (length new) s) refl (put_at_there new ss r)
    where
      by : (b : Bool) → is_at key_of key address (length new) s ≡ b
          → (at (length new) ss < length ss → r ≡ get_or ss (at (length new) ss) r → put_at key_of key address new ss ≡ set ss (at (length new) ss) (overwritten r address new))
          → put_at key_of key address new (s ∷ ss) ≡ set (s ∷ ss) (at (length new) (s ∷ ss)) (overwritten r address new)
      by true e ih = let same : r ≡ s = grind (arith, e) in rw (e, same) refl
      by false e ih = let rest : put_at key_of key address new ss ≡ set ss (at (length new) ss) (overwritten r address new) = ih (grind (arith, e)) (grind (arith, e)) in rw (e, rest) refl

  pub put_at_nowhere : (new : List ℕ) (rs : List Region) → length rs ≤ at (length new) rs → put_at key_of key address new rs ≡ rs
  unfolding place_where put_at
  put_at_nowhere new [] h = refl
  put_at_nowhere new (s ∷ ss) h = by (is_at key_of key address (length new) s) refl (put_at_nowhere new ss)
    where
      by : (b : Bool) → is_at key_of key address (length new) s ≡ b → (length ss ≤ at (length new) ss → put_at key_of key address new ss ≡ ss) → put_at key_of key address new (s ∷ ss) ≡ s ∷ ss
      by true e ih = absurd (grind (arith, e))
      by false e ih = let rest : put_at key_of key address new ss ≡ ss = ih (grind (arith, e)) in rw (e, rest) refl

  pub bytes_at_there : (count : ℕ) (rs : List Region) (r : Region) → at count rs < length rs → r ≡ get_or rs (at count rs) r → bytes_at key_of key address count rs ≡ cut (address - r.base) count r.bytes
  unfolding place_where bytes_at
  bytes_at_there count [] r h read = absurd (omega arith)
  bytes_at_there count (s ∷ ss) r h read = by (is_at key_of key address count s) refl (bytes_at_there count ss r)
    where
      by : (b : Bool) → is_at key_of key address count s ≡ b
          → (at count ss < length ss → r ≡ get_or ss (at count ss) r → bytes_at key_of key address count ss ≡ cut (address - r.base) count r.bytes)
          → bytes_at key_of key address count (s ∷ ss) ≡ cut (address - r.base) count r.bytes
      by true e ih = let same : r ≡ s = grind (arith, e) in rw (e, same) refl
      by false e ih = let rest : bytes_at key_of key address count ss ≡ cut (address - r.base) count r.bytes = ih (grind (arith, e)) (grind (arith, e)) in rw (e, rest) refl

  pub bytes_at_nowhere : (count : ℕ) (rs : List Region) → length rs ≤ at count rs → bytes_at key_of key address count rs ≡ []
  unfolding place_where bytes_at
  bytes_at_nowhere count [] h = refl
  bytes_at_nowhere count (s ∷ ss) h = by (is_at key_of key address count s) refl (bytes_at_nowhere count ss)
    where
      by : (b : Bool) → is_at key_of key address count s ≡ b → (length ss ≤ at count ss → bytes_at key_of key address count ss ≡ []) → bytes_at key_of key address count (s ∷ ss) ≡ []
      by true e ih = absurd (grind (arith, e))
      by false e ih = let rest : bytes_at key_of key address count ss ≡ [] = ih (grind (arith, e)) in rw (e, rest) refl
