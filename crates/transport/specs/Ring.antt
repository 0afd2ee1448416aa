-- A ring of sixteen places: where the replies stand in it, and what holds of it.
use Rattle.std.specs.Prelude.{ℕ, ◌≡◌, ◌<◌, ◌≤◌, ◌++◌, List, length, take, drop, AllPairs}
use Rattle.protocol.specs.declared.images.KeptReply.{KeptReply}

-- the replies, the oldest first: those from its place on, and then those before it
abbrev pub in_order : ℕ → ℕ → List KeptReply → List KeptReply
in_order oldest len ring = drop oldest (take len ring) ++ take oldest ring

-- the numbers rise
abbrev pub Rises : List KeptReply → Type 0
Rises = AllPairs (λ a b. a.number < b.number)

-- the ring has sixteen places, the oldest reply stands at the first until all are filled, and the numbers rise
pub record IsRing (oldest len : ℕ) (ring : List KeptReply) : Type 0 where
  pub whole : length ring ≡ 16
  pub room : len ≤ 16
  pub start : oldest < 16
  pub filling : len < 16 → oldest ≡ 0
  pub rises : Rises (in_order oldest len ring)
