-- How settling ends: by a round in which nothing changed and nothing was stepped, within its bound.
use Rattle.std.specs.Prelude.{◌≡◌, ℕ, zero, suc, ◌+◌, ◌*◌, ◌≤◌, ◌||◌, Bool, true, false, []}
use Rattle.protocol.specs.State.{World}
use Rattle.protocol.specs.Settle.{Settling, begun, load_of, round, settled}
use Rattle.packetless_machine.specs.Machine.{Machine}
use Rattle.law_simulation.specs.Stands.{Stands}

-- the beginning of a settling
abbrev pub started : World → Settling
started w = record { world = w; changed = false; stepped = false; waited = [] }

-- after n rounds, where the next begins
unfoldable pub after_rounds : ℕ → Settling → Settling
after_rounds zero s = s
after_rounds (suc n) s = after_rounds n (begun (round s))

-- something changed in a round, or a timer or an expiry was stepped
abbrev pub is_moving : Settling → Bool
is_moving s = s.changed || s.stepped

-- settling takes n rounds and then a last one, in which nothing changed and nothing was stepped; it is within the bound
pub record Ends (w : World) : Type 0 where
  pub n : ℕ
  pub moving : (k : ℕ) → suc k ≤ n → is_moving (round (after_rounds k (started w))) ≡ true
  pub still : is_moving (round (after_rounds n (started w))) ≡ false
  pub within : n + 1 ≤ 32 * load_of w
  pub settled : settled w ≡ record { world = (round (after_rounds n (started w))).world; rounds = n + 1 }

-- settling ends
abbrev pub SettlingEnds : Type 0
SettlingEnds = (w : World) (m : Machine) → Stands w m → Ends w
