-- The order of all devices' steps (this project's choice).
use Rattle.std.specs.Prelude.{ℕ, ◌+◌, List, [], ◌∷◌, ◌++◌}
use Rattle.order_rules.specs.declared.OrderEntry.{OrderEntry}

-- the entries of all steps, and how many datagrams they sent
pub record OrderView : Type 0 where
  pub entries : List OrderEntry
  pub sent : ℕ

-- the order before the first step
abbrev pub no_order : OrderView
no_order = record { entries = []; sent = 0 }

-- the entry that a step gets: its datagrams have the next numbers, counted from 1
abbrev pub next_entry : OrderView → ℕ → ℕ → ℕ → OrderEntry
next_entry b device place count = record { device = device; place = place; first = b.sent + 1; count = count }

-- the order with one more step, of the device with that id, which sent so many datagrams
abbrev pub entered : OrderView → ℕ → ℕ → ℕ → OrderView
entered b device place count = record {
  entries = b.entries ++ next_entry b device place count ∷ [];
  sent = b.sent + count;
}
