-- Posted work in posting order.
use Rattle.std.specs.Prelude.{ℕ, ◌≤◌, List, [], ◌∷◌, ◌++◌, drop, length}

-- how much it may hold, and what it holds, the oldest first
pub record Queue (T : Type 0) : Type 0 where
  pub depth : ℕ
  pub items : List T

-- a queue with nothing in it
abbrev pub empty_queue : {T : Type 0} → ℕ → Queue T
empty_queue depth = record { depth = depth; items = [] }

-- it holds no more than its depth
abbrev pub IsWithin : {T : Type 0} → Queue T → Type 0
IsWithin q = length q.items ≤ q.depth

-- one more at the end
abbrev pub posting : {T : Type 0} → Queue T → T → Queue T
posting q item = record q { items = q.items ++ item ∷ [] }

-- the oldest one left
abbrev pub without_front : {T : Type 0} → Queue T → Queue T
without_front q = record q { items = drop 1 q.items }
