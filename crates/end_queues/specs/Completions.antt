-- A completion queue and the places in it that are promised to work which will complete.
use Rattle.std.specs.Prelude.{ℕ, ◌+◌, ◌-◌, ◌≤◌, List, [], ◌∷◌, ◌++◌, drop, length}
use Rattle.rdma_types.specs.declared.requests.Completion.{Completion}

-- how many entries it may hold, how many places are reserved, and what it holds, the oldest first
pub record Queue : Type 0 where
  pub capacity : ℕ
  pub reserved : ℕ
  pub entries : List Completion

-- a queue with these entries and no reserved place
abbrev pub unreserved : ℕ → List Completion → Queue
unreserved capacity entries = record { capacity = capacity; reserved = 0; entries = entries }

-- as many places are used as there are entries and reserved places
abbrev pub used_places : Queue → ℕ
used_places q = length q.entries + q.reserved

-- entries and reserved places never pass the capacity
abbrev pub IsWithin : Queue → Type 0
IsWithin q = used_places q ≤ q.capacity

-- one more place is reserved
abbrev pub reserving : Queue → Queue
reserving q = record q { reserved = q.reserved + 1 }

-- one reserved place is given back
abbrev pub giving_back : Queue → Queue
giving_back q = record q { reserved = q.reserved - 1 }

-- a completion stands at the end, in a place that was reserved
abbrev pub completed : Queue → Completion → Queue
completed q c = record q { reserved = q.reserved - 1; entries = q.entries ++ c ∷ [] }

-- the n oldest entries are handed out
abbrev pub polled : Queue → ℕ → Queue
polled q n = record q { entries = drop n q.entries }
