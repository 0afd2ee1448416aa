-- Three completions, handed to two consumers rightly and wrongly.
use Rattle.std.specs.Prelude.{ℕ, List, [], ◌∷◌, None}
use Rattle.rdma_types.specs.declared.requests.Completion.{Completion}
use Rattle.rdma_types.specs.declared.requests.WcKind.TheVariants as kind
use Rattle.rdma_types.specs.declared.requests.WcStatus.TheVariants as status
use Rattle.completion_fanout.specs.declared.entry.FanEntry.{FanEntry}

-- a fetch and add is completed at the queue pair with that number
abbrev pub completion : ℕ → Completion
completion qp = record { qp = qp; id = 1; kind = kind.FetchAdd; status = status.Success; length = 8; imm = None }

-- what the source gave
abbrev pub drained : List Completion
drained = completion 65537 ∷ completion 65538 ∷ completion 65539 ∷ []

-- an entry
abbrev pub entry : ℕ → ℕ → FanEntry
entry place qp = record { place = place; completion = completion qp }

-- the first consumer took 0 and 2, and the second took 1
abbrev pub taken : List (List FanEntry)
taken = (entry 0 65537 ∷ entry 2 65539 ∷ []) ∷ (entry 1 65538 ∷ []) ∷ []

-- nobody took 1
abbrev pub taken_but_one : List (List FanEntry)
taken_but_one = (entry 0 65537 ∷ entry 2 65539 ∷ []) ∷ []

-- what was taken under 1 is another completion
abbrev pub taken_changed : List (List FanEntry)
taken_changed = (entry 0 65537 ∷ entry 2 65539 ∷ []) ∷ (entry 1 65537 ∷ []) ∷ []

-- both took 1
abbrev pub taken_twice : List (List FanEntry)
taken_twice = (entry 0 65537 ∷ entry 1 65538 ∷ entry 2 65539 ∷ []) ∷ (entry 1 65538 ∷ []) ∷ []
