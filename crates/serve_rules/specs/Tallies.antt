-- What a run counts (this project's choice).
use Rattle.std.specs.Prelude.{ℕ, ◌+◌, ◌-◌, ◌^◌, min, Bool, List, [], ◌∷◌, slice_index, slice_set, if◌then◌else◌}
use Rattle.rdma_types.specs.declared.answers.Answer.{Answer}
use Rattle.rdma_types.specs.declared.answers.Answer.TheVariants as answer
use Rattle.rdma_types.specs.declared.answers.ArrivalEffect.TheVariants as took
use Rattle.rdma_types.specs.declared.answers.DropReason.{DropReason}
use Rattle.rdma_types.specs.declared.answers.DropReason.TheVariants as why
use Rattle.serve_rules.specs.declared.tallies.Tallies.{Tallies}

-- so many more, up to the last value that a u64 has
abbrev pub more_by : ℕ → ℕ → ℕ
more_by n count = min (n + count) (2 ^ 64 - 1)

-- nothing is counted
abbrev pub none_counted : Tallies
none_counted = record { made = 0; sent = 0; unsent = 0; taken = 0; dropped = 0 ∷ 0 ∷ 0 ∷ 0 ∷ 0 ∷ 0 ∷ 0 ∷ 0 ∷ [] }

-- the place of a reason among the counts
abbrev pub place_of : DropReason → ℕ
place_of why.Malformed = 0
place_of why.Unknown = 1
place_of why.Ended = 2
place_of why.Paused = 3
place_of why.NakSent = 4
place_of why.NoRepeat = 5
place_of why.Useless = 6
place_of why.Stale = 7

-- one datagram more had no effect, for that reason
abbrev pub dropping : DropReason → List ℕ → List ℕ
dropping w counts = slice_set counts (place_of w) (more_by (slice_index counts (place_of w)) 1)

-- .. by the answer to an arrival
abbrev pub dropping_by : Answer → List ℕ → List ℕ
dropping_by (answer.Took (took.Silent w) first count) counts = dropping w counts
dropping_by other counts = counts

-- a datagram was taken
unfoldable pub with_arrival : Tallies → Answer → Tallies
with_arrival t a = record t { taken = more_by t.taken 1; dropped = dropping_by a t.dropped }

-- the device made datagrams
unfoldable pub with_made : Tallies → ℕ → Tallies
with_made t count = record t { made = more_by t.made count }

-- a datagram left, or the link did not send it
unfoldable pub with_left : Tallies → Bool → Tallies
with_left t went = if went then record t { sent = more_by t.sent 1 } else record t { unsent = more_by t.unsent 1 }
