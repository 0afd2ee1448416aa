-- What the network's store knows of the list of every datagram ever sent: it keeps the last 16,384.
use Rattle.std.specs.Prelude.{ℕ, ◌≡◌, ◌+◌, ◌^◌, ◌<◌, ◌≤◌, ◌&&◌, ◌||◌, not, Bool, false, List, length, slice_get, nat_lt, if◌then◌else◌, Option, Some, None}
use Rattle.std.specs.List.{prefix_len}
use Rattle.protocol.specs.Fabric.{kept_flight}
use Rattle.protocol.specs.State.{Flight}

-- the oldest of 16,384 datagrams, and none of fewer
abbrev pub oldest_of_full : List Flight → Option Flight
oldest_of_full kept = if nat_lt (length kept) 16384 then None else slice_get kept 0

-- it is lost or taken, so it is not pending
abbrev pub is_settled : Flight → Bool
is_settled f = f.lost || f.taken

-- neither lost nor taken
abbrev pub is_open : Option Flight → Bool
is_open None = false
is_open (Some f) = not f.lost && not f.taken

-- datagram k is kept and neither lost nor taken
abbrev pub is_pending : List Flight → ℕ → Bool
is_pending sent k = is_open (kept_flight sent k)

-- the datagrams that are kept, how many are not any more, and how many of the oldest ones are settled
pub record IsStore (gone settled : ℕ) (kept : List Flight) : Type 0 where
  pub room : length kept ≤ 16384
  pub full : 0 < gone → length kept ≡ 16384
  pub few : gone + length kept < 2 ^ 63
  pub front : settled ≡ prefix_len is_settled kept
