-- The bytes are those read so far, all of them of names, and zeros behind them.
use Rattle.std.proofs.Common.{length, ◌-◌, ◌≡◌, ◌++◌, take, ◌≤◌}
use Rattle.std.specs.List.{prefix_len}
use Rattle.rdma_types.specs.Spelled.{is_name_byte, zeros}
use Rattle.rdma_types.proofs.names.Name.read_front.Given as goal

abbrev pub invariant-loop-len : goal.invariant-loop-len
invariant-loop-len l = (l.bytes ≡ take l.len l.text ++ zeros (16 - l.len)) × ((l.len ≤ prefix_len is_name_byte l.text) × (l.len ≤ length l.text))

abbrev pub decreases-loop-len : goal.decreases-loop-len
decreases-loop-len l = length l.text - l.len
