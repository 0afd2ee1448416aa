-- The first completions are written, and the places behind them are as they were.
use Rattle.std.proofs.Common.{◌≡◌, map, ◌++◌, take, drop}
use Rattle.c_layout.specs.Told as told
use Rattle.c_layout.proofs.buffers.write_completions.Given as goal

abbrev pub invariant-loop-i : goal.invariant-loop-i
invariant-loop-i l = l.out ≡ map told.completion_told (take l.i l.from) ++ drop l.i l.fn.out
