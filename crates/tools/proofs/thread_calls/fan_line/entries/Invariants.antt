use Rattle.std.proofs.Common.{◌≡◌, take}
use Rattle.tools.specs.Fanout.{entries_in}
use Rattle.tools.proofs.thread_calls.fan_line.entries.Given as goal

abbrev pub invariant-loop-list : goal.invariant-loop-list
invariant-loop-list l = l.count ≡ entries_in (take l.list-index l.lists)
