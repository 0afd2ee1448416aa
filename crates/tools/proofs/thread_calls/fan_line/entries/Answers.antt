use Rattle.std.proofs.Common.{rules, arith, ◌≡◌, ◌+◌, length}
use Rattle.tools.proofs.Counting.{entries_more}
use Rattle.tools.proofs.thread_calls.fan_line.entries.Goals as goal

pub loop-list-preserved : goal.loop-list-preserved
loop-list-preserved c =
    let more : c.in-Some.more ≡ c.loop-list.count + length c.list-item.result = search rules in
    entries_more c.args.lists.now c.loop-list.list-index c.list-item.result c.loop-list.count c.in-Some.more (omega arith) c.list-item.is c.loop-list.invariant more
