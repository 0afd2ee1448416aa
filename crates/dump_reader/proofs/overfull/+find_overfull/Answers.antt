use Rattle.std.proofs.Common.{◌∙◌}
use Rattle.dump_reader.proofs.Reserved.{overfull_past}
use Rattle.dump_reader.proofs.overfull.+find_overfull.Goals as goal

pub returns-else-is_overfull : goal.returns-else-is_overfull
returns-else-is_overfull t c = c.find_overfull.ensures ∙ overfull_past c.args.opened.now c.args.lists.now.domains.items c.args.lists.now.regions.items c.args.lists.now.queues.items c.args.lists.now.ends.items c.args.queues.now c.first-item.result c.is_overfull.result c.in-len1-up.len_at_least c.first-item.is c.is_overfull.ensures c.if-is_overfull.false
