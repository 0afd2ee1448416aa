use Rattle.std.proofs.Common.{rules, ◌++◌, length, ap, ◌∙◌}
use Rattle.std.specs.Prelude.{codes}
use Rattle.std.specs.Fmt.{decimal}
use Rattle.tools.specs.Fanout.{entries_in}
use Rattle.tools.specs.Threads.{whose}
use Rattle.tools.proofs.Joined.{joined}
use Rattle.tools.proofs.thread_calls.fan_line.fan_line_of.Goals as goal

pub returns : goal.returns
returns c = joined c.new-text.result.items c.put.new.out.items c.put-2.new.out.items c.put-3.new.out.items c.put-4.new.out.items c.put-5.new.out.items c.extend_from_slice.new.self.items c.extend_from_slice-2.new.self.items (codes "fanout consumers ") (decimal c.args.plan.now.consumers) (codes " adds ") (decimal c.args.plan.now.adds) (codes " drained ") (decimal (length c.args.fanned.now.drained)) (codes " taken ") (decimal (entries_in c.args.fanned.now.taken)) (codes " left ") (decimal (length c.args.fanned.now.left)) (codes " by ") (whose c.args.fanned.now.run.alone) c.new-text.ensures.items (c.in_ok-put.ensures ∙ ap (λ n. c.new-text.result.items ++ codes "fanout consumers " ++ decimal n) c.from.ensures) (c.in_ok-put-2.ensures ∙ ap (λ n. c.put.new.out.items ++ codes " adds " ++ decimal n) c.from-2.ensures) (search rules) (search rules) (search rules) (search rules) (search rules)
