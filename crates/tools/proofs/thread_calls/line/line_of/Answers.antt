use Rattle.std.proofs.Common.{rules, ◌++◌, ap, ◌∙◌}
use Rattle.std.specs.Prelude.{codes}
use Rattle.std.specs.Fmt.{decimal}
use Rattle.tools.specs.Threads.{whose}
use Rattle.tools.proofs.Joined.{joined}
use Rattle.tools.proofs.thread_calls.line.line_of.Goals as goal

pub returns : goal.returns
returns c = joined c.new-text.result.items c.put.new.out.items c.put-2.new.out.items c.put-3.new.out.items c.put-4.new.out.items c.put-5.new.out.items c.extend_from_slice.new.self.items c.extend_from_slice-2.new.self.items (codes "threads workers ") (decimal c.args.plan.now.workers) (codes " adds ") (decimal c.args.plan.now.adds) (codes " moves ") (decimal c.args.plan.now.moves) (codes " word ") (decimal c.args.run.now.word) (codes " completions ") (decimal c.args.run.now.completions) (codes " by ") (whose c.args.run.now.alone) c.new-text.ensures.items (c.in_ok-put.ensures ∙ ap (λ n. c.new-text.result.items ++ codes "threads workers " ++ decimal n) c.from.ensures) (c.in_ok-put-2.ensures ∙ ap (λ n. c.put.new.out.items ++ codes " adds " ++ decimal n) c.from-2.ensures) (c.in_ok-put-3.ensures ∙ ap (λ n. c.put-2.new.out.items ++ codes " moves " ++ decimal n) c.from-3.ensures) (c.in_ok-put-4.ensures) (c.in_ok-put-5.ensures) (search rules) (search rules)
