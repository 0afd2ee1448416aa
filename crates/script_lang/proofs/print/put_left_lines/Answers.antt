use Rattle.std.proofs.Common.{◌++◌, List, take, ap, ◌∙◌}
use Rattle.std.proofs.lemmas.List.{take_all}
use Rattle.rdma_types.specs.declared.answers.UnfinishedReason.{UnfinishedReason}
use Rattle.rdma_types.specs.declared.names.ObjName.{ObjName}
use Rattle.script_lang.specs.Printed.{Keeps, left_lines}
use Rattle.script_lang.proofs.Writing.{keeps_after, left_start, left_step, on_err}
use Rattle.script_lang.proofs.print.put_left_lines.Goals as goal

pub loop-end-init : goal.loop-end-init
loop-end-init c = left_start c.args.out.now.items

pub loop-end-preserved : goal.loop-end-preserved
loop-end-preserved c =
    left_step c.args.ends.now c.loop-end.end-index c.end-item.result c.args.out.now.items c.loop-end.out.items c.put_left.new.out.items
    c.loop-end-test.true c.end-item.is c.loop-end.invariant c.in_ok-put_left.ensures.ok

pub returns-in_err-put_left-clause-err : goal.returns-in_err-put_left-clause-err
returns-in_err-put_left-clause-err c =
    on_err c.from_residual.result (Keeps c.args.out.now.items c.put_left.new.out.items)
    (keeps_after c.args.out.now.items (left_lines (take c.loop-end.end-index c.args.ends.now)) c.loop-end.out.items c.put_left.new.out.items
    c.loop-end.invariant c.in_err-put_left.ensures.err)

pub returns-clause-ok : goal.returns-clause-ok
returns-clause-ok c =
    c.loop-end.invariant ∙ ap (λ (xs : List (ObjName × UnfinishedReason)). c.args.out.now.items ++ left_lines xs) (take_all c.loop-end.end-index c.args.ends.now c.loop-end-test.false)
