use Rattle.std.proofs.Common.{◌++◌, List, take, ap, ◌∙◌}
use Rattle.std.proofs.lemmas.List.{take_all}
use Rattle.rdma_types.specs.declared.requests.Completion.{Completion}
use Rattle.script_lang.specs.Printed.{Keeps, completion_lines}
use Rattle.script_lang.proofs.Writing.{completions_start, completions_step, keeps_after, on_err}
use Rattle.script_lang.proofs.print.put_completions.Goals as goal

pub loop-completion-init : goal.loop-completion-init
loop-completion-init c = completions_start c.args.out.now.items

pub loop-completion-preserved : goal.loop-completion-preserved
loop-completion-preserved c =
    completions_step c.args.completions.now c.loop-completion.completion-index _ c.args.out.now.items c.loop-completion.out.items c.put_completion.new.out.items
    c.loop-completion-test.true c.loop-completion.invariant c.in_ok-put_completion.ensures.ok

pub returns-in_err-put_completion-clause-err : goal.returns-in_err-put_completion-clause-err
returns-in_err-put_completion-clause-err c =
    on_err c.from_residual.result (Keeps c.args.out.now.items c.put_completion.new.out.items)
    (keeps_after c.args.out.now.items (completion_lines (take c.loop-completion.completion-index c.args.completions.now)) c.loop-completion.out.items c.put_completion.new.out.items
    c.loop-completion.invariant c.in_err-put_completion.ensures.err)

pub returns-clause-ok : goal.returns-clause-ok
returns-clause-ok c =
    c.loop-completion.invariant ∙ ap (λ (cs : List Completion). c.args.out.now.items ++ completion_lines cs) (take_all c.loop-completion.completion-index c.args.completions.now c.loop-completion-test.false)
