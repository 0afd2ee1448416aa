use Rattle.std.proofs.Common.{rules, arith, ◌≡◌, length, slice_get, Some, []}
use Rattle.std.proofs.lemmas.Grind.{common_steps}
use Rattle.std.proofs.lemmas.Option.{slice_get-get_or}
use Rattle.run_check.specs.Gathered.{drained_by}
use Rattle.completion_fanout.specs.Fanned.{IsDealt}
use Rattle.completion_fanout.proofs.FannedRuns.{by_caller}
use Rattle.completion_fanout.proofs.running.by_caller.Goals as goal

-- src/running.rt:59:1
pub returns : goal.returns
returns c =
    let told : c.new.result ≡ drained_by c.in-Some.held.now = search rules in
    let all : length c.new.result ≡ c.args.plan.now.adds = search rules in
    let dealt : IsDealt c.args.plan.now.consumers c.new.result c.new-2.result = search rules in
    let none : c.new-4.result ≡ [] = search rules in
    let at : slice_get c.in_ok-run.run'.receipts 2 ≡ Some c.in-Some.held.now =
    rw (← c.as_slice.ensures) (grind (arith, common_steps, slice_get-get_or, c.in-Some.ensures.lookup)) in
    by_caller c.args.plan.now c.one_worker.result _ c.in-Some.held.now c.requires c.one_worker.ensures (search rules) at told all dealt none
