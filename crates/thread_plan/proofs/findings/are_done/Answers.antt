use Rattle.std.proofs.Common.{rules, ◌≡◌, true}
use Rattle.thread_plan.proofs.Seen.{all_done}
use Rattle.thread_plan.proofs.findings.are_done.Goals as goal

pub returns : goal.returns
returns c =
    let seen : c.see_all.result ≡ true = search rules in
    λ told. all_done c.args.plan.now c.args.receipts.now c.in_ok-found.found c.see_all.new.self c.in_ok-found.ensures (c.see_all.ensures seen) (c.has_all.ensures told)
