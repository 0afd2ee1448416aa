use Rattle.std.proofs.Common.{rules, ◌≡◌}
use Rattle.settle_core.specs.Loads.{view_load}
use Rattle.settle_core.proofs.Goings.{most_told}
use Rattle.settle_core.proofs.rounds.most_rounds.Goals as goal

pub returns : goal.returns
returns c =
    let load : c.in_ok-load.load ≡ view_load c.args.ends.now = search (rules, c.load.ensures, c.ok_or.ensures.value, c.in_ok-load.was) in
    most_told c.ok_or-2.result c.checked_mul.result _ c.in_ok-load.load (view_load c.args.ends.now) c.ok_or-2.ensures.value c.checked_mul.ensures load
