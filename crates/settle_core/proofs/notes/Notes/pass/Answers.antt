use Rattle.std.proofs.Common.{◌≡◌, Some, None, rules}
use Rattle.protocol.specs.Fabric.{pending}
use Rattle.settle_core.proofs.Visits.{on_ok, pass_none, pass_swept}
use Rattle.settle_core.proofs.Cuts.{on_err_map}
use Rattle.settle_core.proofs.Passes.{pass_cuts}
use Rattle.settle_core.proofs.notes.Notes.pass.Goals as goal

pub returns-in_default-clause-ok : goal.returns-in_default-clause-ok
returns-in_default-clause-ok c = let none : pending c.args.world.now.sent ≡ None = search (rules, c.pending.ensures, c.in_default.is, c.in_default.ensures) in pass_none c.args.world.now c.args.self.now none

pub returns-clause-ok : goal.returns-clause-ok
returns-clause-ok c =
    let least : pending c.args.world.now.sent ≡ Some c.in-Some.first = search (rules, c.pending.ensures, c.in-Some.is, c.in-Some.ensures) in
    on_ok c.sweep.result (pass_swept c.args.world.now c.sweep.new.world c.args.self.now c.sweep.new.self c.in-Some.first c.next.result least c.next.ensures.number) c.sweep.ensures.ok

pub returns-clause-cut : goal.returns-clause-cut
returns-clause-cut c =
    let least : pending c.args.world.now.sent ≡ Some c.in-Some.first = search (rules, c.pending.ensures, c.in-Some.is, c.in-Some.ensures) in
    on_err_map c.sweep.result (pass_cuts c.args.world.now c.sweep.new.world c.args.self.now c.in-Some.first c.next.result least c.next.ensures.number) c.sweep.ensures.cut
