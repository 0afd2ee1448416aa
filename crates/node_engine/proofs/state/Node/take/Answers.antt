use Rattle.std.proofs.Common.{◌≤◌, [], Option, Some, length, take, refl, subst, arith}
use Rattle.node_rules.specs.Plan as plan
use Rattle.node_rules.specs.Plan.{Plan}
use Rattle.node_rules.specs.Serve.{arriving, taking}
use Rattle.host_ports.specs.Links.{Addressed, FitsIn}
use Rattle.node_engine.proofs.Parts.{does_on, fails_as, fails_first}
use Rattle.node_engine.proofs.OneTurn.{took_nothing, took_one}
use Rattle.node_engine.proofs.state.Node.take.Goals as goal

pub returns-in_err-got : goal.returns-in_err-got
returns-in_err-got g c =
    fails_as (taking c.args.self.now) _ c.in_err-got.field-0.0 _ _ c.from_residual.result c.from_residual.ensures.1
    (fails_first plan.Takes (λ (o : Option Addressed) more. arriving (record c.args.self.now { active = [] }) o more) c.in_err-got.field-0.0 _ _ c.in_err-got.ensures.taken)

pub returns-in-Nothing : goal.returns-in-Nothing
returns-in-Nothing g c = took_nothing c.args.self.now c.begin_turn.new.self c.in_ok-got.got c.take.new.out _ _ c.begin_turn.ensures c.in-Nothing.is c.in_ok-got.ensures.taken

pub slice_bounds-datagram-end : goal.slice_bounds-datagram-end
slice_bounds-datagram-end g c =
    let fits : c.in-Datagram.length ≤ length c.args.buffer.now = subst (FitsIn (length c.args.buffer.now)) c.in-Datagram.is c.in_ok-got.ensures.fits in omega (arith, fits)

pub returns-in-Datagram : goal.returns-in-Datagram
returns-in-Datagram g c =
    let d : Addressed = (c.in-Datagram.from, take c.in-Datagram.length c.take.new.out) in
    does_on (taking c.args.self.now) (arriving c.begin_turn.new.self (Some d)) _ _ _ _ _ (took_one c.args.self.now c.begin_turn.new.self c.in_ok-got.got c.in-Datagram.from c.in-Datagram.length c.take.new.out (take c.in-Datagram.length c.take.new.out) _ _ c.begin_turn.ensures c.in-Datagram.is refl c.in_ok-got.ensures.taken) c.arrive.ensures
