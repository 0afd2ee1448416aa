use Rattle.std.proofs.Common.{ℕ, ap}
use Rattle.node_rules.specs.Node.{Node}
use Rattle.node_rules.specs.Plan as plan
use Rattle.node_rules.specs.Plan.{Plan}
use Rattle.node_engine.specs.declared.faults.NodeFault.TheVariants as fault
use Rattle.node_rules.specs.Serve.{asked, expiring}
use Rattle.node_engine.specs.Names.{names_of}
use Rattle.node_engine.proofs.Parts.{does_as, fails_as, ran_out, second, then}
use Rattle.node_engine.proofs.OneTurn.{timing_of}
use Rattle.node_engine.proofs.state.Node.time.Goals as goal

pub returns-in_err-ask : goal.returns-in_err-ask
returns-in_err-ask g c =
    fails_as (timing_of (names_of c.args.live.now) c.args.self.now) _ fault.OutOfMemory _ _ c.from_residual.result c.from_residual.ensures.1
    (ran_out (timing_of (names_of c.args.live.now) c.args.self.now) (λ more. expiring c.now-now.result (names_of c.args.live.now) (asked c.args.self.now c.now-now.result) more) _ _ (second plan.Asks (λ (n : ℕ) (more : Node → Plan). expiring n (names_of c.args.live.now) (asked c.args.self.now n) more) c.now-now.result _ _ c.now-now.ensures))

pub returns : goal.returns
returns g c = then plan.Asks (λ (n : ℕ) (more : Node → Plan). expiring n (names_of c.args.live.now) (asked c.args.self.now n) more) c.now-now.result _ _ _ _ _ c.now-now.ensures (does_as (expiring c.now-now.result (names_of c.args.live.now) c.ask.new.self) (expiring c.now-now.result (names_of c.args.live.now) (asked c.args.self.now c.now-now.result)) _ _ _ _ (ap (λ (n : Node). expiring c.now-now.result (names_of c.args.live.now) n) c.in_ok-ask.ensures) c.expire_all.ensures)
