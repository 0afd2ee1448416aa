use Rattle.std.proofs.Common.{◌-◌, ◌+◌, ◌≡◌, ◌≤◌, ◌<◌, ℕ, arith, ap, sym, subst, rules}
use Rattle.settle_core.specs.Steps.{deliver_events, delivered_at, sweeping}
use Rattle.settle_core.proofs.Visits.{shows_as, sweeps_none, sweeps_on}
use Rattle.settle_core.proofs.Cuts.{sweep_cut}
use Rattle.world_core.specs.Settled.{IsCut}
use Rattle.settle_core.proofs.Goings.{on_err}
use Rattle.settle_core.proofs.notes.Notes.sweep.Goals as goal

pub loop-k-init : goal.loop-k-init
loop-k-init c = (λ s h. shows_as c.args.world.now c.args.self.now s (sweeping s c.args.first (c.args.first - c.args.first)) (sym (sweeps_none s c.args.first (c.args.first - c.args.first) (omega arith))) h, omega arith)

pub returns-in_err-deliver-clause-ok : goal.returns-in_err-deliver-clause-ok
returns-in_err-deliver-clause-ok c = search rules

pub loop-k-preserved : goal.loop-k-preserved
loop-k-preserved c = (
  λ s h. let above : c.args.first ≤ c.loop-k.k = omega arith in shows_as c.deliver.new.world c.deliver.new.self (delivered_at (sweeping s c.args.first (c.loop-k.k - c.args.first)) c.loop-k.k) (sweeping s c.args.first (c.loop-k.k + 1 - c.args.first)) (sweeps_on s c.args.first c.loop-k.k above) (c.in_ok-deliver.ensures.ok (sweeping s c.args.first (c.loop-k.k - c.args.first)) (c.loop-k.invariant.0 s h)),
  omega arith,
)

pub returns-clause-ok : goal.returns-clause-ok
returns-clause-ok c s h = let all : c.loop-k.k - c.args.first ≡ c.args.end - c.args.first = omega (arith, c.loop-k.invariant.1) in shows_as c.loop-k.world c.loop-k.self (sweeping s c.args.first (c.loop-k.k - c.args.first)) (sweeping s c.args.first (c.args.end - c.args.first)) (ap (sweeping s c.args.first) all) (c.loop-k.invariant.0 s h)

pub returns-in_err-deliver-clause-cut : goal.returns-in_err-deliver-clause-cut
returns-in_err-deliver-clause-cut c =
    on_err c.from_residual.result
    (λ s h.
    let first = c.args.first in
    let i : ℕ = c.loop-k.k - first in
    let below : i < c.args.end - first = omega (arith, c.loop-k-test.true) in
    let place : c.loop-k.k ≡ first + i = omega arith in
    sweep_cut i s first (c.args.end - first) c.deliver.new.world below
    (subst (λ k. IsCut (sweeping s first i).world (deliver_events (sweeping s first i) k) c.deliver.new.world) place (c.in_err-deliver.ensures.cut (sweeping s first i) (c.loop-k.invariant.0 s h))))
