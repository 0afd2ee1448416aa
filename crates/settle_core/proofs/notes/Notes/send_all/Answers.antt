use Rattle.std.proofs.Common.{◌≡◌, ◌<◌, ◌+◌, ◌-◌, ◌*◌, ℕ, arith, ap, rules}
use Rattle.settle_core.proofs.Visits.{sends_most, way_begins, way_ends, way_goes, way_stops}
use Rattle.settle_core.proofs.Parts.{sends_cut, way_cut}
use Rattle.settle_core.proofs.Goings.{on_err}
use Rattle.settle_core.proofs.notes.Notes.send_all.Goals as goal

pub loop-turn-init : goal.loop-turn-init
loop-turn-init c = λ s h. way_begins c.args.world.now c.args.self.now s c.args.end.now (2 * c.saturating_sub.result + 2) h

pub returns-in_err-send-clause-ok : goal.returns-in_err-send-clause-ok
returns-in_err-send-clause-ok c = search rules

pub returns-then-not-branch-clause-ok : goal.returns-then-not-branch-clause-ok
returns-then-not-branch-clause-ok c =
    let most : ℕ = 2 * c.saturating_sub.result + 2 in
    let is : most ≡ 2 * (c.args.link.now.last - c.args.link.now.una) + 2 = ap (λ x. 2 * x + 2) c.saturating_sub.ensures in
    let below : c.loop-turn.turn < most = omega arith in
    sends_most c.args.world.now c.send.new.world c.args.self.now c.send.new.self c.args.end.now c.args.link.now most c.requires.link is
    (λ s h. way_stops c.loop-turn.world c.send.new.world c.loop-turn.self c.send.new.self s c.args.end.now most c.loop-turn.turn c.in_ok-send.field-0 below (c.loop-turn.invariant s h) (search (rules, c.if-not-branch.true)) c.in_ok-send.ensures.ok)

pub loop-turn-preserved : goal.loop-turn-preserved
loop-turn-preserved c =
    let most : ℕ = 2 * c.saturating_sub.result + 2 in
    let below : c.loop-turn.turn < most = omega arith in
    λ s h. way_goes c.loop-turn.world c.send.new.world c.loop-turn.self c.send.new.self s c.args.end.now most c.loop-turn.turn c.in_ok-send.field-0 below (c.loop-turn.invariant s h) (search (rules, c.if-not-branch.false)) c.in_ok-send.ensures.ok

pub returns-clause-ok : goal.returns-clause-ok
returns-clause-ok c =
    let most : ℕ = 2 * c.saturating_sub.result + 2 in
    let is : most ≡ 2 * (c.args.link.now.last - c.args.link.now.una) + 2 = ap (λ x. 2 * x + 2) c.saturating_sub.ensures in
    let none : most - c.loop-turn.turn ≡ 0 = omega arith in
    sends_most c.args.world.now c.loop-turn.world c.args.self.now c.loop-turn.self c.args.end.now c.args.link.now most c.requires.link is
    (λ s h. way_ends c.loop-turn.world c.loop-turn.self s c.args.end.now most (most - c.loop-turn.turn) none (c.loop-turn.invariant s h))

pub returns-in_err-send-clause-cut : goal.returns-in_err-send-clause-cut
returns-in_err-send-clause-cut c =
    let most : ℕ = 2 * c.saturating_sub.result + 2 in
    let is : most ≡ 2 * (c.args.link.now.last - c.args.link.now.una) + 2 = ap (λ x. 2 * x + 2) c.saturating_sub.ensures in
    let below : c.loop-turn.turn < most = omega arith in
    on_err c.from_residual.result
    (sends_cut c.args.world.now c.send.new.world c.args.self.now c.args.end.now c.args.link.now most c.requires.link is
    (λ s h. way_cut c.loop-turn.world c.send.new.world c.loop-turn.self s c.args.end.now most c.loop-turn.turn below (c.loop-turn.invariant s h) c.in_err-send.ensures.cut))
