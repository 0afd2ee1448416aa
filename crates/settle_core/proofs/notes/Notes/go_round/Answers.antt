use Rattle.std.proofs.Common.{arith, ◌≡◌, ◌<◌, true, false, rules}
use Rattle.std.specs.Prelude.{◌||◌}
use Rattle.settle_core.proofs.Goings.{going_begins, going_cut, going_ends, going_goes, going_stops, on_err}
use Rattle.settle_core.proofs.notes.Notes.go_round.Goals as goal

pub loop-rounds-init : goal.loop-rounds-init
loop-rounds-init c = (λ s h. going_begins c.args.world.now c.args.self.now s c.args.most h, omega arith, c.requires)

pub returns-then-is_quiet-clause-ok : goal.returns-then-is_quiet-clause-ok
returns-then-is_quiet-clause-ok c =
    let below : c.loop-rounds.rounds < c.args.most = omega (arith, c.loop-rounds-test.true) in
    let quiet : (c.round.new.self.changed || c.round.new.self.stepped) ≡ false = search (rules, c.is_quiet.ensures, c.if-is_quiet.true) in
    λ s h. going_stops c.loop-rounds.world c.round.new.world c.loop-rounds.self c.round.new.self s c.args.most c.loop-rounds.rounds below (c.loop-rounds.invariant.0 s h) c.in_ok-round.ensures.ok quiet

pub loop-rounds-preserved : goal.loop-rounds-preserved
loop-rounds-preserved c =
    let below : c.loop-rounds.rounds < c.args.most = omega (arith, c.loop-rounds-test.true) in
    let more : (c.round.new.self.changed || c.round.new.self.stepped) ≡ true = search (rules, c.is_quiet.ensures, c.if-is_quiet.false) in (
      λ s h. going_goes c.loop-rounds.world c.round.new.world c.loop-rounds.self c.round.new.self c.begin.new.self s c.args.most c.loop-rounds.rounds below (c.loop-rounds.invariant.0 s h) c.in_ok-round.ensures.ok more c.begin.ensures,
      omega arith,
      c.in_ok-round.ensures.listed,
    )

pub returns-clause-ok : goal.returns-clause-ok
returns-clause-ok c =
    let all : c.args.most ≡ c.loop-rounds.rounds = omega (arith, c.loop-rounds.invariant.1, c.loop-rounds-test.false) in
    λ s h. going_ends c.loop-rounds.world c.loop-rounds.self s c.args.most c.loop-rounds.rounds all (c.loop-rounds.invariant.0 s h)

pub returns-in_err-round-clause-cut : goal.returns-in_err-round-clause-cut
returns-in_err-round-clause-cut c =
    let below : c.loop-rounds.rounds < c.args.most = omega (arith, c.loop-rounds-test.true) in
    on_err c.from_residual.result
    (λ s h. going_cut c.loop-rounds.world c.round.new.world c.loop-rounds.self s c.args.most c.loop-rounds.rounds below (c.loop-rounds.invariant.0 s h) c.in_err-round.ensures.cut)
