use Rattle.std.proofs.Common.{◌≤◌, ◌∙◌, refl, subst, false, None}
use Rattle.settle_core.proofs.Goings.{left_all, left_none, left_rounds, most_listed, on_err, settles_as}
use Rattle.settle_core.proofs.rounds.RoundsSettler.settle.Goals as goal

pub returns-in_err-live-clause-left : goal.returns-in_err-live-clause-left
returns-in_err-live-clause-left c = on_err c.from_residual.result (left_none c.args.world.now c.next-next.ensures.kept)

pub returns-in_err-most-clause-left : goal.returns-in_err-most-clause-left
returns-in_err-most-clause-left c = on_err c.from_residual-in_err-most.result (left_none c.args.world.now c.next-next.ensures.kept)

pub returns-in_err-rounds-clause-left : goal.returns-in_err-rounds-clause-left
returns-in_err-rounds-clause-left c =
    on_err c.from_residual-in_err-rounds.result
    (left_rounds c.args.world.now c.go_round.new.world (record { changed = false; stepped = false; waited = c.new.result; seen = None }) c.in_ok-most.most c.next-next.ensures.kept refl refl c.new.ensures.empty refl (most_listed c.args.world.now c.as_slice.result.now c.in_ok-most.most (c.as_slice.ensures ∙ c.in_ok-live.ensures) c.in_ok-most.ensures) c.in_err-rounds.ensures.cut)

pub returns-in_err-unfinished-clause-left : goal.returns-in_err-unfinished-clause-left
returns-in_err-unfinished-clause-left c =
    on_err c.from_residual-in_err-unfinished.result
    (left_all c.args.world.now c.go_round.new.world (record { changed = false; stepped = false; waited = c.new.result; seen = None }) c.in_ok-most.most c.in_ok-rounds.rounds c.next-next.ensures.kept refl refl c.new.ensures.empty refl (most_listed c.args.world.now c.as_slice.result.now c.in_ok-most.most (c.as_slice.ensures ∙ c.in_ok-live.ensures) c.in_ok-most.ensures) c.in_ok-rounds.ensures.ok)

pub returns-clause-settled : goal.returns-clause-settled
returns-clause-settled c =
    settles_as c.args.world.now c.go_round.new.world (record { changed = false; stepped = false; waited = c.new.result; seen = None }) c.in_ok-most.most _ c.next-next.ensures.kept refl refl c.new.ensures.empty refl (most_listed c.args.world.now c.as_slice.result.now c.in_ok-most.most (c.as_slice.ensures ∙ c.in_ok-live.ensures) c.in_ok-most.ensures)
    c.in_ok-rounds.ensures.ok c.in_ok-unfinished.ensures

pub returns-clause-quiet : goal.returns-clause-quiet
returns-clause-quiet c = c.settled_worlds_are_quiet.ensures c.args.world.now c.go_round.new.world _ c.next-next.ensures.lawful (returns-clause-settled c)

pub returns-clause-bounded : goal.returns-clause-bounded
returns-clause-bounded c =
    subst (λ n. c.in_ok-rounds.rounds ≤ n) (most_listed c.args.world.now c.as_slice.result.now c.in_ok-most.most (c.as_slice.ensures ∙ c.in_ok-live.ensures) c.in_ok-most.ensures) c.in_ok-rounds.ensures.bounded
