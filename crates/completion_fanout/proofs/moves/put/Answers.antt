use Rattle.std.proofs.Common.{subst, sym}
use Rattle.completion_fanout.specs.declared.rule.Share.{Share}
use Rattle.completion_fanout.specs.Rule.{MayPut}
use Rattle.completion_fanout.proofs.Steps.{may_put}
use Rattle.completion_fanout.proofs.moves.put.Goals as goal

pub push_as-requires-clause-rule : goal.push_as-requires-clause-rule
push_as-requires-clause-rule g c =
    (may_put _ _ _ c.args.parcel (subst (λ (v : Share). MayPut v c.args.parcel) (sym c.loop.invariant.1) c.requires.may), λ items views f at. tt)
