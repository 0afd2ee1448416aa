use Rattle.std.proofs.Common.{◌≡◌, false}
use Rattle.completion_fanout.proofs.Joins.{served_more}
use Rattle.completion_fanout.proofs.consumers.take_in.Goals as goal
use Rattle.completion_fanout.proofs.consumers.take_in.Goals.{then-is_out_of_memory, else-is_out_of_memory}

pub returns-clause-all : goal.returns-clause-all
returns-clause-all g c =
    let short : c.if-is_out_of_memory.result ≡ false → (c.args.all.is_out_of_memory ≡ false) × (c.args.served.is_out_of_memory ≡ false) =
    λ h. elim c.if-is_out_of_memory.branch [ then-is_out_of_memory w ↦ cc (w.result-is, h) | else-is_out_of_memory w ↦ (w.if-is_out_of_memory.false, cc (w.result-is, h)) ] in
    served_more _ _ _ _ _ c.args.served _ _ c.requires.all c.requires.served c.join.ensures.pass c.join.ensures.joined c.join.ensures.rising c.push_reserved.ensures.items short
