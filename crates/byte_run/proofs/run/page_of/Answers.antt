use Rattle.std.proofs.Common.{◌≡◌, ◌∙◌, ap, length, take, arith}
use Rattle.std.proofs.lemmas.List.{take_all, length-take-le}
use Rattle.byte_run.proofs.run.page_of.Goals as goal

pub returns-in-Some-clause-even : goal.returns-in-Some-clause-even
returns-in-Some-clause-even c = ap length (c.in_ok-new.ensures.ok ∙ c.in-Some.ensures.cases.same) ∙ length-take-le 4096 c.args.bytes.now c.in-Some.ensures.cases.enough

pub returns-in-Some-clause-bytes : goal.returns-in-Some-clause-bytes
returns-in-Some-clause-bytes c =
    let whole : c.in_ok-new.field-0.value ≡ c.args.bytes.now = c.in_ok-new.ensures.ok ∙ (c.in-Some.ensures.cases.same ∙ take_all 4096 c.args.bytes.now (omega arith)) in
    ap (take (length c.args.bytes.now)) whole ∙ take_all (length c.args.bytes.now) c.args.bytes.now (omega arith)
