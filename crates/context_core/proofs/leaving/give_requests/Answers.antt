use Rattle.std.proofs.Common.{◌≡◌, ◌∷◌, ap, sym, ◌∙◌}
use Rattle.std.specs.Prelude.{Some, slice_get}
use Rattle.end_completions.proofs.Given.{gives-one}
use Rattle.context_core.proofs.ReleasedPayloads.{empty-of, front-of, none-left, one-given}
use Rattle.context_core.proofs.leaving.give_requests.Goals as goal

pub loop-p-preserved : goal.loop-p-preserved
loop-p-preserved c =
    let at : slice_get c.loop-p.requester.items 0 ≡ Some c.in-Some.p = sym c.cut.ensures.cut ∙ c.in-Some.is in
    let items = front-of c.loop-p.requester.items c.in-Some.p at ∙ ap (λ ps. c.in-Some.p ∷ ps) (sym c.cut.ensures.rest.items) in
    one-given c.args.pool.now c.loop-p.pool c.give.new.self c.args.requester.now.items c.loop-p.requester.items c.in-Some.p c.cut.new.self.items items (gives-one c.loop-p.pool c.give.new.self c.in-Some.p c.give.ensures.puts c.give.ensures.free) c.loop-p.invariant

pub returns : goal.returns
returns c = none-left c.args.pool.now c.loop-p.pool c.args.requester.now.items c.loop-p.requester.items (empty-of c.loop-p.requester.items (sym c.cut.ensures.cut ∙ c.in_default.is)) c.loop-p.invariant
