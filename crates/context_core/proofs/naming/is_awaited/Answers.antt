use Rattle.std.proofs.Common.{◌==◌, ◌∙◌, ap, sym, refl}
use Rattle.std.specs.Prelude.{◌&&◌, not}
use Rattle.std.specs.Option.{option_copied}
use Rattle.rdma_types.specs.Lists.{some}
use Rattle.context_core.proofs.ListTests.{none-more, none-past, some-at}
use Rattle.context_core.proofs.naming.is_awaited.Goals as goal

pub loop-place-init : goal.loop-place-init
unfolding some
loop-place-init c = refl

pub returns-in_default : goal.returns-in_default
returns-in_default c = none-past (λ r. r.lkey == c.args.key && not (r.length == 0)) c.args.recvs.now.items c.loop-place.place (sym c.at.ensures ∙ ap option_copied c.in_default.is) c.loop-place.invariant

pub returns-then-has_key : goal.returns-then-has_key
returns-then-has_key c = sym (some-at (λ r. r.lkey == c.args.key && not (r.length == 0)) c.args.recvs.now.items c.loop-place.place c.in-Some.r.now (sym c.at.ensures ∙ ap option_copied c.in-Some.is) (sym c.has_key.ensures ∙ c.if-has_key.true))

pub loop-place-preserved : goal.loop-place-preserved
loop-place-preserved c = none-more (λ r. r.lkey == c.args.key && not (r.length == 0)) c.args.recvs.now.items c.loop-place.place c.in-Some.r.now (sym c.at.ensures ∙ ap option_copied c.in-Some.is) c.loop-place.invariant (sym c.has_key.ensures ∙ c.if-has_key.false)
