use Rattle.std.proofs.Common.{◌<◌, ◌∙◌, sym, subst, get_or}
use Rattle.std.specs.Prelude.{All}
use Rattle.context_core.proofs.LinksFromImage.{keeps-more, rises-behind}
use Rattle.context_core.proofs.links.kept_of.Goals as goal

pub put-requires : goal.put-requires
put-requires c = record { rises = subst (All (λ k. k.number < (get_or c.args.images.now c.loop-reply.reply-index (record { number = 0; old = 0 })).number)) (sym c.loop-reply.invariant) (rises-behind c.args.images.now c.loop-reply.reply-index (record { number = 0; old = 0 }) c.loop-reply-test.true c.requires.rise) }

pub loop-reply-preserved : goal.loop-reply-preserved
loop-reply-preserved c = c.put.ensures ∙ keeps-more c.args.images.now c.loop-reply.kept c.loop-reply.reply-index (record { number = 0; old = 0 }) c.loop-reply-test.true c.requires.bounded c.loop-reply.invariant
