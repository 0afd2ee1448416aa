use Rattle.std.proofs.Common.{◌∷◌, [], ◌++◌, ◌∙◌, ap, sym, replicate, add-one}
use Rattle.mailbox_rules.specs.State.{Channel, fresh_channel}
use Rattle.mailbox.proofs.Places.{replicate_more}
use Rattle.mailbox.proofs.making.fresh_channels.Goals as goal

pub loop-made-preserved : goal.loop-made-preserved
loop-made-preserved c =
    c.in_ok-push.ensures.items
    ∙ (ap (λ (x : Channel). c.loop-made.channels.items ++ x ∷ []) c.fresh.ensures
    ∙ (ap (λ xs. xs ++ fresh_channel ∷ []) c.loop-made.invariant
    ∙ (replicate_more c.loop-made._made fresh_channel ∙ ap (λ n. replicate n fresh_channel) (sym (add-one c.loop-made._made)))))
