use Rattle.std.proofs.Common.{◌++◌, ◌∷◌, [], ap, sym, ◌∙◌}
use Rattle.std.specs.Option.{option_copied}
use Rattle.context_core.proofs.ListPrefixes.{is_there, taken_all, taken_on}
use Rattle.context_core.proofs.image_queues.entries.Goals as goal

pub loop-i-preserved : goal.loop-i-preserved
loop-i-preserved c =
    let there = sym c.at.ensures ∙ ap option_copied c.unwrap.ensures in
    c.in_ok-push.ensures.items ∙ (ap (λ xs. xs ++ c.unwrap.result.now ∷ []) c.loop-i.invariant ∙ taken_on c.args.queue.now.entries c.loop-i.i c.unwrap.result.now there)

pub unwrap-requires : goal.unwrap-requires
unwrap-requires c = is_there _ c.at.result c.args.queue.now.entries c.loop-i.i c.len-i-end.result c.at.ensures c.len-i-end.ensures.len c.loop-i-test.true

pub returns : goal.returns
returns c = c.new.ensures ∙ (c.loop-i.invariant ∙ taken_all c.args.queue.now.entries c.loop-i.i c.len-i-end.result c.len-i-end.ensures.len c.loop-i-test.false)
