use Rattle.std.proofs.Common.{◌++◌, ◌∷◌, [], ap, sym, ◌∙◌}
use Rattle.std.specs.Option.{option_copied}
use Rattle.context_core.proofs.ListPrefixes.{is_there, taken_all, taken_on}
use Rattle.context_core.proofs.image_regions.names.Goals as goal

pub loop-i-preserved : goal.loop-i-preserved
loop-i-preserved c =
    let there = sym c.get_index.ensures.key ∙ ap option_copied c.unwrap.ensures in
    c.in_ok-push.ensures.items ∙ (ap (λ xs. xs ++ c.unwrap.result.now ∷ []) c.loop-i.invariant ∙ taken_on c.args.names.now.keys c.loop-i.i c.unwrap.result.now there)

pub unwrap-requires : goal.unwrap-requires
unwrap-requires c = is_there _ c.get_index.result c.args.names.now.keys c.loop-i.i c.len-i-end.result c.get_index.ensures.key c.len-i-end.ensures.len c.loop-i-test.true

pub returns : goal.returns
returns c = c.new.ensures ∙ (c.loop-i.invariant ∙ taken_all c.args.names.now.keys c.loop-i.i c.len-i-end.result c.len-i-end.ensures.len c.loop-i-test.false)
