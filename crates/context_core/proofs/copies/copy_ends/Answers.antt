use Rattle.std.proofs.Common.{ap, sym, ◌∙◌}
use Rattle.std.specs.Option.{option_map}
use Rattle.std.specs.Map.Iter.{deref_pair}
use Rattle.context_core.proofs.CopiedEntries.{entry_more}
use Rattle.context_core.proofs.ListPrefixes.{is_there, taken_all}
use Rattle.context_core.proofs.copies.copy_ends.Goals as goal

pub loop-i-preserved : goal.loop-i-preserved
loop-i-preserved c =
    rw (c.in_ok-insert.ensures.entries, c.loop-i.invariant)
    (entry_more _ _ _ _ c.len-i-end.ensures.unique
    (rw c.in_ok-copy.ensures (sym c.get_index.ensures.entry ∙ ap (option_map deref_pair) c.unwrap.ensures)))

pub unwrap-requires : goal.unwrap-requires
unwrap-requires c = is_there _ c.get_index.result c.args.ends.now.entries c.loop-i.i c.len-i-end.result c.get_index.ensures.entry c.len-i-end.ensures.len c.loop-i-test.true

pub returns : goal.returns
returns c = c.loop-i.invariant ∙ taken_all c.args.ends.now.entries c.loop-i.i c.len-i-end.result c.len-i-end.ensures.len c.loop-i-test.false
