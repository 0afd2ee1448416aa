use Rattle.std.proofs.Common.{ap, sym, ◌∙◌}
use Rattle.std.specs.Option.{option_copied}
use Rattle.context_core.proofs.CopiedEntries.{key_more}
use Rattle.context_core.proofs.ListPrefixes.{is_there, taken_all}
use Rattle.context_core.proofs.copies.copy_domains.Goals as goal

pub loop-i-preserved : goal.loop-i-preserved
loop-i-preserved c = key_more _ _ _ _ _ (sym c.get_index.ensures.key ∙ ap option_copied c.unwrap.ensures) c.len-i-end.ensures.unique c.loop-i.invariant c.in_ok-insert.ensures.keys

pub unwrap-requires : goal.unwrap-requires
unwrap-requires c = is_there _ c.get_index.result c.args.domains.now.keys c.loop-i.i c.len-i-end.result c.get_index.ensures.key c.len-i-end.ensures.len c.loop-i-test.true

pub returns : goal.returns
returns c = c.loop-i.invariant ∙ taken_all c.args.domains.now.keys c.loop-i.i c.len-i-end.result c.len-i-end.ensures.len c.loop-i-test.false
