use Rattle.std.proofs.Common.{ap, sym, ◌∙◌}
use Rattle.std.specs.Prelude.{nat_eq}
use Rattle.std.specs.Cmp.{nat_eq_equiv}
use Rattle.std.specs.Option.{option_map}
use Rattle.std.specs.Map.Iter.{deref_pair}
use Rattle.context_core.proofs.CopiedEntries.{inserted_more}
use Rattle.device_core.proofs.copying.copy_index.Goals as goal

pub loop-i-preserved : goal.loop-i-preserved
loop-i-preserved c =
    rw (c.in_ok-insert.ensures.entries, c.loop-i.invariant)
    (inserted_more nat_eq nat_eq_equiv.symm _ _ _ _ c.len-i-end.ensures.unique
    (sym c.get_index.ensures.entry ∙ ap (option_map deref_pair) c.unwrap.ensures))
