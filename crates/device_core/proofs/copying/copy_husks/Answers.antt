use Rattle.std.proofs.Common.{◌≡◌, ap, sym, ◌∙◌}
use Rattle.std.specs.Option.{option_map}
use Rattle.std.specs.Map.Iter.{deref_pair}
use Rattle.context_core.proofs.CopiedEntries.{entry_more}
use Rattle.device_core.proofs.copying.copy_husks.Goals as goal

pub loop-i-preserved : goal.loop-i-preserved
loop-i-preserved c =
    let entries : c.new.result ≡ c.unwrap.result.1.now = c.new.ensures ∙ (c.in_ok-left.ensures.items ∙ c.as_slice.ensures) in
    rw (c.in_ok-put_named.ensures.ok, c.loop-i.invariant)
    (entry_more _ _ _ _ c.len-i-end.ensures.unique
    (rw entries (sym c.get_index.ensures.entry ∙ ap (option_map deref_pair) c.unwrap.ensures)))
