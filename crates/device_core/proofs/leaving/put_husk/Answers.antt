use Rattle.std.proofs.Common.{◌∙◌}
use Rattle.std.specs.Str.{bytes_eq}
use Rattle.indexmap.proofs.CallerLemmas.{insert_entry-new}
use Rattle.device_core.proofs.Pairs.{on-ok}
use Rattle.device_core.proofs.leaving.put_husk.Goals as goal

pub returns : goal.returns
returns c = on-ok c.put_named.result c.unwrap.result c.unwrap.ensures c.put_named.ensures.ok ∙ insert_entry-new bytes_eq c.args.husks.now c.args.name _ c.requires.absent
