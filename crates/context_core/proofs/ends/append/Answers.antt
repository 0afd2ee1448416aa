use Rattle.std.proofs.Common.{◌≡◌, ◌∙◌}
use Rattle.std.specs.Prelude.{bytes_eq}
use Rattle.std.proofs.lemmas.Result.{IfOk-at_ok}
use Rattle.indexmap.specs.IndexMap.{insert_entry}
use Rattle.indexmap.proofs.CallerLemmas.{insert_entry-new}
use Rattle.context_core.proofs.ends.append.Goals as goal

pub returns : goal.returns
returns c =
    IfOk-at_ok (λ r. c.insert.new.self.entries ≡ insert_entry bytes_eq c.args.ends.now.entries c.args.name c.args.slot) c.unwrap.ensures c.insert.ensures.entries
    ∙ insert_entry-new bytes_eq c.args.ends.now c.args.name c.args.slot c.requires.absent
