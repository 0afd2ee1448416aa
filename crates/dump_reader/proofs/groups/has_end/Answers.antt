use Rattle.std.proofs.Common.{rules, tests, ◌∙◌}
use Rattle.std.specs.Prelude.{bytes_eq}
use Rattle.std.proofs.lemmas.Iterator.{YieldsList-from_slice}
use Rattle.std.proofs.lemmas.Iterator.Search.{any_from_yields_List}
use Rattle.protocol.specs.declared.images.EndImage.{EndImage}
use Rattle.dump_reader.proofs.Seen.{name_seen}
use Rattle.dump_reader.proofs.groups.has_end.Goals as goal

pub returns : goal.returns
returns c = any_from_yields_List (λ (e : EndImage). bytes_eq e.name c.args.text.now) _ _ _ c.any.ensures.ran (YieldsList-from_slice c.args.seen.now cc) (λ x b q k. search (rules, tests)) ∙ name_seen (λ (e : EndImage). e.name) c.args.text.now c.args.seen.now
