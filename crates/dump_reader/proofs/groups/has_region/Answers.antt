use Rattle.std.proofs.Common.{rules, tests, ◌∙◌}
use Rattle.std.specs.Prelude.{bytes_eq}
use Rattle.std.proofs.lemmas.Iterator.{YieldsList-from_slice}
use Rattle.std.proofs.lemmas.Iterator.Search.{any_from_yields_List}
use Rattle.protocol.specs.declared.images.RegionImage.{RegionImage}
use Rattle.dump_reader.proofs.Seen.{name_seen}
use Rattle.dump_reader.proofs.groups.has_region.Goals as goal

pub returns : goal.returns
returns c = any_from_yields_List (λ (r : RegionImage). bytes_eq r.name c.args.text.now) _ _ _ c.any.ensures.ran (YieldsList-from_slice c.args.seen.now cc) (λ x b q k. search (rules, tests)) ∙ name_seen (λ (r : RegionImage). r.name) c.args.text.now c.args.seen.now
