use Rattle.std.proofs.Common.{rules, tests, ◌∙◌}
use Rattle.std.specs.Prelude.{◌==◌}
use Rattle.std.proofs.lemmas.Iterator.{YieldsList-from_slice}
use Rattle.std.proofs.lemmas.Iterator.Search.{any_from_yields_List}
use Rattle.protocol.specs.declared.images.EndImage.{EndImage}
use Rattle.dump_reader.proofs.Seen.{some_seen}
use Rattle.dump_reader.proofs.groups.has_number.Goals as goal

pub returns : goal.returns
returns c = any_from_yields_List (λ (e : EndImage). e.number == c.args.number) _ _ _ c.any.ensures.ran (YieldsList-from_slice c.args.seen.now cc) (λ x b q k. search (rules, tests)) ∙ some_seen (λ (e : EndImage). e.number == c.args.number) c.args.seen.now
