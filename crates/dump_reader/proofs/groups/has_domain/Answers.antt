use Rattle.std.proofs.Common.{rules, tests, ◌∙◌}
use Rattle.std.specs.Prelude.{bytes_eq}
use Rattle.std.proofs.lemmas.Iterator.{YieldsList-from_slice}
use Rattle.std.proofs.lemmas.Iterator.Search.{any_from_yields_List}
use Rattle.rdma_types.specs.declared.names.Name.{Name}
use Rattle.dump_reader.proofs.Seen.{word_seen}
use Rattle.dump_reader.proofs.groups.has_domain.Goals as goal

pub returns : goal.returns
returns c = any_from_yields_List (λ (n : Name). bytes_eq n c.args.text.now) _ _ _ c.any.ensures.ran (YieldsList-from_slice c.args.seen.now cc) (λ x b q k. search (rules, tests)) ∙ word_seen c.args.text.now c.args.seen.now
