use Rattle.std.proofs.Common.{rules, tests, ◌∙◌, ap, List, ℕ}
use Rattle.std.specs.Prelude.{bytes_eq}
use Rattle.std.proofs.lemmas.Iterator.{YieldsList-from_slice}
use Rattle.std.proofs.lemmas.Iterator.Search.{any_from_yields_List}
use Rattle.dump_reader.specs.declared.heads.PlacedQueue.{PlacedQueue}
use Rattle.dump_reader.proofs.Seen.{name_seen, placed_names}
use Rattle.rdma_types.specs.Lists.{has_word}
use Rattle.dump_reader.proofs.groups.has_queue.Goals as goal

pub returns : goal.returns
returns c = any_from_yields_List (λ (q : PlacedQueue). bytes_eq q.queue.name c.args.text.now) _ _ _ c.any.ensures.ran (YieldsList-from_slice c.args.seen.now cc) (λ x b q k. search (rules, tests)) ∙ name_seen (λ (q : PlacedQueue). q.queue.name) c.args.text.now c.args.seen.now ∙ ap (λ (ns : List (List ℕ)). has_word c.args.text.now ns) (placed_names c.args.seen.now)
