-- None is marked.
use Rattle.std.proofs.Common.{◌∙◌, ap, sym, reverse}
use Rattle.std.specs.Prelude.{bytes_eq}
use Rattle.std.specs.List.{list_any}
use Rattle.rdma_types.specs.Lists.{has_name, has_word}
use Rattle.protocol.specs.declared.images.ContextImage.{ContextImage}
use Rattle.world_core.proofs.stops.Stops.make.Goals as goal

pub invariant_of-result : goal.invariant_of-result
unfolding has_name
invariant_of-result c = record {
  carried = λ n. ap (list_any (bytes_eq n)) c.new-3.ensures.empty ∙ ap (λ xs. has_name (λ (x : ContextImage). x.name) n xs) (sym c.new.ensures.items);
  stopped = λ n. ap (list_any (bytes_eq n)) c.new-4.ensures.empty ∙ ap (λ xs. has_word n (reverse xs)) (sym c.new-2.ensures.items);
}
