-- Its name is marked, and all others as they were.
use Rattle.std.proofs.Common.{◌∙◌, ◌∷◌, [], ap, reverse, sym, true}
use Rattle.std.specs.Prelude.{bytes_eq}
use Rattle.std.proofs.lemmas.List.{reverse-append}
use Rattle.std.proofs.lemmas.Result.{IfOk-at_ok}
use Rattle.std.specs.HashSet.{Updates, contains}
use Rattle.rdma_types.specs.Lists.{has_name, has_word}
use Rattle.rdma_types.specs.declared.names.Name.{Name}
use Rattle.protocol.specs.declared.images.ContextImage.{ContextImage}
use Rattle.world_core.proofs.Marks.{before, behind}
use Rattle.world_core.proofs.stops.Stops.carry.Goals as goal

pub invariant_of-self : goal.invariant_of-self
invariant_of-self c =
    let carried = IfOk-at_ok (λ r. Updates bytes_eq c.self.inside.carried c.insert.new.self c.args.image.name true) c.unwrap.ensures c.insert.ensures.updates in
    let stopped = IfOk-at_ok (λ r. Updates bytes_eq c.self.inside.stopped c.insert-2.new.self c.args.image.name true) c.unwrap-2.ensures c.insert-2.ensures.updates in
    record {
      carried = λ n.
          behind (λ (x : ContextImage). x.name) (contains bytes_eq c.self.inside.carried) (contains bytes_eq c.insert.new.self) c.self.inside.images.items c.args.image c.self.invariant.carried carried.0 n
          ∙ ap (λ xs. has_name (λ (x : ContextImage). x.name) n xs) (sym c.push_reserved-2.ensures.items);
      stopped = λ n.
          before (λ (x : Name). x) (contains bytes_eq c.self.inside.stopped) (contains bytes_eq c.insert-2.new.self) (reverse c.self.inside.names.items) c.args.image.name c.self.invariant.stopped stopped.0 n
          ∙ ap (λ xs. has_word n xs) (sym (ap reverse c.push_reserved.ensures.items ∙ reverse-append c.self.inside.names.items (c.args.image.name ∷ [])));
    }
