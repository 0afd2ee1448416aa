-- The name goes where no other image has it.
use Rattle.std.proofs.Common.{◌≡◌, ◌<◌, ◌∙◌, sym, ap, subst, bytes_eq, refl, length, slice_get, Some, rules, tests, true, false}
use Rattle.std.specs.HashSet.{contains}
use Rattle.std.specs.List.{list_any, remove}
use Rattle.std.proofs.lemmas.Iterator.{YieldsList-from_slice}
use Rattle.std.proofs.lemmas.Iterator.Search.{any_from_yields_List}
use Rattle.std.proofs.lemmas.Option.{slice_get_read}
use Rattle.rdma_types.specs.Lists.{has_name}
use Rattle.protocol.specs.declared.images.ContextImage.{ContextImage}
use Rattle.world_core.specs.Stops.{Stopped}
use Rattle.world_core.proofs.Marks.{gone, still}
use Rattle.world_core.proofs.Places.{has_name-some, some-any}
use Rattle.world_core.proofs.stops.Stops.remove.Goals as goal

pub invariant_of-self : goal.invariant_of-self
invariant_of-self c =
    let is = c.self.inside.images.items in
    let x = c.remove-image.result in
    let left = c.remove-image.new.self.items in
    let lt : c.args.place < length is = subst (λ (s : Stopped). c.args.place < length s.carried) (sym c.self.view_is) c.requires in
    let here : slice_get is c.args.place ≡ Some x = slice_get_read is (length is) c.args.place x refl lt c.remove-image.ensures.value in
    let found : c.any.result ≡ list_any (λ y. bytes_eq y.name x.name) left =
    any_from_yields_List (λ y. bytes_eq y.name x.name) _ _ c.any.result c.any.ensures.ran (YieldsList-from_slice left cc) (λ y b q k. search (rules, tests)) in
    let none : has_name (λ (y : ContextImage). y.name) x.name (remove is c.args.place) ≡ false =
    ap (λ ys. has_name (λ (y : ContextImage). y.name) x.name ys) (sym c.remove-image.ensures.items) ∙ (has_name-some (λ (y : ContextImage). y.name) x.name left ∙ (some-any (λ y. bytes_eq y.name x.name) left ∙ (sym found ∙ search (rules, c.if-not-any.true)))) in
    record {
      carried = λ n.
          gone (λ (y : ContextImage). y.name) (contains bytes_eq c.self.inside.carried) (contains bytes_eq c.swap_remove.new.self) is c.args.place x c.self.invariant.carried here none c.swap_remove.ensures.updates.0 n
          ∙ ap (λ ys. has_name (λ (y : ContextImage). y.name) n ys) (sym c.remove-image.ensures.items);
      stopped = c.self.invariant.stopped;
    }

pub invariant_of-self-else-not-any : goal.invariant_of-self-else-not-any
invariant_of-self-else-not-any c =
    let is = c.self.inside.images.items in
    let x = c.remove-image.result in
    let left = c.remove-image.new.self.items in
    let lt : c.args.place < length is = subst (λ (s : Stopped). c.args.place < length s.carried) (sym c.self.view_is) c.requires in
    let here : slice_get is c.args.place ≡ Some x = slice_get_read is (length is) c.args.place x refl lt c.remove-image.ensures.value in
    let found : c.any.result ≡ list_any (λ y. bytes_eq y.name x.name) left =
    any_from_yields_List (λ y. bytes_eq y.name x.name) _ _ c.any.result c.any.ensures.ran (YieldsList-from_slice left cc) (λ y b q k. search (rules, tests)) in
    let other : has_name (λ (y : ContextImage). y.name) x.name (remove is c.args.place) ≡ true =
    ap (λ ys. has_name (λ (y : ContextImage). y.name) x.name ys) (sym c.remove-image.ensures.items) ∙ (has_name-some (λ (y : ContextImage). y.name) x.name left ∙ (some-any (λ y. bytes_eq y.name x.name) left ∙ (sym found ∙ search (rules, c.if-not-any.false)))) in
    record {
      carried = λ n.
          still (λ (y : ContextImage). y.name) (contains bytes_eq c.self.inside.carried) is c.args.place x c.self.invariant.carried here other n
          ∙ ap (λ ys. has_name (λ (y : ContextImage). y.name) n ys) (sym c.remove-image.ensures.items);
      stopped = c.self.invariant.stopped;
    }
