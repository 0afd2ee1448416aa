-- Where it is not marked, no image has the name; and else the first one is found.
use Rattle.std.proofs.Common.{◌≡◌, ◌∙◌, sym, ap, bytes_eq, rules, tests, false}
use Rattle.std.specs.List.{find}
use Rattle.std.specs.Option.{option_copied}
use Rattle.std.proofs.lemmas.Iterator.{YieldsList-from_slice}
use Rattle.std.proofs.lemmas.Iterator.Search.{find_from_yields_List}
use Rattle.rdma_types.specs.Lists.{first_that, has_name}
use Rattle.protocol.specs.declared.images.ContextImage.{ContextImage}
use Rattle.world_core.proofs.Places.{first_that-find, has_name-some, none_passes}
use Rattle.world_core.proofs.stops.Stops.image_of.Goals as goal

pub returns-then-not-is_carried : goal.returns-then-not-is_carried
returns-then-not-is_carried c =
    let none : has_name (λ (x : ContextImage). x.name) c.args.name c.args.self.now.carried ≡ false = sym c.is_carried.ensures ∙ search (rules, c.if-not-is_carried.true) in
    sym (none_passes (λ (x : ContextImage). bytes_eq x.name c.args.name) c.args.self.now.carried (sym (has_name-some (λ (x : ContextImage). x.name) c.args.name c.args.self.now.carried) ∙ none))

pub returns : goal.returns
returns c =
    let found : option_copied c.find.result ≡ find (λ x. bytes_eq x.name c.args.name) c.self.inside.images.items =
    find_from_yields_List (λ x. bytes_eq x.name c.args.name) _ _ c.find.result c.find.ensures.ran (YieldsList-from_slice c.self.inside.images.items cc) (λ x b q k. search (rules, tests)) in
    found ∙ (sym (first_that-find (λ x. bytes_eq x.name c.args.name) c.self.inside.images.items) ∙ ap (λ s. first_that (λ x. bytes_eq x.name c.args.name) s.carried) c.self.view_is)
