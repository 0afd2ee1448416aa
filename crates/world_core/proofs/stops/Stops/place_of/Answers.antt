-- Where it is not marked, no image has the name.
use Rattle.std.proofs.Common.{◌≡◌, ◌∙◌, sym, rules, false}
use Rattle.rdma_types.specs.Lists.{has_name}
use Rattle.protocol.specs.declared.images.ContextImage.{ContextImage}
use Rattle.world_core.proofs.Places.{no_place}
use Rattle.world_core.proofs.stops.Stops.place_of.Goals as goal

pub returns-then-not-is_carried : goal.returns-then-not-is_carried
returns-then-not-is_carried c =
    let none : has_name (λ (x : ContextImage). x.name) c.args.name c.args.self.now.carried ≡ false = sym c.is_carried.ensures ∙ search (rules, c.if-not-is_carried.true) in
    sym (no_place (λ (x : ContextImage). x.name) c.args.name c.args.self.now.carried none)
