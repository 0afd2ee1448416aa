use Rattle.std.proofs.Common.{◌∙◌, ap}
use Rattle.std.specs.Prelude.{◌==◌, position}
use Rattle.memory_keys.proofs.Places.{place_is}
use Rattle.memory_keys.proofs.regions.Regions.place_of_key.Goals as goal

pub returns-clause-place : goal.returns-clause-place
returns-clause-place c =
    c.get_index_of.ensures.index
    ∙ (place_is c.args.key c.self.inside.held.entries c.self.invariant.local ∙ ap (position (λ h. h.head.keys.local == c.args.key)) c.self.view_is)
