-- The first cause by what is found.
use Rattle.std.proofs.Common.{◌∙◌, sym}
use Rattle.protocol.specs.WorldStep.{is_carried, is_live}
use Rattle.world_core.proofs.Causes.{away, unknown}
use Rattle.world_core.proofs.Worlds.{no_life}
use Rattle.world_core.proofs.world.World.home.Goals as goal

pub returns-in-None-clause-refusal : goal.returns-in-None-clause-refusal
returns-in-None-clause-refusal c =
    let w = c.args.self.now in
    λ more. away (is_live w c.args.name) (is_carried w c.args.name) more (no_life w c.args.name (sym c.in-None.ensures))
    (sym c.is_carried.ensures ∙ c.if-is_carried.true)

pub returns-in-None-2-clause-refusal : goal.returns-in-None-2-clause-refusal
returns-in-None-2-clause-refusal c =
    let w = c.args.self.now in
    λ more. unknown (is_live w c.args.name) (is_carried w c.args.name) more (no_life w c.args.name (sym c.in-None-2.ensures))
    (sym c.is_carried.ensures ∙ c.if-is_carried.false)
