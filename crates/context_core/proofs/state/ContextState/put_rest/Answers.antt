use Rattle.context_core.specs.Context.{IsContext, Moves, no_holding}
use Rattle.context_core.specs.Coming.{IsPart}
use Rattle.context_core.proofs.ContextFromImage.{bare-so, moves-both, regions-context, regions-moves, regions-part, shown-so}
use Rattle.context_core.proofs.state.ContextState.put_rest.Goals as goal

pub returns-in_err-made-clause-is : goal.returns-in_err-made-clause-is
returns-in_err-made-clause-is c = bare-so (IsContext c.put_regions-made.new.pool) _ c.args.self.now c.args.image.now c.put_regions-made.new.regions c.self.view_is c.requires.bare (regions-context c.args.pool.now c.put_regions-made.new.pool c.args.image.now c.put_regions-made.new.regions c.requires.lawful c.put_regions-made.ensures.made c.are_keyed.ensures)

pub returns-in_err-made-clause-moves : goal.returns-in_err-made-clause-moves
returns-in_err-made-clause-moves c = bare-so (Moves c.args.pool.now c.put_regions-made.new.pool no_holding) _ c.args.self.now c.args.image.now c.put_regions-made.new.regions c.self.view_is c.requires.bare (regions-moves c.args.pool.now c.put_regions-made.new.pool c.args.image.now c.put_regions-made.new.regions c.requires.lawful c.put_regions-made.ensures.made c.are_keyed.ensures)

pub put_ends-requires-clause-is : goal.put_ends-requires-clause-is
put_ends-requires-clause-is c = bare-so (IsContext c.put_regions-made.new.pool) _ c.args.self.now c.args.image.now c.put_regions-made.new.regions c.self.view_is c.requires.bare (regions-context c.args.pool.now c.put_regions-made.new.pool c.args.image.now c.put_regions-made.new.regions c.requires.lawful c.put_regions-made.ensures.made c.are_keyed.ensures)

pub put_ends-requires-clause-part : goal.put_ends-requires-clause-part
put_ends-requires-clause-part c =
    bare-so (IsPart c.put_regions-made.new.pool c.args.image.now 0) _ c.args.self.now c.args.image.now c.put_regions-made.new.regions c.self.view_is c.requires.bare (regions-part c.args.pool.now c.put_regions-made.new.pool c.args.image.now c.put_regions-made.new.regions c.requires.lawful c.put_regions-made.ensures.made c.are_keyed.ensures
    (shown-so c.put_regions-made.new.pool c.args.image.now c.put_regions-made.new.regions c.as_slice-domains.result.now c.as_slice-regions.result.now c.as_slice-domains.ensures c.as_slice-regions.ensures c.in_ok-made.ensures.regions))

pub returns-clause-moves : goal.returns-clause-moves
returns-clause-moves c =
    moves-both c.args.pool.now c.put_regions-made.new.pool c.put_ends.new.pool no_holding _ c.put_ends.new.self
    (bare-so (Moves c.args.pool.now c.put_regions-made.new.pool no_holding) _ c.args.self.now c.args.image.now c.put_regions-made.new.regions c.self.view_is c.requires.bare (regions-moves c.args.pool.now c.put_regions-made.new.pool c.args.image.now c.put_regions-made.new.regions c.requires.lawful c.put_regions-made.ensures.made c.are_keyed.ensures)) c.put_ends.ensures.moves
