use Rattle.law_moves.proofs.Emptying.{AreLaws}
use Rattle.law_moves.proofs.Emptying.{devices_emptied}
use Rattle.law_moves.proofs.evacuation.devices_are_emptied.Goals as goal

pub returns : goal.returns
returns c = let laws : AreLaws = record { follow = c.lines_are_followed.ensures.from_any; settling = record { made = c.settling_is_events.ensures; follows = c.settling_follows.ensures; lightens = c.taking_lightens.ensures }; moved = c.a_restored_context_is_its_moved_image.ensures.moved } in devices_emptied laws
