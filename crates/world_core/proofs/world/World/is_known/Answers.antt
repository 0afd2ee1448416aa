-- It lives, or its image is carried.
use Rattle.std.proofs.Common.{◌≡◌, ◌∙◌, ap, sym, is_some, true, false, ◌||◌}
use Rattle.protocol.specs.WorldStep.{is_carried, is_live}
use Rattle.world_core.proofs.Worlds.{lives_there}
use Rattle.world_core.proofs.world.World.is_known.Goals as goal

pub returns-then-is_some : goal.returns-then-is_some
returns-then-is_some c =
    let w = c.args.self.now in
    let live : is_live w c.args.context ≡ true = sym (lives_there w c.args.context) ∙ (ap (λ o. is_some o) (sym c.home_of.ensures) ∙ (sym c.is_some.ensures ∙ c.if-is_some.true)) in
    c.if-is_some.true ∙ sym (ap (λ b. b || is_carried w c.args.context) live)

pub returns-else-is_some : goal.returns-else-is_some
returns-else-is_some c =
    let w = c.args.self.now in
    let live : is_live w c.args.context ≡ false = sym (lives_there w c.args.context) ∙ (ap (λ o. is_some o) (sym c.home_of.ensures) ∙ (sym c.is_some.ensures ∙ c.if-is_some.false)) in
    c.is_carried.ensures ∙ sym (ap (λ b. b || is_carried w c.args.context) live)
