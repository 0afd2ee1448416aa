use Rattle.std.proofs.Common.{◌≡◌, ◌++◌, ◌∷◌, [], ap, ◌∙◌, subst}
use Rattle.std.specs.Map.{values_of}
use Rattle.memory_keys.specs.Regions.{AreHeld}
use Rattle.memory_keys.proofs.Made.{seen-more}
use Rattle.memory_keys.proofs.Released.{IsLeft, last-lies, one-less}
use Rattle.memory_keys.proofs.regions.Regions.release.Goals as goal

pub give-requires : goal.give-requires
give-requires c =
    let seen : values_of c.loop-last.held.entries ≡ values_of c.pop.new.self.entries ++ c.in-Some.last ∷ [] = ap values_of c.in-Some.ensures.entries ∙ seen-more c.pop.new.self.entries (c.in-Some.field-0-0, c.in-Some.last) in
    (last-lies c.loop-last.pool (values_of c.pop.new.self.entries) c.in-Some.last (subst (AreHeld c.loop-last.pool) seen c.loop-last.invariant.held)).lives

pub loop-last-preserved : goal.loop-last-preserved
loop-last-preserved c =
    let seen : values_of c.loop-last.held.entries ≡ values_of c.pop.new.self.entries ++ c.in-Some.last ∷ [] = ap values_of c.in-Some.ensures.entries ∙ seen-more c.pop.new.self.entries (c.in-Some.field-0-0, c.in-Some.last) in
    one-less c.args.pool.now c.loop-last.pool c.give.new.self (values_of c.self.inside.held.entries) (values_of c.pop.new.self.entries) c.in-Some.last (subst (IsLeft c.args.pool.now c.loop-last.pool (values_of c.self.inside.held.entries)) seen c.loop-last.invariant) c.give.ensures.puts c.give.ensures.free
