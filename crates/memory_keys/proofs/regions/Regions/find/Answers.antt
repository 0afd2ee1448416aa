use Rattle.std.proofs.Common.{◌≡◌, arith, ap, sym, ◌∙◌}
use Rattle.std.specs.Prelude.{nat_eq}
use Rattle.std.specs.Map.{lookup}
use Rattle.std.proofs.lemmas.Bool.Decides.{nat_tests}
use Rattle.memory_keys.specs.Regions.{held_at}
use Rattle.memory_keys.proofs.Found.{found, keyed}
use Rattle.memory_keys.proofs.regions.Regions.find.Goals as goal

pub returns-in-Some-clause-found : goal.returns-in-Some-clause-found
returns-in-Some-clause-found c =
    let es = c.self.inside.held.entries in
    let key : c.in-Some.found.now ≡ c.args.key = grind (arith, nat_tests, c.if-found-key.true) in
    sym c.in-Some.ensures.value
    ∙ (ap (λ k. lookup (nat_eq k) es) key ∙ (found c.args.key es c.self.invariant.local ∙ ap (held_at c.args.key) c.self.view_is))

pub returns-in-Some-clause-keyed : goal.returns-in-Some-clause-keyed
returns-in-Some-clause-keyed c = keyed c.self.inside.held.entries c.args.self.now c.self.invariant c.self.view_is

pub returns-in_default-clause-found : goal.returns-in_default-clause-found
returns-in_default-clause-found c = c.get.ensures.value ∙ (found c.args.key c.self.inside.held.entries c.self.invariant.local ∙ ap (held_at c.args.key) c.self.view_is)

pub returns-in_default-clause-keyed : goal.returns-in_default-clause-keyed
returns-in_default-clause-keyed c = keyed c.self.inside.held.entries c.args.self.now c.self.invariant c.self.view_is
