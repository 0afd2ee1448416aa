-- Tests that hold.
use Rattle.std.proofs.Common.{arith, ◌≡◌, ◌<◌, ℕ, suc, true, false, Bool, refl}
use Rattle.std.specs.Prelude.{nat_lt, ◌==◌, ◌&&◌}
use Rattle.std.proofs.lemmas.Bool.Decides.{nat_tests, leb_tells, eqb_tells}

pub both_parts : (a b : Bool) → (a && b) ≡ true → (a ≡ true) × (b ≡ true)
both_parts true true h = (refl, refl)
both_parts true false h = absurd (cc)
both_parts false b h = absurd (cc)

pub both_true : (a b : Bool) → a ≡ true → b ≡ true → (a && b) ≡ true
both_true true true h k = refl
both_true true false h k = absurd (cc)
both_true false b h k = absurd (cc)

pub equal_is : (a b : ℕ) → (a == b) ≡ true → a ≡ b
equal_is a b h = grind (arith, nat_tests, eqb_tells a b, h)

pub equal_tests : (a b : ℕ) → a ≡ b → (a == b) ≡ true
equal_tests a b h = grind (arith, nat_tests, eqb_tells a b, h)

pub less_tests : (a b : ℕ) → a < b → nat_lt a b ≡ true
less_tests a b h = grind (arith, nat_tests, leb_tells (suc a) b, h)
