-- Lists of one and two numbers, and what stands in equal options.
use Rattle.std.proofs.Common.{arith, ◌≡◌, ℕ, zero, suc, [], ◌∷◌, Some}
use Rattle.completion_fanout.specs.Fanned.{IsRising}

pub some_is : {X : Type 0} {x y : X} → Some x ≡ Some y → x ≡ y
some_is h = cc

pub none_rises : IsRising []
none_rises i j x y a b c = cc

pub one_rises : (n : ℕ) → IsRising (n ∷ [])
one_rises n zero zero x y a b c = absurd (omega (arith, c))
one_rises n zero (suc j) x y a b c = cc
one_rises n (suc i) j x y a b c = cc

pub two_rise : IsRising (0 ∷ 2 ∷ [])
two_rise zero zero x y a b c = absurd (omega (arith, c))
two_rise zero (suc zero) x y a b c = let p : 0 ≡ x = cc in let q : 2 ≡ y = cc in omega (arith, p, q)
two_rise zero (suc (suc j)) x y a b c = cc
two_rise (suc zero) zero x y a b c = absurd (omega (arith, c))
two_rise (suc zero) (suc zero) x y a b c = absurd (omega (arith, c))
two_rise (suc zero) (suc (suc j)) x y a b c = cc
two_rise (suc (suc i)) j x y a b c = cc
