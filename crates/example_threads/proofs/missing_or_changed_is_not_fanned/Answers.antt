use Rattle.std.proofs.Common.{arith, ◌≡◌, [], refl, ap}
use Rattle.completion_fanout.specs.Fanned.{all_entries, places, times}
use Rattle.example_threads.specs.Handed.{taken_but_one, taken_twice}
use Rattle.example_threads.proofs.Small.{some_is}
use Rattle.example_threads.proofs.missing_or_changed_is_not_fanned.Goals as goal

never : times 1 (places (all_entries taken_but_one [])) ≡ 0
never = refl

both : times 1 (places (all_entries taken_twice [])) ≡ 2
both = refl

pub returns-clause-missing : goal.returns-clause-missing
returns-clause-missing c f = let one = f.once 1 (omega arith) in absurd (omega (arith, one, never))

pub returns-clause-changed : goal.returns-clause-changed
returns-clause-changed c f = let other : 65538 ≡ 65537 = ap (λ x. x.qp) (some_is (f.same 2 _ refl)) in absurd (omega (arith, other))

pub returns-clause-twice : goal.returns-clause-twice
returns-clause-twice c f = let one = f.once 1 (omega arith) in absurd (omega (arith, one, both))
