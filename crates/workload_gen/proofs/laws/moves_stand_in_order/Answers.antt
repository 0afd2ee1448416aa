use Rattle.std.proofs.Common.{◌≤◌, ◌+◌, ◌*◌, arith}
use Rattle.std.proofs.Math.Nat.{div-le_of_le-mul, div-mul-le_self, mul-le-mul_right}
use Rattle.std.proofs.lemmas.Nat.{le-div}
use Rattle.workload_gen.specs.Plan.{place_of}
use Rattle.workload_gen.proofs.laws.moves_stand_in_order.Goals as goal

pub returns-clause-within : goal.returns-clause-within
returns-clause-within c = λ mix k h. div-le_of_le-mul (mix.moves + 1) (mul-le-mul_right mix.messages (omega arith))

pub returns-clause-ordered : goal.returns-clause-ordered
returns-clause-ordered c = λ mix k later h.
    let front : place_of mix k * (mix.moves + 1) ≤ k * mix.messages = div-mul-le_self (k * mix.messages) (mix.moves + 1) in
    let more : k * mix.messages ≤ later * mix.messages = mul-le-mul_right mix.messages h in
    le-div (place_of mix k) (later * mix.messages) (mix.moves + 1) (omega arith) (omega (arith, front, more))
