use Rattle.std.proofs.Common.{arith}
use Rattle.script_lang.proofs.Digits.{room_for_digit}
use Rattle.script_lang.proofs.texts.short_value.Goals as goal

pub overflow_mul-n : goal.overflow_mul-n
overflow_mul-n c = omega (arith, room_for_digit c.loop-b.n c.loop-b.b-index c.loop-b.invariant.small (omega arith))

pub overflow_add-n : goal.overflow_add-n
overflow_add-n c =
    let room = room_for_digit c.loop-b.n c.loop-b.b-index c.loop-b.invariant.small (omega arith) in
    omega (arith, c.from.ensures, c.if-not-is_ascii_digit.ensures.cases)
