-- Each completion takes the next place, up to the end of either.
use Rattle.std.proofs.Common.{◌≡◌, ◌<◌, length, min, arith}
use Rattle.c_layout.specs.Told as told
use Rattle.c_layout.proofs.Overlaid.{next_written, all_written}
use Rattle.c_layout.proofs.buffers.write_completions.Goals as goal

pub loop-i-preserved : goal.loop-i-preserved
loop-i-preserved c =
    let in_from : c.loop-i.i < length c.args.from.now = omega (arith, c.loop-i-test.true, c.min-i-end.ensures) in
    let in_out : c.loop-i.i < length c.args.out.now = omega (arith, c.loop-i-test.true, c.min-i-end.ensures) in
    rw (c.loop-i.invariant, c.completion_told.ensures) (next_written told.completion_told c.loop-i.i c.args.from.now c.args.out.now _ in_from in_out)

pub returns : goal.returns
returns c =
    let end : c.loop-i.i ≡ min (length c.args.out.now) (length c.args.from.now) = omega (arith, c.loop-i-test.false, c.loop-i.auto.i-end, c.min-i-end.ensures) in
    rw (c.loop-i.invariant) (all_written told.completion_told c.loop-i.i c.args.from.now c.args.out.now end)
