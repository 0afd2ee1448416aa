use Rattle.std.proofs.Common.{arith, length, refl}
use Rattle.std.proofs.lemmas.Option.{slice_get_read}
use Rattle.commands.proofs.Tales.{tale_begins, tale_ends, tale_goes_on}
use Rattle.commands.proofs.telling.moved_text.Goals as goal

pub loop-shifted-init : goal.loop-shifted-init
loop-shifted-init c = tale_begins c.args.moved.now c.new-text.result.items c.new-text.ensures.items

pub loop-shifted-preserved : goal.loop-shifted-preserved
loop-shifted-preserved c =
    tale_goes_on c.args.moved.now c.loop-shifted.shifted-index c.loop-shifted.text.items c.put_moved.new.out.items c.shifted-item.result c.loop-shifted.invariant
    (slice_get_read c.args.moved.now (length c.args.moved.now) c.loop-shifted.shifted-index c.shifted-item.result refl (omega arith) c.shifted-item.is) c.in_ok-put_moved.ensures

pub returns : goal.returns
returns c = tale_ends c.args.moved.now c.loop-shifted.shifted-index c.loop-shifted.text.items c.loop-shifted.invariant (omega arith)
