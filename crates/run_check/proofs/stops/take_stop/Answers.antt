use Rattle.std.proofs.Common.{refl}
use Rattle.run_check.proofs.Finders.{nothing_taken}
use Rattle.run_check.proofs.stops.take_stop.Goals as goal

pub returns-in-None-clause-none : goal.returns-in-None-clause-none
returns-in-None-clause-none c = λ _. nothing_taken c.args.receipts.now c.args.stops.now.items c.as_slice.result.now c.args.event.now c.in-Restore.image c.in-Restore.is (let held = c.as_slice.ensures.value in cc) (c.in-None.ensures.none refl)
