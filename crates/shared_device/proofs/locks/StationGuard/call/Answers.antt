use Rattle.std.proofs.Common.{refl}
use Rattle.std.specs.Arc.{arc_value}
use Rattle.shared_device.proofs.Held.{receipt_of_step}
use Rattle.shared_device.proofs.locks.StationGuard.call.Goals as goal

-- src/locks.rt:214:5
pub returns-clause-step : goal.returns-clause-step
returns-clause-step g c =
    let step = rw c.in_ok-place.was at c.make-made.ensures.step in
    let made = rw c.in_ok-place.was at c.make-made.ensures.made in
    rw c.new.ensures (receipt_of_step c.args.self.now.book c.make-made.new.self.book c.args.event c.in_ok-place.place (arc_value c.in_ok-place.step) _ step made refl refl)
