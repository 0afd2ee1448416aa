use Rattle.std.proofs.Common.{◌≡◌, Some, refl}
use Rattle.run_check.proofs.Finders.{stop_where}
use Rattle.run_check.proofs.stops.hands_out.Goals as goal

pub returns-in-None : goal.returns-in-None
returns-in-None c = ((λ yes. absurd (cc)), (λ stop. absurd (c.in-None.ensures.none refl stop.0 stop.1)))

pub returns-in-Some-image : goal.returns-in-Some-image
returns-in-Some-image c =
    let handed : c.in-Some.receipt.now.outcome.image ≡ Some c.in-Some-image.handed = cc in
    stop_where c.args.receipts.now c.args.stop c.in-Some.receipt.now c.in-Some-image.handed c.args.image.now c.same_image.result c.in-Some.ensures.some handed c.same_image.ensures
