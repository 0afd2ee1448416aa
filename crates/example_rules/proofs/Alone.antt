use Rattle.std.proofs.Common.{ℕ, false, List, [], refl}
use Rattle.std.specs.Prelude.{Some}
use Rattle.protocol.specs.State.{Flight}
use Rattle.order_rules.specs.Evaluate.{opened}
use Rattle.order_rules.specs.Openings.{openings}
use Rattle.order_rules.specs.Order.{IsLine, IsWorldOrder, AreRestored}
use Rattle.order_rules.specs.Sides.{IsOneSidedLine, IsInTimeLine}
use Rattle.example_rules.specs.Alone.{addition_1, addition_2, address, lines, old_1, old_2}
use Rattle.example_rules.proofs.WorldOrders.{EachAfter, each_of}

flight : ℕ → ℕ → List ℕ → Flight
flight from to bytes = record { from = address from; to = address to; number = Some 0; bytes = bytes; lost = false; taken = false }

by_line : EachAfter (IsLine (openings 2)) [] lines
unfolding opened flight
by_line = (
  record { known = refl; place = refl; outcome = refl; first = refl; count = refl; arrived = tt },
  (
    record { known = refl; place = refl; outcome = refl; first = refl; count = refl; arrived = tt },
    (
      record { known = refl; place = refl; outcome = refl; first = refl; count = refl; arrived = (0, flight 1 2 addition_1, record { there = refl; sender = refl; receiver = refl; says = refl }) },
      (
        record { known = refl; place = refl; outcome = refl; first = refl; count = refl; arrived = (1, flight 2 1 old_1, record { there = refl; sender = refl; receiver = refl; says = refl }) },
        (
          record { known = refl; place = refl; outcome = refl; first = refl; count = refl; arrived = tt },
          (
            record { known = refl; place = refl; outcome = refl; first = refl; count = refl; arrived = tt },
            (
              record { known = refl; place = refl; outcome = refl; first = refl; count = refl; arrived = tt },
              (
                record { known = refl; place = refl; outcome = refl; first = refl; count = refl; arrived = (2, flight 1 2 addition_2, record { there = refl; sender = refl; receiver = refl; says = refl }) },
                (
                  record { known = refl; place = refl; outcome = refl; first = refl; count = refl; arrived = (3, flight 2 1 old_2, record { there = refl; sender = refl; receiver = refl; says = refl }) },
                  (
                    record { known = refl; place = refl; outcome = refl; first = refl; count = refl; arrived = tt },
                    (
                      record { known = refl; place = refl; outcome = refl; first = refl; count = refl; arrived = tt },
                      (
                        record { known = refl; place = refl; outcome = refl; first = refl; count = refl; arrived = tt },
                        tt,
                      ),
                    ),
                  ),
                ),
              ),
            ),
          ),
        ),
      ),
    ),
  ),
)

pub one_sided : EachAfter (IsOneSidedLine (openings 2)) [] lines
unfolding opened
one_sided = (refl, (refl, (refl, (refl, (refl, (refl, (refl, (refl, (refl, (refl, (refl, (refl, tt))))))))))))

pub in_time : EachAfter (IsInTimeLine (openings 2)) [] lines
unfolding opened flight
in_time = (
  tt,
  (
    tt,
    (
      (0, flight 1 2 addition_1, record { there = refl; sender = refl; receiver = refl; says = refl }, refl),
      (
        (1, flight 2 1 old_1, record { there = refl; sender = refl; receiver = refl; says = refl }, refl),
        (
          tt,
          (
            tt,
            (
              tt,
              (
                (2, flight 1 2 addition_2, record { there = refl; sender = refl; receiver = refl; says = refl }, refl),
                (
                  (3, flight 2 1 old_2, record { there = refl; sender = refl; receiver = refl; says = refl }, refl),
                  (
                    tt,
                    (
                      tt,
                      (
                        tt,
                        tt,
                      ),
                    ),
                  ),
                ),
              ),
            ),
          ),
        ),
      ),
    ),
  ),
)

restored : AreRestored [] lines []
restored = ([], refl, ([], refl, ([], refl, ([], refl, ([], refl, ([], refl, ([], refl, ([], refl, ([], refl, ([], refl, ([], refl, ([], record { before = []; after = []; there = refl; rest = refl }, refl))))))))))))

pub order : IsWorldOrder (openings 2) lines
order = record { each = each_of (IsLine (openings 2)) lines by_line; untaken = []; restored = restored }
