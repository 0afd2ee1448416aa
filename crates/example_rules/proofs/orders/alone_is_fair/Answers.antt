use Rattle.std.proofs.Common.{arith, ◌≡◌, ℕ, ◌≤◌, [], refl}
use Rattle.std.specs.Prelude.{true}
use Rattle.order_rules.specs.Bridge.{IsAskedLine, IsFair, is_work}
use Rattle.order_rules.specs.Evaluate.{opened}
use Rattle.order_rules.specs.Openings.{openings}
use Rattle.order_rules.specs.Sides.{IsFreshLine, IsOneSidedLine, IsInTimeLine}
use Rattle.order_rules.specs.Work.{accepts, lines_with}
use Rattle.law_simulation.specs.Law.{IsRequestInRange}
use Rattle.example_rules.specs.Alone.{lines, request}
use Rattle.example_rules.proofs.Alone.{in_time, one_sided, order}
use Rattle.example_rules.proofs.WorldOrders.{EachAfter, each_of}
use Rattle.example_rules.proofs.orders.alone_is_fair.Goals as goal

in_range : (n : ℕ) → IsRequestInRange (request n)
in_range n = record { remote = omega arith; rkey = omega arith; swap_add = omega arith; compare = omega arith; no_compare = λ h. refl; imm = tt; word = λ h. refl }

asked : EachAfter (IsAskedLine (openings 2)) [] lines
unfolding opened
asked = (
  record { askable = in_range 4096; at_home = refl },
  (
    record { askable = tt; at_home = refl },
    (
      record { askable = tt; at_home = refl },
      (
        record { askable = tt; at_home = refl },
        (
          record { askable = tt; at_home = refl },
          (
            record { askable = in_range 4104; at_home = refl },
            (
              record { askable = tt; at_home = refl },
              (
                record { askable = tt; at_home = refl },
                (
                  record { askable = tt; at_home = refl },
                  (
                    record { askable = tt; at_home = refl },
                    (
                      record { askable = tt; at_home = refl },
                      (
                        record { askable = tt; at_home = refl },
                        tt,
                      ),
                    ),
                  ),
                ),
              ),
            ),
          ),
        ),
      ),
    ),
  ),
)

fresh : EachAfter (IsFreshLine (openings 2)) [] lines
unfolding opened
fresh = (refl, (refl, (refl, (refl, (refl, (refl, (refl, (refl, (refl, (refl, (refl, (refl, tt))))))))))))

works : EachAfter (λ earlier l. is_work l.receipt.device l.receipt.event ≡ true) [] lines
works = (refl, (refl, (refl, (refl, (refl, (refl, (refl, (refl, (refl, (refl, (refl, (refl, tt))))))))))))

fair : IsFair 2 lines
fair = record {
  order = order;
  one_sided = each_of (IsOneSidedLine (openings 2)) lines one_sided;
  in_time = each_of (IsInTimeLine (openings 2)) lines in_time;
  asked = each_of (IsAskedLine (openings 2)) lines asked;
  fresh = each_of (IsFreshLine (openings 2)) lines fresh;
}

few : lines_with accepts lines ≤ 4194304
few = let two : lines_with accepts lines ≡ 2 = refl in omega (arith, two)

pub returns-clause-work : goal.returns-clause-work
returns-clause-work c = record {
  order = order;
  work = each_of (λ earlier l. is_work l.receipt.device l.receipt.event ≡ true) lines works;
  askable = λ k l h. (fair.asked k l h).askable;
  few = few;
}

pub returns-clause-fair : goal.returns-clause-fair
returns-clause-fair c = fair
