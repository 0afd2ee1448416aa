use Rattle.std.proofs.Common.{arith, ◌≡◌, ℕ, ◌<◌, false, List, [], ◌∷◌, refl}
use Rattle.std.specs.Prelude.{All, Some, codes}
use Rattle.std.proofs.lemmas.List.Elements.{All-cons, All-nil}
use Rattle.protocol.specs.declared.events.WorldEvent.{WorldEvent}
use Rattle.protocol.specs.State.{Flight, empty_world}
use Rattle.protocol.specs.WorldStep.{world_after}
use Rattle.law_simulation.specs.Law.{IsInRange, IsRequestInRange}
use Rattle.order_rules.specs.AnyOpening.{ArePreparing}
use Rattle.order_rules.specs.Bridge.{IsAskedLine, IsFairOrder}
use Rattle.order_rules.specs.Evaluate.{opened}
use Rattle.order_rules.specs.Order.{AreRestored, IsLine}
use Rattle.order_rules.specs.Sides.{IsFreshLine, IsInTimeLine, IsOneSidedLine}
use Rattle.example_rules.specs.OwnDevices.{acknowledged, address, devices, image, lines, one_by_one, opening, request, sent_bytes}
use Rattle.example_rules.proofs.WorldOrders.{EachAfter, each_of}

-- ---- the opening

ping_bytes : All (λ b. b < 256) (codes "ping")
ping_bytes = All-cons (λ b. b < 256) 112 (105 ∷ 110 ∷ 103 ∷ []) (omega arith) (All-cons (λ b. b < 256) 105 (110 ∷ 103 ∷ []) (omega arith) (All-cons (λ b. b < 256) 110 (103 ∷ []) (omega arith) (All-cons (λ b. b < 256) 103 [] (omega arith) (All-nil (λ b. b < 256)))))

abbrev AreInRange : List WorldEvent → Type 0
AreInRange [] = Unit {0}
AreInRange (e ∷ es) = IsInRange e × AreInRange es

all_in_range : (es : List WorldEvent) → AreInRange es → All IsInRange es
all_in_range [] each = All-nil IsInRange
all_in_range (e ∷ es) each = All-cons IsInRange e es each.0 (all_in_range es each.1)

in_range : AreInRange opening
in_range = ((omega arith, omega arith, omega arith, omega arith), ((omega arith, omega arith, omega arith, omega arith), ((omega arith, omega arith, omega arith, omega arith), (tt, (tt, (tt, (tt, ((omega arith, omega arith, omega arith, omega arith), ((omega arith, omega arith, omega arith, omega arith), ((omega arith, omega arith), ((omega arith, omega arith), ((omega arith, omega arith, omega arith, omega arith), ((omega arith, omega arith, omega arith, omega arith), (record { mtu = refl; own_start = omega arith; peer_start = omega arith; retry = omega arith; rnr = omega arith; some_reads = omega arith; few_reads = omega arith }, (ping_bytes, (tt, tt))))))))))))))))

pub prepared : ArePreparing opening
prepared = record { in_range = all_in_range opening in_range; prepare = refl }

pub devices_are : (world_after empty_world opening).devices ≡ devices
unfolding opened
devices_are = refl

-- a program makes the same devices one by one
pub each_is : one_by_one ≡ devices
unfolding opened
each_is = refl

-- ---- the order

flight : ℕ → ℕ → List ℕ → Flight
flight from to bytes = record { from = address from; to = address to; number = Some 0; bytes = bytes; lost = false; taken = false }

by_line : EachAfter (IsLine devices) [] lines
unfolding opened flight
by_line = (record { known = refl; place = refl; outcome = refl; first = refl; count = refl; arrived = tt }, (record { known = refl; place = refl; outcome = refl; first = refl; count = refl; arrived = tt }, (record { known = refl; place = refl; outcome = refl; first = refl; count = refl; arrived = (0, flight 7 9 sent_bytes, record { there = refl; sender = refl; receiver = refl; says = refl }) }, (record { known = refl; place = refl; outcome = refl; first = refl; count = refl; arrived = (1, flight 9 7 acknowledged, record { there = refl; sender = refl; receiver = refl; says = refl }) }, (record { known = refl; place = refl; outcome = refl; first = refl; count = refl; arrived = tt }, (record { known = refl; place = refl; outcome = refl; first = refl; count = refl; arrived = tt }, (record { known = refl; place = refl; outcome = refl; first = refl; count = refl; arrived = tt }, (record { known = refl; place = refl; outcome = refl; first = refl; count = refl; arrived = tt }, (record { known = refl; place = refl; outcome = refl; first = refl; count = refl; arrived = tt }, (record { known = refl; place = refl; outcome = refl; first = refl; count = refl; arrived = tt }, tt))))))))))

one_sided : EachAfter (IsOneSidedLine devices) [] lines
unfolding opened
one_sided = (refl, (refl, (refl, (refl, (refl, (refl, (refl, (refl, (refl, (refl, tt))))))))))

in_time : EachAfter (IsInTimeLine devices) [] lines
unfolding opened flight
in_time = (tt, (tt, ((0, flight 7 9 sent_bytes, record { there = refl; sender = refl; receiver = refl; says = refl }, refl), ((1, flight 9 7 acknowledged, record { there = refl; sender = refl; receiver = refl; says = refl }, refl), (tt, (tt, (tt, (tt, (tt, (tt, tt))))))))))

request_in_range : IsRequestInRange request
request_in_range = record { remote = omega arith; rkey = omega arith; swap_add = omega arith; compare = omega arith; no_compare = λ h. refl; imm = tt; word = λ h. absurd (cc) }

asked : EachAfter (IsAskedLine devices) [] lines
unfolding opened
asked = (record { askable = request_in_range; at_home = refl }, (record { askable = tt; at_home = refl }, (record { askable = tt; at_home = refl }, (record { askable = tt; at_home = refl }, (record { askable = tt; at_home = refl }, (record { askable = tt; at_home = refl }, (record { askable = tt; at_home = refl }, (record { askable = tt; at_home = refl }, (record { askable = tt; at_home = refl }, (record { askable = tt; at_home = refl }, tt))))))))))

fresh : EachAfter (IsFreshLine devices) [] lines
unfolding opened
fresh = (refl, (refl, (refl, (refl, (refl, (refl, (refl, (refl, (refl, (refl, tt))))))))))

restored : AreRestored [] lines []
restored = ([], refl, ([], refl, ([], refl, ([], refl, ([], refl, ([], refl, ([], refl, (image ∷ [], refl, ([], record { before = []; after = []; there = refl; rest = refl }, ([], refl, refl))))))))))

pub fair : IsFairOrder devices lines
fair = record {
  order = record { each = each_of (IsLine devices) lines by_line; untaken = []; restored = restored };
  one_sided = each_of (IsOneSidedLine devices) lines one_sided;
  in_time = each_of (IsInTimeLine devices) lines in_time;
  asked = each_of (IsAskedLine devices) lines asked;
  fresh = each_of (IsFreshLine devices) lines fresh;
}
