-- An order of work is fair: line by line, and each fair line leads to a world that stands for a state of the machine.
use Rattle.std.proofs.Common.{arith, ◌≡◌, ℕ, List, [], slice_get, Some, ap}
use Rattle.rdma_types.specs.declared.names.ObjName.{ObjName}
use Rattle.protocol.specs.declared.events.WorldEvent.{WorldEvent}
use Rattle.packetless_machine.specs.Machine.{Machine, empty}
use Rattle.packetless_machine.specs.Legal.{after}
use Rattle.law_simulation.specs.Law.{AlwaysFollows}
use Rattle.law_simulation.specs.Runs.{RunsFollow}
use Rattle.order_rules.specs.AnyOpening.{IsOpened, PreparedWorldsAreOpenings}
use Rattle.order_rules.specs.Bridge.{CopiesStand, IsWork, WorkIsFair}
use Rattle.order_rules.specs.Lines.{Line}
use Rattle.order_rules.specs.Openings.{AreOpenedApart, opening_events, opening_verbs, opening_world, openings}
use Rattle.order_rules.specs.Order.{Each}
use Rattle.law_orders.proofs.Opening.{opening_prepares}
use Rattle.law_orders.proofs.OpeningWork.{kept_none, opening_mute}
use Rattle.law_orders.proofs.Posted.{heard_grows, numbers_of, spans}
use Rattle.law_orders.proofs.Prepared.{begun, starts}
use Rattle.law_orders.proofs.Walk.{IsFairLine}
use Rattle.law_orders.proofs.Works.{IsWorkLine, works}

-- nothing is posted in the opening
nothing_posted : (workers : ℕ) (opened : IsOpened (opening_events workers)) (q : ObjName) (t : ℕ) → numbers_of t (after empty opened.run) q ≡ 0
unfolding opening_verbs
nothing_posted workers opened q t = omega (arith, heard_grows opened.run q t, ap (spans t) opened.heard_all, opening_mute workers t)

work_lines : (workers : ℕ) (ls : List Line) → IsWork workers ls → (k : ℕ) (l : Line) → slice_get ls k ≡ Some l → IsWorkLine l
work_lines workers ls w k l at = record { work = w.work k l at; askable = w.askable k l at }

pub work_fair : ((e : WorldEvent) → AlwaysFollows e) → RunsFollow → CopiesStand → AreOpenedApart → PreparedWorldsAreOpenings → WorkIsFair
unfolding opening_world
work_fair always runs copies separate prepared workers ls low high w =
    let opened = prepared (opening_events workers) (opening_prepares workers) in
    let start : Machine = after empty opened.run in
    let first = begun (opening_world workers) start opened.opening in
    let each : Each (IsFairLine (openings workers)) ls =
    works (openings workers) start first (nothing_posted workers opened) always runs copies [] ls [] w.order.untaken (work_lines workers ls w) w.order.each w.few w.order.restored
    (starts (opening_world workers) start opened.opening) (kept_none workers separate low high first) in
    record {
      order = w.order;
      one_sided = λ k l at. (each k l at).one_sided;
      in_time = λ k l at. (each k l at).in_time;
      asked = λ k l at. (each k l at).asked;
      fresh = λ k l at. (each k l at).fresh;
    }
