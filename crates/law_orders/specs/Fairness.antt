-- Whether an order of steps is fair, as a test, and which step is not and why (this project's choice).
use Rattle.std.specs.Prelude.{◌≡◌, ℕ, ◌&&◌, ◌++◌, ◌∷◌, not, true, false, List, [], length, Option, None, Some, slice_get, take, if◌then◌else◌}
use Rattle.protocol.specs.State.{Device, World, device_at, empty_world}
use Rattle.protocol.specs.WorldStep.{is_done, world_after}
use Rattle.protocol.specs.declared.events.WorldEvent.{WorldEvent}
use Rattle.packetless_machine.specs.Legal.{IsLegal, IsLegalFrom}
use Rattle.packetless_machine.specs.Machine.{Machine}
use Rattle.law_simulation.specs.Kept.{verb_in}
use Rattle.law_simulation.specs.Law.{kept}
use Rattle.order_rules.specs.declared.Receipt.{Receipt}
use Rattle.order_rules.specs.AnyOpening.{ArePreparing, IsOpening}
use Rattle.order_rules.specs.Bridge.{IsAskable, IsFairOrder, is_at_home}
use Rattle.order_rules.specs.Hears.{heard}
use Rattle.order_rules.specs.Lines.{Line, device_after}
use Rattle.order_rules.specs.Order.{IsWorldOrder}
use Rattle.order_rules.specs.Sides.{IsFreshLine, IsInTimeLine, IsOneSidedLine, is_stopped, makes_a_second, stops_beside_a_mover, world_of}
use Rattle.law_orders.specs.declared.fairness.Fairness.{Fairness}
use Rattle.law_orders.specs.declared.fairness.Fairness.TheVariants.{Fair, Unfair}
use Rattle.law_orders.specs.declared.fairness.UnfairCause.{UnfairCause}
use Rattle.law_orders.specs.declared.fairness.UnfairCause.TheVariants as cause
use Rattle.law_orders.specs.Asked.{is_askable, is_lawfully_posted}
use Rattle.law_orders.specs.InTime.{is_in_time}

-- ---- the test

-- why a step is not fair in the world that the earlier ones led to: the first cause, in this order
abbrev pub cause_in : World → Receipt → Option UnfairCause
cause_in w r =
    if not (is_askable r.event) then Some cause.NotAskable
    else if not (is_lawfully_posted r.event) then Some cause.Unlawful
    else if not (is_at_home (device_at w r.device) r.event (verb_in r.event)) then Some cause.NotAtHome
    else if is_stopped r.outcome.answer && stops_beside_a_mover w r.device r.event then Some cause.PartnerMoves
    else if not (is_in_time w.sent (device_at w r.device) r.event) then Some cause.TooLate
    else if is_done r.outcome.answer && makes_a_second w r.event then Some cause.NameTaken
    else None

-- the step with that place in the order is not fair, or those after it tell
abbrev pub unless_unfair : ℕ → Option UnfairCause → Fairness → Fairness
unless_unfair place None later = later
unless_unfair place (Some cause) later = Unfair cause place

-- what the lines after some earlier ones tell
unfoldable pub fairness_after : List Device → List Line → List Line → Fairness
fairness_after openings earlier [] = Fair
fairness_after openings earlier (l ∷ ls) = unless_unfair (length earlier) (cause_in (world_of openings earlier) l.receipt) (fairness_after openings (earlier ++ l ∷ []) ls)

-- whether an order is fair, and else its first line that is not, counted from 0, and the cause
abbrev pub fairness_of : List Device → List Line → Fairness
fairness_of openings ls = fairness_after openings [] ls

-- ---- what it says

-- each request that is posted has a shape that a device takes
abbrev pub AreLawful : List Line → Type 0
AreLawful ls = (k : ℕ) (l : Line) → slice_get ls k ≡ Some l → is_lawfully_posted l.receipt.event ≡ true

-- the line is not fair for this cause
abbrev pub IsUnfairLine : List Device → List Line → Line → UnfairCause → Type 0
IsUnfairLine openings earlier l cause.NotAskable = IsAskable l.receipt.event → ⊥
IsUnfairLine openings earlier l cause.Unlawful = is_lawfully_posted l.receipt.event ≡ false
IsUnfairLine openings earlier l cause.NotAtHome = is_at_home (device_after openings earlier l.receipt.device) l.receipt.event (verb_in l.receipt.event) ≡ false
IsUnfairLine openings earlier l cause.PartnerMoves = IsOneSidedLine openings earlier l → ⊥
IsUnfairLine openings earlier l cause.TooLate = IsInTimeLine openings earlier l → ⊥
IsUnfairLine openings earlier l cause.NameTaken = IsFreshLine openings earlier l → ⊥

-- what applications hear in the lines is legal, from each state of the packetless machine that the opening stands for, and after
-- each preparation of the opening
pub record AreLegal (openings : List Device) (ls : List Line) : Type 0 where
  pub from : (w : World) (m : Machine) → IsOpening w m → w.devices ≡ openings → IsLegalFrom m (heard ls)
  pub prepared : (es : List WorldEvent) → ArePreparing es → (world_after empty_world es).devices ≡ openings → IsLegal (kept empty_world es ++ heard ls)

-- a fair order, whose requests all devices take
pub record IsFairRun (openings : List Device) (ls : List Line) : Type 0 where
  pub fair : IsFairOrder openings ls
  pub lawful : AreLawful ls

-- the line at a place is the first that is not fair, for this cause
pub record IsFirstUnfair (openings : List Device) (ls : List Line) (cause : UnfairCause) (place : ℕ) : Type 0 where
  pub line : Line
  pub there : slice_get ls place ≡ Some line
  pub unfair : IsUnfairLine openings (take place ls) line cause
  pub first : IsFairRun openings (take place ls)

-- what each answer says of an order
abbrev pub Says : List Device → List Line → Fairness → Type 0
Says openings ls Fair = IsFairRun openings ls
Says openings ls (Unfair cause place) = IsFirstUnfair openings ls cause place × (IsFairRun openings ls → ⊥)

-- no two devices have one id
abbrev pub HaveOwnIds : List Device → Type 0
HaveOwnIds ds = (i j : ℕ) (a b : Device) → slice_get ds i ≡ Some a → slice_get ds j ≡ Some b → a.id ≡ b.id → i ≡ j

-- the test is exact: of each world order its answer says what is so
abbrev pub FairnessIsExact : Type 0
FairnessIsExact = (openings : List Device) (ls : List Line) → HaveOwnIds openings → IsWorldOrder openings ls → Says openings ls (fairness_of openings ls)

-- a world order that the test finds fair is legal
abbrev pub FairRunsAreLegal : Type 0
FairRunsAreLegal = (openings : List Device) (ls : List Line) → HaveOwnIds openings → IsWorldOrder openings ls → fairness_of openings ls ≡ Fair → AreLegal openings ls
