-- Steps of an end of another connection are seen as moves, and most of them not at all.
use Rattle.std.proofs.Common.{◌≡◌, ◌≢◌, ℕ, ◌≤◌, List, true, sym, subst, inl, inr}
use Rattle.rdma_types.specs.declared.names.ObjName.{ObjName}
use Rattle.packetless_machine.specs.declared.steps.MachineStep.{MachineStep}
use Rattle.packetless_machine.specs.declared.steps.MachineStep.TheVariants as steps
use Rattle.packetless_machine.specs.Legal.{effect, is_enabled}
use Rattle.packetless_machine.specs.Machine.{Machine}
use Rattle.packetless_machine.specs.Steps.{landed, may_atom, may_land, may_tell, tell}
use Rattle.mailbox_rules.specs.declared.due.Due.{Due}
use Rattle.mailbox_rules.specs.declared.letters.Letter.{Letter}
use Rattle.mailbox_rules.specs.Histories.{Placed}
use Rattle.mailbox_rules.specs.State.{Channel}
use Rattle.law_mailbox.specs.Kept.{IsKept, IsOpened, sight_of}
use Rattle.law_mailbox.specs.Seen.{IsOf, IsOwnStep, IsReadStep, IsRunStep, IsSeen, OtherStepsAreSeen}
use Rattle.law_mailbox.proofs.connection.NotEnabled.{receiver_atoms_not, sender_atoms_not, sender_lands_not}
use Rattle.law_mailbox.proofs.connection.OtherBytes.{other_lands, other_receiver_tells, other_sender_tells}
use Rattle.law_mailbox.proofs.connection.OtherRuns.{other_runs}
use Rattle.law_mailbox.proofs.connection.Others.{IsElsewhere, elsewhere, names_apart, other_bounces, other_dries, other_expires, other_knows, other_offers, other_refused, other_turns, other_waits}

module _ (i j : ℕ) (m : Machine) (owed : List Due) (c : Channel) (sent : List Letter) (open' : List Placed) (positive : 1 ≤ i) (positive' : 1 ≤ j) (other : i ≢ j) (x : IsOpened m i) (y : IsOpened m j) (h : IsKept j (sight_of m owed j) c sent open') where
  place : (o : ObjName) → IsOf j o → IsElsewhere m i o
  place o of = elsewhere m i j (names_apart m i j x y other) y o of

  own_step : (s : MachineStep) → IsOwnStep j s → is_enabled m s ≡ true → IsSeen i owed m (effect m s)
  own_step (steps.Known q bytes) of may = other_knows m owed i x q (place q of) bytes
  own_step (steps.Dry q) of may = other_dries m owed i x q (place q of)
  own_step (steps.Expire q) of may = other_expires m owed i x q (place q of)
  own_step (steps.Wait q) of may = other_waits m owed i x q (place q of)
  own_step (steps.Bounce q) of may = other_bounces m owed i x q (place q of)
  own_step (steps.ReadTurn q) e may = other_turns m owed i x q (place q (inr e))
  own_step (steps.Tell q) (inl e) may = subst (λ (o : ObjName). IsSeen i owed m (tell m o)) (sym e) (other_sender_tells m owed i j (names_apart m i j x y other) other x y c sent open' h positive positive')
  own_step (steps.Tell q) (inr e) may =
      subst (λ (o : ObjName). IsSeen i owed m (tell m o)) (sym e) (other_receiver_tells m owed i j (names_apart m i j x y other) other x y c sent open' h positive positive' (subst (λ (o : ObjName). may_tell m o ≡ true) e may))
  own_step s of may = absurd of

  read_step : (s : MachineStep) → IsReadStep j s → is_enabled m s ≡ true → IsSeen i owed m (effect m s)
  read_step (steps.Offer q k offset n) of may = other_offers m owed i x q (place q of) k offset n
  read_step (steps.Land q k) (inl e) may = absurd (sender_lands_not m owed j c sent open' h k (subst (λ (o : ObjName). may_land m o k ≡ true) e may))
  read_step (steps.Land q k) (inr e) may =
      subst (λ (o : ObjName). IsSeen i owed m (landed m o k)) (sym e) (other_lands m owed i j (names_apart m i j x y other) other x y c sent open' h k (subst (λ (o : ObjName). may_land m o k ≡ true) e may))
  read_step (steps.Refuse q why) of may = other_refused m owed i j (names_apart m i j x y other) x y why q of
  read_step (steps.Atom q) (inl e) may = absurd (sender_atoms_not m owed j c sent open' h (subst (λ (o : ObjName). may_atom m o ≡ true) e may))
  read_step (steps.Atom q) (inr e) may = absurd (receiver_atoms_not m owed j c sent open' h (subst (λ (o : ObjName). may_atom m o ≡ true) e may))
  read_step (steps.ReadTurn q) e may = other_turns m owed i x q (place q (inl e))
  read_step s of may = absurd of

  run_step : (s : MachineStep) → IsRunStep j s → is_enabled m s ≡ true → IsSeen i owed m (effect m s)
  run_step (steps.Run q n) of may = other_runs m owed i j (names_apart m i j x y other) other positive positive' x y c sent open' h n q of may
  run_step s of may = absurd of

pub other_steps : OtherStepsAreSeen
other_steps i j m owed c sent open' s positive positive' other x y h (inl own) may = own_step i j m owed c sent open' positive positive' other x y h s own may
other_steps i j m owed c sent open' s positive positive' other x y h (inr (inl reads)) may = read_step i j m owed c sent open' positive positive' other x y h s reads may
other_steps i j m owed c sent open' s positive positive' other x y h (inr (inr runs)) may = run_step i j m owed c sent open' positive positive' other x y h s runs may
