-- An ACK arrives at a live end in Rts: the owner learns of the numbers up to it, and no further than the barrier.
use Rattle.std.proofs.Common.{arith, ◌≡◌, ◌≤◌, ◌<◌, ◌+◌, ℕ, suc, List, true, false, Bool, refl, sym, ap, ◌∙◌, subst}
use Rattle.std.specs.Prelude.{Option, Some, None, nat_lt, nat_le, ◌&&◌, ◌==◌, if◌then◌else◌}
use Rattle.std.proofs.lemmas.Bool.Decides.{nat_tests, leb_tells}
use Rattle.rdma_types.specs.declared.names.ObjName.{ObjName}
use Rattle.rdma_types.specs.declared.answers.ArrivalEffect.TheVariants as took
use Rattle.protocol.specs.declared.wire.Aeth.{Aeth}
use Rattle.protocol.specs.declared.wire.Syndrome.{Syndrome}
use Rattle.protocol.specs.declared.wire.Syndrome.TheVariants.{Ack, Rnr, Nak}
use Rattle.protocol.specs.EndWords as words
use Rattle.protocol.specs.Requester.{acknowledged, takes_ack, takes_syndrome, telling, useless}
use Rattle.protocol.specs.State.{World, Link}
use Rattle.protocol.specs.Wire.{Packet}
use Rattle.packetless_machine.specs.Machine as machine
use Rattle.packetless_machine.specs.Machine.{Machine}
use Rattle.packetless_machine.specs.Numbers.{due}
use Rattle.law_simulation.specs.Carries.{TellsUpTo, before_barrier}
use Rattle.law_simulation.specs.Facts.{ClassFact, MoveFact, NumberedFact}
use Rattle.law_simulation.specs.Named.{acknowledged_steps}
use Rattle.law_simulation.specs.Packets.{class_of, syndrome_class, nak_class, IsAck, IsSequenceNak, IsRefusal, IsStopped, IsNothing}
use Rattle.law_simulation.specs.Views.{requests_of, side_of}
use Rattle.law_simulation.specs.Delivered.{Arrives, Takes, AcksAreTaken, context_there, end_there}
use Rattle.law_simulation.proofs.sending.GoLive.{LiveEnd}
use Rattle.law_simulation.proofs.responses.ResponseArrives.{IsAcknowledge, ack_good, ack_header, answer_response, answered, live_end}
use Rattle.law_simulation.proofs.responses.ResponseGoals.{IsTaken, acked_named, heard_are, learned_taken, no_tells, nothing_taken, taken_takes, tells_up, useless_named}

-- ACK alone says so
only_ack : (y : Syndrome) (msn : ℕ) → syndrome_class y msn ≡ IsAck → y ≡ Ack
unfolding syndrome_class nak_class
only_ack Ack msn e = refl
only_ack Rnr msn e = absurd (cc)
only_ack (Nak code) msn e = absurd (by_code (code == 0) (code == 1) (code == 2) (code == 5) e)
  where
    by_code : (p q r t : Bool) → (if p then IsSequenceNak else if q then IsRefusal false else if r then IsRefusal true else if t then IsStopped msn else IsNothing) ≡ IsAck → ⊥
    by_code true q r t e = cc
    by_code false true r t e = cc
    by_code false false true t e = cc
    by_code false false false true e = cc
    by_code false false false false e = cc

module _ (w : World) (m : Machine) (o : ObjName) (l : Link) (n : ℕ) (bytes : List ℕ) (d : Packet) (a : Arrives w m o l (Some n) bytes d) (below : n < due (machine.end_of m o)) where
  abbrev h : LiveEnd w m o l
  h = live_end w m o l (Some n) bytes d a

  abbrev Reached : words.EndStep → Type 0
  Reached step = IsTaken w m o (TellsUpTo m o (before_barrier m o (suc n))) (acknowledged_steps m o (before_barrier m o (suc n))) step

  nothing : Reached (useless (context_there w o))
  nothing = nothing_taken w m o l (TellsUpTo m o (before_barrier m o (suc n))) (acknowledged_steps m o (before_barrier m o (suc n))) (Some n) bytes d a (no_tells m o _) (useless_named m o _)

  next_is : n + 1 ≡ suc n
  next_is = omega arith

  by_moved : l.sender.una ≤ n → (b : Bool) → Reached (if b then words.stays (telling (context_there w o) (end_there w o) l (acknowledged l (n + 1))) took.Acked else useless (context_there w o))
  by_moved low true = subst (λ k. Reached (words.stays (telling (context_there w o) (end_there w o) l (acknowledged l k)) took.Acked)) (sym next_is)
      (learned_taken w m o l a.stands h a.alive (suc n) (omega (arith, low)) (omega (arith, below)) (TellsUpTo m o (before_barrier m o (suc n))) (acknowledged_steps m o (before_barrier m o (suc n))) took.Acked
      (tells_up w m o l a.stands h a.alive (suc n) (omega (arith, low)) (omega (arith, below)))
      (acked_named m o _ _ (heard_are w m o l a.stands h a.alive (suc n) (omega (arith, low)) (omega (arith, below)))))
  by_moved low false = nothing

  by_range : (p q : Bool) → nat_le l.sender.una n ≡ p → Reached (if p && q then takes_ack (context_there w o) (end_there w o) l (n + 1) else useless (context_there w o))
  unfolding takes_ack
  by_range true true low = by_moved (grind (arith, nat_tests, leb_tells l.sender.una n)) (nat_lt l.sender.una (acknowledged l (n + 1)).una)
  by_range true false low = nothing
  by_range false q low = nothing

by_number : (w : World) (m : Machine) (o : ObjName) (l : Link) (number : Option ℕ) (bytes : List ℕ) (d : Packet) (h : Aeth) → Arrives w m o l number bytes d → class_of d ≡ IsAck → IsAcknowledge d IsAck h → ClassFact (side_of w o) (side_of w (machine.end_of m o).peer) (requests_of (machine.end_of m o)) (requests_of (machine.end_of m (machine.end_of m o).peer)) number d → Takes w m o l number d
unfolding due
by_number w m o l None bytes d h a is k fact = absurd (subst (MoveFact (side_of w (machine.end_of m o).peer)) is fact)
by_number w m o l (Some n) bytes d h a is k fact =
    let says = subst (NumberedFact (side_of w o) (side_of w (machine.end_of m o).peer) (requests_of (machine.end_of m o)) (requests_of (machine.end_of m (machine.end_of m o).peer)) n d) is fact in
    let below : n < due (machine.end_of m o) = says.1 in
    taken_takes w m o l n d IsAck _ is
    (answered w m o l n bytes d a says.0 (omega (arith, below)) (answer_response d IsAck h k) IsAck h ack_good k
    ∙ ap (λ y. if nat_le l.sender.una n && nat_lt n l.sender.top then takes_syndrome (context_there w o) (end_there w o) l n y else useless (context_there w o)) (only_ack h.syndrome h.msn k.says))
    (by_range w m o l n bytes d a below (nat_le l.sender.una n) (nat_lt n l.sender.top) refl)

pub acks_taken : AcksAreTaken
acks_taken w m o l number bytes d a is = let found = ack_header d is in by_number w m o l number bytes d found.0 a is found.1 a.fact.fact
