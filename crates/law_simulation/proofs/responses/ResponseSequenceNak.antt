-- A sequence error NAK arrives at a live end in Rts: the owner learns of the numbers before it, and no further than the
-- barrier, and the requester sends again from there.
use Rattle.std.proofs.Common.{arith, ◌≡◌, ◌≤◌, ℕ, List, true, false, Bool, refl, ap, ◌∙◌, subst}
use Rattle.std.specs.Prelude.{Option, Some, None, nat_lt, nat_le, ◌&&◌, ◌==◌, if◌then◌else◌}
use Rattle.std.proofs.lemmas.Bool.Decides.{nat_tests, leb_tells}
use Rattle.rdma_types.specs.declared.names.ObjName.{ObjName}
use Rattle.rdma_types.specs.declared.answers.ArrivalEffect.TheVariants as took
use Rattle.rdma_types.specs.declared.requests.WcStatus.TheVariants as status
use Rattle.protocol.specs.declared.wire.Aeth.{Aeth}
use Rattle.protocol.specs.declared.wire.Syndrome.{Syndrome}
use Rattle.protocol.specs.declared.wire.Syndrome.TheVariants.{Ack, Rnr, Nak}
use Rattle.protocol.specs.EndWords as words
use Rattle.protocol.specs.Requester.{acknowledged, goes_back, takes_nak, takes_refusal, takes_syndrome, useless}
use Rattle.protocol.specs.State as state
use Rattle.protocol.specs.State.{World, Link}
use Rattle.protocol.specs.Wire.{Packet}
use Rattle.packetless_machine.specs.Machine as machine
use Rattle.packetless_machine.specs.Machine.{Machine}
use Rattle.packetless_machine.specs.Numbers.{due}
use Rattle.law_simulation.specs.Carries.{TellsUpTo, before_barrier}
use Rattle.law_simulation.specs.Facts.{ClassFact, MoveFact, NumberedFact}
use Rattle.law_simulation.specs.Named.{acknowledged_steps}
use Rattle.law_simulation.specs.Packets.{class_of, syndrome_class, nak_class, IsSequenceNak, IsRefusal, IsStopped, IsNothing}
use Rattle.law_simulation.specs.Views.{requests_of, side_of}
use Rattle.law_simulation.specs.Delivered.{Arrives, Takes, SequenceNaksAreTaken, context_there, end_there}
use Rattle.law_simulation.proofs.sending.GoLive.{LiveEnd}
use Rattle.law_simulation.proofs.responses.ResponseArrives.{IsAcknowledge, acknowledge, is_answer, answer_response, answered, live_end}
use Rattle.law_simulation.proofs.responses.ResponseGoals.{IsTaken, heard_are, no_tells, nothing_taken, rewound_named, rewound_taken, taken_takes, tells_up, useless_named}

sequence_good : is_answer IsSequenceNak ≡ true
unfolding is_answer
sequence_good = refl

-- what a sequence error NAK does
row_is : (c : state.Context) (e : state.End) (l : Link) (n : ℕ) (y : Syndrome) (msn : ℕ) → syndrome_class y msn ≡ IsSequenceNak → takes_syndrome c e l n y ≡ goes_back c e l (acknowledged l n)
unfolding syndrome_class nak_class takes_nak
row_is c e l n Ack msn says = absurd (cc)
row_is c e l n Rnr msn says = absurd (cc)
row_is c e l n (Nak code) msn says = by_code (code == 0) (code == 1) (code == 2) (code == 5) says
  where
    by_code : (p q r t : Bool) → (if p then IsSequenceNak else if q then IsRefusal false else if r then IsRefusal true else if t then IsStopped msn else IsNothing) ≡ IsSequenceNak →
        (if p then goes_back c e l (acknowledged l n) else if q then takes_refusal c e l (acknowledged l n) n status.RemoteInvalid else if r then takes_refusal c e l (acknowledged l n) n status.RemoteAccess else useless c) ≡ goes_back c e l (acknowledged l n)
    by_code true q r t says = refl
    by_code false true r t says = absurd (cc)
    by_code false false true t says = absurd (cc)
    by_code false false false true says = absurd (cc)
    by_code false false false false says = absurd (cc)

module _ (w : World) (m : Machine) (o : ObjName) (l : Link) (n : ℕ) (bytes : List ℕ) (d : Packet) (a : Arrives w m o l (Some n) bytes d) (below : n ≤ due (machine.end_of m o)) where
  abbrev h : LiveEnd w m o l
  h = live_end w m o l (Some n) bytes d a

  abbrev Reached : words.EndStep → Type 0
  Reached step = IsTaken w m o (TellsUpTo m o (before_barrier m o n)) (acknowledged_steps m o (before_barrier m o n)) step

  nothing : Reached (useless (context_there w o))
  nothing = nothing_taken w m o l (TellsUpTo m o (before_barrier m o n)) (acknowledged_steps m o (before_barrier m o n)) (Some n) bytes d a (no_tells m o _) (useless_named m o _)

  by_range : (p q : Bool) → nat_le l.sender.una n ≡ p → Reached (if p && q then goes_back (context_there w o) (end_there w o) l (acknowledged l n) else useless (context_there w o))
  by_range true true t =
      let low : l.sender.una ≤ n = grind (arith, nat_tests, leb_tells l.sender.una n, t) in
      rewound_taken w m o l a.stands h a.alive n low below (TellsUpTo m o (before_barrier m o n)) (acknowledged_steps m o (before_barrier m o n)) took.Rewound (tells_up w m o l a.stands h a.alive n low below) (rewound_named m o _ _ (heard_are w m o l a.stands h a.alive n low below))
  by_range true false t = nothing
  by_range false q t = nothing

by_number : (w : World) (m : Machine) (o : ObjName) (l : Link) (number : Option ℕ) (bytes : List ℕ) (d : Packet) (h : Aeth) → Arrives w m o l number bytes d → class_of d ≡ IsSequenceNak → IsAcknowledge d IsSequenceNak h →
    ClassFact (side_of w o) (side_of w (machine.end_of m o).peer) (requests_of (machine.end_of m o)) (requests_of (machine.end_of m (machine.end_of m o).peer)) number d → Takes w m o l number d
unfolding due
by_number w m o l None bytes d h a is k fact = absurd (subst (MoveFact (side_of w (machine.end_of m o).peer)) is fact)
by_number w m o l (Some n) bytes d h a is k fact =
    let says = subst (NumberedFact (side_of w o) (side_of w (machine.end_of m o).peer) (requests_of (machine.end_of m o)) (requests_of (machine.end_of m (machine.end_of m o).peer)) n d) is fact in
    let below : n ≤ due (machine.end_of m o) = says.1 in
    taken_takes w m o l n d IsSequenceNak _ is
    (answered w m o l n bytes d a says.0 below (answer_response d IsSequenceNak h k) IsSequenceNak h sequence_good k
    ∙ ap (λ z. if nat_le l.sender.una n && nat_lt n l.sender.top then z else useless (context_there w o)) (row_is (context_there w o) (end_there w o) l n h.syndrome h.msn k.says))
    (by_range w m o l n bytes d a below (nat_le l.sender.una n) (nat_lt n l.sender.top) refl)

pub sequence_naks_taken : SequenceNaksAreTaken
sequence_naks_taken w m o l number bytes d a is = let found = acknowledge d IsSequenceNak sequence_good is in by_number w m o l number bytes d found.0 a is found.1 a.fact.fact
