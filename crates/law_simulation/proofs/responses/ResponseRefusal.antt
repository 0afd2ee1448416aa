-- A NAK of an invalid request or a remote access error arrives at a live end in Rts: the owner learns of the numbers before
-- it, and where it speaks of the oldest number the end goes to Error with its status.
use Rattle.std.proofs.Common.{arith, ◌≡◌, ◌≤◌, ◌<◌, ◌+◌, ℕ, suc, List, [], ◌∷◌, ◌++◌, true, false, Bool, refl, sym, ap, ◌∙◌, subst, inl, inr}
use Rattle.std.specs.Prelude.{Option, Some, None, nat_lt, nat_le, slice_get, ◌&&◌, ◌==◌, if◌then◌else◌}
use Rattle.std.proofs.lemmas.Bool.Decides.{nat_tests, leb_tells, eqb_tells}
use Rattle.rdma_types.specs.declared.names.ObjName.{ObjName}
use Rattle.rdma_types.specs.declared.answers.ArrivalEffect.{ArrivalEffect}
use Rattle.rdma_types.specs.declared.answers.ArrivalEffect.TheVariants as took
use Rattle.rdma_types.specs.declared.answers.RefusalReason.{RefusalReason}
use Rattle.rdma_types.specs.declared.answers.RefusalReason.TheVariants as whys
use Rattle.rdma_types.specs.declared.requests.WcStatus.{WcStatus}
use Rattle.rdma_types.specs.declared.requests.WcStatus.TheVariants as status
use Rattle.rdma_types.specs.Spans.{end_number}
use Rattle.protocol.specs.declared.wire.Aeth.{Aeth}
use Rattle.protocol.specs.declared.wire.Syndrome.{Syndrome}
use Rattle.protocol.specs.declared.wire.Syndrome.TheVariants.{Ack, Rnr, Nak}
use Rattle.protocol.specs.EndWords as words
use Rattle.protocol.specs.Requester as requester
use Rattle.protocol.specs.Requester.{acknowledged, ends_after, goes_back, takes_aeth, takes_nak, takes_refusal, takes_syndrome, useless}
use Rattle.protocol.specs.State as state
use Rattle.protocol.specs.State.{World, Link}
use Rattle.protocol.specs.Wire.{Packet}
use Rattle.protocol.specs.DeviceStep.{took_answer}
use Rattle.packetless_machine.specs.declared.reply.Reply.TheVariants.{Denied}
use Rattle.packetless_machine.specs.declared.steps.MachineStep.{MachineStep}
use Rattle.packetless_machine.specs.declared.steps.MachineStep.TheVariants as steps
use Rattle.packetless_machine.specs.Legal.{after}
use Rattle.packetless_machine.specs.Machine as machine
use Rattle.packetless_machine.specs.Machine.{Machine, End}
use Rattle.packetless_machine.specs.Numbers.{due}
use Rattle.packetless_machine.specs.Steps as making
use Rattle.packetless_machine.specs.Steps.{bounce, bounce_status, is_denied, may_bounce}
use Rattle.law_simulation.specs.Carries.{TellsThenMaybe, before_barrier}
use Rattle.law_simulation.specs.Facts.{ClassFact, IsRefused, MoveFact, NumberedFact, is_access_denied}
use Rattle.law_simulation.specs.Named.{acknowledged_steps, ending, is_learned, last_step, learning}
use Rattle.law_simulation.specs.Packets.{class_of, syndrome_class, nak_class, IsSequenceNak, IsRefusal, IsStopped, IsNothing}
use Rattle.law_simulation.specs.Stands.{Stands}
use Rattle.law_simulation.specs.Views.{requests_of, side_of}
use Rattle.law_simulation.specs.Delivered.{Arrives, Takes, RefusalsAreTaken, context_there, end_there}
use Rattle.law_simulation.proofs.sending.GoLive.{LiveEnd, ordered_here}
use Rattle.law_simulation.proofs.responses.ResponseAdvance.{advanced_knows, end_heard, heard, knows_ends, learn}
use Rattle.law_simulation.proofs.responses.ResponseArrives.{IsAcknowledge, acknowledge, is_answer, answer_response, answered, live_end}
use Rattle.law_simulation.proofs.responses.ResponseGoals.{IsTaken, acts_too, heard_are, low_too, no_tells, nothing_taken, rewound_named, rewound_taken, step_named, taken_takes, tells_up, up_to, useless_named, within_too}
use Rattle.law_simulation.proofs.responses.ResponseLast.{after_then, front_acts, inner_then, run_then, then_none, then_one, untold_then}

refusal_good : (b : Bool) → is_answer (IsRefusal b) ≡ true
unfolding is_answer
refusal_good b = refl

-- the status of a refusal
abbrev status_of : Bool → WcStatus
status_of true = status.RemoteAccess
status_of false = status.RemoteInvalid

-- what a refusal does
row_is : (c : state.Context) (e : state.End) (l : Link) (n : ℕ) (y : Syndrome) (msn : ℕ) (b : Bool) → syndrome_class y msn ≡ IsRefusal b → takes_syndrome c e l n y ≡ takes_refusal c e l (acknowledged l n) n (status_of b)
unfolding syndrome_class nak_class takes_nak
row_is c e l n Ack msn b says = absurd (cc)
row_is c e l n Rnr msn b says = absurd (cc)
row_is c e l n (Nak code) msn b says = by_code (code == 0) (code == 1) (code == 2) (code == 5) says
  where
    by_code : (p q r t : Bool) → (if p then IsSequenceNak else if q then IsRefusal false else if r then IsRefusal true else if t then IsStopped msn else IsNothing) ≡ IsRefusal b →
        (if p then goes_back c e l (acknowledged l n) else if q then takes_refusal c e l (acknowledged l n) n status.RemoteInvalid else if r then takes_refusal c e l (acknowledged l n) n status.RemoteAccess else useless c) ≡ takes_refusal c e l (acknowledged l n) n (status_of b)
    by_code true q r t says = absurd (cc)
    by_code false true r t says = let is : false ≡ b = cc in ap (λ z. takes_refusal c e l (acknowledged l n) n (status_of z)) is
    by_code false false true t says = let is : true ≡ b = cc in ap (λ z. takes_refusal c e l (acknowledged l n) n (status_of z)) is
    by_code false false false true says = absurd (cc)
    by_code false false false false says = absurd (cc)

-- what is learned, and the end that is refused, by name
ended_named : (m : Machine) (o : ObjName) (limit : ℕ) (b : Bool) (ss : List MachineStep) → ss ≡ learning o (machine.end_of m o) limit → ss ++ steps.Bounce o ∷ [] ≡ acknowledged_steps m o limit (took.Ended (status_of b))
unfolding is_learned last_step ending
ended_named m o limit true ss are = step_named m o limit (took.Ended status.RemoteAccess) ss (steps.Bounce o ∷ []) refl are refl
ended_named m o limit false ss are = step_named m o limit (took.Ended status.RemoteInvalid) ss (steps.Bounce o ∷ []) refl are refl

-- the owner sees that status
bounced : (why : RefusalReason) (b : Bool) → is_access_denied why ≡ b → bounce_status (Some (Denied why)) ≡ status_of b
unfolding is_access_denied bounce_status
bounced whys.Access b h = ap status_of h
bounced whys.Invalid b h = ap status_of h
bounced whys.Length b h = ap status_of h

module _ (w : World) (m : Machine) (o : ObjName) (l : Link) (n : ℕ) (bytes : List ℕ) (d : Packet) (a : Arrives w m o l (Some n) bytes d) (b : Bool) (r : IsRefused (requests_of (machine.end_of m o)) n b) where
  abbrev h : LiveEnd w m o l
  h = live_end w m o l (Some n) bytes d a

  abbrev f : End
  f = machine.end_of m o

  abbrev Allowed : List MachineStep → Type 0
  Allowed ss = TellsThenMaybe m o (before_barrier m o n) (steps.Bounce o) ss

  abbrev Named : ArrivalEffect → List MachineStep
  Named = acknowledged_steps m o (before_barrier m o n)

  abbrev Reached : words.EndStep → Type 0
  Reached step = IsTaken w m o Allowed Named step

  nothing : Reached (useless (context_there w o))
  nothing = nothing_taken w m o l Allowed Named (Some n) bytes d a (then_none m o _ (steps.Bounce o) [] (no_tells m o _)) (useless_named m o _)

  is_due : n ≡ due f
  unfolding due
  is_due = r.due

  acts : n ≤ due f
  acts = omega (arith, is_due)

  module _ (low : l.sender.una ≤ n) (top : n < l.sender.top) where
    abbrev up : ℕ
    up = up_to l n

    abbrev low' : l.sender.una ≤ up
    low' = low_too w m o l a.stands h a.alive n low acts

    abbrev within' : up ≤ requester.barrier l.terms l.sender
    within' = within_too w m o l a.stands h a.alive n low acts

    abbrev acts' : up ≤ due f
    acts' = acts_too w m o l a.stands h a.alive n low acts

    -- the refusal speaks of the oldest number
    module _ (all : up ≡ n) where
      inside : up < end_number f.posted f.mtu
      inside = omega (arith, all, top, (ordered_here w m o l a.stands h).top_end)

      abbrev m' : Machine
      m' = after m (heard w m o l a.stands h a.alive up low' within' acts').steps

      acted : f.told + (learn w m o l a.stands h a.alive up low' within' acts').count ≡ f.acted
      acted = front_acts w m o l a.stands h a.alive up low' within' acts' inside (all ∙ is_due)

      answer : slice_get (machine.end_of m' o).answers (machine.end_of m' o).told ≡ Some (Denied r.why)
      answer = ap (λ z. slice_get z.answers z.told) (end_heard w m o l a.stands h a.alive up low' within' acts') ∙ (ap (slice_get f.answers) acted ∙ r.answer)

      enabled : may_bounce m' o ≡ true
      unfolding may_bounce is_denied
      enabled = rw (untold_then w m o l a.stands h a.alive up low' within' acts' inside, answer) refl

      effect_is : bounce m' o ≡ making.ended_with m' o (status_of b)
      unfolding bounce
      effect_is = ap (λ z. making.ended_with m' o (bounce_status z)) answer ∙ ap (making.ended_with m' o) (bounced r.why b r.matches)

      ends : Reached (ends_after (context_there w o) (end_there w o) l (acknowledged l n) (status_of b))
      ends =
          let x = heard w m o l a.stands h a.alive up low' within' acts' in
          record {
            steps = x.steps ++ steps.Bounce o ∷ [];
            inner = inner_then x.steps (steps.Bounce o ∷ []) x.inner tt;
            is_run = run_then x.steps (steps.Bounce o ∷ []) m x.is_run (enabled, tt);
            allowed = then_one m o _ (steps.Bounce o) x.steps (tells_up w m o l a.stands h a.alive n low acts);
            named = ended_named m o _ b x.steps (heard_are w m o l a.stands h a.alive n low acts);
            stands = subst (Stands _) (sym (after_then x.steps (steps.Bounce o ∷ []) m ∙ effect_is))
                (knows_ends w m o l a.stands h a.alive up low' within' acts' (acknowledged l n) _ (advanced_knows w m o l a.stands h a.alive up low' within' acts') m' x.learned (status_of b) (took_answer (took.Ended (status_of b)) []));
          }

    rewinds : Reached (goes_back (context_there w o) (end_there w o) l (acknowledged l n))
    rewinds = rewound_taken w m o l a.stands h a.alive n low acts Allowed Named took.Rewound (then_none m o _ (steps.Bounce o) _ (tells_up w m o l a.stands h a.alive n low acts)) (rewound_named m o _ _ (heard_are w m o l a.stands h a.alive n low acts))

    una_is' : (acknowledged l n).una ≡ up
    una_is' = (advanced_knows w m o l a.stands h a.alive up low' within' acts').una

    refuses : (t : Bool) → ((acknowledged l n).una == n) ≡ t → Reached (if t then ends_after (context_there w o) (end_there w o) l (acknowledged l n) (status_of b) else goes_back (context_there w o) (end_there w o) l (acknowledged l n))
    refuses false t = rewinds
    refuses true t = elim (eqb_tells (acknowledged l n).una n) [
      | inl z ↦ ends (sym una_is' ∙ z.1)
      | inr z ↦ absurd (cc (z.0, t))
    ]

  by_range : (p q : Bool) → nat_le l.sender.una n ≡ p → nat_lt n l.sender.top ≡ q → Reached (if p && q then takes_refusal (context_there w o) (end_there w o) l (acknowledged l n) n (status_of b) else useless (context_there w o))
  unfolding takes_refusal
  by_range true true t u = refuses (grind (arith, nat_tests, leb_tells l.sender.una n, t)) (grind (arith, nat_tests, leb_tells (suc n) l.sender.top, u)) ((acknowledged l n).una == n) refl
  by_range true false t u = nothing
  by_range false q t u = nothing

by_number : (w : World) (m : Machine) (o : ObjName) (l : Link) (number : Option ℕ) (bytes : List ℕ) (d : Packet) (h : Aeth) (b : Bool) → Arrives w m o l number bytes d → class_of d ≡ IsRefusal b → IsAcknowledge d (IsRefusal b) h →
    ClassFact (side_of w o) (side_of w (machine.end_of m o).peer) (requests_of (machine.end_of m o)) (requests_of (machine.end_of m (machine.end_of m o).peer)) number d → Takes w m o l number d
by_number w m o l None bytes d h b a is k fact = absurd (subst (MoveFact (side_of w (machine.end_of m o).peer)) is fact)
by_number w m o l (Some n) bytes d h b a is k fact =
    let says = subst (NumberedFact (side_of w o) (side_of w (machine.end_of m o).peer) (requests_of (machine.end_of m o)) (requests_of (machine.end_of m (machine.end_of m o).peer)) n d) is fact in
    taken_takes w m o l n d (IsRefusal b) _ is
    (answered w m o l n bytes d a says.0 (acts w m o l n bytes d a b says.1) (answer_response d (IsRefusal b) h k) (IsRefusal b) h (refusal_good b) k
    ∙ ap (λ z. if nat_le l.sender.una n && nat_lt n l.sender.top then z else useless (context_there w o)) (row_is (context_there w o) (end_there w o) l n h.syndrome h.msn b k.says))
    (by_range w m o l n bytes d a b says.1 (nat_le l.sender.una n) (nat_lt n l.sender.top) refl refl)

pub refusals_taken : RefusalsAreTaken
refusals_taken b w m o l number bytes d a is = let found = acknowledge d (IsRefusal b) (refusal_good b) is in by_number w m o l number bytes d found.0 b a is found.1 a.fact.fact
