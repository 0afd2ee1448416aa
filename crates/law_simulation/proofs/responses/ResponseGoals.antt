-- What is to be reached where a response is taken, and how: nothing happens, or the owner learns more.
use Rattle.std.proofs.Common.{arith, ◌≡◌, ◌≤◌, ◌-◌, ℕ, suc, List, [], ◌∷◌, ◌++◌, false, true, refl, sym, ap, ◌∙◌, subst}
use Rattle.std.specs.Prelude.{Option, Some, min, if◌then◌else◌}
use Rattle.std.proofs.lemmas.Bool.Decides.{nat_tests, leb_tells}
use Rattle.std.proofs.lemmas.List.{append-nil}
use Rattle.rdma_types.specs.declared.names.ObjName.{ObjName}
use Rattle.rdma_types.specs.declared.answers.DropReason.TheVariants as why
use Rattle.rdma_types.specs.declared.answers.ArrivalEffect.{ArrivalEffect}
use Rattle.rdma_types.specs.declared.answers.ArrivalEffect.TheVariants as took
use Rattle.rdma_types.specs.Objects.{Posted}
use Rattle.rdma_types.specs.Spans.{next_landing, span_of}
use Rattle.protocol.specs.EndStep.{takes}
use Rattle.protocol.specs.EndWords as words
use Rattle.protocol.specs.Requester as requester
use Rattle.protocol.specs.Requester.{acknowledged, advanced, rewound, telling, useless}
use Rattle.protocol.specs.State.{World, Link}
use Rattle.protocol.specs.Wire.{Packet}
use Rattle.protocol.specs.DeviceStep.{ended_step, took_answer}
use Rattle.protocol.specs.WorldStep.{home, ran}
use Rattle.packetless_machine.specs.declared.steps.MachineStep.{MachineStep}
use Rattle.packetless_machine.specs.Legal.{IsRun, after}
use Rattle.packetless_machine.specs.Machine as machine
use Rattle.packetless_machine.specs.Machine.{Machine}
use Rattle.packetless_machine.specs.Numbers.{due, oldest}
use Rattle.law_simulation.specs.Carries.{CarriesNumbered, TellsUpTo, before_barrier}
use Rattle.law_simulation.specs.Named.{acknowledged_steps, is_learned, last_step, learning, numbered_steps}
use Rattle.law_simulation.specs.Packets.{Class, class_of}
use Rattle.law_simulation.specs.Stands.{Stands}
use Rattle.law_simulation.specs.Delivered.{AreInner, Arrives, Takes, context_there, end_there, taken_for}
use Rattle.law_simulation.proofs.delivery.Arriving.{unchanged_stands}
use Rattle.law_simulation.proofs.sending.GoLive.{LiveEnd, sends_here}
use Rattle.law_simulation.proofs.responses.ResponseAdvance.{Knows, advanced_knows, barrier_same, due_at_most, heard, knows_stands, learn, oldest_then, una_is}

-- the machine makes such inner steps, those that are named by what the datagram was taken for, and the relation is kept where
-- the end's step was this
pub record IsTaken (w : World) (m : Machine) (o : ObjName) (P : List MachineStep → Type 0) (N : ArrivalEffect → List MachineStep) (step : words.EndStep) : Type 0 where
  pub steps : List MachineStep
  pub inner : AreInner steps
  pub is_run : IsRun m steps
  pub allowed : P steps
  pub named : steps ≡ N step.took
  pub stands : Stands (ran w (ended_step (home w o.context) step)).world (after m steps)

pub taken_takes : (w : World) (m : Machine) (o : ObjName) (l : Link) (n : ℕ) (d : Packet) (c : Class) (step : words.EndStep) → class_of d ≡ c → takes (context_there w o) (end_there w o) l d ≡ step → IsTaken w m o (CarriesNumbered w m o (Some n) d.payload c) (numbered_steps w m o (Some n) d.payload c) step → Takes w m o l (Some n) d
taken_takes w m o l n d c step is same t = record {
  steps = t.steps;
  inner = t.inner;
  is_run = t.is_run;
  allowed = subst (λ k. CarriesNumbered w m o (Some n) d.payload k t.steps) (sym is) t.allowed;
  named = t.named ∙ (ap (λ (z : words.EndStep). numbered_steps w m o (Some n) d.payload c z.took) (sym same) ∙ ap (λ k. numbered_steps w m o (Some n) d.payload k (taken_for w o l d)) (sym is));
  stands = subst (λ z. Stands (ran w (ended_step (home w o.context) z)).world (after m t.steps)) (sym same) t.stands;
}

-- nothing happens
pub nothing_taken : (w : World) (m : Machine) (o : ObjName) (l : Link) (P : List MachineStep → Type 0) (N : ArrivalEffect → List MachineStep) (number : Option ℕ) (bytes : List ℕ) (d : Packet) → Arrives w m o l number bytes d → P [] → [] ≡ N (took.Silent why.Useless) → IsTaken w m o P N (useless (context_there w o))
nothing_taken w m o l P N number bytes d a p q = record { steps = []; inner = tt; is_run = tt; allowed = p; named = q; stands = unchanged_stands w m o.context (took.Silent why.Useless) a.stands a.live }

pub no_tells : (m : Machine) (o : ObjName) (limit : ℕ) → TellsUpTo m o limit []
no_tells m o limit = record { only = tt; limited = omega arith }

-- ---- the steps of an acknowledge by name

-- a useless one
pub useless_named : (m : Machine) (o : ObjName) (limit : ℕ) → [] ≡ acknowledged_steps m o limit (took.Silent why.Useless)
unfolding acknowledged_steps is_learned
useless_named m o limit = refl

-- what is learned, and the last step
pub step_named : (m : Machine) (o : ObjName) (limit : ℕ) (t : ArrivalEffect) (ss last : List MachineStep) → is_learned t ≡ true → ss ≡ learning o (machine.end_of m o) limit → last ≡ last_step o t → ss ++ last ≡ acknowledged_steps m o limit t
unfolding acknowledged_steps
step_named m o limit t ss last learned are is =
    ap (λ z. z ++ last) are
    ∙ (ap (λ z. learning o (machine.end_of m o) limit ++ z) is
    ∙ sym (ap (λ b. if b then learning o (machine.end_of m o) limit ++ last_step o t else []) learned))

-- .. where it is none
pub acked_named : (m : Machine) (o : ObjName) (limit : ℕ) (ss : List MachineStep) → ss ≡ learning o (machine.end_of m o) limit → ss ≡ acknowledged_steps m o limit took.Acked
unfolding is_learned last_step
acked_named m o limit ss are = sym (append-nil ss) ∙ step_named m o limit took.Acked ss [] refl are refl

pub rewound_named : (m : Machine) (o : ObjName) (limit : ℕ) (ss : List MachineStep) → ss ≡ learning o (machine.end_of m o) limit → ss ≡ acknowledged_steps m o limit took.Rewound
unfolding is_learned last_step
rewound_named m o limit ss are = sym (append-nil ss) ∙ step_named m o limit took.Rewound ss [] refl are refl

-- ---- the barrier

-- it is not below the oldest number
landing_low : (us : List Posted) (mtu r : ℕ) → r ≤ next_landing us mtu r
unfolding next_landing
landing_low [] mtu r = omega arith
landing_low (p ∷ us) mtu r = grind (arith, nat_tests, leb_tells (suc r) (span_of p mtu), landing_low us mtu (r - span_of p mtu))

pub una_barrier : (w : World) (m : Machine) (o : ObjName) (l : Link) (s : Stands w m) (h : LiveEnd w m o l) → l.ended ≡ false → l.sender.una ≤ requester.barrier l.terms l.sender
unfolding requester.barrier oldest
una_barrier w m o l s h alive = omega (arith, landing_low l.sender.untold l.terms.mtu (l.sender.una - l.sender.first), (sends_here w m o l s h alive).first, una_is w m o l s h alive)

-- ---- the owner learns more

-- numbers below k are spoken of
abbrev pub up_to : Link → ℕ → ℕ
up_to l k = min k (requester.barrier l.terms l.sender)

module _ (w : World) (m : Machine) (o : ObjName) (l : Link) (s : Stands w m) (h : LiveEnd w m o l) (alive : l.ended ≡ false) (k : ℕ) (low : l.sender.una ≤ k) (acts : k ≤ due (machine.end_of m o)) where
  pub low_too : l.sender.una ≤ up_to l k
  low_too = omega (arith, low, una_barrier w m o l s h alive)

  pub within_too : up_to l k ≤ requester.barrier l.terms l.sender
  within_too = omega arith

  pub acts_too : up_to l k ≤ due (machine.end_of m o)
  acts_too = omega (arith, acts)

  pub tells_up : TellsUpTo m o (before_barrier m o k) (heard w m o l s h alive (up_to l k) low_too within_too acts_too).steps
  tells_up = record {
    only = (heard w m o l s h alive (up_to l k) low_too within_too acts_too).only;
    limited = omega (arith, oldest_then w m o l s h alive (up_to l k) low_too within_too acts_too, barrier_same w m o l s h alive);
  }

  pub heard_are : (heard w m o l s h alive (up_to l k) low_too within_too acts_too).steps ≡ learning o (machine.end_of m o) (before_barrier m o k)
  heard_are = (heard w m o l s h alive (up_to l k) low_too within_too acts_too).are ∙ ap (λ b. learning o (machine.end_of m o) (min k b)) (barrier_same w m o l s h alive)

  -- .. and the requester goes on
  pub learned_taken : (P : List MachineStep → Type 0) (N : ArrivalEffect → List MachineStep) (t : ArrivalEffect) → P (heard w m o l s h alive (up_to l k) low_too within_too acts_too).steps → (heard w m o l s h alive (up_to l k) low_too within_too acts_too).steps ≡ N t → IsTaken w m o P N (words.stays (telling (context_there w o) (end_there w o) l (acknowledged l k)) t)
  learned_taken P N t p q =
      let x = heard w m o l s h alive (up_to l k) low_too within_too acts_too in
      record {
        steps = x.steps;
        inner = x.inner;
        is_run = x.is_run;
        allowed = p;
        named = q;
        stands = knows_stands w m o l s h alive (up_to l k) low_too within_too acts_too (acknowledged l k) _ (advanced_knows w m o l s h alive (up_to l k) low_too within_too acts_too) (after m x.steps) x.learned (took_answer t []);
      }

  rewound_knows : Knows w m o l s h alive (up_to l k) low_too within_too acts_too (rewound (acknowledged l k)) (learn w m o l s h alive (up_to l k) low_too within_too acts_too).waits
  unfolding rewound
  rewound_knows =
      let v = advanced_knows w m o l s h alive (up_to l k) low_too within_too acts_too in
      record {
        untold = v.untold;
        first = v.first;
        top = v.top;
        una = v.una;
        spent = v.spent;
        waits = v.waits;
        una_next = omega (arith, v.una);
        next_top = omega (arith, v.una, acts_too, due_at_most w m o l s h alive);
      }

  -- .. and sends again from there
  pub rewound_taken : (P : List MachineStep → Type 0) (N : ArrivalEffect → List MachineStep) (t : ArrivalEffect) → P (heard w m o l s h alive (up_to l k) low_too within_too acts_too).steps → (heard w m o l s h alive (up_to l k) low_too within_too acts_too).steps ≡ N t → IsTaken w m o P N (words.stays (telling (context_there w o) (end_there w o) l (rewound (acknowledged l k))) t)
  rewound_taken P N t p q =
      let x = heard w m o l s h alive (up_to l k) low_too within_too acts_too in
      record {
        steps = x.steps;
        inner = x.inner;
        is_run = x.is_run;
        allowed = p;
        named = q;
        stands = knows_stands w m o l s h alive (up_to l k) low_too within_too acts_too (rewound (acknowledged l k)) _ rewound_knows (after m x.steps) x.learned (took_answer t []);
      }
