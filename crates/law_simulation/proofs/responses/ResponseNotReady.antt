-- A receiver-not-ready NAK arrives at a live end in Rts: the owner learns of the numbers before it, and where it speaks of the
-- oldest number a wait is counted, of which the last one ends the end.
use Rattle.std.proofs.Common.{arith, ◌≡◌, ◌≢◌, ◌≤◌, ◌<◌, ◌+◌, ℕ, suc, List, [], ◌∷◌, ◌++◌, true, false, Bool, refl, sym, ap, ◌∙◌, subst, inl, inr}
use Rattle.std.specs.Prelude.{Option, Some, None, not, min, nat_lt, nat_le, nat_eq, Contains, ◌&&◌, ◌==◌, if◌then◌else◌}
use Rattle.std.specs.List.{list_any}
use Rattle.std.proofs.lemmas.Bool.Decides.{nat_tests, leb_tells, eqb_tells}
use Rattle.std.proofs.lemmas.List.{append-nil}
use Rattle.std.proofs.lemmas.List.Folds.{list_any_at}
use Rattle.rdma_types.specs.declared.names.ObjName.{ObjName}
use Rattle.rdma_types.specs.declared.answers.ArrivalEffect.{ArrivalEffect}
use Rattle.rdma_types.specs.declared.answers.ArrivalEffect.TheVariants as took
use Rattle.rdma_types.specs.declared.requests.WcStatus.TheVariants as status
use Rattle.rdma_types.specs.Lists.{store_named}
use Rattle.rdma_types.specs.Spans.{end_number, request_of}
use Rattle.protocol.specs.declared.wire.Aeth.{Aeth}
use Rattle.protocol.specs.declared.wire.Syndrome.{Syndrome}
use Rattle.protocol.specs.declared.wire.Syndrome.TheVariants.{Ack, Rnr, Nak}
use Rattle.protocol.specs.EndWords as words
use Rattle.protocol.specs.Requester as requester
use Rattle.protocol.specs.Requester.{acknowledged, after_telling, ended_link, ended_with, end_of_queue, ends_after, moved_or_useless, takes_aeth, takes_rnr, takes_syndrome, telling, told_completions, useless, waited, waiting, waits_again}
use Rattle.protocol.specs.State as state
use Rattle.protocol.specs.State.{World, Link, Sender}
use Rattle.protocol.specs.Wire.{Packet}
use Rattle.protocol.specs.DeviceStep.{ended_step, took_answer}
use Rattle.protocol.specs.WorldStep.{home, ran}
use Rattle.packetless_machine.specs.declared.steps.MachineStep.{MachineStep}
use Rattle.packetless_machine.specs.declared.steps.MachineStep.TheVariants as steps
use Rattle.packetless_machine.specs.Legal.{after}
use Rattle.packetless_machine.specs.Machine as machine
use Rattle.packetless_machine.specs.Machine.{Machine, End}
use Rattle.packetless_machine.specs.Numbers.{due}
use Rattle.packetless_machine.specs.Steps as making
use Rattle.packetless_machine.specs.Steps.{may_wait, wait}
use Rattle.law_simulation.specs.Carries.{TellsThenMaybe, before_barrier}
use Rattle.law_simulation.specs.Facts.{ClassFact, IsDry, MoveFact, NumberedFact}
use Rattle.law_simulation.specs.Named.{acknowledged_steps, ending, is_learned, last_step}
use Rattle.law_simulation.specs.Packets.{class_of, syndrome_class, nak_class, IsSequenceNak, IsRefusal, IsReceiverNotReady, IsStopped, IsNothing}
use Rattle.law_simulation.specs.Stands.{Stands}
use Rattle.law_simulation.specs.Views.{requests_of, side_of}
use Rattle.law_simulation.proofs.relation.Linked.{end_changed}
use Rattle.law_simulation.proofs.relation.Machines.{MachineChanged}
use Rattle.law_simulation.specs.Delivered.{Arrives, Takes, ReceiverNotReadyIsTaken, context_there, end_there}
use Rattle.law_simulation.proofs.sending.GoLive.{LiveEnd, joined_here, link_is, name_here, ordered_here}
use Rattle.law_simulation.proofs.responses.ResponseAdvance.{Knows, advanced_knows, due_at_most, end_heard, end_then, heard, knows_ends, knows_stands, learn}
use Rattle.law_simulation.proofs.responses.ResponseArrives.{IsAcknowledge, acknowledge, is_answer, answer_response, answered, live_end}
use Rattle.law_simulation.proofs.responses.ResponseGoals.{IsTaken, acked_named, acts_too, heard_are, learned_taken, low_too, no_tells, nothing_taken, step_named, taken_takes, tells_up, up_to, useless_named, within_too}
use Rattle.law_simulation.proofs.responses.ResponseLast.{after_then, front_of, inner_then, run_then, then_none, then_one, untold_then}
use Rattle.law_simulation.proofs.responses.ResponseTelling.{stays_here}
use Rattle.law_simulation.proofs.responses.ResponseTold.{Learned, Stays, entries_by, learned_stays, learned_then, none_more}

not_ready_good : is_answer IsReceiverNotReady ≡ true
unfolding is_answer
not_ready_good = refl

row_is : (c : state.Context) (e : state.End) (l : Link) (n : ℕ) (y : Syndrome) (msn : ℕ) → syndrome_class y msn ≡ IsReceiverNotReady → takes_syndrome c e l n y ≡ (if l.sender.rnr_wait then useless c else takes_rnr c e l (acknowledged l n) n)
unfolding syndrome_class nak_class
row_is c e l n Ack msn says = absurd (cc)
row_is c e l n Rnr msn says = refl
row_is c e l n (Nak code) msn says = absurd (by_code (code == 0) (code == 1) (code == 2) (code == 5) says)
  where
    by_code : (p q r t : Bool) → (if p then IsSequenceNak else if q then IsRefusal false else if r then IsRefusal true else if t then IsStopped msn else IsNothing) ≡ IsReceiverNotReady → ⊥
    by_code true q r t says = cc
    by_code false true r t says = cc
    by_code false false true t says = cc
    by_code false false false true says = cc
    by_code false false false false says = cc

-- a wait is counted
learned_waited : (m : Machine) (o : ObjName) → Stays m o → Learned m (machine.in_end m o making.waited) o (making.waited (machine.end_of m o)) []
unfolding machine.with_end machine.with_context making.waited
learned_waited m o s =
    let y : machine.Context = machine.context_of m o.context in
    let g : End = making.waited (machine.end_of m o) in
    record {
      changed = subst (λ qs. MachineChanged m (machine.in_end m o making.waited) o.context (record y { ends = store_named (λ z. z.name) o.name g y.ends; queues = qs })) (sym (none_more y.queues (machine.end_of m o).send_queue s.queue)) (end_changed m o g s.there s.found);
      numbers = refl;
      keys = refl;
    }

-- a wait by name, and the last one
wait_named : (o : ObjName) → (is_learned took.Waits ≡ true) × (steps.Wait o ∷ [] ≡ last_step o took.Waits)
unfolding is_learned last_step
wait_named o = (refl, refl)

last_named : (o : ObjName) → (is_learned (took.Ended status.RnrExceeded) ≡ true) × (steps.Wait o ∷ [] ≡ last_step o (took.Ended status.RnrExceeded))
unfolding is_learned last_step ending
last_named o = (refl, refl)

-- the count of the last wait is no matter
ends_same : (c : state.Context) (e : state.End) (l : Link) (s : Sender) → ends_after c e l (waited s) status.RnrExceeded ≡ ends_after c e l s status.RnrExceeded
unfolding ended_with ended_link after_telling told_completions end_of_queue words.with_sender
ends_same c e l s = refl

any_there : (xs : List ℕ) (x : ℕ) → Contains xs x → list_any (nat_eq x) xs ≡ true
any_there xs x h = list_any_at (nat_eq x) xs h.0 x h.1 (ap (nat_eq x) h.2 ∙ same_number x)
  where
    same_number : (k : ℕ) → nat_eq k k ≡ true
    same_number k = elim (eqb_tells k k) [ inl t ↦ t.0 | inr t ↦ absurd (t.1 refl) ]

same_eq : (a b : ℕ) → a ≡ b → (a == b) ≡ true
same_eq a b h = elim (eqb_tells a b) [ inl t ↦ t.0 | inr t ↦ absurd (t.1 h) ]

other_eq : (a b : ℕ) → (a ≢ b) → (a == b) ≡ false
other_eq a b h = elim (eqb_tells a b) [ inl t ↦ absurd (h t.1) | inr t ↦ t.0 ]

eq_same : (a b : ℕ) → (a == b) ≡ true → a ≡ b
eq_same a b h = elim (eqb_tells a b) [ inl t ↦ t.1 | inr t ↦ absurd (cc (t.0, h)) ]

eq_other : (a b : ℕ) → (a == b) ≡ false → a ≢ b
eq_other a b h e = elim (eqb_tells a b) [ inl t ↦ cc (t.0, h) | inr t ↦ t.1 e ]

module _ (w : World) (m : Machine) (o : ObjName) (l : Link) (n : ℕ) (bytes : List ℕ) (d : Packet) (a : Arrives w m o l (Some n) bytes d) (r : IsDry (requests_of (machine.end_of m o)) n) where
  abbrev h : LiveEnd w m o l
  h = live_end w m o l (Some n) bytes d a

  abbrev f : End
  f = machine.end_of m o

  abbrev Allowed : List MachineStep → Type 0
  Allowed ss = TellsThenMaybe m o (before_barrier m o n) (steps.Wait o) ss

  abbrev Named : ArrivalEffect → List MachineStep
  Named = acknowledged_steps m o (before_barrier m o n)

  abbrev Reached : words.EndStep → Type 0
  Reached step = IsTaken w m o Allowed Named step

  -- the world after such a step of the end
  abbrev ran_world : words.EndStep → World
  ran_world step = (ran w (ended_step (home w o.context) step)).world

  nothing : Reached (useless (context_there w o))
  nothing = nothing_taken w m o l Allowed Named (Some n) bytes d a (then_none m o _ (steps.Wait o) [] (no_tells m o _)) (useless_named m o _)

  acts : n ≤ due f
  unfolding due
  acts = r.due

  rnr_is : l.terms.rnr ≡ f.rnr
  rnr_is = ap (λ z. z.terms.rnr) (sym (link_is w m o l a.stands h)) ∙ (joined_here w m o l a.stands h).rnr

  rnr_small : f.rnr ≤ 7
  rnr_small = subst (λ k. k ≤ 7) (joined_here w m o l a.stands h).rnr (joined_here w m o l a.stands h).terms.rnr

  module _ (low : l.sender.una ≤ n) (top : n < l.sender.top) where
    abbrev up : ℕ
    up = up_to l n

    abbrev low' : l.sender.una ≤ up
    low' = low_too w m o l a.stands h a.alive n low acts

    abbrev within' : up ≤ requester.barrier l.terms l.sender
    within' = within_too w m o l a.stands h a.alive n low acts

    abbrev acts' : up ≤ due f
    acts' = acts_too w m o l a.stands h a.alive n low acts

    abbrev s : Sender
    s = acknowledged l n

    abbrev count : ℕ
    count = (learn w m o l a.stands h a.alive up low' within' acts').waits

    -- the NAK speaks of the oldest number
    module _ (all : up ≡ n) where
      inside : up < end_number f.posted f.mtu
      inside = omega (arith, all, top, (ordered_here w m o l a.stands h).top_end)

      abbrev ss : List MachineStep
      ss = (heard w m o l a.stands h a.alive up low' within' acts').steps

      abbrev m' : Machine
      m' = after m ss

      end_is : machine.end_of m' o ≡ end_then w m o l a.stands h a.alive up low' within' acts'
      end_is = end_heard w m o l a.stands h a.alive up low' within' acts'

      dry_there : Contains f.dry (f.told + (learn w m o l a.stands h a.alive up low' within' acts').count)
      dry_there = subst (Contains f.dry) (ap (request_of f.posted f.mtu) (sym all) ∙ front_of w m o l a.stands h a.alive up low' within' acts' inside) r.dry

      enabled : may_wait m' o ≡ true
      unfolding may_wait
      enabled =
          ap (λ b. b && list_any (nat_eq (machine.end_of m' o).told) (machine.end_of m' o).dry) (untold_then w m o l a.stands h a.alive up low' within' acts' inside)
          ∙ (ap (λ z. list_any (nat_eq z.told) z.dry) end_is ∙ any_there f.dry _ dry_there)

      v : Knows w m o l a.stands h a.alive up low' within' acts' s count
      v = advanced_knows w m o l a.stands h a.alive up low' within' acts'

      -- the end goes on waiting
      waits_on : (more : ℕ) → (f.rnr ≢ 7 → (min 255 (s.waits + 1) ≡ more) × (more ≤ f.rnr)) → Knows w m o l a.stands h a.alive up low' within' acts' (waiting (waited s)) more
      waits_on more waits = record {
        untold = v.untold;
        first = v.first;
        top = v.top;
        una = v.una;
        spent = v.spent;
        waits = waits;
        una_next = omega (arith, v.una);
        next_top = omega (arith, v.una, acts', due_at_most w m o l a.stands h a.alive);
      }

      -- by a Wait
      by_wait : (step : words.EndStep) → is_learned step.took ≡ true → steps.Wait o ∷ [] ≡ last_step o step.took → Stands (ran_world step) (wait m' o) → Reached step
      by_wait step learned' one stands =
          let x = heard w m o l a.stands h a.alive up low' within' acts' in
          record {
            steps = ss ++ steps.Wait o ∷ [];
            inner = inner_then ss (steps.Wait o ∷ []) x.inner tt;
            is_run = run_then ss (steps.Wait o ∷ []) m x.is_run (enabled, tt);
            allowed = then_one m o _ (steps.Wait o) ss (tells_up w m o l a.stands h a.alive n low acts);
            named = step_named m o _ step.took ss (steps.Wait o ∷ []) learned' (heard_are w m o l a.stands h a.alive n low acts) one;
            stands = subst (Stands (ran_world step)) (sym (after_then ss (steps.Wait o ∷ []) m)) stands;
          }

      abbrev counted_step : words.EndStep
      counted_step = words.stays (telling (context_there w o) (end_there w o) l (waiting (waited s))) took.Waits

      abbrev ended_step' : words.EndStep
      ended_step' = ends_after (context_there w o) (end_there w o) l (waited s) status.RnrExceeded

      -- waits have no limit
      endless : f.rnr ≡ 7 → Reached counted_step
      unfolding wait
      endless e =
          let x = heard w m o l a.stands h a.alive up low' within' acts' in
          by_wait counted_step (wait_named o).0 (wait_named o).1 (subst (Stands (ran_world counted_step)) (sym (ap (λ b. if b then m' else if (machine.end_of m' o).waits == (machine.end_of m' o).rnr then making.ended_with m' o status.RnrExceeded else machine.in_end m' o making.waited) (ap (λ z. z.rnr == 7) end_is ∙ same_eq f.rnr 7 e)))
          (knows_stands w m o l a.stands h a.alive up low' within' acts' (waiting (waited s)) count (waits_on count (λ ne. absurd (ne e))) m' x.learned (took_answer took.Waits [])))

      limited : f.rnr ≢ 7 → (u : Bool) → (count == f.rnr) ≡ u → wait m' o ≡ (if u then making.ended_with m' o status.RnrExceeded else machine.in_end m' o making.waited)
      unfolding wait
      limited ne u t =
          ap (λ b. if b then m' else if (machine.end_of m' o).waits == (machine.end_of m' o).rnr then making.ended_with m' o status.RnrExceeded else machine.in_end m' o making.waited) (ap (λ z. z.rnr == 7) end_is ∙ other_eq f.rnr 7 ne)
          ∙ ap (λ b. if b then making.ended_with m' o status.RnrExceeded else machine.in_end m' o making.waited) (ap (λ z. z.waits == z.rnr) end_is ∙ t)

      -- the last wait
      last : f.rnr ≢ 7 → (count == f.rnr) ≡ true → Reached ended_step'
      last ne t =
          let x = heard w m o l a.stands h a.alive up low' within' acts' in
          subst Reached (sym (ends_same (context_there w o) (end_there w o) l s))
          (by_wait (ends_after (context_there w o) (end_there w o) l s status.RnrExceeded) (last_named o).0 (last_named o).1 (subst (Stands (ran_world (ends_after (context_there w o) (end_there w o) l s status.RnrExceeded))) (sym (limited ne true t))
          (knows_ends w m o l a.stands h a.alive up low' within' acts' s count v m' x.learned status.RnrExceeded (took_answer (took.Ended status.RnrExceeded) []))))

      -- another wait
      another : f.rnr ≢ 7 → (count == f.rnr) ≡ false → Reached counted_step
      unfolding making.waited
      another ne t =
          let x = heard w m o l a.stands h a.alive up low' within' acts' in
          let g : End = end_then w m o l a.stands h a.alive up low' within' acts' in
          let stays : Stays m' o = learned_stays m m' o g _ x.learned (name_here w m o l a.stands h) refl (stays_here w m o l a.stands h) in
          let one : Learned m' (machine.in_end m' o making.waited) o (making.waited g) [] = subst (λ z. Learned m' (machine.in_end m' o making.waited) o (making.waited z) []) end_is (learned_waited m' o stays) in
          let both : Learned m (machine.in_end m' o making.waited) o (making.waited g) (entries_by f (learn w m o l a.stands h a.alive up low' within' acts').count) =
          subst (Learned m (machine.in_end m' o making.waited) o (making.waited g)) (append-nil _) (learned_then m m' (machine.in_end m' o making.waited) o g (making.waited g) _ [] (stays_here w m o l a.stands h) x.learned one (name_here w m o l a.stands h) refl) in
          let more : count ≢ f.rnr = eq_other count f.rnr t in
          by_wait counted_step (wait_named o).0 (wait_named o).1 (subst (Stands (ran_world counted_step)) (sym (limited ne false t))
          (knows_stands w m o l a.stands h a.alive up low' within' acts' (waiting (waited s)) (suc count) (waits_on (suc count) (λ k. (omega (arith, (v.waits k).0, (v.waits k).1, rnr_small), omega (arith, (v.waits k).1, more))))
          (machine.in_end m' o making.waited) both (took_answer took.Waits [])))

      again : Reached (waits_again (context_there w o) (end_there w o) l (waited s))
      unfolding waits_again
      again = by_rnr (f.rnr == 7) refl
        where
          step_of : Bool → words.EndStep
          step_of b = if b then ended_step' else counted_step

          test : Bool
          test = not (l.terms.rnr == 7) && (min 255 (s.waits + 1) == l.terms.rnr + 1)

          pick : (b : Bool) → test ≡ b → Reached (step_of b) → Reached (step_of test)
          pick b e x = subst (λ z. Reached (step_of z)) (sym e) x

          no_seven : f.rnr ≢ 7 → (l.terms.rnr == 7) ≡ false
          no_seven ne = other_eq l.terms.rnr 7 (λ e. ne (sym rnr_is ∙ e))

          by_last : f.rnr ≢ 7 → (u : Bool) → (count == f.rnr) ≡ u → Reached (step_of test)
          by_last ne true t =
              let equal : min 255 (s.waits + 1) ≡ l.terms.rnr + 1 = omega (arith, (v.waits ne).0, eq_same count f.rnr t, rnr_is, rnr_small) in
              pick true (ap (λ b. not b && (min 255 (s.waits + 1) == l.terms.rnr + 1)) (no_seven ne) ∙ same_eq (min 255 (s.waits + 1)) (l.terms.rnr + 1) equal) (last ne t)
          by_last ne false t =
              let differ : min 255 (s.waits + 1) ≢ l.terms.rnr + 1 = λ e. eq_other count f.rnr t (omega (arith, e, (v.waits ne).0, (v.waits ne).1, rnr_is, rnr_small)) in
              pick false (ap (λ b. not b && (min 255 (s.waits + 1) == l.terms.rnr + 1)) (no_seven ne) ∙ other_eq (min 255 (s.waits + 1)) (l.terms.rnr + 1) differ) (another ne t)

          by_rnr : (b : Bool) → (f.rnr == 7) ≡ b → Reached (step_of test)
          by_rnr true t = pick false (ap (λ b. not b && (min 255 (s.waits + 1) == l.terms.rnr + 1)) (same_eq l.terms.rnr 7 (rnr_is ∙ eq_same f.rnr 7 t))) (endless (eq_same f.rnr 7 t))
          by_rnr false t = let ne : f.rnr ≢ 7 = eq_other f.rnr 7 t in by_last ne (count == f.rnr) refl

    una_is' : s.una ≡ up
    una_is' = (advanced_knows w m o l a.stands h a.alive up low' within' acts').una

    -- it speaks of a later number: an ACK of those before it
    moved : (b : Bool) → Reached (if b then words.stays (telling (context_there w o) (end_there w o) l s) took.Acked else useless (context_there w o))
    moved true = learned_taken w m o l a.stands h a.alive n low acts Allowed Named took.Acked (then_none m o _ (steps.Wait o) _ (tells_up w m o l a.stands h a.alive n low acts)) (acked_named m o _ _ (heard_are w m o l a.stands h a.alive n low acts))
    moved false = nothing

    waits : (t : Bool) → (s.una == n) ≡ t → Reached (if t then waits_again (context_there w o) (end_there w o) l (waited s) else moved_or_useless l s (context_there w o) (telling (context_there w o) (end_there w o) l s))
    waits false t = moved (nat_lt l.sender.una s.una)
    waits true t = again (sym una_is' ∙ eq_same s.una n t)

  by_timer : (q : Bool) → l.sender.una ≤ n → n < l.sender.top → Reached (if q then useless (context_there w o) else takes_rnr (context_there w o) (end_there w o) l (acknowledged l n) n)
  unfolding takes_rnr
  by_timer true low top = nothing
  by_timer false low top = waits low top ((acknowledged l n).una == n) refl

  by_range : (p q : Bool) → nat_le l.sender.una n ≡ p → nat_lt n l.sender.top ≡ q → Reached (if p && q then (if l.sender.rnr_wait then useless (context_there w o) else takes_rnr (context_there w o) (end_there w o) l (acknowledged l n) n) else useless (context_there w o))
  by_range true true t u = by_timer l.sender.rnr_wait (grind (arith, nat_tests, leb_tells l.sender.una n, t)) (grind (arith, nat_tests, leb_tells (suc n) l.sender.top, u))
  by_range true false t u = nothing
  by_range false q t u = nothing

by_number : (w : World) (m : Machine) (o : ObjName) (l : Link) (number : Option ℕ) (bytes : List ℕ) (d : Packet) (h : Aeth) → Arrives w m o l number bytes d → class_of d ≡ IsReceiverNotReady → IsAcknowledge d IsReceiverNotReady h →
    ClassFact (side_of w o) (side_of w (machine.end_of m o).peer) (requests_of (machine.end_of m o)) (requests_of (machine.end_of m (machine.end_of m o).peer)) number d → Takes w m o l number d
by_number w m o l None bytes d h a is k fact = absurd (subst (MoveFact (side_of w (machine.end_of m o).peer)) is fact)
by_number w m o l (Some n) bytes d h a is k fact =
    let says = subst (NumberedFact (side_of w o) (side_of w (machine.end_of m o).peer) (requests_of (machine.end_of m o)) (requests_of (machine.end_of m (machine.end_of m o).peer)) n d) is fact in
    taken_takes w m o l n d IsReceiverNotReady _ is
    (answered w m o l n bytes d a says.0 (acts w m o l n bytes d a says.1) (answer_response d IsReceiverNotReady h k) IsReceiverNotReady h not_ready_good k
    ∙ ap (λ z. if nat_le l.sender.una n && nat_lt n l.sender.top then z else useless (context_there w o)) (row_is (context_there w o) (end_there w o) l n h.syndrome h.msn k.says))
    (by_range w m o l n bytes d a says.1 (nat_le l.sender.una n) (nat_lt n l.sender.top) refl refl)

pub not_ready_taken : ReceiverNotReadyIsTaken
not_ready_taken w m o l number bytes d a is = let found = acknowledge d IsReceiverNotReady not_ready_good is in by_number w m o l number bytes d found.0 a is found.1 a.fact.fact
