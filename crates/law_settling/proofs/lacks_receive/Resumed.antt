-- An end sends a RESUME, and all that comes of it is drained: what that leaves of all ends.
use Rattle.std.proofs.Common.{arith, ◌≡◌, ◌≤◌, ◌+◌, ◌⊎◌, ℕ, List, [], ◌∷◌, ◌++◌, length, refl, sym, ap, ◌∙◌, subst, inl, inr}
use Rattle.std.specs.Prelude.{Contains, Some, None, slice_get}
use Rattle.std.proofs.lemmas.List.{length-append}
use Rattle.std.proofs.lemmas.Option.{slice_get_within}
use Rattle.rdma_types.specs.declared.names.ObjName.{ObjName}
use Rattle.protocol.specs.declared.events.Event.TheVariants as events
use Rattle.protocol.specs.declared.events.WorldEvent.{WorldEvent}
use Rattle.protocol.specs.declared.events.WorldEvent.TheVariants as world_events
use Rattle.protocol.specs.Fabric.{pending, pending_numbers}
use Rattle.protocol.specs.Moves.{resume_of}
use Rattle.protocol.specs.Requester.{SendsResume, transmission}
use Rattle.protocol.specs.Settle.{Settling, drained, settle_step, stepped_to, transmit}
use Rattle.protocol.specs.State.{World, End, Link, Flight}
use Rattle.protocol.specs.Wire.{Packet}
use Rattle.protocol.specs.WorldStep.{home, world_step}
use Rattle.packetless_machine.specs.Machine.{Machine}
use Rattle.packetless_machine.specs.Legal.{after}
use Rattle.law_simulation.specs.Law.{AlwaysFollows, Follows}
use Rattle.law_simulation.specs.Stands.{Stands}
use Rattle.law_simulation.proofs.relation.Grows.{object_or_not}
use Rattle.law_settling.proofs.draining.Pending.{get_append_cases, pending_listed}
use Rattle.law_settling.proofs.draining.Replies.{opcode_first}
use Rattle.law_settling.specs.Weights.{TakingLightens}
use Rattle.law_settling.proofs.bound.Lives.{at_end}
use Rattle.law_settling.proofs.sending_stops.Sending.{one_pending}
use Rattle.law_settling.proofs.lacks_receive.Kept.{IsEndKept, IsLinkMoved, IsSenderKept, Linked, end_kept_is_on, end_kept_same, end_spared_kept, end_spared_same, end_spared_sender, moved_sender, sender_on, some_link}
use Rattle.law_settling.proofs.lacks_receive.Moved.{resume_moves}
use Rattle.law_settling.proofs.lacks_receive.Answered.{IsFree}
use Rattle.law_settling.proofs.lacks_receive.Passing as passing
use Rattle.law_settling.proofs.lacks_receive.Passing.{Answers, contains_one}
use Rattle.law_settling.proofs.lacks_receive.Stepping.{resume_flight, resume_same, resume_sent}
use Rattle.law_settling.proofs.lacks_receive.Wanted.{IsWanted}
use Rattle.law_settling.proofs.lacks_receive.Noted.{HasGone}

-- no answer is on its way
abbrev Nothing : Packet → Type 0
Nothing d = ⊥

kept_moves : (l a b : Link) → IsLinkMoved a b → IsSenderKept l a → IsSenderKept l b
kept_moves l a b h q = sender_on l a b q (moved_sender a b h) (λ e. h.ended ∙ e)

no_answers : (l2 : Link) (Q : Link → Type 0) → Answers l2 Nothing Q
no_answers l2 Q c e l there here d on none response answer q = absurd answer

module _ (lightens : TakingLightens) (follows : (e : WorldEvent) → AlwaysFollows e) (s0 : Settling) (m : Machine) (o : ObjName) (l : Link) (s : Stands s0.world m) (at : (at_end s0.world o).link ≡ Some l) (row : transmission l ≡ SendsResume) (calm : pending s0.world.sent ≡ None) where
  abbrev w : World
  w = s0.world

  abbrev v1 : World
  v1 = (world_step w (transmit o)).world

  abbrev t1 : Settling
  t1 = settle_step s0 (transmit o)

  abbrev w3 : World
  w3 = (drained t1).world

  abbrev n1 : ℕ
  n1 = length w.sent

  abbrev flight : Flight
  flight = resume_flight w m o l s at

  same : (k : ObjName) → at_end v1 k ≡ at_end w k
  same k = resume_same w m o l s at row k

  sent : v1.sent ≡ w.sent ++ flight ∷ []
  sent = resume_sent w m o l s at row

  at1 : (at_end v1 o).link ≡ Some l
  at1 = ap (λ e. e.link) (same o) ∙ at

  f1 : Follows w m (world_events.At (events.Transmit o))
  f1 = follows (world_events.At (events.Transmit o)) w m tt s

  abbrev During : World → Type 0
  During z = passing.During lightens follows o v1 l at1 n1 (IsSenderKept l) Nothing (kept_moves l) (no_answers l (IsSenderKept l)) z

  abbrev IsSorted : List ℕ → Type 0
  IsSorted bs = passing.IsSorted lightens follows o v1 l at1 n1 (IsSenderKept l) Nothing (kept_moves l) (no_answers l (IsSenderKept l)) bs

  resume_sorted : IsSorted flight.bytes
  resume_sorted = inl (resume_moves flight.bytes (inl (opcode_first (resume_of l (home w o.context).address))))

  sorted : (j : ℕ) (g : Flight) → n1 ≤ j → slice_get v1.sent j ≡ Some g → IsSorted g.bytes
  sorted j g past there = elim (get_append_cases w.sent (flight ∷ []) j g (subst (λ fs. slice_get fs j ≡ Some g) sent there)) [
    | inl a ↦ absurd (omega (arith, past, slice_get_within w.sent j g a))
    | inr b ↦ subst (λ (f : Flight). IsSorted f.bytes) (sym (contains_one flight g b.1)) resume_sorted
  ]

  listed : pending_numbers v1.sent ≡ (length w.sent + 1) ∷ []
  listed = ap pending_numbers sent ∙ one_pending w.sent flight calm refl refl

  begin : During v1
  unfolding f1
  begin = record {
    machine = after m f1.steps;
    stands = f1.stands;
    others = λ k ne. end_spared_same (at_end v1 k);
    own = end_kept_same (at_end v1 o);
    link = l;
    linked = at1;
    holds = inr (inr refl);
    most = omega (arith, ap length sent, length-append w.sent (flight ∷ []));
    sorted = sorted;
    later = λ j g h. omega (arith, contains_one (length w.sent + 1) j (subst (λ ks. Contains ks j) listed (pending_listed v1.sent j g h)));
  }

  d : During w3
  unfolding settle_step stepped_to
  d = passing.drained_during lightens follows o v1 l at1 n1 (IsSenderKept l) Nothing (kept_moves l) (no_answers l (IsSenderKept l)) t1 begin

  step3 : (k : ObjName) → IsEndKept (at_end w k) (at_end w3 k)
  unfolding d
  step3 k =
      subst (λ e. IsEndKept e (at_end w3 k)) (same k)
      (elim (object_or_not k o) [
        | inl is ↦ subst (λ z. IsEndKept (at_end v1 z) (at_end w3 z)) (sym is) d.own
        | inr ne ↦ end_spared_kept (at_end v1 k) (at_end w3 k) (d.others k ne)
      ])

  own_by : (l' : Link) → IsSenderKept l l' → IsFree l' ⊎ IsWanted w3 l' ⊎ ((l'.sender ≡ l.sender) × ((k : ObjName) → IsEndKept (at_end w k) (at_end w3 k)))
  own_by l' (inl a) = inl (inl a)
  own_by l' (inr (inl a)) = inl (inr a)
  own_by l' (inr (inr a)) = inr (inr (a, step3))

  -- what a RESUME leaves
  pub resume_gone : HasGone w w3 o l
  unfolding d
  resume_gone = record {
    on = λ k. end_kept_is_on (at_end w k) (at_end w3 k) (step3 k);
    kept = λ k apart. step3 k;
    requesters = λ k ne. subst (λ (e : End). Linked IsSenderKept e.link (at_end w3 k).link) (same k) (end_spared_sender (at_end v1 k) (at_end w3 k) (d.others k ne));
    own = λ l' h. own_by l' (subst (IsSenderKept l) (some_link d.link l' (sym d.linked ∙ h)) d.holds);
  }
