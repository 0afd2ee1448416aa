-- A whole evacuation, and what the laws say of it.
use Rattle.std.proofs.Common.{◌≡◌, ℕ, List, [], ◌∷◌, ◌++◌, true, false, Bool, refl, sym, ap, ◌∙◌, subst, Option, Some, None, append-nil}
use Rattle.std.specs.Prelude.{All, IfErr, IfOk, Result, Ok, Err}
use Rattle.std.proofs.lemmas.List.Elements.{All-cons, All-head, All-nil, All-tail}
use Rattle.rdma_types.specs.declared.names.Name.{Name}
use Rattle.rdma_types.specs.Lists.{has_word}
use Rattle.protocol.specs.declared.events.WorldEvent.{WorldEvent}
use Rattle.protocol.specs.Script.{Happening, Event, Dump, Settles, happens}
use Rattle.protocol.specs.State.{World}
use Rattle.protocol.specs.WorldStep.{world_after}
use Rattle.packetless_machine.specs.Legal.{after}
use Rattle.packetless_machine.specs.Machine.{Machine}
use Rattle.law_simulation.specs.Stands.{Stands, names_of}
use Rattle.law_simulation.specs.Views.{contexts_of}
use Rattle.law_kept_datagrams.specs.Alike.{with_kept_datagrams}
use Rattle.law_settling.specs.Settling.{IsSettling, SettlingFollows, SettlingHasEvents}
use Rattle.law_headline.specs.Follows.{FollowsAll, line_steps}
use Rattle.law_headline.specs.Script.{world_left}
use Rattle.evac_rules.specs.declared.moves.Shifted.{Shifted}
use Rattle.evac_rules.specs.declared.moves.StayReason.{StayReason}
use Rattle.evac_rules.specs.declared.moves.StayReason.TheVariants as why
use Rattle.evac_rules.specs.Evacuation.{AreTargets, Evacuation, Fault, NoSuch, Stays, are_devices, begun, doing, emptying, evacuation, failed, moving, names_on}
use Rattle.law_moves.specs.Evacuated.{DevicesAreEmptied, DevicesKeepTheRest, EvacuationsAreFollowed, IsEvacuated, IsLeftWith, IsSomewhere, NothingIsLost, StaysBy}
use Rattle.law_moves.proofs.Leading.{Leads, evacuation_leads, moving_leads, step_leads}
use Rattle.evac_plan.specs.declared.fault.EvacFault.{EvacFault}
use Rattle.evac_plan.specs.declared.fault.EvacFault.TheVariants as fault
use Rattle.evac_plan.specs.Answers.{IsFault, IsFaultOf, IsFollowed, IsKept}
use Rattle.evac_plan.specs.Steps.{AreUnderWay, Ends, IsCut, IsFresh, Shows}
use Rattle.evac_plan.proofs.Cuts.{cut_after, cut_before, cut_here}

-- ---- the beginning

pub are_none : (w : World) (from : ℕ) (targets : List ℕ) → are_devices w (from ∷ targets) ≡ false → evacuation w from targets ≡ failed (begun w) NoSuch
unfolding evacuation
are_none w from targets is = ap (λ b. elim b as (λ z. Evacuation) [ true ↦ emptying w from targets | false ↦ failed (begun w) NoSuch ]) is

pub are_there : (w : World) (from : ℕ) (targets : List ℕ) → are_devices w (from ∷ targets) ≡ true → evacuation w from targets ≡ emptying w from targets
unfolding evacuation
are_there w from targets is = ap (λ b. elim b as (λ z. Evacuation) [ true ↦ emptying w from targets | false ↦ failed (begun w) NoSuch ]) is

-- what was asked of a world that keeps the last datagrams holds of the whole one
same_devices : (old w : World) (from : ℕ) (targets : List ℕ) (b : Bool) → old ≡ with_kept_datagrams w → are_devices old (from ∷ targets) ≡ b → are_devices w (from ∷ targets) ≡ b
same_devices old w from targets b kept is = ap (λ (z : World). are_devices z (from ∷ targets)) (sym kept) ∙ is

same_names : (old w : World) (from : ℕ) → old ≡ with_kept_datagrams w → names_on old from ≡ names_on w from
same_names old w from kept = ap (λ (z : World). names_on z from) kept

module _ (old : World) (from : ℕ) (targets : List ℕ) (w : World) (kept : old ≡ with_kept_datagrams w) where
  abbrev s : Evacuation
  s = evacuation w from targets

  abbrev s0 : Evacuation
  s0 = doing (begun w) Settles

  pub nothing_done : (new : World) → new ≡ old → IsCut (begun w) s new
  nothing_done new same = cut_here (begun w) s new (record { world = same ∙ kept }) (evacuation_leads w from targets)

  pub no_such : (new : World) → new ≡ old → are_devices old (from ∷ targets) ≡ false → Ends s [] (Some NoSuch) new
  no_such new same is =
      subst (λ z. Ends z [] (Some NoSuch) new) (sym (are_none w from targets (same_devices old w from targets false kept is)))
      (record { moved = refl; fault = refl; world = same ∙ kept })

  module _ (is : are_devices old (from ∷ targets) ≡ true) where
    begins : s ≡ moving s0 from targets (names_on w from)
    begins = are_there w from targets (same_devices old w from targets true kept is)

    pub settling_cut : (new : World) → ((z : Evacuation) → Shows old z → IsCut z (doing z Settles) new) → IsCut (begun w) s new
    settling_cut new cut = subst (λ z. IsCut (begun w) z new) (sym begins)
        (cut_before (begun w) s0 (moving s0 from targets (names_on w from)) new (cut (begun w) (record { world = kept })) (moving_leads s0 from targets (names_on w from)))

    fresh : IsFresh s0
    fresh = record { moved = refl; fault = refl }

    module _ (names : List Name) (told : names ≡ names_on old from) (mid new : World) (settled : (z : Evacuation) → Shows old z → Shows mid (doing z Settles)) where
      shows0 : Shows mid s0
      shows0 = settled (begun w) (record { world = kept })

      whole : moving s0 from targets names ≡ s
      whole = ap (moving s0 from targets) (told ∙ same_names old w from kept) ∙ sym begins

      pub all_moved : (moved : List Shifted) → ((z : Evacuation) → Shows mid z → IsFresh z → Ends (moving z from targets names) moved None new) → Ends s moved None new
      all_moved moved ends = subst (λ z. Ends z moved None new) whole (ends s0 shows0 fresh)

      by_fault : (e : EvacFault) → IsFaultOf e s0 s new → IsFault e w from targets new
      by_fault fault.NoSuch h = absurd h
      by_fault (fault.Stays moved context y) h = h
      by_fault fault.OutOfMemory h = cut_after (begun w) s0 s new (step_leads (begun w) Settles tt) h

      pub not_all_moved : (e : EvacFault) → ((z : Evacuation) → Shows mid z → IsFresh z → IsFaultOf e z (moving z from targets names) new) → IsFault e w from targets new
      not_all_moved e ends = by_fault e (subst (λ z. IsFaultOf e s0 z new) whole (ends s0 shows0 fresh))

-- ---- what the laws say

prefix_each : (es rest : List WorldEvent) → All IsSettling (es ++ rest) → All IsSettling es
prefix_each [] rest h = All-nil IsSettling
prefix_each (e ∷ es) rest h = All-cons IsSettling e es (All-head IsSettling e (es ++ rest) h) (prefix_each es rest (All-tail IsSettling e (es ++ rest) h))

under_all : SettlingHasEvents → (w : World) (es : List WorldEvent) (back : List Happening) → AreUnderWay w es back → All IsSettling es
under_all made w [] back h = All-nil IsSettling
under_all made w (e ∷ es) [] h = absurd h
under_all made w (e ∷ es) (Event x ∷ back) h = absurd h
under_all made w (e ∷ es) (Dump n ∷ back) h = absurd h
under_all made w (e ∷ es) (Settles ∷ back) h = prefix_each (e ∷ es) h.rest (subst (All IsSettling) h.are (made w).each)

prefix_follows : (w : World) (m : Machine) (prefix back : List Happening) → Stands w m → FollowsAll w m (prefix ++ back) → FollowsAll w m prefix
prefix_follows w m [] back stands h = stands
prefix_follows w m (x ∷ prefix) back stands h = (h.0, prefix_follows (happens w x).world (after m (line_steps w m x)) prefix back h.0.stands h.1)

module _ (w : World) (m : Machine) (from : ℕ) (targets : List ℕ) (stands : Stands w m) (new : World) where
  abbrev ev : Evacuation
  ev = evacuation w from targets

  reached : ev.world ≡ world_left w ev.steps
  reached = let l : Leads (begun w) ev = evacuation_leads w from targets in l.world ∙ ap (world_left w) (sym l.steps)

  module _ (follows : EvacuationsAreFollowed) (made : SettlingHasEvents) (settling : SettlingFollows) where
    ended : (moved : List Shifted) (stays : Option Fault) → Ends ev moved stays new → IsFollowed w m from targets new
    unfolding world_after
    ended moved stays e = record {
      prefix = ev.steps;
      back = [];
      splits = sym (append-nil ev.steps);
      events = [];
      under_way = tt;
      follows = follows w m from targets stands;
      goes_on = λ m' s'. settling (world_left w ev.steps) m' [] (All-nil IsSettling) s';
      left = e.world ∙ ap with_kept_datagrams reached;
    }

    cut_off : IsCut (begun w) ev new → IsFollowed w m from targets new
    cut_off c = record {
      prefix = c.prefix;
      back = c.back;
      splits = c.splits;
      events = c.events;
      under_way = c.under_way;
      follows = prefix_follows w m c.prefix c.back stands (subst (FollowsAll w m) c.splits (follows w m from targets stands));
      goes_on = λ m' s'. settling (world_left w c.prefix) m' c.events (under_all made (world_left w c.prefix) c.events c.back c.under_way) s';
      left = c.world;
    }

    fault_followed : (e : EvacFault) → IsFault e w from targets new → IsFollowed w m from targets new
    fault_followed fault.NoSuch h = ended [] (Some NoSuch) h
    fault_followed (fault.Stays moved context y) h = ended moved.items (Some (Stays context y)) h
    fault_followed fault.OutOfMemory h = cut_off h

    -- whatever the call answers
    pub call_followed : {V : Type 0} (items : V → List Shifted) (r : Result V EvacFault) → IfOk r (λ v. Ends ev (items v) None new) → IfErr r (λ e. IsFault e w from targets new) → IsFollowed w m from targets new
    call_followed items (Ok v) ok err = ended (items v) None ok
    call_followed items (Err e) ok err = fault_followed e err

  pub call_loses_nothing : NothingIsLost → SettlingHasEvents → (n : Name) → has_word n (names_of w) ≡ true → IsFollowed w m from targets new → IsSomewhere new n
  unfolding contexts_of
  call_loses_nothing lost made n there f =
      subst (λ z. IsSomewhere z n) (sym f.left) (lost w m from targets f.prefix f.back f.events n stands f.splits (under_all made (world_left w f.prefix) f.events f.back f.under_way) there)

  module _ (are : AreTargets from targets) where
    pub call_empties : DevicesAreEmptied → (moved : List Shifted) → Ends ev moved None new → IsEvacuated w from targets ev.steps new moved
    call_empties law moved e =
        let h : IsEvacuated w from targets ev.steps ev.world ev.moved = law w m from targets stands are e.fault in
        let kept : IsEvacuated w from targets ev.steps (with_kept_datagrams ev.world) ev.moved = record { emptied = h.emptied; named = h.named; targeted = h.targeted; lives = h.lives; shifted = h.shifted } in
        subst (λ z. IsEvacuated w from targets ev.steps z moved) (sym e.world) (subst (IsEvacuated w from targets ev.steps (with_kept_datagrams ev.world)) (sym e.moved) kept)

    still_stays : (n : Name) (y : StayReason) (v : World) → StaysBy y v from n → StaysBy y (with_kept_datagrams v) from n
    still_stays n why.PeerMoving v h = h
    still_stays n why.TooMany v h = h
    still_stays n why.NoTarget v h = h

    stays_with : DevicesKeepTheRest → (moved : List Shifted) (n : Name) (y : StayReason) → Ends ev moved (Some (Stays n y)) new → IsLeftWith w from targets n y ev.steps new moved
    stays_with law moved n y e =
        let h : IsLeftWith w from targets n y ev.steps ev.world ev.moved = law w m from targets n y stands are e.fault in
        let kept : IsLeftWith w from targets n y ev.steps (with_kept_datagrams ev.world) ev.moved = record { later = h.later; named = h.named; stays = still_stays n y ev.world h.stays; remain = h.remain; targeted = h.targeted; lives = h.lives; shifted = h.shifted } in
        subst (λ z. IsLeftWith w from targets n y ev.steps z moved) (sym e.world) (subst (IsLeftWith w from targets n y ev.steps (with_kept_datagrams ev.world)) (sym e.moved) kept)

    pub call_keeps : DevicesKeepTheRest → (e : EvacFault) → IsFault e w from targets new → IsKept e w from targets new
    call_keeps law fault.NoSuch h = tt
    call_keeps law (fault.Stays moved context y) h = stays_with law moved.items context y h
    call_keeps law fault.OutOfMemory h = tt
