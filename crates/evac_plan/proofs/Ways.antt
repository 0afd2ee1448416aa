-- A loop over the contexts of a device.
use Rattle.std.proofs.Common.{◌≡◌, ◌≤◌, ℕ, ◌+◌, suc, List, [], ◌∷◌, ◌++◌, length, drop, refl, sym, ap, ◌∙◌, subst, Option, Some, None, slice_get, add-one}
use Rattle.rdma_types.specs.declared.names.Name.{Name}
use Rattle.protocol.specs.State.{World}
use Rattle.evac_rules.specs.declared.moves.Shifted.{Shifted}
use Rattle.evac_rules.specs.declared.moves.StayReason.{StayReason}
use Rattle.evac_rules.specs.Evacuation.{Evacuation, Fault, Stays, moves, moving}
use Rattle.law_moves.proofs.Leading.{Leads, leads_itself, leads_on, moves_leads, moving_leads}
use Rattle.evac_plan.specs.declared.moving.Place.{Place}
use Rattle.evac_plan.specs.declared.moving.Place.TheVariants as place
use Rattle.evac_plan.specs.Steps.{Becomes, Ends, IsCut, IsFresh, Shows}
use Rattle.evac_plan.proofs.Cuts.{cut_after, cut_before, cut_here}
use Rattle.evac_plan.proofs.Tries.{drop_all, drop_at}

moving_next : (s : Evacuation) (from : ℕ) (targets : List ℕ) (n : Name) (ns : List Name) → (moves s from targets n).fault ≡ None → moving s from targets (n ∷ ns) ≡ moving (moves s from targets n) from targets ns
unfolding moving
moving_next s from targets n ns is = ap (λ o. elim o as (λ x. Evacuation) [ None ↦ moving (moves s from targets n) from targets ns | Some f ↦ moves s from targets n ]) is

moving_stays : (s : Evacuation) (from : ℕ) (targets : List ℕ) (n : Name) (ns : List Name) (f : Fault) → (moves s from targets n).fault ≡ Some f → moving s from targets (n ∷ ns) ≡ moves s from targets n
unfolding moving
moving_stays s from targets n ns f is = ap (λ o. elim o as (λ x. Evacuation) [ None ↦ moving (moves s from targets n) from targets ns | Some g ↦ moves s from targets n ]) is

moving_none : (s : Evacuation) (from : ℕ) (targets : List ℕ) → moving s from targets [] ≡ s
unfolding moving
moving_none s from targets = refl

first_leads : (s : Evacuation) (from : ℕ) (targets : List ℕ) (n : Name) (ns : List Name) → Leads (moves s from targets n) (moving s from targets (n ∷ ns))
unfolding moving
first_leads s from targets n ns = by (moves s from targets n).fault
  where
    by : (o : Option Fault) → Leads (moves s from targets n) (elim o as (λ x. Evacuation) [ None ↦ moving (moves s from targets n) from targets ns | Some f ↦ moves s from targets n ])
    by None = moving_leads (moves s from targets n) from targets ns
    by (Some f) = leads_itself (moves s from targets n)

-- the first i contexts moved
pub record IsOnWay (s : Evacuation) (from : ℕ) (targets : List ℕ) (ns : List Name) (i : ℕ) (w : World) (told : List Shifted) : Type 0 where
  pub now : Evacuation
  pub shows : Shows w now
  pub same : moving s from targets ns ≡ moving now from targets (drop i ns)
  pub leads : Leads s now
  pub moved : told ≡ now.moved
  pub fault : now.fault ≡ None

pub way_begins : (s : Evacuation) (from : ℕ) (targets : List ℕ) (ns : List Name) (w : World) (told : List Shifted) → Shows w s → IsFresh s → told ≡ [] → IsOnWay s from targets ns 0 w told
way_begins s from targets ns w told shows fresh none = record { now = s; shows = shows; same = refl; leads = leads_itself s; moved = none ∙ sym fresh.moved; fault = fresh.fault }

pub way_told : (s : Evacuation) (from : ℕ) (targets : List ℕ) (ns : List Name) (i : ℕ) (w : World) (told more : List Shifted) → more ≡ told → IsOnWay s from targets ns i w told → IsOnWay s from targets ns i w more
way_told s from targets ns i w told more is x = record { now = x.now; shows = x.shows; same = x.same; leads = x.leads; moved = is ∙ x.moved; fault = x.fault }

-- what is said of the next one
abbrev pub Moves : World → World → ℕ → List ℕ → Name → Place → Type 0
Moves w new from targets n p = (z : Evacuation) → Shows w z → Shows new (moves z from targets n) × Becomes p n z (moves z from targets n)

module _ (s : Evacuation) (from : ℕ) (targets : List ℕ) (ns : List Name) (i : ℕ) (w : World) (told : List Shifted) (x : IsOnWay s from targets ns i w told) where
  module _ (n : Name) (at : slice_get ns i ≡ Some n) (new : World) where
    next : moving s from targets ns ≡ moving x.now from targets (n ∷ drop (suc i) ns)
    next = x.same ∙ ap (moving x.now from targets) (drop_at ns i n at)

    abbrev later : Evacuation
    later = moves x.now from targets n

    pub way_on : (t : ℕ) (more : List Shifted) → Moves w new from targets n (place.On t) → more ≡ told ++ record { context = n; target = t } ∷ [] → IsOnWay s from targets ns (i + 1) new more
    way_on t more moves_it is =
        let h = moves_it x.now x.shows in
        let none : later.fault ≡ None = h.1.1 ∙ x.fault in
        record {
          now = later;
          shows = h.0;
          same = next ∙ (moving_next x.now from targets n (drop (suc i) ns) none ∙ ap (λ k. moving later from targets (drop k ns)) (sym (add-one i)));
          leads = leads_on s x.now later x.leads (moves_leads x.now from targets n);
          moved = is ∙ (ap (λ ms. ms ++ record { context = n; target = t } ∷ []) x.moved ∙ sym h.1.0);
          fault = none;
        }

    pub way_stays : (y : StayReason) → Moves w new from targets n (place.Stays y) → Ends (moving s from targets ns) told (Some (Stays n y)) new
    way_stays y moves_it =
        let h = moves_it x.now x.shows in
        let is : moving s from targets ns ≡ later = next ∙ moving_stays x.now from targets n (drop (suc i) ns) (Stays n y) h.1.1 in
        subst (λ z. Ends z told (Some (Stays n y)) new) (sym is) (record { moved = x.moved ∙ sym h.1.0; fault = h.1.1; world = h.0.world })

    pub way_cut : ((z : Evacuation) → Shows w z → IsCut z (moves z from targets n) new) → IsCut s (moving s from targets ns) new
    way_cut cut = subst (λ z. IsCut s z new) (sym next)
        (cut_after s x.now (moving x.now from targets (n ∷ drop (suc i) ns)) new x.leads
        (cut_before x.now later (moving x.now from targets (n ∷ drop (suc i) ns)) new (cut x.now x.shows) (first_leads x.now from targets n (drop (suc i) ns))))

  pub way_ends : length ns ≤ i → Ends (moving s from targets ns) told None w
  way_ends past =
      let is : moving s from targets ns ≡ x.now = x.same ∙ (ap (moving x.now from targets) (drop_all ns i past) ∙ moving_none x.now from targets) in
      subst (λ z. Ends z told None w) (sym is) (record { moved = x.moved; fault = x.fault; world = x.shows.world })

  pub way_same : IsCut s (moving s from targets ns) w
  way_same = subst (λ z. IsCut s z w) (sym x.same)
      (cut_after s x.now (moving x.now from targets (drop i ns)) w x.leads (cut_here x.now (moving x.now from targets (drop i ns)) w x.shows (moving_leads x.now from targets (drop i ns))))
