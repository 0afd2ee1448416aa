-- What becomes of one context.
use Rattle.std.proofs.Common.{◌≡◌, ℕ, List, [], ◌∷◌, ◌++◌, true, false, Bool, refl, sym, ap, subst, Option, Some, None}
use Rattle.rdma_types.specs.declared.names.Name.{Name}
use Rattle.protocol.specs.declared.events.WorldEvent.TheVariants as world_event
use Rattle.protocol.specs.Script.{Settles}
use Rattle.protocol.specs.State.{World}
use Rattle.protocol.specs.WorldStep.{world_step}
use Rattle.evac_rules.specs.declared.moves.StayReason.{StayReason}
use Rattle.evac_rules.specs.declared.moves.StayReason.TheVariants as why
use Rattle.evac_rules.specs.Evacuation.{Evacuation, Tried, doing, moves, placed, placed_by, release, restore, returned, stay_of, stop, stopped_by, takes, tries}
use Rattle.law_moves.proofs.Leading.{Leads, leads_as, leads_on, step_leads}
use Rattle.evac_plan.specs.declared.moving.Place.{Place}
use Rattle.evac_plan.specs.declared.moving.Place.TheVariants as place
use Rattle.evac_plan.specs.Steps.{Becomes, Shows}

-- ---- taken back

pub released_leads : (s : Evacuation) (from : ℕ) (n : Name) → Leads (doing s (release n from)) (returned s from n)
released_leads s from n =
    let a : Evacuation = doing s (release n from) in
    let b : Evacuation = doing a (restore n from) in
    leads_as a (doing b Settles) (returned s from n) refl refl (leads_on a b (doing b Settles) (step_leads a (restore n from) tt) (step_leads b Settles tt))

pub both_leads : (s : Evacuation) (from : ℕ) (n : Name) → Leads s (doing (doing s (release n from)) (restore n from))
both_leads s from n = let a : Evacuation = doing s (release n from) in leads_on s a (doing a (restore n from)) (step_leads s (release n from) tt) (step_leads a (restore n from) tt)

pub shows_returned : (s : Evacuation) (from : ℕ) (n : Name) (w : World) → Shows w (doing (doing (doing s (release n from)) (restore n from)) Settles) → Shows w (returned s from n)
shows_returned s from n w shows = record { world = shows.world }

-- ---- put

-- tries move nothing
record IsTale (s s' : Evacuation) : Type 0 where
  moved : s'.moved ≡ s.moved
  fault : s'.fault ≡ s.fault

tries_tale : (s : Evacuation) (n : Name) (ts : List ℕ) → IsTale s (tries s n ts).state
unfolding tries
tries_tale s n [] = record { moved = refl; fault = refl }
tries_tale s n (t ∷ ts) = by (takes s.world n t) (tries_tale (doing s (restore n t)) n ts)
  where
    by : (b : Bool) → IsTale (doing s (restore n t)) (tries (doing s (restore n t)) n ts).state →
        IsTale s (elim b as (λ x. Tried) [ true ↦ record { state = doing s (restore n t); target = Some t } | false ↦ tries (doing s (restore n t)) n ts ]).state
    by true later = record { moved = refl; fault = refl }
    by false later = record { moved = later.moved; fault = later.fault }

module _ (s : Evacuation) (from : ℕ) (targets : List ℕ) (n : Name) where
  abbrev x : Tried
  x = tries s n targets

  abbrev Puts : Place → World → Option ℕ → Type 0
  Puts p w o = Shows w (placed_by x.state from n o) × Becomes p n s (placed_by x.state from n o)

  pub put_some : (t : ℕ) (w : World) → x.target ≡ Some t → Shows w (doing x.state Settles) → Shows w (placed s from targets n) × Becomes (place.On t) n s (placed s from targets n)
  put_some t w is shows =
      let tale : IsTale s x.state = tries_tale s n targets in
      subst (Puts (place.On t) w) (sym is) (record { world = shows.world }, (ap (λ ms. ms ++ record { context = n; target = t } ∷ []) tale.moved, tale.fault))

  pub put_none : (w : World) → x.target ≡ None → Shows w (returned x.state from n) → Shows w (placed s from targets n) × Becomes (place.Stays why.NoTarget) n s (placed s from targets n)
  put_none w is shows =
      let tale : IsTale s x.state = tries_tale s n targets in
      subst (Puts (place.Stays why.NoTarget) w) (sym is) (shows, (tale.moved, refl))

  pub steps_some : (t : ℕ) → x.target ≡ Some t → (placed s from targets n).steps ≡ (doing x.state Settles).steps
  steps_some t is = ap (λ o. (placed_by x.state from n o).steps) is

  pub steps_none : x.target ≡ None → (placed s from targets n).steps ≡ (returned x.state from n).steps
  steps_none is = ap (λ o. (placed_by x.state from n o).steps) is

  -- ---- stopped

  abbrev s1 : Evacuation
  s1 = doing s (stop n)

  abbrev told : Option StayReason
  told = stay_of (world_step s.world (world_event.Stop n)).answer

  abbrev Shifts : Place → World → Option StayReason → Type 0
  Shifts p w o = Shows w (stopped_by s1 from targets n o) × Becomes p n s (stopped_by s1 from targets n o)

  pub shift_some : (y : StayReason) (w : World) → told ≡ Some y → Shows w s1 → Shows w (moves s from targets n) × Becomes (place.Stays y) n s (moves s from targets n)
  unfolding moves
  shift_some y w is shows = subst (Shifts (place.Stays y) w) (sym is) (record { world = shows.world }, (refl, refl))

  as_before : (p : Place) (s' : Evacuation) → Becomes p n s1 s' → Becomes p n s s'
  as_before (place.On t) s' b = b
  as_before (place.Stays y) s' b = b

  pub shift_none : (p : Place) (w : World) → told ≡ None → Shows w (placed s1 from targets n) × Becomes p n s1 (placed s1 from targets n) → Shows w (moves s from targets n) × Becomes p n s (moves s from targets n)
  unfolding moves
  shift_none p w is h = subst (Shifts p w) (sym is) (h.0, as_before p (placed s1 from targets n) h.1)

  pub steps_stopped : told ≡ None → (moves s from targets n).steps ≡ (placed s1 from targets n).steps
  unfolding moves
  steps_stopped is = ap (λ o. (stopped_by s1 from targets n o).steps) is
