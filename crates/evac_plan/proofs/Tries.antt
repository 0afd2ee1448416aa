-- A loop over the targets of a context.
use Rattle.std.proofs.Common.{arith, ◌≡◌, ◌≤◌, ℕ, ◌+◌, suc, zero, List, [], ◌∷◌, length, drop, true, false, Bool, refl, sym, ap, ◌∙◌, subst, Some, None, slice_get, add-one}
use Rattle.rdma_types.specs.declared.names.Name.{Name}
use Rattle.protocol.specs.State.{World}
use Rattle.evac_rules.specs.Evacuation.{Evacuation, Tried, doing, restore, takes, tries}
use Rattle.law_moves.proofs.Leading.{Leads, leads_itself, leads_on, step_leads, tries_lead}
use Rattle.evac_plan.specs.Steps.{IsCut, Shows}
use Rattle.evac_plan.proofs.Cuts.{cut_after, cut_here}
use Rattle.evac_plan.proofs.Shown.{shows_same}

-- the first of the rest
pub drop_at : {A : Type 0} (xs : List A) (i : ℕ) (x : A) → slice_get xs i ≡ Some x → drop i xs ≡ x ∷ drop (suc i) xs
drop_at [] i x h = absurd (cc)
drop_at (y ∷ xs) zero x h = ap (λ z. z ∷ xs) (first y x h)
  where
    first : {A : Type 0} (a b : A) → Some a ≡ Some b → a ≡ b
    first a b e = cc
drop_at (y ∷ xs) (suc i) x h = drop_at xs i x h

pub drop_all : {A : Type 0} (xs : List A) (i : ℕ) → length xs ≤ i → drop i xs ≡ []
drop_all [] zero h = refl
drop_all [] (suc i) h = refl
drop_all (x ∷ xs) zero h = absurd (omega arith)
drop_all (x ∷ xs) (suc i) h = drop_all xs i (omega arith)

tries_on : (s : Evacuation) (n : Name) (t : ℕ) (ts : List ℕ) → takes s.world n t ≡ false → tries s n (t ∷ ts) ≡ tries (doing s (restore n t)) n ts
unfolding tries
tries_on s n t ts is = ap (λ b. elim b as (λ x. Tried) [ true ↦ record { state = doing s (restore n t); target = Some t } | false ↦ tries (doing s (restore n t)) n ts ]) is

tries_done : (s : Evacuation) (n : Name) (t : ℕ) (ts : List ℕ) → takes s.world n t ≡ true → tries s n (t ∷ ts) ≡ record { state = doing s (restore n t); target = Some t }
unfolding tries
tries_done s n t ts is = ap (λ b. elim b as (λ x. Tried) [ true ↦ record { state = doing s (restore n t); target = Some t } | false ↦ tries (doing s (restore n t)) n ts ]) is

tries_none : (s : Evacuation) (n : Name) → tries s n [] ≡ record { state = s; target = None }
unfolding tries
tries_none s n = refl

-- the first i targets refused it
pub record IsTrying (s : Evacuation) (n : Name) (ts : List ℕ) (i : ℕ) (w : World) : Type 0 where
  pub now : Evacuation
  pub shows : Shows w now
  pub same : tries s n ts ≡ tries now n (drop i ts)
  pub leads : Leads s now

pub begins : (s : Evacuation) (n : Name) (ts : List ℕ) (w : World) → Shows w s → IsTrying s n ts 0 w
begins s n ts w shows = record { now = s; shows = shows; same = refl; leads = leads_itself s }

-- what a try says
abbrev pub Tries : World → World → Name → ℕ → Bool → Type 0
Tries w new n t b = (z : Evacuation) → Shows w z → (b ≡ takes z.world n t) × Shows new (doing z (restore n t))

module _ (s : Evacuation) (n : Name) (ts : List ℕ) (i : ℕ) (w new : World) (x : IsTrying s n ts i w) where
  module _ (t : ℕ) (at : slice_get ts i ≡ Some t) (b : Bool) (tried : Tries w new n t b) where
    next : tries s n ts ≡ tries x.now n (t ∷ drop (suc i) ts)
    next = x.same ∙ ap (tries x.now n) (drop_at ts i t at)

    pub goes_on : b ≡ false → IsTrying s n ts (i + 1) new
    goes_on is = record {
      now = doing x.now (restore n t);
      shows = (tried x.now x.shows).1;
      same = next ∙ (tries_on x.now n t (drop (suc i) ts) (sym (tried x.now x.shows).0 ∙ is) ∙ ap (λ k. tries (doing x.now (restore n t)) n (drop k ts)) (sym (add-one i)));
      leads = leads_on s x.now (doing x.now (restore n t)) x.leads (step_leads x.now (restore n t) tt);
    }

    pub is_found : b ≡ true → (Some t ≡ (tries s n ts).target) × Shows new (tries s n ts).state
    is_found is =
        let done : tries s n ts ≡ record { state = doing x.now (restore n t); target = Some t } = next ∙ tries_done x.now n t (drop (suc i) ts) (sym (tried x.now x.shows).0 ∙ is) in
        (sym (ap (λ (z : Tried). z.target) done), subst (λ (z : Tried). Shows new z.state) (sym done) (tried x.now x.shows).1)

  pub is_untaken : length ts ≤ i → (None ≡ (tries s n ts).target) × Shows w (tries s n ts).state
  is_untaken past =
      let done : tries s n ts ≡ record { state = x.now; target = None } = x.same ∙ (ap (tries x.now n) (drop_all ts i past) ∙ tries_none x.now n) in
      (sym (ap (λ (z : Tried). z.target) done), subst (λ (z : Tried). Shows w z.state) (sym done) x.shows)

  pub is_cut : new ≡ w → IsCut s (tries s n ts).state new
  is_cut same = subst (λ (z : Tried). IsCut s z.state new) (sym x.same)
      (cut_after s x.now (tries x.now n (drop i ts)).state new x.leads (cut_here x.now (tries x.now n (drop i ts)).state new (shows_same w new x.now same x.shows) (tries_lead x.now n (drop i ts))))
