-- The tries to restore a context: some targets refuse it, which changes nothing, and one may take it.
use Rattle.std.proofs.Common.{◌≡◌, ℕ, List, [], ◌∷◌, ◌++◌, map, true, false, Bool, refl, sym, ap, ◌∙◌, subst, ◌⊎◌, inl, inr, Some, None}
use Rattle.std.specs.Prelude.{Contains}
use Rattle.std.proofs.lemmas.List.{append_assoc, append-nil}
use Rattle.std.proofs.lemmas.List.Elements.{All-contains, All-contains_itself, All-head, All-tail}
use Rattle.rdma_types.specs.declared.names.Name.{Name}
use Rattle.protocol.specs.declared.images.ContextImage.{ContextImage}
use Rattle.protocol.specs.Script.{happens}
use Rattle.evac_rules.specs.Evacuation.{Evacuation, Tried, doing, restore, takes, tries}
use Rattle.law_moves.proofs.Restores.{IsCarried, IsTaken, IsTried, restore_ends}

-- what both ends of the tries keep
pub record IsSameTale (s s' : Evacuation) : Type 0 where
  pub moved : s'.moved ≡ s.moved
  pub fault : s'.fault ≡ s.fault

-- no target took it
pub record IsUntaken (s : Evacuation) (n : Name) (ts : List ℕ) (x : Tried) : Type 0 where
  pub none : x.target ≡ None
  pub world : x.state.world ≡ s.world
  pub steps : x.state.steps ≡ s.steps ++ map (restore n) ts
  pub tale : IsSameTale s x.state

-- one took it
pub record IsPlaced (s : Evacuation) (n : Name) (ts : List ℕ) (i : ContextImage) (x : Tried) : Type 0 where
  pub target : ℕ
  pub is : x.target ≡ Some target
  pub among : Contains ts target
  pub refused : List ℕ
  pub steps : x.state.steps ≡ s.steps ++ map (restore n) refused ++ restore n target ∷ []
  pub world : x.state.world ≡ (happens s.world (restore n target)).world
  pub taken : IsTaken s.world x.state.world target n i
  pub tale : IsSameTale s x.state

abbrev pub EndsTries : Evacuation → Name → List ℕ → ContextImage → Tried → Type 0
EndsTries s n ts i x = IsUntaken s n ts x ⊎ IsPlaced s n ts i x

here : (t : ℕ) (ts : List ℕ) → Contains (t ∷ ts) t
here t ts = All-head (Contains (t ∷ ts)) t ts (All-contains_itself (t ∷ ts))

later : (t : ℕ) (ts : List ℕ) (k : ℕ) → Contains ts k → Contains (t ∷ ts) k
later t ts k h = All-contains (Contains (t ∷ ts)) ts k (All-tail (Contains (t ∷ ts)) t ts (All-contains_itself (t ∷ ts))) h

-- one more target refused it before
module _ (s : Evacuation) (n : Name) (t : ℕ) (ts : List ℕ) (i : ContextImage) (same : (doing s (restore n t)).world ≡ s.world) where
  abbrev s1 : Evacuation
  s1 = doing s (restore n t)

  untaken_after : (x : Tried) → IsUntaken s1 n ts x → IsUntaken s n (t ∷ ts) x
  untaken_after x u = record {
    none = u.none;
    world = u.world ∙ same;
    steps = u.steps ∙ append_assoc s.steps (restore n t ∷ []) (map (restore n) ts);
    tale = record { moved = u.tale.moved; fault = u.tale.fault };
  }

  placed_after : (x : Tried) → IsPlaced s1 n ts i x → IsPlaced s n (t ∷ ts) i x
  placed_after x p = record {
    target = p.target;
    is = p.is;
    among = later t ts p.target p.among;
    refused = t ∷ p.refused;
    steps = p.steps ∙ ap (λ hs. hs ++ restore n p.target ∷ []) (append_assoc s.steps (restore n t ∷ []) (map (restore n) p.refused));
    world = p.world ∙ ap (λ w. (happens w (restore n p.target)).world) same;
    taken = subst (λ w. IsTaken w x.state.world p.target n i) same p.taken;
    tale = record { moved = p.tale.moved; fault = p.tale.fault };
  }

  tried_after : (x : Tried) → EndsTries s1 n ts i x → EndsTries s n (t ∷ ts) i x
  tried_after x (inl u) = inl (untaken_after x u)
  tried_after x (inr p) = inr (placed_after x p)

pub tries_end : (s : Evacuation) (n : Name) (ts : List ℕ) (i : ContextImage) → IsCarried s.world n i → EndsTries s n ts i (tries s n ts)
unfolding tries happens
tries_end s n [] i c = inl (record { none = refl; world = refl; steps = sym (append-nil s.steps); tale = record { moved = refl; fault = refl } })
tries_end s n (t ∷ ts) i c = by (takes s.world n t) (restore_ends s.world t n i c) (tries_end (doing s (restore n t)) n ts i)
  where
    by : (b : Bool) → IsTried s.world (doing s (restore n t)).world t n i b → (IsCarried (doing s (restore n t)).world n i → EndsTries (doing s (restore n t)) n ts i (tries (doing s (restore n t)) n ts)) →
        EndsTries s n (t ∷ ts) i (elim b as (λ x. Tried) [ true ↦ record { state = doing s (restore n t); target = Some t } | false ↦ tries (doing s (restore n t)) n ts ])
    by true (inl x) more = absurd (cc (x.0))
    by true (inr y) more = inr (record {
      target = t;
      is = refl;
      among = here t ts;
      refused = [];
      steps = ap (λ hs. hs ++ restore n t ∷ []) (sym (append-nil s.steps));
      world = refl;
      taken = y.1;
      tale = record { moved = refl; fault = refl };
    })
    by false (inl x) more = tried_after s n t ts i x.1 (tries (doing s (restore n t)) n ts) (more (subst (λ w. IsCarried w n i) (sym x.1) c))
    by false (inr y) more = absurd (cc (y.0))
