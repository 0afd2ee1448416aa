-- The protocol finds regions by their local keys, and puts the same bytes into them as the machine.
use Rattle.std.proofs.Common.{arith, ◌≡◌, ℕ, suc, List, [], ◌∷◌, length, true, false, Bool, refl, ap, ◌∙◌}
use Rattle.std.specs.Prelude.{if◌then◌else◌, ◌==◌, ◌&&◌, ◌||◌, All}
use Rattle.std.proofs.lemmas.Bool.Decides.{nat_tests, eqb_tells}
use Rattle.std.proofs.lemmas.List.Elements.{All-head, All-tail}
use Rattle.rdma_types.specs.Lists.{at, has, store}
use Rattle.rdma_types.specs.Memory.{holds, local_key, remote_key}
use Rattle.rdma_types.specs.Objects.{Region, no_region}
use Rattle.packetless_machine.specs.Machine.{put_at}
use Rattle.law_simulation.proofs.delivery.Regions.{over}

-- the region with the local key is the first with the remote one, and is the only one
pub put_stored : (lkey a : ℕ) (new : List ℕ) (rs : List Region) → All (λ r. r.keys.remote ≡ suc r.keys.local) rs → has local_key lkey rs ≡ true → holds (at local_key no_region lkey rs) a (length new) ≡ true →
    put_at remote_key (suc lkey) a new rs ≡ store local_key lkey (over (at local_key no_region lkey rs) a new) rs
unfolding put_at at has store
put_stored lkey a new [] keyed there held = absurd (cc)
put_stored lkey a new (r ∷ rs) keyed there held = by_test (r.keys.local == lkey) refl there held (put_stored lkey a new rs (All-tail (λ z. z.keys.remote ≡ suc z.keys.local) r rs keyed))
  where
    paired : r.keys.remote ≡ suc r.keys.local
    paired = All-head (λ z. z.keys.remote ≡ suc z.keys.local) r rs keyed

    by_test : (b : Bool) → (r.keys.local == lkey) ≡ b → (b || has local_key lkey rs) ≡ true → holds (if b then r else at local_key no_region lkey rs) a (length new) ≡ true →
        (has local_key lkey rs ≡ true → holds (at local_key no_region lkey rs) a (length new) ≡ true → put_at remote_key (suc lkey) a new rs ≡ store local_key lkey (over (at local_key no_region lkey rs) a new) rs) →
        put_at remote_key (suc lkey) a new (r ∷ rs) ≡ (if b then over (if b then r else at local_key no_region lkey rs) a new ∷ rs else r ∷ store local_key lkey (over (if b then r else at local_key no_region lkey rs) a new) rs)
    by_test true t there' held' later = ap (λ b. if b then over r a new ∷ rs else r ∷ put_at remote_key (suc lkey) a new rs) (both (r.keys.remote == suc lkey) (holds r a (length new)) (grind (arith, nat_tests, eqb_tells r.keys.local lkey, t, paired)) held')
      where
        both : (p q : Bool) → p ≡ true → q ≡ true → (p && q) ≡ true
        both p q h k = rw (h, k) refl
    by_test false t there' held' later = ap (λ b. if b then over r a new ∷ rs else r ∷ put_at remote_key (suc lkey) a new rs) (other (r.keys.remote == suc lkey) (holds r a (length new)) (grind (arith, nat_tests, eqb_tells r.keys.local lkey, t, paired))) ∙ ap (λ z. r ∷ z) (later there' held')
      where
        other : (p q : Bool) → p ≡ false → (p && q) ≡ false
        other p q h = rw h refl
