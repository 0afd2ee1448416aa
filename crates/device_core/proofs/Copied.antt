-- A device of equal parts.
use Rattle.std.proofs.Common.{◌≡◌, ℕ, List, ap, sym, subst, ◌∙◌}
use Rattle.std.specs.Prelude.{nat_eq}
use Rattle.std.specs.Map.{lookup}
use Rattle.rdma_types.specs.declared.names.Name.{Name}
use Rattle.rdma_types.specs.declared.requests.Address.{Address}
use Rattle.page_pool.specs.Pool.{Pool}
use Rattle.context_core.specs.Context.{Holding}
use Rattle.device_core.specs.Held.{IsHeld}
use Rattle.device_core.specs.Parts.{device_of}
use Rattle.device_core.specs.declared.husks.HuskEntry.{HuskEntry}
use Rattle.device_core.specs.declared.index.EndLocation.{EndLocation}

module _ (id : ℕ) (address : Address) (qp key : ℕ) (pool pool' : Pool) (cs cs' : List (Name × Holding)) (hs hs' : List (Name × List HuskEntry)) (same_pool : pool' ≡ pool) (same_contexts : cs' ≡ cs) (same_husks : hs' ≡ hs) where
  -- equal parts are an equal device
  pub device-copied : device_of id address qp key pool' cs' hs' ≡ device_of id address qp key pool cs hs
  device-copied =
      ap (λ p. device_of id address qp key p cs' hs') same_pool
      ∙ (ap (λ x. device_of id address qp key pool x hs') same_contexts
      ∙ ap (λ x. device_of id address qp key pool cs x) same_husks)

  -- .. and keep what a device keeps
  pub held-copied : (es es' : List (ℕ × EndLocation)) → es' ≡ es → IsHeld pool cs (λ k. lookup (nat_eq k) es) (device_of id address qp key pool cs hs) → IsHeld pool' cs' (λ k. lookup (nat_eq k) es') (device_of id address qp key pool' cs' hs')
  held-copied es es' same_index held =
      let index = subst (λ x. IsHeld pool cs (λ k. lookup (nat_eq k) x) (device_of id address qp key pool cs hs)) (sym same_index) held in
      let pages = subst (λ x. IsHeld x cs (λ k. lookup (nat_eq k) es') (device_of id address qp key x cs hs)) (sym same_pool) index in
      let contexts = subst (λ x. IsHeld pool' x (λ k. lookup (nat_eq k) es') (device_of id address qp key pool' x hs)) (sym same_contexts) pages in
      subst (λ x. IsHeld pool' cs' (λ k. lookup (nat_eq k) es') (device_of id address qp key pool' cs' x)) (sym same_husks) contexts
