-- What contexts of one device are to each other.
use Rattle.std.proofs.Common.{arith, ◌≡◌, ℕ, refl}
use Rattle.std.specs.Prelude.{Contains}
use Rattle.rdma_types.specs.declared.names.Name.{Name}
use Rattle.page_pool.specs.Pool.{Pool, IsIn, bytes_of}
use Rattle.protocol.specs.Memory.{pages_of_context, pages_of_request, region_of_key}
use Rattle.context_core.specs.Context.{Holding, IsContext, context_in, lists_of, no_holding}
use Rattle.context_core.proofs.PoolAgreement.{context-same, holding-same, list-lives}

pub same : (old new : Pool) (h : Holding) (n : Name) → ((list : ℕ) → Contains (lists_of h) list → bytes_of new list ≡ bytes_of old list) → context_in new n h ≡ context_in old n h
same old new h n eq = context-same old new h n eq

pub stays : (old new : Pool) (h : Holding) → ((list : ℕ) → Contains (lists_of h) list → bytes_of new list ≡ bytes_of old list) → IsContext old h → IsContext new h
stays old new h eq is = record { is = holding-same old new h _ eq is.is }

pub lives : (pool : Pool) (h : Holding) (list : ℕ) → IsContext pool h → Contains (lists_of h) list → IsIn pool list
lives pool h list is there = list-lives pool h _ list is.is there

pub name : (pool : Pool) (h : Holding) (n : Name) → (context_in pool n h).name ≡ n
unfolding context_in
name pool h n = refl

pub pages : (pool : Pool) (h : Holding) (n other : Name) → pages_of_context (context_in pool n h) ≡ pages_of_context (context_in pool other h)
unfolding context_in pages_of_context pages_of_request region_of_key
pages pool h n other = refl

pub regions : (pool : Pool) (h : Holding) (n other : Name) → (context_in pool n h).regions ≡ (context_in pool other h).regions
unfolding context_in
regions pool h n other = refl

pub ends : (pool : Pool) (h : Holding) (n other : Name) → (context_in pool n h).ends ≡ (context_in pool other h).ends
unfolding context_in
ends pool h n other = refl

pub nothing : (list : ℕ) → Contains (lists_of no_holding) list → ⊥
unfolding lists_of
nothing list there = absurd (omega (arith, there.1))

pub no-pages : (pool : Pool) (n : Name) → pages_of_context (context_in pool n no_holding) ≡ 0
unfolding context_in pages_of_context
no-pages pool n = refl
