-- A context without things.
use Rattle.std.proofs.Common.{◌≡◌, ◌+◌, refl, ap, sym, [], subst, arith}
use Rattle.std.specs.Prelude.{All, bytes_eq}
use Rattle.std.specs.List.{IsDistinct}
use Rattle.std.proofs.lemmas.List.Elements.{All-nil}
use Rattle.rdma_types.specs.declared.names.Name.{Name}
use Rattle.page_pool.specs.Pool.{Pool}
use Rattle.memory_keys.specs.Regions.{Lies}
use Rattle.protocol.specs.DeviceStep.{new_context}
use Rattle.endpoint_core.specs.Sound.{IsEnd}
use Rattle.context_core.specs.Context.{HasQueues, Holding, IsContext, IsPaged, context_in, no_holding, untold_at}
use Rattle.context_core.proofs.DisjointLists.{distinct-none}

pub empty-view : (pool : Pool) (n : Name) (h : Holding) → h ≡ no_holding → context_in pool n h ≡ new_context n
unfolding context_in
empty-view pool n h e = ap (context_in pool n) e

distinct-empty : IsDistinct bytes_eq []
unfolding IsDistinct
distinct-empty = tt

empty : (pool : Pool) → IsContext pool no_holding
empty pool = record {
  is = record {
    held = record { lie = All-nil (Lies pool); apart = distinct-none };
    keyed = record { distinct = distinct-none; pairs = All-nil (λ h. h.head.keys.remote ≡ h.head.keys.local + 1) };
    ends = All-nil (λ e. IsEnd pool [] e.1.endpoint);
    placed = All-nil (HasQueues []);
    apart = distinct-none;
    paged = All-nil (λ e. All (IsPaged pool []) (untold_at e));
    reserved = λ place. refl;
    queue_names = distinct-empty;
    end_names = distinct-empty;
    few_queues = omega arith;
  };
}

pub empty-context : (pool : Pool) (h : Holding) → h ≡ no_holding → IsContext pool h
empty-context pool h e = subst (IsContext pool) (sym e) (empty pool)
