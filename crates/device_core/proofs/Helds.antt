-- What a device keeps, where one of its contexts makes a step.
use Rattle.std.proofs.Common.{arith, ◌≡◌, ◌≢◌, ◌≤◌, ◌+◌, ℕ, List, map, sum, true, false, refl, sym, ap, ◌∙◌, inl, inr, subst}
use Rattle.std.specs.Prelude.{All, AllPairs, Contains, bytes_eq, ◌⊎◌, ◌||◌, Option, Some}
use Rattle.std.specs.Map.{lookup, set_value}
use Rattle.std.proofs.lemmas.List.Sums.{sum-map}
use Rattle.std.proofs.lemmas.Map.Steps.{set_value_same}
use Rattle.rdma_types.specs.declared.names.Name.{Name}
use Rattle.rdma_types.specs.declared.requests.Address.{Address}
use Rattle.rdma_types.specs.Lists.{has_name, named, store_named}
use Rattle.page_pool.specs.Pool.{Pool, free_pages}
use Rattle.protocol.specs.DeviceStep.{with_context}
use Rattle.protocol.specs.Memory as rule
use Rattle.protocol.specs.Memory.{pages_of_context}
use Rattle.protocol.specs.Refusals.{has_context}
use Rattle.protocol.specs.State.{Context, Device, Husk, context_at, no_context}
use Rattle.context_core.specs.Context.{Holding, IsContext, Moves, context_in, lists_of}
use Rattle.law_devices.specs.Sound.{IsSoundDevice}
use Rattle.law_devices.proofs.Tables.{map-store, name-named_there, name_tells, sum_by-store}
use Rattle.rdma_types.proofs.Tables.{has_name-store}
use Rattle.device_core.specs.Index.{IsIndex, numbers_of}
use Rattle.device_core.specs.declared.husks.HuskEntry.{HuskEntry}
use Rattle.device_core.specs.declared.index.EndLocation.{EndLocation}
use Rattle.device_core.specs.Held.{IsHeld, IsLeft}
use Rattle.device_core.specs.Parts.{contexts_in, device_of, husk_in}
use Rattle.device_core.proofs.Laws as laws
use Rattle.device_core.proofs.Pairs as pairs
use Rattle.device_core.proofs.Contexts.{lookup-found, lookup-there, others-keep, stored-apart, stored-each, stored-view}
use Rattle.device_core.proofs.Indexes.{index-same, same-stored}

-- ---- sums over contexts

pub sum-stored : (n : Name) (c : Context) (cs : List Context) → has_name (λ x. x.name) n cs ≡ true → sum (map pages_of_context (store_named (λ x. x.name) n c cs)) + pages_of_context (named (λ x. x.name) no_context n cs) ≡ sum (map pages_of_context cs) + pages_of_context c
sum-stored n c cs there = omega (arith, sum-map pages_of_context (store_named (λ x. x.name) n c cs), sum-map pages_of_context cs, sum_by-store pages_of_context (λ x. x.name) no_context n c cs there)

-- a context that keeps its lists and its pages has moved nothing
pub moves-plainly : (pool : Pool) (before after : Holding) → lists_of after ≡ lists_of before → ((n : Name) → pages_of_context (context_in pool n after) ≡ pages_of_context (context_in pool n before)) → Moves pool pool before after
moves-plainly pool before after lists pages = record {
  pages = refl;
  others = λ list there apart. refl;
  fresh = λ list there. inl (subst (λ ls. Contains ls list) lists there);
  free = λ n. omega (arith, pages n);
}

-- what is left in husks is left under a greater count
pub left-more : (id qp qp' : ℕ) (hs : List Husk) → qp ≤ qp' → All (λ h. All (IsLeft id qp) h.entries) hs → All (λ h. All (IsLeft id qp') h.entries) hs
left-more id qp qp' hs more all k d l j e m = let was = all k d l j e m in record { counted = λ mine. more_counted (was.counted mine); peer = was.peer; moves = was.moves }
  where
    more_counted : {a : ℕ} → a ≤ qp → a ≤ qp'
    more_counted h = omega (arith, h, more)

module _ (id : ℕ) (address : Address) (qp key : ℕ) (pool : Pool) (es : List (Name × Holding)) (husks : List (Name × List HuskEntry)) (index : ℕ → Option EndLocation) (held : IsHeld pool es index (device_of id address qp key pool es husks)) where
  abbrev before_step : Device
  before_step = device_of id address qp key pool es husks

  pub free-is : rule.free_pages (device_of id address qp key pool es husks) ≡ free_pages pool
  unfolding rule.free_pages
  free-is = omega (arith, held.counted)

  module _ (n : Name) (s : Holding) (found : lookup (bytes_eq n) es ≡ Some s) where
    pub there-is : has_context (device_of id address qp key pool es husks) n ≡ true
    there-is = lookup-there pool n es s found

    pub context-is : context_at (device_of id address qp key pool es husks) n ≡ context_in pool n s
    context-is = lookup-found pool n es s found

    pub is-context : IsContext pool s
    is-context = found_all es found held.each
      where
        found_all : (xs : List (Name × Holding)) → lookup (bytes_eq n) xs ≡ Some s → All (λ e. IsContext pool e.1) xs → IsContext pool s
        found_all xs h all = pairs.All-found (bytes_eq n) (λ e. IsContext pool e.1) (λ x. IsContext pool x) (λ e h. h) xs s all h

    module _ (pool' : Pool) (s' : Holding) (moves : Moves pool pool' s s') (qp' key' : ℕ) where
      pub view-is : device_of id address qp' key' pool' (set_value (bytes_eq n) es s') husks ≡ with_context (record (device_of id address qp key pool es husks) { qp_count = qp'; key_count = key' }) (context_in pool' n s')
      unfolding with_context
      view-is = λ i. record {
        id = id;
        address = address;
        qp_count = qp';
        key_count = key';
        contexts = (stored-view pool pool' n s s' es found (others-keep pool pool' n s s' es moves held.each held.apart found) ∙ ap (λ m. store_named (λ x. x.name) m (context_in pool' n s') (contexts_in pool es)) (sym (laws.name pool' s' n))) i;
        husks = map husk_in husks;
      }

      pub held-stored : (index' : ℕ → Option EndLocation) → qp ≤ qp' → IsContext pool' s' → IsIndex index' (device_of id address qp' key' pool' (set_value (bytes_eq n) es s') husks) → IsSoundDevice (device_of id address qp' key' pool' (set_value (bytes_eq n) es s') husks) → IsHeld pool' (set_value (bytes_eq n) es s') index' (device_of id address qp' key' pool' (set_value (bytes_eq n) es s') husks)
      held-stored index' more is indexed sound =
          let keep = others-keep pool pool' n s s' es moves held.each held.apart found in
          let stored = stored-view pool pool' n s s' es found keep in
          let there = lookup-there pool n es s found in
          let named' : (named (λ x. x.name) no_context n (contexts_in pool es)).name ≡ n = name-named_there (λ x. x.name) no_context n (contexts_in pool es) there in
          record {
            each = stored-each pool pool' n s' es held.each keep is;
            apart = stored-apart pool pool' n s s' es moves held.each held.apart found;
            counted =
                let sums : sum (map pages_of_context (contexts_in pool' (set_value (bytes_eq n) es s'))) ≡ sum (map pages_of_context (store_named (λ x. x.name) n (context_in pool' n s') (contexts_in pool es))) = ap (λ cs. sum (map pages_of_context cs)) stored in
                let old : pages_of_context (named (λ x. x.name) no_context n (contexts_in pool es)) ≡ pages_of_context (context_in pool n s) = ap pages_of_context (lookup-found pool n es s found) in
                omega (arith, held.counted, sums, old, sum-stored n (context_in pool' n s') (contexts_in pool es) there, moves.free n);
            names = subst (AllPairs (λ a b. a ≢ b)) (sym (ap (map (λ c. c.name)) stored ∙ map-store (λ c. c.name) (λ x. x.name) no_context n (context_in pool' n s') (contexts_in pool es) there (laws.name pool' s' n ∙ sym named'))) held.names;
            husk_names = held.husk_names;
            either = λ m lives. held.either m (sym (ap (has_name (λ c. c.name) m) stored ∙ (has_name-store (λ c. c.name) n m (context_in pool' n s') (contexts_in pool es) (laws.name pool' s' n) ∙ known m (name_tells n m))) ∙ lives);
            left = left-more id qp qp' (map husk_in husks) more held.left;
            indexed = indexed;
            sound = sound;
          }
        where
          known : (m : Name) → ((bytes_eq n m ≡ true) × (n ≡ m)) ⊎ ((bytes_eq n m ≡ false) × (n ≢ m)) → (bytes_eq n m || has_name (λ c. c.name) m (contexts_in pool es)) ≡ has_name (λ c. c.name) m (contexts_in pool es)
          known m (inl t) = ap (λ b. b || has_name (λ c. c.name) m (contexts_in pool es)) t.0 ∙ sym (ap (λ k. has_name (λ c. c.name) k (contexts_in pool es)) (sym t.1) ∙ lookup-there pool n es s found)
          known m (inr t) = ap (λ b. b || has_name (λ c. c.name) m (contexts_in pool es)) t.0

      pub held-after : qp ≤ qp' → IsContext pool' s' → numbers_of (context_in pool' n s') ≡ numbers_of (context_in pool n s) → IsSoundDevice (device_of id address qp' key' pool' (set_value (bytes_eq n) es s') husks) → IsHeld pool' (set_value (bytes_eq n) es s') index (device_of id address qp' key' pool' (set_value (bytes_eq n) es s') husks)
      held-after more is numbers sound =
          let stored = stored-view pool pool' n s s' es found (others-keep pool pool' n s s' es moves held.each held.apart found) in
          let ends = same-stored (device_of id address qp key pool es husks) (device_of id address qp' key' pool' (set_value (bytes_eq n) es s') husks) n (context_in pool' n s') refl stored (laws.name pool' s' n) (lookup-there pool n es s found) (numbers ∙ ap numbers_of (sym (lookup-found pool n es s found))) in
          held-stored index more is (index-same index (device_of id address qp key pool es husks) (device_of id address qp' key' pool' (set_value (bytes_eq n) es s') husks) ends held.indexed) sound

    -- a context in its own place changes nothing
    pub same-device : with_context (device_of id address qp key pool es husks) (context_in pool n s) ≡ device_of id address qp key pool es husks
    same-device =
        let none = moves-plainly pool s s refl (λ m. refl) in
        sym (view-is pool s none qp key) ∙ ap (λ xs. device_of id address qp key pool xs husks) (set_value_same (bytes_eq n) es s found)
