-- The contexts of a device, of which one makes a step.
use Rattle.std.proofs.Common.{◌≡◌, ℕ, List, [], ◌∷◌, true, false, Bool, refl, sym, ap, ◌∙◌, inl, inr, subst}
use Rattle.std.specs.Prelude.{All, AllPairs, Contains, bytes_eq, ◌⊎◌, ◌||◌, if◌then◌else◌, Option, Some, None, IsSome, MatchBool, is_some}
use Rattle.std.specs.Map.{lookup, set_value}
use Rattle.std.proofs.lemmas.Bool.{both_ways}
use Rattle.std.proofs.lemmas.List.Elements.{All-cons, All-head, All-nil, All-tail}
use Rattle.rdma_types.specs.declared.names.Name.{Name}
use Rattle.rdma_types.specs.Lists.{has_name, named, store_named}
use Rattle.rdma_types.proofs.Tables.{same_name}
use Rattle.page_pool.specs.Pool.{Pool, bytes_of}
use Rattle.protocol.specs.State.{no_context}
use Rattle.context_core.specs.Context.{Holding, IsContext, Moves, context_in, lists_of}
use Rattle.law_devices.proofs.Tables.{name_tells}
use Rattle.device_core.specs.Held.{AreApart}
use Rattle.device_core.specs.Parts.{contexts_in, held_in}
use Rattle.device_core.proofs.Laws as laws
use Rattle.device_core.proofs.Pairs.{All-found, All-set_value, pairs-cons, pairs-head, pairs-tail}

-- ---- a context by its name

-- a key that is asked for is the name of the context that is found
pub lookup-there : (pool : Pool) (n : Name) (es : List (Name × Holding)) (s : Holding) → lookup (bytes_eq n) es ≡ Some s → has_name (λ c. c.name) n (contexts_in pool es) ≡ true
unfolding has_name
lookup-there pool n [] s h = absurd (cc)
lookup-there pool n (e ∷ es) s h = elim (name_tells n e.0) [
  | inl t ↦
      let named' : bytes_eq (held_in pool e).name n ≡ true = ap (λ m. bytes_eq m n) (laws.name pool e.1 e.0 ∙ sym t.1) ∙ same_name n in
      ap (λ b. b || has_name (λ c. c.name) n (contexts_in pool es)) named'
  | inr t ↦
      let later = lookup-there pool n es s (sym (ap (λ b. if b then Some e.1 else lookup (bytes_eq n) es) t.0) ∙ h) in
      or_true (bytes_eq (held_in pool e).name n) _ later
]
  where
    or_true : (a b : Bool) → b ≡ true → (a || b) ≡ true
    or_true true b e' = refl
    or_true false b e' = e'

pub lookup-absent : (pool : Pool) (n : Name) (es : List (Name × Holding)) → lookup (bytes_eq n) es ≡ None → has_name (λ c. c.name) n (contexts_in pool es) ≡ false
unfolding has_name
lookup-absent pool n [] h = refl
lookup-absent pool n (e ∷ es) h = elim (name_tells n e.0) [
  | inl t ↦ absurd (some_none _ (sym (ap (λ b. if b then Some e.1 else lookup (bytes_eq n) es) t.0) ∙ h))
  | inr t ↦ elim (name_tells (held_in pool e).name n) [
    | inl u ↦ absurd (t.1 (sym u.1 ∙ laws.name pool e.1 e.0))
    | inr u ↦ ap (λ b. b || has_name (λ c. c.name) n (contexts_in pool es)) u.0 ∙ lookup-absent pool n es (sym (ap (λ b. if b then Some e.1 else lookup (bytes_eq n) es) t.0) ∙ h)
  ]
]
  where
    some_none : (x : Holding) → Some x ≡ None → ⊥
    some_none x g = absurd (cc)

-- a key is found where a context has the name
pub found-there : (pool : Pool) (n : Name) (es : List (Name × Holding)) → is_some (lookup (bytes_eq n) es) ≡ has_name (λ c. c.name) n (contexts_in pool es)
found-there pool n es = by_found (lookup (bytes_eq n) es) refl
  where
    by_found : (o : Option Holding) → lookup (bytes_eq n) es ≡ o → is_some o ≡ has_name (λ c. c.name) n (contexts_in pool es)
    by_found None h = sym (lookup-absent pool n es h)
    by_found (Some s) h = sym (lookup-there pool n es s h)

-- a name that no context has is no key
pub free-lookup : (pool : Pool) (n : Name) (es : List (Name × Holding)) → has_name (λ c. c.name) n (contexts_in pool es) ≡ false → lookup (bytes_eq n) es ≡ None
free-lookup pool n es free = by_found (lookup (bytes_eq n) es) refl
  where
    by_found : (o : Option Holding) → lookup (bytes_eq n) es ≡ o → o ≡ None
    by_found None h = refl
    by_found (Some s) h = absurd (both_ways (has_name (λ c. c.name) n (contexts_in pool es)) free (lookup-there pool n es s h))

pub lookup-found : (pool : Pool) (n : Name) (es : List (Name × Holding)) (s : Holding) → lookup (bytes_eq n) es ≡ Some s → named (λ c. c.name) no_context n (contexts_in pool es) ≡ context_in pool n s
unfolding named
lookup-found pool n [] s h = absurd (cc)
lookup-found pool n (e ∷ es) s h = elim (name_tells n e.0) [
  | inl t ↦
      let same : e.1 ≡ s = found_here _ _ (sym (ap (λ b. if b then Some e.1 else lookup (bytes_eq n) es) t.0) ∙ h) in
      let named' : bytes_eq (held_in pool e).name n ≡ true = ap (λ m. bytes_eq m n) (laws.name pool e.1 e.0 ∙ sym t.1) ∙ same_name n in
      ap (λ b. if b then held_in pool e else named (λ c. c.name) no_context n (contexts_in pool es)) named' ∙ (λ i. context_in pool (sym t.1 i) (same i))
  | inr t ↦ elim (name_tells (held_in pool e).name n) [
    | inl u ↦ absurd (t.1 (sym u.1 ∙ laws.name pool e.1 e.0))
    | inr u ↦ ap (λ b. if b then held_in pool e else named (λ c. c.name) no_context n (contexts_in pool es)) u.0 ∙ lookup-found pool n es s (sym (ap (λ b. if b then Some e.1 else lookup (bytes_eq n) es) t.0) ∙ h)
  ]
]
  where
    found_here : (x y : Holding) → Some x ≡ Some y → x ≡ y
    found_here x y g = cc

-- ---- lists of other contexts stay

abbrev pub KeepsLists : Pool → Pool → Holding → Type 0
KeepsLists old new h = (list : ℕ) → Contains (lists_of h) list → bytes_of new list ≡ bytes_of old list

pub moves-others : (old new : Pool) (before after x : Holding) → Moves old new before after → IsContext old x → AreApart before x → KeepsLists old new x
moves-others old new before after x m is apart list there = m.others list (laws.lives old x list is there) (λ mine. apart list mine there)

pub kept-all : (old new : Pool) (es : List (Name × Holding)) → All (λ e. KeepsLists old new e.1) es → contexts_in new es ≡ contexts_in old es
kept-all old new [] all = refl
kept-all old new (e ∷ es) all =
    ap (λ c. c ∷ contexts_in new es) (laws.same old new e.1 e.0 (All-head (λ x. KeepsLists old new x.1) e es all))
    ∙ ap (λ cs. held_in old e ∷ cs) (kept-all old new es (All-tail (λ x. KeepsLists old new x.1) e es all))

-- all contexts but the first of a name keep their lists
abbrev pub OthersKeep : Pool → Pool → Name → List (Name × Holding) → Type 0
OthersKeep old new n [] = Unit {0}
OthersKeep old new n (e ∷ es) = MatchBool (bytes_eq n e.0) (All (λ x. KeepsLists old new x.1) es) (KeepsLists old new e.1 × OthersKeep old new n es)

pub others-keep : (old new : Pool) (n : Name) (before after : Holding) (es : List (Name × Holding)) → Moves old new before after → All (λ e. IsContext old e.1) es → AllPairs (λ a b. AreApart a.1 b.1) es → lookup (bytes_eq n) es ≡ Some before → OthersKeep old new n es
others-keep old new n before after [] m each apart h = tt
others-keep old new n before after (e ∷ es) m each apart h = by_test (bytes_eq n e.0) h (others-keep old new n before after es m (All-tail (λ x. IsContext old x.1) e es each) (pairs-tail (λ a b. AreApart a.1 b.1) e es apart))
  where
    tail_keeps : (xs : List (Name × Holding)) → e.1 ≡ before → All (λ x. IsContext old x.1) xs → All (λ x. AreApart e.1 x.1) xs → All (λ x. KeepsLists old new x.1) xs
    tail_keeps xs same is ap' k d l = moves-others old new before after _ m (is k d l) (λ list mine theirs. ap' k d l list (subst (λ z. Contains (lists_of z) list) (sym same) mine) theirs)

    by_test : (b : Bool) → (if b then Some e.1 else lookup (bytes_eq n) es) ≡ Some before → (lookup (bytes_eq n) es ≡ Some before → OthersKeep old new n es) → MatchBool b (All (λ x. KeepsLists old new x.1) es) (KeepsLists old new e.1 × OthersKeep old new n es)
    by_test true g later = let same : e.1 ≡ before = cc in tail_keeps es same (All-tail (λ x. IsContext old x.1) e es each) (pairs-head (λ a b. AreApart a.1 b.1) e es apart)
    by_test false g later = (
      moves-others old new before after e.1 m (All-head (λ x. IsContext old x.1) e es each)
          (λ list mine theirs. All-found (bytes_eq n) (λ x. AreApart e.1 x.1) (λ x. AreApart e.1 x) (λ x a. a) es before (pairs-head (λ a b. AreApart a.1 b.1) e es apart) g list theirs mine),
      later g,
    )

-- ---- what the device then is

pub stored-view : (old new : Pool) (n : Name) (before after : Holding) (es : List (Name × Holding)) → lookup (bytes_eq n) es ≡ Some before → OthersKeep old new n es → contexts_in new (set_value (bytes_eq n) es after) ≡ store_named (λ c. c.name) n (context_in new n after) (contexts_in old es)
unfolding store_named
stored-view old new n before after [] h keep = absurd (cc)
stored-view old new n before after (e ∷ es) h keep = elim (name_tells n e.0) [
  | inl t ↦
      let keep' : All (λ x. KeepsLists old new x.1) es = subst (λ b. MatchBool b (All (λ x. KeepsLists old new x.1) es) (KeepsLists old new e.1 × OthersKeep old new n es)) t.0 keep in
      let named' : bytes_eq (held_in old e).name n ≡ true = ap (λ m. bytes_eq m n) (laws.name old e.1 e.0 ∙ sym t.1) ∙ same_name n in
      ap (λ b. contexts_in new (if b then (e.0, after) ∷ es else e ∷ set_value (bytes_eq n) es after)) t.0
      ∙ (ap (λ k. context_in new k after ∷ contexts_in new es) (sym t.1)
      ∙ (ap (λ cs. context_in new n after ∷ cs) (kept-all old new es keep')
      ∙ sym (ap (λ b. if b then context_in new n after ∷ contexts_in old es else held_in old e ∷ store_named (λ c. c.name) n (context_in new n after) (contexts_in old es)) named')))
  | inr t ↦ elim (name_tells (held_in old e).name n) [
    | inl u ↦ absurd (t.1 (sym u.1 ∙ laws.name old e.1 e.0))
    | inr u ↦
        let keep' : KeepsLists old new e.1 × OthersKeep old new n es = subst (λ b. MatchBool b (All (λ x. KeepsLists old new x.1) es) (KeepsLists old new e.1 × OthersKeep old new n es)) t.0 keep in
        ap (λ b. contexts_in new (if b then (e.0, after) ∷ es else e ∷ set_value (bytes_eq n) es after)) t.0
        ∙ (ap (λ c. c ∷ contexts_in new (set_value (bytes_eq n) es after)) (laws.same old new e.1 e.0 keep'.0)
        ∙ (ap (λ cs. held_in old e ∷ cs) (stored-view old new n before after es (sym (ap (λ b. if b then Some e.1 else lookup (bytes_eq n) es) t.0) ∙ h) keep'.1)
        ∙ sym (ap (λ b. if b then context_in new n after ∷ contexts_in old es else held_in old e ∷ store_named (λ c. c.name) n (context_in new n after) (contexts_in old es)) u.0)))
  ]
]

pub stored-each : (old new : Pool) (n : Name) (after : Holding) (es : List (Name × Holding)) → All (λ e. IsContext old e.1) es → OthersKeep old new n es → IsContext new after → All (λ e. IsContext new e.1) (set_value (bytes_eq n) es after)
stored-each old new n after [] each keep is = All-nil (λ e. IsContext new e.1)
stored-each old new n after (e ∷ es) each keep is = by_test (bytes_eq n e.0) keep (λ k. stored-each old new n after es (All-tail (λ x. IsContext old x.1) e es each) k is)
  where
    stay : (xs : List (Name × Holding)) → All (λ x. IsContext old x.1) xs → All (λ x. KeepsLists old new x.1) xs → All (λ x. IsContext new x.1) xs
    stay xs is' keep' k d l = laws.stays old new _ (keep' k d l) (is' k d l)

    by_test : (b : Bool) → MatchBool b (All (λ x. KeepsLists old new x.1) es) (KeepsLists old new e.1 × OthersKeep old new n es) → (OthersKeep old new n es → All (λ x. IsContext new x.1) (set_value (bytes_eq n) es after)) → All (λ x. IsContext new x.1) (if b then (e.0, after) ∷ es else e ∷ set_value (bytes_eq n) es after)
    by_test true k later = All-cons (λ x. IsContext new x.1) (e.0, after) es is (stay es (All-tail (λ x. IsContext old x.1) e es each) k)
    by_test false k later = All-cons (λ x. IsContext new x.1) e (set_value (bytes_eq n) es after) (laws.stays old new e.1 k.0 (All-head (λ x. IsContext old x.1) e es each)) (later k.1)

-- new lists are of no other context
pub fresh-apart : (old new : Pool) (before after x : Holding) → Moves old new before after → IsContext old x → AreApart before x → AreApart after x
fresh-apart old new before after x m is apart list mine theirs = by_fresh (m.fresh list mine)
  where
    not_none : (o : Option (List ℕ)) → o ≡ None → IsSome o → ⊥
    not_none None e some = absurd (cc some)
    not_none (Some v) e some = absurd (cc)

    by_fresh : Contains (lists_of before) list ⊎ (bytes_of old list ≡ None) → ⊥
    by_fresh (inl was) = apart list was theirs
    by_fresh (inr none) = not_none (bytes_of old list) none (laws.lives old x list is theirs)

apart_sym : (a b : Holding) → AreApart a b → AreApart b a
apart_sym a b h list x y = h list y x

pub stored-apart : (old new : Pool) (n : Name) (before after : Holding) (es : List (Name × Holding)) → Moves old new before after → All (λ e. IsContext old e.1) es → AllPairs (λ a b. AreApart a.1 b.1) es → lookup (bytes_eq n) es ≡ Some before → AllPairs (λ a b. AreApart a.1 b.1) (set_value (bytes_eq n) es after)
stored-apart old new n before after [] m each apart h = apart
stored-apart old new n before after (e ∷ es) m each apart h = by_test (bytes_eq n e.0) h (stored-apart old new n before after es m (All-tail (λ x. IsContext old x.1) e es each) (pairs-tail (λ a b. AreApart a.1 b.1) e es apart))
  where
    R : Name × Holding → Name × Holding → Type 0
    R a b = AreApart a.1 b.1

    head_apart : (xs : List (Name × Holding)) → e.1 ≡ before → All (λ x. IsContext old x.1) xs → All (λ x. AreApart e.1 x.1) xs → All (λ x. AreApart after x.1) xs
    head_apart xs same is ap' k d l = fresh-apart old new before after _ m (is k d l) (λ list mine theirs. ap' k d l list (subst (λ z. Contains (lists_of z) list) (sym same) mine) theirs)

    by_test : (b : Bool) → (if b then Some e.1 else lookup (bytes_eq n) es) ≡ Some before → (lookup (bytes_eq n) es ≡ Some before → AllPairs (λ a b. AreApart a.1 b.1) (set_value (bytes_eq n) es after)) → AllPairs (λ a b. AreApart a.1 b.1) (if b then (e.0, after) ∷ es else e ∷ set_value (bytes_eq n) es after)
    by_test true g later =
        let same : e.1 ≡ before = cc in
        pairs-cons (λ a b. AreApart a.1 b.1) (e.0, after) es (head_apart es same (All-tail (λ x. IsContext old x.1) e es each) (pairs-head (λ a b. AreApart a.1 b.1) e es apart)) (pairs-tail (λ a b. AreApart a.1 b.1) e es apart)
    by_test false g later =
        let mine : AreApart e.1 before = All-found (bytes_eq n) (λ x. AreApart e.1 x.1) (λ x. AreApart e.1 x) (λ x a. a) es before (pairs-head (λ a b. AreApart a.1 b.1) e es apart) g in
        let new_apart : AreApart e.1 after = apart_sym after e.1 (fresh-apart old new before after e.1 m (All-head (λ x. IsContext old x.1) e es each) (apart_sym e.1 before mine)) in
        pairs-cons (λ a b. AreApart a.1 b.1) e (set_value (bytes_eq n) es after)
        (All-set_value (bytes_eq n) (λ x. AreApart e.1 x.1) es after (pairs-head (λ a b. AreApart a.1 b.1) e es apart) (λ k. new_apart))
        (later g)
