-- What a device keeps, where a context comes behind the others.
use Rattle.std.proofs.Common.{arith, ◌≡◌, ◌≢◌, ◌≤◌, ℕ, List, [], ◌∷◌, ◌++◌, map, sum, true, false, Bool, refl, sym, ap, ◌∙◌, inl, inr, subst}
use Rattle.std.specs.Prelude.{All, AllPairs, Contains, bytes_eq, ◌⊎◌, ◌||◌, Option, Some, None, IsSome}
use Rattle.std.proofs.lemmas.Bool.{true≢false}
use Rattle.std.proofs.lemmas.List.{map-append}
use Rattle.std.proofs.lemmas.List.Elements.{All-cons, All-nil, All-push}
use Rattle.std.proofs.lemmas.List.Sums.{sum-map, sum_by_push}
use Rattle.rdma_types.specs.declared.names.Name.{Name}
use Rattle.rdma_types.specs.declared.requests.Address.{Address}
use Rattle.rdma_types.specs.Lists.{has_name}
use Rattle.page_pool.specs.Pool.{Pool, bytes_of}
use Rattle.protocol.specs.Memory.{pages_of_context}
use Rattle.protocol.specs.Refusals.{has_context, has_husk}
use Rattle.protocol.specs.State.{Context}
use Rattle.context_core.specs.Context.{Holding, IsContext, Moves, context_in, lists_of, no_holding}
use Rattle.law_devices.specs.Sound.{IsSoundDevice}
use Rattle.law_devices.proofs.Tables.{has_name-push, name_tells}
use Rattle.device_core.specs.declared.husks.HuskEntry.{HuskEntry}
use Rattle.device_core.specs.declared.index.EndLocation.{EndLocation}
use Rattle.device_core.specs.Held.{AreApart, IsHeld}
use Rattle.device_core.specs.Index.{IsIndex}
use Rattle.device_core.specs.Parts.{contexts_in, device_of, held_in, husk_in}
use Rattle.device_core.proofs.Laws as laws
use Rattle.device_core.proofs.Contexts.{KeepsLists, kept-all}
use Rattle.device_core.proofs.Helds.{left-more}
use Rattle.device_core.proofs.Pairs.{pairs-push}

-- ---- names

-- a name that no thing has differs from each
pub names_apart : {A : Type 0} (name : A → Name) (n : Name) (xs : List A) → has_name name n xs ≡ false → All (λ m. m ≢ n) (map name xs)
unfolding has_name
names_apart name n [] none = All-nil (λ m. m ≢ n)
names_apart name n (x ∷ xs) none = elim (name_tells (name x) n) [
  | inl t ↦ absurd (true≢false (sym (ap (λ b. b || has_name name n xs) t.0) ∙ none))
  | inr t ↦ All-cons (λ m. m ≢ n) (name x) (map name xs) t.1 (names_apart name n xs (sym (ap (λ b. b || has_name name n xs) t.0) ∙ none))
]

-- ---- the pool of a new context

pub keeps-others : (old new : Pool) (s x : Holding) → Moves old new no_holding s → IsContext old x → KeepsLists old new x
keeps-others old new s x m is list there = m.others list (laws.lives old x list is there) (λ mine. laws.nothing list mine)

new-apart : (old new : Pool) (s x : Holding) → Moves old new no_holding s → IsContext old x → AreApart x s
new-apart old new s x m is list theirs mine = by_fresh (m.fresh list mine)
  where
    not_none : (o : Option (List ℕ)) → o ≡ None → IsSome o → ⊥
    not_none None e some = absurd (cc some)
    not_none (Some v) e some = absurd (cc)

    by_fresh : Contains (lists_of no_holding) list ⊎ (bytes_of old list ≡ None) → ⊥
    by_fresh (inl was) = laws.nothing list was
    by_fresh (inr none) = not_none (bytes_of old list) none (laws.lives old x list is theirs)

-- all keep their lists
pub all-keep : (old new : Pool) (s : Holding) (es : List (Name × Holding)) → Moves old new no_holding s → All (λ e. IsContext old e.1) es → All (λ e. KeepsLists old new e.1) es
all-keep old new s es m each k d l = keeps-others old new s _ m (each k d l)

pub pushed-view : (old new : Pool) (n : Name) (s : Holding) (es : List (Name × Holding)) → Moves old new no_holding s → All (λ e. IsContext old e.1) es → contexts_in new (es ++ (n, s) ∷ []) ≡ contexts_in old es ++ context_in new n s ∷ []
pushed-view old new n s es m each =
    map-append (held_in new) es ((n, s) ∷ [])
    ∙ ap (λ cs. cs ++ context_in new n s ∷ []) (kept-all old new es (all-keep old new s es m each))

module _ (id : ℕ) (address : Address) (qp key : ℕ) (pool : Pool) (es : List (Name × Holding)) (husks : List (Name × List HuskEntry)) (index : ℕ → Option EndLocation) (held : IsHeld pool es index (device_of id address qp key pool es husks))
    (n : Name) (absent : has_context (device_of id address qp key pool es husks) n ≡ false) (no_husk : has_husk (device_of id address qp key pool es husks) n ≡ false)
    (pool' : Pool) (s : Holding) (moves : Moves pool pool' no_holding s) (is : IsContext pool' s) (qp' key' : ℕ) where
  pub view-pushed : device_of id address qp' key' pool' (es ++ (n, s) ∷ []) husks ≡ record (device_of id address qp key pool es husks) { qp_count = qp'; key_count = key'; contexts = contexts_in pool es ++ context_in pool' n s ∷ [] }
  view-pushed = λ i. record {
    id = id;
    address = address;
    qp_count = qp';
    key_count = key';
    contexts = pushed-view pool pool' n s es moves held.each i;
    husks = map husk_in husks;
  }

  pub held-pushed : (index' : ℕ → Option EndLocation) → qp ≤ qp' → IsIndex index' (device_of id address qp' key' pool' (es ++ (n, s) ∷ []) husks) → IsSoundDevice (device_of id address qp' key' pool' (es ++ (n, s) ∷ []) husks) → IsHeld pool' (es ++ (n, s) ∷ []) index' (device_of id address qp' key' pool' (es ++ (n, s) ∷ []) husks)
  held-pushed index' more indexed sound =
      let view = pushed-view pool pool' n s es moves held.each in
      record {
        each = All-push (λ e. IsContext pool' e.1) es (n, s) (λ k d l. laws.stays pool pool' _ (keeps-others pool pool' s _ moves (held.each k d l)) (held.each k d l)) is;
        apart = pairs-push (λ a b. AreApart a.1 b.1) es (n, s) held.apart (λ k d l. new-apart pool pool' s _ moves (held.each k d l));
        counted =
            let sums : sum (map pages_of_context (contexts_in pool' (es ++ (n, s) ∷ []))) ≡ sum (map pages_of_context (contexts_in pool es ++ context_in pool' n s ∷ [])) = ap (λ cs. sum (map pages_of_context cs)) view in
            omega (arith, held.counted, sums, sum-map pages_of_context (contexts_in pool es ++ context_in pool' n s ∷ []), sum-map pages_of_context (contexts_in pool es), sum_by_push pages_of_context (contexts_in pool es) (context_in pool' n s), moves.free n, laws.no-pages pool n);
        names =
            let all : map (λ c. c.name) (contexts_in pool' (es ++ (n, s) ∷ [])) ≡ map (λ c. c.name) (contexts_in pool es) ++ n ∷ [] = ap (map (λ c. c.name)) view ∙ (map-append (λ c. c.name) (contexts_in pool es) (context_in pool' n s ∷ []) ∙ ap (λ m. map (λ c. c.name) (contexts_in pool es) ++ m ∷ []) (laws.name pool' s n)) in
            subst (AllPairs (λ a b. a ≢ b)) (sym all) (pairs-push (λ a b. a ≢ b) (map (λ c. c.name) (contexts_in pool es)) n held.names (other_names (contexts_in pool es) absent));
        husk_names = held.husk_names;
        either = λ m lives. either_one m (name_tells n m) lives;
        left = left-more id qp qp' (map husk_in husks) more held.left;
        indexed = indexed;
        sound = sound;
      }
    where
      other_names : (cs : List Context) → has_name (λ c. c.name) n cs ≡ false → All (λ m. m ≢ n) (map (λ c. c.name) cs)
      other_names cs none = names_apart (λ c. c.name) n cs none

      or_false : (b : Bool) → (b || false) ≡ true → b ≡ true
      or_false true h = refl
      or_false false h = h

      either_one : (m : Name) → ((bytes_eq n m ≡ true) × (n ≡ m)) ⊎ ((bytes_eq n m ≡ false) × (n ≢ m)) → has_context (device_of id address qp' key' pool' (es ++ (n, s) ∷ []) husks) m ≡ true → has_husk (device_of id address qp' key' pool' (es ++ (n, s) ∷ []) husks) m ≡ false
      either_one m (inl t) lives = ap (has_husk (device_of id address qp key pool es husks)) (sym t.1) ∙ no_husk
      either_one m (inr t) lives =
          let name' : bytes_eq (context_in pool' n s).name m ≡ false = ap (λ k. bytes_eq k m) (laws.name pool' s n) ∙ t.0 in
          let pushed : has_context (device_of id address qp' key' pool' (es ++ (n, s) ∷ []) husks) m ≡ (has_context (device_of id address qp key pool es husks) m || false) = ap (has_name (λ c. c.name) m) (pushed-view pool pool' n s es moves held.each) ∙ (has_name-push (λ c. c.name) m (contexts_in pool es) (context_in pool' n s) ∙ ap (λ b. has_context (device_of id address qp key pool es husks) m || b) name') in
          held.either m (or_false (has_context (device_of id address qp key pool es husks) m) (sym pushed ∙ lives))
