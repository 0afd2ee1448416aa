-- A device without contexts, and a context that comes.
use Rattle.std.proofs.Common.{arith, ◌≡◌, ◌≢◌, ◌≤◌, ℕ, List, [], ◌∷◌, ◌++◌, length, true, false, Bool, refl, sym, ap, ◌∙◌, inl, inr, subst}
use Rattle.std.specs.Prelude.{All, bytes_eq, ◌⊎◌, ◌||◌, if◌then◌else◌, nat_le, Option, Some, None, Result, Ok, Err, OnOk, OnErr}
use Rattle.std.proofs.lemmas.List.Elements.{All-nil}
use Rattle.rdma_types.specs.declared.names.Name.{Name}
use Rattle.rdma_types.specs.declared.requests.Address.{Address}
use Rattle.rdma_types.specs.declared.answers.Answer.TheVariants as answer
use Rattle.rdma_types.specs.declared.answers.Refusal.TheVariants.{NumberTaken, TooMany}
use Rattle.rdma_types.specs.Causes.{first_cause}
use Rattle.rdma_types.specs.Limits.{most_contexts}
use Rattle.rdma_types.specs.Lists.{has, has_name, named}
use Rattle.page_pool.specs.Pool.{Pool, free_pages, held_pages}
use Rattle.protocol.specs.declared.events.Event.TheVariants as event
use Rattle.protocol.specs.declared.images.Outcome.{Outcome}
use Rattle.protocol.specs.DeviceStep.{makes_context, new_context}
use Rattle.protocol.specs.Refusals.{causes_of, has_context, has_husk}
use Rattle.protocol.specs.State.{Context, Device, context_at, no_context}
use Rattle.context_core.specs.Context.{Holding, IsContext, Moves, context_in, no_holding}
use Rattle.context_core.specs.declared.ContextFault.{ContextFault}
use Rattle.context_core.specs.declared.ContextFault.TheVariants.{OutOfMemory}
use Rattle.law_devices.specs.Sound.{AreCounted, GivesNames, IsSoundContext}
use Rattle.device_core.proofs.Withouts.{named-absent, named-push_other}
use Rattle.law_devices.proofs.Tables.{has_name-push, named-push_has, named-push_lacks, name_tells}
use Rattle.device_core.specs.declared.husks.HuskEntry.{HuskEntry}
use Rattle.device_core.specs.declared.index.EndLocation.{EndLocation}
use Rattle.device_core.specs.Done.{IsDone, plain, told_by}
use Rattle.device_core.specs.Held.{AreApart, IsHeld, IsLeft}
use Rattle.device_core.specs.Index.{numbers_of}
use Rattle.device_core.specs.Parts.{contexts_in, device_of}
use Rattle.device_core.proofs.Adding.{held-pushed, pushed-view, view-pushed}
use Rattle.device_core.proofs.Dones.{sound-done, step-done}
use Rattle.device_core.proofs.Helds.{moves-plainly}
use Rattle.device_core.proofs.IndexAdds.{Adds, Notes, index-adds}
use Rattle.device_core.proofs.Laws as laws
use Rattle.device_core.proofs.Pairs.{pairs-nil}
use Rattle.device_core.proofs.Stepping.{Stepped}

no_lists : held_pages (record { pages = 8192; lists = [] }) ≡ 0
unfolding held_pages
no_lists = refl

all_free : free_pages (record { pages = 8192; lists = [] }) ≡ 8192
unfolding free_pages
all_free = omega (arith, no_lists)

no-name : {A : Type 0} (name : A → Name) (n : Name) → has_name name n [] ≡ true → ⊥
unfolding has_name
no-name name n h = absurd (cc)

no-name_false : {A : Type 0} (name : A → Name) (n : Name) → has_name name n [] ≡ false
unfolding has_name
no-name_false name n = refl

-- a new device keeps what a device keeps
pub held-new : (id : ℕ) (address : Address) (pool : Pool) (es : List (Name × Holding)) (husks : List (Name × List HuskEntry)) (index : ℕ → Option EndLocation) → es ≡ [] → husks ≡ [] → ((k : ℕ) → index k ≡ None) → pool ≡ record { pages = 8192; lists = [] } → 1 ≤ id → id ≤ 255 → IsHeld pool es index (device_of id address 0 0 pool es husks)
held-new id address pool es husks index none no_husks empty free some few =
    subst (λ xs. IsHeld pool xs index (device_of id address 0 0 pool xs husks)) (sym none)
    (subst (λ hs. IsHeld pool [] index (device_of id address 0 0 pool [] hs)) (sym no_husks)
    (record {
      each = All-nil (λ e. IsContext pool e.1);
      apart = pairs-nil (λ a b. AreApart a.1 b.1);
      counted = omega (arith, ap free_pages free, all_free);
      names = pairs-nil (λ a b. a ≢ b);
      husk_names = pairs-nil (λ a b. a ≢ b);
      either = λ n lives. no-name_false (λ h. h.name) n;
      left = All-nil (λ h. All (IsLeft id 0) h.entries);
      indexed = record {
        ends = λ n place k e. absurd (no-name (λ c. c.name) n e.lives);
        entries = λ n place k e. absurd (no-name (λ h. h.name) n e.stays);
        exact = λ n place k h. absurd (cc (empty k, h));
      };
      sound = record {
        some_id = some;
        few_ids = few;
        few_numbers = omega arith;
        few_keys = omega arith;
        contexts = All-nil IsSoundContext;
        counted = All-nil (AreCounted (device_of id address 0 0 pool [] []));
      };
    }))

-- where it is not refused, neither a context nor a husk has the name
pub free-name : (d : Device) (n : Name) → first_cause (causes_of d (event.MakeContext n)) ≡ None → (has_context d n ≡ false) × (has_husk d n ≡ false)
unfolding first_cause
free-name d n h = by_test (has_context d n) (has_husk d n) (nat_le most_contexts (length d.contexts)) h
  where
    by_test : (a b f : Bool) → (if (a || b) then Some NumberTaken else if f then Some TooMany else None) ≡ None → (a ≡ false) × (b ≡ false)
    by_test true b f g = absurd (cc)
    by_test false true f g = absurd (cc)
    by_test false false f g = (refl, refl)

-- a device with one more context has its ends
pub pushed-adds : (old new : Device) (n : Name) (c : Context) → new.husks ≡ old.husks → new.contexts ≡ old.contexts ++ c ∷ [] → c.name ≡ n → has_context old n ≡ false → Adds old new n (numbers_of c)
pushed-adds old new n c husks contexts name absent = record {
  husks = husks;
  live = λ m other. ap (has_name (λ x. x.name) m) contexts ∙ (has_name-push (λ x. x.name) m old.contexts c ∙ not_this m other (name_tells c.name m));
  same = λ m other. ap numbers_of (ap (named (λ x. x.name) no_context m) contexts ∙ found_other m other (has_name (λ x. x.name) m old.contexts) refl);
  there = ap (has_name (λ x. x.name) n) contexts ∙ (has_name-push (λ x. x.name) n old.contexts c ∙ this (name_tells c.name n));
  more = ap numbers_of (ap (named (λ x. x.name) no_context n) contexts ∙ named-push_lacks (λ x. x.name) no_context n old.contexts c absent name) ∙ sym (ap (λ xs. xs ++ numbers_of c) nothing);
  none = λ gone. nothing;
}
  where
    nothing : numbers_of (context_at old n) ≡ []
    nothing = ap numbers_of (named-absent (λ x. x.name) no_context n old.contexts absent)

    not_this : (m : Name) → m ≢ n → ((bytes_eq c.name m ≡ true) × (c.name ≡ m)) ⊎ ((bytes_eq c.name m ≡ false) × (c.name ≢ m)) → (has_context old m || bytes_eq c.name m) ≡ has_context old m
    not_this m other (inl t) = absurd (other (sym t.1 ∙ name))
    not_this m other (inr t) = ap (λ b. has_context old m || b) t.0 ∙ or_false (has_context old m)
      where
        or_false : (b : Bool) → (b || false) ≡ b
        or_false true = refl
        or_false false = refl

    this : ((bytes_eq c.name n ≡ true) × (c.name ≡ n)) ⊎ ((bytes_eq c.name n ≡ false) × (c.name ≢ n)) → (has_context old n || bytes_eq c.name n) ≡ true
    this (inl t) = ap (λ b. has_context old n || b) t.0 ∙ or_true (has_context old n)
      where
        or_true : (b : Bool) → (b || true) ≡ true
        or_true true = refl
        or_true false = refl
    this (inr t) = absurd (t.1 name)

    found_other : (m : Name) → m ≢ n → (b : Bool) → has_name (λ x. x.name) m old.contexts ≡ b → named (λ x. x.name) no_context m (old.contexts ++ c ∷ []) ≡ named (λ x. x.name) no_context m old.contexts
    found_other m other true h = named-push_has (λ x. x.name) no_context m old.contexts c h
    found_other m other false h = named-push_other (λ x. x.name) no_context m old.contexts c h (λ e. other (sym e ∙ name)) ∙ sym (named-absent (λ x. x.name) no_context m old.contexts h)

-- a context without things comes
pub made-context : (id : ℕ) (address : Address) (qp key : ℕ) (pool : Pool) (es : List (Name × Holding)) (husks : List (Name × List HuskEntry)) (index : ℕ → Option EndLocation) (held : IsHeld pool es index (device_of id address qp key pool es husks))
    (n : Name) (none : first_cause (causes_of (device_of id address qp key pool es husks) (event.MakeContext n)) ≡ None)
    (s : Holding) (empty : s ≡ no_holding) (view : context_in pool n s ≡ new_context n) (is : IsContext pool s)
    (r : Result (Unit {0}) ContextFault) (told : Result Outcome ContextFault) (es' : List (Name × Holding))
    → told ≡ told_by (λ x. plain answer.Done) r → OnOk r (es' ≡ es ++ (n, s) ∷ []) → OnErr r (es' ≡ es) → OnErr r (r ≡ Err OutOfMemory)
    → Stepped (device_of id address qp key pool es husks) (event.MakeContext n) pool es' index (device_of id address qp key pool es' husks) told
unfolding makes_context has
made-context id address qp key pool es husks index held n none s empty view is r told es' tells ok err memory = by_result r tells ok err memory
  where
    d : Device
    d = device_of id address qp key pool es husks

    same_moves : Moves pool pool no_holding s
    same_moves = subst (λ z. Moves pool pool no_holding z) (sym empty) (moves-plainly pool no_holding no_holding refl (λ m. refl))

    new : Device
    new = device_of id address qp key pool (es ++ (n, s) ∷ []) husks

    the_new : IsDone (device_of id address qp key pool es husks) (event.MakeContext n) (device_of id address qp key pool (es ++ (n, s) ∷ []) husks) (Ok (plain answer.Done))
    the_new =
        let names = free-name (device_of id address qp key pool es husks) n none in
        step-done (device_of id address qp key pool es husks) (event.MakeContext n) none
        ∙ (λ i. record {
          device = (ap (λ c. record (device_of id address qp key pool es husks) { contexts = contexts_in pool es ++ c ∷ [] }) (sym view) ∙ sym (view-pushed id address qp key pool es husks index held n names.0 names.1 pool s same_moves is qp key)) i;
          outcome = plain answer.Done;
        })

    the_held : GivesNames (event.MakeContext n) → IsHeld pool (es ++ (n, s) ∷ []) index (device_of id address qp key pool (es ++ (n, s) ∷ []) husks)
    the_held spelled =
        let names = free-name (device_of id address qp key pool es husks) n none in
        let pushed = pushed-view pool pool n s es same_moves held.each in
        let adds = pushed-adds (device_of id address qp key pool es husks) (device_of id address qp key pool (es ++ (n, s) ∷ []) husks) n (context_in pool n s) refl pushed (laws.name pool s n) names.0 in
        let no_numbers : numbers_of (context_in pool n s) ≡ [] = ap numbers_of view in
        let notes : Notes index index n (length (numbers_of (context_at (device_of id address qp key pool es husks) n))) (numbers_of (context_in pool n s)) = subst (Notes index index n (length (numbers_of (context_at (device_of id address qp key pool es husks) n)))) (sym no_numbers) (record { here = λ i k h. absurd (cc); others = λ k h. refl; fresh = λ k h. absurd (none_has k h) }) in
        held-pushed id address qp key pool es husks index held n names.0 names.1 pool s same_moves is qp key index (omega arith)
        (index-adds index index (device_of id address qp key pool es husks) (device_of id address qp key pool (es ++ (n, s) ∷ []) husks) n (numbers_of (context_in pool n s)) adds notes held.indexed)
        (sound-done (device_of id address qp key pool es husks) (device_of id address qp key pool (es ++ (n, s) ∷ []) husks) (event.MakeContext n) (Ok (plain answer.Done)) held.sound tt spelled the_new)
      where
        none_has : (k : ℕ) → has (λ x. x) k [] ≡ true → ⊥
        none_has k h = absurd (cc)

    by_result : (x : Result (Unit {0}) ContextFault) → told ≡ told_by (λ y. plain answer.Done) x → OnOk x (es' ≡ es ++ (n, s) ∷ []) → OnErr x (es' ≡ es) → OnErr x (x ≡ Err OutOfMemory) → Stepped (device_of id address qp key pool es husks) (event.MakeContext n) pool es' index (device_of id address qp key pool es' husks) told
    by_result (Ok x) t o e m = subst (λ z. Stepped (device_of id address qp key pool es husks) (event.MakeContext n) pool es' index (device_of id address qp key pool es' husks) z) (sym t) (subst (λ z. Stepped (device_of id address qp key pool es husks) (event.MakeContext n) pool z index (device_of id address qp key pool z husks) (Ok (plain answer.Done))) (sym o) (record { done = the_new; held = λ lawful spelled. the_held spelled }))
    by_result (Err f) t o e m =
        let same : f ≡ OutOfMemory = cc in
        let gone : told ≡ Err OutOfMemory = t ∙ ap Err same in
        subst (λ z. Stepped (device_of id address qp key pool es husks) (event.MakeContext n) pool es' index (device_of id address qp key pool es' husks) z) (sym gone)
        (subst (λ z. Stepped (device_of id address qp key pool es husks) (event.MakeContext n) pool z index (device_of id address qp key pool z husks) (Err OutOfMemory)) (sym e) (record { done = (refl, none); held = λ lawful spelled. held }))
