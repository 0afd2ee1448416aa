-- What changes of the machine add to the load of a completion queue.
use Rattle.std.proofs.Common.{arith, ◌≡◌, ◌≢◌, ℕ, suc, ◌+◌, ◌≤◌, List, [], ◌∷◌, length, true, false, Bool, refl, sym, subst, ap, ◌∙◌, ◌⊎◌, inl, inr, length-append}
use Rattle.std.specs.Prelude.{bytes_eq, if◌then◌else◌, slice_set, sum_by, ◌||◌}
use Rattle.std.proofs.lemmas.List.Sums.{sum_by-cons}
use Rattle.rdma_types.specs.declared.names.Name.{Name}
use Rattle.rdma_types.specs.declared.names.ObjName.{ObjName}
use Rattle.rdma_types.specs.declared.requests.Completion.{Completion}
use Rattle.rdma_types.specs.Lists.{has_name, named}
use Rattle.rdma_types.specs.Objects.{CompletionQueue, Region, no_queue}
use Rattle.packetless_machine.specs.Machine.{Context, End, Machine, completed, completing, context_of, end_of, has_context, longer, no_context, nobody, queue_of, reserved, reserved_by, untold_count, used_count, with_context, with_end, with_end_in, with_queue, with_queue_in, with_queues, with_regions}
use Rattle.packetless_machine.specs.Tables.{place_where, replaced}
use Rattle.law_simulation.proofs.relation.Machines.{context_here, context_name, context_other, with_context_changed}
use Rattle.law_simulation.proofs.relation.Tables.{named-store_other, name_or_not, name_tells, name-named_there, replaced-stored}
use Rattle.law_simulation.proofs.runs.Acting.{related}
use Rattle.law_mailbox.specs.Room.{load, load_in}
use Rattle.law_mailbox.proofs.connection.Sights.{nowhere}

-- ---- lists

absent_replaced : {A : Type 0} (name : A → Name) (k : Name) (x : A) (xs : List A) → has_name name k xs ≡ false → replaced name k x xs ≡ xs
unfolding has_name replaced place_where
absent_replaced name k x [] h = refl
absent_replaced name k x (y ∷ ys) h = by (bytes_eq (name y) k) h (absent_replaced name k x ys)
  where
    by : (b : Bool) → (b || has_name name k ys) ≡ false → (has_name name k ys ≡ false → slice_set ys (place_where (λ z. bytes_eq (name z) k) ys) x ≡ ys) →
        slice_set (y ∷ ys) (if b then 0 else suc (place_where (λ z. bytes_eq (name z) k) ys)) x ≡ y ∷ ys
    by true f rest = cc
    by false f rest = ap (λ (zs : List _). y ∷ zs) (rest f)

sum_replaced : {A : Type 0} (f : A → ℕ) (name : A → Name) (none : A) (k : Name) (x : A) (xs : List A) → f none ≡ 0 → sum_by f (replaced name k x xs) + f (named name none k xs) ≤ sum_by f xs + f x
unfolding named replaced place_where
sum_replaced f name none k x [] zero' = omega (arith, zero')
sum_replaced f name none k x (y ∷ ys) zero' = by (bytes_eq (name y) k) (sum_replaced f name none k x ys zero')
  where
    by : (b : Bool) → sum_by f (slice_set ys (place_where (λ z. bytes_eq (name z) k) ys) x) + f (named name none k ys) ≤ sum_by f ys + f x →
        sum_by f (slice_set (y ∷ ys) (if b then 0 else suc (place_where (λ z. bytes_eq (name z) k) ys)) x) + f (if b then y else named name none k ys) ≤ sum_by f (y ∷ ys) + f x
    by true rest = omega (arith, sum_by-cons f x ys, sum_by-cons f y ys)
    by false rest = omega (arith, rest, sum_by-cons f y (slice_set ys (place_where (λ z. bytes_eq (name z) k) ys) x), sum_by-cons f y ys)

-- ---- queues

abbrev pub entries_in : Name → List CompletionQueue → ℕ
entries_in q qs = length (named (λ z. z.name) no_queue q qs).entries

abbrev pub if_same : Name → Name → ℕ → ℕ
if_same a b n = if bytes_eq a b then n else 0

longer_entries : (q sq : Name) (more : List Completion) (qs : List CompletionQueue) → entries_in q (replaced (λ z. z.name) sq (longer (named (λ z. z.name) no_queue sq qs) more) qs) ≤ entries_in q qs + if_same sq q (length more)
longer_entries q sq more qs = by (name_tells sq q)
  where
    most : entries_in q (replaced (λ z. z.name) sq (longer (named (λ z. z.name) no_queue sq qs) more) qs) ≤ entries_in q qs + length more
    most =
        related (λ (a b : CompletionQueue). length a.entries ≤ length b.entries + length more) (λ a. omega arith) (λ z. z.name) no_queue no_queue sq q (longer (named (λ z. z.name) no_queue sq qs) more) qs refl
        (omega (arith, length-append (named (λ z. z.name) no_queue sq qs).entries more))

    other : sq ≢ q → (b : Bool) → has_name (λ z. z.name) sq qs ≡ b → named (λ z. z.name) no_queue q (replaced (λ z. z.name) sq (longer (named (λ z. z.name) no_queue sq qs) more) qs) ≡ named (λ z. z.name) no_queue q qs
    other apart true there =
        ap (named (λ z. z.name) no_queue q) (replaced-stored (λ z. z.name) sq (longer (named (λ z. z.name) no_queue sq qs) more) qs there)
        ∙ named-store_other (λ z. z.name) no_queue sq q (longer (named (λ z. z.name) no_queue sq qs) more) qs (name-named_there (λ z. z.name) no_queue sq qs there) (λ e. apart (sym e))
    other apart false there = ap (named (λ z. z.name) no_queue q) (absent_replaced (λ z. z.name) sq (longer (named (λ z. z.name) no_queue sq qs) more) qs there)

    by : ((bytes_eq sq q ≡ true) × (sq ≡ q)) ⊎ ((bytes_eq sq q ≡ false) × (sq ≢ q)) → entries_in q (replaced (λ z. z.name) sq (longer (named (λ z. z.name) no_queue sq qs) more) qs) ≤ entries_in q qs + if_same sq q (length more)
    by (inl t) = rw (t.0) most
    by (inr t) = let same = ap (λ (z : CompletionQueue). length z.entries) (other t.1 (has_name (λ z. z.name) sq qs) refl) in omega (arith, same)

pub completed_entries : (q sq : Name) (more : List Completion) (qs : List CompletionQueue) → entries_in q (completed sq more qs) ≤ entries_in q qs + if_same sq q (length more)
unfolding completed
completed_entries q sq more qs = longer_entries q sq more qs

-- ---- contexts

-- no context, or the new one
context_then : (m : Machine) (c : Name) (x : Context) → x.name ≡ c → ((with_context m c x ≡ m) × (context_of m c ≡ no_context c)) ⊎ (context_of (with_context m c x) c ≡ x)
unfolding with_context has_context context_of
context_then m c x name = by (has_name (λ z. z.name) c m.contexts) refl
  where
    by : (b : Bool) → has_name (λ z. z.name) c m.contexts ≡ b → ((with_context m c x ≡ m) × (context_of m c ≡ no_context c)) ⊎ (context_of (with_context m c x) c ≡ x)
    by true there = inr (context_here m (with_context m c x) c x (with_context_changed m c x name there))
    by false absent = inl ((λ k. record m { contexts = absent_replaced (λ z. z.name) c x m.contexts absent k }), nowhere (λ z. z.name) (no_context c) c m.contexts absent)

pub load_elsewhere : (m : Machine) (c : Name) (x : Context) (d q : Name) → x.name ≡ c → d ≢ c → load (with_context m c x) d q ≡ load m d q
unfolding with_context has_context
load_elsewhere m c x d q name apart = by (has_name (λ z. z.name) c m.contexts) refl
  where
    by : (b : Bool) → has_name (λ z. z.name) c m.contexts ≡ b → load (with_context m c x) d q ≡ load m d q
    by true there = ap (load_in q) (context_other m (with_context m c x) c x (with_context_changed m c x name there) d apart)
    by false absent = ap (λ (cs : List Context). load (record m { contexts = cs }) d q) (absent_replaced (λ z. z.name) c x m.contexts absent)

module _ (m : Machine) (c : Name) (x : Context) (name : x.name ≡ c) (q : Name) where
  -- where the context is not there, nothing changes; else x is there
  pub load_then : (P : ℕ → Type 0) → (context_of m c ≡ no_context c → P (load m c q)) → P (load_in q x) → P (load (with_context m c x) c q)
  load_then P absent there = by (context_then m c x name)
    where
      by : ((with_context m c x ≡ m) × (context_of m c ≡ no_context c)) ⊎ (context_of (with_context m c x) c ≡ x) → P (load (with_context m c x) c q)
      by (inl a) = subst P (sym (ap (λ (k : Machine). load k c q) a.0)) (absent a.1)
      by (inr t) = subst P (sym (ap (load_in q) t)) there

nobody_reserves : (q : Name) (o : ObjName) → reserved_by q (nobody o) ≡ 0
unfolding reserved_by untold_count used_count
nobody_reserves q o = by (bytes_eq [] q)
  where
    by : (b : Bool) → (if b then 0 else 0) + (if b then 0 else 0) ≡ 0
    by true = refl
    by false = refl

-- ---- an end

module _ (m : Machine) (o : ObjName) (e : End) (q : Name) where
  pub end_accounts : load (with_end m o e) o.context q + reserved_by q (end_of m o) ≤ load m o.context q + reserved_by q e
  unfolding with_end with_end_in end_of reserved named
  end_accounts =
      let sum' = sum_replaced (reserved_by q) (λ z. z.name) (nobody o) o.name e (context_of m o.context).ends (nobody_reserves q o) in
      load_then m o.context (record (context_of m o.context) { ends = replaced (λ z. z.name) o.name e (context_of m o.context).ends }) (context_name m o.context) q
      (λ n. n + reserved_by q (named (λ z. z.name) (nobody o) o.name (context_of m o.context).ends) ≤ load m o.context q + reserved_by q e)
      (λ absent. let none : reserved_by q (named (λ z. z.name) (nobody o) o.name (context_of m o.context).ends) ≡ 0 = ap (λ (z : Context). reserved_by q (named (λ u. u.name) (nobody o) o.name z.ends)) absent ∙ nobody_reserves q o in omega (arith, none))
      (omega (arith, sum'))

  pub end_elsewhere : (d : Name) → d ≢ o.context → load (with_end m o e) d q ≡ load m d q
  unfolding with_end with_end_in
  end_elsewhere d apart = load_elsewhere m o.context (record (context_of m o.context) { ends = replaced (λ z. z.name) o.name e (context_of m o.context).ends }) d q (context_name m o.context) apart

-- the queues stay
pub end_queues : (m : Machine) (o : ObjName) (e : End) (c : Name) → (context_of (with_end m o e) c).queues ≡ (context_of m c).queues
unfolding with_end with_end_in context_of with_context
end_queues m o e c =
    related (λ (a b : Context). a.queues ≡ b.queues) (λ a. refl) (λ z. z.name) (no_context o.context) (no_context c) o.context c (record (context_of m o.context) { ends = replaced (λ z. z.name) o.name e (context_of m o.context).ends }) m.contexts refl refl

-- ---- queues

module _ (m : Machine) (c : Name) (qs : List CompletionQueue) (q : Name) where
  pub queues_account : load (with_queues m c qs) c q + entries_in q (context_of m c).queues ≤ load m c q + entries_in q qs
  unfolding with_queues reserved named
  queues_account =
      load_then m c (record (context_of m c) { queues = qs }) (context_name m c) q (λ n. n + entries_in q (context_of m c).queues ≤ load m c q + entries_in q qs)
      (λ absent. let none : entries_in q (context_of m c).queues ≡ 0 = ap (λ (z : Context). entries_in q z.queues) absent in omega (arith, none))
      (omega arith)

  pub queues_elsewhere : (d : Name) → d ≢ c → load (with_queues m c qs) d q ≡ load m d q
  unfolding with_queues
  queues_elsewhere d apart = load_elsewhere m c (record (context_of m c) { queues = qs }) d q (context_name m c) apart

module _ (m : Machine) (c sq : Name) (more : List Completion) (q : Name) where
  pub completing_accounts : load (completing m c sq more) c q ≤ load m c q + if_same sq q (length more)
  unfolding completing with_queue with_queue_in queue_of reserved
  completing_accounts =
      let long = longer_entries q sq more (context_of m c).queues in
      load_then m c (record (context_of m c) { queues = replaced (λ z. z.name) sq (longer (named (λ z. z.name) no_queue sq (context_of m c).queues) more) (context_of m c).queues }) (context_name m c) q
      (λ n. n ≤ load m c q + if_same sq q (length more)) (λ absent. omega arith) (omega (arith, long))

  pub completing_elsewhere : (d : Name) → d ≢ c → load (completing m c sq more) d q ≡ load m d q
  unfolding completing with_queue with_queue_in
  completing_elsewhere d apart =
      load_elsewhere m c (record (context_of m c) { queues = replaced (λ z. z.name) sq (longer (queue_of m c sq) more) (context_of m c).queues }) d q (context_name m c) apart

-- ---- regions

pub regions_load : (m : Machine) (c : Name) (rs : List Region) (d q : Name) → load (with_regions m c rs) d q ≡ load m d q
unfolding with_regions context_of with_context reserved
regions_load m c rs d q =
    related (λ (a b : Context). load_in q a ≡ load_in q b) (λ a. refl) (λ z. z.name) (no_context c) (no_context d) c d (record (context_of m c) { regions = rs }) m.contexts refl refl

pub regions_queues : (m : Machine) (c : Name) (rs : List Region) (d : Name) → (context_of (with_regions m c rs) d).queues ≡ (context_of m d).queues
unfolding with_regions context_of with_context
regions_queues m c rs d = related (λ (a b : Context). a.queues ≡ b.queues) (λ a. refl) (λ z. z.name) (no_context c) (no_context d) c d (record (context_of m c) { regions = rs }) m.contexts refl refl

-- ---- an end and the queues of its context

module _ (m : Machine) (o : ObjName) (e : End) (qs : List CompletionQueue) where
  -- what the queues get was reserved by the end
  pub settles : ((q : Name) → entries_in q qs + reserved_by q e ≤ entries_in q (context_of m o.context).queues + reserved_by q (end_of m o)) → (c q : Name) → load (with_queues (with_end m o e) o.context qs) c q ≤ load m c q
  settles fits c q = by (name_or_not c o.context)
    where
      here : load (with_queues (with_end m o e) o.context qs) o.context q ≤ load m o.context q
      here =
          let a = queues_account (with_end m o e) o.context qs q in
          let b = end_accounts m o e q in
          let same = ap (entries_in q) (end_queues m o e o.context) in
          let f = fits q in
          omega (arith, a, b, same, f)

      by : (c ≡ o.context) ⊎ (c ≢ o.context) → load (with_queues (with_end m o e) o.context qs) c q ≤ load m c q
      by (inl same) = subst (λ (d : Name). load (with_queues (with_end m o e) o.context qs) d q ≤ load m d q) (sym same) here
      by (inr apart) = let x = queues_elsewhere (with_end m o e) o.context qs q c apart in let y = end_elsewhere m o e q c apart in omega (arith, x, y)

-- an end that reserves no more
pub quiet_end : (m : Machine) (o : ObjName) (e : End) → ((q : Name) → reserved_by q e ≤ reserved_by q (end_of m o)) → (c q : Name) → load (with_end m o e) c q ≤ load m c q
quiet_end m o e fits c q = by (name_or_not c o.context)
  where
    here : load (with_end m o e) o.context q ≤ load m o.context q
    here = let b = end_accounts m o e q in let f = fits q in omega (arith, b, f)

    by : (c ≡ o.context) ⊎ (c ≢ o.context) → load (with_end m o e) c q ≤ load m c q
    by (inl same) = subst (λ (d : Name). load (with_end m o e) d q ≤ load m d q) (sym same) here
    by (inr apart) = let y = end_elsewhere m o e q c apart in omega (arith, y)
