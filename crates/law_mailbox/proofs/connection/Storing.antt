-- What is seen of the connections where bytes are stored in a region of the machine.
use Rattle.std.proofs.Common.{arith, ◌≡◌, ◌≢◌, ℕ, ◌+◌, ◌-◌, ◌≤◌, List, [], ◌∷◌, ◌++◌, drop, length, map, take, true, refl, sym, subst, ap, ◌∙◌, ◌⊎◌, inl, inr, length-append, length-drop, length-take}
use Rattle.std.specs.Prelude.{count_by, ◌==◌}
use Rattle.std.proofs.lemmas.Bool.Decides.{nat_tests}
use Rattle.rdma_types.specs.declared.names.Name.{Name}
use Rattle.rdma_types.specs.declared.names.ObjName.{ObjName}
use Rattle.rdma_types.specs.Limits.{most_bytes}
use Rattle.rdma_types.specs.Lists.{has_name, named, store_named}
use Rattle.rdma_types.specs.Memory.{put}
use Rattle.rdma_types.specs.Objects.{CompletionQueue, Region, no_queue, no_region}
use Rattle.packetless_machine.specs.Machine.{Context, End, Machine, context_of, end_of, has_context, queue_of, regions_of, with_context, with_regions}
use Rattle.packetless_machine.specs.Verbs.{has_region, overwritten, region_of, stored}
use Rattle.packetless_machine.proofs.Views.{end_of-with_regions}
use Rattle.law_simulation.proofs.relation.Machines.{MachineChanged, context_here, context_name, context_other, part_same, there_same, with_context_changed}
use Rattle.law_simulation.proofs.relation.Tables.{count_by-cons, has_name-store, map-store, name-named_there, name_or_not, name_tells, named-store_other, named-store_same, replaced-stored}
use Rattle.mailbox_rules.specs.Opening.{place_address, place_bytes, queue_name, receiver, receiver_end, receiver_key, receiver_region, sender, sender_end, sender_key, sender_region, staging_address}
use Rattle.law_mailbox.specs.Kept.{IsJoined, IsKeyedOnce, IsOpened, IsRegion, landing_offset, standing}

-- ---- bytes that are put

pub put_long : (bytes new : List ℕ) (place : ℕ) → place + length new ≤ length bytes → length (put bytes place new) ≡ length bytes
unfolding put
put_long bytes new place h = omega (arith, h, length-append (take place bytes) (new ++ drop (place + length new) bytes), length-append new (drop (place + length new) bytes), length-take place bytes, length-drop (place + length new) bytes)

-- ---- a region like another but for its bytes

pub record IsLikeRegion (r r' : Region) : Type 0 where
  pub domain : r'.domain ≡ r.domain
  pub base : r'.base ≡ r.base
  pub long : r'.length ≡ r.length
  pub rights : r'.rights ≡ r.rights
  pub keys : r'.keys ≡ r.keys
  pub size : length r'.bytes ≡ length r.bytes

like_itself : (r : Region) → IsLikeRegion r r
like_itself r = record { domain = refl; base = refl; long = refl; rights = refl; keys = refl; size = refl }

region_as : (r r' : Region) (base size rights key : ℕ) → IsLikeRegion r r' → IsRegion r base size rights key → IsRegion r' base size rights key
region_as r r' base size rights key like is = record {
  domain = like.domain ∙ is.domain;
  begins = like.base ∙ is.begins;
  long = like.long ∙ is.long;
  whole = like.size ∙ is.whole;
  granted = like.rights ∙ is.granted;
  keyed = like.keys ∙ is.keyed;
}

-- a key names as many regions as before
counted_store : (key_of : Region → ℕ) (n : Name) (r : Region) (regions : List Region) (k : ℕ) → has_name (λ x. x.name) n regions ≡ true → key_of r ≡ key_of (named (λ x. x.name) no_region n regions) →
    count_by (λ x. key_of x == k) (store_named (λ x. x.name) n r regions) ≡ count_by (λ x. key_of x == k) regions
unfolding has_name named store_named
counted_store key_of n r [] k there same = absurd (cc)
counted_store key_of n r (x ∷ xs) k there same =
    grind (arith, nat_tests, name_tells x.name n, count_by-cons (λ y. key_of y == k) x xs, count_by-cons (λ y. key_of y == k) r xs, count_by-cons (λ y. key_of y == k) x (store_named (λ y. y.name) n r xs), counted_store key_of n r xs k)

-- ---- a machine like another but for the bytes of its regions

pub record IsLikeMachine (m m' : Machine) : Type 0 where
  pub contexts : (c : Name) → has_context m' c ≡ has_context m c
  pub ends : (c : Name) → (context_of m' c).ends ≡ (context_of m c).ends
  pub queues : (c : Name) → (context_of m' c).queues ≡ (context_of m c).queues
  pub lengths : (c : Name) → map (λ r. r.length) (regions_of m' c) ≡ map (λ r. r.length) (regions_of m c)

pub like_machine_itself : (m : Machine) → IsLikeMachine m m
like_machine_itself m = record { contexts = λ c. refl; ends = λ c. refl; queues = λ c. refl; lengths = λ c. refl }

pub like_both : (m m' m'' : Machine) → IsLikeMachine m m' → IsLikeMachine m' m'' → IsLikeMachine m m''
like_both m m' m'' f g = record { contexts = λ c. g.contexts c ∙ f.contexts c; ends = λ c. g.ends c ∙ f.ends c; queues = λ c. g.queues c ∙ f.queues c; lengths = λ c. g.lengths c ∙ f.lengths c }

-- the same completions stand in its queues
pub standing_stays : (m m' : Machine) → IsLikeMachine m m' → (c : Name) → standing m' c ≡ standing m c
unfolding queue_of
standing_stays m m' like c = ap (λ (qs : List CompletionQueue). (named (λ x. x.name) no_queue queue_name qs).entries) (like.queues c)

-- ---- bytes of a region are overwritten

module _ (m : Machine) (o : ObjName) (address : ℕ) (bytes : List ℕ) (context : has_context m o.context ≡ true) (there : has_region m o ≡ true) (room : (address - (region_of m o).base) + length bytes ≤ length (region_of m o).bytes) where
  abbrev new : Region
  new = record (region_of m o) { bytes = put (region_of m o).bytes (address - (region_of m o).base) bytes }

  abbrev y : Context
  y = record (context_of m o.context) { regions = store_named (λ r. r.name) o.name new (context_of m o.context).regions }

  new_name : (record (region_of m o) { bytes = put (region_of m o).bytes (address - (region_of m o).base) bytes }).name ≡ o.name
  unfolding region_of
  new_name = name-named_there (λ r. r.name) no_region o.name (regions_of m o.context) there

  is_stored : stored m o address bytes ≡ with_context m o.context y
  unfolding stored with_regions overwritten
  is_stored = ap (λ (rs : List Region). with_context m o.context (record (context_of m o.context) { regions = rs })) (replaced-stored (λ r. r.name) o.name new (regions_of m o.context) there)

  changed : MachineChanged m (stored m o address bytes) o.context y
  changed = subst (λ (x : Machine). MachineChanged m x o.context y) (sym is_stored) (with_context_changed m o.context y (context_name m o.context) context)

  pub ends_stay : (q : ObjName) → end_of (stored m o address bytes) q ≡ end_of m q
  unfolding stored
  ends_stay q = end_of-with_regions m o.context _ q

  pub queues_stay : (c q : Name) → queue_of (stored m o address bytes) c q ≡ queue_of m c q
  unfolding queue_of
  queues_stay c q = part_same m (stored m o address bytes) o.context y changed (λ x. named (λ z. z.name) no_queue q x.queues) c refl

  regions_elsewhere : (c : Name) → c ≢ o.context → regions_of (stored m o address bytes) c ≡ regions_of m c
  regions_elsewhere c other = ap (λ (x : Context). x.regions) (context_other m (stored m o address bytes) o.context y changed c other)

  regions_here : regions_of (stored m o address bytes) o.context ≡ store_named (λ r. r.name) o.name new (regions_of m o.context)
  regions_here = ap (λ (x : Context). x.regions) (context_here m (stored m o address bytes) o.context y changed)

  pub region_here : region_of (stored m o address bytes) o ≡ new
  unfolding region_of
  region_here = ap (λ (rs : List Region). named (λ r. r.name) no_region o.name rs) regions_here ∙ named-store_same (λ r. r.name) no_region o.name new (regions_of m o.context) new_name

  region_beside : (q : ObjName) → q.context ≡ o.context → q.name ≢ o.name → region_of (stored m o address bytes) q ≡ region_of m q
  unfolding region_of
  region_beside q same other =
      ap (λ (c : Name). named (λ r. r.name) no_region q.name (regions_of (stored m o address bytes) c)) same
      ∙ (ap (λ (rs : List Region). named (λ r. r.name) no_region q.name rs) regions_here
      ∙ (named-store_other (λ r. r.name) no_region o.name q.name new (regions_of m o.context) new_name other
      ∙ ap (λ (c : Name). named (λ r. r.name) no_region q.name (regions_of m c)) (sym same)))

  pub region_elsewhere : (q : ObjName) → q.context ≢ o.context → region_of (stored m o address bytes) q ≡ region_of m q
  unfolding region_of
  region_elsewhere q other = ap (λ (rs : List Region). named (λ r. r.name) no_region q.name rs) (regions_elsewhere q.context other)

  new_like : IsLikeRegion (region_of m o) new
  new_like = record { domain = refl; base = refl; long = refl; rights = refl; keys = refl; size = put_long (region_of m o).bytes bytes (address - (region_of m o).base) room }

  each_like : (q : ObjName) → IsLikeRegion (region_of m q) (region_of (stored m o address bytes) q)
  each_like q = by (name_or_not q.context o.context) (name_or_not q.name o.name)
    where
      by : (q.context ≡ o.context) ⊎ (q.context ≢ o.context) → (q.name ≡ o.name) ⊎ (q.name ≢ o.name) → IsLikeRegion (region_of m q) (region_of (stored m o address bytes) q)
      by (inl a) (inl b) =
          let same : o ≡ q = (λ k. record { context = sym a k; name = sym b k }) in
          subst (λ (x : ObjName). IsLikeRegion (region_of m x) (region_of (stored m o address bytes) x)) same (subst (λ (r : Region). IsLikeRegion (region_of m o) r) (sym region_here) new_like)
      by (inl a) (inr b) = subst (λ (r : Region). IsLikeRegion (region_of m q) r) (sym (region_beside q a b)) (like_itself (region_of m q))
      by (inr a) b = subst (λ (r : Region). IsLikeRegion (region_of m q) r) (sym (region_elsewhere q a)) (like_itself (region_of m q))

  region_there : (q : ObjName) → has_region (stored m o address bytes) q ≡ has_region m q
  region_there q =
      part_same m (stored m o address bytes) o.context y changed (λ x. has_name (λ r. r.name) q.name x.regions) q.context
      (has_name-store (λ r. r.name) o.name q.name new (regions_of m o.context) there new_name)

  new_keys : (key_of : Region → ℕ) → key_of new ≡ key_of (region_of m o) → (c : Name) (key : ℕ) → count_by (λ r. key_of r == key) (regions_of (stored m o address bytes) c) ≡ count_by (λ r. key_of r == key) (regions_of m c)
  unfolding region_of
  new_keys key_of same c key =
      part_same m (stored m o address bytes) o.context y changed (λ x. count_by (λ r. key_of r == key) x.regions) c (counted_store key_of o.name new (regions_of m o.context) key there same)

  keyed_stays : (c : Name) (key : ℕ) → IsKeyedOnce (regions_of m c) key → IsKeyedOnce (regions_of (stored m o address bytes) c) key
  keyed_stays c key once = record {
    local_once = subst (λ (n : ℕ). n ≤ 1) (sym (new_keys (λ r. r.keys.local) refl c key)) once.local_once;
    remote_once = subst (λ (n : ℕ). n ≤ 1) (sym (new_keys (λ r. r.keys.remote) refl c (key + 1))) once.remote_once;
  }

  pub opened_stays : (i : ℕ) → IsOpened m i → IsOpened (stored m o address bytes) i
  opened_stays i x = record {
    sender_there = there_same m (stored m o address bytes) o.context y changed (sender_end i) (λ n. refl) ∙ x.sender_there;
    receiver_there = there_same m (stored m o address bytes) o.context y changed (receiver_end i) (λ n. refl) ∙ x.receiver_there;
    sender_joined = subst (λ (e : End). IsJoined e (receiver_end i)) (sym (ends_stay (sender_end i))) x.sender_joined;
    receiver_joined = subst (λ (e : End). IsJoined e (sender_end i)) (sym (ends_stay (receiver_end i))) x.receiver_joined;
    sender_queue = part_same m (stored m o address bytes) o.context y changed (λ z. has_name (λ q. q.name) queue_name z.queues) (sender i) refl ∙ x.sender_queue;
    receiver_queue = part_same m (stored m o address bytes) o.context y changed (λ z. has_name (λ q. q.name) queue_name z.queues) receiver refl ∙ x.receiver_queue;
    sender_region_there = region_there (sender_region i) ∙ x.sender_region_there;
    receiver_region_there = region_there (receiver_region i) ∙ x.receiver_region_there;
    sender_region_is = region_as (region_of m (sender_region i)) (region_of (stored m o address bytes) (sender_region i)) staging_address (place_bytes + most_bytes) 5 (sender_key i) (each_like (sender_region i)) x.sender_region_is;
    receiver_region_is = region_as (region_of m (receiver_region i)) (region_of (stored m o address bytes) (receiver_region i)) (place_address i 0) (landing_offset + most_bytes) 1 (receiver_key i) (each_like (receiver_region i)) x.receiver_region_is;
    sender_keyed = keyed_stays (sender i) (sender_key i) x.sender_keyed;
    receiver_keyed = keyed_stays receiver (receiver_key i) x.receiver_keyed;
  }

  contexts_stay : (c : Name) → has_context (stored m o address bytes) c ≡ has_context m c
  unfolding has_context
  contexts_stay c = ap (λ (cs : List Context). has_name (λ x. x.name) c cs) changed.contexts ∙ has_name-store (λ x. x.name) o.context c y m.contexts context (context_name m o.context)

  new_length : new.length ≡ (named (λ r. r.name) no_region o.name (regions_of m o.context)).length
  unfolding region_of
  new_length = refl

  pub stored_like : IsLikeMachine m (stored m o address bytes)
  stored_like = record {
    contexts = contexts_stay;
    ends = λ c. part_same m (stored m o address bytes) o.context y changed (λ x. x.ends) c refl;
    queues = λ c. part_same m (stored m o address bytes) o.context y changed (λ x. x.queues) c refl;
    lengths = λ c. part_same m (stored m o address bytes) o.context y changed (λ x. map (λ r. r.length) x.regions) c (map-store (λ r. r.length) (λ r. r.name) no_region o.name new (regions_of m o.context) there new_length);
  }
