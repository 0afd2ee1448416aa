-- Completion queues keep room for what is reserved there, and a context stays sound where one of its ends goes on.
use Rattle.std.proofs.Common.{arith, ◌≡◌, ◌≢◌, ◌⊎◌, ◌≤◌, ◌<◌, ◌+◌, ◌-◌, ℕ, zero, suc, List, [], ◌∷◌, ◌++◌, map, length, true, false, Bool, refl, sym, ap, ◌∙◌, inl, inr, subst, length-append}
use Rattle.std.specs.Prelude.{All, AllPairs, bytes_eq, Option, Some, None, if◌then◌else◌, sum_by}
use Rattle.std.proofs.lemmas.List.Elements.{All-cons, All-head, All-tail, All-append}
use Rattle.rdma_types.specs.declared.names.Name.{Name}
use Rattle.rdma_types.specs.Spelled.{is_name}
use Rattle.rdma_types.specs.Limits.{most_domains, most_ends, most_queues, most_regions}
use Rattle.rdma_types.specs.declared.requests.Completion.{Completion}
use Rattle.rdma_types.specs.declared.requests.Receive.{Receive}
use Rattle.rdma_types.specs.Lists.{has_name, named, store_named}
use Rattle.rdma_types.specs.Memory.{local_key}
use Rattle.rdma_types.specs.Objects.{CompletionQueue, Region, no_queue}
use Rattle.rdma_types.proofs.Tables.{named-store_same, named-store_other}
use Rattle.protocol.specs.EndWords.{completing, in_use_by, with_queue, with_entries}
use Rattle.protocol.specs.Lawful.{AreNames, IsLawfulEntry}
use Rattle.protocol.specs.Memory.{untold_of}
use Rattle.protocol.specs.Refusals.{count_if, has_end, has_queue, reserved, reserved_by}
use Rattle.protocol.specs.State.{Context, End, Link, no_end, queue_at}
use Rattle.law_devices.specs.Sound.{AreSoundParts, IsSoundContext, IsSoundEnd, IsSoundLink, IsSoundQueue, IsSoundReceive, IsSoundRegion, IsWithinRoom, load_of, names_of_queues, plan_of, plans}
use Rattle.law_devices.proofs.Tables.{All-named, All-store, map-store, name-named_there, name_tells, sum_by-store, word-there}

-- ---- queues

abbrev pub queue_named : Name → List CompletionQueue → CompletionQueue
queue_named n qs = named (λ q. q.name) no_queue n qs

-- the same queues, each with at most so many entries more
pub record Gains (qs qs' : List CompletionQueue) (more : Name → ℕ) : Type 0 where
  pub names : names_of_queues qs' ≡ names_of_queues qs
  pub queues : All IsSoundQueue qs'
  pub capacity : (n : Name) → has_name (λ q. q.name) n qs ≡ true → (queue_named n qs').capacity ≡ (queue_named n qs).capacity
  pub entries : (n : Name) → has_name (λ q. q.name) n qs ≡ true → length (queue_named n qs').entries ≤ length (queue_named n qs).entries + more n

pub gains-nothing : (qs : List CompletionQueue) (more : Name → ℕ) → All IsSoundQueue qs → Gains qs qs more
gains-nothing qs more all = record { names = refl; queues = all; capacity = λ n there. refl; entries = λ n there. omega arith }

-- queues of the same names have the same ones
pub has-same : (qs qs' : List CompletionQueue) (n : Name) → names_of_queues qs' ≡ names_of_queues qs → has_name (λ q. q.name) n qs' ≡ has_name (λ q. q.name) n qs
has-same qs qs' n same = sym (word-there (λ (q : CompletionQueue). q.name) n qs') ∙ (ap (has_name (λ x. x) n) same ∙ word-there (λ (q : CompletionQueue). q.name) n qs)

abbrev longer : Context → List Completion → Name → CompletionQueue
longer c es k = record (queue_named k c.queues) { entries = (queue_named k c.queues).entries ++ es }

-- completions at the end of a queue
pub gains-completing : (qs : List CompletionQueue) (c : Context) (more : Name → ℕ) (q : Name) (es : List Completion) → Gains qs c.queues more → has_name (λ x. x.name) q qs ≡ true → All IsLawfulEntry es
    → Gains qs (completing c q es).queues (λ n. more n + count_if (bytes_eq q n) (length es))
unfolding completing with_queue with_entries
gains-completing qs c more q es g there lawful =
    let here : has_name (λ x. x.name) q c.queues ≡ true = has-same qs c.queues q g.names ∙ there in
    let named_so : (queue_named q c.queues).name ≡ q = name-named_there (λ x. x.name) no_queue q c.queues here in
    let old : IsSoundQueue (queue_named q c.queues) = All-named IsSoundQueue (λ x. x.name) no_queue q c.queues g.queues here in
    subst (λ k. Gains qs (store_named (λ x. x.name) k (longer c es q) c.queues) (λ n. more n + count_if (bytes_eq q n) (length es))) (sym named_so) (record {
      names = map-store (λ (x : CompletionQueue). x.name) (λ x. x.name) no_queue q (longer c es q) c.queues here refl ∙ g.names;
      queues = All-store IsSoundQueue (λ x. x.name) q (longer c es q) c.queues g.queues (record { some_room = old.some_room; little_room = old.little_room; entries = All-append IsLawfulEntry (queue_named q c.queues).entries es old.entries lawful });
      capacity = λ n has. by_name n has (name_tells q n) named_so;
      entries = λ n has. by_count n has (name_tells q n) named_so;
    })
  where
    by_name : (n : Name) → has_name (λ x. x.name) n qs ≡ true → ((bytes_eq q n ≡ true) × (q ≡ n)) ⊎ ((bytes_eq q n ≡ false) × (q ≢ n)) → (queue_named q c.queues).name ≡ q → (queue_named n (store_named (λ x. x.name) q (longer c es q) c.queues)).capacity ≡ (queue_named n qs).capacity
    by_name n has (inl t) is = ap (λ k. (queue_named k (store_named (λ x. x.name) q (longer c es q) c.queues)).capacity) (sym t.1) ∙ (ap (λ (z : CompletionQueue). z.capacity) (named-store_same (λ x. x.name) no_queue q (longer c es q) c.queues is) ∙ (ap (λ k. (queue_named k c.queues).capacity) t.1 ∙ g.capacity n has))
    by_name n has (inr t) is = ap (λ (z : CompletionQueue). z.capacity) (named-store_other (λ x. x.name) no_queue q n (longer c es q) c.queues is t.0) ∙ g.capacity n has

    by_count : (n : Name) → has_name (λ x. x.name) n qs ≡ true → ((bytes_eq q n ≡ true) × (q ≡ n)) ⊎ ((bytes_eq q n ≡ false) × (q ≢ n)) → (queue_named q c.queues).name ≡ q
        → length (queue_named n (store_named (λ x. x.name) q (longer c es q) c.queues)).entries ≤ length (queue_named n qs).entries + (more n + count_if (bytes_eq q n) (length es))
    by_count n has (inl t) is =
        let e : length (queue_named n (store_named (λ x. x.name) q (longer c es q) c.queues)).entries ≡ length ((queue_named n c.queues).entries ++ es) = ap (λ k. length (queue_named k (store_named (λ x. x.name) q (longer c es q) c.queues)).entries) (sym t.1) ∙ (ap (λ (z : CompletionQueue). length z.entries) (named-store_same (λ x. x.name) no_queue q (longer c es q) c.queues is) ∙ ap (λ k. length ((queue_named k c.queues).entries ++ es)) t.1) in
        let a = length-append (queue_named n c.queues).entries es in
        let k : count_if (bytes_eq q n) (length es) ≡ length es = ap (λ b. count_if b (length es)) t.0 in
        omega (arith, e, a, k, g.entries n has)
    by_count n has (inr t) is =
        let e : length (queue_named n (store_named (λ x. x.name) q (longer c es q) c.queues)).entries ≡ length (queue_named n c.queues).entries = ap (λ (z : CompletionQueue). length z.entries) (named-store_other (λ x. x.name) no_queue q n (longer c es q) c.queues is t.0) in
        omega (arith, e, g.entries n has)

-- ---- an end in its context

-- the end is the one of its name
pub record IsHere (c : Context) (e : End) : Type 0 where
  pub there : has_name (λ x. x.name) e.name c.ends ≡ true
  pub is : named (λ x. x.name) no_end e.name c.ends ≡ e

pub end-sound : (c : Context) (e : End) → AreSoundParts c → IsHere c e → IsSoundEnd c.domains (names_of_queues c.queues) (plans c.regions) e
end-sound c e s here = subst (IsSoundEnd c.domains (names_of_queues c.queues) (plans c.regions)) here.is (All-named (IsSoundEnd c.domains (names_of_queues c.queues) (plans c.regions)) (λ x. x.name) no_end e.name c.ends s.ends here.there)

-- the end's work alone changes what is reserved
pub reserved-stored : (c c' : Context) (e e' : End) (n : Name) → IsHere c e → c'.ends ≡ store_named (λ x. x.name) e.name e' c.ends → reserved c' n + reserved_by n e ≡ reserved c n + reserved_by n e'
unfolding reserved
reserved-stored c c' e e' n here ends =
    ap (λ es. sum_by (reserved_by n) es + reserved_by n e) ends
    ∙ (ap (λ x. sum_by (reserved_by n) (store_named (λ x. x.name) e.name e' c.ends) + reserved_by n x) (sym here.is)
    ∙ sum_by-store (reserved_by n) (λ x. x.name) no_end e.name e' c.ends here.there)

-- the parts after an end's step: all that is not work stays
pub record Steps (c : Context) (e e' : End) (c' : Context) : Type 0 where
  pub name : c'.name ≡ c.name
  pub domains : c'.domains ≡ c.domains
  pub same_plans : plans c'.regions ≡ plans c.regions
  pub regions : All (IsSoundRegion c.domains) c'.regions
  pub queue_names : names_of_queues c'.queues ≡ names_of_queues c.queues
  pub queues : All IsSoundQueue c'.queues
  pub ends : c'.ends ≡ store_named (λ x. x.name) e.name e' c.ends
  pub end_name : e'.name ≡ e.name
  pub number : e'.number ≡ e.number
  pub sound : IsSoundEnd c.domains (names_of_queues c.queues) (plans c.regions) e'

names_of_plans : (rs : List Region) → map (λ r. r.name) (plans rs) ≡ map (λ r. r.name) rs
names_of_plans [] = refl
names_of_plans (r ∷ rs) = ap (λ ns. r.name ∷ ns) (names_of_plans rs)

keys_of_plans : (rs : List Region) → map local_key (plans rs) ≡ map local_key rs
keys_of_plans [] = refl
keys_of_plans (r ∷ rs) = ap (λ ns. r.keys.local ∷ ns) (keys_of_plans rs)

pub same_region_names : (rs rs' : List Region) → plans rs' ≡ plans rs → map (λ r. r.name) rs' ≡ map (λ r. r.name) rs
same_region_names rs rs' same = sym (names_of_plans rs') ∙ (ap (map (λ (r : Region). r.name)) same ∙ names_of_plans rs)

pub same_region_keys : (rs rs' : List Region) → plans rs' ≡ plans rs → map local_key rs' ≡ map local_key rs
same_region_keys rs rs' same = sym (keys_of_plans rs') ∙ (ap (map local_key) same ∙ keys_of_plans rs)

-- the parts of a context whose things have the same names, numbers and keys, with other ends and queues
pub record Keeps (c c' : Context) : Type 0 where
  pub name : c'.name ≡ c.name
  pub domains : c'.domains ≡ c.domains
  pub same_plans : plans c'.regions ≡ plans c.regions
  pub regions : All (IsSoundRegion c.domains) c'.regions
  pub queue_names : names_of_queues c'.queues ≡ names_of_queues c.queues
  pub queues : All IsSoundQueue c'.queues
  pub end_names : map (λ x. x.name) c'.ends ≡ map (λ x. x.name) c.ends
  pub numbers : map (λ x. x.number) c'.ends ≡ map (λ x. x.number) c.ends
  pub ends : All (IsSoundEnd c.domains (names_of_queues c.queues) (plans c.regions)) c'.ends

pub parts-kept : (c c' : Context) → AreSoundParts c → Keeps c c' → AreSoundParts c'
parts-kept c c' s t = record {
  name = ap is_name t.name ∙ s.name;
  domains = subst (λ ns. AreNames ns most_domains) (sym t.domains) s.domains;
  region_names = subst (λ ns. AreNames ns most_regions) (sym (same_region_names c.regions c'.regions t.same_plans)) s.region_names;
  regions = subst (λ ds. All (IsSoundRegion ds) c'.regions) (sym t.domains) t.regions;
  keys = subst (AllPairs (λ a b. a ≢ b)) (sym (same_region_keys c.regions c'.regions t.same_plans)) s.keys;
  queue_names = subst (λ ns. AreNames ns most_queues) (sym t.queue_names) s.queue_names;
  queues = t.queues;
  end_names = subst (λ ns. AreNames ns most_ends) (sym t.end_names) s.end_names;
  numbers = subst (AllPairs (λ a b. a ≢ b)) (sym t.numbers) s.numbers;
  ends =
      subst (λ ds. All (IsSoundEnd ds (names_of_queues c'.queues) (plans c'.regions)) c'.ends) (sym t.domains)
      (subst (λ ns. All (IsSoundEnd c.domains ns (plans c'.regions)) c'.ends) (sym t.queue_names)
      (subst (λ rs. All (IsSoundEnd c.domains (names_of_queues c.queues) rs) c'.ends) (sym t.same_plans) t.ends));
}

pub ends-named : (c : Context) (e e' : End) (es : List End) → IsHere c e → es ≡ store_named (λ x. x.name) e.name e' c.ends → e'.name ≡ e.name → map (λ x. x.name) es ≡ map (λ x. x.name) c.ends
ends-named c e e' es here ends name = ap (map (λ (x : End). x.name)) ends ∙ map-store (λ (x : End). x.name) (λ x. x.name) no_end e.name e' c.ends here.there (name ∙ ap (λ (x : End). x.name) (sym here.is))

pub ends-numbered : (c : Context) (e e' : End) (es : List End) → IsHere c e → es ≡ store_named (λ x. x.name) e.name e' c.ends → e'.number ≡ e.number → map (λ x. x.number) es ≡ map (λ x. x.number) c.ends
ends-numbered c e e' es here ends number = ap (map (λ (x : End). x.number)) ends ∙ map-store (λ (x : End). x.number) (λ x. x.name) no_end e.name e' c.ends here.there (number ∙ ap (λ (x : End). x.number) (sym here.is))

pub parts-stepped : (c : Context) (e e' : End) (c' : Context) → AreSoundParts c → IsHere c e → Steps c e e' c' → AreSoundParts c'
parts-stepped c e e' c' s here t = parts-kept c c' s (record {
  name = t.name;
  domains = t.domains;
  same_plans = t.same_plans;
  regions = t.regions;
  queue_names = t.queue_names;
  queues = t.queues;
  end_names = ends-named c e e' c'.ends here t.ends t.end_name;
  numbers = ends-numbered c e e' c'.ends here t.ends t.number;
  ends = subst (All (IsSoundEnd c.domains (names_of_queues c.queues) (plans c.regions))) (sym t.ends) (All-store (IsSoundEnd c.domains (names_of_queues c.queues) (plans c.regions)) (λ x. x.name) e.name e' c.ends s.ends t.sound);
})

-- .. where each queue has room for what its end's work then takes
pub stepped-sound : (c : Context) (e e' : End) (c' : Context) (extra : Name → ℕ) → IsSoundContext c → IsHere c e → Steps c e e' c'
    → ((n : Name) → has_queue c n ≡ true → (queue_at c' n).capacity ≡ (queue_at c n).capacity)
    → ((n : Name) → has_queue c n ≡ true → length (queue_at c' n).entries + reserved_by n e' ≤ (length (queue_at c n).entries + reserved_by n e) + extra n)
    → ((n : Name) → has_queue c n ≡ true → load_of c n + extra n ≤ (queue_at c n).capacity) → IsSoundContext c'
stepped-sound c e e' c' extra s here t capacity less room = record {
  parts = parts-stepped c e e' c' s.parts here t;
  room = λ n has. fits n (sym (has-same c.queues c'.queues n t.queue_names) ∙ has);
}
  where
    fits : (n : Name) → has_queue c n ≡ true → load_of c' n ≤ (queue_at c' n).capacity
    fits n has =
        let sum = reserved-stored c c' e e' n here t.ends in
        omega (arith, sum, less n has, room n has, capacity n has)

-- ---- an end goes on

-- an end with other receives and another link
abbrev pub end_with : End → List Receive → Link → End
end_with e us l = record e { unused = us; link = Some l }

-- one end has gone on: its work became completions, bytes of granted places changed, and all else stays
pub record Follows (c : Context) (e : End) (l : Link) (unused : List Receive) (link : Link) (told served : ℕ) (c' : Context) : Type 0 where
  pub name : c'.name ≡ c.name
  pub domains : c'.domains ≡ c.domains
  pub same_plans : plans c'.regions ≡ plans c.regions
  pub regions : All (IsSoundRegion c.domains) c'.regions
  pub gains : Gains c.queues c'.queues (λ n. count_if (bytes_eq e.send_cq n) told + count_if (bytes_eq e.recv_cq n) served)
  pub ends : c'.ends ≡ store_named (λ x. x.name) e.name (end_with e unused link) c.ends
  pub sound : IsSoundLink (plans c.regions) e.domain e.send_depth link
  pub receives : All (IsSoundReceive (plans c.regions) e.domain) unused
  pub no_unused : link.ended ≡ true → unused ≡ []
  pub few_unused : length unused ≤ length e.unused
  pub requests_pay : told + length link.sender.untold ≤ length l.sender.untold
  pub receives_pay : served + (length unused + length (in_use_by link.receiver.progress)) ≤ length e.unused + length (in_use_by l.receiver.progress)

count_sum : (a b : Bool) (x x' y y' s s' : ℕ) → s + x' ≤ x → s' + y' ≤ y → (count_if a s + count_if b s') + (count_if a x' + count_if b y') ≤ count_if a x + count_if b y
count_sum true true x x' y y' s s' h k = omega (arith, h, k)
count_sum true false x x' y y' s s' h k = omega (arith, h, k)
count_sum false true x x' y y' s s' h k = omega (arith, h, k)
count_sum false false x x' y y' s s' h k = omega arith

pub follows-sound : (c : Context) (e : End) (l : Link) (unused : List Receive) (link : Link) (told served : ℕ) (c' : Context) → IsSoundContext c → IsHere c e → e.link ≡ Some l → Follows c e l unused link told served c' → IsSoundContext c'
unfolding reserved_by
follows-sound c e l unused link told served c' s here linked f = record {
  parts = parts-stepped c e (end_with e unused link) c' s.parts here (record {
    name = f.name;
    domains = f.domains;
    same_plans = f.same_plans;
    regions = f.regions;
    queue_names = f.gains.names;
    queues = f.gains.queues;
    ends = f.ends;
    end_name = refl;
    number = refl;
    sound =
        let old = end-sound c e s.parts here in
        record {
          number = old.number;
          domain = old.domain;
          send_cq = old.send_cq;
          recv_cq = old.recv_cq;
          some_sends = old.some_sends;
          few_sends = old.few_sends;
          some_receives = old.some_receives;
          few_receives = old.few_receives;
          unused_fit = omega (arith, f.few_unused, old.unused_fit);
          receives = f.receives;
          state = f.sound;
          no_unused = f.no_unused;
        };
  });
  room = λ n has. fits n (sym (has-same c.queues c'.queues n f.gains.names) ∙ has);
}
  where
    less : (n : Name) → (count_if (bytes_eq e.send_cq n) told + count_if (bytes_eq e.recv_cq n) served) + reserved_by n (end_with e unused link) ≤ reserved_by n e
    less n =
        subst (λ o. (count_if (bytes_eq e.send_cq n) told + count_if (bytes_eq e.recv_cq n) served) + (count_if (bytes_eq e.send_cq n) (length link.sender.untold) + count_if (bytes_eq e.recv_cq n) (length unused + length (in_use_by link.receiver.progress))) ≤ reserved_by n (record e { link = o })) (sym linked)
        (count_sum (bytes_eq e.send_cq n) (bytes_eq e.recv_cq n) (length l.sender.untold) (length link.sender.untold) (length e.unused + length (in_use_by l.receiver.progress)) (length unused + length (in_use_by link.receiver.progress)) told served f.requests_pay f.receives_pay)

    fits : (n : Name) → has_queue c n ≡ true → load_of c' n ≤ (queue_at c' n).capacity
    fits n has =
        let sum = reserved-stored c c' e (end_with e unused link) n here f.ends in
        let gained = f.gains.entries n has in
        let old = s.room n has in
        omega (arith, sum, gained, old, f.gains.capacity n has, less n)
