-- New things keep a context sound.
use Rattle.std.proofs.Common.{arith, ◌≡◌, ◌≢◌, ◌⊎◌, ◌≤◌, ◌<◌, ◌+◌, ◌-◌, ◌*◌, ◌/◌, ◌%◌, ◌^◌, ℕ, zero, suc, List, [], ◌∷◌, ◌++◌, map, length, get_or, true, false, Bool, refl, sym, ap, ◌∙◌, inl, inr, subst, length-append}
use Rattle.std.specs.Prelude.{All, AllPairs, bytes_eq, Option, Some, None, if◌then◌else◌, nat_lt, nat_le, not, ◌==◌, ◌&&◌, ◌||◌, slice_get, sum_by, replicate}
use Rattle.std.proofs.lemmas.Bool.Decides.{nat_tests}
use Rattle.std.proofs.lemmas.List.Elements.{All-append, All-cons, All-head, All-nil, All-tail}
use Rattle.std.proofs.lemmas.List.Sums.{sum_by-cons}
use Rattle.rdma_types.specs.declared.names.Name.{Name}
use Rattle.rdma_types.specs.declared.requests.Receive.{Receive}
use Rattle.rdma_types.specs.declared.rights.Rights.{Rights}
use Rattle.rdma_types.specs.Limits.{most_capacity, most_depth, most_domains, most_ends, most_keys, most_numbers, most_queues, most_region_bytes, most_regions}
use Rattle.rdma_types.specs.Lists.{has_name, has_word, named}
use Rattle.rdma_types.specs.Memory.{LocalWrite, Right, landing_right, local_key}
use Rattle.rdma_types.specs.Objects.{CompletionQueue, Posted, Region, no_queue}
use Rattle.rdma_types.specs.Spelled.{is_name}
use Rattle.rdma_types.proofs.Tables.{name_is}
use Rattle.std.proofs.lemmas.List.{length-map}
use Rattle.protocol.specs.DeviceStep.{keys_of, number_of, new_context, with_domain, with_new_end, with_new_queue, with_new_region}
use Rattle.protocol.specs.EndWords.{in_use}
use Rattle.protocol.specs.Lawful.{AreNames, IsLawfulEntry, is_local_key, is_number}
use Rattle.protocol.specs.Memory.{untold_of}
use Rattle.protocol.specs.Refusals.{count_if, has_queue, reserved, reserved_by}
use Rattle.protocol.specs.State.{Context, Device, End, InSend, InWrite, Link, NoMessage, Progress, queue_at}
use Rattle.law_devices.specs.Sound.{AreCounted, AreSoundParts, IsCounted, IsGrantedTo, IsSoundContext, IsSoundDevice, IsSoundEnd, IsSoundLink, IsSoundProgress, IsSoundQueue, IsSoundReceive, IsSoundReceiver, IsSoundRegion, IsSoundRequest, IsSoundSend, IsSoundState, IsSoundWrite, load_of, names_of_queues, plan_of, plans}
use Rattle.law_devices.proofs.Ends.{All-map}
use Rattle.law_devices.proofs.Founds.{not-false}
use Rattle.law_devices.proofs.Pairs.{AllPairs-push}
use Rattle.law_devices.proofs.Regions.{granted-push, push_at}
use Rattle.law_devices.proofs.Tables.{has_name-push, name_tells, named-push_has, named-push_lacks, word-there}

-- ---- lists with one more

pub map-push : {A B : Type 0} (f : A → B) (xs : List A) (y : A) → map f (xs ++ y ∷ []) ≡ map f xs ++ f y ∷ []
map-push f [] y = refl
map-push f (x ∷ xs) y = ap (λ zs. f x ∷ zs) (map-push f xs y)

absent : (n : Name) (ns : List Name) → has_word n ns ≡ false → All (λ x. x ≢ n) ns
unfolding has_name
absent n [] h = All-nil (λ x. x ≢ n)
absent n (x ∷ xs) h = elim (name_tells x n) [
  | inl t ↦ absurd (cc (t.0, or_first (bytes_eq x n) (has_word n xs) h))
  | inr t ↦ All-cons (λ y. y ≢ n) x xs t.1 (absent n xs (or_second (bytes_eq x n) (has_word n xs) h))
]
  where
    or_first : (a b : Bool) → (a || b) ≡ false → a ≡ false
    or_first true b g = absurd (cc)
    or_first false b g = refl

    or_second : (a b : Bool) → (a || b) ≡ false → b ≡ false
    or_second true b g = absurd (cc)
    or_second false b g = g

less_full : (a b : ℕ) → nat_le a b ≡ false → b < a
less_full a b h = grind (arith, nat_tests, h)

-- one more name
pub names-push : (n : Name) (ns : List Name) (most : ℕ) → AreNames ns most → is_name n ≡ true → has_word n ns ≡ false → nat_le most (length ns) ≡ false → AreNames (ns ++ n ∷ []) most
names-push n ns most h spelled new room = record {
  few = omega (arith, length-append ns (n ∷ []), less_full most (length ns) room);
  spelled = All-append (λ x. is_name x ≡ true) ns (n ∷ []) h.spelled (All-cons (λ x. is_name x ≡ true) n [] spelled (All-nil (λ x. is_name x ≡ true)));
  distinct = AllPairs-push (λ a b. a ≢ b) ns n h.distinct (absent n ns new);
}

pub word-push : (n m : Name) (ns : List Name) → has_word m ns ≡ true → has_word m (ns ++ n ∷ []) ≡ true
word-push n m ns h = has_name-push (λ x. x) m ns n ∙ ap (λ b. b || bytes_eq n m) h

pub all-weaker : {A : Type 0} (P Q : A → Type 0) (xs : List A) → ((x : A) → P x → Q x) → All P xs → All Q xs
all-weaker P Q [] h all = All-nil Q
all-weaker P Q (x ∷ xs) h all = All-cons Q x xs (h x (All-head P x xs all)) (all-weaker P Q xs h (All-tail P x xs all))

all-push : {A : Type 0} (P : A → Type 0) (xs : List A) (y : A) → All P xs → P y → All P (xs ++ y ∷ [])
all-push P xs y all h = All-append P xs (y ∷ []) all (All-cons P y [] h (All-nil P))

-- ---- a context

pub new-sound : (n : Name) → is_name n ≡ true → IsSoundContext (new_context n)
unfolding has_name
new-sound n spelled = record {
  parts = record {
    name = spelled;
    domains = record { few = omega arith; spelled = All-nil (λ x. is_name x ≡ true); distinct = λ i j d lt below. absurd (omega (arith, below)) };
    region_names = record { few = omega arith; spelled = All-nil (λ x. is_name x ≡ true); distinct = λ i j d lt below. absurd (omega (arith, below)) };
    regions = All-nil (IsSoundRegion []);
    keys = λ i j d lt below. absurd (omega (arith, below));
    queue_names = record { few = omega arith; spelled = All-nil (λ x. is_name x ≡ true); distinct = λ i j d lt below. absurd (omega (arith, below)) };
    queues = All-nil IsSoundQueue;
    end_names = record { few = omega arith; spelled = All-nil (λ x. is_name x ≡ true); distinct = λ i j d lt below. absurd (omega (arith, below)) };
    numbers = λ i j d lt below. absurd (omega (arith, below));
    ends = All-nil (IsSoundEnd [] [] []);
  };
  room = λ m has. absurd (cc);
}

-- ---- a domain

domain-region : (n : Name) (ds : List Name) (r : Region) → IsSoundRegion ds r → IsSoundRegion (ds ++ n ∷ []) r
domain-region n ds r h = record { domain = word-push n r.domain ds h.domain; base = h.base; some_bytes = h.some_bytes; few_bytes = h.few_bytes; rights = h.rights; local = h.local; remote = h.remote; whole = h.whole }

domain-end : (n : Name) (ds qs : List Name) (rs : List Region) (e : End) → IsSoundEnd ds qs rs e → IsSoundEnd (ds ++ n ∷ []) qs rs e
domain-end n ds qs rs e h = record {
  number = h.number;
  domain = word-push n e.domain ds h.domain;
  send_cq = h.send_cq;
  recv_cq = h.recv_cq;
  some_sends = h.some_sends;
  few_sends = h.few_sends;
  some_receives = h.some_receives;
  few_receives = h.few_receives;
  unused_fit = h.unused_fit;
  receives = h.receives;
  state = h.state;
  no_unused = h.no_unused;
}

pub domain-sound : (c : Context) (n : Name) → IsSoundContext c → is_name n ≡ true → has_word n c.domains ≡ false → nat_le most_domains (length c.domains) ≡ false → IsSoundContext (with_domain c n)
unfolding with_domain reserved
domain-sound c n s spelled new room = record {
  parts = record {
    name = s.parts.name;
    domains = names-push n c.domains most_domains s.parts.domains spelled new room;
    region_names = s.parts.region_names;
    regions = all-weaker (IsSoundRegion c.domains) (IsSoundRegion (c.domains ++ n ∷ [])) c.regions (domain-region n c.domains) s.parts.regions;
    keys = s.parts.keys;
    queue_names = s.parts.queue_names;
    queues = s.parts.queues;
    end_names = s.parts.end_names;
    numbers = s.parts.numbers;
    ends = all-weaker (IsSoundEnd c.domains (names_of_queues c.queues) (plans c.regions)) (IsSoundEnd (c.domains ++ n ∷ []) (names_of_queues c.queues) (plans c.regions)) c.ends (domain-end n c.domains (names_of_queues c.queues) (plans c.regions)) s.parts.ends;
  };
  room = s.room;
}

-- ---- a completion queue

queue-end : (q : Name) (ds qs : List Name) (rs : List Region) (e : End) → IsSoundEnd ds qs rs e → IsSoundEnd ds (qs ++ q ∷ []) rs e
queue-end q ds qs rs e h = record {
  number = h.number;
  domain = h.domain;
  send_cq = word-push q e.send_cq qs h.send_cq;
  recv_cq = word-push q e.recv_cq qs h.recv_cq;
  some_sends = h.some_sends;
  few_sends = h.few_sends;
  some_receives = h.some_receives;
  few_receives = h.few_receives;
  unused_fit = h.unused_fit;
  receives = h.receives;
  state = h.state;
  no_unused = h.no_unused;
}

other-word : (m n : Name) (ns : List Name) → has_word m ns ≡ true → has_word n ns ≡ false → bytes_eq m n ≡ false
other-word m n ns h k = elim (name_tells m n) [
  | inl t ↦ absurd (cc (sym (ap (λ x. has_word x ns) t.1) ∙ h, k))
  | inr t ↦ t.0
]

-- nothing is reserved in a queue that is not there
pub nothing-reserved : (ds qs : List Name) (rs : List Region) (n : Name) (es : List End) → All (IsSoundEnd ds qs rs) es → has_word n qs ≡ false → sum_by (reserved_by n) es ≡ 0
unfolding reserved_by
nothing-reserved ds qs rs n [] all new = refl
nothing-reserved ds qs rs n (e ∷ es) all new =
    let h = All-head (IsSoundEnd ds qs rs) e es all in
    let a : bytes_eq e.send_cq n ≡ false = other-word e.send_cq n qs h.send_cq new in
    let b : bytes_eq e.recv_cq n ≡ false = other-word e.recv_cq n qs h.recv_cq new in
    let x = ap (λ t. count_if t (length (untold_of e.link))) a in
    let y = ap (λ t. count_if t (length e.unused + length (in_use e.link))) b in
    omega (arith, sum_by-cons (reserved_by n) e es, x, y, nothing-reserved ds qs rs n es (All-tail (IsSoundEnd ds qs rs) e es all) new)

pub queue-sound : (c : Context) (n : Name) (capacity : ℕ) → IsSoundContext c → is_name n ≡ true → 1 ≤ capacity → capacity ≤ most_capacity → has_queue c n ≡ false → nat_le most_queues (length c.queues) ≡ false
    → IsSoundContext (with_new_queue c (record { name = n; capacity = capacity; entries = [] }))
unfolding with_new_queue reserved
queue-sound c n capacity s spelled some few new room = record {
  parts = record {
    name = s.parts.name;
    domains = s.parts.domains;
    region_names = s.parts.region_names;
    regions = s.parts.regions;
    keys = s.parts.keys;
    queue_names = subst (λ ns. AreNames ns most_queues) (sym names) (names-push n (names_of_queues c.queues) most_queues s.parts.queue_names spelled absent_name (ap (nat_le most_queues) (length-map c.queues (λ (q : CompletionQueue). q.name)) ∙ room));
    queues = all-push IsSoundQueue c.queues (record { name = n; capacity = capacity; entries = [] }) s.parts.queues (record { some_room = some; little_room = few; entries = All-nil IsLawfulEntry });
    end_names = s.parts.end_names;
    numbers = s.parts.numbers;
    ends = subst (λ ns. All (IsSoundEnd c.domains ns (plans c.regions)) c.ends) (sym names) (all-weaker (IsSoundEnd c.domains (names_of_queues c.queues) (plans c.regions)) (IsSoundEnd c.domains (names_of_queues c.queues ++ n ∷ []) (plans c.regions)) c.ends (queue-end n c.domains (names_of_queues c.queues) (plans c.regions)) s.parts.ends);
  };
  room = λ m has. by_old m (has_queue c m) refl has;
}
  where
    names : names_of_queues (c.queues ++ (record { name = n; capacity = capacity; entries = [] }) ∷ []) ≡ names_of_queues c.queues ++ n ∷ []
    names = map-push (λ (q : CompletionQueue). q.name) c.queues (record { name = n; capacity = capacity; entries = [] })

    absent_name : has_word n (names_of_queues c.queues) ≡ false
    absent_name = word-there (λ (q : CompletionQueue). q.name) n c.queues ∙ new

    by_old : (m : Name) (b : Bool) → has_name (λ q. q.name) m c.queues ≡ b → has_name (λ q. q.name) m (c.queues ++ (record { name = n; capacity = capacity; entries = [] }) ∷ []) ≡ true
        → length (named (λ q. q.name) no_queue m (c.queues ++ (record { name = n; capacity = capacity; entries = [] }) ∷ [])).entries + sum_by (reserved_by m) c.ends ≤ (named (λ q. q.name) no_queue m (c.queues ++ (record { name = n; capacity = capacity; entries = [] }) ∷ [])).capacity
    by_old m true t has =
        let e = named-push_has (λ (q : CompletionQueue). q.name) no_queue m c.queues (record { name = n; capacity = capacity; entries = [] }) t in
        let r = s.room m t in
        omega (arith, ap (λ (z : CompletionQueue). length z.entries) e, ap (λ (z : CompletionQueue). z.capacity) e, r)
    by_old m false t has =
        let is : bytes_eq n m ≡ true = sym (ap (λ b. b || bytes_eq n m) t) ∙ (sym (has_name-push (λ (q : CompletionQueue). q.name) m c.queues (record { name = n; capacity = capacity; entries = [] })) ∙ has) in
        let e = named-push_lacks (λ (q : CompletionQueue). q.name) no_queue m c.queues (record { name = n; capacity = capacity; entries = [] }) t (name_is n m is) in
        let none = nothing-reserved c.domains (names_of_queues c.queues) (plans c.regions) m c.ends s.parts.ends (word-there (λ (q : CompletionQueue). q.name) m c.queues ∙ t) in
        omega (arith, ap (λ (z : CompletionQueue). length z.entries) e, ap (λ (z : CompletionQueue). z.capacity) e, none)

-- ---- a queue pair

-- numbers past the count are of no end
fresh-number : (d : Device) (es : List End) → 1 ≤ d.id → d.qp_count < most_numbers → All (λ e. IsCounted d.id 65536 d.qp_count e.number) es → All (λ k. k ≢ number_of d) (map (λ e. e.number) es)
fresh-number d [] some room all = All-nil (λ k. k ≢ number_of d)
fresh-number d (e ∷ es) some room all = All-cons (λ k. k ≢ number_of d) e.number (map (λ x. x.number) es) (other e.number (All-head (λ x. IsCounted d.id 65536 d.qp_count x.number) e es all)) (fresh-number d es some room (All-tail (λ x. IsCounted d.id 65536 d.qp_count x.number) e es all))
  where
    other : (k : ℕ) → IsCounted d.id 65536 d.qp_count k → k ≢ number_of d
    other k h is =
        let high : k / 65536 ≡ d.id = omega (arith, is, room) in
        let low : k % 65536 ≡ d.qp_count + 1 = omega (arith, is, room) in
        omega (arith, h high, low)

number-lawful : (d : Device) → 1 ≤ d.id → d.id ≤ 255 → d.qp_count < most_numbers → is_number (number_of d) ≡ true
number-lawful d some few room =
    let high : number_of d / 65536 ≡ d.id = omega (arith, room) in
    let low : number_of d % 65536 ≡ d.qp_count + 1 = omega (arith, room) in
    let below : number_of d < 16777216 = omega (arith, few, room) in
    grind (arith, nat_tests, high, low, below, some)

-- a queue pair in Init
abbrev pub end_of : Name → ℕ → Name → Name → Name → ℕ → ℕ → End
end_of n number domain send_cq recv_cq send_depth recv_depth = record { name = n; number = number; domain = domain; send_cq = send_cq; recv_cq = recv_cq; send_depth = send_depth; recv_depth = recv_depth; unused = []; link = None }

none-reserved : (m n : Name) (number : ℕ) (domain send_cq recv_cq : Name) (send_depth recv_depth : ℕ) → reserved_by m (end_of n number domain send_cq recv_cq send_depth recv_depth) ≡ 0
unfolding reserved_by
none-reserved m n number domain send_cq recv_cq send_depth recv_depth = both (bytes_eq send_cq m) (bytes_eq recv_cq m)
  where
    both : (a b : Bool) → count_if a 0 + count_if b (0 + 0) ≡ 0
    both true true = refl
    both true false = refl
    both false true = refl
    both false false = refl

sum-push : {A : Type 0} (f : A → ℕ) (xs : List A) (y : A) → sum_by f (xs ++ y ∷ []) ≡ sum_by f xs + f y
sum-push f [] y = omega (arith, sum_by-cons f y [])
sum-push f (x ∷ xs) y = omega (arith, sum_by-cons f x (xs ++ y ∷ []), sum_by-cons f x xs, sum-push f xs y)

pub end-made : (d : Device) (c : Context) (n domain send_cq recv_cq : Name) (send_depth recv_depth : ℕ) → IsSoundDevice d → IsSoundContext c → AreCounted d c → is_name n ≡ true
    → has_word domain c.domains ≡ true → has_queue c send_cq ≡ true → has_queue c recv_cq ≡ true → has_name (λ e. e.name) n c.ends ≡ false → nat_le most_ends (length c.ends) ≡ false → nat_le most_numbers d.qp_count ≡ false
    → 1 ≤ send_depth → send_depth ≤ most_depth → 1 ≤ recv_depth → recv_depth ≤ most_depth
    → IsSoundContext (with_new_end c (record { name = n; number = number_of d; domain = domain; send_cq = send_cq; recv_cq = recv_cq; send_depth = send_depth; recv_depth = recv_depth; unused = []; link = None }))
unfolding with_new_end reserved
end-made d c n domain send_cq recv_cq send_depth recv_depth sd s counted spelled in_domain sends receives new room numbers some_sends few_sends some_receives few_receives = record {
  parts = record {
    name = s.parts.name;
    domains = s.parts.domains;
    region_names = s.parts.region_names;
    regions = s.parts.regions;
    keys = s.parts.keys;
    queue_names = s.parts.queue_names;
    queues = s.parts.queues;
    end_names = subst (λ ns. AreNames ns most_ends) (sym (map-push (λ (e : End). e.name) c.ends (end_of n (number_of d) domain send_cq recv_cq send_depth recv_depth))) (names-push n (map (λ e. e.name) c.ends) most_ends s.parts.end_names spelled (word-there (λ (e : End). e.name) n c.ends ∙ new) (ap (nat_le most_ends) (length-map c.ends (λ (e : End). e.name)) ∙ room));
    numbers = subst (AllPairs (λ a b. a ≢ b)) (sym (map-push (λ (e : End). e.number) c.ends (end_of n (number_of d) domain send_cq recv_cq send_depth recv_depth))) (AllPairs-push (λ a b. a ≢ b) (map (λ e. e.number) c.ends) (number_of d) s.parts.numbers (fresh-number d c.ends sd.some_id (less_full most_numbers d.qp_count numbers) counted.ends));
    ends = all-push (IsSoundEnd c.domains (names_of_queues c.queues) (plans c.regions)) c.ends (end_of n (number_of d) domain send_cq recv_cq send_depth recv_depth) s.parts.ends (record {
      number = number-lawful d sd.some_id sd.few_ids (less_full most_numbers d.qp_count numbers);
      domain = in_domain;
      send_cq = word-there (λ (q : CompletionQueue). q.name) send_cq c.queues ∙ sends;
      recv_cq = word-there (λ (q : CompletionQueue). q.name) recv_cq c.queues ∙ receives;
      some_sends = some_sends;
      few_sends = few_sends;
      some_receives = some_receives;
      few_receives = few_receives;
      unused_fit = omega arith;
      receives = All-nil (IsSoundReceive (plans c.regions) domain);
      state = tt;
      no_unused = tt;
    });
  };
  room = λ m has. let r = s.room m has in let a = none-reserved m n (number_of d) domain send_cq recv_cq send_depth recv_depth in let b = sum-push (reserved_by m) c.ends (end_of n (number_of d) domain send_cq recv_cq send_depth recv_depth) in omega (arith, r, a, b);
}
