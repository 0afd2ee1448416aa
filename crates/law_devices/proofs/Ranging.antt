-- Regions that are made and dropped keep a context sound.
use Rattle.std.proofs.Common.{arith, ◌≡◌, ◌≢◌, ◌⊎◌, ◌≤◌, ◌<◌, ◌+◌, ◌-◌, ◌*◌, ◌/◌, ◌%◌, ◌^◌, ℕ, zero, suc, List, [], ◌∷◌, ◌++◌, map, length, get_or, true, false, Bool, refl, sym, ap, ◌∙◌, inl, inr, subst, length-append}
use Rattle.std.specs.Prelude.{All, AllPairs, bytes_eq, Option, Some, None, if◌then◌else◌, nat_lt, nat_le, not, ◌==◌, ◌&&◌, ◌||◌, slice_get, replicate, ⊤}
use Rattle.std.proofs.lemmas.Bool.Decides.{nat_tests}
use Rattle.std.proofs.lemmas.List.{length-map, length-replicate}
use Rattle.std.proofs.lemmas.List.Elements.{All-append, All-cons, All-head, All-nil, All-tail}
use Rattle.rdma_types.specs.declared.names.Name.{Name}
use Rattle.rdma_types.specs.declared.requests.Receive.{Receive}
use Rattle.rdma_types.specs.declared.rights.Rights.{Rights}
use Rattle.rdma_types.specs.Limits.{most_keys, most_region_bytes, most_regions}
use Rattle.rdma_types.specs.Lists.{has_name, has_word, named, some, without}
use Rattle.rdma_types.specs.Memory.{Right, landing_right, local_key}
use Rattle.rdma_types.specs.Objects.{Posted, Region, no_region}
use Rattle.rdma_types.specs.Spelled.{is_name}
use Rattle.protocol.specs.DeviceStep.{keys_of, with_new_region, without_region}
use Rattle.protocol.specs.Lawful.{AreNames, is_local_key}
use Rattle.protocol.specs.Memory.{untold_of}
use Rattle.protocol.specs.Refusals.{message_names, names_key, progress_names, reserved}
use Rattle.protocol.specs.State as state
use Rattle.protocol.specs.State.{Context, Device, End, InSend, InWrite, Link, NoMessage, Progress}
use Rattle.law_devices.specs.Sound.{AreCounted, AreSoundParts, IsCounted, IsGrantedTo, IsSoundContext, IsSoundDevice, IsSoundEnd, IsSoundLink, IsSoundProgress, IsSoundReceive, IsSoundReceiver, IsSoundRegion, IsSoundRequest, IsSoundSend, IsSoundSender, IsSoundState, IsSoundWrite, names_of_queues, plan_of, plans}
use Rattle.law_devices.proofs.Ends.{All-map, All-mapped}
use Rattle.law_devices.proofs.Making.{map-push, names-push}
use Rattle.law_devices.proofs.Pairs.{AllPairs-cons, AllPairs-first, AllPairs-push, AllPairs-tail}
use Rattle.law_devices.proofs.Regions.{granted-by, granted-cases, granted-none, granted-push, plan_at, push_at, region_at}
use Rattle.law_devices.proofs.Tables.{All-if, All-without, word-there}

-- ---- what an end's work names

-- a message in progress names a place of this kind
abbrev pub UsesProgress : (ℕ → ℕ → Type 0) → Progress → Type 0
UsesProgress K NoMessage = ⊤
UsesProgress K (InSend done receive) = K receive.lkey receive.length
UsesProgress K (InWrite region off length' done) = K region 1

abbrev pub UsesMessage : (ℕ → ℕ → Type 0) → Option Link → Type 0
UsesMessage K None = ⊤
UsesMessage K (Some l) = UsesProgress K l.receiver.progress

-- all that an end's work names is of this kind: a local key, and how many bytes
pub record Uses (K : ℕ → ℕ → Type 0) (e : End) : Type 0 where
  pub receives : All (λ r. K r.lkey r.length) e.unused
  pub requests : All (λ p. K p.request.lkey p.request.shape.length) (untold_of e.link)
  pub message : UsesMessage K e.link

module _ (R R' : List Region) (K : ℕ → ℕ → Type 0)
    (granted : (domain : Name) (lkey at' count : ℕ) (right : Right) → K lkey count → IsGrantedTo R domain lkey at' count right → IsGrantedTo R' domain lkey at' count right)
    (there : (i : ℕ) (r : Region) → K r.keys.local 1 → slice_get R i ≡ Some r → (j : ℕ) × (slice_get R' j ≡ Some r)) where
  receive-kept : (domain : Name) (r : Receive) → K r.lkey r.length → IsSoundReceive R domain r → IsSoundReceive R' domain r
  receive-kept domain r k h = record { length' = h.length'; granted = granted domain r.lkey r.local r.length _ k h.granted }

  receives-kept : (domain : Name) (rs : List Receive) → All (λ r. K r.lkey r.length) rs → All (IsSoundReceive R domain) rs → All (IsSoundReceive R' domain) rs
  receives-kept domain [] ks all = All-nil (IsSoundReceive R' domain)
  receives-kept domain (r ∷ rs) ks all = All-cons (IsSoundReceive R' domain) r rs (receive-kept domain r (All-head (λ x. K x.lkey x.length) r rs ks) (All-head (IsSoundReceive R domain) r rs all)) (receives-kept domain rs (All-tail (λ x. K x.lkey x.length) r rs ks) (All-tail (IsSoundReceive R domain) r rs all))

  request-kept : (domain : Name) (p : Posted) → K p.request.lkey p.request.shape.length → IsSoundRequest R domain p → IsSoundRequest R' domain p
  request-kept domain p k h = record { length' = h.length'; shape = h.shape; granted = granted domain p.request.lkey p.request.local p.request.shape.length _ k h.granted; payload = h.payload }

  requests-kept : (domain : Name) (ps : List Posted) → All (λ p. K p.request.lkey p.request.shape.length) ps → All (IsSoundRequest R domain) ps → All (IsSoundRequest R' domain) ps
  requests-kept domain [] ks all = All-nil (IsSoundRequest R' domain)
  requests-kept domain (p ∷ ps) ks all = All-cons (IsSoundRequest R' domain) p ps (request-kept domain p (All-head (λ x. K x.request.lkey x.request.shape.length) p ps ks) (All-head (IsSoundRequest R domain) p ps all)) (requests-kept domain ps (All-tail (λ x. K x.request.lkey x.request.shape.length) p ps ks) (All-tail (IsSoundRequest R domain) p ps all))

  progress-kept : (domain : Name) (mtu : ℕ) (p : Progress) → UsesProgress K p → IsSoundProgress R domain mtu p → IsSoundProgress R' domain mtu p
  progress-kept domain mtu NoMessage k h = tt
  progress-kept domain mtu (InSend done r) k h = record { pieces = h.pieces; fits = h.fits; receive = receive-kept domain r k h.receive }
  progress-kept domain mtu (InWrite region off count done) k h =
      let stands = there h.place h.written (subst (λ n. K n 1) (sym h.local) k) h.there in
      record { place = stands.0; written = h.written; there = stands.1; local = h.local; domain' = h.domain'; right = h.right; inside = h.inside; few = h.few; pieces = h.pieces; unfinished = h.unfinished }

  link-kept : (domain : Name) (depth : ℕ) (o : Option Link) → All (λ p. K p.request.lkey p.request.shape.length) (untold_of o) → UsesMessage K o → IsSoundState R domain depth o → IsSoundState R' domain depth o
  link-kept domain depth None ks k h = tt
  link-kept domain depth (Some l) ks k h = record {
    peer = h.peer;
    terms = h.terms;
    sender = record { fits = h.sender.fits; requests = requests-kept domain l.sender.untold ks h.sender.requests; numbers = h.sender.numbers; spent = h.sender.spent; waits = h.sender.waits };
    oldest = h.oldest;
    receiver = record { expected = h.receiver.expected; msn = h.receiver.msn; in_progress = progress-kept domain l.terms.mtu l.receiver.progress k h.receiver.in_progress; few_kept = h.receiver.few_kept; kept_rise = h.receiver.kept_rise; kept_before = h.receiver.kept_before };
    no_untold = h.no_untold;
    no_message = h.no_message;
    not_resuming = h.not_resuming;
  }

  end-kept : (ds qs : List Name) (e : End) → Uses K e → IsSoundEnd ds qs R e → IsSoundEnd ds qs R' e
  end-kept ds qs e u h = record {
    number = h.number;
    domain = h.domain;
    send_cq = h.send_cq;
    recv_cq = h.recv_cq;
    some_sends = h.some_sends;
    few_sends = h.few_sends;
    some_receives = h.some_receives;
    few_receives = h.few_receives;
    unused_fit = h.unused_fit;
    receives = receives-kept e.domain e.unused u.receives h.receives;
    state = link-kept e.domain e.send_depth e.link u.requests u.message h.state;
    no_unused = h.no_unused;
  }

  pub ends-kept : (ds qs : List Name) (es : List End) → All (Uses K) es → All (IsSoundEnd ds qs R) es → All (IsSoundEnd ds qs R') es
  ends-kept ds qs [] us all = All-nil (IsSoundEnd ds qs R')
  ends-kept ds qs (e ∷ es) us all = All-cons (IsSoundEnd ds qs R') e es (end-kept ds qs e (All-head (Uses K) e es us) (All-head (IsSoundEnd ds qs R) e es all)) (ends-kept ds qs es (All-tail (Uses K) e es us) (All-tail (IsSoundEnd ds qs R) e es all))

-- ---- a region is made

all-so : {A : Type 0} (P : A → Type 0) (xs : List A) → ((x : A) → P x) → All P xs
all-so P [] h = All-nil P
all-so P (x ∷ xs) h = All-cons P x xs (h x) (all-so P xs h)

abbrev Any : ℕ → ℕ → Type 0
Any k n = ⊤

uses-any : (e : End) → Uses Any e
uses-any e = record { receives = all-so (λ r. Any r.lkey r.length) e.unused (λ r. tt); requests = all-so (λ p. Any p.request.lkey p.request.shape.length) (untold_of e.link) (λ p. tt); message = any_message e.link }
  where
    any_progress : (p : Progress) → UsesProgress Any p
    any_progress NoMessage = tt
    any_progress (InSend done r) = tt
    any_progress (InWrite region off count done) = tt

    any_message : (o : Option Link) → UsesMessage Any o
    any_message None = tt
    any_message (Some l) = any_progress l.receiver.progress

less_full : (a b : ℕ) → nat_le a b ≡ false → b < a
less_full a b h = grind (arith, nat_tests, h)

fresh-key : (d : Device) (rs : List Region) → d.key_count < most_keys → All (λ r. IsCounted d.id 8388608 d.key_count (r.keys.local / 2)) rs → All (λ k. k ≢ (keys_of d).local) (map local_key rs)
fresh-key d [] room all = All-nil (λ k. k ≢ (keys_of d).local)
fresh-key d (r ∷ rs) room all = All-cons (λ k. k ≢ (keys_of d).local) r.keys.local (map local_key rs) (other r.keys.local (All-head (λ x. IsCounted d.id 8388608 d.key_count (x.keys.local / 2)) r rs all)) (fresh-key d rs room (All-tail (λ x. IsCounted d.id 8388608 d.key_count (x.keys.local / 2)) r rs all))
  where
    other : (k : ℕ) → IsCounted d.id 8388608 d.key_count (k / 2) → k ≢ (keys_of d).local
    other k h is =
        let half : k / 2 ≡ d.id * 8388608 + (d.key_count + 1) = omega (arith, is) in
        let high : k / 2 / 8388608 ≡ d.id = omega (arith, half, room) in
        let low : k / 2 % 8388608 ≡ d.key_count + 1 = omega (arith, half, room) in
        omega (arith, h high, low)

key-lawful : (d : Device) → 1 ≤ d.id → d.key_count < most_keys → is_local_key (keys_of d).local ≡ true
key-lawful d some room =
    let high : (keys_of d).local / 16777216 ≡ d.id = omega (arith, room) in
    let low : (keys_of d).local % 16777216 ≡ 2 * (d.key_count + 1) = omega (arith, room) in
    let even : (keys_of d).local % 2 ≡ 0 = omega arith in
    let enough : 2 ≤ (keys_of d).local % 16777216 = omega (arith, low) in
    grind (arith, nat_tests, high, enough, even, some)

plans-push : (rs : List Region) (r : Region) → plans (rs ++ r ∷ []) ≡ plans rs ++ plan_of r ∷ []
plans-push rs r = map-push plan_of rs r

-- a region of zeros with the next keys
abbrev pub zeros_of : Device → Name → Name → ℕ → ℕ → Rights → Region
zeros_of d n domain base length' rights = record { name = n; domain = domain; base = base; length = length'; rights = rights; keys = keys_of d; bytes = replicate length' 0 }

pub region-made : (d : Device) (c : Context) (n domain : Name) (base length' : ℕ) (rights : Rights) → IsSoundDevice d → IsSoundContext c → AreCounted d c → is_name n ≡ true
    → has_word domain c.domains ≡ true → has_name (λ r. r.name) n c.regions ≡ false → nat_le most_regions (length c.regions) ≡ false → nat_le most_keys d.key_count ≡ false
    → base ≤ 2 ^ 63 → 1 ≤ length' → length' ≤ most_region_bytes → rights.0 ≤ 15 → IsSoundContext (with_new_region c (zeros_of d n domain base length' rights))
unfolding with_new_region reserved
region-made d c n domain base length' rights sd s counted spelled in_domain new room keys low some few in_range = record {
  parts = record {
    name = s.parts.name;
    domains = s.parts.domains;
    region_names = subst (λ ns. AreNames ns most_regions) (sym (map-push (λ (r : Region). r.name) c.regions (zeros_of d n domain base length' rights))) (names-push n (map (λ r. r.name) c.regions) most_regions s.parts.region_names spelled (word-there (λ (r : Region). r.name) n c.regions ∙ new) (ap (nat_le most_regions) (length-map c.regions (λ (r : Region). r.name)) ∙ room));
    regions = All-append (IsSoundRegion c.domains) c.regions (zeros_of d n domain base length' rights ∷ []) s.parts.regions (All-cons (IsSoundRegion c.domains) (zeros_of d n domain base length' rights) [] (record {
      domain = in_domain;
      base = low;
      some_bytes = some;
      few_bytes = few;
      rights = in_range;
      local = key-lawful d sd.some_id (less_full most_keys d.key_count keys);
      remote = refl;
      whole = length-replicate length' 0;
    }) (All-nil (IsSoundRegion c.domains)));
    keys = subst (AllPairs (λ a b. a ≢ b)) (sym (map-push local_key c.regions (zeros_of d n domain base length' rights))) (AllPairs-push (λ a b. a ≢ b) (map local_key c.regions) (keys_of d).local s.parts.keys (fresh-key d c.regions (less_full most_keys d.key_count keys) counted.regions));
    queue_names = s.parts.queue_names;
    queues = s.parts.queues;
    end_names = s.parts.end_names;
    numbers = s.parts.numbers;
    ends = subst (λ rs. All (IsSoundEnd c.domains (names_of_queues c.queues) rs) c.ends) (sym (plans-push c.regions (zeros_of d n domain base length' rights)))
        (ends-kept (plans c.regions) (plans c.regions ++ plan_of (zeros_of d n domain base length' rights) ∷ []) Any
        (λ dom lkey at' count right k h. granted-push (plans c.regions) (plan_of (zeros_of d n domain base length' rights)) dom lkey at' count right h)
        (λ i r k h. (i, push_at (plans c.regions) (plan_of (zeros_of d n domain base length' rights)) r i h))
        c.domains (names_of_queues c.queues) c.ends (all-so (Uses Any) c.ends uses-any) s.parts.ends);
  };
  room = s.room;
}

pub key-counted : (d : Device) (n domain : Name) (base length' : ℕ) (rights : Rights) → d.key_count < most_keys → IsCounted d.id 8388608 (d.key_count + 1) ((zeros_of d n domain base length' rights).keys.local / 2)
key-counted d n domain base length' rights room = λ is. omega (arith, room)

-- ---- a region is dropped

-- not of this key, or no bytes
abbrev Other : ℕ → ℕ → ℕ → Type 0
Other key k n = (n ≡ 0) ⊎ (k ≢ key)

some-none : {A : Type 0} (test : A → Bool) (xs : List A) → some test xs ≡ false → All (λ x. test x ≡ false) xs
unfolding some
some-none test [] h = All-nil (λ x. test x ≡ false)
some-none test (x ∷ xs) h = All-cons (λ y. test y ≡ false) x xs (or_first (test x) _ h) (some-none test xs (or_second (test x) _ h))
  where
    or_first : (a b : Bool) → (a || b) ≡ false → a ≡ false
    or_first true b g = absurd (cc)
    or_first false b g = refl

    or_second : (a b : Bool) → (a || b) ≡ false → b ≡ false
    or_second true b g = absurd (cc)
    or_second false b g = g

pub some-all-none : {A : Type 0} (test : A → Bool) (xs : List A) → some test xs ≡ false → All (λ x. test x ≡ false) xs
some-all-none test xs h = some-none test xs h

all-weaker : {A : Type 0} (P Q : A → Type 0) (xs : List A) → ((x : A) → P x → Q x) → All P xs → All Q xs
all-weaker P Q [] h all = All-nil Q
all-weaker P Q (x ∷ xs) h all = All-cons Q x xs (h x (All-head P x xs all)) (all-weaker P Q xs h (All-tail P x xs all))

other-key : (a b : ℕ) → (a == b) ≡ false → a ≢ b
other-key a b h = λ k. absurd (grind (arith, nat_tests, h, k))

not-both : (k key n : ℕ) → (k == key && not (n == 0)) ≡ false → Other key k n
not-both k key n h = by_test (n == 0) refl h
  where
    zero_is : (m : ℕ) → (m == 0) ≡ true → m ≡ 0
    zero_is m g = grind (arith, nat_tests, g)

    left : (a : Bool) → (a && true) ≡ false → a ≡ false
    left true g = absurd (cc)
    left false g = refl

    by_test : (b : Bool) → (n == 0) ≡ b → (k == key && not b) ≡ false → Other key k n
    by_test true t g = inl (zero_is n t)
    by_test false t g = inr (other-key k key (left (k == key) g))

or_three : (a b c : Bool) → (a || (b || c)) ≡ false → (a ≡ false) × (b ≡ false) × (c ≡ false)
or_three true b c h = absurd (cc)
or_three false true c h = absurd (cc)
or_three false false true h = absurd (cc)
or_three false false false h = (refl, refl, refl)

uses-other : (key : ℕ) (e : End) → names_key key e ≡ false → Uses (Other key) e
unfolding names_key
uses-other key e h =
    let t = or_three _ _ _ h in
    record {
      receives = all-weaker (λ r. (r.lkey == key && not (r.length == 0)) ≡ false) (λ r. Other key r.lkey r.length) e.unused (λ r g. not-both r.lkey key r.length g) (some-none (λ r. r.lkey == key && not (r.length == 0)) e.unused t.1);
      requests = all-weaker (λ p. (p.request.lkey == key && not (p.request.shape.length == 0)) ≡ false) (λ p. Other key p.request.lkey p.request.shape.length) (untold_of e.link) (λ p g. not-both p.request.lkey key p.request.shape.length g) (some-none (λ p. p.request.lkey == key && not (p.request.shape.length == 0)) (untold_of e.link) t.0);
      message = by_message e.link t.2;
    }
  where
    by_progress : (p : Progress) → progress_names key p ≡ false → UsesProgress (Other key) p
    by_progress NoMessage g = tt
    by_progress (InSend done r) g = inr (other-key r.lkey key g)
    by_progress (InWrite region off count done) g = inr (other-key region key g)

    by_message : (o : Option Link) → message_names key o ≡ false → UsesMessage (Other key) o
    by_message None g = tt
    by_message (Some l) g = by_progress l.receiver.progress g

-- what has another key than the thing that leaves stays
stays-without : (n : Name) (rs : List Region) (i : ℕ) (r : Region) → slice_get rs i ≡ Some r → r.keys.local ≢ (named (λ x. x.name) no_region n rs).keys.local → (j : ℕ) × (slice_get (without (λ x. x.name) n rs) j ≡ Some r)
unfolding named without
stays-without n [] i r h other = absurd (cc)
stays-without n (q ∷ rs) i r h other = by_test (bytes_eq q.name n) i h other (λ k g o. stays-without n rs k r g o)
  where
    by_test : (b : Bool) (k : ℕ) → slice_get (q ∷ rs) k ≡ Some r → r.keys.local ≢ (if b then q else named (λ x. x.name) no_region n rs).keys.local
        → ((m : ℕ) → slice_get rs m ≡ Some r → r.keys.local ≢ (named (λ x. x.name) no_region n rs).keys.local → (j : ℕ) × (slice_get (without (λ x. x.name) n rs) j ≡ Some r)) → (j : ℕ) × (slice_get (if b then rs else q ∷ without (λ x. x.name) n rs) j ≡ Some r)
    by_test true zero g o later = let same : q ≡ r = cc in absurd (o (ap (λ (z : Region). z.keys.local) (sym same)))
    by_test true (suc k) g o later = (k, g)
    by_test false zero g o later = (0, g)
    by_test false (suc k) g o later = let more = later k g o in (suc more.0, more.1)

pairs-without : {A B : Type 0} (R : B → B → Type 0) (f : A → B) (name : A → List ℕ) (n : List ℕ) (xs : List A) → AllPairs R (map f xs) → AllPairs R (map f (without name n xs))
unfolding without
pairs-without R f name n [] h = h
pairs-without {A} {B} R f name n (x ∷ xs) h = by_test (bytes_eq (name x) n) (pairs-without R f name n xs (AllPairs-tail R (f x) (map f xs) h))
  where
    by_test : (b : Bool) → AllPairs R (map f (without name n xs)) → AllPairs R (map f (if b then xs else x ∷ without name n xs))
    by_test true later = AllPairs-tail R (f x) (map f xs) h
    by_test false later = AllPairs-cons R (f x) (map f (without name n xs)) (All-mapped (R (f x)) f (without name n xs) (All-without (λ y. R (f x) (f y)) name n xs (All-map (R (f x)) f xs (AllPairs-first R (f x) (map f xs) h)))) later

fewer-without : {A : Type 0} (name : A → List ℕ) (n : List ℕ) (xs : List A) → length (without name n xs) ≤ length xs
unfolding without
fewer-without name n [] = omega arith
fewer-without {A} name n (x ∷ xs) = by_test (bytes_eq (name x) n) (fewer-without name n xs)
  where
    by_test : (b : Bool) → length (without name n xs) ≤ length xs → length (if b then xs else x ∷ without name n xs) ≤ suc (length xs)
    by_test true h = omega arith
    by_test false h = omega (arith, h)

names-without : (n : Name) (rs : List Region) → AreNames (map (λ r. r.name) rs) most_regions → AreNames (map (λ r. r.name) (without (λ r. r.name) n rs)) most_regions
names-without n rs h = record {
  few = omega (arith, h.few, length-map rs (λ (r : Region). r.name), length-map (without (λ (r : Region). r.name) n rs) (λ (r : Region). r.name), fewer-without (λ (r : Region). r.name) n rs);
  spelled = All-mapped (λ m. is_name m ≡ true) (λ (r : Region). r.name) (without (λ r. r.name) n rs) (All-without (λ r. is_name r.name ≡ true) (λ r. r.name) n rs (All-map (λ m. is_name m ≡ true) (λ (r : Region). r.name) rs h.spelled));
  distinct = pairs-without (λ a b. a ≢ b) (λ (r : Region). r.name) (λ r. r.name) n rs h.distinct;
}

pub region-dropped : (c : Context) (n : Name) → IsSoundContext c → some (names_key (state.region_at c n).keys.local) c.ends ≡ false → IsSoundContext (without_region c n)
unfolding reserved
region-dropped c n s unnamed = record {
  parts = record {
    name = s.parts.name;
    domains = s.parts.domains;
    region_names = names-without n c.regions s.parts.region_names;
    regions = All-without (IsSoundRegion c.domains) (λ r. r.name) n c.regions s.parts.regions;
    keys = pairs-without (λ a b. a ≢ b) local_key (λ (r : Region). r.name) n c.regions s.parts.keys;
    queue_names = s.parts.queue_names;
    queues = s.parts.queues;
    end_names = s.parts.end_names;
    numbers = s.parts.numbers;
    ends = ends-kept (plans c.regions) (plans (without (λ r. r.name) n c.regions)) (Other (state.region_at c n).keys.local) granted-still still-there c.domains (names_of_queues c.queues) c.ends
        (all-weaker (λ e. names_key (state.region_at c n).keys.local e ≡ false) (Uses (Other (state.region_at c n).keys.local)) c.ends (λ e h. uses-other (state.region_at c n).keys.local e h) (some-none (names_key (state.region_at c n).keys.local) c.ends unnamed))
        s.parts.ends;
  };
  room = s.room;
}
  where
    still-there : (i : ℕ) (r : Region) → Other (state.region_at c n).keys.local r.keys.local 1 → slice_get (plans c.regions) i ≡ Some r → (j : ℕ) × (slice_get (plans (without (λ x. x.name) n c.regions)) j ≡ Some r)
    still-there i r (inl h) there = absurd (omega (arith, h))
    still-there i r (inr h) there =
        let mine = region_at c.regions i r there in
        let key : mine.0.keys.local ≡ r.keys.local = ap (λ (z : Region). z.keys.local) mine.2 in
        let stays = stays-without n c.regions i mine.0 mine.1 (λ e. h (sym key ∙ e)) in
        (stays.0, plan_at (without (λ x. x.name) n c.regions) stays.0 mine.0 stays.1 ∙ ap Some mine.2)

    granted-still : (domain : Name) (lkey at' count : ℕ) (right : Right) → Other (state.region_at c n).keys.local lkey count → IsGrantedTo (plans c.regions) domain lkey at' count right → IsGrantedTo (plans (without (λ x. x.name) n c.regions)) domain lkey at' count right
    granted-still domain lkey at' count right (inl none) h = granted-none (plans (without (λ x. x.name) n c.regions)) domain lkey at' count right none
    granted-still domain lkey at' count right (inr other) h = elim (granted-cases (plans c.regions) domain lkey at' count right h) [
      | inl none ↦ granted-none (plans (without (λ x. x.name) n c.regions)) domain lkey at' count right none
      | inr g ↦
          let stays = still-there g.i g.region (inr (λ e. other (sym g.grants.same_key ∙ e))) g.there in
          granted-by (plans (without (λ x. x.name) n c.regions)) domain lkey at' count right stays.0 g.region stays.1 g.grants
    ]
