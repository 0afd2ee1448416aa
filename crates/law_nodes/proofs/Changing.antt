-- An event of a sound device changes only what it may.
use Rattle.std.proofs.Common.{arith, ◌≡◌, ◌≢◌, ◌⊎◌, ◌≤◌, ◌<◌, ◌+◌, ◌-◌, ℕ, suc, List, [], ◌∷◌, ◌++◌, map, length, true, false, Bool, refl, sym, ap, ◌∙◌, inl, inr, subst, Option, Some, None}
use Rattle.std.specs.Prelude.{All, AllPairs, bytes_eq, slice_get, nat_le, nat_lt, ◌==◌, ◌&&◌, ◌||◌, if◌then◌else◌}
use Rattle.std.proofs.lemmas.Bool.Decides.{eqb_tells, nat_tests}
use Rattle.std.proofs.lemmas.List.Elements.{All-cons, All-head, All-nil, All-tail}
use Rattle.protocol.specs.declared.events.Event.{Event}
use Rattle.protocol.specs.declared.events.Event.TheVariants as event
use Rattle.protocol.specs.DeviceStep as step
use Rattle.protocol.specs.DeviceStep.{Found, Step, at_link, by_refusal, counts, device_step, done_by, expires_by, found_in, posting, sends_by, taken_bytes, waits_out, with_context}
use Rattle.protocol.specs.EndWords.{completing, failed_receive, failed_request, is_in_error, linked, with_end, with_queue, with_sender, with_unused}
use Rattle.protocol.specs.Images.{context_of, moved}
use Rattle.protocol.specs.Memory.{region_of_key, stored, with_region}
use Rattle.protocol.specs.Refusals.{causes_of, has_context, has_region, refusal_of}
use Rattle.protocol.specs.Requester.{IsFenced, IsIdle, ReadsAreFull, Sends, SendsResume, Transmission, Waits, WindowIsFull, counted, ended_with, not_counted, transmission, transmitted, waited_out}
use Rattle.protocol.specs.State.{Context, Device, End, Link, context_at, end_at, no_context, queue_at, region_at}
use Rattle.protocol.specs.Wire.{Packet, packet_of}
use Rattle.rdma_types.specs.Causes.{first_cause}
use Rattle.rdma_types.specs.declared.answers.ExpiryIgnored.{ExpiryIgnored}
use Rattle.rdma_types.specs.declared.answers.Refusal.{Refusal}
use Rattle.rdma_types.specs.declared.names.Name.{Name}
use Rattle.rdma_types.specs.declared.requests.Receive.{Receive}
use Rattle.rdma_types.specs.declared.requests.Request.{Request}
use Rattle.rdma_types.specs.declared.requests.WcStatus.TheVariants as status
use Rattle.rdma_types.specs.Lists.{at, has_name, named, store, store_named, without}
use Rattle.rdma_types.specs.Memory.{holds, local_key}
use Rattle.rdma_types.specs.Objects.{Region, no_region}
use Rattle.rdma_types.proofs.Tables.{name_is, named-store_other, named-store_same}
use Rattle.law_devices.specs.Sound.{IsSoundContext, IsSoundDevice, IsSoundRegion}
use Rattle.law_devices.proofs.Founds.{live, no-cause, not-false, within-context}
use Rattle.law_devices.proofs.Making.{map-push}
use Rattle.law_devices.proofs.Pairs.{AllPairs-cons, AllPairs-first, AllPairs-push, AllPairs-tail}
use Rattle.law_devices.proofs.Regions.{All-at, at_key}
use Rattle.law_devices.proofs.Tables.{map-store, name-named_there, name_tells, named-push_lacks}
use Rattle.law_arrivals.specs.Reach.{ReachesBy, ReachesEnd, ReachesFirst, may_reach}
use Rattle.law_arrivals.specs.Touched.{ChangesOnly, HasDistinctContexts, byte_of, frame, is_touched}
use Rattle.law_arrivals.proofs.Arriving.{arrivals-change, arrivals-reach}
use Rattle.law_arrivals.proofs.Bytes.{at-store, put-apart}
use Rattle.law_nodes.specs.Changes.{ArrivalChanges, Byte, ChangesHusks, Frame, Husks, IsSame, IsStoredAt, MayChange, OwnEventChanges, OwnerChanges, Pair, Queue, Thing, subject_of}

-- ---- things that are found by name, where others come and go

named-push_other : {A : Type 0} (name : A → List ℕ) (none : A) (n : List ℕ) (xs : List A) (e : A) → bytes_eq (name e) n ≡ false → named name none n (xs ++ e ∷ []) ≡ named name none n xs
unfolding named
named-push_other name none n [] e far = grind (arith, far)
named-push_other name none n (x ∷ xs) e far = grind (arith, named-push_other name none n xs e far)

named-lacks : {A : Type 0} (name : A → List ℕ) (none : A) (n : List ℕ) (xs : List A) → has_name name n xs ≡ false → named name none n xs ≡ none
unfolding has_name named
named-lacks name none n [] h = refl
named-lacks name none n (x ∷ xs) h = grind (arith, named-lacks name none n xs)

named-without_other : {A : Type 0} (name : A → List ℕ) (none : A) (n m : List ℕ) (xs : List A) → bytes_eq n m ≡ false → named name none m (without name n xs) ≡ named name none m xs
unfolding named without
named-without_other name none n m [] far = refl
named-without_other name none n m (x ∷ xs) far = grind (arith, far, name_is (name x) n, named-without_other name none n m xs far)

All-if : {A : Type 0} (P : A → Type 0) (b : Bool) (xs ys : List A) → All P xs → All P ys → All P (if b then xs else ys)
All-if P true xs ys h k = h
All-if P false xs ys h k = k

if-mapped : {A B : Type 0} (P : B → Type 0) (f : A → B) (b : Bool) (xs ys : List A) → All P (map f xs) → All P (map f ys) → All P (map f (if b then xs else ys))
if-mapped P f true xs ys h k = h
if-mapped P f false xs ys h k = k

mapped-without : {A B : Type 0} (P : B → Type 0) (f : A → B) (name : A → List ℕ) (n : List ℕ) (xs : List A) → All P (map f xs) → All P (map f (without name n xs))
unfolding without
mapped-without P f name n [] all = all
mapped-without P f name n (x ∷ xs) all =
    if-mapped P f (bytes_eq (name x) n) xs (x ∷ without name n xs) (All-tail P (f x) (map f xs) all)
    (All-cons P (f x) (map f (without name n xs)) (All-head P (f x) (map f xs) all) (mapped-without P f name n xs (All-tail P (f x) (map f xs) all)))

abbrev AreApart : List (List ℕ) → Type 0
AreApart ns = AllPairs (λ a b. a ≢ b) ns

if-apart : {A : Type 0} (f : A → List ℕ) (b : Bool) (xs ys : List A) → AreApart (map f xs) → AreApart (map f ys) → AreApart (map f (if b then xs else ys))
if-apart f true xs ys h k = h
if-apart f false xs ys h k = k

apart-without : {A : Type 0} (name : A → List ℕ) (n : List ℕ) (xs : List A) → AreApart (map name xs) → AreApart (map name (without name n xs))
unfolding without
apart-without name n [] h = h
apart-without name n (x ∷ xs) h =
    if-apart name (bytes_eq (name x) n) xs (x ∷ without name n xs) (AllPairs-tail (λ a b. a ≢ b) (name x) (map name xs) h)
    (AllPairs-cons (λ a b. a ≢ b) (name x) (map name (without name n xs)) (mapped-without (λ m. name x ≢ m) name name n xs (AllPairs-first (λ a b. a ≢ b) (name x) (map name xs) h)) (apart-without name n xs (AllPairs-tail (λ a b. a ≢ b) (name x) (map name xs) h)))

lacks-all : {A : Type 0} (name : A → List ℕ) (n : List ℕ) (xs : List A) → has_name name n xs ≡ false → All (λ m. m ≢ n) (map name xs)
unfolding has_name
lacks-all name n [] h = All-nil (λ m. m ≢ n)
lacks-all name n (x ∷ xs) h = elim (name_tells (name x) n) [
  | inl t ↦ absurd (cc (h, ap (λ b. b || has_name name n xs) t.0))
  | inr t ↦ All-cons (λ m. m ≢ n) (name x) (map name xs) t.1 (lacks-all name n xs (sym (ap (λ b. b || has_name name n xs) t.0) ∙ h))
]

apart-push : {A : Type 0} (name : A → List ℕ) (xs : List A) (e : A) → has_name name (name e) xs ≡ false → AreApart (map name xs) → AreApart (map name (xs ++ e ∷ []))
apart-push name xs e lacks h = subst AreApart (sym (map-push name xs e)) (AllPairs-push (λ a b. a ≢ b) (map name xs) (name e) h (lacks-all name (name e) xs lacks))

-- ---- regions

at-push_other : {A : Type 0} (number : A → ℕ) (none : A) (k : ℕ) (xs : List A) (e : A) → (number e == k) ≡ false → at number none k (xs ++ e ∷ []) ≡ at number none k xs
unfolding at
at-push_other number none k [] e far = grind (arith, far)
at-push_other number none k (x ∷ xs) e far = grind (arith, at-push_other number none k xs e far)

at-without_other : {A : Type 0} (name : A → List ℕ) (number : A → ℕ) (none : A) (n : List ℕ) (k : ℕ) (xs : List A) → (number (named name none n xs) == k) ≡ false → at number none k (without name n xs) ≡ at number none k xs
unfolding at named without
at-without_other name number none n k [] far = refl
at-without_other name number none n k (x ∷ xs) far = by_test (bytes_eq (name x) n) far (at-without_other name number none n k xs)
  where
    by_test : (b : Bool) → (number (if b then x else named name none n xs) == k) ≡ false → ((number (named name none n xs) == k) ≡ false → at number none k (without name n xs) ≡ at number none k xs) → at number none k (if b then xs else x ∷ without name n xs) ≡ (if number x == k then x else at number none k xs)
    by_test true g later = sym (ap (λ b. if b then x else at number none k xs) g)
    by_test false g later = ap (λ y. if number x == k then x else y) (later g)

place-named : {A : Type 0} (name : A → List ℕ) (none : A) (n : List ℕ) (xs : List A) → has_name name n xs ≡ true → (i : ℕ) × (slice_get xs i ≡ Some (named name none n xs))
unfolding has_name named
place-named name none n [] h = absurd (cc)
place-named {A} name none n (x ∷ xs) h = by_test (bytes_eq (name x) n) h (place-named name none n xs)
  where
    by_test : (b : Bool) → (b || has_name name n xs) ≡ true → (has_name name n xs ≡ true → (i : ℕ) × (slice_get xs i ≡ Some (named name none n xs))) → (i : ℕ) × (slice_get (x ∷ xs) i ≡ Some (if b then x else named name none n xs))
    by_test true g later = (0, refl)
    by_test false g later = let more = later g in (suc more.0, more.1)

-- the byte at an offset of the region of a key
abbrev byte_in : Context → ℕ → ℕ → Option ℕ
byte_in c lkey k = slice_get (region_of_key c lkey).bytes k

same-bytes : (c c' : Context) → c'.regions ≡ c.regions → (lkey k : ℕ) → byte_in c' lkey k ≡ byte_in c lkey k
unfolding region_of_key
same-bytes c c' same lkey k = ap (λ rs. slice_get (at (λ r. r.keys.local) no_region lkey rs).bytes k) same

-- a new region has bytes under its own key alone
pushed-bytes : (c c' : Context) (r : Region) → c'.regions ≡ c.regions ++ r ∷ [] → (lkey k : ℕ) → (byte_in c' lkey k ≡ byte_in c lkey k) ⊎ (lkey ≡ r.keys.local)
unfolding region_of_key
pushed-bytes c c' r pushed lkey k = elim (eqb_tells r.keys.local lkey) [
  | inl t ↦ inr (sym t.1)
  | inr t ↦ inl (ap (λ rs. slice_get (at (λ x. x.keys.local) no_region lkey rs).bytes k) pushed ∙ ap (λ (x : Region). slice_get x.bytes k) (at-push_other (λ (x : Region). x.keys.local) no_region lkey c.regions r t.0))
]

-- a region that is dropped takes its own bytes along
dropped-bytes : (c c' : Context) (n : Name) → c'.regions ≡ without (λ r. r.name) n c.regions → (lkey k : ℕ) → (byte_in c' lkey k ≡ byte_in c lkey k) ⊎ (lkey ≡ (region_at c n).keys.local)
unfolding region_of_key
dropped-bytes c c' n dropped lkey k = elim (eqb_tells (region_at c n).keys.local lkey) [
  | inl t ↦ inr (sym t.1)
  | inr t ↦ inl (ap (λ rs. slice_get (at (λ x. x.keys.local) no_region lkey rs).bytes k) dropped ∙ ap (λ (x : Region). slice_get x.bytes k) (at-without_other (λ (x : Region). x.name) (λ (x : Region). x.keys.local) no_region n lkey c.regions t.0))
]

-- bytes that are stored change no others
inside : (r : Region) (address count : ℕ) → holds r address count ≡ true → (r.base ≤ address) × (address + count ≤ r.base + r.length)
unfolding holds
inside r address count h = by (nat_le r.base address) (nat_le (address + count) (r.base + r.length)) refl refl h
  where
    by : (a b : Bool) → nat_le r.base address ≡ a → nat_le (address + count) (r.base + r.length) ≡ b → (a && b) ≡ true → (r.base ≤ address) × (address + count ≤ r.base + r.length)
    by true true p q g = (grind (arith, nat_tests, p), grind (arith, nat_tests, q))
    by true false p q g = absurd (cc)
    by false b p q g = absurd (cc)

apart-or-in : (low high k : ℕ) → ((k < low) ⊎ (high ≤ k)) ⊎ ((low ≤ k) × (k < high))
apart-or-in low high k = by (nat_lt k low) (nat_lt k high) refl refl
  where
    by : (a b : Bool) → nat_lt k low ≡ a → nat_lt k high ≡ b → ((k < low) ⊎ (high ≤ k)) ⊎ ((low ≤ k) × (k < high))
    by true b p q = inl (inl (grind (arith, nat_tests, p)))
    by false false p q = inl (inr (grind (arith, nat_tests, q)))
    by false true p q = inr (grind (arith, nat_tests, p), grind (arith, nat_tests, q))

module _ (c : Context) (n : Name) (address : ℕ) (bytes : List ℕ) where
  abbrev r : Region
  r = region_at c n

  abbrev off : ℕ
  off = address - r.base

  abbrev new : Region
  new = stored r off bytes

  stored-found : (lkey : ℕ) → at local_key no_region lkey (store local_key r.keys.local new c.regions) ≡ (if r.keys.local == lkey then new else at local_key no_region lkey c.regions)
  unfolding stored
  stored-found lkey = at-store local_key no_region r.keys.local lkey new c.regions refl

  stored-bytes : IsSoundContext c → has_region c n ≡ true → holds r address (length bytes) ≡ true → (lkey k : ℕ) → (byte_in (with_region c new) lkey k ≡ byte_in c lkey k) ⊎ IsStoredAt r address (length bytes) lkey k
  unfolding region_of_key with_region stored
  stored-bytes s there held lkey k = by (eqb_tells r.keys.local lkey)
    where
      within : (r.base ≤ address) × (address + length bytes ≤ r.base + r.length)
      within = inside r address (length bytes) held

      place : (i : ℕ) × (slice_get c.regions i ≡ Some r)
      place = place-named (λ (x : Region). x.name) no_region n c.regions there

      whole : length r.bytes ≡ r.length
      whole = (All-at (IsSoundRegion c.domains) c.regions place.0 r s.parts.regions place.1).whole

      before : r.keys.local ≡ lkey → at local_key no_region lkey c.regions ≡ r
      before same = ap (λ j. at local_key no_region j c.regions) (sym same) ∙ at_key c.regions place.0 r s.parts.keys place.1

      after : (b : Bool) → (r.keys.local == lkey) ≡ b → at local_key no_region lkey (store local_key r.keys.local new c.regions) ≡ (if b then new else at local_key no_region lkey c.regions)
      after b t = stored-found lkey ∙ ap (λ x. if x then new else at local_key no_region lkey c.regions) t

      written : r.keys.local ≡ lkey → (r.keys.local == lkey) ≡ true → ((k < off) ⊎ (off + length bytes ≤ k)) ⊎ ((off ≤ k) × (k < off + length bytes)) → (byte_in (with_region c new) lkey k ≡ byte_in c lkey k) ⊎ IsStoredAt r address (length bytes) lkey k
      written same t (inl out) =
          inl (ap (λ (x : Region). slice_get x.bytes k) (after true t) ∙ (put-apart r.bytes bytes off k (omega (arith, within, whole)) out ∙ ap (λ (x : Region). slice_get x.bytes k) (sym (before same))))
      written same t (inr here) = inr (record { key = sym same; low = omega (arith, within, here); high = omega (arith, within, here) })

      by : (((r.keys.local == lkey) ≡ true) × (r.keys.local ≡ lkey)) ⊎ (((r.keys.local == lkey) ≡ false) × (r.keys.local ≢ lkey)) → (byte_in (with_region c new) lkey k ≡ byte_in c lkey k) ⊎ IsStoredAt r address (length bytes) lkey k
      by (inl t) = written t.1 t.0 (apart-or-in off (off + length bytes) k)
      by (inr t) = inl (ap (λ (x : Region). slice_get x.bytes k) (after false t.0))

-- ---- one context changes

-- all but the context with that name is as it was; there only such bytes changed, and husks only so
pub record Bounded (d d' : Device) (n : Name) (A : ℕ → ℕ → Type 0) (H : Type 0) : Type 0 where
  pub others : (m : Name) → bytes_eq n m ≡ false → context_at d' m ≡ context_at d m
  pub bytes : (lkey k : ℕ) → (byte_of d' n lkey k ≡ byte_of d n lkey k) ⊎ A lkey k
  pub husks : (d'.husks ≡ d.husks) ⊎ H
  pub apart : HasDistinctContexts d → HasDistinctContexts d'

still : (d : Device) (n : Name) (A : ℕ → ℕ → Type 0) (H : Type 0) → Bounded d d n A H
still d n A H = record { others = λ m far. refl; bytes = λ lkey k. inl refl; husks = inl refl; apart = λ h. h }

put-back : (d d' : Device) (n : Name) (c : Context) (A : ℕ → ℕ → Type 0) (H : Type 0) → d'.contexts ≡ store_named (λ x. x.name) c.name c d.contexts → d'.husks ≡ d.husks → c.name ≡ n → has_context d n ≡ true
    → ((lkey k : ℕ) → (byte_in c lkey k ≡ byte_in (context_at d n) lkey k) ⊎ A lkey k) → Bounded d d' n A H
put-back d d' n c A H contexts husks name there bytes = record {
  others = λ m far. ap (named (λ (x : Context). x.name) no_context m) contexts ∙ named-store_other (λ (x : Context). x.name) no_context c.name m c d.contexts refl (ap (λ k. bytes_eq k m) name ∙ far);
  bytes = λ lkey k. by lkey k (bytes lkey k);
  husks = inl husks;
  apart = λ h. subst AreApart (sym names) h;
}
  where
    here : context_at d' n ≡ c
    here =
        ap (named (λ (x : Context). x.name) no_context n) contexts
        ∙ (ap (λ k. named (λ (x : Context). x.name) no_context k (store_named (λ (x : Context). x.name) c.name c d.contexts)) (sym name) ∙ named-store_same (λ (x : Context). x.name) no_context c.name c d.contexts refl)

    by : (lkey k : ℕ) → (byte_in c lkey k ≡ byte_in (context_at d n) lkey k) ⊎ A lkey k → (byte_of d' n lkey k ≡ byte_of d n lkey k) ⊎ A lkey k
    by lkey k (inl same) = inl (ap (λ x. byte_in x lkey k) here ∙ same)
    by lkey k (inr may) = inr may

    names : map (λ (x : Context). x.name) d'.contexts ≡ map (λ (x : Context). x.name) d.contexts
    names =
        ap (map (λ (x : Context). x.name)) contexts
        ∙ map-store (λ (x : Context). x.name) (λ (x : Context). x.name) no_context c.name c d.contexts (ap (λ k. has_name (λ (x : Context). x.name) k d.contexts) name ∙ there)
        (name ∙ sym (ap (λ k. (named (λ (x : Context). x.name) no_context k d.contexts).name) name ∙ name-named_there (λ (x : Context). x.name) no_context n d.contexts there))

-- .. and its regions are the same
back : (d : Device) (n : Name) (c : Context) (A : ℕ → ℕ → Type 0) (H : Type 0) → has_context d n ≡ true → c.name ≡ (context_at d n).name → c.regions ≡ (context_at d n).regions → Bounded d (with_context d c) n A H
unfolding with_context
back d n c A H there name regions =
    put-back d (with_context d c) n c A H refl refl (name ∙ name-named_there (λ (x : Context). x.name) no_context n d.contexts there) there (λ lkey k. inl (same-bytes (context_at d n) c regions lkey k))

-- ---- one event

module _ (d : Device) (n : Name) (there : has_context d n ≡ true) (A : ℕ → ℕ → Type 0) (H : Type 0) where
  abbrev Fine : Step → Type 0
  Fine x = Bounded d x.device n A H

  if-fine : (b : Bool) (x y : Step) → Fine x → Fine y → Fine (if b then x else y)
  if-fine true x y h g = h
  if-fine false x y h g = g

  at-link : (o : Option Link) (more : Link → Step) → ((l : Link) → Fine (more l)) → Fine (at_link d o more)
  at-link None more h = still d n A H
  at-link (Some l) more h = h l

  sends-fine : (e : End) (l : Link) (t : Transmission) → Fine (sends_by d (context_at d n) e l t)
  unfolding step.sends_piece with_end
  sends-fine e l SendsResume = still d n A H
  sends-fine e l Waits = still d n A H
  sends-fine e l IsIdle = still d n A H
  sends-fine e l WindowIsFull = still d n A H
  sends-fine e l ReadsAreFull = still d n A H
  sends-fine e l IsFenced = still d n A H
  sends-fine e l (Sends x) = back d n (linked (context_at d n) e (transmitted l x)) A H there refl refl

  counts-fine : (e : End) (l : Link) → Fine (counts d (context_at d n) e l)
  unfolding counts ended_with completing with_queue with_end
  counts-fine e l =
      if-fine (l.sender.spent == l.terms.retry) _ _
      (back d n (ended_with (context_at d n) e l status.RetryExceeded) A H there refl refl)
      (back d n (linked (context_at d n) e (with_sender l (counted l.sender))) A H there refl refl)

  expires-fine : (e : End) (l : Link) (o : Option ExpiryIgnored) → Fine (expires_by d (context_at d n) e l o)
  expires-fine e l (Some w) = still d n A H
  expires-fine e l None = counts-fine e l

  over-fine : (e : End) (l : Link) → Fine (waits_out d (context_at d n) e l)
  unfolding with_end
  over-fine e l = if-fine l.sender.rnr_wait _ (step.answers d _) (back d n (linked (context_at d n) e (with_sender l (waited_out l.sender))) A H there refl refl) (still d n A H)

  posts-fine : (e : End) (o : Option Link) (q : Request) → Fine (step.posts_at d (context_at d n) e o q)
  unfolding step.posted_at completing with_queue with_end
  posts-fine e None q = still d n A H
  posts-fine e (Some l) q = posted l.ended
    where
      posted : (b : Bool) → Bounded d (with_context d (if b then completing (context_at d n) e.send_cq (failed_request e.number status.Flush (record { request = q; payload = taken_bytes (context_at d n) q }) ∷ []) else linked (context_at d n) e (with_sender l (posting l.sender (record { request = q; payload = taken_bytes (context_at d n) q }))))) n A H
      posted true = back d n _ A H there refl refl
      posted false = back d n _ A H there refl refl

  receives-fine : (e : End) (q : Receive) → Fine (step.receives d (context_at d n) e q)
  unfolding step.receives completing with_queue with_end
  receives-fine e q = received (is_in_error e.link)
    where
      received : (b : Bool) → Bounded d (with_context d (if b then completing (context_at d n) e.recv_cq (failed_receive e.number status.Flush q ∷ []) else with_end (context_at d n) (with_unused e (e.unused ++ q ∷ [])))) n A H
      received true = back d n _ A H there refl refl
      received false = back d n _ A H there refl refl

-- ---- contexts come and go

-- a context of a new name at the end
push-bounded : (d d' : Device) (n : Name) (c : Context) (A : ℕ → ℕ → Type 0) (H : Type 0) → d'.contexts ≡ d.contexts ++ c ∷ [] → d'.husks ≡ d.husks → c.name ≡ n → has_context d n ≡ false
    → ((lkey k : ℕ) → (byte_in c lkey k ≡ byte_in no_context lkey k) ⊎ A lkey k) → Bounded d d' n A H
push-bounded d d' n c A H contexts husks name lacks bytes = record {
  others = λ m far. ap (named (λ (x : Context). x.name) no_context m) contexts ∙ named-push_other (λ (x : Context). x.name) no_context m d.contexts c (ap (λ k. bytes_eq k m) name ∙ far);
  bytes = λ lkey k. by lkey k (bytes lkey k);
  husks = inl husks;
  apart = λ h. subst (λ cs. AreApart (map (λ (x : Context). x.name) cs)) (sym contexts) (apart-push (λ (x : Context). x.name) d.contexts c (ap (λ k. has_name (λ (x : Context). x.name) k d.contexts) name ∙ lacks) h);
}
  where
    after : context_at d' n ≡ c
    after = ap (named (λ (x : Context). x.name) no_context n) contexts ∙ named-push_lacks (λ (x : Context). x.name) no_context n d.contexts c lacks name

    before : context_at d n ≡ no_context
    before = named-lacks (λ (x : Context). x.name) no_context n d.contexts lacks

    by : (lkey k : ℕ) → (byte_in c lkey k ≡ byte_in no_context lkey k) ⊎ A lkey k → (byte_of d' n lkey k ≡ byte_of d n lkey k) ⊎ A lkey k
    by lkey k (inl same) = inl (ap (λ x. byte_in x lkey k) after ∙ (same ∙ ap (λ x. byte_in x lkey k) (sym before)))
    by lkey k (inr may) = inr may

-- the context of a name leaves
leave-bounded : (d d' : Device) (n : Name) (A : ℕ → ℕ → Type 0) (H : Type 0) → d'.contexts ≡ without (λ x. x.name) n d.contexts → ((lkey k : ℕ) → A lkey k) → H → Bounded d d' n A H
leave-bounded d d' n A H contexts all h = record {
  others = λ m far. ap (named (λ (x : Context). x.name) no_context m) contexts ∙ named-without_other (λ (x : Context). x.name) no_context n m d.contexts far;
  bytes = λ lkey k. inr (all lkey k);
  husks = inr h;
  apart = λ a. subst (λ cs. AreApart (map (λ (x : Context). x.name) cs)) (sym contexts) (apart-without (λ (x : Context). x.name) n d.contexts a);
}

or-none : (a b : Bool) → (a || b) ≡ false → (a ≡ false) × (b ≡ false)
or-none true b h = absurd (cc)
or-none false b h = (refl, h)

empty-bytes : (n : Name) (lkey k : ℕ) → byte_in (step.new_context n) lkey k ≡ byte_in no_context lkey k
unfolding region_of_key
empty-bytes n lkey k = refl

-- an arrival leaves the names of contexts
names-frames : (cs : List Context) → map (λ c. c.name) (map frame cs) ≡ map (λ c. c.name) cs
unfolding frame
names-frames [] = refl
names-frames (c ∷ cs) = ap (λ ns. c.name ∷ ns) (names-frames cs)

still-distinct : (touched : Name → ℕ → ℕ → Bool) (d d' : Device) → ChangesOnly touched d d' → HasDistinctContexts d → HasDistinctContexts d'
still-distinct touched d d' h apart = subst AreApart (sym (names-frames d.contexts) ∙ (ap (map (λ (c : Context). c.name)) (sym h.frames) ∙ names-frames d'.contexts)) apart

-- ---- the table

-- an event that is no arrival
abbrev pub IsOwn : Event → Type 0
IsOwn (event.Arrive from bytes) = ⊥
IsOwn other = Unit {0}

abbrev IsBoundedBy : Device → Event → Device → Type 0
IsBoundedBy d e d' = Bounded d d' (subject_of e) (λ lkey k. OwnerChanges d e (subject_of e) lkey k) (ChangesHusks e)

done-bounded : (d : Device) (e : Event) → IsOwn e → IsSoundDevice d → first_cause (causes_of d e) ≡ None → IsBoundedBy d e (done_by d e).device
unfolding
    step.makes_context step.makes_domain step.makes_region step.makes_queue step.makes_end step.connects step.drops step.stores step.loads step.posts step.polls step.transmits step.expires step.rnr_over step.stops step.restores step.releases
    step.with_domain step.with_new_region step.with_new_queue step.with_new_end with_context with_end with_queue with_region moved context_of
done-bounded d (event.MakeContext name) own s h =
    let a = no-cause _ _ h in
    let taken = or-none _ _ a.0 in
    push-bounded d _ name (step.new_context name) _ _ refl refl refl taken.0 (λ lkey k. inl (empty-bytes name lkey k))
done-bounded d (event.MakeDomain o) own s h =
    let w = within-context d o.context _ _ _ refl h in
    back d o.context (step.with_domain (context_at d o.context) o.name) _ _ w.there refl refl
done-bounded d (event.MakeRegion o domain base size rights) own s h =
    let w = within-context d o.context _ _ _ refl h in
    let c : Context = context_at d o.context in
    put-back d _ o.context (step.with_new_region c _) _ _ refl refl (name-named_there (λ (x : Context). x.name) no_context o.context d.contexts w.there) w.there (λ lkey k. pushed-bytes c _ _ refl lkey k)
done-bounded d (event.MakeCq o capacity) own s h =
    let w = within-context d o.context _ _ _ refl h in
    back d o.context (step.with_new_queue (context_at d o.context) _) _ _ w.there refl refl
done-bounded d (event.MakeQp o domain send_cq recv_cq send_depth recv_depth) own s h =
    let w = within-context d o.context _ _ _ refl h in
    let c : Context = context_at d o.context in
    put-back d _ o.context (step.with_new_end c _) _ _ refl refl (name-named_there (λ (x : Context). x.name) no_context o.context d.contexts w.there) w.there (λ lkey k. inl (same-bytes c _ refl lkey k))
done-bounded d (event.Connect o peer partner terms) own s h =
    let w = within-context d o.context _ _ _ refl h in
    back d o.context (linked (context_at d o.context) (end_at (context_at d o.context) o.name) _) _ _ w.there refl refl
done-bounded d (event.DropRegion o) own s h =
    let w = within-context d o.context _ _ _ refl h in
    let c : Context = context_at d o.context in
    put-back d _ o.context (step.without_region c o.name) _ _ refl refl (name-named_there (λ (x : Context). x.name) no_context o.context d.contexts w.there) w.there (λ lkey k. dropped-bytes c _ o.name refl lkey k)
done-bounded d (event.Store o at bytes) own s h =
    let w = within-context d o.context _ _ _ refl h in
    let c : Context = context_at d o.context in
    let a = no-cause _ _ w.none in
    let b = no-cause _ _ a.1 in
    put-back d _ o.context (with_region c (stored (region_at c o.name) (at - (region_at c o.name).base) bytes)) _ _ refl refl (name-named_there (λ (x : Context). x.name) no_context o.context d.contexts w.there) w.there
    (stored-bytes c o.name at bytes (live d o.context s w.there).sound (not-false (has_region c o.name) a.0) (not-false (holds (region_at c o.name) at (length bytes)) b.0))
done-bounded d (event.Load o at size) own s h = still d o.context _ _
done-bounded d (event.PostSend o r) own s h = let w = within-context d o.context _ _ _ refl h in posts-fine d o.context w.there _ _ (end_at (context_at d o.context) o.name) (end_at (context_at d o.context) o.name).link r
done-bounded d (event.PostRecv o r) own s h = let w = within-context d o.context _ _ _ refl h in receives-fine d o.context w.there _ _ (end_at (context_at d o.context) o.name) r
done-bounded d (event.Poll o most) own s h =
    let w = within-context d o.context _ _ _ refl h in
    back d o.context (with_queue (context_at d o.context) _) _ _ w.there refl refl
done-bounded d (event.Transmit o) own s h =
    let w = within-context d o.context _ _ _ refl h in
    let e : End = end_at (context_at d o.context) o.name in
    at-link d o.context w.there _ _ e.link (λ l. sends_by d (context_at d o.context) e l (transmission l)) (λ l. sends-fine d o.context w.there _ _ e l (transmission l))
done-bounded d (event.Arrive from bytes) own s h = absurd own
done-bounded d (event.Expire o) own s h =
    let w = within-context d o.context _ _ _ refl h in
    let e : End = end_at (context_at d o.context) o.name in
    at-link d o.context w.there _ _ e.link (λ l. expires_by d (context_at d o.context) e l (not_counted l)) (λ l. expires-fine d o.context w.there _ _ e l (not_counted l))
done-bounded d (event.RnrOver o) own s h =
    let w = within-context d o.context _ _ _ refl h in
    let e : End = end_at (context_at d o.context) o.name in
    at-link d o.context w.there _ _ e.link (λ l. waits_out d (context_at d o.context) e l) (λ l. over-fine d o.context w.there _ _ e l)
done-bounded d (event.Stop name alone) own s h =
    let w = within-context d name _ _ _ refl h in
    leave-bounded d _ name _ _ (ap (λ k. without (λ (x : Context). x.name) k d.contexts) (name-named_there (λ (x : Context). x.name) no_context name d.contexts w.there)) (λ lkey k. tt) tt
done-bounded d (event.Restore image) own s h =
    let a = no-cause _ _ h in
    let taken = or-none _ _ a.0 in
    let names = or-none _ _ taken.0 in
    push-bounded d _ image.name (moved (context_of image)) _ _ refl refl refl names.0 (λ lkey k. inr tt)
done-bounded d (event.Release name) own s h = record { others = λ m far. refl; bytes = λ lkey k. inl refl; husks = inr tt; apart = λ a. a }

step-bounded : (d : Device) (e : Event) → IsOwn e → IsSoundDevice d → IsBoundedBy d e (device_step d e).device
unfolding device_step refusal_of
step-bounded d e own s = by_cause (first_cause (causes_of d e)) refl
  where
    by_cause : (o : Option Refusal) → first_cause (causes_of d e) ≡ o → IsBoundedBy d e (by_refusal d e o).device
    by_cause None h = done-bounded d e own s h
    by_cause (Some r) h = still d (subject_of e) _ _

-- ---- things

-- an event that the node asks for
own-changes : (d d' : Device) (e : Event) → IsBoundedBy d e d' → (t : Thing) → IsSame d d' t ⊎ OwnEventChanges d e t
own-changes d d' e b (Byte c lkey k) = by (name_tells (subject_of e) c) (b.bytes lkey k)
  where
    by : ((bytes_eq (subject_of e) c ≡ true) × (subject_of e ≡ c)) ⊎ ((bytes_eq (subject_of e) c ≡ false) × (subject_of e ≢ c)) → (byte_of d' (subject_of e) lkey k ≡ byte_of d (subject_of e) lkey k) ⊎ OwnerChanges d e (subject_of e) lkey k
        → IsSame d d' (Byte c lkey k) ⊎ OwnEventChanges d e (Byte c lkey k)
    by (inl t) (inl same) = inl (subst (λ n. byte_of d' n lkey k ≡ byte_of d n lkey k) t.1 same)
    by (inl t) (inr may) = inr (sym t.1, subst (λ n. OwnerChanges d e n lkey k) t.1 may)
    by (inr t) o = inl (ap (λ x. byte_in x lkey k) (b.others c t.0))
own-changes d d' e b (Pair c n) = elim (name_tells (subject_of e) c) [ inl t ↦ inr (sym t.1) | inr t ↦ inl (ap (λ x. end_at x n) (b.others c t.0)) ]
own-changes d d' e b (Queue c n) = elim (name_tells (subject_of e) c) [ inl t ↦ inr (sym t.1) | inr t ↦ inl (ap (λ x. queue_at x n) (b.others c t.0)) ]
own-changes d d' e b (Frame c) = elim (name_tells (subject_of e) c) [ inl t ↦ inr (sym t.1) | inr t ↦ inl (ap frame (b.others c t.0)) ]
own-changes d d' e b Husks = b.husks

-- nothing changes
pub all-same : (d d' : Device) → d' ≡ d → (t : Thing) → IsSame d d' t
all-same d d' same (Byte c lkey k) = ap (λ x. byte_of x c lkey k) same
all-same d d' same (Pair c n) = ap (λ x. end_at (context_at x c) n) same
all-same d d' same (Queue c n) = ap (λ x. queue_at (context_at x c) n) same
all-same d d' same (Frame c) = ap (λ x. frame (context_at x c)) same
all-same d d' same Husks = ap (λ (x : Device). x.husks) same

-- an arrival

end-changes : (d d' : Device) (bytes : List ℕ) (p : Packet) (f : Found) (fs : List Found) → packet_of bytes ≡ Some p → found_in p.dest d.contexts ≡ f ∷ fs → ReachesEnd f p d d' → (t : Thing) → IsSame d d' t ⊎ ArrivalChanges d bytes t
end-changes d d' bytes p f fs reads found r (Byte c lkey k) = by (name_tells f.context.name c)
  where
    here : (b : Bool) → may_reach f.end f.link p (region_of_key f.context lkey) k ≡ b → f.context.name ≡ c → IsSame d d' (Byte c lkey k) ⊎ ArrivalChanges d bytes (Byte c lkey k)
    here true t same = inr (record { packet = p; reads = reads; end = f; others = fs; named = found; of_context = same }, t)
    here false t same = inl (subst (λ n. byte_of d' n lkey k ≡ byte_of d n lkey k) same (r.context.bytes lkey k t ∙ ap (λ x. byte_in x lkey k) (sym r.there)))

    by : ((bytes_eq f.context.name c ≡ true) × (f.context.name ≡ c)) ⊎ ((bytes_eq f.context.name c ≡ false) × (f.context.name ≢ c)) → IsSame d d' (Byte c lkey k) ⊎ ArrivalChanges d bytes (Byte c lkey k)
    by (inl t) = here (may_reach f.end f.link p (region_of_key f.context lkey) k) refl t.1
    by (inr t) = inl (ap (λ x. byte_in x lkey k) (r.other_contexts c (λ e. t.1 (sym e))))
end-changes d d' bytes p f fs reads found r (Pair c n) = by (name_tells f.context.name c) (name_tells f.end.name n)
  where
    by : ((bytes_eq f.context.name c ≡ true) × (f.context.name ≡ c)) ⊎ ((bytes_eq f.context.name c ≡ false) × (f.context.name ≢ c)) → ((bytes_eq f.end.name n ≡ true) × (f.end.name ≡ n)) ⊎ ((bytes_eq f.end.name n ≡ false) × (f.end.name ≢ n))
        → IsSame d d' (Pair c n) ⊎ ArrivalChanges d bytes (Pair c n)
    by (inl t) (inl u) = inr (record { packet = p; reads = reads; end = f; others = fs; named = found; of_context = t.1 }, sym u.1)
    by (inl t) (inr u) = inl (subst (λ m. end_at (context_at d' m) n ≡ end_at (context_at d m) n) t.1 (r.context.other_ends n (λ e. u.1 (sym e)) ∙ ap (λ x. end_at x n) (sym r.there)))
    by (inr t) u = inl (ap (λ x. end_at x n) (r.other_contexts c (λ e. t.1 (sym e))))
end-changes d d' bytes p f fs reads found r (Queue c n) = by (name_tells f.context.name c) (name_tells f.end.send_cq n) (name_tells f.end.recv_cq n)
  where
    by : ((bytes_eq f.context.name c ≡ true) × (f.context.name ≡ c)) ⊎ ((bytes_eq f.context.name c ≡ false) × (f.context.name ≢ c)) → ((bytes_eq f.end.send_cq n ≡ true) × (f.end.send_cq ≡ n)) ⊎ ((bytes_eq f.end.send_cq n ≡ false) × (f.end.send_cq ≢ n))
        → ((bytes_eq f.end.recv_cq n ≡ true) × (f.end.recv_cq ≡ n)) ⊎ ((bytes_eq f.end.recv_cq n ≡ false) × (f.end.recv_cq ≢ n)) → IsSame d d' (Queue c n) ⊎ ArrivalChanges d bytes (Queue c n)
    by (inl t) (inl u) v = inr (record { packet = p; reads = reads; end = f; others = fs; named = found; of_context = t.1 }, inl (sym u.1))
    by (inl t) (inr u) (inl v) = inr (record { packet = p; reads = reads; end = f; others = fs; named = found; of_context = t.1 }, inr (sym v.1))
    by (inl t) (inr u) (inr v) = inl (subst (λ m. queue_at (context_at d' m) n ≡ queue_at (context_at d m) n) t.1 (r.context.other_queues n (λ e. u.1 (sym e)) (λ e. v.1 (sym e)) ∙ ap (λ x. queue_at x n) (sym r.there)))
    by (inr t) u v = inl (ap (λ x. queue_at x n) (r.other_contexts c (λ e. t.1 (sym e))))
end-changes d d' bytes p f fs reads found r (Frame c) = elim (name_tells f.context.name c) [
  | inl t ↦ inl (subst (λ m. frame (context_at d' m) ≡ frame (context_at d m)) t.1 (r.context.frames ∙ ap frame (sym r.there)))
  | inr t ↦ inl (ap frame (r.other_contexts c (λ e. t.1 (sym e))))
]
end-changes d d' bytes p f fs reads found r Husks = inl r.husks

found-changes : (d d' : Device) (bytes : List ℕ) (p : Packet) (fs : List Found) → packet_of bytes ≡ Some p → found_in p.dest d.contexts ≡ fs → ReachesFirst fs p d d' → (t : Thing) → IsSame d d' t ⊎ ArrivalChanges d bytes t
found-changes d d' bytes p [] reads found r t = inl (all-same d d' r t)
found-changes d d' bytes p (f ∷ fs) reads found r t = end-changes d d' bytes p f fs reads found r t

packet-changes : (d d' : Device) (bytes : List ℕ) (o : Option Packet) → packet_of bytes ≡ o → ReachesBy o d d' → (t : Thing) → IsSame d d' t ⊎ ArrivalChanges d bytes t
packet-changes d d' bytes None reads r t = inl (all-same d d' r t)
packet-changes d d' bytes (Some p) reads r t = found-changes d d' bytes p (found_in p.dest d.contexts) reads refl r t

-- ---- any event

pub changes-only : (d : Device) (e : Event) → IsSoundDevice d → HasDistinctContexts d → (t : Thing) → IsSame d (device_step d e).device t ⊎ MayChange d e t
changes-only d (event.Arrive from bytes) s apart t = packet-changes d _ bytes (packet_of bytes) refl (arrivals-reach d from bytes s apart) t
changes-only d e s apart t = own-changes d _ e (step-bounded d e tt s) t

-- .. and contexts keep names of their own
pub stays-distinct : (d : Device) (e : Event) → IsSoundDevice d → HasDistinctContexts d → HasDistinctContexts (device_step d e).device
stays-distinct d (event.Arrive from bytes) s apart = still-distinct (is_touched d bytes) d _ (arrivals-change d from bytes s apart) apart
stays-distinct d e s apart = (step-bounded d e tt s).apart apart
