-- An end goes on: its work, its completions and the bytes of its regions.
use Rattle.std.proofs.Common.{arith, ◌≡◌, ◌≢◌, ◌⊎◌, ◌≤◌, ◌<◌, ◌+◌, ◌-◌, ◌/◌, ℕ, zero, suc, List, [], ◌∷◌, ◌++◌, map, length, true, false, Bool, refl, sym, ap, ◌∙◌, inl, inr, subst, length-append}
use Rattle.std.specs.Prelude.{All, AllPairs, bytes_eq, Option, Some, None, if◌then◌else◌}
use Rattle.std.proofs.lemmas.List.Elements.{All-cons, All-head, All-tail, All-append}
use Rattle.rdma_types.specs.declared.names.Name.{Name}
use Rattle.rdma_types.specs.declared.requests.Completion.{Completion}
use Rattle.rdma_types.specs.declared.requests.Receive.{Receive}
use Rattle.rdma_types.specs.Lists.{has_name, named, store_named}
use Rattle.rdma_types.specs.Memory.{local_key}
use Rattle.rdma_types.specs.Objects.{CompletionQueue, Region}
use Rattle.protocol.specs.DeviceStep.{with_context}
use Rattle.protocol.specs.EndWords.{EndStep, completing, in_use_by, is_resuming, linked, with_end, with_link, with_moving, with_queue, with_receiver, with_sender, with_unused}
use Rattle.protocol.specs.Lawful.{IsLawfulEntry}
use Rattle.protocol.specs.Memory.{landed, written, with_region}
use Rattle.protocol.specs.Refusals.{count_if}
use Rattle.protocol.specs.State.{Context, Device, no_end, End, Link, Moving, Receiver, Sender}
use Rattle.law_devices.specs.Sound.{AreCounted, IsCounted, IsInFirst, IsSoundContext, IsSoundDevice, IsSoundLink, IsSoundReceive, IsSoundReceiver, IsSoundRegion, IsSoundSender, names_of_queues, plans}
use Rattle.law_devices.proofs.Regions.{IsPlace, plans-written, regions-written}
use Rattle.law_devices.proofs.Rooms.{Follows, Gains, IsHere, end_with, end-sound, follows-sound, gains-completing, gains-nothing, same_region_keys}
use Rattle.law_devices.proofs.Tables.{All-store, map-store, word-there}

-- ---- contexts on a device

-- a sound context became another sound one, and its numbers and keys are counted as before
pub record Stays (c c' : Context) : Type 0 where
  pub sound : IsSoundContext c'
  pub counted : (d : Device) → AreCounted d c → AreCounted d c'

pub stays-same : (c : Context) → IsSoundContext c → Stays c c
stays-same c s = record { sound = s; counted = λ d h. h }

pub All-map : {A B : Type 0} (P : B → Type 0) (f : A → B) (xs : List A) → All P (map f xs) → All (λ x. P (f x)) xs
All-map P f [] all = λ i x below. absurd (omega (arith, below))
All-map P f (x ∷ xs) all = All-cons (λ y. P (f y)) x xs (All-head P (f x) (map f xs) all) (All-map P f xs (All-tail P (f x) (map f xs) all))

pub All-mapped : {A B : Type 0} (P : B → Type 0) (f : A → B) (xs : List A) → All (λ x. P (f x)) xs → All P (map f xs)
All-mapped P f [] all = λ i x below. absurd (omega (arith, below))
All-mapped P f (x ∷ xs) all = All-cons P (f x) (map f xs) (All-head (λ y. P (f y)) x xs all) (All-mapped P f xs (All-tail (λ y. P (f y)) x xs all))

-- the same numbers and keys are counted as before
pub counted-same : (d : Device) (c c' : Context) → map (λ x. x.number) c'.ends ≡ map (λ x. x.number) c.ends → map local_key c'.regions ≡ map local_key c.regions → AreCounted d c → AreCounted d c'
counted-same d c c' numbers keys h = record {
  ends = All-map (IsCounted d.id 65536 d.qp_count) (λ x. x.number) c'.ends (subst (All (IsCounted d.id 65536 d.qp_count)) (sym numbers) (All-mapped (IsCounted d.id 65536 d.qp_count) (λ x. x.number) c.ends h.ends));
  regions = All-map (λ k. IsCounted d.id 8388608 d.key_count (k / 2)) local_key c'.regions (subst (All (λ k. IsCounted d.id 8388608 d.key_count (k / 2))) (sym keys) (All-mapped (λ k. IsCounted d.id 8388608 d.key_count (k / 2)) local_key c.regions h.regions));
}

pub follows-stays : (c : Context) (e : End) (l : Link) {us : List Receive} {l' : Link} {told served : ℕ} (c' : Context) → IsSoundContext c → IsHere c e → e.link ≡ Some l → Follows c e l us l' told served c' → Stays c c'
follows-stays c e l {us} {l'} {told} {served} c' s here linked f = record {
  sound = follows-sound c e l us l' told served c' s here linked f;
  counted = λ d. counted-same d c c' (ap (map (λ (x : End). x.number)) f.ends ∙ map-store (λ (x : End). x.number) (λ x. x.name) no_end e.name (end_with e us l') c.ends here.there (ap (λ (x : End). x.number) (sym here.is))) (same_region_keys c.regions c'.regions f.same_plans);
}

-- counts do not fall
pub counted-more : (d d' : Device) (c : Context) → d'.id ≡ d.id → d.qp_count ≤ d'.qp_count → d.key_count ≤ d'.key_count → AreCounted d c → AreCounted d' c
counted-more d d' c id numbers keys h = record {
  ends = λ k x below is. let old = h.ends k x below (is ∙ id) in omega (arith, old, numbers);
  regions = λ k x below is. let old = h.regions k x below (is ∙ id) in omega (arith, old, keys);
}

pub all-counted : (d d' : Device) (cs : List Context) → d'.id ≡ d.id → d.qp_count ≤ d'.qp_count → d.key_count ≤ d'.key_count → All (AreCounted d) cs → All (AreCounted d') cs
all-counted d d' [] id numbers keys all = λ i x below. absurd (omega (arith, below))
all-counted d d' (c ∷ cs) id numbers keys all = All-cons (AreCounted d') c cs (counted-more d d' c id numbers keys (All-head (AreCounted d) c cs all)) (all-counted d d' cs id numbers keys (All-tail (AreCounted d) c cs all))

-- the device with the context as it is then
pub device-with : (d : Device) (c c' : Context) → IsSoundDevice d → AreCounted d c → Stays c c' → IsSoundDevice (with_context d c')
unfolding with_context
device-with d c c' s counted t = record {
  some_id = s.some_id;
  few_ids = s.few_ids;
  few_numbers = s.few_numbers;
  few_keys = s.few_keys;
  contexts = All-store IsSoundContext (λ x. x.name) c'.name c' d.contexts s.contexts t.sound;
  counted = all-counted d (with_context d c') (store_named (λ x. x.name) c'.name c' d.contexts) refl (omega arith) (omega arith) (All-store (AreCounted d) (λ x. x.name) c'.name c' d.contexts s.counted (t.counted d counted));
}

-- ---- bytes

-- only bytes of regions differ
pub record Bytes (c c1 : Context) : Type 0 where
  pub name : c1.name ≡ c.name
  pub domains : c1.domains ≡ c.domains
  pub same_plans : plans c1.regions ≡ plans c.regions
  pub regions : All (IsSoundRegion c.domains) c1.regions
  pub queues : c1.queues ≡ c.queues
  pub ends : c1.ends ≡ c.ends

pub bytes-none : (c : Context) → IsSoundContext c → Bytes c c
bytes-none c s = record { name = refl; domains = refl; same_plans = refl; regions = s.parts.regions; queues = refl; ends = refl }

written_name : (c : Context) (key off : ℕ) (bytes : List ℕ) → (written c key off bytes).name ≡ c.name
unfolding written with_region
written_name c key off [] = refl
written_name c key off (b ∷ bs) = refl

written_domains : (c : Context) (key off : ℕ) (bytes : List ℕ) → (written c key off bytes).domains ≡ c.domains
unfolding written with_region
written_domains c key off [] = refl
written_domains c key off (b ∷ bs) = refl

written_queues : (c : Context) (key off : ℕ) (bytes : List ℕ) → (written c key off bytes).queues ≡ c.queues
unfolding written with_region
written_queues c key off [] = refl
written_queues c key off (b ∷ bs) = refl

pub written_ends : (c : Context) (key off : ℕ) (bytes : List ℕ) → (written c key off bytes).ends ≡ c.ends
unfolding written with_region
written_ends c key off [] = refl
written_ends c key off (b ∷ bs) = refl

pub bytes-written : (c : Context) (key off : ℕ) (bytes : List ℕ) → IsSoundContext c → (bytes ≡ []) ⊎ IsPlace c.regions key off (length bytes) → Bytes c (written c key off bytes)
bytes-written c key off bytes s place = record {
  name = written_name c key off bytes;
  domains = written_domains c key off bytes;
  same_plans = plans-written c key off bytes s.parts.keys place;
  regions = regions-written c key off bytes s.parts.keys place s.parts.regions;
  queues = written_queues c key off bytes;
  ends = written_ends c key off bytes;
}

-- ---- going on

gains-more : (qs qs' : List CompletionQueue) (more more' : Name → ℕ) → Gains qs qs' more → ((n : Name) → more n ≤ more' n) → Gains qs qs' more'
gains-more qs qs' more more' g h = record { names = g.names; queues = g.queues; capacity = g.capacity; entries = λ n there. omega (arith, g.entries n there, h n) }

-- its work became less, or is other work
pub follow : (c : Context) (e : End) (l : Link) (c1 : Context) (us : List Receive) (l' : Link) → IsSoundContext c → Bytes c c1
    → IsSoundLink (plans c.regions) e.domain e.send_depth l' → All (IsSoundReceive (plans c.regions) e.domain) us → (l'.ended ≡ true → us ≡ []) → length us ≤ length e.unused
    → length l'.sender.untold ≤ length l.sender.untold → length us + length (in_use_by l'.receiver.progress) ≤ length e.unused + length (in_use_by l.receiver.progress)
    → Follows c e l us l' 0 0 (linked c1 (with_unused e us) l')
unfolding with_end with_link with_unused
follow c e l c1 us l' s b sound receives none few requests used = record {
  name = b.name;
  domains = b.domains;
  same_plans = b.same_plans;
  regions = b.regions;
  gains = subst (λ qs. Gains c.queues qs (λ n. count_if (bytes_eq e.send_cq n) 0 + count_if (bytes_eq e.recv_cq n) 0)) (sym b.queues) (gains-nothing c.queues (λ n. count_if (bytes_eq e.send_cq n) 0 + count_if (bytes_eq e.recv_cq n) 0) s.parts.queues);
  ends = ap (store_named (λ x. x.name) e.name (end_with e us l')) b.ends;
  sound = sound;
  receives = receives;
  no_unused = none;
  few_unused = few;
  requests_pay = omega (arith, requests);
  receives_pay = omega (arith, used);
}

-- .. with no receive used
pub follow-link : (c : Context) (e : End) (l : Link) (c1 : Context) (l' : Link) → IsSoundContext c → IsHere c e → Bytes c c1
    → IsSoundLink (plans c.regions) e.domain e.send_depth l' → l'.ended ≡ false
    → length l'.sender.untold ≤ length l.sender.untold → length (in_use_by l'.receiver.progress) ≤ length (in_use_by l.receiver.progress)
    → Follows c e l e.unused l' 0 0 (linked c1 e l')
unfolding with_end with_link with_unused
follow-link c e l c1 l' s here b sound alive requests used =
    follow c e l c1 e.unused l' s b sound (end-sound c e s.parts here).receives (λ t. absurd (cc)) (omega arith) requests (omega (arith, used))

count_more : (a b : Bool) (t s k : ℕ) → (count_if a t + count_if b s) + count_if a k ≤ count_if a (t + k) + count_if b s
count_more true true t s k = omega arith
count_more true false t s k = omega arith
count_more false true t s k = omega arith
count_more false false t s k = omega arith

count_more_served : (a b : Bool) (t s k : ℕ) → (count_if a t + count_if b s) + count_if b k ≤ count_if a t + count_if b (s + k)
count_more_served true true t s k = omega arith
count_more_served true false t s k = omega arith
count_more_served false true t s k = omega arith
count_more_served false false t s k = omega arith

-- requests that left its work are completed
pub follows-told : (c : Context) (e : End) (l : Link) {us : List Receive} {l' : Link} {told served : ℕ} (x : Context) (es : List Completion) → IsSoundContext c → IsHere c e → Follows c e l us l' told served x → All IsLawfulEntry es
    → (told + length es) + length l'.sender.untold ≤ length l.sender.untold → Follows c e l us l' (told + length es) served (completing x e.send_cq es)
unfolding completing with_queue
follows-told c e l {us} {l'} {told} {served} x es s here f lawful pay = record {
  name = f.name;
  domains = f.domains;
  same_plans = f.same_plans;
  regions = f.regions;
  gains = gains-more c.queues (completing x e.send_cq es).queues _ (λ n. count_if (bytes_eq e.send_cq n) (told + length es) + count_if (bytes_eq e.recv_cq n) served)
      (gains-completing c.queues x (λ n. count_if (bytes_eq e.send_cq n) told + count_if (bytes_eq e.recv_cq n) served) e.send_cq es f.gains (sym (word-there (λ (q : CompletionQueue). q.name) e.send_cq c.queues) ∙ (end-sound c e s.parts here).send_cq) lawful)
      (λ n. count_more (bytes_eq e.send_cq n) (bytes_eq e.recv_cq n) told served (length es));
  ends = f.ends;
  sound = f.sound;
  receives = f.receives;
  no_unused = f.no_unused;
  few_unused = f.few_unused;
  requests_pay = pay;
  receives_pay = f.receives_pay;
}

-- receives that left its work are completed
pub follows-served : (c : Context) (e : End) (l : Link) {us : List Receive} {l' : Link} {told served : ℕ} (x : Context) (es : List Completion) → IsSoundContext c → IsHere c e → Follows c e l us l' told served x → All IsLawfulEntry es
    → (served + length es) + (length us + length (in_use_by l'.receiver.progress)) ≤ length e.unused + length (in_use_by l.receiver.progress) → Follows c e l us l' told (served + length es) (completing x e.recv_cq es)
unfolding completing with_queue
follows-served c e l {us} {l'} {told} {served} x es s here f lawful pay = record {
  name = f.name;
  domains = f.domains;
  same_plans = f.same_plans;
  regions = f.regions;
  gains = gains-more c.queues (completing x e.recv_cq es).queues _ (λ n. count_if (bytes_eq e.send_cq n) told + count_if (bytes_eq e.recv_cq n) (served + length es))
      (gains-completing c.queues x (λ n. count_if (bytes_eq e.send_cq n) told + count_if (bytes_eq e.recv_cq n) served) e.recv_cq es f.gains (sym (word-there (λ (q : CompletionQueue). q.name) e.recv_cq c.queues) ∙ (end-sound c e s.parts here).recv_cq) lawful)
      (λ n. count_more_served (bytes_eq e.send_cq n) (bytes_eq e.recv_cq n) told served (length es));
  ends = f.ends;
  sound = f.sound;
  receives = f.receives;
  no_unused = f.no_unused;
  few_unused = f.few_unused;
  requests_pay = f.requests_pay;
  receives_pay = pay;
}

-- ---- links

module _ (regions : List Region) (domain : Name) (depth : ℕ) (l : Link) (h : IsSoundLink regions domain depth l) (alive : l.ended ≡ false) where
  pub link-sender : (s : Sender) → IsSoundSender regions domain depth l.terms s → IsInFirst l.terms.mtu s.untold s.first s.una → IsSoundLink regions domain depth (with_sender l s)
  unfolding with_sender
  link-sender s sound first = record {
    peer = h.peer;
    terms = h.terms;
    sender = sound;
    oldest = first;
    receiver = h.receiver;
    no_untold = λ t. absurd (cc);
    no_message = λ t. absurd (cc);
    not_resuming = λ t. absurd (cc);
  }

  pub link-receiver : (r : Receiver) → IsSoundReceiver regions domain l.terms.mtu r → IsSoundLink regions domain depth (with_receiver l r)
  unfolding with_receiver
  link-receiver r sound = record {
    peer = h.peer;
    terms = h.terms;
    sender = h.sender;
    oldest = h.oldest;
    receiver = sound;
    no_untold = λ t. absurd (cc);
    no_message = λ t. absurd (cc);
    not_resuming = λ t. absurd (cc);
  }

  pub link-moving : (m : Moving) → IsSoundLink regions domain depth (with_moving l m)
  unfolding with_moving
  link-moving m = record {
    peer = h.peer;
    terms = h.terms;
    sender = h.sender;
    oldest = h.oldest;
    receiver = h.receiver;
    no_untold = λ t. absurd (cc);
    no_message = λ t. absurd (cc);
    not_resuming = λ t. absurd (cc);
  }
