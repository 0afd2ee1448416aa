-- Posting, polling and storing keep a device sound.
use Rattle.std.proofs.Common.{arith, ◌≡◌, ◌≢◌, ◌⊎◌, ◌≤◌, ◌<◌, ◌+◌, ◌-◌, ℕ, zero, suc, List, [], ◌∷◌, ◌++◌, map, length, take, drop, true, false, Bool, refl, sym, ap, ◌∙◌, inl, inr, subst, length-append}
use Rattle.std.specs.Prelude.{All, AllPairs, bytes_eq, Option, Some, None, if◌then◌else◌, nat_lt, nat_le, not, ◌==◌, ◌&&◌, ◌||◌, slice_get}
use Rattle.std.proofs.lemmas.Bool.{cases_lt}
use Rattle.std.proofs.lemmas.Bool.Decides.{nat_tests}
use Rattle.std.proofs.lemmas.List.{length-drop}
use Rattle.std.proofs.lemmas.List.Elements.{All-append, All-cons, All-drop, All-nil}
use Rattle.rdma_types.specs.declared.answers.Answer.TheVariants as answer
use Rattle.rdma_types.specs.declared.names.Name.{Name}
use Rattle.rdma_types.specs.declared.requests.Completion.{Completion}
use Rattle.rdma_types.specs.declared.requests.Receive.{Receive}
use Rattle.rdma_types.specs.declared.requests.Request.{Request}
use Rattle.rdma_types.specs.declared.requests.WcKind.TheVariants as wc
use Rattle.rdma_types.specs.declared.requests.WcStatus.TheVariants as status
use Rattle.rdma_types.specs.Kinds.{takes_bytes}
use Rattle.rdma_types.specs.Limits.{most_bytes, number_limit}
use Rattle.rdma_types.specs.Lists.{at, has_name, named, store_named}
use Rattle.rdma_types.specs.Memory.{LocalWrite, Right, holds, is_granted, landing_right, local_key}
use Rattle.rdma_types.specs.Objects.{CompletionQueue, Posted, Region, no_queue, no_region}
use Rattle.rdma_types.proofs.Tables.{named-store_same, named-store_other}
use Rattle.rdma_types.specs.Shapes.{IsLawfulShape}
use Rattle.rdma_types.specs.Spans.{span}
use Rattle.protocol.specs.DeviceStep.{answers, polls, posted_at, posting, posts, posts_at, receives, stores, taken_bytes, with_context}
use Rattle.protocol.specs.EndWords.{completing, failed_receive, failed_request, is_in_error, linked, with_end, with_entries, with_link, with_queue, with_sender, with_unused}
use Rattle.protocol.specs.Lawful.{IsLawfulEntry}
use Rattle.protocol.specs.Memory.{loaded, region_of_key, stored, with_region, untold_of}
use Rattle.protocol.specs.Refusals.{count_if, has_queue, is_full, is_past_limit, reserved, reserved_by}
use Rattle.protocol.specs.Requester.{end_of_queue}
use Rattle.protocol.specs.State.{Context, Device, End, Link, queue_at}
use Rattle.law_devices.specs.Sound.{AreCounted, HasNoneInError, IsGrantedTo, IsSoundContext, IsSoundDevice, IsSoundEnd, IsSoundLink, IsSoundQueue, IsSoundReceive, IsSoundRegion, IsSoundRequest, load_of, names_of_queues, plan_of, plans}
use Rattle.law_devices.proofs.Ends.{Bytes, Stays, counted-same, device-with, link-sender}
use Rattle.law_devices.proofs.Entries.{entry-receive, entry-request}
use Rattle.law_devices.proofs.Landing.{granted-place}
use Rattle.law_devices.proofs.Regions.{All-at, All-store_key, IsPlace, at_key, granted-plans, length-cut, length-put, plans-store}
use Rattle.law_devices.proofs.Rooms.{Gains, IsHere, Keeps, Steps, end-sound, ends-numbered, gains-completing, gains-nothing, has-same, parts-kept, same_region_keys, stepped-sound}
use Rattle.law_devices.proofs.Senders as senders
use Rattle.law_devices.proofs.Tables.{All-named, All-store, map-store, name-named_there, name_tells, word-there}
use Rattle.law_devices.proofs.Working.{linked-sound}

-- ---- queues alone

-- other entries in its queues, no more than there were and are reserved
pub queued-sound : (c : Context) (qs : List CompletionQueue) (more : Name → ℕ) → IsSoundContext c → Gains c.queues qs more → ((n : Name) → has_queue c n ≡ true → load_of c n + more n ≤ (queue_at c n).capacity) → Stays c (record c { queues = qs })
unfolding reserved
queued-sound c qs more s g room = record {
  sound = record {
    parts = parts-kept c (record c { queues = qs }) s.parts (record { name = refl; domains = refl; same_plans = refl; regions = s.parts.regions; queue_names = g.names; queues = g.queues; end_names = refl; numbers = refl; ends = s.parts.ends });
    room = λ n has. let there = sym (has-same c.queues qs n g.names) ∙ has in omega (arith, room n there, g.entries n there, g.capacity n there);
  };
  counted = λ d. counted-same d c (record c { queues = qs }) refl refl;
}

less_full : (a b : ℕ) → nat_le a b ≡ false → b < a
less_full a b h = grind (arith, nat_tests, h)

room-for-one : (c : Context) (q : Name) → IsSoundContext c → is_full c q ≡ false → (n : Name) → has_queue c n ≡ true → load_of c n + count_if (bytes_eq q n) 1 ≤ (queue_at c n).capacity
room-for-one c q s free n has = by_name (name_tells q n)
  where
    by_name : ((bytes_eq q n ≡ true) × (q ≡ n)) ⊎ ((bytes_eq q n ≡ false) × (q ≢ n)) → load_of c n + count_if (bytes_eq q n) 1 ≤ (queue_at c n).capacity
    by_name (inl t) =
        let k : count_if (bytes_eq q n) 1 ≡ 1 = ap (λ b. count_if b 1) t.0 in
        let some : load_of c n < (queue_at c n).capacity = subst (λ m. load_of c m < (queue_at c m).capacity) t.1 (less_full (queue_at c q).capacity (load_of c q) free) in
        omega (arith, k, some)
    by_name (inr t) =
        let k : count_if (bytes_eq q n) 1 ≡ 0 = ap (λ b. count_if b 1) t.0 in
        omega (arith, k, s.room n has)

-- one more completion, where its queue is not full
pub completing-one : (c : Context) (q : Name) (w : Completion) → IsSoundContext c → has_queue c q ≡ true → is_full c q ≡ false → IsLawfulEntry w → Stays c (completing c q (w ∷ []))
unfolding completing with_queue
completing-one c q w s there free lawful =
    queued-sound c (completing c q (w ∷ [])).queues (λ n. 0 + count_if (bytes_eq q n) 1) s
    (gains-completing c.queues c (λ n. 0) q (w ∷ []) (gains-nothing c.queues (λ n. 0) s.parts.queues) there (All-cons IsLawfulEntry w [] lawful (All-nil IsLawfulEntry)))
    (λ n has. let r = room-for-one c q s free n has in omega (arith, r))

-- the oldest entries leave
pub polled : (c : Context) (n : Name) (most : ℕ) → IsSoundContext c → has_queue c n ≡ true → Stays c (with_queue c (with_entries (queue_at c n) (drop most (queue_at c n).entries)))
unfolding with_queue with_entries
polled c n most s there =
    let q = queue_at c n in
    let name : (queue_at c n).name ≡ n = name-named_there (λ (x : CompletionQueue). x.name) no_queue n c.queues there in
    let old : IsSoundQueue (queue_at c n) = All-named IsSoundQueue (λ x. x.name) no_queue n c.queues s.parts.queues there in
    subst (λ k. Stays c (record c { queues = store_named (λ x. x.name) k (fewer (queue_at c n)) c.queues })) (sym name)
    (queued-sound c (store_named (λ x. x.name) n (fewer (queue_at c n)) c.queues) (λ m. 0) s (record {
      names = map-store (λ (x : CompletionQueue). x.name) (λ x. x.name) no_queue n (fewer (queue_at c n)) c.queues there refl;
      queues = All-store IsSoundQueue (λ x. x.name) n (fewer (queue_at c n)) c.queues s.parts.queues (record { some_room = old.some_room; little_room = old.little_room; entries = All-drop IsLawfulEntry most (queue_at c n).entries old.entries });
      capacity = λ m has. (by_name m name (name_tells n m)).0;
      entries = λ m has. (by_name m name (name_tells n m)).1;
    }) (λ m has. let r = s.room m has in omega (arith, r)))
  where
    fewer : CompletionQueue → CompletionQueue
    fewer q = record q { entries = drop most q.entries }

    by_name : (m : Name) → (queue_at c n).name ≡ n → ((bytes_eq n m ≡ true) × (n ≡ m)) ⊎ ((bytes_eq n m ≡ false) × (n ≢ m))
        → ((named (λ x. x.name) no_queue m (store_named (λ x. x.name) n (fewer (queue_at c n)) c.queues)).capacity ≡ (queue_at c m).capacity) × (length (named (λ x. x.name) no_queue m (store_named (λ x. x.name) n (fewer (queue_at c n)) c.queues)).entries ≤ length (queue_at c m).entries + 0)
    by_name m name (inl t) =
        let e : named (λ x. x.name) no_queue m (store_named (λ x. x.name) n (fewer (queue_at c n)) c.queues) ≡ fewer (queue_at c n) = ap (λ k. named (λ (x : CompletionQueue). x.name) no_queue k (store_named (λ x. x.name) n (fewer (queue_at c n)) c.queues)) (sym t.1) ∙ named-store_same (λ x. x.name) no_queue n (fewer (queue_at c n)) c.queues name in
        let same : queue_at c n ≡ queue_at c m = ap (queue_at c) t.1 in
        (ap (λ (z : CompletionQueue). z.capacity) e ∙ ap (λ (z : CompletionQueue). z.capacity) same, omega (arith, ap (λ (z : CompletionQueue). length z.entries) e, length-drop most (queue_at c n).entries, ap (λ (z : CompletionQueue). length z.entries) same))
    by_name m name (inr t) =
        let e : named (λ x. x.name) no_queue m (store_named (λ x. x.name) n (fewer (queue_at c n)) c.queues) ≡ queue_at c m = named-store_other (λ x. x.name) no_queue n m (fewer (queue_at c n)) c.queues name t.0 in
        (ap (λ (z : CompletionQueue). z.capacity) e, omega (arith, ap (λ (z : CompletionQueue). length z.entries) e))

-- ---- bytes alone

pub bytes-stay : (c c1 : Context) → IsSoundContext c → Bytes c c1 → Stays c c1
unfolding reserved
bytes-stay c c1 s b = record {
  sound = record {
    parts = parts-kept c c1 s.parts (record { name = b.name; domains = b.domains; same_plans = b.same_plans; regions = b.regions; queue_names = ap names_of_queues b.queues; queues = subst (All IsSoundQueue) (sym b.queues) s.parts.queues; end_names = ap (map (λ (x : End). x.name)) b.ends; numbers = ap (map (λ (x : End). x.number)) b.ends; ends = subst (All (IsSoundEnd c.domains (names_of_queues c.queues) (plans c.regions))) (sym b.ends) s.parts.ends });
    room =
        subst (λ es. (n : Name) → has_queue (record c { queues = c1.queues; ends = es }) n ≡ true → load_of (record c { queues = c1.queues; ends = es }) n ≤ (queue_at (record c { queues = c1.queues; ends = es }) n).capacity) (sym b.ends)
        (subst (λ qs. (n : Name) → has_queue (record c { queues = qs }) n ≡ true → load_of (record c { queues = qs }) n ≤ (queue_at (record c { queues = qs }) n).capacity) (sym b.queues) s.room);
  };
  counted = λ d. counted-same d c c1 (ap (map (λ (x : End). x.number)) b.ends) (same_region_keys c.regions c1.regions b.same_plans);
}

-- bytes into a region
pub bytes-stored : (c : Context) (i : ℕ) (r : Region) (off : ℕ) (bytes : List ℕ) → IsSoundContext c → slice_get c.regions i ≡ Some r → off + length bytes ≤ r.length → Bytes c (with_region c (stored r off bytes))
unfolding with_region stored
bytes-stored c i r off bytes s there fits =
    let old = All-at (IsSoundRegion c.domains) c.regions i r s.parts.regions there in
    let same = at_key c.regions i r s.parts.keys there in
    record {
      name = refl;
      domains = refl;
      same_plans = plans-store c.regions r.keys.local _ i r there refl (ap plan_of (sym same));
      regions = All-store_key (IsSoundRegion c.domains) r.keys.local _ c.regions s.parts.regions (record { domain = old.domain; base = old.base; some_bytes = old.some_bytes; few_bytes = old.few_bytes; rights = old.rights; local = old.local; remote = old.remote; whole = length-put r.bytes bytes off (omega (arith, fits, old.whole)) ∙ old.whole });
      queues = refl;
      ends = refl;
    }

-- ---- requests and receives

module _ (c : Context) (e : End) (s : IsSoundContext c) (here : IsHere c e) where
  send_queue : has_queue c e.send_cq ≡ true
  send_queue = sym (word-there (λ (q : CompletionQueue). q.name) e.send_cq c.queues) ∙ (end-sound c e s.parts here).send_cq

  recv_queue : has_queue c e.recv_cq ≡ true
  recv_queue = sym (word-there (λ (q : CompletionQueue). q.name) e.recv_cq c.queues) ∙ (end-sound c e s.parts here).recv_cq

  count_posted : (a b : Bool) (n m x : ℕ) → m ≡ n + 1 → count_if a m + count_if b x ≤ (count_if a n + count_if b x) + count_if a 1
  count_posted true true n m x h = omega (arith, h)
  count_posted true false n m x h = omega (arith, h)
  count_posted false true n m x h = omega (arith, h)
  count_posted false false n m x h = omega (arith, h)

  count_received : (a b : Bool) (n m x y : ℕ) → m ≡ n + 1 → count_if a x + count_if b (m + y) ≤ (count_if a x + count_if b (n + y)) + count_if b 1
  count_received true true n m x y h = omega (arith, h)
  count_received true false n m x y h = omega (arith, h)
  count_received false true n m x y h = omega (arith, h)
  count_received false false n m x y h = omega (arith, h)

  module _ (l : Link) (there : e.link ≡ Some l) where
    posted-more : (p : Posted) (n : Name) → reserved_by n (with_link e (with_sender l (posting l.sender p))) ≤ reserved_by n e + count_if (bytes_eq e.send_cq n) 1
    unfolding reserved_by with_link with_sender
    posted-more p n =
        subst (λ o. reserved_by n (with_link e (with_sender l (posting l.sender p))) ≤ reserved_by n (record e { link = o }) + count_if (bytes_eq e.send_cq n) 1) (sym there)
        (count_posted (bytes_eq e.send_cq n) (bytes_eq e.recv_cq n) (length l.sender.untold) (length (l.sender.untold ++ p ∷ [])) _ (length-append l.sender.untold (p ∷ [])))

    posted-steps : (p : Posted) → l.ended ≡ false → IsSoundRequest (plans c.regions) e.domain p → end_of_queue l.terms l.sender + span p.request.shape l.terms.mtu < number_limit → length l.sender.untold < e.send_depth
        → Steps c e (with_link e (with_sender l (posting l.sender p))) (linked c e (with_sender l (posting l.sender p)))
    unfolding with_end with_link with_sender end_of_queue
    posted-steps p alive fine limit room =
        let old = end-sound c e s.parts here in
        let own = linked-sound c e l s here there in
        record {
          name = refl;
          domains = refl;
          same_plans = refl;
          regions = s.parts.regions;
          queue_names = refl;
          queues = s.parts.queues;
          ends = refl;
          end_name = refl;
          number = refl;
          sound = record {
            number = old.number;
            domain = old.domain;
            send_cq = old.send_cq;
            recv_cq = old.recv_cq;
            some_sends = old.some_sends;
            few_sends = old.few_sends;
            some_receives = old.some_receives;
            few_receives = old.few_receives;
            unused_fit = old.unused_fit;
            receives = old.receives;
            state = link-sender (plans c.regions) e.domain e.send_depth l own alive (posting l.sender p)
                (record {
                  fits = omega (arith, length-append l.sender.untold (p ∷ []), room);
                  requests = All-append (IsSoundRequest (plans c.regions) e.domain) l.sender.untold (p ∷ []) own.sender.requests (All-cons (IsSoundRequest (plans c.regions) e.domain) p [] fine (All-nil (IsSoundRequest (plans c.regions) e.domain)));
                  numbers = senders.posts l.terms.mtu l.sender.untold l.sender.first l.sender.una l.sender.next l.sender.top p own.sender.numbers limit;
                  spent = own.sender.spent;
                  waits = own.sender.waits;
                })
                (senders.posts_first l.terms.mtu l.sender.untold l.sender.first l.sender.una l.sender.next l.sender.top p own.sender.numbers own.oldest);
            no_unused = λ t. absurd (cc);
          };
        }

    pub posted-stays : (p : Posted) → l.ended ≡ false → IsSoundRequest (plans c.regions) e.domain p → end_of_queue l.terms l.sender + span p.request.shape l.terms.mtu < number_limit → length l.sender.untold < e.send_depth → is_full c e.send_cq ≡ false
        → Stays c (linked c e (with_sender l (posting l.sender p)))
    unfolding with_end
    posted-stays p alive fine limit room free =
        let steps = posted-steps p alive fine limit room in
        record {
          sound = stepped-sound c e (with_link e (with_sender l (posting l.sender p))) (linked c e (with_sender l (posting l.sender p))) (λ n. count_if (bytes_eq e.send_cq n) 1) s here steps (λ n has. refl) (λ n has. omega (arith, posted-more p n)) (room-for-one c e.send_cq s free);
          counted = λ dd. counted-same dd c (linked c e (with_sender l (posting l.sender p))) (ends-numbered c e (with_link e (with_sender l (posting l.sender p))) (linked c e (with_sender l (posting l.sender p))).ends here steps.ends steps.number) refl;
        }

  received-steps : (r : Receive) → IsSoundReceive (plans c.regions) e.domain r → length e.unused < e.recv_depth → HasNoneInError e.link (e.unused ++ r ∷ []) → Steps c e (with_unused e (e.unused ++ r ∷ [])) (with_end c (with_unused e (e.unused ++ r ∷ [])))
  unfolding with_end with_unused
  received-steps r fine room none =
      let old = end-sound c e s.parts here in
      record {
        name = refl;
        domains = refl;
        same_plans = refl;
        regions = s.parts.regions;
        queue_names = refl;
        queues = s.parts.queues;
        ends = refl;
        end_name = refl;
        number = refl;
        sound = record {
          number = old.number;
          domain = old.domain;
          send_cq = old.send_cq;
          recv_cq = old.recv_cq;
          some_sends = old.some_sends;
          few_sends = old.few_sends;
          some_receives = old.some_receives;
          few_receives = old.few_receives;
          unused_fit = omega (arith, length-append e.unused (r ∷ []), room);
          receives = All-append (IsSoundReceive (plans c.regions) e.domain) e.unused (r ∷ []) old.receives (All-cons (IsSoundReceive (plans c.regions) e.domain) r [] fine (All-nil (IsSoundReceive (plans c.regions) e.domain)));
          state = old.state;
          no_unused = none;
        };
      }

  received-more : (r : Receive) (n : Name) → reserved_by n (with_unused e (e.unused ++ r ∷ [])) ≤ reserved_by n e + count_if (bytes_eq e.recv_cq n) 1
  unfolding reserved_by with_unused
  received-more r n = count_received (bytes_eq e.send_cq n) (bytes_eq e.recv_cq n) (length e.unused) (length (e.unused ++ r ∷ [])) _ _ (length-append e.unused (r ∷ []))

  pub received-stays : (r : Receive) → IsSoundReceive (plans c.regions) e.domain r → length e.unused < e.recv_depth → HasNoneInError e.link (e.unused ++ r ∷ []) → is_full c e.recv_cq ≡ false → Stays c (with_end c (with_unused e (e.unused ++ r ∷ [])))
  unfolding with_end
  received-stays r fine room none free =
      let steps = received-steps r fine room none in
      record {
        sound = stepped-sound c e (with_unused e (e.unused ++ r ∷ [])) (with_end c (with_unused e (e.unused ++ r ∷ []))) (λ n. count_if (bytes_eq e.recv_cq n) 1) s here steps (λ n has. refl) (λ n has. omega (arith, received-more r n)) (room-for-one c e.recv_cq s free);
        counted = λ dd. counted-same dd c (with_end c (with_unused e (e.unused ++ r ∷ []))) (ends-numbered c e (with_unused e (e.unused ++ r ∷ [])) (with_end c (with_unused e (e.unused ++ r ∷ []))).ends here steps.ends steps.number) refl;
      }

  pub flushed-request : (p : Posted) → is_full c e.send_cq ≡ false → Stays c (completing c e.send_cq (failed_request e.number status.Flush p ∷ []))
  flushed-request p free = completing-one c e.send_cq (failed_request e.number status.Flush p) s send_queue free (entry-request e.number p status.Flush 0 (end-sound c e s.parts here).number (omega arith))

  pub flushed-receive : (r : Receive) → is_full c e.recv_cq ≡ false → Stays c (completing c e.recv_cq (failed_receive e.number status.Flush r ∷ []))
  flushed-receive r free = completing-one c e.recv_cq (failed_receive e.number status.Flush r) s recv_queue free (entry-receive e.number r wc.Recv status.Flush 0 None (end-sound c e s.parts here).number (omega arith))

  -- ---- what a request takes

  taken-length : (r : Request) → is_granted local_key c.regions e.domain r.lkey r.local r.shape.length (landing_right r.shape.kind) ≡ true → length (taken_bytes c r) ≡ (if takes_bytes r.shape.kind then r.shape.length else 0)
  unfolding taken_bytes region_of_key
  taken-length r granted = by_test (takes_bytes r.shape.kind) (r.shape.length == 0) refl
    where
      zero_is : (n : ℕ) → (n == 0) ≡ true → n ≡ 0
      zero_is n h = grind (arith, nat_tests, h)

      some_is : (n : ℕ) → (n == 0) ≡ false → 0 < n
      some_is n h = grind (arith, nat_tests, h)

      place : 0 < r.shape.length → IsPlace c.regions r.lkey (r.local - (at local_key no_region r.lkey c.regions).base) r.shape.length
      place some = granted-place c.regions e.domain r.lkey r.local r.shape.length (landing_right r.shape.kind) r.local r.shape.length s.parts.keys (granted-plans c.regions e.domain r.lkey r.local r.shape.length (landing_right r.shape.kind) ∙ granted) some (omega arith) (omega arith)

      whole : 0 < r.shape.length → (r.local - (at local_key no_region r.lkey c.regions).base) + r.shape.length ≤ length (at local_key no_region r.lkey c.regions).bytes
      whole some =
          let p = place some in
          let found : at local_key no_region r.lkey c.regions ≡ p.region = ap (λ k. at local_key no_region k c.regions) (sym p.key) ∙ at_key c.regions p.i p.region s.parts.keys p.there in
          let old = All-at (IsSoundRegion c.domains) c.regions p.i p.region s.parts.regions p.there in
          omega (arith, ap (λ (z : Region). length z.bytes) found, old.whole, p.inside)

      by_test : (t z : Bool) → (r.shape.length == 0) ≡ z → length (if t && not z then loaded (at local_key no_region r.lkey c.regions) r.local r.shape.length else []) ≡ (if t then r.shape.length else 0)
      by_test true true h = sym (zero_is r.shape.length h)
      by_test true false h = length-cut (at local_key no_region r.lkey c.regions).bytes (r.local - (at local_key no_region r.lkey c.regions).base) r.shape.length (whole (some_is r.shape.length h))
      by_test false z h = refl

  pub request-sound : (r : Request) → IsLawfulShape r.shape → nat_lt most_bytes r.shape.length ≡ false → is_granted local_key c.regions e.domain r.lkey r.local r.shape.length (landing_right r.shape.kind) ≡ true → IsSoundRequest (plans c.regions) e.domain (record { request = r; payload = taken_bytes c r })
  request-sound r shape few granted = record {
    length' = grind (arith, nat_tests, few);
    shape = shape;
    granted = granted-plans c.regions e.domain r.lkey r.local r.shape.length (landing_right r.shape.kind) ∙ granted;
    payload = taken-length r granted;
  }

  pub receive-sound : (r : Receive) → nat_lt most_bytes r.length ≡ false → is_granted local_key c.regions e.domain r.lkey r.local r.length LocalWrite ≡ true → IsSoundReceive (plans c.regions) e.domain r
  receive-sound r few granted = record { length' = grind (arith, nat_tests, few); granted = granted-plans c.regions e.domain r.lkey r.local r.length LocalWrite ∙ granted }
