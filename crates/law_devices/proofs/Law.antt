-- A sound device stays sound, event by event.
use Rattle.std.proofs.Common.{arith, ◌≡◌, ◌≢◌, ◌⊎◌, ◌≤◌, ◌<◌, ◌+◌, ◌-◌, ◌/◌, ℕ, zero, suc, List, [], ◌∷◌, ◌++◌, map, length, true, false, Bool, refl, sym, ap, ◌∙◌, inl, inr, subst}
use Rattle.std.specs.Prelude.{All, bytes_eq, Option, Some, None, if◌then◌else◌, nat_lt, nat_le, not, ◌==◌, ◌&&◌, ◌||◌, slice_get, replicate}
use Rattle.std.proofs.lemmas.Bool.Decides.{nat_tests}
use Rattle.std.proofs.lemmas.List.Elements.{All-append, All-cons, All-nil}
use Rattle.rdma_types.specs.declared.answers.Refusal.{Refusal}
use Rattle.rdma_types.specs.declared.answers.Refusal.TheVariants.{NoSuch}
use Rattle.rdma_types.specs.declared.names.Name.{Name}
use Rattle.rdma_types.specs.declared.names.ObjName.{ObjName}
use Rattle.rdma_types.specs.declared.requests.Address.{Address}
use Rattle.rdma_types.specs.declared.requests.Receive.{Receive}
use Rattle.rdma_types.specs.declared.requests.Request.{Request}
use Rattle.rdma_types.specs.declared.requests.Terms.{Terms}
use Rattle.rdma_types.specs.declared.requests.WcStatus.TheVariants as status
use Rattle.rdma_types.specs.declared.rights.Rights.{Rights}
use Rattle.rdma_types.specs.Causes.{Cause, cause, first_cause}
use Rattle.rdma_types.specs.Limits.{AreTerms, most_capacity, most_keys, most_numbers, most_region_bytes, number_limit}
use Rattle.rdma_types.specs.Lists.{has_name, has_word, named, some, store_named, without}
use Rattle.rdma_types.specs.Memory.{holds, is_granted, landing_right, local_key}
use Rattle.rdma_types.specs.Objects.{Region, no_region}
use Rattle.rdma_types.specs.Shapes.{IsLawfulShape}
use Rattle.rdma_types.specs.Spans.{span}
use Rattle.rdma_types.specs.Spelled.{is_name}
use Rattle.protocol.specs.declared.events.Event.{Event}
use Rattle.protocol.specs.declared.events.Event.TheVariants as event
use Rattle.protocol.specs.declared.images.ContextImage.{ContextImage}
use Rattle.protocol.specs.DeviceStep as step
use Rattle.protocol.specs.DeviceStep.{by_refusal, connects, counting_key, counting_qp, device_step, done_by, drops, expires, husked, keys_of, loads, makes_context, makes_domain, makes_end, makes_queue, makes_region, new_context, number_of, polls, posted_at, posts, posts_at, receives, releases, restored, restores, rnr_over, stops, stores, taken_bytes, transmits, with_context, with_domain, with_new_end, with_new_queue, with_new_region, without_region, word_of}
use Rattle.protocol.specs.EndWords.{completing, failed_receive, failed_request, is_in_error, linked, with_end, with_sender, with_unused}
use Rattle.protocol.specs.Events.{IsDepth, IsLawfulEvent}
use Rattle.protocol.specs.Images.{context_of}
use Rattle.protocol.specs.Lawful.{IsLawful}
use Rattle.protocol.specs.Memory.{stored, untold_of, with_region}
use Rattle.protocol.specs.Refusals.{causes_of, has_end, has_queue, has_region, is_full, is_init, is_past_limit, lacks, recv_causes, refusal_of, send_causes}
use Rattle.protocol.specs.Requester.{end_of_queue}
use Rattle.protocol.specs.State as state
use Rattle.protocol.specs.State.{Context, Device, End, Link, context_at, end_at}
use Rattle.law_devices.specs.Sound.{AreCounted, GivesNames, HasNoneInError, IsCounted, IsSoundContext, IsSoundDevice, IsSoundRegion}
use Rattle.law_devices.proofs.Arriving.{arriving}
use Rattle.law_devices.proofs.Ends.{Stays, all-counted, counted-more, device-with}
use Rattle.law_devices.proofs.Founds.{Live, Within, here-named, live, no-cause, not-false, within-context}
use Rattle.law_devices.proofs.Making.{domain-sound, end-made, end_of, new-sound, queue-sound}
use Rattle.law_devices.proofs.Posting as posting
use Rattle.law_devices.proofs.Ranging.{key-counted, region-dropped, region-made, zeros_of}
use Rattle.law_devices.proofs.Restoring.{restored-sound, restoring}
use Rattle.law_devices.proofs.Rooms.{IsHere}
use Rattle.law_devices.proofs.Stepping as stepping
use Rattle.law_devices.proofs.Tables.{All-store, All-without}

-- the device with a sound context, whose numbers and keys are counted
device-put : (d : Device) (c' : Context) → IsSoundDevice d → IsSoundContext c' → AreCounted d c' → IsSoundDevice (with_context d c')
unfolding with_context
device-put d c' s h counted = record {
  some_id = s.some_id;
  few_ids = s.few_ids;
  few_numbers = s.few_numbers;
  few_keys = s.few_keys;
  contexts = All-store IsSoundContext (λ x. x.name) c'.name c' d.contexts s.contexts h;
  counted = all-counted d (with_context d c') (store_named (λ x. x.name) c'.name c' d.contexts) refl (omega arith) (omega arith) (All-store (AreCounted d) (λ x. x.name) c'.name c' d.contexts s.counted counted);
}

counting-key : (d : Device) → IsSoundDevice d → d.key_count < most_keys → IsSoundDevice (counting_key d)
counting-key d s room = record { some_id = s.some_id; few_ids = s.few_ids; few_numbers = s.few_numbers; few_keys = omega (arith, room); contexts = s.contexts; counted = all-counted d (counting_key d) d.contexts refl (omega arith) (omega arith) s.counted }

counting-qp : (d : Device) → IsSoundDevice d → d.qp_count < most_numbers → IsSoundDevice (counting_qp d)
counting-qp d s room = record { some_id = s.some_id; few_ids = s.few_ids; few_numbers = omega (arith, room); few_keys = s.few_keys; contexts = s.contexts; counted = all-counted d (counting_qp d) d.contexts refl (omega arith) (omega arith) s.counted }

less_full : (a b : ℕ) → nat_le a b ≡ false → b < a
less_full a b h = grind (arith, nat_tests, h)

lacks-not : (there : Name → Bool) (o : Option Name) → lacks there o ≡ false → there (word_of o) ≡ true
lacks-not there None h = absurd (cc)
lacks-not there (Some n) h = not-false (there n) h

or_two : (a b : Bool) → (a || b) ≡ false → (a ≡ false) × (b ≡ false)
or_two true b h = absurd (cc)
or_two false true h = absurd (cc)
or_two false false h = (refl, refl)

-- a thing that is found by name stands somewhere
named-place : {A : Type 0} (name : A → List ℕ) (none : A) (n : List ℕ) (xs : List A) → has_name name n xs ≡ true → (i : ℕ) × (slice_get xs i ≡ Some (named name none n xs))
unfolding has_name named
named-place name none n [] h = absurd (cc)
named-place {A} name none n (x ∷ xs) h = by_test (bytes_eq (name x) n) h (named-place name none n xs)
  where
    by_test : (b : Bool) → (b || has_name name n xs) ≡ true → (has_name name n xs ≡ true → (i : ℕ) × (slice_get xs i ≡ Some (named name none n xs))) → (i : ℕ) × (slice_get (x ∷ xs) i ≡ Some (if b then x else named name none n xs))
    by_test true g later = (0, refl)
    by_test false g later = let more = later g in (suc more.0, more.1)

module _ (d : Device) (s : IsSoundDevice d) where
  -- ---- things are made

  context-made : (n : Name) → is_name n ≡ true → IsSoundDevice (makes_context d n).device
  unfolding makes_context
  context-made n spelled = record {
    some_id = s.some_id;
    few_ids = s.few_ids;
    few_numbers = s.few_numbers;
    few_keys = s.few_keys;
    contexts = All-append IsSoundContext d.contexts (new_context n ∷ []) s.contexts (All-cons IsSoundContext (new_context n) [] (new-sound n spelled) (All-nil IsSoundContext));
    counted =
        all-counted d (record d { contexts = d.contexts ++ new_context n ∷ [] }) (d.contexts ++ new_context n ∷ []) refl (omega arith) (omega arith)
        (All-append (AreCounted d) d.contexts (new_context n ∷ []) s.counted (All-cons (AreCounted d) (new_context n) [] (record { ends = All-nil (λ (e : End). IsCounted d.id 65536 d.qp_count e.number); regions = All-nil (λ (r : Region). IsCounted d.id 8388608 d.key_count (r.keys.local / 2)) }) (All-nil (AreCounted d))));
  }

  domain-made : (o : ObjName) → is_name o.name ≡ true → first_cause (causes_of d (event.MakeDomain o)) ≡ None → IsSoundDevice (makes_domain d (context_at d o.context) o.name).device
  unfolding makes_domain with_domain
  domain-made o spelled h =
      let w = within-context d o.context _ _ _ refl h in
      let x = live d o.context s w.there in
      let a = no-cause _ _ w.none in
      let b = no-cause _ _ a.1 in
      device-put d (with_domain (context_at d o.context) o.name) s (domain-sound (context_at d o.context) o.name x.sound spelled a.0 b.0) (record { ends = x.counted.ends; regions = x.counted.regions })

  queue-made : (o : ObjName) (capacity : ℕ) → is_name o.name ≡ true → 1 ≤ capacity → capacity ≤ most_capacity → first_cause (causes_of d (event.MakeCq o capacity)) ≡ None → IsSoundDevice (makes_queue d (context_at d o.context) o.name capacity).device
  unfolding makes_queue with_new_queue
  queue-made o capacity spelled some few h =
      let w = within-context d o.context _ _ _ refl h in
      let x = live d o.context s w.there in
      let a = no-cause _ _ w.none in
      let b = no-cause _ _ a.1 in
      device-put d (with_new_queue (context_at d o.context) (record { name = o.name; capacity = capacity; entries = [] })) s (queue-sound (context_at d o.context) o.name capacity x.sound spelled some few a.0 b.0) (record { ends = x.counted.ends; regions = x.counted.regions })

  region-made-here : (o : ObjName) (domain : Option Name) (base length' : ℕ) (rights : Rights) → is_name o.name ≡ true → IsLawfulEvent (event.MakeRegion o domain base length' rights) → first_cause (causes_of d (event.MakeRegion o domain base length' rights)) ≡ None
      → IsSoundDevice (makes_region d (context_at d o.context) o.name domain base length' rights).device
  unfolding makes_region with_new_region
  region-made-here o domain base length' rights spelled law h =
      let w = within-context d o.context _ _ _ refl h in
      let x = live d o.context s w.there in
      let a = no-cause _ _ w.none in
      let b = no-cause _ _ a.1 in
      let t = no-cause _ _ b.1 in
      let full = or_two _ _ t.0 in
      let room = less_full most_keys d.key_count full.1 in
      device-put (counting_key d) (with_new_region (context_at d o.context) (zeros_of d o.name (word_of domain) base length' rights)) (counting-key d s room)
      (region-made d (context_at d o.context) o.name (word_of domain) base length' rights s x.sound x.counted spelled (lacks-not (λ n. has_word n (context_at d o.context).domains) domain a.0) b.0 full.0 full.1 law.0 law.1 law.2 law.3)
      (record {
        ends = x.counted.ends;
        regions = All-append (λ r. IsCounted d.id 8388608 (d.key_count + 1) (r.keys.local / 2)) (context_at d o.context).regions (zeros_of d o.name (word_of domain) base length' rights ∷ [])
            (counted-more d (counting_key d) (context_at d o.context) refl (omega arith) (omega arith) x.counted).regions
            (All-cons (λ r. IsCounted d.id 8388608 (d.key_count + 1) (r.keys.local / 2)) (zeros_of d o.name (word_of domain) base length' rights) [] (key-counted d o.name (word_of domain) base length' rights room) (All-nil (λ (r : Region). IsCounted d.id 8388608 (d.key_count + 1) (r.keys.local / 2))));
      })

  end-made-here : (o : ObjName) (domain send_cq recv_cq : Option Name) (send_depth recv_depth : ℕ) → is_name o.name ≡ true → IsDepth send_depth → IsDepth recv_depth → first_cause (causes_of d (event.MakeQp o domain send_cq recv_cq send_depth recv_depth)) ≡ None
      → IsSoundDevice (makes_end d (context_at d o.context) o.name domain send_cq recv_cq send_depth recv_depth).device
  unfolding makes_end with_new_end
  end-made-here o domain send_cq recv_cq send_depth recv_depth spelled sends receives h =
      let w = within-context d o.context _ _ _ refl h in
      let x = live d o.context s w.there in
      let a = no-cause _ _ w.none in
      let b = no-cause _ _ a.1 in
      let t = no-cause _ _ b.1 in
      let words = or_two _ _ a.0 in
      let queues = or_two _ _ words.1 in
      let full = or_two _ _ t.0 in
      let room = less_full most_numbers d.qp_count full.1 in
      device-put (counting_qp d) (with_new_end (context_at d o.context) (end_of o.name (number_of d) (word_of domain) (word_of send_cq) (word_of recv_cq) send_depth recv_depth)) (counting-qp d s room)
      (end-made d (context_at d o.context) o.name (word_of domain) (word_of send_cq) (word_of recv_cq) send_depth recv_depth s x.sound x.counted spelled
      (lacks-not (λ n. has_word n (context_at d o.context).domains) domain words.0) (lacks-not (has_queue (context_at d o.context)) send_cq queues.0) (lacks-not (has_queue (context_at d o.context)) recv_cq queues.1)
      b.0 full.0 full.1 sends.0 sends.1 receives.0 receives.1)
      (record {
        ends = All-append (λ e. IsCounted d.id 65536 (d.qp_count + 1) e.number) (context_at d o.context).ends (end_of o.name (number_of d) (word_of domain) (word_of send_cq) (word_of recv_cq) send_depth recv_depth ∷ [])
            (counted-more d (counting_qp d) (context_at d o.context) refl (omega arith) (omega arith) x.counted).ends
            (All-cons (λ e. IsCounted d.id 65536 (d.qp_count + 1) e.number) (end_of o.name (number_of d) (word_of domain) (word_of send_cq) (word_of recv_cq) send_depth recv_depth) [] (number-counted room) (All-nil (λ (e : End). IsCounted d.id 65536 (d.qp_count + 1) e.number)));
        regions = x.counted.regions;
      })
    where
      number-counted : d.qp_count < most_numbers → IsCounted d.id 65536 (d.qp_count + 1) (number_of d)
      number-counted room = λ is. omega (arith, room)

  -- ---- memory

  drop-good : (o : ObjName) → first_cause (causes_of d (event.DropRegion o)) ≡ None → IsSoundDevice (drops d (context_at d o.context) o.name).device
  unfolding drops
  drop-good o h =
      let w = within-context d o.context _ _ _ refl h in
      let x = live d o.context s w.there in
      let a = no-cause _ _ w.none in
      let b = no-cause _ _ a.1 in
      device-put d (without_region (context_at d o.context) o.name) s (region-dropped (context_at d o.context) o.name x.sound b.0)
      (record { ends = x.counted.ends; regions = All-without (λ r. IsCounted d.id 8388608 d.key_count (r.keys.local / 2)) (λ r. r.name) o.name (context_at d o.context).regions x.counted.regions })

  held : (r : Region) (at' count : ℕ) → holds r at' count ≡ true → (at' - r.base) + count ≤ r.length
  unfolding holds
  held r at' count h = both (nat_le r.base at') (nat_le (at' + count) (r.base + r.length)) refl refl h
    where
      both : (a b : Bool) → nat_le r.base at' ≡ a → nat_le (at' + count) (r.base + r.length) ≡ b → (a && b) ≡ true → (at' - r.base) + count ≤ r.length
      both true true p q g = let low : r.base ≤ at' = grind (arith, nat_tests, p) in let high : at' + count ≤ r.base + r.length = grind (arith, nat_tests, q) in omega (arith, low, high)
      both true false p q g = absurd (cc)
      both false b p q g = absurd (cc)

  store-good : (o : ObjName) (at' : ℕ) (bytes : List ℕ) → first_cause (causes_of d (event.Store o at' bytes)) ≡ None → IsSoundDevice (stores d (context_at d o.context) (state.region_at (context_at d o.context) o.name) at' bytes).device
  unfolding stores
  store-good o at' bytes h =
      let w = within-context d o.context _ _ _ refl h in
      let x = live d o.context s w.there in
      let a = no-cause _ _ w.none in
      let b = no-cause _ _ a.1 in
      let place = named-place (λ (z : Region). z.name) no_region o.name (context_at d o.context).regions (not-false (has_region (context_at d o.context) o.name) a.0) in
      device-with d (context_at d o.context) _ s x.counted
      (posting.bytes-stay (context_at d o.context) _ x.sound
      (posting.bytes-stored (context_at d o.context) place.0 (state.region_at (context_at d o.context) o.name) (at' - (state.region_at (context_at d o.context) o.name).base) bytes x.sound place.1 (held (state.region_at (context_at d o.context) o.name) at' (length bytes) (not-false (holds (state.region_at (context_at d o.context) o.name) at' (length bytes)) b.0))))

  -- ---- posting and polling

  poll-good : (o : ObjName) (most : ℕ) → first_cause (causes_of d (event.Poll o most)) ≡ None → IsSoundDevice (polls d (context_at d o.context) (state.queue_at (context_at d o.context) o.name) most).device
  unfolding polls
  poll-good o most h =
      let w = within-context d o.context _ _ _ refl h in
      let x = live d o.context s w.there in
      let a = no-cause _ _ w.none in
      device-with d (context_at d o.context) _ s x.counted (posting.polled (context_at d o.context) o.name most x.sound (not-false (has_queue (context_at d o.context) o.name) a.0))

  -- an end of a live context
  record AtEnd (c : Context) (n : Name) : Type 0 where
    sound : IsSoundContext c
    counted : AreCounted d c
    here : IsHere c (end_at c n)

  receive-good : (c : Context) (n : Name) (r : Receive) → AtEnd c n → first_cause (recv_causes c (end_at c n) r) ≡ None → IsSoundDevice (receives d c (end_at c n) r).device
  unfolding receives
  receive-good c n r x h =
      let a = no-cause _ _ h in
      let b = no-cause _ _ a.1 in
      let t = no-cause _ _ b.1 in
      let q = no-cause _ _ t.1 in
      device-with d c _ s x.counted
      (by_error (end_at c n).link (is_in_error (end_at c n).link) refl refl
      (posting.flushed-receive c (end_at c n) x.sound x.here r q.0)
      (λ none. posting.received-stays c (end_at c n) x.sound x.here r (posting.receive-sound c (end_at c n) x.sound x.here r a.0 (not-false _ b.0)) (less_full (end_at c n).recv_depth (length (end_at c n).unused) t.0) none q.0))
    where
      alive : (o : Option Link) → is_in_error o ≡ false → HasNoneInError o ((end_at c n).unused ++ r ∷ [])
      alive None g = tt
      alive (Some l) g = λ k. absurd (cc (g, k))

      by_error : (o : Option Link) (b : Bool) → (end_at c n).link ≡ o → is_in_error (end_at c n).link ≡ b → Stays c (completing c (end_at c n).recv_cq (failed_receive (end_at c n).number status.Flush r ∷ []))
          → (HasNoneInError (end_at c n).link ((end_at c n).unused ++ r ∷ []) → Stays c (with_end c (with_unused (end_at c n) ((end_at c n).unused ++ r ∷ []))))
          → Stays c (if b then completing c (end_at c n).recv_cq (failed_receive (end_at c n).number status.Flush r ∷ []) else with_end c (with_unused (end_at c n) ((end_at c n).unused ++ r ∷ [])))
      by_error o true is t flushed more = flushed
      by_error o false is t flushed more = more (alive (end_at c n).link t)

  send-good : (c : Context) (n : Name) (r : Request) → AtEnd c n → IsLawfulShape r.shape → first_cause (send_causes d c (end_at c n) r) ≡ None → IsSoundDevice (posts d c (end_at c n) r).device
  unfolding posts posted_at
  send-good c n r x shape h =
      let a = no-cause _ _ h in
      let b = no-cause _ _ a.1 in
      let t = no-cause _ _ b.1 in
      let k = no-cause _ _ t.1 in
      let q = no-cause _ _ k.1 in
      let f = no-cause _ _ q.1 in
      by_link (end_at c n).link refl a.0 q.0
      (λ l is. posting.flushed-request c (end_at c n) x.sound x.here (record { request = r; payload = taken_bytes c r }) f.0)
      (λ l is alive limit room. posting.posted-stays c (end_at c n) x.sound x.here l is (record { request = r; payload = taken_bytes c r }) alive (posting.request-sound c (end_at c n) x.sound x.here r shape t.0 (not-false _ k.0)) limit room f.0)
    where
      limited : (l : Link) → (not l.ended && nat_le number_limit (end_of_queue l.terms l.sender + span r.shape l.terms.mtu)) ≡ false → l.ended ≡ false → end_of_queue l.terms l.sender + span r.shape l.terms.mtu < number_limit
      limited l g alive = less_full number_limit (end_of_queue l.terms l.sender + span r.shape l.terms.mtu) (ap (λ b. not b && nat_le number_limit (end_of_queue l.terms l.sender + span r.shape l.terms.mtu)) (sym alive) ∙ g)

      by_ended : (l : Link) (b : Bool) → l.ended ≡ b → Stays c (completing c (end_at c n).send_cq (failed_request (end_at c n).number status.Flush (record { request = r; payload = taken_bytes c r }) ∷ []))
          → (l.ended ≡ false → Stays c (linked c (end_at c n) (with_sender l (step.posting l.sender (record { request = r; payload = taken_bytes c r })))))
          → Stays c (if b then completing c (end_at c n).send_cq (failed_request (end_at c n).number status.Flush (record { request = r; payload = taken_bytes c r }) ∷ []) else linked c (end_at c n) (with_sender l (step.posting l.sender (record { request = r; payload = taken_bytes c r }))))
      by_ended l true t flushed more = flushed
      by_ended l false t flushed more = more t

      by_link : (o : Option Link) → (end_at c n).link ≡ o → is_past_limit (end_at c n).link r ≡ false → nat_le (end_at c n).send_depth (length (untold_of (end_at c n).link)) ≡ false
          → ((l : Link) → (end_at c n).link ≡ Some l → Stays c (completing c (end_at c n).send_cq (failed_request (end_at c n).number status.Flush (record { request = r; payload = taken_bytes c r }) ∷ [])))
          → ((l : Link) → (end_at c n).link ≡ Some l → l.ended ≡ false → end_of_queue l.terms l.sender + span r.shape l.terms.mtu < number_limit → length l.sender.untold < (end_at c n).send_depth → Stays c (linked c (end_at c n) (with_sender l (step.posting l.sender (record { request = r; payload = taken_bytes c r })))))
          → IsSoundDevice (posts_at d c (end_at c n) o r).device
      by_link None is past full flushed more = s
      by_link (Some l) is past full flushed more =
          device-with d c _ s x.counted
          (by_ended l l.ended refl (flushed l is)
          (λ alive. more l is alive (limited l (ap (λ o. is_past_limit o r) (sym is) ∙ past) alive) (less_full (end_at c n).send_depth (length l.sender.untold) (ap (λ o. nat_le (end_at c n).send_depth (length (untold_of o))) (sym is) ∙ full))))

  -- ---- moving

  stop-good : (c : Context) → IsSoundDevice (stops d c).device
  unfolding stops
  stop-good c = record {
    some_id = s.some_id;
    few_ids = s.few_ids;
    few_numbers = s.few_numbers;
    few_keys = s.few_keys;
    contexts = All-without IsSoundContext (λ x. x.name) c.name d.contexts s.contexts;
    counted = all-counted d (husked d c) (without (λ x. x.name) c.name d.contexts) refl (omega arith) (omega arith) (All-without (AreCounted d) (λ x. x.name) c.name d.contexts s.counted);
  }

  restore-good : (i : ContextImage) → IsLawful i → IsSoundDevice (restores d (context_of i)).device
  unfolding restores
  restore-good i law = restoring d (context_of i) s (restored-sound i law)

  release-good : (n : Name) → IsSoundDevice (releases d n).device
  unfolding releases
  release-good n = record { some_id = s.some_id; few_ids = s.few_ids; few_numbers = s.few_numbers; few_keys = s.few_keys; contexts = s.contexts; counted = all-counted d (releases d n).device d.contexts refl (omega arith) (omega arith) s.counted }

  -- ---- the table

  -- an end that is there, and the other causes
  record Ended (c : Context) (n : Name) (causes : List Cause) : Type 0 where
    at : AtEnd c n
    none : first_cause causes ≡ None

  ended : (o : ObjName) (causes : List Cause) → Within d o.context (cause NoSuch (not (has_end (context_at d o.context) o.name)) ∷ causes) → Ended (context_at d o.context) o.name causes
  ended o causes w =
      let x = live d o.context s w.there in
      let a = no-cause _ causes w.none in
      record { at = record { sound = x.sound; counted = x.counted; here = here-named (context_at d o.context) o.name (not-false (has_end (context_at d o.context) o.name) a.0) }; none = a.1 }

  init-link : (o : Option Link) → not (is_init o) ≡ false → o ≡ None
  init-link None h = refl
  init-link (Some l) h = absurd (cc)

  done-sound : (e : Event) → IsLawfulEvent e → GivesNames e → first_cause (causes_of d e) ≡ None → IsSoundDevice (done_by d e).device
  unfolding loads
  done-sound (event.MakeContext name) law spelled h = context-made name spelled
  done-sound (event.MakeDomain o) law spelled h = domain-made o spelled h
  done-sound (event.MakeRegion o domain base length' rights) law spelled h = region-made-here o domain base length' rights spelled law h
  done-sound (event.MakeCq o capacity) law spelled h = queue-made o capacity spelled law.0 law.1 h
  done-sound (event.MakeQp o domain send_cq recv_cq send_depth recv_depth) law spelled h = end-made-here o domain send_cq recv_cq send_depth recv_depth spelled law.0 law.1 h
  done-sound (event.Connect o peer partner terms) law spelled h =
      let x = ended o _ (within-context d o.context _ _ _ refl h) in
      let a = no-cause _ _ x.none in
      stepping.connect-good d (context_at d o.context) (end_at (context_at d o.context) o.name) s x.at.sound x.at.counted x.at.here peer partner terms (init-link (end_at (context_at d o.context) o.name).link a.0) law.0 law.1
  done-sound (event.DropRegion o) law spelled h = drop-good o h
  done-sound (event.Store o at' bytes) law spelled h = store-good o at' bytes h
  done-sound (event.Load o at' length') law spelled h = s
  done-sound (event.PostSend o r) law spelled h = let x = ended o _ (within-context d o.context _ _ _ refl h) in send-good (context_at d o.context) o.name r x.at law x.none
  done-sound (event.PostRecv o r) law spelled h = let x = ended o _ (within-context d o.context _ _ _ refl h) in receive-good (context_at d o.context) o.name r x.at x.none
  done-sound (event.Poll o most) law spelled h = poll-good o most h
  done-sound (event.Transmit o) law spelled h = let x = ended o _ (within-context d o.context _ _ _ refl h) in stepping.transmit-good d (context_at d o.context) (end_at (context_at d o.context) o.name) s x.at.sound x.at.counted x.at.here
  done-sound (event.Arrive from bytes) law spelled h = arriving d from bytes s
  done-sound (event.Expire o) law spelled h = let x = ended o _ (within-context d o.context _ _ _ refl h) in stepping.expire-good d (context_at d o.context) (end_at (context_at d o.context) o.name) s x.at.sound x.at.counted x.at.here
  done-sound (event.RnrOver o) law spelled h = let x = ended o _ (within-context d o.context _ _ _ refl h) in stepping.over-timer-good d (context_at d o.context) (end_at (context_at d o.context) o.name) s x.at.sound x.at.counted x.at.here
  done-sound (event.Stop name alone) law spelled h = stop-good (context_at d name)
  done-sound (event.Restore image) law spelled h = restore-good image law
  done-sound (event.Release name) law spelled h = release-good name

pub stays-sound : (d : Device) (e : Event) → IsSoundDevice d → IsLawfulEvent e → GivesNames e → IsSoundDevice (device_step d e).device
unfolding device_step refusal_of
stays-sound d e s law spelled = by_cause (first_cause (causes_of d e)) refl
  where
    by_cause : (o : Option Refusal) → first_cause (causes_of d e) ≡ o → IsSoundDevice (by_refusal d e o).device
    by_cause None h = done-sound d s e law spelled h
    by_cause (Some r) h = s

-- a device with no contexts
pub new-device : (d : Device) → 1 ≤ d.id → d.id ≤ 255 → d.qp_count ≤ most_numbers → d.key_count ≤ most_keys → d.contexts ≡ [] → IsSoundDevice d
new-device d some few numbers keys none = record {
  some_id = some;
  few_ids = few;
  few_numbers = numbers;
  few_keys = keys;
  contexts = subst (All IsSoundContext) (sym none) (All-nil IsSoundContext);
  counted = subst (All (AreCounted d)) (sym none) (All-nil (AreCounted d));
}
