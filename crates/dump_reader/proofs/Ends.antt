-- What is read of a queue pair, group by group.
use Rattle.std.proofs.Common.{◌≡◌, ℕ, zero, suc, ◌+◌, ◌-◌, not, Bool, true, false, List, [], ◌∷◌, ◌++◌, length, map, refl, ap, sym, ◌∙◌, arith, length-append, add_assoc, add-zero, zero-add}
use Rattle.std.specs.Prelude.{Option, Some, None, ◌||◌, ◌==◌, if◌then◌else◌}
use Rattle.rdma_types.specs.declared.names.Name.{Name}
use Rattle.rdma_types.specs.Kinds.{lands}
use Rattle.rdma_types.specs.Lists.{some}
use Rattle.rdma_types.specs.Objects.{Region}
use Rattle.rdma_types.specs.Spans.{end_number, span, span_of}
use Rattle.protocol.specs.declared.images.EndImage.{EndImage}
use Rattle.protocol.specs.declared.images.KeptReply.{KeptReply}
use Rattle.protocol.specs.declared.images.LinkImage.{LinkImage}
use Rattle.protocol.specs.declared.images.PostedImage.{PostedImage}
use Rattle.protocol.specs.declared.images.RegionImage.{RegionImage}
use Rattle.protocol.specs.Images.{posted_of_image, name_at}
use Rattle.protocol.specs.Dumps.{Reading, Reader, ReadQueue, after, then_read, gives, raw, items, link_field, request_field, end_so_far, shape_of_length, untold_items, count_by, is_untold_count, is_ended, receive_field}
use Rattle.dump_reader.specs.declared.heads.EarlierRequests.{EarlierRequests}
use Rattle.dump_reader.specs.declared.heads.EndImageHead.{EndImageHead}
use Rattle.dump_reader.specs.declared.heads.LinkImageHead.{LinkImageHead}
use Rattle.dump_reader.specs.declared.heads.DumpHead.{DumpHead}
use Rattle.std.proofs.lemmas.List.{length-map}
use Rattle.dump_reader.specs.declared.heads.PlacedQueue.{PlacedQueue}
use Rattle.dump_reader.specs.Groups.{placed, regions_of, end_head_field, link_head_field, link_of_head, end_of_head, request_head_field, request_places_field, payload_length}
use Rattle.dump_reader.specs.declared.heads.RequestHead.{RequestHead}
use Rattle.dump_reader.specs.Ahead.{end_rest, more_ends, more_kept, more_untold, more_requests, more_receives, untold_list, unused_list, linked_list, passed, first_of, after_head, after_count, linked_of, may_be_untold, may_be_unused}
use Rattle.dump_reader.proofs.Split.{after_after, after_good, after_same, after_then, good_in, end_split, link_split, request_split_at}

-- the number past one more request
end_more : (ps : List PostedImage) (x : PostedImage) (mtu : ℕ) → end_number (map posted_of_image (ps ++ x ∷ [])) mtu ≡ end_number (map posted_of_image ps) mtu + shape_of_length x.request.shape.kind x.request.shape.length mtu
unfolding end_number span
end_more [] x mtu = add-zero (span x.request.shape mtu) ∙ sym (zero-add (span x.request.shape mtu))
end_more (p ∷ ps) x mtu = ap (λ (n : ℕ). span_of (posted_of_image p) mtu + n) (end_more ps x mtu) ∙ sym (add_assoc (span_of (posted_of_image p) mtu) _ _)

or_assoc : (a b c : Bool) → (a || (b || c)) ≡ ((a || b) || c)
or_assoc true b c = refl
or_assoc false b c = refl

or_false : (a : Bool) → (a || false) ≡ a
or_false true = refl
or_false false = refl

-- a test of some thing, and one more
some_more : {A : Type 0} (test : A → Bool) (xs : List A) (x : A) → some test (xs ++ x ∷ []) ≡ (some test xs || test x)
unfolding some
some_more test [] x = or_false (test x)
some_more test (y ∷ xs) x = ap (λ (b : Bool). test y || b) (some_more test xs x) ∙ or_assoc (test y) (some test xs) (test x)

-- what stands before the next request
abbrev before_of : LinkImage → ℕ → List PostedImage → EarlierRequests
before_of l k xs = record { count = k; low = end_so_far l xs; landing = some (λ q. lands q.request.shape.kind) xs }

-- the same after one more request
before_more : (l : LinkImage) (k : ℕ) (xs : List PostedImage) (x : PostedImage) → before_of l k (xs ++ x ∷ []) ≡ passed l (before_of l k xs) x.request
before_more l k xs x =
    let low : end_so_far l (xs ++ x ∷ []) ≡ end_so_far l xs + shape_of_length x.request.shape.kind x.request.shape.length l.terms.mtu =
    ap (λ (n : ℕ). l.first + n) (end_more xs x l.terms.mtu) ∙ sym (add_assoc l.first _ _) in
    λ i. record { count = k; low = low i; landing = some_more (λ q. lands q.request.shape.kind) xs x i }

-- so many requests, read one after the other
requests_are : (v : ℕ) (rs : List Region) (domain : Name) (l : LinkImage) (k n : ℕ) (xs : List PostedImage) → length xs + n ≡ k → (p : ℕ) (bs : List ℕ) → items n (request_field v rs domain l k) xs p bs ≡ more_requests v rs domain l n (before_of l k xs) xs p bs
unfolding items more_requests
requests_are v rs domain l k zero xs e p bs = refl
requests_are v rs domain l k (suc n) xs e p bs =
    let place : length xs ≡ k - suc n = omega arith in
    ap (λ (r : Reading PostedImage). after r (λ x. items n (request_field v rs domain l k) (xs ++ x ∷ []))) (request_split_at v rs domain l k xs (k - suc n) place p bs)
    ∙ after_then _ _ _ _ λ h p bs. after_then _ _ _ _ λ r p bs. after_then _ _ _ _ λ payload p bs. after_good (record { request = r; payload = payload }) p bs (λ x. items n (request_field v rs domain l k) (xs ++ x ∷ []))
    ∙ (requests_are v rs domain l k n (xs ++ record { request = r; payload = payload } ∷ []) (omega (arith, length-append xs (record { request = r; payload = payload } ∷ []))) p bs
    ∙ ap (λ (b : EarlierRequests). more_requests v rs domain l n b (xs ++ record { request = r; payload = payload } ∷ []) p bs) (before_more l k xs (record { request = r; payload = payload })))

first_before : (l : LinkImage) (k : ℕ) → before_of l k [] ≡ first_of l k
unfolding end_number some
first_before l k = λ i. record { count = k; low = add-zero l.first i; landing = false }

module _ (o : DumpHead) (ds : List Name) (rs : List RegionImage) (qs : List ReadQueue) (es : List EndImage) (n : ℕ) (h : EndImageHead) where
  -- from the count of untold requests on
  after_link : (linked : Option LinkImage) (p : ℕ) (bs : List ℕ) → after (then_read (count_by 2 h.send_depth (is_untold_count linked)) (λ untold_count. then_read (untold_items o.version (regions_of ds rs) (name_at ds h.domain) linked untold_count) λ untold. then_read (count_by 2 h.recv_depth λ i. i == 0 || not (is_ended linked)) λ unused_count. then_read (items unused_count (λ xs. receive_field (regions_of ds rs) (name_at ds h.domain) 0) []) λ unused. gives (end_of_head h linked untold unused)) p bs) (λ e. more_ends o ds rs qs n (es ++ e ∷ [])) ≡ untold_list o ds rs qs es n h linked p bs
  unfolding untold_list unused_list more_receives
  after_link linked p bs =
      after_then _ _ _ _ λ k p bs. after_then _ _ _ _ λ untold p bs. after_then _ _ _ _ λ m p bs. after_then _ _ _ _ λ unused p bs. after_good _ _ _ _

  head_by : (b : Bool) (p : ℕ) (bs : List ℕ) → after (after ((if b then gives None else then_read (link_field (regions_of ds rs) (name_at ds h.domain) (h.state == 2)) (λ l. gives (Some l))) p bs) (λ linked. then_read (count_by 2 h.send_depth (is_untold_count linked)) λ untold_count. then_read (untold_items o.version (regions_of ds rs) (name_at ds h.domain) linked untold_count) λ untold. then_read (count_by 2 h.recv_depth λ i. i == 0 || not (is_ended linked)) λ unused_count. then_read (items unused_count (λ xs. receive_field (regions_of ds rs) (name_at ds h.domain) 0) []) λ unused. gives (end_of_head h linked untold unused))) (λ e. more_ends o ds rs qs n (es ++ e ∷ [])) ≡ (if b then untold_list o ds rs qs es n h None else linked_list o ds rs qs es n h) p bs
  unfolding linked_list
  head_by true p bs = good_in _ _ _ _ _ ∙ after_link None p bs
  head_by false p bs =
      ap (λ (r : Reading EndImage). after r (λ e. more_ends o ds rs qs n (es ++ e ∷ []))) (after_after _ _ _)
      ∙ after_then _ _ _ _ λ l p bs. good_in _ _ _ _ _ ∙ after_link (Some l) p bs

  -- behind the head of a queue pair
  head_then : (p : ℕ) (bs : List ℕ) → after (end_rest o.version ds (regions_of ds rs) h p bs) (λ e. more_ends o ds rs qs n (es ++ e ∷ [])) ≡ after_head o ds rs qs es n h p bs
  unfolding end_rest
  head_then p bs = head_by (h.state == 0) p bs

  -- the head of what a connected end has, and what follows
  pub linked_begins : (p : ℕ) (bs : List ℕ) → linked_list o ds rs qs es n h p bs ≡ then_read (link_head_field (regions_of ds rs) (name_at ds h.domain) (h.state == 2)) (λ l. more_kept o ds rs qs es n h l l.count []) p bs
  unfolding linked_list more_kept
  linked_begins p bs =
      ap (λ (r : Reading LinkImage). after r (λ l. untold_list o ds rs qs es n h (Some l))) (link_split _ _ _ p bs)
      ∙ after_then _ _ _ _ λ l p bs. after_then _ _ _ _ λ kept p bs. after_good _ _ _ _

  counted_by : (linked : Option LinkImage) (k : ℕ) (p : ℕ) (bs : List ℕ) → after (untold_items o.version (regions_of ds rs) (name_at ds h.domain) linked k p bs) (λ untold. unused_list o ds rs qs es n h linked untold) ≡ after_count o ds rs qs es n h linked k p bs
  unfolding more_untold
  counted_by None k p bs = after_good _ _ _ _
  counted_by (Some l) k p bs =
      ap (λ (r : Reading (List PostedImage)). after r (λ untold. unused_list o ds rs qs es n h (Some l) untold))
      (requests_are o.version (regions_of ds rs) (name_at ds h.domain) l k k [] (omega arith) p bs
      ∙ ap (λ (b : EarlierRequests). more_requests o.version (regions_of ds rs) (name_at ds h.domain) l k b [] p bs) (first_before l k))

  -- the count of untold requests, and what follows
  pub untold_begins : (linked : Option LinkImage) (p : ℕ) (bs : List ℕ) → untold_list o ds rs qs es n h linked p bs ≡ then_read (count_by 2 h.send_depth (is_untold_count linked)) (λ k. after_count o ds rs qs es n h linked k) p bs
  unfolding untold_list
  untold_begins linked p bs = after_same _ _ _ λ k p bs. counted_by linked k p bs

module _ (o : DumpHead) (ds : List Name) (rs : List RegionImage) (qs : List ReadQueue) (es : List EndImage) (n : ℕ) where
  -- one more queue pair: its head, and what follows
  pub ends_begin : (p : ℕ) (bs : List ℕ) → more_ends o ds rs qs (suc n) es p bs ≡ then_read (end_head_field (length ds) (length qs) es) (λ h. after_head o ds rs qs es n h) p bs
  unfolding more_ends items
  ends_begin p bs =
      after_after _ _ _
      ∙ (ap (λ (r : Reading EndImage). after r (λ e. more_ends o ds rs qs n (es ++ e ∷ []))) (end_split o.version ds (regions_of ds rs) (length qs) es p bs)
      ∙ after_then _ _ _ _ λ h p bs. head_then o ds rs qs es n h p bs)

-- the same, of queues with their places
pub placed_begin : (o : DumpHead) (ds : List Name) (rs : List RegionImage) (qs : List PlacedQueue) (es : List EndImage) (n : ℕ) (p : ℕ) (bs : List ℕ) → more_ends o ds rs (map placed qs) (suc n) es p bs ≡ then_read (end_head_field (length ds) (length qs) es) (λ h. after_head o ds rs (map placed qs) es n h) p bs
placed_begin o ds rs qs es n p bs =
    ends_begin o ds rs (map placed qs) es n p bs
    ∙ ap (λ (k : ℕ). then_read (end_head_field (length ds) k es) (λ h. after_head o ds rs (map placed qs) es n h) p bs) (length-map qs placed)

-- the count of untold requests, as far as the head of a link tells
pub untold_opens : (o : DumpHead) (ds : List Name) (rs : List RegionImage) (qs : List ReadQueue) (es : List EndImage) (n : ℕ) (h : EndImageHead) (lo : Option LinkImageHead) (kept : List KeptReply) (p : ℕ) (bs : List ℕ) → untold_list o ds rs qs es n h (linked_of lo kept) p bs ≡ then_read (count_by 2 h.send_depth (may_be_untold lo)) (λ k. after_count o ds rs qs es n h (linked_of lo kept) k) p bs
untold_opens o ds rs qs es n h None kept p bs = untold_begins o ds rs qs es n h None p bs
untold_opens o ds rs qs es n h (Some l) kept p bs = untold_begins o ds rs qs es n h (Some (link_of_head l kept)) p bs

-- the count of unused receives, as far as the head of a link tells
pub unused_opens : (o : DumpHead) (ds : List Name) (rs : List RegionImage) (qs : List ReadQueue) (es : List EndImage) (n : ℕ) (h : EndImageHead) (untold : List PostedImage) (lo : Option LinkImageHead) (kept : List KeptReply) (p : ℕ) (bs : List ℕ) → unused_list o ds rs qs es n h (linked_of lo kept) untold p bs ≡ then_read (count_by 2 h.recv_depth (may_be_unused lo)) (λ k. more_receives o ds rs qs es n h (linked_of lo kept) untold k []) p bs
unfolding unused_list
unused_opens o ds rs qs es n h untold None kept p bs = refl
unused_opens o ds rs qs es n h untold (Some l) kept p bs = refl

same_head : (v : ℕ) (l : LinkImageHead) (kept : List KeptReply) (count i low : ℕ) (landing : Bool) → request_head_field v (link_of_head l kept) count i low landing ≡ request_head_field v (link_of_head l []) count i low landing
unfolding request_head_field
same_head v l kept count i low landing = refl

-- one more request: its head, its places, its payload, and what follows
pub request_begins : (o : DumpHead) (ds : List Name) (rs : List RegionImage) (qs : List ReadQueue) (es : List EndImage) (n : ℕ) (h : EndImageHead) (l : LinkImageHead) (kept : List KeptReply) (s : EarlierRequests) (k : ℕ) (untold : List PostedImage) (p : ℕ) (bs : List ℕ) → more_untold o ds rs qs es n h (link_of_head l kept) s (suc k) untold p bs ≡ then_read (request_head_field o.version (link_of_head l []) s.count (s.count - suc k) s.low s.landing) (λ head. then_read (request_places_field (regions_of ds rs) (name_at ds h.domain) head) λ r. then_read (raw (payload_length r)) λ payload. more_untold o ds rs qs es n h (link_of_head l kept) (passed (link_of_head l kept) s r) k (untold ++ record { request = r; payload = payload } ∷ [])) p bs
unfolding more_untold more_requests
request_begins o ds rs qs es n h l kept s k untold p bs =
    after_then _ _ _ _ (λ head p bs. after_then _ _ _ _ λ r p bs. after_then _ _ _ _ λ payload p bs. refl)
    ∙ ap (λ (R : Reader RequestHead). then_read R (λ head. then_read (request_places_field (regions_of ds rs) (name_at ds h.domain) head) λ r. then_read (raw (payload_length r)) λ payload. more_untold o ds rs qs es n h (link_of_head l kept) (passed (link_of_head l kept) s r) k (untold ++ record { request = r; payload = payload } ∷ [])) p bs) (same_head o.version l kept s.count (s.count - suc k) s.low s.landing)
