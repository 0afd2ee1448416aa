-- Readers as their groups.
use Rattle.std.proofs.Common.{◌≡◌, ℕ, List, [], ◌∷◌, ◌++◌, length, map, add-zero, false, nat_lt, arith, refl, ap, sym, ◌∙◌}
use Rattle.protocol.specs.declared.images.ContextImage.{ContextImage}
use Rattle.std.specs.Prelude.{Bool}
use Rattle.std.proofs.lemmas.Bool.Decides.{nat_tests}
use Rattle.rdma_types.specs.declared.names.Name.{Name}
use Rattle.rdma_types.specs.Kinds.{lands}
use Rattle.rdma_types.specs.Lists.{some}
use Rattle.rdma_types.specs.Objects.{Region}
use Rattle.protocol.specs.declared.images.EndImage.{EndImage}
use Rattle.protocol.specs.declared.images.LinkImage.{LinkImage}
use Rattle.protocol.specs.declared.images.PostedImage.{PostedImage}
use Rattle.protocol.specs.declared.images.RegionImage.{RegionImage}
use Rattle.rdma_types.specs.declared.requests.Completion.{Completion}
use Rattle.protocol.specs.Dumps.{Reading, Reader, Good, Bad, ReadQueue, after, then_read, gives, raw, items, region_field, queue_field, entry_field, end_field, link_field, kept_field, request_field, end_so_far}
use Rattle.dump_reader.specs.Ahead.{end_rest}
use Rattle.dump_reader.specs.declared.heads.PlacedQueue.{PlacedQueue}
use Rattle.dump_reader.specs.Groups.{placed, region_head_field, queue_head_field, region_of_head, queue_of_head, end_head_field, link_head_field, link_of_head, peer_field, numbers_field, waiting_field, message_field, request_head_field, request_places_field, payload_length}

-- readers after one another, grouped
pub after_after : {A B C : Type 0} (r : Reading A) (f : A → Reader B) (g : B → Reader C) → after (after r f) g ≡ after r (λ x p bs. after (f x p bs) g)
unfolding after
after_after (Bad p w) f g = refl
after_after (Good x p bs) f g = refl

-- nothing is read before
pub after_good : {A B : Type 0} (x : A) (p : ℕ) (bs : List ℕ) (k : A → Reader B) → after (Good x p bs) k ≡ k x p bs
unfolding after
after_good x p bs k = refl

-- a reader whose last part is read after the others are grouped
pub regroup : {A B C : Type 0} (r : Reading A) (f : A → Reader B) (k : B → Reader C) (g : A → Reader C) → ((x : A) (p : ℕ) (bs : List ℕ) → g x p bs ≡ after (f x p bs) k) → after r g ≡ after (after r f) k
unfolding after
regroup (Bad p w) f k g h = refl
regroup (Good x p bs) f k g h = h x p bs

-- a region: its head, and its bytes
pub region_split : (n : ℕ) (seen : List RegionImage) (p : ℕ) (bs : List ℕ) → region_field n seen p bs ≡ then_read (region_head_field n seen) (λ h. then_read (raw h.length) λ bytes. gives (region_of_head h bytes)) p bs
unfolding region_field region_head_field
region_split n seen p bs =
    regroup _ _ _ _ λ name p bs. regroup _ _ _ _ λ domain p bs. regroup _ _ _ _ λ base p bs. regroup _ _ _ _ λ length' p bs.
    regroup _ _ _ _ λ rights p bs. regroup _ _ _ _ λ local p bs. regroup _ _ _ _ λ remote p bs. sym (after_good _ _ _ _)

-- a queue: its head, and its entries
pub queue_split : (seen : List ReadQueue) (p : ℕ) (bs : List ℕ) → queue_field seen p bs ≡ then_read (queue_head_field seen) (λ h. then_read (items h.count entry_field []) λ entries. gives (queue_of_head h entries)) p bs
unfolding queue_field queue_head_field
queue_split seen p bs = regroup _ _ _ _ λ name place bs. regroup _ _ _ _ λ capacity p bs. after_after _ _ _ ∙ regroup _ _ _ _ λ count p bs. sym (after_good _ _ _ _)

-- an entry does not look at those before it
pub entry_any : (seen : List Completion) (p : ℕ) (bs : List ℕ) → entry_field seen p bs ≡ entry_field [] p bs
unfolding entry_field
entry_any seen p bs = refl

-- queues with their places, and one more
pub placed_more : (qs : List PlacedQueue) (q : PlacedQueue) → map placed (qs ++ q ∷ []) ≡ map placed qs ++ placed q ∷ []
placed_more [] q = refl
placed_more (x ∷ qs) q = ap (λ (xs : List ReadQueue). placed x ∷ xs) (placed_more qs q)

-- the same within one more reader
pub regroup_in : {A B C D : Type 0} (r : Reading A) (f : A → Reader B) (h : B → Reader C) (k : C → Reader D) (g : A → Reader D) → ((x : A) (p : ℕ) (bs : List ℕ) → g x p bs ≡ after (after (f x p bs) h) k) → after r g ≡ after (after (after r f) h) k
unfolding after
regroup_in (Bad p w) f h k g e = refl
regroup_in (Good x p bs) f h k g e = e x p bs

-- nothing is read before, within one more reader
pub good_in : {A B C : Type 0} (x : A) (p : ℕ) (bs : List ℕ) (h : A → Reader B) (k : B → Reader C) → after (after (Good x p bs) h) k ≡ after (h x p bs) k
unfolding after
good_in x p bs h k = refl

into : {A B C : Type 0} (x : A) (p : ℕ) (bs : List ℕ) (h : A → Reader B) (k : B → Reader C) {r : Reading C} → r ≡ after (h x p bs) k → r ≡ after (after (Good x p bs) h) k
into x p bs h k e = e ∙ sym (good_in x p bs h k)

pub past : {A B : Type 0} (x : A) (p : ℕ) (bs : List ℕ) (k : A → Reader B) {r : Reading B} → r ≡ k x p bs → r ≡ after (Good x p bs) k
past x p bs k e = e ∙ sym (after_good x p bs k)

-- a queue pair: its head, and the rest
pub end_split : (v : ℕ) (ds : List Name) (rs : List Region) (qs : ℕ) (seen : List EndImage) (p : ℕ) (bs : List ℕ) → end_field v ds rs qs seen p bs ≡ then_read (end_head_field (length ds) qs seen) (end_rest v ds rs) p bs
unfolding end_field end_head_field end_rest
end_split v ds rs qs seen p bs =
    regroup _ _ _ _ λ name p bs. regroup _ _ _ _ λ n p bs. regroup _ _ _ _ λ domain p bs. regroup _ _ _ _ λ send_cq p bs.
    regroup _ _ _ _ λ recv_cq p bs. regroup _ _ _ _ λ send_depth p bs. regroup _ _ _ _ λ recv_depth p bs. regroup _ _ _ _ λ state p bs. sym (after_good _ _ _ _)

-- what a connected end has: its head, and its kept replies
pub link_split : (rs : List Region) (domain : Name) (ended : Bool) (p : ℕ) (bs : List ℕ) → link_field rs domain ended p bs ≡ then_read (link_head_field rs domain ended) (λ h. then_read (items h.count (kept_field h.waiting.expected) []) λ kept. gives (link_of_head h kept)) p bs
unfolding link_field link_head_field peer_field numbers_field waiting_field message_field
link_split rs domain ended p bs =
    regroup_in _ _ _ _ _ λ peer p bs. regroup_in _ _ _ _ _ λ ip p bs. regroup_in _ _ _ _ _ λ port p bs. regroup_in _ _ _ _ _ λ moves p bs.
    regroup_in _ _ _ _ _ λ partner_moves p bs. regroup_in _ _ _ _ _ λ resuming p bs. into _ _ _ _ _ (regroup _ _ _ _ λ terms p bs.
    regroup_in _ _ _ _ _ λ first p bs. regroup_in _ _ _ _ _ λ una p bs. regroup_in _ _ _ _ _ λ next p bs. regroup_in _ _ _ _ _ λ top p bs. into _ _ _ _ _ (regroup_in _ _ _ _ _ λ spent p bs. regroup_in _ _ _ _ _ λ waits p bs. regroup_in _ _ _ _ _ λ rnr_wait p bs. regroup_in _ _ _ _ _ λ expected p bs.
    regroup_in _ _ _ _ _ λ nak_sent p bs. regroup_in _ _ _ _ _ λ msn p bs. into _ _ _ _ _ (regroup_in _ _ _ _ _ λ code p bs. regroup _ _ _ _ λ message p bs. after_after _ _ _ ∙ regroup _ _ _ _ λ count p bs. sym (after_good _ _ _ _))))

-- a request: its head, its places, and its payload
pub request_split : (v : ℕ) (rs : List Region) (domain : Name) (l : LinkImage) (count : ℕ) (seen : List PostedImage) (p : ℕ) (bs : List ℕ) → request_field v rs domain l count seen p bs ≡ then_read (request_head_field v l count (length seen) (end_so_far l seen) (some (λ q. lands q.request.shape.kind) seen)) (λ h. then_read (request_places_field rs domain h) λ r. then_read (raw (payload_length r)) λ payload. gives (record { request = r; payload = payload })) p bs
unfolding request_field request_head_field request_places_field
request_split v rs domain l count seen p bs =
    regroup _ _ _ _ λ id p bs. regroup _ _ _ _ λ k p bs. regroup _ _ _ _ λ flags p bs. regroup _ _ _ _ λ imm p bs. regroup _ _ _ _ λ length' p bs.
    past _ _ _ _ (regroup _ _ _ _ λ lkey p bs. regroup _ _ _ _ λ local p bs. regroup _ _ _ _ λ remote p bs. regroup _ _ _ _ λ rkey p bs. regroup _ _ _ _ λ swap_add p bs.
    regroup _ _ _ _ λ compare p bs. sym (after_good _ _ _ _))

-- readers that give the same after the same
pub after_same : {A B : Type 0} (r : Reading A) (f g : A → Reader B) → ((x : A) (p : ℕ) (bs : List ℕ) → f x p bs ≡ g x p bs) → after r f ≡ after r g
unfolding after
after_same (Bad p w) f g h = refl
after_same (Good x p bs) f g h = h x p bs

-- one reader after another, and what is the same after it
pub after_then : {A B C : Type 0} (r : Reading A) (f : A → Reader B) (g : B → Reader C) (k : A → Reader C) → ((x : A) (p : ℕ) (bs : List ℕ) → after (f x p bs) g ≡ k x p bs) → after (after r f) g ≡ after r k
unfolding after
after_then (Bad p w) f g k h = refl
after_then (Good x p bs) f g k h = h x p bs

-- the same where it is request i
pub request_split_at : (v : ℕ) (rs : List Region) (domain : Name) (l : LinkImage) (count : ℕ) (seen : List PostedImage) (i : ℕ) → length seen ≡ i → (p : ℕ) (bs : List ℕ) → request_field v rs domain l count seen p bs ≡ then_read (request_head_field v l count i (end_so_far l seen) (some (λ q. lands q.request.shape.kind) seen)) (λ h. then_read (request_places_field rs domain h) λ r. then_read (raw (payload_length r)) λ payload. gives (record { request = r; payload = payload })) p bs
request_split_at v rs domain l count seen i e p bs =
    request_split v rs domain l count seen p bs
    ∙ ap (λ (j : ℕ). then_read (request_head_field v l count j (end_so_far l seen) (some (λ q. lands q.request.shape.kind) seen)) (λ h. then_read (request_places_field rs domain h) λ r. then_read (raw (payload_length r)) λ payload. gives (record { request = r; payload = payload })) p bs) e

none_below : (n : ℕ) → nat_lt n 0 ≡ false
none_below n = grind (arith, nat_tests)

-- no bytes
pub raw_none : (p : ℕ) (bs : List ℕ) → raw 0 p bs ≡ Good [] p bs
unfolding raw
raw_none p bs = rw (none_below (length bs), add-zero p) refl

-- no bytes, and what follows
pub skip : (n p : ℕ) (bs : List ℕ) (k : List ℕ → Reader ContextImage) (x : List ℕ) → n ≡ 0 → x ≡ [] → after (raw n p bs) k ≡ k x p bs
unfolding after
skip n p bs k x e x_is = rw (e, raw_none p bs) (ap (λ (y : List ℕ). k y p bs) (sym x_is))
