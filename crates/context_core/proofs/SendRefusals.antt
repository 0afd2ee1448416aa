-- Whether a request may be posted, and which bytes are taken for it.
use Rattle.std.proofs.Common.{◌≡◌, ℕ, zero, suc, ◌+◌, ◌-◌, ◌/◌, ◌%◌, ◌<◌, Bool, true, false, List, [], ◌∷◌, length, take, drop, refl, ap, sym, ◌∙◌, subst, arith}
use Rattle.std.specs.Prelude.{◌==◌, ◌&&◌, not, Option, Some, None, IfSome, is_none, option_map, unwrap_or, nat_le, nat_lt, bytes_eq, position, slice_get, if◌then◌else◌}
use Rattle.std.specs.Map.{keys_of, values_of}
use Rattle.std.specs.Option.{option_map_or}
use Rattle.std.proofs.lemmas.List.Elements.{recursion_from_All}
use Rattle.std.proofs.lemmas.Bool.Decides.{nat_tests}
use Rattle.rdma_types.specs.Causes.{Cause, cause, first_cause}
use Rattle.rdma_types.specs.declared.answers.Refusal.{Refusal}
use Rattle.rdma_types.specs.declared.answers.Refusal.TheVariants.{NoSuch, TooMany, BadState, TooLong, BadKey, SqFull, CqFull}
use Rattle.rdma_types.specs.declared.names.Name.{Name}
use Rattle.rdma_types.specs.declared.requests.Request.{Request}
use Rattle.rdma_types.specs.Kinds.{takes_bytes}
use Rattle.rdma_types.specs.Limits.{most_bytes, number_limit}
use Rattle.rdma_types.specs.Memory.{Right, cut, granted, grants, is_granted, landing_right, local_key}
use Rattle.rdma_types.specs.Lists.{first_that}
use Rattle.rdma_types.specs.Objects.{Region}
use Rattle.rdma_types.specs.Spans.{end_number, span}
use Rattle.page_pool.specs.Pool.{Pool, bytes_of, pages_for}
use Rattle.page_pool.specs.Held.{payload_bytes}
use Rattle.page_pool.specs.declared.Payload.{Payload}
use Rattle.end_queues.specs.Completions.{Queue}
use Rattle.memory_keys.specs.declared.RegisteredRegion.{RegisteredRegion}
use Rattle.memory_keys.specs.declared.RegionRange.{RegionRange}
use Rattle.memory_keys.specs.Regions.{AreKeyed, IsSpot, granted_spot, pages_touched, place_in, regions_of, spot_bytes}
use Rattle.memory_keys.proofs.Protocol.{place-offset, place-some, spot-cut}
use Rattle.end_queues.specs.declared.work_queues.posted.QueuedRequest.{QueuedRequest}
use Rattle.end_queues.specs.Untold.{untold_in}
use Rattle.requester.specs.Sending.{bares}
use Rattle.protocol.specs.DeviceStep.{taken_bytes}
use Rattle.protocol.specs.Memory.{pages_of_request, region_of_key, untold_of}
use Rattle.protocol.specs.Refusals.{end_causes, has_end, is_full, is_init, is_past_limit}
use Rattle.protocol.specs.Requester.{end_of_queue}
use Rattle.protocol.specs.State.{Context, end_at}
use Rattle.endpoint_core.specs.declared.end.Endpoint.{Endpoint}
use Rattle.endpoint_core.specs.declared.end.EndLink.{EndLink}
use Rattle.endpoint_core.specs.Ends.{is_ended_link, link_in, untold_by}
use Rattle.context_core.specs.declared.state.EndSlot.{EndSlot}
use Rattle.context_core.specs.Context.{HasQueues, Holding, IsContext, context_in, end_of, queue_name}
use Rattle.context_core.specs.Queues.{is_full_at}
use Rattle.context_core.specs.Requests.{IsSource, IsTaken, is_full_place, is_past, post_causes, slot_causes, taken_length}
use Rattle.context_core.proofs.EndsByName.{end-found, init-is}
use Rattle.context_core.proofs.FirstCause.{first-passed}
use Rattle.context_core.proofs.ReservedCompletions.{full-is, untold-length}
use Rattle.context_core.proofs.EndStepCalls.{each-at}

-- ---- places

pub none-there : {A : Type 0} (xs : List A) (i : ℕ) → i < length xs → slice_get xs i ≡ None → ⊥
none-there [] i l e = omega (arith, l)
none-there (x ∷ xs) zero l e = let odd : Some x ≡ None = e in absurd (cc)
none-there (x ∷ xs) (suc i) l e = none-there xs i (omega arith) e

pub if-there : {A : Type 0} (xs : List A) (i : ℕ) (P : A → Type 0) (Q : Type 0) → i < length xs → IfSome (slice_get xs i) P → ((x : A) → P x → Q) → Q
if-there xs i P Q l h f = by (slice_get xs i) refl h
  where
    by : (o : Option _) → slice_get xs i ≡ o → IfSome o P → Q
    by None e k = absurd (none-there xs i l e)
    by (Some x) e k = f x k

-- ---- causes in their order

module _ (a b c d e f : Bool) where
  abbrev pub six : List Cause
  six = cause TooMany a ∷ cause BadState b ∷ cause TooLong c ∷ cause BadKey d ∷ cause SqFull e ∷ cause CqFull f ∷ []

  pub is-past : a ≡ true → Some TooMany ≡ first_cause six
  unfolding first_cause
  is-past p = rw p refl

  pub is-init : a ≡ false → b ≡ true → Some BadState ≡ first_cause six
  unfolding first_cause
  is-init p q = rw p (rw q refl)

  pub is-long : a ≡ false → b ≡ false → c ≡ true → Some TooLong ≡ first_cause six
  unfolding first_cause
  is-long p q r = rw p (rw q (rw r refl))

  pub is-barred : a ≡ false → b ≡ false → c ≡ false → d ≡ true → Some BadKey ≡ first_cause six
  unfolding first_cause
  is-barred p q r s = rw p (rw q (rw r (rw s refl)))

  pub is-deep : a ≡ false → b ≡ false → c ≡ false → d ≡ false → e ≡ true → Some SqFull ≡ first_cause six
  unfolding first_cause
  is-deep p q r s t = rw p (rw q (rw r (rw s (rw t refl))))

  pub is-filled : a ≡ false → b ≡ false → c ≡ false → d ≡ false → e ≡ false → f ≡ true → Some CqFull ≡ first_cause six
  unfolding first_cause
  is-filled p q r s t u = rw p (rw q (rw r (rw s (rw t (rw u refl)))))

  pub is-clear : a ≡ false → b ≡ false → c ≡ false → d ≡ false → e ≡ false → f ≡ false → None ≡ first_cause six
  unfolding first_cause
  is-clear p q r s t u = rw p (rw q (rw r (rw s (rw t (rw u refl)))))

pub below : (ended : Bool) (n : ℕ) → (not ended && nat_le number_limit n) ≡ false → ended ≡ false → n < number_limit
below true n h r = absurd (cc)
below false n h r = grind (arith, nat_tests, h)

-- ---- in the protocol's words

end-same : (pool : Pool) (ps : List QueuedRequest) (mtu : ℕ) → end_number (untold_in pool ps) mtu ≡ end_number (bares ps) mtu
unfolding end_number
end-same pool [] mtu = refl
end-same pool (p ∷ ps) mtu = ap (λ n. span p.request.shape mtu + n) (end-same pool ps mtu)

past-is : (pool : Pool) (l : Option EndLink) (r : Request) → is_past_limit (option_map (link_in pool) l) r ≡ is_past l r
unfolding end_of_queue
past-is pool None r = refl
past-is pool (Some l) r = ap (λ n. not l.ended && nat_le number_limit ((l.requester.numbers.first + n) + span r.shape l.terms.mtu)) (end-same pool l.requester.items l.terms.mtu)

place-full : (pool : Pool) (n : Name) (h : Holding) (place : ℕ) → IsContext pool h → place < length h.queues → is_full (context_in pool n h) (queue_name h.queues place) ≡ is_full_place h.queues place
place-full pool n h place is l = by (slice_get (values_of h.queues) place) refl
  where
    there : (qs : List (Name × Queue)) (i : ℕ) → i < length qs → slice_get (values_of qs) i ≡ None → ⊥
    there [] i k e = omega (arith, k)
    there (x ∷ xs) zero k e = let odd : Some x.1 ≡ None = e in absurd (cc)
    there (x ∷ xs) (suc i) k e = there xs i (omega arith) e

    by : (o : Option Queue) → slice_get (values_of h.queues) place ≡ o → is_full (context_in pool n h) (queue_name h.queues place) ≡ is_full_place h.queues place
    by None e = absurd (there h.queues place l e)
    by (Some q) e = full-is pool n h place q is e ∙ sym (ap (λ o. option_map_or is_full_at o true) e)

-- the causes of a queue pair are those of its end
causes-are : (pool : Pool) (n : Name) (h : Holding) (i : ℕ) (e : Name × EndSlot) (r : Request) → IsContext pool h → slice_get h.ends i ≡ Some e → first_cause (slot_causes pool h.regions h.queues e.1 r) ≡ first_cause (post_causes (context_in pool n h) (end_of pool h.queues e) r)
unfolding context_in
causes-are pool n h i e r is there =
    let has = each-at (HasQueues h.queues) h.ends i e (recursion_from_All (HasQueues h.queues) h.ends is.is.placed) there in
    let barred : Bool = not (is_granted local_key (regions_of pool h.regions) e.1.endpoint.domain r.lkey r.local r.shape.length (landing_right r.shape.kind)) in
    let one = sym (past-is pool e.1.endpoint.link r) in
    let two = sym (init-is pool e.1.endpoint.link) in
    let three = sym (untold-length pool e.1.endpoint.link) in
    let four = sym (place-full pool n h e.1.send is has.0) in
    ap (λ b. first_cause (six b (is_none e.1.endpoint.link) (nat_lt most_bytes r.shape.length) barred (nat_le e.1.endpoint.send_depth (length (untold_by e.1.endpoint.link))) (is_full_place h.queues e.1.send))) one
    ∙ (ap (λ b. first_cause (six (is_past_limit (option_map (link_in pool) e.1.endpoint.link) r) b (nat_lt most_bytes r.shape.length) barred (nat_le e.1.endpoint.send_depth (length (untold_by e.1.endpoint.link))) (is_full_place h.queues e.1.send))) two
    ∙ (ap (λ k. first_cause (six (is_past_limit (option_map (link_in pool) e.1.endpoint.link) r) (is_init (option_map (link_in pool) e.1.endpoint.link)) (nat_lt most_bytes r.shape.length) barred (nat_le e.1.endpoint.send_depth k) (is_full_place h.queues e.1.send))) three
    ∙ ap (λ b. first_cause (six (is_past_limit (option_map (link_in pool) e.1.endpoint.link) r) (is_init (option_map (link_in pool) e.1.endpoint.link)) (nat_lt most_bytes r.shape.length) barred (nat_le e.1.endpoint.send_depth (length (untold_of (option_map (link_in pool) e.1.endpoint.link)))) b)) four))

-- a request at the queue pair that was found is refused for its causes
pub request-refused : (pool : Pool) (n : Name) (h : Holding) (name : Name) (i : ℕ) (e : Name × EndSlot) (r : Request) (o : Option Refusal) → IsContext pool h → position (bytes_eq name) (keys_of h.ends) ≡ Some i → slice_get h.ends i ≡ Some e
    → o ≡ first_cause (slot_causes pool h.regions h.queues e.1 r) → o ≡ first_cause (end_causes (context_in pool n h) name (post_causes (context_in pool n h) (end_at (context_in pool n h) name) r))
unfolding context_in
request-refused pool n h name i e r o is found there refused =
    let f = end-found pool h.queues h.ends name i e is.is.end_names found there in
    refused ∙ (causes-are pool n h i e r is there
    ∙ (ap (λ x. first_cause (post_causes (context_in pool n h) x r)) (sym f.end)
    ∙ sym (first-passed NoSuch (not (has_end (context_in pool n h) name)) _ (ap not f.has))))

-- ---- bytes

pub source-is : (held : List RegisteredRegion) (e : Endpoint) (l : EndLink) (r : Request) (place spot : RegionRange) → e.link ≡ Some l → spot ≡ (if takes_bytes r.shape.kind && not l.ended then place else record { region = 0; off = 0; length = 0 }) → IsSpot held place → place.length ≡ r.shape.length
    → ((pool : Pool) → Some place ≡ granted_spot local_key (regions_of pool held) e.domain r.lkey r.local r.shape.length (landing_right r.shape.kind)) → IsSource held e r spot
source-is held e l r place spot linked is inside size granted =
    by (takes_bytes r.shape.kind && not (is_ended_link e.link)) refl (is ∙ ap (λ o. if takes_bytes r.shape.kind && not (is_ended_link o) then place else record { region = 0; off = 0; length = 0 }) (sym linked))
  where
    by : (b : Bool) → (takes_bytes r.shape.kind && not (is_ended_link e.link)) ≡ b → spot ≡ (if takes_bytes r.shape.kind && not (is_ended_link e.link) then place else record { region = 0; off = 0; length = 0 }) → IsSource held e r spot
    by true t s =
        let same : spot ≡ place = s ∙ ap (λ (b : Bool). if b then place else record { region = 0; off = 0; length = 0 }) t in
        let count : taken_length e.link r ≡ r.shape.length = ap (λ (b : Bool). if b then r.shape.length else 0) t in
        record {
          inside = subst (IsSpot held) (sym same) inside;
          size = ap (λ x. x.length) same ∙ (size ∙ sym count);
          granted = λ pool. ap (λ k. granted_spot local_key (regions_of pool held) e.domain r.lkey r.local k (landing_right r.shape.kind)) count ∙ (sym (granted pool) ∙ ap Some (sym same));
        }
    by false t s =
        let same : spot ≡ record { region = 0; off = 0; length = 0 } = s ∙ ap (λ (b : Bool). if b then place else record { region = 0; off = 0; length = 0 }) t in
        let count : taken_length e.link r ≡ 0 = ap (λ (b : Bool). if b then r.shape.length else 0) t in
        record {
          inside = λ some. let none : spot.length ≡ 0 = ap (λ x. x.length) same in absurd (omega arith);
          size = ap (λ x. x.length) same ∙ sym count;
          granted = λ pool. ap (λ k. granted_spot local_key (regions_of pool held) e.domain r.lkey r.local k (landing_right r.shape.kind)) count ∙ ap Some (sym same);
        }

-- a region that a local key grants has the key
granted-key : (rs : List Region) (domain : Name) (key from count : ℕ) (right : Right) (r : Region) → granted local_key rs domain key from count right ≡ Some r → r.keys.local ≡ key
unfolding granted grants first_that
granted-key [] domain key from count right r e = absurd (cc)
granted-key (x ∷ xs) domain key from count right r e = by (grants local_key domain key from count right x) refl (granted-key xs domain key from count right r)
  where
    by : (b : Bool) → grants local_key domain key from count right x ≡ b → (granted local_key xs domain key from count right ≡ Some r → r.keys.local ≡ key) → r.keys.local ≡ key
    by true t rest = let same : x ≡ r = grind (arith, t, e) in let key' : x.keys.local ≡ key = grind (arith, nat_tests, t) in ap (λ y. y.keys.local) (sym same) ∙ key'
    by false t rest = rest (grind (arith, t, e))

spot-key : (rs : List Region) (domain : Name) (key from count : ℕ) (right : Right) (spot : RegionRange) → 0 < count → granted_spot local_key rs domain key from count right ≡ Some spot → spot.region ≡ key
spot-key rs domain key from count right spot some e = by (granted local_key rs domain key from count right) refl (sym (place-some local_key rs domain key from count right some) ∙ e)
  where
    by : (o : Option Region) → granted local_key rs domain key from count right ≡ o → option_map (place_in from count) (granted local_key rs domain key from count right) ≡ Some spot → spot.region ≡ key
    by None g h = absurd (let none : option_map (place_in from count) None ≡ Some spot = rw g at h in cc)
    by (Some x) g h =
        let is : Some (place_in from count x) ≡ Some spot = sym (ap (option_map (place_in from count)) g) ∙ h in
        let same : spot ≡ place_in from count x = cc in
        ap (λ y. y.region) same ∙ granted-key rs domain key from count right x g

touched : (off count : ℕ) → 0 < count → ((off + count) - 1) / 4096 - off / 4096 + 1 ≡ pages_for (off % 4096 + count)
unfolding pages_for
touched off count some = omega arith

-- the pages and the bytes of a request that takes some
record IsWhole (c : Context) (pool : Pool) (held : List RegisteredRegion) (r : Request) (spot : RegionRange) : Type 0 where
  pub pages : pages_of_request c r ≡ pages_touched spot
  pub bytes : spot_bytes pool held spot ≡ taken_bytes c r

whole : (c : Context) (pool : Pool) (held : List RegisteredRegion) (e : Endpoint) (r : Request) (spot : RegionRange) → c.regions ≡ regions_of pool held → AreKeyed held → IsSource held e r spot → is_ended_link e.link ≡ false → takes_bytes r.shape.kind ≡ true → 0 < r.shape.length → IsWhole c pool held r spot
unfolding pages_of_request taken_bytes
whole c pool held e r spot regions keyed s running takes some =
    let count : taken_length e.link r ≡ r.shape.length = rw takes (rw running refl) in
    let g : granted_spot local_key c.regions e.domain r.lkey r.local r.shape.length (landing_right r.shape.kind) ≡ Some spot = ap (λ rs. granted_spot local_key rs e.domain r.lkey r.local r.shape.length (landing_right r.shape.kind)) regions ∙ (ap (λ k. granted_spot local_key (regions_of pool held) e.domain r.lkey r.local k (landing_right r.shape.kind)) (sym count) ∙ s.granted pool) in
    let key : spot.region ≡ r.lkey = spot-key c.regions e.domain r.lkey r.local r.shape.length (landing_right r.shape.kind) spot some g in
    let off : spot.off ≡ r.local - (region_of_key c r.lkey).base = place-offset c pool held regions keyed local_key e.domain r.lkey r.local r.shape.length (landing_right r.shape.kind) spot some g ∙ ap (λ k. r.local - (region_of_key c k).base) key in
    let size : spot.length ≡ r.shape.length = s.size ∙ count in
    let no : (r.shape.length == 0) ≡ false = grind (arith, nat_tests, some) in
    let no' : (spot.length == 0) ≡ false = ap (λ k. k == 0) size ∙ no in
    let some' : 0 < spot.length = subst (λ k. 0 < k) (sym size) some in
    record {
      pages = rw takes (rw no (rw no' (touched (r.local - (region_of_key c r.lkey).base) r.shape.length some ∙ (ap (λ k. pages_for (k % 4096 + r.shape.length)) (sym off) ∙ ap (λ k. pages_for (spot.off % 4096 + k)) (sym size)))));
      bytes = rw takes (rw no (spot-cut c pool held regions spot s.inside some' ∙ (ap (λ k. cut k spot.length (region_of_key c spot.region).bytes) off ∙ (ap (λ k. cut (r.local - (region_of_key c r.lkey).base) k (region_of_key c spot.region).bytes) size ∙ ap (λ k. cut (r.local - (region_of_key c r.lkey).base) r.shape.length (region_of_key c k).bytes) key))));
    }

-- a spot of nothing touches no page, and a payload of nothing has no bytes
none-touched : (spot : RegionRange) → spot.length ≡ 0 → pages_touched spot ≡ 0
none-touched spot e = rw e refl

none-paid : (pool : Pool) (p : Payload) → p.length ≡ 0 → payload_bytes pool p ≡ []
unfolding payload_bytes cut
none-paid pool p e = ap (λ n. take n (drop p.first (unwrap_or (bytes_of pool p.list) []))) e

-- the pages that a request takes, where its end is not in Error
pub pages-asked : (c : Context) (pool : Pool) (held : List RegisteredRegion) (e : Endpoint) (r : Request) (spot : RegionRange) → c.regions ≡ regions_of pool held → AreKeyed held → IsSource held e r spot → is_ended_link e.link ≡ false → pages_of_request c r ≡ pages_touched spot
unfolding pages_of_request
pages-asked c pool held e r spot regions keyed s running = by (takes_bytes r.shape.kind) refl (r.shape.length) refl
  where
    by : (b : Bool) → takes_bytes r.shape.kind ≡ b → (k : ℕ) → r.shape.length ≡ k → pages_of_request c r ≡ pages_touched spot
    by false t k l = let none : spot.length ≡ 0 = s.size ∙ rw t refl in rw t (sym (none-touched spot none))
    by true t zero l = let none : spot.length ≡ 0 = s.size ∙ rw t (rw running l) in rw t (rw l (sym (none-touched spot none)))
    by true t (suc k) l = (whole c pool held e r spot regions keyed s running t (omega arith)).pages

-- its bytes
pub bytes-asked : (c : Context) (a b : Pool) (held : List RegisteredRegion) (e : Endpoint) (r : Request) (spot : RegionRange) (p : Payload) → c.regions ≡ regions_of a held → AreKeyed held → IsSource held e r spot → IsTaken a b held spot p → is_ended_link e.link ≡ false → payload_bytes b p ≡ taken_bytes c r
unfolding taken_bytes
bytes-asked c a b held e r spot p regions keyed s t running = by (takes_bytes r.shape.kind) refl (r.shape.length) refl
  where
    by : (x : Bool) → takes_bytes r.shape.kind ≡ x → (k : ℕ) → r.shape.length ≡ k → payload_bytes b p ≡ taken_bytes c r
    by false u k l = let none : p.length ≡ 0 = t.size ∙ (s.size ∙ rw u refl) in rw u (none-paid b p none)
    by true u zero l = let none : p.length ≡ 0 = t.size ∙ (s.size ∙ rw u (rw running l)) in rw u (rw l (none-paid b p none))
    by true u (suc k) l = t.bytes ∙ (whole c a held e r spot regions keyed s running u (omega arith)).bytes

-- in Error nothing is taken
pub none-asked : (held : List RegisteredRegion) (e : Endpoint) (r : Request) (spot : RegionRange) → IsSource held e r spot → is_ended_link e.link ≡ true → pages_touched spot ≡ 0
none-asked held e r spot s ended = by (takes_bytes r.shape.kind) refl
  where
    by : (b : Bool) → takes_bytes r.shape.kind ≡ b → pages_touched spot ≡ 0
    by true t = none-touched spot (s.size ∙ rw t (rw ended refl))
    by false t = none-touched spot (s.size ∙ rw t refl)
