-- An image that was read keeps the rules.
use Rattle.std.proofs.Common.{◌≡◌, ℕ, zero, suc, ◌+◌, ◌-◌, ◌*◌, ◌/◌, ◌%◌, ◌^◌, ◌<◌, ◌≤◌, not, ◌&&◌, Bool, true, false, nat_lt, nat_le, List, [], ◌∷◌, ◌++◌, length, map, take, get_or, refl, ap, sym, subst, ◌∙◌, arith, append_assoc, add-zero}
use Rattle.std.specs.Prelude.{◌||◌, ◌==◌, ◌≢◌, ◌⊎◌, All, AllPairs, Option, Some, None, slice_get, bytes_eq, if◌then◌else◌}
use Rattle.std.proofs.lemmas.Bool.Decides.{nat_tests}
use Rattle.std.proofs.lemmas.List.{append-nil, length-map}
use Rattle.std.proofs.lemmas.List.Elements.{All-nil, All-cons}
use Rattle.std.proofs.lemmas.List.Kept.{AllPairs-cons}
use Rattle.rdma_types.proofs.Tables.{name_is}
use Rattle.rdma_types.specs.declared.names.Name.{Name}
use Rattle.rdma_types.specs.declared.requests.Completion.{Completion}
use Rattle.rdma_types.specs.declared.requests.Receive.{Receive}
use Rattle.rdma_types.specs.declared.requests.Terms.{Terms}
use Rattle.rdma_types.specs.Limits.{AreTerms, is_mtu, most_bytes, most_domains, most_ends, most_kept, most_queues, most_regions, number_limit}
use Rattle.rdma_types.specs.Memory.{LocalWrite, RemoteWrite, allows, is_granted, local_key}
use Rattle.protocol.specs.declared.images.ContextImage.{ContextImage}
use Rattle.protocol.specs.declared.images.CqImage.{CqImage}
use Rattle.protocol.specs.declared.images.EndImage.{EndImage}
use Rattle.protocol.specs.declared.images.KeptReply.{KeptReply}
use Rattle.protocol.specs.declared.images.LinkImage.{LinkImage}
use Rattle.protocol.specs.declared.images.PostedImage.{PostedImage}
use Rattle.protocol.specs.declared.images.Progress.{Progress}
use Rattle.protocol.specs.declared.images.Progress.TheVariants as progress
use Rattle.protocol.specs.declared.images.RegionImage.{RegionImage}
use Rattle.protocol.specs.Images.{context_of, name_at, region_of_image}
use Rattle.protocol.specs.Lawful.{AreNames, IsLawfulRegion, IsLawfulEntry, IsLawfulQueue, IsLawfulReceive, IsLawfulSend, IsLawfulWrite, IsLawfulProgress, IsPlaceGranted, is_whole_pieces}
use Rattle.protocol.specs.Refusals.{reserved}
use Rattle.protocol.specs.Dumps.{within, may_write_at, length_at, follows, is_below_limit, is_24, rises}
use Rattle.law_dump_round_trip.proofs.Exact.{Passes, Rises, Both}
use Rattle.law_dump_round_trip.proofs.Things.{IsNewName, RegionRule, EntryRule, ReceiveRule, TermsRule, KeptRule, KeptListRule, SendRule, WriteRule, MessageRule}
use Rattle.law_dump_round_trip.proofs.Groups.{QueueRule, EntriesRule}
use Rattle.law_dump_round_trip.proofs.Context.{HaveRoom}
use Rattle.law_dump_round_trip.proofs.Lists.{and_first, and_second, not_true, all_rise, pairs_rise, names_rise, map_same, rises_at}

-- ---- tests

pub le_of : (a b : ℕ) → nat_le a b ≡ true → a ≤ b
le_of a b h = grind (arith, nat_tests)

pub lt_of : (a b : ℕ) → nat_lt a b ≡ true → a < b
lt_of a b h = grind (arith, nat_tests)

pub eq_of : (a b : ℕ) → (a == b) ≡ true → a ≡ b
eq_of a b h = grind (arith, nat_tests)

pub within_low : (low high n : ℕ) → within low high n ≡ true → low ≤ n
within_low low high n h = le_of low n (and_first _ _ h)

pub within_high : (low high n : ℕ) → within low high n ≡ true → n ≤ high
within_high low high n h = le_of n high (and_second (nat_le low n) _ h)

-- ---- regions and queues

region_keeps : (domains : ℕ) (seen : List RegionImage) (r : RegionImage) → RegionRule domains seen r → IsLawfulRegion domains r
region_keeps domains seen r h = record {
  domain = lt_of r.domain domains h.domain.test;
  base = le_of r.base (2 ^ 63) h.base.test;
  some_bytes = within_low 1 16777216 r.length h.length'.test;
  few_bytes = within_high 1 16777216 r.length h.length'.test;
  rights = le_of r.rights.0 15 h.rights.test;
  local = and_first _ _ h.local.test;
  remote = eq_of r.keys.remote (r.keys.local + 1) h.remote.test;
  whole = h.whole;
}

pub as_they_are : {A : Type 0} (P : A → Type 0) (xs : List A) → All P (map (λ x. x) xs) → All P xs
as_they_are P xs h = subst (λ ys. All P ys) (map_same xs) h

pub regions_keep : (domains : ℕ) (rs : List RegionImage) → Rises RegionImage (RegionRule domains) [] rs → All (IsLawfulRegion domains) rs
regions_keep domains rs h = as_they_are (IsLawfulRegion domains) rs (all_rise RegionImage RegionImage (λ x. x) (RegionRule domains) (IsLawfulRegion domains) (λ seen y p. region_keeps domains seen y p) [] rs h)

pub keys_differ : (a b : ℕ) → (a == b) ≡ false → a ≢ b
keys_differ a b h e = grind (arith, nat_tests)

pub keys_keep : (domains : ℕ) (rs : List RegionImage) → Rises RegionImage (RegionRule domains) [] rs → AllPairs (λ a b. a.keys.local ≢ b.keys.local) rs
keys_keep domains rs h = subst (λ ys. AllPairs (λ a b. a.keys.local ≢ b.keys.local) ys) (map_same rs)
    (pairs_rise RegionImage RegionImage (λ x. x) (RegionRule domains) (λ a b. a.keys.local ≢ b.keys.local) (λ x seen y i p. keys_differ x.keys.local y.keys.local (i (λ a. a.keys.local == y.keys.local) (not_true _ (and_second _ _ p.local.test)))) [] rs h)

entry_keeps : (seen : List Completion) (w : Completion) → EntryRule seen w → IsLawfulEntry w
entry_keeps seen w h = record { qp = h.qp.test; length' = le_of w.length most_bytes h.length'.test }

entries_keep : (ws : List Completion) → Rises Completion EntryRule [] ws → All IsLawfulEntry ws
entries_keep ws h = as_they_are IsLawfulEntry ws (all_rise Completion Completion (λ x. x) EntryRule IsLawfulEntry entry_keeps [] ws h)

room_of : (a b : ℕ) → nat_lt a b ≡ false → b ≤ a
room_of a b h = grind (arith, nat_tests)

room_at : (c : ContextImage) (qs : List CqImage) → HaveRoom c qs → (k : ℕ) (d : CqImage) → k < length qs → length (get_or qs k d).entries + reserved (context_of c) (get_or qs k d).name ≤ (get_or qs k d).capacity
room_at c [] h k d l = absurd (omega arith)
room_at c (q ∷ qs) h zero d l = room_of q.capacity _ h.0
room_at c (q ∷ qs) h (suc k) d l = room_at c qs h.1 k d (omega arith)

pub queues_keep : (c : ContextImage) (qs : List CqImage) → Rises CqImage QueueRule [] qs → HaveRoom c qs → All (IsLawfulQueue c) qs
queues_keep c qs h room = λ k d l. let r = rises_at CqImage QueueRule [] qs h k d l in record {
  some_room = within_low 1 16384 (get_or qs k d).capacity r.capacity.test;
  little_room = within_high 1 16384 (get_or qs k d).capacity r.capacity.test;
  entries = entries_keep (get_or qs k d).entries r.entries.others.1;
  fits = room_at c qs room k d l;
}

-- ---- receives and messages

pub receive_keeps : (c : ContextImage) (domain done : ℕ) (r : Receive) → ReceiveRule (map (region_of_image c.domains) c.regions) (name_at c.domains domain) done r → IsLawfulReceive c domain r
unfolding context_of
receive_keeps c domain done r h = record {
  length' = within_high done most_bytes r.length (and_first _ _ h.length'.test);
  granted = and_second _ _ h.length'.test;
}

-- a region that may be written
record Writable (ds : List Name) (rs : List RegionImage) (domain : Name) (i : ℕ) : Type 0 where
  region : RegionImage
  there : slice_get rs i ≡ Some region
  at : i < length rs
  found : region ≡ get_or rs i region
  name : bytes_eq (name_at ds region.domain) domain ≡ true
  right : allows region.rights RemoteWrite ≡ true
  length' : length_at (map (region_of_image ds) rs) i ≡ region.length

writable : (ds : List Name) (rs : List RegionImage) (domain : Name) (i : ℕ) → may_write_at (map (region_of_image ds) rs) domain i ≡ true → Writable ds rs domain i
writable ds [] domain i h = cc
writable ds (r ∷ rs) domain zero h = record { region = r; there = refl; at = omega arith; found = refl; name = and_first _ _ h; right = and_second _ _ h; length' = refl }
writable ds (r ∷ rs) domain (suc i) h = let w = writable ds rs domain i h in record { region = w.region; there = w.there; at = omega (arith, w.at); found = w.found; name = w.name; right = w.right; length' = w.length' }

not_both : (ds : List Name) → AllPairs (λ a b. a ≢ b) ds → (a b : ℕ) → a < b → b < length ds → name_at ds a ≡ name_at ds b → ⊥
not_both ds h a b l m e = h a b [] l m e

same_by : (ds : List Name) → AllPairs (λ a b. a ≢ b) ds → (a b : ℕ) → a < length ds → b < length ds → name_at ds a ≡ name_at ds b → (t u : Bool) → nat_lt a b ≡ t → nat_lt b a ≡ u → a ≡ b
same_by ds h a b l m e true u p q = absurd (not_both ds h a b (lt_of a b p) m e)
same_by ds h a b l m e false true p q = absurd (not_both ds h b a (lt_of b a q) l (sym e))
same_by ds h a b l m e false false p q = grind (arith, nat_tests)

-- a domain is known by its name
same_domain : (ds : List Name) → AllPairs (λ a b. a ≢ b) ds → (a b : ℕ) → a < length ds → b < length ds → name_at ds a ≡ name_at ds b → a ≡ b
same_domain ds h a b l m e = same_by ds h a b l m e (nat_lt a b) (nat_lt b a) refl refl

or_second : (a b : Bool) → a ≡ false → (a || b) ≡ true → b ≡ true
or_second true b e h = cc
or_second false b e h = h

not_zero : (n done : ℕ) → done < n → (n == 0) ≡ false
not_zero n done h = grind (arith, nat_tests)

pub message_keeps : (c : ContextImage) (domain mtu : ℕ) → AreNames c.domains most_domains → All (IsLawfulRegion (length c.domains)) c.regions → domain < length c.domains → (p : Progress) → MessageRule (map (region_of_image c.domains) c.regions) (name_at c.domains domain) mtu p → IsLawfulProgress c domain mtu p
message_keeps c domain mtu names regions l progress.Idle h = tt
message_keeps c domain mtu names regions l (progress.Send done receive) h = record {
  pieces = h.done'.test;
  fits = within_low done most_bytes receive.length (and_first _ _ h.receive.length'.test);
  receive = receive_keeps c domain done receive h.receive;
}
message_keeps c domain mtu names regions l (progress.Write region off length' done) h =
    let w = writable c.domains c.regions (name_at c.domains domain) region h.region'.test in
    let lawful : IsLawfulRegion (length c.domains) w.region = subst (λ (r : RegionImage). IsLawfulRegion (length c.domains) r) (sym w.found) (regions region w.region w.at) in
    let less : done < length' = lt_of done length' (and_second (is_whole_pieces mtu done) _ h.done'.test) in
    let inside : nat_le (off + length') (length_at (map (region_of_image c.domains) c.regions) region) ≡ true = or_second (length' == 0) _ (not_zero length' done less) (and_second (nat_le length' most_bytes) _ h.length''.test) in
    record {
      written = w.region;
      there = w.there;
      domain' = same_domain c.domains names.distinct w.region.domain domain lawful.domain l (name_is (name_at c.domains w.region.domain) (name_at c.domains domain) w.name);
      right = w.right;
      inside = subst (λ (n : ℕ). off + length' ≤ n) w.length' (le_of (off + length') _ inside);
      few = le_of length' most_bytes (and_first _ _ h.length''.test);
      pieces = and_first _ _ h.done'.test;
      unfinished = less;
    }

-- ---- terms and kept replies

pub terms_keep : (t : Terms) → TermsRule t → AreTerms t
terms_keep t h = record {
  mtu = h.mtu.test;
  own_start = lt_of t.own_start 16777216 h.own.test;
  peer_start = lt_of t.peer_start 16777216 h.peer.test;
  retry = le_of t.retry 7 h.retry.test;
  rnr = le_of t.rnr 7 h.rnr.test;
  some_reads = within_low 1 16 t.reads h.reads.test;
  few_reads = within_high 1 16 t.reads h.reads.test;
}

-- the last of a list is that of its end
rises_end : (ks : List KeptReply) (k : KeptReply) (n : ℕ) → rises (ks ++ k ∷ []) n ≡ nat_lt k.number n
rises_end [] k n = refl
rises_end (x ∷ []) k n = refl
rises_end (x ∷ (y ∷ ks)) k n = rises_end (y ∷ ks) k n

pub kept_before : (ks : List KeptReply) (expected : ℕ) → Rises KeptReply (KeptRule expected) [] ks → All (λ k. k.number < expected) ks
kept_before ks expected h = as_they_are (λ k. k.number < expected) ks (all_rise KeptReply KeptReply (λ x. x) (KeptRule expected) (λ k. k.number < expected) (λ seen y p. lt_of y.number expected (and_second (rises seen y.number) _ p.number.test)) [] ks h)

-- numbers rise from one that is below the first
kept_above : (expected : ℕ) (seen : List KeptReply) (x : KeptReply) (ks : List KeptReply) (low : KeptReply) → low.number ≤ x.number → Rises KeptReply (KeptRule expected) (seen ++ x ∷ []) ks → All (λ k. low.number < k.number) ks
kept_above expected seen x [] low l h = All-nil (λ k. low.number < k.number)
kept_above expected seen x (y ∷ ks) low l h =
    let step : x.number < y.number = lt_of x.number y.number (sym (rises_end seen x y.number) ∙ and_first _ _ h.0.number.test) in
    All-cons (λ k. low.number < k.number) y ks (omega arith) (kept_above expected (seen ++ x ∷ []) y ks low (omega arith) h.1)

pub kept_rise : (expected : ℕ) (seen ks : List KeptReply) → Rises KeptReply (KeptRule expected) seen ks → AllPairs (λ a b. a.number < b.number) ks
kept_rise expected seen [] h = λ i j d p q. absurd (omega arith)
kept_rise expected seen (x ∷ ks) h = AllPairs-cons (λ a b. a.number < b.number) x ks (kept_above expected seen x ks x (omega arith) h.1) (kept_rise expected (seen ++ x ∷ []) ks h.1)
