-- An image that keeps the rules, and whose numbers fit their fields, keeps the rules field by field.
use Rattle.std.proofs.Common.{◌≡◌, ℕ, zero, suc, ◌+◌, ◌-◌, ◌^◌, ◌<◌, ◌≤◌, not, ◌&&◌, Bool, true, false, nat_lt, nat_le, List, [], ◌∷◌, ◌++◌, length, map, take, get_or, refl, ap, sym, subst, ◌∙◌, arith, inl, inr}
use Rattle.std.specs.Prelude.{◌||◌, ◌==◌, ◌≢◌, ◌⊎◌, All, AllPairs, Option, Some, None, is_some, slice_get, bytes_eq, IfSome, if◌then◌else◌}
use Rattle.std.proofs.lemmas.Bool.Decides.{nat_tests}
use Rattle.std.proofs.lemmas.List.{get_or-take, get_or-map, get_or_default, length-map, length-take}
use Rattle.std.proofs.lemmas.Option.{get_or_from_slice_get}
use Rattle.rdma_types.specs.declared.names.Name.{Name}
use Rattle.rdma_types.specs.declared.requests.Completion.{Completion}
use Rattle.rdma_types.specs.declared.requests.Kind.{Kind}
use Rattle.rdma_types.specs.declared.requests.Kind.TheVariants as kind
use Rattle.rdma_types.specs.declared.requests.Receive.{Receive}
use Rattle.rdma_types.specs.declared.requests.Terms.{Terms}
use Rattle.rdma_types.specs.declared.requests.WcKind.{WcKind}
use Rattle.rdma_types.specs.declared.requests.WcKind.TheVariants as wc
use Rattle.rdma_types.specs.declared.requests.WcStatus.{WcStatus}
use Rattle.rdma_types.specs.declared.requests.WcStatus.TheVariants as status
use Rattle.rdma_types.specs.Limits.{AreTerms, is_mtu, most_bytes}
use Rattle.rdma_types.specs.Lists.{has_word, some}
use Rattle.rdma_types.specs.Memory.{RemoteWrite, allows}
use Rattle.rdma_types.specs.Spelled.{is_name}
use Rattle.rdma_types.proofs.Tables.{name_is, same_name}
use Rattle.protocol.specs.declared.images.ContextImage.{ContextImage}
use Rattle.protocol.specs.declared.images.CqImage.{CqImage}
use Rattle.protocol.specs.declared.images.EndImage.{EndImage}
use Rattle.protocol.specs.declared.images.KeptReply.{KeptReply}
use Rattle.protocol.specs.declared.images.Progress.{Progress}
use Rattle.protocol.specs.declared.images.Progress.TheVariants as progress
use Rattle.protocol.specs.declared.images.RegionImage.{RegionImage}
use Rattle.protocol.specs.Images.{context_of, name_at, region_of_image}
use Rattle.protocol.specs.Lawful.{AreNames, IsLawfulRegion, IsLawfulEntry, IsLawfulQueue, IsLawfulReceive, IsLawfulProgress, is_local_key, is_number}
use Rattle.protocol.specs.Refusals.{reserved}
use Rattle.protocol.specs.Dumps.{within, may_write_at, length_at, completed_number, status_number, is_status, kind_number, imm_number, rises}
use Rattle.law_dump_round_trip.specs.Fits.{FitsEntry, FitsReceive, FitsProgress}
use Rattle.law_dump_round_trip.proofs.Exact.{Passes, Rises, Both}
use Rattle.law_dump_round_trip.proofs.Things.{IsNewName, RegionRule, EntryRule, ReceiveRule, TermsRule, KeptRule, KeptListRule, SendRule, WriteRule, MessageRule, some_number}
use Rattle.law_dump_round_trip.proofs.Groups.{QueueRule, EntriesRule}
use Rattle.law_dump_round_trip.proofs.Context.{HaveRoom, ListRule}
use Rattle.law_dump_round_trip.proofs.Keeps.{lt_of, eq_of}
use Rattle.law_dump_round_trip.proofs.Lists.{and_first, word_some, rises_from, both_hold, not_false}

-- ---- tests

pub yes_le : (a b : ℕ) → a ≤ b → nat_le a b ≡ true
yes_le a b h = grind (arith, nat_tests)

pub yes_lt : (a b : ℕ) → a < b → nat_lt a b ≡ true
yes_lt a b h = grind (arith, nat_tests)

pub yes_eq : (a b : ℕ) → a ≡ b → (a == b) ≡ true
yes_eq a b h = grind (arith, nat_tests)

pub yes_within : (low high n : ℕ) → low ≤ n → n ≤ high → within low high n ≡ true
yes_within low high n a b = both_hold _ _ (yes_le low n a) (yes_le n high b)

pub or_left : (a b : Bool) → a ≡ true → (a || b) ≡ true
or_left a b h = rw h refl

pub or_right : (a b : Bool) → b ≡ true → (a || b) ≡ true
or_right true b h = refl
or_right false b h = h

-- ---- names and other things that differ

none_at : {A : Type 0} (t : A → Bool) (xs : List A) → ((j : ℕ) (d : A) → j < length xs → t (get_or xs j d) ≡ false) → some t xs ≡ false
unfolding some
none_at t [] h = refl
none_at t (x ∷ xs) h = rw (h 0 x (omega arith), none_at t xs (λ j d l. h (suc j) d (omega arith))) refl

-- no earlier thing passes a test that two of the list never pass
pub none_before : (A : Type 0) (R : A → A → Type 0) (t : A → A → Bool) → ((x y : A) → R x y → t x y ≡ false) → (xs : List A) → AllPairs R xs → (k : ℕ) (d : A) → k < length xs → some (λ a. t a (get_or xs k d)) (take k xs) ≡ false
none_before A R t f xs h k d l = none_at (λ a. t a (get_or xs k d)) (take k xs) (λ j e m.
    let jk : j < k = omega (arith, length-take k xs) in
    let seen : get_or (take k xs) j e ≡ get_or xs j e = get_or-take k xs j e jk in
    let same : get_or xs j e ≡ get_or xs j d = get_or_default xs j e d (omega arith) in
    ap (λ (a : A). t a (get_or xs k d)) (seen ∙ same) ∙ f (get_or xs j d) (get_or xs k d) (h j k d jk l))

names_apart : (a b : Name) → a ≢ b → (t : Bool) → bytes_eq a b ≡ t → bytes_eq a b ≡ false
names_apart a b h true e = absurd (h (name_is a b e))
names_apart a b h false e = e

apart_names : (A : Type 0) (f : A → Name) (xs : List A) → AllPairs (λ a b. a ≢ b) (map f xs) → AllPairs (λ x y. f x ≢ f y) xs
apart_names A f xs h i j d l m e = h i j (f d) l (omega (arith, length-map xs f)) (get_or-map f xs i d (f d) (omega arith) ∙ (e ∙ sym (get_or-map f xs j d (f d) m)))

-- a name is none of those before it
pub new_name : (A : Type 0) (f : A → Name) (xs : List A) (most : ℕ) → AreNames (map f xs) most → (k : ℕ) (d : A) → k < length xs → IsNewName (map f (take k xs)) (f (get_or xs k d))
new_name A f xs most h k d l =
    let n : Name = f (get_or xs k d) in
    let name : is_name n ≡ true = subst (λ (x : Name). is_name x ≡ true) (get_or-map f xs k d (f d) l) (h.spelled k (f d) (omega (arith, length-map xs f))) in
    let none : has_word n (map f (take k xs)) ≡ false = word_some A f n (take k xs) ∙ none_before A (λ x y. f x ≢ f y) (λ x y. bytes_eq (f x) (f y)) (λ x y p. names_apart (f x) (f y) p (bytes_eq (f x) (f y)) refl) xs (apart_names A f xs h.distinct) k d l in
    both_hold _ _ name (not_false _ none)

eq_is : (a b : ℕ) → (a == b) ≡ true → a ≡ b
eq_is a b h = eq_of a b h

numbers_apart : (a b : ℕ) → a ≢ b → (t : Bool) → (a == b) ≡ t → (a == b) ≡ false
numbers_apart a b h true e = absurd (h (eq_is a b e))
numbers_apart a b h false e = e

-- numbers that differ from those before them
pub new_number : (A : Type 0) (f : A → ℕ) (xs : List A) → AllPairs (λ x y. f x ≢ f y) xs → (k : ℕ) (d : A) → k < length xs → some (λ a. f a == f (get_or xs k d)) (take k xs) ≡ false
new_number A f xs h k d l = none_before A (λ x y. f x ≢ f y) (λ x y. f x == f y) (λ x y p. numbers_apart (f x) (f y) p (f x == f y) refl) xs h k d l

-- ---- regions and queues

-- a list under its limit
pub list_back : (A : Type 0) (limit : ℕ) (P : List A → A → Type 0) (xs : List A) → limit < 65536 → length xs ≤ limit → ((k : ℕ) (d : A) → k < length xs → P (take k xs) (get_or xs k d)) → ListRule A limit P xs
list_back A limit P xs small few h = record {
  first = record { test = yes_le (length xs) limit few; fits = omega arith };
  others = (refl, rises_from A P [] xs h);
}

local_small : (n : ℕ) → is_local_key n ≡ true → n < 2 ^ 32 → n < 256 ^ 4
local_small n h l = omega arith

pub region_back : (domains : ℕ) (seen : List RegionImage) (r : RegionImage) → domains ≤ 64 → IsLawfulRegion domains r → r.keys.local + 1 < 2 ^ 32 → IsNewName (map (λ x. x.name) seen) r.name → some (λ x. x.keys.local == r.keys.local) seen ≡ false → RegionRule domains seen r
region_back domains seen r few h key name local = record {
  name = name;
  domain = record { test = yes_lt r.domain domains h.domain; fits = let l = h.domain in omega arith };
  base = record { test = yes_le r.base (2 ^ 63) h.base; fits = let l = h.base in omega arith };
  length' = record { test = yes_within 1 16777216 r.length h.some_bytes h.few_bytes; fits = let l = h.few_bytes in omega arith };
  rights = record { test = yes_le r.rights.0 15 h.rights; fits = let l = h.rights in omega arith };
  local = record { test = both_hold _ _ h.local (not_false _ local); fits = omega arith };
  remote = record { test = yes_eq r.keys.remote (r.keys.local + 1) h.remote; fits = let e = h.remote in omega arith };
  whole = h.whole;
}

completed_small : (k : WcKind) → completed_number k ≤ 6
completed_small wc.Write = omega arith
completed_small wc.Send = omega arith
completed_small wc.Read = omega arith
completed_small wc.CompareSwap = omega arith
completed_small wc.FetchAdd = omega arith
completed_small wc.Recv = omega arith
completed_small wc.RecvImm = omega arith

status_known : (k : WcStatus) → (is_status (status_number k) ≡ true) × (status_number k < 256)
status_known status.Success = (refl, omega arith)
status_known status.LocalLength = (refl, omega arith)
status_known status.Flush = (refl, omega arith)
status_known status.RemoteInvalid = (refl, omega arith)
status_known status.RemoteAccess = (refl, omega arith)
status_known status.RetryExceeded = (refl, omega arith)
status_known status.RnrExceeded = (refl, omega arith)

flag_small : (o : Option ℕ) → some_number o ≤ 1
flag_small None = omega arith
flag_small (Some n) = omega arith

imm_zero : (o : Option ℕ) → (some_number o == 1 || imm_number o == 0) ≡ true
imm_zero None = refl
imm_zero (Some n) = refl

pub imm_fits : (o : Option ℕ) → IfSome o (λ n. n < 2 ^ 32) → imm_number o < 256 ^ 4
imm_fits None h = omega arith
imm_fits (Some n) h = let l : n < 2 ^ 32 = h in omega arith

entry_back : (seen : List Completion) (w : Completion) → IsLawfulEntry w → w.qp < 16777216 → FitsEntry w → EntryRule seen w
entry_back seen w h qp f = record {
  qp = record { test = h.qp; fits = omega arith };
  id = record { test = refl; fits = let l = f.id in omega arith };
  kind' = record { test = yes_le (completed_number w.kind) 6 (completed_small w.kind); fits = let l = completed_small w.kind in omega arith };
  status' = record { test = (status_known w.status).0; fits = let l = (status_known w.status).1 in omega arith };
  length' = record { test = yes_le w.length most_bytes h.length'; fits = let l = h.length' in omega arith };
  flag = record { test = yes_le (some_number w.imm) 1 (flag_small w.imm); fits = let l = flag_small w.imm in omega arith };
  imm = record { test = imm_zero w.imm; fits = imm_fits w.imm f.imm };
}

pub number_small : (n : ℕ) → is_number n ≡ true → n < 16777216
number_small n h = lt_of n 16777216 (and_first _ _ h)

no_shortage : (a b : ℕ) → b ≤ a → nat_lt a b ≡ false
no_shortage a b h = grind (arith, nat_tests)

pub room_back : (c : ContextImage) (qs : List CqImage) → All (IsLawfulQueue c) qs → HaveRoom c qs
room_back c [] h = tt
room_back c (q ∷ qs) h = (no_shortage q.capacity _ (h 0 q (omega arith)).fits, room_back c qs (λ k d l. h (suc k) d (omega arith)))

pub queue_back : (c : ContextImage) (seen : List CqImage) (q : CqImage) → IsLawfulQueue c q → All FitsEntry q.entries → IsNewName (map (λ x. x.name) seen) q.name → QueueRule seen q
queue_back c seen q h f name = record {
  name = name;
  capacity = record { test = yes_within 1 16384 q.capacity h.some_room h.little_room; fits = let l = h.little_room in omega arith };
  entries = record {
    first = record { test = yes_le (length q.entries) q.capacity (let l = h.fits in omega arith); fits = let l = h.fits in let m = h.little_room in omega arith };
    others = (refl, rises_from Completion EntryRule [] q.entries (λ k d l. entry_back (take k q.entries) (get_or q.entries k d) (h.entries k d l) (number_small (get_or q.entries k d).qp (h.entries k d l).qp) (f k d l)));
  };
}

-- ---- receives and messages

pub receive_back : (c : ContextImage) (domain done : ℕ) (r : Receive) → done ≤ r.length → IsLawfulReceive c domain r → FitsReceive r → ReceiveRule (map (region_of_image c.domains) c.regions) (name_at c.domains domain) done r
unfolding context_of
receive_back c domain done r l h f = record {
  id = record { test = refl; fits = let m = f.id in omega arith };
  lkey = record { test = refl; fits = let m = f.lkey in omega arith };
  local = record { test = refl; fits = let m = f.local in omega arith };
  length' = record { test = both_hold _ _ (yes_within done most_bytes r.length l h.length') h.granted; fits = let m = h.length' in omega arith };
}

get_place : (rs : List RegionImage) (i : ℕ) (r : RegionImage) → slice_get rs i ≡ Some r → i < length rs
get_place [] i r h = cc
get_place (y ∷ rs) zero r h = omega arith
get_place (y ∷ rs) (suc i) r h = let m = get_place rs i r h in omega arith

may_write_back : (ds : List Name) (rs : List RegionImage) (domain : Name) (i : ℕ) (r : RegionImage) → slice_get rs i ≡ Some r → name_at ds r.domain ≡ domain → allows r.rights RemoteWrite ≡ true → (may_write_at (map (region_of_image ds) rs) domain i ≡ true) × (length_at (map (region_of_image ds) rs) i ≡ r.length)
may_write_back ds [] domain i r h e a = cc
may_write_back ds (x ∷ rs) domain zero r h e a =
    let same : x ≡ r = cc in
    let n : bytes_eq (name_at ds x.domain) domain ≡ true = ap (λ (y : RegionImage). bytes_eq (name_at ds y.domain) domain) same ∙ (ap (λ (y : Name). bytes_eq y domain) e ∙ same_name domain) in
    (both_hold _ _ n (ap (λ (y : RegionImage). allows y.rights RemoteWrite) same ∙ a), ap (λ (y : RegionImage). y.length) same)
may_write_back ds (x ∷ rs) domain (suc i) r h e a = may_write_back ds rs domain i r h e a

module _ (c : ContextImage) (domain mtu : ℕ) (few : length c.regions ≤ 256) (lawful : All (IsLawfulRegion (length c.domains)) c.regions) where
  pub message_back : (p : Progress) → IsLawfulProgress c domain mtu p → FitsProgress p → MessageRule (map (region_of_image c.domains) c.regions) (name_at c.domains domain) mtu p
  message_back progress.Idle h f = tt
  message_back (progress.Send done receive) h f = record {
    done' = record { test = h.pieces; fits = let l = h.fits in let m = h.receive.length' in omega arith };
    receive = receive_back c domain done receive h.fits h.receive f;
  }
  message_back (progress.Write region off length' done) h f =
      let w = may_write_back c.domains c.regions (name_at c.domains domain) region h.written h.there (ap (λ (n : ℕ). name_at c.domains n) h.domain') h.right in
      let place = get_place c.regions region h.written h.there in
      let found : get_or c.regions region h.written ≡ h.written = get_or_from_slice_get c.regions region h.written h.written h.there in
      let size : h.written.length ≤ 16777216 = subst (λ (r : RegionImage). r.length ≤ 16777216) found (lawful region h.written place).few_bytes in
      let inside = h.inside in
      let less = h.unfinished in
      let short = h.few in
      record {
        region' = record { test = w.0; fits = omega arith };
        off' = record { test = refl; fits = omega arith };
        length'' = record { test = both_hold _ _ (yes_le length' most_bytes short) (or_right (length' == 0) _ (yes_le (off + length') _ (subst (λ (n : ℕ). off + length' ≤ n) (sym w.1) inside))); fits = omega arith };
        done' = record { test = both_hold _ _ h.pieces (yes_lt done length' less); fits = omega arith };
      }

-- ---- terms and kept replies

mtu_small : (n : ℕ) → is_mtu n ≡ true → n ≤ 4096
mtu_small n h = grind (arith, nat_tests)

pub terms_back : (t : Terms) → AreTerms t → TermsRule t
terms_back t h = record {
  mtu = record { test = h.mtu; fits = let l = mtu_small t.mtu h.mtu in omega arith };
  own = record { test = yes_lt t.own_start 16777216 h.own_start; fits = let l = h.own_start in omega arith };
  peer = record { test = yes_lt t.peer_start 16777216 h.peer_start; fits = let l = h.peer_start in omega arith };
  retry = record { test = yes_le t.retry 7 h.retry; fits = let l = h.retry in omega arith };
  rnr = record { test = yes_le t.rnr 7 h.rnr; fits = let l = h.rnr in omega arith };
  reads = record { test = yes_within 1 16 t.reads h.some_reads h.few_reads; fits = let l = h.few_reads in omega arith };
}

-- the last of the numbers before a place is below the one there
rises_back : (ks : List KeptReply) (n : ℕ) → All (λ k. k.number < n) ks → rises ks n ≡ true
rises_back [] n h = refl
rises_back (k ∷ []) n h = yes_lt k.number n (h 0 k (omega arith))
rises_back (k ∷ (j ∷ ks)) n h = rises_back (j ∷ ks) n (λ i d l. h (suc i) d (omega arith))

pub kept_back : (expected : ℕ) (ks : List KeptReply) → expected < 2 ^ 62 → length ks ≤ 16 → AllPairs (λ a b. a.number < b.number) ks → All (λ k. k.number < expected) ks → All (λ k. k.old < 2 ^ 64) ks → KeptListRule expected ks
kept_back expected ks limit few pairs below fits = record {
  first = record { test = yes_le (length ks) 16 few; fits = omega arith };
  others = (
    refl,
    rises_from KeptReply (KeptRule expected) [] ks (λ k d l.
        let b : (get_or ks k d).number < expected = below k d l in
        let o : (get_or ks k d).old < 2 ^ 64 = fits k d l in
        record {
          number = record {
            test = both_hold _ _ (rises_back (take k ks) (get_or ks k d).number (λ j e m. let jk : j < k = omega (arith, length-take k ks) in subst (λ (x : KeptReply). x.number < (get_or ks k d).number) (sym (get_or-take k ks j e jk ∙ get_or_default ks j e d (omega arith))) (pairs j k d jk l))) (yes_lt (get_or ks k d).number expected b);
            fits = omega arith;
          };
          old = record { test = refl; fits = omega arith };
        }),
  );
}
