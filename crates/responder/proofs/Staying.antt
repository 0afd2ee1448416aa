-- Soundness where other things change.
use Rattle.std.proofs.Common.{◌≡◌, ℕ, ◌≤◌, Bool, true, false, List, [], ◌∷◌, ◌++◌, drop, refl, ap, sym, ◌∙◌, arith, subst}
use Rattle.std.specs.Prelude.{◌==◌, ◌||◌, All, Option, Some, None, is_some}
use Rattle.std.proofs.lemmas.List.{append_assoc}
use Rattle.std.proofs.lemmas.List.Elements.{All-head, All-tail, All-nil, All-cons, All-drop, All-append}
use Rattle.rdma_types.specs.declared.names.Name.{Name}
use Rattle.rdma_types.specs.declared.requests.Receive.{Receive}
use Rattle.rdma_types.specs.Limits.{most_bytes}
use Rattle.rdma_types.specs.Lists.{first_that}
use Rattle.rdma_types.specs.Memory.{LocalWrite, granted, grants, holds, is_granted, local_key}
use Rattle.rdma_types.specs.Objects.{Region}
use Rattle.page_pool.specs.Pool.{Pool}
use Rattle.memory_keys.specs.declared.RegisteredRegion.{RegisteredRegion}
use Rattle.memory_keys.specs.Regions.{region_of, regions_of}
use Rattle.protocol.specs.EndWords.{in_use_by}
use Rattle.protocol.specs.State.{Progress, NoMessage, InSend, InWrite}
use Rattle.responder.specs.Receiving.{Receiving, idled}
use Rattle.responder.specs.Sound.{IsPlace, IsSound, IsUnderWay}

-- ---- lists

all-right : (P : Receive → Type 0) (xs ys : List Receive) → All P (xs ++ ys) → All P ys
all-right P [] ys all = all
all-right P (x ∷ xs) ys all = all-right P xs ys (All-tail P x (xs ++ ys) all)

all-left : (P : Receive → Type 0) (xs ys : List Receive) → All P (xs ++ ys) → All P xs
all-left P [] ys all = All-nil P
all-left P (x ∷ xs) ys all = All-cons P x xs (All-head P x (xs ++ ys) all) (all-left P xs ys (All-tail P x (xs ++ ys) all))

all-by : (P Q : Receive → Type 0) → ((r : Receive) → P r → Q r) → (xs : List Receive) → All P xs → All Q xs
all-by P Q f [] all = All-nil Q
all-by P Q f (x ∷ xs) all = All-cons Q x xs (f x (All-head P x xs all)) (all-by P Q f xs (All-tail P x xs all))

-- what is found is found with more behind it
found-more : {A : Type 0} (test : A → Bool) (xs ys : List A) (x : A) → first_that test xs ≡ Some x → first_that test (xs ++ ys) ≡ Some x
unfolding first_that
found-more test [] ys x e = absurd (cc)
found-more test (z ∷ zs) ys x e = by_test (test z) refl (found-more test zs ys x)
  where
    by_test : (b : Bool) → test z ≡ b → (first_that test zs ≡ Some x → first_that test (zs ++ ys) ≡ Some x) → first_that test (z ∷ (zs ++ ys)) ≡ Some x
    by_test true t rest = let same : z ≡ x = grind (arith, t, e) in rw t (ap Some same)
    by_test false t rest = rw t (rest (grind (arith, t, e)))

-- ---- places

-- grants look at no bytes
same-grant : (p q : Pool) (domain : Name) (key at count : ℕ) (hs : List RegisteredRegion) → is_some (granted local_key (regions_of p hs) domain key at count LocalWrite) ≡ is_some (granted local_key (regions_of q hs) domain key at count LocalWrite)
unfolding granted first_that grants holds
same-grant p q domain key at count [] = refl
same-grant p q domain key at count (h ∷ hs) = by_test (grants local_key domain key at count LocalWrite (region_of p h)) refl (same-grant p q domain key at count hs)
  where
    by_test : (b : Bool) → grants local_key domain key at count LocalWrite (region_of p h) ≡ b → is_some (granted local_key (regions_of p hs) domain key at count LocalWrite) ≡ is_some (granted local_key (regions_of q hs) domain key at count LocalWrite) → is_some (granted local_key (regions_of p (h ∷ hs)) domain key at count LocalWrite) ≡ is_some (granted local_key (regions_of q (h ∷ hs)) domain key at count LocalWrite)
    by_test true t rest = rw t refl
    by_test false t rest = rw t rest

pub placed : (pool : Pool) (hs : List RegisteredRegion) (domain : Name) (r : Receive) → r.length ≤ most_bytes → is_granted local_key (regions_of pool hs) domain r.lkey r.local r.length LocalWrite ≡ true → IsPlace hs domain r
unfolding is_granted
placed pool hs domain r few g = record { few = few; granted = λ q. ap (λ b. (r.length == 0) || b) (same-grant q pool domain r.lkey r.local r.length hs) ∙ g }

regions-append : (pool : Pool) (hs more : List RegisteredRegion) → regions_of pool (hs ++ more) ≡ regions_of pool hs ++ regions_of pool more
regions-append pool [] more = refl
regions-append pool (h ∷ hs) more = ap (λ rs. region_of pool h ∷ rs) (regions-append pool hs more)

granted-more : (rs more : List Region) (domain : Name) (key at count : ℕ) → is_granted local_key rs domain key at count LocalWrite ≡ true → is_granted local_key (rs ++ more) domain key at count LocalWrite ≡ true
unfolding is_granted granted
granted-more rs more domain key at count g = by_case (count == 0) refl (first_that (grants local_key domain key at count LocalWrite) rs) refl
  where
    by_case : (b : Bool) → (count == 0) ≡ b → (o : Option Region) → first_that (grants local_key domain key at count LocalWrite) rs ≡ o → ((count == 0) || is_some (first_that (grants local_key domain key at count LocalWrite) (rs ++ more))) ≡ true
    by_case true t o e = rw t refl
    by_case false t (Some r) e = rw t (ap is_some (found-more (grants local_key domain key at count LocalWrite) rs more r e))
    by_case false t None e = absurd (let no_region : ((count == 0) || is_some (first_that (grants local_key domain key at count LocalWrite) rs)) ≡ false = rw t (ap is_some e) in cc (no_region, g))

place-more : (hs more : List RegisteredRegion) (domain : Name) (r : Receive) → IsPlace hs domain r → IsPlace (hs ++ more) domain r
place-more hs more domain r p = record {
  few = p.few;
  granted = λ pool. subst (λ rs. is_granted local_key rs domain r.lkey r.local r.length LocalWrite ≡ true) (sym (regions-append pool hs more)) (granted-more (regions_of pool hs) (regions_of pool more) domain r.lkey r.local r.length (p.granted pool));
}

way-more : (hs more : List RegisteredRegion) (domain : Name) (mtu : ℕ) (p : Progress) → IsUnderWay hs domain mtu p → IsUnderWay (hs ++ more) domain mtu p
way-more hs more domain mtu NoMessage m = tt
way-more hs more domain mtu (InSend done r) m = m
way-more hs more domain mtu (InWrite region off count done) m = record {
  written = m.written;
  there = found-more (λ h. h.head.keys.local == region) hs more m.written m.there;
  same_domain = m.same_domain;
  right = m.right;
  inside = m.inside;
  few = m.few;
  pieces = m.pieces;
  unfinished = m.unfinished;
}

-- ---- the steps

pub posted : (hs : List RegisteredRegion) (domain : Name) (v : Receiving) (unused : List Receive) (r : Receive) → IsPlace hs domain r → IsSound hs domain v unused → IsSound hs domain v (unused ++ r ∷ [])
posted hs domain v unused r p s = record {
  receives = subst (All (IsPlace hs domain)) (append_assoc (in_use_by v.receiver.progress) unused (r ∷ [])) (All-append (IsPlace hs domain) (in_use_by v.receiver.progress ++ unused) (r ∷ []) s.receives (All-cons (IsPlace hs domain) r [] p (All-nil (IsPlace hs domain))));
  message = s.message;
}

pub flushed : (hs : List RegisteredRegion) (domain : Name) (v : Receiving) (unused : List Receive) (n : ℕ) → IsSound hs domain v unused → IsSound hs domain v (drop n unused)
flushed hs domain v unused n s = record {
  receives = All-append (IsPlace hs domain) (in_use_by v.receiver.progress) (drop n unused) (all-left (IsPlace hs domain) (in_use_by v.receiver.progress) unused s.receives) (All-drop (IsPlace hs domain) n unused (all-right (IsPlace hs domain) (in_use_by v.receiver.progress) unused s.receives));
  message = s.message;
}

pub cut-short : (hs : List RegisteredRegion) (domain : Name) (v : Receiving) (unused : List Receive) → IsSound hs domain v unused → IsSound hs domain (record v { receiver = idled v.receiver }) unused
cut-short hs domain v unused s = record { receives = all-right (IsPlace hs domain) (in_use_by v.receiver.progress) unused s.receives; message = tt }

pub made : (hs more : List RegisteredRegion) (domain : Name) (v : Receiving) (unused : List Receive) → IsSound hs domain v unused → IsSound (hs ++ more) domain v unused
made hs more domain v unused s = record {
  receives = all-by (IsPlace hs domain) (IsPlace (hs ++ more) domain) (place-more hs more domain) (in_use_by v.receiver.progress ++ unused) s.receives;
  message = way-more hs more domain v.terms.mtu v.receiver.progress s.message;
}
