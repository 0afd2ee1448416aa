-- Regions that come of images.
use Rattle.std.proofs.Common.{◌≡◌, ◌≢◌, ℕ, ◌+◌, ◌<◌, true, false, List, [], ◌∷◌, ◌++◌, length, take, get_or, refl, ap, sym, ◌∙◌, subst, arith}
use Rattle.std.specs.Prelude.{◌==◌, Option, Some, None, is_some, map, All, AllPairs, sum_by}
use Rattle.std.specs.List.{AllByRecursion}
use Rattle.std.proofs.lemmas.Bool.Decides.{nat_tests}
use Rattle.std.proofs.lemmas.List.{get_or-take, get_or_default, length-take-le, map-append, take_more}
use Rattle.std.proofs.lemmas.List.Elements.{All-nil, All-push, recursion_from_All}
use Rattle.std.proofs.lemmas.List.Sums.{sum_by_push}
use Rattle.rdma_types.specs.declared.names.Name.{Name}
use Rattle.rdma_types.specs.Lists.{first_that}
use Rattle.rdma_types.specs.Memory.{local_key}
use Rattle.page_pool.specs.Pool.{Pool, IsIn, bytes_of, free_pages, pages_for}
use Rattle.memory_keys.specs.declared.RegisteredRegion.{RegisteredRegion}
use Rattle.memory_keys.specs.declared.RegionHead.{RegionHead}
use Rattle.memory_keys.specs.Regions.{AreHeld, IsAdded, KeepsOthers, Lies, blank_region, held_at, regions_of}
use Rattle.memory_keys.proofs.Protocol.{keys-of}
use Rattle.protocol.specs.declared.images.RegionImage.{RegionImage}
use Rattle.protocol.specs.Images.{region_of_image}
use Rattle.context_core.specs.Coming.{AreMade, head_after}
use Rattle.context_core.proofs.DisjointLists.{distinct-none}

pub made-none : (pool : Pool) (hs : List RegisteredRegion) → hs ≡ [] → AreMade pool pool hs
made-none pool hs e = subst (AreMade pool pool) (sym e) (record {
  pages = refl;
  others = λ list lives. refl;
  fresh = All-nil (λ h. bytes_of pool h.list ≡ None);
  held = record { lie = All-nil (Lies pool); apart = distinct-none };
  free = omega arith;
})

-- a list that lives no longer in between did not live before
not-old : (old mid : Pool) (list : ℕ) → ((l : ℕ) → IsIn old l → bytes_of mid l ≡ bytes_of old l) → bytes_of mid list ≡ None → bytes_of old list ≡ None
not-old old mid list kept none = by_case (bytes_of old list) refl
  where
    by_case : (o : Option (List ℕ)) → bytes_of old list ≡ o → bytes_of old list ≡ None
    by_case None e = e
    by_case (Some xs) e = absurd (let lives : IsIn old list = ap is_some e in let same = kept list lives in cc)

pub made-more : (old mid new : Pool) (hs next : List RegisteredRegion) (head : RegionHead) → AreMade old mid hs → IsAdded mid hs next head → KeepsOthers mid new hs → AreHeld new next → free_pages new + pages_for head.length ≡ free_pages mid → AreMade old new next
made-more old mid new hs next head made added keeps are free = record {
  pages = keeps.pages ∙ made.pages;
  others = λ list lives. keeps.others list (ap is_some (made.others list lives) ∙ lives) (differs list lives hs made.fresh) ∙ made.others list lives;
  fresh = subst (All (λ h. bytes_of old h.list ≡ None)) (sym added.behind) (All-push (λ h. bytes_of old h.list ≡ None) hs added.held made.fresh (not-old old mid added.held.list made.others added.fresh));
  held = are;
  free =
      let more : sum_by (λ h. pages_for h.head.length) next ≡ sum_by (λ h. pages_for h.head.length) hs + pages_for added.held.head.length = ap (sum_by (λ h. pages_for h.head.length)) added.behind ∙ sum_by_push (λ h. pages_for h.head.length) hs added.held in
      let here : pages_for added.held.head.length ≡ pages_for head.length = ap (λ (h : RegionHead). pages_for h.length) added.head_is in
      let before = made.free in
      omega (arith, more, here, before, free);
}
  where
    differs : (list : ℕ) → IsIn old list → (xs : List RegisteredRegion) → All (λ h. bytes_of old h.list ≡ None) xs → All (λ h. h.list ≢ list) xs
    differs list lives xs fresh = λ k d below same. absurd (let none : bytes_of old list ≡ None = ap (bytes_of old) (sym same) ∙ fresh k d below in let l : is_some (bytes_of old list) ≡ true = lives in let n : is_some (bytes_of old list) ≡ false = ap is_some none in cc)

-- ---- keys

image-keys : (domains : List Name) (rs : List RegionImage) → map local_key (map (region_of_image domains) rs) ≡ map (λ r. r.keys.local) rs
image-keys domains [] = refl
image-keys domains (r ∷ rs) = ap (λ ks. r.keys.local ∷ ks) (image-keys domains rs)

first-none : (key : ℕ) (hs : List RegisteredRegion) → AllByRecursion (λ k. (k == key) ≡ false) (map (λ h. h.head.keys.local) hs) → held_at key hs ≡ None
unfolding first_that
first-none key [] h = refl
first-none key (x ∷ xs) h = rw (h.0) (first-none key xs h.1)

keys-differ : (key : ℕ) (rs : List RegionImage) → AllByRecursion (λ r. (r.keys.local == key) ≡ false) rs → AllByRecursion (λ k. (k == key) ≡ false) (map (λ r. r.keys.local) rs)
keys-differ key [] h = tt
keys-differ key (r ∷ rs) h = (h.0, keys-differ key rs h.1)

-- no region before has the key of one
pub key-new : (pool : Pool) (hs : List RegisteredRegion) (domains : List Name) (rs : List RegionImage) (i : ℕ) (r : RegionImage) → regions_of pool hs ≡ map (region_of_image domains) (take i rs) → i < length rs → r ≡ get_or rs i r → AllPairs (λ a b. a.keys.local ≢ b.keys.local) rs → held_at r.keys.local hs ≡ None
key-new pool hs domains rs i r shown lt is pairs =
    let keys : map (λ h. h.head.keys.local) hs ≡ map (λ x. x.keys.local) (take i rs) = sym (keys-of pool hs) ∙ (ap (map local_key) shown ∙ image-keys domains (take i rs)) in
    first-none r.keys.local hs (subst (AllByRecursion (λ k. (k == r.keys.local) ≡ false)) (sym keys) (keys-differ r.keys.local (take i rs) (recursion_from_All (λ x. (x.keys.local == r.keys.local) ≡ false) (take i rs) before)))
  where
    before : All (λ x. (x.keys.local == r.keys.local) ≡ false) (take i rs)
    before k d below =
        let count : length (take i rs) ≡ i = length-take-le i rs (omega arith) in
        let early : k < i = omega arith in
        let same : get_or (take i rs) k d ≡ get_or rs k r = get_or-take i rs k d early ∙ get_or_default rs k d r (omega arith) in
        let apart : (get_or rs k r).keys.local ≢ (get_or rs i r).keys.local = pairs k i r early lt in
        let other : (get_or (take i rs) k d).keys.local ≢ r.keys.local = λ e. apart (ap (λ x. x.keys.local) (sym same) ∙ (e ∙ ap (λ x. x.keys.local) is)) in
        grind (arith, nat_tests, other)

-- one region more
pub region-more : (mid new : Pool) (hs next : List RegisteredRegion) (domains : List Name) (rs : List RegionImage) (i : ℕ) (r : RegionImage) (head : RegionHead) → i < length rs → r ≡ get_or rs i r → head ≡ head_after domains r → regions_of mid hs ≡ map (region_of_image domains) (take i rs)
    → regions_of new next ≡ regions_of mid hs ++ record (blank_region head) { bytes = r.bytes } ∷ [] → regions_of new next ≡ map (region_of_image domains) (take (i + 1) rs)
region-more mid new hs next domains rs i r head lt is e shown put =
    let here : record (blank_region head) { bytes = r.bytes } ≡ region_of_image domains r = ap (λ (x : RegionHead). record (blank_region x) { bytes = r.bytes }) e in
    let more : map (region_of_image domains) (take (i + 1) rs) ≡ map (region_of_image domains) (take i rs) ++ region_of_image domains r ∷ [] = ap (map (region_of_image domains)) (take_more rs i r lt ∙ ap (λ y. take i rs ++ y ∷ []) (sym is)) ∙ map-append (region_of_image domains) (take i rs) (r ∷ []) in
    put ∙ (ap (λ x. regions_of mid hs ++ x ∷ []) here ∙ (ap (λ xs. xs ++ region_of_image domains r ∷ []) shown ∙ sym more))
