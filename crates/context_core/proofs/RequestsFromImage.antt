-- Requests that come of images, and their pages given back.
use Rattle.std.proofs.Common.{◌≡◌, ◌≢◌, ℕ, zero, suc, ◌+◌, ◌<◌, Bool, true, false, List, [], ◌∷◌, ◌++◌, length, take, drop, get_or, refl, ap, sym, ◌∙◌, subst, arith, inl, inr}
use Rattle.std.specs.Prelude.{◌⊎◌, Some, None, is_some, unwrap_or, map, All, Contains, nat_eq, slice_get}
use Rattle.std.specs.List.{AllByRecursion, IsDistinct}
use Rattle.std.proofs.lemmas.Bool.Decides.{nat_tests}
use Rattle.std.proofs.lemmas.List.{map-append, take_more}
use Rattle.std.proofs.lemmas.List.Elements.{All-cons, All-contains, All-from_recursion, All-head, All-map, All-nil, All-push, All-tail, recursion_from_All}
use Rattle.rdma_types.specs.declared.names.Name.{Name}
use Rattle.page_pool.specs.Pool.{Pool, Puts, IsIn, bytes_of, free_pages, pages_of}
use Rattle.page_pool.specs.Held.{HoldsPayload, payload_bytes}
use Rattle.page_pool.specs.declared.Payload.{Payload}
use Rattle.memory_keys.specs.declared.RegisteredRegion.{RegisteredRegion}
use Rattle.memory_keys.specs.Regions.{AreHeld, Lies, regions_of}
use Rattle.end_queues.specs.declared.work_queues.posted.QueuedRequest.{QueuedRequest}
use Rattle.end_queues.specs.Untold.{untold_in}
use Rattle.protocol.specs.declared.images.PostedImage.{PostedImage}
use Rattle.protocol.specs.Images.{posted_of_image}
use Rattle.protocol.specs.Memory.{pages_of_request}
use Rattle.protocol.specs.State.{no_context}
use Rattle.end_completions.specs.Payloads.{AreApart, GivesBack}
use Rattle.end_completions.proofs.Given.{AreKept, apart-after, gives-more, gives-none, gives-one, others-differ, pages-cons, pages-kept, pages-none, rest-kept}
use Rattle.endpoint_core.specs.Sound.{IsPosted, payload_lists}
use Rattle.context_core.specs.Coming.{AreTaken, Come, IsAlike, MayCome}
use Rattle.context_core.specs.Context.{IsPaged}
use Rattle.context_core.proofs.DisjointLists.{AreApart as Apart, distinct-both, distinct-none}
use Rattle.context_core.proofs.ContextPages.{payloads-append}
use Rattle.context_core.proofs.SamePayloads.{AreSame, all-paged, posted-sound, untold-same}

-- a list that lives no longer
abbrev pub IsGone : Pool → QueuedRequest → Type 0
IsGone pool p = bytes_of pool p.payload.list ≡ None

-- ---- given back

-- once what is left of these requests is given back, all of them are
pub record Giving (start pool : Pool) (all left : List QueuedRequest) : Type 0 where
  pub apart : AreApart pool left
  pub ends : (final : Pool) → GivesBack pool final left → All (IsGone final) left → GivesBack start final all × All (IsGone final) all

pub giving-begins : (pool : Pool) (ps : List QueuedRequest) → AreApart pool ps → Giving pool pool ps ps
giving-begins pool ps apart = record { apart = apart; ends = λ final gives gone. (gives, gone) }

giving-one : (start pool next : Pool) (all : List QueuedRequest) (p : QueuedRequest) (rest : List QueuedRequest) → Giving start pool all (p ∷ rest) → Puts pool next p.payload.list None → free_pages next ≡ free_pages pool + pages_of (bytes_of pool p.payload.list) → Giving start next all rest
unfolding IsDistinct
giving-one start pool next all p rest g puts free =
    let one : GivesBack pool next (p ∷ []) = gives-one pool next p puts free in
    let kept : AreKept pool next rest = rest-kept pool next p rest one g.apart.apart in
    let others : All (λ x. p.payload.list ≢ x) (payload_lists rest) = others-differ p.payload.list (payload_lists rest) g.apart.apart.0 in
    record {
      apart = apart-after pool next p rest one g.apart;
      ends = λ final gives gone. g.ends final (gives-more pool next final p rest kept one gives) (All-cons (IsGone final) p rest (gives.others p.payload.list (turned (payload_lists rest) others) ∙ puts.here) gone);
    }
  where
    turned : (xs : List ℕ) → All (λ x. p.payload.list ≢ x) xs → All (λ x. x ≢ p.payload.list) xs
    turned xs h = λ k d l same. h k d l (sym same)

front-is : {A : Type 0} (xs : List A) (x : A) → slice_get xs 0 ≡ Some x → xs ≡ x ∷ drop 1 xs
front-is [] x h = absurd (cc)
front-is (y ∷ ys) x h = let same : y ≡ x = cc in ap (λ z. z ∷ ys) same

front-none : {A : Type 0} (xs : List A) → slice_get xs 0 ≡ None → xs ≡ []
front-none [] h = refl
front-none (y ∷ ys) h = absurd (cc)

pub giving-goes_on : (start pool next : Pool) (all left : List QueuedRequest) (p : QueuedRequest) → slice_get left 0 ≡ Some p → Giving start pool all left → Puts pool next p.payload.list None → free_pages next ≡ free_pages pool + pages_of (bytes_of pool p.payload.list) → Giving start next all (drop 1 left)
giving-goes_on start pool next all left p front g puts free = giving-one start pool next all p (drop 1 left) (subst (Giving start pool all) (front-is left p front) g) puts free

pub giving-lives : (start pool : Pool) (all left : List QueuedRequest) (p : QueuedRequest) → slice_get left 0 ≡ Some p → Giving start pool all left → IsIn pool p.payload.list
giving-lives start pool all left p front g = All-head (λ q. IsIn pool q.payload.list) p (drop 1 left) (subst (All (λ q. IsIn pool q.payload.list)) (front-is left p front) g.apart.live)

pub giving-ends : (start pool : Pool) (all left : List QueuedRequest) → slice_get left 0 ≡ None → Giving start pool all left → GivesBack start pool all × All (IsGone pool) all
giving-ends start pool all left none g =
    let empty = front-none left none in
    g.ends pool (subst (GivesBack pool pool) (sym empty) (gives-none pool)) (subst (All (IsGone pool)) (sym empty) (All-nil (IsGone pool)))

pub in-or-out : (xs : List ℕ) (y : ℕ) → Contains xs y ⊎ All (λ x. x ≢ y) xs
in-or-out [] y = inr (All-nil (λ x. x ≢ y))
in-or-out (x ∷ xs) y = by_test (nat_eq x y) refl (in-or-out xs y)
  where
    by_test : (b : Bool) → nat_eq x y ≡ b → Contains xs y ⊎ All (λ z. z ≢ y) xs → Contains (x ∷ xs) y ⊎ All (λ z. z ≢ y) (x ∷ xs)
    by_test true t rest = inl (zero, omega arith, grind (arith, nat_tests, t))
    by_test false t (inl c) = inl (suc c.0, (let l = c.1 in omega arith), c.2)
    by_test false t (inr all) = inr (All-cons (λ z. z ≢ y) x xs (λ same. grind (arith, nat_tests, t, same)) all)

-- what was taken is given back
pub alike-after : (old mid new : Pool) (ps : List QueuedRequest) → AreTaken old mid ps → GivesBack mid new ps → All (IsGone new) ps → IsAlike old new
alike-after old mid new ps taken gives gone = record {
  pages = gives.pages ∙ taken.pages;
  lists = λ list. by_place list (in-or-out (payload_lists ps) list);
  free = gives.free ∙ taken.free;
}
  where
    by_place : (list : ℕ) → Contains (payload_lists ps) list ⊎ All (λ x. x ≢ list) (payload_lists ps) → bytes_of new list ≡ bytes_of old list
    by_place list (inr all) = gives.others list all ∙ taken.others list all
    by_place list (inl c) =
        All-contains (λ x. bytes_of new x ≡ None) (payload_lists ps) list (All-map (λ x. bytes_of new x ≡ None) (λ p. p.payload.list) ps gone) c
        ∙ sym (All-contains (λ x. bytes_of old x ≡ None) (payload_lists ps) list (All-map (λ x. bytes_of old x ≡ None) (λ p. p.payload.list) ps taken.fresh) c)

-- ---- taken

pub taken-none : (pool : Pool) → AreTaken pool pool []
taken-none pool = record {
  pages = refl;
  others = λ list all. refl;
  fresh = All-nil (IsGone pool);
  live = All-nil (λ p. IsIn pool p.payload.list);
  apart = distinct-none;
  free = ap (λ n. free_pages pool + n) (pages-none pool) ∙ omega arith;
}

pub come-none : (pool : Pool) (held : List RegisteredRegion) (domain : Name) → Come pool pool held domain [] []
come-none pool held domain = record {
  taken = taken-none pool;
  posted = All-nil (IsPosted pool held domain);
  paged = All-nil (IsPaged pool held);
  shown = refl;
}

-- a list that lives is none that does not
pub differs : (pool : Pool) (x y : ℕ) → IsIn pool x → bytes_of pool y ≡ None → x ≢ y
differs pool x y lives none same = absurd (let l : is_some (bytes_of pool x) ≡ true = lives in let n : is_some (bytes_of pool x) ≡ false = ap (λ z. is_some (bytes_of pool z)) same ∙ ap is_some none in cc)

module _ {old mid new : Pool} {ps : List QueuedRequest} {p : QueuedRequest} (first : AreTaken old mid ps) (second : AreTaken mid new (p ∷ [])) where
  fresh-mid : bytes_of mid p.payload.list ≡ None
  fresh-mid = All-head (IsGone mid) p [] second.fresh

  each-differs : (qs : List QueuedRequest) → AllByRecursion (λ q. IsIn mid q.payload.list) qs → AllByRecursion (λ x. x ≢ p.payload.list) (payload_lists qs)
  each-differs [] h = tt
  each-differs (q ∷ qs) h = (differs mid q.payload.list p.payload.list h.0 fresh-mid, each-differs qs h.1)

  all-differ : AllByRecursion (λ x. x ≢ p.payload.list) (payload_lists ps)
  all-differ = each-differs ps (recursion_from_All (λ q. IsIn mid q.payload.list) ps first.live)

  each-same : (qs : List QueuedRequest) → AllByRecursion (λ x. x ≢ p.payload.list) (payload_lists qs) → AreSame mid new qs
  each-same [] h = tt
  each-same (q ∷ qs) h = (second.others q.payload.list (All-cons (λ x. x ≢ q.payload.list) p.payload.list [] (λ same. h.0 (sym same)) (All-nil (λ x. x ≢ q.payload.list))), each-same qs h.1)

  pub same : AreSame mid new ps
  same = each-same ps all-differ

  kept : AreKept mid new ps
  kept = All-from_recursion (λ q. bytes_of new q.payload.list ≡ bytes_of mid q.payload.list) ps same

  each-apart : (xs : List ℕ) → AllByRecursion (λ x. x ≢ p.payload.list) xs → Apart xs (p.payload.list ∷ [])
  each-apart [] h = tt
  each-apart (x ∷ xs) h = ((test x h.0, tt), each-apart xs h.1)
    where
      test : (y : ℕ) → y ≢ p.payload.list → nat_eq y p.payload.list ≡ false
      test y n = grind (arith, nat_tests, n)

  one-distinct : IsDistinct nat_eq (p.payload.list ∷ [])
  unfolding IsDistinct
  one-distinct = (tt, tt)

  lists-more : payload_lists (ps ++ p ∷ []) ≡ payload_lists ps ++ p.payload.list ∷ []
  lists-more = map-append (λ q. q.payload.list) ps (p ∷ [])

  left-part : (list : ℕ) (xs : List ℕ) → All (λ x. x ≢ list) (xs ++ p.payload.list ∷ []) → All (λ x. x ≢ list) xs × (p.payload.list ≢ list)
  left-part list [] h = (All-nil (λ x. x ≢ list), All-head (λ x. x ≢ list) p.payload.list [] h)
  left-part list (x ∷ xs) h =
      let rest = left-part list xs (All-tail (λ y. y ≢ list) x (xs ++ p.payload.list ∷ []) h) in
      (All-cons (λ y. y ≢ list) x xs (All-head (λ y. y ≢ list) x (xs ++ p.payload.list ∷ []) h) rest.0, rest.1)

  fresh-old : bytes_of old p.payload.list ≡ None
  fresh-old = sym (first.others p.payload.list (All-from_recursion (λ x. x ≢ p.payload.list) (payload_lists ps) all-differ)) ∙ fresh-mid

  pub taken-more : AreTaken old new (ps ++ p ∷ [])
  taken-more = record {
    pages = second.pages ∙ first.pages;
    others = λ list h.
        let parts = left-part list (payload_lists ps) (subst (All (λ x. x ≢ list)) lists-more h) in
        second.others list (All-cons (λ x. x ≢ list) p.payload.list [] parts.1 (All-nil (λ x. x ≢ list))) ∙ first.others list parts.0;
    fresh = All-push (IsGone old) ps p first.fresh fresh-old;
    live = All-push (λ q. IsIn new q.payload.list) ps p (λ k d l. ap is_some (kept k d l) ∙ first.live k d l) (All-head (λ q. IsIn new q.payload.list) p [] second.live);
    apart = subst (IsDistinct nat_eq) (sym lists-more) (distinct-both (payload_lists ps) (p.payload.list ∷ []) first.apart one-distinct (each-apart (payload_lists ps) all-differ));
    free =
        let both = payloads-append new ps (p ∷ []) in
        let stays = pages-kept mid new ps kept in
        let a = first.free in
        let b = second.free in
        omega (arith, both, stays, a, b);
  }

come-both : (old mid new : Pool) (held : List RegisteredRegion) (domain : Name) (images : List PostedImage) (image : PostedImage) (ps : List QueuedRequest) (p : QueuedRequest) → Come old mid held domain images ps → Come mid new held domain (image ∷ []) (p ∷ []) → Come old new held domain (images ++ image ∷ []) (ps ++ p ∷ [])
come-both old mid new held domain images image ps p first second =
    let stays : AreSame mid new ps = same first.taken second.taken in
    record {
      taken = taken-more first.taken second.taken;
      posted = All-push (IsPosted new held domain) ps p (All-from_recursion (IsPosted new held domain) ps (posted-sound mid new held domain ps stays (recursion_from_All (IsPosted mid held domain) ps first.posted))) (All-head (IsPosted new held domain) p [] second.posted);
      paged = All-push (IsPaged new held) ps p (All-from_recursion (IsPaged new held) ps (all-paged mid new held ps stays (recursion_from_All (IsPaged mid held) ps first.paged))) (All-head (IsPaged new held) p [] second.paged);
      shown =
          map-append _ ps (p ∷ [])
          ∙ (ap (λ xs. xs ++ untold_in new (p ∷ [])) (untold-same mid new ps stays ∙ first.shown)
          ∙ (ap (λ xs. map posted_of_image images ++ xs) second.shown ∙ sym (map-append posted_of_image images (image ∷ []))));
    }

pub come-more : (old mid new : Pool) (held : List RegisteredRegion) (domain : Name) (images : List PostedImage) (i : ℕ) (image : PostedImage) (ps : List QueuedRequest) (p : QueuedRequest) → i < length images → image ≡ get_or images i image → Come old mid held domain (take i images) ps → Come mid new held domain (image ∷ []) (p ∷ []) → Come old new held domain (take (i + 1) images) (ps ++ p ∷ [])
come-more old mid new held domain images i image ps p lt is first second =
    let more : take (i + 1) images ≡ take i images ++ image ∷ [] = take_more images i image lt ∙ ap (λ x. take i images ++ x ∷ []) (sym is) in
    subst (λ xs. Come old new held domain xs (ps ++ p ∷ [])) (sym more) (come-both old mid new held domain (take i images) image ps p first second)

-- ---- regions stay

lists-differ : (old : Pool) (list : ℕ) (ps : List QueuedRequest) → IsIn old list → AllByRecursion (IsGone old) ps → AllByRecursion (λ x. x ≢ list) (payload_lists ps)
lists-differ old list [] lives h = tt
lists-differ old list (p ∷ ps) lives h = ((λ same. differs old list p.payload.list lives h.0 (sym same)), lists-differ old list ps lives h.1)

-- a list that lived has its bytes
pub kept-list : (old new : Pool) (ps : List QueuedRequest) (list : ℕ) → AreTaken old new ps → IsIn old list → bytes_of new list ≡ bytes_of old list
kept-list old new ps list t lives = t.others list (All-from_recursion (λ x. x ≢ list) (payload_lists ps) (lists-differ old list ps lives (recursion_from_All (IsGone old) ps t.fresh)))

pub held-kept : (old new : Pool) (ps : List QueuedRequest) (hs : List RegisteredRegion) → AreTaken old new ps → AreHeld old hs → AreHeld new hs
held-kept old new ps hs t are = record { lie = All-from_recursion (Lies new) hs (each hs (recursion_from_All (Lies old) hs are.lie)); apart = are.apart }
  where
    each : (xs : List RegisteredRegion) → AllByRecursion (Lies old) xs → AllByRecursion (Lies new) xs
    each [] h = tt
    each (x ∷ xs) h =
        let bytes : bytes_of new x.list ≡ bytes_of old x.list = kept-list old new ps x.list t h.0.lives in
        (record { lives = ap is_some bytes ∙ h.0.lives; size = ap (λ o. length (unwrap_or o [])) bytes ∙ h.0.size }, each xs h.1)

-- ---- one request

region-apart : (old : Pool) (list : ℕ) (hs : List RegisteredRegion) → bytes_of old list ≡ None → AllByRecursion (Lies old) hs → AllByRecursion (λ h. h.list ≢ list) hs
region-apart old list [] none h = tt
region-apart old list (x ∷ xs) none h = (differs old x.list list h.0.lives none, region-apart old list xs none h.1)

pub come-one : (old new : Pool) (held : List RegisteredRegion) (domain : Name) (image : PostedImage) (payload : Payload) → AreHeld old held → MayCome held domain image
    → bytes_of old payload.list ≡ None → Puts old new payload.list (bytes_of new payload.list) → HoldsPayload new payload → payload.length ≡ length image.payload → payload_bytes new payload ≡ image.payload
    → pages_of (bytes_of new payload.list) ≡ pages_of_request (record no_context { regions = regions_of new held }) image.request → free_pages new + pages_of (bytes_of new payload.list) ≡ free_pages old
    → Come old new held domain (image ∷ []) (record { request = image.request; payload = payload } ∷ [])
unfolding IsDistinct
come-one old new held domain image payload are may none puts holds long bytes pages free =
    let p : QueuedRequest = record { request = image.request; payload = payload } in
    let paged : IsPaged new held p = pages in
    record {
      taken = record {
        pages = puts.pages;
        others = λ list h. puts.others list (λ same. All-head (λ x. x ≢ list) payload.list [] h (sym same));
        fresh = All-cons (IsGone old) p [] none (All-nil (IsGone old));
        live = All-cons (λ q. IsIn new q.payload.list) p [] holds.lives (All-nil (λ q. IsIn new q.payload.list));
        apart = (tt, tt);
        free = let one = pages-cons new p [] in let zero' = pages-none new in omega (arith, one, zero', free);
      };
      posted = All-cons (IsPosted new held domain) p [] (record {
        shape = may.shape;
        payload = record {
          holds = holds;
          whole = long ∙ may.whole;
          apart = All-from_recursion (λ h. h.list ≢ payload.list) held (region-apart old payload.list held none (recursion_from_All (Lies old) held are.lie));
        };
        placed = may.placed;
      }) (All-nil (IsPosted new held domain));
      paged = All-cons (IsPaged new held) p [] paged (All-nil (IsPaged new held));
      shown = ap {A = List ℕ} (λ bs. record { request = image.request; payload = bs } ∷ []) bytes;
    }
