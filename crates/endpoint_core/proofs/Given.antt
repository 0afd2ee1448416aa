-- Lists that are given back, beside the regions and the payloads that stay.
use Rattle.std.proofs.Common.{◌≡◌, ◌≢◌, ℕ, zero, suc, ◌+◌, false, List, [], ◌∷◌, ◌++◌, drop, take, refl, ap, sym, ◌∙◌, arith, subst}
use Rattle.std.specs.Prelude.{All, nat_eq}
use Rattle.std.specs.List.{IsDistinct, AllByRecursion}
use Rattle.std.proofs.Math.ListN.{get_or}
use Rattle.std.proofs.lemmas.List.Elements.{All-head, All-tail, All-nil, All-cons, All-drop, All-map, All-weaker}
use Rattle.std.proofs.lemmas.Bool.Decides.{nat_tests}
use Rattle.rdma_types.specs.declared.names.Name.{Name}
use Rattle.page_pool.specs.Pool.{Pool, bytes_of, free_pages, pages_of}
use Rattle.memory_keys.specs.declared.RegisteredRegion.{RegisteredRegion}
use Rattle.memory_keys.specs.Regions.{AreHeld, Lies, region_of, regions_of}
use Rattle.memory_keys.proofs.Stores.{lies-same, region-same}
use Rattle.end_queues.specs.declared.work_queues.posted.QueuedRequest.{QueuedRequest}
use Rattle.end_completions.specs.Payloads.{AreApart, GivesBack, payload_lists, payload_pages}
use Rattle.end_completions.proofs.Given.{AreKept, pages-cons, pages-kept, pages-none}
use Rattle.endpoint_core.specs.Sound.{IsPosted, KeepsLists}

pub append-none : {A : Type 0} (xs : List A) → xs ++ [] ≡ xs
append-none [] = refl
append-none (x ∷ xs) = ap (λ l. x ∷ l) (append-none xs)

-- ---- lists apart

-- the lists of these requests are of no region
abbrev pub AreOutside : List RegisteredRegion → List QueuedRequest → Type 0
AreOutside held ps = All (λ p. All (λ h. h.list ≢ p.payload.list) held) ps

pub outside : (pool : Pool) (held : List RegisteredRegion) (domain : Name) (ps : List QueuedRequest) → All (IsPosted pool held domain) ps → AreOutside held ps
outside pool held domain ps all = λ k d within. (all k d within).payload.apart

pub apart-of : (pool : Pool) (held : List RegisteredRegion) (domain : Name) (ps : List QueuedRequest) → All (IsPosted pool held domain) ps → IsDistinct nat_eq (payload_lists ps) → AreApart pool ps
apart-of pool held domain ps all apart = record { live = λ k d within. (all k d within).payload.holds.lives; apart = apart }

region-kept : (a b : Pool) (ps : List QueuedRequest) (h : RegisteredRegion) → GivesBack a b ps → All (λ p. h.list ≢ p.payload.list) ps → bytes_of b h.list ≡ bytes_of a h.list
region-kept a b ps h gives apart = gives.others h.list (All-map (λ x. x ≢ h.list) (λ p. p.payload.list) ps (λ k d within same. apart k d within (sym same)))

heads : (h : RegisteredRegion) (hs : List RegisteredRegion) (ps : List QueuedRequest) → AreOutside (h ∷ hs) ps → All (λ p. h.list ≢ p.payload.list) ps
heads h hs ps apart = All-weaker (λ p. All (λ x. x.list ≢ p.payload.list) (h ∷ hs)) (λ p. h.list ≢ p.payload.list) (λ p all. All-head (λ x. x.list ≢ p.payload.list) h hs all) ps apart

tails : (h : RegisteredRegion) (hs : List RegisteredRegion) (ps : List QueuedRequest) → AreOutside (h ∷ hs) ps → AreOutside hs ps
tails h hs ps apart = All-weaker (λ p. All (λ x. x.list ≢ p.payload.list) (h ∷ hs)) (λ p. All (λ x. x.list ≢ p.payload.list) hs) (λ p all. All-tail (λ x. x.list ≢ p.payload.list) h hs all) ps apart

pub given-regions : (a b : Pool) (held : List RegisteredRegion) (ps : List QueuedRequest) → GivesBack a b ps → AreOutside held ps → regions_of b held ≡ regions_of a held
given-regions a b [] ps gives apart = refl
given-regions a b (h ∷ hs) ps gives apart =
    let same = region-kept a b ps h gives (heads h hs ps apart) in
    let here : region_of b h ≡ region_of a h = region-same a b h same in
    let rest : regions_of b hs ≡ regions_of a hs = given-regions a b hs ps gives (tails h hs ps apart) in
    ap (λ r. r ∷ regions_of b hs) here ∙ ap (λ l. region_of a h ∷ l) rest

given-lie : (a b : Pool) (held : List RegisteredRegion) (ps : List QueuedRequest) → GivesBack a b ps → AreOutside held ps → All (Lies a) held → All (Lies b) held
given-lie a b [] ps gives apart all = All-nil (Lies b)
given-lie a b (h ∷ hs) ps gives apart all =
    let same = region-kept a b ps h gives (heads h hs ps apart) in
    All-cons (Lies b) h hs (lies-same a b h same (All-head (Lies a) h hs all)) (given-lie a b hs ps gives (tails h hs ps apart) (All-tail (Lies a) h hs all))

pub given-held : (a b : Pool) (held : List RegisteredRegion) (ps : List QueuedRequest) → GivesBack a b ps → AreOutside held ps → AreHeld a held → AreHeld b held
given-held a b held ps gives apart h = record { lie = given-lie a b held ps gives apart h.lie; apart = h.apart }

-- ---- the requests that stay

differ-all : (p : QueuedRequest) (qs : List QueuedRequest) → AllByRecursion (λ y. nat_eq p.payload.list y ≡ false) (payload_lists qs) → All (λ q. p.payload.list ≢ q.payload.list) qs
differ-all p [] apart = All-nil (λ q. p.payload.list ≢ q.payload.list)
differ-all p (q ∷ qs) apart = All-cons (λ q. p.payload.list ≢ q.payload.list) q qs (λ same. grind (arith, nat_tests, apart.0, same)) (differ-all p qs apart.1)

apart-parts : (ps : List QueuedRequest) (n : ℕ) → IsDistinct nat_eq (payload_lists ps) → All (λ q. All (λ x. x ≢ q.payload.list) (payload_lists (take n ps))) (drop n ps)
unfolding IsDistinct
apart-parts ps zero apart = λ k d within. All-nil (λ x. x ≢ (get_or ps k d).payload.list)
apart-parts [] (suc n) apart = All-nil (λ q. All (λ x. x ≢ q.payload.list) [])
apart-parts (p ∷ ps) (suc n) apart =
    let first = All-drop (λ q. p.payload.list ≢ q.payload.list) n ps (differ-all p ps apart.0) in
    let rest = apart-parts ps n apart.1 in
    λ k d within. All-cons (λ x. x ≢ (get_or (drop n ps) k d).payload.list) p.payload.list (payload_lists (take n ps)) (first k d within) (rest k d within)

pub rest-kept : (a b : Pool) (ps : List QueuedRequest) (n : ℕ) → IsDistinct nat_eq (payload_lists ps) → GivesBack a b (take n ps) → AreKept a b (drop n ps)
rest-kept a b ps n apart gives = λ k d within. gives.others _ (apart-parts ps n apart k d within)

pub distinct-rest : (ps : List QueuedRequest) (n : ℕ) → IsDistinct nat_eq (payload_lists ps) → IsDistinct nat_eq (payload_lists (drop n ps))
unfolding IsDistinct
distinct-rest ps zero apart = apart
distinct-rest [] (suc n) apart = apart
distinct-rest (p ∷ ps) (suc n) apart = distinct-rest ps n apart.1

-- ---- the frame

pages-both : (pool : Pool) (done left : List QueuedRequest) → payload_pages pool (done ++ left) ≡ payload_pages pool done + payload_pages pool left
pages-both pool [] left = let none = pages-none pool in omega (arith, none)
pages-both pool (p ∷ ps) left =
    let whole : payload_pages pool ((p ∷ ps) ++ left) ≡ pages_of (bytes_of pool p.payload.list) + payload_pages pool (ps ++ left) = pages-cons pool p (ps ++ left) in
    let rest = pages-both pool ps left in
    let front = pages-cons pool p ps in
    omega (arith, whole, rest, front)

pub all-front : (P : ℕ → Type 0) (done left : List QueuedRequest) → All P (payload_lists (done ++ left)) → All P (payload_lists done)
all-front P [] left all = All-nil P
all-front P (p ∷ ps) left all = All-cons P p.payload.list (payload_lists ps) (All-head P p.payload.list (payload_lists (ps ++ left)) all) (all-front P ps left (All-tail P p.payload.list (payload_lists (ps ++ left)) all))

-- of these requests some are done, and the others stay with their bytes
pub frame-lists : (a b : Pool) (held : List RegisteredRegion) (whole done left : List QueuedRequest) → whole ≡ done ++ left → GivesBack a b done → KeepsLists a b held (payload_lists whole)
frame-lists a b held whole done left is gives = record {
  pages = gives.pages;
  others = λ list lives regions own. gives.others list (all-front (λ x. x ≢ list) done left (subst (λ ps. All (λ x. x ≢ list) (payload_lists ps)) is own));
}

pub frame-free : (a b : Pool) (whole done left : List QueuedRequest) → whole ≡ done ++ left → GivesBack a b done → AreKept a b left → free_pages b + payload_pages b left ≡ free_pages a + payload_pages a whole
frame-free a b whole done left is gives kept =
    let free = gives.free in
    let parts = ap (λ ps. payload_pages a ps) is ∙ pages-both a done left in
    let same = pages-kept a b left kept in
    omega (arith, free, parts, same)
