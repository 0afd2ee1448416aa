-- Pages that are counted down from a number of free ones, and the pages of an image.
use Rattle.std.proofs.Common.{◌≡◌, ◌≢◌, ℕ, zero, suc, ◌+◌, ◌-◌, ◌%◌, ◌<◌, ◌≤◌, Bool, true, false, List, [], ◌∷◌, length, take, drop, get_or, refl, ap, sym, ◌∙◌, arith, subst}
use Rattle.std.specs.Prelude.{◌==◌, Option, Some, None, MatchOption, map, option_map, sum, sum_by, if◌then◌else◌}
use Rattle.std.specs.Int.{div_ceil}
use Rattle.std.specs.List.{AllByRecursion}
use Rattle.std.proofs.lemmas.Bool.Decides.{nat_tests}
use Rattle.std.proofs.lemmas.List.{drop_more}
use Rattle.std.proofs.lemmas.List.Elements.{recursion_from_All}
use Rattle.std.proofs.lemmas.List.Sums.{sum_by-cons, sum_by_more, sum_by_more_le}
use Rattle.rdma_types.specs.declared.names.Name.{Name}
use Rattle.rdma_types.specs.declared.requests.Request.{Request}
use Rattle.rdma_types.specs.Kinds.{takes_bytes}
use Rattle.rdma_types.specs.Lists.{at}
use Rattle.rdma_types.specs.Objects.{Region, no_region}
use Rattle.protocol.specs.declared.images.ContextImage.{ContextImage}
use Rattle.protocol.specs.declared.images.EndImage.{EndImage}
use Rattle.protocol.specs.declared.images.LinkImage.{LinkImage}
use Rattle.protocol.specs.declared.images.PostedImage.{PostedImage}
use Rattle.protocol.specs.declared.images.RegionImage.{RegionImage}
use Rattle.protocol.specs.Images.{context_of, end_of_image, link_of_image, posted_of_image, region_of_image}
use Rattle.protocol.specs.Lawful.{IsLawful, IsLawfulEnd, IsLawfulState}
use Rattle.protocol.specs.Memory.{pages_of_context, pages_of_length, pages_of_range, pages_of_request, region_of_key, untold_of}
use Rattle.protocol.specs.State.{Context}
use Rattle.context_core.proofs.DisjointLists.{each-weaker}

-- ---- counting down

pub less-more : {X : Type 0} (f : X → ℕ) (xs : List X) (i : ℕ) (d : X) (left free : ℕ) → i < length xs → left + sum_by f (take i xs) ≡ free → f (get_or xs i d) ≤ left → (left - f (get_or xs i d)) + sum_by f (take (i + 1) xs) ≡ free
less-more f xs i d left free lt e le = let m = sum_by_more f xs i d lt in omega (arith, m, e, le)

pub less-none : {X : Type 0} (f : X → ℕ) (xs : List X) (i : ℕ) (d : X) (left free : ℕ) → i < length xs → left + sum_by f (take i xs) ≡ free → left < f (get_or xs i d) → free < sum_by f xs
less-none f xs i d left free lt e few = let m = sum_by_more_le f xs i d lt in omega (arith, m, e, few)

-- .. where a call says how many
pub counts-more : {X : Type 0} (f : X → ℕ) (xs : List X) (i : ℕ) (x : X) (left free n next : ℕ) → i < length xs → x ≡ get_or xs i x → left + sum_by f (take i xs) ≡ free → n ≡ f x → n ≤ left → next ≡ left - n → next + sum_by f (take (i + 1) xs) ≡ free
counts-more f xs i x left free n next lt is e count le down =
    let here : n ≡ f (get_or xs i x) = count ∙ ap f is in
    let more = less-more f xs i x left free lt e (subst (λ k. k ≤ left) here le) in
    ap (λ k. k + sum_by f (take (i + 1) xs)) (down ∙ ap (λ k. left - k) here) ∙ more

pub counts-none : {X : Type 0} (f : X → ℕ) (xs : List X) (i : ℕ) (x : X) (left free n : ℕ) → i < length xs → x ≡ get_or xs i x → left + sum_by f (take i xs) ≡ free → n ≡ f x → (n ≤ left → ⊥) → free < sum_by f xs
counts-none f xs i x left free n lt is e count few =
    let here : n ≡ f (get_or xs i x) = count ∙ ap f is in
    let below : left < n = omega arith in
    less-none f xs i x left free lt e (subst (λ k. left < k) here below)

pub sums-more : {X : Type 0} (f : X → ℕ) (xs : List X) (i : ℕ) (x : X) (left free next : ℕ) → i < length xs → x ≡ get_or xs i x → left + sum_by f (take i xs) ≡ free → next + f x ≡ left → next + sum_by f (take (i + 1) xs) ≡ free
sums-more f xs i x left free next lt is e down =
    let m = sum_by_more f xs i x lt in
    let here = ap f is in
    omega (arith, m, here, e, down)

pub sums-none : {X : Type 0} (f : X → ℕ) (xs : List X) (i : ℕ) (x : X) (left free : ℕ) → i < length xs → x ≡ get_or xs i x → left + sum_by f (take i xs) ≡ free → left < f x → free < sum_by f xs
sums-none f xs i x left free lt is e few =
    let m = sum_by_more_le f xs i x lt in
    let here = ap f is in
    omega (arith, m, here, e, few)

-- two counts in a row
pub less-first : (a b t free : ℕ) {a' : ℕ} → t ≡ a + b → a' ≡ a → free < a' → free < t
less-first a b t free e is few = omega arith

pub less-both : (o : Option ℕ) (a b t left free : ℕ) → t ≡ a + b → left + a ≡ free → MatchOption o (left < b) (λ n. n + b ≡ left) → MatchOption o (free < t) (λ n. n + t ≡ free)
less-both None a b t left free e first second = omega arith
less-both (Some n) a b t left free e first second = omega arith

-- ---- the region with a key

drop_past : {X : Type 0} (xs : List X) (i : ℕ) → length xs ≤ i → drop i xs ≡ []
drop_past [] zero le = refl
drop_past [] (suc i) le = refl
drop_past (x ∷ xs) zero le = absurd (omega arith)
drop_past (x ∷ xs) (suc i) le = drop_past xs i (omega arith)

pub at-later : (domains : List Name) (key : ℕ) (rs : List RegionImage) (i : ℕ) (r : RegionImage) → i < length rs → r ≡ get_or rs i r → r.keys.local ≢ key
    → at (λ x. x.keys.local) no_region key (map (region_of_image domains) (drop i rs)) ≡ at (λ x. x.keys.local) no_region key (map (region_of_image domains) (drop (i + 1) rs))
unfolding at
at-later domains key rs i r lt is other =
    let head : drop i rs ≡ r ∷ drop (i + 1) rs = drop_more rs i r lt ∙ ap (λ x. x ∷ drop (i + 1) rs) (sym is) in
    let no : (r.keys.local == key) ≡ false = grind (arith, nat_tests, other) in
    ap (λ xs. at (λ x. x.keys.local) no_region key (map (region_of_image domains) xs)) head
    ∙ ap (λ b. if b then region_of_image domains r else at (λ x. x.keys.local) no_region key (map (region_of_image domains) (drop (i + 1) rs))) no

pub at-found : (domains : List Name) (key : ℕ) (rs : List RegionImage) (i : ℕ) (r : RegionImage) → i < length rs → r ≡ get_or rs i r → r.keys.local ≡ key
    → at (λ x. x.keys.local) no_region key (map (region_of_image domains) (drop i rs)) ≡ region_of_image domains r
unfolding at
at-found domains key rs i r lt is same =
    let head : drop i rs ≡ r ∷ drop (i + 1) rs = drop_more rs i r lt ∙ ap (λ x. x ∷ drop (i + 1) rs) (sym is) in
    let yes : (r.keys.local == key) ≡ true = grind (arith, nat_tests, same) in
    ap (λ xs. at (λ x. x.keys.local) no_region key (map (region_of_image domains) xs)) head
    ∙ ap (λ b. if b then region_of_image domains r else at (λ x. x.keys.local) no_region key (map (region_of_image domains) (drop (i + 1) rs))) yes

pub at-end : (domains : List Name) (key : ℕ) (rs : List RegionImage) (i : ℕ) → length rs ≤ i → at (λ x. x.keys.local) no_region key (map (region_of_image domains) (drop i rs)) ≡ no_region
unfolding at
at-end domains key rs i le = ap (λ xs. at (λ x. x.keys.local) no_region key (map (region_of_image domains) xs)) (drop_past rs i le)

-- ---- pages

pub ceil-is : (n : ℕ) → div_ceil n 4096 ≡ pages_of_length n
unfolding pages_of_length
ceil-is n = omega arith

pub range-is : (off n : ℕ) → n ≢ 0 → div_ceil (off % 4096 + n) 4096 ≡ pages_of_range off n
range-is off n some = let no : (n == 0) ≡ false = grind (arith, nat_tests) in rw no (omega arith)

pub takes-range : (c : Context) (rs : List Region) (r : Request) (base : ℕ) → c.regions ≡ rs → base ≡ (at (λ x. x.keys.local) no_region r.lkey rs).base → takes_bytes r.shape.kind ≡ true → pages_of_request c r ≡ pages_of_range (r.local - base) r.shape.length
unfolding pages_of_request region_of_key
takes-range c rs r base e b t =
    ap (λ k. if k then pages_of_range (r.local - (at (λ x. x.keys.local) no_region r.lkey c.regions).base) r.shape.length else 0) t
    ∙ (ap (λ xs. pages_of_range (r.local - (at (λ x. x.keys.local) no_region r.lkey xs).base) r.shape.length) e
    ∙ ap (λ n. pages_of_range (r.local - n) r.shape.length) (sym b))

pub takes-none : (c : Context) (r : Request) → takes_bytes r.shape.kind ≡ false → pages_of_request c r ≡ 0
unfolding pages_of_request
takes-none c r t = ap (λ k. if k then pages_of_range (r.local - (region_of_key c r.lkey).base) r.shape.length else 0) t

pub takes-empty : (c : Context) (r : Request) → r.shape.length ≡ 0 → pages_of_request c r ≡ 0
unfolding pages_of_request
takes-empty c r e = by_kind (takes_bytes r.shape.kind)
  where
    by_kind : (b : Bool) → (if b then pages_of_range (r.local - (region_of_key c r.lkey).base) r.shape.length else 0) ≡ 0
    by_kind true = ap (λ n. pages_of_range (r.local - (region_of_key c r.lkey).base) n) e
    by_kind false = refl

-- ---- an image

sum-mapped : {A B : Type 0} (f : B → ℕ) (g : A → B) (h : A → ℕ) (xs : List A) → AllByRecursion (λ x. f (g x) ≡ h x) xs → sum (map f (map g xs)) ≡ sum_by h xs
sum-mapped f g h [] same = refl
sum-mapped f g h (x ∷ xs) same =
    sum_by-cons (λ y. y) (f (g x)) (map f (map g xs))
    ∙ (ap (λ n. n + sum (map f (map g xs))) same.0
    ∙ (ap (λ n. h x + n) (sum-mapped f g h xs same.1)
    ∙ sym (sum_by-cons h x xs)))

each-so : {A : Type 0} (P : A → Type 0) → ((x : A) → P x) → (xs : List A) → AllByRecursion P xs
each-so P f [] = tt
each-so P f (x ∷ xs) = (f x, each-so P f xs)

-- the requests of an end take what those of its image take
end-takes : (i : ContextImage) (c : Context) (e : EndImage) → IsLawfulState i e e.linked → sum (map (λ p. pages_of_request c p.request) (untold_of (end_of_image i e).link)) ≡ sum_by (λ p. pages_of_request c p.request) e.untold
unfolding end_of_image link_of_image
end-takes i c e law = by_link e.linked law
  where
    by_link : (o : Option LinkImage) → IsLawfulState i e o → sum (map (λ p. pages_of_request c p.request) (untold_of (option_map (link_of_image i.regions e.untold) o))) ≡ sum_by (λ p. pages_of_request c p.request) e.untold
    by_link None h = ap (λ ps. sum_by (λ p. pages_of_request c p.request) ps) (sym h)
    by_link (Some l) h = sum-mapped (λ p. pages_of_request c p.request) posted_of_image (λ p. pages_of_request c p.request) e.untold (each-so (λ (p : PostedImage). pages_of_request c p.request ≡ pages_of_request c p.request) (λ p. refl) e.untold)

pub image-pages : (i : ContextImage) → IsLawful i → pages_of_context (context_of i) ≡ sum_by (λ r. pages_of_length r.length) i.regions + sum_by (λ e. sum_by (λ p. pages_of_request (context_of i) p.request) e.untold) i.ends
unfolding pages_of_context context_of
image-pages i law =
    let c = context_of i in
    let regions = sum-mapped (λ r. pages_of_length r.length) (region_of_image i.domains) (λ r. pages_of_length r.length) i.regions (each-so (λ (r : RegionImage). pages_of_length r.length ≡ pages_of_length r.length) (λ r. refl) i.regions) in
    let ends = sum-mapped (λ e. sum (map (λ p. pages_of_request c p.request) (untold_of e.link))) (end_of_image i) (λ e. sum_by (λ p. pages_of_request c p.request) e.untold) i.ends
    (each-weaker (IsLawfulEnd i) (λ e. sum (map (λ p. pages_of_request c p.request) (untold_of (end_of_image i e).link)) ≡ sum_by (λ p. pages_of_request c p.request) e.untold) (λ e h. end-takes i c e h.state) i.ends (recursion_from_All (IsLawfulEnd i) i.ends law.ends)) in
    ap (λ n. n + sum (map (λ e. sum (map (λ p. pages_of_request c p.request) (untold_of e.link))) (map (end_of_image i) i.ends))) regions ∙ ap (λ n. sum_by (λ r. pages_of_length r.length) i.regions + n) ends

pub image-regions : (i : ContextImage) → (context_of i).regions ≡ map (region_of_image i.domains) i.regions
unfolding context_of
image-regions i = refl
