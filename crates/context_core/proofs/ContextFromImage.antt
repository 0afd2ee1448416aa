-- A context that has the domains, the queues and the regions of an image; and steps one after another.
use Rattle.std.proofs.Common.{◌≡◌, ◌≢◌, ℕ, zero, suc, ◌+◌, ◌<◌, ◌≤◌, Bool, true, false, List, [], ◌∷◌, length, take, get_or, refl, ap, sym, ◌∙◌, subst, arith, inl, inr}
use Rattle.std.specs.Prelude.{◌⊎◌, ◌||◌, ◌&&◌, not, MatchOption, nat_le, nat_lt, option_map, Option, Some, None, is_some, map, All, AllPairs, Contains, bytes_eq, slice_get, sum_by}
use Rattle.std.specs.List.{AllByRecursion, IsDistinct}
use Rattle.std.specs.Map.{keys_of}
use Rattle.std.proofs.lemmas.Bool.Decides.{nat_tests}
use Rattle.std.proofs.lemmas.List.{append-nil, length-map, take_all}
use Rattle.std.proofs.lemmas.List.Elements.{All-contains, All-from_recursion, All-map, All-nil, recursion_from_All}
use Rattle.std.proofs.lemmas.List.Sums.{sum_by-cons}
use Rattle.rdma_types.specs.declared.names.Name.{Name}
use Rattle.rdma_types.specs.Lists.{some}
use Rattle.rdma_types.specs.Objects.{CompletionQueue, Region}
use Rattle.page_pool.specs.Pool.{Pool, IsIn, bytes_of, pages_for}
use Rattle.memory_keys.specs.declared.RegisteredRegion.{RegisteredRegion}
use Rattle.memory_keys.specs.Regions.{AreKeyed, regions_of}
use Rattle.protocol.specs.declared.images.ContextImage.{ContextImage}
use Rattle.protocol.specs.declared.images.CqImage.{CqImage}
use Rattle.protocol.specs.declared.images.EndImage.{EndImage}
use Rattle.protocol.specs.declared.images.LinkImage.{LinkImage}
use Rattle.protocol.specs.declared.images.RegionImage.{RegionImage}
use Rattle.protocol.specs.Images.{context_of, end_of_image, link_of_image, moved, moved_end, queue_of_image, region_of_image}
use Rattle.protocol.specs.Lawful.{IsLawful}
use Rattle.protocol.specs.Memory.{pages_of_length}
use Rattle.protocol.specs.Refusals.{has_moved_out, links_of}
use Rattle.protocol.specs.State.{End}
use Rattle.endpoint_core.specs.Queues.{nothing, queues_of, reserved_in}
use Rattle.endpoint_core.specs.Sound.{IsEnd}
use Rattle.context_core.specs.declared.state.EndSlot.{EndSlot}
use Rattle.context_core.specs.Coming.{AreMade, IsPart, MayMove, bare_after, queue_after}
use Rattle.context_core.specs.Context.{HasQueues, Holding, IsContext, IsPaged, Moves, context_in, lists_of, no_holding, untold_at}
use Rattle.context_core.proofs.PlacesFromImage.{differ, pairs-unmap}
use Rattle.context_core.proofs.RequestsFromImage.{in-or-out}
use Rattle.context_core.proofs.PageCounts.{ceil-is}
use Rattle.context_core.proofs.EmptyContext.{empty-context}
use Rattle.context_core.proofs.DisjointLists.{distinct-none}
use Rattle.context_core.proofs.ContextPages.{pages-are, region_pages}

-- ---- steps one after another

pub moves-both : (a b d : Pool) (h k m : Holding) → Moves a b h k → Moves b d k m → Moves a d h m
moves-both a b d h k m first second = record {
  pages = second.pages ∙ first.pages;
  others = λ list lives not-own. second.others list (ap is_some (first.others list lives not-own) ∙ lives) (λ there. not-between list lives not-own (first.fresh list there)) ∙ first.others list lives not-own;
  fresh = λ list there. before list (second.fresh list there);
  free = λ n. second.free n ∙ first.free n;
}
  where
    not-between : (list : ℕ) → IsIn a list → (Contains (lists_of h) list → ⊥) → Contains (lists_of h) list ⊎ (bytes_of a list ≡ None) → ⊥
    not-between list lives not-own (inl there) = not-own there
    not-between list lives not-own (inr none) = absurd (let l : is_some (bytes_of a list) ≡ true = lives in cc)

    new-or-old : (list : ℕ) → bytes_of b list ≡ None → (o : Option (List ℕ)) → bytes_of a list ≡ o → Contains (lists_of h) list ⊎ All (λ x. x ≢ list) (lists_of h) → Contains (lists_of h) list ⊎ (bytes_of a list ≡ None)
    new-or-old list none None e place = inr e
    new-or-old list none (Some xs) e (inl there) = inl there
    new-or-old list none (Some xs) e (inr apart) = absurd (
        let lives : IsIn a list = ap is_some e in
        let same = first.others list lives (λ there. All-contains (λ x. x ≢ list) (lists_of h) list apart there refl) in
        cc)

    before : (list : ℕ) → Contains (lists_of k) list ⊎ (bytes_of b list ≡ None) → Contains (lists_of h) list ⊎ (bytes_of a list ≡ None)
    before list (inl there) = first.fresh list there
    before list (inr none) = new-or-old list none (bytes_of a list) refl (in-or-out (lists_of h) list)

-- nothing is moved
pub moves-none : (pool : Pool) (h : Holding) → Moves pool pool h h
moves-none pool h = record { pages = refl; others = λ list lives not-own. refl; fresh = λ list there. inl there; free = λ n. refl }

-- queue pairs are put in the place of equal ones
pub kept-context : (pool : Pool) (h s : Holding) (ends : List (Name × EndSlot)) → h ≡ s → ends ≡ h.ends → IsContext pool s → IsContext pool (record h { ends = ends })
kept-context pool h s ends same put is = subst (λ es. IsContext pool (record h { ends = es })) (sym put) (subst (IsContext pool) (sym same) is)

pub kept-moves : (pool : Pool) (h s : Holding) (ends : List (Name × EndSlot)) → h ≡ s → ends ≡ h.ends → Moves pool pool s (record h { ends = ends })
kept-moves pool h s ends same put = subst (λ es. Moves pool pool s (record h { ends = es })) (sym put) (subst (λ k. Moves pool pool s k) (sym same) (moves-none pool s))

-- ---- the queues

none-reserved : (qs : List CqImage) (place : ℕ) → reserved_in (map queue_after qs) place ≡ 0
none-reserved [] place = refl
none-reserved (q ∷ qs) zero = refl
none-reserved (q ∷ qs) (suc place) = none-reserved qs place

queue-keys : (qs : List CqImage) → keys_of (map queue_after qs) ≡ map (λ q. q.name) qs
queue-keys [] = refl
queue-keys (q ∷ qs) = ap (λ ns. q.name ∷ ns) (queue-keys qs)

queues-shown : (qs : List CqImage) → queues_of (map queue_after qs) ≡ map queue_of_image qs
queues-shown [] = refl
queues-shown (q ∷ qs) = ap (λ xs. queue_of_image q ∷ xs) (queues-shown qs)

rest-pairs : {A : Type 0} (R : A → A → Type 0) (x : A) (xs : List A) → AllPairs R (x ∷ xs) → AllPairs R xs
rest-pairs R x xs h = λ i j d lt below. h (suc i) (suc j) d (omega arith) (omega arith)

distinct-names : (ns : List Name) → AllPairs (λ a b. a ≢ b) ns → IsDistinct bytes_eq ns
unfolding IsDistinct
distinct-names [] h = tt
distinct-names (n ∷ ns) h = (recursion_from_All (λ y. bytes_eq n y ≡ false) ns (λ k d below. differ n (get_or ns k d) (h zero (suc k) d (omega arith) (omega arith))), distinct-names ns (rest-pairs (λ a b. a ≢ b) n ns h))

distinct-empty : IsDistinct bytes_eq []
unfolding IsDistinct
distinct-empty = tt

-- ---- the regions

-- what has no ends yet
abbrev pub with_regions : ContextImage → List RegisteredRegion → Holding
with_regions c hs = record (bare_after c) { regions = hs }

pages-same : (hs : List RegisteredRegion) → region_pages hs ≡ sum_by (λ h. pages_for h.head.length) hs
unfolding pages_for
pages-same [] = refl
pages-same (h ∷ hs) =
    sum_by-cons (λ r. pages_of_length r.head.length) h hs
    ∙ (ap (λ n. n + region_pages hs) (sym (ceil-is h.head.length))
    ∙ (ap (λ n. pages_for h.head.length + n) (pages-same hs)
    ∙ sym (sum_by-cons (λ r. pages_for r.head.length) h hs)))

module _ (old new : Pool) (c : ContextImage) (hs : List RegisteredRegion) (law : IsLawful c) (made : AreMade old new hs) (keyed : AreKeyed hs) where
  pub regions-context : IsContext new (with_regions c hs)
  regions-context = record {
    is = record {
      held = made.held;
      keyed = keyed;
      ends = All-nil (λ e. IsEnd new hs e.1.endpoint);
      placed = All-nil (HasQueues (map queue_after c.queues));
      apart = distinct-none;
      paged = All-nil (λ e. All (IsPaged new hs) (untold_at e));
      reserved = λ place. none-reserved c.queues place;
      queue_names = subst (IsDistinct bytes_eq) (sym (queue-keys c.queues)) (distinct-names (map (λ q. q.name) c.queues) law.queue_names.distinct);
      end_names = distinct-empty;
      few_queues = let few = law.queue_names.few in let a = length-map c.queues (λ q. q.name) in let b = length-map c.queues queue_after in omega (arith, few, a, b);
    };
  }

  fresh-list : (list : ℕ) → Contains (lists_of (with_regions c hs)) list → Contains (lists_of no_holding) list ⊎ (bytes_of old list ≡ None)
  unfolding lists_of
  fresh-list list there = inr (All-contains (λ x. bytes_of old x ≡ None) (map (λ h. h.list) hs) list (All-map (λ x. bytes_of old x ≡ None) (λ h. h.list) hs made.fresh) (subst (λ ls. Contains ls list) (append-nil (map (λ h. h.list) hs)) there))

  pub regions-moves : Moves old new no_holding (with_regions c hs)
  regions-moves = record {
    pages = made.pages;
    others = λ list lives not-own. made.others list lives;
    fresh = fresh-list;
    free = λ n.
        let after = pages-are new (with_regions c hs) nothing n regions-context.is in
        let before = pages-are old no_holding nothing n (empty-context old no_holding refl).is in
        let same = pages-same hs in
        let took = made.free in
        omega (arith, after, before, same, took);
  }

  pub regions-part : regions_of new hs ≡ map (region_of_image c.domains) c.regions → IsPart new c 0 (with_regions c hs)
  unfolding context_in context_of
  regions-part shown = record { domains = refl; regions = shown; queues = queues-shown c.queues; ends = refl }

-- what is of the domains and the queues alone, with regions
pub bare-so : (P : Holding → Type 0) (h s : Holding) (c : ContextImage) (hs : List RegisteredRegion) → h ≡ s → s ≡ bare_after c → P (with_regions c hs) → P (record h { regions = hs })
bare-so P h s c hs same bare p = subst (λ k. P (record k { regions = hs })) (sym (same ∙ bare)) p

pub shown-so : (new : Pool) (c : ContextImage) (hs : List RegisteredRegion) (domains : List Name) (images : List RegionImage) → domains ≡ c.domains → images ≡ c.regions → regions_of new hs ≡ map (region_of_image domains) images → regions_of new hs ≡ map (region_of_image c.domains) c.regions
shown-so new c hs domains images one two e = e ∙ (ap (λ ds. map (region_of_image ds) images) one ∙ ap (map (region_of_image c.domains)) two)

-- ---- the loop

-- what the loop over the ends keeps
pub record Goes (start pool : Pool) (c : ContextImage) (first here : Holding) (i : ℕ) : Type 0 where
  pub is : IsContext pool here
  pub moves : Moves start pool first here
  pub part : IsPart pool c (length here.ends) here
  pub count : length here.ends ≡ i

pub goes-begin : (pool : Pool) (c : ContextImage) (h : Holding) → IsContext pool h → IsPart pool c 0 h → h.ends ≡ [] → Goes pool pool c h h 0
goes-begin pool c h is part empty = record {
  is = is;
  moves = moves-none pool h;
  part = subst (λ n. IsPart pool c n h) (sym (ap length empty)) part;
  count = ap length empty;
}

pub goes-on : (start mid new : Pool) (c : ContextImage) (first here next : Holding) (i : ℕ) → Goes start mid c first here i → IsContext new next → Moves mid new here next → IsPart new c (length next.ends) next → length next.ends ≡ length here.ends + 1 → Goes start new c first next (i + 1)
goes-on start mid new c first here next i g is moves part more = record {
  is = is;
  moves = moves-both start mid new first here next g.moves moves;
  part = part;
  count = more ∙ ap (λ n. n + 1) g.count;
}

pub goes-whole : (start pool : Pool) (c : ContextImage) (first here : Holding) (items : List EndImage) (i : ℕ) → items ≡ c.ends → Goes start pool c first here i → length items ≤ i → i ≤ length items → IsPart pool c (length c.ends) here
goes-whole start pool c first here items i same g le ge =
    let all : length here.ends ≡ length c.ends = g.count ∙ (omega (arith, le, ge) ∙ ap length same) in
    subst (λ n. IsPart pool c n here) all g.part

next-there : {A : Type 0} (xs : List A) (i n : ℕ) (x : A) → i < length xs → x ≡ get_or xs i x → n ≡ i → slice_get xs n ≡ Some x
next-there xs i n x lt is same = ap (slice_get xs) same ∙ there xs i lt is
  where
    there : (ys : List _) (k : ℕ) → k < length ys → x ≡ get_or ys k x → slice_get ys k ≡ Some x
    there [] k l e = absurd (omega arith)
    there (y ∷ ys) zero l e = ap Some (sym e)
    there (y ∷ ys) (suc k) l e = there ys k (omega arith) e

pub item-there : (ends items : List EndImage) (i n : ℕ) (x : EndImage) → items ≡ ends → i < length items → x ≡ get_or items i x → n ≡ i → slice_get ends n ≡ Some x
item-there ends items i n x same lt is count = ap (λ es. slice_get es n) (sym same) ∙ next-there items i n x lt is count

-- ---- the whole

-- once all ends are there, the context is the moved one
pub whole-part : (pool : Pool) (c : ContextImage) (h : Holding) → IsPart pool c (length c.ends) h → context_in pool c.name h ≡ moved (context_of c)
unfolding context_in context_of moved
whole-part pool c h part =
    let count : length (map moved_end (map (end_of_image c) c.ends)) ≡ length c.ends = length-map (map (end_of_image c) c.ends) moved_end ∙ length-map c.ends (end_of_image c) in
    let all : take (length c.ends) (map moved_end (map (end_of_image c) c.ends)) ≡ map moved_end (map (end_of_image c) c.ends) = take_all (length c.ends) (map moved_end (map (end_of_image c) c.ends)) (omega (arith, count)) in
    ap {A = List Name} (λ ds. record (context_in pool c.name h) { domains = ds }) part.domains
    ∙ (ap {A = List Region} (λ rs. record (context_in pool c.name h) { domains = c.domains; regions = rs }) part.regions
    ∙ (ap {A = List CompletionQueue} (λ qs. record (context_in pool c.name h) { domains = c.domains; regions = (context_of c).regions; queues = qs }) part.queues
    ∙ ap {A = List End} (λ es. record (moved (context_of c)) { ends = es }) (part.ends ∙ all)))

-- ends that have not moved as often as may be
pub may-move : (c : ContextImage) (es : List EndImage) → some has_moved_out (map (λ e. e.link) (map (end_of_image c) es)) ≡ false → AllByRecursion (λ e. MayMove e.linked) es
unfolding some end_of_image link_of_image
may-move c [] h = tt
may-move c (e ∷ es) h = (by_link e.linked (left (has_moved_out (option_map (link_of_image c.regions e.untold) e.linked)) _ h), may-move c es (right (has_moved_out (option_map (link_of_image c.regions e.untold) e.linked)) _ h))
  where
    left : (a b : Bool) → (a || b) ≡ false → a ≡ false
    left true b e' = e'
    left false b e' = refl

    right : (a b : Bool) → (a || b) ≡ false → b ≡ false
    right true b e' = absurd (cc)
    right false b e' = e'

    by_link : (o : Option LinkImage) → has_moved_out (option_map (link_of_image c.regions e.untold) o) ≡ false → MayMove o
    by_link None k = tt
    by_link (Some l) k = λ run. let few : nat_le 65535 l.moves ≡ false = sym (ap (λ b. not b && nat_le 65535 l.moves) run) ∙ k in grind (arith, nat_tests, few)

pub image-may : (c : ContextImage) → some has_moved_out (links_of (context_of c)) ≡ false → All (λ e. MayMove e.linked) c.ends
unfolding context_of
image-may c h = All-from_recursion (λ e. MayMove e.linked) c.ends (may-move c c.ends h)

-- the names of the queues
pub queue-pairs : (c : ContextImage) (qs : List CqImage) → qs ≡ c.queues → IsLawful c → AllPairs (λ a b. a.name ≢ b.name) qs
queue-pairs c qs same law = subst (AllPairs (λ a b. a.name ≢ b.name)) (sym same) (pairs-unmap (λ a b. a ≢ b) (λ q. q.name) c.queues law.queue_names.distinct)

-- whether too few pages are free
pub lacks-so : (o : Option ℕ) (n free pages : ℕ) (t : Bool) → n ≡ free → MatchOption o (n < pages) (λ left. left + pages ≡ n) → is_some o ≡ not t → t ≡ nat_lt free pages
lacks-so None n free pages true same h e = let yes : nat_lt free pages ≡ true = grind (arith, nat_tests, h, same) in sym yes
lacks-so None n free pages false same h e = absurd (cc)
lacks-so (Some k) n free pages true same h e = absurd (cc)
lacks-so (Some k) n free pages false same h e = let no : nat_lt free pages ≡ false = grind (arith, nat_tests, h, same) in sym no
