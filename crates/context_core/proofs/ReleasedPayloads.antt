-- Payloads of requests that are given back.
use Rattle.std.proofs.Common.{◌≡◌, ◌≢◌, ℕ, zero, suc, ◌+◌, List, [], ◌∷◌, ◌++◌, refl, ap, sym, ◌∙◌, subst, arith, drop}
use Rattle.std.specs.Prelude.{Some, None, IsSome, ◌<◌, nat_eq, slice_get}
use Rattle.std.specs.List.{AllByRecursion, IsDistinct}
use Rattle.std.proofs.lemmas.List.{append-nil}
use Rattle.std.proofs.lemmas.List.Elements.{All-from_recursion, recursion_from_All}
use Rattle.std.proofs.lemmas.Grind.{flat_map-append}
use Rattle.rdma_types.specs.declared.names.Name.{Name}
use Rattle.page_pool.specs.Pool.{Pool, IsIn, bytes_of, free_pages}
use Rattle.end_queues.specs.declared.work_queues.posted.QueuedRequest.{QueuedRequest}
use Rattle.end_completions.specs.Payloads.{AreApart, GivesBack, payload_lists, payload_pages}
use Rattle.end_completions.proofs.Given.{AreKept, apart-after, gives-more, gives-none, live-kept, pages-kept, rest-kept}
use Rattle.context_core.specs.declared.state.EndSlot.{EndSlot}
use Rattle.context_core.specs.Context.{posted_of, untold_at}
use Rattle.context_core.proofs.DisjointLists.{Lacks, apart-swap, distinct-apart, distinct-back, distinct-front, each-append, each-back, each-front, lacks-all}
use Rattle.context_core.proofs.DisjointLists as lists
use Rattle.context_core.proofs.ContextPages.{payloads-append}
use Rattle.context_core.proofs.SplitEntries.{map-append}

-- some are left of all, and are given back one after another
pub record IsGiving (old now : Pool) (all left : List QueuedRequest) : Type 0 where
  pub apart : AreApart now left
  pub given : (new : Pool) → GivesBack now new left → GivesBack old new all

-- one goes
pub one-given : (old now new : Pool) (all left : List QueuedRequest) (p : QueuedRequest) (rest : List QueuedRequest) → left ≡ p ∷ rest → GivesBack now new (p ∷ []) → IsGiving old now all left → IsGiving old new all rest
one-given old now new all left p rest e gives giving =
    let apart : AreApart now (p ∷ rest) = subst (AreApart now) e giving.apart in
    record {
      apart = apart-after now new p rest gives apart;
      given = λ last more. giving.given last (subst (GivesBack now last) (sym e) (gives-more now new last p rest (rest-kept now new p rest gives apart.apart) gives more));
    }

-- none is left
pub none-left : (old now : Pool) (all left : List QueuedRequest) → left ≡ [] → IsGiving old now all left → GivesBack old now all
none-left old now all left e giving = giving.given now (subst (GivesBack now now) (sym e) (gives-none now))

-- the first of a list, and the others
pub front-of : {A : Type 0} (xs : List A) (x : A) → slice_get xs 0 ≡ Some x → xs ≡ x ∷ drop 1 xs
front-of [] x e = absurd (cc)
front-of (y ∷ ys) x e = let same : y ≡ x = cc in ap (λ z. z ∷ ys) same

pub empty-of : {A : Type 0} (xs : List A) → slice_get xs 0 ≡ None → xs ≡ []
empty-of [] e = refl
empty-of (y ∷ ys) e = absurd (cc)

-- ---- some go at once

lists-append : (xs ys : List QueuedRequest) → payload_lists (xs ++ ys) ≡ payload_lists xs ++ payload_lists ys
lists-append xs ys = map-append (λ p. p.payload.list) xs ys

back-apart : (now : Pool) (xs ys : List QueuedRequest) → AreApart now (xs ++ ys) → AreApart now ys
back-apart now xs ys apart = record {
  live = All-from_recursion (λ p. IsIn now p.payload.list) ys (each-back (λ p. IsIn now p.payload.list) xs ys (recursion_from_All (λ p. IsIn now p.payload.list) (xs ++ ys) apart.live));
  apart = distinct-back (payload_lists xs) (payload_lists ys) (subst (IsDistinct nat_eq) (lists-append xs ys) apart.apart);
}

module _ (now new : Pool) (xs ys : List QueuedRequest) (apart : AreApart now (xs ++ ys)) (gives : GivesBack now new ys) where
  distinct : IsDistinct nat_eq (payload_lists xs ++ payload_lists ys)
  distinct = subst (IsDistinct nat_eq) (lists-append xs ys) apart.apart

  kept : AreKept now new xs
  kept = All-from_recursion (λ p. bytes_of new p.payload.list ≡ bytes_of now p.payload.list) xs (by xs (distinct-apart (payload_lists xs) (payload_lists ys) distinct))
    where
      by : (ps : List QueuedRequest) → lists.AreApart (payload_lists ps) (payload_lists ys) → AllByRecursion (λ p. bytes_of new p.payload.list ≡ bytes_of now p.payload.list) ps
      by [] a = tt
      by (p ∷ ps) a = (gives.others p.payload.list (lacks-all p.payload.list (payload_lists ys) a.0), by ps a.1)

  front-apart : AreApart new xs
  front-apart = record {
    live = live-kept now new xs kept (All-from_recursion (λ p. IsIn now p.payload.list) xs (each-front (λ p. IsIn now p.payload.list) xs ys (recursion_from_All (λ p. IsIn now p.payload.list) (xs ++ ys) apart.live)));
    apart = distinct-front (payload_lists xs) (payload_lists ys) distinct;
  }

  both-given : (last : Pool) → GivesBack new last xs → GivesBack now last (xs ++ ys)
  both-given last more = record {
    pages = more.pages ∙ gives.pages;
    others = λ list differ.
        let each : AllByRecursion (λ x. x ≢ list) (payload_lists xs ++ payload_lists ys) = subst (AllByRecursion (λ x. x ≢ list)) (lists-append xs ys) (recursion_from_All (λ x. x ≢ list) (payload_lists (xs ++ ys)) differ) in
        more.others list (All-from_recursion (λ x. x ≢ list) (payload_lists xs) (each-front (λ x. x ≢ list) (payload_lists xs) (payload_lists ys) each))
        ∙ gives.others list (All-from_recursion (λ x. x ≢ list) (payload_lists ys) (each-back (λ x. x ≢ list) (payload_lists xs) (payload_lists ys) each));
    free = counted (free_pages last) (free_pages new) (free_pages now) (payload_pages new xs) (payload_pages now xs) (payload_pages now ys) _ more.free gives.free (pages-kept now new xs kept) (payloads-append now xs ys);
  }
    where
      counted : (fl fn fo nx ox oy all : ℕ) → fl ≡ fn + nx → fn ≡ fo + oy → nx ≡ ox → all ≡ ox + oy → fl ≡ fo + all
      counted fl fn fo nx ox oy all one two three four = omega arith

-- the requests of the last queue pair
pub posted-last : (es : List (Name × EndSlot)) (e : Name × EndSlot) → posted_of (es ++ e ∷ []) ≡ posted_of es ++ untold_at e
posted-last es e = flat_map-append untold_at es (e ∷ []) ∙ ap (λ ps. posted_of es ++ ps) (append-nil (untold_at e))

-- they can go
pub last-apart : (old now : Pool) (all : List QueuedRequest) (es : List (Name × EndSlot)) (e : Name × EndSlot) (left : List (Name × EndSlot)) → left ≡ es ++ e ∷ [] → IsGiving old now all (posted_of left) → AreApart now (untold_at e)
last-apart old now all es e left split giving = back-apart now (posted_of es) (untold_at e) (subst (AreApart now) (ap posted_of split ∙ posted-last es e) giving.apart)

-- they go
pub last-given : (old now new : Pool) (all : List QueuedRequest) (es : List (Name × EndSlot)) (e : Name × EndSlot) (left : List (Name × EndSlot)) → left ≡ es ++ e ∷ [] → GivesBack now new (untold_at e) → IsGiving old now all (posted_of left) → IsGiving old new all (posted_of es)
last-given old now new all es e left split gives giving =
    let same : posted_of left ≡ posted_of es ++ untold_at e = ap posted_of split ∙ posted-last es e in
    let apart : AreApart now (posted_of es ++ untold_at e) = subst (AreApart now) same giving.apart in
    record {
      apart = front-apart now new (posted_of es) (untold_at e) apart gives;
      given = λ last more. giving.given last (subst (GivesBack now last) (sym same) (both-given now new (posted_of es) (untold_at e) apart gives last more));
    }

-- where nothing comes, nothing is left
pub no-more : (A : Type 0) (n : ℕ) → (0 < n → IsSome {T = A} None) → n ≡ 0
no-more A zero h = refl
no-more A (suc n) h = absurd (let some : IsSome {T = A} None = h (omega arith) in cc)
