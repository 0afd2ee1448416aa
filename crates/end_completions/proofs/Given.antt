-- Payloads that are given back, one after another.
use Rattle.std.proofs.Common.{◌≡◌, ℕ, ◌+◌, ◌≢◌, false, List, [], ◌∷◌, refl, ap, sym, ◌∙◌, arith}
use Rattle.std.specs.Prelude.{All, None, is_some, nat_eq}
use Rattle.std.specs.List.{IsDistinct, AllByRecursion}
use Rattle.std.proofs.lemmas.List.Elements.{All-head, All-tail, All-nil, All-cons}
use Rattle.std.proofs.lemmas.Bool.Decides.{nat_tests}
use Rattle.std.proofs.lemmas.List.Sums.{sum_by-cons}
use Rattle.page_pool.specs.Pool.{Pool, Puts, IsIn, bytes_of, free_pages, pages_of}
use Rattle.end_queues.specs.declared.work_queues.posted.QueuedRequest.{QueuedRequest}
use Rattle.end_completions.specs.Payloads.{AreApart, GivesBack, payload_lists, payload_pages}

pub pages-none : (pool : Pool) → payload_pages pool [] ≡ 0
unfolding payload_pages
pages-none pool = refl

pub pages-cons : (pool : Pool) (p : QueuedRequest) (ps : List QueuedRequest) → payload_pages pool (p ∷ ps) ≡ pages_of (bytes_of pool p.payload.list) + payload_pages pool ps
unfolding payload_pages
pages-cons pool p ps = sum_by-cons (λ p. pages_of (bytes_of pool p.payload.list)) p ps

-- these requests' lists have the bytes that they had
abbrev pub AreKept : Pool → Pool → List QueuedRequest → Type 0
AreKept a b ps = All (λ p. bytes_of b p.payload.list ≡ bytes_of a p.payload.list) ps

pub pages-kept : (a b : Pool) (ps : List QueuedRequest) → AreKept a b ps → payload_pages b ps ≡ payload_pages a ps
pages-kept a b [] kept = pages-none b ∙ sym (pages-none a)
pages-kept a b (p ∷ ps) kept =
    let here : bytes_of b p.payload.list ≡ bytes_of a p.payload.list = All-head (λ p. bytes_of b p.payload.list ≡ bytes_of a p.payload.list) p ps kept in
    let rest = pages-kept a b ps (All-tail (λ p. bytes_of b p.payload.list ≡ bytes_of a p.payload.list) p ps kept) in
    pages-cons b p ps ∙ (ap (λ o. pages_of o + payload_pages b ps) here ∙ (ap (λ n. pages_of (bytes_of a p.payload.list) + n) rest ∙ sym (pages-cons a p ps)))

pub live-kept : (a b : Pool) (ps : List QueuedRequest) → AreKept a b ps → All (λ p. IsIn a p.payload.list) ps → All (λ p. IsIn b p.payload.list) ps
live-kept a b ps kept live = λ k d within. ap is_some (kept k d within) ∙ live k d within

-- the list of one request is given back
pub gives-one : (a b : Pool) (p : QueuedRequest) → Puts a b p.payload.list None → free_pages b ≡ free_pages a + pages_of (bytes_of a p.payload.list) → GivesBack a b (p ∷ [])
gives-one a b p puts free = record {
  pages = puts.pages;
  others = λ list apart. puts.others list (λ same. All-head (λ x. x ≢ list) p.payload.list [] apart (sym same));
  free = free ∙ ap (λ n. free_pages a + n) (sym (pages-cons a p [] ∙ (ap (λ n. pages_of (bytes_of a p.payload.list) + n) (pages-none a) ∙ omega arith)));
}

pub gives-none : (a : Pool) → GivesBack a a []
gives-none a = record { pages = refl; others = λ list apart. refl; free = sym (ap (λ n. free_pages a + n) (pages-none a) ∙ omega arith) }

-- the lists behind one are others
pub others-differ : (x : ℕ) (xs : List ℕ) → AllByRecursion (λ y. nat_eq x y ≡ false) xs → All (λ y. x ≢ y) xs
others-differ x [] apart = All-nil (λ y. x ≢ y)
others-differ x (y ∷ ys) apart = All-cons (λ y. x ≢ y) y ys (λ same. grind (arith, nat_tests, apart.0, same)) (others-differ x ys apart.1)

pub rest-kept : (a b : Pool) (p : QueuedRequest) (ps : List QueuedRequest) → GivesBack a b (p ∷ []) → IsDistinct nat_eq (payload_lists (p ∷ ps)) → AreKept a b ps
unfolding IsDistinct
rest-kept a b p ps gives apart = by_rest ps apart.0
  where
    by_rest : (qs : List QueuedRequest) → AllByRecursion (λ y. nat_eq p.payload.list y ≡ false) (payload_lists qs) → AreKept a b qs
    by_rest [] other = All-nil (λ q. bytes_of b q.payload.list ≡ bytes_of a q.payload.list)
    by_rest (q ∷ qs) other =
        let differs : p.payload.list ≢ q.payload.list = λ same. grind (arith, nat_tests, other.0, same) in
        let only : All (λ x. x ≢ q.payload.list) (payload_lists (p ∷ [])) = All-cons (λ x. x ≢ q.payload.list) p.payload.list [] differs (All-nil (λ x. x ≢ q.payload.list)) in
        All-cons (λ q. bytes_of b q.payload.list ≡ bytes_of a q.payload.list) q qs (gives.others q.payload.list only) (by_rest qs other.1)

pub rest-apart : (p : QueuedRequest) (ps : List QueuedRequest) → IsDistinct nat_eq (payload_lists (p ∷ ps)) → IsDistinct nat_eq (payload_lists ps)
unfolding IsDistinct
rest-apart p ps apart = apart.1

pub apart-after : (a b : Pool) (p : QueuedRequest) (ps : List QueuedRequest) → GivesBack a b (p ∷ []) → AreApart a (p ∷ ps) → AreApart b ps
apart-after a b p ps gives apart = record {
  live = live-kept a b ps (rest-kept a b p ps gives apart.apart) (All-tail (λ p. IsIn a p.payload.list) p ps apart.live);
  apart = rest-apart p ps apart.apart;
}

-- one is given back, then others
pub gives-more : (a b c : Pool) (p : QueuedRequest) (ps : List QueuedRequest) → AreKept a b ps → GivesBack a b (p ∷ []) → GivesBack b c ps → GivesBack a c (p ∷ ps)
gives-more a b c p ps same one more =
    let none = pages-none a in
    let single = pages-cons a p [] in
    let all = pages-cons a p ps in
    let kept = pages-kept a b ps same in
    record {
      pages = more.pages ∙ one.pages;
      others = λ list others.
          more.others list (All-tail (λ x. x ≢ list) p.payload.list (payload_lists ps) others)
          ∙ one.others list (All-cons (λ x. x ≢ list) p.payload.list [] (All-head (λ x. x ≢ list) p.payload.list (payload_lists ps) others) (All-nil (λ x. x ≢ list)));
      free = let f = one.free in let g = more.free in omega (arith, f, g, none, single, all, kept);
    }
