-- Regions dropped one after another, from the last on.
use Rattle.std.proofs.Common.{◌≡◌, ℕ, ◌+◌, ◌≢◌, Bool, true, false, List, [], ◌∷◌, ◌++◌, length, refl, ap, sym, ◌∙◌, arith, append_assoc, subst}
use Rattle.std.specs.Prelude.{◌==◌, All, Some, None, slice_get, remove, sum_by}
use Rattle.std.proofs.lemmas.List.{append-nil}
use Rattle.std.proofs.lemmas.List.Sums.{sum_by-cons}
use Rattle.std.proofs.lemmas.List.Elements.{All-head, All-tail, All-nil, All-cons}
use Rattle.std.proofs.lemmas.Bool.Decides.{nat_tests}
use Rattle.page_pool.specs.Pool.{Pool, Puts, bytes_of, free_pages, pages_for, pages_of}
use Rattle.memory_keys.specs.Regions.{AreHeld, KeepsOthers, Lies}
use Rattle.memory_keys.specs.declared.RegisteredRegion.{RegisteredRegion}
use Rattle.memory_keys.proofs.Dropped.{all-at, held-without}
use Rattle.memory_keys.proofs.Spots.{lies-pages}

-- what is left of all regions, and what is gone
pub record IsLeft (old new : Pool) (all left : List RegisteredRegion) : Type 0 where
  pub gone : List RegisteredRegion
  pub split : all ≡ left ++ gone
  pub held : AreHeld new left
  pub none : All (λ h. bytes_of new h.list ≡ None) gone
  pub others : KeepsOthers old new all
  pub free : free_pages new ≡ free_pages old + sum_by (λ h. pages_for h.head.length) gone

pub all-left : (pool : Pool) (all : List RegisteredRegion) → AreHeld pool all → IsLeft pool pool all all
all-left pool all held = record {
  gone = [];
  split = sym (append-nil all);
  held = held;
  none = All-nil (λ h. bytes_of pool h.list ≡ None);
  others = record { pages = refl; others = λ list there apart. refl };
  free = omega arith;
}

-- one in the middle of a list
middle-at : (xs : List RegisteredRegion) (y : RegisteredRegion) (zs : List RegisteredRegion) → slice_get (xs ++ y ∷ zs) (length xs) ≡ Some y
middle-at [] y zs = refl
middle-at (x ∷ xs) y zs = middle-at xs y zs

last-removed : (xs : List RegisteredRegion) (y : RegisteredRegion) → remove (xs ++ y ∷ []) (length xs) ≡ xs
last-removed [] y = refl
last-removed (x ∷ xs) y = ap (λ ys. x ∷ ys) (last-removed xs y)

-- lists that are gone stay so
stay-gone : (a b : Pool) (list : ℕ) (hs : List RegisteredRegion) → Puts a b list None → All (λ h. bytes_of a h.list ≡ None) hs → All (λ h. bytes_of b h.list ≡ None) hs
stay-gone a b list [] p all = All-nil (λ h. bytes_of b h.list ≡ None)
stay-gone a b list (x ∷ xs) p all = All-cons (λ h. bytes_of b h.list ≡ None) x xs (here (x.list == list) refl) (stay-gone a b list xs p (All-tail (λ h. bytes_of a h.list ≡ None) x xs all))
  where
    here : (t : Bool) → (x.list == list) ≡ t → bytes_of b x.list ≡ None
    here true e = let same : x.list ≡ list = grind (arith, nat_tests, e) in ap (bytes_of b) same ∙ p.here
    here false e = let other : x.list ≢ list = λ same. grind (arith, nat_tests, e, same) in p.others x.list other ∙ All-head (λ h. bytes_of a h.list ≡ None) x xs all

-- the last that is left has pages
pub last-lies : (pool : Pool) (rest : List RegisteredRegion) (h : RegisteredRegion) → AreHeld pool (rest ++ h ∷ []) → Lies pool h
last-lies pool rest h held = all-at (Lies pool) (rest ++ h ∷ []) (length rest) h held.lie (middle-at rest h [])

-- it goes as well
pub one-less : (a b c : Pool) (all rest : List RegisteredRegion) (h : RegisteredRegion) → IsLeft a b all (rest ++ h ∷ []) → Puts b c h.list None → free_pages c ≡ free_pages b + pages_of (bytes_of b h.list) → IsLeft a c all rest
one-less a b c all rest h left puts free = record {
  gone = h ∷ left.gone;
  split = split;
  held = subst (AreHeld c) (last-removed rest h) (held-without b c (rest ++ h ∷ []) (length rest) h left.held (middle-at rest h []) puts);
  none = All-cons (λ x. bytes_of c x.list ≡ None) h left.gone puts.here (stay-gone b c h.list left.gone puts left.none);
  others = record {
    pages = puts.pages ∙ left.others.pages;
    others = λ list there apart. puts.others list (λ same. all-at (λ x. x.list ≢ list) all (length rest) h apart (ap (λ hs. slice_get hs (length rest)) split ∙ middle-at rest h left.gone) (sym same)) ∙ left.others.others list there apart;
  };
  free = omega (arith, free, left.free, lies-pages b h (last-lies b rest h left.held), sum_by-cons (λ x. pages_for x.head.length) h left.gone);
}
  where
    split : all ≡ rest ++ h ∷ left.gone
    split = let e : (rest ++ h ∷ []) ++ left.gone ≡ rest ++ h ∷ left.gone = rw append_assoc in left.split ∙ e
