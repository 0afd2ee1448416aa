-- Counting in lists, and in the first ones of those that were sent.
use Rattle.std.proofs.Common.{◌≡◌, ℕ, suc, ◌+◌, List, ◌∷◌, ◌++◌, Bool, cond, take}
use Rattle.std.specs.Prelude.{count_by}
use Rattle.std.proofs.lemmas.List.Sums.{sum_by-append, sum_by-cons}
use Rattle.mailbox_rules.specs.declared.letters.Letter.{Letter}
use Rattle.mailbox_rules.specs.Histories.{fetched_before}
use Rattle.mailbox_rules.specs.Letters.{is_rendezvous}

-- 1, or 0
abbrev pub one_if : Bool → ℕ
one_if b = cond b 1 0

pub count_cons : {X : Type 0} (p : X → Bool) (x : X) (xs : List X) → count_by p (x ∷ xs) ≡ one_if (p x) + count_by p xs
count_cons p x xs = sum_by-cons (λ y. cond (p y) 1 0) x xs

pub count_both : {X : Type 0} (p : X → Bool) (xs ys : List X) → count_by p (xs ++ ys) ≡ count_by p xs + count_by p ys
count_both p xs ys = sum_by-append (λ y. cond (p y) 1 0) xs ys

pub fetched_cons : (n : ℕ) (x : Letter) (xs : List Letter) → fetched_before (suc n) (x ∷ xs) ≡ one_if (is_rendezvous x.body) + fetched_before n xs
fetched_cons n x xs = count_cons (λ l. is_rendezvous l.body) x (take n xs)
