-- Queues that are copied one by one.
use Rattle.std.proofs.Common.{◌≡◌, ℕ, zero, suc, ◌+◌, List, [], ◌∷◌, ◌++◌, take, slice_get, Some, ap, subst, sym, ◌∙◌, add-one}
use Rattle.std.specs.Prelude.{Result, OnOk, Ok}
use Rattle.end_queues.specs.Postings.{Queue, posting}

module _ {T : Type 0} where
  taken : (xs : List T) (i : ℕ) (x : T) → slice_get xs i ≡ Some x → take i xs ++ x ∷ [] ≡ take (suc i) xs
  taken [] i x at = cc
  taken (y ∷ ys) zero x at = let same : y ≡ x = cc in ap (λ z. z ∷ []) (sym same)
  taken (y ∷ ys) (suc i) x at = ap (λ l. y ∷ l) (taken ys i x at)

  -- the next item of a queue, put into a copy of the items before it
  pub posted_more : {E : Type 0} (queue copy next : Queue T) (i : ℕ) (x : T) (r : Result (Unit {0}) E) → slice_get queue.items i ≡ Some x → copy ≡ record { depth = queue.depth; items = take i queue.items } → r ≡ Ok tt → OnOk r (next ≡ posting copy x) → next ≡ record { depth = queue.depth; items = take (i + 1) queue.items }
  posted_more queue copy next i x r at before ok post =
      let posted : next ≡ posting copy x = subst (λ o. OnOk o (next ≡ posting copy x)) ok post in
      posted
      ∙ (ap (λ q. posting q x) before
      ∙ ap (λ xs. record { depth = queue.depth; items = xs }) (rw add-one (taken queue.items i x at)))
