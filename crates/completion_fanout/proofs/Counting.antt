-- The completions of receipts, one more.
use Rattle.std.proofs.Common.{◌≡◌, ℕ, ◌+◌, ◌<◌, List, [], ◌∷◌, ◌++◌, length, take, get_or, refl, ap, sym, ◌∙◌, append_assoc}
use Rattle.std.proofs.lemmas.List.{append-nil, take_more}
use Rattle.rdma_types.specs.declared.requests.Completion.{Completion}
use Rattle.order_rules.specs.declared.Receipt.{Receipt}
use Rattle.run_check.specs.Gathered.{drained_by, polled}

drained_push : (rs : List Receipt) (r : Receipt) → drained_by (rs ++ r ∷ []) ≡ drained_by rs ++ polled r.outcome.answer
unfolding drained_by
drained_push [] r = append-nil (polled r.outcome.answer)
drained_push (x ∷ rs) r = ap (λ y. polled x.outcome.answer ++ y) (drained_push rs r) ∙ sym (append_assoc (polled x.outcome.answer) (drained_by rs) (polled r.outcome.answer))

pub told_none : [] ≡ drained_by []
unfolding drained_by
told_none = refl

pub told_more : (rs : List Receipt) (n : ℕ) (r : Receipt) (before all : List Completion) → n < length rs → r ≡ get_or rs n r → before ≡ drained_by (take n rs) → all ≡ before ++ polled r.outcome.answer → all ≡ drained_by (take (n + 1) rs)
told_more rs n r before all h at so more =
    more
    ∙ (ap (λ (cs : List Completion). cs ++ polled r.outcome.answer) so
    ∙ (sym (drained_push (take n rs) r)
    ∙ ap drained_by (ap (λ (x : Receipt). take n rs ++ x ∷ []) at ∙ sym (take_more rs n r h))))
