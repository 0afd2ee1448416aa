use Rattle.std.proofs.Common.{rules, arith, ◌≡◌, ℕ, zero, suc, ◌+◌, List, [], ◌∷◌, length, take, drop, ap, refl, sym, ◌∙◌}
use Rattle.rdma_types.specs.Memory.{cut}
use Rattle.step_differences.proofs.lists.same_runs.Goals as goal

-- equal so far, and in the next bytes
taken_on : (d n : ℕ) (xs ys : List ℕ) → take d xs ≡ take d ys → take n (drop d xs) ≡ take n (drop d ys) → take (d + n) xs ≡ take (d + n) ys
taken_on zero n xs ys so next = let e : 0 + n ≡ n = omega arith in rw e next
taken_on (suc d) n [] [] so next = refl
taken_on (suc d) n [] (y ∷ ys) so next = absurd cc
taken_on (suc d) n (x ∷ xs) [] so next = absurd cc
taken_on (suc d) n (x ∷ xs) (y ∷ ys) so next =
    let first : x ≡ y = cc in
    let rest : take d xs ≡ take d ys = cc in
    let e : suc d + n ≡ suc (d + n) = omega arith in
    let all : x ∷ take (d + n) xs ≡ y ∷ take (d + n) ys = (λ i. first i ∷ taken_on d n xs ys rest next i) in
    rw e all

pub loop-done-preserved : goal.loop-done-preserved
unfolding cut
loop-done-preserved c =
    let n = length c.piece-piece.result.now in
    let left : c.piece-piece.result.now ≡ take n (drop c.loop-done.done c.args.a.now) = c.piece-piece.ensures.bytes in
    let lengths : length c.piece.result.now ≡ n = omega (arith, c.piece.ensures.length, c.piece-piece.ensures.length, c.loop-done.invariant.0) in
    let right : c.piece.result.now ≡ take n (drop c.loop-done.done c.args.b.now) = c.piece.ensures.bytes ∙ ap (λ k. take k (drop c.loop-done.done c.args.b.now)) lengths in
    let same : c.piece-piece.result.now ≡ c.piece.result.now = search rules in
    (c.loop-done.invariant.0, omega (arith, c.piece-piece.ensures.length), taken_on c.loop-done.done n c.args.a.now c.args.b.now c.loop-done.invariant.2 (sym left ∙ (same ∙ right)))
