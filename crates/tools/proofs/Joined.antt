-- A line of five words with their numbers, and two words behind them.
use Rattle.std.proofs.Common.{◌≡◌, ℕ, List, [], ◌++◌, ap, refl, ◌∙◌, append_assoc}

pub joined : (t0 t1 t2 t3 t4 t5 t6 t7 w1 d1 w2 d2 w3 d3 w4 d4 w5 d5 w6 w7 : List ℕ) → t0 ≡ [] → t1 ≡ t0 ++ w1 ++ d1 → t2 ≡ t1 ++ w2 ++ d2 → t3 ≡ t2 ++ w3 ++ d3 → t4 ≡ t3 ++ w4 ++ d4 → t5 ≡ t4 ++ w5 ++ d5 → t6 ≡ t5 ++ w6 → t7 ≡ t6 ++ w7 → t7 ≡ w1 ++ d1 ++ w2 ++ d2 ++ w3 ++ d3 ++ w4 ++ d4 ++ w5 ++ d5 ++ w6 ++ w7
joined t0 t1 t2 t3 t4 t5 t6 t7 w1 d1 w2 d2 w3 d3 w4 d4 w5 d5 w6 w7 e0 e1 e2 e3 e4 e5 e6 e7 = (e7 ∙ ap (λ t. t ++ w7) (e6 ∙ ap (λ t. t ++ w6) (e5 ∙ ap (λ t. t ++ w5 ++ d5) (e4 ∙ ap (λ t. t ++ w4 ++ d4) (e3 ∙ ap (λ t. t ++ w3 ++ d3) (e2 ∙ ap (λ t. t ++ w2 ++ d2) (e1 ∙ ap (λ t. t ++ w1 ++ d1) e0))))))) ∙ simp append_assoc refl
