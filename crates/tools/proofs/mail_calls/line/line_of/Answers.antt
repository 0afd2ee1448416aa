use Rattle.std.proofs.Common.{rules, ◌≡◌, ℕ, List, [], ◌++◌, ap, refl, ◌∙◌, append_assoc}
use Rattle.std.specs.Prelude.{codes}
use Rattle.std.specs.Fmt.{decimal}
use Rattle.tools.proofs.mail_calls.line.line_of.Goals as goal

joined : (t0 t1 t2 t3 t4 w1 d1 w2 d2 w3 d3 w4 : List ℕ) → t0 ≡ [] → t1 ≡ t0 ++ w1 ++ d1 → t2 ≡ t1 ++ w2 ++ d2 → t3 ≡ t2 ++ w3 ++ d3 → t4 ≡ t3 ++ w4 → t4 ≡ w1 ++ (d1 ++ (w2 ++ (d2 ++ (w3 ++ (d3 ++ w4)))))
joined t0 t1 t2 t3 t4 w1 d1 w2 d2 w3 d3 w4 e0 e1 e2 e3 e4 =
    (e4 ∙ ap (λ t. t ++ w4) (e3 ∙ ap (λ t. t ++ w3 ++ d3) (e2 ∙ ap (λ t. t ++ w2 ++ d2) (e1 ∙ ap (λ t. t ++ w1 ++ d1) e0)))) ∙ simp append_assoc refl

pub returns : goal.returns
returns c =
    joined c.new-text.result.items c.put.new.out.items c.put-2.new.out.items c.put-3.new.out.items c.extend_from_slice.new.self.items (codes "mail letters ") (decimal c.args.sum.now.letters) (codes " moves ") (decimal c.args.plan.now.moves) (codes " taken ") (decimal c.args.sum.now.taken) (codes "\n")
    c.new-text.ensures.items c.in_ok-put.ensures (c.in_ok-put-2.ensures ∙ ap (λ n. c.put.new.out.items ++ codes " moves " ++ decimal n) c.from.ensures) c.in_ok-put-3.ensures (search rules)
