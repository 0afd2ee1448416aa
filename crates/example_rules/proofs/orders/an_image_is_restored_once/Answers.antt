use Rattle.std.proofs.Common.{arith, ◌≡◌, ◌+◌, List, [], ◌∷◌, ◌++◌, length, ap}
use Rattle.std.proofs.lemmas.List.{length-append}
use Rattle.protocol.specs.declared.images.ContextImage.{ContextImage}
use Rattle.order_rules.specs.Order.{IsTaken}
use Rattle.example_rules.specs.Alone.{image}
use Rattle.example_rules.proofs.orders.an_image_is_restored_once.Goals as goal

-- one image is taken
less : (images left : List ContextImage) (i : ContextImage) → IsTaken images i left → length images ≡ length left + 1
less images left i t =
    let a = length-append t.before (i ∷ t.after) in
    let b = length-append t.before t.after in
    let there : length images ≡ length (t.before ++ i ∷ t.after) = ap length t.there in
    let rest : length left ≡ length (t.before ++ t.after) = ap length t.rest in
    omega (arith, a, b, there, rest)

pub returns : goal.returns
returns c left r =
    let stopped : r.0 ≡ [] = r.1 in
    let one = less _ _ _ r.2.1 in
    let two = less _ _ _ r.2.2.1 in
    let n : length (r.0 ++ image ∷ []) ≡ 1 = ap (λ xs. length (xs ++ image ∷ [])) stopped in
    absurd (omega (arith, one, two, n))
