-- Accepted additions and numbers of receipts, one receipt or one list after the other.
use Rattle.std.proofs.Common.{arith, ◌≡◌, ℕ, zero, suc, ◌+◌, Bool, true, false, if◌then◌else◌, List, [], ◌∷◌, ◌++◌, map, refl, ap, sym, ◌∙◌}
use Rattle.std.specs.Prelude.{count_by, filter}
use Rattle.protocol.specs.declared.events.Event.{Event}
use Rattle.order_rules.specs.declared.Receipt.{Receipt}
use Rattle.order_rules.specs.Openings.{adds}
use Rattle.thread_plan.specs.Planned.{accepted_in, additions, is_accepted, tally}
use Rattle.thread_plan.specs.Tables.{IsNextMade}

-- ---- numbers of receipts

pub tally_push : (test : Receipt → Bool) (lists : List (List Receipt)) (held : List Receipt) → tally test (lists ++ held ∷ []) ≡ tally test lists + count_by test held
unfolding tally
tally_push test [] held = omega arith
tally_push test (x ∷ lists) held = let more = tally_push test lists held in omega (arith, more)

pub tally_none : (test : Receipt → Bool) → tally test [] ≡ 0
unfolding tally
tally_none test = refl

-- ---- accepted additions

kept : (b : Bool) (x : Receipt) (xs ys : List Receipt) (rest : List Event) → map (λ (r : Receipt). r.event) xs ≡ map (λ (r : Receipt). r.event) ys ++ rest
    → map (λ (r : Receipt). r.event) (if b then x ∷ xs else xs) ≡ map (λ (r : Receipt). r.event) (if b then x ∷ ys else ys) ++ rest
kept true x xs ys rest h = ap (λ l. x.event ∷ l) h
kept false x xs ys rest h = h

accepted-yes : (rs : List Receipt) (r : Receipt) → is_accepted r ≡ true → accepted_in (rs ++ r ∷ []) ≡ accepted_in rs ++ r.event ∷ []
accepted-yes [] r e = ap (λ u. map (λ (x : Receipt). x.event) (if u then r ∷ [] else [])) e
accepted-yes (x ∷ rs) r e = kept (is_accepted x) x (filter is_accepted (rs ++ r ∷ [])) (filter is_accepted rs) (r.event ∷ []) (accepted-yes rs r e)

kept_same : (b : Bool) (x : Receipt) (xs ys : List Receipt) → map (λ (r : Receipt). r.event) xs ≡ map (λ (r : Receipt). r.event) ys
    → map (λ (r : Receipt). r.event) (if b then x ∷ xs else xs) ≡ map (λ (r : Receipt). r.event) (if b then x ∷ ys else ys)
kept_same true x xs ys h = ap (λ l. x.event ∷ l) h
kept_same false x xs ys h = h

accepted-no : (rs : List Receipt) (r : Receipt) → is_accepted r ≡ false → accepted_in (rs ++ r ∷ []) ≡ accepted_in rs
accepted-no [] r e = ap (λ u. map (λ (x : Receipt). x.event) (if u then r ∷ [] else [])) e
accepted-no (x ∷ rs) r e = kept_same (is_accepted x) x (filter is_accepted (rs ++ r ∷ [])) (filter is_accepted rs) (accepted-no rs r e)

additions-suc : (w j n : ℕ) → additions w j (suc n) ≡ additions w j n ++ adds w (j + n) ∷ []
unfolding additions
additions-suc w j zero = let e : j ≡ j + 0 = omega arith in ap (λ k. adds w k ∷ []) e
additions-suc w j (suc n) =
    let e : (j + 1) + n ≡ j + suc n = omega arith in
    ap (λ x. adds w j ∷ x) (additions-suc w (j + 1) n ∙ ap (λ k. additions w (j + 1) n ++ adds w k ∷ []) e)

additions_next : (w made : ℕ) → additions w 1 (made + 1) ≡ additions w 1 made ++ adds w (made + 1) ∷ []
additions_next w made =
    let n : made + 1 ≡ suc made = omega arith in
    let e : 1 + made ≡ made + 1 = omega arith in
    ap (additions w 1) n ∙ (additions-suc w 1 made ∙ ap (λ k. additions w 1 made ++ adds w k ∷ []) e)

-- one receipt more
pub accepted_push : (worker made next : ℕ) (before : List Receipt) (r : Receipt) (b : Bool) → is_accepted r ≡ b → IsNextMade worker made r next → accepted_in before ≡ additions worker 1 made → accepted_in (before ++ r ∷ []) ≡ additions worker 1 next
accepted_push worker made next before r true e step so =
    let one = step.accepted e in
    accepted-yes before r e ∙ (ap (λ x. x ++ r.event ∷ []) so ∙ (ap (λ v. additions worker 1 made ++ v ∷ []) one.0 ∙ (sym (additions_next worker made) ∙ ap (additions worker 1) (sym one.1))))
accepted_push worker made next before r false e step so = accepted-no before r e ∙ (so ∙ ap (additions worker 1) (sym (step.other e)))

pub accepted_none : (worker : ℕ) → accepted_in [] ≡ additions worker 1 0
unfolding additions
accepted_none worker = refl
