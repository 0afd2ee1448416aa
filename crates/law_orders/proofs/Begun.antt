-- Devices of which no two have one id.
use Rattle.std.proofs.Common.{arith, ◌≡◌, ◌≢◌, ℕ, zero, suc, ◌==◌, true, false, if◌then◌else◌, List, [], ◌∷◌, slice_get, Some, refl, ap, sym, ◌∙◌}
use Rattle.std.specs.Prelude.{◌||◌}
use Rattle.std.proofs.lemmas.Bool.Decides.{nat_tests, eqb_tells}
use Rattle.rdma_types.specs.Lists.{at, has}
use Rattle.protocol.specs.State.{Device, no_device}
use Rattle.order_rules.specs.Lines.{opening_of}
use Rattle.order_rules.proofs.Lists.{some_is}
use Rattle.law_orders.proofs.Orders.{AreApart, AreBegun, AreOwn}
use Rattle.law_orders.specs.Fairness.{HaveOwnIds}

not_held : (k : ℕ) (ds : List Device) → ((j : ℕ) (x : Device) → slice_get ds j ≡ Some x → x.id ≢ k) → has (λ x. x.id) k ds ≡ false
unfolding has
not_held k [] none = refl
not_held k (d ∷ ds) none =
    let other : (d.id == k) ≡ false = grind (arith, nat_tests, eqb_tells d.id k, none 0 d refl) in
    ap (λ b. b || has (λ x. x.id) k ds) other ∙ not_held k ds (λ j x at. none (suc j) x at)

later_ids : (d : Device) (ds : List Device) → HaveOwnIds (d ∷ ds) → HaveOwnIds ds
later_ids d ds ids i j a b at_i at_j same = let next : suc i ≡ suc j = ids (suc i) (suc j) a b at_i at_j same in omega (arith, next)

first_other : (d : Device) (ds : List Device) (i : ℕ) (x : Device) → HaveOwnIds (d ∷ ds) → slice_get ds i ≡ Some x → d.id ≢ x.id
first_other d ds i x ids at same = let place : 0 ≡ suc i = ids 0 (suc i) d x refl at same in absurd (omega (arith, place))

are_apart : (ds : List Device) → HaveOwnIds ds → AreApart ds
are_apart [] ids = tt
are_apart (d ∷ ds) ids = (not_held d.id ds (λ j x at same. first_other d ds j x ids at (sym same)), are_apart ds (later_ids d ds ids))

own_test : (d x : Device) → x ≡ d → (x.id == d.id) ≡ true
own_test d x same = let ids : x.id ≡ d.id = ap (λ y. y.id) same in grind (arith, nat_tests, eqb_tells x.id d.id, ids)

found_own : (os : List Device) (i : ℕ) (d : Device) → HaveOwnIds os → slice_get os i ≡ Some d → opening_of os d.id ≡ d
unfolding at
found_own [] i d ids h = cc
found_own (x ∷ os) zero d ids h =
    let same : x ≡ d = some_is h in
    ap (λ b. if b then x else at (λ y. y.id) no_device d.id os) (own_test d x same) ∙ same
found_own (x ∷ os) (suc i) d ids h =
    let other : x.id ≢ d.id = first_other x os i d ids h in
    let test : (x.id == d.id) ≡ false = grind (arith, nat_tests, eqb_tells x.id d.id, other) in
    ap (λ b. if b then x else at (λ y. y.id) no_device d.id os) test ∙ found_own os i d (later_ids x os ids) h

own_each : (os ds : List Device) → ((i : ℕ) (d : Device) → slice_get ds i ≡ Some d → opening_of os d.id ≡ d) → AreOwn os ds
own_each os [] each = tt
own_each os (d ∷ ds) each = (each 0 d refl, own_each os ds (λ i x at. each (suc i) x at))

pub begun : (os : List Device) → HaveOwnIds os → AreBegun os
begun os ids = record { apart = are_apart os ids; own = own_each os os (λ i d at. found_own os i d ids at) }
