-- Which node does what in an order, and what is so along all that each of them does.
use Rattle.std.proofs.Common.{arith, ◌≡◌, ◌∙◌, ℕ, ◌==◌, Bool, true, false, List, [], ◌∷◌, ◌++◌, All, Option, None, Some, refl, sym, ap, subst, if◌then◌else◌}
use Rattle.std.specs.Prelude.{◌||◌}
use Rattle.std.proofs.lemmas.Bool.Decides.{nat_tests, eqb_tells}
use Rattle.std.proofs.lemmas.List.Elements.{All-head, All-tail}
use Rattle.protocol.specs.declared.events.Event.{Event}
use Rattle.protocol.specs.State.{Device}
use Rattle.rdma_types.specs.Lists.{has}
use Rattle.law_orders.proofs.Devices.{step_itself}
use Rattle.law_nodes.specs.Acts.{Act, Along, Standing, after_act, after_acts, after_if, beginning, event_in}
use Rattle.law_nodes.specs.Composed.{Deed, IsOfNode, IsWholeIn, NodeRun, acts_on, device_of, moved_on, node_at, openings_of, standing_of, standings_of}

pub number_is : (a b : ℕ) → (a == b) ≡ true → a ≡ b
number_is a b h = grind (arith, nat_tests, eqb_tells a b, h)

abbrev pub IsKnown : List Device → Deed → Type 0
IsKnown os x = has (λ d. d.id) x.node os ≡ true

-- ---- ids

-- the id of a device stays
id_kept : (s : Standing) (o : Option Event) → (after_if s o).device.id ≡ s.device.id
id_kept s None = refl
id_kept s (Some e) = (step_itself s.device e).id

ids_kept : (s : Standing) (more : List Act) → (after_acts s more).device.id ≡ s.device.id
ids_kept s [] = refl
ids_kept s (a ∷ more) = ids_kept (after_act s a) more ∙ id_kept s (event_in a)

pub id_of : (n : NodeRun) → (device_of n).id ≡ n.id
id_of n = ids_kept (beginning n.id n.own) n.prepared

-- ---- a node that is not there

-- .. does nothing
absent_by : (os : List Device) (x : Deed) (more : List Act) (id : ℕ) (b : Bool) → (x.node == id) ≡ b → IsKnown os x → has (λ d. d.id) id os ≡ false → more ≡ [] → (if b then x.act ∷ more else more) ≡ []
absent_by os x more id true is known none h = absurd (cc (ap (λ k. has (λ d. d.id) k os) (number_is x.node id is)))
absent_by os x more id false is known none h = h

absent : (os : List Device) (order : List Deed) (id : ℕ) → All (IsKnown os) order → has (λ d. d.id) id os ≡ false → acts_on id order ≡ []
unfolding acts_on
absent os [] id known none = refl
absent os (x ∷ xs) id known none =
    absent_by os x (acts_on id xs) id (x.node == id) refl (All-head (IsKnown os) x xs known) none (absent os xs id (All-tail (IsKnown os) x xs known) none)

-- ---- along what a node does

module _ (Is : Standing → Act → Type 0) where
  -- .. once it is prepared
  pub along_after : (s : Standing) (first more : List Act) → Along Is s (first ++ more) → Along Is (after_acts s first) more
  along_after s [] more is = is
  along_after s (a ∷ first) more is = along_after (after_act s a) first more is.1

  -- along the rest of an order
  abbrev pub GoesOn : (ℕ → Standing) → List Deed → Type 0
  GoesOn at xs = (id : ℕ) → Along Is (at id) (acts_on id xs)

  first_if : (s : Standing) (a : Act) (more : List Act) (b : Bool) → b ≡ true → Along Is s (if b then a ∷ more else more) → Is s a
  first_if s a more true so is = is.0
  first_if s a more false so is = absurd (cc)

  rest_if : (s : Standing) (a : Act) (more : List Act) (b : Bool) → Along Is s (if b then a ∷ more else more) → Along Is (if b then after_act s a else s) more
  rest_if s a more true is = is.1
  rest_if s a more false is = is

  pub is_now : (at : ℕ → Standing) (x : Deed) (xs : List Deed) → GoesOn at (x ∷ xs) → Is (at x.node) x.act
  unfolding acts_on
  is_now at x xs is = first_if (at x.node) x.act (acts_on x.node xs) (x.node == x.node) (grind (arith, nat_tests, eqb_tells x.node x.node)) (is x.node)

  pub is_then : (at : ℕ → Standing) (x : Deed) (xs : List Deed) → GoesOn at (x ∷ xs) → GoesOn (moved_on at x) xs
  unfolding acts_on
  is_then at x xs is id = rest_if (at id) x.act (acts_on id xs) (x.node == id) (is id)

  module _ (Runs : NodeRun → Type 0) (served : (n : NodeRun) → Runs n → Along Is (standing_of n) n.served) where
    present_by : (order : List Deed) (n m : NodeRun) (id : ℕ) (more : Bool) (b : Bool) → (n.id == id) ≡ b → Runs n → IsWholeIn order n → (b || more) ≡ true → (more ≡ true → Along Is (standing_of m) (acts_on id order)) → Along Is (standing_of (if b then n else m)) (acts_on id order)
    present_by order n m id more true is run whole there h =
        subst (λ k. Along Is (standing_of n) (acts_on k order)) (number_is n.id id is) (subst (λ x. Along Is (standing_of n) x) (sym whole) (served n run))
    present_by order n m id more false is run whole there h = h there

    present : (order : List Deed) (ns : List NodeRun) (id : ℕ) → All Runs ns → All (IsWholeIn order) ns → has (λ d. d.id) id (openings_of ns) ≡ true → Along Is (standings_of ns id) (acts_on id order)
    unfolding node_at has
    present order [] id runs whole there = absurd (cc)
    present order (n ∷ ns) id runs whole there =
        present_by order n (node_at ns id) id (has (λ d. d.id) id (openings_of ns)) (n.id == id) refl (All-head Runs n ns runs) (All-head (IsWholeIn order) n ns whole)
        (subst (λ k. ((k == id) || has (λ d. d.id) id (openings_of ns)) ≡ true) (id_of n) there)
        (present order ns id (All-tail Runs n ns runs) (All-tail (IsWholeIn order) n ns whole))

    goes_by : (order : List Deed) (ns : List NodeRun) → All Runs ns → All (IsOfNode ns) order → All (IsWholeIn order) ns → (id : ℕ) (b : Bool) → has (λ d. d.id) id (openings_of ns) ≡ b → Along Is (standings_of ns id) (acts_on id order)
    goes_by order ns runs known whole id true there = present order ns id runs whole there
    goes_by order ns runs known whole id false none = subst (λ x. Along Is (standings_of ns id) x) (sym (absent (openings_of ns) order id known none)) tt

    -- in a whole order each node goes on so from where it stands when it is prepared
    pub goes_on : (order : List Deed) (ns : List NodeRun) → All Runs ns → All (IsOfNode ns) order → All (IsWholeIn order) ns → GoesOn (standings_of ns) order
    goes_on order ns runs known whole id = goes_by order ns runs known whole id (has (λ d. d.id) id (openings_of ns)) refl
