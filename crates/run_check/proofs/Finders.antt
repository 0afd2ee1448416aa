-- What the parts of the check find, and that there is nothing where they find nothing.
use Rattle.std.proofs.Common.{arith, ◌≡◌, ◌↔◌, ℕ, ◌+◌, ◌<◌, ◌≤◌, Bool, true, false, IsTrue, List, slice_get, Option, Some, None, inl, inr, refl, ap, sym, subst, ◌∙◌}
use native.Mathlib.Nat.{eq-or-lt_of_le}
use borrow.Author.Count.{below_more}
use Rattle.protocol.specs.declared.events.Event.{Event}
use Rattle.protocol.specs.declared.events.Event.TheVariants as event
use Rattle.protocol.specs.declared.images.ContextImage.{ContextImage}
use Rattle.order_rules.specs.declared.OrderEntry.{OrderEntry}
use Rattle.order_rules.specs.declared.Receipt.{Receipt}
use Rattle.order_rules.proofs.Lists.{some_is}
use Rattle.run_check.specs.declared.stops.StopAt.{StopAt}
use Rattle.run_check.specs.Checks.{CannotTake, HasNoReceipt, HasNoStopOf, IsHead, IsStop, IsStopOf, StandsAt, TakesStop}
use Rattle.run_check.proofs.Taking.{one_image}

-- a test that fails
pub not_where : {A : Type 0} (b : Bool) → b ≡ false → IsTrue b ↔ A → A → ⊥
not_where b fails same a = let yes : b ≡ true = same.1 a in cc

pub none_where : {X : Type 0} (o : Option X) → ((x : X) → o ≡ Some x → ⊥) → o ≡ None
none_where None not = refl
none_where (Some x) not = absurd (not x refl)

-- one more, from the last one on
pub last_more : (P : ℕ → Type 0) (count i place : ℕ) → place + 1 + i ≡ count → ((k : ℕ) → count ≤ k + i → P k → ⊥) → (P place → ⊥) → (k : ℕ) → count ≤ k + (i + 1) → P k → ⊥
last_more P count i place is before here k low p =
    let from : place ≤ k = omega arith in
    elim (eq-or-lt_of_le from) [
      | inl same ↦ here (subst P (sym same) p)
      | inr more ↦ before k (omega arith) p
    ]

-- ---- next receipts

module _ (receipts : List (List Receipt)) (heads : List ℕ) (e : OrderEntry) (n : ℕ) where
  -- one worker more
  pub worker_more : ((w head : ℕ) (r : Receipt) → w < n → IsHead receipts heads e w head r → ⊥) → ((head : ℕ) (r : Receipt) → IsHead receipts heads e n head r → ⊥)
      → (w head : ℕ) (r : Receipt) → w < n + 1 → IsHead receipts heads e w head r → ⊥
  worker_more before here w head r low = below_more (λ k. (h : ℕ) (x : Receipt) → IsHead receipts heads e k h x → ⊥) n (λ k less h x. before k h x less) here w low head r

  module _ (place : ℕ) (at : slice_get heads n ≡ Some place) where
    -- the next receipt is of another entry
    pub other_head : (r : Receipt) → StandsAt receipts n place r → (r.device ≡ e.device → r.place ≡ e.place → ⊥) → (head : ℕ) (x : Receipt) → IsHead receipts heads e n head x → ⊥
    other_head r stands other head x is =
        let place_is : place ≡ head = some_is (sym at ∙ is.1) in
        let held : stands.0 ≡ is.0.0 = some_is (sym stands.1 ∙ is.0.1) in
        let moved : slice_get stands.0 place ≡ slice_get is.0.0 head = λ i. slice_get (held i) (place_is i) in
        let same : r ≡ x = some_is (sym stands.2 ∙ (moved ∙ is.0.2)) in
        other (ap (λ (y : Receipt). y.device) same ∙ is.2) (ap (λ (y : Receipt). y.place) same ∙ is.3)

    -- there is no next receipt
    pub none_left : HasNoReceipt receipts n place → (head : ℕ) (x : Receipt) → IsHead receipts heads e n head x → ⊥
    none_left none head x is =
        let place_is : place ≡ head = some_is (sym at ∙ is.1) in
        none x (subst (λ p. StandsAt receipts n p x) (sym place_is) is.0)

pub same_heads : (receipts : List (List Receipt)) (held heads : List ℕ) (e : OrderEntry) (worker head : ℕ) (r : Receipt) → held ≡ heads → IsHead receipts held e worker head r → IsHead receipts heads e worker head r
same_heads receipts held heads e worker head r same is = subst (λ h. IsHead receipts h e worker head r) same is

-- ---- stops

pub stop_where : (receipts : List (List Receipt)) (s : StopAt) (r : Receipt) (handed image : ContextImage) (b : Bool) → StandsAt receipts s.worker s.head r → r.outcome.image ≡ Some handed → IsTrue b ↔ (handed ≡ image) → IsTrue b ↔ IsStop receipts s image
stop_where receipts s r handed image b at is same = (
  (λ yes. (r, at, is ∙ ap Some (same.0 yes))),
  (λ stop. same.1 (one_image receipts s handed image (r, at, is) stop)),
)

pub not_stop : (receipts : List (List Receipt)) (stops : List StopAt) (i : ℕ) (s : StopAt) (image : ContextImage) (b : Bool) → slice_get stops i ≡ Some s → b ≡ false → IsTrue b ↔ IsStop receipts s image → IsStopOf receipts stops image i → ⊥
not_stop receipts stops i s image b at fails same stop = not_where b fails same (subst (λ y. IsStop receipts y image) (some_is (sym stop.1 ∙ at)) stop.2)

pub nothing_taken : (receipts : List (List Receipt)) (ss held : List StopAt) (e : Event) (image : ContextImage) → e ≡ event.Restore image → held ≡ ss → HasNoStopOf receipts held image → CannotTake receipts ss e
nothing_taken receipts ss held e image is same none left takes =
    let taken : TakesStop receipts held (event.Restore image) left = subst (λ (p : Event × List StopAt). TakesStop receipts p.1 p.0 left) (λ i. (is i, sym same i)) takes in
    none taken.0 taken.1
