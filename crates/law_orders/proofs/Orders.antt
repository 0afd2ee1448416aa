-- What the lines of an order lead to, as a world that stands for a state of the machine.
use Rattle.std.proofs.Common.{arith, ◌≡◌, ◌≢◌, ℕ, List, [], ◌∷◌, ◌++◌, map, Bool, true, false, refl, sym, ap, ◌∙◌, if◌then◌else◌}
use Rattle.std.specs.Prelude.{◌==◌, ◌||◌}
use Rattle.std.proofs.lemmas.Bool.Decides.{nat_tests, eqb_tells}
use Rattle.std.proofs.lemmas.List.{append-nil, append_assoc}
use Rattle.rdma_types.specs.Lists.{at, has, store}
use Rattle.protocol.specs.declared.images.ContextImage.{ContextImage}
use Rattle.protocol.specs.DeviceStep.{device_step}
use Rattle.protocol.specs.Replay.{replay}
use Rattle.protocol.specs.State.{Device, no_device}
use Rattle.law_simulation.specs.Kept.{kept_verb}
use Rattle.order_rules.specs.Hears.{heard, verb_heard}
use Rattle.order_rules.specs.Lines.{Line, device_after, events_on, opening_of}
use Rattle.order_rules.specs.Order.{with_stopped}
use Rattle.order_rules.specs.Sides.{carried_after, without_restored}
use Rattle.order_rules.proofs.Growing.{events_on-here, events_on-other, replay-push}
use Rattle.law_orders.proofs.Devices.{replay_itself}

number_is : (a b : ℕ) → (a == b) ≡ true → a ≡ b
number_is a b h = grind (arith, nat_tests, eqb_tells a b, h)

number_not : (a b : ℕ) → (a == b) ≡ false → a ≢ b
number_not a b h e = grind (arith, nat_tests, eqb_tells a b, h, e)

-- ---- devices whose ids stand once

-- each device is the one with its id
abbrev pub AreApart : List Device → Type 0
AreApart [] = Unit {0}
AreApart (d ∷ ds) = (has (λ x. x.id) d.id ds ≡ false) × AreApart ds

-- the devices after some lines
abbrev pub after_all : List Device → List Line → List Device
after_all os ls = map (λ d. device_after os ls d.id) os

id_after : (os : List Device) (ls : List Line) (k : ℕ) → (device_after os ls k).id ≡ (opening_of os k).id
unfolding device_after
id_after os ls k = (replay_itself (opening_of os k) (events_on k ls)).0

pub address_after : (os : List Device) (ls : List Line) (k : ℕ) → (device_after os ls k).address ≡ (opening_of os k).address
unfolding device_after
address_after os ls k = (replay_itself (opening_of os k) (events_on k ls)).1

-- the device with the id of each of these is it
abbrev pub AreOwn : List Device → List Device → Type 0
AreOwn os [] = Unit {0}
AreOwn os (d ∷ ds) = (opening_of os d.id ≡ d) × AreOwn os ds

-- a function of ids gives devices of these ids
abbrev IsOfIds : (ℕ → Device) → List Device → Type 0
IsOfIds f [] = Unit {0}
IsOfIds f (d ∷ ds) = ((f d.id).id ≡ d.id) × IsOfIds f ds

of_ids : (os : List Device) (ls : List Line) (ds : List Device) → AreOwn os ds → IsOfIds (λ k. device_after os ls k) ds
of_ids os ls [] own = tt
of_ids os ls (d ∷ ds) own = (id_after os ls d.id ∙ ap (λ x. x.id) own.0, of_ids os ls ds own.1)

has_of : (f : ℕ → Device) (k : ℕ) (ds : List Device) → IsOfIds f ds → has (λ x. x.id) k (map (λ d. f d.id) ds) ≡ has (λ x. x.id) k ds
unfolding has
has_of f k [] of = refl
has_of f k (d ∷ ds) of = ap (λ n. (n == k) || has (λ x. x.id) k (map (λ d. f d.id) ds)) of.0 ∙ ap (λ b. (d.id == k) || b) (has_of f k ds of.1)

at_of : (f : ℕ → Device) (k : ℕ) (ds : List Device) → IsOfIds f ds → has (λ x. x.id) k ds ≡ true → at (λ x. x.id) no_device k (map (λ d. f d.id) ds) ≡ f k
unfolding has at
at_of f k [] of there = absurd (cc)
at_of f k (d ∷ ds) of there = ap (λ n. if n == k then f d.id else at (λ x. x.id) no_device k (map (λ d. f d.id) ds)) of.0 ∙ by (d.id == k) refl there (at_of f k ds of.1)
  where
    by : (b : Bool) → (d.id == k) ≡ b → (b || has (λ x. x.id) k ds) ≡ true → (has (λ x. x.id) k ds ≡ true → at (λ x. x.id) no_device k (map (λ d. f d.id) ds) ≡ f k) → (if b then f d.id else at (λ x. x.id) no_device k (map (λ d. f d.id) ds)) ≡ f k
    by true is h later = ap f (number_is d.id k is)
    by false is h later = later h

same_of : (f g : ℕ → Device) (k : ℕ) (ds : List Device) → has (λ x. x.id) k ds ≡ false → ((j : ℕ) → (j == k) ≡ false → g j ≡ f j) → map (λ d. f d.id) ds ≡ map (λ d. g d.id) ds
unfolding has
same_of f g k [] none other = refl
same_of f g k (d ∷ ds) none other = by (d.id == k) refl none (same_of f g k ds)
  where
    by : (b : Bool) → (d.id == k) ≡ b → (b || has (λ x. x.id) k ds) ≡ false → (has (λ x. x.id) k ds ≡ false → ((j : ℕ) → (j == k) ≡ false → g j ≡ f j) → map (λ x. f x.id) ds ≡ map (λ x. g x.id) ds) → f d.id ∷ map (λ x. f x.id) ds ≡ g d.id ∷ map (λ x. g x.id) ds
    by true is h later = absurd (cc)
    by false is h later = ap (λ x. x ∷ map (λ x. f x.id) ds) (sym (other d.id is)) ∙ ap (λ xs. g d.id ∷ xs) (later h other)

store_of : (f g : ℕ → Device) (k : ℕ) (e : Device) (ds : List Device) → IsOfIds f ds → AreApart ds → has (λ x. x.id) k ds ≡ true → g k ≡ e → ((j : ℕ) → (j == k) ≡ false → g j ≡ f j) → store (λ x. x.id) k e (map (λ d. f d.id) ds) ≡ map (λ d. g d.id) ds
unfolding has store
store_of f g k e [] of apart there here other = absurd (cc)
store_of f g k e (d ∷ ds) of apart there here other =
    ap (λ n. if n == k then e ∷ map (λ x. f x.id) ds else f d.id ∷ store (λ x. x.id) k e (map (λ x. f x.id) ds)) of.0
    ∙ by (d.id == k) refl there (store_of f g k e ds of.1 apart.1)
  where
    by : (b : Bool) → (d.id == k) ≡ b → (b || has (λ x. x.id) k ds) ≡ true →
        (has (λ x. x.id) k ds ≡ true → g k ≡ e → ((j : ℕ) → (j == k) ≡ false → g j ≡ f j) → store (λ x. x.id) k e (map (λ x. f x.id) ds) ≡ map (λ x. g x.id) ds) →
        (if b then e ∷ map (λ x. f x.id) ds else f d.id ∷ store (λ x. x.id) k e (map (λ x. f x.id) ds)) ≡ g d.id ∷ map (λ x. g x.id) ds
    by true is h later =
        let same : d.id ≡ k = number_is d.id k is in
        ap (λ x. x ∷ map (λ x. f x.id) ds) (sym here ∙ ap g (sym same))
        ∙ ap (λ xs. g d.id ∷ xs) (same_of f g k ds (ap (λ n. has (λ x. x.id) n ds) (sym same) ∙ apart.0) other)
    by false is h later = ap (λ x. x ∷ store (λ x. x.id) k e (map (λ x. f x.id) ds)) (sym (other d.id is)) ∙ ap (λ xs. g d.id ∷ xs) (later h here other)

-- ---- the device of a line

-- these devices begin, each with an id of its own
pub record AreBegun (os : List Device) : Type 0 where
  pub apart : AreApart os
  pub own : AreOwn os os

pub has_after : (os : List Device) (ls : List Line) (k : ℕ) → AreBegun os → has (λ x. x.id) k os ≡ true → has (λ x. x.id) k (after_all os ls) ≡ true
has_after os ls k begun there = has_of (λ j. device_after os ls j) k os (of_ids os ls os begun.own) ∙ there

pub at_after : (os : List Device) (ls : List Line) (k : ℕ) → AreBegun os → has (λ x. x.id) k os ≡ true → at (λ x. x.id) no_device k (after_all os ls) ≡ device_after os ls k
at_after os ls k begun there = at_of (λ j. device_after os ls j) k os (of_ids os ls os begun.own) there

pub after_here : (os : List Device) (ls : List Line) (l : Line) → device_after os (ls ++ l ∷ []) l.receipt.device ≡ (device_step (device_after os ls l.receipt.device) l.receipt.event).device
unfolding device_after
after_here os ls l = ap (replay (opening_of os l.receipt.device)) (events_on-here l.receipt.device ls l refl) ∙ replay-push (opening_of os l.receipt.device) (events_on l.receipt.device ls) l.receipt.event

pub after_other : (os : List Device) (ls : List Line) (l : Line) (k : ℕ) → (k == l.receipt.device) ≡ false → device_after os (ls ++ l ∷ []) k ≡ device_after os ls k
unfolding device_after
after_other os ls l k other = ap (replay (opening_of os k)) (events_on-other k ls l (λ e. number_not k l.receipt.device other (sym e)))

-- the devices after one more line
pub after_line : (os : List Device) (ls : List Line) (l : Line) → AreBegun os → has (λ x. x.id) l.receipt.device os ≡ true →
    store (λ x. x.id) l.receipt.device (device_step (device_after os ls l.receipt.device) l.receipt.event).device (after_all os ls) ≡ after_all os (ls ++ l ∷ [])
after_line os ls l begun there =
    store_of (λ j. device_after os ls j) (λ j. device_after os (ls ++ l ∷ []) j) l.receipt.device _ os (of_ids os ls os begun.own) begun.apart there (after_here os ls l) (λ j other. after_other os ls l j other)

-- before the first
own_map : (os ds : List Device) → AreOwn os ds → map (λ d. device_after os [] d.id) ds ≡ ds
unfolding device_after events_on replay
own_map os [] own = refl
own_map os (d ∷ ds) own = ap (λ x. x ∷ map (λ d. device_after os [] d.id) ds) own.0 ∙ ap (λ xs. d ∷ xs) (own_map os ds own.1)

pub after_none : (os : List Device) → AreBegun os → after_all os [] ≡ os
after_none os begun = own_map os os begun.own

-- ---- what is heard and carried

pub heard-push : (ls : List Line) (l : Line) → heard (ls ++ l ∷ []) ≡ heard ls ++ kept_verb (verb_heard l.receipt.event) l.receipt.outcome.answer
unfolding heard
heard-push [] l = append-nil (kept_verb (verb_heard l.receipt.event) l.receipt.outcome.answer)
heard-push (x ∷ ls) l =
    ap (λ vs. kept_verb (verb_heard x.receipt.event) x.receipt.outcome.answer ++ vs) (heard-push ls l)
    ∙ sym (append_assoc (kept_verb (verb_heard x.receipt.event) x.receipt.outcome.answer) (heard ls) (kept_verb (verb_heard l.receipt.event) l.receipt.outcome.answer))

pub carried-push : (images : List ContextImage) (ls : List Line) (l : Line) → carried_after images (ls ++ l ∷ []) ≡ with_stopped l.receipt.outcome.image (without_restored l.receipt.event l.receipt.outcome.answer (carried_after images ls))
unfolding carried_after
carried-push images [] l = refl
carried-push images (x ∷ ls) l = carried-push (with_stopped x.receipt.outcome.image (without_restored x.receipt.event x.receipt.outcome.answer images)) ls l
