-- What one more line does to what is said of lines.
use Rattle.std.proofs.Common.{arith, ◌≡◌, ◌≢◌, inl, inr, ℕ, ◌==◌, Bool, true, false, if◌then◌else◌, List, [], ◌∷◌, ◌++◌, take, refl, ap, sym, subst, ◌∙◌}
use Rattle.std.proofs.lemmas.Bool.Decides.{nat_tests, eqb_tells}
use Rattle.std.proofs.lemmas.List.{append-nil, take-append-le}
use Rattle.std.proofs.Math.Seq.{take-append_seam}
use Rattle.protocol.specs.declared.events.Event.{Event}
use Rattle.protocol.specs.declared.images.ContextImage.{ContextImage}
use Rattle.protocol.specs.State.{Device, Flight}
use Rattle.protocol.specs.Fabric.{sending}
use Rattle.protocol.specs.Replay.{replay}
use Rattle.protocol.specs.DeviceStep.{device_step}
use Rattle.order_rules.specs.Lines.{Line, events_on, held_by, opening_of, flown, flown_after}
use Rattle.order_rules.specs.Order.{AreRestored, Each, Takes, with_stopped}
use Rattle.order_rules.proofs.Lists.{get_push}

-- ---- devices

-- the device after one more event
pub replay-push : (d : Device) (es : List Event) (e : Event) → replay d (es ++ e ∷ []) ≡ (device_step (replay d es) e).device
unfolding replay
replay-push d [] e = refl
replay-push d (x ∷ es) e = replay-push (device_step d x).device es e

-- ---- picked lines

if_push : {X : Type 0} (b : Bool) (x : X) (xs rest : List X) → (if b then x ∷ (xs ++ rest) else xs ++ rest) ≡ (if b then x ∷ xs else xs) ++ rest
if_push true x xs rest = refl
if_push false x xs rest = refl

events_on-push : (d : ℕ) (ls : List Line) (l : Line) → events_on d (ls ++ l ∷ []) ≡ events_on d ls ++ (if l.receipt.device == d then l.receipt.event ∷ [] else [])
unfolding events_on
events_on-push d [] l = refl
events_on-push d (x ∷ ls) l = ap (λ r. if x.receipt.device == d then x.receipt.event ∷ r else r) (events_on-push d ls l) ∙ if_push (x.receipt.device == d) x.receipt.event (events_on d ls) (if l.receipt.device == d then l.receipt.event ∷ [] else [])

held_by-push : (w : ℕ) (ls : List Line) (l : Line) → held_by w (ls ++ l ∷ []) ≡ held_by w ls ++ (if l.receipt.worker == w then l.receipt ∷ [] else [])
unfolding held_by
held_by-push w [] l = refl
held_by-push w (x ∷ ls) l = ap (λ r. if x.receipt.worker == w then x.receipt ∷ r else r) (held_by-push w ls l) ∙ if_push (x.receipt.worker == w) x.receipt (held_by w ls) (if l.receipt.worker == w then l.receipt ∷ [] else [])

picked : {X : Type 0} (b : Bool) (x : X) (xs : List X) → b ≡ true → xs ++ (if b then x ∷ [] else []) ≡ xs ++ x ∷ []
picked true x xs h = refl
picked false x xs h = cc

passed : {X : Type 0} (b : Bool) (x : X) (xs : List X) → b ≡ false → xs ++ (if b then x ∷ [] else []) ≡ xs
passed true x xs h = cc
passed false x xs h = append-nil xs

-- a line of this device
pub events_on-here : (d : ℕ) (ls : List Line) (l : Line) → l.receipt.device ≡ d → events_on d (ls ++ l ∷ []) ≡ events_on d ls ++ l.receipt.event ∷ []
events_on-here d ls l h = events_on-push d ls l ∙ picked _ _ _ (grind (arith, nat_tests, eqb_tells l.receipt.device d, h))

-- .. of another device
pub events_on-other : (d : ℕ) (ls : List Line) (l : Line) → l.receipt.device ≢ d → events_on d (ls ++ l ∷ []) ≡ events_on d ls
events_on-other d ls l h = events_on-push d ls l ∙ passed _ _ _ (grind (arith, nat_tests, eqb_tells l.receipt.device d, h))

-- a line of this worker
pub held_by-here : (w : ℕ) (ls : List Line) (l : Line) → l.receipt.worker ≡ w → held_by w (ls ++ l ∷ []) ≡ held_by w ls ++ l.receipt ∷ []
held_by-here w ls l h = held_by-push w ls l ∙ picked _ _ _ (grind (arith, nat_tests, eqb_tells l.receipt.worker w, h))

-- .. of another worker
pub held_by-other : (w : ℕ) (ls : List Line) (l : Line) → l.receipt.worker ≢ w → held_by w (ls ++ l ∷ []) ≡ held_by w ls
held_by-other w ls l h = held_by-push w ls l ∙ passed _ _ _ (grind (arith, nat_tests, eqb_tells l.receipt.worker w, h))

-- ---- datagrams

flown_after-push : (os : List Device) (fs : List Flight) (ls : List Line) (l : Line) → flown_after os fs (ls ++ l ∷ []) ≡ sending (flown_after os fs ls) (opening_of os l.receipt.device).address l.receipt.outcome.sent
unfolding flown_after
flown_after-push os fs [] l = refl
flown_after-push os fs (x ∷ ls) l = flown_after-push os (sending fs (opening_of os x.receipt.device).address x.receipt.outcome.sent) ls l

-- what the line sent comes last
pub flown-push : (os : List Device) (ls : List Line) (l : Line) → flown os (ls ++ l ∷ []) ≡ sending (flown os ls) (opening_of os l.receipt.device).address l.receipt.outcome.sent
flown-push os ls l = flown_after-push os [] ls l

-- nothing is sent before the first line
pub flown-none : (os : List Device) → flown os [] ≡ []
unfolding flown_after
flown-none os = refl

-- ---- restores

-- the images that may be taken after one more line
pub restored-push : (images : List ContextImage) (ls : List Line) (l : Line) (left rest : List ContextImage) → AreRestored images ls left → Takes left l.receipt.event rest → AreRestored images (ls ++ l ∷ []) (with_stopped l.receipt.outcome.image rest)
restored-push images [] l left rest are takes = (rest, subst (λ x. Takes x l.receipt.event rest) are takes, refl)
restored-push images (x ∷ ls) l left rest are takes = (are.0, are.1, restored-push (with_stopped x.receipt.outcome.image are.0) ls l left rest are.2 takes)

-- ---- each line

-- a fact of each line, and of one more
pub each_push : (Fact : List Line → Line → Type 0) (ls : List Line) (l : Line) → Each Fact ls → Fact ls l → Each Fact (ls ++ l ∷ [])
each_push Fact ls l each is k x at = elim (get_push ls l k x at) [
  | inl a ↦ subst (λ e. Fact e x) (sym (take-append-le k ls (l ∷ []) (omega (arith, a.0)))) (each k x a.1)
  | inr b ↦ subst (λ (p : ℕ × Line). Fact (take p.0 (ls ++ l ∷ [])) p.1) (λ i. (sym b.0 i, sym b.1 i)) (subst (λ e. Fact e l) (sym (take-append_seam ls (l ∷ []))) is)
]
