-- What a book keeps: nothing at first, one more step, and the step at a place.
use Rattle.std.proofs.Common.{◌≡◌, ◌<◌, ℕ, zero, suc, List, [], ◌∷◌, ◌++◌, length, get_or, take, option_map, slice_get, All, IfOk, IfSome, Option, None, Some, Result, Ok, Err, refl, ap, sym, subst, ◌∙◌}
use Rattle.std.specs.Arc.{arc_value}
use Rattle.std.specs.Result.{result_ok}
use Rattle.std.specs.declared.sync.Arc.{Arc}
use Rattle.std.proofs.lemmas.List.{map-append}
use Rattle.std.proofs.Math.Seq.{take-append_seam}
use Rattle.std.proofs.lemmas.List.Elements.{All-nil, All-push}
use Rattle.std.proofs.lemmas.Option.{get_or_from_slice_get, slice_get-get_or, slice_get-map, slice_get_within}
use Rattle.protocol.specs.declared.events.Event.{Event}
use Rattle.protocol.specs.declared.images.Outcome.{Outcome}
use Rattle.protocol.specs.State.{Device}
use Rattle.protocol.specs.DeviceStep.{device_step}
use Rattle.protocol.specs.Events.{IsLawfulEvent}
use Rattle.protocol.specs.Lawful.{IsLawful}
use Rattle.protocol.specs.Replay.{outcomes, replay}
use Rattle.order_rules.specs.declared.Receipt.{Receipt}
use Rattle.order_rules.proofs.Growing.{replay-push}
use Rattle.shared_device.specs.declared.receipt.Step.{Step}
use Rattle.shared_device.specs.Books.{BookView, IsBookStep, IsHeld, IsReceiptOfStep, IsStepOf, device_of, events_of, steps_in}

-- ---- outcomes

-- the outcomes with one more event
outcomes-push : (d : Device) (es : List Event) (e : Event) → outcomes d (es ++ e ∷ []) ≡ outcomes d es ++ (device_step (replay d es) e).outcome ∷ []
unfolding replay outcomes
outcomes-push d [] e = refl
outcomes-push d (x ∷ es) e = ap (λ os. (device_step d x).outcome ∷ os) (outcomes-push (device_step d x).device es e)

-- the outcome at a place is that of the event at that place, after the earlier ones
outcomes-at : (d : Device) (es : List Event) (k : ℕ) (e : Event) (o : Outcome) → slice_get es k ≡ Some e → slice_get (outcomes d es) k ≡ Some o → o ≡ (device_step (replay d (take k es)) e).outcome
unfolding replay outcomes
outcomes-at d [] k e o event there = cc
outcomes-at d (x ∷ es) zero e o event there =
    let same : x ≡ e = cc in
    let here : (device_step d x).outcome ≡ o = cc in
    sym here ∙ ap (λ v. (device_step d v).outcome) same
outcomes-at d (x ∷ es) (suc k) e o event there = outcomes-at (device_step d x).device es k e o event there

-- ---- books

no_event : (d : Device) → d ≡ replay d []
unfolding replay
no_event d = refl

no_outcome : (d : Device) → [] ≡ outcomes d []
unfolding outcomes
no_outcome d = refl

-- a book opens with its device
pub held_nothing : {A : Type 0} (opening d : Device) (items : List (Arc Step A)) → opening ≡ d → items ≡ [] → IsHeld opening (steps_in items) d
held_nothing opening d items same none = subst (λ v. IsHeld opening v d) (sym (ap steps_in none)) (record {
  device = sym same ∙ no_event opening;
  lawful = All-nil IsLawfulEvent;
  outcomes_are = no_outcome opening;
  images = All-nil (λ s. IfSome s.outcome.image (λ i. IsLawful i));
})

held_push : (opening : Device) (steps : List Step) (d new : Device) (s : Step) → IsHeld opening steps d → IsLawfulEvent s.event → device_step d s.event ≡ record { device = new; outcome = s.outcome } → IfSome s.outcome.image (λ i. IsLawful i) → IsHeld opening (steps ++ s ∷ []) new
held_push opening steps d new s held lawful stepped image =
    let events : events_of (steps ++ s ∷ []) ≡ events_of steps ++ s.event ∷ [] = map-append (λ x. x.event) steps (s ∷ []) in
    let from : device_step d s.event ≡ device_step (replay opening (events_of steps)) s.event = ap (λ v. device_step v s.event) held.device in record {
      device = sym (ap (λ x. x.device) stepped) ∙ (ap (λ x. x.device) from ∙ (sym (replay-push opening (events_of steps) s.event) ∙ ap (replay opening) (sym events)));
      lawful = subst (λ es. All IsLawfulEvent es) (sym events) (All-push IsLawfulEvent (events_of steps) s.event held.lawful lawful);
      outcomes_are = map-append (λ x. x.outcome) steps (s ∷ []) ∙ (ap (λ os. os ++ s.outcome ∷ []) held.outcomes_are ∙ (ap (λ o. outcomes opening (events_of steps) ++ o ∷ []) (sym (ap (λ x. x.outcome) stepped) ∙ ap (λ x. x.outcome) from) ∙ (sym (outcomes-push opening (events_of steps) s.event) ∙ ap (outcomes opening) (sym events))));
      images = All-push (λ x. IfSome x.outcome.image (λ i. IsLawful i)) steps s held.images image;
    }

-- one more step
pub held_more : {A : Type 0} (opening : Device) (old new : List (Arc Step A)) (d after : Device) (s : Arc Step A) → IsHeld opening (steps_in old) d → new ≡ old ++ s ∷ [] → IsLawfulEvent (arc_value s).event → device_step d (arc_value s).event ≡ record { device = after; outcome = (arc_value s).outcome } → IfSome (arc_value s).outcome.image (λ i. IsLawful i) → IsHeld opening (steps_in new) after
held_more opening old new d after s held items lawful stepped image =
    let steps : steps_in new ≡ steps_in old ++ arc_value s ∷ [] = ap steps_in items ∙ map-append arc_value old (s ∷ []) in
    subst (λ v. IsHeld opening v after) (sym steps) (held_push opening (steps_in old) d after (arc_value s) held lawful stepped image)

-- the events with one more step
pub events_more : {A : Type 0} (old new : List (Arc Step A)) (s : Arc Step A) → new ≡ old ++ s ∷ [] → events_of (steps_in new) ≡ events_of (steps_in old) ++ (arc_value s).event ∷ []
events_more old new s items = ap (λ v. events_of (steps_in v)) items ∙ (ap events_of (map-append arc_value old (s ∷ [])) ∙ map-append (λ x. x.event) (steps_in old) (arc_value s ∷ []))

all_at : {X : Type 0} (P : X → Type 0) (xs : List X) (k : ℕ) (x : X) → All P xs → slice_get xs k ≡ Some x → P x
all_at P xs k x all there = subst P (get_or_from_slice_get xs k x x there) (all k x (slice_get_within xs k x there))

twice : {X Y Z : Type 0} (f : X → Y) (g : Y → Z) (o : Option X) → option_map g (option_map f o) ≡ option_map (λ x. g (f x)) o
twice f g None = refl
twice f g (Some x) = refl

-- what was read at a place stands there
pub read_there : {X : Type 0} (xs ys : List X) (k : ℕ) (x : X) → ys ≡ xs → k < length ys → x ≡ get_or ys k x → slice_get xs k ≡ Some x
read_there xs ys k x same within read = ap (λ l. slice_get l k) (sym same) ∙ (slice_get-get_or ys k x within ∙ ap Some (sym read))

-- the event at a place
pub event_at : {A : Type 0} (b : BookView) (opening : Device) (items : List (Arc Step A)) (k : ℕ) → record { opening = opening; journal = events_of (steps_in items) } ≡ b → slice_get b.journal k ≡ option_map (λ (s : Arc Step A). (arc_value s).event) (slice_get items k)
event_at b opening items k view = ap (λ v. slice_get v.journal k) (sym view) ∙ (slice_get-map (λ s. s.event) (steps_in items) k ∙ (ap (option_map (λ s. s.event)) (slice_get-map arc_value items k) ∙ twice arc_value (λ s. s.event) (slice_get items k)))

step_of_view : {A : Type 0} (opening : Device) (items : List (Arc Step A)) (d : Device) (k : ℕ) (a : Arc Step A) → IsHeld opening (steps_in items) d → slice_get items k ≡ Some a → IsStepOf (record { opening = opening; journal = events_of (steps_in items) }) k (arc_value a)
step_of_view opening items d k a held there =
    let steps : slice_get (steps_in items) k ≡ Some (arc_value a) = slice_get-map arc_value items k ∙ ap (option_map arc_value) there in
    let event : slice_get (events_of (steps_in items)) k ≡ Some (arc_value a).event = slice_get-map (λ s. s.event) (steps_in items) k ∙ ap (option_map (λ s. s.event)) steps in
    let outcome : slice_get (outcomes opening (events_of (steps_in items))) k ≡ Some (arc_value a).outcome = ap (λ os. slice_get os k) (sym held.outcomes_are) ∙ (slice_get-map (λ s. s.outcome) (steps_in items) k ∙ ap (option_map (λ s. s.outcome)) steps) in record {
      event = event;
      outcome = outcomes-at opening (events_of (steps_in items)) k (arc_value a).event (arc_value a).outcome event outcome;
      image = all_at (λ s. IfSome s.outcome.image (λ i. IsLawful i)) (steps_in items) k (arc_value a) held.images steps;
    }

-- the step at a place
pub step_there : {A : Type 0} (b : BookView) (opening : Device) (items : List (Arc Step A)) (d : Device) (k : ℕ) (a : Arc Step A) (s : Step) → record { opening = opening; journal = events_of (steps_in items) } ≡ b → IsHeld opening (steps_in items) d → slice_get items k ≡ Some a → s ≡ arc_value a → IsStepOf b k s
step_there b opening items d k a s view held there same = subst (λ v. IsStepOf v k s) view (subst (λ v. IsStepOf (record { opening = opening; journal = events_of (steps_in items) }) k v) (sym same) (step_of_view opening items d k a held there))

-- what is known of a result is known of its value
pub if_some : {T E : Type 0} (r : Result T E) (o : Option T) (P Q : T → Type 0) → o ≡ result_ok r → IfOk r P → ((x : T) → P x → Q x) → IfSome o Q
if_some (Ok x) o P Q same known then = rw same (then x known)
if_some (Err x) o P Q same known then = rw same tt

-- ---- a step under a lock

get_last : {X : Type 0} (xs : List X) (y : X) → slice_get (xs ++ y ∷ []) (length xs) ≡ Some y
get_last [] y = refl
get_last (x ∷ xs) y = get_last xs y

some_is : {X : Type 0} {x y : X} → Some x ≡ Some y → x ≡ y
some_is h = cc

-- the step that was made was asked for
pub event_is : (old new : BookView) (event : Event) (place : ℕ) (s : Step) → IsBookStep old new event place → IsStepOf new place s → s.event ≡ event
event_is old new event place s step is = some_is (sym is.event ∙ (ap (λ v. slice_get v place) step.journal ∙ (ap (λ k. slice_get (old.journal ++ event ∷ []) k) step.place_is ∙ get_last old.journal event)))

-- .. and its outcome is what the rules give
outcome_is : (old new : BookView) (event : Event) (place : ℕ) (s : Step) → IsBookStep old new event place → IsStepOf new place s → s.outcome ≡ (device_step (device_of old) event).outcome
outcome_is old new event place s step is =
    let before : take place new.journal ≡ old.journal = ap (take place) step.journal ∙ (ap (λ k. take k (old.journal ++ event ∷ [])) step.place_is ∙ take-append_seam old.journal (event ∷ [])) in
    is.outcome ∙ ap (λ (p : Device × List Event × Event). (device_step (replay p.0 p.1) p.2).outcome) (λ i. (step.opening i, before i, event_is old new event place s step is i))

pub receipt_of_step : (old new : BookView) (event : Event) (place : ℕ) (s : Step) (r : Receipt) → IsBookStep old new event place → IsStepOf new place s → r.place ≡ place → r.outcome ≡ s.outcome → IsReceiptOfStep old new event r
receipt_of_step old new event place s r step is place_is outcome = record {
  step = subst (λ k. IsBookStep old new event k) (sym place_is) step;
  outcome = outcome ∙ outcome_is old new event place s step is;
}
