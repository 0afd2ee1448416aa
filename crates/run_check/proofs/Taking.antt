-- Stops whose images may be taken, with these images.
use Rattle.std.proofs.Common.{◌≡◌, ℕ, zero, suc, ◌+◌, List, [], ◌∷◌, ◌++◌, take, drop, slice_get, Some, refl, ap, sym, subst, ◌∙◌, add-one}
use Rattle.std.specs.Prelude.{Option, None}
use Rattle.std.proofs.lemmas.List.{append-nil}
use Rattle.protocol.specs.declared.events.Event.{Event}
use Rattle.protocol.specs.declared.events.Event.TheVariants as event
use Rattle.protocol.specs.declared.images.ContextImage.{ContextImage}
use Rattle.order_rules.specs.declared.Receipt.{Receipt}
use Rattle.order_rules.specs.Order.{IsTaken, Takes, with_stopped}
use Rattle.order_rules.proofs.Lists.{some_is}
use Rattle.run_check.specs.declared.stops.StopAt.{StopAt}
use Rattle.run_check.specs.Checks.{IsStop, StandsAt, TakesStop, stop_of}

-- the stops hand out these images, one each
abbrev pub AreStops : List (List Receipt) → List StopAt → List ContextImage → Type 0
AreStops receipts [] [] = Unit {0}
AreStops receipts [] (i ∷ images) = ⊥
AreStops receipts (s ∷ stops) [] = ⊥
AreStops receipts (s ∷ stops) (i ∷ images) = IsStop receipts s i × AreStops receipts stops images

-- a stop hands out one image
pub one_image : (receipts : List (List Receipt)) (s : StopAt) (i j : ContextImage) → IsStop receipts s i → IsStop receipts s j → i ≡ j
one_image receipts s i j a b =
    let held : a.1.0 ≡ b.1.0 = some_is (sym a.1.1 ∙ b.1.1) in
    let receipt : a.0 ≡ b.0 = some_is (sym a.1.2 ∙ (ap (λ h. slice_get h s.head) held ∙ b.1.2)) in
    some_is (sym a.2 ∙ (ap (λ r. r.outcome.image) receipt ∙ b.2))

take_suc : (receipts : List (List Receipt)) (stops : List StopAt) (images : List ContextImage) (i : ℕ) (s : StopAt) (image : ContextImage) → AreStops receipts stops images → slice_get stops i ≡ Some s → IsStop receipts s image → (rest : List ContextImage) × IsTaken images image rest × AreStops receipts (take i stops ++ drop (suc i) stops) rest
take_suc receipts [] images i s image are at is = absurd cc
take_suc receipts (x ∷ stops) [] i s image are at is = absurd are
take_suc receipts (x ∷ stops) (m ∷ images) zero s image are at is =
    let same : x ≡ s = cc in
    let image_is : m ≡ image = one_image receipts s m image (subst (λ y. IsStop receipts y m) same are.0) is in
    (images, record { before = []; after = images; there = ap (λ y. y ∷ images) image_is; rest = refl }, are.1)
take_suc receipts (x ∷ stops) (m ∷ images) (suc i) s image are at is =
    let more = take_suc receipts stops images i s image are.1 at is in
    (m ∷ more.0, record { before = m ∷ more.1.before; after = more.1.after; there = ap (λ y. m ∷ y) more.1.there; rest = ap (λ y. m ∷ y) more.1.rest }, (are.0, more.2))

-- a stop is taken away with its image
take_one : (receipts : List (List Receipt)) (stops : List StopAt) (images : List ContextImage) (i : ℕ) (s : StopAt) (image : ContextImage) → AreStops receipts stops images → slice_get stops i ≡ Some s → IsStop receipts s image → (rest : List ContextImage) × IsTaken images image rest × AreStops receipts (take i stops ++ drop (i + 1) stops) rest
take_one receipts stops images i s image are at is = rw add-one (take_suc receipts stops images i s image are at is)

pub takes_of : (receipts : List (List Receipt)) (stops : List StopAt) (images : List ContextImage) (e : Event) (left : List StopAt) → AreStops receipts stops images → TakesStop receipts stops e left → (rest : List ContextImage) × Takes images e rest × AreStops receipts left rest
takes_of receipts stops images (event.Restore image) left are t =
    let r = take_one receipts stops images t.0 t.1.0 image are t.1.1 t.1.2 in
    (r.0, r.1, subst (λ x. AreStops receipts x r.0) (sym t.2) r.2)
takes_of receipts stops images e left are t = (images, refl, subst (λ x. AreStops receipts x images) (sym t) are)

push_one : (receipts : List (List Receipt)) (stops : List StopAt) (images : List ContextImage) (s : StopAt) (i : ContextImage) → AreStops receipts stops images → IsStop receipts s i → AreStops receipts (stops ++ s ∷ []) (images ++ i ∷ [])
push_one receipts [] [] s i are is = (is, tt)
push_one receipts [] (m ∷ images) s i are is = absurd are
push_one receipts (x ∷ stops) [] s i are is = absurd are
push_one receipts (x ∷ stops) (m ∷ images) s i are is = (are.0, push_one receipts stops images s i are.1 is)

-- a stop comes last, where there is one
pub noted_of : (receipts : List (List Receipt)) (stops : List StopAt) (images : List ContextImage) (worker head : ℕ) (r : Receipt) (o : Option ContextImage) → r.outcome.image ≡ o → StandsAt receipts worker head r → AreStops receipts stops images → AreStops receipts (stops ++ stop_of worker head o) (with_stopped o images)
noted_of receipts stops images worker head r None is at are = subst (λ x. AreStops receipts x images) (sym (append-nil stops)) are
noted_of receipts stops images worker head r (Some image) is at are = push_one receipts stops images (record { worker = worker; head = head }) image are (r, at, is)
