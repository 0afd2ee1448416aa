-- An order of what nodes do is a fair order of the steps of their devices.
use Rattle.std.proofs.Common.{arith, ◌≡◌, ◌∙◌, ℕ, zero, suc, ◌+◌, ◌==◌, Bool, true, false, List, [], ◌∷◌, ◌++◌, length, take, slice_get, All, Option, None, Some, refl, sym, ap, subst, if◌then◌else◌}
use Rattle.std.proofs.lemmas.Bool.Decides.{nat_tests, eqb_tells}
use Rattle.std.proofs.lemmas.List.{append-nil}
use Rattle.std.proofs.lemmas.List.Elements.{All-head, All-tail}
use Rattle.protocol.specs.declared.events.Event.{Event}
use Rattle.protocol.specs.declared.events.Event.TheVariants as event
use Rattle.protocol.specs.declared.events.WorldEvent.{WorldEvent}
use Rattle.protocol.specs.declared.images.ContextImage.{ContextImage}
use Rattle.protocol.specs.DeviceStep.{by_refusal, device_step, restores}
use Rattle.protocol.specs.Dumps.{Good, dump_bytes}
use Rattle.protocol.specs.Refusals.{refusal_of}
use Rattle.protocol.specs.Replay.{replay}
use Rattle.protocol.specs.State.{Device, Flight}
use Rattle.protocol.specs.WorldStep.{is_done}
use Rattle.rdma_types.specs.declared.answers.Refusal.{Refusal}
use Rattle.rdma_types.specs.declared.names.Name.{Name}
use Rattle.rdma_types.specs.declared.requests.Address.{Address}
use Rattle.rdma_types.specs.Lists.{at, has}
use Rattle.order_rules.specs.Bridge.{IsAskable, IsFairOrder}
use Rattle.order_rules.specs.Lines.{Line, device_after, events_on, flown, opening_of}
use Rattle.order_rules.specs.Order.{AreRestored, Each, HasArrived, IsLine, IsTaken, Takes, with_stopped}
use Rattle.order_rules.specs.Sides.{IsInTime, IsInTimeLine}
use Rattle.order_rules.proofs.Growing.{each_push, restored-push}
use Rattle.law_orders.proofs.Devices.{IsNoStop, step_plain}
use Rattle.law_orders.proofs.Orders.{after_here, after_other}
use Rattle.law_nodes.proofs.Doers.{GoesOn, IsKnown, along_after, goes_on, id_of, is_now, is_then, number_is}
use Rattle.law_nodes.specs.Acts.{Act, Declines, Does, IsAsked, IsDump, IsOfEnd, MayDo, MayDoAll, Restores, Standing, Stops, Takes as TakesIn, Turns, after_act, beginning, outcome_of}
use Rattle.law_nodes.specs.Composed.{Lines, Script, Source, IsRunBy, AreComposed, AreDumpsTaken, Deed, Dump, IsNodeRun, LinksNone, NodeRun, PutsReadable, ReadsBack, TakesDump, device_of, dump_if, dump_put, event_of_deed, line_at, lines_from, lines_of_deeds, moved_on, node_at, openings_of, standing_of, standings_of, with_line}

-- ---- devices

-- a restore that is refused changes nothing
kept_by : (d : Device) (image : ContextImage) (r : Option Refusal) → is_done (by_refusal d (event.Restore image) r).outcome.answer ≡ false → (by_refusal d (event.Restore image) r).device ≡ d
unfolding restores
kept_by d image None h = absurd (cc)
kept_by d image (Some r) h = refl

declined_keeps : (d : Device) (image : ContextImage) → is_done (device_step d (event.Restore image)).outcome.answer ≡ false → (device_step d (event.Restore image)).device ≡ d
unfolding device_step
declined_keeps d image h = kept_by d image (refusal_of d (event.Restore image)) h

-- where an act leads that shows so
abbrev pub DeviceGoes : Standing → Act → Option Event → Type 0
DeviceGoes s a None = (after_act s a).device ≡ s.device
DeviceGoes s a (Some e) = (after_act s a).device ≡ (device_step s.device e).device

pub device_goes : (s : Standing) (a : Act) → MayDo s a → DeviceGoes s a (event_of_deed a)
device_goes s (Declines bytes image) may = declined_keeps s.device image may.1
device_goes s other may = refl

-- ---- images of dumps

-- each dump reads as the image in its place
abbrev AreDumpsOf : List Dump → List ContextImage → Type 0
AreDumpsOf [] [] = Unit {0}
AreDumpsOf [] (i ∷ is) = ⊥
AreDumpsOf (d ∷ ds) [] = ⊥
AreDumpsOf (d ∷ ds) (i ∷ is) = IsDump d.1 i × AreDumpsOf ds is

-- bytes read as one image
same_image : (bytes : List ℕ) (i j : ContextImage) → IsDump bytes i → IsDump bytes j → i ≡ j
same_image bytes i j a b = let same : Good i a.0 a.1 ≡ Good j b.0 b.1 = sym a.2 ∙ b.2 in cc

dumps_push : (ds : List Dump) (is : List ContextImage) (d : Dump) (i : ContextImage) → AreDumpsOf ds is → IsDump d.1 i → AreDumpsOf (ds ++ d ∷ []) (is ++ i ∷ [])
dumps_push [] [] d i are is_dump = (is_dump, tt)
dumps_push [] (j ∷ is) d i are is_dump = absurd are
dumps_push (x ∷ ds) [] d i are is_dump = absurd are
dumps_push (x ∷ ds) (j ∷ is) d i are is_dump = (are.0, dumps_push ds is d i are.1 is_dump)

-- the image of a dump that is taken out
record IsImageTaken (images : List ContextImage) (image : ContextImage) (others : List Dump) : Type 0 where
  rest : List ContextImage
  taken : IsTaken images image rest
  left : AreDumpsOf others rest

taken_later : (d : Dump) (j : ContextImage) (images : List ContextImage) (image : ContextImage) (others : List Dump) → IsDump d.1 j → IsImageTaken images image others → IsImageTaken (j ∷ images) image (d ∷ others)
taken_later d j images image others is_dump h = record {
  rest = j ∷ h.rest;
  taken = record { before = j ∷ h.taken.before; after = h.taken.after; there = ap (λ x. j ∷ x) h.taken.there; rest = ap (λ x. j ∷ x) h.taken.rest };
  left = (is_dump, h.left);
}

take_image : (front back : List Dump) (d : Dump) (images : List ContextImage) (image : ContextImage) → AreDumpsOf (front ++ d ∷ back) images → IsDump d.1 image → IsImageTaken images image (front ++ back)
take_image [] back d [] image are is_dump = absurd are
take_image [] back d (j ∷ images) image are is_dump =
    record { rest = images; taken = record { before = []; after = images; there = ap (λ x. x ∷ images) (same_image d.1 j image are.0 is_dump); rest = refl }; left = are.1 }
take_image (x ∷ front) back d [] image are is_dump = absurd are
take_image (x ∷ front) back d (j ∷ images) image are is_dump = taken_later x j images image (front ++ back) are.0 (take_image front back d images image are.1 is_dump)

-- the images that may be taken after an act that shows so
abbrev ImagesGo : Standing → List Dump → List ContextImage → Option Event → Type 0
ImagesGo s dumps images None = AreDumpsOf dumps images
ImagesGo s dumps images (Some e) = (rest : List ContextImage) × Takes images e rest × AreDumpsOf dumps (with_stopped (outcome_of s e).image rest)

-- an event that hands out no image
plain_images : (s : Standing) (e : Event) (dumps others : List Dump) (images : List ContextImage) → IsNoStop e → others ≡ dumps → AreDumpsOf dumps images → AreDumpsOf (others ++ []) (with_stopped (outcome_of s e).image images)
plain_images s e dumps others images plain same are =
    subst (λ o. AreDumpsOf (others ++ []) (with_stopped o images)) (sym (step_plain s.device e plain).image)
    (subst (λ ds. AreDumpsOf ds images) (sym (append-nil others ∙ same)) are)

no_images : (dumps others : List Dump) (images : List ContextImage) → others ≡ dumps → AreDumpsOf dumps images → AreDumpsOf (others ++ []) images
no_images dumps others images same are = subst (λ ds. AreDumpsOf ds images) (sym (append-nil others ∙ same)) are

end_images : (s : Standing) (e : Event) (dumps others : List Dump) (images : List ContextImage) → IsOfEnd e → others ≡ dumps → AreDumpsOf dumps images → ImagesGo s (others ++ []) images (Some e)
end_images s (event.Transmit o) dumps others images of same are = (images, refl, plain_images s (event.Transmit o) dumps others images tt same are)
end_images s (event.Expire o) dumps others images of same are = (images, refl, plain_images s (event.Expire o) dumps others images tt same are)
end_images s (event.RnrOver o) dumps others images of same are = (images, refl, plain_images s (event.RnrOver o) dumps others images tt same are)
end_images s other dumps others images of same are = absurd of

line_images : (s : Standing) (e : Event) (dumps others : List Dump) (images : List ContextImage) → IsAsked e → others ≡ dumps → AreDumpsOf dumps images → ImagesGo s (others ++ []) images (Some e)
line_images s (event.Arrive from bytes) dumps others images of same are = absurd of
line_images s (event.Stop name alone) dumps others images of same are = absurd of
line_images s (event.Restore image) dumps others images of same are = absurd of
line_images s other dumps others images of same are = (images, refl, plain_images s other dumps others images tt same are)

stop_images : (s : Standing) (name file : Name) (image : Option ContextImage) (dumps others : List Dump) (images : List ContextImage) → others ≡ dumps → ReadsBack image → AreDumpsOf dumps images → AreDumpsOf (others ++ dump_if file image) (with_stopped image images)
stop_images s name file None dumps others images same reads are = no_images dumps others images same are
stop_images s name file (Some image) dumps others images same reads are =
    dumps_push others images (file, dump_bytes _ image) image (subst (λ ds. AreDumpsOf ds images) (sym same) are) reads

restore_images : (s : Standing) (file : Name) (bytes removed : List ℕ) (image : ContextImage) (dumps others : List Dump) (images : List ContextImage) → IsDump bytes image → TakesDump dumps (Restores file bytes image removed) others → AreDumpsOf dumps images → ImagesGo s (others ++ []) images (Some (event.Restore image))
restore_images s file bytes removed image dumps others images is_dump takes are =
    let taken : IsImageTaken images image (takes.1.front ++ takes.1.back) =
    take_image takes.1.front takes.1.back (file, removed) images image (subst (λ ds. AreDumpsOf ds images) takes.1.there are) (subst (λ bs. IsDump bs image) (sym takes.0) is_dump) in
    (taken.rest, taken.taken, plain_images s (event.Restore image) (takes.1.front ++ takes.1.back) others taken.rest tt takes.1.left taken.left)

images_go : (s : Standing) (a : Act) (dumps others : List Dump) (images : List ContextImage) → MayDo s a → TakesDump dumps a others → PutsReadable s a → AreDumpsOf dumps images → ImagesGo s (others ++ dump_put s a) images (event_of_deed a)
images_go s (TakesIn d) dumps others images may takes reads are = (images, refl, plain_images s (event.Arrive d.0 d.1) dumps others images tt takes are)
images_go s (Turns e) dumps others images may takes reads are = end_images s e dumps others images may takes are
images_go s (Does e) dumps others images may takes reads are = line_images s e dumps others images may.asked takes are
images_go s (Stops name file) dumps others images may takes reads are = (images, refl, stop_images s name file (outcome_of s (event.Stop name true)).image dumps others images takes reads are)
images_go s (Restores file bytes image removed) dumps others images may takes reads are = restore_images s file bytes removed image dumps others images may.0 takes are
images_go s other dumps others images may takes reads are = no_images dumps others images takes are

-- ---- what is asked

-- the event of an act may be asked for
abbrev MayAsk : Option Event → Type 0
MayAsk None = Unit {0}
MayAsk (Some e) = IsAskable e

turn_asks : (e : Event) → IsOfEnd e → IsAskable e
turn_asks (event.Transmit o) of = tt
turn_asks (event.Expire o) of = tt
turn_asks (event.RnrOver o) of = tt
turn_asks other of = absurd of

line_asks : (e : Event) → IsAsked e → LinksNone (Does e) → IsAskable e
line_asks (event.MakeContext name) of none = tt
line_asks (event.Connect o peer partner terms) of none = absurd none
line_asks (event.Arrive from bytes) of none = tt
line_asks (event.Stop name alone) of none = tt
line_asks (event.Restore image) of none = tt
line_asks (event.Release name) of none = tt
line_asks other of none = of

may_ask : (s : Standing) (a : Act) → MayDo s a → LinksNone a → MayAsk (event_of_deed a)
may_ask s (Turns e) may none = turn_asks e may
may_ask s (Does e) may none = line_asks e may.asked none
may_ask s other may none = tt

-- ---- the walk

-- all of a line but that what arrives was sent before and verbs are at home
record IsPlaced (os : List Device) (earlier : List Line) (l : Line) : Type 0 where
  known : has (λ d. d.id) l.receipt.device os ≡ true
  place : l.receipt.place ≡ length (events_on l.receipt.device earlier)
  outcome : l.receipt.outcome ≡ (device_step (device_after os earlier l.receipt.device) l.receipt.event).outcome
  first : l.first ≡ length (flown os earlier) + 1
  count : l.count ≡ length l.receipt.outcome.sent
  askable : IsAskable l.receipt.event

-- what holds after some lines, where the nodes stand there and these dumps may be taken out
record Walked (os : List Device) (at : ℕ → Standing) (earlier : List Line) (dumps : List Dump) : Type 0 where
  each : Each (IsPlaced os) earlier
  same : (id : ℕ) → (at id).device ≡ device_after os earlier id
  images : List ContextImage
  restored : AreRestored [] earlier images
  are : AreDumpsOf dumps images

-- where nodes stand after a deed that does not show
still_same : (os : List Device) (at : ℕ → Standing) (earlier : List Line) (x : Deed) → ((id : ℕ) → (at id).device ≡ device_after os earlier id) → (after_act (at x.node) x.act).device ≡ (at x.node).device → (id : ℕ) (b : Bool) → (x.node == id) ≡ b → (if b then after_act (at id) x.act else at id).device ≡ device_after os earlier id
still_same os at earlier x same still id true is = ap (λ k. (after_act (at k) x.act).device) (sym (number_is x.node id is)) ∙ still ∙ ap (λ k. (at k).device) (number_is x.node id is) ∙ same id
still_same os at earlier x same still id false is = same id

-- .. that is an event
moved_same : (os : List Device) (at : ℕ → Standing) (earlier : List Line) (x : Deed) (e : Event) → ((id : ℕ) → (at id).device ≡ device_after os earlier id) → (after_act (at x.node) x.act).device ≡ (device_step (at x.node).device e).device → (id : ℕ) (b : Bool) → (x.node == id) ≡ b → (if b then after_act (at id) x.act else at id).device ≡ device_after os (earlier ++ line_at os earlier x.node (at x.node) e ∷ []) id
moved_same os at earlier x e same goes id true is =
    ap (λ k. (after_act (at k) x.act).device) (sym (number_is x.node id is)) ∙ goes ∙ ap (λ d. (device_step d e).device) (same x.node)
    ∙ sym (after_here os earlier (line_at os earlier x.node (at x.node) e)) ∙ ap (λ k. device_after os (earlier ++ line_at os earlier x.node (at x.node) e ∷ []) k) (number_is x.node id is)
moved_same os at earlier x e same goes id false is =
    same id ∙ sym (after_other os earlier (line_at os earlier x.node (at x.node) e) id (grind (arith, nat_tests, eqb_tells x.node id, eqb_tells id x.node, is)))

-- one deed more
go_on : (os : List Device) (at : ℕ → Standing) (earlier : List Line) (dumps dumps' : List Dump) (x : Deed) (w : Walked os at earlier dumps) → has (λ d. d.id) x.node os ≡ true → (o : Option Event) → DeviceGoes (at x.node) x.act o → ImagesGo (at x.node) dumps' w.images o → MayAsk o → Walked os (moved_on at x) (with_line os earlier x.node (at x.node) o) dumps'
go_on os at earlier dumps dumps' x w known None goes images asks =
    record { each = w.each; same = λ id. still_same os at earlier x w.same goes id (x.node == id) refl; images = w.images; restored = w.restored; are = images }
go_on os at earlier dumps dumps' x w known (Some e) goes images asks =
    let l : Line = line_at os earlier x.node (at x.node) e in
    record {
      each = each_push (IsPlaced os) earlier l w.each (record { known = known; place = refl; outcome = ap (λ d. (device_step d e).outcome) (w.same x.node); first = refl; count = refl; askable = asks });
      same = λ id. moved_same os at earlier x e w.same goes id (x.node == id) refl;
      images = with_stopped (outcome_of (at x.node) e).image images.0;
      restored = restored-push [] earlier l w.images images.0 w.restored images.1;
      are = images.2;
    }

-- what holds of the lines of a whole order
record IsWalked (os : List Device) (ls : List Line) : Type 0 where
  each : Each (IsPlaced os) ls
  untaken : List ContextImage
  restored : AreRestored [] ls untaken

walks : (os : List Device) (at : ℕ → Standing) (earlier : List Line) (dumps : List Dump) (order : List Deed) → Walked os at earlier dumps → All (IsKnown os) order → All (λ (x : Deed). LinksNone x.act) order → GoesOn MayDo at order → AreDumpsTaken at dumps order → IsWalked os (lines_from os at earlier order)
unfolding lines_from
walks os at earlier dumps [] w known none may taken = record { each = w.each; untaken = w.images; restored = w.restored }
walks os at earlier dumps (x ∷ xs) w known none may taken =
    let m : MayDo (at x.node) x.act = is_now MayDo at x xs may in
    walks os (moved_on at x) (with_line os earlier x.node (at x.node) (event_of_deed x.act)) (taken.0 ++ dump_put (at x.node) x.act) xs
    (go_on os at earlier dumps (taken.0 ++ dump_put (at x.node) x.act) x w (All-head (IsKnown os) x xs known) (event_of_deed x.act)
    (device_goes (at x.node) x.act m)
    (images_go (at x.node) x.act dumps taken.0 w.images m taken.1 taken.2 w.are)
    (may_ask (at x.node) x.act m (All-head (λ (y : Deed). LinksNone y.act) x xs none)))
    (All-tail (IsKnown os) x xs known) (All-tail (λ (y : Deed). LinksNone y.act) x xs none) (is_then MayDo at x xs may) taken.3

-- ---- the beginning

-- the device of the node with an id is the opening with that id
begins_by : (n : NodeRun) (ns : List NodeRun) (id : ℕ) (b c : Bool) → b ≡ c → (standing_of (node_at ns id)).device ≡ opening_of (openings_of ns) id → (standing_of (if b then n else node_at ns id)).device ≡ (if c then device_of n else opening_of (openings_of ns) id)
begins_by n ns id true true same h = refl
begins_by n ns id false false same h = h
begins_by n ns id true false same h = absurd (cc)
begins_by n ns id false true same h = absurd (cc)

begins : (ns : List NodeRun) (id : ℕ) → (standings_of ns id).device ≡ opening_of (openings_of ns) id
unfolding node_at at
begins [] id = refl
begins (n ∷ ns) id = begins_by n ns id (n.id == id) ((device_of n).id == id) (ap (λ k. k == id) (sym (id_of n))) (begins ns id)

begun : (ns : List NodeRun) → Walked (openings_of ns) (standings_of ns) [] []
unfolding device_after events_on replay
begun ns = record { each = λ k l h. absurd (none k l h); same = λ id. begins ns id; images = []; restored = refl; are = tt }
  where
    none : (k : ℕ) (l : Line) → slice_get [] k ≡ Some l → ⊥
    none zero l h = cc
    none (suc k) l h = cc

-- what a node may do, whatever drives it
may_by : (source : Source) (id : ℕ) (own : Address) (acts : List Act) → IsRunBy source id own acts → MayDoAll (beginning id own) acts
may_by (Script text calls) id own acts run = subst (λ x. MayDoAll (beginning id own) x) run.same run.done.may
may_by (Lines base did) id own acts run = subst (λ x. MayDoAll (beginning id own) x) run.same run.done.may

pub may_run : (n : NodeRun) → IsNodeRun n → MayDoAll (beginning n.id n.own) (n.prepared ++ n.served)
may_run n run = may_by n.source n.id n.own (n.prepared ++ n.served) run

-- .. once it is prepared
pub may_serve : (n : NodeRun) → IsNodeRun n → MayDoAll (standing_of n) n.served
may_serve n run = along_after MayDo (beginning n.id n.own) n.prepared n.served (may_run n run)

-- ---- the whole

-- what is in time was sent before
sent_before : (fs : List Flight) (to : Address) (d : Device) (e : Event) → IsInTime fs to d e → HasArrived fs to e
sent_before fs to d (event.Arrive from bytes) h = (h.0, h.1, h.2)
sent_before fs to d other h = tt

line_whole : (os : List Device) (earlier : List Line) (l : Line) → IsPlaced os earlier l → IsInTimeLine os earlier l → IsLine os earlier l
line_whole os earlier l p t =
    record { known = p.known; place = p.place; outcome = p.outcome; first = p.first; count = p.count; arrived = sent_before (flown os earlier) (opening_of os l.receipt.device).address (device_after os earlier l.receipt.device) l.receipt.event t }

pub order_is_fair : (nodes : List NodeRun) (es : List WorldEvent) (order : List Deed) → AreComposed nodes es order → IsFairOrder (openings_of nodes) (lines_of_deeds nodes order)
order_is_fair nodes es order c =
    let os : List Device = openings_of nodes in
    let ls : List Line = lines_of_deeds nodes order in
    let w : IsWalked os ls =
    walks os (standings_of nodes) [] [] order (begun nodes) c.of_nodes c.linked (goes_on MayDo IsNodeRun may_serve order nodes c.runs c.of_nodes c.whole) c.dumps in
    record {
      order = record { each = λ k l h. line_whole os (take k ls) l (w.each k l h) (c.in_time k l h); untaken = w.untaken; restored = w.restored };
      one_sided = c.one_sided;
      in_time = c.in_time;
      asked = λ k l h. record { askable = (w.each k l h).askable; at_home = c.at_home k l h };
      fresh = c.fresh;
    }
