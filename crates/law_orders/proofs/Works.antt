-- An order of additions, polls and moves of one context is fair.
use Rattle.std.proofs.Common.{arith, ◌≡◌, ◌≢◌, ◌≤◌, ◌<◌, ℕ, zero, suc, ◌+◌, List, [], ◌∷◌, ◌++◌, length, map, take, slice_get, filter, Bool, true, false, Option, Some, None, refl, sym, ap, ◌∙◌, subst, inl, inr, if◌then◌else◌, length-append, bytes_eq}
use Rattle.std.specs.Prelude.{◌==◌, ◌&&◌, ◌||◌, not, codes, option_map}
use Rattle.std.proofs.lemmas.Bool.Decides.{nat_tests, eqb_tells}
use Rattle.std.proofs.lemmas.List.{append-nil, append_assoc}
use Rattle.std.proofs.lemmas.List.Elements.{filter-append}
use Rattle.rdma_types.specs.declared.answers.Answer.{Answer}
use Rattle.rdma_types.specs.declared.answers.Answer.TheVariants as answer
use Rattle.rdma_types.specs.declared.answers.Refusal.{Refusal}
use Rattle.rdma_types.specs.declared.names.Name.{Name}
use Rattle.rdma_types.specs.declared.names.ObjName.{ObjName}
use Rattle.rdma_types.specs.declared.requests.Kind.{Kind}
use Rattle.rdma_types.specs.declared.requests.Kind.TheVariants as kind
use Rattle.rdma_types.specs.declared.requests.Shape.{Shape}
use Rattle.rdma_types.specs.declared.verbs.Verb.{Verb}
use Rattle.rdma_types.specs.declared.verbs.Verb.TheVariants as verbs
use Rattle.rdma_types.specs.Kinds.{is_atomic}
use Rattle.rdma_types.specs.Limits.{latest}
use Rattle.rdma_types.specs.Lists.{at, first_that, has, has_name, some, store, without}
use Rattle.rdma_types.specs.Spans.{pieces, span}
use Rattle.protocol.specs.Bytes.{number_at}
use Rattle.protocol.specs.declared.events.Event.{Event}
use Rattle.protocol.specs.declared.events.Event.TheVariants as event
use Rattle.protocol.specs.declared.events.WorldEvent.{WorldEvent}
use Rattle.protocol.specs.declared.images.ContextImage.{ContextImage}
use Rattle.protocol.specs.declared.images.EndImage.{EndImage}
use Rattle.protocol.specs.DeviceStep as device
use Rattle.protocol.specs.DeviceStep.{Found, device_step, found_in}
use Rattle.protocol.specs.EndWords.{is_resuming, is_resuming_link}
use Rattle.protocol.specs.Images as images
use Rattle.protocol.specs.Refusals.{has_context, has_end, has_husk, refusal_of}
use Rattle.protocol.specs.State.{Context, Device, End, Link, Phase, Running, Paused, Resuming, World, context_at, device_at, end_at, no_context, no_device}
use Rattle.protocol.specs.WorldStep.{has_device, is_carried_end, is_done, is_linked_image, is_resuming_end, partner_moves}
use Rattle.packetless_machine.specs.Machine.{Machine}
use Rattle.packetless_machine.specs.Legal.{after}
use Rattle.law_simulation.specs.Kept.{is_unmade, kept_verb, verb_in}
use Rattle.law_simulation.specs.Law.{AlwaysFollows}
use Rattle.law_simulation.specs.Runs.{RunsFollow}
use Rattle.law_simulation.specs.Views.{end_of}
use Rattle.order_rules.specs.Bridge.{CopiesStand, IsAskable, is_at_home, is_work}
use Rattle.order_rules.specs.Hears.{heard, verb_heard}
use Rattle.order_rules.specs.Lines.{Line, device_after, flown, opening_of}
use Rattle.order_rules.specs.Order.{AreRestored, Each, HasArrived, IsLine, Takes, with_stopped}
use Rattle.order_rules.specs.Sides.{IsInTime, carried_after, is_stopped, makes_a_second, stops_beside_a_mover, without_restored, world_of}
use Rattle.order_rules.specs.Work.{accepts, is_addition, is_fetch_add, lines_with}
use Rattle.law_orders.proofs.Bounds.{HasFew, expected_few, found_few, in_time, link_there}
use Rattle.law_orders.proofs.Devices.{IsNoStop, step_plain}
use Rattle.law_orders.proofs.Found.{IsHome, home_is}
use Rattle.law_orders.proofs.Images.{AreUntaken, image_in, untaken_less}
use Rattle.law_orders.proofs.Orders.{AreBegun, after_all, after_here, after_line, after_other, at_after, carried-push, has_after, heard-push}
use Rattle.law_orders.proofs.Posted.{numbers_of, run_grows, span_answered, span_heard, spans, spans-both}
use Rattle.law_orders.proofs.Tame.{AllOf, IsTame, IsTameEnd, IsTameLink, of_two}
use Rattle.law_orders.proofs.TameSteps.{ExpectsFew, IsTameDevice, IsTameFound, IsTameHere, IsTameImage, Keeps, contexts_found, end_tame, here_holds, is_mover, work_keeps}
use Rattle.law_orders.proofs.Playing.{still_stops}
use Rattle.law_orders.proofs.Walk.{IsFairLine, Reached, next}
use Rattle.law_simulation.proofs.relation.Tables.{name_tells, name-named_there, named-absent, same_name}
use Rattle.law_simulation.proofs.stop_restore.Lists.{has_without}

-- ---- how many additions were heard

if_more : (b : Bool) (x : Line) → length (if b then x ∷ [] else []) ≡ (if b then 1 else 0)
if_more true x = refl
if_more false x = refl

pub count-push : (test : Line → Bool) (ls : List Line) (l : Line) → lines_with test (ls ++ l ∷ []) ≡ lines_with test ls + (if test l then 1 else 0)
count-push test ls l = ap length (filter-append test ls (l ∷ [])) ∙ (length-append (filter test ls) (filter test (l ∷ [])) ∙ ap (λ n. lines_with test ls + n) (if_more (test l) l))

atomic_span : (s : Shape) (t : ℕ) → is_fetch_add s.kind ≡ true → span s t ≡ 1
unfolding span
atomic_span s t h = ap (λ b. if b then 1 else pieces s.length t) (is_atomic_add s.kind h)
  where
    is_atomic_add : (k : Kind) → is_fetch_add k ≡ true → is_atomic k ≡ true
    is_atomic_add kind.FetchAdd h = refl
    is_atomic_add other h = absurd (cc)

and_last : (a b c : Bool) → (a && (b && c)) ≡ true → c ≡ true
and_last true true c h = h
and_last true false c h = absurd (cc)
and_last false b c h = absurd (cc)

and_first : (a b : Bool) → (a && b) ≡ true → a ≡ true
and_first true b h = refl
and_first false b h = absurd (cc)

and_second : (a b : Bool) → (a && b) ≡ true → b ≡ true
and_second true b h = h
and_second false b h = absurd (cc)

answered_span : (a : Answer) (n : ℕ) → n ≡ 1 → span_answered a n ≡ (if is_done a then 1 else 0)
answered_span answer.Done n one = one
answered_span other n one = refl

pub verb_spans : (t : ℕ) (v : Verb) (a : Answer) → spans t (kept_verb (Some v) a) ≤ span_heard t v a
unfolding kept_verb spans
verb_spans t v a = by (is_unmade a)
  where
    by : (b : Bool) → spans t (if b then [] else (v, a) ∷ []) ≤ span_heard t v a
    by true = omega arith
    by false = omega arith

pub line_spans : (t : ℕ) (k : ℕ) (e : Event) (a : Answer) → is_work k e ≡ true → spans t (kept_verb (verb_heard e) a) ≤ (if is_addition e && is_done a then 1 else 0)
unfolding verb_heard verb_in kept_verb spans
line_spans t k (event.PostSend o r) a work =
    let add : is_fetch_add r.shape.kind ≡ true = and_last (k == 1) (bytes_eq o.context (codes "a")) (is_fetch_add r.shape.kind) work in
    omega (arith, verb_spans t (verbs.PostSend o r) a, answered_span a (span r.shape t) (atomic_span r.shape t add), ap {B = ℕ} (λ b. if b && is_done a then 1 else 0) add)
line_spans t k (event.Poll o most) a work = verb_spans t (verbs.Poll o most) a
line_spans t k (event.Transmit o) a work = omega arith
line_spans t k (event.Arrive from bytes) a work = omega arith
line_spans t k (event.Expire o) a work = omega arith
line_spans t k (event.RnrOver o) a work = omega arith
line_spans t k (event.Stop name alone) a work = omega arith
line_spans t k (event.Restore image) a work = omega arith
line_spans t k (event.Release name) a work = omega arith
line_spans t k other a work = absurd (cc)

-- ---- more numbers are more

module _ (n n' : ℕ) (more : n ≤ n') where
  tame_more : (moves : Bool) (o : Option Link) → IsTameLink n moves o → IsTameLink n' moves o
  tame_more moves None t = tt
  tame_more moves (Some l) t = record { peer = t.peer; resuming = t.resuming; ended = λ h. omega (arith, t.ended h, more) }

  ends_more : (moves : Bool) (es : List End) → AllOf (IsTameEnd n moves) es → AllOf (IsTameEnd n' moves) es
  ends_more moves [] t = tt
  ends_more moves (e ∷ es) t = (record { number = t.0.number; link = tame_more moves e.link t.0.link }, ends_more moves es t.1)

  contexts_more : (cs : List Context) → AllOf (IsTameHere n) cs → AllOf (IsTameHere n') cs
  contexts_more [] t = tt
  contexts_more (c ∷ cs) t = (record { named = t.0.named; ends = ends_more (is_mover c.name) c.ends t.0.ends }, contexts_more cs t.1)

  pub devices_more : (ds : List Device) → AllOf (IsTameDevice n) ds → AllOf (IsTameDevice n') ds
  devices_more [] t = tt
  devices_more (d ∷ ds) t = (contexts_more d.contexts t.0, devices_more ds t.1)

  pub images_more : (is : List ContextImage) → AllOf (IsTameImage n) is → AllOf (IsTameImage n') is
  images_more [] t = tt
  images_more (i ∷ is) t = (record { name = t.0.name; ends = ends_more true (images.context_of i).ends t.0.ends }, images_more is t.1)

-- ---- lists of tame things

all_at : {A : Type 0} (P : A → Type 0) (number : A → ℕ) (none : A) (k : ℕ) (xs : List A) → AllOf P xs → has number k xs ≡ true → P (at number none k xs)
unfolding at has
all_at P number none k [] all there = absurd (cc)
all_at {A} P number none k (x ∷ xs) all there = by (number x == k) there (all_at P number none k xs all.1)
  where
    by : (b : Bool) → (b || has number k xs) ≡ true → (has number k xs ≡ true → P (at number none k xs)) → P (if b then x else at number none k xs)
    by true h later = all.0
    by false h later = later h

all_store : {A : Type 0} (P : A → Type 0) (number : A → ℕ) (k : ℕ) (e : A) (xs : List A) → AllOf P xs → P e → AllOf P (store number k e xs)
unfolding store
all_store P number k e [] all h = (h, tt)
all_store {A} P number k e (x ∷ xs) all h = by (number x == k) (all_store P number k e xs all.1 h)
  where
    by : (b : Bool) → AllOf P (store number k e xs) → AllOf P (if b then e ∷ xs else x ∷ store number k e xs)
    by true later = (h, all.1)
    by false later = (all.0, later)

all_image : (P : ContextImage → Type 0) (n : Name) (i : ContextImage) (is : List ContextImage) → AllOf P is → image_in n is ≡ Some i → P i
unfolding first_that
all_image P n i [] all h = absurd (cc)
all_image P n i (x ∷ is) all h = by (bytes_eq x.name n) h (all_image P n i is all.1)
  where
    some_is : (x y : ContextImage) → Some x ≡ Some y → x ≡ y
    some_is x y e = cc

    by : (b : Bool) → (if b then Some x else image_in n is) ≡ Some i → (image_in n is ≡ Some i → P i) → P i
    by true e later = subst P (some_is x i e) all.0
    by false e later = later e

all_less : (P : ContextImage → Type 0) (n : Name) (is : List ContextImage) → AllOf P is → AllOf P (without (λ c. c.name) n is)
unfolding without
all_less P n [] all = tt
all_less P n (x ∷ is) all = by (bytes_eq x.name n) (all_less P n is all.1)
  where
    by : (b : Bool) → AllOf P (without (λ c. c.name) n is) → AllOf P (if b then is else x ∷ without (λ c. c.name) n is)
    by true later = all.1
    by false later = (all.0, later)

all_more : (P : ContextImage → Type 0) (o : Option ContextImage) (is : List ContextImage) → AllOf P is → ((i : ContextImage) → o ≡ Some i → P i) → AllOf P (with_stopped o is)
all_more P None is all h = all
all_more P (Some i) [] all h = (h i refl, tt)
all_more P (Some i) (x ∷ is) all h = (all.0, all_more P (Some i) is all.1 h)

less_restored : (P : ContextImage → Type 0) (e : Event) (a : Answer) (is : List ContextImage) → AllOf P is → AllOf P (without_restored e a is)
less_restored P (event.Restore image) answer.Done is all = all_less P image.name is all
less_restored P (event.Restore image) other is all = all
less_restored P other a is all = all

-- ---- the image of a tame context

link_image_tame : (n : ℕ) (c : Context) (e : End) (l : Link) → IsTame n true l → IsTame n true (images.link_of_image (images.image_of c).regions (images.untold_images e.link) (images.link_image c.regions l))
unfolding images.link_of_image images.link_image
link_image_tame n c e l t = record { peer = t.peer; resuming = λ h. refl; ended = t.ended }

option_image_tame : (n : ℕ) (c : Context) (e : End) (o : Option Link) → IsTameLink n true o → IsTameLink n true (option_map (images.link_of_image (images.image_of c).regions (images.untold_images e.link)) (option_map (images.link_image c.regions) o))
option_image_tame n c e None t = tt
option_image_tame n c e (Some l) t = link_image_tame n c e l t

ends_image_tame : (n : ℕ) (c : Context) (es : List End) → AllOf (IsTameEnd n true) es → AllOf (IsTameEnd n true) (map (images.end_of_image (images.image_of c)) (map (images.end_image c) es))
unfolding images.end_of_image images.end_image
ends_image_tame n c [] t = tt
ends_image_tame n c (e ∷ es) t = (record { number = t.0.number; link = option_image_tame n c e e.link t.0.link }, ends_image_tame n c es t.1)

image_tame : (n : ℕ) (c : Context) → is_mover c.name ≡ true → AllOf (IsTameEnd n true) c.ends → IsTameImage n (images.image_of c)
unfolding images.context_of images.image_of
image_tame n c mover t = record { name = mover; ends = ends_image_tame n c c.ends t }

-- ---- nobody moves beside

number_low : (a p : ℕ) → of_two ≤ a → p < of_two → (a == p) ≡ false
number_low a p high low = grind (arith, nat_tests, eqb_tells a p, high, low)

and_none : (a : Bool) → (a && false) ≡ false
and_none true = refl
and_none false = refl

still_phase : (a ended : Bool) (p : Phase) → (p ≡ Resuming → a ≡ false) → (a && (not ended && is_resuming p)) ≡ false
still_phase false ended p h = refl
still_phase true true p h = refl
still_phase true false Running h = refl
still_phase true false Paused h = refl
still_phase true false Resuming h = h refl

module _ (n p : ℕ) (low : p < of_two) where
  still_end : (moves : Bool) (e : End) (o : Option Link) → (moves ≡ true → of_two ≤ e.number) → IsTameLink n moves o → (e.number == p && is_resuming_link o) ≡ false
  still_end moves e None number t = and_none (e.number == p)
  still_end moves e (Some l) number t = still_phase (e.number == p) l.ended l.moving.phase (λ q. number_low e.number p (number (t.resuming q)) low)

  still_ends : (moves : Bool) (es : List End) → AllOf (IsTameEnd n moves) es → some (λ e. e.number == p && is_resuming_link e.link) es ≡ false
  unfolding some
  still_ends moves [] t = refl
  still_ends moves (e ∷ es) t = ap (λ b. b || some (λ x. x.number == p && is_resuming_link x.link) es) (still_end moves e e.link t.0.number t.0.link) ∙ still_ends moves es t.1

  still_contexts : (cs : List Context) → AllOf (IsTameHere n) cs → some (λ c. some (λ e. e.number == p && is_resuming_link e.link) c.ends) cs ≡ false
  unfolding some
  still_contexts [] t = refl
  still_contexts (c ∷ cs) t = ap (λ b. b || some (λ x. some (λ e. e.number == p && is_resuming_link e.link) x.ends) cs) (still_ends (is_mover c.name) c.ends t.0.ends) ∙ still_contexts cs t.1

  pub still_devices : (ds : List Device) → AllOf (IsTameDevice n) ds → some (λ d. some (λ c. some (λ e. e.number == p && is_resuming_link e.link) c.ends) d.contexts) ds ≡ false
  unfolding some
  still_devices [] t = refl
  still_devices (d ∷ ds) t = ap (λ b. b || some (λ x. some (λ c. some (λ e. e.number == p && is_resuming_link e.link) c.ends) x.contexts) ds) (still_contexts d.contexts t.0) ∙ still_devices ds t.1

mover_is : (a b : Name) → is_mover a ≡ true → is_mover b ≡ true → a ≡ b
mover_is a b h k = elim (name_tells a (codes "b")) [
  | inr x ↦ absurd (cc (x.0, h))
  | inl x ↦ elim (name_tells b (codes "b")) [ inr y ↦ absurd (cc (y.0, k)) | inl y ↦ x.1 ∙ sym y.1 ]
]

none_carried : (n : ℕ) (name : Name) (is : List ContextImage) → AllOf (IsTameImage n) is → is_mover name ≡ true → has_name (λ c. c.name) name is ≡ false → is ≡ []
unfolding has_name
none_carried n name [] t mover absent = refl
none_carried n name (i ∷ is) t mover absent = absurd (cc (absent, ap (λ x. bytes_eq i.name x) (mover_is i.name name t.0.name mover), same_name i.name))

none_moves : (w : World) (n : ℕ) (es : List End) → AllOf (IsTameEnd n true) es → w.carried ≡ [] → AllOf (IsTameDevice n) w.devices → some (λ e. partner_moves w e.link) es ≡ false
unfolding some
none_moves w n [] t none tame = refl
none_moves w n (e ∷ es) t none tame = ap (λ b. b || some (λ x. partner_moves w x.link) es) (by e.link t.0.link) ∙ none_moves w n es t.1 none tame
  where
    empty : (p : ℕ) → is_carried_end w p ≡ false
    empty p = ap (λ is. some (λ (c : ContextImage). some (λ (x : EndImage). x.number == p && is_linked_image x.linked) c.ends) is) none

    by : (o : Option Link) → IsTameLink n true o → partner_moves w o ≡ false
    by None t = refl
    by (Some l) t = ap (λ b. not l.ended && (b || is_resuming_end w l.peer)) (empty l.peer) ∙ (ap (λ b. not l.ended && b) (still_devices n l.peer (t.peer refl) w.devices tame) ∙ and_none (not l.ended))

-- ---- the invariant

-- how many additions were accepted
abbrev pub accepted : List Line → ℕ
accepted ls = lines_with accepts ls

-- what stays true of devices and images over such lines
pub record IsKept (os : List Device) (ls : List Line) : Type 0 where
  pub devices : AllOf (IsTameDevice (accepted ls)) (after_all os ls)
  pub carried : AllOf (IsTameImage (accepted ls)) (carried_after [] ls)
  pub home : has_context (device_after os ls 1) (codes "a") ≡ true
  pub heard : (t : ℕ) → spans t (heard ls) ≤ accepted ls

-- a line of work
pub record IsWorkLine (l : Line) : Type 0 where
  pub work : is_work l.receipt.device l.receipt.event ≡ true
  pub askable : IsAskable l.receipt.event

is_of : (a b : ℕ) → (a == b) ≡ true → a ≡ b
is_of a b h = grind (arith, nat_tests, eqb_tells a b, h)

name_of_test : (a b : Name) → bytes_eq a b ≡ true → a ≡ b
name_of_test a b h = elim (name_tells a b) [ inl x ↦ x.1 | inr x ↦ absurd (cc (x.0, h)) ]

true_not_false : true ≡ false → ⊥
true_not_false h = cc

a_not_b : codes "a" ≢ codes "b"
a_not_b h = let same : true ≡ false = sym (same_name (codes "a")) ∙ ap (λ x. bytes_eq (codes "a") x) h in true_not_false same

-- an end that is there lies in a context that is
context_there : (d : Device) (c x : Name) → has_end (context_at d c) x ≡ true → has_context d c ≡ true
unfolding has_name
context_there d c x there = by (has_context d c) refl
  where
    by : (b : Bool) → has_context d c ≡ b → has_context d c ≡ true
    by true h = h
    by false h = absurd (cc (ap (λ (y : Context). has_end y x) (named-absent (λ z. z.name) no_context c d.contexts h), there))

module _ (os : List Device) (start : Machine) (begun : AreBegun os) (unposted : (q : ObjName) (t : ℕ) → numbers_of t start q ≡ 0) where
  module _ (ls : List Line) (l : Line) (untaken rest : List ContextImage) (r : Reached os start ls untaken) (kept : IsKept os ls) (line : IsLine os ls l) (work : IsWorkLine l) (low : accepted ls ≤ latest) (takes : Takes untaken l.receipt.event rest) where
    abbrev k : ℕ
    k = l.receipt.device

    abbrev e : Event
    e = l.receipt.event

    abbrev n : ℕ
    n = accepted ls

    abbrev m : Machine
    m = after start r.steps

    abbrev w : World
    w = r.world

    abbrev d : Device
    d = device_after os ls k

    made : has_device w k ≡ true
    made = ap (has (λ x. x.id) k) r.devices ∙ has_after os ls k begun line.known

    here : device_at w k ≡ d
    here = ap (at (λ x. x.id) no_device k) r.devices ∙ at_after os ls k begun line.known

    tame : IsTameDevice n d
    tame = subst (IsTameDevice n) (at_after os ls k begun line.known) (all_at (IsTameDevice n) (λ x. x.id) no_device k (after_all os ls) kept.devices (has_after os ls k begun line.known))

    has_few : HasFew m n
    has_few q t = omega (arith, run_grows start r.steps q t, unposted q t, ap (spans t) r.heard_all, kept.heard t)

    -- what a packet finds
    first_few : (number : ℕ) (f : Found) (fs : List Found) → found_in number d.contexts ≡ f ∷ fs → (f.link.sender.top ≤ n) × (f.link.receiver.expected ≤ n)
    first_few number f fs found =
        let few = found_few w m r.stands n has_few k made number f fs (ap (λ x. found_in number x.contexts) here ∙ found) in
        let ended : f.link.ended ≡ true → f.link.receiver.expected ≤ n = (subst (AllOf (IsTameFound n d tame)) found (contexts_found n d tame number d.contexts tame)).0.link.ended in
        (few.top, by f.link.ended refl few.expected ended)
      where
        by : (b : Bool) → f.link.ended ≡ b → (f.link.ended ≡ false → f.link.receiver.expected ≤ n) → (f.link.ended ≡ true → f.link.receiver.expected ≤ n) → f.link.receiver.expected ≤ n
        by true is alive ended = ended is
        by false is alive ended = alive is

    -- ---- the line is fair

    time_of : (x : Event) → HasArrived (flown os ls) (opening_of os k).address x → IsInTime (flown os ls) (opening_of os k).address d x
    time_of (event.Arrive from bytes) arrived = (arrived.0, arrived.1, arrived.2, in_time n d arrived.1.number bytes low (first_few (number_at 5 3 bytes)))
    time_of other arrived = tt

    beside : (name : Name) (alone : Bool) → is_mover name ≡ true → (b : Bool) → has_context d name ≡ b → stops_beside_a_mover (world_of os ls) k (event.Stop name alone) ≡ false
    unfolding stops_beside_a_mover world_of some
    beside name alone mover true there =
        let home = home_is w m k name r.stands.placed made (ap (λ x. has_context x name) here ∙ there) in
        let none : carried_after [] ls ≡ [] = none_carried n name (carried_after [] ls) kept.carried mover (ap (has_name (λ c. c.name) name) (sym r.carried) ∙ home.uncarried) in
        let named : (context_at d name).name ≡ name = name-named_there (λ x. x.name) no_context name d.contexts there in
        let moves : is_mover (context_at d name).name ≡ true = ap is_mover named ∙ mover in
        let ends : AllOf (IsTameEnd n true) (context_at d name).ends = subst (λ b. AllOf (IsTameEnd n b) (context_at d name).ends) moves (here_holds n d name tame).ends in
        ap (λ x. some (λ y. partner_moves (world_of os ls) y.link) (context_at x name).ends) (at_after os ls k begun line.known)
        ∙ none_moves (world_of os ls) n (context_at d name).ends ends none kept.devices
    beside name alone mover false absent =
        ap (λ x. some (λ y. partner_moves (world_of os ls) y.link) (context_at x name).ends) (at_after os ls k begun line.known)
        ∙ ap (λ (x : Context). some (λ y. partner_moves (world_of os ls) y.link) x.ends) (named-absent (λ x. x.name) no_context name d.contexts absent)

    side_of_event : (x : Event) → is_work k x ≡ true → stops_beside_a_mover (world_of os ls) k x ≡ false
    unfolding stops_beside_a_mover
    side_of_event (event.Stop name alone) h = beside name alone h (has_context d name) refl
    side_of_event other h = refl

    lives : (c : Name) → (k == 1) ≡ true → bytes_eq c (codes "a") ≡ true → (has_context d c || has_husk d c) ≡ true
    lives c first named =
        ap (λ b. b || has_husk d c)
        (ap (λ x. has_context d x) (name_of_test c (codes "a") named) ∙ (ap (λ j. has_context (device_after os ls j) (codes "a")) (is_of k 1 first) ∙ kept.home))

    home_of_event : (x : Event) → is_work k x ≡ true → is_at_home d x (verb_in x) ≡ true
    unfolding verb_in
    home_of_event (event.PostSend o q) h = lives o.context (and_first (k == 1) (bytes_eq o.context (codes "a") && is_fetch_add q.shape.kind) h) (and_first (bytes_eq o.context (codes "a")) (is_fetch_add q.shape.kind) (and_second (k == 1) _ h))
    home_of_event (event.Poll o most) h = lives o.context (and_first (k == 1) (bytes_eq o.context (codes "a")) h) (and_second (k == 1) (bytes_eq o.context (codes "a")) h)
    home_of_event (event.Transmit o) h = refl
    home_of_event (event.Arrive from bytes) h = refl
    home_of_event (event.Expire o) h = refl
    home_of_event (event.RnrOver o) h = refl
    home_of_event (event.Stop name alone) h = refl
    home_of_event (event.Restore image) h = refl
    home_of_event (event.Release name) h = refl
    home_of_event other h = absurd (cc)

    second_of_event : (x : Event) → is_work k x ≡ true → makes_a_second (world_of os ls) x ≡ false
    unfolding makes_a_second
    second_of_event (event.MakeContext name) h = absurd (cc)
    second_of_event other h = refl

    pub fair : IsFairLine os ls l
    fair = record {
      is_line = line;
      one_sided = ap (λ b. is_stopped l.receipt.outcome.answer && b) (side_of_event e work.work) ∙ and_none (is_stopped l.receipt.outcome.answer);
      in_time = time_of e line.arrived;
      asked = record { askable = work.askable; at_home = home_of_event e work.work };
      fresh = ap (λ b. is_done l.receipt.outcome.answer && b) (second_of_event e work.work) ∙ and_none (is_done l.receipt.outcome.answer);
    }

    -- ---- what is kept

    few_first : (fs : List Found) → ((f : Found) (more : List Found) → fs ≡ f ∷ more → f.link.receiver.expected ≤ n) → (all : IsTameDevice n d) → ExpectsFew n d all fs
    few_first [] few all = tt
    few_first (f ∷ fs) few all = few f fs refl

    end_home : (o : ObjName) → has_end (context_at d o.context) o.name ≡ true → IsHome w k o.context
    end_home o there = home_is w m k o.context r.stands.placed made (ap (λ y. has_context y o.context) here ∙ context_there d o.context o.name there)

    in_world : (o : ObjName) (x : Link) → has_end (context_at d o.context) o.name ≡ true → (end_at (context_at d o.context) o.name).link ≡ Some x → (end_of w o).link ≡ Some x
    in_world o x there linked = link_there w d o x (end_home o there).live ((end_home o there).home ∙ here) linked

    expires_few : (o : ObjName) (x : Link) → has_end (context_at d o.context) o.name ≡ true → (end_at (context_at d o.context) o.name).link ≡ Some x → x.receiver.expected ≤ n
    expires_few o x there linked = by x.ended refl
      where
        by : (b : Bool) → x.ended ≡ b → x.receiver.expected ≤ n
        by false is = expected_few w m r.stands n has_few o x (in_world o x there linked) is
        by true is = (subst (IsTameLink n (is_mover (context_at d o.context).name)) linked (end_tame n d tame o.context o.name there).link).ended is

    restored_tame : (image : ContextImage) → Takes untaken (event.Restore image) rest → IsTameImage n image
    restored_tame image t =
        all_image (IsTameImage n) image.name image w.carried (subst (AllOf (IsTameImage n)) (sym r.carried) kept.carried) (untaken_less w.carried t.before t.after image (subst (AreUntaken w.carried) t.there r.untaken)).found

    keeps : (x : Event) → is_work k x ≡ true → Takes untaken x rest → Keeps n d x
    keeps (event.PostSend o q) h t = tt
    keeps (event.Poll o most) h t = tt
    keeps (event.Transmit o) h t = tt
    keeps (event.Arrive from bytes) h t = λ p is all. few_first (found_in p.dest d.contexts) (λ f more same. (first_few p.dest f more same).1) all
    keeps (event.Expire o) h t = λ x there linked. expires_few o x there linked
    keeps (event.RnrOver o) h t = tt
    keeps (event.Stop name alone) h t = tt
    keeps (event.Restore image) h t = restored_tame image t
    keeps (event.Release name) h t = tt
    keeps other h t = absurd (cc)

    more : accepted ls ≤ accepted (ls ++ l ∷ [])
    more = omega (arith, count-push accepts ls l)

    devices_kept : AllOf (IsTameDevice (accepted (ls ++ l ∷ []))) (after_all os (ls ++ l ∷ []))
    devices_kept =
        devices_more n (accepted (ls ++ l ∷ [])) more (after_all os (ls ++ l ∷ []))
        (subst (AllOf (IsTameDevice n)) (after_line os ls l begun line.known) (all_store (IsTameDevice n) (λ x. x.id) k (device_step d e).device (after_all os ls) kept.devices (work_keeps n d tame e (keeps e work.work takes))))

    stop_out : (name : Name) (alone : Bool) (i : ContextImage) → is_mover name ≡ true → (q : Option Refusal) → refusal_of d (event.Stop name alone) ≡ q → (device.by_refusal d (event.Stop name alone) q).outcome.image ≡ Some i → IsTameImage n i
    unfolding device.stops
    stop_out name alone i mover (Some q) h out = absurd (cc)
    stop_out name alone i mover None h out =
        let there = (still_stops d name alone h).0 in
        let named : (context_at d name).name ≡ name = name-named_there (λ x. x.name) no_context name d.contexts there in
        let moves : is_mover (context_at d name).name ≡ true = ap is_mover named ∙ mover in
        let is : images.image_of (context_at d name) ≡ i = cc in
        subst (IsTameImage n) is (image_tame n (context_at d name) moves (subst (λ b. AllOf (IsTameEnd n b) (context_at d name).ends) moves (here_holds n d name tame).ends))

    none_out : (x : Event) (i : ContextImage) → IsNoStop x → (device_step d x).outcome.image ≡ Some i → ⊥
    none_out x i plain out = let none = (step_plain d x plain).image in cc (none, out)

    out_tame : (x : Event) (i : ContextImage) → is_work k x ≡ true → (device_step d x).outcome.image ≡ Some i → IsTameImage n i
    unfolding device_step
    out_tame (event.Stop name alone) i h out = stop_out name alone i h (refusal_of d (event.Stop name alone)) refl out
    out_tame other i h out = absurd (none_out other i tt out)

    carried_kept : AllOf (IsTameImage (accepted (ls ++ l ∷ []))) (carried_after [] (ls ++ l ∷ []))
    carried_kept =
        images_more n (accepted (ls ++ l ∷ [])) more (carried_after [] (ls ++ l ∷ []))
        (subst (AllOf (IsTameImage n)) (sym (carried-push [] ls l))
        (all_more (IsTameImage n) l.receipt.outcome.image _ (less_restored (IsTameImage n) e l.receipt.outcome.answer (carried_after [] ls) kept.carried)
        (λ i out. out_tame e i work.work (ap (λ o. o.image) (sym line.outcome) ∙ out))))

    stop_stays : (name : Name) (alone : Bool) → is_mover name ≡ true → (q : Option Refusal) → refusal_of d (event.Stop name alone) ≡ q → has_context d (codes "a") ≡ true → has_context (device.by_refusal d (event.Stop name alone) q).device (codes "a") ≡ true
    unfolding device.stops
    stop_stays name alone mover (Some q) h there = there
    stop_stays name alone mover None h there =
        let lives = (still_stops d name alone h).0 in
        let named : (context_at d name).name ≡ name = name-named_there (λ x. x.name) no_context name d.contexts lives in
        has_without (λ x. x.name) (context_at d name).name (codes "a") d.contexts (λ same. a_not_b (same ∙ (named ∙ name_of_test name (codes "b") mover))) ∙ there

    event_stays : (x : Event) → is_work k x ≡ true → has_context d (codes "a") ≡ true → has_context (device_step d x).device (codes "a") ≡ true
    unfolding device_step
    event_stays (event.Stop name alone) h there = stop_stays name alone h (refusal_of d (event.Stop name alone)) refl there
    event_stays other h there = (step_plain d other tt).stays (codes "a") there

    home_kept : has_context (device_after os (ls ++ l ∷ []) 1) (codes "a") ≡ true
    home_kept = by (1 == k) refl
      where
        by : (b : Bool) → (1 == k) ≡ b → has_context (device_after os (ls ++ l ∷ []) 1) (codes "a") ≡ true
        by false other = ap (λ x. has_context x (codes "a")) (after_other os ls l 1 other) ∙ kept.home
        by true same =
            let is : 1 ≡ k = is_of 1 k same in
            ap (λ j. has_context (device_after os (ls ++ l ∷ []) j) (codes "a")) is
            ∙ (ap (λ x. has_context x (codes "a")) (after_here os ls l)
            ∙ event_stays e work.work (ap (λ j. has_context (device_after os ls j) (codes "a")) (sym is) ∙ kept.home))

    heard_kept : (t : ℕ) → spans t (heard (ls ++ l ∷ [])) ≤ accepted (ls ++ l ∷ [])
    heard_kept t =
        omega (
          arith,
          ap (spans t) (heard-push ls l),
          spans-both t (heard ls) (kept_verb (verb_heard e) l.receipt.outcome.answer),
          line_spans t k e l.receipt.outcome.answer work.work,
          count-push accepts ls l,
          kept.heard t,
        )

    pub next_kept : IsKept os (ls ++ l ∷ [])
    next_kept = record { devices = devices_kept; carried = carried_kept; home = home_kept; heard = heard_kept }

  -- ---- all lines

  accepted_less : (ls more : List Line) → accepted ls ≤ accepted (ls ++ more)
  accepted_less ls more = omega (arith, ap length (filter-append accepts ls more), length-append (filter accepts ls) (filter accepts more))

  module _ (always : (e : WorldEvent) → AlwaysFollows e) (runs : RunsFollow) (copies : CopiesStand) where
    some_line : (x y : Line) → Some x ≡ Some y → x ≡ y
    some_line x y h = cc

    each_cons : (xs : List Line) (x : Line) (ys : List Line) → IsFairLine os xs x → Each (λ zs y. IsFairLine os ((xs ++ x ∷ []) ++ zs) y) ys → Each (λ zs y. IsFairLine os (xs ++ zs) y) (x ∷ ys)
    each_cons xs x ys first rest zero y at = subst (λ zs. IsFairLine os zs y) (sym (append-nil xs)) (subst (IsFairLine os xs) (some_line x y at) first)
    each_cons xs x ys first rest (suc j) y at = subst (λ zs. IsFairLine os zs y) (append_assoc xs (x ∷ []) (take j ys)) (rest j y at)

    pub works : (ls more : List Line) (untaken left : List ContextImage) → ((k : ℕ) (l : Line) → slice_get more k ≡ Some l → IsWorkLine l) → Each (λ xs l. IsLine os (ls ++ xs) l) more → accepted (ls ++ more) ≤ latest → AreRestored untaken more left →
        Reached os start ls untaken → IsKept os ls → Each (λ xs l. IsFairLine os (ls ++ xs) l) more
    works ls [] untaken left work lines low restored r kept = λ k l at. absurd (cc)
    works ls (l ∷ more) untaken left work lines low restored r kept =
        let line : IsLine os ls l = subst (λ xs. IsLine os xs l) (append-nil ls) (lines 0 l refl) in
        let few : accepted ls ≤ latest = omega (arith, accepted_less ls (l ∷ more), low) in
        let is : IsFairLine os ls l = fair ls l untaken restored.0 r kept line (work 0 l refl) few restored.1 in
        let later : Each (λ xs x. IsFairLine os ((ls ++ l ∷ []) ++ xs) x) more =
        works (ls ++ l ∷ []) more (with_stopped l.receipt.outcome.image restored.0) left (λ j x at. work (suc j) x at)
        (λ j x at. subst (λ xs. IsLine os xs x) (sym (append_assoc ls (l ∷ []) (take j more))) (lines (suc j) x at))
        (subst (λ xs. accepted xs ≤ latest) (sym (append_assoc ls (l ∷ []) more)) low) restored.2
        (next always runs copies os start begun ls l untaken restored.0 r is restored.1)
        (next_kept ls l untaken restored.0 r kept line (work 0 l refl) few restored.1) in
        each_cons ls l more is later
