-- What follows from the outline of a world alone.
use Rattle.std.proofs.Common.{◌≡◌, ℕ, zero, suc, List, [], ◌∷◌, ◌++◌, map, true, false, Bool, refl, sym, ap, ◌∙◌, subst}
use Rattle.std.specs.Prelude.{Option, Some, None, is_some, option_map, slice_get, flat_map, nat_eq, if◌then◌else◌}
use Rattle.std.specs.List.{IsDistinct, position}
use Rattle.rdma_types.specs.declared.names.Name.{Name}
use Rattle.rdma_types.specs.declared.names.ObjName.{ObjName}
use Rattle.rdma_types.specs.Lists.{first_that, has_name, named}
use Rattle.protocol.specs.Refusals.{has_context}
use Rattle.protocol.specs.Settle.{link_at, live_names, named_ends}
use Rattle.protocol.specs.State.{World, Device, Context, End, Link, no_context, no_device, no_end, context_at, end_at}
use Rattle.protocol.specs.WorldStep.{home, live_context, or_none}
use Rattle.law_devices.proofs.Founds.{map_at}
use Rattle.law_simulation.proofs.relation.Tables.{has_name-map, named-map}
use Rattle.law_settling.specs.Places.{EndOutline, ContextOutline, DeviceOutline, end_outline, context_outline, device_outline, outline, IsPlacedAt, HaveOwnIds, HaveOwnContexts, KeepsPlaces, OutlinesAreEnough, linked_in, linked_names, name_if}
use Rattle.law_settling.proofs.places.Lists.{position_same, the_same}

-- ---- lists

map_map : {A B C : Type 0} (f : B → C) (g : A → B) (xs : List A) → map f (map g xs) ≡ map (λ x. f (g x)) xs
map_map f g [] = refl
map_map f g (x ∷ xs) = ap (λ ys. f (g x) ∷ ys) (map_map f g xs)

pub flat_of_map : {A B C : Type 0} (f : B → List C) (g : A → B) (xs : List A) → flat_map f (map g xs) ≡ flat_map (λ x. f (g x)) xs
flat_of_map f g [] = refl
flat_of_map f g (x ∷ xs) = ap (λ ys. f (g x) ++ ys) (flat_of_map f g xs)

first_of_map : {A B : Type 0} (test : B → Bool) (f : A → B) (xs : List A) → first_that test (map f xs) ≡ option_map f (first_that (λ x. test (f x)) xs)
unfolding first_that
first_of_map test f [] = refl
first_of_map {A} {B} test f (x ∷ xs) = by_test (test (f x)) (first_of_map test f xs)
  where
    by_test : (b : Bool) → first_that test (map f xs) ≡ option_map f (first_that (λ y. test (f y)) xs) → (if b then Some (f x) else first_that test (map f xs)) ≡ option_map f (if b then Some x else first_that (λ y. test (f y)) xs)
    by_test true h = refl
    by_test false h = h

at_map : {A B : Type 0} (f : A → B) (xs : List A) (i : ℕ) (y : B) → slice_get (map f xs) i ≡ Some y → (x : A) × (slice_get xs i ≡ Some x) × (f x ≡ y)
at_map f [] i y h = absurd (cc)
at_map f (x ∷ xs) zero y h = (x, refl, the_same (f x) y h)
at_map f (x ∷ xs) (suc i) y h = at_map f xs i y h

-- ---- names

-- the name of an end, as it stands in an outline, where it is connected
abbrev named_if : Name → EndOutline → List ObjName
named_if n e = if e.connected then record { context = n; name = e.name } ∷ [] else []

abbrev named_in : ContextOutline → List ObjName
named_in c = flat_map (named_if c.name) c.ends

abbrev named_on : DeviceOutline → List ObjName
named_on d = flat_map named_in d.contexts

by_link : (l : Option Link) (o : ObjName) → name_if l o ≡ (if is_some l then o ∷ [] else [])
by_link None o = refl
by_link (Some l) o = refl

in_context : (c : Context) → linked_in c ≡ named_in (context_outline c)
in_context c = (λ i. flat_map (λ (e : End). by_link e.link (record { context = c.name; name = e.name }) i) c.ends) ∙ sym (flat_of_map (named_if c.name) end_outline c.ends)

on_device : (d : Device) → flat_map linked_in d.contexts ≡ named_on (device_outline d)
on_device d = (λ i. flat_map (λ (c : Context). in_context c i) d.contexts) ∙ sym (flat_of_map named_in context_outline d.contexts)

linked_by : (w : World) → linked_names w ≡ flat_map named_on (outline w)
unfolding linked_names outline
linked_by w = (λ i. flat_map (λ (d : Device). on_device d i) w.devices) ∙ sym (flat_of_map named_on device_outline w.devices)

-- .. and of any
abbrev all_in : ContextOutline → List ObjName
all_in c = map (λ e. record { context = c.name; name = e.name }) c.ends

abbrev all_on : DeviceOutline → List ObjName
all_on d = flat_map all_in d.contexts

any_in : (c : Context) → named_ends c ≡ all_in (context_outline c)
any_in c = sym (map_map (λ (e : EndOutline). record { context = c.name; name = e.name }) end_outline c.ends)

any_on : (d : Device) → flat_map named_ends d.contexts ≡ all_on (device_outline d)
any_on d = (λ i. flat_map (λ (c : Context). any_in c i) d.contexts) ∙ sym (flat_of_map all_in context_outline d.contexts)

live_by : (w : World) → live_names w ≡ flat_map all_on (outline w)
unfolding live_names outline
live_by w = (λ i. flat_map (λ (d : Device). any_on d i) w.devices) ∙ sym (flat_of_map all_on device_outline w.devices)

-- ---- contexts

abbrev holds : Name → DeviceOutline → Bool
holds n d = has_name (λ c. c.name) n d.contexts

pub holds_is : (n : Name) (d : Device) → has_context d n ≡ holds n (device_outline d)
holds_is n d = sym (has_name-map context_outline (λ c. c.name) (λ c. c.name) n d.contexts (λ c. refl))

-- a device of the same outline has the same contexts
pub has_same : (n : Name) (d d' : Device) → device_outline d' ≡ device_outline d → has_context d' n ≡ has_context d n
has_same n d d' h = holds_is n d' ∙ (ap (holds n) h ∙ sym (holds_is n d))

answers_by : (n : Name) (w : World) → map (λ d. has_context d n) w.devices ≡ map (holds n) (outline w)
unfolding outline
answers_by n w = (λ i. map (λ (d : Device). holds_is n d i) w.devices) ∙ sym (map_map (holds n) device_outline w.devices)

pub home_same : (w w' : World) (n : Name) → outline w' ≡ outline w → position (λ d. has_context d n) w'.devices ≡ position (λ d. has_context d n) w.devices
home_same w w' n h = position_same (λ d. has_context d n) (λ d. has_context d n) w'.devices w.devices (answers_by n w' ∙ (ap (map (holds n)) h ∙ sym (answers_by n w)))

-- ---- whether the end of a name is connected

abbrev or_no_device : Option DeviceOutline → DeviceOutline
or_no_device None = device_outline no_device
or_no_device (Some d) = d

home_by : (w : World) (n : Name) → device_outline (home w n) ≡ or_no_device (first_that (holds n) (outline w))
unfolding home outline
home_by w n =
    by_first (first_that (λ d. has_context d n) w.devices)
    ∙ (ap (λ (test : Device → Bool). or_no_device (option_map device_outline (first_that test w.devices))) (λ i d. holds_is n d i)
    ∙ ap or_no_device (sym (first_of_map (holds n) device_outline w.devices)))
  where
    by_first : (r : Option Device) → device_outline (or_none r) ≡ or_no_device (option_map device_outline r)
    by_first None = refl
    by_first (Some d) = refl

context_by : (d : Device) (n : Name) → context_outline (context_at d n) ≡ named (λ c. c.name) (context_outline no_context) n (device_outline d).contexts
context_by d n = sym (named-map context_outline (λ c. c.name) (λ c. c.name) no_context n d.contexts (λ c. refl))

end_by : (c : Context) (n : Name) → end_outline (end_at c n) ≡ named (λ e. e.name) (end_outline no_end) n (context_outline c).ends
end_by c n = sym (named-map end_outline (λ e. e.name) (λ e. e.name) no_end n c.ends (λ e. refl))

abbrev link_of : List DeviceOutline → ObjName → Bool
link_of ds o = (named (λ e. e.name) (end_outline no_end) o.name (named (λ c. c.name) (context_outline no_context) o.context (or_no_device (first_that (holds o.context) ds)).contexts).ends).connected

link_by : (w : World) (o : ObjName) → is_some (link_at w o) ≡ link_of (outline w) o
unfolding live_context
link_by w o =
    let d : Device = home w o.context in
    let c : Context = context_at d o.context in
    let in_home : context_outline c ≡ named (λ c. c.name) (context_outline no_context) o.context (or_no_device (first_that (holds o.context) (outline w))).contexts =
    context_by d o.context ∙ ap (λ (z : DeviceOutline). named (λ c. c.name) (context_outline no_context) o.context z.contexts) (home_by w o.context) in
    ap (λ (z : EndOutline). z.connected) (end_by c o.name)
    ∙ ap (λ (z : ContextOutline). (named (λ e. e.name) (end_outline no_end) o.name z.ends).connected) in_home

pub link_same : (w w' : World) (o : ObjName) → outline w' ≡ outline w → is_some (link_at w' o) ≡ is_some (link_at w o)
link_same w w' o h = link_by w' o ∙ (ap (λ ds. link_of ds o) h ∙ sym (link_by w o))

-- ---- worlds of the same outline

pub placed_same : (w w' : World) → outline w' ≡ outline w → (o : ObjName) (i j k : ℕ) → IsPlacedAt w o i j k → IsPlacedAt w' o i j k
unfolding outline
placed_same w w' h o i j k p =
    let d = at_map device_outline w'.devices i (device_outline p.device) (ap (λ ds. slice_get ds i) h ∙ map_at device_outline w.devices i p.device p.here) in
    let c = at_map context_outline d.0.contexts j (context_outline p.context) (ap (λ (z : DeviceOutline). slice_get z.contexts j) d.2 ∙ map_at context_outline p.device.contexts j p.context p.owner) in
    let e = at_map end_outline c.0.ends k (end_outline p.end) (ap (λ (z : ContextOutline). slice_get z.ends k) c.2 ∙ map_at end_outline p.context.ends k p.end p.there) in
    record {
      device = d.0;
      context = c.0;
      end = e.0;
      home = home_same w w' o.context h ∙ p.home;
      here = d.1;
      owner = c.1;
      owned = ap (λ (z : ContextOutline). z.name) c.2 ∙ p.owned;
      there = e.1;
      named = ap (λ (z : EndOutline). z.name) e.2 ∙ p.named;
      linked = ap (λ (z : EndOutline). z.connected) e.2 ∙ p.linked;
    }

pub linked_same : (w w' : World) → outline w' ≡ outline w → linked_names w' ≡ linked_names w
linked_same w w' h = linked_by w' ∙ (ap (flat_map named_on) h ∙ sym (linked_by w))

pub live_same : (w w' : World) → outline w' ≡ outline w → live_names w' ≡ live_names w
live_same w w' h = live_by w' ∙ (ap (flat_map all_on) h ∙ sym (live_by w))

pub keeps : (w w' : World) → outline w' ≡ outline w → KeepsPlaces w w'
keeps w w' h = record { outlines = h; places = placed_same w w' h; names = linked_same w w' h }

ids_by : (w : World) → map (λ d. d.id) w.devices ≡ map (λ d. d.id) (outline w)
unfolding outline
ids_by w = sym (map_map (λ (d : DeviceOutline). d.id) device_outline w.devices)

pub ids_same : (w w' : World) → outline w' ≡ outline w → HaveOwnIds w → HaveOwnIds w'
ids_same w w' h ids = subst (IsDistinct nat_eq) (sym (ids_by w' ∙ (ap (map (λ (d : DeviceOutline). d.id)) h ∙ sym (ids_by w)))) ids

pub homes_same : (w w' : World) → outline w' ≡ outline w → HaveOwnContexts w → HaveOwnContexts w'
unfolding outline
homes_same w w' h own n i d here has =
    let old = at_map device_outline w.devices i (device_outline d) (ap (λ ds. slice_get ds i) (sym h) ∙ map_at device_outline w'.devices i d here) in
    home_same w w' n h ∙ own n i old.0 old.1 (has_same n d old.0 old.2 ∙ has)

-- a device of the same outline has contexts of the same names
pub contexts_same : (d d' : Device) → device_outline d' ≡ device_outline d → map (λ c. c.name) d'.contexts ≡ map (λ c. c.name) d.contexts
contexts_same d d' h = sym (map_map (λ (c : ContextOutline). c.name) context_outline d'.contexts) ∙ (ap (λ (z : DeviceOutline). map (λ c. c.name) z.contexts) h ∙ map_map (λ (c : ContextOutline). c.name) context_outline d.contexts)

pub enough : OutlinesAreEnough
enough w w' h = (keeps w w' h, ids_same w w' h, homes_same w w' h)
