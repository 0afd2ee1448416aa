-- A world in which one live context is changed: what of it stays, and what is seen of the change.
use Rattle.std.proofs.Common.{arith, ◌≡◌, ◌≢◌, ◌≤◌, ℕ, List, [], ◌∷◌, ◌++◌, map, true, false, Bool, refl, sym, ap, ◌∙◌, subst, inl, inr}
use Rattle.std.proofs.lemmas.List.{append_assoc, append-nil}
use Rattle.std.proofs.lemmas.List.Elements.{All-head, All-tail}
use Rattle.std.specs.Prelude.{All, Option, Some, None, not, is_some, ◌&&◌, ◌||◌, ◌==◌, if◌then◌else◌, flat_map, bytes_eq}
use Rattle.std.specs.List.{count_by}
use Rattle.rdma_types.specs.declared.names.Name.{Name}
use Rattle.rdma_types.specs.declared.names.ObjName.{ObjName}
use Rattle.rdma_types.specs.declared.requests.Address.{Address}
use Rattle.rdma_types.specs.declared.answers.Answer.{Answer}
use Rattle.rdma_types.specs.Lists.{named, has_name, has_word, store_named, store, first_that, some}
use Rattle.protocol.specs.Images as images
use Rattle.protocol.specs.State.{World, Device, Context, End, Husk, context_at, device_at, no_device, no_context, no_end}
use Rattle.packetless_machine.specs.Machine as machine
use Rattle.packetless_machine.specs.Machine.{Machine}
use Rattle.protocol.specs.declared.images.ContextImage.{ContextImage}
use Rattle.protocol.specs.Fabric.{sending}
use Rattle.protocol.specs.DeviceStep as device
use Rattle.protocol.specs.WorldStep.{is_live, is_carried, home, or_none, with_device, ran}
use Rattle.law_simulation.specs.Views.{contexts_of, context_of, end_of, link_or_none, in_rts, side_of, home_in, address_or_none, place_of}
use Rattle.law_simulation.specs.Stands.{names_of, husks_of, IsPlaced}
use Rattle.law_simulation.proofs.relation.Tables.{name_or_not, named-store_same, named-store_other, map-store, map-store_found, flat-store_found, store_named-append_has, has_name-append, name-named_there, count_by-cons, named-append_has, named-append_lacks, at-found, at-store_grows, at-store_same, has_name-map}

-- ---- what stays of a device: its id, its address, the names of its contexts, and its husks

pub record Shape : Type 0 where
  pub id : ℕ
  pub address : Address
  pub names : List Name
  pub husks : List Husk

abbrev pub shape_of : Device → Shape
shape_of d = record { id = d.id; address = d.address; names = map (λ c. c.name) d.contexts; husks = d.husks }

abbrev pub shapes_of : World → List Shape
shapes_of w = map shape_of w.devices

-- one live context c becomes x
pub record WorldChanged (w w' : World) (c : Name) (x : Context) : Type 0 where
  pub named : x.name ≡ c
  pub there : has_name (λ y. y.name) c (contexts_of w) ≡ true
  pub contexts : contexts_of w' ≡ store_named (λ y. y.name) c x (contexts_of w)
  pub shapes : shapes_of w' ≡ shapes_of w
  pub carried : w'.carried ≡ w.carried
  pub sent : w'.sent ≡ w.sent

-- ---- what the shapes tell

map-map : {A B C : Type 0} (f : B → C) (g : A → B) (xs : List A) → map f (map g xs) ≡ map (λ x. f (g x)) xs
map-map f g [] = refl
map-map f g (x ∷ xs) = ap (λ ys. f (g x) ∷ ys) (map-map f g xs)

-- what is a function of the shapes is the same
of_shapes : {B : Type 0} (f : Shape → B) (ds es : List Device) → map shape_of es ≡ map shape_of ds → map (λ d. f (shape_of d)) es ≡ map (λ d. f (shape_of d)) ds
of_shapes f ds es h = sym (map-map f shape_of es) ∙ (ap (map f) h ∙ map-map f shape_of ds)

pub ids_same : (w w' : World) → shapes_of w' ≡ shapes_of w → map (λ d. d.id) w'.devices ≡ map (λ d. d.id) w.devices
ids_same w w' h = of_shapes (λ s. s.id) w.devices w'.devices h

pub addresses_same : (w w' : World) → shapes_of w' ≡ shapes_of w → map (λ d. d.address) w'.devices ≡ map (λ d. d.address) w.devices
addresses_same w w' h = of_shapes (λ s. s.address) w.devices w'.devices h

husks_are : (ds : List Device) → flat_map (λ d. d.husks) ds ≡ flat_map (λ s. s.husks) (map shape_of ds)
husks_are [] = refl
husks_are (d ∷ ds) = ap (λ hs. d.husks ++ hs) (husks_are ds)

pub husks_same : (w w' : World) → shapes_of w' ≡ shapes_of w → husks_of w' ≡ husks_of w
husks_same w w' h = husks_are w'.devices ∙ (ap (flat_map (λ s. s.husks)) h ∙ sym (husks_are w.devices))

abbrev place_in : List Shape → Name → Option Address
place_in [] c = None
place_in (s ∷ ss) c = if has_word c s.names then Some s.address else place_in ss c

pub has_name-names : (c : Name) (xs : List Context) → has_word c (map (λ x. x.name) xs) ≡ has_name (λ x. x.name) c xs
unfolding has_name
has_name-names c [] = refl
has_name-names c (x ∷ xs) = ap (λ b. bytes_eq x.name c || b) (has_name-names c xs)

place_is : (c : Name) (ds : List Device) → address_or_none (home_in ds c) ≡ place_in (map shape_of ds) c
unfolding address_or_none home_in
place_is c [] = refl
place_is c (d ∷ ds) = by_test (has_name (λ x. x.name) c d.contexts) (has_name-names c d.contexts) (place_is c ds)
  where
    by_test : (b : Bool) → has_word c (map (λ x. x.name) d.contexts) ≡ b → address_or_none (home_in ds c) ≡ place_in (map shape_of ds) c → address_or_none (if b then Some d else home_in ds c) ≡ place_in (map shape_of (d ∷ ds)) c
    by_test true h later = sym (ap (λ t. if t then Some d.address else place_in (map shape_of ds) c) h)
    by_test false h later = later ∙ sym (ap (λ t. if t then Some d.address else place_in (map shape_of ds) c) h)

pub place_same : (w w' : World) (c : Name) → shapes_of w' ≡ shapes_of w → place_of w' c ≡ place_of w c
unfolding place_of
place_same w w' c h = place_is c w'.devices ∙ (ap (λ ss. place_in ss c) h ∙ sym (place_is c w.devices))

-- ---- the views of a changed world

module _ (w w' : World) (c : Name) (x : Context) (ch : WorldChanged w w' c x) where
  pub context_here : context_of w' c ≡ x
  unfolding context_of
  context_here = ap (named (λ y. y.name) _ c) ch.contexts ∙ named-store_same (λ y. y.name) _ c x (contexts_of w) ch.named

  pub context_other : (k : Name) → k ≢ c → context_of w' k ≡ context_of w k
  unfolding context_of
  context_other k ne = ap (named (λ y. y.name) _ k) ch.contexts ∙ named-store_other (λ y. y.name) _ c k x (contexts_of w) ch.named ne

  -- a part of each context stays, where x has it
  pub part_same : {B : Type 0} (f : Context → B) (k : Name) → f x ≡ f (context_of w c) → f (context_of w' k) ≡ f (context_of w k)
  part_same f k h = elim (name_or_not k c) [
    | inl a ↦ ap (λ j. f (context_of w' j)) a ∙ (ap f context_here ∙ (h ∙ ap (λ j. f (context_of w j)) (sym a)))
    | inr ne ↦ ap f (context_other k ne)
  ]

  -- .. and a part of each end, where the ends of x have it
  pub end_part_same : {B : Type 0} (f : End → B) (o : ObjName) → ((n : Name) → f (named (λ e. e.name) (record no_end { name = n }) n x.ends) ≡ f (named (λ e. e.name) (record no_end { name = n }) n (context_of w c).ends)) → f (end_of w' o) ≡ f (end_of w o)
  unfolding end_of
  end_part_same f o h = part_same (λ y. f (named (λ e. e.name) (record no_end { name = o.name }) o.name y.ends)) o.context (h o.name)

  pub names_same : names_of w' ≡ names_of w
  names_same = ap (map (λ y. y.name)) ch.contexts ∙ map-store (λ y. y.name) (λ y. y.name) no_context c x (contexts_of w) ch.there (ch.named ∙ sym (name-named_there (λ y. y.name) no_context c (contexts_of w) ch.there))

  -- the side of an end stays with its link
  pub side_same : (o : ObjName) → ((n : Name) → (named (λ e. e.name) (record no_end { name = n }) n x.ends).link ≡ (named (λ e. e.name) (record no_end { name = n }) n (context_of w c).ends).link) → side_of w' o ≡ side_of w o
  unfolding in_rts
  side_same o h =
      let link : (end_of w' o).link ≡ (end_of w o).link = end_part_same (λ e. e.link) o h in
      let placed : place_of w' o.context ≡ place_of w o.context = place_same w w' o.context ch.shapes in
      λ i. record {
        link = link_or_none (link i);
        connected = is_some (link i);
        rts = is_some (link i) && not (link_or_none (link i)).ended;
        carried = has_name (λ z. z.name) o.context (ch.carried i);
        place = placed i;
      }

-- ---- a step of the device where a context lives

count_by-map : {A B : Type 0} (p : B → Bool) (f : A → B) (xs : List A) → count_by p (map f xs) ≡ count_by (λ x. p (f x)) xs
count_by-map p f [] = refl
count_by-map p f (x ∷ xs) = grind (arith, count_by-cons p (f x) (map f xs), count_by-cons (λ z. p (f z)) x xs, count_by-map p f xs)

pub ids_once : (w : World) (m : Machine) → IsPlaced w m → (k : ℕ) → count_by (λ d. d.id == k) w.devices ≤ 1
ids_once w m placed k = omega (arith, count_by-map (λ x. x == k) (λ d. d.id) w.devices, placed.ids_once k)

-- the device holds the context
abbrev pub holds_it : Name → Device → Bool
holds_it c d = has_name (λ x. x.name) c d.contexts

some_found : (test : Device → Bool) (ds : List Device) → some test ds ≡ true → first_that test ds ≡ Some (or_none (first_that test ds))
unfolding some first_that
some_found test [] h = absurd (cc)
some_found test (d ∷ ds) h = grind (arith, some_found test ds)

-- a live context is found at its home
pub home_found : (w : World) (c : Name) → is_live w c ≡ true → first_that (holds_it c) w.devices ≡ Some (home w c)
unfolding home
home_found w c h = some_found (holds_it c) w.devices h

found_passes : (test : Device → Bool) (d : Device) (ds : List Device) → first_that test ds ≡ Some d → test d ≡ true
unfolding first_that
found_passes test d [] h = absurd (cc)
found_passes test d (x ∷ ds) h = grind (arith, found_passes test d ds)

pub home_holds : (w : World) (c : Name) → is_live w c ≡ true → has_name (λ x. x.name) c (home w c).contexts ≡ true
home_holds w c h = found_passes (holds_it c) (home w c) w.devices (home_found w c h)

pub has_name-flat : (c : Name) (ds : List Device) → has_name (λ x. x.name) c (flat_map (λ d. d.contexts) ds) ≡ some (holds_it c) ds
unfolding has_name some
has_name-flat c [] = refl
has_name-flat c (d ∷ ds) = grind (arith, has_name-append (λ x. x.name) c d.contexts (flat_map (λ e. e.contexts) ds), has_name-flat c ds)

live_there : (w : World) (c : Name) → is_live w c ≡ true → has_name (λ x. x.name) c (flat_map (λ d. d.contexts) w.devices) ≡ true
live_there w c h = has_name-flat c w.devices ∙ h

-- the home steps to a device of the same shape, which has x for the context, and sends nothing
pub ran_changed : (w : World) (m : Machine) (c : Name) (x : Context) (d : Device) (a : Answer) → IsPlaced w m → is_live w c ≡ true → x.name ≡ c → shape_of d ≡ shape_of (home w c) → d.contexts ≡ store_named (λ y. y.name) c x (home w c).contexts → WorldChanged w (ran w (device.answers d a)).world c x
unfolding ran with_device sending contexts_of
ran_changed w m c x d a placed live named shape same = record {
  named = named;
  there = has_name-append (λ y. y.name) c (flat_map (λ e. e.contexts) w.devices) (map images.context_of w.carried) ∙ ap (λ b. b || has_name (λ y. y.name) c (map images.context_of w.carried)) (live_there w c live);
  contexts =
      ap (λ cs. cs ++ map images.context_of w.carried) (ap (λ k. flat_map (λ e. e.contexts) (store (λ e. e.id) k d w.devices)) (ap (λ s. s.id) shape)
      ∙ flat-store_found (λ e. e.contexts) (λ y. y.name) (λ e. e.id) c x (home w c) d w.devices (ids_once w m placed) (home_found w c live) same)
      ∙ sym (store_named-append_has (λ y. y.name) c x (flat_map (λ e. e.contexts) w.devices) (map images.context_of w.carried) (live_there w c live));
  shapes =
      ap (λ k. map shape_of (store (λ e. e.id) k d w.devices)) (ap (λ s. s.id) shape)
      ∙ map-store_found shape_of (λ e. e.id) (holds_it c) (home w c) d w.devices (ids_once w m placed) (home_found w c live) shape;
  carried = refl;
  sent = append-nil w.sent;
}

named-home : (c : Name) (a b : Context) (ds : List Device) (rest : List Context) (d : Device) → first_that (holds_it c) ds ≡ Some d → named (λ x. x.name) a c (flat_map (λ d. d.contexts) ds ++ rest) ≡ named (λ x. x.name) b c d.contexts
unfolding first_that
named-home c a b [] rest d h = absurd (cc)
named-home c a b (x ∷ ds) rest d h = rw (append_assoc x.contexts (flat_map (λ d. d.contexts) ds) rest) (grind (arith, named-append_has (λ y. y.name) a b c x.contexts (flat_map (λ d. d.contexts) ds ++ rest), named-append_lacks (λ y. y.name) a c x.contexts (flat_map (λ d. d.contexts) ds ++ rest), named-home c a b ds rest d))

-- a live context is found at its home, with its contents
pub home_context : (w : World) (c : Name) → is_live w c ≡ true → context_at (home w c) c ≡ context_of w c
unfolding context_of contexts_of
home_context w c h = sym (named-home c _ _ w.devices (map images.context_of w.carried) (home w c) (home_found w c h))

-- the counts of the devices grow where those of the home do
pub ran_counts : (w : World) (m : Machine) (c : Name) (d : Device) (a : Answer) (k : ℕ) → IsPlaced w m → is_live w c ≡ true → d.id ≡ (home w c).id → (home w c).qp_count ≤ d.qp_count → (home w c).key_count ≤ d.key_count →
    ((device_at w k).qp_count ≤ (device_at (ran w (device.answers d a)).world k).qp_count) × ((device_at w k).key_count ≤ (device_at (ran w (device.answers d a)).world k).key_count)
unfolding ran with_device sending
ran_counts w m c d a k placed live same qps keys =
    let here : device_at w d.id ≡ home w c = ap (device_at w) same ∙ at-found (λ e. e.id) no_device (holds_it c) (home w c) w.devices (ids_once w m placed) (home_found w c live) in (
      at-store_grows (λ e. e.qp_count) (λ e. e.id) no_device d.id k d w.devices refl (omega (arith, ap (λ e. e.qp_count) here)),
      at-store_grows (λ e. e.key_count) (λ e. e.id) no_device d.id k d w.devices refl (omega (arith, ap (λ e. e.key_count) here)),
    )

image_names : (i : ContextImage) → (images.context_of i).name ≡ i.name
unfolding images.context_of
image_names i = refl

-- every context is live or carried
pub has_context_is : (w : World) (c : Name) → has_name (λ x. x.name) c (contexts_of w) ≡ (is_live w c || is_carried w c)
unfolding contexts_of
has_context_is w c = grind (arith, has_name-append (λ x. x.name) c (flat_map (λ d. d.contexts) w.devices) (map images.context_of w.carried), has_name-flat c w.devices, has_name-map images.context_of (λ x. x.name) (λ i. i.name) c w.carried image_names)

has_made : (c : Name) (xs : List machine.Context) → has_word c (map (λ x. x.name) xs) ≡ has_name (λ x. x.name) c xs
unfolding has_name
has_made c [] = refl
has_made c (x ∷ xs) = ap (λ b. bytes_eq x.name c || b) (has_made c xs)

-- .. and the machine has it
pub is_there : (w : World) (m : Machine) (c : Name) → IsPlaced w m → machine.has_context m c ≡ (is_live w c || is_carried w c)
unfolding machine.has_context
is_there w m c placed = sym (has_made c m.contexts) ∙ (sym (placed.same c) ∙ (has_name-names c (contexts_of w) ∙ has_context_is w c))

-- the device after its step
pub ran_device : (w : World) (d : Device) (a : Answer) → device_at (ran w (device.answers d a)).world d.id ≡ d
unfolding ran with_device sending
ran_device w d a = at-store_same (λ e. e.id) no_device d.id d w.devices refl

-- the home before it
pub home_device : (w : World) (m : Machine) (c : Name) → IsPlaced w m → is_live w c ≡ true → device_at w (home w c).id ≡ home w c
home_device w m c placed live = at-found (λ e. e.id) no_device (holds_it c) (home w c) w.devices (ids_once w m placed) (home_found w c live)

some_same : (a b : Device) → Some a ≡ Some b → a ≡ b
some_same a b h = cc

-- what is true of all ids is true of the id of a device that is found
id_if : (P : ℕ → Type 0) (x d : Device) (b : Bool) (rest : Option Device) → (if b then Some x else rest) ≡ Some d → P x.id → (rest ≡ Some d → P d.id) → P d.id
id_if P x d true rest h here later = subst P (ap (λ e. e.id) (some_same x d h)) here
id_if P x d false rest h here later = later h

id_found : (P : ℕ → Type 0) (test : Device → Bool) (d : Device) (ds : List Device) → All P (map (λ e. e.id) ds) → first_that test ds ≡ Some d → P d.id
unfolding first_that
id_found P test d [] all h = absurd (cc)
id_found P test d (x ∷ ds) all h = id_if P x d (test x) (first_that test ds) h (All-head P x.id (map (λ e. e.id) ds) all) (λ l. id_found P test d ds (All-tail P x.id (map (λ e. e.id) ds) all) l)

pub home_id : (P : ℕ → Type 0) (w : World) (c : Name) → is_live w c ≡ true → All P (map (λ e. e.id) w.devices) → P (home w c).id
home_id P w c live all = id_found P (holds_it c) (home w c) w.devices all (home_found w c live)
