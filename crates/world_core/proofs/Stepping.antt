-- A device's step in a world, done to the world's parts.
use Rattle.std.proofs.Common.{◌≡◌, ℕ, zero, suc, ◌+◌, List, [], ◌∷◌, ◌++◌, length, Bool, false, Option, Some, None, refl, sym, ap, ◌∙◌, subst, bytes_eq, nat_eq, slice_get, if◌then◌else◌, reverse}
use Rattle.std.specs.Prelude.{All, IfOk, IfSome, OnErr}
use Rattle.std.specs.List.{remove, IsDistinct}
use Rattle.std.specs.Map.{lookup}
use Rattle.std.proofs.Math.ListN.{set}
use Rattle.std.proofs.lemmas.List.{append-nil, reverse-append}
use Rattle.std.proofs.lemmas.List.Elements.{All-push}
use Rattle.rdma_types.specs.declared.answers.Answer.{Answer}
use Rattle.rdma_types.specs.declared.answers.Answer.TheVariants as answer
use Rattle.rdma_types.specs.declared.answers.Refusal.{Refusal}
use Rattle.rdma_types.specs.declared.answers.Sent.{Sent}
use Rattle.rdma_types.specs.declared.names.Name.{Name}
use Rattle.rdma_types.specs.declared.requests.Address.{Address}
use Rattle.rdma_types.specs.Lists.{store, has, some}
use Rattle.protocol.specs.declared.events.Event.{Event}
use Rattle.protocol.specs.declared.images.ContextImage.{ContextImage}
use Rattle.protocol.specs.declared.images.Outcome.{Outcome}
use Rattle.protocol.specs.DeviceStep as device
use Rattle.protocol.specs.DeviceStep.{device_step}
use Rattle.protocol.specs.Fabric.{forgetting, sending}
use Rattle.protocol.specs.Refusals.{refusal_of}
use Rattle.protocol.specs.State.{Device, Flight, World}
use Rattle.protocol.specs.WorldStep.{has_device, is_done, numbered, ran, runs, same_address, with_device, with_image}
use Rattle.protocol.specs.Lawful.{IsLawful}
use Rattle.law_kept_datagrams.specs.Alike.{with_kept_datagrams}
use Rattle.world_core.specs.Causes.{told_due}
use Rattle.world_core.specs.Kept.{Makes}
use Rattle.world_core.specs.Places.{AreParts, HaveOwnIds, images_of, names_of, port_eq}
use Rattle.world_core.specs.Sites.{joined_at}
use Rattle.device_core.specs.Readings.{new_device}
use Rattle.world_core.specs.Homes.{looked_up, mover}
use Rattle.world_core.proofs.Indexes.{indexed-after, indexed-more}
use Rattle.world_core.proofs.Places.{All-remove, distinct-push, map-place, store-place}
use Rattle.world_core.proofs.Worlds.{kept_is}

-- ---- a device's step in a world

image_parts : (w : World) (o : Option ContextImage) → with_image o w ≡ record w { carried = w.carried ++ images_of o; stopped = reverse (names_of o) ++ w.stopped }
image_parts w None = ap (λ xs. record w { carried = xs }) (sym (append-nil w.carried))
image_parts w (Some x) = refl

-- what a step does to a world, where it is done to its parts
pub ran_makes : (w : World) (place : ℕ) (d d' : Device) (e : Event) (o : Outcome) (a : Answer) (new : World) →
    HaveOwnIds w.devices → slice_get w.devices place ≡ Some d → device_step d e ≡ record { device = d'; outcome = o } → d'.id ≡ d.id →
    new.devices ≡ set w.devices place d' → new.sent ≡ forgetting (sending w.sent d'.address o.sent) →
    new.carried ≡ w.carried ++ images_of o.image → new.stopped ≡ reverse (names_of o.image) ++ w.stopped →
    a ≡ numbered (length w.sent + 1) o.answer → Makes (runs w d e) a new
unfolding ran with_device
ran_makes w place d d' e o a new ids here step same devices sent carried stopped answered =
    subst (λ s. Makes (ran w s) a new) (sym step) (record {
      answered = answered;
      left =
          let stored : store (λ x. x.id) d'.id d' w.devices ≡ set w.devices place d' =
          ap (λ k. store (λ x. x.id) k d' w.devices) same ∙ store-place (λ x. x.id) place w.devices d d' ids here in
          parts new.devices (set w.devices place d') new.sent _ new.carried _ new.stopped _ devices sent carried stopped
          ∙ (ap (λ ds. record { devices = ds; sent = forgetting (sending w.sent d'.address o.sent); carried = w.carried ++ images_of o.image; stopped = reverse (names_of o.image) ++ w.stopped }) (sym stored)
          ∙ ap with_kept_datagrams (sym (image_parts (record w { devices = store (λ x. x.id) d'.id d' w.devices; sent = sending w.sent d'.address o.sent }) o.image)));
    })
  where
    parts : (a a' : List Device) (b b' : List Flight) (c c' : List ContextImage) (d d' : List Name) → a ≡ a' → b ≡ b' → c ≡ c' → d ≡ d' →
        (let x : World = record { devices = a; sent = b; carried = c; stopped = d } in x) ≡ record { devices = a'; sent = b'; carried = c'; stopped = d' }
    parts a a' b b' c c' d d' h i j k = cc

-- .. behind what a loan holds
pub ran_all : (v w new : World) (place : ℕ) (d x x' : Device) (e : Event) (o : Outcome) (a : Answer) (from : Address) (next : ℕ) →
    v ≡ w → HaveOwnIds v.devices → slice_get v.devices place ≡ Some x → device_step x e ≡ record { device = x'; outcome = o } → x'.id ≡ x.id →
    new.devices ≡ set v.devices place x' → from ≡ x'.address → new.sent ≡ forgetting (sending v.sent from o.sent) →
    new.carried ≡ v.carried ++ images_of o.image → new.stopped ≡ reverse (names_of o.image) ++ v.stopped →
    next ≡ length v.sent + 1 → a ≡ numbered next o.answer → slice_get w.devices place ≡ Some d → Makes (runs w d e) a new
ran_all v w new place d x x' e o a from next seen ids here step same devices address sent carried stopped number answered there =
    let is_it : x ≡ d = some_is x d (sym here ∙ (ap (λ (y : World). slice_get y.devices place) seen ∙ there)) in
    subst (λ (y : World). Makes (runs y d e) a new) seen
    (subst (λ z. Makes (runs v z e) a new) is_it
    (ran_makes v place x x' e o a new ids here step same devices
    (sent ∙ ap (λ f. forgetting (sending v.sent f o.sent)) address) carried stopped (answered ∙ ap (λ n. numbered n o.answer) number)))
  where
    some_is : (y z : Device) → Some y ≡ Some z → y ≡ z
    some_is y z h = cc

-- nothing is carried off
pub bare_carried : (carried : List ContextImage) (o : Option ContextImage) → o ≡ None → carried ≡ carried ++ images_of o
bare_carried carried o none = sym (append-nil carried) ∙ ap (λ x. carried ++ images_of x) (sym none)

pub bare_stopped : (names : List Name) (o : Option ContextImage) → o ≡ None → names ≡ reverse (names_of o) ++ names
bare_stopped names o none = ap (λ x. reverse (names_of x) ++ names) (sym none)

-- .. by a step
pub answered_all : (v w new : World) (place : ℕ) (d x x' : Device) (e : Event) (own : Answer) (sent : List Sent) (a : Answer) (from : Address) (next : ℕ) →
    v ≡ w → HaveOwnIds v.devices → slice_get v.devices place ≡ Some x → device_step x e ≡ record { device = x'; outcome = record { answer = own; sent = sent; image = None } } → x'.id ≡ x.id →
    new.devices ≡ set v.devices place x' → from ≡ x'.address → new.sent ≡ forgetting (sending v.sent from sent) →
    new.carried ≡ v.carried → new.stopped ≡ v.stopped →
    next ≡ length v.sent + 1 → a ≡ numbered next own → slice_get w.devices place ≡ Some d → Makes (runs w d e) a new
answered_all v w new place d x x' e own sent a from next seen ids here step same devices address datagrams carried stopped number answered there =
    ran_all v w new place d x x' e (record { answer = own; sent = sent; image = None }) a from next seen ids here step same devices address datagrams
    (carried ∙ bare_carried v.carried None refl) (stopped ∙ bare_stopped v.stopped None refl) number answered there

-- one end is connected, behind what a loan holds
pub joined_makes : (v w new : World) (p : ℕ) (x x' d : Device) (e : Event) (o : Outcome) → v ≡ w → new ≡ record v { devices = set v.devices p x' } → slice_get v.devices p ≡ Some x →
    device_step x e ≡ record { device = x'; outcome = o } → slice_get w.devices p ≡ Some d → new ≡ joined_at w p d e
joined_makes v w new p x x' d e o seen left here step there =
    let is_it : x ≡ d = some_is x d (sym here ∙ (ap (λ (y : World). slice_get y.devices p) seen ∙ there)) in
    left ∙ (ap (λ (y : World). record y { devices = set y.devices p x' }) seen
    ∙ ap (λ y. record w { devices = set w.devices p y }) (sym (ap (λ (s : device.Step). s.device) step) ∙ ap (λ z. (device_step z e).device) is_it))
  where
    some_is : (y z : Device) → Some y ≡ Some z → y ≡ z
    some_is y z h = cc

module _ (by_id : ℕ → Option ℕ) (by_port : ℕ × ℕ → Option ℕ) where
  pub parts_after : (by_name by_name' : Name → Option ℕ) (ds : List Device) (carried : List ContextImage) (p : ℕ) (x x' : Device) (e : Event) (o : Outcome) → AreParts ds carried by_id by_port by_name → slice_get ds p ≡ Some x → x'.id ≡ x.id → x'.address ≡ x.address
      → device_step x e ≡ record { device = x'; outcome = o } → ((m : Name) → by_name' m ≡ looked_up (mover e) (set ds p x') by_name m) → AreParts (set ds p x') carried by_id by_port by_name'
  parts_after by_name by_name' ds carried p x x' e o parts here same there step homes = record {
    ids = subst (λ ks. IsDistinct nat_eq ks) (sym (map-place (λ d. d.id) p ds x x' here same)) parts.ids;
    lawful = parts.lawful;
    indexed = indexed-after ds by_id by_port by_name by_name' p x x' e o parts.indexed here same there step homes;
  }

  -- .. devices that are the same
  pub parts_same : (by_name : Name → Option ℕ) (ds ds' : List Device) (carried : List ContextImage) → ds' ≡ ds → AreParts ds carried by_id by_port by_name → AreParts ds' carried by_id by_port by_name
  parts_same by_name ds ds' carried same parts = subst (λ xs. AreParts xs carried by_id by_port by_name) (sym same) parts

  -- .. an image more
  pub parts_carry : (by_name : Name → Option ℕ) (ds : List Device) (carried more : List ContextImage) (o : Option ContextImage) → AreParts ds carried by_id by_port by_name → more ≡ carried ++ images_of o → IfSome o (λ i. IsLawful i) → AreParts ds more by_id by_port by_name
  parts_carry by_name ds carried more None parts left lawful = record { ids = parts.ids; lawful = subst (λ xs. All IsLawful xs) (sym (left ∙ append-nil carried)) parts.lawful; indexed = parts.indexed }
  parts_carry by_name ds carried more (Some x) parts left lawful = record { ids = parts.ids; lawful = subst (λ xs. All IsLawful xs) (sym left) (All-push IsLawful carried x parts.lawful lawful); indexed = parts.indexed }

  -- .. and one less
  pub parts_less : (by_name : Name → Option ℕ) (ds : List Device) (carried less : List ContextImage) (spot : ℕ) → AreParts ds carried by_id by_port by_name → less ≡ remove carried spot → AreParts ds less by_id by_port by_name
  parts_less by_name ds carried less spot parts left = record { ids = parts.ids; lawful = subst (λ xs. All IsLawful xs) (sym left) (All-remove IsLawful carried spot parts.lawful); indexed = parts.indexed }

-- what was looked up, as the calls say it
pub homes_noted : (o o' : Option Name) (ds ds' : List Device) (es es' : List (Name × ℕ)) (told : Name → Option ℕ) → ((m : Name) → told m ≡ looked_up o ds (λ k. lookup (bytes_eq k) es) m) → o ≡ o' → ds ≡ ds' → es ≡ es' →
    (m : Name) → told m ≡ looked_up o' ds' (λ k. lookup (bytes_eq k) es') m
homes_noted o o' ds ds' es es' told noted same_name same_devices same_entries m =
    noted m ∙ (ap (λ x. looked_up x ds (λ k. lookup (bytes_eq k) es) m) same_name ∙ (ap (λ xs. looked_up o' xs (λ k. lookup (bytes_eq k) es) m) same_devices ∙ ap (λ xs. looked_up o' ds' (λ k. lookup (bytes_eq k) xs) m) same_entries))

-- a place that was put into an index, as the calls say it
pub put_noted : {K : Type 0} (eq : K → K → Bool) (key : K) (place n : ℕ) (es es' : List (K × ℕ)) (told : K → Option ℕ) → ((k : K) → told k ≡ (if eq key k then Some place else lookup (eq k) es)) → place ≡ n → es ≡ es' →
    (k : K) → told k ≡ (if eq key k then Some n else lookup (eq k) es')
put_noted eq key place n es es' told put same entries k = put k ∙ (ap (λ p. if eq key k then Some p else lookup (eq k) es) same ∙ ap (λ xs. if eq key k then Some n else lookup (eq k) xs) entries)

-- one device more
pub parts_more : (w : World) (by_id by_id' : ℕ → Option ℕ) (by_port by_port' : ℕ × ℕ → Option ℕ) (by_name : Name → Option ℕ) (ds : List Device) (carried : List ContextImage) (more : List Device) (d : Device) (id : ℕ) (address : Address) → ds ≡ w.devices → AreParts ds carried by_id by_port by_name
    → has_device w id ≡ false → some (λ x. same_address x.address address) w.devices ≡ false → d ≡ new_device id address → more ≡ ds ++ d ∷ []
    → ((k : ℕ) → by_id' k ≡ (if nat_eq id k then Some (length ds) else by_id k)) → ((a : ℕ × ℕ) → by_port' a ≡ (if port_eq (address.ip, address.port) a then Some (length ds) else by_port a)) → AreParts more carried by_id' by_port' by_name
parts_more w by_id by_id' by_port by_port' by_name ds carried more d id address seen parts free apart made left ids ports =
    let new_id : has (λ x. x.id) id ds ≡ false = ap (λ xs. has (λ x. x.id) id xs) seen ∙ free in
    let new_address : some (λ x. same_address x.address address) ds ≡ false = ap (λ xs. some (λ x. same_address x.address address) xs) seen ∙ apart in
    subst (λ xs. AreParts xs carried by_id' by_port' by_name) (sym left) (record {
      ids = distinct-push (λ x. x.id) ds d parts.ids (ap (λ (y : Device). has (λ x. x.id) y.id ds) made ∙ new_id);
      lawful = parts.lawful;
      indexed = indexed-more ds by_id by_id' by_port by_port' by_name d id address parts.indexed ids ports new_id new_address (ap (λ (y : Device). y.id) made) (ap (λ (y : Device). y.address) made) (ap (λ (y : Device). y.contexts) made);
    })

pub added_makes : (v w new : World) (d : Device) → v ≡ w → forgetting w.sent ≡ w.sent → new ≡ record v { devices = v.devices ++ d ∷ [] } → new ≡ with_kept_datagrams (record w { devices = w.devices ++ d ∷ [] })
added_makes v w new d seen kept left = left ∙ (ap (λ (x : World). record x { devices = x.devices ++ d ∷ [] }) seen ∙ kept_is (record w { devices = w.devices ++ d ∷ [] }) kept)

pub not_done : (a : Answer) → (a ≡ answer.Done → ⊥) → is_done a ≡ false
not_done answer.Done other = absurd (other refl)
not_done a other = refl

-- the names in the other order
pub names_reversed : (names : List Name) (o : Option ContextImage) → reverse (names ++ names_of o) ≡ reverse (names_of o) ++ reverse names
names_reversed names o = reverse-append names (names_of o)

-- ---- a device that refuses

set-same : {A : Type 0} (xs : List A) (k : ℕ) (x : A) → slice_get xs k ≡ Some x → xs ≡ set xs k x
set-same [] k x h = absurd (cc)
set-same (y ∷ ys) zero x h = ap (λ z. z ∷ ys) (let q : y ≡ x = cc in q)
set-same (y ∷ ys) (suc k) x h = ap (λ zs. y ∷ zs) (set-same ys k x h)

none_sent : (s : List Flight) (from : Address) → sending s from [] ≡ s
unfolding sending
none_sent s from = append-nil s

-- a refusal leaves the world as it is
pub refused_runs : (w : World) (place : ℕ) (d : Device) (e : Event) (r : Refusal) → HaveOwnIds w.devices → forgetting w.sent ≡ w.sent → slice_get w.devices place ≡ Some d → refusal_of d e ≡ Some r → Makes (runs w d e) (answer.Refused r) w
unfolding device_step numbered
refused_runs w place d e r ids kept here due =
    ran_makes w place d d e (record { answer = answer.Refused r; sent = []; image = None }) (answer.Refused r) w ids here
    (ap (λ o. device.by_refusal d e o) due) refl (set-same w.devices place d here)
    (sym (ap forgetting (none_sent w.sent d.address) ∙ kept)) (bare_carried w.carried None refl) (bare_stopped w.stopped None refl) refl

-- .. and is answered where there is no memory
pub due_makes : (due : Option Refusal) (w new : World) (place : ℕ) (e : Event) → HaveOwnIds w.devices → forgetting w.sent ≡ w.sent → new ≡ w → ((d : Device) → slice_get w.devices place ≡ Some d → due ≡ refusal_of d e) →
    IfOk (told_due due) (λ a. (d : Device) → slice_get w.devices place ≡ Some d → Makes (runs w d e) a new)
due_makes None w new place e ids kept same is = tt
due_makes (Some r) w new place e ids kept same is = λ d here.
    subst (λ z. Makes (runs w d e) (answer.Refused r) z) (sym same) (refused_runs w place d e r ids kept here (sym (is d here)))

pub due_lacks : (due : Option Refusal) (w : World) (place : ℕ) (e : Event) → ((d : Device) → slice_get w.devices place ≡ Some d → due ≡ refusal_of d e) →
    OnErr (told_due due) ((d : Device) → slice_get w.devices place ≡ Some d → refusal_of d e ≡ None)
due_lacks None w place e is = λ d here. sym (is d here)
due_lacks (Some r) w place e is = tt

-- a world of the same parts
pub after_room : (v w new : World) → v ≡ w → new.devices ≡ v.devices → new.sent ≡ v.sent → new.carried ≡ v.carried → new.stopped ≡ v.stopped → new ≡ w
after_room v w new seen devices sent carried stopped =
    let same : (let x : World = record { devices = new.devices; sent = new.sent; carried = new.carried; stopped = new.stopped } in x) ≡ record { devices = v.devices; sent = v.sent; carried = v.carried; stopped = v.stopped } = cc in
    same ∙ seen
