-- A step of one device of a world: what stays of it.
use Rattle.std.proofs.Common.{arith, ◌≡◌, ℕ, List, [], ◌∷◌, ◌++◌, true, false, refl, sym, ap, ◌∙◌, subst}
use Rattle.std.specs.Prelude.{Some, None, flat_map, All}
use Rattle.std.proofs.lemmas.Bool.Decides.{nat_tests}
use Rattle.std.proofs.lemmas.Grind.{flat_map-append}
use Rattle.std.proofs.lemmas.List.{append-nil, map-id}
use Rattle.std.proofs.lemmas.List.Elements.{All-tail, All-append}
use Rattle.rdma_types.specs.declared.names.Name.{Name}
use Rattle.rdma_types.specs.declared.answers.Answer.{Answer}
use Rattle.rdma_types.specs.Lists.{has_name, has, at, store}
use Rattle.protocol.specs.Fabric.{sending}
use Rattle.protocol.specs.State.{World, Device, device_at, no_device}
use Rattle.protocol.specs.DeviceStep as device
use Rattle.protocol.specs.WorldStep.{with_device, ran}
use Rattle.law_simulation.specs.Views.{home_in, address_or_none}
use Rattle.law_simulation.proofs.relation.Tables.{number-at, map-store_at, has_name-append}
use Rattle.law_simulation.proofs.relation.Inserts.{Inserts}
use Rattle.law_simulation.proofs.stop_restore.Lists.{all_before, all_after}

-- a step that leaves the device as it was, and sends nothing, leaves the world as it was
pub ran_stays : (w : World) (k : ℕ) (a : Answer) → has (λ d. d.id) k w.devices ≡ true → (ran w (device.answers (device_at w k) a)).world ≡ w
unfolding ran with_device sending
ran_stays w k a made =
    let devices : store (λ d. d.id) (device_at w k).id (device_at w k) w.devices ≡ w.devices =
    ap (λ j. store (λ d. d.id) j (device_at w k) w.devices) (number-at (λ e. e.id) no_device k w.devices made)
    ∙ (sym (map-id (store (λ d. d.id) k (device_at w k) w.devices))
    ∙ (map-store_at (λ d. d) (λ d. d.id) no_device k (device_at w k) w.devices made refl ∙ map-id w.devices)) in
    λ i. record { devices = devices i; sent = append-nil w.sent i; carried = w.carried; stopped = w.stopped }

-- ---- places

-- where a context lives does not change, where the device has it as before
pub place_stored : (c : Name) (k : ℕ) (d : Device) (ds : List Device) → has (λ e. e.id) k ds ≡ true → d.address ≡ (at (λ e. e.id) no_device k ds).address → has_name (λ x. x.name) c d.contexts ≡ has_name (λ x. x.name) c (at (λ e. e.id) no_device k ds).contexts → address_or_none (home_in (store (λ e. e.id) k d ds) c) ≡ address_or_none (home_in ds c)
unfolding has at store home_in address_or_none
place_stored c k d [] there address same = absurd (cc)
place_stored c k d (x ∷ ds) there address same = grind (arith, nat_tests, place_stored c k d ds)

-- a context that is nowhere
pub place_nowhere : (c : Name) (ds : List Device) → has_name (λ x. x.name) c (flat_map (λ d. d.contexts) ds) ≡ false → address_or_none (home_in ds c) ≡ None
unfolding home_in address_or_none has_name
place_nowhere c [] h = refl
place_nowhere c (d ∷ ds) h = grind (arith, has_name-append (λ x. x.name) c d.contexts (flat_map (λ e. e.contexts) ds), place_nowhere c ds)

-- a context that comes to a device
pub place_stored_here : (c : Name) (k : ℕ) (d : Device) (ds : List Device) → has (λ e. e.id) k ds ≡ true → has_name (λ x. x.name) c (flat_map (λ e. e.contexts) ds) ≡ false → has_name (λ x. x.name) c d.contexts ≡ true → address_or_none (home_in (store (λ e. e.id) k d ds) c) ≡ Some d.address
unfolding has store home_in address_or_none
place_stored_here c k d [] there lacks h = absurd (cc)
place_stored_here c k d (x ∷ ds) there lacks h = grind (arith, nat_tests, has_name-append (λ y. y.name) c x.contexts (flat_map (λ e. e.contexts) ds), place_stored_here c k d ds)

-- ---- what holds of all parts

pub all_removed : {A : Type 0} (P : A → Type 0) (x : A) (xs ys : List A) → Inserts A x xs ys → All P ys → All P xs
all_removed P x xs ys i all =
    let split : All P (i.before ++ x ∷ i.after) = subst (All P) i.is all in
    subst (All P) (sym i.was) (All-append P i.before i.after (all_before P i.before (x ∷ i.after) split) (All-tail P x i.after (all_after P i.before (x ∷ i.after) split)))

pub parts_removed : {A B : Type 0} (P : B → Type 0) (f : A → List B) (x : A) (xs ys : List A) → Inserts A x xs ys → All P (flat_map f ys) → All P (flat_map f xs)
parts_removed P f x xs ys i all =
    let split : All P (flat_map f i.before ++ (f x ++ flat_map f i.after)) = subst (All P) (ap (flat_map f) i.is ∙ flat_map-append f i.before (x ∷ i.after)) all in
    subst (All P) (sym (ap (flat_map f) i.was ∙ flat_map-append f i.before i.after))
    (All-append P (flat_map f i.before) (flat_map f i.after) (all_before P (flat_map f i.before) (f x ++ flat_map f i.after) split) (all_after P (f x) (flat_map f i.after) (all_after P (flat_map f i.before) (f x ++ flat_map f i.after) split)))

pub parts_inserted : {A B : Type 0} (P : B → Type 0) (f : A → List B) (x : A) (xs ys : List A) → Inserts A x xs ys → All P (flat_map f xs) → All P (f x) → All P (flat_map f ys)
parts_inserted P f x xs ys i all here =
    let split : All P (flat_map f i.before ++ flat_map f i.after) = subst (All P) (ap (flat_map f) i.was ∙ flat_map-append f i.before i.after) all in
    subst (All P) (sym (ap (flat_map f) i.is ∙ flat_map-append f i.before (x ∷ i.after)))
    (All-append P (flat_map f i.before) (f x ++ flat_map f i.after) (all_before P (flat_map f i.before) (flat_map f i.after) split)
    (All-append P (f x) (flat_map f i.after) here (all_after P (flat_map f i.before) (flat_map f i.after) split)))
