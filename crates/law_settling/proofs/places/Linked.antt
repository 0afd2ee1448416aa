-- What is said of each live end is said of each that is connected, by its name.
use Rattle.std.proofs.Common.{arith, ◌≡◌, ◌+◌, ℕ, zero, suc, List, [], ◌∷◌, ◌++◌, length, map, refl, sym, ap, ◌∙◌}
use Rattle.std.specs.Prelude.{Option, Some, None, slice_get, flat_map, sum_by}
use Rattle.std.proofs.lemmas.Grind.{flat_map-append}
use Rattle.std.proofs.lemmas.List.{append-nil}
use Rattle.std.proofs.lemmas.List.Concat.{flat_map_single}
use Rattle.std.proofs.lemmas.List.Sums.{sum_by-cons}
use Rattle.rdma_types.specs.declared.names.ObjName.{ObjName}
use Rattle.protocol.specs.Settle.{left_image, left_link, link_at, live_ends, live_names, load_of, named_ends, unacknowledged, unfinished}
use Rattle.protocol.specs.State.{World, Device, Context, End, Link, no_context}
use Rattle.law_devices.proofs.Founds.{named-at}
use Rattle.law_devices.proofs.Regions.{All-at}
use Rattle.law_settling.specs.Places.{AreOrderly, CountsAreLinked, HaveOwnContexts, IsOrderly, linked_names, name_if}
use Rattle.law_settling.proofs.bound.Sums.{sum_map}
use Rattle.law_settling.proofs.places.Outlines.{flat_of_map}
use Rattle.law_settling.proofs.places.Placed.{link_named}

-- ---- lists

-- lists that agree at each place
flat_places : {A B : Type 0} (f g : A → List B) (xs : List A) → ((k : ℕ) (x : A) → slice_get xs k ≡ Some x → f x ≡ g x) → flat_map f xs ≡ flat_map g xs
flat_places f g [] h = refl
flat_places f g (x ∷ xs) h =
    let here : f x ≡ g x = h zero x refl in
    let rest : flat_map f xs ≡ flat_map g xs = flat_places f g xs (λ k y there. h (suc k) y there) in
    λ i. here i ++ rest i

flat_flat : {A B C : Type 0} (f : B → List C) (g : A → List B) (xs : List A) → flat_map f (flat_map g xs) ≡ flat_map (λ x. flat_map f (g x)) xs
flat_flat f g [] = refl
flat_flat f g (x ∷ xs) = flat_map-append f (g x) (flat_map g xs) ∙ ap (λ ys. flat_map f (g x) ++ ys) (flat_flat f g xs)

flat_same : {A B : Type 0} (f g : A → List B) (xs : List A) → ((x : A) → f x ≡ g x) → flat_map f xs ≡ flat_map g xs
flat_same f g xs h = λ i. flat_map (λ x. h x i) xs

-- ---- the names of connected ends

-- of these names, those of connected ends
abbrev pub linked_of : World → List ObjName → List ObjName
linked_of w os = flat_map (λ o. name_if (link_at w o) o) os

-- what is said of these is said of all, where nothing is said of an end in Init
pub flat_linked : {B : Type 0} (h : ObjName → Option Link → List B) → ((o : ObjName) → h o None ≡ []) → (w : World) (os : List ObjName) → flat_map (λ o. h o (link_at w o)) (linked_of w os) ≡ flat_map (λ o. h o (link_at w o)) os
flat_linked {B} h none w os =
    flat_flat (λ o. h o (link_at w o)) (λ o. name_if (link_at w o) o) os
    ∙ flat_same (λ o. flat_map (λ z. h z (link_at w z)) (name_if (link_at w o) o)) (λ o. h o (link_at w o)) os (λ o. by_link o (link_at w o) refl)
  where
    by_link : (o : ObjName) (r : Option Link) → link_at w o ≡ r → flat_map (λ z. h z (link_at w z)) (name_if r o) ≡ h o (link_at w o)
    by_link o None e = sym (ap (h o) e ∙ none o)
    by_link o (Some l) e = append-nil (h o (link_at w o))

pub sum_linked : (f : Option Link → ℕ) → f None ≡ 0 → (w : World) (os : List ObjName) → sum_by (λ o. f (link_at w o)) (linked_of w os) ≡ sum_by (λ o. f (link_at w o)) os
sum_linked f none w [] = refl
sum_linked f none w (o ∷ os) = by_link (link_at w o) refl (sum_linked f none w os)
  where
    by_link : (r : Option Link) → link_at w o ≡ r → sum_by (λ z. f (link_at w z)) (linked_of w os) ≡ sum_by (λ z. f (link_at w z)) os → sum_by (λ z. f (link_at w z)) (name_if r o ++ linked_of w os) ≡ sum_by (λ z. f (link_at w z)) (o ∷ os)
    by_link None e later = omega (arith, later, sum_by-cons (λ z. f (link_at w z)) o os, ap f e ∙ none)
    by_link (Some l) e later =
        sum_by-cons (λ z. f (link_at w z)) o (linked_of w os)
        ∙ (ap (λ n. f (link_at w o) + n) later ∙ sym (sum_by-cons (λ z. f (link_at w z)) o os))

-- ---- each live end is found by its name

module _ (w : World) (orderly : AreOrderly w) (own : HaveOwnContexts w) where
  abbrev name_of : Context → End → ObjName
  name_of c e = record { context = c.name; name = e.name }

  each_link : (i : ℕ) (d : Device) → slice_get w.devices i ≡ Some d → (j : ℕ) (c : Context) → slice_get d.contexts j ≡ Some c → (k : ℕ) (e : End) → slice_get c.ends k ≡ Some e → link_at w (name_of c e) ≡ e.link
  each_link i d here j c owner k e there =
      let o : IsOrderly d = All-at IsOrderly w.devices i d orderly.devices here in
      let lives = (named-at (λ (z : Context). z.name) no_context d.contexts j c o.contexts owner).0 in
      link_named w (name_of c e) i j k d c e o (own c.name i d here lives) here owner refl there refl

  -- what is said of each end and its link is said of each name and what is found of it
  module _ {B : Type 0} (h : ObjName → Option Link → List B) where
    abbrev on_name : ObjName → List B
    on_name o = h o (link_at w o)

    abbrev on_context : Context → List B
    on_context c = flat_map (λ (e : End). h (record { context = c.name; name = e.name }) e.link) c.ends

    in_context : (i : ℕ) (d : Device) → slice_get w.devices i ≡ Some d → (j : ℕ) (c : Context) → slice_get d.contexts j ≡ Some c → on_context c ≡ flat_map on_name (named_ends c)
    in_context i d here j c owner =
        flat_places (λ (e : End). h (name_of c e) e.link) (λ (e : End). on_name (name_of c e)) c.ends (λ k e there. ap (h (name_of c e)) (sym (each_link i d here j c owner k e there)))
        ∙ sym (flat_of_map on_name (name_of c) c.ends)

    on_device : (i : ℕ) (d : Device) → slice_get w.devices i ≡ Some d → flat_map on_context d.contexts ≡ flat_map on_name (flat_map named_ends d.contexts)
    on_device i d here =
        flat_places on_context (λ c. flat_map on_name (named_ends c)) d.contexts (λ j c owner. in_context i d here j c owner)
        ∙ sym (flat_flat on_name named_ends d.contexts)

    pub each_named : flat_map (λ d. flat_map (λ c. flat_map (λ e. h (record { context = c.name; name = e.name }) e.link) c.ends) d.contexts) w.devices ≡ flat_map (λ o. h o (link_at w o)) (live_names w)
    unfolding live_names
    each_named =
        flat_places (λ (d : Device). flat_map on_context d.contexts) (λ (d : Device). flat_map on_name (flat_map named_ends d.contexts)) w.devices (λ i d here. on_device i d here)
        ∙ sym (flat_flat on_name (λ (d : Device). flat_map named_ends d.contexts) w.devices)

  pub linked_is : linked_names w ≡ linked_of w (live_names w)
  unfolding linked_names
  linked_is = each_named (λ o l. name_if l o)

  -- the links of all live ends
  links_listed : map (λ e. e.link) (live_ends w) ≡ map (link_at w) (live_names w)
  unfolding live_ends
  links_listed =
      sym (flat_map_single (λ (e : End). e.link) (flat_map (λ (d : Device). flat_map (λ (c : Context). c.ends) d.contexts) w.devices))
      ∙ (flat_flat (λ (e : End). e.link ∷ []) (λ (d : Device). flat_map (λ (c : Context). c.ends) d.contexts) w.devices
      ∙ (flat_same (λ (d : Device). flat_map (λ (e : End). e.link ∷ []) (flat_map (λ (c : Context). c.ends) d.contexts)) (λ (d : Device). flat_map (λ (c : Context). flat_map (λ (e : End). e.link ∷ []) c.ends) d.contexts) w.devices (λ d. flat_flat (λ (e : End). e.link ∷ []) (λ (c : Context). c.ends) d.contexts)
      ∙ (each_named (λ o l. l ∷ []) ∙ flat_map_single (link_at w) (live_names w))))

  load_is : sum_by (λ e. unacknowledged e.link) (live_ends w) ≡ sum_by (λ o. unacknowledged (link_at w o)) (linked_names w)
  load_is =
      sum_map unacknowledged (λ (e : End). e.link) (live_ends w)
      ∙ (ap (sum_by unacknowledged) links_listed
      ∙ (sym (sum_map unacknowledged (link_at w) (live_names w))
      ∙ (sym (sum_linked unacknowledged refl w (live_names w)) ∙ ap (sum_by (λ o. unacknowledged (link_at w o))) (sym linked_is))))

  left_is : flat_map (λ d. flat_map (λ c. flat_map (λ e. left_link (record { context = c.name; name = e.name }) e.link) c.ends) d.contexts) w.devices ≡ flat_map (λ o. left_link o (link_at w o)) (linked_names w)
  left_is = each_named left_link ∙ (sym (flat_linked left_link (λ o. refl) w (live_names w)) ∙ ap (flat_map (λ o. left_link o (link_at w o))) (sym linked_is))

pub counts_linked : CountsAreLinked
unfolding load_of unfinished
counts_linked w orderly own = record {
  load = ap (λ n. n + length (live_ends w) + 1) (load_is w orderly own);
  left = ap (λ os. os ++ flat_map (λ c. flat_map (left_image c.name) c.ends) w.carried) (left_is w orderly own);
}
