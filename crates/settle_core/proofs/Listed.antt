-- What the list of live ends tells.
use Rattle.std.proofs.Common.{◌≡◌, ℕ, ◌+◌, List, [], ◌∷◌, ◌++◌, length, map, Bool, true, false, Option, Some, None, refl, sym, ap, ◌∙◌, if◌then◌else◌}
use Rattle.std.specs.Prelude.{flat_map, option_map, sum_by, fold, ◌==◌}
use Rattle.std.proofs.lemmas.List.{map-append, length-map}
use Rattle.std.proofs.lemmas.Grind.{flat_map-append}
use Rattle.std.proofs.lemmas.List.Folds.{flat_map-map}
use Rattle.rdma_types.specs.declared.answers.UnfinishedReason.TheVariants as why
use Rattle.rdma_types.specs.declared.names.ObjName.{ObjName}
use Rattle.protocol.specs.State.{Context, Device, End, Link, Paused, Phase, Resuming, Running, World}
use Rattle.protocol.specs.EndWords.{is_paused, is_resuming}
use Rattle.protocol.specs.Settle.{left_link, live_ends, live_names, load_of, mark_of, marks, unacknowledged, unfinished, phase_code, left_phase}
use Rattle.world_core.specs.Lives.{link_view, live_end, live_list}
use Rattle.context_core.specs.declared.lives.LiveEnd.{LiveEnd}
use Rattle.settle_core.specs.Marks.{link_mark, view_code, view_mark}
use Rattle.settle_core.specs.Loads.{link_numbers, view_numbers}
use Rattle.settle_core.specs.Left.{left_image_of, left_linked, left_view, with_why}

-- ---- lists of lists

map_map : {A B C : Type 0} (f : B → C) (g : A → B) (xs : List A) → map f (map g xs) ≡ map (λ x. f (g x)) xs
map_map f g [] = refl
map_map f g (x ∷ xs) = ap (λ ys. f (g x) ∷ ys) (map_map f g xs)

pub map_flat : {A B C : Type 0} (f : B → C) (g : A → List B) (h : A → List C) (xs : List A) → ((x : A) → map f (g x) ≡ h x) → map f (flat_map g xs) ≡ flat_map h xs
map_flat f g h [] each = refl
map_flat f g h (x ∷ xs) each = map-append f (g x) (flat_map g xs) ∙ (ap (λ ys. ys ++ map f (flat_map g xs)) (each x) ∙ ap (λ ys. h x ++ ys) (map_flat f g h xs each))

flat_flat : {A B C : Type 0} (f : B → List C) (g : A → List B) (h : A → List C) (xs : List A) → ((x : A) → flat_map f (g x) ≡ h x) → flat_map f (flat_map g xs) ≡ flat_map h xs
flat_flat f g h [] each = refl
flat_flat f g h (x ∷ xs) each = flat_map-append f (g x) (flat_map g xs) ∙ (ap (λ ys. ys ++ flat_map f (flat_map g xs)) (each x) ∙ ap (λ ys. h x ++ ys) (flat_flat f g h xs each))

flat_same : {A C : Type 0} (f h : A → List C) (xs : List A) → ((x : A) → f x ≡ h x) → flat_map f xs ≡ flat_map h xs
flat_same f h [] each = refl
flat_same f h (x ∷ xs) each = ap (λ ys. ys ++ flat_map f xs) (each x) ∙ ap (λ ys. h x ++ ys) (flat_same f h xs each)

map_same : {A C : Type 0} (f h : A → C) (xs : List A) → ((x : A) → f x ≡ h x) → map f xs ≡ map h xs
map_same f h [] each = refl
map_same f h (x ∷ xs) each = ap (λ y. y ∷ map f xs) (each x) ∙ ap (λ ys. h x ∷ ys) (map_same f h xs each)

-- ---- the live ends

-- what is told of each is a function of its end
listed : {B : Type 0} (f : LiveEnd → B) (g : Context → End → B) (w : World) → ((c : Context) (e : End) → f (live_end c e) ≡ g c e) →
    map f (live_list w) ≡ flat_map (λ d. flat_map (λ c. map (g c) c.ends) d.contexts) w.devices
unfolding live_list
listed f g w each =
    map_flat f (λ (d : Device). flat_map (λ c. map (live_end c) c.ends) d.contexts) (λ d. flat_map (λ c. map (g c) c.ends) d.contexts) w.devices (λ d.
    map_flat f (λ (c : Context). map (live_end c) c.ends) (λ c. map (g c) c.ends) d.contexts (λ c.
    map_map f (live_end c) c.ends ∙ map_same (λ e. f (live_end c e)) (g c) c.ends (each c)))

-- .. or of the list of ends
ends_listed : {B : Type 0} (f : LiveEnd → B) (g : End → B) (w : World) → ((c : Context) (e : End) → f (live_end c e) ≡ g e) → map f (live_list w) ≡ map g (live_ends w)
unfolding live_ends
ends_listed f g w each =
    listed f (λ c e. g e) w each
    ∙ sym (map_flat g (λ (d : Device). flat_map (λ c. c.ends) d.contexts) (λ d. flat_map (λ c. map g c.ends) d.contexts) w.devices (λ d.
    map_flat g (λ (c : Context). c.ends) (λ c. map g c.ends) d.contexts (λ c. refl)))

pub names_listed : (w : World) → map (λ (e : LiveEnd). e.name) (live_list w) ≡ live_names w
unfolding live_names
names_listed w = listed (λ (e : LiveEnd). e.name) (λ c e. record { context = c.name; name = e.name }) w (λ c e. refl)

code_is : (l : Link) → view_code (link_view l) ≡ (if l.ended then 4 else phase_code l.moving.phase)
code_is l = by l.ended l.moving.phase
  where
    by : (b : Bool) (p : Phase) → (if b then 4 else if is_paused p then 2 else if is_resuming p then 3 else 1) ≡ (if b then 4 else phase_code p)
    by true p = refl
    by false Running = refl
    by false Paused = refl
    by false Resuming = refl

mark_is : (l : Option Link) → link_mark (option_map link_view l) ≡ mark_of l
mark_is None = refl
mark_is (Some l) = ap (λ n. record { una = l.sender.una; state = n }) (code_is l)

pub marks_listed : (w : World) → map view_mark (live_list w) ≡ marks w
marks_listed w = ends_listed view_mark (λ e. mark_of e.link) w (λ c e. mark_is e.link)

numbers_are : (l : Option Link) → link_numbers (option_map link_view l) ≡ unacknowledged l
numbers_are None = refl
numbers_are (Some l) = refl

folded : {A : Type 0} (f : A → ℕ) (xs : List A) (n : ℕ) → fold (λ a x. a + f x) n xs ≡ fold (λ a x. a + x) n (map f xs)
folded f [] n = refl
folded f (x ∷ xs) n = folded f xs (n + f x)

pub load_listed : (w : World) → sum_by view_numbers (live_list w) + length (live_list w) + 1 ≡ load_of w
unfolding load_of
load_listed w =
    let numbers : map view_numbers (live_list w) ≡ map (λ e. unacknowledged e.link) (live_ends w) = ends_listed view_numbers (λ e. unacknowledged e.link) w (λ c e. numbers_are e.link) in
    let sums : sum_by view_numbers (live_list w) ≡ sum_by (λ e. unacknowledged e.link) (live_ends w) =
    folded view_numbers (live_list w) 0 ∙ (ap (λ ns. fold (λ a x. a + x) 0 ns) numbers ∙ sym (folded (λ (e : End). unacknowledged e.link) (live_ends w) 0)) in
    let counts : length (live_list w) ≡ length (live_ends w) = sym (length-map (live_list w) view_numbers) ∙ (ap length numbers ∙ length-map (live_ends w) (λ e. unacknowledged e.link)) in
    ap (λ n. n + length (live_list w) + 1) sums ∙ ap (λ n. sum_by (λ e. unacknowledged e.link) (live_ends w) + n + 1) counts

-- ---- what is left

left_is : (o : ObjName) (l : Option Link) → left_linked o (option_map link_view l) ≡ left_link o l
left_is o None = refl
left_is o (Some l) = by (length l.sender.untold == 0) l.moving.phase
  where
    by : (b : Bool) (p : Phase) → with_why o (if b then None else if is_paused p then Some why.Paused else if is_resuming p then Some why.Resuming else Some why.NoReceive) ≡ (if b then [] else (o, left_phase p) ∷ [])
    by true p = refl
    by false Running = refl
    by false Paused = refl
    by false Resuming = refl

pub left_listed : (w : World) → flat_map left_view (live_list w) ++ flat_map left_image_of w.carried ≡ unfinished w
unfolding unfinished live_list
left_listed w =
    ap (λ xs. xs ++ flat_map left_image_of w.carried)
    (flat_flat left_view (λ (d : Device). flat_map (λ c. map (live_end c) c.ends) d.contexts) (λ d. flat_map (λ c. flat_map (λ e. left_link (record { context = c.name; name = e.name }) e.link) c.ends) d.contexts) w.devices (λ d.
    flat_flat left_view (λ (c : Context). map (live_end c) c.ends) (λ c. flat_map (λ e. left_link (record { context = c.name; name = e.name }) e.link) c.ends) d.contexts (λ c.
    flat_map-map left_view (live_end c) c.ends
    ∙ flat_same (λ e. left_view (live_end c e)) (λ e. left_link (record { context = c.name; name = e.name }) e.link) c.ends (λ e. left_is (record { context = c.name; name = e.name }) e.link))))
