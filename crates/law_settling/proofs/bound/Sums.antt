-- Sums over the names of all ends, and what is listed of them.
use Rattle.std.proofs.Common.{arith, ◌≡◌, ◌≤◌, ◌<◌, ◌+◌, ◌*◌, ℕ, suc, List, [], ◌∷◌, ◌++◌, length, map, true, false, Bool, refl, sym, ap, ◌∙◌, subst, inl, inr}
use Rattle.std.specs.Prelude.{All, Contains, Option, sum_by, flat_map, bytes_eq, ◌&&◌}
use Rattle.std.specs.List.{count_by}
use Rattle.std.proofs.lemmas.List.Sums.{sum_by-cons}
use Rattle.std.proofs.lemmas.List.Elements.{All-head, All-tail, All-weaker, All-contains_itself}
use Rattle.rdma_types.specs.declared.names.Name.{Name}
use Rattle.rdma_types.specs.declared.names.ObjName.{ObjName}
use Rattle.rdma_types.specs.Lists.{named}
use Rattle.protocol.specs.Images as images
use Rattle.protocol.specs.State.{World, Context, End, Link, no_context, no_end}
use Rattle.protocol.specs.WorldStep.{is_live, live_context}
use Rattle.protocol.specs.Settle.{Mark, mark_of, marks, same_marks, live_ends, live_names, named_ends, unacknowledged}
use Rattle.packetless_machine.specs.Machine as machine
use Rattle.packetless_machine.specs.Machine.{Machine}
use Rattle.law_simulation.specs.Views.{contexts_of, owned, owned_there}
use Rattle.law_simulation.specs.Stands.{Stands, AreSame}
use Rattle.law_simulation.proofs.relation.Ends.{names_there, names_here}
use Rattle.law_simulation.proofs.relation.Live.{live_same}
use Rattle.law_simulation.proofs.relation.Worlds.{has_name-flat}
use Rattle.law_simulation.proofs.delivery.First.{count_both, count_map, contains_named, named_once}
use Rattle.law_settling.proofs.draining.Pending.{contains_cases}
use Rattle.law_settling.specs.Weights.{same_mark}
use Rattle.law_settling.proofs.bound.Lives.{lives, at_end, context_in, live_context_is, names_are, ends_are}

-- ---- sums

pub sum_most : {A : Type 0} (f g : A → ℕ) (xs : List A) → ((x : A) → f x ≤ g x) → sum_by f xs ≤ sum_by g xs
sum_most f g [] h = omega arith
sum_most f g (x ∷ xs) h = omega (arith, h x, sum_most f g xs h, sum_by-cons f x xs, sum_by-cons g x xs)

pub sum_less : {A : Type 0} (f g : A → ℕ) (xs : List A) (x : A) → ((y : A) → f y ≤ g y) → Contains xs x → f x < g x → sum_by f xs < sum_by g xs
sum_less f g [] x h c l = absurd (omega (arith, c.1))
sum_less f g (y ∷ ys) x h c l = elim (contains_cases x y ys c) [
  | inl e ↦ let k : f y < g y = subst (λ z. f z < g z) (sym e) l in omega (arith, k, sum_most f g ys h, sum_by-cons f y ys, sum_by-cons g y ys)
  | inr d ↦ omega (arith, h y, sum_less f g ys x h d l, sum_by-cons f y ys, sum_by-cons g y ys)
]

pub sum_marked : {A : Type 0} (f g : A → ℕ) (a b : A → Mark) (xs : List A) → ((x : A) → f x ≤ g x) → ((x : A) → same_mark (a x) (b x) ≡ false → f x < g x) → same_marks (map a xs) (map b xs) ≡ false → sum_by f xs < sum_by g xs
unfolding same_marks
sum_marked f g a b [] h l d = absurd (cc)
sum_marked f g a b (x ∷ xs) h l d = by_test (same_mark (a x) (b x)) refl d (sum_marked f g a b xs h l)
  where
    by_test : (t : Bool) → same_mark (a x) (b x) ≡ t → (t && same_marks (map a xs) (map b xs)) ≡ false → (same_marks (map a xs) (map b xs) ≡ false → sum_by f xs < sum_by g xs) → sum_by f (x ∷ xs) < sum_by g (x ∷ xs)
    by_test false e k later = omega (arith, l x e, sum_most f g xs h, sum_by-cons f x xs, sum_by-cons g x xs)
    by_test true e k later = omega (arith, h x, later k, sum_by-cons f x xs, sum_by-cons g x xs)

pub sum_scaled : {A : Type 0} (f g : A → ℕ) (xs : List A) → ((x : A) → f x ≤ 18 * g x + 22) → sum_by f xs ≤ 18 * sum_by g xs + 22 * length xs
sum_scaled f g [] h = omega arith
sum_scaled f g (x ∷ xs) h = omega (arith, h x, sum_scaled f g xs h, sum_by-cons f x xs, sum_by-cons g x xs)

pub sum_map : {A B : Type 0} (f : B → ℕ) (g : A → B) (xs : List A) → sum_by (λ x. f (g x)) xs ≡ sum_by f (map g xs)
sum_map f g [] = refl
sum_map f g (x ∷ xs) = sum_by-cons (λ y. f (g y)) x xs ∙ (ap (λ n. f (g x) + n) (sum_map f g xs) ∙ sym (sum_by-cons f (g x) (map g xs)))

map_map : {A B C : Type 0} (f : B → C) (g : A → B) (xs : List A) → map f (map g xs) ≡ map (λ x. f (g x)) xs
map_map f g [] = refl
map_map f g (x ∷ xs) = ap (λ ys. f (g x) ∷ ys) (map_map f g xs)

map_both : {A B : Type 0} (f : A → B) (xs ys : List A) → map f (xs ++ ys) ≡ map f xs ++ map f ys
map_both f [] ys = refl
map_both f (x ∷ xs) ys = ap (λ zs. f x ∷ zs) (map_both f xs ys)

map_length : {A B : Type 0} (f : A → B) (xs : List A) → length (map f xs) ≡ length xs
map_length f [] = refl
map_length f (x ∷ xs) = ap suc (map_length f xs)

-- ---- the ends of a world that stands, by their names

module _ (w : World) (m : Machine) (s : Stands w m) where
  abbrev link_of_name : ObjName → Option Link
  link_of_name o = (at_end w o).link

  once_live : (k : Name) → count_by (λ c. bytes_eq c.name k) (lives w) ≤ 1
  unfolding contexts_of
  once_live k =
      omega (
        arith,
        s.placed.once k,
        count_map (λ c. c.name) (λ n. bytes_eq n k) (λ (c : Context). bytes_eq c.name k) (lives w ++ map images.context_of w.carried) (λ c. refl),
        count_both (λ c. bytes_eq c.name k) (lives w) (map images.context_of w.carried),
      )

  pub context_is : (c : Context) → Contains (lives w) c → context_in (lives w) c.name ≡ c
  context_is c there = named_once (λ z. z.name) no_context c (lives w) there (once_live c.name)

  same_context : (c : Context) → Contains (lives w) c → AreSame c (machine.context_of m c.name)
  unfolding live_context
  same_context c there =
      let live : is_live w c.name ≡ true = sym (has_name-flat c.name w.devices) ∙ contains_named (λ z. z.name) c (lives w) there in
      subst (λ z. AreSame z (machine.context_of m c.name)) (live_context_is w c.name ∙ context_is c there) (live_same w m c.name s live)

  pub once_end : (c : Context) → Contains (lives w) c → (n : Name) → count_by (λ e. bytes_eq e.name n) c.ends ≤ 1
  once_end c there n =
      let same = same_context c there in
      omega (
        arith,
        (s.sound c.name).named_once n,
        count_map owned_there (λ z. bytes_eq z.name n) (λ e. bytes_eq e.name n) c.ends (λ e. ap (λ k. bytes_eq k n) (names_there e)),
        ap (count_by (λ z. bytes_eq z.name n)) same.ends,
        count_map owned (λ z. bytes_eq z.name n) (λ e. bytes_eq e.name n) (machine.context_of m c.name).ends (λ e. ap (λ k. bytes_eq k n) (names_here e)),
      )

  end_link : (c : Context) → Contains (lives w) c → (e : End) → Contains c.ends e → link_of_name (record { context = c.name; name = e.name }) ≡ e.link
  end_link c there e in_c =
      ap (λ z. (named (λ y. y.name) no_end e.name z.ends).link) (context_is c there)
      ∙ ap (λ z. z.link) (named_once (λ z. z.name) no_end e c.ends in_c (once_end c there e.name))

  links_by : (c : Context) (es : List End) → All (λ e. link_of_name (record { context = c.name; name = e.name }) ≡ e.link) es → map (λ e. e.link) es ≡ map link_of_name (map (λ e. record { context = c.name; name = e.name }) es)
  links_by c [] all = refl
  links_by c (e ∷ es) all =
      let here = All-head (λ (z : End). link_of_name (record { context = c.name; name = z.name }) ≡ z.link) e es all in
      let rest = links_by c es (All-tail (λ (z : End). link_of_name (record { context = c.name; name = z.name }) ≡ z.link) e es all) in
      λ i. sym here i ∷ rest i

  context_links : (c : Context) → Contains (lives w) c → map (λ e. e.link) c.ends ≡ map link_of_name (named_ends c)
  context_links c there = links_by c c.ends (All-weaker (Contains c.ends) _ (λ e h. end_link c there e h) c.ends (All-contains_itself c.ends))

  all_links : (cs : List Context) → All (Contains (lives w)) cs → map (λ e. e.link) (flat_map (λ c. c.ends) cs) ≡ map link_of_name (flat_map named_ends cs)
  all_links [] all = refl
  all_links (c ∷ cs) all =
      map_both (λ e. e.link) c.ends (flat_map (λ c. c.ends) cs)
      ∙ ((λ i. context_links c (All-head (Contains (lives w)) c cs all) i ++ all_links cs (All-tail (Contains (lives w)) c cs all) i)
      ∙ sym (map_both link_of_name (named_ends c) (flat_map named_ends cs)))

  pub links_listed : map (λ e. e.link) (live_ends w) ≡ map link_of_name (live_names w)
  links_listed = ap (map (λ e. e.link)) (ends_are w) ∙ (all_links (lives w) (All-contains_itself (lives w)) ∙ sym (ap (map link_of_name) (names_are w)))

  pub marks_listed : marks w ≡ map (λ o. mark_of (link_of_name o)) (live_names w)
  marks_listed = sym (map_map mark_of (λ (e : End). e.link) (live_ends w)) ∙ (ap (map mark_of) links_listed ∙ map_map mark_of link_of_name (live_names w))

  pub load_listed : sum_by (λ e. unacknowledged e.link) (live_ends w) ≡ sum_by (λ o. unacknowledged (link_of_name o)) (live_names w)
  load_listed = sum_map unacknowledged (λ (e : End). e.link) (live_ends w) ∙ (ap (sum_by unacknowledged) links_listed ∙ sym (sum_map unacknowledged link_of_name (live_names w)))

  pub length_listed : length (live_ends w) ≡ length (live_names w)
  length_listed = sym (map_length (λ (e : End). e.link) (live_ends w)) ∙ (ap length links_listed ∙ map_length link_of_name (live_names w))
