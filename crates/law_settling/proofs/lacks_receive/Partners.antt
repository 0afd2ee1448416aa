-- An end's partner in Error, as settling asks for it.
use Rattle.std.proofs.Common.{arith, ◌≡◌, ◌≤◌, ◌⊎◌, ℕ, List, [], ◌∷◌, ◌++◌, map, true, false, Bool, refl, sym, ap, ◌∙◌, subst, inl, inr}
use Rattle.std.specs.Prelude.{Contains, Option, Some, None, flat_map, bytes_eq, ◌==◌, ◌&&◌, ◌||◌, if◌then◌else◌}
use Rattle.std.specs.List.{count_by}
use Rattle.rdma_types.specs.declared.names.Name.{Name}
use Rattle.rdma_types.specs.declared.names.ObjName.{ObjName}
use Rattle.rdma_types.specs.Lists.{has_name, named, some}
use Rattle.protocol.specs.declared.images.ContextImage.{ContextImage}
use Rattle.protocol.specs.declared.images.EndImage.{EndImage}
use Rattle.protocol.specs.EndWords.{is_in_error}
use Rattle.protocol.specs.Images as images
use Rattle.protocol.specs.State.{World, Context, End, Link, no_context, no_end}
use Rattle.protocol.specs.Settle.{is_ended_image, live_ends, partner_ended}
use Rattle.packetless_machine.specs.Machine as machine
use Rattle.packetless_machine.specs.Machine.{Machine}
use Rattle.law_simulation.specs.Stands.{Stands}
use Rattle.law_simulation.specs.Views.{contexts_of, context_of, name_of, owned, owned_there}
use Rattle.law_simulation.proofs.relation.Tables.{named-absent}
use Rattle.law_simulation.proofs.relation.Worlds.{has_name-flat}
use Rattle.law_simulation.proofs.delivery.First.{contains_counted, contains_named, count_both, count_map, named_counted, named_once}
use Rattle.law_settling.proofs.draining.Pending.{contains_cases, contains_here, contains_later}
use Rattle.law_settling.proofs.bound.Lives.{lives, at_end, context_in, ends_are}
use Rattle.law_settling.proofs.bound.Sums.{context_is, once_end}
use Rattle.law_settling.proofs.bound.Turns.{live_end}
use Rattle.law_settling.proofs.sending_stops.Places.{one_named}
use Rattle.law_settling.proofs.lacks_receive.Noted.{IsLost}
use Rattle.law_settling.proofs.lacks_receive.Kept.{some_link}
use Rattle.law_settling.proofs.lacks_receive.Tests.{both_parts, both_true, equal_is, equal_tests}

-- ---- what lists hold

contains_more : {A : Type 0} (x : A) (xs ys : List A) → Contains xs x → Contains (xs ++ ys) x
contains_more x [] ys h = absurd (omega (arith, h.1))
contains_more x (z ∷ xs) ys h = elim (contains_cases x z xs h) [
  | inl e ↦ subst (λ k. Contains (k ∷ (xs ++ ys)) x) (sym e) (contains_here x (xs ++ ys))
  | inr l ↦ contains_later x z (xs ++ ys) (contains_more x xs ys l)
]

contains_past : {A : Type 0} (x : A) (xs ys : List A) → Contains ys x → Contains (xs ++ ys) x
contains_past x [] ys h = h
contains_past x (z ∷ xs) ys h = contains_later x z (xs ++ ys) (contains_past x xs ys h)

contains_either : {A : Type 0} (x : A) (xs ys : List A) → Contains (xs ++ ys) x → Contains xs x ⊎ Contains ys x
contains_either x [] ys h = inr h
contains_either x (z ∷ xs) ys h = elim (contains_cases x z (xs ++ ys) h) [
  | inl e ↦ inl (subst (λ k. Contains (k ∷ xs) x) (sym e) (contains_here x xs))
  | inr l ↦ elim (contains_either x xs ys l) [ inl a ↦ inl (contains_later x z xs a) | inr b ↦ inr b ]
]

flat_back : {A B : Type 0} (f : A → List B) (y : B) (xs : List A) → Contains (flat_map f xs) y → (x : A) × Contains xs x × Contains (f x) y
flat_back f y [] h = absurd (omega (arith, h.1))
flat_back f y (x ∷ xs) h = elim (contains_either y (f x) (flat_map f xs) h) [
  | inl a ↦ (x, contains_here x xs, a)
  | inr b ↦ let r = flat_back f y xs b in (r.0, contains_later r.0 x xs r.1, r.2)
]

flat_there : {A B : Type 0} (f : A → List B) (y : B) (x : A) (xs : List A) → Contains xs x → Contains (f x) y → Contains (flat_map f xs) y
flat_there f y x [] h k = absurd (omega (arith, h.1))
flat_there f y x (z ∷ xs) h k = elim (contains_cases x z xs h) [
  | inl e ↦ contains_more y (f z) (flat_map f xs) (subst (λ u. Contains (f u) y) (sym e) k)
  | inr l ↦ contains_past y (f z) (flat_map f xs) (flat_there f y x xs l k)
]

map_back : {A B : Type 0} (f : A → B) (y : B) (xs : List A) → Contains (map f xs) y → (x : A) × Contains xs x × (f x ≡ y)
map_back f y [] h = absurd (omega (arith, h.1))
map_back f y (x ∷ xs) h = elim (contains_cases y (f x) (map f xs) h) [
  | inl e ↦ (x, contains_here x xs, e)
  | inr l ↦ let r = map_back f y xs l in (r.0, contains_later r.0 x xs r.1, r.2)
]

map_there : {A B : Type 0} (f : A → B) (x : A) (xs : List A) → Contains xs x → Contains (map f xs) (f x)
map_there f x [] h = absurd (omega (arith, h.1))
map_there f x (z ∷ xs) h = elim (contains_cases x z xs h) [
  | inl e ↦ subst (λ u. Contains (f u ∷ map f xs) (f x)) (sym e) (contains_here (f x) (map f xs))
  | inr l ↦ contains_later (f x) (f z) (map f xs) (map_there f x xs l)
]

some_found : {A : Type 0} (test : A → Bool) (xs : List A) → some test xs ≡ true → (x : A) × Contains xs x × (test x ≡ true)
unfolding some
some_found test [] h = absurd (cc)
some_found test (x ∷ xs) h = by_test (test x) refl h (some_found test xs)
  where
    by_test : (b : Bool) → test x ≡ b → (b || some test xs) ≡ true → (some test xs ≡ true → (y : _) × Contains xs y × (test y ≡ true)) → (y : _) × Contains (x ∷ xs) y × (test y ≡ true)
    by_test true t g later = (x, contains_here x xs, t)
    by_test false t g later = let r = later g in (r.0, contains_later r.0 x xs r.1, r.2)

some_true : {A : Type 0} (test : A → Bool) (x : A) (xs : List A) → Contains xs x → test x ≡ true → some test xs ≡ true
unfolding some
some_true test x [] h t = absurd (omega (arith, h.1))
some_true test x (z ∷ xs) h t = elim (contains_cases x z xs h) [
  | inl e ↦ first (test z) (some test xs) (ap test e ∙ t)
  | inr l ↦ last (test z) (some test xs) (some_true test x xs l t)
]
  where
    first : (a b : Bool) → a ≡ true → (a || b) ≡ true
    first true b h = refl
    first false b h = absurd (cc)

    last : (a b : Bool) → b ≡ true → (a || b) ≡ true
    last true b h = refl
    last false b h = h

named_there : {A : Type 0} (name : A → Name) (none : A) (n : Name) (xs : List A) → has_name name n xs ≡ true → Contains xs (named name none n xs)
unfolding has_name named
named_there name none n [] h = absurd (cc)
named_there name none n (x ∷ xs) h = by_test (bytes_eq (name x) n) h (named_there name none n xs)
  where
    by_test : (b : Bool) → (b || has_name name n xs) ≡ true → (has_name name n xs ≡ true → Contains xs (named name none n xs)) → Contains (x ∷ xs) (if b then x else named name none n xs)
    by_test true g later = contains_here x xs
    by_test false g later = contains_later (named name none n xs) x xs (later g)

has_by : {A : Type 0} (b : Bool) (name : A → Name) (none : A) (f : A → Option Link) (n : Name) (xs : List A) (l : Link) → has_name name n xs ≡ b → f none ≡ None → f (named name none n xs) ≡ Some l → b ≡ true
has_by true name none f n xs l h empty linked' = refl
has_by false name none f n xs l h empty linked' = absurd (cc (ap f (named-absent name none n xs h), empty, linked'))

error_link : (r : Option Link) → is_in_error r ≡ true → (l : Link) × (r ≡ Some l) × (l.ended ≡ true)
error_link None h = absurd (cc)
error_link (Some l) h = (l, refl, h)

-- ---- a live end among all

live_in : (w : World) (o : ObjName) (l : Link) → (at_end w o).link ≡ Some l → Contains (live_ends w) (at_end w o)
unfolding named
live_in w o l linked' =
    let c : Context = context_in (lives w) o.context in
    let has_c : has_name (λ z. z.name) o.context (lives w) ≡ true = has_by _ (λ (z : Context). z.name) no_context (λ z. (named (λ e. e.name) no_end o.name z.ends).link) o.context (lives w) l refl refl linked' in
    let has_e : has_name (λ z. z.name) o.name c.ends ≡ true = has_by _ (λ (z : End). z.name) no_end (λ z. z.link) o.name c.ends l refl refl linked' in
    subst (λ es. Contains es (at_end w o)) (sym (ends_are w))
    (flat_there (λ (z : Context). z.ends) (at_end w o) c (lives w) (named_there (λ z. z.name) no_context o.context (lives w) has_c) (named_there (λ z. z.name) no_end o.name c.ends has_e))

-- a partner in Error is found so
pub lost_ended : (w : World) (l : Link) → IsLost w l → partner_ended w l ≡ true
lost_ended w l t =
    first (some (λ e. e.number == l.peer && is_in_error e.link) (live_ends w)) _
    (some_true (λ e. e.number == l.peer && is_in_error e.link) (at_end w t.partner) (live_ends w) (live_in w t.partner t.link t.linked)
    (both_true _ _ (equal_tests (at_end w t.partner).number l.peer t.number) (ap is_in_error t.linked ∙ t.ended)))
  where
    first : (a b : Bool) → a ≡ true → (a || b) ≡ true
    first true b h = refl
    first false b h = absurd (cc)

-- ---- .. and the other way

module _ (w : World) (m : Machine) (s : Stands w m) where
  end_there : (c : Context) → Contains (lives w) c → (e : End) → Contains c.ends e → at_end w (record { context = c.name; name = e.name }) ≡ e
  end_there c there e in_c = ap (λ z. named (λ y. y.name) no_end e.name z.ends) (context_is w m s c there) ∙ named_once (λ z. z.name) no_end e c.ends in_c (once_end w m s c there e.name)

  module _ (p : ObjName) (lp : Link) (at : (at_end w p).link ≡ Some lp) (n : ℕ) (number : (at_end w p).number ≡ n) where
    here : name_of m n ≡ p
    here = ap (name_of m) (sym number) ∙ one_named w m p lp s at

    -- a live end in Error with its number is the partner
    live_over : some (λ e. e.number == n && is_in_error e.link) (live_ends w) ≡ true → lp.ended ≡ true
    live_over h =
        let f = some_found (λ e. e.number == n && is_in_error e.link) (live_ends w) h in
        let t = both_parts _ _ f.2 in
        let c = flat_back (λ (z : Context). z.ends) f.0 (lives w) (subst (λ es. Contains es f.0) (ends_are w) f.1) in
        let k : ObjName = record { context = c.0.name; name = f.0.name } in
        let is : at_end w k ≡ f.0 = end_there c.0 c.1 f.0 c.2 in
        let r = error_link f.0.link t.1 in
        let named' : name_of m (at_end w k).number ≡ k = one_named w m k r.0 s (ap (λ e. e.link) is ∙ r.1) in
        let same : k ≡ p = sym named' ∙ (ap (name_of m) (ap (λ e. e.number) is ∙ equal_is f.0.number n t.0) ∙ here) in
        ap (λ z. z.ended) (some_link lp r.0 (sym at ∙ (ap (λ z. (at_end w z).link) (sym same) ∙ (ap (λ e. e.link) is ∙ r.1)))) ∙ r.2

    -- no carried end has its number
    carried_not : (i : ContextImage) (e : EndImage) → Contains w.carried i → Contains i.ends e → e.number ≡ n → ⊥
    unfolding contexts_of context_of images.context_of images.end_of_image owned owned_there machine.has_end machine.end_of
    carried_not i e in_w in_i same_number =
        let x : Context = images.context_of i in
        let d : End = images.end_of_image i e in
        let in_carried : Contains (map images.context_of w.carried) x = map_there images.context_of i w.carried in_w in
        let in_x : Contains x.ends d = map_there (images.end_of_image i) e i.ends in_i in
        let in_all : Contains (lives w ++ map images.context_of w.carried) x = contains_past x (lives w) (map images.context_of w.carried) in_carried in
        let once : count_by (λ c. bytes_eq c.name x.name) (lives w ++ map images.context_of w.carried) ≤ 1 =
        omega (arith, s.placed.once x.name, count_map (λ c. c.name) (λ k. bytes_eq k x.name) (λ (c : Context). bytes_eq c.name x.name) (lives w ++ map images.context_of w.carried) (λ c. refl)) in
        let is : context_of w x.name ≡ x = named_once (λ z. z.name) (record no_context { name = x.name }) x (lives w ++ map images.context_of w.carried) in_all once in
        let ends : map owned_there x.ends ≡ map owned (machine.context_of m x.name).ends = ap (λ (c : Context). map owned_there c.ends) (sym is) ∙ (s.same x.name).ends in
        let f = map_back owned (owned_there d) (machine.context_of m x.name).ends (subst (λ zs. Contains zs (owned_there d)) ends (map_there owned_there d x.ends in_x)) in
        let k : ObjName = record { context = x.name; name = f.0.name } in
        let found : machine.end_of m k ≡ f.0 = named_once (λ z. z.name) (machine.nobody k) f.0 (machine.context_of m x.name).ends f.1 ((s.sound x.name).named_once f.0.name) in
        let has : machine.has_end m k ≡ true = contains_named (λ z. z.name) f.0 (machine.context_of m x.name).ends f.1 in
        let number_k : (machine.end_of m k).number ≡ n = ap (λ z. z.number) found ∙ (ap (λ z. z.number) f.2 ∙ same_number) in
        let same : k ≡ p = sym (s.numbered.named k has) ∙ (ap (name_of m) number_k ∙ here) in
        let lives_p : has_name (λ c. c.name) p.context (lives w) ≡ true = has_name-flat p.context w.devices ∙ (live_end w m p lp s at).live in
        let lives_x : has_name (λ (c : Context). c.name) x.name (lives w) ≡ true = ap (λ (z : ObjName). has_name (λ (c : Context). c.name) z.context (lives w)) same ∙ lives_p in
        absurd (omega (
          arith,
          once,
          count_both (λ c. bytes_eq c.name x.name) (lives w) (map images.context_of w.carried),
          named_counted (λ (c : Context). c.name) x.name (lives w) lives_x,
          contains_counted (λ (c : Context). c.name) x (map images.context_of w.carried) in_carried,
        ))

    carried_over : some (λ c. some (λ e. e.number == n && is_ended_image e) c.ends) w.carried ≡ true → ⊥
    carried_over h =
        let f = some_found (λ c. some (λ e. e.number == n && is_ended_image e) c.ends) w.carried h in
        let g = some_found (λ e. e.number == n && is_ended_image e) f.0.ends f.2 in
        carried_not f.0 g.0 f.1 g.1 (equal_is g.0.number n (both_parts _ _ g.2).0)

    ended_by : (a b : Bool) → (a ≡ true → lp.ended ≡ true) → (b ≡ true → ⊥) → (a || b) ≡ true → lp.ended ≡ true
    ended_by true b live carried h = live refl
    ended_by false b live carried h = absurd (carried h)

  -- where the partner is found in Error, its end is
  pub ended_lost : (p : ObjName) (lp l : Link) → (at_end w p).link ≡ Some lp → (at_end w p).number ≡ l.peer → partner_ended w l ≡ true → lp.ended ≡ true
  ended_lost p lp l at number h = ended_by p lp at l.peer number _ _ (live_over p lp at l.peer number) (carried_over p lp at l.peer number) h
