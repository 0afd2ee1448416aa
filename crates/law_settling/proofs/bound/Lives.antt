-- The live contexts of a world as one list, and its ends in it.
use Rattle.std.proofs.Common.{◌≡◌, ◌≢◌, ℕ, List, [], ◌∷◌, ◌++◌, map, true, false, Bool, refl, sym, ap, ◌∙◌, subst, inl, inr}
use Rattle.std.specs.Prelude.{Option, Some, None, flat_map, if◌then◌else◌}
use Rattle.std.proofs.lemmas.List.{append_assoc}
use Rattle.rdma_types.specs.declared.names.Name.{Name}
use Rattle.rdma_types.specs.declared.names.ObjName.{ObjName}
use Rattle.rdma_types.specs.Lists.{first_that, has_name, named, store, store_named}
use Rattle.protocol.specs.State.{World, Device, Context, End, Link, no_context, no_end, context_at, end_at}
use Rattle.protocol.specs.DeviceStep as device
use Rattle.protocol.specs.WorldStep.{home, is_live, live_context, or_none}
use Rattle.protocol.specs.Settle.{link_at, live_ends, live_names, named_ends}
use Rattle.packetless_machine.specs.Machine.{Machine}
use Rattle.law_simulation.specs.Stands.{IsPlaced}
use Rattle.law_simulation.proofs.relation.Tables.{flat-store_found, flat_map-store, map-store, map-store_found, name_or_not, named-append_has, named-append_lacks, named-absent, named-store_same, named-store_other, name-named_there}
use Rattle.law_simulation.proofs.relation.Worlds.{holds_it, home_found, ids_once}
use Rattle.law_simulation.proofs.sending.GoTables.{stored_same}
use Rattle.law_settling.specs.Weights.{GoesOn, EndGoesOn}
use Rattle.law_settling.proofs.weights.Links.{same}

-- the live contexts
abbrev pub lives : World → List Context
lives w = flat_map (λ d. d.contexts) w.devices

-- the context with a name, if it lives
abbrev pub context_in : List Context → Name → Context
context_in cs n = named (λ c. c.name) no_context n cs

-- the end with a name, if it lives
abbrev pub at_end : World → ObjName → End
at_end w o = named (λ e. e.name) no_end o.name (context_in (lives w) o.context).ends

context_found : (n : Name) (ds : List Device) → context_at (or_none (first_that (holds_it n) ds)) n ≡ context_in (flat_map (λ d. d.contexts) ds) n
unfolding first_that named
context_found n [] = refl
context_found n (d ∷ ds) = by_test (has_name (λ c. c.name) n d.contexts) refl (context_found n ds)
  where
    by_test : (b : Bool) → has_name (λ c. c.name) n d.contexts ≡ b → context_at (or_none (first_that (holds_it n) ds)) n ≡ context_in (flat_map (λ d. d.contexts) ds) n → context_at (or_none (if b then Some d else first_that (holds_it n) ds)) n ≡ context_in (d.contexts ++ flat_map (λ d. d.contexts) ds) n
    by_test true h later = sym (named-append_has (λ c. c.name) no_context no_context n d.contexts (flat_map (λ d. d.contexts) ds) h)
    by_test false h later = later ∙ sym (named-append_lacks (λ c. c.name) no_context n d.contexts (flat_map (λ d. d.contexts) ds) h)

pub live_context_is : (w : World) (n : Name) → live_context w n ≡ context_in (lives w) n
unfolding live_context home
live_context_is w n = context_found n w.devices

pub end_is : (w : World) (o : ObjName) → end_at (live_context w o.context) o.name ≡ at_end w o
end_is w o = ap (λ c. end_at c o.name) (live_context_is w o.context)

pub link_is : (w : World) (o : ObjName) → link_at w o ≡ (at_end w o).link
link_is w o = ap (λ e. e.link) (end_is w o)

-- ---- lists of lists

flat_both : {A B : Type 0} (f : A → List B) (xs ys : List A) → flat_map f (xs ++ ys) ≡ flat_map f xs ++ flat_map f ys
flat_both f [] ys = refl
flat_both f (x ∷ xs) ys = ap (λ zs. f x ++ zs) (flat_both f xs ys) ∙ sym (append_assoc (f x) (flat_map f xs) (flat_map f ys))

flat_flat : {A B C : Type 0} (f : B → List C) (g : A → List B) (xs : List A) → flat_map (λ x. flat_map f (g x)) xs ≡ flat_map f (flat_map g xs)
flat_flat f g [] = refl
flat_flat f g (x ∷ xs) = ap (λ zs. flat_map f (g x) ++ zs) (flat_flat f g xs) ∙ sym (flat_both f (g x) (flat_map g xs))

pub names_are : (w : World) → live_names w ≡ flat_map named_ends (lives w)
unfolding live_names
names_are w = flat_flat named_ends (λ (d : Device). d.contexts) w.devices

pub ends_are : (w : World) → live_ends w ≡ flat_map (λ c. c.ends) (lives w)
unfolding live_ends
ends_are w = flat_flat (λ (c : Context). c.ends) (λ (d : Device). d.contexts) w.devices

flat_of_map : {A B : Type 0} (f : A → List B) (xs : List A) → flat_map f xs ≡ flat_map (λ y. y) (map f xs)
flat_of_map f [] = refl
flat_of_map f (x ∷ xs) = ap (λ zs. f x ++ zs) (flat_of_map f xs)

-- ---- a step that changes one context, or none

-- a device that is found is put back
pub lives_same : (w : World) (m : Machine) (test : Device → Bool) (d : Device) → IsPlaced w m → first_that test w.devices ≡ Some d → flat_map (λ e. e.contexts) (store (λ e. e.id) d.id d w.devices) ≡ lives w
lives_same w m test d placed found =
    flat_of_map (λ e. e.contexts) (store (λ e. e.id) d.id d w.devices)
    ∙ (ap (flat_map (λ y. y)) (map-store_found (λ e. e.contexts) (λ e. e.id) test d d w.devices (ids_once w m placed) found refl)
    ∙ sym (flat_of_map (λ e. e.contexts) w.devices))

-- the home of a context is put back with another context of its name
pub lives_stored : (w : World) (m : Machine) (c : Name) (x : Context) → IsPlaced w m → is_live w c ≡ true → x.name ≡ c →
    flat_map (λ e. e.contexts) (store (λ e. e.id) (home w c).id (device.with_context (home w c) x) w.devices) ≡ store_named (λ y. y.name) c x (lives w)
unfolding device.with_context
lives_stored w m c x placed live named' =
    flat-store_found (λ e. e.contexts) (λ y. y.name) (λ e. e.id) c x (home w c) (device.with_context (home w c) x) w.devices (ids_once w m placed) (home_found w c live)
    (ap (λ k. store_named (λ y. y.name) k x (home w c).contexts) named')

-- ---- what becomes of all ends

-- a link goes on, where the partner moved so often
abbrev pub LinkGoesOn : ℕ → Type 0 → Option Link → Option Link → Type 0
LinkGoesOn k N None None = Unit {0}
LinkGoesOn k N (Some l) (Some l') = GoesOn k N l l'
LinkGoesOn k N None (Some l) = ⊥
LinkGoesOn k N (Some l) None = ⊥

pub link_same : (k : ℕ) (N : Type 0) (l : Option Link) → LinkGoesOn k N l l
link_same k N None = tt
link_same k N (Some l) = same k N l

pub link_goes : {k : ℕ} {N : Type 0} {l l' : Link} {a b : Option Link} → a ≡ Some l → b ≡ Some l' → GoesOn k N l l' → LinkGoesOn k N a b
link_goes {k} {N} {l} {l'} {a} {b} ha hb g = subst (λ z. LinkGoesOn k N z b) (sym ha) (subst (λ z. LinkGoesOn k N (Some l) z) (sym hb) g)

-- the ends of w go on to those of w'; K says how often the partner of the end with a number moved
pub record AllGoOn (K : ℕ → ℕ) (N : Type 0) (w w' : World) : Type 0 where
  pub names : live_names w' ≡ live_names w
  pub number : (o : ObjName) → (at_end w' o).number ≡ (at_end w o).number
  pub links : (o : ObjName) → LinkGoesOn (K (at_end w o).number) N (at_end w o).link (at_end w' o).link

pub unmoved : (K : ℕ → ℕ) (N : Type 0) (w w' : World) → lives w' ≡ lives w → AllGoOn K N w w'
unmoved K N w w' h = record {
  names = names_are w' ∙ (ap (flat_map named_ends) h ∙ sym (names_are w));
  number = λ o. ap (λ e. e.number) (end_same o);
  links = λ o. subst (λ e. LinkGoesOn (K (at_end w o).number) N (at_end w o).link e.link) (sym (end_same o)) (link_same _ N (at_end w o).link);
}
  where
    end_same : (o : ObjName) → at_end w' o ≡ at_end w o
    end_same o = ap (λ cs. named (λ e. e.name) no_end o.name (context_in cs o.context).ends) h

-- the context of o is there as c, and o in it as e with the link l
pub record IsThere (w : World) (o : ObjName) (c : Context) (e : End) (l : Link) : Type 0 where
  pub live : has_name (λ y. y.name) o.context (lives w) ≡ true
  pub context : context_in (lives w) o.context ≡ c
  pub end : named (λ z. z.name) no_end o.name c.ends ≡ e
  pub linked : e.link ≡ Some l

there_by : (b : Bool) (n : Name) (es : List End) (e : End) (l : Link) → has_name (λ z. z.name) n es ≡ b → named (λ z. z.name) no_end n es ≡ e → e.link ≡ Some l → b ≡ true
there_by true n es e l h is linked = refl
there_by false n es e l h is linked = absurd (cc (ap (λ z. z.link) (sym is ∙ named-absent (λ z. z.name) no_end n es h), linked))

module _ (w : World) (o : ObjName) (c : Context) (e : End) (l : Link) (t : IsThere w o c e l) where
  in_there : has_name (λ z. z.name) o.name c.ends ≡ true
  in_there = by_test (has_name (λ z. z.name) o.name c.ends) refl
    where
      by_test : (b : Bool) → has_name (λ z. z.name) o.name c.ends ≡ b → has_name (λ z. z.name) o.name c.ends ≡ true
      by_test b h = h ∙ there_by b o.name c.ends e l h t.end t.linked

  pub name_is : e.name ≡ o.name
  name_is = ap (λ z. z.name) (sym t.end) ∙ name-named_there (λ z. z.name) no_end o.name c.ends in_there

  pub context_name : c.name ≡ o.context
  context_name = ap (λ z. z.name) (sym t.context) ∙ name-named_there (λ z. z.name) no_context o.context (lives w) t.live

  pub self_stored : c.ends ≡ store_named (λ z. z.name) e.name e c.ends
  self_stored = sym (ap (λ k. store_named (λ z. z.name) k e c.ends) name_is ∙ (ap (λ z. store_named (λ y. y.name) o.name z c.ends) (sym t.end) ∙ stored_same (λ z. z.name) no_end o.name c.ends in_there))

  module _ (w' : World) (x : Context) (stored : lives w' ≡ store_named (λ y. y.name) o.context x (lives w)) (K : ℕ → ℕ) (N : Type 0) (g : EndGoesOn (K e.number) N c e l x) where
    x_name : x.name ≡ o.context
    x_name = g.named ∙ context_name

    x_ends : x.ends ≡ store_named (λ z. z.name) o.name g.end c.ends
    x_ends = g.ends ∙ ap (λ k. store_named (λ z. z.name) k g.end c.ends) name_is

    end_name : g.end.name ≡ o.name
    end_name = g.name ∙ name_is

    names_same : named_ends x ≡ named_ends c
    names_same =
        (λ i. map (λ z. record { context = g.named i; name = z.name }) (x_ends i))
        ∙ map-store (λ (z : End). record { context = c.name; name = z.name }) (λ z. z.name) no_end o.name g.end c.ends in_there
        (ap (λ k. record { context = c.name; name = k }) (g.name ∙ ap (λ z. z.name) (sym t.end)))

    context_now : (k : Name) → (k ≡ o.context) → context_in (lives w') k ≡ x
    context_now k h = ap (context_in (lives w')) h ∙ (ap (λ cs. context_in cs o.context) stored ∙ named-store_same (λ y. y.name) no_context o.context x (lives w) x_name)

    context_else : (k : Name) → k ≢ o.context → context_in (lives w') k ≡ context_in (lives w) k
    context_else k ne = ap (λ cs. context_in cs k) stored ∙ named-store_other (λ y. y.name) no_context o.context k x (lives w) x_name ne

    -- what becomes of each end
    Rel : (k : ObjName) → End → End → Type 0
    Rel k a b = (b.number ≡ a.number) × LinkGoesOn (K a.number) N a.link b.link

    same_rel : (k : ObjName) (a b : End) → b ≡ a → Rel k a b
    unfolding Rel
    same_rel k a b h = (ap (λ z. z.number) h, subst (λ z. LinkGoesOn (K a.number) N a.link z.link) (sym h) (link_same _ N a.link))

    in_context : (k : ObjName) → k.context ≡ o.context → Rel k (at_end w k) (at_end w' k)
    unfolding Rel
    in_context k h = elim (name_or_not k.name o.name) [
      | inl n ↦
          let a : at_end w k ≡ e = ap (λ z. named (λ y. y.name) no_end k.name z.ends) (ap (context_in (lives w)) h ∙ t.context) ∙ (ap (λ z. named (λ y. y.name) no_end z c.ends) n ∙ t.end) in
          let b : at_end w' k ≡ g.end = ap (λ z. named (λ y. y.name) no_end k.name z.ends) (context_now k.context h) ∙ ((λ i. named (λ y. y.name) no_end (n i) (x_ends i)) ∙ named-store_same (λ z. z.name) no_end o.name g.end c.ends end_name) in (
            ap (λ z. z.number) b ∙ (g.number ∙ ap (λ z. z.number) (sym a)),
            subst (λ z. LinkGoesOn (K z.number) N z.link (at_end w' k).link) (sym a) (subst (λ z. LinkGoesOn (K e.number) N e.link z.link) (sym b) (link_goes t.linked g.linked g.goes)),
          )
      | inr ne ↦
          same_rel k (at_end w k) (at_end w' k) (
          ap (λ z. named (λ y. y.name) no_end k.name z.ends) (context_now k.context h)
          ∙ (ap (named (λ y. y.name) no_end k.name) x_ends
          ∙ (named-store_other (λ z. z.name) no_end o.name k.name g.end c.ends end_name ne
          ∙ sym (ap (λ z. named (λ y. y.name) no_end k.name z.ends) (ap (context_in (lives w)) h ∙ t.context)))))
    ]

    each_rel : (k : ObjName) → Rel k (at_end w k) (at_end w' k)
    each_rel k = elim (name_or_not k.context o.context) [
      | inl h ↦ in_context k h
      | inr ne ↦ same_rel k (at_end w k) (at_end w' k) (ap (λ z. named (λ y. y.name) no_end k.name z.ends) (context_else k.context ne))
    ]

    pub link_after : (at_end w' o).link ≡ Some g.link
    link_after =
        ap (λ z. (named (λ y. y.name) no_end o.name z.ends).link) (context_now o.context refl)
        ∙ (ap (λ es. (named (λ y. y.name) no_end o.name es).link) x_ends ∙ (ap (λ z. z.link) (named-store_same (λ z. z.name) no_end o.name g.end c.ends end_name) ∙ g.linked))

    pub all_go_on : AllGoOn K N w w'
    unfolding Rel
    all_go_on = record {
      names = names_are w' ∙ (ap (flat_map named_ends) stored ∙ (flat_map-store named_ends (λ y. y.name) no_context o.context x (lives w) t.live (names_same ∙ ap named_ends (sym t.context)) ∙ sym (names_are w)));
      number = λ k. (each_rel k).0;
      links = λ k. (each_rel k).1;
    }
