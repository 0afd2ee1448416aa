-- The connected end that a packet reaches at a device is the one whose number it names, where that lives there.
use Rattle.std.proofs.Common.{arith, ◌≡◌, ◌≤◌, ℕ, List, [], ◌∷◌, ◌++◌, map, length, true, false, Bool, refl, sym, ap, ◌∙◌, subst}
use Rattle.std.specs.Prelude.{Contains, Option, Some, None, flat_map, bytes_eq, is_some, ◌==◌, if◌then◌else◌}
use Rattle.std.specs.List.{count_by}
use Rattle.std.proofs.lemmas.List.{length-append}
use Rattle.std.proofs.lemmas.Bool.Decides.{nat_tests, eqb_tells}
use Rattle.rdma_types.specs.declared.names.Name.{Name}
use Rattle.rdma_types.specs.declared.names.ObjName.{ObjName}
use Rattle.rdma_types.specs.declared.requests.Address.{Address}
use Rattle.rdma_types.specs.Lists.{first_that, named, has_name}
use Rattle.protocol.specs.Images as images
use Rattle.protocol.specs.State.{World, Device, Context, End, Link, no_end, no_context, context_at, end_at}
use Rattle.protocol.specs.DeviceStep.{Found, found_link, ends_with, found_in}
use Rattle.protocol.specs.WorldStep.{is_live, home, or_none, same_address, device_with}
use Rattle.packetless_machine.specs.Machine as machine
use Rattle.packetless_machine.specs.Machine.{Machine, has_end}
use Rattle.law_simulation.specs.Views.{owned, owned_there, contexts_of, context_of, end_of, home_in, address_or_none, place_of, name_of}
use Rattle.law_simulation.specs.Stands.{Stands, IsPlaced, AreSame}
use Rattle.law_simulation.proofs.relation.Tables.{named-there, named-absent}
use Rattle.law_simulation.proofs.relation.Ends.{end_there, end_owned, names_there, names_here}
use Rattle.law_simulation.proofs.relation.Grants.{contains_here, contains_later}
use Rattle.law_simulation.proofs.relation.Live.{live_same}
use Rattle.law_simulation.proofs.relation.Worlds.{holds_it, home_context, home_holds}
use Rattle.law_simulation.proofs.delivery.First.{first_other, first_some, count_both, count_map, part_counted, holders_counted, contains_named, named_once}

-- ---- the first connected end with a number

-- x is a connected end of the context c with that number
pub record IsHead (n : ℕ) (c : Context) (es : List End) (x : Found) : Type 0 where
  pub context : x.context ≡ c
  pub there : Contains es x.end
  pub number : x.end.number ≡ n
  pub linked : x.end.link ≡ Some x.link

head_later : (n : ℕ) (c : Context) (e : End) (es : List End) (x : Found) → IsHead n c es x → IsHead n c (e ∷ es) x
head_later n c e es x h = record { context = h.context; there = contains_later x.end e es h.there; number = h.number; linked = h.linked }

head_link : (n : ℕ) (c : Context) (e : End) (es : List End) (x : Found) (xs : List Found) (l : Option Link) → e.number ≡ n → e.link ≡ l → found_link c e l (ends_with n c es) ≡ x ∷ xs → (ends_with n c es ≡ x ∷ xs → IsHead n c es x) → IsHead n c (e ∷ es) x
unfolding ends_with
head_link n c e es x xs None number linked h later = head_later n c e es x (later h)
head_link n c e es x xs (Some l) number linked h later =
    let is : record { context = c; end = e; link = l } ≡ x = cc in
    subst (λ z. IsHead n c (e ∷ es) z) is (record { context = refl; there = contains_here e es; number = number; linked = linked })

head_if : (n : ℕ) (c : Context) (e : End) (es : List End) (x : Found) (xs : List Found) (b : Bool) → (e.number == n) ≡ b → (if b then found_link c e e.link (ends_with n c es) else ends_with n c es) ≡ x ∷ xs → (ends_with n c es ≡ x ∷ xs → IsHead n c es x) → IsHead n c (e ∷ es) x
unfolding ends_with
head_if n c e es x xs true t h later = head_link n c e es x xs e.link (grind (arith, nat_tests, eqb_tells e.number n, t)) refl h later
head_if n c e es x xs false t h later = head_later n c e es x (later h)

ends_head : (n : ℕ) (c : Context) (es : List End) (x : Found) (xs : List Found) → ends_with n c es ≡ x ∷ xs → IsHead n c es x
unfolding ends_with
ends_head n c [] x xs h = absurd (cc)
ends_head n c (e ∷ es) x xs h = head_if n c e es x xs (e.number == n) refl h (ends_head n c es x xs)

-- .. of some of these contexts
pub record IsHeadOf (n : ℕ) (cs : List Context) (x : Found) : Type 0 where
  pub there : Contains cs x.context
  pub head : IsHead n x.context x.context.ends x

head_of : (n : ℕ) (c : Context) (cs : List Context) (x : Found) (xs : List Found) (ys : List Found) → ends_with n c c.ends ≡ ys → ys ++ found_in n cs ≡ x ∷ xs → (found_in n cs ≡ x ∷ xs → IsHeadOf n cs x) → IsHeadOf n (c ∷ cs) x
unfolding found_in
head_of n c cs x xs [] is h later = let l = later h in record { there = contains_later x.context c cs l.there; head = l.head }
head_of n c cs x xs (y ∷ ys) is h later =
    let same : y ≡ x = cc in
    let head : IsHead n c c.ends x = ends_head n c c.ends x ys (subst (λ z. ends_with n c c.ends ≡ z ∷ ys) same is) in
    record { there = subst (Contains (c ∷ cs)) (sym head.context) (contains_here c cs); head = subst (λ z. IsHead n z z.ends x) (sym head.context) head }

found_head : (n : ℕ) (cs : List Context) (x : Found) (xs : List Found) → found_in n cs ≡ x ∷ xs → IsHeadOf n cs x
unfolding found_in
found_head n [] x xs h = absurd (cc)
found_head n (c ∷ cs) x xs h = head_of n c cs x xs (ends_with n c c.ends) refl h (found_head n cs x xs)

-- ---- a connected end with the number is found

more_ends : (n : ℕ) (c : Context) (e : End) (es : List End) → length (ends_with n c es) ≤ length (ends_with n c (e ∷ es))
unfolding ends_with
more_ends n c e es = by_test (e.number == n) e.link
  where
    by_test : (b : Bool) (l : Option Link) → length (ends_with n c es) ≤ length (if b then found_link c e l (ends_with n c es) else ends_with n c es)
    by_test true (Some l) = omega arith
    by_test true None = omega arith
    by_test false l = omega arith

one_end : (n : ℕ) (c : Context) (e : End) (es : List End) → e.number ≡ n → is_some e.link ≡ true → 1 ≤ length (ends_with n c (e ∷ es))
unfolding ends_with
one_end n c e es number linked = by_test (e.number == n) e.link (grind (arith, nat_tests, eqb_tells e.number n, number)) linked
  where
    by_test : (b : Bool) (l : Option Link) → b ≡ true → is_some l ≡ true → 1 ≤ length (if b then found_link c e l (ends_with n c es) else ends_with n c es)
    by_test true (Some l) t k = omega arith
    by_test true None t k = absurd (cc)
    by_test false l t k = absurd (cc)

ends_there : (n : ℕ) (c : Context) (k : Name) (es : List End) → has_name (λ e. e.name) k es ≡ true → (named (λ e. e.name) no_end k es).number ≡ n → is_some (named (λ e. e.name) no_end k es).link ≡ true → 1 ≤ length (ends_with n c es)
unfolding has_name named ends_with
ends_there n c k [] there number linked = absurd (cc)
ends_there n c k (e ∷ es) there number linked = by_test (bytes_eq e.name k) refl there number linked (ends_there n c k es)
  where
    by_test : (b : Bool) → bytes_eq e.name k ≡ b → has_name (λ e. e.name) k (e ∷ es) ≡ true → (if b then e else named (λ e. e.name) no_end k es).number ≡ n → is_some (if b then e else named (λ e. e.name) no_end k es).link ≡ true →
        (has_name (λ e. e.name) k es ≡ true → (named (λ e. e.name) no_end k es).number ≡ n → is_some (named (λ e. e.name) no_end k es).link ≡ true → 1 ≤ length (ends_with n c es)) → 1 ≤ length (ends_with n c (e ∷ es))
    by_test true t h number' linked' later = one_end n c e es number' linked'
    by_test false t h number' linked' later = omega (arith, more_ends n c e es, later (rw t at h) number' linked')

found_there : (n : ℕ) (k : Name) (cs : List Context) → has_name (λ c. c.name) k cs ≡ true → 1 ≤ length (ends_with n (named (λ c. c.name) no_context k cs) (named (λ c. c.name) no_context k cs).ends) → 1 ≤ length (found_in n cs)
unfolding has_name named found_in
found_there n k [] there h = absurd (cc)
found_there n k (c ∷ cs) there h = by_test (bytes_eq c.name k) refl there h (found_there n k cs)
  where
    by_test : (b : Bool) → bytes_eq c.name k ≡ b → has_name (λ c. c.name) k (c ∷ cs) ≡ true → 1 ≤ length (ends_with n (if b then c else named (λ c. c.name) no_context k cs) (if b then c else named (λ c. c.name) no_context k cs).ends) →
        (has_name (λ c. c.name) k cs ≡ true → 1 ≤ length (ends_with n (named (λ c. c.name) no_context k cs) (named (λ c. c.name) no_context k cs).ends) → 1 ≤ length (found_in n cs)) → 1 ≤ length (found_in n (c ∷ cs))
    by_test true t there' h' later = omega (arith, h', length-append (ends_with n c c.ends) (found_in n cs))
    by_test false t there' h' later = omega (arith, later (rw t at there') h', length-append (ends_with n c c.ends) (found_in n cs))

-- ---- in a world that stands

-- each name of a context stands once among the live ones
once_live : (w : World) (m : Machine) (k : Name) → IsPlaced w m → count_by (λ c. bytes_eq c.name k) (flat_map (λ d. d.contexts) w.devices) ≤ 1
unfolding contexts_of
once_live w m k placed =
    omega (
      arith,
      placed.once k,
      count_map (λ c. c.name) (λ n. bytes_eq n k) (λ (c : Context). bytes_eq c.name k) (flat_map (λ d. d.contexts) w.devices ++ map images.context_of w.carried) (λ c. refl),
      count_both (λ c. bytes_eq c.name k) (flat_map (λ d. d.contexts) w.devices) (map images.context_of w.carried),
    )

-- the end o is x, and lives on that device
pub record IsAt (w : World) (m : Machine) (d : Device) (x : Found) (o : ObjName) : Type 0 where
  pub live : is_live w o.context ≡ true
  pub home : home w o.context ≡ d
  pub context : context_at d o.context ≡ x.context
  pub end : end_at x.context o.name ≡ x.end
  pub linked : x.end.link ≡ Some x.link
  pub there : has_end m o ≡ true

-- the device that is found by any test holds the context, so it is its home
home_is : (w : World) (m : Machine) (test : Device → Bool) (d : Device) (c : Name) → IsPlaced w m → first_that test w.devices ≡ Some d → has_name (λ x. x.name) c d.contexts ≡ true → first_that (holds_it c) w.devices ≡ Some d
home_is w m test d c placed found held = first_other test (holds_it c) d w.devices found held (omega (arith, holders_counted (λ e. e.contexts) (λ x. x.name) c w.devices, once_live w m c placed))

pub found_at : (w : World) (m : Machine) (test : Device → Bool) (d : Device) (n : ℕ) (x : Found) (xs : List Found) → Stands w m → first_that test w.devices ≡ Some d → found_in n d.contexts ≡ x ∷ xs → IsAt w m d x (name_of m n)
unfolding home has_end machine.end_of owned owned_there
found_at w m test d n x xs s found h =
    let is : IsHeadOf n d.contexts x = found_head n d.contexts x xs h in
    let c : Name = x.context.name in
    let o : ObjName = record { context = c; name = x.end.name } in
    let held : has_name (λ z. z.name) c d.contexts ≡ true = contains_named (λ z. z.name) x.context d.contexts is.there in
    let first : first_that (holds_it c) w.devices ≡ Some d = home_is w m test d c s.placed found held in
    let live : is_live w c ≡ true = first_some (holds_it c) d w.devices first in
    let home' : home w c ≡ d = ap or_none first in
    let context : context_at d c ≡ x.context = named_once (λ z. z.name) no_context x.context d.contexts is.there (omega (arith, once_live w m c s.placed, part_counted (holds_it c) (λ e. e.contexts) (λ z. bytes_eq z.name c) d w.devices first)) in
    let same : AreSame x.context (machine.context_of m c) = subst (λ z. AreSame z (machine.context_of m c)) (ap (λ e. context_at e c) home' ∙ context) (live_same w m c s live) in
    let once : count_by (λ e. bytes_eq e.name x.end.name) x.context.ends ≤ 1 =
    omega (
      arith,
      (s.sound c).named_once x.end.name,
      count_map owned_there (λ z. bytes_eq z.name x.end.name) (λ e. bytes_eq e.name x.end.name) x.context.ends (λ e. ap (λ k. bytes_eq k x.end.name) (names_there e)),
      ap (count_by (λ z. bytes_eq z.name x.end.name)) same.ends,
      count_map owned (λ z. bytes_eq z.name x.end.name) (λ e. bytes_eq e.name x.end.name) (machine.context_of m c).ends (λ e. ap (λ k. bytes_eq k x.end.name) (names_here e)),
    ) in
    let end : end_at x.context x.end.name ≡ x.end = named_once (λ z. z.name) no_end x.end x.context.ends is.head.there once in
    let there : has_name (λ z. z.name) x.end.name (machine.context_of m c).ends ≡ true = sym (end_there x.end.name x.context.ends (machine.context_of m c).ends same.ends) ∙ contains_named (λ z. z.name) x.end x.context.ends is.head.there in
    let both = end_owned x.end.name no_end (machine.nobody o) x.context.ends (machine.context_of m c).ends same.ends there in
    let number : (machine.end_of m o).number ≡ n = ap (λ z. z.number) (sym both) ∙ (ap (λ z. z.number) end ∙ is.head.number) in
    let name : name_of m n ≡ o = ap (name_of m) (sym number) ∙ s.numbered.named o there in
    subst (IsAt w m d x) (sym name) (record { live = live; home = home'; context = context; end = end; linked = is.head.linked; there = there })

-- ---- where the packet finds no end, the end that it names is not there in Rts

home_first : (c : Name) (ds : List Device) → home_in ds c ≡ first_that (holds_it c) ds
unfolding home_in first_that
home_first c [] = refl
home_first c (d ∷ ds) = ap (λ r. if has_name (λ x. x.name) c d.contexts then Some d else r) (home_first c ds)

-- an end that is connected, where it lives
pub linked_there : (w : World) (o : ObjName) → is_live w o.context ≡ true → is_some (end_of w o).link ≡ true → (has_name (λ e. e.name) o.name (context_at (home w o.context) o.context).ends ≡ true) × (end_at (context_at (home w o.context) o.context) o.name ≡ end_of w o)
unfolding end_of
linked_there w o live linked = by_test (has_name (λ e. e.name) o.name (context_of w o.context).ends) refl
  where
    by_test : (b : Bool) → has_name (λ e. e.name) o.name (context_of w o.context).ends ≡ b → (has_name (λ e. e.name) o.name (context_at (home w o.context) o.context).ends ≡ true) × (end_at (context_at (home w o.context) o.context) o.name ≡ named (λ e. e.name) (record no_end { name = o.name }) o.name (context_of w o.context).ends)
    by_test true t = (
      ap (λ c. has_name (λ e. e.name) o.name c.ends) (home_context w o.context live) ∙ t,
      ap (λ c. end_at c o.name) (home_context w o.context live) ∙ named-there (λ e. e.name) no_end (record no_end { name = o.name }) o.name (context_of w o.context).ends t,
    )
    by_test false t = absurd (cc (ap (λ e. is_some e.link) (named-absent (λ e. e.name) (record no_end { name = o.name }) o.name (context_of w o.context).ends t), linked))

lives_at : (w : World) (m : Machine) (a b : Address) (c : Name) → IsPlaced w m → (r : Option Device) → first_that (holds_it c) w.devices ≡ r → address_or_none r ≡ Some a → same_address a b ≡ true → (is_live w c ≡ true) × (device_with w b ≡ Some (home w c))
unfolding home address_or_none
lives_at w m a b c placed None h e same = absurd (cc)
lives_at w m a b c placed (Some d) h e same =
    let at : d.address ≡ a = cc in (
      first_some (holds_it c) d w.devices h,
      first_other (holds_it c) (λ z. same_address z.address b) d w.devices h (ap (λ z. same_address z b) at ∙ same)
          (omega (arith, placed.addresses_once b, count_map (λ z. z.address) (λ x. same_address x b) (λ (z : Device). same_address z.address b) w.devices (λ z. refl))) ∙ ap (λ z. Some (or_none z)) (sym h),
    )

-- the end with the number is in Rts at that address: the device there finds it
pub lives_found : (w : World) (m : Machine) (o : ObjName) (a b : Address) (n : ℕ) → IsPlaced w m → is_some (end_of w o).link ≡ true → (end_of w o).number ≡ n → place_of w o.context ≡ Some a → same_address a b ≡ true → (d : Option Device) → device_with w b ≡ d → (e : Device) × (d ≡ Some e) × (1 ≤ length (found_in n e.contexts))
unfolding place_of
lives_found w m o a b n placed linked number place same d is =
    let lives = lives_at w m a b o.context placed (first_that (holds_it o.context) w.devices) refl (ap address_or_none (sym (home_first o.context w.devices)) ∙ place) same in
    let there = linked_there w o lives.0 linked in (
      home w o.context,
      sym is ∙ lives.1,
      found_there n o.context (home w o.context).contexts (home_holds w o.context lives.0)
          (ends_there n (context_at (home w o.context) o.context) o.name (context_at (home w o.context) o.context).ends there.0 (ap (λ e. e.number) there.1 ∙ number) (ap (λ e. is_some e.link) there.1 ∙ linked)),
    )
