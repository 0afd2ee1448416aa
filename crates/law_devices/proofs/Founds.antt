-- What an event finds on a sound device.
use Rattle.std.proofs.Common.{arith, ◌≡◌, ◌≢◌, ◌⊎◌, ◌≤◌, ◌<◌, ◌+◌, ℕ, zero, suc, List, [], ◌∷◌, ◌++◌, map, length, get_or, true, false, Bool, refl, sym, ap, ◌∙◌, inl, inr, subst}
use Rattle.std.specs.Prelude.{All, AllPairs, bytes_eq, Option, Some, None, not, if◌then◌else◌, slice_get, ◌&&◌, ◌||◌, ◌==◌}
use Rattle.std.proofs.lemmas.List.Elements.{All-append, All-cons, All-head, All-nil, All-tail}
use Rattle.rdma_types.specs.Causes.{Cause, first_cause}
use Rattle.rdma_types.specs.declared.names.Name.{Name}
use Rattle.rdma_types.specs.Lists.{has_name, named}
use Rattle.rdma_types.proofs.Tables.{name_is, same_name}
use Rattle.protocol.specs.DeviceStep.{Found, ends_with, found_in, found_link}
use Rattle.protocol.specs.Refusals.{has_context, has_end, has_husk}
use Rattle.protocol.specs.State.{Context, Device, End, Link, context_at, end_at, no_context, no_end}
use Rattle.law_devices.specs.Sound.{AreCounted, IsSoundContext, IsSoundDevice}
use Rattle.law_devices.proofs.Pairs.{AllPairs-first, AllPairs-tail}
use Rattle.law_devices.proofs.Regions.{All-at}
use Rattle.law_devices.proofs.Rooms.{IsHere}
use Rattle.law_devices.proofs.Tables.{All-named, name-named_there}

-- ---- causes that do not hold

pub no-cause : (x : Cause) (xs : List Cause) → first_cause (x ∷ xs) ≡ None → (x.holds ≡ false) × (first_cause xs ≡ None)
unfolding first_cause
no-cause x xs h = by_test x.holds refl h
  where
    by_test : (b : Bool) → x.holds ≡ b → (if b then Some x.refusal else first_cause xs) ≡ None → (x.holds ≡ false) × (first_cause xs ≡ None)
    by_test true t g = absurd (cc)
    by_test false t g = (t, g)

pub not-false : (b : Bool) → not b ≡ false → b ≡ true
not-false true e = refl
not-false false e = absurd (cc)

-- ---- a live context

pub record Live (d : Device) (n : Name) : Type 0 where
  pub sound : IsSoundContext (context_at d n)
  pub counted : AreCounted d (context_at d n)

pub live : (d : Device) (n : Name) → IsSoundDevice d → has_context d n ≡ true → Live d n
live d n s there = record {
  sound = All-named IsSoundContext (λ c. c.name) no_context n d.contexts s.contexts there;
  counted = All-named (AreCounted d) (λ c. c.name) no_context n d.contexts s.counted there;
}

-- the causes of an event within a context that do not hold
pub record Within (d : Device) (n : Name) (causes : List Cause) : Type 0 where
  pub there : has_context d n ≡ true
  pub none : first_cause causes ≡ None

pub within-context : (d : Device) (n : Name) (a b : Cause) (causes : List Cause) → b.holds ≡ not (has_context d n) → first_cause (a ∷ b ∷ causes) ≡ None → Within d n causes
within-context d n a b causes is h =
    let one = no-cause a (b ∷ causes) h in
    let two = no-cause b causes one.1 in
    record { there = not-false (has_context d n) (sym is ∙ two.0); none = two.1 }

pub here-named : (c : Context) (n : Name) → has_end c n ≡ true → IsHere c (end_at c n)
here-named c n there =
    let name = name-named_there (λ (e : End). e.name) no_end n c.ends there in
    record { there = ap (λ k. has_name (λ (e : End). e.name) k c.ends) name ∙ there; is = ap (λ k. named (λ (e : End). e.name) no_end k c.ends) name }

-- ---- ends that are found by number

pub map_at : {A B : Type 0} (f : A → B) (xs : List A) (i : ℕ) (x : A) → slice_get xs i ≡ Some x → slice_get (map f xs) i ≡ Some (f x)
map_at f [] i x h = absurd (cc)
map_at {A} f (y ∷ ys) zero x h = let same : y ≡ x = cc in ap (λ (z : A). Some (f z)) same
map_at f (y ∷ ys) (suc i) x h = map_at f ys i x h

pub all-at : {A : Type 0} (P : A → Type 0) (xs : List A) → ((i : ℕ) (x : A) → slice_get xs i ≡ Some x → P x) → All P xs
all-at P [] h = All-nil P
all-at P (x ∷ xs) h = All-cons P x xs (h 0 x refl) (all-at P xs (λ i y there. h (suc i) y there))

-- a thing among others of other names is the one of its name
pub named-at : {A : Type 0} (name : A → List ℕ) (none : A) (xs : List A) (i : ℕ) (x : A) → AllPairs (λ a b. a ≢ b) (map name xs) → slice_get xs i ≡ Some x → (has_name name (name x) xs ≡ true) × (named name none (name x) xs ≡ x)
unfolding has_name named
named-at name none [] i x apart h = absurd (cc)
named-at {A} name none (y ∷ ys) zero x apart h =
    let same : y ≡ x = cc in
    let is : bytes_eq (name y) (name x) ≡ true = ap (λ (z : A). bytes_eq (name y) (name z)) (sym same) ∙ same_name (name y) in
    (ap (λ b. b || has_name name (name x) ys) is, ap (λ b. if b then y else named name none (name x) ys) is ∙ same)
named-at {A} name none (y ∷ ys) (suc i) x apart h = by_test (bytes_eq (name y) (name x)) refl (named-at name none ys i x (AllPairs-tail (λ a b. a ≢ b) (name y) (map name ys) apart) h)
  where
    other : name y ≢ name x
    other = All-at (λ b. name y ≢ b) (map name ys) i (name x) (AllPairs-first (λ a b. a ≢ b) (name y) (map name ys) apart) (map_at name ys i x h)

    by_test : (b : Bool) → bytes_eq (name y) (name x) ≡ b → (has_name name (name x) ys ≡ true) × (named name none (name x) ys ≡ x) → ((b || has_name name (name x) ys) ≡ true) × ((if b then y else named name none (name x) ys) ≡ x)
    by_test true t later = absurd (other (name_is (name y) (name x) t))
    by_test false t later = later

pub all-here : (c : Context) → AllPairs (λ a b. a ≢ b) (map (λ e. e.name) c.ends) → All (IsHere c) c.ends
all-here c apart = all-at (IsHere c) c.ends (λ i x there. let both = named-at (λ (e : End). e.name) no_end c.ends i x apart there in record { there = both.0; is = both.1 })

-- a connected end of a sound context of the device
pub record IsFoundThere (d : Device) (f : Found) : Type 0 where
  pub sound : IsSoundContext f.context
  pub counted : AreCounted d f.context
  pub here : IsHere f.context f.end
  pub linked : f.end.link ≡ Some f.link

ends-there : (d : Device) (n : ℕ) (c : Context) (es : List End) → IsSoundContext c → AreCounted d c → All (IsHere c) es → All (IsFoundThere d) (ends_with n c es)
unfolding ends_with
ends-there d n c [] s counted all = All-nil (IsFoundThere d)
ends-there d n c (e ∷ es) s counted all = by_test (e.number == n) (ends-there d n c es s counted (All-tail (IsHere c) e es all))
  where
    by_link : (o : Option Link) → e.link ≡ o → All (IsFoundThere d) (ends_with n c es) → All (IsFoundThere d) (found_link c e o (ends_with n c es))
    by_link None t later = later
    by_link (Some l) t later = All-cons (IsFoundThere d) (record { context = c; end = e; link = l }) (ends_with n c es) (record { sound = s; counted = counted; here = All-head (IsHere c) e es all; linked = t }) later

    by_test : (b : Bool) → All (IsFoundThere d) (ends_with n c es) → All (IsFoundThere d) (if b then found_link c e e.link (ends_with n c es) else ends_with n c es)
    by_test true later = by_link e.link refl later
    by_test false later = later

pub founds-there : (d : Device) (n : ℕ) (cs : List Context) → All IsSoundContext cs → All (AreCounted d) cs → All (IsFoundThere d) (found_in n cs)
unfolding found_in
founds-there d n [] all counted = All-nil (IsFoundThere d)
founds-there d n (c ∷ cs) all counted =
    let s = All-head IsSoundContext c cs all in
    All-append (IsFoundThere d) (ends_with n c c.ends) (found_in n cs)
    (ends-there d n c c.ends s (All-head (AreCounted d) c cs counted) (all-here c s.parts.end_names.distinct))
    (founds-there d n cs (All-tail IsSoundContext c cs all) (All-tail (AreCounted d) c cs counted))
