-- What an image brings: its counts, its numbers, and what of it is taken.
use Rattle.std.proofs.Common.{arith, ◌≡◌, ◌≢◌, ◌≤◌, ◌<◌, ◌+◌, ◌/◌, ◌%◌, ℕ, zero, suc, List, [], ◌∷◌, ◌++◌, map, length, take, get_or, true, false, Bool, refl, sym, ap, ◌∙◌, inl, inr}
use Rattle.std.specs.Prelude.{AllPairs, ◌⊎◌, ◌||◌, ◌==◌, max, if◌then◌else◌, Option, Some, None, is_some, option_map, slice_get}
use Rattle.std.specs.List.{list_any}
use Rattle.std.proofs.lemmas.Bool.{true≢false}
use Rattle.std.proofs.lemmas.Bool.Decides.{eqb_tells}
use Rattle.std.proofs.lemmas.List.{map-append, take_more}
use Rattle.std.proofs.lemmas.Option.{slice_get_within}
use Rattle.rdma_types.specs.declared.names.Name.{Name}
use Rattle.rdma_types.specs.Lists.{has, some}
use Rattle.protocol.specs.declared.images.ContextImage.{ContextImage}
use Rattle.protocol.specs.declared.images.EndImage.{EndImage}
use Rattle.protocol.specs.declared.images.LinkImage.{LinkImage}
use Rattle.protocol.specs.declared.images.PostedImage.{PostedImage}
use Rattle.protocol.specs.declared.images.RegionImage.{RegionImage}
use Rattle.protocol.specs.DeviceStep.{highest}
use Rattle.protocol.specs.Images.{context_of, end_of_image, link_of_image, region_of_image}
use Rattle.protocol.specs.Refusals.{has_context, has_husk, has_moved_out, keys_are_taken, links_of, number_is_taken}
use Rattle.protocol.specs.State.{Context, Device, End, Husk, HuskEntry, context_at, no_context, no_husk}
use Rattle.law_devices.proofs.Restoring.{map-map}
use Rattle.device_core.specs.declared.index.EndLocation.{EndLocation}
use Rattle.device_core.specs.Coming.{brings_taken, has_moved_image, higher, numbers_of_ends, pair_is_taken, pairs_of}
use Rattle.device_core.specs.Index.{IsEndAt, IsEntryAt, IsIndex, husk_at, spot}
use Rattle.device_core.specs.Leaving.{placed}
use Rattle.device_core.proofs.FoundEnds.{named_here, place_of_name}
use Rattle.device_core.proofs.Leavings.{placed-push, taken-next}

-- ---- counts

highest-push : (id size : ℕ) (xs : List ℕ) (x n : ℕ) → highest id size (xs ++ x ∷ []) n ≡ higher id size x (highest id size xs n)
unfolding highest
highest-push id size [] x n = refl
highest-push id size (y ∷ xs) x n = highest-push id size xs x (if y / size == id then max n (y % size) else n)

pub highest-none : (id size n : ℕ) → highest id size [] n ≡ n
unfolding highest
highest-none id size n = refl

-- one thing more
pub highest-next : {A : Type 0} (f : A → ℕ) (id size : ℕ) (es : List A) (i : ℕ) → i < length es → (d : A) (n now after : ℕ) → now ≡ highest id size (map f (take i es)) n → after ≡ higher id size (f (get_or es i d)) now → after ≡ highest id size (map f (take (i + 1) es)) n
highest-next f id size es i l d n now after was step =
    let more : map f (take (i + 1) es) ≡ map f (take i es) ++ f (get_or es i d) ∷ [] = ap (map f) (take_more es i d l) ∙ map-append f (take i es) (get_or es i d ∷ []) in
    step ∙ (ap (higher id size (f (get_or es i d))) was ∙ sym (ap (λ xs. highest id size xs n) more ∙ highest-push id size (map f (take i es)) (f (get_or es i d)) n))

-- counts do not go back
pub highest-above : (id size : ℕ) (xs : List ℕ) (n : ℕ) → n ≤ highest id size xs n
unfolding highest
highest-above id size [] n = omega arith
highest-above id size (x ∷ xs) n = by_test (x / size == id) (λ m. highest-above id size xs m)
  where
    by_test : (b : Bool) → ((m : ℕ) → m ≤ highest id size xs m) → n ≤ highest id size xs (if b then max n (x % size) else n)
    by_test true later = omega (arith, later (max n (x % size)))
    by_test false later = later n

-- ---- numbers that are noted

-- one number more
pub placed-more : {A : Type 0} (f : A → ℕ) (n : Name) (es : List A) (i : ℕ) → i < length es → (d : A) (k : ℕ) (o now after : Option EndLocation) → now ≡ placed n 0 (map f (take i es)) k o → after ≡ (if f (get_or es i d) == k then Some (spot n i) else now) → after ≡ placed n 0 (map f (take (i + 1) es)) k o
placed-more {A} f n es i l d k o now after was step =
    let more : map f (take (i + 1) es) ≡ map f (take i es) ++ f (get_or es i d) ∷ [] = ap (map f) (take_more es i d l) ∙ map-append f (take i es) (get_or es i d ∷ []) in
    let at : 0 + length (map f (take i es)) ≡ i = length_taken es i l in
    step
    ∙ ((λ j. if f (get_or es i d) == k then Some (spot n (sym at j)) else was j)
    ∙ sym (ap (λ xs. placed n 0 xs k o) more ∙ placed-push n 0 (map f (take i es)) (f (get_or es i d)) k o))
  where
    length_taken : (xs : List A) (j : ℕ) → j < length xs → 0 + length (map f (take j xs)) ≡ j
    length_taken [] j h = absurd (omega (arith, h))
    length_taken (x ∷ xs) zero h = refl
    length_taken (x ∷ xs) (suc j) h = let later = length_taken xs j (omega (arith, h)) in omega (arith, later)

-- ---- what stands in a list

or_true : (a b : Bool) → b ≡ true → (a || b) ≡ true
or_true true b e = refl
or_true false b e = e

pub some-at : {A : Type 0} (test : A → Bool) (xs : List A) (i : ℕ) (x : A) → slice_get xs i ≡ Some x → test x ≡ true → some test xs ≡ true
unfolding some
some-at test [] i x at h = absurd (cc)
some-at test (y ∷ xs) zero x at h = let same : y ≡ x = cc in ap (λ z. test z || some test xs) same ∙ ap (λ b. b || some test xs) h
some-at test (y ∷ xs) (suc i) x at h = or_true (test y) _ (some-at test xs i x at h)

-- the first that passes
pub record Passes {A : Type 0} (test : A → Bool) (xs : List A) : Type 0 where
  pub place : ℕ
  pub thing : A
  pub there : slice_get xs place ≡ Some thing
  pub passes : test thing ≡ true

pub some-place : {A : Type 0} (test : A → Bool) (xs : List A) → some test xs ≡ true → Passes test xs
unfolding some
some-place test [] h = absurd (cc)
some-place {A} test (x ∷ xs) h = by_test (test x) refl (some-place test xs) h
  where
    by_test : (b : Bool) → test x ≡ b → (some test xs ≡ true → Passes test xs) → (b || some test xs) ≡ true → Passes test (x ∷ xs)
    by_test true e later g = record { place = 0; thing = x; there = refl; passes = e }
    by_test false e later g = let p = later g in record { place = suc p.place; thing = p.thing; there = p.there; passes = p.passes }

pub has-some : {A : Type 0} (f : A → ℕ) (k : ℕ) (xs : List A) → has f k xs ≡ some (λ x. f x == k) xs
unfolding has some
has-some f k [] = refl
has-some f k (x ∷ xs) = ap (λ b. f x == k || b) (has-some f k xs)

pub some-any : {A B : Type 0} (test : B → Bool) (f : A → B) (test' : A → Bool) (xs : List A) → ((x : A) → test (f x) ≡ test' x) → some test (map f xs) ≡ list_any test' xs
unfolding some
some-any test f test' [] same = refl
some-any test f test' (x ∷ xs) same = (λ i. same x i || some-any test f test' xs same i)

-- one thing more does not pass
pub some-none : {A : Type 0} (test : A → Bool) → some test [] ≡ false
unfolding some
some-none test = refl

some-push : {A : Type 0} (test : A → Bool) (xs : List A) (x : A) → some test xs ≡ false → test x ≡ false → some test (xs ++ x ∷ []) ≡ false
unfolding some
some-push test [] x none h = ap (λ b. b || false) h
some-push test (y ∷ xs) x none h = by_test (test y) (some-push test xs x) none
  where
    by_test : (b : Bool) → (some test xs ≡ false → test x ≡ false → some test (xs ++ x ∷ []) ≡ false) → (b || some test xs) ≡ false → (b || some test (xs ++ x ∷ [])) ≡ false
    by_test true later g = absurd (true≢false g)
    by_test false later g = later g h

pub some-next : {A : Type 0} (test : A → Bool) (xs : List A) (i : ℕ) (x : A) → slice_get xs i ≡ Some x → some test (take i xs) ≡ false → test x ≡ false → some test (take (i + 1) xs) ≡ false
some-next test xs i x at none h =
    let next = taken-next xs i (slice_get_within xs i x at) in
    let same : next.0 ≡ x = cc (next.1, at) in
    ap (some test) next.2 ∙ some-push test (take i xs) next.0 none (ap test same ∙ h)

-- what stands at a place of a list stands for a thing there
pub map-at : {A B : Type 0} (f : A → B) (xs : List A) (i : ℕ) (x : A) → slice_get xs i ≡ Some x → slice_get (map f xs) i ≡ Some (f x)
map-at f [] i x h = absurd (cc)
map-at f (y ∷ xs) zero x h = let same : y ≡ x = cc in ap (λ z. Some (f z)) same
map-at f (y ∷ xs) (suc i) x h = map-at f xs i x h

pub map-none : {A B : Type 0} (f : A → B) (xs : List A) (i : ℕ) → slice_get xs i ≡ None → slice_get (map f xs) i ≡ None
map-none f [] i h = refl
map-none f (y ∷ xs) zero h = absurd (cc)
map-none f (y ∷ xs) (suc i) h = map-none f xs i h

pub same_number : (a k : ℕ) → a ≡ k → (a == k) ≡ true
same_number a k e = elim (eqb_tells a k) [ inl t ↦ t.0 | inr t ↦ absurd (t.1 e) ]

pub number_same : (a k : ℕ) → (a == k) ≡ true → a ≡ k
number_same a k e = elim (eqb_tells a k) [ inl t ↦ t.1 | inr t ↦ absurd (true≢false (sym e ∙ t.0)) ]

-- ---- what the index has

-- the index has the numbers that are taken
pub noted-taken : (index : ℕ → Option EndLocation) (d : Device) → IsIndex index d → AllPairs (λ a b. a ≢ b) (map (λ c. c.name) d.contexts) → AllPairs (λ a b. a ≢ b) (map (λ h. h.name) d.husks) → (k : ℕ) → is_some (index k) ≡ number_is_taken d k
noted-taken index d i names husk_names k = by_found (index k) refl
  where
    live : Context → Bool
    live c = has (λ e. e.number) k c.ends

    stays : Husk → Bool
    stays h = has (λ x. x.number) k h.entries

    end_live : (n : Name) (place : ℕ) → IsEndAt d n place k → some (λ c. has (λ e. e.number) k c.ends) d.contexts ≡ true
    end_live n place e =
        let p = place_of_name (λ c. c.name) no_context n d.contexts e.lives in
        some-at (λ c. has (λ e. e.number) k c.ends) d.contexts p.0 (context_at d n) p.1
        (has-some (λ (x : End). x.number) k (context_at d n).ends ∙ some-at (λ (x : End). x.number == k) (context_at d n).ends place e.end e.there (same_number e.end.number k e.same))

    entry_stays : (n : Name) (place : ℕ) → IsEntryAt d n place k → some (λ h. has (λ x. x.number) k h.entries) d.husks ≡ true
    entry_stays n place e =
        let p = place_of_name (λ h. h.name) no_husk n d.husks e.stays in
        some-at (λ h. has (λ x. x.number) k h.entries) d.husks p.0 (husk_at d n) p.1
        (has-some (λ (x : HuskEntry). x.number) k (husk_at d n).entries ∙ some-at (λ (x : HuskEntry). x.number == k) (husk_at d n).entries place e.entry e.there (same_number e.entry.number k e.same))

    taken : (n : Name) (place : ℕ) → IsEndAt d n place k ⊎ IsEntryAt d n place k → true ≡ number_is_taken d k
    taken n place (inl e) = sym (ap (λ b. b || some (λ h. has (λ x. x.number) k h.entries) d.husks) (end_live n place e))
    taken n place (inr e) = sym (or_true (some (λ c. has (λ e. e.number) k c.ends) d.contexts) _ (entry_stays n place e))

    none_some : (s : EndLocation) → index k ≡ None → index k ≡ Some s → ⊥
    none_some s a b = absurd (cc)

    not_live : index k ≡ None → (b : Bool) → some (λ c. has (λ e. e.number) k c.ends) d.contexts ≡ b → b ≡ false
    not_live none false e = refl
    not_live none true e =
        let p = some-place (λ (c : Context). has (λ e. e.number) k c.ends) d.contexts e in
        let q = some-place (λ (x : End). x.number == k) p.thing.ends (sym (has-some (λ (x : End). x.number) k p.thing.ends) ∙ p.passes) in
        let here = named_here (λ (c : Context). c.name) no_context d.contexts p.place p.thing names p.there in
        absurd (none_some (spot p.thing.name q.place) none (i.ends p.thing.name q.place k (record {
          lives = here.0;
          end = q.thing;
          there = ap (λ (c : Context). slice_get c.ends q.place) here.1 ∙ q.there;
          same = number_same q.thing.number k q.passes;
        })))

    not_left : index k ≡ None → (b : Bool) → some (λ h. has (λ x. x.number) k h.entries) d.husks ≡ b → b ≡ false
    not_left none false e = refl
    not_left none true e =
        let p = some-place (λ (h : Husk). has (λ x. x.number) k h.entries) d.husks e in
        let q = some-place (λ (x : HuskEntry). x.number == k) p.thing.entries (sym (has-some (λ (x : HuskEntry). x.number) k p.thing.entries) ∙ p.passes) in
        let here = named_here (λ (h : Husk). h.name) no_husk d.husks p.place p.thing husk_names p.there in
        absurd (none_some (spot p.thing.name q.place) none (i.entries p.thing.name q.place k (record {
          stays = here.0;
          entry = q.thing;
          there = ap (λ (h : Husk). slice_get h.entries q.place) here.1 ∙ q.there;
          same = number_same q.thing.number k q.passes;
        })))

    by_found : (o : Option EndLocation) → index k ≡ o → is_some o ≡ number_is_taken d k
    by_found (Some s) e = taken s.context s.place (i.exact s.context s.place k e)
    by_found None e = sym (ap (λ b. b || some (λ h. has (λ x. x.number) k h.entries) d.husks) (not_live e _ refl) ∙ not_left e _ refl)

-- ---- what an image brings

pub numbers-brought : (i : ContextImage) → map (λ e. e.number) (context_of i).ends ≡ numbers_of_ends i.ends
unfolding context_of end_of_image
numbers-brought i = map-map (λ (e : End). e.number) (end_of_image i) (λ (e : EndImage). e.number) i.ends (λ e. refl)

pub pairs-brought : (i : ContextImage) → map (λ r. r.keys.local / 2) (context_of i).regions ≡ pairs_of i.regions
unfolding context_of
pairs-brought i = map-map (λ r. r.keys.local / 2) (region_of_image i.domains) (λ r. r.keys.local / 2) i.regions (λ r. refl)

pub taken-brought : (d : Device) (i : ContextImage) → brings_taken d i ≡ ((has_context d (context_of i).name || has_husk d (context_of i).name) || (some (λ e. number_is_taken d e.number) (context_of i).ends || some (keys_are_taken d) (context_of i).regions))
unfolding context_of end_of_image
taken-brought d i = (λ j. (has_context d i.name || has_husk d i.name) || (sym (some-any (λ (e : End). number_is_taken d e.number) (end_of_image i) (λ (e : EndImage). number_is_taken d e.number) i.ends (λ e. refl)) j || sym (some-any (keys_are_taken d) (region_of_image i.domains) (λ (r : RegionImage). pair_is_taken d r.keys) i.regions (λ r. refl)) j))

pub moved-brought : (i : ContextImage) → list_any (λ e. has_moved_image e.linked) i.ends ≡ some has_moved_out (links_of (context_of i))
unfolding context_of end_of_image link_of_image
moved-brought i =
    sym (ap (some has_moved_out) (map-map (λ (e : End). e.link) (end_of_image i) (λ (e : EndImage). option_map (link_of_image i.regions e.untold) e.linked) i.ends (λ e. refl))
    ∙ some-any has_moved_out (λ (e : EndImage). option_map (link_of_image i.regions e.untold) e.linked) (λ (e : EndImage). has_moved_image e.linked) i.ends (λ e. by_link e.untold e.linked))
  where
    by_link : (untold : List PostedImage) (o : Option LinkImage) → has_moved_out (option_map (link_of_image i.regions untold) o) ≡ has_moved_image o
    by_link untold None = refl
    by_link untold (Some l) = refl
