-- Where no name is held twice, each context lives on one device, and no two contexts of a device have a name.
use Rattle.std.proofs.Common.{arith, ◌≡◌, ◌≢◌, ◌≤◌, ◌<◌, ◌+◌, ℕ, zero, suc, List, [], ◌∷◌, length, map, true, false, Bool, refl, ap, ◌∙◌}
use Rattle.std.specs.Prelude.{All, AllPairs, Some, None, bytes_eq, count_by, if◌then◌else◌, nat_lt, not, slice_get, sum_by}
use Rattle.std.specs.List.{position_or_len}
use Rattle.std.proofs.lemmas.Bool.Decides.{nat_tests}
use Rattle.std.proofs.lemmas.List.Elements.{All-cons, All-nil}
use Rattle.std.proofs.lemmas.List.Sums.{sum_by-cons}
use Rattle.rdma_types.specs.declared.names.Name.{Name}
use Rattle.protocol.specs.Refusals.{has_context}
use Rattle.protocol.specs.State.{Context, Device}
use Rattle.rdma_types.proofs.Tables.{same_name}
use Rattle.law_devices.proofs.Founds.{all-at}
use Rattle.law_devices.proofs.Pairs.{AllPairs-cons}
use Rattle.law_simulation.proofs.relation.Tables.{count_by-cons}
use Rattle.law_simulation.proofs.stop_restore.Lists.{present_counted}
use Rattle.law_settling.specs.OwnNames.{NamesAreApart, NamesAreEnough, holders}
use Rattle.law_settling.proofs.places.Lists.{the_same}
use Rattle.law_settling.proofs.own_names.Counting.{sum_at}
use Rattle.law_settling.proofs.own_names.Moving.{held}

-- ---- each context lives on one device

within : {A : Type 0} (xs : List A) (i : ℕ) (x : A) → slice_get xs i ≡ Some x → i < length xs
within [] i x h = absurd (cc)
within (z ∷ zs) zero x h = omega arith
within (z ∷ zs) (suc i) x h = omega (arith, within zs i x h)

-- the only thing that passes a test is at the first place
only_place : {A : Type 0} (f : A → ℕ) (test : A → Bool) (xs : List A) (i : ℕ) (x : A) → ((y : A) → test y ≡ true → 1 ≤ f y) → sum_by f xs ≤ 1 → slice_get xs i ≡ Some x → test x ≡ true → position_or_len test xs ≡ i
only_place f test [] i x counts most h passes = absurd (cc)
only_place f test (z ∷ zs) zero x counts most h passes = ap {B = ℕ} (λ b. if not b then 1 + position_or_len test zs else 0) (ap test (the_same z x h) ∙ passes)
only_place {A} f test (z ∷ zs) (suc i) x counts most h passes =
    by_test (test z) refl (only_place f test zs i x counts (omega (arith, most, sum_by-cons f z zs)) h passes)
  where
    by_test : (b : Bool) → test z ≡ b → position_or_len test zs ≡ i → (if not b then 1 + position_or_len test zs else 0) ≡ suc i
    by_test true t later = absurd (omega (arith, most, sum_by-cons f z zs, counts z t, counts x passes, sum_at f zs i x h))
    by_test false t later = omega (arith, later)

pub names_enough : NamesAreEnough
unfolding holders
names_enough w own n i d here has =
    let test : Device → Bool = λ x. has_context x n in
    let place : position_or_len test w.devices ≡ i = only_place (held n) test w.devices i d (λ y h. present_counted (λ (c : Context). c.name) n y.contexts h) (omega (arith, own n)) here has in
    let lies : nat_lt i (length w.devices) ≡ true = grind (arith, nat_tests, within w.devices i d here) in
    ap (λ k. if nat_lt k (length w.devices) then Some k else None) place ∙ ap (λ b. if b then Some i else None) lies

-- ---- contexts of one device

others : (n : Name) (cs : List Context) → count_by (λ c. bytes_eq c.name n) cs ≡ 0 → All (λ m. n ≢ m) (map (λ c. c.name) cs)
others n [] none = All-nil (λ m. n ≢ m)
others n (c ∷ cs) none =
    let counted = count_by-cons (λ (x : Context). bytes_eq x.name n) c cs in
    All-cons (λ m. n ≢ m) c.name (map (λ x. x.name) cs)
    (λ same. absurd (omega (arith, none, counted, ap {B = ℕ} (λ b. if b then 1 else 0) (ap (bytes_eq c.name) same ∙ same_name c.name))))
    (others n cs (omega (arith, none, counted)))

apart : (cs : List Context) → ((n : Name) → count_by (λ c. bytes_eq c.name n) cs ≤ 1) → AllPairs (λ a b. a ≢ b) (map (λ c. c.name) cs)
apart [] once = λ (i : ℕ) (j : ℕ) (d : Name) lt below. absurd (omega (arith, below))
apart (c ∷ cs) once =
    AllPairs-cons (λ a b. a ≢ b) c.name (map (λ x. x.name) cs)
    (others c.name cs (omega (arith, once c.name, count_by-cons (λ (x : Context). bytes_eq x.name c.name) c cs, ap {B = ℕ} (λ b. if b then 1 else 0) (same_name c.name))))
    (apart cs (λ n. omega (arith, once n, count_by-cons (λ (x : Context). bytes_eq x.name n) c cs)))

pub names_apart : NamesAreApart
unfolding holders
names_apart w own = all-at (λ (d : Device). AllPairs (λ a b. a ≢ b) (map (λ c. c.name) d.contexts)) w.devices (λ i d here. apart d.contexts (λ n. omega (arith, own n, sum_at (held n) w.devices i d here)))
