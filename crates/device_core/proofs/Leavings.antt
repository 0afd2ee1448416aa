-- What the ends of a context leave, end by end.
use Rattle.std.proofs.Common.{arith, ◌≡◌, ◌<◌, ◌+◌, ℕ, zero, suc, List, [], ◌∷◌, ◌++◌, map, length, take, get_or, true, false, Bool, refl, sym, ap, ◌∙◌}
use Rattle.std.specs.Prelude.{◌||◌, ◌==◌, if◌then◌else◌, Option, Some, None, IsSome, option_map, is_some, slice_get}
use Rattle.std.specs.List.{flat_map}
use Rattle.std.proofs.lemmas.List.{append-nil, map-append, take_more}
use Rattle.std.proofs.lemmas.Grind.{flat_map-append}
use Rattle.rdma_types.specs.declared.names.Name.{Name}
use Rattle.rdma_types.specs.Lists.{has}
use Rattle.protocol.specs.DeviceStep.{husk_of}
use Rattle.protocol.specs.State as state
use Rattle.protocol.specs.State.{Context, End}
use Rattle.context_core.specs.Links.{live_end}
use Rattle.context_core.specs.declared.lives.LiveEnd.{LiveEnd}
use Rattle.device_core.specs.declared.husks.HuskEntry.{HuskEntry}
use Rattle.device_core.specs.declared.index.EndLocation.{EndLocation}
use Rattle.device_core.specs.Index.{numbers_in, spot, without_numbers}
use Rattle.device_core.specs.Leaving.{gone_in, in_list, left_by, placed, unless_left}
use Rattle.device_core.specs.Parts.{entry_of}

-- the next one
pub taken-next : {A : Type 0} (xs : List A) (i : ℕ) → i < length xs → (x : A) × (slice_get xs i ≡ Some x) × (take (i + 1) xs ≡ take i xs ++ x ∷ [])
taken-next [] i l = absurd (omega (arith, l))
taken-next (x ∷ xs) zero l = (x, refl, refl)
taken-next (x ∷ xs) (suc i) l = let next = taken-next xs i (omega (arith, l)) in let same : suc i + 1 ≡ suc (i + 1) = omega arith in (next.0, next.1, ap (λ j. take j (x ∷ xs)) same ∙ ap (λ ys. x ∷ ys) next.2)

-- ---- numbers that are forgotten

pub has-append : (k : ℕ) (xs ys : List ℕ) → has (λ z. z) k (xs ++ ys) ≡ (has (λ z. z) k xs || has (λ z. z) k ys)
unfolding has
has-append k [] ys = refl
has-append k (x ∷ xs) ys = ap (λ b. x == k || b) (has-append k xs ys) ∙ group (x == k) (has (λ z. z) k xs) (has (λ z. z) k ys)
  where
    group : (a b c : Bool) → (a || (b || c)) ≡ ((a || b) || c)
    group true b c = refl
    group false b c = refl

pub forgets-one : (x k : ℕ) (o : Option EndLocation) → without_numbers (x ∷ []) k o ≡ (if x == k then None else o)
unfolding has
forgets-one x k o = ap (λ b. if b then None else o) (or_false (x == k))
  where
    or_false : (b : Bool) → (b || false) ≡ b
    or_false true = refl
    or_false false = refl

pub forgets-nothing : (k : ℕ) (o : Option EndLocation) → without_numbers [] k o ≡ o
unfolding has
forgets-nothing k o = refl

pub forgets-more : (xs ys : List ℕ) (k : ℕ) (o : Option EndLocation) → without_numbers ys k (without_numbers xs k o) ≡ without_numbers (xs ++ ys) k o
forgets-more xs ys k o = both (has (λ z. z) k xs) (has (λ z. z) k ys) ∙ ap (λ b. if b then None else o) (sym (has-append k xs ys))
  where
    both : (a b : Bool) → (if b then None else if a then None else o) ≡ (if a || b then None else o)
    both true true = refl
    both true false = refl
    both false b = refl

-- the next end
pub gone-next : (es : List End) (i : ℕ) → i < length es → (k : ℕ) (o now after : Option EndLocation) → now ≡ without_numbers (gone_in (take i es)) k o → ((e : End) → slice_get es i ≡ Some e → after ≡ without_numbers (gone_in (e ∷ [])) k now) → after ≡ without_numbers (gone_in (take (i + 1) es)) k o
gone-next es i l k o now after was step =
    let next = taken-next es i l in
    step next.0 next.1
    ∙ (ap (without_numbers (gone_in (next.0 ∷ [])) k) was
    ∙ (forgets-more (gone_in (take i es)) (gone_in (next.0 ∷ [])) k o
    ∙ ap (λ ns. without_numbers ns k o) (sym (ap gone_in next.2 ∙ flat_map-append (λ e. unless_left (left_by e) e.number) (take i es) (next.0 ∷ [])))))

pub left-next : (es : List End) (i : ℕ) → i < length es → (entries entries' : List HuskEntry) (entry : Option HuskEntry) → map entry_of entries ≡ flat_map left_by (take i es) → entries' ≡ entries ++ in_list entry → ((e : End) → slice_get es i ≡ Some e → map entry_of (in_list entry) ≡ left_by e) → map entry_of entries' ≡ flat_map left_by (take (i + 1) es)
left-next es i l entries entries' entry was put left =
    let next = taken-next es i l in
    ap (map entry_of) put
    ∙ (map-append entry_of entries (in_list entry)
    ∙ ((λ j. was j ++ (left next.0 next.1 ∙ sym (append-nil (left_by next.0))) j)
    ∙ sym (ap (flat_map left_by) next.2 ∙ flat_map-append left_by (take i es) (next.0 ∷ []))))

-- the end at a place has the number that is told of it
pub told-number : (c : Context) (o : Option End) (r : Option LiveEnd) (l : LiveEnd) (e : End) → r ≡ option_map (live_end c) o → r ≡ Some l → o ≡ Some e → l.number ≡ e.number
told-number c o r l e is some at = by_some (sym some ∙ (is ∙ ap (option_map (live_end c)) at))
  where
    by_some : Some l ≡ Some (live_end c e) → l.number ≡ e.number
    by_some g = let same : l ≡ live_end c e = cc in ap (λ x. x.number) same

pub not-there : (c : Context) (o : Option End) (r : Option LiveEnd) (e : End) → r ≡ option_map (live_end c) o → r ≡ None → o ≡ Some e → ⊥
not-there c o r e is none at = by_some (sym none ∙ (is ∙ ap (option_map (live_end c)) at))
  where
    by_some : None ≡ Some (live_end c e) → ⊥
    by_some g = absurd (cc)

pub gone-one : (e : End) (entry : Option HuskEntry) → map entry_of (in_list entry) ≡ left_by e → is_some entry ≡ false → gone_in (e ∷ []) ≡ e.number ∷ []
gone-one e (Some x) left none = absurd (cc)
gone-one e None left none = ap (λ xs. unless_left xs e.number ++ []) (sym left)

pub gone-none : (e : End) (entry : Option HuskEntry) → map entry_of (in_list entry) ≡ left_by e → is_some entry ≡ true → gone_in (e ∷ []) ≡ []
gone-none e None left some = absurd (cc)
gone-none e (Some x) left some = ap (λ xs. unless_left xs e.number ++ []) (sym left)

-- ---- numbers that are noted

pub placed-none : (n : Name) (from k : ℕ) (o : Option EndLocation) → placed n from [] k o ≡ o
unfolding placed
placed-none n from k o = refl

pub placed-push : (n : Name) (from : ℕ) (xs : List ℕ) (x k : ℕ) (o : Option EndLocation) → placed n from (xs ++ x ∷ []) k o ≡ (if x == k then Some (spot n (from + length xs)) else placed n from xs k o)
unfolding placed
placed-push n from [] x k o = ap (λ p. if x == k then Some (spot n p) else o) (omega arith)
placed-push n from (y ∷ xs) x k o = placed-push n (from + 1) xs x k (if y == k then Some (spot n from) else o) ∙ ap (λ p. if x == k then Some (spot n p) else placed n (from + 1) xs k (if y == k then Some (spot n from) else o)) (omega arith)

pub placed-next : (n : Name) (es : List HuskEntry) (i : ℕ) → i < length es → (d : HuskEntry) (k : ℕ) (o now after : Option EndLocation) → now ≡ placed n 0 (numbers_in (take i es)) k o → after ≡ (if (get_or es i d).number == k then Some (spot n i) else now) → after ≡ placed n 0 (numbers_in (take (i + 1) es)) k o
placed-next n es i l d k o now after was step =
    let more : numbers_in (take (i + 1) es) ≡ numbers_in (take i es) ++ (get_or es i d).number ∷ [] = ap (λ j. numbers_in (take j es)) (omega arith) ∙ (ap numbers_in (take_more es i d l) ∙ map-append (λ (e : HuskEntry). e.number) (take i es) (get_or es i d ∷ [])) in
    let at : 0 + length (numbers_in (take i es)) ≡ i = length_taken es i l in
    step
    ∙ ((λ j. if (get_or es i d).number == k then Some (spot n (sym at j)) else was j)
    ∙ sym (ap (λ xs. placed n 0 xs k o) more ∙ placed-push n 0 (numbers_in (take i es)) (get_or es i d).number k o))
  where
    length_taken : (xs : List HuskEntry) (j : ℕ) → j < length xs → 0 + length (numbers_in (take j xs)) ≡ j
    length_taken [] j h = absurd (omega (arith, h))
    length_taken (x ∷ xs) zero h = refl
    length_taken (x ∷ xs) (suc j) h = let later = length_taken xs j (omega (arith, h)) in omega (arith, later)

-- what was noted stays noted
pub placed-some : (n : Name) (from : ℕ) (xs : List ℕ) (k : ℕ) (o : Option EndLocation) → IsSome o → IsSome (placed n from xs k o)
unfolding placed
placed-some n from [] k o some = some
placed-some n from (x ∷ xs) k o some = placed-some n (from + 1) xs k (if x == k then Some (spot n from) else o) (by_test (x == k))
  where
    by_test : (b : Bool) → IsSome (if b then Some (spot n from) else o)
    by_test true = refl
    by_test false = some

pub husk-entries : (c : state.Context) → (husk_of c).entries ≡ flat_map left_by c.ends
unfolding husk_of
husk-entries c = refl
