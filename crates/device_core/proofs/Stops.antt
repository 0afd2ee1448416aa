-- The index, where a context becomes a husk.
use Rattle.std.proofs.Common.{arith, ◌≡◌, ◌≢◌, ◌+◌, ℕ, zero, suc, List, [], ◌∷◌, ◌++◌, map, true, false, Bool, refl, sym, ap, ◌∙◌, inl, inr, ⊎_elim, subst}
use Rattle.std.specs.Prelude.{All, AllPairs, bytes_eq, ◌⊎◌, ◌||◌, ◌==◌, if◌then◌else◌, Option, Some, None, slice_get}
use Rattle.std.specs.List.{flat_map}
use Rattle.std.proofs.lemmas.Bool.{cases_Bool, true≢false}
use Rattle.std.proofs.lemmas.Bool.Decides.{eqb_tells}
use Rattle.std.proofs.lemmas.List.{map-append}
use Rattle.std.proofs.lemmas.List.Elements.{All-cons, All-head, All-nil, All-tail}
use Rattle.rdma_types.specs.declared.names.Name.{Name}
use Rattle.rdma_types.specs.Lists.{has, has_name, named, without}
use Rattle.rdma_types.proofs.Tables.{same_name}
use Rattle.protocol.specs.DeviceStep.{husk_entry}
use Rattle.protocol.specs.Refusals.{has_context, has_husk}
use Rattle.protocol.specs.State as state
use Rattle.protocol.specs.State.{Device, End, Husk, Link, context_at, no_context, no_husk}
use Rattle.context_core.specs.Context.{}
use Rattle.law_devices.proofs.Tables.{has_name-push, named-push_has, named-push_lacks, name_tells}
use Rattle.device_core.specs.declared.husks.HuskEntry.{HuskEntry}
use Rattle.device_core.specs.declared.index.EndLocation.{EndLocation}
use Rattle.device_core.specs.Index.{IsEndAt, IsEntryAt, IsIndex, husk_at, numbers_in, numbers_of, spot, without_numbers}
use Rattle.device_core.specs.Leaving.{gone_in, left_by, placed, unless_left}
use Rattle.device_core.specs.Parts.{entry_of}
use Rattle.device_core.proofs.HuskNames.{entry_there}
use Rattle.device_core.proofs.IndexAdds.{end-there, has_at, numbered, place_in, same_spot}
use Rattle.device_core.proofs.Pairs.{pairs-cons, pairs-head, pairs-nil, pairs-tail}
use Rattle.device_core.proofs.Releases.{entry_of_number, number_of_entry}
use Rattle.device_core.proofs.Withouts.{has-without_other, named-absent, named-push_other, named-without_other, without-lacks}

-- the numbers of what is left
abbrev pub left_numbers : List End → List ℕ
left_numbers es = map (λ (e : state.HuskEntry). e.number) (flat_map left_by es)

pub same-numbers : (es : List HuskEntry) → map (λ (e : state.HuskEntry). e.number) (map entry_of es) ≡ numbers_in es
same-numbers [] = refl
same-numbers (e ∷ es) = ap (λ ns. e.number ∷ ns) (same-numbers es)

-- an end leaves nothing, or its number
pub record One (e : End) : Type 0 where
  pub either : ((unless_left (left_by e) e.number ≡ e.number ∷ []) × (map (λ (x : state.HuskEntry). x.number) (left_by e) ≡ [])) ⊎ ((unless_left (left_by e) e.number ≡ []) × (map (λ (x : state.HuskEntry). x.number) (left_by e) ≡ e.number ∷ []))

pub one : (e : End) → One e
one e = record { either = by_link e.link }
  where
    by_ended : (l : Link) (b : Bool) → ((unless_left (if b then [] else record { number = e.number; peer = l.peer; moves = l.moving.own } ∷ []) e.number ≡ e.number ∷ []) × (map (λ (x : state.HuskEntry). x.number) (if b then [] else record { number = e.number; peer = l.peer; moves = l.moving.own } ∷ []) ≡ [])) ⊎ ((unless_left (if b then [] else record { number = e.number; peer = l.peer; moves = l.moving.own } ∷ []) e.number ≡ []) × (map (λ (x : state.HuskEntry). x.number) (if b then [] else record { number = e.number; peer = l.peer; moves = l.moving.own } ∷ []) ≡ e.number ∷ []))
    by_ended l true = inl (refl, refl)
    by_ended l false = inr (refl, refl)

    by_link : (o : Option Link) → ((unless_left (husk_entry e o) e.number ≡ e.number ∷ []) × (map (λ (x : state.HuskEntry). x.number) (husk_entry e o) ≡ [])) ⊎ ((unless_left (husk_entry e o) e.number ≡ []) × (map (λ (x : state.HuskEntry). x.number) (husk_entry e o) ≡ e.number ∷ []))
    by_link None = inl (refl, refl)
    by_link (Some l) = by_ended l l.ended

gone-cons : (e : End) (es : List End) → (gone_in (e ∷ es) ≡ e.number ∷ gone_in es) × (left_numbers (e ∷ es) ≡ left_numbers es) ⊎ (gone_in (e ∷ es) ≡ gone_in es) × (left_numbers (e ∷ es) ≡ e.number ∷ left_numbers es)
gone-cons e es = ⊎_elim
    (λ t. inl (ap (λ ns. ns ++ gone_in es) t.0, joined ∙ ap (λ ns. ns ++ left_numbers es) t.1))
    (λ t. inr (ap (λ ns. ns ++ gone_in es) t.0, joined ∙ ap (λ ns. ns ++ left_numbers es) t.1))
    (one e).either
  where
    joined : left_numbers (e ∷ es) ≡ map (λ (x : state.HuskEntry). x.number) (left_by e) ++ left_numbers es
    joined = map-append (λ (x : state.HuskEntry). x.number) (left_by e) (flat_map left_by es)

pub has-cons : (k x : ℕ) (xs : List ℕ) → has (λ z. z) k (x ∷ xs) ≡ (x == k || has (λ z. z) k xs)
unfolding has
has-cons k x xs = refl

has-nil : (k : ℕ) → has (λ z. z) k [] ≡ false
unfolding has
has-nil k = refl

-- no number is lost
pub neither : (es : List End) (k : ℕ) → has (λ z. z) k (gone_in es) ≡ false → has (λ z. z) k (left_numbers es) ≡ false → has (λ z. z) k (map (λ e. e.number) es) ≡ false
neither [] k gone left = has-nil k
neither (e ∷ es) k gone left = by_one (gone-cons e es) (neither es k)
  where
    both : (b c : Bool) → (b || c) ≡ false → (b ≡ false) × (c ≡ false)
    both true c h = absurd (true≢false h)
    both false c h = (refl, h)

    by_one : (gone_in (e ∷ es) ≡ e.number ∷ gone_in es) × (left_numbers (e ∷ es) ≡ left_numbers es) ⊎ (gone_in (e ∷ es) ≡ gone_in es) × (left_numbers (e ∷ es) ≡ e.number ∷ left_numbers es)
        → (has (λ z. z) k (gone_in es) ≡ false → has (λ z. z) k (left_numbers es) ≡ false → has (λ z. z) k (map (λ x. x.number) es) ≡ false) → has (λ z. z) k (map (λ x. x.number) (e ∷ es)) ≡ false
    by_one (inl t) later =
        let g = both (e.number == k) (has (λ z. z) k (gone_in es)) (sym (ap (has (λ z. z) k) t.0 ∙ has-cons k e.number (gone_in es)) ∙ gone) in
        has-cons k e.number (map (λ x. x.number) es) ∙ (ap (λ b. b || has (λ z. z) k (map (λ x. x.number) es)) g.0 ∙ later g.1 (sym (ap (has (λ z. z) k) t.1) ∙ left))
    by_one (inr t) later =
        let g = both (e.number == k) (has (λ z. z) k (left_numbers es)) (sym (ap (has (λ z. z) k) t.1 ∙ has-cons k e.number (left_numbers es)) ∙ left) in
        has-cons k e.number (map (λ x. x.number) es) ∙ (ap (λ b. b || has (λ z. z) k (map (λ x. x.number) es)) g.0 ∙ later (sym (ap (has (λ z. z) k) t.0) ∙ gone) g.1)

-- no other number comes
pub both-lack : (es : List End) (k : ℕ) → has (λ z. z) k (map (λ e. e.number) es) ≡ false → (has (λ z. z) k (gone_in es) ≡ false) × (has (λ z. z) k (left_numbers es) ≡ false)
both-lack [] k none = (has-nil k, has-nil k)
both-lack (e ∷ es) k none = by_one (gone-cons e es) (split (e.number == k) (has (λ z. z) k (map (λ x. x.number) es)) (sym (has-cons k e.number (map (λ x. x.number) es)) ∙ none)) (both-lack es k)
  where
    split : (b c : Bool) → (b || c) ≡ false → (b ≡ false) × (c ≡ false)
    split true c h = absurd (true≢false h)
    split false c h = (refl, h)

    by_one : (gone_in (e ∷ es) ≡ e.number ∷ gone_in es) × (left_numbers (e ∷ es) ≡ left_numbers es) ⊎ (gone_in (e ∷ es) ≡ gone_in es) × (left_numbers (e ∷ es) ≡ e.number ∷ left_numbers es)
        → ((e.number == k) ≡ false) × (has (λ z. z) k (map (λ x. x.number) es) ≡ false) → (has (λ z. z) k (map (λ x. x.number) es) ≡ false → (has (λ z. z) k (gone_in es) ≡ false) × (has (λ z. z) k (left_numbers es) ≡ false))
        → (has (λ z. z) k (gone_in (e ∷ es)) ≡ false) × (has (λ z. z) k (left_numbers (e ∷ es)) ≡ false)
    by_one (inl t) h later = (ap (has (λ z. z) k) t.0 ∙ (has-cons k e.number (gone_in es) ∙ (ap (λ b. b || has (λ z. z) k (gone_in es)) h.0 ∙ (later h.1).0)), ap (has (λ z. z) k) t.1 ∙ (later h.1).1)
    by_one (inr t) h later = (ap (has (λ z. z) k) t.0 ∙ (later h.1).0, ap (has (λ z. z) k) t.1 ∙ (has-cons k e.number (left_numbers es) ∙ (ap (λ b. b || has (λ z. z) k (left_numbers es)) h.0 ∙ (later h.1).1)))

-- a number that is none of them is apart from each
lacks-apart : (x : ℕ) (xs : List ℕ) → All (λ y. x ≢ y) xs → has (λ z. z) x xs ≡ false
lacks-apart x [] all = has-nil x
lacks-apart x (y ∷ xs) all = elim (eqb_tells y x) [
  | inl t ↦ absurd (All-head (λ z. x ≢ z) y xs all (sym t.1))
  | inr t ↦ has-cons x y xs ∙ (ap (λ b. b || has (λ z. z) x xs) t.0 ∙ lacks-apart x xs (All-tail (λ z. x ≢ z) y xs all))
]

apart-lacking : (x : ℕ) (xs : List ℕ) → has (λ z. z) x xs ≡ false → All (λ y. x ≢ y) xs
apart-lacking x [] none = All-nil (λ z. x ≢ z)
apart-lacking x (y ∷ xs) none = by_test (eqb_tells y x) (apart-lacking x xs)
  where
    by_test : (((y == x) ≡ true) × (y ≡ x)) ⊎ (((y == x) ≡ false) × (y ≢ x)) → (has (λ z. z) x xs ≡ false → All (λ z. x ≢ z) xs) → All (λ z. x ≢ z) (y ∷ xs)
    by_test (inl t) later = absurd (true≢false (sym (has-cons x y xs ∙ ap (λ b. b || has (λ z. z) x xs) t.0) ∙ none))
    by_test (inr t) later = All-cons (λ z. x ≢ z) y xs (λ e. t.1 (sym e)) (later (sym (has-cons x y xs ∙ ap (λ b. b || has (λ z. z) x xs) t.0) ∙ none))

-- where numbers are apart, those that stay are, and none of them goes
pub left-apart : (es : List End) → AllPairs (λ a b. a ≢ b) (map (λ e. e.number) es) → AllPairs (λ a b. a ≢ b) (left_numbers es)
left-apart [] pairs = pairs-nil (λ a b. a ≢ b)
left-apart (e ∷ es) pairs = by_one (gone-cons e es) (left-apart es (pairs-tail (λ a b. a ≢ b) e.number (map (λ x. x.number) es) pairs)) (both-lack es e.number (lacks-apart e.number (map (λ x. x.number) es) (pairs-head (λ a b. a ≢ b) e.number (map (λ x. x.number) es) pairs)))
  where
    by_one : (gone_in (e ∷ es) ≡ e.number ∷ gone_in es) × (left_numbers (e ∷ es) ≡ left_numbers es) ⊎ (gone_in (e ∷ es) ≡ gone_in es) × (left_numbers (e ∷ es) ≡ e.number ∷ left_numbers es)
        → AllPairs (λ a b. a ≢ b) (left_numbers es) → (has (λ z. z) e.number (gone_in es) ≡ false) × (has (λ z. z) e.number (left_numbers es) ≡ false) → AllPairs (λ a b. a ≢ b) (left_numbers (e ∷ es))
    by_one (inl t) later lacks = subst (AllPairs (λ a b. a ≢ b)) (sym t.1) later
    by_one (inr t) later lacks = subst (AllPairs (λ a b. a ≢ b)) (sym t.1) (pairs-cons (λ a b. a ≢ b) e.number (left_numbers es) (apart-lacking e.number (left_numbers es) lacks.1) later)

pub left-stays : (es : List End) (k : ℕ) → AllPairs (λ a b. a ≢ b) (map (λ e. e.number) es) → has (λ z. z) k (left_numbers es) ≡ true → has (λ z. z) k (gone_in es) ≡ false
left-stays [] k pairs left = has-nil k
left-stays (e ∷ es) k pairs left = by_one (gone-cons e es) (eqb_tells e.number k) (left-stays es k (pairs-tail (λ a b. a ≢ b) e.number (map (λ x. x.number) es) pairs)) (both-lack es e.number (lacks-apart e.number (map (λ x. x.number) es) (pairs-head (λ a b. a ≢ b) e.number (map (λ x. x.number) es) pairs)))
  where
    by_one : (gone_in (e ∷ es) ≡ e.number ∷ gone_in es) × (left_numbers (e ∷ es) ≡ left_numbers es) ⊎ (gone_in (e ∷ es) ≡ gone_in es) × (left_numbers (e ∷ es) ≡ e.number ∷ left_numbers es)
        → (((e.number == k) ≡ true) × (e.number ≡ k)) ⊎ (((e.number == k) ≡ false) × (e.number ≢ k)) → (has (λ z. z) k (left_numbers es) ≡ true → has (λ z. z) k (gone_in es) ≡ false)
        → (has (λ z. z) e.number (gone_in es) ≡ false) × (has (λ z. z) e.number (left_numbers es) ≡ false) → has (λ z. z) k (gone_in (e ∷ es)) ≡ false
    by_one (inl t) (inl u) later lacks = absurd (true≢false (sym (sym (ap (has (λ z. z) k) t.1) ∙ left) ∙ (ap (λ m. has (λ z. z) m (left_numbers es)) (sym u.1) ∙ lacks.1)))
    by_one (inl t) (inr u) later lacks = ap (has (λ z. z) k) t.0 ∙ (has-cons k e.number (gone_in es) ∙ (ap (λ b. b || has (λ z. z) k (gone_in es)) u.0 ∙ later (sym (ap (has (λ z. z) k) t.1) ∙ left)))
    by_one (inr t) (inl u) later lacks = ap (has (λ z. z) k) t.0 ∙ (ap (λ m. has (λ z. z) m (gone_in es)) (sym u.1) ∙ lacks.0)
    by_one (inr t) (inr u) later lacks = ap (has (λ z. z) k) t.0 ∙ later (sym (has-cons k e.number (left_numbers es) ∙ ap (λ b. b || has (λ z. z) k (left_numbers es)) u.0) ∙ (sym (ap (has (λ z. z) k) t.1) ∙ left))

-- ---- noted numbers

pub placed-absent : (n : Name) (from : ℕ) (xs : List ℕ) (k : ℕ) (o : Option EndLocation) → has (λ z. z) k xs ≡ false → placed n from xs k o ≡ o
unfolding placed
placed-absent n from [] k o none = refl
placed-absent n from (x ∷ xs) k o none = by_test (eqb_tells x k) (λ p. placed-absent n (from + 1) xs k p)
  where
    by_test : (((x == k) ≡ true) × (x ≡ k)) ⊎ (((x == k) ≡ false) × (x ≢ k)) → ((p : Option EndLocation) → has (λ z. z) k xs ≡ false → placed n (from + 1) xs k p ≡ p) → placed n (from + 1) xs k (if x == k then Some (spot n from) else o) ≡ o
    by_test (inl t) later = absurd (true≢false (sym (has-cons k x xs ∙ ap (λ b. b || has (λ z. z) k xs) t.0) ∙ none))
    by_test (inr t) later = ap (λ b. placed n (from + 1) xs k (if b then Some (spot n from) else o)) t.0 ∙ later o (sym (has-cons k x xs ∙ ap (λ b. b || has (λ z. z) k xs) t.0) ∙ none)

pub placed-at : (n : Name) (from : ℕ) (xs : List ℕ) (i k : ℕ) (o : Option EndLocation) → AllPairs (λ a b. a ≢ b) xs → slice_get xs i ≡ Some k → placed n from xs k o ≡ Some (spot n (from + i))
unfolding placed
placed-at n from [] i k o pairs at = absurd (cc)
placed-at n from (x ∷ xs) zero k o pairs at =
    let same : x ≡ k = cc in
    let gone = lacks-apart x xs (pairs-head (λ a b. a ≢ b) x xs pairs) in
    let where' : from ≡ from + 0 = omega arith in
    placed-absent n (from + 1) xs k (if x == k then Some (spot n from) else o) (ap (λ m. has (λ z. z) m xs) (sym same) ∙ gone)
    ∙ (here (eqb_tells x k) same ∙ ap (λ p. Some (spot n p)) where')
  where
    here : (((x == k) ≡ true) × (x ≡ k)) ⊎ (((x == k) ≡ false) × (x ≢ k)) → x ≡ k → (if x == k then Some (spot n from) else o) ≡ Some (spot n from)
    here (inl t) same = ap (λ b. if b then Some (spot n from) else o) t.0
    here (inr t) same = absurd (t.1 same)
placed-at n from (x ∷ xs) (suc i) k o pairs at = let where' : from + 1 + i ≡ from + suc i = omega arith in placed-at n (from + 1) xs i k (if x == k then Some (spot n from) else o) (pairs-tail (λ a b. a ≢ b) x xs pairs) at ∙ ap (λ p. Some (spot n p)) where'

-- ---- the index

zero-plus : (p : ℕ) → 0 + p ≡ p
zero-plus p = omega arith

pub index-stopped : (index index' : ℕ → Option EndLocation) (old new : Device) (n : Name) (husk : Husk) (es : List HuskEntry) → new.contexts ≡ without (λ c. c.name) n old.contexts → new.husks ≡ old.husks ++ husk ∷ []
    → husk.name ≡ n → husk.entries ≡ map entry_of es → map entry_of es ≡ flat_map left_by (context_at old n).ends
    → AllPairs (λ a b. a ≢ b) (map (λ c. c.name) old.contexts) → has_context old n ≡ true → has_husk old n ≡ false → AllPairs (λ a b. a ≢ b) (numbers_of (context_at old n))
    → ((k : ℕ) → index' k ≡ without_numbers (gone_in (context_at old n).ends) k (placed n 0 (numbers_in es) k (index k))) → IsIndex index old → IsIndex index' new
index-stopped index index' old new n husk es contexts husks name entries left names lives no_husk_yet apart said i = record {
  ends = λ m place k e. let was = end_is m place k e in stays k (spot m place) (i.ends m place k was) (not_in m place k (other_context m e.lives) (i.ends m place k was) (has (λ x. x) k numbers) refl);
  entries = λ m place k e. by_name m place k e (name_tells n m);
  exact = λ m place k h. elim (cases_Bool (has (λ x. x) k (gone_in (context_at old n).ends))) [
    | inl t ↦ absurd (none_some (spot m place) (sym (said k ∙ ap (λ b. if b then None else placed n 0 (numbers_in es) k (index k)) t) ∙ h))
    | inr t ↦
        let at : placed n 0 (numbers_in es) k (index k) ≡ Some (spot m place) = sym (said k ∙ ap (λ b. if b then None else placed n 0 (numbers_in es) k (index k)) t) ∙ h in
        elim (cases_Bool (has (λ x. x) k (numbers_in es))) [
          | inl u ↦
              let p = place_in (numbers_in es) k u in
              let is = same_spot m n place p.0 (sym at ∙ (placed-at n 0 (numbers_in es) p.0 k (index k) (subst (AllPairs (λ a b. a ≢ b)) same_left (left-apart (context_at old n).ends apart)) p.1 ∙ ap (λ z. Some (spot n z)) (zero-plus p.0))) in
              inr (subst (λ z. IsEntryAt new z place k) (sym is.0) (subst (λ z. IsEntryAt new n z k) (sym is.1) (its_entry p.0 k p.1)))
          | inr u ↦
              let was = i.exact m place k (sym (placed-absent n 0 (numbers_in es) k (index k) u) ∙ at) in
              ⊎_elim (λ e. inl (end_new m place k (not_this m place k t u e) e)) (λ e. inr (entry_new m place k e)) was
        ]
  ];
}
  where
    numbers : List ℕ
    numbers = numbers_of (context_at old n)

    same_left : left_numbers (context_at old n).ends ≡ numbers_in es
    same_left = ap (map (λ (e : state.HuskEntry). e.number)) (sym left) ∙ same-numbers es

    none_some : (s : EndLocation) → None ≡ Some s → ⊥
    none_some s h = absurd (cc)

    gone_now : has_context new n ≡ false
    gone_now = ap (has_name (λ c. c.name) n) contexts ∙ without-lacks (λ c. c.name) n old.contexts names

    other_context : (m : Name) → has_context new m ≡ true → n ≢ m
    other_context m h is = true≢false (sym h ∙ (ap (has_context new) (sym is) ∙ gone_now))

    end_is : (m : Name) (place k : ℕ) → IsEndAt new m place k → IsEndAt old m place k
    end_is m place k e = record {
      lives = sym (ap (has_name (λ c. c.name) m) contexts ∙ has-without_other (λ c. c.name) n m old.contexts (other_context m e.lives)) ∙ e.lives;
      end = e.end;
      there = ap (λ (c : state.Context). slice_get c.ends place) (sym (ap (named (λ c. c.name) no_context m) contexts ∙ named-without_other (λ c. c.name) no_context n m old.contexts (other_context m e.lives))) ∙ e.there;
      same = e.same;
    }

    end_new : (m : Name) (place k : ℕ) → n ≢ m → IsEndAt old m place k → IsEndAt new m place k
    end_new m place k other e = record {
      lives = ap (has_name (λ c. c.name) m) contexts ∙ (has-without_other (λ c. c.name) n m old.contexts other ∙ e.lives);
      end = e.end;
      there = ap (λ (c : state.Context). slice_get c.ends place) (ap (named (λ c. c.name) no_context m) contexts ∙ named-without_other (λ c. c.name) no_context n m old.contexts other) ∙ e.there;
      same = e.same;
    }

    -- a number of the context was noted there
    noted_there : (k : ℕ) → has (λ x. x) k numbers ≡ true → (p : ℕ) × (index k ≡ Some (spot n p))
    noted_there k h = let p = place_in numbers k h in (p.0, i.ends n p.0 k (end-there old n p.0 k lives p.1))

    not_in : (m : Name) (place k : ℕ) → n ≢ m → index k ≡ Some (spot m place) → (b : Bool) → has (λ x. x) k numbers ≡ b → has (λ x. x) k numbers ≡ false
    not_in m place k other at true h = let t = noted_there k h in absurd (other (sym (same_spot m n place t.0 (sym at ∙ t.1)).0))
    not_in m place k other at false h = h

    stays : (k : ℕ) (s : EndLocation) → index k ≡ Some s → has (λ x. x) k numbers ≡ false → index' k ≡ Some s
    stays k s at lacks =
        let both = both-lack (context_at old n).ends k lacks in
        said k ∙ (ap (λ b. if b then None else placed n 0 (numbers_in es) k (index k)) both.0
        ∙ (placed-absent n 0 (numbers_in es) k (index k) (ap (has (λ x. x) k) (sym same_left) ∙ both.1) ∙ at))

    not_this : (m : Name) (place k : ℕ) → has (λ x. x) k (gone_in (context_at old n).ends) ≡ false → has (λ x. x) k (numbers_in es) ≡ false → IsEndAt old m place k → n ≢ m
    not_this m place k gone left' e is =
        let at : slice_get numbers place ≡ Some k = ap (λ z. slice_get (numbers_of (context_at old z)) place) is ∙ numbered old m place k e in
        true≢false (sym (has_at numbers place k at) ∙ neither (context_at old n).ends k gone (ap (has (λ x. x) k) same_left ∙ left'))

    pushed : (m : Name) → has_husk new m ≡ (has_husk old m || bytes_eq husk.name m)
    pushed m = ap (has_name (λ h. h.name) m) husks ∙ has_name-push (λ h. h.name) m old.husks husk

    other_husk : (m : Name) → n ≢ m → husk_at new m ≡ husk_at old m
    other_husk m other = ap (named (λ h. h.name) no_husk m) husks ∙ by_there (has_husk old m) refl
      where
        by_there : (b : Bool) → has_husk old m ≡ b → named (λ h. h.name) no_husk m (old.husks ++ husk ∷ []) ≡ named (λ h. h.name) no_husk m old.husks
        by_there true h = named-push_has (λ x. x.name) no_husk m old.husks husk h
        by_there false h = named-push_other (λ x. x.name) no_husk m old.husks husk h (λ e. other (sym name ∙ e)) ∙ sym (named-absent (λ x. x.name) no_husk m old.husks h)

    this_husk : husk_at new n ≡ husk
    this_husk = ap (named (λ h. h.name) no_husk n) husks ∙ named-push_lacks (λ x. x.name) no_husk n old.husks husk no_husk_yet name

    lacks_name : (m : Name) → n ≢ m → bytes_eq husk.name m ≡ false
    lacks_name m other = elim (name_tells husk.name m) [ inl t ↦ absurd (other (sym name ∙ t.1)) | inr t ↦ t.0 ]

    or_false : (b : Bool) → (b || false) ≡ b
    or_false true = refl
    or_false false = refl

    or_true : (b : Bool) → (b || true) ≡ true
    or_true true = refl
    or_true false = refl

    entry_is : (m : Name) (place k : ℕ) → n ≢ m → IsEntryAt new m place k → IsEntryAt old m place k
    entry_is m place k other e = record {
      stays = sym (pushed m ∙ (ap (λ b. has_husk old m || b) (lacks_name m other) ∙ or_false (has_husk old m))) ∙ e.stays;
      entry = e.entry;
      there = ap (λ (h : Husk). slice_get h.entries place) (sym (other_husk m other)) ∙ e.there;
      same = e.same;
    }

    entry_new : (m : Name) (place k : ℕ) → IsEntryAt old m place k → IsEntryAt new m place k
    entry_new m place k e =
        let other : n ≢ m = λ is. true≢false (sym e.stays ∙ (ap (has_husk old) (sym is) ∙ no_husk_yet)) in
        record {
          stays = pushed m ∙ ap (λ b. b || bytes_eq husk.name m) e.stays;
          entry = e.entry;
          there = ap (λ (h : Husk). slice_get h.entries place) (other_husk m other) ∙ e.there;
          same = e.same;
        }

    its_entry : (place k : ℕ) → slice_get (numbers_in es) place ≡ Some k → IsEntryAt new n place k
    its_entry place k at =
        let e = entry_of_number es place k at in
        record {
          stays = pushed n ∙ (ap (λ b. has_husk old n || b) (ap (λ m. bytes_eq m n) name ∙ same_name n) ∙ or_true (has_husk old n));
          entry = e.0;
          there = ap (λ (h : Husk). slice_get h.entries place) this_husk ∙ (ap (λ xs. slice_get xs place) entries ∙ e.1);
          same = e.2;
        }

    by_name : (m : Name) (place k : ℕ) → IsEntryAt new m place k → ((bytes_eq n m ≡ true) × (n ≡ m)) ⊎ ((bytes_eq n m ≡ false) × (n ≢ m)) → index' k ≡ Some (spot m place)
    by_name m place k e (inr t) = let at = i.entries m place k (entry_is m place k t.1 e) in stays k (spot m place) at (not_in m place k t.1 at (has (λ x. x) k numbers) refl)
    by_name m place k e (inl t) =
        let there : slice_get (map entry_of es) place ≡ Some e.entry = ap (λ xs. slice_get xs place) (sym entries) ∙ (ap (λ (h : Husk). slice_get h.entries place) (sym this_husk) ∙ (ap (λ z. slice_get (husk_at new z).entries place) t.1 ∙ e.there)) in
        let f = entry_there es place e.entry there in
        let at : slice_get (numbers_in es) place ≡ Some k = number_of_entry es place f.0 f.1 ∙ ap Some (ap (λ (z : state.HuskEntry). z.number) f.2 ∙ e.same) in
        let stayed = left-stays (context_at old n).ends k apart (ap (has (λ x. x) k) same_left ∙ has_at (numbers_in es) place k at) in
        said k ∙ (ap (λ b. if b then None else placed n 0 (numbers_in es) k (index k)) stayed
        ∙ (placed-at n 0 (numbers_in es) place k (index k) (subst (AllPairs (λ a b. a ≢ b)) same_left (left-apart (context_at old n).ends apart)) at
        ∙ (λ j. Some (spot (t.1 j) (zero-plus place j)))))
