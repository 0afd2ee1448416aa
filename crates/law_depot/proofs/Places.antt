-- What one move leaves of the places of a context, and so what moves leave.
use Rattle.std.proofs.Common.{◌≡◌, ◌∙◌, ◌+◌, ◌==◌, ◌≤◌, ℕ, not, Bool, true, false, cond, List, [], ◌∷◌, ◌++◌, count_by, filter, refl, sym, ap, subst, arith}
use Rattle.std.proofs.lemmas.Bool.{eqb-true}
use Rattle.std.proofs.lemmas.List.Sums.{sum_by-append}
use Rattle.std.proofs.lemmas.List.Filters.{sum_by-filter_both}
use Rattle.law_depot.specs.Depot.{Claims, Depot, Dies, Does, Dump, GivesBack, Home, IsFree, Leads, Makes, Move, Publishes, PutsBack, Restores, Stops, TakesOut, Withdraws, claim, dump, held, is_death, is_of, living, makes, no_depot, places}
use Rattle.law_depot.specs.Laws.{EachIsInOnePlace, NamesAreApart, OnlyDeathLoses}

-- 1 where a test holds, and else 0
abbrev pub one_if : Bool → ℕ
one_if b = cond b 1 0

-- a list with one element more behind it
pub counts_more : {A : Type 0} (p : A → Bool) (xs : List A) (x : A) → count_by p (xs ++ x ∷ []) ≡ count_by p xs + one_if (p x)
counts_more p xs x =
    let a : count_by p (xs ++ x ∷ []) ≡ count_by p xs + (0 + one_if (p x)) = sum_by-append (λ y. cond (p y) 1 0) xs (x ∷ []) in
    omega (arith, a)

-- .. before it
pub counts_first : {A : Type 0} (p : A → Bool) (x : A) (xs : List A) → count_by p (x ∷ xs) ≡ one_if (p x) + count_by p xs
counts_first p x xs =
    let a : count_by p (x ∷ xs) ≡ (0 + one_if (p x)) + count_by p xs = sum_by-append (λ y. cond (p y) 1 0) (x ∷ []) xs in
    omega (arith, a)

-- a list with one element taken out
pub counts_less : {A : Type 0} (p : A → Bool) (xs : List A) (x : A) (others : List A) → TakesOut xs x others → count_by p xs ≡ count_by p others + one_if (p x)
counts_less p xs x others t =
    let a : count_by p xs ≡ count_by p t.front + count_by p (x ∷ t.back) = ap (count_by p) t.was ∙ sum_by-append (λ y. cond (p y) 1 0) t.front (x ∷ t.back) in
    let b : count_by p others ≡ count_by p t.front + count_by p t.back = ap (count_by p) t.left ∙ sum_by-append (λ y. cond (p y) 1 0) t.front t.back in
    omega (arith, a, b, counts_first p x t.back)

-- the homes of what is lost
abbrev pub lost : Depot → List Home
lost s = s.lost

-- a test that holds of a free name counts none
pub named : {n m : ℕ} (b : Bool) → (b ≡ true → n ≡ 0) → m ≡ n + one_if b → n ≤ 1 → m ≤ 1
named true none more most = omega (arith, none refl, more)
named false none more most = omega (arith, more, most)

-- ---- places

-- a move leaves a context in as many places as before, and one that makes it in one more
pub one_move : (c : ℕ) (m : Move) (s s' : Depot) → Does m s s' → places c s' ≡ places c s + one_if (makes c m)
one_move c (Makes p x) s s' e = ap (places c) e ∙ omega (arith, counts_more (λ h. h.context == c) s.homes (living p x))
one_move c (Stops p x) s s' (others, t, e) =
    ap (places c) e ∙ omega (arith, counts_less (λ h. h.context == c) s.homes (living p x) others t, counts_more (λ h. h.context == c) others (held p x))
one_move c (PutsBack p x) s s' (others, t, e) =
    ap (places c) e ∙ omega (arith, counts_less (λ h. h.context == c) s.homes (held p x) others t, counts_more (λ h. h.context == c) others (living p x))
one_move c (Publishes p f x) s s' (others, free, t, e) =
    ap (places c) e ∙ omega (arith, counts_less (λ h. h.context == c) s.homes (held p x) others t, counts_more (λ d. d.context == c) s.dumps (dump f x))
one_move c (Withdraws p f x) s s' (others, t, e) =
    ap (places c) e ∙ omega (arith, counts_less (λ d. d.context == c) s.dumps (dump f x) others t, counts_more (λ h. h.context == c) s.homes (held p x))
one_move c (Claims p f x) s s' (others, t, e) =
    ap (places c) e ∙ omega (arith, counts_less (λ d. d.context == c) s.dumps (dump f x) others t, counts_more (λ k. k.context == c) s.claims (claim p f x))
one_move c (GivesBack p f x) s s' (others, free, t, e) =
    ap (places c) e ∙ omega (arith, counts_less (λ k. k.context == c) s.claims (claim p f x) others t, counts_more (λ d. d.context == c) s.dumps (dump f x))
one_move c (Restores p f x) s s' (others, t, e) =
    ap (places c) e ∙ omega (arith, counts_less (λ k. k.context == c) s.claims (claim p f x) others t, counts_more (λ h. h.context == c) s.homes (living p x))
one_move c (Dies p) s s' e =
    let is_it : Home → Bool = λ h. h.context == c in
    let apart : count_by is_it (filter (is_of p) s.homes) + count_by is_it (filter (λ h. not (is_of p h)) s.homes) ≡ count_by is_it s.homes = sum_by-filter_both (is_of p) (λ h. not (is_of p h)) (λ h. refl) (λ h. cond (is_it h) 1 0) s.homes in
    ap (places c) e ∙ omega (arith, apart, sum_by-append (λ h. cond (is_it h) 1 0) s.lost (filter (is_of p) s.homes))

-- .. and so moves
pub moves : (c : ℕ) (ms : List Move) (s s' : Depot) → Leads s ms s' → places c s' ≡ places c s + count_by (makes c) ms
moves c [] s s' h = ap (places c) h ∙ omega arith
moves c (m ∷ ms) s s' (between, does, leads) = omega (arith, one_move c m s between does, moves c ms between s' leads, counts_first (makes c) m ms)

-- a context is in as many places as times it was made
pub each_is_in_one_place : EachIsInOnePlace
each_is_in_one_place ms s h c = moves c ms no_depot s h ∙ omega arith

-- ---- names

-- a dump under a free name
pub new_name : (f g x : ℕ) (dumps : List Dump) → IsFree g dumps → count_by (λ d. d.name == f) dumps ≤ 1 → count_by (λ d. d.name == f) (dumps ++ dump g x ∷ []) ≤ 1
new_name f g x dumps free most =
    let more : count_by (λ d. d.name == f) (dumps ++ dump g x ∷ []) ≡ count_by (λ d. d.name == f) dumps + one_if (g == f) = counts_more (λ d. d.name == f) dumps (dump g x) in
    named (g == f) (λ same. subst (λ n. count_by (λ d. d.name == n) dumps ≡ 0) (eqb-true g f same) free) more most

-- fewer dumps
pub fewer_names : (f : ℕ) (dumps others : List Dump) (d : Dump) → TakesOut dumps d others → count_by (λ d. d.name == f) dumps ≤ 1 → count_by (λ d. d.name == f) others ≤ 1
fewer_names f dumps others d t most = omega (arith, counts_less (λ d. d.name == f) dumps d others t)

-- the dumps of a state with one name have none that is there twice
abbrev pub IsOnce : ℕ → Depot → Type 0
IsOnce f s = count_by (λ d. d.name == f) s.dumps ≤ 1

pub names_stay : (f : ℕ) (m : Move) (s s' : Depot) → Does m s s' → IsOnce f s → IsOnce f s'
names_stay f (Makes p x) s s' e once = subst (IsOnce f) (sym e) once
names_stay f (Stops p x) s s' (others, t, e) once = subst (IsOnce f) (sym e) once
names_stay f (PutsBack p x) s s' (others, t, e) once = subst (IsOnce f) (sym e) once
names_stay f (Publishes p g x) s s' (others, free, t, e) once = subst (IsOnce f) (sym e) (new_name f g x s.dumps free once)
names_stay f (Withdraws p g x) s s' (others, t, e) once = subst (IsOnce f) (sym e) (fewer_names f s.dumps others (dump g x) t once)
names_stay f (Claims p g x) s s' (others, t, e) once = subst (IsOnce f) (sym e) (fewer_names f s.dumps others (dump g x) t once)
names_stay f (GivesBack p g x) s s' (others, free, t, e) once = subst (IsOnce f) (sym e) (new_name f g x s.dumps free once)
names_stay f (Restores p g x) s s' (others, t, e) once = subst (IsOnce f) (sym e) once
names_stay f (Dies p) s s' e once = subst (IsOnce f) (sym e) once

pub all_names_stay : (f : ℕ) (ms : List Move) (s s' : Depot) → Leads s ms s' → IsOnce f s → IsOnce f s'
all_names_stay f [] s s' h once = subst (IsOnce f) (sym h) once
all_names_stay f (m ∷ ms) s s' (between, does, leads) once = all_names_stay f ms between s' leads (names_stay f m s between does once)

-- no two dumps have one name
pub names_are_apart : NamesAreApart
names_are_apart ms s h f = all_names_stay f ms no_depot s h (omega arith)

-- ---- what is lost

pub lost_stays : (m : Move) (s s' : Depot) → is_death m ≡ false → Does m s s' → s'.lost ≡ s.lost
lost_stays (Makes p x) s s' h e = ap lost e
lost_stays (Stops p x) s s' h (others, t, e) = ap lost e
lost_stays (PutsBack p x) s s' h (others, t, e) = ap lost e
lost_stays (Publishes p f x) s s' h (others, free, t, e) = ap lost e
lost_stays (Withdraws p f x) s s' h (others, t, e) = ap lost e
lost_stays (Claims p f x) s s' h (others, t, e) = ap lost e
lost_stays (GivesBack p f x) s s' h (others, free, t, e) = ap lost e
lost_stays (Restores p f x) s s' h (others, t, e) = ap lost e
lost_stays (Dies p) s s' h e = cc h

-- a sum without a first one
pub none_first : (b : Bool) (n : ℕ) → one_if b + n ≡ 0 → (b ≡ false) × (n ≡ 0)
none_first true n h = absurd (omega (arith, h))
none_first false n h = (refl, omega (arith, h))

pub all_stay : (ms : List Move) (s s' : Depot) → Leads s ms s' → count_by is_death ms ≡ 0 → s'.lost ≡ s.lost
all_stay [] s s' h none = ap lost h
all_stay (m ∷ ms) s s' (between, does, leads) none =
    let apart : (is_death m ≡ false) × (count_by is_death ms ≡ 0) = none_first (is_death m) (count_by is_death ms) (omega (arith, counts_first is_death m ms, none)) in
    all_stay ms between s' leads apart.1 ∙ lost_stays m s between apart.0 does

-- where no process dies nothing is lost
pub only_death_loses : OnlyDeathLoses
only_death_loses ms s h none = all_stay ms no_depot s h none
