-- Long letters among those that were sent, and open letters in front.
use Rattle.std.proofs.Common.{arith, ◌≡◌, ℕ, zero, suc, ◌+◌, ◌<◌, ◌≤◌, List, [], ◌∷◌, ◌++◌, length, drop, map, true, false, Bool, cond, refl, sym, subst, ap, ◌∙◌, Some, None, ◌⊎◌, inl, inr, ltb-true, ltb-false, lt-ltb, le-ltb}
use Rattle.std.specs.Prelude.{All, if◌then◌else◌, nat_lt, not, slice_get, ◌||◌}
use Rattle.std.proofs.lemmas.List.Elements.{All-cons, All-head, All-nil, All-tail, All-weaker}
use Rattle.std.proofs.lemmas.Option.{none-some, same_Some}
use Rattle.mailbox_rules.specs.declared.letters.Arrival.{Arrival}
use Rattle.mailbox_rules.specs.declared.letters.Letter.{Letter}
use Rattle.mailbox_rules.specs.Histories.{Placed, fetched_before}
use Rattle.mailbox_rules.specs.Letters.{is_rendezvous}
use Rattle.mailbox_rules.specs.Working.{filled}
use Rattle.law_mailbox.specs.Arrived.{AreRising, arrival_at, in_front}
use Rattle.law_mailbox.specs.Kept.{Has, long_letters}
use Rattle.law_mailbox.proofs.queue_room.Counts.{fetched_cons, one_if}

-- ---- long letters

pub long_at : (ls : List Letter) (n : ℕ) (l : Letter) → slice_get ls n ≡ Some l → is_rendezvous l.body ≡ true → slice_get (long_letters ls) (fetched_before n ls) ≡ Some l
long_at [] n l h long = absurd (none-some l h)
long_at (x ∷ xs) zero l h long =
    let same : x ≡ l = same_Some x l h in
    let t : is_rendezvous x.body ≡ true = ap (λ (z : Letter). is_rendezvous z.body) same ∙ long in
    rw t (ap Some same)
long_at (x ∷ xs) (suc n) l h long = ap (λ (k : ℕ). slice_get (long_letters (x ∷ xs)) k) (fetched_cons n x xs) ∙ by (long_at xs n l h long) (is_rendezvous x.body)
  where
    by : slice_get (long_letters xs) (fetched_before n xs) ≡ Some l → (b : Bool) → slice_get (cond b (x ∷ long_letters xs) (long_letters xs)) (one_if b + fetched_before n xs) ≡ Some l
    by ih true = let e : 1 + fetched_before n xs ≡ suc (fetched_before n xs) = omega arith in ap (slice_get (x ∷ long_letters xs)) e ∙ ih
    by ih false = let e : 0 + fetched_before n xs ≡ fetched_before n xs = omega arith in ap (slice_get (long_letters xs)) e ∙ ih

-- one more is counted where it is long
pub fetched_next : (ls : List Letter) (n : ℕ) (l : Letter) → slice_get ls n ≡ Some l → fetched_before (suc n) ls ≡ fetched_before n ls + one_if (is_rendezvous l.body)
fetched_next [] n l h = absurd (none-some l h)
fetched_next (x ∷ xs) zero l h =
    let same : x ≡ l = same_Some x l h in
    let e : one_if (is_rendezvous x.body) ≡ one_if (is_rendezvous l.body) = ap (λ (z : Letter). one_if (is_rendezvous z.body)) same in
    let none : fetched_before 0 xs ≡ 0 = refl in
    let none' : fetched_before 0 (x ∷ xs) ≡ 0 = refl in
    omega (arith, e, fetched_cons 0 x xs, none, none')
fetched_next (x ∷ xs) (suc n) l h = let ih : fetched_before (suc n) xs ≡ fetched_before n xs + one_if (is_rendezvous l.body) = fetched_next xs n l h in omega (arith, ih, fetched_cons n x xs, fetched_cons (suc n) x xs)

pub fetched_rises : (ls : List Letter) (n k : ℕ) → n ≤ k → fetched_before n ls ≤ fetched_before k ls
fetched_rises ls zero k h = omega arith
fetched_rises [] (suc n) zero h = absurd (omega arith)
fetched_rises [] (suc n) (suc k) h = omega arith
fetched_rises (x ∷ xs) (suc n) zero h = absurd (omega arith)
fetched_rises (x ∷ xs) (suc n) (suc k) h = let ih : fetched_before n xs ≤ fetched_before k xs = fetched_rises xs n k (omega arith) in omega (arith, ih, fetched_cons n x xs, fetched_cons k x xs)

pub fetched_less : (ls : List Letter) (n k : ℕ) (l : Letter) → slice_get ls n ≡ Some l → is_rendezvous l.body ≡ true → n < k → fetched_before n ls + 1 ≤ fetched_before k ls
fetched_less ls n k l h long below =
    let one : one_if (is_rendezvous l.body) ≡ 1 = ap one_if long in
    let next = fetched_next ls n l h in
    let rises : fetched_before (suc n) ls ≤ fetched_before k ls = fetched_rises ls (suc n) k (omega arith) in
    omega (arith, one, next, rises)

pub fetched_append : (ls more : List Letter) (n : ℕ) → n ≤ length ls → fetched_before n (ls ++ more) ≡ fetched_before n ls
fetched_append [] more zero h = refl
fetched_append [] more (suc n) h = absurd (omega arith)
fetched_append (x ∷ xs) more zero h = refl
fetched_append (x ∷ xs) more (suc n) h = fetched_cons n x (xs ++ more) ∙ (ap (λ (k : ℕ). one_if (is_rendezvous x.body) + k) (fetched_append xs more n (omega arith)) ∙ sym (fetched_cons n x xs))

pub long_append : (ls more : List Letter) → long_letters (ls ++ more) ≡ long_letters ls ++ long_letters more
long_append [] more = refl
long_append (x ∷ xs) more = by (long_append xs more) (is_rendezvous x.body)
  where
    by : long_letters (xs ++ more) ≡ long_letters xs ++ long_letters more → (b : Bool) → cond b (x ∷ long_letters (xs ++ more)) (long_letters (xs ++ more)) ≡ cond b (x ∷ long_letters xs) (long_letters xs) ++ long_letters more
    by ih true = ap (λ (l : List Letter). x ∷ l) ih
    by ih false = ih

pub drop_at : {X : Type 0} (xs : List X) (n : ℕ) (x : X) → slice_get xs n ≡ Some x → drop n xs ≡ x ∷ drop (suc n) xs
drop_at [] n x h = absurd (none-some x h)
drop_at (y ∷ xs) zero x h = ap (λ z. z ∷ xs) (same_Some y x h)
drop_at (y ∷ xs) (suc n) x h = drop_at xs n x h

pub drop_longer : {X : Type 0} (n : ℕ) (xs ys : List X) → n ≤ length xs → drop n (xs ++ ys) ≡ drop n xs ++ ys
drop_longer zero xs ys h = refl
drop_longer (suc n) [] ys h = absurd (omega arith)
drop_longer (suc n) (x ∷ xs) ys h = drop_longer n xs ys (omega arith)

-- ---- open letters in front

pub has_all : (P : Placed → Type 0) (xs : List Placed) (x : Placed) → All P xs → Has xs x → P x
has_all P [] x a h = absurd h
has_all P (y ∷ ys) x a (inl e) = subst P e (All-head P y ys a)
has_all P (y ∷ ys) x a (inr r) = has_all P ys x (All-tail P y ys a) r

pub has_more : (xs : List Placed) (y x : Placed) → Has xs x → Has (xs ++ y ∷ []) x
has_more [] y x h = absurd h
has_more (z ∷ zs) y x (inl e) = inl e
has_more (z ∷ zs) y x (inr r) = inr (has_more zs y x r)

pub has_last : (xs : List Placed) (y : Placed) → Has (xs ++ y ∷ []) y
has_last [] y = inl refl
has_last (z ∷ zs) y = inr (has_last zs y)

front_empty : (n : ℕ) (xs : List Placed) → All (λ z. n ≤ z.place) xs → in_front n xs ≡ []
front_empty n [] a = refl
front_empty n (z ∷ zs) a = rw (le-ltb z.place n (All-head (λ y. n ≤ y.place) z zs a)) refl

-- the next one comes behind those in front
pub front_next : (xs : List Placed) (n m : ℕ) (x : Placed) → m ≡ n + 1 → x.place ≡ n → AreRising xs → Has xs x → in_front m xs ≡ in_front n xs ++ x ∷ []
front_next [] n m x e at rising has = absurd has
front_next (y ∷ ys) n m x e at rising has = by (λ r. front_next ys n m x e at rising.1 r) has (nat_lt y.place n) refl
  where
    past : y ≡ x → n ≤ y.place → in_front m (y ∷ ys) ≡ x ∷ []
    past same above =
        let there : y.place ≡ n = ap (λ (z : Placed). z.place) same ∙ at in
        let none : in_front m ys ≡ [] = front_empty m ys (All-weaker (λ z. y.place < z.place) (λ z. m ≤ z.place) (λ z b. omega (arith, b, there, e)) ys rising.0) in
        rw (lt-ltb y.place m (omega (arith, there, e))) (ap (λ (zs : List Placed). y ∷ zs) none ∙ ap (λ (z : Placed). z ∷ []) same)

    by : (Has ys x → in_front m ys ≡ in_front n ys ++ x ∷ []) → (y ≡ x) ⊎ Has ys x → (b : Bool) → nat_lt y.place n ≡ b → in_front m (y ∷ ys) ≡ (if b then y ∷ in_front n ys else []) ++ x ∷ []
    by ih (inl same) true f = let below : y.place < n = ltb-true y.place n f in let there : y.place ≡ n = ap (λ (z : Placed). z.place) same ∙ at in absurd (omega (arith, below, there))
    by ih (inl same) false f = past same (ltb-false y.place n f)
    by ih (inr r) true f = let below : y.place < n = ltb-true y.place n f in rw (lt-ltb y.place m (omega (arith, below, e))) (ap (λ (zs : List Placed). y ∷ zs) (ih r))
    by ih (inr r) false f =
        let above : n ≤ y.place = ltb-false y.place n f in
        let behind : y.place < x.place = has_all (λ z. y.place < z.place) ys x rising.0 r in
        absurd (omega (arith, above, behind, at))

pub front_all : (P : Placed → Type 0) (n : ℕ) (xs : List Placed) → All P xs → All P (in_front n xs)
front_all P n [] a = a
front_all P n (y ∷ ys) a = by (front_all P n ys (All-tail P y ys a)) (nat_lt y.place n)
  where
    by : All P (in_front n ys) → (b : Bool) → All P (if b then y ∷ in_front n ys else [])
    by ih true = All-cons P y (in_front n ys) (All-head P y ys a) ih
    by ih false = All-nil P

pub front_below : (n : ℕ) (xs : List Placed) → All (λ x. x.place < n) (in_front n xs)
front_below n [] = All-nil (λ x. x.place < n)
front_below n (y ∷ ys) = by (front_below n ys) (nat_lt y.place n) refl
  where
    by : All (λ x. x.place < n) (in_front n ys) → (b : Bool) → nat_lt y.place n ≡ b → All (λ x. x.place < n) (if b then y ∷ in_front n ys else [])
    by ih true e = All-cons (λ x. x.place < n) y (in_front n ys) (ltb-true y.place n e) ih
    by ih false e = All-nil (λ x. x.place < n)

pub front_rising : (n : ℕ) (xs : List Placed) → AreRising xs → AreRising (in_front n xs)
front_rising n [] r = r
front_rising n (y ∷ ys) r = by (front_rising n ys r.1) (nat_lt y.place n)
  where
    by : AreRising (in_front n ys) → (b : Bool) → AreRising (if b then y ∷ in_front n ys else [])
    by ih true = (front_all (λ z. y.place < z.place) n ys r.0, ih)
    by ih false = tt

pub front_has : (n : ℕ) (xs : List Placed) (x : Placed) → AreRising xs → Has xs x → x.place < n → Has (in_front n xs) x
front_has n [] x r has below = absurd has
front_has n (y ∷ ys) x r has below = by (λ h. front_has n ys x r.1 h below) has (nat_lt y.place n) refl
  where
    by : (Has ys x → Has (in_front n ys) x) → (y ≡ x) ⊎ Has ys x → (b : Bool) → nat_lt y.place n ≡ b → Has (if b then y ∷ in_front n ys else []) x
    by ih (inl same) true e = inl same
    by ih (inl same) false e = let above : n ≤ y.place = ltb-false y.place n e in let p : y.place ≡ x.place = ap (λ (z : Placed). z.place) same in absurd (omega (arith, above, p))
    by ih (inr h) true e = inr (ih h)
    by ih (inr h) false e =
        let above : n ≤ y.place = ltb-false y.place n e in
        let behind : y.place < x.place = has_all (λ z. y.place < z.place) ys x r.0 h in
        absurd (omega (arith, above, behind))

-- one that is sent later is not in front
pub front_later : (n : ℕ) (xs : List Placed) (y : Placed) → n ≤ y.place → in_front n (xs ++ y ∷ []) ≡ in_front n xs
front_later n [] y h = rw (le-ltb y.place n h) refl
front_later n (x ∷ xs) y h = ap (λ (zs : List Placed). if nat_lt x.place n then x ∷ zs else []) (front_later n xs y h)

-- ---- a body fills its arrival

-- a letter of which no body is counted before is here with one more
here_later : (reads : ℕ) (sent : List Letter) (z : Placed) → reads + 1 ≤ fetched_before z.place sent → arrival_at reads sent z ≡ arrival_at (reads + 1) sent z
here_later reads sent z h =
    let a : nat_lt (fetched_before z.place sent) reads ≡ false = le-ltb (fetched_before z.place sent) reads (omega arith) in
    let b : nat_lt (fetched_before z.place sent) (reads + 1) ≡ false = le-ltb (fetched_before z.place sent) (reads + 1) h in
    ap (λ (t : Bool). record { tag = z.letter.tag; body = if not (is_rendezvous z.letter.body) || t then Some z.letter.body else None }) (a ∙ sym b)

all_later : (reads : ℕ) (sent : List Letter) (zs : List Placed) → All (λ z. reads + 1 ≤ fetched_before z.place sent) zs → map (arrival_at reads sent) zs ≡ map (arrival_at (reads + 1) sent) zs
all_later reads sent [] a = refl
all_later reads sent (z ∷ zs) a =
    ap (λ (x : Arrival). x ∷ map (arrival_at reads sent) zs) (here_later reads sent z (All-head (λ y. reads + 1 ≤ fetched_before y.place sent) z zs a))
    ∙ ap (λ (xs : List Arrival). arrival_at (reads + 1) sent z ∷ xs) (all_later reads sent zs (All-tail (λ y. reads + 1 ≤ fetched_before y.place sent) z zs a))

-- the letter that waits first gets its body
module _ (reads : ℕ) (sent : List Letter) (bytes : List ℕ) (x : Placed) (long : is_rendezvous x.letter.body ≡ true) (counted : fetched_before x.place sent ≡ reads) (there : slice_get sent x.place ≡ Some x.letter) (is : bytes ≡ x.letter.body) where
  -- it waits, and then it is here
  waits : arrival_at reads sent x ≡ record { tag = x.letter.tag; body = None }
  waits =
      let no_less : nat_lt (fetched_before x.place sent) reads ≡ false = le-ltb (fetched_before x.place sent) reads (omega (arith, counted)) in
      rw (long, no_less) refl

  comes : arrival_at (reads + 1) sent x ≡ record { tag = x.letter.tag; body = Some x.letter.body }
  comes =
      let less : nat_lt (fetched_before x.place sent) (reads + 1) ≡ true = lt-ltb (fetched_before x.place sent) (reads + 1) (omega (arith, counted)) in
      rw (long, less) refl

  -- those before it are here
  before : (y : Placed) (r : ℕ) → slice_get sent y.place ≡ Some y.letter → y.place < x.place → reads ≤ r → arrival_at r sent y ≡ record { tag = y.letter.tag; body = Some y.letter.body }
  before y r at earlier up = by (is_rendezvous y.letter.body) refl
    where
      by : (b : Bool) → is_rendezvous y.letter.body ≡ b → arrival_at r sent y ≡ record { tag = y.letter.tag; body = Some y.letter.body }
      by true e =
          let fewer : fetched_before y.place sent + 1 ≤ fetched_before x.place sent = fetched_less sent y.place x.place y.letter at e earlier in
          let less : nat_lt (fetched_before y.place sent) r ≡ true = lt-ltb (fetched_before y.place sent) r (omega (arith, fewer, counted, up)) in
          rw (e, less) refl
      by false e = rw e refl

  pub filled_next : (ys : List Placed) → All (λ y. slice_get sent y.place ≡ Some y.letter) ys → AreRising ys → Has ys x → filled bytes (map (arrival_at reads sent) ys) ≡ map (arrival_at (reads + 1) sent) ys
  unfolding filled
  filled_next [] a r has = absurd has
  filled_next (y ∷ ys) a r (inl same) =
      let y_waits : arrival_at reads sent y ≡ record { tag = y.letter.tag; body = None } = subst (λ (z : Placed). arrival_at reads sent z ≡ record { tag = z.letter.tag; body = None }) (sym same) waits in
      let y_comes : arrival_at (reads + 1) sent y ≡ record { tag = y.letter.tag; body = Some y.letter.body } = subst (λ (z : Placed). arrival_at (reads + 1) sent z ≡ record { tag = z.letter.tag; body = Some z.letter.body }) (sym same) comes in
      let place : y.place ≡ x.place = ap (λ (z : Placed). z.place) same in
      let later : All (λ z. reads + 1 ≤ fetched_before z.place sent) ys =
      All-weaker (λ z. y.place < z.place) (λ z. reads + 1 ≤ fetched_before z.place sent) (λ z b. let more = fetched_less sent x.place z.place x.letter there long (omega (arith, b, place)) in omega (arith, more, counted)) ys r.0 in
      let bytes_are : bytes ≡ y.letter.body = is ∙ ap (λ (z : Placed). z.letter.body) (sym same) in
      ap (λ (a : Arrival). filled bytes (a ∷ map (arrival_at reads sent) ys)) y_waits
      ∙ (ap (λ (b : List ℕ). record { tag = y.letter.tag; body = Some b } ∷ map (arrival_at reads sent) ys) bytes_are
      ∙ (ap (λ (a : Arrival). a ∷ map (arrival_at reads sent) ys) (sym y_comes)
      ∙ ap (λ (as' : List Arrival). arrival_at (reads + 1) sent y ∷ as') (all_later reads sent ys later)))
  filled_next (y ∷ ys) a r (inr has) =
      let at : slice_get sent y.place ≡ Some y.letter = All-head (λ z. slice_get sent z.place ≡ Some z.letter) y ys a in
      let earlier : y.place < x.place = has_all (λ z. y.place < z.place) ys x r.0 has in
      let now = before y reads at earlier (omega arith) in
      let then' = before y (reads + 1) at earlier (omega arith) in
      ap (λ (a : Arrival). filled bytes (a ∷ map (arrival_at reads sent) ys)) now
      ∙ (ap (λ (a : Arrival). a ∷ filled bytes (map (arrival_at reads sent) ys)) (sym then')
      ∙ ap (λ (as' : List Arrival). arrival_at (reads + 1) sent y ∷ as') (filled_next ys (All-tail (λ z. slice_get sent z.place ≡ Some z.letter) y ys a) r.1 has))
