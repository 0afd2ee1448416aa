-- What is given: the first asked letter among those that arrived is the first open one with the asked tag.
use Rattle.std.proofs.Common.{arith, ◌≡◌, ℕ, suc, ◌+◌, ◌<◌, ◌≤◌, List, [], ◌∷◌, length, map, true, false, Bool, cond, refl, sym, subst, ap, ◌∙◌, Some, None, Option, ◌⊎◌, inl, inr, ltb-true, ltb-false, le-ltb, lt-ltb}
use Rattle.std.specs.Prelude.{if◌then◌else◌, not, ◌||◌, nat_lt, slice_get, All}
use Rattle.std.specs.List.{position, position_or_len, remove}
use Rattle.std.proofs.lemmas.List.Elements.{All-head, All-tail}
use Rattle.std.proofs.lemmas.Option.{none-some, same_Some}
use Rattle.mailbox_rules.specs.declared.letters.Arrival.{Arrival}
use Rattle.mailbox_rules.specs.declared.letters.Letter.{Letter}
use Rattle.mailbox_rules.specs.Calls.{After, Gives, Reply, gives, gives_at, gives_body, is_asked, replies, takes, taking}
use Rattle.mailbox_rules.specs.Histories.{Placed, fetched_before, first_wanted, is_wanted, without_first}
use Rattle.mailbox_rules.specs.Letters.{is_rendezvous}
use Rattle.mailbox_rules.specs.State.{Channel, Mail, channel, is_sender, with_channel}
use Rattle.mailbox_rules.specs.Theorem.{IsAwaited, IsLanded}
use Rattle.law_mailbox.specs.Arrived.{LettersAreGiven, AreOpen, AreRising, HasArrived, IsTaken, arrival_at, in_front, is_here}
use Rattle.law_mailbox.proofs.work.Channels.{changed_there}

-- ---- the first with an asked tag

none_gives_some : {X : Type 0} {P : Type 0} (x : X) → None ≡ Some x → P
none_gives_some x e = absurd (none-some x e)

some_is_none : {X : Type 0} {P : Type 0} (x : X) → Some x ≡ None → P
some_is_none x e = absurd (none-some x (sym e))

-- what holds of all holds of it
wanted_all : (P : Placed → Type 0) (tag : Option ℕ) (xs : List Placed) (x : Placed) → All P xs → first_wanted tag xs ≡ Some x → P x
wanted_all P tag [] x a h = none_gives_some x h
wanted_all P tag (y ∷ ys) x a h = by (wanted_all P tag ys x (All-tail P y ys a)) (is_wanted tag y) h
  where
    by : (first_wanted tag ys ≡ Some x → P x) → (w : Bool) → (if w then Some y else first_wanted tag ys) ≡ Some x → P x
    by rest true e = subst P (same_Some y x e) (All-head P y ys a)
    by rest false e = rest e

-- ---- the open letters in front

-- the first one in front is the first of all, and without it those in front are the same ones
record IsInFront (tag : Option ℕ) (n : ℕ) (xs : List Placed) (x : Placed) : Type 0 where
  whole : first_wanted tag xs ≡ Some x
  below : x.place < n
  without : in_front n (without_first tag xs) ≡ without_first tag (in_front n xs)

front_wanted : (tag : Option ℕ) (n : ℕ) (xs : List Placed) (x : Placed) → first_wanted tag (in_front n xs) ≡ Some x → IsInFront tag n xs x
unfolding without_first
front_wanted tag n [] x h = none_gives_some x h
front_wanted tag n (y ∷ ys) x h = by (front_wanted tag n ys x) (nat_lt y.place n) refl h
  where
    there : (first_wanted tag (in_front n ys) ≡ Some x → IsInFront tag n ys x) → (w : Bool) → is_wanted tag y ≡ w → nat_lt y.place n ≡ true →
        (if w then Some y else first_wanted tag (in_front n ys)) ≡ Some x → IsInFront tag n (y ∷ ys) x
    there rest true e b f = record {
      whole = rw e f;
      below = subst (λ (z : Placed). z.place < n) (same_Some y x f) (ltb-true y.place n b);
      without = rw (b, e) refl;
    }
    there rest false e b f =
        let more : IsInFront tag n ys x = rest f in
        record { whole = rw e more.whole; below = more.below; without = rw (b, e, b) (ap (λ (zs : List Placed). y ∷ zs) more.without) }

    by : (first_wanted tag (in_front n ys) ≡ Some x → IsInFront tag n ys x) → (b : Bool) → nat_lt y.place n ≡ b →
        first_wanted tag (if b then y ∷ in_front n ys else []) ≡ Some x → IsInFront tag n (y ∷ ys) x
    by rest true b f = there rest (is_wanted tag y) refl b f
    by rest false b f = none_gives_some x f

-- where none in front is asked for, the first one of all is not in front
front_none : (tag : Option ℕ) (n : ℕ) (xs : List Placed) → AreRising xs → first_wanted tag (in_front n xs) ≡ None → (x : Placed) → first_wanted tag xs ≡ Some x → n ≤ x.place
front_none tag n [] r h x found = none_gives_some x found
front_none tag n (y ∷ ys) r h x found = by (λ f. front_none tag n ys r.1 f x) (nat_lt y.place n) refl h
  where
    there : (first_wanted tag (in_front n ys) ≡ None → first_wanted tag ys ≡ Some x → n ≤ x.place) → (w : Bool) → is_wanted tag y ≡ w →
        (if w then Some y else first_wanted tag (in_front n ys)) ≡ None → n ≤ x.place
    there rest true e f = some_is_none y f
    there rest false e f = let later : first_wanted tag ys ≡ Some x = rw e at found in rest f later

    beyond : (w : Bool) → n ≤ y.place → (if w then Some y else first_wanted tag ys) ≡ Some x → n ≤ x.place
    beyond true past f = subst (λ (z : Placed). n ≤ z.place) (same_Some y x f) past
    beyond false past f = let later : y.place < x.place = wanted_all (λ z. y.place < z.place) tag ys x r.0 f in omega arith

    by : (first_wanted tag (in_front n ys) ≡ None → first_wanted tag ys ≡ Some x → n ≤ x.place) → (b : Bool) → nat_lt y.place n ≡ b →
        first_wanted tag (if b then y ∷ in_front n ys else []) ≡ None → n ≤ x.place
    by rest true b f = there rest (is_wanted tag y) refl f
    by rest false b f = beyond (is_wanted tag y) (ltb-false y.place n b) found

-- ---- where it stands among those that arrived

-- one place further on
abbrev further : Option ℕ → Option ℕ
further None = None
further (Some k) = Some (suc k)

-- the first place with an asked tag, by recursion
abbrev place_of : (Arrival → Bool) → List Arrival → Option ℕ
place_of p [] = None
place_of p (a ∷ rest) = if p a then Some 0 else further (place_of p rest)

position_is : (p : Arrival → Bool) (xs : List Arrival) → position p xs ≡ place_of p xs
position_is p [] = refl
position_is p (a ∷ rest) = by (position_is p rest) (p a)
  where
    past : (t : Bool) → nat_lt (position_or_len p rest) (length rest) ≡ t →
        cond (nat_lt (1 + position_or_len p rest) (suc (length rest))) (Some (1 + position_or_len p rest)) None ≡ further (cond t (Some (position_or_len p rest)) None)
    past true e =
        let below : position_or_len p rest < length rest = ltb-true (position_or_len p rest) (length rest) e in
        let one : 1 + position_or_len p rest ≡ suc (position_or_len p rest) = omega arith in
        rw (lt-ltb (1 + position_or_len p rest) (suc (length rest)) (omega arith)) (ap Some one)
    past false e =
        let above : length rest ≤ position_or_len p rest = ltb-false (position_or_len p rest) (length rest) e in
        rw (le-ltb (1 + position_or_len p rest) (suc (length rest)) (omega arith)) refl

    by : position p rest ≡ place_of p rest → (b : Bool) →
        cond (nat_lt (cond (not b) (1 + position_or_len p rest) 0) (suc (length rest))) (Some (cond (not b) (1 + position_or_len p rest) 0)) None ≡ (if b then Some 0 else further (place_of p rest))
    by more true = rw (lt-ltb 0 (suc (length rest)) (omega arith)) refl
    by more false = past (nat_lt (position_or_len p rest) (length rest)) refl ∙ ap further more

module _ (reads : ℕ) (sent : List Letter) (tag : Option ℕ) where
  -- nowhere, or at the place k
  data Stands (xs : List Placed) : Option ℕ → Type 0 where
    Nowhere : first_wanted tag xs ≡ None → Stands xs None
    There : (k : ℕ) (x : Placed) → first_wanted tag xs ≡ Some x → slice_get (map (arrival_at reads sent) xs) k ≡ Some (arrival_at reads sent x)
        → remove (map (arrival_at reads sent) xs) k ≡ map (arrival_at reads sent) (without_first tag xs) → Stands xs (Some k)

  later : (x : Placed) (xs : List Placed) (o : Option ℕ) → is_wanted tag x ≡ false → Stands xs o → Stands (x ∷ xs) (further o)
  unfolding without_first
  later x xs None e (Nowhere h) = Nowhere (rw e h)
  later x xs (Some k) e (There k' y h at is) = There (suc k) y (rw e h) at (rw e (ap (λ (more : List Arrival). arrival_at reads sent x ∷ more) is))

  stands : (xs : List Placed) → Stands xs (place_of (λ a. is_asked tag a.tag) (map (arrival_at reads sent) xs))
  unfolding without_first
  stands [] = Nowhere refl
  stands (x ∷ xs) = by (stands xs) (is_wanted tag x) refl
    where
      by : Stands xs (place_of (λ a. is_asked tag a.tag) (map (arrival_at reads sent) xs)) → (w : Bool) → is_wanted tag x ≡ w →
          Stands (x ∷ xs) (if w then Some 0 else further (place_of (λ a. is_asked tag a.tag) (map (arrival_at reads sent) xs)))
      by more true e = There 0 x (rw e refl) refl (rw e refl)
      by more false e = later x xs (place_of (λ a. is_asked tag a.tag) (map (arrival_at reads sent) xs)) e more

-- ---- what is answered

-- a letter is given, which is here
pub record IsGivenAt (m : Mail) (i : ℕ) (sent : List Letter) (open' : List Placed) (tag : Option ℕ) : Type 0 where
  pub k : ℕ
  pub x : Placed
  pub answer : takes m i tag ≡ replies (with_channel m i (taking k)) (Gives (Some x.letter))
  pub first : first_wanted tag open' ≡ Some x
  pub landed : IsLanded (channel m i) sent x
  pub left : HasArrived (taking k (channel m i)) sent (without_first tag open')

-- none is given, and none is here
pub record IsNotGiven (m : Mail) (i : ℕ) (sent : List Letter) (open' : List Placed) (tag : Option ℕ) : Type 0 where
  pub answer : takes m i tag ≡ replies m (Gives None)
  pub awaited : IsAwaited (channel m i) sent (first_wanted tag open')

module _ (m : Mail) (i : ℕ) (sent : List Letter) (open' : List Placed) (tag : Option ℕ) (there : is_sender m i ≡ true) (opened : AreOpen sent open') (arrived : HasArrived (channel m i) sent open') where
  front : List Placed
  front = in_front (channel m i).receives open'

  answered : takes m i tag ≡ gives m i (place_of (λ a. is_asked tag a.tag) (map (arrival_at (channel m i).reads sent) (in_front (channel m i).receives open')))
  unfolding takes
  answered = rw there (ap (gives m i) (position_is (λ a. is_asked tag a.tag) (channel m i).arrived ∙ ap (place_of (λ a. is_asked tag a.tag)) arrived))

  -- its bytes are here
  landed_if : (x : Placed) → x.place < (channel m i).receives → is_here (channel m i).reads sent x ≡ true → IsLanded (channel m i) sent x
  landed_if x below here = record { received = below; fetched = λ long. ltb-true (fetched_before x.place sent) (channel m i).reads (rw long at here) }

  -- .. or not
  not_landed : (x : Placed) → is_here (channel m i).reads sent x ≡ false → IsLanded (channel m i) sent x → ⊥
  not_landed x gone is = by (is_rendezvous x.letter.body) refl gone
    where
      by : (b : Bool) → is_rendezvous x.letter.body ≡ b → (not b || nat_lt (fetched_before x.place sent) (channel m i).reads) ≡ false → ⊥
      by true e h =
          let above : (channel m i).reads ≤ fetched_before x.place sent = ltb-false (fetched_before x.place sent) (channel m i).reads h in
          let below : fetched_before x.place sent < (channel m i).reads = is.fetched e in
          omega arith
      by false e h = cc

  none_there : first_wanted tag (in_front (channel m i).receives open') ≡ None → (o : Option Placed) → first_wanted tag open' ≡ o → IsAwaited (channel m i) sent o
  none_there none None e = tt
  none_there none (Some x) e = λ is.
      let past : (channel m i).receives ≤ x.place = front_none tag (channel m i).receives open' opened.rising none x e in
      let below : x.place < (channel m i).receives = is.received in
      omega arith

  one_there : (k : ℕ) (x : Placed) → takes m i tag ≡ gives m i (Some k) → IsInFront tag (channel m i).receives open' x →
      slice_get (channel m i).arrived k ≡ Some (arrival_at (channel m i).reads sent x) →
      remove (channel m i).arrived k ≡ map (arrival_at (channel m i).reads sent) (without_first tag (in_front (channel m i).receives open')) →
      IsGivenAt m i sent open' tag ⊎ IsNotGiven m i sent open' tag
  one_there k x answer is at left = by (is_here (channel m i).reads sent x) refl
    where
      given_body : takes m i tag ≡ gives_body m i k x.letter.tag (if is_here (channel m i).reads sent x then Some x.letter.body else None)
      given_body = answer ∙ ap (gives_at m i k) at

      by : (b : Bool) → is_here (channel m i).reads sent x ≡ b → IsGivenAt m i sent open' tag ⊎ IsNotGiven m i sent open' tag
      by true e = inl (record {
        k = k;
        x = x;
        answer = rw e at given_body;
        first = is.whole;
        landed = landed_if x is.below e;
        left = left ∙ ap (map (arrival_at (channel m i).reads sent)) (sym is.without);
      })
      by false e = inr (record {
        answer = rw e at given_body;
        awaited = subst (λ (o : Option Placed). IsAwaited (channel m i) sent o) (sym is.whole) (not_landed x e);
      })

  pub outcome : IsGivenAt m i sent open' tag ⊎ IsNotGiven m i sent open' tag
  outcome = by (place_of (λ a. is_asked tag a.tag) (map (arrival_at (channel m i).reads sent) (in_front (channel m i).receives open'))) answered (stands (channel m i).reads sent tag (in_front (channel m i).receives open'))
    where
      by : (o : Option ℕ) → takes m i tag ≡ gives m i o → Stands (channel m i).reads sent tag (in_front (channel m i).receives open') o → IsGivenAt m i sent open' tag ⊎ IsNotGiven m i sent open' tag
      by None answer (Nowhere none) = inr (record { answer = answer; awaited = none_there none (first_wanted tag open') refl })
      by (Some k) answer (There k' x first at left) =
          one_there k x answer (front_wanted tag (channel m i).receives open' x first)
          (ap (λ (xs : List Arrival). slice_get xs k) arrived ∙ at)
          (ap (λ (xs : List Arrival). remove xs k) arrived ∙ left)

  -- ---- all that is told of it

  reply_is : (a : After) (r s : Reply) → a.reply ≡ s → (takes m i tag) ≡ a → (takes m i tag).reply ≡ r → r ≡ s
  reply_is a r s is e h = sym h ∙ ap (λ (b : After). b.reply) e ∙ is

  taken_there : IsGivenAt m i sent open' tag → IsTaken m i sent open' tag
  taken_there g =
      let reply : (takes m i tag).reply ≡ Gives (Some g.x.letter) = ap (λ (b : After). b.reply) g.answer in
      let same : (l : Letter) → (takes m i tag).reply ≡ Gives (Some l) → g.x.letter ≡ l = λ l h. let e : Gives (Some g.x.letter) ≡ Gives (Some l) = sym reply ∙ h in cc in
      let changed : (takes m i tag).mail ≡ with_channel m i (taking g.k) = ap (λ (b : After). b.mail) g.answer in
      record {
        whole = λ l h. record { open_letter = g.x; is_first = g.first; is_whole = same l h };
        none = (
          λ h. let e : Gives (Some g.x.letter) ≡ Gives None = sym reply ∙ h in cc,
          λ awaited. absurd ((subst (λ (o : Option Placed). IsAwaited (channel m i) sent o) g.first awaited) g.landed),
        );
        gone = λ l h. subst (λ (c : Channel). HasArrived c sent (without_first tag open')) (sym (ap (λ (n : Mail). channel n i) changed ∙ changed_there m i there (taking g.k))) g.left;
        stays = λ h. let e : Gives (Some g.x.letter) ≡ Gives None = sym reply ∙ h in cc;
      }

  not_taken : IsNotGiven m i sent open' tag → IsTaken m i sent open' tag
  not_taken g =
      let reply : (takes m i tag).reply ≡ Gives None = ap (λ (b : After). b.reply) g.answer in
      record {
        whole = λ l h. let e : Gives None ≡ Gives (Some l) = sym reply ∙ h in cc;
        none = (λ h. g.awaited, λ awaited. reply);
        gone = λ l h. let e : Gives None ≡ Gives (Some l) = sym reply ∙ h in cc;
        stays = λ h. ap (λ (b : After). b.mail) g.answer;
      }

  pub is_taken : IsTaken m i sent open' tag
  is_taken = by outcome
    where
      by : IsGivenAt m i sent open' tag ⊎ IsNotGiven m i sent open' tag → IsTaken m i sent open' tag
      by (inl g) = taken_there g
      by (inr g) = not_taken g

pub given : LettersAreGiven
given m i sent open' tag there opened arrived = is_taken m i sent open' tag there opened arrived
