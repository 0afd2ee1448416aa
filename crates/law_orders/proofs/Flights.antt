-- Datagrams that stand somewhere in a world's store, and are not lost.
use Rattle.std.proofs.Common.{◌≡◌, ◌⊎◌, inl, inr, ℕ, zero, suc, ◌-◌, List, [], ◌∷◌, ◌++◌, length, map, slice_get, Bool, true, false, Some, refl, sym, ap, ◌∙◌, subst, if◌then◌else◌}
use Rattle.rdma_types.specs.declared.answers.Sent.{Sent}
use Rattle.rdma_types.specs.declared.requests.Address.{Address}
use Rattle.protocol.specs.State.{Flight}
use Rattle.protocol.specs.Fabric.{changed_at, flight_of, is_kept, marked_taken, sending, took}
use Rattle.order_rules.specs.Bridge.{IsSameFlight}

-- the datagram stands among these, and is not lost
pub record IsThere (gs : List Flight) (f : Flight) : Type 0 where
  pub place : ℕ
  pub flight : Flight
  pub there : slice_get gs place ≡ Some flight
  pub same : IsSameFlight f flight
  pub kept : flight.lost ≡ false

-- each of these does
abbrev pub AreThere : List Flight → List Flight → Type 0
AreThere gs fs = (k : ℕ) (f : Flight) → slice_get fs k ≡ Some f → IsThere gs f

pub same_flight : (f : Flight) → IsSameFlight f f
same_flight f = record { from = refl; to = refl; number = refl; says = refl }

-- ---- lists joined

pub get_left : {X : Type 0} (xs ys : List X) (k : ℕ) (x : X) → slice_get xs k ≡ Some x → slice_get (xs ++ ys) k ≡ Some x
get_left [] ys k x h = cc
get_left (z ∷ xs) ys zero x h = h
get_left (z ∷ xs) ys (suc k) x h = get_left xs ys k x h

-- the place of a thing of the second list
pub record IsAfter (X : Type 0) (xs ys : List X) (k : ℕ) (x : X) : Type 0 where
  pub place : ℕ
  pub there : slice_get (xs ++ ys) place ≡ Some x

pub get_right : {X : Type 0} (xs ys : List X) (k : ℕ) (x : X) → slice_get ys k ≡ Some x → IsAfter X xs ys k x
get_right [] ys k x h = record { place = k; there = h }
get_right (z ∷ xs) ys k x h = let later = get_right xs ys k x h in record { place = suc later.place; there = later.there }

pub get_either : {X : Type 0} (xs ys : List X) (k : ℕ) (x : X) → slice_get (xs ++ ys) k ≡ Some x → (slice_get xs k ≡ Some x) ⊎ ((j : ℕ) × (slice_get ys j ≡ Some x))
get_either [] ys k x h = inr (k, h)
get_either (z ∷ xs) ys zero x h = inl h
get_either (z ∷ xs) ys (suc k) x h = get_either xs ys k x h

-- the last
pub get_last : {X : Type 0} (xs : List X) (x : X) → slice_get (xs ++ x ∷ []) (length xs) ≡ Some x
get_last [] x = refl
get_last (z ∷ xs) x = get_last xs x

-- ---- what stays there

pub there_before : (gs more : List Flight) (f : Flight) → IsThere gs f → IsThere (gs ++ more) f
there_before gs more f t = record { place = t.place; flight = t.flight; there = get_left gs more t.place t.flight t.there; same = t.same; kept = t.kept }

later : (g : Flight) (gs : List Flight) (f : Flight) → IsThere gs f → IsThere (g ∷ gs) f
later g gs f t = record { place = suc t.place; flight = t.flight; there = t.there; same = t.same; kept = t.kept }

some_is : (a b : Flight) → Some a ≡ Some b → a ≡ b
some_is a b h = cc

there_marked : (gs : List Flight) (i : ℕ) (f g : Flight) (k : ℕ) → slice_get gs k ≡ Some g → IsSameFlight f g → g.lost ≡ false → IsThere (changed_at marked_taken i gs) f
unfolding changed_at
there_marked [] i f g k h same kept = cc
there_marked (x ∷ gs) zero f g zero h same kept =
    let is : x ≡ g = some_is x g h in
    record { place = 0; flight = marked_taken x; there = refl; same = subst (λ z. IsSameFlight f (marked_taken z)) (sym is) (record { from = same.from; to = same.to; number = same.number; says = same.says }); kept = ap (λ z. z.lost) is ∙ kept }
there_marked (x ∷ gs) zero f g (suc k) h same kept = record { place = suc k; flight = g; there = h; same = same; kept = kept }
there_marked (x ∷ gs) (suc i) f g zero h same kept = record { place = 0; flight = g; there = h; same = same; kept = kept }
there_marked (x ∷ gs) (suc i) f g (suc k) h same kept = later x _ f (there_marked gs i f g k h same kept)

pub there_taken : (gs : List Flight) (k : ℕ) (f : Flight) → IsThere gs f → IsThere (took gs k) f
unfolding took
there_taken gs k f t = by (is_kept (length gs) k)
  where
    by : (b : Bool) → IsThere (if b then changed_at marked_taken (k - 1) gs else gs) f
    by true = there_marked gs (k - 1) f t.flight t.place t.there t.same t.kept
    by false = t

-- ---- what is sent

sent_kept : (from : Address) (more : List Sent) (k : ℕ) (f : Flight) → slice_get (map (flight_of from) more) k ≡ Some f → f.lost ≡ false
sent_kept from [] k f h = cc
sent_kept from (s ∷ more) zero f h = ap (λ z. z.lost) (sym (some_is (flight_of from s) f h))
sent_kept from (s ∷ more) (suc k) f h = sent_kept from more k f h

-- the store and the list of all datagrams grow alike
pub there_sending : (gs fs : List Flight) (from : Address) (more : List Sent) → AreThere gs fs → AreThere (sending gs from more) (sending fs from more)
unfolding sending
there_sending gs fs from more all k f h = elim (get_either fs (map (flight_of from) more) k f h) [
  | inl a ↦ there_before gs (map (flight_of from) more) f (all k f a)
  | inr b ↦
      let place = get_right gs (map (flight_of from) more) b.0 f b.1 in
      record { place = place.place; flight = f; there = place.there; same = same_flight f; kept = sent_kept from more b.0 f b.1 }
]
