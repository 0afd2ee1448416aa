-- Bytes put into regions: the protocol and the machine put the same, and nothing else of the regions changes.
use Rattle.std.proofs.Common.{arith, ◌≡◌, ◌<◌, ◌^◌, ◌≤◌, ◌+◌, ◌-◌, ◌%◌, ℕ, suc, List, [], ◌∷◌, ◌++◌, length, true, false, Bool, refl, sym, ap, ◌∙◌, subst, inl, inr}
use Rattle.std.specs.Prelude.{is_some, if◌then◌else◌, ◌==◌, ◌&&◌, ◌||◌, All, Contains, take, drop}
use Rattle.std.specs.List.{count_by}
use Rattle.std.proofs.lemmas.Bool.Decides.{nat_tests, leb_tells}
use Rattle.std.proofs.lemmas.List.{length-append, length-take, length-drop, take-append-drop}
use Rattle.std.proofs.lemmas.List.Elements.{All-cons, All-head, All-tail, All-append, All-take, All-drop}
use Rattle.rdma_types.specs.declared.names.Name.{Name}
use Rattle.rdma_types.specs.Lists.{has_word, first_that}
use Rattle.rdma_types.specs.Memory.{Right, put, grants, granted, holds, is_granted, local_key, remote_key}
use Rattle.rdma_types.specs.Objects.{IsWhole, Region}
use Rattle.protocol.specs.State.{Progress, NoMessage, InSend, InWrite}
use Rattle.packetless_machine.specs.Machine as machine
use Rattle.packetless_machine.specs.Machine.{End, put_at, is_at}
use Rattle.law_simulation.specs.Joined.{IsProgress, is_granted_in}
use Rattle.law_simulation.specs.Stands.{IsContextSound}
use Rattle.law_simulation.proofs.relation.Grants.{SamePlace, contains_cases, contains_here, contains_later}
use Rattle.law_simulation.proofs.relation.Sounds.{ends_regions}
use Rattle.law_simulation.proofs.relation.Tables.{count_by-cons}

-- ---- regions that differ in their bytes alone

abbrev pub AreLike : List Region → List Region → Type 0
AreLike [] [] = Unit {0}
AreLike [] (r ∷ rs) = ⊥
AreLike (r ∷ rs) [] = ⊥
AreLike (r ∷ rs) (r' ∷ rs') = SamePlace r r' × AreLike rs rs'

same_place : (r : Region) → SamePlace r r
same_place r = record { name = refl; domain = refl; base = refl; length = refl; rights = refl; keys = refl }

pub all_like : (rs : List Region) → AreLike rs rs
all_like [] = tt
all_like (r ∷ rs) = (same_place r, all_like rs)

like_grants : (key_of : Region → ℕ) (domain : Name) (key place count : ℕ) (right : Right) (r r' : Region) → SamePlace r r' → key_of r' ≡ key_of r → grants key_of domain key place count right r' ≡ grants key_of domain key place count right r
unfolding grants holds
like_grants key_of domain key place count right r r' s k = rw (k, s.domain, s.rights, s.base, s.length) refl

like_first : (test : Region → Bool) (rs rs' : List Region) → AreLike rs rs' → ((r r' : Region) → SamePlace r r' → test r' ≡ test r) → is_some (first_that test rs') ≡ is_some (first_that test rs)
unfolding first_that
like_first test [] [] h same = refl
like_first test [] (r' ∷ rs') h same = absurd h
like_first test (r ∷ rs) [] h same = absurd h
like_first test (r ∷ rs) (r' ∷ rs') h same = grind (arith, same r r' h.0, like_first test rs rs' h.1 same)

pub like_local : (rs rs' : List Region) (domain : Name) (key place count : ℕ) (right : Right) → AreLike rs rs' → is_granted local_key rs' domain key place count right ≡ is_granted local_key rs domain key place count right
unfolding is_granted granted
like_local rs rs' domain key place count right h = ap (λ b. (count == 0) || b) (like_first _ rs rs' h (λ r r' s. like_grants local_key domain key place count right r r' s (ap (λ k. k.local) s.keys)))

pub like_remote : (rs rs' : List Region) (domain : Name) (key place count : ℕ) (right : Right) → AreLike rs rs' → is_granted remote_key rs' domain key place count right ≡ is_granted remote_key rs domain key place count right
unfolding is_granted granted
like_remote rs rs' domain key place count right h = ap (λ b. (count == 0) || b) (like_first _ rs rs' h (λ r r' s. like_grants remote_key domain key place count right r r' s (ap (λ k. k.remote) s.keys)))

like_count : (rs rs' : List Region) (k : ℕ) → AreLike rs rs' → count_by (λ r. r.keys.local == k) rs' ≡ count_by (λ r. r.keys.local == k) rs
like_count [] [] k h = refl
like_count [] (r' ∷ rs') k h = absurd h
like_count (r ∷ rs) [] k h = absurd h
like_count (r ∷ rs) (r' ∷ rs') k h = grind (arith, count_by-cons (λ z. z.keys.local == k) r rs, count_by-cons (λ z. z.keys.local == k) r' rs', ap (λ z. z.local == k) h.0.keys, like_count rs rs' k h.1)

like_all : (P : Region → Type 0) (rs rs' : List Region) → AreLike rs rs' → ((r r' : Region) → SamePlace r r' → P r → P r') → All P rs → All P rs'
like_all P [] [] h same all = all
like_all P [] (r' ∷ rs') h same all = absurd h
like_all P (r ∷ rs) [] h same all = absurd h
like_all P (r ∷ rs) (r' ∷ rs') h same all = All-cons P r' rs' (same r r' h.0 (All-head P r rs all)) (like_all P rs rs' h.1 same (All-tail P r rs all))

like_contains : (x : Region) (rs rs' : List Region) → AreLike rs rs' → Contains rs x → (x' : Region) × Contains rs' x' × SamePlace x x'
like_contains x [] rs' h c = absurd (omega (arith, c.1))
like_contains x (r ∷ rs) [] h c = absurd h
like_contains x (r ∷ rs) (r' ∷ rs') h c = elim (contains_cases x r rs c) [
  | inl e ↦ (r', contains_here r' rs', subst (λ z. SamePlace z r') e h.0)
  | inr l ↦ let f = like_contains x rs rs' h.1 l in (f.0, contains_later f.0 r' rs' f.1, f.2)
]

pub like_progress : (q : End) (domain : Name) (rs rs' : List Region) (p : Progress) → AreLike rs rs' → IsProgress q domain rs p → IsProgress q domain rs' p
unfolding is_granted_in
like_progress q domain rs rs' NoMessage s h = h
like_progress q domain rs rs' (InSend bytes receive) s h = h
like_progress q domain rs rs' (InWrite region off count bytes) s h =
    let f = like_contains h.5.region rs rs' s h.5.there in (
      h.0,
      h.1,
      h.2,
      h.3,
      like_remote rs rs' domain _ _ _ _ s ∙ h.4,
      record {
        region = f.0;
        there = f.1;
        local = ap (λ k. k.local) f.2.keys ∙ h.5.local;
        remote = ap (λ k. k.remote) f.2.keys ∙ h.5.remote;
        place = ap (λ b. b + off) f.2.base ∙ h.5.place;
      },
    )

abbrev IsKeyed : List ℕ → Region → Type 0
IsKeyed keys r = Contains keys r.keys.local × (r.keys.local % 2 ≡ 0) × (r.keys.remote ≡ suc r.keys.local)

-- a context whose regions change in their bytes alone
pub like_sound : (keys : List ℕ) (y : machine.Context) (rs' : List Region) → AreLike y.regions rs' → All IsWhole rs' → All (λ r. All (λ b. b < 256) r.bytes) rs' → IsContextSound keys y → IsContextSound keys (record y { regions = rs' })
like_sound keys y rs' h whole said s = record {
  whole = whole;
  bytes = said;
  keyed = like_all (IsKeyed keys) y.regions rs' h (λ r r' p k. (subst (Contains keys) (sym (ap (λ z. z.local) p.keys)) k.0, ap (λ z. z.local % 2) p.keys ∙ k.1, ap (λ z. z.remote) p.keys ∙ (k.2 ∙ sym (ap (λ z. suc z.local) p.keys)))) s.keyed;
  keyed_once = λ k. omega (arith, like_count y.regions rs' k h, s.keyed_once k);
  named_once = s.named_once;
  ends = ends_regions y.regions rs' _ y.ends (λ domain key place count right g. like_local y.regions rs' domain key place count right h ∙ g) s.ends;
  regions_in = like_all (λ r. has_word r.domain y.domains ≡ true) y.regions rs' h (λ r r' p k. ap (λ z. has_word z y.domains) p.domain ∙ k) s.regions_in;
  ends_in = s.ends_in;
  regions_end = like_all (λ r. r.base + r.length ≤ 2 ^ 64) y.regions rs' h (λ r r' p k. omega (arith, p.base, p.length, k)) s.regions_end;
}

-- ---- bytes put at a place

length_put : (bytes new : List ℕ) (place : ℕ) → place + length new ≤ length bytes → length (put bytes place new) ≡ length bytes
unfolding put
length_put bytes new place h = omega (arith, h, length-append (take place bytes) (new ++ drop (place + length new) bytes), length-append new (drop (place + length new) bytes), length-take place bytes, length-drop (place + length new) bytes)

all_put : (bytes new : List ℕ) (place : ℕ) → All (λ b. b < 256) bytes → All (λ b. b < 256) new → All (λ b. b < 256) (put bytes place new)
unfolding put
all_put bytes new place h k = All-append (λ b. b < 256) (take place bytes) (new ++ drop (place + length new) bytes) (All-take (λ b. b < 256) place bytes h) (All-append (λ b. b < 256) new (drop (place + length new) bytes) k (All-drop (λ b. b < 256) (place + length new) bytes h))

abbrev pub over : Region → ℕ → List ℕ → Region
over r a new = record r { bytes = put r.bytes (a - r.base) new }

over_place : (r : Region) (a : ℕ) (new : List ℕ) → SamePlace r (over r a new)
over_place r a new = record { name = refl; domain = refl; base = refl; length = refl; rights = refl; keys = refl }

held_inside : (r : Region) (a n : ℕ) → holds r a n ≡ true → (r.base ≤ a) × (a + n ≤ r.base + r.length)
unfolding holds
held_inside r a n h = grind (arith, nat_tests, leb_tells r.base a, leb_tells (a + n) (r.base + r.length), h)

and_right : (a b : Bool) → (a && b) ≡ true → b ≡ true
and_right true b h = h
and_right false b h = absurd (cc)

over_whole : (key_of : Region → ℕ) (key a : ℕ) (new : List ℕ) (r : Region) → is_at key_of key a (length new) r ≡ true → IsWhole r → IsWhole (over r a new)
over_whole key_of key a new r there whole =
    let inside = held_inside r a (length new) (and_right (key_of r == key) (holds r a (length new)) there) in
    length_put r.bytes new (a - r.base) (omega (arith, inside, whole)) ∙ whole

module _ (key_of : Region → ℕ) (key a : ℕ) (new : List ℕ) where
  put_if : (b : Bool) (r : Region) (rs : List Region) → List Region
  put_if b r rs = if b then over r a new ∷ rs else r ∷ put_at key_of key a new rs

  pub put_like : (rs : List Region) → AreLike rs (put_at key_of key a new rs)
  unfolding put_at
  put_like [] = tt
  put_like (r ∷ rs) = by_test (is_at key_of key a (length new) r) (put_like rs)
    where
      by_test : (b : Bool) → AreLike rs (put_at key_of key a new rs) → AreLike (r ∷ rs) (if b then over r a new ∷ rs else r ∷ put_at key_of key a new rs)
      by_test true later = (over_place r a new, all_like rs)
      by_test false later = (same_place r, later)

  pub put_whole : (rs : List Region) → All IsWhole rs → All IsWhole (put_at key_of key a new rs)
  unfolding put_at
  put_whole [] all = all
  put_whole (r ∷ rs) all = by_test (is_at key_of key a (length new) r) refl (put_whole rs (All-tail IsWhole r rs all))
    where
      by_test : (b : Bool) → is_at key_of key a (length new) r ≡ b → All IsWhole (put_at key_of key a new rs) → All IsWhole (if b then over r a new ∷ rs else r ∷ put_at key_of key a new rs)
      by_test true t later = All-cons IsWhole (over r a new) rs (over_whole key_of key a new r t (All-head IsWhole r rs all)) (All-tail IsWhole r rs all)
      by_test false t later = All-cons IsWhole r _ (All-head IsWhole r rs all) later

  pub put_said : (rs : List Region) → All (λ b. b < 256) new → All (λ r. All (λ b. b < 256) r.bytes) rs → All (λ r. All (λ b. b < 256) r.bytes) (put_at key_of key a new rs)
  unfolding put_at
  put_said [] said all = all
  put_said (r ∷ rs) said all = by_test (is_at key_of key a (length new) r) (put_said rs said (All-tail (λ z. All (λ b. b < 256) z.bytes) r rs all))
    where
      by_test : (b : Bool) → All (λ z. All (λ x. x < 256) z.bytes) (put_at key_of key a new rs) → All (λ z. All (λ x. x < 256) z.bytes) (if b then over r a new ∷ rs else r ∷ put_at key_of key a new rs)
      by_test true later = All-cons (λ z. All (λ x. x < 256) z.bytes) (over r a new) rs (all_put r.bytes new (a - r.base) (All-head (λ z. All (λ x. x < 256) z.bytes) r rs all) said) (All-tail (λ z. All (λ x. x < 256) z.bytes) r rs all)
      by_test false later = All-cons (λ z. All (λ x. x < 256) z.bytes) r _ (All-head (λ z. All (λ x. x < 256) z.bytes) r rs all) later

put_none : (bytes : List ℕ) (place : ℕ) → put bytes place [] ≡ bytes
unfolding put
put_none bytes place = ap (λ k. take place bytes ++ drop k bytes) (omega arith) ∙ take-append-drop place bytes

-- no bytes change nothing
pub put_nothing : (key_of : Region → ℕ) (key a : ℕ) (rs : List Region) → put_at key_of key a [] rs ≡ rs
unfolding put_at
put_nothing key_of key a [] = refl
put_nothing key_of key a (r ∷ rs) = by_test (is_at key_of key a 0 r) (put_nothing key_of key a rs)
  where
    by_test : (b : Bool) → put_at key_of key a [] rs ≡ rs → (if b then over r a [] ∷ rs else r ∷ put_at key_of key a [] rs) ≡ r ∷ rs
    by_test true later = ap (λ bs. record r { bytes = bs } ∷ rs) (put_none r.bytes (a - r.base))
    by_test false later = ap (λ z. r ∷ z) later
