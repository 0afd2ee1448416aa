-- The numbers, and the bytes, of the rest of a Read.
use Rattle.std.proofs.Common.{arith, ◌≡◌, ◌<◌, ◌≤◌, ◌+◌, ◌-◌, ◌*◌, ◌/◌, ◌%◌, ℕ, zero, suc, List, [], ◌∷◌, length, true, false, Bool, refl, ap, ◌∙◌, subst}
use Rattle.std.specs.Prelude.{nat_lt, max}
use Rattle.std.proofs.lemmas.Bool.Decides.{nat_tests, leb_tells}
use Rattle.rdma_types.specs.Kinds.{is_read, kind_of, lands}
use Rattle.rdma_types.specs.Limits.{is_mtu}
use Rattle.rdma_types.specs.Objects.{Posted}
use Rattle.rdma_types.specs.Spans.{first_number, request_of, pieces}
use Rattle.rdma_types.proofs.Numbers.{split}
use Rattle.packetless_machine.specs.Machine.{End, posted_at}
use Rattle.packetless_machine.specs.Numbers.{due}
use Rattle.packetless_machine.specs.Sound.{IsSound}
use Rattle.packetless_machine.specs.Steps.{current}
use Rattle.law_simulation.proofs.requests.Due.{mtu_is}
use Rattle.law_simulation.proofs.requests.Pieces.{first_suc}
use Rattle.law_simulation.proofs.requests.Expected.{current_within}
use Rattle.law_simulation.proofs.requests.ReadTurns.{read_kind}

-- ---- pieces, by the five payload sizes

-- the rest from piece k on has the rest of the pieces
pub pieces_rest : (size mtu k : ℕ) → is_mtu mtu ≡ true → k < pieces size mtu → pieces (size - k * mtu) mtu ≡ pieces size mtu - k
unfolding pieces
pieces_rest size mtu k one =
    mtu_is (λ z. k < max 1 ((size + (z - 1)) / z) → max 1 (((size - k * z) + (z - 1)) / z) ≡ max 1 ((size + (z - 1)) / z) - k)
    (λ h. omega (arith, h)) (λ h. omega (arith, h)) (λ h. omega (arith, h)) (λ h. omega (arith, h)) (λ h. omega (arith, h)) mtu one

pub later_place : (mtu k j : ℕ) → is_mtu mtu ≡ true → k ≤ j → k * mtu ≤ j * mtu
later_place mtu k j one low = mtu_is (λ z. k * z ≤ j * z) (omega (arith, low)) (omega (arith, low)) (omega (arith, low)) (omega (arith, low)) (omega (arith, low)) mtu one

pub places_add : (mtu k j : ℕ) → is_mtu mtu ≡ true → (k + j) * mtu ≡ k * mtu + j * mtu
places_add mtu k j one = mtu_is (λ z. (k + j) * z ≡ k * z + j * z) (omega arith) (omega arith) (omega arith) (omega arith) (omega arith) mtu one

-- the address of a piece is an address
pub place_small : (remote size mtu k : ℕ) → is_mtu mtu ≡ true → k < pieces size mtu → remote < 18446744073709551616 → remote + size ≤ 18446744073709551616 → remote + k * mtu < 18446744073709551616
unfolding pieces
place_small remote size mtu k one within small ends =
    mtu_is (λ z. k < max 1 ((size + (z - 1)) / z) → remote + k * z < 18446744073709551616)
    (λ h. omega (arith, h, small, ends)) (λ h. omega (arith, h, small, ends)) (λ h. omega (arith, h, small, ends)) (λ h. omega (arith, h, small, ends)) (λ h. omega (arith, h, small, ends)) mtu one within

pub small_same : (n : ℕ) → n < 18446744073709551616 → n % 18446744073709551616 ≡ n
small_same n h = omega (arith, h)

-- ---- numbers before the one that acts next

pub first_up : (posted : List Posted) (mtu i j : ℕ) → i ≤ j → first_number posted mtu i ≤ first_number posted mtu j
unfolding first_number
first_up [] mtu i j h = omega arith
first_up (p ∷ posted) mtu zero j h = omega arith
first_up (p ∷ posted) mtu (suc i) zero h = absurd (omega (arith, h))
first_up (p ∷ posted) mtu (suc i) (suc j) h = omega (arith, first_up posted mtu i j (omega (arith, h)))

-- a Read with a number before the one that acts next had its turn
module _ (g : End) (n : ℕ) (one : is_mtu g.mtu ≡ true) (sound : IsSound g) (inside : request_of g.posted g.mtu n < length g.posted) (before : n < due g) (read : is_read (kind_of (posted_at g.posted (request_of g.posted g.mtu n))) ≡ true) where
  abbrev i : ℕ
  i = request_of g.posted g.mtu n

  low : first_number g.posted g.mtu i ≤ n
  low = omega (arith, split g.posted g.mtu n)

  by_place : g.acted ≤ i → (b : Bool) → nat_lt g.acted i ≡ b → ⊥
  unfolding due
  by_place past true t =
      let further : suc g.acted ≤ i = grind (arith, nat_tests, leb_tells (suc g.acted) i, t) in
      omega (arith, low, before, first_up g.posted g.mtu (suc g.acted) i further, first_suc g.posted g.mtu g.acted (omega (arith, past, inside)), current_within g one sound)
  by_place past false t =
      let not_past : i ≤ g.acted = grind (arith, nat_tests, leb_tells (suc g.acted) i, t) in
      let same : i ≡ g.acted = omega (arith, past, not_past) in
      let is : is_read (kind_of (current g)) ≡ true = subst (λ k. is_read (kind_of (posted_at g.posted k)) ≡ true) same read in
      let none : g.into ≡ 0 = sound.whole_turns (ap lands (read_kind (kind_of (current g)) is)) in
      let no_piece : g.into / g.mtu ≡ 0 = ap (λ k. k / g.mtu) none ∙ mtu_is (λ k. 0 / k ≡ 0) (omega arith) (omega arith) (omega arith) (omega arith) (omega arith) g.mtu one in
      omega (arith, low, before, no_piece, ap (first_number g.posted g.mtu) same)

  by_test : (b : Bool) → nat_lt i g.acted ≡ b → i < g.acted
  by_test true t = grind (arith, nat_tests, leb_tells (suc i) g.acted, t)
  by_test false t = absurd (by_place (grind (arith, nat_tests, leb_tells (suc i) g.acted, t)) (nat_lt g.acted i) refl)

  pub read_before : i < g.acted
  read_before = by_test (nat_lt i g.acted) refl

-- .. with all its numbers
pub all_before : (g : End) (i : ℕ) → i < g.acted → first_number g.posted g.mtu (suc i) ≤ due g
unfolding due
all_before g i h = omega (arith, first_up g.posted g.mtu (suc i) g.acted (omega (arith, h)))
