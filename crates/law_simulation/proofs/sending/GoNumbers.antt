-- Packet numbers of an end: what is posted and untold has few of them.
use Rattle.std.proofs.Common.{arith, ◌≡◌, ◌≤◌, ◌<◌, ◌+◌, ◌-◌, ◌*◌, ◌/◌, ◌^◌, ◌||◌, ℕ, zero, suc, List, [], ◌∷◌, length, get_or, true, false, Bool, refl, sym, ap, ◌∙◌, subst, inl, inr}
use Rattle.std.specs.Prelude.{max, drop, if◌then◌else◌}
use Rattle.std.proofs.lemmas.Bool.Decides.{eqb_tells}
use Rattle.rdma_types.specs.Kinds.{is_atomic, size_of}
use Rattle.rdma_types.specs.Limits.{is_mtu, most_bytes}
use Rattle.rdma_types.specs.Objects.{Posted, no_posted}
use Rattle.rdma_types.specs.Spans.{pieces, span, span_of, first_number, end_number}
use Rattle.packetless_machine.specs.Machine.{End, untold_count}
use Rattle.packetless_machine.specs.Numbers.{due, oldest}
use Rattle.packetless_machine.specs.Sound.{IsSound}
use Rattle.law_simulation.proofs.relation.Numbers.{first-rest}

-- ---- one of the five MTUs

not_first : (a b : Bool) → a ≡ false → (a || b) ≡ true → b ≡ true
not_first a b h t = ap (λ z. z || b) (sym h) ∙ t

pub mtu_is : (P : ℕ → Type 0) → P 256 → P 512 → P 1024 → P 2048 → P 4096 → (n : ℕ) → is_mtu n ≡ true → P n
mtu_is P a b c d e n h = elim (eqb_tells n 256) [
  | inl t ↦ subst P (sym t.1) a
  | inr t ↦ elim (eqb_tells n 512) [
    | inl u ↦ subst P (sym u.1) b
    | inr u ↦ elim (eqb_tells n 1024) [
      | inl v ↦ subst P (sym v.1) c
      | inr v ↦ elim (eqb_tells n 2048) [
        | inl x ↦ subst P (sym x.1) d
        | inr x ↦ elim (eqb_tells n 4096) [
          | inl y ↦ subst P (sym y.1) e
          | inr y ↦ absurd (cc (not_first _ _ x.0 (not_first _ _ v.0 (not_first _ _ u.0 (not_first _ _ t.0 h))), y.0))
        ]
      ]
    ]
  ]
]

pub mtu_positive : (n : ℕ) → is_mtu n ≡ true → 0 < n
mtu_positive n h = mtu_is (λ k. 0 < k) (omega arith) (omega arith) (omega arith) (omega arith) (omega arith) n h

pub mtu_small : (n : ℕ) → is_mtu n ≡ true → n ≤ 4096
mtu_small n h = mtu_is (λ k. k ≤ 4096) (omega arith) (omega arith) (omega arith) (omega arith) (omega arith) n h

few_pieces : (size mtu : ℕ) → is_mtu mtu ≡ true → size ≤ 1048576 → max 1 ((size + (mtu - 1)) / mtu) ≤ 4096
few_pieces size mtu h small = mtu_is (λ k. max 1 ((size + (k - 1)) / k) ≤ 4096) (omega (arith, small)) (omega (arith, small)) (omega (arith, small)) (omega (arith, small)) (omega (arith, small)) mtu h

pub span_small : (r : Posted) (mtu : ℕ) → is_mtu mtu ≡ true → size_of r ≤ most_bytes → span_of r mtu ≤ 4096
unfolding span pieces
span_small r mtu h small = by_kind (is_atomic r.request.shape.kind)
  where
    by_kind : (b : Bool) → (if b then 1 else max 1 ((r.request.shape.length + (mtu - 1)) / mtu)) ≤ 4096
    by_kind true = omega arith
    by_kind false = few_pieces r.request.shape.length mtu h small

-- requests from a place on have few numbers
pub rest_small : (posted : List Posted) (mtu told : ℕ) → is_mtu mtu ≡ true → ((i : ℕ) → i < length posted → size_of (get_or posted i no_posted) ≤ most_bytes) → end_number (drop told posted) mtu ≤ 4096 * (length posted - told)
unfolding end_number
rest_small [] mtu zero h sizes = omega arith
rest_small [] mtu (suc told) h sizes = omega arith
rest_small (r ∷ posted) mtu zero h sizes =
    let here : span_of r mtu ≤ 4096 = span_small r mtu h (sizes 0 (omega arith)) in
    let rest : end_number posted mtu ≤ 4096 * (length posted - 0) = rest_small posted mtu zero h (λ i l. sizes (suc i) (omega (arith, l))) in
    omega (arith, here, rest)
rest_small (r ∷ posted) mtu (suc told) h sizes = omega (arith, rest_small posted mtu told h (λ i l. sizes (suc i) (omega (arith, l))))

-- ---- first numbers

pub first_mono : (posted : List Posted) (mtu i j : ℕ) → i ≤ j → first_number posted mtu i ≤ first_number posted mtu j
unfolding first_number
first_mono [] mtu i j l = omega arith
first_mono (r ∷ posted) mtu zero j l = omega arith
first_mono (r ∷ posted) mtu (suc i) zero l = absurd (omega (arith, l))
first_mono (r ∷ posted) mtu (suc i) (suc j) l = omega (arith, first_mono posted mtu i j (omega (arith, l)))

pub first_past : (posted : List Posted) (mtu i : ℕ) → length posted ≤ i → first_number posted mtu i ≡ end_number posted mtu
unfolding first_number end_number
first_past [] mtu i l = refl
first_past (r ∷ posted) mtu zero l = absurd (omega (arith, l))
first_past (r ∷ posted) mtu (suc i) l = ap (λ k. span_of r mtu + k) (first_past posted mtu i (omega (arith, l)))

-- the end of the numbers is near the number that acts next
pub end_near : (q : End) → IsSound q → is_mtu q.mtu ≡ true → q.ended ≡ false → q.send_depth ≤ 256 → end_number q.posted q.mtu ≤ due q + 2 ^ 20
unfolding due untold_count
end_near q s mtu alive depth =
    let few : end_number (drop q.told q.posted) q.mtu ≤ 4096 * (length q.posted - q.told) = rest_small q.posted q.mtu q.told mtu s.sizes in
    let before : first_number q.posted q.mtu q.told ≤ first_number q.posted q.mtu q.acted = first_mono q.posted q.mtu q.told q.acted (s.told_acted alive) in
    omega (arith, few, before, first-rest q.posted q.mtu q.told s.told_posted, s.depth, depth)

-- where a number is not known yet, a request is untold
pub some_untold : (q : End) (n : ℕ) → oldest q < n → n ≤ end_number q.posted q.mtu → q.told < length q.posted
unfolding oldest
some_untold q n below within = by_order (length q.posted - q.told) refl
  where
    by_order : (k : ℕ) → length q.posted - q.told ≡ k → q.told < length q.posted
    by_order zero h = absurd (omega (arith, below, within, first_past q.posted q.mtu q.told (omega (arith, h))))
    by_order (suc k) h = omega (arith, h)
