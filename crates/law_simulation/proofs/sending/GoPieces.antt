-- Pieces of posted requests by their numbers, and the fence.
use Rattle.std.proofs.Common.{arith, ◌≡◌, ◌≤◌, ◌<◌, ◌+◌, ◌-◌, ◌/◌, ℕ, zero, suc, List, [], ◌∷◌, length, get_or, true, false, Bool, refl, sym, ap, ◌∙◌, subst, inl, inr}
use Rattle.std.specs.Prelude.{Some, max, drop, take, nat_lt, ◌⊎◌, if◌then◌else◌}
use Rattle.std.specs.List.{list_any}
use Rattle.std.proofs.lemmas.Bool.Decides.{nat_tests, leb_tells}
use Rattle.rdma_types.specs.Kinds.{is_atomic, kind_of, lands, size_of}
use Rattle.rdma_types.specs.Limits.{is_mtu}
use Rattle.rdma_types.specs.Objects.{Posted, no_posted}
use Rattle.rdma_types.specs.Spans.{Piece, pieces, span, span_of, first_number, next_landing, piece_at, request_of}
use Rattle.law_simulation.proofs.relation.Numbers.{span_positive}
use Rattle.law_simulation.proofs.sending.GoNumbers.{mtu_is}

-- ---- the piece of a number, among the untold requests and among all

pub piece_at-drop : (posted : List Posted) (mtu told r : ℕ) → piece_at posted mtu (first_number posted mtu told + r) ≡ piece_at (drop told posted) mtu r
unfolding piece_at first_number
piece_at-drop [] mtu zero r = refl
piece_at-drop [] mtu (suc told) r = refl
piece_at-drop (p ∷ posted) mtu zero r = let same : 0 + r ≡ r = omega arith in ap (piece_at (p ∷ posted) mtu) same
piece_at-drop (p ∷ posted) mtu (suc told) r =
    let less : (span_of p mtu + first_number posted mtu told) + r - span_of p mtu ≡ first_number posted mtu told + r = omega arith in
    let not_here : nat_lt ((span_of p mtu + first_number posted mtu told) + r) (span_of p mtu) ≡ false = grind (arith, nat_tests, leb_tells (suc ((span_of p mtu + first_number posted mtu told) + r)) (span_of p mtu)) in
    ap (λ b. if b then Some (record { posted = p; k = (span_of p mtu + first_number posted mtu told) + r }) else piece_at posted mtu ((span_of p mtu + first_number posted mtu told) + r - span_of p mtu)) not_here
    ∙ (ap (piece_at posted mtu) less ∙ piece_at-drop posted mtu told r)

-- the piece x of number n is of the request number i
pub record IsPieceAt (posted : List Posted) (mtu n i : ℕ) (x : Piece) : Type 0 where
  pub at : request_of posted mtu n ≡ i
  pub posted_is : get_or posted i no_posted ≡ x.posted
  pub within : x.k < span_of x.posted mtu
  pub first : n ≡ first_number posted mtu i + x.k
  pub next : first_number posted mtu (suc i) ≡ first_number posted mtu i + span_of x.posted mtu
  pub inside : i < length posted

same_piece : (a b : Piece) → Some a ≡ Some b → a ≡ b
same_piece a b h = cc

pub piece_is : (posted : List Posted) (mtu n : ℕ) (x : Piece) → piece_at posted mtu n ≡ Some x → (i : ℕ) × IsPieceAt posted mtu n i x
unfolding piece_at request_of first_number
piece_is [] mtu n x h = absurd (cc)
piece_is (p ∷ posted) mtu n x h = by_test (nat_lt n (span_of p mtu)) refl (piece_is posted mtu (n - span_of p mtu) x)
  where
    zero_first : (rs : List Posted) → first_number rs mtu 0 ≡ 0
    zero_first [] = refl
    zero_first (r ∷ rs) = refl

    by_test : (b : Bool) → nat_lt n (span_of p mtu) ≡ b → (piece_at posted mtu (n - span_of p mtu) ≡ Some x → (i : ℕ) × IsPieceAt posted mtu (n - span_of p mtu) i x) → (i : ℕ) × IsPieceAt (p ∷ posted) mtu n i x
    by_test true t later =
        let is : record { posted = p; k = n } ≡ x = same_piece _ _ (sym (ap (λ b. if b then Some (record { posted = p; k = n }) else piece_at posted mtu (n - span_of p mtu)) t) ∙ h) in (
          0,
          subst (IsPieceAt (p ∷ posted) mtu n 0) is (record {
            at = ap (λ b. if b then 0 else suc (request_of posted mtu (n - span_of p mtu))) t;
            posted_is = refl;
            within = grind (arith, nat_tests, leb_tells (suc n) (span_of p mtu), t);
            first = omega arith;
            next = omega (arith, zero_first posted);
            inside = omega arith;
          }),
        )
    by_test false t later =
        let found = later (sym (ap (λ b. if b then Some (record { posted = p; k = n }) else piece_at posted mtu (n - span_of p mtu)) t) ∙ h) in
        let past : span_of p mtu ≤ n = grind (arith, nat_tests, leb_tells (suc n) (span_of p mtu), t) in (
          suc found.0,
          record {
            at = ap (λ b. if b then 0 else suc (request_of posted mtu (n - span_of p mtu))) t ∙ ap suc found.1.at;
            posted_is = found.1.posted_is;
            within = found.1.within;
            first = omega (arith, found.1.first, past);
            next = omega (arith, found.1.next);
            inside = omega (arith, found.1.inside);
          },
        )

-- each request has a number
pub first_less : (posted : List Posted) (mtu i : ℕ) → i < length posted → first_number posted mtu i < first_number posted mtu (suc i)
unfolding first_number
first_less [] mtu i l = absurd (omega (arith, l))
first_less (p ∷ posted) mtu zero l = omega (arith, span_positive p mtu)
first_less (p ∷ posted) mtu (suc i) l = omega (arith, first_less posted mtu i (omega (arith, l)))

pub first-drop : (posted : List Posted) (mtu told i : ℕ) → told ≤ i → first_number posted mtu told + first_number (drop told posted) mtu (i - told) ≡ first_number posted mtu i
unfolding first_number
first-drop [] mtu zero i l = refl
first-drop [] mtu (suc told) i l = refl
first-drop (p ∷ posted) mtu zero i l = let same : i - 0 ≡ i = omega arith in omega (arith, ap (first_number (p ∷ posted) mtu) same)
first-drop (p ∷ posted) mtu (suc told) zero l = absurd (omega (arith, l))
first-drop (p ∷ posted) mtu (suc told) (suc i) l =
    let less : suc i - suc told ≡ i - told = omega arith in
    omega (arith, ap (first_number (drop told posted) mtu) less, first-drop posted mtu told i (omega (arith, l)))

-- ---- the barrier

none_taken : (test : Posted → Bool) (k : ℕ) → list_any test (take k []) ≡ false
none_taken test zero = refl
none_taken test (suc k) = refl

lands_soon : (ps : List Posted) (mtu j : ℕ) → list_any (λ r. lands (kind_of r)) (take j ps) ≡ true → next_landing ps mtu 0 < first_number ps mtu j
unfolding next_landing first_number
lands_soon [] mtu j h = absurd (cc (none_taken (λ r. lands (kind_of r)) j, h))
lands_soon (p ∷ ps) mtu zero h = absurd (cc)
lands_soon (p ∷ ps) mtu (suc j) h = grind (arith, nat_tests, leb_tells 1 (span_of p mtu), span_positive p mtu, lands_soon ps mtu j)

-- from a number of the first request on, where one of the first j requests lands, a landing comes before the next
pub lands_before_next : (ps : List Posted) (mtu r j : ℕ) → ((p : Posted) (rest : List Posted) → ps ≡ p ∷ rest → r < span_of p mtu) → list_any (λ r. lands (kind_of r)) (take j ps) ≡ true → next_landing ps mtu r < first_number ps mtu j
unfolding next_landing first_number
lands_before_next [] mtu r j first h = absurd (cc (none_taken (λ r. lands (kind_of r)) j, h))
lands_before_next (p ∷ ps) mtu r zero first h = absurd (cc)
lands_before_next (p ∷ ps) mtu r (suc j) first h = grind (arith, nat_tests, leb_tells (suc r) (span_of p mtu), first p ps refl, lands_soon ps mtu j)

-- bytes known of a request are of one of its pieces
known_piece : (size mtu known : ℕ) → is_mtu mtu ≡ true → known < size → known / mtu < max 1 ((size + (mtu - 1)) / mtu)
known_piece size mtu known h l = mtu_is (λ k. known / k < max 1 ((size + (k - 1)) / k)) (omega (arith, l)) (omega (arith, l)) (omega (arith, l)) (omega (arith, l)) (omega (arith, l)) mtu h

zero_piece : (mtu : ℕ) → is_mtu mtu ≡ true → 0 / mtu ≡ 0
zero_piece mtu h = mtu_is (λ k. 0 / k ≡ 0) refl refl refl refl refl mtu h

pub known_within : (r : Posted) (mtu known : ℕ) → is_mtu mtu ≡ true → (is_atomic (kind_of r) ≡ true → known ≡ 0) → (known ≡ 0) ⊎ (known < size_of r) → known / mtu < span_of r mtu
unfolding span pieces
known_within r mtu known h whole (inl e) = omega (arith, span_positive r mtu, ap (λ k. k / mtu) e, zero_piece mtu h)
known_within r mtu known h whole (inr l) = by_kind (is_atomic r.request.shape.kind) refl
  where
    by_kind : (b : Bool) → is_atomic r.request.shape.kind ≡ b → known / mtu < (if is_atomic r.request.shape.kind then 1 else max 1 ((r.request.shape.length + (mtu - 1)) / mtu))
    by_kind true t = rw t (omega (arith, ap (λ k. k / mtu) (whole t), zero_piece mtu h))
    by_kind false t = rw t (known_piece r.request.shape.length mtu known h l)

pub head_dropped : (posted : List Posted) (told : ℕ) (p : Posted) (rest : List Posted) → drop told posted ≡ p ∷ rest → get_or posted told no_posted ≡ p
head_dropped [] zero p rest h = absurd (cc)
head_dropped [] (suc told) p rest h = absurd (cc)
head_dropped (x ∷ posted) zero p rest h = cc
head_dropped (x ∷ posted) (suc told) p rest h = head_dropped posted told p rest h
