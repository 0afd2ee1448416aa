-- The numbers of a requester stay in order.
use Rattle.std.proofs.Common.{arith, ◌≡◌, ◌≢◌, ◌⊎◌, ◌≤◌, ◌<◌, ◌+◌, ◌-◌, ℕ, zero, suc, List, [], ◌∷◌, ◌++◌, length, drop, true, false, Bool, refl, sym, ap, ◌∙◌, inl, inr, ⊎_elim, subst, add-one}
use Rattle.std.specs.Prelude.{Option, Some, None, slice_get, max, min, nat_lt, nat_le, if◌then◌else◌, not, ◌==◌, ◌&&◌}
use Rattle.std.proofs.lemmas.Bool.{cases_lt, cases_eq}
use Rattle.std.proofs.lemmas.Bool.Decides.{nat_tests}
use Rattle.std.proofs.lemmas.Option.{slice_get_within}
use Rattle.rdma_types.specs.Kinds.{is_read, kind_of, lands}
use Rattle.rdma_types.specs.Limits.{number_limit}
use Rattle.rdma_types.proofs.Numbers as numbers
use Rattle.rdma_types.specs.Objects.{Posted}
use Rattle.rdma_types.specs.Spans.{Piece, end_number, first_number, next_landing, piece_at, piece_of, request_of, span, span_of}
use Rattle.protocol.specs.Requester.{is_inside_read}
use Rattle.protocol.proofs.SentPieces.{past_outside, past_piece}
use Rattle.rdma_types.proofs.Places.{end-push, first-push, first-suc, first-zero, first_within, piece-push, piece_ends, piece_pushed, request_of_piece, span_inside, span_positive}
use Rattle.law_devices.specs.Sound.{AreSoundNumbers, IsInFirst, LandsBefore}

-- ---- a rewind, and a failed end

pub rewinds : (mtu : ℕ) (us : List Posted) (first una next top : ℕ) → AreSoundNumbers mtu us first una next top → AreSoundNumbers mtu us first una una top
rewinds mtu us first una next top h = record {
  first_una = h.first_una;
  una_next = omega arith;
  next_top = omega (arith, h.una_next, h.next_top);
  top_end = h.top_end;
  limit = h.limit;
  whole_reads = λ lt. absurd (omega (arith, lt));
  fenced = h.fenced;
}

nothing_sent : (mtu n : ℕ) → end_number [] mtu ≡ 0
unfolding end_number
nothing_sent mtu n = refl

pub empties : (mtu n : ℕ) → n < number_limit → AreSoundNumbers mtu [] n n n n
empties mtu n below = let none = nothing_sent mtu n in record {
  first_una = omega arith;
  una_next = omega arith;
  next_top = omega arith;
  top_end = omega arith;
  limit = omega (arith, below, none);
  whole_reads = λ lt. absurd (omega (arith, lt));
  fenced = λ i p there. absurd (cc);
}

-- ---- one more request

-- a Read or atomic before an earlier request stood before it already
lands_earlier : (us : List Posted) (p : Posted) (i : ℕ) → i ≤ length us → LandsBefore (us ++ p ∷ []) i → LandsBefore us i
lands_earlier us p i within l = record { j = l.j; posted = l.posted; before = l.before; there = kept us l.j (omega (arith, l.before, within)) l.there; landing = l.landing }
  where
    kept : (ps : List Posted) (j : ℕ) → j < length ps → slice_get (ps ++ p ∷ []) j ≡ Some l.posted → slice_get ps j ≡ Some l.posted
    kept [] j below h = absurd (omega (arith, below))
    kept (q ∷ ps) zero below h = h
    kept (q ∷ ps) (suc j) below h = kept ps j (omega (arith, below)) h

-- what stands in a list with one more is the new thing at the end, or stood there
pub pushed_at : {A : Type 0} (xs : List A) (x y : A) (i : ℕ) → slice_get (xs ++ x ∷ []) i ≡ Some y → ((i ≡ length xs) × (x ≡ y)) ⊎ ((i < length xs) × (slice_get xs i ≡ Some y))
pushed_at [] x y zero h = inl (refl, cc)
pushed_at [] x y (suc i) h = absurd (cc)
pushed_at (z ∷ zs) x y zero h = inr (omega arith, h)
pushed_at (z ∷ zs) x y (suc i) h = elim (pushed_at zs x y i h) [
  | inl e ↦ inl (omega (arith, e.0), e.1)
  | inr e ↦ inr (omega (arith, e.0), e.1)
]

pub posts : (mtu : ℕ) (us : List Posted) (first una next top : ℕ) (p : Posted) → AreSoundNumbers mtu us first una next top → first + end_number us mtu + span_of p mtu < number_limit → AreSoundNumbers mtu (us ++ p ∷ []) first una next top
posts mtu us first una next top p h below = let more = end-push us mtu p in record {
  first_una = h.first_una;
  una_next = h.una_next;
  next_top = h.next_top;
  top_end = omega (arith, h.top_end, more);
  limit = omega (arith, below, more);
  whole_reads = λ lt. elim (cases_lt (next - first) (end_number us mtu)) [
    | inl l ↦ ap is_inside_read (piece-push us mtu (next - first) p l) ∙ h.whole_reads lt
    | inr l ↦
        let e : next - first ≡ end_number us mtu = omega (arith, l, h.next_top, h.top_end) in
        ap (λ n. is_inside_read (piece_at (us ++ p ∷ []) mtu n)) e ∙ (ap is_inside_read (piece_pushed us mtu p) ∙ at_start (is_read (kind_of p)))
  ];
  fenced = λ i q there fence l. elim (pushed_at us p q i there) [
    | inl e ↦
        let f = first-push us mtu i p (omega (arith, e.0)) in
        let g : first_number us mtu i ≡ end_number us mtu = ap (first_number us mtu) e.0 ∙ numbers.ends us mtu in
        omega (arith, f, g, h.top_end)
    | inr e ↦
        let f = first-push us mtu i p (omega (arith, e.0)) in
        let g = h.fenced i q e.1 fence (lands_earlier us p i (omega (arith, e.0)) l) in
        omega (arith, f, g)
  ];
}
  where
    at_start : (b : Bool) → (b && false) ≡ false
    at_start true = refl
    at_start false = refl

-- where nothing was untold the oldest number is the first
pub posts_first : (mtu : ℕ) (us : List Posted) (first una next top : ℕ) (p : Posted) → AreSoundNumbers mtu us first una next top → IsInFirst mtu us first una → IsInFirst mtu (us ++ p ∷ []) first una
posts_first mtu [] first una next top p h old q there =
    let same : p ≡ q = cc in
    let none = nothing_sent mtu first in
    let some = span_positive q.request.shape mtu in
    omega (arith, h.first_una, h.una_next, h.next_top, h.top_end, none, some)
posts_first mtu (r ∷ us) first una next top p h old q there = old q there

-- ---- a piece is sent

pub first_mono : (us : List Posted) (mtu i j : ℕ) → i ≤ j → first_number us mtu i ≤ first_number us mtu j
unfolding first_number
first_mono [] mtu i j l = omega arith
first_mono (r ∷ us) mtu zero j l = omega arith
first_mono (r ∷ us) mtu (suc i) zero l = absurd (omega (arith, l))
first_mono (r ∷ us) mtu (suc i) (suc j) l = omega (arith, first_mono us mtu i j (omega (arith, l)))

-- from a number of the first request on, the first landing is before the request that one stands before
lands_before : (us : List Posted) (mtu r i j : ℕ) (p : Posted) → ((q : Posted) → slice_get us 0 ≡ Some q → r < span_of q mtu) → j < i → slice_get us j ≡ Some p → lands (kind_of p) ≡ true → next_landing us mtu r < first_number us mtu i
unfolding next_landing first_number
lands_before [] mtu r i j p first before there landing = absurd (cc)
lands_before (q ∷ us) mtu r zero j p first before there landing = absurd (omega (arith, before))
lands_before (q ∷ us) mtu r (suc i) zero p first before there landing =
    let same : q ≡ p = cc in
    let lands_here : lands (kind_of q) ≡ true = ap (λ (z : Posted). lands (kind_of z)) same ∙ landing in
    grind (arith, nat_tests, first q refl, lands_here)
lands_before (q ∷ us) mtu r (suc i) (suc j) p first before there landing =
    let later = lands_before us mtu 0 i j p (λ z e. span_positive z.request.shape mtu) (omega (arith, before)) there landing in
    grind (arith, nat_tests, first q refl, later)

-- the request of a piece
pub record PieceOf (us : List Posted) (mtu n : ℕ) (x : Piece) : Type 0 where
  pub i : ℕ
  pub there : slice_get us i ≡ Some x.posted
  pub number : first_number us mtu i + x.k ≡ n
  pub below : x.k < span_of x.posted mtu
  pub more : first_number us mtu (suc i) ≡ first_number us mtu i + span_of x.posted mtu

pub piece_of_request : (us : List Posted) (mtu n : ℕ) (x : Piece) → piece_at us mtu n ≡ Some x → PieceOf us mtu n x
piece_of_request us mtu n x h =
    let there = request_of_piece us mtu n x h in
    let is : record { posted = x.posted; k = piece_of us mtu n } ≡ x = cc (numbers.found us mtu n x.posted there, h) in
    let k : piece_of us mtu n ≡ x.k = ap (λ (y : Piece). y.k) is in
    record {
      i = request_of us mtu n;
      there = there;
      number = omega (arith, numbers.split us mtu n, k);
      below = omega (arith, numbers.piece_below us mtu n x.posted there, k);
      more = first-suc us mtu (request_of us mtu n) x.posted there;
    }

-- `next` goes past the piece, and not past its request
past_within : (b : Bool) (n k span : ℕ) → k ≤ n → k < span → ((if b then (n - k) + span else n + 1) ≤ (n - k) + span) × (n < (if b then (n - k) + span else n + 1))
past_within true n k span le lt = (omega (arith, le, lt), omega (arith, le, lt))
past_within false n k span le lt = (omega (arith, le, lt), omega (arith, le, lt))

past_shift : (b : Bool) (next first k span : ℕ) → first ≤ next → k ≤ next - first → (if b then (next - k) + span else next + 1) - first ≡ (if b then (next - first - k) + span else next - first + 1)
past_shift true next first k span le lt = omega (arith, le, lt)
past_shift false next first k span le lt = omega (arith, le, lt)

pub sends : (mtu : ℕ) (us : List Posted) (first una next top : ℕ) (x : Piece) → AreSoundNumbers mtu us first una next top → IsInFirst mtu us first una → piece_at us mtu (next - first) ≡ Some x
    → (x.posted.request.fence ≡ true → x.k ≡ 0 → next ≤ first + next_landing us mtu (una - first))
    → AreSoundNumbers mtu us first una (past_piece mtu next x) (max top (past_piece mtu next x))
sends mtu us first una next top x h old piece free =
    let at = piece_of_request us mtu (next - first) x piece in
    let bounds = past_within (is_read (kind_of x.posted)) next x.k (span_of x.posted mtu) (omega (arith, at.number, h.first_una, h.una_next)) at.below in
    let end = span_inside us mtu at.i x.posted at.there in
    record {
      first_una = h.first_una;
      una_next = omega (arith, h.una_next, bounds.1);
      next_top = omega arith;
      top_end = omega (arith, h.top_end, bounds.0, end, at.number, h.first_una, h.una_next);
      limit = h.limit;
      whole_reads = λ lt. ap (λ n. is_inside_read (piece_at us mtu n)) (past_shift (is_read (kind_of x.posted)) next first x.k (span_of x.posted mtu) (omega (arith, h.first_una, h.una_next)) (omega (arith, at.number))) ∙ past_outside us mtu (next - first) x piece;
      fenced = λ j q there fence l.
          let before = h.fenced j q there fence l in
          elim (cases_lt at.i j) [
            | inl lt ↦
                let later = first_mono us mtu (suc at.i) j (omega (arith, lt)) in
                omega (arith, before, later, at.more, at.number, bounds.0, h.first_una, h.una_next)
            | inr le ↦ absurd (here at bounds j q there fence l before le)
          ];
    }
  where
    here : (at : PieceOf us mtu (next - first) x) → ((past_piece mtu next x ≤ (next - x.k) + span_of x.posted mtu) × (next < past_piece mtu next x)) → (j : ℕ) (q : Posted) → slice_get us j ≡ Some q → q.request.fence ≡ true → LandsBefore us j → top ≤ first + first_number us mtu j → j ≤ at.i → ⊥
    here at bounds j q there fence l before le = elim (cases_lt j at.i) [
      | inl lt ↦
          let later = first_mono us mtu (suc j) at.i (omega (arith, lt)) in
          let mine = first-suc us mtu j q there in
          let some = span_positive q.request.shape mtu in
          omega (arith, before, later, mine, some, at.number, h.next_top, h.first_una, h.una_next)
      | inr ge ↦
          let same_place : at.i ≡ j = omega (arith, le, ge) in
          let same : x.posted ≡ q = cc (sym at.there ∙ ap (slice_get us) same_place, there) in
          let number : first_number us mtu at.i ≡ first_number us mtu j = ap (first_number us mtu) same_place in
          let fence' : x.posted.request.fence ≡ true = ap (λ (z : Posted). z.request.fence) same ∙ fence in
          let start : x.k ≡ 0 = omega (arith, before, number, at.number, h.next_top, h.first_una, h.una_next) in
          let landing = lands_before us mtu (una - first) j l.j l.posted (λ z e. omega (arith, old z e, h.first_una)) l.before l.there l.landing in
          omega (arith, landing, free fence' start, number, at.number, start, h.first_una, h.una_next)
    ]

-- ---- numbers are acknowledged, and requests are told

pub advances : (mtu : ℕ) (us : List Posted) (first una next top n : ℕ) → AreSoundNumbers mtu us first una next top → una < n → n ≤ top → AreSoundNumbers mtu us first n (max next n) top
advances mtu us first una next top n h above within = record {
  first_una = omega (arith, h.first_una, above);
  una_next = omega arith;
  next_top = omega (arith, h.next_top, within);
  top_end = h.top_end;
  limit = h.limit;
  whole_reads = λ lt.
      let same : max next n ≡ next = omega (arith, lt) in
      ap (λ m. is_inside_read (piece_at us mtu (m - first))) same ∙ h.whole_reads (omega (arith, lt, above));
  fenced = h.fenced;
}

dropped_at : {A : Type 0} (xs : List A) (k i : ℕ) → slice_get (drop k xs) i ≡ slice_get xs (k + i)
dropped_at [] zero i = refl
dropped_at [] (suc k) i = refl
dropped_at (x ∷ xs) zero i = let e : 0 + i ≡ i = omega arith in ap (slice_get (x ∷ xs)) (sym e)
dropped_at (x ∷ xs) (suc k) i = let e : suc k + i ≡ suc (k + i) = omega arith in dropped_at xs k i ∙ ap (slice_get (x ∷ xs)) (sym e)

first-drop : (us : List Posted) (mtu k i : ℕ) → first_number us mtu k + first_number (drop k us) mtu i ≡ first_number us mtu (k + i)
unfolding first_number
first-drop [] mtu zero i = refl
first-drop [] mtu (suc k) i = refl
first-drop (p ∷ us) mtu zero i = let e : 0 + i ≡ i = omega arith in omega (arith, ap (first_number (p ∷ us) mtu) e)
first-drop (p ∷ us) mtu (suc k) i = let e : suc k + i ≡ suc (k + i) = omega arith in let later = first-drop us mtu k i in omega (arith, later, ap (first_number (p ∷ us) mtu) e)

pub end-drop : (us : List Posted) (mtu k : ℕ) → first_number us mtu k + end_number (drop k us) mtu ≡ end_number us mtu
unfolding first_number end_number
end-drop [] mtu zero = refl
end-drop [] mtu (suc k) = refl
end-drop (p ∷ us) mtu zero = omega arith
end-drop (p ∷ us) mtu (suc k) = omega (arith, end-drop us mtu k)

piece_at-drop : (us : List Posted) (mtu k r : ℕ) → piece_at us mtu (first_number us mtu k + r) ≡ piece_at (drop k us) mtu r
unfolding piece_at first_number
piece_at-drop [] mtu zero r = refl
piece_at-drop [] mtu (suc k) r = refl
piece_at-drop (p ∷ us) mtu zero r = let same : 0 + r ≡ r = omega arith in ap (piece_at (p ∷ us) mtu) same
piece_at-drop (p ∷ us) mtu (suc k) r =
    let less : (span_of p mtu + first_number us mtu k) + r - span_of p mtu ≡ first_number us mtu k + r = omega arith in
    let not_here : nat_lt ((span_of p mtu + first_number us mtu k) + r) (span_of p mtu) ≡ false = grind (arith, nat_tests) in
    ap (λ b. if b then Some (record { posted = p; k = (span_of p mtu + first_number us mtu k) + r }) else piece_at us mtu ((span_of p mtu + first_number us mtu k) + r - span_of p mtu)) not_here
    ∙ (ap (piece_at us mtu) less ∙ piece_at-drop us mtu k r)

lands_dropped : (us : List Posted) (k i : ℕ) → LandsBefore (drop k us) i → LandsBefore us (k + i)
lands_dropped us k i l = record { j = k + l.j; posted = l.posted; before = omega (arith, l.before); there = sym (dropped_at us k l.j) ∙ l.there; landing = l.landing }

pub tells : (mtu : ℕ) (us : List Posted) (first una next top k : ℕ) → AreSoundNumbers mtu us first una next top → first_number us mtu k ≤ una - first → AreSoundNumbers mtu (drop k us) (first + first_number us mtu k) una next top
tells mtu us first una next top k h le = let end = end-drop us mtu k in record {
  first_una = omega (arith, h.first_una, le);
  una_next = h.una_next;
  next_top = h.next_top;
  top_end = omega (arith, h.top_end, end);
  limit = omega (arith, h.limit, end);
  whole_reads = λ lt.
      let place : first_number us mtu k + (next - (first + first_number us mtu k)) ≡ next - first = omega (arith, h.first_una, le, lt) in
      ap is_inside_read (sym (piece_at-drop us mtu k (next - (first + first_number us mtu k))) ∙ ap (piece_at us mtu) place) ∙ h.whole_reads lt;
  fenced = λ i p there fence l.
      let f = first-drop us mtu k i in
      let before = h.fenced (k + i) p (sym (dropped_at us k i) ∙ there) fence (lands_dropped us k i l) in
      omega (arith, f, before);
}

pub told_within : (us : List Posted) (mtu n : ℕ) → first_number us mtu (request_of us mtu n) ≤ n
told_within us mtu n = omega (arith, numbers.split us mtu n)

pub tells_first : (mtu : ℕ) (us : List Posted) (first una : ℕ) → first ≤ una → IsInFirst mtu (drop (request_of us mtu (una - first)) us) (first + first_number us mtu (request_of us mtu (una - first))) una
tells_first mtu us first una le p there =
    let zero' : request_of us mtu (una - first) + 0 ≡ request_of us mtu (una - first) = omega arith in
    let at : slice_get us (request_of us mtu (una - first)) ≡ Some p = sym (ap (slice_get us) zero') ∙ (sym (dropped_at us (request_of us mtu (una - first)) 0) ∙ there) in
    omega (arith, numbers.split us mtu (una - first), numbers.piece_below us mtu (una - first) p at, le)
