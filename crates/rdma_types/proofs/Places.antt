-- Places in a list of requests, and the numbers before them.
use Rattle.std.proofs.Common.{arith, ◌≡◌, ◌<◌, ◌≤◌, ◌+◌, ◌-◌, ℕ, zero, suc, List, [], ◌∷◌, ◌++◌, length, Bool, true, false, refl, sym, ap, ◌∙◌}
use Rattle.std.specs.Prelude.{Some, None, slice_get, nat_lt, if◌then◌else◌}
use Rattle.std.proofs.lemmas.Bool.Decides.{nat_tests}
use Rattle.rdma_types.specs.declared.requests.Shape.{Shape}
use Rattle.rdma_types.specs.Objects.{Posted}
use Rattle.rdma_types.specs.Kinds.{is_atomic, kind_of, lands}
use Rattle.rdma_types.specs.Spans.{Piece, end_number, first_number, next_landing, piece_at, pieces, request_of, span, span_of}

-- a request has a number
pub span_positive : (s : Shape) (mtu : ℕ) → 0 < span s mtu
unfolding span pieces
span_positive s mtu = elim (is_atomic s.kind) as (λ b. 0 < (if b then 1 else pieces s.length mtu)) [ true ↦ omega arith | false ↦ omega arith ]

-- .. and no more than its message has pieces
pub span_within : (s : Shape) (mtu : ℕ) → span s mtu ≤ pieces s.length mtu
unfolding span pieces
span_within s mtu = elim (is_atomic s.kind) as (λ b. (if b then 1 else pieces s.length mtu) ≤ pieces s.length mtu) [ true ↦ omega arith | false ↦ omega arith ]

-- ---- marks

-- the numbers before the next request are this one's more
pub first-suc : (ps : List Posted) (mtu i : ℕ) (p : Posted) → slice_get ps i ≡ Some p → first_number ps mtu (suc i) ≡ first_number ps mtu i + span_of p mtu
unfolding first_number
first-suc [] mtu i p h = absurd (cc)
first-suc (q ∷ ps) mtu zero p h =
    let same : q ≡ p = cc in
    none ps ∙ ap (λ r. 0 + span_of r mtu) same
  where
    none : (rs : List Posted) → span_of q mtu + first_number rs mtu zero ≡ 0 + span_of q mtu
    none [] = omega arith
    none (r ∷ rs) = omega arith
first-suc (q ∷ ps) mtu (suc i) p h = let later = first-suc ps mtu i p h in omega (arith, later)

-- no request begins past the end
pub first_within : (ps : List Posted) (mtu i : ℕ) → first_number ps mtu i ≤ end_number ps mtu
unfolding first_number end_number
first_within [] mtu i = omega arith
first_within (p ∷ ps) mtu zero = omega arith
first_within (p ∷ ps) mtu (suc i) = let later = first_within ps mtu i in omega (arith, later)

-- .. nor does one that is there end past it
pub span_inside : (ps : List Posted) (mtu i : ℕ) (p : Posted) → slice_get ps i ≡ Some p → first_number ps mtu i + span_of p mtu ≤ end_number ps mtu
span_inside ps mtu i p h = let e = first-suc ps mtu i p h in let w = first_within ps mtu (suc i) in omega (arith, e, w)

-- past the last request nothing is found
pub at_end : (ps : List Posted) (i : ℕ) → slice_get ps i ≡ None → i ≤ length ps → i ≡ length ps
at_end [] i h w = omega arith
at_end (p ∷ ps) zero h w = absurd (cc)
at_end (p ∷ ps) (suc i) h w = let later = at_end ps i h (omega arith) in omega (arith, later)

-- a place that is found is within the list
pub found_within : (ps : List Posted) (i : ℕ) (p : Posted) → slice_get ps i ≡ Some p → i < length ps
found_within [] i p h = absurd (cc)
found_within (q ∷ ps) zero p h = omega arith
found_within (q ∷ ps) (suc i) p h = let later = found_within ps i p h in omega (arith, later)

-- the piece of a number of the request at a place
pub piece_here : (ps : List Posted) (mtu i n : ℕ) (p : Posted) → slice_get ps i ≡ Some p → first_number ps mtu i ≤ n → n < first_number ps mtu i + span_of p mtu → piece_at ps mtu n ≡ Some (record { posted = p; k = n - first_number ps mtu i })
unfolding first_number piece_at
piece_here [] mtu i n p h low high = absurd (cc)
piece_here (q ∷ ps) mtu zero n p h low high =
    let same : q ≡ p = cc in
    let here : n < span_of q mtu = rw same (omega (arith, high)) in
    grind (arith, nat_tests, same, here)
piece_here (q ∷ ps) mtu (suc i) n p h low high =
    let later = piece_here ps mtu i (n - span_of q mtu) p h (omega (arith, low)) (omega (arith, low, high)) in
    let past : span_of q mtu ≤ n = omega (arith, low) in
    let rest : n - span_of q mtu - first_number ps mtu i ≡ n - (span_of q mtu + first_number ps mtu i) = omega arith in
    grind (arith, nat_tests, later, past, rest)

-- .. and the place of the request
pub request_here : (ps : List Posted) (mtu i n : ℕ) (p : Posted) → slice_get ps i ≡ Some p → first_number ps mtu i ≤ n → n < first_number ps mtu i + span_of p mtu → request_of ps mtu n ≡ i
unfolding first_number request_of
request_here [] mtu i n p h low high = absurd (cc)
request_here (q ∷ ps) mtu zero n p h low high =
    let same : q ≡ p = cc in
    let here : n < span_of q mtu = rw same (omega (arith, high)) in
    grind (arith, nat_tests, here)
request_here (q ∷ ps) mtu (suc i) n p h low high =
    let later = request_here ps mtu i (n - span_of q mtu) p h (omega (arith, low)) (omega (arith, low, high)) in
    let past : span_of q mtu ≤ n = omega (arith, low) in
    grind (arith, nat_tests, later, past)

-- a number past the end belongs to the request that would be posted next
pub request_past : (ps : List Posted) (mtu n : ℕ) → end_number ps mtu ≤ n → request_of ps mtu n ≡ length ps
unfolding end_number request_of
request_past [] mtu n h = refl
request_past (p ∷ ps) mtu n h = let later = request_past ps mtu (n - span_of p mtu) (omega (arith, h)) in grind (arith, nat_tests, h, later)

-- a piece is of the request at its place
pub request_of_piece : (ps : List Posted) (mtu n : ℕ) (x : Piece) → piece_at ps mtu n ≡ Some x → slice_get ps (request_of ps mtu n) ≡ Some x.posted
unfolding request_of piece_at
request_of_piece [] mtu n x h = absurd (cc)
request_of_piece (p ∷ ps) mtu n x h = grind (arith, nat_tests, h, request_of_piece ps mtu (n - span_of p mtu) x)

-- ---- barriers

-- a number of a Read or atomic is a barrier
pub landing_here : (ps : List Posted) (mtu n : ℕ) (x : Piece) → piece_at ps mtu n ≡ Some x → lands (kind_of x.posted) ≡ true → next_landing ps mtu n ≡ n
unfolding next_landing piece_at
landing_here [] mtu n x h land = absurd (cc)
landing_here (p ∷ ps) mtu n x h land = by_test _ refl h (λ g. landing_here ps mtu (n - span_of p mtu) x g land)
  where
    by_test : (b : Bool) → nat_lt n (span_of p mtu) ≡ b → (if b then Some (record { posted = p; k = n }) else piece_at ps mtu (n - span_of p mtu)) ≡ Some x → (piece_at ps mtu (n - span_of p mtu) ≡ Some x → next_landing ps mtu (n - span_of p mtu) ≡ n - span_of p mtu) → (if b then (if lands (kind_of p) then n else span_of p mtu + next_landing ps mtu 0) else span_of p mtu + next_landing ps mtu (n - span_of p mtu)) ≡ n
    by_test true e g more =
        let px : (record { posted = p; k = n }) ≡ x = cc in
        let here : lands (kind_of p) ≡ true = ap (λ (y : Piece). lands (kind_of y.posted)) px ∙ land in
        rw here refl
    by_test false e g more = let later = more g in grind (arith, nat_tests, e, later)

-- a barrier below the end is of a Read or atomic
pub landing_lands : (ps : List Posted) (mtu n : ℕ) (x : Piece) → piece_at ps mtu (next_landing ps mtu n) ≡ Some x → lands (kind_of x.posted) ≡ true
unfolding next_landing piece_at
landing_lands [] mtu n x h = absurd (cc)
landing_lands (p ∷ ps) mtu n x h = by_test _ refl _ refl (λ m g. landing_lands ps mtu m x g) h
  where
    past : (m : ℕ) → piece_at (p ∷ ps) mtu (span_of p mtu + m) ≡ piece_at ps mtu m
    past m = let gone : span_of p mtu + m - span_of p mtu ≡ m = omega arith in grind (arith, nat_tests, gone)

    by_test : (b : Bool) → nat_lt n (span_of p mtu) ≡ b → (k : Bool) → lands (kind_of p) ≡ k → ((m : ℕ) → piece_at ps mtu (next_landing ps mtu m) ≡ Some x → lands (kind_of x.posted) ≡ true) → piece_at (p ∷ ps) mtu (if b then (if k then n else span_of p mtu + next_landing ps mtu 0) else span_of p mtu + next_landing ps mtu (n - span_of p mtu)) ≡ Some x → lands (kind_of x.posted) ≡ true
    by_test true e true l more h =
        let px : (record { posted = p; k = n }) ≡ x = grind (arith, nat_tests, e, h) in
        ap (λ (y : Piece). lands (kind_of y.posted)) (sym px) ∙ l
    by_test true e false l more h = more 0 (sym (past (next_landing ps mtu 0)) ∙ h)
    by_test false e k l more h = more (n - span_of p mtu) (sym (past (next_landing ps mtu (n - span_of p mtu))) ∙ h)

-- between a number and its barrier no other barrier is found
pub landing_between : (ps : List Posted) (mtu m n : ℕ) → m ≤ n → n ≤ next_landing ps mtu m → next_landing ps mtu n ≡ next_landing ps mtu m
unfolding next_landing
landing_between [] mtu m n low high = omega arith
landing_between (p ∷ ps) mtu m n low high = by_test _ refl _ refl _ refl (λ i j l g. landing_between ps mtu i j l g) high
  where
    by_test : (b : Bool) → nat_lt m (span_of p mtu) ≡ b → (c : Bool) → nat_lt n (span_of p mtu) ≡ c → (k : Bool) → lands (kind_of p) ≡ k
        → ((i j : ℕ) → i ≤ j → j ≤ next_landing ps mtu i → next_landing ps mtu j ≡ next_landing ps mtu i)
        → n ≤ (if b then (if k then m else span_of p mtu + next_landing ps mtu 0) else span_of p mtu + next_landing ps mtu (m - span_of p mtu))
        → (if c then (if k then n else span_of p mtu + next_landing ps mtu 0) else span_of p mtu + next_landing ps mtu (n - span_of p mtu))
        ≡ (if b then (if k then m else span_of p mtu + next_landing ps mtu 0) else span_of p mtu + next_landing ps mtu (m - span_of p mtu))
    by_test true b true c true l more high = omega arith
    by_test true b true c false l more high = refl
    by_test true b false c true l more high = absurd (grind (arith, nat_tests, b, c, low, high))
    by_test true b false c false l more high =
        let past : span_of p mtu ≤ n = grind (arith, nat_tests, c) in
        ap (λ k. span_of p mtu + k) (more 0 (n - span_of p mtu) (omega arith) (omega (arith, high, past)))
    by_test false b true c k l more high = absurd (grind (arith, nat_tests, b, c, low))
    by_test false b false c k l more high =
        let past : span_of p mtu ≤ m = grind (arith, nat_tests, b) in
        ap (λ k. span_of p mtu + k) (more (m - span_of p mtu) (n - span_of p mtu) (omega (arith, low)) (omega (arith, high, past, low)))

-- a request that nothing lands for is passed
pub landing_skips : (ps : List Posted) (mtu i : ℕ) (p : Posted) → slice_get ps i ≡ Some p → lands (kind_of p) ≡ false → next_landing ps mtu (first_number ps mtu i) ≡ next_landing ps mtu (first_number ps mtu (suc i))
unfolding next_landing first_number
landing_skips [] mtu i p h land = absurd (cc)
landing_skips (q ∷ ps) mtu zero p h land = at_front ps
  where
    same : q ≡ p
    same = cc

    no : lands (kind_of q) ≡ false
    no = ap (λ (r : Posted). lands (kind_of r)) same ∙ land

    at_front : (rs : List Posted) → next_landing (q ∷ rs) mtu 0 ≡ next_landing (q ∷ rs) mtu (span_of q mtu + first_number rs mtu zero)
    at_front [] = let some = span_positive q.request.shape mtu in let gone : span_of q mtu + 0 - span_of q mtu ≡ 0 = omega arith in rw no (grind (arith, nat_tests, some, gone))
    at_front (r ∷ rs) = let some = span_positive q.request.shape mtu in let gone : span_of q mtu + 0 - span_of q mtu ≡ 0 = omega arith in rw no (grind (arith, nat_tests, some, gone))
landing_skips (q ∷ ps) mtu (suc i) p h land =
    let later = landing_skips ps mtu i p h land in
    let one : span_of q mtu + first_number ps mtu i - span_of q mtu ≡ first_number ps mtu i = omega arith in
    let two : span_of q mtu + first_number ps mtu (suc i) - span_of q mtu ≡ first_number ps mtu (suc i) = omega arith in
    grind (arith, nat_tests, later, one, two)

-- ---- one more request at the end

pub end-push : (ps : List Posted) (mtu : ℕ) (p : Posted) → end_number (ps ++ p ∷ []) mtu ≡ end_number ps mtu + span_of p mtu
unfolding end_number
end-push [] mtu p = omega arith
end-push (q ∷ ps) mtu p = let later = end-push ps mtu p in omega (arith, later)

pub first-push : (ps : List Posted) (mtu i : ℕ) (p : Posted) → i ≤ length ps → first_number (ps ++ p ∷ []) mtu i ≡ first_number ps mtu i
unfolding first_number
first-push [] mtu i p h = let none : i ≡ 0 = omega arith in rw none refl
first-push (q ∷ ps) mtu zero p h = refl
first-push (q ∷ ps) mtu (suc i) p h = ap (λ n. span_of q mtu + n) (first-push ps mtu i p (omega (arith, h)))

pub request-push : (ps : List Posted) (mtu n : ℕ) (p : Posted) → n < end_number ps mtu → request_of (ps ++ p ∷ []) mtu n ≡ request_of ps mtu n
unfolding request_of end_number
request-push [] mtu n p h = absurd (omega (arith, h))
request-push (q ∷ ps) mtu n p h = grind (arith, nat_tests, h, request-push ps mtu (n - span_of q mtu) p)

pub piece-push : (ps : List Posted) (mtu n : ℕ) (p : Posted) → n < end_number ps mtu → piece_at (ps ++ p ∷ []) mtu n ≡ piece_at ps mtu n
unfolding piece_at end_number
piece-push [] mtu n p h = absurd (omega (arith, h))
piece-push (q ∷ ps) mtu n p h = grind (arith, nat_tests, h, piece-push ps mtu (n - span_of q mtu) p)

pub piece_pushed : (ps : List Posted) (mtu : ℕ) (p : Posted) → piece_at (ps ++ p ∷ []) mtu (end_number ps mtu) ≡ Some (record { posted = p; k = 0 })
unfolding piece_at end_number
piece_pushed [] mtu p = let some = span_positive p.request.shape mtu in grind (arith, nat_tests, some)
piece_pushed (q ∷ ps) mtu p =
    let gone : span_of q mtu + end_number ps mtu - span_of q mtu ≡ end_number ps mtu = omega arith in
    grind (arith, nat_tests, gone, piece_pushed ps mtu p)

-- a barrier below the end stays
pub landing-push : (ps : List Posted) (mtu n : ℕ) (p : Posted) → next_landing ps mtu n < end_number ps mtu → next_landing (ps ++ p ∷ []) mtu n ≡ next_landing ps mtu n
unfolding next_landing end_number
landing-push [] mtu n p h = absurd (omega (arith, h))
landing-push (q ∷ ps) mtu n p h = by_test _ refl _ refl (λ m g. landing-push ps mtu m p g) h
  where
    by_test : (b : Bool) → nat_lt n (span_of q mtu) ≡ b → (k : Bool) → lands (kind_of q) ≡ k
        → ((m : ℕ) → next_landing ps mtu m < end_number ps mtu → next_landing (ps ++ p ∷ []) mtu m ≡ next_landing ps mtu m)
        → (if b then (if k then n else span_of q mtu + next_landing ps mtu 0) else span_of q mtu + next_landing ps mtu (n - span_of q mtu)) < span_of q mtu + end_number ps mtu
        → (if b then (if k then n else span_of q mtu + next_landing (ps ++ p ∷ []) mtu 0) else span_of q mtu + next_landing (ps ++ p ∷ []) mtu (n - span_of q mtu))
        ≡ (if b then (if k then n else span_of q mtu + next_landing ps mtu 0) else span_of q mtu + next_landing ps mtu (n - span_of q mtu))
    by_test true e true l more h = refl
    by_test true e false l more h = ap (λ m. span_of q mtu + m) (more 0 (omega (arith, h)))
    by_test false e k l more h = ap (λ m. span_of q mtu + m) (more (n - span_of q mtu) (omega (arith, h)))

-- one at the end stays where the new request lands, and else goes past it
pub landing_pushed : (ps : List Posted) (mtu n : ℕ) (p : Posted) → next_landing ps mtu n ≡ end_number ps mtu → n ≤ end_number ps mtu → next_landing (ps ++ p ∷ []) mtu n ≡ (if lands (kind_of p) then end_number ps mtu else end_number ps mtu + span_of p mtu)
unfolding next_landing end_number
landing_pushed [] mtu n p h low =
    let none : n ≡ 0 = omega (arith, low) in
    let some = span_positive p.request.shape mtu in
    let zero_sum : span_of p mtu + 0 ≡ 0 + span_of p mtu = omega arith in
    rw none (grind (arith, nat_tests, some, zero_sum))
landing_pushed (q ∷ ps) mtu n p h low = by_test _ refl _ refl (λ m g l. landing_pushed ps mtu m p g l) h
  where
    moved : (b : Bool) → span_of q mtu + (if b then end_number ps mtu else end_number ps mtu + span_of p mtu) ≡ (if b then span_of q mtu + end_number ps mtu else span_of q mtu + end_number ps mtu + span_of p mtu)
    moved true = refl
    moved false = omega arith

    by_test : (b : Bool) → nat_lt n (span_of q mtu) ≡ b → (k : Bool) → lands (kind_of q) ≡ k
        → ((m : ℕ) → next_landing ps mtu m ≡ end_number ps mtu → m ≤ end_number ps mtu → next_landing (ps ++ p ∷ []) mtu m ≡ (if lands (kind_of p) then end_number ps mtu else end_number ps mtu + span_of p mtu))
        → (if b then (if k then n else span_of q mtu + next_landing ps mtu 0) else span_of q mtu + next_landing ps mtu (n - span_of q mtu)) ≡ span_of q mtu + end_number ps mtu
        → (if b then (if k then n else span_of q mtu + next_landing (ps ++ p ∷ []) mtu 0) else span_of q mtu + next_landing (ps ++ p ∷ []) mtu (n - span_of q mtu))
        ≡ (if lands (kind_of p) then span_of q mtu + end_number ps mtu else span_of q mtu + end_number ps mtu + span_of p mtu)
    by_test true e true l more g = absurd (grind (arith, nat_tests, e, g))
    by_test true e false l more g = ap (λ m. span_of q mtu + m) (more 0 (omega (arith, g)) (omega arith)) ∙ moved (lands (kind_of p))
    by_test false e k l more g = let past : span_of q mtu ≤ n = grind (arith, nat_tests, e) in ap (λ m. span_of q mtu + m) (more (n - span_of q mtu) (omega (arith, g)) (omega (arith, low))) ∙ moved (lands (kind_of p))

-- ---- the front request

pub first-zero : (ps : List Posted) (mtu : ℕ) → first_number ps mtu 0 ≡ 0
unfolding first_number
first-zero [] mtu = refl
first-zero (p ∷ ps) mtu = refl

pub first-one : (ps : List Posted) (mtu : ℕ) (p : Posted) → slice_get ps 0 ≡ Some p → first_number ps mtu 1 ≡ span_of p mtu
first-one ps mtu p h = let e = first-suc ps mtu 0 p h in let z = first-zero ps mtu in omega (arith, e, z)

-- ---- pieces

-- the number behind a front request is the first of the others
pub piece_behind : (p : Posted) (ps : List Posted) (mtu n : ℕ) → span_of p mtu ≤ n → piece_at (p ∷ ps) mtu n ≡ piece_at ps mtu (n - span_of p mtu)
unfolding piece_at
piece_behind p ps mtu n h = grind (arith, nat_tests, h)

pub piece_in_front : (p : Posted) (ps : List Posted) (mtu n : ℕ) → n < span_of p mtu → piece_at (p ∷ ps) mtu n ≡ Some (record { posted = p; k = n })
unfolding piece_at
piece_in_front p ps mtu n h = grind (arith, nat_tests, h)

pub piece_below_span : (ps : List Posted) (mtu n : ℕ) (x : Piece) → piece_at ps mtu n ≡ Some x → (x.k ≤ n) × (x.k < span_of x.posted mtu)
unfolding piece_at
piece_below_span [] mtu n x h = absurd (cc)
piece_below_span (p ∷ ps) mtu n x h = by_test _ refl h (λ g. piece_below_span ps mtu (n - span_of p mtu) x g)
  where
    by_test : (b : Bool) → nat_lt n (span_of p mtu) ≡ b → (if b then Some (record { posted = p; k = n }) else piece_at ps mtu (n - span_of p mtu)) ≡ Some x
        → (piece_at ps mtu (n - span_of p mtu) ≡ Some x → (x.k ≤ n - span_of p mtu) × (x.k < span_of x.posted mtu))
        → (x.k ≤ n) × (x.k < span_of x.posted mtu)
    by_test true e g more =
        let px : (record { posted = p; k = n }) ≡ x = cc in
        let k : n ≡ x.k = ap (λ (y : Piece). y.k) px in
        let s : span_of p mtu ≡ span_of x.posted mtu = ap (λ (y : Piece). span_of y.posted mtu) px in
        let below : n < span_of p mtu = grind (arith, nat_tests, e) in
        (omega (arith, k), omega (arith, k, s, below))
    by_test false e g more = let m = more g in (omega (arith, m.0), m.1)

-- a request ends within the numbers
pub piece_ends : (ps : List Posted) (mtu n : ℕ) (x : Piece) → piece_at ps mtu n ≡ Some x → (n - x.k) + span_of x.posted mtu ≤ end_number ps mtu
unfolding piece_at end_number
piece_ends [] mtu n x h = absurd (cc)
piece_ends (p ∷ ps) mtu n x h = by_test _ refl h (λ g. piece_ends ps mtu (n - span_of p mtu) x g)
  where
    by_test : (b : Bool) → nat_lt n (span_of p mtu) ≡ b → (if b then Some (record { posted = p; k = n }) else piece_at ps mtu (n - span_of p mtu)) ≡ Some x
        → (piece_at ps mtu (n - span_of p mtu) ≡ Some x → (n - span_of p mtu - x.k) + span_of x.posted mtu ≤ end_number ps mtu)
        → (n - x.k) + span_of x.posted mtu ≤ span_of p mtu + end_number ps mtu
    by_test true e g more =
        let px : (record { posted = p; k = n }) ≡ x = cc in
        let k : n ≡ x.k = ap (λ (y : Piece). y.k) px in
        let s : span_of p mtu ≡ span_of x.posted mtu = ap (λ (y : Piece). span_of y.posted mtu) px in
        omega (arith, k, s)
    by_test false e g more = let m = more g in omega (arith, m)
