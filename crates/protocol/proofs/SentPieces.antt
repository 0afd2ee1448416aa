-- Where a requester goes on behind a piece that it sends: never inside a Read.
use Rattle.std.proofs.Common.{arith, ◌≡◌, ◌<◌, ◌≤◌, ◌+◌, ◌-◌, ℕ, List, [], ◌∷◌, Bool, true, false, refl, ap, ◌∙◌, ◌⊎◌, ⊎_elim, subst}
use Rattle.std.specs.Prelude.{Some, nat_lt, if◌then◌else◌, ◌&&◌}
use Rattle.std.proofs.lemmas.Bool.Decides.{nat_tests}
use Rattle.rdma_types.specs.Objects.{Posted}
use Rattle.rdma_types.specs.Kinds.{is_read, kind_of}
use Rattle.rdma_types.specs.Spans.{Piece, piece_at, span_of}
use Rattle.rdma_types.proofs.Places.{piece_behind, piece_below_span, piece_in_front, span_positive}
use Rattle.protocol.specs.Requester.{is_inside_read}

-- where `next` goes past a piece
abbrev pub past_piece : ℕ → ℕ → Piece → ℕ
past_piece mtu next x = if is_read (kind_of x.posted) then (next - x.k) + span_of x.posted mtu else next + 1

pub less_or_same : (a b : ℕ) → a ≤ b → (a < b) ⊎ (a ≡ b)
less_or_same a b le = grind (arith, le)

-- the numbers of a request begin with none of its pieces sent
start_outside : (ps : List Posted) (mtu : ℕ) → is_inside_read (piece_at ps mtu 0) ≡ false
unfolding piece_at
start_outside [] mtu = refl
start_outside (p ∷ ps) mtu =
    let some = span_positive p.request.shape mtu in
    let here : piece_at (p ∷ ps) mtu 0 ≡ Some (record { posted = p; k = 0 }) = grind (arith, nat_tests, some) in
    ap is_inside_read here ∙ (elim (is_read (kind_of p)) as (λ b. (b && false) ≡ false) [ true ↦ refl | false ↦ refl ])

past_front : (p : Posted) (ps : List Posted) (mtu n : ℕ) → n < span_of p mtu → is_inside_read (piece_at (p ∷ ps) mtu (past_piece mtu n (record { posted = p; k = n }))) ≡ false
past_front p ps mtu n h = by_kind _ refl
  where
    next : (m : ℕ) → m ≡ span_of p mtu → is_inside_read (piece_at (p ∷ ps) mtu m) ≡ false
    next m e =
        let zero' : m - span_of p mtu ≡ 0 = omega (arith, e) in
        ap is_inside_read (piece_behind p ps mtu m (omega (arith, e)) ∙ ap (λ k. piece_at ps mtu k) zero') ∙ start_outside ps mtu

    by_kind : (b : Bool) → is_read (kind_of p) ≡ b → is_inside_read (piece_at (p ∷ ps) mtu (if b then (n - n) + span_of p mtu else n + 1)) ≡ false
    by_kind true r = next ((n - n) + span_of p mtu) (omega arith)
    by_kind false r = ⊎_elim (λ lt. ap is_inside_read (piece_in_front p ps mtu (n + 1) lt) ∙ (rw r refl)) (λ e. next (n + 1) e) (less_or_same (n + 1) (span_of p mtu) (omega (arith, h)))

pub past_outside : (ps : List Posted) (mtu n : ℕ) (x : Piece) → piece_at ps mtu n ≡ Some x → is_inside_read (piece_at ps mtu (past_piece mtu n x)) ≡ false
unfolding piece_at
past_outside [] mtu n x h = absurd (cc)
past_outside (p ∷ ps) mtu n x h = by_test _ refl h (λ g. past_outside ps mtu (n - span_of p mtu) x g)
  where
    Fact : Piece → Type 0
    Fact y = is_inside_read (piece_at (p ∷ ps) mtu (past_piece mtu n y)) ≡ false

    later : (b : Bool) → x.k ≤ n - span_of p mtu → span_of p mtu ≤ n → (if b then (n - x.k) + span_of x.posted mtu else n + 1) - span_of p mtu ≡ (if b then (n - span_of p mtu - x.k) + span_of x.posted mtu else n - span_of p mtu + 1)
    later true k past = omega (arith, k, past)
    later false k past = omega (arith, past)

    not_before : (b : Bool) → x.k ≤ n - span_of p mtu → span_of p mtu ≤ n → span_of p mtu ≤ (if b then (n - x.k) + span_of x.posted mtu else n + 1)
    not_before true k past = omega (arith, k, past)
    not_before false k past = omega (arith, past)

    by_test : (b : Bool) → nat_lt n (span_of p mtu) ≡ b → (if b then Some (record { posted = p; k = n }) else piece_at ps mtu (n - span_of p mtu)) ≡ Some x
        → (piece_at ps mtu (n - span_of p mtu) ≡ Some x → is_inside_read (piece_at ps mtu (past_piece mtu (n - span_of p mtu) x)) ≡ false)
        → Fact x
    by_test true e g more =
        let px : (record { posted = p; k = n }) ≡ x = cc in
        let inside : n < span_of p mtu = grind (arith, nat_tests, e) in
        subst Fact px (past_front p ps mtu n inside)
    by_test false e g more =
        let past : span_of p mtu ≤ n = grind (arith, nat_tests, e) in
        let sizes = piece_below_span ps mtu (n - span_of p mtu) x g in
        ap is_inside_read (piece_behind p ps mtu (past_piece mtu n x) (not_before (is_read (kind_of x.posted)) sizes.0 past) ∙ ap (λ k. piece_at ps mtu k) (later (is_read (kind_of x.posted)) sizes.0 past)) ∙ more g
