-- Request packets, and Reads and atomics, in flight.
use Rattle.std.proofs.Common.{arith, ◌≡◌, ◌<◌, ◌≤◌, ◌+◌, ◌-◌, ℕ, zero, suc, List, [], ◌∷◌, ◌++◌, length, Bool, true, false, refl, sym, ap, ◌∙◌, ◌⊎◌, ◌≢◌, ⊎_elim, inl, inr, subst}
use Rattle.std.specs.Prelude.{Option, Some, None, min, max, nat_lt, nat_le, if◌then◌else◌, not, ◌==◌, ◌&&◌}
use Rattle.std.proofs.lemmas.Bool.Decides.{nat_tests}
use Rattle.rdma_types.specs.declared.requests.Kind.{Kind}
use Rattle.rdma_types.specs.declared.requests.Kind.TheVariants.{Write, Send, Read, CompareSwap, FetchAdd}
use Rattle.rdma_types.specs.Objects.{Posted}
use Rattle.rdma_types.specs.Kinds.{is_atomic, is_read, kind_of, lands}
use Rattle.rdma_types.specs.Spans.{Piece, end_number, next_landing, piece_at, span, span_of}
use Rattle.rdma_types.proofs.Places.{piece_below_span}
use Rattle.protocol.proofs.SentPieces.{past_piece}
use Rattle.protocol.specs.Requester.{is_inside_read, overlap, packets_in_flight, packets_of, reads_in_flight}

-- the Reads and atomics of one request in flight
abbrev pub reads_of : Kind → ℕ → ℕ
reads_of k inside = if lands k then min 1 inside else 0

-- ---- one request

pub packets-none : (k : Kind) (n : ℕ) → n ≡ 0 → packets_of k n ≡ 0
packets-none k n e = elim (is_read k) as (λ b. (if b then min 1 n else n) ≡ 0) [ true ↦ omega arith | false ↦ e ]

pub reads-none : (k : Kind) (n : ℕ) → n ≡ 0 → reads_of k n ≡ 0
reads-none k n e = elim (lands k) as (λ b. (if b then min 1 n else 0) ≡ 0) [ true ↦ omega arith | false ↦ refl ]

pub packets-read : (k : Kind) (n : ℕ) → is_read k ≡ true → packets_of k n ≡ min 1 n
packets-read k n e = rw e refl

pub packets-other : (k : Kind) (n : ℕ) → is_read k ≡ false → packets_of k n ≡ n
packets-other k n e = rw e refl

pub reads-landing : (k : Kind) (n : ℕ) → lands k ≡ true → reads_of k n ≡ min 1 n
reads-landing k n e = rw e refl

pub reads-other : (k : Kind) (n : ℕ) → lands k ≡ false → reads_of k n ≡ 0
reads-other k n e = rw e refl

-- where nothing lands it is no Read
pub no_read : (k : Kind) → lands k ≡ false → is_read k ≡ false
no_read Write h = refl
no_read Send h = refl
no_read Read h = absurd (cc)
no_read CompareSwap h = refl
no_read FetchAdd h = refl

pub read_lands : (k : Kind) → is_read k ≡ true → lands k ≡ true
read_lands Read h = refl
read_lands Write h = absurd (cc)
read_lands Send h = absurd (cc)
read_lands CompareSwap h = refl
read_lands FetchAdd h = refl

-- what lands and is no Read takes one number
pub atomic_span : (p : Posted) (mtu : ℕ) → lands (kind_of p) ≡ true → is_read (kind_of p) ≡ false → span_of p mtu ≡ 1
unfolding span
atomic_span p mtu l r = let a : is_atomic (kind_of p) ≡ true = by_kind (kind_of p) l r in rw a refl
  where
    by_kind : (k : Kind) → lands k ≡ true → is_read k ≡ false → is_atomic k ≡ true
    by_kind Write l r = absurd (cc)
    by_kind Send l r = absurd (cc)
    by_kind Read l r = absurd (cc)
    by_kind CompareSwap l r = refl
    by_kind FetchAdd l r = refl

-- ---- nothing in flight

pub packets_none : (ps : List Posted) (mtu low una next : ℕ) → next ≤ una → packets_in_flight ps mtu low una next ≡ 0
unfolding packets_in_flight
packets_none [] mtu low una next h = refl
packets_none (p ∷ ps) mtu low una next h =
    let here = packets-none (kind_of p) (overlap low (low + span_of p mtu) una next) (omega arith) in
    let later = packets_none ps mtu (low + span_of p mtu) una next h in
    omega (arith, here, later)

pub reads_none : (ps : List Posted) (mtu low una next : ℕ) → next ≤ una → reads_in_flight ps mtu low una next ≡ 0
unfolding reads_in_flight
reads_none [] mtu low una next h = refl
reads_none (p ∷ ps) mtu low una next h =
    let here = reads-none (kind_of p) (overlap low (low + span_of p mtu) una next) (omega arith) in
    let later = reads_none ps mtu (low + span_of p mtu) una next h in
    omega (arith, here, later)

pub packets_beyond : (ps : List Posted) (mtu low una next : ℕ) → next ≤ low → packets_in_flight ps mtu low una next ≡ 0
unfolding packets_in_flight
packets_beyond [] mtu low una next h = refl
packets_beyond (p ∷ ps) mtu low una next h =
    let here = packets-none (kind_of p) (overlap low (low + span_of p mtu) una next) (omega arith) in
    let later = packets_beyond ps mtu (low + span_of p mtu) una next (omega arith) in
    omega (arith, here, later)

pub reads_beyond : (ps : List Posted) (mtu low una next : ℕ) → next ≤ low → reads_in_flight ps mtu low una next ≡ 0
unfolding reads_in_flight
reads_beyond [] mtu low una next h = refl
reads_beyond (p ∷ ps) mtu low una next h =
    let here = reads-none (kind_of p) (overlap low (low + span_of p mtu) una next) (omega arith) in
    let later = reads_beyond ps mtu (low + span_of p mtu) una next (omega arith) in
    omega (arith, here, later)

-- ---- no more than there are numbers

packets-few : (k : Kind) (n : ℕ) → packets_of k n ≤ n
packets-few k n = elim (is_read k) as (λ b. (if b then min 1 n else n) ≤ n) [ true ↦ omega arith | false ↦ omega arith ]

reads-few : (k : Kind) (n : ℕ) → reads_of k n ≤ n
reads-few k n = elim (lands k) as (λ b. (if b then min 1 n else 0) ≤ n) [ true ↦ omega arith | false ↦ omega arith ]

pub packets_few : (ps : List Posted) (mtu low una next : ℕ) → packets_in_flight ps mtu low una next ≤ end_number ps mtu
unfolding packets_in_flight end_number
packets_few [] mtu low una next = omega arith
packets_few (p ∷ ps) mtu low una next =
    let here = packets-few (kind_of p) (overlap low (low + span_of p mtu) una next) in
    let later = packets_few ps mtu (low + span_of p mtu) una next in
    omega (arith, here, later)

pub reads_few : (ps : List Posted) (mtu low una next : ℕ) → reads_in_flight ps mtu low una next ≤ end_number ps mtu
unfolding reads_in_flight end_number
reads_few [] mtu low una next = omega arith
reads_few (p ∷ ps) mtu low una next =
    let here = reads-few (kind_of p) (overlap low (low + span_of p mtu) una next) in
    let later = reads_few ps mtu (low + span_of p mtu) una next in
    omega (arith, here, later)

-- ---- one more request at the end

pub packets-push : (ps : List Posted) (mtu low una next : ℕ) (p : Posted) → next ≤ low + end_number ps mtu → packets_in_flight (ps ++ p ∷ []) mtu low una next ≡ packets_in_flight ps mtu low una next
unfolding packets_in_flight end_number
packets-push [] mtu low una next p h = packets_beyond (p ∷ []) mtu low una next (omega (arith, h))
packets-push (q ∷ ps) mtu low una next p h =
    let later = packets-push ps mtu (low + span_of q mtu) una next p (omega (arith, h)) in
    ap (λ n. packets_of (kind_of q) (overlap low (low + span_of q mtu) una next) + n) later

pub reads-push : (ps : List Posted) (mtu low una next : ℕ) (p : Posted) → next ≤ low + end_number ps mtu → reads_in_flight (ps ++ p ∷ []) mtu low una next ≡ reads_in_flight ps mtu low una next
unfolding reads_in_flight end_number
reads-push [] mtu low una next p h = reads_beyond (p ∷ []) mtu low una next (omega (arith, h))
reads-push (q ∷ ps) mtu low una next p h =
    let later = reads-push ps mtu (low + span_of q mtu) una next p (omega (arith, h)) in
    ap (λ n. reads_of (kind_of q) (overlap low (low + span_of q mtu) una next) + n) later

-- ---- the oldest request is acknowledged

pub packets_without_front : (p : Posted) (ps : List Posted) (mtu low una next : ℕ) → low + span_of p mtu ≤ una → packets_in_flight (p ∷ ps) mtu low una next ≡ packets_in_flight ps mtu (low + span_of p mtu) una next
unfolding packets_in_flight
packets_without_front p ps mtu low una next h =
    let here = packets-none (kind_of p) (overlap low (low + span_of p mtu) una next) (omega arith) in
    omega (arith, here)

pub reads_without_front : (p : Posted) (ps : List Posted) (mtu low una next : ℕ) → low + span_of p mtu ≤ una → reads_in_flight (p ∷ ps) mtu low una next ≡ reads_in_flight ps mtu (low + span_of p mtu) una next
unfolding reads_in_flight
reads_without_front p ps mtu low una next h =
    let here = reads-none (kind_of p) (overlap low (low + span_of p mtu) una next) (omega arith) in
    omega (arith, here)

-- ---- one more piece is sent

-- the front request is sent on: its packets, and the requests behind it have none in flight
sent_front : (p : Posted) (ps : List Posted) (mtu low una next : ℕ) → low ≤ next → una ≤ next → next < low + span_of p mtu → (is_read (kind_of p) ≡ true → (next ≡ low) ⊎ (una ≡ next))
    → packets_in_flight (p ∷ ps) mtu low una (past_piece mtu next (record { posted = p; k = next - low })) ≡ packets_in_flight (p ∷ ps) mtu low una next + 1
unfolding packets_in_flight
sent_front p ps mtu low una next from above below whole = by_kind _ refl
  where
    by_kind : (b : Bool) → is_read (kind_of p) ≡ b
        → packets_of (kind_of p) (overlap low (low + span_of p mtu) una (if b then (next - (next - low)) + span_of p mtu else next + 1)) + packets_in_flight ps mtu (low + span_of p mtu) una (if b then (next - (next - low)) + span_of p mtu else next + 1)
        ≡ packets_of (kind_of p) (overlap low (low + span_of p mtu) una next) + packets_in_flight ps mtu (low + span_of p mtu) una next + 1
    by_kind true r =
        let here = packets-read (kind_of p) (overlap low (low + span_of p mtu) una ((next - (next - low)) + span_of p mtu)) r in
        let before = packets-read (kind_of p) (overlap low (low + span_of p mtu) una next) r in
        let later = packets_beyond ps mtu (low + span_of p mtu) una ((next - (next - low)) + span_of p mtu) (omega arith) in
        let later' = packets_beyond ps mtu (low + span_of p mtu) una next (omega arith) in
        ⊎_elim (λ e. omega (arith, here, before, later, later', e)) (λ e. omega (arith, here, before, later, later', e)) (whole r)
    by_kind false r =
        let here = packets-other (kind_of p) (overlap low (low + span_of p mtu) una (next + 1)) r in
        let before = packets-other (kind_of p) (overlap low (low + span_of p mtu) una next) r in
        let later = packets_beyond ps mtu (low + span_of p mtu) una (next + 1) (omega arith) in
        let later' = packets_beyond ps mtu (low + span_of p mtu) una next (omega arith) in
        omega (arith, here, before, later, later')

reads_front : (p : Posted) (ps : List Posted) (mtu low una next : ℕ) → low ≤ next → una ≤ next → next < low + span_of p mtu → (is_read (kind_of p) ≡ true → (next ≡ low) ⊎ (una ≡ next))
    → reads_in_flight (p ∷ ps) mtu low una (past_piece mtu next (record { posted = p; k = next - low })) ≡ reads_in_flight (p ∷ ps) mtu low una next + (if lands (kind_of p) then 1 else 0)
unfolding reads_in_flight
reads_front p ps mtu low una next from above below whole = by_kind _ refl _ refl
  where
    by_kind : (b : Bool) → is_read (kind_of p) ≡ b → (l : Bool) → lands (kind_of p) ≡ l
        → reads_of (kind_of p) (overlap low (low + span_of p mtu) una (if b then (next - (next - low)) + span_of p mtu else next + 1)) + reads_in_flight ps mtu (low + span_of p mtu) una (if b then (next - (next - low)) + span_of p mtu else next + 1)
        ≡ reads_of (kind_of p) (overlap low (low + span_of p mtu) una next) + reads_in_flight ps mtu (low + span_of p mtu) una next + (if l then 1 else 0)
    by_kind true r l e =
        let landing = read_lands (kind_of p) r in
        let one : ◌≡◌ {A = ℕ} (if l then 1 else 0) 1 = rw (sym e ∙ landing) refl in
        let here = reads-landing (kind_of p) (overlap low (low + span_of p mtu) una ((next - (next - low)) + span_of p mtu)) landing in
        let before = reads-landing (kind_of p) (overlap low (low + span_of p mtu) una next) landing in
        let later = reads_beyond ps mtu (low + span_of p mtu) una ((next - (next - low)) + span_of p mtu) (omega arith) in
        let later' = reads_beyond ps mtu (low + span_of p mtu) una next (omega arith) in
        ⊎_elim (λ g. omega (arith, here, before, later, later', g, one)) (λ g. omega (arith, here, before, later, later', g, one)) (whole r)
    by_kind false r true e =
        let single = atomic_span p mtu e r in
        let here = reads-landing (kind_of p) (overlap low (low + span_of p mtu) una (next + 1)) e in
        let before = reads-landing (kind_of p) (overlap low (low + span_of p mtu) una next) e in
        let later = reads_beyond ps mtu (low + span_of p mtu) una (next + 1) (omega arith) in
        let later' = reads_beyond ps mtu (low + span_of p mtu) una next (omega arith) in
        omega (arith, here, before, later, later', single)
    by_kind false r false e =
        let here = reads-other (kind_of p) (overlap low (low + span_of p mtu) una (next + 1)) e in
        let before = reads-other (kind_of p) (overlap low (low + span_of p mtu) una next) e in
        let later = reads_beyond ps mtu (low + span_of p mtu) una (next + 1) (omega arith) in
        let later' = reads_beyond ps mtu (low + span_of p mtu) una next (omega arith) in
        omega (arith, here, before, later, later')

-- a later request is sent on: nothing changes for the front one
past_above : (mtu next : ℕ) (x : Piece) → x.k ≤ next → x.k < span_of x.posted mtu → next < past_piece mtu next x
past_above mtu next x h k = elim (is_read (kind_of x.posted)) as (λ b. next < (if b then (next - x.k) + span_of x.posted mtu else next + 1)) [ true ↦ omega arith | false ↦ omega arith ]

pub packets_sent : (ps : List Posted) (mtu low una next : ℕ) (x : Piece) → low ≤ next → una ≤ next → piece_at ps mtu (next - low) ≡ Some x → (is_read (kind_of x.posted) ≡ true → (x.k ≡ 0) ⊎ (una ≡ next))
    → packets_in_flight ps mtu low una (past_piece mtu next x) ≡ packets_in_flight ps mtu low una next + 1
unfolding packets_in_flight piece_at
packets_sent [] mtu low una next x from above h whole = absurd (cc)
packets_sent (p ∷ ps) mtu low una next x from above h whole = by_test _ refl h (λ f g. packets_sent ps mtu (low + span_of p mtu) una next x f above g whole)
  where
    by_test : (b : Bool) → nat_lt (next - low) (span_of p mtu) ≡ b → (if b then Some (record { posted = p; k = next - low }) else piece_at ps mtu (next - low - span_of p mtu)) ≡ Some x
        → (low + span_of p mtu ≤ next → piece_at ps mtu (next - (low + span_of p mtu)) ≡ Some x → packets_in_flight ps mtu (low + span_of p mtu) una (past_piece mtu next x) ≡ packets_in_flight ps mtu (low + span_of p mtu) una next + 1)
        → packets_in_flight (p ∷ ps) mtu low una (past_piece mtu next x) ≡ packets_in_flight (p ∷ ps) mtu low una next + 1
    by_test true e g more =
        let px : (record { posted = p; k = next - low }) ≡ x = cc in
        let below : next - low < span_of p mtu = grind (arith, nat_tests, e) in
        let P : Piece → Type 0 = λ y. packets_in_flight (p ∷ ps) mtu low una (past_piece mtu next y) ≡ packets_in_flight (p ∷ ps) mtu low una next + 1 in
        subst P px (sent_front p ps mtu low una next from above (omega (arith, below)) (λ r. ⊎_elim (λ z. inl (omega (arith, z, ap (λ (y : Piece). y.k) px))) (λ z. inr z) (whole (ap (λ (y : Piece). is_read (kind_of y.posted)) (sym px) ∙ r))))
    by_test false e g more =
        let past : span_of p mtu ≤ next - low = grind (arith, nat_tests, e) in
        let rest : next - low - span_of p mtu ≡ next - (low + span_of p mtu) = omega arith in
        let sizes = piece_below_span ps mtu (next - low - span_of p mtu) x g in
        let above' = past_above mtu next x (omega (arith, sizes.0)) sizes.1 in
        let later = more (omega (arith, past)) (rw rest at g) in
        let same : overlap low (low + span_of p mtu) una (past_piece mtu next x) ≡ overlap low (low + span_of p mtu) una next = omega (arith, past, above') in
        let here : packets_of (kind_of p) (overlap low (low + span_of p mtu) una (past_piece mtu next x)) ≡ packets_of (kind_of p) (overlap low (low + span_of p mtu) una next) = ap (λ o. packets_of (kind_of p) o) same in
        omega (arith, here, later)

pub reads_sent : (ps : List Posted) (mtu low una next : ℕ) (x : Piece) → low ≤ next → una ≤ next → piece_at ps mtu (next - low) ≡ Some x → (is_read (kind_of x.posted) ≡ true → (x.k ≡ 0) ⊎ (una ≡ next))
    → reads_in_flight ps mtu low una (past_piece mtu next x) ≡ reads_in_flight ps mtu low una next + (if lands (kind_of x.posted) then 1 else 0)
unfolding reads_in_flight piece_at
reads_sent [] mtu low una next x from above h whole = absurd (cc)
reads_sent (p ∷ ps) mtu low una next x from above h whole = by_test _ refl h (λ f g. reads_sent ps mtu (low + span_of p mtu) una next x f above g whole)
  where
    by_test : (b : Bool) → nat_lt (next - low) (span_of p mtu) ≡ b → (if b then Some (record { posted = p; k = next - low }) else piece_at ps mtu (next - low - span_of p mtu)) ≡ Some x
        → (low + span_of p mtu ≤ next → piece_at ps mtu (next - (low + span_of p mtu)) ≡ Some x → reads_in_flight ps mtu (low + span_of p mtu) una (past_piece mtu next x) ≡ reads_in_flight ps mtu (low + span_of p mtu) una next + (if lands (kind_of x.posted) then 1 else 0))
        → reads_in_flight (p ∷ ps) mtu low una (past_piece mtu next x) ≡ reads_in_flight (p ∷ ps) mtu low una next + (if lands (kind_of x.posted) then 1 else 0)
    by_test true e g more =
        let px : (record { posted = p; k = next - low }) ≡ x = cc in
        let below : next - low < span_of p mtu = grind (arith, nat_tests, e) in
        let P : Piece → Type 0 = λ y. reads_in_flight (p ∷ ps) mtu low una (past_piece mtu next y) ≡ reads_in_flight (p ∷ ps) mtu low una next + (if lands (kind_of y.posted) then 1 else 0) in
        subst P px (reads_front p ps mtu low una next from above (omega (arith, below)) (λ r. ⊎_elim (λ z. inl (omega (arith, z, ap (λ (y : Piece). y.k) px))) (λ z. inr z) (whole (ap (λ (y : Piece). is_read (kind_of y.posted)) (sym px) ∙ r))))
    by_test false e g more =
        let past : span_of p mtu ≤ next - low = grind (arith, nat_tests, e) in
        let rest : next - low - span_of p mtu ≡ next - (low + span_of p mtu) = omega arith in
        let sizes = piece_below_span ps mtu (next - low - span_of p mtu) x g in
        let above' = past_above mtu next x (omega (arith, sizes.0)) sizes.1 in
        let later = more (omega (arith, past)) (rw rest at g) in
        let same : overlap low (low + span_of p mtu) una (past_piece mtu next x) ≡ overlap low (low + span_of p mtu) una next = omega (arith, past, above') in
        let here : reads_of (kind_of p) (overlap low (low + span_of p mtu) una (past_piece mtu next x)) ≡ reads_of (kind_of p) (overlap low (low + span_of p mtu) una next) = ap (λ o. reads_of (kind_of p) o) same in
        omega (arith, here, later)

-- ---- numbers before the barrier are acknowledged

-- what lies before the requests does not matter
packets_ahead : (ps : List Posted) (mtu low u una next : ℕ) → u ≤ low → una ≤ low → packets_in_flight ps mtu low u next ≡ packets_in_flight ps mtu low una next
unfolding packets_in_flight
packets_ahead [] mtu low u una next h h' = refl
packets_ahead (p ∷ ps) mtu low u una next h h' =
    let same : overlap low (low + span_of p mtu) u next ≡ overlap low (low + span_of p mtu) una next = omega arith in
    let here : packets_of (kind_of p) (overlap low (low + span_of p mtu) u next) ≡ packets_of (kind_of p) (overlap low (low + span_of p mtu) una next) = ap (λ o. packets_of (kind_of p) o) same in
    let later = packets_ahead ps mtu (low + span_of p mtu) u una next (omega arith) (omega arith) in
    omega (arith, here, later)

reads_ahead : (ps : List Posted) (mtu low u una next : ℕ) → u ≤ low → una ≤ low → reads_in_flight ps mtu low u next ≡ reads_in_flight ps mtu low una next
unfolding reads_in_flight
reads_ahead [] mtu low u una next h h' = refl
reads_ahead (p ∷ ps) mtu low u una next h h' =
    let same : overlap low (low + span_of p mtu) u next ≡ overlap low (low + span_of p mtu) una next = omega arith in
    let here : reads_of (kind_of p) (overlap low (low + span_of p mtu) u next) ≡ reads_of (kind_of p) (overlap low (low + span_of p mtu) una next) = ap (λ o. reads_of (kind_of p) o) same in
    let later = reads_ahead ps mtu (low + span_of p mtu) u una next (omega arith) (omega arith) in
    omega (arith, here, later)

pub packets_acked : (ps : List Posted) (mtu low una u next : ℕ) → una ≤ u → u ≤ next → u ≤ low + next_landing ps mtu (una - low) → packets_in_flight ps mtu low u next + (u - max low una) ≡ packets_in_flight ps mtu low una next
unfolding packets_in_flight next_landing
packets_acked [] mtu low una u next from to bar = omega (arith, bar)
packets_acked (p ∷ ps) mtu low una u next from to bar = by_test _ refl _ refl bar (λ b. packets_acked ps mtu (low + span_of p mtu) una u next from to b)
  where
    by_test : (b : Bool) → nat_lt (una - low) (span_of p mtu) ≡ b → (l : Bool) → lands (kind_of p) ≡ l
        → u ≤ low + (if b then (if l then una - low else span_of p mtu + next_landing ps mtu 0) else span_of p mtu + next_landing ps mtu (una - low - span_of p mtu))
        → (u ≤ (low + span_of p mtu) + next_landing ps mtu (una - (low + span_of p mtu)) → packets_in_flight ps mtu (low + span_of p mtu) u next + (u - max (low + span_of p mtu) una) ≡ packets_in_flight ps mtu (low + span_of p mtu) una next)
        → packets_of (kind_of p) (overlap low (low + span_of p mtu) u next) + packets_in_flight ps mtu (low + span_of p mtu) u next + (u - max low una) ≡ packets_of (kind_of p) (overlap low (low + span_of p mtu) una next) + packets_in_flight ps mtu (low + span_of p mtu) una next
    by_test true e true l bar more =
        let inside : una - low < span_of p mtu = grind (arith, nat_tests, e) in
        let same : overlap low (low + span_of p mtu) u next ≡ overlap low (low + span_of p mtu) una next = omega (arith, bar, inside) in
        let here : packets_of (kind_of p) (overlap low (low + span_of p mtu) u next) ≡ packets_of (kind_of p) (overlap low (low + span_of p mtu) una next) = ap (λ o. packets_of (kind_of p) o) same in
        let later = packets_ahead ps mtu (low + span_of p mtu) u una next (omega (arith, bar, inside)) (omega (arith, inside)) in
        omega (arith, here, later, bar)
    by_test true e false l bar more =
        let inside : una - low < span_of p mtu = grind (arith, nat_tests, e) in
        let zero' : una - (low + span_of p mtu) ≡ 0 = omega (arith, inside) in
        let here = packets-other (kind_of p) (overlap low (low + span_of p mtu) u next) (no_read (kind_of p) l) in
        let before = packets-other (kind_of p) (overlap low (low + span_of p mtu) una next) (no_read (kind_of p) l) in
        let later = more (rw zero' (omega (arith, bar))) in
        omega (arith, here, before, later, inside)
    by_test false e l k bar more =
        let past : span_of p mtu ≤ una - low = grind (arith, nat_tests, e) in
        let rest : una - low - span_of p mtu ≡ una - (low + span_of p mtu) = omega arith in
        let bar' = rw rest at bar in
        let here = packets-none (kind_of p) (overlap low (low + span_of p mtu) u next) (omega (arith, past)) in
        let before = packets-none (kind_of p) (overlap low (low + span_of p mtu) una next) (omega (arith, past)) in
        let later = more (omega (arith, bar')) in
        omega (arith, here, before, later, past)

pub reads_acked : (ps : List Posted) (mtu low una u next : ℕ) → una ≤ u → u ≤ next → u ≤ low + next_landing ps mtu (una - low) → reads_in_flight ps mtu low u next ≡ reads_in_flight ps mtu low una next
unfolding reads_in_flight next_landing
reads_acked [] mtu low una u next from to bar = refl
reads_acked (p ∷ ps) mtu low una u next from to bar = by_test _ refl _ refl bar (λ b. reads_acked ps mtu (low + span_of p mtu) una u next from to b)
  where
    by_test : (b : Bool) → nat_lt (una - low) (span_of p mtu) ≡ b → (l : Bool) → lands (kind_of p) ≡ l
        → u ≤ low + (if b then (if l then una - low else span_of p mtu + next_landing ps mtu 0) else span_of p mtu + next_landing ps mtu (una - low - span_of p mtu))
        → (u ≤ (low + span_of p mtu) + next_landing ps mtu (una - (low + span_of p mtu)) → reads_in_flight ps mtu (low + span_of p mtu) u next ≡ reads_in_flight ps mtu (low + span_of p mtu) una next)
        → reads_of (kind_of p) (overlap low (low + span_of p mtu) u next) + reads_in_flight ps mtu (low + span_of p mtu) u next ≡ reads_of (kind_of p) (overlap low (low + span_of p mtu) una next) + reads_in_flight ps mtu (low + span_of p mtu) una next
    by_test true e true l bar more =
        let inside : una - low < span_of p mtu = grind (arith, nat_tests, e) in
        let same : overlap low (low + span_of p mtu) u next ≡ overlap low (low + span_of p mtu) una next = omega (arith, bar, inside) in
        let here : reads_of (kind_of p) (overlap low (low + span_of p mtu) u next) ≡ reads_of (kind_of p) (overlap low (low + span_of p mtu) una next) = ap (λ o. reads_of (kind_of p) o) same in
        let later = reads_ahead ps mtu (low + span_of p mtu) u una next (omega (arith, bar, inside)) (omega (arith, inside)) in
        omega (arith, here, later)
    by_test true e false l bar more =
        let inside : una - low < span_of p mtu = grind (arith, nat_tests, e) in
        let zero' : una - (low + span_of p mtu) ≡ 0 = omega (arith, inside) in
        let here = reads-other (kind_of p) (overlap low (low + span_of p mtu) u next) l in
        let before = reads-other (kind_of p) (overlap low (low + span_of p mtu) una next) l in
        let later = more (rw zero' (omega (arith, bar))) in
        omega (arith, here, before, later)
    by_test false e l k bar more =
        let past : span_of p mtu ≤ una - low = grind (arith, nat_tests, e) in
        let rest : una - low - span_of p mtu ≡ una - (low + span_of p mtu) = omega arith in
        let bar' = rw rest at bar in
        let here = reads-none (kind_of p) (overlap low (low + span_of p mtu) u next) (omega (arith, past)) in
        let before = reads-none (kind_of p) (overlap low (low + span_of p mtu) una next) (omega (arith, past)) in
        let later = more (omega (arith, bar')) in
        omega (arith, here, before, later)

-- ---- a response lands

-- whether a piece is the last of its request
abbrev pub is_last : ℕ → Piece → Bool
is_last mtu x = x.k + 1 == span_of x.posted mtu

-- where `next` is not inside a Read, a Read of which a number is in flight is sent to its end
whole_front : (p : Posted) (ps : List Posted) (mtu low n next : ℕ) → low ≤ n → n < next → is_read (kind_of p) ≡ true → is_inside_read (piece_at (p ∷ ps) mtu (next - low)) ≡ false → low + span_of p mtu ≤ next
unfolding piece_at
whole_front p ps mtu low n next from below r whole = by_test _ refl whole
  where
    by_test : (b : Bool) → nat_lt (next - low) (span_of p mtu) ≡ b → is_inside_read (if b then Some (record { posted = p; k = next - low }) else piece_at ps mtu (next - low - span_of p mtu)) ≡ false → low + span_of p mtu ≤ next
    by_test true e w =
        let w' : (not (next - low == 0)) ≡ false = rw r at w in
        absurd (grind (arith, nat_tests, w', from, below))
    by_test false e w = let past : span_of p mtu ≤ next - low = grind (arith, nat_tests, e) in omega (arith, past, from, below)

whole_later : (p : Posted) (ps : List Posted) (mtu low next : ℕ) → low + span_of p mtu ≤ next → is_inside_read (piece_at (p ∷ ps) mtu (next - low)) ≡ false → is_inside_read (piece_at ps mtu (next - (low + span_of p mtu))) ≡ false
unfolding piece_at
whole_later p ps mtu low next past = by_test _ refl
  where
    by_test : (b : Bool) → nat_lt (next - low) (span_of p mtu) ≡ b → is_inside_read (if b then Some (record { posted = p; k = next - low }) else piece_at ps mtu (next - low - span_of p mtu)) ≡ false → is_inside_read (piece_at ps mtu (next - (low + span_of p mtu))) ≡ false
    by_test true e w = absurd (grind (arith, nat_tests, e, past))
    by_test false e w = let rest : next - low - span_of p mtu ≡ next - (low + span_of p mtu) = omega arith in rw rest at w

landed_front : (p : Posted) (ps : List Posted) (mtu low n next : ℕ) → low ≤ n → n < next → n < low + span_of p mtu → lands (kind_of p) ≡ true → is_inside_read (piece_at (p ∷ ps) mtu (next - low)) ≡ false
    → (b : Bool) → is_last mtu (record { posted = p; k = n - low }) ≡ b
    → (packets_in_flight (p ∷ ps) mtu low (n + 1) next + (if b then 1 else 0) ≡ packets_in_flight (p ∷ ps) mtu low n next)
    × (reads_in_flight (p ∷ ps) mtu low (n + 1) next + (if b then 1 else 0) ≡ reads_in_flight (p ∷ ps) mtu low n next)
unfolding packets_in_flight reads_in_flight
landed_front p ps mtu low n next from below inside landing whole b e = by_kind _ refl b e
  where
    packets-later : packets_in_flight ps mtu (low + span_of p mtu) (n + 1) next ≡ packets_in_flight ps mtu (low + span_of p mtu) n next
    packets-later = packets_ahead ps mtu (low + span_of p mtu) (n + 1) n next (omega arith) (omega arith)

    reads-later : reads_in_flight ps mtu (low + span_of p mtu) (n + 1) next ≡ reads_in_flight ps mtu (low + span_of p mtu) n next
    reads-later = reads_ahead ps mtu (low + span_of p mtu) (n + 1) n next (omega arith) (omega arith)

    by_kind : (r : Bool) → is_read (kind_of p) ≡ r → (b : Bool) → is_last mtu (record { posted = p; k = n - low }) ≡ b
        → (packets_of (kind_of p) (overlap low (low + span_of p mtu) (n + 1) next) + packets_in_flight ps mtu (low + span_of p mtu) (n + 1) next + (if b then 1 else 0) ≡ packets_of (kind_of p) (overlap low (low + span_of p mtu) n next) + packets_in_flight ps mtu (low + span_of p mtu) n next)
        × (reads_of (kind_of p) (overlap low (low + span_of p mtu) (n + 1) next) + reads_in_flight ps mtu (low + span_of p mtu) (n + 1) next + (if b then 1 else 0) ≡ reads_of (kind_of p) (overlap low (low + span_of p mtu) n next) + reads_in_flight ps mtu (low + span_of p mtu) n next)
    by_kind true r true e =
        let last : n - low + 1 ≡ span_of p mtu = grind (arith, nat_tests, e) in
        let all = whole_front p ps mtu low n next from below r whole in
        let a = packets-read (kind_of p) (overlap low (low + span_of p mtu) (n + 1) next) r in
        let b = packets-read (kind_of p) (overlap low (low + span_of p mtu) n next) r in
        let c = reads-landing (kind_of p) (overlap low (low + span_of p mtu) (n + 1) next) landing in
        let d = reads-landing (kind_of p) (overlap low (low + span_of p mtu) n next) landing in
        (omega (arith, a, b, last, all, packets-later), omega (arith, c, d, last, all, reads-later))
    by_kind true r false e =
        let last : n - low + 1 ≢ span_of p mtu = grind (arith, nat_tests, e) in
        let all = whole_front p ps mtu low n next from below r whole in
        let a = packets-read (kind_of p) (overlap low (low + span_of p mtu) (n + 1) next) r in
        let b = packets-read (kind_of p) (overlap low (low + span_of p mtu) n next) r in
        let c = reads-landing (kind_of p) (overlap low (low + span_of p mtu) (n + 1) next) landing in
        let d = reads-landing (kind_of p) (overlap low (low + span_of p mtu) n next) landing in
        (omega (arith, a, b, last, all, packets-later), omega (arith, c, d, last, all, reads-later))
    by_kind false r true e =
        let single = atomic_span p mtu landing r in
        let a = packets-other (kind_of p) (overlap low (low + span_of p mtu) (n + 1) next) r in
        let b = packets-other (kind_of p) (overlap low (low + span_of p mtu) n next) r in
        let c = reads-landing (kind_of p) (overlap low (low + span_of p mtu) (n + 1) next) landing in
        let d = reads-landing (kind_of p) (overlap low (low + span_of p mtu) n next) landing in
        (omega (arith, a, b, single, packets-later), omega (arith, c, d, single, reads-later))
    by_kind false r false e =
        let single = atomic_span p mtu landing r in
        let last : n - low + 1 ≢ span_of p mtu = grind (arith, nat_tests, e) in
        absurd (omega (arith, single, last))

-- the packets and the Reads in flight once the response of number n has landed
pub landed : (ps : List Posted) (mtu low n next : ℕ) (x : Piece) → low ≤ n → n < next → piece_at ps mtu (n - low) ≡ Some x → lands (kind_of x.posted) ≡ true → is_inside_read (piece_at ps mtu (next - low)) ≡ false
    → (packets_in_flight ps mtu low (n + 1) next + (if is_last mtu x then 1 else 0) ≡ packets_in_flight ps mtu low n next)
    × (reads_in_flight ps mtu low (n + 1) next + (if is_last mtu x then 1 else 0) ≡ reads_in_flight ps mtu low n next)
unfolding packets_in_flight reads_in_flight piece_at
landed [] mtu low n next x from below h landing whole = absurd (cc)
landed (p ∷ ps) mtu low n next x from below h landing whole = by_test _ refl h (λ f g w. landed ps mtu (low + span_of p mtu) n next x f below g landing w)
  where
    Fact : Piece → Type 0
    Fact y =
        (packets_in_flight (p ∷ ps) mtu low (n + 1) next + (if is_last mtu y then 1 else 0) ≡ packets_in_flight (p ∷ ps) mtu low n next)
        × (reads_in_flight (p ∷ ps) mtu low (n + 1) next + (if is_last mtu y then 1 else 0) ≡ reads_in_flight (p ∷ ps) mtu low n next)

    by_test : (b : Bool) → nat_lt (n - low) (span_of p mtu) ≡ b → (if b then Some (record { posted = p; k = n - low }) else piece_at ps mtu (n - low - span_of p mtu)) ≡ Some x
        → (low + span_of p mtu ≤ n → piece_at ps mtu (n - (low + span_of p mtu)) ≡ Some x → is_inside_read (piece_at ps mtu (next - (low + span_of p mtu))) ≡ false
        → (packets_in_flight ps mtu (low + span_of p mtu) (n + 1) next + (if is_last mtu x then 1 else 0) ≡ packets_in_flight ps mtu (low + span_of p mtu) n next)
        × (reads_in_flight ps mtu (low + span_of p mtu) (n + 1) next + (if is_last mtu x then 1 else 0) ≡ reads_in_flight ps mtu (low + span_of p mtu) n next))
        → Fact x
    by_test true e g more =
        let px : (record { posted = p; k = n - low }) ≡ x = cc in
        let inside : n - low < span_of p mtu = grind (arith, nat_tests, e) in
        let here : lands (kind_of p) ≡ true = ap (λ (y : Piece). lands (kind_of y.posted)) px ∙ landing in
        subst Fact px (landed_front p ps mtu low n next from below (omega (arith, inside)) here whole _ refl)
    by_test false e g more =
        let past : span_of p mtu ≤ n - low = grind (arith, nat_tests, e) in
        let rest : n - low - span_of p mtu ≡ n - (low + span_of p mtu) = omega arith in
        let later = more (omega (arith, past)) (rw rest at g) (whole_later p ps mtu low next (omega (arith, past)) whole) in
        let a = packets-none (kind_of p) (overlap low (low + span_of p mtu) (n + 1) next) (omega (arith, past)) in
        let b = packets-none (kind_of p) (overlap low (low + span_of p mtu) n next) (omega (arith, past)) in
        let c = reads-none (kind_of p) (overlap low (low + span_of p mtu) (n + 1) next) (omega (arith, past)) in
        let d = reads-none (kind_of p) (overlap low (low + span_of p mtu) n next) (omega (arith, past)) in
        (omega (arith, a, b, later.0), omega (arith, c, d, later.1))
