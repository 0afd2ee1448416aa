-- Queued requests without their bytes, and marks among them.
use Rattle.std.proofs.Common.{arith, ◌≡◌, ◌<◌, ◌≤◌, ◌+◌, ◌-◌, ℕ, zero, suc, List, [], ◌∷◌, ◌++◌, length, drop, refl, sym, ap, ◌∙◌, add-one}
use Rattle.std.specs.Prelude.{Option, Some, None, slice_get, unwrap_or}
use Rattle.rdma_types.specs.Objects as objects
use Rattle.rdma_types.specs.Kinds.{kind_of}
use Rattle.rdma_types.specs.Spans.{end_number, first_number, span, span_of}
use Rattle.protocol.specs.Requester.{overlap, packets_in_flight, packets_of, reads_in_flight}
use Rattle.end_queues.specs.declared.work_queues.posted.QueuedRequest.{QueuedRequest}
use Rattle.requester.specs.declared.marks.Mark.{Mark}
use Rattle.requester.specs.Marks.{IsMark}
use Rattle.requester.specs.Sending.{bare, bares}
use Rattle.requester.proofs.Flight.{reads_of}
use Rattle.rdma_types.proofs.Places.{first-suc, found_within, span_inside, span_positive}

pub length-bares : (ps : List QueuedRequest) → length (bares ps) ≡ length ps
length-bares [] = refl
length-bares (p ∷ ps) = ap suc (length-bares ps)

pub bare_at : (ps : List QueuedRequest) (i : ℕ) (p : QueuedRequest) → slice_get ps i ≡ Some p → slice_get (bares ps) i ≡ Some (bare p)
bare_at [] i p h = absurd (cc)
bare_at (q ∷ ps) zero p h = let same : q ≡ p = cc in ap (λ r. Some (bare r)) same
bare_at (q ∷ ps) (suc i) p h = bare_at ps i p h

pub bare_none : (ps : List QueuedRequest) (i : ℕ) → slice_get ps i ≡ None → slice_get (bares ps) i ≡ None
bare_none [] i h = refl
bare_none (q ∷ ps) zero h = absurd (cc)
bare_none (q ∷ ps) (suc i) h = bare_none ps i h

pub bares-push : (ps : List QueuedRequest) (p : QueuedRequest) → bares (ps ++ p ∷ []) ≡ bares ps ++ bare p ∷ []
bares-push [] p = refl
bares-push (q ∷ ps) p = ap (λ rs. bare q ∷ rs) (bares-push ps p)

pub bares-drop : (ps : List QueuedRequest) → bares (drop 1 ps) ≡ drop 1 (bares ps)
bares-drop [] = refl
bares-drop (p ∷ ps) = refl

-- the next mark
pub record Step (ps : List objects.Posted) (mtu : ℕ) (m : Mark) (p : objects.Posted) : Type 0 where
  pub after : IsMark ps mtu (record { index = m.index + 1; offset = m.offset + span_of p mtu })
  pub within : m.offset + span_of p mtu ≤ end_number ps mtu
  pub few : m.index + 1 ≤ m.offset + span_of p mtu
  pub there : m.index < length ps

-- there are as many numbers as requests
pub index_few : (ps : List objects.Posted) (mtu i : ℕ) → i ≤ length ps → i ≤ first_number ps mtu i
unfolding first_number
index_few [] mtu i h = omega (arith, h)
index_few (p ∷ ps) mtu zero h = omega arith
index_few (p ∷ ps) mtu (suc i) h = let later = index_few ps mtu i (omega (arith, h)) in let some = span_positive p.request.shape mtu in omega (arith, later, some)

pub step : (ps : List objects.Posted) (mtu : ℕ) (m : Mark) (p : objects.Posted) → IsMark ps mtu m → slice_get ps m.index ≡ Some p → Step ps mtu m p
step ps mtu m p h e =
    let there = found_within ps m.index p e in
    let next = first-suc ps mtu m.index p e in
    let some = span_positive p.request.shape mtu in
    let few = index_few ps mtu m.index h.within in
    let inside = span_inside ps mtu m.index p e in
    record {
      after = rw add-one (record { within = omega (arith, there); offset = omega (arith, next, h.offset) });
      within = omega (arith, inside, h.offset);
      few = omega (arith, few, h.offset, some);
      there = there;
    }

-- one more request is counted
drop_at : (ps : List objects.Posted) (i : ℕ) (p : objects.Posted) → slice_get ps i ≡ Some p → drop i ps ≡ p ∷ drop (suc i) ps
drop_at [] i p h = absurd (cc)
drop_at (q ∷ ps) zero p h = let same : q ≡ p = cc in ap (λ r. r ∷ ps) same
drop_at (q ∷ ps) (suc i) p h = drop_at ps i p h

pub packets_more : (ps : List objects.Posted) (mtu i low una next : ℕ) (p : objects.Posted) → slice_get ps i ≡ Some p
    → packets_in_flight (drop i ps) mtu low una next ≡ packets_of (kind_of p) (overlap low (low + span_of p mtu) una next) + packets_in_flight (drop (i + 1) ps) mtu (low + span_of p mtu) una next
unfolding packets_in_flight
packets_more ps mtu i low una next p h = rw (add-one, drop_at ps i p h) refl

pub reads_more : (ps : List objects.Posted) (mtu i low una next : ℕ) (p : objects.Posted) → slice_get ps i ≡ Some p
    → reads_in_flight (drop i ps) mtu low una next ≡ reads_of (kind_of p) (overlap low (low + span_of p mtu) una next) + reads_in_flight (drop (i + 1) ps) mtu (low + span_of p mtu) una next
unfolding reads_in_flight
reads_more ps mtu i low una next p h = rw (add-one, drop_at ps i p h) refl

pub drop_all : (ps : List objects.Posted) (i : ℕ) → slice_get ps i ≡ None → drop i ps ≡ []
drop_all [] zero h = refl
drop_all [] (suc i) h = refl
drop_all (p ∷ ps) zero h = absurd (cc)
drop_all (p ∷ ps) (suc i) h = drop_all ps i h
