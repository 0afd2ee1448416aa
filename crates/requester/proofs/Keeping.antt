-- What each call does keeps what a requester holds beside its numbers.
use Rattle.std.proofs.Common.{arith, ◌≡◌, ◌≢◌, ◌<◌, ◌≤◌, ◌+◌, ◌-◌, ℕ, zero, suc, List, [], ◌∷◌, ◌++◌, length, drop, Bool, true, false, refl, sym, ap, ◌∙◌, ◌⊎◌, ⊎_elim, inl, inr, subst}
use Rattle.std.specs.Prelude.{Option, Some, None, min, max, nat_lt, if◌then◌else◌, not, ◌==◌, ◌&&◌, ◌||◌, slice_get}
use Rattle.std.proofs.lemmas.Bool.Decides.{nat_tests}
use Rattle.rdma_types.specs.declared.requests.Terms.{Terms}
use Rattle.rdma_types.specs.Objects.{Posted}
use Rattle.rdma_types.specs.Kinds.{is_read, kind_of, lands}
use Rattle.rdma_types.specs.Limits.{number_limit}
use Rattle.rdma_types.specs.Spans.{Piece, end_number, first_number, next_landing, piece_at, request_of, span_of}
use Rattle.rdma_types.proofs.Numbers as numbers
use Rattle.protocol.proofs.SentPieces.{less_or_same, past_outside, past_piece}
use Rattle.protocol.specs.Requester.{is_inside_read, packets_in_flight, reads_in_flight}
use Rattle.protocol.specs.State.{Sender}
use Rattle.requester.specs.declared.caches.DerivedNumbers.{DerivedNumbers}
use Rattle.requester.specs.declared.marks.Mark.{Mark}
use Rattle.requester.specs.Held.{IsHeld}
use Rattle.requester.specs.Marks.{IsMark, IsPast}
use Rattle.requester.specs.declared.answers.RequesterParts.{RequesterParts}
use Rattle.requester.specs.Sending.{AreInOrder, sender_with}
use Rattle.requester.proofs.Flight.{is_last, landed, packets_acked, packets_few, packets_none, packets-push, packets_sent, packets_without_front, reads_acked, reads_few, reads_none, reads-push, reads_sent, reads_without_front}
use Rattle.rdma_types.proofs.Places.{at_end, end-push, first-push, first-suc, first-zero, found_within, landing-push, landing_between, landing_lands, landing_pushed, piece-push, piece_behind, piece_below_span, piece_ends, piece_pushed, request-push, request_here, request_of_piece, request_past, span_positive}

-- the front is a mark
pub IsMark-front : (ps : List Posted) (mtu : ℕ) → IsMark ps mtu (record { index = 0; offset = 0 })
IsMark-front ps mtu = record { within = omega arith; offset = sym (first-zero ps mtu) }

-- where nothing is counted
pub IsPast-none : (ps : List Posted) (mtu : ℕ) (m : Mark) → IsPast ps mtu m 0
IsPast-none ps mtu m = record { within = λ lt. absurd (omega (arith, lt)); number = λ lt. absurd (omega (arith, lt)) }

-- where the request at the mark is counted
pub IsPast-counted : (ps : List Posted) (mtu : ℕ) (m : Mark) (p : Posted) → IsMark ps mtu m → slice_get ps m.index ≡ Some p → IsPast ps mtu m (m.offset + span_of p mtu)
IsPast-counted ps mtu m p h there = record { within = λ lt. found_within ps m.index p there; number = λ lt. omega (arith, h.offset, first-suc ps mtu m.index p there) }

-- a number before the counted end is of the request at the mark
pub past_here : (ps : List Posted) (mtu : ℕ) (m : Mark) (past n : ℕ) → IsMark ps mtu m → IsPast ps mtu m past → m.offset ≤ n → n < past → request_of ps mtu n ≡ m.index
past_here ps mtu m past n h counted low high = by_option _ refl
  where
    above : m.offset < past
    above = omega (arith, low, high)

    by_option : (o : Option Posted) → slice_get ps m.index ≡ o → request_of ps mtu n ≡ m.index
    by_option None e = absurd (omega (arith, at_end ps m.index e h.within, counted.within above))
    by_option (Some p) e = request_here ps mtu m.index n p e (omega (arith, h.offset, low)) (omega (arith, high, counted.number above, first-suc ps mtu m.index p e))

-- ---- a rewind

pub held_rewound : (t : Terms) (s : Sender) (c : DerivedNumbers) → IsHeld t s c → IsHeld t (record s { next = s.una }) (record c { cursor = record { index = 0; offset = 0 }; cursor_past = 0; packets = 0; reads = 0 })
held_rewound t s c h = record {
  mtu = h.mtu;
  order = record {
    una = h.order.una;
    next = omega arith;
    top = omega (arith, h.order.next, h.order.top);
    all = h.order.all;
    limit = h.order.limit;
    whole_reads = λ lt. absurd (omega (arith, lt));
    spent = h.order.spent;
  };
  end = h.end;
  cursor = IsMark-front s.untold t.mtu;
  cursor_before = omega arith;
  past = IsPast-none s.untold t.mtu (record { index = 0; offset = 0 });
  barrier = h.barrier;
  barrier_mark = h.barrier_mark;
  barrier_index = h.barrier_index;
  packets = sym (packets_none s.untold t.mtu s.first s.una s.una (omega arith));
  reads = sym (reads_none s.untold t.mtu s.first s.una s.una (omega arith));
}

-- one more expiry is counted
pub held_spent : (t : Terms) (s : Sender) (c : DerivedNumbers) → IsHeld t s c → s.spent ≢ t.retry → IsHeld t (record s { spent = s.spent + 1 }) c
held_spent t s c h other = record {
  mtu = h.mtu;
  order = record {
    una = h.order.una;
    next = h.order.next;
    top = h.order.top;
    all = h.order.all;
    limit = h.order.limit;
    whole_reads = h.order.whole_reads;
    spent = omega (arith, h.order.spent, other);
  };
  end = h.end;
  cursor = h.cursor;
  cursor_before = h.cursor_before;
  past = h.past;
  barrier = h.barrier;
  barrier_mark = h.barrier_mark;
  barrier_index = h.barrier_index;
  packets = h.packets;
  reads = h.reads;
}

-- ---- numbers before the barrier are acknowledged

-- so many packets are in flight at least
pub acked_few : (t : Terms) (s : Sender) (c : DerivedNumbers) → IsHeld t s c → (n : ℕ) → s.una ≤ n → n ≤ c.barrier → n < s.next → n - s.una ≤ c.packets
acked_few t s c h n low bar below =
    let bar' : n ≤ s.first + next_landing s.untold t.mtu (s.una - s.first) = omega (arith, bar, h.barrier) in
    let e = packets_acked s.untold t.mtu s.first s.una n s.next low (omega (arith, below)) bar' in
    omega (arith, e, h.packets, h.order.una, low)

pub held_acked : (t : Terms) (s : Sender) (c : DerivedNumbers) → IsHeld t s c → (n : ℕ) → s.una < n → n ≤ c.barrier → n ≤ s.top
    → IsHeld t (record s { una = n; next = max s.next n; spent = 0; waits = 0 }) (record c { packets = if nat_lt n s.next then c.packets - (n - s.una) else 0; reads = if nat_lt n s.next then c.reads else 0 })
held_acked t s c h n low bar below = record {
  mtu = h.mtu;
  order = record {
    una = omega (arith, h.order.una, low);
    next = omega arith;
    top = omega (arith, h.order.top, below);
    all = h.order.all;
    limit = h.order.limit;
    whole_reads = λ lt. let same : max s.next n ≡ s.next = omega (arith, lt) in rw same (h.order.whole_reads (omega (arith, lt, low)));
    spent = omega arith;
  };
  end = h.end;
  cursor = h.cursor;
  cursor_before = omega (arith, h.cursor_before);
  past = h.past;
  barrier = h.barrier ∙ ap (λ k. s.first + k) (sym (landing_between s.untold t.mtu (s.una - s.first) (n - s.first) (omega (arith, low)) (omega (arith, bar, h.barrier))));
  barrier_mark = h.barrier_mark;
  barrier_index = h.barrier_index;
  packets = in_flight _ refl;
  reads = reading _ refl;
}
  where
    bar' : n ≤ s.first + next_landing s.untold t.mtu (s.una - s.first)
    bar' = omega (arith, bar, h.barrier)

    in_flight : (b : Bool) → nat_lt n s.next ≡ b → (if b then c.packets - (n - s.una) else 0) ≡ packets_in_flight s.untold t.mtu s.first n (max s.next n)
    in_flight true e =
        let lt : n < s.next = grind (arith, nat_tests, e) in
        let same : max s.next n ≡ s.next = omega (arith, lt) in
        let few = packets_acked s.untold t.mtu s.first s.una n s.next (omega (arith, low)) (omega (arith, lt)) bar' in
        rw same (omega (arith, few, h.packets, h.order.una, low))
    in_flight false e =
        let ge : s.next ≤ n = grind (arith, nat_tests, e) in
        sym (packets_none s.untold t.mtu s.first n (max s.next n) (omega (arith, ge)))

    reading : (b : Bool) → nat_lt n s.next ≡ b → (if b then c.reads else 0) ≡ reads_in_flight s.untold t.mtu s.first n (max s.next n)
    reading true e =
        let lt : n < s.next = grind (arith, nat_tests, e) in
        let same : max s.next n ≡ s.next = omega (arith, lt) in
        let few = reads_acked s.untold t.mtu s.first s.una n s.next (omega (arith, low)) (omega (arith, lt)) bar' in
        rw same (h.reads ∙ sym few)
    reading false e =
        let ge : s.next ≤ n = grind (arith, nat_tests, e) in
        sym (reads_none s.untold t.mtu s.first n (max s.next n) (omega (arith, ge)))

-- ---- the response at the barrier lands

-- what is in flight before and after
pub record Passed (t : Terms) (s : Sender) (c : DerivedNumbers) (x : Piece) : Type 0 where
  pub packets : c.barrier - s.una + (if is_last t.mtu x then 1 else 0) ≤ c.packets
  pub reads : (if is_last t.mtu x then 1 else 0) ≤ c.reads
  pub packets-left : c.packets - (c.barrier - s.una + (if is_last t.mtu x then 1 else 0)) ≡ packets_in_flight s.untold t.mtu s.first (c.barrier + 1) s.next
  pub reads-left : c.reads - (if is_last t.mtu x then 1 else 0) ≡ reads_in_flight s.untold t.mtu s.first (c.barrier + 1) s.next

pub landed_few : (t : Terms) (s : Sender) (c : DerivedNumbers) → IsHeld t s c → (x : Piece) → piece_at s.untold t.mtu (c.barrier - s.first) ≡ Some x → c.barrier < s.next → Passed t s c x
landed_few t s c h x found below =
    let gone : s.first + next_landing s.untold t.mtu (s.una - s.first) - s.first ≡ next_landing s.untold t.mtu (s.una - s.first) = omega arith in
    let place : c.barrier - s.first ≡ next_landing s.untold t.mtu (s.una - s.first) = ap (λ n. n - s.first) h.barrier ∙ gone in
    let landing = landing_lands s.untold t.mtu (s.una - s.first) x (rw place at found) in
    let after = numbers.landing_after s.untold t.mtu (s.una - s.first) in
    let low : s.una ≤ c.barrier = omega (arith, after, h.barrier, h.order.una) in
    let first = packets_acked s.untold t.mtu s.first s.una c.barrier s.next low (omega (arith, below)) (omega (arith, h.barrier)) in
    let first' = reads_acked s.untold t.mtu s.first s.una c.barrier s.next low (omega (arith, below)) (omega (arith, h.barrier)) in
    let then' = landed s.untold t.mtu s.first c.barrier s.next x (omega (arith, low, h.order.una)) below found landing (h.order.whole_reads (omega (arith, low, below))) in
    record {
      packets = omega (arith, first, then'.0, h.packets, h.order.una);
      reads = omega (arith, first', then'.1, h.reads);
      packets-left = omega (arith, first, then'.0, h.packets, h.order.una);
      reads-left = omega (arith, first', then'.1, h.reads);
    }

-- it is not before `una`
pub barrier_above : (t : Terms) (s : Sender) (c : DerivedNumbers) → IsHeld t s c → s.una ≤ c.barrier
barrier_above t s c h = let after = numbers.landing_after s.untold t.mtu (s.una - s.first) in omega (arith, after, h.barrier, h.order.una)

-- .. nor past the end
pub barrier_within : (t : Terms) (s : Sender) (c : DerivedNumbers) → IsHeld t s c → c.barrier ≤ c.end
barrier_within t s c h =
    let o = h.order in
    let w = numbers.landing_before_end s.untold t.mtu (s.una - s.first) (omega (arith, o.next, o.top, o.all)) in
    omega (arith, w, h.barrier, h.end)

pub held_landed : (t : Terms) (s : Sender) (c : DerivedNumbers) → IsHeld t s c → (x : Piece) → piece_at s.untold t.mtu (c.barrier - s.first) ≡ Some x → c.barrier < s.top
    → (n : ℕ) (at : Mark) → n ≡ next_landing s.untold t.mtu (c.barrier - s.first + 1) → IsMark s.untold t.mtu at → at.index ≡ request_of s.untold t.mtu n
    → IsHeld t (record s { una = c.barrier + 1; next = max s.next (c.barrier + 1); spent = 0; waits = 0 })
    (record c {
      barrier = s.first + n;
      barrier_at = at;
      packets = if nat_lt c.barrier s.next then c.packets - (c.barrier - s.una + (if is_last t.mtu x then 1 else 0)) else 0;
      reads = if nat_lt c.barrier s.next then c.reads - (if is_last t.mtu x then 1 else 0) else 0;
    })
held_landed t s c h x found below n at next mark place = record {
  mtu = h.mtu;
  order = record {
    una = omega (arith, h.order.una, above);
    next = omega arith;
    top = omega (arith, h.order.top, below);
    all = h.order.all;
    limit = h.order.limit;
    whole_reads = λ lt. let same : max s.next (c.barrier + 1) ≡ s.next = omega (arith, lt) in rw same (h.order.whole_reads (omega (arith, lt, above)));
    spent = omega arith;
  };
  end = h.end;
  cursor = h.cursor;
  cursor_before = omega (arith, h.cursor_before);
  past = h.past;
  barrier = ap (λ k. s.first + k) (next ∙ ap (λ k. next_landing s.untold t.mtu k) rest);
  barrier_mark = mark;
  barrier_index = let gone : s.first + n - s.first ≡ n = omega arith in rw gone place;
  packets = in_flight _ refl;
  reads = reading _ refl;
}
  where
    above : s.una ≤ c.barrier
    above = barrier_above t s c h

    rest : c.barrier - s.first + 1 ≡ c.barrier + 1 - s.first
    rest = omega (arith, above, h.order.una)

    in_flight : (b : Bool) → nat_lt c.barrier s.next ≡ b → (if b then c.packets - (c.barrier - s.una + (if is_last t.mtu x then 1 else 0)) else 0) ≡ packets_in_flight s.untold t.mtu s.first (c.barrier + 1) (max s.next (c.barrier + 1))
    in_flight true e =
        let lt : c.barrier < s.next = grind (arith, nat_tests, e) in
        let same : max s.next (c.barrier + 1) ≡ s.next = omega (arith, lt) in
        let few = landed_few t s c h x found lt in
        rw same few.packets-left
    in_flight false e =
        let ge : s.next ≤ c.barrier = grind (arith, nat_tests, e) in
        sym (packets_none s.untold t.mtu s.first (c.barrier + 1) (max s.next (c.barrier + 1)) (omega (arith, ge)))

    reading : (b : Bool) → nat_lt c.barrier s.next ≡ b → (if b then c.reads - (if is_last t.mtu x then 1 else 0) else 0) ≡ reads_in_flight s.untold t.mtu s.first (c.barrier + 1) (max s.next (c.barrier + 1))
    reading true e =
        let lt : c.barrier < s.next = grind (arith, nat_tests, e) in
        let same : max s.next (c.barrier + 1) ≡ s.next = omega (arith, lt) in
        let few = landed_few t s c h x found lt in
        rw same few.reads-left
    reading false e =
        let ge : s.next ≤ c.barrier = grind (arith, nat_tests, e) in
        sym (reads_none s.untold t.mtu s.first (c.barrier + 1) (max s.next (c.barrier + 1)) (omega (arith, ge)))

-- ---- a piece is sent

-- where `next` is, its request is whole or nothing is in flight
pub whole_or_rewound : (x : Piece) (una next : ℕ) → una ≤ next → (una < next → is_inside_read (Some x) ≡ false) → is_read (kind_of x.posted) ≡ true → (x.k ≡ 0) ⊎ (una ≡ next)
whole_or_rewound x una next le whole r = by_order (less_or_same una next le)
  where
    by_order : (una < next) ⊎ (una ≡ next) → (x.k ≡ 0) ⊎ (una ≡ next)
    by_order (inl lt) = let w : (not (x.k == 0)) ≡ false = rw r at (whole lt) in inl (grind (arith, nat_tests, w))
    by_order (inr e) = inr e

pub held_sent : (t : Terms) (s : Sender) (c : DerivedNumbers) → IsHeld t s c → (x : Piece) (at : Mark) → piece_at s.untold t.mtu (s.next - s.first) ≡ Some x → IsMark s.untold t.mtu at → at.index ≡ request_of s.untold t.mtu (s.next - s.first) → at.offset ≤ s.next - s.first
    → IsHeld t (record s { next = past_piece t.mtu s.next x; top = max s.top (past_piece t.mtu s.next x) }) (record c { cursor = at; cursor_past = at.offset + span_of x.posted t.mtu; packets = c.packets + 1; reads = c.reads + (if lands (kind_of x.posted) then 1 else 0) })
held_sent t s c h x at found mark index before = record {
  mtu = h.mtu;
  order = record {
    una = h.order.una;
    next = omega (arith, h.order.next, beyond);
    top = omega arith;
    all = omega (arith, h.order.all, within);
    limit = h.order.limit;
    whole_reads = λ lt. rw place (past_outside s.untold t.mtu (s.next - s.first) x found);
    spent = h.order.spent;
  };
  end = h.end;
  cursor = mark;
  cursor_before = omega (arith, before, beyond);
  past = IsPast-counted s.untold t.mtu at x.posted mark (rw index (request_of_piece s.untold t.mtu (s.next - s.first) x found));
  barrier = h.barrier;
  barrier_mark = h.barrier_mark;
  barrier_index = h.barrier_index;
  packets = ap (λ n. n + 1) h.packets ∙ sym (packets_sent s.untold t.mtu s.first s.una s.next x low h.order.next found whole);
  reads = ap (λ n. n + (if lands (kind_of x.posted) then 1 else 0)) h.reads ∙ sym (reads_sent s.untold t.mtu s.first s.una s.next x low h.order.next found whole);
}
  where
    low : s.first ≤ s.next
    low = omega (arith, h.order.una, h.order.next)

    sizes : (x.k ≤ s.next - s.first) × (x.k < span_of x.posted t.mtu)
    sizes = piece_below_span s.untold t.mtu (s.next - s.first) x found

    ends : (s.next - s.first - x.k) + span_of x.posted t.mtu ≤ end_number s.untold t.mtu
    ends = piece_ends s.untold t.mtu (s.next - s.first) x found

    beyond : s.next ≤ past_piece t.mtu s.next x
    beyond = elim (is_read (kind_of x.posted)) as (λ b. s.next ≤ (if b then (s.next - x.k) + span_of x.posted t.mtu else s.next + 1)) [ true ↦ omega (arith, sizes.0, sizes.1) | false ↦ omega arith ]

    within : past_piece t.mtu s.next x ≤ s.first + end_number s.untold t.mtu
    within = elim (is_read (kind_of x.posted)) as (λ b. (if b then (s.next - x.k) + span_of x.posted t.mtu else s.next + 1) ≤ s.first + end_number s.untold t.mtu) [ true ↦ omega (arith, sizes.0, sizes.1, ends, low) | false ↦ omega (arith, sizes.0, sizes.1, ends, low) ]

    place : past_piece t.mtu s.next x - s.first ≡ past_piece t.mtu (s.next - s.first) x
    place = elim (is_read (kind_of x.posted)) as (λ b. (if b then (s.next - x.k) + span_of x.posted t.mtu else s.next + 1) - s.first ≡ (if b then (s.next - s.first - x.k) + span_of x.posted t.mtu else s.next - s.first + 1)) [ true ↦ omega (arith, sizes.0, low) | false ↦ omega (arith, low) ]

    whole : is_read (kind_of x.posted) ≡ true → (x.k ≡ 0) ⊎ (s.una ≡ s.next)
    whole = whole_or_rewound x s.una s.next h.order.next (λ lt. ap is_inside_read (sym found) ∙ h.order.whole_reads lt)

-- ---- one more request is posted

-- a barrier is below the end where its request is there
index_within : (ps : List Posted) (mtu n : ℕ) → nat_lt (request_of ps mtu n) (length ps) ≡ nat_lt n (end_number ps mtu)
index_within ps mtu n = by_test _ refl
  where
    by_test : (b : Bool) → nat_lt n (end_number ps mtu) ≡ b → nat_lt (request_of ps mtu n) (length ps) ≡ b
    by_test true e = let w = numbers.within ps mtu n (grind (arith, nat_tests, e)) in grind (arith, nat_tests, w)
    by_test false e = let w = request_past ps mtu n (grind (arith, nat_tests, e)) in grind (arith, nat_tests, w)

pub length-push : (ps : List Posted) (p : Posted) → length (ps ++ p ∷ []) ≡ suc (length ps)
length-push [] p = refl
length-push (q ∷ ps) p = ap suc (length-push ps p)

-- what the barrier is where one more request is posted
record Barred (t : Terms) (s : Sender) (c : DerivedNumbers) (p : Posted) (stays : Bool) : Type 0 where
  pub barrier : (if stays then c.barrier else c.barrier + span_of p t.mtu) ≡ s.first + next_landing (s.untold ++ p ∷ []) t.mtu (s.una - s.first)
  pub mark : IsMark (s.untold ++ p ∷ []) t.mtu (if stays then c.barrier_at else record { index = c.barrier_at.index + 1; offset = c.barrier_at.offset + span_of p t.mtu })
  pub index : (if stays then c.barrier_at else record { index = c.barrier_at.index + 1; offset = c.barrier_at.offset + span_of p t.mtu }).index ≡ request_of (s.untold ++ p ∷ []) t.mtu ((if stays then c.barrier else c.barrier + span_of p t.mtu) - s.first)

IsMark-push : (ps : List Posted) (mtu : ℕ) (m : Mark) (p : Posted) → IsMark ps mtu m → IsMark (ps ++ p ∷ []) mtu m
IsMark-push ps mtu m p h = record { within = omega (arith, h.within, length-push ps p); offset = h.offset ∙ sym (first-push ps mtu m.index p h.within) }

IsPast-push : (ps : List Posted) (mtu : ℕ) (m : Mark) (past : ℕ) (p : Posted) → IsPast ps mtu m past → IsPast (ps ++ p ∷ []) mtu m past
IsPast-push ps mtu m past p h = record {
  within = λ lt. omega (arith, h.within lt, length-push ps p);
  number = λ lt. h.number lt ∙ sym (first-push ps mtu (suc m.index) p (omega (arith, h.within lt)));
}

request_pushed : (ps : List Posted) (mtu : ℕ) (p : Posted) → request_of (ps ++ p ∷ []) mtu (end_number ps mtu) ≡ length ps
unfolding request_of end_number
request_pushed [] mtu p = let some = span_positive p.request.shape mtu in grind (arith, nat_tests, some)
request_pushed (q ∷ ps) mtu p =
    let gone : span_of q mtu + end_number ps mtu - span_of q mtu ≡ end_number ps mtu = omega arith in
    grind (arith, nat_tests, gone, request_pushed ps mtu p)

module _ (t : Terms) (s : Sender) (c : DerivedNumbers) (h : IsHeld t s c) (p : Posted) where
  place : c.barrier - s.first ≡ next_landing s.untold t.mtu (s.una - s.first)
  place = let gone : s.first + next_landing s.untold t.mtu (s.una - s.first) - s.first ≡ next_landing s.untold t.mtu (s.una - s.first) = omega arith in ap (λ n. n - s.first) h.barrier ∙ gone

  una_within : s.una - s.first ≤ end_number s.untold t.mtu
  una_within = omega (arith, h.order.next, h.order.top, h.order.all)

  barrier_below : c.barrier - s.first ≤ end_number s.untold t.mtu
  barrier_below = rw place (numbers.landing_before_end s.untold t.mtu (s.una - s.first) una_within)

  -- a barrier that is there stays
  barred_there : nat_lt c.barrier_at.index (length s.untold) ≡ true → Barred t s c p true
  barred_there e =
      let there : nat_lt (c.barrier - s.first) (end_number s.untold t.mtu) ≡ true = sym (index_within s.untold t.mtu (c.barrier - s.first)) ∙ (ap (λ i. nat_lt i (length s.untold)) (sym h.barrier_index) ∙ e) in
      let below : c.barrier - s.first < end_number s.untold t.mtu = grind (arith, nat_tests, there) in
      let same = landing-push s.untold t.mtu (s.una - s.first) p (rw place at below) in
      record {
        barrier = h.barrier ∙ ap (λ n. s.first + n) (sym same);
        mark = IsMark-push s.untold t.mtu c.barrier_at p h.barrier_mark;
        index = h.barrier_index ∙ sym (request-push s.untold t.mtu (c.barrier - s.first) p below);
      }

  at_the_end : nat_lt c.barrier_at.index (length s.untold) ≡ false → c.barrier - s.first ≡ end_number s.untold t.mtu
  at_the_end e =
      let there : nat_lt (c.barrier - s.first) (end_number s.untold t.mtu) ≡ false = sym (index_within s.untold t.mtu (c.barrier - s.first)) ∙ (ap (λ i. nat_lt i (length s.untold)) (sym h.barrier_index) ∙ e) in
      let past : end_number s.untold t.mtu ≤ c.barrier - s.first = grind (arith, nat_tests, there) in
      omega (arith, past, barrier_below)

  barred_landing : nat_lt c.barrier_at.index (length s.untold) ≡ false → lands (kind_of p) ≡ true → Barred t s c p true
  barred_landing e l =
      let end = at_the_end e in
      let new = landing_pushed s.untold t.mtu (s.una - s.first) p (sym place ∙ end) una_within in
      let new' : next_landing (s.untold ++ p ∷ []) t.mtu (s.una - s.first) ≡ end_number s.untold t.mtu = rw l at new in
      record {
        barrier = h.barrier ∙ ap (λ n. s.first + n) (sym place ∙ (end ∙ sym new'));
        mark = IsMark-push s.untold t.mtu c.barrier_at p h.barrier_mark;
        index = h.barrier_index ∙ (ap (λ n. request_of s.untold t.mtu n) end ∙ (request_past s.untold t.mtu (end_number s.untold t.mtu) (omega arith) ∙ (sym (request_pushed s.untold t.mtu p) ∙ ap (λ n. request_of (s.untold ++ p ∷ []) t.mtu n) (sym end))));
      }

  barred_passed : nat_lt c.barrier_at.index (length s.untold) ≡ false → lands (kind_of p) ≡ false → Barred t s c p false
  barred_passed e l =
      let end = at_the_end e in
      let new = landing_pushed s.untold t.mtu (s.una - s.first) p (sym place ∙ end) una_within in
      let new' : next_landing (s.untold ++ p ∷ []) t.mtu (s.una - s.first) ≡ end_number s.untold t.mtu + span_of p t.mtu = rw l at new in
      let after = numbers.landing_after s.untold t.mtu (s.una - s.first) in
      let above : s.first ≤ c.barrier = omega (arith, h.barrier) in
      let last : c.barrier_at.index ≡ length s.untold = h.barrier_index ∙ (ap (λ n. request_of s.untold t.mtu n) end ∙ request_past s.untold t.mtu (end_number s.untold t.mtu) (omega arith)) in
      let off : c.barrier_at.offset ≡ end_number s.untold t.mtu = h.barrier_mark.offset ∙ (ap (λ i. first_number s.untold t.mtu i) last ∙ numbers.ends s.untold t.mtu) in
      let more = end-push s.untold t.mtu p in
      let count = length-push s.untold p in
      let ended = numbers.ends (s.untold ++ p ∷ []) t.mtu in
      let sum : c.barrier_at.index + 1 ≡ length (s.untold ++ p ∷ []) = omega (arith, last, count) in
      record {
        barrier = omega (arith, above, end, new');
        mark = record { within = omega (arith, sum); offset = rw sum (omega (arith, off, more, ended)) };
        index = sum ∙ sym (request_past (s.untold ++ p ∷ []) t.mtu (c.barrier + span_of p t.mtu - s.first) (omega (arith, above, end, more)));
      }

  barred : (l : Bool) → lands (kind_of p) ≡ l → (b : Bool) → nat_lt c.barrier_at.index (length s.untold) ≡ b → Barred t s c p (l || b)
  barred true l true e = barred_there e
  barred true l false e = barred_landing e l
  barred false l true e = barred_there e
  barred false l false e = barred_passed e l

  whole_pushed : s.una < s.next → is_inside_read (piece_at (s.untold ++ p ∷ []) t.mtu (s.next - s.first)) ≡ false
  whole_pushed lt =
      let at_most : s.next - s.first ≤ end_number s.untold t.mtu = omega (arith, h.order.top, h.order.all) in
      ⊎_elim
      (λ below. ap is_inside_read (piece-push s.untold t.mtu (s.next - s.first) p below) ∙ h.order.whole_reads lt)
      (λ same. ap is_inside_read (ap (λ n. piece_at (s.untold ++ p ∷ []) t.mtu n) same ∙ piece_pushed s.untold t.mtu p) ∙ (elim (is_read (kind_of p)) as (λ b. (b && false) ≡ false) [ true ↦ refl | false ↦ refl ]))
      (less_or_same (s.next - s.first) (end_number s.untold t.mtu) at_most)

  pub held_posted : c.end + span_of p t.mtu < number_limit
      → IsHeld t (record s { untold = s.untold ++ p ∷ [] })
      (record c {
        end = c.end + span_of p t.mtu;
        barrier = if lands (kind_of p) || nat_lt c.barrier_at.index (length s.untold) then c.barrier else c.barrier + span_of p t.mtu;
        barrier_at = if lands (kind_of p) || nat_lt c.barrier_at.index (length s.untold) then c.barrier_at else record { index = c.barrier_at.index + 1; offset = c.barrier_at.offset + span_of p t.mtu };
      })
  held_posted room =
      let b = barred (lands (kind_of p)) refl (nat_lt c.barrier_at.index (length s.untold)) refl in
      let more = end-push s.untold t.mtu p in
      record {
        mtu = h.mtu;
        order = record {
          una = h.order.una;
          next = h.order.next;
          top = h.order.top;
          all = omega (arith, h.order.all, more);
          limit = omega (arith, h.end, more, room);
          whole_reads = whole_pushed;
          spent = h.order.spent;
        };
        end = omega (arith, h.end, more);
        cursor = IsMark-push s.untold t.mtu c.cursor p h.cursor;
        cursor_before = h.cursor_before;
        past = IsPast-push s.untold t.mtu c.cursor c.cursor_past p h.past;
        barrier = b.barrier;
        barrier_mark = b.mark;
        barrier_index = b.index;
        packets = h.packets ∙ sym (packets-push s.untold t.mtu s.first s.una s.next p (omega (arith, h.order.top, h.order.all)));
        reads = h.reads ∙ sym (reads-push s.untold t.mtu s.first s.una s.next p (omega (arith, h.order.top, h.order.all)));
      }

-- ---- the oldest request leaves

mark_behind : (q : Posted) (us : List Posted) (mtu i o : ℕ) → IsMark (q ∷ us) mtu (record { index = i; offset = o }) → IsMark us mtu (record { index = i - 1; offset = o - span_of q mtu })
unfolding first_number
mark_behind q us mtu zero o h =
    let none : o - span_of q mtu ≡ 0 = omega (arith, h.offset) in
    record { within = omega arith; offset = none ∙ sym (first-zero us mtu) }
mark_behind q us mtu (suc i) o h =
    let back : suc i - 1 ≡ i = omega arith in
    rw back (record { within = omega (arith, h.within); offset = omega (arith, h.offset) })

past_behind : (q : Posted) (us : List Posted) (mtu i o past : ℕ) → IsMark (q ∷ us) mtu (record { index = i; offset = o }) → IsPast (q ∷ us) mtu (record { index = i; offset = o }) past → IsPast us mtu (record { index = i - 1; offset = o - span_of q mtu }) (past - span_of q mtu)
unfolding first_number
past_behind q us mtu zero o past m h = record { within = λ lt. absurd (gone lt); number = λ lt. absurd (gone lt) }
  where
    gone : o - span_of q mtu < past - span_of q mtu → ⊥
    gone lt =
        let none = first-zero us mtu in
        let after = h.number (omega (arith, lt, m.offset)) in
        omega (arith, lt, none, after)
past_behind q us mtu (suc i) o past m h =
    let back : suc i - 1 ≡ i = omega arith in
    rw back (record { within = λ lt. omega (arith, h.within (omega (arith, lt))); number = λ lt. omega (arith, h.number (omega (arith, lt))) })

landing_behind : (q : Posted) (us : List Posted) (mtu n : ℕ) → span_of q mtu ≤ n → next_landing (q ∷ us) mtu n ≡ span_of q mtu + next_landing us mtu (n - span_of q mtu)
unfolding next_landing
landing_behind q us mtu n h = grind (arith, nat_tests, h)

request_behind : (q : Posted) (us : List Posted) (mtu n : ℕ) → span_of q mtu ≤ n → request_of (q ∷ us) mtu n ≡ suc (request_of us mtu (n - span_of q mtu))
unfolding request_of
request_behind q us mtu n h = grind (arith, nat_tests, h)

pub held_front : (t : Terms) (q : Posted) (us : List Posted) (n : RequesterParts) (c : DerivedNumbers) → IsHeld t (sender_with (q ∷ us) n) c → n.first + span_of q t.mtu ≤ n.una
    → IsHeld t (sender_with us (record n { first = n.first + span_of q t.mtu }))
    (record c {
      cursor = record { index = c.cursor.index - 1; offset = c.cursor.offset - span_of q t.mtu };
      cursor_past = c.cursor_past - span_of q t.mtu;
      barrier_at = record { index = c.barrier_at.index - 1; offset = c.barrier_at.offset - span_of q t.mtu };
    })
unfolding end_number
held_front t q us n c h past = record {
  mtu = h.mtu;
  order = record {
    una = past;
    next = h.order.next;
    top = h.order.top;
    all = omega (arith, h.order.all);
    limit = omega (arith, h.order.limit);
    whole_reads = λ lt. ap is_inside_read (ap (λ k. piece_at us t.mtu k) (sym next_rest) ∙ sym (piece_behind q us t.mtu (n.next - n.first) (omega (arith, past, h.order.next)))) ∙ h.order.whole_reads lt;
    spent = h.order.spent;
  };
  end = omega (arith, h.end);
  cursor = mark_behind q us t.mtu c.cursor.index c.cursor.offset h.cursor;
  cursor_before = omega (arith, h.cursor_before);
  past = past_behind q us t.mtu c.cursor.index c.cursor.offset c.cursor_past h.cursor h.past;
  barrier = h.barrier ∙ (ap (λ k. n.first + k) (landing_behind q us t.mtu (n.una - n.first) (omega (arith, past)) ∙ ap (λ k. span_of q t.mtu + next_landing us t.mtu k) una_rest) ∙ omega arith);
  barrier_mark = mark_behind q us t.mtu c.barrier_at.index c.barrier_at.offset h.barrier_mark;
  barrier_index = omega (arith, h.barrier_index, place, request_behind q us t.mtu (c.barrier - n.first) (omega (arith, past, above)));
  packets = h.packets ∙ packets_without_front q us t.mtu n.first n.una n.next past;
  reads = h.reads ∙ reads_without_front q us t.mtu n.first n.una n.next past;
}
  where
    above : n.una ≤ c.barrier
    above = barrier_above t (sender_with (q ∷ us) n) c h

    next_rest : n.next - n.first - span_of q t.mtu ≡ n.next - (n.first + span_of q t.mtu)
    next_rest = omega arith

    una_rest : n.una - n.first - span_of q t.mtu ≡ n.una - (n.first + span_of q t.mtu)
    una_rest = omega arith

    place : request_of us t.mtu (c.barrier - n.first - span_of q t.mtu) ≡ request_of us t.mtu (c.barrier - (n.first + span_of q t.mtu))
    place = let rest : c.barrier - n.first - span_of q t.mtu ≡ c.barrier - (n.first + span_of q t.mtu) = omega arith in ap (λ k. request_of us t.mtu k) rest

pub held_told : (t : Terms) (us : List Posted) (n : RequesterParts) (c : DerivedNumbers) (p : Posted) → slice_get us 0 ≡ Some p → IsHeld t (sender_with us n) c → n.first + span_of p t.mtu ≤ n.una
    → IsHeld t (sender_with (drop 1 us) (record n { first = n.first + span_of p t.mtu }))
    (record c {
      cursor = record { index = c.cursor.index - 1; offset = c.cursor.offset - span_of p t.mtu };
      cursor_past = c.cursor_past - span_of p t.mtu;
      barrier_at = record { index = c.barrier_at.index - 1; offset = c.barrier_at.offset - span_of p t.mtu };
    })
held_told t [] n c p e h past = absurd (cc)
held_told t (q ∷ us) n c p e h past =
    let same : q ≡ p = cc in
    let past' : n.first + span_of q t.mtu ≤ n.una = rw same past in
    subst (λ (r : Posted). IsHeld t (sender_with us (record n { first = n.first + span_of r t.mtu })) (record c { cursor = record { index = c.cursor.index - 1; offset = c.cursor.offset - span_of r t.mtu }; cursor_past = c.cursor_past - span_of r t.mtu; barrier_at = record { index = c.barrier_at.index - 1; offset = c.barrier_at.offset - span_of r t.mtu } })) same (held_front t q us n c h past')

-- ---- an end fails

-- the numbers of an end that fails
abbrev pub failed : ℕ → ℕ → RequesterParts
failed first end = record { first = first; una = end; next = end; top = end; spent = 0; waits = 0; rnr_wait = false }

pub held_failed : (t : Terms) (us : List Posted) (first end : ℕ) → 0 < t.mtu → end ≡ first + end_number us t.mtu → end < number_limit
    → IsHeld t (sender_with us (failed first end)) (record { end = end; cursor = record { index = 0; offset = 0 }; cursor_past = 0; barrier = end; barrier_at = record { index = length us; offset = end - first }; packets = 0; reads = 0 })
held_failed t us first end mtu e limit =
    let rest : end - first ≡ end_number us t.mtu = omega (arith, e) in
    let after = numbers.landing_after us t.mtu (end - first) in
    let before = numbers.landing_before_end us t.mtu (end - first) (omega (arith, rest)) in
    record {
      mtu = mtu;
      order = record {
        una = omega (arith, e);
        next = omega arith;
        top = omega arith;
        all = omega (arith, e);
        limit = omega (arith, e, limit);
        whole_reads = λ lt. absurd (omega (arith, lt));
        spent = omega arith;
      };
      end = e;
      cursor = IsMark-front us t.mtu;
      cursor_before = omega arith;
      past = IsPast-none us t.mtu (record { index = 0; offset = 0 });
      barrier = omega (arith, e, rest, after, before);
      barrier_mark = record { within = omega arith; offset = rest ∙ sym (numbers.ends us t.mtu) };
      barrier_index = sym (request_past us t.mtu (end - first) (omega (arith, rest)));
      packets = sym (packets_none us t.mtu first end end (omega arith));
      reads = sym (reads_none us t.mtu first end end (omega arith));
    }

-- ---- the front request

pub end-drop : (ps : List Posted) (mtu : ℕ) (p : Posted) → slice_get ps 0 ≡ Some p → end_number ps mtu ≡ span_of p mtu + end_number (drop 1 ps) mtu
unfolding end_number
end-drop [] mtu p h = absurd (cc)
end-drop (q ∷ ps) mtu p h = let same : q ≡ p = cc in ap (λ (r : Posted). span_of r mtu + end_number ps mtu) same

pub some_told : (ps : List Posted) (mtu n : ℕ) (p : Posted) → slice_get ps 0 ≡ Some p → span_of p mtu ≤ n → nat_lt 0 (request_of ps mtu n) ≡ true
some_told [] mtu n p h past = absurd (cc)
some_told (q ∷ ps) mtu n p h past =
    let same : q ≡ p = cc in
    let past' : span_of q mtu ≤ n = rw same past in
    rw (request_behind q ps mtu n past') (grind (arith, nat_tests))

pub none_told : (ps : List Posted) (mtu n : ℕ) (p : Posted) → slice_get ps 0 ≡ Some p → n < span_of p mtu → nat_lt 0 (request_of ps mtu n) ≡ false
none_told ps mtu n p h below =
    let z = first-zero ps mtu in
    let e = request_here ps mtu 0 n p h (omega (arith, z)) (omega (arith, z, below)) in
    rw e refl

-- without requests none is told
pub nothing_told : (ps : List Posted) (mtu n : ℕ) → slice_get ps 0 ≡ None → nat_lt 0 (request_of ps mtu n) ≡ false
unfolding request_of
nothing_told [] mtu n h = refl
nothing_told (q ∷ ps) mtu n h = absurd (cc)

pub nothing_left : (ps : List Posted) → slice_get ps 0 ≡ None → ps ≡ []
nothing_left [] h = refl
nothing_left (q ∷ ps) h = absurd (cc)

pub end-none : (mtu : ℕ) → end_number [] mtu ≡ 0
unfolding end_number
end-none mtu = refl

pub first-none : (mtu i : ℕ) → first_number [] mtu i ≡ 0
unfolding first_number
first-none mtu i = refl

-- waits are counted, and the timer runs or not
pub held_waited : (t : Terms) (s : Sender) (c : DerivedNumbers) (waits : ℕ) (rnr : Bool) → IsHeld t s c → IsHeld t (record s { waits = waits; rnr_wait = rnr }) c
held_waited t s c waits rnr h = record {
  mtu = h.mtu;
  order = record {
    una = h.order.una;
    next = h.order.next;
    top = h.order.top;
    all = h.order.all;
    limit = h.order.limit;
    whole_reads = h.order.whole_reads;
    spent = h.order.spent;
  };
  end = h.end;
  cursor = h.cursor;
  cursor_before = h.cursor_before;
  past = h.past;
  barrier = h.barrier;
  barrier_mark = h.barrier_mark;
  barrier_index = h.barrier_index;
  packets = h.packets;
  reads = h.reads;
}
