-- The tables of the requester, row by row, from what it holds.
use Rattle.std.proofs.Common.{arith, ◌≡◌, ◌≢◌, ◌<◌, ◌≤◌, ◌+◌, ◌-◌, ◌*◌, ℕ, List, [], drop, length, Bool, true, false, refl, sym, ap, ◌∙◌}
use Rattle.std.specs.Prelude.{Option, Some, None, min, max, nat_lt, nat_le, if◌then◌else◌, not, ◌==◌, ◌&&◌, ◌||◌, slice_get, unwrap_or}
use Rattle.std.proofs.lemmas.Bool.Decides.{nat_tests}
use Rattle.rdma_types.specs.declared.requests.Terms.{Terms}
use Rattle.rdma_types.specs.Objects.{Posted, no_posted}
use Rattle.rdma_types.specs.Kinds.{is_read, kind_of, lands}
use Rattle.rdma_types.specs.Limits.{window}
use Rattle.rdma_types.specs.Spans.{Piece, end_number, first_number, next_landing, piece_at, piece_length, piece_of, request_of, span_of}
use Rattle.rdma_types.proofs.Numbers as numbers
use Rattle.protocol.specs.Requester as rows
use Rattle.protocol.specs.Requester.{Transmission, Sends, IsIdle, WindowIsFull, ReadsAreFull, IsFenced, advanced, barrier, end_of_queue, next_transmission, packets_in_flight, reads_in_flight, rewound, waited, waiting}
use Rattle.protocol.specs.Numbers.{unwrap_near}
use Rattle.protocol.specs.State.{Sender}
use Rattle.protocol.specs.Wire.{Packet, is_read_response}
use Rattle.rdma_types.specs.declared.requests.WcStatus.{WcStatus}
use Rattle.rdma_types.specs.declared.requests.WcStatus.TheVariants as status
use Rattle.requester.specs.declared.caches.DerivedNumbers.{DerivedNumbers}
use Rattle.requester.specs.declared.marks.Mark.{Mark}
use Rattle.requester.specs.declared.answers.ResponseEffect.{ResponseEffect}
use Rattle.requester.specs.declared.answers.ResponseEffect.TheVariants.{Acked, Ended, Landed, OldLanded, Rewound, Useless, Waits}
use Rattle.requester.specs.Held.{IsHeld}
use Rattle.requester.specs.Marks.{IsMark}
use Rattle.requester.specs.Taking.{Taking, acknowledge_taking, acknowledging, answers, is_of_piece, landing_of, landing_taking, moved_or_useless, nak_taking, not_ready_taking, refusing, request_at, rnr_taking, taken_response, wait_taking}
use Rattle.requester.specs.Sending.{sender_with}
use Rattle.requester.specs.Telling.{failing_without_oldest}
use Rattle.requester.proofs.Keeping.{failed, past_here}
use Rattle.requester.specs.Transmitting.{after_row, next_row, piece_said}
use Rattle.rdma_types.proofs.Places.{at_end, first-suc, landing_here, landing_lands, piece_here, request_here, span_inside}

-- ---- the barrier

pub barrier_is : (t : Terms) (s : Sender) (c : DerivedNumbers) → IsHeld t s c → barrier t s ≡ c.barrier
unfolding barrier
barrier_is t s c h = sym h.barrier

pub end_is : (t : Terms) (s : Sender) (c : DerivedNumbers) → IsHeld t s c → end_of_queue t s ≡ c.end
unfolding end_of_queue
end_is t s c h = sym h.end

-- the request of the barrier
pub record Here (t : Terms) (s : Sender) (c : DerivedNumbers) (p : Posted) : Type 0 where
  pub piece : piece_at s.untold t.mtu (c.barrier - s.first) ≡ Some (record { posted = p; k = c.barrier - s.first - c.barrier_at.offset })
  pub low : c.barrier_at.offset ≤ c.barrier - s.first
  pub high : c.barrier - s.first < c.barrier_at.offset + span_of p t.mtu
  pub within : c.barrier_at.offset + span_of p t.mtu ≤ end_number s.untold t.mtu
  pub landing : lands (kind_of p) ≡ true

pub here : (t : Terms) (s : Sender) (c : DerivedNumbers) → IsHeld t s c → (p : Posted) → slice_get s.untold c.barrier_at.index ≡ Some p → Here t s c p
here t s c h p there =
    let there' = rw h.barrier_index at there in
    let below = numbers.piece_below s.untold t.mtu (c.barrier - s.first) p there' in
    let sum = numbers.split s.untold t.mtu (c.barrier - s.first) in
    let off : c.barrier_at.offset ≡ first_number s.untold t.mtu (request_of s.untold t.mtu (c.barrier - s.first)) = h.barrier_mark.offset ∙ ap (λ i. first_number s.untold t.mtu i) h.barrier_index in
    let inside = span_inside s.untold t.mtu c.barrier_at.index p there in
    let piece : piece_at s.untold t.mtu (c.barrier - s.first) ≡ Some (record { posted = p; k = piece_of s.untold t.mtu (c.barrier - s.first) }) = numbers.found s.untold t.mtu (c.barrier - s.first) p there' in
    let k : piece_of s.untold t.mtu (c.barrier - s.first) ≡ c.barrier - s.first - c.barrier_at.offset = omega (arith, sum, off) in
    let gone : s.first + next_landing s.untold t.mtu (s.una - s.first) - s.first ≡ next_landing s.untold t.mtu (s.una - s.first) = omega arith in
    let place : c.barrier - s.first ≡ next_landing s.untold t.mtu (s.una - s.first) = ap (λ n. n - s.first) h.barrier ∙ gone in
    record {
      piece = piece ∙ ap (λ n. Some (record { posted = p; k = n })) k;
      low = omega (arith, sum, off);
      high = omega (arith, sum, off, below);
      within = omega (arith, inside, h.barrier_mark.offset);
      landing = landing_lands s.untold t.mtu (s.una - s.first) _ (rw place at piece);
    }

-- a number behind the barrier that is not past its request is the next barrier
pub inside : (t : Terms) (s : Sender) (c : DerivedNumbers) → IsHeld t s c → (p : Posted) → slice_get s.untold c.barrier_at.index ≡ Some p → (c.barrier - s.first - c.barrier_at.offset + 1 == span_of p t.mtu) ≡ false
    → (next_landing s.untold t.mtu (c.barrier - s.first + 1) ≡ c.barrier - s.first + 1) × (request_of s.untold t.mtu (c.barrier - s.first + 1) ≡ c.barrier_at.index)
inside t s c h p there more =
    let r = here t s c h p there in
    let other : c.barrier - s.first - c.barrier_at.offset + 1 ≢ span_of p t.mtu = grind (arith, nat_tests, more) in
    let low : first_number s.untold t.mtu c.barrier_at.index ≤ c.barrier - s.first + 1 = omega (arith, h.barrier_mark.offset, r.low) in
    let high : c.barrier - s.first + 1 < first_number s.untold t.mtu c.barrier_at.index + span_of p t.mtu = omega (arith, h.barrier_mark.offset, r.low, r.high, other) in
    let piece = piece_here s.untold t.mtu c.barrier_at.index (c.barrier - s.first + 1) p there low high in
    (landing_here s.untold t.mtu (c.barrier - s.first + 1) _ piece r.landing, request_here s.untold t.mtu c.barrier_at.index (c.barrier - s.first + 1) p there low high)

-- a barrier below `top` has one
pub some_there : (t : Terms) (s : Sender) (c : DerivedNumbers) → IsHeld t s c → c.barrier < s.top → slice_get s.untold c.barrier_at.index ≡ None → ⊥
some_there t s c h below none =
    let last = at_end s.untold c.barrier_at.index none h.barrier_mark.within in
    let after = numbers.landing_after s.untold t.mtu (s.una - s.first) in
    let inside = numbers.within s.untold t.mtu (c.barrier - s.first) (omega (arith, below, h.order.all, h.barrier, h.order.una, after)) in
    omega (arith, last, inside, h.barrier_index)

-- ---- what is sent next

-- the request of the next number
pub record Next (t : Terms) (s : Sender) (at : Mark) (p : Posted) : Type 0 where
  pub piece : piece_at s.untold t.mtu (s.next - s.first) ≡ Some (record { posted = p; k = s.next - s.first - at.offset })
  pub inside : s.next - s.first - at.offset < span_of p t.mtu
  pub said : request_at s at.index ≡ p
  pub k : s.next - (s.first + first_number s.untold t.mtu at.index) ≡ s.next - s.first - at.offset

pub next_is : (t : Terms) (s : Sender) (at : Mark) (p : Posted) → IsMark s.untold t.mtu at → at.index ≡ request_of s.untold t.mtu (s.next - s.first) → slice_get s.untold at.index ≡ Some p → Next t s at p
next_is t s at p mark index there =
    let there' = rw index at there in
    let below = numbers.piece_below s.untold t.mtu (s.next - s.first) p there' in
    let sum = numbers.split s.untold t.mtu (s.next - s.first) in
    let off : at.offset ≡ first_number s.untold t.mtu (request_of s.untold t.mtu (s.next - s.first)) = mark.offset ∙ ap (λ i. first_number s.untold t.mtu i) index in
    let k : piece_of s.untold t.mtu (s.next - s.first) ≡ s.next - s.first - at.offset = omega (arith, sum, off) in
    record {
      piece = numbers.found s.untold t.mtu (s.next - s.first) p there' ∙ ap (λ n. Some (record { posted = p; k = n })) k;
      inside = omega (arith, below, k);
      said = ap (λ o. unwrap_or o no_posted) there;
      k = omega (arith, mark.offset);
    }

-- a counted end is that of the request of the next number
pub counted_is : (t : Terms) (s : Sender) (c : DerivedNumbers) (at : Mark) (p : Posted) → IsHeld t s c → IsMark s.untold t.mtu at → at.index ≡ request_of s.untold t.mtu (s.next - s.first) → slice_get s.untold at.index ≡ Some p → s.next - s.first < c.cursor_past → c.cursor_past ≡ at.offset + span_of p t.mtu
counted_is t s c at p h mark index there below =
    let same : at.index ≡ c.cursor.index = index ∙ past_here s.untold t.mtu c.cursor c.cursor_past (s.next - s.first) h.cursor h.past h.cursor_before below in
    let off : at.offset ≡ c.cursor.offset = mark.offset ∙ (ap (λ i. first_number s.untold t.mtu i) same ∙ sym h.cursor.offset) in
    let next = first-suc s.untold t.mtu c.cursor.index p (rw same at there) in
    omega (arith, h.past.number (omega (arith, h.cursor_before, below)), next, h.cursor.offset, off)

pub next_there : (t : Terms) (s : Sender) (c : DerivedNumbers) (i : ℕ) → IsHeld t s c → s.next ≢ c.end → i ≡ request_of s.untold t.mtu (s.next - s.first) → i ≤ length s.untold → slice_get s.untold i ≡ None → ⊥
next_there t s c i h other index within none =
    let last = at_end s.untold i none within in
    let inside = numbers.within s.untold t.mtu (s.next - s.first) (omega (arith, h.order.una, h.order.next, h.order.top, h.order.all, h.end, other)) in
    omega (arith, last, inside, index)

-- ---- rows

pub row_waits : (t : Terms) (s : Sender) → s.rnr_wait ≡ true → next_row t s ≡ rows.Waits
unfolding next_row
row_waits t s e = rw e refl

pub row_idle : (t : Terms) (s : Sender) (c : DerivedNumbers) → IsHeld t s c → s.rnr_wait ≡ false → s.next ≡ c.end → next_row t s ≡ IsIdle
unfolding next_row end_of_queue
row_idle t s c h e last =
    let same : (s.next == end_of_queue t s) ≡ true = rw (end_is t s c h) (grind (arith, nat_tests, last)) in
    rw (e, same) refl

pub row_window : (t : Terms) (s : Sender) (c : DerivedNumbers) → IsHeld t s c → s.rnr_wait ≡ false → s.next ≢ c.end → 64 ≤ c.packets → next_row t s ≡ WindowIsFull
unfolding next_row end_of_queue
row_window t s c h e other full =
    let differs : (s.next == end_of_queue t s) ≡ false = rw (end_is t s c h) (grind (arith, nat_tests, other)) in
    let many : nat_le window (packets_in_flight s.untold t.mtu s.first s.una s.next) ≡ true = rw (← h.packets) (grind (arith, nat_tests, full)) in
    rw (e, differs, many) refl

-- the last three rows
pub row_next : (t : Terms) (s : Sender) (c : DerivedNumbers) → IsHeld t s c → s.rnr_wait ≡ false → s.next ≢ c.end → c.packets < 64 → (x : Piece) → piece_at s.untold t.mtu (s.next - s.first) ≡ Some x
    → next_row t s ≡ (if lands (kind_of x.posted) && nat_le t.reads c.reads then ReadsAreFull else if x.posted.request.fence && (x.k == 0 && nat_lt c.barrier s.next) then IsFenced else Sends x)
unfolding next_row next_transmission end_of_queue reads_in_flight barrier
row_next t s c h e other few x found =
    let differs : (s.next == end_of_queue t s) ≡ false = rw (end_is t s c h) (grind (arith, nat_tests, other)) in
    let little : nat_le window (packets_in_flight s.untold t.mtu s.first s.una s.next) ≡ false = rw (← h.packets) (grind (arith, nat_tests, few)) in
    rw (e, differs, little, found, h.reads, barrier_is t s c h) refl

-- where nothing is sent nothing changes
pub row_stays : (t : Terms) (s : Sender) (r : Transmission) → next_row t s ≡ r → after_row t s r ≡ s → s ≡ after_row t s (next_row t s)
row_stays t s r e same = sym (ap (λ q. after_row t s q) e ∙ same)

-- ---- acknowledging

pub acknowledging_stays : (t : Terms) (s : Sender) (c : DerivedNumbers) → IsHeld t s c → (n : ℕ) → min n c.barrier ≤ s.una → acknowledging t s n ≡ s
unfolding acknowledging advanced
acknowledging_stays t s c h n low =
    let bar = barrier_is t s c h in
    let not_above : nat_lt s.una (min n (barrier t s)) ≡ false = rw bar (grind (arith, nat_tests, low)) in
    rw not_above refl

pub acknowledging_moves : (t : Terms) (s : Sender) (c : DerivedNumbers) → IsHeld t s c → (n m : ℕ) → m ≡ min n c.barrier → s.una < m → acknowledging t s n ≡ record s { una = m; next = max s.next m; spent = 0; waits = 0 }
unfolding acknowledging advanced
acknowledging_moves t s c h n m e low =
    let same : min n (barrier t s) ≡ m = ap (λ b. min n b) (barrier_is t s c h) ∙ sym e in
    let above : nat_lt s.una m ≡ true = grind (arith, nat_tests, low) in
    rw (same, above) refl

pub advanced_moves : (s : Sender) (m : ℕ) → s.una < m → advanced s m ≡ record s { una = m; next = max s.next m; spent = 0; waits = 0 }
unfolding advanced
advanced_moves s m low = let above : nat_lt s.una m ≡ true = grind (arith, nat_tests, low) in rw above refl

-- ---- an end fails

pub failing_is : (t : Terms) (s : Sender) (c : DerivedNumbers) → IsHeld t s c → (first : ℕ) → first ≡ s.first + first_number s.untold t.mtu 1 → sender_with (drop 1 s.untold) (failed first c.end) ≡ failing_without_oldest t s
unfolding failing_without_oldest end_of_queue
failing_is t s c h first e = rw (e, h.end) refl

-- ---- acknowledges

pub acked_row : (s a new : Sender) (r : Bool) → new ≡ a → r ≡ nat_lt s.una new.una → r ≡ true → moved_or_useless s a ≡ answers Acked a
unfolding moved_or_useless
acked_row s a new r e moved risen = let above : nat_lt s.una a.una ≡ true = ap (λ (q : Sender). nat_lt s.una q.una) (sym e) ∙ (sym moved ∙ risen) in rw above refl

pub useless_row : (s a new : Sender) (r : Bool) → new ≡ a → r ≡ nat_lt s.una new.una → r ≡ false → moved_or_useless s a ≡ answers Useless s
unfolding moved_or_useless
useless_row s a new r e moved no' = let above : nat_lt s.una a.una ≡ false = ap (λ (q : Sender). nat_lt s.una q.una) (sym e) ∙ (sym moved ∙ no') in rw above refl

true_is_not_false : true ≡ false → ⊥
true_is_not_false q = cc

-- where `una` did not rise nothing changed
pub unmoved : (t : Terms) (s new : Sender) (n : ℕ) (r : Bool) → new ≡ acknowledging t s n → r ≡ nat_lt s.una new.una → r ≡ false → new ≡ s
unfolding acknowledging advanced
unmoved t s new n r e moved no' = by_test _ refl e
  where
    by_test : (b : Bool) → nat_lt s.una (min n (barrier t s)) ≡ b → new ≡ (if b then record s { una = min n (barrier t s); spent = 0; waits = 0; next = max s.next (min n (barrier t s)) } else s) → new ≡ s
    by_test true b g =
        let una : new.una ≡ min n (barrier t s) = ap (λ (q : Sender). q.una) g in
        let not_above : nat_lt s.una (min n (barrier t s)) ≡ false = ap (λ k. nat_lt s.una k) (sym una) ∙ (sym moved ∙ no') in
        absurd (true_is_not_false (sym b ∙ not_above))
    by_test false b g = g

pub refusing_ends : (s : Sender) (n : ℕ) (why : WcStatus) → s.una ≡ n → refusing s n why ≡ answers (Ended why) s
unfolding refusing
refusing_ends s n why e = let same : (s.una == n) ≡ true = grind (arith, nat_tests, e) in rw same refl

pub refusing_rewinds : (s : Sender) (n : ℕ) (why : WcStatus) → s.una ≢ n → refusing s n why ≡ answers Rewound (rewound s)
unfolding refusing
refusing_rewinds s n why e = let other : (s.una == n) ≡ false = grind (arith, nat_tests, e) in rw other refl

pub rnr_waits : (t : Terms) (s a : Sender) (n : ℕ) → a.una ≡ n → rnr_taking t s a n ≡ wait_taking t (waited a)
unfolding rnr_taking
rnr_waits t s a n e = let same : (a.una == n) ≡ true = grind (arith, nat_tests, e) in rw same refl

pub rnr_acks : (t : Terms) (s a : Sender) (n : ℕ) → a.una ≢ n → rnr_taking t s a n ≡ moved_or_useless s a
unfolding rnr_taking
rnr_acks t s a n e = let other : (a.una == n) ≡ false = grind (arith, nat_tests, e) in rw other refl

pub not_ready_calm : (t : Terms) (s : Sender) (n : ℕ) → s.rnr_wait ≡ false → not_ready_taking t s n ≡ rnr_taking t s (acknowledging t s n) n
unfolding not_ready_taking
not_ready_calm t s n e = elim_calm s.rnr_wait e
  where
    elim_calm : (b : Bool) → b ≡ false → (if b then answers Useless s else rnr_taking t s (acknowledging t s n) n) ≡ rnr_taking t s (acknowledging t s n) n
    elim_calm true q = absurd (true_is_not_false q)
    elim_calm false q = refl

pub not_ready_busy : (t : Terms) (s : Sender) (n : ℕ) → s.rnr_wait ≡ true → not_ready_taking t s n ≡ answers Useless s
unfolding not_ready_taking
not_ready_busy t s n e = elim_busy s.rnr_wait e
  where
    elim_busy : (b : Bool) → b ≡ true → (if b then answers Useless s else rnr_taking t s (acknowledging t s n) n) ≡ answers Useless s
    elim_busy true q = refl
    elim_busy false q = absurd (true_is_not_false (sym q))

pub wait_ends : (t : Terms) (s : Sender) → (not (t.rnr == 7) && s.waits == t.rnr + 1) ≡ true → wait_taking t s ≡ answers (Ended status.RnrExceeded) s
unfolding wait_taking
wait_ends t s e = rw e refl

pub wait_waits : (t : Terms) (s : Sender) → (not (t.rnr == 7) && s.waits == t.rnr + 1) ≡ false → wait_taking t s ≡ answers Waits (waiting s)
unfolding wait_taking
wait_waits t s e = rw e refl

pub nak_zero : (t : Terms) (s : Sender) (n : ℕ) → nak_taking t s n 0 ≡ answers Rewound (rewound (acknowledging t s n))
unfolding nak_taking
nak_zero t s n = refl

pub nak_one : (t : Terms) (s : Sender) (n : ℕ) → nak_taking t s n 1 ≡ refusing (acknowledging t s n) n status.RemoteInvalid
unfolding nak_taking
nak_one t s n = refl

pub nak_two : (t : Terms) (s : Sender) (n : ℕ) → nak_taking t s n 2 ≡ refusing (acknowledging t s n) n status.RemoteAccess
unfolding nak_taking
nak_two t s n = refl

pub nak_other : (t : Terms) (s : Sender) (n code : ℕ) → code ≢ 0 → code ≢ 1 → code ≢ 2 → nak_taking t s n code ≡ answers Useless s
unfolding nak_taking
nak_other t s n code a b c =
    let a' : (code == 0) ≡ false = grind (arith, nat_tests, a) in
    let b' : (code == 1) ≡ false = grind (arith, nat_tests, b) in
    let c' : (code == 2) ≡ false = grind (arith, nat_tests, c) in
    rw (a', b', c') refl

-- ---- landing

-- the answer of a response that is this piece's
abbrev pub landed_by : Terms → Packet → ℕ → Piece → Option ResponseEffect
landed_by t d index x = if is_of_piece t d x then Some (landing_of t d index x) else None

pub landed_said : (t : Terms) (d : Packet) (index : ℕ) (x : Piece)
    → (if is_read (kind_of x.posted)
    then (if is_read_response d.opcode && length d.payload == piece_length x.posted.request.shape.length x.k t.mtu then Some (Landed index (x.k * t.mtu)) else None)
    else (if d.opcode == 0x12 then Some (OldLanded index (unwrap_or d.old 0)) else None))
    ≡ landed_by t d index x
unfolding is_of_piece landing_of
landed_said t d index x = elim (is_read (kind_of x.posted)) as (λ b.
    (if b
    then (if is_read_response d.opcode && length d.payload == piece_length x.posted.request.shape.length x.k t.mtu then Some (Landed index (x.k * t.mtu)) else None)
    else (if d.opcode == 0x12 then Some (OldLanded index (unwrap_or d.old 0)) else None))
    ≡ (if (if b then is_read_response d.opcode && length d.payload == piece_length x.posted.request.shape.length x.k t.mtu else d.opcode == 0x12) then Some (if b then Landed index (x.k * t.mtu) else OldLanded index (unwrap_or d.old 0)) else None)) [ true ↦ refl | false ↦ refl ]

-- the row of the piece at the barrier
pub landing_row : (t : Terms) (s : Sender) (c : DerivedNumbers) → IsHeld t s c → (d : Packet) (n : ℕ) (p : Posted) → Here t s c p → (n == c.barrier && nat_lt n s.top) ≡ true → n ≡ c.barrier
    → landing_taking t s d n ≡ (if is_of_piece t d (record { posted = p; k = n - s.first - c.barrier_at.offset }) then answers (landing_of t d c.barrier_at.index (record { posted = p; k = n - s.first - c.barrier_at.offset })) (advanced s (n + 1)) else answers Useless s)
unfolding landing_taking
landing_row t s c h d n p r due same =
    let due' : (n == barrier t s && nat_lt n s.top) ≡ true = rw (barrier_is t s c h) due in
    let found : piece_at s.untold t.mtu (n - s.first) ≡ Some (record { posted = p; k = n - s.first - c.barrier_at.offset }) = rw same r.piece in
    let place : request_of s.untold t.mtu (n - s.first) ≡ c.barrier_at.index = rw same (sym h.barrier_index) in
    rw (due', found, place) refl

pub landing_some : (t : Terms) (s s' : Sender) (d : Packet) (index : ℕ) (x : Piece) (taken : ResponseEffect) → Some taken ≡ landed_by t d index x → (if is_of_piece t d x then answers (landing_of t d index x) s' else answers Useless s) ≡ answers taken s'
landing_some t s s' d index x taken e = by_test (is_of_piece t d x) e
  where
    by_test : (b : Bool) → Some taken ≡ (if b then Some (landing_of t d index x) else None) → (if b then answers (landing_of t d index x) s' else answers Useless s) ≡ answers taken s'
    by_test true g = let same : taken ≡ landing_of t d index x = cc in ap (λ q. answers q s') (sym same)
    by_test false g = absurd (cc)

pub landing_none : (t : Terms) (s s' : Sender) (d : Packet) (index : ℕ) (x : Piece) → None ≡ landed_by t d index x → (if is_of_piece t d x then answers (landing_of t d index x) s' else answers Useless s) ≡ answers Useless s
landing_none t s s' d index x e = by_test (is_of_piece t d x) e
  where
    by_test : (b : Bool) → None ≡ (if b then Some (landing_of t d index x) else None) → (if b then answers (landing_of t d index x) s' else answers Useless s) ≡ answers Useless s
    by_test true g = absurd (cc)
    by_test false g = refl

pub landing_undue : (t : Terms) (s : Sender) (c : DerivedNumbers) → IsHeld t s c → (d : Packet) (n : ℕ) → (n == c.barrier && nat_lt n s.top) ≡ false → landing_taking t s d n ≡ answers Useless s
unfolding landing_taking
landing_undue t s c h d n due =
    let due' : (n == barrier t s && nat_lt n s.top) ≡ false = rw (barrier_is t s c h) due in
    rw due' refl

pub due_is : (n b top : ℕ) → (n == b && nat_lt n top) ≡ true → (n ≡ b) × (n < top)
due_is n b top e = (grind (arith, nat_tests, e), grind (arith, nat_tests, e))

-- ---- responses

pub response_none : (t : Terms) (s : Sender) (d : Packet) → unwrap_near t.own_start d.psn s.una ≡ None → taken_response t s d ≡ answers Useless s
unfolding taken_response
response_none t s d e = rw e refl

pub response_landing : (t : Terms) (s : Sender) (d : Packet) (n : ℕ) → unwrap_near t.own_start d.psn s.una ≡ Some n → (is_read_response d.opcode || d.opcode == 0x12) ≡ true → taken_response t s d ≡ landing_taking t s d n
unfolding taken_response
response_landing t s d n e kind = rw (e, kind) refl

pub response_ack : (t : Terms) (s : Sender) (d : Packet) (n : ℕ) → unwrap_near t.own_start d.psn s.una ≡ Some n → (is_read_response d.opcode || d.opcode == 0x12) ≡ false → taken_response t s d ≡ acknowledge_taking t s n d.aeth
unfolding taken_response
response_ack t s d n e kind = rw (e, kind) refl
