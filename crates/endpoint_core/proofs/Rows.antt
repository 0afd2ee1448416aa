-- The rows of the table of transmissions look at no payload.
use Rattle.std.proofs.Common.{◌≡◌, ℕ, zero, suc, ◌+◌, ◌-◌, ◌<◌, Bool, true, false, List, [], ◌∷◌, length, refl, ap, sym, ◌∙◌, arith, subst}
use Rattle.std.specs.Prelude.{◌==◌, ◌&&◌, min, All, Option, Some, None, nat_le, nat_lt, slice_get, unwrap_or, if◌then◌else◌}
use Rattle.rdma_types.specs.declared.names.Name.{Name}
use Rattle.rdma_types.specs.declared.requests.Terms.{Terms}
use Rattle.rdma_types.specs.Kinds.{lands, takes_bytes}
use Rattle.rdma_types.specs.Limits.{window}
use Rattle.rdma_types.specs.Objects as objects
use Rattle.rdma_types.specs.Objects.{no_posted}
use Rattle.rdma_types.specs.Spans.{Piece, end_number, first_number, next_landing, piece_at, request_of, span_of}
use Rattle.page_pool.specs.Pool.{Pool, bytes_in}
use Rattle.page_pool.specs.Held.{HoldsPayload, payload_bytes}
use Rattle.memory_keys.specs.declared.RegisteredRegion.{RegisteredRegion}
use Rattle.end_queues.specs.declared.work_queues.posted.QueuedRequest.{QueuedRequest}
use Rattle.end_queues.specs.Untold.{posted_in, untold_in}
use Rattle.protocol.specs.Requester as rows
use Rattle.protocol.specs.Requester.{Transmission, Sends, SendsResume, IsIdle, WindowIsFull, ReadsAreFull, IsFenced, barrier, end_of_queue, going_to, next_transmission, overlap, packets_in_flight, packets_of, past, reads_in_flight}
use Rattle.protocol.specs.Segments.{packet_of_piece}
use Rattle.protocol.specs.State.{Sender}
use Rattle.transport.specs.declared.segmenter.head.PacketHead.{PacketHead}
use Rattle.transport.specs.Heads.{Asks, packet_with}
use Rattle.rdma_types.proofs.Cuts.{length-cut}
use Rattle.endpoint_core.specs.Sound.{IsPosted}
use Rattle.endpoint_core.proofs.Frames.{all-at}
use Rattle.requester.specs.declared.answers.Transmit.{Transmit}
use Rattle.requester.specs.declared.answers.Transmit.TheVariants.{Sent, Idle, WindowFull, ReadsFull, Fenced, Waiting}
use Rattle.requester.specs.Sending.{Sending, bare, bares, numbers_of, sender_in, sender_of, sender_with}
use Rattle.requester.specs.Taking.{request_at}
use Rattle.requester.specs.Transmitting.{IsHeadOf, after_row, next_row, piece_said, row_said}
use Rattle.requester.proofs.Bares.{bare_at, length-bares}
use Rattle.requester.proofs.Payloads.{bare_piece, landing_same, piece_same, place_same}
use Rattle.rdma_types.proofs.Places.{found_within, request_of_piece}

-- ---- the words on lists of requests

end_same : (pool : Pool) (ps : List QueuedRequest) (mtu : ℕ) → end_number (untold_in pool ps) mtu ≡ end_number (bares ps) mtu
unfolding end_number
end_same pool [] mtu = refl
end_same pool (p ∷ ps) mtu = ap (λ n. span_of (bare p) mtu + n) (end_same pool ps mtu)

pub first_same : (pool : Pool) (ps : List QueuedRequest) (mtu i : ℕ) → first_number (untold_in pool ps) mtu i ≡ first_number (bares ps) mtu i
unfolding first_number
first_same pool [] mtu i = refl
first_same pool (p ∷ ps) mtu zero = refl
first_same pool (p ∷ ps) mtu (suc i) = ap (λ n. span_of (bare p) mtu + n) (first_same pool ps mtu i)

packets_same : (pool : Pool) (ps : List QueuedRequest) (mtu low una next : ℕ) → packets_in_flight (untold_in pool ps) mtu low una next ≡ packets_in_flight (bares ps) mtu low una next
unfolding packets_in_flight
packets_same pool [] mtu low una next = refl
packets_same pool (p ∷ ps) mtu low una next = ap (λ n. packets_of p.request.shape.kind (overlap low (low + span_of (bare p) mtu) una next) + n) (packets_same pool ps mtu (low + span_of (bare p) mtu) una next)

reads_same : (pool : Pool) (ps : List QueuedRequest) (mtu low una next : ℕ) → reads_in_flight (untold_in pool ps) mtu low una next ≡ reads_in_flight (bares ps) mtu low una next
unfolding reads_in_flight
reads_same pool [] mtu low una next = refl
reads_same pool (p ∷ ps) mtu low una next = ap (λ n. (if lands p.request.shape.kind then min 1 (overlap low (low + span_of (bare p) mtu) una next) else 0) + n) (reads_same pool ps mtu (low + span_of (bare p) mtu) una next)

-- ---- rows without payloads

-- a piece without its bytes
abbrev bare_of : Piece → Piece
bare_of x = record { posted = record { request = x.posted.request; payload = [] }; k = x.k }

-- a row without the bytes of its piece
abbrev bare_row : Transmission → Transmission
bare_row (Sends x) = Sends (bare_of x)
bare_row SendsResume = SendsResume
bare_row rows.Waits = rows.Waits
bare_row IsIdle = IsIdle
bare_row WindowIsFull = WindowIsFull
bare_row ReadsAreFull = ReadsAreFull
bare_row IsFenced = IsFenced

bare_next : (t : Terms) (s : Sender) (o : Option Piece) → bare_row (next_transmission t s o) ≡ next_transmission t s (bare_piece o)
unfolding next_transmission
bare_next t s None = refl
bare_next t s (Some x) = elim (lands x.posted.request.shape.kind && nat_le t.reads (reads_in_flight s.untold t.mtu s.first s.una s.next)) as
    (λ b. bare_row (if b then ReadsAreFull else if x.posted.request.fence && (x.k == 0 && nat_lt (barrier t s) s.next) then IsFenced else Sends x)
    ≡ (if b then ReadsAreFull else if x.posted.request.fence && (x.k == 0 && nat_lt (barrier t s) s.next) then IsFenced else Sends (bare_of x))) [
      | true ↦ refl
      | false ↦ elim (x.posted.request.fence && (x.k == 0 && nat_lt (barrier t s) s.next)) as (λ b. bare_row (if b then IsFenced else Sends x) ≡ (if b then IsFenced else Sends (bare_of x))) [ true ↦ refl | false ↦ refl ]
    ]

-- a next row from the tests that it makes
row_by : (waits idle full : Bool) → Transmission → Transmission
row_by waits idle full row = if waits then rows.Waits else if idle then IsIdle else if full then WindowIsFull else row

row_is : (t : Terms) (s : Sender) → next_row t s ≡ row_by s.rnr_wait (s.next == end_of_queue t s) (nat_le window (packets_in_flight s.untold t.mtu s.first s.una s.next)) (next_transmission t s (piece_at s.untold t.mtu (s.next - s.first)))
unfolding next_row row_by
row_is t s = refl

bare_by : (waits idle full : Bool) (row : Transmission) → bare_row (row_by waits idle full row) ≡ row_by waits idle full (bare_row row)
unfolding row_by
bare_by true idle full row = refl
bare_by false true full row = refl
bare_by false false true row = refl
bare_by false false false row = refl

next_same : (t : Terms) (pool : Pool) (v : Sending) (o : Option Piece) → next_transmission t (sender_in pool v) o ≡ next_transmission t (sender_of v) o
unfolding next_transmission barrier
next_same t pool v None = refl
next_same t pool v (Some x) =
    ap (λ r. if lands x.posted.request.shape.kind && nat_le t.reads r then ReadsAreFull else if x.posted.request.fence && (x.k == 0 && nat_lt (v.numbers.first + next_landing (untold_in pool v.items) t.mtu (v.numbers.una - v.numbers.first)) v.numbers.next) then IsFenced else Sends x)
    (reads_same pool v.items t.mtu v.numbers.first v.numbers.una v.numbers.next)
    ∙ ap (λ b. if lands x.posted.request.shape.kind && nat_le t.reads (reads_in_flight (bares v.items) t.mtu v.numbers.first v.numbers.una v.numbers.next) then ReadsAreFull else if x.posted.request.fence && (x.k == 0 && nat_lt (v.numbers.first + b) v.numbers.next) then IsFenced else Sends x)
    (landing_same pool v.items t.mtu (v.numbers.una - v.numbers.first))

pub end_of_same : (t : Terms) (pool : Pool) (v : Sending) → end_of_queue t (sender_in pool v) ≡ end_of_queue t (sender_of v)
unfolding end_of_queue
end_of_same t pool v = ap (λ n. v.numbers.first + n) (end_same pool v.items t.mtu)

pub row_same : (t : Terms) (pool : Pool) (v : Sending) → bare_row (next_row t (sender_in pool v)) ≡ next_row t (sender_of v)
row_same t pool v =
    let s : Sender = sender_in pool v in
    let b : Sender = sender_of v in
    ap bare_row (row_is t s)
    ∙ (bare_by s.rnr_wait (s.next == end_of_queue t s) (nat_le window (packets_in_flight s.untold t.mtu s.first s.una s.next)) (next_transmission t s (piece_at s.untold t.mtu (s.next - s.first)))
    ∙ (ap (λ n. row_by s.rnr_wait (s.next == n) (nat_le window (packets_in_flight s.untold t.mtu s.first s.una s.next)) (bare_row (next_transmission t s (piece_at s.untold t.mtu (s.next - s.first))))) (end_of_same t pool v)
    ∙ (ap (λ n. row_by s.rnr_wait (s.next == end_of_queue t b) (nat_le window n) (bare_row (next_transmission t s (piece_at s.untold t.mtu (s.next - s.first))))) (packets_same pool v.items t.mtu v.numbers.first v.numbers.una v.numbers.next)
    ∙ (ap (λ r. row_by s.rnr_wait (s.next == end_of_queue t b) (nat_le window (packets_in_flight b.untold t.mtu s.first s.una s.next)) r)
    (bare_next t s (piece_at s.untold t.mtu (s.next - s.first)) ∙ (ap (λ o. next_transmission t s o) (piece_same pool v.items t.mtu (v.numbers.next - v.numbers.first)) ∙ next_same t pool v (piece_at b.untold t.mtu (b.next - b.first))))
    ∙ sym (row_is t b)))))

-- ---- the piece that is sent

sent_piece : (t : Terms) (s : Sender) (o : Option Piece) (x : Piece) → next_transmission t s o ≡ Sends x → o ≡ Some x
unfolding next_transmission
sent_piece t s None x is = absurd (cc)
sent_piece t s (Some y) x is = by_reads (lands y.posted.request.shape.kind && nat_le t.reads (reads_in_flight s.untold t.mtu s.first s.una s.next)) refl
  where
    by_fence : (b : Bool) → (x.k == x.k) ≡ (x.k == x.k) → (if b then IsFenced else Sends y) ≡ Sends x → Some y ≡ Some x
    by_fence true u e = absurd (cc)
    by_fence false u e = let same : y ≡ x = cc in ap (λ z. Some z) same

    by_reads : (b : Bool) → (lands y.posted.request.shape.kind && nat_le t.reads (reads_in_flight s.untold t.mtu s.first s.una s.next)) ≡ b → Some y ≡ Some x
    by_reads true e = absurd (let no : ReadsAreFull ≡ Sends x = sym (ap (λ b. if b then ReadsAreFull else if y.posted.request.fence && (y.k == 0 && nat_lt (barrier t s) s.next) then IsFenced else Sends y) e) ∙ is in cc)
    by_reads false e = by_fence (y.posted.request.fence && (y.k == 0 && nat_lt (barrier t s) s.next)) refl (sym (ap (λ b. if b then ReadsAreFull else if y.posted.request.fence && (y.k == 0 && nat_lt (barrier t s) s.next) then IsFenced else Sends y) e) ∙ is)

sent_by : (waits idle full : Bool) (row : Transmission) (x : Piece) → row_by waits idle full row ≡ Sends x → row ≡ Sends x
unfolding row_by
sent_by true idle full row x is = absurd (cc)
sent_by false true full row x is = absurd (cc)
sent_by false false true row x is = absurd (cc)
sent_by false false false row x is = is

pub sent-there : (t : Terms) (s : Sender) (x : Piece) → next_row t s ≡ Sends x → piece_at s.untold t.mtu (s.next - s.first) ≡ Some x
sent-there t s x is = sent_piece t s (piece_at s.untold t.mtu (s.next - s.first)) x (sent_by s.rnr_wait (s.next == end_of_queue t s) (nat_le window (packets_in_flight s.untold t.mtu s.first s.una s.next)) _ x (sym (row_is t s) ∙ is))

-- the request of a piece that is sent
pub sent-request : (t : Terms) (s : Sender) (x : Piece) → next_row t s ≡ Sends x → slice_get s.untold (request_of s.untold t.mtu (s.next - s.first)) ≡ Some x.posted
sent-request t s x is = request_of_piece s.untold t.mtu (s.next - s.first) x (sent-there t s x is)

-- ---- the row that is said

bare-plain : (row said : Transmission) → bare_row row ≡ said → ((x : Piece) → said ≡ Sends x → ⊥) → row ≡ said
bare-plain (Sends x) said is other = absurd (other (bare_of x) (sym is))
bare-plain SendsResume said is other = is
bare-plain rows.Waits said is other = is
bare-plain IsIdle said is other = is
bare-plain WindowIsFull said is other = is
bare-plain ReadsAreFull said is other = is
bare-plain IsFenced said is other = is

said-piece : (t : Terms) (pool : Pool) (v : Sending) (number index : ℕ) (row : Transmission) → next_row t (sender_in pool v) ≡ row
    → bare_row row ≡ Sends (piece_said t (sender_of v) number index) → index ≡ request_of (bares v.items) t.mtu (v.numbers.next - v.numbers.first)
    → Sends (piece_said t (sender_in pool v) number index) ≡ row
said-piece t pool v number index SendsResume next is at = absurd (cc)
said-piece t pool v number index rows.Waits next is at = absurd (cc)
said-piece t pool v number index IsIdle next is at = absurd (cc)
said-piece t pool v number index WindowIsFull next is at = absurd (cc)
said-piece t pool v number index ReadsAreFull next is at = absurd (cc)
said-piece t pool v number index IsFenced next is at = absurd (cc)
said-piece t pool v number index (Sends x) next is at =
    let same : bare_of x ≡ piece_said t (sender_of v) number index = cc in
    let place : request_of (untold_in pool v.items) t.mtu (v.numbers.next - v.numbers.first) ≡ index = place_same pool v.items t.mtu (v.numbers.next - v.numbers.first) ∙ sym at in
    let there : slice_get (untold_in pool v.items) index ≡ Some x.posted =
    sym (ap (λ i. slice_get (untold_in pool v.items) i) place) ∙ sent-request t (sender_in pool v) x next in
    let posted : request_at (sender_in pool v) index ≡ x.posted = ap (λ o. unwrap_or o no_posted) there in
    let k : number - (v.numbers.first + first_number (untold_in pool v.items) t.mtu index) ≡ x.k =
    ap (λ n. number - (v.numbers.first + n)) (first_same pool v.items t.mtu index) ∙ sym (ap (λ (y : Piece). y.k) same) in
    ap (λ (p : objects.Posted). Sends (record { posted = p; k = number - (v.numbers.first + first_number (untold_in pool v.items) t.mtu index) })) posted
    ∙ ap (λ n. Sends (record { posted = x.posted; k = n })) k

pub row-said : (t : Terms) (pool : Pool) (v : Sending) (r : Transmit) → row_said t (sender_of v) r ≡ next_row t (sender_of v) → IsHeadOf t (sender_of v) r
    → next_row t (sender_in pool v) ≡ row_said t (sender_in pool v) r
row-said t pool v (Sent number index head) row is = sym (said-piece t pool v number index (next_row t (sender_in pool v)) refl (row_same t pool v ∙ sym row) is.1)
row-said t pool v Idle row is = bare-plain (next_row t (sender_in pool v)) IsIdle (row_same t pool v ∙ sym row) (λ x e. cc)
row-said t pool v WindowFull row is = bare-plain (next_row t (sender_in pool v)) WindowIsFull (row_same t pool v ∙ sym row) (λ x e. cc)
row-said t pool v ReadsFull row is = bare-plain (next_row t (sender_in pool v)) ReadsAreFull (row_same t pool v ∙ sym row) (λ x e. cc)
row-said t pool v Fenced row is = bare-plain (next_row t (sender_in pool v)) IsFenced (row_same t pool v ∙ sym row) (λ x e. cc)
row-said t pool v Waiting row is = bare-plain (next_row t (sender_in pool v)) rows.Waits (row_same t pool v ∙ sym row) (λ x e. cc)

-- ---- the sender after a row

after-numbers : (t : Terms) (pool : Pool) (v : Sending) (row : Transmission) → numbers_of (after_row t (sender_of v) (bare_row row)) ≡ numbers_of (after_row t (sender_in pool v) row)
after-numbers t pool v (Sends x) = refl
after-numbers t pool v SendsResume = refl
after-numbers t pool v rows.Waits = refl
after-numbers t pool v IsIdle = refl
after-numbers t pool v WindowIsFull = refl
after-numbers t pool v ReadsAreFull = refl
after-numbers t pool v IsFenced = refl

after-untold : (t : Terms) (pool : Pool) (v : Sending) (row : Transmission) → sender_with (untold_in pool v.items) (numbers_of (after_row t (sender_in pool v) row)) ≡ after_row t (sender_in pool v) row
after-untold t pool v (Sends x) = refl
after-untold t pool v SendsResume = refl
after-untold t pool v rows.Waits = refl
after-untold t pool v IsIdle = refl
after-untold t pool v WindowIsFull = refl
after-untold t pool v ReadsAreFull = refl
after-untold t pool v IsFenced = refl

-- a sender with other numbers and the same requests
pub sender-in : (pool : Pool) (v new : Sending) (s : Sender) → sender_of new ≡ s → new.items ≡ v.items → sender_in pool new ≡ sender_with (untold_in pool v.items) (numbers_of s)
sender-in pool v new s is items = ap (λ ps. sender_with (untold_in pool ps) new.numbers) items ∙ ap (λ x. sender_with (untold_in pool v.items) (numbers_of x)) is

pub after-row : (t : Terms) (pool : Pool) (v new : Sending) → sender_of new ≡ after_row t (sender_of v) (next_row t (sender_of v)) → new.items ≡ v.items
    → sender_in pool new ≡ after_row t (sender_in pool v) (next_row t (sender_in pool v))
after-row t pool v new is items =
    sender-in pool v new (after_row t (sender_of v) (next_row t (sender_of v))) is items
    ∙ (ap (λ r. sender_with (untold_in pool v.items) (numbers_of (after_row t (sender_of v) r))) (sym (row_same t pool v))
    ∙ (ap (λ n. sender_with (untold_in pool v.items) n) (after-numbers t pool v (next_row t (sender_in pool v)))
    ∙ after-untold t pool v (next_row t (sender_in pool v))))

-- ---- the packet of the piece

pub at-in : (pool : Pool) (ps : List QueuedRequest) (i : ℕ) (p : QueuedRequest) → slice_get ps i ≡ Some p → slice_get (untold_in pool ps) i ≡ Some (posted_in pool p)
at-in pool [] i p e = absurd (cc)
at-in pool (x ∷ xs) zero p e = let same : x ≡ p = cc in ap (λ y. Some (posted_in pool y)) same
at-in pool (x ∷ xs) (suc i) p e = at-in pool xs i p e

some-at : (ps : List QueuedRequest) (i : ℕ) → i < length ps → (p : QueuedRequest) × (slice_get ps i ≡ Some p)
some-at [] i within = absurd (omega arith)
some-at (x ∷ xs) zero within = (x, refl)
some-at (x ∷ xs) (suc i) within = some-at xs i (omega arith)

pub index-within : (t : Terms) (v : Sending) (number index : ℕ) → Sends (piece_said t (sender_of v) number index) ≡ next_row t (sender_of v)
    → index ≡ request_of (bares v.items) t.mtu (v.numbers.next - v.numbers.first) → index < length v.items
index-within t v number index row at =
    let there = sent-request t (sender_of v) (piece_said t (sender_of v) number index) (sym row) in
    let found : index < length (bares v.items) = found_within (bares v.items) index _ (ap (λ i. slice_get (bares v.items) i) at ∙ there) in
    omega (arith, length-bares v.items)

asks : (pool : Pool) (p : QueuedRequest) → HoldsPayload pool p.payload → p.payload.length ≡ (if takes_bytes p.request.shape.kind then p.request.shape.length else 0) → Asks (posted_in pool p) p.request.shape
unfolding payload_bytes
asks pool p holds whole = record {
  same = refl;
  whole = λ takes. length-cut p.payload.first p.payload.length (bytes_in pool p.payload.list) holds.inside ∙ (whole ∙ ap (λ b. if b then p.request.shape.length else 0) takes);
}

pub is-packet : (pool : Pool) (held : List RegisteredRegion) (domain : Name) (t : Terms) (v : Sending) (number index : ℕ) (head : PacketHead)
    → Sends (piece_said t (sender_of v) number index) ≡ next_row t (sender_of v) → IsHeadOf t (sender_of v) (Sent number index head) → All (IsPosted pool held domain) v.items
    → (dest psn : ℕ)
    → packet_with head (request_at (sender_in pool v) index) dest psn
    ≡ packet_of_piece (request_at (sender_in pool v) index) t.mtu (piece_said t (sender_in pool v) number index).k dest psn
is-packet pool held domain t v number index head row is all dest psn =
    let found = some-at v.items index (index-within t v number index row is.1) in
    let p = found.0 in
    let posted = all-at (IsPosted pool held domain) v.items index p all found.1 in
    let whole : request_at (sender_in pool v) index ≡ posted_in pool p = ap (λ o. unwrap_or o no_posted) (at-in pool v.items index p found.1) in
    let shape : (request_at (sender_of v) index).request.shape ≡ p.request.shape = ap (λ o. (unwrap_or o no_posted).request.shape) (bare_at v.items index p found.1) in
    let ask : Asks (posted_in pool p) (request_at (sender_of v) index).request.shape = subst (λ s. Asks (posted_in pool p) s) (sym shape) (asks pool p posted.payload.holds posted.payload.whole) in
    ap (λ x. packet_with head x dest psn) whole
    ∙ (is.2 (posted_in pool p) dest psn ask
    ∙ (ap (λ n. packet_of_piece (posted_in pool p) t.mtu (number - (v.numbers.first + n)) dest psn) (sym (first_same pool v.items t.mtu index))
    ∙ ap (λ x. packet_of_piece x t.mtu (piece_said t (sender_in pool v) number index).k dest psn) (sym whole)))
