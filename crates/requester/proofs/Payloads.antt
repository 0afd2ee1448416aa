-- The requester's rules look at requests, and not at their bytes.
use Rattle.std.proofs.Common.{arith, ◌≡◌, ◌<◌, ◌≤◌, ◌+◌, ◌-◌, ◌*◌, ℕ, suc, List, [], ◌∷◌, length, Bool, true, false, refl, sym, ap, ◌∙◌}
use Rattle.std.specs.Prelude.{Option, Some, None, min, max, map, nat_lt, nat_le, if◌then◌else◌, not, ◌==◌, ◌&&◌, ◌||◌, slice_get, unwrap_or}
use Rattle.std.proofs.lemmas.Bool.Decides.{nat_tests}
use Rattle.rdma_types.specs.declared.requests.Terms.{Terms}
use Rattle.rdma_types.specs.declared.requests.WcStatus.{WcStatus}
use Rattle.rdma_types.specs.declared.requests.WcStatus.TheVariants as status
use Rattle.rdma_types.specs.Kinds.{is_read, kind_of, lands}
use Rattle.rdma_types.specs.Limits.{window}
use Rattle.rdma_types.specs.Objects as objects
use Rattle.rdma_types.specs.Objects.{no_posted}
use Rattle.rdma_types.specs.Spans.{Piece, end_number, first_number, next_landing, piece_at, piece_length, request_of, span_of}
use Rattle.protocol.specs.declared.wire.Aeth.{Aeth}
use Rattle.protocol.specs.declared.wire.Syndrome.{Syndrome}
use Rattle.protocol.specs.declared.wire.Syndrome.TheVariants.{Ack, Rnr, Nak}
use Rattle.protocol.specs.Numbers.{unwrap_near}
use Rattle.protocol.specs.Requester.{advanced, barrier, packets_in_flight, reads_in_flight, rewound, told_count, waited, waiting}
use Rattle.protocol.specs.State.{Sender}
use Rattle.protocol.specs.Wire.{Packet, is_read_response}
use Rattle.page_pool.specs.Pool.{Pool}
use Rattle.end_queues.specs.declared.work_queues.posted.QueuedRequest.{QueuedRequest}
use Rattle.end_queues.specs.Untold.{posted_in, untold_in}
use Rattle.requester.specs.declared.answers.ResponseEffect.TheVariants.{Acked, Ended, Landed, OldLanded, Rewound, Useless, Waits}
use Rattle.requester.specs.Sending.{Sending, bare, bares, numbers_of, sender_in, sender_of, sender_with}
use Rattle.requester.specs.Taking.{Taking, acknowledge_taking, acknowledging, answers, is_of_piece, landing_of, landing_taking, moved_or_useless, nak_taking, not_ready_taking, number_taking, piece_taking, refusing, rnr_taking, syndrome_taking, taken_response, wait_taking}

-- ---- the words on lists of requests

pub landing_same : (pool : Pool) (ps : List QueuedRequest) (mtu n : ℕ) → next_landing (untold_in pool ps) mtu n ≡ next_landing (bares ps) mtu n
unfolding next_landing
landing_same pool [] mtu n = refl
landing_same pool (p ∷ ps) mtu n =
    ap (λ m. if nat_lt n (span_of (bare p) mtu) then (if lands p.request.shape.kind then n else span_of (bare p) mtu + m) else span_of (bare p) mtu + next_landing (untold_in pool ps) mtu (n - span_of (bare p) mtu)) (landing_same pool ps mtu 0)
    ∙ ap (λ m. if nat_lt n (span_of (bare p) mtu) then (if lands p.request.shape.kind then n else span_of (bare p) mtu + next_landing (bares ps) mtu 0) else span_of (bare p) mtu + m) (landing_same pool ps mtu (n - span_of (bare p) mtu))

pub place_same : (pool : Pool) (ps : List QueuedRequest) (mtu n : ℕ) → request_of (untold_in pool ps) mtu n ≡ request_of (bares ps) mtu n
unfolding request_of
place_same pool [] mtu n = refl
place_same pool (p ∷ ps) mtu n = ap (λ m. if nat_lt n (span_of (bare p) mtu) then 0 else suc m) (place_same pool ps mtu (n - span_of (bare p) mtu))

-- a piece without its bytes
abbrev pub bare_piece : Option Piece → Option Piece
bare_piece None = None
bare_piece (Some x) = Some (record { posted = record { request = x.posted.request; payload = [] }; k = x.k })

pub piece_same : (pool : Pool) (ps : List QueuedRequest) (mtu n : ℕ) → bare_piece (piece_at (untold_in pool ps) mtu n) ≡ piece_at (bares ps) mtu n
unfolding piece_at
piece_same pool [] mtu n = refl
piece_same pool (p ∷ ps) mtu n = elim (nat_lt n (span_of (bare p) mtu)) as (λ b. bare_piece (if b then Some (record { posted = posted_in pool p; k = n }) else piece_at (untold_in pool ps) mtu (n - span_of (bare p) mtu)) ≡ (if b then Some (record { posted = bare p; k = n }) else piece_at (bares ps) mtu (n - span_of (bare p) mtu))) [ true ↦ refl | false ↦ piece_same pool ps mtu (n - span_of (bare p) mtu) ]

-- ---- the tables, at other requests for which the words are the same

module _ (t : Terms) (s : Sender) (us : List objects.Posted)
    (landings : (n : ℕ) → next_landing us t.mtu n ≡ next_landing s.untold t.mtu n)
    (places : (n : ℕ) → request_of us t.mtu n ≡ request_of s.untold t.mtu n)
    (pieces : (n : ℕ) → bare_piece (piece_at us t.mtu n) ≡ bare_piece (piece_at s.untold t.mtu n))
    (d : Packet) where
  -- the sender with those requests
  at' : Sender → Sender
  at' q = record q { untold = us }

  -- the answer, with those requests
  same_as : Taking → Taking
  same_as r = record { taken = r.taken; sender = record r.sender { untold = us } }

  barrier_same : barrier t (at' s) ≡ barrier t s
  unfolding barrier at'
  barrier_same = ap (λ n. s.first + n) (landings (s.una - s.first))

  advanced_same : (n : ℕ) → advanced (at' s) n ≡ at' (advanced s n)
  unfolding advanced at'
  advanced_same n = elim (nat_lt s.una n) as (λ b. (if b then record s { untold = us; una = n; spent = 0; waits = 0; next = max s.next n } else record s { untold = us }) ≡ record (if b then record s { una = n; spent = 0; waits = 0; next = max s.next n } else s) { untold = us }) [ true ↦ refl | false ↦ refl ]

  acknowledging_same : (n : ℕ) → acknowledging t (at' s) n ≡ at' (acknowledging t s n)
  unfolding acknowledging
  acknowledging_same n = ap (λ b. advanced (at' s) (min n b)) barrier_same ∙ advanced_same (min n (barrier t s))

  moved_same : (a : Sender) → moved_or_useless (at' s) (at' a) ≡ same_as (moved_or_useless s a)
  unfolding moved_or_useless at' same_as
  moved_same a = elim (nat_lt s.una a.una) as (λ b. (if b then answers Acked (record a { untold = us }) else answers Useless (record s { untold = us })) ≡ record { taken = (if b then answers Acked a else answers Useless s).taken; sender = record (if b then answers Acked a else answers Useless s).sender { untold = us } }) [ true ↦ refl | false ↦ refl ]

  refusing_same : (a : Sender) (n : ℕ) (why : WcStatus) → refusing (at' a) n why ≡ same_as (refusing a n why)
  unfolding refusing at' same_as rewound
  refusing_same a n why = elim (a.una == n) as (λ b. (if b then answers (Ended why) (record a { untold = us }) else answers Rewound (record a { untold = us; next = a.una })) ≡ record { taken = (if b then answers (Ended why) a else answers Rewound (record a { next = a.una })).taken; sender = record (if b then answers (Ended why) a else answers Rewound (record a { next = a.una })).sender { untold = us } }) [ true ↦ refl | false ↦ refl ]

  wait_same : (a : Sender) → wait_taking t (at' a) ≡ same_as (wait_taking t a)
  unfolding wait_taking at' same_as
  wait_same a = elim (not (t.rnr == 7) && a.waits == t.rnr + 1) as (λ b. (if b then answers (Ended status.RnrExceeded) (record a { untold = us }) else answers Waits (record a { untold = us; rnr_wait = true })) ≡ record { taken = (if b then answers (Ended status.RnrExceeded) a else answers Waits (waiting a)).taken; sender = record (if b then answers (Ended status.RnrExceeded) a else answers Waits (waiting a)).sender { untold = us } }) [ true ↦ refl | false ↦ refl ]

  rnr_same : (a : Sender) (n : ℕ) → rnr_taking t (at' s) (at' a) n ≡ same_as (rnr_taking t s a n)
  unfolding rnr_taking at' same_as
  rnr_same a n = elim (a.una == n) as (λ b. (if b then wait_taking t (waited (at' a)) else moved_or_useless (at' s) (at' a)) ≡ same_as (if b then wait_taking t (waited a) else moved_or_useless s a)) [ true ↦ wait_same (waited a) | false ↦ moved_same a ]

  not_ready_same : (n : ℕ) → not_ready_taking t (at' s) n ≡ same_as (not_ready_taking t s n)
  unfolding not_ready_taking at' same_as
  not_ready_same n = rw (acknowledging_same n) (elim s.rnr_wait as (λ b. (if b then answers Useless (at' s) else rnr_taking t (at' s) (at' (acknowledging t s n)) n) ≡ same_as (if b then answers Useless s else rnr_taking t s (acknowledging t s n) n)) [ true ↦ refl | false ↦ rnr_same (acknowledging t s n) n ])

  nak_same : (n code : ℕ) → nak_taking t (at' s) n code ≡ same_as (nak_taking t s n code)
  unfolding nak_taking at' same_as rewound
  nak_same n code = rw (acknowledging_same n) (
      elim (code == 0) as (λ z. (if z then answers Rewound (rewound (at' (acknowledging t s n))) else if code == 1 then refusing (at' (acknowledging t s n)) n status.RemoteInvalid else if code == 2 then refusing (at' (acknowledging t s n)) n status.RemoteAccess else answers Useless (at' s))
      ≡ same_as (if z then answers Rewound (rewound (acknowledging t s n)) else if code == 1 then refusing (acknowledging t s n) n status.RemoteInvalid else if code == 2 then refusing (acknowledging t s n) n status.RemoteAccess else answers Useless s)) [
        | true ↦ refl
        | false ↦ elim (code == 1) as (λ z. (if z then refusing (at' (acknowledging t s n)) n status.RemoteInvalid else if code == 2 then refusing (at' (acknowledging t s n)) n status.RemoteAccess else answers Useless (at' s))
            ≡ same_as (if z then refusing (acknowledging t s n) n status.RemoteInvalid else if code == 2 then refusing (acknowledging t s n) n status.RemoteAccess else answers Useless s)) [
              | true ↦ refusing_same (acknowledging t s n) n status.RemoteInvalid
              | false ↦ elim (code == 2) as (λ z. (if z then refusing (at' (acknowledging t s n)) n status.RemoteAccess else answers Useless (at' s))
                  ≡ same_as (if z then refusing (acknowledging t s n) n status.RemoteAccess else answers Useless s)) [
                    | true ↦ refusing_same (acknowledging t s n) n status.RemoteAccess
                    | false ↦ refl
                  ]
            ]
      ])

  syndrome_same : (n : ℕ) (y : Syndrome) → syndrome_taking t (at' s) n y ≡ same_as (syndrome_taking t s n y)
  syndrome_same n Ack = ap (λ q. moved_or_useless (at' s) q) (acknowledging_same (n + 1)) ∙ moved_same (acknowledging t s (n + 1))
  syndrome_same n Rnr = not_ready_same n
  syndrome_same n (Nak code) = nak_same n code

  acknowledge_same : (n : ℕ) (o : Option Aeth) → acknowledge_taking t (at' s) n o ≡ same_as (acknowledge_taking t s n o)
  unfolding at' same_as
  acknowledge_same n None = refl
  acknowledge_same n (Some h) = elim (nat_le s.una n && nat_lt n s.top) as (λ b. (if b then syndrome_taking t (at' s) n h.syndrome else answers Useless (at' s)) ≡ same_as (if b then syndrome_taking t s n h.syndrome else answers Useless s)) [ true ↦ syndrome_same n h.syndrome | false ↦ refl ]

  -- a piece is taken by its request alone
  taken_piece : (n index : ℕ) (q : Sender) → Option Piece → Taking
  taken_piece n index q None = answers Useless q
  taken_piece n index q (Some x) = if is_of_piece t d x then answers (landing_of t d index x) (advanced q (n + 1)) else answers Useless q

  bare_taken : (n index : ℕ) (q : Sender) (o : Option Piece) → taken_piece n index q (bare_piece o) ≡ taken_piece n index q o
  unfolding taken_piece is_of_piece landing_of
  bare_taken n index q None = refl
  bare_taken n index q (Some x) = refl

  piece_taken : (n : ℕ) (q : Sender) (o : Option Piece) → piece_taking t q d n o ≡ taken_piece n (request_of q.untold t.mtu (n - q.first)) q o
  unfolding taken_piece
  piece_taken n q None = refl
  piece_taken n q (Some x) = refl

  taken_same : (n index : ℕ) (o : Option Piece) → taken_piece n index (at' s) o ≡ same_as (taken_piece n index s o)
  unfolding taken_piece at' same_as
  taken_same n index None = refl
  taken_same n index (Some x) = rw (advanced_same (n + 1)) (elim (is_of_piece t d x) as (λ b. (if b then answers (landing_of t d index x) (at' (advanced s (n + 1))) else answers Useless (at' s)) ≡ same_as (if b then answers (landing_of t d index x) (advanced s (n + 1)) else answers Useless s)) [ true ↦ refl | false ↦ refl ])

  piece_taking_same : (n : ℕ) → piece_taking t (at' s) d n (piece_at us t.mtu (n - s.first)) ≡ same_as (piece_taking t s d n (piece_at s.untold t.mtu (n - s.first)))
  unfolding at'
  piece_taking_same n =
      piece_taken n (at' s) (piece_at us t.mtu (n - s.first))
      ∙ (ap (λ i. taken_piece n i (at' s) (piece_at us t.mtu (n - s.first))) (places (n - s.first))
      ∙ (sym (bare_taken n (request_of s.untold t.mtu (n - s.first)) (at' s) (piece_at us t.mtu (n - s.first)))
      ∙ (ap (λ o. taken_piece n (request_of s.untold t.mtu (n - s.first)) (at' s) o) (pieces (n - s.first))
      ∙ (bare_taken n (request_of s.untold t.mtu (n - s.first)) (at' s) (piece_at s.untold t.mtu (n - s.first))
      ∙ (taken_same n (request_of s.untold t.mtu (n - s.first)) (piece_at s.untold t.mtu (n - s.first))
      ∙ ap same_as (sym (piece_taken n s (piece_at s.untold t.mtu (n - s.first)))))))))

  landing_taking_same : (n : ℕ) → landing_taking t (at' s) d n ≡ same_as (landing_taking t s d n)
  unfolding landing_taking at' same_as
  landing_taking_same n = rw barrier_same (elim (n == barrier t s && nat_lt n s.top) as (λ b. (if b then piece_taking t (at' s) d n (piece_at us t.mtu (n - s.first)) else answers Useless (at' s)) ≡ same_as (if b then piece_taking t s d n (piece_at s.untold t.mtu (n - s.first)) else answers Useless s)) [ true ↦ piece_taking_same n | false ↦ refl ])

  number_same : (o : Option ℕ) → number_taking t (at' s) d o ≡ same_as (number_taking t s d o)
  unfolding at' same_as
  number_same None = refl
  number_same (Some n) = elim (is_read_response d.opcode || d.opcode == 0x12) as (λ b. (if b then landing_taking t (at' s) d n else acknowledge_taking t (at' s) n d.aeth) ≡ same_as (if b then landing_taking t s d n else acknowledge_taking t s n d.aeth)) [ true ↦ landing_taking_same n | false ↦ acknowledge_same n d.aeth ]

  response_same : taken_response t (at' s) d ≡ same_as (taken_response t s d)
  unfolding taken_response at'
  response_same = number_same (unwrap_near t.own_start d.psn s.una)

bare_of_bare : (ps : List QueuedRequest) (mtu n : ℕ) → bare_piece (piece_at (bares ps) mtu n) ≡ piece_at (bares ps) mtu n
unfolding piece_at
bare_of_bare [] mtu n = refl
bare_of_bare (p ∷ ps) mtu n = elim (nat_lt n (span_of (bare p) mtu)) as (λ b. bare_piece (if b then Some (record { posted = bare p; k = n }) else piece_at (bares ps) mtu (n - span_of (bare p) mtu)) ≡ (if b then Some (record { posted = bare p; k = n }) else piece_at (bares ps) mtu (n - span_of (bare p) mtu))) [ true ↦ refl | false ↦ bare_of_bare ps mtu (n - span_of (bare p) mtu) ]

-- a response does the same with the bytes
pub response_in : (pool : Pool) (v : Sending) (d : Packet) → taken_response v.terms (sender_in pool v) d ≡ record { taken = (taken_response v.terms (sender_of v) d).taken; sender = sender_with (untold_in pool v.items) (numbers_of (taken_response v.terms (sender_of v) d).sender) }
unfolding at' same_as
response_in pool v d = response_same v.terms (sender_of v) (untold_in pool v.items) (landing_same pool v.items v.terms.mtu) (place_same pool v.items v.terms.mtu) (λ n. piece_same pool v.items v.terms.mtu n ∙ sym (bare_of_bare v.items v.terms.mtu n)) d

-- .. and as much is told
pub told_in : (pool : Pool) (v : Sending) → told_count v.terms (sender_in pool v) ≡ told_count v.terms (sender_of v)
told_in pool v = place_same pool v.items v.terms.mtu (v.numbers.una - v.numbers.first)
