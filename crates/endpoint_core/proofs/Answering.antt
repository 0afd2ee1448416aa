-- What the answers to responses say: what lands lies in its request's place, and where nothing happens nothing changed.
use Rattle.std.proofs.Common.{◌≡◌, ℕ, ◌+◌, ◌-◌, ◌*◌, ◌≤◌, ◌<◌, Bool, true, false, length, refl, ap, sym, ◌∙◌, arith}
use Rattle.std.specs.Prelude.{◌==◌, ◌&&◌, ◌||◌, not, Option, Some, None, nat_le, nat_lt, slice_get, unwrap_or, if◌then◌else◌}
use Rattle.std.proofs.lemmas.Bool.Decides.{nat_tests}
use Rattle.rdma_types.specs.declared.requests.Kind.{Kind}
use Rattle.rdma_types.specs.declared.requests.Kind.TheVariants.{Write, Send, Read, CompareSwap, FetchAdd}
use Rattle.rdma_types.specs.declared.requests.Terms.{Terms}
use Rattle.rdma_types.specs.declared.requests.WcStatus.{WcStatus}
use Rattle.rdma_types.specs.declared.requests.WcStatus.TheVariants as status
use Rattle.rdma_types.specs.Kinds.{is_atomic, is_read, lands}
use Rattle.rdma_types.specs.Spans.{Piece, next_landing, piece_at, piece_length, request_of, span_of}
use Rattle.protocol.specs.declared.wire.Aeth.{Aeth}
use Rattle.protocol.specs.declared.wire.Syndrome.{Syndrome}
use Rattle.protocol.specs.declared.wire.Syndrome.TheVariants.{Ack, Rnr, Nak}
use Rattle.protocol.specs.Numbers.{unwrap_near}
use Rattle.protocol.specs.Requester.{advanced, barrier, rewound, waited, waiting}
use Rattle.protocol.specs.State.{Sender}
use Rattle.protocol.specs.Wire.{Packet, is_read_response}
use Rattle.requester.specs.declared.answers.ResponseEffect.TheVariants.{Acked, Ended, Landed, OldLanded, Rewound, Useless, Waits}
use Rattle.requester.specs.Taking.{Taking, acknowledge_taking, acknowledging, answers, is_of_piece, landing_of, landing_taking, moved_or_useless, nak_taking, not_ready_taking, number_taking, piece_taking, refusing, rnr_taking, syndrome_taking, taken_response, wait_taking}
use Rattle.rdma_types.proofs.Places.{landing_lands, piece_below_span, request_of_piece, span_within}
use Rattle.transport.proofs.Pieces.{piece_begins_within}
use Rattle.endpoint_core.specs.Responded.{Lands}

-- what lands lies in its request's place, and where nothing happens the sender is as it was
pub record IsRow (s : Sender) (d : Packet) (r : Taking) : Type 0 where
  pub landing : Lands s.untold d r.taken
  pub useless : r.taken ≡ Useless → r.sender ≡ s

module _ (t : Terms) (s : Sender) (d : Packet) where
  row_if : (b : Bool) (x y : Taking) → IsRow s d x → IsRow s d y → IsRow s d (if b then x else y)
  row_if true x y one two = one
  row_if false x y one two = two

  useless_row : IsRow s d (answers Useless s)
  useless_row = record { landing = tt; useless = λ e. refl }

  acked_row : (a : Sender) → IsRow s d (answers Acked a)
  acked_row a = record { landing = tt; useless = λ e. absurd (cc) }

  rewound_row : (a : Sender) → IsRow s d (answers Rewound a)
  rewound_row a = record { landing = tt; useless = λ e. absurd (cc) }

  waits_row : (a : Sender) → IsRow s d (answers Waits a)
  waits_row a = record { landing = tt; useless = λ e. absurd (cc) }

  ended_row : (why : WcStatus) (a : Sender) → IsRow s d (answers (Ended why) a)
  ended_row why a = record { landing = tt; useless = λ e. absurd (cc) }

  moved_row : (a : Sender) → IsRow s d (moved_or_useless s a)
  unfolding moved_or_useless
  moved_row a = row_if (nat_lt s.una a.una) (answers Acked a) (answers Useless s) (acked_row a) useless_row

  refusing_row : (a : Sender) (n : ℕ) (why : WcStatus) → IsRow s d (refusing a n why)
  unfolding refusing
  refusing_row a n why = row_if (a.una == n) (answers (Ended why) a) (answers Rewound (rewound a)) (ended_row why a) (rewound_row (rewound a))

  nak_row : (n code : ℕ) → IsRow s d (nak_taking t s n code)
  unfolding nak_taking
  nak_row n code =
      row_if (code == 0) _ _ (rewound_row (rewound (acknowledging t s n)))
      (row_if (code == 1) _ _ (refusing_row (acknowledging t s n) n status.RemoteInvalid)
      (row_if (code == 2) _ _ (refusing_row (acknowledging t s n) n status.RemoteAccess) useless_row))

  wait_row : (a : Sender) → IsRow s d (wait_taking t a)
  unfolding wait_taking
  wait_row a = row_if (not (t.rnr == 7) && a.waits == t.rnr + 1) _ _ (ended_row status.RnrExceeded a) (waits_row (waiting a))

  rnr_row : (a : Sender) (n : ℕ) → IsRow s d (rnr_taking t s a n)
  unfolding rnr_taking
  rnr_row a n = row_if (a.una == n) _ _ (wait_row (waited a)) (moved_row a)

  not_ready_row : (n : ℕ) → IsRow s d (not_ready_taking t s n)
  unfolding not_ready_taking
  not_ready_row n = row_if s.rnr_wait _ _ useless_row (rnr_row (acknowledging t s n) n)

  syndrome_row : (n : ℕ) (y : Syndrome) → IsRow s d (syndrome_taking t s n y)
  syndrome_row n Ack = moved_row (acknowledging t s (n + 1))
  syndrome_row n Rnr = not_ready_row n
  syndrome_row n (Nak code) = nak_row n code

  acknowledge_row : (n : ℕ) (o : Option Aeth) → IsRow s d (acknowledge_taking t s n o)
  acknowledge_row n None = useless_row
  acknowledge_row n (Some h) = row_if (nat_le s.una n && nat_lt n s.top) _ _ (syndrome_row n h.syndrome) useless_row

  atomic_kind : (k : Kind) → lands k ≡ true → is_read k ≡ false → is_atomic k ≡ true
  atomic_kind Write l r = absurd (cc)
  atomic_kind Send l r = absurd (cc)
  atomic_kind Read l r = absurd (cc)
  atomic_kind CompareSwap l r = refl
  atomic_kind FetchAdd l r = refl

  read_fits : (x : Piece) → 0 < t.mtu → x.k < span_of x.posted t.mtu → is_of_piece t d x ≡ true → is_read x.posted.request.shape.kind ≡ true → x.k * t.mtu + length d.payload ≤ x.posted.request.shape.length
  unfolding is_of_piece
  read_fits x mtu below of read =
      let size : (is_read_response d.opcode && length d.payload == piece_length x.posted.request.shape.length x.k t.mtu) ≡ true =
      sym (ap (λ b. if b then is_read_response d.opcode && length d.payload == piece_length x.posted.request.shape.length x.k t.mtu else d.opcode == 0x12) read) ∙ of in
      let begins = piece_begins_within x.posted.request.shape.length t.mtu x.k mtu (let within = span_within x.posted.request.shape t.mtu in omega (arith, within, below)) in
      same_size (is_read_response d.opcode) size begins
    where
      same_size : (b : Bool) → (b && length d.payload == piece_length x.posted.request.shape.length x.k t.mtu) ≡ true → x.k * t.mtu ≤ x.posted.request.shape.length → x.k * t.mtu + length d.payload ≤ x.posted.request.shape.length
      same_size true e begins = let same : length d.payload ≡ piece_length x.posted.request.shape.length x.k t.mtu = grind (arith, nat_tests, e) in omega (arith, same, begins)
      same_size false e begins = absurd (cc)

  piece_lands : (index : ℕ) (x : Piece) → 0 < t.mtu → slice_get s.untold index ≡ Some x.posted → lands x.posted.request.shape.kind ≡ true → x.k < span_of x.posted t.mtu → is_of_piece t d x ≡ true → Lands s.untold d (landing_of t d index x)
  unfolding landing_of
  piece_lands index x mtu there landing below of = by_kind (is_read x.posted.request.shape.kind) refl
    where
      by_kind : (b : Bool) → is_read x.posted.request.shape.kind ≡ b → Lands s.untold d (if b then Landed index (x.k * t.mtu) else OldLanded index (unwrap_or d.old 0))
      by_kind true e = (x.posted, there, landing, read_fits x mtu below of e)
      by_kind false e = (x.posted, there, landing, atomic_kind x.posted.request.shape.kind landing e)

  busy : (b : Bool) (index off old : ℕ) → (if b then Landed index off else OldLanded index old) ≡ Useless → ⊥
  busy true index off old e = cc
  busy false index off old e = cc

  piece_row : (n : ℕ) (o : Option Piece) → 0 < t.mtu
      → ((x : Piece) → o ≡ Some x → (slice_get s.untold (request_of s.untold t.mtu (n - s.first)) ≡ Some x.posted) × (lands x.posted.request.shape.kind ≡ true) × (x.k < span_of x.posted t.mtu))
      → IsRow s d (piece_taking t s d n o)
  unfolding landing_of
  piece_row n None mtu here = useless_row
  piece_row n (Some x) mtu here = by_test (is_of_piece t d x) refl
    where
      index : ℕ
      index = request_of s.untold t.mtu (n - s.first)

      by_test : (b : Bool) → is_of_piece t d x ≡ b → IsRow s d (if b then answers (landing_of t d (request_of s.untold t.mtu (n - s.first)) x) (advanced s (n + 1)) else answers Useless s)
      by_test false e = useless_row
      by_test true e = let found = here x refl in record {
        landing = piece_lands (request_of s.untold t.mtu (n - s.first)) x mtu found.0 found.1 found.2 e;
        useless = λ u. absurd (busy (is_read x.posted.request.shape.kind) (request_of s.untold t.mtu (n - s.first)) (x.k * t.mtu) (unwrap_or d.old 0) u);
      }

  landing_row : (n : ℕ) → 0 < t.mtu → IsRow s d (landing_taking t s d n)
  unfolding landing_taking barrier
  landing_row n mtu = by_test (n == barrier t s && nat_lt n s.top) refl
    where
      due : (n == (s.first + next_landing s.untold t.mtu (s.una - s.first)) && nat_lt n s.top) ≡ true → n ≡ s.first + next_landing s.untold t.mtu (s.una - s.first)
      due e = grind (arith, nat_tests, e)

      by_test : (b : Bool) → (n == barrier t s && nat_lt n s.top) ≡ b → IsRow s d (if b then piece_taking t s d n (piece_at s.untold t.mtu (n - s.first)) else answers Useless s)
      by_test false e = useless_row
      by_test true e =
          let place : n - s.first ≡ next_landing s.untold t.mtu (s.una - s.first) = let at = due e in omega (arith, at) in
          piece_row n (piece_at s.untold t.mtu (n - s.first)) mtu (λ x is. (
            request_of_piece s.untold t.mtu (n - s.first) x is,
            landing_lands s.untold t.mtu (s.una - s.first) x (sym (ap (λ m. piece_at s.untold t.mtu m) place) ∙ is),
            (piece_below_span s.untold t.mtu (n - s.first) x is).1,
          ))

  number_row : (o : Option ℕ) → 0 < t.mtu → IsRow s d (number_taking t s d o)
  number_row None mtu = useless_row
  number_row (Some n) mtu = row_if (is_read_response d.opcode || d.opcode == 0x12) _ _ (landing_row n mtu) (acknowledge_row n d.aeth)

  pub response_row : 0 < t.mtu → IsRow s d (taken_response t s d)
  unfolding taken_response
  response_row mtu = number_row (unwrap_near t.own_start d.psn s.una) mtu
