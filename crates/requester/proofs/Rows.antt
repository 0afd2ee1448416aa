-- The requester's answers in the protocol's words, and what its rules look at.
use Rattle.std.proofs.Common.{arith, ◌≡◌, ◌<◌, ◌≤◌, ◌+◌, ◌-◌, ◌*◌, ℕ, List, [], ◌∷◌, length, Bool, true, false, refl, sym, ap, ◌∙◌}
use Rattle.std.specs.Prelude.{Option, Some, None, min, nat_lt, nat_le, if◌then◌else◌, not, ◌==◌, ◌&&◌, ◌||◌, slice_get, unwrap_or, IsSome}
use Rattle.std.proofs.lemmas.Bool.Decides.{nat_tests}
use Rattle.rdma_types.specs.declared.answers.ArrivalEffect.TheVariants as took
use Rattle.rdma_types.specs.declared.requests.Terms.{Terms}
use Rattle.rdma_types.specs.declared.requests.WcStatus.{WcStatus}
use Rattle.rdma_types.specs.declared.requests.WcStatus.TheVariants as status
use Rattle.rdma_types.specs.Kinds.{is_read, kind_of}
use Rattle.rdma_types.specs.Memory.{word_bytes}
use Rattle.rdma_types.specs.Objects.{Posted, no_posted}
use Rattle.rdma_types.specs.Spans.{Piece, piece_at, piece_length, request_of}
use Rattle.protocol.specs.declared.wire.Aeth.{Aeth}
use Rattle.protocol.specs.declared.wire.Syndrome.{Syndrome}
use Rattle.protocol.specs.declared.wire.Syndrome.TheVariants.{Ack, Rnr, Nak}
use Rattle.protocol.specs.EndWords.{EndStep, stays}
use Rattle.protocol.specs.Memory as memory
use Rattle.protocol.specs.Numbers.{unwrap_near}
use Rattle.protocol.specs.Requester.{acknowledged, advanced, barrier, ends_after, goes_back, is_this_piece, landing, moved_or_useless, old_bytes, response_at, rewound, takes_ack, takes_aeth, takes_landing, takes_nak, takes_piece, takes_refusal, takes_response, takes_rnr, takes_syndrome, telling, transmission, transmitted, useless, waited, waiting, waits_again}
use Rattle.protocol.specs.State.{Context, End, Link, Running, Sender}
use Rattle.protocol.specs.Wire.{Packet, is_read_response}
use Rattle.requester.specs.declared.answers.ResponseEffect.TheVariants.{Acked, Ended, Landed, OldLanded, Rewound, Useless, Waits}
use Rattle.requester.specs.Taking as table
use Rattle.requester.specs.Taking.{Taking, acknowledge_taking, acknowledging, answers, is_of_piece, landing_of, landing_taking, nak_taking, not_ready_taking, number_taking, piece_taking, refusing, request_at, rnr_taking, step_by, step_of, syndrome_taking, taken_response, wait_taking}
use Rattle.requester.specs.Transmitting.{next_row}
use Rattle.rdma_types.proofs.Places.{request_of_piece}

module _ (c : Context) (e : End) (l : Link) (d : Packet) where
  -- ---- acknowledges

  moved_is : (s : Sender) → moved_or_useless l s c (telling c e l s) ≡ step_of c e l d (table.moved_or_useless l.sender s)
  unfolding step_of table.moved_or_useless
  moved_is s = elim (nat_lt l.sender.una s.una) as (λ b. (if b then stays (telling c e l s) took.Acked else useless c) ≡ step_by c e l d (if b then answers Acked s else answers Useless l.sender).taken (if b then answers Acked s else answers Useless l.sender).sender) [ true ↦ refl | false ↦ refl ]

  ack_is : (n : ℕ) → takes_ack c e l n ≡ step_of c e l d (table.moved_or_useless l.sender (acknowledging l.terms l.sender n))
  unfolding takes_ack acknowledging
  ack_is n = moved_is (acknowledged l n)

  refusal_is : (s : Sender) (n : ℕ) (why : WcStatus) → takes_refusal c e l s n why ≡ step_of c e l d (refusing s n why)
  unfolding takes_refusal step_of refusing
  refusal_is s n why = elim (s.una == n) as (λ b. (if b then ends_after c e l s why else goes_back c e l s) ≡ step_by c e l d (if b then answers (Ended why) s else answers Rewound (rewound s)).taken (if b then answers (Ended why) s else answers Rewound (rewound s)).sender) [ true ↦ refl | false ↦ refl ]

  nak_is : (n code : ℕ) → takes_nak c e l n code ≡ step_of c e l d (nak_taking l.terms l.sender n code)
  unfolding takes_nak nak_taking acknowledging step_of
  nak_is n code =
      elim (code == 0) as (λ z. (if z then goes_back c e l (acknowledged l n) else if code == 1 then takes_refusal c e l (acknowledged l n) n status.RemoteInvalid else if code == 2 then takes_refusal c e l (acknowledged l n) n status.RemoteAccess else useless c)
      ≡ step_of c e l d (if z then answers Rewound (rewound (acknowledged l n)) else if code == 1 then refusing (acknowledged l n) n status.RemoteInvalid else if code == 2 then refusing (acknowledged l n) n status.RemoteAccess else answers Useless l.sender)) [
        | true ↦ refl
        | false ↦ elim (code == 1) as (λ z. (if z then takes_refusal c e l (acknowledged l n) n status.RemoteInvalid else if code == 2 then takes_refusal c e l (acknowledged l n) n status.RemoteAccess else useless c)
            ≡ step_of c e l d (if z then refusing (acknowledged l n) n status.RemoteInvalid else if code == 2 then refusing (acknowledged l n) n status.RemoteAccess else answers Useless l.sender)) [
              | true ↦ refusal_is (acknowledged l n) n status.RemoteInvalid
              | false ↦ elim (code == 2) as (λ z. (if z then takes_refusal c e l (acknowledged l n) n status.RemoteAccess else useless c)
                  ≡ step_of c e l d (if z then refusing (acknowledged l n) n status.RemoteAccess else answers Useless l.sender)) [
                    | true ↦ refusal_is (acknowledged l n) n status.RemoteAccess
                    | false ↦ refl
                  ]
            ]
      ]

  wait_is : (s : Sender) → waits_again c e l s ≡ step_of c e l d (wait_taking l.terms s)
  unfolding waits_again wait_taking step_of
  wait_is s = elim (not (l.terms.rnr == 7) && s.waits == l.terms.rnr + 1) as (λ b. (if b then ends_after c e l s status.RnrExceeded else stays (telling c e l (waiting s)) took.Waits) ≡ step_by c e l d (if b then answers (Ended status.RnrExceeded) s else answers Waits (waiting s)).taken (if b then answers (Ended status.RnrExceeded) s else answers Waits (waiting s)).sender) [ true ↦ refl | false ↦ refl ]

  rnr_is : (s : Sender) (n : ℕ) → takes_rnr c e l s n ≡ step_of c e l d (rnr_taking l.terms l.sender s n)
  unfolding takes_rnr rnr_taking
  rnr_is s n = elim (s.una == n) as (λ b. (if b then waits_again c e l (waited s) else moved_or_useless l s c (telling c e l s)) ≡ step_of c e l d (if b then wait_taking l.terms (waited s) else table.moved_or_useless l.sender s)) [ true ↦ wait_is (waited s) | false ↦ moved_is s ]

  not_ready_is : (n : ℕ) → takes_syndrome c e l n Rnr ≡ step_of c e l d (not_ready_taking l.terms l.sender n)
  unfolding not_ready_taking step_of acknowledging
  not_ready_is n = elim l.sender.rnr_wait as (λ b. (if b then useless c else takes_rnr c e l (acknowledged l n) n) ≡ step_of c e l d (if b then answers Useless l.sender else rnr_taking l.terms l.sender (acknowledged l n) n)) [ true ↦ refl | false ↦ rnr_is (acknowledged l n) n ]

  syndrome_is : (n : ℕ) (y : Syndrome) → takes_syndrome c e l n y ≡ step_of c e l d (syndrome_taking l.terms l.sender n y)
  syndrome_is n Ack = ack_is (n + 1)
  syndrome_is n Rnr = not_ready_is n
  syndrome_is n (Nak code) = nak_is n code

  aeth_is : (n : ℕ) (o : Option Aeth) → takes_aeth c e l n o ≡ step_of c e l d (acknowledge_taking l.terms l.sender n o)
  unfolding step_of
  aeth_is n None = refl
  aeth_is n (Some h) = elim (nat_le l.sender.una n && nat_lt n l.sender.top) as (λ b. (if b then takes_syndrome c e l n h.syndrome else useless c) ≡ step_of c e l d (if b then syndrome_taking l.terms l.sender n h.syndrome else answers Useless l.sender)) [ true ↦ syndrome_is n h.syndrome | false ↦ refl ]

  -- ---- what lands

  -- an old value that is there
  old_is : (o : Option ℕ) → IsSome o → word_bytes (unwrap_or o 0) ≡ old_bytes o
  old_is None h = absurd (cc)
  old_is (Some v) h = refl

  piece_is : (d.opcode ≡ 0x12 → IsSome d.old) → (n : ℕ) (o : Option Piece) → piece_at l.sender.untold l.terms.mtu (n - l.sender.first) ≡ o → takes_piece c e l d n o ≡ step_of c e l d (piece_taking l.terms l.sender d n o)
  unfolding takes_piece step_of is_of_piece landing_of
  piece_is old n None found = refl
  piece_is old n (Some x) found = by_kind _ refl
    where
      index : ℕ
      index = request_of l.sender.untold l.terms.mtu (n - l.sender.first)

      there : request_at l.sender index ≡ x.posted
      there = ap (λ o. unwrap_or o no_posted) (request_of_piece l.sender.untold l.terms.mtu (n - l.sender.first) x found)

      by_code : (b : Bool) → (d.opcode == 0x12) ≡ b
          → (if b then stays (telling (memory.landed c x.posted.request.lkey x.posted.request.local (old_bytes d.old)) e l (advanced l.sender (n + 1))) took.Landed else useless c)
          ≡ step_of c e l d (if b then answers (OldLanded index (unwrap_or d.old 0)) (advanced l.sender (n + 1)) else answers Useless l.sender)
      by_code true q = rw (there, old_is d.old (old (grind (arith, nat_tests, q)))) refl
      by_code false q = refl

      by_kind : (b : Bool) → is_read (kind_of x.posted) ≡ b
          → (if (if b then is_read_response d.opcode && length d.payload == piece_length x.posted.request.shape.length x.k l.terms.mtu else d.opcode == 0x12)
          then stays (telling (if b then memory.landed c x.posted.request.lkey (x.posted.request.local + x.k * l.terms.mtu) d.payload else memory.landed c x.posted.request.lkey x.posted.request.local (old_bytes d.old)) e l (advanced l.sender (n + 1))) took.Landed
          else useless c)
          ≡ step_of c e l d (if (if b then is_read_response d.opcode && length d.payload == piece_length x.posted.request.shape.length x.k l.terms.mtu else d.opcode == 0x12)
          then answers (if b then Landed index (x.k * l.terms.mtu) else OldLanded index (unwrap_or d.old 0)) (advanced l.sender (n + 1))
          else answers Useless l.sender)
      by_kind true r = elim (is_read_response d.opcode && length d.payload == piece_length x.posted.request.shape.length x.k l.terms.mtu) as (λ b. (if b then stays (telling (memory.landed c x.posted.request.lkey (x.posted.request.local + x.k * l.terms.mtu) d.payload) e l (advanced l.sender (n + 1))) took.Landed else useless c) ≡ step_of c e l d (if b then answers (Landed index (x.k * l.terms.mtu)) (advanced l.sender (n + 1)) else answers Useless l.sender)) [ true ↦ rw there refl | false ↦ refl ]
      by_kind false r = by_code _ refl

  landing_is : (d.opcode ≡ 0x12 → IsSome d.old) → (n : ℕ) → takes_landing c e l d n ≡ step_of c e l d (landing_taking l.terms l.sender d n)
  unfolding takes_landing landing_taking step_of
  landing_is old n = elim (n == barrier l.terms l.sender && nat_lt n l.sender.top) as (λ b. (if b then takes_piece c e l d n (piece_at l.sender.untold l.terms.mtu (n - l.sender.first)) else useless c) ≡ step_of c e l d (if b then piece_taking l.terms l.sender d n (piece_at l.sender.untold l.terms.mtu (n - l.sender.first)) else answers Useless l.sender)) [ true ↦ piece_is old n (piece_at l.sender.untold l.terms.mtu (n - l.sender.first)) refl | false ↦ refl ]

  number_is : (d.opcode ≡ 0x12 → IsSome d.old) → (o : Option ℕ) → response_at c e l d o ≡ step_of c e l d (number_taking l.terms l.sender d o)
  unfolding step_of
  number_is old None = refl
  number_is old (Some n) = elim (is_read_response d.opcode || d.opcode == 0x12) as (λ b. (if b then takes_landing c e l d n else takes_aeth c e l n d.aeth) ≡ step_of c e l d (if b then landing_taking l.terms l.sender d n else acknowledge_taking l.terms l.sender n d.aeth)) [ true ↦ landing_is old n | false ↦ aeth_is n d.aeth ]

  pub response_is : (d.opcode ≡ 0x12 → IsSome d.old) → takes_response c e l d ≡ step_of c e l d (taken_response l.terms l.sender d)
  unfolding takes_response taken_response
  response_is old = number_is old (unwrap_near l.terms.own_start d.psn l.sender.una)

-- ---- what is sent

pub transmission_is : (l : Link) → l.ended ≡ false → l.moving.phase ≡ Running → transmission l ≡ next_row l.terms l.sender
unfolding transmission next_row
transmission_is l e p = rw (e, p) refl
