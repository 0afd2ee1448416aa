-- The expected piece of a Write or Send: its bytes are the next ones, and it is the last piece where it fills the message.
use Rattle.std.proofs.Common.{arith, ◌≡◌, ◌<◌, ◌≤◌, ◌+◌, ◌/◌, ◌%◌, ◌⊎◌, ℕ, zero, suc, List, [], ◌∷◌, length, true, false, Bool, refl, sym, ap, ◌∙◌, subst}
use Rattle.std.specs.Prelude.{Option, Some, None, if◌then◌else◌, not, nat_lt, nat_le, ◌==◌, ◌&&◌, ◌||◌, take, drop, min}
use Rattle.std.proofs.lemmas.Bool.Decides.{nat_tests}
use Rattle.std.proofs.lemmas.List.{length-take, length-drop}
use Rattle.std.proofs.lemmas.List.Elements.{All-get_or}
use Rattle.rdma_types.specs.declared.names.ObjName.{ObjName}
use Rattle.rdma_types.specs.declared.requests.Kind.{Kind}
use Rattle.rdma_types.specs.declared.requests.Kind.TheVariants as kinds'
use Rattle.rdma_types.specs.Kinds as kinds
use Rattle.rdma_types.specs.Kinds.{kind_of, lands, size_of}
use Rattle.rdma_types.specs.Limits.{is_mtu}
use Rattle.rdma_types.specs.Memory.{cut}
use Rattle.rdma_types.specs.Objects.{Posted, no_posted}
use Rattle.protocol.specs.declared.wire.Reth.{Reth}
use Rattle.protocol.specs.Bytes.{bytes_at}
use Rattle.protocol.specs.State.{World, Link, NoMessage, InWrite}
use Rattle.protocol.specs.Segments.{message_packet, is_first_piece, is_last_piece}
use Rattle.protocol.specs.Wire.{Packet, when}
use Rattle.protocol.specs.EndWords.{is_paused}
use Rattle.protocol.specs.Responder.{is_invalid, part_of, is_write, is_read_request, finishes}
use Rattle.packetless_machine.specs.Machine as machine
use Rattle.packetless_machine.specs.Machine.{Machine, End}
use Rattle.packetless_machine.specs.Steps.{current, fills, next_bytes}
use Rattle.law_simulation.specs.Packets.{class_of, IsRequest}
use Rattle.law_simulation.specs.Views.{link_of}
use Rattle.law_simulation.specs.Joined.{IsSayable}
use Rattle.law_simulation.specs.Delivered.{Arrives}
use Rattle.law_simulation.proofs.requests.Requests.{asker, request_at_end}
use Rattle.law_simulation.proofs.requests.Opcodes.{IsMessage, part, message_is, message_kind}
use Rattle.law_simulation.proofs.requests.Due.{piece_bytes, last_is, whole_back, span_message}
use Rattle.law_simulation.proofs.requests.Expected.{at, mtu_now, g_sound, inside, packet_now}

-- ---- bytes

abbrev no_bytes : List ℕ
no_bytes = []

take_min : (n : ℕ) (xs : List ℕ) → take n xs ≡ take (min n (length xs)) xs
take_min zero xs = let same : 0 ≡ min 0 (length xs) = omega arith in ap (λ k. take k xs) same
take_min (suc n) [] = none (min (suc n) 0)
  where
    none : (k : ℕ) → no_bytes ≡ take k no_bytes
    none zero = refl
    none (suc k) = refl
take_min (suc n) (x ∷ xs) =
    let more : min (suc n) (suc (length xs)) ≡ suc (min n (length xs)) = omega arith in
    ap (λ ys. x ∷ ys) (take_min n xs) ∙ ap (λ k. take k (x ∷ xs)) (sym more)

-- the next piece of a payload of that many bytes
pub piece_cut : (payload : List ℕ) (size into mtu : ℕ) → length payload ≡ size → take mtu (drop into payload) ≡ take (piece_bytes size into mtu) (drop into payload)
piece_cut payload size into mtu h = take_min mtu (drop into payload) ∙ ap (λ k. take k (drop into payload)) (left into)
  where
    left : (j : ℕ) → min mtu (length (drop j payload)) ≡ piece_bytes size j mtu
    left j = omega (arith, length-drop j payload, h)

pub piece_length : (payload : List ℕ) (size into mtu : ℕ) → length payload ≡ size → length (take mtu (drop into payload)) ≡ piece_bytes size into mtu
piece_length payload size into mtu h = omega (arith, length-take mtu (drop into payload), length-drop into payload, h)

no_landing : (k : Kind) → kinds.is_read k ≡ false → kinds.is_atomic k ≡ false → lands k ≡ false
no_landing kinds'.Write r t = refl
no_landing kinds'.Send r t = refl
no_landing kinds'.Read r t = absurd (cc)
no_landing kinds'.CompareSwap r t = absurd (cc)
no_landing kinds'.FetchAdd r t = absurd (cc)

-- ---- valid pieces

-- of a Write, at the beginning
pub write_first_valid : (l : Link) (d : Packet) (h : Reth) (last : Bool) → l.receiver.progress ≡ NoMessage → part_of d.opcode ≡ part true last → is_write d.opcode ≡ true → is_read_request d.opcode ≡ false → d.reth ≡ Some h → d.atomic ≡ None → h.length ≤ 1048576 →
    (last ≡ true → (length d.payload ≡ h.length) × (length d.payload ≤ l.terms.mtu)) → (last ≡ false → (length d.payload ≡ l.terms.mtu) × (length d.payload < h.length)) → is_invalid l d ≡ false
unfolding is_invalid
write_first_valid l d h true none place write read reth atomic short whole more = rw (none, place, write, read, reth, atomic) (by (whole refl).0 (whole refl).1)
  where
    by : length d.payload ≡ h.length → length d.payload ≤ l.terms.mtu → (false || (nat_lt l.terms.mtu (length d.payload) || ((true && (nat_lt 1048576 h.length || not (length d.payload + 0 == h.length))) || ((false && nat_lt 1048576 h.length) || false)))) ≡ false
    by e f = grind (arith, nat_tests, e, f, short)
write_first_valid l d h false none place write read reth atomic short whole more = rw (none, place, write, read, reth, atomic) (by (more refl).0 (more refl).1)
  where
    by : length d.payload ≡ l.terms.mtu → length d.payload < h.length → (false || (not (length d.payload == l.terms.mtu) || ((true && (nat_lt 1048576 h.length || nat_le h.length (length d.payload + 0))) || ((false && nat_lt 1048576 h.length) || false)))) ≡ false
    by e f = grind (arith, nat_tests, e, f, short)

-- .. and later
pub write_later_valid : (l : Link) (d : Packet) (last : Bool) (region off count done : ℕ) → l.receiver.progress ≡ InWrite region off count done → part_of d.opcode ≡ part false last → is_write d.opcode ≡ true → is_read_request d.opcode ≡ false → d.reth ≡ None → d.atomic ≡ None → count ≤ 1048576 →
    (last ≡ true → (length d.payload + done ≡ count) × (1 ≤ length d.payload) × (length d.payload ≤ l.terms.mtu)) → (last ≡ false → (length d.payload ≡ l.terms.mtu) × (length d.payload + done < count)) → is_invalid l d ≡ false
unfolding is_invalid
write_later_valid l d true region off count done there place write read reth atomic short whole more = rw (there, place, write, read, reth, atomic) (by (whole refl).0 (whole refl).1 (whole refl).2)
  where
    by : length d.payload + done ≡ count → 1 ≤ length d.payload → length d.payload ≤ l.terms.mtu → (not true || ((length d.payload == 0 || nat_lt l.terms.mtu (length d.payload)) || ((true && (nat_lt 1048576 count || not (length d.payload + done == count))) || ((false && false) || false)))) ≡ false
    by e f g = grind (arith, nat_tests, e, f, g, short)
write_later_valid l d false region off count done there place write read reth atomic short whole more = rw (there, place, write, read, reth, atomic) (by (more refl).0 (more refl).1)
  where
    by : length d.payload ≡ l.terms.mtu → length d.payload + done < count → (not true || (not (length d.payload == l.terms.mtu) || ((true && (nat_lt 1048576 count || nat_le count (length d.payload + done))) || ((false && false) || false)))) ≡ false
    by e f = grind (arith, nat_tests, e, f, short)

-- ---- the piece that is expected

module _ (w : World) (m : Machine) (o : ObjName) (l : Link) (number : Option ℕ) (bytes : List ℕ) (d : Packet) (a : Arrives w m o l number bytes d) (is : class_of d ≡ IsRequest) (paused : is_paused l.moving.phase ≡ false) (now : (request_at_end w m o l number bytes d a is).0 ≡ l.receiver.expected)
    (not_read : kinds.is_read (kind_of (current (machine.end_of m (machine.end_of m o).peer))) ≡ false) (not_atomic : kinds.is_atomic (kind_of (current (machine.end_of m (machine.end_of m o).peer))) ≡ false) where
  abbrev q : ObjName
  q = asker m o

  abbrev g : End
  g = machine.end_of m q

  abbrev r : Posted
  r = current g

  abbrev k : ℕ
  k = g.into / g.mtu

  abbrev dest : ℕ
  dest = (link_of w q).peer

  abbrev psn : ℕ
  psn = d.psn

  abbrev first : Bool
  first = is_first_piece k

  abbrev last : Bool
  last = is_last_piece r.request.shape g.mtu k

  pub message_now : (z : ℕ) × (d ≡ message_packet r g.mtu k dest z first last)
  message_now = (_, packet_now w m o l number bytes d a is paused now ∙ message_is r g.mtu k dest _ not_read not_atomic)

  abbrev number_of : ℕ
  number_of = message_now.0

  pub opcode_now : IsMessage (kind_of r) first last d.opcode
  unfolding message_packet
  opcode_now = subst (λ z. IsMessage (kind_of r) first last z.opcode) (sym message_now.1) (message_kind r g.mtu k dest number_of not_read not_atomic)

  pub mtu_is_one : is_mtu g.mtu ≡ true
  mtu_is_one = mtu_now w m o l number bytes d a is paused now

  pub whole_now : g.into % g.mtu ≡ 0
  whole_now = (at w m o l number bytes d a is paused now).back.in_pieces.acting.0

  pub begun_now : (g.into ≡ 0) ⊎ (g.into < size_of r)
  begun_now = (at w m o l number bytes d a is paused now).back.in_pieces.acting.1

  pub sayable_now : IsSayable r
  sayable_now = All-get_or IsSayable g.posted g.acted no_posted (inside w m o l number bytes d a is paused now) (at w m o l number bytes d a is paused now).back.in_pieces.sayable

  pub size_now : length r.payload ≡ size_of r
  size_now = sayable_now.payload (no_landing (kind_of r) not_read not_atomic)

  payload_part : d.payload ≡ take g.mtu (drop g.into r.payload)
  unfolding message_packet bytes_at
  payload_part = ap (λ z. z.payload) message_now.1 ∙ ap (λ j. take g.mtu (drop j r.payload)) (whole_back g.into g.mtu mtu_is_one whole_now)

  -- how many bytes it has
  pub bytes_now : length d.payload ≡ piece_bytes (size_of r) g.into g.mtu
  bytes_now = ap length payload_part ∙ piece_length r.payload (size_of r) g.into g.mtu size_now

  -- they are the next ones
  pub next_now : d.payload ≡ next_bytes g (length d.payload)
  unfolding cut
  next_now = payload_part ∙ (piece_cut r.payload (size_of r) g.into g.mtu size_now ∙ ap (λ j. take j (drop g.into r.payload)) (sym bytes_now))

  -- it is the last piece where it fills the message
  pub last_now : last ≡ fills g (length d.payload)
  last_now =
      ap (λ j. k + 1 == j) (span_message r g.mtu not_atomic)
      ∙ (last_is (size_of r) g.into g.mtu mtu_is_one whole_now begun_now ∙ ap (λ j. g.into + j == size_of r) (sym bytes_now))

  pub atomic_none : d.atomic ≡ None
  unfolding message_packet
  atomic_none = ap (λ z. z.atomic) message_now.1

  pub reth_now : d.reth ≡ when (first && kinds.is_write (kind_of r)) (record { address = r.request.shape.remote; rkey = r.request.shape.rkey; length = r.request.shape.length })
  unfolding message_packet
  reth_now = ap (λ z. z.reth) message_now.1

  pub imm_now : d.imm ≡ (if last then r.request.shape.imm else None)
  unfolding message_packet
  imm_now = ap (λ z. z.imm) message_now.1

  pub size_small : size_of r ≤ 1048576
  size_small = (g_sound w m o l number bytes d a is paused now).sizes g.acted (inside w m o l number bytes d a is paused now)

  pub fits_mtu : length d.payload ≤ g.mtu
  fits_mtu = omega (arith, bytes_now)

  pub finishes_now : finishes (part_of d.opcode) ≡ fills g (length d.payload)
  finishes_now = ap finishes opcode_now.part ∙ (by_parts first last ∙ last_now)
    where
      by_parts : (f t : Bool) → finishes (part f t) ≡ t
      by_parts true true = refl
      by_parts true false = refl
      by_parts false true = refl
      by_parts false false = refl
