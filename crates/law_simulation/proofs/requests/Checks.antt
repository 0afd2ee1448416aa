-- The responder's checks of the expected request are the machine's tests of its current one.
use Rattle.std.proofs.Common.{arith, ◌≡◌, ◌<◌, ◌≤◌, ◌+◌, ◌-◌, ◌*◌, ◌/◌, ◌%◌, ◌^◌, ◌⊎◌, ℕ, suc, List, [], ◌∷◌, length, true, false, Bool, refl, sym, ap, ◌∙◌, subst, inl, inr}
use Rattle.std.specs.Prelude.{Option, Some, None, if◌then◌else◌, is_some, not, nat_lt, nat_le, ◌==◌, ◌&&◌, ◌||◌}
use Rattle.std.proofs.lemmas.Bool.Decides.{nat_tests, leb_tells, eqb_tells}
use Rattle.std.proofs.lemmas.List.Elements.{All-get_or}
use Rattle.rdma_types.specs.declared.names.ObjName.{ObjName}
use Rattle.rdma_types.specs.declared.requests.Kind.{Kind}
use Rattle.rdma_types.specs.declared.requests.Kind.TheVariants as kinds'
use Rattle.rdma_types.specs.declared.requests.Receive.{Receive}
use Rattle.rdma_types.specs.Kinds as kinds
use Rattle.rdma_types.specs.Kinds.{kind_of, lands, size_of}
use Rattle.rdma_types.specs.Limits.{number_limit}
use Rattle.rdma_types.specs.Memory.{RemoteAtomic, RemoteRead, RemoteWrite, granted, is_granted, remote_key}
use Rattle.rdma_types.specs.Objects.{Posted, Region, no_posted, no_region}
use Rattle.rdma_types.specs.Spans.{first_number, request_of, span_of, span, pieces}
use Rattle.rdma_types.specs.declared.answers.RefusalReason.TheVariants as refused
use Rattle.protocol.specs.declared.wire.Reth.{Reth}
use Rattle.protocol.specs.State as state
use Rattle.protocol.specs.State.{World, Link, Progress, NoMessage, InSend, InWrite}
use Rattle.protocol.specs.Numbers.{wire_number}
use Rattle.protocol.specs.Segments.{read_packet, atomic_packet, opcode_of, is_first_piece, is_last_piece}
use Rattle.protocol.specs.Wire.{Packet, plain, when}
use Rattle.protocol.specs.EndWords.{is_paused}
use Rattle.protocol.specs.Responder.{is_invalid, part_of, is_send, is_write, is_read_request, begins, target, is_not_ready, needs_receive, is_empty, is_too_long, receive_of, bytes_before, front, span_of_packet, no_repeat, refuses, granted_packet, expected_packet}
use Rattle.packetless_machine.specs.Machine as machine
use Rattle.packetless_machine.specs.Machine.{Machine, End, regions_of}
use Rattle.packetless_machine.specs.Numbers.{due}
use Rattle.packetless_machine.specs.Steps.{fills, is_misaligned, is_current_granted, is_request_granted, is_granted_there, right_for, has_unused, has_imm, receive_for, first_receive, overflows, peer_of}
use Rattle.law_simulation.specs.Packets.{class_of, IsRequest}
use Rattle.law_simulation.specs.Facts.{past_packet, request_for}
use Rattle.law_simulation.specs.Views.{link_of, link_or_none, requests_of, owned, owned_there, receive_in}
use Rattle.law_simulation.specs.Joined.{IsProgress, IsSayable, is_granted_in}
use Rattle.law_simulation.specs.Delivered.{Arrives}
use Rattle.law_simulation.proofs.requests.Requests.{IsRequestAt, asking, request_at_end}
use Rattle.law_simulation.proofs.requests.Scenes.{scene}
use Rattle.law_simulation.proofs.requests.Counting.{same_here, owned_here, progress_now}
use Rattle.law_simulation.proofs.requests.Opcodes.{IsMessage, part, read_is, atomic_is}
use Rattle.law_simulation.proofs.requests.Pieces.{first_suc}
use Rattle.law_simulation.proofs.requests.Due.{piece_bytes, whole_back, not_last, mtu_is, mtu_positive}
use Rattle.law_simulation.proofs.requests.Expected.{mtu_now, g_sound, inside, packet_now, request_now, below_top, due_now}
use Rattle.law_simulation.proofs.requests.Messages.{write_first_valid, write_later_valid, opcode_now, last_now, bytes_now, begun_now, whole_now, reth_now, imm_now, atomic_none, fits_mtu}

-- ---- tests

not_more : (a b : ℕ) → b ≤ a → nat_lt a b ≡ false
not_more a b h = grind (arith, nat_tests)

are_same : (a b : ℕ) → (a == b) ≡ true → a ≡ b
are_same a b t = grind (arith, nat_tests, eqb_tells a b, t)

-- ---- valid pieces of a Send

-- at the beginning
pub send_first_valid : (l : Link) (d : Packet) (last : Bool) → l.receiver.progress ≡ NoMessage → part_of d.opcode ≡ part true last → is_write d.opcode ≡ false → is_read_request d.opcode ≡ false → d.atomic ≡ None →
    (last ≡ true → length d.payload ≤ l.terms.mtu) → (last ≡ false → length d.payload ≡ l.terms.mtu) → is_invalid l d ≡ false
unfolding is_invalid
send_first_valid l d true none place write read atomic whole more = rw (none, place, write, read, atomic) (by (whole refl))
  where
    by : length d.payload ≤ l.terms.mtu → (nat_lt l.terms.mtu (length d.payload) || false) ≡ false
    by h = grind (arith, nat_tests, h)
send_first_valid l d false none place write read atomic whole more = rw (none, place, write, read, atomic) (by (more refl))
  where
    by : length d.payload ≡ l.terms.mtu → (not (length d.payload == l.terms.mtu) || false) ≡ false
    by h = grind (arith, nat_tests, h)

-- .. and later
pub send_later_valid : (l : Link) (d : Packet) (last : Bool) (done : ℕ) (v : Receive) → l.receiver.progress ≡ InSend done v → part_of d.opcode ≡ part false last → is_send d.opcode ≡ true → is_write d.opcode ≡ false → is_read_request d.opcode ≡ false → d.atomic ≡ None →
    (last ≡ true → (1 ≤ length d.payload) × (length d.payload ≤ l.terms.mtu)) → (last ≡ false → length d.payload ≡ l.terms.mtu) → is_invalid l d ≡ false
unfolding is_invalid
send_later_valid l d true done v there place send write read atomic whole more = rw (there, place, send, write, read, atomic) (by (whole refl).0 (whole refl).1)
  where
    by : 1 ≤ length d.payload → length d.payload ≤ l.terms.mtu → ((length d.payload == 0 || nat_lt l.terms.mtu (length d.payload)) || false) ≡ false
    by g h = grind (arith, nat_tests, g, h)
send_later_valid l d false done v there place send write read atomic whole more = rw (there, place, send, write, read, atomic) (by (more refl))
  where
    by : length d.payload ≡ l.terms.mtu → (not (length d.payload == l.terms.mtu) || false) ≡ false
    by h = grind (arith, nat_tests, h)

-- ---- READ requests and atomics

read_valid : (l : Link) (p : Posted) (mtu k dest psn : ℕ) → size_of p ≤ 1048576 → is_invalid l (read_packet p.request.shape mtu k dest psn) ≡ false
unfolding is_invalid part_of read_packet
read_valid l p mtu k dest psn small = by (p.request.shape.length - k * mtu) (omega (arith, small))
  where
    by : (n : ℕ) → n ≤ 1048576 → (nat_lt 1048576 n || false) ≡ false
    by n h = grind (arith, nat_tests, h)

atomic_invalid : (l : Link) (p : Posted) (dest psn : ℕ) → kinds.is_atomic (kind_of p) ≡ true → is_invalid l (atomic_packet p.request.shape dest psn) ≡ is_misaligned p
unfolding is_invalid part_of atomic_packet opcode_of
atomic_invalid l p dest psn t = by_kind p.request.shape.kind t
  where
    by_kind : (kind : Kind) → kinds.is_atomic kind ≡ true →
        is_invalid l (record (plain (opcode_of kind true true false) dest psn) { ack_request = true; atomic = Some (record { address = p.request.shape.remote; rkey = p.request.shape.rkey; swap_add = p.request.shape.swap_add; compare = p.request.shape.compare }) }) ≡ (kinds.is_atomic kind && not (p.request.shape.remote % 8 == 0))
    by_kind kinds'.CompareSwap h = refl
    by_kind kinds'.FetchAdd h = refl
    by_kind kinds'.Read h = absurd (cc)
    by_kind kinds'.Write h = absurd (cc)
    by_kind kinds'.Send h = absurd (cc)

-- ---- targets

some_if : (b : Bool) (z : Option Region) → is_some (if b then Some no_region else z) ≡ (b || is_some z)
some_if true z = refl
some_if false z = refl

read_target : (c : state.Context) (e : state.End) (p : Posted) (mtu dest psn : ℕ) → p.request.shape.remote < 2 ^ 64 → is_some (target c e (read_packet p.request.shape mtu 0 dest psn)) ≡ is_granted remote_key c.regions e.domain p.request.shape.rkey p.request.shape.remote (size_of p) RemoteRead
unfolding target read_packet is_granted
read_target c e p mtu dest psn said =
    let from : (p.request.shape.remote + 0 * mtu) % 18446744073709551616 ≡ p.request.shape.remote = omega (arith, said) in
    let all : p.request.shape.length - 0 * mtu ≡ p.request.shape.length = omega arith in
    (λ i. is_some (if all i == 0 then Some no_region else granted remote_key c.regions e.domain p.request.shape.rkey (from i) (all i) RemoteRead))
    ∙ some_if (p.request.shape.length == 0) (granted remote_key c.regions e.domain p.request.shape.rkey p.request.shape.remote p.request.shape.length RemoteRead)

atomic_target : (c : state.Context) (e : state.End) (p : Posted) (dest psn : ℕ) → size_of p ≡ 8 → is_some (target c e (atomic_packet p.request.shape dest psn)) ≡ is_granted remote_key c.regions e.domain p.request.shape.rkey p.request.shape.remote (size_of p) RemoteAtomic
unfolding target atomic_packet is_granted
atomic_target c e p dest psn word = ap (λ k. (k == 0) || is_some (granted remote_key c.regions e.domain p.request.shape.rkey p.request.shape.remote k RemoteAtomic)) (sym word)

-- of a Send, and of later pieces of a Write
no_target : (c : state.Context) (e : state.End) (d : Packet) → d.atomic ≡ None → d.reth ≡ None → target c e d ≡ Some no_region
unfolding target
no_target c e d atomic reth = rw (atomic, reth) refl

-- of the first piece of a Write
write_target : (c : state.Context) (e : state.End) (d : Packet) (h : Reth) → d.atomic ≡ None → d.reth ≡ Some h → is_read_request d.opcode ≡ false → is_some (target c e d) ≡ is_granted remote_key c.regions e.domain h.rkey h.address h.length RemoteWrite
unfolding target is_granted
write_target c e d h atomic reth read = rw (atomic, reth, read) (some_if (h.length == 0) (granted remote_key c.regions e.domain h.rkey h.address h.length RemoteWrite))

-- ---- kinds

pub kind_lands : (k : Kind) → kinds.is_read k ≡ true → lands k ≡ true
kind_lands kinds'.Read h = refl
kind_lands kinds'.Write h = absurd (cc)
kind_lands kinds'.Send h = absurd (cc)
kind_lands kinds'.CompareSwap h = absurd (cc)
kind_lands kinds'.FetchAdd h = absurd (cc)

pub atomic_lands : (k : Kind) → kinds.is_atomic k ≡ true → lands k ≡ true
atomic_lands kinds'.Read h = absurd (cc)
atomic_lands kinds'.Write h = absurd (cc)
atomic_lands kinds'.Send h = absurd (cc)
atomic_lands kinds'.CompareSwap h = refl
atomic_lands kinds'.FetchAdd h = refl

-- one kind alone
pub record IsOnly (reads acts sends writes : Bool) (k : Kind) : Type 0 where
  pub read : kinds.is_read k ≡ reads
  pub atomic : kinds.is_atomic k ≡ acts
  pub send : kinds.is_send k ≡ sends
  pub write : kinds.is_write k ≡ writes

-- a Read, an atomic, a Send or a Write
abbrev pub Sort : Kind → Type 0
Sort k = IsOnly true false false false k ⊎ IsOnly false true false false k ⊎ IsOnly false false true false k ⊎ IsOnly false false false true k

pub sort_of : (k : Kind) → Sort k
sort_of kinds'.Read = inl (record { read = refl; atomic = refl; send = refl; write = refl })
sort_of kinds'.CompareSwap = inr (inl (record { read = refl; atomic = refl; send = refl; write = refl }))
sort_of kinds'.FetchAdd = inr (inl (record { read = refl; atomic = refl; send = refl; write = refl }))
sort_of kinds'.Send = inr (inr (inl (record { read = refl; atomic = refl; send = refl; write = refl })))
sort_of kinds'.Write = inr (inr (inr (record { read = refl; atomic = refl; send = refl; write = refl })))

-- ---- receives

front_long : (us : List Receive) (n : ℕ) → is_empty us ≡ false → nat_lt (front us).length n ≡ overflows (first_receive None us) n
unfolding first_receive overflows
front_long [] n h = absurd (cc)
front_long (v ∷ vs) n h = refl

-- the bytes of a Send do not fit its receive, on both sides
long_send : (e : state.End) (x : End) (into k : ℕ) (p : Progress) → receive_in p ≡ x.in_use → e.unused ≡ x.unused → bytes_before None p ≡ into → (into ≡ 0 → is_empty e.unused ≡ false) → ((z : ℕ) (v : Receive) → p ≡ InSend z v → 0 < z) → ((f a b z : ℕ) → p ≡ InWrite f a b z → ⊥) →
    nat_lt (receive_of e p).length (bytes_before None p + k) ≡ overflows (receive_for x) (into + k)
unfolding receive_of receive_for first_receive overflows receive_in
long_send e x into k NoMessage used unused before ready sends writes =
    (λ i. nat_lt (front e.unused).length (before i + k))
    ∙ (front_long e.unused (into + k) (ready (sym before)) ∙ (λ i. overflows (first_receive (used i) (unused i)) (into + k)))
long_send e x into k (InSend done v) used unused before ready sends writes =
    (λ i. nat_lt v.length (before i + k)) ∙ (λ i. overflows (first_receive (used i) x.unused) (into + k))
long_send e x into k (InWrite f a b z) used unused before ready sends writes = absurd (writes f a b z refl)

empty_is : (us : List Receive) → is_empty us ≡ not (nat_lt 0 (length us))
empty_is [] = refl
empty_is (v ∷ vs) = grind (arith, nat_tests)

-- ---- the expected request

module _ (w : World) (m : Machine) (o : ObjName) (l : Link) (number : Option ℕ) (bytes : List ℕ) (d : Packet) (a : Arrives w m o l number bytes d) (is : class_of d ≡ IsRequest) (paused : is_paused l.moving.phase ≡ false) (now : (request_at_end w m o l number bytes d a is).0 ≡ l.receiver.expected) where
  open scene w m o l number bytes d a is use {n, q, g, r, x, c, e}

  abbrev it : IsRequestAt w m o l n d
  it = (request_at_end w m o l number bytes d a is).2

  abbrev dest : ℕ
  dest = (link_of w q).peer

  pub sayable : IsSayable r
  sayable = All-get_or IsSayable g.posted g.acted no_posted (inside w m o l number bytes d a is paused now) it.back.in_pieces.sayable

  pub small : size_of r ≤ 1048576
  small = (g_sound w m o l number bytes d a is paused now).sizes g.acted (inside w m o l number bytes d a is paused now)

  pub mtu_here : l.terms.mtu ≡ g.mtu
  mtu_here = ap (λ (z : Link). z.terms.mtu) (sym it.link) ∙ (sym (ap (λ t. t.mtu) it.joined.exchanged) ∙ it.back.mtu)

  pub progress_here : IsProgress (asking m o) x.domain (regions_of m o.context) l.receiver.progress
  progress_here = progress_now w m o l n d a.stands a.live a.linked it

  pub regions_here : c.regions ≡ regions_of m o.context
  regions_here = (same_here w m o l n d a.stands a.live a.linked it).regions

  pub domain_here : e.domain ≡ x.domain
  unfolding owned owned_there
  domain_here = ap (λ z. z.domain) (owned_here w m o l n d a.stands a.live a.linked it)

  pub unused_here : e.unused ≡ x.unused
  unfolding owned owned_there
  unused_here = ap (λ z. z.unused) (owned_here w m o l n d a.stands a.live a.linked it)

  pub in_use_here : receive_in l.receiver.progress ≡ x.in_use
  unfolding owned owned_there link_or_none
  in_use_here = ap (λ z. receive_in (link_or_none z).receiver.progress) (sym a.linked) ∙ ap (λ z. z.in_use) (owned_here w m o l n d a.stands a.live a.linked it)

  -- its range is granted on both sides
  pub granted_here : is_current_granted m q ≡ is_granted remote_key c.regions e.domain r.request.shape.rkey r.request.shape.remote (size_of r) (right_for (kind_of r))
  unfolding is_request_granted is_granted_there
  granted_here =
      ap (λ (j : ObjName). is_granted remote_key (regions_of m j.context) (machine.end_of m j).domain r.request.shape.rkey r.request.shape.remote (size_of r) (right_for (kind_of r))) it.joined.back
      ∙ (λ i. is_granted remote_key (sym regions_here i) (sym domain_here i) r.request.shape.rkey r.request.shape.remote (size_of r) (right_for (kind_of r)))

  none_divided : g.into ≡ 0 → g.into / g.mtu ≡ 0
  none_divided h = ap (λ k. k / g.mtu) h ∙ mtu_is (λ k. 0 / k ≡ 0) (omega arith) (omega arith) (omega arith) (omega arith) (omega arith) g.mtu (mtu_now w m o l number bytes d a is paused now)

  -- ---- a Read

  module _ (reads : kinds.is_read (kind_of r) ≡ true) where
    pub read_whole : g.into ≡ 0
    read_whole = (g_sound w m o l number bytes d a is paused now).whole_turns (kind_lands (kind_of r) reads)

    pub read_now : (z : ℕ) × (d ≡ read_packet r.request.shape g.mtu 0 dest z)
    read_now = (_, packet_now w m o l number bytes d a is paused now ∙ (read_is r g.mtu (g.into / g.mtu) dest _ reads ∙ ap (λ k. read_packet r.request.shape g.mtu k dest (wire_number (link_of w q).terms.own_start n)) (none_divided read_whole)))

    read_is_valid : is_invalid l d ≡ false
    read_is_valid = ap (is_invalid l) read_now.1 ∙ read_valid l r g.mtu 0 dest read_now.0 small

    read_right : right_for (kind_of r) ≡ RemoteRead
    unfolding right_for
    read_right = by_kind (kind_of r) reads
      where
        by_kind : (k : Kind) → kinds.is_read k ≡ true → right_for k ≡ RemoteRead
        by_kind kinds'.Read h = refl
        by_kind kinds'.Write h = absurd (cc)
        by_kind kinds'.Send h = absurd (cc)
        by_kind kinds'.CompareSwap h = absurd (cc)
        by_kind kinds'.FetchAdd h = absurd (cc)

    pub read_granted : is_some (target c e d) ≡ is_current_granted m q
    read_granted =
        ap (λ z. is_some (target c e z)) read_now.1
        ∙ (read_target c e r g.mtu dest read_now.0 sayable.remote
        ∙ (ap (is_granted remote_key c.regions e.domain r.request.shape.rkey r.request.shape.remote (size_of r)) (sym read_right) ∙ sym granted_here))

  -- ---- an atomic

  module _ (not_read : kinds.is_read (kind_of r) ≡ false) (atomic : kinds.is_atomic (kind_of r) ≡ true) where
    pub atomic_whole : g.into ≡ 0
    atomic_whole = (g_sound w m o l number bytes d a is paused now).whole_turns (atomic_lands (kind_of r) atomic)

    pub atomic_now : (z : ℕ) × (d ≡ atomic_packet r.request.shape dest z)
    atomic_now = (_, packet_now w m o l number bytes d a is paused now ∙ atomic_is r g.mtu (g.into / g.mtu) dest _ not_read atomic)

    atomic_is_valid : is_invalid l d ≡ is_misaligned r
    atomic_is_valid = ap (is_invalid l) atomic_now.1 ∙ atomic_invalid l r dest atomic_now.0 atomic

    atomic_right : right_for (kind_of r) ≡ RemoteAtomic
    unfolding right_for
    atomic_right = by_kind (kind_of r) atomic
      where
        by_kind : (k : Kind) → kinds.is_atomic k ≡ true → right_for k ≡ RemoteAtomic
        by_kind kinds'.Read h = absurd (cc)
        by_kind kinds'.Write h = absurd (cc)
        by_kind kinds'.Send h = absurd (cc)
        by_kind kinds'.CompareSwap h = refl
        by_kind kinds'.FetchAdd h = refl

    pub atomic_granted : is_some (target c e d) ≡ is_current_granted m q
    atomic_granted =
        ap (λ z. is_some (target c e z)) atomic_now.1
        ∙ (atomic_target c e r dest atomic_now.0 (sayable.word atomic)
        ∙ (ap (is_granted remote_key c.regions e.domain r.request.shape.rkey r.request.shape.remote (size_of r)) (sym atomic_right) ∙ sym granted_here))

  -- ---- a Write or Send

  module _ (not_read : kinds.is_read (kind_of r) ≡ false) (not_atomic : kinds.is_atomic (kind_of r) ≡ false) where
    abbrev first : Bool
    first = is_first_piece (g.into / g.mtu)

    abbrev last : Bool
    last = is_last_piece r.request.shape g.mtu (g.into / g.mtu)

    message : IsMessage (kind_of r) first last d.opcode
    message = opcode_now w m o l number bytes d a is paused now not_read not_atomic

    count : length d.payload ≡ piece_bytes (size_of r) g.into g.mtu
    count = bytes_now w m o l number bytes d a is paused now not_read not_atomic

    begun : (g.into ≡ 0) ⊎ (g.into < size_of r)
    begun = begun_now w m o l number bytes d a is paused now not_read not_atomic

    fills_now : last ≡ fills g (length d.payload)
    fills_now = last_now w m o l number bytes d a is paused now not_read not_atomic

    atomic_is_none : d.atomic ≡ None
    atomic_is_none = atomic_none w m o l number bytes d a is paused now not_read not_atomic

    reth_is : d.reth ≡ when (first && kinds.is_write (kind_of r)) (record { address = r.request.shape.remote; rkey = r.request.shape.rkey; length = r.request.shape.length })
    reth_is = reth_now w m o l number bytes d a is paused now not_read not_atomic

    fits_here : length d.payload ≤ l.terms.mtu
    fits_here = omega (arith, mtu_here, fits_mtu w m o l number bytes d a is paused now not_read not_atomic)

    divided : g.into / g.mtu * g.mtu ≡ g.into
    divided = whole_back g.into g.mtu (mtu_now w m o l number bytes d a is paused now) (whole_now w m o l number bytes d a is paused now not_read not_atomic)

    pub first_is : first ≡ (g.into == 0)
    first_is = by_tests (g.into / g.mtu == 0) (g.into == 0) refl refl
      where
        is_none : (k : ℕ) → k ≡ 0 → (k == 0) ≡ true
        is_none k h = grind (arith, nat_tests)

        by_tests : (b t : Bool) → (g.into / g.mtu == 0) ≡ b → (g.into == 0) ≡ t → b ≡ t
        by_tests true true h i = refl
        by_tests false false h i = refl
        by_tests true false h i =
            let none : g.into / g.mtu ≡ 0 = are_same (g.into / g.mtu) 0 h in
            let nothing : 0 * g.mtu ≡ 0 = omega arith in
            sym (is_none g.into (sym divided ∙ (ap (λ k. k * g.mtu) none ∙ nothing))) ∙ i
        by_tests false true h i = sym h ∙ is_none (g.into / g.mtu) (none_divided (are_same g.into 0 i))

    pub first_none : g.into ≡ 0 → first ≡ true
    first_none h = first_is ∙ test g.into h
      where
        test : (k : ℕ) → k ≡ 0 → (k == 0) ≡ true
        test k h = grind (arith, nat_tests)

    pub first_some : 0 < g.into → first ≡ false
    first_some h = first_is ∙ test g.into h
      where
        test : (k : ℕ) → 0 < k → (k == 0) ≡ false
        test k h = grind (arith, nat_tests)

    -- its bytes: the last piece ends the message, and another is whole and leaves some of it
    ends : last ≡ true → length d.payload + g.into ≡ size_of r
    ends h = omega (arith, are_same (g.into + length d.payload) (size_of r) (sym fills_now ∙ h))

    leaves : last ≡ false → (length d.payload ≡ g.mtu) × (length d.payload + g.into < size_of r)
    leaves h =
        let rest = not_last (size_of r) g.into g.mtu begun (ap (λ k. g.into + k == size_of r) (sym count) ∙ (sym fills_now ∙ h)) in
        (count ∙ rest.0, omega (arith, rest.1, rest.0, count))

    -- some bytes are left of a message that has begun
    some : 0 < g.into → 1 ≤ length d.payload
    some h = by begun
      where
        by : (g.into ≡ 0) ⊎ (g.into < size_of r) → 1 ≤ length d.payload
        by (inl z) = absurd (omega (arith, h, z))
        by (inr j) = omega (arith, count, j, mtu_positive g.mtu (mtu_now w m o l number bytes d a is paused now))

    by_parts : (f : Bool) → first ≡ f → part_of d.opcode ≡ part f last
    by_parts f h = message.part ∙ ap (λ b. part b last) h

    -- a Send
    module _ (send : kinds.is_send (kind_of r) ≡ true) (write : kinds.is_write (kind_of r) ≡ false) where
      reth_none : d.reth ≡ None
      reth_none = reth_is ∙ (ap (λ b. when {A = Reth} (first && b) (record { address = r.request.shape.remote; rkey = r.request.shape.rkey; length = r.request.shape.length })) write ∙ no_reth first)
        where
          no_reth : (b : Bool) → when {A = Reth} (b && false) (record { address = r.request.shape.remote; rkey = r.request.shape.rkey; length = r.request.shape.length }) ≡ None
          no_reth true = refl
          no_reth false = refl

      pub send_target : target c e d ≡ Some no_region
      send_target = no_target c e d atomic_is_none reth_none

      send_valid : (p : Progress) → l.receiver.progress ≡ p → IsProgress (asking m o) x.domain (regions_of m o.context) p → is_invalid l d ≡ false
      send_valid NoMessage h i = send_first_valid l d last h (by_parts true (first_none i)) (message.write ∙ write) message.read atomic_is_none (λ t. fits_here) (λ t. (leaves t).0 ∙ sym mtu_here)
      send_valid (InSend done v) h i =
          let later : 0 < g.into = omega (arith, i.0, i.1) in
          send_later_valid l d last done v h (by_parts false (first_some later)) (message.send ∙ send) (message.write ∙ write) message.read atomic_is_none (λ t. (some later, fits_here)) (λ t. (leaves t).0 ∙ sym mtu_here)
      send_valid (InWrite region off size done) h i = absurd (cc (i.2, write))

      pub send_is_valid : is_invalid l d ≡ false
      send_is_valid = send_valid l.receiver.progress refl progress_here

    -- a Write
    module _ (write : kinds.is_write (kind_of r) ≡ true) (not_send : kinds.is_send (kind_of r) ≡ false) where
      abbrev h0 : Reth
      h0 = record { address = r.request.shape.remote; rkey = r.request.shape.rkey; length = r.request.shape.length }

      pub reth_some : g.into ≡ 0 → d.reth ≡ Some h0
      reth_some z = reth_is ∙ (λ i. when (first_none z i && write i) h0)

      pub reth_later : 0 < g.into → d.reth ≡ None
      reth_later z = reth_is ∙ ap (λ b. when (b && kinds.is_write (kind_of r)) h0) (first_some z)

      write_valid : (p : Progress) → l.receiver.progress ≡ p → IsProgress (asking m o) x.domain (regions_of m o.context) p → is_invalid l d ≡ false
      write_valid NoMessage h i =
          write_first_valid l d h0 last h (by_parts true (first_none i)) (message.write ∙ write) message.read (reth_some i) atomic_is_none small
          (λ t. (omega (arith, ends t, i), fits_here)) (λ t. ((leaves t).0 ∙ sym mtu_here, omega (arith, (leaves t).1, i)))
      write_valid (InSend done v) h i = absurd (cc (i.2, not_send))
      write_valid (InWrite region off size done) h i =
          let later : 0 < g.into = omega (arith, i.0, i.1) in
          write_later_valid l d last region off size done h (by_parts false (first_some later)) (message.write ∙ write) message.read (reth_later later) atomic_is_none (omega (arith, small, i.3))
          (λ t. (omega (arith, ends t, i.1, i.3), some later, fits_here)) (λ t. ((leaves t).0 ∙ sym mtu_here, omega (arith, (leaves t).1, i.1, i.3)))

      pub write_is_valid : is_invalid l d ≡ false
      write_is_valid = write_valid l.receiver.progress refl progress_here

      write_right : right_for (kind_of r) ≡ RemoteWrite
      unfolding right_for
      write_right = by_kind (kind_of r) write
        where
          by_kind : (k : Kind) → kinds.is_write k ≡ true → right_for k ≡ RemoteWrite
          by_kind kinds'.Read h = absurd (cc)
          by_kind kinds'.Write h = refl
          by_kind kinds'.Send h = absurd (cc)
          by_kind kinds'.CompareSwap h = absurd (cc)
          by_kind kinds'.FetchAdd h = absurd (cc)

      later_granted : is_granted_in x.domain (regions_of m o.context) r ≡ true → is_current_granted m q ≡ true
      unfolding is_granted_in
      later_granted h = granted_here ∙ ((λ i. is_granted remote_key (regions_here i) (domain_here i) r.request.shape.rkey r.request.shape.remote (size_of r) (right_for (kind_of r))) ∙ h)

      by_target : (p : Progress) → IsProgress (asking m o) x.domain (regions_of m o.context) p → is_some (target c e d) ≡ is_current_granted m q
      by_target NoMessage i =
          write_target c e d h0 atomic_is_none (reth_some i) message.read
          ∙ (ap (is_granted remote_key c.regions e.domain r.request.shape.rkey r.request.shape.remote (size_of r)) (sym write_right) ∙ sym granted_here)
      by_target (InSend done v) i = absurd (cc (i.2, not_send))
      by_target (InWrite region off size done) i = ap is_some (no_target c e d atomic_is_none (reth_later (omega (arith, i.0, i.1)))) ∙ sym (later_granted i.4)

      pub write_granted : is_some (target c e d) ≡ is_current_granted m q
      write_granted = by_target l.receiver.progress progress_here

    -- ---- receives

    begins_now : begins (part_of d.opcode) ≡ (g.into == 0)
    begins_now = ap begins message.part ∙ (by_part first last ∙ first_is)
      where
        by_part : (f t : Bool) → begins (part f t) ≡ f
        by_part true true = refl
        by_part true false = refl
        by_part false true = refl
        by_part false false = refl

    imm_is : is_some d.imm ≡ (fills g (length d.payload) && has_imm r)
    imm_is = ap is_some (imm_now w m o l number bytes d a is paused now not_read not_atomic) ∙ (by_last last r.request.shape.imm ∙ ap (λ b. b && has_imm r) fills_now)
      where
        by_last : (b : Bool) (i : Option ℕ) → is_some (if b then i else None) ≡ (b && is_some i)
        by_last true i = refl
        by_last false i = refl

    pub message_needs : needs_receive d ≡ ((kinds.is_send (kind_of r) && (g.into == 0)) || (kinds.is_write (kind_of r) && (fills g (length d.payload) && has_imm r)))
    message_needs = λ i. (message.send i && begins_now i) || (message.write i && imm_is i)

    -- a Send whose bytes do not fit
    pub send_long : kinds.is_send (kind_of r) ≡ true → is_not_ready e d ≡ false → is_too_long e l d ≡ overflows (receive_for x) (g.into + length d.payload)
    send_long send ready =
        let p : Progress = l.receiver.progress in
        ap (λ b. b && nat_lt (receive_of e p).length (bytes_before None p + length d.payload)) (message.send ∙ send)
        ∙ long_send e x g.into (length d.payload) p in_use_here unused_here (before p progress_here) (λ z. empty_false (g.into == 0) (is_empty e.unused) (test g.into z) _ (sym (ap (λ b. b && is_empty e.unused) message_needs) ∙ ready)) (λ z v h. some_bytes z v (subst (IsProgress (asking m o) x.domain (regions_of m o.context)) h progress_here)) (λ f s t z h. no_write f s t z (subst (IsProgress (asking m o) x.domain (regions_of m o.context)) h progress_here))
      where
        test : (k : ℕ) → k ≡ 0 → (k == 0) ≡ true
        test k h = grind (arith, nat_tests)

        empty_false : (b t : Bool) → b ≡ true → (v : Bool) → (((kinds.is_send (kind_of r) && b) || v) && t) ≡ false → t ≡ false
        empty_false b t h v z = by (kinds.is_send (kind_of r)) b t v send h z
          where
            by : (s b t v : Bool) → s ≡ true → b ≡ true → (((s && b) || v) && t) ≡ false → t ≡ false
            by true true t v i j z = z
            by true false t v i j z = absurd (cc)
            by false b t v i j z = absurd (cc)

        before : (p : Progress) → IsProgress (asking m o) x.domain (regions_of m o.context) p → bytes_before None p ≡ g.into
        before NoMessage i = sym i
        before (InSend done v) i = i.1
        before (InWrite f s t z) i = i.1

        some_bytes : (z : ℕ) (v : Receive) → IsProgress (asking m o) x.domain (regions_of m o.context) (InSend z v) → 0 < z
        some_bytes z v i = i.0

        not_both : (k : Kind) → kinds.is_send k ≡ true → kinds.is_write k ≡ true → ⊥
        not_both kinds'.Write h i = cc
        not_both kinds'.Send h i = cc
        not_both kinds'.Read h i = cc
        not_both kinds'.CompareSwap h i = cc
        not_both kinds'.FetchAdd h i = cc

        no_write : (f s t z : ℕ) → IsProgress (asking m o) x.domain (regions_of m o.context) (InWrite f s t z) → ⊥
        no_write f s t z i = not_both (kind_of r) send i.2

  -- ---- all kinds

  -- check 1: of all that is invalid, only a misaligned atomic can be the packet of its number
  pub invalid_is : is_invalid l d ≡ is_misaligned r
  invalid_is = by_sort (sort_of (kind_of r))
    where
      aligned : (b : Bool) → kinds.is_atomic (kind_of r) ≡ false → (kinds.is_atomic (kind_of r) && b) ≡ false
      aligned b h = rw h refl

      by_sort : Sort (kind_of r) → is_invalid l d ≡ is_misaligned r
      by_sort (inl k) = read_is_valid k.read ∙ sym (aligned _ k.atomic)
      by_sort (inr (inl k)) = atomic_is_valid k.read k.atomic
      by_sort (inr (inr (inl k))) = send_is_valid k.read k.atomic k.send k.write ∙ sym (aligned _ k.atomic)
      by_sort (inr (inr (inr k))) = write_is_valid k.read k.atomic k.write k.send ∙ sym (aligned _ k.atomic)

  -- check 2: a target is found for a Send, and where the whole range is granted
  pub target_is : is_some (target c e d) ≡ (kinds.is_send (kind_of r) || is_current_granted m q)
  target_is = by_sort (sort_of (kind_of r))
    where
      others : (b : Bool) → kinds.is_send (kind_of r) ≡ false → (kinds.is_send (kind_of r) || b) ≡ b
      others b h = rw h refl

      by_sort : Sort (kind_of r) → is_some (target c e d) ≡ (kinds.is_send (kind_of r) || is_current_granted m q)
      by_sort (inl k) = read_granted k.read ∙ sym (others _ k.send)
      by_sort (inr (inl k)) = atomic_granted k.read k.atomic ∙ sym (others _ k.send)
      by_sort (inr (inr (inl k))) = ap is_some (send_target k.read k.atomic k.send k.write) ∙ sym (ap (λ b. b || is_current_granted m q) k.send)
      by_sort (inr (inr (inr k))) = write_granted k.read k.atomic k.write k.send ∙ sym (others _ k.send)

  -- the request needs a receive now
  abbrev pub needs_now : Bool
  needs_now = (kinds.is_send (kind_of r) && (g.into == 0)) || (kinds.is_write (kind_of r) && (fills g (length d.payload) && has_imm r))

  read_needs : kinds.is_read (kind_of r) ≡ true → needs_receive d ≡ false
  unfolding read_packet part_of
  read_needs h = ap needs_receive (read_now h).1

  atomic_needs : kinds.is_read (kind_of r) ≡ false → kinds.is_atomic (kind_of r) ≡ true → needs_receive d ≡ false
  unfolding atomic_packet opcode_of
  atomic_needs h t = ap needs_receive (atomic_now h t).1 ∙ by_kind (kind_of r) t
    where
      by_kind : (k : Kind) → kinds.is_atomic k ≡ true → ((is_send (opcode_of k true true false) && begins (part_of (opcode_of k true true false))) || (is_write (opcode_of k true true false) && false)) ≡ false
      by_kind kinds'.CompareSwap h = refl
      by_kind kinds'.FetchAdd h = refl
      by_kind kinds'.Read h = absurd (cc)
      by_kind kinds'.Write h = absurd (cc)
      by_kind kinds'.Send h = absurd (cc)

  pub needs_is : needs_receive d ≡ needs_now
  needs_is = by_sort (sort_of (kind_of r))
    where
      neither : (u v : Bool) → kinds.is_send (kind_of r) ≡ false → kinds.is_write (kind_of r) ≡ false → ((kinds.is_send (kind_of r) && u) || (kinds.is_write (kind_of r) && v)) ≡ false
      neither u v h i = rw (h, i) refl

      by_sort : Sort (kind_of r) → needs_receive d ≡ needs_now
      by_sort (inl k) = read_needs k.read ∙ sym (neither _ _ k.send k.write)
      by_sort (inr (inl k)) = atomic_needs k.read k.atomic ∙ sym (neither _ _ k.send k.write)
      by_sort (inr (inr (inl k))) = message_needs k.read k.atomic
      by_sort (inr (inr (inr k))) = message_needs k.read k.atomic

  pub peer_is : peer_of m q ≡ x
  peer_is = ap (machine.end_of m) it.joined.back

  -- check 3: it needs a receive, and none is unused
  pub not_ready_is : is_not_ready e d ≡ (needs_now && not (has_unused (peer_of m q)))
  not_ready_is =
      let unused : is_empty e.unused ≡ not (has_unused (peer_of m q)) = ap is_empty unused_here ∙ (empty_is x.unused ∙ ap (λ (z : End). not (nat_lt 0 (length z.unused))) (sym peer_is)) in
      λ i. needs_is i && unused i

  read_short : kinds.is_read (kind_of r) ≡ true → is_too_long e l d ≡ false
  unfolding read_packet
  read_short h = ap (λ z. is_send z.opcode && nat_lt (receive_of e l.receiver.progress).length (bytes_before None l.receiver.progress + length z.payload)) (read_now h).1

  atomic_short : kinds.is_read (kind_of r) ≡ false → kinds.is_atomic (kind_of r) ≡ true → is_too_long e l d ≡ false
  unfolding atomic_packet opcode_of
  atomic_short h t = ap (λ z. is_send z.opcode && nat_lt (receive_of e l.receiver.progress).length (bytes_before None l.receiver.progress + length z.payload)) (atomic_now h t).1 ∙ by_kind (kind_of r) t _
    where
      by_kind : (k : Kind) → kinds.is_atomic k ≡ true → (b : Bool) → (is_send (opcode_of k true true false) && b) ≡ false
      by_kind kinds'.CompareSwap h b = refl
      by_kind kinds'.FetchAdd h b = refl
      by_kind kinds'.Read h b = absurd (cc)
      by_kind kinds'.Write h b = absurd (cc)
      by_kind kinds'.Send h b = absurd (cc)

  -- check 4, once a receive is there: the bytes of a Send do not fit it
  pub too_long_is : is_not_ready e d ≡ false → is_too_long e l d ≡ (kinds.is_send (kind_of r) && overflows (receive_for (peer_of m q)) (g.into + length d.payload))
  too_long_is ready = by_sort (sort_of (kind_of r))
    where
      others : (b : Bool) → kinds.is_send (kind_of r) ≡ false → (kinds.is_send (kind_of r) && b) ≡ false
      others b h = rw h refl

      by_sort : Sort (kind_of r) → is_too_long e l d ≡ (kinds.is_send (kind_of r) && overflows (receive_for (peer_of m q)) (g.into + length d.payload))
      by_sort (inl k) = read_short k.read ∙ sym (others _ k.send)
      by_sort (inr (inl k)) = atomic_short k.read k.atomic ∙ sym (others _ k.send)
      by_sort (inr (inr (inl k))) = send_long k.read k.atomic k.send ready ∙ (ap (λ z. overflows (receive_for z) (g.into + length d.payload)) (sym peer_is) ∙ sym (ap (λ b. b && overflows (receive_for (peer_of m q)) (g.into + length d.payload)) k.send))
      by_sort (inr (inr (inr k))) = ap (λ b. b && nat_lt (receive_of e l.receiver.progress).length (bytes_before None l.receiver.progress + length d.payload)) ((opcode_now w m o l number bytes d a is paused now k.read k.atomic).send ∙ k.send) ∙ sym (others _ k.send)

  -- the bytes of a Send are its next ones
  pub message_within : kinds.is_send (kind_of r) ≡ true → g.into + length d.payload ≤ size_of r
  message_within send = by_sort (sort_of (kind_of r))
    where
      by_sort : Sort (kind_of r) → g.into + length d.payload ≤ size_of r
      by_sort (inl k) = absurd (cc (k.send, send))
      by_sort (inr (inl k)) = absurd (cc (k.send, send))
      by_sort (inr (inr (inl k))) = begun_within (begun_now w m o l number bytes d a is paused now k.read k.atomic)
        where
          begun_within : (g.into ≡ 0) ⊎ (g.into < size_of r) → g.into + length d.payload ≤ size_of r
          begun_within (inl z) = omega (arith, z, bytes_now w m o l number bytes d a is paused now k.read k.atomic)
          begun_within (inr z) = omega (arith, z, bytes_now w m o l number bytes d a is paused now k.read k.atomic)
      by_sort (inr (inr (inr k))) = absurd (cc (k.send, send))

  -- ---- its numbers are below the limit

  atomic_span : kinds.is_read (kind_of r) ≡ false → kinds.is_atomic (kind_of r) ≡ true → (k : ℕ) → span_of_packet d k d.reth ≡ 1
  unfolding atomic_packet
  atomic_span h t k = ap (λ z. span_of_packet z k z.reth) (atomic_now h t).1

  message_span : kinds.is_read (kind_of r) ≡ false → kinds.is_atomic (kind_of r) ≡ false → (k : ℕ) → span_of_packet d k d.reth ≡ 1
  message_span h t k = by d.reth
    where
      by : (z : Option Reth) → span_of_packet d k z ≡ 1
      by None = refl
      by (Some z) = ap (λ b. if b then pieces z.length k else 1) (opcode_now w m o l number bytes d a is paused now h t).read

  read_span : kinds.is_read (kind_of r) ≡ true → kinds.is_atomic (kind_of r) ≡ false → span_of_packet d l.terms.mtu d.reth ≡ span_of r g.mtu
  unfolding read_packet span
  read_span h t =
      let all : r.request.shape.length - 0 * g.mtu ≡ r.request.shape.length = omega arith in
      ap (λ z. span_of_packet z l.terms.mtu z.reth) (read_now h).1
      ∙ ((λ i. pieces (all i) (mtu_here i)) ∙ ap (λ b. if b then 1 else pieces r.request.shape.length g.mtu) (sym t))

  due_at : n ≡ first_number g.posted g.mtu g.acted + g.into / g.mtu
  unfolding due
  due_at = due_now w m o l number bytes d a is paused now

  pub spans_within : n + span_of_packet d l.terms.mtu d.reth ≤ (link_of w q).sender.top
  spans_within = by_sort (sort_of (kind_of r))
    where
      asked_now : request_for (requests_of g) n ≡ r
      asked_now = ap (machine.posted_at g.posted) (request_now w m o l number bytes d a is paused now)

      below : past_packet (requests_of g) n ≤ (link_of w q).sender.top
      below = below_top w m o l number bytes d a is paused now

      one : kinds.is_read (kind_of r) ≡ false → past_packet (requests_of g) n ≡ suc n
      one h = ap (λ b. if b then first_number g.posted g.mtu (suc (request_of g.posted g.mtu n)) else suc n) (ap (λ z. kinds.is_read (kind_of z)) asked_now ∙ h)

      all : kinds.is_read (kind_of r) ≡ true → past_packet (requests_of g) n ≡ first_number g.posted g.mtu (suc g.acted)
      all h =
          ap (λ b. if b then first_number g.posted g.mtu (suc (request_of g.posted g.mtu n)) else suc n) (ap (λ z. kinds.is_read (kind_of z)) asked_now ∙ h)
          ∙ ap (λ k. first_number g.posted g.mtu (suc k)) (request_now w m o l number bytes d a is paused now)

      from : kinds.is_read (kind_of r) ≡ true → n ≡ first_number g.posted g.mtu g.acted
      from h = omega (arith, due_at, none_divided (read_whole h))

      by_sort : Sort (kind_of r) → n + span_of_packet d l.terms.mtu d.reth ≤ (link_of w q).sender.top
      by_sort (inl k) = omega (arith, below, all k.read, from k.read, read_span k.read k.atomic, first_suc g.posted g.mtu g.acted (inside w m o l number bytes d a is paused now))
      by_sort (inr (inl k)) = omega (arith, below, one k.read, atomic_span k.read k.atomic l.terms.mtu)
      by_sort (inr (inr (inl k))) = omega (arith, below, one k.read, message_span k.read k.atomic l.terms.mtu)
      by_sort (inr (inr (inr k))) = omega (arith, below, one k.read, message_span k.read k.atomic l.terms.mtu)

  -- the checks in their order
  pub expected_is : expected_packet c e l d n ≡ (if is_invalid l d then refuses c e l n refused.Invalid else granted_packet c e l d n (target c e d))
  unfolding expected_packet
  expected_is =
      ap (λ b. if b then no_repeat c else if is_invalid l d then refuses c e l n refused.Invalid else granted_packet c e l d n (target c e d))
      (past (n + span_of_packet d l.terms.mtu d.reth) (omega (arith, spans_within, it.back.ordered.top_end, it.back.ordered.limit)))
    where
      past : (k : ℕ) → k < number_limit → nat_le number_limit k ≡ false
      past k h = grind (arith, nat_tests, leb_tells number_limit k, h)
