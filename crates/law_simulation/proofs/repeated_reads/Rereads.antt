-- The repeated READ request: it is answered with what the machine offers once more.
use Rattle.std.proofs.Common.{arith, ◌≡◌, ◌<◌, ◌≤◌, ◌+◌, ◌-◌, ◌*◌, ◌%◌, ℕ, zero, suc, List, [], ◌++◌, length, true, false, Bool, refl, sym, ap, ◌∙◌, subst}
use Rattle.std.specs.Prelude.{Option, Some, None, if◌then◌else◌, nat_le, ◌==◌, All, Contains, min}
use Rattle.std.proofs.lemmas.Bool.Decides.{nat_tests, leb_tells, eqb_tells}
use Rattle.std.proofs.lemmas.List.{append-nil}
use Rattle.std.proofs.lemmas.List.Elements.{All-get_or, Contains-append_right, All-nil, All-cons, All-weaker}
use Rattle.rdma_types.specs.declared.names.ObjName.{ObjName}
use Rattle.rdma_types.specs.declared.answers.Sent.{Sent}
use Rattle.rdma_types.specs.declared.answers.ArrivalEffect.TheVariants as took
use Rattle.rdma_types.specs.declared.answers.DropReason.TheVariants as why
use Rattle.rdma_types.specs.Kinds as kinds
use Rattle.rdma_types.specs.Kinds.{kind_of, size_of}
use Rattle.rdma_types.specs.Limits.{is_mtu}
use Rattle.rdma_types.specs.Memory.{RemoteRead, cut, granted, is_granted, remote_key}
use Rattle.rdma_types.specs.Objects.{Posted, Region, no_region, no_posted}
use Rattle.rdma_types.specs.Spans.{span, first_number, piece_of, request_of, pieces, span_of, piece_length}
use Rattle.rdma_types.proofs.Numbers.{split}
use Rattle.protocol.specs.declared.wire.Reth.{Reth}
use Rattle.protocol.specs.State.{World, Link}
use Rattle.protocol.specs.Numbers.{wire_number}
use Rattle.protocol.specs.Segments.{read_packet, wrapped, packet_of_piece}
use Rattle.protocol.specs.Wire.{Packet}
use Rattle.protocol.specs.EndWords as words
use Rattle.protocol.specs.EndWords.{is_paused, silent}
use Rattle.protocol.specs.EndStep.{takes}
use Rattle.protocol.specs.Responder.{answers_read, read_answers, read_pieces, read_piece, read_grant}
use Rattle.protocol.specs.DeviceStep.{ended_step}
use Rattle.protocol.specs.WorldStep.{home, ran}
use Rattle.packetless_machine.specs.Machine as machine
use Rattle.packetless_machine.specs.Machine.{Machine, End, Offered, has_end, regions_of, bytes_at, posted_at}
use Rattle.packetless_machine.specs.Legal.{IsRun, after}
use Rattle.packetless_machine.specs.Numbers.{due}
use Rattle.packetless_machine.specs.Sound.{IsOfferOf, IsSound}
use Rattle.packetless_machine.specs.Steps.{is_granted_there}
use Rattle.law_simulation.specs.Packets.{class_of, IsRequest}
use Rattle.law_simulation.specs.Carries.{offers_of, offers_from, request_steps, is_rest_granted}
use Rattle.law_simulation.specs.Views.{link_of, link_or_none, requests_of, side_of, owned, owned_there}
use Rattle.law_simulation.specs.Stands.{Stands}
use Rattle.law_simulation.specs.Joined.{IsSayable, IsUnwrapped}
use Rattle.law_simulation.specs.Facts.{IsOffered}
use Rattle.law_simulation.proofs.relation.InUse.{owned_of}
use Rattle.law_simulation.proofs.relation.Tables.{name-named_there}
use Rattle.law_simulation.proofs.relation.Linked.{end_changed}
use Rattle.law_simulation.specs.Delivered.{Arrives, Takes}
use Rattle.law_simulation.proofs.delivery.Arriving.{unchanged_stands}
use Rattle.law_simulation.proofs.delivery.Lifted.{IsAnswer, side_now}
use Rattle.law_simulation.specs.Taken.{AreTakenWhere, asked}
use Rattle.law_simulation.proofs.requests.Requests.{IsRequestAt, asking, request_at_end}
use Rattle.law_simulation.proofs.requests.Scenes.{scene}
use Rattle.law_simulation.proofs.requests.Replies.{IsTowards}
use Rattle.law_simulation.proofs.requests.Opcodes.{read_is}
use Rattle.law_simulation.proofs.requests.Due.{request_first, piece_first, mtu_small}
use Rattle.law_simulation.proofs.requests.Pieces.{first_suc}
use Rattle.law_simulation.proofs.requests.Responding.{IsRespond, responds, takes_so, made_there}
use Rattle.law_simulation.proofs.requests.Advancing.{got, moved_on}
use Rattle.law_simulation.proofs.requests.Acted.{end_moved_sound}
use Rattle.law_simulation.proofs.requests.Counting.{counts, progress_now, same_here, owned_here, q_sound, q_in, q_there, o_there, apart, linked_again}
use Rattle.law_simulation.proofs.requests.Early.{due_is, repeat_step, repeats_before, carries_is, request_is, piece_number}
use Rattle.law_simulation.proofs.requests.Written.{granted_region, held_part, held_low}
use Rattle.law_simulation.proofs.requests.ReadAnswers.{read_answer}
use Rattle.law_simulation.proofs.requests.Offers.{offered_from, offered_contains, part_granted, bytes_remote, all_offered}
use Rattle.law_simulation.proofs.requests.ReadTurns.{read_not, all_inner, piece_inside, cut_short, bytes_short, offered_said, offered_inside, empty}
use Rattle.law_simulation.proofs.requests.Cases.{number_is}
use Rattle.law_simulation.specs.Rereads.{IsReadRepeat}
use Rattle.law_simulation.proofs.repeated_reads.RereadNumbers.{pieces_rest, later_place, places_add, place_small, small_same, read_before, all_before}
use Rattle.law_simulation.proofs.repeated_reads.RereadSteps.{end_again, reread_is, none_granted, rest_is, repeats_so, offers_sound, offers_advance, progress_kept}

module _ (w : World) (m : Machine) (o : ObjName) (l : Link) (number : Option ℕ) (bytes : List ℕ) (d : Packet) (a : Arrives w m o l number bytes d) (is : class_of d ≡ IsRequest) (paused : is_paused l.moving.phase ≡ false) (before : (request_at_end w m o l number bytes d a is).0 < l.receiver.expected)
    (read : kinds.is_read (kind_of (asked m o (request_at_end w m o l number bytes d a is).0)) ≡ true) where
  open scene w m o l number bytes d a is use {n, q, g, x, regions, c, e}

  abbrev req : IsRequestAt w m o l n d
  req = (request_at_end w m o l number bytes d a is).2

  -- the Read, and the piece from which on it is asked for
  abbrev i : ℕ
  i = request_of g.posted g.mtu n

  abbrev k : ℕ
  k = piece_of g.posted g.mtu n

  abbrev r : Posted
  r = posted_at g.posted i

  abbrev place : ℕ
  place = r.request.shape.remote + k * g.mtu

  abbrev size : ℕ
  size = size_of r - k * g.mtu

  mtu_one : is_mtu g.mtu ≡ true
  mtu_one = subst (λ z. is_mtu z ≡ true) req.back.mtu req.back.terms.mtu

  g_sound : IsSound g
  g_sound = (q_sound w m o l n d a.stands a.live a.linked req).sound

  inside : i < length g.posted
  inside = subst (λ z. request_of g.posted z n < length g.posted) req.back.mtu req.packet.is.inside

  before_due : n < due g
  before_due = omega (arith, due_is w m o l number bytes d a is paused, before)

  turned : i < g.acted
  turned = read_before g n mtu_one g_sound inside before_due read

  sayable : IsSayable r
  sayable = All-get_or IsSayable g.posted i no_posted inside req.back.in_pieces.sayable

  unwrapped : IsUnwrapped r
  unwrapped = req.back.in_pieces.reads i turned read

  not_atomic : kinds.is_atomic (kind_of r) ≡ false
  not_atomic = read_not kinds.is_atomic refl (kind_of r) read

  spans_are : span_of r g.mtu ≡ pieces (size_of r) g.mtu
  unfolding span
  spans_are = ap (λ b. if b then 1 else pieces (size_of r) g.mtu) not_atomic

  posted_is : req.packet.piece.posted ≡ r
  posted_is = request_is w m o l number bytes d a is paused

  piece_is : req.packet.piece.k ≡ k
  piece_is = piece_number w m o l number bytes d a is paused

  within : k < pieces (size_of r) g.mtu
  within = subst (λ z. k < z) spans_are (subst (λ z. z < span_of r g.mtu) piece_is (subst (λ z. req.packet.piece.k < span_of r z) req.back.mtu (subst (λ z. req.packet.piece.k < span_of z (link_of w q).terms.mtu) posted_is req.packet.is.within)))

  place_address : place < 18446744073709551616
  place_address = place_small r.request.shape.remote (size_of r) g.mtu k mtu_one within sayable.remote unwrapped

  -- ---- the packet

  abbrev h : Reth
  h = record { address = place; rkey = r.request.shape.rkey; length = size }

  abbrev psn : ℕ
  psn = wire_number (link_of w q).terms.own_start n

  message : d ≡ read_packet r.request.shape g.mtu k (link_of w q).peer psn
  message = req.packet.packet ∙ ((λ j. packet_of_piece (posted_is j) (req.back.mtu j) (piece_is j) (link_of w q).peer psn) ∙ read_is r g.mtu k (link_of w q).peer psn read)

  opcode : d.opcode ≡ 0x0C
  unfolding read_packet
  opcode = ap (λ z. z.opcode) message

  reth : d.reth ≡ Some h
  unfolding read_packet
  reth =
      let address : wrapped place ≡ place = small_same place place_address in
      ap (λ z. z.reth) message ∙ (λ j. Some (record { address = address j; rkey = r.request.shape.rkey; length = size }))

  mtu_same : l.terms.mtu ≡ g.mtu
  mtu_same = ap (λ (z : Link). z.terms.mtu) (sym req.link) ∙ (ap (λ t. t.mtu) req.back.exchanged ∙ req.back.mtu)

  -- ---- its numbers

  abbrev left : ℕ
  left = span_of r g.mtu - k

  left_is : left ≡ pieces size g.mtu
  left_is = ap (λ z. z - k) spans_are ∙ sym (pieces_rest (size_of r) g.mtu k mtu_one within)

  total : k + left ≡ span_of r g.mtu
  total = omega (arith, within, spans_are)

  n_is : n ≡ first_number g.posted g.mtu i + k
  n_is = sym (split g.posted g.mtu n)

  ends : n + left ≡ first_number g.posted g.mtu (suc i)
  ends = omega (arith, n_is, total, first_suc g.posted g.mtu i inside)

  fits : nat_le (n + pieces h.length l.terms.mtu) l.receiver.expected ≡ true
  fits =
      let low : n + pieces size l.terms.mtu ≤ l.receiver.expected = omega (arith, ends, left_is, ap (pieces size) mtu_same, all_before g i turned, due_is w m o l number bytes d a is paused) in
      grind (arith, nat_tests, leb_tells (n + pieces size l.terms.mtu) l.receiver.expected, low)

  request_k : (j : ℕ) → j < left → request_of g.posted g.mtu (n + j) ≡ i
  request_k j l' =
      let same : n + j ≡ first_number g.posted g.mtu i + (k + j) = omega (arith, n_is) in
      ap (request_of g.posted g.mtu) same ∙ request_first g.posted g.mtu i (k + j) inside (omega (arith, l', total))

  piece_k : (j : ℕ) → j < left → piece_of g.posted g.mtu (n + j) ≡ k + j
  piece_k j l' =
      let same : n + j ≡ first_number g.posted g.mtu i + (k + j) = omega (arith, n_is) in
      ap (piece_of g.posted g.mtu) same ∙ piece_first g.posted g.mtu i (k + j) inside (omega (arith, l', total))

  -- ---- the grant

  abbrev test : Bool
  test = is_granted remote_key regions x.domain r.request.shape.rkey place size RemoteRead

  rest_granted : is_rest_granted m q i k ≡ test
  unfolding is_granted_there
  rest_granted = rest_is m q i k ∙ ap (λ j. is_granted remote_key (regions_of m j.context) (machine.end_of m j).domain r.request.shape.rkey place size RemoteRead) req.joined.back

  steps_are : (b : Bool) → test ≡ b → request_steps m q n (length d.payload) ≡ (if b then offers_of q g i k else [])
  steps_are b t = repeats_before m q n (length d.payload) before_due ∙ repeats_so m q i k b read (rest_granted ∙ t)

  domain_same : e.domain ≡ x.domain
  unfolding owned_there owned
  domain_same = ap (λ z. z.domain) (owned_here w m o l n d a.stands a.live a.linked req)

  region_is : (if h.length == 0 then Some no_region else read_grant c e h RemoteRead) ≡ (if size == 0 then Some no_region else granted remote_key regions x.domain r.request.shape.rkey place size RemoteRead)
  region_is = λ j. if size == 0 then Some no_region else granted remote_key ((same_here w m o l n d a.stands a.live a.linked req).regions j) (domain_same j) r.request.shape.rkey place size RemoteRead

  step_of : (t : Option Region) → (if size == 0 then Some no_region else granted remote_key regions x.domain r.request.shape.rkey place size RemoteRead) ≡ t → takes c e l d ≡ answers_read c l t h n
  step_of t found = repeat_step w m o l number bytes d a is paused before ∙ reread_is c e l d n h t opcode reth fits (region_is ∙ found)

  -- ---- what is not granted now is not answered

  not_taken : test ≡ false → Takes w m o l number d
  not_taken t =
      takes_so w m o l number d n [] (silent c why.NoRepeat) (request_at_end w m o l number bytes d a is).1 req.link is tt tt
      (sym (carries_is w m o l number bytes d a is paused ∙ steps_are false t))
      (step_of None (none_granted regions x.domain r.request.shape.rkey place size t))
      (unchanged_stands w m o.context (took.Silent why.NoRepeat) a.stands a.live)

  -- ---- what is granted is offered once more

  module _ (granted' : test ≡ true) where
    granted_peer : is_granted remote_key (regions_of m g.peer.context) (machine.end_of m g.peer).domain r.request.shape.rkey place size RemoteRead ≡ true
    granted_peer = ap (λ j. is_granted remote_key (regions_of m j.context) (machine.end_of m j).domain r.request.shape.rkey place size RemoteRead) req.joined.back ∙ granted'

    part_peer : (off j : ℕ) → k * g.mtu ≤ off → off + j ≤ size_of r → is_granted remote_key (regions_of m g.peer.context) (machine.end_of m g.peer).domain r.request.shape.rkey (r.request.shape.remote + off) j RemoteRead ≡ true
    part_peer off j low high =
        let same : place + (off - k * g.mtu) ≡ r.request.shape.remote + off = omega (arith, low) in
        subst (λ z. is_granted remote_key (regions_of m g.peer.context) (machine.end_of m g.peer).domain r.request.shape.rkey z j RemoteRead ≡ true) same
        (part_granted (regions_of m g.peer.context) (machine.end_of m g.peer).domain r.request.shape.rkey place size (off - k * g.mtu) j (omega (arith, low, high)) granted_peer)

    abbrev list : List Offered
    list = offered_from (regions_of m g.peer.context) r g.mtu i k left

    abbrev g' : End
    g' = moved_on g g.acted g.into g.answers (g.offers ++ list) g.dry

    short : (j : ℕ) → j < span_of r g.mtu → j * g.mtu ≤ size_of r
    short j l' = piece_inside (size_of r) g.mtu mtu_one j (omega (arith, l', spans_are))

    short_rest : (j : ℕ) → j < left → j * g.mtu ≤ size
    short_rest j l' = piece_inside size g.mtu mtu_one j (omega (arith, l', left_is))

    name_q : g.name ≡ q.name
    unfolding machine.end_of
    name_q = name-named_there (λ z. z.name) (machine.nobody q) q.name (machine.context_of m q.context).ends (q_in w m o l n d a.stands a.live a.linked req)

    not_ended : x.ended ≡ false
    unfolding owned owned_there link_or_none
    not_ended = ap (λ z. z.ended) (sym (owned_here w m o l n d a.stands a.live a.linked req)) ∙ (ap (λ z. (link_or_none z).ended) a.linked ∙ a.alive)

    connected_now : g.connected ≡ true
    unfolding owned owned_there
    connected_now = ap (λ z. z.connected) (sym (owned_of w m a.stands q (q_there w m o l n d a.stands a.live a.linked req))) ∙ req.joined.connected

    q_named : machine.has_context m q.context ≡ true
    q_named = made_there m q (q_there w m o l n d a.stands a.live a.linked req)

    all : IsRun (machine.with_end m q (moved_on g g.acted g.into g.answers (g.offers ++ []) g.dry)) (offers_from q g i k left) × (after (machine.with_end m q (moved_on g g.acted g.into g.answers (g.offers ++ []) g.dry)) (offers_from q g i k left) ≡ machine.with_end m q g')
    all =
        all_offered m q g g.acted g.into g.answers i q_named (q_in w m o l n d a.stands a.live a.linked req) name_q
        connected_now (ap (has_end m) req.joined.back ∙ o_there w m o l n d a.stands a.live a.linked req) (λ z. apart w m o l n d a.stands a.live a.linked req (sym (ap (λ u. u.context) (sym req.joined.back ∙ z))))
        (ap (λ j. (machine.end_of m j).ended) req.joined.back ∙ not_ended) turned inside read (k * g.mtu) part_peer left k (span_of r g.mtu) [] (omega (arith, total)) short (λ j low. later_place g.mtu k j mtu_one low)

    again : machine.with_end m q (moved_on g g.acted g.into g.answers (g.offers ++ []) g.dry) ≡ m
    again = ap (λ z. machine.with_end m q (moved_on g g.acted g.into g.answers z g.dry)) (append-nil g.offers) ∙ end_again m q q_named (q_there w m o l n d a.stands a.live a.linked req)

    offers_are : offers_of q g i k ≡ offers_from q g i k left
    unfolding offers_of
    offers_are = refl

    is_run : IsRun m (offers_from q g i k left)
    is_run = subst (λ z. IsRun z (offers_from q g i k left)) again all.0

    after_is : after m (offers_from q g i k left) ≡ machine.with_end m q g'
    after_is = ap (λ z. after z (offers_from q g i k left)) (sym again) ∙ all.1

    -- ---- what is offered is said, and lies in the Read

    regions_same : regions_of m g.peer.context ≡ regions
    regions_same = ap (λ j. regions_of m j.context) req.joined.back

    list_said : All (λ f. All (λ b. b < 256) f.bytes) list
    list_said = offered_said (regions_of m g.peer.context) r g.mtu i k left (subst (All (λ z. All (λ b. b < 256) z.bytes)) (sym regions_same) (a.stands.sound o.context).bytes)

    list_inside : All (IsOfferOf g) list
    list_inside = offered_inside (regions_of m g.peer.context) r g.mtu i k left (span_of r g.mtu) g turned refl read (omega (arith, total)) short

    numbers_same : (machine.with_end m q g').numbers ≡ m.numbers
    unfolding machine.with_end machine.with_context
    numbers_same = refl

    keys_same : (machine.with_end m q g').keys ≡ m.keys
    unfolding machine.with_end machine.with_context
    keys_same = refl

    respond : IsRespond w m (machine.with_end m q g') o l l.receiver (words.linked c e (got l l.receiver)) (machine.context_of m o.context) x g.acted g.into g.answers (g.offers ++ list) g.dry
    respond =
        counts w m o l n d a.stands a.live a.linked req (machine.with_end m q g') l.receiver g.acted g.into g.answers (g.offers ++ list) g.dry
        (end_changed m q g' q_named (q_in w m o l n d a.stands a.live a.linked req)) numbers_same keys_same refl
        (end_moved_sound _ _ g g.acted g.into g.answers (g.offers ++ list) g.dry connected_now (offers_sound g list list_inside g_sound) (q_sound w m o l n d a.stands a.live a.linked req))
        (offers_advance (asking m o) list (link_of w q).sender.top l.receiver req.back.ordered.due_top list_said req.back.in_pieces req.receives)
        (progress_kept (asking m o) (g.offers ++ list) x.domain regions l.receiver.progress (progress_now w m o l n d a.stands a.live a.linked req))

    -- ---- the answers

    towards : IsTowards l (side_of w q) (requests_of g')
    towards = record { connected = req.towards.connected; number = req.towards.number; said = req.towards.said; start = req.towards.start }

    paired : All (λ z. z.keys.remote ≡ suc z.keys.local) regions
    paired = All-weaker (λ z. Contains m.keys z.keys.local × (z.keys.local % 2 ≡ 0) × (z.keys.remote ≡ suc z.keys.local)) (λ z. z.keys.remote ≡ suc z.keys.local) (λ z u. u.2) regions (a.stands.sound o.context).keyed

    -- the region, and the bytes at each piece of it
    pub record IsReadAt (region : Region) : Type 0 where
      pub is_target : (if size == 0 then Some no_region else granted remote_key regions x.domain r.request.shape.rkey place size RemoteRead) ≡ Some region
      pub same_bytes : (j : ℕ) → j < left → bytes_at remote_key r.request.shape.rkey (place + j * g.mtu) (min g.mtu (size - j * g.mtu)) regions ≡ cut ((place - region.base) + j * g.mtu) (min g.mtu (size - j * g.mtu)) region.bytes

    read_at : (b : Bool) → (size == 0) ≡ b → (region : Region) × IsReadAt region
    read_at true t =
        let none : size ≡ 0 = grind (arith, nat_tests, eqb_tells size 0, t) in
        (no_region, record { is_target = ap (λ b. if b then Some no_region else granted remote_key regions x.domain r.request.shape.rkey place size RemoteRead) t; same_bytes = λ j l'. nothing_there j (omega (arith, none)) })
      where
        nothing_there : (j : ℕ) → min g.mtu (size - j * g.mtu) ≡ 0 → bytes_at remote_key r.request.shape.rkey (place + j * g.mtu) (min g.mtu (size - j * g.mtu)) regions ≡ cut ((place - no_region.base) + j * g.mtu) (min g.mtu (size - j * g.mtu)) no_region.bytes
        nothing_there j z = empty _ (omega (arith, bytes_short r.request.shape.rkey (place + j * g.mtu) (min g.mtu (size - j * g.mtu)) regions, z)) ∙ sym (empty _ (omega (arith, cut_short ((place - no_region.base) + j * g.mtu) (min g.mtu (size - j * g.mtu)) no_region.bytes, z)))
    read_at false t =
        let some : 1 ≤ size = grind (arith, nat_tests, eqb_tells size 0, t) in
        let z = granted_region remote_key regions x.domain r.request.shape.rkey place size RemoteRead some granted' in (
          z.0,
          record {
            is_target = ap (λ b. if b then Some no_region else granted remote_key regions x.domain r.request.shape.rkey place size RemoteRead) t ∙ z.1;
            same_bytes = λ j l'.
                bytes_remote r.request.shape.rkey (place + j * g.mtu) (min g.mtu (size - j * g.mtu)) z.0 regions paired (a.stands.sound o.context).keyed_once z.2.there z.2.named (held_part z.0 place size (j * g.mtu) (min g.mtu (size - j * g.mtu)) z.2.held (omega (arith, short_rest j l')))
                ∙ at_place z.0 j (held_low z.0 place size z.2.held);
          },
        )
      where
        at_place : (u : Region) (j : ℕ) → u.base ≤ place → cut ((place + j * g.mtu) - u.base) (min g.mtu (size - j * g.mtu)) u.bytes ≡ cut ((place - u.base) + j * g.mtu) (min g.mtu (size - j * g.mtu)) u.bytes
        at_place u j low = let same : (place + j * g.mtu) - u.base ≡ (place - u.base) + j * g.mtu = omega (arith, low) in ap (λ v. cut v (min g.mtu (size - j * g.mtu)) u.bytes) same

    abbrev IsSent : Sent → Type 0
    IsSent = IsAnswer (side_of w q) (side_now (side_of w o) (got l l.receiver)) (requests_of g') (requests_of x)

    module _ (region : Region) (there : IsReadAt region) where
      abbrev off : ℕ
      off = place - region.base

      abbrev piece_bytes' : ℕ → List ℕ
      piece_bytes' j = cut (off + j * l.terms.mtu) (piece_length size j l.terms.mtu) region.bytes

      bytes_k : (j : ℕ) → j < left → bytes_at remote_key r.request.shape.rkey (r.request.shape.remote + (k + j) * g.mtu) (min g.mtu (size_of r - (k + j) * g.mtu)) (regions_of m g.peer.context) ≡ piece_bytes' j
      bytes_k j l' =
          let at_place : r.request.shape.remote + (k + j) * g.mtu ≡ place + j * g.mtu = omega (arith, places_add g.mtu k j mtu_one) in
          let rest : size_of r - (k + j) * g.mtu ≡ size - j * g.mtu = omega (arith, places_add g.mtu k j mtu_one) in
          (λ u. bytes_at remote_key r.request.shape.rkey (at_place u) (min g.mtu (rest u)) (regions_same u))
          ∙ (there.same_bytes j l' ∙ ap (λ z. cut (off + j * z) (min z (size - j * z)) region.bytes) (sym mtu_same))

      offered_k : (j : ℕ) → j < left → IsOffered (requests_of g') (n + j) (piece_bytes' j)
      offered_k j l' = record {
        acted = omega (arith, request_k j l', turned);
        is_read = ap (λ z. kinds.is_read (kind_of (posted_at g.posted z))) (request_k j l') ∙ read;
        offer = subst (λ z. Contains (g.offers ++ list) z) (λ u. record { request = sym (request_k j l') u; offset = ap (λ z. z * g.mtu) (sym (piece_k j l')) u; bytes = bytes_k j l' u })
            (Contains-append_right g.offers list _ (offered_contains (regions_of m g.peer.context) r g.mtu i k left (k + j) (omega arith) (omega (arith, l'))));
      }

      answer_k : (j : ℕ) → j < left → IsSent (read_piece l region off size n j)
      answer_k j l' =
          read_answer l (side_of w q) (side_now (side_of w o) (got l l.receiver)) (requests_of g') (requests_of x) (n + j) (piece_bytes' j) towards
          (omega (arith, cut_short (off + j * l.terms.mtu) (piece_length size j l.terms.mtu) region.bytes, mtu_same, mtu_small g.mtu mtu_one))
          (offered_k j l') j (pieces size l.terms.mtu)

      all_answers : (more : ℕ) → more ≤ left → All IsSent (read_pieces l region off size n more)
      unfolding read_pieces
      all_answers zero h' = All-nil IsSent
      all_answers (suc more) h' =
          All-cons IsSent (read_piece l region off size n (pieces size l.terms.mtu - suc more)) (read_pieces l region off size n more)
          (answer_k (pieces size l.terms.mtu - suc more) (omega (arith, h', left_is, ap (pieces size) mtu_same)))
          (all_answers more (omega (arith, h')))

      stands_read : Stands (ran w (ended_step (home w o.context) (record { context = c; took = took.Bytes; sent = read_answers l region h n }))).world (after m (offers_from q g i k left))
      stands_read =
          subst (Stands _) (sym after_is)
          (subst (λ z. Stands (ran w (ended_step (home w o.context) (record { context = z; took = took.Bytes; sent = read_answers l region h n }))).world (machine.with_end m q g')) (linked_again w m o l n d a.stands a.live a.linked req)
          (responds w m (machine.with_end m q g') o l n d l.receiver (words.linked c e (got l l.receiver)) (machine.context_of m o.context) x g.acted g.into g.answers (g.offers ++ list) g.dry a.stands a.live a.alive req respond took.Bytes (read_answers l region h n)
          (all_answers (pieces size l.terms.mtu) (omega (arith, left_is, ap (pieces size) mtu_same)))))

      read_so : Takes w m o l number d
      read_so =
          takes_so w m o l number d n (offers_from q g i k left) (record { context = c; took = took.Bytes; sent = read_answers l region h n }) (request_at_end w m o l number bytes d a is).1 req.link is (all_inner q g i k left) is_run
          (sym (carries_is w m o l number bytes d a is paused ∙ (steps_are true granted' ∙ offers_are)))
          (step_of (Some region) there.is_target) stands_read

    taken : Takes w m o l number d
    taken = let z = read_at (size == 0) refl in read_so z.0 z.1

  by_grant : (b : Bool) → test ≡ b → Takes w m o l number d
  by_grant true t = taken t
  by_grant false t = not_taken t

  pub reread_taken : Takes w m o l number d
  reread_taken = by_grant test refl

pub are_rereads : AreTakenWhere IsReadRepeat
are_rereads w m o l n bytes d a is h =
    let same : n ≡ (request_at_end w m o l (Some n) bytes d a is).0 = number_is w m o l n bytes d a is in
    reread_taken w m o l (Some n) bytes d a is h.0.0
    (subst (λ z. z < l.receiver.expected) same h.0.1)
    (subst (λ z. kinds.is_read (kind_of (asked m o z)) ≡ true) same h.1)
