-- What the relation says of the numbers of a live end and of its partner, where both are in Rts.
use Rattle.std.proofs.Common.{arith, ◌≡◌, ◌≤◌, ◌<◌, ◌+◌, ◌-◌, ◌/◌, ◌^◌, ℕ, suc, length, true, false, Bool, refl, sym, ap, ◌∙◌, subst}
use Rattle.std.specs.Prelude.{Some, not, nat_lt, bytes_eq, ◌==◌, if◌then◌else◌}
use Rattle.std.proofs.lemmas.Bool.Decides.{nat_tests, leb_tells, eqb_tells}
use Rattle.rdma_types.specs.declared.names.ObjName.{ObjName}
use Rattle.rdma_types.specs.Kinds.{is_read, kind_of, lands, size_of}
use Rattle.rdma_types.specs.Limits.{is_mtu}
use Rattle.rdma_types.specs.Spans.{Piece, piece_at, end_number, first_number, request_of, span_of}
use Rattle.protocol.specs.State.{World, Link}
use Rattle.protocol.specs.Requester.{Sends, end_of_queue, transmission}
use Rattle.protocol.specs.WorldStep.{exchanged}
use Rattle.packetless_machine.specs.Machine as machine
use Rattle.packetless_machine.specs.Machine.{Machine, End, untold_count, posted_at}
use Rattle.packetless_machine.specs.Numbers.{due, oldest}
use Rattle.packetless_machine.specs.Sound.{IsSound}
use Rattle.packetless_machine.specs.Steps.{in_place, front}
use Rattle.law_simulation.specs.Joined.{AreWholePieces, IsJoined}
use Rattle.law_simulation.specs.Stands.{Stands}
use Rattle.law_simulation.specs.Views.{name_of, requests_of, side_of}
use Rattle.law_simulation.proofs.relation.Grown.{are_made}
use Rattle.law_simulation.proofs.relation.Numbers.{first-rest}
use Rattle.law_simulation.proofs.relation.PostedNet.{requests_sound}
use Rattle.law_simulation.proofs.sending.GoEnding.{queue_ends}
use Rattle.law_simulation.proofs.sending.GoLive.{LiveEnd, ended_here, fenced_here, in_rts_is, joined_here, link_is, mtu_is, ordered_here, sends_here, sound_here, untold_here}
use Rattle.law_simulation.proofs.sending.GoNumbers.{end_near, first_mono, rest_small}
use Rattle.law_simulation.proofs.sending.GoPieces.{IsPieceAt, known_within, piece_is}
use Rattle.law_simulation.proofs.sending.GoTransmit.{IsSending, found_all, sends_is}
use Rattle.law_simulation.proofs.sending.GoNumbers as go_numbers
use Rattle.law_simulation.proofs.repeated_reads.RereadNumbers.{all_before, read_before}
use Rattle.law_simulation.proofs.requests.Pieces.{first_suc}

-- ---- one end of the machine

in_here : (a b c d : ℕ) → a ≡ b → (if nat_lt a b then c else if a == b then d else 0) ≡ d
in_here a b c d h = grind (arith, nat_tests, eqb_tells a b, h)

-- the oldest number that its owner does not know to be in place is no later than what acts next
module _ (q : End) (s : IsSound q) (mtu : is_mtu q.mtu ≡ true) (alive : q.ended ≡ false) (telling : AreWholePieces q.mtu (front q) q.known) where
  divided : (a b : ℕ) → a ≤ b → a / q.mtu ≤ b / q.mtu
  divided a b h = go_numbers.mtu_is (λ k. a / k ≤ b / k) (omega (arith, h)) (omega (arith, h)) (omega (arith, h)) (omega (arith, h)) (omega (arith, h)) q.mtu mtu

  known_less : q.told ≡ q.acted → q.known ≤ q.into
  unfolding in_place
  known_less same = by_kind (lands (kind_of (front q))) refl
    where
      by_kind : (b : Bool) → lands (kind_of (front q)) ≡ b → q.known ≤ q.into
      by_kind true t = omega (arith, s.unlanded t same)
      by_kind false t = omega (arith, s.known_there alive t, in_here q.told q.acted (size_of (posted_at q.posted q.told)) q.into same)

  pub oldest_due : oldest q ≤ due q
  unfolding oldest due
  oldest_due = by_order (nat_lt q.told q.acted) refl
    where
      by_order : (b : Bool) → nat_lt q.told q.acted ≡ b → first_number q.posted q.mtu q.told + q.known / q.mtu ≤ first_number q.posted q.mtu q.acted + q.into / q.mtu
      by_order true t =
          let less : suc q.told ≤ q.acted = grind (arith, nat_tests, leb_tells (suc q.told) q.acted, t) in
          omega (arith, known_within (front q) q.mtu q.known mtu s.whole_atomics telling.1, first_suc q.posted q.mtu q.told (omega (arith, less, s.acted_posted)), first_mono q.posted q.mtu (suc q.told) q.acted less)
      by_order false t =
          let same : q.told ≡ q.acted = (let most : q.acted ≤ q.told = grind (arith, nat_tests, leb_tells (suc q.told) q.acted, t) in omega (arith, most, s.told_acted alive)) in
          omega (arith, ap (first_number q.posted q.mtu) same, divided q.known q.into (known_less same))

  pub end_oldest : q.send_depth ≤ 256 → end_number q.posted q.mtu ≤ oldest q + 2 ^ 20
  unfolding oldest untold_count
  end_oldest depth = omega (arith, rest_small q.posted q.mtu q.told mtu s.sizes, first-rest q.posted q.mtu q.told s.told_posted, s.depth, depth)

-- ---- an end and its partner

module _ (w : World) (m : Machine) (o p : ObjName) (l lp : Link) (s : Stands w m) (h : LiveEnd w m o l) (hp : LiveEnd w m p lp) (named' : name_of m l.peer ≡ p) where
  abbrev q : End
  q = requests_of (machine.end_of m o)

  abbrev j : IsJoined o (side_of w o) (side_of w (machine.end_of m o).peer) q (requests_of (machine.end_of m (machine.end_of m o).peer))
  j = joined_here w m o l s h

  peer_number : l.peer ≡ (machine.end_of m (machine.end_of m o).peer).number
  peer_number = ap (λ z. z.peer) (sym (link_is w m o l s h)) ∙ j.number

  pub is_peer : (machine.end_of m o).peer ≡ p
  is_peer = sym (sym named' ∙ (ap (name_of m) peer_number ∙ s.numbered.named (machine.end_of m o).peer (are_made w m s (machine.end_of m o).peer j.connected)))

  pub p_number : (machine.end_of m p).number ≡ l.peer
  p_number = ap (λ n. (machine.end_of m n).number) (sym is_peer) ∙ sym peer_number

  -- its answers are for o
  pub back_number : lp.peer ≡ (machine.end_of m o).number
  back_number =
      let jp = joined_here w m p lp s hp in
      let back : (machine.end_of m p).peer ≡ o = ap (λ n. (machine.end_of m n).peer) (sym is_peer) ∙ j.back in
      ap (λ z. z.peer) (sym (link_is w m p lp s hp)) ∙ (jp.number ∙ ap (λ n. (machine.end_of m n).number) back)

  pub terms_exchanged : lp.terms ≡ exchanged l.terms
  terms_exchanged =
      ap (λ z. z.terms) (sym (link_is w m p lp s hp))
      ∙ (ap (λ n. (side_of w n).link.terms) (sym is_peer)
      ∙ (j.exchanged ∙ ap (λ z. exchanged z.terms) (link_is w m o l s h)))

  pub contexts_apart : bytes_eq p.context o.context ≡ false
  contexts_apart = ap (λ n. bytes_eq n.context o.context) (sym is_peer) ∙ j.apart

  q_sound : IsSound q
  q_sound = requests_sound (machine.end_of m o) (sound_here w m o l s h).sound

  mtu : is_mtu q.mtu ≡ true
  mtu = subst (λ k. is_mtu k ≡ true) j.mtu j.terms.mtu

  pub small_mtu : is_mtu l.terms.mtu ≡ true
  small_mtu = subst (λ z. is_mtu z.terms.mtu ≡ true) (link_is w m o l s h) j.terms.mtu

  module _ (alive : l.ended ≡ false) where
    not_ended : q.ended ≡ false
    not_ended = ended_here w m o l s h ∙ alive

    pub end_near_una : end_of_queue l.terms l.sender ≤ l.sender.una + 2 ^ 20
    end_near_una =
        let ends : end_of_queue l.terms l.sender ≡ end_number q.posted q.mtu = queue_ends l l.sender q (mtu_is w m o l s h) (untold_here w m o l s h) (sends_here w m o l s h alive).first (sound_here w m o l s h).sound.told_posted in
        omega (arith, ends, end_oldest q q_sound mtu not_ended j.in_pieces.telling (sound_here w m o l s h).depth, (sends_here w m o l s h alive).una)

    module _ (alive' : lp.ended ≡ false) where
      pub expected_is : lp.receiver.expected ≡ due q
      expected_is =
          let rts : (side_of w (machine.end_of m o).peer).rts ≡ true = ap (λ n. (side_of w n).rts) is_peer ∙ (in_rts_is w m p lp s hp ∙ ap not alive') in
          ap (λ z. z.receiver.expected) (sym (link_is w m p lp s hp)) ∙ (ap (λ n. (side_of w n).link.receiver.expected) (sym is_peer) ∙ (j.receives rts).expected)

      -- numbers below una are known
      pub una_expected : l.sender.una ≤ lp.receiver.expected
      una_expected = omega (arith, expected_is, (sends_here w m o l s h alive).una, oldest_due q q_sound mtu not_ended j.in_pieces.telling)

      -- .. and few are not
      pub expected_near : lp.receiver.expected ≤ l.sender.una + 2 ^ 20
      expected_near = omega (arith, expected_is, (ordered_here w m o l s h).due_top, (ordered_here w m o l s h).top_end, end_oldest q q_sound mtu not_ended j.in_pieces.telling (sound_here w m o l s h).depth, (sends_here w m o l s h alive).una)

      -- a Read with a number before the expected one lies before it as a whole
      module _ (x : Piece) (row : transmission l ≡ Sends x) (before : l.sender.next < lp.receiver.expected) (read : is_read (kind_of x.posted) ≡ true) where
        is : IsSending l x
        is = sends_is l x row

        found : piece_at q.posted q.mtu l.sender.next ≡ Some x
        found = found_all l q x q_sound mtu (mtu_is w m o l s h) (untold_here w m o l s h) j.in_pieces.telling (sends_here w m o l s h alive) (ordered_here w m o l s h) (fenced_here w m o l s h alive) (end_near q q_sound mtu not_ended (sound_here w m o l s h).depth) is

        place : (i : ℕ) × IsPieceAt q.posted q.mtu l.sender.next i x
        place = piece_is q.posted q.mtu l.sender.next x found

        pub read_past : (l.sender.next - x.k) + span_of x.posted l.terms.mtu ≤ lp.receiver.expected
        read_past =
            let acted : request_of q.posted q.mtu l.sender.next < q.acted =
            read_before q l.sender.next mtu q_sound (subst (λ i. i < length q.posted) (sym place.1.at) place.1.inside) (omega (arith, before, expected_is))
            (ap (λ i. is_read (kind_of (posted_at q.posted i))) place.1.at ∙ (ap (λ r. is_read (kind_of r)) place.1.posted_is ∙ read)) in
            omega (arith, expected_is, all_before q (request_of q.posted q.mtu l.sender.next) acted, ap (λ i. first_number q.posted q.mtu (suc i)) place.1.at, place.1.first, place.1.next, ap (span_of x.posted) (mtu_is w m o l s h))
