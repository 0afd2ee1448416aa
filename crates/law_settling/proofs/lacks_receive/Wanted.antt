-- An end that waits because its partner lacks a receive, and what the packetless machine says of it.
use Rattle.std.proofs.Common.{arith, ◌≡◌, ◌≤◌, ◌<◌, ◌+◌, ◌-◌, ◌/◌, ◌%◌, ◌⊎◌, ℕ, suc, List, [], length, drop, take, true, false, Bool, refl, sym, ap, ◌∙◌, subst, inl, inr}
use Rattle.std.specs.Prelude.{Some, is_some, not, nat_lt, ◌&&◌}
use Rattle.std.specs.List.{list_any}
use Rattle.std.proofs.lemmas.Bool.Decides.{nat_tests, leb_tells}
use Rattle.rdma_types.specs.declared.names.ObjName.{ObjName}
use Rattle.rdma_types.specs.declared.requests.Kind.{Kind}
use Rattle.rdma_types.specs.declared.requests.Kind.TheVariants as kinds
use Rattle.rdma_types.specs.Kinds.{is_atomic, is_send, is_write, kind_of, lands}
use Rattle.rdma_types.specs.Limits.{is_mtu}
use Rattle.rdma_types.specs.Objects.{Posted}
use Rattle.rdma_types.specs.Spans.{Piece, first_number, piece_at, span_of}
use Rattle.protocol.specs.State.{World, Link}
use Rattle.protocol.specs.WorldStep.{live_context}
use Rattle.packetless_machine.specs.Machine as machine
use Rattle.packetless_machine.specs.Machine.{Machine, End, posted_at}
use Rattle.packetless_machine.specs.Numbers.{due, oldest}
use Rattle.packetless_machine.specs.Sound.{IsSound}
use Rattle.packetless_machine.specs.Steps.{current, front, has_current, has_peer, has_turn, has_unused, lands_before, peer_of}
use Rattle.law_simulation.specs.Joined.{IsJoined}
use Rattle.law_simulation.specs.Quiet.{lacks_receive, needs_receive}
use Rattle.law_simulation.specs.Stands.{Stands}
use Rattle.law_simulation.specs.Views.{name_of, owned, owned_there, requests_of, side_of}
use Rattle.law_simulation.proofs.relation.Grown.{are_made}
use Rattle.law_simulation.proofs.requests.Pieces.{first_suc}
use Rattle.law_simulation.proofs.sending.GoLive.{LiveEnd, both, connected_here, ended_here, joined_here, link_is, mtu_is, sends_here, sound_here, untold_here}
use Rattle.law_simulation.proofs.sending.GoNumbers as go_numbers
use Rattle.law_simulation.proofs.sending.GoNumbers.{first_mono}
use Rattle.law_simulation.proofs.sending.GoPieces.{IsPieceAt, known_within, piece_at-drop, piece_is}
use Rattle.law_settling.proofs.bound.Lives.{at_end, end_is}
use Rattle.law_settling.proofs.bound.Turns.{live_end}
use Rattle.law_settling.proofs.sending_stops.Pairs.{expected_is, is_peer}
use Rattle.law_settling.proofs.sending_stops.Places.{one_named}
use Rattle.law_settling.proofs.sending_stops.Turns.{piece_with}
use Rattle.law_settling.proofs.lacks_receive.Tests.{both_true, equal_tests, less_tests}

-- a piece that needs a receive: the first of a Send, or one of a Write with immediate
abbrev pub NeedsReceive : Piece → Type 0
NeedsReceive x = ((is_send (kind_of x.posted) ≡ true) × (x.k ≡ 0)) ⊎ ((is_write (kind_of x.posted) ≡ true) × (is_some x.posted.request.shape.imm ≡ true))

-- the partner of the end with the link l lives in Rts, expects its oldest number, whose piece needs a receive, and has none unused
pub record IsWanted (w : World) (l : Link) : Type 0 where
  pub partner : ObjName
  pub link : Link
  pub linked : (at_end w partner).link ≡ Some link
  pub number : (at_end w partner).number ≡ l.peer
  pub alive : link.ended ≡ false
  pub expects : link.receiver.expected ≡ l.sender.una
  pub dry : (at_end w partner).unused ≡ []
  pub piece : Piece
  pub is : piece_with l l.sender.una ≡ Some piece
  pub needs : NeedsReceive piece

-- ---- numbers

no_rest : (mtu n : ℕ) → is_mtu mtu ≡ true → n / mtu ≡ 0 → n % mtu ≡ 0 → n ≡ 0
no_rest mtu n h = go_numbers.mtu_is (λ k. n / k ≡ 0 → n % k ≡ 0 → n ≡ 0) (λ a b. omega (arith, a, b)) (λ a b. omega (arith, a, b)) (λ a b. omega (arith, a, b)) (λ a b. omega (arith, a, b)) (λ a b. omega (arith, a, b)) mtu h

-- a number of request i that lies in request j, if there is one, is of that
same_request : (posted : List Posted) (mtu i k j r : ℕ) (n : ℕ) → n ≡ first_number posted mtu i + k → first_number posted mtu (suc i) ≡ first_number posted mtu i + r → k < r → i < length posted →
    (j < length posted → n < first_number posted mtu (suc j)) → first_number posted mtu j ≤ n → j ≡ i
same_request posted mtu i k j r n at next within inside low high = by_order (nat_lt j i) (nat_lt i j) refl refl
  where
    by_order : (a b : Bool) → nat_lt j i ≡ a → nat_lt i j ≡ b → j ≡ i
    by_order true b s t =
        let less : suc j ≤ i = grind (arith, nat_tests, leb_tells (suc j) i, s) in
        absurd (omega (arith, first_mono posted mtu (suc j) i less, low (omega (arith, less, inside)), at))
    by_order false true s t =
        let less : suc i ≤ j = grind (arith, nat_tests, leb_tells (suc i) j, t) in
        absurd (omega (arith, first_mono posted mtu (suc i) j less, high, at, next, within))
    by_order false false s t = grind (arith, nat_tests, leb_tells (suc j) i, leb_tells (suc i) j, s, t)

needs_by : (k : Kind) (p : Posted) (into : ℕ) → ((is_send k ≡ true) × (into ≡ 0)) ⊎ ((is_write k ≡ true) × (is_some p.request.shape.imm ≡ true)) → needs_receive k p into ≡ true
unfolding needs_receive
needs_by kinds.Send p into (inl h) = equal_tests into 0 h.1
needs_by kinds.Write p into (inl h) = absurd (cc (h.0))
needs_by kinds.Read p into (inl h) = absurd (cc (h.0))
needs_by kinds.CompareSwap p into (inl h) = absurd (cc (h.0))
needs_by kinds.FetchAdd p into (inl h) = absurd (cc (h.0))
needs_by kinds.Send p into (inr h) = absurd (cc (h.0))
needs_by kinds.Write p into (inr h) = h.1
needs_by kinds.Read p into (inr h) = absurd (cc (h.0))
needs_by kinds.CompareSwap p into (inr h) = absurd (cc (h.0))
needs_by kinds.FetchAdd p into (inr h) = absurd (cc (h.0))

atomic_lands : (k : Kind) → is_atomic k ≡ true → lands k ≡ true
atomic_lands kinds.Send h = absurd (cc)
atomic_lands kinds.Write h = absurd (cc)
atomic_lands kinds.Read h = refl
atomic_lands kinds.CompareSwap h = refl
atomic_lands kinds.FetchAdd h = refl

-- ---- one end

module _ (w : World) (m : Machine) (o : ObjName) (l : Link) (s : Stands w m) (at : (at_end w o).link ≡ Some l) (alive : l.ended ≡ false) (rnr : l.terms.rnr ≡ 7) (want : IsWanted w l) where
  h : LiveEnd w m o l
  h = live_end w m o l s at

  abbrev p : ObjName
  p = want.partner

  hp : LiveEnd w m p want.link
  hp = live_end w m p want.link s want.linked

  named' : name_of m l.peer ≡ p
  named' = ap (name_of m) (sym want.number) ∙ one_named w m p want.link s want.linked

  abbrev q : End
  q = machine.end_of m o

  j : IsJoined o (side_of w o) (side_of w q.peer) (requests_of q) (requests_of (machine.end_of m q.peer))
  unfolding h
  j = joined_here w m o l s h

  peer_is : q.peer ≡ p
  unfolding h hp
  peer_is = is_peer w m o p l want.link s h hp named'

  mtu : is_mtu q.mtu ≡ true
  mtu = subst (λ k. is_mtu k ≡ true) j.mtu j.terms.mtu

  sound : IsSound q
  unfolding h
  sound = (sound_here w m o l s h).sound

  una_oldest : l.sender.una ≡ oldest q
  unfolding h oldest
  una_oldest = (sends_here w m o l s h alive).una

  una_due : l.sender.una ≡ due q
  unfolding h hp due
  una_due = sym want.expects ∙ expected_is w m o p l want.link s h hp named' alive want.alive

  first_is : l.sender.first ≡ first_number q.posted q.mtu q.told
  unfolding h
  first_is = (sends_here w m o l s h alive).first

  piece_all : piece_at q.posted q.mtu l.sender.una ≡ Some want.piece
  unfolding h oldest
  piece_all =
      let place : first_number q.posted q.mtu q.told + (l.sender.una - l.sender.first) ≡ l.sender.una = omega (arith, first_is, una_oldest) in
      ap (piece_at q.posted q.mtu) (sym place)
      ∙ (piece_at-drop q.posted q.mtu q.told (l.sender.una - l.sender.first)
      ∙ ((λ i. piece_at (sym (untold_here w m o l s h) i) (sym (mtu_is w m o l s h) i) (l.sender.una - l.sender.first)) ∙ want.is))

  place : (i : ℕ) × IsPieceAt q.posted q.mtu l.sender.una i want.piece
  place = piece_is q.posted q.mtu l.sender.una want.piece piece_all

  abbrev i : ℕ
  i = place.0

  abbrev f : IsPieceAt q.posted q.mtu l.sender.una place.0 want.piece
  f = place.1

  told_is : q.told ≡ i
  unfolding oldest
  told_is =
      same_request q.posted q.mtu i want.piece.k q.told (span_of want.piece.posted q.mtu) l.sender.una f.first f.next f.within f.inside
      (λ less. omega (arith, una_oldest, known_within (front q) q.mtu q.known mtu sound.whole_atomics j.in_pieces.telling.1, first_suc q.posted q.mtu q.told less))
      (omega (arith, una_oldest))

  acted_is : q.acted ≡ i
  unfolding due
  acted_is =
      same_request q.posted q.mtu i want.piece.k q.acted (span_of want.piece.posted q.mtu) l.sender.una f.first f.next f.within f.inside
      (λ less. omega (arith, una_due, known_within (current q) q.mtu q.into mtu (λ a. sound.whole_turns (atomic_lands _ a)) sound.unfinished, first_suc q.posted q.mtu q.acted less))
      (omega (arith, una_due))

  piece_into : want.piece.k ≡ q.into / q.mtu
  unfolding due
  piece_into = omega (arith, una_due, f.first, ap (first_number q.posted q.mtu) acted_is)

  front_is : front q ≡ want.piece.posted
  front_is = ap (posted_at q.posted) told_is ∙ f.posted_is

  needs_now : needs_receive (kind_of (front q)) (front q) q.into ≡ true
  needs_now =
      subst (λ r. needs_receive (kind_of r) r q.into ≡ true) (sym front_is)
      (needs_by (kind_of want.piece.posted) want.piece.posted q.into (elim want.needs [
        | inl a ↦ inl (a.0, no_rest q.mtu q.into mtu (sym piece_into ∙ a.1) j.in_pieces.acting.0)
        | inr b ↦ inr b
      ]))

  none_unused : has_unused (peer_of m o) ≡ false
  unfolding hp owned owned_there live_context
  none_unused =
      let unused : (machine.end_of m p).unused ≡ [] = ap (λ z. z.unused) (sym (both w m p want.link s hp)) ∙ (ap (λ z. z.unused) (end_is w p) ∙ want.dry) in
      ap (λ n. has_unused (machine.end_of m n)) peer_is ∙ ap (λ us. nat_lt 0 (length us)) unused

  none_lands : lands_before q ≡ false
  unfolding lands_before
  none_lands =
      let none : q.acted - q.told ≡ 0 = omega (arith, told_is, acted_is) in
      ap (λ n. list_any (λ r. lands (kind_of r)) (take n (drop q.told q.posted))) none

  no_fence : (a b c : Bool) → a ≡ true → c ≡ false → (a && not (b && c)) ≡ true
  no_fence true true false t k = refl
  no_fence true false c t k = refl
  no_fence true true true t k = absurd (cc)
  no_fence false b c t k = absurd (cc)

  turn : has_turn q ≡ true
  unfolding has_turn
  turn = no_fence (nat_lt q.acted (length q.posted)) (current q).request.fence (lands_before q) (less_tests q.acted (length q.posted) (omega (arith, acted_is, f.inside))) none_lands

  current_now : has_current m o ≡ true
  unfolding h hp has_current has_peer
  current_now =
      both_true _ _ (both_true _ _ (connected_here w m o l s h) (are_made w m s q.peer j.connected))
      (both_true _ _ (ap not (ap (λ n. (machine.end_of m n).ended) peer_is ∙ (ended_here w m p want.link s hp ∙ want.alive))) turn)

  rnr_is : q.rnr ≡ 7
  unfolding h
  rnr_is = sym j.rnr ∙ (ap (λ z. z.terms.rnr) (link_is w m o l s h) ∙ rnr)

  -- the machine's end lacks a receive
  pub lacks : lacks_receive m o ≡ true
  unfolding lacks_receive
  lacks = both_true _ _ (equal_tests q.rnr 7 rnr_is) (both_true _ _ (equal_tests q.told q.acted (told_is ∙ sym acted_is)) (both_true _ _ current_now (both_true _ _ needs_now (ap not none_unused))))
