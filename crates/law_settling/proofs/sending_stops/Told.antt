-- An end with nothing in flight that sends nothing has no untold request.
use Rattle.std.proofs.Common.{arith, ◌≡◌, ◌≤◌, ◌<◌, ◌+◌, ◌-◌, ◌/◌, ℕ, suc, List, [], ◌∷◌, drop, get_or, inl, inr, true, false, Bool, refl, sym, ap, ◌∙◌, subst}
use Rattle.std.specs.Prelude.{Some, not, nat_le, nat_lt, min, ◌==◌, ◌&&◌, ◌||◌, if◌then◌else◌}
use Rattle.std.proofs.lemmas.Bool.Decides.{nat_tests, leb_tells, eqb_tells}
use Rattle.rdma_types.specs.declared.names.ObjName.{ObjName}
use Rattle.rdma_types.specs.declared.requests.Kind.{Kind}
use Rattle.rdma_types.specs.Kinds.{is_read, lands}
use Rattle.rdma_types.specs.Limits.{is_mtu, window}
use Rattle.rdma_types.specs.Objects.{Posted, no_posted}
use Rattle.rdma_types.specs.Spans.{Piece, end_number, piece_at, span_of}
use Rattle.rdma_types.proofs.Numbers.{landing_after}
use Rattle.protocol.specs.EndWords.{is_paused, is_resuming, is_running}
use Rattle.protocol.specs.Requester.{Transmission, IsFenced, ReadsAreFull, Sends, barrier, end_of_queue, next_transmission, overlap, packets_in_flight, packets_of, reads_in_flight, transmission}
use Rattle.protocol.specs.State.{World, Link, context_at, end_at}
use Rattle.protocol.specs.DeviceStep as device
use Rattle.protocol.specs.WorldStep as step
use Rattle.protocol.specs.WorldStep.{world_step, home, ran}
use Rattle.protocol.specs.Settle.{is_sent, transmit}
use Rattle.packetless_machine.specs.Machine as machine
use Rattle.packetless_machine.specs.Machine.{Machine, End}
use Rattle.packetless_machine.specs.Numbers.{oldest}
use Rattle.packetless_machine.specs.Sound.{IsSound}
use Rattle.law_simulation.specs.Stands.{Stands}
use Rattle.law_simulation.specs.Views.{requests_of}
use Rattle.law_simulation.proofs.relation.PostedNet.{requests_sound}
use Rattle.law_simulation.proofs.sending.GoLive.{LiveEnd, joined_here, link_is, mtu_is, sends_here, sound_here, untold_here}
use Rattle.law_simulation.proofs.sending.GoPieces.{head_dropped, known_within}
use Rattle.law_settling.proofs.bound.Lives.{link_is as lives_link}
use Rattle.law_settling.proofs.bound.Turns.{live_end}
use Rattle.law_settling.specs.Told.{StoppedIsTold}
use Rattle.law_settling.proofs.sending_stops.Transmitting.{transmit_is}

-- ---- nothing is in flight

no_overlap : (low high una : ℕ) → overlap low high una una ≡ 0
no_overlap low high una = omega arith

no_packets : (k : Kind) (n : ℕ) → n ≡ 0 → packets_of k n ≡ 0
no_packets k n h = by_kind (is_read k)
  where
    by_kind : (b : Bool) → (if b then min 1 n else n) ≡ 0
    by_kind true = omega (arith, h)
    by_kind false = h

none_fly : (ps : List Posted) (mtu low una : ℕ) → packets_in_flight ps mtu low una una ≡ 0
unfolding packets_in_flight
none_fly [] mtu low una = refl
none_fly (p ∷ ps) mtu low una = omega (arith, no_packets p.request.shape.kind (overlap low (low + span_of p mtu) una una) (no_overlap low (low + span_of p mtu) una), none_fly ps mtu (low + span_of p mtu) una)

no_read : (b : Bool) (n : ℕ) → n ≡ 0 → ◌≡◌ {A = ℕ} (if b then min 1 n else 0) 0
no_read true n h = omega (arith, h)
no_read false n h = refl

no_reads : (ps : List Posted) (mtu low una : ℕ) → reads_in_flight ps mtu low una una ≡ 0
unfolding reads_in_flight
no_reads [] mtu low una = refl
no_reads (p ∷ ps) mtu low una = omega (arith, no_read (lands p.request.shape.kind) (overlap low (low + span_of p mtu) una una) (no_overlap low (low + span_of p mtu) una), no_reads ps mtu (low + span_of p mtu) una)

-- ---- a number that is posted has its piece

piece_some : (ps : List Posted) (mtu n : ℕ) → n < end_number ps mtu → (x : Piece) × (piece_at ps mtu n ≡ Some x)
unfolding piece_at end_number
piece_some [] mtu n h = absurd (omega (arith, h))
piece_some (p ∷ ps) mtu n h = by_test (nat_lt n (span_of p mtu)) refl (piece_some ps mtu (n - span_of p mtu))
  where
    by_test : (b : Bool) → nat_lt n (span_of p mtu) ≡ b → (n - span_of p mtu < end_number ps mtu → (x : Piece) × (piece_at ps mtu (n - span_of p mtu) ≡ Some x)) → (x : Piece) × ((if b then Some (record { posted = p; k = n }) else piece_at ps mtu (n - span_of p mtu)) ≡ Some x)
    by_test true t later = (record { posted = p; k = n }, refl)
    by_test false t later = let past : span_of p mtu ≤ n = grind (arith, nat_tests, leb_tells (suc n) (span_of p mtu), t) in later (omega (arith, h, past))

-- ---- the row of the table

-- the tests of the table, where each fails
open_row : (l : Link) (x : Piece) → (not l.ended && is_resuming l.moving.phase) ≡ false → (is_paused l.moving.phase || (l.ended || l.sender.rnr_wait)) ≡ false → (l.sender.next == end_of_queue l.terms l.sender) ≡ false →
    nat_le window (packets_in_flight l.sender.untold l.terms.mtu l.sender.first l.sender.una l.sender.next) ≡ false → piece_at l.sender.untold l.terms.mtu (l.sender.next - l.sender.first) ≡ Some x →
    nat_le l.terms.reads (reads_in_flight l.sender.untold l.terms.mtu l.sender.first l.sender.una l.sender.next) ≡ false → nat_lt (barrier l.terms l.sender) l.sender.next ≡ false → transmission l ≡ Sends x
unfolding transmission next_transmission
open_row l x a b c d found reads fence = rw (a, b, c, d, found) (last (lands x.posted.request.shape.kind) x.posted.request.fence (x.k == 0) _ _ reads fence)
  where
    last : (p q r s t : Bool) → s ≡ false → t ≡ false → ◌≡◌ {A = Transmission} (if p && s then ReadsAreFull else if q && (r && t) then IsFenced else Sends x) (Sends x)
    last p q r true t h k = absurd (cc)
    last p q r false true h k = absurd (cc)
    last true true true false false h k = refl
    last true true false false false h k = refl
    last true false r false false h k = refl
    last false true true false false h k = refl
    last false true false false false h k = refl
    last false false r false false h k = refl

is_less : (a b : ℕ) → a < b → nat_le b a ≡ false
is_less a b h = grind (arith, nat_tests, leb_tells b a)

not_below : (a b : ℕ) → b ≤ a → nat_lt a b ≡ false
not_below a b h = grind (arith, nat_tests, leb_tells (suc a) b)

not_same : (a b : ℕ) → a < b → (a == b) ≡ false
not_same a b h = elim (eqb_tells a b) [ inl t ↦ absurd (omega (arith, h, t.1)) | inr t ↦ t.0 ]

runs_is : (l : Link) → is_running (Some l) ≡ true → (l.ended ≡ false) × (is_paused l.moving.phase ≡ false) × (is_resuming l.moving.phase ≡ false)
runs_is l h = by_tests l.ended (is_paused l.moving.phase) (is_resuming l.moving.phase) h
  where
    by_tests : (a b c : Bool) → (not a && (not b && not c)) ≡ true → (a ≡ false) × (b ≡ false) × (c ≡ false)
    by_tests false false false t = (refl, refl, refl)
    by_tests true b c t = absurd (cc)
    by_tests false true c t = absurd (cc)
    by_tests false false true t = absurd (cc)

module _ (w : World) (m : Machine) (o : ObjName) (l : Link) (s : Stands w m) (h : LiveEnd w m o l) (running : is_running (Some l) ≡ true) (wait : l.sender.rnr_wait ≡ false) (landed : l.sender.next ≡ l.sender.una) (none : is_sent (world_step w (transmit o)).answer ≡ false) where
  abbrev q : End
  q = requests_of (machine.end_of m o)

  q_sound : IsSound q
  q_sound = requests_sound (machine.end_of m o) (sound_here w m o l s h).sound

  q_mtu : is_mtu q.mtu ≡ true
  q_mtu = let j = joined_here w m o l s h in subst (λ k. is_mtu k ≡ true) j.mtu j.terms.mtu

  alive : l.ended ≡ false
  alive = (runs_is l running).0

  first_una : l.sender.first ≤ l.sender.una
  unfolding oldest
  first_una = let t = sends_here w m o l s h alive in omega (arith, t.first, t.una)

  some_reads : 1 ≤ l.terms.reads
  some_reads = subst (λ (z : Link). 1 ≤ z.terms.reads) (link_is w m o l s h) (joined_here w m o l s h).terms.some_reads

  sent_is : (x : Piece) → transmission l ≡ Sends x → is_sent (world_step w (transmit o)).answer ≡ true
  unfolding ran step.numbered device.sends_piece
  sent_is x row = ap (λ z. is_sent z.answer) (transmit_is w m o l h) ∙ ap (λ t. is_sent (ran w (device.sends_by (home w o.context) (context_at (home w o.context) o.context) (end_at (context_at (home w o.context) o.context) o.name) l t)).answer) row

  -- a first untold request would be sent
  untold_sent : (p : Posted) (ps : List Posted) → l.sender.untold ≡ p ∷ ps → ⊥
  unfolding oldest barrier end_of_queue end_number
  untold_sent p ps is =
      let t = sends_here w m o l s h alive in
      let rest : drop (machine.end_of m o).told (machine.end_of m o).posted ≡ p ∷ ps = sym (untold_here w m o l s h) ∙ is in
      let inside : q.known / q.mtu < span_of p q.mtu = subst (λ r. q.known / q.mtu < span_of r q.mtu) (head_dropped q.posted q.told p ps rest) (known_within (get_or q.posted q.told no_posted) q.mtu q.known q_mtu q_sound.whole_atomics (joined_here w m o l s h).in_pieces.telling.1) in
      let within : l.sender.next - l.sender.first < end_number l.sender.untold l.terms.mtu = omega (arith, landed, t.first, t.una, inside, ap (λ k. end_number l.sender.untold k) (mtu_is w m o l s h), ap (λ us. end_number us q.mtu) is) in
      let x = piece_some l.sender.untold l.terms.mtu (l.sender.next - l.sender.first) within in
      let runs = runs_is l running in
      cc (
        none,
        sent_is x.0 (open_row l x.0
            (both_false l.ended (is_resuming l.moving.phase) runs.2)
            (rw (runs.1, alive, wait) refl)
            (not_same l.sender.next (end_of_queue l.terms l.sender) (omega (arith, within, landed, first_una)))
            (is_less (packets_in_flight l.sender.untold l.terms.mtu l.sender.first l.sender.una l.sender.next) window (omega (arith, none_fly l.sender.untold l.terms.mtu l.sender.first l.sender.una, ap (packets_in_flight l.sender.untold l.terms.mtu l.sender.first l.sender.una) landed)))
            x.1
            (is_less (reads_in_flight l.sender.untold l.terms.mtu l.sender.first l.sender.una l.sender.next) l.terms.reads (omega (arith, some_reads, no_reads l.sender.untold l.terms.mtu l.sender.first l.sender.una, ap (reads_in_flight l.sender.untold l.terms.mtu l.sender.first l.sender.una) landed)))
            (not_below (barrier l.terms l.sender) l.sender.next (omega (arith, landed, first_una, landing_after l.sender.untold l.terms.mtu (l.sender.una - l.sender.first))))),
      )
    where
      both_false : (a b : Bool) → b ≡ false → (not a && b) ≡ false
      both_false true b t = refl
      both_false false b t = t

  by_untold : (us : List Posted) → l.sender.untold ≡ us → us ≡ []
  by_untold [] is = refl
  by_untold (p ∷ ps) is = absurd (untold_sent p ps is)

  nothing_untold : l.sender.untold ≡ []
  nothing_untold = by_untold l.sender.untold refl

pub told_all : StoppedIsTold
told_all w m o l s there running wait landed none = nothing_untold w m o l s (live_end w m o l s (sym (lives_link w o) ∙ there)) running wait landed none
