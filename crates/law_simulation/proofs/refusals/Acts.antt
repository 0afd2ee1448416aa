-- Where no check of the responder stops the expected request, the machine may act on it.
use Rattle.std.proofs.Common.{arith, ◌≡◌, ◌+◌, ◌⊎◌, ℕ, suc, List, [], ◌∷◌, length, true, false, Bool, refl, sym, ap, ◌∙◌, inl, inr}
use Rattle.std.specs.Prelude.{Option, Some, None, is_some, not, nat_lt, ◌==◌, ◌&&◌, ◌||◌, slice_get}
use Rattle.std.proofs.lemmas.Bool.Decides.{nat_tests, leb_tells}
use Rattle.rdma_types.specs.declared.names.ObjName.{ObjName}
use Rattle.rdma_types.specs.declared.requests.Kind.{Kind}
use Rattle.rdma_types.specs.declared.requests.Receive.{Receive}
use Rattle.rdma_types.specs.Kinds as kinds
use Rattle.rdma_types.specs.Kinds.{kind_of, size_of}
use Rattle.rdma_types.specs.Objects.{Posted}
use Rattle.protocol.specs.State as state
use Rattle.protocol.specs.State.{World, Link, Progress, NoMessage, InSend, InWrite}
use Rattle.protocol.specs.Wire.{Packet}
use Rattle.protocol.specs.EndWords.{is_paused}
use Rattle.protocol.specs.Responder.{is_invalid, is_not_ready, is_too_long, target}
use Rattle.packetless_machine.specs.Machine as machine
use Rattle.packetless_machine.specs.Machine.{Machine, End}
use Rattle.packetless_machine.specs.Steps.{current, fills, fits, first_receive, has_current, has_imm, has_unused, is_current_granted, is_misaligned, may_add, may_atom, may_read, may_run, may_run_kind, overflows, peer_of, receive_for}
use Rattle.law_simulation.specs.Packets.{class_of, IsRequest}
use Rattle.law_simulation.specs.Joined.{IsProgress}
use Rattle.law_simulation.specs.Views.{receive_in}
use Rattle.law_simulation.specs.Delivered as delivered
use Rattle.law_simulation.specs.Delivered.{Arrives, Takes}
use Rattle.law_simulation.proofs.requests.Requests.{asker, asking, request_at_end}
use Rattle.law_simulation.proofs.requests.Expected.{has_now, mtu_now}
use Rattle.law_simulation.proofs.requests.Due.{mtu_positive}
use Rattle.law_simulation.proofs.requests.Messages.{begun_now, bytes_now}
use Rattle.law_simulation.proofs.requests.WritesDry.{may_add_next}
use Rattle.law_simulation.proofs.requests.Checks.{Sort, sort_of, invalid_is, target_is, not_ready_is, too_long_is, needs_now, peer_is, in_use_here, progress_here}
use Rattle.law_simulation.proofs.refusals.Picked.{both_true, run_of_send, run_of_write}
use Rattle.law_simulation.proofs.refusals.Dried.{dry_taken}
use Rattle.law_simulation.proofs.refusals.Refused.{access_taken, invalid_taken, length_taken}

-- ---- tests

without_first : (a b c : Bool) → a ≡ false → (a || b) ≡ true → b ≡ true
without_first a b c h i = sym (ap (λ z. z || b) h) ∙ i

some_unused : (us : List Receive) → nat_lt 0 (length us) ≡ true → (v : Receive) × (slice_get us 0 ≡ Some v)
some_unused [] h = absurd (grind (arith, nat_tests, h))
some_unused (v ∷ us) h = (v, refl)

fits_it : (v : Receive) (u : Option Receive) (k : ℕ) → u ≡ Some v → overflows u k ≡ false → fits u k ≡ true
unfolding overflows fits
fits_it v None k h i = absurd (cc)
fits_it v (Some z) k h i = grind (arith, nat_tests, leb_tells (suc z.length) k, i)

module _ (w : World) (m : Machine) (o : ObjName) (l : Link) (number : Option ℕ) (bytes : List ℕ) (d : Packet) (a : Arrives w m o l number bytes d) (is : class_of d ≡ IsRequest) (paused : is_paused l.moving.phase ≡ false) (now : (request_at_end w m o l number bytes d a is).0 ≡ l.receiver.expected) where
  abbrev q : ObjName
  q = asker m o

  abbrev g : End
  g = machine.end_of m q

  abbrev r : Posted
  r = current g

  abbrev x : End
  x = machine.end_of m o

  abbrev count : ℕ
  count = length d.payload

  abbrev c : state.Context
  c = delivered.context_there w o

  abbrev e : state.End
  e = delivered.end_there w o

  current_now : has_current m q ≡ true
  current_now = has_now w m o l number bytes d a is paused now

  adds : kinds.is_read (kind_of r) ≡ false → kinds.is_atomic (kind_of r) ≡ false → may_add g count ≡ true
  adds h t = may_add_next g count (mtu_positive g.mtu (mtu_now w m o l number bytes d a is paused now)) (begun_now w m o l number bytes d a is paused now h t) (bytes_now w m o l number bytes d a is paused now h t)

  -- the machine may act
  abbrev pub MayAct : Type 0
  MayAct = (may_run m q count ≡ true) ⊎ (may_atom m q ≡ true) ⊎ (may_read m q ≡ true)

  module _ (valid : is_invalid l d ≡ false) (granted : is_some (target c e d) ≡ true) (ready : is_not_ready e d ≡ false) (short : is_too_long e l d ≡ false) where
    aligned : is_misaligned r ≡ false
    aligned = sym (invalid_is w m o l number bytes d a is paused now) ∙ valid

    granted_now : kinds.is_send (kind_of r) ≡ false → is_current_granted m q ≡ true
    granted_now h = without_first (kinds.is_send (kind_of r)) (is_current_granted m q) true h (sym (target_is w m o l number bytes d a is paused now) ∙ granted)

    ready_now : (needs_now w m o l number bytes d a is paused now && not (has_unused (peer_of m q))) ≡ false
    ready_now = sym (not_ready_is w m o l number bytes d a is paused now) ∙ ready

    reads : kinds.is_read (kind_of r) ≡ true → kinds.is_send (kind_of r) ≡ false → may_read m q ≡ true
    unfolding may_read
    reads h s = both_true (has_current m q) _ current_now (both_true (kinds.is_read (kind_of r)) _ h (granted_now s))

    acts : kinds.is_atomic (kind_of r) ≡ true → kinds.is_send (kind_of r) ≡ false → may_atom m q ≡ true
    unfolding may_atom
    acts h s = both_true (has_current m q) _ current_now (both_true (kinds.is_atomic (kind_of r)) _ h (both_true (not (is_misaligned r)) _ (ap not aligned) (granted_now s)))

    runs : kinds.is_read (kind_of r) ≡ false → kinds.is_atomic (kind_of r) ≡ false → may_run_kind m q count (kind_of r) ≡ true → may_run m q count ≡ true
    unfolding may_run
    runs h t k = both_true (has_current m q) _ current_now (both_true (may_add g count) _ (adds h t) k)

    write_ready : (b s v u : Bool) → b ≡ true → s ≡ false → ((((s && v) || (b && u)) && not (has_unused (peer_of m q))) ≡ false) → (not u || has_unused (peer_of m q)) ≡ true
    write_ready true false v true h i j = by (has_unused (peer_of m q)) j
      where
        by : (t : Bool) → not t ≡ false → t ≡ true
        by true k = refl
        by false k = absurd (cc)
    write_ready true false v false h i j = refl
    write_ready true true v u h i j = absurd (cc)
    write_ready false s v u h i j = absurd (cc)

    writes : kinds.is_write (kind_of r) ≡ true → kinds.is_send (kind_of r) ≡ false → may_run_kind m q count (kind_of r) ≡ true
    writes h s =
        run_of_write m q count current_now h
        ∙ both_true (is_current_granted m q) _ (granted_now s) (write_ready (kinds.is_write (kind_of r)) (kinds.is_send (kind_of r)) (g.into == 0) (fills g count && has_imm r) h s ready_now)

    send_ready : (b v u t : Bool) → b ≡ true → v ≡ true → ((((b && v) || u) && not t) ≡ false) → t ≡ true
    send_ready true true u true h i j = refl
    send_ready true true u false h i j = absurd (cc)
    send_ready true false u t h i j = absurd (cc)
    send_ready false v u t h i j = absurd (cc)

    -- a receive is there for a Send
    receives : kinds.is_send (kind_of r) ≡ true → (v : Receive) × (receive_for x ≡ Some v)
    unfolding receive_for first_receive receive_in
    receives send = by l.receiver.progress (in_use_here w m o l number bytes d a is paused now) (progress_here w m o l number bytes d a is paused now)
      where
        test : (k : ℕ) → k ≡ 0 → (k == 0) ≡ true
        test k h = grind (arith, nat_tests)

        not_both : (k : Kind) → Sort k → kinds.is_send k ≡ true → kinds.is_write k ≡ true → ⊥
        not_both k (inl s) h i = cc (s.send, h)
        not_both k (inr (inl s)) h i = cc (s.send, h)
        not_both k (inr (inr (inl s))) h i = cc (s.write, i)
        not_both k (inr (inr (inr s))) h i = cc (s.send, h)

        unused : g.into ≡ 0 → has_unused x ≡ true
        unused z =
            ap (λ (u : End). nat_lt 0 (length u.unused)) (sym (peer_is w m o l number bytes d a is paused now))
            ∙ send_ready (kinds.is_send (kind_of r)) (g.into == 0) (kinds.is_write (kind_of r) && (fills g count && has_imm r)) (has_unused (peer_of m q)) send (test g.into z) ready_now

        by : (p : Progress) → receive_in p ≡ x.in_use → IsProgress (asking m o) x.domain (machine.regions_of m o.context) p → (v : Receive) × (first_receive x.in_use x.unused ≡ Some v)
        by NoMessage used h =
            let s = some_unused x.unused (unused h) in
            (s.0, ap (λ u. first_receive u x.unused) (sym used) ∙ s.1)
        by (InSend done v) used h = (v, ap (λ u. first_receive u x.unused) (sym used))
        by (InWrite f s t u) used h = absurd (not_both (kind_of r) (sort_of (kind_of r)) send h.2)

    sends : kinds.is_send (kind_of r) ≡ true → may_run_kind m q count (kind_of r) ≡ true
    sends send =
        let v = receives send in
        let fitting : overflows (receive_for (peer_of m q)) (g.into + count) ≡ false = sym (ap (λ b. b && overflows (receive_for (peer_of m q)) (g.into + count)) send) ∙ (sym (too_long_is w m o l number bytes d a is paused now ready) ∙ short) in
        run_of_send m q count current_now send ∙ fits_it v.0 (receive_for (peer_of m q)) (g.into + count) (ap receive_for (peer_is w m o l number bytes d a is paused now) ∙ v.1) fitting

    pub may_act : MayAct
    may_act = by_sort (sort_of (kind_of r))
      where
        by_sort : Sort (kind_of r) → MayAct
        by_sort (inl s) = inr (inr (reads s.read s.send))
        by_sort (inr (inl s)) = inr (inl (acts s.atomic s.send))
        by_sort (inr (inr (inl s))) = inl (runs s.read s.atomic (sends s.send))
        by_sort (inr (inr (inr s))) = inl (runs s.read s.atomic (writes s.write s.send))

  -- ---- where it may not act

  pub idle_taken : may_run m q count ≡ false → may_atom m q ≡ false → may_read m q ≡ false → Takes w m o l number d
  idle_taken run atom turn = by_valid (is_invalid l d) refl
    where
      none : MayAct → ⊥
      none (inl h) = cc (run, h)
      none (inr (inl h)) = cc (atom, h)
      none (inr (inr h)) = cc (turn, h)

      by_long : is_invalid l d ≡ false → is_some (target c e d) ≡ true → is_not_ready e d ≡ false → (b : Bool) → is_too_long e l d ≡ b → Takes w m o l number d
      by_long v t y true h = length_taken w m o l number bytes d a is paused now v t y h
      by_long v t y false h = absurd (none (may_act v t y h))

      by_ready : is_invalid l d ≡ false → is_some (target c e d) ≡ true → (b : Bool) → is_not_ready e d ≡ b → Takes w m o l number d
      by_ready v t true h = dry_taken w m o l number bytes d a is paused now v t h
      by_ready v t false h = by_long v t h (is_too_long e l d) refl

      by_target : is_invalid l d ≡ false → (b : Bool) → is_some (target c e d) ≡ b → Takes w m o l number d
      by_target v true h = by_ready v h (is_not_ready e d) refl
      by_target v false h = access_taken w m o l number bytes d a is paused now v h

      by_valid : (b : Bool) → is_invalid l d ≡ b → Takes w m o l number d
      by_valid true h = invalid_taken w m o l number bytes d a is paused now h
      by_valid false h = by_target h (is_some (target c e d)) refl
