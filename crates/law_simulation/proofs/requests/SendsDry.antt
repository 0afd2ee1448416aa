-- The expected first piece of a Send finds no receive.
use Rattle.std.proofs.Common.{arith, ◌≡◌, ◌+◌, ◌/◌, ℕ, suc, List, [], ◌∷◌, length, true, false, Bool, refl, sym, ap, ◌∙◌}
use Rattle.std.specs.Prelude.{Option, None, is_some, not, nat_lt, ◌==◌, ◌&&◌, ◌||◌}
use Rattle.std.proofs.lemmas.Bool.Decides.{nat_tests, eqb_tells}
use Rattle.rdma_types.specs.declared.names.ObjName.{ObjName}
use Rattle.rdma_types.specs.declared.answers.RefusalReason.TheVariants as whys
use Rattle.rdma_types.specs.declared.requests.Receive.{Receive}
use Rattle.rdma_types.specs.Kinds as kinds
use Rattle.rdma_types.specs.Kinds.{kind_of, size_of}
use Rattle.rdma_types.specs.Objects.{no_region}
use Rattle.protocol.specs.declared.wire.Reth.{Reth}
use Rattle.protocol.specs.State.{World, Link, Progress, NoMessage, InSend, InWrite}
use Rattle.protocol.specs.Wire.{Packet, when}
use Rattle.protocol.specs.EndWords.{is_paused}
use Rattle.protocol.specs.Responder.{is_invalid, is_not_ready, is_empty, begins, part_of}
use Rattle.protocol.specs.Segments.{is_first_piece, is_last_piece}
use Rattle.packetless_machine.specs.Machine as machine
use Rattle.packetless_machine.specs.Machine.{Machine, regions_of}
use Rattle.packetless_machine.specs.Steps.{current, fills, has_unused, has_current, may_run, may_refuse, may_refuse_for, may_dry, may_dry_kind, first_receive, is_misaligned, overflows, peer_of, receive_for}
use Rattle.law_simulation.specs.Packets.{class_of, IsRequest}
use Rattle.law_simulation.specs.Views.{owned, owned_there, link_or_none, receive_in}
use Rattle.law_simulation.specs.Joined.{IsProgress}
use Rattle.law_simulation.specs.Delivered.{Arrives, Takes}
use Rattle.law_simulation.proofs.requests.Requests.{IsRequestAt, asking, request_at_end}
use Rattle.law_simulation.proofs.requests.Scenes.{scene}
use Rattle.law_simulation.proofs.requests.Counting.{owned_here, progress_now}
use Rattle.law_simulation.proofs.requests.Due.{piece_bytes, not_last, mtu_is}
use Rattle.law_simulation.proofs.requests.Expected.{at}
use Rattle.law_simulation.proofs.requests.Runs.{within_limit}
use Rattle.law_simulation.proofs.requests.Messages as messages
use Rattle.law_simulation.proofs.requests.Opcodes.{IsMessage, part}
use Rattle.law_simulation.proofs.requests.Sends.{send_kind, send_not, send_first_valid, target_none}
use Rattle.law_simulation.proofs.requests.WritesDry.{no_atom, no_turn, no_invalid, due_dry, expected_not_ready}
use Rattle.law_simulation.proofs.requests.Dries.{dry_taken}

both_parts : (p u : Bool) → (p && u) ≡ true → (p ≡ true) × (u ≡ true)
both_parts true true h = (refl, refl)
both_parts true false h = absurd (cc)
both_parts false u h = absurd (cc)

not_true : (b : Bool) → not b ≡ true → b ≡ false
not_true true h = absurd (cc)
not_true false h = refl

eq_of : (a b : ℕ) → (a == b) ≡ true → a ≡ b
eq_of a b t = grind (arith, nat_tests, eqb_tells a b, t)

zero_is : (k : ℕ) → k ≡ 0 → (k == 0) ≡ true
zero_is k s = grind (arith, nat_tests, eqb_tells k 0, s)

none_left : (us : List Receive) → nat_lt 0 (length us) ≡ false → us ≡ []
none_left [] h = refl
none_left (v ∷ us) h = absurd (some_left (length us) h)
  where
    some_left : (k : ℕ) → nat_lt 0 (suc k) ≡ false → ⊥
    some_left k h' = grind (arith, nat_tests, h')

begins_first : (t : Bool) → begins (part true t) ≡ true
begins_first true = refl
begins_first false = refl

-- a Send needs no region
pub send_access : (m : Machine) (q : ObjName) → kinds.is_send (kind_of (current (machine.end_of m q))) ≡ true → may_refuse m q whys.Access ≡ false
unfolding may_refuse may_refuse_for
send_access m q h = rw h (by_tests (has_current m q) (not (is_misaligned (current (machine.end_of m q)))))
  where
    by_tests : (p u : Bool) → (p && (u && false)) ≡ false
    by_tests true true = refl
    by_tests true false = refl
    by_tests false u = refl

-- no receive is too short, where there is none
no_receive_short : (m : Machine) (q : ObjName) → receive_for (peer_of m q) ≡ None → may_refuse m q whys.Length ≡ false
unfolding may_refuse may_refuse_for overflows
no_receive_short m q h = rw h (by_tests (has_current m q) (kinds.is_send (kind_of (current (machine.end_of m q)))))
  where
    by_tests : (p u : Bool) → (p && (u && false)) ≡ false
    by_tests true true = refl
    by_tests true false = refl
    by_tests false u = refl

module _ (w : World) (m : Machine) (o : ObjName) (l : Link) (number : Option ℕ) (bytes : List ℕ) (d : Packet) (a : Arrives w m o l number bytes d) (is : class_of d ≡ IsRequest) (paused : is_paused l.moving.phase ≡ false) (now : (request_at_end w m o l number bytes d a is).0 ≡ l.receiver.expected)
    (send : kinds.is_send (kind_of (current (machine.end_of m (machine.end_of m o).peer))) ≡ true) (runs : may_run m (machine.end_of m o).peer (length d.payload) ≡ false) (dries : may_dry m (machine.end_of m o).peer ≡ true) where
  open scene w m o l number bytes d a is use {n, q, g, r, x, c, e}

  abbrev count : ℕ
  count = length d.payload

  abbrev req : IsRequestAt w m o l n d
  req = at w m o l number bytes d a is paused now

  not_read : kinds.is_read (kind_of r) ≡ false
  not_read = send_not kinds.is_read refl (kind_of r) send

  not_atomic : kinds.is_atomic (kind_of r) ≡ false
  not_atomic = send_not kinds.is_atomic refl (kind_of r) send

  not_write : kinds.is_write (kind_of r) ≡ false
  not_write = send_not kinds.is_write refl (kind_of r) send

  abbrev final : Bool
  final = is_last_piece r.request.shape g.mtu (g.into / g.mtu)

  op : IsMessage (kind_of r) (is_first_piece (g.into / g.mtu)) final d.opcode
  op = messages.opcode_now w m o l number bytes d a is paused now not_read not_atomic

  both : owned_there e ≡ owned x
  both = owned_here w m o l n d a.stands a.live a.linked req

  -- what the machine says: nothing of it is in place, and no receive is unused
  parts : (not (has_unused (peer_of m q)) ≡ true) × ((g.into == 0) ≡ true)
  unfolding may_dry may_dry_kind
  parts = let two = both_parts _ _ (both_parts _ _ dries).1 in (two.0, ap (may_dry_kind m q) (sym (send_kind (kind_of r) send)) ∙ two.1)

  begins_now : g.into ≡ 0
  begins_now = eq_of g.into 0 parts.1

  empty : x.unused ≡ []
  empty = none_left x.unused (not_true (nat_lt 0 (length x.unused)) (ap (λ j. not (nat_lt 0 (length (machine.end_of m j).unused))) (sym req.joined.back) ∙ parts.0))

  unused_same : e.unused ≡ x.unused
  unfolding owned_there owned
  unused_same = ap (λ z. z.unused) both

  idle : l.receiver.progress ≡ NoMessage
  idle = by_progress l.receiver.progress (progress_now w m o l n d a.stands a.live a.linked req)
    where
      by_progress : (z : Progress) → IsProgress (asking m o) x.domain (regions_of m o.context) z → z ≡ NoMessage
      by_progress NoMessage h = refl
      by_progress (InSend done receive) h = absurd (omega (arith, h.0, h.1, begins_now))
      by_progress (InWrite region off k done) h = absurd (cc (h.2, not_write))

  none_used : x.in_use ≡ None
  unfolding owned_there owned link_or_none receive_in
  none_used = ap (λ z. z.in_use) (sym both) ∙ (ap (λ z. receive_in (link_or_none z).receiver.progress) a.linked ∙ ap receive_in idle)

  no_receive : receive_for (peer_of m q) ≡ None
  unfolding receive_for first_receive
  no_receive = ap (λ j. first_receive (machine.end_of m j).in_use (machine.end_of m j).unused) req.joined.back ∙ (λ i. first_receive (none_used i) (empty i))

  mtu_same : l.terms.mtu ≡ g.mtu
  mtu_same = ap (λ (z : Link). z.terms.mtu) (sym req.link) ∙ (ap (λ t. t.mtu) req.back.exchanged ∙ req.back.mtu)

  bytes_are : count ≡ piece_bytes (size_of r) g.into g.mtu
  bytes_are = messages.bytes_now w m o l number bytes d a is paused now not_read not_atomic

  first : is_first_piece (g.into / g.mtu) ≡ true
  first = zero_is (g.into / g.mtu) (ap (λ k. k / g.mtu) begins_now ∙ mtu_is (λ k. 0 / k ≡ 0) (omega arith) (omega arith) (omega arith) (omega arith) (omega arith) g.mtu (messages.mtu_is_one w m o l number bytes d a is paused now not_read not_atomic))

  place : part_of d.opcode ≡ part true final
  place = op.part ∙ ap (λ b. part b final) first

  atomic : d.atomic ≡ None
  atomic = messages.atomic_none w m o l number bytes d a is paused now not_read not_atomic

  no_when : (b : Bool) → when {A = Reth} (b && false) (record { address = r.request.shape.remote; rkey = r.request.shape.rkey; length = r.request.shape.length }) ≡ None
  no_when true = refl
  no_when false = refl

  reth : d.reth ≡ None
  reth = messages.reth_now w m o l number bytes d a is paused now not_read not_atomic ∙ (ap (λ b. when {A = Reth} (is_first_piece (g.into / g.mtu) && b) (record { address = r.request.shape.remote; rkey = r.request.shape.rkey; length = r.request.shape.length })) not_write ∙ no_when (is_first_piece (g.into / g.mtu)))

  last_fills : final ≡ false → fills g count ≡ false
  last_fills h = sym (messages.last_now w m o l number bytes d a is paused now not_read not_atomic) ∙ h

  valid : is_invalid l d ≡ false
  valid =
      send_first_valid l d final idle place (op.write ∙ not_write) op.read atomic
      (λ b. omega (arith, messages.fits_mtu w m o l number bytes d a is paused now not_read not_atomic, mtu_same))
      (λ b. bytes_are ∙ ((not_last (size_of r) g.into g.mtu (messages.begun_now w m o l number bytes d a is paused now not_read not_atomic) (ap (λ k. g.into + k == size_of r) (sym bytes_are) ∙ last_fills b)).0 ∙ sym mtu_same))

  not_ready_now : is_not_ready e d ≡ true
  not_ready_now = λ i. (((op.send ∙ send) i && (ap begins place ∙ begins_first final) i) || ((op.write ∙ not_write) i && is_some d.imm)) && is_empty ((unused_same ∙ empty) i)

  pub send_dry : Takes w m o l number d
  send_dry =
      dry_taken w m o l number bytes d a is paused now dries
      (due_dry m q count runs (no_atom m q not_atomic) (no_turn m q not_read) (no_invalid m q not_atomic) (send_access m q send) (no_receive_short m q no_receive))
      (expected_not_ready c e l d n no_region (within_limit w m o l number bytes d a is paused now) op.read valid (target_none c e d atomic reth) not_ready_now)
