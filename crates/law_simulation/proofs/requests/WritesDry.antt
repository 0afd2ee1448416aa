-- The expected piece of a Write with immediate finds no receive.
use Rattle.std.proofs.Common.{arith, ◌≡◌, ◌<◌, ◌≤◌, ◌+◌, ◌/◌, ◌⊎◌, ℕ, zero, suc, List, [], ◌∷◌, length, true, false, Bool, refl, sym, ap, ◌∙◌, inl, inr}
use Rattle.std.specs.Prelude.{Option, Some, None, if◌then◌else◌, is_some, not, nat_lt, nat_le, ◌==◌, ◌&&◌, ◌||◌}
use Rattle.std.proofs.lemmas.Bool.Decides.{nat_tests, leb_tells}
use Rattle.rdma_types.specs.declared.names.ObjName.{ObjName}
use Rattle.rdma_types.specs.declared.answers.RefusalReason.TheVariants as whys
use Rattle.rdma_types.specs.declared.requests.Receive.{Receive}
use Rattle.rdma_types.specs.Kinds as kinds
use Rattle.rdma_types.specs.Kinds.{kind_of, size_of}
use Rattle.rdma_types.specs.Limits.{number_limit}
use Rattle.rdma_types.specs.Memory.{is_granted, remote_key}
use Rattle.rdma_types.specs.Objects.{Region}
use Rattle.protocol.specs.State as state
use Rattle.protocol.specs.State.{World, Link}
use Rattle.protocol.specs.Wire.{Packet}
use Rattle.protocol.specs.EndWords.{is_paused}
use Rattle.protocol.specs.Responder.{no_repeat, refuses, not_ready, is_too_long, refuses_length, expected_packet, granted_packet, packet_acts, executed, is_invalid, target, is_not_ready, is_write, is_read_request, is_empty, begins, part_of}
use Rattle.protocol.specs.Segments.{is_first_piece, is_last_piece}
use Rattle.packetless_machine.specs.declared.steps.MachineStep.TheVariants as steps
use Rattle.packetless_machine.specs.Machine as machine
use Rattle.packetless_machine.specs.Machine.{Machine, End, regions_of}
use Rattle.packetless_machine.specs.Steps.{current, fills, has_imm, has_unused, has_current, may_run, may_run_kind, may_add, may_atom, may_read, may_refuse, may_refuse_for, may_dry, may_dry_kind, is_current_granted, is_request_granted, is_granted_there, is_misaligned, right_for, peer_of}
use Rattle.law_simulation.specs.Packets.{class_of, IsRequest}
use Rattle.law_simulation.specs.Carries.{due_steps}
use Rattle.law_simulation.specs.Views.{owned, owned_there}
use Rattle.law_simulation.specs.Joined.{is_granted_in}
use Rattle.law_simulation.specs.Delivered.{Arrives, Takes}
use Rattle.law_simulation.proofs.requests.Requests.{IsRequestAt, request_at_end}
use Rattle.law_simulation.proofs.requests.Scenes.{scene}
use Rattle.law_simulation.proofs.requests.Counting.{owned_here}
use Rattle.law_simulation.proofs.requests.Due.{piece_bytes, mtu_positive}
use Rattle.law_simulation.proofs.requests.Expected.{at, has_now}
use Rattle.law_simulation.proofs.requests.Runs.{within_limit, one_number}
use Rattle.law_simulation.proofs.requests.Messages as messages
use Rattle.law_simulation.proofs.requests.Opcodes.{IsMessage}
use Rattle.law_simulation.proofs.requests.Writes as writes
use Rattle.law_simulation.proofs.requests.Writes.{IsWriteAt, write_kind}
use Rattle.law_simulation.proofs.requests.Dries.{dry_taken}

-- ---- which step is due

and_none : (p : Bool) → (p && false) ≡ false
and_none true = refl
and_none false = refl

pub no_atom : (m : Machine) (q : ObjName) → kinds.is_atomic (kind_of (current (machine.end_of m q))) ≡ false → may_atom m q ≡ false
unfolding may_atom
no_atom m q h = rw h (and_none (has_current m q))

pub no_turn : (m : Machine) (q : ObjName) → kinds.is_read (kind_of (current (machine.end_of m q))) ≡ false → may_read m q ≡ false
unfolding may_read
no_turn m q h = rw h (and_none (has_current m q))

pub no_invalid : (m : Machine) (q : ObjName) → kinds.is_atomic (kind_of (current (machine.end_of m q))) ≡ false → may_refuse m q whys.Invalid ≡ false
unfolding may_refuse may_refuse_for
no_invalid m q h = rw h (and_none (has_current m q))

pub no_access : (m : Machine) (q : ObjName) → is_current_granted m q ≡ true → may_refuse m q whys.Access ≡ false
unfolding may_refuse may_refuse_for
no_access m q h = rw h (by_tests (has_current m q) (not (is_misaligned (current (machine.end_of m q)))) (not (kinds.is_send (kind_of (current (machine.end_of m q))))))
  where
    by_tests : (p u v : Bool) → (p && (u && (v && false))) ≡ false
    by_tests true true true = refl
    by_tests true true false = refl
    by_tests true false v = refl
    by_tests false u v = refl

pub no_length : (m : Machine) (q : ObjName) → kinds.is_send (kind_of (current (machine.end_of m q))) ≡ false → may_refuse m q whys.Length ≡ false
unfolding may_refuse may_refuse_for
no_length m q h = rw h (and_none (has_current m q))

pub due_dry : (m : Machine) (q : ObjName) (n : ℕ) → may_run m q n ≡ false → may_atom m q ≡ false → may_read m q ≡ false → may_refuse m q whys.Invalid ≡ false → may_refuse m q whys.Access ≡ false → may_refuse m q whys.Length ≡ false → due_steps m q n ≡ steps.Dry q ∷ []
unfolding due_steps
due_dry m q n run atom turn invalid access long = rw (run, atom, turn, invalid, access, long) refl

pub expected_not_ready : (c : state.Context) (e : state.End) (l : Link) (d : Packet) (n : ℕ) (region : Region) → nat_le number_limit (n + 1) ≡ false → is_read_request d.opcode ≡ false → is_invalid l d ≡ false → target c e d ≡ Some region → is_not_ready e d ≡ true → expected_packet c e l d n ≡ not_ready c l n
unfolding expected_packet
expected_not_ready c e l d n region limit read valid found ready =
    ap (λ k. if nat_le number_limit (n + k) then no_repeat c else if is_invalid l d then refuses c e l n whys.Invalid else granted_packet c e l d n (target c e d)) (one_number d l.terms.mtu read)
    ∙ (ap (λ b. if b then no_repeat c else if is_invalid l d then refuses c e l n whys.Invalid else granted_packet c e l d n (target c e d)) limit
    ∙ (ap (λ b. if b then refuses c e l n whys.Invalid else granted_packet c e l d n (target c e d)) valid
    ∙ (ap (granted_packet c e l d n) found
    ∙ ap (λ b. if b then not_ready c l n else if is_too_long e l d then refuses_length c e l n else packet_acts c e (executed l d) d region n) ready)))

-- ---- bytes that may come next

pub may_add_next : (g : End) (count : ℕ) → 1 ≤ g.mtu → (g.into ≡ 0) ⊎ (g.into < size_of (current g)) → count ≡ piece_bytes (size_of (current g)) g.into g.mtu → may_add g count ≡ true
unfolding may_add
may_add_next g count some (inl z) h = by_size (size_of (current g)) g.into count g.mtu some z h
  where
    by_size : (size into n mtu : ℕ) → 1 ≤ mtu → into ≡ 0 → n ≡ piece_bytes size into mtu → ((nat_le 1 n || ((size == 0) && (n == 0))) && nat_le (into + n) size) ≡ true
    by_size zero into n mtu a b c = let none : n ≡ 0 = omega (arith, b, c) in rw (none, b) refl
    by_size (suc size) into n mtu a b c =
        let some' : 1 ≤ n = omega (arith, a, b, c) in
        let short : into + n ≤ suc size = omega (arith, b, c) in
        grind (arith, nat_tests, leb_tells 1 n, leb_tells (into + n) (suc size), some', short)
may_add_next g count some (inr s) h = by_some (size_of (current g)) g.into count (omega (arith, s, h, some)) (omega (arith, s, h))
  where
    by_some : (size into n : ℕ) → 1 ≤ n → into + n ≤ size → ((nat_le 1 n || ((size == 0) && (n == 0))) && nat_le (into + n) size) ≡ true
    by_some size into n a b = grind (arith, nat_tests, leb_tells 1 n, leb_tells (into + n) size, a, b)

both_parts : (p u : Bool) → (p && u) ≡ true → (p ≡ true) × (u ≡ true)
both_parts true true h = (refl, refl)
both_parts true false h = absurd (cc)
both_parts false u h = absurd (cc)

module _ (w : World) (m : Machine) (o : ObjName) (l : Link) (number : Option ℕ) (bytes : List ℕ) (d : Packet) (a : Arrives w m o l number bytes d) (is : class_of d ≡ IsRequest) (paused : is_paused l.moving.phase ≡ false) (now : (request_at_end w m o l number bytes d a is).0 ≡ l.receiver.expected)
    (write : kinds.is_write (kind_of (current (machine.end_of m (machine.end_of m o).peer))) ≡ true) (runs : may_run m (machine.end_of m o).peer (length d.payload) ≡ false) (dries : may_dry m (machine.end_of m o).peer ≡ true) where
  open scene w m o l number bytes d a is use {n, q, g, r, x, c, e}

  abbrev count : ℕ
  count = length d.payload

  abbrev req : IsRequestAt w m o l n d
  req = at w m o l number bytes d a is paused now

  not_read : kinds.is_read (kind_of r) ≡ false
  not_read = writes.not_read w m o l number bytes d a is paused now write

  not_atomic : kinds.is_atomic (kind_of r) ≡ false
  not_atomic = writes.not_atomic w m o l number bytes d a is paused now write

  not_send : kinds.is_send (kind_of r) ≡ false
  not_send = writes.not_send w m o l number bytes d a is paused now write

  op : IsMessage (kind_of r) (is_first_piece (g.into / g.mtu)) (is_last_piece r.request.shape g.mtu (g.into / g.mtu)) d.opcode
  op = writes.op w m o l number bytes d a is paused now write

  -- what the machine says
  parts : (not (has_unused (peer_of m q)) ≡ true) × ((has_imm r && is_current_granted m q) ≡ true)
  unfolding may_dry may_dry_kind
  parts = let two = both_parts _ _ (both_parts _ _ dries).1 in (two.0, ap (may_dry_kind m q) (sym (write_kind (kind_of r) write)) ∙ two.1)

  granted' : is_current_granted m q ≡ true
  granted' = (both_parts _ _ parts.1).1

  imm : has_imm r ≡ true
  imm = (both_parts _ _ parts.1).0

  granted_now : is_granted_in x.domain (regions_of m o.context) r ≡ true
  unfolding is_request_granted is_granted_there is_granted_in
  granted_now = ap (λ j. is_granted remote_key (regions_of m j.context) (machine.end_of m j).domain r.request.shape.rkey r.request.shape.remote (size_of r) (right_for (kind_of r))) (sym req.joined.back) ∙ granted'

  none_unused : nat_lt 0 (length x.unused) ≡ false
  none_unused = not_true (nat_lt 0 (length x.unused)) (ap (λ j. not (nat_lt 0 (length (machine.end_of m j).unused))) (sym req.joined.back) ∙ parts.0)
    where
      not_true : (b : Bool) → not b ≡ true → b ≡ false
      not_true true h = absurd (cc)
      not_true false h = refl

  adds : may_add g count ≡ true
  adds = may_add_next g count (mtu_positive g.mtu (messages.mtu_is_one w m o l number bytes d a is paused now not_read not_atomic)) (messages.begun_now w m o l number bytes d a is paused now not_read not_atomic) (messages.bytes_now w m o l number bytes d a is paused now not_read not_atomic)

  -- it is the last piece, or it could be run
  filled : fills g count ≡ true
  unfolding may_run may_run_kind
  filled = by_test (fills g count) refl
    where
      by_test : (b : Bool) → fills g count ≡ b → fills g count ≡ true
      by_test true t = t
      by_test false t =
          let can : may_run_kind m q count (kind_of r) ≡ true = ap (may_run_kind m q count) (write_kind (kind_of r) write) ∙ (λ i. granted' i && (not (t i && has_imm r) || has_unused (peer_of m q))) in
          let yes : may_run m q count ≡ true = λ i. has_now w m o l number bytes d a is paused now i && (adds i && can i) in
          absurd (cc (runs, yes))

  both : owned_there e ≡ owned x
  both = owned_here w m o l n d a.stands a.live a.linked req

  unused_same : e.unused ≡ x.unused
  unfolding owned_there owned
  unused_same = ap (λ z. z.unused) both

  domain_same : e.domain ≡ x.domain
  unfolding owned_there owned
  domain_same = ap (λ z. z.domain) both

  there : IsWriteAt c e l d (regions_of m o.context) r g.into
  there = writes.write_at w m o l number bytes d a is paused now write granted_now domain_same

  empty : (us : List Receive) → nat_lt 0 (length us) ≡ false → is_empty us ≡ true
  empty [] h = refl
  empty (v ∷ us) h = absurd (some_left (length us) h)
    where
      some_left : (k : ℕ) → nat_lt 0 (suc k) ≡ false → ⊥
      some_left k h' = grind (arith, nat_tests, h')

  not_ready_now : is_not_ready e d ≡ true
  not_ready_now =
      let given : is_some d.imm ≡ true = ap is_some (messages.imm_now w m o l number bytes d a is paused now not_read not_atomic ∙ ap (λ b. if b then r.request.shape.imm else None) (messages.last_now w m o l number bytes d a is paused now not_read not_atomic ∙ filled)) ∙ imm in
      ap (λ b. ((b && begins (part_of d.opcode)) || (is_write d.opcode && is_some d.imm)) && is_empty e.unused) (op.send ∙ not_send)
      ∙ (λ i. (false || ((op.write ∙ write) i && given i)) && (ap is_empty unused_same ∙ empty x.unused none_unused) i)

  pub write_dry : Takes w m o l number d
  write_dry =
      dry_taken w m o l number bytes d a is paused now dries
      (due_dry m q count runs (no_atom m q not_atomic) (no_turn m q not_read) (no_invalid m q not_atomic) (no_access m q granted') (no_length m q not_send))
      (expected_not_ready c e l d n there.region (within_limit w m o l number bytes d a is paused now) op.read there.valid there.found not_ready_now)
