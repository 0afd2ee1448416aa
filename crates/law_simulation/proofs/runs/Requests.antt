-- Each request that arrives at an end in Rts is of one of the cases that are followed.
use Rattle.std.proofs.Common.{arith, ◌≡◌, ◌⊎◌, ℕ, suc, List, length, true, false, Bool, refl, sym, subst, inl, inr}
use Rattle.std.specs.Prelude.{Some, nat_lt, ◌&&◌}
use Rattle.std.proofs.lemmas.Bool.Decides.{nat_tests, leb_tells}
use Rattle.rdma_types.specs.declared.names.ObjName.{ObjName}
use Rattle.rdma_types.specs.declared.requests.Kind.{Kind}
use Rattle.rdma_types.specs.declared.requests.Kind.TheVariants as kinds'
use Rattle.rdma_types.specs.Kinds.{is_atomic, is_read, is_send, is_write, kind_of}
use Rattle.protocol.specs.EndWords.{is_paused}
use Rattle.protocol.specs.State.{World, Link}
use Rattle.protocol.specs.Wire.{Packet}
use Rattle.packetless_machine.specs.Machine as machine
use Rattle.packetless_machine.specs.Machine.{Machine}
use Rattle.packetless_machine.specs.Steps.{current, has_current, is_current_granted, may_add, may_atom, may_read, may_run, may_run_kind}
use Rattle.law_simulation.specs.Packets.{class_of, IsRequest}
use Rattle.law_simulation.specs.Delivered.{Arrives, RequestsAreTaken, Takes}
use Rattle.law_simulation.specs.Taken.{AreTakenWhere, IsAhead, IsAtPaused, IsExpected, IsMessageRepeat, IsReadTurn, IsRepeat, IsSendRun, IsWriteRun, asked}
use Rattle.law_simulation.proofs.requests.Requests.{request_at_end}
use Rattle.law_simulation.specs.Refusals.{MayNotAct}
use Rattle.law_simulation.specs.Rereads.{IsReadRepeat}

-- the laws of all cases
pub record AreCases : Type 0 where
  pub paused : AreTakenWhere IsAtPaused
  pub ahead : AreTakenWhere IsAhead
  pub messages : AreTakenWhere IsMessageRepeat
  pub rereads : AreTakenWhere IsReadRepeat
  pub old_atomics : AreTakenWhere (λ w m o l n d. IsRepeat w m o l n d × (is_atomic (kind_of (asked m o n)) ≡ true))
  pub writes : AreTakenWhere IsWriteRun
  pub sends : AreTakenWhere IsSendRun
  pub atomics : AreTakenWhere (λ w m o l n d. IsExpected w m o l n d × (may_atom m (machine.end_of m o).peer ≡ true))
  pub reads : AreTakenWhere IsReadTurn
  pub idle : AreTakenWhere MayNotAct

-- what runs is a Write or a Send
run_sort : (m : Machine) (q : ObjName) (n : ℕ) → may_run m q n ≡ true → (is_write (kind_of (current (machine.end_of m q))) ≡ true) ⊎ (is_send (kind_of (current (machine.end_of m q))) ≡ true)
unfolding may_run may_run_kind
run_sort m q n h = by_kind (has_current m q) (may_add (machine.end_of m q) n) (kind_of (current (machine.end_of m q))) h
  where
    none : (a b : Bool) → (a && (b && false)) ≡ true → ⊥
    none true true h = cc
    none true false h = cc
    none false b h = cc

    by_kind : (a b : Bool) (k : Kind) → (a && (b && may_run_kind m q n k)) ≡ true → (is_write k ≡ true) ⊎ (is_send k ≡ true)
    by_kind a b kinds'.Write h = inl refl
    by_kind a b kinds'.Send h = inr refl
    by_kind a b kinds'.Read h = absurd (none a b h)
    by_kind a b kinds'.CompareSwap h = absurd (none a b h)
    by_kind a b kinds'.FetchAdd h = absurd (none a b h)

-- what has its turn as a Read is one
turn_sort : (m : Machine) (q : ObjName) → may_read m q ≡ true → is_read (kind_of (current (machine.end_of m q))) ≡ true
unfolding may_read
turn_sort m q h = second (has_current m q) (is_read (kind_of (current (machine.end_of m q)))) (is_current_granted m q) h
  where
    second : (a b c : Bool) → (a && (b && c)) ≡ true → b ≡ true
    second true true c h = refl
    second true false c h = absurd (cc)
    second false b c h = absurd (cc)

module _ (cases : AreCases) (w : World) (m : Machine) (o : ObjName) (l : Link) (n : ℕ) (bytes : List ℕ) (d : Packet) (a : Arrives w m o l (Some n) bytes d) (is : class_of d ≡ IsRequest) where
  abbrev q : ObjName
  q = (machine.end_of m o).peer

  -- the expected one
  by_turn : IsExpected w m o l n d → (run atom read : Bool) → may_run m q (length d.payload) ≡ run → may_atom m q ≡ atom → may_read m q ≡ read → Takes w m o l (Some n) d
  by_turn h true atom read r t e = elim (run_sort m q (length d.payload) r) [
    | inl write ↦ cases.writes w m o l n bytes d a is (h, write, r)
    | inr send ↦ cases.sends w m o l n bytes d a is (h, send, r)
  ]
  by_turn h false true read r t e = cases.atomics w m o l n bytes d a is (h, t)
  by_turn h false false true r t e = cases.reads w m o l n bytes d a is (h, turn_sort m q e, e)
  by_turn h false false false r t e = cases.idle w m o l n bytes d a is (h, r, t, e)

  -- a repeat
  by_sort : IsRepeat w m o l n d → (read atomic : Bool) → is_read (kind_of (asked m o n)) ≡ read → is_atomic (kind_of (asked m o n)) ≡ atomic → Takes w m o l (Some n) d
  by_sort h true atomic r t = cases.rereads w m o l n bytes d a is (h, r)
  by_sort h false true r t = cases.old_atomics w m o l n bytes d a is (h, t)
  by_sort h false false r t = cases.messages w m o l n bytes d a is (h, r, t)

  -- by its number
  by_number : is_paused l.moving.phase ≡ false → (before after : Bool) → nat_lt n l.receiver.expected ≡ before → nat_lt l.receiver.expected n ≡ after → Takes w m o l (Some n) d
  by_number p true after b f = by_sort (p, grind (arith, nat_tests, leb_tells (suc n) l.receiver.expected, b)) (is_read (kind_of (asked m o n))) (is_atomic (kind_of (asked m o n))) refl refl
  by_number p false true b f = cases.ahead w m o l n bytes d a is (p, grind (arith, nat_tests, leb_tells (suc l.receiver.expected) n, f))
  by_number p false false b f = by_turn (p, grind (arith, nat_tests, leb_tells (suc n) l.receiver.expected, leb_tells (suc l.receiver.expected) n, b, f)) (may_run m q (length d.payload)) (may_atom m q) (may_read m q) refl refl refl

  by_phase : (paused : Bool) → is_paused l.moving.phase ≡ paused → Takes w m o l (Some n) d
  by_phase true p = cases.paused w m o l n bytes d a is p
  by_phase false p = by_number p (nat_lt n l.receiver.expected) (nat_lt l.receiver.expected n) refl refl

  numbered_taken : Takes w m o l (Some n) d
  numbered_taken = by_phase (is_paused l.moving.phase) refl

pub requests_taken : AreCases → RequestsAreTaken
requests_taken cases w m o l number bytes d a is =
    let r = request_at_end w m o l number bytes d a is in
    subst (λ z. Takes w m o l z d) (sym r.1) (numbered_taken cases w m o l r.0 bytes d (subst (λ z. Arrives w m o l z bytes d) r.1 a) is)
