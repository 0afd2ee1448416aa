-- Where the responder refuses the expected request, or finds no receive, the machine may make that step alone.
use Rattle.std.proofs.Common.{arith, ◌≡◌, ◌≤◌, ◌+◌, ℕ, suc, List, [], ◌∷◌, length, true, false, Bool, refl, ap, ◌∙◌, inl, inr}
use Rattle.std.specs.Prelude.{Option, Some, None, not, nat_lt, ◌==◌, ◌&&◌, ◌||◌}
use Rattle.std.proofs.lemmas.Bool.Decides.{nat_tests, leb_tells}
use Rattle.rdma_types.specs.declared.names.ObjName.{ObjName}
use Rattle.rdma_types.specs.declared.answers.RefusalReason.TheVariants as whys
use Rattle.rdma_types.specs.declared.requests.Kind.{Kind}
use Rattle.rdma_types.specs.declared.requests.Kind.TheVariants as kinds'
use Rattle.rdma_types.specs.declared.requests.Receive.{Receive}
use Rattle.rdma_types.specs.Kinds as kinds
use Rattle.rdma_types.specs.Kinds.{kind_of, size_of}
use Rattle.rdma_types.specs.Objects.{Posted}
use Rattle.packetless_machine.specs.declared.steps.MachineStep.{MachineStep}
use Rattle.packetless_machine.specs.declared.steps.MachineStep.TheVariants as steps
use Rattle.packetless_machine.specs.Machine as machine
use Rattle.packetless_machine.specs.Machine.{Machine, End}
use Rattle.packetless_machine.specs.Legal.{is_enabled}
use Rattle.packetless_machine.specs.Steps.{current, fills, has_current, has_imm, has_unused, is_current_granted, is_misaligned, fits, first_receive, may_add, may_atom, may_dry, may_dry_kind, may_read, may_refuse, may_refuse_for, may_run, may_run_kind, overflows, peer_of, receive_for}
use Rattle.law_simulation.specs.Carries.{due_steps}
use Rattle.law_simulation.proofs.requests.Checks.{Sort, sort_of}

-- one step is due, and it may be made
pub record Picks (m : Machine) (q : ObjName) (bytes : ℕ) (s : MachineStep) : Type 0 where
  pub only : due_steps m q bytes ≡ s ∷ []
  pub enabled : is_enabled m s ≡ true

-- ---- tests

first_false : (a b : Bool) → a ≡ false → (a && b) ≡ false
first_false a b h = rw h refl

last_false : (a b : Bool) → b ≡ false → (a && b) ≡ false
last_false true b h = h
last_false false b h = refl

pub both_true : (a b : Bool) → a ≡ true → b ≡ true → (a && b) ≡ true
both_true a b h i = rw (h, i) refl

first_of_two : (a b : Bool) → (a && b) ≡ true → a ≡ true
first_of_two true b h = refl
first_of_two false b h = absurd (cc)

second_of_two : (a b : Bool) → (a && b) ≡ true → b ≡ true
second_of_two true b h = h
second_of_two false b h = absurd (cc)

write_alone : (k : Kind) → kinds.is_write k ≡ true → k ≡ kinds'.Write
write_alone kinds'.Write h = refl
write_alone kinds'.Send h = absurd (cc)
write_alone kinds'.Read h = absurd (cc)
write_alone kinds'.CompareSwap h = absurd (cc)
write_alone kinds'.FetchAdd h = absurd (cc)

send_alone : (k : Kind) → kinds.is_send k ≡ true → k ≡ kinds'.Send
send_alone kinds'.Send h = refl
send_alone kinds'.Write h = absurd (cc)
send_alone kinds'.Read h = absurd (cc)
send_alone kinds'.CompareSwap h = absurd (cc)
send_alone kinds'.FetchAdd h = absurd (cc)

-- ---- receives

not_fits : (v : Option Receive) (n : ℕ) → overflows v n ≡ true → fits v n ≡ false
unfolding overflows fits
not_fits None n h = refl
not_fits (Some v) n h = grind (arith, nat_tests, leb_tells (suc v.length) n, h)

overflows_more : (v : Option Receive) (n k : ℕ) → n ≤ k → overflows v n ≡ true → overflows v k ≡ true
unfolding overflows
overflows_more None n k l h = absurd (cc)
overflows_more (Some v) n k l h = grind (arith, nat_tests, leb_tells (suc v.length) n, h)

none_unused : (us : List Receive) → nat_lt 0 (length us) ≡ false → us ≡ []
none_unused [] h = refl
none_unused (v ∷ vs) h = absurd (grind (arith, nat_tests, h))

no_receive_for : (x : End) → x.in_use ≡ None → has_unused x ≡ false → receive_for x ≡ None
unfolding receive_for first_receive
no_receive_for x used h = (λ i. first_receive (used i) (none_unused x.unused h i))

-- ---- the rows

module _ (m : Machine) (q : ObjName) (n : ℕ) (current_now : has_current m q ≡ true) where
  abbrev g : End
  g = machine.end_of m q

  abbrev r : Posted
  r = current g

  abbrev k : Kind
  k = kind_of r

  no_run : may_run_kind m q n k ≡ false → may_run m q n ≡ false
  unfolding may_run
  no_run h = last_false (has_current m q) _ (last_false (may_add g n) _ h)

  no_atom : kinds.is_atomic k ≡ false → may_atom m q ≡ false
  unfolding may_atom
  no_atom h = last_false (has_current m q) _ (first_false (kinds.is_atomic k) _ h)

  no_atom_misaligned : is_misaligned r ≡ true → may_atom m q ≡ false
  unfolding may_atom
  no_atom_misaligned h = last_false (has_current m q) _ (last_false (kinds.is_atomic k) _ (first_false (not (is_misaligned r)) _ (ap not h)))

  no_atom_granted : is_current_granted m q ≡ false → may_atom m q ≡ false
  unfolding may_atom
  no_atom_granted h = last_false (has_current m q) _ (last_false (kinds.is_atomic k) _ (last_false (not (is_misaligned r)) _ h))

  no_turn : kinds.is_read k ≡ false → may_read m q ≡ false
  unfolding may_read
  no_turn h = last_false (has_current m q) _ (first_false (kinds.is_read k) _ h)

  no_turn_granted : is_current_granted m q ≡ false → may_read m q ≡ false
  unfolding may_read
  no_turn_granted h = last_false (has_current m q) _ (last_false (kinds.is_read k) _ h)

  -- what may not run at all
  run_of_read : kinds.is_read k ≡ true → may_run_kind m q n k ≡ false
  unfolding may_run_kind
  run_of_read h = by_kind k h
    where
      by_kind : (k : Kind) → kinds.is_read k ≡ true → may_run_kind m q n k ≡ false
      by_kind kinds'.Read h = refl
      by_kind kinds'.Write h = absurd (cc)
      by_kind kinds'.Send h = absurd (cc)
      by_kind kinds'.CompareSwap h = absurd (cc)
      by_kind kinds'.FetchAdd h = absurd (cc)

  run_of_atomic : kinds.is_atomic k ≡ true → may_run_kind m q n k ≡ false
  unfolding may_run_kind
  run_of_atomic h = by_kind k h
    where
      by_kind : (k : Kind) → kinds.is_atomic k ≡ true → may_run_kind m q n k ≡ false
      by_kind kinds'.CompareSwap h = refl
      by_kind kinds'.FetchAdd h = refl
      by_kind kinds'.Read h = absurd (cc)
      by_kind kinds'.Write h = absurd (cc)
      by_kind kinds'.Send h = absurd (cc)

  pub run_of_write : kinds.is_write k ≡ true → may_run_kind m q n k ≡ (is_current_granted m q && (not (fills g n && has_imm r) || has_unused (peer_of m q)))
  unfolding may_run_kind
  run_of_write h = ap (may_run_kind m q n) (write_alone k h)

  pub run_of_send : kinds.is_send k ≡ true → may_run_kind m q n k ≡ fits (receive_for (peer_of m q)) (g.into + n)
  unfolding may_run_kind
  run_of_send h = ap (may_run_kind m q n) (send_alone k h)

  -- ---- a misaligned atomic

  module _ (misaligned : is_misaligned r ≡ true) where
    is_atomic_now : kinds.is_atomic k ≡ true
    is_atomic_now = first_of_two (kinds.is_atomic k) _ misaligned

    not_read_now : kinds.is_read k ≡ false
    not_read_now = by_kind k is_atomic_now
      where
        by_kind : (k : Kind) → kinds.is_atomic k ≡ true → kinds.is_read k ≡ false
        by_kind kinds'.CompareSwap h = refl
        by_kind kinds'.FetchAdd h = refl
        by_kind kinds'.Read h = absurd (cc)
        by_kind kinds'.Write h = absurd (cc)
        by_kind kinds'.Send h = absurd (cc)

    may_refuse_invalid : may_refuse m q whys.Invalid ≡ true
    unfolding may_refuse may_refuse_for
    may_refuse_invalid = both_true (has_current m q) _ current_now misaligned

    pub picks_invalid : Picks m q n (steps.Refuse q whys.Invalid)
    unfolding due_steps
    picks_invalid = record {
      only = rw (no_run (run_of_atomic is_atomic_now), no_atom_misaligned misaligned, no_turn not_read_now, may_refuse_invalid) refl;
      enabled = may_refuse_invalid;
    }

  -- ---- a place that is not granted

  module _ (aligned : is_misaligned r ≡ false) (not_send : kinds.is_send k ≡ false) (not_granted : is_current_granted m q ≡ false) where
    run_not_granted : may_run_kind m q n k ≡ false
    run_not_granted = by_sort (sort_of k)
      where
        by_sort : Sort k → may_run_kind m q n k ≡ false
        by_sort (inl s) = run_of_read s.read
        by_sort (inr (inl s)) = run_of_atomic s.atomic
        by_sort (inr (inr (inl s))) = absurd (cc (s.send, not_send))
        by_sort (inr (inr (inr s))) = run_of_write s.write ∙ first_false (is_current_granted m q) _ not_granted

    not_invalid : may_refuse m q whys.Invalid ≡ false
    unfolding may_refuse may_refuse_for
    not_invalid = last_false (has_current m q) _ aligned

    may_refuse_access : may_refuse m q whys.Access ≡ true
    unfolding may_refuse may_refuse_for
    may_refuse_access = both_true (has_current m q) _ current_now (both_true (not (is_misaligned r)) _ (ap not aligned) (both_true (not (kinds.is_send k)) _ (ap not not_send) (ap not not_granted)))

    pub picks_access : Picks m q n (steps.Refuse q whys.Access)
    unfolding due_steps
    picks_access = record {
      only = rw (no_run run_not_granted, no_atom_granted not_granted, no_turn_granted not_granted, not_invalid, may_refuse_access) refl;
      enabled = may_refuse_access;
    }

  -- ---- a Send

  module _ (send : kinds.is_send k ≡ true) where
    send_not_atomic : kinds.is_atomic k ≡ false
    send_not_atomic = ap kinds.is_atomic (send_alone k send)

    send_not_read : kinds.is_read k ≡ false
    send_not_read = ap kinds.is_read (send_alone k send)

    send_not_invalid : may_refuse m q whys.Invalid ≡ false
    unfolding may_refuse may_refuse_for
    send_not_invalid = last_false (has_current m q) _ (first_false (kinds.is_atomic k) _ send_not_atomic)

    send_not_access : may_refuse m q whys.Access ≡ false
    unfolding may_refuse may_refuse_for
    send_not_access = last_false (has_current m q) _ (last_false (not (is_misaligned r)) _ (first_false (not (kinds.is_send k)) _ (ap not send)))

    -- that is too long
    module _ (within : g.into + n ≤ size_of r) (long : overflows (receive_for (peer_of m q)) (g.into + n) ≡ true) where
      may_refuse_length : may_refuse m q whys.Length ≡ true
      unfolding may_refuse may_refuse_for
      may_refuse_length = both_true (has_current m q) _ current_now (both_true (kinds.is_send k) _ send (overflows_more (receive_for (peer_of m q)) (g.into + n) (size_of r) within long))

      pub picks_length : Picks m q n (steps.Refuse q whys.Length)
      unfolding due_steps
      picks_length = record {
        only = rw (no_run (run_of_send send ∙ not_fits (receive_for (peer_of m q)) (g.into + n) long), no_atom send_not_atomic, no_turn send_not_read, send_not_invalid, send_not_access, may_refuse_length) refl;
        enabled = may_refuse_length;
      }

    -- that finds no receive
    module _ (begins : (g.into == 0) ≡ true) (unused : has_unused (peer_of m q) ≡ false) (not_used : (peer_of m q).in_use ≡ None) where
      nowhere : receive_for (peer_of m q) ≡ None
      nowhere = no_receive_for (peer_of m q) not_used unused

      run_nowhere : may_run_kind m q n k ≡ false
      unfolding fits
      run_nowhere = run_of_send send ∙ ap (λ v. fits v (g.into + n)) nowhere

      not_length : may_refuse m q whys.Length ≡ false
      unfolding may_refuse may_refuse_for overflows
      not_length = last_false (has_current m q) _ (last_false (kinds.is_send k) _ (ap (λ v. overflows v (size_of r)) nowhere))

      send_dries : may_dry m q ≡ true
      unfolding may_dry may_dry_kind
      send_dries = both_true (has_current m q) _ current_now (both_true (not (has_unused (peer_of m q))) _ (ap not unused) (ap (may_dry_kind m q) (send_alone k send) ∙ begins))

      pub picks_dry_send : Picks m q n (steps.Dry q)
      unfolding due_steps
      picks_dry_send = record {
        only = rw (no_run run_nowhere, no_atom send_not_atomic, no_turn send_not_read, send_not_invalid, send_not_access, not_length) refl;
        enabled = send_dries;
      }

  -- ---- a Write with immediate that finds no receive

  module _ (write : kinds.is_write k ≡ true) (granted : is_current_granted m q ≡ true) (ends : (fills g n && has_imm r) ≡ true) (unused : has_unused (peer_of m q) ≡ false) where
    write_not_atomic : kinds.is_atomic k ≡ false
    write_not_atomic = ap kinds.is_atomic (write_alone k write)

    write_not_read : kinds.is_read k ≡ false
    write_not_read = ap kinds.is_read (write_alone k write)

    write_not_send : kinds.is_send k ≡ false
    write_not_send = ap kinds.is_send (write_alone k write)

    write_runs_not : may_run_kind m q n k ≡ false
    write_runs_not = run_of_write write ∙ last_false (is_current_granted m q) _ (λ i. not (ends i) || unused i)

    write_not_invalid : may_refuse m q whys.Invalid ≡ false
    unfolding may_refuse may_refuse_for
    write_not_invalid = last_false (has_current m q) _ (first_false (kinds.is_atomic k) _ write_not_atomic)

    write_not_access : may_refuse m q whys.Access ≡ false
    unfolding may_refuse may_refuse_for
    write_not_access = last_false (has_current m q) _ (last_false (not (is_misaligned r)) _ (last_false (not (kinds.is_send k)) _ (ap not granted)))

    write_not_length : may_refuse m q whys.Length ≡ false
    unfolding may_refuse may_refuse_for
    write_not_length = last_false (has_current m q) _ (first_false (kinds.is_send k) _ write_not_send)

    write_dries : may_dry m q ≡ true
    unfolding may_dry may_dry_kind
    write_dries = both_true (has_current m q) _ current_now (both_true (not (has_unused (peer_of m q))) _ (ap not unused) (ap (may_dry_kind m q) (write_alone k write) ∙ both_true (has_imm r) _ (second_of_two (fills g n) _ ends) granted))

    pub picks_dry_write : Picks m q n (steps.Dry q)
    unfolding due_steps
    picks_dry_write = record {
      only = rw (no_run write_runs_not, no_atom write_not_atomic, no_turn write_not_read, write_not_invalid, write_not_access, write_not_length) refl;
      enabled = write_dries;
    }
