-- The cases of atomics, as they are promised.
use Rattle.std.proofs.Common.{◌≡◌, ◌<◌, true, subst, sym, ◌∙◌}
use Rattle.std.specs.Prelude.{Some}
use Rattle.rdma_types.specs.Kinds.{is_atomic, kind_of}
use Rattle.law_simulation.specs.Taken.{AreTakenWhere, asked}
use Rattle.law_simulation.proofs.requests.Requests.{request_at_end}
use Rattle.law_simulation.proofs.requests.Cases.{number_is}
use Rattle.law_simulation.specs.Atomics.{IsAtomTurn, IsAtomicRepeat}
use Rattle.law_simulation.proofs.atomics.AtomTurns.{atom_taken}
use Rattle.law_simulation.proofs.atomics.AtomRepeats.{repeat_taken}

pub are_atomic_repeats : AreTakenWhere IsAtomicRepeat
are_atomic_repeats w m o l n bytes d a is h =
    let same : n ≡ (request_at_end w m o l (Some n) bytes d a is).0 = number_is w m o l n bytes d a is in
    repeat_taken w m o l (Some n) bytes d a is h.0.0
    (subst (λ k. is_atomic (kind_of (asked m o k)) ≡ true) same h.1)
    (subst (λ k. k < l.receiver.expected) same h.0.1)

pub are_atom_turns : AreTakenWhere IsAtomTurn
are_atom_turns w m o l n bytes d a is h = atom_taken w m o l (Some n) bytes d a is h.0.0 (sym (number_is w m o l n bytes d a is) ∙ h.0.1) h.1
