-- The expected request: its step, and what follows it.
use Rattle.std.proofs.Common.{◌≡◌, ℕ, Bool, true, false, List, [], ◌∷◌, ◌++◌, refl, if◌then◌else◌}
use Rattle.rdma_types.specs.declared.answers.RefusalReason.TheVariants as whys
use Rattle.rdma_types.specs.declared.names.ObjName.{ObjName}
use Rattle.packetless_machine.specs.declared.steps.MachineStep.{MachineStep}
use Rattle.packetless_machine.specs.declared.steps.MachineStep.TheVariants as steps
use Rattle.packetless_machine.specs.Machine.{Machine, end_of}
use Rattle.packetless_machine.specs.Steps.{may_atom, may_read, may_refuse, may_run}
use Rattle.law_simulation.specs.Carries.{due_steps, offers_of}
use Rattle.trace_record.specs.Steps.{due_step, is_turn, turn_offers}

pub due_split : (m : Machine) (q : ObjName) (n : ℕ) → due_steps m q n ≡ due_step m q n ∷ turn_offers m q (is_turn (due_step m q n))
unfolding due_steps due_step
due_split m q n = by (may_run m q n) (may_atom m q) (may_read m q) (may_refuse m q whys.Invalid) (may_refuse m q whys.Access) (may_refuse m q whys.Length)
  where
    by : (run atom read invalid access length : Bool) →
        (if run
        then steps.Run q n ∷ []
        else if atom
        then steps.Atom q ∷ []
        else if read
        then steps.ReadTurn q ∷ offers_of q (end_of m q) (end_of m q).acted 0
        else if invalid
        then steps.Refuse q whys.Invalid ∷ []
        else if access
        then steps.Refuse q whys.Access ∷ []
        else if length
        then steps.Refuse q whys.Length ∷ []
        else steps.Dry q ∷ [])
        ≡ (if run then steps.Run q n else if atom then steps.Atom q else if read then steps.ReadTurn q else if invalid then steps.Refuse q whys.Invalid else if access then steps.Refuse q whys.Access else if length then steps.Refuse q whys.Length else steps.Dry q)
        ∷ turn_offers m q (is_turn (if run then steps.Run q n else if atom then steps.Atom q else if read then steps.ReadTurn q else if invalid then steps.Refuse q whys.Invalid else if access then steps.Refuse q whys.Access else if length then steps.Refuse q whys.Length else steps.Dry q))
    by true atom read invalid access length = refl
    by false true read invalid access length = refl
    by false false true invalid access length = refl
    by false false false true access length = refl
    by false false false false true length = refl
    by false false false false false true = refl
    by false false false false false false = refl
