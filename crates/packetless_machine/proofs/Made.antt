-- What a made step says, clause by clause.
use Rattle.std.proofs.Common.{◌≡◌, Bool, true, false, Result, Ok, Err}
use Rattle.std.specs.Prelude.{◌↔◌, refl, OnOk, OnErr, IfOk}
use Rattle.rdma_types.specs.declared.answers.Answer.{Answer}
use Rattle.packetless_machine.specs.declared.steps.IdealFault.{IdealFault}
use Rattle.packetless_machine.specs.declared.steps.IdealFault.TheVariants.{NotEnabled, OutOfMemory}
use Rattle.packetless_machine.specs.Machine.{Machine}
use Rattle.packetless_machine.specs.Made.{Makes}

module _ (old new : Machine) (may : Bool) (next : Machine) (said : Answer) where
  pub made_enabled : (r : Result Answer IdealFault) → Makes old new may next said r → OnOk r (may ≡ true)
  made_enabled (Ok a) h = h.0
  made_enabled (Err e) h = tt

  pub made_next : (r : Result Answer IdealFault) → Makes old new may next said r → OnOk r (new ≡ next)
  made_next (Ok a) h = h.1
  made_next (Err e) h = tt

  pub made_answer : (r : Result Answer IdealFault) → Makes old new may next said r → IfOk r (λ a. a ≡ said)
  made_answer (Ok a) h = h.2
  made_answer (Err e) h = tt

  pub made_not_enabled : (r : Result Answer IdealFault) → Makes old new may next said r → (r ≡ Err NotEnabled) ↔ (may ≡ false)
  made_not_enabled (Ok a) h = (λ wrong. absurd cc, λ no. let yes : may ≡ true = h.0 in absurd cc)
  made_not_enabled (Err NotEnabled) h = (λ _. h.0, λ _. refl)
  made_not_enabled (Err OutOfMemory) h = (λ wrong. absurd cc, λ no. let yes : may ≡ true = h.0 in absurd cc)

  pub made_unchanged : (r : Result Answer IdealFault) → Makes old new may next said r → OnErr r (new ≡ old)
  made_unchanged (Ok a) h = tt
  made_unchanged (Err NotEnabled) h = h.1
  made_unchanged (Err OutOfMemory) h = h.1
