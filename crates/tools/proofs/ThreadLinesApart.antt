-- Words of `threads` are not those of `fanout`.
use Rattle.std.proofs.Common.{◌≡◌, ℕ, Bool, true, false, List, [], ◌∷◌, Option, Some, None, refl}
use Rattle.std.specs.Prelude.{bytes_eq, codes, if◌then◌else◌}
use Rattle.std.proofs.lemmas.Slice.Eq.{bytes_eq-Decides}
use Rattle.thread_plan.specs.declared.plan.ThreadPlan.{ThreadPlan}
use Rattle.completion_fanout.specs.declared.plan.FanPlan.{FanPlan}
use Rattle.tools.specs.Fanout.{fanout_of}
use Rattle.tools.specs.Threads.{threads_of}

other_word : (word : List ℕ) (b : Bool) (one : Option ThreadPlan) (plan : ThreadPlan) (other : Option FanPlan) → bytes_eq word (codes "threads") ≡ b → (if b then one else None) ≡ Some plan → (if bytes_eq word (codes "fanout") then other else None) ≡ None
other_word word false one plan other is some = absurd cc
other_word word true one plan other is some = rw ((bytes_eq-Decides word (codes "threads")).0 is) refl

pub no_fanout : (words : List (List ℕ)) (plan : ThreadPlan) → threads_of words ≡ Some plan → fanout_of words ≡ None
no_fanout [] plan is = refl
no_fanout (w ∷ []) plan is = refl
no_fanout (w ∷ a ∷ []) plan is = refl
no_fanout (w ∷ a ∷ b ∷ []) plan is = refl
no_fanout (w ∷ a ∷ b ∷ c ∷ []) plan is = other_word w (bytes_eq w (codes "threads")) _ plan _ refl is
no_fanout (w ∷ a ∷ b ∷ c ∷ d ∷ more) plan is = refl
