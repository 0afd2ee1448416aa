-- The completions with a status that each step of the machine adds, counted.
use Rattle.std.proofs.Common.{arith, ◌≡◌, ◌+◌, ◌≤◌, ℕ, zero, suc, List, [], ◌∷◌, ◌++◌, drop, false, Bool, refl, inl, inr}
use Rattle.std.specs.Prelude.{All, if◌then◌else◌}
use Rattle.std.proofs.lemmas.List.Elements.{All-head, All-tail}
use Rattle.std.proofs.lemmas.List.Sums.{sum_by-append}
use Rattle.rdma_types.specs.declared.requests.Completion.{Completion}
use Rattle.rdma_types.specs.declared.requests.WcStatus.{WcStatus}
use Rattle.rdma_types.specs.declared.requests.WcStatus.TheVariants as statuses
use Rattle.packetless_machine.specs.declared.steps.MachineStep.{MachineStep}
use Rattle.packetless_machine.specs.Machine.{Machine}
use Rattle.law_simulation.specs.Spent.{IsLastExpiry, IsLastWait}
use Rattle.law_simulation.proofs.relation.Tables.{count_by-cons}
use Rattle.law_simulation.proofs.runs.Adding.{Admits, IsUsualUnless, step_new}
use Rattle.law_machine_runs.specs.Counted.{GrowsOnlyBy, count_in, is_retry_exceeded, is_rnr_exceeded}

module _ (test : WcStatus → Bool) where
  pub count_cons : (y : Completion) (ys : List Completion) → count_in test (y ∷ ys) ≡ (if test y.status then 1 else 0) + count_in test ys
  count_cons y ys = count_by-cons (λ x. test x.status) y ys

  pub count_both : (xs ys : List Completion) → count_in test (xs ++ ys) ≡ count_in test xs + count_in test ys
  count_both xs ys = sum_by-append (λ x. if test x.status then 1 else 0) xs ys

  count_drop : (n : ℕ) (xs : List Completion) → count_in test (drop n xs) ≤ count_in test xs
  count_drop zero xs = omega arith
  count_drop (suc n) [] = omega arith
  count_drop (suc n) (y ∷ ys) = omega (arith, count_drop n ys, count_cons y ys)

  abbrev IsUsual : WcStatus → Type 0
  IsUsual status = test status ≡ false

  pub count_none : (xs : List Completion) → All (λ x. IsUsual x.status) xs → count_in test xs ≡ 0
  count_none [] h = refl
  count_none (y ∷ ys) h =
      let here : test y.status ≡ false = All-head (λ x. IsUsual x.status) y ys h in
      let rest = count_none ys (All-tail (λ x. IsUsual x.status) y ys h) in
      rw (count_cons y ys, here) (omega (arith, rest))

  -- a queue has no more of them than it had
  record HasNoMore (old new : List Completion) : Type 0 where
    few : count_in test new ≤ count_in test old

  module _ (success : IsUsual statuses.Success) (flush : IsUsual statuses.Flush) (length : IsUsual statuses.LocalLength) (invalid : IsUsual statuses.RemoteInvalid) (access : IsUsual statuses.RemoteAccess) where
    admits : Admits HasNoMore IsUsual
    admits = record {
      same = λ xs. record { few = omega arith };
      turn = λ a b c first second. record { few = omega (arith, first.few, second.few) };
      more = λ old more usual. record { few = omega (arith, count_none more usual, count_both old more) };
      polled = λ n xs. record { few = count_drop n xs };
      success = success;
      flush = flush;
      length = length;
      invalid = invalid;
      access = access;
    }

    grows_only : (IsLast : Machine → MachineStep → Type 0) → IsUsualUnless (IsUsual statuses.RetryExceeded) IsLastExpiry IsLast → IsUsualUnless (IsUsual statuses.RnrExceeded) IsLastWait IsLast → GrowsOnlyBy test IsLast
    grows_only IsLast expiring waiting m s c k = elim (step_new HasNoMore IsUsual admits IsLast expiring waiting m s) [ inl new ↦ inl (new c k).few | inr last ↦ inr last ]

pub expiries_only : GrowsOnlyBy is_retry_exceeded IsLastExpiry
expiries_only = grows_only is_retry_exceeded refl refl refl refl refl IsLastExpiry (λ m s last. inr last) (λ m s last. inl refl)

pub waits_only : GrowsOnlyBy is_rnr_exceeded IsLastWait
waits_only = grows_only is_rnr_exceeded refl refl refl refl refl IsLastWait (λ m s last. inl refl) (λ m s last. inr last)
