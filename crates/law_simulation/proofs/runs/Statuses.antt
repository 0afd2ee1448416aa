-- The completions that each step of the machine adds, by their statuses.
use Rattle.std.proofs.Common.{◌≢◌, ℕ, zero, suc, List, [], ◌∷◌, drop, inl, inr}
use Rattle.std.specs.Prelude.{◌⊎◌, Contains}
use Rattle.std.proofs.lemmas.List.Elements.{All-contains, Contains-append_cases}
use Rattle.rdma_types.specs.declared.requests.Completion.{Completion}
use Rattle.rdma_types.specs.declared.requests.WcStatus.{WcStatus}
use Rattle.rdma_types.specs.declared.requests.WcStatus.TheVariants as statuses
use Rattle.packetless_machine.specs.declared.steps.MachineStep.{MachineStep}
use Rattle.packetless_machine.specs.Machine.{Machine}
use Rattle.law_simulation.proofs.relation.Grants.{contains_later}
use Rattle.law_simulation.proofs.runs.Adding.{Admits, IsUsualUnless, step_new}
use Rattle.law_simulation.specs.Spent.{ComesOnlyBy, IsLastExpiry, IsLastWait}

drop_contains : (n : ℕ) (xs : List Completion) (x : Completion) → Contains (drop n xs) x → Contains xs x
drop_contains zero xs x h = h
drop_contains (suc n) [] x h = h
drop_contains (suc n) (y ∷ ys) x h = contains_later x y ys (drop_contains n ys x h)

module _ (st : WcStatus) (success : statuses.Success ≢ st) (flush : statuses.Flush ≢ st) (length : statuses.LocalLength ≢ st) (invalid : statuses.RemoteInvalid ≢ st) (access : statuses.RemoteAccess ≢ st) where
  -- a completion was there before, or has another status
  abbrev New : List Completion → List Completion → Type 0
  New old new = (x : Completion) → Contains new x → Contains old x ⊎ (x.status ≢ st)

  admits : Admits New (λ status. status ≢ st)
  admits = record {
    same = λ xs x h. inl h;
    turn = λ a b c first second x h. elim (second x h) [ inl g ↦ first x g | inr g ↦ inr g ];
    more = λ old more usual x h. elim (Contains-append_cases old more x h) [ inl g ↦ inl g | inr g ↦ inr (All-contains (λ y. y.status ≢ st) more x usual g) ];
    polled = λ n xs x h. inl (drop_contains n xs x h);
    success = success;
    flush = flush;
    length = length;
    invalid = invalid;
    access = access;
  }

  comes_only : (IsLast : Machine → MachineStep → Type 0) → IsUsualUnless (statuses.RetryExceeded ≢ st) IsLastExpiry IsLast → IsUsualUnless (statuses.RnrExceeded ≢ st) IsLastWait IsLast → ComesOnlyBy st IsLast
  comes_only IsLast expiring waiting m s c k x h = elim (step_new New (λ status. status ≢ st) admits IsLast expiring waiting m s) [
    | inl new ↦ elim (new c k x h) [ inl g ↦ inl g | inr g ↦ inr (inl g) ]
    | inr last ↦ inr (inr last)
  ]

pub expiries_only : ComesOnlyBy statuses.RetryExceeded IsLastExpiry
expiries_only =
    comes_only statuses.RetryExceeded (λ h. absurd (cc)) (λ h. absurd (cc)) (λ h. absurd (cc)) (λ h. absurd (cc)) (λ h. absurd (cc)) IsLastExpiry (λ m s last. inr last)
    (λ m s last. inl (λ h. absurd (cc)))

pub waits_only : ComesOnlyBy statuses.RnrExceeded IsLastWait
waits_only =
    comes_only statuses.RnrExceeded (λ h. absurd (cc)) (λ h. absurd (cc)) (λ h. absurd (cc)) (λ h. absurd (cc)) (λ h. absurd (cc)) IsLastWait
    (λ m s last. inl (λ h. absurd (cc)))
    (λ m s last. inr last)
