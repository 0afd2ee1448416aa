-- What is known of completions that were handed out.
use Rattle.std.proofs.Common.{arith, ◌≡◌, true, false, true≢false, List, [], length, slice_get, Some, sym, subst, ◌∙◌}
use Rattle.std.specs.Prelude.{max}
use Rattle.rdma_types.specs.declared.requests.Completion.{Completion}
use Rattle.order_rules.specs.declared.Receipt.{Receipt}
use Rattle.run_check.specs.Gathered.{drained_by}
use Rattle.thread_plan.specs.declared.plan.ThreadPlan.{ThreadPlan}
use Rattle.thread_plan.specs.Planned.{IsPlan, IsPlanned}
use Rattle.completion_fanout.specs.declared.entry.FanEntry.{FanEntry}
use Rattle.completion_fanout.specs.Fanned.{IsDealt, IsFanned}
use Rattle.completion_fanout.specs.declared.plan.FanPlan.{FanPlan}
use Rattle.completion_fanout.specs.declared.running.FannedRun.{FannedRun}
use Rattle.completion_fanout.proofs.DealtInTurn.{dealt_is_fanned}
use Rattle.completion_fanout.specs.HandedOut.{IsFanPlan, IsFannedRun, IsHandedOut, drainer, one_worker}

pub handed_out : (plan : FanPlan) (receipts : List (List Receipt)) (held : List Receipt) (drained : List Completion) (taken : List (List FanEntry)) (left : List FanEntry)
    → slice_get receipts 2 ≡ Some held → length drained ≡ plan.adds → drained ≡ drained_by held → length taken ≡ plan.consumers → IsFanned drained taken left → left ≡ []
    → IsHandedOut plan receipts drained taken left
handed_out plan receipts held drained taken left at all is lists fanned none = record {
  is_drained = record { held = held; drainer_held = at; drained_is = is; all = all };
  consumers = lists;
  fanned = fanned;
  none_left = none;
}

pub is_plan : (plan : FanPlan) (worker : ThreadPlan) → IsFanPlan plan → worker ≡ one_worker plan → IsPlan worker
is_plan plan worker is same = subst IsPlan (sym same) (record { some_workers = omega arith; workers = omega arith; some_adds = is.some_adds; adds = is.adds; moves = omega arith })

pub by_threads : (plan : FanPlan) (worker : ThreadPlan) (f : FannedRun) (receipts : List (List Receipt))
    → worker ≡ one_worker plan → IsPlanned worker 2 false f.run → f.run.receipts ≡ receipts → IsHandedOut plan receipts f.drained f.taken f.left
    → IsFannedRun plan f
by_threads plan worker f receipts is planned same handed = record {
  planned = subst (λ b. IsPlanned (one_worker plan) drainer b f.run) (sym planned.whose) (subst (λ w. IsPlanned w 2 false f.run) is planned);
  handed = subst (λ rs. IsHandedOut plan rs f.drained f.taken f.left) (sym same) handed;
  by_caller = λ t. absurd (true≢false (sym t ∙ planned.whose));
}

pub by_caller : (plan : FanPlan) (worker : ThreadPlan) (f : FannedRun) (held : List Receipt)
    → IsFanPlan plan → worker ≡ one_worker plan → IsPlanned worker (max worker.workers 2) true f.run → slice_get f.run.receipts 2 ≡ Some held
    → f.drained ≡ drained_by held → length f.drained ≡ plan.adds → IsDealt plan.consumers f.drained f.taken → f.left ≡ []
    → IsFannedRun plan f
by_caller plan worker f held is_fan is planned at told all dealt none =
    let fanned : IsFanned f.drained f.taken [] = dealt_is_fanned plan.consumers f.drained f.taken (omega (arith, is_fan.some_consumers)) dealt in
    record {
      planned = subst (λ b. IsPlanned (one_worker plan) drainer b f.run) (sym planned.whose) (subst (λ w. IsPlanned w (max w.workers 2) true f.run) is planned);
      handed = handed_out plan f.run.receipts held f.drained f.taken f.left at all told dealt.lists (subst (λ l. IsFanned f.drained f.taken l) (sym none) fanned) none;
      by_caller = λ _. dealt;
    }
