-- What faults tell, and why an entry may not come next.
use Rattle.std.proofs.Common.{◌≡◌, ◌≢◌, ◌+◌, ℕ, IfErr, IsErrAnd, List, Ok, Err, Result, length, sym, subst}
use Rattle.rdma_types.specs.declared.requests.Address.{Address}
use Rattle.protocol.specs.State.{Flight}
use Rattle.order_rules.specs.declared.OrderEntry.{OrderEntry}
use Rattle.order_rules.specs.declared.Receipt.{Receipt}
use Rattle.order_rules.specs.Order.{HasArrived}
use Rattle.shared_device.specs.Books.{BookView}
use Rattle.run_check.specs.declared.run.RunFault.{RunFault}
use Rattle.run_check.specs.declared.run.RunFault.TheVariants.{Disagree, OutOfMemory}
use Rattle.run_check.specs.declared.stops.StopAt.{StopAt}
use Rattle.run_check.specs.Checks.{CannotTake, HasNoBook, HasNoHead, IsDue, IsHead, IsNamed, IsNotMetAt}
use Rattle.run_check.specs.Gathered.{Tells}

-- a fault tells more, where less is refused
pub tells_more : {A B : Type 0} (f : RunFault) → (B → A) → Tells (A → ⊥) f → Tells (B → ⊥) f
tells_more (Disagree place left right) from told = (told.0, λ b. told.1 (from b))
tells_more OutOfMemory from told = tt

pub tells_so : {A B : Type 0} (f : RunFault) → (A → B) → Tells A f → Tells B f
tells_so (Disagree place left right) from told = (told.0, from told.1)
tells_so OutOfMemory from told = tt

-- the fault is handed on
pub told_on : {T : Type 0} (Why : Type 0) (r : Result T RunFault) (f : RunFault) → IsErrAnd r (λ e. e ≡ f) → Tells Why f → IfErr r (Tells Why)
told_on Why (Ok x) f is told = tt
told_on Why (Err e) f is told = subst (Tells Why) (sym is) told

-- what one tells of is not there
pub tells_missing : (Why : Type 0) (f : RunFault) (place : ℕ) → f ≡ Disagree place 1 0 → Why → Tells Why f
tells_missing Why f place is why = subst (Tells Why) (sym is) ((λ e. cc), why)

module _ (books : List BookView) (receipts : List (List Receipt)) (e : OrderEntry) (ps hs : List ℕ) (fs : List Flight) (ss : List StopAt) where
  abbrev pub IsUndue : Type 0
  IsUndue = IsDue books receipts e ps hs fs ss → ⊥

  pub no_book_undue : (f : RunFault) (place : ℕ) → f ≡ Disagree place 1 0 → HasNoBook books e.device → Tells IsUndue f
  no_book_undue f place is none = tells_missing IsUndue f place is (λ due. due.has_book none)

  pub no_head_undue : (f : RunFault) → Tells (Unit {0}) f → HasNoHead receipts hs e → Tells IsUndue f
  no_head_undue f told none = tells_so f (λ _ due. due.has_head none) told

  module _ (worker head : ℕ) (r : Receipt) (is : IsHead receipts hs e worker head r) where
    pub worker_undue : (f : RunFault) → Tells (r.worker ≢ worker) f → Tells IsUndue f
    worker_undue f told = tells_so f (λ other due. other (due.receipt worker head r is).is_worker) told

    pub first_undue : (f : RunFault) → Tells (e.first ≢ length fs + 1) f → Tells IsUndue f
    first_undue f told = tells_so f (λ other due. other (due.receipt worker head r is).first) told

    pub count_undue : (f : RunFault) → Tells (e.count ≢ length r.outcome.sent) f → Tells IsUndue f
    count_undue f told = tells_so f (λ other due. other (due.receipt worker head r is).count) told

    pub arrival_undue : (f : RunFault) (place i : ℕ) (address : Address) → f ≡ Disagree place 1 0 → IsNamed books e.device i address → (HasArrived fs address r.event → ⊥) → Tells IsUndue f
    arrival_undue f place i address same named never = tells_missing IsUndue f place same (λ due. never ((due.receipt worker head r is).arrived i address named))

    pub stop_undue : (f : RunFault) (place : ℕ) → f ≡ Disagree place 1 0 → CannotTake receipts ss r.event → Tells IsUndue f
    stop_undue f place same none = tells_missing IsUndue f place same (λ due. (let t = (due.receipt worker head r is).taken in none t.0 t.1))

    pub step_undue : (f : RunFault) (i : ℕ) (address : Address) → IsNamed books e.device i address → Tells (IsNotMetAt books ps i r) f → Tells IsUndue f
    step_undue f i address named told = tells_so f (λ not due. (let m = (due.receipt worker head r is).met i address named in not m.0 m.1)) told
