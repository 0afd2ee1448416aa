use Rattle.std.proofs.Common.{arith, ◌≡◌, ℕ, get_or, slice_get, Some, ◌∙◌}
use Rattle.std.proofs.lemmas.Option.{slice_get-get_or, slice_get_within}
use Rattle.order_rules.specs.declared.Receipt.{Receipt}
use Rattle.run_check.specs.Checks.{IsHead}
use Rattle.run_check.proofs.Finders.{none_left, none_where, other_head, worker_more}
use Rattle.run_check.proofs.checks.find_head.Goals.{in-Some+else-device-entry, else-device-entry-via-then-device-entry+else-place-entry, else-device-entry-via-else-device-entry, in_default}
use Rattle.run_check.proofs.checks.find_head.Goals as goal

pub loop-worker-preserved : goal.loop-worker-preserved
loop-worker-preserved c =
    let place : ℕ = get_or c.args.heads.now c.loop-worker.worker 0 in
    let at : slice_get c.args.heads.now c.loop-worker.worker ≡ Some place = slice_get-get_or c.args.heads.now c.loop-worker.worker 0 c.loop-worker-test.true in
    let here : (head : ℕ) (r : Receipt) → IsHead c.args.receipts.now c.args.heads.now c.args.entry.now c.loop-worker.worker head r → ⊥ = elim c.match-receipt_at.branch [
      | in-Some+else-device-entry w ↦ (
          let other : w.in-Some.receipt.now.device ≡ c.args.entry.now.device → w.in-Some.receipt.now.place ≡ c.args.entry.now.place → ⊥ = elim w.else-device-entry.branch [
            | else-device-entry-via-then-device-entry+else-place-entry v ↦ (λ device same. v.if-place-entry.false (v.place.ensures ∙ same))
            | else-device-entry-via-else-device-entry v ↦ (λ device same. v.if-device-entry.false (w.device.ensures ∙ device))
          ] in
          other_head c.args.receipts.now c.args.heads.now c.args.entry.now c.loop-worker.worker place at w.in-Some.receipt.now w.in-Some.ensures.some other)
      | in_default w ↦ none_left c.args.receipts.now c.args.heads.now c.args.entry.now c.loop-worker.worker place at (c.receipt_at.ensures.none (none_where c.receipt_at.result w.in_default.not-Some))
    ] in
    worker_more c.args.receipts.now c.args.heads.now c.args.entry.now c.loop-worker.worker c.loop-worker.invariant here

pub returns-clause-none : goal.returns-clause-none
returns-clause-none c = λ _ w head r is. (let low = slice_get_within c.args.heads.now w head is.1 in c.loop-worker.invariant w head r (omega arith) is)
