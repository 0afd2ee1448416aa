-- The one who puts, in a thread or run by the caller (this project's choice).
use Rattle.std.specs.Prelude.{◌≡◌, List}
use Rattle.rdma_types.specs.declared.requests.Completion.{Completion}
use Rattle.completion_fanout.specs.declared.feeding.Feeding.{Feeding}
use Rattle.completion_fanout.specs.declared.feeding.Feeding.TheVariants.{There, Here}
use Rattle.completion_fanout.specs.Served.{IsFed, Queue}

-- a thread was started that puts into this queue, or the caller has put into it, until the source had ended
abbrev pub IsFeeding : {S : Type 0} → (S → List Completion) → (S → Type 0) → Queue → Feeding S → Type 0
IsFeeding given ended queue (There handle) = handle.promise.0.now ≡ queue
IsFeeding given ended queue (Here fed) = IsFed queue fed.pass (given fed.source) × ended fed.source
