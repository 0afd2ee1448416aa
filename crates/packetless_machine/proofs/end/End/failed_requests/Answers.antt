use Rattle.std.proofs.Common.{arith, ◌≡◌, ◌<◌, ◌+◌, ℕ, List, ◌∷◌, length, drop, get_or, refl, ◌∙◌, append_assoc}
use Rattle.std.proofs.lemmas.List.{at_drop_more}
use Rattle.rdma_types.specs.Objects.{Posted}
use Rattle.rdma_types.specs.Kinds.{request_done}
use Rattle.rdma_types.specs.declared.requests.WcStatus.{WcStatus}
use Rattle.rdma_types.specs.declared.requests.WcStatus.TheVariants.{Flush}
use Rattle.packetless_machine.specs.Steps.{failed_requests}
use Rattle.packetless_machine.proofs.end.End.failed_requests.Goals as goal

one_more : (number : ℕ) (status : WcStatus) (xs : List Posted) (k : ℕ) (r : Posted) → k < length xs → r ≡ get_or xs k r → failed_requests number status (drop k xs) ≡ request_done number r status 0 ∷ failed_requests number Flush (drop (k + 1) xs)
unfolding failed_requests
one_more number status xs k r h read = at_drop_more (failed_requests number status) xs k r h ∙ rw (← read) refl

pub loop-r-preserved : goal.loop-r-preserved
loop-r-preserved c = grind (arith, one_more, append_assoc)
