use Rattle.std.proofs.Common.{◌∙◌, ap, arith}
use Rattle.rdma_types.specs.Memory.{put}
use Rattle.byte_run.proofs.Runs.{put_mid-put}
use Rattle.byte_run.proofs.run.put_alone.Goals as goal

pub returns-in-Some-clause-done : goal.returns-in-Some-clause-done
returns-in-Some-clause-done c = put_mid-put _ _ c.args.bytes.now c.args.from _ c.copy_from_slice.ensures.after (omega arith) ∙ ap (λ page. put page c.args.from c.args.bytes.now) c.in-Some.ensures.value
