use Rattle.workload_gen.specs.Plan.{transfer_lines}
use Rattle.workload_gen.proofs.Growth.{three_put}
use Rattle.workload_gen.proofs.schedule.put_transfer.Goals as goal

pub returns : goal.returns
unfolding transfer_lines
returns c =
    three_put c.put.result c.args.out.now.items c.put_number.new.out.items c.put_number-2.new.out.items c.put.new.out.items _ _ _
    c.in_ok-put_number.ensures c.in_ok-put_number-2.ensures c.put.ensures
