use Rattle.workload_gen.proofs.Growth.{three_put}
use Rattle.workload_gen.proofs.opening.put_connect.Goals as goal

pub returns : goal.returns
returns c =
    three_put c.put_terms.result c.args.out.now.items c.put_number.new.out.items c.put_number-2.new.out.items c.put_terms.new.out.items _ _ _
    c.in_ok-put_number.ensures c.in_ok-put_number-2.ensures c.put_terms.ensures
