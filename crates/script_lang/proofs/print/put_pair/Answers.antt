use Rattle.script_lang.proofs.Writing.{ok_after, err_after}
use Rattle.script_lang.proofs.print.put_pair.Goals as goal

pub returns-clause-ok : goal.returns-clause-ok
returns-clause-ok c =
    ok_after c.put-2.result c.args.out.now.items c.args.first.now c.put.new.out.items c.args.second.now c.put-2.new.out.items
    c.in_ok-put.ensures.ok c.put-2.ensures.ok

pub returns-clause-err : goal.returns-clause-err
returns-clause-err c =
    err_after c.put-2.result c.args.out.now.items c.args.first.now c.put.new.out.items c.put-2.new.out.items c.in_ok-put.ensures.ok c.put-2.ensures.err
