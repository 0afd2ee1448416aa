use Rattle.std.proofs.Common.{◌++◌, [], ◌∷◌}
use Rattle.script_lang.proofs.Writing.{ok_after_pair, err_after}
use Rattle.script_lang.proofs.print.put_told.Goals as goal

pub returns-clause-ok : goal.returns-clause-ok
returns-clause-ok c =
    ok_after_pair c.put.result c.args.out.now.items c.args.word.now c.args.what.now c.put_pair.new.out.items (10 ∷ []) c.put.new.out.items
    c.in_ok-put_pair.ensures.ok c.put.ensures.ok

pub returns-clause-err : goal.returns-clause-err
returns-clause-err c =
    err_after c.put.result c.args.out.now.items (c.args.word.now ++ c.args.what.now) c.put_pair.new.out.items c.put.new.out.items
    c.in_ok-put_pair.ensures.ok c.put.ensures.err
