use Rattle.std.proofs.Common.{◌++◌, [], ◌∷◌}
use Rattle.script_lang.proofs.Writing.{ok_after_pair, err_after}
use Rattle.script_lang.proofs.print.put_object.Goals as goal

pub returns-clause-ok : goal.returns-clause-ok
returns-clause-ok c =
    rw (← c.as_bytes.ensures.bytes, ← c.as_bytes-2.ensures.bytes)
    (ok_after_pair c.put.result c.args.out.now.items c.as_bytes.result.now (46 ∷ []) c.put_pair.new.out.items c.as_bytes-2.result.now c.put.new.out.items
    c.in_ok-put_pair.ensures.ok c.put.ensures.ok)

pub returns-clause-err : goal.returns-clause-err
returns-clause-err c =
    err_after c.put.result c.args.out.now.items (c.as_bytes.result.now ++ (46 ∷ [])) c.put_pair.new.out.items c.put.new.out.items
    c.in_ok-put_pair.ensures.ok c.put.ensures.err
