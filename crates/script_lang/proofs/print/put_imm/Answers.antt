use Rattle.script_lang.specs.Printed.{imm_words}
use Rattle.script_lang.proofs.print.put_imm.Goals as goal

pub returns-in-None-clause-ok : goal.returns-in-None-clause-ok
unfolding imm_words
returns-in-None-clause-ok c = rw c.in-None.is c.put.ensures.ok
