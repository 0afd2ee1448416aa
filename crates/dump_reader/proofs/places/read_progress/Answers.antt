use Rattle.std.proofs.Common.{◌≡◌, false, arith, refl}
use Rattle.std.specs.Prelude.{◌==◌}
use Rattle.std.proofs.lemmas.Bool.Decides.{nat_tests}
use Rattle.protocol.specs.Dumps.{progress_by}
use Rattle.dump_reader.proofs.Latched.{given, at_send, at_write}
use Rattle.dump_reader.proofs.places.read_progress.Goals as goal

pub returns-in-1 : goal.returns-in-1
returns-in-1 c = at_send _ _ _ _ (omega arith) c.read_send.ensures

pub returns-in-2 : goal.returns-in-2
returns-in-2 c = at_write _ _ _ _ (omega arith) c.read_write.ensures

pub returns-in_default : goal.returns-in_default
unfolding progress_by
returns-in_default c =
    let not_send : (c.args.code == 1) ≡ false = grind (arith, nat_tests) in
    let not_write : (c.args.code == 2) ≡ false = grind (arith, nat_tests) in
    rw (not_send, not_write) (given refl)
